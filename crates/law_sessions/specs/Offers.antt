-- Keys that are offered to a node with a frame, and drawn by the answer or not.
use Rattle.std.specs.Prelude.{◌≡◌, List, [], ◌∷◌, Some, ⊤}
use Rattle.zb_model.specs.Data.{Bytes, Move, Draw, NoDraw}
use Rattle.zb_model.specs.Rules.{Outcome, Stop, Does, unless_held}
use Rattle.zb_model.specs.State.{NodeState}

-- no key is drawn
abbrev pub DrawsNone : List Move → Type 0
DrawsNone [] = ⊤
DrawsNone (Draw key ∷ moves) = ⊥
DrawsNone (move ∷ moves) = DrawsNone moves

-- An outcome neither draws a key nor is refused because there is none.
abbrev pub IsUndrawn : Outcome → Type 0
IsUndrawn (Stop NoDraw) = ⊥
IsUndrawn (Stop reason) = ⊤
IsUndrawn (Does moves sending) = DrawsNone moves

-- no row of the node has the key, so it may be drawn
abbrev pub IsFree : NodeState → Bytes → Type 0
IsFree s key = unless_held s (Some key) ≡ Some key
