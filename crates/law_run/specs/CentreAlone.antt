-- The changes that the centre alone makes: their lines name no node.
use Rattle.zb_model.specs.Data.{Edit, Moved, Draw, Pair, Live, Removed, Roll, Told, Untold}

-- a change that every node may make
abbrev pub OfEachNode : Edit → Type 0
OfEachNode (Moved (Draw key)) = ⊥
OfEachNode (Moved (Pair first second key)) = ⊥
OfEachNode (Moved (Live device)) = ⊥
OfEachNode (Moved (Removed device)) = ⊥
OfEachNode (Moved (Roll sending)) = ⊥
OfEachNode (Moved (Told device)) = ⊥
OfEachNode (Moved (Untold device)) = ⊥
OfEachNode _ = Unit {0}
