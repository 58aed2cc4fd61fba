-- What is known from the lines before the group of a line. Names distinguish nodes.
use Rattle.std.specs.Prelude.{Bool, true, false, if◌then◌else◌, ◌&&◌, List, [], ◌∷◌, fold, bytes_eq}
use Rattle.std.specs.List.{list_any}
use Rattle.zb_audit_names.specs.Groups.{flat, groups}
use Rattle.zb_audit_names.specs.Secrets.{exposed, outside}
use Rattle.zb_model.specs.Data.{Bytes}
use Rattle.zb_model.specs.Tools.{Tools}
use Rattle.zb_trace.specs.declared.line.Line.{Line}
use Rattle.zb_trace.specs.declared.line.Line.TheVariants as line

-- Whether a line is about this network key of this node.
abbrev pub is_about : Bytes → Bytes → Bytes → Bytes → Bool
is_about name key n k = bytes_eq n name && bytes_eq k key

-- Whether the last line about a network key of a node gives or installs it, and doesn't drop it.
abbrev pub lives : Bytes → Bytes → Bool → Line → Bool
lives name key was (line.GivenNet node k sequence) = if is_about name key node.bytes k.0 then true else was
lives name key was (line.Install event node k sequence) = if is_about name key node.bytes k.0 then true else was
lives name key was (line.DropNet event node k) = if is_about name key node.bytes k.0 then false else was
lives name key was _ = was

unfoldable pub is_live : List Line → Bytes → Bytes → Bool
is_live h name key = fold (lives name key) false h

-- Whether the node has a live network key that outsiders may know.
unfoldable pub holds_known : Tools → List Line → Bytes → Bool
holds_known tools h name = list_any (is_live h name) (exposed tools h (outside h))

-- The lines before the group of the last line.
abbrev pub all_but_last : {A : Type 0} → List A → List A
all_but_last [] = []
all_but_last (x ∷ []) = []
all_but_last (x ∷ y ∷ ys) = x ∷ all_but_last (y ∷ ys)

unfoldable pub before_group : List Line → List Line
before_group h = flat (all_but_last (groups h))
