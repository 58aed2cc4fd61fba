-- Lockout: what a device can't do from its removal on, until it is admitted again.
use Rattle.std.specs.Prelude.{ℕ, ◌+◌, Bool, true, false, not, if◌then◌else◌, ◌&&◌, ◌||◌, List, [], ◌∷◌, ◌++◌, length, nat_eq, Option, Some, None, flat_map}
use Rattle.std.specs.List.{list_any}
use Rattle.zb_base.specs.declared.label.Layer.{Layer}
use Rattle.zb_base.specs.declared.label.Layer.TheVariants as layer
use Rattle.zb_audit_names.specs.Naming.{declared_in, is_of}
use Rattle.zb_model.specs.Data.{Bytes, Station, Term}
use Rattle.zb_model.specs.Secrets.{holds, same_term, well_known}
use Rattle.zb_model.specs.Tools.{Tools}
use Rattle.zb_model_real.specs.Terms.{model_term}
use Rattle.zb_trace.specs.declared.line.Line.{Line}
use Rattle.zb_trace.specs.declared.line.Line.TheVariants as line
use Rattle.zb_audit_names.specs.Secrets.{along, ever, exposed, forged_in}
use Rattle.zb_audit_lockout.specs.Before.{before_group, holds_known}

-- The lines up to a device's next `live` line.
abbrev pub admits : ℕ → Line → Bool
admits d (line.Live event device) = nat_eq device.0 d
admits d _ = false

abbrev pub until_live : ℕ → List Line → List Line
until_live d [] = []
until_live d (l ∷ ls) = if admits d l then [] else l ∷ until_live d ls

abbrev pub drawn_in : Line → List Bytes
drawn_in (line.Draw event key) = key.0 ∷ []
drawn_in _ = []

-- No key that is drawn after the removal comes out for the device, from what it ever held and the well-known key.
-- What it installs itself is among what it ever held.
unfoldable pub keeps_out : Tools → List Line → List Line → ℕ → Bool
keeps_out tools h between d =
    not (list_any (holds (exposed tools (h ++ between) (well_known ∷ ever (h ++ between) d)))
    (flat_map drawn_in between))

-- The terms that a device sealed.
abbrev pub sealed_by : ℕ → List Station → Line → List Term
sealed_by d known (line.Seal event node t) = if is_of known d node.bytes then model_term t ∷ [] else []
sealed_by d known _ = []

abbrev pub is_aps : Layer → Bool
is_aps layer.Aps = true
is_aps layer.Nwk = false

-- A node accepts at NWK no term that the device sealed after its removal, and no forged term. This holds if the node
-- has no live network key that outsiders may know before the group of the line. `h` are the lines up to the removal,
-- `since` those after it.
unfoldable pub refuses_line : Tools → ℕ → List Line → List Line → Line → Bool
refuses_line tools d h since (line.Accept event node t) =
    is_aps t.layer
    || (holds_known tools (before_group ((h ++ since) ++ line.Accept event node t ∷ [])) node.bytes
    || not (list_any (same_term (model_term t))
    (along (sealed_by d) (declared_in h) since ++ flat_map forged_in (h ++ since))))
refuses_line tools d h since _ = true

unfoldable pub refuses : Tools → ℕ → List Line → List Line → List Line → Bool
refuses tools d h since [] = true
refuses tools d h since (l ∷ ls) = refuses_line tools d h since l && refuses tools d h (since ++ l ∷ []) ls

-- Whether a device is locked out from its removal to its next admission.
abbrev pub locks_out : Tools → List Line → List Line → ℕ → Bool
locks_out tools h between d = keeps_out tools h between d && refuses tools d h [] between

abbrev pub locked_line : Tools → List Line → Line → List Line → Bool
locked_line tools h (line.Removed event device) after =
    locks_out tools (h ++ line.Removed event device ∷ []) (until_live device.0 after) device.0
locked_line tools h _ after = true

abbrev pub locked_from : Tools → List Line → List Line → Bool
locked_from tools h [] = true
locked_from tools h (l ∷ ls) = locked_line tools h l ls && locked_from tools (h ++ l ∷ []) ls

-- Whether lockout holds for all removed devices.
unfoldable pub locked : Tools → List Line → Bool
locked tools lines = locked_from tools [] lines

-- The number of the first line at which lockout fails.
abbrev pub unlocked_from : Tools → List Line → List Line → Option ℕ
unlocked_from tools h [] = None
unlocked_from tools h (l ∷ ls) = if locked tools (h ++ l ∷ []) then unlocked_from tools (h ++ l ∷ []) ls
    else Some (length h + 1)

unfoldable pub first_unlocked : Tools → List Line → Option ℕ
first_unlocked tools lines = unlocked_from tools [] lines
