-- Marks for the link rows of a record: of their keys, and of the partner and kind of each live row.
use Rattle.std.specs.Prelude.{◌≡◌, ℕ, Bool, false, ◌&&◌, List, nat_eq}
use Rattle.std.specs.List.{list_any}
use Rattle.zb_base.specs.declared.key.Key.{Key}
use Rattle.zb_model.specs.Data.{Bytes}
use Rattle.zb_model.specs.Fits.{same_bool}
use Rattle.zb_model.specs.State.{LinkKey, same_key, is_unverified}
use Rattle.zb_record.specs.Marks.{key_number, link_number, may_have}

-- whether a row is a live one of that partner, only offered or not, told or not
abbrev pub is_live_so : ℕ → Bool → Bool → LinkKey → Bool
is_live_so partner unverified told r = r.live
    && (nat_eq r.partner partner && (same_bool (is_unverified r.attribute) unverified && same_bool r.told told))

-- if a key isn't marked, no row has it
abbrev pub HaveKeys : List ℕ → List LinkKey → Type 0
HaveKeys marks rows = (key : Bytes) → may_have marks (key_number key) ≡ false
    → list_any (λ (r : LinkKey). same_key r.key key) rows ≡ false

-- if a partner and kind aren't marked, no live row has them
abbrev pub HaveLive : List ℕ → List LinkKey → Type 0
HaveLive marks rows = (partner : ℕ) (unverified told : Bool) → may_have marks (link_number partner unverified told)
    ≡ false → list_any (is_live_so partner unverified told) rows ≡ false

abbrev pub HaveMarks : List ℕ → List LinkKey → Type 0
HaveMarks marks rows = HaveKeys marks rows × HaveLive marks rows

-- the key that bytes are
abbrev pub key_from : Bytes → Key
key_from bytes = record { 0 = bytes }
