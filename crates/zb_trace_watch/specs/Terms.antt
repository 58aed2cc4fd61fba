-- The bytes by which a set keeps a term, and what such a set has.
use Rattle.std.specs.Prelude.{ℕ, zero, suc, ◌+◌, ◌-◌, ◌*◌, ◌/◌, ◌%◌, Bool, false, ◌||◌, List, [], ◌∷◌, ◌++◌, length, bytes_eq, Option, Some, None}
use Rattle.std.specs.BTreeMap.{get}
use Rattle.std.specs.List.{list_any}
use Rattle.std.specs.Global.{Vec}
use Rattle.std.specs.Ordering.{nat_cmp}
use Rattle.zb_base.specs.declared.label.Label.{Label}
use Rattle.zb_base.specs.declared.label.Label.TheVariants as label
use Rattle.zb_base.specs.declared.label.Layer.{Layer}
use Rattle.zb_base.specs.declared.label.Layer.TheVariants as layer
use Rattle.zb_seal.specs.declared.term.Term.{Term}
use Rattle.zb_trace_watch.specs.declared.terms.Terms.{Terms}
use Rattle.zb_model.specs.State.{greatest_counter}

-- The n lowest bytes of a number, and then the rest of it.
abbrev pub low_bytes : ℕ → ℕ → List ℕ
low_bytes zero number = number ∷ []
low_bytes (suc n) number = number % 256 ∷ low_bytes n (number / 256)

abbrev pub layer_number : Layer → ℕ
layer_number layer.Nwk = 0
layer_number layer.Aps = 1

abbrev pub label_number : Label → ℕ
label_number label.Data = 0
label_number label.Network = 1
label_number label.Transport = 2
label_number label.Load = 3

-- A list after its length.
abbrev pub sized : List ℕ → List ℕ
sized bytes = length bytes ∷ bytes

-- All parts of a term, one after the other.
unfoldable pub term_bytes : Term → List ℕ
term_bytes t =
    low_bytes 3 t.counter ++ (layer_number t.layer ∷ (sized t.base.0 ++ (label_number t.label
    ∷ (low_bytes 7 t.source.0 ++ (t.control ∷ (sized t.header.items ++ t.content.items))))))

-- The most bytes of a term.
abbrev pub term_room : ℕ
term_room = 287

-- A number in which two terms mostly differ: some of its source, its layer, and how many counters come after its own.
abbrev pub term_head : Term → ℕ
term_head t = (t.source.0 % 16777216 * 256 + layer_number t.layer) * 4294967296 + (greatest_counter - t.counter)

-- Whether these bytes are kept.
abbrev pub is_kept : Option (Vec ℕ) → List ℕ → Bool
is_kept None bytes = false
is_kept (Some kept) bytes = bytes_eq bytes kept.items

-- Whether bytes with this head are kept.
abbrev pub has_spelled : Terms → ℕ → List ℕ → Bool
has_spelled set head bytes =
    is_kept (get nat_cmp set.firsts head) bytes || list_any (λ (kept : Vec ℕ). bytes_eq bytes kept.items)
    set.others.keys

-- Whether the set has the term.
abbrev pub has_term : Terms → Term → Bool
has_term set t = has_spelled set (term_head t) (term_bytes t)
