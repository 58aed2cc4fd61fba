-- One key that is tried on a layer.
use Rattle.std.proofs.Common.{◌≡◌, ℕ, suc, ◌+◌, ◌<◌, List, ◌∷◌, Option, Some, None, length, get_or, drop, drop-cons, add-one, ap, sym, ◌∙◌}
use Rattle.zb_base.specs.declared.address.Eui.{Eui}
use Rattle.zb_base.specs.declared.key.Key.{Key}
use Rattle.zb_seal.specs.Keys.{sealing_key}
use Rattle.zb_seal.specs.Opening.{content_of, term_of}
use Rattle.zb_seal.specs.declared.envelope.Envelope.{Envelope}
use Rattle.zb_inspect_frame.specs.Layers.{unsealed, opened_by}
use Rattle.zb_inspect_frame.specs.declared.layer.Finding.TheVariants.{Opened}

-- The key opens the layer.
pub opens_here : (s t : Envelope) (source : Eui) (number : ℕ) (key : Key) (more : List Key)
    → content_of s (sealing_key s.label key.0) source ≡ Some t.text.items
    → t ≡ record s { text = t.text } → opened_by s source number (key ∷ more)
    ≡ Opened (number + 1) (term_of t key source)
opens_here s t source number key more e same =
    ap (λ (found : Option (List ℕ)). unsealed s source (number + 1) key found (opened_by s source (number + 1) more)) e
    ∙ ap (λ (u : Envelope). Opened (number + 1) (term_of u key source)) (sym same)

-- The key doesn't open the layer, and others may.
pub opens_later : (s : Envelope) (source : Eui) (number : ℕ) (key : Key) (more : List Key)
    → content_of s (sealing_key s.label key.0) source ≡ None
    → opened_by s source number (key ∷ more) ≡ opened_by s source (number + 1) more
opens_later s source number key more e =
    ap (λ (found : Option (List ℕ)). unsealed s source (number + 1) key found (opened_by s source (number + 1) more)) e

-- The first of the keys that are left.
pub first_left : (keys : List Key) (i : ℕ) (key : Key) → i < length keys → key ≡ get_or keys i key → drop i keys ≡ key
    ∷ drop (i + 1) keys
first_left keys i key within is =
    rw add-one (drop-cons keys i key within ∙ ap (λ (k : Key). k ∷ drop (suc i) keys) (sym is))
