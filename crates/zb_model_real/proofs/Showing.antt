-- What a frame opens to agrees with what it shows.
use Rattle.std.proofs.Common.{◌≡◌, ℕ, List, ◌++◌, Option, Some, None, option_map, Result, Ok, Err, sym, ap, ◌∙◌, subst}
use Rattle.std.specs.Prelude.{unwrap_or}
use Rattle.zb_aps.specs.Reading as aps
use Rattle.zb_aps.specs.declared.auxiliary.ApsAux.{ApsAux}
use Rattle.zb_aps.specs.declared.fault.ApsError.{ApsError}
use Rattle.zb_aps.specs.declared.frame.ApsFrame.{ApsFrame}
use Rattle.zb_base.specs.declared.address.Eui.{Eui}
use Rattle.zb_model.specs.Data.{Bytes, Nwk, Aps, Term}
use Rattle.zb_model.specs.Tools.{NwkShown, NwkAuxiliary, ApsShown, ApsAuxiliary}
use Rattle.zb_nwk.specs.Reading as nwk
use Rattle.zb_nwk.specs.declared.auxiliary.NwkAux.{NwkAux}
use Rattle.zb_nwk.specs.declared.fault.NwkError.{NwkError}
use Rattle.zb_nwk.specs.declared.frame.NwkFrame.{NwkFrame}
use Rattle.zb_seal.specs.Opening.{nwk_envelope, nwk_seen, seen_nwk, aps_envelope, aps_seen, seen_aps, source_of, content_of, opened_term, opened_from, opened_seen, opened_nwk, opened_aps}
use Rattle.zb_aps.specs.Shape.{key_id}
use Rattle.zb_aps.specs.Spelling as aps_spelling
use Rattle.zb_nwk.specs.Spelling as nwk_spelling
use Rattle.zb_base.specs.declared.label.Label.TheVariants as label
use Rattle.zb_base.specs.declared.label.Layer.TheVariants as layer
use Rattle.zb_seal.specs.Keys.{sealing_key}
use Rattle.zb_seal.specs.Opening as opening
use Rattle.zb_seal.specs.Wire.{real_level}
use Rattle.zb_seal.specs.declared.envelope.Envelope.{Envelope}
use Rattle.zb_model_real.specs.Readers.{auxiliary, aps_shown, nwk_auxiliary, nwk_shown}
use Rattle.zb_model_real.specs.Real.{opened, real}
use Rattle.zb_model_real.specs.Terms.{eui_of, key_of, model_term}

abbrev IsNone : (A : Type 0) → Option A → Type 0
IsNone A None = Unit {0}
IsNone A (Some x) = ⊥

none-is : (A : Type 0) (x : A) → None ≡ Some x → ⊥
none-is A x e = subst (λ o. IsNone A o) e tt

some-same : (A : Type 0) (x y : A) → Some x ≡ Some y → x ≡ y
some-same A x y e = ap (λ o. unwrap_or o x) e

-- the term of an envelope: its layer, base key, source and counter
abbrev Facts : Envelope → Bytes → ℕ → Term → Type 0
Facts s key source t = (t.layer ≡ Rattle.zb_node_types.specs.Changes.model_layer s.layer) × (t.base ≡ key)
    × (t.source ≡ source) × (t.counter ≡ s.counter)

term-facts : (s : Envelope) (key : Bytes) (source : Eui) (o : Option (List ℕ)) (t : Term)
    → opened (opened_term s (key_of key) source o) ≡ Some t → Facts s key source.0 t
term-facts s key source None t e = absurd (none-is Term t e)
term-facts s key source (Some content) t e = let q =
    some-same Term (model_term (opening.term_of (record s { text = record { items = content } }) (key_of key) source))
    t e in (
      ap (λ (x : Term). x.layer) (sym q),
      ap (λ (x : Term). x.base) (sym q),
      ap (λ (x : Term). x.source) (sym q),
      ap (λ (x : Term). x.counter) (sym q),
    )

-- NWK

nwk_envelope_of : NwkFrame → NwkAux → Envelope
nwk_envelope_of f a = record {
  layer = layer.Nwk;
  label = label.Network;
  source = Some a.source;
  counter = a.counter;
  control = real_level a.control;
  header = record { items = nwk_spelling.header f.header ++ nwk_spelling.aux (opening.leveled_nwk a) };
  text = f.body;
  mic = f.mic;
}

nwk-aux : (key : Bytes) (f : NwkFrame) (x : Option NwkAux) (aux : NwkAuxiliary) (t : Term)
    → option_map nwk_auxiliary x ≡ Some aux → opened (opened_seen (nwk_envelope f x) (key_of key) None) ≡ Some t
    → (t.layer ≡ Nwk) × (t.base ≡ key) × (t.source ≡ aux.source) × (t.counter ≡ aux.counter)
unfolding opening.opened nwk_envelope_of
nwk-aux key f None aux t a e = absurd (none-is NwkAuxiliary aux a)
nwk-aux key f (Some x) aux t a e = let q = some-same NwkAuxiliary (nwk_auxiliary x) aux a in let g =
    term-facts (nwk_envelope_of f x) key x.source
    (content_of (nwk_envelope_of f x) (sealing_key label.Network key) x.source) t e in
    (g.0, g.1, g.2 ∙ ap (λ (y : NwkAuxiliary). y.source) q, g.3 ∙ ap (λ (y : NwkAuxiliary). y.counter) q)

nwk-by : (key : Bytes) (r : Result NwkFrame NwkError) (f : NwkShown) (aux : NwkAuxiliary) (t : Term) → nwk_shown r
    ≡ Some f → f.auxiliary ≡ Some aux → opened (opened_seen (nwk_seen r) (key_of key) None) ≡ Some t
    → (t.layer ≡ Nwk) × (t.base ≡ key) × (t.source ≡ aux.source) × (t.counter ≡ aux.counter)
nwk-by key (Err e) f aux t a b c = absurd (none-is NwkShown f a)
nwk-by key (Ok fr) f aux t a b c = nwk-aux key fr fr.aux aux t (ap (λ (o : Option NwkShown). shown o) a ∙ b) c
  where
    shown : Option NwkShown → Option NwkAuxiliary
    shown None = None
    shown (Some x) = x.auxiliary

-- APS

aps-from : (s : Envelope) (key : Bytes) (given : ℕ) (o : Option Eui) (t : Term)
    → opened (opened_from s (key_of key) (source_of o (Some (eui_of given)))) ≡ Some t
    → Facts s key (unwrap_or (option_map (λ (x : Eui). x.0) o) given) t
aps-from s key given None t e =
    term-facts s key (eui_of given) (content_of s (sealing_key s.label key) (eui_of given)) t e
aps-from s key given (Some x) t e = term-facts s key x (content_of s (sealing_key s.label key) x) t e

aps_envelope_of : ApsFrame → ApsAux → Envelope
aps_envelope_of f a = record {
  layer = layer.Aps;
  label = opening.label_of (key_id a.control);
  source = a.source;
  counter = a.counter;
  control = real_level a.control;
  header = record { items = aps_spelling.header f.header ++ aps_spelling.aux (opening.leveled_aps a) };
  text = f.body;
  mic = f.mic;
}

aps-aux : (key : Bytes) (given : ℕ) (f : ApsFrame) (x : Option ApsAux) (aux : ApsAuxiliary) (t : Term)
    → option_map auxiliary x ≡ Some aux → opened (opened_seen (aps_envelope f x) (key_of key) (Some (eui_of given)))
    ≡ Some t
    → (t.layer ≡ Aps) × (t.base ≡ key) × (t.source ≡ unwrap_or aux.source given) × (t.counter ≡ aux.counter)
unfolding opening.opened aps_envelope_of
aps-aux key given f None aux t a e = absurd (none-is ApsAuxiliary aux a)
aps-aux key given f (Some x) aux t a e = let q = some-same ApsAuxiliary (auxiliary x) aux a in let g =
    aps-from (aps_envelope_of f x) key given x.source t e in (
      g.0,
      g.1,
      g.2 ∙ ap (λ (y : ApsAuxiliary). unwrap_or y.source given) q,
      g.3 ∙ ap (λ (y : ApsAuxiliary). y.counter)
          q,
    )

aps-by : (key : Bytes) (given : ℕ) (r : Result ApsFrame ApsError) (f : ApsShown) (aux : ApsAuxiliary) (t : Term)
    → aps_shown r ≡ Some f → f.auxiliary ≡ Some aux
    → opened (opened_seen (aps_seen r) (key_of key) (Some (eui_of given))) ≡ Some t
    → (t.layer ≡ Aps) × (t.base ≡ key) × (t.source ≡ unwrap_or aux.source given) × (t.counter ≡ aux.counter)
aps-by key given (Err e) f aux t a b c = absurd (none-is ApsShown f a)
aps-by key given (Ok fr) f aux t a b c =
    aps-aux key given fr fr.aux aux t (ap (λ (o : Option ApsShown). shown o) a ∙ b) c
  where
    shown : Option ApsShown → Option ApsAuxiliary
    shown None = None
    shown (Some x) = x.auxiliary

pub nwk-opens : (bytes key : Bytes) (f : NwkShown) (aux : NwkAuxiliary) (t : Term) → real.read_nwk bytes ≡ Some f
    → f.auxiliary ≡ Some aux → real.open_nwk bytes key ≡ Some t
    → (t.layer ≡ Nwk) × (t.base ≡ key) × (t.source ≡ aux.source) × (t.counter ≡ aux.counter)
unfolding real opened_nwk seen_nwk
nwk-opens bytes key f aux t a b c = nwk-by key (nwk.frame_of bytes) f aux t a b c

pub aps-opens : (bytes key : Bytes) (given : ℕ) (f : ApsShown) (aux : ApsAuxiliary) (t : Term) → real.read_aps bytes
    ≡ Some f → f.auxiliary ≡ Some aux → real.open_aps bytes key given ≡ Some t
    → (t.layer ≡ Aps) × (t.base ≡ key) × (t.source ≡ unwrap_or aux.source given) × (t.counter ≡ aux.counter)
unfolding real opened_aps seen_aps
aps-opens bytes key given f aux t a b c = aps-by key given (aps.frame_of bytes) f aux t a b c
