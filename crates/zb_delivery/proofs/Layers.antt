-- What judging accepts is of its layer: the NWK term at NWK, the APS term at APS.
use Rattle.std.proofs.Common.{◌≡◌, Bool, true, false, not, ◌&&◌, refl, ap, sym, subst, Option, Some, None, option_map, Ok}
use Rattle.std.specs.Prelude.{⊤}
use Rattle.zb_aps.specs.Reading.{frame_of}
use Rattle.zb_aps.specs.declared.auxiliary.ApsAux.{ApsAux}
use Rattle.zb_aps.specs.declared.frame.ApsFrame.{ApsFrame}
use Rattle.zb_base.specs.declared.label.Layer.TheVariants as layer
use Rattle.zb_base.specs.declared.label.Layer.{Layer}
use Rattle.zb_delivery.specs.Receiving.{PassesInClear}
use Rattle.zb_judge.specs.Verdicts.{carrier_seen, unsealed_seen}
use Rattle.zb_judge.specs.declared.aps.Unsealed.{Unsealed}
use Rattle.zb_nwk.specs.declared.frame.NwkFrame.{NwkFrame}
use Rattle.zb_model.specs.Data.{Bytes, Nwk, Aps, Term, Place, Reason}
use Rattle.zb_model.specs.Judging.{Verdict, Not, Good, reject, need, judge_net, carrier, judge_security, judge_nwk, judge_aps, sealed_for_transport}
use Rattle.zb_model.specs.Judging as judging
use Rattle.zb_model.specs.Rules.{Setting, waits_for_key}
use Rattle.zb_model.specs.State.{NodeState, is_centre}
use Rattle.zb_model.specs.Tools.{NwkShown, NwkAuxiliary, ApsShown}
use Rattle.zb_model_real.proofs.Showing.{nwk-opens, aps-opens}
use Rattle.zb_model_real.specs.Readers.{aps_frame_shown, auxiliary}
use Rattle.zb_model_real.specs.Real.{real}
use Rattle.zb_model_real.specs.Terms.{model_term}
use Rattle.zb_node_types.specs.Changes.{model_layer}
use Rattle.zb_plan.specs.Deciding.{IsAps, IsNwk}
use Rattle.zb_seal.specs.declared.term.Term as program

-- verdicts

abbrev OnGood : {A : Type 0} → (A → Type 0) → Verdict A → Type 0
OnGood P (Not place reason) = ⊤
OnGood P (Good it) = P it

after_reject : {A : Type 0} (P : A → Type 0) (bad : Bool) (place : Place) (reason : Reason) (rest : Verdict A)
    → OnGood P rest → OnGood P (reject bad place reason rest)
unfolding reject
after_reject P true place reason rest k = tt
after_reject P false place reason rest k = k

after_need : {A B : Type 0} (P : B → Type 0) (o : Option A) (place : Place) (reason : Reason) (rest : A → Verdict B)
    → ((a : A) → o ≡ Some a → OnGood P (rest a)) → OnGood P (need o place reason rest)
unfolding need
after_need P None place reason rest k = tt
after_need P (Some a) place reason rest k = k a refl

after_test : {A : Type 0} (P : A → Type 0) (bad : Bool) (place : Place) (reason : Reason) (rest : Verdict A)
    → (bad ≡ false → OnGood P rest) → OnGood P (reject bad place reason rest)
unfolding reject
after_test P true place reason rest k = tt
after_test P false place reason rest k = k refl

-- the NWK layer

abbrev OfNwk : Option Term → Type 0
OfNwk None = ⊤
OfNwk (Some t) = t.layer ≡ Nwk

net_layer : (c : Setting) (s : NodeState) (bytes : Bytes) (f : NwkShown) (aux : NwkAuxiliary) → real.read_nwk bytes
    ≡ Some f → f.auxiliary ≡ Some aux → OnGood (λ (t : Term). t.layer ≡ Nwk) (judge_net real c s bytes aux)
unfolding judge_net
net_layer c s bytes f aux read shown =
    after_need (λ (t : Term). t.layer ≡ Nwk) _ _ _ _ (λ row found.
    after_reject (λ (t : Term). t.layer ≡ Nwk) _ _ _ _ (
    after_reject (λ (t : Term). t.layer ≡ Nwk) _ _ _ _ (
    after_need (λ (t : Term). t.layer ≡ Nwk) (real.open_nwk bytes row.key) _ _ _ (λ t opened.
    after_reject (λ (t : Term). t.layer ≡ Nwk) _ _ _ _ (
    after_reject (λ (t : Term). t.layer ≡ Nwk) _ _ _ _ (
    after_reject (λ (t : Term). t.layer ≡ Nwk) _ _ _ _ (nwk-opens bytes row.key f aux t read shown opened).0))))))

-- a frame that passed: its term is of the layer, and without one it brings a command that is sealed for transport
abbrev InClear : Option Term → Option ApsShown → Type 0
InClear None shown = sealed_for_transport shown ≡ true
InClear (Some t) shown = ⊤

abbrev Passed : judging.Carrier → Type 0
Passed k = OfNwk k.term × InClear k.term (real.read_aps k.frame.body)

carried : (f : NwkShown) (v : Verdict Term) → OnGood (λ (t : Term). t.layer ≡ Nwk) v → OnGood Passed (carrier f v)
carried f (Not place reason) g = tt
carried f (Good t) g = (g, tt)

last_of : (a b c d : Bool) → not (not a && (b && (not c && d))) ≡ false → d ≡ true
last_of false true false true e = refl
last_of true b c d e = absurd cc
last_of false false c d e = absurd cc
last_of false true true d e = absurd cc
last_of false true false false e = absurd cc

security_layer : (c : Setting) (s : NodeState) (bytes : Bytes) (f : NwkShown) (x : Option NwkAuxiliary)
    → real.read_nwk bytes ≡ Some f → f.auxiliary ≡ x → OnGood Passed (judge_security real c s bytes f x)
security_layer c s bytes f None read shown =
    after_test Passed _ _ _ _
    (λ e. (
      tt,
      last_of (is_centre c.me.role) (waits_for_key s.state) f.is_command
          (sealed_for_transport (real.read_aps f.body)) e,
    ))
security_layer c s bytes f (Some aux) read shown = carried f (judge_net real c s bytes aux)
    (net_layer c s bytes f aux read shown)

nwk_layer : (c : Setting) (s : NodeState) (bytes : Bytes) → OnGood Passed (judge_nwk real c s bytes)
unfolding judge_nwk
nwk_layer c s bytes =
    after_need Passed (real.read_nwk bytes) _ _ _
    (λ f read. after_reject Passed _ _ _ _ (security_layer c s bytes f f.auxiliary read refl))

nwk_is : (l : Layer) → model_layer l ≡ Nwk → l ≡ layer.Nwk
nwk_is layer.Nwk e = refl
nwk_is layer.Aps e = absurd cc

of_term : (o : Option program.Term) → OfNwk (option_map model_term o) → IsNwk o
of_term None e = tt
of_term (Some t) e = nwk_is t.layer e

in_clear : (o : Option program.Term) (shown : Option ApsShown) → InClear (option_map model_term o) shown
    → PassesInClear o shown
in_clear None shown e = e
in_clear (Some t) shown e = tt

passed : (c : Setting) (s : NodeState) (bytes : Bytes) (f : NwkFrame) (t : Option program.Term)
    → Good (carrier_seen f t) ≡ judge_nwk real c s bytes → Passed (carrier_seen f t)
passed c s bytes f t e = subst (λ v. OnGood Passed v) (sym e) (nwk_layer c s bytes)

pub accepted_nwk : (c : Setting) (s : NodeState) (bytes : Bytes) (f : NwkFrame) (t : Option program.Term)
    → Good (carrier_seen f t) ≡ judge_nwk real c s bytes → IsNwk t
accepted_nwk c s bytes f t e = of_term t (passed c s bytes f t e).0

pub passes_in_clear : (c : Setting) (s : NodeState) (bytes : Bytes) (f : NwkFrame) (t : Option program.Term)
    → Good (carrier_seen f t) ≡ judge_nwk real c s bytes → PassesInClear t (real.read_aps f.body.items)
passes_in_clear c s bytes f t e = in_clear t (real.read_aps f.body.items) (passed c s bytes f t e).1

-- the APS layer

pub read_is : (bytes : Bytes) (part : ApsFrame) → frame_of bytes ≡ Ok part → real.read_aps bytes
    ≡ Some (aps_frame_shown part)
unfolding real
read_is bytes part e = rw e refl

aps_layer : (c : Setting) (s : NodeState) (f : NwkShown) (bytes : Bytes) (part : ApsFrame) (aux : ApsAux)
    → frame_of bytes ≡ Ok part → part.aux ≡ Some aux → OnGood (λ (u : judging.Unsealed). u.term.layer ≡ Aps)
    (judge_aps real c s f bytes (auxiliary aux))
unfolding judge_aps
aps_layer c s f bytes part aux read shown =
    after_need (λ (u : judging.Unsealed). u.term.layer ≡ Aps) _ _ _ _ (λ source named.
    after_need (λ (u : judging.Unsealed). u.term.layer ≡ Aps) _ _ _ _ (λ row chosen.
    after_reject (λ (u : judging.Unsealed). u.term.layer ≡ Aps) _ _ _ _ (
    after_reject (λ (u : judging.Unsealed). u.term.layer ≡ Aps) _ _ _ _ (
    after_need (λ (u : judging.Unsealed). u.term.layer ≡ Aps) (real.open_aps bytes row.key source) _ _ _ (λ t opened.
    (aps-opens bytes row.key source (aps_frame_shown part) (auxiliary aux) t (read_is bytes part read)
    (ap (λ o. option_map auxiliary o) shown) opened).0)))))

aps_is : (l : Layer) → model_layer l ≡ Aps → l ≡ layer.Aps
aps_is layer.Nwk e = absurd cc
aps_is layer.Aps e = refl

pub accepted_aps : (c : Setting) (s : NodeState) (f : NwkShown) (bytes : Bytes) (part : ApsFrame) (aux : ApsAux)
    (u : Unsealed) → frame_of bytes ≡ Ok part → part.aux ≡ Some aux → Good (unsealed_seen u)
    ≡ judge_aps real c s f bytes (auxiliary aux) → IsAps (Some u.term)
accepted_aps c s f bytes part aux u read shown e =
    aps_is u.term.layer
    (subst (λ v. OnGood (λ (u : judging.Unsealed). u.term.layer ≡ Aps) v) (sym e)
    (aps_layer c s f bytes part aux read shown))
