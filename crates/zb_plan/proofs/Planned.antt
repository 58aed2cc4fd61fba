-- A plan whose fields are these is the answer of what was decided.
use Rattle.std.proofs.Common.{◌≡◌, ℕ, List, [], map, refl, sym, ap, ◌∙◌, subst, Option, Some, None, option_map, Result, Ok, Err}
use Rattle.arrayvec.specs.ArrayVec.{ArrayVec}
use Rattle.zb_host.specs.declared.outcome.Outcome.{Outcome}
use Rattle.zb_host.specs.declared.plan.Plan.{Plan}
use Rattle.zb_model.specs.Answer.{Outgoing, answer_by, counting_of, out_of, may_seal, comes_to, Counting}
use Rattle.zb_model.specs.Data.{Edit, Moved, Place, Reason}
use Rattle.zb_model.specs.Data as model
use Rattle.zb_model.specs.Rules.{Setting, Sending, Stop, Does}
use Rattle.zb_model.specs.Rules as rules
use Rattle.zb_model.specs.State.{NodeState}
use Rattle.zb_model_real.specs.Real.{real}
use Rattle.zb_node_types.specs.Changes.{edits, model_place, place_of, reason}
use Rattle.zb_node_types.specs.declared.refusal.Refusal.{Refusal}
use Rattle.zb_plan.specs.Answers.{IsAnswer, answer_to, terms}
use Rattle.zb_plan.specs.Deciding.{IsAps, IsNwk, IsDecision}
use Rattle.zb_plan.specs.Storing.{stored_edits}
use Rattle.zb_plan.proofs.Stored.{Apart, stored_is}
use Rattle.zb_rules.specs.Outcomes.{told, decided}
use Rattle.zb_rules.specs.declared.effect.Effect.{Effect}
use Rattle.zb_seal.specs.declared.term.Term.{Term}
use Rattle.zb_rules.specs.Sendings.{sending_of}
use Rattle.zb_rules.specs.Sent.{IsCounting, seals_of, sent_seen}

apart_terms : (nwk aps : Option Term) → IsNwk nwk → IsAps aps → Apart (terms nwk aps)
apart_terms None None n a = tt
apart_terms (Some t) None n a = tt
apart_terms None (Some u) n a = tt
apart_terms (Some t) (Some u) n a = rw (n, a) (refl, refl)

terms_seals : (aps nwk : Option Term) → terms aps nwk ≡ seals_of aps nwk
terms_seals aps None = refl
terms_seals aps (Some t) = refl

-- a refusal

refused_by : (c : Setting) (s : NodeState) (r : Plan (Outcome Term Refusal)) (nwk aps : Option Term)
    (refusal : Refusal) (accepts : List model.Term) (place : Place) (outcome : rules.Outcome)
    → IsNwk nwk → IsAps aps → terms nwk aps ≡ accepts → decided (Err refusal) ≡ told outcome
    → model_place (place_of refusal) ≡ place
    → edits r.changes.items ≡ stored_edits c s (terms nwk aps) [] None
    → r.out
    ≡ record {
      accepted_nwk = nwk;
      accepted_aps = aps;
      refused = Some refusal;
      sealed_aps = None;
      sealed_nwk = None;
      frame = None;
    }
    → IsAnswer r (answer_to real c s (comes_to accepts place outcome))
unfolding answer_by out_of may_seal
refused_by c s r nwk aps refusal accepts place (Stop why) n a es d pl ch out =
    let p = comes_to accepts place (Stop why) in
    let why_is : reason refusal ≡ why = cc in
    record {
      changes = ch ∙ ap (λ l. stored_edits c s l [] None) es ∙ sym
          (stored_is c s p (subst Apart es (apart_terms nwk aps n a)));
      accepts = rw out es;
      refusal = rw (out, why_is) refl;
      place = rw out pl;
      seals = rw out refl;
      frame = rw out refl;
    }
refused_by c s r nwk aps refusal accepts place (Does moves send) n a es d pl ch out = absurd cc

pub refused_answer : (c : Setting) (s : NodeState) (r : Plan (Outcome Term Refusal)) (nwk aps : Option Term)
    (refusal : Refusal) (p : rules.Plan)
    → IsNwk nwk → IsAps aps → IsDecision (record { nwk = nwk; aps = aps; effect = Err refusal }) p
    → edits r.changes.items ≡ stored_edits c s (terms nwk aps) [] None
    → r.out
    ≡ record {
      accepted_nwk = nwk;
      accepted_aps = aps;
      refused = Some refusal;
      sealed_aps = None;
      sealed_nwk = None;
      frame = None;
    }
    → IsAnswer r (answer_to real c s p)
refused_answer c s r nwk aps refusal p n a d ch out = refused_by c s r nwk aps refusal p.accepts p.place p.outcome n a
    d.accepts d.outcome d.place ch out

-- an effect

-- an effect of these changes that sends this
abbrev done : List Edit → Option Sending → Result (List Edit × Option Sending) Reason
done es send = Ok (es, send)

both_same : (a b : List Edit) (x y : Option Sending) → done a x ≡ done b y → (a ≡ b) × (x ≡ y)
both_same a b x y e = (ap first e, ap second e)
  where
    first : Result (List Edit × Option Sending) Reason → List Edit
    first (Ok p) = p.0
    first (Err why) = []

    second : Result (List Edit × Option Sending) Reason → Option Sending
    second (Ok p) = p.1
    second (Err why) = None

done_by : (c : Setting) (s : NodeState) (r : Plan (Outcome Term Refusal)) (nwk aps : Option Term) (effect : Effect)
    (sealed_aps sealed_nwk : Option Term) (frame : Option (ArrayVec ℕ)) (accepts : List model.Term) (place : Place)
    (outcome : rules.Outcome)
    → IsNwk nwk → IsAps aps → terms nwk aps ≡ accepts → decided (Ok effect) ≡ told outcome
    → edits r.changes.items ≡ stored_edits c s (terms nwk aps) (edits effect.changes.items)
    (option_map sending_of effect.sending)
    → ((k : Counting) → IsCounting s k → sent_seen sealed_aps sealed_nwk frame
    ≡ out_of real c s k (option_map sending_of effect.sending))
    → r.out
    ≡ record {
      accepted_nwk = nwk;
      accepted_aps = aps;
      refused = None;
      sealed_aps = sealed_aps;
      sealed_nwk = sealed_nwk;
      frame = frame;
    }
    → IsAnswer r (answer_to real c s (comes_to accepts place outcome))
unfolding answer_by counting_of
done_by c s r nwk aps effect sealed_aps sealed_nwk frame accepts place (Stop why) n a es d ch go out = absurd cc
done_by c s r nwk aps effect sealed_aps sealed_nwk frame accepts place (Does moves send) n a es d ch go out =
    let p = comes_to accepts place (Does moves send) in
    let same = both_same (edits effect.changes.items) (map Moved moves) (option_map sending_of effect.sending) send d
    in
    let gone : sent_seen sealed_aps sealed_nwk frame ≡ out_of real c s (counting_of c s p) send =
    go (counting_of c s p) (record { nwk = refl; aps = refl }) ∙ ap (λ o. out_of real c s (counting_of c s p) o)
    same.1 in
    record {
      changes = ch ∙ ap (λ l. stored_edits c s l (edits effect.changes.items) (option_map sending_of effect.sending))
          es
          ∙ ap (λ l. stored_edits c s accepts l (option_map sending_of effect.sending)) same.0
          ∙ ap (λ o. stored_edits c s accepts (map Moved moves) o) same.1
          ∙ sym (stored_is c s p (subst Apart es (apart_terms nwk aps n a)));
      accepts = rw out es;
      refusal = rw out refl;
      place = rw out tt;
      seals = rw out (terms_seals sealed_aps sealed_nwk ∙ ap (λ (o : Outgoing). o.seals) gone);
      frame = rw out (ap (λ (o : Outgoing). o.frame) gone);
    }

pub done_answer : (c : Setting) (s : NodeState) (r : Plan (Outcome Term Refusal)) (nwk aps : Option Term)
    (effect : Effect) (sealed_aps sealed_nwk : Option Term) (frame : Option (ArrayVec ℕ)) (p : rules.Plan)
    → IsNwk nwk → IsAps aps → IsDecision (record { nwk = nwk; aps = aps; effect = Ok effect }) p
    → edits r.changes.items ≡ stored_edits c s (terms nwk aps) (edits effect.changes.items)
    (option_map sending_of effect.sending)
    → ((k : Counting) → IsCounting s k → sent_seen sealed_aps sealed_nwk frame
    ≡ out_of real c s k (option_map sending_of effect.sending))
    → r.out
    ≡ record {
      accepted_nwk = nwk;
      accepted_aps = aps;
      refused = None;
      sealed_aps = sealed_aps;
      sealed_nwk = sealed_nwk;
      frame = frame;
    }
    → IsAnswer r (answer_to real c s p)
done_answer c s r nwk aps effect sealed_aps sealed_nwk frame p n a d ch go out =
    done_by c s r nwk aps effect sealed_aps sealed_nwk frame p.accepts p.place p.outcome n a d.accepts d.outcome ch go
    out
