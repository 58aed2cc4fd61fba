-- The next counters of the centre after it offers its key again, confirms a key, or confirms it again: one is used at
-- each layer.
use Rattle.std.proofs.Common.{◌≡◌, true, false, [], ◌∷◌, Option, None, refl, sym, ◌∙◌, subst}
use Rattle.zb_model.specs.Answer.{answer_by, counting_of, plan_of, answer, answered}
use Rattle.zb_model.specs.Data.{Bytes, ForData, ForLoad, AtAps, CounterSpent, TransportLink, VerifyKey, ConfirmKey, Received}
use Rattle.zb_model.specs.Fits.{keeps_rules}
use Rattle.zb_model.specs.Rules.{Setting, short_of, both_spent}
use Rattle.zb_model.specs.State.{NodeState}
use Rattle.zb_model.specs.Tools.{Tools, verify_hash}
use Rattle.law_recovery.specs.Answering.{after_task}
use Rattle.law_recovery.specs.CommandFrames.{DeliversCommands, clear_content, net_term}
use Rattle.law_recovery.specs.Exchanging.{Seals, net_frame, request, request_bytes, proof_bytes, StationsInRange, StaysClosed, NwkInRange, ApsInRange}
use Rattle.law_recovery.specs.Meeting.{AreDeclared, HasBoth, HasNetwork, HasOffer, HasProved}
use Rattle.law_recovery.specs.Obstacles.{why_no_confirmation, why_no_offer_again}
use Rattle.law_recovery.proofs.Again as again
use Rattle.law_recovery.proofs.Counting.{GoesOn, both_go_on}
use Rattle.law_recovery.proofs.Judged.{both_terms, when_none}
use Rattle.law_recovery.proofs.Laws.{confirms, no_confirmation}
use Rattle.law_recovery.proofs.Proving as proving

pub again_counts : (tools : Tools) → DeliversCommands tools
    → (c m : Setting) (s : NodeState) (k : Seals) (key : Bytes) (draw : Option Bytes) → AreDeclared c m
    → StationsInRange c m → NwkInRange k → ApsInRange k → keeps_rules s ≡ true → HasNetwork s k.key k.sequence
    → HasBoth s m.me.eui k.link key → StaysClosed tools m k key → why_no_offer_again s m.me.eui k ≡ None
    → GoesOn s (after_task tools c s (Received (request_bytes tools c m k) draw))
unfolding after_task answer counting_of
again_counts tools delivers c m s k key draw d st rn ra rules h l closed none =
    let device = m.me.eui in
    let unspent = when_none (both_spent s) CounterSpent (again.again_free s device k none) in
    let p = again.again_end tools c m k (again.offers_again c device l.row l.offer.key false) in
    let plan : plan_of tools c s (Received (request_bytes tools c m k) draw) ≡ p =
    again.again_freely tools delivers c m s k key draw d st rn ra rules h l closed none in
    subst (λ q. GoesOn s (answered (answer_by tools c s (counting_of c s q) q) s)) (sym plan)
    (both_go_on tools c s (counting_of c s p) (both_terms tools (net_frame m c k) (request m k)) AtAps [] h.active
    (short_of c device) ForLoad l.row.key (TransportLink l.offer.key device c.me.eui) k.key k.sequence h.is_active
    unspent h.active_key refl refl
    (subst (λ q. HasNetwork (answered (answer_by tools c s (counting_of c s q) q) s) k.key k.sequence) plan
    (again.again_offered tools delivers c m s k key draw d st rn ra rules h l closed none).network))

pub confirmed_counts : (tools : Tools) → DeliversCommands tools
    → (c m : Setting) (s : NodeState) (k : Seals) (draw : Option Bytes) → AreDeclared c m → StationsInRange c m
    → NwkInRange k → keeps_rules s ≡ true → HasNetwork s k.key k.sequence → HasOffer s m.me.eui k.link
    → why_no_confirmation s m.me.eui k ≡ None
    → GoesOn s (after_task tools c s (Received (proof_bytes tools c m k) draw))
unfolding after_task answer counting_of
confirmed_counts tools delivers c m s k draw d st rn rules h o none =
    let device = m.me.eui in
    let unspent = again.proof_unspent s device k h none in
    let p = proving.shown_to tools c m k (proving.confirms c device o.row o.offer false) in
    let plan : plan_of tools c s (Received (proof_bytes tools c m k) draw) ≡ p =
    proving.proved_freely tools delivers c m s k draw d st rn h o (sym (no_confirmation s device k h) ∙ none) in
    subst (λ q. GoesOn s (answered (answer_by tools c s (counting_of c s q) q) s)) (sym plan)
    (both_go_on tools c s (counting_of c s p)
    (net_term (net_frame m c k) (clear_content tools k.nwk (VerifyKey 4 device (verify_hash tools k.link))) ∷ []) AtAps
    (proving.proved_moves device o.row o.offer) h.active (short_of c device) ForData o.offer.key
    (ConfirmKey 0 4 device) k.key k.sequence h.is_active unspent h.active_key refl refl
    (subst (λ q. HasNetwork (answered (answer_by tools c s (counting_of c s q) q) s) k.key k.sequence) plan
    (confirms tools delivers c m s k draw d st rn rules h o none).network))

pub confirmed_again_counts : (tools : Tools) → DeliversCommands tools
    → (c m : Setting) (s : NodeState) (k : Seals) (draw : Option Bytes) → AreDeclared c m → StationsInRange c m
    → NwkInRange k → HasNetwork s k.key k.sequence → HasProved s m.me.eui k.link
    → why_no_confirmation s m.me.eui k ≡ None
    → GoesOn s (after_task tools c s (Received (proof_bytes tools c m k) draw))
unfolding after_task answer counting_of
confirmed_again_counts tools delivers c m s k draw d st rn h l none =
    let device = m.me.eui in
    let unspent = again.proof_unspent s device k h none in
    let p = again.shown_again tools c m k (again.confirms_again c device l.row.key false) in
    let plan : plan_of tools c s (Received (proof_bytes tools c m k) draw) ≡ p =
    again.proof_freely tools delivers c m s k draw d st rn h l none in
    subst (λ q. GoesOn s (answered (answer_by tools c s (counting_of c s q) q) s)) (sym plan)
    (both_go_on tools c s (counting_of c s p)
    (net_term (net_frame m c k) (clear_content tools k.nwk (VerifyKey 4 device (verify_hash tools k.link))) ∷ []) AtAps
    [] h.active (short_of c device) ForData l.row.key (ConfirmKey 0 4 device) k.key k.sequence h.is_active unspent
    h.active_key refl refl
    (subst (λ q. HasNetwork (answered (answer_by tools c s (counting_of c s q) q) s) k.key k.sequence) plan
    (again.confirmed_again tools delivers c m s k draw d st rn h l none).network))
