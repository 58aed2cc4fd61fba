-- A request and a proof that are repeated, because the answer to the first was lost: the centre offers its key again,
-- and confirms the verified key again.
use Rattle.std.proofs.Common.{◌≡◌, ℕ, nat_lt, Bool, true, false, [], ◌∷◌, Option, Some, None, refl, sym, ap, ◌∙◌, eq-eqb, subst, arith}
use Rattle.zb_model.specs.Data.{Bytes, Nwk, Aps, ForData, ForLoad, AtAps, CounterSpent, RequestLink, TransportLink, VerifyKey, ConfirmKey, Received}
use Rattle.zb_model.specs.Fits.{keeps_rules}
use Rattle.zb_model.specs.State.{LinkKey, NodeState, same_key, is_centre, is_live, is_verified, current, offered, next_counter}
use Rattle.zb_model.specs.Tools.{Tools, verify_hash}
use Rattle.zb_model.specs.Rules.{Setting, Plan, Outcome, Stop, Does, Secret, sends, refuse_if, found_or, choose, short_of, both_spent}
use Rattle.zb_model.specs.Commands.{take_request, take_verify, take_command}
use Rattle.zb_model.specs.Answer.{comes_to, reason_of, refusal_of, answer_by, counting_of, plan_of, answer, answered}
use Rattle.law_change_fits.proofs.Parts.{same_key_of}
use Rattle.law_recovery.specs.Answering.{after_task, frame_of}
use Rattle.law_recovery.specs.CommandFrames.{NetFrame, net_term, sealed_content, clear_content, sealed_bytes, LinkFrameInRange, ClearInRange, DeliversCommands}
use Rattle.law_recovery.specs.Exchanging.{Seals, net_frame, request, request_bytes, offer_bytes, proof_bytes, seals_now, Confirms, OffersAgain, StationsInRange, StaysClosed, NwkInRange, ApsInRange}
use Rattle.law_recovery.specs.Meeting.{AreDeclared, HasNetwork, HasBoth, HasProved}
use Rattle.law_recovery.specs.Obstacles.{or_else, obstacle_if, in_row, why_unheard, why_not_heard, why_not_opened, why_not_sealed, why_no_offer_again, why_no_confirmation}
use Rattle.law_recovery.proofs.Baring.{bare, bare_after}
use Rattle.law_recovery.proofs.Choosing.{chosen_of_two}
use Rattle.law_recovery.proofs.Judged.{IsChosen, plan_at, plan_opened, both_terms, heard_with, heard_open, delivered_chosen, delivered_clear, refused_at, refused_opened, free_at, free_opened, or_first, or_second, when_none}
use Rattle.law_recovery.proofs.Keeping.{network_left, both_left, proved_left, is_member}
use Rattle.law_recovery.proofs.Laws.{found_net, found_link, no_confirmation, three}
use Rattle.law_recovery.proofs.Requesting.{four, net_range, heard_up}
use Rattle.law_recovery.proofs.Sending.{sealed_out}

-- ---- a repeated request

abbrev pub offers_again : Setting → ℕ → LinkKey → Bytes → Bool → Outcome
offers_again c device row key true = Stop CounterSpent
offers_again c device row key false = Does []
    (sends (short_of c device) true (Secret ForLoad row.key (TransportLink key device c.me.eui)))

again_by : (tools : Tools) (c m : Setting) (s : NodeState) (f : NetFrame) (k : Seals) (row offer : LinkKey)
    (draw : Option Bytes) → is_centre c.me.role ≡ true → current s m.me.eui ≡ Some row
    → offered s m.me.eui ≡ Some offer → (b : Bool) → both_spent s ≡ b
    → take_command tools c s draw (heard_with tools f (request m k) row) RequestLink
    ≡ offers_again c m.me.eui row offer.key b
unfolding take_command take_request refuse_if found_or
again_by tools c m s f k row offer draw role here there true z =
    rw (role, here, same_key_of row.key row.key refl, there, z) refl
again_by tools c m s f k row offer draw role here there false z =
    rw (role, here, same_key_of row.key row.key refl, there, z) refl

again_reason : (c : Setting) (device : ℕ) (row : LinkKey) (key : Bytes) (b : Bool)
    → reason_of (offers_again c device row key b) ≡ obstacle_if b CounterSpent
again_reason c device row key true = refl
again_reason c device row key false = refl

abbrev pub again_end : Tools → Setting → Setting → Seals → Outcome → Plan
again_end tools c m k o = comes_to (both_terms tools (net_frame m c k) (request m k)) AtAps o

again_plan : (tools : Tools) → DeliversCommands tools
    → (c m : Setting) (s : NodeState) (k : Seals) (key : Bytes) (draw : Option Bytes) → AreDeclared c m
    → StationsInRange c m → NwkInRange k → ApsInRange k → keeps_rules s ≡ true → (h : HasNetwork s k.key k.sequence)
    → (l : HasBoth s m.me.eui k.link key) → StaysClosed tools m k key
    → plan_of tools c s (Received (request_bytes tools c m k) draw)
    ≡ plan_at (net_frame m c k) h.found
    (plan_opened (nat_lt k.aps l.row.kept) (net_term (net_frame m c k) (sealed_content tools (request m k)) ∷ [])
    l.row.kept (again_end tools c m k (offers_again c m.me.eui l.row l.offer.key (both_spent s))))
again_plan tools delivers c m s k key draw d st rn ra rules h l closed =
    let f = net_frame m c k in
    let net = net_range m c k st.device_short st.centre_short st.device rn in
    let sealed : LinkFrameInRange (request m k) =
    record { link = ra.link; source = st.device; counter = ra.counter; command = tt } in
    let unsealed = delivers.unsealed (request m k) sealed in
    let chosen : IsChosen tools s (request m k) l.row =
    record {
      found = chosen_of_two tools s (request m k) key rules unsealed l closed;
      same = l.row_key;
      small = ra.counter;
    } in
    delivered_chosen tools c s f (request m k) h.found l.row draw (delivers.carried f (request m k) net sealed)
    unsealed (heard_up c m s k l.row d h l.is_current rn.counter) chosen
    ∙ ap (λ o. plan_at f h.found
    (plan_opened (nat_lt k.aps l.row.kept) (net_term f (sealed_content tools (request m k)) ∷ []) l.row.kept
    (again_end tools c m k o)))
    (again_by tools c m s f k l.row l.offer draw d.network.centre_role l.is_current l.is_offered (both_spent s) refl)

no_offer_again : (s : NodeState) (device : ℕ) (k : Seals) (key : Bytes) (h : HasNetwork s k.key k.sequence)
    (l : HasBoth s device k.link key) → why_no_offer_again s device k
    ≡ or_else (why_not_heard h.found device k.nwk) (or_else (why_not_opened l.row k.aps) (why_not_sealed s))
unfolding why_no_offer_again
no_offer_again s device k key h l =
    three _ (why_not_heard h.found device k.nwk) _ (why_not_opened l.row k.aps) (why_not_sealed s)
    (found_net s k device h.found h.is_found) (found_link (current s device) l.row k.aps l.is_current)

-- if nothing prevents the event, the counters aren't at their end
pub again_free : (s : NodeState) (device : ℕ) (k : Seals) → why_no_offer_again s device k ≡ None → why_not_sealed s
    ≡ None
unfolding why_no_offer_again
again_free s device k e =
    let first = why_unheard s device k in
    let second = in_row (current s device) (λ row. why_not_opened row k.aps) in
    or_second second (why_not_sealed s) (or_second first (or_else second (why_not_sealed s)) e)

pub again_refused : (tools : Tools) → DeliversCommands tools
    → (c m : Setting) (s : NodeState) (k : Seals) (key : Bytes) (draw : Option Bytes) → AreDeclared c m
    → StationsInRange c m → NwkInRange k → ApsInRange k → keeps_rules s ≡ true → HasNetwork s k.key k.sequence
    → HasBoth s m.me.eui k.link key → StaysClosed tools m k key
    → (answer tools c s (Received (request_bytes tools c m k) draw)).refusal ≡ why_no_offer_again s m.me.eui k
unfolding answer answer_by
again_refused tools delivers c m s k key draw d st rn ra rules h l closed =
    let f = net_frame m c k in
    let last = again_end tools c m k (offers_again c m.me.eui l.row l.offer.key (both_spent s)) in
    let terms = net_term f (sealed_content tools (request m k)) ∷ [] in
    let inner = plan_opened (nat_lt k.aps l.row.kept) terms l.row.kept last in
    ap refusal_of (again_plan tools delivers c m s k key draw d st rn ra rules h l closed)
    ∙ refused_at f h.found inner
    ∙ ap (or_else (why_not_heard h.found m.me.eui k.nwk)) (refused_opened terms l.row k.aps last)
    ∙ ap (λ o. or_else (why_not_heard h.found m.me.eui k.nwk) (or_else (why_not_opened l.row k.aps) o))
    (again_reason c m.me.eui l.row l.offer.key (both_spent s))
    ∙ sym (no_offer_again s m.me.eui k key h l)

-- its plan, if nothing prevents the event
pub again_freely : (tools : Tools) → DeliversCommands tools
    → (c m : Setting) (s : NodeState) (k : Seals) (key : Bytes) (draw : Option Bytes) → AreDeclared c m
    → StationsInRange c m → NwkInRange k → ApsInRange k → keeps_rules s ≡ true → HasNetwork s k.key k.sequence
    → (l : HasBoth s m.me.eui k.link key) → StaysClosed tools m k key → why_no_offer_again s m.me.eui k ≡ None
    → plan_of tools c s (Received (request_bytes tools c m k) draw)
    ≡ again_end tools c m k (offers_again c m.me.eui l.row l.offer.key false)
again_freely tools delivers c m s k key draw d st rn ra rules h l closed none =
    let f = net_frame m c k in
    let device = m.me.eui in
    let first = why_not_heard h.found device k.nwk in
    let second = why_not_opened l.row k.aps in
    let third = why_not_sealed s in
    let free : or_else first (or_else second third) ≡ None = sym (no_offer_again s device k key h l) ∙ none in
    let more = or_second first (or_else second third) free in
    let unspent = when_none (both_spent s) CounterSpent (or_second second third more) in
    let terms = net_term f (sealed_content tools (request m k)) ∷ [] in
    let last = again_end tools c m k (offers_again c device l.row l.offer.key (both_spent s)) in
    again_plan tools delivers c m s k key draw d st rn ra rules h l closed
    ∙ free_at f h.found (plan_opened (nat_lt k.aps l.row.kept) terms l.row.kept last)
    (or_first first (or_else second third) free)
    ∙ free_opened terms l.row k.aps last (or_first second third more)
    ∙ ap (λ b. again_end tools c m k (offers_again c device l.row l.offer.key b)) unspent

pub again_offered : (tools : Tools) → DeliversCommands tools
    → (c m : Setting) (s : NodeState) (k : Seals) (key : Bytes) (draw : Option Bytes) → AreDeclared c m
    → StationsInRange c m → NwkInRange k → ApsInRange k → keeps_rules s ≡ true → HasNetwork s k.key k.sequence
    → HasBoth s m.me.eui k.link key → StaysClosed tools m k key → why_no_offer_again s m.me.eui k ≡ None
    → OffersAgain tools c m s (after_task tools c s (Received (request_bytes tools c m k) draw)) k key
    (frame_of tools c s (Received (request_bytes tools c m k) draw))
unfolding after_task answer counting_of
again_offered tools delivers c m s k key draw d st rn ra rules h l closed none =
    let f = net_frame m c k in
    let device = m.me.eui in
    let unspent = when_none (both_spent s) CounterSpent (again_free s device k none) in
    let p = again_end tools c m k (offers_again c device l.row l.offer.key false) in
    let plan = again_freely tools delivers c m s k key draw d st rn ra rules h l closed none in
    let u = answered (answer_by tools c s (counting_of c s p) p) s in
    let rows : bare u ≡ bare s = bare_after tools c s (counting_of c s p) p [] refl tt in
    subst (λ q. OffersAgain tools c m s (answered (answer_by tools c s (counting_of c s q) q) s) k key
    (answer_by tools c s (counting_of c s q) q).frame) (sym plan)
    (record {
      sent =
          sealed_out tools c s (counting_of c s p) (both_terms tools f (request m k)) AtAps [] h.active
          (short_of c device) ForLoad l.row.key (TransportLink l.offer.key device c.me.eui) h.is_active unspent
          ∙ four (λ to net sequence link. Some
          (sealed_bytes tools
          (record {
            to = to;
            from = c.me.short;
            source = c.me.eui;
            key = net;
            sequence = sequence;
            counter = next_counter Nwk s;
          })
          (record {
            label = ForLoad;
            link = link;
            source = c.me.eui;
            counter = next_counter Aps s;
            command = TransportLink l.offer.key device c.me.eui;
          })))
          (short_of c device) m.me.short h.active.key k.key h.active.sequence k.sequence l.row.key k.link
          d.network.short_known h.active_key h.active_sequence l.row_key
          ∙ ap (λ n. Some (offer_bytes tools c m (seals_now s k.key k.sequence k.link) n)) l.offer_key;
      network = network_left s u k.key k.sequence h rows;
      keys = both_left s u device k.link key l rows;
    })

-- ---- a repeated proof

abbrev pub confirms_again : Setting → ℕ → Bytes → Bool → Outcome
confirms_again c device key true = Stop CounterSpent
confirms_again c device key false =
    Does [] (sends (short_of c device) true (Secret ForData key (ConfirmKey 0 4 device)))

confirms_by : (tools : Tools) (c m : Setting) (s : NodeState) (f : NetFrame) (row : LinkKey) (hash : Bytes)
    (draw : Option Bytes) → is_centre c.me.role ≡ true → f.source ≡ m.me.eui → current s m.me.eui ≡ Some row
    → is_verified row.attribute ≡ true → offered s m.me.eui ≡ None
    → same_key (verify_hash tools row.key) hash ≡ true → is_live s m.me.eui ≡ true → (b : Bool) → both_spent s ≡ b
    → take_command tools c s draw (heard_open tools f (VerifyKey 4 m.me.eui hash)) (VerifyKey 4 m.me.eui hash)
    ≡ confirms_again c m.me.eui row.key b
unfolding take_command take_verify refuse_if choose found_or
confirms_by tools c m s f row hash draw role source here proved none good live true z =
    rw (role, eq-eqb m.me.eui f.source (sym source), live, none, here, proved, z) refl
confirms_by tools c m s f row hash draw role source here proved none good live false z =
    rw (role, eq-eqb m.me.eui f.source (sym source), live, none, here, proved, z, good) refl

confirms_reason : (c : Setting) (device : ℕ) (key : Bytes) (b : Bool) → reason_of (confirms_again c device key b)
    ≡ obstacle_if b CounterSpent
confirms_reason c device key true = refl
confirms_reason c device key false = refl

abbrev pub shown_again : Tools → Setting → Setting → Seals → Outcome → Plan
shown_again tools c m k o =
    comes_to (net_term (net_frame m c k) (clear_content tools k.nwk (VerifyKey 4 m.me.eui (verify_hash tools k.link)))
    ∷ []) AtAps o

proof_plan : (tools : Tools) → DeliversCommands tools
    → (c m : Setting) (s : NodeState) (k : Seals) (draw : Option Bytes) → AreDeclared c m → StationsInRange c m
    → NwkInRange k → (h : HasNetwork s k.key k.sequence) → (l : HasProved s m.me.eui k.link)
    → plan_of tools c s (Received (proof_bytes tools c m k) draw)
    ≡ plan_at (net_frame m c k) h.found (shown_again tools c m k (confirms_again c m.me.eui l.row.key (both_spent s)))
proof_plan tools delivers c m s k draw d st rn h l =
    let f = net_frame m c k in
    let command = VerifyKey 4 m.me.eui (verify_hash tools k.link) in
    let range : ClearInRange command = (omega arith, st.device, delivers.proof k.link) in
    delivered_clear tools c s f command h.found draw
    (delivers.carried_clear f command (net_range m c k st.device_short st.centre_short st.device rn) range)
    (delivers.read k.nwk command range) (heard_up c m s k l.row d h l.is_current rn.counter)
    ∙ ap (λ x. plan_at f h.found (shown_again tools c m k x))
    (confirms_by tools c m s f l.row (verify_hash tools k.link) draw d.network.centre_role refl l.is_current l.verified
    l.none_offered (same_key_of (verify_hash tools l.row.key) (verify_hash tools k.link)
    (ap (verify_hash tools) l.row_key)) (is_member s m.me.eui l.row l.is_current) (both_spent s) refl)

pub confirm_again_refused : (tools : Tools) → DeliversCommands tools
    → (c m : Setting) (s : NodeState) (k : Seals) (draw : Option Bytes) → AreDeclared c m → StationsInRange c m
    → NwkInRange k → HasNetwork s k.key k.sequence → HasProved s m.me.eui k.link
    → (answer tools c s (Received (proof_bytes tools c m k) draw)).refusal ≡ why_no_confirmation s m.me.eui k
unfolding answer answer_by
confirm_again_refused tools delivers c m s k draw d st rn h l =
    ap refusal_of (proof_plan tools delivers c m s k draw d st rn h l)
    ∙ refused_at (net_frame m c k) h.found
    (shown_again tools c m k (confirms_again c m.me.eui l.row.key (both_spent s)))
    ∙ ap (or_else (why_not_heard h.found m.me.eui k.nwk)) (confirms_reason c m.me.eui l.row.key (both_spent s))
    ∙ sym (no_confirmation s m.me.eui k h)

-- its plan, if nothing prevents the event
pub proof_freely : (tools : Tools) → DeliversCommands tools
    → (c m : Setting) (s : NodeState) (k : Seals) (draw : Option Bytes) → AreDeclared c m → StationsInRange c m
    → NwkInRange k → HasNetwork s k.key k.sequence → (l : HasProved s m.me.eui k.link)
    → why_no_confirmation s m.me.eui k ≡ None
    → plan_of tools c s (Received (proof_bytes tools c m k) draw)
    ≡ shown_again tools c m k (confirms_again c m.me.eui l.row.key false)
proof_freely tools delivers c m s k draw d st rn h l none =
    let f = net_frame m c k in
    let device = m.me.eui in
    let first = why_not_heard h.found device k.nwk in
    let second = why_not_sealed s in
    let free : or_else first second ≡ None = sym (no_confirmation s device k h) ∙ none in
    let unspent = when_none (both_spent s) CounterSpent (or_second first second free) in
    proof_plan tools delivers c m s k draw d st rn h l
    ∙ free_at f h.found (shown_again tools c m k (confirms_again c device l.row.key (both_spent s)))
    (or_first first second free)
    ∙ ap (λ b. shown_again tools c m k (confirms_again c device l.row.key b)) unspent

-- and the counters aren't at their end then
pub proof_unspent : (s : NodeState) (device : ℕ) (k : Seals) → HasNetwork s k.key k.sequence
    → why_no_confirmation s device k ≡ None → both_spent s ≡ false
proof_unspent s device k h none =
    when_none (both_spent s) CounterSpent
    (or_second (why_not_heard h.found device k.nwk) (why_not_sealed s) (sym (no_confirmation s device k h) ∙ none))

pub confirmed_again : (tools : Tools) → DeliversCommands tools
    → (c m : Setting) (s : NodeState) (k : Seals) (draw : Option Bytes) → AreDeclared c m → StationsInRange c m
    → NwkInRange k → HasNetwork s k.key k.sequence → HasProved s m.me.eui k.link
    → why_no_confirmation s m.me.eui k ≡ None
    → Confirms tools c m s (after_task tools c s (Received (proof_bytes tools c m k) draw)) k
    (frame_of tools c s (Received (proof_bytes tools c m k) draw))
unfolding after_task answer counting_of
confirmed_again tools delivers c m s k draw d st rn h l none =
    let f = net_frame m c k in
    let device = m.me.eui in
    let unspent = proof_unspent s device k h none in
    let p = shown_again tools c m k (confirms_again c device l.row.key false) in
    let plan = proof_freely tools delivers c m s k draw d st rn h l none in
    let u = answered (answer_by tools c s (counting_of c s p) p) s in
    let rows : bare u ≡ bare s = bare_after tools c s (counting_of c s p) p [] refl tt in
    subst (λ q. Confirms tools c m s (answered (answer_by tools c s (counting_of c s q) q) s) k
    (answer_by tools c s (counting_of c s q) q).frame) (sym plan)
    (record {
      sent =
          sealed_out tools c s (counting_of c s p)
          (net_term f (clear_content tools k.nwk (VerifyKey 4 device (verify_hash tools k.link))) ∷ []) AtAps []
          h.active (short_of c device) ForData l.row.key (ConfirmKey 0 4 device) h.is_active unspent
          ∙ four (λ to net sequence link. Some
          (sealed_bytes tools
          (record {
            to = to;
            from = c.me.short;
            source = c.me.eui;
            key = net;
            sequence = sequence;
            counter = next_counter Nwk s;
          })
          (record {
            label = ForData;
            link = link;
            source = c.me.eui;
            counter = next_counter Aps s;
            command = ConfirmKey 0 4 device;
          })))
          (short_of c device) m.me.short h.active.key k.key h.active.sequence k.sequence l.row.key k.link
          d.network.short_known h.active_key h.active_sequence l.row_key;
      network = network_left s u k.key k.sequence h rows;
      keys = proved_left s u device k.link l rows;
    })
