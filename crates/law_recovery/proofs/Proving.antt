-- The device proves the key that it was offered, and the centre accepts the proof and confirms.
use Rattle.std.proofs.Common.{◌≡◌, ℕ, Bool, true, false, not, if◌then◌else◌, List, [], ◌∷◌, map, filter, Option, Some, None, nat_eq, refl, sym, ap, ◌∙◌, eq-eqb, eqb-true, subst, arith}
use Rattle.zb_model.specs.Data.{Bytes, Nwk, Aps, Offered, Verified, ForData, AtAps, AtEvent, CounterSpent, Move, DropLink, Row, VerifyKey, ConfirmKey, DoTimer, Received}
use Rattle.zb_model.specs.Fits.{keeps_rules}
use Rattle.zb_model.specs.Frames.{clear_command}
use Rattle.zb_model.specs.State.{NetKey, LinkKey, NodeState, same_key, is_centre, has_link, is_link, is_live_of, is_unverified, is_told, is_live, at_link, dropped_link, revived, with_link, moved, may_use, active_row, usable_active, current, offered, next_counter}
use Rattle.zb_model.specs.Tools.{Tools, verify_hash}
use Rattle.zb_model.specs.Rules.{Setting, Plan, Outcome, Stop, Does, Secret, Clear, sends, refuse_if, found_or, choose, centre_of, short_of, spent, both_spent}
use Rattle.zb_model.specs.OwnEvents.{member_timer, verify_key}
use Rattle.zb_model.specs.Commands.{take_verify, take_command}
use Rattle.zb_model.specs.Answer.{Answer, comes_to, changes, moves_of, reason_of, refusal_of, answer_by, counting_of, plan_of, answer, answered}
use Rattle.law_change_fits.proofs.Parts.{rules_of, same_key_of}
use Rattle.law_change_fits.proofs.Tests.{any_map, any_same, both}
use Rattle.law_recovery.specs.Answering.{after_task, frame_of}
use Rattle.law_recovery.proofs.Asking.{by_outcome}
use Rattle.law_recovery.specs.CommandFrames.{NetFrame, net_term, clear_content, clear_bytes, sealed_bytes, ClearInRange, DeliversCommands}
use Rattle.law_recovery.specs.Exchanging.{Seals, net_frame, proof_bytes, seals_now, Confirms, StationsInRange, NwkInRange}
use Rattle.law_recovery.specs.Meeting.{AreDeclared, HasNetwork, HasOffer, HasProved, IsOffered}
use Rattle.law_recovery.specs.Obstacles.{or_else, obstacle_if, why_not_heard, why_not_sealed, why_not_sealed_at_nwk}
use Rattle.law_recovery.proofs.Baring.{bare, bare_link, bare_after, moved_all}
use Rattle.law_recovery.proofs.Quiet.{quiet, quiet_after}
use Rattle.law_recovery.proofs.Rows.{may_use_of, is_current, found_test, not_verified, has_offer}
use Rattle.law_recovery.proofs.Sending.{sealed_out, clear_out}
use Rattle.law_recovery.proofs.Judged.{plan_at, heard_open, delivered_clear, refused_at, free_at, or_first, or_second, when_none}
use Rattle.law_recovery.proofs.Keeping.{keeps_network, network_left, state_left, offer_left, tries_left, links_of, proof_comes, is_member}
use Rattle.law_recovery.proofs.Requesting.{four, net_range, timer_answer, heard_up}

-- ---- the proof is sent

abbrev shows : Tools → Setting → Bool → Bytes → Outcome
shows tools m true key = Stop CounterSpent
shows tools m false key = Does [] (sends 0 true (Clear clear_command (VerifyKey 4 m.me.eui (verify_hash tools key))))

shows_by : (tools : Tools) (m : Setting) (t : NodeState) (row : LinkKey) (b : Bool) → offered t (centre_of m.stations)
    ≡ Some row → spent Nwk t ≡ b → verify_key tools m t ≡ shows tools m b row.key
unfolding verify_key found_or refuse_if
shows_by tools m t row true e f = rw (e, f) refl
shows_by tools m t row false e f = rw (e, f) refl

offered_timer : (tools : Tools) (m : Setting) (t : NodeState) (net : NetKey) → may_use t ≡ true → active_row t
    ≡ Some net → t.state ≡ Offered → member_timer tools m t ≡ verify_key tools m t
unfolding member_timer found_or usable_active
offered_timer tools m t net may active state = rw (may, active, state) refl

proof_answer : (tools : Tools) (c m : Setting) (t : NodeState) (key : Bytes) (sequence : ℕ) (link : Bytes)
    → AreDeclared c m → (j : IsOffered t c.me.eui key sequence link) → (b : Bool) → spent Nwk t ≡ b
    → answer tools m t DoTimer ≡ by_outcome tools m t (shows tools m b j.keys.offer.key)
proof_answer tools c m t key sequence link d j b e =
    timer_answer tools m t (shows tools m b j.keys.offer.key) d.network.member_role
    (offered_timer tools m t j.network.active (may_use_of t key sequence j.network) j.network.is_active j.is_offered
    ∙ shows_by tools m t j.keys.offer b (ap (offered t) d.network.centre_known ∙ j.keys.is_offered) e)

proof_reason : (tools : Tools) (m : Setting) (t : NodeState) (key : Bytes) (b : Bool)
    → (by_outcome tools m t (shows tools m b key)).refusal ≡ obstacle_if b CounterSpent
unfolding answer_by
proof_reason tools m t key true = refl
proof_reason tools m t key false = refl

pub proof_refused : (tools : Tools) (c m : Setting) (t : NodeState) (key : Bytes) (sequence : ℕ) (link : Bytes)
    → AreDeclared c m → IsOffered t c.me.eui key sequence link → (answer tools m t DoTimer).refusal
    ≡ why_not_sealed_at_nwk t
proof_refused tools c m t key sequence link d j =
    ap (λ (a : Answer). a.refusal) (proof_answer tools c m t key sequence link d j (spent Nwk t) refl) ∙ proof_reason
    tools m t j.keys.offer.key (spent Nwk t)

pub proof_sent : (tools : Tools) (c m : Setting) (t : NodeState) (key : Bytes) (sequence : ℕ) (link : Bytes)
    → AreDeclared c m → IsOffered t c.me.eui key sequence link → why_not_sealed_at_nwk t ≡ None
    → frame_of tools m t DoTimer ≡ Some (proof_bytes tools c m (seals_now t key sequence link))
unfolding counting_of
proof_sent tools c m t key sequence link d j none =
    let unspent = when_none (spent Nwk t) CounterSpent none in
    let h = j.network in
    ap (λ (a : Answer). a.frame) (proof_answer tools c m t key sequence link d j false unspent)
    ∙ clear_out tools m t (counting_of m t (comes_to [] AtEvent (shows tools m false j.keys.offer.key))) [] AtEvent []
    h.active 0 (VerifyKey 4 m.me.eui (verify_hash tools j.keys.offer.key)) h.is_active unspent
    ∙ four (λ to key sequence link. Some
    (clear_bytes tools
    (record {
      to = to;
      from = m.me.short;
      source = m.me.eui;
      key = key;
      sequence = sequence;
      counter = next_counter Nwk t;
    }) (VerifyKey 4 m.me.eui (verify_hash tools link))))
    0 c.me.short h.active.key key h.active.sequence sequence j.keys.offer.key link (sym d.centre_short) h.active_key
    h.active_sequence j.keys.offer_key

shows_no_moves : (tools : Tools) (m : Setting) (b : Bool) (key : Bytes) → moves_of (shows tools m b key) ≡ []
shows_no_moves tools m true key = refl
shows_no_moves tools m false key = refl

pub proof_bare : (tools : Tools) (c m : Setting) (t : NodeState) (key : Bytes) (sequence : ℕ) (link : Bytes)
    → AreDeclared c m → IsOffered t c.me.eui key sequence link → bare (after_task tools m t DoTimer) ≡ bare t
unfolding after_task
proof_bare tools c m t key sequence link d j =
    ap (λ a. bare (answered a t)) (proof_answer tools c m t key sequence link d j (spent Nwk t) refl)
    ∙ bare_after tools m t (counting_of m t (comes_to [] AtEvent (shows tools m (spent Nwk t) j.keys.offer.key)))
    (comes_to [] AtEvent (shows tools m (spent Nwk t) j.keys.offer.key)) []
    (ap (filter (changes t)) (shows_no_moves tools m (spent Nwk t) j.keys.offer.key)) tt

-- the proof leaves the floors of senders
pub proof_quiet : (tools : Tools) (c m : Setting) (t : NodeState) (key : Bytes) (sequence : ℕ) (link : Bytes)
    → AreDeclared c m → IsOffered t c.me.eui key sequence link → quiet (after_task tools m t DoTimer) ≡ quiet t
unfolding after_task
proof_quiet tools c m t key sequence link d j =
    let o = shows tools m (spent Nwk t) j.keys.offer.key in
    ap (λ a. quiet (answered a t)) (proof_answer tools c m t key sequence link d j (spent Nwk t) refl)
    ∙ quiet_after tools m t (counting_of m t (comes_to [] AtEvent o)) o
    (shows_no_moves tools m (spent Nwk t) j.keys.offer.key)

pub still_offered : (t u : NodeState) (centre : ℕ) (key : Bytes) (sequence : ℕ) (link : Bytes)
    → IsOffered t centre key sequence link → bare u ≡ bare t → IsOffered u centre key sequence link
still_offered t u centre key sequence link j e =
    let tries =
    tries_left t u centre link (record { tried = j.tried; tried_first = j.tried_first; tried_key = j.tried_key })
    e in
    record {
      network = network_left t u key sequence j.network e;
      is_offered = state_left t u e ∙ j.is_offered;
      keys = offer_left t u centre link j.keys e;
      tried = tries.tried;
      tried_first = tries.tried_first;
      tried_key = tries.tried_key;
    }

-- ---- the proof is delivered to the centre

abbrev pub proved_moves : ℕ → LinkKey → LinkKey → List Move
proved_moves device row offer = DropLink row.partner row.key ∷ Row device offer.key Verified ∷ []

abbrev pub confirms : Setting → ℕ → LinkKey → LinkKey → Bool → Outcome
confirms c device row offer true = Stop CounterSpent
confirms c device row offer false =
    Does (proved_moves device row offer)
    (sends (short_of c device) true (Secret ForData offer.key (ConfirmKey 0 4 device)))

confirms_by : (tools : Tools) (c m : Setting) (s : NodeState) (f : NetFrame) (row offer : LinkKey) (hash : Bytes)
    (draw : Option Bytes) → is_centre c.me.role ≡ true → f.source ≡ m.me.eui → current s m.me.eui ≡ Some row
    → offered s m.me.eui ≡ Some offer
    → same_key (verify_hash tools offer.key) hash ≡ true → is_live s m.me.eui ≡ true → (b : Bool) → both_spent s ≡ b
    → take_command tools c s draw (heard_open tools f (VerifyKey 4 m.me.eui hash)) (VerifyKey 4 m.me.eui hash)
    ≡ confirms c m.me.eui row offer b
unfolding take_command take_verify refuse_if choose found_or
confirms_by tools c m s f row offer hash draw role source here there good live true x =
    rw (role, eq-eqb m.me.eui f.source (sym source), live, there, x) refl
confirms_by tools c m s f row offer hash draw role source here there good live false x =
    rw (role, eq-eqb m.me.eui f.source (sym source), live, there, x, here, good) refl

confirm_reason : (c : Setting) (device : ℕ) (row offer : LinkKey) (b : Bool)
    → reason_of (confirms c device row offer b) ≡ obstacle_if b CounterSpent
confirm_reason c device row offer true = refl
confirm_reason c device row offer false = refl

abbrev pub shown_to : Tools → Setting → Setting → Seals → Outcome → Plan
shown_to tools c m k o =
    comes_to (net_term (net_frame m c k) (clear_content tools k.nwk (VerifyKey 4 m.me.eui (verify_hash tools k.link)))
    ∷ []) AtAps o

proved_plan : (tools : Tools) → DeliversCommands tools
    → (c m : Setting) (s : NodeState) (k : Seals) (draw : Option Bytes) → AreDeclared c m → StationsInRange c m
    → NwkInRange k → (h : HasNetwork s k.key k.sequence) → (o : HasOffer s m.me.eui k.link)
    → plan_of tools c s (Received (proof_bytes tools c m k) draw)
    ≡ plan_at (net_frame m c k) h.found (shown_to tools c m k (confirms c m.me.eui o.row o.offer (both_spent s)))
proved_plan tools delivers c m s k draw d st rn h o =
    let f = net_frame m c k in
    let command = VerifyKey 4 m.me.eui (verify_hash tools k.link) in
    let range : ClearInRange command = (omega arith, st.device, delivers.proof k.link) in
    delivered_clear tools c s f command h.found draw
    (delivers.carried_clear f command (net_range m c k st.device_short st.centre_short st.device rn) range)
    (delivers.read k.nwk command range) (heard_up c m s k o.row d h o.is_current rn.counter)
    ∙ ap (λ x. plan_at f h.found (shown_to tools c m k x))
    (confirms_by tools c m s f o.row o.offer (verify_hash tools k.link) draw d.network.centre_role refl o.is_current
    o.is_offered
    (same_key_of (verify_hash tools o.offer.key) (verify_hash tools k.link) (ap (verify_hash tools) o.offer_key))
    (is_member s m.me.eui o.row o.is_current) (both_spent s) refl)

pub confirm_refused : (tools : Tools) → DeliversCommands tools
    → (c m : Setting) (s : NodeState) (k : Seals) (draw : Option Bytes) → AreDeclared c m → StationsInRange c m
    → NwkInRange k → (h : HasNetwork s k.key k.sequence) → (o : HasOffer s m.me.eui k.link)
    → (answer tools c s (Received (proof_bytes tools c m k) draw)).refusal
    ≡ or_else (why_not_heard h.found m.me.eui k.nwk) (why_not_sealed s)
unfolding answer answer_by
confirm_refused tools delivers c m s k draw d st rn h o =
    ap refusal_of (proved_plan tools delivers c m s k draw d st rn h o)
    ∙ refused_at (net_frame m c k) h.found (shown_to tools c m k (confirms c m.me.eui o.row o.offer (both_spent s)))
    ∙ ap (or_else (why_not_heard h.found m.me.eui k.nwk)) (confirm_reason c m.me.eui o.row o.offer (both_spent s))

pub row_changes : (s : NodeState) (p : ℕ) (key : Bytes) → keeps_rules s ≡ true → (o : HasOffer s p key)
    → changes s (Row p o.offer.key Verified) ≡ true
unfolding offered
row_changes s p key rules o =
    rw (not_verified p o.offer.key o.offer s.links (rules_of s rules).link_keys o.is_offered refl) refl

gives : (s : NodeState) (device : ℕ) (key : Bytes) → keeps_rules s ≡ true → (o : HasOffer s device key)
    → filter (changes s) (proved_moves device o.row o.offer) ≡ proved_moves device o.row o.offer
gives s device key rules o =
    ap (λ b. DropLink o.row.partner o.row.key ∷ (if b then Row device o.offer.key Verified ∷ [] else []))
    (row_changes s device key rules o)

proved_network : (s u : NodeState) (device : ℕ) (row offer : LinkKey) (key : Bytes) (sequence : ℕ) → bare u
    ≡ moved_all (proved_moves device row offer) (bare s) → HasNetwork s key sequence → HasNetwork u key sequence
unfolding bare
proved_network s u device row offer key sequence e h =
    keeps_network s u (moved_all (proved_moves device row offer) (bare s)) key sequence h e refl refl
    (may_use_of s key sequence h)

-- the current row is the partner's
pub partner_is : (s : NodeState) (p : ℕ) (row : LinkKey) → current s p ≡ Some row → row.partner ≡ p
unfolding current
partner_is s p row e =
    let live =
    (both (is_live_of p row) (not (is_unverified row.attribute)) (found_test (is_current p) s.links row e)).0 in
    eqb-true row.partner p (both row.live (nat_eq row.partner p) live).1

has_key : (s : NodeState) (p : ℕ) (key : Bytes) (o : HasOffer s p key) → has_link p o.offer.key s.links ≡ true
unfolding offered
has_key s p key o = has_offer p o.offer.key o.offer s.links o.is_offered refl

dropped_has : (p : ℕ) (old new : Bytes) (rows : List LinkKey) → has_link p new (at_link p old dropped_link rows)
    ≡ has_link p new rows
dropped_has p old new rows = any_map (is_link p new) (λ (r : LinkKey). if is_link p old r then dropped_link r
    else r) rows ∙ any_same (λ (r : LinkKey). is_link p new (if is_link p old r then dropped_link r else r))
    (is_link p new) (λ r. by_test (is_link p old r) r) rows
  where
    by_test : (b : Bool) (r : LinkKey) → is_link p new (if b then dropped_link r else r) ≡ is_link p new r
    by_test true r = refl
    by_test false r = refl

-- the state between the two changes
abbrev pub dropped_first : NodeState → ℕ → LinkKey → NodeState
dropped_first s p row = moved (DropLink p row.key) (bare s)

with_row : (p : ℕ) (new : Bytes) (told : Bool) (rows : List LinkKey) → has_link p new rows ≡ true
    → with_link p new Verified told rows ≡ at_link p new (revived Verified told) rows
with_row p new told rows e = rw e refl

pub place_taken : (s : NodeState) (p : ℕ) (key : Bytes) (o : HasOffer s p key) → (told : Bool)
    → with_link p o.offer.key Verified told (at_link p o.row.key dropped_link (map bare_link s.links))
    ≡ at_link p o.offer.key (revived Verified told) (at_link p o.row.key dropped_link (map bare_link s.links))
place_taken s p key o told =
    with_row p o.offer.key told (at_link p o.row.key dropped_link (map bare_link s.links))
    (dropped_has p o.row.key o.offer.key (map bare_link s.links) ∙ any_map (is_link p o.offer.key) bare_link s.links ∙
    has_key s p key o)

proved_links : (s u : NodeState) (p : ℕ) (key : Bytes) (o : HasOffer s p key) → bare u
    ≡ moved_all (DropLink p o.row.key ∷ Row p o.offer.key Verified ∷ []) (bare s)
    → map bare_link u.links ≡ at_link p o.offer.key (revived Verified (is_told (dropped_first s p o.row) p))
    (at_link p o.row.key dropped_link (map bare_link s.links))
unfolding bare
proved_links s u p key o e = links_of u (moved_all (DropLink p o.row.key ∷ Row p o.offer.key Verified ∷ []) (bare s))
    e ∙ place_taken s p key o (is_told (dropped_first s p o.row) p)

-- the plan, if nothing prevents it
pub proved_freely : (tools : Tools) → DeliversCommands tools
    → (c m : Setting) (s : NodeState) (k : Seals) (draw : Option Bytes) → AreDeclared c m → StationsInRange c m
    → NwkInRange k → (h : HasNetwork s k.key k.sequence) → (o : HasOffer s m.me.eui k.link)
    → or_else (why_not_heard h.found m.me.eui k.nwk) (why_not_sealed s) ≡ None
    → plan_of tools c s (Received (proof_bytes tools c m k) draw)
    ≡ shown_to tools c m k (confirms c m.me.eui o.row o.offer false)
proved_freely tools delivers c m s k draw d st rn h o none =
    let f = net_frame m c k in
    let device = m.me.eui in
    let first = why_not_heard h.found device k.nwk in
    let second = why_not_sealed s in
    let unspent = when_none (both_spent s) CounterSpent (or_second first second none) in
    proved_plan tools delivers c m s k draw d st rn h o
    ∙ free_at f h.found (shown_to tools c m k (confirms c device o.row o.offer (both_spent s)))
    (or_first first second none)
    ∙ ap (λ b. shown_to tools c m k (confirms c device o.row o.offer b)) unspent

pub is_proved : (tools : Tools) → DeliversCommands tools
    → (c m : Setting) (s : NodeState) (k : Seals) (draw : Option Bytes) → AreDeclared c m → StationsInRange c m
    → NwkInRange k → keeps_rules s ≡ true → (h : HasNetwork s k.key k.sequence) → (o : HasOffer s m.me.eui k.link)
    → or_else (why_not_heard h.found m.me.eui k.nwk) (why_not_sealed s) ≡ None
    → Confirms tools c m s (after_task tools c s (Received (proof_bytes tools c m k) draw)) k
    (frame_of tools c s (Received (proof_bytes tools c m k) draw))
unfolding after_task answer counting_of
is_proved tools delivers c m s k draw d st rn rules h o none =
    let f = net_frame m c k in
    let device = m.me.eui in
    let first = why_not_heard h.found device k.nwk in
    let second = why_not_sealed s in
    let unspent = when_none (both_spent s) CounterSpent (or_second first second none) in
    let p = shown_to tools c m k (confirms c device o.row o.offer false) in
    let plan = proved_freely tools delivers c m s k draw d st rn h o none in
    let u = answered (answer_by tools c s (counting_of c s p) p) s in
    let rows : bare u ≡ moved_all (proved_moves device o.row o.offer) (bare s) =
    bare_after tools c s (counting_of c s p) p (proved_moves device o.row o.offer) (gives s device k.link rules o)
    (tt, (tt, tt)) in
    let mine : bare u ≡ moved_all (DropLink device o.row.key ∷ Row device o.offer.key Verified ∷ []) (bare s) =
    rows ∙ ap (λ n. moved_all (DropLink n o.row.key ∷ Row device o.offer.key Verified ∷ []) (bare s))
    (partner_is s device o.row o.is_current) in
    let told = is_told (dropped_first s device o.row) device in
    let same : HasOffer s device o.offer.key =
    record {
      row = o.row;
      is_current = o.is_current;
      offer = o.offer;
      is_offered = o.is_offered;
      offer_key = refl;
    } in
    subst (λ q. Confirms tools c m s (answered (answer_by tools c s (counting_of c s q) q) s) k
    (answer_by tools c s (counting_of c s q) q).frame) (sym plan)
    (record {
      sent =
          sealed_out tools c s (counting_of c s p)
          (net_term f (clear_content tools k.nwk (VerifyKey 4 device (verify_hash tools k.link))) ∷ []) AtAps
          (proved_moves device o.row o.offer) h.active (short_of c device) ForData o.offer.key
          (ConfirmKey 0 4 device) h.is_active unspent
          ∙ four (λ to net sequence link. Some
          (sealed_bytes tools
          (record {
            to = to;
            from = c.me.short;
            source = c.me.eui;
            key = net;
            sequence = sequence;
            counter = next_counter Nwk s;
          })
          (record {
            label = ForData;
            link = link;
            source = c.me.eui;
            counter = next_counter Aps s;
            command = ConfirmKey 0 4 device;
          })))
          (short_of c device) m.me.short h.active.key k.key h.active.sequence k.sequence o.offer.key k.link
          d.network.short_known h.active_key h.active_sequence o.offer_key;
      network = proved_network s u device o.row o.offer k.key k.sequence rows h;
      keys = subst (λ key. HasProved u device key) o.offer_key
          (proof_comes s u device o.offer.key told rules same (proved_links s u device k.link o mine));
    })
