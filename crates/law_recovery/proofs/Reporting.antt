-- A router reports a child that joins, and the centre answers in a Tunnel.
use Rattle.std.proofs.Common.{◌≡◌, ℕ, ◌<◌, ◌^◌, nat_lt, Bool, true, false, List, [], ◌∷◌, filter, Option, Some, None, refl, sym, ap, ◌∙◌}
use Rattle.std.specs.Prelude.{is_none}
use Rattle.zb_model.specs.Data.{Bytes, Nwk, Aps, ForData, ForTransport, AtAps, AtEvent, Term, Place, Move, NotMember, CounterSpent, UpdateDevice, TransportNet, Tunnel, HasChild, Received}
use Rattle.zb_model.specs.Fits.{keeps_rules}
use Rattle.zb_model.specs.Frames.{secured_frame, nwk_term, aps_term, sealed_command, clear_command, low_byte}
use Rattle.zb_model.specs.State.{NetKey, LinkKey, NodeState, is_centre, may_use, active_row, usable_active, current, next_counter}
use Rattle.zb_model.specs.Tools.{Tools}
use Rattle.zb_model.specs.Rules.{Setting, Plan, Outcome, Stop, Does, Secret, Tunnelled, sends, refuse_if, found_or, choose, centre_of, short_of, acts_as_router, in_rejoining, both_spent}
use Rattle.zb_model.specs.OwnEvents.{child_of_router, own}
use Rattle.zb_model.specs.Commands.{take_update, take_command}
use Rattle.zb_model.specs.Answer.{Answer, Counting, comes_to, changes, moves_of, part_of, may_seal, out_of, reason_of, refusal_of, answer_by, counting_of, plan_of, answer, answered}
use Rattle.law_recovery.specs.Answering.{after_task, frame_of}
use Rattle.law_recovery.specs.Rejoining.{answer_frame}
use Rattle.law_recovery.proofs.Asking.{by_outcome}
use Rattle.law_recovery.proofs.Candidates.{one_candidate}
use Rattle.law_recovery.specs.CommandFrames.{net_term, sealed_content, sealed_bytes, clear_bytes}
use Rattle.law_recovery.specs.Exchanging.{Seals, net_frame, seals_now, StationsInRange, NwkInRange, ApsInRange}
use Rattle.law_recovery.specs.Meeting.{HasNetwork, HasLink}
use Rattle.law_recovery.specs.Obstacles.{or_else, in_row, obstacle_if, why_not_heard, why_not_opened, why_not_sealed}
use Rattle.law_recovery.proofs.Baring.{bare, bare_after}
use Rattle.law_recovery.proofs.Judged.{IsOpened, plan_at, plan_opened, both_terms, heard_with, delivered_sealed, refused_at, refused_opened, free_at, free_opened, or_first, or_second, when_none}
use Rattle.law_recovery.proofs.Quiet.{quiet, quiet_after}
use Rattle.law_recovery.proofs.Requesting.{four, heard_up, net_range}
use Rattle.law_recovery.proofs.Rows.{may_use_of}
use Rattle.law_recovery.proofs.Sending.{apart_spent, sealed_out}
use Rattle.law_recovery.specs.Relaying.{AreRouted, IsRouting, why_no_report, why_no_tunnel}
use Rattle.law_recovery.specs.RouterFrames.{DeliversRelays, ReportInRange, joins_now, report, report_bytes, tunnel, tunnel_bytes}

-- ---- the report is sent

router_answer : (tools : Tools) (r : Setting) (t : NodeState) (child : ℕ) (o : Outcome) → is_centre r.me.role ≡ false
    → child_of_router r t child false ≡ o → answer tools r t (HasChild child false) ≡ by_outcome tools r t o
unfolding answer plan_of own
router_answer tools r t child o role e = rw role (ap (by_outcome tools r t) e)

abbrev reports : ℕ → ℕ → Bool → Bytes → Outcome
reports device short true link = Stop CounterSpent
reports device short false link = Does [] (sends 0 true (Secret ForData link (UpdateDevice device short joins_now)))

reports_by : (r : Setting) (t : NodeState) (child : ℕ) (net : NetKey) (row : LinkKey) (b : Bool) → may_use t ≡ true
    → active_row t ≡ Some net → in_rejoining t.state ≡ false → current t (centre_of r.stations) ≡ Some row
    → both_spent t ≡ b → child_of_router r t child false ≡ reports child (short_of r child) b row.key
unfolding child_of_router found_or refuse_if usable_active
reports_by r t child net row true may active stays here e = rw (may, active, stays, here, e) refl
reports_by r t child net row false may active stays here e = rw (may, active, stays, here, e) refl

report_answer : (tools : Tools) (c r m : Setting) (t : NodeState) (key : Bytes) (sequence : ℕ) (link : Bytes)
    → AreRouted c r m → (j : IsRouting t c.me.eui key sequence link) → (b : Bool) → both_spent t ≡ b
    → answer tools r t (HasChild m.me.eui false)
    ≡ by_outcome tools r t (reports m.me.eui (short_of r m.me.eui) b j.keys.row.key)
report_answer tools c r m t key sequence link d j b e =
    router_answer tools r t m.me.eui (reports m.me.eui (short_of r m.me.eui) b j.keys.row.key)
    d.router.network.member_role
    (reports_by r t m.me.eui j.network.active j.keys.row b (may_use_of t key sequence j.network) j.network.is_active
    j.stays (ap (current t) d.router.network.centre_known ∙ j.keys.is_current) e)

report_reason : (tools : Tools) (r : Setting) (t : NodeState) (device short : ℕ) (link : Bytes) (b : Bool)
    → (by_outcome tools r t (reports device short b link)).refusal ≡ obstacle_if b CounterSpent
unfolding answer_by
report_reason tools r t device short link true = refl
report_reason tools r t device short link false = refl

pub report_refused : (tools : Tools) (c r m : Setting) (t : NodeState) (key : Bytes) (sequence : ℕ) (link : Bytes)
    → AreRouted c r m → IsRouting t c.me.eui key sequence link
    → (answer tools r t (HasChild m.me.eui false)).refusal ≡ why_no_report t
report_refused tools c r m t key sequence link d j =
    ap (λ (a : Answer). a.refusal) (report_answer tools c r m t key sequence link d j (both_spent t) refl)
    ∙ report_reason tools r t m.me.eui (short_of r m.me.eui) j.keys.row.key (both_spent t)

pub report_sent : (tools : Tools) (c r m : Setting) (t : NodeState) (key : Bytes) (sequence : ℕ) (link : Bytes)
    → AreRouted c r m → IsRouting t c.me.eui key sequence link → why_no_report t ≡ None
    → frame_of tools r t (HasChild m.me.eui false) ≡ Some (report_bytes tools c r m (seals_now t key sequence link))
unfolding counting_of
report_sent tools c r m t key sequence link d j none =
    let unspent = when_none (both_spent t) CounterSpent none in
    let h = j.network in
    let k = seals_now t key sequence link in
    let short = short_of r m.me.eui in
    ap (λ (a : Answer). a.frame) (report_answer tools c r m t key sequence link d j false unspent)
    ∙ sealed_out tools r t
    (counting_of r t (comes_to [] AtEvent (reports m.me.eui short false j.keys.row.key))) [] AtEvent [] h.active 0
    ForData j.keys.row.key (UpdateDevice m.me.eui short joins_now) h.is_active unspent
    ∙ four (λ to key sequence link. Some
    (sealed_bytes tools
    (record {
      to = to;
      from = r.me.short;
      source = r.me.eui;
      key = key;
      sequence = sequence;
      counter = next_counter Nwk t;
    })
    (record {
      label = ForData;
      link = link;
      source = r.me.eui;
      counter = next_counter Aps t;
      command = UpdateDevice m.me.eui short joins_now;
    })))
    0 c.me.short h.active.key key h.active.sequence sequence j.keys.row.key link (sym d.router.centre_short)
    h.active_key h.active_sequence j.keys.row_key
    ∙ ap (λ n. Some
    (sealed_bytes tools (net_frame r c k) (record (report r m k) { command = UpdateDevice m.me.eui n joins_now })))
    d.child_short

reports_no_moves : (device short : ℕ) (b : Bool) (link : Bytes) → moves_of (reports device short b link) ≡ []
reports_no_moves device short true link = refl
reports_no_moves device short false link = refl

pub report_bare : (tools : Tools) (c r m : Setting) (t : NodeState) (key : Bytes) (sequence : ℕ) (link : Bytes)
    → AreRouted c r m → IsRouting t c.me.eui key sequence link
    → bare (after_task tools r t (HasChild m.me.eui false)) ≡ bare t
unfolding after_task
report_bare tools c r m t key sequence link d j =
    let o = reports m.me.eui (short_of r m.me.eui) (both_spent t) j.keys.row.key in
    ap (λ a. bare (answered a t)) (report_answer tools c r m t key sequence link d j (both_spent t) refl)
    ∙ bare_after tools r t (counting_of r t (comes_to [] AtEvent o)) (comes_to [] AtEvent o) []
    (ap (filter (changes t))
    (reports_no_moves m.me.eui (short_of r m.me.eui) (both_spent t) j.keys.row.key)) tt

-- the report leaves the floors of senders
pub report_quiet : (tools : Tools) (c r m : Setting) (t : NodeState) (key : Bytes) (sequence : ℕ) (link : Bytes)
    → AreRouted c r m → IsRouting t c.me.eui key sequence link
    → quiet (after_task tools r t (HasChild m.me.eui false)) ≡ quiet t
unfolding after_task
report_quiet tools c r m t key sequence link d j =
    let o = reports m.me.eui (short_of r m.me.eui) (both_spent t) j.keys.row.key in
    ap (λ a. quiet (answered a t)) (report_answer tools c r m t key sequence link d j (both_spent t) refl)
    ∙ quiet_after tools r t (counting_of r t (comes_to [] AtEvent o)) o
    (reports_no_moves m.me.eui (short_of r m.me.eui) (both_spent t) j.keys.row.key)

-- ---- the report is delivered to the centre

abbrev answers : Setting → ℕ → ℕ → NetKey → Option LinkKey → Bool → Outcome
answers c router device net None b = Stop NotMember
answers c router device net (Some row) true = Stop CounterSpent
answers c router device net (Some row) false =
    Does []
    (sends (short_of c router) true (Tunnelled device row.key (TransportNet net.key net.sequence device c.me.eui)))

answers_by : (tools : Tools) (c r m : Setting) (s : NodeState) (k : Seals) (link : LinkKey) (net : NetKey)
    (draw : Option Bytes) → is_centre c.me.role ≡ true → acts_as_router c r.me.eui ≡ true → active_row s ≡ Some net
    → (o : Option LinkKey) (b : Bool) → current s m.me.eui ≡ o → both_spent s ≡ b
    → take_command tools c s draw (heard_with tools (net_frame r c k) (report r m k) link)
    (UpdateDevice m.me.eui m.me.short joins_now) ≡ answers c r.me.eui m.me.eui net o b
unfolding take_command take_update refuse_if choose found_or
answers_by tools c r m s k link net draw role acts active None b x y = rw (role, acts, active, x) refl
answers_by tools c r m s k link net draw role acts active (Some row) true x y = rw (role, acts, active, x, y) refl
answers_by tools c r m s k link net draw role acts active (Some row) false x y = rw (role, acts, active, x, y) refl

answer_reason : (c : Setting) (router device : ℕ) (net : NetKey) (o : Option LinkKey) (b : Bool)
    → reason_of (answers c router device net o b)
    ≡ or_else (obstacle_if (is_none o) NotMember) (obstacle_if b CounterSpent)
answer_reason c router device net None b = refl
answer_reason c router device net (Some row) true = refl
answer_reason c router device net (Some row) false = refl

report_range : (r m : Setting) (k : Seals) → r.me.eui < 2 ^ 64 → m.me.eui < 2 ^ 64 → m.me.short < 2 ^ 16
    → ApsInRange k → ReportInRange (report r m k) m.me.eui m.me.short
report_range r m k source device short ra =
    record { link = ra.link; source = source; counter = ra.counter; device_fits = device; short_fits = short }

abbrev answers_now : Setting → Setting → Setting → NodeState → NetKey → Outcome
answers_now c r m s net = answers c r.me.eui m.me.eui net (current s m.me.eui) (both_spent s)

abbrev told_plan : Tools → Setting → Setting → Setting → Seals → Outcome → Plan
told_plan tools c r m k o = comes_to (both_terms tools (net_frame r c k) (report r m k)) AtAps o

report_plan : (tools : Tools) → DeliversRelays tools → (c r m : Setting) (s : NodeState) (k : Seals) (net : NetKey)
    (draw : Option Bytes) → AreRouted c r m → StationsInRange c r → StationsInRange c m → NwkInRange k → ApsInRange k
    → keeps_rules s ≡ true → active_row s ≡ Some net → (h : HasNetwork s k.key k.sequence)
    → (l : HasLink s r.me.eui k.link)
    → plan_of tools c s (Received (report_bytes tools c r m k) draw)
    ≡ plan_at (net_frame r c k) h.found
    (plan_opened (nat_lt k.aps l.row.kept) (net_term (net_frame r c k) (sealed_content tools (report r m k)) ∷ [])
    l.row.kept (told_plan tools c r m k (answers_now c r m s net)))
report_plan tools delivers c r m s k net draw d sr sm rn ra rules active h l =
    let f = net_frame r c k in
    let range = report_range r m k sr.device sm.device sm.device_short ra in
    let frame = net_range r c k sr.device_short sr.centre_short sr.device rn in
    let open_ : IsOpened s (report r m k) l.row =
    record {
      rest = [];
      first = one_candidate s r.me.eui l.row rules l.is_current l.none_offered;
      same = l.row_key;
      small = ra.counter;
    } in
    delivered_sealed tools c s f (report r m k) h.found l.row draw
    (delivers.carried f (report r m k) m.me.eui m.me.short frame range)
    (delivers.unsealed (report r m k) m.me.eui m.me.short range) (heard_up c r s k l.row d.router h l.is_current
    rn.counter) open_
    ∙ ap (λ o. plan_at f h.found
    (plan_opened (nat_lt k.aps l.row.kept) (net_term f (sealed_content tools (report r m k)) ∷ []) l.row.kept
    (told_plan tools c r m k o)))
    (answers_by tools c r m s k l.row net draw d.router.network.centre_role d.router_acts active
    (current s m.me.eui) (both_spent s) refl refl)

-- the reason, with the values of what is looked up
why_is : (s : NodeState) (router device : ℕ) (k : Seals) (h : HasNetwork s k.key k.sequence)
    (l : HasLink s router k.link)
    → why_no_tunnel s router device k
    ≡ or_else (why_not_heard h.found router k.nwk)
    (or_else (why_not_opened l.row k.aps)
    (or_else (obstacle_if (is_none (current s device)) NotMember) (why_not_sealed s)))
unfolding why_no_tunnel
why_is s router device k h l =
    let rest = or_else (obstacle_if (is_none (current s device)) NotMember) (why_not_sealed s) in
    ap (λ o. or_else (in_row o (λ row. why_not_heard row router k.nwk))
    (or_else (in_row (current s router) (λ row. why_not_opened row k.aps)) rest)) h.is_found
    ∙ ap (λ o. or_else (why_not_heard h.found router k.nwk)
    (or_else (in_row o (λ row. why_not_opened row k.aps)) rest))
    l.is_current

pub tunnel_refused : (tools : Tools) → DeliversRelays tools → (c r m : Setting) (s : NodeState) (k : Seals)
    (net : NetKey) (draw : Option Bytes) → AreRouted c r m → StationsInRange c r → StationsInRange c m → NwkInRange k
    → ApsInRange k → keeps_rules s ≡ true → active_row s ≡ Some net → HasNetwork s k.key k.sequence
    → HasLink s r.me.eui k.link
    → (answer tools c s (Received (report_bytes tools c r m k) draw)).refusal ≡ why_no_tunnel s r.me.eui m.me.eui k
unfolding answer answer_by
tunnel_refused tools delivers c r m s k net draw d sr sm rn ra rules active h l =
    let f = net_frame r c k in
    let last = told_plan tools c r m k (answers_now c r m s net) in
    let first = net_term f (sealed_content tools (report r m k)) ∷ [] in
    ap refusal_of (report_plan tools delivers c r m s k net draw d sr sm rn ra rules active h l)
    ∙ refused_at f h.found (plan_opened (nat_lt k.aps l.row.kept) first l.row.kept last)
    ∙ ap (or_else (why_not_heard h.found r.me.eui k.nwk)) (refused_opened first l.row k.aps last)
    ∙ ap (λ o. or_else (why_not_heard h.found r.me.eui k.nwk) (or_else (why_not_opened l.row k.aps) o))
    (answer_reason c r.me.eui m.me.eui net (current s m.me.eui) (both_spent s))
    ∙ sym (why_is s r.me.eui m.me.eui k h l)

-- ---- if nothing prevents it

tunnelled_out : (tools : Tools) (c : Setting) (s : NodeState) (k : Counting) (accepts : List Term) (place : Place)
    (moves : List Move) (net : NetKey) (to device : ℕ) (link : Bytes) (command : _) → active_row s ≡ Some net
    → both_spent s ≡ false
    → (answer_by tools c s k
    (comes_to accepts place (Does moves (sends to true (Tunnelled device link command))))).frame
    ≡ Some (tools.wire
    (nwk_term secured_frame to c.me.short c.me.eui net.key net.sequence (k.counter Nwk)
    (clear_command ∷ low_byte (k.counter Nwk)
    ∷ tools.spelled
    (Tunnel device
    (tools.wire
    (aps_term sealed_command ForTransport link c.me.eui (k.counter Aps) (tools.spelled command)))))))
unfolding answer_by out_of may_seal part_of
tunnelled_out tools c s k accepts place moves net to device link command active unspent =
    let z = apart_spent s unspent in
    rw (z.0, z.1, active) refl

tunnel_plan : (tools : Tools) → DeliversRelays tools → (c r m : Setting) (s : NodeState) (k : Seals) (net : NetKey)
    (row : LinkKey) (draw : Option Bytes) → AreRouted c r m → StationsInRange c r → StationsInRange c m → NwkInRange k
    → ApsInRange k → keeps_rules s ≡ true → active_row s ≡ Some net → current s m.me.eui ≡ Some row
    → (h : HasNetwork s k.key k.sequence) → (l : HasLink s r.me.eui k.link)
    → why_no_tunnel s r.me.eui m.me.eui k ≡ None
    → plan_of tools c s (Received (report_bytes tools c r m k) draw)
    ≡ told_plan tools c r m k (answers c r.me.eui m.me.eui net (Some row) false)
tunnel_plan tools delivers c r m s k net row draw d sr sm rn ra rules active here h l none =
    let f = net_frame r c k in
    let e = sym (why_is s r.me.eui m.me.eui k h l) ∙ none in
    let first = why_not_heard h.found r.me.eui k.nwk in
    let second = why_not_opened l.row k.aps in
    let third = obstacle_if (is_none (current s m.me.eui)) NotMember in
    let fourth = why_not_sealed s in
    let more = or_second first (or_else second (or_else third fourth)) e in
    let unspent = when_none (both_spent s) CounterSpent
    (or_second third fourth (or_second second (or_else third fourth) more)) in
    let last = told_plan tools c r m k (answers_now c r m s net) in
    let terms = net_term f (sealed_content tools (report r m k)) ∷ [] in
    report_plan tools delivers c r m s k net draw d sr sm rn ra rules active h l
    ∙ free_at f h.found (plan_opened (nat_lt k.aps l.row.kept) terms l.row.kept last)
    (or_first first (or_else second (or_else third fourth)) e)
    ∙ free_opened terms l.row k.aps last (or_first second (or_else third fourth) more)
    ∙ ap (λ o. told_plan tools c r m k (answers c r.me.eui m.me.eui net o (both_spent s))) here
    ∙ ap (λ b. told_plan tools c r m k (answers c r.me.eui m.me.eui net (Some row) b)) unspent

pub unspent_of : (s : NodeState) (router device : ℕ) (k : Seals) → HasNetwork s k.key k.sequence
    → HasLink s router k.link → why_no_tunnel s router device k ≡ None → both_spent s ≡ false
unspent_of s router device k h l none =
    let e = sym (why_is s router device k h l) ∙ none in
    let first = why_not_heard h.found router k.nwk in
    let second = why_not_opened l.row k.aps in
    let third = obstacle_if (is_none (current s device)) NotMember in
    let fourth = why_not_sealed s in
    when_none (both_spent s) CounterSpent
    (or_second third fourth
    (or_second second (or_else third fourth) (or_second first (or_else second (or_else third fourth)) e)))

pub tunnel_sent : (tools : Tools) → DeliversRelays tools → (c r m : Setting) (s : NodeState) (k : Seals)
    (net : NetKey) (row : LinkKey) (draw : Option Bytes) → AreRouted c r m → StationsInRange c r
    → StationsInRange c m → NwkInRange k → ApsInRange k → keeps_rules s ≡ true → active_row s ≡ Some net
    → current s m.me.eui ≡ Some row → HasNetwork s k.key k.sequence → HasLink s r.me.eui k.link
    → why_no_tunnel s r.me.eui m.me.eui k ≡ None
    → frame_of tools c s (Received (report_bytes tools c r m k) draw)
    ≡ Some (tunnel_bytes tools c r (seals_now s net.key net.sequence k.link) (answer_frame c m s net row))
unfolding answer counting_of
tunnel_sent tools delivers c r m s k net row draw d sr sm rn ra rules active here h l none =
    let p = told_plan tools c r m k (answers c r.me.eui m.me.eui net (Some row) false) in
    let inner = tunnel tools (answer_frame c m s net row) in
    ap (λ q. (answer_by tools c s (counting_of c s q) q).frame)
    (tunnel_plan tools delivers c r m s k net row draw d sr sm rn ra rules active here h l none)
    ∙ tunnelled_out tools c s (counting_of c s p) (both_terms tools (net_frame r c k) (report r m k)) AtAps [] net
    (short_of c r.me.eui) m.me.eui row.key (TransportNet net.key net.sequence m.me.eui c.me.eui) active
    (unspent_of s r.me.eui m.me.eui k h l none)
    ∙ ap (λ to. Some
    (clear_bytes tools
    (record {
      to = to;
      from = c.me.short;
      source = c.me.eui;
      key = net.key;
      sequence = net.sequence;
      counter = next_counter Nwk s;
    }) inner)) d.router.network.short_known

pub tunnel_bare : (tools : Tools) → DeliversRelays tools → (c r m : Setting) (s : NodeState) (k : Seals)
    (net : NetKey) (row : LinkKey) (draw : Option Bytes) → AreRouted c r m → StationsInRange c r
    → StationsInRange c m → NwkInRange k → ApsInRange k → keeps_rules s ≡ true → active_row s ≡ Some net
    → current s m.me.eui ≡ Some row → HasNetwork s k.key k.sequence → HasLink s r.me.eui k.link
    → why_no_tunnel s r.me.eui m.me.eui k ≡ None
    → bare (after_task tools c s (Received (report_bytes tools c r m k) draw)) ≡ bare s
unfolding after_task answer
tunnel_bare tools delivers c r m s k net row draw d sr sm rn ra rules active here h l none =
    let p = told_plan tools c r m k (answers c r.me.eui m.me.eui net (Some row) false) in
    ap (λ q. bare (answered (answer_by tools c s (counting_of c s q) q) s))
    (tunnel_plan tools delivers c r m s k net row draw d sr sm rn ra rules active here h l none)
    ∙ bare_after tools c s (counting_of c s p) p [] refl tt
