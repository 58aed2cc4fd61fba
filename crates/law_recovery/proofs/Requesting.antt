-- A joined device asks its centre for a link key of its own, and the centre offers one.
use Rattle.std.proofs.Common.{◌≡◌, ℕ, ◌<◌, ◌^◌, nat_lt, Bool, true, false, ◌&&◌, ◌||◌, if◌then◌else◌, List, [], ◌∷◌, ◌++◌, map, filter, Option, Some, None, nat_eq, refl, sym, ap, ◌∙◌, eq-eqb, eqb-true, subst}
use Rattle.std.specs.Prelude.{is_none}
use Rattle.std.specs.List.{list_any}
use Rattle.std.proofs.lemmas.Bool.{false≢true}
use Rattle.zb_model.specs.Data.{Bytes, Nwk, Aps, Joined, Unverified, ForData, ForLoad, AtAps, AtEvent, NoDraw, CounterSpent, RowsFull, Move, Draw, Row, RequestLink, TransportLink, DoTimer, Received}
use Rattle.zb_model.specs.Record.{attribute_byte}
use Rattle.zb_model.specs.State.{greatest_counter, NetKey, LinkKey, NodeState, new_link, same_key, is_centre, has_net, has_link, is_link, is_known, is_told, may_use, active_row, usable_active, current, offered, next_counter}
use Rattle.zb_model.specs.Fits.{keeps_rules}
use Rattle.zb_model.specs.Tools.{Tools}
use Rattle.zb_model.specs.Rules.{Setting, Plan, Outcome, Stop, Does, Secret, sends, refuse_if, found_or, centre_of, short_of, both_spent, links_full, unless_held}
use Rattle.zb_model.specs.OwnEvents.{member_timer, request_key, own}
use Rattle.zb_model.specs.Commands.{take_request, take_command}
use Rattle.zb_model.specs.Judging.{candidates}
use Rattle.zb_model.specs.Answer.{Answer, comes_to, changes, moves_of, reason_of, refusal_of, answer_by, counting_of, plan_of, answer, answered}
use Rattle.law_change_fits.proofs.Parts.{same_key_of}
use Rattle.law_change_fits.proofs.Tests.{none_where}
use Rattle.law_recovery.specs.Answering.{after_task, frame_of}
use Rattle.law_recovery.proofs.Asking.{by_outcome}
use Rattle.law_recovery.proofs.Candidates.{one_candidate}
use Rattle.law_recovery.specs.CommandFrames.{NetFrame, net_term, sealed_content, sealed_bytes, NetFrameInRange, LinkFrameInRange, DeliversCommands}
use Rattle.law_recovery.specs.Exchanging.{Seals, net_frame, request, request_bytes, seals_now, Offers, StationsInRange, NwkInRange, ApsInRange}
use Rattle.law_recovery.specs.Meeting.{AreDeclared, HasNetwork, HasLink, IsJoined}
use Rattle.law_recovery.specs.Obstacles.{or_else, obstacle_if, why_not_heard, why_not_opened, why_not_sealed, why_not_offered}
use Rattle.law_recovery.proofs.Baring.{bare, bare_link, bare_after, moved_all}
use Rattle.law_recovery.proofs.Rows.{may_use_of}
use Rattle.law_recovery.proofs.Sending.{sealed_out}
use Rattle.law_recovery.proofs.Judged.{IsHeard, IsOpened, plan_at, plan_opened, both_terms, heard_with, delivered_sealed, refused_at, refused_opened, free_at, free_opened, or_first, or_second, when_none}
use Rattle.law_recovery.proofs.Keeping.{keeps_network, network_left, link_left, state_left, links_of, both_come, no_row, is_member}

-- four parts of a frame
pub four : {Y : Type 0} (frame : ℕ → Bytes → ℕ → Bytes → Y) (a b : ℕ) (c d : Bytes) (e f : ℕ) (g h : Bytes) → a ≡ b
    → c ≡ d → e ≡ f → g ≡ h → frame a c e g ≡ frame b d f h
four frame a b c d e f g h x y z w = ap (λ n. frame n c e g) x ∙ ap (λ n. frame b n e g) y ∙ ap (λ n. frame b d n g) z
    ∙ ap (frame b d f) w

-- ---- the request

abbrev pub asks : Bool → Bytes → Outcome
asks true link = Stop CounterSpent
asks false link = Does [] (sends 0 true (Secret ForData link RequestLink))

asks_by : (m : Setting) (t : NodeState) (row : LinkKey) (b : Bool) → current t (centre_of m.stations) ≡ Some row
    → both_spent t ≡ b → request_key m t ≡ asks b row.key
unfolding request_key found_or refuse_if
asks_by m t row true e f = rw (e, f) refl
asks_by m t row false e f = rw (e, f) refl

pub joined_timer : (tools : Tools) (m : Setting) (t : NodeState) (net : NetKey) → may_use t ≡ true → active_row t
    ≡ Some net → t.state ≡ Joined → member_timer tools m t ≡ request_key m t
unfolding member_timer found_or usable_active
joined_timer tools m t net may active state = rw (may, active, state) refl

pub timer_answer : (tools : Tools) (m : Setting) (t : NodeState) (o : Outcome) → is_centre m.me.role ≡ false
    → member_timer tools m t ≡ o → answer tools m t DoTimer ≡ by_outcome tools m t o
unfolding answer plan_of own
timer_answer tools m t o role e = rw role (ap (by_outcome tools m t) e)

pub request_answer : (tools : Tools) (c m : Setting) (t : NodeState) (key : Bytes) (sequence : ℕ) (link : Bytes)
    → AreDeclared c m → (j : IsJoined t c.me.eui key sequence link) → (b : Bool) → both_spent t ≡ b
    → answer tools m t DoTimer ≡ by_outcome tools m t (asks b j.keys.row.key)
request_answer tools c m t key sequence link d j b e =
    timer_answer tools m t (asks b j.keys.row.key) d.network.member_role
    (joined_timer tools m t j.network.active (may_use_of t key sequence j.network) j.network.is_active j.joined
    ∙ asks_by m t j.keys.row b (ap (current t) d.network.centre_known ∙ j.keys.is_current) e)

request_reason : (tools : Tools) (m : Setting) (t : NodeState) (link : Bytes) (b : Bool)
    → (by_outcome tools m t (asks b link)).refusal ≡ obstacle_if b CounterSpent
unfolding answer_by
request_reason tools m t link true = refl
request_reason tools m t link false = refl

pub request_refused : (tools : Tools) (c m : Setting) (t : NodeState) (key : Bytes) (sequence : ℕ) (link : Bytes)
    → AreDeclared c m → IsJoined t c.me.eui key sequence link → (answer tools m t DoTimer).refusal ≡ why_not_sealed t
request_refused tools c m t key sequence link d j =
    ap (λ (a : Answer). a.refusal) (request_answer tools c m t key sequence link d j (both_spent t) refl) ∙
    request_reason tools m t j.keys.row.key (both_spent t)

pub request_sent : (tools : Tools) (c m : Setting) (t : NodeState) (key : Bytes) (sequence : ℕ) (link : Bytes)
    → AreDeclared c m → IsJoined t c.me.eui key sequence link → why_not_sealed t ≡ None
    → frame_of tools m t DoTimer ≡ Some (request_bytes tools c m (seals_now t key sequence link))
unfolding counting_of
request_sent tools c m t key sequence link d j none =
    let unspent = when_none (both_spent t) CounterSpent none in
    let h = j.network in
    ap (λ (a : Answer). a.frame) (request_answer tools c m t key sequence link d j false unspent)
    ∙ sealed_out tools m t (counting_of m t (comes_to [] AtEvent (asks false j.keys.row.key))) [] AtEvent [] h.active
    0 ForData j.keys.row.key RequestLink h.is_active unspent
    ∙ four (λ to key sequence link. Some
    (sealed_bytes tools
    (record {
      to = to;
      from = m.me.short;
      source = m.me.eui;
      key = key;
      sequence = sequence;
      counter = next_counter Nwk t;
    })
    (record
    { label = ForData; link = link; source = m.me.eui; counter = next_counter Aps t; command = RequestLink })))
    0 c.me.short h.active.key key h.active.sequence sequence j.keys.row.key link (sym d.centre_short) h.active_key
    h.active_sequence j.keys.row_key

pub asks_no_moves : (b : Bool) (link : Bytes) → moves_of (asks b link) ≡ []
asks_no_moves true link = refl
asks_no_moves false link = refl

pub request_bare : (tools : Tools) (c m : Setting) (t : NodeState) (key : Bytes) (sequence : ℕ) (link : Bytes)
    → AreDeclared c m → IsJoined t c.me.eui key sequence link → bare (after_task tools m t DoTimer) ≡ bare t
unfolding after_task
request_bare tools c m t key sequence link d j =
    ap (λ a. bare (answered a t)) (request_answer tools c m t key sequence link d j (both_spent t) refl)
    ∙ bare_after tools m t (counting_of m t (comes_to [] AtEvent (asks (both_spent t) j.keys.row.key)))
    (comes_to [] AtEvent (asks (both_spent t) j.keys.row.key)) []
    (ap (filter (changes t)) (asks_no_moves (both_spent t) j.keys.row.key)) tt

pub still_joined : (t u : NodeState) (centre : ℕ) (key : Bytes) (sequence : ℕ) (link : Bytes)
    → IsJoined t centre key sequence link → bare u ≡ bare t → IsJoined u centre key sequence link
still_joined t u centre key sequence link j e = record {
  network = network_left t u key sequence j.network e;
  joined = state_left t u e ∙ j.joined;
  keys = link_left t u centre link j.keys e;
}

-- ---- the request is delivered to the centre

pub turned : (a b : ℕ) → nat_eq a b ≡ false → nat_eq b a ≡ false
turned a b e = by_test (nat_eq b a) refl
  where
    by_test : (t : Bool) → nat_eq b a ≡ t → t ≡ false
    by_test true f = absurd (false≢true (sym e ∙ eq-eqb a b (sym (eqb-true b a f))))
    by_test false f = refl

-- a frame of the device at the centre
pub heard_up : (c m : Setting) (s : NodeState) (k : Seals) (row : LinkKey) → AreDeclared c m
    → (h : HasNetwork s k.key k.sequence) → current s m.me.eui ≡ Some row → k.nwk < greatest_counter
    → IsHeard c s (net_frame m c k) h.found
heard_up c m s k row d h here small = record {
  found = h.is_found;
  same = h.found_key;
  to = refl;
  apart = turned c.me.short m.me.short d.network.shorts_differ;
  small = small;
  declared = d.device_declared;
  member = rw (is_member s m.me.eui row here) (by_tests (is_centre c.me.role) (is_known s m.me.eui));
}
  where
    by_tests : (a b : Bool) → (a && (b && false)) ≡ false
    by_tests true true = refl
    by_tests true false = refl
    by_tests false b = refl

abbrev pub offers : Setting → ℕ → LinkKey → Bool → Option Bytes → Bool → Outcome
offers c device row true o b = Stop RowsFull
offers c device row false None b = Stop NoDraw
offers c device row false (Some key) true = Stop CounterSpent
offers c device row false (Some key) false = Does (Draw key ∷ Row device key Unverified ∷ [])
    (sends (short_of c device) true (Secret ForLoad row.key (TransportLink key device c.me.eui)))

offers_by : (tools : Tools) (c m : Setting) (s : NodeState) (f : NetFrame) (k : Seals) (row : LinkKey)
    (draw : Option Bytes) → is_centre c.me.role ≡ true → current s m.me.eui ≡ Some row → offered s m.me.eui ≡ None
    → (full : Bool) (o : Option Bytes) (b : Bool) → links_full s ≡ full → unless_held s draw ≡ o → both_spent s ≡ b
    → take_command tools c s draw (heard_with tools f (request m k) row) RequestLink ≡ offers c m.me.eui row full o b
unfolding take_command take_request refuse_if found_or
offers_by tools c m s f k row draw role here none true o b x y z =
    rw (role, here, same_key_of row.key row.key refl, none, x) refl
offers_by tools c m s f k row draw role here none false None b x y z =
    rw (role, here, same_key_of row.key row.key refl, none, x, y) refl
offers_by tools c m s f k row draw role here none false (Some key) true x y z =
    rw (role, here, same_key_of row.key row.key refl, none, x, y, z) refl
offers_by tools c m s f k row draw role here none false (Some key) false x y z =
    rw (role, here, same_key_of row.key row.key refl, none, x, y, z) refl

pub opened_up : (c m : Setting) (s : NodeState) (k : Seals) (l : HasLink s m.me.eui k.link) → candidates s m.me.eui
    ≡ l.row ∷ [] → k.aps < greatest_counter → IsOpened s (request m k) l.row
opened_up c m s k l one small = record { rest = []; first = one; same = l.row_key; small = small }

abbrev pub offers_now : Setting → Setting → NodeState → LinkKey → Option Bytes → Outcome
offers_now c m s row draw = offers c m.me.eui row (links_full s) (unless_held s draw) (both_spent s)

pub net_range : (a b : Setting) (k : Seals) → a.me.short < 2 ^ 16 → b.me.short < 2 ^ 16 → a.me.eui < 2 ^ 64
    → NwkInRange k → NetFrameInRange (net_frame a b k)
net_range a b k from to source r =
    record { to = to; from = from; source = source; key = r.key; sequence = r.sequence; counter = r.counter }

request_plan : (tools : Tools) → DeliversCommands tools
    → (c m : Setting) (s : NodeState) (k : Seals) (draw : Option Bytes) → AreDeclared c m → StationsInRange c m
    → NwkInRange k → ApsInRange k → (h : HasNetwork s k.key k.sequence) → (l : HasLink s m.me.eui k.link)
    → candidates s m.me.eui ≡ l.row ∷ []
    → plan_of tools c s (Received (request_bytes tools c m k) draw)
    ≡ plan_at (net_frame m c k) h.found
    (plan_opened (nat_lt k.aps l.row.kept) (net_term (net_frame m c k) (sealed_content tools (request m k)) ∷ [])
    l.row.kept (comes_to (both_terms tools (net_frame m c k) (request m k)) AtAps (offers_now c m s l.row draw)))
request_plan tools delivers c m s k draw d st rn ra h l one =
    let f = net_frame m c k in
    let net = net_range m c k st.device_short st.centre_short st.device rn in
    let sealed : LinkFrameInRange (request m k) =
    record { link = ra.link; source = st.device; counter = ra.counter; command = tt } in
    delivered_sealed tools c s f (request m k) h.found l.row draw (delivers.carried f (request m k) net sealed)
    (delivers.unsealed (request m k) sealed) (heard_up c m s k l.row d h l.is_current rn.counter)
    (opened_up c m s k l one ra.counter)
    ∙ ap (λ o. plan_at f h.found
    (plan_opened (nat_lt k.aps l.row.kept) (net_term f (sealed_content tools (request m k)) ∷ []) l.row.kept
    (comes_to (both_terms tools f (request m k)) AtAps o)))
    (offers_by tools c m s f k l.row draw d.network.centre_role l.is_current l.none_offered (links_full s)
    (unless_held s draw) (both_spent s) refl refl refl)

offer_reason : (c : Setting) (device : ℕ) (row : LinkKey) (full : Bool) (o : Option Bytes) (b : Bool)
    → reason_of (offers c device row full o b)
    ≡ or_else (obstacle_if full RowsFull) (or_else (obstacle_if (is_none o) NoDraw) (obstacle_if b CounterSpent))
offer_reason c device row true o b = refl
offer_reason c device row false None b = refl
offer_reason c device row false (Some key) true = refl
offer_reason c device row false (Some key) false = refl

pub offer_refused : (tools : Tools) → DeliversCommands tools
    → (c m : Setting) (s : NodeState) (k : Seals) (draw : Option Bytes) → AreDeclared c m → StationsInRange c m
    → NwkInRange k → ApsInRange k → keeps_rules s ≡ true → (h : HasNetwork s k.key k.sequence)
    → (l : HasLink s m.me.eui k.link)
    → (answer tools c s (Received (request_bytes tools c m k) draw)).refusal
    ≡ or_else (why_not_heard h.found m.me.eui k.nwk)
    (or_else (why_not_opened l.row k.aps) (why_not_offered s draw))
unfolding answer answer_by
offer_refused tools delivers c m s k draw d st rn ra rules h l =
    let f = net_frame m c k in
    let one = one_candidate s m.me.eui l.row rules l.is_current l.none_offered in
    let last = comes_to (both_terms tools f (request m k)) AtAps (offers_now c m s l.row draw) in
    let inner = plan_opened (nat_lt k.aps l.row.kept) (net_term f (sealed_content tools (request m k)) ∷ [])
    l.row.kept last in
    ap refusal_of (request_plan tools delivers c m s k draw d st rn ra h l one)
    ∙ refused_at f h.found inner
    ∙ ap (or_else (why_not_heard h.found m.me.eui k.nwk))
    (refused_opened (net_term f (sealed_content tools (request m k)) ∷ []) l.row k.aps last)
    ∙ ap (λ o. or_else (why_not_heard h.found m.me.eui k.nwk) (or_else (why_not_opened l.row k.aps) o))
    (offer_reason c m.me.eui l.row (links_full s) (unless_held s draw) (both_spent s))

-- ---- if nothing prevents it

-- the key that is drawn
pub record Draws (s : NodeState) (draw : Option Bytes) : Type 0 where
  pub key : Bytes
  pub held : unless_held s draw ≡ Some key
  pub drawn : draw ≡ Some key
  pub fresh : list_any (λ (r : LinkKey). same_key r.key key) s.links ≡ false

draws_by : (s : NodeState) (draw : Option Bytes) → is_none (unless_held s draw) ≡ false → Draws s draw
draws_by s None e = absurd (false≢true (sym e))
draws_by s (Some key) e = by_tests (has_net key s.nets) (list_any (λ (r : LinkKey). same_key r.key key) s.links) refl
    refl
  where
    by_tests : (a b : Bool) → has_net key s.nets ≡ a → list_any (λ (r : LinkKey). same_key r.key key) s.links ≡ b
        → Draws s (Some key)
    by_tests true b x y =
        absurd (false≢true
        (sym (ap
        (λ t. is_none (if t || list_any (λ (r : LinkKey). same_key r.key key) s.links then None else Some key))
        (sym x) ∙ e)))
    by_tests false true x y = absurd (false≢true (sym (rw (x, y) refl ∙ e)))
    by_tests false false x y = record { key = key; held = rw (x, y) refl; drawn = refl; fresh = y }

pub no_link : (p : ℕ) (key : Bytes) (rows : List LinkKey) → list_any (λ (r : LinkKey). same_key r.key key) rows
    ≡ false → has_link p key rows ≡ false
no_link p key rows none = none_where (λ (r : LinkKey). same_key r.key key) (is_link p key)
    (λ r e. by_test (nat_eq r.partner p) e) rows none
  where
    by_test : {t : Bool} → (b : Bool) → t ≡ false → (b && t) ≡ false
    by_test true e = e
    by_test false e = refl

pub no_such_row : (p : ℕ) (key : Bytes) (byte : ℕ) (rows : List LinkKey) → has_link p key rows ≡ false
    → list_any (λ (r : LinkKey). is_link p key r && (r.live && nat_eq (attribute_byte r.attribute) byte)) rows ≡ false
no_such_row p key byte rows none =
    none_where (is_link p key)
    (λ (r : LinkKey). is_link p key r && (r.live && nat_eq (attribute_byte r.attribute) byte)) (λ r e. rw e refl) rows
    none

abbrev pub given : Bytes → ℕ → List Move
given key device = Draw key ∷ Row device key Unverified ∷ []

pub gives : (s : NodeState) (device : ℕ) (key : Bytes) → has_link device key s.links ≡ false
    → filter (changes s) (given key device) ≡ given key device
gives s device key none = rw (no_such_row device key (attribute_byte Unverified) s.links none) refl

-- the free plan
pub offer_plan : (tools : Tools) → DeliversCommands tools
    → (c m : Setting) (s : NodeState) (k : Seals) (draw : Option Bytes) → AreDeclared c m → StationsInRange c m
    → NwkInRange k → ApsInRange k → keeps_rules s ≡ true → (h : HasNetwork s k.key k.sequence)
    → (l : HasLink s m.me.eui k.link)
    → or_else (why_not_heard h.found m.me.eui k.nwk) (or_else (why_not_opened l.row k.aps) (why_not_offered s draw))
    ≡ None
    → plan_of tools c s (Received (request_bytes tools c m k) draw)
    ≡ comes_to (both_terms tools (net_frame m c k) (request m k)) AtAps (offers_now c m s l.row draw)
offer_plan tools delivers c m s k draw d st rn ra rules h l none =
    let f = net_frame m c k in
    let one = one_candidate s m.me.eui l.row rules l.is_current l.none_offered in
    let last = comes_to (both_terms tools f (request m k)) AtAps (offers_now c m s l.row draw) in
    let first = why_not_heard h.found m.me.eui k.nwk in
    let second = why_not_opened l.row k.aps in
    let third = why_not_offered s draw in
    let free = or_first first (or_else second third) none in
    let more = or_second first (or_else second third) none in
    request_plan tools delivers c m s k draw d st rn ra h l one
    ∙ free_at f h.found
    (plan_opened (nat_lt k.aps l.row.kept) (net_term f (sealed_content tools (request m k)) ∷ []) l.row.kept last)
    free
    ∙ free_opened (net_term f (sealed_content tools (request m k)) ∷ []) l.row k.aps last (or_first second third more)

-- what the centre does, and what it draws
pub record CanOffer (s : NodeState) (draw : Option Bytes) : Type 0 where
  pub draws : Draws s draw
  pub room : links_full s ≡ false
  pub unspent : both_spent s ≡ false

pub offers_of : (s : NodeState) (draw : Option Bytes) → why_not_offered s draw ≡ None → CanOffer s draw
offers_of s draw e =
    let first = obstacle_if (links_full s) RowsFull in
    let second = obstacle_if (is_none (unless_held s draw)) NoDraw in
    let third = obstacle_if (both_spent s) CounterSpent in
    let more = or_second first (or_else second third) e in
    record {
      draws = draws_by s draw (when_none (is_none (unless_held s draw)) NoDraw (or_first second third more));
      room = when_none (links_full s) RowsFull (or_first first (or_else second third) e);
      unspent = when_none (both_spent s) CounterSpent (or_second second third more);
    }

pub offers_so : (c m : Setting) (s : NodeState) (row : LinkKey) (draw : Option Bytes) → (o : CanOffer s draw)
    → offers_now c m s row draw ≡ offers c m.me.eui row false (Some o.draws.key) false
offers_so c m s row draw o = ap (λ b. offers c m.me.eui row b (unless_held s draw) (both_spent s)) o.room ∙ ap
    (λ x. offers c m.me.eui row false x (both_spent s)) o.draws.held ∙ ap
    (offers c m.me.eui row false (Some o.draws.key)) o.unspent

abbrev pub offer_end : Tools → Setting → Setting → Seals → LinkKey → Bytes → Plan
offer_end tools c m k row key = comes_to (both_terms tools (net_frame m c k) (request m k)) AtAps
    (offers c m.me.eui row false (Some key) false)

offered_bare_links : (s u : NodeState) (device : ℕ) (key : Bytes) → bare u ≡ moved_all (given key device) (bare s)
    → has_link device key s.links ≡ false
    → map bare_link u.links ≡ map bare_link s.links ++ new_link device key Unverified (is_told (bare s) device) ∷ []
unfolding bare
offered_bare_links s u device key e none = links_of u (moved_all (given key device) (bare s)) e ∙ no_row device key
    (is_told (bare s) device) s.links none

pub offered_network : (s u : NodeState) (device : ℕ) (drawn : Bytes) (key : Bytes) (sequence : ℕ) → bare u
    ≡ moved_all (given drawn device) (bare s) → HasNetwork s key sequence → HasNetwork u key sequence
unfolding bare
offered_network s u device drawn key sequence e h = keeps_network s u (moved_all (given drawn device) (bare s)) key
    sequence h e refl refl (may_use_of s key sequence h)

pub is_offering : (tools : Tools) → DeliversCommands tools
    → (c m : Setting) (s : NodeState) (k : Seals) (draw : Option Bytes) → AreDeclared c m → StationsInRange c m
    → NwkInRange k → ApsInRange k → keeps_rules s ≡ true → (h : HasNetwork s k.key k.sequence)
    → (l : HasLink s m.me.eui k.link)
    → or_else (why_not_heard h.found m.me.eui k.nwk) (or_else (why_not_opened l.row k.aps) (why_not_offered s draw))
    ≡ None
    → Offers tools c m s (after_task tools c s (Received (request_bytes tools c m k) draw)) k draw
    (frame_of tools c s (Received (request_bytes tools c m k) draw))
unfolding after_task answer counting_of
is_offering tools delivers c m s k draw d st rn ra rules h l none =
    let first = why_not_heard h.found m.me.eui k.nwk in
    let second = why_not_opened l.row k.aps in
    let third = why_not_offered s draw in
    let o = offers_of s draw (or_second second third (or_second first (or_else second third) none)) in
    let key = o.draws.key in
    let p = offer_end tools c m k l.row key in
    let device = m.me.eui in
    let plan : plan_of tools c s (Received (request_bytes tools c m k) draw)
    ≡ p = offer_plan tools delivers c m s k draw d st rn ra rules h l none ∙ ap
    (comes_to (both_terms tools (net_frame m c k) (request m k)) AtAps) (offers_so c m s l.row draw o) in
    let u = answered (answer_by tools c s (counting_of c s p) p) s in
    let fresh = no_link device key s.links o.draws.fresh in
    let rows : bare u ≡ moved_all (given key device) (bare s) = bare_after tools c s (counting_of c s p) p
    (given key device) (gives s device key fresh) (tt, (tt, tt)) in
    subst (λ q. Offers tools c m s (answered (answer_by tools c s (counting_of c s q) q) s) k draw
    (answer_by tools c s (counting_of c s q) q).frame) (sym plan)
    (record {
      key = key;
      drawn = o.draws.drawn;
      sent =
          sealed_out tools c s (counting_of c s p) (both_terms tools (net_frame m c k) (request m k)) AtAps
          (given key device) h.active (short_of c device) ForLoad l.row.key (TransportLink key device c.me.eui)
          h.is_active o.unspent
          ∙ four (λ to net sequence link. Some
          (sealed_bytes tools
          (record {
            to = to;
            from = c.me.short;
            source = c.me.eui;
            key = net;
            sequence = sequence;
            counter = next_counter Nwk s;
          })
          (record {
            label = ForLoad;
            link = link;
            source = c.me.eui;
            counter = next_counter Aps s;
            command = TransportLink key device c.me.eui;
          })))
          (short_of c device) m.me.short h.active.key k.key h.active.sequence k.sequence l.row.key k.link
          d.network.short_known h.active_key h.active_sequence l.row_key;
      network = offered_network s u device key k.key k.sequence rows h;
      keys = both_come s u device k.link key (is_told (bare s) device) l
          (offered_bare_links s u device key rows fresh);
    })
