-- The key that the centre offers is delivered to the device, which keeps it together with the one that it has.
use Rattle.std.proofs.Common.{◌≡◌, ℕ, ◌<◌, nat_lt, Bool, true, false, List, [], ◌∷◌, ◌++◌, map, filter, length, Option, Some, None, is_some, nat_eq, refl, sym, ap, ◌∙◌, eq-eqb, subst}
use Rattle.std.proofs.lemmas.Bool.{false≢true}
use Rattle.zb_model.specs.Data.{Bytes, Joined, Offered, Unverified, AtAps, Reason, RowsFull, KeyInUse, Move, Row, Became, TransportLink, Received}
use Rattle.zb_model.specs.Fits.{keeps_rules}
use Rattle.zb_model.specs.Record.{attribute_byte}
use Rattle.zb_model.specs.State.{greatest_counter, NetKey, LinkKey, NodeState, new_link, same_key, has_link, is_told, current, offered, other_user}
use Rattle.zb_model.specs.Tools.{Tools}
use Rattle.zb_model.specs.Rules.{Setting, Plan, Outcome, Stop, Does, refuse_if, choose, centre_of, links_full}
use Rattle.zb_model.specs.Commands.{take_link_key, take_row, take_command}
use Rattle.zb_model.specs.Answer.{comes_to, changes, reason_of, refusal_of, Counting, may_seal, out_of, answer_by, counting_of, plan_of, answer, answered}
use Rattle.law_recovery.specs.Answering.{after_task, frame_of}
use Rattle.law_recovery.proofs.Candidates.{one_candidate}
use Rattle.law_recovery.specs.CommandFrames.{NetFrame, net_term, sealed_content, LinkFrameInRange, DeliversCommands}
use Rattle.law_recovery.specs.Exchanging.{Seals, net_frame, offer, offer_bytes, StationsInRange, NwkInRange, ApsInRange}
use Rattle.law_recovery.specs.Meeting.{AreDeclared, HasNetwork, IsJoined, IsOffered}
use Rattle.law_recovery.specs.Obstacles.{or_else, obstacle_if, why_not_heard, why_not_opened, why_key_in_use, why_not_kept}
use Rattle.law_recovery.proofs.Baring.{bare, bare_link, bare_after, moved_all}
use Rattle.law_recovery.proofs.Judged.{IsHeard, IsOpened, plan_at, plan_opened, both_terms, heard_with, delivered_sealed, refused_at, refused_opened, free_at, free_opened, or_first, or_second, when_none}
use Rattle.law_recovery.proofs.Keeping.{keeps_network, links_of, state_of, offer_comes, offer_tried, no_row, not_its_key}
use Rattle.law_recovery.proofs.Requesting.{net_range, no_such_row}

self : (n : ℕ) → nat_eq n n ≡ true
self n = eq-eqb n n refl

-- a frame of the centre at the device
pub heard_down : (c m : Setting) (t : NodeState) (k : Seals) → AreDeclared c m → (h : HasNetwork t k.key k.sequence)
    → k.nwk < greatest_counter → IsHeard m t (net_frame c m k) h.found
heard_down c m t k d h small = record {
  found = h.is_found;
  same = h.found_key;
  to = refl;
  apart = d.network.shorts_differ;
  small = small;
  declared = d.centre_declared;
  member = rw d.network.member_role refl;
}

-- ---- the rule

abbrev keeps : ℕ → Bytes → Bool → Option LinkKey → Outcome
keeps centre key true o = Stop RowsFull
keeps centre key false (Some other) = Stop (KeyInUse other.partner)
keeps centre key false None = Does (Row centre key Unverified ∷ Became Offered ∷ []) None

keeps_by : (tools : Tools) (c m : Setting) (t : NodeState) (f : NetFrame) (k : Seals) (row : LinkKey) (key : Bytes)
    (draw : Option Bytes) → AreDeclared c m → t.state ≡ Joined
    → current t (centre_of m.stations) ≡ Some row → same_key row.key key ≡ false → offered t (centre_of m.stations)
    ≡ None → has_link (centre_of m.stations) key t.links ≡ false
    → (full : Bool) (o : Option LinkKey) → links_full t ≡ full → other_user t (centre_of m.stations) key ≡ o
    → take_command tools m t draw (heard_with tools f (offer c m k key) row) (TransportLink key m.me.eui c.me.eui)
    ≡ keeps (centre_of m.stations) key full o
unfolding take_command take_link_key take_row refuse_if choose
keeps_by tools c m t f k row key draw d state here other none fresh true o x y =
    let from : nat_eq c.me.eui (centre_of m.stations) ≡ true =
    eq-eqb c.me.eui (centre_of m.stations) (sym d.network.centre_known) in
    rw (d.network.member_role, from, self m.me.eui, here, other, none, fresh, x, state) refl
keeps_by tools c m t f k row key draw d state here other none fresh false (Some user) x y =
    let from : nat_eq c.me.eui (centre_of m.stations) ≡ true =
    eq-eqb c.me.eui (centre_of m.stations) (sym d.network.centre_known) in
    rw (d.network.member_role, from, self m.me.eui, here, other, none, fresh, x, y, state) refl
keeps_by tools c m t f k row key draw d state here other none fresh false None x y =
    let from : nat_eq c.me.eui (centre_of m.stations) ≡ true =
    eq-eqb c.me.eui (centre_of m.stations) (sym d.network.centre_known) in
    rw (d.network.member_role, from, self m.me.eui, here, other, none, fresh, x, y, state) refl

keep_reason : (centre : ℕ) (key : Bytes) (full : Bool) (o : Option LinkKey) → reason_of (keeps centre key full o)
    ≡ or_else (obstacle_if full RowsFull) (why_key_in_use o)
keep_reason centre key true o = refl
keep_reason centre key false (Some other) = refl
keep_reason centre key false None = refl

-- ---- the plan

abbrev keeps_now : Setting → NodeState → Bytes → Outcome
keeps_now c t key = keeps c.me.eui key (links_full t) (other_user t c.me.eui key)

abbrev pub end_plan : Tools → Setting → Setting → Seals → Bytes → Outcome → Plan
end_plan tools c m k key o = comes_to (both_terms tools (net_frame c m k) (offer c m k key)) AtAps o

keep_plan : (tools : Tools) → DeliversCommands tools → (c m : Setting) (t : NodeState) (k : Seals) (key : Bytes)
    (draw : Option Bytes) → AreDeclared c m → StationsInRange c m → NwkInRange k → ApsInRange k → length key ≡ 16
    → keeps_rules t ≡ true
    → (j : IsJoined t c.me.eui k.key k.sequence k.link) → has_link c.me.eui key t.links ≡ false
    → plan_of tools m t (Received (offer_bytes tools c m k key) draw)
    ≡ plan_at (net_frame c m k) j.network.found
    (plan_opened (nat_lt k.aps j.keys.row.kept)
    (net_term (net_frame c m k) (sealed_content tools (offer c m k key)) ∷ []) j.keys.row.kept
    (end_plan tools c m k key (keeps_now c t key)))
keep_plan tools delivers c m t k key draw d st rn ra long rules j fresh =
    let f = net_frame c m k in
    let l = offer c m k key in
    let row = j.keys.row in
    let known = d.network.centre_known in
    let net = net_range c m k st.centre_short st.device_short st.centre rn in
    let sealed : LinkFrameInRange l =
    record { link = ra.link; source = st.centre; counter = ra.counter; command = (long, st.device, st.centre) } in
    let open_ : IsOpened t l row =
    record {
      rest = [];
      first = one_candidate t c.me.eui row rules j.keys.is_current j.keys.none_offered;
      same = j.keys.row_key;
      small = ra.counter;
    } in
    let rule : take_command tools m t draw (heard_with tools f l row) (TransportLink key m.me.eui c.me.eui)
    ≡ keeps_now c t key =
    keeps_by tools c m t f k row key draw d j.joined (ap (current t) known ∙ j.keys.is_current)
    (not_its_key t c.me.eui key row j.keys.is_current fresh) (ap (offered t) known ∙ j.keys.none_offered)
    (ap (λ n. has_link n key t.links) known ∙ fresh)
    (links_full t) (other_user t c.me.eui key) refl (ap (λ n. other_user t n key) known)
    ∙ ap (λ n. keeps n key (links_full t) (other_user t c.me.eui key)) known in
    delivered_sealed tools m t f l j.network.found row draw (delivers.carried f l net sealed)
    (delivers.unsealed l sealed) (heard_down c m t k d j.network rn.counter) open_
    ∙ ap (λ o. plan_at f j.network.found
    (plan_opened (nat_lt k.aps row.kept) (net_term f (sealed_content tools l) ∷ []) row.kept
    (end_plan tools c m k key o))) rule

abbrev pub why_not_offer : Setting → NodeState → Seals → Bytes → NetKey → LinkKey → Option Reason
why_not_offer c t k key net row = or_else (why_not_heard net c.me.eui k.nwk)
    (or_else (why_not_opened row k.aps) (why_not_kept t c.me.eui key))

pub keep_refused : (tools : Tools) → DeliversCommands tools
    → (c m : Setting) (t : NodeState) (k : Seals) (key : Bytes) (draw : Option Bytes) → AreDeclared c m
    → StationsInRange c m → NwkInRange k → ApsInRange k → length key ≡ 16 → keeps_rules t ≡ true
    → (j : IsJoined t c.me.eui k.key k.sequence k.link) → has_link c.me.eui key t.links ≡ false
    → (answer tools m t (Received (offer_bytes tools c m k key) draw)).refusal
    ≡ why_not_offer c t k key j.network.found j.keys.row
unfolding answer answer_by
keep_refused tools delivers c m t k key draw d st rn ra long rules j fresh =
    let f = net_frame c m k in
    let last = end_plan tools c m k key (keeps_now c t key) in
    let first = net_term f (sealed_content tools (offer c m k key)) ∷ [] in
    ap refusal_of (keep_plan tools delivers c m t k key draw d st rn ra long rules j fresh)
    ∙ refused_at f j.network.found (plan_opened (nat_lt k.aps j.keys.row.kept) first j.keys.row.kept last)
    ∙ ap (or_else (why_not_heard j.network.found c.me.eui k.nwk)) (refused_opened first j.keys.row k.aps last)
    ∙ ap (λ o. or_else (why_not_heard j.network.found c.me.eui k.nwk) (or_else (why_not_opened j.keys.row k.aps) o))
    (keep_reason c.me.eui key (links_full t) (other_user t c.me.eui key))

-- ---- if nothing prevents it

none_user : (o : Option LinkKey) → why_key_in_use o ≡ None → o ≡ None
none_user None e = refl
none_user (Some other) e = absurd (false≢true (sym (ap is_some e)))

abbrev pub kept_moves : ℕ → Bytes → List Move
kept_moves centre key = Row centre key Unverified ∷ Became Offered ∷ []

keeps_so : (c : Setting) (t : NodeState) (key : Bytes) → why_not_kept t c.me.eui key ≡ None → keeps_now c t key
    ≡ Does (kept_moves c.me.eui key) None
keeps_so c t key e =
    let first = obstacle_if (links_full t) RowsFull in
    let second = why_key_in_use (other_user t c.me.eui key) in
    ap (λ b. keeps c.me.eui key b (other_user t c.me.eui key))
    (when_none (links_full t) RowsFull (or_first first second e)) ∙ ap (keeps c.me.eui key false)
    (none_user (other_user t c.me.eui key) (or_second first second e))

pub gives : (t : NodeState) (centre : ℕ) (key : Bytes) → t.state ≡ Joined → has_link centre key t.links ≡ false
    → filter (changes t) (kept_moves centre key) ≡ kept_moves centre key
gives t centre key state none = rw (no_such_row centre key (attribute_byte Unverified) t.links none, state) refl

kept_links : (t u : NodeState) (centre : ℕ) (key : Bytes) → bare u ≡ moved_all (kept_moves centre key) (bare t)
    → has_link centre key t.links ≡ false
    → map bare_link u.links ≡ map bare_link t.links ++ new_link centre key Unverified (is_told (bare t) centre) ∷ []
unfolding bare
kept_links t u centre key e none = links_of u (moved_all (kept_moves centre key) (bare t)) e ∙ no_row centre key
    (is_told (bare t) centre) t.links none

kept_network : (t u : NodeState) (centre : ℕ) (drawn : Bytes) (key : Bytes) (sequence : ℕ) → bare u
    ≡ moved_all (kept_moves centre drawn) (bare t) → HasNetwork t key sequence → HasNetwork u key sequence
unfolding bare
kept_network t u centre drawn key sequence e h = keeps_network t u (moved_all (kept_moves centre drawn) (bare t)) key
    sequence h e refl refl refl

kept_state : (t u : NodeState) (centre : ℕ) (key : Bytes) → bare u ≡ moved_all (kept_moves centre key) (bare t)
    → u.state ≡ Offered
kept_state t u centre key e = state_of u (moved_all (kept_moves centre key) (bare t)) e

abbrev pub kept_plan : Tools → Setting → Setting → Seals → Bytes → Plan
kept_plan tools c m k key = end_plan tools c m k key (Does (kept_moves c.me.eui key) None)

pub free_plan : (tools : Tools) → DeliversCommands tools → (c m : Setting) (t : NodeState) (k : Seals) (key : Bytes)
    (draw : Option Bytes) → AreDeclared c m → StationsInRange c m → NwkInRange k → ApsInRange k → length key ≡ 16
    → keeps_rules t ≡ true
    → (j : IsJoined t c.me.eui k.key k.sequence k.link) → has_link c.me.eui key t.links ≡ false
    → why_not_offer c t k key j.network.found j.keys.row ≡ None
    → plan_of tools m t (Received (offer_bytes tools c m k key) draw) ≡ kept_plan tools c m k key
free_plan tools delivers c m t k key draw d st rn ra long rules j fresh none =
    let f = net_frame c m k in
    let first = why_not_heard j.network.found c.me.eui k.nwk in
    let second = why_not_opened j.keys.row k.aps in
    let third = why_not_kept t c.me.eui key in
    let more = or_second first (or_else second third) none in
    let last = end_plan tools c m k key (keeps_now c t key) in
    let terms = net_term f (sealed_content tools (offer c m k key)) ∷ [] in
    keep_plan tools delivers c m t k key draw d st rn ra long rules j fresh
    ∙ free_at f j.network.found (plan_opened (nat_lt k.aps j.keys.row.kept) terms j.keys.row.kept last)
    (or_first first (or_else second third) none)
    ∙ free_opened terms j.keys.row k.aps last (or_first second third more)
    ∙ ap (end_plan tools c m k key) (keeps_so c t key (or_second second third more))

-- no frame answers the offer
silent_plan : (tools : Tools) (c m : Setting) (t : NodeState) (k : Seals) (key : Bytes) (n : Counting)
    → (answer_by tools m t n (kept_plan tools c m k key)).frame ≡ None
unfolding answer_by out_of may_seal
silent_plan tools c m t k key n = refl

pub keeps_silently : (tools : Tools) → DeliversCommands tools
    → (c m : Setting) (t : NodeState) (k : Seals) (key : Bytes) (draw : Option Bytes) → AreDeclared c m
    → StationsInRange c m → NwkInRange k → ApsInRange k → length key ≡ 16 → keeps_rules t ≡ true
    → (j : IsJoined t c.me.eui k.key k.sequence k.link) → has_link c.me.eui key t.links ≡ false
    → why_not_offer c t k key j.network.found j.keys.row ≡ None
    → frame_of tools m t (Received (offer_bytes tools c m k key) draw) ≡ None
unfolding answer
keeps_silently tools delivers c m t k key draw d st rn ra long rules j fresh none =
    ap (λ q. (answer_by tools m t (counting_of m t q) q).frame)
    (free_plan tools delivers c m t k key draw d st rn ra long rules j fresh none)
    ∙ silent_plan tools c m t k key (counting_of m t (kept_plan tools c m k key))

pub is_offered : (tools : Tools) → DeliversCommands tools → (c m : Setting) (t : NodeState) (k : Seals) (key : Bytes)
    (draw : Option Bytes) → AreDeclared c m → StationsInRange c m → NwkInRange k → ApsInRange k → length key ≡ 16
    → keeps_rules t ≡ true
    → (j : IsJoined t c.me.eui k.key k.sequence k.link) → has_link c.me.eui key t.links ≡ false
    → why_not_offer c t k key j.network.found j.keys.row ≡ None
    → IsOffered (after_task tools m t (Received (offer_bytes tools c m k key) draw)) c.me.eui k.key k.sequence key
unfolding after_task answer
is_offered tools delivers c m t k key draw d st rn ra long rules j fresh none =
    let centre = c.me.eui in
    let p = kept_plan tools c m k key in
    let plan = free_plan tools delivers c m t k key draw d st rn ra long rules j fresh none in
    let u = answered (answer_by tools m t (counting_of m t p) p) t in
    let rows : bare u ≡ moved_all (kept_moves centre key) (bare t) = bare_after tools m t (counting_of m t p) p
    (kept_moves centre key) (gives t centre key j.joined fresh) (tt, (tt, tt)) in
    let came = kept_links t u centre key rows fresh in
    let tries = offer_tried t u centre key (is_told (bare t) centre) came in
    subst (λ q. IsOffered (answered (answer_by tools m t (counting_of m t q) q) t) centre k.key k.sequence key)
    (sym plan)
    (record {
      network = kept_network t u centre key k.key k.sequence rows j.network;
      is_offered = kept_state t u centre key rows;
      keys = offer_comes t u centre k.link key (is_told (bare t) centre) j.keys came;
      tried = tries.tried;
      tried_first = tries.tried_first;
      tried_key = tries.tried_key;
    })
