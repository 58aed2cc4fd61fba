-- The confirmation is delivered to the device, which is confirmed with the key that it proved.
use Rattle.std.proofs.Common.{◌≡◌, ℕ, nat_lt, true, if◌then◌else◌, List, [], ◌∷◌, map, filter, find, reverse, Option, Some, None, nat_eq, refl, sym, ap, ◌∙◌, eq-eqb, eqb-true, subst, arith}
use Rattle.zb_model.specs.Data.{Bytes, Offered, Confirmed, Verified, AtAps, Reason, Move, DropLink, Row, Became, ConfirmKey, Received}
use Rattle.zb_model.specs.Fits.{keeps_rules}
use Rattle.zb_model.specs.State.{LinkKey, NodeState, same_key, is_live_of, is_unverified, is_told, at_link, dropped_link, revived, current, offered}
use Rattle.zb_model.specs.Tools.{Tools}
use Rattle.zb_model.specs.Rules.{Setting, Plan, Outcome, Does, refuse_if, found_or, centre_of}
use Rattle.zb_model.specs.Commands.{take_confirm, take_command}
use Rattle.zb_model.specs.Judging.{candidates}
use Rattle.zb_model.specs.Answer.{comes_to, changes, refusal_of, answer_by, counting_of, plan_of, answer, answered}
use Rattle.law_change_fits.proofs.Parts.{same_key_of}
use Rattle.law_change_fits.proofs.Tests.{both}
use Rattle.law_recovery.specs.Answering.{after_task}
use Rattle.law_recovery.specs.CommandFrames.{NetFrame, net_term, sealed_content, LinkFrameInRange, DeliversCommands}
use Rattle.law_recovery.specs.Exchanging.{Seals, net_frame, confirmation, confirmation_bytes, StationsInRange, NwkInRange, ApsInRange}
use Rattle.law_recovery.specs.Meeting.{AreDeclared, HasNetwork, HasOffer, HasProved, IsOffered, IsConfirmed}
use Rattle.law_recovery.specs.Obstacles.{or_else, why_not_heard, why_not_opened}
use Rattle.law_recovery.proofs.Baring.{bare, bare_link, bare_after, moved_all}
use Rattle.law_recovery.proofs.Rows.{found_first, found_test, is_offer}
use Rattle.law_recovery.proofs.Judged.{IsOpened, plan_at, plan_opened, both_terms, heard_with, delivered_sealed, refused_at, refused_opened, free_at, free_opened, or_first, or_second}
use Rattle.law_recovery.proofs.Keeping.{keeps_network, links_of, state_of, proof_comes}
use Rattle.law_recovery.proofs.Requesting.{net_range}
use Rattle.law_recovery.proofs.Offering.{heard_down}
use Rattle.law_recovery.proofs.Proving.{row_changes, partner_is, dropped_first, place_taken}

self : (n : ℕ) → nat_eq n n ≡ true
self n = eq-eqb n n refl

-- ---- the rule

abbrev confirmed_moves : LinkKey → LinkKey → List Move
confirmed_moves row offer = DropLink row.partner row.key ∷ Row offer.partner offer.key Verified ∷ Became Confirmed ∷ []

takes_by : (tools : Tools) (c m : Setting) (t : NodeState) (f : NetFrame) (k : Seals) (tried row offer : LinkKey)
    (draw : Option Bytes) → AreDeclared c m → t.state ≡ Offered
    → current t (centre_of m.stations) ≡ Some row → offered t (centre_of m.stations) ≡ Some offer
    → same_key tried.key offer.key ≡ true
    → take_command tools m t draw (heard_with tools f (confirmation c m k) tried) (ConfirmKey 0 4 m.me.eui)
    ≡ Does (confirmed_moves row offer) None
unfolding take_command take_confirm refuse_if found_or
takes_by tools c m t f k tried row offer draw d state here there same =
    let from : nat_eq c.me.eui (centre_of m.stations) ≡ true =
    eq-eqb c.me.eui (centre_of m.stations) (sym d.network.centre_known) in
    rw (d.network.member_role, from, self m.me.eui, there, same, here, state) refl

-- ---- the plan

abbrev end_plan : Tools → Setting → Setting → Seals → Outcome → Plan
end_plan tools c m k o = comes_to (both_terms tools (net_frame c m k) (confirmation c m k)) AtAps o

first_candidate : (t : NodeState) (p : ℕ) (row : LinkKey) → find (is_live_of p) (reverse t.links) ≡ Some row
    → (rest : List LinkKey) × (candidates t p ≡ row ∷ rest)
unfolding candidates
first_candidate t p row e = found_first (is_live_of p) (reverse t.links) row e

confirm_plan : (tools : Tools) → DeliversCommands tools
    → (c m : Setting) (t : NodeState) (k : Seals) (draw : Option Bytes) → AreDeclared c m → StationsInRange c m
    → NwkInRange k → ApsInRange k
    → (j : IsOffered t c.me.eui k.key k.sequence k.link)
    → plan_of tools m t (Received (confirmation_bytes tools c m k) draw)
    ≡ plan_at (net_frame c m k) j.network.found
    (plan_opened (nat_lt k.aps j.tried.kept)
    (net_term (net_frame c m k) (sealed_content tools (confirmation c m k)) ∷ []) j.tried.kept
    (end_plan tools c m k (Does (confirmed_moves j.keys.row j.keys.offer) None)))
confirm_plan tools delivers c m t k draw d st rn ra j =
    let f = net_frame c m k in
    let l = confirmation c m k in
    let known = d.network.centre_known in
    let sealed : LinkFrameInRange l =
    record {
      link = ra.link;
      source = st.centre;
      counter = ra.counter;
      command = (omega arith, omega arith, st.device);
    } in
    let first = first_candidate t c.me.eui j.tried j.tried_first in
    let open_ : IsOpened t l j.tried =
    record { rest = first.0; first = first.1; same = j.tried_key; small = ra.counter } in
    delivered_sealed tools m t f l j.network.found j.tried draw
    (delivers.carried f l (net_range c m k st.centre_short st.device_short st.centre rn) sealed)
    (delivers.unsealed l sealed) (heard_down c m t k d j.network rn.counter) open_
    ∙ ap (λ o. plan_at f j.network.found
    (plan_opened (nat_lt k.aps j.tried.kept) (net_term f (sealed_content tools l) ∷ []) j.tried.kept
    (end_plan tools c m k o)))
    (takes_by tools c m t f k j.tried j.keys.row j.keys.offer draw d j.is_offered
    (ap (current t) known ∙ j.keys.is_current) (ap (offered t) known ∙ j.keys.is_offered)
    (same_key_of j.tried.key j.keys.offer.key (j.tried_key ∙ sym j.keys.offer_key)))

pub confirm_refused : (tools : Tools) → DeliversCommands tools
    → (c m : Setting) (t : NodeState) (k : Seals) (draw : Option Bytes) → AreDeclared c m → StationsInRange c m
    → NwkInRange k → ApsInRange k
    → (j : IsOffered t c.me.eui k.key k.sequence k.link)
    → (answer tools m t (Received (confirmation_bytes tools c m k) draw)).refusal
    ≡ or_else (why_not_heard j.network.found c.me.eui k.nwk) (why_not_opened j.tried k.aps)
unfolding answer answer_by
confirm_refused tools delivers c m t k draw d st rn ra j =
    let last = end_plan tools c m k (Does (confirmed_moves j.keys.row j.keys.offer) None) in
    let terms = net_term (net_frame c m k) (sealed_content tools (confirmation c m k)) ∷ [] in
    ap refusal_of (confirm_plan tools delivers c m t k draw d st rn ra j)
    ∙ refused_at (net_frame c m k) j.network.found (plan_opened (nat_lt k.aps j.tried.kept) terms j.tried.kept last)
    ∙ ap (or_else (why_not_heard j.network.found c.me.eui k.nwk))
    (refused_opened terms j.tried k.aps last ∙ or_nothing (why_not_opened j.tried k.aps))
  where
    or_nothing : (o : Option Reason) → or_else o None ≡ o
    or_nothing None = refl
    or_nothing (Some r) = refl

-- ---- if nothing prevents it

abbrev new_moves : ℕ → LinkKey → LinkKey → List Move
new_moves centre row offer = DropLink centre row.key ∷ Row centre offer.key Verified ∷ Became Confirmed ∷ []

offer_partner : (t : NodeState) (p : ℕ) (row : LinkKey) → offered t p ≡ Some row → row.partner ≡ p
unfolding offered
offer_partner t p row e =
    let live = (both (is_live_of p row) (is_unverified row.attribute) (found_test (is_offer p) t.links row e)).0 in
    eqb-true row.partner p (both row.live (nat_eq row.partner p) live).1

same_moves : (t : NodeState) (centre : ℕ) (key : Bytes) (o : HasOffer t centre key) → confirmed_moves o.row o.offer
    ≡ new_moves centre o.row o.offer
same_moves t centre key o =
    ap (λ n. DropLink n o.row.key ∷ Row o.offer.partner o.offer.key Verified ∷ Became Confirmed ∷ [])
    (partner_is t centre o.row o.is_current)
    ∙ ap (λ n. DropLink centre o.row.key ∷ Row n o.offer.key Verified ∷ Became Confirmed ∷ [])
    (offer_partner t centre o.offer o.is_offered)

last_change : (t : NodeState) → t.state ≡ Offered → changes t (Became Confirmed) ≡ true
last_change t state = rw state refl

gives : (t : NodeState) (centre : ℕ) (key : Bytes) → keeps_rules t ≡ true → t.state ≡ Offered
    → (o : HasOffer t centre key) → filter (changes t) (new_moves centre o.row o.offer)
    ≡ new_moves centre o.row o.offer
gives t centre key rules state o =
    ap (λ b. DropLink centre o.row.key
    ∷ (if b then Row centre o.offer.key Verified ∷ (if changes t (Became Confirmed) then Became Confirmed ∷ []
    else []) else (if changes t (Became Confirmed) then Became Confirmed ∷ [] else [])))
    (row_changes t centre key rules o)
    ∙ ap (λ b. DropLink centre o.row.key ∷ Row centre o.offer.key Verified
    ∷ (if b then Became Confirmed ∷ [] else [])) (last_change t state)

new_network : (t u : NodeState) (centre : ℕ) (row offer : LinkKey) (key : Bytes) (sequence : ℕ) → bare u
    ≡ moved_all (new_moves centre row offer) (bare t) → HasNetwork t key sequence → HasNetwork u key sequence
unfolding bare
new_network t u centre row offer key sequence e h =
    keeps_network t u (moved_all (new_moves centre row offer) (bare t)) key sequence h e refl refl refl

new_links : (t u : NodeState) (p : ℕ) (key : Bytes) (o : HasOffer t p key) → bare u
    ≡ moved_all (new_moves p o.row o.offer) (bare t)
    → map bare_link u.links ≡ at_link p o.offer.key (revived Verified (is_told (dropped_first t p o.row) p))
    (at_link p o.row.key dropped_link (map bare_link t.links))
unfolding bare
new_links t u p key o e = links_of u (moved_all (new_moves p o.row o.offer) (bare t)) e ∙ place_taken t p key o
    (is_told (dropped_first t p o.row) p)

new_state : (t u : NodeState) (p : ℕ) (row offer : LinkKey) → bare u ≡ moved_all (new_moves p row offer) (bare t)
    → u.state ≡ Confirmed
new_state t u p row offer e = state_of u (moved_all (new_moves p row offer) (bare t)) e

pub is_confirmed : (tools : Tools) → DeliversCommands tools
    → (c m : Setting) (t : NodeState) (k : Seals) (draw : Option Bytes) → AreDeclared c m → StationsInRange c m
    → NwkInRange k → ApsInRange k → keeps_rules t ≡ true
    → (j : IsOffered t c.me.eui k.key k.sequence k.link) → or_else (why_not_heard j.network.found c.me.eui k.nwk)
    (why_not_opened j.tried k.aps) ≡ None
    → IsConfirmed (after_task tools m t (Received (confirmation_bytes tools c m k) draw)) c.me.eui k.key k.sequence
    k.link
unfolding after_task answer
is_confirmed tools delivers c m t k draw d st rn ra rules j none =
    let f = net_frame c m k in
    let centre = c.me.eui in
    let o = j.keys in
    let first = why_not_heard j.network.found centre k.nwk in
    let second = why_not_opened j.tried k.aps in
    let p = end_plan tools c m k (Does (confirmed_moves o.row o.offer) None) in
    let terms = net_term f (sealed_content tools (confirmation c m k)) ∷ [] in
    let plan : plan_of tools m t (Received (confirmation_bytes tools c m k) draw) ≡ p =
    confirm_plan tools delivers c m t k draw d st rn ra j
    ∙ free_at f j.network.found (plan_opened (nat_lt k.aps j.tried.kept) terms j.tried.kept p)
    (or_first first second none)
    ∙ free_opened terms j.tried k.aps p (or_second first second none) in
    let u = answered (answer_by tools m t (counting_of m t p) p) t in
    let rows : bare u ≡ moved_all (new_moves centre o.row o.offer) (bare t) =
    bare_after tools m t (counting_of m t p) p (new_moves centre o.row o.offer)
    (ap (filter (changes t)) (same_moves t centre k.link o) ∙ gives t centre k.link rules j.is_offered o)
    (tt, (tt, (tt, tt))) in
    let same : HasOffer t centre o.offer.key =
    record {
      row = o.row;
      is_current = o.is_current;
      offer = o.offer;
      is_offered = o.is_offered;
      offer_key = refl;
    } in
    let proof = proof_comes t u centre o.offer.key (is_told (dropped_first t centre o.row) centre) rules same
    (new_links t u centre k.link o rows) in
    subst (λ q. IsConfirmed (answered (answer_by tools m t (counting_of m t q) q) t) centre k.key k.sequence k.link)
    (sym plan)
    (record {
      network = new_network t u centre o.row o.offer k.key k.sequence rows j.network;
      confirmed = new_state t u centre o.row o.offer rows;
      keys = subst (λ key. HasProved u centre key) o.offer_key proof;
    })
