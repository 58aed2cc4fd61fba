-- A device that knocked installs a network key that it knows from before: it has joined, ready for the exchange of
-- link keys.
use Rattle.std.proofs.Common.{◌≡◌, ℕ, inl, inr, Bool, true, false, not, if◌then◌else◌, List, [], ◌∷◌, map, filter, Option, Some, None, is_some, nat_lt, refl, sym, ap, ◌∙◌, subst}
use Rattle.std.specs.List.{AllByRecursion}
use Rattle.std.proofs.lemmas.Bool.{false≢true}
use Rattle.zb_model.specs.Data.{Bytes, Aps, Knocked, Joined, AtAps, Reason, Stale, KeysFull, Move, Active, Became, Received}
use Rattle.zb_model.specs.Commands.{dropped_at}
use Rattle.zb_model.specs.Fits.{keeps_rules}
use Rattle.zb_model.specs.Rules.{Setting, Plan, Does, nets_full}
use Rattle.zb_model.specs.State.{NetKey, LinkKey, NodeState, same_key, is_active_key, has_net, active_row, usable_nets, usable_of, next_counter}
use Rattle.zb_model.specs.Tools.{Tools}
use Rattle.zb_model.specs.Answer.{changes, comes_to, answer_by, counting_of, plan_of, answer, answered}
use Rattle.law_change_fits.proofs.Parts.{same_key_is}
use Rattle.law_recovery.specs.Answering.{after_task}
use Rattle.law_recovery.specs.Joining.{AreIntroduced}
use Rattle.law_recovery.specs.KeyFrames.{KeyFrame, KeyFrameInRange, key_bytes, key_term, DeliversKeys}
use Rattle.law_recovery.specs.Rejoining.{AreOfOneNetwork, answer_frame, why_not_taken, why_old}
use Rattle.law_recovery.proofs.Knocking.{facts, same_state}
use Rattle.law_recovery.proofs.Taking.{Facts, delivered, outcome_by, plan_by, same_moves}
use Rattle.law_recovery.specs.Meeting.{HasLink, HasNetwork, IsJoined}
use Rattle.law_recovery.proofs.Baring.{bare, bare_net, bare_link, bare_after, moved_all, OfExchange}
use Rattle.law_recovery.proofs.Joining.{is_joined}
use Rattle.law_recovery.proofs.Keeping.{nets_of, links_of, active_of, state_of, link_kept}
use Rattle.law_recovery.proofs.Rows.{any_found, found_test, same_network}
use Rattle.law_recovery.specs.Knowing.{KnowsNetwork, MeetsKey}

-- ---- the plan, if nothing prevents it and the key is there

abbrev taken : Tools → KeyFrame → Plan
taken tools f = comes_to (key_term tools f ∷ []) AtAps (Does (same_moves Joined f) None)

abbrev refused : LinkKey → Bool → Option ℕ → Bool → Bool → Option Reason
refused own stale old has full = if stale then Some (Stale own.kept)
    else why_old old (if has then None else (if full then Some KeysFull else None))

same_plan : (tools : Tools) (t : NodeState) (f : KeyFrame) (own : LinkKey) (stale : Bool) (old : Option ℕ)
    (has full : Bool) → has ≡ true → refused own stale old has full ≡ None
    → plan_by tools f own stale (outcome_by Joined t f old has full) ≡ taken tools f
same_plan tools t f own true old has full known e = absurd (false≢true (sym (ap is_some e)))
same_plan tools t f own false (Some place) has full known e = absurd (false≢true (sym (ap is_some e)))
same_plan tools t f own false None true full known e = refl
same_plan tools t f own false None false full known e = absurd (false≢true known)

known_plan : (tools : Tools) (m : Setting) (t : NodeState) (f : KeyFrame) (own : LinkKey) (draw : Option Bytes)
    → Facts tools m Knocked Joined t f own → t.state ≡ Knocked → has_net f.key t.nets ≡ true
    → why_not_taken t own f.counter f.key ≡ None
    → plan_of tools m t (Received (key_bytes tools f) draw) ≡ taken tools f
unfolding why_not_taken
known_plan tools m t f own draw x knocked known none =
    subst (λ u. plan_of tools m u (Received (key_bytes tools f) draw) ≡ taken tools f) (same_state t knocked)
    (delivered tools m Knocked Joined t f own draw x ∙ same_plan tools t f own (nat_lt f.counter own.kept)
    (dropped_at 0 f.key t.nets) (has_net f.key t.nets) (nets_full t) known none)

-- ---- its changes

record Leads (t : NodeState) (key : Bytes) (ms : List Move) : Type 0 where
  of : AllByRecursion OfExchange ms
  nets : (moved_all ms (bare t)).nets ≡ map bare_net t.nets
  active : (moved_all ms (bare t)).active ≡ Some key
  links : (moved_all ms (bare t)).links ≡ map bare_link t.links
  state : (moved_all ms (bare t)).state ≡ Joined

kept_key : (o : Option Bytes) (key : Bytes) → is_active_key o key ≡ true → o ≡ Some key
kept_key None key e = absurd (false≢true e)
kept_key (Some a) key e = ap Some (same_key_is a key e)

leads : (t : NodeState) (key : Bytes) (b c : Bool) → is_active_key t.active key ≡ b → c ≡ true
    → Leads t key (if not b then Active key ∷ (if c then Became Joined ∷ [] else [])
    else (if c then Became Joined ∷ [] else []))
unfolding bare
leads t key true c e d =
    rw d (record { of = (tt, tt); nets = refl; active = kept_key t.active key e; links = refl; state = refl })
leads t key false c e d = rw d (record { of = (tt, (tt, tt)); nets = refl; active = refl; links = refl; state = refl })

becomes : (t : NodeState) → t.state ≡ Knocked → changes t (Became Joined) ≡ true
becomes t e = rw e refl

all_leads : (t : NodeState) (f : KeyFrame) → t.state ≡ Knocked
    → Leads t f.key (filter (changes t) (same_moves Joined f))
all_leads t f knocked =
    leads t f.key (is_active_key t.active f.key) (changes t (Became Joined)) refl (becomes t knocked)

-- ---- all of it

-- the device as if it had joined already
abbrev as_joined : NodeState → Bytes → NodeState
as_joined t key = record t { state = Joined; active = Some key }

known_network : (t : NodeState) (key : Bytes) (sequence : ℕ) → KnowsNetwork t key sequence
    → HasNetwork (as_joined t key) key sequence
unfolding active_row usable_of usable_nets
known_network t key sequence k =
    record {
      active = k.row;
      is_active = k.is_row;
      active_key = same_key_is k.row.key key (found_test (λ (r : NetKey). same_key r.key key) t.nets k.row k.is_row);
      active_sequence = k.row_sequence;
      found = k.found;
      is_found = k.is_found;
      found_key = k.found_key;
    }

known_there : (t : NodeState) (key : Bytes) (sequence : ℕ) → KnowsNetwork t key sequence → has_net key t.nets ≡ true
known_there t key sequence k =
    any_found (λ (r : NetKey). same_key r.key key) (λ (r : NetKey). same_key r.key key) t.nets k.row k.is_row
    (found_test (λ (r : NetKey). same_key r.key key) t.nets k.row k.is_row)

joins_known : (tools : Tools) → DeliversKeys tools → (c m : Setting) (s t : NodeState) → AreOfOneNetwork c m
    → (l : AreIntroduced c m s t) → KeyFrameInRange (answer_frame c m s l.net l.row) → keeps_rules t ≡ true
    → (draw : Option Bytes)
    → why_not_taken t l.own (next_counter Aps s) l.net.key ≡ None → KnowsNetwork t l.net.key l.net.sequence
    → IsJoined (after_task tools m t (Received (key_bytes tools (answer_frame c m s l.net l.row)) draw)) c.me.eui
    l.net.key l.net.sequence l.row.key
unfolding after_task answer
joins_known tools delivers c m s t o l range rules draw none known =
    let f = answer_frame c m s l.net l.row in
    let p = taken tools f in
    let plan = known_plan tools m t f l.own draw (facts tools delivers c m s t o l range rules) l.knocked
    (known_there t l.net.key l.net.sequence known) none in
    let u = answered (answer_by tools m t (counting_of m t p) p) t in
    let ms = filter (changes t) (same_moves Joined f) in
    let to = all_leads t f l.knocked in
    let rows : bare u ≡ moved_all ms (bare t) = bare_after tools m t (counting_of m t p) p ms refl to.of in
    let joined : u.state ≡ Joined = state_of u (moved_all ms (bare t)) rows ∙ to.state in
    let link : HasLink t c.me.eui l.row.key =
    record { row = l.own; is_current = l.at_device; row_key = l.same_key; none_offered = l.no_offer } in
    subst (λ q. IsJoined (answered (answer_by tools m t (counting_of m t q) q) t) c.me.eui l.net.key l.net.sequence
    l.row.key) (sym plan)
    (record {
      network = same_network (as_joined t l.net.key) u l.net.key l.net.sequence
          (known_network t l.net.key l.net.sequence known) (nets_of u (moved_all ms (bare t)) rows ∙ to.nets)
          (active_of u (moved_all ms (bare t)) rows ∙ to.active) (rw joined refl);
      joined = joined;
      keys = link_kept t u c.me.eui l.row.key link (links_of u (moved_all ms (bare t)) rows ∙ to.links);
    })

pub joins_with : (tools : Tools) → DeliversKeys tools → (c m : Setting) (s t : NodeState) → AreOfOneNetwork c m
    → (l : AreIntroduced c m s t) → KeyFrameInRange (answer_frame c m s l.net l.row) → keeps_rules t ≡ true
    → (draw : Option Bytes)
    → why_not_taken t l.own (next_counter Aps s) l.net.key ≡ None → MeetsKey t l.net.key l.net.sequence
    → IsJoined (after_task tools m t (Received (key_bytes tools (answer_frame c m s l.net l.row)) draw)) c.me.eui
    l.net.key l.net.sequence l.row.key
joins_with tools delivers c m s t o l range rules draw none (inl new) =
    is_joined tools delivers c m s t o l range rules draw none new
joins_with tools delivers c m s t o l range rules draw none (inr known) =
    joins_known tools delivers c m s t o l range rules draw none known
