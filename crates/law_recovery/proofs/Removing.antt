-- The centre removes a device: none of its rows is live, and nothing else that rules ask for changes.
use Rattle.std.proofs.Common.{◌≡◌, ℕ, ◌+◌, Bool, true, false, not, ◌&&◌, if◌then◌else◌, List, [], ◌∷◌, ◌++◌, map, filter, find, flat_map, length, Option, Some, None, option_map, is_some, nat_eq, nat_le, refl, sym, ap, ◌∙◌, subst}
use Rattle.std.specs.List.{list_any}
use Rattle.zb_model.specs.Data.{Bytes, Nwk, Aps, Term, AtEvent, NotMember, RowsFull, Move, Removed, DoRemove}
use Rattle.zb_model.specs.Fits.{most_links}
use Rattle.zb_model.specs.Rules.{Setting, Leaving, Sending, Does, refuse_if, sends, short_of, spent, drop_link, drop_partner, links_full}
use Rattle.zb_model.specs.OwnEvents.{own, remove_device, tell_leave, tell_parent}
use Rattle.zb_model.specs.State.{NetKey, LinkKey, NodeState, same_key, is_centre, is_live_of, has_link, is_live, may_use, current, other_user, next_at, moved, applied, applied_all, after_sealing, active_row, next_counter}
use Rattle.zb_model.specs.Tools.{Tools}
use Rattle.zb_model.specs.Answer.{Answer, Counting, sealed_all, changes, move_edits, comes_to, part_of, may_seal, out_of, edits_of, answer_by, counting_of, plan_of, answer, answered}
use Rattle.law_recovery.specs.Answering.{after_task}
use Rattle.law_recovery.proofs.Asking.{by_outcome}
use Rattle.law_recovery.proofs.Changing.{IsMild, mild_if, reserves, reserved_so, applied_then}
use Rattle.law_recovery.proofs.Once.{find_map}
use Rattle.law_recovery.specs.Obstacles.{or_else, obstacle_if, why_key_in_use}
use Rattle.law_recovery.proofs.Baring.{bare_net}
use Rattle.law_recovery.proofs.Rows.{may_use_of, same_network}
use Rattle.law_recovery.specs.Entering.{IsRemoved, KeepsNetwork, why_no_row, why_not_removed}
use Rattle.law_recovery.proofs.Dropping.{dropped_by, dropped_links, kept_by, none_live, row_by_row, same_has, same_length, self}

-- ---- the answer

remove_answer : (tools : Tools) (c : Setting) (s : NodeState) (device via : ℕ) → is_centre c.me.role ≡ true
    → answer tools c s (DoRemove device via) ≡ by_outcome tools c s (remove_device c s device via)
unfolding answer plan_of own
remove_answer tools c s device via role = rw role refl

remove_reason : (tools : Tools) (c : Setting) (s : NodeState) (device via : ℕ) (b : Bool) → is_live s device ≡ b
    → (by_outcome tools c s (remove_device c s device via)).refusal ≡ obstacle_if (not b) NotMember
unfolding answer_by remove_device refuse_if
remove_reason tools c s device via true e = rw e refl
remove_reason tools c s device via false e = rw e refl

pub refuses : (tools : Tools) (c : Setting) (s : NodeState) (device via : ℕ) → is_centre c.me.role ≡ true
    → (answer tools c s (DoRemove device via)).refusal ≡ why_not_removed s device
unfolding why_not_removed
refuses tools c s device via role =
    ap (λ (a : Answer). a.refusal) (remove_answer tools c s device via role)
    ∙ remove_reason tools c s device via (is_live s device) refl

-- ---- what a frame that is sent leaves

-- the network rows are the same except limits, counters and floors; link rows, state and active key are the same
pub record Same (s u : NodeState) : Type 0 where
  pub nets : map bare_net u.nets ≡ map bare_net s.nets
  pub active : u.active ≡ s.active
  pub links : u.links ≡ s.links
  pub state : u.state ≡ s.state
  pub role : u.role ≡ s.role

same_bare : (f : NetKey → NetKey) → IsMild f → (r : NetKey) → bare_net (f r) ≡ bare_net r
same_bare f m r = rw (m.key r, m.sequence r, m.live r) refl

pub same_rows : (f : NetKey → NetKey) → IsMild f → (rs : List NetKey) → map bare_net (map f rs) ≡ map bare_net rs
same_rows f m [] = refl
same_rows f m (r ∷ rs) =
    ap (λ y. y ∷ map bare_net (map f rs)) (same_bare f m r) ∙ ap (λ l. bare_net r ∷ l) (same_rows f m rs)

mild_next : (n : ℕ) → IsMild (next_at n)
mild_next n = record { key = λ r. refl; sequence = λ r. refl; live = λ r. refl }

by_layer : (t : Term) (s : NodeState) → (layer : _) → t.layer ≡ layer → Same s (after_sealing t s)
unfolding after_sealing
by_layer t s Nwk e =
    rw e (record {
      nets = same_rows (λ (r : NetKey). if same_key r.key t.base then next_at (t.counter + 1) r else r)
          (mild_if (λ (r : NetKey). same_key r.key t.base) (next_at (t.counter + 1)) (mild_next (t.counter + 1)))
          s.nets;
      active = refl;
      links = refl;
      state = refl;
      role = refl;
    })
by_layer t s Aps e = rw e (record { nets = refl; active = refl; links = refl; state = refl; role = refl })

same_then : (s u v : NodeState) → Same s u → Same u v → Same s v
same_then s u v a b =
    record {
      nets = b.nets ∙ a.nets;
      active = b.active ∙ a.active;
      links = b.links ∙ a.links;
      state = b.state ∙ a.state;
      role = b.role ∙ a.role;
    }

by_seals : (ts : List Term) (s : NodeState) → Same s (sealed_all ts s)
by_seals [] s = record { nets = refl; active = refl; links = refl; state = refl; role = refl }
by_seals (t ∷ ts) s =
    same_then s (after_sealing t s) (sealed_all ts (after_sealing t s)) (by_layer t s t.layer refl)
    (by_seals ts (after_sealing t s))

by_reserves : (nwk aps : Option ℕ) (s : NodeState) → Same s (applied_all (reserves nwk aps) s)
by_reserves nwk aps s =
    let r = reserved_so nwk aps s in
    subst (Same s) (sym r.same)
    (record { nets = same_rows r.change r.mild s.nets; active = refl; links = refl; state = refl; role = refl })

-- ---- rows are dropped

pub drops_all : (s : NodeState) (k : Counting) (rows : List LinkKey) (rest : List Move) (v : NodeState)
    → applied_all (flat_map (move_edits k) (filter (changes s) (map drop_link rows ++ rest))) v
    ≡ applied_all (flat_map (move_edits k) (filter (changes s) rest))
    (record v { links = dropped_links rows v.links })
unfolding applied_all applied
drops_all s k [] rest v = refl
drops_all s k (r ∷ rows) rest v = drops_all s k rows rest (moved (drop_link r) v)

-- the state after a removal
abbrev after_removal : Tools → Setting → NodeState → Counting → ℕ → Option Sending → NodeState
after_removal tools c s k device send =
    answered (answer_by tools c s k (comes_to [] AtEvent (Does (drop_partner s device ++ Removed device ∷ []) send))) s

-- The rows of a device are dropped, and the rest is the same.
pub record Dropped (s u : NodeState) (device : ℕ) : Type 0 where
  pub nets : map bare_net u.nets ≡ map bare_net s.nets
  pub active : u.active ≡ s.active
  pub links : u.links ≡ dropped_links (filter (is_live_of device) s.links) s.links
  pub state : u.state ≡ s.state
  pub role : u.role ≡ s.role

dropped_then : (s v u : NodeState) (device : ℕ) → Same s v
    → Same (moved (Removed device) (record v { links = dropped_links (filter (is_live_of device) s.links) v.links })) u
    → Dropped s u device
dropped_then s v u device a b =
    record {
      nets = b.nets ∙ a.nets;
      active = b.active ∙ a.active;
      links = b.links ∙ ap (dropped_links (filter (is_live_of device) s.links)) a.links;
      state = b.state ∙ a.state;
      role = b.role ∙ a.role;
    }

removal : (tools : Tools) (c : Setting) (s : NodeState) (k : Counting) (device : ℕ) (send : Option Sending)
    → Dropped s (after_removal tools c s k device send) device
unfolding answered answer_by edits_of drop_partner applied_all applied
removal tools c s k device send =
    let rows = filter (is_live_of device) s.links in
    let first = reserves (k.reserve Nwk) (k.reserve Aps) in
    let edits = flat_map (move_edits k) (filter (changes s) (map drop_link rows ++ Removed device ∷ [])) in
    let v = applied_all first s in
    let w = moved (Removed device) (record v { links = dropped_links rows v.links }) in
    let seals = (out_of tools c s k send).seals in
    let same : applied_all (first ++ edits) s ≡ w = applied_then first edits s
    ∙ drops_all s k rows (Removed device ∷ []) v
    in
    subst (λ x. Dropped s (sealed_all seals x) device) (sym same)
    (dropped_then s v (sealed_all seals w) device (by_reserves (k.reserve Nwk) (k.reserve Aps) s) (by_seals seals w))

rule_then : (tools : Tools) (c : Setting) (s : NodeState) (device via : ℕ) → is_live s device ≡ true
    → (send : Option Sending) → (if nat_eq via c.me.eui then tell_leave c s device
    else tell_parent c s device via (current s via)) ≡ send → remove_device c s device via
    ≡ Does (drop_partner s device ++ Removed device ∷ []) send
unfolding remove_device refuse_if
rule_then tools c s device via live send e = rw live (ap (Does (drop_partner s device ++ Removed device ∷ [])) e)

pub dropped : (tools : Tools) (c : Setting) (s : NodeState) (device via : ℕ) → is_centre c.me.role ≡ true
    → is_live s device ≡ true → Dropped s (after_task tools c s (DoRemove device via)) device
unfolding after_task
dropped tools c s device via role live =
    let send = if nat_eq via c.me.eui then tell_leave c s device else tell_parent c s device via (current s via) in
    let o = Does (drop_partner s device ++ Removed device ∷ []) send in
    subst (λ a. Dropped s (answered a s) device)
    (sym (remove_answer tools c s device via role ∙ ap (by_outcome tools c s) (rule_then tools c s device via live send
    refl)))
    (removal tools c s (counting_of c s (comes_to [] AtEvent o)) device send)

-- ---- what it means for the rules

pub keeps_network : (s u : NodeState) → map bare_net u.nets ≡ map bare_net s.nets → u.active ≡ s.active → u.state
    ≡ s.state → u.role ≡ s.role → KeepsNetwork s u
keeps_network s u nets active state role key sequence h =
    same_network s u key sequence h nets active
    (ap (λ g. may_use (record u { state = g })) state ∙ ap (λ r. may_use (record s { role = r })) role
    ∙ may_use_of s key sequence h)

in_use_kept : (f : LinkKey → LinkKey) → ((r : LinkKey) → (f r).partner ≡ r.partner) → (o : Option LinkKey)
    → why_key_in_use (option_map f o) ≡ why_key_in_use o
in_use_kept f same None = refl
in_use_kept f same (Some r) = rw (same r) refl

same_user : (device : ℕ) (key : Bytes) (rows links : List LinkKey)
    → why_key_in_use
    (find (λ (r : LinkKey). same_key r.key key && not (nat_eq r.partner device)) (dropped_links rows links))
    ≡ why_key_in_use (find (λ (r : LinkKey). same_key r.key key && not (nat_eq r.partner device)) links)
same_user device key rows links =
    let test = λ (r : LinkKey). same_key r.key key && not (nat_eq r.partner device) in
    ap (λ l. why_key_in_use (find test l)) (row_by_row rows links)
    ∙ ap why_key_in_use
    (find_map test (dropped_by rows)
    (λ r. let k = kept_by rows r in
    ap (λ y. same_key y key && not (nat_eq (dropped_by rows r).partner device)) k.key
    ∙ ap (λ n. same_key r.key key && not (nat_eq n device)) k.partner) links)
    ∙ in_use_kept (dropped_by rows) (λ r. (kept_by rows r).partner) (find test links)

pub same_room : (s u : NodeState) (device : ℕ) → Dropped s u device → (key : Bytes) → why_no_row u device key
    ≡ why_no_row s device key
unfolding why_no_row other_user
same_room s u device d key =
    let rows = filter (is_live_of device) s.links in
    let has = ap (has_link device key) d.links ∙ same_has device key rows s.links in
    let full : links_full u ≡ links_full s =
    ap (λ n. nat_le (most_links u.role) n) (ap (length {A = LinkKey}) d.links ∙ same_length rows s.links)
    ∙ ap (λ r. nat_le (most_links r) (length s.links)) d.role in
    let user =
    ap (λ l. why_key_in_use (find (λ (r : LinkKey). same_key r.key key && not (nat_eq r.partner device)) l)) d.links
    ∙ same_user device key rows s.links in
    ap (λ b. or_else (obstacle_if (not b && links_full u) RowsFull) (why_key_in_use (other_user u device key))) has
    ∙ ap (λ b. or_else (obstacle_if (not (has_link device key s.links) && b) RowsFull)
    (why_key_in_use (other_user u device key))) full
    ∙ ap (or_else (obstacle_if (not (has_link device key s.links) && links_full s) RowsFull)) user

pub removes : (tools : Tools) (c : Setting) (s : NodeState) (device via : ℕ) → is_centre c.me.role ≡ true
    → is_live s device ≡ true → IsRemoved s (after_task tools c s (DoRemove device via)) device
unfolding is_live
removes tools c s device via role live =
    let u = after_task tools c s (DoRemove device via) in
    let d = dropped tools c s device via role live in
    record {
      gone = ap (list_any (is_live_of device)) d.links ∙ none_live device s.links;
      network = keeps_network s u d.nets d.active d.state d.role;
      room = same_room s u device d;
    }

-- ---- the counter at APS: a removal under the centre itself seals nothing there

leaving_unsealed : (tools : Tools) (c : Setting) (s v : NodeState) (k : Counting) (to : ℕ) (may : Bool)
    (row : Option NetKey) → active_row s ≡ row → may_seal s (sends to true Leaving) ≡ may
    → (sealed_all (out_of tools c s k (sends to true Leaving)).seals v).aps_next ≡ v.aps_next
unfolding out_of part_of after_sealing
leaving_unsealed tools c s v k to true None e f = rw (f, e) refl
leaving_unsealed tools c s v k to true (Some r) e f = rw (f, e) refl
leaving_unsealed tools c s v k to false row e f = rw f refl

unsealed : (tools : Tools) (c : Setting) (s v : NodeState) (k : Counting) (to : ℕ) (b : Bool)
    → (sealed_all (out_of tools c s k (if b then sends to true Leaving else None)).seals v).aps_next ≡ v.aps_next
unfolding out_of may_seal
unsealed tools c s v k to true =
    leaving_unsealed tools c s v k to (may_seal s (sends to true Leaving)) (active_row s) refl refl
unsealed tools c s v k to false = refl

counter_after : (tools : Tools) (c : Setting) (s : NodeState) (k : Counting) (device : ℕ)
    → (after_removal tools c s k device (tell_leave c s device)).aps_next ≡ s.aps_next
unfolding answered answer_by edits_of drop_partner applied_all applied
counter_after tools c s k device =
    let rows = filter (is_live_of device) s.links in
    let first = reserves (k.reserve Nwk) (k.reserve Aps) in
    let edits = flat_map (move_edits k) (filter (changes s) (map drop_link rows ++ Removed device ∷ [])) in
    let v = applied_all first s in
    let w = moved (Removed device) (record v { links = dropped_links rows v.links }) in
    let seals = (out_of tools c s k (tell_leave c s device)).seals in
    let same : applied_all (first ++ edits) s ≡ w = applied_then first edits s
    ∙ drops_all s k rows (Removed device ∷ []) v
    in
    ap (λ x. (sealed_all seals x).aps_next) same
    ∙ unsealed tools c s w k (short_of c device) (is_some (active_row s) && not (spent Nwk s))
    ∙ ap (λ (y : NodeState). y.aps_next) (reserved_so (k.reserve Nwk) (k.reserve Aps) s).same

pub same_counter : (tools : Tools) (c : Setting) (s : NodeState) (device : ℕ) → is_centre c.me.role ≡ true
    → is_live s device ≡ true → next_counter Aps (after_task tools c s (DoRemove device c.me.eui))
    ≡ next_counter Aps s
unfolding after_task next_counter
same_counter tools c s device role live =
    let send = tell_leave c s device in
    let o = Does (drop_partner s device ++ Removed device ∷ []) send in
    let own_node : (if nat_eq c.me.eui c.me.eui then send else tell_parent c s device c.me.eui (current s c.me.eui))
    ≡ send = rw (self c.me.eui) refl in
    ap (λ a. (answered a s).aps_next)
    (remove_answer tools c s device c.me.eui role ∙ ap (by_outcome tools c s)
    (rule_then tools c s device c.me.eui live send own_node))
    ∙ counter_after tools c s (counting_of c s (comes_to [] AtEvent o)) device
