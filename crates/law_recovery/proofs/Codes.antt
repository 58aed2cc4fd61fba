-- The centre enters a code, and a device knocks: the row of the code is the only live one of the partner then.
use Rattle.std.proofs.Common.{◌≡◌, ℕ, Bool, true, false, not, ◌&&◌, if◌then◌else◌, List, [], ◌∷◌, ◌++◌, map, find, Option, Some, None, option_map, is_some, nat_eq, refl, sym, ap, ◌∙◌}
use Rattle.std.specs.List.{AllByRecursion, list_any}
use Rattle.std.proofs.lemmas.Bool.{false≢true}
use Rattle.zb_model.specs.Data.{Bytes, Attribute, Provisional, WrongState, RowsFull, Row, Live, DoProvision}
use Rattle.zb_model.specs.Record.{attribute_byte}
use Rattle.zb_model.specs.Rules.{Setting, Does, refuse_if, links_full}
use Rattle.zb_model.specs.OwnEvents.{own, provision}
use Rattle.zb_model.specs.State.{LinkKey, NodeState, same_key, is_centre, is_unverified, is_live_of, is_link, has_link, is_live, is_told, at_link, revived, new_link, with_link, with_told, told_as, current, offered, other_user, applied, applied_all, next_counter}
use Rattle.zb_model.specs.Tools.{Tools}
use Rattle.zb_model.specs.Answer.{Answer, may_seal, out_of, reserve_of, floor_of, edits_of, answer_by, counting_of, plan_of, answer, answered}
use Rattle.law_change_fits.proofs.Parts.{same_key_is}
use Rattle.law_change_fits.proofs.Tests.{any_from, any_map, both, neither, never, none_where}
use Rattle.law_recovery.specs.Answering.{after_task}
use Rattle.law_recovery.proofs.Asking.{by_outcome}
use Rattle.law_recovery.proofs.Once.{find_map}
use Rattle.law_recovery.specs.Meeting.{HasLink}
use Rattle.law_recovery.specs.Obstacles.{or_else, obstacle_if, why_key_in_use}
use Rattle.law_recovery.proofs.Baring.{bare_net}
use Rattle.law_recovery.proofs.Judged.{or_first, or_second, when_none}
use Rattle.law_recovery.proofs.Rows.{found_last, found_such, is_current, is_offer}
use Rattle.law_recovery.specs.Entering.{IsEntered, why_no_row, why_not_entered}
use Rattle.law_recovery.proofs.Dropping.{self}
use Rattle.law_recovery.proofs.Removing.{keeps_network}

-- ---- the answer

provision_answer : (tools : Tools) (c : Setting) (s : NodeState) (device : ℕ) (key : Bytes) → is_centre c.me.role
    ≡ true → answer tools c s (DoProvision device key) ≡ by_outcome tools c s (provision s device key)
unfolding answer plan_of own
provision_answer tools c s device key role = rw role refl

provision_reason : (tools : Tools) (c : Setting) (s : NodeState) (device : ℕ) (key : Bytes) (live full : Bool)
    (other : Option LinkKey) → is_live s device ≡ live → (not (has_link device key s.links) && links_full s) ≡ full
    → other_user s device key ≡ other
    → (by_outcome tools c s (provision s device key)).refusal
    ≡ or_else (obstacle_if live WrongState) (or_else (obstacle_if full RowsFull) (why_key_in_use other))
unfolding answer_by provision refuse_if
provision_reason tools c s device key true full other x y z = rw x refl
provision_reason tools c s device key false true other x y z = rw (x, y) refl
provision_reason tools c s device key false false (Some row) x y z = rw (x, y, z) refl
provision_reason tools c s device key false false None x y z = rw (x, y, z) refl

pub refuses : (tools : Tools) (c : Setting) (s : NodeState) (device : ℕ) (key : Bytes) → is_centre c.me.role ≡ true
    → (answer tools c s (DoProvision device key)).refusal ≡ why_not_entered s device key
unfolding why_not_entered why_no_row
refuses tools c s device key role =
    ap (λ (a : Answer). a.refusal) (provision_answer tools c s device key role)
    ∙ provision_reason tools c s device key (is_live s device) (not (has_link device key s.links) && links_full s)
    (other_user s device key) refl refl refl

-- ---- the state afterwards

abbrev entered_links : ℕ → Bytes → Bool → List LinkKey → List LinkKey
entered_links device key told links = with_told device false (with_link device key Provisional told links)

rule_then : (s : NodeState) (device : ℕ) (key : Bytes) (full : Bool) (other : Option LinkKey) → is_live s device
    ≡ false → (not (has_link device key s.links) && links_full s) ≡ full → other_user s device key ≡ other
    → or_else (obstacle_if full RowsFull) (why_key_in_use other) ≡ None
    → provision s device key ≡ Does (Row device key Provisional ∷ Live device ∷ []) None
unfolding provision refuse_if
rule_then s device key true other x y z e = absurd (false≢true (sym (ap is_some e)))
rule_then s device key false (Some row) x y z e = absurd (false≢true (sym (ap is_some e)))
rule_then s device key false None x y z e = rw (x, y, z) refl

-- no row of the key is live already
none_there : (s : NodeState) (device : ℕ) (key : Bytes) → is_live s device ≡ false
    → list_any
    (λ (r : LinkKey). is_link device key r
    && (r.live && nat_eq (attribute_byte r.attribute) (attribute_byte Provisional)))
    s.links ≡ false
unfolding is_live
none_there s device key e =
    none_where (is_live_of device)
    (λ (r : LinkKey). is_link device key r
    && (r.live && nat_eq (attribute_byte r.attribute) (attribute_byte Provisional)))
    (λ r f. by_tests (nat_eq r.partner device) r.live (same_key r.key key) r.attribute f) s.links e
  where
    by_tests : (mine live same : Bool) (a : Attribute) → (live && mine) ≡ false
        → ((mine && same) && (live && nat_eq (attribute_byte a) (attribute_byte Provisional))) ≡ false
    by_tests true true same a f = absurd (false≢true (sym f))
    by_tests true false true a f = refl
    by_tests true false false a f = refl
    by_tests false live same a f = refl

entered_so : (tools : Tools) (c : Setting) (s : NodeState) (device : ℕ) (key : Bytes)
    → list_any
    (λ (r : LinkKey). is_link device key r
    && (r.live && nat_eq (attribute_byte r.attribute) (attribute_byte Provisional)))
    s.links ≡ false
    → answered (by_outcome tools c s (Does (Row device key Provisional ∷ Live device ∷ []) None)) s
    ≡ record s { links = entered_links device key (is_told s device) s.links }
unfolding answered answer_by counting_of edits_of out_of may_seal reserve_of floor_of applied_all applied
entered_so tools c s device key e = rw e refl

pub entered : (tools : Tools) (c : Setting) (s : NodeState) (device : ℕ) (key : Bytes) → is_centre c.me.role ≡ true
    → why_not_entered s device key ≡ None
    → after_task tools c s (DoProvision device key)
    ≡ record s { links = entered_links device key (is_told s device) s.links }
unfolding after_task why_not_entered why_no_row
entered tools c s device key role e =
    let rest = or_else (obstacle_if (not (has_link device key s.links) && links_full s) RowsFull)
    (why_key_in_use (other_user s device key)) in
    let gone = when_none (is_live s device) WrongState (or_first (obstacle_if (is_live s device) WrongState) rest e) in
    ap (λ a. answered a s)
    (provision_answer tools c s device key role ∙ ap (by_outcome tools c s)
    (rule_then s device key (not (has_link device key s.links) && links_full s) (other_user s device key) gone refl
    refl (or_second (obstacle_if (is_live s device) WrongState) rest e)))
    ∙ entered_so tools c s device key (none_there s device key gone)

pub not_live_of : (s : NodeState) (device : ℕ) (key : Bytes) → why_not_entered s device key ≡ None → is_live s device
    ≡ false
unfolding why_not_entered
not_live_of s device key e =
    when_none (is_live s device) WrongState
    (or_first (obstacle_if (is_live s device) WrongState) (why_no_row s device key) e)

-- ---- which row is found

abbrev not_told : ℕ → LinkKey → LinkKey
not_told device r = if is_live_of device r then told_as false r else r

told_current : (device p : ℕ) (r : LinkKey) → is_current p (not_told device r) ≡ is_current p r
told_current device p r = by_test (is_live_of device r)
  where
    by_test : (b : Bool) → is_current p (if b then told_as false r else r) ≡ is_current p r
    by_test true = refl
    by_test false = refl

told_offer : (device p : ℕ) (r : LinkKey) → is_offer p (not_told device r) ≡ is_offer p r
told_offer device p r = by_test (is_live_of device r)
  where
    by_test : (b : Bool) → is_offer p (if b then told_as false r else r) ≡ is_offer p r
    by_test true = refl
    by_test false = refl

told_key : (device : ℕ) (r : LinkKey) → (not_told device r).key ≡ r.key
told_key device r = by_test (is_live_of device r)
  where
    by_test : (b : Bool) → (if b then told_as false r else r).key ≡ r.key
    by_test true = refl
    by_test false = refl

pub none_found : {X : Type 0} (q : X → Bool) (xs : List X) → list_any q xs ≡ false → find q xs ≡ None
none_found q [] e = refl
none_found q (x ∷ xs) e =
    let parts = neither (q x) (list_any q xs) e in
    rw parts.0 (none_found q xs parts.1)

-- a row of the code among rows of which none is live
abbrev renewed : ℕ → Bytes → Bool → LinkKey → LinkKey
renewed device key told r = if is_link device key r then revived Provisional told r else r

dead_row : (device : ℕ) (r : LinkKey) → is_live_of device r ≡ false → (b : Bool) → (is_live_of device r && b) ≡ false
dead_row device r e b = rw e refl

renewed_key : (device : ℕ) (key : Bytes) (told : Bool) (r : LinkKey) → is_live_of device r ≡ false
    → is_current device (renewed device key told r) ≡ true → (renewed device key told r).key ≡ key
renewed_key device key told r gone = by_test (is_link device key r) refl
  where
    by_test : (b : Bool) → is_link device key r ≡ b
        → is_current device (if b then revived Provisional told r else r) ≡ true
        → (if b then revived Provisional told r else r).key ≡ key
    by_test true e f = same_key_is r.key key (both (nat_eq r.partner device) (same_key r.key key) e).1
    by_test false e f = never (is_current device r) f (dead_row device r gone (not (is_unverified r.attribute)))

renewed_keys : (device : ℕ) (key : Bytes) (told : Bool) (rows : List LinkKey) → list_any (is_live_of device) rows
    ≡ false
    → AllByRecursion (λ r. is_current device r ≡ true → r.key ≡ key) (map (renewed device key told) rows)
renewed_keys device key told [] e = tt
renewed_keys device key told (r ∷ rows) e =
    let parts = neither (is_live_of device r) (list_any (is_live_of device) rows) e in
    (renewed_key device key told r parts.0, renewed_keys device key told rows parts.1)

renewed_some : (device : ℕ) (key : Bytes) (told : Bool) (rows : List LinkKey) → has_link device key rows ≡ true
    → list_any (is_current device) (map (renewed device key told) rows) ≡ true
renewed_some device key told rows e =
    any_map (is_current device) (renewed device key told) rows
    ∙ any_from (is_link device key) (λ r. is_current device (renewed device key told r))
    (λ r f. rw (f, (both (nat_eq r.partner device) (same_key r.key key) f).0) refl) rows e

renewed_no_offer : (device : ℕ) (key : Bytes) (told : Bool) (rows : List LinkKey)
    → list_any (is_live_of device) rows ≡ false
    → list_any (is_offer device) (map (renewed device key told) rows) ≡ false
renewed_no_offer device key told rows e =
    any_map (is_offer device) (renewed device key told) rows
    ∙ none_where (is_live_of device) (λ r. is_offer device (renewed device key told r))
    (λ r gone. by_test r gone (is_link device key r)) rows e
  where
    by_test : (r : LinkKey) → is_live_of device r ≡ false → (b : Bool)
        → is_offer device (if b then revived Provisional told r else r) ≡ false
    by_test r gone true = mine (nat_eq r.partner device)
      where
        mine : (b : Bool) → (b && false) ≡ false
        mine true = refl
        mine false = refl
    by_test r gone false = dead_row device r gone (is_unverified r.attribute)

-- the row that is current after a code is entered, before its device is marked as untold
record Coded (device : ℕ) (key : Bytes) (rows : List LinkKey) : Type 0 where
  row : LinkKey
  is : find (is_current device) rows ≡ Some row
  row_key : row.key ≡ key
  none : find (is_offer device) rows ≡ None

no_current : (device : ℕ) (rows : List LinkKey) → list_any (is_live_of device) rows ≡ false
    → list_any (is_current device) rows ≡ false
no_current device rows e =
    none_where (is_live_of device) (is_current device)
    (λ r gone. dead_row device r gone (not (is_unverified r.attribute))) rows e

no_offer : (device : ℕ) (rows : List LinkKey) → list_any (is_live_of device) rows ≡ false
    → list_any (is_offer device) rows ≡ false
no_offer device rows e =
    none_where (is_live_of device) (is_offer device) (λ r gone. dead_row device r gone (is_unverified r.attribute))
    rows e

any_last : (q : LinkKey → Bool) (rows : List LinkKey) (r : LinkKey) → list_any q rows ≡ false → q r ≡ false
    → find q (rows ++ r ∷ []) ≡ None
any_last q [] r e f = rw f refl
any_last q (x ∷ rows) r e f =
    let parts = neither (q x) (list_any q rows) e in
    rw parts.0 (any_last q rows r parts.1 f)

coded : (device : ℕ) (key : Bytes) (told : Bool) (rows : List LinkKey) → list_any (is_live_of device) rows ≡ false
    → Coded device key (with_link device key Provisional told rows)
coded device key told rows gone = by_test (has_link device key rows) refl
  where
    by_test : (b : Bool) → has_link device key rows ≡ b
        → Coded device key (if b then at_link device key (revived Provisional told) rows
        else rows ++ new_link device key Provisional told ∷ [])
    by_test true e =
        let f = found_such (is_current device) (λ r. r.key ≡ key) (map (renewed device key told) rows)
        (renewed_keys device key told rows gone) (renewed_some device key told rows e) in
        record {
          row = f.item;
          is = f.is;
          row_key = f.has;
          none = none_found (is_offer device) (map (renewed device key told) rows)
              (renewed_no_offer device key told rows gone);
        }
    by_test false e =
        let new = new_link device key Provisional told in
        record {
          row = new;
          is = found_last (is_current device) rows new
              (none_found (is_current device) rows (no_current device rows gone)) (rw (self device) refl);
          row_key = refl;
          none = any_last (is_offer device) rows new (no_offer device rows gone) (rw (self device) refl);
        }

marked : (device : ℕ) (key : Bytes) (u : NodeState) (rows : List LinkKey) → Coded device key rows → u.links
    ≡ with_told device false rows → HasLink u device key
unfolding current offered
marked device key u rows k e =
    record {
      row = not_told device k.row;
      is_current = ap (find (is_current device)) e
          ∙ find_map (is_current device) (not_told device) (told_current device device) rows
          ∙ ap (option_map (not_told device)) k.is;
      row_key = told_key device k.row ∙ k.row_key;
      none_offered = ap (find (is_offer device)) e
          ∙ find_map (is_offer device) (not_told device) (told_offer device device) rows
          ∙ ap (option_map (not_told device)) k.none;
    }

pub enters : (tools : Tools) (c : Setting) (s : NodeState) (device : ℕ) (key : Bytes) → is_centre c.me.role ≡ true
    → why_not_entered s device key ≡ None → IsEntered s (after_task tools c s (DoProvision device key)) device key
unfolding is_live next_counter
enters tools c s device key role e =
    let u = after_task tools c s (DoProvision device key) in
    let told = is_told s device in
    let same = entered tools c s device key role e in
    record {
      keys = marked device key u (with_link device key Provisional told s.links)
          (coded device key told s.links (not_live_of s device key e)) (ap (λ (x : NodeState). x.links) same);
      network = keeps_network s u (ap (λ (x : NodeState). map bare_net x.nets) same)
          (ap (λ (x : NodeState). x.active) same) (ap (λ (x : NodeState). x.state) same)
          (ap (λ (x : NodeState). x.role) same);
      counter = ap (λ (x : NodeState). x.aps_next) same;
    }
