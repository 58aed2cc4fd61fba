-- The centre of a schedule and each other node of it are of one network.
use Rattle.std.proofs.Common.{◌≡◌, ℕ, ◌<◌, Bool, true, false, ◌&&◌, ◌||◌, not, List, [], ◌∷◌, map, find, Option, Some, None, option_map, is_some, nat_eq, refl, sym, ap, ◌∙◌, subst, eq-eqb, eqb-true, inl, inr}
use Rattle.std.specs.List.{AllByRecursion, list_any}
use Rattle.std.proofs.lemmas.Bool.{false≢true, and_parts}
use Rattle.zb_model.specs.Data.{Station}
use Rattle.zb_model.specs.Fits.{all_apart}
use Rattle.zb_model.specs.Play as model
use Rattle.zb_model.specs.Play.{Node, stations, setting_of, station_or, without_blocks}
use Rattle.zb_model.specs.Rules.{centre_of, eui_or, short_of, short_or, station_of}
use Rattle.zb_model.specs.Schedules.{IsMember, Names}
use Rattle.zb_model.specs.State.{is_centre}
use Rattle.law_change_fits.proofs.Tests.{not_apart, or_true}
use Rattle.law_recovery.specs.Rejoining.{AreOfOneNetwork}
use Rattle.law_recovery.proofs.Once.{find_map}
use Rattle.law_run.proofs.Judged.{In, found-element, all-in}
use Rattle.law_schedules.specs.Schedules.{schedule_of, station_for}
use Rattle.law_schedules.proofs.Meets.{same_stations}
use Rattle.law_schedules.proofs.Holding.{premises}
use Rattle.zb_sched.specs.Schedules.{Node as SchedNode, Schedule}
use Rattle.zb_sched.specs.Valid.{Apart, IsSchedule, Pairwise}
use Rattle.zb_sched.proofs.Splits.{false_if}

-- ---- short addresses differ

neither : (a b : Bool) → a ≡ false → b ≡ false → (a || b) ≡ false
neither false b e f = f
neither true b e f = e

both : (a b : Bool) → a ≡ false → b ≡ true → (not a && b) ≡ true
both false b e f = f
both true b e f = sym e

none_like : (m : SchedNode) (ns : List SchedNode) → AllByRecursion (Apart m) ns
    → list_any (λ (q : Station). nat_eq m.short q.short) (map station_for ns) ≡ false
none_like m [] all = refl
none_like m (n ∷ ns) all =
    neither (nat_eq m.short n.short) (list_any (λ (q : Station). nat_eq m.short q.short) (map station_for ns))
    (false_if (nat_eq m.short n.short) (λ same. all.0.2 (eqb-true m.short n.short same))) (none_like m ns all.1)

all_differ : (ms : List SchedNode) → Pairwise Apart ms → all_apart (λ (p q : Station). nat_eq p.short q.short)
    (map station_for ms) ≡ true
all_differ [] pairs = refl
all_differ (m ∷ ms) pairs = both (list_any (λ (q : Station). nat_eq m.short q.short) (map station_for ms))
    (all_apart (λ (p q : Station). nat_eq p.short q.short) (map station_for ms)) (none_like m ms pairs.0)
    (all_differ ms pairs.1)

pub shorts_differ : (p : Schedule) → IsSchedule p → all_apart (λ (a b : Station). nat_eq a.short b.short)
    (stations (schedule_of p)) ≡ true
shorts_differ p is = ap (all_apart (λ (a b : Station). nat_eq a.short b.short)) (same_stations p) ∙ all_differ p.nodes
    is.so_far.apart

pub any_of : {X : Type 0} (test : X → Bool) (x : X) (xs : List X) → In x xs → test x ≡ true → list_any test xs ≡ true
unfolding In
any_of test x [] i e = absurd i
any_of test x (y ∷ ys) (inl same) e = rw (ap test same ∙ e) refl
any_of test x (y ∷ ys) (inr i) e = or_true (test y) (list_any test ys) (any_of test x ys i e)

-- ---- a declared node

pub record Declared (w : model.Schedule) (n : ℕ) : Type 0 where
  pub station : Station
  pub found : station_of (stations w) n ≡ Some station
  pub among : In station (stations w)
  pub mine : station.eui ≡ n
  pub me : (setting_of w n).me ≡ station

pub declared : (w : model.Schedule) (n : ℕ) → Names w n → Declared w n
unfolding setting_of station_of
declared w n named = by_found (find (λ (p : Station). nat_eq p.eui n) (stations w)) refl named
  where
    by_found : (o : Option Station) → find (λ (p : Station). nat_eq p.eui n) (stations w) ≡ o → is_some o ≡ true
        → Declared w n
    by_found None e some = absurd (false≢true some)
    by_found (Some p) e some = let f = found-element (λ (p : Station). nat_eq p.eui n) (stations w) p e in
        record { station = p; found = e; among = f.0; mine = eqb-true p.eui n f.1; me = ap station_or e }

-- what every station keeps and what is known of every node
pub of_nodes : (P : Station → Type 0) (Q : Node → Type 0) → ((m : Node) → Q m → P m.station) → (ms : List Node)
    → AllByRecursion Q ms → AllByRecursion P (map (λ (m : Node). m.station) ms)
of_nodes P Q k [] all = tt
of_nodes P Q k (m ∷ ms) all = (k m all.0, of_nodes P Q k ms all.1)

centre_known : (w : model.Schedule) → centre_of (map without_blocks (stations w)) ≡ centre_of (stations w)
unfolding centre_of
centre_known w =
    ap (eui_or 18446744073709551616)
    (find_map (λ (p : Station). is_centre p.role) without_blocks (λ p. refl) (stations w)) ∙ same
    (find (λ (p : Station). is_centre p.role) (stations w))
  where
    same : (o : Option Station) → eui_or 18446744073709551616 (option_map without_blocks o)
        ≡ eui_or 18446744073709551616 o
    same None = refl
    same (Some p) = refl

pub short_known : (w : model.Schedule) (c d : ℕ) (y : Declared w d) → short_of (setting_of w c) d ≡ y.station.short
unfolding short_of setting_of station_of
short_known w c d y =
    ap (short_or 0xffff)
    (find_map (λ (p : Station). nat_eq p.eui d) without_blocks (λ p. refl) (stations w) ∙ ap
    (option_map without_blocks) y.found)

same_short : ℕ → ℕ → Station → Bool
same_short n k p = nat_eq p.eui n && nat_eq p.short k

pub apart_by : (w : model.Schedule) (c d : ℕ) (x : Declared w c) (y : Declared w d)
    → all_apart (λ (a b : Station). nat_eq a.short b.short) (stations w) ≡ true → (c ≡ d → ⊥)
    → nat_eq x.station.short y.station.short ≡ true → ⊥
unfolding same_short
apart_by w c d x y apart differ same =
    let k = y.station.short in
    let is_c : same_short c k x.station ≡ true = rw (eq-eqb x.station.eui c x.mine, same) refl in
    let is_d : same_short d k y.station ≡ true = rw (eq-eqb y.station.eui d y.mine, eq-eqb k k refl) refl in
    not_apart (λ (a b : Station). nat_eq a.short b.short) (same_short c k) (same_short d k)
    (λ a b e f. eq-eqb a.short b.short
    (eqb-true a.short k (and_parts (nat_eq a.eui c) (nat_eq a.short k) e).1 ∙ sym
    (eqb-true b.short k (and_parts (nat_eq b.eui d) (nat_eq b.short k) f).1)))
    (λ a b e f. eq-eqb b.short a.short
    (eqb-true b.short k (and_parts (nat_eq b.eui d) (nat_eq b.short k) f).1 ∙ sym
    (eqb-true a.short k (and_parts (nat_eq a.eui c) (nat_eq a.short k) e).1)))
    (λ a e f. differ
    (sym (eqb-true a.eui c (and_parts (nat_eq a.eui c) (nat_eq a.short k) e).0) ∙ eqb-true a.eui d
    (and_parts (nat_eq a.eui d) (nat_eq a.short k) f).0))
    (stations w) (any_of (same_short c k) x.station (stations w) x.among is_c)
    (any_of (same_short d k) y.station (stations w) y.among is_d) apart

pub no_true : (b : Bool) → (b ≡ true → ⊥) → b ≡ false
no_true true k = absurd (k refl)
no_true false k = refl

pub one_network : (p : Schedule) → IsSchedule p → (c d : ℕ) → Names (schedule_of p) c → Names (schedule_of p) d
    → is_centre (setting_of (schedule_of p) c).me.role ≡ true → is_centre (setting_of (schedule_of p) d).me.role
    ≡ false
    → AreOfOneNetwork (setting_of (schedule_of p) c) (setting_of (schedule_of p) d)
unfolding setting_of
one_network p is c d cn dn centre member =
    let w = schedule_of p in
    let x = declared w c cn in
    let y = declared w d dn in
    let role : is_centre x.station.role ≡ true = ap (λ (s : Station). is_centre s.role) (sym x.me) ∙ centre in
    let one = all-in (λ (s : Station). is_centre s.role ≡ true → s.eui ≡ centre_of (stations w)) (stations w)
    (premises p is).one_centre x.station x.among role in
    let differ : c ≡ d
    → ⊥ = λ e. false≢true (sym member ∙ ap (λ n. is_centre (setting_of w n).me.role) (sym e) ∙ centre) in
    let blocks = all-in (λ (s : Station). 0 < s.in_block) (stations w)
    (of_nodes (λ s. 0 < s.in_block) IsMember (λ m k. k.in_block) w.nodes (premises p is).schedule.nodes) y.station
    y.among in
    record {
      centre_role = centre;
      member_role = member;
      centre_known = centre_known w ∙ sym one ∙ ap (λ (s : Station). s.eui) (sym x.me);
      short_known = ap (short_of (setting_of w c)) (ap (λ (s : Station). s.eui) y.me ∙ y.mine) ∙ short_known w c d y ∙
          ap (λ (s : Station). s.short) (sym y.me);
      shorts_differ = ap (λ (s : Station). nat_eq s.short (setting_of w d).me.short) x.me ∙ ap
          (λ (s : Station). nat_eq x.station.short s.short) y.me ∙ no_true (nat_eq x.station.short y.station.short)
          (apart_by w c d x y (shorts_differ p is) differ);
      in_block = subst (λ (s : Station). 0 < s.in_block) (sym y.me) blocks;
    }
