-- What the start lines say of a declared node: only its own start lines say anything, and these give a state that
-- keeps the rules.
use Rattle.std.proofs.Common.{◌≡◌, ℕ, max, ◌||◌, List, [], ◌∷◌, ◌++◌, map, fold, find, flat_map, refl, sym, ap, ◌∙◌, eqb-true, eq-eqb, Bool, true, false, not, if◌then◌else◌, Option, Some, None, nat_eq}
use Rattle.std.specs.List.{AllByRecursion, list_any}
use Rattle.std.proofs.lemmas.Bool.{false≢true, not-true}
use Rattle.std.proofs.lemmas.List.Sums.{fold-append}
use Rattle.zb_model.specs.Data.{Bytes, Role, Centre, Router, Device, Layer, Nwk, Aps, Station}
use Rattle.zb_model.specs.Lines.{Line, Declared, Counter}
use Rattle.zb_model.specs.State.{NodeState, NetKey, new_node, with_given_net, with_given_link, with_declared, declared_at}
use Rattle.zb_model.specs.Fits.{all_apart, keeps_rules, rows_have_room, keys_differ, at_most_two_live, active_is_live, partners_agree, links_are_marked, floors_are_kept, limits_are_started, role_is_kept, pairs_are_kept}
use Rattle.zb_model.specs.Rules.{centre_of}
use Rattle.zb_model.specs.Readings.{speaker, after, heard_line, state_of}
use Rattle.zb_model.specs.Play.{Schedule, Node, stations, net_line, link_line, limit_line, start}
use Rattle.law_change_fits.proofs.Tests.{both, neither, none_where, apart_seen}
use Rattle.law_change_fits.proofs.Parts.{floors_rule, limit_rule, same_key_of}
use Rattle.law_tables_suffice.specs.Along.{euis_differ, own_start, StartsAlone}
use Rattle.law_tables_suffice.proofs.Apart.{each_first}
use Rattle.law_tables_suffice.proofs.Memory.{nets_ruled}

-- ---- one node's lines among those of all

abbrev AreOf : ℕ → List Line → Type 0
AreOf n ls = AllByRecursion (λ (l : Line). speaker l ≡ n) ls

others_read : (n m : ℕ) → nat_eq m n ≡ false → (ls : List Line) → AreOf m ls → (s : NodeState)
    → fold (heard_line n) s ls ≡ s
unfolding heard_line
others_read n m other [] own s = refl
others_read n m other (l ∷ ls) own s = ap (λ (x : ℕ). fold (heard_line n) (if nat_eq x n then after l s else s) ls)
    own.0 ∙ ap (λ (b : Bool). fold (heard_line n) (if b then after l s else s) ls) other ∙ others_read n m other ls
    own.1 s

abbrev pub has_eui : ℕ → Node → Bool
has_eui n m = nat_eq m.station.eui n

abbrev lines_of : (Node → List Line) → Option Node → List Line
lines_of f None = []
lines_of f (Some m) = f m

abbrev nodes_differ : List Node → Bool
nodes_differ ms = all_apart (λ (a b : Node). nat_eq a.station.eui b.station.eui) ms

not_same : (a b n : ℕ) → nat_eq a n ≡ true → nat_eq a b ≡ false → nat_eq b n ≡ false
not_same a b n same other = by_test (nat_eq b n) refl
  where
    by_test : (c : Bool) → nat_eq b n ≡ c → c ≡ false
    by_test false is = refl
    by_test true is = absurd (false≢true (sym other ∙ eq-eqb a b (eqb-true a n same ∙ sym (eqb-true b n is))))

module _ (f : Node → List Line) (own : (m : Node) → AreOf m.station.eui (f m)) (n : ℕ) where
  none_read : (ms : List Node) → list_any (has_eui n) ms ≡ false → (s : NodeState)
      → fold (heard_line n) s (flat_map f ms) ≡ s
  none_read [] none s = refl
  none_read (m ∷ ms) none s =
      let parts = neither (has_eui n m) (list_any (has_eui n) ms) none in
      fold-append (heard_line n) s (f m) (flat_map f ms) ∙ ap (λ t. fold (heard_line n) t (flat_map f ms))
      (others_read n m.station.eui parts.0 (f m) (own m) s) ∙ none_read ms parts.1 s

  one_read : (ms : List Node) → nodes_differ ms ≡ true → (s : NodeState) → fold (heard_line n) s (flat_map f ms)
      ≡ fold (heard_line n) s (lines_of f (find (has_eui n) ms))
  one_read [] differ s = refl
  one_read (m ∷ ms) differ s =
      let parts = both (not (list_any (λ (b : Node). nat_eq m.station.eui b.station.eui) ms)) (nodes_differ ms) differ
      in
      fold-append (heard_line n) s (f m) (flat_map f ms) ∙ by_test (has_eui n m) refl (not-true _ parts.0)
      (one_read ms parts.1 s)
    where
      by_test : (b : Bool) → has_eui n m ≡ b → list_any (λ (k : Node). nat_eq m.station.eui k.station.eui) ms ≡ false
          → fold (heard_line n) s (flat_map f ms) ≡ fold (heard_line n) s (lines_of f (find (has_eui n) ms))
          → fold (heard_line n) (fold (heard_line n) s (f m)) (flat_map f ms)
          ≡ fold (heard_line n) s (lines_of f (if b then Some m else find (has_eui n) ms))
      by_test true is apart more =
          none_read ms
          (none_where (λ (k : Node). nat_eq m.station.eui k.station.eui) (has_eui n)
          (λ k e. not_same m.station.eui k.station.eui n is e) ms apart) (fold (heard_line n) s (f m))
      by_test false is apart more = ap (λ t. fold (heard_line n) t (flat_map f ms))
          (others_read n m.station.eui is (f m) (own m) s) ∙ more

-- ---- the four kinds of start lines

abbrev declared_lines : Node → List Line
declared_lines m = Declared m.station ∷ []

abbrev net_lines : Node → List Line
net_lines m = net_line m.station.eui m.network

abbrev link_lines : ℕ → Node → List Line
link_lines centre m = link_line centre m.station.eui m.code

abbrev limit_lines : Node → List Line
limit_lines m = limit_line m.station.eui Nwk m.start_nwk ++ limit_line m.station.eui Aps m.start_aps

all_declared : (ms : List Node) → map Declared (map (λ (m : Node). m.station) ms) ≡ flat_map declared_lines ms
all_declared [] = refl
all_declared (m ∷ ms) = ap (λ l. Declared m.station ∷ l) (all_declared ms)

own_declared : (m : Node) → AreOf m.station.eui (declared_lines m)
unfolding speaker
own_declared m = (refl, tt)

own_nets : (m : Node) → AreOf m.station.eui (net_lines m)
unfolding speaker
own_nets m = by_net m.network
  where
    by_net : (o : Option (Bytes × ℕ)) → AreOf m.station.eui (net_line m.station.eui o)
    by_net None = tt
    by_net (Some given) = (refl, tt)

own_links : (centre : ℕ) (m : Node) → AreOf m.station.eui (link_lines centre m)
unfolding speaker
own_links centre m = by_code m.code
  where
    by_code : (o : Option Bytes) → AreOf m.station.eui (link_line centre m.station.eui o)
    by_code None = tt
    by_code (Some key) = (refl, tt)

own_limits : (m : Node) → AreOf m.station.eui (limit_lines m)
unfolding speaker
own_limits m = by_zeros (nat_eq m.start_nwk 0) (nat_eq m.start_aps 0)
  where
    by_zeros : (a b : Bool)
        → AreOf m.station.eui
        ((if a then [] else Counter m.station.eui Nwk m.start_nwk ∷ [])
        ++ (if b then [] else Counter m.station.eui Aps m.start_aps ∷ []))
    by_zeros true true = tt
    by_zeros true false = (refl, tt)
    by_zeros false true = (refl, tt)
    by_zeros false false = (refl, (refl, tt))

-- ---- the state that a node's own start lines give

abbrev with_network : Option (Bytes × ℕ) → NodeState → NodeState
with_network None s = s
with_network (Some given) s = with_given_net given.0 given.1 s

abbrev with_code : ℕ → Option Bytes → NodeState → NodeState
with_code centre None s = s
with_code centre (Some key) s = with_given_link centre key s

abbrev with_limit : Layer → ℕ → NodeState → NodeState
with_limit layer value s = if nat_eq value 0 then s else with_declared layer value s

abbrev pub first_state : ℕ → Node → NodeState
first_state centre m =
    with_limit Aps m.start_aps
    (with_limit Nwk m.start_nwk (with_code centre m.code (with_network m.network (new_node m.station.role))))

module _ (n : ℕ) (m : Node) (is : has_eui n m ≡ true) where
  declared_read : fold (heard_line n) (new_node Device) (declared_lines m) ≡ new_node m.station.role
  unfolding heard_line speaker after
  declared_read = rw is refl

  net_read : (o : Option (Bytes × ℕ)) (s : NodeState) → fold (heard_line n) s (net_line m.station.eui o)
      ≡ with_network o s
  unfolding heard_line speaker after
  net_read None s = refl
  net_read (Some given) s = rw is refl

  link_read : (centre : ℕ) (o : Option Bytes) (s : NodeState)
      → fold (heard_line n) s (link_line centre m.station.eui o) ≡ with_code centre o s
  unfolding heard_line speaker after
  link_read centre None s = refl
  link_read centre (Some key) s = rw is refl

  limit_read : (layer : Layer) (value : ℕ) (s : NodeState)
      → fold (heard_line n) s (limit_line m.station.eui layer value) ≡ with_limit layer value s
  unfolding heard_line speaker after
  limit_read layer value s = by_zero (nat_eq value 0)
    where
      by_zero : (b : Bool) → fold (heard_line n) s (if b then [] else Counter m.station.eui layer value ∷ [])
          ≡ (if b then s else with_declared layer value s)
      by_zero true = refl
      by_zero false = rw is refl

  limits_read : (s : NodeState) → fold (heard_line n) s (limit_lines m)
      ≡ with_limit Aps m.start_aps (with_limit Nwk m.start_nwk s)
  limits_read s =
      fold-append (heard_line n) s (limit_line m.station.eui Nwk m.start_nwk)
      (limit_line m.station.eui Aps m.start_aps)
      ∙ ap (λ t. fold (heard_line n) t (limit_line m.station.eui Aps m.start_aps)) (limit_read Nwk m.start_nwk s) ∙
      limit_read Aps m.start_aps (with_limit Nwk m.start_nwk s)

pub start_read : (w : Schedule) → euis_differ w ≡ true → (n : ℕ) (m : Node) → find (has_eui n) w.nodes ≡ Some m
    → has_eui n m ≡ true → state_of (start w) n ≡ first_state (centre_of (stations w)) m
unfolding state_of start euis_differ
start_read w differ n m found is =
    ap (λ ds. fold H new (ds ++ (nets ++ (links ++ limits)))) (all_declared w.nodes)
    ∙ fold-append H new (flat_map declared_lines w.nodes) (nets ++ (links ++ limits))
    ∙ ap (λ t. fold H t (nets ++ (links ++ limits))) (pass declared_lines own_declared new ∙ declared_read n m is)
    ∙ fold-append H (new_node m.station.role) nets (links ++ limits)
    ∙ ap (λ t. fold H t (links ++ limits))
    (pass net_lines own_nets (new_node m.station.role) ∙ net_read n m is m.network (new_node m.station.role))
    ∙ fold-append H (with_network m.network (new_node m.station.role)) links limits
    ∙ ap (λ t. fold H t limits)
    (pass (link_lines centre) (own_links centre) (with_network m.network (new_node m.station.role)) ∙ link_read n
    m is centre m.code (with_network m.network (new_node m.station.role)))
    ∙ (pass limit_lines own_limits (with_code centre m.code (with_network m.network (new_node m.station.role))) ∙
    limits_read n m is (with_code centre m.code (with_network m.network (new_node m.station.role))))
  where
    centre : ℕ
    centre = centre_of (stations w)

    new : NodeState
    new = new_node Device

    H : NodeState → Line → NodeState
    H = heard_line n

    nets : List Line
    nets = flat_map net_lines w.nodes

    links : List Line
    links = flat_map (link_lines centre) w.nodes

    limits : List Line
    limits = flat_map limit_lines w.nodes

    nodes : nodes_differ w.nodes ≡ true
    nodes = sym (apart_seen (λ (a b : Station). nat_eq a.eui b.eui) (λ (m : Node). m.station) w.nodes) ∙ differ

    pass : (f : Node → List Line) → ((m : Node) → AreOf m.station.eui (f m)) → (s : NodeState)
        → fold H s (flat_map f w.nodes) ≡ fold H s (f m)
    pass f own s = one_read f own n w.nodes nodes s ∙ ap (λ o. fold H s (lines_of f o)) found

-- a node's own start lines give the same state
own_read : (centre n : ℕ) (m : Node) → has_eui n m ≡ true → state_of (own_start centre m) n ≡ first_state centre m
unfolding state_of
own_read centre n m is =
    fold-append (heard_line n) (new_node Device) (declared_lines m)
    (net_lines m ++ (link_lines centre m ++ limit_lines m))
    ∙ ap (λ t. fold (heard_line n) t (net_lines m ++ (link_lines centre m ++ limit_lines m))) (declared_read n m is)
    ∙ fold-append (heard_line n) (new_node m.station.role) (net_lines m) (link_lines centre m ++ limit_lines m)
    ∙ ap (λ t. fold (heard_line n) t (link_lines centre m ++ limit_lines m))
    (net_read n m is m.network (new_node m.station.role))
    ∙ fold-append (heard_line n) (with_network m.network (new_node m.station.role)) (link_lines centre m)
    (limit_lines m)
    ∙ ap (λ t. fold (heard_line n) t (limit_lines m))
    (link_read n m is centre m.code (with_network m.network (new_node m.station.role)))
    ∙ limits_read n m is (with_code centre m.code (with_network m.network (new_node m.station.role)))

nodes_alone : (w : Schedule) → euis_differ w ≡ true → (ms : List Node)
    → AllByRecursion (λ (m : Node). find (has_eui m.station.eui) w.nodes ≡ Some m) ms
    → AllByRecursion (StartsAlone w) ms
nodes_alone w differ [] all = tt
nodes_alone w differ (m ∷ ms) all = (
  start_read w differ m.station.eui m all.0 (eq-eqb m.station.eui m.station.eui refl) ∙ sym
      (own_read (centre_of (stations w)) m.station.eui m (eq-eqb m.station.eui m.station.eui refl)),
  nodes_alone w differ ms all.1,
)

pub starts_alone : (w : Schedule) → euis_differ w ≡ true → AllByRecursion (StartsAlone w) w.nodes
unfolding euis_differ
starts_alone w differ =
    nodes_alone w differ w.nodes
    (each_first (λ (a b : Node). nat_eq a.station.eui b.station.eui)
    (λ m. eq-eqb m.station.eui m.station.eui refl) w.nodes
    (sym (apart_seen (λ (a b : Station). nat_eq a.eui b.eui) (λ (m : Node). m.station) w.nodes) ∙ differ))

-- ---- it keeps the rules

declared_unruled : (s : NodeState) (value : ℕ) → keeps_rules (record s { declared = value }) ≡ keeps_rules s
unfolding keeps_rules rows_have_room keys_differ at_most_two_live active_is_live partners_agree links_are_marked
    floors_are_kept limits_are_started role_is_kept pairs_are_kept
declared_unruled s value = refl

aps_unruled : (s : NodeState) (limit next : ℕ) → keeps_rules (record s { aps_limit = limit; aps_next = next })
    ≡ keeps_rules s
unfolding keeps_rules rows_have_room keys_differ at_most_two_live active_is_live partners_agree links_are_marked
    floors_are_kept limits_are_started role_is_kept pairs_are_kept
aps_unruled s limit next = refl

-- a limit at the start is given to a started row
abbrev raised : Bool → ℕ → NetKey → NetKey
raised b value r = if b then record r { limit = max r.limit value; next = max r.next value } else r

raised_key : (b : Bool) (value : ℕ) (r : NetKey) → (raised b value r).key ≡ r.key
raised_key true value r = refl
raised_key false value r = refl

raised_live : (b : Bool) (value : ℕ) (r : NetKey) → (raised b value r).live ≡ r.live
raised_live true value r = refl
raised_live false value r = refl

raised_floors : (b : Bool) (value : ℕ) (r : NetKey) → floors_rule (raised b value r) ≡ floors_rule r
raised_floors true value r = refl
raised_floors false value r = refl

raised_limit : (b : Bool) (value : ℕ) (r : NetKey) → r.started ≡ b → limit_rule r ≡ true
    → limit_rule (raised b value r) ≡ true
raised_limit true value r is rule = ap (λ (c : Bool). c || nat_eq (max r.limit value) 0) is
raised_limit false value r is rule = rule

limit_ruled : (layer : Layer) (value : ℕ) (s : NodeState) → keeps_rules s ≡ true
    → keeps_rules (with_declared layer value s) ≡ true
unfolding with_declared
limit_ruled Nwk value s kept =
    declared_unruled (record s { nets = map (declared_at value) s.nets }) value
    ∙ nets_ruled (declared_at value)
    (record {
      key = λ r. raised_key r.started value r;
      live = λ r. raised_live r.started value r;
      limit = λ r e. raised_limit r.started value r refl e;
    }) (λ r. raised_floors r.started value r) s kept
limit_ruled Aps value s kept = aps_unruled s (max s.aps_limit value) (max s.aps_next value) ∙ kept

with_limit_ruled : (layer : Layer) (value : ℕ) (s : NodeState) → keeps_rules s ≡ true
    → keeps_rules (with_limit layer value s) ≡ true
with_limit_ruled layer value s kept = by_zero (nat_eq value 0)
  where
    by_zero : (b : Bool) → keeps_rules (if b then s else with_declared layer value s) ≡ true
    by_zero true = kept
    by_zero false = limit_ruled layer value s kept

keys_ruled : (role : Role) (centre : ℕ) (network : Option (Bytes × ℕ)) (code : Option Bytes)
    → keeps_rules (with_code centre code (with_network network (new_node role))) ≡ true
unfolding keeps_rules rows_have_room keys_differ at_most_two_live active_is_live partners_agree links_are_marked
    floors_are_kept limits_are_started role_is_kept pairs_are_kept with_given_net with_given_link
keys_ruled Centre centre None None = refl
keys_ruled Router centre None None = refl
keys_ruled Device centre None None = refl
keys_ruled Centre centre None (Some key) = refl
keys_ruled Router centre None (Some key) = refl
keys_ruled Device centre None (Some key) = refl
keys_ruled Centre centre (Some given) None = rw (same_key_of given.0 given.0 refl) refl
keys_ruled Router centre (Some given) None = rw (same_key_of given.0 given.0 refl) refl
keys_ruled Device centre (Some given) None = rw (same_key_of given.0 given.0 refl) refl
keys_ruled Centre centre (Some given) (Some key) = rw (same_key_of given.0 given.0 refl) refl
keys_ruled Router centre (Some given) (Some key) = rw (same_key_of given.0 given.0 refl) refl
keys_ruled Device centre (Some given) (Some key) = rw (same_key_of given.0 given.0 refl) refl

pub first_ruled : (centre : ℕ) (m : Node) → keeps_rules (first_state centre m) ≡ true
first_ruled centre m =
    with_limit_ruled Aps m.start_aps
    (with_limit Nwk m.start_nwk (with_code centre m.code (with_network m.network (new_node m.station.role))))
    (with_limit_ruled Nwk m.start_nwk (with_code centre m.code (with_network m.network (new_node m.station.role)))
    (keys_ruled m.station.role centre m.network m.code))

-- ---- its role is the declared one

network_role : (o : Option (Bytes × ℕ)) (s : NodeState) → (with_network o s).role ≡ s.role
unfolding with_given_net
network_role None s = refl
network_role (Some given) s = refl

code_role : (centre : ℕ) (o : Option Bytes) (s : NodeState) → (with_code centre o s).role ≡ s.role
unfolding with_given_link
code_role centre None s = refl
code_role centre (Some key) s = refl

declared_role : (layer : Layer) (value : ℕ) (s : NodeState) → (with_declared layer value s).role ≡ s.role
unfolding with_declared
declared_role Nwk value s = refl
declared_role Aps value s = refl

limit_role : (layer : Layer) (value : ℕ) (s : NodeState) → (with_limit layer value s).role ≡ s.role
limit_role layer value s = by_zero (nat_eq value 0)
  where
    by_zero : (b : Bool) → (if b then s else with_declared layer value s).role ≡ s.role
    by_zero true = refl
    by_zero false = declared_role layer value s

pub first_role : (centre : ℕ) (m : Node) → (first_state centre m).role ≡ m.station.role
first_role centre m =
    limit_role Aps m.start_aps
    (with_limit Nwk m.start_nwk (with_code centre m.code (with_network m.network (new_node m.station.role))))
    ∙ limit_role Nwk m.start_nwk (with_code centre m.code (with_network m.network (new_node m.station.role)))
    ∙ code_role centre m.code (with_network m.network (new_node m.station.role)) ∙ network_role m.network
    (new_node m.station.role)
