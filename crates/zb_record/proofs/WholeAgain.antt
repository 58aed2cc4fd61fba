-- The whole record of a state is read back as that state after a boot.
use Rattle.zb_model.specs.Data as model
use Rattle.std.proofs.Common.{◌≡◌, ℕ, zero, suc, ◌+◌, ◌^◌, ◌<◌, ◌≤◌, List, [], ◌∷◌, ◌++◌, length, map, flat_map, Ok, refl, sym, ap, ◌∙◌, arith, Bool, true, false, not, if◌then◌else◌, ◌&&◌, ◌||◌, Option, Some, None, append-nil}
use Rattle.std.specs.Prelude.{find, nat_eq, nat_lt, ◌==◌}
use Rattle.std.specs.Int.{w16, w32}
use Rattle.std.proofs.lemmas.Bool.{le-leb, lt-ltb, eqb-true}
use Rattle.zb_base.specs.declared.node.Role.{Role}
use Rattle.zb_base.specs.declared.node.Role.TheVariants as role
use Rattle.zb_base.specs.declared.state.State.{State}
use Rattle.zb_base.specs.declared.state.State.TheVariants as state
use Rattle.zb_base.specs.declared.state.Rollover.{Rollover}
use Rattle.zb_base.specs.declared.state.Rollover.TheVariants as rollover
use Rattle.zb_node_types.specs.Changes.{model_role, model_state, is_sending}
use Rattle.zb_cursor.specs.Reading.{number_at}
use Rattle.zb_cursor.proofs.ReadAgain.{wide16, wide32, number_again}
use Rattle.zb_model.specs.Data.{Bytes, Centre, Router, Device, Fresh, Knocked, Joined, Offered, Confirmed, Rejoining, Gone}
use Rattle.zb_model.specs.State.{NodeState, NetKey, same_key, is_centre, live_nets, booted_net, booted_link, after_boot, shown, shown_net}
use Rattle.zb_model.specs.Fits.{keeps_rules, role_is_kept, active_is_live, row_is_live, is_fresh, most_nets, most_pairs}
use Rattle.zb_model.specs.Record.{record_of, active_place, place_from, role_byte, state_byte, worth, two_bytes, four_bytes, net_bytes, floors_bytes, link_bytes, pair_bytes}
use Rattle.law_change_fits.proofs.Tests.{both}
use Rattle.law_change_fits.proofs.Parts.{Rules, rules_of, same_key_is}
use Rattle.zb_record.specs.declared.version.Version.TheVariants.{Third}
use Rattle.zb_record.specs.declared.record.Node.{Node}
use Rattle.zb_record.specs.declared.record.Head.{Head}
use Rattle.zb_record.specs.Fields.{version_at, role_at, state_at, rollover_at}
use Rattle.zb_record.specs.Placed.{rows_at}
use Rattle.zb_record.specs.Ranges.{FitsBytes}
use Rattle.zb_record.specs.Rows.{net_at, all_floors_at, link_at, links_at, has_link_room, pair_at, all_pairs_at, has_pair_room, pairs_room}
use Rattle.zb_record.specs.Records.{may_enter, may_roll, has_net_room, is_place, node_at, head_at, nets_at, key_of, state_from, record_at, record_read, ended}
use Rattle.zb_record.proofs.Sound.{live_at}
use Rattle.zb_record.proofs.RecordAgain.{found, field_again, rows_again, NetsCan, net_again, bare_boot, booted_row, all_floors_again, filtered, LinksCan, link_again, PairsCan, pair_again, same_pair, map_same}

-- the program's values for the model's words

role_for : model.Role → Role
role_for Centre = role.Centre
role_for Router = role.Router
role_for Device = role.Device

state_for : model.State → State
state_for Fresh = state.Fresh
state_for Knocked = state.Knocked
state_for Joined = state.Joined
state_for Offered = state.Offered
state_for Confirmed = state.Confirmed
state_for Rejoining = state.Rejoining
state_for Gone = state.Gone

rollover_for : Bool → Rollover
rollover_for false = rollover.Idle
rollover_for true = rollover.Sending

role_same : (d : model.Role) → model_role (role_for d) ≡ d
unfolding role_for
role_same Centre = refl
role_same Router = refl
role_same Device = refl

state_same : (g : model.State) → model_state (state_for g) ≡ g
unfolding state_for
state_same Fresh = refl
state_same Knocked = refl
state_same Joined = refl
state_same Offered = refl
state_same Confirmed = refl
state_same Rejoining = refl
state_same Gone = refl

rollover_same : (b : Bool) → is_sending (rollover_for b) ≡ b
unfolding rollover_for
rollover_same false = refl
rollover_same true = refl

role_read : (cut : ℕ) (d : model.Role) (rest : List ℕ) → role_at cut (role_byte d ∷ rest) ≡ found (role_for d) rest
unfolding role_at role_for
role_read cut Centre rest = refl
role_read cut Router rest = refl
role_read cut Device rest = refl

state_read : (cut : ℕ) (g : model.State) (rest : List ℕ) → state_at cut (state_byte g ∷ rest)
    ≡ found (state_for g) rest
unfolding state_at state_for
state_read cut Fresh rest = refl
state_read cut Knocked rest = refl
state_read cut Joined rest = refl
state_read cut Offered rest = refl
state_read cut Confirmed rest = refl
state_read cut Rejoining rest = refl
state_read cut Gone rest = refl

rollover_read : (cut : ℕ) (b : Bool) (rest : List ℕ) → rollover_at cut (worth 1 b ∷ rest) ≡ found (rollover_for b) rest
unfolding rollover_at rollover_for
rollover_read cut false rest = refl
rollover_read cut true rest = refl

-- what the node's role allows

enter_can : (s : NodeState) → role_is_kept s ≡ true → may_enter (role_for s.role) (state_for s.state) ≡ true
unfolding role_is_kept
enter_can s kept = ap (λ d. not (is_centre d) || is_fresh (model_state (state_for s.state))) (role_same s.role) ∙ ap
    (λ g. not (is_centre s.role) || is_fresh g) (state_same s.state) ∙ by_centre (is_centre s.role) kept
  where
    by_centre : (b : Bool) → (if b then is_fresh s.state else not s.sending && nat_eq (length s.pairs) 0) ≡ true
        → (not b || is_fresh s.state) ≡ true
    by_centre true e = e
    by_centre false e = refl

roll_can : (s : NodeState) → role_is_kept s ≡ true → may_roll (role_for s.role) (rollover_for s.sending) ≡ true
unfolding role_is_kept
roll_can s kept = ap (λ b. not b || is_centre (model_role (role_for s.role))) (rollover_same s.sending) ∙ ap
    (λ d. not s.sending || is_centre d) (role_same s.role) ∙ by_centre (is_centre s.role) s.sending kept
  where
    by_centre : (b c : Bool) → (if b then is_fresh s.state else not c && nat_eq (length s.pairs) 0) ≡ true
        → (not c || b) ≡ true
    by_centre true true e = refl
    by_centre true false e = refl
    by_centre false true e = absurd (cc)
    by_centre false false e = refl

pairs_can : (s : NodeState) → role_is_kept s ≡ true → length s.pairs ≤ most_pairs → length s.pairs ≤ pairs_room s.role
unfolding role_is_kept
pairs_can s kept few = by_centre (is_centre s.role) kept
  where
    by_centre : (b : Bool) → (if b then is_fresh s.state else not s.sending && nat_eq (length s.pairs) 0) ≡ true
        → length s.pairs ≤ (if b then most_pairs else 0)
    by_centre true e = few
    by_centre false e = let none = eqb-true (length s.pairs) 0 (both (not s.sending) (nat_eq (length s.pairs) 0) e).1
        in omega (arith, none)

-- the place of the active network key

pub record Placed_at (key : Bytes) (nets : List NetKey) (at place : ℕ) : Type 0 where
  pub index : ℕ
  pub is : place ≡ at + index
  pub within : index < length nets
  pub key_is : key_of index nets ≡ Some key
  pub live : live_at index nets ≡ true

placed_first : (key : Bytes) (nets : List NetKey) (at : ℕ)
    → row_is_live (find (λ (r : NetKey). same_key r.key key) nets) ≡ true
    → Placed_at key nets at (place_from at key nets)
placed_first key [] at e = absurd (cc)
placed_first key (r ∷ rs) at e = by_test (same_key r.key key) refl e (λ k. placed_first key rs (at + 1) k)
  where
    by_test : (b : Bool) → same_key r.key key ≡ b
        → row_is_live (if b then Some r else find (λ (x : NetKey). same_key x.key key) rs) ≡ true
        → (row_is_live (find (λ (x : NetKey). same_key x.key key) rs) ≡ true
        → Placed_at key rs (at + 1) (place_from (at + 1) key rs)) → Placed_at key (r ∷ rs) at (if b then at
        else place_from (at + 1) key rs)
    by_test true is e later =
        record { index = 0; is = omega arith; within = omega arith; key_is = ap Some (same_key_is _ _ is); live = e }
    by_test false is e later =
        let p = later e in
        record {
          index = suc p.index;
          is = omega (arith, p.is);
          within = omega (arith, p.within);
          key_is = p.key_is;
          live = p.live;
        }

key_past : (nets : List NetKey) (place : ℕ) → length nets ≤ place → (key_of place nets ≡ None)
    × (live_at place nets ≡ true)
key_past [] place le = (refl, refl)
key_past (r ∷ rs) zero le = absurd (omega (arith, le))
key_past (r ∷ rs) (suc place) le = key_past rs place (omega (arith, le))

key_booted : (place : ℕ) (nets : List NetKey) → key_of place (map booted_row nets) ≡ key_of place nets
unfolding booted_row
key_booted place [] = refl
key_booted zero (r ∷ rs) = refl
key_booted (suc place) (r ∷ rs) = key_booted place rs

pub record ActiveCan (s : NodeState) : Type 0 where
  pub small : active_place s < 2 ^ 16
  pub among : is_place (length s.nets) (active_place s) ≡ true
  pub key_is : key_of (active_place s) s.nets ≡ s.active
  pub live : live_at (active_place s) s.nets ≡ true

active_can : (s : NodeState) (o : Option Bytes) → s.active ≡ o → active_is_live s ≡ true → length s.nets ≤ most_nets
    → ActiveCan s
unfolding active_is_live
active_can s None is kept few =
    let place : active_place s ≡ 65535 = rw is refl in
    let past = key_past s.nets 65535 (omega (arith, few)) in
    record {
      small = omega (arith, place);
      among = rw place refl;
      key_is = ap (λ p. key_of p s.nets) place ∙ past.0 ∙
          sym is;
      live = ap (λ p. live_at p s.nets) place ∙ past.1;
    }
active_can s (Some key) is kept few =
    let place : active_place s ≡ place_from 0 key s.nets = rw is refl in
    let p = placed_first key s.nets 0 (rw is at kept) in
    let at : active_place s ≡ p.index = omega (arith, place, p.is) in
    let lt : nat_lt p.index (length s.nets) ≡ true = lt-ltb _ _ p.within in
    record {
      small = omega (arith, at, p.within, few);
      among = rw (at, lt) (or_true (p.index == 65535));
      key_is = ap (λ q. key_of q s.nets) at ∙ p.key_is ∙ sym is;
      live = ap (λ q. live_at q s.nets) at ∙ p.live;
    }
  where
    or_true : (b : Bool) → (b || true) ≡ true
    or_true true = refl
    or_true false = refl

-- ---- the parts

node_of : NodeState → Node
node_of s = record { version = Third; role = role_for s.role; state = state_for s.state }

head_of : NodeState → Head
head_of s =
    record {
      node = node_of s;
      declared = s.declared;
      aps_limit = s.aps_limit;
      rolling = rollover_for s.sending;
      nets = length s.nets;
      active = active_place s;
    }

node_again : (s : NodeState) (rest : List ℕ) → Rules s → node_at (3 ∷ role_byte s.role ∷ state_byte s.state ∷ rest)
    ≡ found (node_of s) rest
unfolding node_at node_of version_at
node_again s rest r =
    let t1 : List ℕ = state_byte s.state ∷ rest in
    let role_is = role_read (length (role_byte s.role ∷ t1)) s.role t1 in
    let state_is = field_again state_at (may_enter (role_for s.role)) t1 rest (state_for s.state)
    (state_read (length t1) s.state rest) (enter_can s r.role_kept) in
    rw (role_is, state_is) refl

head_again : (s : NodeState) (rest : List ℕ) → Rules s → FitsBytes s
    → head_at (node_of s)
    (four_bytes s.declared
    ++ (four_bytes s.aps_limit
    ++ (worth 1 s.sending ∷ (two_bytes (length s.nets) ++ (two_bytes (active_place s) ++ rest)))))
    ≡ found (head_of s) rest
unfolding head_at head_of node_of
head_again s rest r fits =
    let active = active_can s s.active refl r.active r.nets_room in
    let t4 : List ℕ = two_bytes (active_place s) ++ rest in
    let t3 = two_bytes (length s.nets) ++ t4 in
    let t2 : List ℕ = worth 1 s.sending ∷ t3 in
    let t1 = four_bytes s.aps_limit ++ t2 in
    let few : length s.nets < 2 ^ 16 = omega (arith, r.nets_room) in
    let room : has_net_room (length s.nets) ≡ true = le-leb _ _ r.nets_room in
    rw (
      number_again (length (four_bytes s.declared ++ t1)) w32 (2 ^ 32) wide32 s.declared t1 fits.declared,
      number_again (length t1) w32 (2 ^ 32) wide32 s.aps_limit t2 fits.aps_limit,
      field_again rollover_at (may_roll (role_for s.role)) t2 t3 (rollover_for s.sending)
          (rollover_read (length t2) s.sending t3) (roll_can s r.role_kept),
      field_again (number_at w16) has_net_room t3 t4 (length s.nets)
          (number_again (length t3) w16 (2 ^ 16) wide16 (length s.nets) t4 few) room,
      field_again (number_at w16) (is_place (length s.nets)) t4 rest (active_place s)
          (number_again (length t4) w16 (2 ^ 16) wide16 (active_place s) rest active.small) active.among,
    ) refl

nets_again : (s : NodeState) (rest : List ℕ) → Rules s → FitsBytes s
    → nets_at (head_of s) (flat_map net_bytes s.nets ++ (flat_map floors_bytes (live_nets s) ++ rest))
    ≡ found (map booted_row s.nets) rest
unfolding nets_at head_of node_of
nets_again s rest r fits =
    let active = active_can s s.active refl r.active r.nets_room in
    let rows = rows_again (net_at Third s.declared (active_place s)) net_bytes bare_boot (NetsCan (active_place s))
    (net_again s.declared (active_place s)) s.nets [] (flat_map floors_bytes (live_nets s) ++ rest)
    (record { keys = r.net_keys; two = r.two; active_row = active.live; limits = r.limits; fits = fits.nets }) in
    let floors : all_floors_at [] (map bare_boot s.nets) (flat_map floors_bytes (live_nets s) ++ rest)
    ≡ found (map booted_row s.nets) rest =
    ap (λ l. all_floors_at [] (map bare_boot s.nets) (l ++ rest)) (filtered s.nets) ∙ all_floors_again s.nets [] rest
    fits.nets r.floors in
    rw rows floors

links_again : (s : NodeState) (rest : List ℕ) → Rules s → FitsBytes s
    → links_at s.role (two_bytes (length s.links) ++ (flat_map link_bytes s.links ++ rest))
    ≡ found (map booted_link s.links) rest
unfolding links_at
links_again s rest r fits =
    let t : List ℕ = flat_map link_bytes s.links ++ rest in
    let few : length s.links < 2 ^ 16 = by_centre (is_centre s.role) r.links_room in
    let room : has_link_room s.role (length s.links) ≡ true = le-leb _ _ r.links_room in
    rw (field_again (number_at w16) (has_link_room s.role) (two_bytes (length s.links) ++ t) t (length s.links)
    (number_again (length (two_bytes (length s.links) ++ t)) w16 (2 ^ 16) wide16 (length s.links) t few) room)
    (rows_again (link_at s.role) link_bytes booted_link (LinksCan s.role) (link_again s.role) s.links [] rest
    (record { keys = r.link_keys; kinds = r.kinds; told = r.told; marks = r.marks; fits = fits.links }))
  where
    by_centre : (b : Bool) → length s.links ≤ (if b then 1024 else 64) → length s.links < 2 ^ 16
    by_centre true le = omega (arith, le)
    by_centre false le = omega (arith, le)

all_pairs_again : (s : NodeState) → Rules s → FitsBytes s
    → all_pairs_at s.role (two_bytes (length s.pairs) ++ flat_map pair_bytes s.pairs) ≡ found s.pairs []
unfolding all_pairs_at
all_pairs_again s r fits =
    let t : List ℕ = flat_map pair_bytes s.pairs in
    let few : length s.pairs < 2 ^ 16 = omega (arith, r.pairs_room) in
    let room : has_pair_room s.role (length s.pairs) ≡ true = le-leb _ _ (pairs_can s r.role_kept r.pairs_room) in
    let rows = rows_again pair_at pair_bytes same_pair PairsCan pair_again s.pairs [] []
    (record { names = r.pair_names; order = r.pairs; fits = fits.pairs }) in
    rw (field_again (number_at w16) (has_pair_room s.role) (two_bytes (length s.pairs) ++ t) t (length s.pairs)
    (number_again (length (two_bytes (length s.pairs) ++ t)) w16 (2 ^ 16) wide16 (length s.pairs) t few) room)
    (ap (rows_at pair_at (length s.pairs) []) (sym (append-nil t)) ∙ rows ∙ ap (λ l. found l []) (map_same s.pairs))

booted_rows : (nets : List NetKey) → map booted_row nets ≡ map shown_net (map booted_net nets)
unfolding booted_row
booted_rows [] = refl
booted_rows (r ∷ rs) = ap (λ l. shown_net (booted_net r) ∷ l) (booted_rows rs)

state_again : (s : NodeState) → Rules s → state_from (head_of s) (map booted_row s.nets) (map booted_link s.links)
    s.pairs ≡ shown (after_boot s)
unfolding head_of node_of shown after_boot
state_again s r =
    let active = active_can s s.active refl r.active r.nets_room in
    let key : key_of (active_place s) (map booted_row s.nets) ≡ s.active =
    key_booted (active_place s) s.nets ∙ active.key_is in
    rw (key, role_same s.role, state_same s.state, rollover_same s.sending, booted_rows s.nets) refl

pub record_again : (s : NodeState) → keeps_rules s ≡ true → FitsBytes s → record_read (record_of s)
    ≡ Ok (shown (after_boot s))
unfolding record_read record_at record_of node_of
record_again s kept fits =
    let r = rules_of s kept in
    let t5 : List ℕ = two_bytes (length s.pairs) ++ flat_map pair_bytes s.pairs in
    let t4 : List ℕ = two_bytes (length s.links) ++ (flat_map link_bytes s.links ++ t5) in
    let t3 : List ℕ = flat_map net_bytes s.nets ++ (flat_map floors_bytes (live_nets s) ++ t4) in
    let t2 : List ℕ = four_bytes s.declared
    ++ (four_bytes s.aps_limit
    ++ (worth 1 s.sending ∷ (two_bytes (length s.nets) ++ (two_bytes (active_place s) ++ t3)))) in
    let links : links_at (model_role (role_for s.role)) t4 ≡ found (map booted_link s.links) t5 =
    ap (λ d. links_at d t4) (role_same s.role) ∙ links_again s t5 r fits in
    let pairs : all_pairs_at (model_role (role_for s.role)) t5 ≡ found s.pairs [] =
    ap (λ d. all_pairs_at d t5) (role_same s.role) ∙ all_pairs_again s r fits in
    rw (node_again s t2 r, head_again s t3 r fits, nets_again s t4 r fits, links, pairs)
    (ap (λ t. ended (found t [])) (state_again s r))
