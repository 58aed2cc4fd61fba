-- The backup object of a centre's tables tells these tables again.
use Rattle.std.proofs.Common.{◌≡◌, ℕ, suc, ◌+◌, ◌<◌, ◌≤◌, List, [], ◌∷◌, ◌++◌, length, map, Bool, true, false, cond, Option, Some, None, refl, sym, ap, subst, ◌∙◌, arith, append-nil, append_assoc, length-append}
use Rattle.std.proofs.lemmas.Bool.{false≢true, le-leb, leb-true, lt-ltb, and_parts}
use Rattle.std.specs.Prelude.{find, nat_lt, nat_le, option_map}
use Rattle.std.specs.List.{AllByRecursion, list_all, position_or_len}
use Rattle.serde_json.specs.Data.{Data}
use Rattle.serde_json.specs.View.{items_of}
use Rattle.zb_text.specs.Numbers.{up_to}
use Rattle.zb_text.proofs.ReadAgain.{eui_again, fixed_again}
use Rattle.zb_node_types.specs.Changes.{model_attribute}
use Rattle.zb_record.specs.Fields.{attribute_of}
use Rattle.zb_record.specs.Records as record_places
use Rattle.zb_model.specs.Data.{Bytes, Centre, State, Fresh, Knocked, Joined, Offered, Confirmed, Rejoining, Gone, Attribute, Provisional, Unverified, Verified}
use Rattle.zb_model.specs.Fits.{active_is_live, is_fresh, most_links, most_nets, most_pairs, most_senders, role_is_kept, row_is_live}
use Rattle.zb_model.specs.Record.{attribute_byte}
use Rattle.zb_model.specs.State.{SenderFloor, NetKey, LinkKey, PairKey, NodeState, after_boot, booted_floor, booted_link, booted_net, greatest_counter, same_key}
use Rattle.law_change_fits.proofs.Parts.{rules_of, floors_rule, same_key_is}
use Rattle.zb_backup.specs.Format.{floor_object, net_object, link_object, pair_object, active_value, roll_text, backup_of}
use Rattle.zb_backup.specs.Told.{◌>>=◌, text_at, flag_at, number_at, key_at, eui_at, attribute_at, list_at, rows_at, told_rows, floor_told, net_told, link_told, pair_told, place_in, active_at, roll_of, roll_at, state_told}
use Rattle.zb_backup.specs.Reading.{IsOfCentre, floor_fits, net_fits, link_fits, pair_fits}
use Rattle.zb_backup.proofs.Widths.{floor_is, net_is, link_is, pair_is, state_is}

-- ---- rows in their lists

pub rows_again : {X : Type 0} (limit : ℕ) (told : Data → Option X) (value : X → Data) (Can : X → Type 0)
    → ((x : X) → Can x → told (value x) ≡ Some x)
    → (done xs : List X) → AllByRecursion Can xs → length done + length xs ≤ limit
    → told_rows limit told done (items_of (map value xs)) ≡ Some (done ++ xs)
rows_again limit told value Can again done [] can few = ap Some (sym (append-nil done))
rows_again limit told value Can again done (x ∷ xs) can few =
    let room : nat_lt (length done) limit ≡ true = lt-ltb (length done) limit (omega arith) in
    let rest = rows_again limit told value Can again (done ++ x ∷ []) xs can.1
    (omega (arith, length-append done (x ∷ []))) in
    rw (room, again x can.0) (rest ∙ ap Some (append_assoc done (x ∷ []) xs))

-- ---- one row

pub record FloorCan (f : SenderFloor) : Type 0 where
  pub fits : floor_fits f ≡ true
  pub kept : f.stored ≡ f.kept

floor_again : (f : SenderFloor) → FloorCan f → floor_told (floor_object f) ≡ Some f
unfolding floor_told floor_object number_at eui_at text_at
floor_again f can =
    let w = floor_is f can.fits in
    rw (le-leb f.stored greatest_counter (omega (arith, w.stored)), eui_again f.sender w.sender)
    (ap (λ k. Some (record { sender = f.sender; kept = k; stored = f.stored })) can.kept)

pub record NetCan (r : NetKey) : Type 0 where
  pub fits : net_fits r ≡ true
  pub few : length r.floors ≤ most_senders
  pub next : r.limit ≡ r.next
  pub floors : AllByRecursion FloorCan r.floors

net_again : (r : NetKey) → NetCan r → net_told (net_object r) ≡ Some r
unfolding net_told net_object rows_at list_at number_at key_at text_at flag_at
net_again r can =
    let w = net_is r can.fits in
    rw (
      rows_again most_senders floor_told floor_object FloorCan floor_again [] r.floors can.floors
          (omega (arith, can.few)),
      fixed_again r.key 16 w.key.long w.key.bytes,
      le-leb r.limit greatest_counter (omega (arith, w.limit)),
      le-leb r.sequence 255 (omega (arith, w.sequence)),
    )
    (ap (λ n. Some
    (record {
      key = r.key;
      sequence = r.sequence;
      live = r.live;
      started = r.started;
      limit = r.limit;
      next = n;
      floors = r.floors;
    })) can.next)

attribute_again : (a : Attribute)
    → (up_to 2 (Some (attribute_byte a)) >>= (λ n. option_map model_attribute (attribute_of n))) ≡ Some a
attribute_again Provisional = refl
attribute_again Unverified = refl
attribute_again Verified = refl

pub record LinkCan (r : LinkKey) : Type 0 where
  pub fits : link_fits r ≡ true
  pub kept : r.stored ≡ r.kept

link_again : (r : LinkKey) → LinkCan r → link_told (link_object r) ≡ Some r
unfolding link_told link_object attribute_at number_at key_at eui_at text_at flag_at
link_again r can =
    let w = link_is r can.fits in
    rw (
      attribute_again r.attribute,
      le-leb r.stored greatest_counter (omega (arith, w.stored)),
      fixed_again r.key 16 w.key.long w.key.bytes,
      eui_again r.partner w.partner,
    )
    (ap (λ k. Some
    (record {
      partner = r.partner;
      key = r.key;
      attribute = r.attribute;
      live = r.live;
      code = r.code;
      told = r.told;
      kept = k;
      stored = r.stored;
    })) can.kept)

pub record PairCan (p : PairKey) : Type 0 where
  pub fits : pair_fits p ≡ true

pair_again : (p : PairKey) → PairCan p → pair_told (pair_object p) ≡ Some p
unfolding pair_told pair_object key_at eui_at text_at
pair_again p can =
    let w =
    pair_is p can.fits in rw
    (eui_again p.first w.first, fixed_again p.key 16 w.key.long w.key.bytes, eui_again p.second w.second) refl

-- ---- what the rows of a centre's tables keep after a boot

floors_can : (fs : List SenderFloor) → map booted_floor fs ≡ fs → list_all floor_fits fs ≡ true
    → AllByRecursion FloorCan fs
floors_can [] booted fits = tt
floors_can (f ∷ fs) booted fits =
    let p = and_parts (floor_fits f) (list_all floor_fits fs) fits in
    let here : booted_floor f ≡ f = cc in
    let rest : map booted_floor fs ≡ fs = cc in
    (record { fits = p.0; kept = ap (λ (g : SenderFloor). g.kept) here }, floors_can fs rest p.1)

nets_can : (rows : List NetKey) → map booted_net rows ≡ rows → list_all net_fits rows ≡ true
    → list_all floors_rule rows ≡ true → AllByRecursion NetCan rows
nets_can [] booted fits kept = tt
nets_can (r ∷ rs) booted fits kept =
    let p = and_parts (net_fits r) (list_all net_fits rs) fits in
    let q = and_parts (floors_rule r) (list_all floors_rule rs) kept in
    let here : booted_net r ≡ r = cc in
    let rest : map booted_net rs ≡ rs = cc in
    let few = leb-true (length r.floors) most_senders (and_parts (nat_le (length r.floors) most_senders) _ q.0).0 in (
      record {
        fits = p.0;
        few = few;
        next = ap (λ (x : NetKey). x.next) here;
        floors = floors_can r.floors (ap (λ (x : NetKey). x.floors) here) (net_is r p.0).floors;
      },
      nets_can rs rest p.1 q.1,
    )

links_can : (rows : List LinkKey) → map booted_link rows ≡ rows → list_all link_fits rows ≡ true
    → AllByRecursion LinkCan rows
links_can [] booted fits = tt
links_can (r ∷ rs) booted fits =
    let p = and_parts (link_fits r) (list_all link_fits rs) fits in
    let here : booted_link r ≡ r = cc in
    let rest : map booted_link rs ≡ rs = cc in
    (record { fits = p.0; kept = ap (λ (x : LinkKey). x.kept) here }, links_can rs rest p.1)

pairs_can : (rows : List PairKey) → list_all pair_fits rows ≡ true → AllByRecursion PairCan rows
pairs_can [] fits = tt
pairs_can (p ∷ ps) fits = let q = and_parts (pair_fits p) (list_all pair_fits ps) fits in
    (record { fits = q.0 }, pairs_can ps q.1)

-- ---- the active key

abbrev has_key : Bytes → NetKey → Bool
has_key key r = same_key r.key key

abbrev IsFound : List NetKey → Bytes → Type 0
IsFound rows key = (position_or_len (has_key key) rows < length rows)
    × (record_places.key_of (position_or_len (has_key key) rows) rows ≡ Some key)

-- where a live row has the key, the first row of that key is there
place_found : (rows : List NetKey) (key : Bytes) → row_is_live (find (has_key key) rows) ≡ true → IsFound rows key
place_found [] key live = absurd (false≢true live)
place_found (r ∷ rs) key live = by_test (same_key r.key key) refl live (place_found rs key)
  where
    by_test : (b : Bool) → same_key r.key key ≡ b → row_is_live (cond b (Some r) (find (has_key key) rs)) ≡ true
        → (row_is_live (find (has_key key) rs) ≡ true → IsFound rs key)
        → IsFound (r ∷ rs) key
    by_test true is alive more = rw is (omega arith, ap Some (same_key_is r.key key is))
    by_test false is alive more =
        let later = more alive in
        let one : 1 + position_or_len (has_key key) rs ≡ suc (position_or_len (has_key key) rs) = omega arith in
        rw is (omega (arith, later.0), ap (λ k. record_places.key_of k (r ∷ rs)) one ∙ later.1)

active_again : (active : Option Bytes) (s : NodeState) → s.active ≡ active → active_is_live s ≡ true → length s.nets
    ≤ 256 → place_in s.nets (active_value active s.nets) ≡ Some active
unfolding active_value active_is_live
active_again None s is live few = refl
active_again (Some key) s is live few =
    let named : active_is_live s ≡ row_is_live (find (has_key key) s.nets) = rw is refl in
    let found = place_found s.nets key (sym named ∙ live) in
    let there : nat_lt (position_or_len (has_key key) s.nets) (length s.nets) ≡ true = lt-ltb _ _ found.0 in
    let small : nat_le (position_or_len (has_key key) s.nets) 65535 ≡ true = le-leb _ _ (omega (arith, found.0)) in
    rw (there, small, found.1) refl

roll_again : (b : Bool) → roll_of (roll_text b) ≡ Some b
roll_again true = refl
roll_again false = refl

fresh_is : (x : State) → is_fresh x ≡ true → x ≡ Fresh
fresh_is Fresh h = refl
fresh_is Knocked h = absurd (false≢true h)
fresh_is Joined h = absurd (false≢true h)
fresh_is Offered h = absurd (false≢true h)
fresh_is Confirmed h = absurd (false≢true h)
fresh_is Rejoining h = absurd (false≢true h)
fresh_is Gone h = absurd (false≢true h)

state_is_fresh : (s : NodeState) → s.role ≡ Centre → role_is_kept s ≡ true → s.state ≡ Fresh
unfolding role_is_kept
state_is_fresh s role kept = let e : role_is_kept s ≡ is_fresh s.state =
    rw role refl in fresh_is s.state (sym e ∙ kept)

pub state_again : (s : NodeState) → IsOfCentre s → state_told (backup_of s) ≡ Some s
unfolding state_told backup_of rows_at list_at active_at number_at roll_at text_at after_boot
state_again s centre =
    let rules = rules_of s centre.rules in
    let w = state_is s centre.widths in
    let booted = centre.booted in
    let nets = rows_again most_nets net_told net_object NetCan net_again [] s.nets
    (nets_can s.nets (ap (λ (t : NodeState). t.nets) booted) w.nets rules.floors) (omega (arith, rules.nets_room))
    in
    let few_links : length s.links ≤ 1024 = subst (λ role. length s.links ≤ most_links role) centre.role
    rules.links_room in
    let links = rows_again 1024 link_told link_object LinkCan link_again [] s.links
    (links_can s.links (ap (λ (t : NodeState). t.links) booted) w.links) (omega (arith, few_links)) in
    let pairs = rows_again most_pairs pair_told pair_object PairCan pair_again [] s.pairs (pairs_can s.pairs w.pairs)
    (omega (arith, rules.pairs_room)) in
    let active = active_again s.active s refl rules.active rules.nets_room in
    let aps = ap (λ (t : NodeState). t.aps_next) booted in
    let fresh = state_is_fresh s centre.role rules.role_kept in
    rw (
      nets,
      links,
      pairs,
      active,
      le-leb s.aps_limit greatest_counter (omega (arith, w.aps_limit)),
      le-leb s.declared greatest_counter (omega (arith, w.declared)),
      roll_again s.sending,
    )
    (rw (sym centre.role, sym fresh, aps) refl)
