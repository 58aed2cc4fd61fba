-- One change of the contents of tables and the model's change of their state.
use Rattle.std.proofs.Common.{◌≡◌, ℕ, ◌<◌, ◌≤◌, List, [], ◌∷◌, ◌++◌, length, map, filter, refl, sym, ap, ◌∙◌, arith, Bool, true, false, not, if◌then◌else◌, ◌&&◌, length-append, Some, subst}
use Rattle.std.specs.Prelude.{vec_capacity, All, nat_le, nat_lt}
use Rattle.std.specs.Vec.{with_items}
use Rattle.std.specs.List.{list_any, list_all}
use Rattle.std.proofs.lemmas.List.{map-append, length-map, with_items_is}
use Rattle.std.proofs.lemmas.List.Elements.{All-nil, All-cons}
use borrow.Author.Tests.{leb-true}
use Rattle.zb_node_types.specs.Changes.{model_role}
use Rattle.zb_model.specs.Data.{Bytes, Attribute, Nwk, Reserve, Floor, Start, Moved, DropNet, Row, Pair, Removed}
use Rattle.zb_model.specs.State.{NodeState, SenderFloor, NetKey, LinkKey, PairKey, at_net, has_net, shown_net, reserved, started_at, dropped_net, applied, shown, is_told, is_live_of, with_link, with_pair, names_two, names, is_link, has_link, new_link, revived, at_link}
use Rattle.zb_model.specs.Fits.{keeps_rules, rows_have_room, keys_differ, at_most_two_live, active_is_live, partners_agree, links_are_marked, floors_are_kept, limits_are_started, role_is_kept, pairs_are_kept, senders_ascend, most_nets, most_links, most_pairs, most_senders}
use Rattle.zb_keys.specs.declared.contents.Contents.{Contents}
use Rattle.zb_record.specs.declared.net_row.NetRow.{NetRow}
use Rattle.zb_record.specs.declared.link_row.LinkRow.{LinkRow}
use Rattle.zb_record.specs.declared.pair_row.Pair as program
use Rattle.zb_record.specs.RowViews.{net_key, link_key, pair_key}
use Rattle.zb_record.specs.Senders.{live_floor, HasRoom}
use Rattle.zb_keys.specs.Tables.{state_of, with_row, Becomes, IsSound, Forgets}
use Rattle.zb_record.specs.Redoing.{limited, with_limit}
use Rattle.zb_keys.proofs.Mapping.{list_any-map}
use Rattle.law_change_fits.proofs.ShownApplied.{shown_twice}
use Rattle.zb_keys.proofs.ShownLemmas.{shown_reserved, shown_started, shown_dropped, shown_stored, shown_limited}

pub both : (a b : Bool) → (a && b) ≡ true → (a ≡ true) × (b ≡ true)
both true b e = (refl, e)
both false b e = absurd (cc)

-- other network rows in the place of those that stand
pub becomes_nets : (now : NodeState) (a : Contents) (rows : List NetRow) → length rows ≡ a.nets.len
    → record (state_of a) { nets = map net_key rows } ≡ now
    → Becomes now a (record a { nets = with_items a.nets rows })
becomes_nets now a rows long is = record {
  state = ap (λ l. record (state_of a) { nets = map net_key l }) (with_items_is a.nets rows long) ∙ is;
  role = refl;
  nets_room = omega arith;
  links_room = omega arith;
  pairs_room = omega arith;
}

-- and another declared start
pub becomes_limited : (now : NodeState) (a : Contents) (limit : ℕ) (rows : List NetRow) → length rows ≡ a.nets.len
    → record (state_of a) { declared = limit; nets = map net_key rows } ≡ now
    → Becomes now a (record a { declared = limit; nets = with_items a.nets rows })
becomes_limited now a limit rows long is = record {
  state = ap (λ l. record (state_of a) { declared = limit; nets = map net_key l }) (with_items_is a.nets rows long) ∙
      is;
  role = refl;
  nets_room = omega arith;
  links_room = omega arith;
  pairs_room = omega arith;
}

pub becomes_links : (now : NodeState) (a : Contents) (rows : List LinkRow) → length rows ≡ a.links.len
    → record (state_of a) { links = map link_key rows } ≡ now
    → Becomes now a (record a { links = with_items a.links rows })
becomes_links now a rows long is = record {
  state = ap (λ l. record (state_of a) { links = map link_key l }) (with_items_is a.links rows long) ∙ is;
  role = refl;
  nets_room = omega arith;
  links_room = omega arith;
  pairs_room = omega arith;
}

pub reserved_state : (s : NodeState) (key : Bytes) (limit : ℕ) (nets : List NetKey) → s.active ≡ Some key → Forgets s
    → nets ≡ at_net key (reserved limit) s.nets → record s { nets = nets } ≡ shown (applied (Reserve Nwk limit) s)
unfolding applied shown
reserved_state s key limit nets active forgets e =
    rw active (ap (λ l. record s { nets = l; active = Some key }) (e ∙ sym (shown_reserved key limit s.nets forgets)))

pub limited_state : (s : NodeState) (limit : ℕ) (nets : List NetKey) → Forgets s → nets ≡ map (limited limit) s.nets
    → record s { declared = limit; nets = nets } ≡ shown (with_limit limit s)
unfolding shown
limited_state s limit nets forgets e = ap (λ l. record s { declared = limit; nets = l })
    (e ∙ sym (shown_limited limit s.nets forgets))

pub started_state : (s : NodeState) (key : Bytes) (value : ℕ) (nets : List NetKey) → Forgets s → nets
    ≡ at_net key (started_at value) s.nets → record s { nets = nets } ≡ shown (applied (Start key value) s)
unfolding applied shown
started_state s key value nets forgets e =
    ap (λ l. record s { nets = l }) (e ∙ sym (shown_started key value s.nets forgets))

pub dropped_state : (s : NodeState) (key : Bytes) (nets : List NetKey) → Forgets s → nets
    ≡ at_net key (λ r. shown_net (dropped_net r)) s.nets → record s { nets = nets }
    ≡ shown (applied (Moved (DropNet key)) s)
unfolding applied shown
dropped_state s key nets forgets e = ap (λ l. record s { nets = l }) (e ∙ sym (shown_dropped key s.nets forgets))

pub stored_state : (s : NodeState) (key : Bytes) (sender value : ℕ) (nets : List NetKey) → Forgets s → nets
    ≡ at_net key (live_floor sender value) s.nets → record s { nets = nets }
    ≡ shown (applied (Floor Nwk key sender value) s)
unfolding applied shown
stored_state s key sender value nets forgets e =
    ap (λ l. record s { nets = l }) (e ∙ sym (shown_stored key sender value s.nets forgets))

pub installed_state : (s : NodeState) (row : NetKey) (nets : List NetKey) → nets
    ≡ map shown_net (if has_net row.key s.nets then s.nets else s.nets ++ row ∷ []) → record s { nets = nets }
    ≡ shown (with_row row s)
unfolding shown
installed_state s row nets e = ap (λ l. record s { nets = l }) e

pub linked_state : (s : NodeState) (partner : ℕ) (key : Bytes) (attribute : Attribute) (told : Bool)
    (links : List LinkKey) → Forgets s → told ≡ is_told s partner → links
    ≡ with_link partner key attribute told s.links → record s { links = links }
    ≡ shown (applied (Moved (Row partner key attribute)) s)
unfolding applied shown
linked_state s partner key attribute told links forgets told_is e =
    ap (λ l. record s { links = l }) (e ∙ ap (λ t. with_link partner key attribute t s.links) told_is)
    ∙ ap (λ n. record s { nets = n; links = with_link partner key attribute (is_told s partner) s.links })
    (sym forgets)

pub paired_state : (s : NodeState) (first second : ℕ) (key : Bytes) (pairs : List PairKey) → Forgets s → pairs
    ≡ with_pair first second key s.pairs → record s { pairs = pairs }
    ≡ shown (applied (Moved (Pair first second key)) s)
unfolding applied shown
paired_state s first second key pairs forgets e =
    ap (λ l. record s { pairs = l }) e ∙ ap (λ n. record s { nets = n; pairs = with_pair first second key s.pairs })
    (sym forgets)

pub removed_state : (s : NodeState) (device : ℕ) (pairs : List PairKey) → Forgets s → pairs
    ≡ filter (λ (p : PairKey). not (names device p)) s.pairs → record s { pairs = pairs }
    ≡ shown (applied (Moved (Removed device)) s)
unfolding applied shown
removed_state s device pairs forgets e =
    ap (λ l. record s { pairs = l }) e ∙ ap
    (λ n. record s { nets = n; pairs = filter (λ (p : PairKey). not (names device p)) s.pairs }) (sym forgets)

-- whether a partner was told, asked of the program's rows
pub told_of : (a : Contents) (partner : ℕ) → list_any (λ (r : LinkRow). is_live_of partner (link_key r) && r.told)
    a.links.items ≡ is_told (state_of a) partner
unfolding is_told
told_of a partner = sym (list_any-map (λ (r : LinkKey). is_live_of partner r && r.told) link_key a.links.items)

-- a row that is there is revived, and one that isn't is added
pub linked_same : (partner : ℕ) (key : Bytes) (attribute : Attribute) (told : Bool) (rows : List LinkRow)
    → list_any (λ (r : LinkRow). is_link partner key (link_key r)) rows ≡ true
    → at_link partner key (revived attribute told) (map link_key rows)
    ≡ with_link partner key attribute told (map link_key rows)
linked_same partner key attribute told rows some =
    let present : has_link partner key (map link_key rows) ≡ true = list_any-map (is_link partner key) link_key rows ∙
    some in
    rw present refl

pub linked_new : (partner : ℕ) (key : Bytes) (attribute : Attribute) (told : Bool) (rows : List LinkRow)
    (row : LinkRow) → list_any (λ (r : LinkRow). is_link partner key (link_key r)) rows ≡ false
    → link_key row ≡ new_link partner key attribute told → map link_key (rows ++ row ∷ [])
    ≡ with_link partner key attribute told (map link_key rows)
linked_new partner key attribute told rows row none is =
    let absent : has_link partner key (map link_key rows) ≡ false = list_any-map (is_link partner key) link_key rows ∙
    none in
    rw absent (map-append link_key rows (row ∷ []) ∙ ap (λ z. map link_key rows ++ z ∷ []) is)

pub linked_room : (partner : ℕ) (key : Bytes) (attribute : Attribute) (told : Bool) (rows : List LinkRow) (room : ℕ)
    → list_any (λ (r : LinkRow). is_link partner key (link_key r)) rows ≡ false
    → length (with_link partner key attribute told (map link_key rows)) ≤ room → length rows < room
linked_room partner key attribute told rows room none fits =
    let absent : has_link partner key (map link_key rows) ≡ false = list_any-map (is_link partner key) link_key rows ∙
    none in
    let long : length (map link_key rows ++ new_link partner key attribute told ∷ []) ≤ room = rw absent at fits in
    omega (
      arith,
      length-append (map link_key rows) (new_link partner key attribute told ∷ []),
      length-map rows link_key,
    )

pub paired_same : (first second : ℕ) (key : Bytes) (rows : List program.Pair)
    → list_any (λ (p : program.Pair). names_two first second (pair_key p)) rows ≡ true
    → map pair_key rows ≡ with_pair first second key (map pair_key rows)
paired_same first second key rows some =
    let present : list_any (names_two first second) (map pair_key rows) ≡ true =
    list_any-map (names_two first second) pair_key rows ∙ some in
    rw present refl

pub paired_new : (first second : ℕ) (key : Bytes) (rows : List program.Pair) (row : program.Pair)
    → list_any (λ (p : program.Pair). names_two first second (pair_key p)) rows ≡ false
    → pair_key row ≡ record { first = first; second = second; key = key } → map pair_key (rows ++ row ∷ [])
    ≡ with_pair first second key (map pair_key rows)
paired_new first second key rows row none is =
    let absent : list_any (names_two first second) (map pair_key rows) ≡ false =
    list_any-map (names_two first second) pair_key rows ∙ none in
    rw absent (map-append pair_key rows (row ∷ []) ∙ ap (λ z. map pair_key rows ++ z ∷ []) is)

pub paired_room : (first second : ℕ) (key : Bytes) (rows : List program.Pair) (room : ℕ)
    → list_any (λ (p : program.Pair). names_two first second (pair_key p)) rows ≡ false
    → length (with_pair first second key (map pair_key rows)) ≤ room → length rows < room
paired_room first second key rows room none fits =
    let absent : list_any (names_two first second) (map pair_key rows) ≡ false =
    list_any-map (names_two first second) pair_key rows ∙ none in
    let new : PairKey = record { first = first; second = second; key = key } in
    let long : length (map pair_key rows ++ new ∷ []) ≤ room = rw absent at fits in
    omega (arith, length-append (map pair_key rows) (new ∷ []), length-map rows pair_key)

-- the rules for records, one by one
pub record Rules (s : NodeState) : Type 0 where
  pub room : rows_have_room s ≡ true
  pub keys : keys_differ s ≡ true
  pub two : at_most_two_live s ≡ true
  pub active : active_is_live s ≡ true
  pub partners : partners_agree s ≡ true
  pub marks : links_are_marked s ≡ true
  pub floors : floors_are_kept s ≡ true
  pub limits : limits_are_started s ≡ true
  pub role_kept : role_is_kept s ≡ true
  pub pairs_kept : pairs_are_kept s ≡ true

pub rules_of : (s : NodeState) → keeps_rules s ≡ true → Rules s
unfolding keeps_rules
rules_of s kept =
    let r1 = both (rows_have_room s) _ kept in
    let r2 = both (keys_differ s) _ r1.1 in
    let r3 = both (at_most_two_live s) _ r2.1 in
    let r4 = both (active_is_live s) _ r3.1 in
    let r5 = both (partners_agree s) _ r4.1 in
    let r6 = both (links_are_marked s) _ r5.1 in
    let r7 = both (floors_are_kept s) _ r6.1 in
    let r8 = both (limits_are_started s) _ r7.1 in
    let r9 = both (role_is_kept s) _ r8.1 in
    record {
      room = r1.0;
      keys = r2.0;
      two = r3.0;
      active = r4.0;
      partners = r5.0;
      marks = r6.0;
      floors = r7.0;
      limits = r8.0;
      role_kept = r9.0;
      pairs_kept = r9.1;
    }

pub rules_back : (s : NodeState) → Rules s → keeps_rules s ≡ true
unfolding keeps_rules
rules_back s r =
    rw (r.room, r.keys, r.two, r.active, r.partners, r.marks, r.floors, r.limits, r.role_kept, r.pairs_kept) refl

-- how many rows a state may have, from what is shown of it
pub record Rooms (s : NodeState) : Type 0 where
  pub nets : length s.nets ≤ most_nets
  pub links : length s.links ≤ most_links s.role
  pub pairs : length s.pairs ≤ most_pairs

pub rooms_of : (s : NodeState) → rows_have_room s ≡ true → Rooms s
unfolding rows_have_room
rooms_of s kept =
    let first = both (nat_le (length s.nets) most_nets) _ kept in
    let last = both (nat_le (length s.links) (most_links s.role)) _ first.1 in
    record { nets = leb-true _ _ first.0; links = leb-true _ _ last.0; pairs = leb-true _ _ last.1 }

pub rooms : (s : NodeState) → keeps_rules (shown s) ≡ true → Rooms s
unfolding shown
rooms s kept =
    let r = rooms_of (shown s) (rules_of (shown s) kept).room in
    record { nets = omega (arith, r.nets, length-map s.nets shown_net); links = r.links; pairs = r.pairs }

pub all_from : {X : Type 0} (p : X → Bool) (P : X → Type 0) → ((x : X) → p x ≡ true → P x) → (xs : List X)
    → list_all p xs ≡ true → All P xs
all_from p P each [] e = All-nil P
all_from p P each (x ∷ xs) e = let parts = both (p x) (list_all p xs) e in All-cons P x xs (each x parts.0)
    (all_from p P each xs parts.1)

all_have_room : (s : NodeState) → floors_are_kept s ≡ true → All HasRoom s.nets
unfolding floors_are_kept
all_have_room s kept =
    all_from
    (λ (r : NetKey). nat_le (length r.floors) most_senders
    && (list_all (λ (f : SenderFloor). nat_lt 0 f.stored) r.floors && senders_ascend r.floors)) HasRoom
    (λ r e. leb-true (length r.floors) 64 (both (nat_le (length r.floors) most_senders) _ e).0) s.nets kept

-- the rules give room for a floor that is to be stored
pub floors_room : (s : NodeState) (key : Bytes) (sender value : ℕ) → Forgets s
    → keeps_rules (shown (applied (Floor Nwk key sender value) s)) ≡ true
    → All HasRoom (at_net key (live_floor sender value) s.nets)
unfolding applied shown
floors_room s key sender value forgets kept =
    subst (All HasRoom) (shown_stored key sender value s.nets forgets)
    (all_have_room (shown (applied (Floor Nwk key sender value) s)) (rules_of _ kept).floors)

pub sound_again : (now : NodeState) (old new : Contents) → Becomes (shown now) old new → keeps_rules (shown now)
    ≡ true → IsSound old → IsSound new
unfolding shown
sound_again now old new so kept sound = record {
  rules = subst (λ s. keeps_rules s ≡ true) (sym so.state) kept;
  forgets = subst Forgets (sym so.state) (shown_twice now.nets);
  nets_room = omega (arith, so.nets_room, sound.nets_room);
  links_room = subst (λ r. most_links (model_role r) ≤ vec_capacity new.links) (sym so.role)
      (omega (arith, so.links_room, sound.links_room));
  pairs_room = omega (arith, so.pairs_room, sound.pairs_room);
}
