-- The rules for records, one by one.
use Rattle.std.proofs.Common.{◌≡◌, ◌≤◌, length, refl, sym, Bool, true, not, ◌&&◌, ◌||◌}
use Rattle.std.specs.Prelude.{nat_le, nat_lt, nat_eq}
use Rattle.std.specs.List.{list_all}
use Rattle.std.proofs.lemmas.Bool.{leb-true, le-leb}
use Rattle.std.proofs.lemmas.Bool.Decides.{same_from_decides}
use Rattle.std.proofs.lemmas.Slice.Eq.{bytes_eq-Decides}
use Rattle.zb_model.specs.Data.{Bytes, Role}
use Rattle.zb_model.specs.State.{NodeState, SenderFloor, NetKey, LinkKey, PairKey, same_key, is_centre, is_provisional, is_unverified, live_nets}
use Rattle.zb_model.specs.Fits.{keeps_rules, rows_have_room, keys_differ, at_most_two_live, active_is_live, partners_agree, links_are_marked, floors_are_kept, limits_are_started, role_is_kept, pairs_are_kept, senders_ascend, most_senders, most_nets, most_links, most_pairs, all_apart, like_rows, same_bool}
use Rattle.law_change_fits.proofs.Tests.{both}

-- what the rules ask of one row, and of two

abbrev pub floors_rule : NetKey → Bool
floors_rule r = nat_le (length r.floors) most_senders
    && (list_all (λ (f : SenderFloor). nat_lt 0 f.stored) r.floors && senders_ascend r.floors)

abbrev pub limit_rule : NetKey → Bool
limit_rule r = r.started || nat_eq r.limit 0

abbrev pub nets_alike : NetKey → NetKey → Bool
nets_alike a b = same_key a.key b.key

abbrev pub links_alike : LinkKey → LinkKey → Bool
links_alike a b = same_key a.key b.key

abbrev pub kinds_alike : LinkKey → LinkKey → Bool
kinds_alike a b = like_rows a b && same_bool (is_unverified a.attribute) (is_unverified b.attribute)

abbrev pub told_apart : LinkKey → LinkKey → Bool
told_apart a b = like_rows a b && not (same_bool a.told b.told)

abbrev pub link_rule : Role → LinkKey → Bool
link_rule role r = (not r.told || (r.live && is_centre role)) && (not (is_provisional r.attribute) || r.code)

abbrev pub pairs_alike : PairKey → PairKey → Bool
pairs_alike a b = nat_eq a.first b.first && nat_eq a.second b.second

abbrev pub pair_rule : PairKey → Bool
pair_rule p = nat_lt p.first p.second

pub record Rules (s : NodeState) : Type 0 where
  pub nets_room : length s.nets ≤ most_nets
  pub links_room : length s.links ≤ most_links s.role
  pub pairs_room : length s.pairs ≤ most_pairs
  pub net_keys : all_apart nets_alike s.nets ≡ true
  pub link_keys : all_apart links_alike s.links ≡ true
  pub two : length (live_nets s) ≤ 2
  pub active : active_is_live s ≡ true
  pub kinds : all_apart kinds_alike s.links ≡ true
  pub told : all_apart told_apart s.links ≡ true
  pub marks : list_all (link_rule s.role) s.links ≡ true
  pub floors : list_all floors_rule s.nets ≡ true
  pub limits : list_all limit_rule s.nets ≡ true
  pub role_kept : role_is_kept s ≡ true
  pub pairs : list_all pair_rule s.pairs ≡ true
  pub pair_names : all_apart pairs_alike s.pairs ≡ true

pub rules_of : (s : NodeState) → keeps_rules s ≡ true → Rules s
unfolding keeps_rules rows_have_room keys_differ at_most_two_live partners_agree links_are_marked floors_are_kept
    limits_are_started pairs_are_kept
rules_of s kept =
    let r1 = both (rows_have_room s) _ kept in
    let r2 = both (keys_differ s) _ r1.1 in
    let r3 = both (at_most_two_live s) _ r2.1 in
    let r4 = both (active_is_live s) _ r3.1 in
    let r5 = both (partners_agree s) _ r4.1 in
    let r6 = both (links_are_marked s) _ r5.1 in
    let r7 = both (floors_are_kept s) _ r6.1 in
    let r8 = both (limits_are_started s) _ r7.1 in
    let r9 = both (role_is_kept s) _ r8.1 in
    let rooms = both (nat_le (length s.nets) most_nets) _ r1.0 in
    let more = both (nat_le (length s.links) (most_links s.role)) _ rooms.1 in
    let keys = both (all_apart nets_alike s.nets) _ r2.0 in
    let agree = both (all_apart kinds_alike s.links) _ r5.0 in
    let pairs = both (list_all pair_rule s.pairs) _ r9.1 in
    record {
      nets_room = leb-true _ _ rooms.0;
      links_room = leb-true _ _ more.0;
      pairs_room = leb-true _ _ more.1;
      net_keys = keys.0;
      link_keys = keys.1;
      two = leb-true _ _ r3.0;
      active = r4.0;
      kinds = agree.0;
      told = agree.1;
      marks = r6.0;
      floors = r7.0;
      limits = r8.0;
      role_kept = r9.0;
      pairs = pairs.0;
      pair_names = pairs.1;
    }

pub rules_back : (s : NodeState) → Rules s → keeps_rules s ≡ true
unfolding keeps_rules rows_have_room keys_differ at_most_two_live partners_agree links_are_marked floors_are_kept
    limits_are_started pairs_are_kept
rules_back s r =
    let nets : nat_le (length s.nets) most_nets ≡ true = le-leb _ _ r.nets_room in
    let links : nat_le (length s.links) (most_links s.role) ≡ true = le-leb _ _ r.links_room in
    let pairs : nat_le (length s.pairs) most_pairs ≡ true = le-leb _ _ r.pairs_room in
    let two : nat_le (length (live_nets s)) 2 ≡ true = le-leb _ _ r.two in
    rw (
      nets,
      links,
      pairs,
      r.net_keys,
      r.link_keys,
      two,
      r.active,
      r.kinds,
      r.told,
      r.marks,
      r.floors,
      r.limits,
      r.role_kept,
      r.pairs,
      r.pair_names,
    ) refl

-- keys

pub same_key_is : (a b : Bytes) → same_key a b ≡ true → a ≡ b
same_key_is a b e = (bytes_eq-Decides a b).0 e

pub same_key_of : (a b : Bytes) → a ≡ b → same_key a b ≡ true
same_key_of a b e = (bytes_eq-Decides a b).1 e

pub same_key_sym : (a b : Bytes) → same_key a b ≡ same_key b a
same_key_sym a b = same_from_decides (same_key a b) (same_key b a) (bytes_eq-Decides a b)
    ((λ e. sym (same_key_is b a e)), (λ e. same_key_of b a (sym e)))
