-- What readers find in the contents of tables.
use Rattle.std.proofs.Common.{◌≡◌, ℕ, ◌≤◌, [], map, length, sym, ap, ◌∙◌, true, Option, Some, None}
use Rattle.std.specs.Prelude.{find, option_map, nat_eq, nat_le}
use Rattle.zb_base.specs.declared.key.Key.{Key}
use Rattle.zb_counter.specs.declared.sending.Outgoing.{Outgoing}
use Rattle.zb_model.specs.Data.{Nwk}
use Rattle.zb_model.specs.State as model
use Rattle.zb_model.specs.State.{NodeState, NetKey, same_key, active_row, net_of_active, next_counter, stored_limit, with_declared, declared_at, sender_floor, floor_of_sender, last_where, newest}
use Rattle.zb_model.specs.Fits.{keeps_rules, rows_have_room, keys_differ, at_most_two_live, active_is_live, partners_agree, links_are_marked, floors_are_kept, limits_are_started, role_is_kept, pairs_are_kept}
use Rattle.zb_keys.specs.declared.contents.Contents.{Contents}
use Rattle.zb_record.specs.declared.net_row.NetRow.{NetRow}
use Rattle.zb_record.specs.declared.net_row.SenderFloor.{SenderFloor}
use Rattle.zb_record.specs.RowViews.{net_key, heard_floor}
use Rattle.zb_keys.specs.Reading.{outgoing_of}
use Rattle.zb_keys.specs.Tables.{state_of, IsSound}
use Rattle.zb_record.specs.Headings.{active_bytes}
use borrow.Author.Tests.{leb-true}
use Rattle.zb_keys.proofs.FindLemmas.{find_map, last_map}
use Rattle.zb_keys.proofs.StateLemmas.{both, rules_of}

pub active_found : (a : Contents) (key : Key) (row : Option NetRow) → a.active ≡ Some key → row
    ≡ find (λ (r : NetRow). same_key (net_key r).key key.0) a.nets.items → option_map net_key row
    ≡ active_row (state_of a)
unfolding active_row
active_found a key row is found =
    ap (option_map net_key) found ∙ sym (find_map (λ (r : NetKey). same_key r.key key.0) net_key a.nets.items)
    ∙ ap (λ k. net_of_active k (state_of a)) (sym (ap active_bytes is))

pub active_none : (a : Contents) → a.active ≡ None → None ≡ active_row (state_of a)
unfolding active_row
active_none a none = ap (λ k. net_of_active k (state_of a)) (sym (ap active_bytes none))

pub outgoing_row : (s : NodeState) (block : ℕ) (r : NetKey) → Some r ≡ active_row s
    → record { next = r.next; limit = r.limit; block = block } ≡ outgoing_of Nwk block s
unfolding next_counter stored_limit
outgoing_row s block r is = ap (λ o. out s.declared block o) is
  where
    out : ℕ → ℕ → Option NetKey → Outgoing
    out declared block o = record { next = model.next_of declared o; limit = model.limit_of declared o; block = block }

pub outgoing_none : (s : NodeState) (block : ℕ) → None ≡ active_row s
    → record { next = s.declared; limit = s.declared; block = block } ≡ outgoing_of Nwk block s
unfolding next_counter stored_limit
outgoing_none s block is = ap (λ o. out s.declared block o) is
  where
    out : ℕ → ℕ → Option NetKey → Outgoing
    out declared block o = record { next = model.next_of declared o; limit = model.limit_of declared o; block = block }

pub floor_found : (r : NetRow) (sender : ℕ) (f : SenderFloor) → Some f
    ≡ find (λ (x : SenderFloor). nat_eq (heard_floor x).sender sender) r.floors.items → heard_floor f
    ≡ sender_floor sender (net_key r)
unfolding sender_floor
floor_found r sender f found =
    ap (λ o. floor_of_sender sender o)
    (ap (option_map heard_floor) found ∙ sym
    (find_map (λ (x : model.SenderFloor). nat_eq x.sender sender) heard_floor r.floors.items))

same_rules_declared : (s : NodeState) (n : ℕ) → keeps_rules s ≡ true → keeps_rules (record s { declared = n }) ≡ true
unfolding keeps_rules rows_have_room keys_differ at_most_two_live active_is_live partners_agree links_are_marked
    floors_are_kept limits_are_started role_is_kept pairs_are_kept
same_rules_declared s n kept = kept

same_rules_aps : (s : NodeState) (n : ℕ) → keeps_rules s ≡ true → keeps_rules (record s { aps_next = n }) ≡ true
unfolding keeps_rules rows_have_room keys_differ at_most_two_live active_is_live partners_agree links_are_marked
    floors_are_kept limits_are_started role_is_kept pairs_are_kept
same_rules_aps s n kept = kept

pub declared_sound : (a : Contents) (n : ℕ) → IsSound a → IsSound (record a { declared = n })
declared_sound a n sound =
    record {
      rules = same_rules_declared (state_of a) n sound.rules;
      forgets = sound.forgets;
      nets_room = sound.nets_room;
      links_room = sound.links_room;
      pairs_room = sound.pairs_room;
    }

pub aps_sound : (a : Contents) (n : ℕ) → IsSound a → IsSound (record a { aps_next = n })
aps_sound a n sound =
    record {
      rules = same_rules_aps (state_of a) n sound.rules;
      forgets = sound.forgets;
      nets_room = sound.nets_room;
      links_room = sound.links_room;
      pairs_room = sound.pairs_room;
    }

pub declared_state : (s : NodeState) (n : ℕ) → s.nets ≡ [] → record s { declared = n } ≡ with_declared Nwk n s
unfolding with_declared
declared_state s n none = ap (λ l. record s { declared = n; nets = l }) (none ∙ sym (ap (map (declared_at n)) none))

pub few_nets : (s : NodeState) → keeps_rules s ≡ true → length s.nets ≤ 256
unfolding rows_have_room
few_nets s kept = leb-true (length s.nets) 256 (both (nat_le (length s.nets) 256) _ (rules_of s kept).room).0

pub newest_is : (a : Contents) (o : Option NetRow) → o ≡ last_where (λ (r : NetRow). (net_key r).live) a.nets.items
    → option_map net_key o ≡ newest (state_of a)
unfolding newest
newest_is a o found = ap (option_map net_key) found ∙ sym (last_map (λ (r : NetKey). r.live) net_key a.nets.items)
