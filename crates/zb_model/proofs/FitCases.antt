-- The rules that every stored state keeps, and what a change needs, computed: a state that keeps them all, and for
-- each rule one that breaks it.
use Rattle.std.specs.Prelude.{◌≡◌, ℕ, ◌+◌, zero, suc, Bool, true, false, List, [], ◌∷◌, map, Some, None, refl}
use Rattle.zb_model.specs.Data.{Centre, Device, State, Joined, Provisional, Unverified, Verified, Nwk, Aps, Draw, DropNet, DropLink, Install, Active, Pair, Live, Removed, Told, Untold, Reserve, Floor, Start, Moved}
use Rattle.zb_model.specs.State.{SenderFloor, NetKey, LinkKey, PairKey, NodeState, active_row, is_live, pair_of, stored_limit, sender_floor, applied}
use Rattle.zb_model.specs.Fits.{rows_have_room, keys_differ, at_most_two_live, active_is_live, partners_agree, links_are_marked, floors_are_kept, limits_are_started, role_is_kept, pairs_are_kept, keeps_rules, fits, all_fit}
use Rattle.zb_model.proofs.Small.{k, net_at, link_of, bare, keyed_node}

-- the numbers from n down to 1, and rows with these keys
down : ℕ → List ℕ
down zero = []
down (suc n) = suc n ∷ down n

reversed : ℕ → List ℕ
reversed n = Rattle.std.specs.Prelude.reverse (down n)

abbrev rows : ℕ → List NetKey
rows n = map (λ i. net_at i false 0) (down n)

abbrev links : ℕ → List LinkKey
links n = map (λ i. link_of i i Verified false) (down n)

abbrev a_floor : ℕ → ℕ → SenderFloor
a_floor sender stored = record { sender = sender; kept = stored; stored = stored }

-- A centre with two live network keys, members, one of them with an offered key, a pair; and a device.
abbrev marked : Bool → LinkKey → LinkKey
marked told r = record r { told = told }

abbrev nodes : List LinkKey
nodes = marked true (link_of 2 5 Verified true) ∷ marked true (link_of 2 6 Unverified true)
    ∷ link_of 4 7 Provisional true ∷ link_of 4 8 Verified false ∷ []

abbrev a_pair : ℕ → ℕ → ℕ → PairKey
a_pair first second n = record { first = first; second = second; key = k n }

abbrev centre : NodeState
centre = record (keyed_node Centre State.Fresh nodes) {
  nets = net_at 3 false 0 ∷ record (net_at 1 true 7) { floors = a_floor 2 9 ∷ a_floor 4 3 ∷ [] }
      ∷ record (net_at 2 true 0) { started = false } ∷ [];
  sending = true;
  pairs = a_pair 2 4 9 ∷ [];
}

abbrev device : NodeState
device = keyed_node Device Joined (link_of 1 5 Verified true ∷ [])

abbrev with_nets : List NetKey → NodeState
with_nets nets = record device { nets = nets }

abbrev with_links : List LinkKey → NodeState
with_links rows = record device { links = rows }

-- The rules

centre_keeps_rules : keeps_rules centre ≡ true
unfolding down reversed rows_have_room keys_differ at_most_two_live active_is_live partners_agree links_are_marked
    floors_are_kept limits_are_started role_is_kept pairs_are_kept keeps_rules
centre_keeps_rules = refl

device_keeps_rules : keeps_rules device ≡ true
unfolding down reversed rows_have_room keys_differ at_most_two_live active_is_live partners_agree links_are_marked
    floors_are_kept limits_are_started role_is_kept pairs_are_kept keeps_rules
device_keeps_rules = refl

too_many_nets : keeps_rules (record (bare Device Joined) { nets = rows 257 }) ≡ false
unfolding down reversed rows_have_room keys_differ at_most_two_live active_is_live partners_agree links_are_marked
    floors_are_kept limits_are_started role_is_kept pairs_are_kept keeps_rules
too_many_nets = refl

enough_nets : keeps_rules (record (bare Device Joined) { nets = rows 256 }) ≡ true
unfolding down reversed rows_have_room keys_differ at_most_two_live active_is_live partners_agree links_are_marked
    floors_are_kept limits_are_started role_is_kept pairs_are_kept keeps_rules
enough_nets = refl

too_many_links : keeps_rules (record (bare Device Joined) { links = links 65 }) ≡ false
unfolding down reversed rows_have_room keys_differ at_most_two_live active_is_live partners_agree links_are_marked
    floors_are_kept limits_are_started role_is_kept pairs_are_kept keeps_rules
too_many_links = refl

enough_links : keeps_rules (record (bare Device Joined) { links = links 64 }) ≡ true
unfolding down reversed rows_have_room keys_differ at_most_two_live active_is_live partners_agree links_are_marked
    floors_are_kept limits_are_started role_is_kept pairs_are_kept keeps_rules
enough_links = refl

more_links_at_the_centre : keeps_rules (record (bare Centre State.Fresh) { links = links 65 }) ≡ true
unfolding down reversed rows_have_room keys_differ at_most_two_live active_is_live partners_agree links_are_marked
    floors_are_kept limits_are_started role_is_kept pairs_are_kept keeps_rules
more_links_at_the_centre = refl

too_many_pairs : rows_have_room
    (record (bare Centre State.Fresh) { pairs = map (λ i. a_pair i (i + 1) i) (down 257) }) ≡ false
unfolding down reversed rows_have_room keys_differ at_most_two_live active_is_live partners_agree links_are_marked
    floors_are_kept limits_are_started role_is_kept pairs_are_kept keeps_rules
too_many_pairs = refl

one_network_key_twice : keeps_rules (with_nets (net_at 1 true 7 ∷ net_at 1 false 7 ∷ [])) ≡ false
unfolding down reversed rows_have_room keys_differ at_most_two_live active_is_live partners_agree links_are_marked
    floors_are_kept limits_are_started role_is_kept pairs_are_kept keeps_rules
one_network_key_twice = refl

one_link_key_twice : keeps_rules (with_links (link_of 1 5 Verified true ∷ link_of 2 5 Verified false ∷ [])) ≡ false
unfolding down reversed rows_have_room keys_differ at_most_two_live active_is_live partners_agree links_are_marked
    floors_are_kept limits_are_started role_is_kept pairs_are_kept keeps_rules
one_link_key_twice = refl

three_live_network_keys : keeps_rules (with_nets (net_at 1 true 7 ∷ net_at 2 true 0 ∷ net_at 3 true 0 ∷ [])) ≡ false
unfolding down reversed rows_have_room keys_differ at_most_two_live active_is_live partners_agree links_are_marked
    floors_are_kept limits_are_started role_is_kept pairs_are_kept keeps_rules
three_live_network_keys = refl

active_key_dropped : keeps_rules (with_nets (net_at 1 false 7 ∷ [])) ≡ false
unfolding down reversed rows_have_room keys_differ at_most_two_live active_is_live partners_agree links_are_marked
    floors_are_kept limits_are_started role_is_kept pairs_are_kept keeps_rules
active_key_dropped = refl

active_key_without_row : keeps_rules (with_nets (net_at 2 true 7 ∷ [])) ≡ false
unfolding down reversed rows_have_room keys_differ at_most_two_live active_is_live partners_agree links_are_marked
    floors_are_kept limits_are_started role_is_kept pairs_are_kept keeps_rules
active_key_without_row = refl

no_active_key : keeps_rules (record device { active = None }) ≡ true
unfolding down reversed rows_have_room keys_differ at_most_two_live active_is_live partners_agree links_are_marked
    floors_are_kept limits_are_started role_is_kept pairs_are_kept keeps_rules
no_active_key = refl

two_current_keys : keeps_rules (with_links (link_of 1 5 Verified true ∷ link_of 1 6 Provisional true ∷ [])) ≡ false
unfolding down reversed rows_have_room keys_differ at_most_two_live active_is_live partners_agree links_are_marked
    floors_are_kept limits_are_started role_is_kept pairs_are_kept keeps_rules
two_current_keys = refl

two_offered_keys : keeps_rules (with_links (link_of 1 5 Unverified true ∷ link_of 1 6 Unverified true ∷ [])) ≡ false
unfolding down reversed rows_have_room keys_differ at_most_two_live active_is_live partners_agree links_are_marked
    floors_are_kept limits_are_started role_is_kept pairs_are_kept keeps_rules
two_offered_keys = refl

rows_that_disagree : keeps_rules
    (record (bare Centre State.Fresh) {
      links = marked true (link_of 2 5 Verified true) ∷ link_of 2 6 Unverified true
          ∷ [];
    }) ≡ false
unfolding down reversed rows_have_room keys_differ at_most_two_live active_is_live partners_agree links_are_marked
    floors_are_kept limits_are_started role_is_kept pairs_are_kept keeps_rules
rows_that_disagree = refl

told_at_a_device : keeps_rules (with_links (marked true (link_of 1 5 Verified true) ∷ [])) ≡ false
unfolding down reversed rows_have_room keys_differ at_most_two_live active_is_live partners_agree links_are_marked
    floors_are_kept limits_are_started role_is_kept pairs_are_kept keeps_rules
told_at_a_device = refl

told_and_dropped : keeps_rules
    (record (bare Centre State.Fresh) { links = marked true (link_of 2 5 Verified false) ∷ [] }) ≡ false
unfolding down reversed rows_have_room keys_differ at_most_two_live active_is_live partners_agree links_are_marked
    floors_are_kept limits_are_started role_is_kept pairs_are_kept keeps_rules
told_and_dropped = refl

provisional_without_code : keeps_rules (with_links (record (link_of 1 5 Provisional true) { code = false } ∷ []))
    ≡ false
unfolding down reversed rows_have_room keys_differ at_most_two_live active_is_live partners_agree links_are_marked
    floors_are_kept limits_are_started role_is_kept pairs_are_kept keeps_rules
provisional_without_code = refl

too_many_senders : keeps_rules
    (with_nets (record (net_at 1 true 7) { floors = map (λ i. a_floor (100 + i) 1) (reversed 65) } ∷ [])) ≡ false
unfolding down reversed rows_have_room keys_differ at_most_two_live active_is_live partners_agree links_are_marked
    floors_are_kept limits_are_started role_is_kept pairs_are_kept keeps_rules
too_many_senders = refl

enough_senders : keeps_rules
    (with_nets (record (net_at 1 true 7) { floors = map (λ i. a_floor (100 + i) 1) (reversed 64) } ∷ [])) ≡ true
unfolding down reversed rows_have_room keys_differ at_most_two_live active_is_live partners_agree links_are_marked
    floors_are_kept limits_are_started role_is_kept pairs_are_kept keeps_rules
enough_senders = refl

floor_of_zero : keeps_rules (with_nets (record (net_at 1 true 7) { floors = a_floor 2 0 ∷ [] } ∷ [])) ≡ false
unfolding down reversed rows_have_room keys_differ at_most_two_live active_is_live partners_agree links_are_marked
    floors_are_kept limits_are_started role_is_kept pairs_are_kept keeps_rules
floor_of_zero = refl

senders_out_of_order : keeps_rules
    (with_nets (record (net_at 1 true 7) { floors = a_floor 4 1 ∷ a_floor 2 1 ∷ [] } ∷ [])) ≡ false
unfolding down reversed rows_have_room keys_differ at_most_two_live active_is_live partners_agree links_are_marked
    floors_are_kept limits_are_started role_is_kept pairs_are_kept keeps_rules
senders_out_of_order = refl

one_sender_twice : keeps_rules (with_nets (record (net_at 1 true 7) { floors = a_floor 2 1 ∷ a_floor 2 3 ∷ [] } ∷ []))
    ≡ false
unfolding down reversed rows_have_room keys_differ at_most_two_live active_is_live partners_agree links_are_marked
    floors_are_kept limits_are_started role_is_kept pairs_are_kept keeps_rules
one_sender_twice = refl

limit_before_the_start : keeps_rules (with_nets (net_at 1 true 7 ∷ record (net_at 2 true 1) { started = false } ∷ []))
    ≡ false
unfolding down reversed rows_have_room keys_differ at_most_two_live active_is_live partners_agree links_are_marked
    floors_are_kept limits_are_started role_is_kept pairs_are_kept keeps_rules
limit_before_the_start = refl

centre_in_another_state : keeps_rules (bare Centre Joined) ≡ false
unfolding down reversed rows_have_room keys_differ at_most_two_live active_is_live partners_agree links_are_marked
    floors_are_kept limits_are_started role_is_kept pairs_are_kept keeps_rules
centre_in_another_state = refl

device_in_a_rollover : keeps_rules (record device { sending = true }) ≡ false
unfolding down reversed rows_have_room keys_differ at_most_two_live active_is_live partners_agree links_are_marked
    floors_are_kept limits_are_started role_is_kept pairs_are_kept keeps_rules
device_in_a_rollover = refl

device_with_a_pair : keeps_rules (record device { pairs = a_pair 2 4 9 ∷ [] }) ≡ false
unfolding down reversed rows_have_room keys_differ at_most_two_live active_is_live partners_agree links_are_marked
    floors_are_kept limits_are_started role_is_kept pairs_are_kept keeps_rules
device_with_a_pair = refl

pair_out_of_order : keeps_rules (record centre { pairs = a_pair 4 2 9 ∷ [] }) ≡ false
unfolding down reversed rows_have_room keys_differ at_most_two_live active_is_live partners_agree links_are_marked
    floors_are_kept limits_are_started role_is_kept pairs_are_kept keeps_rules
pair_out_of_order = refl

pair_with_itself : keeps_rules (record centre { pairs = a_pair 4 4 9 ∷ [] }) ≡ false
unfolding down reversed rows_have_room keys_differ at_most_two_live active_is_live partners_agree links_are_marked
    floors_are_kept limits_are_started role_is_kept pairs_are_kept keeps_rules
pair_with_itself = refl

one_pair_twice : keeps_rules (record centre { pairs = a_pair 2 4 9 ∷ a_pair 2 4 10 ∷ [] }) ≡ false
unfolding down reversed rows_have_room keys_differ at_most_two_live active_is_live partners_agree links_are_marked
    floors_are_kept limits_are_started role_is_kept pairs_are_kept keeps_rules
one_pair_twice = refl

-- What a change needs

reserve_fits : fits (Reserve Nwk 8) centre ≡ true
unfolding down rows_have_room keys_differ at_most_two_live active_is_live partners_agree links_are_marked
    floors_are_kept limits_are_started role_is_kept pairs_are_kept keeps_rules active_row is_live pair_of stored_limit
    sender_floor applied fits all_fit
reserve_fits = refl

reserve_falls : fits (Reserve Nwk 6) centre ≡ false
unfolding down rows_have_room keys_differ at_most_two_live active_is_live partners_agree links_are_marked
    floors_are_kept limits_are_started role_is_kept pairs_are_kept keeps_rules active_row is_live pair_of stored_limit
    sender_floor applied fits all_fit
reserve_falls = refl

reserve_without_active_key : fits (Reserve Nwk 8) (bare Device Joined) ≡ false
unfolding down rows_have_room keys_differ at_most_two_live active_is_live partners_agree links_are_marked
    floors_are_kept limits_are_started role_is_kept pairs_are_kept keeps_rules active_row is_live pair_of stored_limit
    sender_floor applied fits all_fit
reserve_without_active_key = refl

aps_reserve_falls : fits (Reserve Aps 6) (record device { aps_limit = 7 }) ≡ false
unfolding down rows_have_room keys_differ at_most_two_live active_is_live partners_agree links_are_marked
    floors_are_kept limits_are_started role_is_kept pairs_are_kept keeps_rules active_row is_live pair_of stored_limit
    sender_floor applied fits all_fit
aps_reserve_falls = refl

aps_reserve_fits : fits (Reserve Aps 7) (record device { aps_limit = 7 }) ≡ true
unfolding down rows_have_room keys_differ at_most_two_live active_is_live partners_agree links_are_marked
    floors_are_kept limits_are_started role_is_kept pairs_are_kept keeps_rules active_row is_live pair_of stored_limit
    sender_floor applied fits all_fit
aps_reserve_fits = refl

floor_fits : fits (Floor Nwk (k 1) 2 9) centre ≡ true
unfolding down rows_have_room keys_differ at_most_two_live active_is_live partners_agree links_are_marked
    floors_are_kept limits_are_started role_is_kept pairs_are_kept keeps_rules active_row is_live pair_of stored_limit
    sender_floor applied fits all_fit
floor_fits = refl

floor_falls : fits (Floor Nwk (k 1) 2 8) centre ≡ false
unfolding down rows_have_room keys_differ at_most_two_live active_is_live partners_agree links_are_marked
    floors_are_kept limits_are_started role_is_kept pairs_are_kept keeps_rules active_row is_live pair_of stored_limit
    sender_floor applied fits all_fit
floor_falls = refl

floor_of_a_dropped_key : fits (Floor Nwk (k 3) 2 9) centre ≡ false
unfolding down rows_have_room keys_differ at_most_two_live active_is_live partners_agree links_are_marked
    floors_are_kept limits_are_started role_is_kept pairs_are_kept keeps_rules active_row is_live pair_of stored_limit
    sender_floor applied fits all_fit
floor_of_a_dropped_key = refl

floor_is_zero : fits (Floor Nwk (k 1) 3 0) centre ≡ false
unfolding down rows_have_room keys_differ at_most_two_live active_is_live partners_agree links_are_marked
    floors_are_kept limits_are_started role_is_kept pairs_are_kept keeps_rules active_row is_live pair_of stored_limit
    sender_floor applied fits all_fit
floor_is_zero = refl

link_floor_fits : fits (Floor Aps (k 5) 1 9) device ≡ true
unfolding down rows_have_room keys_differ at_most_two_live active_is_live partners_agree links_are_marked
    floors_are_kept limits_are_started role_is_kept pairs_are_kept keeps_rules active_row is_live pair_of stored_limit
    sender_floor applied fits all_fit
link_floor_fits = refl

link_floor_falls : fits (Floor Aps (k 5) 1 8) (with_links (record (link_of 1 5 Verified true) { stored = 9 } ∷ []))
    ≡ false
unfolding down rows_have_room keys_differ at_most_two_live active_is_live partners_agree links_are_marked
    floors_are_kept limits_are_started role_is_kept pairs_are_kept keeps_rules active_row is_live pair_of stored_limit
    sender_floor applied fits all_fit
link_floor_falls = refl

link_floor_of_a_dropped_key : fits (Floor Aps (k 8) 4 9) centre ≡ false
unfolding down rows_have_room keys_differ at_most_two_live active_is_live partners_agree links_are_marked
    floors_are_kept limits_are_started role_is_kept pairs_are_kept keeps_rules active_row is_live pair_of stored_limit
    sender_floor applied fits all_fit
link_floor_of_a_dropped_key = refl

link_floor_of_another_partner : fits (Floor Aps (k 5) 3 9) device ≡ false
unfolding down rows_have_room keys_differ at_most_two_live active_is_live partners_agree links_are_marked
    floors_are_kept limits_are_started role_is_kept pairs_are_kept keeps_rules active_row is_live pair_of stored_limit
    sender_floor applied fits all_fit
link_floor_of_another_partner = refl

start_fits : fits (Start (k 2) 5) centre ≡ true
unfolding down rows_have_room keys_differ at_most_two_live active_is_live partners_agree links_are_marked
    floors_are_kept limits_are_started role_is_kept pairs_are_kept keeps_rules active_row is_live pair_of stored_limit
    sender_floor applied fits all_fit
start_fits = refl

start_falls : fits (Start (k 1) 6) centre ≡ false
unfolding down rows_have_room keys_differ at_most_two_live active_is_live partners_agree links_are_marked
    floors_are_kept limits_are_started role_is_kept pairs_are_kept keeps_rules active_row is_live pair_of stored_limit
    sender_floor applied fits all_fit
start_falls = refl

start_without_row : fits (Start (k 4) 5) centre ≡ false
unfolding down rows_have_room keys_differ at_most_two_live active_is_live partners_agree links_are_marked
    floors_are_kept limits_are_started role_is_kept pairs_are_kept keeps_rules active_row is_live pair_of stored_limit
    sender_floor applied fits all_fit
start_without_row = refl

drop_fits : fits (Moved (DropNet (k 2))) centre ≡ true
unfolding down rows_have_room keys_differ at_most_two_live active_is_live partners_agree links_are_marked
    floors_are_kept limits_are_started role_is_kept pairs_are_kept keeps_rules active_row is_live pair_of stored_limit
    sender_floor applied fits all_fit
drop_fits = refl

drop_of_the_active_key : fits (Moved (DropNet (k 1))) centre ≡ false
unfolding down rows_have_room keys_differ at_most_two_live active_is_live partners_agree links_are_marked
    floors_are_kept limits_are_started role_is_kept pairs_are_kept keeps_rules active_row is_live pair_of stored_limit
    sender_floor applied fits all_fit
drop_of_the_active_key = refl

drop_again : fits (Moved (DropNet (k 3))) centre ≡ false
unfolding down rows_have_room keys_differ at_most_two_live active_is_live partners_agree links_are_marked
    floors_are_kept limits_are_started role_is_kept pairs_are_kept keeps_rules active_row is_live pair_of stored_limit
    sender_floor applied fits all_fit
drop_again = refl

link_drop_fits : fits (Moved (DropLink 4 (k 7))) centre ≡ true
unfolding down rows_have_room keys_differ at_most_two_live active_is_live partners_agree links_are_marked
    floors_are_kept limits_are_started role_is_kept pairs_are_kept keeps_rules active_row is_live pair_of stored_limit
    sender_floor applied fits all_fit
link_drop_fits = refl

link_drop_again : fits (Moved (DropLink 4 (k 8))) centre ≡ false
unfolding down rows_have_room keys_differ at_most_two_live active_is_live partners_agree links_are_marked
    floors_are_kept limits_are_started role_is_kept pairs_are_kept keeps_rules active_row is_live pair_of stored_limit
    sender_floor applied fits all_fit
link_drop_again = refl

link_drop_of_another_partner : fits (Moved (DropLink 2 (k 7))) centre ≡ false
unfolding down rows_have_room keys_differ at_most_two_live active_is_live partners_agree links_are_marked
    floors_are_kept limits_are_started role_is_kept pairs_are_kept keeps_rules active_row is_live pair_of stored_limit
    sender_floor applied fits all_fit
link_drop_of_another_partner = refl

install_of_a_third_key : fits (Moved (Install (k 4) 4)) centre ≡ false
unfolding down rows_have_room keys_differ at_most_two_live active_is_live partners_agree links_are_marked
    floors_are_kept limits_are_started role_is_kept pairs_are_kept keeps_rules active_row is_live pair_of stored_limit
    sender_floor applied fits all_fit
install_of_a_third_key = refl

install_fits : fits (Moved (Install (k 4) 4)) device ≡ true
unfolding down rows_have_room keys_differ at_most_two_live active_is_live partners_agree links_are_marked
    floors_are_kept limits_are_started role_is_kept pairs_are_kept keeps_rules active_row is_live pair_of stored_limit
    sender_floor applied fits all_fit
install_fits = refl

install_again : fits (Moved (Install (k 1) 4)) device ≡ false
unfolding down rows_have_room keys_differ at_most_two_live active_is_live partners_agree links_are_marked
    floors_are_kept limits_are_started role_is_kept pairs_are_kept keeps_rules active_row is_live pair_of stored_limit
    sender_floor applied fits all_fit
install_again = refl

active_fits : fits (Moved (Active (k 2))) centre ≡ true
unfolding down rows_have_room keys_differ at_most_two_live active_is_live partners_agree links_are_marked
    floors_are_kept limits_are_started role_is_kept pairs_are_kept keeps_rules active_row is_live pair_of stored_limit
    sender_floor applied fits all_fit
active_fits = refl

active_of_a_dropped_key : fits (Moved (Active (k 3))) centre ≡ false
unfolding down rows_have_room keys_differ at_most_two_live active_is_live partners_agree links_are_marked
    floors_are_kept limits_are_started role_is_kept pairs_are_kept keeps_rules active_row is_live pair_of stored_limit
    sender_floor applied fits all_fit
active_of_a_dropped_key = refl

pair_fits : fits (Moved (Pair 2 7 (k 9))) centre ≡ true
unfolding down rows_have_room keys_differ at_most_two_live active_is_live partners_agree links_are_marked
    floors_are_kept limits_are_started role_is_kept pairs_are_kept keeps_rules active_row is_live pair_of stored_limit
    sender_floor applied fits all_fit
pair_fits = refl

pair_again : fits (Moved (Pair 2 4 (k 9))) centre ≡ false
unfolding down rows_have_room keys_differ at_most_two_live active_is_live partners_agree links_are_marked
    floors_are_kept limits_are_started role_is_kept pairs_are_kept keeps_rules active_row is_live pair_of stored_limit
    sender_floor applied fits all_fit
pair_again = refl

live_fits : fits (Moved (Live 4)) centre ≡ true
unfolding down rows_have_room keys_differ at_most_two_live active_is_live partners_agree links_are_marked
    floors_are_kept limits_are_started role_is_kept pairs_are_kept keeps_rules active_row is_live pair_of stored_limit
    sender_floor applied fits all_fit
live_fits = refl

live_without_row : fits (Moved (Live 7)) centre ≡ false
unfolding down rows_have_room keys_differ at_most_two_live active_is_live partners_agree links_are_marked
    floors_are_kept limits_are_started role_is_kept pairs_are_kept keeps_rules active_row is_live pair_of stored_limit
    sender_floor applied fits all_fit
live_without_row = refl

live_at_a_device : fits (Moved (Live 1)) device ≡ false
unfolding down rows_have_room keys_differ at_most_two_live active_is_live partners_agree links_are_marked
    floors_are_kept limits_are_started role_is_kept pairs_are_kept keeps_rules active_row is_live pair_of stored_limit
    sender_floor applied fits all_fit
live_at_a_device = refl

removed_while_live : fits (Moved (Removed 4)) centre ≡ false
unfolding down rows_have_room keys_differ at_most_two_live active_is_live partners_agree links_are_marked
    floors_are_kept limits_are_started role_is_kept pairs_are_kept keeps_rules active_row is_live pair_of stored_limit
    sender_floor applied fits all_fit
removed_while_live = refl

removed_fits : fits (Moved (Removed 7)) centre ≡ true
unfolding down rows_have_room keys_differ at_most_two_live active_is_live partners_agree links_are_marked
    floors_are_kept limits_are_started role_is_kept pairs_are_kept keeps_rules active_row is_live pair_of stored_limit
    sender_floor applied fits all_fit
removed_fits = refl

removed_at_a_device : fits (Moved (Removed 7)) device ≡ false
unfolding down rows_have_room keys_differ at_most_two_live active_is_live partners_agree links_are_marked
    floors_are_kept limits_are_started role_is_kept pairs_are_kept keeps_rules active_row is_live pair_of stored_limit
    sender_floor applied fits all_fit
removed_at_a_device = refl

told_fits : fits (Moved (Told 4)) centre ≡ true
unfolding down rows_have_room keys_differ at_most_two_live active_is_live partners_agree links_are_marked
    floors_are_kept limits_are_started role_is_kept pairs_are_kept keeps_rules active_row is_live pair_of stored_limit
    sender_floor applied fits all_fit
told_fits = refl

told_without_row : fits (Moved (Told 7)) centre ≡ false
unfolding down rows_have_room keys_differ at_most_two_live active_is_live partners_agree links_are_marked
    floors_are_kept limits_are_started role_is_kept pairs_are_kept keeps_rules active_row is_live pair_of stored_limit
    sender_floor applied fits all_fit
told_without_row = refl

untold_fits : fits (Moved (Untold 2)) centre ≡ true
unfolding down rows_have_room keys_differ at_most_two_live active_is_live partners_agree links_are_marked
    floors_are_kept limits_are_started role_is_kept pairs_are_kept keeps_rules active_row is_live pair_of stored_limit
    sender_floor applied fits all_fit
untold_fits = refl

untold_without_row : fits (Moved (Untold 7)) centre ≡ false
unfolding down rows_have_room keys_differ at_most_two_live active_is_live partners_agree links_are_marked
    floors_are_kept limits_are_started role_is_kept pairs_are_kept keeps_rules active_row is_live pair_of stored_limit
    sender_floor applied fits all_fit
untold_without_row = refl

draw_always_fits : fits (Moved (Draw (k 1))) (with_nets []) ≡ true
unfolding down rows_have_room keys_differ at_most_two_live active_is_live partners_agree links_are_marked
    floors_are_kept limits_are_started role_is_kept pairs_are_kept keeps_rules active_row is_live pair_of stored_limit
    sender_floor applied fits all_fit
draw_always_fits = refl

changes_in_their_order : all_fit (Moved (DropNet (k 2)) ∷ Moved (Install (k 4) 4) ∷ []) centre ≡ true
unfolding down rows_have_room keys_differ at_most_two_live active_is_live partners_agree links_are_marked
    floors_are_kept limits_are_started role_is_kept pairs_are_kept keeps_rules active_row is_live pair_of stored_limit
    sender_floor applied fits all_fit
changes_in_their_order = refl

changes_in_another_order : all_fit (Moved (Install (k 4) 4) ∷ Moved (DropNet (k 2)) ∷ []) centre ≡ false
unfolding down rows_have_room keys_differ at_most_two_live active_is_live partners_agree links_are_marked
    floors_are_kept limits_are_started role_is_kept pairs_are_kept keeps_rules active_row is_live pair_of stored_limit
    sender_floor applied fits all_fit
changes_in_another_order = refl
