-- Each obstacle of the exchange on a small state, computed: it is there, and it gives its refusal. The exact laws say
-- that the event is refused so, and that nothing else prevents it.
use Rattle.std.specs.Prelude.{◌≡◌, ℕ, true, false, List, [], ◌∷◌, map, replicate, Option, Some, None, refl}
use Rattle.std.specs.List.{range_with_len}
use Rattle.zb_model.specs.Data.{Bytes, Centre, Device, Attribute, Provisional, Unverified, Joined, Offered, NoKey, CounterSpent, NoDraw, RowsFull, KeyInUse, Stale}
use Rattle.zb_model.specs.Rules.{spent, both_spent}
use Rattle.zb_model.specs.State.{greatest_counter, SenderFloor, NetKey, LinkKey, NodeState, new_node, active_row, usable_nets, usable_of, current, next_counter, other_user, sender_floor}
use Rattle.law_recovery.specs.Exchanging.{Seals}
use Rattle.law_recovery.specs.Obstacles.{why_no_confirmation, why_no_offer, why_no_offer_again, why_no_proof, why_no_request, why_not_confirmed, why_not_heard, why_not_opened, why_offer_not_kept}

abbrev key : ℕ → Bytes
key n = replicate 16 n

abbrev net : List SenderFloor → ℕ → NetKey
net floors next =
    record { key = key 1; sequence = 1; live = true; started = true; limit = 9; next = next; floors = floors }

abbrev link : ℕ → ℕ → Attribute → ℕ → LinkKey
link partner n attribute kept =
    record {
      partner = partner;
      key = key n;
      attribute = attribute;
      live = true;
      code = false;
      told = false;
      kept = kept;
      stored = 8;
    }

-- the floor of a sender: its frames below 4 are stale
abbrev floor : ℕ → SenderFloor
floor sender = record { sender = sender; kept = 4; stored = 8 }

abbrev full : List SenderFloor
full = map floor (range_with_len 10 64)

-- a centre 1 with the network key 1 and the code's key 2 of the device 2, and the device, which has joined
abbrev centre_with : List SenderFloor → List LinkKey → NodeState
centre_with floors links =
    record (new_node Centre) { nets = net floors 5 ∷ []; active = Some (key 1); links = links; aps_next = 5 }

abbrev centre : NodeState
centre = centre_with (floor 2 ∷ []) (link 2 2 Provisional 3 ∷ [])

abbrev device_with : List SenderFloor → List LinkKey → NodeState
device_with floors links =
    record (new_node Device) {
      state = Joined;
      nets = net floors 5 ∷ [];
      active = Some (key 1);
      links = links;
      aps_next = 5;
    }

abbrev device : NodeState
device = device_with (floor 1 ∷ []) (link 1 2 Provisional 3 ∷ [])

-- the device keeps the key 3
abbrev keeping : NodeState
keeping = record (device_with (floor 1 ∷ []) (link 1 2 Provisional 3 ∷ link 1 3 Unverified 2 ∷ [])) { state = Offered }

abbrev seals : ℕ → ℕ → ℕ → Seals
seals n nwk aps = record { key = key 1; sequence = 1; link = key n; nwk = nwk; aps = aps }

abbrev drawn : Option Bytes
drawn = Some (key 3)

-- the request: a counter at its end, at APS or at NWK
free_request : why_no_request device ≡ None
unfolding both_spent spent next_counter active_row
free_request = refl

no_request_at_aps : why_no_request (record device { aps_next = greatest_counter }) ≡ Some CounterSpent
unfolding both_spent spent next_counter active_row
no_request_at_aps = refl

no_request_at_nwk : why_no_request (record device { nets = net [] greatest_counter ∷ [] }) ≡ Some CounterSpent
unfolding both_spent spent next_counter active_row
no_request_at_nwk = refl

-- the offer: stale at NWK and at APS, floors of 64 others, no key with the frame's sequence
free_offer : why_no_offer centre 2 (seals 2 4 3) drawn ≡ None
unfolding why_no_offer why_not_heard why_not_opened usable_of usable_nets current sender_floor both_spent spent
    next_counter active_row
free_offer = refl

stale_at_nwk : why_no_offer centre 2 (seals 2 3 3) drawn ≡ Some (Stale 4)
unfolding why_no_offer why_not_heard usable_of usable_nets sender_floor
stale_at_nwk = refl

stale_at_aps : why_no_offer centre 2 (seals 2 4 2) drawn ≡ Some (Stale 3)
unfolding why_no_offer why_not_heard why_not_opened usable_of usable_nets current sender_floor
stale_at_aps = refl

full_floors : why_no_offer (centre_with full (link 2 2 Provisional 3 ∷ [])) 2 (seals 2 4 3) drawn ≡ Some RowsFull
unfolding why_no_offer why_not_heard usable_of usable_nets sender_floor
full_floors = refl

other_sequence : why_no_offer centre 2 (record (seals 2 4 3) { sequence = 2 }) drawn ≡ Some NoKey
unfolding why_no_offer usable_of usable_nets
other_sequence = refl

-- the supply is empty, or its key is held already; a counter is at its end
no_draw : why_no_offer centre 2 (seals 2 4 3) None ≡ Some NoDraw
unfolding why_no_offer why_not_heard why_not_opened usable_of usable_nets current sender_floor
no_draw = refl

held_draw : why_no_offer centre 2 (seals 2 4 3) (Some (key 2)) ≡ Some NoDraw
unfolding why_no_offer why_not_heard why_not_opened usable_of usable_nets current sender_floor
held_draw = refl

spent_centre : why_no_offer (record centre { aps_next = greatest_counter }) 2 (seals 2 4 3) drawn ≡ Some CounterSpent
unfolding why_no_offer why_not_heard why_not_opened usable_of usable_nets current sender_floor both_spent spent
    next_counter active_row
spent_centre = refl

-- an offer that is repeated draws nothing, so an empty supply doesn't prevent it
free_again : why_no_offer_again centre 2 (seals 2 4 3) ≡ None
unfolding why_no_offer_again why_not_heard why_not_opened usable_of usable_nets current sender_floor both_spent spent
    next_counter active_row
free_again = refl

stale_again : why_no_offer_again centre 2 (seals 2 4 2) ≡ Some (Stale 3)
unfolding why_no_offer_again why_not_heard why_not_opened usable_of usable_nets current sender_floor
stale_again = refl

-- the device keeps no offer: stale, rows full, and a key that another partner has
free_kept : why_offer_not_kept device 1 (seals 2 4 3) (key 3) ≡ None
unfolding why_offer_not_kept why_not_heard why_not_opened usable_of usable_nets current sender_floor other_user
free_kept = refl

stale_offer : why_offer_not_kept device 1 (seals 2 4 2) (key 3) ≡ Some (Stale 3)
unfolding why_offer_not_kept why_not_heard why_not_opened usable_of usable_nets current sender_floor
stale_offer = refl

full_links : why_offer_not_kept
    (device_with [] (link 1 2 Provisional 3 ∷ map (λ n. link n n Provisional 0) (range_with_len 10 63))) 1
    (seals 2 4 3) (key 3) ≡ Some RowsFull
unfolding why_offer_not_kept why_not_heard why_not_opened usable_of usable_nets current sender_floor
full_links = refl

used_key : why_offer_not_kept (device_with [] (link 1 2 Provisional 3 ∷ link 7 3 Provisional 0 ∷ [])) 1 (seals 2 4 3)
    (key 3) ≡ Some (KeyInUse 7)
unfolding why_offer_not_kept why_not_heard why_not_opened usable_of usable_nets current sender_floor other_user
used_key = refl

-- the proof, and the confirmation
no_proof : why_no_proof (record keeping { nets = net [] greatest_counter ∷ [] }) ≡ Some CounterSpent
unfolding spent next_counter active_row
no_proof = refl

stale_proof : why_no_confirmation centre 2 (seals 3 3 0) ≡ Some (Stale 4)
unfolding why_no_confirmation why_not_heard usable_of usable_nets sender_floor
stale_proof = refl

no_confirmation : why_no_confirmation (record centre { aps_next = greatest_counter }) 2 (seals 3 4 0)
    ≡ Some CounterSpent
unfolding why_no_confirmation why_not_heard usable_of usable_nets sender_floor both_spent spent next_counter active_row
no_confirmation = refl

free_confirmed : why_not_confirmed keeping 1 (seals 3 4 2) ≡ None
unfolding why_not_confirmed why_not_heard why_not_opened usable_of usable_nets sender_floor
free_confirmed = refl

stale_confirmation : why_not_confirmed keeping 1 (seals 3 4 1) ≡ Some (Stale 2)
unfolding why_not_confirmed why_not_heard why_not_opened usable_of usable_nets sender_floor
stale_confirmation = refl
