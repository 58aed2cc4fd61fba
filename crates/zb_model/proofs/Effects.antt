-- What rules do and definitions say in cases that no worked run shows: one small case each, computed.
use Rattle.std.specs.Prelude.{◌≡◌, ℕ, true, false, List, [], ◌∷◌, map, Option, Some, None, refl}
use Rattle.zb_model.specs.Data.{Bytes, Role, Centre, Device, State, Joined, Offered, Confirmed, Rejoining, Provisional, Unverified, Verified, Label, ForData, ForNetwork, ForTransport, ForLoad, Layer, Nwk, Aps, Station, Term, Draw, DropNet, DropLink, Active, Row, Pair, Became, Untold, Floor, Moved, WrongState, TransportNet, TransportApp, TransportLink, ConfirmKey}
use Rattle.zb_model.specs.Lines.{Line, Declared, GivenLink, Changed, Seal, Forge}
use Rattle.zb_model.specs.State.{SenderFloor, NetKey, LinkKey, NodeState, active_row, live_of, usable_of, usable_nets, newest, current, offered, is_live, is_told, pair_of, next_counter, other_user, applied, after_accepting, after_hearing, dropped_link}
use Rattle.zb_model.specs.Record.{link_bytes, net_bytes}
use Rattle.zb_model.specs.Rules.{Secret, Stop, Does, Setting, refuse_if, found_or, choose, sends, centre_of, short_of, station_of, spent, both_spent, drop_partner, drop_old}
use Rattle.zb_model.specs.OwnEvents.{again}
use Rattle.zb_model.specs.Judging.{chosen_row}
use Rattle.zb_model.specs.Frames.{data_control}
use Rattle.zb_model.specs.Commands.{Heard, take_net_key, take_row, take_link_key, take_app_key, take_confirm, take_request, take_app_request, take_verify}
use Rattle.zb_model.specs.Answer.{first_counter, start_for}
use Rattle.zb_model.specs.Play.{BootCalls, StopAfter, leaves_both}
use Rattle.zb_model.specs.Readings.{stations_of}
use Rattle.zb_model.specs.Secrets.{carried, terms_of, a_round, rounds, exposed, ever, bases, codes_of, came_by, ideal_line}
use Rattle.zb_model.proofs.Toy.{x, toy}
use Rattle.zb_model.proofs.Small.{node, k, net_at, link_of, bare, keyed_node}

-- A centre 1, a device 2, a device 4.
abbrev all : List Station
all = node Centre 1 0 ∷ node Device 2 258 ∷ node Device 4 260 ∷ []

abbrev device : Setting
device = record { me = node Device 2 258; stations = all }

abbrev centre : Setting
centre = record { me = node Centre 1 0; stations = all }

abbrev from_centre : Label → Option LinkKey → Heard
from_centre label row = record { sender = 1; label = Some label; row = row; nwk_source = Some 1 }

abbrev from_device : Label → Option LinkKey → Heard
from_device label row = record { sender = 2; label = Some label; row = row; nwk_source = Some 2 }

abbrev clear_from_device : Heard
clear_from_device = record { sender = 2; label = None; row = None; nwk_source = Some 2 }

abbrev with_links : Role → State → List LinkKey → NodeState
with_links role state links = keyed_node role state links

-- Commands

offered_key_is_confirmed : take_confirm device
    (with_links Device Offered (link_of 1 5 Verified true ∷ link_of 1 6 Unverified true ∷ []))
    (from_centre ForData (Some (link_of 1 6 Unverified true))) 0 4 2
    ≡ Does (DropLink 1 (k 5) ∷ Row 1 (k 6) Verified ∷ Became Confirmed ∷ []) None
unfolding take_confirm refuse_if found_or offered current centre_of
offered_key_is_confirmed = refl

another_key_is_offered : take_link_key device
    (with_links Device Offered (link_of 1 5 Verified true ∷ link_of 1 6 Unverified true ∷ []))
    (from_centre ForLoad (Some (link_of 1 5 Verified true))) (k 7) 2 1
    ≡ Does (DropLink 1 (k 6) ∷ Row 1 (k 7) Unverified ∷ Became Offered ∷ []) None
unfolding take_link_key take_row refuse_if choose offered current centre_of other_user
another_key_is_offered = refl

another_partner_key : take_app_key device
    (with_links Device Confirmed (link_of 1 5 Verified true ∷ link_of 4 6 Verified true ∷ []))
    (from_centre ForLoad (Some (link_of 1 5 Verified true))) (k 7) 4
    ≡ Does (DropLink 4 (k 6) ∷ Row 4 (k 7) Verified ∷ []) None
unfolding take_app_key take_row refuse_if choose drop_partner centre_of station_of other_user
another_partner_key = refl

rejoined_with_an_offer : take_net_key device
    (with_links Device Rejoining (link_of 1 5 Verified true ∷ link_of 1 6 Unverified true ∷ []))
    (from_centre ForTransport (Some (link_of 1 5 Verified true))) (k 1) 1 2 1
    ≡ Does (Active (k 1) ∷ Became Offered ∷ []) None
unfolding take_net_key refuse_if choose centre_of offered current
rejoined_with_an_offer = refl

rejoined_with_a_verified_key : take_net_key device (with_links Device Rejoining (link_of 1 5 Verified true ∷ []))
    (from_centre ForTransport (Some (link_of 1 5 Verified true))) (k 1) 1 2 1
    ≡ Does (Active (k 1) ∷ Became Confirmed ∷ []) None
unfolding take_net_key refuse_if choose centre_of offered current
rejoined_with_a_verified_key = refl

rejoined_with_a_code : take_net_key device (with_links Device Rejoining (link_of 1 5 Provisional true ∷ []))
    (from_centre ForTransport (Some (link_of 1 5 Provisional true))) (k 1) 1 2 1
    ≡ Does (Active (k 1) ∷ Became Joined ∷ []) None
unfolding take_net_key refuse_if choose centre_of offered current
rejoined_with_a_code = refl

offer_is_sent_again : take_request centre
    (with_links Centre State.Fresh (link_of 2 5 Verified true ∷ link_of 2 6 Unverified true ∷ []))
    (from_device ForData (Some (link_of 2 5 Verified true))) (Some (k 9))
    ≡ Does [] (sends 258 true (Secret ForLoad (k 5) (TransportLink (k 6) 2 1)))
unfolding take_request refuse_if found_or offered current both_spent spent next_counter active_row short_of station_of
offer_is_sent_again = refl

pair_key_is_sent_again : take_app_request centre
    (record (with_links Centre State.Fresh (link_of 2 5 Verified true ∷ link_of 4 6 Verified true ∷ []))
    { pairs = record { first = 2; second = 4; key = k 8 } ∷ [] })
    (from_device ForData (Some (link_of 2 5 Verified true))) (Some (k 9)) 4
    ≡ Does [] (sends 258 true (Secret ForLoad (k 5) (TransportApp (k 8) 4 1)))
unfolding take_app_request refuse_if found_or current is_live pair_of both_spent spent next_counter active_row short_of
    station_of
pair_key_is_sent_again = refl

pair_is_drawn : take_app_request centre
    (with_links Centre State.Fresh (link_of 2 5 Verified true ∷ link_of 4 6 Verified true ∷ []))
    (from_device ForData (Some (link_of 2 5 Verified true))) (Some (k 9)) 4
    ≡ Does (Draw (k 9) ∷ Pair 2 4 (k 9) ∷ []) (sends 258 true (Secret ForLoad (k 5) (TransportApp (k 9) 4 1)))
unfolding take_app_request refuse_if found_or current is_live pair_of both_spent spent next_counter active_row short_of
    station_of
pair_is_drawn = refl

current_key_is_confirmed_again : take_verify toy centre
    (with_links Centre State.Fresh (link_of 2 5 Verified true ∷ [])) clear_from_device 4 2 (toy.keyed (k 5) 3)
    ≡ Does [] (sends 258 true (Secret ForData (k 5) (ConfirmKey 0 4 2)))
unfolding toy take_verify refuse_if found_or choose offered current is_live both_spent spent next_counter active_row
    short_of station_of
current_key_is_confirmed_again = refl

code_is_not_confirmed : take_verify toy centre (with_links Centre State.Fresh (link_of 2 5 Provisional true ∷ []))
    clear_from_device 4 2 (toy.keyed (k 5) 3) ≡ Stop WrongState
unfolding toy take_verify refuse_if found_or choose offered current is_live both_spent spent next_counter active_row
code_is_not_confirmed = refl

-- Events of a node's own

member_is_untold : again
    (record (with_links Centre State.Fresh (record (link_of 2 5 Verified true) { told = true } ∷ []))
    { sending = true }) 2 ≡ Does (Untold 2 ∷ []) None
unfolding again refuse_if is_live is_told
member_is_untold = refl

-- Rows

abbrev net_key : Option NetKey → Bytes
net_key None = []
net_key (Some r) = r.key

abbrev link_key : Option LinkKey → Bytes
link_key None = []
link_key (Some r) = r.key

abbrev two_alike : NodeState
two_alike =
    record (bare Device Joined) {
      nets = record (net_at 1 true 7) { sequence = 5 } ∷ record (net_at 2 true 7) { sequence = 5 }
          ∷ record (net_at 3 false 7) { sequence = 5 } ∷ [];
      active = Some (k 1);
    }

newest_of_a_sequence : map net_key (live_of two_alike 5 ∷ usable_of two_alike 5 ∷ newest two_alike ∷ []) ≡ k 2 ∷ k 2
    ∷ k 2 ∷ []
unfolding live_of usable_of usable_nets newest
newest_of_a_sequence = refl

inactive_key_makes_room : drop_old two_alike ≡ DropNet (k 2) ∷ []
unfolding drop_old
inactive_key_makes_room = refl

first_key_makes_room : drop_old (record two_alike { active = None }) ≡ DropNet (k 1) ∷ []
unfolding drop_old
first_key_makes_room = refl

dropped_key_is_untold : (dropped_link (record (link_of 2 5 Verified true) { told = true })).told ≡ false
dropped_key_is_untold = refl

code_stays_a_code : map (λ (r : LinkKey). r.code)
    (applied (Moved (Row 2 (k 5) Provisional))
    (with_links Centre State.Fresh (record (link_of 2 5 Verified false) { code = false } ∷ []))).links ≡ true ∷ []
unfolding applied is_told
code_stays_a_code = refl

new_key_of_a_told_member : map (λ (r : LinkKey). r.told)
    (applied (Moved (Row 2 (k 6) Unverified))
    (with_links Centre State.Fresh (record (link_of 2 5 Verified true) { told = true } ∷ []))).links ≡ true ∷ true ∷ []
unfolding applied is_told
new_key_of_a_told_member = refl

senders_by_address : map (λ (r : NetKey). map (λ (f : SenderFloor). f.sender) r.floors)
    (applied (Floor Nwk (k 1) 3 9)
    (applied (Floor Nwk (k 1) 4 9) (applied (Floor Nwk (k 1) 2 9) (keyed_node Device Joined [])))).nets
    ≡ (2 ∷ 3 ∷ 4 ∷ []) ∷ []
unfolding applied
senders_by_address = refl

abbrev from_centre_at : Layer → ℕ → Term
from_centre_at layer counter =
    record {
      layer = layer;
      base = k 1;
      label = ForNetwork;
      source = 1;
      counter = counter;
      control = 0x2d;
      header = [];
      content = [];
    }

next_floor_is_one_more : map (λ (r : NetKey). map (λ (f : SenderFloor). f.kept) r.floors)
    (after_accepting (from_centre_at Nwk 8) (applied (Floor Nwk (k 1) 1 12) (keyed_node Device Joined []))).nets
    ≡ (9 ∷ []) ∷ []
unfolding applied after_accepting after_hearing
next_floor_is_one_more = refl

-- Candidates: the first that opens the frame, though a newer one doesn't

abbrev sealed_frame : Bytes
sealed_frame =
    toy.wire
    (record {
      layer = Aps;
      base = k 5;
      label = ForData;
      source = 1;
      counter = 3;
      control = 0x25;
      header = x "2103250300000001000000000000";
      content = x "0804";
    })

second_candidate_opens : link_key
    (chosen_row toy sealed_frame 1 (link_of 1 6 Verified true ∷ link_of 1 5 Verified true ∷ [])) ≡ k 5
unfolding toy
second_candidate_opens = refl

-- Counters

starts_anew_from_half : first_counter (record (keyed_node Device Joined []) { nets = net_at 1 true 2147483648 ∷ [] })
    ≡ 0
unfolding next_counter active_row
starts_anew_from_half = refl

goes_on_below_half : first_counter (record (keyed_node Device Joined []) { nets = net_at 1 true 2147483647 ∷ [] })
    ≡ 2147483647
unfolding next_counter active_row
goes_on_below_half = refl

started_key_goes_on : start_for (keyed_node Device Joined []) (Some (k 1)) ≡ None
started_key_goes_on = refl

-- Frames and records

broadcast_from_fff8 : map data_control (0xfff7 ∷ 0xfff8 ∷ 0xffff ∷ []) ≡ 0x00 ∷ 0x08 ∷ 0x08 ∷ []
broadcast_from_fff8 = refl

flags_of_a_told_code : link_bytes (record (link_of 2 5 Verified true) { told = true })
    ≡ x "020000000000000005050505050505050505050505050505020700000000"
flags_of_a_told_code = refl

flags_of_a_new_key : net_bytes (record (net_at 5 true 0) { started = false })
    ≡ x "05050505050505050505050505050505050100000000"
flags_of_a_new_key = refl

-- Disks

torn_gate_of_a_boot : leaves_both (StopAfter 2 (0xa5 ∷ [])) (BootCalls true) ≡ true
unfolding leaves_both
torn_gate_of_a_boot = refl

-- Keys that come out

abbrev carrier : Bytes → Bytes → Term
carrier base key =
    record {
      layer = Aps;
      base = base;
      label = ForTransport;
      source = 1;
      counter = 0;
      control = 0x35;
      header = 0x21
          ∷ [];
      content = toy.spelled (TransportLink key 2 1);
    }

-- in the first round a term opens nothing if its base key comes out only after it
two_rounds : exposed toy (Seal 1 1 (carrier (k 6) (k 7)) ∷ Forge 2 (carrier (k 5) (k 6)) ∷ []) (k 5 ∷ []) ≡ k 5 ∷ k 6
    ∷ k 7 ∷ []
unfolding toy exposed rounds a_round terms_of carried
two_rounds = refl

clear_transport_in_a_network_frame : carried toy
    (record {
      layer = Nwk;
      base = k 1;
      label = ForNetwork;
      source = 1;
      counter = 0;
      control = 0x2d;
      header = [];
      content = 0x01 ∷ 0x00 ∷ toy.spelled (TransportNet (k 7) 1 2 1);
    }) ≡ Some (k 7)
unfolding toy carried
clear_transport_in_a_network_frame = refl

both_hold_a_pair : map (λ d. ever (Changed 1 1 (Moved (Pair 2 4 (k 8))) ∷ []) d) (2 ∷ 4 ∷ 3 ∷ []) ≡ (k 8 ∷ [])
    ∷ (k 8 ∷ []) ∷ [] ∷ []
unfolding ever
both_hold_a_pair = refl

abbrev declared : List Line
declared = Declared (node Centre 1 0) ∷ Declared (node Device 2 258) ∷ GivenLink 2 1 (k 5) ∷ []

row_out_of_nowhere : ideal_line toy declared (Changed 1 2 (Moved (Row 1 (k 6) Unverified))) ≡ false
unfolding toy ideal_line came_by codes_of bases terms_of stations_of station_of
row_out_of_nowhere = refl

row_of_the_code : ideal_line toy declared (Changed 1 2 (Moved (Row 1 (k 5) Provisional))) ≡ true
unfolding toy ideal_line came_by codes_of bases terms_of stations_of station_of
row_of_the_code = refl

row_of_the_centre : ideal_line toy declared (Changed 1 1 (Moved (Row 2 (k 6) Unverified))) ≡ true
unfolding toy ideal_line came_by codes_of bases terms_of stations_of station_of
row_of_the_centre = refl
