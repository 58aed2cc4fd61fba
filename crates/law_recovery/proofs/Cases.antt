-- Each obstacle on a small state, computed: it is there, and it gives its refusal. The exact laws say that the
-- answers are refused so, and that nothing else prevents the event.
use Rattle.std.specs.Prelude.{◌≡◌, ℕ, true, false, [], ◌∷◌, ◌++◌, replicate, Some, None, refl}
use Rattle.zb_model.specs.Commands.{Heard, take_net_key}
use Rattle.zb_model.specs.Data.{Bytes, Role, Centre, Device, Confirmed, Verified, ForTransport, Station, DropNet, Install, Moved, NoKey, NotMember, CounterSpent, Stale, KeyOld, KeysFull}
use Rattle.zb_model.specs.Rules.{Setting, Does, refuse_if, choose, centre_of, spent, drop_old}
use Rattle.zb_model.specs.State.{greatest_counter, NetKey, LinkKey, NodeState, new_node, active_row, current, next_counter, applied, applied_all}
use Rattle.law_recovery.specs.Rejoining.{why_not_sent, why_not_taken}
use Rattle.law_recovery.specs.Rollovers.{each_once, untold}

abbrev key : ℕ → Bytes
key n = replicate 16 n

abbrev net : ℕ → NetKey
net n = record { key = key n; sequence = n; live = true; started = true; limit = 9; next = 5; floors = [] }

abbrev link : ℕ → LinkKey
link partner =
    record {
      partner = partner;
      key = key 99;
      attribute = Verified;
      live = true;
      code = false;
      told = false;
      kept = 3;
      stored = 8;
    }

-- a centre with the network key 1 and two devices, and a confirmed device with the keys 1, which is active, and 2
abbrev centre : NodeState
centre = record (new_node Centre) { nets = net 1 ∷ []; active = Some (key 1); links = link 2 ∷ link 4 ∷ link 2 ∷ [] }

abbrev member : NodeState
member =
    record (new_node Device) {
      state = Confirmed;
      nets = net 1 ∷ net 2 ∷ [];
      active = Some (key 1);
      links = link 1
          ∷ [];
    }

-- nothing prevents it
free_centre : why_not_sent centre 2 ≡ None
unfolding why_not_sent active_row current spent next_counter
free_centre = refl

free_member : why_not_taken member (link 1) 3 (key 1) ≡ None
unfolding why_not_taken
free_member = refl

-- at the centre: no network key, a device that isn't live, the APS counter at its end
no_network_key : why_not_sent (record centre { active = None }) 2 ≡ Some NoKey
unfolding why_not_sent active_row
no_network_key = refl

no_member : why_not_sent centre 3 ≡ Some NotMember
unfolding why_not_sent active_row current
no_member = refl

no_counter : why_not_sent (record centre { aps_next = greatest_counter }) 2 ≡ Some CounterSpent
unfolding why_not_sent active_row current spent next_counter
no_counter = refl

-- at the member: a floor above the counter, for example after a boot; and full rows
after_a_boot : why_not_taken member (record (link 1) { kept = 8 }) 4 (key 1) ≡ Some (Stale 8)
unfolding why_not_taken
after_a_boot = refl

full_rows : why_not_taken (record member { nets = member.nets ++ replicate 254 (net 9) }) (link 1) 4 (key 3)
    ≡ Some KeysFull
unfolding why_not_taken
full_rows = refl

-- A member that missed a switch from the key 1 to the key 2 is told of the key 3, and drops the key 2, which is
-- active at the centre until it switches. The key 2 is refused, and the key 3 is installed.
abbrev station : Role → ℕ → Station
station role eui = record { name = []; eui = eui; short = eui; role = role; out_block = 4; in_block = 4 }

abbrev setting : Setting
setting = record { me = station Device 2; stations = station Centre 1 ∷ station Device 2 ∷ [] }

abbrev from_centre : Heard
from_centre = record { sender = 1; label = Some ForTransport; row = Some (link 1); nwk_source = Some 1 }

told_of_the_third : take_net_key setting member from_centre (key 3) 3 2 1
    ≡ Does (DropNet (key 2) ∷ Install (key 3) 3 ∷ []) None
unfolding take_net_key refuse_if choose centre_of drop_old
told_of_the_third = refl

abbrev missed : NodeState
missed = applied_all (Moved (DropNet (key 2)) ∷ Moved (Install (key 3) 3) ∷ []) member

second_is_old : why_not_taken missed (link 1) 4 (key 2) ≡ Some (KeyOld 1)
unfolding why_not_taken applied_all applied
second_is_old = refl

third_is_taken : why_not_taken missed (link 1) 4 (key 3) ≡ None
unfolding why_not_taken applied_all applied
third_is_taken = refl

-- a device with two rows is told only once
two_devices : untold centre ≡ 4 ∷ 2 ∷ []
unfolding untold each_once
two_devices = refl
