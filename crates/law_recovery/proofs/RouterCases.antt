-- Each obstacle on the way through a router on a small state, computed: it is there, and it gives its refusal.
use Rattle.std.specs.Prelude.{◌≡◌, ℕ, true, false, [], ◌∷◌, replicate, Some, None, refl}
use Rattle.zb_model.specs.Data.{Bytes, Centre, Router, Confirmed, Verified, NotMember, CounterSpent, Stale}
use Rattle.zb_model.specs.Rules.{spent, both_spent}
use Rattle.zb_model.specs.State.{greatest_counter, SenderFloor, NetKey, LinkKey, NodeState, new_node, active_row, usable_nets, usable_of, current, next_counter, sender_floor}
use Rattle.law_recovery.specs.Exchanging.{Seals}
use Rattle.law_recovery.specs.Obstacles.{why_not_heard, why_not_opened}
use Rattle.law_recovery.specs.Relaying.{why_no_report, why_no_tunnel, why_not_relayed}

abbrev key : ℕ → Bytes
key n = replicate 16 n

abbrev floor : ℕ → SenderFloor
floor sender = record { sender = sender; kept = 4; stored = 8 }

abbrev net : ℕ → NetKey
net sender =
    record { key = key 1; sequence = 1; live = true; started = true; limit = 9; next = 5; floors = floor sender ∷ [] }

abbrev link : ℕ → ℕ → LinkKey
link partner n =
    record {
      partner = partner;
      key = key n;
      attribute = Verified;
      live = true;
      code = false;
      told = false;
      kept = 3;
      stored = 8;
    }

-- a centre 1 with a router 5 and a device 2, and the router
abbrev centre : NodeState
centre =
    record (new_node Centre) {
      nets = net 5 ∷ [];
      active = Some (key 1);
      links = link 5 5 ∷ link 2 2 ∷ [];
      aps_next = 5;
    }

abbrev router : NodeState
router =
    record (new_node Router) {
      state = Confirmed;
      nets = net 1 ∷ [];
      active = Some (key 1);
      links = link 1 5 ∷ [];
      aps_next = 5;
    }

abbrev seals : ℕ → ℕ → Seals
seals nwk aps = record { key = key 1; sequence = 1; link = key 5; nwk = nwk; aps = aps }

no_report : why_no_report (record router { aps_next = greatest_counter }) ≡ Some CounterSpent
unfolding both_spent spent next_counter active_row
no_report = refl

free_tunnel : why_no_tunnel centre 5 2 (seals 4 3) ≡ None
unfolding why_no_tunnel why_not_heard why_not_opened usable_of usable_nets current sender_floor both_spent spent
    next_counter active_row
free_tunnel = refl

stale_report : why_no_tunnel centre 5 2 (seals 3 3) ≡ Some (Stale 4)
unfolding why_no_tunnel why_not_heard usable_of usable_nets sender_floor
stale_report = refl

stale_command : why_no_tunnel centre 5 2 (seals 4 2) ≡ Some (Stale 3)
unfolding why_no_tunnel why_not_heard why_not_opened usable_of usable_nets current sender_floor
stale_command = refl

no_member : why_no_tunnel centre 5 3 (seals 4 3) ≡ Some NotMember
unfolding why_no_tunnel why_not_heard why_not_opened usable_of usable_nets current sender_floor
no_member = refl

no_tunnel : why_no_tunnel (record centre { aps_next = greatest_counter }) 5 2 (seals 4 3) ≡ Some CounterSpent
unfolding why_no_tunnel why_not_heard why_not_opened usable_of usable_nets current sender_floor both_spent spent
    next_counter active_row
no_tunnel = refl

stale_tunnel : why_not_relayed router 1 (seals 3 0) ≡ Some (Stale 4)
unfolding why_not_heard usable_of usable_nets sender_floor
stale_tunnel = refl
