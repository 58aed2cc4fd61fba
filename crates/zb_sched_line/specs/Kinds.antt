-- The kinds of events, in the order in which the printer asks for them.
use Rattle.std.specs.Prelude.{Bool, true, false}
use Rattle.zb_sched_line.specs.declared.event.Event.{Event}
use Rattle.zb_sched_line.specs.declared.event.Event.TheVariants.{Say, Deliver, Timer, Knock, Rejoin, Child, Provision, Again, Roll, Switch, Remove, Reset, Boot, Dump, Stop, Fail, Inject, ForgeNet, ForgeOpen, Ask, Share, Tell}

-- events of one node
abbrev pub is_of_one : Event → Bool
is_of_one (Say name to bytes) = true
is_of_one (Deliver frame name) = true
is_of_one (Timer name) = true
is_of_one (Knock name) = true
is_of_one (Rejoin name) = true
is_of_one (Reset name) = true
is_of_one (Boot name) = true
is_of_one (Dump name) = true
is_of_one (Stop name calls torn) = true
is_of_one (Fail name call) = true
is_of_one _ = false

-- events of the centre and of two nodes
abbrev pub is_of_centre : Event → Bool
is_of_centre (Child parent name rejoin) = true
is_of_centre (Provision name code) = true
is_of_centre (Again name) = true
is_of_centre Roll = true
is_of_centre Switch = true
is_of_centre (Remove name parent) = true
is_of_centre (Ask name partner) = true
is_of_centre (Share name partner) = true
is_of_centre (Tell name partner bytes) = true
is_of_centre _ = false

-- bytes on the air, and forged frames that aren't sealed at the network layer
abbrev pub is_open : Event → Bool
is_open (Inject bytes) = true
is_open (ForgeOpen to from source label base aps_counter command) = true
is_open _ = false

-- forged frames that are sealed at the network layer alone
abbrev pub is_of_network : Event → Bool
is_of_network (ForgeNet to from source key sequence counter content) = true
is_of_network _ = false
