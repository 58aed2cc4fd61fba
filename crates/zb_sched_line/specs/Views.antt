-- What the program's lines and events say.
use Rattle.zb_sched_line.specs.Said.{Event, Says, Delivers, Ticks, Knocks, Rejoins, Adopts, Provisions, Repeats, Rolls, Switches, Removes, Resets, Boots, Dumps, Stops, Fails, Injects, ForgesNet, ForgesBoth, ForgesOpen, Asks, Shares, Tells, Sentence, Quiet, Introduces, Codes, Holds, Starts, Draws, Misprovisions, Happens}
use Rattle.zb_sched_line.specs.Grammar.{Sealed}
use Rattle.zb_sched_line.specs.declared.event.Event.{Event as CodeEvent}
use Rattle.zb_sched_line.specs.declared.event.Event.TheVariants.{Say, Deliver, Timer, Knock, Rejoin, Child, Provision, Again, Roll, Switch, Remove, Reset, Boot, Dump, Stop, Fail, Inject, ForgeNet, ForgeNetAps, ForgeOpen, Ask, Share, Tell}
use Rattle.zb_sched_line.specs.declared.line.Line.{Line}
use Rattle.zb_sched_line.specs.declared.line.Line.TheVariants.{Blank, Node, Code, NetKey, Counter, Draw, BadProvision, Event as Played}
use Rattle.zb_sched_line.specs.declared.forge.Command.{Command}

abbrev pub event_of : CodeEvent → Event
event_of (Say name to bytes) = Says name.bytes to.0 bytes.items
event_of (Deliver frame name) = Delivers frame name.bytes
event_of (Timer name) = Ticks name.bytes
event_of (Knock name) = Knocks name.bytes
event_of (Rejoin name) = Rejoins name.bytes
event_of (Child parent name rejoin) = Adopts parent.bytes name.bytes rejoin
event_of (Provision name code) = Provisions name.bytes code
event_of (Again name) = Repeats name.bytes
event_of Roll = Rolls
event_of Switch = Switches
event_of (Remove name parent) = Removes name.bytes parent.bytes
event_of (Reset name) = Resets name.bytes
event_of (Boot name) = Boots name.bytes
event_of (Dump name) = Dumps name.bytes
event_of (Stop name calls torn) = Stops name.bytes calls torn.items
event_of (Fail name call) = Fails name.bytes call
event_of (Inject bytes) = Injects bytes.items
event_of (ForgeNet to from source key sequence counter content) = ForgesNet to.0 from.0 source.0 key.0 sequence
    counter content.items
event_of (ForgeNetAps to from source key sequence counter label base aps_counter command) =
    ForgesBoth to.0 from.0 source.0 key.0 sequence counter label base.0 aps_counter command.items
event_of (ForgeOpen to from source label base aps_counter command) = ForgesOpen to.0 from.0 source.0 label base.0
    aps_counter command.items
event_of (Ask name partner) = Asks name.bytes partner.bytes
event_of (Share name partner) = Shares name.bytes partner.bytes
event_of (Tell name partner bytes) = Tells name.bytes partner.bytes bytes.items

abbrev pub sentence_of : Line → Sentence
sentence_of Blank = Quiet
sentence_of (Node peer out_block in_block) = Introduces peer.name.bytes peer.role peer.eui.0 peer.short.0 out_block
    in_block
sentence_of (Code name code) = Codes name.bytes (code)
sentence_of (NetKey name key sequence) = Holds name.bytes key.0 sequence
sentence_of (Counter name layer limit) = Starts name.bytes layer limit
sentence_of (Draw key) = Draws key.0
sentence_of (BadProvision name) = Misprovisions name.bytes
sentence_of (Played event) = Happens (event_of event)

abbrev pub sealed : Command → Sealed
sealed command =
    record { label = command.label; base = command.base.0; counter = command.counter; command = command.bytes.items }
