-- A schedule with each form of line: what is read from it, and what it is in the model.
use Rattle.std.specs.Prelude.{◌≡◌, ℕ, ◌+◌, ◌-◌, ◌*◌, if◌then◌else◌, List, [], ◌∷◌, ◌++◌, Some, None, true, false, nat_lt, codes, refl}
use Rattle.std.specs.Result.{result_ok}
use Prim.Native.String.{String}
use Rattle.hex.specs.Hex.{decode_pairs}
use Rattle.zb_aes.specs.Block.{enciphered, last_round, mix_column, next_key, round, round_key, state_after}
use Rattle.zb_aes.specs.Bytes.{xored}
use Rattle.zb_aes.specs.Field.{substitute, times}
use Rattle.zb_base.specs.declared.label.Label.TheVariants as label
use Rattle.zb_base.specs.declared.node.Role.TheVariants as role
use Rattle.zb_install.specs.Code.{code_key, code_of}
use Rattle.zb_install.specs.Division.{added, divided, message_bits, remainder}
use Rattle.zb_install.specs.Crc.{crc}
use Rattle.zb_mmo.specs.Hash.{blocks_of, hash}
use Rattle.zb_model.specs.Data.{Bytes, Role, Station, ForTransport, ForLoad, SayTo, TellTo, DoKnock, DoRejoin, DoTimer, AskFor, HasChild, DoProvision, DoRemove, DoSwitch, DoAgain, DoShare}
use Rattle.zb_model.specs.Play as model
use Rattle.zb_model.specs.Play.{Own, RollOver, Deliver, Reset, PowerOn, ShowRecord, ArmStop, ArmFail, InjectBytes, ForgeNet, ForgeNetAps, ForgeOpen}
use Rattle.zb_model.specs.Rules.{centre_of}
use Rattle.zb_sched.specs.Schedules.{Node, Schedule}
use Rattle.zb_sched.specs.Reading.{schedule_in}
use Rattle.zb_sched_line.specs.Said.{Event, Says, Delivers, Ticks, Knocks, Rejoins, Adopts, Provisions, Repeats, Rolls, Switches, Removes, Resets, Boots, Dumps, Stops, Fails, Injects, ForgesNet, ForgesBoth, ForgesOpen, Asks, Shares, Tells}
use Rattle.law_schedules.specs.Schedules.{event_for, schedule_of}

-- hexadecimal digits as bytes
abbrev digit : ℕ → ℕ
digit c = if nat_lt c 58 then c - 48 else c - 55

abbrev pairs_of : List ℕ → Bytes
pairs_of [] = []
pairs_of (a ∷ []) = []
pairs_of (a ∷ b ∷ rest) = (16 * digit a + digit b) ∷ pairs_of rest

abbrev x : String → Bytes
x text = pairs_of (codes text)

-- The centre isn't the first node, so that the example shows what is the centre's.
abbrev text : List ℕ
text =
    codes "# each form of line\n"
    ++ (codes "node r router 00124B0000000003 2B3C 5 2\n"
    ++ (codes "node c centre 00124B0000000001 0000 16 4\n"
    ++ (codes "node d device 00124B0000000002 1A2B 8 3\n"
    ++ (codes "node e device 00124B0000000004 5E6F 4 1\n"
    ++ (codes "code d 83FED3407A939723A5C639B26916D505C3B5\n"
    ++ (codes "netkey c 000102030405060708090A0B0C0D0E0F 6\n"
    ++ (codes "netkey r 000102030405060708090A0B0C0D0E0F 7\n"
    ++ (codes "counter c nwk 7\n"
    ++ (codes "counter d aps 9\n"
    ++ (codes "draw A0A1A2A3A4A5A6A7A8A9AAABACADAEAF\n"
    ++ (codes "draw 303132333435363738393A3B3C3D3E3F\n"
    ++ (codes "provision d 83FED3407A939723A5C639B26916D505C3B5\nknock d\nchild c d join\nchild r e rejoin\n"
    ++ (codes "deliver 3 d\ntimer d\ntimer c\n"
    ++ (codes "say d FFFF 0102\nrejoin d\nagain d\nroll\nswitch\nremove d via r\nreset d\nboot e\ndump r\n"
    ++ (codes "stop d 3 A5\nfail e 4\ninject 00FF\n"
    ++ (codes "forge 1A2B 0000 00124B0000000001 net 000102030405060708090A0B0C0D0E0F 6 50 0001\n"
    ++ (codes "forge 0000 1A2B 00124B0000000002 net 000102030405060708090A0B0C0D0E0F 6 51 aps load "
    ++ (codes "A0A1A2A3A4A5A6A7A8A9AAABACADAEAF 52 0804\n"
    ++ (codes "forge 1A2B 0000 00124B0000000001 open aps transport A0A1A2A3A4A5A6A7A8A9AAABACADAEAF 53 0901\n"
    ++ codes "ask d e\nshare e d\ntell d e 55\n")))))))))))))))))))

-- EUIs of the four nodes
abbrev r : ℕ
r = 5149012952875011

abbrev c : ℕ
c = 5149012952875009

abbrev d : ℕ
d = 5149012952875010

abbrev e : ℕ
e = 5149012952875012

abbrev key : Bytes
key = x "000102030405060708090A0B0C0D0E0F"

abbrev other : Bytes
other = x "A0A1A2A3A4A5A6A7A8A9AAABACADAEAF"

abbrev third : Bytes
third = x "303132333435363738393A3B3C3D3E3F"

abbrev code : Bytes
code = x "83FED3407A939723A5C639B26916D505C3B5"

abbrev r_station : Station
r_station = record { name = codes "r"; eui = r; short = 11068; role = Role.Router; out_block = 5; in_block = 2 }

abbrev c_station : Station
c_station = record { name = codes "c"; eui = c; short = 0; role = Role.Centre; out_block = 16; in_block = 4 }

abbrev d_station : Station
d_station = record { name = codes "d"; eui = d; short = 6699; role = Role.Device; out_block = 8; in_block = 3 }

abbrev e_station : Station
e_station = record { name = codes "e"; eui = e; short = 24175; role = Role.Device; out_block = 4; in_block = 1 }

-- what is read from the text

abbrev r_name : Bytes
r_name = codes "r"

abbrev c_name : Bytes
c_name = codes "c"

abbrev d_name : Bytes
d_name = codes "d"

abbrev e_name : Bytes
e_name = codes "e"

abbrev read_nodes : List Node
read_nodes =
    record {
      name = r_name;
      role = role.Router;
      eui = r;
      short = 11068;
      out_block = 5;
      in_block = 2;
      code = None;
      network = Some (key, 7);
      start_nwk = 0;
      start_aps = 0;
    } ∷
    record {
      name = c_name;
      role = role.Centre;
      eui = c;
      short = 0;
      out_block = 16;
      in_block = 4;
      code = None;
      network = Some (key, 6);
      start_nwk = 7;
      start_aps = 0;
    } ∷
    record {
      name = d_name;
      role = role.Device;
      eui = d;
      short = 6699;
      out_block = 8;
      in_block = 3;
      code = Some code;
      network = None;
      start_nwk = 0;
      start_aps = 9;
    } ∷
    record {
      name = e_name;
      role = role.Device;
      eui = e;
      short = 24175;
      out_block = 4;
      in_block = 1;
      code = None;
      network = None;
      start_nwk = 0;
      start_aps = 0;
    } ∷
    []

abbrev read_events : List Event
read_events =
    Provisions d_name code ∷
    Knocks d_name ∷
    Adopts c_name d_name false ∷
    Adopts r_name e_name true ∷
    Delivers 3 d_name ∷
    Ticks d_name ∷
    Ticks c_name ∷
    Says d_name 65535 (x "0102") ∷
    Rejoins d_name ∷
    Repeats d_name ∷
    Rolls ∷
    Switches ∷
    Removes d_name r_name ∷
    Resets d_name ∷
    Boots e_name ∷
    Dumps r_name ∷
    Stops d_name 3 (x "A5") ∷
    Fails e_name 4 ∷
    Injects (x "00FF") ∷
    ForgesNet 6699 0 c key 6 50 (x "0001") ∷
    ForgesBoth 0 6699 d key 6 51 label.Load other 52 (x "0804") ∷
    ForgesOpen 6699 0 c label.Transport other 53 (x "0901") ∷
    Asks d_name e_name ∷
    Shares e_name d_name ∷
    Tells d_name e_name (x "55") ∷
    []

abbrev read_schedule : Schedule
read_schedule = record { nodes = read_nodes; draws = other ∷ third ∷ []; events = read_events }

text_reads_as_schedule : result_ok (schedule_in text) ≡ Some read_schedule
unfolding code_of crc remainder added divided message_bits decode_pairs hash blocks_of xored enciphered last_round
    round_key next_key state_after round mix_column substitute times
text_reads_as_schedule = refl

-- what it is in the model

abbrev nodes : List model.Node
nodes =
    record { station = r_station; code = None; network = Some (key, 7); start_nwk = 0; start_aps = 0 } ∷
    record { station = c_station; code = None; network = Some (key, 6); start_nwk = 7; start_aps = 0 } ∷
    record { station = d_station; code = Some (code_key code); network = None; start_nwk = 0; start_aps = 9 } ∷
    record { station = e_station; code = None; network = None; start_nwk = 0; start_aps = 0 } ∷
    []

abbrev events : List model.Event
events =
    Own c (DoProvision d (code_key code)) ∷
    Own d DoKnock ∷
    Own c (HasChild d false) ∷
    Own r (HasChild e true) ∷
    Deliver 3 d ∷
    Own d DoTimer ∷
    Own c DoTimer ∷
    Own d (SayTo 65535 (x "0102")) ∷
    Own d DoRejoin ∷
    Own c (DoAgain d) ∷
    RollOver c ∷
    Own c DoSwitch ∷
    Own c (DoRemove d r) ∷
    Reset d ∷
    PowerOn e ∷
    ShowRecord r ∷
    ArmStop d 3 (x "A5") ∷
    ArmFail e 4 ∷
    InjectBytes (x "00FF") ∷
    ForgeNet 6699 0 c key 6 50 (x "0001") ∷
    ForgeNetAps 0 6699 d key 6 51 ForLoad other 52 (x "0804") ∷
    ForgeOpen 6699 0 c ForTransport other 53 (x "0901") ∷
    Own d (AskFor e) ∷
    Own c (DoShare e d) ∷
    Own d (TellTo e (x "55")) ∷
    []

abbrev schedule : model.Schedule
schedule = record { nodes = nodes; draws = other ∷ third ∷ []; events = events }

schedule_is_the_models : schedule_of read_schedule ≡ schedule
unfolding schedule_of event_for centre_of
schedule_is_the_models = refl

-- the link key of the install code of d
code_is_key : code_key code ≡ x "66B6900981E1EE3CA4206B6B861C02BB"
unfolding hash blocks_of xored enciphered last_round round_key next_key state_after round mix_column substitute times
code_is_key = refl
