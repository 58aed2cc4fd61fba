-- Worked schedules from their texts: each is the one whose run is computed in the crate of the model.
use Rattle.std.specs.Prelude.{◌≡◌, ℕ, List, ◌++◌, Some, codes, refl}
use Rattle.std.specs.Option.{option_map}
use Rattle.std.specs.Result.{result_ok}
use Rattle.hex.specs.Hex.{decode_pairs}
use Rattle.zb_aes.specs.Block.{enciphered, last_round, mix_column, next_key, round, round_key, state_after}
use Rattle.zb_aes.specs.Bytes.{xored}
use Rattle.zb_aes.specs.Field.{substitute, times}
use Rattle.zb_install.specs.Code.{code_of}
use Rattle.zb_install.specs.Division.{added, divided, message_bits, remainder}
use Rattle.zb_install.specs.Crc.{crc}
use Rattle.zb_mmo.specs.Hash.{blocks_of, hash}
use Rattle.zb_model.specs.Rules.{centre_of}
use Rattle.law_worked_runs.proofs.Runs.ApplicationKeys as application_keys
use Rattle.law_worked_runs.proofs.Runs.ConfirmationStopped as confirmation_stopped
use Rattle.law_worked_runs.proofs.Runs.JoinUnderCentre as join_under_centre
use Rattle.law_worked_runs.proofs.Runs.KeyComesInUnseen as key_comes_in_unseen
use Rattle.law_worked_runs.proofs.Runs.RemovalAndRollover as removal_and_rollover
use Rattle.zb_sched.specs.Reading.{schedule_in}
use Rattle.law_schedules.specs.Schedules.{event_for, schedule_of}

-- A device joins under the centre and confirms its key.
abbrev join_under_centre_text : List ℕ
join_under_centre_text =
    codes "node c centre 00124B0000000001 0000 16 4\nnode d device 00124B0000000002 1A2B 16 4\n"
    ++ (codes "code d 83FED3407A939723A5C639B26916D505C3B5\nnetkey c 000102030405060708090A0B0C0D0E0F 0\n"
    ++ (codes "draw A0A1A2A3A4A5A6A7A8A9AAABACADAEAF\nprovision d 83FED3407A939723A5C639B26916D505C3B5\nknock d\n"
    ++ codes "child c d join\ndeliver 1 d\ntimer d\ndeliver 2 c\ndeliver 3 d\ntimer d\ndeliver 4 c\ndeliver 5 d\n"))

join_under_centre_is_its_model : option_map schedule_of (result_ok (schedule_in join_under_centre_text))
    ≡ Some join_under_centre.schedule
unfolding schedule_of event_for centre_of code_of crc remainder added divided message_bits decode_pairs hash blocks_of
    xored enciphered last_round round_key next_key state_after round mix_column substitute times
join_under_centre_is_its_model = refl

-- Two devices get a key of their own and use it.
abbrev application_keys_text : List ℕ
application_keys_text =
    codes "node c centre 00124B0000000001 0000 16 4\nnode d device 00124B0000000002 1A2B 16 4\n"
    ++ (codes "node e device 00124B0000000004 5E6F 16 4\ncode d 83FED3407A939723A5C639B26916D505C3B5\n"
    ++ (codes "code e 404142434445464748494A4B4C4D4E4FBD66\nnetkey c 000102030405060708090A0B0C0D0E0F 0\n"
    ++ (codes "draw 303132333435363738393A3B3C3D3E3F\ndraw 404142434445464748494A4B4C4D4E4F\n"
    ++ (codes "draw A0A1A2A3A4A5A6A7A8A9AAABACADAEAF\nprovision d 83FED3407A939723A5C639B26916D505C3B5\nknock d\n"
    ++ (codes "child c d join\ndeliver 1 d\ntimer d\ndeliver 2 c\ndeliver 3 d\ntimer d\ndeliver 4 c\ndeliver 5 d\n"
    ++ (codes "provision e 404142434445464748494A4B4C4D4E4FBD66\nknock e\nchild c e join\ndeliver 6 e\ntimer e\n"
    ++ (codes "deliver 7 c\ndeliver 8 e\ntimer e\ndeliver 9 c\ndeliver 10 e\nask d e\ndeliver 11 c\ndeliver 12 d\n"
    ++ codes "share e d\ndeliver 13 e\ntell d e 55\ndeliver 14 e\n")))))))

application_keys_is_its_model : option_map schedule_of (result_ok (schedule_in application_keys_text))
    ≡ Some application_keys.schedule
unfolding schedule_of event_for centre_of code_of crc remainder added divided message_bits decode_pairs hash blocks_of
    xored enciphered last_round round_key next_key state_after round mix_column substitute times
application_keys_is_its_model = refl

-- The centre stops as it confirms a key that a device got through a router.
abbrev confirmation_stopped_text : List ℕ
confirmation_stopped_text =
    codes "node c centre 00124B0000000001 0000 16 4\nnode d device 00124B0000000002 1A2B 16 4\n"
    ++ (codes "node r router 00124B0000000003 3C4D 16 4\ncode d 83FED3407A939723A5C639B26916D505C3B5\n"
    ++ (codes "netkey c 000102030405060708090A0B0C0D0E0F 0\nnetkey r 000102030405060708090A0B0C0D0E0F 0\n"
    ++ (codes "draw A0A1A2A3A4A5A6A7A8A9AAABACADAEAF\nprovision d 83FED3407A939723A5C639B26916D505C3B5\nknock d\n"
    ++ (codes "child r d join\ndeliver 1 c\ndeliver 2 r\ndeliver 3 d\ntimer d\ntimer d\ndeliver 5 c\ntimer d\n"
    ++ (codes "deliver 7 c\ndeliver 8 d\ntimer d\nstop c 3 -\ndeliver 9 c\nboot c\ntimer d\ndeliver 10 c\ntimer d\n"
    ++ codes "deliver 11 c\n")))))

confirmation_stopped_is_its_model : option_map schedule_of (result_ok (schedule_in confirmation_stopped_text))
    ≡ Some confirmation_stopped.schedule
unfolding schedule_of event_for centre_of code_of crc remainder added divided message_bits decode_pairs hash blocks_of
    xored enciphered last_round round_key next_key state_after round mix_column substitute times
confirmation_stopped_is_its_model = refl

-- A device is removed, and the network key is changed twice.
abbrev removal_and_rollover_text : List ℕ
removal_and_rollover_text =
    codes "node c centre 00124B0000000001 0000 16 4\nnode d device 00124B0000000002 1A2B 16 4\n"
    ++ (codes "node e device 00124B0000000004 5E6F 16 4\ncode d 83FED3407A939723A5C639B26916D505C3B5\n"
    ++ (codes "code e 404142434445464748494A4B4C4D4E4FBD66\nnetkey c 000102030405060708090A0B0C0D0E0F 0\n"
    ++ (codes "draw 303132333435363738393A3B3C3D3E3F\ndraw 404142434445464748494A4B4C4D4E4F\n"
    ++ (codes "draw 505152535455565758595A5B5C5D5E5F\ndraw 606162636465666768696A6B6C6D6E6F\n"
    ++ (codes "provision d 83FED3407A939723A5C639B26916D505C3B5\nknock d\nchild c d join\ndeliver 1 d\ntimer d\n"
    ++ (codes "deliver 2 c\ndeliver 3 d\ntimer d\ndeliver 4 c\ndeliver 5 d\n"
    ++ (codes "provision e 404142434445464748494A4B4C4D4E4FBD66\nknock e\nchild c e join\ndeliver 6 e\ntimer e\n"
    ++ (codes "deliver 7 c\ndeliver 8 e\ntimer e\ndeliver 9 c\ndeliver 10 e\nremove d via c\nchild c d rejoin\nroll\n"
    ++ (codes "timer c\ndeliver 12 e\nswitch\ndeliver 13 e\nroll\ntimer c\ndeliver 14 e\nswitch\ndeliver 15 e\n"
    ++ (codes "forge 5E6F 1A2B 00124B0000000002 net 000102030405060708090A0B0C0D0E0F 0 900 0001\ndeliver 16 e\n"
    ++ codes "deliver 12 d\ndeliver 13 d\ndeliver 14 d\ndeliver 15 d\n"))))))))))

removal_and_rollover_is_its_model : option_map schedule_of (result_ok (schedule_in removal_and_rollover_text))
    ≡ Some removal_and_rollover.schedule
unfolding schedule_of event_for centre_of code_of crc remainder added divided message_bits decode_pairs hash blocks_of
    xored enciphered last_round round_key next_key state_after round mix_column substitute times
removal_and_rollover_is_its_model = refl

-- A key is delivered that nobody sealed, and the disk stops.
abbrev key_comes_in_unseen_text : List ℕ
key_comes_in_unseen_text =
    codes "node c centre 00124B0000000001 0000 16 4\nnode d device 00124B0000000002 1A2B 16 4\n"
    ++ (codes "code d 83FED3407A939723A5C639B26916D505C3B5\nnetkey c 000102030405060708090A0B0C0D0E0F 6\n"
    ++ (codes "draw A0A1A2A3A4A5A6A7A8A9AAABACADAEAF\nprovision d 83FED3407A939723A5C639B26916D505C3B5\nknock d\n"
    ++ (codes "inject 08002B1A00001E002100300000000001000000004B12000501"
    ++ (codes "A0A1A2A3A4A5A6A7A8A9AAABACADAEAF0702000000004B120001000000004B1200F0B69009\nstop d 3 -\ndeliver 1 d\n"
    ++ codes "remove d via c\nroll\n"))))

key_comes_in_unseen_is_its_model : option_map schedule_of (result_ok (schedule_in key_comes_in_unseen_text))
    ≡ Some key_comes_in_unseen.schedule
unfolding schedule_of event_for centre_of code_of crc remainder added divided message_bits decode_pairs hash blocks_of
    xored enciphered last_round round_key next_key state_after round mix_column substitute times
key_comes_in_unseen_is_its_model = refl
