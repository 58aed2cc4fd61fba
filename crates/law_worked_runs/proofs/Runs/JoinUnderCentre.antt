-- A join under the centre, from provisioning to the confirmed key.
use Rattle.std.specs.Prelude.{◌≡◌, true, false, List, [], ◌∷◌, Some, None, refl}
use Rattle.zb_model.specs.Data.{Role, State, Nwk, Aps, ForData, ForNetwork, ForTransport, ForLoad, Provisional, Unverified, Verified, Station, Draw, DropLink, Install, Active, Row, Became, Live, Reserve, Floor, Start, Moved, DoKnock, DoTimer, HasChild, DoProvision}
use Rattle.zb_model.specs.Lines.{Line, Declared, GivenNet, GivenLink, Changed, Commit, Accept, Seal, Send, End}
use Rattle.zb_model.specs.Play.{Schedule, Own, Deliver, start, disk_of, with_disk, stands, leaves_both, stored_lines, told_lines, group_of, cut_of, setting_of, supply, task_step, forged_net, forged_both, forged_open, step_by, step, groups}
use Rattle.zb_model.specs.Transcript.{end_line, run_lines, transcript}
use Rattle.zb_model.specs.Answer.{plan_of, part_of, may_seal, out_of, edits_of, answer_by, reserve_of, stored_floor, floor_of, counting_of, answer, answered}
use Rattle.zb_model.specs.Commands.{take_net_key, take_row, take_link_key, take_app_key, take_switch, take_confirm, take_remove, take_tunnel, take_update, take_request, take_app_request, take_verify, take_command, take_leave}
use Rattle.zb_model.specs.Fits.{rows_have_room, keys_differ, at_most_two_live, active_is_live, partners_agree, links_are_marked, floors_are_kept, limits_are_started, role_is_kept, pairs_are_kept, keeps_rules, fits, all_fit}
use Rattle.zb_model.specs.Judging.{reject, need, judge_net, judge_nwk, candidates, judge_aps}
use Rattle.zb_model.specs.OwnEvents.{say, knock, rejoin, request_key, verify_key, member_timer, ask, tell, child_of_router, child_of_centre, next_member, is_unfinished, centre_timer, provision, remove_device, roll, switch_over, again, share, own}
use Rattle.zb_model.specs.Readings.{speaker, after, heard_line, state_of, is_up, air, draws_used, commits_of, stations_of}
use Rattle.zb_model.specs.Record.{record_of, edit_bytes, payload}
use Rattle.zb_model.specs.Rules.{refuse_if, found_or, choose, station_of, station_at, centre_of, short_of, spent, both_spent, drop_partner, drop_others, drop_old}
use Rattle.zb_model.specs.Secrets.{carried, terms_of, a_round, rounds, exposed, centre_in, ever, removed_devices, outside, network_keys, each_line, same_term, bases, codes_of, came_by, ideal_line, ideal, passes_on, private}
use Rattle.zb_model.specs.State.{active_row, usable_nets, usable_active, newest, usable_of, live_of, current, offered, is_live, is_known, is_told, code_row, other_user, pair_of, next_counter, stored_limit, sender_floor, applied, applied_all, after_sealing, after_counting, after_hearing, after_accepting, after_boot, shown, with_given_net, with_given_link, with_declared}
use Rattle.zb_model.specs.Tools.{sealing_key}
use Rattle.zb_model.proofs.Toy.{x, toy}
use Rattle.law_worked_runs.proofs.Terms.{term}

abbrev c_station : Station
c_station =
    record { name = x "63"; eui = 5149012952875009; short = 0; role = Role.Centre; out_block = 16; in_block = 4 }

abbrev d_station : Station
d_station =
    record { name = x "64"; eui = 5149012952875010; short = 6699; role = Role.Device; out_block = 16; in_block = 4 }

abbrev pub schedule : Schedule
schedule = record {
  nodes =
      record {
        station = c_station;
        code = None;
        network = Some (x "000102030405060708090A0B0C0D0E0F", 0);
        start_nwk = 0;
        start_aps = 0;
      }
      ∷ record {
        station = d_station;
        code = Some (x "66B6900981E1EE3CA4206B6B861C02BB");
        network = None;
        start_nwk = 0;
        start_aps = 0;
      } ∷ [];
  draws = x "A0A1A2A3A4A5A6A7A8A9AAABACADAEAF" ∷ [];
  events =
      Own 5149012952875009 (DoProvision 5149012952875010 (x "66B6900981E1EE3CA4206B6B861C02BB")) ∷
      Own 5149012952875010 DoKnock ∷
      Own 5149012952875009 (HasChild 5149012952875010 false) ∷
      Deliver 1 5149012952875010 ∷
      Own 5149012952875010 DoTimer ∷
      Deliver 2 5149012952875009 ∷
      Deliver 3 5149012952875010 ∷
      Own 5149012952875010 DoTimer ∷
      Deliver 4 5149012952875009 ∷
      Deliver 5 5149012952875010 ∷
      [];
}

abbrev pub lines : List Line
lines =
    Declared c_station ∷
    Declared d_station ∷
    GivenNet 5149012952875009 (x "000102030405060708090A0B0C0D0E0F") 0 ∷
    GivenLink 5149012952875010 5149012952875009 (x "66B6900981E1EE3CA4206B6B861C02BB") ∷
    Changed 1 5149012952875009 (Moved (Row 5149012952875010 (x "66B6900981E1EE3CA4206B6B861C02BB") Provisional)) ∷
    Changed 1 5149012952875009 (Moved (Live 5149012952875010)) ∷
    Commit 1 5149012952875009 ∷
    Changed 2 5149012952875010 (Moved (Became State.Knocked)) ∷
    Commit 2 5149012952875010 ∷
    Changed 3 5149012952875009 (Reserve Aps 16) ∷
    Commit 3 5149012952875009 ∷
    Seal 3 5149012952875009
    (term Aps (x "66B6900981E1EE3CA4206B6B861C02BB") ForTransport 5149012952875009 0 53
    (x "2100350000000001000000004B1200")
    (x "0501000102030405060708090A0B0C0D0E0F0002000000004B120001000000004B1200")) ∷
    Send 3 (Some 5149012952875009) 1
    (x "08002B1A00001E002100300000000001000000004B12000501000102030405060708090A0B0C0D0E0F0002000000004B120001000000004B1200F0B69009") ∷
    Changed 4 5149012952875010 (Floor Aps (x "66B6900981E1EE3CA4206B6B861C02BB") 5149012952875009 4) ∷
    Changed 4 5149012952875010 (Moved (Install (x "000102030405060708090A0B0C0D0E0F") 0)) ∷
    Changed 4 5149012952875010 (Moved (Active (x "000102030405060708090A0B0C0D0E0F"))) ∷
    Changed 4 5149012952875010 (Start (x "000102030405060708090A0B0C0D0E0F") 0) ∷
    Changed 4 5149012952875010 (Moved (Became State.Joined)) ∷
    Commit 4 5149012952875010 ∷
    Accept 4 5149012952875010
    (term Aps (x "66B6900981E1EE3CA4206B6B861C02BB") ForTransport 5149012952875009 0 53
    (x "2100350000000001000000004B1200")
    (x "0501000102030405060708090A0B0C0D0E0F0002000000004B120001000000004B1200")) ∷
    Changed 5 5149012952875010 (Reserve Nwk 16) ∷
    Changed 5 5149012952875010 (Reserve Aps 16) ∷
    Commit 5 5149012952875010 ∷
    Seal 5 5149012952875010
    (term Aps (x "66B6900981E1EE3CA4206B6B861C02BB") ForData 5149012952875010 0 37
    (x "2100250000000002000000004B1200") (x "0804")) ∷
    Seal 5 5149012952875010
    (term Nwk (x "000102030405060708090A0B0C0D0E0F") ForNetwork 5149012952875010 0 45
    (x "080200002B1A1E002D0000000002000000004B120000") (x "2100200000000002000000004B1200080466B69009")) ∷
    Send 5 (Some 5149012952875010) 2
    (x "080200002B1A1E00280000000002000000004B1200002100200000000002000000004B1200080466B6900900010203") ∷
    Changed 6 5149012952875009 (Reserve Nwk 16) ∷
    Changed 6 5149012952875009 (Floor Nwk (x "000102030405060708090A0B0C0D0E0F") 5149012952875010 4) ∷
    Changed 6 5149012952875009 (Floor Aps (x "66B6900981E1EE3CA4206B6B861C02BB") 5149012952875010 4) ∷
    Changed 6 5149012952875009 (Moved (Draw (x "A0A1A2A3A4A5A6A7A8A9AAABACADAEAF"))) ∷
    Changed 6 5149012952875009 (Moved (Row 5149012952875010 (x "A0A1A2A3A4A5A6A7A8A9AAABACADAEAF") Unverified)) ∷
    Commit 6 5149012952875009 ∷
    Accept 6 5149012952875009
    (term Nwk (x "000102030405060708090A0B0C0D0E0F") ForNetwork 5149012952875010 0 45
    (x "080200002B1A1E002D0000000002000000004B120000") (x "2100200000000002000000004B1200080466B69009")) ∷
    Accept 6 5149012952875009
    (term Aps (x "66B6900981E1EE3CA4206B6B861C02BB") ForData 5149012952875010 0 37
    (x "2100250000000002000000004B1200") (x "0804")) ∷
    Seal 6 5149012952875009
    (term Aps (x "66B6900981E1EE3CA4206B6B861C02BB") ForLoad 5149012952875009 1 61
    (x "21013D0100000001000000004B1200")
    (x "0504A0A1A2A3A4A5A6A7A8A9AAABACADAEAF02000000004B120001000000004B1200")) ∷
    Seal 6 5149012952875009
    (term Nwk (x "000102030405060708090A0B0C0D0E0F") ForNetwork 5149012952875009 0 45
    (x "08022B1A00001E002D0000000001000000004B120000")
    (x "2101380100000001000000004B12000504A0A1A2A3A4A5A6A7A8A9AAABACADAEAF02000000004B120001000000004B1200F2B69009")) ∷
    Send 6 (Some 5149012952875009) 3
    (x "08022B1A00001E00280000000001000000004B1200002101380100000001000000004B12000504A0A1A2A3A4A5A6A7A8A9AAABACADAEAF02000000004B120001000000004B1200F2B6900900010203") ∷
    Changed 7 5149012952875010 (Floor Nwk (x "000102030405060708090A0B0C0D0E0F") 5149012952875009 4) ∷
    Changed 7 5149012952875010 (Moved (Row 5149012952875009 (x "A0A1A2A3A4A5A6A7A8A9AAABACADAEAF") Unverified)) ∷
    Changed 7 5149012952875010 (Moved (Became State.Offered)) ∷
    Commit 7 5149012952875010 ∷
    Accept 7 5149012952875010
    (term Nwk (x "000102030405060708090A0B0C0D0E0F") ForNetwork 5149012952875009 0 45
    (x "08022B1A00001E002D0000000001000000004B120000")
    (x "2101380100000001000000004B12000504A0A1A2A3A4A5A6A7A8A9AAABACADAEAF02000000004B120001000000004B1200F2B69009")) ∷
    Accept 7 5149012952875010
    (term Aps (x "66B6900981E1EE3CA4206B6B861C02BB") ForLoad 5149012952875009 1 61
    (x "21013D0100000001000000004B1200")
    (x "0504A0A1A2A3A4A5A6A7A8A9AAABACADAEAF02000000004B120001000000004B1200")) ∷
    Seal 8 5149012952875010
    (term Nwk (x "000102030405060708090A0B0C0D0E0F") ForNetwork 5149012952875010 1 45
    (x "080200002B1A1E012D0100000002000000004B120000")
    (x "01010F0402000000004B1200F3A1A2A3A4A5A6A7A8A9AAABACADAEAF")) ∷
    Send 8 (Some 5149012952875010) 4
    (x "080200002B1A1E01280100000002000000004B12000001010F0402000000004B1200F3A1A2A3A4A5A6A7A8A9AAABACADAEAF00010203")
    ∷
    Changed 9 5149012952875009 (Moved (DropLink 5149012952875010 (x "66B6900981E1EE3CA4206B6B861C02BB"))) ∷
    Changed 9 5149012952875009 (Moved (Row 5149012952875010 (x "A0A1A2A3A4A5A6A7A8A9AAABACADAEAF") Verified)) ∷
    Commit 9 5149012952875009 ∷
    Accept 9 5149012952875009
    (term Nwk (x "000102030405060708090A0B0C0D0E0F") ForNetwork 5149012952875010 1 45
    (x "080200002B1A1E012D0100000002000000004B120000")
    (x "01010F0402000000004B1200F3A1A2A3A4A5A6A7A8A9AAABACADAEAF")) ∷
    Seal 9 5149012952875009
    (term Aps (x "A0A1A2A3A4A5A6A7A8A9AAABACADAEAF") ForData 5149012952875009 2 37
    (x "2102250200000001000000004B1200") (x "10000402000000004B1200")) ∷
    Seal 9 5149012952875009
    (term Nwk (x "000102030405060708090A0B0C0D0E0F") ForNetwork 5149012952875009 1 45
    (x "08022B1A00001E012D0100000001000000004B120000")
    (x "2102200200000001000000004B120010000402000000004B1200A0A1A2A3")) ∷
    Send 9 (Some 5149012952875009) 5
    (x "08022B1A00001E01280100000001000000004B1200002102200200000001000000004B120010000402000000004B1200A0A1A2A300010203") ∷
    Changed 10 5149012952875010 (Floor Aps (x "A0A1A2A3A4A5A6A7A8A9AAABACADAEAF") 5149012952875009 6) ∷
    Changed 10 5149012952875010 (Moved (DropLink 5149012952875009 (x "66B6900981E1EE3CA4206B6B861C02BB"))) ∷
    Changed 10 5149012952875010 (Moved (Row 5149012952875009 (x "A0A1A2A3A4A5A6A7A8A9AAABACADAEAF") Verified)) ∷
    Changed 10 5149012952875010 (Moved (Became State.Confirmed)) ∷
    Commit 10 5149012952875010 ∷
    Accept 10 5149012952875010
    (term Nwk (x "000102030405060708090A0B0C0D0E0F") ForNetwork 5149012952875009 1 45
    (x "08022B1A00001E012D0100000001000000004B120000")
    (x "2102200200000001000000004B120010000402000000004B1200A0A1A2A3")) ∷
    Accept 10 5149012952875010
    (term Aps (x "A0A1A2A3A4A5A6A7A8A9AAABACADAEAF") ForData 5149012952875009 2 37
    (x "2102250200000001000000004B1200") (x "10000402000000004B1200")) ∷
    End 10 8 8 0 true true ∷
    []

join_under_the_centre : transcript toy schedule ≡ lines
unfolding toy plan_of part_of may_seal out_of edits_of answer_by reserve_of stored_floor floor_of counting_of answer
    answered take_net_key take_row take_link_key take_app_key take_switch take_confirm take_remove take_tunnel
    take_update take_request take_app_request take_verify take_command take_leave rows_have_room keys_differ
    at_most_two_live active_is_live partners_agree links_are_marked floors_are_kept limits_are_started role_is_kept
    pairs_are_kept keeps_rules fits all_fit reject need judge_net judge_nwk candidates judge_aps say knock rejoin
    request_key verify_key member_timer ask tell child_of_router child_of_centre next_member is_unfinished
    centre_timer provision remove_device roll switch_over again share own start disk_of with_disk stands leaves_both
    stored_lines told_lines group_of cut_of setting_of supply task_step forged_net forged_both forged_open step_by
    step groups speaker after heard_line state_of is_up air draws_used commits_of stations_of record_of edit_bytes
    payload refuse_if found_or choose station_of station_at centre_of short_of spent both_spent drop_partner
    drop_others drop_old carried terms_of a_round rounds exposed centre_in ever removed_devices outside network_keys
    each_line same_term bases codes_of came_by ideal_line ideal passes_on private active_row usable_nets usable_active
    newest usable_of live_of current offered is_live is_known is_told code_row other_user pair_of next_counter
    stored_limit sender_floor applied applied_all after_sealing after_counting after_hearing after_accepting
    after_boot shown with_given_net with_given_link with_declared sealing_key end_line run_lines transcript
join_under_the_centre = refl
