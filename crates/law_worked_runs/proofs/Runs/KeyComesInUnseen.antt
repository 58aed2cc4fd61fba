-- A key that is drawn later comes in with an injected frame, and a stop cuts the acceptance off: not ideal.
use Rattle.std.specs.Prelude.{◌≡◌, true, false, List, [], ◌∷◌, Some, None, refl}
use Rattle.zb_model.specs.Data.{Role, State, Nwk, Aps, ForNetwork, Provisional, Station, Draw, DropLink, Install, Active, Row, Became, Live, Removed, Roll, Reserve, Floor, Start, Moved, DoKnock, DoProvision, DoRemove}
use Rattle.zb_model.specs.Lines.{Line, Declared, GivenNet, GivenLink, Changed, Commit, Seal, Send, Inject, Stopped, End}
use Rattle.zb_model.specs.Play.{Schedule, Own, RollOver, Deliver, ArmStop, InjectBytes, start, disk_of, with_disk, stands, leaves_both, stored_lines, told_lines, group_of, cut_of, setting_of, supply, task_step, forged_net, forged_both, forged_open, step_by, step, groups}
use Rattle.zb_model.specs.Transcript.{end_line, run_lines, transcript}
use Rattle.zb_model.specs.Answer.{plan_of, part_of, may_seal, out_of, edits_of, answer_by, reserve_of, stored_floor, floor_of, counting_of, answer, answered}
use Rattle.zb_model.specs.Claims.{nonce, stamp, sealed_terms, before_group}
use Rattle.zb_model.specs.Commands.{take_net_key, take_row, take_link_key, take_app_key, take_switch, take_confirm, take_remove, take_tunnel, take_update, take_request, take_app_request, take_verify, take_command, take_leave}
use Rattle.zb_model.specs.Fits.{rows_have_room, keys_differ, at_most_two_live, active_is_live, partners_agree, links_are_marked, floors_are_kept, limits_are_started, role_is_kept, pairs_are_kept, keeps_rules, fits, all_fit}
use Rattle.zb_model.specs.Judging.{reject, need, judge_net, judge_nwk, candidates, judge_aps}
use Rattle.zb_model.specs.OwnEvents.{say, knock, rejoin, request_key, verify_key, member_timer, ask, tell, child_of_router, child_of_centre, next_member, is_unfinished, centre_timer, provision, remove_device, roll, switch_over, again, share, own}
use Rattle.zb_model.specs.Readings.{speaker, after, heard_line, state_of, is_up, air, draws_used, commits_of, stations_of}
use Rattle.zb_model.specs.Record.{record_of, edit_bytes, payload}
use Rattle.zb_model.specs.Rules.{refuse_if, found_or, choose, station_of, station_at, centre_of, short_of, spent, both_spent, drop_partner, drop_others, drop_old}
use Rattle.zb_model.specs.Secrets.{carried, terms_of, a_round, rounds, exposed, centre_in, ever, removed_devices, outside, network_keys, each_line, same_term, bases, codes_of, came_by, ideal_line, ideal, passes_on, private}
use Rattle.zb_model.specs.State.{active_row, usable_nets, usable_active, newest, usable_of, live_of, current, offered, is_live, is_known, is_told, code_row, other_user, pair_of, next_counter, stored_limit, sender_floor, applied, applied_all, after_sealing, after_counting, after_hearing, after_accepting, after_boot, shown, with_given_net, with_given_link, with_declared}
use Rattle.zb_model.specs.Tools.{sealing_key}
use Rattle.zb_model.proofs.Toy.{x, toy}
use Rattle.law_worked_runs.proofs.Terms.{term}

abbrev c_station : Station
c_station =
    record { name = x "63"; eui = 5149012952875009; short = 0; role = Role.Centre; out_block = 16; in_block = 4 }

abbrev d_station : Station
d_station =
    record { name = x "64"; eui = 5149012952875010; short = 6699; role = Role.Device; out_block = 16; in_block = 4 }

abbrev pub schedule : Schedule
schedule = record {
  nodes =
      record {
        station = c_station;
        code = None;
        network = Some (x "000102030405060708090A0B0C0D0E0F", 6);
        start_nwk = 0;
        start_aps = 0;
      }
      ∷ record {
        station = d_station;
        code = Some (x "66B6900981E1EE3CA4206B6B861C02BB");
        network = None;
        start_nwk = 0;
        start_aps = 0;
      } ∷ [];
  draws = x "A0A1A2A3A4A5A6A7A8A9AAABACADAEAF" ∷ [];
  events =
      Own 5149012952875009 (DoProvision 5149012952875010 (x "66B6900981E1EE3CA4206B6B861C02BB")) ∷
      Own 5149012952875010 DoKnock ∷
      InjectBytes
      (x "08002B1A00001E002100300000000001000000004B12000501A0A1A2A3A4A5A6A7A8A9AAABACADAEAF0702000000004B120001000000004B1200F0B69009") ∷
      ArmStop 5149012952875010 3 ([]) ∷
      Deliver 1 5149012952875010 ∷
      Own 5149012952875009 (DoRemove 5149012952875010 5149012952875009) ∷
      RollOver 5149012952875009 ∷
      [];
}

abbrev lines : List Line
lines =
    Declared c_station ∷
    Declared d_station ∷
    GivenNet 5149012952875009 (x "000102030405060708090A0B0C0D0E0F") 6 ∷
    GivenLink 5149012952875010 5149012952875009 (x "66B6900981E1EE3CA4206B6B861C02BB") ∷
    Changed 1 5149012952875009 (Moved (Row 5149012952875010 (x "66B6900981E1EE3CA4206B6B861C02BB") Provisional)) ∷
    Changed 1 5149012952875009 (Moved (Live 5149012952875010)) ∷
    Commit 1 5149012952875009 ∷
    Changed 2 5149012952875010 (Moved (Became State.Knocked)) ∷
    Commit 2 5149012952875010 ∷
    Inject 3 1
    (x "08002B1A00001E002100300000000001000000004B12000501A0A1A2A3A4A5A6A7A8A9AAABACADAEAF0702000000004B120001000000004B1200F0B69009") ∷
    Changed 5 5149012952875010 (Floor Aps (x "66B6900981E1EE3CA4206B6B861C02BB") 5149012952875009 4) ∷
    Changed 5 5149012952875010 (Moved (Install (x "A0A1A2A3A4A5A6A7A8A9AAABACADAEAF") 7)) ∷
    Changed 5 5149012952875010 (Moved (Active (x "A0A1A2A3A4A5A6A7A8A9AAABACADAEAF"))) ∷
    Changed 5 5149012952875010 (Start (x "A0A1A2A3A4A5A6A7A8A9AAABACADAEAF") 0) ∷
    Changed 5 5149012952875010 (Moved (Became State.Joined)) ∷
    Commit 5 5149012952875010 ∷
    Stopped 5 5149012952875010 ∷
    Changed 6 5149012952875009 (Reserve Nwk 16) ∷
    Changed 6 5149012952875009 (Moved (DropLink 5149012952875010 (x "66B6900981E1EE3CA4206B6B861C02BB"))) ∷
    Changed 6 5149012952875009 (Moved (Removed 5149012952875010)) ∷
    Commit 6 5149012952875009 ∷
    Seal 6 5149012952875009
    (term Nwk (x "000102030405060708090A0B0C0D0E0F") ForNetwork 5149012952875009 0 45
    (x "09022B1A00001E002D0000000001000000004B120006") (x "0440")) ∷
    Send 6 (Some 5149012952875009) 2 (x "09022B1A00001E00280000000001000000004B120006044000010203") ∷
    Changed 7 5149012952875009 (Moved (Draw (x "A0A1A2A3A4A5A6A7A8A9AAABACADAEAF"))) ∷
    Changed 7 5149012952875009 (Moved (Install (x "A0A1A2A3A4A5A6A7A8A9AAABACADAEAF") 7)) ∷
    Changed 7 5149012952875009 (Moved (Roll true)) ∷
    Commit 7 5149012952875009 ∷
    End 7 1 0 0 false true ∷
    []

key_comes_in_unseen : transcript toy schedule ≡ lines
unfolding toy plan_of part_of may_seal out_of edits_of answer_by reserve_of stored_floor floor_of counting_of answer
    answered nonce stamp sealed_terms before_group take_net_key take_row take_link_key take_app_key take_switch
    take_confirm take_remove take_tunnel take_update take_request take_app_request take_verify take_command take_leave
    rows_have_room keys_differ at_most_two_live active_is_live partners_agree links_are_marked floors_are_kept
    limits_are_started role_is_kept pairs_are_kept keeps_rules fits all_fit reject need judge_net judge_nwk candidates
    judge_aps say knock rejoin request_key verify_key member_timer ask tell child_of_router child_of_centre
    next_member is_unfinished centre_timer provision remove_device roll switch_over again share own start disk_of
    with_disk stands leaves_both stored_lines told_lines group_of cut_of setting_of supply task_step forged_net
    forged_both forged_open step_by step groups speaker after heard_line state_of is_up air draws_used commits_of
    stations_of record_of edit_bytes payload refuse_if found_or choose station_of station_at centre_of short_of spent
    both_spent drop_partner drop_others drop_old carried terms_of a_round rounds exposed centre_in ever
    removed_devices outside network_keys each_line same_term bases codes_of came_by ideal_line ideal passes_on private
    active_row usable_nets usable_active newest usable_of live_of current offered is_live is_known is_told code_row
    other_user pair_of next_counter stored_limit sender_floor applied applied_all after_sealing after_counting
    after_hearing after_accepting after_boot shown with_given_net with_given_link with_declared sealing_key end_line
    run_lines transcript
key_comes_in_unseen = refl
