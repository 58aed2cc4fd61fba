-- A stop before the commit stands leaves nothing of the event.
use Rattle.std.specs.Prelude.{◌≡◌, true, List, [], ◌∷◌, Some, None, refl}
use Rattle.zb_model.specs.Data.{Role, Nwk, ForNetwork, Station, Reserve, SayTo}
use Rattle.zb_model.specs.Lines.{Line, Declared, GivenNet, Changed, Commit, Seal, Send, Stopped, Boot, End}
use Rattle.zb_model.specs.Play.{Schedule, Own, PowerOn, ArmStop, start, disk_of, with_disk, stands, leaves_both, stored_lines, told_lines, group_of, cut_of, setting_of, supply, task_step, forged_net, forged_both, forged_open, step_by, step, groups}
use Rattle.zb_model.specs.Transcript.{end_line, run_lines, transcript}
use Rattle.zb_model.specs.Answer.{plan_of, part_of, may_seal, out_of, edits_of, answer_by, reserve_of, stored_floor, floor_of, counting_of, answer, answered}
use Rattle.zb_model.specs.Commands.{take_net_key, take_row, take_link_key, take_app_key, take_switch, take_confirm, take_remove, take_tunnel, take_update, take_request, take_app_request, take_verify, take_command, take_leave}
use Rattle.zb_model.specs.Fits.{rows_have_room, keys_differ, at_most_two_live, active_is_live, partners_agree, links_are_marked, floors_are_kept, limits_are_started, role_is_kept, pairs_are_kept, keeps_rules, fits, all_fit}
use Rattle.zb_model.specs.Judging.{reject, need, judge_net, judge_nwk, candidates, judge_aps}
use Rattle.zb_model.specs.OwnEvents.{say, knock, rejoin, request_key, verify_key, member_timer, ask, tell, child_of_router, child_of_centre, next_member, is_unfinished, centre_timer, provision, remove_device, roll, switch_over, again, share, own}
use Rattle.zb_model.specs.Readings.{speaker, after, heard_line, state_of, is_up, air, draws_used, commits_of, stations_of}
use Rattle.zb_model.specs.Record.{record_of, edit_bytes, payload}
use Rattle.zb_model.specs.Rules.{refuse_if, found_or, choose, station_of, station_at, centre_of, short_of, spent, both_spent, drop_partner, drop_others, drop_old}
use Rattle.zb_model.specs.Secrets.{carried, terms_of, a_round, rounds, exposed, centre_in, ever, removed_devices, outside, network_keys, each_line, same_term, bases, codes_of, came_by, ideal_line, ideal, passes_on, private}
use Rattle.zb_model.specs.State.{active_row, usable_nets, usable_active, newest, usable_of, live_of, current, offered, is_live, is_known, is_told, code_row, other_user, pair_of, next_counter, stored_limit, sender_floor, applied, applied_all, after_sealing, after_counting, after_hearing, after_accepting, after_boot, shown, with_given_net, with_given_link, with_declared}
use Rattle.zb_model.specs.Tools.{sealing_key}
use Rattle.zb_model.proofs.Toy.{x, toy}
use Rattle.law_worked_runs.proofs.Terms.{term}

abbrev c_station : Station
c_station =
    record { name = x "63"; eui = 5149012952875009; short = 0; role = Role.Centre; out_block = 4; in_block = 2 }

abbrev d_station : Station
d_station =
    record { name = x "64"; eui = 5149012952875010; short = 6699; role = Role.Device; out_block = 4; in_block = 2 }

abbrev schedule : Schedule
schedule = record {
  nodes =
      record {
        station = c_station;
        code = None;
        network = Some (x "000102030405060708090A0B0C0D0E0F", 0);
        start_nwk = 0;
        start_aps = 0;
      }
      ∷ record {
        station = d_station;
        code = None;
        network = Some (x "000102030405060708090A0B0C0D0E0F", 0);
        start_nwk = 0;
        start_aps = 0;
      } ∷ [];
  draws = [];
  events =
      ArmStop 5149012952875009 1 (x "FF") ∷
      Own 5149012952875009 (SayTo 6699 ([])) ∷
      PowerOn 5149012952875009 ∷
      Own 5149012952875009 (SayTo 6699 ([])) ∷
      [];
}

abbrev lines : List Line
lines =
    Declared c_station ∷
    Declared d_station ∷
    GivenNet 5149012952875009 (x "000102030405060708090A0B0C0D0E0F") 0 ∷
    GivenNet 5149012952875010 (x "000102030405060708090A0B0C0D0E0F") 0 ∷
    Stopped 2 5149012952875009 ∷
    Boot 3 5149012952875009 ∷
    Changed 4 5149012952875009 (Reserve Nwk 4) ∷
    Commit 4 5149012952875009 ∷
    Seal 4 5149012952875009
    (term Nwk (x "000102030405060708090A0B0C0D0E0F") ForNetwork 5149012952875009 0 45
    (x "08022B1A00001E002D0000000001000000004B120000") (x "0001000004010100")) ∷
    Send 4 (Some 5149012952875009) 1 (x "08022B1A00001E00280000000001000000004B120000000100000401010000010203") ∷
    End 4 1 0 0 true true ∷
    []

stop_before_commit : transcript toy schedule ≡ lines
unfolding toy plan_of part_of may_seal out_of edits_of answer_by reserve_of stored_floor floor_of counting_of answer
    answered take_net_key take_row take_link_key take_app_key take_switch take_confirm take_remove take_tunnel
    take_update take_request take_app_request take_verify take_command take_leave rows_have_room keys_differ
    at_most_two_live active_is_live partners_agree links_are_marked floors_are_kept limits_are_started role_is_kept
    pairs_are_kept keeps_rules fits all_fit reject need judge_net judge_nwk candidates judge_aps say knock rejoin
    request_key verify_key member_timer ask tell child_of_router child_of_centre next_member is_unfinished
    centre_timer provision remove_device roll switch_over again share own start disk_of with_disk stands leaves_both
    stored_lines told_lines group_of cut_of setting_of supply task_step forged_net forged_both forged_open step_by
    step groups speaker after heard_line state_of is_up air draws_used commits_of stations_of record_of edit_bytes
    payload refuse_if found_or choose station_of station_at centre_of short_of spent both_spent drop_partner
    drop_others drop_old carried terms_of a_round rounds exposed centre_in ever removed_devices outside network_keys
    each_line same_term bases codes_of came_by ideal_line ideal passes_on private active_row usable_nets usable_active
    newest usable_of live_of current offered is_live is_known is_told code_row other_user pair_of next_counter
    stored_limit sender_floor applied applied_all after_sealing after_counting after_hearing after_accepting
    after_boot shown with_given_net with_given_link with_declared sealing_key end_line run_lines transcript
stop_before_commit = refl
