-- A rollover ends. In the worked run the centre has what is asked of it, and ends the rollover as the laws say.
use Rattle.std.specs.Prelude.{◌≡◌, Bool, true, false, [], ◌∷◌, ◌++◌, length, refl}
use Rattle.std.proofs.Math.Path.{subst}
use Rattle.law_recovery.proofs.Instances.Worked.{w, c, d, confirmed}
use Rattle.std.specs.Prelude.{◌||◌, is_some, nat_eq}
use Rattle.std.proofs.Common.{inl, inr, eqb-true}
use Rattle.zb_model.specs.Data.{Bytes, Draw, Install, Roll, Moved}
use Rattle.zb_model.specs.State.{greatest_counter}
use Rattle.zb_model.specs.Lines.{Changed, Commit}
use Rattle.law_recovery.specs.Answering.{after_task}
use Rattle.law_recovery.specs.Fronts.{Front, IsReady, after_event, after_events}
use Rattle.law_recovery.specs.Rolled.{EndsRolled, rollover_events}
use Rattle.law_recovery.specs.Rollovers.{EndsAfter, HasCounters, IsRolling, LacksCounters, SpentWithin, each_once, untold}
use Rattle.zb_model.specs.Answer.{plan_of, part_of, may_seal, out_of, edits_of, answer_by, reserve_of, stored_floor, floor_of, counting_of, answer, answered}
use Rattle.zb_model.specs.Commands.{take_net_key, take_row, take_link_key, take_app_key, take_switch, take_confirm, take_remove, take_tunnel, take_update, take_request, take_app_request, take_verify, take_command, take_leave}
use Rattle.zb_model.specs.Fits.{rows_have_room, keys_differ, at_most_two_live, active_is_live, partners_agree, links_are_marked, floors_are_kept, limits_are_started, role_is_kept, pairs_are_kept, keeps_rules, fits, all_fit}
use Rattle.zb_model.specs.Judging.{reject, need, judge_net, judge_nwk, candidates, judge_aps}
use Rattle.zb_model.specs.OwnEvents.{say, knock, rejoin, request_key, verify_key, member_timer, ask, tell, child_of_router, child_of_centre, next_member, is_unfinished, centre_timer, provision, remove_device, roll, switch_over, again, share, own}
use Rattle.zb_model.specs.Play.{RollOver, start, disk_of, with_disk, stands, leaves_both, stored_lines, told_lines, group_of, cut_of, setting_of, supply, task_step, step_by, step}
use Rattle.zb_model.specs.Readings.{speaker, after, heard_line, state_of, is_up, air, draws_used, commits_of, stations_of}
use Rattle.zb_model.specs.Rules.{Setting, refuse_if, found_or, choose, station_of, station_at, centre_of, short_of, spent, both_spent, drop_partner, drop_others, drop_old}
use Rattle.zb_model.specs.State.{NodeState, active_row, usable_nets, usable_active, newest, usable_of, live_of, current, offered, is_live, is_known, is_told, code_row, other_user, pair_of, next_counter, stored_limit, sender_floor, applied, applied_all, after_sealing, after_counting, after_hearing, after_accepting, after_boot, shown, with_given_net, with_given_link, with_declared}
use Rattle.zb_model.specs.Tools.{sealing_key}
use Rattle.zb_model.proofs.Toy.{x, toy}
use Rattle.std.proofs.lemmas.Bool.{ltb-true, leb-true}

abbrev centre : Setting
centre = setting_of w c

-- the centre drew a network key, and is to tell the device
abbrev rolling : Front
rolling = record {
  lines = confirmed.lines ++ (
      Changed 11 c (Moved (Draw second)) ∷
      Changed 11 c (Moved (Install second 1)) ∷
      Changed 11 c (Moved (Roll true)) ∷
      Commit 11 c ∷
      []);
  disks = [];
  number = 12;
}
  where
    second : Bytes
    second = x "B0B1B2B3B4B5B6B7B8B9BABBBCBDBEBF"

rolls : rolling ≡ after_event toy w confirmed (RollOver c)
unfolding toy plan_of part_of may_seal out_of edits_of answer_by reserve_of stored_floor floor_of counting_of answer
    answered take_net_key take_row take_link_key take_app_key take_switch take_confirm take_remove take_tunnel
    take_update take_request take_app_request take_verify take_command take_leave rows_have_room keys_differ
    at_most_two_live active_is_live partners_agree links_are_marked floors_are_kept limits_are_started role_is_kept
    pairs_are_kept keeps_rules fits all_fit reject need judge_net judge_nwk candidates judge_aps say knock rejoin
    request_key verify_key member_timer ask tell child_of_router child_of_centre next_member is_unfinished
    centre_timer provision remove_device roll switch_over again share own start disk_of with_disk stands leaves_both
    stored_lines told_lines group_of cut_of setting_of supply task_step step_by step speaker after heard_line
    state_of is_up air draws_used commits_of stations_of refuse_if found_or choose station_of station_at centre_of
    short_of spent both_spent drop_partner drop_others drop_old active_row usable_nets usable_active newest
    usable_of live_of current offered is_live is_known is_told code_row other_user pair_of next_counter stored_limit
    sender_floor applied applied_all after_sealing after_counting after_hearing after_accepting after_boot shown
    with_given_net with_given_link with_declared sealing_key after_event
rolls = refl

at_most : (b : Bool) → (b || false) ≡ true → b ≡ true
at_most true live = refl
at_most false live = live

unfoldable is_rolling : IsRolling (state_of rolling.lines c)
unfolding toy plan_of part_of may_seal out_of edits_of answer_by reserve_of stored_floor floor_of counting_of answer
    answered take_net_key take_row take_link_key take_app_key take_switch take_confirm take_remove take_tunnel
    take_update take_request take_app_request take_verify take_command take_leave rows_have_room keys_differ
    at_most_two_live active_is_live partners_agree links_are_marked floors_are_kept limits_are_started role_is_kept
    pairs_are_kept keeps_rules fits all_fit reject need judge_net judge_nwk candidates judge_aps say knock rejoin
    request_key verify_key member_timer ask tell child_of_router child_of_centre next_member is_unfinished
    centre_timer provision remove_device roll switch_over again share own start disk_of with_disk stands leaves_both
    stored_lines told_lines group_of cut_of setting_of supply task_step step_by step speaker after heard_line
    state_of is_up air draws_used commits_of stations_of refuse_if found_or choose station_of station_at centre_of
    short_of spent both_spent drop_partner drop_others drop_old active_row usable_nets usable_active newest
    usable_of live_of current offered is_live is_known is_told code_row other_user pair_of next_counter stored_limit
    sender_floor applied applied_all after_sealing after_counting after_hearing after_accepting after_boot shown
    with_given_net with_given_link with_declared sealing_key after_event
is_rolling = record {
  sending = refl;
  active_key = refl;
  newest_key = refl;
  link_keys = λ device live. subst (λ n. is_some (current (state_of rolling.lines c) n) ≡ true)
      (eqb-true d device (at_most (nat_eq d device) live)) refl;
}

-- Instance of a_rollover_ends_in_a_run.
record EndsRolledCase : Type 0 where
  ready : IsReady rolling c
  under_way : IsRolling (state_of rolling.lines c)
  counters : HasCounters (state_of rolling.lines c) (length (untold (state_of rolling.lines c)))
  ends : EndsRolled (after_events toy w rolling (rollover_events c (length (untold (state_of rolling.lines c))))) c

ends_rolled : EndsRolledCase
unfolding toy plan_of part_of may_seal out_of edits_of answer_by reserve_of stored_floor floor_of counting_of answer
    answered take_net_key take_row take_link_key take_app_key take_switch take_confirm take_remove take_tunnel
    take_update take_request take_app_request take_verify take_command take_leave rows_have_room keys_differ
    at_most_two_live active_is_live partners_agree links_are_marked floors_are_kept limits_are_started role_is_kept
    pairs_are_kept keeps_rules fits all_fit reject need judge_net judge_nwk candidates judge_aps say knock rejoin
    request_key verify_key member_timer ask tell child_of_router child_of_centre next_member is_unfinished
    centre_timer provision remove_device roll switch_over again share own start disk_of with_disk stands leaves_both
    stored_lines told_lines group_of cut_of setting_of supply task_step step_by step speaker after heard_line
    state_of is_up air draws_used commits_of stations_of refuse_if found_or choose station_of station_at centre_of
    short_of spent both_spent drop_partner drop_others drop_old active_row usable_nets usable_active newest
    usable_of live_of current offered is_live is_known is_told code_row other_user pair_of next_counter stored_limit
    sender_floor applied applied_all after_sealing after_counting after_hearing after_accepting after_boot shown
    with_given_net with_given_link with_declared sealing_key after_event untold each_once rollover_events
ends_rolled = record {
  ready = record { up = refl; unarmed = refl };
  under_way = is_rolling;
  counters = record { nwk = ltb-true _ _ refl; aps = leb-true _ _ refl };
  ends = record { over = refl; ready = record { up = refl; unarmed = refl } };
}

-- Instance of a_rollover_ends.
record EndsCase : Type 0 where
  under_way : IsRolling (state_of rolling.lines c)
  counters : HasCounters (state_of rolling.lines c) (length (untold (state_of rolling.lines c)))
  ends : EndsAfter toy centre (length (untold (state_of rolling.lines c))) (state_of rolling.lines c)

ends : EndsCase
unfolding toy plan_of part_of may_seal out_of edits_of answer_by reserve_of stored_floor floor_of counting_of answer
    answered take_net_key take_row take_link_key take_app_key take_switch take_confirm take_remove take_tunnel
    take_update take_request take_app_request take_verify take_command take_leave rows_have_room keys_differ
    at_most_two_live active_is_live partners_agree links_are_marked floors_are_kept limits_are_started role_is_kept
    pairs_are_kept keeps_rules fits all_fit reject need judge_net judge_nwk candidates judge_aps say knock rejoin
    request_key verify_key member_timer ask tell child_of_router child_of_centre next_member is_unfinished
    centre_timer provision remove_device roll switch_over again share own start disk_of with_disk stands leaves_both
    stored_lines told_lines group_of cut_of setting_of supply task_step step_by step speaker after heard_line
    state_of is_up air draws_used commits_of stations_of refuse_if found_or choose station_of station_at centre_of
    short_of spent both_spent drop_partner drop_others drop_old active_row usable_nets usable_active newest
    usable_of live_of current offered is_live is_known is_told code_row other_user pair_of next_counter stored_limit
    sender_floor applied applied_all after_sealing after_counting after_hearing after_accepting after_boot shown
    with_given_net with_given_link with_declared sealing_key after_event untold each_once after_task
ends = record {
  under_way = is_rolling;
  counters = record { nwk = ltb-true _ _ refl; aps = leb-true _ _ refl };
  ends = (
    record { device = d; is_next = refl; taken = refl; sent = refl; others = refl },
    record { all_told = refl; taken = refl; sent = refl; over = refl; switched = refl },
  );
}

-- the same centre, whose APS counter is at its end
abbrev spent_centre : NodeState
spent_centre = record (state_of rolling.lines c) { aps_next = greatest_counter }

-- Instance of a_rollover_stops_at_a_spent_counter.
record StopsCase : Type 0 where
  under_way : IsRolling spent_centre
  lacks : LacksCounters spent_centre (length (untold spent_centre))
  spent : SpentWithin toy centre (length (untold spent_centre)) spent_centre

stops : StopsCase
unfolding toy plan_of part_of may_seal out_of edits_of answer_by reserve_of stored_floor floor_of counting_of answer
    answered take_net_key take_row take_link_key take_app_key take_switch take_confirm take_remove take_tunnel
    take_update take_request take_app_request take_verify take_command take_leave rows_have_room keys_differ
    at_most_two_live active_is_live partners_agree links_are_marked floors_are_kept limits_are_started role_is_kept
    pairs_are_kept keeps_rules fits all_fit reject need judge_net judge_nwk candidates judge_aps say knock rejoin
    request_key verify_key member_timer ask tell child_of_router child_of_centre next_member is_unfinished
    centre_timer provision remove_device roll switch_over again share own start disk_of with_disk stands leaves_both
    stored_lines told_lines group_of cut_of setting_of supply task_step step_by step speaker after heard_line
    state_of is_up air draws_used commits_of stations_of refuse_if found_or choose station_of station_at centre_of
    short_of spent both_spent drop_partner drop_others drop_old active_row usable_nets usable_active newest
    usable_of live_of current offered is_live is_known is_told code_row other_user pair_of next_counter stored_limit
    sender_floor applied applied_all after_sealing after_counting after_hearing after_accepting after_boot shown
    with_given_net with_given_link with_declared sealing_key after_event untold each_once after_task
stops = record {
  under_way = record {
    sending = refl;
    active_key = refl;
    newest_key = refl;
    link_keys = λ device live. subst (λ n. is_some (current spent_centre n) ≡ true)
        (eqb-true d device (at_most (nat_eq d device) live)) refl;
  };
  lacks = inr (leb-true _ _ refl, ltb-true _ _ refl);
  spent = inl refl;
}
