-- Joining and rejoining, event by event. In the worked run each event finds what its law asks, and leads to what
-- the law says.
use Rattle.std.specs.Prelude.{◌≡◌, true, [], ◌∷◌, ◌++◌, Some, None, refl}
use Rattle.std.proofs.Math.Path.{subst}
use Rattle.law_recovery.proofs.Instances.Worked.{w, c, d, network, code, knocked, joined, confirmed}
use Rattle.std.proofs.Common.{inl}
use Rattle.zb_model.specs.Data.{Task, Aps, HasChild, Received}
use Rattle.zb_model.specs.Lines.{Boot, DownReset}
use Rattle.law_recovery.specs.Answering.{after_task, frame_of}
use Rattle.law_recovery.specs.Fronts.{after_event}
use Rattle.law_recovery.specs.Joining.{AreIntroduced, Joins}
use Rattle.law_recovery.specs.KeyFrames.{KeyFrameInRange, key_bytes}
use Rattle.law_recovery.specs.Knowing.{MeetsKey}
use Rattle.law_recovery.specs.Meeting.{IsJoined}
use Rattle.law_recovery.specs.Rejoining.{AreLinked, AreOfOneNetwork, Rejoins, answer_frame, may_rejoin, why_not_sent, why_not_taken}
use Rattle.law_recovery.specs.Repeating.{AreTaken, repeated}
use Rattle.zb_model.specs.Answer.{plan_of, part_of, may_seal, out_of, edits_of, answer_by, reserve_of, stored_floor, floor_of, counting_of, answer, answered}
use Rattle.zb_model.specs.Commands.{take_net_key, take_row, take_link_key, take_app_key, take_switch, take_confirm, take_remove, take_tunnel, take_update, take_request, take_app_request, take_verify, take_command, take_leave}
use Rattle.zb_model.specs.Fits.{rows_have_room, keys_differ, at_most_two_live, active_is_live, partners_agree, links_are_marked, floors_are_kept, limits_are_started, role_is_kept, pairs_are_kept, keeps_rules, fits, all_fit}
use Rattle.zb_model.specs.Judging.{reject, need, judge_net, judge_nwk, candidates, judge_aps}
use Rattle.zb_model.specs.OwnEvents.{say, knock, rejoin, request_key, verify_key, member_timer, ask, tell, child_of_router, child_of_centre, next_member, is_unfinished, centre_timer, provision, remove_device, roll, switch_over, again, share, own}
use Rattle.zb_model.specs.Play.{start, disk_of, with_disk, stands, leaves_both, stored_lines, told_lines, group_of, cut_of, setting_of, supply, task_step, step_by, step}
use Rattle.zb_model.specs.Readings.{speaker, after, heard_line, state_of, is_up, air, draws_used, commits_of, stations_of}
use Rattle.zb_model.specs.Rules.{Setting, refuse_if, found_or, choose, station_of, station_at, centre_of, short_of, spent, both_spent, drop_partner, drop_others, drop_old}
use Rattle.zb_model.specs.State.{NodeState, active_row, usable_nets, usable_active, newest, usable_of, live_of, current, offered, is_live, is_known, is_told, code_row, other_user, pair_of, next_counter, stored_limit, sender_floor, applied, applied_all, after_sealing, after_counting, after_hearing, after_accepting, after_boot, shown, with_given_net, with_given_link, with_declared}
use Rattle.zb_model.specs.Tools.{sealing_key}
use Rattle.zb_model.proofs.Toy.{toy}
use Rattle.std.proofs.lemmas.Bool.{ltb-true, leb-true}

abbrev centre : Setting
centre = setting_of w c

abbrev device : Setting
device = setting_of w d

of_one_network : AreOfOneNetwork centre device
unfolding toy plan_of part_of may_seal out_of edits_of answer_by reserve_of stored_floor floor_of counting_of answer
    answered take_net_key take_row take_link_key take_app_key take_switch take_confirm take_remove take_tunnel
    take_update take_request take_app_request take_verify take_command take_leave rows_have_room keys_differ
    at_most_two_live active_is_live partners_agree links_are_marked floors_are_kept limits_are_started role_is_kept
    pairs_are_kept keeps_rules fits all_fit reject need judge_net judge_nwk candidates judge_aps say knock rejoin
    request_key verify_key member_timer ask tell child_of_router child_of_centre next_member is_unfinished
    centre_timer provision remove_device roll switch_over again share own start disk_of with_disk stands leaves_both
    stored_lines told_lines group_of cut_of setting_of supply task_step step_by step speaker after heard_line
    state_of is_up air draws_used commits_of stations_of refuse_if found_or choose station_of station_at centre_of
    short_of spent both_spent drop_partner drop_others drop_old active_row usable_nets usable_active newest
    usable_of live_of current offered is_live is_known is_told code_row other_user pair_of next_counter stored_limit
    sender_floor applied applied_all after_sealing after_counting after_hearing after_accepting after_boot shown
    with_given_net with_given_link with_declared sealing_key after_event
of_one_network = record {
  centre_role = refl;
  member_role = refl;
  centre_known = refl;
  short_known = refl;
  shorts_differ = refl;
  in_block = leb-true _ _ refl;
}

-- ---- the device knocked

unfoldable introduced : AreIntroduced centre device (state_of knocked.lines c) (state_of knocked.lines d)
unfolding toy plan_of part_of may_seal out_of edits_of answer_by reserve_of stored_floor floor_of counting_of answer
    answered take_net_key take_row take_link_key take_app_key take_switch take_confirm take_remove take_tunnel
    take_update take_request take_app_request take_verify take_command take_leave rows_have_room keys_differ
    at_most_two_live active_is_live partners_agree links_are_marked floors_are_kept limits_are_started role_is_kept
    pairs_are_kept keeps_rules fits all_fit reject need judge_net judge_nwk candidates judge_aps say knock rejoin
    request_key verify_key member_timer ask tell child_of_router child_of_centre next_member is_unfinished
    centre_timer provision remove_device roll switch_over again share own start disk_of with_disk stands leaves_both
    stored_lines told_lines group_of cut_of setting_of supply task_step step_by step speaker after heard_line
    state_of is_up air draws_used commits_of stations_of refuse_if found_or choose station_of station_at centre_of
    short_of spent both_spent drop_partner drop_others drop_old active_row usable_nets usable_active newest
    usable_of live_of current offered is_live is_known is_told code_row other_user pair_of next_counter stored_limit
    sender_floor applied applied_all after_sealing after_counting after_hearing after_accepting after_boot shown
    with_given_net with_given_link with_declared sealing_key after_event
introduced =
    record {
      net = _;
      active_key = refl;
      row = _;
      at_centre = refl;
      own = _;
      at_device = refl;
      same_key = refl;
      provisional = refl;
      no_offer = refl;
      knocked = refl;
    }

abbrev joins_by : Task
joins_by =
    Received (key_bytes toy (answer_frame centre device (state_of knocked.lines c) introduced.net introduced.row))
    None

takes_it : state_of joined.lines d ≡ after_task toy device (state_of knocked.lines d) joins_by
unfolding toy plan_of part_of may_seal out_of edits_of answer_by reserve_of stored_floor floor_of counting_of answer
    answered take_net_key take_row take_link_key take_app_key take_switch take_confirm take_remove take_tunnel
    take_update take_request take_app_request take_verify take_command take_leave rows_have_room keys_differ
    at_most_two_live active_is_live partners_agree links_are_marked floors_are_kept limits_are_started role_is_kept
    pairs_are_kept keeps_rules fits all_fit reject need judge_net judge_nwk candidates judge_aps say knock rejoin
    request_key verify_key member_timer ask tell child_of_router child_of_centre next_member is_unfinished
    centre_timer provision remove_device roll switch_over again share own start disk_of with_disk stands leaves_both
    stored_lines told_lines group_of cut_of setting_of supply task_step step_by step speaker after heard_line
    state_of is_up air draws_used commits_of stations_of refuse_if found_or choose station_of station_at centre_of
    short_of spent both_spent drop_partner drop_others drop_old active_row usable_nets usable_active newest
    usable_of live_of current offered is_live is_known is_told code_row other_user pair_of next_counter stored_limit
    sender_floor applied applied_all after_sealing after_counting after_hearing after_accepting after_boot shown
    with_given_net with_given_link with_declared sealing_key after_event introduced after_task
takes_it = refl

-- Instance of a_device_joins_for_the_exchange, a_device_joins_with_a_key_that_it_meets.
record JoinsForTheExchangeCase : Type 0 where
  in_range : KeyFrameInRange (answer_frame centre device (state_of knocked.lines c) introduced.net introduced.row)
  one_network : AreOfOneNetwork centre device
  are_introduced : AreIntroduced centre device (state_of knocked.lines c) (state_of knocked.lines d)
  meets : MeetsKey (state_of knocked.lines d) network 0
  free : why_not_taken (state_of knocked.lines d) introduced.own 0 network ≡ None
  have_joined : IsJoined (after_task toy device (state_of knocked.lines d) joins_by) c network 0 code

joins_for_the_exchange : JoinsForTheExchangeCase
unfolding toy plan_of part_of may_seal out_of edits_of answer_by reserve_of stored_floor floor_of counting_of answer
    answered take_net_key take_row take_link_key take_app_key take_switch take_confirm take_remove take_tunnel
    take_update take_request take_app_request take_verify take_command take_leave rows_have_room keys_differ
    at_most_two_live active_is_live partners_agree links_are_marked floors_are_kept limits_are_started role_is_kept
    pairs_are_kept keeps_rules fits all_fit reject need judge_net judge_nwk candidates judge_aps say knock rejoin
    request_key verify_key member_timer ask tell child_of_router child_of_centre next_member is_unfinished
    centre_timer provision remove_device roll switch_over again share own start disk_of with_disk stands leaves_both
    stored_lines told_lines group_of cut_of setting_of supply task_step step_by step speaker after heard_line
    state_of is_up air draws_used commits_of stations_of refuse_if found_or choose station_of station_at centre_of
    short_of spent both_spent drop_partner drop_others drop_old active_row usable_nets usable_active newest
    usable_of live_of current offered is_live is_known is_told code_row other_user pair_of next_counter stored_limit
    sender_floor applied applied_all after_sealing after_counting after_hearing after_accepting after_boot shown
    with_given_net with_given_link with_declared sealing_key after_event introduced why_not_taken
joins_for_the_exchange = record {
  in_range = record {
    key = refl;
    sequence = ltb-true _ _ refl;
    device = ltb-true _ _ refl;
    centre = ltb-true _ _ refl;
    to = ltb-true _ _ refl;
    from = ltb-true _ _ refl;
    link = refl;
    counter = ltb-true _ _ refl;
  };
  one_network = of_one_network;
  are_introduced = introduced;
  meets = inl refl;
  free = refl;
  have_joined = subst (λ t. IsJoined t c network 0 code) takes_it
      (record {
        network = record {
          active = _;
          is_active = refl;
          active_key = refl;
          active_sequence = refl;
          found = _;
          is_found = refl;
          found_key = refl;
        };
        joined = refl;
        keys = record { row = _; is_current = refl; row_key = refl; none_offered = refl };
      });
}

-- Instance of a_device_joins.
record JoinsCase : Type 0 where
  in_range : KeyFrameInRange (answer_frame centre device (state_of knocked.lines c) introduced.net introduced.row)
  one_network : AreOfOneNetwork centre device
  are_introduced : AreIntroduced centre device (state_of knocked.lines c) (state_of knocked.lines d)
  joins : Joins toy centre device (state_of knocked.lines c) (state_of knocked.lines d) None

joins : JoinsCase
unfolding toy plan_of part_of may_seal out_of edits_of answer_by reserve_of stored_floor floor_of counting_of answer
    answered take_net_key take_row take_link_key take_app_key take_switch take_confirm take_remove take_tunnel
    take_update take_request take_app_request take_verify take_command take_leave rows_have_room keys_differ
    at_most_two_live active_is_live partners_agree links_are_marked floors_are_kept limits_are_started role_is_kept
    pairs_are_kept keeps_rules fits all_fit reject need judge_net judge_nwk candidates judge_aps say knock rejoin
    request_key verify_key member_timer ask tell child_of_router child_of_centre next_member is_unfinished
    centre_timer provision remove_device roll switch_over again share own start disk_of with_disk stands leaves_both
    stored_lines told_lines group_of cut_of setting_of supply task_step step_by step speaker after heard_line
    state_of is_up air draws_used commits_of stations_of refuse_if found_or choose station_of station_at centre_of
    short_of spent both_spent drop_partner drop_others drop_old active_row usable_nets usable_active newest
    usable_of live_of current offered is_live is_known is_told code_row other_user pair_of next_counter stored_limit
    sender_floor applied applied_all after_sealing after_counting after_hearing after_accepting after_boot shown
    with_given_net with_given_link with_declared sealing_key after_event introduced after_task
joins = record {
  in_range = record {
    key = refl;
    sequence = ltb-true _ _ refl;
    device = ltb-true _ _ refl;
    centre = ltb-true _ _ refl;
    to = ltb-true _ _ refl;
    from = ltb-true _ _ refl;
    link = refl;
    counter = ltb-true _ _ refl;
  };
  one_network = of_one_network;
  are_introduced = introduced;
  joins = record {
    frame = _;
    sent = refl;
    taken = refl;
    key = _;
    active_key = refl;
    ends = record { joined = refl; active_key = refl; live_key = refl };
  };
}

-- ---- the device is a member

unfoldable linked : AreLinked centre device (state_of confirmed.lines c) (state_of confirmed.lines d)
unfolding toy plan_of part_of may_seal out_of edits_of answer_by reserve_of stored_floor floor_of counting_of answer
    answered take_net_key take_row take_link_key take_app_key take_switch take_confirm take_remove take_tunnel
    take_update take_request take_app_request take_verify take_command take_leave rows_have_room keys_differ
    at_most_two_live active_is_live partners_agree links_are_marked floors_are_kept limits_are_started role_is_kept
    pairs_are_kept keeps_rules fits all_fit reject need judge_net judge_nwk candidates judge_aps say knock rejoin
    request_key verify_key member_timer ask tell child_of_router child_of_centre next_member is_unfinished
    centre_timer provision remove_device roll switch_over again share own start disk_of with_disk stands leaves_both
    stored_lines told_lines group_of cut_of setting_of supply task_step step_by step speaker after heard_line
    state_of is_up air draws_used commits_of stations_of refuse_if found_or choose station_of station_at centre_of
    short_of spent both_spent drop_partner drop_others drop_old active_row usable_nets usable_active newest
    usable_of live_of current offered is_live is_known is_told code_row other_user pair_of next_counter stored_limit
    sender_floor applied applied_all after_sealing after_counting after_hearing after_accepting after_boot shown
    with_given_net with_given_link with_declared sealing_key after_event
linked =
    record {
      net = _;
      active_key = refl;
      row = _;
      at_centre = refl;
      own = _;
      at_member = refl;
      same_key = refl;
      verified = refl;
      no_offer = refl;
    }

-- Instance of the_centre_answers_a_child, a_waiting_member_takes_the_network_key, a_member_rejoins.
record RejoinsCase : Type 0 where
  in_range : KeyFrameInRange (answer_frame centre device (state_of confirmed.lines c) linked.net linked.row)
  one_network : AreOfOneNetwork centre device
  are_linked : AreLinked centre device (state_of confirmed.lines c) (state_of confirmed.lines d)
  may : may_rejoin (state_of confirmed.lines d) ≡ true
  free : why_not_sent (state_of confirmed.lines c) d ≡ None
  then_free : why_not_taken (state_of confirmed.lines d) linked.own (next_counter Aps
      (state_of confirmed.lines c)) linked.net.key ≡ None
  sent : frame_of toy centre (state_of confirmed.lines c) (HasChild d true) ≡ Some (key_bytes toy
      (answer_frame centre device (state_of confirmed.lines c) linked.net linked.row))
  rejoins : Rejoins toy centre device (state_of confirmed.lines c) (state_of confirmed.lines d) None

rejoins : RejoinsCase
unfolding toy plan_of part_of may_seal out_of edits_of answer_by reserve_of stored_floor floor_of counting_of answer
    answered take_net_key take_row take_link_key take_app_key take_switch take_confirm take_remove take_tunnel
    take_update take_request take_app_request take_verify take_command take_leave rows_have_room keys_differ
    at_most_two_live active_is_live partners_agree links_are_marked floors_are_kept limits_are_started role_is_kept
    pairs_are_kept keeps_rules fits all_fit reject need judge_net judge_nwk candidates judge_aps say knock rejoin
    request_key verify_key member_timer ask tell child_of_router child_of_centre next_member is_unfinished
    centre_timer provision remove_device roll switch_over again share own start disk_of with_disk stands leaves_both
    stored_lines told_lines group_of cut_of setting_of supply task_step step_by step speaker after heard_line
    state_of is_up air draws_used commits_of stations_of refuse_if found_or choose station_of station_at centre_of
    short_of spent both_spent drop_partner drop_others drop_old active_row usable_nets usable_active newest
    usable_of live_of current offered is_live is_known is_told code_row other_user pair_of next_counter stored_limit
    sender_floor applied applied_all after_sealing after_counting after_hearing after_accepting after_boot shown
    with_given_net with_given_link with_declared sealing_key after_event linked after_task why_not_sent
    why_not_taken
rejoins = record {
  in_range = record {
    key = refl;
    sequence = ltb-true _ _ refl;
    device = ltb-true _ _ refl;
    centre = ltb-true _ _ refl;
    to = ltb-true _ _ refl;
    from = ltb-true _ _ refl;
    link = refl;
    counter = ltb-true _ _ refl;
  };
  one_network = of_one_network;
  are_linked = linked;
  may = refl;
  free = refl;
  then_free = refl;
  sent = refl;
  rejoins = record {
    waits = refl;
    frame = _;
    sent = refl;
    taken = refl;
    key = _;
    active_key = refl;
    ends = record { confirmed = refl; active_key = refl; live_key = refl };
  };
}

-- the member was booted, so its floor is above the centre's counter
abbrev booted : NodeState
booted = state_of (confirmed.lines ++ (DownReset 11 d ∷ Boot 12 d ∷ [])) d

unfoldable still_linked : AreLinked centre device (state_of confirmed.lines c) booted
unfolding toy plan_of part_of may_seal out_of edits_of answer_by reserve_of stored_floor floor_of counting_of answer
    answered take_net_key take_row take_link_key take_app_key take_switch take_confirm take_remove take_tunnel
    take_update take_request take_app_request take_verify take_command take_leave rows_have_room keys_differ
    at_most_two_live active_is_live partners_agree links_are_marked floors_are_kept limits_are_started role_is_kept
    pairs_are_kept keeps_rules fits all_fit reject need judge_net judge_nwk candidates judge_aps say knock rejoin
    request_key verify_key member_timer ask tell child_of_router child_of_centre next_member is_unfinished
    centre_timer provision remove_device roll switch_over again share own start disk_of with_disk stands leaves_both
    stored_lines told_lines group_of cut_of setting_of supply task_step step_by step speaker after heard_line
    state_of is_up air draws_used commits_of stations_of refuse_if found_or choose station_of station_at centre_of
    short_of spent both_spent drop_partner drop_others drop_old active_row usable_nets usable_active newest
    usable_of live_of current offered is_live is_known is_told code_row other_user pair_of next_counter stored_limit
    sender_floor applied applied_all after_sealing after_counting after_hearing after_accepting after_boot shown
    with_given_net with_given_link with_declared sealing_key after_event
still_linked =
    record {
      net = _;
      active_key = refl;
      row = _;
      at_centre = refl;
      own = _;
      at_member = refl;
      same_key = refl;
      verified = refl;
      no_offer = refl;
    }

-- Instance of a_stale_answer_is_repeated.
record IsRepeatedCase : Type 0 where
  in_range : KeyFrameInRange (answer_frame centre device
      (state_of confirmed.lines c) still_linked.net still_linked.row)
  one_network : AreOfOneNetwork centre device
  are_linked : AreLinked centre device (state_of confirmed.lines c) booted
  taken : AreTaken toy centre d 3 (state_of confirmed.lines c)
  rejoins : Rejoins toy centre device (repeated toy centre d 3 (state_of confirmed.lines c)) booted None

is_repeated : IsRepeatedCase
unfolding toy plan_of part_of may_seal out_of edits_of answer_by reserve_of stored_floor floor_of counting_of answer
    answered take_net_key take_row take_link_key take_app_key take_switch take_confirm take_remove take_tunnel
    take_update take_request take_app_request take_verify take_command take_leave rows_have_room keys_differ
    at_most_two_live active_is_live partners_agree links_are_marked floors_are_kept limits_are_started role_is_kept
    pairs_are_kept keeps_rules fits all_fit reject need judge_net judge_nwk candidates judge_aps say knock rejoin
    request_key verify_key member_timer ask tell child_of_router child_of_centre next_member is_unfinished
    centre_timer provision remove_device roll switch_over again share own start disk_of with_disk stands leaves_both
    stored_lines told_lines group_of cut_of setting_of supply task_step step_by step speaker after heard_line
    state_of is_up air draws_used commits_of stations_of refuse_if found_or choose station_of station_at centre_of
    short_of spent both_spent drop_partner drop_others drop_old active_row usable_nets usable_active newest
    usable_of live_of current offered is_live is_known is_told code_row other_user pair_of next_counter stored_limit
    sender_floor applied applied_all after_sealing after_counting after_hearing after_accepting after_boot shown
    with_given_net with_given_link with_declared sealing_key after_event still_linked after_task repeated
is_repeated = record {
  in_range = record {
    key = refl;
    sequence = ltb-true _ _ refl;
    device = ltb-true _ _ refl;
    centre = ltb-true _ _ refl;
    to = ltb-true _ _ refl;
    from = ltb-true _ _ refl;
    link = refl;
    counter = ltb-true _ _ refl;
  };
  one_network = of_one_network;
  are_linked = still_linked;
  taken = (refl, (refl, (refl, tt)));
  rejoins = record {
    waits = refl;
    frame = _;
    sent = refl;
    taken = refl;
    key = _;
    active_key = refl;
    ends = record { confirmed = refl; active_key = refl; live_key = refl };
  };
}
