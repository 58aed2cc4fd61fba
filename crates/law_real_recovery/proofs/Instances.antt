-- What the laws ask of the nodes of a schedule is met, at fronts of worked runs of the model. The schedule in words is
-- another one.
use Rattle.std.specs.Prelude.{[], ◌∷◌, refl}
use Rattle.std.proofs.Common.{inl, inr}
use Rattle.zb_model.specs.Data.{Aps, Nwk}
use Rattle.zb_model.specs.Schedules.{Names}
use Rattle.zb_sched.specs.Valid.{IsSchedule}
use Rattle.law_schedules.proofs.Instances.{p, is_schedule}
use Rattle.law_recovery.proofs.Instances.Worked.{w, c, d, network, code, drawn, knocked, joined, confirmed}
use Rattle.law_recovery.proofs.Instances.Stale.{booted, centre_booted, device_booted, keys}
use Rattle.law_recovery.proofs.Instances.Low.{all_low}
use Rattle.law_recovery.proofs.Instances.Routes as routes
use Rattle.law_recovery.proofs.Instances.Routes.{r, router_code, routed}
use Rattle.law_recovery.specs.Entering.{why_no_row}
use Rattle.law_recovery.specs.Fronts.{IsReady, after_event}
use Rattle.law_recovery.specs.KeyExchange.{NothingStops}
use Rattle.law_recovery.specs.Obstacles.{why_no_confirmation, why_no_offer, why_no_offer_again, why_not_confirmed, why_not_heard, why_not_opened, why_offer_not_kept}
use Rattle.law_recovery.specs.Rejoining.{why_not_sent, why_not_taken}
use Rattle.law_recovery.specs.Relaying.{why_no_tunnel}
use Rattle.law_recovery.specs.Rounds.{CameFromCentre}
use Rattle.law_recovery.specs.Routed.{RouteIsFree}
use Rattle.law_recovery.specs.Stages.{AreFree}
use Rattle.law_recovery.specs.Stale.{AreAnswersStale, AreStale, CameFromDevice, CameFromTheCentre}
use Rattle.law_recovery.specs.Stops.{AreInOrder, Timer}
use Rattle.law_recovery.specs.Turns.{Answered, Asking, Offering, Unanswered}
use Rattle.law_real_recovery.specs.Exchanging.{MayExchange, MayJoin}
use Rattle.law_real_recovery.specs.Readmitting.{MayReadmit}
use Rattle.law_real_recovery.specs.Repeating.{MayGoOn, MayRejoinLater}
use Rattle.law_real_recovery.specs.Routing.{MayRoute}
use Rattle.law_real_recovery.specs.Texts.{MayRejoin}
use Rattle.zb_model.specs.Answer.{plan_of, part_of, may_seal, out_of, edits_of, answer_by, reserve_of, stored_floor, floor_of, counting_of, answer, answered}
use Rattle.zb_model.specs.Commands.{take_net_key, take_row, take_link_key, take_app_key, take_switch, take_confirm, take_remove, take_tunnel, take_update, take_request, take_app_request, take_verify, take_command, take_leave}
use Rattle.zb_model.specs.Fits.{rows_have_room, keys_differ, at_most_two_live, active_is_live, partners_agree, links_are_marked, floors_are_kept, limits_are_started, role_is_kept, pairs_are_kept, keeps_rules, fits, all_fit}
use Rattle.zb_model.specs.Judging.{reject, need, judge_net, judge_nwk, candidates, judge_aps}
use Rattle.zb_model.specs.OwnEvents.{say, knock, rejoin, request_key, verify_key, member_timer, ask, tell, child_of_router, child_of_centre, next_member, is_unfinished, centre_timer, provision, remove_device, roll, switch_over, again, share, own}
use Rattle.zb_model.specs.Play.{start, disk_of, with_disk, stands, leaves_both, stored_lines, told_lines, group_of, cut_of, setting_of, supply, task_step, step_by, step}
use Rattle.zb_model.specs.Readings.{speaker, after, heard_line, state_of, is_up, air, draws_used, commits_of, stations_of}
use Rattle.zb_model.specs.Rules.{refuse_if, found_or, choose, station_of, station_at, centre_of, short_of, spent, both_spent, drop_partner, drop_others, drop_old}
use Rattle.zb_model.specs.State.{active_row, usable_nets, usable_active, newest, usable_of, live_of, current, offered, is_live, is_known, is_told, code_row, other_user, pair_of, next_counter, stored_limit, sender_floor, applied, applied_all, after_sealing, after_counting, after_hearing, after_accepting, after_boot, shown, with_given_net, with_given_link, with_declared}
use Rattle.zb_model.specs.Tools.{sealing_key}
use Rattle.zb_model.proofs.Toy.{toy}
use Rattle.std.proofs.lemmas.Bool.{ltb-true}

unfoldable may_exchange : MayExchange w joined c d network 0 code
unfolding toy plan_of part_of may_seal out_of edits_of answer_by reserve_of stored_floor floor_of counting_of answer
    answered take_net_key take_row take_link_key take_app_key take_switch take_confirm take_remove take_tunnel
    take_update take_request take_app_request take_verify take_command take_leave rows_have_room keys_differ
    at_most_two_live active_is_live partners_agree links_are_marked floors_are_kept limits_are_started role_is_kept
    pairs_are_kept keeps_rules fits all_fit reject need judge_net judge_nwk candidates judge_aps say knock rejoin
    request_key verify_key member_timer ask tell child_of_router child_of_centre next_member is_unfinished
    centre_timer provision remove_device roll switch_over again share own start disk_of with_disk stands leaves_both
    stored_lines told_lines group_of cut_of setting_of supply task_step step_by step speaker after heard_line
    state_of is_up air draws_used commits_of stations_of refuse_if found_or choose station_of station_at centre_of
    short_of spent both_spent drop_partner drop_others drop_old active_row usable_nets usable_active newest
    usable_of live_of current offered is_live is_known is_told code_row other_user pair_of next_counter stored_limit
    sender_floor applied applied_all after_sealing after_counting after_hearing after_accepting after_boot shown
    with_given_net with_given_link with_declared sealing_key after_event
may_exchange =
    record {
      centre_named = refl;
      device_named = refl;
      centre_role = refl;
      device_role = refl;
      centre_ready = record { up = refl; unarmed = refl };
      device_ready = record { up = refl; unarmed = refl };
      joined = record {
        device = record {
          network = record {
            active = _;
            is_active = refl;
            active_key = refl;
            active_sequence = refl;
            found = _;
            is_found = refl;
            found_key = refl;
          };
          joined = refl;
          keys = record { row = _; is_current = refl; row_key = refl; none_offered = refl };
        };
        network = record {
          active = _;
          is_active = refl;
          active_key = refl;
          active_sequence = refl;
          found = _;
          is_found = refl;
          found_key = refl;
        };
        keys = record { row = _; is_current = refl; row_key = refl; none_offered = refl };
      };
    }

unfoldable may_join : MayJoin w knocked c d
unfolding toy plan_of part_of may_seal out_of edits_of answer_by reserve_of stored_floor floor_of counting_of answer
    answered take_net_key take_row take_link_key take_app_key take_switch take_confirm take_remove take_tunnel
    take_update take_request take_app_request take_verify take_command take_leave rows_have_room keys_differ
    at_most_two_live active_is_live partners_agree links_are_marked floors_are_kept limits_are_started role_is_kept
    pairs_are_kept keeps_rules fits all_fit reject need judge_net judge_nwk candidates judge_aps say knock rejoin
    request_key verify_key member_timer ask tell child_of_router child_of_centre next_member is_unfinished
    centre_timer provision remove_device roll switch_over again share own start disk_of with_disk stands leaves_both
    stored_lines told_lines group_of cut_of setting_of supply task_step step_by step speaker after heard_line
    state_of is_up air draws_used commits_of stations_of refuse_if found_or choose station_of station_at centre_of
    short_of spent both_spent drop_partner drop_others drop_old active_row usable_nets usable_active newest
    usable_of live_of current offered is_live is_known is_told code_row other_user pair_of next_counter stored_limit
    sender_floor applied applied_all after_sealing after_counting after_hearing after_accepting after_boot shown
    with_given_net with_given_link with_declared sealing_key after_event why_not_sent why_not_taken
may_join =
    record {
      centre_named = refl;
      device_named = refl;
      centre_role = refl;
      device_role = refl;
      centre_ready = record { up = refl; unarmed = refl };
      device_ready = record { up = refl; unarmed = refl };
      introduced = record {
        net = _;
        active_key = refl;
        row = _;
        at_centre = refl;
        own = _;
        at_device = refl;
        same_key = refl;
        provisional = refl;
        no_offer = refl;
        knocked = refl;
      };
      network = record {
        active = _;
        is_active = refl;
        active_key = refl;
        active_sequence = refl;
        found = _;
        is_found = refl;
        found_key = refl;
      };
      none_offered = refl;
      key_is_new = refl;
      not_stopped = refl;
      not_refused = refl;
    }

unfoldable may_rejoin : MayRejoin w confirmed c d
unfolding toy plan_of part_of may_seal out_of edits_of answer_by reserve_of stored_floor floor_of counting_of answer
    answered take_net_key take_row take_link_key take_app_key take_switch take_confirm take_remove take_tunnel
    take_update take_request take_app_request take_verify take_command take_leave rows_have_room keys_differ
    at_most_two_live active_is_live partners_agree links_are_marked floors_are_kept limits_are_started role_is_kept
    pairs_are_kept keeps_rules fits all_fit reject need judge_net judge_nwk candidates judge_aps say knock rejoin
    request_key verify_key member_timer ask tell child_of_router child_of_centre next_member is_unfinished
    centre_timer provision remove_device roll switch_over again share own start disk_of with_disk stands leaves_both
    stored_lines told_lines group_of cut_of setting_of supply task_step step_by step speaker after heard_line
    state_of is_up air draws_used commits_of stations_of refuse_if found_or choose station_of station_at centre_of
    short_of spent both_spent drop_partner drop_others drop_old active_row usable_nets usable_active newest
    usable_of live_of current offered is_live is_known is_told code_row other_user pair_of next_counter stored_limit
    sender_floor applied applied_all after_sealing after_counting after_hearing after_accepting after_boot shown
    with_given_net with_given_link with_declared sealing_key after_event why_not_sent why_not_taken
may_rejoin =
    record {
      centre_named = refl;
      member_named = refl;
      centre_role = refl;
      member_role = refl;
      centre_ready = record { up = refl; unarmed = refl };
      member_ready = record { up = refl; unarmed = refl };
      may = refl;
      linked = record {
        net = _;
        active_key = refl;
        row = _;
        at_centre = refl;
        own = _;
        at_member = refl;
        same_key = refl;
        verified = refl;
        no_offer = refl;
      };
      not_stopped = refl;
      not_refused = refl;
    }

unfoldable may_rejoin_later : MayRejoinLater w booted c d 3
unfolding toy plan_of part_of may_seal out_of edits_of answer_by reserve_of stored_floor floor_of counting_of answer
    answered take_net_key take_row take_link_key take_app_key take_switch take_confirm take_remove take_tunnel
    take_update take_request take_app_request take_verify take_command take_leave rows_have_room keys_differ
    at_most_two_live active_is_live partners_agree links_are_marked floors_are_kept limits_are_started role_is_kept
    pairs_are_kept keeps_rules fits all_fit reject need judge_net judge_nwk candidates judge_aps say knock rejoin
    request_key verify_key member_timer ask tell child_of_router child_of_centre next_member is_unfinished
    centre_timer provision remove_device roll switch_over again share own start disk_of with_disk stands leaves_both
    stored_lines told_lines group_of cut_of setting_of supply task_step step_by step speaker after heard_line
    state_of is_up air draws_used commits_of stations_of refuse_if found_or choose station_of station_at centre_of
    short_of spent both_spent drop_partner drop_others drop_old active_row usable_nets usable_active newest
    usable_of live_of current offered is_live is_known is_told code_row other_user pair_of next_counter stored_limit
    sender_floor applied applied_all after_sealing after_counting after_hearing after_accepting after_boot shown
    with_given_net with_given_link with_declared sealing_key after_event why_not_sent why_not_taken
may_rejoin_later =
    record {
      centre_named = refl;
      member_named = refl;
      centre_role = refl;
      member_role = refl;
      centre_ready = record { up = refl; unarmed = refl };
      member_ready = record { up = refl; unarmed = refl };
      may = refl;
      linked = record {
        net = _;
        active_key = refl;
        row = _;
        at_centre = refl;
        own = _;
        at_member = refl;
        same_key = refl;
        verified = refl;
        no_offer = refl;
      };
      not_stopped = refl;
      not_refused = refl;
      stale = refl;
      counters = ltb-true _ _ refl;
    }

unfoldable may_readmit : MayReadmit w confirmed c d network 0 code
unfolding toy plan_of part_of may_seal out_of edits_of answer_by reserve_of stored_floor floor_of counting_of answer
    answered take_net_key take_row take_link_key take_app_key take_switch take_confirm take_remove take_tunnel
    take_update take_request take_app_request take_verify take_command take_leave rows_have_room keys_differ
    at_most_two_live active_is_live partners_agree links_are_marked floors_are_kept limits_are_started role_is_kept
    pairs_are_kept keeps_rules fits all_fit reject need judge_net judge_nwk candidates judge_aps say knock rejoin
    request_key verify_key member_timer ask tell child_of_router child_of_centre next_member is_unfinished
    centre_timer provision remove_device roll switch_over again share own start disk_of with_disk stands leaves_both
    stored_lines told_lines group_of cut_of setting_of supply task_step step_by step speaker after heard_line
    state_of is_up air draws_used commits_of stations_of refuse_if found_or choose station_of station_at centre_of
    short_of spent both_spent drop_partner drop_others drop_old active_row usable_nets usable_active newest
    usable_of live_of current offered is_live is_known is_told code_row other_user pair_of next_counter stored_limit
    sender_floor applied applied_all after_sealing after_counting after_hearing after_accepting after_boot shown
    with_given_net with_given_link with_declared sealing_key after_event why_not_sent why_not_taken why_no_row
may_readmit =
    record {
      centre_named = refl;
      device_named = refl;
      centre_role = refl;
      device_role = refl;
      centre_ready = record { up = refl; unarmed = refl };
      device_ready = record { up = refl; unarmed = refl };
      active = record {
        active = _;
        is_active = refl;
        active_key = refl;
        active_sequence = refl;
        found = _;
        is_found = refl;
        found_key = refl;
      };
      row_free = refl;
      unspent = refl;
      code = _;
      has_code = refl;
      same_key = refl;
      meets = inr
          (record { row = _; is_row = refl; row_sequence = refl; found = _; is_found = refl; found_key = refl });
      not_refused = refl;
    }

unfoldable may_go_on : MayGoOn w centre_booted c d keys Offering
unfolding toy plan_of part_of may_seal out_of edits_of answer_by reserve_of stored_floor floor_of counting_of answer
    answered take_net_key take_row take_link_key take_app_key take_switch take_confirm take_remove take_tunnel
    take_update take_request take_app_request take_verify take_command take_leave rows_have_room keys_differ
    at_most_two_live active_is_live partners_agree links_are_marked floors_are_kept limits_are_started role_is_kept
    pairs_are_kept keeps_rules fits all_fit reject need judge_net judge_nwk candidates judge_aps say knock rejoin
    request_key verify_key member_timer ask tell child_of_router child_of_centre next_member is_unfinished
    centre_timer provision remove_device roll switch_over again share own start disk_of with_disk stands leaves_both
    stored_lines told_lines group_of cut_of setting_of supply task_step step_by step speaker after heard_line
    state_of is_up air draws_used commits_of stations_of refuse_if found_or choose station_of station_at centre_of
    short_of spent both_spent drop_partner drop_others drop_old active_row usable_nets usable_active newest
    usable_of live_of current offered is_live is_known is_told code_row other_user pair_of next_counter stored_limit
    sender_floor applied applied_all after_sealing after_counting after_hearing after_accepting after_boot shown
    with_given_net with_given_link with_declared sealing_key after_event
may_go_on =
    record {
      centre_named = refl;
      device_named = refl;
      centre_role = refl;
      device_role = refl;
      centre_ready = record { up = refl; unarmed = refl };
      device_ready = record { up = refl; unarmed = refl };
      network = record {
        active = _;
        is_active = refl;
        active_key = refl;
        active_sequence = refl;
        found = _;
        is_found = refl;
        found_key = refl;
      };
      device = record {
        network = record {
          active = _;
          is_active = refl;
          active_key = refl;
          active_sequence = refl;
          found = _;
          is_found = refl;
          found_key = refl;
        };
        joined = refl;
        keys = record { row = _; is_current = refl; row_key = refl; none_offered = refl };
      };
      centre = record {
        row = _;
        is_current = refl;
        row_key = refl;
        offer = _;
        is_offered = refl;
        offer_key = refl;
      };
      in_range = record { key_size = refl; small = ltb-true _ _ refl; link_size = refl };
      drawn = refl;
    }

unfoldable may_route : MayRoute routes.w routed c r d router_code
unfolding toy plan_of part_of may_seal out_of edits_of answer_by reserve_of stored_floor floor_of counting_of answer
    answered take_net_key take_row take_link_key take_app_key take_switch take_confirm take_remove take_tunnel
    take_update take_request take_app_request take_verify take_command take_leave rows_have_room keys_differ
    at_most_two_live active_is_live partners_agree links_are_marked floors_are_kept limits_are_started role_is_kept
    pairs_are_kept keeps_rules fits all_fit reject need judge_net judge_nwk candidates judge_aps say knock rejoin
    request_key verify_key member_timer ask tell child_of_router child_of_centre next_member is_unfinished
    centre_timer provision remove_device roll switch_over again share own start disk_of with_disk stands leaves_both
    stored_lines told_lines group_of cut_of setting_of supply task_step step_by step speaker after heard_line
    state_of is_up air draws_used commits_of stations_of refuse_if found_or choose station_of station_at centre_of
    short_of spent both_spent drop_partner drop_others drop_old active_row usable_nets usable_active newest
    usable_of live_of current offered is_live is_known is_told code_row other_user pair_of next_counter stored_limit
    sender_floor applied applied_all after_sealing after_counting after_hearing after_accepting after_boot shown
    with_given_net with_given_link with_declared sealing_key after_event
may_route =
    record {
      centre_named = refl;
      router_named = refl;
      device_named = refl;
      centre_role = refl;
      router_role = refl;
      device_role = refl;
      apart = refl;
      centre_ready = record { up = refl; unarmed = refl };
      router_ready = record { up = refl; unarmed = refl };
      device_ready = record { up = refl; unarmed = refl };
      introduced = record {
        net = _;
        active_key = refl;
        row = _;
        at_centre = refl;
        own = _;
        at_device = refl;
        same_key = refl;
        provisional = refl;
        no_offer = refl;
        knocked = refl;
      };
      keys = record { row = _; is_current = refl; row_key = refl; none_offered = refl };
      network = record {
        active = _;
        is_active = refl;
        active_key = refl;
        active_sequence = refl;
        found = _;
        is_found = refl;
        found_key = refl;
      };
      router = record {
        network = record {
          active = _;
          is_active = refl;
          active_key = refl;
          active_sequence = refl;
          found = _;
          is_found = refl;
          found_key = refl;
        };
        keys = record { row = _; is_current = refl; row_key = refl; none_offered = refl };
        stays = refl;
      };
      router_keys = record { row = _; is_current = refl; row_key = refl; none_offered = refl };
      meets = inl refl;
    }

-- Instance of a_member_rejoins_in_each_schedule, a_device_is_confirmed_in_each_schedule,
-- a_device_joins_and_is_confirmed_in_each_schedule, a_device_is_readmitted_in_each_schedule,
-- a_device_joins_through_a_router_in_each_schedule, nodes_of_a_schedule_are_of_one_network,
-- lost_frames_cost_repeats_in_each_schedule, stops_cost_repeats_in_each_schedule,
-- stale_rounds_end_in_each_schedule, stale_turns_are_fewer_in_each_schedule.
record SchedulesCase : Type 0 where
  schedule : IsSchedule p
  named : Names w d
  exchanges : MayExchange w joined c d network 0 code
  joins : MayJoin w knocked c d
  rejoins : MayRejoin w confirmed c d
  rejoins_later : MayRejoinLater w booted c d 3
  readmits : MayReadmit w confirmed c d network 0 code
  goes_on : MayGoOn w centre_booted c d keys Offering
  through : MayRoute routes.w routed c r d router_code
  free : NothingStops toy w joined c d network 0 code drawn
  route_free : RouteIsFree routes.w routed c r d router_code network 0 may_route.introduced.own
  turns_free : AreFree toy w c d keys joined Asking (Unanswered ∷ Answered ∷ Answered ∷ [])
  in_order : AreInOrder toy w c d keys joined Asking (Timer ∷ [])
  ready : IsReady joined c
  came : CameFromCentre w booted c d may_rejoin_later.linked.own
  came_from_device : CameFromDevice Offering w centre_booted c d keys
  came_from_centre : CameFromTheCentre Offering w device_booted c d keys
  turns_stale : AreStale toy w c d keys Offering 1 centre_booted
  answers_stale : AreAnswersStale toy w c d keys Offering 1 device_booted

schedules : SchedulesCase
unfolding toy plan_of part_of may_seal out_of edits_of answer_by reserve_of stored_floor floor_of counting_of answer
    answered take_net_key take_row take_link_key take_app_key take_switch take_confirm take_remove take_tunnel
    take_update take_request take_app_request take_verify take_command take_leave rows_have_room keys_differ
    at_most_two_live active_is_live partners_agree links_are_marked floors_are_kept limits_are_started role_is_kept
    pairs_are_kept keeps_rules fits all_fit reject need judge_net judge_nwk candidates judge_aps say knock rejoin
    request_key verify_key member_timer ask tell child_of_router child_of_centre next_member is_unfinished
    centre_timer provision remove_device roll switch_over again share own start disk_of with_disk stands leaves_both
    stored_lines told_lines group_of cut_of setting_of supply task_step step_by step speaker after heard_line
    state_of is_up air draws_used commits_of stations_of refuse_if found_or choose station_of station_at centre_of
    short_of spent both_spent drop_partner drop_others drop_old active_row usable_nets usable_active newest
    usable_of live_of current offered is_live is_known is_told code_row other_user pair_of next_counter stored_limit
    sender_floor applied applied_all after_sealing after_counting after_hearing after_accepting after_boot shown
    with_given_net with_given_link with_declared sealing_key after_event why_no_confirmation why_no_offer
    why_not_confirmed why_not_heard why_not_opened why_offer_not_kept why_no_offer_again why_no_tunnel why_not_taken
    may_route may_rejoin_later
schedules = record {
  schedule = is_schedule;
  named = refl;
  exchanges = may_exchange;
  joins = may_join;
  rejoins = may_rejoin;
  rejoins_later = may_rejoin_later;
  readmits = may_readmit;
  goes_on = may_go_on;
  through = may_route;
  free = record {
    request = refl;
    draw = refl;
    offer = refl;
    fresh = refl;
    kept = refl;
    proof = refl;
    confirmation = refl;
    confirmed = refl;
  };
  route_free = record { report = refl; tunnel = refl; relayed = refl; taken = refl };
  turns_free = ((refl, (refl, refl)), (((refl, (refl, refl)), (refl, refl)), (((refl, refl), refl), tt)));
  in_order = (tt, tt);
  ready = record { up = refl; unarmed = refl };
  came = all_low Aps 2 4 d c drawn booted.lines refl;
  came_from_device =
      (all_low Nwk 0 4 c d network centre_booted.lines refl, all_low Aps 0 4 c d code centre_booted.lines refl);
  came_from_centre =
      (all_low Nwk 0 4 d c network device_booted.lines refl, all_low Aps 1 4 d c code device_booted.lines refl);
  turns_stale = (record { sends = refl; closed = refl; floor = 4; refused = refl }, tt);
  answers_stale = (record { free = (refl, (refl, refl)); unknown = refl; floor = 4; refused = refl }, tt);
}
