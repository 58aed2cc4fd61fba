-- A joined device is confirmed. At a front of the worked run nothing prevents the exchange, and it ends as the laws
-- say.
use Rattle.std.specs.Prelude.{◌≡◌, refl}
use Rattle.std.proofs.Math.Path.{subst}
use Rattle.law_recovery.proofs.Instances.Worked.{w, c, d, network, code, drawn, joined, confirmed}
use Rattle.law_recovery.specs.Obstacles.{why_no_confirmation, why_no_offer, why_not_confirmed, why_not_heard, why_not_opened, why_offer_not_kept}
use Rattle.law_recovery.specs.Fronts.{after_event, after_events}
use Rattle.law_recovery.specs.KeyExchange.{AreMet, EndsConfirmed, HaveJoined, KeysInRange, NothingStops, exchange_events}
use Rattle.law_recovery.specs.Foreseen.{IsForeseen}
use Rattle.zb_model.specs.Answer.{plan_of, part_of, may_seal, out_of, edits_of, answer_by, reserve_of, stored_floor, floor_of, counting_of, answer, answered}
use Rattle.zb_model.specs.Commands.{take_net_key, take_row, take_link_key, take_app_key, take_switch, take_confirm, take_remove, take_tunnel, take_update, take_request, take_app_request, take_verify, take_command, take_leave}
use Rattle.zb_model.specs.Fits.{rows_have_room, keys_differ, at_most_two_live, active_is_live, partners_agree, links_are_marked, floors_are_kept, limits_are_started, role_is_kept, pairs_are_kept, keeps_rules, fits, all_fit}
use Rattle.zb_model.specs.Judging.{reject, need, judge_net, judge_nwk, candidates, judge_aps}
use Rattle.zb_model.specs.OwnEvents.{say, knock, rejoin, request_key, verify_key, member_timer, ask, tell, child_of_router, child_of_centre, next_member, is_unfinished, centre_timer, provision, remove_device, roll, switch_over, again, share, own}
use Rattle.zb_model.specs.Play.{start, disk_of, with_disk, stands, leaves_both, stored_lines, told_lines, group_of, cut_of, setting_of, supply, task_step, step_by, step}
use Rattle.zb_model.specs.Readings.{speaker, after, heard_line, state_of, is_up, air, draws_used, commits_of, stations_of}
use Rattle.zb_model.specs.Rules.{refuse_if, found_or, choose, station_of, station_at, centre_of, short_of, spent, both_spent, drop_partner, drop_others, drop_old}
use Rattle.zb_model.specs.State.{active_row, usable_nets, usable_active, newest, usable_of, live_of, current, offered, is_live, is_known, is_told, code_row, other_user, pair_of, next_counter, stored_limit, sender_floor, applied, applied_all, after_sealing, after_counting, after_hearing, after_accepting, after_boot, shown, with_given_net, with_given_link, with_declared}
use Rattle.zb_model.specs.Tools.{sealing_key}
use Rattle.zb_model.proofs.Toy.{toy}
use Rattle.std.proofs.lemmas.Bool.{ltb-true, leb-true}

six_events : confirmed ≡ after_events toy w joined (exchange_events joined c d)
unfolding toy plan_of part_of may_seal out_of edits_of answer_by reserve_of stored_floor floor_of counting_of answer
    answered take_net_key take_row take_link_key take_app_key take_switch take_confirm take_remove take_tunnel
    take_update take_request take_app_request take_verify take_command take_leave rows_have_room keys_differ
    at_most_two_live active_is_live partners_agree links_are_marked floors_are_kept limits_are_started role_is_kept
    pairs_are_kept keeps_rules fits all_fit reject need judge_net judge_nwk candidates judge_aps say knock rejoin
    request_key verify_key member_timer ask tell child_of_router child_of_centre next_member is_unfinished
    centre_timer provision remove_device roll switch_over again share own start disk_of with_disk stands leaves_both
    stored_lines told_lines group_of cut_of setting_of supply task_step step_by step speaker after heard_line
    state_of is_up air draws_used commits_of stations_of refuse_if found_or choose station_of station_at centre_of
    short_of spent both_spent drop_partner drop_others drop_old active_row usable_nets usable_active newest
    usable_of live_of current offered is_live is_known is_told code_row other_user pair_of next_counter stored_limit
    sender_floor applied applied_all after_sealing after_counting after_hearing after_accepting after_boot shown
    with_given_net with_given_link with_declared sealing_key after_event
six_events = refl

ends : EndsConfirmed w confirmed c d network 0 drawn
unfolding toy plan_of part_of may_seal out_of edits_of answer_by reserve_of stored_floor floor_of counting_of answer
    answered take_net_key take_row take_link_key take_app_key take_switch take_confirm take_remove take_tunnel
    take_update take_request take_app_request take_verify take_command take_leave rows_have_room keys_differ
    at_most_two_live active_is_live partners_agree links_are_marked floors_are_kept limits_are_started role_is_kept
    pairs_are_kept keeps_rules fits all_fit reject need judge_net judge_nwk candidates judge_aps say knock rejoin
    request_key verify_key member_timer ask tell child_of_router child_of_centre next_member is_unfinished
    centre_timer provision remove_device roll switch_over again share own start disk_of with_disk stands leaves_both
    stored_lines told_lines group_of cut_of setting_of supply task_step step_by step speaker after heard_line
    state_of is_up air draws_used commits_of stations_of refuse_if found_or choose station_of station_at centre_of
    short_of spent both_spent drop_partner drop_others drop_old active_row usable_nets usable_active newest
    usable_of live_of current offered is_live is_known is_told code_row other_user pair_of next_counter stored_limit
    sender_floor applied applied_all after_sealing after_counting after_hearing after_accepting after_boot shown
    with_given_net with_given_link with_declared sealing_key after_event
ends =
    record {
      device = record {
        network = record {
          active = _;
          is_active = refl;
          active_key = refl;
          active_sequence = refl;
          found = _;
          is_found = refl;
          found_key = refl;
        };
        confirmed = refl;
        keys = record { row = _; is_current = refl; row_key = refl; verified = refl; none_offered = refl };
      };
      network = record {
        active = _;
        is_active = refl;
        active_key = refl;
        active_sequence = refl;
        found = _;
        is_found = refl;
        found_key = refl;
      };
      keys = record { row = _; is_current = refl; row_key = refl; verified = refl; none_offered = refl };
      centre_ready = record { up = refl; unarmed = refl };
      device_ready = record { up = refl; unarmed = refl };
    }

-- Instance of a_device_is_confirmed_in_a_run.
record IsConfirmedCase : Type 0 where
  met : AreMet w joined c d
  have_joined : HaveJoined w joined c d network 0 code
  sizes : KeysInRange network 0 code
  free : NothingStops toy w joined c d network 0 code drawn
  ends : EndsConfirmed w (after_events toy w joined (exchange_events joined c d)) c d network 0 drawn

is_confirmed : IsConfirmedCase
unfolding toy plan_of part_of may_seal out_of edits_of answer_by reserve_of stored_floor floor_of counting_of answer
    answered take_net_key take_row take_link_key take_app_key take_switch take_confirm take_remove take_tunnel
    take_update take_request take_app_request take_verify take_command take_leave rows_have_room keys_differ
    at_most_two_live active_is_live partners_agree links_are_marked floors_are_kept limits_are_started role_is_kept
    pairs_are_kept keeps_rules fits all_fit reject need judge_net judge_nwk candidates judge_aps say knock rejoin
    request_key verify_key member_timer ask tell child_of_router child_of_centre next_member is_unfinished
    centre_timer provision remove_device roll switch_over again share own start disk_of with_disk stands leaves_both
    stored_lines told_lines group_of cut_of setting_of supply task_step step_by step speaker after heard_line
    state_of is_up air draws_used commits_of stations_of refuse_if found_or choose station_of station_at centre_of
    short_of spent both_spent drop_partner drop_others drop_old active_row usable_nets usable_active newest
    usable_of live_of current offered is_live is_known is_told code_row other_user pair_of next_counter stored_limit
    sender_floor applied applied_all after_sealing after_counting after_hearing after_accepting after_boot shown
    with_given_net with_given_link with_declared sealing_key after_event why_no_confirmation why_no_offer
    why_not_confirmed why_not_heard why_not_opened why_offer_not_kept
is_confirmed = record {
  met = record {
    apart = refl;
    declared = record {
      network = record {
        centre_role = refl;
        member_role = refl;
        centre_known = refl;
        short_known = refl;
        shorts_differ = refl;
        in_block = leb-true _ _ refl;
      };
      centre_short = refl;
      centre_block = leb-true _ _ refl;
      centre_declared = refl;
      device_declared = refl;
    };
    stations = record {
      centre = ltb-true _ _ refl;
      device = ltb-true _ _ refl;
      centre_short = ltb-true _ _ refl;
      device_short = ltb-true _ _ refl;
    };
    centre_ready = record { up = refl; unarmed = refl };
    device_ready = record { up = refl; unarmed = refl };
    centre_steady = record { rules = refl; role = refl };
    device_steady = record { rules = refl; role = refl };
  };
  have_joined = record {
    device = record {
      network = record {
        active = _;
        is_active = refl;
        active_key = refl;
        active_sequence = refl;
        found = _;
        is_found = refl;
        found_key = refl;
      };
      joined = refl;
      keys = record { row = _; is_current = refl; row_key = refl; none_offered = refl };
    };
    network = record {
      active = _;
      is_active = refl;
      active_key = refl;
      active_sequence = refl;
      found = _;
      is_found = refl;
      found_key = refl;
    };
    keys = record { row = _; is_current = refl; row_key = refl; none_offered = refl };
  };
  sizes = record { key_size = refl; small = ltb-true _ _ refl; link_size = refl };
  free = record {
    request = refl;
    draw = refl;
    offer = refl;
    fresh = refl;
    kept = refl;
    proof = refl;
    confirmation = refl;
    confirmed = refl;
  };
  ends = subst (λ y. EndsConfirmed w y c d network 0 drawn) six_events ends;
}

-- Instance of obstacles_are_seen_at_the_first_front.
record IsForeseenCase : Type 0 where
  met : AreMet w joined c d
  have_joined : HaveJoined w joined c d network 0 code
  sizes : KeysInRange network 0 code
  foreseen : IsForeseen w joined c d network 0 code drawn
  free : NothingStops toy w joined c d network 0 code drawn

is_foreseen : IsForeseenCase
unfolding toy plan_of part_of may_seal out_of edits_of answer_by reserve_of stored_floor floor_of counting_of answer
    answered take_net_key take_row take_link_key take_app_key take_switch take_confirm take_remove take_tunnel
    take_update take_request take_app_request take_verify take_command take_leave rows_have_room keys_differ
    at_most_two_live active_is_live partners_agree links_are_marked floors_are_kept limits_are_started role_is_kept
    pairs_are_kept keeps_rules fits all_fit reject need judge_net judge_nwk candidates judge_aps say knock rejoin
    request_key verify_key member_timer ask tell child_of_router child_of_centre next_member is_unfinished
    centre_timer provision remove_device roll switch_over again share own start disk_of with_disk stands leaves_both
    stored_lines told_lines group_of cut_of setting_of supply task_step step_by step speaker after heard_line
    state_of is_up air draws_used commits_of stations_of refuse_if found_or choose station_of station_at centre_of
    short_of spent both_spent drop_partner drop_others drop_old active_row usable_nets usable_active newest
    usable_of live_of current offered is_live is_known is_told code_row other_user pair_of next_counter stored_limit
    sender_floor applied applied_all after_sealing after_counting after_hearing after_accepting after_boot shown
    with_given_net with_given_link with_declared sealing_key after_event why_no_offer why_not_heard why_not_opened
    why_offer_not_kept
is_foreseen = record {
  met = is_confirmed.met;
  have_joined = is_confirmed.have_joined;
  sizes = is_confirmed.sizes;
  foreseen = record {
    request = refl;
    draw = refl;
    offer = refl;
    fresh = refl;
    kept = refl;
    device_nwk = ltb-true _ _ refl;
    centre_nwk = ltb-true _ _ refl;
    centre_aps = ltb-true _ _ refl;
  };
  free = is_confirmed.free;
}
