-- Frames of the exchange are lost. In the worked run nothing else prevents the exchange, and two turns without a loss
-- are enough.
use Rattle.std.specs.Prelude.{◌≡◌, List, [], ◌∷◌, refl}
use Rattle.law_recovery.proofs.Instances.Worked.{w, c, d, network, code, drawn, joined}
use Rattle.law_recovery.specs.Obstacles.{why_no_confirmation, why_no_offer, why_no_offer_again, why_not_confirmed, why_not_heard, why_not_opened, why_offer_not_kept}
use Rattle.zb_model.specs.Data.{State}
use Rattle.law_recovery.specs.Fronts.{after_event}
use Rattle.law_recovery.specs.KeyExchange.{AreMet, HaveJoined, KeysInRange}
use Rattle.law_recovery.specs.Turns.{Turn, Unheard, Unanswered, Answered, Elsewhere, Asking, Done, after_turns, far_after_all}
use Rattle.law_recovery.specs.Stages.{AreFree, Keys, HaveCome, IsFree}
use Rattle.zb_model.specs.Answer.{plan_of, part_of, may_seal, out_of, edits_of, answer_by, reserve_of, stored_floor, floor_of, counting_of, answer, answered}
use Rattle.zb_model.specs.Commands.{take_net_key, take_row, take_link_key, take_app_key, take_switch, take_confirm, take_remove, take_tunnel, take_update, take_request, take_app_request, take_verify, take_command, take_leave}
use Rattle.zb_model.specs.Fits.{rows_have_room, keys_differ, at_most_two_live, active_is_live, partners_agree, links_are_marked, floors_are_kept, limits_are_started, role_is_kept, pairs_are_kept, keeps_rules, fits, all_fit}
use Rattle.zb_model.specs.Judging.{reject, need, judge_net, judge_nwk, candidates, judge_aps}
use Rattle.zb_model.specs.OwnEvents.{say, knock, rejoin, request_key, verify_key, member_timer, ask, tell, child_of_router, child_of_centre, next_member, is_unfinished, centre_timer, provision, remove_device, roll, switch_over, again, share, own}
use Rattle.zb_model.specs.Play.{InjectBytes, start, disk_of, with_disk, stands, leaves_both, stored_lines, told_lines, group_of, cut_of, setting_of, supply, task_step, step_by, step}
use Rattle.zb_model.specs.Readings.{speaker, after, heard_line, state_of, is_up, air, draws_used, commits_of, stations_of}
use Rattle.zb_model.specs.Rules.{refuse_if, found_or, choose, station_of, station_at, centre_of, short_of, spent, both_spent, drop_partner, drop_others, drop_old}
use Rattle.zb_model.specs.State.{active_row, usable_nets, usable_active, newest, usable_of, live_of, current, offered, is_live, is_known, is_told, code_row, other_user, pair_of, next_counter, stored_limit, sender_floor, applied, applied_all, after_sealing, after_counting, after_hearing, after_accepting, after_boot, shown, with_given_net, with_given_link, with_declared}
use Rattle.zb_model.specs.Tools.{sealing_key}
use Rattle.zb_model.proofs.Toy.{toy}
use Rattle.std.proofs.lemmas.Bool.{ltb-true, leb-true}

abbrev keys : Keys
keys = record { network = network; sequence = 0; link = code; drawn = drawn }

-- The answer to the first request is lost, and someone puts bytes on the air.
abbrev turns : List Turn
turns = Unanswered ∷ Elsewhere (InjectBytes (0 ∷ [])) ∷ Answered ∷ Answered ∷ []

-- Instance of a_lost_frame_costs_a_repeat.
record LossesCase : Type 0 where
  sizes : KeysInRange network 0 code
  met : AreMet w joined c d
  have_joined : HaveJoined w joined c d network 0 code
  come : HaveCome w joined c d keys Asking
  one_free : IsFree toy w joined c d keys Asking Unheard
  over : far_after_all Asking turns ≡ Done
  all_free : AreFree toy w c d keys joined Asking turns

losses : LossesCase
unfolding toy plan_of part_of may_seal out_of edits_of answer_by reserve_of stored_floor floor_of counting_of answer
    answered take_net_key take_row take_link_key take_app_key take_switch take_confirm take_remove take_tunnel
    take_update take_request take_app_request take_verify take_command take_leave rows_have_room keys_differ
    at_most_two_live active_is_live partners_agree links_are_marked floors_are_kept limits_are_started role_is_kept
    pairs_are_kept keeps_rules fits all_fit reject need judge_net judge_nwk candidates judge_aps say knock rejoin
    request_key verify_key member_timer ask tell child_of_router child_of_centre next_member is_unfinished
    centre_timer provision remove_device roll switch_over again share own start disk_of with_disk stands leaves_both
    stored_lines told_lines group_of cut_of setting_of supply task_step step_by step speaker after heard_line
    state_of is_up air draws_used commits_of stations_of refuse_if found_or choose station_of station_at centre_of
    short_of spent both_spent drop_partner drop_others drop_old active_row usable_nets usable_active newest
    usable_of live_of current offered is_live is_known is_told code_row other_user pair_of next_counter stored_limit
    sender_floor applied applied_all after_sealing after_counting after_hearing after_accepting after_boot shown
    with_given_net with_given_link with_declared sealing_key after_event why_no_confirmation why_no_offer
    why_not_confirmed why_not_heard why_not_opened why_offer_not_kept why_no_offer_again
losses = record {
  sizes = record { key_size = refl; small = ltb-true _ _ refl; link_size = refl };
  met = record {
    apart = refl;
    declared = record {
      network = record {
        centre_role = refl;
        member_role = refl;
        centre_known = refl;
        short_known = refl;
        shorts_differ = refl;
        in_block = leb-true _ _ refl;
      };
      centre_short = refl;
      centre_block = leb-true _ _ refl;
      centre_declared = refl;
      device_declared = refl;
    };
    stations = record {
      centre = ltb-true _ _ refl;
      device = ltb-true _ _ refl;
      centre_short = ltb-true _ _ refl;
      device_short = ltb-true _ _ refl;
    };
    centre_ready = record { up = refl; unarmed = refl };
    device_ready = record { up = refl; unarmed = refl };
    centre_steady = record { rules = refl; role = refl };
    device_steady = record { rules = refl; role = refl };
  };
  have_joined = record {
    device = record {
      network = record {
        active = _;
        is_active = refl;
        active_key = refl;
        active_sequence = refl;
        found = _;
        is_found = refl;
        found_key = refl;
      };
      joined = refl;
      keys = record { row = _; is_current = refl; row_key = refl; none_offered = refl };
    };
    network = record {
      active = _;
      is_active = refl;
      active_key = refl;
      active_sequence = refl;
      found = _;
      is_found = refl;
      found_key = refl;
    };
    keys = record { row = _; is_current = refl; row_key = refl; none_offered = refl };
  };
  come = record {
    met = record {
      apart = refl;
      declared = record {
        network = record {
          centre_role = refl;
          member_role = refl;
          centre_known = refl;
          short_known = refl;
          shorts_differ = refl;
          in_block = leb-true _ _ refl;
        };
        centre_short = refl;
        centre_block = leb-true _ _ refl;
        centre_declared = refl;
        device_declared = refl;
      };
      stations = record {
        centre = ltb-true _ _ refl;
        device = ltb-true _ _ refl;
        centre_short = ltb-true _ _ refl;
        device_short = ltb-true _ _ refl;
      };
      centre_ready = record { up = refl; unarmed = refl };
      device_ready = record { up = refl; unarmed = refl };
      centre_steady = record { rules = refl; role = refl };
      device_steady = record { rules = refl; role = refl };
    };
    network = record {
      active = _;
      is_active = refl;
      active_key = refl;
      active_sequence = refl;
      found = _;
      is_found = refl;
      found_key = refl;
    };
    device = record {
      network = record {
        active = _;
        is_active = refl;
        active_key = refl;
        active_sequence = refl;
        found = _;
        is_found = refl;
        found_key = refl;
      };
      joined = refl;
      keys = record { row = _; is_current = refl; row_key = refl; none_offered = refl };
    };
    centre = record { row = _; is_current = refl; row_key = refl; none_offered = refl };
  };
  one_free = refl;
  over = refl;
  all_free = (
    (refl, (refl, refl)),
    ((refl, refl), (((refl, ((refl, refl))), (refl, refl)), (((refl, refl), refl), tt))),
  );
}

-- and it ends as that law says
ends_confirmed : (state_of (after_turns toy w c d joined turns).lines d).state ≡ State.Confirmed
unfolding toy plan_of part_of may_seal out_of edits_of answer_by reserve_of stored_floor floor_of counting_of answer
    answered take_net_key take_row take_link_key take_app_key take_switch take_confirm take_remove take_tunnel
    take_update take_request take_app_request take_verify take_command take_leave rows_have_room keys_differ
    at_most_two_live active_is_live partners_agree links_are_marked floors_are_kept limits_are_started role_is_kept
    pairs_are_kept keeps_rules fits all_fit reject need judge_net judge_nwk candidates judge_aps say knock rejoin
    request_key verify_key member_timer ask tell child_of_router child_of_centre next_member is_unfinished
    centre_timer provision remove_device roll switch_over again share own start disk_of with_disk stands leaves_both
    stored_lines told_lines group_of cut_of setting_of supply task_step step_by step speaker after heard_line
    state_of is_up air draws_used commits_of stations_of refuse_if found_or choose station_of station_at centre_of
    short_of spent both_spent drop_partner drop_others drop_old active_row usable_nets usable_active newest
    usable_of live_of current offered is_live is_known is_told code_row other_user pair_of next_counter stored_limit
    sender_floor applied applied_all after_sealing after_counting after_hearing after_accepting after_boot shown
    with_given_net with_given_link with_declared sealing_key after_event
ends_confirmed = refl
