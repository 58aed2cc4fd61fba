-- After a boot the floors of a node are above what it accepted. In the worked run as many answers and turns are
-- stale as the laws say.
use Rattle.std.specs.Prelude.{◌-◌, ◌<◌, [], ◌∷◌, ◌++◌, refl}
use Rattle.law_recovery.proofs.Instances.Worked.{w, c, d, network, code, drawn, front, the_net, confirmed}
use Rattle.law_recovery.specs.Obstacles.{why_no_confirmation, why_no_offer, why_no_offer_again, why_not_confirmed, why_not_heard, why_not_opened, why_offer_not_kept}
use Rattle.zb_model.specs.Data.{Aps, Nwk}
use Rattle.zb_model.specs.Lines.{Boot, DownReset}
use Rattle.law_recovery.specs.Fronts.{Front, EndsRejoined, after_event}
use Rattle.law_recovery.specs.KeyExchange.{KeysInRange}
use Rattle.law_recovery.specs.Meeting.{HasNetwork}
use Rattle.law_recovery.specs.Rejoining.{why_not_sent, why_not_taken}
use Rattle.law_recovery.specs.Rounds.{CameFrom, CameFromCentre, RejoinsLater, after_rounds}
use Rattle.law_recovery.specs.Stages.{Keys, HaveCome}
use Rattle.law_recovery.specs.Stale.{AreAnswersStale, AreStale, CameFromDevice, CameFromTheCentre}
use Rattle.law_recovery.specs.Stops.{IsAnswered}
use Rattle.law_recovery.specs.Turns.{Offering}
use Rattle.law_recovery.proofs.Instances.Low.{all_low}
use Rattle.zb_model.specs.Answer.{plan_of, part_of, may_seal, out_of, edits_of, answer_by, reserve_of, stored_floor, floor_of, counting_of, answer, answered}
use Rattle.zb_model.specs.Commands.{take_net_key, take_row, take_link_key, take_app_key, take_switch, take_confirm, take_remove, take_tunnel, take_update, take_request, take_app_request, take_verify, take_command, take_leave}
use Rattle.zb_model.specs.Fits.{rows_have_room, keys_differ, at_most_two_live, active_is_live, partners_agree, links_are_marked, floors_are_kept, limits_are_started, role_is_kept, pairs_are_kept, keeps_rules, fits, all_fit}
use Rattle.zb_model.specs.Judging.{reject, need, judge_net, judge_nwk, candidates, judge_aps}
use Rattle.zb_model.specs.OwnEvents.{say, knock, rejoin, request_key, verify_key, member_timer, ask, tell, child_of_router, child_of_centre, next_member, is_unfinished, centre_timer, provision, remove_device, roll, switch_over, again, share, own}
use Rattle.zb_model.specs.Play.{start, disk_of, with_disk, stands, leaves_both, stored_lines, told_lines, group_of, cut_of, setting_of, supply, task_step, step_by, step}
use Rattle.zb_model.specs.Readings.{speaker, after, heard_line, state_of, is_up, air, draws_used, commits_of, stations_of}
use Rattle.zb_model.specs.Rules.{refuse_if, found_or, choose, station_of, station_at, centre_of, short_of, spent, both_spent, drop_partner, drop_others, drop_old}
use Rattle.zb_model.specs.State.{active_row, usable_nets, usable_active, newest, usable_of, live_of, current, offered, is_live, is_known, is_told, code_row, other_user, pair_of, next_counter, stored_limit, sender_floor, applied, applied_all, after_sealing, after_counting, after_hearing, after_accepting, after_boot, shown, with_given_net, with_given_link, with_declared}
use Rattle.zb_model.specs.Tools.{sealing_key}
use Rattle.zb_model.proofs.Toy.{toy}
use Rattle.std.proofs.lemmas.Bool.{ltb-true, leb-true}

-- the confirmed device was booted
abbrev pub booted : Front
booted = record { lines = confirmed.lines ++ (DownReset 11 d ∷ Boot 12 d ∷ []); disks = []; number = 13 }

unfoldable rejoins_later : RejoinsLater w booted c d 3
unfolding toy plan_of part_of may_seal out_of edits_of answer_by reserve_of stored_floor floor_of counting_of answer
    answered take_net_key take_row take_link_key take_app_key take_switch take_confirm take_remove take_tunnel
    take_update take_request take_app_request take_verify take_command take_leave rows_have_room keys_differ
    at_most_two_live active_is_live partners_agree links_are_marked floors_are_kept limits_are_started role_is_kept
    pairs_are_kept keeps_rules fits all_fit reject need judge_net judge_nwk candidates judge_aps say knock rejoin
    request_key verify_key member_timer ask tell child_of_router child_of_centre next_member is_unfinished
    centre_timer provision remove_device roll switch_over again share own start disk_of with_disk stands leaves_both
    stored_lines told_lines group_of cut_of setting_of supply task_step step_by step speaker after heard_line
    state_of is_up air draws_used commits_of stations_of refuse_if found_or choose station_of station_at centre_of
    short_of spent both_spent drop_partner drop_others drop_old active_row usable_nets usable_active newest
    usable_of live_of current offered is_live is_known is_told code_row other_user pair_of next_counter stored_limit
    sender_floor applied applied_all after_sealing after_counting after_hearing after_accepting after_boot shown
    with_given_net with_given_link with_declared sealing_key after_event why_no_confirmation why_no_offer
    why_not_confirmed why_not_heard why_not_opened why_offer_not_kept why_no_offer_again why_not_sent why_not_taken
rejoins_later =
    record {
      apart = refl;
      mine = refl;
      network = record {
        centre_role = refl;
        member_role = refl;
        centre_known = refl;
        short_known = refl;
        shorts_differ = refl;
        in_block = leb-true _ _ refl;
      };
      centre_ready = record { up = refl; unarmed = refl };
      member_ready = record { up = refl; unarmed = refl };
      rules = refl;
      role = refl;
      may = refl;
      linked = record {
        net = _;
        active_key = refl;
        row = _;
        at_centre = refl;
        own = _;
        at_member = refl;
        same_key = refl;
        verified = refl;
        no_offer = refl;
      };
      in_range = record {
        key = refl;
        sequence = ltb-true _ _ refl;
        device = ltb-true _ _ refl;
        centre = ltb-true _ _ refl;
        to = ltb-true _ _ refl;
        from = ltb-true _ _ refl;
        link = refl;
        counter = ltb-true _ _ refl;
      };
      not_stopped = refl;
      not_refused = refl;
      stale = refl;
      counters = ltb-true _ _ refl;
    }

-- Instance of stale_rounds_are_fewer_than_a_block.
record RoundsCase : Type 0 where
  later : RejoinsLater w booted c d 3
  came : CameFromCentre w booted c d rejoins_later.linked.own
  ends : EndsRejoined (after_rounds toy w c d 4 booted) c d

rounds : RoundsCase
unfolding toy plan_of part_of may_seal out_of edits_of answer_by reserve_of stored_floor floor_of counting_of answer
    answered take_net_key take_row take_link_key take_app_key take_switch take_confirm take_remove take_tunnel
    take_update take_request take_app_request take_verify take_command take_leave rows_have_room keys_differ
    at_most_two_live active_is_live partners_agree links_are_marked floors_are_kept limits_are_started role_is_kept
    pairs_are_kept keeps_rules fits all_fit reject need judge_net judge_nwk candidates judge_aps say knock rejoin
    request_key verify_key member_timer ask tell child_of_router child_of_centre next_member is_unfinished
    centre_timer provision remove_device roll switch_over again share own start disk_of with_disk stands leaves_both
    stored_lines told_lines group_of cut_of setting_of supply task_step step_by step speaker after heard_line
    state_of is_up air draws_used commits_of stations_of refuse_if found_or choose station_of station_at centre_of
    short_of spent both_spent drop_partner drop_others drop_old active_row usable_nets usable_active newest
    usable_of live_of current offered is_live is_known is_told code_row other_user pair_of next_counter stored_limit
    sender_floor applied applied_all after_sealing after_counting after_hearing after_accepting after_boot shown
    with_given_net with_given_link with_declared sealing_key after_event rejoins_later why_no_confirmation
    why_no_offer why_not_confirmed why_not_heard why_not_opened why_offer_not_kept why_no_offer_again why_not_sent
    why_not_taken
rounds = record {
  later = rejoins_later;
  came = all_low Aps 2 4 d c drawn booted.lines refl;
  ends = record {
    key = _;
    active_key = refl;
    member = record { confirmed = refl; active_key = refl; live_key = refl };
    centre_ready = record { up = refl; unarmed = refl };
    member_ready = record { up = refl; unarmed = refl };
  };
}

-- The centre offered a key. Then the centre was booted, or the device.
abbrev pub centre_booted : Front
centre_booted = record { lines = (front 37 7).lines ++ (DownReset 7 c ∷ Boot 8 c ∷ []); disks = []; number = 9 }

abbrev pub device_booted : Front
device_booted = record { lines = (front 37 7).lines ++ (DownReset 7 d ∷ Boot 8 d ∷ []); disks = []; number = 9 }

abbrev pub keys : Keys
keys = record { network = network; sequence = 0; link = code; drawn = drawn }

-- Instance of stale_turns_are_fewer_than_a_block.
record TurnsCase : Type 0 where
  sizes : KeysInRange network 0 code
  come : HaveCome w centre_booted c d keys Offering
  came : CameFromDevice Offering w centre_booted c d keys
  stale : AreStale toy w c d keys Offering 1 centre_booted
  bounded : 1 < (setting_of w c).me.in_block

turns : TurnsCase
unfolding toy plan_of part_of may_seal out_of edits_of answer_by reserve_of stored_floor floor_of counting_of answer
    answered take_net_key take_row take_link_key take_app_key take_switch take_confirm take_remove take_tunnel
    take_update take_request take_app_request take_verify take_command take_leave rows_have_room keys_differ
    at_most_two_live active_is_live partners_agree links_are_marked floors_are_kept limits_are_started role_is_kept
    pairs_are_kept keeps_rules fits all_fit reject need judge_net judge_nwk candidates judge_aps say knock rejoin
    request_key verify_key member_timer ask tell child_of_router child_of_centre next_member is_unfinished
    centre_timer provision remove_device roll switch_over again share own start disk_of with_disk stands leaves_both
    stored_lines told_lines group_of cut_of setting_of supply task_step step_by step speaker after heard_line
    state_of is_up air draws_used commits_of stations_of refuse_if found_or choose station_of station_at centre_of
    short_of spent both_spent drop_partner drop_others drop_old active_row usable_nets usable_active newest
    usable_of live_of current offered is_live is_known is_told code_row other_user pair_of next_counter stored_limit
    sender_floor applied applied_all after_sealing after_counting after_hearing after_accepting after_boot shown
    with_given_net with_given_link with_declared sealing_key after_event why_no_confirmation why_no_offer
    why_not_confirmed why_not_heard why_not_opened why_offer_not_kept why_no_offer_again why_not_sent why_not_taken
turns = record {
  sizes = record { key_size = refl; small = ltb-true _ _ refl; link_size = refl };
  come = record {
    met = record {
      apart = refl;
      declared = record {
        network = record {
          centre_role = refl;
          member_role = refl;
          centre_known = refl;
          short_known = refl;
          shorts_differ = refl;
          in_block = leb-true _ _ refl;
        };
        centre_short = refl;
        centre_block = leb-true _ _ refl;
        centre_declared = refl;
        device_declared = refl;
      };
      stations = record {
        centre = ltb-true _ _ refl;
        device = ltb-true _ _ refl;
        centre_short = ltb-true _ _ refl;
        device_short = ltb-true _ _ refl;
      };
      centre_ready = record { up = refl; unarmed = refl };
      device_ready = record { up = refl; unarmed = refl };
      centre_steady = record { rules = refl; role = refl };
      device_steady = record { rules = refl; role = refl };
    };
    network = record {
      active = _;
      is_active = refl;
      active_key = refl;
      active_sequence = refl;
      found = _;
      is_found = refl;
      found_key = refl;
    };
    device = record {
      network = record {
        active = _;
        is_active = refl;
        active_key = refl;
        active_sequence = refl;
        found = _;
        is_found = refl;
        found_key = refl;
      };
      joined = refl;
      keys = record { row = _; is_current = refl; row_key = refl; none_offered = refl };
    };
    centre = record { row = _; is_current = refl; row_key = refl; offer = _; is_offered = refl; offer_key = refl };
  };
  came = (all_low Nwk 0 4 c d network centre_booted.lines refl, all_low Aps 0 4 c d code centre_booted.lines refl);
  stale = (record { sends = refl; closed = refl; floor = 4; refused = refl }, tt);
  bounded = ltb-true _ _ refl;
}

-- Instance of stale_answers_are_fewer_than_a_block.
record AnswersCase : Type 0 where
  answered : IsAnswered Offering
  sizes : KeysInRange network 0 code
  come : HaveCome w device_booted c d keys Offering
  came : CameFromTheCentre Offering w device_booted c d keys
  stale : AreAnswersStale toy w c d keys Offering 1 device_booted
  bounded : 1 < (setting_of w d).me.in_block

answers : AnswersCase
unfolding toy plan_of part_of may_seal out_of edits_of answer_by reserve_of stored_floor floor_of counting_of answer
    answered take_net_key take_row take_link_key take_app_key take_switch take_confirm take_remove take_tunnel
    take_update take_request take_app_request take_verify take_command take_leave rows_have_room keys_differ
    at_most_two_live active_is_live partners_agree links_are_marked floors_are_kept limits_are_started role_is_kept
    pairs_are_kept keeps_rules fits all_fit reject need judge_net judge_nwk candidates judge_aps say knock rejoin
    request_key verify_key member_timer ask tell child_of_router child_of_centre next_member is_unfinished
    centre_timer provision remove_device roll switch_over again share own start disk_of with_disk stands leaves_both
    stored_lines told_lines group_of cut_of setting_of supply task_step step_by step speaker after heard_line
    state_of is_up air draws_used commits_of stations_of refuse_if found_or choose station_of station_at centre_of
    short_of spent both_spent drop_partner drop_others drop_old active_row usable_nets usable_active newest
    usable_of live_of current offered is_live is_known is_told code_row other_user pair_of next_counter stored_limit
    sender_floor applied applied_all after_sealing after_counting after_hearing after_accepting after_boot shown
    with_given_net with_given_link with_declared sealing_key after_event why_no_confirmation why_no_offer
    why_not_confirmed why_not_heard why_not_opened why_offer_not_kept why_no_offer_again why_not_sent why_not_taken
answers = record {
  answered = tt;
  sizes = record { key_size = refl; small = ltb-true _ _ refl; link_size = refl };
  come = record {
    met = record {
      apart = refl;
      declared = record {
        network = record {
          centre_role = refl;
          member_role = refl;
          centre_known = refl;
          short_known = refl;
          shorts_differ = refl;
          in_block = leb-true _ _ refl;
        };
        centre_short = refl;
        centre_block = leb-true _ _ refl;
        centre_declared = refl;
        device_declared = refl;
      };
      stations = record {
        centre = ltb-true _ _ refl;
        device = ltb-true _ _ refl;
        centre_short = ltb-true _ _ refl;
        device_short = ltb-true _ _ refl;
      };
      centre_ready = record { up = refl; unarmed = refl };
      device_ready = record { up = refl; unarmed = refl };
      centre_steady = record { rules = refl; role = refl };
      device_steady = record { rules = refl; role = refl };
    };
    network = record {
      active = _;
      is_active = refl;
      active_key = refl;
      active_sequence = refl;
      found = _;
      is_found = refl;
      found_key = refl;
    };
    device = record {
      network = record {
        active = _;
        is_active = refl;
        active_key = refl;
        active_sequence = refl;
        found = _;
        is_found = refl;
        found_key = refl;
      };
      joined = refl;
      keys = record { row = _; is_current = refl; row_key = refl; none_offered = refl };
    };
    centre = record { row = _; is_current = refl; row_key = refl; offer = _; is_offered = refl; offer_key = refl };
  };
  came = (all_low Nwk 0 4 d c network device_booted.lines refl, all_low Aps 1 4 d c code device_booted.lines refl);
  stale = (record { free = (refl, (refl, refl)); unknown = refl; floor = 4; refused = refl }, tt);
  bounded = ltb-true _ _ refl;
}

-- Instance of floors_are_less_than_a_block_above.
record FloorsCase : Type 0 where
  has_network : HasNetwork (state_of centre_booted.lines c) network 0
  came : CameFrom Nwk w centre_booted d c network
  bounded : (sender_floor d (the_net (usable_of (state_of centre_booted.lines c) 0))).kept - next_counter Nwk
      (state_of centre_booted.lines d) < (setting_of w c).me.in_block

floors : FloorsCase
unfolding toy plan_of part_of may_seal out_of edits_of answer_by reserve_of stored_floor floor_of counting_of answer
    answered take_net_key take_row take_link_key take_app_key take_switch take_confirm take_remove take_tunnel
    take_update take_request take_app_request take_verify take_command take_leave rows_have_room keys_differ
    at_most_two_live active_is_live partners_agree links_are_marked floors_are_kept limits_are_started role_is_kept
    pairs_are_kept keeps_rules fits all_fit reject need judge_net judge_nwk candidates judge_aps say knock rejoin
    request_key verify_key member_timer ask tell child_of_router child_of_centre next_member is_unfinished
    centre_timer provision remove_device roll switch_over again share own start disk_of with_disk stands leaves_both
    stored_lines told_lines group_of cut_of setting_of supply task_step step_by step speaker after heard_line
    state_of is_up air draws_used commits_of stations_of refuse_if found_or choose station_of station_at centre_of
    short_of spent both_spent drop_partner drop_others drop_old active_row usable_nets usable_active newest
    usable_of live_of current offered is_live is_known is_told code_row other_user pair_of next_counter stored_limit
    sender_floor applied applied_all after_sealing after_counting after_hearing after_accepting after_boot shown
    with_given_net with_given_link with_declared sealing_key after_event
floors = record {
  has_network = record {
    active = _;
    is_active = refl;
    active_key = refl;
    active_sequence = refl;
    found = _;
    is_found = refl;
    found_key = refl;
  };
  came = all_low Nwk 0 4 c d network centre_booted.lines refl;
  bounded = ltb-true _ _ refl;
}
