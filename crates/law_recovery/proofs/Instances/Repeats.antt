-- A frame of the worked run is lost or repeated. The run meets the premises of its law, and ends as the law says.
use Rattle.std.specs.Prelude.{◌≡◌, ℕ, false, Some, None, refl}
use Rattle.std.proofs.Math.Path.{subst}
use Rattle.law_recovery.proofs.Instances.Worked.{w, c, d, network, code, drawn, front, the_net, the_link, knocked, joined}
use Rattle.law_recovery.specs.Obstacles.{why_no_confirmation, why_no_offer, why_no_offer_again, why_not_confirmed, why_not_heard, why_not_opened, why_offer_not_kept}
use Rattle.zb_model.specs.Data.{Bytes, Task, HasChild, Received, Stale}
use Rattle.law_recovery.specs.Fronts.{Front, after_event}
use Rattle.law_recovery.specs.Answering.{after_task, frame_of}
use Rattle.law_recovery.specs.Exchanging.{ApsInRange, Confirms, NwkInRange, OffersAgain, Seals, StationsInRange, StaysClosed, net_frame, proof_bytes, request, request_bytes, seals_now}
use Rattle.law_recovery.specs.CommandFrames.{NetFrame, IsCarried, sealed_content}
use Rattle.law_recovery.specs.Twice.{Hears, frame_bytes}
use Rattle.law_recovery.specs.Meeting.{AreDeclared, HasBoth, HasNetwork, HasProved, IsSteady}
use Rattle.law_recovery.specs.Rejoining.{why_not_sent, why_not_taken}
use Rattle.law_recovery.specs.KeyExchange.{IsNew}
use Rattle.law_recovery.specs.RunsJoining.{CanJoin}
use Rattle.law_recovery.specs.Waiting.{JoinsAgain}
use Rattle.law_recovery.proofs.Instances.Joins.{can_join}
use Rattle.zb_model.specs.Answer.{plan_of, part_of, may_seal, out_of, edits_of, answer_by, reserve_of, stored_floor, floor_of, counting_of, answer, answered}
use Rattle.zb_model.specs.Commands.{take_net_key, take_row, take_link_key, take_app_key, take_switch, take_confirm, take_remove, take_tunnel, take_update, take_request, take_app_request, take_verify, take_command, take_leave}
use Rattle.zb_model.specs.Fits.{rows_have_room, keys_differ, at_most_two_live, active_is_live, partners_agree, links_are_marked, floors_are_kept, limits_are_started, role_is_kept, pairs_are_kept, keeps_rules, fits, all_fit}
use Rattle.zb_model.specs.Judging.{reject, need, judge_net, judge_nwk, candidates, judge_aps}
use Rattle.zb_model.specs.OwnEvents.{say, knock, rejoin, request_key, verify_key, member_timer, ask, tell, child_of_router, child_of_centre, next_member, is_unfinished, centre_timer, provision, remove_device, roll, switch_over, again, share, own}
use Rattle.zb_model.specs.Play.{Own, start, disk_of, with_disk, stands, leaves_both, stored_lines, told_lines, group_of, cut_of, setting_of, supply, task_step, step_by, step}
use Rattle.zb_model.specs.Readings.{speaker, after, heard_line, state_of, is_up, air, draws_used, commits_of, stations_of}
use Rattle.zb_model.specs.Rules.{Setting, refuse_if, found_or, choose, station_of, station_at, centre_of, short_of, spent, both_spent, drop_partner, drop_others, drop_old}
use Rattle.zb_model.specs.State.{active_row, usable_nets, usable_active, newest, usable_of, live_of, current, offered, is_live, is_known, is_told, code_row, other_user, pair_of, next_counter, stored_limit, sender_floor, applied, applied_all, after_sealing, after_counting, after_hearing, after_accepting, after_boot, shown, with_given_net, with_given_link, with_declared}
use Rattle.zb_model.specs.Tools.{sealing_key}
use Rattle.zb_model.proofs.Toy.{x, toy}
use Rattle.std.proofs.lemmas.Bool.{ltb-true, leb-true}

abbrev centre : Setting
centre = setting_of w c

abbrev device : Setting
device = setting_of w d

-- what the two seal at a front under a link key
abbrev seals : ℕ → Front → Bytes → Seals
seals node x link = seals_now (state_of x.lines node) network 0 link

abbrev offered_key : Front
offered_key = front 37 7

abbrev told : Front
told = front 52 10

abbrev again_heard : Task
again_heard = Received (request_bytes toy centre device (seals d offered_key code)) None

abbrev proof_heard : Task
proof_heard = Received (proof_bytes toy centre device (seals d told drawn)) None

-- Instance of the_centre_offers_its_key_again.
record OffersAgainCase : Type 0 where
  declared : AreDeclared centre device
  stations : StationsInRange centre device
  nwk : NwkInRange (seals d offered_key code)
  aps : ApsInRange (seals d offered_key code)
  has_network : HasNetwork (state_of offered_key.lines c) network 0
  both : HasBoth (state_of offered_key.lines c) d code drawn
  closed : StaysClosed toy device (seals d offered_key code) drawn
  free : why_no_offer_again (state_of offered_key.lines c) d (seals d offered_key code) ≡ None
  offers : OffersAgain toy centre device (state_of offered_key.lines c) (after_task toy centre
      (state_of offered_key.lines c) again_heard) (seals d offered_key code) drawn (frame_of toy centre
      (state_of offered_key.lines c) again_heard)

offers_again : OffersAgainCase
unfolding toy plan_of part_of may_seal out_of edits_of answer_by reserve_of stored_floor floor_of counting_of answer
    answered take_net_key take_row take_link_key take_app_key take_switch take_confirm take_remove take_tunnel
    take_update take_request take_app_request take_verify take_command take_leave rows_have_room keys_differ
    at_most_two_live active_is_live partners_agree links_are_marked floors_are_kept limits_are_started role_is_kept
    pairs_are_kept keeps_rules fits all_fit reject need judge_net judge_nwk candidates judge_aps say knock rejoin
    request_key verify_key member_timer ask tell child_of_router child_of_centre next_member is_unfinished
    centre_timer provision remove_device roll switch_over again share own start disk_of with_disk stands leaves_both
    stored_lines told_lines group_of cut_of setting_of supply task_step step_by step speaker after heard_line
    state_of is_up air draws_used commits_of stations_of refuse_if found_or choose station_of station_at centre_of
    short_of spent both_spent drop_partner drop_others drop_old active_row usable_nets usable_active newest
    usable_of live_of current offered is_live is_known is_told code_row other_user pair_of next_counter stored_limit
    sender_floor applied applied_all after_sealing after_counting after_hearing after_accepting after_boot shown
    with_given_net with_given_link with_declared sealing_key after_event why_no_confirmation why_no_offer
    why_not_confirmed why_not_heard why_not_opened why_offer_not_kept why_no_offer_again after_task why_not_sent
    why_not_taken
offers_again = record {
  declared = record {
    network = record {
      centre_role = refl;
      member_role = refl;
      centre_known = refl;
      short_known = refl;
      shorts_differ = refl;
      in_block = leb-true _ _ refl;
    };
    centre_short = refl;
    centre_block = leb-true _ _ refl;
    centre_declared = refl;
    device_declared = refl;
  };
  stations = record {
    centre = ltb-true _ _ refl;
    device = ltb-true _ _ refl;
    centre_short = ltb-true _ _ refl;
    device_short = ltb-true _ _ refl;
  };
  nwk = record { key = refl; sequence = ltb-true _ _ refl; counter = ltb-true _ _ refl };
  aps = record { link = refl; counter = ltb-true _ _ refl };
  has_network = record {
    active = _;
    is_active = refl;
    active_key = refl;
    active_sequence = refl;
    found = _;
    is_found = refl;
    found_key = refl;
  };
  both = record { row = _; is_current = refl; row_key = refl; offer = _; is_offered = refl; offer_key = refl };
  closed = refl;
  free = refl;
  offers = record {
    sent = refl;
    network = record {
      active = the_net (active_row (after_task toy centre (state_of offered_key.lines c) again_heard));
      is_active = refl;
      active_key = refl;
      active_sequence = refl;
      found = the_net (usable_of (after_task toy centre (state_of offered_key.lines c) again_heard) 0);
      is_found = refl;
      found_key = refl;
    };
    keys = record {
      row = the_link (current (after_task toy centre (state_of offered_key.lines c) again_heard) d);
      is_current = refl;
      row_key = refl;
      offer = the_link (offered (after_task toy centre (state_of offered_key.lines c) again_heard) d);
      is_offered = refl;
      offer_key = refl;
    };
  };
}

-- Instance of the_centre_confirms_its_key_again.
record ConfirmsAgainCase : Type 0 where
  declared : AreDeclared centre device
  stations : StationsInRange centre device
  nwk : NwkInRange (seals d told drawn)
  has_network : HasNetwork (state_of told.lines c) network 0
  has_proved : HasProved (state_of told.lines c) d drawn
  free : why_no_confirmation (state_of told.lines c) d (seals d told drawn) ≡ None
  confirms : Confirms toy centre device (state_of told.lines c) (after_task toy centre
      (state_of told.lines c) proof_heard) (seals d told drawn) (frame_of toy centre
      (state_of told.lines c) proof_heard)

confirms_again : ConfirmsAgainCase
unfolding toy plan_of part_of may_seal out_of edits_of answer_by reserve_of stored_floor floor_of counting_of answer
    answered take_net_key take_row take_link_key take_app_key take_switch take_confirm take_remove take_tunnel
    take_update take_request take_app_request take_verify take_command take_leave rows_have_room keys_differ
    at_most_two_live active_is_live partners_agree links_are_marked floors_are_kept limits_are_started role_is_kept
    pairs_are_kept keeps_rules fits all_fit reject need judge_net judge_nwk candidates judge_aps say knock rejoin
    request_key verify_key member_timer ask tell child_of_router child_of_centre next_member is_unfinished
    centre_timer provision remove_device roll switch_over again share own start disk_of with_disk stands leaves_both
    stored_lines told_lines group_of cut_of setting_of supply task_step step_by step speaker after heard_line
    state_of is_up air draws_used commits_of stations_of refuse_if found_or choose station_of station_at centre_of
    short_of spent both_spent drop_partner drop_others drop_old active_row usable_nets usable_active newest
    usable_of live_of current offered is_live is_known is_told code_row other_user pair_of next_counter stored_limit
    sender_floor applied applied_all after_sealing after_counting after_hearing after_accepting after_boot shown
    with_given_net with_given_link with_declared sealing_key after_event why_no_confirmation why_no_offer
    why_not_confirmed why_not_heard why_not_opened why_offer_not_kept why_no_offer_again after_task why_not_sent
    why_not_taken
confirms_again = record {
  declared = record {
    network = record {
      centre_role = refl;
      member_role = refl;
      centre_known = refl;
      short_known = refl;
      shorts_differ = refl;
      in_block = leb-true _ _ refl;
    };
    centre_short = refl;
    centre_block = leb-true _ _ refl;
    centre_declared = refl;
    device_declared = refl;
  };
  stations = record {
    centre = ltb-true _ _ refl;
    device = ltb-true _ _ refl;
    centre_short = ltb-true _ _ refl;
    device_short = ltb-true _ _ refl;
  };
  nwk = record { key = refl; sequence = ltb-true _ _ refl; counter = ltb-true _ _ refl };
  has_network = record {
    active = _;
    is_active = refl;
    active_key = refl;
    active_sequence = refl;
    found = _;
    is_found = refl;
    found_key = refl;
  };
  has_proved = record { row = _; is_current = refl; row_key = refl; verified = refl; none_offered = refl };
  free = refl;
  confirms = record {
    sent = refl;
    network = record {
      active = the_net (active_row (after_task toy centre (state_of told.lines c) proof_heard));
      is_active = refl;
      active_key = refl;
      active_sequence = refl;
      found = the_net (usable_of (after_task toy centre (state_of told.lines c) proof_heard) 0);
      is_found = refl;
      found_key = refl;
    };
    keys = record {
      row = the_link (current (after_task toy centre (state_of told.lines c) proof_heard) d);
      is_current = refl;
      row_key = refl;
      verified = refl;
      none_offered = refl;
    };
  };
}

abbrev frame : NetFrame
frame = net_frame device centre (seals d joined code)

abbrev content : Bytes
content = sealed_content toy (request device (seals d joined code))

-- Instance of a_frame_that_comes_twice_is_stale.
record ComesTwiceCase : Type 0 where
  steady : IsSteady centre (state_of joined.lines c)
  carried : IsCarried toy frame content
  hears : Hears centre (state_of joined.lines c) frame
  has_network : HasNetwork (after_task toy centre (state_of joined.lines c) (Received (frame_bytes toy frame content)
      (Some drawn))) network 0
  refused : (answer toy centre (after_task toy centre (state_of joined.lines c) (Received
      (frame_bytes toy frame content) (Some drawn))) (Received (frame_bytes toy frame content) None)).refusal ≡ Some
      (Stale 1)
  unchanged : after_task toy centre (after_task toy centre (state_of joined.lines c) (Received
      (frame_bytes toy frame content) (Some drawn))) (Received (frame_bytes toy frame content) None)
      ≡ after_task toy centre (state_of joined.lines c) (Received (frame_bytes toy frame content) (Some drawn))

comes_twice : ComesTwiceCase
unfolding toy plan_of part_of may_seal out_of edits_of answer_by reserve_of stored_floor floor_of counting_of answer
    answered take_net_key take_row take_link_key take_app_key take_switch take_confirm take_remove take_tunnel
    take_update take_request take_app_request take_verify take_command take_leave rows_have_room keys_differ
    at_most_two_live active_is_live partners_agree links_are_marked floors_are_kept limits_are_started role_is_kept
    pairs_are_kept keeps_rules fits all_fit reject need judge_net judge_nwk candidates judge_aps say knock rejoin
    request_key verify_key member_timer ask tell child_of_router child_of_centre next_member is_unfinished
    centre_timer provision remove_device roll switch_over again share own start disk_of with_disk stands leaves_both
    stored_lines told_lines group_of cut_of setting_of supply task_step step_by step speaker after heard_line
    state_of is_up air draws_used commits_of stations_of refuse_if found_or choose station_of station_at centre_of
    short_of spent both_spent drop_partner drop_others drop_old active_row usable_nets usable_active newest
    usable_of live_of current offered is_live is_known is_told code_row other_user pair_of next_counter stored_limit
    sender_floor applied applied_all after_sealing after_counting after_hearing after_accepting after_boot shown
    with_given_net with_given_link with_declared sealing_key after_event why_no_confirmation why_no_offer
    why_not_confirmed why_not_heard why_not_opened why_offer_not_kept why_no_offer_again after_task why_not_sent
    why_not_taken
comes_twice = record {
  steady = record { rules = refl; role = refl };
  carried = record { body = _; shown = refl; opens = refl };
  hears = record {
    to = refl;
    apart = refl;
    small = ltb-true _ _ refl;
    declared = refl;
    member = refl;
    network = record {
      active = _;
      is_active = refl;
      active_key = refl;
      active_sequence = refl;
      found = _;
      is_found = refl;
      found_key = refl;
    };
    free = refl;
  };
  has_network = record {
    active = the_net
        (active_row
        (after_task toy centre (state_of joined.lines c) (Received (frame_bytes toy frame content) (Some drawn))));
    is_active = refl;
    active_key = refl;
    active_sequence = refl;
    found = the_net
        (usable_of
        (after_task toy centre (state_of joined.lines c) (Received (frame_bytes toy frame content) (Some drawn)))
        0);
    is_found = refl;
    found_key = refl;
  };
  refused = refl;
  unchanged = refl;
}

-- the centre's network key for the device is lost
abbrev lost : Front
lost = front 13 4

unfoldable can_still_join : CanJoin w lost c d
unfolding toy plan_of part_of may_seal out_of edits_of answer_by reserve_of stored_floor floor_of counting_of answer
    answered take_net_key take_row take_link_key take_app_key take_switch take_confirm take_remove take_tunnel
    take_update take_request take_app_request take_verify take_command take_leave rows_have_room keys_differ
    at_most_two_live active_is_live partners_agree links_are_marked floors_are_kept limits_are_started role_is_kept
    pairs_are_kept keeps_rules fits all_fit reject need judge_net judge_nwk candidates judge_aps say knock rejoin
    request_key verify_key member_timer ask tell child_of_router child_of_centre next_member is_unfinished
    centre_timer provision remove_device roll switch_over again share own start disk_of with_disk stands leaves_both
    stored_lines told_lines group_of cut_of setting_of supply task_step step_by step speaker after heard_line
    state_of is_up air draws_used commits_of stations_of refuse_if found_or choose station_of station_at centre_of
    short_of spent both_spent drop_partner drop_others drop_old active_row usable_nets usable_active newest
    usable_of live_of current offered is_live is_known is_told code_row other_user pair_of next_counter stored_limit
    sender_floor applied applied_all after_sealing after_counting after_hearing after_accepting after_boot shown
    with_given_net with_given_link with_declared sealing_key after_event why_no_confirmation why_no_offer
    why_not_confirmed why_not_heard why_not_opened why_offer_not_kept why_no_offer_again after_task why_not_sent
    why_not_taken
can_still_join =
    record {
      apart = refl;
      mine = refl;
      network = record {
        centre_role = refl;
        member_role = refl;
        centre_known = refl;
        short_known = refl;
        shorts_differ = refl;
        in_block = leb-true _ _ refl;
      };
      centre_ready = record { up = refl; unarmed = refl };
      device_ready = record { up = refl; unarmed = refl };
      rules = refl;
      role = refl;
      introduced = record {
        net = _;
        active_key = refl;
        row = _;
        at_centre = refl;
        own = _;
        at_device = refl;
        same_key = refl;
        provisional = refl;
        no_offer = refl;
        knocked = refl;
      };
      in_range = record {
        key = refl;
        sequence = ltb-true _ _ refl;
        device = ltb-true _ _ refl;
        centre = ltb-true _ _ refl;
        to = ltb-true _ _ refl;
        from = ltb-true _ _ refl;
        link = refl;
        counter = ltb-true _ _ refl;
      };
      not_stopped = refl;
      not_refused = refl;
    }

sent_once : lost ≡ after_event toy w knocked (Own c (HasChild d false))
unfolding toy plan_of part_of may_seal out_of edits_of answer_by reserve_of stored_floor floor_of counting_of answer
    answered take_net_key take_row take_link_key take_app_key take_switch take_confirm take_remove take_tunnel
    take_update take_request take_app_request take_verify take_command take_leave rows_have_room keys_differ
    at_most_two_live active_is_live partners_agree links_are_marked floors_are_kept limits_are_started role_is_kept
    pairs_are_kept keeps_rules fits all_fit reject need judge_net judge_nwk candidates judge_aps say knock rejoin
    request_key verify_key member_timer ask tell child_of_router child_of_centre next_member is_unfinished
    centre_timer provision remove_device roll switch_over again share own start disk_of with_disk stands leaves_both
    stored_lines told_lines group_of cut_of setting_of supply task_step step_by step speaker after heard_line
    state_of is_up air draws_used commits_of stations_of refuse_if found_or choose station_of station_at centre_of
    short_of spent both_spent drop_partner drop_others drop_old active_row usable_nets usable_active newest
    usable_of live_of current offered is_live is_known is_told code_row other_user pair_of next_counter stored_limit
    sender_floor applied applied_all after_sealing after_counting after_hearing after_accepting after_boot shown
    with_given_net with_given_link with_declared sealing_key after_event
sent_once = refl

-- Instance of a_lost_network_key_is_sent_again.
record IsSentAgainCase : Type 0 where
  can : CanJoin w knocked c d
  is_new : IsNew w knocked c d can_join
  again : JoinsAgain w knocked (after_event toy w knocked (Own c (HasChild d false))) c d can_join

is_sent_again : IsSentAgainCase
unfolding toy plan_of part_of may_seal out_of edits_of answer_by reserve_of stored_floor floor_of counting_of answer
    answered take_net_key take_row take_link_key take_app_key take_switch take_confirm take_remove take_tunnel
    take_update take_request take_app_request take_verify take_command take_leave rows_have_room keys_differ
    at_most_two_live active_is_live partners_agree links_are_marked floors_are_kept limits_are_started role_is_kept
    pairs_are_kept keeps_rules fits all_fit reject need judge_net judge_nwk candidates judge_aps say knock rejoin
    request_key verify_key member_timer ask tell child_of_router child_of_centre next_member is_unfinished
    centre_timer provision remove_device roll switch_over again share own start disk_of with_disk stands leaves_both
    stored_lines told_lines group_of cut_of setting_of supply task_step step_by step speaker after heard_line
    state_of is_up air draws_used commits_of stations_of refuse_if found_or choose station_of station_at centre_of
    short_of spent both_spent drop_partner drop_others drop_old active_row usable_nets usable_active newest
    usable_of live_of current offered is_live is_known is_told code_row other_user pair_of next_counter stored_limit
    sender_floor applied applied_all after_sealing after_counting after_hearing after_accepting after_boot shown
    with_given_net with_given_link with_declared sealing_key after_event can_join can_still_join
is_sent_again = record {
  can = can_join;
  is_new = record {
    met = record {
      apart = refl;
      declared = record {
        network = record {
          centre_role = refl;
          member_role = refl;
          centre_known = refl;
          short_known = refl;
          shorts_differ = refl;
          in_block = leb-true _ _ refl;
        };
        centre_short = refl;
        centre_block = leb-true _ _ refl;
        centre_declared = refl;
        device_declared = refl;
      };
      stations = record {
        centre = ltb-true _ _ refl;
        device = ltb-true _ _ refl;
        centre_short = ltb-true _ _ refl;
        device_short = ltb-true _ _ refl;
      };
      centre_ready = record { up = refl; unarmed = refl };
      device_ready = record { up = refl; unarmed = refl };
      centre_steady = record { rules = refl; role = refl };
      device_steady = record { rules = refl; role = refl };
    };
    network = record {
      active = _;
      is_active = refl;
      active_key = refl;
      active_sequence = refl;
      found = _;
      is_found = refl;
      found_key = refl;
    };
    none_offered = refl;
    key_is_new = refl;
  };
  again = subst (λ y. JoinsAgain w knocked y c d can_join) sent_once
      (record {
        again = can_still_join;
        is_new = record {
          met = record {
            apart = refl;
            declared = record {
              network = record {
                centre_role = refl;
                member_role = refl;
                centre_known = refl;
                short_known = refl;
                shorts_differ = refl;
                in_block = leb-true _ _ refl;
              };
              centre_short = refl;
              centre_block = leb-true _ _ refl;
              centre_declared = refl;
              device_declared = refl;
            };
            stations = record {
              centre = ltb-true _ _ refl;
              device = ltb-true _ _ refl;
              centre_short = ltb-true _ _ refl;
              device_short = ltb-true _ _ refl;
            };
            centre_ready = record { up = refl; unarmed = refl };
            device_ready = record { up = refl; unarmed = refl };
            centre_steady = record { rules = refl; role = refl };
            device_steady = record { rules = refl; role = refl };
          };
          network = record {
            active = _;
            is_active = refl;
            active_key = refl;
            active_sequence = refl;
            found = _;
            is_found = refl;
            found_key = refl;
          };
          none_offered = refl;
          key_is_new = refl;
        };
        network = refl;
        sequence = refl;
        link = refl;
        counter = refl;
      });
}
