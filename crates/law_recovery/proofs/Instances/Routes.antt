-- A device joins through a router, as a whole and event by event. At a front of a small run nothing prevents it, and
-- it ends as the laws say.
use Rattle.std.specs.Prelude.{◌≡◌, ℕ, false, [], ◌∷◌, ◌++◌, Some, None, refl}
use Rattle.law_recovery.proofs.Instances.Worked.{c, d, network, code, drawn, the_net, the_link}
use Rattle.law_recovery.proofs.Instances.Worked as worked
use Rattle.law_recovery.specs.Obstacles.{why_no_confirmation, why_no_offer, why_no_offer_again, why_not_confirmed, why_not_heard, why_not_opened, why_offer_not_kept}
use Rattle.std.proofs.Common.{inl}
use Rattle.zb_model.specs.Data.{Bytes, Router, Station, State, Task, HasChild, Received, DoKnock, DoProvision, Provisional, Row, Live, Became, Moved}
use Rattle.zb_model.specs.Lines.{Changed, Commit}
use Rattle.law_recovery.specs.Answering.{after_task, frame_of}
use Rattle.law_recovery.specs.Exchanging.{ApsInRange, NwkInRange, Seals, StationsInRange, seals_now}
use Rattle.law_recovery.specs.Fronts.{Front, after_event, after_events}
use Rattle.law_recovery.specs.Joining.{AreIntroduced}
use Rattle.law_recovery.specs.KeyExchange.{NothingStops}
use Rattle.law_recovery.specs.KeyFrames.{KeyFrameInRange, KeyFrame, key_bytes}
use Rattle.law_recovery.specs.Knowing.{MeetsKey}
use Rattle.law_recovery.specs.Meeting.{HasLink, HasNetwork, IsJoined}
use Rattle.law_recovery.specs.Rejoining.{answer_frame, why_not_taken}
use Rattle.law_recovery.specs.Relaying.{AreRouted, IsRouting, why_no_report, why_no_tunnel, why_not_relayed}
use Rattle.law_recovery.specs.Routed.{MayJoinThrough, RouteIsFree, routed_front, routed_joining_events}
use Rattle.law_recovery.specs.RouterFrames.{relayed_frame, report_bytes, tunnel_bytes}
use Rattle.zb_model.specs.Answer.{plan_of, part_of, may_seal, out_of, edits_of, answer_by, reserve_of, stored_floor, floor_of, counting_of, answer, answered}
use Rattle.zb_model.specs.Commands.{take_net_key, take_row, take_link_key, take_app_key, take_switch, take_confirm, take_remove, take_tunnel, take_update, take_request, take_app_request, take_verify, take_command, take_leave}
use Rattle.zb_model.specs.Fits.{rows_have_room, keys_differ, at_most_two_live, active_is_live, partners_agree, links_are_marked, floors_are_kept, limits_are_started, role_is_kept, pairs_are_kept, keeps_rules, fits, all_fit}
use Rattle.zb_model.specs.Judging.{reject, need, judge_net, judge_nwk, candidates, judge_aps}
use Rattle.zb_model.specs.OwnEvents.{say, knock, rejoin, request_key, verify_key, member_timer, ask, tell, child_of_router, child_of_centre, next_member, is_unfinished, centre_timer, provision, remove_device, roll, switch_over, again, share, own}
use Rattle.zb_model.specs.Play.{Schedule, Own, start, disk_of, with_disk, stands, leaves_both, stored_lines, told_lines, group_of, cut_of, setting_of, supply, task_step, step_by, step}
use Rattle.zb_model.specs.Readings.{speaker, after, heard_line, state_of, is_up, air, draws_used, commits_of, stations_of}
use Rattle.zb_model.specs.Rules.{Setting, refuse_if, found_or, choose, station_of, station_at, centre_of, short_of, spent, both_spent, drop_partner, drop_others, drop_old}
use Rattle.zb_model.specs.State.{active_row, usable_nets, usable_active, newest, usable_of, live_of, current, offered, is_live, is_known, is_told, code_row, other_user, pair_of, next_counter, stored_limit, sender_floor, applied, applied_all, after_sealing, after_counting, after_hearing, after_accepting, after_boot, shown, with_given_net, with_given_link, with_declared}
use Rattle.zb_model.specs.Tools.{sealing_key}
use Rattle.zb_model.proofs.Toy.{x, toy}
use Rattle.std.proofs.lemmas.Bool.{ltb-true, leb-true}

abbrev pub r : ℕ
r = 5149012952875011

abbrev pub router_code : Bytes
router_code = x "A7576CD720766844FC1422177D9260D0"

abbrev router_station : Station
router_station = record { name = x "72"; eui = r; short = 15437; role = Router; out_block = 16; in_block = 4 }

-- the nodes of the worked run, and a router that has the network key and an install code
abbrev pub w : Schedule
w = record worked.w {
  nodes = worked.w.nodes ++ (record {
    station = router_station;
    code = Some router_code;
    network = Some (network, 0);
    start_nwk = 0;
    start_aps = 0;
  } ∷ []);
}

-- the codes of both are entered, and the device has knocked
abbrev pub routed : Front
routed = record {
  lines = start w ++ (
      Changed 1 c (Moved (Row r router_code Provisional)) ∷
      Changed 1 c (Moved (Live r)) ∷
      Commit 1 c ∷
      Changed 2 c (Moved (Row d code Provisional)) ∷
      Changed 2 c (Moved (Live d)) ∷
      Commit 2 c ∷
      Changed 3 d (Moved (Became State.Knocked)) ∷
      Commit 3 d ∷
      []);
  disks = [];
  number = 4;
}

three_events : routed ≡ after_events toy w (record { lines = start w; disks = []; number = 1 })
    (Own c (DoProvision r router_code) ∷ Own c (DoProvision d code) ∷ Own d DoKnock ∷ [])
unfolding toy plan_of part_of may_seal out_of edits_of answer_by reserve_of stored_floor floor_of counting_of answer
    answered take_net_key take_row take_link_key take_app_key take_switch take_confirm take_remove take_tunnel
    take_update take_request take_app_request take_verify take_command take_leave rows_have_room keys_differ
    at_most_two_live active_is_live partners_agree links_are_marked floors_are_kept limits_are_started role_is_kept
    pairs_are_kept keeps_rules fits all_fit reject need judge_net judge_nwk candidates judge_aps say knock rejoin
    request_key verify_key member_timer ask tell child_of_router child_of_centre next_member is_unfinished
    centre_timer provision remove_device roll switch_over again share own start disk_of with_disk stands leaves_both
    stored_lines told_lines group_of cut_of setting_of supply task_step step_by step speaker after heard_line
    state_of is_up air draws_used commits_of stations_of refuse_if found_or choose station_of station_at centre_of
    short_of spent both_spent drop_partner drop_others drop_old active_row usable_nets usable_active newest
    usable_of live_of current offered is_live is_known is_told code_row other_user pair_of next_counter stored_limit
    sender_floor applied applied_all after_sealing after_counting after_hearing after_accepting after_boot shown
    with_given_net with_given_link with_declared sealing_key after_event
three_events = refl

unfoldable may_join_through : MayJoinThrough w routed c r d router_code
unfolding toy plan_of part_of may_seal out_of edits_of answer_by reserve_of stored_floor floor_of counting_of answer
    answered take_net_key take_row take_link_key take_app_key take_switch take_confirm take_remove take_tunnel
    take_update take_request take_app_request take_verify take_command take_leave rows_have_room keys_differ
    at_most_two_live active_is_live partners_agree links_are_marked floors_are_kept limits_are_started role_is_kept
    pairs_are_kept keeps_rules fits all_fit reject need judge_net judge_nwk candidates judge_aps say knock rejoin
    request_key verify_key member_timer ask tell child_of_router child_of_centre next_member is_unfinished
    centre_timer provision remove_device roll switch_over again share own start disk_of with_disk stands leaves_both
    stored_lines told_lines group_of cut_of setting_of supply task_step step_by step speaker after heard_line
    state_of is_up air draws_used commits_of stations_of refuse_if found_or choose station_of station_at centre_of
    short_of spent both_spent drop_partner drop_others drop_old active_row usable_nets usable_active newest
    usable_of live_of current offered is_live is_known is_told code_row other_user pair_of next_counter stored_limit
    sender_floor applied applied_all after_sealing after_counting after_hearing after_accepting after_boot shown
    with_given_net with_given_link with_declared sealing_key after_event
may_join_through =
    record {
      device_met = record {
        apart = refl;
        declared = record {
          network = record {
            centre_role = refl;
            member_role = refl;
            centre_known = refl;
            short_known = refl;
            shorts_differ = refl;
            in_block = leb-true _ _ refl;
          };
          centre_short = refl;
          centre_block = leb-true _ _ refl;
          centre_declared = refl;
          device_declared = refl;
        };
        stations = record {
          centre = ltb-true _ _ refl;
          device = ltb-true _ _ refl;
          centre_short = ltb-true _ _ refl;
          device_short = ltb-true _ _ refl;
        };
        centre_ready = record { up = refl; unarmed = refl };
        device_ready = record { up = refl; unarmed = refl };
        centre_steady = record { rules = refl; role = refl };
        device_steady = record { rules = refl; role = refl };
      };
      router_met = record {
        apart = refl;
        declared = record {
          network = record {
            centre_role = refl;
            member_role = refl;
            centre_known = refl;
            short_known = refl;
            shorts_differ = refl;
            in_block = leb-true _ _ refl;
          };
          centre_short = refl;
          centre_block = leb-true _ _ refl;
          centre_declared = refl;
          device_declared = refl;
        };
        stations = record {
          centre = ltb-true _ _ refl;
          device = ltb-true _ _ refl;
          centre_short = ltb-true _ _ refl;
          device_short = ltb-true _ _ refl;
        };
        centre_ready = record { up = refl; unarmed = refl };
        device_ready = record { up = refl; unarmed = refl };
        centre_steady = record { rules = refl; role = refl };
        device_steady = record { rules = refl; role = refl };
      };
      apart = refl;
      device_named = refl;
      routed = record {
        router = record {
          network = record {
            centre_role = refl;
            member_role = refl;
            centre_known = refl;
            short_known = refl;
            shorts_differ = refl;
            in_block = leb-true _ _ refl;
          };
          centre_short = refl;
          centre_block = leb-true _ _ refl;
          centre_declared = refl;
          device_declared = refl;
        };
        device = record {
          network = record {
            centre_role = refl;
            member_role = refl;
            centre_known = refl;
            short_known = refl;
            shorts_differ = refl;
            in_block = leb-true _ _ refl;
          };
          centre_short = refl;
          centre_block = leb-true _ _ refl;
          centre_declared = refl;
          device_declared = refl;
        };
        router_role = refl;
        router_acts = refl;
        child_declared = refl;
        child_short = refl;
        apart = refl;
        shorts_differ = refl;
      };
      introduced = record {
        net = _;
        active_key = refl;
        row = _;
        at_centre = refl;
        own = _;
        at_device = refl;
        same_key = refl;
        provisional = refl;
        no_offer = refl;
        knocked = refl;
      };
      none_offered = record { row = _; is_current = refl; row_key = refl; none_offered = refl };
      network = record {
        active = _;
        is_active = refl;
        active_key = refl;
        active_sequence = refl;
        found = _;
        is_found = refl;
        found_key = refl;
      };
      router = record {
        network = record {
          active = _;
          is_active = refl;
          active_key = refl;
          active_sequence = refl;
          found = _;
          is_found = refl;
          found_key = refl;
        };
        keys = record { row = _; is_current = refl; row_key = refl; none_offered = refl };
        stays = refl;
      };
      router_keys = record { row = _; is_current = refl; row_key = refl; none_offered = refl };
      in_range = record { key_size = refl; small = ltb-true _ _ refl; link_size = refl };
      router_size = refl;
      meets = inl refl;
    }

-- Instance of a_device_joins_through_a_router_in_a_run.
record JoinsThroughCase : Type 0 where
  may : MayJoinThrough w routed c r d router_code
  route : RouteIsFree w routed c r d router_code network 0 may_join_through.introduced.own
  free : NothingStops toy w (routed_front toy w routed c r d) c d network 0 code drawn

joins_through : JoinsThroughCase
unfolding toy plan_of part_of may_seal out_of edits_of answer_by reserve_of stored_floor floor_of counting_of answer
    answered take_net_key take_row take_link_key take_app_key take_switch take_confirm take_remove take_tunnel
    take_update take_request take_app_request take_verify take_command take_leave rows_have_room keys_differ
    at_most_two_live active_is_live partners_agree links_are_marked floors_are_kept limits_are_started role_is_kept
    pairs_are_kept keeps_rules fits all_fit reject need judge_net judge_nwk candidates judge_aps say knock rejoin
    request_key verify_key member_timer ask tell child_of_router child_of_centre next_member is_unfinished
    centre_timer provision remove_device roll switch_over again share own start disk_of with_disk stands leaves_both
    stored_lines told_lines group_of cut_of setting_of supply task_step step_by step speaker after heard_line
    state_of is_up air draws_used commits_of stations_of refuse_if found_or choose station_of station_at centre_of
    short_of spent both_spent drop_partner drop_others drop_old active_row usable_nets usable_active newest
    usable_of live_of current offered is_live is_known is_told code_row other_user pair_of next_counter stored_limit
    sender_floor applied applied_all after_sealing after_counting after_hearing after_accepting after_boot shown
    with_given_net with_given_link with_declared sealing_key after_event may_join_through why_no_tunnel
    why_no_confirmation why_no_offer why_not_confirmed why_not_heard why_not_opened why_offer_not_kept
    why_no_offer_again why_not_taken
joins_through = record {
  may = may_join_through;
  route = record { report = refl; tunnel = refl; relayed = refl; taken = refl };
  free = record {
    request = refl;
    draw = refl;
    offer = refl;
    fresh = refl;
    kept = refl;
    proof = refl;
    confirmation = refl;
    confirmed = refl;
  };
}

-- and it ends as that law says
ends_confirmed : (state_of (after_events toy w routed (routed_joining_events toy w routed c r d)).lines d).state
    ≡ State.Confirmed
unfolding toy plan_of part_of may_seal out_of edits_of answer_by reserve_of stored_floor floor_of counting_of answer
    answered take_net_key take_row take_link_key take_app_key take_switch take_confirm take_remove take_tunnel
    take_update take_request take_app_request take_verify take_command take_leave rows_have_room keys_differ
    at_most_two_live active_is_live partners_agree links_are_marked floors_are_kept limits_are_started role_is_kept
    pairs_are_kept keeps_rules fits all_fit reject need judge_net judge_nwk candidates judge_aps say knock rejoin
    request_key verify_key member_timer ask tell child_of_router child_of_centre next_member is_unfinished
    centre_timer provision remove_device roll switch_over again share own start disk_of with_disk stands leaves_both
    stored_lines told_lines group_of cut_of setting_of supply task_step step_by step speaker after heard_line
    state_of is_up air draws_used commits_of stations_of refuse_if found_or choose station_of station_at centre_of
    short_of spent both_spent drop_partner drop_others drop_old active_row usable_nets usable_active newest
    usable_of live_of current offered is_live is_known is_told code_row other_user pair_of next_counter stored_limit
    sender_floor applied applied_all after_sealing after_counting after_hearing after_accepting after_boot shown
    with_given_net with_given_link with_declared sealing_key after_event
ends_confirmed = refl

abbrev centre : Setting
centre = setting_of w c

abbrev router : Setting
router = setting_of w r

abbrev device : Setting
device = setting_of w d

-- what the router seals for its report, and the centre for its Tunnel
abbrev report_seals : Seals
report_seals = seals_now (state_of routed.lines r) network 0 router_code

abbrev tunnel_seals : Seals
tunnel_seals = seals_now (state_of routed.lines c) network 0 router_code

abbrev report_heard : Task
report_heard = Received (report_bytes toy centre router device report_seals) None

abbrev for_device : KeyFrame
for_device =
    answer_frame centre device (state_of routed.lines c) may_join_through.introduced.net
    may_join_through.introduced.row

abbrev tunnel_heard : Task
tunnel_heard = Received (tunnel_bytes toy centre router tunnel_seals for_device) None

abbrev relayed : KeyFrame
relayed =
    relayed_frame centre router device (state_of routed.lines c) may_join_through.introduced.net
    may_join_through.introduced.row

abbrev relay : Task
relay = Received (key_bytes toy relayed) None

are_routed : AreRouted centre router device
are_routed = may_join_through.routed

-- Instance of a_router_reports_its_child.
record ReportsCase : Type 0 where
  of_route : AreRouted centre router device
  routing : IsRouting (state_of routed.lines r) c network 0 router_code
  free : why_no_report (state_of routed.lines r) ≡ None
  sent : frame_of toy router (state_of routed.lines r) (HasChild d false) ≡ Some
      (report_bytes toy centre router device report_seals)

reports : ReportsCase
unfolding toy plan_of part_of may_seal out_of edits_of answer_by reserve_of stored_floor floor_of counting_of answer
    answered take_net_key take_row take_link_key take_app_key take_switch take_confirm take_remove take_tunnel
    take_update take_request take_app_request take_verify take_command take_leave rows_have_room keys_differ
    at_most_two_live active_is_live partners_agree links_are_marked floors_are_kept limits_are_started role_is_kept
    pairs_are_kept keeps_rules fits all_fit reject need judge_net judge_nwk candidates judge_aps say knock rejoin
    request_key verify_key member_timer ask tell child_of_router child_of_centre next_member is_unfinished
    centre_timer provision remove_device roll switch_over again share own start disk_of with_disk stands leaves_both
    stored_lines told_lines group_of cut_of setting_of supply task_step step_by step speaker after heard_line
    state_of is_up air draws_used commits_of stations_of refuse_if found_or choose station_of station_at centre_of
    short_of spent both_spent drop_partner drop_others drop_old active_row usable_nets usable_active newest
    usable_of live_of current offered is_live is_known is_told code_row other_user pair_of next_counter stored_limit
    sender_floor applied applied_all after_sealing after_counting after_hearing after_accepting after_boot shown
    with_given_net with_given_link with_declared sealing_key after_event
reports = record {
  of_route = are_routed;
  routing = record {
    network = record {
      active = _;
      is_active = refl;
      active_key = refl;
      active_sequence = refl;
      found = _;
      is_found = refl;
      found_key = refl;
    };
    keys = record { row = _; is_current = refl; row_key = refl; none_offered = refl };
    stays = refl;
  };
  free = refl;
  sent = refl;
}

-- Instance of the_centre_answers_a_report.
record TunnelsCase : Type 0 where
  of_route : AreRouted centre router device
  stations : StationsInRange centre router
  then_stations : StationsInRange centre device
  nwk : NwkInRange report_seals
  aps : ApsInRange report_seals
  has_network : HasNetwork (state_of routed.lines c) network 0
  has_link : HasLink (state_of routed.lines c) r router_code
  free : why_no_tunnel (state_of routed.lines c) r d report_seals ≡ None
  sent : frame_of toy centre (state_of routed.lines c) report_heard ≡ Some
      (tunnel_bytes toy centre router tunnel_seals for_device)

tunnels : TunnelsCase
unfolding toy plan_of part_of may_seal out_of edits_of answer_by reserve_of stored_floor floor_of counting_of answer
    answered take_net_key take_row take_link_key take_app_key take_switch take_confirm take_remove take_tunnel
    take_update take_request take_app_request take_verify take_command take_leave rows_have_room keys_differ
    at_most_two_live active_is_live partners_agree links_are_marked floors_are_kept limits_are_started role_is_kept
    pairs_are_kept keeps_rules fits all_fit reject need judge_net judge_nwk candidates judge_aps say knock rejoin
    request_key verify_key member_timer ask tell child_of_router child_of_centre next_member is_unfinished
    centre_timer provision remove_device roll switch_over again share own start disk_of with_disk stands leaves_both
    stored_lines told_lines group_of cut_of setting_of supply task_step step_by step speaker after heard_line
    state_of is_up air draws_used commits_of stations_of refuse_if found_or choose station_of station_at centre_of
    short_of spent both_spent drop_partner drop_others drop_old active_row usable_nets usable_active newest
    usable_of live_of current offered is_live is_known is_told code_row other_user pair_of next_counter stored_limit
    sender_floor applied applied_all after_sealing after_counting after_hearing after_accepting after_boot shown
    with_given_net with_given_link with_declared sealing_key after_event may_join_through why_no_tunnel
    why_not_heard why_not_opened
tunnels = record {
  of_route = are_routed;
  stations = record {
    centre = ltb-true _ _ refl;
    device = ltb-true _ _ refl;
    centre_short = ltb-true _ _ refl;
    device_short = ltb-true _ _ refl;
  };
  then_stations = record {
    centre = ltb-true _ _ refl;
    device = ltb-true _ _ refl;
    centre_short = ltb-true _ _ refl;
    device_short = ltb-true _ _ refl;
  };
  nwk = record { key = refl; sequence = ltb-true _ _ refl; counter = ltb-true _ _ refl };
  aps = record { link = refl; counter = ltb-true _ _ refl };
  has_network = record {
    active = _;
    is_active = refl;
    active_key = refl;
    active_sequence = refl;
    found = _;
    is_found = refl;
    found_key = refl;
  };
  has_link = record { row = _; is_current = refl; row_key = refl; none_offered = refl };
  free = refl;
  sent = refl;
}

-- Instance of a_router_relays_a_network_key.
record RelaysCase : Type 0 where
  of_route : AreRouted centre router device
  stations : StationsInRange centre router
  nwk : NwkInRange tunnel_seals
  in_range : KeyFrameInRange for_device
  has_network : HasNetwork (state_of routed.lines r) network 0
  free : why_not_relayed (state_of routed.lines r) c tunnel_seals ≡ None
  sent : frame_of toy router (state_of routed.lines r) tunnel_heard ≡ Some (key_bytes toy relayed)

relays : RelaysCase
unfolding toy plan_of part_of may_seal out_of edits_of answer_by reserve_of stored_floor floor_of counting_of answer
    answered take_net_key take_row take_link_key take_app_key take_switch take_confirm take_remove take_tunnel
    take_update take_request take_app_request take_verify take_command take_leave rows_have_room keys_differ
    at_most_two_live active_is_live partners_agree links_are_marked floors_are_kept limits_are_started role_is_kept
    pairs_are_kept keeps_rules fits all_fit reject need judge_net judge_nwk candidates judge_aps say knock rejoin
    request_key verify_key member_timer ask tell child_of_router child_of_centre next_member is_unfinished
    centre_timer provision remove_device roll switch_over again share own start disk_of with_disk stands leaves_both
    stored_lines told_lines group_of cut_of setting_of supply task_step step_by step speaker after heard_line
    state_of is_up air draws_used commits_of stations_of refuse_if found_or choose station_of station_at centre_of
    short_of spent both_spent drop_partner drop_others drop_old active_row usable_nets usable_active newest
    usable_of live_of current offered is_live is_known is_told code_row other_user pair_of next_counter stored_limit
    sender_floor applied applied_all after_sealing after_counting after_hearing after_accepting after_boot shown
    with_given_net with_given_link with_declared sealing_key after_event may_join_through why_not_heard
relays = record {
  of_route = are_routed;
  stations = record {
    centre = ltb-true _ _ refl;
    device = ltb-true _ _ refl;
    centre_short = ltb-true _ _ refl;
    device_short = ltb-true _ _ refl;
  };
  nwk = record { key = refl; sequence = ltb-true _ _ refl; counter = ltb-true _ _ refl };
  in_range = record {
    key = refl;
    sequence = ltb-true _ _ refl;
    device = ltb-true _ _ refl;
    centre = ltb-true _ _ refl;
    to = ltb-true _ _ refl;
    from = ltb-true _ _ refl;
    link = refl;
    counter = ltb-true _ _ refl;
  };
  has_network = record {
    active = _;
    is_active = refl;
    active_key = refl;
    active_sequence = refl;
    found = _;
    is_found = refl;
    found_key = refl;
  };
  free = refl;
  sent = refl;
}

-- Instance of a_device_takes_a_relayed_key.
record TakesItCase : Type 0 where
  of_route : AreRouted centre router device
  stations : StationsInRange centre router
  are_introduced : AreIntroduced centre device (state_of routed.lines c) (state_of routed.lines d)
  in_range : KeyFrameInRange for_device
  meets : MeetsKey (state_of routed.lines d) network 0
  have_joined : IsJoined (after_task toy device (state_of routed.lines d) relay) c network 0 code

takes_it : TakesItCase
unfolding toy plan_of part_of may_seal out_of edits_of answer_by reserve_of stored_floor floor_of counting_of answer
    answered take_net_key take_row take_link_key take_app_key take_switch take_confirm take_remove take_tunnel
    take_update take_request take_app_request take_verify take_command take_leave rows_have_room keys_differ
    at_most_two_live active_is_live partners_agree links_are_marked floors_are_kept limits_are_started role_is_kept
    pairs_are_kept keeps_rules fits all_fit reject need judge_net judge_nwk candidates judge_aps say knock rejoin
    request_key verify_key member_timer ask tell child_of_router child_of_centre next_member is_unfinished
    centre_timer provision remove_device roll switch_over again share own start disk_of with_disk stands leaves_both
    stored_lines told_lines group_of cut_of setting_of supply task_step step_by step speaker after heard_line
    state_of is_up air draws_used commits_of stations_of refuse_if found_or choose station_of station_at centre_of
    short_of spent both_spent drop_partner drop_others drop_old active_row usable_nets usable_active newest
    usable_of live_of current offered is_live is_known is_told code_row other_user pair_of next_counter stored_limit
    sender_floor applied applied_all after_sealing after_counting after_hearing after_accepting after_boot shown
    with_given_net with_given_link with_declared sealing_key after_event may_join_through after_task
takes_it = record {
  of_route = are_routed;
  stations = record {
    centre = ltb-true _ _ refl;
    device = ltb-true _ _ refl;
    centre_short = ltb-true _ _ refl;
    device_short = ltb-true _ _ refl;
  };
  are_introduced = may_join_through.introduced;
  in_range = record {
    key = refl;
    sequence = ltb-true _ _ refl;
    device = ltb-true _ _ refl;
    centre = ltb-true _ _ refl;
    to = ltb-true _ _ refl;
    from = ltb-true _ _ refl;
    link = refl;
    counter = ltb-true _ _ refl;
  };
  meets = inl refl;
  have_joined = record {
    network = record {
      active = the_net (active_row (after_task toy device (state_of routed.lines d) relay));
      is_active = refl;
      active_key = refl;
      active_sequence = refl;
      found = the_net (usable_of (after_task toy device (state_of routed.lines d) relay) 0);
      is_found = refl;
      found_key = refl;
    };
    joined = refl;
    keys = record {
      row = the_link (current (after_task toy device (state_of routed.lines d) relay) c);
      is_current = refl;
      row_key = refl;
      none_offered = refl;
    };
  };
}
