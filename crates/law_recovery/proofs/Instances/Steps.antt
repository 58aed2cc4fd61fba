-- The exchange of link keys event by event. In the worked run each event finds what its law asks, and leads to
-- what the law says.
use Rattle.std.specs.Prelude.{◌≡◌, ℕ, Some, None, refl}
use Rattle.std.proofs.Math.Path.{subst}
use Rattle.law_recovery.proofs.Instances.Worked.{w, c, d, network, code, drawn, front, joined, proving, confirmed}
use Rattle.law_recovery.specs.Obstacles.{why_no_confirmation, why_no_offer, why_no_offer_again, why_not_confirmed, why_not_heard, why_not_opened, why_offer_not_kept}
use Rattle.zb_model.specs.Data.{Task, DoTimer, Received}
use Rattle.law_recovery.specs.Fronts.{Front, after_event}
use Rattle.law_recovery.specs.Answering.{after_task, frame_of}
use Rattle.law_recovery.specs.Exchanging.{ApsInRange, Confirms, NwkInRange, Offers, Seals, StationsInRange, confirmation_bytes, offer_bytes, proof_bytes, request_bytes, seals_now}
use Rattle.law_recovery.specs.Meeting.{AreDeclared, HasLink, HasNetwork, HasOffer, IsConfirmed, IsJoined, IsOffered, IsSteady}
use Rattle.zb_model.specs.Data.{Bytes}
use Rattle.zb_model.specs.Answer.{plan_of, part_of, may_seal, out_of, edits_of, answer_by, reserve_of, stored_floor, floor_of, counting_of, answer, answered}
use Rattle.zb_model.specs.Commands.{take_net_key, take_row, take_link_key, take_app_key, take_switch, take_confirm, take_remove, take_tunnel, take_update, take_request, take_app_request, take_verify, take_command, take_leave}
use Rattle.zb_model.specs.Fits.{rows_have_room, keys_differ, at_most_two_live, active_is_live, partners_agree, links_are_marked, floors_are_kept, limits_are_started, role_is_kept, pairs_are_kept, keeps_rules, fits, all_fit}
use Rattle.zb_model.specs.Judging.{reject, need, judge_net, judge_nwk, candidates, judge_aps}
use Rattle.zb_model.specs.OwnEvents.{say, knock, rejoin, request_key, verify_key, member_timer, ask, tell, child_of_router, child_of_centre, next_member, is_unfinished, centre_timer, provision, remove_device, roll, switch_over, again, share, own}
use Rattle.zb_model.specs.Play.{start, disk_of, with_disk, stands, leaves_both, stored_lines, told_lines, group_of, cut_of, setting_of, supply, task_step, step_by, step}
use Rattle.zb_model.specs.Readings.{speaker, after, heard_line, state_of, is_up, air, draws_used, commits_of, stations_of}
use Rattle.zb_model.specs.Rules.{Setting, refuse_if, found_or, choose, station_of, station_at, centre_of, short_of, spent, both_spent, drop_partner, drop_others, drop_old}
use Rattle.zb_model.specs.State.{active_row, usable_nets, usable_active, newest, usable_of, live_of, current, offered, is_live, is_known, is_told, code_row, other_user, pair_of, next_counter, stored_limit, sender_floor, applied, applied_all, after_sealing, after_counting, after_hearing, after_accepting, after_boot, shown, with_given_net, with_given_link, with_declared}
use Rattle.zb_model.specs.Tools.{sealing_key}
use Rattle.zb_model.proofs.Toy.{x, toy}
use Rattle.std.proofs.lemmas.Bool.{ltb-true, leb-true}

abbrev centre : Setting
centre = setting_of w c

abbrev device : Setting
device = setting_of w d

-- what the two seal at a front under a link key
abbrev seals : ℕ → Front → Bytes → Seals
seals node x link = seals_now (state_of x.lines node) network 0 link

-- the fronts between: the device asked, the centre offered, the device proved, the centre confirmed
abbrev asked : Front
asked = front 26 6

abbrev offered_key : Front
offered_key = front 37 7

abbrev proved : Front
proved = front 45 9

abbrev told : Front
told = front 52 10

-- the events of the exchange, each with the state that it leads to
abbrev request_heard : Task
request_heard = Received (request_bytes toy centre device (seals d joined code)) (Some drawn)

abbrev offer_heard : Task
offer_heard = Received (offer_bytes toy centre device (seals c asked code) drawn) None

abbrev proof_heard : Task
proof_heard = Received (proof_bytes toy centre device (seals d proving drawn)) None

abbrev confirmation_heard : Task
confirmation_heard = Received (confirmation_bytes toy centre device (seals c proved drawn)) None

after_request : state_of asked.lines d ≡ after_task toy device (state_of joined.lines d) DoTimer
unfolding toy plan_of part_of may_seal out_of edits_of answer_by reserve_of stored_floor floor_of counting_of answer
    answered take_net_key take_row take_link_key take_app_key take_switch take_confirm take_remove take_tunnel
    take_update take_request take_app_request take_verify take_command take_leave rows_have_room keys_differ
    at_most_two_live active_is_live partners_agree links_are_marked floors_are_kept limits_are_started role_is_kept
    pairs_are_kept keeps_rules fits all_fit reject need judge_net judge_nwk candidates judge_aps say knock rejoin
    request_key verify_key member_timer ask tell child_of_router child_of_centre next_member is_unfinished
    centre_timer provision remove_device roll switch_over again share own start disk_of with_disk stands leaves_both
    stored_lines told_lines group_of cut_of setting_of supply task_step step_by step speaker after heard_line
    state_of is_up air draws_used commits_of stations_of refuse_if found_or choose station_of station_at centre_of
    short_of spent both_spent drop_partner drop_others drop_old active_row usable_nets usable_active newest
    usable_of live_of current offered is_live is_known is_told code_row other_user pair_of next_counter stored_limit
    sender_floor applied applied_all after_sealing after_counting after_hearing after_accepting after_boot shown
    with_given_net with_given_link with_declared sealing_key after_event why_no_confirmation why_no_offer
    why_not_confirmed why_not_heard why_not_opened why_offer_not_kept why_no_offer_again after_task
after_request = refl

after_offer : state_of offered_key.lines c ≡ after_task toy centre (state_of asked.lines c) request_heard
unfolding toy plan_of part_of may_seal out_of edits_of answer_by reserve_of stored_floor floor_of counting_of answer
    answered take_net_key take_row take_link_key take_app_key take_switch take_confirm take_remove take_tunnel
    take_update take_request take_app_request take_verify take_command take_leave rows_have_room keys_differ
    at_most_two_live active_is_live partners_agree links_are_marked floors_are_kept limits_are_started role_is_kept
    pairs_are_kept keeps_rules fits all_fit reject need judge_net judge_nwk candidates judge_aps say knock rejoin
    request_key verify_key member_timer ask tell child_of_router child_of_centre next_member is_unfinished
    centre_timer provision remove_device roll switch_over again share own start disk_of with_disk stands leaves_both
    stored_lines told_lines group_of cut_of setting_of supply task_step step_by step speaker after heard_line
    state_of is_up air draws_used commits_of stations_of refuse_if found_or choose station_of station_at centre_of
    short_of spent both_spent drop_partner drop_others drop_old active_row usable_nets usable_active newest
    usable_of live_of current offered is_live is_known is_told code_row other_user pair_of next_counter stored_limit
    sender_floor applied applied_all after_sealing after_counting after_hearing after_accepting after_boot shown
    with_given_net with_given_link with_declared sealing_key after_event why_no_confirmation why_no_offer
    why_not_confirmed why_not_heard why_not_opened why_offer_not_kept why_no_offer_again after_task
after_offer = refl

after_keeping : state_of proving.lines d ≡ after_task toy device (state_of offered_key.lines d) offer_heard
unfolding toy plan_of part_of may_seal out_of edits_of answer_by reserve_of stored_floor floor_of counting_of answer
    answered take_net_key take_row take_link_key take_app_key take_switch take_confirm take_remove take_tunnel
    take_update take_request take_app_request take_verify take_command take_leave rows_have_room keys_differ
    at_most_two_live active_is_live partners_agree links_are_marked floors_are_kept limits_are_started role_is_kept
    pairs_are_kept keeps_rules fits all_fit reject need judge_net judge_nwk candidates judge_aps say knock rejoin
    request_key verify_key member_timer ask tell child_of_router child_of_centre next_member is_unfinished
    centre_timer provision remove_device roll switch_over again share own start disk_of with_disk stands leaves_both
    stored_lines told_lines group_of cut_of setting_of supply task_step step_by step speaker after heard_line
    state_of is_up air draws_used commits_of stations_of refuse_if found_or choose station_of station_at centre_of
    short_of spent both_spent drop_partner drop_others drop_old active_row usable_nets usable_active newest
    usable_of live_of current offered is_live is_known is_told code_row other_user pair_of next_counter stored_limit
    sender_floor applied applied_all after_sealing after_counting after_hearing after_accepting after_boot shown
    with_given_net with_given_link with_declared sealing_key after_event why_no_confirmation why_no_offer
    why_not_confirmed why_not_heard why_not_opened why_offer_not_kept why_no_offer_again after_task
after_keeping = refl

after_proof : state_of proved.lines d ≡ after_task toy device (state_of proving.lines d) DoTimer
unfolding toy plan_of part_of may_seal out_of edits_of answer_by reserve_of stored_floor floor_of counting_of answer
    answered take_net_key take_row take_link_key take_app_key take_switch take_confirm take_remove take_tunnel
    take_update take_request take_app_request take_verify take_command take_leave rows_have_room keys_differ
    at_most_two_live active_is_live partners_agree links_are_marked floors_are_kept limits_are_started role_is_kept
    pairs_are_kept keeps_rules fits all_fit reject need judge_net judge_nwk candidates judge_aps say knock rejoin
    request_key verify_key member_timer ask tell child_of_router child_of_centre next_member is_unfinished
    centre_timer provision remove_device roll switch_over again share own start disk_of with_disk stands leaves_both
    stored_lines told_lines group_of cut_of setting_of supply task_step step_by step speaker after heard_line
    state_of is_up air draws_used commits_of stations_of refuse_if found_or choose station_of station_at centre_of
    short_of spent both_spent drop_partner drop_others drop_old active_row usable_nets usable_active newest
    usable_of live_of current offered is_live is_known is_told code_row other_user pair_of next_counter stored_limit
    sender_floor applied applied_all after_sealing after_counting after_hearing after_accepting after_boot shown
    with_given_net with_given_link with_declared sealing_key after_event why_no_confirmation why_no_offer
    why_not_confirmed why_not_heard why_not_opened why_offer_not_kept why_no_offer_again after_task
after_proof = refl

after_confirming : state_of told.lines c ≡ after_task toy centre (state_of proved.lines c) proof_heard
unfolding toy plan_of part_of may_seal out_of edits_of answer_by reserve_of stored_floor floor_of counting_of answer
    answered take_net_key take_row take_link_key take_app_key take_switch take_confirm take_remove take_tunnel
    take_update take_request take_app_request take_verify take_command take_leave rows_have_room keys_differ
    at_most_two_live active_is_live partners_agree links_are_marked floors_are_kept limits_are_started role_is_kept
    pairs_are_kept keeps_rules fits all_fit reject need judge_net judge_nwk candidates judge_aps say knock rejoin
    request_key verify_key member_timer ask tell child_of_router child_of_centre next_member is_unfinished
    centre_timer provision remove_device roll switch_over again share own start disk_of with_disk stands leaves_both
    stored_lines told_lines group_of cut_of setting_of supply task_step step_by step speaker after heard_line
    state_of is_up air draws_used commits_of stations_of refuse_if found_or choose station_of station_at centre_of
    short_of spent both_spent drop_partner drop_others drop_old active_row usable_nets usable_active newest
    usable_of live_of current offered is_live is_known is_told code_row other_user pair_of next_counter stored_limit
    sender_floor applied applied_all after_sealing after_counting after_hearing after_accepting after_boot shown
    with_given_net with_given_link with_declared sealing_key after_event why_no_confirmation why_no_offer
    why_not_confirmed why_not_heard why_not_opened why_offer_not_kept why_no_offer_again after_task
after_confirming = refl

after_confirmation : state_of confirmed.lines d ≡ after_task toy device (state_of told.lines d) confirmation_heard
unfolding toy plan_of part_of may_seal out_of edits_of answer_by reserve_of stored_floor floor_of counting_of answer
    answered take_net_key take_row take_link_key take_app_key take_switch take_confirm take_remove take_tunnel
    take_update take_request take_app_request take_verify take_command take_leave rows_have_room keys_differ
    at_most_two_live active_is_live partners_agree links_are_marked floors_are_kept limits_are_started role_is_kept
    pairs_are_kept keeps_rules fits all_fit reject need judge_net judge_nwk candidates judge_aps say knock rejoin
    request_key verify_key member_timer ask tell child_of_router child_of_centre next_member is_unfinished
    centre_timer provision remove_device roll switch_over again share own start disk_of with_disk stands leaves_both
    stored_lines told_lines group_of cut_of setting_of supply task_step step_by step speaker after heard_line
    state_of is_up air draws_used commits_of stations_of refuse_if found_or choose station_of station_at centre_of
    short_of spent both_spent drop_partner drop_others drop_old active_row usable_nets usable_active newest
    usable_of live_of current offered is_live is_known is_told code_row other_user pair_of next_counter stored_limit
    sender_floor applied applied_all after_sealing after_counting after_hearing after_accepting after_boot shown
    with_given_net with_given_link with_declared sealing_key after_event why_no_confirmation why_no_offer
    why_not_confirmed why_not_heard why_not_opened why_offer_not_kept why_no_offer_again after_task
after_confirmation = refl

-- what is asked of both settings
declared : AreDeclared centre device
unfolding toy plan_of part_of may_seal out_of edits_of answer_by reserve_of stored_floor floor_of counting_of answer
    answered take_net_key take_row take_link_key take_app_key take_switch take_confirm take_remove take_tunnel
    take_update take_request take_app_request take_verify take_command take_leave rows_have_room keys_differ
    at_most_two_live active_is_live partners_agree links_are_marked floors_are_kept limits_are_started role_is_kept
    pairs_are_kept keeps_rules fits all_fit reject need judge_net judge_nwk candidates judge_aps say knock rejoin
    request_key verify_key member_timer ask tell child_of_router child_of_centre next_member is_unfinished
    centre_timer provision remove_device roll switch_over again share own start disk_of with_disk stands leaves_both
    stored_lines told_lines group_of cut_of setting_of supply task_step step_by step speaker after heard_line
    state_of is_up air draws_used commits_of stations_of refuse_if found_or choose station_of station_at centre_of
    short_of spent both_spent drop_partner drop_others drop_old active_row usable_nets usable_active newest
    usable_of live_of current offered is_live is_known is_told code_row other_user pair_of next_counter stored_limit
    sender_floor applied applied_all after_sealing after_counting after_hearing after_accepting after_boot shown
    with_given_net with_given_link with_declared sealing_key after_event
declared = record {
  network = record {
    centre_role = refl;
    member_role = refl;
    centre_known = refl;
    short_known = refl;
    shorts_differ = refl;
    in_block = leb-true _ _ refl;
  };
  centre_short = refl;
  centre_block = leb-true _ _ refl;
  centre_declared = refl;
  device_declared = refl;
}

in_range : StationsInRange centre device
unfolding toy plan_of part_of may_seal out_of edits_of answer_by reserve_of stored_floor floor_of counting_of answer
    answered take_net_key take_row take_link_key take_app_key take_switch take_confirm take_remove take_tunnel
    take_update take_request take_app_request take_verify take_command take_leave rows_have_room keys_differ
    at_most_two_live active_is_live partners_agree links_are_marked floors_are_kept limits_are_started role_is_kept
    pairs_are_kept keeps_rules fits all_fit reject need judge_net judge_nwk candidates judge_aps say knock rejoin
    request_key verify_key member_timer ask tell child_of_router child_of_centre next_member is_unfinished
    centre_timer provision remove_device roll switch_over again share own start disk_of with_disk stands leaves_both
    stored_lines told_lines group_of cut_of setting_of supply task_step step_by step speaker after heard_line
    state_of is_up air draws_used commits_of stations_of refuse_if found_or choose station_of station_at centre_of
    short_of spent both_spent drop_partner drop_others drop_old active_row usable_nets usable_active newest
    usable_of live_of current offered is_live is_known is_told code_row other_user pair_of next_counter stored_limit
    sender_floor applied applied_all after_sealing after_counting after_hearing after_accepting after_boot shown
    with_given_net with_given_link with_declared sealing_key after_event
in_range =
    record {
      centre = ltb-true _ _ refl;
      device = ltb-true _ _ refl;
      centre_short = ltb-true _ _ refl;
      device_short = ltb-true _ _ refl;
    }

-- Instance of a_joined_device_asks_for_a_link_key.
record AsksCase : Type 0 where
  declared : AreDeclared centre device
  have_joined : IsJoined (state_of joined.lines d) c network 0 code
  then_joined : IsJoined (after_task toy device (state_of joined.lines d) DoTimer) c network 0 code

asks : AsksCase
unfolding toy plan_of part_of may_seal out_of edits_of answer_by reserve_of stored_floor floor_of counting_of answer
    answered take_net_key take_row take_link_key take_app_key take_switch take_confirm take_remove take_tunnel
    take_update take_request take_app_request take_verify take_command take_leave rows_have_room keys_differ
    at_most_two_live active_is_live partners_agree links_are_marked floors_are_kept limits_are_started role_is_kept
    pairs_are_kept keeps_rules fits all_fit reject need judge_net judge_nwk candidates judge_aps say knock rejoin
    request_key verify_key member_timer ask tell child_of_router child_of_centre next_member is_unfinished
    centre_timer provision remove_device roll switch_over again share own start disk_of with_disk stands leaves_both
    stored_lines told_lines group_of cut_of setting_of supply task_step step_by step speaker after heard_line
    state_of is_up air draws_used commits_of stations_of refuse_if found_or choose station_of station_at centre_of
    short_of spent both_spent drop_partner drop_others drop_old active_row usable_nets usable_active newest
    usable_of live_of current offered is_live is_known is_told code_row other_user pair_of next_counter stored_limit
    sender_floor applied applied_all after_sealing after_counting after_hearing after_accepting after_boot shown
    with_given_net with_given_link with_declared sealing_key after_event
asks = record {
  declared = declared;
  have_joined = record {
    network = record {
      active = _;
      is_active = refl;
      active_key = refl;
      active_sequence = refl;
      found = _;
      is_found = refl;
      found_key = refl;
    };
    joined = refl;
    keys = record { row = _; is_current = refl; row_key = refl; none_offered = refl };
  };
  then_joined = subst (λ t. IsJoined t c network 0 code) after_request
      (record {
        network = record {
          active = _;
          is_active = refl;
          active_key = refl;
          active_sequence = refl;
          found = _;
          is_found = refl;
          found_key = refl;
        };
        joined = refl;
        keys = record { row = _; is_current = refl; row_key = refl; none_offered = refl };
      });
}

-- Instance of the_centre_offers_a_link_key.
record OffersCase : Type 0 where
  declared : AreDeclared centre device
  stations : StationsInRange centre device
  nwk : NwkInRange (seals d joined code)
  aps : ApsInRange (seals d joined code)
  has_network : HasNetwork (state_of asked.lines c) network 0
  has_link : HasLink (state_of asked.lines c) d code
  free : why_no_offer (state_of asked.lines c) d (seals d joined code) (Some drawn) ≡ None
  offers : Offers toy centre device (state_of asked.lines c) (after_task toy centre
      (state_of asked.lines c) request_heard) (seals d joined code) (Some drawn) (frame_of toy centre
      (state_of asked.lines c) request_heard)

offers : OffersCase
unfolding toy plan_of part_of may_seal out_of edits_of answer_by reserve_of stored_floor floor_of counting_of answer
    answered take_net_key take_row take_link_key take_app_key take_switch take_confirm take_remove take_tunnel
    take_update take_request take_app_request take_verify take_command take_leave rows_have_room keys_differ
    at_most_two_live active_is_live partners_agree links_are_marked floors_are_kept limits_are_started role_is_kept
    pairs_are_kept keeps_rules fits all_fit reject need judge_net judge_nwk candidates judge_aps say knock rejoin
    request_key verify_key member_timer ask tell child_of_router child_of_centre next_member is_unfinished
    centre_timer provision remove_device roll switch_over again share own start disk_of with_disk stands leaves_both
    stored_lines told_lines group_of cut_of setting_of supply task_step step_by step speaker after heard_line
    state_of is_up air draws_used commits_of stations_of refuse_if found_or choose station_of station_at centre_of
    short_of spent both_spent drop_partner drop_others drop_old active_row usable_nets usable_active newest
    usable_of live_of current offered is_live is_known is_told code_row other_user pair_of next_counter stored_limit
    sender_floor applied applied_all after_sealing after_counting after_hearing after_accepting after_boot shown
    with_given_net with_given_link with_declared sealing_key after_event why_no_confirmation why_no_offer
    why_not_confirmed why_not_heard why_not_opened why_offer_not_kept why_no_offer_again after_task
offers = record {
  declared = declared;
  stations = in_range;
  nwk = record { key = refl; sequence = ltb-true _ _ refl; counter = ltb-true _ _ refl };
  aps = record { link = refl; counter = ltb-true _ _ refl };
  has_network = record {
    active = _;
    is_active = refl;
    active_key = refl;
    active_sequence = refl;
    found = _;
    is_found = refl;
    found_key = refl;
  };
  has_link = record { row = _; is_current = refl; row_key = refl; none_offered = refl };
  free = refl;
  offers = subst
      (λ u. Offers toy centre device (state_of asked.lines c) u (seals d joined code) (Some drawn)
      (frame_of toy centre (state_of asked.lines c) request_heard)) after_offer
      (record {
        key = drawn;
        drawn = refl;
        sent = refl;
        network = record {
          active = _;
          is_active = refl;
          active_key = refl;
          active_sequence = refl;
          found = _;
          is_found = refl;
          found_key = refl;
        };
        keys = record {
          row = _;
          is_current = refl;
          row_key = refl;
          offer = _;
          is_offered = refl;
          offer_key = refl;
        };
      });
}

-- Instance of a_joined_device_keeps_an_offered_key.
record KeepsCase : Type 0 where
  declared : AreDeclared centre device
  stations : StationsInRange centre device
  nwk : NwkInRange (seals c asked code)
  aps : ApsInRange (seals c asked code)
  have_joined : IsJoined (state_of offered_key.lines d) c network 0 code
  free : why_offer_not_kept (state_of offered_key.lines d) c (seals c asked code) drawn ≡ None
  is_offered : IsOffered (after_task toy device (state_of offered_key.lines d) offer_heard) c network 0 drawn

keeps : KeepsCase
unfolding toy plan_of part_of may_seal out_of edits_of answer_by reserve_of stored_floor floor_of counting_of answer
    answered take_net_key take_row take_link_key take_app_key take_switch take_confirm take_remove take_tunnel
    take_update take_request take_app_request take_verify take_command take_leave rows_have_room keys_differ
    at_most_two_live active_is_live partners_agree links_are_marked floors_are_kept limits_are_started role_is_kept
    pairs_are_kept keeps_rules fits all_fit reject need judge_net judge_nwk candidates judge_aps say knock rejoin
    request_key verify_key member_timer ask tell child_of_router child_of_centre next_member is_unfinished
    centre_timer provision remove_device roll switch_over again share own start disk_of with_disk stands leaves_both
    stored_lines told_lines group_of cut_of setting_of supply task_step step_by step speaker after heard_line
    state_of is_up air draws_used commits_of stations_of refuse_if found_or choose station_of station_at centre_of
    short_of spent both_spent drop_partner drop_others drop_old active_row usable_nets usable_active newest
    usable_of live_of current offered is_live is_known is_told code_row other_user pair_of next_counter stored_limit
    sender_floor applied applied_all after_sealing after_counting after_hearing after_accepting after_boot shown
    with_given_net with_given_link with_declared sealing_key after_event why_no_confirmation why_no_offer
    why_not_confirmed why_not_heard why_not_opened why_offer_not_kept why_no_offer_again after_task
keeps = record {
  declared = declared;
  stations = in_range;
  nwk = record { key = refl; sequence = ltb-true _ _ refl; counter = ltb-true _ _ refl };
  aps = record { link = refl; counter = ltb-true _ _ refl };
  have_joined = record {
    network = record {
      active = _;
      is_active = refl;
      active_key = refl;
      active_sequence = refl;
      found = _;
      is_found = refl;
      found_key = refl;
    };
    joined = refl;
    keys = record { row = _; is_current = refl; row_key = refl; none_offered = refl };
  };
  free = refl;
  is_offered = subst (λ t. IsOffered t c network 0 drawn) after_keeping
      (record {
        network = record {
          active = _;
          is_active = refl;
          active_key = refl;
          active_sequence = refl;
          found = _;
          is_found = refl;
          found_key = refl;
        };
        is_offered = refl;
        keys = record { row = _; is_current = refl; offer = _; is_offered = refl; offer_key = refl };
        tried = _;
        tried_first = refl;
        tried_key = refl;
      });
}

-- Instance of a_device_proves_its_key.
record ProvesCase : Type 0 where
  declared : AreDeclared centre device
  is_offered : IsOffered (state_of proving.lines d) c network 0 drawn
  then_offered : IsOffered (after_task toy device (state_of proving.lines d) DoTimer) c network 0 drawn

proves : ProvesCase
unfolding toy plan_of part_of may_seal out_of edits_of answer_by reserve_of stored_floor floor_of counting_of answer
    answered take_net_key take_row take_link_key take_app_key take_switch take_confirm take_remove take_tunnel
    take_update take_request take_app_request take_verify take_command take_leave rows_have_room keys_differ
    at_most_two_live active_is_live partners_agree links_are_marked floors_are_kept limits_are_started role_is_kept
    pairs_are_kept keeps_rules fits all_fit reject need judge_net judge_nwk candidates judge_aps say knock rejoin
    request_key verify_key member_timer ask tell child_of_router child_of_centre next_member is_unfinished
    centre_timer provision remove_device roll switch_over again share own start disk_of with_disk stands leaves_both
    stored_lines told_lines group_of cut_of setting_of supply task_step step_by step speaker after heard_line
    state_of is_up air draws_used commits_of stations_of refuse_if found_or choose station_of station_at centre_of
    short_of spent both_spent drop_partner drop_others drop_old active_row usable_nets usable_active newest
    usable_of live_of current offered is_live is_known is_told code_row other_user pair_of next_counter stored_limit
    sender_floor applied applied_all after_sealing after_counting after_hearing after_accepting after_boot shown
    with_given_net with_given_link with_declared sealing_key after_event
proves = record {
  declared = declared;
  is_offered = record {
    network = record {
      active = _;
      is_active = refl;
      active_key = refl;
      active_sequence = refl;
      found = _;
      is_found = refl;
      found_key = refl;
    };
    is_offered = refl;
    keys = record { row = _; is_current = refl; offer = _; is_offered = refl; offer_key = refl };
    tried = _;
    tried_first = refl;
    tried_key = refl;
  };
  then_offered = subst (λ t. IsOffered t c network 0 drawn) after_proof
      (record {
        network = record {
          active = _;
          is_active = refl;
          active_key = refl;
          active_sequence = refl;
          found = _;
          is_found = refl;
          found_key = refl;
        };
        is_offered = refl;
        keys = record { row = _; is_current = refl; offer = _; is_offered = refl; offer_key = refl };
        tried = _;
        tried_first = refl;
        tried_key = refl;
      });
}

-- Instance of the_centre_confirms_a_proved_key.
record ConfirmsCase : Type 0 where
  declared : AreDeclared centre device
  stations : StationsInRange centre device
  nwk : NwkInRange (seals d proving drawn)
  has_network : HasNetwork (state_of proved.lines c) network 0
  offer : HasOffer (state_of proved.lines c) d drawn
  free : why_no_confirmation (state_of proved.lines c) d (seals d proving drawn) ≡ None
  confirms : Confirms toy centre device (state_of proved.lines c) (after_task toy centre
      (state_of proved.lines c) proof_heard) (seals d proving drawn) (frame_of toy centre
      (state_of proved.lines c) proof_heard)

confirms : ConfirmsCase
unfolding toy plan_of part_of may_seal out_of edits_of answer_by reserve_of stored_floor floor_of counting_of answer
    answered take_net_key take_row take_link_key take_app_key take_switch take_confirm take_remove take_tunnel
    take_update take_request take_app_request take_verify take_command take_leave rows_have_room keys_differ
    at_most_two_live active_is_live partners_agree links_are_marked floors_are_kept limits_are_started role_is_kept
    pairs_are_kept keeps_rules fits all_fit reject need judge_net judge_nwk candidates judge_aps say knock rejoin
    request_key verify_key member_timer ask tell child_of_router child_of_centre next_member is_unfinished
    centre_timer provision remove_device roll switch_over again share own start disk_of with_disk stands leaves_both
    stored_lines told_lines group_of cut_of setting_of supply task_step step_by step speaker after heard_line
    state_of is_up air draws_used commits_of stations_of refuse_if found_or choose station_of station_at centre_of
    short_of spent both_spent drop_partner drop_others drop_old active_row usable_nets usable_active newest
    usable_of live_of current offered is_live is_known is_told code_row other_user pair_of next_counter stored_limit
    sender_floor applied applied_all after_sealing after_counting after_hearing after_accepting after_boot shown
    with_given_net with_given_link with_declared sealing_key after_event why_no_confirmation why_no_offer
    why_not_confirmed why_not_heard why_not_opened why_offer_not_kept why_no_offer_again after_task
confirms = record {
  declared = declared;
  stations = in_range;
  nwk = record { key = refl; sequence = ltb-true _ _ refl; counter = ltb-true _ _ refl };
  has_network = record {
    active = _;
    is_active = refl;
    active_key = refl;
    active_sequence = refl;
    found = _;
    is_found = refl;
    found_key = refl;
  };
  offer = record { row = _; is_current = refl; offer = _; is_offered = refl; offer_key = refl };
  free = refl;
  confirms = subst
      (λ u. Confirms toy centre device (state_of proved.lines c) u (seals d proving drawn)
      (frame_of toy centre (state_of proved.lines c) proof_heard)) after_confirming
      (record {
        sent = refl;
        network = record {
          active = _;
          is_active = refl;
          active_key = refl;
          active_sequence = refl;
          found = _;
          is_found = refl;
          found_key = refl;
        };
        keys = record { row = _; is_current = refl; row_key = refl; verified = refl; none_offered = refl };
      });
}

-- Instance of a_device_is_confirmed.
record IsConfirmedCase : Type 0 where
  declared : AreDeclared centre device
  stations : StationsInRange centre device
  nwk : NwkInRange (seals c proved drawn)
  aps : ApsInRange (seals c proved drawn)
  is_offered : IsOffered (state_of told.lines d) c network 0 drawn
  free : why_not_confirmed (state_of told.lines d) c (seals c proved drawn) ≡ None
  at_the_end : IsConfirmed (after_task toy device (state_of told.lines d) confirmation_heard) c network 0 drawn

is_confirmed : IsConfirmedCase
unfolding toy plan_of part_of may_seal out_of edits_of answer_by reserve_of stored_floor floor_of counting_of answer
    answered take_net_key take_row take_link_key take_app_key take_switch take_confirm take_remove take_tunnel
    take_update take_request take_app_request take_verify take_command take_leave rows_have_room keys_differ
    at_most_two_live active_is_live partners_agree links_are_marked floors_are_kept limits_are_started role_is_kept
    pairs_are_kept keeps_rules fits all_fit reject need judge_net judge_nwk candidates judge_aps say knock rejoin
    request_key verify_key member_timer ask tell child_of_router child_of_centre next_member is_unfinished
    centre_timer provision remove_device roll switch_over again share own start disk_of with_disk stands leaves_both
    stored_lines told_lines group_of cut_of setting_of supply task_step step_by step speaker after heard_line
    state_of is_up air draws_used commits_of stations_of refuse_if found_or choose station_of station_at centre_of
    short_of spent both_spent drop_partner drop_others drop_old active_row usable_nets usable_active newest
    usable_of live_of current offered is_live is_known is_told code_row other_user pair_of next_counter stored_limit
    sender_floor applied applied_all after_sealing after_counting after_hearing after_accepting after_boot shown
    with_given_net with_given_link with_declared sealing_key after_event why_no_confirmation why_no_offer
    why_not_confirmed why_not_heard why_not_opened why_offer_not_kept why_no_offer_again after_task
is_confirmed = record {
  declared = declared;
  stations = in_range;
  nwk = record { key = refl; sequence = ltb-true _ _ refl; counter = ltb-true _ _ refl };
  aps = record { link = refl; counter = ltb-true _ _ refl };
  is_offered = record {
    network = record {
      active = _;
      is_active = refl;
      active_key = refl;
      active_sequence = refl;
      found = _;
      is_found = refl;
      found_key = refl;
    };
    is_offered = refl;
    keys = record { row = _; is_current = refl; offer = _; is_offered = refl; offer_key = refl };
    tried = _;
    tried_first = refl;
    tried_key = refl;
  };
  free = refl;
  at_the_end = subst (λ t. IsConfirmed t c network 0 drawn) after_confirmation
      (record {
        network = record {
          active = _;
          is_active = refl;
          active_key = refl;
          active_sequence = refl;
          found = _;
          is_found = refl;
          found_key = refl;
        };
        confirmed = refl;
        keys = record { row = _; is_current = refl; row_key = refl; verified = refl; none_offered = refl };
      });
}

-- Instance of an_answer_leaves_a_node_steady.
record StaysSteadyCase : Type 0 where
  steady : IsSteady device (state_of told.lines d)
  then_steady : IsSteady device (after_task toy device (state_of told.lines d) confirmation_heard)

stays_steady : StaysSteadyCase
unfolding toy plan_of part_of may_seal out_of edits_of answer_by reserve_of stored_floor floor_of counting_of answer
    answered take_net_key take_row take_link_key take_app_key take_switch take_confirm take_remove take_tunnel
    take_update take_request take_app_request take_verify take_command take_leave rows_have_room keys_differ
    at_most_two_live active_is_live partners_agree links_are_marked floors_are_kept limits_are_started role_is_kept
    pairs_are_kept keeps_rules fits all_fit reject need judge_net judge_nwk candidates judge_aps say knock rejoin
    request_key verify_key member_timer ask tell child_of_router child_of_centre next_member is_unfinished
    centre_timer provision remove_device roll switch_over again share own start disk_of with_disk stands leaves_both
    stored_lines told_lines group_of cut_of setting_of supply task_step step_by step speaker after heard_line
    state_of is_up air draws_used commits_of stations_of refuse_if found_or choose station_of station_at centre_of
    short_of spent both_spent drop_partner drop_others drop_old active_row usable_nets usable_active newest
    usable_of live_of current offered is_live is_known is_told code_row other_user pair_of next_counter stored_limit
    sender_floor applied applied_all after_sealing after_counting after_hearing after_accepting after_boot shown
    with_given_net with_given_link with_declared sealing_key after_event
stays_steady = record {
  steady = record { rules = refl; role = refl };
  then_steady = subst (λ t. IsSteady device t) after_confirmation (record { rules = refl; role = refl });
}
