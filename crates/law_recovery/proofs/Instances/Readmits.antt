-- A confirmed device is removed and admitted again. At the last front of the worked run nothing prevents that, and it
-- ends as the law says.
use Rattle.std.specs.Prelude.{◌≡◌, [], ◌∷◌, ◌++◌, Some, refl}
use Rattle.std.proofs.Math.Path.{subst}
use Rattle.law_recovery.proofs.Instances.Worked.{w, c, d, network, code, drawn, confirmed}
use Rattle.law_recovery.specs.Obstacles.{why_no_confirmation, why_no_offer, why_no_offer_again, why_not_confirmed, why_not_heard, why_not_opened, why_offer_not_kept}
use Rattle.std.proofs.Common.{inr}
use Rattle.zb_model.specs.Data.{Bytes, State, Provisional, DropLink, Removed, Row, Live, Became, Moved}
use Rattle.zb_model.specs.Frames.{leave_frame, nwk_term}
use Rattle.zb_model.specs.Lines.{Changed, Commit, Seal, Send}
use Rattle.law_recovery.specs.Entering.{why_no_row}
use Rattle.law_recovery.specs.Fronts.{Front, after_event, after_events}
use Rattle.law_recovery.specs.KeyExchange.{NothingStops, joined_front}
use Rattle.law_recovery.specs.Readmitting.{CanReadmit, knocked_front, readmission_events}
use Rattle.law_recovery.specs.Rejoining.{why_not_sent, why_not_taken}
use Rattle.zb_model.specs.Answer.{plan_of, part_of, may_seal, out_of, edits_of, answer_by, reserve_of, stored_floor, floor_of, counting_of, answer, answered}
use Rattle.zb_model.specs.Commands.{take_net_key, take_row, take_link_key, take_app_key, take_switch, take_confirm, take_remove, take_tunnel, take_update, take_request, take_app_request, take_verify, take_command, take_leave}
use Rattle.zb_model.specs.Fits.{rows_have_room, keys_differ, at_most_two_live, active_is_live, partners_agree, links_are_marked, floors_are_kept, limits_are_started, role_is_kept, pairs_are_kept, keeps_rules, fits, all_fit}
use Rattle.zb_model.specs.Judging.{reject, need, judge_net, judge_nwk, candidates, judge_aps}
use Rattle.zb_model.specs.OwnEvents.{say, knock, rejoin, request_key, verify_key, member_timer, ask, tell, child_of_router, child_of_centre, next_member, is_unfinished, centre_timer, provision, remove_device, roll, switch_over, again, share, own}
use Rattle.zb_model.specs.Play.{start, disk_of, with_disk, stands, leaves_both, stored_lines, told_lines, group_of, cut_of, setting_of, supply, task_step, step_by, step}
use Rattle.zb_model.specs.Readings.{speaker, after, heard_line, state_of, is_up, air, draws_used, commits_of, stations_of}
use Rattle.zb_model.specs.Rules.{refuse_if, found_or, choose, station_of, station_at, centre_of, short_of, spent, both_spent, drop_partner, drop_others, drop_old}
use Rattle.zb_model.specs.State.{active_row, usable_nets, usable_active, newest, usable_of, live_of, current, offered, is_live, is_known, is_told, code_row, other_user, pair_of, next_counter, stored_limit, sender_floor, applied, applied_all, after_sealing, after_counting, after_hearing, after_accepting, after_boot, shown, with_given_net, with_given_link, with_declared}
use Rattle.zb_model.specs.Tools.{sealing_key}
use Rattle.zb_model.proofs.Toy.{x, toy}
use Rattle.std.proofs.lemmas.Bool.{ltb-true, leb-true}

-- the next key of the supply
abbrev second : Bytes
second = x "B0B1B2B3B4B5B6B7B8B9BABBBCBDBEBF"

-- the device was removed, its code was entered, and it knocked
abbrev knocked_again : Front
knocked_again = record {
  lines = confirmed.lines ++ (
      Changed 11 c (Moved (DropLink d drawn)) ∷
      Changed 11 c (Moved (Removed d)) ∷
      Commit 11 c ∷
      Seal 11 c (nwk_term leave_frame 6699 0 c network 0 2 (x "0440")) ∷
      Send 11 (Some c) 6 (x "09022B1A00001E02280200000001000000004B120000044000010203") ∷
      Changed 12 c (Moved (Row d code Provisional)) ∷
      Changed 12 c (Moved (Live d)) ∷
      Commit 12 c ∷
      Changed 13 d (Moved (DropLink c drawn)) ∷
      Changed 13 d (Moved (Row c code Provisional)) ∷
      Changed 13 d (Moved (Became State.Knocked)) ∷
      Commit 13 d ∷
      []);
  disks = [];
  number = 14;
}

three_events : knocked_again ≡ knocked_front toy w confirmed c d code
unfolding toy plan_of part_of may_seal out_of edits_of answer_by reserve_of stored_floor floor_of counting_of answer
    answered take_net_key take_row take_link_key take_app_key take_switch take_confirm take_remove take_tunnel
    take_update take_request take_app_request take_verify take_command take_leave rows_have_room keys_differ
    at_most_two_live active_is_live partners_agree links_are_marked floors_are_kept limits_are_started role_is_kept
    pairs_are_kept keeps_rules fits all_fit reject need judge_net judge_nwk candidates judge_aps say knock rejoin
    request_key verify_key member_timer ask tell child_of_router child_of_centre next_member is_unfinished
    centre_timer provision remove_device roll switch_over again share own start disk_of with_disk stands leaves_both
    stored_lines told_lines group_of cut_of setting_of supply task_step step_by step speaker after heard_line
    state_of is_up air draws_used commits_of stations_of refuse_if found_or choose station_of station_at centre_of
    short_of spent both_spent drop_partner drop_others drop_old active_row usable_nets usable_active newest
    usable_of live_of current offered is_live is_known is_told code_row other_user pair_of next_counter stored_limit
    sender_floor applied applied_all after_sealing after_counting after_hearing after_accepting after_boot shown
    with_given_net with_given_link with_declared sealing_key after_event
three_events = refl

-- Instance of a_device_is_readmitted_in_a_run.
record IsReadmittedCase : Type 0 where
  can : CanReadmit w confirmed c d network 0 code
  free : NothingStops toy w (joined_front toy w
      (knocked_front toy w confirmed c d code) c d) c d network 0 code second

is_readmitted : IsReadmittedCase
unfolding toy plan_of part_of may_seal out_of edits_of answer_by reserve_of stored_floor floor_of counting_of answer
    answered take_net_key take_row take_link_key take_app_key take_switch take_confirm take_remove take_tunnel
    take_update take_request take_app_request take_verify take_command take_leave rows_have_room keys_differ
    at_most_two_live active_is_live partners_agree links_are_marked floors_are_kept limits_are_started role_is_kept
    pairs_are_kept keeps_rules fits all_fit reject need judge_net judge_nwk candidates judge_aps say knock rejoin
    request_key verify_key member_timer ask tell child_of_router child_of_centre next_member is_unfinished
    centre_timer provision remove_device roll switch_over again share own start disk_of with_disk stands leaves_both
    stored_lines told_lines group_of cut_of setting_of supply task_step step_by step speaker after heard_line
    state_of is_up air draws_used commits_of stations_of refuse_if found_or choose station_of station_at centre_of
    short_of spent both_spent drop_partner drop_others drop_old active_row usable_nets usable_active newest
    usable_of live_of current offered is_live is_known is_told code_row other_user pair_of next_counter stored_limit
    sender_floor applied applied_all after_sealing after_counting after_hearing after_accepting after_boot shown
    with_given_net with_given_link with_declared sealing_key after_event why_no_confirmation why_no_offer
    why_not_confirmed why_not_heard why_not_opened why_offer_not_kept why_no_offer_again why_not_sent why_not_taken
    why_no_row
is_readmitted = record {
  can = record {
    met = record {
      apart = refl;
      declared = record {
        network = record {
          centre_role = refl;
          member_role = refl;
          centre_known = refl;
          short_known = refl;
          shorts_differ = refl;
          in_block = leb-true _ _ refl;
        };
        centre_short = refl;
        centre_block = leb-true _ _ refl;
        centre_declared = refl;
        device_declared = refl;
      };
      stations = record {
        centre = ltb-true _ _ refl;
        device = ltb-true _ _ refl;
        centre_short = ltb-true _ _ refl;
        device_short = ltb-true _ _ refl;
      };
      centre_ready = record { up = refl; unarmed = refl };
      device_ready = record { up = refl; unarmed = refl };
      centre_steady = record { rules = refl; role = refl };
      device_steady = record { rules = refl; role = refl };
    };
    centre_named = refl;
    device_named = refl;
    in_range = record { key_size = refl; small = ltb-true _ _ refl; link_size = refl };
    active = record {
      active = _;
      is_active = refl;
      active_key = refl;
      active_sequence = refl;
      found = _;
      is_found = refl;
      found_key = refl;
    };
    row_free = refl;
    unspent = refl;
    code = _;
    has_code = refl;
    same_key = refl;
    meets = inr
        (record { row = _; is_row = refl; row_sequence = refl; found = _; is_found = refl; found_key = refl });
    not_refused = refl;
  };
  free = subst (λ y. NothingStops toy w (joined_front toy w y c d) c d network 0 code second) three_events
      (record {
        request = refl;
        draw = refl;
        offer = refl;
        fresh = refl;
        kept = refl;
        proof = refl;
        confirmation = refl;
        confirmed = refl;
      });
}

-- and it ends as that law says
ends_confirmed : (state_of (after_events toy w confirmed (readmission_events toy w confirmed c d code)).lines d).state
    ≡ State.Confirmed
unfolding toy plan_of part_of may_seal out_of edits_of answer_by reserve_of stored_floor floor_of counting_of answer
    answered take_net_key take_row take_link_key take_app_key take_switch take_confirm take_remove take_tunnel
    take_update take_request take_app_request take_verify take_command take_leave rows_have_room keys_differ
    at_most_two_live active_is_live partners_agree links_are_marked floors_are_kept limits_are_started role_is_kept
    pairs_are_kept keeps_rules fits all_fit reject need judge_net judge_nwk candidates judge_aps say knock rejoin
    request_key verify_key member_timer ask tell child_of_router child_of_centre next_member is_unfinished
    centre_timer provision remove_device roll switch_over again share own start disk_of with_disk stands leaves_both
    stored_lines told_lines group_of cut_of setting_of supply task_step step_by step speaker after heard_line
    state_of is_up air draws_used commits_of stations_of refuse_if found_or choose station_of station_at centre_of
    short_of spent both_spent drop_partner drop_others drop_old active_row usable_nets usable_active newest
    usable_of live_of current offered is_live is_known is_told code_row other_user pair_of next_counter stored_limit
    sender_floor applied applied_all after_sealing after_counting after_hearing after_accepting after_boot shown
    with_given_net with_given_link with_declared sealing_key after_event
ends_confirmed = refl
