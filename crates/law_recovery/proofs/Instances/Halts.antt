-- The centre is stopped during the exchange of link keys, and booted. The worked run meets the premises, and repeats
-- lead to the end.
use Rattle.std.specs.Prelude.{◌≡◌, List, [], ◌∷◌, Some, refl}
use Rattle.std.proofs.Math.Path.{subst}
use Rattle.law_recovery.proofs.Instances.Worked.{w, c, d, network, code, drawn, front, joined, proving}
use Rattle.law_recovery.specs.Obstacles.{why_no_confirmation, why_no_offer, why_no_offer_again, why_not_confirmed, why_not_heard, why_not_opened, why_offer_not_kept}
use Rattle.std.proofs.Common.{inr}
use Rattle.zb_model.specs.Play.{frame_at}
use Rattle.zb_model.specs.Data.{DoTimer}
use Rattle.law_recovery.specs.Fronts.{Front, IsReady, after_event}
use Rattle.law_recovery.specs.KeyExchange.{AreMet, HaveJoined, KeysInRange}
use Rattle.law_recovery.specs.Stages.{Keys, HaveCome, Sends, AreFree, asked_bytes, told_bytes, device_seals, centre_seals}
use Rattle.law_recovery.specs.Stops.{AreInOrder, ComesToCentre, Happening, HaveKept, Hearing, Idle, IsInOrder, Taking, Timer, after_happening, after_happenings, kept_far_all}
use Rattle.law_recovery.specs.Turns.{Far, Answered, Asking, Done, Offering, Proved, Proving, far_after_all}
use Rattle.zb_model.specs.Answer.{plan_of, part_of, may_seal, out_of, edits_of, answer_by, reserve_of, stored_floor, floor_of, counting_of, answer, answered}
use Rattle.zb_model.specs.Commands.{take_net_key, take_row, take_link_key, take_app_key, take_switch, take_confirm, take_remove, take_tunnel, take_update, take_request, take_app_request, take_verify, take_command, take_leave}
use Rattle.zb_model.specs.Fits.{rows_have_room, keys_differ, at_most_two_live, active_is_live, partners_agree, links_are_marked, floors_are_kept, limits_are_started, role_is_kept, pairs_are_kept, keeps_rules, fits, all_fit}
use Rattle.zb_model.specs.Judging.{reject, need, judge_net, judge_nwk, candidates, judge_aps}
use Rattle.zb_model.specs.OwnEvents.{say, knock, rejoin, request_key, verify_key, member_timer, ask, tell, child_of_router, child_of_centre, next_member, is_unfinished, centre_timer, provision, remove_device, roll, switch_over, again, share, own}
use Rattle.zb_model.specs.Play.{Own, Deliver, PowerOn, ArmStop, start, disk_of, with_disk, stands, leaves_both, stored_lines, told_lines, group_of, cut_of, setting_of, supply, task_step, step_by, step}
use Rattle.zb_model.specs.Readings.{speaker, after, heard_line, state_of, is_up, air, draws_used, commits_of, stations_of}
use Rattle.zb_model.specs.Rules.{refuse_if, found_or, choose, station_of, station_at, centre_of, short_of, spent, both_spent, drop_partner, drop_others, drop_old}
use Rattle.zb_model.specs.State.{active_row, usable_nets, usable_active, newest, usable_of, live_of, current, offered, is_live, is_known, is_told, code_row, other_user, pair_of, next_counter, stored_limit, sender_floor, applied, applied_all, after_sealing, after_counting, after_hearing, after_accepting, after_boot, shown, with_given_net, with_given_link, with_declared}
use Rattle.zb_model.specs.Tools.{sealing_key}
use Rattle.zb_model.proofs.Toy.{toy}
use Rattle.std.proofs.lemmas.Bool.{ltb-true, leb-true}

abbrev keys : Keys
keys = record { network = network; sequence = 0; link = code; drawn = drawn }

-- the fronts of the run between: the device asked, the centre offered, the device proved, the centre confirmed
abbrev asked : Front
asked = front 26 6

abbrev offered_key : Front
offered_key = front 37 7

abbrev proved : Front
proved = front 45 9

abbrev told : Front
told = front 52 10

-- The disk of the device stops while it stores that it is confirmed, after the gate is open, and the device boots.
abbrev last : List Happening
last = Idle (ArmStop d 3 []) ∷ Taking 5 (state_of proved.lines c) ∷ Idle (PowerOn d) ∷ []

abbrev from_proved : List Happening
from_proved = Hearing 4 (state_of proving.lines d) ∷ last

abbrev from_proving : List Happening
from_proving = Timer ∷ from_proved

abbrev from_offered : List Happening
from_offered = Taking 3 (state_of asked.lines c) ∷ from_proving

abbrev from_asked : List Happening
from_asked = Hearing 2 (state_of joined.lines d) ∷ from_offered

abbrev all : List Happening
all = Timer ∷ from_asked

told_is_next : told ≡ after_happening toy w c d proved (Hearing 4 (state_of proving.lines d))
unfolding toy plan_of part_of may_seal out_of edits_of answer_by reserve_of stored_floor floor_of counting_of answer
    answered take_net_key take_row take_link_key take_app_key take_switch take_confirm take_remove take_tunnel
    take_update take_request take_app_request take_verify take_command take_leave rows_have_room keys_differ
    at_most_two_live active_is_live partners_agree links_are_marked floors_are_kept limits_are_started role_is_kept
    pairs_are_kept keeps_rules fits all_fit reject need judge_net judge_nwk candidates judge_aps say knock rejoin
    request_key verify_key member_timer ask tell child_of_router child_of_centre next_member is_unfinished
    centre_timer provision remove_device roll switch_over again share own start disk_of with_disk stands leaves_both
    stored_lines told_lines group_of cut_of setting_of supply task_step step_by step speaker after heard_line
    state_of is_up air draws_used commits_of stations_of refuse_if found_or choose station_of station_at centre_of
    short_of spent both_spent drop_partner drop_others drop_old active_row usable_nets usable_active newest
    usable_of live_of current offered is_live is_known is_told code_row other_user pair_of next_counter stored_limit
    sender_floor applied applied_all after_sealing after_counting after_hearing after_accepting after_boot shown
    with_given_net with_given_link with_declared sealing_key after_event why_no_confirmation why_no_offer
    why_not_confirmed why_not_heard why_not_opened why_offer_not_kept why_no_offer_again
told_is_next = refl

proved_is_next : proved ≡ after_happening toy w c d proving Timer
unfolding toy plan_of part_of may_seal out_of edits_of answer_by reserve_of stored_floor floor_of counting_of answer
    answered take_net_key take_row take_link_key take_app_key take_switch take_confirm take_remove take_tunnel
    take_update take_request take_app_request take_verify take_command take_leave rows_have_room keys_differ
    at_most_two_live active_is_live partners_agree links_are_marked floors_are_kept limits_are_started role_is_kept
    pairs_are_kept keeps_rules fits all_fit reject need judge_net judge_nwk candidates judge_aps say knock rejoin
    request_key verify_key member_timer ask tell child_of_router child_of_centre next_member is_unfinished
    centre_timer provision remove_device roll switch_over again share own start disk_of with_disk stands leaves_both
    stored_lines told_lines group_of cut_of setting_of supply task_step step_by step speaker after heard_line
    state_of is_up air draws_used commits_of stations_of refuse_if found_or choose station_of station_at centre_of
    short_of spent both_spent drop_partner drop_others drop_old active_row usable_nets usable_active newest
    usable_of live_of current offered is_live is_known is_told code_row other_user pair_of next_counter stored_limit
    sender_floor applied applied_all after_sealing after_counting after_hearing after_accepting after_boot shown
    with_given_net with_given_link with_declared sealing_key after_event why_no_confirmation why_no_offer
    why_not_confirmed why_not_heard why_not_opened why_offer_not_kept why_no_offer_again
proved_is_next = refl

proving_is_next : proving ≡ after_happening toy w c d offered_key (Taking 3 (state_of asked.lines c))
unfolding toy plan_of part_of may_seal out_of edits_of answer_by reserve_of stored_floor floor_of counting_of answer
    answered take_net_key take_row take_link_key take_app_key take_switch take_confirm take_remove take_tunnel
    take_update take_request take_app_request take_verify take_command take_leave rows_have_room keys_differ
    at_most_two_live active_is_live partners_agree links_are_marked floors_are_kept limits_are_started role_is_kept
    pairs_are_kept keeps_rules fits all_fit reject need judge_net judge_nwk candidates judge_aps say knock rejoin
    request_key verify_key member_timer ask tell child_of_router child_of_centre next_member is_unfinished
    centre_timer provision remove_device roll switch_over again share own start disk_of with_disk stands leaves_both
    stored_lines told_lines group_of cut_of setting_of supply task_step step_by step speaker after heard_line
    state_of is_up air draws_used commits_of stations_of refuse_if found_or choose station_of station_at centre_of
    short_of spent both_spent drop_partner drop_others drop_old active_row usable_nets usable_active newest
    usable_of live_of current offered is_live is_known is_told code_row other_user pair_of next_counter stored_limit
    sender_floor applied applied_all after_sealing after_counting after_hearing after_accepting after_boot shown
    with_given_net with_given_link with_declared sealing_key after_event why_no_confirmation why_no_offer
    why_not_confirmed why_not_heard why_not_opened why_offer_not_kept why_no_offer_again
proving_is_next = refl

offered_is_next : offered_key ≡ after_happening toy w c d asked (Hearing 2 (state_of joined.lines d))
unfolding toy plan_of part_of may_seal out_of edits_of answer_by reserve_of stored_floor floor_of counting_of answer
    answered take_net_key take_row take_link_key take_app_key take_switch take_confirm take_remove take_tunnel
    take_update take_request take_app_request take_verify take_command take_leave rows_have_room keys_differ
    at_most_two_live active_is_live partners_agree links_are_marked floors_are_kept limits_are_started role_is_kept
    pairs_are_kept keeps_rules fits all_fit reject need judge_net judge_nwk candidates judge_aps say knock rejoin
    request_key verify_key member_timer ask tell child_of_router child_of_centre next_member is_unfinished
    centre_timer provision remove_device roll switch_over again share own start disk_of with_disk stands leaves_both
    stored_lines told_lines group_of cut_of setting_of supply task_step step_by step speaker after heard_line
    state_of is_up air draws_used commits_of stations_of refuse_if found_or choose station_of station_at centre_of
    short_of spent both_spent drop_partner drop_others drop_old active_row usable_nets usable_active newest
    usable_of live_of current offered is_live is_known is_told code_row other_user pair_of next_counter stored_limit
    sender_floor applied applied_all after_sealing after_counting after_hearing after_accepting after_boot shown
    with_given_net with_given_link with_declared sealing_key after_event why_no_confirmation why_no_offer
    why_not_confirmed why_not_heard why_not_opened why_offer_not_kept why_no_offer_again
offered_is_next = refl

asked_is_next : asked ≡ after_happening toy w c d joined Timer
unfolding toy plan_of part_of may_seal out_of edits_of answer_by reserve_of stored_floor floor_of counting_of answer
    answered take_net_key take_row take_link_key take_app_key take_switch take_confirm take_remove take_tunnel
    take_update take_request take_app_request take_verify take_command take_leave rows_have_room keys_differ
    at_most_two_live active_is_live partners_agree links_are_marked floors_are_kept limits_are_started role_is_kept
    pairs_are_kept keeps_rules fits all_fit reject need judge_net judge_nwk candidates judge_aps say knock rejoin
    request_key verify_key member_timer ask tell child_of_router child_of_centre next_member is_unfinished
    centre_timer provision remove_device roll switch_over again share own start disk_of with_disk stands leaves_both
    stored_lines told_lines group_of cut_of setting_of supply task_step step_by step speaker after heard_line
    state_of is_up air draws_used commits_of stations_of refuse_if found_or choose station_of station_at centre_of
    short_of spent both_spent drop_partner drop_others drop_old active_row usable_nets usable_active newest
    usable_of live_of current offered is_live is_known is_told code_row other_user pair_of next_counter stored_limit
    sender_floor applied applied_all after_sealing after_counting after_hearing after_accepting after_boot shown
    with_given_net with_given_link with_declared sealing_key after_event why_no_confirmation why_no_offer
    why_not_confirmed why_not_heard why_not_opened why_offer_not_kept why_no_offer_again
asked_is_next = refl

-- what happens from each of these fronts on meets the premises, and at the end the two are done
abbrev InOrder : Front → Far → List Happening → Type 0
InOrder y far happenings = AreInOrder toy w c d keys y far happenings
    × (kept_far_all toy w c d keys y far happenings ≡ Done)
    × IsReady (after_happenings toy w c d y happenings) c × IsReady (after_happenings toy w c d y happenings) d

after_told : InOrder told Proved last
unfolding toy plan_of part_of may_seal out_of edits_of answer_by reserve_of stored_floor floor_of counting_of answer
    answered take_net_key take_row take_link_key take_app_key take_switch take_confirm take_remove take_tunnel
    take_update take_request take_app_request take_verify take_command take_leave rows_have_room keys_differ
    at_most_two_live active_is_live partners_agree links_are_marked floors_are_kept limits_are_started role_is_kept
    pairs_are_kept keeps_rules fits all_fit reject need judge_net judge_nwk candidates judge_aps say knock rejoin
    request_key verify_key member_timer ask tell child_of_router child_of_centre next_member is_unfinished
    centre_timer provision remove_device roll switch_over again share own start disk_of with_disk stands leaves_both
    stored_lines told_lines group_of cut_of setting_of supply task_step step_by step speaker after heard_line
    state_of is_up air draws_used commits_of stations_of refuse_if found_or choose station_of station_at centre_of
    short_of spent both_spent drop_partner drop_others drop_old active_row usable_nets usable_active newest
    usable_of live_of current offered is_live is_known is_told code_row other_user pair_of next_counter stored_limit
    sender_floor applied applied_all after_sealing after_counting after_hearing after_accepting after_boot shown
    with_given_net with_given_link with_declared sealing_key after_event why_no_confirmation why_no_offer
    why_not_confirmed why_not_heard why_not_opened why_offer_not_kept why_no_offer_again
after_told = (
  (inr tt, (record { answered = tt; on_air = refl; sent = refl; free = refl }, (inr tt, tt))),
  refl,
  record { up = refl; unarmed = refl },
  record { up = refl; unarmed = refl },
)

after_proved : InOrder proved Proving from_proved
unfolding toy plan_of part_of may_seal out_of edits_of answer_by reserve_of stored_floor floor_of counting_of answer
    answered take_net_key take_row take_link_key take_app_key take_switch take_confirm take_remove take_tunnel
    take_update take_request take_app_request take_verify take_command take_leave rows_have_room keys_differ
    at_most_two_live active_is_live partners_agree links_are_marked floors_are_kept limits_are_started role_is_kept
    pairs_are_kept keeps_rules fits all_fit reject need judge_net judge_nwk candidates judge_aps say knock rejoin
    request_key verify_key member_timer ask tell child_of_router child_of_centre next_member is_unfinished
    centre_timer provision remove_device roll switch_over again share own start disk_of with_disk stands leaves_both
    stored_lines told_lines group_of cut_of setting_of supply task_step step_by step speaker after heard_line
    state_of is_up air draws_used commits_of stations_of refuse_if found_or choose station_of station_at centre_of
    short_of spent both_spent drop_partner drop_others drop_old active_row usable_nets usable_active newest
    usable_of live_of current offered is_live is_known is_told code_row other_user pair_of next_counter stored_limit
    sender_floor applied applied_all after_sealing after_counting after_hearing after_accepting after_boot shown
    with_given_net with_given_link with_declared sealing_key after_event why_no_confirmation why_no_offer
    why_not_confirmed why_not_heard why_not_opened why_offer_not_kept why_no_offer_again
after_proved =
    let rest = subst (λ y. InOrder y Proved last) told_is_next after_told in
    ((record { on_air = refl; sent = refl; free = refl }, rest.0), rest.1, rest.2, rest.3)

after_proving : InOrder proving Proving from_proving
unfolding toy plan_of part_of may_seal out_of edits_of answer_by reserve_of stored_floor floor_of counting_of answer
    answered take_net_key take_row take_link_key take_app_key take_switch take_confirm take_remove take_tunnel
    take_update take_request take_app_request take_verify take_command take_leave rows_have_room keys_differ
    at_most_two_live active_is_live partners_agree links_are_marked floors_are_kept limits_are_started role_is_kept
    pairs_are_kept keeps_rules fits all_fit reject need judge_net judge_nwk candidates judge_aps say knock rejoin
    request_key verify_key member_timer ask tell child_of_router child_of_centre next_member is_unfinished
    centre_timer provision remove_device roll switch_over again share own start disk_of with_disk stands leaves_both
    stored_lines told_lines group_of cut_of setting_of supply task_step step_by step speaker after heard_line
    state_of is_up air draws_used commits_of stations_of refuse_if found_or choose station_of station_at centre_of
    short_of spent both_spent drop_partner drop_others drop_old active_row usable_nets usable_active newest
    usable_of live_of current offered is_live is_known is_told code_row other_user pair_of next_counter stored_limit
    sender_floor applied applied_all after_sealing after_counting after_hearing after_accepting after_boot shown
    with_given_net with_given_link with_declared sealing_key after_event why_no_confirmation why_no_offer
    why_not_confirmed why_not_heard why_not_opened why_offer_not_kept why_no_offer_again
after_proving =
    let rest = subst (λ y. InOrder y Proving from_proved) proved_is_next after_proved in
    ((tt, rest.0), rest.1, rest.2, rest.3)

after_offered : InOrder offered_key Offering from_offered
unfolding toy plan_of part_of may_seal out_of edits_of answer_by reserve_of stored_floor floor_of counting_of answer
    answered take_net_key take_row take_link_key take_app_key take_switch take_confirm take_remove take_tunnel
    take_update take_request take_app_request take_verify take_command take_leave rows_have_room keys_differ
    at_most_two_live active_is_live partners_agree links_are_marked floors_are_kept limits_are_started role_is_kept
    pairs_are_kept keeps_rules fits all_fit reject need judge_net judge_nwk candidates judge_aps say knock rejoin
    request_key verify_key member_timer ask tell child_of_router child_of_centre next_member is_unfinished
    centre_timer provision remove_device roll switch_over again share own start disk_of with_disk stands leaves_both
    stored_lines told_lines group_of cut_of setting_of supply task_step step_by step speaker after heard_line
    state_of is_up air draws_used commits_of stations_of refuse_if found_or choose station_of station_at centre_of
    short_of spent both_spent drop_partner drop_others drop_old active_row usable_nets usable_active newest
    usable_of live_of current offered is_live is_known is_told code_row other_user pair_of next_counter stored_limit
    sender_floor applied applied_all after_sealing after_counting after_hearing after_accepting after_boot shown
    with_given_net with_given_link with_declared sealing_key after_event why_no_confirmation why_no_offer
    why_not_confirmed why_not_heard why_not_opened why_offer_not_kept why_no_offer_again
after_offered =
    let rest = subst (λ y. InOrder y Proving from_proving) proving_is_next after_proving in
    ((record { answered = tt; on_air = refl; sent = refl; free = (refl, refl) }, rest.0), rest.1, rest.2, rest.3)

after_asked : InOrder asked Asking from_asked
unfolding toy plan_of part_of may_seal out_of edits_of answer_by reserve_of stored_floor floor_of counting_of answer
    answered take_net_key take_row take_link_key take_app_key take_switch take_confirm take_remove take_tunnel
    take_update take_request take_app_request take_verify take_command take_leave rows_have_room keys_differ
    at_most_two_live active_is_live partners_agree links_are_marked floors_are_kept limits_are_started role_is_kept
    pairs_are_kept keeps_rules fits all_fit reject need judge_net judge_nwk candidates judge_aps say knock rejoin
    request_key verify_key member_timer ask tell child_of_router child_of_centre next_member is_unfinished
    centre_timer provision remove_device roll switch_over again share own start disk_of with_disk stands leaves_both
    stored_lines told_lines group_of cut_of setting_of supply task_step step_by step speaker after heard_line
    state_of is_up air draws_used commits_of stations_of refuse_if found_or choose station_of station_at centre_of
    short_of spent both_spent drop_partner drop_others drop_old active_row usable_nets usable_active newest
    usable_of live_of current offered is_live is_known is_told code_row other_user pair_of next_counter stored_limit
    sender_floor applied applied_all after_sealing after_counting after_hearing after_accepting after_boot shown
    with_given_net with_given_link with_declared sealing_key after_event why_no_confirmation why_no_offer
    why_not_confirmed why_not_heard why_not_opened why_offer_not_kept why_no_offer_again
after_asked =
    let rest = subst (λ y. InOrder y Offering from_offered) offered_is_next after_offered in
    ((record { on_air = refl; sent = refl; free = (refl, refl) }, rest.0), rest.1, rest.2, rest.3)

after_joined : InOrder joined Asking all
unfolding toy plan_of part_of may_seal out_of edits_of answer_by reserve_of stored_floor floor_of counting_of answer
    answered take_net_key take_row take_link_key take_app_key take_switch take_confirm take_remove take_tunnel
    take_update take_request take_app_request take_verify take_command take_leave rows_have_room keys_differ
    at_most_two_live active_is_live partners_agree links_are_marked floors_are_kept limits_are_started role_is_kept
    pairs_are_kept keeps_rules fits all_fit reject need judge_net judge_nwk candidates judge_aps say knock rejoin
    request_key verify_key member_timer ask tell child_of_router child_of_centre next_member is_unfinished
    centre_timer provision remove_device roll switch_over again share own start disk_of with_disk stands leaves_both
    stored_lines told_lines group_of cut_of setting_of supply task_step step_by step speaker after heard_line
    state_of is_up air draws_used commits_of stations_of refuse_if found_or choose station_of station_at centre_of
    short_of spent both_spent drop_partner drop_others drop_old active_row usable_nets usable_active newest
    usable_of live_of current offered is_live is_known is_told code_row other_user pair_of next_counter stored_limit
    sender_floor applied applied_all after_sealing after_counting after_hearing after_accepting after_boot shown
    with_given_net with_given_link with_declared sealing_key after_event why_no_confirmation why_no_offer
    why_not_confirmed why_not_heard why_not_opened why_offer_not_kept why_no_offer_again
after_joined =
    let rest = subst (λ y. InOrder y Asking from_asked) asked_is_next after_asked in
    ((tt, rest.0), rest.1, rest.2, rest.3)

-- Instance of a_stop_costs_a_repeat.
record StopsCase : Type 0 where
  sizes : KeysInRange network 0 code
  met : AreMet w joined c d
  have_joined : HaveJoined w joined c d network 0 code
  have_kept : HaveKept w joined c d keys Asking
  come : HaveCome w joined c d keys Asking
  one_in_order : IsInOrder toy w joined c d keys Asking Timer
  in_order : AreInOrder toy w c d keys joined Asking all
  over : kept_far_all toy w c d keys joined Asking all ≡ Done
  ready : IsReady (after_happenings toy w c d joined all) c
  then_ready : IsReady (after_happenings toy w c d joined all) d
  all_free : AreFree toy w c d keys proving Proving (Answered ∷ [])
  then_over : far_after_all Proving (Answered ∷ []) ≡ Done

stops : StopsCase
unfolding toy plan_of part_of may_seal out_of edits_of answer_by reserve_of stored_floor floor_of counting_of answer
    answered take_net_key take_row take_link_key take_app_key take_switch take_confirm take_remove take_tunnel
    take_update take_request take_app_request take_verify take_command take_leave rows_have_room keys_differ
    at_most_two_live active_is_live partners_agree links_are_marked floors_are_kept limits_are_started role_is_kept
    pairs_are_kept keeps_rules fits all_fit reject need judge_net judge_nwk candidates judge_aps say knock rejoin
    request_key verify_key member_timer ask tell child_of_router child_of_centre next_member is_unfinished
    centre_timer provision remove_device roll switch_over again share own start disk_of with_disk stands leaves_both
    stored_lines told_lines group_of cut_of setting_of supply task_step step_by step speaker after heard_line
    state_of is_up air draws_used commits_of stations_of refuse_if found_or choose station_of station_at centre_of
    short_of spent both_spent drop_partner drop_others drop_old active_row usable_nets usable_active newest
    usable_of live_of current offered is_live is_known is_told code_row other_user pair_of next_counter stored_limit
    sender_floor applied applied_all after_sealing after_counting after_hearing after_accepting after_boot shown
    with_given_net with_given_link with_declared sealing_key after_event why_no_confirmation why_no_offer
    why_not_confirmed why_not_heard why_not_opened why_offer_not_kept why_no_offer_again
stops = record {
  sizes = record { key_size = refl; small = ltb-true _ _ refl; link_size = refl };
  met = record {
    apart = refl;
    declared = record {
      network = record {
        centre_role = refl;
        member_role = refl;
        centre_known = refl;
        short_known = refl;
        shorts_differ = refl;
        in_block = leb-true _ _ refl;
      };
      centre_short = refl;
      centre_block = leb-true _ _ refl;
      centre_declared = refl;
      device_declared = refl;
    };
    stations = record {
      centre = ltb-true _ _ refl;
      device = ltb-true _ _ refl;
      centre_short = ltb-true _ _ refl;
      device_short = ltb-true _ _ refl;
    };
    centre_ready = record { up = refl; unarmed = refl };
    device_ready = record { up = refl; unarmed = refl };
    centre_steady = record { rules = refl; role = refl };
    device_steady = record { rules = refl; role = refl };
  };
  have_joined = record {
    device = record {
      network = record {
        active = _;
        is_active = refl;
        active_key = refl;
        active_sequence = refl;
        found = _;
        is_found = refl;
        found_key = refl;
      };
      joined = refl;
      keys = record { row = _; is_current = refl; row_key = refl; none_offered = refl };
    };
    network = record {
      active = _;
      is_active = refl;
      active_key = refl;
      active_sequence = refl;
      found = _;
      is_found = refl;
      found_key = refl;
    };
    keys = record { row = _; is_current = refl; row_key = refl; none_offered = refl };
  };
  have_kept = record {
    apart = refl;
    declared = record {
      network = record {
        centre_role = refl;
        member_role = refl;
        centre_known = refl;
        short_known = refl;
        shorts_differ = refl;
        in_block = leb-true _ _ refl;
      };
      centre_short = refl;
      centre_block = leb-true _ _ refl;
      centre_declared = refl;
      device_declared = refl;
    };
    stations = record {
      centre = ltb-true _ _ refl;
      device = ltb-true _ _ refl;
      centre_short = ltb-true _ _ refl;
      device_short = ltb-true _ _ refl;
    };
    centre_steady = record { rules = refl; role = refl };
    device_steady = record { rules = refl; role = refl };
    network = record {
      active = _;
      is_active = refl;
      active_key = refl;
      active_sequence = refl;
      found = _;
      is_found = refl;
      found_key = refl;
    };
    device = record {
      network = record {
        active = _;
        is_active = refl;
        active_key = refl;
        active_sequence = refl;
        found = _;
        is_found = refl;
        found_key = refl;
      };
      joined = refl;
      keys = record { row = _; is_current = refl; row_key = refl; none_offered = refl };
    };
    centre = record { row = _; is_current = refl; row_key = refl; none_offered = refl };
  };
  come = record {
    met = record {
      apart = refl;
      declared = record {
        network = record {
          centre_role = refl;
          member_role = refl;
          centre_known = refl;
          short_known = refl;
          shorts_differ = refl;
          in_block = leb-true _ _ refl;
        };
        centre_short = refl;
        centre_block = leb-true _ _ refl;
        centre_declared = refl;
        device_declared = refl;
      };
      stations = record {
        centre = ltb-true _ _ refl;
        device = ltb-true _ _ refl;
        centre_short = ltb-true _ _ refl;
        device_short = ltb-true _ _ refl;
      };
      centre_ready = record { up = refl; unarmed = refl };
      device_ready = record { up = refl; unarmed = refl };
      centre_steady = record { rules = refl; role = refl };
      device_steady = record { rules = refl; role = refl };
    };
    network = record {
      active = _;
      is_active = refl;
      active_key = refl;
      active_sequence = refl;
      found = _;
      is_found = refl;
      found_key = refl;
    };
    device = record {
      network = record {
        active = _;
        is_active = refl;
        active_key = refl;
        active_sequence = refl;
        found = _;
        is_found = refl;
        found_key = refl;
      };
      joined = refl;
      keys = record { row = _; is_current = refl; row_key = refl; none_offered = refl };
    };
    centre = record { row = _; is_current = refl; row_key = refl; none_offered = refl };
  };
  one_in_order = tt;
  in_order = after_joined.0;
  over = after_joined.1;
  ready = after_joined.2;
  then_ready = after_joined.3;
  all_free = (((refl, refl), refl), tt);
  then_over = refl;
}

-- Instance of frames_of_the_exchange_are_on_the_air.
record AreOnTheAirCase : Type 0 where
  sizes : KeysInRange network 0 code
  have_kept : HaveKept w joined c d keys Asking
  sends : Sends Asking (state_of joined.lines d)
  comes : ComesToCentre toy w (front 26 6) c d keys Asking 2 (state_of joined.lines d)
  on_air : frame_at (after_event toy w joined (Own d DoTimer)).lines 2 ≡ Some (asked_bytes Asking toy w c d
      (device_seals Asking (state_of joined.lines d) keys))
  then_on_air : frame_at (after_event toy w (front 26 6) (Deliver 2 c)).lines 3 ≡ Some
      (told_bytes Offering toy w c d keys (centre_seals Offering (state_of joined.lines c) keys))

are_on_the_air : AreOnTheAirCase
unfolding toy plan_of part_of may_seal out_of edits_of answer_by reserve_of stored_floor floor_of counting_of answer
    answered take_net_key take_row take_link_key take_app_key take_switch take_confirm take_remove take_tunnel
    take_update take_request take_app_request take_verify take_command take_leave rows_have_room keys_differ
    at_most_two_live active_is_live partners_agree links_are_marked floors_are_kept limits_are_started role_is_kept
    pairs_are_kept keeps_rules fits all_fit reject need judge_net judge_nwk candidates judge_aps say knock rejoin
    request_key verify_key member_timer ask tell child_of_router child_of_centre next_member is_unfinished
    centre_timer provision remove_device roll switch_over again share own start disk_of with_disk stands leaves_both
    stored_lines told_lines group_of cut_of setting_of supply task_step step_by step speaker after heard_line
    state_of is_up air draws_used commits_of stations_of refuse_if found_or choose station_of station_at centre_of
    short_of spent both_spent drop_partner drop_others drop_old active_row usable_nets usable_active newest
    usable_of live_of current offered is_live is_known is_told code_row other_user pair_of next_counter stored_limit
    sender_floor applied applied_all after_sealing after_counting after_hearing after_accepting after_boot shown
    with_given_net with_given_link with_declared sealing_key after_event why_no_confirmation why_no_offer
    why_not_confirmed why_not_heard why_not_opened why_offer_not_kept why_no_offer_again
are_on_the_air = record {
  sizes = record { key_size = refl; small = ltb-true _ _ refl; link_size = refl };
  have_kept = record {
    apart = refl;
    declared = record {
      network = record {
        centre_role = refl;
        member_role = refl;
        centre_known = refl;
        short_known = refl;
        shorts_differ = refl;
        in_block = leb-true _ _ refl;
      };
      centre_short = refl;
      centre_block = leb-true _ _ refl;
      centre_declared = refl;
      device_declared = refl;
    };
    stations = record {
      centre = ltb-true _ _ refl;
      device = ltb-true _ _ refl;
      centre_short = ltb-true _ _ refl;
      device_short = ltb-true _ _ refl;
    };
    centre_steady = record { rules = refl; role = refl };
    device_steady = record { rules = refl; role = refl };
    network = record {
      active = _;
      is_active = refl;
      active_key = refl;
      active_sequence = refl;
      found = _;
      is_found = refl;
      found_key = refl;
    };
    device = record {
      network = record {
        active = _;
        is_active = refl;
        active_key = refl;
        active_sequence = refl;
        found = _;
        is_found = refl;
        found_key = refl;
      };
      joined = refl;
      keys = record { row = _; is_current = refl; row_key = refl; none_offered = refl };
    };
    centre = record { row = _; is_current = refl; row_key = refl; none_offered = refl };
  };
  sends = refl;
  comes = record { on_air = refl; sent = refl; free = (refl, refl) };
  on_air = refl;
  then_on_air = refl;
}
