-- For the laws that have premises: a small schedule and its states meet them, and the laws apply to it.
use Rattle.std.specs.Prelude.{ℕ, ◌≡◌, true, false, [], ◌∷◌, replicate, Some, None, nat_eq, refl}
use Rattle.std.proofs.Common.{sym, ap, ◌∙◌}
use Rattle.std.proofs.lemmas.Bool.{false≢true, ltb-true, leb-true}
use Rattle.zb_model.specs.Data.{Bytes, Role, Centre, Device, Station, DoKnock, DoProvision, DoRemove}
use Rattle.zb_model.specs.Schedules.{IsMember, IsSchedule, Names}
use Rattle.zb_model.specs.Secrets.{well_known}
use Rattle.zb_model.specs.State.{same_key}
use Rattle.zb_model.specs.Tools.{Tools}
use Rattle.zb_model.specs.Claims.{Fresh, Once, Confirms, Locked}
use Rattle.law_run.specs.Opening.{Opens}
use Rattle.zb_model.proofs.Toy.{toy}
use Rattle.law_run.specs.Commanding.{OneCentre, SpellsConfirm, ShowsKeys}
use Rattle.law_run.specs.KeysApart.{KeysApart, IsNewKey}
use Rattle.law_run.specs.Premises.{Premises}
use Rattle.law_run.specs.Records.{FitsRecord, state_in}
use Rattle.law_run.proofs.Runs.{fresh}
use Rattle.law_run.proofs.OnceRuns.{once}
use Rattle.law_run.proofs.ConfirmsRuns.{confirms}
use Rattle.law_run.proofs.LockoutLaw.{locked}
use Rattle.law_run.proofs.RecordLaws.{read-back}
use Rattle.zb_model.specs.Play.{Node, RollOver, Schedule, Own, start, disk_of, with_disk, stands, leaves_both, stored_lines, told_lines, group_of, cut_of, setting_of, supply, task_step, forged_net, forged_both, forged_open, step_by, step, groups}
use Rattle.zb_model.specs.Transcript.{end_line, run_lines, transcript}
use Rattle.zb_model.specs.Answer.{plan_of, part_of, may_seal, out_of, edits_of, answer_by, reserve_of, stored_floor, floor_of, counting_of, answer, answered}
use Rattle.zb_model.specs.Commands.{take_net_key, take_row, take_link_key, take_app_key, take_switch, take_confirm, take_remove, take_tunnel, take_update, take_request, take_app_request, take_verify, take_command, take_leave}
use Rattle.zb_model.specs.Fits.{rows_have_room, keys_differ, at_most_two_live, active_is_live, partners_agree, links_are_marked, floors_are_kept, limits_are_started, role_is_kept, pairs_are_kept, keeps_rules, fits, all_fit}
use Rattle.zb_model.specs.Judging.{reject, need, judge_net, judge_nwk, candidates, judge_aps}
use Rattle.zb_model.specs.OwnEvents.{say, knock, rejoin, request_key, verify_key, member_timer, ask, tell, child_of_router, child_of_centre, next_member, is_unfinished, centre_timer, provision, remove_device, roll, switch_over, again, share, own}
use Rattle.zb_model.specs.Readings.{speaker, after, heard_line, state_of, is_up, air, draws_used, commits_of, stations_of}
use Rattle.zb_model.specs.Record.{record_of, edit_bytes, payload}
use Rattle.zb_model.specs.Rules.{refuse_if, found_or, choose, station_of, station_at, centre_of, short_of, spent, both_spent, drop_partner, drop_others, drop_old}
use Rattle.zb_model.specs.Secrets.{carried, terms_of, a_round, rounds, exposed, centre_in, ever, removed_devices, outside, network_keys, each_line, same_term, bases, codes_of, came_by, ideal_line, ideal, passes_on, private}
use Rattle.zb_model.specs.State.{active_row, usable_nets, usable_active, newest, usable_of, live_of, current, offered, is_live, is_known, is_told, code_row, other_user, pair_of, next_counter, stored_limit, sender_floor, applied, applied_all, after_sealing, after_counting, after_hearing, after_accepting, after_boot, shown, with_given_net, with_given_link, with_declared}
use Rattle.zb_model.specs.Tools.{sealing_key}

abbrev key : ℕ → Bytes
key n = replicate 16 n

abbrev station : Role → ℕ → Station
station role eui = record { name = []; eui = eui; short = eui; role = role; out_block = 16; in_block = 4 }

abbrev centre : Node
centre =
    record { station = station Centre 1; code = None; network = Some (key 1, 7); start_nwk = 0; start_aps = 0 }

abbrev device : Node
device = record { station = station Device 2; code = Some (key 2); network = None; start_nwk = 0; start_aps = 0 }

-- The code of the device is entered, it knocks, and it is removed; then the network key is replaced.
abbrev w : Schedule
w = record {
  nodes = centre ∷ device ∷ [];
  draws = key 3 ∷ key 4 ∷ [];
  events = Own 1 (DoProvision 2 (key 2)) ∷ Own 2 DoKnock ∷ Own 1 (DoRemove 2 1) ∷ RollOver 1 ∷ [];
}

differ : (a b : Bytes) → same_key a b ≡ false → same_key b b ≡ true → a ≡ b → ⊥
differ a b other same e = false≢true (sym other ∙ ap (λ bytes. same_key bytes b) e ∙ same)

apart : (a b : ℕ) → nat_eq a b ≡ false → nat_eq b b ≡ true → a ≡ b → ⊥
apart a b other same e = false≢true (sym other ∙ ap (λ n. nat_eq n b) e ∙ same)

centre_is_member : IsMember centre
centre_is_member = record {
  eui = ltb-true _ _ refl;
  out_block = ltb-true _ _ refl;
  in_block = ltb-true _ _ refl;
  start_nwk = leb-true _ _ refl;
  start_aps = leb-true _ _ refl;
}

device_is_member : IsMember device
device_is_member = record {
  eui = ltb-true _ _ refl;
  out_block = ltb-true _ _ refl;
  in_block = ltb-true _ _ refl;
  start_nwk = leb-true _ _ refl;
  start_aps = leb-true _ _ refl;
}

is_schedule : IsSchedule w
unfolding setting_of station_of
is_schedule = record {
  few_nodes = leb-true _ _ refl;
  nodes = (centre_is_member, (device_is_member, tt));
  events = (refl, (refl, (refl, (refl, tt))));
  roles = (refl, (refl, (refl, (refl, tt))));
  calls = (tt, (tt, (tt, (tt, tt))));
}

one_centre : OneCentre w
unfolding centre_of
one_centre = (λ is. refl, (λ is. absurd (false≢true is), tt))

new_key : (n : ℕ) → same_key (key n) well_known ≡ false → same_key (key 1) (key n) ≡ false
    → same_key (key 2) (key n) ≡ false → same_key (key n) (key n) ≡ true → IsNewKey w (key n)
new_key n a b c same = (
  differ (key n) well_known a refl,
  (
    (differ (key 1) (key n) b same, tt),
    ((differ (key 2) (key n) c same, tt), tt),
  ),
)

keys_apart : KeysApart w
unfolding centre_of
keys_apart = record {
  draws_differ = ((differ (key 4) (key 3) refl refl, tt), (tt, tt));
  draws_new = (new_key 3 refl refl refl refl, (new_key 4 refl refl refl refl, tt));
  entered = (
    (
      apart 2 1 refl refl,
      differ (key 2) well_known refl refl,
      (differ (key 3) (key 2) refl refl, (differ (key 4) (key 2) refl refl, tt)),
      ((differ (key 1) (key 2) refl refl, tt), (tt, tt)),
    ),
    (tt, (tt, (tt, tt))),
  );
  alone = (λ e. refl, (λ e. absurd (apart 2 1 refl refl e), tt));
  no_code = (λ e. refl, (λ e. absurd (apart 2 1 refl refl e), tt));
}

-- Instance of no_nonce_comes_again, no_counter_is_taken_twice, only_stored_keys_are_confirmed,
-- outsiders_are_refused, a_removed_device_obtains_no_later_key, removed_devices_are_locked_out,
-- each_seal_takes_the_next_counter, no_counter_is_skipped_without_a_boot,
-- who_has_spent_its_counters_stands_at_the_end, rules_find_what_they_look_for, events_suit_the_role_of_their_node,
-- a_newest_key_is_there, lines_of_a_run_say_what_its_states_say, nodes_are_as_declared_all_along,
-- nodes_start_by_the_rules, states_keep_the_rules_all_along, every_run_of_real_frames_holds,
-- runs_keep_the_first_claim, lines_of_a_run_are_of_its_nodes.
record RunCase : Type 0 where
  schedule : IsSchedule w
  one_centre : OneCentre w
  keys : KeysApart w
  premises : Premises w
  named : Names w 1
  ideal_run : ideal toy (run_lines toy w) ≡ true
  private_run : private toy (run_lines toy w) ≡ true
  fresh_seals : (tools : Tools) → Fresh tools (transcript tools w)
  once : (tools : Tools) → Opens tools → Once (transcript tools w)
  confirms : (tools : Tools) → Opens tools → SpellsConfirm tools → Confirms tools (transcript tools w)
  locked : Opens toy → ShowsKeys toy → Locked toy (transcript toy w)

run : RunCase
unfolding toy plan_of part_of may_seal out_of edits_of answer_by reserve_of stored_floor floor_of counting_of answer
    answered take_net_key take_row take_link_key take_app_key take_switch take_confirm take_remove take_tunnel
    take_update take_request take_app_request take_verify take_command take_leave rows_have_room keys_differ
    at_most_two_live active_is_live partners_agree links_are_marked floors_are_kept limits_are_started role_is_kept
    pairs_are_kept keeps_rules fits all_fit reject need judge_net judge_nwk candidates judge_aps say knock rejoin
    request_key verify_key member_timer ask tell child_of_router child_of_centre next_member is_unfinished
    centre_timer provision remove_device roll switch_over again share own start disk_of with_disk stands leaves_both
    stored_lines told_lines group_of cut_of setting_of supply task_step forged_net forged_both forged_open step_by
    step groups speaker after heard_line state_of is_up air draws_used commits_of stations_of record_of edit_bytes
    payload refuse_if found_or choose station_of station_at centre_of short_of spent both_spent drop_partner
    drop_others drop_old carried terms_of a_round rounds exposed centre_in ever removed_devices outside network_keys
    each_line same_term bases codes_of came_by ideal_line ideal passes_on private active_row usable_nets usable_active
    newest usable_of live_of current offered is_live is_known is_told code_row other_user pair_of next_counter
    stored_limit sender_floor applied applied_all after_sealing after_counting after_hearing after_accepting
    after_boot shown with_given_net with_given_link with_declared sealing_key end_line run_lines transcript
run = record {
  schedule = is_schedule;
  one_centre = one_centre;
  keys = keys_apart;
  premises = record { schedule = is_schedule; one_centre = one_centre; keys = keys_apart };
  named = refl;
  ideal_run = refl;
  private_run = refl;
  fresh_seals = λ tools. fresh tools w is_schedule;
  once = λ tools opens. once tools opens w is_schedule;
  confirms = λ tools opens spells. confirms tools opens spells w is_schedule one_centre;
  locked = λ opens shows. locked toy opens shows w is_schedule one_centre keys_apart refl refl;
}

centre_fits : FitsRecord (state_of (start w) 1)
unfolding toy plan_of part_of may_seal out_of edits_of answer_by reserve_of stored_floor floor_of counting_of answer
    answered take_net_key take_row take_link_key take_app_key take_switch take_confirm take_remove take_tunnel
    take_update take_request take_app_request take_verify take_command take_leave rows_have_room keys_differ
    at_most_two_live active_is_live partners_agree links_are_marked floors_are_kept limits_are_started role_is_kept
    pairs_are_kept keeps_rules fits all_fit reject need judge_net judge_nwk candidates judge_aps say knock rejoin
    request_key verify_key member_timer ask tell child_of_router child_of_centre next_member is_unfinished
    centre_timer provision remove_device roll switch_over again share own start disk_of with_disk stands leaves_both
    stored_lines told_lines group_of cut_of setting_of supply task_step forged_net forged_both forged_open step_by
    step groups speaker after heard_line state_of is_up air draws_used commits_of stations_of record_of edit_bytes
    payload refuse_if found_or choose station_of station_at centre_of short_of spent both_spent drop_partner
    drop_others drop_old carried terms_of a_round rounds exposed centre_in ever removed_devices outside network_keys
    each_line same_term bases codes_of came_by ideal_line ideal passes_on private active_row usable_nets usable_active
    newest usable_of live_of current offered is_live is_known is_told code_row other_user pair_of next_counter
    stored_limit sender_floor applied applied_all after_sealing after_counting after_hearing after_accepting
    after_boot shown with_given_net with_given_link with_declared sealing_key end_line run_lines transcript
centre_fits = record {
  declared = ltb-true _ _ refl;
  aps_limit = ltb-true _ _ refl;
  net_count = ltb-true _ _ refl;
  link_count = ltb-true _ _ refl;
  pair_count = ltb-true _ _ refl;
  nets = (record { key = refl; limit = ltb-true _ _ refl; floors = tt }, tt);
  links = tt;
  pairs = tt;
  active = refl;
}

-- Instance of a_record_is_read_back, a_boot_reads_the_record.
record RecordCase : Type 0 where
  centre : FitsRecord (state_of (start w) 1)
  device : FitsRecord (state_of (start w) 2)
  read_back : state_in (record_of (state_of (start w) 1)) ≡ Some (shown (after_boot (state_of (start w) 1)))

records : RecordCase
unfolding toy plan_of part_of may_seal out_of edits_of answer_by reserve_of stored_floor floor_of counting_of answer
    answered take_net_key take_row take_link_key take_app_key take_switch take_confirm take_remove take_tunnel
    take_update take_request take_app_request take_verify take_command take_leave rows_have_room keys_differ
    at_most_two_live active_is_live partners_agree links_are_marked floors_are_kept limits_are_started role_is_kept
    pairs_are_kept keeps_rules fits all_fit reject need judge_net judge_nwk candidates judge_aps say knock rejoin
    request_key verify_key member_timer ask tell child_of_router child_of_centre next_member is_unfinished
    centre_timer provision remove_device roll switch_over again share own start disk_of with_disk stands leaves_both
    stored_lines told_lines group_of cut_of setting_of supply task_step forged_net forged_both forged_open step_by
    step groups speaker after heard_line state_of is_up air draws_used commits_of stations_of record_of edit_bytes
    payload refuse_if found_or choose station_of station_at centre_of short_of spent both_spent drop_partner
    drop_others drop_old carried terms_of a_round rounds exposed centre_in ever removed_devices outside network_keys
    each_line same_term bases codes_of came_by ideal_line ideal passes_on private active_row usable_nets usable_active
    newest usable_of live_of current offered is_live is_known is_told code_row other_user pair_of next_counter
    stored_limit sender_floor applied applied_all after_sealing after_counting after_hearing after_accepting
    after_boot shown with_given_net with_given_link with_declared sealing_key end_line run_lines transcript
records = record {
  centre = centre_fits;
  device = record {
    declared = ltb-true _ _ refl;
    aps_limit = ltb-true _ _ refl;
    net_count = ltb-true _ _ refl;
    link_count = ltb-true _ _ refl;
    pair_count = ltb-true _ _ refl;
    nets = tt;
    links = (record { partner = ltb-true _ _ refl; key = refl; stored = ltb-true _ _ refl }, tt);
    pairs = tt;
    active = tt;
  };
  read_back = read-back (state_of (start w) 1) centre_fits;
}
