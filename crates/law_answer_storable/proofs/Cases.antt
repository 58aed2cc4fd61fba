-- Each premise is needed, computed: small answers that meet only the other premises, and have a change that doesn't
-- fit. And one answer that meets all.
use Rattle.std.specs.Prelude.{◌≡◌, ℕ, true, false, List, [], ◌∷◌, length, replicate, Some, None, refl}
use Rattle.std.proofs.Common.{sym, ap, ◌∙◌}
use Rattle.zb_model.specs.Data.{Bytes, Role, Centre, Device, Joined, Provisional, ForNetwork, Nwk, Station, Term, Pair, Edit, Moved, DoKnock, Received}
use Rattle.zb_model.specs.State.{NodeState, new_node, usable_of, usable_nets, sender_floor, active_row, is_live, is_known, code_row, next_counter, stored_limit, applied}
use Rattle.zb_model.specs.Fits.{rows_have_room, keys_differ, at_most_two_live, active_is_live, partners_agree, links_are_marked, floors_are_kept, limits_are_started, role_is_kept, pairs_are_kept, keeps_rules, fits, all_fit}
use Rattle.zb_model.specs.Record.{edit_bytes, payload}
use Rattle.zb_model.specs.Tools.{Tools, NwkShown, NwkAuxiliary, Unknown, Other}
use Rattle.zb_model.specs.Rules.{Setting, found_or, refuse_if, centre_of, station_of, drop_others}
use Rattle.zb_model.specs.OwnEvents.{knock, own}
use Rattle.zb_model.specs.Judging.{need, reject, judge_net, judge_nwk}
use Rattle.zb_model.specs.Answer.{may_seal, reserve_of, stored_floor, floor_of, counting_of, edits_of, answer_by, plan_of, answer, out_of}
use Rattle.law_answer_storable.specs.Storing.{OpensAsJudged}

abbrev node : Role → ℕ → ℕ → Station
node role eui block = record { name = []; eui = eui; short = eui; role = role; out_block = 1; in_block = block }

abbrev key : ℕ → Bytes
key n = replicate 16 n

abbrev setting : Role → ℕ → Setting
setting role block = record { me = node role 2 block; stations = node Centre 1 0 ∷ node role 2 block ∷ [] }

-- Tools of one frame: data from the centre under the network key of sequence 1, with counter 0.
abbrev shown : NwkShown
shown =
    record {
      is_command = false;
      destination = 2;
      source = 1;
      auxiliary = Some (record { counter = 0; source = 1; sequence = 1 });
      body = [];
    }

abbrev opened : Bytes → Term
opened base =
    record {
      layer = Nwk;
      base = base;
      label = ForNetwork;
      source = 1;
      counter = 0;
      control = 0;
      header = [];
      content = [];
    }

abbrev one_frame : Tools
one_frame = record {
  wire = λ t. [];
  keyed = λ k n. k;
  read_nwk = λ bytes. Some shown;
  open_nwk = λ bytes base. Some (opened base);
  read_aps = λ bytes. None;
  open_aps = λ bytes base source. None;
  read_command = λ bytes. Unknown;
  spelled = λ c. [];
  read_leave = λ bytes. Other;
}

one_frame_opens : OpensAsJudged one_frame
one_frame_opens = record {
  nwk = λ bytes base f aux t read with_aux is_open. of_frame base f aux t (found shown f read) with_aux
      (found (opened base) t is_open);
  aps = λ bytes base given a aux t read with_aux is_open. absurd (none a read);
}
  where
    found : {A : Type 0} (a b : A) → Some a ≡ Some b → a ≡ b
    found a b e = cc

    none : {A : Type 0} (a : A) → None ≡ Some a → ⊥
    none a e = absurd (cc)

    of_frame : (base : Bytes) (f : NwkShown) (aux : NwkAuxiliary) (t : Term) → shown ≡ f → f.auxiliary ≡ Some aux
        → opened base ≡ t → (t.layer ≡ Nwk) × (t.base ≡ base) × (t.source ≡ aux.source) × (t.counter ≡ aux.counter)
    of_frame base f aux t e with_aux is =
        let same : record { counter = 0; source = 1; sequence = 1 }
        ≡ aux = found (record { counter = 0; source = 1; sequence = 1 }) aux
        (ap (λ (g : NwkShown). g.auxiliary) e ∙ with_aux) in (
          sym (ap (λ (u : Term). u.layer) is),
          sym (ap (λ (u : Term). u.base) is),
          sym (ap (λ (u : Term). u.source) is)
              ∙ ap (λ (x : NwkAuxiliary). x.source) same,
          sym (ap (λ (u : Term). u.counter) is) ∙ ap
              (λ (x : NwkAuxiliary). x.counter) same,
        )

-- a device with one network key
abbrev joined : NodeState
joined =
    record (new_node Device) {
      state = Joined;
      nets = record { key = key 7; sequence = 1; live = true; started = true; limit = 0; next = 0; floors = [] }
          ∷ [];
      active = Some (key 7);
    }

joined_keeps_the_rules : keeps_rules joined ≡ true
unfolding keeps_rules rows_have_room keys_differ at_most_two_live active_is_live partners_agree links_are_marked
    floors_are_kept limits_are_started role_is_kept pairs_are_kept
joined_keeps_the_rules = refl

-- a floor of 0 isn't kept, and so doesn't fit; a floor of 1 does
floor_of_0 : all_fit (answer one_frame (setting Device 0) joined (Received [] None)).edits joined ≡ false
unfolding answer answer_by plan_of counting_of edits_of reserve_of floor_of stored_floor need reject judge_nwk
    judge_net usable_of usable_nets sender_floor station_of is_live is_known may_seal out_of next_counter stored_limit
    active_row all_fit fits applied keeps_rules rows_have_room keys_differ at_most_two_live active_is_live
    partners_agree links_are_marked floors_are_kept limits_are_started role_is_kept pairs_are_kept
floor_of_0 = refl

floor_of_1 : (all_fit (answer one_frame (setting Device 1) joined (Received [] None)).edits joined ≡ true)
    × (length (answer one_frame (setting Device 1) joined (Received [] None)).edits ≡ 1)
unfolding answer answer_by plan_of counting_of edits_of reserve_of floor_of stored_floor need reject judge_nwk
    judge_net usable_of usable_nets sender_floor station_of is_live is_known may_seal out_of next_counter stored_limit
    active_row all_fit fits applied keeps_rules rows_have_room keys_differ at_most_two_live active_is_live
    partners_agree links_are_marked floors_are_kept limits_are_started role_is_kept pairs_are_kept
floor_of_1 = (refl, refl)

-- a centre that is asked to knock, as a device's setting has it: its state isn't to change
abbrev centre : NodeState
centre =
    record (new_node Centre) {
      links = record {
        partner = 1;
        key = key 5;
        attribute = Provisional;
        live = true;
        code = true;
        told = false;
        kept = 0;
        stored = 0;
      } ∷ [];
    }

centre_keeps_the_rules : keeps_rules centre ≡ true
unfolding keeps_rules rows_have_room keys_differ at_most_two_live active_is_live partners_agree links_are_marked
    floors_are_kept limits_are_started role_is_kept pairs_are_kept
centre_keeps_the_rules = refl

role_of_another : all_fit (answer one_frame (setting Device 1) centre DoKnock).edits centre ≡ false
unfolding answer answer_by plan_of own knock found_or refuse_if code_row centre_of drop_others counting_of edits_of
    reserve_of floor_of may_seal out_of next_counter stored_limit active_row all_fit fits applied keeps_rules
    rows_have_room keys_differ at_most_two_live active_is_live partners_agree links_are_marked floors_are_kept
    limits_are_started role_is_kept pairs_are_kept
role_of_another = refl

-- the longest change, fourteen times, has room in an entry; fifteen times it has none
longest : ℕ → List Edit
longest n = replicate n (Moved (Pair 1 2 (key 9)))

fourteen_have_room : length (payload (longest 14)) ≡ 463
unfolding payload edit_bytes longest
fourteen_have_room = refl

fifteen_have_none : length (payload (longest 15)) ≡ 496
unfolding payload edit_bytes longest
fifteen_have_none = refl
