-- Several changes one after the other.
use Rattle.std.proofs.Common.{◌≡◌, ℕ, ◌+◌, ◌<◌, ◌≤◌, List, [], ◌∷◌, ◌++◌, length, refl, sym, ap, ◌∙◌, arith, true, subst, take, drop, get_or}
use Rattle.std.specs.Prelude.{vec_capacity}
use Rattle.std.proofs.lemmas.List.{take_more, drop_more, get_or-map, length-map}
use Rattle.zb_node_types.specs.declared.change.Change.{Change}
use Rattle.zb_node_types.specs.Changes.{model_role, edit, edits}
use Rattle.zb_model.specs.Data.{Role, Centre, Router, Device, Edit}
use Rattle.zb_model.specs.State.{NodeState, new_node, shown, applied, applied_all}
use Rattle.zb_model.specs.Fits.{keeps_rules, rows_have_room, keys_differ, at_most_two_live, active_is_live, partners_agree, links_are_marked, floors_are_kept, limits_are_started, role_is_kept, pairs_are_kept, most_nets, most_links, most_pairs, fits, all_fit}
use Rattle.zb_keys.specs.declared.contents.Contents.{Contents}
use Rattle.zb_keys.specs.Tables.{state_of, IsSound, Forgets}
use Rattle.zb_keys.proofs.StateLemmas.{both}
use Rattle.law_change_fits.proofs.ShownApplied.{shown_applied}
use Rattle.zb_keys.proofs.RuleLemmas.{fits_kept}

pub shown_is : (s : NodeState) → Forgets s → shown s ≡ s
unfolding shown
shown_is s forgets = ap (λ l. record s { nets = l }) forgets

pub new_keeps_rules : (d : Role) → keeps_rules (new_node d) ≡ true
unfolding keeps_rules rows_have_room keys_differ at_most_two_live active_is_live partners_agree links_are_marked
    floors_are_kept limits_are_started role_is_kept pairs_are_kept
new_keeps_rules Centre = refl
new_keeps_rules Router = refl
new_keeps_rules Device = refl

pub sound_new : (a : Contents) → state_of a ≡ new_node (model_role a.role) → most_nets ≤ vec_capacity a.nets
    → most_links (model_role a.role) ≤ vec_capacity a.links → most_pairs ≤ vec_capacity a.pairs → IsSound a
sound_new a is nets links pairs = record {
  rules = subst (λ s. keeps_rules s ≡ true) (sym is) (new_keeps_rules (model_role a.role));
  forgets = subst Forgets (sym is) refl;
  nets_room = nets;
  links_room = links;
  pairs_room = pairs;
}

all_more : (es : List Edit) (e : Edit) (s : NodeState) → applied_all (es ++ e ∷ []) s ≡ applied e (applied_all es s)
unfolding applied_all
all_more [] e s = refl
all_more (x ∷ es) e s = all_more es e (applied x s)

fits_first : (e : Edit) (es : List Edit) (s : NodeState) → all_fit (e ∷ es) s ≡ true → (fits e s ≡ true)
    × (all_fit es (applied e s) ≡ true)
unfolding all_fit
fits_first e es s fit = both (fits e s) (all_fit es (applied e s)) fit

-- how far the changes have come
pub record Applying (es : List Edit) (s : NodeState) (i : ℕ) (a : Contents) : Type 0 where
  pub sound : IsSound a
  pub state : state_of a ≡ shown (applied_all (take i es) s)
  pub fit : all_fit (drop i es) (applied_all (take i es) s) ≡ true

pub begins : (es : List Edit) (s : NodeState) (a : Contents) → IsSound a → state_of a ≡ s → all_fit es s ≡ true
    → Applying es s 0 a
unfolding applied_all
begins es s a sound is fit =
    record { sound = sound; state = sym (shown_is (state_of a) sound.forgets) ∙ ap shown is; fit = fit }

first_fit : (es : List Edit) (s : NodeState) (i : ℕ) (d : Edit) (a : Contents) → i < length es → Applying es s i a
    → (fits (get_or es i d) (applied_all (take i es) s) ≡ true)
    × (all_fit (drop (i + 1) es) (applied (get_or es i d) (applied_all (take i es) s)) ≡ true)
first_fit es s i d a lt so =
    fits_first (get_or es i d) (drop (i + 1) es) (applied_all (take i es) s)
    (subst (λ l. all_fit l (applied_all (take i es) s) ≡ true) (drop_more es i d lt) so.fit)

pub may_change : (es : List Edit) (s : NodeState) (i : ℕ) (d : Edit) (a : Contents) → i < length es
    → Applying es s i a → keeps_rules (shown (applied (get_or es i d) (state_of a))) ≡ true
may_change es s i d a lt so =
    let before = applied_all (take i es) s in
    let kept : keeps_rules (shown (applied (get_or es i d) before)) ≡ true =
    fits_kept (get_or es i d) before (first_fit es s i d a lt so).0
    (subst (λ x. keeps_rules x ≡ true) so.state so.sound.rules) in
    subst (λ x. keeps_rules x ≡ true)
    (sym (shown_applied (get_or es i d) before) ∙ ap (λ x. shown (applied (get_or es i d) x)) (sym so.state)) kept

pub goes_on : (es : List Edit) (s : NodeState) (i : ℕ) (d : Edit) (a b : Contents) → i < length es → Applying es s i a
    → IsSound b → state_of b ≡ shown (applied (get_or es i d) (state_of a)) → Applying es s (i + 1) b
goes_on es s i d a b lt so sound is =
    let before = applied_all (take i es) s in
    let after : applied_all (take (i + 1) es) s ≡ applied (get_or es i d) before =
    ap (λ l. applied_all l s) (take_more es i d lt) ∙ all_more (take i es) (get_or es i d) s in
    record {
      sound = sound;
      state = is ∙ ap (λ x. shown (applied (get_or es i d) x)) so.state ∙ shown_applied (get_or es i d) before ∙ ap
          shown (sym after);
      fit = subst (λ x. all_fit (drop (i + 1) es) x ≡ true) (sym after) (first_fit es s i d a lt so).1;
    }

-- the same, of the program's changes
same_change : (cs : List Change) (i : ℕ) (d : Change) → i < length cs → get_or (edits cs) i (edit d)
    ≡ edit (get_or cs i d)
same_change cs i d lt = get_or-map edit cs i d (edit d) lt

pub change_fits : (cs : List Change) (s : NodeState) (i : ℕ) (d : Change) (a : Contents) → i < length cs
    → Applying (edits cs) s i a → keeps_rules (shown (applied (edit (get_or cs i d)) (state_of a))) ≡ true
change_fits cs s i d a lt so =
    let lt2 : i < length (edits cs) = omega (arith, length-map cs edit) in
    subst (λ e. keeps_rules (shown (applied e (state_of a))) ≡ true) (same_change cs i d lt)
    (may_change (edits cs) s i (edit d) a lt2 so)

pub change_made : (cs : List Change) (s : NodeState) (i : ℕ) (d : Change) (a b : Contents) → i < length cs
    → Applying (edits cs) s i a → IsSound b → state_of b ≡ shown (applied (edit (get_or cs i d)) (state_of a))
    → Applying (edits cs) s (i + 1) b
change_made cs s i d a b lt so sound is =
    let lt2 : i < length (edits cs) = omega (arith, length-map cs edit) in
    goes_on (edits cs) s i (edit d) a b lt2 so sound
    (is ∙ ap (λ e. shown (applied e (state_of a))) (sym (same_change cs i d lt)))
