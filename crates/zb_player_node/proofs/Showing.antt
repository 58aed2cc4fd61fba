-- A core answers over what its tables show of a state as it would over the whole state: a state that keeps the rules
-- for records has different network keys.
use Rattle.std.proofs.Common.{◌≡◌, Bool, true, not, ◌&&◌, ◌||◌, List, [], ◌∷◌, map, refl, sym, ap, ◌∙◌}
use Rattle.std.specs.List.{list_any}
use Rattle.zb_model.specs.Answer.{answer}
use Rattle.zb_model.specs.Data.{Bytes, Task}
use Rattle.zb_model.specs.Fits.{all_apart, keeps_rules, keys_differ, rows_have_room}
use Rattle.zb_model.specs.Rules.{Setting}
use Rattle.zb_model.specs.State.{NetKey, NodeState, same_key, shown, shown_net}
use Rattle.zb_model_real.specs.Real.{real}
use Rattle.law_change_fits.proofs.Tests.{both}
use Rattle.law_tables_suffice.proofs.Answers.{answer_same}
use Rattle.law_tables_suffice.proofs.LiveKeys.{accepts_live}
use Rattle.law_tables_suffice.specs.Showing.{nets_differ}
use Rattle.zb_player_node.proofs.Opening.{real_opens}

nets_of : (s : NodeState) → keeps_rules s ≡ true → nets_differ s ≡ true
unfolding keeps_rules keys_differ nets_differ
nets_of s kept = (both _ _ (both _ _ (both (rows_have_room s) _ kept).1).0).0

any_shown : (key : Bytes) (rs : List NetKey)
    → list_any (λ (b : NetKey). same_key key b.key) (map shown_net rs)
    ≡ list_any (λ (b : NetKey). same_key key b.key) rs
any_shown key [] = refl
any_shown key (r ∷ rs) = ap (λ (t : Bool). same_key key r.key || t) (any_shown key rs)

apart_shown : (rs : List NetKey) → all_apart (λ (a b : NetKey). same_key a.key b.key) (map shown_net rs)
    ≡ all_apart (λ (a b : NetKey). same_key a.key b.key) rs
apart_shown [] = refl
apart_shown (r ∷ rs) =
    ap (λ (t : Bool). not t && all_apart (λ (a b : NetKey). same_key a.key b.key) (map shown_net rs))
    (any_shown r.key rs)
    ∙ ap (λ (t : Bool). not (list_any (λ (b : NetKey). same_key r.key b.key) rs) && t) (apart_shown rs)

nets_shown : (s : NodeState) → nets_differ (shown s) ≡ nets_differ s
unfolding nets_differ shown
nets_shown s = apart_shown s.nets

pub same_answer : (c : Setting) (s : NodeState) (task : Task) → keeps_rules (shown s) ≡ true
    → answer real c (shown s) task ≡ answer real c s task
same_answer c s task kept =
    answer_same real c s task (accepts_live real real_opens c s (sym (nets_shown s) ∙ nets_of (shown s) kept) task)
