-- The changes of a plan that is the policy's answer can be stored.
use Rattle.std.proofs.Common.{◌≡◌, ℕ, ◌≤◌, List, length, sym, ap, ◌∙◌, subst}
use Rattle.std.specs.List.{AllByRecursion}
use Rattle.std.proofs.lemmas.List.{length-map}
use Rattle.zb_core.specs.CorePlans.{CorePlan}
use Rattle.zb_core.proofs.Opening.{real_opens}
use Rattle.zb_model.specs.Answer.{answer}
use Rattle.zb_model.specs.Data.{Edit, Task}
use Rattle.zb_model.specs.Fits.{AllFit}
use Rattle.zb_model_real.specs.Real.{real}
use Rattle.law_answer_storable.proofs.Answers.{all_stored, few_stored}
use Rattle.zb_node_types.specs.Changes.{edit}
use Rattle.zb_plan.specs.Answers.{IsAnswer}
use Rattle.zb_record.specs.Ranges.{InRange}
use Rattle.zb_stored_tables.specs.Cores.{CoreValue}
use Rattle.zb_stored_tables.specs.Stored.{IsKept, IsStorable}
use Rattle.zb_stored_tables.proofs.Short.{few_short}

pub answer_storable : (c : CoreValue) (p : CorePlan) (task : Task) → c.tables.role ≡ c.setting.me.role
    → IsKept c.tables → AllByRecursion InRange p.changes.items → 1 ≤ c.setting.me.in_block
    → IsAnswer p (answer real c.setting c.tables task) → IsStorable c.setting.me.role c.tables p.changes.items
answer_storable c p task own kept range block is =
    let few = few_stored real real_opens c.setting c.tables task kept.rules own in
    let as_many : length p.changes.items ≡ length (answer real c.setting c.tables task).edits =
    sym (length-map p.changes.items edit) ∙ ap (λ (es : List Edit). length es) is.changes in
    record {
      role_is = own;
      kept = kept;
      range = range;
      fit = subst (λ (es : List Edit). AllFit es c.tables) (sym is.changes)
          (all_stored real real_opens c.setting c.tables task kept.rules own block);
      short = few_short p.changes.items range (subst (λ (n : ℕ). n ≤ 14) (sym as_many) few);
    }

-- The same for a core's value, as its code sees it.
pub kept_storable : (c v : CoreValue) (p : CorePlan) (task : Task) (block : ℕ) → v ≡ c → v.tables.role
    ≡ v.setting.me.role → IsKept v.tables → AllByRecursion InRange p.changes.items → block ≡ v.setting.me.in_block → 1
    ≤ block
    → IsAnswer p (answer real c.setting c.tables task) → IsStorable c.setting.me.role c.tables p.changes.items
kept_storable c v p task block view own kept range block_is least is =
    let same : block ≡ c.setting.me.in_block = block_is ∙ ap (λ (x : CoreValue). x.setting.me.in_block) view in
    answer_storable c p task (subst (λ (x : CoreValue). x.tables.role ≡ x.setting.me.role) view own)
    (subst (λ (x : CoreValue). IsKept x.tables) view kept) range (subst (λ (n : ℕ). 1 ≤ n) same least) is
