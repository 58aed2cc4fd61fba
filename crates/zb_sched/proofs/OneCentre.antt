-- The centre has the short address 0, and the short addresses of nodes differ.
use Rattle.std.proofs.Common.{◌≡◌, ℕ, List, [], ◌∷◌, true, arith, sym, ◌∙◌}
use Rattle.std.specs.List.{AllByRecursion}
use Rattle.std.proofs.lemmas.Bool.Decides.{nat_tests}
use Rattle.zb_base.specs.declared.node.Role.{Role}
use Rattle.zb_base.specs.declared.node.Role.TheVariants.{Centre, Router, Device}
use Rattle.zb_sched_line.specs.Grammar.{is_short_of}
use Rattle.zb_sched.specs.Schedules.{Node}
use Rattle.zb_sched.specs.Reading.{is_centre}
use Rattle.zb_sched.specs.Valid.{Apart, FitsNode, Pairwise}
use Rattle.zb_sched.proofs.Lists.{all_map2}

zero_short : (role : Role) (short : ℕ) → is_short_of role short ≡ true → is_centre role ≡ true → short ≡ 0
zero_short Centre short fits centre = grind (arith, nat_tests, fits)
zero_short Router short fits centre = cc centre
zero_short Device short fits centre = cc centre

pub one_centre : (ms : List Node) → AllByRecursion FitsNode ms → Pairwise Apart ms
    → Pairwise (λ (m n : Node). is_centre m.role ≡ true → is_centre n.role ≡ true → ⊥) ms
one_centre [] fits apart = tt
one_centre (m ∷ ms) fits apart = (
  all_map2 (Apart m) FitsNode (λ (n : Node). is_centre m.role ≡ true → is_centre n.role ≡ true → ⊥) ms
      (λ n differ fit first second. differ.2
      (zero_short m.role m.short fits.0.0.2 first ∙ sym (zero_short n.role n.short fit.0.2 second))) apart.0
      fits.1,
  one_centre ms fits.1 apart.1,
)
