-- For the law that asks that no disk is given.
use Rattle.std.specs.Prelude.{None, refl}
use Rattle.law_run_steps.specs.Swaps.{GivesNone}

-- Instance of without_swaps_a_run_is_the_models.
no_disk : GivesNone (λ number. None)
no_disk number = refl
