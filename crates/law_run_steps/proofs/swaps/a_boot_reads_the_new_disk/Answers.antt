-- By the definition of a boot of a node without power.
use Rattle.std.proofs.Common.{◌∙◌, Some, false}
use Rattle.law_run_steps.proofs.Turns.{boot_by, boot_whole}
use Rattle.law_run_steps.proofs.swaps.a_boot_reads_the_new_disk.Goals as goal
use Rattle.law_run_steps.specs.Swaps.{after_swap}

pub returns : goal.returns
returns c = λ tools w h x number n s off missed.
    boot_by tools w h (after_swap (Some s) x) number n false off ∙ boot_whole (after_swap (Some s) x) number n missed
