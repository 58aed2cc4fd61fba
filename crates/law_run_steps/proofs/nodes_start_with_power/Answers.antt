-- No start line takes power or commits.
use Rattle.std.proofs.Common.{ℕ, [], refl, ◌≡◌}
use Rattle.zb_model.specs.Play.{disk_of, new_disk}
use Rattle.law_run_steps.proofs.Starts.{start-power, start-commits}
use Rattle.law_run_steps.proofs.nodes_start_with_power.Goals as goal

new : (n : ℕ) → disk_of [] n ≡ new_disk
unfolding disk_of
new n = refl

pub returns : goal.returns
returns c = record { power = start-power; commits = start-commits; disk = new }
