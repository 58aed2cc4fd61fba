-- The four words of a step.
use Rattle.std.specs.Prelude.{ℕ, ◌+◌, ◌%◌}
use Rattle.zb_gen.specs.Words.{word}
use Rattle.zb_gen.specs.declared.steps.Step.{Step}

-- The step of the words from that place on.
abbrev pub step_at : ℕ → ℕ → ℕ → Step
step_at start n place =
    record {
      kind = word start place % 8;
      node = word start (place + 1) % (n + 1);
      p = word start (place + 2);
      q = word start (place + 3);
    }
