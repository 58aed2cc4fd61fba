-- How the two faults that no caller can rule out are printed.
use Rattle.std.specs.Prelude.{List, ℕ, codes}

abbrev pub failed_text : List ℕ
failed_text = codes "an outside object failed"

abbrev pub no_memory_text : List ℕ
no_memory_text = codes "no memory"
