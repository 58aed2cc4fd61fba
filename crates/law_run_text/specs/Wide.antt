-- Lines whose numbers are in their ranges and whose keys have 16 bytes, whatever their nodes are called.
use Rattle.std.specs.Prelude.{[]}
use Rattle.std.specs.List.{AllByRecursion}
use Rattle.zb_model.specs.Lines as log
use Rattle.zb_trace_model.specs.Said.{line_for}
use Rattle.zb_trace.specs.Text.{Word, Called, CalledOrNobody, MayStand, words}

-- which words may be in a line, except for names
abbrev pub MayBe : Word → Type 0
MayBe (Called name) = Unit {0}
MayBe (CalledOrNobody name) = Unit {0}
MayBe word = MayStand word

unfoldable pub IsWide : log.Line → Type 0
IsWide m = AllByRecursion MayBe (words (line_for [] m))
