-- Lines with one text have the same words.
use Rattle.std.proofs.Common.{◌≡◌, List, [], ◌++◌, ap}
use Rattle.zb_trace.specs.Text.{text, texts, IsProper, AllProper}
use Rattle.zb_trace.specs.declared.line.Line.{Line}
use Rattle.zb_trace_read.proofs.Taking.{one_front, one_text}
use Rattle.law_audit_text.specs.Plain.{plain, plains}
use Rattle.law_audit_text.proofs.Spoken.{same_plain, same_plains}

pub one_line : (a b : Line) → IsProper a → IsProper b → text a ≡ text b → plain a ≡ plain b
one_line a b proper_a proper_b same = same_plain a b (one_front a b [] [] proper_a proper_b (ap (λ t. t ++ []) same)).0

pub same_lines : (ls ms : List Line) → AllProper ls → AllProper ms → texts ls ≡ texts ms → plains ls ≡ plains ms
same_lines ls ms proper_a proper_b same = same_plains ls ms (one_text ls ms proper_a proper_b same)
