use Rattle.std.proofs.Common.{◌∙◌}
use Rattle.zb_gen.proofs.WordTexts.{key_text}
use Rattle.zb_gen.proofs.words.Words.key.Goals as goal

pub returns-clause-value : goal.returns-clause-value
returns-clause-value c =
    c.bytes_of.ensures
    ∙ key_text c.args.self.now c.word-first.new.self c.word-second.new.self c.word-third.new.self c.word-first.result
    c.word-second.result c.word-third.result c.word-fourth.result
    c.word-first.ensures.next c.word-second.ensures.next c.word-third.ensures.next
    c.word-first.ensures.value c.word-second.ensures.value c.word-third.ensures.value c.word-fourth.ensures.value
