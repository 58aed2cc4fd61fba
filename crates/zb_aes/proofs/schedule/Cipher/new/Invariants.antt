use Rattle.std.proofs.Common.{◌≡◌, ◌+◌, [], get_or, length}
use Rattle.zb_aes.specs.Columns.{key_at, AreRoundKeys}
use Rattle.zb_aes.proofs.schedule.Cipher.new.Given as goal

abbrev pub invariant-loop-i : goal.invariant-loop-i
invariant-loop-i l = AreRoundKeys (l.i + 1) l.keys × (key_at l.keys 0 ≡ l.fn.key) × (length l.keys ≡ 11)
    × (l.last ≡ get_or l.keys l.i [])
