use Rattle.std.proofs.Common.{◌≡◌, List, ℕ, length, take, ◌∙◌, ap, arith}
use Rattle.std.proofs.lemmas.Grind.{common_steps}
use Rattle.std.proofs.lemmas.List.{take_all}
use Rattle.zb_disk.proofs.Windows.{fresh_is}
use Rattle.zb_disk.proofs.memory.MemDisk.new.Goals as goal

pub returns : goal.returns
returns c =
    let bytes = c.args.bytes.now in
    let items = c.extend_from_slice.new.self.items in
    let same : items ≡ bytes = grind (arith, common_steps) in
    let all : take (length bytes) items ≡ bytes = ap (λ (l : List ℕ). take (length bytes) l) same ∙ take_all
    (length bytes) bytes (omega arith) in
    fresh_is bytes (take (length bytes) items) c.new.result.items c.in_ok-with_capacity.field-0.items all
    c.in_ok-with_capacity.ensures.items c.new.ensures
