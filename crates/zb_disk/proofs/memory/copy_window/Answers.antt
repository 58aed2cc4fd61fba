use Rattle.std.proofs.Common.{◌≡◌, ◌-◌, ◌+◌, ℕ, List, ◌++◌, length, take, drop, replicate, ◌∙◌, ap, arith, length-take, length-drop}
use Rattle.std.proofs.lemmas.List.{take_at}
use Rattle.zb_disk.specs.Memory.{patch}
use Rattle.zb_disk.proofs.Lists.{window_is}
use Rattle.zb_disk.proofs.memory.copy_window.Goals as goal

pub returns : goal.returns
returns c =
    let bytes = c.args.bytes.now in
    let buf = c.args.buf.now in
    let start = c.min-start.result in
    let count = c.min-count.result in
    let piece = take count (drop start bytes) in
    let n : start + count - start ≡ count = omega arith in
    let long : length piece ≡ count =
    omega (arith, length-take count (drop start bytes), length-drop start bytes, c.min-count.ensures) in
    let over = c.overlay.ensures ∙ ap (λ (i : ℕ). patch buf 0 (take i (drop start bytes))) n in
    let front : take count c.overlay.new.bytes ≡ piece = ap (λ (l : List ℕ). take count l) over ∙ take_at piece
    (drop (0 + length piece) buf) count long in
    let size : length c.overlay.new.bytes ≡ length buf = c.overlay.auto.bytes in
    c.blank.ensures ∙ ap (λ (l : List ℕ). l ++ replicate (length c.overlay.new.bytes - count) 0) front ∙ ap
    (λ (i : ℕ). piece ++ replicate (i - count) 0) size
    ∙ window_is bytes c.args.at start (length buf) count c.min-start.ensures c.min-count.ensures
