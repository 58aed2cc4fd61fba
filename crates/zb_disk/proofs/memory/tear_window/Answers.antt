use Rattle.std.proofs.Common.{◌≡◌, ◌+◌, ◌-◌, ℕ, List, ◌++◌, length, take, drop, ◌∙◌, ap, arith}
use Rattle.zb_disk.specs.Memory.{tear}
use Rattle.zb_disk.proofs.Tearing.{torn_window}
use Rattle.zb_disk.proofs.memory.tear_window.Goals as goal

pub returns : goal.returns
returns c =
    let p = c.args.pattern.now in
    let bytes = c.args.bytes.now in
    let base = c.args.base in
    let w = c.args.written.now in
    let new = c.tear_runs.new.bytes in
    let rest = drop base bytes in
    let n : base + length w - base ≡ length w = omega arith in
    let torn : new ≡ tear p 0 (take (length w) rest) w =
    c.tear_runs.ensures ∙ ap (λ (i : ℕ). tear p 0 (take i rest) w) n in
    ap (λ (i : ℕ). take base bytes ++ (new ++ drop i rest)) n ∙ ap
    (λ (l : List ℕ). take base bytes ++ (l ++ drop (length w) rest)) torn ∙ torn_window p bytes base w
    c.requires.within
