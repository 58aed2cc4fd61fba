use Rattle.std.proofs.Common.{◌≡◌, ◌++◌, ◌∙◌, ◌*◌, ◌-◌, List, ℕ, arith, ap}
use Rattle.std.specs.Int.{w16, to_le_bytes}
use Rattle.zb_base.specs.declared.key.Key.{Key}
use Rattle.zb_install.specs.Crc.{crc}
use Rattle.zb_gen.specs.Codes.{CodesOf}
use Rattle.zb_gen.specs.Words.{key_at}
use Rattle.zb_gen.proofs.codes.Codes.code.Goals as goal

pub returns : goal.returns
returns c =
    let key : c.index.result.now.0 ≡ key_at c.args.self.now.start (4 * (c.args.i - 1)) =
    ap (λ (k : Key). k.0) c.index.ensures ∙ c.self.invariant (c.args.i - 1) c.index.result.now
    (omega (arith, c.requires.0, c.requires.1, ap (λ (x : CodesOf). x.count) c.self.view_is))
    ∙ ap (λ (x : CodesOf). key_at x.start (4 * (c.args.i - 1))) c.self.view_is in
    c.install_code.ensures ∙ ap (λ (k : List ℕ). k ++ to_le_bytes w16 (crc k)) key
