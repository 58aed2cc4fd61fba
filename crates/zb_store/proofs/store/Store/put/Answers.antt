use Rattle.std.proofs.Common.{◌≡◌, ◌+◌, length, not, ◌∙◌, ap, arith}
use Rattle.zb_store.specs.Layout.{body}
use Rattle.zb_store.specs.Store.{Place, IsReplacement}
use Rattle.zb_store.proofs.Replacing.{length-body}
use Rattle.zb_store.proofs.store.Store.put.Goals as goal

pub replace-requires : goal.replace-requires
replace-requires g c =
    omega (
      arith,
      ap length c.deref.ensures.value,
      ap length c.spell_body.ensures.bytes,
      length-body (c.self.inside.generation + 1) c.args.content.now,
    )

pub returns-in-Err-clause-stopped : goal.returns-in-Err-clause-stopped
returns-in-Err-clause-stopped g c = λ disk s ready told steady.
    let same = c.self.view_is ∙ ready.place in
    let generation : c.self.inside.generation ≡ s.generation = ap (λ (p : Place). p.generation) same in
    let bytes = c.deref.ensures.value ∙ c.spell_body.ensures.bytes ∙ ap (λ n. body (n + 1) c.args.content.now)
    generation in
    let it : IsReplacement s c.args.content.now (not c.self.inside.second) c.deref.result.now = record {
      place = ap (λ (p : Place). not p.second) same;
      bytes_are = bytes;
      small = omega arith;
      later = omega (arith, generation, c.self.ranges.1);
    } in
    c.in-Err.ensures.stopped s c.args.content.now it ready.held told steady
