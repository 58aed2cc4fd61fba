use Rattle.std.proofs.Common.{◌≡◌, ◌+◌, ◌*◌, ◌≤◌, length, Ok, Err, sym, ◌∙◌, ap, subst, arith}
use Rattle.zb_store.specs.Layout.{base_of, entry_body}
use Rattle.zb_store.specs.Store.{Place, IsReady, appended}
use Rattle.zb_store.proofs.Stages.{length-entry_body}
use Rattle.zb_store.proofs.Placed.{base_small, place_moments, place_ready, place_stopped}
use Rattle.zb_store.proofs.store.Store.append.Goals as goal

pub write_gated-requires : goal.write_gated-requires
write_gated-requires g c =
    let few = c.requires.few in
    let same = ap (λ (p : Place). p.entries) c.self.view_is in
    omega (
      arith,
      few,
      same,
      c.self.invariant.end,
      c.base.ensures,
      base_small c.self.inside.second,
      c.from.ensures,
      ap length c.deref.ensures.value,
      ap length c.spell_entry.ensures.bytes,
      length-entry_body c.args.change.now,
    )

pub returns-in-Ok-clause-moments : goal.returns-in-Ok-clause-moments
returns-in-Ok-clause-moments g c =
    let same = c.self.view_is in
    let few = c.requires.few in
    let gate : c.base.result + c.from.result ≡ base_of c.args.self.second + c.args.self.end =
    omega (
      arith,
      c.base.ensures,
      c.from.ensures,
      ap (λ (p : Place). p.end) same,
      ap (λ (p : Place). base_of p.second)
          same,
    ) in
    let bytes : c.deref.result.now ≡ entry_body c.args.change.now =
    c.deref.ensures.value ∙ c.spell_entry.ensures.bytes in
    let end : c.args.self.end ≤ 49165 + 484 * c.args.self.entries =
    omega (arith, ap (λ (p : Place). p.end) same, ap (λ (p : Place). p.entries) same, c.self.invariant.end) in
    let small : length c.args.change.now ≤ 481 = omega arith in
    let v0 = g.D.Disk.state c.args.disk.now in
    let v1 = g.D.Disk.state c.write_gated.new.disk in
    let reads = g.met.D.Disk.reads_image c.args.disk.now in
    place_moments g.D.Disk.tells c.args.self c.args.change.now v0 v1 (c.base.result + c.from.result)
    c.deref.result.now gate bytes few end small reads (Ok c.in-Ok.field-0) c.in-Ok.ensures

pub returns-in-Ok-clause-ready : goal.returns-in-Ok-clause-ready
returns-in-Ok-clause-ready g c =
    let same = c.self.view_is in
    let few = c.requires.few in
    let gate : c.base.result + c.from.result ≡ base_of c.args.self.second + c.args.self.end =
    omega (
      arith,
      c.base.ensures,
      c.from.ensures,
      ap (λ (p : Place). p.end) same,
      ap (λ (p : Place). base_of p.second)
          same,
    ) in
    let bytes : c.deref.result.now ≡ entry_body c.args.change.now =
    c.deref.ensures.value ∙ c.spell_entry.ensures.bytes in
    let end : c.args.self.end ≤ 49165 + 484 * c.args.self.entries =
    omega (arith, ap (λ (p : Place). p.end) same, ap (λ (p : Place). p.entries) same, c.self.invariant.end) in
    let small : length c.args.change.now ≤ 481 = omega arith in
    let v0 = g.D.Disk.state c.args.disk.now in
    let v1 = g.D.Disk.state c.write_gated.new.disk in
    let reads = g.met.D.Disk.reads_image c.args.disk.now in
    let now = c.args.self in
    let place :
    record {
      second = c.self.inside.second;
      generation = c.self.inside.generation;
      end = c.self.inside.end + (3 + length c.args.change.now);
      entries = c.self.inside.entries + 1;
    }
    ≡ record {
      second = now.second;
      generation = now.generation;
      end = now.end + (3 + length c.args.change.now);
      entries = now.entries + 1;
    } =
    ap (λ (p : Place). let n : Place =
    record {
      second = p.second;
      generation = p.generation;
      end = p.end + (3 + length c.args.change.now);
      entries = p.entries + 1;
    } in n) same in
    λ s ready told. subst (λ (p : Place). IsReady p (appended s c.args.change.now) v1) (sym place)
    (place_ready g.D.Disk.tells c.args.self c.args.change.now v0 v1 (c.base.result + c.from.result)
    c.deref.result.now gate bytes few end small reads c.in-Ok.field-0 c.in-Ok.ensures s ready told)

pub returns-in-Err-clause-moments : goal.returns-in-Err-clause-moments
returns-in-Err-clause-moments g c =
    let same = c.self.view_is in
    let few = c.requires.few in
    let gate : c.base.result + c.from.result ≡ base_of c.args.self.second + c.args.self.end =
    omega (
      arith,
      c.base.ensures,
      c.from.ensures,
      ap (λ (p : Place). p.end) same,
      ap (λ (p : Place). base_of p.second)
          same,
    ) in
    let bytes : c.deref.result.now ≡ entry_body c.args.change.now =
    c.deref.ensures.value ∙ c.spell_entry.ensures.bytes in
    let end : c.args.self.end ≤ 49165 + 484 * c.args.self.entries =
    omega (arith, ap (λ (p : Place). p.end) same, ap (λ (p : Place). p.entries) same, c.self.invariant.end) in
    let small : length c.args.change.now ≤ 481 = omega arith in
    let v0 = g.D.Disk.state c.args.disk.now in
    let v1 = g.D.Disk.state c.write_gated.new.disk in
    let reads = g.met.D.Disk.reads_image c.args.disk.now in
    place_moments g.D.Disk.tells c.args.self c.args.change.now v0 v1 (c.base.result + c.from.result)
    c.deref.result.now gate bytes few end small reads (Err c.in-Err.field-0) c.in-Err.ensures

pub returns-in-Err-clause-stopped : goal.returns-in-Err-clause-stopped
returns-in-Err-clause-stopped g c =
    let same = c.self.view_is in
    let few = c.requires.few in
    let gate : c.base.result + c.from.result ≡ base_of c.args.self.second + c.args.self.end =
    omega (
      arith,
      c.base.ensures,
      c.from.ensures,
      ap (λ (p : Place). p.end) same,
      ap (λ (p : Place). base_of p.second)
          same,
    ) in
    let bytes : c.deref.result.now ≡ entry_body c.args.change.now =
    c.deref.ensures.value ∙ c.spell_entry.ensures.bytes in
    let end : c.args.self.end ≤ 49165 + 484 * c.args.self.entries =
    omega (arith, ap (λ (p : Place). p.end) same, ap (λ (p : Place). p.entries) same, c.self.invariant.end) in
    let small : length c.args.change.now ≤ 481 = omega arith in
    let v0 = g.D.Disk.state c.args.disk.now in
    let v1 = g.D.Disk.state c.write_gated.new.disk in
    let reads = g.met.D.Disk.reads_image c.args.disk.now in
    λ disk s ready told steady. place_stopped g.D.Disk.tells c.args.self c.args.change.now v0 v1
    (c.base.result + c.from.result) c.deref.result.now gate bytes few end small reads c.in-Err.field-0
    c.in-Err.ensures s ready told steady
