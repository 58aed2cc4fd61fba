use Rattle.std.proofs.Common.{length, ◌∙◌, ap, arith}
use Rattle.zb_store.proofs.Replacing.{length-body}
use Rattle.zb_store.proofs.store.Store.format.Goals as goal

pub lay_out-requires : goal.lay_out-requires
lay_out-requires g c =
    omega (
      arith,
      ap length c.deref.ensures.value,
      ap length c.spell_body.ensures.bytes,
      length-body 1 c.args.first.now,
    )

pub returns-in-Err-clause-stopped : goal.returns-in-Err-clause-stopped
returns-in-Err-clause-stopped g c = λ disk told steady.
    c.in-Err.ensures.stopped c.args.first.now (c.deref.ensures.value ∙ c.spell_body.ensures.bytes) (omega arith) told
    steady
