use Rattle.std.proofs.Common.{◌∙◌, sym, refl}
use Rattle.std.specs.Prelude.{option_map}
use Rattle.zb_base.specs.declared.key.Key.{Key}
use Rattle.zb_rows.specs.Asking.{goes}
use Rattle.zb_rows.proofs.Drops.{drops_one, drops_over, drops_room, drops_made, drops_few}
use Rattle.zb_rows.proofs.moves.add_drops.Goals as goal
use Rattle.zb_rows.proofs.moves.add_drops.Goals.{then-goes, else-goes}

pub add-requires : goal.add-requires
add-requires c = drops_room (goes c.args.partner.0 (option_map (λ (k : Key). k.0) c.args.spared)) c.args.rows.now
    c.loop-row.row-index _ _ _ c.requires.few c.loop-row-test.true (sym c.goes.ensures ∙ c.if-goes.true)
    c.loop-row.invariant c.requires.room

pub loop-row-preserved : goal.loop-row-preserved
loop-row-preserved c = elim c.if-goes.branch [
  | then-goes w ↦ rw w.changes-is
      (drops_one (goes c.args.partner.0 (option_map (λ (k : Key). k.0) c.args.spared)) c.args.rows.now
      c.loop-row.row-index _ _ _ _ _ c.loop-row-test.true (sym c.goes.ensures ∙ w.if-goes.true) refl
      c.loop-row.invariant w.add.ensures.made w.add.ensures.few)
  | else-goes w ↦ rw w.changes-is
      (drops_over (goes c.args.partner.0 (option_map (λ (k : Key). k.0) c.args.spared)) c.args.rows.now
      c.loop-row.row-index _ _ _ c.loop-row-test.true (sym c.goes.ensures ∙ w.if-goes.false) c.loop-row.invariant)
]

pub returns-clause-made : goal.returns-clause-made
returns-clause-made c = drops_made (goes c.args.partner.0 (option_map (λ (k : Key). k.0) c.args.spared))
    c.args.rows.now c.loop-row.row-index _ _ c.loop-row-test.false c.loop-row.invariant

pub returns-clause-few : goal.returns-clause-few
returns-clause-few c = drops_few (goes c.args.partner.0 (option_map (λ (k : Key). k.0) c.args.spared)) c.args.rows.now
    c.loop-row.row-index _ _ c.requires.few c.loop-row-test.false c.loop-row.invariant
