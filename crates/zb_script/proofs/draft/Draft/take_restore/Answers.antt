use Rattle.zb_backup.proofs.Both.{text_sound}
use Rattle.zb_script.proofs.draft.Draft.take_restore.Goals as goal

pub take_order-requires : goal.take_order-requires
take_order-requires c = (
  c.ranges.skip.fits,
  (c.in-Ok.tables, (text_sound c.args.json.now c.in-Ok.tables c.in-Ok.ensures).kept, c.in_ok-bytes-in-Ok.ensures),
)
