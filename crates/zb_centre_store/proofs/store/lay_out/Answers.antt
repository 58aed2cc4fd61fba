use Rattle.zb_centre_store.proofs.StoreLemmas.{laid_given, laid_out}
use Rattle.zb_centre_store.proofs.store.lay_out.Goals as goal

pub returns-in-Ok-clause-made : goal.returns-in-Ok-clause-made
returns-in-Ok-clause-made g c =
    laid_out g.D.Disk.tells _ c.args.tables.now c.requires.widths (g.D.Disk.state c.format.new.disk)
    (g.D.Disk.state c.boot.new.disk) c.in-Ok.ensures.held (g.met.D.Disk.reads_image c.format.new.disk)
    (laid_given c.args.tables.now c.requires.centre
    (record
    { rules = c.keep_rules.ensures.rules; forgets = c.keep_rules.ensures.forgets; widths = c.requires.widths })
    c.requires.booted)
    (g.D.Disk.state c.args.disk.now) c.boot.result (c.in-Ok.ensures.unrisen (λ is. cc is)) c.boot.ensures.booted
