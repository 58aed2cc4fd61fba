use Rattle.zb_live.proofs.SessionLemmas.{centre_named}
use Rattle.zb_live.proofs.session.centre_name.Goals as goal

pub returns-clause-called : goal.returns-clause-called
returns-clause-called c =
    (centre_named c.args.network.now c.config.result.now _ c.deref.result.now c.index-deref-0.result c.requires
    c.config.ensures.network c.config.ensures.me (c.config.ensures.centre c.requires) c.deref.ensures.0).0

pub returns-clause-centre : goal.returns-clause-centre
returns-clause-centre c =
    (centre_named c.args.network.now c.config.result.now _ c.deref.result.now c.index-deref-0.result c.requires
    c.config.ensures.network c.config.ensures.me (c.config.ensures.centre c.requires) c.deref.ensures.0).1
