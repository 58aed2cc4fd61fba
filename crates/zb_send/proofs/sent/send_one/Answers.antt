use Rattle.std.proofs.Common.{refl}
use Rattle.zb_send.proofs.Sents.{sent_with}
use Rattle.zb_send.specs.Sendings.{sending_of}
use Rattle.zb_send.proofs.sent.send_one.Goals as goal

pub returns-clause-sent : goal.returns-clause-sent
returns-clause-sent c =
    sent_with c.args.network.now c.args.tables.now (sending_of c.args.sending.now) _ _ _ _ _ c.eui-me.ensures
    c.counter_at-nwk.ensures c.counter_at-aps.ensures refl c.put_framed.ensures.sent
