use Rattle.zb_seal.proofs.Lengths.{length-wire}
use Rattle.zb_seal.proofs.sealing.wire_with.Goals as goal

pub returns-clause-len : goal.returns-clause-len
returns-clause-len c = length-wire c.args.term.now c.args.cipher.now c.seal_content-mic.new.text.items
    c.seal_content-mic.result c.requires c.seal_content-mic.ensures.text c.seal_content-mic.ensures.mic
    c.seal_content-mic.ensures.text_len c.seal_content-mic.ensures.mic_len

pub returns-in_err-put-clause-len : goal.returns-in_err-put-clause-len
returns-in_err-put-clause-len c = length-wire c.args.term.now c.args.cipher.now c.seal_content-mic.new.text.items
    c.seal_content-mic.result c.requires c.seal_content-mic.ensures.text c.seal_content-mic.ensures.mic
    c.seal_content-mic.ensures.text_len c.seal_content-mic.ensures.mic_len

pub returns-in_err-put-2-clause-len : goal.returns-in_err-put-2-clause-len
returns-in_err-put-2-clause-len c = length-wire c.args.term.now c.args.cipher.now c.seal_content-mic.new.text.items
    c.seal_content-mic.result c.requires c.seal_content-mic.ensures.text c.seal_content-mic.ensures.mic
    c.seal_content-mic.ensures.text_len c.seal_content-mic.ensures.mic_len
