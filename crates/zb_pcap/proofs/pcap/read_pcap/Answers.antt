use Rattle.std.proofs.Common.{◌∙◌, ℕ, List, ap, sym, subst, map, Err, Vec, Global}
use Rattle.std.proofs.lemmas.Result.{err_from_is_err_and}
use Rattle.zb_pcap.specs.Extracts.{record_in, Answers}
use Rattle.zb_pcap.specs.Files.{records}
use Rattle.zb_pcap.specs.Packets.{held}
use Rattle.zb_pcap.specs.declared.packets.Packet.{Packet}
use Rattle.zb_pcap.proofs.Records.{held_ok, held_err}
use Rattle.zb_pcap.proofs.pcap.read_pcap.Goals as goal

pub returns-in_err-packets : goal.returns-in_err-packets
returns-in_err-packets c =
    let p = err_from_is_err_and c.from_residual.result c.from_residual.ensures.1 in
    let A : List ℕ → Type 0 = λ rest. Answers {T = Vec Packet Global} (λ v. map record_in v.items)
    (Err c.in_err-packets.field-0.0) (records 100000 1 c.in-Ok.form.order rest) in
    held_err {T = Vec Packet Global} c.args.bytes.now c.in-Ok.form (λ v. map record_in v.items)
    c.in_err-packets.field-0.0 p.0 c.from_residual.result
    (sym c.in-Ok.ensures.value) (subst A c.split_at.ensures.back c.in_err-packets.ensures.exact) p.1 p.2

pub returns : goal.returns
returns c =
    held_ok c.args.bytes.now c.in-Ok.form (map record_in c.in_ok-packets.packets.items) c.in_ok-found.found
    (sym c.in-Ok.ensures.value)
    (ap (records 100000 1 c.in-Ok.form.order) (sym c.split_at.ensures.back) ∙ c.in_ok-packets.ensures.exact)
    (c.in_ok-found.ensures ∙ ap (λ ps. held c.in-Ok.form.check (map record_in ps)) c.as_slice.ensures.value)
