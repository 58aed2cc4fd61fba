use Rattle.std.proofs.Common.{◌≡◌, ℕ, get_or, refl, ◌∙◌, ap}
use Rattle.zb_disk.specs.View.{window}
use Rattle.zb_store.specs.Layout.{base_of}
use Rattle.zb_store.proofs.Finding.{header_is}
use Rattle.zb_store.proofs.reading.read_header.Goals as goal

pub returns-clause-bytes : goal.returns-clause-bytes
returns-clause-bytes g c told =
    let seen = (g.D.Disk.state c.args.disk.now).seen in
    let buf = c.read.new.buf in
    let is : buf ≡ window seen (base_of c.args.second) 13 =
    c.in_ok-read.ensures.bytes told ∙ ap (λ (n : ℕ). window seen n 13) c.base.ensures in
    header_is c.args.second seen buf (get_or buf 0 0) c.le64.result c.le32.result is refl c.le64.ensures c.le32.ensures
