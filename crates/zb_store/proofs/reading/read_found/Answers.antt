use Rattle.std.proofs.Common.{◌≡◌, ◌+◌, ◌-◌, List, ℕ, rules, refl, ◌∙◌, ap, arith}
use Rattle.std.specs.List.{concat}
use Rattle.zb_disk.specs.View.{window}
use Rattle.zb_store.specs.Layout.{base_of, payloads_of}
use Rattle.zb_store.proofs.Finding.{read_as}
use Rattle.zb_store.proofs.reading.read_found.Goals as goal

pub returns-clause-read : goal.returns-clause-read
returns-clause-read g c told is =
    let f = c.args.found in
    let seen = (g.D.Disk.state c.args.disk.now).seen in
    let seen1 = c.in-Ok.ensures.still.same.seen in
    let seen2 = c.in_ok-content.ensures.reads.still.same.seen ∙ seen1 in
    let start = c.base-record_at.result + 13 + c.from.result in
    let start_is : start ≡ base_of f.second + 13 + f.size = omega (arith, c.base-record_at.ensures, c.from.ensures) in
    let room_is : c.saturating_sub-room.result ≡ f.room - (13 + f.size) =
    omega (arith, c.saturating_sub-room.ensures, c.from-2.ensures) in
    let content =
    c.in_ok-content.ensures.bytes told ∙ ap (λ (l : List ℕ). window l (c.base-record_at.result + 13) f.size) seen1
    ∙ ap (λ (n : ℕ). window seen (n + 13) f.size) c.base-record_at.ensures in
    let region = c.in_ok-region.ensures.bytes told ∙ ap (λ (l : List ℕ). window l start c.in-Ok.counted.1) seen2 in
    let payloads = c.in_ok-payloads.ensures.payloads ∙ ap (λ (l : List ℕ). concat (payloads_of 32 l)) (search rules) in
    let got = read_as f seen c.in_ok-content.content.items c.in_ok-payloads.payloads.items c.in_ok-region.region.items
    start c.saturating_sub-room.result c.in-Ok.counted.0 c.in-Ok.counted.1 (13 + f.size + c.in-Ok.counted.1) is
    start_is room_is (omega (arith, c.in-Ok.ensures.few, c.in-Ok.ensures.short)) (c.in-Ok.ensures.entries told)
    content region payloads refl in (
      got.0,
      record {
        stands = got.1;
        second = got.2;
        generation = got.3;
        content = got.4;
        payloads = got.5;
        entries = got.6;
        end = got.7;
        other = got.8;
      },
    )
