use Rattle.std.proofs.Common.{◌≡◌, List, ℕ, Option, None, true, false, sym, ◌∙◌, subst}
use Rattle.std.specs.Option.{MatchOption}
use Rattle.zb_store.specs.declared.reading.Found.{Found}
use Rattle.zb_store.specs.Layout.{slot, stands}
use Rattle.zb_store.specs.Reading.{IsHeaderOf, IsFoundIn}
use Rattle.zb_store.proofs.Finding.{chosen_is, room_first, room_second}
use Rattle.zb_store.proofs.reading.find.Goals as goal

pub returns-clause-found : goal.returns-clause-found
returns-clause-found g c told =
    let seen = (g.D.Disk.state c.args.disk.now).seen in
    let size = c.in_ok-size.ensures.size told in
    let seen1 = c.in_ok-size.ensures.read.still.same.seen in
    let seen2 = c.in_ok-first.ensures.read.still.same.seen ∙ seen1 in
    let first = subst (λ (l : List ℕ). IsHeaderOf (slot false l) c.in_ok-first.first) seen1
    (c.in_ok-first.ensures.bytes told) in
    let second = subst (λ (l : List ℕ). IsHeaderOf (slot true l) c.in_ok-second.second) seen2
    (c.in_ok-second.ensures.bytes told) in
    let first_room = c.min.ensures ∙ room_first seen c.in_ok-size.size size in
    let second_room = c.saturating_sub.ensures ∙ room_second seen c.in_ok-size.size size in
    subst (λ (o : Option Found). MatchOption o (stands seen ≡ None) (λ f. IsFoundIn f seen)) (sym c.choose.ensures)
    (chosen_is c.in_ok-first.first c.in_ok-second.second c.min.result c.saturating_sub.result seen first second
    first_room second_room)
