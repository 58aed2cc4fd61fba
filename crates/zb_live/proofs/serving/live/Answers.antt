use Rattle.std.proofs.Common.{◌≡◌, ◌∙◌, rules, Option, ℕ, Vec, Err, ap, sym, subst}
use Rattle.std.specs.Global.{Global}
use Rattle.std.specs.Str.Lines.{strip_carriage_return}
use Rattle.zb_centre_store.specs.Outside.{outside}
use Rattle.zb_host.specs.Hosts.{Hosted}
use Rattle.zb_live.specs.Alive.{CanServe}
use Rattle.zb_live.specs.Feeding.{IsNext}
use Rattle.zb_live.specs.Moments.{input_of}
use Rattle.zb_live.specs.Serving.{Ended, Lives}
use Rattle.zb_live.proofs.ServingLemmas.{begins, ends, ends_at, ends_at_long, ends_over, ends_unread, goes_on, reads_on, still_held}
use Rattle.zb_live.proofs.serving.live.Goals as goal
use Rattle.zb_stored_tables.specs.Cores.{CoreValue}

pub loop-init : goal.loop-init
loop-init g c =
    let x = outside g.D.Disk.tells g.D.Disk.state g.W.Sink.taken g.W.Sink.faults in
    let input = input_of (g.R.Source.rest c.args.input.now) (g.R.Source.calls c.args.input.now)
    (g.R.Source.faults c.args.input.now) in
    let session = c.new-session.result in (
      begins x input c.args.disk.now c.args.output.now session c.new-feed.result.held.items c.new-session.ensures.is
          c.new-session.ensures.closed c.new-feed.ensures,
      subst (λ (o : Option (Hosted CoreValue)). CanServe session.network o) (sym c.new-session.ensures.closed) tt,
      c.new-page.ensures.items,
    )

pub returns-in_err-line : goal.returns-in_err-line
returns-in_err-line g c =
    let x = outside g.D.Disk.tells g.D.Disk.state g.W.Sink.taken g.W.Sink.faults in
    let input = input_of (g.R.Source.rest c.args.input.now) (g.R.Source.calls c.args.input.now)
    (g.R.Source.faults c.args.input.now) in
    let rest = input_of (g.R.Source.rest c.loop.input) (g.R.Source.calls c.loop.input)
    (g.R.Source.faults c.loop.input) in
    let same : c.from_residual.result ≡ Err c.in_err-line.field-0.0 = search rules in
    subst (λ (r : Ended). Lives x input c.args.disk.now c.args.output.now r rest c.loop.disk c.loop.output) (sym same)
    (ends_at_long x input c.args.disk.now c.args.output.now c.loop.session c.loop.feed.held.items rest c.loop.disk
    c.loop.output c.loop.invariant.0 c.in_err-line.field-0.0 c.in_err-line.ensures.fault)

pub returns-in_err-serve_line-in-Some : goal.returns-in_err-serve_line-in-Some
returns-in_err-serve_line-in-Some g c =
    let x = outside g.D.Disk.tells g.D.Disk.state g.W.Sink.taken g.W.Sink.faults in
    let input = input_of (g.R.Source.rest c.args.input.now) (g.R.Source.calls c.args.input.now)
    (g.R.Source.faults c.args.input.now) in
    let rest = input_of (g.R.Source.rest c.loop.input) (g.R.Source.calls c.loop.input)
    (g.R.Source.faults c.loop.input) in
    let next = subst (λ (o : Option (Vec ℕ Global)). IsNext c.loop.feed.held.items o c.take_line.new.self.held.items)
    c.in-Some.is c.in_ok-line.ensures.next in
    let same : c.from_residual-in_err-serve_line-in-Some.result ≡ Err c.in_err-serve_line-in-Some.field-0.0 =
    search rules in
    subst (λ (r : Ended). Lives x input c.args.disk.now c.args.output.now r rest c.serve_line.new.disk
    c.serve_line.new.output) (sym same)
    (ends_at x input c.args.disk.now c.args.output.now c.loop.session c.loop.feed.held.items rest c.loop.disk
    c.loop.output c.loop.invariant.0 c.take_line.new.self.held.items
    c.in-Some.line c.without_carriage_return.result.now c.serve_line.new.session c.serve_line.new.disk
    c.serve_line.new.output c.in_err-serve_line-in-Some.field-0.0
    (c.without_carriage_return.ensures ∙ ap strip_carriage_return c.as_slice.ensures.value) next
    c.in_err-serve_line-in-Some.ensures.served c.in_err-serve_line-in-Some.ensures.faults
    c.in_err-serve_line-in-Some.ensures.unwritten c.in_err-serve_line-in-Some.ensures.unrisen
    c.in_err-serve_line-in-Some.ensures.told_front)

pub returns-in_err-read_on-in-None : goal.returns-in_err-read_on-in-None
returns-in_err-read_on-in-None g c =
    let x = outside g.D.Disk.tells g.D.Disk.state g.W.Sink.taken g.W.Sink.faults in
    let input = input_of (g.R.Source.rest c.args.input.now) (g.R.Source.calls c.args.input.now)
    (g.R.Source.faults c.args.input.now) in
    let rest = input_of (g.R.Source.rest c.loop.input) (g.R.Source.calls c.loop.input)
    (g.R.Source.faults c.loop.input) in
    let rest2 = input_of (g.R.Source.rest c.read_on.new.input) (g.R.Source.calls c.read_on.new.input)
    (g.R.Source.faults c.read_on.new.input) in
    let next = subst (λ (o : Option (Vec ℕ Global)). IsNext c.loop.feed.held.items o c.take_line.new.self.held.items)
    c.in-None.is c.in_ok-line.ensures.next in
    let held = still_held x input c.args.disk.now c.args.output.now c.loop.session c.loop.feed.held.items
    c.take_line.new.self.held.items rest c.loop.disk c.loop.output c.loop.invariant.0 next in
    let same : c.from_residual-in_err-read_on-in-None.result ≡ Err c.in_err-read_on-in-None.field-0.0 = search rules in
    subst (λ (r : Ended). Lives x input c.args.disk.now c.args.output.now r rest2 c.loop.disk c.loop.output) (sym same)
    (ends_unread x input c.args.disk.now c.args.output.now c.loop.session c.take_line.new.self.held.items rest
    c.loop.disk c.loop.output held.0 rest2 c.in_err-read_on-in-None.field-0.0
    held.1 c.read_on.ensures.called c.read_on.ensures.few c.in_err-read_on-in-None.ensures.read
    c.in_err-read_on-in-None.ensures.unrisen c.in_err-read_on-in-None.ensures.other)

pub returns-then-not-branch : goal.returns-then-not-branch
returns-then-not-branch g c =
    let x = outside g.D.Disk.tells g.D.Disk.state g.W.Sink.taken g.W.Sink.faults in
    let input = input_of (g.R.Source.rest c.args.input.now) (g.R.Source.calls c.args.input.now)
    (g.R.Source.faults c.args.input.now) in
    let rest = input_of (g.R.Source.rest c.loop.input) (g.R.Source.calls c.loop.input)
    (g.R.Source.faults c.loop.input) in
    let rest2 = input_of (g.R.Source.rest c.read_on.new.input) (g.R.Source.calls c.read_on.new.input)
    (g.R.Source.faults c.read_on.new.input) in
    let next = subst (λ (o : Option (Vec ℕ Global)). IsNext c.loop.feed.held.items o c.take_line.new.self.held.items)
    c.in-None.is c.in_ok-line.ensures.next in
    let held = still_held x input c.args.disk.now c.args.output.now c.loop.session c.loop.feed.held.items
    c.take_line.new.self.held.items rest c.loop.disk c.loop.output c.loop.invariant.0 next in
    ends x input c.args.disk.now c.args.output.now c.loop.session c.take_line.new.self.held.items rest c.loop.disk
    c.loop.output held.0 c.read_on.new.self.held.items rest2 _
    held.1 (c.in_ok-read_on-in-None.ensures.unrisen (λ is. cc is)) c.read_on.ensures.called c.read_on.ensures.few
    c.in_ok-read_on-in-None.ensures.bytes c.if-not-branch.true
    (c.in_ok-read_on-in-None.ensures.none c.if-not-branch.true)

pub loop-preserved : goal.loop-preserved
loop-preserved g c =
    let x = outside g.D.Disk.tells g.D.Disk.state g.W.Sink.taken g.W.Sink.faults in
    let input = input_of (g.R.Source.rest c.args.input.now) (g.R.Source.calls c.args.input.now)
    (g.R.Source.faults c.args.input.now) in
    let rest = input_of (g.R.Source.rest c.loop.input) (g.R.Source.calls c.loop.input)
    (g.R.Source.faults c.loop.input) in
    let next = subst (λ (o : Option (Vec ℕ Global)). IsNext c.loop.feed.held.items o c.take_line.new.self.held.items)
    c.in-Some.is c.in_ok-line.ensures.next in (
      goes_on x input c.args.disk.now c.args.output.now c.loop.session c.loop.feed.held.items rest c.loop.disk
          c.loop.output c.loop.invariant.0 c.take_line.new.self.held.items
          c.in-Some.line c.without_carriage_return.result.now c.serve_line.new.session c.serve_line.new.disk
          c.serve_line.new.output
          (c.without_carriage_return.ensures ∙ ap strip_carriage_return c.as_slice.ensures.value) next
          c.in_ok-serve_line-in-Some.ensures.served c.in_ok-serve_line-in-Some.ensures.waits
          (c.in_ok-serve_line-in-Some.ensures.unrisen (λ is. cc is))
          (c.in_ok-serve_line-in-Some.ensures.unwritten (λ is. cc is))
          c.in_ok-serve_line-in-Some.ensures.told,
      c.in_ok-serve_line-in-Some.ensures.store,
      c.in_ok-serve_line-in-Some.ensures.empty,
    )

pub loop-preserved-in-None : goal.loop-preserved-in-None
loop-preserved-in-None g c =
    let x = outside g.D.Disk.tells g.D.Disk.state g.W.Sink.taken g.W.Sink.faults in
    let input = input_of (g.R.Source.rest c.args.input.now) (g.R.Source.calls c.args.input.now)
    (g.R.Source.faults c.args.input.now) in
    let rest = input_of (g.R.Source.rest c.loop.input) (g.R.Source.calls c.loop.input)
    (g.R.Source.faults c.loop.input) in
    let rest2 = input_of (g.R.Source.rest c.read_on.new.input) (g.R.Source.calls c.read_on.new.input)
    (g.R.Source.faults c.read_on.new.input) in
    let next = subst (λ (o : Option (Vec ℕ Global)). IsNext c.loop.feed.held.items o c.take_line.new.self.held.items)
    c.in-None.is c.in_ok-line.ensures.next in
    let held = still_held x input c.args.disk.now c.args.output.now c.loop.session c.loop.feed.held.items
    c.take_line.new.self.held.items rest c.loop.disk c.loop.output c.loop.invariant.0 next in (
      reads_on x input c.args.disk.now c.args.output.now c.loop.session c.take_line.new.self.held.items rest
          c.loop.disk c.loop.output held.0 c.read_on.new.self.held.items rest2 _
          held.1 (c.in_ok-read_on-in-None.ensures.unrisen (λ is. cc is)) c.read_on.ensures.called c.read_on.ensures.few
          c.in_ok-read_on-in-None.ensures.bytes,
      c.loop.invariant.1,
      c.loop.invariant.2,
    )

pub returns : goal.returns
returns g c =
    let x = outside g.D.Disk.tells g.D.Disk.state g.W.Sink.taken g.W.Sink.faults in
    let input = input_of (g.R.Source.rest c.args.input.now) (g.R.Source.calls c.args.input.now)
    (g.R.Source.faults c.args.input.now) in
    let rest = input_of (g.R.Source.rest c.loop.input) (g.R.Source.calls c.loop.input)
    (g.R.Source.faults c.loop.input) in
    ends_over x input c.args.disk.now c.args.output.now c.loop.session c.loop.feed.held.items rest c.loop.disk
    c.loop.output c.loop.invariant.0
