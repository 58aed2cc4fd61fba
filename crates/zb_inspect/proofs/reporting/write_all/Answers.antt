use Rattle.zb_inspect.specs.Texts.{pages_text}
use Rattle.zb_inspect.proofs.Printed.{front_first, front_second, on_err}
use Rattle.zb_inspect.proofs.reporting.write_all.Goals as goal

pub returns-in_err-write_pages-clause-front : goal.returns-in_err-write_pages-clause-front
returns-in_err-write_pages-clause-front g c =
    on_err _ _
    (front_first (g.W.Sink.taken c.args.out.now) (g.W.Sink.taken c.write_pages.new.out)
    (pages_text c.args.pages.now) c.args.tail.now
    c.in_err-write_pages.ensures.front)

pub returns-in_err-write-clause-front : goal.returns-in_err-write-clause-front
returns-in_err-write-clause-front g c =
    on_err _ _
    (front_second (g.W.Sink.taken c.args.out.now) (g.W.Sink.taken c.write_pages.new.out)
    (g.W.Sink.taken c.write.new.self)
    (pages_text c.args.pages.now) c.args.tail.now c.in_ok-write_pages.ensures.whole c.in_err-write.ensures.front)
