use Rattle.std.proofs.Common.{◌+◌, ◌∙◌, ap, subst}
use Rattle.std.specs.Str.Lines.{lines}
use Rattle.zb_capture.specs.declared.draft.Draft.{Draft}
use Rattle.zb_capture.specs.Drafts.{capture_of}
use Rattle.zb_capture.specs.Pieces.{both, Fit}
use Rattle.zb_capture.specs.Readings.{Reading}
use Rattle.zb_capture.proofs.JoinLaws.{lead_behind}
use Rattle.zb_capture.proofs.reader.CaptureReader.take_lines.Goals as goal

pub returns-clause-exact : goal.returns-clause-exact
returns-clause-exact c =
    let old = c.args.self.now in
    let more = c.args.more in
    let F : Reading → Type 0 = λ r. Fit r.capture (capture_of c.more.inside.draft) in
    let G : Reading → Type 0 = λ r. Fit old.capture r.capture in
    lead_behind old
    (record
    { lines = c.self.inside.lines + c.more.inside.lines; capture = capture_of c.in_ok-self-inside.field-0 }) more
    (lines c.args.text.now) c.requires.alone.lead
    (subst G c.more.view_is (subst F c.self.view_is c.if-not-fits.ensures))
    (ap (λ (r : Reading). r.lines + c.more.inside.lines) c.self.view_is ∙ ap (λ (r : Reading). old.lines + r.lines)
    c.more.view_is)
    (c.in_ok-self-inside.ensures ∙ ap (λ (d : Draft). both (capture_of d) (capture_of c.more.inside.draft))
    c.replace-draft.ensures.value
    ∙ ap (λ (r : Reading). both r.capture (capture_of c.more.inside.draft)) c.self.view_is ∙ ap
    (λ (r : Reading). both old.capture r.capture) c.more.view_is)
