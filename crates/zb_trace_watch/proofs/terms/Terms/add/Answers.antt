use Rattle.std.proofs.Common.{◌≡◌, Bool, ◌||◌, bytes_eq, ap, sym, ◌∙◌}
use Rattle.zb_trace_watch.specs.Terms.{has_term, term_bytes, term_head}
use Rattle.zb_trace_watch.proofs.TermBytes.{bytes_tell, same_head}
use Rattle.zb_trace_watch.proofs.terms.Terms.add.Goals as goal

pub returns : goal.returns
returns c =
    λ t.
    let bytes : c.in_ok-bytes.bytes.items ≡ term_bytes c.args.term.now =
    c.in_ok-bytes.ensures.items ∙ (c.as_slice.ensures.value ∙ c.put_bytes.ensures) in
    c.in_ok-keep.ensures (term_head t) (term_bytes t)
    (λ h. same_head t c.args.term.now (ap (bytes_eq (term_bytes t)) (sym bytes) ∙ h) ∙ sym c.head_of.ensures)
    ∙ ap (λ (b : Bool). has_term c.args.self.now t || b)
    (ap (bytes_eq (term_bytes t)) bytes ∙ bytes_tell t c.args.term.now)
