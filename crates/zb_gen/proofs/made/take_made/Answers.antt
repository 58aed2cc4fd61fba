use Rattle.std.proofs.Common.{◌≡◌, ℕ, ◌∙◌, List, Ok, Err, ap, subst, sym}
use Rattle.zb_gen.specs.Codes.{CodesOf}
use Rattle.zb_gen.specs.Progress.{after_texts, Comes, declarations, events}
use Rattle.zb_gen.specs.Words.{Place}
use Rattle.zb_gen.proofs.Folds.{handed, stops, then_comes}
use Rattle.zb_gen.proofs.Wholes.{both_parts}
use Rattle.zb_gen.proofs.made.take_made.Goals as goal

pub returns-in_err-take_declarations : goal.returns-in_err-take_declarations
returns-in_err-take_declarations c =
    handed c.from_residual-in_err-take_declarations.result c.in_err-take_declarations.field-0.0
    c.take_declarations.new.maker _ c.from_residual-in_err-take_declarations.ensures.1
    (subst (λ (ls : List (List ℕ)). Comes (Err c.in_err-take_declarations.field-0.0) c.take_declarations.new.maker
    (after_texts c.args.maker.now ls)) (sym (both_parts c.args.start c.args.n))
    (stops c.in_err-take_declarations.field-0.0 c.args.maker.now c.take_declarations.new.maker
    c.take_declarations.new.maker (declarations c.args.start c.args.n) (events c.args.start c.args.n)
    (subst (λ (s : ℕ). Comes (Err c.in_err-take_declarations.field-0.0) c.take_declarations.new.maker
    (after_texts c.args.maker.now (declarations s c.args.n)))
    (ap (λ (x : CodesOf). x.start) c.in_ok-codes.ensures.codes ∙ ap (λ (x : Place). x.start) c.new-words.ensures)
    c.in_err-take_declarations.ensures.lines)))

pub returns : goal.returns
returns c =
    subst (λ (ls : List (List ℕ)). Comes c.take_events.result c.take_events.new.maker
    (after_texts c.args.maker.now ls)) (sym (both_parts c.args.start c.args.n))
    (then_comes c.take_events.result c.args.maker.now c.take_declarations.new.maker c.take_events.new.maker
    (declarations c.args.start c.args.n) (events c.args.start c.args.n)
    (subst (λ (s : ℕ). after_texts c.args.maker.now (declarations s c.args.n) ≡ Ok c.take_declarations.new.maker)
    (ap (λ (x : CodesOf). x.start) c.in_ok-codes.ensures.codes ∙ ap (λ (x : Place). x.start) c.new-words.ensures)
    c.in_ok-take_declarations.ensures.lines)
    (subst (λ (s : ℕ). Comes c.take_events.result c.take_events.new.maker
    (after_texts c.take_declarations.new.maker (events s c.args.n)))
    (ap (λ (x : CodesOf). x.start) c.in_ok-codes.ensures.codes ∙ ap (λ (x : Place). x.start) c.new-words.ensures)
    c.take_events.ensures))
