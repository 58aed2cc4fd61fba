use Rattle.std.proofs.Common.{ℕ, ◌++◌, [], ◌∷◌, Err, ap, subst}
use Rattle.zb_gen.specs.Made.{centre_line}
use Rattle.zb_gen.specs.Progress.{after_texts, Comes, declarations}
use Rattle.zb_gen.specs.Words.{Place}
use Rattle.zb_gen.proofs.Folds.{code_lines, handed, node_lines, stops, supply_lines, then_comes}
use Rattle.zb_gen.proofs.made.take_declarations.Goals as goal

pub returns-in_err-take_centre_line-clause-lines : goal.returns-in_err-take_centre_line-clause-lines
unfolding declarations
returns-in_err-take_centre_line-clause-lines c =
    handed c.from_residual.result c.in_err-take_centre_line.field-0.0 c.take_centre_line.new.maker _
    c.from_residual.ensures.1
    (stops c.in_err-take_centre_line.field-0.0 c.args.maker.now c.take_centre_line.new.maker
    c.take_centre_line.new.maker (centre_line ∷ [])
    (node_lines c.args.n
    ++ (code_lines c.args.codes.now.start c.args.n ++ supply_lines c.args.codes.now.start c.args.n))
    c.in_err-take_centre_line.ensures.lines)

pub returns-in_err-take_nodes-clause-lines : goal.returns-in_err-take_nodes-clause-lines
unfolding declarations
returns-in_err-take_nodes-clause-lines c =
    handed c.from_residual-in_err-take_nodes.result c.in_err-take_nodes.field-0.0 c.take_nodes.new.maker _
    c.from_residual-in_err-take_nodes.ensures.1
    (then_comes (Err c.in_err-take_nodes.field-0.0) c.args.maker.now c.take_centre_line.new.maker
    c.take_nodes.new.maker (centre_line ∷ [])
    (node_lines c.args.n
    ++ (code_lines c.args.codes.now.start c.args.n ++ supply_lines c.args.codes.now.start c.args.n))
    c.in_ok-take_centre_line.ensures.lines
    (stops c.in_err-take_nodes.field-0.0 c.take_centre_line.new.maker c.take_nodes.new.maker c.take_nodes.new.maker
    (node_lines c.args.n)
    (code_lines c.args.codes.now.start c.args.n ++ supply_lines c.args.codes.now.start c.args.n)
    c.in_err-take_nodes.ensures.lines))

pub returns-in_err-take_codes-clause-lines : goal.returns-in_err-take_codes-clause-lines
unfolding declarations
returns-in_err-take_codes-clause-lines c =
    handed c.from_residual-in_err-take_codes.result c.in_err-take_codes.field-0.0 c.take_codes.new.maker _
    c.from_residual-in_err-take_codes.ensures.1
    (then_comes (Err c.in_err-take_codes.field-0.0) c.args.maker.now c.take_centre_line.new.maker
    c.take_codes.new.maker (centre_line ∷ [])
    (node_lines c.args.n
    ++ (code_lines c.args.codes.now.start c.args.n ++ supply_lines c.args.codes.now.start c.args.n))
    c.in_ok-take_centre_line.ensures.lines
    (then_comes (Err c.in_err-take_codes.field-0.0) c.take_centre_line.new.maker c.take_nodes.new.maker
    c.take_codes.new.maker (node_lines c.args.n)
    (code_lines c.args.codes.now.start c.args.n ++ supply_lines c.args.codes.now.start c.args.n)
    c.in_ok-take_nodes.ensures.lines
    (stops c.in_err-take_codes.field-0.0 c.take_nodes.new.maker c.take_codes.new.maker c.take_codes.new.maker
    (code_lines c.args.codes.now.start c.args.n) (supply_lines c.args.codes.now.start c.args.n)
    c.in_err-take_codes.ensures.lines)))

pub returns-clause-lines : goal.returns-clause-lines
unfolding declarations
returns-clause-lines c =
    then_comes c.take_supply.result c.args.maker.now c.take_centre_line.new.maker c.take_supply.new.maker
    (centre_line ∷ [])
    (node_lines c.args.n
    ++ (code_lines c.args.codes.now.start c.args.n ++ supply_lines c.args.codes.now.start c.args.n))
    c.in_ok-take_centre_line.ensures.lines
    (then_comes c.take_supply.result c.take_centre_line.new.maker c.take_nodes.new.maker c.take_supply.new.maker
    (node_lines c.args.n)
    (code_lines c.args.codes.now.start c.args.n ++ supply_lines c.args.codes.now.start c.args.n)
    c.in_ok-take_nodes.ensures.lines
    (then_comes c.take_supply.result c.take_nodes.new.maker c.take_codes.new.maker c.take_supply.new.maker
    (code_lines c.args.codes.now.start c.args.n) (supply_lines c.args.codes.now.start c.args.n)
    c.in_ok-take_codes.ensures.lines
    (subst (λ (s : ℕ). Comes c.take_supply.result c.take_supply.new.maker
    (after_texts c.take_codes.new.maker (supply_lines s c.args.n))) (ap (λ (w : Place). w.start) c.requires.words)
    c.take_supply.ensures.lines)))
