use Rattle.std.proofs.Common.{sym, ◌∙◌}
use Rattle.zb_audit_names.proofs.Entries.{if_ok, on_ok, stands_with_known, stands_with_old, tells_with_old, told_there}
use Rattle.zb_audit_names.proofs.directory.Directory.look_up.Goals as goal

pub returns-in_ok-keep-in-Some-clause-stands : goal.returns-in_ok-keep-in-Some-clause-stands
returns-in_ok-keep-in-Some-clause-stands c =
    λ names known stands.
    let there = sym c.get.ensures.value ∙ (sym c.copied.ensures ∙ c.in-Some.is) in
    stands_with_old (record c.args.self.now { looked_up = c.keep.new.looked_up }) c.args.name.now c.in-Some.who names
    known there
    (stands_with_known c.args.self.now c.keep.new.looked_up names known
    (c.in_ok-keep-in-Some.ensures names known
    (told_there c.args.self.now names known c.args.name.now c.in-Some.who stands there) stands.looked_up) stands)

pub returns-in_ok-keep-in-Some-clause-tells : goal.returns-in_ok-keep-in-Some-clause-tells
returns-in_ok-keep-in-Some-clause-tells c =
    λ names known stands. tells_with_old c.args.self.now c.args.name.now c.in-Some.who names known
    (sym c.get.ensures.value ∙ (sym c.copied.ensures ∙ c.in-Some.is)) stands

pub returns-in-None-clause-stands : goal.returns-in-None-clause-stands
returns-in-None-clause-stands c =
    on_ok c.new_name.result _ _ (λ all. all (sym c.get.ensures.value ∙ (sym c.copied.ensures ∙ c.in-None.is)))
    c.new_name.ensures.stands

pub returns-in-None-clause-tells : goal.returns-in-None-clause-tells
returns-in-None-clause-tells c =
    if_ok c.new_name.result _ _ (λ who all. all (sym c.get.ensures.value ∙ (sym c.copied.ensures ∙ c.in-None.is)))
    c.new_name.ensures.tells
