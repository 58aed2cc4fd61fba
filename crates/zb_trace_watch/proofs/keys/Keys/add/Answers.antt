use Rattle.std.proofs.Common.{◌∙◌, ap, bytes_eq}
use Rattle.std.specs.Prelude.{not}
use Rattle.std.specs.Ordering.{nat_cmp}
use Rattle.std.specs.Cmp.Lexicographic.{slice_cmp}
use Rattle.zb_base.specs.declared.key.Key.{Key}
use Rattle.zb_trace_watch.proofs.Alike.{list_any_alike, bytes_alike, bytes_eq_sym, added_alike}
use Rattle.zb_trace_watch.proofs.keys.Keys.add.Goals as goal

pub returns-clause-new : goal.returns-clause-new
returns-clause-new c =
    c.in_ok-new.ensures.added ∙ ap
    not (list_any_alike _ _ (λ (x : Key). bytes_alike c.args.key.0 x.0) c.args.self.now.keys.keys)

pub returns-clause-adds : goal.returns-clause-adds
returns-clause-adds c =
    λ k.
    let q : Key = record { 0 = k } in
    added_alike (λ (a b : Key). slice_cmp nat_cmp a.0 b.0) (λ (a b : Key). bytes_eq a.0 b.0)
    (λ a b. bytes_alike a.0 b.0) (λ a b. bytes_eq_sym a.0 b.0)
    c.args.self.now.keys.keys c.insert.new.self.keys c.args.key q (c.in_ok-new.ensures.updates.0 q)
