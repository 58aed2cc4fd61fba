use Rattle.std.proofs.Common.{refl, sym, ◌∙◌, arith, inl, inr, rules}
use Rattle.std.proofs.lemmas.Bool.{eqb-true}
use Rattle.std.proofs.lemmas.List.{nil_from_length}
use Rattle.std.proofs.lemmas.Result.{err_from_is_err_and}
use Rattle.zb_cursor.proofs.whole.read_whole.Goals as goal

pub returns-in_err-value : goal.returns-in_err-value
returns-in_err-value g c =
    let p = err_from_is_err_and c.from_residual.result c.from_residual.ensures.1 in
    rw (p.1, p.2) record {
      value = tt;
      fault = inl (
        c.read.new.arg2,
        record { shown = _; shows = refl; left = _; met = c.in_err-value.ensures; leaves = refl },
      );
    }

pub overflow_cast-reader : goal.overflow_cast-reader
overflow_cast-reader g c =
    let fewer = c.requires.shorter c.read.result c.read.new.arg2
    record { shown = _; shows = refl; left = _; met = c.read.ensures; leaves = refl } in
    omega (arith, c.requires.few, fewer)

pub returns-then-not-is_empty : goal.returns-then-not-is_empty
returns-then-not-is_empty g c = record {
  value = tt;
  fault = inr (
    c.in_ok-value.value,
    c.read.new.arg2,
    record { shown = _; shows = refl; left = _; met = c.in_ok-value.ensures; leaves = refl },
    search rules,
    c.left.ensures,
  );
}

pub returns : goal.returns
returns g c = record {
  value = (
    c.read.new.arg2,
    record { shown = _; shows = refl; left = _; met = c.in_ok-value.ensures; leaves = refl },
    nil_from_length _ (eqb-true _ _ (sym c.is_empty.ensures ∙ c.if-not-is_empty.false)),
  );
  fault = tt;
}
