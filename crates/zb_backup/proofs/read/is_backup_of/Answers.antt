use Rattle.std.proofs.Common.{◌≡◌, ap, sym, ◌∙◌, arith, refl}
use Rattle.std.specs.Prelude.{bytes_eq}
use Rattle.serde_json.specs.Data.{depth}
use Rattle.serde_json.specs.View.{view}
use Rattle.serde_json.specs.Written.{compact_text, has_float}
use Rattle.zb_backup.specs.Format.{backup_text}
use Rattle.zb_backup.proofs.Making.{same_from_texts, texts_from_same}
use Rattle.zb_backup.proofs.Shape.{backup_has}
use Rattle.zb_backup.proofs.read.is_backup_of.Goals as goal

pub returns-clause-same : goal.returns-clause-same
returns-clause-same c = λ is.
    let s = c.args.tables.now in
    let value = c.in_ok-own.ensures.value in
    let compared : c.same_bytes-is.result ≡ bytes_eq c.in_ok-own_text.own_text.items c.in_ok-text.text.items =
    c.same_bytes-is.ensures ∙ rw (c.as_slice.ensures.value, c.as_slice-2.ensures.value) refl in
    let own_again = c.in_ok-own_text.ensures.reads_back (omega (arith, ap depth value, (backup_has s).depth)) in
    same_from_texts c.in_ok-own_text.own_text.items c.in_ok-text.text.items (view c.in_ok-own.own)
    (view c.args.value.now) (sym compared ∙ is) own_again (c.in_ok-text.ensures.reads_back c.requires) ∙ value

pub returns-clause-other : goal.returns-clause-other
returns-clause-other c = λ isnt role same.
    let s = c.args.tables.now in
    let value = c.in_ok-own.ensures.value in
    let compared : c.same_bytes-is.result ≡ bytes_eq c.in_ok-own_text.own_text.items c.in_ok-text.text.items =
    c.same_bytes-is.ensures ∙ rw (c.as_slice.ensures.value, c.as_slice-2.ensures.value) refl in
    let own_text = c.in_ok-own_text.ensures.text (ap has_float value ∙ (backup_has s).whole) ∙ ap compact_text value in
    let text = c.in_ok-text.ensures.text (ap has_float same ∙ (backup_has s).whole) ∙ ap compact_text same in
    texts_from_same c.in_ok-own_text.own_text.items c.in_ok-text.text.items (backup_text s) own_text text
    (sym compared ∙ isnt)
