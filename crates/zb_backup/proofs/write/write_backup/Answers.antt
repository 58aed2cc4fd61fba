use Rattle.std.proofs.Common.{ap, sym, ◌∙◌, arith, Some}
use Rattle.serde_json.specs.Data.{depth}
use Rattle.serde_json.specs.Written.{compact_text, has_float}
use Rattle.zb_model.specs.State.{after_boot}
use Rattle.zb_backup.specs.Format.{backup_of}
use Rattle.zb_backup.proofs.Booted.{backup_same, centre_booted}
use Rattle.zb_backup.proofs.Both.{text_complete}
use Rattle.zb_backup.proofs.Raised.{backup_raised}
use Rattle.zb_backup.proofs.Shape.{backup_has}
use Rattle.zb_backup.proofs.write.write_backup.Goals as goal

pub returns-clause-text : goal.returns-clause-text
returns-clause-text c =
    let same = c.in_ok-value.ensures.value in c.in_ok-text.ensures.text
    (ap has_float same ∙ (backup_has c.args.tables.now).whole) ∙ ap compact_text same

pub returns-clause-again : goal.returns-clause-again
returns-clause-again c = λ centre.
    let s = c.args.tables.now in
    let same = c.in_ok-value.ensures.value in
    text_complete c.in_ok-text.text.items (after_boot s) (record {
      utf8 = c.in_ok-text.ensures.utf8;
      value = backup_of (after_boot s);
      reads = c.in_ok-text.ensures.reads_back (omega (arith, ap depth same, (backup_has s).depth)) ∙ ap Some
          (same ∙ sym (backup_same s));
      same = backup_raised (after_boot s);
      kept = centre_booted s centre c.keep_rules.ensures.rules c.keep_rules.ensures.forgets c.in_ok-value.ensures.fits;
    })
