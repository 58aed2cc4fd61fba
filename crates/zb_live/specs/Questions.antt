-- What the questions of a session show of the tables.
use Rattle.std.specs.Prelude.{ℕ, List}
use Rattle.zb_backup.specs.Format.{backup_text}
use Rattle.zb_centre_store.specs.Rows.{listed}
use Rattle.zb_live.specs.declared.question.Question.{Question}
use Rattle.zb_live.specs.declared.question.Question.TheVariants as question
use Rattle.zb_model.specs.State.{NodeState}
use Rattle.zb_text.specs.Pages.{ended, page}

abbrev pub question_text : Question → NodeState → List ℕ
question_text question.List s = page (listed s)
question_text question.Backup s = ended (backup_text s)
