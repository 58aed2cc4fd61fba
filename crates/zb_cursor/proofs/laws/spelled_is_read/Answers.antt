use Rattle.std.proofs.Common.{◌^◌, ◌<◌, refl}
use Rattle.std.specs.Int.{w16, w32, w64}
use Rattle.std.specs.Prelude.{is_some}
use Rattle.zb_cursor.specs.Spelling.{short, eui}
use Rattle.zb_cursor.specs.Reading.{short_at, eui_at}
use Rattle.zb_cursor.proofs.ReadAgain.{wide16, wide32, wide64, number_again, short_again, eui_again, key_again, optional_again}
use Rattle.zb_cursor.proofs.Times.{times_again}
use Rattle.zb_cursor.proofs.laws.spelled_is_read.Goals as goal

pub returns-clause-number16 : goal.returns-clause-number16
returns-clause-number16 g c = λ cut n rest lt. number_again cut w16 (2 ^ 16) wide16 n rest lt

pub returns-clause-number32 : goal.returns-clause-number32
returns-clause-number32 g c = λ cut n rest lt. number_again cut w32 (2 ^ 32) wide32 n rest lt

pub returns-clause-number64 : goal.returns-clause-number64
returns-clause-number64 g c = λ cut n rest lt. number_again cut w64 (2 ^ 64) wide64 n rest lt

pub returns-clause-short : goal.returns-clause-short
returns-clause-short g c = λ cut s rest lt. short_again cut s rest lt

pub returns-clause-eui : goal.returns-clause-eui
returns-clause-eui g c = λ cut e rest lt. eui_again cut e rest lt

pub returns-clause-key : goal.returns-clause-key
returns-clause-key g c = λ cut k rest len. key_again cut k rest len

pub returns-clause-optional : goal.returns-clause-optional
returns-clause-optional g c = λ cut o rest fits. optional_again cut eui eui_at (λ e. e.0 < 2 ^ 64)
    (λ x rest lt. eui_again cut x rest lt) (is_some o) o rest refl fits

pub returns-clause-times : goal.returns-clause-times
returns-clause-times g c = λ cut xs rest fits. times_again cut short short_at (λ s. s.0 < 2 ^ 16)
    (λ x rest lt. short_again cut x rest lt) xs rest fits
