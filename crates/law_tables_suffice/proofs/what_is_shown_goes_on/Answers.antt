-- Each change, accepted term and seal leaves a dropped row dropped.
use Rattle.law_change_fits.proofs.ShownApplied.{shown_applied}
use Rattle.law_tables_suffice.proofs.Answered.{answered_same, applied_same, boot_same, twice_same}
use Rattle.law_tables_suffice.proofs.what_is_shown_goes_on.Goals as goal

pub returns : goal.returns
returns c =
    record {
      answer = answered_same;
      change = shown_applied;
      changes = applied_same;
      boot = boot_same;
      again = twice_same;
    }
