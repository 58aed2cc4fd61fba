-- What the laws about runs ask of a schedule, as one record. Every schedule that is read from a text meets it.
use Rattle.zb_model.specs.Play.{Schedule}
use Rattle.zb_model.specs.Schedules.{IsSchedule}
use Rattle.law_run.specs.Commanding.{OneCentre}
use Rattle.law_run.specs.KeysApart.{KeysApart}

pub record Premises (w : Schedule) : Type 0 where
  -- events of declared nodes; EUIs, blocks and limits at the start in their ranges
  pub schedule : IsSchedule w
  -- each node that is declared as a centre has the centre's EUI
  pub one_centre : OneCentre w
  -- the keys of the schedule are different keys
  pub keys : KeysApart w
