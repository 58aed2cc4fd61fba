-- A device is admitted again at the end of a schedule's run. This is what the law asks of the two nodes before the
-- last events: eleven if the device is live at the centre, and ten if it isn't.
use Rattle.std.specs.Prelude.{ℕ, ◌≡◌, true, false, Some, None}
use Rattle.zb_model.specs.Data.{Aps, Bytes}
use Rattle.zb_model.specs.Play.{Schedule, setting_of}
use Rattle.zb_model.specs.Readings.{state_of}
use Rattle.zb_model.specs.Rules.{spent}
use Rattle.zb_model.specs.Schedules.{Names}
use Rattle.zb_model.specs.State.{LinkKey, code_row, is_centre, next_counter}
use Rattle.law_recovery.specs.Meeting.{HasNetwork}
use Rattle.law_recovery.specs.Entering.{why_no_row}
use Rattle.law_recovery.specs.Knowing.{MeetsKey}
use Rattle.law_recovery.specs.Rejoining.{why_not_taken}
use Rattle.law_recovery.specs.Fronts.{Front, IsReady}

-- The centre c of a schedule and a device d of it have power, and nothing is armed on their disks. The device has the
-- key of its code, which is entered. The centre has a network key that is new to the device, or that the device
-- knows. Nothing prevents the first five events.
pub record MayReadmit (w : Schedule) (x : Front) (c d : ℕ) (network : Bytes) (sequence : ℕ) (key : Bytes) : Type 0
  where
    pub centre_named : Names w c
    pub device_named : Names w d
    pub centre_role : is_centre (setting_of w c).me.role ≡ true
    pub device_role : is_centre (setting_of w d).me.role ≡ false
    pub centre_ready : IsReady x c
    pub device_ready : IsReady x d
    pub active : HasNetwork (state_of x.lines c) network sequence
    pub row_free : why_no_row (state_of x.lines c) d key ≡ None
    pub unspent : spent Aps (state_of x.lines c) ≡ false
    pub code : LinkKey
    pub has_code : code_row (state_of x.lines d) c ≡ Some code
    pub same_key : code.key ≡ key
    pub meets : MeetsKey (state_of x.lines d) network sequence
    pub not_refused : why_not_taken (state_of x.lines d) code (next_counter Aps (state_of x.lines c)) network ≡ None
