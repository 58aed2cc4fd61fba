-- Which frame control a forged content has.
use Rattle.std.proofs.Common.{◌≡◌, ℕ, List, Ok, Err, refl}
use Rattle.zb_cmd.specs.Reading.{leave_of}
use Rattle.zb_cmd.specs.declared.fault.CmdError.{CmdError}
use Rattle.zb_cmd.specs.declared.fault.CmdError.TheVariants as fault
use Rattle.zb_cmd.specs.declared.leave.Leave.{Leave}
use Rattle.zb_model.specs.Frames.{leave_frame, secured_frame}
use Rattle.zb_model.specs.Play.{forged_control}
use Rattle.zb_model_real.specs.Real.{real}

pub of_leave : (content : List ℕ) (l : Leave) → leave_of content ≡ Ok l → forged_control real content ≡ leave_frame
unfolding real
of_leave content l e = rw e refl

pub of_data : (content : List ℕ) (e : CmdError) → leave_of content ≡ Err e → forged_control real content
    ≡ secured_frame
unfolding real
of_data content (fault.Unknown id) e = rw e refl
of_data content (fault.KeyType found) e = rw e refl
of_data content (fault.Short at) e = rw e refl
of_data content (fault.Trailing count) e = rw e refl
