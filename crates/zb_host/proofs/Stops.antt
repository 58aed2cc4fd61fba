-- What stands after a commit that was stopped, once the power is back.
use Rattle.std.proofs.Common.{◌≡◌, ◌&&◌, List, ℕ, Bool, true, false, if◌then◌else◌}
use Rattle.zb_disk.specs.View.{Telling, View}
use Rattle.zb_store.specs.Layout.{Standing, IsWhole}
use Rattle.zb_store.specs.Steps.{StoppedWithin}
use Rattle.zb_store.specs.Store.{AppendStop, PutStop, appended, replaced}
use Rattle.zb_host.specs.Hosts.{Restoring, Gives, AnswersOn, next_standing, commit_calls, CommitStop}
use Rattle.zb_host.proofs.Lives.{same_standing, same_record}

pub stands_then : (tells : Telling) (whole b : Bool) (s : Standing) (content payload bytes : List ℕ) (old new : View)
    → (AppendStop tells s payload old new → IsWhole (if b then appended s payload else s) bytes)
    → (PutStop tells s content old new → IsWhole (if b then replaced s content else s) bytes)
    → CommitStop tells whole s content payload old new → IsWhole (if b then next_standing whole s content payload
    else s) bytes
stands_then tells true b s content payload bytes old new append put stop = put stop
stands_then tells false b s content payload bytes old new append put stop = append stop

pub within_then : (tells : Telling) (whole : Bool) (s : Standing) (content payload : List ℕ) (old new : View)
    → (AppendStop tells s payload old new → StoppedWithin tells 4 old new)
    → (PutStop tells s content old new → StoppedWithin tells 6 old new)
    → CommitStop tells whole s content payload old new → StoppedWithin tells (commit_calls whole) old new
within_then tells true s content payload old new append put stop = put stop
within_then tells false s content payload old new append put stop = append stop

pub gates_then : (tells : Telling) (whole b both : Bool) (s : Standing) (content payload : List ℕ) (old new : View)
    → (AppendStop tells s payload old new → both ≡ false) → (PutStop tells s content old new → both ≡ b)
    → CommitStop tells whole s content payload old new → both ≡ (whole && b)
gates_then tells true b both s content payload old new append put stop = put stop
gates_then tells false b both s content payload old new append put stop = append stop

pub booted_then : (restored : Restoring) (before after booted bytes : List ℕ) (s next : Standing) (b : Bool)
    → Gives restored s before → Gives restored next after
    → IsWhole (if b then next else s) bytes → AnswersOn restored bytes booted → booted ≡ (if b then after else before)
booted_then restored before after booted bytes s next true old new whole answer =
    same_record restored answer.0 next booted after (same_standing answer.0 next bytes answer.1 whole.stands) answer.2
    new
booted_then restored before after booted bytes s next false old new whole answer =
    same_record restored answer.0 s booted before (same_standing answer.0 s bytes answer.1 whole.stands) answer.2 old
