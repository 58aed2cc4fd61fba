-- What the end of any command says of its status.
use Rattle.std.proofs.Common.{ℕ, Option, IfSome}
use Rattle.zb_model.specs.Data.{Bytes}
use Rattle.zb_command.specs.Answers.{wanted}
use Rattle.zb_command.specs.Commands.{Invocation, Playing, Installing, Making, Inspecting, Sniffing, Campaigning, Auditing, Serving}
use Rattle.zb_command.specs.Finishing.{Finishes}
use Rattle.zb_command.specs.Outcomes.{WritesFront}
use Rattle.zb_command.specs.declared.status.Status.{Status}
use Rattle.zb_command.proofs.Completeness as ends

pub front : (t : Invocation) (s : Status) (rest before after : Option Bytes) (old new : ℕ)
    → Finishes t s rest before after old new
    → IfSome (wanted t rest) (λ answer. WritesFront s answer before after)
front Playing s rest before after old new f = ends.front s (wanted Playing rest) before after old new f
front (Installing code) s rest before after old new f = ends.front s (wanted (Installing code) rest) before after old
    new f
front (Making count) s rest before after old new f = ends.front s (wanted (Making count) rest) before after old new f
front (Inspecting jobs) s rest before after old new f = ends.front s (wanted (Inspecting jobs) rest) before after old
    new f
front (Sniffing jobs keys) s rest before after old new f = ends.front s (wanted (Sniffing jobs keys) rest) before
    after old new f
front (Campaigning count start jobs) s rest before after old new f =
    ends.front s (wanted (Campaigning count start jobs) rest) before after old new f
front Auditing s rest before after old new f = tt
front Serving s rest before after old new f = tt
