-- Where nothing failed, the input and the store give the status.
use Rattle.std.proofs.Common.{◌≡◌, ℕ, Ok, IsTrue, Option, None, Some, IfSome, refl}
use Rattle.zb_admin.specs.Serving.{Ended, Outside}
use Rattle.zb_base.specs.Outside.{Rose}
use Rattle.zb_model.specs.Data.{Bytes}
use Rattle.zb_command.specs.Auditing.{Audits}
use Rattle.zb_command.specs.Serving.{IsServed, Serviced}
use Rattle.zb_command.specs.Settled.{AdminGives, AuditGives, IsScriptIn}
use Rattle.zb_command.specs.declared.status.Status.{Status}
use Rattle.zb_command.specs.declared.status.Status.TheVariants as status

pub audit_gives : (s : Status) (rest before after : Option Bytes) (old new first last : ℕ)
    → Audits s rest before after old new → (s ≡ status.ReadFault → Rose first last) → (Rose first last → ⊥)
    → (Rose old new → ⊥) → IfSome rest (λ input. AuditGives input s)
audit_gives s None before after old new first last a read none write = tt
audit_gives status.Ok (Some input) before after old new first last a read none write = (a.0, (a.1.0, a.1.1))
audit_gives status.Usage (Some input) before after old new first last a read none write = absurd a
audit_gives status.ReadFault (Some input) before after old new first last a read none write =
    absurd (none (read refl))
audit_gives status.WriteFault (Some input) before after old new first last a read none write = absurd (write a.1)
audit_gives (status.Refused line c) (Some input) before after old new first last a read none write = (a.0, a.1)
audit_gives status.NoMemory (Some input) before after old new first last a read none write = tt
audit_gives status.DiskFault (Some input) before after old new first last a read none write = absurd a
audit_gives status.NoStore (Some input) before after old new first last a read none write = absurd a
audit_gives (status.TooLong limit) (Some input) before after old new first last a read none write = (a.0, a.1)
audit_gives (status.Broken line clause) (Some input) before after old new first last a read none write = a.0
audit_gives (status.BadStore at) (Some input) before after old new first last a read none write = absurd a
audit_gives status.Worn (Some input) before after old new first last a read none write = absurd a

script_in_it : {D W : Type 0} (x : Outside D W) (input : Bytes) (old : D) (before : W) (result : Ended) (new : D)
    (after : W) → IsServed x (Some input) old before result new after → IsScriptIn input
script_in_it x input old before result new after one = (one.short, (one.script, one.reads))

pub admin_gives : {D W : Type 0} (x : Outside D W) (s : Status) (rest : Option Bytes) (old : D) (before : W) (new : D)
    (after : W) (first last : ℕ) → Serviced x s rest old before new after → IsTrue x.tells.content
    → (s ≡ status.ReadFault → Rose first last) → (Rose first last → ⊥)
    → (Rose (x.faults before) (x.faults after) → ⊥) → (Rose (x.state old).faults (x.state new).faults → ⊥)
    → IfSome rest (λ input. AdminGives x input old new s)
admin_gives x s None old before new after first last a told read none write disk = tt
admin_gives x status.Ok (Some input) old before new after first last a told read none write disk =
    (script_in_it x input old before (Ok tt) new after a, a.serves.found told)
admin_gives x status.Usage (Some input) old before new after first last a told read none write disk = absurd a
admin_gives x status.ReadFault (Some input) old before new after first last a told read none write disk =
    absurd (none (read refl))
admin_gives x status.WriteFault (Some input) old before new after first last a told read none write disk =
    absurd (write a.serves.faults.0)
admin_gives x (status.Refused line c) (Some input) old before new after first last a told read none write disk = a.0
admin_gives x status.NoMemory (Some input) old before new after first last a told read none write disk = tt
admin_gives x status.DiskFault (Some input) old before new after first last a told read none write disk =
    absurd (disk a.serves.faults)
admin_gives x status.NoStore (Some input) old before new after first last a told read none write disk =
    (script_in_it x input old before _ new after a, (a.serves.faults told).0)
admin_gives x (status.TooLong limit) (Some input) old before new after first last a told read none write disk = a.0
admin_gives x (status.Broken line clause) (Some input) old before new after first last a told read none write disk =
    absurd a
admin_gives x (status.BadStore at) (Some input) old before new after first last a told read none write disk =
    (script_in_it x input old before _ new after a, (a.serves.faults told).0)
admin_gives x status.Worn (Some input) old before new after first last a told read none write disk = (
  (a.short, (a.script, a.reads, λ can standing is. (a.serves.worn refl told can standing is).0)),
  (a.serves.faults told).0,
  (a.serves.faults told).1,
)
