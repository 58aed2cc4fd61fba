-- What the end of a command says of its status.
use Rattle.std.proofs.Common.{◌≡◌, ℕ, Option, None, Some, IfSome, subst}
use Rattle.zb_model.specs.Data.{Bytes}
use Rattle.zb_command.specs.Answers.{Answer}
use Rattle.zb_command.specs.Outcomes.{Ends, IsWritten, WritesFront}
use Rattle.zb_command.specs.declared.status.Status.{Status}
use Rattle.zb_command.specs.declared.status.Status.TheVariants as status

pub written : (s : Status) (wanted : Option Answer) (before after : Option Bytes) (old new : ℕ)
    → Ends s wanted before after old new → s ≡ status.Ok
    → IfSome wanted (λ answer. IsWritten answer before after)
written s wanted before after old new ends is = subst (λ (x : Status). Ends x wanted before after old new) is ends

if_all : {X : Type 0} (P : X → Type 0) (o : Option X) → ((x : X) → P x) → IfSome o P
if_all P None f = tt
if_all P (Some x) f = f x

pub front : (s : Status) (wanted : Option Answer) (before after : Option Bytes) (old new : ℕ)
    → Ends s wanted before after old new
    → IfSome wanted (λ answer. WritesFront s answer before after)
front status.Ok wanted before after old new ends = if_all (λ answer. WritesFront status.Ok answer before after) wanted
    (λ answer. tt)
front status.Usage wanted before after old new ends = absurd ends
front status.ReadFault wanted before after old new ends =
    if_all (λ answer. WritesFront status.ReadFault answer before after) wanted (λ answer. tt)
front status.WriteFault wanted before after old new ends = ends.0
front (status.Refused line cause) wanted before after old new ends =
    if_all (λ answer. WritesFront (status.Refused line cause) answer before after) wanted (λ answer. tt)
front status.NoMemory wanted before after old new ends = ends
front status.DiskFault wanted before after old new ends = absurd ends
front status.NoStore wanted before after old new ends = absurd ends
front (status.Broken line clause) wanted before after old new ends = absurd ends
front (status.BadStore at) wanted before after old new ends = absurd ends
front status.Worn wanted before after old new ends = absurd ends
front (status.TooLong limit) wanted before after old new ends =
    if_all (λ answer. WritesFront (status.TooLong limit) answer before after) wanted (λ answer. tt)
