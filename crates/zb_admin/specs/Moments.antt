-- The moments of a whole script: what a crash at each of them leaves on the disk, and what was written by then.
use Rattle.std.specs.Prelude.{ℕ, ◌≡◌, ◌⊎◌, true, List, [], ◌∷◌, take, drop, Option}
use Rattle.std.specs.Io.KnownBytes.{Appends}
use Rattle.zb_centre_store.specs.Calls.{WasThereOrEmpty}
use Rattle.zb_admin.specs.Commands.{lays_out}
use Rattle.zb_centre_store.specs.Outside.{Outside}
use Rattle.zb_admin.specs.Served.{HasChanges, served, served_text}
use Rattle.zb_centre_store.specs.Standing.{StandsAs}
use Rattle.zb_base.specs.Outside.{AppendsFront}
use Rattle.zb_disk.specs.View.{LeavesOnly}
use Rattle.zb_model.specs.Data.{Bytes}
use Rattle.zb_model.specs.Rules.{Setting}
use Rattle.zb_model.specs.State.{NodeState}
use Rattle.zb_script.specs.declared.script.Step.{Step}

-- what stands after the first `n` commands of a script, and what they write
abbrev pub standing_after : Setting → List Step → Option NodeState → ℕ → Option NodeState
standing_after c steps first n = (served c (take n steps) first).after

abbrev pub text_after : Setting → List Step → Option NodeState → ℕ → Bytes
text_after c steps first n = served_text c (take n steps) first

-- the disk and the output at a moment of the run
pub record Moment (D W : Type 0) : Type 0 where
  pub disk : D
  pub out : W

-- An image represents what stands after the first commands, as many as `commands` says, and all that was written by
-- then is a prefix of what these write. So each command is among them of whose lines a byte was written.
pub record Covers {D W : Type 0} (x : Outside D W) (c : Setting) (steps : List Step) (first : Option NodeState)
    (before out : W) (image : List ℕ) : Type 0 where
  pub commands : ℕ
  pub stands_so : StandsAs (standing_after c steps first commands) image
  pub written : AppendsFront (x.taken before) (x.taken out) (text_after c steps first commands)

-- What the first commands write was written, and the next one makes a new store: it is `init` or `restore`, and
-- nothing stands.
pub record MakesStore {D W : Type 0} (x : Outside D W) (c : Setting) (steps : List Step) (first : Option NodeState)
    (before out : W) : Type 0 where
  pub commands : ℕ
  pub written : Appends (x.taken before) (x.taken out) (text_after c steps first commands)
  pub step : Step
  pub rest : List Step
  pub comes_next : drop commands steps ≡ step ∷ rest
  pub makes : lays_out step.order (standing_after c steps first commands) ≡ true

-- The next command after the first ones has something to store: a store stands then, and the policy's answer in that
-- state has changes.
pub record IsWornAt (c : Setting) (steps : List Step) (first : Option NodeState) : Type 0 where
  pub commands : ℕ
  pub step : Step
  pub rest : List Step
  pub comes_next : drop commands steps ≡ step ∷ rest
  pub changes : HasChanges c step (standing_after c steps first commands)

-- From one moment of a run to a later one. Either the disk is called, and nothing is written; or something is written,
-- and the disk stays as it is. A crash at any moment in between leaves an image that covers what was written by then.
-- But nothing is said of the moments inside the calls of a command that makes a new store.
pub data Stretch {D W : Type 0} (x : Outside D W) (c : Setting) (steps : List Step) (first : Option NodeState)
    (before : W) (now next : Moment D W) : Type 0 where
  calls : next.out ≡ now.out → LeavesOnly (x.state now.disk) (x.state next.disk)
      (Covers x c steps first before next.out) → Stretch x c steps first before now next
  writes : (text : Bytes) → next.disk ≡ now.disk → Appends (x.taken now.out) (x.taken next.out) text
      → ((image : List ℕ) → (x.state next.disk).images image → Covers x c steps first before next.out image)
      → Stretch x c steps first before now next
  new_store : next.out ≡ now.out → MakesStore x c steps first before now.out → Stretch x c steps first before now next

-- from one moment over these to the last one
abbrev pub Goes : {D W : Type 0} → Outside D W → Setting → List Step → Option NodeState → W → Moment D W
    → List (Moment D W) → Moment D W → Type 0
Goes x c steps first before now [] last = last ≡ now
Goes x c steps first before now (next ∷ more) last = Stretch x c steps first before now next
    × Goes x c steps first before next more last

-- The whole run. While the store is opened nothing is written, and an image is empty or represents the same as some
-- image before. From then on the run goes to its end by stretches.
pub record IsRun {D W : Type 0} (x : Outside D W) (c : Setting) (steps : List Step) (first : Option NodeState)
    (old : D) (before : W) (new : D) (after : W) : Type 0 where
  pub opened : D
  pub opening : LeavesOnly (x.state old) (x.state opened) (WasThereOrEmpty (x.state old))
  pub moments : List (Moment D W)
  pub goes : Goes x c steps first before (record { disk = opened; out = before }) moments
      (record { disk = new; out = after })

-- An image that represents the same as some image before the call, or what stands after some first commands.
abbrev pub IsOfRun : {D W : Type 0} → Outside D W → Setting → List Step → Option NodeState → D → List ℕ → Type 0
IsOfRun x c steps first old image = WasThereOrEmpty (x.state old) image
    ⊎ ((n : ℕ) × StandsAs (standing_after c steps first n) image)
