-- What every script keeps while it is read.
use Rattle.std.specs.Prelude.{◌≡◌, ◌≤◌, List, [], ◌∷◌, length, true, ⊤}
use Rattle.std.specs.List.{AllByRecursion}
use Rattle.zb_base.specs.Config.{ApartBy}
use Rattle.zb_base.specs.declared.node.Role.TheVariants.{Centre}
use Rattle.zb_sched.specs.Judge.{are_blocks}
use Rattle.zb_script.specs.Grammar.{is_joiner}
use Rattle.zb_script.specs.Judge.{has_centre}
use Rattle.zb_script.specs.Said.{Sentence, Quiet, Founds, Introduces, Begins, Provisions, Removes, Lists, BacksUp, Restores}
use Rattle.zb_script.specs.Scripts.{Station, Script, IsStep}
use Rattle.zb_base.specs.Limits.{most_steps}

-- the centre stands first, and the others are routers and devices
abbrev pub AreLed : List Station → Type 0
AreLed [] = ⊤
AreLed (first ∷ others) = (first.role ≡ Centre) × AllByRecursion (λ station. is_joiner station.role ≡ true) others

pub record IsSoFar (s : Script) : Type 0 where
  pub names : ApartBy (λ (station : Station). station.name) s.stations
  pub euis : ApartBy (λ (station : Station). station.eui) s.stations
  pub shorts : ApartBy (λ (station : Station). station.short) s.stations
  pub led : AreLed s.stations
  pub blocks : has_centre s ≡ true → are_blocks s.out_block s.in_block ≡ true
  pub few : length s.steps ≤ most_steps
  pub steps : AllByRecursion IsStep s.steps

-- a peer is a router or a device
abbrev pub Joins : Sentence → Type 0
Joins Quiet = ⊤
Joins (Founds name eui out_block in_block) = ⊤
Joins (Introduces name role eui short) = is_joiner role ≡ true
Joins (Begins key) = ⊤
Joins (Provisions name code) = ⊤
Joins (Removes name parent) = ⊤
Joins Lists = ⊤
Joins BacksUp = ⊤
Joins (Restores skip json) = ⊤
