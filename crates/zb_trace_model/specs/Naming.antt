-- The names of declared nodes.
use Rattle.std.specs.Prelude.{◌≡◌, ℕ, List, [], ◌∷◌, bytes_eq, true, false, is_some, Option, Some, None, ⊤}
use Rattle.std.specs.List.{AllByRecursion}
use Rattle.zb_model.specs.Data.{Bytes, Station}
use Rattle.zb_model.specs.Rules.{station_of}
use Rattle.zb_text.specs.Fields.{is_name}
use Rattle.zb_trace.specs.Views.{named}

abbrev pub name_or_none : Option Station → Bytes
name_or_none None = []
name_or_none (Some p) = p.name

-- the name of the first declared node of that EUI; no name where none has it
unfoldable pub name_of : List Station → ℕ → Bytes
name_of known n = name_or_none (station_of known n)

abbrev pub IsDeclared : List Station → ℕ → Type 0
IsDeclared known n = is_some (station_of known n) ≡ true

abbrev pub NamesDiffer : List Station → Type 0
NamesDiffer [] = ⊤
NamesDiffer (p ∷ more) = AllByRecursion (λ (q : Station). bytes_eq p.name q.name ≡ false) more × NamesDiffer more

-- Each node's name is a name, and no two nodes have the same one.
pub record AreNamed (known : List Station) : Type 0 where
  pub names : AllByRecursion (λ (p : Station). is_name p.name ≡ true) known
  pub differ : NamesDiffer known

-- The name is that of the node of this EUI, and of no node before it.
pub record IsCalled (known : List Station) (n : ℕ) (name : Bytes) : Type 0 where
  pub name_is : name_of known n ≡ name
  pub leads : named known name ≡ n
