-- Who is found by the name of a declared node.
use Rattle.std.proofs.Common.{◌≡◌, ℕ, Bool, true, false, cond, List, [], ◌∷◌, find, Option, Some, None, nat_eq, refl, sym, ap, ◌∙◌, bytes_eq, codes}
use Rattle.std.specs.Prelude.{is_some, if◌then◌else◌}
use Rattle.std.specs.List.{AllByRecursion}
use Rattle.std.proofs.lemmas.Bool.{false≢true, eqb-true}
use Rattle.std.proofs.lemmas.Slice.Eq.{bytes_eq-Decides}
use Rattle.zb_model.specs.Data.{Bytes, Station}
use Rattle.zb_model.specs.Rules.{station_of}
use Rattle.zb_text.specs.Fields.{is_name}
use Rattle.zb_trace.specs.Views.{eui_or_nobody, named, sent_by}
use Rattle.zb_trace_model.specs.Naming.{name_or_none, name_of, IsDeclared, NamesDiffer, AreNamed, IsCalled}

-- what each node's name is, that of a declared one is

abbrev found_name : Bool → Station → Option Station → Bytes
found_name b p o = name_or_none (cond b (Some p) o)

with_first : (P : Bytes → Type 0) (p : Station) (o : Option Station) (b : Bool) → P p.name
    → (is_some o ≡ true → P (name_or_none o)) → is_some (cond b (Some p) o) ≡ true
    → P (found_name b p o)
with_first P p o true here more found = here
with_first P p o false here more found = more found

pub each_name : (P : Bytes → Type 0) (ps : List Station) (n : ℕ) → AllByRecursion (λ (p : Station). P p.name) ps
    → IsDeclared ps n → P (name_of ps n)
unfolding name_of station_of
each_name P [] n all found = absurd (false≢true found)
each_name P (p ∷ ps) n all found = with_first P p (station_of ps n) (nat_eq p.eui n) all.0 (each_name P ps n all.1)
    found

-- the node of that name is the declared one

others : (p : Station) (name : Bytes) (ps : List Station) (b : Bool) → b ≡ false
    → eui_or_nobody (cond b (Some p) (find (λ (s : Station). bytes_eq s.name name) ps)) ≡ named ps name
unfolding named
others p name ps b e = rw e refl

itself : (p : Station) (ps : List Station) (b : Bool) → b ≡ true
    → eui_or_nobody (cond b (Some p) (find (λ (s : Station). bytes_eq s.name p.name) ps)) ≡ p.eui
itself p ps b e = rw e refl

abbrev name_differs : Station → Bytes → Type 0
name_differs p name = bytes_eq p.name name ≡ false

by_first : (p : Station) (ps : List Station) (n : ℕ) (b : Bool) → nat_eq p.eui n ≡ b
    → (is_some (station_of ps n) ≡ true → name_differs p (name_of ps n))
    → (is_some (station_of ps n) ≡ true → named ps (name_of ps n) ≡ n) → is_some (cond b (Some p) (station_of ps n))
    ≡ true
    → named (p ∷ ps) (found_name b p (station_of ps n)) ≡ n
unfolding named name_of
by_first p ps n true e differs more found =
    itself p ps (bytes_eq p.name p.name) ((bytes_eq-Decides p.name p.name).1 refl) ∙ eqb-true p.eui n e
by_first p ps n false e differs more found = others p (name_of ps n) ps (bytes_eq p.name (name_of ps n))
    (differs found) ∙ more found

pub named_again : (ps : List Station) (n : ℕ) → NamesDiffer ps → IsDeclared ps n → named ps (name_of ps n) ≡ n
unfolding name_of station_of
named_again [] n differ found = absurd (false≢true found)
named_again (p ∷ ps) n differ found =
    by_first p ps n (nat_eq p.eui n) refl (each_name (name_differs p) ps n differ.0) (named_again ps n differ.1) found

pub is_called : (known : List Station) → AreNamed known → (n : ℕ) → IsDeclared known n
    → IsCalled known n (name_of known n)
is_called known fits n found = record { name_is = refl; leads = named_again known n fits.differ found }

-- a node's name isn't the sign for an outsider

pub not_dash : (name : Bytes) (b : Bool) → bytes_eq name (codes "-") ≡ b → is_name name ≡ true → b ≡ false
not_dash name true e fits = absurd (false≢true (sym (ap is_name ((bytes_eq-Decides name (codes "-")).0 e)) ∙ fits))
not_dash name false e fits = refl

pub nobody_again : (known : List Station) → sent_by known (codes "-") ≡ None
unfolding sent_by
nobody_again known = refl

abbrev chosen : Bool → ℕ → Option ℕ
chosen b n = if b then None else Some n

pub sent_again : (known : List Station) → AreNamed known → (n : ℕ) → IsDeclared known n
    → sent_by known (name_of known n) ≡ Some n
unfolding sent_by
sent_again known fits n found =
    ap (λ b. chosen b (named known (name_of known n)))
    (not_dash (name_of known n) (bytes_eq (name_of known n) (codes "-")) refl
    (each_name (λ name. is_name name ≡ true) known n fits.names found))
    ∙ ap Some (named_again known n fits.differ found)
