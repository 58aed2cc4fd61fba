-- Which of the declared nodes is found, by a test that one of them passes.
use Rattle.std.proofs.Common.{◌≡◌, ℕ, Bool, true, false, cond, List, [], ◌∷◌, find, Option, Some, nat_eq, refl, sym, ◌∙◌, eq-eqb}
use Rattle.std.specs.Prelude.{is_some}
use Rattle.std.specs.List.{AllByRecursion}
use Rattle.std.proofs.lemmas.Bool.{false≢true}
use Rattle.zb_model.specs.Data.{Station, nobody}
use Rattle.zb_model.specs.Rules.{eui_or, station_of as model_station}
use Rattle.zb_sched.specs.Valid.{Pairwise}

-- the EUI of the first node that passes the test
abbrev pub first_by : (Station → Bool) → List Station → ℕ
first_by test ps = eui_or nobody (find test ps)

or_later : (p : Station) (o : Option Station) (b : Bool) → is_some o ≡ true → is_some (cond b (Some p) o) ≡ true
or_later p o true e = refl
or_later p o false e = e

declared_by : (test : Station → Bool) (p : Station) (ps : List Station) (b : Bool) → test p ≡ b
    → (is_some (find test ps) ≡ true → is_some (find (λ (q : Station). nat_eq q.eui (first_by test ps)) ps) ≡ true)
    → is_some (cond b (Some p) (find test ps)) ≡ true
    → is_some (find (λ (q : Station). nat_eq q.eui (eui_or nobody (cond b (Some p) (find test ps)))) (p ∷ ps)) ≡ true
declared_by test p ps true e more found = rw (eq-eqb p.eui p.eui refl) refl
declared_by test p ps false e more found =
    or_later p (find (λ (q : Station). nat_eq q.eui (first_by test ps)) ps) (nat_eq p.eui (first_by test ps))
    (more found)

pub declared : (test : Station → Bool) (ps : List Station) → is_some (find test ps) ≡ true
    → is_some (model_station ps (first_by test ps)) ≡ true
unfolding model_station
declared test [] found = absurd (false≢true found)
declared test (p ∷ ps) found = declared_by test p ps (test p) refl (declared test ps) found

-- if at most one node passes the test, each that does is the one that is found
abbrev pub NotBoth : (Station → Bool) → Station → Station → Type 0
NotBoth test p q = test p ≡ true → test q ≡ true → ⊥

none_but_first : (test : Station → Bool) (p : Station) (qs : List Station) → test p ≡ true
    → AllByRecursion (NotBoth test p) qs
    → AllByRecursion (λ q. test q ≡ true → q.eui ≡ p.eui) qs
none_but_first test p [] e apart = tt
none_but_first test p (q ∷ qs) e apart = (λ f. absurd (apart.0 e f), none_but_first test p qs e apart.1)

the_one_by : (test : Station → Bool) (p : Station) (ps : List Station) (b : Bool) → test p ≡ b
    → AllByRecursion (NotBoth test p) ps
    → AllByRecursion (λ q. test q ≡ true → q.eui ≡ first_by test ps) ps
    → AllByRecursion (λ q. test q ≡ true → q.eui ≡ eui_or nobody (cond b (Some p) (find test ps))) (p ∷ ps)
the_one_by test p ps true e apart more = (λ f. refl, none_but_first test p ps e apart)
the_one_by test p ps false e apart more = (λ f. absurd (false≢true (sym e ∙ f)), more)

pub the_one : (test : Station → Bool) (ps : List Station) → Pairwise (NotBoth test) ps
    → AllByRecursion (λ q. test q ≡ true → q.eui ≡ first_by test ps) ps
the_one test [] apart = tt
the_one test (p ∷ ps) apart = the_one_by test p ps (test p) refl apart.0 (the_one test ps apart.1)

-- if EUIs differ, a node with the EUI of the one that is found passes the test too
abbrev pub EuisDiffer : Station → Station → Type 0
EuisDiffer p q = p.eui ≡ q.eui → ⊥

not_the_found_by : (test : Station → Bool) (p q : Station) (qs : List Station) (b : Bool) → EuisDiffer p q
    → (is_some (find test qs) ≡ true → p.eui ≡ first_by test qs → ⊥)
    → is_some (cond b (Some q) (find test qs)) ≡ true → p.eui ≡ eui_or nobody (cond b (Some q) (find test qs)) → ⊥
not_the_found_by test p q qs true differ more found same = differ same
not_the_found_by test p q qs false differ more found same = more found same

not_the_found : (test : Station → Bool) (p : Station) (qs : List Station) → AllByRecursion (EuisDiffer p) qs
    → is_some (find test qs) ≡ true → p.eui ≡ first_by test qs → ⊥
not_the_found test p [] differ found same = false≢true found
not_the_found test p (q ∷ qs) differ found same = not_the_found_by test p q qs (test q) differ.0
    (not_the_found test p qs differ.1) found same

none_has : (test : Station → Bool) (p : Station) (qs : List Station) → AllByRecursion (EuisDiffer p) qs
    → AllByRecursion (λ q. q.eui ≡ p.eui → test q ≡ true) qs
none_has test p [] differ = tt
none_has test p (q ∷ qs) differ = (λ same. absurd (differ.0 (sym same)), none_has test p qs differ.1)

passes_by : (test : Station → Bool) (p : Station) (ps : List Station) (b : Bool) → test p ≡ b
    → AllByRecursion (EuisDiffer p) ps
    → (is_some (find test ps) ≡ true → AllByRecursion (λ q. q.eui ≡ first_by test ps → test q ≡ true) ps)
    → is_some (cond b (Some p) (find test ps)) ≡ true
    → AllByRecursion (λ q. q.eui ≡ eui_or nobody (cond b (Some p) (find test ps)) → test q ≡ true) (p ∷ ps)
passes_by test p ps true e differ more found = (λ same. e, none_has test p ps differ)
passes_by test p ps false e differ more found =
    (λ same. absurd (not_the_found test p ps differ found same), more found)

pub passes : (test : Station → Bool) (ps : List Station) → Pairwise EuisDiffer ps → is_some (find test ps) ≡ true
    → AllByRecursion (λ q. q.eui ≡ first_by test ps → test q ≡ true) ps
passes test [] differ found = tt
passes test (p ∷ ps) differ found = passes_by test p ps (test p) refl differ.0 (passes test ps differ.1) found
