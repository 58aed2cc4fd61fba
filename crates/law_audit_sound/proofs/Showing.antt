-- What printed lines show of keys, whatever the names of their nodes.
use Rattle.std.proofs.Common.{◌≡◌, ℕ, suc, Bool, true, false, cond, List, [], ◌∷◌, ◌++◌, flat_map, length, refl, ap, ◌∙◌}
use Rattle.std.specs.List.{AllByRecursion, list_any}
use Rattle.zb_audit_names.specs.Secrets as audit
use Rattle.law_audit_groups.specs.Printing.{printed}
use Rattle.zb_audit_lockout.specs.Lockout as lockout
use Rattle.zb_model.specs.Claims as claims
use Rattle.zb_model.specs.Data as model
use Rattle.zb_model.specs.Data.{Bytes, Station, Term}
use Rattle.zb_model.specs.Lines as log
use Rattle.zb_model.specs.Secrets as secrets
use Rattle.zb_model.specs.Tools.{Tools}
use Rattle.zb_trace_model.specs.Said.{line_for}
use Rattle.zb_trace_model.proofs.Parts.{term_again}
use Rattle.zb_trace.specs.declared.line.Line.{Line}
use Rattle.law_audit_sound.specs.Agreeing.{ShowSame}

-- ---- lists

pub printed_snoc : (known : List Station) (h : List log.Line) (m : log.Line) → printed known h ++ line_for known m
    ∷ [] ≡ printed known (h ++ m ∷ [])
printed_snoc known [] m = refl
printed_snoc known (x ∷ h) m = ap (λ ls. line_for known x ∷ ls) (printed_snoc known h m)

printed_length : (known : List Station) (h : List log.Line) → length (printed known h) ≡ length h
printed_length known [] = refl
printed_length known (m ∷ h) = ap suc (printed_length known h)

-- what is true of each line is true of all of them
pub flat_each : {A : Type 0} (known : List Station) (f : Line → List A) (g : log.Line → List A)
    → ((m : log.Line) → f (line_for known m) ≡ g m) → (h : List log.Line) → flat_map f (printed known h) ≡ flat_map g h
flat_each known f g each [] = refl
flat_each known f g each (m ∷ h) = ap (λ xs. xs ++ flat_map f (printed known h)) (each m) ∙ ap (λ xs. g m ++ xs)
    (flat_each known f g each h)

pub flat_where : {A : Type 0} (known : List Station) (P : log.Line → Type 0) (f : Line → List A)
    (g : log.Line → List A) → ((m : log.Line) → P m → f (line_for known m) ≡ g m)
    → (h : List log.Line) → AllByRecursion P h → flat_map f (printed known h) ≡ flat_map g h
flat_where known P f g each [] all = refl
flat_where known P f g each (m ∷ h) all = ap (λ xs. xs ++ flat_map f (printed known h)) (each m all.0) ∙ ap
    (λ xs. g m ++ xs) (flat_where known P f g each h all.1)

-- ---- lines

terms_line : (known : List Station) (m : log.Line) → audit.terms_in (line_for known m) ≡ secrets.terms_in m
unfolding line_for
terms_line known (log.Seal event n t) = ap (λ u. u ∷ []) (term_again t)
terms_line known (log.Forge event t) = ap (λ u. u ∷ []) (term_again t)
terms_line known (log.Changed event n (model.Moved (model.Draw key))) = refl
terms_line known _ = refl

forged_line : (known : List Station) (m : log.Line) → audit.forged_in (line_for known m) ≡ secrets.forged_in m
unfolding line_for
forged_line known (log.Forge event t) = ap (λ u. u ∷ []) (term_again t)
forged_line known (log.Changed event n (model.Moved (model.Draw key))) = refl
forged_line known _ = refl

removed_line : (known : List Station) (m : log.Line) → audit.removed_in (line_for known m) ≡ secrets.removed_in m
unfolding line_for
removed_line known (log.Changed event n (model.Moved (model.Removed device))) = refl
removed_line known _ = refl

network_line : (known : List Station) (m : log.Line) → audit.network_in (line_for known m) ≡ secrets.network_in m
unfolding line_for
network_line known (log.GivenNet n key sequence) = refl
network_line known (log.GivenLink n partner key) = refl
network_line known (log.Changed event n (model.Moved (model.Draw key))) = refl
network_line known (log.Changed event n (model.Moved (model.Row partner key model.Provisional))) = refl
network_line known (log.Changed event n (model.Moved (model.Row partner key model.Unverified))) = refl
network_line known (log.Changed event n (model.Moved (model.Row partner key model.Verified))) = refl
network_line known _ = refl

drawn_line : (known : List Station) (m : log.Line) → lockout.drawn_in (line_for known m) ≡ claims.drawn_in m
unfolding line_for
drawn_line known (log.Changed event n (model.Moved (model.Draw key))) = refl
drawn_line known _ = refl

admits_line : (known : List Station) (d : ℕ) (m : log.Line) → lockout.admits d (line_for known m)
    ≡ claims.is_live_line d m
unfolding line_for
admits_line known d (log.Changed event n (model.Moved (model.Live device))) = refl
admits_line known d _ = refl

-- ---- lists of lines

pub terms_same : (known : List Station) (h : List log.Line) → audit.terms_of (printed known h) ≡ secrets.terms_of h
unfolding audit.terms_of secrets.terms_of
terms_same known h = flat_each known audit.terms_in secrets.terms_in (terms_line known) h

pub removed_same : (known : List Station) (h : List log.Line) → audit.removed_devices (printed known h)
    ≡ secrets.removed_devices h
unfolding audit.removed_devices secrets.removed_devices
removed_same known h = flat_each known audit.removed_in secrets.removed_in (removed_line known) h

network_same : (known : List Station) (h : List log.Line) → audit.network_keys (printed known h)
    ≡ secrets.network_keys h
unfolding audit.network_keys secrets.network_keys
network_same known h = flat_each known audit.network_in secrets.network_in (network_line known) h

passed_same : (tools : Tools) (known : List Station) (h : List log.Line) → audit.passes_on tools (printed known h)
    ≡ secrets.passes_on tools h
unfolding audit.passes_on secrets.passes_on
passed_same tools known h =
    ap (λ keys. list_any (λ (t : Term). secrets.holds_some keys (secrets.carried tools t))
    (flat_map audit.forged_in (printed known h))) (network_same known h)
    ∙ ap (list_any (λ (t : Term). secrets.holds_some (secrets.network_keys h) (secrets.carried tools t)))
    (flat_each known audit.forged_in secrets.forged_in (forged_line known) h)

pub exposed_same : (tools : Tools) (known : List Station) (h : List log.Line) (from : List Bytes)
    → audit.exposed tools (printed known h) from ≡ secrets.exposed tools h from
unfolding audit.exposed secrets.exposed
exposed_same tools known h from =
    ap (λ n. secrets.rounds n tools (audit.terms_of (printed known h)) from) (printed_length known h) ∙ ap
    (λ ts. secrets.rounds (length h) tools ts from) (terms_same known h)

until_same : (known : List Station) (d : ℕ) (h : List log.Line) → lockout.until_live d (printed known h)
    ≡ printed known (claims.until_live d h)
until_same known d [] = refl
until_same known d (m ∷ h) =
    ap (λ b. cond b [] (line_for known m ∷ lockout.until_live d (printed known h))) (admits_line known d m) ∙ by_test
    (claims.is_live_line d m) (until_same known d h)
  where
    by_test : (b : Bool) → lockout.until_live d (printed known h) ≡ printed known (claims.until_live d h)
        → cond b [] (line_for known m ∷ lockout.until_live d (printed known h))
        ≡ printed known (cond b [] (m ∷ claims.until_live d h))
    by_test true more = refl
    by_test false more = ap (λ ls. line_for known m ∷ ls) more

pub show_same : (tools : Tools) (known : List Station) (h : List log.Line) → ShowSame tools known h
show_same tools known h = record {
  terms = terms_same known h;
  forged = flat_each known audit.forged_in secrets.forged_in (forged_line known) h;
  passed_on = passed_same tools known h;
  removed = removed_same known h;
  network = network_same known h;
  drawn = flat_each known lockout.drawn_in claims.drawn_in (drawn_line known) h;
  exposed = exposed_same tools known h;
  until_live = λ d. until_same known d h;
}
