-- Which nodes hold which keys, by names and by addresses.
use Rattle.std.proofs.Common.{◌≡◌, ℕ, ◌&&◌, ◌||◌, cond, List, [], ◌∷◌, ◌++◌, fold, flat_map, nat_eq, refl, sym, ap, ◌∙◌, subst}
use Rattle.std.specs.List.{list_any}
use Rattle.zb_audit_names.specs.Naming.{declared_in, declares, is_centres, is_of}
use Rattle.zb_audit_names.specs.Secrets as audit
use Rattle.law_audit_groups.specs.Printing.{printed}
use Rattle.zb_audit_lockout.specs.Lockout as lockout
use Rattle.zb_model.specs.Claims as claims
use Rattle.zb_model.specs.Data as model
use Rattle.zb_model.specs.Data.{Bytes, Station, Term}
use Rattle.zb_model.specs.Lines as log
use Rattle.zb_model.specs.Readings.{station_line, stations_of}
use Rattle.zb_model.specs.Secrets as secrets
use Rattle.zb_model.specs.Tools.{Tools}
use Rattle.law_run.proofs.Basics.{append-nil'}
use Rattle.zb_trace_model.specs.Naming.{IsDeclared, NamesDiffer, name_of}
use Rattle.zb_trace_model.specs.Said.{IsOfNodes, line_for}
use Rattle.zb_trace_model.proofs.Parts.{term_again}
use Rattle.law_audit_sound.specs.Agreeing.{HoldSame}
use Rattle.law_audit_sound.proofs.Leading.{Begins, Leads, TellsApart, all_of_nodes, begins_left, by_line, centres_same, declared_same, declares_same, leads_right, named_same, tells_apart, whose_same}
use Rattle.law_audit_sound.proofs.Showing.{flat_where, removed_same, terms_same}

-- ---- after all node lines

-- The names and addresses of all nodes differ, so a name has the address of its node.
record AreApart (known : List Station) : Type 0 where
  own : (n d : ℕ) → IsDeclared known n → is_of known d (name_of known n) ≡ nat_eq n d
  centre : (n : ℕ) → IsDeclared known n → is_centres known (name_of known n) ≡ secrets.is_the_centre known n

are_apart : (known : List Station) (h : List log.Line) → Begins known h → AreApart known
are_apart known h b =
    let all : known ≡ known ++ [] = sym (append-nil' known) in
    record {
      own = λ n d its. whose_same known (name_of known n) n d (named_same known known n b.named.differ ([], all) its)
          ∙ ap (λ x. x && nat_eq n d) its;
      centre = λ n its. centres_same known known n b.named b.apart ([], all) its;
    }

-- ---- what a node ever held

held_line : (known : List Station) → AreApart known → (d : ℕ) (m : log.Line) → IsOfNodes known m
    → audit.held_by d known (line_for known m) ≡ secrets.ever_in known d m
unfolding line_for
held_line known a d (log.GivenNet n key sequence) is = ap (λ b. cond b (key ∷ []) []) (a.own n d is)
held_line known a d (log.GivenLink n partner key) is = ap (λ b. cond b (key ∷ []) []) (a.own n d is)
held_line known a d (log.Changed event n (model.Moved (model.Install key sequence))) is =
    ap (λ b. cond b (key ∷ []) []) (a.own n d is.0)
held_line known a d (log.Changed event n (model.Moved (model.Row partner key attribute))) is =
    ap (λ b. cond (b || (is_centres known (name_of known n) && nat_eq partner d)) (key ∷ []) []) (a.own n d is.0)
    ∙ ap (λ b. cond (nat_eq n d || (b && nat_eq partner d)) (key ∷ []) []) (a.centre n is.0)
held_line known a d (log.Changed event n (model.Moved (model.Pair first second key))) is = refl
held_line known a d _ is = refl

none_held : (known : List Station) (d : ℕ) (p : Station) (front : List Station)
    → audit.held_by d front (line_for known (log.Declared p)) ≡ secrets.ever_in front d (log.Declared p)
unfolding line_for
none_held known d p front = refl

ever_from_same : (known front : List Station) → AreApart known → NamesDiffer known → (d : ℕ) (h : List log.Line)
    → Leads known front h
    → audit.along (audit.held_by d) front (printed known h) ≡ secrets.ever_from front d h
ever_from_same known front a differ d [] all = refl
ever_from_same known front a differ d (m ∷ h) all =
    ap (λ keys. keys ++ audit.along (audit.held_by d) (declares front (line_for known m)) (printed known h))
    (by_line (λ f l. audit.held_by d f (line_for known l) ≡ secrets.ever_in f d l) known front m all.0
    (λ p. none_held known d p front) (held_line known a d m))
    ∙ ap (λ f. secrets.ever_in front d m ++ audit.along (audit.held_by d) f (printed known h))
    (declares_same known front m differ all.0)
    ∙ ap (λ keys. secrets.ever_in front d m ++ keys) (ever_from_same known (station_line front m) a differ d h all.1)

pub ever_same : (known : List Station) (h : List log.Line) → Begins known h → (d : ℕ) → audit.ever (printed known h) d
    ≡ secrets.ever h d
unfolding audit.ever secrets.ever
ever_same known h b d = ever_from_same known [] (are_apart known h b) b.named.differ d h b.leads

flat_same : {A B : Type 0} (f g : A → List B) → ((a : A) → f a ≡ g a) → (xs : List A) → flat_map f xs ≡ flat_map g xs
flat_same f g same [] = refl
flat_same f g same (x ∷ xs) = ap (λ ys. ys ++ flat_map f xs) (same x) ∙ ap (λ ys. g x ++ ys) (flat_same f g same xs)

pub outside_same : (known : List Station) (h : List log.Line) → Begins known h → audit.outside (printed known h)
    ≡ secrets.outside h
unfolding audit.outside secrets.outside
outside_same known h b =
    ap (λ ds. secrets.well_known ∷ flat_map (audit.ever (printed known h)) ds) (removed_same known h)
    ∙ ap (λ keys. secrets.well_known ∷ keys)
    (flat_same (audit.ever (printed known h)) (secrets.ever h) (ever_same known h b) (secrets.removed_devices h))

-- ---- what a node has

code_line : (known : List Station) (n : ℕ) → TellsApart known n → (m : log.Line) → IsOfNodes known m
    → audit.code_in (name_of known n) (line_for known m) ≡ secrets.code_in n m
unfolding line_for
code_line known n apart (log.GivenLink j partner key) is = ap (λ b. cond b (key ∷ []) []) (apart j is)
code_line known n apart (log.Changed event j (model.Moved (model.Draw key))) is = refl
code_line known n apart _ is = refl

base_line : (known : List Station) (n : ℕ) → TellsApart known n → (m : log.Line) → IsOfNodes known m
    → audit.base_in (name_of known n) (line_for known m) ≡ secrets.base_in n m
unfolding line_for
base_line known n apart (log.GivenLink j partner key) is = ap (λ b. cond b (key ∷ []) []) (apart j is)
base_line known n apart (log.Changed event j (model.Moved (model.Row partner key attribute))) is =
    ap (λ b. cond b (key ∷ []) []) (apart j is.0)
base_line known n apart _ is = refl

codes_same : (known : List Station) (h : List log.Line) → Begins known h → (n : ℕ) → IsDeclared known n
    → audit.codes_of (printed known h) (name_of known n) ≡ secrets.codes_of h n
unfolding audit.codes_of secrets.codes_of
codes_same known h b n its =
    flat_where known (IsOfNodes known) (audit.code_in (name_of known n)) (secrets.code_in n)
    (code_line known n (tells_apart known b.named n its)) h (all_of_nodes known [] h b.leads)

bases_same : (known : List Station) (h : List log.Line) → Begins known h → (n : ℕ) → IsDeclared known n
    → audit.bases (printed known h) (name_of known n) ≡ secrets.bases h n
unfolding audit.bases secrets.bases
bases_same known h b n its =
    flat_where known (IsOfNodes known) (audit.base_in (name_of known n)) (secrets.base_in n)
    (base_line known n (tells_apart known b.named n its)) h (all_of_nodes known [] h b.leads)

pub came_by_same : (tools : Tools) (known : List Station) (h : List log.Line) → Begins known h → (n : ℕ) (key : Bytes)
    → IsDeclared known n
    → audit.came_by tools (printed known h) (name_of known n) key ≡ secrets.came_by tools h n key
unfolding audit.came_by secrets.came_by
came_by_same tools known h b n key its =
    ap (λ keys. secrets.holds keys key
    || list_any (secrets.brings tools (audit.bases (printed known h) (name_of known n)) key)
    (audit.terms_of (printed known h))) (codes_same known h b n its)
    ∙ ap (λ keys. secrets.holds (secrets.codes_of h n) key
    || list_any (secrets.brings tools keys key) (audit.terms_of (printed known h))) (bases_same known h b n its)
    ∙ ap (λ ts. secrets.holds (secrets.codes_of h n) key || list_any (secrets.brings tools (secrets.bases h n) key)
    ts) (terms_same known h)

-- ---- what a device sealed

sealed_line : (known : List Station) → AreApart known → (d : ℕ) (m : log.Line) → IsOfNodes known m
    → lockout.sealed_by d known (line_for known m) ≡ claims.seals_of d m
unfolding line_for
sealed_line known a d (log.Seal event n t) is = ap (λ u. cond (is_of known d (name_of known n)) (u ∷ []) [])
    (term_again t) ∙ ap (λ b. cond b (t ∷ []) []) (a.own n d is)
sealed_line known a d (log.Changed event n (model.Moved (model.Draw key))) is = refl
sealed_line known a d _ is = refl

none_sealed : (known : List Station) (d : ℕ) (p : Station) (front : List Station)
    → lockout.sealed_by d front (line_for known (log.Declared p)) ≡ claims.seals_of d (log.Declared p)
unfolding line_for
none_sealed known d p front = refl

sealed_from : (known front : List Station) → AreApart known → NamesDiffer known → (d : ℕ) (h : List log.Line)
    → Leads known front h
    → audit.along (lockout.sealed_by d) front (printed known h) ≡ flat_map (claims.seals_of d) h
sealed_from known front a differ d [] all = refl
sealed_from known front a differ d (m ∷ h) all =
    ap (λ ts. ts ++ audit.along (lockout.sealed_by d) (declares front (line_for known m)) (printed known h))
    (by_line (λ f l. lockout.sealed_by d f (line_for known l) ≡ claims.seals_of d l) known front m all.0
    (λ p. none_sealed known d p front) (sealed_line known a d m))
    ∙ ap (λ f. claims.seals_of d m ++ audit.along (lockout.sealed_by d) f (printed known h))
    (declares_same known front m differ all.0)
    ∙ ap (λ ts. claims.seals_of d m ++ ts) (sealed_from known (station_line front m) a differ d h all.1)

sealed_same : (known : List Station) (h : List log.Line) → Begins known h → (d : ℕ) (front since : List log.Line)
    → front ++ since ≡ h
    → audit.along (lockout.sealed_by d) (declared_in (printed known front)) (printed known since)
    ≡ flat_map (claims.seals_of d) since
unfolding stations_of
sealed_same known h b d front since same =
    let whole : Begins known (front ++ since) = subst (Begins known) (sym same) b in
    ap (λ ps. audit.along (lockout.sealed_by d) ps (printed known since))
    (declared_same known front (begins_left known front since whole))
    ∙ sealed_from known (fold station_line [] front) (are_apart known h b) b.named.differ d since
    (leads_right known [] front since whole.leads)

pub hold_same : (tools : Tools) (known : List Station) (h : List log.Line) → Begins known h → HoldSame tools known h
hold_same tools known h b = record {
  ever = ever_same known h b;
  outside = outside_same known h b;
  codes = codes_same known h b;
  bases = bases_same known h b;
  came_by = came_by_same tools known h b;
  sealed = sealed_same known h b;
}
