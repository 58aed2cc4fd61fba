-- What one more line adds to each reading of a list of lines.
use Rattle.std.proofs.Common.{◌≡◌, ℕ, List, [], ◌∷◌, ◌++◌, Bool, false, ◌||◌, ap, sym, ◌∙◌, bytes_eq, nat_eq}
use Rattle.std.specs.List.{list_any, flat_map}
use Rattle.std.specs.Prelude.{fold}
use Rattle.std.proofs.lemmas.Grind.{flat_map-append}
use Rattle.std.proofs.lemmas.List.Folds.{list_any-append}
use Rattle.std.proofs.lemmas.List.Sums.{fold-append}
use Rattle.zb_audit_names.specs.Naming.{declares, declared_in}
use Rattle.zb_audit_names.specs.Secrets.{along, ever, forged_in, held_by, removed_devices, removed_in, terms_in, terms_of}
use Rattle.zb_audit_lockout.specs.Before.{is_live, lives}
use Rattle.zb_audit_lockout.specs.Lockout.{drawn_in}
use Rattle.zb_audit_lockout.proofs.Tests.{or_none, or_assoc}
use Rattle.zb_model.specs.Data.{Bytes, Station, Term}
use Rattle.zb_model.specs.Secrets.{holds}
use Rattle.zb_trace.specs.declared.line.Line.{Line}

pub any_more : {A X : Type 0} (p : X → Bool) (f : A → List X) (h : List A) (l : A)
    → list_any p (flat_map f (h ++ l ∷ [])) ≡ (list_any p (flat_map f h) || list_any p (f l))
any_more p f h l =
    ap (list_any p) (flat_map-append f h (l ∷ []))
    ∙ (list_any-append p (flat_map f h) (f l ++ [])
    ∙ ap (λ (b : Bool). list_any p (flat_map f h) || b) (list_any-append p (f l) [] ∙ or_none (list_any p (f l))))

pub along_more : {A : Type 0} (says : List Station → Line → List A) (p : A → Bool) (known : List Station)
    (h : List Line) (l : Line)
    → list_any p (along says known (h ++ l ∷ []))
    ≡ (list_any p (along says known h) || list_any p (says (fold declares known h) l))
along_more says p known [] l = list_any-append p (says known l) [] ∙ or_none (list_any p (says known l))
along_more says p known (m ∷ h) l =
    list_any-append p (says known m) (along says (declares known m) (h ++ l ∷ []))
    ∙ (ap (λ (b : Bool). list_any p (says known m) || b) (along_more says p (declares known m) h l)
    ∙ (sym (or_assoc (list_any p (says known m)) (list_any p (along says (declares known m) h))
    (list_any p (says (fold declares (declares known m) h) l)))
    ∙ ap (λ (b : Bool). b || list_any p (says (fold declares (declares known m) h) l))
    (sym (list_any-append p (says known m) (along says (declares known m) h)))))

pub ever_more : (h : List Line) (l : Line) (d : ℕ) (k : Bytes) → holds (ever (h ++ l ∷ []) d) k
    ≡ (holds (ever h d) k || holds (held_by d (declared_in h) l) k)
unfolding ever declared_in
ever_more h l d k = along_more (held_by d) (bytes_eq k) [] h l

pub terms_more : (p : Term → Bool) (h : List Line) (l : Line) → list_any p (terms_of (h ++ l ∷ []))
    ≡ (list_any p (terms_of h) || list_any p (terms_in l))
unfolding terms_of
terms_more p h l = any_more p terms_in h l

pub removed_more : (h : List Line) (l : Line) (d : ℕ) → list_any (nat_eq d) (removed_devices (h ++ l ∷ []))
    ≡ (list_any (nat_eq d) (removed_devices h) || list_any (nat_eq d) (removed_in l))
unfolding removed_devices
removed_more h l d = any_more (nat_eq d) removed_in h l

pub forged_more : (p : Term → Bool) (h : List Line) (l : Line) → list_any p (flat_map forged_in (h ++ l ∷ []))
    ≡ (list_any p (flat_map forged_in h) || list_any p (forged_in l))
forged_more p h l = any_more p forged_in h l

pub drawn_more : (b : List Line) (l : Line) (k : Bytes) → holds (flat_map drawn_in (b ++ l ∷ [])) k
    ≡ (holds (flat_map drawn_in b) k || holds (drawn_in l) k)
drawn_more b l k = any_more (bytes_eq k) drawn_in b l

pub live_more : (h : List Line) (l : Line) (name k : Bytes) → is_live (h ++ l ∷ []) name k
    ≡ lives name k (is_live h name k) l
unfolding is_live
live_more h l name k = fold-append (lives name k) false h (l ∷ [])

pub declared_append : (a b : List Line) → fold declares (declared_in a) b ≡ declared_in (a ++ b)
unfolding declared_in
declared_append a b = sym (fold-append declares [] a b)
