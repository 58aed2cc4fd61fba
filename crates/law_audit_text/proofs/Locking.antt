-- Lockout of plain lines.
use Rattle.std.proofs.Common.{◌≡◌, ℕ, ◌+◌, Bool, true, false, cond, not, ◌&&◌, ◌||◌, List, [], ◌∷◌, ◌++◌, map, flat_map, length, Some, None, refl, ap, ◌∙◌}
use Rattle.std.specs.List.{list_any}
use Rattle.zb_audit.specs.Faults.{unlocked}
use Rattle.zb_audit_names.specs.Naming.{declared_in}
use Rattle.zb_audit_names.specs.Groups.{flat, groups}
use Rattle.zb_audit_names.specs.Secrets.{along, ever, exposed, forged_in, ideal, outside, private}
use Rattle.zb_audit_lockout.specs.Before.{all_but_last, before_group, holds_known, is_live, lives}
use Rattle.zb_audit_lockout.specs.Lockout.{admits, drawn_in, first_unlocked, is_aps, keeps_out, locked, locked_from, locked_line, locks_out, refuses, refuses_line, sealed_by, unlocked_from, until_live}
use Rattle.zb_model.specs.Data.{Bytes, Station}
use Rattle.zb_model.specs.Secrets.{same_term, well_known}
use Rattle.zb_model.specs.Tools.{Tools}
use Rattle.zb_model_real.specs.Terms.{model_term}
use Rattle.zb_trace.specs.declared.line.Line.{Line}
use Rattle.zb_trace.specs.declared.line.Line.TheVariants as line
use Rattle.law_audit_text.proofs.Counting.{flats_plain, groups_plain}
use Rattle.law_audit_text.proofs.Knowing.{along_plain, declared_plain, ever_plain, exposed_plain, forged_plain, ideal_plain, known_plain, private_plain}
use Rattle.law_audit_text.specs.Plain.{plain, plains}
use Rattle.law_audit_text.proofs.Plain.{plains_append, plains_snoc, plains_length, flat_plain, fold_plain}

-- ---- before a group

but_last_plain : (gs : List (List Line)) → all_but_last (map plains gs) ≡ map plains (all_but_last gs)
but_last_plain [] = refl
but_last_plain (g ∷ []) = refl
but_last_plain (g ∷ other ∷ gs) = ap (λ xs. plains g ∷ xs) (but_last_plain (other ∷ gs))

before_plain : (h : List Line) → before_group (plains h) ≡ plains (before_group h)
unfolding before_group
before_plain h = ap (λ gs. flat (all_but_last gs)) (groups_plain h) ∙
    (ap flat (but_last_plain (groups h)) ∙ flats_plain (all_but_last (groups h)))

lives_plain : (name key : Bytes) (was : Bool) (l : Line) → lives name key was (plain l) ≡ lives name key was l
lives_plain name key was (line.GivenNet node k sequence) = refl
lives_plain name key was (line.Install event node k sequence) = refl
lives_plain name key was (line.DropNet event node k) = refl
lives_plain name key was _ = refl

live_plain : (h : List Line) (name key : Bytes) → is_live (plains h) name key ≡ is_live h name key
unfolding is_live
live_plain h name key = fold_plain (lives name key) (lives_plain name key) false h

any_alike : {A : Type 0} (f g : A → Bool) → ((a : A) → f a ≡ g a) → (xs : List A) → list_any f xs ≡ list_any g xs
any_alike f g each [] = refl
any_alike f g each (x ∷ xs) = ap (λ b. b || list_any f xs) (each x) ∙ ap (λ b. g x || b) (any_alike f g each xs)

holds_plain : (tools : Tools) (h : List Line) (name : Bytes) → holds_known tools (plains h) name
    ≡ holds_known tools h name
unfolding holds_known
holds_plain tools h name =
    ap (list_any (is_live (plains h) name)) (known_plain tools h) ∙ any_alike (is_live (plains h) name)
    (is_live h name) (live_plain h name) (exposed tools h (outside h))

-- ---- lockout

admits_line : (d : ℕ) (l : Line) → admits d (plain l) ≡ admits d l
admits_line d (line.Live event device) = refl
admits_line d _ = refl

until_plain : (d : ℕ) (h : List Line) → until_live d (plains h) ≡ plains (until_live d h)
until_plain d [] = refl
until_plain d (l ∷ h) = ap (λ b. cond b [] (plain l ∷ until_live d (plains h))) (admits_line d l) ∙ by_test
    (admits d l) (until_plain d h)
  where
    by_test : (b : Bool) → until_live d (plains h) ≡ plains (until_live d h)
        → cond b [] (plain l ∷ until_live d (plains h)) ≡ plains (cond b [] (l ∷ until_live d h))
    by_test true more = refl
    by_test false more = ap (λ ls. plain l ∷ ls) more

drawn_line : (l : Line) → drawn_in (plain l) ≡ drawn_in l
drawn_line (line.Draw event key) = refl
drawn_line _ = refl

keeps_plain : (tools : Tools) (h between : List Line) (d : ℕ) → keeps_out tools (plains h) (plains between) d
    ≡ keeps_out tools h between d
unfolding keeps_out
keeps_plain tools h between d =
    rw (plains_append h between)
    (rw (ever_plain (h ++ between) d)
    (rw (exposed_plain tools (h ++ between) (well_known ∷ ever (h ++ between) d))
    (rw (flat_plain drawn_in drawn_line between) refl)))

sealed_line : (d : ℕ) (known : List Station) (l : Line) → sealed_by d known (plain l) ≡ sealed_by d known l
sealed_line d known (line.Seal event node t) = refl
sealed_line d known _ = refl

heard_plain : (d : ℕ) (h since : List Line)
    → along (sealed_by d) (declared_in (plains h)) (plains since) ++ flat_map forged_in (plains h ++ plains since)
    ≡ along (sealed_by d) (declared_in h) since ++ flat_map forged_in (h ++ since)
heard_plain d h since =
    rw (plains_append h since)
    (rw (forged_plain (h ++ since))
    (rw (declared_plain h) (rw (along_plain (sealed_by d) (sealed_line d) (declared_in h) since) refl)))

stood_plain : (tools : Tools) (h since : List Line) (l : Line) (name : Bytes)
    → holds_known tools (before_group ((plains h ++ plains since) ++ plain l ∷ [])) name
    ≡ holds_known tools (before_group ((h ++ since) ++ l ∷ [])) name
stood_plain tools h since l name =
    let all : (plains h ++ plains since) ++ plain l ∷ [] ≡ plains ((h ++ since) ++ l ∷ []) =
    ap (λ g. g ++ plain l ∷ []) (plains_append h since) ∙ plains_snoc (h ++ since) l in
    ap (λ g. holds_known tools (before_group g) name) all
    ∙ (ap (λ g. holds_known tools g name) (before_plain ((h ++ since) ++ l ∷ [])) ∙ holds_plain tools
    (before_group ((h ++ since) ++ l ∷ [])) name)

refuses_line_plain : (tools : Tools) (d : ℕ) (h since : List Line) (l : Line)
    → refuses_line tools d (plains h) (plains since) (plain l) ≡ refuses_line tools d h since l
unfolding refuses_line
refuses_line_plain tools d h since (line.Accept event node t) =
    ap (λ b. is_aps t.layer
    || (b || not (list_any (same_term (model_term t))
    (along (sealed_by d) (declared_in (plains h)) (plains since)
    ++ flat_map forged_in (plains h ++ plains since)))))
    (stood_plain tools h since (line.Accept event node t) node.bytes)
    ∙ ap (λ ts. is_aps t.layer
    || (holds_known tools (before_group ((h ++ since) ++ line.Accept event node t ∷ [])) node.bytes
    || not (list_any (same_term (model_term t)) ts))) (heard_plain d h since)
refuses_line_plain tools d h since _ = refl

refuses_plain : (tools : Tools) (d : ℕ) (h since ls : List Line)
    → refuses tools d (plains h) (plains since) (plains ls) ≡ refuses tools d h since ls
unfolding refuses
refuses_plain tools d h since [] = refl
refuses_plain tools d h since (l ∷ ls) =
    ap (λ b. b && refuses tools d (plains h) (plains since ++ plain l ∷ []) (plains ls))
    (refuses_line_plain tools d h since l)
    ∙ (ap (λ g. refuses_line tools d h since l && refuses tools d (plains h) g (plains ls)) (plains_snoc since l)
    ∙ ap (λ b. refuses_line tools d h since l && b) (refuses_plain tools d h (since ++ l ∷ []) ls))

locks_plain : (tools : Tools) (h between : List Line) (d : ℕ) → locks_out tools (plains h) (plains between) d
    ≡ locks_out tools h between d
locks_plain tools h between d =
    ap (λ b. b && refuses tools d (plains h) [] (plains between)) (keeps_plain tools h between d) ∙ ap
    (λ b. keeps_out tools h between d && b) (refuses_plain tools d h [] between)

locked_line_plain : (tools : Tools) (h : List Line) (l : Line) (after : List Line)
    → locked_line tools (plains h) (plain l) (plains after) ≡ locked_line tools h l after
locked_line_plain tools h (line.Removed event device) after =
    ap (λ g. locks_out tools g (until_live device.0 (plains after)) device.0)
    (plains_snoc h (line.Removed event device))
    ∙ (ap (λ ls. locks_out tools (plains (h ++ line.Removed event device ∷ [])) ls device.0)
    (until_plain device.0 after)
    ∙ locks_plain tools (h ++ line.Removed event device ∷ []) (until_live device.0 after) device.0)
locked_line_plain tools h _ after = refl

locked_from_plain : (tools : Tools) (h ls : List Line) → locked_from tools (plains h) (plains ls)
    ≡ locked_from tools h ls
locked_from_plain tools h [] = refl
locked_from_plain tools h (l ∷ ls) =
    ap (λ b. b && locked_from tools (plains h ++ plain l ∷ []) (plains ls)) (locked_line_plain tools h l ls)
    ∙ (ap (λ g. locked_line tools h l ls && locked_from tools g (plains ls)) (plains_snoc h l) ∙ ap
    (λ b. locked_line tools h l ls && b) (locked_from_plain tools (h ++ l ∷ []) ls))

locked_plain : (tools : Tools) (lines : List Line) → locked tools (plains lines) ≡ locked tools lines
unfolding locked
locked_plain tools lines = locked_from_plain tools [] lines

unlocked_from_plain : (tools : Tools) (h ls : List Line) → unlocked_from tools (plains h) (plains ls)
    ≡ unlocked_from tools h ls
unlocked_from_plain tools h [] = refl
unlocked_from_plain tools h (l ∷ ls) =
    ap (λ g. cond (locked tools g) (unlocked_from tools g (plains ls)) (Some (length (plains h) + 1)))
    (plains_snoc h l)
    ∙ (ap (λ b. cond b (unlocked_from tools (plains (h ++ l ∷ [])) (plains ls)) (Some (length (plains h) + 1)))
    (locked_plain tools (h ++ l ∷ []))
    ∙ (ap (λ o. cond (locked tools (h ++ l ∷ [])) o (Some (length (plains h) + 1)))
    (unlocked_from_plain tools (h ++ l ∷ []) ls)
    ∙ ap (λ n. cond (locked tools (h ++ l ∷ [])) (unlocked_from tools (h ++ l ∷ []) ls) (Some (n + 1)))
    (plains_length h)))

pub unlocked_plain : (tools : Tools) (lines : List Line) → unlocked tools (plains lines) ≡ unlocked tools lines
unfolding unlocked first_unlocked
unlocked_plain tools lines =
    ap (λ b. cond (b && private tools (plains lines)) (unlocked_from tools [] (plains lines)) None)
    (ideal_plain tools lines)
    ∙ (ap (λ b. cond (ideal tools lines && b) (unlocked_from tools [] (plains lines)) None) (private_plain tools lines)
    ∙ ap (λ o. cond (ideal tools lines && private tools lines) o None) (unlocked_from_plain tools [] lines))
