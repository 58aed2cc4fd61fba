-- The live network keys of a node, by its name and in its state.
use Rattle.std.proofs.Common.{◌≡◌, ℕ, ◌&&◌, ◌||◌, Bool, true, false, cond, List, [], ◌∷◌, fold, nat_eq, bytes_eq, refl, sym, ap, ◌∙◌}
use Rattle.std.specs.List.{AllByRecursion, list_any}
use Rattle.std.proofs.lemmas.Bool.{false≢true}
use Rattle.std.proofs.lemmas.List.Folds.{list_any-from_Any}
use Rattle.zb_audit_names.specs.Secrets as audit
use Rattle.law_audit_groups.specs.Printing.{printed}
use Rattle.zb_audit_lockout.specs.Before as before
use Rattle.zb_model.specs.Claims.{Among, Each, HoldsNoneKnown}
use Rattle.zb_model.specs.Data as model
use Rattle.zb_model.specs.Data.{Bytes, Station}
use Rattle.zb_model.specs.Lines as log
use Rattle.zb_model.specs.Readings.{speaker, state_of}
use Rattle.zb_model.specs.Secrets as secrets
use Rattle.zb_model.specs.State.{NetKey, has_net, live_nets, same_key}
use Rattle.zb_model.specs.Tools.{Tools}
use Rattle.law_run.proofs.Basics.{same_key-refl}
use Rattle.law_run.proofs.FreshLines.{all-map}
use Rattle.zb_trace_model.specs.Naming.{IsDeclared, name_of}
use Rattle.zb_trace_model.specs.Said.{IsOfNodes, line_for}
use Rattle.law_audit_sound.specs.Agreeing.{LiveSame}
use Rattle.law_audit_sound.proofs.Holding.{outside_same}
use Rattle.law_audit_sound.proofs.Leading.{Begins, TellsApart, all_of_nodes, tells_apart}
use Rattle.law_audit_sound.proofs.Lively.{IsLively}
use Rattle.law_audit_sound.proofs.Living.{live_line, lives_same}
use Rattle.law_audit_sound.proofs.Showing.{exposed_same}

-- ---- lines

same_if : (b was : Bool) → was ≡ cond b was was
same_if true was = refl
same_if false was = refl

both : (a b c to was : Bool) → a ≡ b → cond (a && c) to was ≡ cond b (cond c to was) was
both a true c to was e = ap (λ x. cond (x && c) to was) e
both a false c to was e = ap (λ x. cond (x && c) to was) e

lives_line : (known : List Station) (n : ℕ) → TellsApart known n → (key : Bytes) (was : Bool) (m : log.Line)
    → IsOfNodes known m → before.lives (name_of known n) key was (line_for known m) ≡ live_line n key was m
unfolding line_for speaker
lives_line known n apart key was (log.GivenNet j k sequence) is = both (bytes_eq (name_of known j) (name_of known n))
    (nat_eq j n) (same_key k key) true was (apart j is)
lives_line known n apart key was (log.Changed event j (model.Moved (model.Install k sequence))) is =
    both (bytes_eq (name_of known j) (name_of known n)) (nat_eq j n) (same_key k key) true was (apart j is.0)
lives_line known n apart key was (log.Changed event j (model.Moved (model.DropNet k))) is =
    both (bytes_eq (name_of known j) (name_of known n)) (nat_eq j n) (same_key k key) false was (apart j is.0)
lives_line known n apart key was m is = same_if (nat_eq (speaker m) n) was

lives_fold : (known : List Station) (n : ℕ) → TellsApart known n → (key : Bytes) (was : Bool) (h : List log.Line)
    → AllByRecursion (IsOfNodes known) h
    → fold (before.lives (name_of known n) key) was (printed known h) ≡ fold (live_line n key) was h
lives_fold known n apart key was [] all = refl
lives_fold known n apart key was (m ∷ h) all =
    ap (λ b. fold (before.lives (name_of known n) key) b (printed known h)) (lives_line known n apart key was m all.0)
    ∙ lives_fold known n apart key (live_line n key was m) h all.1

live_same : (known : List Station) (h : List log.Line) → Begins known h → Each IsLively [] h → (n : ℕ) (key : Bytes)
    → IsDeclared known n
    → before.is_live (printed known h) (name_of known n) key ≡ has_net key (live_nets (state_of h n))
unfolding before.is_live
live_same known h b lively n key its =
    lives_fold known n (tells_apart known b.named n its) key false h (all_of_nodes known [] h b.leads) ∙ lives_same n
    key h lively

-- ---- some of some

any_same : {A : Type 0} (f g : A → Bool) → ((a : A) → f a ≡ g a) → (xs : List A) → list_any f xs ≡ list_any g xs
any_same f g same [] = refl
any_same f g same (x ∷ xs) = ap (λ b. b || list_any f xs) (same x) ∙ ap (λ b. g x || b) (any_same f g same xs)

any_none : {A : Type 0} (xs : List A) → false ≡ list_any (λ (x : A). false) xs
any_none [] = refl
any_none (x ∷ xs) = any_none xs

swap_or : (a b c d : Bool) → ((a || c) || (b || d)) ≡ ((a || b) || (c || d))
swap_or true b c d = refl
swap_or false true true d = refl
swap_or false true false d = refl
swap_or false false c d = refl

any_or : {A : Type 0} (f g : A → Bool) (xs : List A) → (list_any f xs || list_any g xs) ≡ list_any (λ x. f x || g x) xs
any_or f g [] = refl
any_or f g (x ∷ xs) = swap_or (f x) (g x) (list_any f xs) (list_any g xs) ∙ ap (λ b. (f x || g x) || b) (any_or f g xs)

any_swap : {A B : Type 0} (f : A → B → Bool) (xs : List A) (ys : List B) → list_any (λ x. list_any (λ y. f x y) ys) xs
    ≡ list_any (λ y. list_any (λ x. f x y) xs) ys
any_swap f [] ys = any_none ys
any_swap f (x ∷ xs) ys =
    ap (λ b. list_any (λ y. f x y) ys || b) (any_swap f xs ys) ∙ any_or (λ y. f x y) (λ y. list_any (λ z. f z y) xs) ys

known_same : (tools : Tools) (known : List Station) (h : List log.Line) → Begins known h → Each IsLively [] h
    → (n : ℕ) → IsDeclared known n
    → before.holds_known tools (printed known h) (name_of known n)
    ≡ list_any (λ (r : NetKey). secrets.holds (secrets.exposed tools h (secrets.outside h)) r.key)
    (live_nets (state_of h n))
unfolding before.holds_known
known_same tools known h b lively n its =
    let keys = secrets.exposed tools h (secrets.outside h) in
    let rows = live_nets (state_of h n) in
    ap (λ from. list_any (before.is_live (printed known h) (name_of known n))
    (audit.exposed tools (printed known h) from)) (outside_same known h b)
    ∙ ap (list_any (before.is_live (printed known h) (name_of known n)))
    (exposed_same tools known h (secrets.outside h))
    ∙ any_same (before.is_live (printed known h) (name_of known n)) (λ key. has_net key rows)
    (λ key. live_same known h b lively n key its) keys
    ∙ any_swap (λ (key : Bytes) (r : NetKey). same_key r.key key) keys rows

-- ---- none of them is known

or_none : (a b : Bool) → (a || b) ≡ false → (a ≡ false) × (b ≡ false)
or_none true b e = absurd (false≢true (sym e))
or_none false b e = (refl, e)

none_passes : {A : Type 0} (f : A → Bool) (xs : List A) → list_any f xs ≡ false → AllByRecursion (λ x. f x ≡ false) xs
none_passes f [] e = tt
none_passes f (x ∷ xs) e = let parts = or_none (f x) (list_any f xs) e in (parts.0, none_passes f xs parts.1)

among_holds : (keys : List Bytes) (key : Bytes) → Among keys key → secrets.holds keys key ≡ true
among_holds keys key a =
    list_any-from_Any (same_key key) keys (a.0, a.1, a.2, a.3, ap (same_key key) a.4 ∙ same_key-refl key)

not_among : (keys : List Bytes) (r : NetKey) → secrets.holds keys r.key ≡ false → Among keys r.key → ⊥
not_among keys r none a = false≢true (sym none ∙ among_holds keys r.key a)

none_among : (tools : Tools) (h : List log.Line) (n : ℕ)
    → list_any (λ (r : NetKey). secrets.holds (secrets.exposed tools h (secrets.outside h)) r.key)
    (live_nets (state_of h n)) ≡ false → HoldsNoneKnown tools h n
none_among tools h n none =
    let keys = secrets.exposed tools h (secrets.outside h) in
    all-map (λ (r : NetKey). secrets.holds keys r.key ≡ false) (λ (r : NetKey). Among keys r.key → ⊥) (not_among keys)
    (live_nets (state_of h n))
    (none_passes (λ (r : NetKey). secrets.holds keys r.key) (live_nets (state_of h n)) none)

pub live_keys_same : (tools : Tools) (known : List Station) (h : List log.Line) → Begins known h → Each IsLively [] h
    → LiveSame tools known h
live_keys_same tools known h b lively = record {
  live = live_same known h b lively;
  known_outside = known_same tools known h b lively;
  none_known = λ n its none. none_among tools h n (sym (known_same tools known h b lively n its) ∙ none);
}
