-- The entries that were written are applied when they are read, after any others.
use Rattle.std.proofs.Common.{◌≡◌, ℕ, zero, suc, ◌+◌, ◌≤◌, Bool, true, false, if◌then◌else◌, List, [], ◌∷◌, ◌++◌, length, filter, flat_map, Result, Ok, Err, refl, sym, ap, ◌≢◌, ◌∙◌, subst, arith, append_assoc, append-nil, length-append}
use Rattle.std.specs.List.{AllByRecursion}
use Rattle.std.proofs.lemmas.List.Concat.{flat_map-cons}
use Rattle.zb_node_types.specs.declared.change.Change.{Change}
use Rattle.zb_node_types.specs.Changes.{edit, edits}
use Rattle.zb_model.specs.Data.{Draw, DropNet, DropLink, Install, Active, Row, Pair, Became, Live, Removed, Roll, Told, Untold, Edit, Reserve, Floor, Start, Moved}
use Rattle.zb_model.specs.State.{NodeState, shown, applied, applied_all}
use Rattle.zb_model.specs.Fits.{keeps_rules, fits, all_fit, may_change}
use Rattle.zb_model.specs.Record.{edit_bytes, is_stored, payload}
use Rattle.law_change_fits.proofs.Tests.{both}
use Rattle.law_change_fits.proofs.Shown.{fits_shown}
use Rattle.law_change_fits.proofs.ShownApplied.{shown_applied}
use Rattle.zb_record.specs.Changes.{change_at}
use Rattle.zb_record.specs.Ranges.{InRange}
use Rattle.zb_record.specs.declared.version.Version.{Version}
use Rattle.zb_record.specs.declared.version.Version.TheVariants.{First, Second, Third}
use Rattle.zb_record.specs.Redoing.{Redone, onward, change_made, fits_behind, applied_behind, change_redone, changes_redone, payloads_redone, redone}
use Rattle.zb_record.proofs.ReadAgain.{change_again}
use Rattle.zb_record.proofs.Redone.{one_made}
use Rattle.zb_record.proofs.Steady.{found, change_steady}

abbrev at_end : NodeState → List ℕ → Redone
at_end t rest = (t, Ok rest)

abbrev failed : NodeState → ℕ → Redone
failed t left = (t, Err left)

not_failed : {C : Type 0} (s t : NodeState) (left : ℕ) (rest : List ℕ) → failed s left ≡ at_end t rest → C
not_failed s t left rest e = absurd (let r : Err left ≡ Ok rest = ap (λ (x : Redone). x.1) e in cc)

-- the bytes that are left
rest_of : Result (List ℕ) ℕ → List ℕ
rest_of (Ok l) = l
rest_of (Err f) = []

-- ---- more bytes after those that were used

module _ (v : Version) (more : List ℕ) where
  one_steady : (bytes rest : List ℕ) (s t : NodeState) → change_redone v bytes s ≡ at_end t rest
      → (length rest ≤ length bytes) × (change_redone v (bytes ++ more) s ≡ at_end t (rest ++ more))
  unfolding change_redone rest_of
  one_steady bytes rest s t e = by_read (change_at (length bytes) bytes) refl e
    where
      by_fit : (b : Bool) (x : Change × List ℕ) → fits_behind v (edit x.0) s ≡ b → change_at (length bytes) bytes
          ≡ found x.0 x.1 → (if b then at_end (shown (applied_behind v (edit x.0) s)) x.1
          else failed s (length bytes)) ≡ at_end t rest
          → (length rest ≤ length bytes)
          × (change_made v s (length (bytes ++ more)) (change_at (length (bytes ++ more)) (bytes ++ more))
          ≡ at_end t (rest ++ more))
      by_fit true x fit read e =
          let a = change_steady (length bytes) bytes x.1 x.0 read in
          let state : shown (applied_behind v (edit x.0) s) ≡ t = ap (λ (r : Redone). r.0) e in
          let left : x.1 ≡ rest = ap (λ (r : Redone). rest_of r.1) e in (
            omega (arith, a.0, ap (length {A = ℕ}) left),
            rw (a.1 (length (bytes ++ more)) more, fit)
                (ap (λ u. at_end u (x.1 ++ more)) state ∙ ap (λ l. at_end t (l ++ more)) left),
          )
      by_fit false x fit read e = not_failed s t (length bytes) rest e

      by_read : (r : Result (Change × List ℕ) ℕ) → change_at (length bytes) bytes ≡ r
          → change_made v s (length bytes) r ≡ at_end t rest
          → (length rest ≤ length bytes)
          × (change_made v s (length (bytes ++ more)) (change_at (length (bytes ++ more)) (bytes ++ more))
          ≡ at_end t (rest ++ more))
      by_read (Ok x) is e = by_fit (fits_behind v (edit x.0) s) x refl is e
      by_read (Err f) is e = not_failed s t f rest e

  many_steady : (n : ℕ) (bytes rest : List ℕ) (s t : NodeState) → changes_redone v n bytes s ≡ at_end t rest
      → (length rest ≤ length bytes) × (changes_redone v n (bytes ++ more) s ≡ at_end t (rest ++ more))
  unfolding changes_redone rest_of
  many_steady zero bytes rest s t e =
      let state : s ≡ t = ap (λ (r : Redone). r.0) e in
      let left : bytes ≡ rest = ap (λ (r : Redone). rest_of r.1) e in (
        omega (arith, ap (length {A = ℕ}) left),
        ap (λ u. at_end u (bytes ++ more)) state ∙ ap
            (λ l. at_end t (l ++ more)) left,
      )
  many_steady (suc n) bytes rest s t e = by_one (change_redone v bytes s).0 (change_redone v bytes s).1 refl e
      (λ between u later. many_steady n between rest u t later)
    where
      by_one : (u : NodeState) (r : Result (List ℕ) ℕ) → change_redone v bytes s ≡ (u, r)
          → onward u r (changes_redone v n) ≡ at_end t rest
          → ((between : List ℕ) (w : NodeState) → changes_redone v n between w ≡ at_end t rest
          → (length rest ≤ length between) × (changes_redone v n (between ++ more) w ≡ at_end t (rest ++ more)))
          → (length rest ≤ length bytes)
          × (onward (change_redone v (bytes ++ more) s).0 (change_redone v (bytes ++ more) s).1
          (changes_redone v n) ≡ at_end t (rest ++ more))
      by_one u (Ok between) is e later =
          let a = one_steady bytes between s u is in
          let b = later between u e in
          (omega (arith, a.0, b.0), rw (a.1) (b.1))
      by_one u (Err f) is e later = not_failed u t f rest e

-- ---- the number of payloads doesn't matter, if there are as many as bytes

fuel : (v : Version) (a b : ℕ) (bytes : List ℕ) (s : NodeState) → length bytes ≤ a → length bytes ≤ b
    → payloads_redone v a bytes s ≡ payloads_redone v b bytes s
unfolding payloads_redone
fuel v zero zero bytes s la lb = refl
fuel v zero (suc b) [] s la lb = refl
fuel v zero (suc b) (x ∷ bytes) s la lb = absurd (omega (arith, la))
fuel v (suc a) zero [] s la lb = refl
fuel v (suc a) zero (x ∷ bytes) s la lb = absurd (omega (arith, lb))
fuel v (suc a) (suc b) [] s la lb = refl
fuel v (suc a) (suc b) (count ∷ bytes) s la lb = by_rest (changes_redone v count bytes s).0
    (changes_redone v count bytes s).1 refl (λ rest u p q. fuel v a b rest u p q)
  where
    by_rest : (u : NodeState) (r : Result (List ℕ) ℕ) → changes_redone v count bytes s ≡ (u, r)
        → ((rest : List ℕ) (w : NodeState) → length rest ≤ a → length rest ≤ b → payloads_redone v a rest w
        ≡ payloads_redone v b rest w)
        → onward u r (payloads_redone v a) ≡ onward u r (payloads_redone v b)
    by_rest u (Ok rest) is later =
        let less = (many_steady v [] count bytes rest s u is).0 in
        later rest u (omega (arith, la, less)) (omega (arith, lb, less))
    by_rest u (Err f) is later = refl

-- payloads after payloads
behind : (v : Version) (n : ℕ) (q more : List ℕ) (s t : NodeState) → length q ≤ n → payloads_redone v n q s
    ≡ at_end t [] → payloads_redone v (n + length more) (q ++ more) s ≡ payloads_redone v (length more) more t
unfolding payloads_redone
behind v n [] more s t le e =
    let state : s ≡ t = ap (λ (r : Redone). r.0) (sym (none n) ∙ e) in
    fuel v (n + length more) (length more) more s (omega arith) (omega arith) ∙ ap
    (payloads_redone v (length more) more) state
  where
    none : (k : ℕ) → payloads_redone v k [] s ≡ at_end s []
    none zero = refl
    none (suc k) = refl
behind v zero (count ∷ q) more s t le e = absurd (omega (arith, le))
behind v (suc n) (count ∷ q) more s t le e =
    let k : suc n + length more ≡ suc (n + length more) = omega arith in
    ap (λ m. payloads_redone v m (count ∷ (q ++ more)) s) k ∙ by_rest (changes_redone v count q s).0
    (changes_redone v count q s).1 refl e (λ rest u p later. behind v n rest more u t p later)
  where
    by_rest : (u : NodeState) (r : Result (List ℕ) ℕ) → changes_redone v count q s ≡ (u, r)
        → onward u r (payloads_redone v n) ≡ at_end t []
        → ((rest : List ℕ) (w : NodeState) → length rest ≤ n → payloads_redone v n rest w ≡ at_end t []
        → payloads_redone v (n + length more) (rest ++ more) w ≡ payloads_redone v (length more) more t)
        → payloads_redone v (suc (n + length more)) (count ∷ (q ++ more)) s ≡ payloads_redone v (length more) more t
    by_rest u (Ok rest) is e later =
        let a = many_steady v more count q rest s u is in
        rw (a.1) (later rest u (omega (arith, le, a.0)) e)
    by_rest u (Err f) is e later = not_failed u t f [] e

pub redone_behind : (v : Version) (q more : List ℕ) (s t : NodeState) → redone v q s ≡ at_end t []
    → redone v (q ++ more) s ≡ redone v more t
unfolding redone
redone_behind v q more s t e = ap (λ m. payloads_redone v m (q ++ more) s) (length-append q more) ∙ behind v
    (length q) q more s t (omega arith) e

-- ---- what is written

-- After a record of a later version than the first all changes have their usual effect.
later_fits : (v : Version) → v ≢ First → (e : Edit) (s : NodeState) → fits_behind v e s ≡ fits e s
unfolding fits_behind
later_fits First later e s = absurd (later refl)
later_fits Second later e s = refl
later_fits Third later e s = refl

later_applied : (v : Version) → v ≢ First → (e : Edit) (s : NodeState) → applied_behind v e s ≡ applied e s
unfolding applied_behind
later_applied First later e s = absurd (later refl)
later_applied Second later e s = refl
later_applied Third later e s = refl

stored_fits : (e : Edit) (s : NodeState) → is_stored e ≡ true → fits e s ≡ true → keeps_rules (applied e s) ≡ true
unfolding fits
stored_fits e s stored fit = by_edit e stored fit
  where
    by_edit : (x : Edit) → is_stored x ≡ true → fits x s ≡ true → keeps_rules (applied x s) ≡ true
    by_edit (Reserve layer limit) stored fit = (both (may_change (Reserve layer limit) s) _ fit).1
    by_edit (Floor layer key sender value) stored fit = (both (may_change (Floor layer key sender value) s) _ fit).1
    by_edit (Start key value) stored fit = (both (may_change (Start key value) s) _ fit).1
    by_edit (Moved (Draw key)) stored fit = absurd (cc)
    by_edit (Moved (DropNet key)) stored fit = (both (may_change (Moved (DropNet key)) s) _ fit).1
    by_edit (Moved (DropLink partner key)) stored fit = (both (may_change (Moved (DropLink partner key)) s) _ fit).1
    by_edit (Moved (Install key sequence)) stored fit = (both (may_change (Moved (Install key sequence)) s) _ fit).1
    by_edit (Moved (Active key)) stored fit = (both (may_change (Moved (Active key)) s) _ fit).1
    by_edit (Moved (Row partner key attribute)) stored fit =
        (both (may_change (Moved (Row partner key attribute)) s) _ fit).1
    by_edit (Moved (Pair first second key)) stored fit = (both (may_change (Moved (Pair first second key)) s) _ fit).1
    by_edit (Moved (Became model_state)) stored fit = (both (may_change (Moved (Became model_state)) s) _ fit).1
    by_edit (Moved (Live device)) stored fit = (both (may_change (Moved (Live device)) s) _ fit).1
    by_edit (Moved (Removed device)) stored fit = (both (may_change (Moved (Removed device)) s) _ fit).1
    by_edit (Moved (Roll sending)) stored fit = (both (may_change (Moved (Roll sending)) s) _ fit).1
    by_edit (Moved (Told device)) stored fit = (both (may_change (Moved (Told device)) s) _ fit).1
    by_edit (Moved (Untold device)) stored fit = (both (may_change (Moved (Untold device)) s) _ fit).1

-- a draw has no bytes, and changes nothing
draw_only : (e : Edit) (s : NodeState) → is_stored e ≡ false → (edit_bytes e ≡ []) × (applied e s ≡ s)
unfolding edit_bytes applied
draw_only (Reserve layer limit) s stored = absurd (cc)
draw_only (Floor layer key sender value) s stored = absurd (cc)
draw_only (Start key value) s stored = absurd (cc)
draw_only (Moved (Draw key)) s stored = (refl, refl)
draw_only (Moved (DropNet key)) s stored = absurd (cc)
draw_only (Moved (DropLink partner key)) s stored = absurd (cc)
draw_only (Moved (Install key sequence)) s stored = absurd (cc)
draw_only (Moved (Active key)) s stored = absurd (cc)
draw_only (Moved (Row partner key attribute)) s stored = absurd (cc)
draw_only (Moved (Pair first second key)) s stored = absurd (cc)
draw_only (Moved (Became model_state)) s stored = absurd (cc)
draw_only (Moved (Live device)) s stored = absurd (cc)
draw_only (Moved (Removed device)) s stored = absurd (cc)
draw_only (Moved (Roll sending)) s stored = absurd (cc)
draw_only (Moved (Told device)) s stored = absurd (cc)
draw_only (Moved (Untold device)) s stored = absurd (cc)

written_again : (v : Version) → v ≢ First → (cs : List Change) (rest : List ℕ) (s : NodeState) → keeps_rules s ≡ true
    → AllByRecursion InRange cs → all_fit (edits cs) s ≡ true
    → changes_redone v (length (filter is_stored (edits cs))) (flat_map edit_bytes (edits cs) ++ rest) (shown s)
    ≡ at_end (shown (applied_all (edits cs) s)) rest
unfolding changes_redone all_fit applied_all
written_again v other [] rest s kept fits_range fit = refl
written_again v other (c ∷ cs) rest s kept range fit =
    let parts = both (fits (edit c) s) (all_fit (edits cs) (applied (edit c) s)) fit in
    ap (λ bytes. changes_redone v (length (filter is_stored (edits (c ∷ cs)))) (bytes ++ rest) (shown s))
    (flat_map-cons edit_bytes (edit c) (edits cs))
    ∙ by_stored (is_stored (edit c)) refl parts.0 parts.1
    (λ u rules later. written_again v other cs rest u rules range.1 later)
  where
    by_stored : (b : Bool) → is_stored (edit c) ≡ b → fits (edit c) s ≡ true → all_fit (edits cs) (applied (edit c) s)
        ≡ true
        → ((u : NodeState) → keeps_rules u ≡ true → all_fit (edits cs) u ≡ true
        → changes_redone v (length (filter is_stored (edits cs))) (flat_map edit_bytes (edits cs) ++ rest)
        (shown u) ≡ at_end (shown (applied_all (edits cs) u)) rest)
        → changes_redone v (length (if b then edit c ∷ filter is_stored (edits cs) else filter is_stored (edits cs)))
        ((edit_bytes (edit c) ++ flat_map edit_bytes (edits cs)) ++ rest) (shown s)
        ≡ at_end (shown (applied_all (edits cs) (applied (edit c) s))) rest
    by_stored true is one all later =
        let bytes = edit_bytes (edit c) ++ (flat_map edit_bytes (edits cs) ++ rest) in
        let read = change_again (length bytes) c (flat_map edit_bytes (edits cs) ++ rest) range.0 is in
        let fit_shown : fits_behind v (edit c) (shown s) ≡ true = later_fits v other (edit c) (shown s) ∙ fits_shown
        (edit c) s kept ∙ one in
        let same : shown (applied_behind v (edit c) (shown s)) ≡ shown (applied (edit c) s) =
        ap shown (later_applied v other (edit c) (shown s)) ∙ shown_applied (edit c) s in
        let step : change_redone v bytes (shown s)
        ≡ at_end (shown (applied (edit c) s)) (flat_map edit_bytes (edits cs) ++ rest) =
        one_made v bytes (flat_map edit_bytes (edits cs) ++ rest) (shown s) c read fit_shown ∙ ap
        (λ t. at_end t (flat_map edit_bytes (edits cs) ++ rest)) same in
        ap (λ l. changes_redone v (suc (length (filter is_stored (edits cs)))) l (shown s))
        (append_assoc (edit_bytes (edit c)) (flat_map edit_bytes (edits cs)) rest)
        ∙ rw step (later (applied (edit c) s) (stored_fits (edit c) s is one) all)
    by_stored false is one all later =
        let none = draw_only (edit c) s is in
        ap (λ l. changes_redone v (length (filter is_stored (edits cs)))
        ((l ++ flat_map edit_bytes (edits cs)) ++ rest) (shown s)) none.0
        ∙ later s kept (subst (λ u. all_fit (edits cs) u ≡ true) none.1 all)
        ∙ ap (λ u. at_end (shown (applied_all (edits cs) u)) rest) (sym none.1)

-- The payload of changes that fit applies them.
pub payload_again : (v : Version) → v ≢ First → (cs : List Change) (s : NodeState) → keeps_rules s ≡ true
    → AllByRecursion InRange cs → all_fit (edits cs) s ≡ true → redone v (payload (edits cs)) (shown s)
    ≡ at_end (shown (applied_all (edits cs) s)) []
unfolding redone payload payloads_redone
payload_again v other cs s kept range fit =
    let bytes = flat_map edit_bytes (edits cs) in
    let again : changes_redone v (length (filter is_stored (edits cs))) bytes (shown s)
    ≡ at_end (shown (applied_all (edits cs) s)) [] =
    ap (λ l. changes_redone v (length (filter is_stored (edits cs))) l (shown s)) (sym (append-nil bytes)) ∙
    written_again v other cs [] s kept range fit in
    rw again (none (length bytes) (shown (applied_all (edits cs) s)))
  where
    none : (k : ℕ) (t : NodeState) → payloads_redone v k [] t ≡ at_end t []
    none zero t = refl
    none (suc k) t = refl

pub entries_again : (v : Version) (q : List ℕ) (cs : List Change) (s t : NodeState) → v ≢ First → keeps_rules t ≡ true
    → shown t ≡ t → AllByRecursion InRange cs → all_fit (edits cs) t ≡ true → redone v q s ≡ at_end t []
    → redone v (q ++ payload (edits cs)) s ≡ at_end (shown (applied_all (edits cs) t)) []
entries_again v q cs s t other kept same range fit e = redone_behind v q (payload (edits cs)) s t e ∙ ap
    (redone v (payload (edits cs))) (sym same) ∙ payload_again v other cs t kept range fit
