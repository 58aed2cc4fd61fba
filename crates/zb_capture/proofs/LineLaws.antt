-- Two lists of lines that are read one after the other.
use Rattle.std.proofs.Common.{◌≡◌, ℕ, suc, ◌+◌, List, [], ◌∷◌, ◌++◌, length, refl, ap, ◌∙◌, arith, length-append, Result, Ok, Err}
use Rattle.zb_capture.specs.Grammar.{with_line, with_lines, at_line}
use Rattle.zb_capture.specs.Readings.{Reading, Lead, with_more}
use Rattle.zb_capture.specs.declared.capture.Capture.{Capture}
use Rattle.zb_capture.specs.declared.fault.CaptureCause.{CaptureCause}
use Rattle.zb_capture.specs.declared.fault.CaptureError.{CaptureError}

pub ok_is : {A E : Type 0} (x y : A) (r : Result A E) → r ≡ Ok x → r ≡ Ok y → x ≡ y
ok_is x y r one other = cc (one, other)

pub no_ok : {A E : Type 0} (P : Type 0) (fault : E) (y : A) (r : Result A E) → r ≡ Err fault → r ≡ Ok y → P
no_ok P fault y r one other = absurd (cc (one, other))

pub count_on : (n more : ℕ) → n + 1 + more ≡ n + suc more
count_on n more = omega arith

pub no_more : (n : ℕ) → n ≡ n + 0
no_more n = omega arith

-- Lines after lines.
line_then : (n : ℕ) (c d : Capture) (line : List ℕ) (first more : List (List ℕ)) (r : Result Capture CaptureCause)
    → at_line n r (λ next. with_lines (n + 1) next first) ≡ Ok d
    → ((next : Capture) → with_lines (n + 1) next first ≡ Ok d → with_lines (n + 1) next (first ++ more)
    ≡ with_lines (n + 1 + length first) d more)
    → at_line n r (λ next. with_lines (n + 1) next (first ++ more)) ≡ with_lines (n + length (line ∷ first)) d more
line_then n c d line first more (Err cause) ok on = no_ok _ (record { line = n; cause = cause }) d _ refl ok
line_then n c d line first more (Ok next) ok on = on next ok ∙ ap (λ k. with_lines k d more)
    (count_on n (length first))

lines_then : (n : ℕ) (c d : Capture) (first more : List (List ℕ)) → with_lines n c first ≡ Ok d
    → with_lines n c (first ++ more) ≡ with_lines (n + length first) d more
lines_then n c d [] more ok = ap (λ x. with_lines n x more) (ok_is c d _ refl ok) ∙ ap (λ k. with_lines k d more)
    (no_more n)
lines_then n c d (line ∷ first) more ok =
    line_then n c d line first more (with_line c line) ok (λ next is. lines_then (n + 1) next d first more is)

pub lead_then : (r s : Reading) (first more : List (List ℕ)) → Lead r first s → with_more r (first ++ more)
    ≡ with_more s more
lead_then r s first more lead =
    lines_then (r.lines + 1) r.capture s.capture first more lead.gives
    ∙ ap (λ k. with_lines k s.capture more) (omega (arith, lead.count))

pub leads : (r s t : Reading) (first more : List (List ℕ)) → Lead r first s → Lead s more t → Lead r (first ++ more) t
leads r s t first more lead next = record {
  gives = lead_then r s first more lead ∙ next.gives;
  count = omega (arith, lead.count, next.count, length-append first more);
}

-- A bad line, whatever comes after it.
bad_line : (n : ℕ) (first more : List (List ℕ)) (fault : CaptureError) (r : Result Capture CaptureCause)
    → at_line n r (λ next. with_lines (n + 1) next first) ≡ Err fault
    → ((next : Capture) → with_lines (n + 1) next first ≡ Err fault → with_lines (n + 1) next (first ++ more)
    ≡ Err fault)
    → at_line n r (λ next. with_lines (n + 1) next (first ++ more)) ≡ Err fault
bad_line n first more fault (Err cause) bad on = bad
bad_line n first more fault (Ok next) bad on = on next bad

bad_lines : (n : ℕ) (c : Capture) (first more : List (List ℕ)) (fault : CaptureError) → with_lines n c first
    ≡ Err fault → with_lines n c (first ++ more) ≡ Err fault
bad_lines n c [] more fault bad = no_ok _ fault c _ bad refl
bad_lines n c (line ∷ first) more fault bad = bad_line n first more fault (with_line c line) bad
    (λ next is. bad_lines (n + 1) next first more fault is)

pub bad_then : (r : Reading) (first more : List (List ℕ)) (fault : CaptureError) → with_more r first ≡ Err fault
    → with_more r (first ++ more) ≡ Err fault
bad_then r first more fault bad = bad_lines (r.lines + 1) r.capture first more fault bad
