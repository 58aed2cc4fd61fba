-- Lines give the same after other lines as by themselves, if that fits.
use Rattle.std.proofs.Common.{◌≡◌, ℕ, ◌+◌, ◌<◌, ◌≤◌, List, [], ◌∷◌, ◌++◌, length, refl, ap, sym, ◌∙◌, subst, arith, length-append, append_assoc, append-nil, Bool, true, false, not, ◌&&◌, ◌||◌, nat_lt, bytes_eq, codes, if◌then◌else◌, Option, Some, None, Result, Ok, Err}
use Rattle.std.specs.List.{list_all, list_any}
use Rattle.std.proofs.lemmas.Bool.Decides.{nat_tests}
use Rattle.std.proofs.lemmas.List.Folds.{list_any-append}
use Rattle.arrayvec.specs.ArrayVec.{ArrayVec}
use Rattle.zb_base.specs.declared.address.Eui.{Eui}
use Rattle.zb_base.specs.declared.address.Short.{Short}
use Rattle.zb_base.specs.declared.key.Key.{Key}
use Rattle.zb_text.specs.Words.{words}
use Rattle.zb_capture.specs.Grammar.{empty, has_short, is_skipped, key_in, code_in, addr_in, frame_in, with_key, with_code, with_addr, with_frame, with_words, with_line, with_lines, at_line}
use Rattle.zb_capture.specs.Pieces.{both, is_new, Fit}
use Rattle.zb_capture.specs.Readings.{Reading, Lead, no_lines}
use Rattle.zb_capture.proofs.LineLaws.{ok_is, no_ok, count_on, no_more}
use Rattle.zb_capture.specs.declared.capture.Capture.{Capture}
use Rattle.zb_capture.specs.declared.fault.CaptureCause.{CaptureCause}
use Rattle.zb_capture.specs.declared.fault.CaptureCause.TheVariants.{Syntax, BadCode, TooMany, AddressTaken}

under : (n most : ℕ) → n < most → nat_lt n most ≡ true
under n most less = grind (arith, nat_tests)

-- What `step` makes of `d`, it makes of `d` after `c`, if the result fits after `c`. Then `d` fits too.
abbrev Behind : (Capture → Result Capture CaptureCause) → Capture → Capture → Capture → Type 0
Behind step c d e = (step (both c d) ≡ Ok (both c e)) × Fit c d

-- One key more.

key_fits : (c d : Capture) (key : Key) → Fit c (record d { keys = d.keys ++ key ∷ [] })
    → Behind (λ x. with_key x (Some key)) c d (record d { keys = d.keys ++ key ∷ [] })
key_fits c d key fit =
    let most : length c.keys + (length d.keys + 1) ≤ 256 =
    omega (arith, fit.limits.keys, length-append c.keys (d.keys ++ key ∷ []), length-append d.keys (key ∷ [])) in
    let less : length (c.keys ++ d.keys) < 256 = omega (arith, most, length-append c.keys d.keys) in (
      rw (under (length (c.keys ++ d.keys)) 256 less)
          (ap (λ keys. Ok (record (both c d) { keys = keys })) (append_assoc c.keys d.keys (key ∷ []))),
      record {
        limits = record { keys = omega (arith, less); frames = fit.limits.frames };
        apart = fit.apart;
      },
    )

key_test : (c d e : Capture) (key : Key) (b : Bool) → (if b then Ok (record d { keys = d.keys ++ key ∷ [] })
    else Err TooMany) ≡ Ok e → Fit c e
    → Behind (λ x. with_key x (Some key)) c d e
key_test c d e key true ok fit =
    let is = ok_is (record d { keys = d.keys ++ key ∷ [] }) e _ refl ok in
    let P : Capture → Type 0 = λ x. Fit c x → Behind (λ y. with_key y (Some key)) c d x in
    subst P is (key_fits c d key) fit
key_test c d e key false ok fit = no_ok _ TooMany e _ refl ok

key_behind : (c d e : Capture) (o : Option Key) → with_key d o ≡ Ok e → Fit c e → Behind (λ x. with_key x o) c d e
key_behind c d e None ok fit = no_ok _ Syntax e _ refl ok
key_behind c d e (Some key) ok fit = key_test c d e key (nat_lt (length d.keys) 256) ok fit

code_behind : (c d e : Capture) (o : Option (Option Key)) → with_code d o ≡ Ok e → Fit c e
    → Behind (λ x. with_code x o) c d e
code_behind c d e None ok fit = no_ok _ Syntax e _ refl ok
code_behind c d e (Some None) ok fit = no_ok _ BadCode e _ refl ok
code_behind c d e (Some (Some key)) ok fit = key_behind c d e (Some key) ok fit

-- One frame more.
frame_fits : (c d : Capture) (frame : ArrayVec ℕ) → Fit c (record d { frames = d.frames ++ frame ∷ [] })
    → Behind (λ x. with_frame x (Some frame)) c d (record d { frames = d.frames ++ frame ∷ [] })
frame_fits c d frame fit =
    let most : length c.frames + (length d.frames + 1) ≤ 100000 =
    omega (
      arith,
      fit.limits.frames,
      length-append c.frames (d.frames ++ frame ∷ []),
      length-append d.frames (frame ∷ []),
    ) in
    let less : length (c.frames ++ d.frames) < 100000 = omega (arith, most, length-append c.frames d.frames) in (
      rw (under (length (c.frames ++ d.frames)) 100000 less)
          (ap (λ frames. Ok (record (both c d) { frames = frames })) (append_assoc c.frames d.frames (frame ∷ []))),
      record {
        limits = record { keys = fit.limits.keys; frames = omega (arith, less) };
        apart = fit.apart;
      },
    )

frame_test : (c d e : Capture) (frame : ArrayVec ℕ) (b : Bool)
    → (if b then Ok (record d { frames = d.frames ++ frame ∷ [] }) else Err TooMany) ≡ Ok e
    → Fit c e → Behind (λ x. with_frame x (Some frame)) c d e
frame_test c d e frame true ok fit =
    let is = ok_is (record d { frames = d.frames ++ frame ∷ [] }) e _ refl ok in
    let P : Capture → Type 0 = λ x. Fit c x → Behind (λ y. with_frame y (Some frame)) c d x in
    subst P is (frame_fits c d frame) fit
frame_test c d e frame false ok fit = no_ok _ TooMany e _ refl ok

frame_behind : (c d e : Capture) (o : Option (ArrayVec ℕ)) → with_frame d o ≡ Ok e → Fit c e
    → Behind (λ x. with_frame x o) c d e
frame_behind c d e None ok fit = no_ok _ Syntax e _ refl ok
frame_behind c d e (Some frame) ok fit = frame_test c d e frame (nat_lt (length d.frames) 100000) ok fit

-- One address more.
and_both : (a b : Bool) → (a && b) ≡ true → (a ≡ true) × (b ≡ true)
and_both true b both = (refl, both)
and_both false b both = absurd (cc both)

both_and : (a b : Bool) → a ≡ true → b ≡ true → (a && b) ≡ true
both_and a b one other = rw (one, other) refl

old_is_not_new : (b : Bool) → not b ≡ true → b ≡ false
old_is_not_new true new = absurd (cc new)
old_is_not_new false new = refl

apart_split : (addrs more : List (Short × Eui)) (addr : Short × Eui) → list_all (is_new addrs) (more ++ addr ∷ [])
    ≡ true
    → (list_all (is_new addrs) more ≡ true) × (list_any (has_short addr.0) addrs ≡ false)
apart_split addrs [] addr all =
    (refl, old_is_not_new (list_any (has_short addr.0) addrs) (and_both (is_new addrs addr) true all).0)
apart_split addrs (x ∷ more) addr all =
    let here = and_both (is_new addrs x) (list_all (is_new addrs) (more ++ addr ∷ [])) all in
    let rest =
    apart_split addrs more addr here.1 in
    (both_and (is_new addrs x) (list_all (is_new addrs) more) here.0 rest.0, rest.1)

neither : (a b : Bool) → a ≡ false → b ≡ false → (a || b) ≡ false
neither a b e f = rw (e, f) refl

addr_fits : (c d : Capture) (addr : Short × Eui) → list_any (has_short addr.0) d.addrs ≡ false
    → Fit c (record d { addrs = d.addrs ++ addr ∷ [] })
    → Behind (λ x. with_addr x (Some addr)) c d (record d { addrs = d.addrs ++ addr ∷ [] })
addr_fits c d addr new fit =
    let split = apart_split c.addrs d.addrs addr fit.apart in
    let test : list_any (has_short addr.0) (c.addrs ++ d.addrs) ≡ false =
    list_any-append (has_short addr.0) c.addrs d.addrs
    ∙ neither (list_any (has_short addr.0) c.addrs) (list_any (has_short addr.0) d.addrs) split.1 new in (
      rw test
          (ap (λ addrs. Ok (record (both c d) { addrs = addrs })) (append_assoc c.addrs d.addrs (addr ∷ []))),
      record {
        limits = record { keys = fit.limits.keys; frames = fit.limits.frames };
        apart = split.0;
      },
    )

addr_test : (c d e : Capture) (addr : Short × Eui) (b : Bool) → list_any (has_short addr.0) d.addrs ≡ b
    → (if b then Err AddressTaken else Ok (record d { addrs = d.addrs ++ addr ∷ [] })) ≡ Ok e → Fit c e
    → Behind (λ x. with_addr x (Some addr)) c d e
addr_test c d e addr true is ok fit = no_ok _ AddressTaken e _ refl ok
addr_test c d e addr false new ok fit =
    let is = ok_is (record d { addrs = d.addrs ++ addr ∷ [] }) e _ refl ok in
    let P : Capture → Type 0 = λ x. Fit c x → Behind (λ y. with_addr y (Some addr)) c d x in
    subst P is (addr_fits c d addr new) fit

addr_behind : (c d e : Capture) (o : Option (Short × Eui)) → with_addr d o ≡ Ok e → Fit c e
    → Behind (λ x. with_addr x o) c d e
addr_behind c d e None ok fit = no_ok _ Syntax e _ refl ok
addr_behind c d e (Some addr) ok fit = addr_test c d e addr (list_any (has_short addr.0) d.addrs) refl ok fit

-- A line.
abbrev by_kind : Bool → Bool → Bool → Bool → List (List ℕ) → Capture → Result Capture CaptureCause
by_kind f k o a more c =
    if f then with_frame c (frame_in more)
    else if k then with_key c (key_in more)
    else if o then with_code c (code_in more)
    else if a then with_addr c (addr_in more)
    else Err Syntax

kind_behind : (c d e : Capture) (more : List (List ℕ)) (f k o a : Bool) → by_kind f k o a more d ≡ Ok e → Fit c e
    → Behind (by_kind f k o a more) c d e
kind_behind c d e more true k o a ok fit = frame_behind c d e (frame_in more) ok fit
kind_behind c d e more false true o a ok fit = key_behind c d e (key_in more) ok fit
kind_behind c d e more false false true a ok fit = code_behind c d e (code_in more) ok fit
kind_behind c d e more false false false true ok fit = addr_behind c d e (addr_in more) ok fit
kind_behind c d e more false false false false ok fit = no_ok _ Syntax e _ refl ok

words_behind : (c d e : Capture) (line : List (List ℕ)) → with_words d line ≡ Ok e → Fit c e
    → Behind (λ x. with_words x line) c d e
words_behind c d e [] ok fit = no_ok _ Syntax e _ refl ok
words_behind c d e (kind ∷ more) ok fit =
    kind_behind c d e more (bytes_eq kind (codes "frame")) (bytes_eq kind (codes "key"))
    (bytes_eq kind (codes "code")) (bytes_eq kind (codes "addr")) ok fit

skip_behind : (c d e : Capture) (line : List (List ℕ)) (b : Bool) → (if b then Ok d else with_words d line) ≡ Ok e
    → Fit c e
    → Behind (λ x. if b then Ok x else with_words x line) c d e
skip_behind c d e line true ok fit =
    let P : Capture → Type 0 = λ x. Fit c x → Behind (λ y. Ok y) c d x in subst P (ok_is d e _ refl ok)
    (λ f. (refl, f)) fit
skip_behind c d e line false ok fit = words_behind c d e line ok fit

line_behind : (c d e : Capture) (line : List ℕ) → with_line d line ≡ Ok e → Fit c e
    → Behind (λ x. with_line x line) c d e
unfolding with_line
line_behind c d e line ok fit = skip_behind c d e (words (Some line)) (is_skipped line) ok fit

-- Lines, and what comes after them.
abbrev Carried : ℕ → Capture → Capture → Capture → List (List ℕ) → List (List ℕ) → Type 0
Carried n c d e piece rest = (with_lines n (both c d) (piece ++ rest) ≡ with_lines (n + length piece) (both c e) rest)
    × Fit c d

carried_on : (n m : ℕ) (c d e : Capture) (line : List ℕ) (piece rest : List (List ℕ))
    (r : Result Capture CaptureCause) → with_line d line ≡ r
    → at_line m r (λ next. with_lines (m + 1) next piece) ≡ Ok e
    → ((next : Capture) → with_lines (m + 1) next piece ≡ Ok e → Carried (n + 1) c next e piece rest)
    → Carried n c d e (line ∷ piece) rest
carried_on n m c d e line piece rest (Err cause) is ok more = no_ok _ (record { line = m; cause = cause }) e _ refl ok
carried_on n m c d e line piece rest (Ok next) is ok more =
    let on = more next ok in
    let here = line_behind c d next line is on.1 in (
      ap (λ r. at_line n r (λ x. with_lines (n + 1) x (piece ++ rest))) here.0
          ∙ on.0
          ∙ ap (λ k. with_lines k (both c e) rest) (count_on n (length piece)),
      here.1,
    )

carried : (n m : ℕ) (c d e : Capture) (piece rest : List (List ℕ)) → with_lines m d piece ≡ Ok e → Fit c e
    → Carried n c d e piece rest
carried n m c d e [] rest ok fit =
    let P : Capture → Type 0 = λ x. Fit c x → Carried n c d x [] rest in
    subst P (ok_is d e _ refl ok) (λ f. (ap (λ k. with_lines k (both c d) rest) (no_more n), f)) fit
carried n m c d e (line ∷ piece) rest ok fit =
    carried_on n m c d e line piece rest (with_line d line) refl ok
    (λ next more. carried (n + 1) (m + 1) c next e piece rest more fit)

-- Pieces.
behind_nothing : (c : Capture) → both c empty ≡ c
behind_nothing c = rw (append-nil c.keys, append-nil c.addrs, append-nil c.frames) refl

-- A piece that was read by itself, after other lines.
pub lead_behind : (r new more : Reading) (piece : List (List ℕ)) → Lead no_lines piece more
    → Fit r.capture more.capture
    → new.lines ≡ r.lines + more.lines → new.capture ≡ both r.capture more.capture → Lead r piece new
lead_behind r new more piece lead fit count is =
    let on = carried (r.lines + 1) 1 r.capture empty more.capture piece [] lead.gives fit in
    record {
      gives = ap (λ x. with_lines (r.lines + 1) x piece) (sym (behind_nothing r.capture))
          ∙ ap (with_lines (r.lines + 1) (both r.capture empty)) (sym (append-nil piece))
          ∙ on.0 ∙ ap (λ x. Ok x) (sym is);
      count = omega (arith, count, lead.count);
    }
