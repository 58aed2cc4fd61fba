-- Pieces of a text that are read one after the other.
use Rattle.std.proofs.Common.{◌≡◌, ℕ, ◌+◌, ◌<◌, ◌≤◌, List, [], ◌∷◌, ◌++◌, length, refl, ap, sym, ◌∙◌, subst, arith, length-append, append_assoc, append-nil, Result, Ok, Err}
use Rattle.std.specs.Result.{IsErrAnd}
use Rattle.std.specs.List.{AllByRecursion, flat_map}
use Rattle.std.specs.Str.Lines.{lines}
use Rattle.zb_base.specs.declared.fault.OrMemory.{OrMemory}
use Rattle.zb_base.specs.declared.fault.OrMemory.TheVariants as error
use Rattle.zb_capture.specs.declared.fault.CaptureError.{CaptureError}
use Rattle.zb_capture.specs.declared.pieces.Found.{Found}
use Rattle.zb_capture.specs.Pieces.{all_found, AreCut, IsFound}
use Rattle.zb_capture.specs.Readings.{Reading, Lead, with_more, AreRead}
use Rattle.zb_capture.proofs.LineLaws.{bad_then, lead_then, leads}

-- Some pieces of a text were read, and others are left.
pub record IsUnderWay (old now : Reading) (text : List ℕ) (done left : List Found) : Type 0 where
  pub lead : Lead old (flat_map lines (all_found done)) now
  pub count : now.lines ≤ old.lines + length (flat_map (λ part. part) (all_found done))
  pub cut : AreCut text (all_found (done ++ left))
  pub found : AllByRecursion IsFound left

parts_of : {A : Type 0} (f : List ℕ → List A) (done left : List Found)
    → flat_map f (all_found (done ++ left)) ≡ flat_map f (all_found done) ++ flat_map f (all_found left)
parts_of f [] left = refl
parts_of f (piece ∷ done) left =
    ap (λ zs. f piece.text.now ++ zs) (parts_of f done left)
    ∙ sym (append_assoc (f piece.text.now) (flat_map f (all_found done)) (flat_map f (all_found left)))

with_part : {A : Type 0} (f : List ℕ → List A) (done : List Found) (piece : Found)
    → flat_map f (all_found (done ++ piece ∷ [])) ≡ flat_map f (all_found done) ++ f piece.text.now
with_part f done piece = parts_of f done (piece ∷ []) ∙ ap (λ zs. flat_map f (all_found done) ++ zs)
    (append-nil (f piece.text.now))

-- There is room for the next piece.
pub has_room : (old now : Reading) (text : List ℕ) (done left more : List Found) (piece : Found) (most : ℕ)
    → IsUnderWay old now text done left
    → left ≡ piece ∷ more → old.lines + length text < most → now.lines + length piece.text.now < most
has_room old now text done left more piece most is next room =
    let rest = flat_map (λ part. part) (all_found more) in
    let whole = ap (length {A = ℕ}) (sym (parts_of (λ part. part) done left) ∙ is.cut.whole) in
    let behind = ap (λ (ps : List Found). length (flat_map (λ part. part) (all_found ps))) next in
    omega (
      arith,
      is.count,
      room,
      whole,
      behind,
      length-append piece.text.now rest,
      length-append (flat_map (λ part. part) (all_found done)) (flat_map (λ part. part) (all_found left)),
    )

-- The next piece was read.
pub one_taken : (old now then : Reading) (text : List ℕ) (done left more : List Found) (piece : Found)
    → IsUnderWay old now text done left
    → left ≡ piece ∷ more → Lead now (lines piece.text.now) then → then.lines ≤ now.lines + length piece.text.now
    → IsUnderWay old then text (done ++ piece ∷ []) more
one_taken old now then text done left more piece is next lead count =
    let L : List (List ℕ) → Type 0 = λ ls. Lead old ls then in
    let C : List Found → Type 0 = λ ps. AreCut text (all_found ps) in
    let F : List Found → Type 0 = λ ps. AllByRecursion IsFound ps in
    record {
      lead = subst L (sym (with_part lines done piece))
          (leads old now then (flat_map lines (all_found done)) (lines piece.text.now) is.lead lead);
      count = omega (
        arith,
        is.count,
        count,
        ap (length {A = ℕ}) (with_part (λ part. part) done piece),
        length-append (flat_map (λ part. part) (all_found done)) piece.text.now,
      );
      cut = subst C (ap (λ ps. done ++ ps) next ∙ sym (append_assoc done (piece ∷ []) more)) is.cut;
      found = (subst F next is.found).1;
    }

-- The next piece has a bad line.
bad_next : (old now : Reading) (text : List ℕ) (done left more : List Found) (piece : Found) (fault : CaptureError)
    → IsUnderWay old now text done left
    → left ≡ piece ∷ more → with_more now (lines piece.text.now) ≡ Err fault → with_more old (lines text) ≡ Err fault
bad_next old now text done left more piece fault is next bad =
    let before = flat_map lines (all_found done) in
    let behind = flat_map lines (all_found more) in
    ap (with_more old)
    (sym is.cut.lines ∙ parts_of lines done left ∙ ap (λ (ps : List Found). before ++ flat_map lines (all_found ps))
    next)
    ∙ lead_then old now before (lines piece.text.now ++ behind) is.lead
    ∙ bad_then now (lines piece.text.now) behind fault bad

pub not_taken : (old now then : Reading) (text : List ℕ) (done left more : List Found) (piece : Found)
    (fault : OrMemory CaptureError)
    → IsUnderWay old now text done left → left ≡ piece ∷ more → AreRead (Err fault) now
    then piece.text.now → AreRead (Err fault) old then text
not_taken old now then text done left more piece (error.Fault fault) is next bad =
    bad_next old now text done left more piece fault is next bad
not_taken old now then text done left more piece error.NoMemory is next bad = tt

pub passed_on : (r : Result (Unit {0}) (OrMemory CaptureError)) (fault : OrMemory CaptureError)
    (P : Result (Unit {0}) (OrMemory CaptureError) → Type 0)
    → IsErrAnd r (λ e. e ≡ fault) → P (Err fault) → P r
passed_on (Ok done) fault P is p = absurd is
passed_on (Err e) fault P is p = let Q : OrMemory CaptureError → Type 0 = λ x. P (Err x) in subst Q (sym is) p
