-- Frames that are cut into pieces, one piece for each share.
use Rattle.std.proofs.Common.{◌≡◌, ℕ, zero, suc, ◌+◌, ◌-◌, ◌*◌, ◌≤◌, List, ◌∷◌, [], ◌++◌, length, min, refl, ap, sym, ◌∙◌, subst, arith}
use Rattle.std.specs.Int.{div_ceil}
use Rattle.std.specs.List.{AllByRecursion, AllZip}
use Rattle.std.proofs.lemmas.Grind.{div_ceil_times}
use Rattle.zb_parallel.specs.Shares.{AreShares}
use Rattle.zb_parallel.specs.declared.share.Share.{Share}
use Rattle.zb_inspect.specs.Pieces.{AreSized, all_blocks, count_of, HasShare, IsShareWithin, IsUnseen, Numbered}
use Rattle.zb_inspect.specs.declared.piece.Piece.{Piece}
use Rattle.zb_inspect.proofs.Lists.{all_append}
use Rattle.zb_inspect.proofs.PieceLists.{counts_append, numbered_append}

-- One more item on each side

zip_end : {A B : Type 0} (R : A → B → Type 0) (xs : List A) (ys : List B) (x : A) (y : B) → AllZip R xs ys → R x y
    → AllZip R (xs ++ x ∷ []) (ys ++ y ∷ [])
zip_end R [] [] x y all related = (related, tt)
zip_end R [] (v ∷ ys) x y all related = absurd all
zip_end R (u ∷ xs) [] x y all related = absurd all
zip_end R (u ∷ xs) (v ∷ ys) x y all related = (all.0, zip_end R xs ys x y all.1 related)

pub zip_more : {A B : Type 0} (R : A → B → Type 0) (xs : List A) (ys zs : List B) (x : A) (y : B) → AllZip R xs ys
    → R x y → zs ≡ ys ++ y ∷ []
    → AllZip R (xs ++ x ∷ []) zs
zip_more {A} {B} R xs ys zs x y all related items =
    let P : List B → Type 0 = λ bs. AllZip R (xs ++ x ∷ []) bs in subst P (sym items) (zip_end R xs ys x y all related)

-- The shares of that many items begin within them.
pub all_within : (items size number first left : ℕ) (shares : List Share) → AreShares size number first left shares
    → first + left ≤ items
    → AllByRecursion (IsShareWithin items) shares
all_within items size number first left [] cut room = tt
all_within items size number first left (s ∷ shares) cut room = (
  omega (arith, cut.1, cut.2, room),
  all_within items size (number + 1) (first + min size left) (left - min size left) shares cut.4 (omega (arith, room)),
)

-- The pieces have all frames, in order

pub cut_numbers : (size number first left : ℕ) (shares : List Share) (pieces : List Piece)
    → AreShares size number first left shares
    → AllZip HasShare shares pieces → Numbered (first + 1) (all_blocks pieces)
cut_numbers size number first left [] [] cut all = tt
cut_numbers size number first left [] (p ∷ pieces) cut all = absurd all
cut_numbers size number first left (s ∷ shares) [] cut all = absurd all
cut_numbers size number first left (s ∷ shares) (p ∷ pieces) cut all =
    let P : ℕ → Type 0 = λ n. Numbered n p.blocks.items in
    let Q : ℕ → Type 0 = λ n. Numbered n (all_blocks pieces) in
    numbered_append (first + 1) p.blocks.items (all_blocks pieces) (subst P (ap (λ n. n + 1) cut.1) all.0.numbers)
    (subst Q (omega (arith, all.0.count, cut.3))
    (cut_numbers size (number + 1) (first + min size left) (left - min size left) shares pieces cut.4 all.1))

pub cut_counts : (size number first left : ℕ) (shares : List Share) (pieces : List Piece)
    → AreShares size number first left shares
    → AllZip HasShare shares pieces → count_of (all_blocks pieces) ≡ left
cut_counts size number first left [] [] cut all = sym cut
cut_counts size number first left [] (p ∷ pieces) cut all = absurd all
cut_counts size number first left (s ∷ shares) [] cut all = absurd all
cut_counts size number first left (s ∷ shares) (p ∷ pieces) cut all =
    omega (
      arith,
      counts_append p.blocks.items (all_blocks pieces),
      all.0.count,
      cut.3,
      cut_counts size (number + 1) (first + min size left) (left - min size left) shares pieces cut.4 all.1,
    )

pub cut_unseen : (shares : List Share) (pieces : List Piece) → AllZip HasShare shares pieces
    → AllByRecursion IsUnseen (all_blocks pieces)
cut_unseen [] [] all = tt
cut_unseen [] (p ∷ pieces) all = absurd all
cut_unseen (s ∷ shares) [] all = absurd all
cut_unseen (s ∷ shares) (p ∷ pieces) all =
    all_append IsUnseen p.blocks.items (all_blocks pieces) all.0.unseen (cut_unseen shares pieces all.1)

pub cut_sized : (size number first left : ℕ) (shares : List Share) (pieces : List Piece)
    → AreShares size number first left shares
    → AllZip HasShare shares pieces → AreSized size number left pieces
cut_sized size number first left [] [] cut all = cut
cut_sized size number first left [] (p ∷ pieces) cut all = absurd all
cut_sized size number first left (s ∷ shares) [] cut all = absurd all
cut_sized size number first left (s ∷ shares) (p ∷ pieces) cut all = (
  all.0.number ∙ cut.0,
  cut.2,
  all.0.count ∙ cut.3,
  cut_sized size (number + 1) (first + min size left) (left - min size left) shares pieces cut.4 all.1,
)

pub cut_lengths : (shares : List Share) (pieces : List Piece) → AllZip HasShare shares pieces → length pieces
    ≡ length shares
cut_lengths [] [] all = refl
cut_lengths [] (p ∷ pieces) all = absurd all
cut_lengths (s ∷ shares) [] all = absurd all
cut_lengths (s ∷ shares) (p ∷ pieces) all = ap suc (cut_lengths shares pieces all.1)

-- There are no more pieces than jobs.
few_pieces : (size number left jobs : ℕ) (pieces : List Piece) → AreSized size number left pieces → left ≤ size * jobs
    → length pieces ≤ jobs
few_pieces size number left jobs [] sized most = omega arith
few_pieces size number left zero (p ∷ more) sized most = absurd (omega (arith, most, sized.1))
few_pieces size number left (suc jobs) (p ∷ more) sized most =
    omega (arith, few_pieces size (number + 1) (left - min size left) jobs more sized.3 (omega (arith, most)))

-- The same for as many frames as there are.
pub sized_as : (frames jobs all : ℕ) (pieces : List Piece) → all ≡ frames → AreSized (div_ceil all jobs) 0 all pieces
    → AreSized (div_ceil frames jobs) 0 frames pieces
sized_as frames jobs all pieces is sized = let P : ℕ → Type 0 = λ n. AreSized (div_ceil n jobs) 0 n pieces in subst P
    is sized

pub no_more_than_jobs : (frames jobs : ℕ) (pieces : List Piece) → 1 ≤ jobs
    → AreSized (div_ceil frames jobs) 0 frames pieces → length pieces ≤ jobs
no_more_than_jobs frames jobs pieces some sized = few_pieces (div_ceil frames jobs) 0 frames jobs pieces sized
    (div_ceil_times frames jobs (omega (arith, some))).0
