-- Pieces and blocks, one after the other.
use Rattle.std.proofs.Common.{◌≡◌, ℕ, zero, suc, ◌+◌, ◌-◌, ◌<◌, ◌≤◌, min, List, [], ◌∷◌, ◌++◌, length, get_or, take, drop, drop-cons, add-one, Some, refl, ap, sym, ◌∙◌, subst, arith, append_assoc, add-zero, length-take, length-drop, true}
use Rattle.std.specs.List.{AllByRecursion, AllZip}
use Rattle.std.proofs.lemmas.Grind.{flat_map-append}
use Rattle.std.proofs.Math.Seq.{take-length}
use Rattle.arrayvec.specs.ArrayVec.{ArrayVec}
use Rattle.zb_base.specs.declared.address.Eui.{Eui}
use Rattle.zb_base.specs.declared.address.Short.{Short}
use Rattle.zb_base.specs.declared.key.Key.{Key}
use Rattle.zb_capture.specs.declared.capture.Capture.{Capture}
use Rattle.zb_inspect_frame.specs.Carrying.{keys_carried}
use Rattle.zb_inspect_frame.specs.declared.shown.Shown.{Shown}
use Rattle.zb_inspect.specs.Pieces.{AreSized, all_blocks, all_frames, all_leads, all_fresh, count_of, frames_in, fresh, found_in, IsCut, IsWithin, Numbered, StandsFor, MayStandFor, AllSee, IsShown, AreShown, IsUnseen, is_nothing, IsNext, IsNextPiece}
use Rattle.zb_inspect.specs.Rings.{leads, leads_of, learnt, with_key}
use Rattle.zb_inspect.specs.declared.block.Block.{Block}
use Rattle.zb_inspect.specs.declared.block.Seen.{Seen}
use Rattle.zb_inspect.specs.declared.block.Seen.TheVariants.{Nothing, Unopened, Lines, Whole}
use Rattle.zb_inspect.specs.declared.piece.Piece.{Piece}
use Rattle.zb_inspect.specs.declared.key_ring.Lead.{Lead}
use Rattle.zb_inspect.specs.declared.key_ring.RingKey.{RingKey}
use Rattle.zb_inspect.proofs.Lists.{all_append, all_front, all_back}

-- The first of the pieces that are left.
first_left : (pieces : List Piece) (i : ℕ) (p : Piece) → i < length pieces → p ≡ get_or pieces i p → drop i pieces ≡ p
    ∷ drop (i + 1) pieces
first_left pieces i p within is =
    rw add-one (drop-cons pieces i p within ∙ ap (λ (q : Piece). q ∷ drop (suc i) pieces) (sym is))

-- Blocks, one after the other

pub counts_append : (xs ys : List Block) → count_of (xs ++ ys) ≡ count_of xs + count_of ys
counts_append [] ys = omega arith
counts_append (x ∷ xs) ys = omega (arith, counts_append xs ys)

pub numbered_append : (frame : ℕ) (xs ys : List Block) → Numbered frame xs → Numbered (frame + count_of xs) ys
    → Numbered frame (xs ++ ys)
numbered_append frame [] ys so_far rest = let P : ℕ → Type 0 = λ n. Numbered n ys in subst P (add-zero frame) rest
numbered_append frame (x ∷ xs) ys so_far rest = (
  so_far.0,
  numbered_append (frame + x.count) xs ys so_far.1
      (let P : ℕ → Type 0 = λ n. Numbered n ys in subst P (omega arith) rest),
)

within_from : (n frame : ℕ) (blocks : List Block) → Numbered frame blocks → 1 ≤ frame → frame + count_of blocks
    ≤ n + 1 → AllByRecursion (IsWithin n) blocks
within_from n frame [] numbers some room = tt
within_from n frame (b ∷ blocks) numbers some room = (
  record { first = omega (arith, numbers.0, some); last = omega (arith, numbers.0, room) },
  within_from n (frame + b.count) blocks numbers.1 (omega (arith, some)) (omega (arith, room)),
)

take_none : {A : Type 0} (n : ℕ) → take {A = A} n [] ≡ []
take_none zero = refl
take_none (suc n) = refl

drop_none : {A : Type 0} (n : ℕ) → drop {A = A} n [] ≡ []
drop_none zero = refl
drop_none (suc n) = refl

nothing_more : (m : ℕ) → m ≡ 0 + m
nothing_more m = omega arith

one_later : (n m : ℕ) → suc (n + m) ≡ suc n + m
one_later n m = omega arith

pub take_more : {A : Type 0} (xs : List A) (n m : ℕ) → take n xs ++ take m (drop n xs) ≡ take (n + m) xs
take_more [] zero m = ap (λ k. take k []) (nothing_more m)
take_more [] (suc n) m = take_none m ∙ sym (take_none (suc n + m))
take_more (x ∷ xs) zero m = ap (λ k. take k (x ∷ xs)) (nothing_more m)
take_more (x ∷ xs) (suc n) m = ap (λ zs. x ∷ zs) (take_more xs n m) ∙ ap (λ k. take k (x ∷ xs)) (one_later n m)

pub drop_more : {A : Type 0} (xs : List A) (n m : ℕ) → drop m (drop n xs) ≡ drop (n + m) xs
drop_more [] zero m = ap (λ k. drop k []) (nothing_more m)
drop_more [] (suc n) m = drop_none m ∙ sym (drop_none (suc n + m))
drop_more (x ∷ xs) zero m = ap (λ k. drop k (x ∷ xs)) (nothing_more m)
drop_more (x ∷ xs) (suc n) m = drop_more xs n m ∙ ap (λ k. drop k (x ∷ xs)) (one_later n m)

frames_from : (frames : List (ArrayVec ℕ)) (n : ℕ) (blocks : List Block) → Numbered (n + 1) blocks
    → all_frames frames blocks ≡ take (count_of blocks) (drop n frames)
frames_from frames n [] numbers = refl
frames_from frames n (b ∷ blocks) numbers =
    let P : ℕ → Type 0 = λ k. Numbered k blocks in
    let first : b.first - 1 ≡ n = omega (arith, numbers.0) in
    ap (λ k. take b.count (drop k frames) ++ all_frames frames blocks) first
    ∙ ap (λ zs. take b.count (drop n frames) ++ zs)
    (frames_from frames (n + b.count) blocks (subst P (omega arith) numbers.1))
    ∙ ap (λ zs. take b.count (drop n frames) ++ take (count_of blocks) zs) (sym (drop_more frames n b.count))
    ∙ take_more (drop n frames) b.count (count_of blocks)

-- The blocks of a capture have all its frames.
pub whole_frames : (c : Capture) (pieces : List Piece) → IsCut c pieces → all_frames c.frames (all_blocks pieces)
    ≡ c.frames
whole_frames c pieces cut =
    frames_from c.frames 0 (all_blocks pieces) cut.numbers ∙ ap (λ n. take n c.frames) cut.count ∙ take-length c.frames

pub within_cut : (c : Capture) (pieces : List Piece) → IsCut c pieces
    → AllByRecursion (IsWithin (length c.frames)) (all_blocks pieces)
within_cut c pieces cut = within_from (length c.frames) 1 (all_blocks pieces) cut.numbers (omega arith)
    (omega (arith, cut.count))

pub frames_count : (frames : List (ArrayVec ℕ)) (b : Block) → IsWithin (length frames) b → length (frames_in frames b)
    ≡ b.count
frames_count frames b within =
    omega (
      arith,
      length-take b.count (drop (b.first - 1) frames),
      length-drop (b.first - 1) frames,
      within.first,
      within.last,
    )

-- Blocks of pieces

-- What holds for all blocks holds for those of each piece.
pub in_pieces : (P : Block → Type 0) (pieces : List Piece) → AllByRecursion P (all_blocks pieces)
    → AllByRecursion (λ (p : Piece). AllByRecursion P p.blocks.items) pieces
in_pieces P [] all = tt
in_pieces P (p ∷ pieces) all = (
  all_front P p.blocks.items (all_blocks pieces) all,
  in_pieces P pieces (all_back P p.blocks.items (all_blocks pieces) all),
)

pub numbered_front : (frame : ℕ) (xs ys : List Block) → Numbered frame (xs ++ ys) → Numbered frame xs
numbered_front frame [] ys numbers = tt
numbered_front frame (x ∷ xs) ys numbers = (numbers.0, numbered_front (frame + x.count) xs ys numbers.1)

pub numbered_back : (frame : ℕ) (xs ys : List Block) → Numbered frame (xs ++ ys) → Numbered (frame + count_of xs) ys
numbered_back frame [] ys numbers = let P : ℕ → Type 0 = λ n. Numbered n ys in subst P (sym (add-zero frame)) numbers
numbered_back frame (x ∷ xs) ys numbers =
    let P : ℕ → Type 0 = λ n. Numbered n ys in subst P (omega arith) (numbered_back (frame + x.count) xs ys numbers.1)

pub pieces_numbers : (frames : List (ArrayVec ℕ)) (addrs : List (Short × Eui)) (keys : List Key) (frame : ℕ)
    (old new : List Piece)
    → AllZip (IsNextPiece frames addrs keys) old new → Numbered frame (all_blocks old)
    → Numbered frame (all_blocks new)
pieces_numbers frames addrs keys frame [] [] all numbers = tt
pieces_numbers frames addrs keys frame [] (p ∷ new) all numbers = absurd all
pieces_numbers frames addrs keys frame (q ∷ old) [] all numbers = absurd all
pieces_numbers frames addrs keys frame (q ∷ old) (p ∷ new) all numbers =
    let P : ℕ → Type 0 = λ n. Numbered (frame + n) (all_blocks new) in
    numbered_append frame p.blocks.items (all_blocks new)
    (all.0.numbers frame (numbered_front frame q.blocks.items (all_blocks old) numbers))
    (subst P (sym all.0.count)
    (pieces_numbers frames addrs keys (frame + count_of q.blocks.items) old new all.1
    (numbered_back frame q.blocks.items (all_blocks old) numbers)))

pub pieces_counts : (frames : List (ArrayVec ℕ)) (addrs : List (Short × Eui)) (keys : List Key) (old new : List Piece)
    → AllZip (IsNextPiece frames addrs keys) old new → count_of (all_blocks new) ≡ count_of (all_blocks old)
pieces_counts frames addrs keys [] [] all = refl
pieces_counts frames addrs keys [] (p ∷ new) all = absurd all
pieces_counts frames addrs keys (q ∷ old) [] all = absurd all
pieces_counts frames addrs keys (q ∷ old) (p ∷ new) all =
    omega (
      arith,
      counts_append p.blocks.items (all_blocks new),
      counts_append q.blocks.items (all_blocks old),
      all.0.count,
      pieces_counts frames addrs keys old new all.1,
    )

pub pieces_sized : (frames : List (ArrayVec ℕ)) (addrs : List (Short × Eui)) (keys : List Key) (size number left : ℕ)
    (old new : List Piece)
    → AllZip (IsNextPiece frames addrs keys) old new → AreSized size number left old → AreSized size number left new
pieces_sized frames addrs keys size number left [] [] all sized = sized
pieces_sized frames addrs keys size number left [] (p ∷ new) all sized = absurd all
pieces_sized frames addrs keys size number left (q ∷ old) [] all sized = absurd all
pieces_sized frames addrs keys size number left (q ∷ old) (p ∷ new) all sized = (
  all.0.number ∙ sized.0,
  sized.1,
  all.0.count ∙ sized.2,
  pieces_sized frames addrs keys size (number + 1) (left - min size left) old new all.1 sized.3,
)

pub pieces_shown : (frames : List (ArrayVec ℕ)) (addrs : List (Short × Eui)) (keys : List Key) (old new : List Piece)
    → AllZip (IsNextPiece frames addrs keys) old new → AreShown frames addrs keys (all_blocks new)
pieces_shown frames addrs keys [] [] all = tt
pieces_shown frames addrs keys [] (p ∷ new) all = absurd all
pieces_shown frames addrs keys (q ∷ old) [] all = absurd all
pieces_shown frames addrs keys (q ∷ old) (p ∷ new) all =
    all_append (IsShown frames addrs keys) p.blocks.items (all_blocks new) all.0.shown
    (pieces_shown frames addrs keys old new all.1)

pub led : (frames : List (ArrayVec ℕ)) (addrs : List (Short × Eui)) (keys : List Key) (old new : List Piece)
    → AllZip (IsNextPiece frames addrs keys) old new → all_leads new ≡ all_fresh frames addrs keys (all_blocks old)
led frames addrs keys [] [] all = refl
led frames addrs keys [] (p ∷ new) all = absurd all
led frames addrs keys (q ∷ old) [] all = absurd all
led frames addrs keys (q ∷ old) (p ∷ new) all =
    ap (λ zs. zs ++ all_leads new) all.0.leads ∙ ap (λ zs. all_fresh frames addrs keys q.blocks.items ++ zs)
    (led frames addrs keys old new all.1)
    ∙ sym (flat_map-append (fresh frames addrs keys) q.blocks.items (all_blocks old))

-- Blocks with the same frames as others

pub same_counts : (frames : List (ArrayVec ℕ)) (addrs : List (Short × Eui)) (keys : List Key) (old new : List Block)
    → AllZip (IsNext frames addrs keys) old new
    → count_of new ≡ count_of old
same_counts frames addrs keys [] [] all = refl
same_counts frames addrs keys [] (p ∷ new) all = absurd all
same_counts frames addrs keys (q ∷ old) [] all = absurd all
same_counts frames addrs keys (q ∷ old) (p ∷ new) all =
    omega (arith, all.0.0.count, same_counts frames addrs keys old new all.1)

pub same_numbers : (frames : List (ArrayVec ℕ)) (addrs : List (Short × Eui)) (keys : List Key) (frame : ℕ)
    (old new : List Block)
    → AllZip (IsNext frames addrs keys) old new → Numbered frame old → Numbered frame new
same_numbers frames addrs keys frame [] [] all so_far = tt
same_numbers frames addrs keys frame [] (p ∷ new) all so_far = absurd all
same_numbers frames addrs keys frame (q ∷ old) [] all so_far = absurd all
same_numbers frames addrs keys frame (q ∷ old) (p ∷ new) all so_far = (
  all.0.0.first ∙ so_far.0,
  (let P : ℕ → Type 0 = λ n. Numbered (frame + n) new in
      subst P (sym all.0.0.count) (same_numbers frames addrs keys (frame + q.count) old new all.1 so_far.1)),
)

-- What blocks show

pub next_shown : (frames : List (ArrayVec ℕ)) (addrs : List (Short × Eui)) (keys : List Key) (old new : List Block)
    → AllZip (IsNext frames addrs keys) old new → AreShown frames addrs keys new
next_shown frames addrs keys [] [] all = tt
next_shown frames addrs keys [] (p ∷ new) all = absurd all
next_shown frames addrs keys (q ∷ old) [] all = absurd all
next_shown frames addrs keys (q ∷ old) (p ∷ new) all = (all.0.1, next_shown frames addrs keys old new all.1)

unseen_may : (first : ℕ) (found : List Shown) (seen : Seen) → is_nothing seen ≡ true → MayStandFor first found seen
unseen_may first found Nothing e = tt
unseen_may first found Unopened e = cc
unseen_may first found (Lines text) e = cc
unseen_may first found (Whole kept) e = cc

pub all_unseen : (frames : List (ArrayVec ℕ)) (addrs : List (Short × Eui)) (keys : List Key) (blocks : List Block)
    → AllByRecursion IsUnseen blocks → AllSee frames addrs keys blocks
all_unseen frames addrs keys [] all = tt
all_unseen frames addrs keys (b ∷ blocks) all =
    (unseen_may b.first (found_in frames addrs keys b) b.seen all.0, all_unseen frames addrs keys blocks all.1)

stands_may : (first : ℕ) (found : List Shown) (seen : Seen) → StandsFor first found seen → MayStandFor first found seen
stands_may first found Nothing s = tt
stands_may first found Unopened s = s
stands_may first found (Lines text) s = s
stands_may first found (Whole kept) s = s

pub shown_seen : (frames : List (ArrayVec ℕ)) (addrs : List (Short × Eui)) (keys : List Key) (blocks : List Block)
    → AreShown frames addrs keys blocks → AllSee frames addrs keys blocks
shown_seen frames addrs keys [] all = tt
shown_seen frames addrs keys (b ∷ blocks) all =
    (stands_may b.first (found_in frames addrs keys b) b.seen all.0, shown_seen frames addrs keys blocks all.1)

-- Keys that are found, and learnt one after the other

pub leads_append : (frame : ℕ) (xs ys : List Shown) → leads frame (xs ++ ys) ≡ leads frame xs
    ++ leads (frame + length xs) ys
leads_append frame [] ys = ap (λ n. leads n ys) (sym (add-zero frame))
leads_append frame (x ∷ xs) ys =
    let first = leads_of frame (keys_carried x) in
    ap (λ zs. first ++ zs) (leads_append (frame + 1) xs ys)
    ∙ sym (append_assoc first (leads (frame + 1) xs) (leads (frame + 1 + length xs) ys))
    ∙ ap (λ n. first ++ leads (frame + 1) xs ++ leads n ys) (omega arith)

pub learnt_append : (round : ℕ) (ring : List RingKey) (xs ys : List Lead) → learnt round ring (xs ++ ys)
    ≡ learnt round (learnt round ring xs) ys
learnt_append round ring [] ys = refl
learnt_append round ring (x ∷ xs) ys = learnt_append round (with_key ring x.key (Some (x.frame, round))) xs ys

pub learnt_next : (round : ℕ) (ring new : List RingKey) (pieces : List Piece) (i : ℕ) (p : Piece) → i < length pieces
    → p ≡ get_or pieces i p
    → new ≡ learnt round ring p.leads.items
    → learnt round new (all_leads (drop (i + 1) pieces)) ≡ learnt round ring (all_leads (drop i pieces))
learnt_next round ring new pieces i p within is next =
    let rest = drop (i + 1) pieces in
    ap (λ r. learnt round r (all_leads rest)) next
    ∙ sym (learnt_append round ring p.leads.items (all_leads rest))
    ∙ ap (λ ps. learnt round ring (all_leads ps)) (sym (first_left pieces i p within is))
