-- What a round does to the ring.
use Rattle.std.proofs.Common.{◌≡◌, ◌≢◌, ℕ, ◌+◌, ◌-◌, ◌<◌, ◌≤◌, List, length, take, ap, sym, ◌∙◌, subst, arith, add-one, ◌⊎◌, inl, inr}
use Rattle.std.specs.List.{AllByRecursion, AllZip}
use Rattle.std.proofs.lemmas.List.{length-map}
use Rattle.arrayvec.specs.ArrayVec.{ArrayVec}
use Rattle.zb_base.specs.declared.address.Eui.{Eui}
use Rattle.zb_base.specs.declared.address.Short.{Short}
use Rattle.zb_base.specs.declared.key.Key.{Key}
use Rattle.zb_capture.specs.declared.capture.Capture.{Capture}
use Rattle.zb_inspect.specs.Pieces.{all_blocks, all_leads, Sees, AllSee, AreShown, IsCut, IsNextPiece, IsWithin}
use Rattle.zb_inspect.specs.Rings.{leads, frames_shown, learnt, keys_of, after_round, ring_after, IsRing}
use Rattle.zb_inspect.specs.declared.piece.Piece.{Piece}
use Rattle.zb_inspect.specs.declared.key_ring.RingKey.{RingKey}
use Rattle.zb_inspect.proofs.Bound.{AllKnown, all_known}
use Rattle.zb_inspect.proofs.FreshLeads.{AllLearnt, fresh_learnt, learnt_blocks}
use Rattle.zb_inspect.proofs.PieceLists.{in_pieces, led, pieces_counts, pieces_numbers, pieces_shown, shown_seen, whole_frames, within_cut}
use Rattle.zb_inspect.proofs.RingLaws.{first_keys, not_shorter, unchanged}

nat_split : (n m : ℕ) → n < m + 1 → (n < m) ⊎ (n ≡ m)
nat_split n m within = grind arith

minus_one : (n : ℕ) → n + 1 - 1 ≡ n
minus_one n = omega arith

-- One round, by what its calls say.
pub record Round (c : Capture) (rounds : ℕ) (ring new : List RingKey) (pieces : List Piece) : Type 0 where
  pub cut : IsCut c pieces
  pub shown : AreShown c.frames c.addrs (keys_of ring) (all_blocks pieces)
  pub before : ring ≡ ring_after c rounds
  pub next : new ≡ learnt (rounds + 1) ring (leads 1 (frames_shown c.addrs (keys_of ring) c.frames))
  pub after : new ≡ ring_after c (rounds + 1)

-- What is learnt in a round.
round_ends : (c : Capture) (rounds : ℕ) (ring new : List RingKey) → ring ≡ ring_after c rounds
    → new ≡ learnt (rounds + 1) ring (leads 1 (frames_shown c.addrs (keys_of ring) c.frames)) → new
    ≡ ring_after c (rounds + 1)
unfolding ring_after
round_ends c rounds ring new is next =
    next ∙ ap (after_round c (rounds + 1)) is
    ∙ ap (λ n. after_round c n (ring_after c rounds)) (add-one rounds)
    ∙ ap (ring_after c) (sym (add-one rounds))

next_as : (frames all : List (ArrayVec ℕ)) (addrs others : List (Short × Eui)) (keys more : List Key)
    (old new : List Piece) → frames ≡ all → addrs ≡ others
    → keys ≡ more → AllZip (IsNextPiece frames addrs keys) old new → AllZip (IsNextPiece all others more) old new
next_as frames all addrs others keys more old new d e f zip =
    let P : List (ArrayVec ℕ) → Type 0 = λ fs. AllZip (IsNextPiece fs addrs keys) old new in
    let Q : List (Short × Eui) → Type 0 = λ a. AllZip (IsNextPiece all a keys) old new in
    let R : List Key → Type 0 = λ k. AllZip (IsNextPiece all others k) old new in
    subst R f (subst Q e (subst P d zip))

-- The blocks of each piece before a round.
pub ready : (c : Capture) (known : ℕ) (ring : List RingKey) (pieces : List Piece) (frames : List (ArrayVec ℕ))
    (addrs : List (Short × Eui)) (keys : List Key)
    → frames ≡ c.frames → addrs ≡ c.addrs → keys ≡ keys_of ring → AllSee c.frames c.addrs (take known (keys_of ring))
    (all_blocks pieces)
    → AllByRecursion (λ (p : Piece). AllSee frames addrs (take known keys) p.blocks.items) pieces
ready c known ring pieces frames addrs keys f a k seen =
    let P : List (ArrayVec ℕ) → Type 0 =
    λ fs. AllByRecursion (λ (p : Piece). AllSee fs addrs (take known keys) p.blocks.items) pieces in
    let Q : List (Short × Eui) → Type 0 =
    λ x. AllByRecursion (λ (p : Piece). AllSee c.frames x (take known keys) p.blocks.items) pieces in
    let R : List Key → Type 0 =
    λ x. AllByRecursion (λ (p : Piece). AllSee c.frames c.addrs (take known x) p.blocks.items) pieces in
    subst P (sym f)
    (subst Q (sym a) (subst R (sym k) (in_pieces (Sees c.frames c.addrs (take known (keys_of ring))) pieces seen)))

pub inside : (c : Capture) (pieces : List Piece) (frames : List (ArrayVec ℕ)) → frames ≡ c.frames → IsCut c pieces
    → AllByRecursion (λ (p : Piece). AllByRecursion (IsWithin (length frames)) p.blocks.items) pieces
inside c pieces frames f cut =
    let P : List (ArrayVec ℕ) → Type 0 =
    λ fs. AllByRecursion (λ (p : Piece). AllByRecursion (IsWithin (length fs)) p.blocks.items) pieces in
    subst P (sym f) (in_pieces (IsWithin (length c.frames)) pieces (within_cut c pieces cut))

pub one_round : (c : Capture) (rounds known : ℕ) (ring new : List RingKey) (old pieces : List Piece)
    (frames : List (ArrayVec ℕ)) (addrs : List (Short × Eui))
    (keys : List Key) → IsCut c old → AllZip (IsNextPiece frames addrs keys) old pieces → frames ≡ c.frames → addrs
    ≡ c.addrs → keys ≡ keys_of ring
    → known ≤ length ring → AllSee c.frames c.addrs (take known (keys_of ring)) (all_blocks old)
    → AllLearnt ring c.frames c.addrs (take known (keys_of ring)) (all_blocks old)
    → ring ≡ ring_after c rounds → new ≡ learnt (rounds + 1) ring (all_leads pieces) → Round c rounds ring new pieces
one_round c rounds known ring new old pieces frames addrs keys cut all f a k within seen known_ones before next =
    let zipped = next_as frames c.frames addrs c.addrs keys (keys_of ring) old pieces f a k all in
    let learns : new ≡ learnt (rounds + 1) ring (leads 1 (frames_shown c.addrs (keys_of ring) c.frames)) =
    next ∙ ap (learnt (rounds + 1) ring) (led c.frames c.addrs (keys_of ring) old pieces zipped)
    ∙ fresh_learnt (rounds + 1) c.frames c.addrs (keys_of ring) known 1 (all_blocks old) ring
    (omega (arith, within, length-map ring (λ (r : RingKey). r.key)))
    cut.numbers (within_cut c old cut) seen known_ones
    ∙ ap (λ fs. learnt (rounds + 1) ring (leads 1 (frames_shown c.addrs (keys_of ring) fs))) (whole_frames c old cut)
    in
    record {
      cut = record {
        numbers = pieces_numbers c.frames c.addrs (keys_of ring) 1 old pieces zipped cut.numbers;
        count = pieces_counts c.frames c.addrs (keys_of ring) old pieces zipped ∙ cut.count;
      };
      shown = pieces_shown c.frames c.addrs (keys_of ring) old pieces zipped;
      before = before;
      next = learns;
      after = round_ends c rounds ring new before learns;
    }

-- The last round.
pub last_round : (c : Capture) (rounds : ℕ) (ring new keys : List RingKey) (pieces : List Piece)
    → Round c rounds ring new pieces
    → ((n : ℕ) → 0 < n → n < rounds + 1 → ring_after c n ≢ ring_after c (n - 1)) → length new ≡ length ring → keys
    ≡ new
    → IsRing c (record { keys = keys; rounds = rounds + 1 })
last_round c rounds ring new keys pieces round first same is =
    let stays = unchanged (rounds + 1) ring new (leads 1 (frames_shown c.addrs (keys_of ring) c.frames)) round.next
    same in
    record {
      some = omega arith;
      keys = is ∙ round.after;
      last = sym round.after ∙ stays ∙ round.before ∙ ap (ring_after c) (omega arith);
      first = first;
    }

pub last_shown : (c : Capture) (rounds : ℕ) (ring new keys : List RingKey) (pieces : List Piece)
    → Round c rounds ring new pieces
    → length new ≡ length ring → keys ≡ new → AreShown c.frames c.addrs (keys_of keys) (all_blocks pieces)
last_shown c rounds ring new keys pieces round same is =
    let stays = unchanged (rounds + 1) ring new (leads 1 (frames_shown c.addrs (keys_of ring) c.frames)) round.next
    same in
    let P : List RingKey → Type 0 = λ r. AreShown c.frames c.addrs (keys_of r) (all_blocks pieces) in
    subst P (sym (is ∙ stays)) round.shown

-- A round that adds keys.
pub another_first : (c : Capture) (rounds : ℕ) (ring new : List RingKey) (pieces : List Piece)
    → Round c rounds ring new pieces
    → ((n : ℕ) → 0 < n → n < rounds + 1 → ring_after c n ≢ ring_after c (n - 1)) → length new ≢ length ring
    → (n : ℕ) → 0 < n → n < rounds + 1 + 1 → ring_after c n ≢ ring_after c (n - 1)
another_first c rounds ring new pieces round first grew n some within e =
    elim (nat_split n (rounds + 1) within) [
      | inl below ↦ first n some below e
      | inr here ↦
          grew (ap (length {A = RingKey})
          (round.after ∙ ap (ring_after c) (sym here) ∙ e ∙ ap (λ k. ring_after c (k - 1)) here
          ∙ ap (ring_after c) (minus_one rounds) ∙ sym round.before))
    ]

pub another_seen : (c : Capture) (rounds count : ℕ) (ring new : List RingKey) (pieces : List Piece)
    → Round c rounds ring new pieces
    → count ≡ length ring → AllSee c.frames c.addrs (take count (keys_of new)) (all_blocks pieces)
another_seen c rounds count ring new pieces round is =
    let P : List Key → Type 0 = λ k. AllSee c.frames c.addrs k (all_blocks pieces) in
    subst P
    (sym (ap (λ n. take n (keys_of new)) is ∙ first_keys (rounds + 1) ring new
    (leads 1 (frames_shown c.addrs (keys_of ring) c.frames)) round.next))
    (shown_seen c.frames c.addrs (keys_of ring) (all_blocks pieces) round.shown)

pub another_length : (c : Capture) (rounds : ℕ) (ring new : List RingKey) (pieces : List Piece)
    → Round c rounds ring new pieces
    → length new ≢ length ring → length ring < length new
another_length c rounds ring new pieces round grew =
    let n = not_shorter (rounds + 1) ring new (leads 1 (frames_shown c.addrs (keys_of ring) c.frames)) round.next in
    omega (arith, n, grew)

pub another_learnt : (c : Capture) (rounds count : ℕ) (ring new : List RingKey) (pieces : List Piece)
    → Round c rounds ring new pieces
    → count ≡ length ring → AllLearnt new c.frames c.addrs (take count (keys_of new)) (all_blocks pieces)
another_learnt c rounds count ring new pieces round is =
    let found = leads 1 (frames_shown c.addrs (keys_of ring) c.frames) in
    let P : List Key → Type 0 = λ k. AllLearnt new c.frames c.addrs k (all_blocks pieces) in
    let Q : List RingKey → Type 0 = λ r. AllKnown r found in
    let R : List (ArrayVec ℕ) → Type 0 = λ fs. AllKnown new (leads 1 (frames_shown c.addrs (keys_of ring) fs)) in
    subst P (sym (ap (λ n. take n (keys_of new)) is ∙ first_keys (rounds + 1) ring new found round.next))
    (learnt_blocks new c.frames c.addrs (keys_of ring) 1 (all_blocks pieces) round.cut.numbers
    (within_cut c pieces round.cut)
    (subst R (sym (whole_frames c pieces round.cut)) (subst Q (sym round.next) (all_known (rounds + 1) ring found))))
