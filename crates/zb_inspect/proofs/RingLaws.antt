-- How a ring grows.
use Rattle.std.proofs.Common.{◌≡◌, ℕ, ◌≤◌, List, [], ◌∷◌, ◌++◌, length, take, refl, ap, sym, ◌∙◌, arith, append_assoc, append-nil, length-append, Bool, true, false, if◌then◌else◌, Some}
use Rattle.std.proofs.lemmas.List.{map-append, length-map}
use Rattle.std.proofs.Math.Seq.{take-append_seam}
use Rattle.zb_inspect.specs.Rings.{learnt, with_key, has_key, keys_of}
use Rattle.zb_inspect.specs.declared.key_ring.Lead.{Lead}
use Rattle.zb_inspect.specs.declared.key_ring.RingKey.{RingKey}

-- Keys are only added after those that are there.
one_more : (b : Bool) (ring : List RingKey) (k : RingKey) → (more : List RingKey)
    × ((if b then ring else ring ++ k ∷ []) ≡ ring ++ more)
one_more true ring k = ([], sym (append-nil ring))
one_more false ring k = (k ∷ [], refl)

pub learnt_grows : (round : ℕ) (ring : List RingKey) (xs : List Lead) → (more : List RingKey)
    × (learnt round ring xs ≡ ring ++ more)
learnt_grows round ring [] = ([], sym (append-nil ring))
learnt_grows round ring (x ∷ xs) =
    let new : RingKey = record { key = x.key; found = Some (x.frame, round) } in
    let first = one_more (has_key ring x.key) ring new in
    let rest = learnt_grows round (with_key ring x.key (Some (x.frame, round))) xs in
    (first.0 ++ rest.0, rest.1 ∙ ap (λ r. r ++ rest.0) first.1 ∙ append_assoc ring first.0 rest.0)

-- A round that adds no key leaves the ring unchanged.
same_length : (ring more : List RingKey) → length (ring ++ more) ≡ length ring → more ≡ []
same_length ring [] same = refl
same_length ring (k ∷ more) same = absurd (omega (arith, length-append ring (k ∷ more)))

pub unchanged : (round : ℕ) (ring new : List RingKey) (xs : List Lead) → new ≡ learnt round ring xs → length new
    ≡ length ring → new ≡ ring
unchanged round ring new xs is same =
    let g = learnt_grows round ring xs in
    let none = same_length ring g.0 (ap (length {A = RingKey}) (sym (is ∙ g.1)) ∙ same) in
    is ∙ g.1 ∙ ap (λ more. ring ++ more) none ∙ append-nil ring

-- The keys before a round are the first of those after it.
pub first_keys : (round : ℕ) (ring new : List RingKey) (xs : List Lead) → new ≡ learnt round ring xs
    → take (length ring) (keys_of new) ≡ keys_of ring
first_keys round ring new xs is =
    let g = learnt_grows round ring xs in
    ap (λ r. take (length ring) (keys_of r)) (is ∙ g.1)
    ∙ ap (take (length ring)) (map-append _ ring g.0)
    ∙ ap (λ n. take n (keys_of ring ++ keys_of g.0)) (sym (length-map ring _))
    ∙ take-append_seam (keys_of ring) (keys_of g.0)

pub not_shorter : (round : ℕ) (ring new : List RingKey) (xs : List Lead) → new ≡ learnt round ring xs → length ring
    ≤ length new
not_shorter round ring new xs is =
    let g = learnt_grows round ring xs in
    omega (arith, ap (length {A = RingKey}) (is ∙ g.1), length-append ring g.0)
