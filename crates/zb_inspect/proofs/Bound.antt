-- A ring has no more keys than are given and than its frames carry, which is at most three each.
use Rattle.std.proofs.Common.{◌≡◌, ◌≢◌, ℕ, zero, suc, ◌+◌, ◌-◌, ◌*◌, ◌<◌, ◌≤◌, ◌==◌, List, [], ◌∷◌, ◌++◌, Option, Some, None, length, take, refl, ap, sym, ◌∙◌, subst, arith, length-append, Bool, true, false, ◌||◌, bytes_eq, if◌then◌else◌}
use Rattle.std.specs.List.{AllByRecursion}
use Rattle.std.proofs.lemmas.List.{length-map}
use Rattle.std.proofs.lemmas.Bool.Decides.{nat_tests}
use Rattle.std.proofs.lemmas.Slice.Eq.{bytes_eq-Decides}
use Rattle.std.proofs.lemmas.List.Folds.{list_any-append}
use Rattle.arrayvec.specs.ArrayVec.{ArrayVec}
use Rattle.zb_base.specs.declared.address.Eui.{Eui}
use Rattle.zb_base.specs.declared.address.Short.{Short}
use Rattle.zb_base.specs.declared.key.Key.{Key}
use Rattle.zb_capture.specs.Grammar.{IsCapture}
use Rattle.zb_capture.specs.declared.capture.Capture.{Capture}
use Rattle.zb_inspect_frame.specs.Carrying.{keys_carried}
use Rattle.zb_inspect_frame.specs.Shows.{frame_shown}
use Rattle.zb_inspect_frame.specs.declared.carried.Carried.{Carried}
use Rattle.zb_inspect_frame.specs.declared.shown.Shown.{Shown}
use Rattle.zb_inspect.specs.Rings.{is_key, has_key, with_key, given_from, keys_of, lead_of, leads_of, leads, frames_shown, learnt, ring_after, ring_from, ring_of, IsRing}
use Rattle.zb_inspect.specs.declared.key_ring.Lead.{Lead}
use Rattle.zb_inspect.specs.declared.key_ring.Ring.{Ring}
use Rattle.zb_inspect.specs.declared.key_ring.RingKey.{RingKey}
use Rattle.zb_inspect.proofs.Growth.{Kept, Grows, carried_grows}
use Rattle.zb_inspect.proofs.RingLaws.{learnt_grows, first_keys, not_shorter, unchanged}

-- How many of the keys are new to the ring, with repeats.
abbrev one_if : Bool → ℕ
one_if true = 0
one_if false = 1

abbrev unknown : List RingKey → List Lead → ℕ
unknown ring [] = 0
unknown ring (x ∷ xs) = one_if (has_key ring x.key) + unknown ring xs

one_or : (a b : Bool) → one_if (a || b) ≤ one_if a
one_or true b = omega arith
one_or false true = omega arith
one_or false false = omega arith

one_most : (b : Bool) → one_if b ≤ 1
one_most true = omega arith
one_most false = omega arith

has_more : (ring more : List RingKey) (key : Key) → has_key (ring ++ more) key ≡ (has_key ring key || has_key more key)
has_more ring more key = list_any-append (is_key key) ring more

unknown_more : (ring more : List RingKey) (xs : List Lead) → unknown (ring ++ more) xs ≤ unknown ring xs
unknown_more ring more [] = omega arith
unknown_more ring more (x ∷ xs) =
    omega (
      arith,
      unknown_more ring more xs,
      ap one_if (has_more ring more x.key),
      one_or (has_key ring x.key) (has_key more x.key),
    )

unknown_most : (ring : List RingKey) (xs : List Lead) → unknown ring xs ≤ length xs
unknown_most ring [] = omega arith
unknown_most ring (x ∷ xs) = omega (arith, unknown_most ring xs, one_most (has_key ring x.key))

unknown_append : (ring : List RingKey) (xs ys : List Lead) → unknown ring (xs ++ ys)
    ≡ unknown ring xs + unknown ring ys
unknown_append ring [] ys = omega arith
unknown_append ring (x ∷ xs) ys = omega (arith, unknown_append ring xs ys)

-- Learning adds no more than that.
learnt_by : (round : ℕ) (ring : List RingKey) (x : Lead) (xs : List Lead) (k : RingKey) (b : Bool)
    → ((r : List RingKey) → length (learnt round r xs) ≤ length r + unknown r xs)
    → length (learnt round (if b then ring else ring ++ k ∷ []) xs) ≤ length ring + (one_if b + unknown ring xs)
learnt_by round ring x xs k true rest = omega (arith, rest ring)
learnt_by round ring x xs k false rest =
    omega (arith, rest (ring ++ k ∷ []), unknown_more ring (k ∷ []) xs, length-append ring (k ∷ []))

learnt_most : (round : ℕ) (ring : List RingKey) (xs : List Lead) → length (learnt round ring xs)
    ≤ length ring + unknown ring xs
learnt_most round ring [] = omega arith
learnt_most round ring (x ∷ xs) =
    learnt_by round ring x xs (record { key = x.key; found = Some (x.frame, round) }) (has_key ring x.key)
    (λ r. learnt_most round r xs)

-- What was learnt is known.
abbrev pub AllKnown : List RingKey → List Lead → Type 0
AllKnown ring xs = AllByRecursion (λ (x : Lead). has_key ring x.key ≡ true) xs

or_true : (a b : Bool) → a ≡ true → (a || b) ≡ true
or_true true b e = refl
or_true false b e = cc

pub known_more : (ring more : List RingKey) (xs : List Lead) → AllKnown ring xs → AllKnown (ring ++ more) xs
known_more ring more [] known = tt
known_more ring more (x ∷ xs) known = (
  has_more ring more x.key ∙ or_true (has_key ring x.key) (has_key more x.key) known.0,
  known_more ring more xs known.1,
)

true_or : (a : Bool) → (a || true) ≡ true
true_or true = refl
true_or false = refl

still_has : (round : ℕ) (ring : List RingKey) (xs : List Lead) (key : Key) → has_key ring key ≡ true
    → has_key (learnt round ring xs) key ≡ true
still_has round ring xs key has =
    let g = learnt_grows round ring xs in
    ap (λ r. has_key r key) g.1 ∙ has_more ring g.0 key ∙ or_true (has_key ring key) (has_key g.0 key) has

same_bytes : (xs : List ℕ) → bytes_eq xs xs ≡ true
same_bytes xs = (bytes_eq-Decides xs xs).1 refl

has_it : (ring : List RingKey) (k : RingKey) (b : Bool) → has_key ring k.key ≡ b
    → has_key (if b then ring else ring ++ k ∷ []) k.key ≡ true
has_it ring k true has = has
has_it ring k false has =
    has_more ring (k ∷ []) k.key ∙ ap (λ b. has_key ring k.key || (b || false)) (same_bytes k.key.0) ∙ true_or
    (has_key ring k.key)

pub all_known : (round : ℕ) (ring : List RingKey) (xs : List Lead) → AllKnown (learnt round ring xs) xs
all_known round ring [] = tt
all_known round ring (x ∷ xs) =
    let k : RingKey = record { key = x.key; found = Some (x.frame, round) } in
    let next = with_key ring x.key (Some (x.frame, round)) in
    (still_has round next xs x.key (has_it ring k (has_key ring x.key) refl), all_known round next xs)

-- Under further keys, each key that was carried is still carried, and is known
known_one : (ring : List RingKey) (frame : ℕ) (a b : Option Key) → AllKnown ring (lead_of frame a) → Kept a b
    → unknown ring (lead_of frame b) + length (lead_of frame a) ≤ length (lead_of frame b)
known_one ring frame None b known kept = omega (arith, unknown_most ring (lead_of frame b))
known_one ring frame (Some key) b known kept =
    let P : Option Key → Type 0 = λ o. unknown ring (lead_of frame o) + 1 ≤ length (lead_of frame o) in
    subst P (sym kept) (omega (arith, ap one_if known.0))

pub known_split : (ring : List RingKey) (xs ys : List Lead) → AllKnown ring (xs ++ ys) → AllKnown ring xs
    × AllKnown ring ys
known_split ring [] ys known = (tt, known)
known_split ring (x ∷ xs) ys known = let rest = known_split ring xs ys known.1 in ((known.0, rest.0), rest.1)

known_frame : (ring : List RingKey) (frame : ℕ) (a b : Carried) → AllKnown ring (leads_of frame a) → Grows a b
    → unknown ring (leads_of frame b) + length (leads_of frame a) ≤ length (leads_of frame b)
known_frame ring frame a b known grows =
    let first = known_split ring (lead_of frame a.inner ++ lead_of frame a.aps) (lead_of frame a.nwk) known in
    let second = known_split ring (lead_of frame a.inner) (lead_of frame a.aps) first.0 in
    let one = known_one ring frame a.inner b.inner second.0 grows.inner in
    let two = known_one ring frame a.aps b.aps second.1 grows.aps in
    let three = known_one ring frame a.nwk b.nwk first.1 grows.nwk in
    omega (
      arith,
      one,
      two,
      three,
      length-append (lead_of frame a.inner ++ lead_of frame a.aps) (lead_of frame a.nwk),
      length-append (lead_of frame a.inner) (lead_of frame a.aps),
      length-append (lead_of frame b.inner ++ lead_of frame b.aps) (lead_of frame b.nwk),
      length-append (lead_of frame b.inner) (lead_of frame b.aps),
      unknown_append ring (lead_of frame b.inner ++ lead_of frame b.aps) (lead_of frame b.nwk),
      unknown_append ring (lead_of frame b.inner) (lead_of frame b.aps),
    )

known_frames : (ring : List RingKey) (known : ℕ) (addrs : List (Short × Eui)) (keys : List Key) (frame : ℕ)
    (frames : List (ArrayVec ℕ)) → known ≤ length keys
    → AllKnown ring (leads frame (frames_shown addrs (take known keys) frames))
    → unknown ring (leads frame (frames_shown addrs keys frames)) + length
    (leads frame (frames_shown addrs (take known keys) frames))
    ≤ length (leads frame (frames_shown addrs keys frames))
known_frames ring known addrs keys frame [] within all = omega arith
known_frames ring known addrs keys frame (f ∷ frames) within all =
    let a = keys_carried (frame_shown addrs (take known keys) f.items) in
    let b = keys_carried (frame_shown addrs keys f.items) in
    let more = leads (frame + 1) (frames_shown addrs (take known keys) frames) in
    let also = leads (frame + 1) (frames_shown addrs keys frames) in
    let parts = known_split ring (leads_of frame a) more all in
    let here = known_frame ring frame a b parts.0 (carried_grows known addrs keys f.items within) in
    let rest = known_frames ring known addrs keys (frame + 1) frames within parts.1 in
    omega (
      arith,
      here,
      rest,
      length-append (leads_of frame a) more,
      length-append (leads_of frame b) also,
      unknown_append ring (leads_of frame b) also,
    )

-- Round after round
given_one : (ring : List RingKey) (k : RingKey) (b : Bool) → length (if b then ring else ring ++ k ∷ [])
    ≤ length ring + 1
given_one ring k true = omega arith
given_one ring k false = omega (arith, length-append ring (k ∷ []))

given_most : (ring : List RingKey) (keys : List Key) → length (given_from ring keys) ≤ length ring + length keys
given_most ring [] = omega arith
given_most ring (key ∷ keys) =
    omega (
      arith,
      given_most (with_key ring key None) keys,
      given_one ring (record { key = key; found = None })
          (has_key ring key),
    )

abbrev led : Capture → List RingKey → List Lead
led c ring = leads 1 (frames_shown c.addrs (keys_of ring) c.frames)

-- A ring has no more keys than are given and than are carried under the ring of the round before.
round_most : (c : Capture) (n : ℕ) → length (ring_after c (suc n)) ≤ length c.keys + length (led c (ring_after c n))
unfolding ring_after
round_most c zero =
    omega (
      arith,
      learnt_most 1 (given_from [] c.keys) (led c (given_from [] c.keys)),
      given_most [] c.keys,
      unknown_most (given_from [] c.keys) (led c (given_from [] c.keys)),
    )
round_most c (suc n) =
    let old = ring_after c n in
    let ring = ring_after c (suc n) in
    let count = length old in
    let first : take count (keys_of ring) ≡ keys_of old = first_keys (suc n) old ring (led c old) refl in
    let within : count ≤ length (keys_of ring) =
    omega (arith, not_shorter (suc n) old ring (led c old) refl, length-map ring (λ (k : RingKey). k.key)) in
    let K : List Key → Type 0 = λ keys. AllKnown ring (leads 1 (frames_shown c.addrs keys c.frames)) in
    let known = known_frames ring count c.addrs (keys_of ring) 1 c.frames within
    (subst K (sym first) (all_known (suc n) old (led c old))) in
    omega (
      arith,
      learnt_most (suc (suc n)) ring (led c ring),
      round_most c n,
      known,
      ap (λ keys. length (leads 1 (frames_shown c.addrs keys c.frames))) first,
    )

one_lead : (frame : ℕ) (o : Option Key) → length (lead_of frame o) ≤ 1
one_lead frame None = omega arith
one_lead frame (Some key) = omega arith

three_leads : (frame : ℕ) (xs : List Shown) → length (leads frame xs) ≤ 3 * length xs
three_leads frame [] = omega arith
three_leads frame (x ∷ xs) =
    let k = keys_carried x in
    omega (
      arith,
      three_leads (frame + 1) xs,
      one_lead frame k.inner,
      one_lead frame k.aps,
      one_lead frame k.nwk,
      length-append (leads_of frame k) (leads (frame + 1) xs),
      length-append (lead_of frame k.inner ++ lead_of frame k.aps) (lead_of frame k.nwk),
      length-append (lead_of frame k.inner) (lead_of frame k.aps),
    )

pub ring_most : (c : Capture) (n : ℕ) → length (ring_after c n) ≤ length c.keys + 3 * length c.frames
unfolding ring_after
ring_most c zero = omega (arith, given_most [] c.keys)
ring_most c (suc n) =
    omega (
      arith,
      round_most c n,
      three_leads 1 (frames_shown c.addrs (keys_of (ring_after c n)) c.frames),
      length-map c.frames (λ (f : ArrayVec ℕ). frame_shown c.addrs (keys_of (ring_after c n)) f.items),
    )

-- A capture within its limits.
pub ring_few : (c : Capture) (n : ℕ) (ring : List RingKey) → IsCapture c → ring ≡ ring_after c n → length ring ≤ 300256
ring_few c n ring limits is = omega (arith, ap (length {A = RingKey}) is, ring_most c n, limits.keys, limits.frames)

-- Each round but the last adds a key

grown_length : (c : Capture) (n : ℕ) → ring_after c (suc n) ≢ ring_after c n → length (ring_after c n)
    < length (ring_after c (suc n))
unfolding ring_after
grown_length c n grew =
    let old = ring_after c n in
    let same : length (ring_after c (suc n)) ≢ length old =
    λ e. grew (unchanged (suc n) old (ring_after c (suc n)) (led c old) refl e) in
    omega (arith, same, not_shorter (suc n) old (ring_after c (suc n)) (led c old) refl)

rounds_add : (c : Capture) (ring : Ring) → IsRing c ring → (n : ℕ) → n < ring.rounds → n ≤ length (ring_after c n)
rounds_add c ring is zero within = omega arith
rounds_add c ring is (suc n) within =
    let before = rounds_add c ring is n (omega (arith, within)) in
    let grew : ring_after c (suc n) ≢ ring_after c n = λ e. is.first (suc n) (omega arith) within
    (e ∙ ap (ring_after c) (omega arith)) in
    omega (arith, before, grown_length c n grew)

rounds_most : (c : Capture) (ring : Ring) → IsRing c ring → ring.rounds ≤ length c.keys + 3 * length c.frames + 1
rounds_most c ring is =
    let n = ring.rounds - 1 in
    omega (arith, is.some, rounds_add c ring is n (omega (arith, is.some)), ring_most c n)

abbrev ring_with : List RingKey → ℕ → Ring
ring_with keys rounds = record { keys = keys; rounds = rounds }

same_ring : (c : Capture) (ring : Ring) → IsRing c ring → (n : ℕ) → n ≡ ring.rounds
    → record { keys = ring_after c n; rounds = n } ≡ ring
same_ring c ring is n count =
    ap (λ k. ring_with (ring_after c k) k) count ∙ ap (λ keys. ring_with keys ring.rounds) (sym is.keys)

test_true : (a b : ℕ) → (a == b) ≡ true → a ≡ b
test_true a b same = grind (arith, nat_tests)

not_both : (a b : ℕ) → (a == b) ≡ false → a ≡ b → ⊥
not_both a b other same = grind (arith, nat_tests)

step_from : (most n : ℕ) (c : Capture) (ring : Ring) (b : Bool) → IsRing c ring → n < ring.rounds
    → (length (ring_after c (suc n)) == length (ring_after c n)) ≡ b
    → (suc n < ring.rounds → ring_from most c (suc n) ≡ ring)
    → (if b then record { keys = ring_after c (suc n); rounds = suc n } else ring_from most c (suc n)) ≡ ring
unfolding ring_after
step_from most n c ring true is within same rest =
    let old = ring_after c n in
    let stays : ring_after c (suc n) ≡ old = unchanged (suc n) old (ring_after c (suc n)) (led c old) refl
    (test_true _ _ same) in
    let no_more : suc n < ring.rounds → ⊥ = λ more. is.first (suc n) (omega arith) more
    (stays ∙ ap (ring_after c) (omega arith)) in
    let count : suc n ≡ ring.rounds = omega (arith, within, no_more) in
    same_ring c ring is (suc n) count
step_from most n c ring false is within other rest =
    rest (let more : ring.rounds ≢ suc n = λ e. not_both (length (ring_after c (suc n))) (length (ring_after c n))
    other
    (ap (λ k. length (ring_after c k)) (sym e) ∙ ap (length {A = RingKey}) is.last ∙ ap
    (λ k. length (ring_after c (k - 1))) e ∙ ap (λ k. length (ring_after c k)) (omega arith)) in
    omega (arith, within, more))

walk : (most n : ℕ) (c : Capture) (ring : Ring) → IsRing c ring → n < ring.rounds → ring.rounds ≤ n + most
    → ring_from most c n ≡ ring
unfolding ring_from
walk zero n c ring is within most_rounds = absurd (omega (arith, within, most_rounds))
walk (suc most) n c ring is within most_rounds =
    step_from most n c ring (length (ring_after c (suc n)) == length (ring_after c n)) is within refl
    (λ more. walk most (suc n) c ring is more (omega (arith, most_rounds)))

-- There is one ring, and the rounds find it.
pub ring_is : (c : Capture) (ring : Ring) → IsRing c ring → ring ≡ ring_of c
ring_is c ring is =
    sym (walk (length c.keys + 3 * length c.frames + 1) 0 c ring is is.some (omega (arith, rounds_most c ring is)))
