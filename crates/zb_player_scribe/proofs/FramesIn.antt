-- Frames that stand one after the other in one text.
use Rattle.std.proofs.Common.{◌≡◌, ℕ, zero, suc, ◌+◌, ◌-◌, ◌<◌, ◌≤◌, List, [], ◌∷◌, ◌++◌, length, get_or, take, drop, refl, ap, sym, subst, ◌∙◌, arith, length-append}
use Rattle.std.specs.List.{slice_get}
use Rattle.std.proofs.Common.{Some, None}
use Rattle.zb_player_scribe.specs.Frames.{frames_in, AreEnds}

-- where frames end
pub ends_within : (all start : ℕ) (ends : List ℕ) → AreEnds all start ends → start ≤ all
ends_within all start [] is = omega (arith, is)
ends_within all start (end ∷ ends) is = omega (arith, is.0, ends_within all end ends is.2)

ends_more : (all start n : ℕ) (ends : List ℕ) → n ≤ 127 → AreEnds all start ends
    → AreEnds (all + n) start (ends ++ (all + n) ∷ [])
ends_more all start n [] few is = (omega (arith, is), omega (arith, is, few), refl)
ends_more all start n (end ∷ ends) few is = (is.0, is.1, ends_more all end n ends few is.2)

-- one frame
pub record IsAt (all start end : ℕ) : Type 0 where
  pub order : start ≤ end
  pub few : end ≤ start + 127
  pub within : end ≤ all

pub is_at : (all start place : ℕ) (ends : List ℕ) → place < length ends → AreEnds all start ends
    → IsAt all (get_or (start ∷ ends) place 0) (get_or ends place 0)
is_at all start place [] within is = absurd (omega (arith, within))
is_at all start zero (end ∷ ends) within is =
    record { order = is.0; few = is.1; within = ends_within all end ends is.2 }
is_at all start (suc place) (end ∷ ends) within is = is_at all end place ends (omega (arith, within)) is.2

-- the frames
pub frame_count : (bytes : List ℕ) (start : ℕ) (ends : List ℕ) → length (frames_in bytes start ends) ≡ length ends
frame_count bytes start [] = refl
frame_count bytes start (end ∷ ends) = ap (λ n. suc n) (frame_count bytes end ends)

-- what stands before a place
abbrev begun : ℕ → List ℕ → ℕ → ℕ
begun start ends place = get_or (start ∷ ends) place 0

pub frame_is : (bytes : List ℕ) (start place : ℕ) (ends : List ℕ) → place < length ends
    → slice_get (frames_in bytes start ends) place
    ≡ Some (take (get_or ends place 0 - begun start ends place) (drop (begun start ends place) bytes))
frame_is bytes start place [] within = absurd (omega (arith, within))
frame_is bytes start zero (end ∷ ends) within = refl
frame_is bytes start (suc place) (end ∷ ends) within = frame_is bytes end place ends (omega (arith, within))

pub no_frame : (bytes : List ℕ) (start place : ℕ) (ends : List ℕ) → length ends ≤ place
    → slice_get (frames_in bytes start ends) place ≡ None
no_frame bytes start place [] past = refl
no_frame bytes start zero (end ∷ ends) past = absurd (omega (arith, past))
no_frame bytes start (suc place) (end ∷ ends) past = no_frame bytes end place ends (omega (arith, past))

-- a frame more
before_more : (start n : ℕ) (bytes more : List ℕ) → start + n ≤ length bytes → take n (drop start (bytes ++ more))
    ≡ take n (drop start bytes)
before_more zero zero bytes more within = refl
before_more zero (suc n) [] more within = absurd (omega (arith, within))
before_more zero (suc n) (x ∷ bytes) more within =
    ap (λ zs. x ∷ zs) (before_more zero n bytes more (omega (arith, within)))
before_more (suc start) n [] more within = absurd (omega (arith, within))
before_more (suc start) n (x ∷ bytes) more within = before_more start n bytes more (omega (arith, within))

behind : (bytes more : List ℕ) → drop (length bytes) (bytes ++ more) ≡ more
behind [] more = refl
behind (x ∷ bytes) more = behind bytes more

all_of : (n : ℕ) (xs : List ℕ) → n ≡ length xs → take n xs ≡ xs
all_of zero [] is = refl
all_of zero (x ∷ xs) is = absurd (omega (arith, is))
all_of (suc n) [] is = refl
all_of (suc n) (x ∷ xs) is = ap (λ zs. x ∷ zs) (all_of n xs (omega (arith, is)))

last_frame : (bytes more : List ℕ) (start : ℕ) → start ≡ length bytes
    → take (length bytes + length more - start) (drop start (bytes ++ more)) ≡ more
last_frame bytes more start is =
    ap (λ k. take (length bytes + length more - start) (drop k (bytes ++ more))) is ∙ ap
    (take (length bytes + length more - start)) (behind bytes more)
    ∙ all_of (length bytes + length more - start) more (omega (arith, is))

frames_more : (bytes more : List ℕ) (start : ℕ) (ends : List ℕ) → AreEnds (length bytes) start ends
    → frames_in (bytes ++ more) start (ends ++ (length bytes + length more) ∷ []) ≡ frames_in bytes start ends ++ more
    ∷ []
frames_more bytes more start [] is = ap (λ (xs : List ℕ). xs ∷ []) (last_frame bytes more start is)
frames_more bytes more start (end ∷ ends) is =
    let same : take (end - start) (drop start (bytes ++ more)) ≡ take (end - start) (drop start bytes) =
    before_more start (end - start) bytes more (omega (arith, is.0, ends_within (length bytes) end ends is.2)) in
    ap (λ (xs : List ℕ). xs ∷ frames_in (bytes ++ more) end (ends ++ (length bytes + length more) ∷ [])) same
    ∙ ap (λ zs. take (end - start) (drop start bytes) ∷ zs) (frames_more bytes more end ends is.2)

pub push_ends : (bytes more new ends after : List ℕ) (end : ℕ) → AreEnds (length bytes) 0 ends → length more ≤ 127
    → new ≡ bytes ++ more
    → end ≡ length bytes + length more → after ≡ ends ++ end ∷ [] → AreEnds (length new) 0 after
push_ends bytes more new ends after end is few one two three =
    let Q : List ℕ → Type 0 = λ zs. AreEnds (length new) 0 zs in
    let all : length new ≡ length bytes + length more = ap (length {A = ℕ}) one ∙ length-append bytes more in
    let N : ℕ → Type 0 = λ n. AreEnds n 0 (ends ++ (length bytes + length more) ∷ []) in
    subst Q (ap (λ n. ends ++ n ∷ []) (sym two) ∙ sym three)
    (subst N (sym all) (ends_more (length bytes) 0 (length more) ends few is))

pub push_frames : (bytes more new ends after : List ℕ) (end : ℕ) → AreEnds (length bytes) 0 ends → new ≡ bytes ++ more
    → end ≡ length bytes + length more → after ≡ ends ++ end ∷ [] → frames_in new 0 after ≡ frames_in bytes 0 ends
    ++ more ∷ []
push_frames bytes more new ends after end is one two three =
    ap (λ zs. frames_in zs 0 after) one ∙ ap (frames_in (bytes ++ more) 0) (three ∙ ap (λ n. ends ++ n ∷ []) two) ∙
    frames_more bytes more 0 ends is

pub ruleset frame_at_a_place = (is_at, frame_is, no_frame)
