-- What came from a sender, by a test of the lines: no counter and no floor of any line is too high.
use Rattle.std.specs.Prelude.{ℕ, suc, ◌≡◌, ◌+◌, ◌<◌, Bool, true, false, ◌&&◌, List, [], ◌∷◌, nat_lt, nat_le}
use Rattle.std.specs.List.{AllByRecursion, list_all}
use Rattle.std.proofs.Common.{refl, arith}
use Rattle.std.proofs.lemmas.Bool.{ltb-true, leb-true}
use Rattle.zb_model.specs.Data.{Bytes, Layer, Reserve, Floor, Start, Moved}
use Rattle.zb_model.specs.Lines.{Line, Declared, GivenNet, GivenLink, Counter, Changed, Commit, Accept, Refuse, Seal, Forge, Send, Inject, Stopped, DownReset, DownDisk, Boot, Dump, End}
use Rattle.law_recovery.specs.Rounds.{IsBelow}

-- Whose line it is doesn't matter to the test.
abbrev pub is_low : ℕ → ℕ → Line → Bool
is_low last block (Accept e n t) = nat_lt t.counter (suc last)
is_low last block (Changed e n (Floor at base source value)) = nat_le value (last + block)
is_low last block _ = true

left : (a b : Bool) → (a && b) ≡ true → a ≡ true
left true b h = refl
left false b h = h

right : (a b : Bool) → (a && b) ≡ true → b ≡ true
right true b h = h
right false true h = refl
right false false h = h

next : (n : ℕ) → n < suc n
next n = omega arith

low : (layer : Layer) (last block receiver sender : ℕ) (key : Bytes) (l : Line) → is_low last block l ≡ true
    → IsBelow layer (suc last) block receiver sender key l
low layer last block receiver sender key (Accept e n t) h = λ i j k l. ltb-true t.counter (suc last) h
low layer last block receiver sender key (Changed e n (Floor at base source value)) h =
    λ i j k l. (last, next last, leb-true value (last + block) h)
low layer last block receiver sender key (Declared s) h = tt
low layer last block receiver sender key (GivenNet n k q) h = tt
low layer last block receiver sender key (GivenLink n p k) h = tt
low layer last block receiver sender key (Counter n l m) h = tt
low layer last block receiver sender key (Changed e n (Reserve l m)) h = tt
low layer last block receiver sender key (Changed e n (Start k v)) h = tt
low layer last block receiver sender key (Changed e n (Moved m)) h = tt
low layer last block receiver sender key (Commit e n) h = tt
low layer last block receiver sender key (Refuse e n p r) h = tt
low layer last block receiver sender key (Seal e n t) h = tt
low layer last block receiver sender key (Forge e t) h = tt
low layer last block receiver sender key (Send e n f bs) h = tt
low layer last block receiver sender key (Inject e f bs) h = tt
low layer last block receiver sender key (Stopped e n) h = tt
low layer last block receiver sender key (DownReset e n) h = tt
low layer last block receiver sender key (DownDisk e n) h = tt
low layer last block receiver sender key (Boot e n) h = tt
low layer last block receiver sender key (Dump e n bs) h = tt
low layer last block receiver sender key (End e s a r i p) h = tt

pub all_low : (layer : Layer) (last block receiver sender : ℕ) (key : Bytes) (lines : List Line)
    → list_all (is_low last block) lines ≡ true
    → AllByRecursion (IsBelow layer (suc last) block receiver sender key) lines
all_low layer last block receiver sender key [] h = tt
all_low layer last block receiver sender key (l ∷ lines) h = (
  low layer last block receiver sender key l (left (is_low last block l) (list_all (is_low last block) lines) h),
  all_low layer last block receiver sender key lines
      (right (is_low last block l) (list_all (is_low last block) lines) h),
)
