-- The key stream, added to a text block by block.
use Rattle.std.proofs.Common.{◌≡◌, ℕ, ◌+◌, ◌-◌, ◌*◌, ◌<◌, ◌≤◌, List, [], ◌∷◌, ◌++◌, ◌∙◌, refl, sym, ap, length, take, drop, min, inl, inr, map-id, append-nil, arith, take_all, length-take, length-drop, length-append, take-append-drop, drop-drop}
use Rattle.std.proofs.lemmas.Bool.{cases_lt}
use Rattle.std.proofs.lemmas.Grind.{flat_map-append}
use Rattle.std.proofs.lemmas.List.{drop_all, take-append-le}
use Rattle.std.proofs.lemmas.List.FromFn.{map-range_with_len_more}
use Rattle.std.proofs.lemmas.Slice.{take-put_mid, drop-put_mid}
use Rattle.std.proofs.Math.Seq.{take-add, drop-append_seam}
use Rattle.std.specs.List.{flat_map, range_with_len}
use borrow.Rule.Slice.PartMut.{put_mid}
use Rattle.zb_aes.proofs.Xored.{length-xored, xored-append}
use Rattle.zb_aes.specs.Bytes.{xored}
use Rattle.zb_ccm.specs.Blocks.{block_count}
use Rattle.zb_ccm.specs.Ccm.{stream, stream_block, crypted}

-- The first `i` blocks of the text are crypted, and the rest is as it was.
pub record IsCrypted (key nonce before after : List ℕ) (i : ℕ) : Type 0 where
  pub size : length (stream key nonce i) ≡ 16 * i
  pub text : after ≡ xored (take (16 * i) before) (stream key nonce i) ++ drop (16 * i) before

range-more : (a n : ℕ) → range_with_len a (n + 1) ≡ range_with_len a n ++ (a + n) ∷ []
range-more a n =
    sym (map-id (range_with_len a (n + 1))) ∙ map-range_with_len_more (λ x. x) a n (a + n) refl
    ∙ ap (λ l. l ++ (a + n) ∷ []) (map-id (range_with_len a n))

pub stream-more : (key nonce : List ℕ) (n : ℕ) → stream key nonce (n + 1) ≡ stream key nonce n
    ++ stream_block key nonce (n + 1)
unfolding stream
stream-more key nonce n =
    let e : 1 + n ≡ n + 1 = omega arith in
    ap (flat_map (stream_block key nonce)) (range-more 1 n)
    ∙ flat_map-append (stream_block key nonce) (range_with_len 1 n) ((1 + n) ∷ [])
    ∙ ap (λ j. flat_map (stream_block key nonce) (range_with_len 1 n) ++ (stream_block key nonce j ++ [])) e
    ∙ ap (λ l. flat_map (stream_block key nonce) (range_with_len 1 n) ++ l)
    (append-nil (stream_block key nonce (n + 1)))

pub crypted_none : (key nonce text : List ℕ) → IsCrypted key nonce text text 0
unfolding stream xored
crypted_none key nonce text = record { size = refl; text = refl }

take_seam : (xs ys : List ℕ) (n : ℕ) → length xs ≡ n → take n (xs ++ ys) ≡ xs
take_seam xs ys n e = take-append-le n xs ys (omega arith) ∙ take_all n xs (omega arith)

drop_seam : (xs ys : List ℕ) (n : ℕ) → length xs ≡ n → drop n (xs ++ ys) ≡ ys
drop_seam xs ys n e = ap (λ k. drop k (xs ++ ys)) (sym e) ∙ drop-append_seam xs ys

-- What a block of the stream is added to: at most 16 bytes from its place on.
piece_of : (before : List ℕ) (at end : ℕ) → end ≡ min (length before) (at + 16)
    → take (end - at) (drop at before) ≡ take 16 (drop at before)
piece_of before at end e =
    elim (cases_lt (length before) (at + 16)) [
      | inl h ↦ take_all (end - at) (drop at before) (omega (arith, length-drop at before))
          ∙ sym (take_all 16 (drop at before) (omega (arith, length-drop at before)))
      | inr h ↦ let k : end - at ≡ 16 = omega arith in ap (λ n. take n (drop at before)) k
    ]

rest_of : (before : List ℕ) (at end : ℕ) → end ≡ min (length before) (at + 16) → drop end before
    ≡ drop (at + 16) before
rest_of before at end e =
    elim (cases_lt (length before) (at + 16)) [
      | inl h ↦ drop_all end before (omega arith) ∙ sym (drop_all (at + 16) before (omega arith))
      | inr h ↦ let k : end ≡ at + 16 = omega arith in ap (λ n. drop n before) k
    ]

-- One block more of the text.
text_more : (before now block piece s : List ℕ) (at end : ℕ) → length s ≡ at → length block ≡ 16
    → now ≡ xored (take at before) s ++ drop at before → length now ≡ length before → at < length before
    → end ≡ min (length before) (at + 16) → piece ≡ xored (take (end - at) (drop at now)) block
    → put_mid at (end - at) now piece ≡ xored (take (at + 16) before) (s ++ block) ++ drop (at + 16) before
text_more before now block piece s at end ls lb shown same some e q =
    let front : List ℕ = take at before in
    let back : List ℕ = drop at before in
    let lf : length front ≡ at = omega (arith, length-take at before) in
    let lx : length (xored front s) ≡ at = length-xored front s (omega arith) ∙ lf in
    let start : take at now ≡ xored front s = ap (take at) shown ∙ take_seam (xored front s) back at lx in
    let rest : drop at now ≡ back = ap (drop at) shown ∙ drop_seam (xored front s) back at lx in
    let added : piece ≡ xored (take 16 back) block =
    q ∙ ap (λ l. xored (take (end - at) l) block) rest ∙ ap (λ l. xored l block) (piece_of before at end e) in
    let lp : length piece ≡ end - at =
    ap length q ∙ length-xored (take (end - at) (drop at now)) block
    (omega (arith, length-take (end - at) (drop at now)))
    ∙ omega (arith, length-take (end - at) (drop at now), length-drop at now) in
    let place : at + (end - at) ≡ end = omega arith in
    let after : drop end now ≡ drop (at + 16) before =
    ap (λ n. drop n now) (sym place) ∙ sym (drop-drop (end - at) at now) ∙ ap (drop (end - at)) rest
    ∙ drop-drop (end - at) at before ∙ ap (λ n. drop n before) place ∙ rest_of before at end e in
    sym (take-append-drop end (put_mid at (end - at) now piece))
    ∙ ap (λ l. l ++ drop end (put_mid at (end - at) now piece))
    (take-put_mid at (end - at) now piece end (omega arith) (omega arith) ∙ ap (λ l. l ++ piece) start)
    ∙ ap (λ l. xored front s ++ piece ++ l)
    (drop-put_mid at (end - at) now piece end (omega arith) (omega arith) lp ∙ after)
    ∙ ap (λ l. xored front s ++ l ++ drop (at + 16) before) added
    ∙ ap (λ l. l ++ drop (at + 16) before)
    (sym (xored-append front (take 16 back) s block (omega arith))
    ∙ ap (λ l. xored l (s ++ block)) (sym (take-add at 16 before)))

pub crypted_more : (key nonce before now block piece : List ℕ) (i end : ℕ) → IsCrypted key nonce before now i
    → length now ≡ length before → 16 * i < length before → end ≡ min (length before) (16 * i + 16)
    → block ≡ stream_block key nonce (i + 1) → length block ≡ 16
    → piece ≡ xored (take (end - 16 * i) (drop (16 * i) now)) block
    → IsCrypted key nonce before (put_mid (16 * i) (end - 16 * i) now piece) (i + 1)
crypted_more key nonce before now block piece i end is same some e p l q =
    let more : stream key nonce (i + 1) ≡ stream key nonce i ++ block =
    stream-more key nonce i ∙ ap (λ b. stream key nonce i ++ b) (sym p) in
    let next : 16 * i + 16 ≡ 16 * (i + 1) = omega arith in
    record {
      size = ap length more ∙ length-append (stream key nonce i) block ∙ omega (arith, is.size);
      text = text_more before now block piece (stream key nonce i) (16 * i) end is.size l is.text same some e q
          ∙ ap (λ s. xored (take (16 * i + 16) before) s ++ drop (16 * i + 16) before) (sym more)
          ∙ ap (λ n. xored (take n before) (stream key nonce (i + 1)) ++ drop n before) next;
    }

pub crypted_end : (key nonce before after : List ℕ) (i n : ℕ) → IsCrypted key nonce before after i
    → n ≡ block_count (length before) → i ≤ n → n ≤ i → after ≡ crypted key nonce before
unfolding crypted
crypted_end key nonce before after i n is e low high =
    let k : i ≡ block_count (length before) = omega arith in
    let long : length before ≤ 16 * i = omega arith in
    is.text ∙ ap (λ l. xored l (stream key nonce i) ++ drop (16 * i) before) (take_all (16 * i) before long)
    ∙ ap (λ l. xored before (stream key nonce i) ++ l) (drop_all (16 * i) before long)
    ∙ append-nil (xored before (stream key nonce i)) ∙ ap (λ j. xored before (stream key nonce j)) k

pub crypted_covers : (key nonce before after : List ℕ) (i n : ℕ) → IsCrypted key nonce before after i
    → n ≡ block_count (length before) → i ≤ n → n ≤ i
    → length before ≤ length (stream key nonce (block_count (length before)))
crypted_covers key nonce before after i n is e low high =
    let k : i ≡ block_count (length before) = omega arith in
    let size : length (stream key nonce (block_count (length before))) ≡ 16 * i =
    ap (λ j. length (stream key nonce j)) (sym k) ∙ is.size in
    omega arith
