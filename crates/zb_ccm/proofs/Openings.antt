-- What a text opens to, from the test of its MIC.
use Rattle.std.proofs.Common.{◌≡◌, ℕ, Bool, true, false, List, ◌≤◌, ◌∙◌, refl, sym, ap, length, Some, None}
use Rattle.std.specs.Str.{bytes_eq}
use Rattle.zb_aes.proofs.Xored.{length-xored, xored_twice}
use Rattle.zb_aes.specs.Bytes.{xored}
use Rattle.zb_ccm.specs.Blocks.{block_count}
use Rattle.zb_ccm.specs.Ccm.{mic_of, crypted, opens, stream, sealed}

tested : (key nonce a text mic message : List ℕ) (test answer : Bool) → message ≡ crypted key nonce text
    → length mic ≡ 4 → test ≡ bytes_eq (mic_of key nonce a message 4) mic → test ≡ answer
    → bytes_eq (mic_of key nonce a (crypted key nonce text) (length mic)) mic ≡ answer
tested key nonce a text mic message test answer p l q t =
    ap (λ n. bytes_eq (mic_of key nonce a (crypted key nonce text) n) mic) l
    ∙ ap (λ m. bytes_eq (mic_of key nonce a m 4) mic) (sym p) ∙ sym q ∙ t

pub opens_some : (key nonce a text mic message : List ℕ) (test : Bool) → message ≡ crypted key nonce text
    → length mic ≡ 4 → test ≡ bytes_eq (mic_of key nonce a message 4) mic → test ≡ true
    → opens key nonce a text mic ≡ Some message
unfolding opens
opens_some key nonce a text mic message test p l q t =
    let e = tested key nonce a text mic message test true p l q t in rw e (ap Some (sym p))

pub opens_none : (key nonce a text mic message : List ℕ) (test : Bool) → message ≡ crypted key nonce text
    → length mic ≡ 4 → test ≡ bytes_eq (mic_of key nonce a message 4) mic → test ≡ false
    → opens key nonce a text mic ≡ None
unfolding opens
opens_none key nonce a text mic message test p l q t =
    let e = tested key nonce a text mic message test false p l q t in rw e refl

-- Crypting a text twice gives it back.
pub crypted_twice : (key nonce text : List ℕ) → length text ≤ length (stream key nonce (block_count (length text)))
    → crypted key nonce (crypted key nonce text) ≡ text
unfolding crypted
crypted_twice key nonce text h =
    let same : length (xored text (stream key nonce (block_count (length text)))) ≡ length text =
    length-xored text (stream key nonce (block_count (length text))) h in
    rw same (xored_twice text (stream key nonce (block_count (length text))) h)

pub sealed_built : (key nonce a message text mic : List ℕ) (size : ℕ) → text ≡ crypted key nonce message
    → mic ≡ mic_of key nonce a message size → record { text = text; mic = mic } ≡ sealed key nonce a message size
unfolding sealed
sealed_built key nonce a message text mic size p q = rw (p, q) refl
