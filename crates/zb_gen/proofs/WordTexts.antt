-- Four words as the bytes of a key.
use Rattle.std.proofs.Common.{◌≡◌, ℕ, ◌+◌, ◌++◌, arith, ap, ◌∙◌}
use Rattle.std.specs.Int.{w32, to_le_bytes}
use Rattle.zb_gen.specs.Words.{Place, key_at, word}

abbrev at : ℕ → ℕ → Place
at start place = record { start = start; place = place }

one_on : (g h : Place) (s p k j : ℕ) → g ≡ at s (p + k) → h ≡ at g.start (g.place + 1) → p + k + 1 ≡ p + j → h
    ≡ at s (p + j)
one_on g h s p k j a b e = b ∙ ap (λ (x : Place). at x.start (x.place + 1)) a ∙ ap (λ (n : ℕ). at s n) e

word_there : (g : Place) (s p w : ℕ) → g ≡ at s p → w ≡ word g.start g.place → w ≡ word s p
word_there g s p w a e = e ∙ ap (λ (x : Place). word x.start x.place) a

four_words : (w0 w1 w2 w3 x0 x1 x2 x3 : ℕ) → w0 ≡ x0 → w1 ≡ x1 → w2 ≡ x2 → w3 ≡ x3
    → to_le_bytes w32 w0 ++ (to_le_bytes w32 w1 ++ (to_le_bytes w32 w2 ++ to_le_bytes w32 w3))
    ≡ to_le_bytes w32 x0 ++ (to_le_bytes w32 x1 ++ (to_le_bytes w32 x2 ++ to_le_bytes w32 x3))
four_words w0 w1 w2 w3 x0 x1 x2 x3 a b d e =
    ap (λ (x : ℕ). to_le_bytes w32 x ++ (to_le_bytes w32 w1 ++ (to_le_bytes w32 w2 ++ to_le_bytes w32 w3))) a
    ∙ ap (λ (x : ℕ). to_le_bytes w32 x0 ++ (to_le_bytes w32 x ++ (to_le_bytes w32 w2 ++ to_le_bytes w32 w3))) b
    ∙ ap (λ (x : ℕ). to_le_bytes w32 x0 ++ (to_le_bytes w32 x1 ++ (to_le_bytes w32 x ++ to_le_bytes w32 w3))) d
    ∙ ap (λ (x : ℕ). to_le_bytes w32 x0 ++ (to_le_bytes w32 x1 ++ (to_le_bytes w32 x2 ++ to_le_bytes w32 x))) e

pub key_text : (g g1 g2 g3 : Place) (w0 w1 w2 w3 : ℕ) → g1 ≡ at g.start (g.place + 1) → g2
    ≡ at g1.start (g1.place + 1) → g3 ≡ at g2.start (g2.place + 1)
    → w0 ≡ word g.start g.place → w1 ≡ word g1.start g1.place → w2 ≡ word g2.start g2.place → w3
    ≡ word g3.start g3.place
    → to_le_bytes w32 w0 ++ (to_le_bytes w32 w1 ++ (to_le_bytes w32 w2 ++ to_le_bytes w32 w3)) ≡ key_at g.start g.place
key_text g g1 g2 g3 w0 w1 w2 w3 one two three e0 e1 e2 e3 =
    let second : g2 ≡ at g.start (g.place + 2) = one_on g1 g2 g.start g.place 1 2 one two (omega arith) in
    let third : g3 ≡ at g.start (g.place + 3) = one_on g2 g3 g.start g.place 2 3 second three (omega arith) in
    four_words w0 w1 w2 w3 (word g.start g.place) (word g.start (g.place + 1)) (word g.start (g.place + 2))
    (word g.start (g.place + 3))
    e0 (word_there g1 g.start (g.place + 1) w1 one e1) (word_there g2 g.start (g.place + 2) w2 second e2)
    (word_there g3 g.start (g.place + 3) w3 third e3)
