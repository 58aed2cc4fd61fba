use Rattle.std.proofs.Common.{◌<◌, ◌≡◌, ℕ, List, [], ◌∷◌, ◌∙◌, ap, get_or, length, refl, rules}
use Rattle.std.specs.Str.{bytes_eq}
use Rattle.zb_ccm.proofs.Words.{first_four, four_below, words_equal}
use Rattle.zb_ccm.proofs.opening.is_mic.Goals as goal

pub returns : goal.returns
returns c =
    let long : length c.compute_mic.result ≡ 16 = search rules in
    let small : (i : ℕ) → get_or c.compute_mic.result i 0 < 256 = λ i. search rules in
    let m = c.compute_mic.result in
    let four : List ℕ = get_or m 0 0 ∷ get_or m 1 0 ∷ get_or m 2 0 ∷ get_or m 3 0 ∷ [] in
    words_equal four c.args.mic.now _ _ refl c.told-mic (four_below _ _ _ _ (small 0) (small 1) (small 2) (small 3))
    c.fits-mic c.from_be_bytes.ensures c.from_be_bytes-2.ensures
    ∙ ap (λ l. bytes_eq l c.args.mic.now) (first_four c.compute_mic.result long ∙ c.compute_mic.ensures)
