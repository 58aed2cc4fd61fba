-- Shares that are cut off, one after the other.
use Rattle.std.proofs.Common.{◌≡◌, ℕ, zero, suc, ◌+◌, ◌-◌, ◌*◌, ◌<◌, ◌≤◌, List, ◌∷◌, [], ◌++◌, length, min, append_assoc, append-nil, ap, sym, ◌∙◌, subst, arith}
use Rattle.zb_parallel.specs.Shares.{AreShares}
use Rattle.zb_parallel.specs.declared.share.Share.{Share}

-- each job gets at least one item
pub some_size : (n size jobs : ℕ) → n ≤ size * jobs → 0 < n → 0 < size
some_size n zero jobs most some = absurd (omega arith)
some_size n (suc size) jobs most some = omega arith

-- what was cut off so far, whatever is cut off after it
abbrev pub AreSharesSoFar : ℕ → ℕ → ℕ → ℕ → ℕ → List Share → Type 0
AreSharesSoFar size total number first left shares =
    (more : List Share) → AreShares size number first left more → AreShares size 0 0 total (shares ++ more)

-- one more share
pub share_more : (size total number first left next rest : ℕ) (old new : List Share) (s : Share)
    → AreSharesSoFar size total number first left old
    → new ≡ old ++ s ∷ [] → s.number ≡ number → s.first ≡ first → 0 < left → s.count ≡ min size left → next
    ≡ first + min size left
    → rest ≡ left - min size left → AreSharesSoFar size total (number + 1) next rest new
share_more size total number first left next rest old new s so_far items numbered place some count after is more cut =
    let P : List Share → Type 0 = λ ss. AreShares size 0 0 total ss in
    let Q : ℕ → Type 0 = λ n. AreShares size (number + 1) n rest more in
    let S : ℕ → Type 0 = λ n. AreShares size (number + 1) (first + min size left) n more in
    subst P (sym (ap (λ ss. ss ++ more) items ∙ append_assoc old (s ∷ []) more))
    (so_far (s ∷ more) (numbered, place, some, count, subst S is (subst Q after cut)))

-- no more shares
pub share_end : (size total number first left : ℕ) (shares : List Share)
    → AreSharesSoFar size total number first left shares → left ≡ 0
    → AreShares size 0 0 total shares
share_end size total number first left shares so_far none =
    let P : List Share → Type 0 = λ ss. AreShares size 0 0 total ss in subst P (append-nil shares) (so_far [] none)

-- the number of shares is at most that of the jobs
pub few_shares : (size number first left jobs : ℕ) (shares : List Share) → AreShares size number first left shares
    → left ≤ size * jobs
    → length shares ≤ jobs
few_shares size number first left jobs [] cut most = omega arith
few_shares size number first left zero (s ∷ more) cut most = absurd (omega (arith, most, cut.2))
few_shares size number first left (suc jobs) (s ∷ more) cut most =
    omega (
      arith,
      few_shares size (number + 1) (first + min size left) (left - min size left) jobs more cut.4
          (omega (arith, most)),
    )
