-- The sums of the ends of runs.
use Rattle.std.proofs.Common.{◌≡◌, ℕ, zero, suc, ◌+◌, ◌*◌, ◌<◌, ◌≤◌, List, [], ◌∷◌, ◌++◌, map, take, get_or, length, sum_by, add-one, refl, ap, sym, ◌∙◌, arith}
use Rattle.std.proofs.lemmas.List.{map-append}
use Rattle.std.proofs.lemmas.List.Sums.{fold-append}
use Rattle.zb_campaign.specs.Campaigns.{accepts_in, refusals_in, seals_in}
use Rattle.zb_campaign.specs.declared.total.Total.{Total}
use Rattle.zb_model.specs.Lines.{Line}
use Rattle.zb_player.specs.Runs.{last_line}
use Rattle.zb_player.specs.declared.summary.Summary.{Summary}

-- The total of the first n of these ends. There are few of them.
pub record IsTotal (ends : List Summary) (n : ℕ) (total : Total) : Type 0 where
  pub seals : total.seals ≡ sum_by seals_in (map last_line (take n ends))
  pub accepts : total.accepts ≡ sum_by accepts_in (map last_line (take n ends))
  pub refusals : total.refusals ≡ sum_by refusals_in (map last_line (take n ends))
  pub few_seals : total.seals ≤ n * 4294967295
  pub few_accepts : total.accepts ≤ n * 4294967295
  pub few_refusals : total.refusals ≤ n * 4294967295

take_next : {A : Type 0} (xs : List A) (i : ℕ) (d : A) → i < length xs → take (suc i) xs ≡ take i xs ++ get_or xs i d
    ∷ []
take_next [] i d within = absurd (omega arith)
take_next (y ∷ xs) zero d within = refl
take_next (y ∷ xs) (suc i) d within = ap (λ zs. y ∷ zs) (take_next xs i d (omega arith))

sum_next : (f : Line → ℕ) (ends : List Summary) (i : ℕ) (d : Summary) → i < length ends
    → sum_by f (map last_line (take (i + 1) ends))
    ≡ sum_by f (map last_line (take i ends)) + f (last_line (get_or ends i d))
sum_next f ends i d within =
    ap (λ n. sum_by f (map last_line (take n ends))) (add-one i)
    ∙ ap (λ xs. sum_by f (map last_line xs)) (take_next ends i d within)
    ∙ ap (λ xs. sum_by f xs) (map-append last_line (take i ends) (get_or ends i d ∷ []))
    ∙ fold-append (λ (a : ℕ) (x : Line). a + f x) 0 (map last_line (take i ends)) (last_line (get_or ends i d) ∷ [])

pub total_next : (ends : List Summary) (i : ℕ) (old new : Total) (d : Summary) → i < length ends → IsTotal ends i old
    → new.seals ≡ old.seals + (get_or ends i d).seals → new.accepts ≡ old.accepts + (get_or ends i d).accepts
    → new.refusals ≡ old.refusals + (get_or ends i d).refusals
    → new.seals ≤ old.seals + 4294967295 → new.accepts ≤ old.accepts + 4294967295 → new.refusals
    ≤ old.refusals + 4294967295
    → IsTotal ends (i + 1) new
total_next ends i old new d within so_far seals accepts refusals few_seals few_accepts few_refusals = record {
  seals = seals ∙ ap (λ n. n + (get_or ends i d).seals) so_far.seals ∙ sym (sum_next seals_in ends i d within);
  accepts = accepts ∙ ap (λ n. n + (get_or ends i d).accepts) so_far.accepts ∙ sym
      (sum_next accepts_in ends i d within);
  refusals = refusals ∙ ap (λ n. n + (get_or ends i d).refusals) so_far.refusals ∙ sym
      (sum_next refusals_in ends i d within);
  few_seals = omega (arith, so_far.few_seals, few_seals);
  few_accepts = omega (arith, so_far.few_accepts, few_accepts);
  few_refusals = omega (arith, so_far.few_refusals, few_refusals);
}
