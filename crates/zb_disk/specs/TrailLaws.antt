-- The laws of the trait, for a disk with a trail.
use Rattle.std.specs.Prelude.{ℕ, ◌+◌, ◌-◌, ◌≤◌, ◌≡◌, ◌++◌, List, [], ◌∷◌, length, take, drop, replicate, refl}
use Rattle.std.proofs.Common.{sym, ◌∙◌, ap, subst, arith, length-take, length-drop, length-append, append_assoc}
use Rattle.std.proofs.lemmas.List.{take-take, drop-drop, drop_at, take-append-le, length-replicate}
use Rattle.zb_disk.specs.View.{Torn, overwrite}
use Rattle.zb_disk.specs.Trail.{Trail, Step, writes, syncs, replayed, LeftAfter}

-- A write is one of its torn results.
module _ (d : List ℕ) (at : ℕ) (bytes : List ℕ) where
  front : List ℕ
  front = take at (d ++ replicate (at - length d) 0)

  length-front : length front ≡ at
  unfolding front
  length-front =
      omega (
        arith,
        length-take at (d ++ replicate (at - length d) 0),
        length-append d (replicate (at - length d) 0),
        length-replicate {A = ℕ} (at - length d) 0,
      )

  as_front : overwrite d at bytes ≡ front ++ (bytes ++ drop (at + length bytes) d)
  unfolding front
  as_front = append_assoc front bytes (drop (at + length bytes) d)

  pub whole_write : Torn at (length bytes) d (overwrite d at bytes)
  unfolding front
  whole_write =
      let long : length (front ++ bytes) ≡ at + length bytes = omega (arith, length-append front bytes, length-front)
      in
      record {
        before = λ m until in_it.
            ap (λ (l : List ℕ). take m l) as_front ∙ take-append-le m front (bytes ++ drop (at + length bytes) d)
            (omega (arith, length-front))
            ∙ take-take m at (d ++ replicate (at - length d) 0) until ∙ take-append-le m d
            (replicate (at - length d) 0) in_it;
        after = λ m from.
            let split : m ≡ (at + length bytes) + (m - (at + length bytes)) = omega arith in
            ap (λ (i : ℕ). drop i (overwrite d at bytes)) split ∙ sym
            (drop-drop (m - (at + length bytes)) (at + length bytes) (overwrite d at bytes))
            ∙ ap (λ (l : List ℕ). drop (m - (at + length bytes)) l)
            (drop_at (front ++ bytes) (drop (at + length bytes) d) (at + length bytes) long)
            ∙ drop-drop (m - (at + length bytes)) (at + length bytes) d ∙ ap (λ (i : ℕ). drop i d) (sym split);
        no_shorter =
            omega (
              arith,
              ap length as_front,
              length-append front (bytes ++ drop (at + length bytes) d),
              length-front,
              length-append bytes (drop (at + length bytes) d),
              length-drop (at + length bytes) d,
            );
      }

pub left_now : (start : List ℕ) (steps : List Step) → LeftAfter start steps (replayed start steps)
left_now start [] = refl
left_now start (writes at bytes ∷ steps) =
    (replayed start steps, left_now start steps, whole_write (replayed start steps) at bytes)
left_now start (syncs ∷ steps) = refl

pub trail_counts_now : (t : Trail) (m : ℕ) (c : List ℕ) → m ≤ length t.steps → LeftAfter t.start t.steps c → (k : ℕ)
    × (k + m ≤ length t.steps) × LeftAfter t.start (drop k t.steps) c
trail_counts_now t m c before now = (0, omega arith, now)

pub trail_only_now : (t : Trail) (c : List ℕ)
    → ((k : ℕ) × (k + length t.steps ≤ length t.steps) × LeftAfter t.start (drop k t.steps) c)
    → LeftAfter t.start t.steps c
trail_only_now t c left = let none : left.0
    ≡ 0 = omega (arith, left.1) in subst (λ (k : ℕ). LeftAfter t.start (drop k t.steps) c) none left.2
