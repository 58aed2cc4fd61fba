-- What follows of a run of commands: the lines that were written, what stands at its end, and what a crash inside it
-- leaves.
use Rattle.std.proofs.Common.{◌≡◌, ℕ, zero, suc, inl, inr, List, [], ◌∷◌, ◌++◌, take, Option, Ok, Err, refl, sym, ap, ◌∙◌, subst, append_assoc}
use Rattle.std.proofs.KnownBytes.{Appends-nil, Appends-trans}
use Rattle.std.specs.Io.KnownBytes.{Appends}
use Rattle.zb_admin.specs.Moments.{IsWornAt, text_after}
use Rattle.zb_admin.specs.Served.{done, served}
use Rattle.zb_centre_store.specs.Outside.{Outside}
use Rattle.zb_admin.specs.Serving.{Ended, Runs}
use Rattle.zb_centre_store.specs.Standing.{StandsAs}
use Rattle.zb_centre_store.specs.declared.fault.AdminFault.{AdminFault}
use Rattle.zb_centre_store.specs.declared.fault.AdminFault.TheVariants.{Worn, Write}
use Rattle.zb_base.specs.Outside.{AppendsFront}
use Rattle.zb_model.specs.Data.{Bytes}
use Rattle.zb_model.specs.Rules.{Setting}
use Rattle.zb_model.specs.State.{NodeState}
use Rattle.zb_script.specs.declared.script.Step.{Step}
use Rattle.zb_text.specs.Pages.{ended, page}

pub page_more : (xs ys : List Bytes) → page (xs ++ ys) ≡ page xs ++ page ys
page_more [] ys = refl
page_more (x ∷ xs) ys = ap (λ l. ended x ++ l) (page_more xs ys) ∙ sym (append_assoc (ended x) (page xs) (page ys))

-- prefixes of two texts, one after the other

take_front : (xs ys : Bytes) (n : ℕ) → (m : ℕ) × (take m (xs ++ ys) ≡ take n xs)
take_front [] ys zero = (0, refl)
take_front [] ys (suc n) = (0, refl)
take_front (x ∷ xs) ys zero = (0, refl)
take_front (x ∷ xs) ys (suc n) = let r = take_front xs ys n in (suc r.0, ap (λ l. x ∷ l) r.1)

take_behind : (xs ys : Bytes) (n : ℕ) → (m : ℕ) × (take m (xs ++ ys) ≡ xs ++ take n ys)
take_behind [] ys n = (n, refl)
take_behind (x ∷ xs) ys n = let r = take_behind xs ys n in (suc r.0, ap (λ l. x ∷ l) r.1)

pub front_within : (a b : Option Bytes) (xs ys : Bytes) → AppendsFront a b xs → AppendsFront a b (xs ++ ys)
front_within a b xs ys f = let r = take_front xs ys f.0 in (r.0, subst (Appends a b) (sym r.1) f.1)

pub front_behind : (a b c : Option Bytes) (xs ys : Bytes) → Appends a b xs → AppendsFront b c ys
    → AppendsFront a c (xs ++ ys)
front_behind a b c xs ys first f = let r =
    take_behind xs ys f.0 in (r.0, subst (Appends a c) (sym r.1) (Appends-trans a b c xs (take f.0 ys) first f.1))

not_both : {A : Type 0} (result : Ended) (f : AdminFault) → result ≡ Ok tt → result ≡ Err f → A
not_both result f ok is = let e : ◌≡◌ {A = Ended} (Ok tt) (Err f) = sym ok ∙ is in absurd (cc)

one_fault : (f g : AdminFault) → ◌≡◌ {A = Ended} (Err f) (Err g) → f ≡ g
one_fault f g e = cc

module _ {D W : Type 0} (x : Outside D W) (c : Setting) where
  -- it is worn at a command that had something to store, and the lines of those before it were written
  pub run_worn : (steps : List Step) (b : Option NodeState) (old : D) (before : W) (result : Ended) (new : D)
      (after : W) → result ≡ Err Worn → Runs x c steps b old before result new after
      → (at : IsWornAt c steps b) × Appends (x.taken before) (x.taken after) (text_after c steps b at.commands)
  run_worn [] b old before result new after worn (is, same_disk, same) = not_both result Worn is worn
  run_worn (step ∷ steps) b old before result new after worn (inl (fault, is, inl (between, same, changes))) = (
    record {
      commands = 0;
      step = step;
      rest = steps;
      comes_next = refl;
      changes = changes (one_fault fault Worn (sym is ∙ worn));
    },
    subst (λ (w : W). Appends (x.taken before) (x.taken w) []) (sym same) (Appends-nil (x.taken before)),
  )
  run_worn (step ∷ steps) b old before result new after worn (inl (fault, is, inr (stored, front, wrote))) =
      let none : Write ≡ Worn = sym wrote ∙ one_fault fault Worn (sym is ∙ worn) in absurd (cc)
  run_worn (step ∷ steps) b old before result new after worn (inr (disk, sink, stored, lines, rest)) =
      let r = run_worn steps (done c step b).after disk sink result new after worn rest in (
        record {
          commands = suc r.0.commands;
          step = r.0.step;
          rest = r.0.rest;
          comes_next = r.0.comes_next;
          changes = r.0.changes;
        },
        subst (Appends (x.taken before) (x.taken after))
            (sym (page_more (done c step b).lines (served c (take r.0.commands steps) (done c step b).after).lines))
            (Appends-trans (x.taken before) (x.taken sink) (x.taken after) (page (done c step b).lines)
            (text_after c steps (done c step b).after r.0.commands) lines r.1),
      )

  -- at Ok all lines were written
  pub run_whole : (steps : List Step) (b : Option NodeState) (old : D) (before : W) (result : Ended) (new : D)
      (after : W) → result ≡ Ok tt → Runs x c steps b old before result new after
      → Appends (x.taken before) (x.taken after) (page (served c steps b).lines)
  run_whole [] b old before result new after ok (is, same_disk, same) =
      subst (λ (w : W). Appends (x.taken before) (x.taken w) []) (sym same) (Appends-nil (x.taken before))
  run_whole (step ∷ steps) b old before result new after ok (inl (fault, is, ends)) = not_both result fault ok is
  run_whole (step ∷ steps) b old before result new after ok (inr (disk, sink, stored, lines, rest)) =
      subst (Appends (x.taken before) (x.taken after))
      (sym (page_more (done c step b).lines (served c steps (done c step b).after).lines))
      (Appends-trans (x.taken before) (x.taken sink) (x.taken after) (page (done c step b).lines)
      (page (served c steps (done c step b).after).lines) lines
      (run_whole steps (done c step b).after disk sink result new after ok rest))

  -- at a fault a prefix of them was
  pub run_front : (steps : List Step) (b : Option NodeState) (old : D) (before : W) (result : Ended) (new : D)
      (after : W) (f : AdminFault) → result ≡ Err f → Runs x c steps b old before result new after
      → AppendsFront (x.taken before) (x.taken after) (page (served c steps b).lines)
  run_front [] b old before result new after f err (is, same_disk, same) = not_both result f is err
  run_front (step ∷ steps) b old before result new after f err (inl (fault, is, inl (between, same, worn))) =
      (0, subst (λ (w : W). Appends (x.taken before) (x.taken w) []) (sym same) (Appends-nil (x.taken before)))
  run_front (step ∷ steps) b old before result new after f err (inl (fault, is, inr (stored, front, wrote))) =
      subst (AppendsFront (x.taken before) (x.taken after))
      (sym (page_more (done c step b).lines (served c steps (done c step b).after).lines))
      (front_within (x.taken before) (x.taken after) (page (done c step b).lines)
      (page (served c steps (done c step b).after).lines) front)
  run_front (step ∷ steps) b old before result new after f err (inr (disk, sink, stored, lines, rest)) =
      subst (AppendsFront (x.taken before) (x.taken after))
      (sym (page_more (done c step b).lines (served c steps (done c step b).after).lines))
      (front_behind (x.taken before) (x.taken sink) (x.taken after) (page (done c step b).lines)
      (page (served c steps (done c step b).after).lines) lines
      (run_front steps (done c step b).after disk sink result new after f err rest))

  -- at Ok every image represents the last record
  pub run_last : (steps : List Step) (b : Option NodeState) (old : D) (before : W) (result : Ended) (new : D)
      (after : W) → result ≡ Ok tt → ((image : List ℕ) → (x.state old).images image → StandsAs b image)
      → Runs x c steps b old before result new after → (image : List ℕ) → (x.state new).images image
      → StandsAs (served c steps b).after image
  run_last [] b old before result new after ok now (is, same, same_sink) image there =
      now image (subst (λ (d : D). (x.state d).images image) same there)
  run_last (step ∷ steps) b old before result new after ok now (inl (fault, is, ends)) image there =
      not_both result fault ok is
  run_last (step ∷ steps) b old before result new after ok now (inr (disk, sink, stored, lines, rest)) image there =
      run_last steps (done c step b).after disk sink result new after ok stored.after rest image there
