-- How a run of device calls continues.
use Rattle.std.proofs.Common.{inl, inr, ⊎_elim, ℕ, List, refl, sym, ◌∙◌, subst, arith}
use Rattle.zb_disk.specs.View.{Telling, View, IsStill, LeavesOnly}
use Rattle.zb_disk.specs.Calls.{Elapses}

-- Before the first call.
pub started : (v : View) (P : List ℕ → Type 0) → ((c : List ℕ) → v.since v.moment c → v.images c)
    → ((c : List ℕ) → v.images c → P c) → LeavesOnly v v P
started v P only_now here =
    record {
      later = omega arith;
      each = λ c left. here c (only_now c left);
      now = here;
      before = λ t c before left. inl left;
    }

-- One call more, after which a crash leaves only contents with P.
pub goes_on : {tells : Telling} (old mid new : View) (P : List ℕ → Type 0) → LeavesOnly old mid P
    → Elapses tells mid new → ((c : List ℕ) → new.images c → P c) → LeavesOnly old new P
goes_on old mid new P so_far time here = record {
  later = omega (arith, so_far.later, time.later);
  each = λ c left. ⊎_elim (so_far.each c) (here c) (time.nothing_else old.moment c so_far.later left);
  now = here;
  before = λ t c before left. ⊎_elim (so_far.before t c before) (λ (now : new.images c). inr (here c now))
      (time.nothing_else t c (omega (arith, before, so_far.later)) left);
}

-- One run after another.
pub goes_through : (old mid new : View) (P : List ℕ → Type 0) → LeavesOnly old mid P → LeavesOnly mid new P
    → LeavesOnly old new P
goes_through old mid new P first second = record {
  later = omega (arith, first.later, second.later);
  each = λ c left. ⊎_elim (first.each c) (λ (it : P c). it) (second.before old.moment c first.later left);
  now = second.now;
  before = λ t c before left. ⊎_elim (first.before t c before) (λ (it : P c). inr it)
      (second.before t c (omega (arith, before, first.later)) left);
}

-- Contents with P have Q.
pub weakened : (old new : View) (P Q : List ℕ → Type 0) → ((c : List ℕ) → P c → Q c) → LeavesOnly old new P
    → LeavesOnly old new Q
weakened old new P Q weaker run = record {
  later = run.later;
  each = λ c left. weaker c (run.each c left);
  now = λ c left. weaker c (run.now c left);
  before = λ t c before left. ⊎_elim (λ (past : old.since t c). inl past) (λ (it : P c). inr (weaker c it))
      (run.before t c before left);
}

-- A run that begins with calls that change nothing.
pub still_then : (old mid new : View) (P : List ℕ → Type 0) → IsStill old mid → LeavesOnly mid new P
    → LeavesOnly old new P
still_then old mid new P still run =
    let same = still.moment in
    record {
      later = omega (arith, same, run.later);
      each = λ c left. run.each c (subst (λ t. new.since t c) (sym same) left);
      now = run.now;
      before = λ t c before left. ⊎_elim (λ (past : mid.since t c). inl (still.since t c past)) (λ (it : P c). inr it)
          (run.before t c (omega (arith, same, before)) left);
    }

-- Calls that change nothing, alone.
pub still_leaves : (old new : View) (P : List ℕ → Type 0) → IsStill old new
    → ((c : List ℕ) → old.since old.moment c → old.images c) → ((c : List ℕ) → old.images c → P c)
    → LeavesOnly old new P
still_leaves old new P still only_now here =
    let same = still.moment in
    record {
      later = omega (arith, same);
      each = λ c left. here c (only_now c (still.since old.moment c left));
      now = λ c left. here c (still.same.images c left);
      before = λ t c before left. inl (still.since t c left);
    }

pub still_refl : (v : View) → IsStill v v
still_refl v = record {
  same = record { seen = refl; images = λ c image. image; images_kept = λ c image. image };
  calls = refl;
  off = λ k. refl;
  refuses = λ k. refl;
  torn = refl;
  moment = refl;
  since = λ t c left. left;
  since_kept = λ t c left. left;
}

pub still_trans : (a b c : View) → IsStill a b → IsStill b c → IsStill a c
still_trans a b c first second = record {
  same = record {
    seen = second.same.seen ∙ first.same.seen;
    images = λ x image. first.same.images x (second.same.images x image);
    images_kept = λ x image. second.same.images_kept x (first.same.images_kept x image);
  };
  calls = second.calls ∙ first.calls;
  off = λ k. second.off k ∙ first.off k;
  refuses = λ k. second.refuses k ∙ first.refuses k;
  torn = second.torn ∙ first.torn;
  moment = second.moment ∙ first.moment;
  since = λ t x left. first.since t x (second.since t x left);
  since_kept = λ t x left. second.since_kept t x (first.since_kept t x left);
}
