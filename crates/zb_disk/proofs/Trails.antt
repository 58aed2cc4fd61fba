-- The calls of a disk with a trail keep the contracts of the trait.
use Rattle.std.proofs.Common.{◌≡◌, ◌⊎◌, inl, inr, ℕ, zero, suc, ◌+◌, ◌≤◌, List, [], ◌∷◌, ◌++◌, length, take, drop, reverse, Ok, Err, refl, sym, ◌∙◌, ap, subst, arith, length-drop}
use Rattle.std.proofs.lemmas.List.{take-append-le, drop-append-le, reverse-append, take_all, length-reverse}
use Rattle.std.proofs.lemmas.Bool.{false≢true}
use Rattle.zb_base.specs.Outside.{risen}
use Rattle.zb_disk.specs.declared.trail.Logged.{Logged}
use Rattle.zb_disk.specs.declared.trail.Logged.TheVariants.{Wrote, Synced}
use Rattle.zb_disk.specs.View.{Torn}
use Rattle.zb_disk.specs.Calls.{IsCounted, IsWrite, IsSync, Elapses}
use Rattle.zb_disk.specs.Trail.{Trail, Step, writes, syncs, LeftAfter, trail_tells, trail_view, refused, kept_write, kept_sync, steps_of, total}
use Rattle.zb_disk.specs.TrailLaws.{left_now}

push_write : (log : List Logged) (pool piece : List ℕ) (at : ℕ) → total log ≡ length pool
    → steps_of (log ++ Wrote at (length piece) ∷ []) (pool ++ piece) ≡ steps_of log pool ++ writes at piece ∷ []
push_write [] [] piece at whole = ap (λ (l : List ℕ). writes at l ∷ []) (take_all (length piece) piece (omega arith))
push_write [] (x ∷ pool) piece at whole = absurd (omega arith)
push_write (Wrote a len ∷ log) pool piece at whole =
    let within : len ≤ length pool = omega arith in
    ap (λ (l : List ℕ). writes a l ∷ steps_of (log ++ Wrote at (length piece) ∷ []) (drop len (pool ++ piece)))
    (take-append-le len pool piece within)
    ∙ ap (λ (l : List ℕ). writes a (take len pool) ∷ steps_of (log ++ Wrote at (length piece) ∷ []) l)
    (drop-append-le len pool piece within)
    ∙ ap (λ (l : List Step). writes a (take len pool) ∷ l)
    (push_write log (drop len pool) piece at (omega (arith, whole, length-drop len pool)))
push_write (Synced ∷ log) pool piece at whole = ap (λ (l : List Step). syncs ∷ l) (push_write log pool piece at whole)

push_sync : (log : List Logged) (pool : List ℕ) → steps_of (log ++ Synced ∷ []) pool ≡ steps_of log pool ++ syncs ∷ []
push_sync [] pool = refl
push_sync (Wrote a len ∷ log) pool = ap (λ (l : List Step). writes a (take len pool) ∷ l)
    (push_sync log (drop len pool))
push_sync (Synced ∷ log) pool = ap (λ (l : List Step). syncs ∷ l) (push_sync log pool)

length-steps_of : (log : List Logged) (pool : List ℕ) → length (steps_of log pool) ≡ length log
length-steps_of [] pool = refl
length-steps_of (Wrote a len ∷ log) pool = ap suc (length-steps_of log (drop len pool))
length-steps_of (Synced ∷ log) pool = ap suc (length-steps_of log pool)

pub length-steps : (log : List Logged) (pool : List ℕ) → length (reverse (steps_of log pool)) ≡ length log
length-steps log pool = length-reverse (steps_of log pool) ∙ length-steps_of log pool

pub same_trail : (t : Trail) (a a' : List Step) (b b' c c' : ℕ) → a ≡ a' → b ≡ b' → c ≡ c'
    → record t { steps = a; taken = b; calls = c } ≡ record t { steps = a'; taken = b'; calls = c' }
same_trail t a a' b b' c c' p q r =
    ap (λ (x : List Step). let n : Trail = record t { steps = x; taken = b; calls = c } in n) p
    ∙ ap (λ (x : ℕ). let n : Trail = record t { steps = a'; taken = x; calls = c } in n) q
    ∙ ap (λ (x : ℕ). let n : Trail = record t { steps = a'; taken = b'; calls = x } in n) r

-- The newest step comes first.
pub newest_write : (log : List Logged) (pool piece : List ℕ) (at : ℕ) → total log ≡ length pool
    → reverse (steps_of (log ++ Wrote at (length piece) ∷ []) (pool ++ piece)) ≡ writes at piece
    ∷ reverse (steps_of log pool)
newest_write log pool piece at whole = ap reverse (push_write log pool piece at whole) ∙ reverse-append
    (steps_of log pool) (writes at piece ∷ [])

pub newest_sync : (log : List Logged) (pool : List ℕ) → reverse (steps_of (log ++ Synced ∷ []) pool) ≡ syncs
    ∷ reverse (steps_of log pool)
newest_sync log pool = ap reverse (push_sync log pool) ∙ reverse-append (steps_of log pool) (syncs ∷ [])

pub total_write : (log : List Logged) (at len : ℕ) → total (log ++ Wrote at len ∷ []) ≡ total log + len
total_write [] at len = omega arith
total_write (Wrote a n ∷ log) at len = omega (arith, total_write log at len)
total_write (Synced ∷ log) at len = total_write log at len

pub total_sync : (log : List Logged) → total (log ++ Synced ∷ []) ≡ total log
total_sync [] = refl
total_sync (Wrote a n ∷ log) = ap (λ (k : ℕ). n + k) (total_sync log)
total_sync (Synced ∷ log) = total_sync log

-- One step more.
elapses : (t : Trail) (step : Step) (new : Trail) → new.start ≡ t.start → new.steps ≡ step ∷ t.steps
    → Elapses trail_tells (trail_view t)
    (trail_view (record t { steps = step ∷ t.steps; calls = new.calls; faults = new.faults; taken = new.taken }))
elapses t step new start steps = record {
  later = omega arith;
  nothing_else = λ m c before left. earlier m c left.0 left.1 left.2;
  kept = λ told m c before left. (suc left.0, omega (arith, left.1), left.2);
}
  where
    earlier : (m : ℕ) (c : List ℕ) (k : ℕ) → k + m ≤ suc (length t.steps)
        → LeftAfter t.start (drop k (step ∷ t.steps)) c
        → ((k : ℕ) × (k + m ≤ length t.steps) × LeftAfter t.start (drop k t.steps) c)
        ⊎ LeftAfter t.start (step ∷ t.steps) c
    earlier m c zero before left = inr left
    earlier m c (suc k) before left = inl (k, omega (arith, before), left)

same_time : (t new : Trail) → new.start ≡ t.start → new.steps ≡ t.steps
    → Elapses trail_tells (trail_view t) (trail_view (record t { calls = new.calls; faults = new.faults }))
same_time t new start steps =
    record { later = omega arith; nothing_else = λ m c before left. inl left; kept = λ told m c before left. left }

pub trail_write_ok : {E : Type 0} (t : Trail) (at : ℕ) (bytes : List ℕ)
    → IsWrite {T = Unit {0}} {E = E} trail_tells at bytes (trail_view t) (trail_view (kept_write t at bytes)) (Ok tt)
unfolding kept_write
trail_write_ok t at bytes = record {
  written = λ told. refl;
  torn = λ c image. image;
  opens = λ d c image torn. (d, image, torn);
  refused = tt;
  counted = record {
    calls = refl;
    cause = record { later = omega arith; unrisen = refl; failed = tt };
    time = elapses t (writes at bytes)
        (record t { steps = writes at bytes ∷ t.steps; taken = t.taken + length bytes; calls = risen t.calls 1 }) refl
        refl;
    foretold = λ told. absurd (false≢true told);
  };
}

pub trail_sync_ok : {E : Type 0} (t : Trail) → IsSync {T = Unit {0}} {E = E} trail_tells (trail_view t)
    (trail_view (kept_sync t)) (Ok tt)
unfolding kept_sync
trail_sync_ok t = record {
  durable = λ c image. image;
  seen = refl;
  images = λ c image. subst (λ (l : List ℕ). LeftAfter t.start t.steps l) (sym image) (left_now t.start t.steps);
  images_kept = tt;
  counted = record {
    calls = refl;
    cause = record { later = omega arith; unrisen = refl; failed = tt };
    time = elapses t syncs (record t { steps = syncs ∷ t.steps; calls = risen t.calls 1 }) refl refl;
    foretold = λ told. absurd (false≢true told);
  };
}

counted_err : {E : Type 0} (t : Trail) (e : E) → t.faults ≤ (refused t).faults
    → IsCounted {T = Unit {0}} {E = E} trail_tells (trail_view t) (trail_view (refused t)) (Err e)
unfolding refused
counted_err t e later = record {
  calls = refl;
  cause = record { later = later; unrisen = tt; failed = omega arith };
  time = same_time t (record t { calls = risen t.calls 1; faults = risen t.faults 1 }) refl refl;
  foretold = λ told. absurd (false≢true told);
}

torn_same : (at n : ℕ) (c : List ℕ) → Torn at n c c
torn_same at n c = record { before = λ m until within. refl; after = λ m from. refl; no_shorter = omega arith }

pub trail_write_err : {E : Type 0} (t : Trail) (at : ℕ) (bytes : List ℕ) (e : E) → t.faults ≤ (refused t).faults
    → IsWrite {T = Unit {0}} {E = E} trail_tells at bytes (trail_view t) (trail_view (refused t)) (Err e)
unfolding refused
trail_write_err t at bytes e later = record {
  written = tt;
  torn = λ c image. (c, image, torn_same at (length bytes) c);
  opens = tt;
  refused = λ told. record { seen = refl; images = λ c image. image; images_kept = λ c image. image };
  counted = counted_err t e later;
}

pub trail_sync_err : {E : Type 0} (t : Trail) (e : E) → t.faults ≤ (refused t).faults
    → IsSync {T = Unit {0}} {E = E} trail_tells (trail_view t) (trail_view (refused t)) (Err e)
unfolding refused
trail_sync_err t e later = record {
  durable = tt;
  seen = refl;
  images = λ c image. image;
  images_kept = λ c image. image;
  counted = counted_err t e later;
}
