-- How runs of writes and syncs join.
use Rattle.std.proofs.Common.{◌≡◌, inl, inr, ℕ, zero, suc, ◌+◌, ◌-◌, ◌<◌, List, [], ◌∷◌, length, Bool, IsTrue, if◌then◌else◌, Result, Ok, Err, refl, sym, ◌∙◌, ap, subst, arith}
use Rattle.std.proofs.lemmas.Bool.{cases_lt, ne_eqb}
use Rattle.zb_disk.specs.View.{Telling, View, Torn, Only, IsStill, LeavesOnly, overwrite}
use Rattle.zb_base.specs.Outside.{HasCause, risen}
use Rattle.zb_disk.specs.Calls.{IsCounted, IsWrite, IsSync}
use Rattle.zb_disk.proofs.Moments.{started, goes_on, goes_through, weakened}
use Rattle.zb_store.specs.Layout.{open_gate}
use Rattle.zb_store.specs.Steps.{calls_then, WasAsked, WentThrough, StoppedAfter, TornFrom, PlaceStop, IsPlaced, staged, GateStop, IsStage, IsGated}

-- one call
pub one_through : {T E : Type 0} {tells : Telling} {old new : View} {x : T}
    → IsCounted {T = T} {E = E} tells old new (Ok x) → WentThrough tells 1 old new
one_through {T} {E} {tells} {old} {new} {x} counted = record {
  calls = counted.calls;
  foretold = λ told k low. let first : k
      ≡ 0 = omega arith in ap old.refuses first ∙ sym (counted.foretold told).refusal;
  later = λ told. (counted.foretold told).later;
  off = λ told. (counted.foretold told).off;
  on = λ told. (counted.foretold told).on;
  torn = λ told. (counted.foretold told).torn;
}

pub one_stopped : {T E : Type 0} {tells : Telling} {old new : View} {e : E}
    → IsCounted {T = T} {E = E} tells old new (Err e) → StoppedAfter tells 0 old new
one_stopped counted = record {
  calls = counted.calls;
  foretold = λ told k low. absurd (omega arith);
  refused = λ told. sym (counted.foretold told).refusal;
  later = λ told. (counted.foretold told).later;
  off = λ told. (counted.foretold told).off 0;
  torn = λ told. (counted.foretold told).torn;
}

-- one run after another
pub through_then : {tells : Telling} (n m : ℕ) (a b c : View) → WentThrough tells n a b → WentThrough tells m b c
    → WentThrough tells (n + m) a c
through_then n m a b c first second = record {
  calls = omega (arith, first.calls, second.calls);
  foretold = λ told k low. elim (cases_lt k n) [
    | inl early ↦ first.foretold told k early
    | inr late ↦
        let there : (k - n) + n ≡ k = omega arith in
        ap a.refuses (sym there) ∙ sym (first.later told (k - n)) ∙ second.foretold told (k - n) (omega arith)
  ];
  later = λ told k.
      let there : k + m + n ≡ k + (n + m) = omega arith in
      second.later told k ∙ first.later told (k + m) ∙ ap a.refuses there;
  off = λ told k.
      let there : k + m + n ≡ k + (n + m) = omega arith in
      second.off told k ∙ first.off told (k + m) ∙ ap a.off there;
  on = second.on;
  torn = λ told. second.torn told ∙ first.torn told;
}

pub stopped_then : {tells : Telling} (n m : ℕ) (a b c : View) → WentThrough tells n a b → StoppedAfter tells m b c
    → StoppedAfter tells (n + m) a c
stopped_then n m a b c first second = record {
  calls = omega (arith, first.calls, second.calls);
  foretold = λ told k low. elim (cases_lt k n) [
    | inl early ↦ first.foretold told k early
    | inr late ↦
        let there : (k - n) + n ≡ k = omega arith in
        ap a.refuses (sym there) ∙ sym (first.later told (k - n)) ∙ second.foretold told (k - n) (omega arith)
  ];
  refused = λ told.
      let there : m + n ≡ n + m = omega arith in
      ap a.refuses (sym there) ∙ sym (first.later told m) ∙ second.refused told;
  later = λ told k.
      let there : k + (m + 1) + n ≡ k + (n + m + 1) = omega arith in
      second.later told k ∙ first.later told (k + (m + 1)) ∙ ap a.refuses there;
  off = λ told.
      let there : m + 1 + n ≡ n + m + 1 = omega arith in
      second.off told ∙ first.off told (m + 1) ∙ ap a.off there;
  torn = λ told. second.torn told ∙ first.torn told;
}

-- reads before it change nothing
pub still_through : {tells : Telling} (n : ℕ) (a b c : View) → IsStill a b → WentThrough tells n b c
    → WentThrough tells n a c
still_through n a b c still run = record {
  calls = omega (arith, still.calls, run.calls);
  foretold = λ told k low. sym (still.refuses k) ∙ run.foretold told k low;
  later = λ told k. run.later told k ∙ still.refuses (k + n);
  off = λ told k. run.off told k ∙ still.off (k + n);
  on = run.on;
  torn = λ told. run.torn told ∙ still.torn;
}

pub still_stopped : {tells : Telling} (n : ℕ) (a b c : View) → IsStill a b → StoppedAfter tells n b c
    → StoppedAfter tells n a c
still_stopped n a b c still run = record {
  calls = omega (arith, still.calls, run.calls);
  foretold = λ told k low. sym (still.refuses k) ∙ run.foretold told k low;
  refused = λ told. sym (still.refuses n) ∙ run.refused told;
  later = λ told k. run.later told k ∙ still.refuses (k + (n + 1));
  off = λ told. run.off told ∙ still.off (n + 1);
  torn = λ told. run.torn told ∙ still.torn;
}

-- ---- how many writes and syncs were asked for

some_then : (count n : ℕ) → 0 < n → calls_then count n ≡ risen count n
some_then count n some = ap (λ (b : Bool). if b then count else risen count n)
    (ne_eqb n 0 (λ none. absurd (omega arith)))

counts_then : (a b c n m : ℕ) → b ≡ calls_then a n → c ≡ calls_then b m → c ≡ calls_then a (n + m)
counts_then a b c zero m first second = second ∙ ap (λ (k : ℕ). calls_then k m) first ∙ ap (λ (k : ℕ). calls_then a k)
    (omega arith)
counts_then a b c (suc n) zero first second = second ∙ first ∙ ap (λ (k : ℕ). calls_then a k) (omega arith)
counts_then a b c (suc n) (suc m) first second =
    let front : b ≡ risen a (suc n) = first ∙ some_then a (suc n) (omega arith) in
    let back : c ≡ risen b (suc m) = second ∙ some_then b (suc m) (omega arith) in
    let counts : c ≡ risen a (suc n + suc m) = omega (arith, front, back) in
    counts ∙ sym (some_then a (suc n + suc m) (omega arith))

pub one_asked : {T E : Type 0} {tells : Telling} {old new : View} {r : Result T E}
    → IsCounted {T = T} {E = E} tells old new r → WasAsked tells old new
one_asked counted =
    record {
      made = 1;
      calls = counted.calls;
      later = λ told. (counted.foretold told).later;
      off = λ told. (counted.foretold told).off;
    }

pub asked_then : {tells : Telling} (a b c : View) → WasAsked tells a b → WasAsked tells b c → WasAsked tells a c
asked_then a b c first second =
    let there : (k : ℕ) → k + second.made + first.made ≡ k + (first.made + second.made) = λ k. omega arith in
    record {
      made = first.made + second.made;
      calls = counts_then a.calls b.calls c.calls first.made second.made first.calls second.calls;
      later = λ told k. second.later told k ∙ first.later told (k + second.made) ∙ ap a.refuses (there k);
      off = λ told k. second.off told k ∙ first.off told (k + second.made) ∙ ap a.off (there k);
    }

pub causes : {T E T' E' : Type 0} (a b c : ℕ) (x : T) (r : Result T' E') → HasCause {T = T} {E = E} a b (Ok x)
    → HasCause {T = T'} {E = E'} b c r → HasCause {T = T'} {E = E'} a c r
causes a b c x (Ok y) first second = record {
  later = omega (arith, first.later, second.later);
  unrisen = second.unrisen ∙ first.unrisen;
  failed = tt;
}
causes a b c x (Err e) first second = record {
  later = omega (arith, first.later, second.later);
  unrisen = tt;
  failed = omega (arith, first.later, second.failed);
}

torn_same : (at n : ℕ) (c : List ℕ) → Torn at n c c
torn_same at n c = record { before = λ m until within. refl; after = λ m from. refl; no_shorter = omega arith }

-- a write and its sync
module _ (tells : Telling) (at : ℕ) (bytes : List ℕ) (v0 v1 v2 : View)
    (only_now : (c : List ℕ) → v0.since v0.moment c → v0.images c) where
  abbrev P : List ℕ → Type 0
  P = TornFrom v0.images at (length bytes)

  begun : LeavesOnly v0 v0 P
  begun = started v0 P only_now (λ c image. (c, image, torn_same at (length bytes) c))

  pub placed_stopped : {T E : Type 0} (e : E) → IsWrite {T = T} {E = E} tells at bytes v0 v1 (Err e)
      → IsPlaced {T = T} {E = E} tells at bytes v0 v1 (Err e)
  placed_stopped {T} {E} e write = record {
    seen = tt;
    durable = tt;
    through = tt;
    past = goes_on v0 v0 v1 P begun write.counted.time write.torn;
    stopped = λ told steady. PlaceStop.before_write (one_stopped write.counted) (write.refused steady);
    cause = write.counted.cause;
    asked = one_asked write.counted;
  }

  pub placed : {T E : Type 0} (x : T) (r : Result T E) → IsWrite {T = T} {E = E} tells at bytes v0 v1 (Ok x)
      → IsSync {T = T} {E = E} tells v1 v2 r → IsPlaced {T = T} {E = E} tells at bytes v0 v2 r
  placed {T} {E} x (Ok y) write sync = record {
    seen = λ told. sync.seen ∙ write.written told;
    durable = sync.durable;
    through = through_then 1 1 v0 v1 v2 (one_through write.counted) (one_through sync.counted);
    past = goes_on v0 v1 v2 P (goes_on v0 v0 v1 P begun write.counted.time write.torn) sync.counted.time
        (λ c image. write.torn c (sync.images c image));
    stopped = tt;
    cause = causes v0.faults v1.faults v2.faults x (Ok y) write.counted.cause sync.counted.cause;
    asked = asked_then v0 v1 v2 (one_asked write.counted) (one_asked sync.counted);
  }
  placed {T} {E} x (Err e) write sync = record {
    seen = tt;
    durable = tt;
    through = tt;
    past = goes_on v0 v1 v2 P (goes_on v0 v0 v1 P begun write.counted.time write.torn) sync.counted.time
        (λ c image. write.torn c (sync.images c image));
    stopped =
        λ told steady. PlaceStop.before_sync
        (stopped_then 1 0 v0 v1 v2 (one_through write.counted) (one_stopped sync.counted)) (record {
          seen = sync.seen ∙ write.written told;
          torn = λ c image. write.torn c (sync.images c image);
          opens = λ d c image torn. sync.images_kept c (write.opens d c image torn);
        });
    cause = causes v0.faults v1.faults v2.faults x (Err e) write.counted.cause sync.counted.cause;
    asked = asked_then v0 v1 v2 (one_asked write.counted) (one_asked sync.counted);
  }

-- bytes after a gate, and then the gate
module _ (tells : Telling) (gate : ℕ) (bytes : List ℕ) (v0 v1 v2 : View)
    (reads : IsTrue tells.content → v0.images v0.seen) where
  abbrev S : List ℕ → Type 0
  S = IsStage gate bytes v0

  first_leaves : {T E : Type 0} (r : Result T E) → IsPlaced {T = T} {E = E} tells (gate + 1) bytes v0 v1 r
      → LeavesOnly v0 v1 S
  first_leaves r first = weakened v0 v1 (TornFrom v0.images (gate + 1) (length bytes)) S (λ c torn. inl torn)
      first.past

  pub gated_stopped : {T E : Type 0} (e : E) → IsPlaced {T = T} {E = E} tells (gate + 1) bytes v0 v1 (Err e)
      → IsGated {T = T} {E = E} tells gate bytes v0 v1 (Err e)
  gated_stopped {T} {E} e first = record {
    seen = tt;
    durable = tt;
    through = tt;
    past = λ told. first_leaves (Err e) first;
    stopped = λ told steady. elim (first.stopped told steady) [
      | PlaceStop.before_write stop same ↦ GateStop.before_bytes stop same
      | PlaceStop.before_sync stop open_range ↦ GateStop.bytes_unsynced stop open_range.torn
    ];
    cause = first.cause;
    asked = first.asked;
  }

  -- what the second write's images come from
  from_stage : Only v1.seen v1.images → v1.seen ≡ staged gate bytes v0.seen → (c : List ℕ)
      → TornFrom v1.images gate 1 c → Torn gate 1 (staged gate bytes v0.seen) c
  from_stage only seen c torn = subst (λ (d : List ℕ). Torn gate 1 d c) (only torn.0 torn.1 ∙ seen) torn.2

  pub gated_done : {T E : Type 0} (x : T) (r : Result T E) → IsPlaced {T = T} {E = E} tells (gate + 1) bytes v0 v1
      (Ok x) → IsPlaced {T = T} {E = E} tells gate (open_gate ∷ []) v1 v2 r
      → (IsTrue tells.content → v1.images v1.seen) → IsGated {T = T} {E = E} tells gate bytes v0 v2 r
  gated_done {T} {E} x (Ok y) first second reads_now = record {
    seen = λ told. second.seen told ∙ ap (λ (l : List ℕ). overwrite l gate (open_gate ∷ [])) (first.seen told);
    durable = second.durable;
    through = through_then 2 2 v0 v1 v2 first.through second.through;
    past = λ told. goes_through v0 v1 v2 S (first_leaves (Ok x) first)
        (weakened v1 v2 (TornFrom v1.images gate 1) S
        (λ c torn. inr (from_stage first.durable (first.seen told) c torn)) second.past);
    stopped = tt;
    cause = causes v0.faults v1.faults v2.faults x (Ok y) first.cause second.cause;
    asked = asked_then v0 v1 v2 first.asked second.asked;
  }
  gated_done {T} {E} x (Err e) first second reads_now = record {
    seen = tt;
    durable = tt;
    through = tt;
    past = λ told. goes_through v0 v1 v2 S (first_leaves (Ok x) first)
        (weakened v1 v2 (TornFrom v1.images gate 1) S
        (λ c torn. inr (from_stage first.durable (first.seen told) c torn)) second.past);
    stopped = λ told steady. elim (second.stopped told steady) [
      | PlaceStop.before_write stop same ↦ GateStop.before_gate (stopped_then 2 0 v0 v1 v2 first.through stop)
          (λ c image. first.durable c (same.images c image) ∙ first.seen told)
      | PlaceStop.before_sync stop open_range ↦ GateStop.gate_unsynced (stopped_then 2 1 v0 v1 v2 first.through stop)
          (open_range.seen ∙ ap (λ (l : List ℕ). overwrite l gate (open_gate ∷ [])) (first.seen told))
          (λ c image. from_stage first.durable (first.seen told) c (open_range.torn c image))
          (λ c torn. open_range.opens v1.seen c (reads_now told)
          (subst (λ (d : List ℕ). Torn gate 1 d c) (sym (first.seen told)) torn))
    ];
    cause = causes v0.faults v1.faults v2.faults x (Err e) first.cause second.cause;
    asked = asked_then v0 v1 v2 first.asked second.asked;
  }
