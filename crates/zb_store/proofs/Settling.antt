-- What an image represents at each stage of an `open`.
use Rattle.std.proofs.Common.{◌≡◌, ℕ, List, [], ◌∷◌, Bool, true, false, not, if◌then◌else◌, IsTrue, Result, Ok, Err, sym, ◌∙◌, ap, subst}
use Rattle.std.proofs.lemmas.Bool.{eqb-true, eqb-false}
use Rattle.zb_disk.specs.View.{Telling, View, LeavesOnly}
use Rattle.zb_disk.specs.Calls.{IsSync}
use Rattle.zb_disk.proofs.Moments.{started, goes_on, weakened, goes_through}
use Rattle.zb_store.specs.Layout.{Standing, IsWhole, slot, base_of, gate_of, open_gate}
use Rattle.zb_store.specs.Steps.{WentThrough, PlaceStop, IsPlaced}
use Rattle.zb_store.specs.Store.{other_gate, both_gates_open, OpenStop, WasThere, IsFound, IsSettled}
use Rattle.zb_store.proofs.Going.{one_through, one_stopped, through_then, stopped_then, causes, one_asked, asked_then}
use Rattle.zb_store.proofs.Replacing.{closes, closed_held, closing_of, both_open}
use Rattle.zb_store.proofs.Laying.{both_are}

module _ (tells : Telling) (second other_open : Bool) (v0 v1 v2 : View)
    (only_now : (c : List ℕ) → v0.since v0.moment c → v0.images c)
    (reads0 : IsTrue tells.content → v0.images v0.seen) (reads1 : IsTrue tells.content → v1.images v1.seen) where
  -- the sync leaves what was there
  synced_moments : {T E : Type 0} (r : Result T E) → IsSync tells v0 v1 r
      → ((c : List ℕ) → v0.images c → WasThere v0 c) → LeavesOnly v0 v1 (WasThere v0)
  synced_moments r sync all = goes_on v0 v0 v1 (WasThere v0) (started v0 (WasThere v0) only_now all) sync.counted.time
      (λ c image. all c (sync.images c image))

  pub settle_stopped : {T E : Type 0} (e : E) → IsSync {T = T} {E = E} tells v0 v1 (Err e)
      → IsSettled {T = T} {E = E} tells second other_open v0 v1 (Err e)
  settle_stopped {T} {E} e sync = let failed : Result T E = Err e in record {
    moments = λ s found all told. synced_moments failed sync all;
    held = tt;
    through = tt;
    stopped = λ s found told steady. OpenStop.not_synced (one_stopped sync.counted)
        (record { seen = sync.seen; images = sync.images; images_kept = sync.images_kept });
    cause = sync.counted.cause;
    asked = one_asked sync.counted;
  }

  pub settle_closed : {T E : Type 0} (x : T) → other_open ≡ false → IsSync {T = T} {E = E} tells v0 v1 (Ok x)
      → IsSettled {T = T} {E = E} tells second other_open v0 v1 (Ok x)
  settle_closed {T} {E} x shut sync = let went : Result T E = Ok x in record {
    moments = λ s found all told. synced_moments went sync all;
    held = λ s found told. record {
      whole = λ c image. subst (IsWhole s) (sym (sync.durable c image ∙ sync.seen)) found.is;
      closed = λ c image open_it. eqb-false (gate_of (slot (not s.second) v0.seen)) open_gate (sym found.gate ∙ shut)
          (ap (λ (l : List ℕ). gate_of (slot (not s.second) l)) (sym (sync.durable c image ∙ sync.seen)) ∙ open_it);
    };
    through = subst (λ b. WentThrough tells (if b then 3 else 1) v0 v1) (sym shut) (one_through sync.counted);
    stopped = tt;
    cause = sync.counted.cause;
    asked = one_asked sync.counted;
  }

  pub settle_done : {T E : Type 0} (x : T) (r : Result T E) → other_open ≡ true
      → IsSync {T = T} {E = E} tells v0 v1 (Ok x) → IsPlaced {T = T} {E = E} tells (base_of (not second)) (0 ∷ []) v1
      v2 r → IsSettled {T = T} {E = E} tells second other_open v0 v2 r
  settle_done {T} {E} x r wide sync last = by_result r last
    where
      was : (s : Standing) → IsFound s second other_open v0 → IsTrue tells.content → IsWhole s v1.seen
          × (gate_of (slot (not s.second) v1.seen) ≡ open_gate)
      was s found told = (
        subst (IsWhole s) (sym sync.seen) found.is,
        ap (λ (l : List ℕ). gate_of (slot (not s.second) l)) sync.seen
            ∙ eqb-true (gate_of (slot (not s.second) v0.seen)) open_gate (sym found.gate ∙ wide),
      )

      here : (s : Standing) (r : Result T E) → IsFound s second other_open v0
          → IsPlaced tells (base_of (not second)) (0 ∷ []) v1 v2 r → IsPlaced tells (other_gate s) (0 ∷ []) v1 v2 r
      here s r found done = subst (λ (b : Bool). IsPlaced tells (base_of (not b)) (0 ∷ []) v1 v2 r) found.place done

      all_moments : (r : Result T E) → IsPlaced tells (base_of (not second)) (0 ∷ []) v1 v2 r → (s : Standing)
          → IsFound s second other_open v0 → ((c : List ℕ) → v0.images c → WasThere v0 c) → IsTrue tells.content
          → LeavesOnly v0 v2 (WasThere v0)
      all_moments r done s found all told =
          let w = was s found told in
          let went : Result T E = Ok x in
          goes_through v0 v1 v2 (WasThere v0) (synced_moments went sync all)
          (weakened v1 v2 (IsWhole s) (WasThere v0) (λ c whole. (s, whole, (v0.seen, reads0 told, found.is)))
          (closes tells s v1 v2 sync.durable (reads1 told) w.0 w.1 r (here s r found done)))

      wide_gates : (s : Standing) → IsFound s second other_open v0 → both_gates_open v0.seen ≡ true
      wide_gates s found = both_are v0.seen s found.is.stands ∙ sym found.gate ∙ wide

      stop_of : (s : Standing) → IsFound s second other_open v0 → IsTrue tells.content
          → PlaceStop tells (other_gate s) (0 ∷ []) v1 v2 → OpenStop tells s v0 v2
      stop_of s found told (PlaceStop.before_write stop same) = let w =
          was s found told in OpenStop.both_open (wide_gates s found)
          (stopped_then 1 0 v0 v1 v2 (one_through sync.counted) stop)
          (both_open tells s v1 v2 sync.durable (reads1 told) w.0 w.1 same)
      stop_of s found told (PlaceStop.before_sync stop open_range) = let w =
          was s found told in OpenStop.closing (wide_gates s found)
          (stopped_then 1 1 v0 v1 v2 (one_through sync.counted) stop)
          (closing_of tells s v1 v2 sync.durable (reads1 told) w.0 w.1 open_range)

      by_result : (r : Result T E) → IsPlaced tells (base_of (not second)) (0 ∷ []) v1 v2 r
          → IsSettled tells second other_open v0 v2 r
      by_result (Ok y) done = record {
        moments = all_moments (Ok y) done;
        held = λ s found told. let w = was s found told in closed_held tells s v1 v2 sync.durable (reads1 told) w.0
            w.1 y told (here s (Ok y) found done);
        through = subst (λ b. WentThrough tells (if b then 3 else 1) v0 v2) (sym wide)
            (through_then 1 2 v0 v1 v2 (one_through sync.counted) done.through);
        stopped = tt;
        cause = causes v0.faults v1.faults v2.faults x (Ok y) sync.counted.cause done.cause;
        asked = asked_then v0 v1 v2 (one_asked sync.counted) done.asked;
      }
      by_result (Err e) done = record {
        moments = all_moments (Err e) done;
        held = tt;
        through = tt;
        stopped = λ s found told steady. stop_of s found told ((here s (Err e) found done).stopped told steady);
        cause = causes v0.faults v1.faults v2.faults x (Err e) sync.counted.cause done.cause;
        asked = asked_then v0 v1 v2 (one_asked sync.counted) done.asked;
      }
