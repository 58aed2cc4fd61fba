-- The calls of a store, from the place that it keeps.
use Rattle.std.proofs.Common.{◌≡◌, ℕ, ◌+◌, ◌*◌, ◌≤◌, ◌<◌, List, [], ◌∷◌, length, Bool, true, false, IsTrue, Result, Ok, Err, ◌∙◌, ap, subst, arith, length-append}
use Rattle.zb_disk.specs.View.{Telling, View, LeavesOnly}
use Rattle.zb_store.specs.Layout.{Standing, base_of, end_of, entry_body}
use Rattle.zb_store.specs.Steps.{IsGated}
use Rattle.zb_store.specs.Store.{Place, place_of, IsReady, IsWholeEither, appended, entry_gate, AppendStop}
use Rattle.zb_store.proofs.Entries.{extent-append}
use Rattle.zb_store.proofs.Stages.{length-entry_body, append_moments, append_held, append_stopped}

pub base_small : (b : Bool) → base_of b ≤ 65536
base_small true = omega arith
base_small false = omega arith

pub same_place : (p q : Place) → p.second ≡ q.second → p.generation ≡ q.generation → p.end ≡ q.end → p.entries
    ≡ q.entries → p ≡ q
same_place p q a b c d =
    ap (λ (x : Bool). let n : Place = record p { second = x } in n) a
    ∙ ap (λ (x : ℕ). let n : Place = record p { second = q.second; generation = x } in n) b
    ∙ ap (λ (x : ℕ). let n : Place = record p { second = q.second; generation = q.generation; end = x } in n) c
    ∙ ap (λ (x : ℕ). let n : Place = record { second = q.second; generation = q.generation; end = q.end; entries = x }
    in n) d

module _ (tells : Telling) (store : Place) (payload : List ℕ) (v0 v1 : View) (gate : ℕ) (bytes : List ℕ)
    (gate_is : gate ≡ base_of store.second + store.end) (bytes_are : bytes ≡ entry_body payload)
    (few : store.entries < 32) (end : store.end ≤ 49165 + 484 * store.entries) (small : length payload ≤ 481)
    (reads : IsTrue tells.content → v0.images v0.seen) where
  fits : (s : Standing) → IsReady store s v0 → end_of s + 1 + length (entry_body payload) ≤ 65536
  fits s ready = omega (arith, ap (λ (p : Place). p.end) ready.place, length-entry_body payload)

  few_of : (s : Standing) → IsReady store s v0 → length s.payloads < 32
  few_of s ready = omega (arith, ap (λ (p : Place). p.entries) ready.place)

  as_gated : {T E : Type 0} (r : Result T E) (s : Standing) → IsReady store s v0 → IsGated tells gate bytes v0 v1 r
      → IsGated tells (entry_gate s) (entry_body payload) v0 v1 r
  as_gated r s ready done =
      let place = gate_is ∙ ap (λ (p : Place). base_of p.second + p.end) ready.place in
      subst (λ (n : ℕ). IsGated tells n (entry_body payload) v0 v1 r) place
      (subst (λ (l : List ℕ). IsGated tells gate l v0 v1 r) bytes_are done)

  pub place_moments : {T E : Type 0} (r : Result T E) → IsGated tells gate bytes v0 v1 r → (s : Standing)
      → IsReady store s v0 → IsTrue tells.content → LeavesOnly v0 v1 (IsWholeEither s (appended s payload))
  place_moments r done s ready told = append_moments tells s payload v0 v1 ready.held (reads told) (fits s ready)
      (few_of s ready) small r told (as_gated r s ready done)

  pub place_ready : {T E : Type 0} (x : T) → IsGated {T = T} {E = E} tells gate bytes v0 v1 (Ok x) → (s : Standing)
      → IsReady store s v0 → IsTrue tells.content
      → IsReady
      (record {
        second = store.second;
        generation = store.generation;
        end = store.end + (3 + length payload);
        entries = store.entries + 1;
      }) (appended s payload) v1
  place_ready {T} {E} x done s ready told =
      let went : Result T E = Ok x in
      record {
        place =
            same_place
            (record {
              second = store.second;
              generation = store.generation;
              end = store.end + (3 + length payload);
              entries = store.entries + 1;
            }) (place_of (appended s payload))
            (ap (λ (p : Place). p.second) ready.place) (ap (λ (p : Place). p.generation) ready.place)
            (omega (arith, ap (λ (p : Place). p.end) ready.place, extent-append s.payloads payload))
            (omega (arith, ap (λ (p : Place). p.entries) ready.place, length-append s.payloads (payload ∷ [])));
        held = append_held tells s payload v0 v1 ready.held (reads told) (fits s ready) (few_of s ready) small x told
            (as_gated went s ready done);
      }

  pub place_stopped : {T E : Type 0} (e : E) → IsGated {T = T} {E = E} tells gate bytes v0 v1 (Err e) → (s : Standing)
      → IsReady store s v0 → IsTrue tells.content → IsTrue tells.steady → AppendStop tells s payload v0 v1
  place_stopped {T} {E} e done s ready told steady =
      let failed : Result T E = Err e in
      append_stopped tells s payload v0 v1 ready.held (reads told) (fits s ready) (few_of s ready) small
      ((as_gated failed s ready done).stopped told steady)
