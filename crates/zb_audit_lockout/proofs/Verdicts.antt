-- Whether lockout holds with a line that removes or admits a device, seals, forges or accepts a term.
use Rattle.std.proofs.Common.{◌≡◌, ◌⊎◌, ℕ, ◌+◌, ◌<◌, ◌≤◌, List, [], ◌∷◌, ◌++◌, length, Bool, true, false, not, ◌||◌, ◌&&◌, Option, Some, None, inl, inr, refl, arith, ap, sym, ◌∙◌, subst, nat_eq}
use Rattle.std.specs.Prelude.{nat_le, if◌then◌else◌}
use Rattle.std.specs.Map.{keys_of}
use Rattle.std.specs.List.{list_any, flat_map}
use Rattle.std.specs.Option.{option_or}
use Rattle.std.proofs.lemmas.Bool.{le-leb, leb-true}
use Rattle.std.proofs.lemmas.Bool.Decides.{leb_tells}
use Rattle.std.proofs.lemmas.List.{append-nil}
use Rattle.std.proofs.lemmas.List.Folds.{list_any-append}
use Rattle.arrayvec.specs.ArrayString.{ArrayString}
use Rattle.zb_base.specs.declared.address.Eui.{Eui}
use Rattle.zb_base.specs.declared.key.Key.{Key}
use Rattle.zb_base.specs.declared.label.Layer.{Layer}
use Rattle.zb_base.specs.declared.label.Layer.TheVariants as layer
use Rattle.zb_audit_names.specs.Naming as naming
use Rattle.zb_audit_names.specs.Naming.{declared_in, is_of, place_in}
use Rattle.zb_audit_names.specs.Secrets.{along, forged_in}
use Rattle.zb_audit_names.specs.Standing.{IsSpeaker}
use Rattle.zb_audit_names.specs.declared.node.Who.{Who}
use Rattle.zb_audit_lockout.specs.Backing.{IsBack}
use Rattle.zb_audit_lockout.specs.Bags.{items_at}
use Rattle.zb_audit_lockout.specs.Before.{before_group, holds_known}
use Rattle.zb_audit_lockout.specs.Facts.{eui_of_node}
use Rattle.zb_audit_lockout.specs.Lockout.{admits, is_aps, keeps_out, refuses_line, sealed_by}
use Rattle.zb_audit_lockout.specs.Reading.{accepts_at, early_of, has_seal, is_foul, is_late_seal, knows, late_by, number_of, open_at, opened_by, seals_of, some_late, some_open, term_cmp}
use Rattle.zb_audit_lockout.specs.Standing.{Admits, Forges, IsBelow, IsEvidence, IsJudged, IsOpenBy, IsReach, IsReady, IsSafe, IsWindow, Removes, Seals, goes_on}
use Rattle.zb_audit_lockout.specs.Spreading.{IsSpread}
use Rattle.zb_audit_lockout.specs.Windows.{Claim, EachWindow, SomeWindow}
use Rattle.zb_audit_lockout.specs.declared.back.Back.{Back}
use Rattle.zb_audit_lockout.specs.declared.bags.Bags.{Bags}
use Rattle.zb_audit_lockout.specs.declared.evidence.Evidence.{Evidence}
use Rattle.zb_audit_lockout.specs.declared.evidence.LateSeal.{LateSeal}
use Rattle.zb_audit_lockout.specs.declared.lockout.Lockout.{Lockout}
use Rattle.zb_audit_lockout.specs.declared.reach.Reach.{Reach}
use Rattle.zb_audit_lockout.specs.declared.spread.Spread.{Spread}
use Rattle.zb_audit_lockout.specs.declared.windows.Windows.{Windows}
use Rattle.zb_audit_lockout.proofs.Judging.{carried_same, drawn_same, early_same, evidence_same, held_same}
use Rattle.zb_audit_lockout.proofs.Knowing.{knows_is}
use Rattle.zb_audit_lockout.proofs.Reaching.{IsOpened, one_open, opened_one, some_key, was_opened}
use Rattle.zb_audit_lockout.proofs.Recalling.{own_is}
use Rattle.zb_audit_lockout.proofs.Stepping.{IsDrawn, ahead, all_refused, evidence_on, longer, moved_whole, reach_on, stays_so}
use Rattle.zb_audit_lockout.proofs.Telling.{below_kept}
use Rattle.zb_audit_lockout.proofs.Tests.{both_off, left_off, not_off, not_on, off_left, off_right, or_none, right_off, was_off, was_on}
use Rattle.zb_audit_lockout.proofs.Windowing.{each_both, each_map, each_more, each_some, some_last, some_map, some_more}
use Rattle.zb_model.specs.Data.{Bytes}
use Rattle.zb_model.specs.Secrets.{same_term}
use Rattle.zb_model.specs.Tools.{Tools}
use Rattle.zb_model_real.specs.Terms.{model_term}
use Rattle.zb_seal.specs.declared.term.Term as program
use Rattle.zb_trace.specs.declared.line.Line.{Line}
use Rattle.zb_trace.specs.declared.line.Line.TheVariants as line
use Rattle.zb_trace_watch.specs.Sets.{is_node}
use Rattle.zb_trace_watch.specs.Terms.{has_term}
use Rattle.zb_trace_watch.specs.declared.terms.Terms.{Terms}
use Rattle.zb_trace_watch.specs.declared.holdings.Holdings.{Holdings}
use Rattle.zb_trace_watch.proofs.Truth.{and_left, and_right, both, decided, either, itself_number, not_both, or_left, or_right, same_number, turned_number}

-- What was sealed and forged

same_where : {A : Type 0} (test : A → Bool) (b : Bool) (x : A) → list_any test (if b then x ∷ [] else [])
    ≡ (test x && b)
same_where test true x = or_none _ ∙ alone (test x)
  where
    alone : (a : Bool) → a ≡ (a && true)
    alone true = refl
    alone false = refl
same_where test false x = never (test x)
  where
    never : (a : Bool) → false ≡ (a && false)
    never true = refl
    never false = refl

late_is : (r : Reach) (o : Option Eui) (d n : ℕ) → IsOpenBy r d n → n ≤ r.windows.last → is_late_seal r.windows o d n
    ≡ is_node o d
late_is r None d n window low = refl
late_is r (Some device) d n window low = elim (decided (nat_eq d device.0)) [
  | inl is ↦
      (let opened : opened_by (open_at r.windows device.0) r.windows.last ≡ true =
      opened_one (open_at r.windows device.0) r.windows.last window.opened
      (ap (open_at r.windows) (sym (same_number d device.0 is)) ∙ window.found)
      (let le : window.opened ≤ n = window.early in omega arith) in
      both _ _ opened (both _ _ is (le-leb n r.windows.last low)) ∙ sym is)
  | inr other ↦ off_right (opened_by (open_at r.windows device.0) r.windows.last) _ (off_left _ _ other) ∙ sym other
]

late_early : (w : Windows) (o : Option Eui) (d number : ℕ) → is_late_seal w o d number ≡ true → number ≤ w.last
late_early w None d number there = cc
late_early w (Some device) d number there =
    leb-true number w.last
    (and_right (nat_eq d device.0) _ (and_right (opened_by (open_at w device.0) w.last) _ there))

pub seal_evidence : (tools : Tools) (names : List Bytes) (r : Reach) (old new : Evidence) (h : List Line) (event : ℕ)
    (node : ArrayString) (t : program.Term) (who : Who) → IsReach tools r h → IsEvidence old h
    → IsSpeaker who names (declared_in h) (line.Seal event node t) → Seals r old new (eui_of_node who.node) t
    → IsEvidence new (h ++ line.Seal event node t ∷ [])
unfolding naming.speaker
seal_evidence tools names r old new h event node t who reach ev is seals =
    evidence_on tools r old new h (line.Seal event node t) reach ev
    (λ x. ap (λ (f : Terms). has_term f x) seals.forged ∙ sym (or_none _))
    (λ a d b w x.
    seals.sealed x d (length a)
    ∙ ap (λ (y : Bool). late_by old d (length a) x || y)
    (ap (λ (y : Bool). same_term (model_term x) (model_term t) && y)
    (late_is r (eui_of_node who.node) d (length a) w.found w.low ∙ own_is (declared_in h) who.node node.bytes d
    is.eui)
    ∙ sym (same_where (same_term (model_term x)) (is_of (declared_in h) d node.bytes) (model_term t))))
    (λ x d number there. elim (either (late_by old d number x) _ (sym (seals.sealed x d number) ∙ there)) [
      | inl before ↦ ev.early x d number before
      | inr it ↦
          (let low : number ≤ r.windows.last = late_early r.windows (eui_of_node who.node) d number
          (and_right (same_term (model_term x) (model_term t)) _ it) in
          let le : r.windows.last ≤ length h = reach.last in
          omega arith)
    ])

pub forge_evidence : (tools : Tools) (r : Reach) (old new : Evidence) (h : List Line) (event : ℕ) (t : program.Term)
    → IsReach tools r h → IsEvidence old h → Forges old new t
    → IsEvidence new (h ++ line.Forge event t ∷ [])
forge_evidence tools r old new h event t reach ev forges =
    evidence_on tools r old new h (line.Forge event t) reach ev
    (λ x. forges.forged x ∙ ap (λ (y : Bool). has_term old.forged x || y) (sym (or_none _)))
    (λ a d b w x. ap (λ (s : Bags program.Term LateSeal). has_seal (items_at term_cmp s x) d (length a)) forges.sealed
    ∙ sym (or_none _))
    (λ x d number there. ev.early x d number
    (ap (λ (s : Bags program.Term LateSeal). has_seal (items_at term_cmp s x) d number) (sym forges.sealed) ∙
    there))

-- A device is admitted.

module _ (tools : Tools) (names : List Bytes) (old new : Lockout) (h : List Line) (event : ℕ) (device : Eui)
    (ready : IsReady tools names old h (line.Live event device))
    (admitted : Admits old.reach new.reach device.0) (evidence : new.evidence ≡ old.evidence) where
  abbrev live : Line
  live = line.Live event device

  elsewhere : (e : ℕ) → admits e live ≡ false → open_at new.reach.windows e ≡ open_at old.reach.windows e
  elsewhere e adm = admitted.found e ∙ ap (λ (b : Bool). if b then None else open_at old.reach.windows e)
      (turned_number e device.0 ∙ adm)

  still_open : (e number : ℕ) → open_at new.reach.windows e ≡ Some number → (admits e live ≡ false)
      × (open_at old.reach.windows e ≡ Some number)
  still_open e number found = elim (decided (admits e live)) [
    | inl is ↦ absurd
        (gone (sym
        (admitted.found e ∙ ap (λ (b : Bool). if b then None else open_at old.reach.windows e)
        (turned_number e device.0 ∙ is)) ∙ found))
    | inr adm ↦ (adm, sym (elsewhere e adm) ∙ found)
  ]
    where
      gone : ◌≡◌ {A = Option ℕ} None (Some number) → ⊥
      gone e = cc

  live_moves : (a : List Line) (d : ℕ) (b : List Line) → IsWindow old.reach h a d b → admits d live ≡ false
      → IsWindow new.reach (h ++ live ∷ []) a d (b ++ live ∷ [])
  live_moves a d b w adm = record {
    whole = moved_whole h live a b w.whole;
    found = record { opened = w.found.opened; found = elsewhere d adm ∙ w.found.found; early = w.found.early };
    low = subst (λ (n : ℕ). length a ≤ n) (sym admitted.last) w.low;
    drawn = drawn_same old.reach new.reach live (length a) b refl admitted.drawn w.drawn;
  }

  live_reach : IsReach tools new.reach (h ++ live ∷ [])
  live_reach = record {
    windows = each_more (IsWindow old.reach h) (IsWindow new.reach (h ++ live ∷ [])) live live_moves [] h
        ready.reach.windows tt;
    opened = λ d number found.
        let it = still_open d number found in
        some_more (λ a e b. (e ≡ d) × (length a ≡ number)) (λ a e b. (e ≡ d) × (length a ≡ number)) live
        (λ a e b same. (ap (λ (x : ℕ). admits x live) same.0 ∙ it.0, same)) [] h
        (ready.reach.opened d number it.1);
    below = λ d number found. subst (λ (n : ℕ). number ≤ n) (sym admitted.last)
        (ready.reach.below d number (still_open d number found).1);
    held = held_same tools old.reach new.reach h live ready.reach admitted.held (λ e. refl);
    carried = carried_same tools old.reach new.reach h live ready.reach admitted.leads refl;
    early = λ k. subst (λ (n : ℕ). number_of new.reach.drawn k ≤ n) (sym admitted.last)
        (early_same old.reach new.reach admitted.drawn ready.reach.early k);
    last = (let same : new.reach.windows.last ≡ old.reach.windows.last = admitted.last in let le :
        old.reach.windows.last ≤ length h = ready.reach.last in let more = longer h live in omega arith);
    small = subst (λ (n : ℕ). n < 4294967296) (sym admitted.last) ready.reach.small;
  }

  live_safe : IsSafe new.reach
  live_safe = record {
    back = subst (λ (x : Back). IsBack new.reach.leads new.reach.held x) (sym admitted.back)
        (subst (λ (x : Holdings Key). IsBack x new.reach.held old.reach.back) (sym admitted.leads)
        (subst (λ (x : Holdings Eui). IsBack old.reach.leads x old.reach.back) (sym admitted.held)
        ready.safe.back));
    spread = subst (λ (x : Spread). IsSpread new.reach.leads new.reach.held x) (sym admitted.spread)
        (subst (λ (x : Holdings Key). IsSpread x new.reach.held old.reach.spread) (sym admitted.leads)
        (subst (λ (x : Holdings Eui). IsSpread old.reach.leads x old.reach.spread) (sym admitted.held)
        ready.safe.spread));
    opened = λ d number found.
        subst (λ (x : Spread). 4294967296 ≤ early_of x d + number) (sym admitted.spread)
        (ready.safe.opened d number (still_open d number found).1);
    below = λ k. below_kept old.reach new.reach k
        (ap (λ (x : Spread). number_of x.keys k) admitted.spread) admitted.drawn (ready.safe.below k);
  }

  pub live_judged : IsJudged tools new h live true
  unfolding refuses_line
  live_judged =
      let front : EachWindow
      (λ a d b. admits d live ≡ false → IsWindow new.reach (h ++ live ∷ []) a d (b ++ live ∷ [])) [] h =
      each_map (IsWindow old.reach h)
      (λ a d b. admits d live ≡ false → IsWindow new.reach (h ++ live ∷ []) a d (b ++ live ∷ [])) live_moves [] h
      ready.reach.windows in record {
        reach = live_reach;
        evidence = subst (λ (e : Evidence). IsEvidence e (h ++ live ∷ [])) (sym evidence)
            (evidence_same tools old.reach old.evidence h live ready.reach ready.evidence refl (λ d known. refl));
        safe = λ stay. live_safe;
        holds = λ stay. stays_so tools new.reach h live live_reach front live_safe
            (all_refused tools new.reach h live live_reach front (λ a d b. refl));
        fails = λ out. cc;
      }

-- A device is removed.

module _ (tools : Tools) (names : List Bytes) (old new : Lockout) (h : List Line) (event : ℕ) (device : Eui)
    (number : ℕ) (ready : IsReady tools names old h (line.Removed event device))
    (removes : Removes old.reach new.reach device.0 number) (number_is : number ≡ length h + 1)
    (evidence : new.evidence ≡ old.evidence) where
  abbrev gone : Line
  gone = line.Removed event device

  low_before : old.reach.windows.last ≤ new.reach.windows.last
  low_before = let is : new.reach.windows.last ≡ number = removes.last in let le : old.reach.windows.last ≤ length h =
      ready.reach.last in omega (arith, number_is, is, le)

  kept_open : (e m : ℕ) → open_at old.reach.windows e ≡ Some m → open_at new.reach.windows e ≡ Some m
  kept_open e m found =
      removes.found e ∙ ap (λ (o : Option ℕ). option_or o (if nat_eq e device.0 then Some number else None)) found

  came_open : (e m : ℕ) → open_at new.reach.windows e ≡ Some m → (open_at old.reach.windows e ≡ Some m)
      ⊎ ((e ≡ device.0) × (m ≡ number))
  came_open e m found = by (open_at old.reach.windows e) (nat_eq e device.0) refl refl (sym (removes.found e) ∙ found)
    where
      some_same : {x y : ℕ} → Some x ≡ Some y → x ≡ y
      some_same is = cc

      by : (o : Option ℕ) (b : Bool) → open_at old.reach.windows e ≡ o → nat_eq e device.0 ≡ b
          → option_or o (if b then Some number else None) ≡ Some m
          → (open_at old.reach.windows e ≡ Some m) ⊎ ((e ≡ device.0) × (m ≡ number))
      by (Some x) b is same it = inl (is ∙ it)
      by None true is same it = inr (same_number e device.0 same, sym (some_same it))
      by None false is same it = cc

  gone_moves : (a : List Line) (d : ℕ) (b : List Line) → IsWindow old.reach h a d b → admits d gone ≡ false
      → IsWindow new.reach (h ++ gone ∷ []) a d (b ++ gone ∷ [])
  gone_moves a d b w adm = record {
    whole = moved_whole h gone a b w.whole;
    found =
        record { opened = w.found.opened; found = kept_open d w.found.opened w.found.found; early = w.found.early };
    low = (let le : length a ≤ old.reach.windows.last = w.low in let more : old.reach.windows.last
        ≤ new.reach.windows.last = low_before in omega arith);
    drawn = drawn_same old.reach new.reach gone (length a) b refl removes.drawn w.drawn;
  }

  -- No key was drawn since the removal.
  not_late : (k : Bytes) → nat_le (length (h ++ gone ∷ [])) (number_of new.reach.drawn k) ≡ false
  not_late k = elim (leb_tells (length (h ++ gone ∷ [])) (number_of new.reach.drawn k)) [
    | inl it ↦
        (let high : length (h ++ gone ∷ []) ≤ number_of new.reach.drawn k = it.1 in
        let low : number_of new.reach.drawn k ≤ old.reach.windows.last =
        early_same old.reach new.reach removes.drawn ready.reach.early k in
        let le : old.reach.windows.last ≤ length h = ready.reach.last in
        let more = longer h gone in
        absurd (omega arith))
    | inr it ↦ it.0
  ]

  gone_opened : (o : Option ℕ) → open_at old.reach.windows device.0 ≡ o
      → IsOpenBy new.reach device.0 (length (h ++ gone ∷ []))
  gone_opened (Some m) is = record {
    opened = m;
    found = kept_open device.0 m is;
    early =
        (let low : m ≤ old.reach.windows.last = ready.reach.below device.0 m is in let le : old.reach.windows.last
        ≤ length h = ready.reach.last in let more = longer h gone in omega arith);
  }
  gone_opened None is = record {
    opened = number;
    found = removes.found device.0 ∙ rw (is, itself_number device.0) refl;
    early = (let more = longer h gone in omega (arith, number_is, more));
  }

  gone_begins : IsWindow new.reach (h ++ gone ∷ []) (h ++ gone ∷ []) device.0 []
  gone_begins = record {
    whole = append-nil (h ++ gone ∷ []);
    found = gone_opened (open_at old.reach.windows device.0) refl;
    low = (let is : new.reach.windows.last ≡ number = removes.last in let more = longer h gone in omega
        (arith, number_is, is, more));
    drawn = λ k. sym (not_late k);
  }

  gone_reach : IsReach tools new.reach (h ++ gone ∷ [])
  gone_reach = record {
    windows = each_more (IsWindow old.reach h) (IsWindow new.reach (h ++ gone ∷ [])) gone gone_moves [] h
        ready.reach.windows (λ stays. gone_begins);
    opened = λ d m found. elim (came_open d m found) [
      | inl before ↦ some_more (λ a e b. (e ≡ d) × (length a ≡ m)) (λ a e b. (e ≡ d) × (length a ≡ m)) gone
          (λ a e b same. (refl, same)) [] h (ready.reach.opened d m before)
      | inr it ↦ some_last (λ a e b. (e ≡ d) × (length a ≡ m)) gone [] h (
        refl,
        (
          sym it.0,
          (let more = longer h gone in let is : m ≡ number = it.1 in omega (arith, number_is, more, is)),
        ),
      )
    ];
    below = λ d m found. elim (came_open d m found) [
      | inl before ↦
          (let le : m ≤ old.reach.windows.last = ready.reach.below d m before in let more : old.reach.windows.last
          ≤ new.reach.windows.last = low_before in omega arith)
      | inr it ↦
          (let is : m ≡ number = it.1 in let last : new.reach.windows.last ≡ number = removes.last in omega arith)
    ];
    held = held_same tools old.reach new.reach h gone ready.reach removes.held (λ e. refl);
    carried = carried_same tools old.reach new.reach h gone ready.reach removes.leads refl;
    early = λ k.
        (let low : number_of new.reach.drawn k ≤ old.reach.windows.last =
        early_same old.reach new.reach removes.drawn ready.reach.early k in
        let more : old.reach.windows.last ≤ new.reach.windows.last = low_before in
        omega arith);
    small = subst (λ (n : ℕ). n < 4294967296) (sym removes.last) removes.small;
    last = (let is : new.reach.windows.last ≡ number = removes.last in let more = longer h gone in omega
        (arith, number_is, is, more));
  }

  gone_below : (k : Bytes) → IsBelow new.reach k
  gone_below k = elim (removes.told k) [
    | inl kept ↦ below_kept old.reach new.reach k kept removes.drawn (ready.safe.below k)
    | inr it ↦ inr
        (let is : number_of new.reach.spread.keys k + number ≡ 4294967296 = it in
        let low : number_of new.reach.drawn k ≤ old.reach.windows.last =
        early_same old.reach new.reach removes.drawn ready.reach.early k in
        let le : old.reach.windows.last ≤ length h = ready.reach.last in
        omega (arith, number_is, is, low, le))
  ]

  gone_safe : IsSafe new.reach
  gone_safe = record {
    back = subst (λ (x : Back). IsBack new.reach.leads new.reach.held x) (sym removes.back)
        (subst (λ (x : Holdings Key). IsBack x new.reach.held old.reach.back) (sym removes.leads)
        (subst (λ (x : Holdings Eui). IsBack old.reach.leads x old.reach.back) (sym removes.held)
        ready.safe.back));
    spread =
        subst (λ (x : Holdings Key). IsSpread x new.reach.held new.reach.spread) (sym removes.leads)
        (subst (λ (x : Holdings Eui). IsSpread old.reach.leads x new.reach.spread) (sym removes.held)
        (removes.spread ready.safe.spread));
    opened = λ d m found. elim (came_open d m found) [
      | inl before ↦
          (let was : 4294967296 ≤ early_of old.reach.spread d + m = ready.safe.opened d m before in
          let kept : early_of old.reach.spread d ≤ early_of new.reach.spread d = removes.kept d in
          omega arith)
      | inr it ↦
          (let reached : 4294967296 ≤ early_of new.reach.spread device.0 + number = removes.reached in
          let at : early_of new.reach.spread d ≡ early_of new.reach.spread device.0 =
          ap (early_of new.reach.spread) it.0 in
          let is : m ≡ number = it.1 in
          omega (arith, reached, at, is))
    ];
    below = gone_below;
  }

  pub gone_judged : IsJudged tools new h gone true
  unfolding refuses_line
  gone_judged =
      let front : EachWindow
      (λ a d b. admits d gone ≡ false → IsWindow new.reach (h ++ gone ∷ []) a d (b ++ gone ∷ [])) [] h =
      each_map (IsWindow old.reach h)
      (λ a d b. admits d gone ≡ false → IsWindow new.reach (h ++ gone ∷ []) a d (b ++ gone ∷ [])) gone_moves [] h
      ready.reach.windows in record {
        reach = gone_reach;
        evidence = subst (λ (e : Evidence). IsEvidence e (h ++ gone ∷ [])) (sym evidence)
            (evidence_same tools old.reach old.evidence h gone ready.reach ready.evidence refl (λ d known. refl));
        safe = λ stay. gone_safe;
        holds = λ stay. stays_so tools new.reach h gone gone_reach front gone_safe
            (all_refused tools new.reach h gone gone_reach front (λ a d b. refl));
        fails = λ out. cc;
      }

-- A term is accepted.

record IsLate (w : Windows) (seals : List LateSeal) : Type 0 where
  pub device : ℕ
  pub opened : ℕ
  pub found : open_at w device ≡ Some opened
  pub sealed : has_seal seals device opened ≡ true

one_late : (w : Windows) (seals : List LateSeal) → some_late w seals ≡ true → IsLate w seals
one_late w [] some = cc
one_late w (s ∷ seals) some = elim (either (opened_by (open_at w s.device.0) s.number) (some_late w seals) some) [
  | inl here ↦
      (let it : IsOpened (open_at w s.device.0) s.number = was_opened (open_at w s.device.0) s.number here in
      record {
        device = s.device.0;
        opened = it.opened;
        found = it.is;
        sealed = or_left _ _ (both _ _ (itself_number s.device.0) (le-leb it.opened s.number it.early));
      })
  | inr later ↦
      (let it = one_late w seals later in
      record { device = it.device; opened = it.opened; found = it.found; sealed = or_right _ _ it.sealed })
]

pub late_open : (w : Windows) (d m n : ℕ) (seals : List LateSeal) → open_at w d ≡ Some m → m ≤ n → has_seal seals d n
    ≡ true → some_late w seals ≡ true
late_open w d m n [] found le there = cc
late_open w d m n (s ∷ seals) found le there =
    elim (either (nat_eq d s.device.0 && nat_le n s.number) (has_seal seals d n) there) [
      | inl here ↦
          (let high : n ≤ s.number = leb-true n s.number (and_right (nat_eq d s.device.0) _ here) in
          or_left _ _
          (opened_one (open_at w s.device.0) s.number m
          (ap (open_at w) (sym (same_number d s.device.0 (and_left _ _ here))) ∙ found) (omega (arith, high, le))))
      | inr later ↦ or_right (opened_by (open_at w s.device.0) s.number) _ (late_open w d m n seals found le later)
    ]

module _ (tools : Tools) (names : List Bytes) (s : Lockout) (h : List Line) (event : ℕ) (node : ArrayString)
    (t : program.Term) (who : Who) (ready : IsReady tools names s h (line.Accept event node t))
    (at : place_in names node.bytes ≡ Some who.place) where
  abbrev taken : Line
  taken = line.Accept event node t

  abbrev known_there : List Line → Bool
  known_there g = holds_known tools (before_group (g ++ taken ∷ [])) node.bytes

  known_is : knows s.past.before who.place ≡ known_there h
  known_is = knows_is tools names s.past.before (before_group (h ++ taken ∷ [])) node.bytes who.place
      ready.past.before at

  abbrev Sealed : Claim
  Sealed a d b = (x : program.Term) → late_by s.evidence d (length a) x
      ≡ list_any (same_term (model_term x)) (along (sealed_by d) (declared_in a) b)

  abbrev foul : List Line → ℕ → List Line → Bool
  foul a d b =
      list_any (same_term (model_term t)) (along (sealed_by d) (declared_in a) b ++ flat_map forged_in (a ++ b))

  forged_is : (a b : List Line) → a ++ b ≡ h → list_any (same_term (model_term t)) (flat_map forged_in (a ++ b))
      ≡ has_term s.evidence.forged t
  forged_is a b whole = ap (λ (g : List Line). list_any (same_term (model_term t)) (flat_map forged_in g)) whole ∙ sym
      (ready.evidence.forged t)

  windows_open : (a : List Line) (d : ℕ) (b : List Line) → IsWindow s.reach h a d b
      → some_open s.reach.windows s.reach.windows.last (keys_of s.reach.windows.removals) ≡ true
  windows_open a d b w =
      some_key s.reach.windows s.reach.windows.last d w.found.opened w.found.found
      (let le : w.found.opened ≤ length a = w.found.early in let low : length a
      ≤ s.reach.windows.last = w.low in omega arith)

  -- If nothing is foul.
  clean : is_foul s.reach.windows s.evidence t ≡ false → (a : List Line) (d : ℕ) (b : List Line)
      → IsWindow s.reach h a d b × Sealed a d b → foul a d b ≡ false
  clean none a d b it =
      list_any-append (same_term (model_term t)) (along (sealed_by d) (declared_in a) b) (flat_map forged_in (a ++ b))
      ∙ both_off _ _
      (sealed_off (decided (list_any (same_term (model_term t)) (along (sealed_by d) (declared_in a) b))))
      (forged_off (decided (has_term s.evidence.forged t)))
    where
      sealed_off : (list_any (same_term (model_term t)) (along (sealed_by d) (declared_in a) b) ≡ true)
          ⊎ (list_any (same_term (model_term t)) (along (sealed_by d) (declared_in a) b) ≡ false)
          → list_any (same_term (model_term t)) (along (sealed_by d) (declared_in a) b) ≡ false
      sealed_off (inr off) = off
      sealed_off (inl there) =
          absurd (not_both (some_late s.reach.windows (seals_of s.evidence t))
          (late_open s.reach.windows d it.0.found.opened (length a) (seals_of s.evidence t) it.0.found.found
          it.0.found.early (it.1 t ∙ there))
          (left_off (some_late s.reach.windows (seals_of s.evidence t)) _ none))

      forged_off : (has_term s.evidence.forged t ≡ true) ⊎ (has_term s.evidence.forged t ≡ false)
          → list_any (same_term (model_term t)) (flat_map forged_in (a ++ b)) ≡ false
      forged_off (inr off) = forged_is a b it.0.whole ∙ off
      forged_off (inl there) =
          absurd (not_both (some_open s.reach.windows s.reach.windows.last (keys_of s.reach.windows.removals)
          && has_term s.evidence.forged t) (both _ _ (windows_open a d b it.0) there)
          (right_off (some_late s.reach.windows (seals_of s.evidence t)) _ none))

  refuses_is : (a : List Line) (d : ℕ) (b : List Line) → a ++ b ≡ h → refuses_line tools d a b taken
      ≡ (is_aps t.layer || (knows s.past.before who.place || not (foul a d b)))
  unfolding refuses_line
  refuses_is a d b whole = ap (λ (g : List Line). is_aps t.layer || (known_there g || not (foul a d b))) whole ∙ ap
      (λ (x : Bool). is_aps t.layer || (x || not (foul a d b))) (sym known_is)

  -- The answer says whether each window refuses the term.
  refused : (l : Layer) → t.layer ≡ l → accepts_at l s who.place t ≡ true → (a : List Line) (d : ℕ) (b : List Line)
      → IsWindow s.reach h a d b × Sealed a d b → refuses_line tools d a b taken ≡ true
  refused layer.Aps is stay a d b it =
      refuses_is a d b it.0.whole ∙ ap
      (λ (l : Layer). is_aps l || (knows s.past.before who.place || not (foul a d b))) is
  refused layer.Nwk is stay a d b it =
      refuses_is a d b it.0.whole
      ∙ or_right (is_aps t.layer) _
      (elim (either (not (is_foul s.reach.windows s.evidence t)) (knows s.past.before who.place) stay) [
        | inl none ↦ or_right (knows s.past.before who.place) _ (not_on _ (clean (was_off _ none) a d b it))
        | inr knows_it ↦ or_left _ _ knows_it
      ])

  abbrev Fails : Claim
  Fails a d b = refuses_line tools d a b taken ≡ false

  fails_there : t.layer ≡ layer.Nwk → knows s.past.before who.place ≡ false → (a : List Line) (d : ℕ) (b : List Line)
      → a ++ b ≡ h → foul a d b ≡ true → Fails a d b
  fails_there is unknown a d b whole there = refuses_is a d b whole ∙ both_off _ _ (ap is_aps is)
      (both_off _ _ unknown (not_off _ there))

  in_each : EachWindow (λ a d b. IsWindow s.reach h a d b × Sealed a d b) [] h
  in_each = each_both (IsWindow s.reach h) Sealed [] h ready.reach.windows ready.evidence.sealed

  out_late : t.layer ≡ layer.Nwk → knows s.past.before who.place ≡ false
      → IsLate s.reach.windows (seals_of s.evidence t) → SomeWindow Fails [] h
  out_late is unknown late =
      some_map (λ a d b. (IsWindow s.reach h a d b × Sealed a d b) × ((d ≡ late.device) × (length a ≡ late.opened)))
      Fails
      (λ a d b it.
      fails_there is unknown a d b it.0.0.whole
      (list_any-append (same_term (model_term t)) (along (sealed_by d) (declared_in a) b) (flat_map forged_in (a ++ b))
      ∙ or_left _ _
      (sym (it.0.1 t) ∙
      (ap (λ (e : ℕ). has_seal (seals_of s.evidence t) e (length a)) it.1.0 ∙
      (ap (λ (n : ℕ). has_seal (seals_of s.evidence t) late.device n) it.1.1 ∙ late.sealed))))) [] h
      (each_some (λ a d b. IsWindow s.reach h a d b × Sealed a d b)
      (λ a d b. (d ≡ late.device) × (length a ≡ late.opened)) [] h in_each
      (ready.reach.opened late.device late.opened late.found))

  out_forged : t.layer ≡ layer.Nwk → knows s.past.before who.place ≡ false
      → (some_open s.reach.windows s.reach.windows.last (keys_of s.reach.windows.removals)
      && has_term s.evidence.forged t) ≡ true → SomeWindow Fails [] h
  out_forged is unknown both_so =
      let one = one_open s.reach.windows s.reach.windows.last (keys_of s.reach.windows.removals)
      (and_left _ _ both_so) in
      some_map
      (λ a d b. (IsWindow s.reach h a d b × Sealed a d b) × ((d ≡ one.device) × (length a ≡ one.opened.opened)))
      Fails
      (λ a d b it.
      fails_there is unknown a d b it.0.0.whole
      (list_any-append (same_term (model_term t)) (along (sealed_by d) (declared_in a) b) (flat_map forged_in (a ++ b))
      ∙ or_right (list_any (same_term (model_term t)) (along (sealed_by d) (declared_in a) b)) _
      (forged_is a b it.0.0.whole ∙ and_right
      (some_open s.reach.windows s.reach.windows.last (keys_of s.reach.windows.removals)) _ both_so))) [] h
      (each_some (λ a d b. IsWindow s.reach h a d b × Sealed a d b)
      (λ a d b. (d ≡ one.device) × (length a ≡ one.opened.opened)) [] h in_each
      (ready.reach.opened one.device one.opened.opened one.opened.is))

  out : (l : Layer) → t.layer ≡ l → accepts_at l s who.place t ≡ false → SomeWindow Fails [] h
  out layer.Aps is no_stay = cc
  out layer.Nwk is no_stay =
      let unknown : knows s.past.before who.place ≡ false = right_off (not (is_foul s.reach.windows s.evidence t)) _
      no_stay in
      elim (either (some_late s.reach.windows (seals_of s.evidence t)) _
      (was_on _ (left_off (not (is_foul s.reach.windows s.evidence t)) _ no_stay))) [
        | inl late ↦ out_late is unknown (one_late s.reach.windows (seals_of s.evidence t) late)
        | inr forged ↦ out_forged is unknown forged
      ]

  accept_drawn : (r : ℕ) (b : List Line) → r ≤ s.reach.windows.last → IsDrawn s.reach r b
      → IsDrawn s.reach r (b ++ taken ∷ [])
  accept_drawn r b le drawn = drawn_same s.reach s.reach taken r b refl refl drawn

  taken_reach : IsReach tools s.reach (h ++ taken ∷ [])
  taken_reach =
      reach_on tools s.reach s.reach h taken ready.reach refl accept_drawn
      (held_same tools s.reach s.reach h taken ready.reach refl (λ e. refl))
      (carried_same tools s.reach s.reach h taken ready.reach refl refl) ready.reach.early (λ d. refl) (λ Q. tt)

  pub accept_judged : IsJudged tools s h taken (accepts_at t.layer s who.place t)
  accept_judged =
      let front : EachWindow
      (λ a d b. admits d taken ≡ false → IsWindow s.reach (h ++ taken ∷ []) a d (b ++ taken ∷ [])) [] h =
      ahead tools s.reach s.reach h taken ready.reach refl accept_drawn
      (held_same tools s.reach s.reach h taken ready.reach refl (λ e. refl))
      (carried_same tools s.reach s.reach h taken ready.reach refl refl) ready.reach.early (λ d. refl)
      (λ Q. tt) in record {
        reach = taken_reach;
        evidence = evidence_same tools s.reach s.evidence h taken ready.reach ready.evidence refl (λ d known. refl);
        safe = λ stay. ready.safe;
        holds = λ stay.
            stays_so tools s.reach h taken taken_reach front ready.safe
            (each_map (λ a d b. IsWindow s.reach h a d b × Sealed a d b)
            (λ a d b. refuses_line tools d a b taken ≡ true) (refused t.layer refl stay) [] h in_each);
        fails = λ no_stay. some_map Fails (λ a d b. (admits d taken ≡ false) × (goes_on tools a d b taken ≡ false))
            (λ a d b no. (refl, off_right (keeps_out tools a (b ++ taken ∷ []) d) _ no)) [] h
            (out t.layer refl no_stay);
      }
