-- All parts of an auditor, line by line.
use Rattle.std.proofs.Common.{◌≡◌, ℕ, ◌+◌, ◌<◌, get_or, take, Bool, true, false, ◌&&◌, List, [], ◌∷◌, ◌++◌, length, length-append, append_assoc, Option, Some, None, refl, ap, sym, subst, ◌∙◌, if◌then◌else◌}
use Rattle.std.specs.Prelude.{fold}
use Rattle.std.proofs.lemmas.List.{take_more}
use Rattle.std.proofs.lemmas.List.Sums.{fold-append}
use Rattle.zb_audit.specs.Auditing.{LocksOn, StandAt, Stands}
use Rattle.zb_audit.specs.Ending.{ill_ended}
use Rattle.zb_audit.specs.Faults.{by, first_fault, sooner, unlocked}
use Rattle.zb_audit.specs.Confirming.{is_confirmable}
use Rattle.zb_audit.specs.Failing.{failing, head}
use Rattle.zb_audit.specs.Nonces.{is_fresh}
use Rattle.zb_audit.specs.Taking.{is_later}
use Rattle.zb_audit_counters.specs.Counting.{first_uncounted}
use Rattle.zb_audit.specs.Standing.{AreConfirmed, AreNonces, AreTaken, Ends}
use Rattle.zb_audit.specs.declared.auditor.Auditor.{Auditor}
use Rattle.zb_audit.specs.declared.confirming.Confirming.{Confirming}
use Rattle.zb_audit.specs.declared.ending.Ending.{Ending}
use Rattle.zb_audit.specs.declared.fault.BadLine.{BadLine}
use Rattle.zb_audit.specs.declared.nonces.Nonces.{Nonces}
use Rattle.zb_audit.specs.declared.taking.Taking.{Taking}
use Rattle.zb_audit_names.proofs.Places.{place_stays}
use Rattle.zb_audit_names.specs.Naming.{declared_in, named_by, names_in, place_in, speaker, with_speaker}
use Rattle.zb_audit_names.specs.Secrets.{ideal, private}
use Rattle.zb_audit_names.specs.Standing as directory
use Rattle.zb_audit_names.specs.Standing.{IsSpeaker, Tells, TellsOf}
use Rattle.zb_audit_names.specs.declared.directory.Directory.{Directory}
use Rattle.zb_audit_names.specs.declared.node.Who.{Who}
use Rattle.zb_audit.proofs.SaidByName.{ideal_before, private_before}
use Rattle.zb_audit.specs.Words.{WordsStand}
use Rattle.zb_trace_watch.specs.declared.words.EndWords.{EndWords}
use Rattle.zb_audit_lockout.specs.Standing as lockout
use Rattle.zb_audit_lockout.specs.declared.lockout.Lockout.{Lockout}
use Rattle.zb_model.specs.Data.{Bytes, Station}
use Rattle.zb_model.specs.Tools.{Tools}
use Rattle.zb_audit_counters.specs.Recounting.{Recounts}
use Rattle.zb_audit_counters.specs.declared.recount.Recount.{Recount}
use Rattle.zb_trace.specs.declared.line.Line.{Line}
use Rattle.zb_trace_watch.proofs.Truth.{and_left, and_right, both}
use Rattle.zb_trace_watch.specs.Standing.{FindKeys}

-- The place of a name stays the same as further lines come.
speaker_stays : (names : List Bytes) (o : Option Bytes) (a : Bytes) (i : ℕ) → place_in names a ≡ Some i
    → place_in (with_speaker names o) a ≡ Some i
speaker_stays names None a i at = at
speaker_stays names (Some name) a i at = place_stays names name a i at

names_stay : (later : List Line) (names : List Bytes) (a : Bytes) (i : ℕ) → place_in names a ≡ Some i
    → place_in (fold named_by names later) a ≡ Some i
unfolding named_by
names_stay [] names a i at = at
names_stay (l ∷ later) names a i at = names_stay later (named_by names l) a i (speaker_stays names (speaker l) a i at)

names_after : (g later : List Line) → names_in (g ++ later) ≡ fold named_by (names_in g) later
unfolding names_in
names_after g later = fold-append named_by [] g later

told_later : (who : Who) (names more : List Bytes) (known : List Station) (o : Option Bytes)
    → ((a : Bytes) (i : ℕ) → place_in names a ≡ Some i → place_in more a ≡ Some i) → TellsOf who names known o
    → TellsOf who more known o
told_later who names more known None kept told = tt
told_later who names more known (Some name) kept told = record {
  place = kept name who.place told.place;
  eui = told.eui;
  role = told.role;
  out_block = told.out_block;
  in_block = told.in_block;
  centre = told.centre;
}

speaks_later : (who : Who) (g later : List Line) (known : List Station) (l : Line)
    → IsSpeaker who (names_in g) known l → IsSpeaker who (names_in (g ++ later)) known l
speaks_later who g later known l told =
    told_later who (names_in g) (names_in (g ++ later)) known (speaker l)
    (λ a i at. subst (λ (names : List Bytes). place_in names a ≡ Some i) (sym (names_after g later))
    (names_stay later (names_in g) a i at)) told

words_before : (tools : Tools) (h : List Line) (l : Line) → (ideal tools (h ++ l ∷ []) && private tools (h ++ l ∷ []))
    ≡ true → (ideal tools h && private tools h) ≡ true
words_before tools h l it =
    both _ _ (ideal_before tools h l (and_left _ (private tools (h ++ l ∷ [])) it))
    (private_before tools h l (and_right (ideal tools (h ++ l ∷ [])) _ it))

pub none_stand : (tools : Tools) (d : Directory) (w : EndWords) (n : Nonces) (t : Taking) (c : Confirming)
    (r : Recount) (k : Lockout) (e : Ending)
    → directory.Stands d [] [] → ((names : List Bytes) → WordsStand tools names w []) → AreNonces n []
    → ((names : List Bytes) → AreTaken names t []) → AreConfirmed c []
    → ((names : List Bytes) → Recounts names r []) → ((names : List Bytes) → lockout.Stands tools names k [])
    → Ends tools e []
    → Stands tools
    (record {
      number = 0;
      directory = d;
      words = w;
      nonces = n;
      taking = t;
      confirming = c;
      recount = r;
      lockout = k;
      ending = e;
    }) []
unfolding names_in declared_in
none_stand tools d w n t c r k e directory_is words_are nonces taken confirmed recounts locks ends = record {
  number = refl;
  directory = directory_is;
  at = λ later. record {
    words = words_are (names_in later);
    taking = taken (names_in later);
    recount = recounts (names_in later);
    lockout = λ it. locks (names_in later);
  };
  nonces = nonces;
  confirming = confirmed;
  ending = ends;
}

pub line_stands : (tools : Tools) (old : Auditor) (h : List Line) (l : Line) (who : Who) (number : ℕ) (i p : Bool)
    (d : Directory) (w : EndWords) (n : Nonces) (t : Taking) (c : Confirming) (r : Recount) (k : Lockout) (e : Ending)
    → FindKeys tools → number ≡ old.number + 1
    → ((h : List Line) → directory.Stands old.directory (names_in h) (declared_in h)
    → directory.Stands d (names_in (h ++ l ∷ [])) (declared_in (h ++ l ∷ [])))
    → ((h : List Line) → directory.Stands old.directory (names_in h) (declared_in h)
    → IsSpeaker who (names_in (h ++ l ∷ [])) (declared_in h) l)
    → ((names : List Bytes) (h : List Line) → WordsStand tools names old.words h → i ≡ ideal tools h)
    → ((names : List Bytes) (h : List Line) → WordsStand tools names old.words h → p ≡ private tools h)
    → ((h : List Line) → number ≡ length h + 1 → AreNonces old.nonces h → AreNonces n (h ++ l ∷ []))
    → ((names : List Bytes) (h : List Line) → number ≡ length h + 1 → IsSpeaker who names (declared_in h) l
    → AreTaken names old.taking h → AreTaken names t (h ++ l ∷ []))
    → ((names : List Bytes) (h : List Line) → number ≡ length h + 1 → IsSpeaker who names (declared_in h) l
    → AreConfirmed old.confirming h → AreConfirmed c (h ++ l ∷ []))
    → ((names : List Bytes) (h : List Line) → number ≡ length h + 1 → IsSpeaker who names (declared_in h) l
    → Recounts names old.recount h → Recounts names r (h ++ l ∷ []))
    → ((i && p) ≡ true → LocksOn old.lockout k number l who)
    → ((h : List Line) → number ≡ length h + 1 → i ≡ ideal tools h → p ≡ private tools h → Ends tools old.ending h
    → Ends tools e (h ++ l ∷ []))
    → ((names : List Bytes) (h : List Line) → IsSpeaker who names (declared_in h) l
    → WordsStand tools names old.words h → WordsStand tools names w (h ++ l ∷ []))
    → Stands tools old h
    → Stands tools
    (record {
      number = number;
      directory = d;
      words = w;
      nonces = n;
      taking = t;
      confirming = c;
      recount = r;
      lockout = k;
      ending = e;
    }) (h ++ l ∷ [])
line_stands tools old h l who number i p d w n t c r k e find next is_directory told ideals privates nonces taken
    confirmed recounts locks ends words_go before =
    let here : number ≡ length h + 1 = next ∙ ap (λ (m : ℕ). m + 1) before.number in
    let speaks : IsSpeaker who (names_in (h ++ l ∷ [])) (declared_in h) l = told h before.directory in
    let first : StandAt tools (names_in (h ++ [])) old h = before.at [] in
    let ideal_is : i ≡ ideal tools h = ideals (names_in (h ++ [])) h first.words in
    let private_is : p ≡ private tools h = privates (names_in (h ++ [])) h first.words in
    record {
      number = here ∙ sym (length-append h (l ∷ []));
      directory = is_directory h before.directory;
      at = λ later.
          let names : List Bytes = names_in ((h ++ l ∷ []) ++ later) in
          let told_at : IsSpeaker who names (declared_in h) l = speaks_later who (h ++ l ∷ []) later (declared_in h) l
          speaks in
          let was : StandAt tools names old h = subst (λ (ls : List Line). StandAt tools (names_in ls) old h)
          (sym (append_assoc h (l ∷ []) later)) (before.at (l ∷ later)) in
          record {
            words = words_go names h told_at was.words;
            taking = taken names h here told_at was.taking;
            recount = recounts names h here told_at was.recount;
            lockout = λ it.
                let held : (ideal tools h && private tools h) ≡ true = words_before tools h l it in
                locks (ap (λ (b : Bool). b && p) ideal_is ∙ (ap (λ (b : Bool). ideal tools h && b) private_is ∙ held))
                tools names h find here told_at (was.lockout held);
          };
      nonces = nonces h here before.nonces;
      confirming = confirmed (names_in (h ++ l ∷ [])) h here speaks before.confirming;
      ending = ends h here ideal_is private_is before.ending;
    }

-- The parts after one line

pub unlocked_is : (tools : Tools) (a : Auditor) (h : List Line) (b : Bool) (first : Option ℕ) → b
    ≡ (ideal tools h && private tools h) → Stands tools a h
    → (b ≡ true → (names : List Bytes) → lockout.Stands tools names a.lockout h → first
    ≡ Rattle.zb_audit_lockout.specs.Lockout.first_unlocked tools h)
    → (if b then first else None) ≡ unlocked tools h
unfolding unlocked
unlocked_is tools a h true first is stands told =
    told refl (names_in (h ++ [])) ((stands.at []).lockout (sym is)) ∙ ap
    (λ (b : Bool). if b then Rattle.zb_audit_lockout.specs.Lockout.first_unlocked tools h else None) is
unlocked_is tools a h false first is stands told =
    ap (λ (b : Bool). if b then Rattle.zb_audit_lockout.specs.Lockout.first_unlocked tools h else None) is

pub and_then : (i x p y : Bool) → i ≡ true → i ≡ x → p ≡ y → p ≡ (x && y)
and_then i x p y it is same = same ∙ ap (λ (b : Bool). b && y) (sym it ∙ is)

pub and_else : (i x y : Bool) → i ≡ false → i ≡ x → i ≡ (x && y)
and_else i x y it is = it ∙ ap (λ (b : Bool). b && y) (sym it ∙ is)

sooner_none : (o : Option BadLine) → sooner o None ≡ o
sooner_none None = refl
sooner_none (Some bad) = refl

pub faults_are : (tools : Tools) (h : List Line) (n1 n2 n3 n4 n5 n6 : Option ℕ) (r1 r2 r3 r4 r5 r6 : Option BadLine)
    → n1 ≡ head (failing is_fresh h) → n2 ≡ head (failing is_later h) → n3 ≡ head (failing is_confirmable h) → n4
    ≡ first_uncounted h → n5 ≡ unlocked tools h → n6 ≡ head (ill_ended tools h)
    → r1 ≡ sooner (by 1 n1) r2 → r2 ≡ sooner (by 2 n2) r3 → r3 ≡ sooner (by 3 n3) r4 → r4 ≡ sooner (by 4 n4) r5 → r5
    ≡ sooner (by 5 n5) r6 → r6 ≡ sooner (by 6 n6) None
    → r1 ≡ first_fault tools h
unfolding first_fault
faults_are tools h n1 n2 n3 n4 n5 n6 r1 r2 r3 r4 r5 r6 e1 e2 e3 e4 e5 e6 s1 s2 s3 s4 s5 s6 =
    s1 ∙ (rw (s2, s3, s4, s5, s6, e1, e2, e3, e4, e5, e6, sooner_none (by 6 (head (ill_ended tools h)))) refl)

-- One line more of a list.
pub taken_more : (lines : List Line) (i : ℕ) (l : Line) → i < length lines → l ≡ get_or lines i l → take (i + 1) lines
    ≡ take i lines ++ l ∷ []
taken_more lines i l in_range is = take_more lines i l in_range ∙ ap (λ (x : Line). take i lines ++ x ∷ []) (sym is)
