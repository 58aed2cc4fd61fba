-- The ends of runs, one run after the other.
use Rattle.std.proofs.Common.{◌≡◌, ℕ, zero, suc, ◌+◌, ◌-◌, ◌%◌, ◌<◌, ◌≤◌, List, [], ◌∷◌, ◌++◌, map, length, Option, Result, Ok, Err, refl, ap, sym, ◌∙◌, arith, append_assoc, append-nil}
use Rattle.std.specs.List.{range_with_len}
use Rattle.std.proofs.lemmas.List.{length-map, map-append}
use Rattle.std.proofs.lemmas.List.FromFn.{length-map-range_with_len}
use Rattle.std.proofs.KnownBytes.{Keeps-refl}
use Rattle.zb_campaign.specs.Outcomes.{Campaigns}
use Rattle.zb_model.specs.Data.{Bytes}
use Rattle.zb_campaign.specs.Answers.{Answers, last_lines}
use Rattle.zb_campaign.specs.Campaigns.{all_of, behind, campaigned, ending_of_run, endings, if_made, told}
use Rattle.zb_campaign.specs.Faults.{made_fault}
use Rattle.zb_campaign.specs.declared.fault.CampaignFault.{CampaignFault}
use Rattle.zb_campaign.specs.declared.fault.CampaignFault.TheVariants as fault
use Rattle.zb_gen.specs.Faults.{Makes}
use Rattle.zb_gen.specs.Made.{made_schedule}
use Rattle.zb_gen.specs.declared.maker.GenFault.{GenFault}
use Rattle.zb_gen.specs.declared.maker.GenFault.TheVariants as gen
use Rattle.zb_model.specs.Lines.{Line}
use Rattle.zb_player.specs.Runs.{Sums, last_line}
use Rattle.zb_player.specs.declared.summary.Summary.{Summary}
use Rattle.zb_sched.specs.Schedules.{Schedule}
use Rattle.zb_sched.specs.declared.error.SchedError.{SchedError}

pub behind_both : {A E : Type 0} (xs ys : List A) (r : Result (List A) E) → behind xs (behind ys r)
    ≡ behind (xs ++ ys) r
behind_both xs ys (Ok zs) = ap Ok (sym (append_assoc xs ys zs))
behind_both xs ys (Err e) = refl

pub behind_none : {A E : Type 0} (r : Result (List A) E) → behind [] r ≡ r
behind_none (Ok zs) = refl
behind_none (Err e) = refl

-- The first of some runs, and those after it.
next_run : (start first left : ℕ) (last : Line) → 0 < left → ending_of_run start first ≡ Ok last
    → endings start first left ≡ behind (last ∷ []) (endings start (first + 1) (left - 1))
unfolding endings
next_run start first zero last some is = absurd (omega arith)
next_run start first (suc left) last some is =
    let one : suc left - 1 ≡ left = omega arith in
    rw one (ap (λ r. all_of (r ∷ map (λ i. ending_of_run start i) (range_with_len (first + 1) left))) is)

next_clash : (start first left : ℕ) (e : SchedError) → 0 < left → ending_of_run start first ≡ Err e
    → endings start first left ≡ Err e
unfolding endings
next_clash start first zero e some is = absurd (omega arith)
next_clash start first (suc left) e some is =
    ap (λ r. all_of (r ∷ map (λ i. ending_of_run start i) (range_with_len (first + 1) left))) is

-- So many runs have these ends, and the others are still to be played.
abbrev pub AreRun : ℕ → ℕ → ℕ → ℕ → List Summary → Type 0
AreRun start first count done ends =
    endings start first count ≡ behind (map last_line ends) (endings start (first + done) (count - done))

pub none_run : (start first count : ℕ) (ends : List Summary) → ends ≡ [] → AreRun start first count 0 ends
none_run start first count ends none =
    let from : first + 0 ≡ first = omega arith in
    let all : count - 0 ≡ count = omega arith in
    rw none rw from rw all (sym (behind_none (endings start first count)))

pub one_run_more : (start first count done : ℕ) (old new : List Summary) (end : Summary) → done < count
    → AreRun start first count done old
    → ending_of_run start (first + done) ≡ Ok (last_line end) → new ≡ old ++ end ∷ []
    → AreRun start first count (done + 1) new
one_run_more start first count done old new end within so_far is more =
    let from : first + done + 1 ≡ first + (done + 1) = omega arith in
    let rest : count - done - 1 ≡ count - (done + 1) = omega arith in
    let items : map last_line old ++ last_line end ∷ [] ≡ map last_line new =
    sym (map-append last_line old (end ∷ [])) ∙ ap (map last_line) (sym more) in
    so_far ∙ ap (behind (map last_line old))
    (next_run start (first + done) (count - done) (last_line end) (omega arith) is)
    ∙ behind_both (map last_line old) (last_line end ∷ []) (endings start (first + done + 1) (count - done - 1))
    ∙ ap (λ xs. behind xs (endings start (first + done + 1) (count - done - 1))) items
    ∙ ap (λ n. behind (map last_line new) (endings start n (count - done - 1))) from
    ∙ ap (λ n. behind (map last_line new) (endings start (first + (done + 1)) n)) rest

pub a_run_clashes : (start first count done : ℕ) (ends : List Summary) (e : SchedError) → done < count
    → AreRun start first count done ends
    → ending_of_run start (first + done) ≡ Err e → endings start first count ≡ Err e
a_run_clashes start first count done ends e within so_far is =
    so_far ∙ ap (behind (map last_line ends)) (next_clash start (first + done) (count - done) e (omega arith) is)

pub no_runs : (start first : ℕ) → endings start first 0 ≡ Ok []
unfolding endings
no_runs start first = refl

pub all_run : (start first count done : ℕ) (ends : List Summary) → count ≤ done → AreRun start first count done ends
    → endings start first count ≡ Ok (map last_line ends)
all_run start first count done ends past so_far =
    let none : count - done ≡ 0 = omega arith in
    so_far ∙ ap (λ n. behind (map last_line ends) (endings start (first + done) n)) none
    ∙ ap (behind (map last_line ends)) (no_runs start (first + done)) ∙ ap Ok (append-nil (map last_line ends))

-- ---- One run

abbrev pub is_of : ℕ → ℕ → Result Schedule SchedError
is_of start run = made_schedule (start + run) (1 + run % 8)

pub made_clash : (start run : ℕ) (f : GenFault) → Makes (Err f) (is_of start run)
    → Answers last_line (Err (made_fault f)) (ending_of_run start run)
unfolding ending_of_run
made_clash start run (gen.Clash line cause) is = ap if_made is
made_clash start run gen.NoMemory is = tt

pub made_ended : (start run : ℕ) (p : Schedule) (end : Summary) → is_of start run ≡ Ok p → Sums p end
    → ending_of_run start run ≡ Ok (last_line end)
unfolding ending_of_run
made_ended start run p end is sums = ap if_made is ∙ ap Ok (sym sums)

-- A run that fails ends the share.
pub a_run_fails : (start first count done : ℕ) (ends : List Summary) (f : CampaignFault) → done < count
    → AreRun start first count done ends
    → Answers last_line (Err f) (ending_of_run start (first + done))
    → Answers last_lines (Err f) (endings start first count)
a_run_fails start first count done ends fault.Write within so_far is = absurd is
a_run_fails start first count done ends (fault.Clash line cause) within so_far is =
    a_run_clashes start first count done ends (record { line = line; cause = cause }) within so_far is
a_run_fails start first count done ends fault.NoMemory within so_far is = tt

-- ---- The ends of a campaign

ends_of : {A E : Type 0} → Result (List A) E → ℕ
ends_of (Ok xs) = length xs
ends_of (Err e) = 0

behind_length : {A E : Type 0} (x : A) (n : ℕ) (r : Result (List A) E) (ys : List A)
    → ((zs : List A) → r ≡ Ok zs → length zs ≡ n)
    → behind (x ∷ []) r ≡ Ok ys → length ys ≡ suc n
unfolding ends_of
behind_length x n (Ok zs) ys each is = sym (ap ends_of is) ∙ ap suc (each zs refl)
behind_length x n (Err e) ys each is = absurd (cc is)

all_of_length : {A E : Type 0} (xs : List (Result A E)) (ys : List A) → all_of xs ≡ Ok ys → length ys ≡ length xs
unfolding ends_of
all_of_length [] ys is = sym (ap ends_of is)
all_of_length (Ok x ∷ xs) ys is = behind_length x (length xs) (all_of xs) ys (all_of_length xs) is
all_of_length (Err e ∷ xs) ys is = absurd (cc is)

-- Each run has one end.
pub as_many : (start first count : ℕ) (ends : List Summary) → endings start first count ≡ Ok (map last_line ends)
    → length ends ≡ count
unfolding endings
as_many start first count ends is =
    sym (length-map ends last_line) ∙ all_of_length (map (λ i. ending_of_run start i) (range_with_len first count))
    (map last_line ends) is
    ∙ length-map-range_with_len (λ i. ending_of_run start i) first count

-- If a run has a fault, nothing is written.
pub not_written : (count start : ℕ) (f : CampaignFault) (before : Option Bytes) (old : ℕ)
    → Answers last_lines (Err f) (endings start 0 count)
    → Campaigns (campaigned count start) before before old old (Err f)
unfolding campaigned
not_written count start fault.Write before old is = absurd is
not_written count start (fault.Clash line cause) before old is = (ap told is, Keeps-refl before)
not_written count start fault.NoMemory before old is = Keeps-refl before
