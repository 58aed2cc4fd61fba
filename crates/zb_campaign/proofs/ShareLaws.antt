-- Consecutive shares of runs.
use Rattle.std.proofs.Common.{◌≡◌, ℕ, zero, suc, ◌+◌, ◌-◌, ◌<◌, ◌≤◌, ◌^◌, min, List, [], ◌∷◌, ◌++◌, map, drop, get_or, length, Vec, Global, Result, Ok, Err, refl, ap, sym, ◌∙◌, subst, arith, add-one, append-nil}
use Rattle.std.specs.List.{AllByRecursion, AllZip, range_with_len}
use Rattle.std.proofs.lemmas.List.{length-map, map-append}
use Rattle.zb_campaign.specs.Answers.{Answers, last_lines}
use Rattle.zb_campaign.specs.Campaigns.{all_of, behind, ending_of_run, endings, joined}
use Rattle.zb_campaign.specs.declared.fault.CampaignFault.{CampaignFault}
use Rattle.zb_campaign.specs.declared.fault.CampaignFault.TheVariants as fault
use Rattle.zb_campaign.proofs.RunLaws.{behind_both, behind_none, no_runs}
use Rattle.zb_parallel.specs.Shares.{AreShares}
use Rattle.zb_parallel.specs.declared.share.Share.{Share}
use Rattle.zb_model.specs.Lines.{Line}
use Rattle.zb_player.specs.Runs.{last_line}
use Rattle.zb_player.specs.declared.summary.Summary.{Summary}
use Rattle.zb_sched.specs.declared.error.SchedError.{SchedError}

-- The first result, and then the next.
abbrev then_all : {A E : Type 0} → Result (List A) E → Result (List A) E → Result (List A) E
then_all (Ok xs) more = behind xs more
then_all (Err e) more = Err e

then_behind : {A E : Type 0} (xs : List A) (first more : Result (List A) E) → then_all (behind xs first) more
    ≡ behind xs (then_all first more)
then_behind xs (Ok ys) more = sym (behind_both xs ys more)
then_behind xs (Err e) more = refl

all_of_both : {A E : Type 0} (xs ys : List (Result A E)) → all_of (xs ++ ys) ≡ then_all (all_of xs) (all_of ys)
all_of_both [] ys = sym (behind_none (all_of ys))
all_of_both (Ok x ∷ xs) ys = ap (behind (x ∷ [])) (all_of_both xs ys) ∙ sym
    (then_behind (x ∷ []) (all_of xs) (all_of ys))
all_of_both (Err e ∷ xs) ys = refl

range_both : (first a b : ℕ) → range_with_len first (a + b) ≡ range_with_len first a ++ range_with_len (first + a) b
range_both first zero b =
    let none : 0 + b ≡ b = omega arith in
    let from : first + 0 ≡ first = omega arith in
    rw none rw from refl
range_both first (suc a) b =
    let more : suc a + b ≡ suc (a + b) = omega arith in
    let from : first + suc a ≡ first + 1 + a = omega arith in
    rw more rw from (ap (λ xs. first ∷ xs) (range_both (first + 1) a b))

-- The runs of two shares, the second after the first.
endings_both : (start first a b : ℕ) → endings start first (a + b)
    ≡ then_all (endings start first a) (endings start (first + a) b)
unfolding endings
endings_both start first a b =
    let f : ℕ → Result Line SchedError = λ i. ending_of_run start i in
    ap (λ xs. all_of (map f xs)) (range_both first a b) ∙ ap all_of
    (map-append f (range_with_len first a) (range_with_len (first + a) b))
    ∙ all_of_both (map f (range_with_len first a)) (map f (range_with_len (first + a) b))

joined_more : {A E : Type 0} (w : Result (List A) E) (more : List (Result (List A) E)) → joined (w ∷ more)
    ≡ then_all w (joined more)
joined_more (Ok xs) more = refl
joined_more (Err e) more = refl

-- What each share is expected to give.
abbrev pub wanted_of : ℕ → List Share → List (Result (List Line) SchedError)
wanted_of start shares = map (λ (share : Share). endings start share.first share.count) shares

-- The shares together are all runs.
pub joined_shares : (start size number first left : ℕ) (shares : List Share) → AreShares size number first left shares
    → joined (wanted_of start shares) ≡ endings start first left
joined_shares start size number first left [] none = sym (ap (λ n. endings start first n) none ∙ no_runs start first)
joined_shares start size number first left (share ∷ more) cut =
    let part = min size left in
    let whole : part + (left - part) ≡ left = omega arith in
    let here : endings start share.first share.count ≡ endings start first part =
    ap (λ n. endings start n share.count) cut.1 ∙ ap (λ n. endings start first n) cut.3 in
    joined_more (endings start share.first share.count) (wanted_of start more)
    ∙ ap (λ r. then_all r (joined (wanted_of start more))) here
    ∙ ap (then_all (endings start first part))
    (joined_shares start size (number + 1) (first + part) (left - part) more cut.4)
    ∙ sym (endings_both start first part (left - part)) ∙ ap (λ n. endings start first n) whole

-- The start values of all runs are below 2^32.
pub within_all : (start size number first left : ℕ) (shares : List Share) → AreShares size number first left shares
    → start + first + left < 2 ^ 32
    → AllByRecursion (λ (share : Share). start + share.first + share.count < 2 ^ 32) shares
within_all start size number first left [] cut within = tt
within_all start size number first left (share ∷ more) cut within =
    let part = min size left in (
      omega (arith, cut.1, cut.3, within),
      within_all start size (number + 1) (first + part) (left - part) more cut.4
          (omega (arith, within)),
    )

-- ---- The results of the shares, from the first on

abbrev pub Came : Type 0
Came = Result (Vec Summary Global) CampaignFault

abbrev pub AreAnswered : List Came → List (Result (List Line) SchedError) → Type 0
AreAnswered played wanted =
    AllZip (λ (came : Came) (should : Result (List Line) SchedError). Answers last_lines came should) played wanted

joined_at : (played : List Came) (wanted : List (Result (List Line) SchedError)) (i : ℕ) (d : Came)
    (ends : Vec Summary Global) → i < length played
    → get_or played i d ≡ Ok ends → AreAnswered played wanted → joined (drop i wanted)
    ≡ behind (last_lines ends) (joined (drop (suc i) wanted))
joined_at [] wanted i d ends within is all = absurd (omega arith)
joined_at (r ∷ played) [] i d ends within is all = absurd all
joined_at (r ∷ played) (w ∷ wanted) zero d ends within is all =
    let A : Came → Type 0 = λ came. Answers last_lines came w in
    let should : w ≡ Ok (last_lines ends) = subst A is all.0 in
    ap (λ x. joined (x ∷ wanted)) should
joined_at (r ∷ played) (w ∷ wanted) (suc i) d ends within is all = joined_at played wanted i d ends (omega arith) is
    all.1

-- The results of the shares so far and the expected ones of the others make the results of all.
abbrev pub AreJoined : List Came → ℕ → List Summary → Type 0
AreJoined played i ends =
    (wanted : List (Result (List Line) SchedError)) → AreAnswered played wanted
    → joined wanted ≡ behind (map last_line ends) (joined (drop i wanted))

pub one_joined_more : (played : List Came) (i : ℕ) (old new : List Summary) (d : Came) (ends : Vec Summary Global) → i
    < length played
    → get_or played i d ≡ Ok ends → new ≡ old ++ ends.items → AreJoined played i old → AreJoined played (i + 1) new
one_joined_more played i old new d ends within is more so_far = λ wanted all.
    let items : map last_line old ++ last_lines ends ≡ map last_line new = sym (map-append last_line old ends.items) ∙
    ap (map last_line) (sym more) in
    let rest = joined (drop (suc i) wanted) in
    so_far wanted all ∙ ap (behind (map last_line old)) (joined_at played wanted i d ends within is all)
    ∙ behind_both (map last_line old) (last_lines ends) rest ∙ ap (λ xs. behind xs rest) items
    ∙ ap (λ n. behind (map last_line new) (joined (drop n wanted))) (sym (add-one i))

past_all : (played : List Came) (wanted : List (Result (List Line) SchedError)) (i : ℕ) → length played ≤ i
    → AreAnswered played wanted
    → joined (drop i wanted) ≡ Ok []
past_all [] [] zero past all = refl
past_all [] [] (suc i) past all = refl
past_all [] (w ∷ wanted) i past all = absurd all
past_all (r ∷ played) [] i past all = absurd all
past_all (r ∷ played) (w ∷ wanted) zero past all = absurd (omega arith)
past_all (r ∷ played) (w ∷ wanted) (suc i) past all = past_all played wanted i (omega arith) all.1

pub all_joined : (played : List Came) (i : ℕ) (ends : List Summary) → length played ≤ i → AreJoined played i ends
    → (wanted : List (Result (List Line) SchedError)) → AreAnswered played wanted → joined wanted
    ≡ Ok (map last_line ends)
all_joined played i ends past so_far wanted all =
    so_far wanted all ∙ ap (behind (map last_line ends)) (past_all played wanted i past all) ∙ ap Ok
    (append-nil (map last_line ends))

-- The first share that has a fault.
fails_at : (played : List Came) (wanted : List (Result (List Line) SchedError)) (i : ℕ) (d : Came) (f : CampaignFault)
    → i < length played
    → get_or played i d ≡ Err f → AreAnswered played wanted → Answers last_lines (Err f) (joined (drop i wanted))
fails_at [] wanted i d f within is all = absurd (omega arith)
fails_at (r ∷ played) [] i d f within is all = absurd all
fails_at (r ∷ played) (w ∷ wanted) zero d f within is all =
    let A : Came → Type 0 = λ came. Answers last_lines came w in
    by_fault f (subst A is all.0)
  where
    by_fault : (e : CampaignFault) → Answers last_lines (Err e) w → Answers last_lines (Err e) (joined (w ∷ wanted))
    by_fault fault.Write is = absurd is
    by_fault (fault.Clash line cause) is = ap (λ x. joined (x ∷ wanted)) is
    by_fault fault.NoMemory is = tt
fails_at (r ∷ played) (w ∷ wanted) (suc i) d f within is all = fails_at played wanted i d f (omega arith) is all.1

behind_fault : (front : List Line) (f : CampaignFault) (all rest : Result (List Line) SchedError) → all
    ≡ behind front rest
    → Answers last_lines (Err f) rest → Answers last_lines (Err f) all
behind_fault front fault.Write all rest so_far is = absurd is
behind_fault front (fault.Clash line cause) all rest so_far is = so_far ∙ ap (behind front) is
behind_fault front fault.NoMemory all rest so_far is = tt

pub a_share_fails : (played : List Came) (i : ℕ) (ends : List Summary) (d : Came) (f : CampaignFault) → i
    < length played
    → get_or played i d ≡ Err f → AreJoined played i ends
    → (wanted : List (Result (List Line) SchedError)) → AreAnswered played wanted
    → Answers last_lines (Err f) (joined wanted)
a_share_fails played i ends d f within is so_far wanted all =
    behind_fault (map last_line ends) f (joined wanted) (joined (drop i wanted)) (so_far wanted all)
    (fails_at played wanted i d f within is all)

-- ---- The calls of all shares

zip_from_index : {A B : Type 0} (R : A → B → Type 0) (xs : List A) (ys : List B) → length xs ≡ length ys
    → ((i : ℕ) (d : A) (e : B) → i < length xs → R (get_or xs i d) (get_or ys i e)) → AllZip R xs ys
zip_from_index R [] [] same each = tt
zip_from_index R [] (y ∷ ys) same each = absurd (omega arith)
zip_from_index R (x ∷ xs) [] same each = absurd (omega arith)
zip_from_index R (x ∷ xs) (y ∷ ys) same each =
    (each 0 x y (omega arith), zip_from_index R xs ys (omega arith) (λ i d e within. each (suc i) d e (omega arith)))

wanted_at : (start : ℕ) (shares : List Share) (i : ℕ) (e : Result (List Line) SchedError) (d : Share) → i
    < length shares
    → get_or (wanted_of start shares) i e ≡ endings start (get_or shares i d).first (get_or shares i d).count
wanted_at start [] i e d within = absurd (omega arith)
wanted_at start (share ∷ shares) zero e d within = refl
wanted_at start (share ∷ shares) (suc i) e d within = wanted_at start shares i e d (omega arith)

pub each_answered : (start : ℕ) (shares : List Share) (played : List Came) → length played ≡ length shares
    → ((i : ℕ) (d : Came) (e : Share) → i < length shares
    → Answers last_lines (get_or played i d) (endings start (get_or shares i e).first (get_or shares i e).count))
    → AreAnswered played (wanted_of start shares)
each_answered start shares played same each =
    let some : Share = record { number = 0; first = 0; count = 0 } in
    zip_from_index (λ (came : Came) (should : Result (List Line) SchedError). Answers last_lines came should) played
    (wanted_of start shares)
    (same ∙ sym (length-map shares (λ (share : Share). endings start share.first share.count)))
    (λ i d e within.
    let inside : i < length shares = omega (arith, within, same) in
    let P : Result (List Line) SchedError → Type 0 = λ should. Answers last_lines (get_or played i d) should in
    subst P (sym (wanted_at start shares i e some inside)) (each i d some inside))

pub played_all : (start size count : ℕ) (shares : List Share) (played : List Came) (r : Came)
    → AreShares size 0 0 count shares
    → AreAnswered played (wanted_of start shares)
    → ((wanted : List (Result (List Line) SchedError)) → AreAnswered played wanted
    → Answers last_lines r (joined wanted))
    → Answers last_lines r (endings start 0 count)
played_all start size count shares played r cut each gathered =
    let P : Result (List Line) SchedError → Type 0 = λ should. Answers last_lines r should in
    subst P (joined_shares start size 0 0 count shares cut) (gathered (wanted_of start shares) each)
