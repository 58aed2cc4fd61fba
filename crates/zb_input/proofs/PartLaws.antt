-- A capture whose text comes in parts.
use Rattle.std.proofs.Common.{◌≡◌, ◌≢◌, ℕ, ◌+◌, ◌-◌, ◌<◌, ◌≤◌, List, [], ◌++◌, length, refl, ap, sym, ◌∙◌, subst, arith, append_assoc, append-nil, length-append, Option, Some, None, Result, Ok, Err, IfSome, OnOk}
use Rattle.std.specs.Io.KnownBytes.{Consumes, IsAtEnd}
use Rattle.std.specs.Result.{IsErrAnd}
use Rattle.std.specs.Str.Lines.{lines}
use Rattle.zb_base.specs.Outside.{Rose, Unrisen}
use Rattle.zb_base.specs.declared.fault.OrMemory.{OrMemory}
use Rattle.zb_base.specs.declared.fault.OrMemory.TheVariants as error
use Rattle.zb_capture.specs.Grammar.{captured}
use Rattle.zb_capture.specs.Readings.{Reading, Lead, AreRead, no_lines, with_more}
use Rattle.zb_capture.specs.declared.capture.Capture.{Capture}
use Rattle.zb_capture.proofs.LineLaws.{lead_then, bad_then}
use Rattle.zb_capture.specs.declared.fault.CaptureError.{CaptureError}
use Rattle.zb_input.specs.Inputs.{AreLines, AreLinesRead, Grows, IsAll, IsJudged, IsPastAll, IsRead, IsReadAsCapture, IsWhyNot, TakesAtMost, fault_of}
use Rattle.zb_input.specs.declared.incoming.Incoming.{Incoming}
use Rattle.zb_input.specs.declared.capture.CaptureFault.{CaptureFault}
use Rattle.zb_input.specs.declared.capture.CaptureFault.TheVariants as fault
use Rattle.zb_input.specs.declared.input.InputFault.{InputFault}
use Rattle.zb_input.specs.declared.input.InputFault.TheVariants as input

-- What was read from a source, one part after the other.
taken_both : (old mid new : Option (List ℕ)) (first more : List ℕ) → Consumes old mid first → Consumes mid new more
    → Consumes old new (first ++ more)
taken_both None mid new first more one two = tt
taken_both (Some xs) None new first more one two = absurd one
taken_both (Some xs) (Some ys) None first more one two = absurd two
taken_both (Some xs) (Some ys) (Some zs) first more one two =
    one ∙ ap (λ ws. first ++ ws) two ∙ sym (append_assoc first more zs)

nothing_taken : (old : Option (List ℕ)) → Consumes old old []
nothing_taken None = tt
nothing_taken (Some xs) = refl

pub takes_then : (old mid new : Option (List ℕ)) (first more limit : ℕ) → TakesAtMost old mid first
    → TakesAtMost mid new more → first + more ≤ limit
    → TakesAtMost old new limit
takes_then old mid new first more limit one two room = (
  one.0 ++ two.0,
  taken_both old mid new one.0 two.0 one.1 two.1,
  omega (arith, length-append one.0 two.0, one.2, two.2, room),
)

pub takes_more : (old mid new : Option (List ℕ)) (before now more : List ℕ) (limit : ℕ) → Grows old mid before now
    → Consumes mid new more
    → length now + length more ≤ limit → TakesAtMost old new (limit - length before)
takes_more old mid new before now more limit grown next within = (
  grown.0 ++ more,
  taken_both old mid new grown.0 more grown.1 next,
  omega (arith, ap (length {A = ℕ}) grown.2, length-append before grown.0, length-append grown.0 more, within),
)

-- So many bytes of an input were read. Its lines up to `part` were parsed, and the bytes after them give the rest.
pub record IsComing (old now : Option (List ℕ)) (reading : Reading) (part : List ℕ) (all : ℕ) : Type 0 where
  pub taken : List ℕ
  pub from : Consumes old now taken
  pub count : length taken ≡ all
  pub gives : (more : List ℕ) → captured (taken ++ more) ≡ with_more reading (lines (part ++ more))
  pub room : reading.lines + length part ≤ all

pub nothing_came : (old : Option (List ℕ)) (reading : Reading) (part : List ℕ) (count : ℕ) → reading ≡ no_lines → part
    ≡ [] → count ≡ 0 → IsComing old old reading part count
unfolding captured
nothing_came old reading part count none empty zero =
    let P : Reading → Type 0 = λ r. IsComing old old r part count in
    let Q : List ℕ → Type 0 = λ p. IsComing old old no_lines p count in
    subst P (sym none) (subst Q (sym empty) (record {
      taken = [];
      from = nothing_taken old;
      count = sym zero;
      gives = λ more. refl;
      room = omega (arith, zero);
    }))

-- More bytes.
pub more_came : (old mid new : Option (List ℕ)) (reading : Reading) (part after : List ℕ) (count later : ℕ)
    → IsComing old mid reading part count
    → Grows mid new part after → later + length part ≡ count + length after → IsComing old new reading after later
more_came old mid new reading part after count later is grown sum =
    let more = grown.0 in
    let len : length after ≡ length part + length more = ap (length {A = ℕ}) grown.2 ∙ length-append part more in
    record {
      taken = is.taken ++ more;
      from = taken_both old mid new is.taken more is.from grown.1;
      count = length-append is.taken more ∙ omega (arith, is.count, sum, len);
      gives = λ rest. ap captured (append_assoc is.taken more rest) ∙ is.gives (more ++ rest)
          ∙ ap (λ zs. with_more reading (lines zs))
          (sym (append_assoc part more rest) ∙ ap (λ zs. zs ++ rest) (sym grown.2));
      room = omega (arith, is.room, sum, len);
    }

-- No more bytes were read than allowed.
pub takes_came : (old now : Option (List ℕ)) (reading : Reading) (part : List ℕ) (count : ℕ)
    → IsComing old now reading part count → count ≤ 16777216
    → TakesAtMost old now 16777217
takes_came old now reading part count is within = (is.taken, is.from, omega (arith, is.count, within))

pub takes_on : (old mid new : Option (List ℕ)) (reading : Reading) (part : List ℕ) (count : ℕ)
    → IsComing old mid reading part count → count ≤ 16777216
    → TakesAtMost mid new (16777217 - count) → TakesAtMost old new 16777217
takes_on old mid new reading part count is within next =
    takes_then old mid new count (16777217 - count) 16777217 (is.taken, is.from, omega (arith, is.count)) next
    (omega (arith, within))

-- Lines were parsed.
pub lines_came : (old now : Option (List ℕ)) (reading next : Reading) (part after : List ℕ) (count : ℕ)
    → IsComing old now reading part count
    → ((more : List ℕ) → with_more reading (lines (part ++ more)) ≡ with_more next (lines (after ++ more)))
    → next.lines + length after ≤ reading.lines + length part → IsComing old now next after count
lines_came old now reading next part after count is read room = record {
  taken = is.taken;
  from = is.from;
  count = is.count;
  gives = λ more. is.gives more ∙ read more;
  room = omega (arith, is.room, room);
}

-- The source has no more.
all_when : (P : List ℕ → Type 0) (old now : Option (List ℕ)) (taken : List ℕ) → Consumes old now taken → IsAtEnd now
    → P taken → IfSome old P
all_when P None now taken from end p = tt
all_when P (Some xs) None taken from end p = absurd from
all_when P (Some xs) (Some ys) taken from end p =
    let same : taken ≡ xs = sym (from ∙ ap (λ ws. taken ++ ws) end ∙ append-nil taken) in subst P same p

-- The last lines were parsed.
pub all_read : (old now : Option (List ℕ)) (reading last : Reading) (part text : List ℕ) (count : ℕ) (c : Capture)
    → IsComing old now reading part count → IsAtEnd now
    → count ≤ 16777216 → text ≡ part → Lead reading (lines text) last → c ≡ last.capture
    → IfSome old (λ rest. (length rest ≤ 16777216) × (captured rest ≡ Ok c))
all_read old now reading last part text count c is end within same lead whole =
    let P : List ℕ → Type 0 = λ rest. (length rest ≤ 16777216) × (captured rest ≡ Ok c) in
    all_when P old now is.taken is.from end (
      omega (arith, is.count, within),
      ap captured (sym (append-nil is.taken)) ∙ is.gives [] ∙ ap (λ zs. with_more reading (lines zs))
          (append-nil part ∙ sym same)
          ∙ lead.gives ∙ ap (λ x. Ok x) (sym whole),
    )

-- The last lines have a fault.
pub last_fault : (e : OrMemory CaptureError) (old now : Option (List ℕ)) (reading last : Reading) (part text : List ℕ)
    (count faults later : ℕ)
    → IsComing old now reading part count → IsAtEnd now → count ≤ 16777216 → text ≡ part
    → AreRead (Err e) reading last text
    → IsWhyNot (fault_of e) old faults later
last_fault (error.Fault e) old now reading last part text count faults later is end within same bad =
    let P : List ℕ → Type 0 = λ rest. (length rest ≤ 16777216) × (captured rest ≡ Err e) in
    all_when P old now is.taken is.from end (
      omega (arith, is.count, within),
      ap captured (sym (append-nil is.taken)) ∙ is.gives [] ∙ ap (λ zs. with_more reading (lines zs))
          (append-nil part ∙ sym same) ∙ bad,
    )
last_fault error.NoMemory old now reading last part text count faults later is end within same bad = tt

-- There are more bytes than allowed.
past_when : (old now new : Option (List ℕ)) (taken more : List ℕ) (count : ℕ) → Consumes old now taken → length taken
    ≡ count → Consumes now new more
    → 16777216 < count + length more → IfSome old (λ rest. 16777216 < length rest)
past_when None now new taken more count from is also long = tt
past_when (Some xs) None new taken more count from is also long = absurd from
past_when (Some xs) (Some ys) None taken more count from is also long = absurd also
past_when (Some xs) (Some ys) (Some zs) taken more count from is also long =
    omega (
      arith,
      long,
      is,
      ap (length {A = ℕ}) from,
      length-append taken ys,
      ap (length {A = ℕ}) also,
      length-append more zs,
    )

pub too_long : (old now new : Option (List ℕ)) (reading : Reading) (part : List ℕ) (count : ℕ)
    → IsComing old now reading part count → IsPastAll now new count
    → IfSome old (λ rest. 16777216 < length rest)
too_long old now new reading part count is past = past_when old now new is.taken past.0 count is.from is.count past.1
    past.2

-- Why a further read failed.
rose_later : (faults mid later : ℕ) → faults ≤ mid → Rose mid later → Rose faults later
rose_later faults mid later less rose = omega (arith, less, rose)

pub why_input : (e : InputFault) (old now new : Option (List ℕ)) (reading : Reading) (part : List ℕ)
    (count faults mid later : ℕ) → IsComing old now reading part count
    → faults ≤ mid → (e ≡ input.Read → Rose mid later) → (e ≡ input.TooLong → IsPastAll now new count)
    → IsWhyNot (fault.Input e) old faults later
why_input input.Read old now new reading part count faults mid later is less read past =
    rose_later faults mid later less (read refl)
why_input input.TooLong old now new reading part count faults mid later is less read past =
    too_long old now new reading part count is (past refl)
why_input input.NoMemory old now new reading part count faults mid later is less read past = tt

-- Some lines have a fault, and what is reported after all bytes were read.
bad_text : (old now new : Option (List ℕ)) (reading : Reading) (part : List ℕ) (count : ℕ) (e : CaptureError)
    → IsComing old now reading part count
    → ((more : List ℕ) → with_more reading (lines (part ++ more)) ≡ Err e) → IsAll now new count
    → IfSome old (λ rest. (length rest ≤ 16777216) × (captured rest ≡ Err e))
bad_text old now new reading part count e is bad all =
    let P : List ℕ → Type 0 = λ rest. (length rest ≤ 16777216) × (captured rest ≡ Err e) in
    all_when P old new (is.taken ++ all.0) (taken_both old now new is.taken all.0 is.from all.1) all.2 (
      omega (arith, is.count, all.3, length-append is.taken all.0),
      is.gives all.0 ∙ bad all.0,
    )

pub judged : (f : CaptureFault) (e : OrMemory CaptureError) (old now new : Option (List ℕ)) (reading next : Reading)
    (part after : List ℕ) (count faults mid later : ℕ)
    → IsComing old now reading part count → faults ≤ mid → AreLinesRead (Err e) reading next part after
    → IsJudged f e now new count mid later
    → IsWhyNot f old faults later
judged (fault.Input input.Read) e old now new reading next part after count faults mid later is less bad why =
    rose_later faults mid later less why
judged (fault.Input input.TooLong) e old now new reading next part after count faults mid later is less bad why =
    too_long old now new reading part count is why
judged (fault.Input input.NoMemory) e old now new reading next part after count faults mid later is less bad why = tt
judged (fault.Text error) e old now new reading next part after count faults mid later is less bad why =
    let P : OrMemory CaptureError → Type 0 = λ x. AreLinesRead (Err x) reading next part after in
    bad_text old now new reading part count error is (subst P why.0 bad) why.1

-- The whole lines of a part were parsed, or have a fault.
pub part_read : (old next : Reading) (part first rest whole left : List ℕ) → Lead old (lines whole) next → whole
    ≡ first → left ≡ rest
    → ((more : List ℕ) → lines (part ++ more) ≡ lines first ++ lines (rest ++ more)) → (more : List ℕ)
    → with_more old (lines (part ++ more)) ≡ with_more next (lines (left ++ more))
part_read old next part first rest whole left lead one two cut more =
    ap (with_more old) (cut more ∙ ap (λ zs. lines zs ++ lines (rest ++ more)) (sym one))
    ∙ lead_then old next (lines whole) (lines (rest ++ more)) lead
    ∙ ap (λ zs. with_more next (lines (zs ++ more))) (sym two)

bad_part : (e : OrMemory CaptureError) (old next after : Reading) (part first rest whole : List ℕ)
    → AreRead (Err e) old next whole → whole ≡ first
    → ((more : List ℕ) → lines (part ++ more) ≡ lines first ++ lines (rest ++ more))
    → AreLinesRead (Err e) old after part part
bad_part (error.Fault fault) old next after part first rest whole bad one cut =
    λ more. ap (with_more old) (cut more ∙ ap (λ zs. lines zs ++ lines (rest ++ more)) (sym one)) ∙ bad_then old
    (lines whole) (lines (rest ++ more)) fault bad
bad_part error.NoMemory old next after part first rest whole bad one cut = tt

pub part_not_read : (r : Result (Unit {0}) (OrMemory CaptureError)) (e : OrMemory CaptureError)
    (old next after : Reading) (part first rest whole : List ℕ)
    → IsErrAnd r (λ x. x ≡ e) → AreRead (Err e) old next whole → whole ≡ first
    → ((more : List ℕ) → lines (part ++ more) ≡ lines first ++ lines (rest ++ more))
    → AreLinesRead r old after part part
part_not_read (Ok done) e old next after part first rest whole is bad one cut = absurd is
part_not_read (Err x) e old next after part first rest whole is bad one cut =
    let P : OrMemory CaptureError → Type 0 = λ y. AreLinesRead (Err y) old after part part in
    subst P (sym is) (bad_part e old next after part first rest whole bad one cut)

-- An input that isn't a capture.
pub not_captured : (r : Result Capture CaptureFault) (f : CaptureFault) (old new : Option (List ℕ)) (faults later : ℕ)
    → IsErrAnd r (λ x. x ≡ f)
    → TakesAtMost old new 16777217 → IsWhyNot f old faults later → (f ≢ fault.Input input.Read → Unrisen faults later)
    → IsReadAsCapture r old new faults later
not_captured (Ok c) f old new faults later is few why unrisen = absurd is
not_captured (Err x) f old new faults later is few why unrisen = record {
  exact = tt;
  valid = tt;
  end = tt;
  few = few;
  fault = subst (λ (e : CaptureFault). IsWhyNot e old faults later) (sym is) why;
  unrisen = λ not_read. unrisen (λ read. not_read (ap (λ e. Err e) (is ∙ read)));
}

-- The source failed.
pub read_of : {T : Type 0} (e : InputFault) → ◌≡◌ {A = Result T InputFault} (Err e) (Err input.Read) → fault.Input e
    ≡ fault.Input input.Read
read_of e is = let same : e ≡ input.Read = cc is in ap (λ x. fault.Input x) same

grown_whole : (part first rest taken back left : List ℕ) → part ≡ first ++ rest → back ++ left ≡ rest ++ taken → first
    ++ (back ++ left) ≡ part ++ taken
grown_whole part first rest taken back left whole came =
    ap (λ zs. first ++ zs) came ∙ sym (append_assoc first rest taken) ∙ ap (λ zs. zs ++ taken) (sym whole)

-- A text after another is cut after its whole lines.
cut_twice : (part first rest taken back left : List ℕ) → part ≡ first ++ rest
    → ((more : List ℕ) → lines (part ++ more) ≡ lines first ++ lines (rest ++ more)) → back ++ left ≡ rest ++ taken
    → ((more : List ℕ) → lines ((back ++ left) ++ more) ≡ lines back ++ lines (left ++ more)) → (more : List ℕ)
    → lines ((first ++ (back ++ left)) ++ more) ≡ (lines first ++ lines back) ++ lines (left ++ more)
cut_twice part first rest taken back left whole cut came also more =
    ap (λ zs. lines (zs ++ more)) (grown_whole part first rest taken back left whole came)
    ∙ ap lines (append_assoc part taken more)
    ∙ cut (taken ++ more)
    ∙ ap (λ zs. lines first ++ lines zs) (sym (append_assoc rest taken more) ∙ ap (λ zs. zs ++ more) (sym came))
    ∙ ap (λ zs. lines first ++ zs) (also more)
    ∙ sym (append_assoc (lines first) (lines back) (lines (left ++ more)))

lines_of_both : (read : Result (Unit {0}) (OrMemory CaptureError)) (reading next : Reading) (all left : List ℕ)
    (first back : List (List ℕ))
    → ((more : List ℕ) → lines (all ++ more) ≡ (first ++ back) ++ lines (left ++ more))
    → AreLines read reading next (first ++ back)
    → AreLinesRead read reading next all left
lines_of_both (Ok done) reading next all left first back cut is =
    λ more. ap (with_more reading) (cut more) ∙ lead_then reading next (first ++ back) (lines (left ++ more)) is
lines_of_both (Err (error.Fault fault)) reading next all left first back cut is =
    λ more. ap (with_more reading) (cut more) ∙ bad_then reading (first ++ back) (lines (left ++ more)) fault is
lines_of_both (Err error.NoMemory) reading next all left first back cut is = tt

room_of_both : (read : Result (Unit {0}) (OrMemory CaptureError)) (n m k l a b : ℕ) → OnOk read (m ≤ n + a + b) → k
    ≡ l → OnOk read (m + k ≤ n + (a + (b + l)))
room_of_both (Ok done) n m k l a b few is = omega (arith, few, is)
room_of_both (Err e) n m k l a b few is = tt

-- The whole lines of the first bytes were parsed, and those of the bytes after them.
pub round_read : (read : Result (Unit {0}) (OrMemory CaptureError)) (old new : Option (List ℕ))
    (before after : Incoming) (reading next : Reading)
    (first rest back left : List ℕ) → before.part.items ≡ first ++ rest
    → ((more : List ℕ) → lines (before.part.items ++ more) ≡ lines first ++ lines (rest ++ more))
    → Grows old new rest (back ++ left)
    → ((more : List ℕ) → lines ((back ++ left) ++ more) ≡ lines back ++ lines (left ++ more))
    → AreLines read reading next (lines first ++ lines back)
    → OnOk read (next.lines ≤ reading.lines + length first + length back) → after.part.items ≡ left
    → after.count + length rest ≡ before.count + length (back ++ left) → after.count ≤ 16777216
    → IsRead read old new before after reading next
round_read read old new before after reading next first rest back left whole cut grown also is few same sum within =
    let all = first ++ (back ++ left) in
    let P : List ℕ → Type 0 = λ zs. AreLinesRead read reading next all zs in
    let lens : length all ≡ length first + (length back + length left) =
    length-append first (back ++ left) ∙ ap (λ n. length first + n) (length-append back left) in
    let R : ℕ → Type 0 = λ n. OnOk read (next.lines + length after.part.items ≤ reading.lines + n) in
    record {
      all = all;
      grown = (grown.0, grown.1, grown_whole before.part.items first rest grown.0 back left whole grown.2);
      count =
          omega (arith, sum, length-append first (back ++ left), ap (length {A = ℕ}) whole, length-append first rest);
      within = within;
      lines = subst P (sym same) (lines_of_both read reading next all left (lines first) (lines back)
          (cut_twice before.part.items first rest grown.0 back left whole cut grown.2 also) is);
      room = subst R (sym lens)
          (room_of_both read reading.lines next.lines (length after.part.items) (length left) (length first)
          (length back) few
          (ap (length {A = ℕ}) same));
    }

first_is_bad : (e : OrMemory CaptureError) (old next after : Reading) (front back : List ℕ)
    → AreRead (Err e) old next front
    → AreLines (Err e) old after (lines front ++ lines back)
first_is_bad (error.Fault fault) old next after front back bad = bad_then old (lines front) (lines back) fault bad
first_is_bad error.NoMemory old next after front back bad = tt

-- The first of two texts has a fault, or the second has.
pub first_bad : (r : Result (Unit {0}) (OrMemory CaptureError)) (e : OrMemory CaptureError) (old next after : Reading)
    (front back : List ℕ)
    → IsErrAnd r (λ x. x ≡ e) → AreRead (Err e) old next front → AreLines r old after (lines front ++ lines back)
first_bad (Ok done) e old next after front back is bad = absurd is
first_bad (Err x) e old next after front back is bad =
    let P : OrMemory CaptureError → Type 0 = λ y. AreLines (Err y) old after (lines front ++ lines back) in
    subst P (sym is) (first_is_bad e old next after front back bad)

second_is_bad : (e : OrMemory CaptureError) (old mid next after : Reading) (front back : List ℕ)
    → Lead old (lines front) mid
    → AreRead (Err e) mid next back → AreLines (Err e) old after (lines front ++ lines back)
second_is_bad (error.Fault fault) old mid next after front back lead bad =
    lead_then old mid (lines front) (lines back) lead ∙ bad
second_is_bad error.NoMemory old mid next after front back lead bad = tt

pub second_bad : (r : Result (Unit {0}) (OrMemory CaptureError)) (e : OrMemory CaptureError)
    (old mid next after : Reading) (front back : List ℕ)
    → IsErrAnd r (λ x. x ≡ e) → Lead old (lines front) mid → AreRead (Err e) mid next back
    → AreLines r old after (lines front ++ lines back)
second_bad (Ok done) e old mid next after front back is lead bad = absurd is
second_bad (Err x) e old mid next after front back is lead bad =
    let P : OrMemory CaptureError → Type 0 = λ y. AreLines (Err y) old after (lines front ++ lines back) in
    subst P (sym is) (second_is_bad e old mid next after front back lead bad)
