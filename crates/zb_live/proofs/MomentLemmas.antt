-- The moments of a session, line after line.
use Rattle.std.proofs.Common.{◌≡◌, ℕ, zero, suc, inl, inr, List, [], ◌∷◌, ◌++◌, length, take, Option, Some, refl, sym, ap, ◌∙◌, subst, append_assoc, append-nil}
use Rattle.std.proofs.KnownBytes.{Appends-nil, Appends-trans}
use Rattle.std.specs.Io.KnownBytes.{Appends}
use Rattle.zb_base.specs.Outside.{AppendsFront, risen}
use Rattle.zb_centre_store.specs.Outside.{Outside}
use Rattle.zb_disk.proofs.Moments.{weakened}
use Rattle.zb_disk.specs.View.{View, LeavesOnly}
use Rattle.zb_live.specs.Alive.{CrashLeaves, LeavesEither}
use Rattle.zb_live.specs.Living.{Done, Found, Living, done, fresh, served}
use Rattle.zb_live.specs.Moments.{AnsweredFirst, Covers, Goes, Input, Moment, Stretch, calls, reads, writes}
use Rattle.zb_model.specs.Data.{Bytes}

-- ---- prefixes of what is written

take_front : (xs ys : Bytes) (n : ℕ) → (m : ℕ) × (take m (xs ++ ys) ≡ take n xs)
take_front [] ys zero = (0, refl)
take_front [] ys (suc n) = (0, refl)
take_front (x ∷ xs) ys zero = (0, refl)
take_front (x ∷ xs) ys (suc n) = let r = take_front xs ys n in (suc r.0, ap (λ l. x ∷ l) r.1)

take_behind : (xs ys : Bytes) (n : ℕ) → (m : ℕ) × (take m (xs ++ ys) ≡ xs ++ take n ys)
take_behind [] ys n = (n, refl)
take_behind (x ∷ xs) ys n = let r = take_behind xs ys n in (suc r.0, ap (λ l. x ∷ l) r.1)

pub front_within : (a b : Option Bytes) (xs ys : Bytes) → AppendsFront a b xs → AppendsFront a b (xs ++ ys)
front_within a b xs ys f = let r = take_front xs ys f.0 in (r.0, subst (Appends a b) (sym r.1) f.1)

pub front_behind : (a b c : Option Bytes) (xs ys : Bytes) → Appends a b xs → AppendsFront b c ys
    → AppendsFront a c (xs ++ ys)
front_behind a b c xs ys first f = let r =
    take_behind xs ys f.0 in (r.0, subst (Appends a c) (sym r.1) (Appends-trans a b c xs (take f.0 ys) first f.1))

all_taken : (xs : Bytes) → take (length xs) xs ≡ xs
all_taken [] = refl
all_taken (y ∷ ys) = ap (λ l. y ∷ l) (all_taken ys)

pub front_of_all : (a b : Option Bytes) (text : Bytes) → Appends a b text → AppendsFront a b text
front_of_all a b text h = (length text, subst (Appends a b) (sym (all_taken text)) h)

-- ---- one line more

pub served_on : (found : Found) (front : List Bytes) (line : Bytes) (v : Living)
    → (served found (front ++ line ∷ []) v).after ≡ (done found line (served found front v).after).after
served_on found [] line v = refl
served_on found (l ∷ front) line v = served_on found front line (done found l v).after

pub text_on : (found : Found) (front : List Bytes) (line : Bytes) (v : Living)
    → (served found (front ++ line ∷ []) v).text ≡ (served found front v).text
    ++ (done found line (served found front v).after).text
text_on found [] line v = append-nil (done found line v).text
text_on found (l ∷ front) line v =
    ap (λ t. (done found l v).text ++ t) (text_on found front line (done found l v).after)
    ∙ sym (append_assoc (done found l v).text (served found front (done found l v).after).text
    (done found line (served found front (done found l v).after).after).text)

-- ---- stretches

module _ {D W : Type 0} (x : Outside D W) (found : Found) (first : View) (input : Input) (before : W) where
  covers_more : (lines more : List Bytes) (out : W) (image : List ℕ) → Covers x found first lines before out image
      → Covers x found first (lines ++ more) before out image
  covers_more lines more out image c = record {
    taken = c.taken;
    more = c.more ++ more;
    split = sym (append_assoc c.taken c.more more) ∙ ap (λ l. l ++ more) c.split;
    holds = c.holds;
    written = c.written;
  }

  stretch_more : (lines more : List Bytes) (now next : Moment D W) → Stretch x found first input lines before now next
      → Stretch x found first input (lines ++ more) before now next
  stretch_more lines more now next (calls same unread leaves) =
      calls same unread
      (weakened (x.state now.disk) (x.state next.disk) (Covers x found first lines before next.out)
      (Covers x found first (lines ++ more) before next.out) (covers_more lines more next.out) leaves)
  stretch_more lines more now next (writes text same unread front each) =
      writes text same unread front (λ image there. covers_more lines more next.out image (each image there))
  stretch_more lines more now next (reads same unwritten once first_answered) =
      reads same unwritten once first_answered

  goes_more : (lines more : List Bytes) (now : Moment D W) (between : List (Moment D W)) (last : Moment D W)
      → Goes x found first input lines before now between last → Goes x found first input (lines ++ more) before now
      between last
  goes_more lines more now [] last same = same
  goes_more lines more now (next ∷ rest) last (stretch, goes) =
      (stretch_more lines more now next stretch, goes_more lines more next rest last goes)

  goes_on : (lines : List Bytes) (now : Moment D W) (between : List (Moment D W)) (mid next : Moment D W)
      → Goes x found first input lines before now between mid → Stretch x found first input lines before mid next
      → Goes x found first input lines before now (between ++ next ∷ []) next
  goes_on lines now [] mid next same stretch =
      (subst (λ (m : Moment D W). Stretch x found first input lines before m next) same stretch, refl)
  goes_on lines now (step ∷ rest) mid next (one, goes) stretch = (one, goes_on lines step rest mid next goes stretch)

  -- the moments at the beginning and now
  abbrev pub begun : D → Moment D W
  begun old = record { disk = old; out = before; input = input }

  abbrev pub present : D → W → Input → Moment D W
  present disk out rest = record { disk = disk; out = out; input = rest }

  -- These lines were served so far: the session is the one after them, and what they write was written.
  pub record SoFar (lines : List Bytes) (v : Living) (old disk : D) (out : W) (rest : Input) : Type 0 where
    pub session : v ≡ (served found lines fresh).after
    pub written : Appends (x.taken before) (x.taken out) (served found lines fresh).text
    pub between : List (Moment D W)
    pub goes : Goes x found first input lines before (begun old) between (present disk out rest)

  pub nothing_yet : (old : D) → SoFar [] fresh old old before input
  nothing_yet old = record { session = refl; written = Appends-nil (x.taken before); between = []; goes = refl }

  -- the input was read, once the lines were answered
  pub read_more : (lines : List Bytes) (v : Living) (old disk : D) (out : W) (rest next : Input)
      → SoFar lines v old disk out rest → next.calls ≡ risen rest.calls 1
      → ((all : Bytes) → input.rest ≡ Some all → AnsweredFirst x found all before (present disk out rest)
      (present disk out next)) → SoFar lines v old disk out next
  read_more lines v old disk out rest next s once answered = record {
    session = s.session;
    written = s.written;
    between = s.between ++ present disk out next ∷ [];
    goes = goes_on lines (begun old) s.between (present disk out rest) (present disk out next) s.goes
        (reads refl refl once answered);
  }

  module _ (lines : List Bytes) (line : Bytes) (v : Living) (old disk : D) (out : W) (rest : Input)
      (so_far : SoFar lines v old disk out rest) where
    abbrev pub d : Done
    d = done found line v

    abbrev pub longer : List Bytes
    longer = lines ++ line ∷ []

    after_is : d.after ≡ (served found longer fresh).after
    after_is = ap (λ (w : Living). (done found line w).after) so_far.session ∙ sym (served_on found lines line fresh)

    text_is : (served found longer fresh).text ≡ (served found lines fresh).text ++ d.text
    text_is =
        text_on found lines line fresh ∙ ap
        (λ (w : Living). (served found lines fresh).text ++ (done found line w).text) (sym so_far.session)

    -- what a crash leaves while the disk is called for the line
    covers_either : (image : List ℕ) → LeavesEither first v.tables d.after.tables image
        → Covers x found first longer before out image
    covers_either image (inl holds) = record {
      taken = lines;
      more = line ∷ [];
      split = refl;
      holds = subst (λ (w : Living). CrashLeaves first w.tables image) so_far.session holds;
      written = front_of_all (x.taken before) (x.taken out) (served found lines fresh).text so_far.written;
    }
    covers_either image (inr holds) = record {
      taken = longer;
      more = [];
      split = append-nil longer;
      holds = subst (λ (w : Living). CrashLeaves first w.tables image) after_is holds;
      written = subst (AppendsFront (x.taken before) (x.taken out)) (sym text_is)
          (front_within (x.taken before) (x.taken out) (served found lines fresh).text d.text
          (front_of_all (x.taken before) (x.taken out) (served found lines fresh).text so_far.written));
    }

    -- ... and while what it writes is written
    covers_after : (sink : W) → AppendsFront (x.taken out) (x.taken sink) d.text → (image : List ℕ)
        → CrashLeaves first d.after.tables image → Covers x found first longer before sink image
    covers_after sink front image holds = record {
      taken = longer;
      more = [];
      split = append-nil longer;
      holds = subst (λ (w : Living). CrashLeaves first w.tables image) after_is holds;
      written = subst (AppendsFront (x.taken before) (x.taken sink)) (sym text_is)
          (front_behind (x.taken before) (x.taken out) (x.taken sink) (served found lines fresh).text d.text
          so_far.written front);
    }

    abbrev pub Way : D → W → Type 0
    Way disk2 out2 = (between : List (Moment D W)) × Goes x found first input longer before (begun old) between
        (present disk2 out2 rest)

    -- the disk was called for the line
    pub called : (disk2 : D) → LeavesOnly (x.state disk) (x.state disk2) (LeavesEither first v.tables d.after.tables)
        → Way disk2 out
    called disk2 leaves = (
      so_far.between ++ present disk2 out rest ∷ [],
      goes_on longer (begun old) so_far.between (present disk out rest) (present disk2 out rest)
          (goes_more lines (line ∷ []) (begun old) so_far.between (present disk out rest) so_far.goes)
          (calls refl refl
          (weakened (x.state disk) (x.state disk2) (LeavesEither first v.tables d.after.tables)
          (Covers x found first longer before out) covers_either leaves)),
    )

    -- and then a prefix of what it writes was written
    pub told : (disk2 : D) (sink : W)
        → LeavesOnly (x.state disk) (x.state disk2) (LeavesEither first v.tables d.after.tables)
        → AppendsFront (x.taken out) (x.taken sink) d.text
        → ((image : List ℕ) → (x.state disk2).images image → CrashLeaves first d.after.tables image) → Way disk2 sink
    told disk2 sink leaves front holds =
        let way = called disk2 leaves in (
          way.0 ++ present disk2 sink rest ∷ [],
          goes_on longer (begun old) way.0 (present disk2 out rest) (present disk2 sink rest) way.1
              (writes d.text refl refl front (λ image there. covers_after sink front image (holds image there))),
        )

    -- all of it was
    pub one_more : (v2 : Living) (disk2 : D) (sink : W)
        → LeavesOnly (x.state disk) (x.state disk2) (LeavesEither first v.tables d.after.tables)
        → Appends (x.taken out) (x.taken sink) d.text
        → ((image : List ℕ) → (x.state disk2).images image → CrashLeaves first d.after.tables image) → v2 ≡ d.after
        → SoFar longer v2 old disk2 sink rest
    one_more v2 disk2 sink leaves text holds is =
        let way = told disk2 sink leaves (front_of_all (x.taken out) (x.taken sink) d.text text) holds in record {
          session = is ∙ after_is;
          written = subst (Appends (x.taken before) (x.taken sink)) (sym text_is)
              (Appends-trans (x.taken before) (x.taken out) (x.taken sink) (served found lines fresh).text d.text
              so_far.written text);
          between = way.0;
          goes = way.1;
        }

    -- what was written when the session ends at the line
    pub front_cut : (sink : W) → AppendsFront (x.taken out) (x.taken sink) d.text
        → AppendsFront (x.taken before) (x.taken sink) (served found longer fresh).text
    front_cut sink front = subst (AppendsFront (x.taken before) (x.taken sink)) (sym text_is)
        (front_behind (x.taken before) (x.taken out) (x.taken sink) (served found lines fresh).text d.text
        so_far.written front)

    pub nothing_cut : AppendsFront (x.taken before) (x.taken out) (served found longer fresh).text
    nothing_cut = subst (AppendsFront (x.taken before) (x.taken out)) (sym text_is)
        (front_within (x.taken before) (x.taken out) (served found lines fresh).text d.text
        (front_of_all (x.taken before) (x.taken out) (served found lines fresh).text so_far.written))
