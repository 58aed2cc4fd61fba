-- The keys that a look newly finds are learnt like all keys that it finds: those of frames with kept lines were
-- learnt before.
use Rattle.std.proofs.Common.{◌≡◌, ℕ, ◌+◌, ◌≤◌, List, [], ◌∷◌, ◌++◌, length, take, refl, ap, sym, ◌∙◌, subst, append-nil, append_assoc, Bool, true, false, ◌&&◌, if◌then◌else◌, Some}
use Rattle.std.specs.List.{AllByRecursion, list_all}
use Rattle.std.proofs.lemmas.List.{map-append, length-map}
use Rattle.arrayvec.specs.ArrayVec.{ArrayVec}
use Rattle.zb_base.specs.declared.address.Eui.{Eui}
use Rattle.zb_base.specs.declared.address.Short.{Short}
use Rattle.zb_base.specs.declared.key.Key.{Key}
use Rattle.zb_inspect_frame.specs.Settling.{is_settled}
use Rattle.zb_inspect_frame.specs.Shows.{frame_shown}
use Rattle.zb_inspect_frame.specs.declared.shown.Shown.{Shown}
use Rattle.zb_inspect_frame.proofs.SettledFrames.{settled_same}
use Rattle.zb_inspect.specs.Pieces.{all_frames, all_fresh, frames_in, fresh, found_in, new_leads, Numbered, MayStandFor, AllSee, IsUnseen, IsWithin, is_nothing}
use Rattle.zb_inspect.specs.Rings.{has_key, leads, frames_shown, learnt}
use Rattle.zb_inspect.specs.declared.block.Block.{Block}
use Rattle.zb_inspect.specs.declared.block.Seen.{Seen}
use Rattle.zb_inspect.specs.declared.block.Seen.TheVariants.{Nothing, Unopened, Lines, Whole}
use Rattle.zb_inspect.specs.declared.key_ring.Lead.{Lead}
use Rattle.zb_inspect.specs.declared.key_ring.RingKey.{RingKey}
use Rattle.zb_inspect.proofs.Bound.{AllKnown, known_split, known_more}
use Rattle.zb_inspect.proofs.PieceLists.{frames_count, leads_append, learnt_append}
use Rattle.zb_inspect.proofs.RingLaws.{learnt_grows}

-- What is found in a block was learnt, if its lines are kept.
abbrev pub IsLearnt : List RingKey → List Lead → Seen → Type 0
IsLearnt ring found Nothing = Unit {0}
IsLearnt ring found Unopened = Unit {0}
IsLearnt ring found (Lines text) = AllKnown ring found
IsLearnt ring found (Whole kept) = Unit {0}

abbrev pub AllLearnt : List RingKey → List (ArrayVec ℕ) → List (Short × Eui) → List Key → List Block → Type 0
AllLearnt ring frames addrs keys blocks =
    AllByRecursion (λ (b : Block). IsLearnt ring (leads b.first (found_in frames addrs keys b)) b.seen) blocks

unlearnt : (ring : List RingKey) (found : List Lead) (seen : Seen) → is_nothing seen ≡ true → IsLearnt ring found seen
unlearnt ring found Nothing e = tt
unlearnt ring found Unopened e = cc
unlearnt ring found (Lines text) e = cc
unlearnt ring found (Whole kept) e = tt

pub all_unlearnt : (ring : List RingKey) (frames : List (ArrayVec ℕ)) (addrs : List (Short × Eui)) (keys : List Key)
    (blocks : List Block) → AllByRecursion IsUnseen blocks
    → AllLearnt ring frames addrs keys blocks
all_unlearnt ring frames addrs keys [] all = tt
all_unlearnt ring frames addrs keys (b ∷ blocks) all = (
  unlearnt ring (leads b.first (found_in frames addrs keys b)) b.seen all.0,
  all_unlearnt ring frames addrs keys
      blocks all.1,
)

known_learnt : (ring : List RingKey) (found : List Lead) (seen : Seen) → AllKnown ring found → IsLearnt ring found seen
known_learnt ring found Nothing known = tt
known_learnt ring found Unopened known = tt
known_learnt ring found (Lines text) known = known
known_learnt ring found (Whole kept) known = tt

learnt_more : (ring now : List RingKey) (found : List Lead) (seen : Seen) → (more : List RingKey)
    × (now ≡ ring ++ more) → IsLearnt ring found seen
    → IsLearnt now found seen
learnt_more ring now found Nothing grown was = tt
learnt_more ring now found Unopened grown was = tt
learnt_more ring now found (Lines text) grown was =
    let P : List RingKey → Type 0 = λ r. AllKnown r found in subst P (sym grown.1) (known_more ring grown.0 found was)
learnt_more ring now found (Whole kept) grown was = tt

-- Keys that are known are not learnt again.
kept_ring : (b : Bool) (ring : List RingKey) (k : RingKey) → b ≡ true → (if b then ring else ring ++ k ∷ []) ≡ ring
kept_ring true ring k e = refl
kept_ring false ring k e = cc

learnt_none : (round : ℕ) (ring : List RingKey) (xs : List Lead) → AllKnown ring xs → learnt round ring xs ≡ ring
learnt_none round ring [] known = refl
learnt_none round ring (x ∷ xs) known =
    ap (λ r. learnt round r xs)
    (kept_ring (has_key ring x.key) ring (record { key = x.key; found = Some (x.frame, round) }) known.0)
    ∙ learnt_none round ring xs known.1

-- Frames with no closed layer show the same under further keys.
pub both_true : (a b : Bool) → (a && b) ≡ true → (a ≡ true) × (b ≡ true)
both_true true b e = (refl, e)
both_true false b e = cc

pub settled_frames : (known : ℕ) (addrs : List (Short × Eui)) (keys : List Key) (frames : List (ArrayVec ℕ)) → known
    ≤ length keys
    → list_all is_settled (frames_shown addrs (take known keys) frames) ≡ true → frames_shown addrs keys frames
    ≡ frames_shown addrs (take known keys) frames
settled_frames known addrs keys [] within all = refl
settled_frames known addrs keys (f ∷ frames) within all =
    let parts = both_true (is_settled (frame_shown addrs (take known keys) f.items))
    (list_all is_settled (frames_shown addrs (take known keys) frames)) all in
    ap (λ s. s ∷ frames_shown addrs keys frames) (settled_same known addrs keys f.items within parts.0)
    ∙ ap (λ zs. frame_shown addrs (take known keys) f.items ∷ zs)
    (settled_frames known addrs keys frames within parts.1)

fresh_seen : (round : ℕ) (now : List RingKey) (first : ℕ) (old found : List Shown) (seen : Seen)
    → (list_all is_settled old ≡ true → found ≡ old)
    → MayStandFor first old seen → IsLearnt now (leads first old) seen
    → learnt round now (new_leads (leads first found) seen) ≡ learnt round now (leads first found)
fresh_seen round now first old found Nothing same may known = refl
fresh_seen round now first old found Unopened same may known = refl
fresh_seen round now first old found (Lines text) same may known =
    sym (ap (λ f. learnt round now (leads first f)) (same may.1) ∙ learnt_none round now (leads first old) known)
fresh_seen round now first old found (Whole kept) same may known = refl

-- The keys of a block, and then those of others.
both_led : (frames : List (ArrayVec ℕ)) (addrs : List (Short × Eui)) (keys : List Key) (frame : ℕ) (b : Block)
    (blocks : List Block) → b.first ≡ frame
    → IsWithin (length frames) b
    → leads frame (frames_shown addrs keys (frames_in frames b ++ all_frames frames blocks))
    ≡ leads b.first (found_in frames addrs keys b)
    ++ leads (frame + b.count) (frames_shown addrs keys (all_frames frames blocks))
both_led frames addrs keys frame b blocks is within =
    let found = found_in frames addrs keys b in
    let more = frames_shown addrs keys (all_frames frames blocks) in
    ap (leads frame) (map-append _ (frames_in frames b) (all_frames frames blocks)) ∙ leads_append frame found more
    ∙ ap (λ n. leads n found ++ leads (frame + length found) more) (sym is)
    ∙ ap (λ n. leads b.first found ++ leads (frame + n) more)
    (length-map (frames_in frames b) _ ∙ frames_count frames b within)

fresh_from : (round : ℕ) (frames : List (ArrayVec ℕ)) (addrs : List (Short × Eui)) (keys : List Key) (known frame : ℕ)
    (blocks : List Block)
    (ring now : List RingKey) → (more : List RingKey) × (now ≡ ring ++ more) → known ≤ length keys
    → Numbered frame blocks
    → AllByRecursion (IsWithin (length frames)) blocks → AllSee frames addrs (take known keys) blocks
    → AllLearnt ring frames addrs (take known keys) blocks
    → learnt round now (all_fresh frames addrs keys blocks)
    ≡ learnt round now (leads frame (frames_shown addrs keys (all_frames frames blocks)))
fresh_from round frames addrs keys known frame [] ring now grown few numbers within seen were = refl
fresh_from round frames addrs keys known frame (b ∷ blocks) ring now grown few numbers within seen were =
    let here = leads b.first (found_in frames addrs keys b) in
    let old = found_in frames addrs (take known keys) b in
    let rest = leads (frame + b.count) (frames_shown addrs keys (all_frames frames blocks)) in
    let step = learnt_grows round now here in
    let next = learnt round now here in
    learnt_append round now (fresh frames addrs keys b) (all_fresh frames addrs keys blocks)
    ∙ ap (λ r. learnt round r (all_fresh frames addrs keys blocks))
    (fresh_seen round now b.first old (found_in frames addrs keys b) b.seen
    (settled_frames known addrs keys (frames_in frames b) few) seen.0
    (learnt_more ring now (leads b.first old) b.seen grown were.0))
    ∙ fresh_from round frames addrs keys known (frame + b.count) blocks ring next
    (grown.0 ++ step.0, step.1 ∙ ap (λ r. r ++ step.0) grown.1 ∙ append_assoc ring grown.0 step.0) few numbers.1
    within.1 seen.1 were.1
    ∙ sym (learnt_append round now here rest)
    ∙ ap (learnt round now) (sym (both_led frames addrs keys frame b blocks numbers.0 within.0))

pub fresh_learnt : (round : ℕ) (frames : List (ArrayVec ℕ)) (addrs : List (Short × Eui)) (keys : List Key)
    (known frame : ℕ) (blocks : List Block)
    (ring : List RingKey) → known ≤ length keys → Numbered frame blocks
    → AllByRecursion (IsWithin (length frames)) blocks
    → AllSee frames addrs (take known keys) blocks → AllLearnt ring frames addrs (take known keys) blocks
    → learnt round ring (all_fresh frames addrs keys blocks)
    ≡ learnt round ring (leads frame (frames_shown addrs keys (all_frames frames blocks)))
fresh_learnt round frames addrs keys known frame blocks ring few numbers within seen were =
    fresh_from round frames addrs keys known frame blocks ring ring ([], sym (append-nil ring)) few numbers within
    seen were

pub learnt_blocks : (ring : List RingKey) (frames : List (ArrayVec ℕ)) (addrs : List (Short × Eui)) (keys : List Key)
    (frame : ℕ) (blocks : List Block)
    → Numbered frame blocks → AllByRecursion (IsWithin (length frames)) blocks
    → AllKnown ring (leads frame (frames_shown addrs keys (all_frames frames blocks)))
    → AllLearnt ring frames addrs keys blocks
learnt_blocks ring frames addrs keys frame [] numbers within known = tt
learnt_blocks ring frames addrs keys frame (b ∷ blocks) numbers within known =
    let here = leads b.first (found_in frames addrs keys b) in
    let rest = leads (frame + b.count) (frames_shown addrs keys (all_frames frames blocks)) in
    let P : List Lead → Type 0 = λ ls. AllKnown ring ls in
    let parts =
    known_split ring here rest (subst P (both_led frames addrs keys frame b blocks numbers.0 within.0) known) in (
      known_learnt ring here b.seen parts.0,
      learnt_blocks ring frames addrs keys (frame + b.count) blocks numbers.1
          within.1 parts.1,
    )
