-- A block at a later look, and lists of blocks of which the first were looked at again.
use Rattle.std.proofs.Common.{◌≡◌, ℕ, ◌+◌, ◌<◌, ◌≤◌, List, [], ◌∷◌, ◌++◌, refl, length, get_or, take, ap, sym, ◌∙◌, subst, append_assoc, true, Vec, Global}
use Rattle.std.specs.List.{AllByRecursion, list_all}
use Rattle.std.specs.Prelude.{slice_set}
use Rattle.arrayvec.specs.ArrayVec.{ArrayVec}
use Rattle.zb_base.specs.declared.address.Eui.{Eui}
use Rattle.zb_base.specs.declared.address.Short.{Short}
use Rattle.zb_base.specs.declared.key.Key.{Key}
use Rattle.zb_inspect_frame.specs.Lines.{frames_text}
use Rattle.zb_inspect_frame.specs.Settling.{is_settled, is_unopened}
use Rattle.zb_inspect_frame.specs.Shows.{frame_shown}
use Rattle.zb_inspect_frame.proofs.UnopenedFrames.{unopened_same}
use Rattle.zb_inspect.specs.Pieces.{all_fresh, frames_in, fresh, found_in, IsNext, MayStandFor, StandsFor, SameFrames, Sees, IsShown}
use Rattle.zb_inspect.specs.declared.block.Block.{Block}
use Rattle.zb_inspect.specs.declared.block.Seen.{Seen}
use Rattle.zb_inspect.specs.declared.block.Seen.TheVariants.{Lines}
use Rattle.zb_inspect.specs.declared.key_ring.Lead.{Lead}
use Rattle.zb_inspect.specs.Rings.{frames_shown}
use Rattle.zb_inspect.proofs.FreshLeads.{both_true, settled_frames}
use Rattle.zb_inspect.proofs.Lists.{Half, half_get, half_more, all_at, flat_next}

-- Kept lines are those under further keys.
pub lines_stay : (known : ℕ) (frames : List (ArrayVec ℕ)) (addrs : List (Short × Eui)) (keys : List Key) (b : Block)
    (lines : Vec ℕ Global) → known ≤ length keys
    → Lines lines ≡ b.seen → Sees frames addrs (take known keys) b → StandsFor b.first (found_in frames addrs keys b)
    (Lines lines)
lines_stay known frames addrs keys b lines within is seen =
    let P : Seen → Type 0 = λ s. MayStandFor b.first (found_in frames addrs (take known keys) b) s in
    let may = subst P (sym is) seen in
    let same = settled_frames known addrs keys (frames_in frames b) within may.1 in
    (may.0 ∙ ap (frames_text b.first) (sym same), ap (list_all is_settled) same ∙ may.1)

-- Frames that no key opened show what they show under no keys.
pub unopened_frames : (addrs : List (Short × Eui)) (keys : List Key) (frames : List (ArrayVec ℕ))
    → list_all is_unopened (frames_shown addrs keys frames) ≡ true
    → frames_shown addrs [] frames ≡ frames_shown addrs keys frames
unopened_frames addrs keys [] all = refl
unopened_frames addrs keys (f ∷ frames) all =
    let parts = both_true (is_unopened (frame_shown addrs keys f.items))
    (list_all is_unopened (frames_shown addrs keys frames)) all in
    ap (λ s. s ∷ frames_shown addrs [] frames) (sym (unopened_same addrs keys f.items parts.0))
    ∙ ap (λ zs. frame_shown addrs keys f.items ∷ zs) (unopened_frames addrs keys frames parts.1)

-- One more block that is looked at.
pub next_half : (frames : List (ArrayVec ℕ)) (addrs : List (Short × Eui)) (keys : List Key) (i : ℕ)
    (old now : List Block) (d y : Block) → i < length old
    → Half (IsNext frames addrs keys) i old now → SameFrames (get_or now i d) y → IsShown frames addrs keys y
    → Half (IsNext frames addrs keys) (i + 1) old (slice_set now i y)
next_half frames addrs keys i old now d y within half same shown =
    let P : Block → Type 0 = λ b. SameFrames b y in
    half_more (IsNext frames addrs keys) i old now d y within half
    (subst P (half_get (IsNext frames addrs keys) i old now d within half) same, shown)

pub next_fresh : (frames : List (ArrayVec ℕ)) (addrs : List (Short × Eui)) (keys : List Key) (i : ℕ)
    (old now : List Block) (d : Block) (before so_far after : List Lead) → i < length old
    → Half (IsNext frames addrs keys) i old now → so_far ≡ before ++ all_fresh frames addrs keys (take i old) → after
    ≡ so_far ++ fresh frames addrs keys (get_or now i d)
    → after ≡ before ++ all_fresh frames addrs keys (take (i + 1) old)
next_fresh frames addrs keys i old now d before so_far after within half was is =
    is ∙ ap (λ zs. zs ++ fresh frames addrs keys (get_or now i d)) was
    ∙ ap (λ b. before ++ all_fresh frames addrs keys (take i old) ++ fresh frames addrs keys b)
    (half_get (IsNext frames addrs keys) i old now d within half)
    ∙ append_assoc before (all_fresh frames addrs keys (take i old)) (fresh frames addrs keys (get_or old i d))
    ∙ ap (λ zs. before ++ zs) (sym (flat_next (fresh frames addrs keys) old i d within))

-- What the next block was before any was looked at.
pub still : (P : Block → Type 0) (frames : List (ArrayVec ℕ)) (addrs : List (Short × Eui)) (keys : List Key) (i : ℕ)
    (old now : List Block) (d : Block) → i < length old
    → Half (IsNext frames addrs keys) i old now → AllByRecursion P old → P (get_or now i d)
still P frames addrs keys i old now d within half all =
    subst P (sym (half_get (IsNext frames addrs keys) i old now d within half)) (all_at P old i d within all)
