-- Frames that are cut into consecutive pieces of work, and pieces that are cut into blocks.
use Rattle.std.specs.Prelude.{◌≡◌, ℕ, ◌+◌, ◌-◌, ◌<◌, ◌≤◌, ◌^◌, min, List, [], ◌∷◌, ◌++◌, length, take, drop, Bool, true, false}
use Rattle.std.specs.List.{AllByRecursion, flat_map, list_all}
use Rattle.arrayvec.specs.ArrayVec.{ArrayVec}
use Rattle.zb_base.specs.declared.address.Eui.{Eui}
use Rattle.zb_base.specs.declared.address.Short.{Short}
use Rattle.zb_base.specs.declared.key.Key.{Key}
use Rattle.zb_capture.specs.declared.capture.Capture.{Capture}
use Rattle.zb_inspect_frame.specs.Lines.{frames_text, unopened_text}
use Rattle.zb_inspect_frame.specs.Settling.{is_settled, is_unopened}
use Rattle.zb_inspect_frame.specs.declared.shown.Shown.{Shown}
use Rattle.zb_inspect.specs.Rings.{leads, frames_shown}
use Rattle.zb_inspect.specs.declared.block.Block.{Block}
use Rattle.zb_inspect.specs.declared.block.Seen.{Seen}
use Rattle.zb_inspect.specs.declared.block.Seen.TheVariants.{Nothing, Unopened, Lines, Whole}
use Rattle.zb_inspect.specs.declared.piece.Piece.{Piece}
use Rattle.zb_inspect.specs.declared.key_ring.Lead.{Lead}
use Rattle.zb_parallel.specs.declared.share.Share.{Share}

-- The blocks of pieces, one piece after the other.
abbrev pub all_blocks : List Piece → List Block
all_blocks pieces = flat_map (λ (piece : Piece). piece.blocks.items) pieces

abbrev pub all_leads : List Piece → List Lead
all_leads pieces = flat_map (λ (piece : Piece). piece.leads.items) pieces

-- The frames of a block, among those of a capture; and those of blocks, one block after the other.
abbrev pub frames_in : List (ArrayVec ℕ) → Block → List (ArrayVec ℕ)
frames_in frames block = take block.count (drop (block.first - 1) frames)

abbrev pub all_frames : List (ArrayVec ℕ) → List Block → List (ArrayVec ℕ)
all_frames frames blocks = flat_map (frames_in frames) blocks

-- The blocks are consecutive. The first one has the number `frame`.
abbrev pub Numbered : ℕ → List Block → Type 0
Numbered frame [] = Unit {0}
Numbered frame (block ∷ more) = (block.first ≡ frame) × Numbered (frame + block.count) more

abbrev pub count_of : List Block → ℕ
count_of [] = 0
count_of (block ∷ more) = block.count + count_of more

-- Pieces, numbered from `number` on, that have the frames that are left. Each has `size` of them, and the last one
-- the rest. If no frame is left there is no piece.
abbrev pub AreSized : ℕ → ℕ → ℕ → List Piece → Type 0
AreSized size number left [] = left ≡ 0
AreSized size number left (piece ∷ more) =
    (piece.number ≡ number) × (0 < left) × (count_of piece.blocks.items ≡ min size left)
    × AreSized size (number + 1) (left - min size left) more

-- The block is within the first `frames` frames.
pub record IsWithin (frames : ℕ) (block : Block) : Type 0 where
  pub first : 1 ≤ block.first
  pub last : block.first + block.count ≤ frames + 1

-- What is kept for frames, of which the first has the number `first`. `found` is what they show. If no key opened the
-- NWK layer of any of them, nothing is kept. If no layer of any of them is closed, the lines of a report are kept.
-- Else everything is kept.
abbrev pub StandsFor : ℕ → List Shown → Seen → Type 0
StandsFor first found Nothing = ⊥
StandsFor first found Unopened = list_all is_unopened found ≡ true
StandsFor first found (Lines text) = (text.items ≡ frames_text first found) × (list_all is_settled found ≡ true)
StandsFor first found (Whole kept) = kept.items ≡ found

-- The same for frames that may not have been looked at yet.
abbrev pub MayStandFor : ℕ → List Shown → Seen → Type 0
MayStandFor first found Nothing = Unit {0}
MayStandFor first found Unopened = StandsFor first found Unopened
MayStandFor first found (Lines text) = StandsFor first found (Lines text)
MayStandFor first found (Whole kept) = StandsFor first found (Whole kept)

abbrev pub found_in : List (ArrayVec ℕ) → List (Short × Eui) → List Key → Block → List Shown
found_in frames addrs keys block = frames_shown addrs keys (frames_in frames block)

-- What the frames of a block show under the keys. They may not have been looked at yet.
abbrev pub Sees : List (ArrayVec ℕ) → List (Short × Eui) → List Key → Block → Type 0
Sees frames addrs keys block = MayStandFor block.first (found_in frames addrs keys block) block.seen

-- What the frames of a block show under the keys.
abbrev pub IsShown : List (ArrayVec ℕ) → List (Short × Eui) → List Key → Block → Type 0
IsShown frames addrs keys block = StandsFor block.first (found_in frames addrs keys block) block.seen

abbrev pub AllSee : List (ArrayVec ℕ) → List (Short × Eui) → List Key → List Block → Type 0
AllSee frames addrs keys blocks = AllByRecursion (Sees frames addrs keys) blocks

abbrev pub AreShown : List (ArrayVec ℕ) → List (Short × Eui) → List Key → List Block → Type 0
AreShown frames addrs keys blocks = AllByRecursion (IsShown frames addrs keys) blocks

abbrev pub is_nothing : Seen → Bool
is_nothing Nothing = true
is_nothing Unopened = false
is_nothing (Lines text) = false
is_nothing (Whole kept) = false

abbrev pub IsUnseen : Block → Type 0
IsUnseen block = is_nothing block.seen ≡ true

-- The first item of a share is one of `items`.
abbrev pub IsShareWithin : ℕ → Share → Type 0
IsShareWithin items share = share.first < items

-- A piece that has the frames of a share. It was not looked at yet.
pub record HasShare (share : Share) (piece : Piece) : Type 0 where
  pub number : piece.number ≡ share.number
  pub numbers : Numbered (share.first + 1) piece.blocks.items
  pub count : count_of piece.blocks.items ≡ share.count
  pub unseen : AllByRecursion IsUnseen piece.blocks.items

-- The keys that a look at a block newly finds. Those of frames with kept lines were found before.
abbrev pub new_leads : List Lead → Seen → List Lead
new_leads found Nothing = found
new_leads found Unopened = found
new_leads found (Lines text) = []
new_leads found (Whole kept) = found

abbrev pub fresh : List (ArrayVec ℕ) → List (Short × Eui) → List Key → Block → List Lead
fresh frames addrs keys block = new_leads (leads block.first (found_in frames addrs keys block)) block.seen

abbrev pub all_fresh : List (ArrayVec ℕ) → List (Short × Eui) → List Key → List Block → List Lead
all_fresh frames addrs keys blocks = flat_map (fresh frames addrs keys) blocks

-- The same frames.
pub record SameFrames (old new : Block) : Type 0 where
  pub first : new.first ≡ old.first
  pub count : new.count ≡ old.count

-- A block that was looked at under the keys.
abbrev pub IsNext : List (ArrayVec ℕ) → List (Short × Eui) → List Key → Block → Block → Type 0
IsNext frames addrs keys old new = SameFrames old new × IsShown frames addrs keys new

-- A piece that was looked at under the keys, with the keys that were found. It has the same frames, in the same blocks
-- or in others.
pub record IsNextPiece (frames : List (ArrayVec ℕ)) (addrs : List (Short × Eui)) (keys : List Key) (old new : Piece) :
    Type 0 where
  pub number : new.number ≡ old.number
  pub numbers : (frame : ℕ) → Numbered frame old.blocks.items → Numbered frame new.blocks.items
  pub count : count_of new.blocks.items ≡ count_of old.blocks.items
  pub shown : AreShown frames addrs keys new.blocks.items
  pub leads : new.leads.items ≡ all_fresh frames addrs keys old.blocks.items

-- `count` frames of a capture. The first one has the number `first`.
abbrev pub frames_from : List (ArrayVec ℕ) → ℕ → ℕ → List (ArrayVec ℕ)
frames_from frames first count = take count (drop (first - 1) frames)

-- The blocks of the pieces are all frames of the capture, in order.
pub record IsCut (c : Capture) (pieces : List Piece) : Type 0 where
  pub numbers : Numbered 1 (all_blocks pieces)
  pub count : count_of (all_blocks pieces) ≡ length c.frames

-- The kept lines.
abbrev pub lines_of : Seen → List ℕ
lines_of Nothing = []
lines_of Unopened = []
lines_of (Lines text) = text.items
lines_of (Whole kept) = []

-- The lines in a report for what is kept for `count` frames. The first one has the number `first`.
abbrev pub seen_text : ℕ → ℕ → Seen → List ℕ
seen_text first count Nothing = []
seen_text first count Unopened = unopened_text first count
seen_text first count (Lines text) = text.items
seen_text first count (Whole kept) = frames_text first kept.items

-- The numbers of the frames are in their range.
abbrev pub HasRoom : ℕ → ℕ → Seen → Type 0
HasRoom first count Nothing = Unit {0}
HasRoom first count Unopened = first + count < 2 ^ 32
HasRoom first count (Lines text) = Unit {0}
HasRoom first count (Whole kept) = first + length kept.items < 2 ^ 32

-- Whether lines are kept.
abbrev pub has_lines : Seen → Bool
has_lines Nothing = false
has_lines Unopened = false
has_lines (Lines text) = true
has_lines (Whole kept) = false

-- One block that replaces two, with the lines of both.
pub record AreJoined (front back joined : Block) : Type 0 where
  pub first : joined.first ≡ front.first
  pub count : joined.count ≡ front.count + back.count
  pub kept : has_lines joined.seen ≡ true
  pub lines : lines_of joined.seen ≡ lines_of front.seen ++ lines_of back.seen

-- A block is added after others, and may become a part of the last one. What was shown by all of them is shown still.
pub record IsAdded (old : List Block) (block : Block) (new : List Block) : Type 0 where
  pub numbers : (frame : ℕ) → Numbered frame (old ++ block ∷ []) → Numbered frame new
  pub count : count_of new ≡ count_of (old ++ block ∷ [])
  pub shown : (frames : List (ArrayVec ℕ)) (addrs : List (Short × Eui)) (keys : List Key) (frame : ℕ) → 1 ≤ frame
      → Numbered frame (old ++ block ∷ [])
      → frame + count_of (old ++ block ∷ []) ≤ length frames + 1 → AreShown frames addrs keys (old ++ block ∷ [])
      → AreShown frames addrs keys new

-- One block of these frames that was not looked at.
abbrev pub IsOneUnseen : List Block → ℕ → ℕ → Type 0
IsOneUnseen [] first count = ⊥
IsOneUnseen (block ∷ []) first count = (is_nothing block.seen ≡ true) × (block.first ≡ first) × (block.count ≡ count)
IsOneUnseen (block ∷ other ∷ more) first count = ⊥
