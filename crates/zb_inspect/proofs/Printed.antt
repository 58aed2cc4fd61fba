-- The lines of blocks are those of all frames.
use Rattle.std.proofs.Common.{◌≡◌, ℕ, zero, suc, ◌+◌, ◌<◌, ◌≤◌, List, [], ◌∷◌, ◌++◌, length, get_or, take, drop, add-one, Option, Result, Ok, Err, OnErr, Vec, Global, refl, ap, sym, ◌∙◌, subst, arith, append_assoc, append-nil}
use Rattle.std.specs.List.{AllByRecursion, AllZip, flat_map}
use Rattle.std.specs.Io.KnownBytes.{Appends}
use Rattle.std.proofs.KnownBytes.{Appends-trans}
use Rattle.std.proofs.lemmas.Grind.{flat_map-append}
use Rattle.std.proofs.lemmas.List.{length-map, map-append}
use Rattle.arrayvec.specs.ArrayVec.{ArrayVec}
use Rattle.zb_base.specs.Outside.{AppendsFront}
use Rattle.zb_base.specs.declared.address.Eui.{Eui}
use Rattle.zb_base.specs.declared.address.Short.{Short}
use Rattle.zb_base.specs.declared.key.Key.{Key}
use Rattle.zb_capture.specs.Grammar.{IsCapture}
use Rattle.zb_capture.specs.declared.capture.Capture.{Capture}
use Rattle.zb_inspect_frame.specs.Lines.{frames_text}
use Rattle.zb_inspect_frame.specs.declared.shown.Shown.{Shown}
use Rattle.zb_inspect_frame.proofs.UnopenedFrames.{unopened_lines}
use Rattle.zb_inspect.specs.Pieces.{all_blocks, all_frames, frames_in, found_in, seen_text, HasRoom, StandsFor, Numbered, IsShown, AreShown, IsCut, IsWithin}
use Rattle.zb_inspect.specs.Rings.{keys_of, frames_shown, ring_of}
use Rattle.zb_inspect.specs.declared.block.Block.{Block}
use Rattle.zb_inspect.specs.declared.block.Seen.{Seen}
use Rattle.zb_inspect.specs.declared.block.Seen.TheVariants.{Nothing, Unopened, Lines, Whole}
use Rattle.zb_inspect.specs.declared.piece.Piece.{Piece}
use Rattle.zb_inspect.specs.declared.key_ring.Ring.{Ring}
use Rattle.zb_inspect.proofs.JoinLaws.{shown_append}
use Rattle.zb_inspect.proofs.PieceLists.{frames_count, in_pieces, whole_frames, within_cut}
use Rattle.zb_inspect.specs.Report.{tail_text, report_text, report_of}
use Rattle.zb_inspect.specs.Texts.{block_text, blocks_text, pages_text, BlockHasRoom, HaveRoom}

-- Pieces that are printed, one page for each

abbrev pub IsPagePrinted : Piece → Vec ℕ Global → Type 0
IsPagePrinted piece page = page.items ≡ blocks_text piece.blocks.items

pub pages_printed : (pieces : List Piece) (pages : List (Vec ℕ Global)) → AllZip IsPagePrinted pieces pages
    → pages_text pages ≡ blocks_text (all_blocks pieces)
pages_printed [] [] all = refl
pages_printed [] (page ∷ pages) all = absurd all
pages_printed (piece ∷ pieces) [] all = absurd all
pages_printed (piece ∷ pieces) (page ∷ pages) all =
    ap (λ zs. zs ++ pages_text pages) all.0 ∙ ap (λ zs. blocks_text piece.blocks.items ++ zs)
    (pages_printed pieces pages all.1)
    ∙ sym (flat_map-append block_text piece.blocks.items (all_blocks pieces))

-- Blocks that are shown

seen_shown : (first : ℕ) (found : List Shown) (seen : Seen) → StandsFor first found seen
    → seen_text first (length found) seen ≡ frames_text first found
seen_shown first found Nothing s = absurd s
seen_shown first found Unopened s = sym (unopened_lines first found s)
seen_shown first found (Lines text) s = s.0
seen_shown first found (Whole kept) s = ap (frames_text first) s

has_room : (first : ℕ) (found : List Shown) (seen : Seen) → StandsFor first found seen → first + length found
    < 4294967296 → HasRoom first (length found) seen
has_room first found Nothing s room = tt
has_room first found Unopened s room = room
has_room first found (Lines text) s room = tt
has_room first found (Whole kept) s room = omega (arith, ap (length {A = Shown}) s, room)

found_count : (frames : List (ArrayVec ℕ)) (addrs : List (Short × Eui)) (keys : List Key) (b : Block)
    → IsWithin (length frames) b
    → length (found_in frames addrs keys b) ≡ b.count
found_count frames addrs keys b within = length-map (frames_in frames b) _ ∙ frames_count frames b within

shown_text : (frames : List (ArrayVec ℕ)) (addrs : List (Short × Eui)) (keys : List Key) (frame : ℕ)
    (blocks : List Block) → Numbered frame blocks
    → AllByRecursion (IsWithin (length frames)) blocks → AreShown frames addrs keys blocks
    → blocks_text blocks ≡ frames_text frame (frames_shown addrs keys (all_frames frames blocks))
shown_text frames addrs keys frame [] numbers within all = refl
shown_text frames addrs keys frame (b ∷ blocks) numbers within all =
    let found = found_in frames addrs keys b in
    let more = frames_shown addrs keys (all_frames frames blocks) in
    ap (λ zs. zs ++ blocks_text blocks)
    (ap (λ n. seen_text b.first n b.seen) (sym (found_count frames addrs keys b within.0)) ∙ seen_shown b.first found
    b.seen all.0
    ∙ ap (λ n. frames_text n found) numbers.0)
    ∙ ap (λ zs. frames_text frame found ++ zs)
    (shown_text frames addrs keys (frame + b.count) blocks numbers.1 within.1 all.1)
    ∙ ap (λ n. frames_text frame found ++ frames_text (frame + n) more)
    (sym (found_count frames addrs keys b within.0))
    ∙ sym (shown_append frame found more)
    ∙ ap (frames_text frame) (sym (map-append _ (frames_in frames b) (all_frames frames blocks)))

block_room : (frames : List (ArrayVec ℕ)) (addrs : List (Short × Eui)) (keys : List Key) (b : Block) → length frames
    ≤ 100000 → IsWithin (length frames) b
    → IsShown frames addrs keys b → BlockHasRoom b
block_room frames addrs keys b few within shown =
    let count = found_count frames addrs keys b within in
    let P : ℕ → Type 0 = λ n. HasRoom b.first n b.seen in
    subst P count
    (has_room b.first (found_in frames addrs keys b) b.seen shown (omega (arith, count, within.last, few)))

shown_room : (frames : List (ArrayVec ℕ)) (addrs : List (Short × Eui)) (keys : List Key) (blocks : List Block)
    → length frames ≤ 100000
    → AllByRecursion (IsWithin (length frames)) blocks → AreShown frames addrs keys blocks → HaveRoom blocks
shown_room frames addrs keys [] few within all = tt
shown_room frames addrs keys (b ∷ blocks) few within all = (
  block_room frames addrs keys b few within.0 all.0,
  shown_room frames addrs keys blocks few within.1 all.1,
)

pub room_in_pieces : (c : Capture) (keys : List Key) (pieces : List Piece) → IsCapture c → IsCut c pieces
    → AreShown c.frames c.addrs keys (all_blocks pieces) → AllByRecursion (λ (p : Piece). HaveRoom p.blocks.items)
    pieces
room_in_pieces c keys pieces limits cut shown =
    in_pieces BlockHasRoom pieces
    (shown_room c.frames c.addrs keys (all_blocks pieces) limits.frames (within_cut c pieces cut) shown)

-- The report.
pub is_report : (c : Capture) (ring : Ring) (pieces : List Piece) (frames : ℕ) (lines tail : List ℕ) → ring
    ≡ ring_of c → IsCut c pieces
    → AreShown c.frames c.addrs (keys_of ring.keys) (all_blocks pieces) → frames ≡ length c.frames → lines
    ≡ blocks_text (all_blocks pieces)
    → tail ≡ tail_text frames ring → lines ++ tail ≡ report_of c
unfolding report_of
is_report c ring pieces frames lines tail is cut shown count printed ends =
    ap (λ zs. zs ++ tail)
    (printed ∙ shown_text c.frames c.addrs (keys_of ring.keys) 1 (all_blocks pieces) cut.numbers
    (within_cut c pieces cut) shown
    ∙ ap (λ fs. frames_text 1 (frames_shown c.addrs (keys_of ring.keys) fs)) (whole_frames c pieces cut))
    ∙ ap (λ zs. frames_text 1 (frames_shown c.addrs (keys_of ring.keys) c.frames) ++ zs)
    (ends ∙ ap (λ n. tail_text n ring) count)
    ∙ ap (report_text c) is

-- Prefixes

take_front : (ys rest : List ℕ) (n : ℕ) → (m : ℕ) × (take m (ys ++ rest) ≡ take n ys)
take_front [] rest zero = (0, refl)
take_front [] rest (suc n) = (0, refl)
take_front (y ∷ ys) rest zero = (0, refl)
take_front (y ∷ ys) rest (suc n) = let r = take_front ys rest n in (suc r.0, ap (λ l. y ∷ l) r.1)

take_behind : (xs ys rest : List ℕ) (n : ℕ) → (m : ℕ) × (take m (xs ++ (ys ++ rest)) ≡ xs ++ take n ys)
take_behind [] ys rest n = take_front ys rest n
take_behind (x ∷ xs) ys rest n = let r = take_behind xs ys rest n in (suc r.0, ap (λ l. x ∷ l) r.1)

-- Whole pieces and then a prefix of the next one are a prefix of all.
front_of : (a b c : Option (List ℕ)) (xs ys rest : List ℕ) → Appends a b xs → AppendsFront b c ys
    → AppendsFront a c (xs ++ (ys ++ rest))
front_of a b c xs ys rest first second =
    let r = take_behind xs ys rest second.0 in
    (r.0, subst (Appends a c) (sym r.1) (Appends-trans a b c xs (take second.0 ys) first second.1))

-- A prefix of what comes first is a prefix of all; so is all of that and a prefix of the rest.
pub front_first : (a b : Option (List ℕ)) (xs ys : List ℕ) → AppendsFront a b xs → AppendsFront a b (xs ++ ys)
front_first a b xs ys first =
    let r = take_front xs ys first.0 in (r.0, subst (Appends a b) (sym r.1) first.1)

pub front_second : (a b c : Option (List ℕ)) (xs ys : List ℕ) → Appends a b xs → AppendsFront b c ys
    → AppendsFront a c (xs ++ ys)
front_second a b c xs ys first second =
    let P : List ℕ → Type 0 = λ zs. AppendsFront a c (xs ++ zs) in subst P (append-nil ys)
    (front_of a b c xs ys [] first second)

-- Items that are written one after the other

text_at : {A : Type 0} (f : A → List ℕ) (items : List A) (i : ℕ) (d : A) → i < length items
    → flat_map f items ≡ flat_map f (take i items) ++ (f (get_or items i d) ++ flat_map f (drop (suc i) items))
text_at f [] i d within = absurd (omega arith)
text_at f (x ∷ items) zero d within = refl
text_at f (x ∷ items) (suc i) d within =
    ap (λ zs. f x ++ zs) (text_at f items i d (omega arith))
    ∙ sym (append_assoc (f x) (flat_map f (take i items)) (f (get_or items i d) ++ flat_map f (drop (suc i) items)))

pub front_at : {A : Type 0} (f : A → List ℕ) (a b c : Option (List ℕ)) (items : List A) (i : ℕ) (d : A) → i
    < length items
    → Appends a b (flat_map f (take i items)) → AppendsFront b c (f (get_or items i d))
    → AppendsFront a c (flat_map f items)
front_at f a b c items i d within first second =
    subst (AppendsFront a c) (sym (text_at f items i d within))
    (front_of a b c (flat_map f (take i items)) (f (get_or items i d)) (flat_map f (drop (suc i) items)) first second)

text_next : {A : Type 0} (f : A → List ℕ) (items : List A) (i : ℕ) (d : A) → i < length items
    → flat_map f (take (suc i) items) ≡ flat_map f (take i items) ++ f (get_or items i d)
text_next f [] i d within = absurd (omega arith)
text_next f (x ∷ items) zero d within = append-nil (f x)
text_next f (x ∷ items) (suc i) d within =
    ap (λ zs. f x ++ zs) (text_next f items i d (omega arith)) ∙ sym
    (append_assoc (f x) (flat_map f (take i items)) (f (get_or items i d)))

pub whole_next : {A : Type 0} (f : A → List ℕ) (a b c : Option (List ℕ)) (items : List A) (i : ℕ) (d : A) → i
    < length items
    → Appends a b (flat_map f (take i items)) → Appends b c (f (get_or items i d))
    → Appends a c (flat_map f (take (i + 1) items))
whole_next f a b c items i d within first second =
    subst (Appends a c) (sym (ap (λ n. flat_map f (take n items)) (add-one i) ∙ text_next f items i d within))
    (Appends-trans a b c (flat_map f (take i items)) (f (get_or items i d)) first second)

pub on_err : {T E : Type 0} (r : Result T E) (P : Type 0) → P → OnErr r P
on_err (Ok x) P p = tt
on_err (Err e) P p = p
