-- Blocks that are joined, and the first look at frames.
use Rattle.std.proofs.Common.{◌≡◌, ℕ, ◌+◌, ◌-◌, ◌≤◌, List, [], ◌∷◌, ◌++◌, length, take, drop, refl, ap, sym, ◌∙◌, subst, arith, append_assoc, append-nil, add-zero, length-take, length-drop, Bool, true, false, ◌&&◌}
use Rattle.std.specs.List.{list_all}
use Rattle.std.proofs.lemmas.List.{map-append, length-map}
use Rattle.arrayvec.specs.ArrayVec.{ArrayVec}
use Rattle.zb_base.specs.declared.address.Eui.{Eui}
use Rattle.zb_base.specs.declared.address.Short.{Short}
use Rattle.zb_base.specs.declared.key.Key.{Key}
use Rattle.zb_inspect_frame.specs.Lines.{frame_text, frames_text}
use Rattle.zb_inspect_frame.specs.Settling.{is_settled}
use Rattle.zb_inspect_frame.specs.declared.shown.Shown.{Shown}
use Rattle.zb_inspect.specs.Pieces.{count_of, frames_from, frames_in, found_in, has_lines, lines_of, AreJoined, IsAdded, IsWithin, Numbered, IsShown, AreShown, StandsFor}
use Rattle.zb_inspect.specs.Rings.{leads, frames_shown}
use Rattle.zb_inspect.specs.declared.block.Block.{Block}
use Rattle.zb_inspect.specs.declared.block.Seen.{Seen}
use Rattle.zb_inspect.specs.declared.block.Seen.TheVariants.{Nothing, Unopened, Lines, Whole}
use Rattle.zb_inspect.specs.declared.key_ring.Lead.{Lead}
use Rattle.zb_inspect.proofs.Lists.{all_append, all_front, all_back}
use Rattle.zb_inspect.proofs.PieceLists.{counts_append, drop_more, frames_count, leads_append, numbered_append, numbered_back, numbered_front, take_more}

pub shown_append : (frame : ℕ) (xs ys : List Shown) → frames_text frame (xs ++ ys) ≡ frames_text frame xs
    ++ frames_text (frame + length xs) ys
shown_append frame [] ys = ap (λ n. frames_text n ys) (sym (add-zero frame))
shown_append frame (x ∷ xs) ys =
    let first = frame_text frame x in
    ap (λ zs. first ++ zs) (shown_append (frame + 1) xs ys)
    ∙ sym (append_assoc first (frames_text (frame + 1) xs) (frames_text (frame + 1 + length xs) ys))
    ∙ ap (λ n. first ++ frames_text (frame + 1) xs ++ frames_text n ys) (omega arith)

both_settled : (xs ys : List Shown) → list_all is_settled xs ≡ true → list_all is_settled ys ≡ true
    → list_all is_settled (xs ++ ys) ≡ true
both_settled [] ys e f = f
both_settled (x ∷ xs) ys e f = step (is_settled x) (list_all is_settled xs) (list_all is_settled (xs ++ ys)) e
    (λ rest. both_settled xs ys rest f)
  where
    step : (a b c : Bool) → (a && b) ≡ true → (b ≡ true → c ≡ true) → (a && c) ≡ true
    step true b c e next = next e
    step false b c e next = cc

-- The frames of one block and those of the block after it.
pub frames_joined : (frames : List (ArrayVec ℕ)) (first n m : ℕ) → 1 ≤ first
    → frames_from frames first (n + m) ≡ frames_from frames first n ++ frames_from frames (first + n) m
frames_joined frames first n m some =
    let place : first + n - 1 ≡ first - 1 + n = omega (arith, some) in
    sym (ap (λ k. take n (drop (first - 1) frames) ++ take m (drop k frames)) place
    ∙ ap (λ zs. take n (drop (first - 1) frames) ++ take m zs) (sym (drop_more frames (first - 1) n))
    ∙ take_more (drop (first - 1) frames) n m)

-- What is kept for lines.
lines_stand : (first : ℕ) (found : List Shown) (seen : Seen) → has_lines seen ≡ true → StandsFor first found seen
    → (lines_of seen ≡ frames_text first found) × (list_all is_settled found ≡ true)
lines_stand first found Nothing e s = cc
lines_stand first found Unopened e s = cc
lines_stand first found (Lines text) e s = s
lines_stand first found (Whole kept) e s = cc

stand_lines : (first : ℕ) (found : List Shown) (seen : Seen) → has_lines seen ≡ true → lines_of seen
    ≡ frames_text first found
    → list_all is_settled found ≡ true → StandsFor first found seen
stand_lines first found Nothing e is settled = cc
stand_lines first found Unopened e is settled = cc
stand_lines first found (Lines text) e is settled = (is, settled)
stand_lines first found (Whole kept) e is settled = cc

joined_shown : (frames : List (ArrayVec ℕ)) (addrs : List (Short × Eui)) (keys : List Key) (front back joined : Block)
    → AreJoined front back joined
    → has_lines front.seen ≡ true → has_lines back.seen ≡ true → back.first ≡ front.first + front.count
    → IsWithin (length frames) front
    → IsShown frames addrs keys front → IsShown frames addrs keys back → IsShown frames addrs keys joined
joined_shown frames addrs keys front back joined j e f next within shown also =
    let a = lines_stand front.first (found_in frames addrs keys front) front.seen e shown in
    let b = lines_stand back.first (found_in frames addrs keys back) back.seen f also in
    let x = found_in frames addrs keys front in
    let y = found_in frames addrs keys back in
    let frames_are : frames_in frames joined ≡ frames_in frames front ++ frames_in frames back =
    ap (λ n. take n (drop (joined.first - 1) frames)) j.count ∙ ap
    (λ n. take (front.count + back.count) (drop (n - 1) frames)) j.first
    ∙ frames_joined frames front.first front.count back.count within.first
    ∙ ap (λ n. frames_in frames front ++ take back.count (drop (n - 1) frames)) (sym next) in
    let found_are : found_in frames addrs keys joined ≡ x ++ y =
    ap (frames_shown addrs keys) frames_are ∙ map-append _ (frames_in frames front) (frames_in frames back) in
    let count : length x ≡ front.count = length-map (frames_in frames front) _ ∙ frames_count frames front within in
    let place : front.first + length x ≡ back.first = omega (arith, count, next) in
    let P : List Shown → Type 0 = λ found. StandsFor joined.first found joined.seen in
    subst P (sym found_are)
    (stand_lines joined.first (x ++ y) joined.seen j.kept
    (j.lines ∙ ap (λ zs. zs ++ lines_of back.seen) a.0 ∙ ap (λ zs. frames_text front.first x ++ zs) b.0
    ∙ ap (λ n. frames_text front.first x ++ frames_text n y) (sym place) ∙ sym (shown_append front.first x y)
    ∙ ap (λ n. frames_text n (x ++ y)) (sym j.first)) (both_settled x y a.1 b.1))

-- Where the last two of some blocks are.
record LastTwo (frame : ℕ) (rest : List Block) (last block : Block) : Type 0 where
  rest_numbers : Numbered frame rest
  last_first : last.first ≡ frame + count_of rest
  block_first : block.first ≡ last.first + last.count

last_two : (frame : ℕ) (rest : List Block) (last block : Block) → Numbered frame ((rest ++ last ∷ []) ++ block ∷ [])
    → LastTwo frame rest last block
last_two frame rest last block numbers =
    let front = numbered_front frame (rest ++ last ∷ []) (block ∷ []) numbers in
    let back = numbered_back frame (rest ++ last ∷ []) (block ∷ []) numbers in
    let before = numbered_back frame rest (last ∷ []) front in
    record {
      rest_numbers = numbered_front frame rest (last ∷ []) front;
      last_first = before.0;
      block_first = omega (arith, back.0, before.0, counts_append rest (last ∷ []));
    }

joined_numbers : (frame : ℕ) (rest : List Block) (last block joined : Block) → AreJoined last block joined
    → Numbered frame ((rest ++ last ∷ []) ++ block ∷ [])
    → Numbered frame (rest ++ joined ∷ [])
joined_numbers frame rest last block joined j numbers =
    let two = last_two frame rest last block numbers in
    numbered_append frame rest (joined ∷ []) two.rest_numbers (j.first ∙ two.last_first, tt)

joined_count : (rest : List Block) (last block joined : Block) → AreJoined last block joined
    → count_of (rest ++ joined ∷ []) ≡ count_of ((rest ++ last ∷ []) ++ block ∷ [])
joined_count rest last block joined j =
    omega (
      arith,
      j.count,
      counts_append rest (joined ∷ []),
      counts_append (rest ++ last ∷ []) (block ∷ []),
      counts_append rest (last ∷ []),
    )

all_joined : (frames : List (ArrayVec ℕ)) (addrs : List (Short × Eui)) (keys : List Key) (frame : ℕ)
    (rest : List Block) (last block joined : Block)
    → AreJoined last block joined → has_lines last.seen ≡ true → has_lines block.seen ≡ true → 1 ≤ frame
    → Numbered frame ((rest ++ last ∷ []) ++ block ∷ [])
    → frame + count_of ((rest ++ last ∷ []) ++ block ∷ []) ≤ length frames + 1
    → AreShown frames addrs keys ((rest ++ last ∷ []) ++ block ∷ [])
    → AreShown frames addrs keys (rest ++ joined ∷ [])
all_joined frames addrs keys frame rest last block joined j e f some numbers room all =
    let P = IsShown frames addrs keys in
    let two = last_two frame rest last block numbers in
    let front = all_front P (rest ++ last ∷ []) (block ∷ []) all in
    let back = all_back P (rest ++ last ∷ []) (block ∷ []) all in
    let before = all_back P rest (last ∷ []) front in
    let within : IsWithin (length frames) last = record {
      first = omega (arith, some, two.last_first);
      last = omega (
        arith,
        two.last_first,
        room,
        counts_append (rest ++ last ∷ []) (block ∷ []),
        counts_append rest (last ∷ []),
      );
    } in
    all_append P rest (joined ∷ []) (all_front P rest (last ∷ []) front)
    (joined_shown frames addrs keys last block joined j e f two.block_first within before.0 back.0, tt)

pub added_joined : (old rest new : List Block) (last block joined : Block) → old ≡ rest ++ last ∷ [] → new ≡ rest
    ++ joined ∷ [] → AreJoined last block joined
    → has_lines last.seen ≡ true → has_lines block.seen ≡ true → IsAdded old block new
added_joined old rest new last block joined was is j e f =
    let whole : old ++ block ∷ [] ≡ (rest ++ last ∷ []) ++ block ∷ [] = ap (λ bs. bs ++ block ∷ []) was in
    record {
      numbers = λ frame numbers. (let P : List Block → Type 0 = λ bs. Numbered frame bs in
          subst P (sym is) (joined_numbers frame rest last block joined j (subst P whole numbers)));
      count = ap count_of is ∙ joined_count rest last block joined j ∙ ap count_of (sym whole);
      shown = λ frames addrs keys frame some numbers room all. (
          let P : List Block → Type 0 = λ bs. AreShown frames addrs keys bs in
          let N : List Block → Type 0 = λ bs. Numbered frame bs in
          subst P (sym is)
          (all_joined frames addrs keys frame rest last block joined j e f some (subst N whole numbers)
          (omega (arith, room, ap count_of whole)) (subst P whole all)));
    }

-- What a first look found so far
pub record IsLooked (frames : List (ArrayVec ℕ)) (addrs : List (Short × Eui)) (keys : List Key) (first done : ℕ)
    (before : List Lead) (blocks : List Block)
    (found : List Lead) : Type 0 where
  pub numbers : Numbered first blocks
  pub count : count_of blocks ≡ done
  pub shown : AreShown frames addrs keys blocks
  pub leads : found ≡ before ++ leads first (frames_shown addrs keys (frames_from frames first done))

frames_done : (frames : List (ArrayVec ℕ)) (first done : ℕ) → 1 ≤ first → first + done ≤ length frames + 1
    → length (frames_from frames first done) ≡ done
frames_done frames first done some room =
    omega (arith, length-take done (drop (first - 1) frames), length-drop (first - 1) frames, some, room)

-- One more block.
pub looked_more : (frames : List (ArrayVec ℕ)) (addrs : List (Short × Eui)) (keys : List Key) (first done : ℕ)
    (before : List Lead) (blocks new : List Block)
    (block : Block) (found after : List Lead) → IsLooked frames addrs keys first done before blocks found
    → IsAdded blocks block new
    → block.first ≡ first + done → 1 ≤ first → first + (done + block.count) ≤ length frames + 1
    → IsShown frames addrs keys block
    → after ≡ found ++ leads (first + done) (frames_shown addrs keys (frames_from frames (first + done) block.count))
    → IsLooked frames addrs keys first (done + block.count) before new after
looked_more frames addrs keys first done before blocks new block found after so_far added is some room shown also =
    let numbers : Numbered first (blocks ++ block ∷ []) =
    numbered_append first blocks (block ∷ []) so_far.numbers (omega (arith, is, so_far.count), tt) in
    let count : count_of (blocks ++ block ∷ []) ≡ done + block.count =
    omega (arith, counts_append blocks (block ∷ []), so_far.count) in
    let x = frames_from frames first done in
    let y = frames_from frames (first + done) block.count in
    let found_is : leads first (frames_shown addrs keys (frames_from frames first (done + block.count)))
    ≡ leads first (frames_shown addrs keys x) ++ leads (first + done) (frames_shown addrs keys y) =
    ap (λ fs. leads first (frames_shown addrs keys fs)) (frames_joined frames first done block.count some)
    ∙ ap (leads first) (map-append _ x y) ∙ leads_append first (frames_shown addrs keys x) (frames_shown addrs keys y)
    ∙ ap (λ n. leads first (frames_shown addrs keys x) ++ leads (first + n) (frames_shown addrs keys y))
    (length-map x _ ∙ frames_done frames first done some (omega (arith, room))) in
    record {
      numbers = added.numbers first numbers;
      count = added.count ∙ count;
      shown = added.shown frames addrs keys first some numbers (omega (arith, count, room))
          (all_append (IsShown frames addrs keys) blocks (block ∷ []) so_far.shown (shown, tt));
      leads = also ∙ ap (λ zs. zs ++ leads (first + done) (frames_shown addrs keys y)) so_far.leads
          ∙ append_assoc before (leads first (frames_shown addrs keys x))
          (leads (first + done) (frames_shown addrs keys y))
          ∙ ap (λ zs. before ++ zs) (sym found_is);
    }

pub looked_none : (frames : List (ArrayVec ℕ)) (addrs : List (Short × Eui)) (keys : List Key) (first : ℕ)
    (before : List Lead) (blocks : List Block) → blocks ≡ []
    → IsLooked frames addrs keys first 0 before blocks before
looked_none frames addrs keys first before blocks is =
    let N : List Block → Type 0 = λ bs. Numbered first bs in
    let S : List Block → Type 0 = λ bs. AreShown frames addrs keys bs in
    record {
      numbers = subst N (sym is) tt;
      count = ap count_of is;
      shown = subst S (sym is) tt;
      leads = sym (append-nil before);
    }

-- The same, if the block has that many frames.
pub looked_next : (frames : List (ArrayVec ℕ)) (addrs : List (Short × Eui)) (keys : List Key) (first done size : ℕ)
    (before : List Lead) (blocks new : List Block)
    (block : Block) (found after : List Lead) → block.count ≡ size
    → IsLooked frames addrs keys first done before blocks found → IsAdded blocks block new
    → block.first ≡ first + done → 1 ≤ first → first + (done + size) ≤ length frames + 1
    → IsShown frames addrs keys block
    → after ≡ found ++ leads (first + done) (frames_shown addrs keys (frames_from frames (first + done) size))
    → IsLooked frames addrs keys first (done + size) before new after
looked_next frames addrs keys first done size before blocks new block found after has so_far added is some room shown
    also =
    let P : ℕ → Type 0 = λ n. IsLooked frames addrs keys first (done + n) before new after in
    subst P has
    (looked_more frames addrs keys first done before blocks new block found after so_far added is some
    (omega (arith, room, has)) shown
    (also ∙ ap (λ n. found ++ leads (first + done) (frames_shown addrs keys (frames_from frames (first + done) n)))
    (sym has)))

pub both_kept : (a b : Bool) → true ≡ (a && b) → (a ≡ true) × (b ≡ true)
both_kept true b e = (refl, sym e)
both_kept false b e = cc
