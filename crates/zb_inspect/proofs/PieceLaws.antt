-- A look at a piece, the first or a later one.
use Rattle.std.proofs.Common.{◌≡◌, ℕ, ◌+◌, ◌<◌, ◌≤◌, List, [], ◌∷◌, ◌++◌, ap, arith}
use Rattle.std.specs.List.{AllZip}
use Rattle.arrayvec.specs.ArrayVec.{ArrayVec}
use Rattle.zb_base.specs.declared.address.Eui.{Eui}
use Rattle.zb_base.specs.declared.address.Short.{Short}
use Rattle.zb_base.specs.declared.key.Key.{Key}
use Rattle.zb_inspect.specs.Pieces.{all_fresh, count_of, IsNext, IsNextPiece}
use Rattle.zb_inspect.specs.declared.block.Block.{Block}
use Rattle.zb_inspect.specs.declared.piece.Piece.{Piece}
use Rattle.zb_inspect.proofs.PieceLists.{counts_append, next_shown, same_counts, same_numbers}

pub next_piece : (frames : List (ArrayVec ℕ)) (addrs : List (Short × Eui)) (keys : List Key) (old new : Piece)
    → new.number ≡ old.number
    → AllZip (IsNext frames addrs keys) old.blocks.items new.blocks.items → new.leads.items
    ≡ all_fresh frames addrs keys old.blocks.items
    → IsNextPiece frames addrs keys old new
next_piece frames addrs keys old new number next found = record {
  number = number;
  numbers = λ frame numbers. same_numbers frames addrs keys frame old.blocks.items new.blocks.items next numbers;
  count = same_counts frames addrs keys old.blocks.items new.blocks.items next;
  shown = next_shown frames addrs keys old.blocks.items new.blocks.items next;
  leads = found;
}

-- The numbers of two blocks fit together.
pub room_for : (old rest : List Block) (last block : Block) → old ≡ rest ++ last ∷ [] → count_of (old ++ block ∷ [])
    < 4294967296
    → last.count + block.count < 4294967296
room_for old rest last block is room =
    omega (arith, room, counts_append old (block ∷ []), ap count_of is, counts_append rest (last ∷ []))

pub room_more : (blocks : List Block) (block : Block) (done count : ℕ) → count_of blocks ≡ done → done + block.count
    ≤ count → count ≤ 100001
    → count_of (blocks ++ block ∷ []) < 4294967296
room_more blocks block done count is within few = omega (arith, counts_append blocks (block ∷ []), is, within, few)
