-- Rows of a record as rows of tables.
use Rattle.std.proofs.Common.{◌≡◌, ℕ, zero, suc, ◌<◌, ◌≤◌, List, [], ◌∷◌, length, map, get_or, refl, sym, ap, Some, None, subst, true, Ok, arith}
use Rattle.zb_model.specs.Fits.{keeps_rules}
use Rattle.zb_keys.specs.declared.contents.Contents.{Contents}
use Rattle.zb_record.specs.declared.net_row.NetRow.{NetRow}
use Rattle.zb_record.specs.RowViews.{net_key}
use Rattle.zb_keys.specs.Tables.{IsSound, IsRestored, Forgets}
use Rattle.zb_record.specs.declared.record.Record.{Record}
use Rattle.zb_record.specs.Records.{key_of, record_read, record_seen}
use Rattle.zb_record.proofs.Sound.{read_kept}

-- the key of a row, and none after the rows
key_past_at : (rows : List NetRow) (place : ℕ) → length rows ≤ place → None ≡ key_of place (map net_key rows)
key_past_at [] place le = refl
key_past_at (r ∷ rs) zero le = absurd (omega (arith, le))
key_past_at (r ∷ rs) (suc place) le = key_past_at rs place (omega (arith, le))

key_within_at : (rows : List NetRow) (place : ℕ) (row : NetRow) → place < length rows → row ≡ get_or rows place row
    → Some row.key.0 ≡ key_of place (map net_key rows)
key_within_at [] place row lt e = absurd (omega (arith, lt))
key_within_at (r ∷ rs) zero row lt e = ap (λ (x : NetRow). Some x.key.0) e
key_within_at (r ∷ rs) (suc place) row lt e = key_within_at rs place row (omega (arith, lt)) e

pub key_past : (rows : List NetRow) (i place : ℕ) → i ≡ place → length rows ≤ i → None
    ≡ key_of place (map net_key rows)
key_past rows i place same le = subst (λ p. None ≡ key_of p (map net_key rows)) same (key_past_at rows i le)

pub key_within : (rows : List NetRow) (i place : ℕ) (row : NetRow) → i ≡ place → i < length rows → row
    ≡ get_or rows i row → Some row.key.0 ≡ key_of place (map net_key rows)
key_within rows i place row same lt e = subst (λ p. Some row.key.0 ≡ key_of p (map net_key rows)) same
    (key_within_at rows i row lt e)

-- what was read makes tables
pub restored_sound : (bytes : List ℕ) (a : Contents) (r : Record) → record_read bytes ≡ Ok (record_seen r)
    → IsRestored a r → IsSound a
restored_sound bytes a r read is =
    let kept = read_kept bytes (record_seen r) read in
    record {
      rules = subst (λ s. keeps_rules s ≡ true) (sym is.state) kept.rules;
      forgets = subst Forgets (sym is.state) kept.forgets;
      nets_room = is.nets_room;
      links_room = is.links_room;
      pairs_room = is.pairs_room;
    }
