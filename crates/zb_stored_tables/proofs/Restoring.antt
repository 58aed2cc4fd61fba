-- How tables are made of a record and the entries after it: the answers of the calls, put together.
use Rattle.std.proofs.Common.{◌≡◌, ℕ, suc, ◌<◌, true, false, List, [], ◌∷◌, length, get_or, Result, Ok, Err, refl, sym, ap, ◌∙◌}
use Rattle.zb_base.specs.declared.fault.OrMemory.{OrMemory}
use Rattle.zb_base.specs.declared.fault.OrMemory.TheVariants.{Fault, NoMemory}
use Rattle.zb_node_types.specs.declared.fault.KeyError.{KeyError}
use Rattle.zb_node_types.specs.declared.fault.KeyError.TheVariants.{KeyOld, KeysFull, RowsFull, KeyInUse, NoRow, WrongHash, BadRecord}
use Rattle.zb_host.specs.Plans.{gives, IsRestoreFault}
use Rattle.zb_model.specs.Data.{Role}
use Rattle.zb_model.specs.State.{NodeState, after_boot}
use Rattle.zb_model.specs.Record.{record_of}
use Rattle.zb_record.specs.Ranges.{FitsBytes}
use Rattle.zb_record.specs.declared.version.Version.{Version}
use Rattle.zb_record.specs.Records.{record_read, BadPlace}
use Rattle.zb_record.specs.Redoing.{redone}
use Rattle.zb_stored_tables.specs.Stored.{version_in, is_of_other, behind, state_behind, state_given, restored, IsGivenFault}
use Rattle.zb_stored_tables.proofs.Widths.{AreBytes}
use Rattle.zb_stored_tables.proofs.Made.{fits_back}
use Rattle.zb_stored_tables.proofs.CoreLaws.{bytes_give_kept, restored_back}

abbrev gave : NodeState → Result NodeState ℕ
gave t = Ok t

-- the elements of a slice of bytes
pub all_bytes : (bytes : List ℕ) → ((i : ℕ) → get_or bytes i 0 < 256) → AreBytes bytes
all_bytes [] each = tt
all_bytes (b ∷ bytes) each = (each 0, all_bytes bytes (λ i. each (suc i)))

module _ (role : Role) (content entries : List ℕ) where
  -- a record of another role
  pub other_role : is_of_other role content ≡ true → state_given role content entries ≡ Err 1
  unfolding state_given
  other_role other = rw other refl

  -- a bad record
  given_by : is_of_other role content ≡ false → state_given role content entries
      ≡ state_behind content entries (record_read content)
  unfolding state_given
  given_by own = rw own refl

  pub bad_record : (e : OrMemory KeyError) → is_of_other role content ≡ false
      → BadPlace e (length content) (record_read content) → IsGivenFault (state_given role content entries) e
  bad_record (Fault (KeyOld place)) own bad = bad
  bad_record (Fault KeysFull) own bad = bad
  bad_record (Fault RowsFull) own bad = bad
  bad_record (Fault (KeyInUse partner)) own bad = bad
  bad_record (Fault NoRow) own bad = bad
  bad_record (Fault WrongHash) own bad = bad
  bad_record (Fault (BadRecord at)) own bad = given_by own ∙ ap (state_behind content entries) bad.1 ∙ ap (λ n. Err n)
      (sym bad.2)
  bad_record NoMemory own bad = tt

  pub by_entries : (s : NodeState) → record_read content ≡ gave s → (v : Version) → v ≡ version_in content
      → is_of_other role content ≡ false
      → state_given role content entries ≡ behind (length content) (length entries) (redone v entries s).0
      (redone v entries s).1
  by_entries s read v is own = given_by own ∙ ap (state_behind content entries) read ∙ ap
      (λ w. behind (length content) (length entries) (redone w entries s).0 (redone w entries s).1) (sym is)

  pub read_fits_widths : (t : NodeState) → ((i : ℕ) → get_or content i 0 < 256) → ((i : ℕ) → get_or entries i 0 < 256)
      → state_given role content entries ≡ gave (after_boot t) → FitsBytes t
  read_fits_widths t a b given =
      fits_back t
      (bytes_give_kept role content entries (after_boot t) (all_bytes content a) (all_bytes entries b) given).0.widths

  pub read_has_role : (t : NodeState) → ((i : ℕ) → get_or content i 0 < 256) → ((i : ℕ) → get_or entries i 0 < 256)
      → state_given role content entries ≡ gave (after_boot t) → t.role ≡ role
  unfolding after_boot
  read_has_role t a b given =
      (bytes_give_kept role content entries (after_boot t) (all_bytes content a) (all_bytes entries b) given).1

  -- the same of a core
  pub core_given : (t : NodeState) → state_given role content entries ≡ gave t → FitsBytes t
      → restored role content entries ≡ gives (record_of t)
  core_given t given widths = restored_back role content entries t given widths

  pub core_fault : (e : OrMemory KeyError) → IsGivenFault (state_given role content entries) e
      → IsRestoreFault (restored role content entries) e
  unfolding restored
  core_fault (Fault (KeyOld place)) bad = bad
  core_fault (Fault KeysFull) bad = bad
  core_fault (Fault RowsFull) bad = bad
  core_fault (Fault (KeyInUse partner)) bad = bad
  core_fault (Fault NoRow) bad = bad
  core_fault (Fault WrongHash) bad = bad
  core_fault (Fault (BadRecord at)) bad = rw bad refl
  core_fault NoMemory bad = tt

pub boot_role : (s t : NodeState) → t ≡ after_boot s → t.role ≡ s.role
unfolding after_boot
boot_role s t is = ap (λ (u : NodeState). u.role) is
