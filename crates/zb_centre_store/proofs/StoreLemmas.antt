-- The centre over its store: what a boot, the judgement of a store, a new store and an event leave.
use Rattle.std.proofs.Common.{◌≡◌, ◌≢◌, ℕ, ◌<◌, ◌||◌, inl, inr, ◌⊎◌, Bool, true, false, not, if◌then◌else◌, List, [], ◌∷◌, get_or, length, Option, Some, None, Result, Ok, Err, IfErr, IsTrue, refl, sym, ap, ◌∙◌, subst, arith, eqb-true}
use Rattle.std.specs.Prelude.{◌==◌, is_some, nat_eq}
use Rattle.std.specs.List.{concat, list_all}
use Rattle.arrayvec.specs.ArrayVec.{ArrayVec}
use Rattle.zb_centre_store.specs.Makings.{first_tables}
use Rattle.zb_backup.specs.Reading as backup
use Rattle.zb_backup.specs.Reading.{IsOfCentre, has_widths, is_byte, is_counter, is_eui, is_key}
use Rattle.zb_centre_store.specs.Calls.{HasBooted, HasFound, HasHandled, HasLaidOut, IsBootFault, IsEventFault, IsJudgeFault, IsJudged, IsLayOutFault, WasThereOrEmpty, is_own, tables_after}
use Rattle.zb_centre_store.proofs.RefusedLemmas.{none_changed, refused_edits, refused_effect, some_mapped}
use Rattle.zb_centre_store.specs.Standing.{CanBeServed, IsEmpty, IsUp, IsWornOut, Stands, StandsAs, StandsAsEither, fault_of, found_on, found_store, found_tables, recorded}
use Rattle.zb_centre_store.specs.declared.fault.AdminFault.{AdminFault}
use Rattle.zb_centre_store.specs.declared.fault.AdminFault.TheVariants.{Disk as AdminDisk, NoStore, BadStore, Worn as AdminWorn, Write, NoMemory as LackOfMemory}
use Rattle.zb_base.specs.Outside.{Rose, Unrisen}
use Rattle.zb_base.specs.declared.fault.OrMemory.{OrMemory}
use Rattle.zb_base.specs.declared.fault.OrMemory.TheVariants.{Fault, NoMemory}
use Rattle.zb_base.specs.declared.node.Config.{Config}
use Rattle.zb_core.specs.Events.{NodeEvent, task_of}
use Rattle.zb_core.proofs.PlanLaws.{core_plan_leads}
use Rattle.zb_core.specs.CorePlans.{CorePlan, IsCoreAfter, IsCorePlan}
use Rattle.zb_disk.proofs.Moments.{still_leaves, still_then, still_trans, weakened}
use Rattle.zb_disk.specs.View.{Telling, View, IsStill, LeavesOnly}
use Rattle.zb_host.specs.HostFaults as host
use Rattle.zb_host.specs.Hosts.{Gives, Hosted, IsCurrent, IsWorn, StandsForEither, is_full, writes_whole}
use Rattle.zb_host.specs.Plans.{gives, bad}
use Rattle.zb_host.specs.declared.fault.RecordFault.{RecordFault}
use Rattle.zb_host.specs.declared.outcome.Outcome.{Outcome}
use Rattle.zb_host.specs.declared.fault.RecordFault.TheVariants.{Disk, NoRecord, BadRecord, Worn}
use Rattle.zb_model.specs.Answer.{answer, answered}
use Rattle.zb_model.specs.Data.{Centre, Task}
use Rattle.zb_model.specs.Record.{record_of}
use Rattle.zb_model.specs.Rules.{Setting}
use Rattle.zb_model.specs.State.{LinkKey, NetKey, NodeState, PairKey, after_boot, applied_all, shown, with_declared, with_given_net}
use Rattle.zb_model_real.specs.Real.{real}
use Rattle.zb_setting.specs.Settings.{setting_for}
use Rattle.zb_node_types.specs.Changes.{reason}
use Rattle.zb_node_types.specs.declared.change.Change.{Change}
use Rattle.zb_node_types.specs.declared.refusal.Refusal.{Refusal}
use Rattle.zb_node_types.specs.declared.fault.KeyError.{KeyError}
use Rattle.zb_node_types.specs.declared.fault.KeyError.TheVariants.{KeyOld, KeysFull, RowsFull, KeyInUse, NoRow, WrongHash, BadRecord as BadBytes}
use Rattle.zb_plan.specs.Answers.{IsAnswer}
use Rattle.zb_seal.specs.declared.term.Term.{Term}
use Rattle.zb_keys.specs.Declarations.{first_state}
use Rattle.law_change_fits.proofs.Tests.{all_from, both}
use Rattle.zb_record.proofs.Tested.{fits_from, fits_true}
use Rattle.zb_record.proofs.WholeAgain.{record_again}
use Rattle.zb_record.specs.Ranges as ranges
use Rattle.zb_record.specs.Ranges.{FitsBytes, fits_widths}
use Rattle.zb_record.specs.Records.{BadPlace, record_read}
use Rattle.zb_store.specs.Layout.{Standing, slot, stands}
use Rattle.zb_store.specs.Store.{AllWhole, IsHeld, Place, WasThere, formatted, place_of}
use Rattle.zb_stored_tables.proofs.CoreLaws.{none_storable, state_keeps}
use Rattle.zb_stored_tables.specs.Cores.{CoreValue, IsBooted}
use Rattle.zb_stored_tables.specs.Stored.{IsKept, IsStoredAfter, restored, state_given}
use Rattle.zb_stored_tables.specs.Stored as stored

later : (a b n : ℕ) → Unrisen a b → Rose b n → Rose a n
later a b n same rose = omega (arith, same, rose)

-- ---- the disk's count of faults

-- the same fault of another call
pub same_fault : {S T : Type 0} (f g : AdminFault) → (◌≡◌ {A = Result S AdminFault} (Err f) (Err g) → ⊥)
    → ◌≡◌ {A = Result T AdminFault} (Err f) (Err g) → ⊥
same_fault {S} f g not is =
    let same : f ≡ g = cc in
    let again : ◌≡◌ {A = Result S AdminFault} (Err f) (Err g) = ap (λ (x : AdminFault). Err x) same in
    not again

boot_stands : (tells : Telling) (old new : View) (f : OrMemory RecordFault)
    → host.IsBootFault tells (restored Centre) old new f → (fault_of f ≡ AdminDisk → ⊥) → Unrisen old.faults new.faults
boot_stands tells old new (Fault Disk) h not = absurd (not refl)
boot_stands tells old new (Fault NoRecord) h not = h.1
boot_stands tells old new (Fault (BadRecord at)) h not = h.1
boot_stands tells old new (Fault Worn) h not = absurd h
boot_stands tells old new NoMemory h not = h

event_stands : (whole : Bool) (store : Option Place) (old new : View) (f : RecordFault)
    → host.IsUnstored whole store old new f → (fault_of (Fault f) ≡ AdminDisk → ⊥) → Unrisen old.faults new.faults
event_stands whole store old new Disk h not = absurd (not refl)
event_stands whole store old new NoRecord h not = absurd h
event_stands whole store old new (BadRecord at) h not = absurd h
event_stands whole store old new Worn h not = h.2

-- an event that wasn't handled, and its fault as it is told
pub unhandled_stands : {T : Type 0} (whole : Bool) (store : Option Place) (old new : View) (f : RecordFault)
    (g : AdminFault) → g ≡ fault_of (Fault f) → host.IsUnstored whole store old new f
    → (◌≡◌ {A = Result T AdminFault} (Err g) (Err AdminDisk) → ⊥) → Unrisen old.faults new.faults
unhandled_stands whole store old new f g same h not =
    event_stands whole store old new f h (λ is. not (ap (λ (x : AdminFault). Err x) (same ∙ is)))

-- the same fault ends a call of the host in the same way
pub err_is : {f g : RecordFault} → f ≡ g → ◌≡◌ {A = Result (Unit {0}) RecordFault} (Err f) (Err g)
err_is is = ap (λ (x : RecordFault). Err x) is

-- ---- a boot

-- what bytes give that give a core, and those that give none
widths_of : (r : Result NodeState ℕ) (s : NodeState) (bytes : List ℕ) → r ≡ Ok s → stored.recorded r ≡ gives bytes
    → fits_widths s ≡ true
widths_of r s bytes is e = by_width (fits_widths s) refl (sym (ap stored.recorded is) ∙ e)
  where
    by_width : (b : Bool) → fits_widths s ≡ b → (if b then gives (record_of s) else bad 0) ≡ gives bytes
        → fits_widths s ≡ true
    by_width true is e = is
    by_width false is e = absurd (cc)

bad_found : (at : ℕ) (r : Result NodeState ℕ) → stored.recorded r ≡ bad at → found_tables r ≡ Err (BadStore at)
bad_found at (Ok s) e = by_width (fits_widths s) e
  where
    by_width : (b : Bool) → (if b then gives (record_of s) else bad 0) ≡ bad at
        → (if b then Ok (Some s) else Err (BadStore 0)) ≡ Err (BadStore at)
    by_width true e = absurd (cc)
    by_width false e = let same : 0 ≡ at = cc in ap (λ n. Err (BadStore n)) same
bad_found at (Err n) e = let same : n ≡ at = cc in ap (λ m. Err (BadStore m)) same

pub boot_fault : (tells : Telling) (old new : View) (f : OrMemory RecordFault)
    → host.IsBootFault tells (restored Centre) old new f → IsBootFault tells old new (fault_of f)
unfolding restored
boot_fault tells old new (Fault Disk) h = h
boot_fault tells old new NoMemory h = h
boot_fault tells old new (Fault NoRecord) h = h.0
boot_fault tells old new (Fault (BadRecord at)) h = λ told. let found =
    h.0 told in (found.0, found.1, bad_found at (state_given Centre found.0.content (concat found.0.payloads)) found.2)
boot_fault tells old new (Fault Worn) h = absurd h

module _ (tells : Telling) (config : Config) (old new : View) (centre : Hosted CoreValue) where
  abbrev pub Answering : Type 0
  Answering = IsTrue tells.content → (z : Standing) × (stands old.seen ≡ Some z)
      × Gives (restored Centre) z (recorded centre.core) × (centre.store ≡ Some (place_of z))
      × (centre.whole ≡ (get_or z.content 0 0 == 1))

  abbrev pub Readies : Type 0
  Readies = AllWhole old → IsTrue tells.content → (z : Standing) → stands old.seen ≡ Some z
      → IsCurrent (restored Centre) recorded z centre new

  abbrev pub Boots : Type 0
  Boots = IsTrue tells.content → (z : Standing) → stands old.seen ≡ Some z
      → IsBooted Centre config z.content (concat z.payloads) centre.core

  found_so : Answering → Boots → IsTrue tells.content → HasFound old centre.core.tables
  unfolding restored
  found_so answers core told =
      let a = answers told in
      let booted = core told a.0 a.1 in (
        a.0,
        a.1,
        booted.tables,
        widths_of (state_given Centre a.0.content (concat a.0.payloads)) centre.core.tables
            (recorded centre.core) booted.tables a.2,
      )

  up_so : Answering → Readies → Boots → IsTrue tells.content → AllWhole old
      → IsUp (setting_for config) centre.core.tables centre new
  up_so answers ready core told whole =
      let a = answers told in
      record {
        core = ap (λ (x : Setting). let y : CoreValue = record { setting = x; tables = centre.core.tables } in y)
            (core told a.0 a.1).setting;
        standing = a.0;
        current = ready whole told a.0 a.1;
        first = λ is. eqb-true (get_or a.0.content 0 0) 1 (sym a.4 ∙ is);
      }

  pub has_booted : Answering → Readies → Boots
      → (AllWhole old → IsTrue tells.content → LeavesOnly old new (WasThere old)) → is_some centre.store ≡ true
      → Unrisen old.faults new.faults → HasBooted tells (setting_for config) old (Ok centre) new
  has_booted answers ready core moments store unrisen = record {
    found = found_so answers core;
    up = up_so answers ready core;
    store = store;
    moments = moments;
    faults = tt;
    unrisen = λ not. unrisen;
  }

-- ---- the judgement of a store

none_of : (bytes : List ℕ) → length bytes ≡ 0 → bytes ≡ []
none_of [] e = refl
none_of (b ∷ bs) e = absurd (omega (arith, e))

slot_of_none : (second : Bool) → 0 < length (slot second []) → ⊥
unfolding slot
slot_of_none true lt = omega (arith, lt)
slot_of_none false lt = omega (arith, lt)

-- a whole image isn't empty
not_empty : (v : View) → v.images v.seen → AllWhole v → v.seen ≡ [] → ⊥
not_empty v image whole none =
    let s = whole v.seen image in
    slot_of_none (not s.0.second)
    (subst (λ (bytes : List ℕ). 0 < length (slot (not s.0.second) bytes)) none s.1.other_gate)

same_empty : (old new : View) → IsStill old new → IsEmpty old → IsEmpty new
same_empty old new still empty =
    record {
      seen = still.same.seen ∙ empty.seen;
      images = λ image is. empty.images image (still.same.images image is);
    }

pub there : (v : View) → CanBeServed v → (image : List ℕ) → v.images image → WasThereOrEmpty v image
there v (inl empty) image is = inl (empty.seen, empty.images image is)
there v (inr whole) image is = let s = whole image is in inr (s.0, s.1, (image, is, s.1))

found_none : (bytes : List ℕ) → bytes ≡ [] → found_on bytes ≡ Ok None
unfolding found_on
found_none bytes e = ap found_on e

pub judged_empty : (tells : Telling) (c : Setting) (old new : View)
    → ((image : List ℕ) → old.since old.moment image → old.images image)
    → (IsTrue tells.content → old.images old.seen) → IsStill old new → Unrisen old.faults new.faults
    → (IsTrue tells.content → 0 ≡ length old.seen)
    → IsJudged tells c old (Ok None) new
judged_empty tells c old new only_now reads still same size = record {
  found = λ told. found_none old.seen (none_of old.seen (sym (size told)));
  stands_so = λ told can. empty can (none_of old.seen (sym (size told))) (reads told);
  empty = λ e. still;
  store = tt;
  moments = λ can told. still_leaves old new (WasThereOrEmpty old) still only_now (there old can);
  faults = tt;
  unrisen = λ not. same;
}
  where
    empty : CanBeServed old → old.seen ≡ [] → old.images old.seen → IsEmpty new
    empty (inl is) none image = same_empty old new still is
    empty (inr whole) none image = absurd (not_empty old image whole none)

-- what is said of a disk on which nothing has changed

abbrev IsNotEmpty : Telling → View → Type 0
IsNotEmpty tells old = IsTrue tells.content → old.seen ≡ [] → ⊥

found_some : (bytes : List ℕ) → (bytes ≡ [] → ⊥) → found_on bytes ≡ found_store (stands bytes)
unfolding found_on
found_some [] some = absurd (some refl)
found_some (b ∷ bs) some = refl

whole_still : (old mid : View) → IsStill old mid → AllWhole old → AllWhole mid
whole_still old mid still whole image is = whole image (still.same.images image is)

was_still : (old mid : View) → IsStill old mid → (image : List ℕ) → WasThere mid image → WasThereOrEmpty old image
was_still old mid still image (s, is, (other, there, whole)) =
    inr (s, is, (other, still.same.images other there, whole))

found_tables_of : (old mid : View) (s : NodeState) → IsStill old mid → (old.seen ≡ [] → ⊥) → HasFound mid s
    → found_on old.seen ≡ Ok (Some s)
found_tables_of old mid s still some (z, stand, given, widths) =
    found_some old.seen some ∙ ap found_store (ap stands (sym still.same.seen) ∙ stand) ∙ ap found_tables given ∙
    by_width (fits_widths s) widths
  where
    by_width : (b : Bool) → b ≡ true → (if b then Ok (Some s) else Err (BadStore 0)) ≡ Ok (Some s)
    by_width true e = refl
    by_width false e = absurd (cc)

judge_fault : (tells : Telling) (old mid new : View) (f : AdminFault) → Unrisen old.faults mid.faults
    → IsStill old mid → IsNotEmpty tells old → IsBootFault tells mid new f → IsJudgeFault tells old new f
judge_fault tells old mid new AdminDisk same still some h = later old.faults mid.faults new.faults same h
judge_fault tells old mid new NoStore same still some h = λ told. found_some old.seen (some told) ∙ ap found_store
    (ap stands (sym still.same.seen) ∙ h told)
judge_fault tells old mid new (BadStore at) same still some h = λ told. let z =
    h told in found_some old.seen (some told) ∙ ap found_store (ap stands (sym still.same.seen) ∙ z.1) ∙ z.2
judge_fault tells old mid new AdminWorn same still some h = h
judge_fault tells old mid new Write same still some h = h
judge_fault tells old mid new LackOfMemory same still some h = h ∙ same

judged_moments : (tells : Telling) (old mid new : View) → IsStill old mid → IsNotEmpty tells old
    → (AllWhole mid → IsTrue tells.content → LeavesOnly mid new (WasThere mid)) → CanBeServed old
    → IsTrue tells.content → LeavesOnly old new (WasThereOrEmpty old)
judged_moments tells old mid new still some moments (inl empty) told = absurd (some told empty.seen)
judged_moments tells old mid new still some moments (inr whole) told = still_then old mid new (WasThereOrEmpty old)
    still (weakened mid new (WasThere mid) (WasThereOrEmpty old) (was_still old mid still)
    (moments (whole_still old mid still whole) told))

pub judged_up : (tells : Telling) (c : Setting) (old mid new : View) (centre : Hosted CoreValue)
    → Unrisen old.faults mid.faults → IsStill old mid → IsNotEmpty tells old → HasBooted tells c mid (Ok centre) new
    → IsJudged tells c old (Ok (Some centre)) new
judged_up tells c old mid new centre same still some booted = record {
  found = λ told. found_tables_of old mid centre.core.tables still (some told) (booted.found told);
  stands_so = stands_so;
  empty = λ e. no_centre e;
  store = booted.store;
  moments = judged_moments tells old mid new still some booted.moments;
  faults = tt;
  unrisen = λ not. booted.unrisen (λ e. cc e) ∙ same;
}
  where
    stands_so : IsTrue tells.content → CanBeServed old → IsUp c centre.core.tables centre new
    stands_so told (inl empty) = absurd (some told empty.seen)
    stands_so told (inr whole) = booted.up told (whole_still old mid still whole)

    no_centre : {A : Type 0} → true ≡ false → A
    no_centre e = absurd (cc)

pub judged_failed : (tells : Telling) (c : Setting) (old mid new : View) (r : Result (Hosted CoreValue) AdminFault)
    (f : AdminFault) → Unrisen old.faults mid.faults → IsStill old mid → IsNotEmpty tells old
    → HasBooted tells c mid r new → r ≡ Err f → IsJudged tells c old (Err f) new
judged_failed tells c old mid new r f same still some booted is = record {
  found = tt;
  stands_so = tt;
  empty = tt;
  store = tt;
  moments = judged_moments tells old mid new still some booted.moments;
  faults = judge_fault tells old mid new f same still some
      (subst (λ (x : Result (Hosted CoreValue) AdminFault). IfErr x (IsBootFault tells mid new)) is booted.faults);
  unrisen = λ not. booted.unrisen (λ e. same_fault f AdminDisk not (sym is ∙ e)) ∙ same;
}

-- a size that isn't 0
pub no_size : (v : View) (size : ℕ) → (size ≡ 0 → ⊥) → size ≡ length v.seen → v.seen ≡ [] → ⊥
no_size v size some is none = some (is ∙ ap length none)

pub was_there_still : (old mid : View) → IsStill old mid → (image : List ℕ) → WasThereOrEmpty mid image
    → WasThereOrEmpty old image
was_there_still old mid still image (inl none) = inl (sym still.same.seen ∙ none.0, none.1)
was_there_still old mid still image (inr was) = was_still old mid still image was

pub can_still : (old mid : View) → IsStill old mid → CanBeServed old → CanBeServed mid
can_still old mid still (inl empty) = inl (same_empty old mid still empty)
can_still old mid still (inr whole) = inr (whole_still old mid still whole)

judge_fault_then : (tells : Telling) (old mid new : View) (f : AdminFault) → Unrisen old.faults mid.faults
    → IsStill old mid → IsJudgeFault tells mid new f → IsJudgeFault tells old new f
judge_fault_then tells old mid new AdminDisk same still h = later old.faults mid.faults new.faults same h
judge_fault_then tells old mid new NoStore same still h = λ told. ap found_on (sym still.same.seen) ∙ h told
judge_fault_then tells old mid new (BadStore at) same still h = λ told. ap found_on (sym still.same.seen) ∙ h told
judge_fault_then tells old mid new AdminWorn same still h = h
judge_fault_then tells old mid new Write same still h = h
judge_fault_then tells old mid new LackOfMemory same still h = h ∙ same

-- the judgement after the call for the size, which changes nothing
pub judged_then : (tells : Telling) (c : Setting) (old mid new : View)
    (r : Result (Option (Hosted CoreValue)) AdminFault) → Unrisen old.faults mid.faults → IsStill old mid
    → IsJudged tells c mid r new → IsJudged tells c old r new
judged_then tells c old mid new (Ok o) same still judged = record {
  found = λ told. ap found_on (sym still.same.seen) ∙ judged.found told;
  stands_so = λ told can. judged.stands_so told (can_still old mid still can);
  empty = λ e. still_trans old mid new still (judged.empty e);
  store = judged.store;
  moments = λ can told. still_then old mid new (WasThereOrEmpty old) still
      (weakened mid new (WasThereOrEmpty mid) (WasThereOrEmpty old) (was_there_still old mid still)
      (judged.moments (can_still old mid still can) told));
  faults = tt;
  unrisen = λ not. judged.unrisen not ∙ same;
}
judged_then tells c old mid new (Err f) same still judged = record {
  found = tt;
  stands_so = tt;
  empty = tt;
  store = tt;
  moments = λ can told. still_then old mid new (WasThereOrEmpty old) still
      (weakened mid new (WasThereOrEmpty mid) (WasThereOrEmpty old) (was_there_still old mid still)
      (judged.moments (can_still old mid still can) told));
  faults = judge_fault_then tells old mid new f same still judged.faults;
  unrisen = λ not. judged.unrisen not ∙ same;
}

pub judged_unread : (tells : Telling) (c : Setting) (old new : View)
    → ((image : List ℕ) → old.since old.moment image → old.images image) → IsStill old new
    → Rose old.faults new.faults → IsJudged tells c old (Err AdminDisk) new
judged_unread tells c old new only_now still rose = record {
  found = tt;
  stands_so = tt;
  empty = tt;
  store = tt;
  moments = λ can told. still_leaves old new (WasThereOrEmpty old) still only_now (there old can);
  faults = rose;
  unrisen = λ not. absurd (not refl);
}

-- ---- a new store

unchanged : (s : NodeState) → shown s ≡ s → IsStoredAfter [] s s
unfolding applied_all
unchanged s forgets = ap after_boot (sym forgets)

-- the record of these tables, alone on the disk, gives them again
pub laid_given : (s : NodeState) → s.role ≡ Centre → IsKept s → after_boot s ≡ s → state_given Centre (record_of s) []
    ≡ Ok s
laid_given s role kept booted = state_keeps Centre s s [] (none_storable Centre s role kept)
    (unchanged s kept.forgets) ∙ ap (λ t. Ok t) booted

ok_of : (s t : NodeState) → ◌≡◌ {A = Result NodeState ℕ} (Ok s) (Ok t) → s ≡ t
ok_of s t e = cc

some_of : (y z : Standing) → Some y ≡ Some z → y ≡ z
some_of y z e = cc

no_fault : (at : ℕ) (s : NodeState) → FitsBytes s → found_tables (Ok s) ≡ Err (BadStore at) → ⊥
no_fault at s widths e = by_width (fits_widths s) (fits_true s widths) e
  where
    by_width : (b : Bool) → b ≡ true → (if b then Ok (Some s) else Err (BadStore 0)) ≡ Err (BadStore at) → ⊥
    by_width true is e = absurd (cc)
    by_width false is e = absurd (cc)

module _ (tells : Telling) (c : Setting) (s : NodeState) (widths : FitsBytes s) (mid new : View)
    (held : IsTrue tells.content → IsHeld (formatted (record_of s)) mid)
    (reads : IsTrue tells.content → mid.images mid.seen) (given : state_given Centre (record_of s) [] ≡ Ok s) where
  stand_so : IsTrue tells.content → stands mid.seen ≡ Some (formatted (record_of s))
  stand_so told = ((held told).whole mid.seen (reads told)).stands

  all_whole : IsTrue tells.content → AllWhole mid
  all_whole told image is = (formatted (record_of s), (held told).whole image is)

  tables_so : (t : NodeState) → IsTrue tells.content → HasFound mid t → t ≡ s
  tables_so t told (z, stand, gives_t, widths) =
      let same : z ≡ formatted (record_of s) = some_of z (formatted (record_of s)) (sym stand ∙ stand_so told) in
      sym (ok_of s t
      (sym (ap (λ (y : Standing). state_given Centre y.content (concat y.payloads)) same ∙ given) ∙ gives_t))

  pub laid_out : (old : View) (r : Result (Hosted CoreValue) AdminFault) → Unrisen old.faults mid.faults
      → HasBooted tells c mid r new → HasLaidOut tells c s old r new
  laid_out old (Ok centre) same booted = record {
    up = λ told. subst (λ (t : NodeState). IsUp c t centre new)
        (tables_so centre.core.tables told (booted.found told)) (booted.up told (all_whole told));
    store = booted.store;
    faults = tt;
    unrisen = λ not. booted.unrisen not ∙ same;
  }
  laid_out old (Err f) same booted = record {
    up = tt;
    store = tt;
    faults = fault f booted.faults;
    unrisen = λ not. booted.unrisen not ∙ same;
  }
    where
      fault : (f : AdminFault) → IsBootFault tells mid new f → IsLayOutFault tells old new f
      fault AdminDisk h = later old.faults mid.faults new.faults same h
      fault NoStore h = λ told. let e : None ≡ Some (formatted (record_of s)) =
          sym (h told) ∙ stand_so told in absurd (cc)
      fault (BadStore at) h = λ told.
          let z = h told in
          let same : z.0 ≡ formatted (record_of s) =
          (let e : Some z.0 ≡ Some (formatted (record_of s)) = sym z.1 ∙ stand_so told in cc) in
          no_fault at s widths
          (sym (ap (λ (y : Standing). found_tables (state_given Centre y.content (concat y.payloads))) same ∙ ap
          found_tables given) ∙ z.2)
      fault AdminWorn h = h
      fault Write h = h
      fault LackOfMemory h = h ∙ same

-- every image represents what the centre has
pub images_stand : (c : Setting) (b : Option NodeState) (centre : Option (Hosted CoreValue)) (v : View)
    → Stands c b centre v → (image : List ℕ) → v.images image → StandsAs b image
images_stand c None None v empty image there = empty.images image there
images_stand c None (Some host) v stood image there = absurd stood
images_stand c (Some s) None v stood image there = absurd stood
images_stand c (Some s) (Some host) v up image there = (
  up.standing,
  up.current.held.whole image there,
  subst (λ (x : CoreValue). Gives (restored Centre) up.standing (recorded x)) up.core up.current.gives_it,
)

-- ---- an event

module _ (c : Setting) (event : NodeEvent) (before after : Hosted CoreValue) (p : CorePlan)
    (plan : IsCorePlan Centre before.core event p) (leads : IsCoreAfter before.core p after.core) where
  abbrev pub task : Task
  task = task_of event

  next_core : (s : NodeState) → before.core ≡ record { setting = c; tables = s } → after.core
      ≡ record { setting = c; tables = tables_after c task s }
  next_core s e =
      core_plan_leads Centre before.core after.core event p plan leads
      ∙ ap (λ (x : CoreValue). let y : CoreValue =
      record { setting = x.setting; tables = shown (answered (answer real x.setting x.tables task) x.tables) } in
      y) e

  pub answer_so : (s : NodeState) → before.core ≡ record { setting = c; tables = s }
      → IsAnswer p (answer real c s task)
  answer_so s core = subst (λ (x : CoreValue). IsAnswer p (answer real x.setting x.tables task)) core
      plan.answer_is

  -- the same of a plan with these parts
  pub told_so : (all : ArrayVec Change) (out : Outcome Term Refusal) → out ≡ p.out → all ≡ p.changes → (s : NodeState)
      → before.core ≡ record { setting = c; tables = s } → IsAnswer (record { changes = all; out = out })
      (answer real c s task)
  told_so all out same same_all s core =
      subst (λ (o : Outcome Term Refusal). IsAnswer (record { changes = all; out = o }) (answer real c s task))
      (sym same)
      (subst (λ (v : ArrayVec Change). IsAnswer (record { changes = v; out = p.out }) (answer real c s task))
      (sym same_all) (answer_so s core))

  pub moments_so : (tells : Telling) (old new : View)
      → ((z : Standing) → IsCurrent (restored Centre) recorded z before old → IsTrue tells.content
      → LeavesOnly old new (StandsForEither (restored Centre) (recorded before.core) (recorded after.core)))
      → IsTrue tells.content → (s : NodeState) → IsUp c s before old
      → LeavesOnly old new (StandsAsEither (Some s) (Some (tables_after c task s)))
  moments_so tells old new moments told s up =
      subst (λ (t : List ℕ). LeavesOnly old new (StandsForEither (restored Centre) (record_of s) t))
      (ap recorded (next_core s up.core))
      (subst (λ (t : List ℕ). LeavesOnly old new (StandsForEither (restored Centre) t (recorded after.core)))
      (ap recorded up.core) (moments up.standing up.current told))

  -- a refused event of its own changes nothing
  pub spared_so : (old new : View) (changes : List Change) (out : Outcome Term Refusal) → out ≡ p.out → changes
      ≡ p.changes.items → shown before.core.tables ≡ before.core.tables → (changes ≡ [] → IsStill old new)
      → is_own task ≡ true → is_some out.refused ≡ true → IsStill old new × (after.core ≡ before.core)
  spared_so old new changes out same_out same forgets still own refused =
      let is = plan.answer_is in
      let a = answer real before.core.setting before.core.tables task in
      let some : is_some a.refusal ≡ true = ap is_some (sym is.refusal) ∙ some_mapped reason p.out.refused ∙ sym
      (ap (λ (o : Outcome Term Refusal). is_some o.refused) same_out) ∙ refused in
      let none : changes
      ≡ [] = same ∙ none_changed p.changes.items
      (is.changes ∙ refused_edits before.core.setting before.core.tables task own some) in
      let tables : shown (answered a before.core.tables) ≡ before.core.tables =
      ap shown (refused_effect before.core.setting before.core.tables task own some) ∙ forgets in (
        still none,
        core_plan_leads Centre before.core after.core event p plan leads ∙ ap
            (λ (t : NodeState). let y : CoreValue = record { setting = before.core.setting; tables = t } in y) tables,
      )

  -- a plan that has changes is an answer that has some
  pub wanted_so : p.changes.items ≢ [] → (s : NodeState) → before.core ≡ record { setting = c; tables = s }
      → (answer real c s task).edits ≢ []
  wanted_so some s core = λ none. some (none_changed p.changes.items ((answer_so s core).changes ∙ none))

  -- what a commit leaves, and no commit
  abbrev pub Kept : Telling → View → View → List Change → Type 0
  Kept tells old new changes = changes ≢ [] → (z : Standing) → IsCurrent (restored Centre) recorded z before old
      → IsTrue tells.content
      → (y : Standing) × IsCurrent (restored Centre) recorded y after new

  abbrev pub Idle : View → View → List Change → Type 0
  Idle old new changes = changes ≡ [] → (z : Standing) → IsCurrent (restored Centre) recorded z before old
      → IsCurrent (restored Centre) recorded z after new

  pub up_after : (tells : Telling) (old new : View) (changes : List Change) → Kept tells old new changes
      → Idle old new changes → (changes ≢ [] → after.whole ≡ false) → (changes ≡ [] → after.whole ≡ before.whole)
      → IsTrue tells.content → (s : NodeState) → IsUp c s before old → IsUp c (tables_after c task s) after new
  up_after tells old new [] kept idle entry same told s up = record {
    core = next_core s up.core;
    standing = up.standing;
    current = idle refl up.standing up.current;
    first = λ is. up.first (sym (same refl) ∙ is);
  }
  up_after tells old new (x ∷ xs) kept idle entry same told s up =
      let some : (x ∷ xs) ≢ [] = λ e. absurd (cc) in
      let next = kept some up.standing up.current told in
      record {
        core = next_core s up.core;
        standing = next.0;
        current = next.1;
        first = λ is. no_first (sym (entry some) ∙ is);
      }
    where
      no_first : {A : Type 0} → false ≡ true → A
      no_first e = absurd (cc)

-- the generations are used up
same_place : (p q : Place) → Some p ≡ Some q → p ≡ q
same_place p q e = ap value e
  where
    value : Option Place → Place
    value (Some x) = x
    value None = p

worn_so : (before : Hosted CoreValue) (z : Standing) (p : Place) → before.store ≡ Some (place_of z) → before.store
    ≡ Some p → p.generation ≡ 18446744073709551615 → writes_whole before ≡ true
    → (before.whole ≡ true → get_or z.content 0 0 ≡ 1) → IsWornOut z
worn_so before z p place is last whole first = record {
  last = ap (λ (x : Place). x.generation) (same_place (place_of z) p (sym place ∙ is)) ∙ last;
  whole = by_version before.whole first (subst (λ (o : Option Place). (before.whole || is_full o) ≡ true) place whole);
}
  where
    by_version : (b : Bool) → (b ≡ true → get_or z.content 0 0 ≡ 1) → (b || (length z.payloads == 32)) ≡ true
        → (get_or z.content 0 0 ≡ 1) ⊎ (length z.payloads ≡ 32)
    by_version true first e = inl (first refl)
    by_version false first e = inr (eqb-true (length z.payloads) 32 e)

pub event_fault : (tells : Telling) (c : Setting) (before : Hosted CoreValue) (old new : View) (f : RecordFault)
    → (IsTrue tells.content → old.images old.seen) → host.IsUnstored (writes_whole before) before.store old new f
    → (f ≡ Worn → IsStill old new)
    → IsEventFault tells c old new before (fault_of (Fault f))
event_fault tells c before old new Disk reads h still = h
event_fault tells c before old new NoRecord reads h still = h
event_fault tells c before old new (BadRecord at) reads h still = h
event_fault tells c before old new Worn reads h still = λ told s up.
    let held = (up.current.held.whole old.seen (reads told)).stands in (
      up.standing,
      ap stands (still refl).same.seen ∙ held,
      worn_so before up.standing h.1.0 up.current.place h.1.1
          h.1.2 h.0 up.first,
    )

-- an event that is worn: the host is at its last generation
event_worn : (before : Hosted CoreValue) (old new : View) (f : RecordFault)
    → host.IsUnstored (writes_whole before) before.store old new f → fault_of (Fault f) ≡ AdminWorn → IsWorn before
event_worn before old new Disk h is = let none : AdminDisk ≡ AdminWorn = is in absurd (cc)
event_worn before old new NoRecord h is = absurd h
event_worn before old new (BadRecord at) h is = absurd h
event_worn before old new Worn h is = (h.0, h.1)

-- the call for an event

pub handled_ok : (tells : Telling) (c : Setting) (event : NodeEvent) (before after : Hosted CoreValue)
    (p : CorePlan) (plan : IsCorePlan Centre before.core event p)
    (leads : IsCoreAfter before.core p after.core) (old new : View) (all : ArrayVec Change) (changes : List Change)
    (out : Outcome Term Refusal)
    → out ≡ p.out → all ≡ p.changes → changes ≡ p.changes.items → shown before.core.tables ≡ before.core.tables
    → (changes ≡ [] → IsStill old new) → Kept c event before after p plan leads tells old new changes
    → Idle c event before after p plan leads old new changes → (changes ≢ [] → after.whole ≡ false)
    → (changes ≡ [] → after.whole ≡ before.whole)
    → ((z : Standing) → IsCurrent (restored Centre) recorded z before old → IsTrue tells.content
    → LeavesOnly old new (StandsForEither (restored Centre) (recorded before.core) (recorded after.core)))
    → is_some after.store ≡ true
    → HasHandled tells c (task_of event) before old (Ok (record { changes = all; out = out })) after new
handled_ok tells c event before after p plan leads old new all changes out same same_all same_changes forgets still
    kept idle entry whole moments store = record {
      told = λ s up. told_so c event before after p plan leads all out same same_all s up.core;
      follows =
          λ s core. (
            told_so c event before after p plan leads all out same same_all s core,
            next_core c event before after p plan
                leads s core,
          );
      up = up_after c event before after p plan leads tells old new changes kept idle entry whole;
      store = store;
      moments = moments_so c event before after p plan leads tells old new moments;
      spared = spared_so c event before after p plan leads old new changes out same same_changes forgets still;
      faults = tt;
      worn = tt;
    }

pub handled_err : (tells : Telling) (c : Setting) (event : NodeEvent) (before after : Hosted CoreValue)
    (p : CorePlan) (plan : IsCorePlan Centre before.core event p)
    (leads : IsCoreAfter before.core p after.core) (old new : View) (f : RecordFault) (g : AdminFault)
    → g ≡ fault_of (Fault f) → (IsTrue tells.content → old.images old.seen)
    → ((z : Standing) → IsCurrent (restored Centre) recorded z before old → IsTrue tells.content
    → LeavesOnly old new (StandsForEither (restored Centre) (recorded before.core) (recorded after.core)))
    → host.IsUnstored (writes_whole before) before.store old new f → (f ≡ Worn → IsStill old new)
    → p.changes.items ≢ [] → HasHandled tells c (task_of event) before old (Err g) after new
handled_err tells c event before after p plan leads old new f g same reads moments fault still some = record {
  told = tt;
  follows = tt;
  up = tt;
  store = tt;
  moments = moments_so c event before after p plan leads tells old new moments;
  spared = tt;
  faults = subst (IsEventFault tells c old new before) (sym same)
      (event_fault tells c before old new f reads fault still);
  worn = λ is. (event_worn before old new f fault (sym same ∙ is), wanted_so c event before after p plan leads some);
}

pub booted_failed : (tells : Telling) (c : Setting) (old new : View) (f : OrMemory RecordFault) (g : AdminFault)
    → g ≡ fault_of f → (AllWhole old → IsTrue tells.content → LeavesOnly old new (WasThere old))
    → host.IsBootFault tells (restored Centre) old new f → HasBooted tells c old (Err g) new
booted_failed tells c old new f g same moments fault = record {
  found = tt;
  up = tt;
  store = tt;
  moments = moments;
  faults = subst (IsBootFault tells old new) (sym same) (boot_fault tells old new f fault);
  unrisen = λ not. boot_stands tells old new f fault (λ is. not (ap (λ (x : AdminFault). Err x) (same ∙ is)));
}

-- ---- tables for a new store

pub first_fits : (key : List ℕ) → length key ≡ 16 → FitsBytes (first_tables key)
unfolding first_state with_declared with_given_net
first_fits key is =
    record {
      declared = omega arith;
      aps_limit = omega arith;
      nets = (record { key = is; limit = omega arith; floors = tt }, tt);
      links = tt;
      pairs = tt;
    }

pub first_role : (key : List ℕ) → (first_tables key).role ≡ Centre
unfolding first_state with_declared with_given_net
first_role key = refl

-- widths of a backup are those of a record
has_fits : (s : NodeState) → has_widths s ≡ true → FitsBytes s
unfolding has_widths fits_widths
has_fits s e =
    let a = both (is_counter s.declared) _ e in
    let b = both (is_counter s.aps_limit) _ a.1 in
    let n = both (list_all backup.net_fits s.nets) _ b.1 in
    let l = both (list_all backup.link_fits s.links) _ n.1 in
    fits_from s
    (rw (
      a.0,
      b.0,
      all_from backup.net_fits ranges.net_fits net s.nets n.0,
      all_from backup.link_fits ranges.link_fits link s.links l.0,
      all_from backup.pair_fits ranges.pair_fits pair
          s.pairs l.1,
    ) refl)
  where
    net : (r : NetKey) → backup.net_fits r ≡ true → ranges.net_fits r ≡ true
    net r e =
        let k = both (is_key r.key) _ e in
        let m = both (is_byte r.sequence) _ k.1 in
        let i = both (is_counter r.limit) _ m.1 in
        rw ((both (nat_eq (length r.key) 16) _ k.0).0, i.0, i.1) refl

    link : (r : LinkKey) → backup.link_fits r ≡ true → ranges.link_fits r ≡ true
    link r e =
        let k = both (is_eui r.partner) _ e in
        let m = both (is_key r.key) _ k.1 in
        rw (k.0, (both (nat_eq (length r.key) 16) _ m.0).0, m.1) refl

    pair : (p : PairKey) → backup.pair_fits p ≡ true → ranges.pair_fits p ≡ true
    pair p e =
        let k = both (is_eui p.first) _ e in
        let m = both (is_eui p.second) _ k.1 in
        rw (k.0, m.0, (both (nat_eq (length p.key) 16) _ m.1).0) refl

-- the tables that are read back are those of the backup
pub read_back : (bytes : List ℕ) (t : NodeState) → (s : NodeState) × IsOfCentre s × (bytes ≡ record_of s)
    → record_read bytes ≡ Ok t → (t.role ≡ Centre) × FitsBytes t
read_back bytes t (s, kept, is) read =
    let again : ◌≡◌ {A = Result NodeState ℕ} (Ok (shown (after_boot s))) (Ok t) =
    sym (record_again s kept.rules (has_fits s kept.widths)) ∙ sym (ap record_read is) ∙ read in
    let same : t ≡ s = sym (ok_of (shown (after_boot s)) t again) ∙ ap shown kept.booted ∙ kept.forgets in
    (ap (λ (x : NodeState). x.role) same ∙ kept.role, subst FitsBytes (sym same) (has_fits s kept.widths))

-- the record of a backup's tables has no fault
pub no_bad_place : (bytes : List ℕ) (e : KeyError) → (s : NodeState) × IsOfCentre s × (bytes ≡ record_of s)
    → BadPlace (Fault e) (length bytes) (record_read bytes) → ⊥
no_bad_place bytes (KeyOld place) kept bad_place = bad_place
no_bad_place bytes KeysFull kept bad_place = bad_place
no_bad_place bytes RowsFull kept bad_place = bad_place
no_bad_place bytes (KeyInUse partner) kept bad_place = bad_place
no_bad_place bytes NoRow kept bad_place = bad_place
no_bad_place bytes WrongHash kept bad_place = bad_place
no_bad_place bytes (BadBytes place) (s, kept, is) (left, wrong, there) =
    let again : ◌≡◌ {A = Result NodeState ℕ} (Ok (shown (after_boot s))) (Err left) =
    sym (record_again s kept.rules (has_fits s kept.widths)) ∙ sym (ap record_read is) ∙ wrong in
    absurd (cc)
