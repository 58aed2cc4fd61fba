-- What the disk of a node shows.
use Rattle.std.proofs.Common.{◌≡◌, inl, inr, ℕ, List, false, Option, Some, None, Result, Ok, Err, IfOk, [], refl, sym, ◌∙◌, ap, subst}
use Rattle.std.proofs.lemmas.Bool.{false≢true}
use Rattle.std.specs.List.{concat}
use Rattle.zb_base.specs.declared.fault.OrMemory.{OrMemory}
use Rattle.zb_base.specs.declared.fault.OrMemory.TheVariants.{Fault, NoMemory as Lacking}
use Rattle.zb_node_types.specs.declared.fault.KeyError.{KeyError}
use Rattle.zb_node_types.specs.declared.fault.KeyError.TheVariants.{KeyOld, KeysFull, RowsFull, KeyInUse, NoRow, WrongHash, BadRecord}
use Rattle.zb_disk.specs.View.{View}
use Rattle.zb_disk.specs.Memory.{Medium, memory_tells, memory_view}
use Rattle.zb_disk.proofs.Calls.{off_now}
use Rattle.zb_store.specs.declared.fault.StoreFault.{StoreFault}
use Rattle.zb_store.specs.declared.fault.StoreFault.TheVariants as store
use Rattle.zb_store.specs.Layout.{Standing, IsWhole, stands}
use Rattle.zb_store.specs.Reading.{AreContents}
use Rattle.zb_store.specs.Faults.{OnlyReads, IsReadFault}
use Rattle.zb_host.specs.Plans.{Restored, gives, bad, IsRestoreFault}
use Rattle.zb_host.specs.Hosts.{Restoring, Gives}
use Rattle.zb_host.proofs.Lives.{same_standing}
use Rattle.zb_armed_host.specs.Arms.{IsUnarmed}
use Rattle.zb_armed_host.specs.Driven.{IsShown, lacks_memory, core_lacks_memory, IsRecordIn, IsRecordOn, IsRecordOf}
use Rattle.zb_armed_host.proofs.Armings.{on}

abbrev IsThere : Option Standing → Type 0
IsThere None = ⊥
IsThere (Some s) = Unit {0}

abbrev IsGood : Restored → Type 0
IsGood (gives w) = Unit {0}
IsGood (bad at) = ⊥

abbrev value : Restored → List ℕ
value (gives w) = w
value (bad at) = []

-- a record that is given is read
pub unread : (fault : OrMemory KeyError) (given : Restored) (w : List ℕ) → core_lacks_memory fault ≡ false
    → IsRestoreFault given fault → given ≡ gives w → ⊥
unread Lacking given w lacks of_fault is = false≢true (sym lacks)
unread (Fault (KeyOld place)) given w lacks of_fault is = of_fault
unread (Fault KeysFull) given w lacks of_fault is = of_fault
unread (Fault RowsFull) given w lacks of_fault is = of_fault
unread (Fault (KeyInUse partner)) given w lacks of_fault is = of_fault
unread (Fault NoRow) given w lacks of_fault is = of_fault
unread (Fault WrongHash) given w lacks of_fault is = of_fault
unread (Fault (BadRecord at)) given w lacks of_fault is = subst IsGood (sym is ∙ of_fault) tt

-- what a core writes is the record that is given
pub written : (given : Restored) (bytes v w : List ℕ) → bytes ≡ v → given ≡ gives v → given ≡ gives w → bytes ≡ w
written given bytes v w are one other = are ∙ ap value (sym one ∙ other)

pub given_again : (given : Restored) (bytes v : List ℕ) → bytes ≡ v → given ≡ gives v → given ≡ gives bytes
given_again given bytes v are is = is ∙ ap gives (sym are)

-- a disk on which something stands and nothing is armed is read
pub unopened : {T : Type 0} (s : Standing) (m : Medium) (new : View) (fault : StoreFault) → IsWhole s m.bytes
    → IsUnarmed m → lacks_memory fault ≡ false
    → OnlyReads {T = T} memory_tells (memory_view m) new (Err fault)
    → IsReadFault memory_tells (memory_view m) new fault → ⊥
unopened s m new store.Disk whole quiet lacks reads of_fault =
    false≢true (sym (on m quiet) ∙ sym (off_now m.arming) ∙ reads.refusal refl refl)
unopened s m new store.NoRecord whole quiet lacks reads of_fault =
    subst IsThere (sym whole.stands ∙ of_fault.0 refl) tt
unopened s m new (store.TooLarge len) whole quiet lacks reads of_fault = of_fault
unopened s m new store.NoMemory whole quiet lacks reads of_fault = false≢true (sym lacks)
unopened s m new store.Worn whole quiet lacks reads of_fault = of_fault

-- what is shown of what is read is shown of what stands
pub shown_then : {E : Type 0} (restored : Restoring) (m : Medium) (content payloads room : List ℕ)
    (result : Result (Option ℕ) E) → AreContents content payloads m.bytes
    → IfOk result (λ r. (w : List ℕ) → restored content payloads ≡ gives w → IsShown r room w)
    → IfOk result (λ r. (s : Standing) (w : List ℕ) → IsWhole s m.bytes → IsUnarmed m → Gives restored s w
    → IsShown r room w)
shown_then restored m content payloads room (Err e) read shown = tt
shown_then restored m content payloads room (Ok r) read shown = λ s w whole quiet given.
    let same = same_standing read.0 s m.bytes read.1 whole.stands in
    let there = ap (λ (c : List ℕ). restored c payloads) (read.2 ∙ ap (λ (x : Standing). x.content) same) in
    shown w
    (there ∙ ap (λ (q : List ℕ). restored s.content q) (read.3 ∙ ap (λ (x : Standing). concat x.payloads) same) ∙
    given)

-- what the bytes give that are read is what those that stand give
given_there : (restored : Restoring) (content payloads bytes room : List ℕ) (shown : Option ℕ)
    → AreContents content payloads bytes → IsRecordIn (restored content payloads) shown room
    → IsRecordOn restored (stands bytes) shown room
given_there restored content payloads bytes room shown read is =
    let there = ap (λ (c : List ℕ). restored c payloads) read.2 ∙ ap (λ (q : List ℕ). restored read.0.content q)
    read.3 in
    subst (λ (found : Option Standing). IsRecordOn restored found shown room) (sym read.1)
    (subst (λ (given : Restored). IsRecordIn given shown room) there is)

pub record_then : {E : Type 0} (restored : Restoring) (m : Medium) (content payloads room : List ℕ)
    (result : Result (Option ℕ) E) → AreContents content payloads m.bytes
    → IfOk result (λ r. IsRecordIn (restored content payloads) r room)
    → IfOk result (λ r. IsRecordOf restored m r room)
record_then restored m content payloads room (Err e) read shown = tt
record_then restored m content payloads room (Ok None) read shown =
    inr (given_there restored content payloads m.bytes room None read shown)
record_then restored m content payloads room (Ok (Some len)) read shown =
    given_there restored content payloads m.bytes room (Some len) read shown

-- a disk that isn't read is off, or nothing stands on it
pub none_then : {T : Type 0} (restored : Restoring) (m : Medium) (new : View) (room : List ℕ) (fault : StoreFault)
    → lacks_memory fault ≡ false
    → OnlyReads {T = T} memory_tells (memory_view m) new (Err fault)
    → IsReadFault memory_tells (memory_view m) new fault → IsRecordOf restored m None room
none_then restored m new room store.Disk lacks reads of_fault = inl (sym (off_now m.arming) ∙ reads.refusal refl refl)
none_then restored m new room store.NoRecord lacks reads of_fault =
    inr (subst (λ (found : Option Standing). IsRecordOn restored found None room) (sym (of_fault.0 refl)) tt)
none_then restored m new room (store.TooLarge len) lacks reads of_fault = absurd of_fault
none_then restored m new room store.NoMemory lacks reads of_fault = absurd (false≢true (sym lacks))
none_then restored m new room store.Worn lacks reads of_fault = absurd of_fault

-- bytes of which no core is made give none
pub none_given : (fault : OrMemory KeyError) (given : Restored) (room : List ℕ) → core_lacks_memory fault ≡ false
    → IsRestoreFault given fault → IsRecordIn given None room
none_given Lacking given room lacks of_fault = absurd (false≢true (sym lacks))
none_given (Fault (KeyOld place)) given room lacks of_fault = absurd of_fault
none_given (Fault KeysFull) given room lacks of_fault = absurd of_fault
none_given (Fault RowsFull) given room lacks of_fault = absurd of_fault
none_given (Fault (KeyInUse partner)) given room lacks of_fault = absurd of_fault
none_given (Fault NoRow) given room lacks of_fault = absurd of_fault
none_given (Fault WrongHash) given room lacks of_fault = absurd of_fault
none_given (Fault (BadRecord at)) given room lacks of_fault = (at, of_fault)

-- what the proof of `dump` uses
pub ruleset dumps = (unopened, shown_then, record_then, none_then)

-- what the proof of `read_record` uses
pub ruleset reads = (unread, written, given_again, none_given)
