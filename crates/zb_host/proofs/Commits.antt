-- What commits make of a host.
use Rattle.std.proofs.Common.{◌≡◌, ◌≢◌, ◌≤◌, ◌++◌, inl, inr, List, [], ◌∷◌, ℕ, length, get_or, Bool, true, false, Option, Some, None, Result, Ok, Err, IfErr, IsTrue, refl, sym, ◌∙◌, ap, subst, arith, append_assoc, append-nil}
use Rattle.std.specs.List.{concat}
use Rattle.std.proofs.lemmas.Bool.{or_parts}
use Rattle.zb_disk.specs.View.{Telling, View, IsStill, LeavesOnly}
use Rattle.zb_disk.proofs.Moments.{weakened}
use Rattle.zb_store.specs.declared.fault.StoreFault.{StoreFault}
use Rattle.zb_store.specs.declared.fault.StoreFault.TheVariants.{Disk, NoRecord, TooLarge, NoMemory, Worn}
use Rattle.zb_store.specs.Layout.{Standing}
use Rattle.zb_store.specs.Store.{Place, place_of, IsReady, IsWholeEither}
use Rattle.zb_store.specs.Faults.{IsPutFault, IsAppendFault}
use Rattle.zb_host.specs.declared.fault.RecordFault.{RecordFault}
use Rattle.zb_host.specs.declared.fault.RecordFault.TheVariants as host
use Rattle.zb_host.specs.Plans.{gives}
use Rattle.zb_host.specs.HostFaults.{IsOfCommit, IsUnstored}
use Rattle.zb_host.specs.Hosts.{Restoring, Gives, StandsForEither, Hosted, IsCurrent, is_full, writes_whole, next_standing, IsCommitFault, IsCommit, CommitStop, IsWorn}

-- a record that fits makes no fault of its size
pub put_faults : (store : Place) (content : List ℕ) (old new : View) (r : Result Place StoreFault) → length content
    ≤ 49152
    → IfErr r (IsPutFault store content old new) → IfErr r (IsCommitFault true store old new)
put_faults store content old new (Ok after) small fault = tt
put_faults store content old new (Err Disk) small fault = fault
put_faults store content old new (Err NoRecord) small fault = fault
put_faults store content old new (Err (TooLarge len)) small fault = omega (arith, fault.1)
put_faults store content old new (Err NoMemory) small fault = fault
put_faults store content old new (Err Worn) small fault = (refl, fault.1, fault.2)

pub append_faults : (store : Place) (payload : List ℕ) (old new : View) (r : Result Place StoreFault) → length payload
    ≤ 481
    → IfErr r (IsAppendFault payload old new) → IfErr r (IsCommitFault false store old new)
append_faults store payload old new (Ok after) small fault = tt
append_faults store payload old new (Err Disk) small fault = fault
append_faults store payload old new (Err NoRecord) small fault = fault
append_faults store payload old new (Err (TooLarge len)) small fault = omega (arith, fault.1)
append_faults store payload old new (Err NoMemory) small fault = fault
append_faults store payload old new (Err Worn) small fault = absurd fault

-- where the generations are used up nothing was written
abbrev IsWornOut : Result Place StoreFault → Type 0
IsWornOut (Ok after) = ⊥
IsWornOut (Err Disk) = ⊥
IsWornOut (Err NoRecord) = ⊥
IsWornOut (Err (TooLarge len)) = ⊥
IsWornOut (Err NoMemory) = ⊥
IsWornOut (Err Worn) = Unit {0}

pub put_untouched : (old new : View) (r : Result Place StoreFault) → r ≡ Err Worn
    → IfErr r (λ fault. (fault ≡ Disk → ⊥) → IsStill old new) → IsStill old new
put_untouched old new r worn still =
    subst (λ (x : Result Place StoreFault). IfErr x (λ fault. (fault ≡ Disk → ⊥) → IsStill old new)) worn still
    (λ e. subst IsWornOut (ap (λ (f : StoreFault). Err f) e) tt)

-- the payloads with one more
concat_snoc : (ps : List (List ℕ)) (p : List ℕ) → concat (ps ++ p ∷ []) ≡ concat ps ++ p
concat_snoc [] p = append-nil p
concat_snoc (q ∷ ps) p = ap (λ (l : List ℕ). q ++ l) (concat_snoc ps p) ∙ sym (append_assoc q (concat ps) p)

-- what the next commit leaves gives the new core
pub next_gives : (restored : Restoring) (whole : Bool) (s : Standing) (content payload : List ℕ)
    → restored content [] ≡ gives content
    → (whole ≡ false → restored s.content (concat s.payloads ++ payload) ≡ gives content)
    → Gives restored (next_standing whole s content payload) content
next_gives restored true s content payload keeps adds = keeps
next_gives restored false s content payload keeps adds = ap (restored s.content) (concat_snoc s.payloads payload) ∙
    adds refl

-- and its record isn't of the first version
pub next_later : (whole : Bool) (s : Standing) (content payload : List ℕ) → get_or content 0 0 ≢ 1
    → (whole ≡ false → get_or s.content 0 0 ≢ 1)
    → get_or (next_standing whole s content payload).content 0 0 ≢ 1
next_later true s content payload newest later = newest
next_later false s content payload newest later = later refl

-- a host whose next commit is an entry has no record of the first version
pub entry_later : {C : Type 0} (host : Hosted C) (s : Standing) → (host.whole ≡ false → get_or s.content 0 0 ≢ 1)
    → writes_whole host ≡ false → get_or s.content 0 0 ≢ 1
entry_later host s later whole = later (or_parts host.whole (is_full host.store) whole).0

-- the images of a store represent the cores of a host
pub commit_moments : (restored : Restoring) (old new : View) (s next : Standing) (w content : List ℕ)
    → Gives restored s w → Gives restored next content
    → LeavesOnly old new (IsWholeEither s next) → LeavesOnly old new (StandsForEither restored w content)
commit_moments restored old new s next w content before after leaves =
    weakened old new (IsWholeEither s next) (StandsForEither restored w content) each leaves
  where
    each : (c : List ℕ) → IsWholeEither s next c → StandsForEither restored w content c
    each c (inl is) = inl (s, is, before)
    each c (inr is) = inr (next, is, after)

-- one store of a host that is up
pub some_is : (p q : Place) (o : Option Place) → o ≡ Some p → o ≡ Some q → p ≡ q
some_is p q o first second = some_inj (sym first ∙ second)
  where
    value : Option Place → Place
    value (Some x) = x
    value None = p

    some_inj : Some p ≡ Some q → p ≡ q
    some_inj e = ap value e

-- no entry is the whole record
abbrev Absent : Bool → Type 0
Absent true = ⊥
Absent false = Unit {0}

pub no_whole : {A : Type 0} → false ≡ true → A
no_whole e = absurd (subst Absent e tt)

pub append_untouched : (store : Place) (payload : List ℕ) (old new : View) (r : Result Place StoreFault) → r
    ≡ Err Worn → IfErr r (IsCommitFault false store old new) → IsStill old new
append_untouched store payload old new r worn fault =
    no_whole (subst (λ (x : Result Place StoreFault). IfErr x (IsCommitFault false store old new)) worn fault).0

-- what a core's laws say of the core after a plan
pub record Leading {C : Type 0} (restored : Restoring) (recorded : C → List ℕ) (before after : C) (payload : List ℕ) :
    Type 0 where
  pub keeps : restored (recorded after) [] ≡ gives (recorded after)
  pub newest : get_or (recorded after) 0 0 ≢ 1
  pub adds : (r q : List ℕ) → get_or r 0 0 ≢ 1 → restored r q ≡ gives (recorded before) → restored r (q ++ payload)
      ≡ gives (recorded after)

-- the store of a host that is up is ready
pub host_ready : {C : Type 0} (restored : Restoring) (recorded : C → List ℕ) (s : Standing) (host : Hosted C)
    (store : Place) (v : View) → host.store ≡ Some store
    → IsCurrent restored recorded s host v → IsReady store s v
host_ready restored recorded s host store v is current = record {
  place = some_is store (place_of s) host.store is current.place;
  held = current.held;
}

pub host_leads : {C : Type 0} (restored : Restoring) (recorded : C → List ℕ) (s : Standing) (host : Hosted C)
    (core : C) (payload : List ℕ) (v : View)
    → Leading restored recorded host.core core payload → IsCurrent restored recorded s host v
    → Gives restored (next_standing (writes_whole host) s (recorded core) payload) (recorded core)
host_leads restored recorded s host core payload v laws current =
    next_gives restored (writes_whole host) s (recorded core) payload laws.keeps
    (λ off. laws.adds s.content (concat s.payloads) (entry_later host s current.later off) current.gives_it)

pub host_moments : {C : Type 0} (restored : Restoring) (recorded : C → List ℕ) (tells : Telling) (s : Standing)
    (host : Hosted C) (core : C) (store : Place) (payload : List ℕ) (old new : View) (r : Result Place StoreFault)
    → host.store ≡ Some store → Leading restored recorded host.core core payload
    → IsCommit tells (writes_whole host) (recorded core) payload store old new r
    → IsCurrent restored recorded s host old → IsTrue tells.content
    → LeavesOnly old new (StandsForEither restored (recorded host.core) (recorded core))
host_moments restored recorded tells s host core store payload old new r is laws commit current told =
    commit_moments restored old new s (next_standing (writes_whole host) s (recorded core) payload)
    (recorded host.core) (recorded core) current.gives_it
    (host_leads restored recorded s host core payload old laws current)
    (commit.moments s (host_ready restored recorded s host store old is current) told)

pub host_kept : {C : Type 0} (restored : Restoring) (recorded : C → List ℕ) (tells : Telling) (s : Standing)
    (host : Hosted C) (core : C) (store after : Place) (payload : List ℕ) (old new : View)
    → host.store ≡ Some store → Leading restored recorded host.core core payload
    → IsCommit tells (writes_whole host) (recorded core) payload store old new (Ok after)
    → IsCurrent restored recorded s host old → IsTrue tells.content
    → IsCurrent restored recorded (next_standing (writes_whole host) s (recorded core) payload)
    (record { core = core; whole = false; store = Some after }) new
host_kept {C} restored recorded tells s host core store after payload old new is laws commit current told =
    let ready = commit.ready s (host_ready restored recorded s host store old is current) told in
    record {
      place = ap (λ (p : Place). Some p) ready.place;
      held = ready.held;
      gives_it = host_leads restored recorded s host core payload old laws current;
      later = λ off. next_later (writes_whole host) s (recorded core) payload laws.newest
          (entry_later host s current.later);
    }

pub host_stopped : {C : Type 0} (restored : Restoring) (recorded : C → List ℕ) (tells : Telling) (s : Standing)
    (host : Hosted C) (core : C) (store : Place) (payload : List ℕ) (old new : View) (f : StoreFault)
    → host.store ≡ Some store → f ≡ Disk → IsCommit tells (writes_whole host) (recorded core) payload store old new
    (Err f)
    → IsCurrent restored recorded s host old → IsTrue tells.content → IsTrue tells.steady
    → CommitStop tells (writes_whole host) s (recorded core) payload old new
host_stopped restored recorded tells s host core store payload old new f is disk commit current told steady =
    commit.stopped (ap (λ (g : StoreFault). Err g) disk) s (host_ready restored recorded s host store old is current)
    told steady

-- a commit for which there is no generation doesn't go through, and its fault isn't the disk's
abbrev Went : Result Place StoreFault → Type 0
Went (Ok after) = Unit {0}
Went (Err f) = ⊥

pub went_not_worn : {C : Type 0} (tells : Telling) (host : Hosted C) (store after : Place) (content payload : List ℕ)
    (old new : View) → host.store ≡ Some store
    → IsCommit tells (writes_whole host) content payload store old new (Ok after) → IsWorn host → ⊥
went_not_worn tells host store after content payload old new is commit worn =
    subst Went
    (commit.worn worn.0
    (ap (λ (p : Place). p.generation) (some_is store worn.1.0 host.store is worn.1.1) ∙ worn.1.2)) tt

abbrev IsOther : Result Place StoreFault → Type 0
IsOther (Ok after) = Unit {0}
IsOther (Err Disk) = Unit {0}
IsOther (Err NoRecord) = Unit {0}
IsOther (Err (TooLarge len)) = Unit {0}
IsOther (Err NoMemory) = Unit {0}
IsOther (Err Worn) = ⊥

pub disk_not_worn : {C : Type 0} (tells : Telling) (host : Hosted C) (store : Place) (content payload : List ℕ)
    (old new : View) (f : StoreFault) → host.store ≡ Some store → f ≡ Disk
    → IsCommit tells (writes_whole host) content payload store old new (Err f) → IsWorn host → ⊥
disk_not_worn tells host store content payload old new f is disk commit worn =
    subst IsOther
    (sym (ap (λ (g : StoreFault). Err g) disk) ∙ commit.worn worn.0
    (ap (λ (p : Place). p.generation) (some_is store worn.1.0 host.store is worn.1.1) ∙ worn.1.2)) tt

-- why changes weren't stored, by the fault of the store
abbrev IsDisks : RecordFault → Type 0
IsDisks host.Disk = Unit {0}
IsDisks host.NoRecord = ⊥
IsDisks (host.BadRecord at) = ⊥
IsDisks host.Worn = ⊥

pub of_disk : (f : StoreFault) (g : RecordFault) → IsOfCommit f g → g ≡ host.Disk → f ≡ Disk
of_disk Disk g of is = refl
of_disk NoRecord g of is = absurd of
of_disk (TooLarge len) g of is = absurd of
of_disk NoMemory g of is = absurd of
of_disk Worn g of is = absurd (subst IsDisks (sym is ∙ of) tt)

pub of_worn : (f : StoreFault) (g : RecordFault) → IsOfCommit f g → g ≡ host.Worn → f ≡ Worn
of_worn Disk g of is = absurd (subst IsDisks (sym of ∙ is) tt)
of_worn NoRecord g of is = absurd of
of_worn (TooLarge len) g of is = absurd of
of_worn NoMemory g of is = absurd of
of_worn Worn g of is = refl

pub unstored : (whole : Bool) (store : Place) (o : Option Place) (old new : View) (f : StoreFault) (g : RecordFault)
    → IsOfCommit f g → o ≡ Some store
    → IsCommitFault whole store old new f → IsUnstored whole o old new g
unstored whole store o old new Disk g of is fault = subst (IsUnstored whole o old new) (sym of) fault
unstored whole store o old new NoRecord g of is fault = absurd fault
unstored whole store o old new (TooLarge len) g of is fault = absurd fault
unstored whole store o old new NoMemory g of is fault = absurd fault
unstored whole store o old new Worn g of is fault =
    subst (IsUnstored whole o old new) (sym of) (fault.0, (store, is, fault.1), fault.2)

-- a fault in its place
abbrev Ended : Type 0
Ended = Result (Unit {0}) RecordFault

fault_in : RecordFault → Ended → RecordFault
fault_in d (Ok u) = d
fault_in d (Err f) = f

pub same_fault : (f g : RecordFault) (r s : Ended) → r ≡ Err f → s ≡ Err g → r ≡ s → f ≡ g
unfolding fault_in
same_fault f g r s first second same = sym (ap (fault_in f) first) ∙ ap (fault_in f) same ∙ ap (fault_in f) second
