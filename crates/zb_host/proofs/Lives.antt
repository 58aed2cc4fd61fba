-- What was handed out stands at the next boot.
use Rattle.std.proofs.Common.{◌≡◌, ◌≢◌, ◌++◌, inl, inr, List, [], ◌∷◌, ℕ, Bool, true, false, Option, Some, None, Ok, Err, is_some, IsTrue, refl, sym, ◌∙◌, ap, subst, append-nil}
use Rattle.std.specs.List.{concat}
use Rattle.zb_disk.specs.View.{View}
use Rattle.zb_store.specs.Layout.{Standing, IsWhole, stands}
use Rattle.zb_store.specs.Store.{AllWhole, WasThere}
use Rattle.zb_node_types.specs.declared.change.Change.{Change}
use Rattle.zb_base.specs.declared.fault.OrMemory.{OrMemory}
use Rattle.zb_base.specs.declared.fault.OrMemory.TheVariants.{Fault, NoMemory}
use Rattle.zb_host.specs.declared.fault.RecordFault.{RecordFault}
use Rattle.zb_host.specs.declared.fault.RecordFault.TheVariants.{Disk, NoRecord, BadRecord, Worn}
use Rattle.zb_host.specs.Plans.{Restored, gives, bad}
use Rattle.zb_host.specs.HostFaults.{IsBootFault}
use Rattle.zb_host.specs.Hosts.{Restoring, Gives, StandsFor, StandsForEither, Hosted, IsCurrent}
use Rattle.zb_host.specs.Calls.{Words, IsBooted}
use Rattle.zb_host.specs.Lives.{handle, boot, Step, returns, cut_short, crash, AreSteps, Event, record_after, IsAfterFirst, IsSpared, EachGoesOn, EachBootGoesOn}

-- one more event
abbrev event : List ℕ → Bool → Event
event w out = record { after = w; out = out }

after_snoc : (before : List ℕ) (es : List Event) (e : Event) → record_after before (es ++ e ∷ []) ≡ e.after
after_snoc before [] e = refl
after_snoc before (f ∷ es) e = after_snoc f.after es e

-- no event is left out, or the last, from which nothing was handed out
all_of_them : (booted : List ℕ) (es : List Event) (w : List ℕ) (out : Bool)
    → IsAfterFirst booted (es ++ event w out ∷ []) w
all_of_them booted es w out = record {
  first = es ++ event w out ∷ [];
  others = [];
  all = sym (append-nil (es ++ event w out ∷ []));
  record_is = sym (after_snoc booted es (event w out));
  none_out = tt;
}

all_but_one : (booted : List ℕ) (es : List Event) (v w : List ℕ) → v ≡ record_after booted es
    → IsAfterFirst booted (es ++ event w false ∷ []) v
all_but_one booted es v w is =
    record { first = es; others = event w false ∷ []; all = refl; record_is = is; none_out = (refl, tt) }

none_yet : (booted : List ℕ) → IsAfterFirst booted [] booted
none_yet booted = record { first = []; others = []; all = refl; record_is = refl; none_out = tt }

-- what an image represents while a node lives on from a boot
abbrev Left : Restoring → List ℕ → List Event → List ℕ → Type 0
Left restored booted es c = (w : List ℕ) × StandsFor restored w c × IsAfterFirst booted es w

-- a host that is up is current
abbrev IsRunning : {C D : Type 0} → Words C D → List ℕ → List Event → Option (Hosted C) → D → Type 0
IsRunning words booted es None disk = Unit {0}
IsRunning words booted es (Some host) disk = IsTrue (is_some host.store)
    → (s : Standing) × IsCurrent words.restored words.recorded s host (words.state disk)
    × (words.recorded host.core ≡ record_after booted es)

-- one standing of an image, and one record of a standing
pub same_standing : (s r : Standing) (c : List ℕ) → stands c ≡ Some s → stands c ≡ Some r → s ≡ r
same_standing s r c first second = some_inj (sym first ∙ second)
  where
    value : Option Standing → Standing
    value (Some x) = x
    value None = s

    some_inj : Some s ≡ Some r → s ≡ r
    some_inj e = ap value e

pub same_record : (restored : Restoring) (s r : Standing) (w v : List ℕ) → s ≡ r → Gives restored s w
    → Gives restored r v → w ≡ v
same_record restored s r w v same first second =
    gives_inj (sym first ∙ ap (λ (t : Standing). restored t.content (concat t.payloads)) same ∙ second)
  where
    value : Restored → List ℕ
    value (gives x) = x
    value (bad at) = w

    gives_inj : gives w ≡ gives v → w ≡ v
    gives_inj e = ap value e

-- what stands in an image that stood in one before
stood : (restored : Restoring) (booted : List ℕ) (es : List Event) (old : View)
    → ((c : List ℕ) → old.images c → Left restored booted es c)
    → (c : List ℕ) → WasThere old c → Left restored booted es c
stood restored booted es old images c was =
    let s = was.0 in
    let d = was.2.0 in
    let left = images d was.2.1 in
    let same = same_standing left.1.0 s d left.1.1.stands was.2.2.stands in
    (left.0, (s, was.1, subst (λ (t : Standing). Gives restored t left.0) same left.1.2), left.2)

all_whole : (restored : Restoring) (booted : List ℕ) (es : List Event) (v : View)
    → ((c : List ℕ) → v.images c → Left restored booted es c) → AllWhole v
all_whole restored booted es v images = λ c is. let left = images c is in (left.1.0, left.1.1)

-- an image after a call of `handle` that handed nothing out
after_handle : (restored : Restoring) (booted : List ℕ) (es : List Event) (v w c : List ℕ) → v
    ≡ record_after booted es → StandsForEither restored v w c
    → Left restored booted (es ++ event w false ∷ []) c
after_handle restored booted es v w c is (inl old) = (v, old, all_but_one booted es v w is)
after_handle restored booted es v w c is (inr new) = (w, new, all_of_them booted es w false)

-- a host goes on after what it handed out
abbrev IsOn : {C D : Type 0} → Words C D → Hosted C → D → Type 0
IsOn words host disk = (s : Standing) × IsCurrent words.restored words.recorded s host (words.state disk)

goes_on : {C D : Type 0} (words : Words C D) (before after : Hosted C) (old new : D) (items : List Change)
    (s : Standing) → IsCurrent words.restored words.recorded s before (words.state old)
    → ((items ≢ []) → IsOn words after new) → (items ≡ [] → IsOn words after new) → IsOn words after new
goes_on words before after old new [] s current some none = none refl
goes_on words before after old new (x ∷ xs) s current some none = some (λ e. absurd (subst Empty (sym e) tt))
  where
    Empty : List Change → Type 0
    Empty [] = Unit {0}
    Empty (y ∷ ys) = ⊥

on_left : {C D : Type 0} (words : Words C D) (host : Hosted C) (disk : D) (booted : List ℕ) (es : List Event)
    → IsOn words host disk → IsAfterFirst booted es (words.recorded host.core)
    → (c : List ℕ) → (words.state disk).images c → Left words.restored booted es c
on_left words host disk booted es on is c image =
    (words.recorded host.core, (on.0, on.1.held.whole c image, on.1.gives_it), is)

-- a host that is down isn't running
abbrev NoStore : {P : Type 0} → Option P → Type 0
NoStore None = Unit {0}
NoStore (Some p) = ⊥

not_running : {P A : Type 0} (o : Option P) → o ≡ None → IsTrue (is_some o) → A
not_running None is up = absurd (subst Truth (sym up) tt)
  where
    Truth : Bool → Type 0
    Truth true = Unit {0}
    Truth false = ⊥
not_running (Some p) is up = absurd (subst NoStore (sym is) tt)

-- a boot that fails loses no record
abbrev IsGiven : Restored → Type 0
IsGiven (gives w) = Unit {0}
IsGiven (bad at) = ⊥

abbrev IsSome : {P : Type 0} → Option P → Type 0
IsSome None = ⊥
IsSome (Some p) = Unit {0}

not_bad : (restored : Restoring) (s r : Standing) (w : List ℕ) (at : ℕ) → s ≡ r → Gives restored s w
    → restored r.content (concat r.payloads) ≡ bad at → ⊥
not_bad restored s r w at same is isnt =
    subst IsGiven (sym is ∙ ap (λ (t : Standing). restored t.content (concat t.payloads)) same ∙ isnt) tt

spared : {C D : Type 0} (words : Words C D) (booted : List ℕ) (es : List Event) (old new : D)
    (fault : OrMemory RecordFault) → IsTrue words.tells.content
    → Left words.restored booted es (words.state old).seen → IsBootFault words.tells words.restored (words.state old)
    (words.state new) fault → IsSpared fault
spared words booted es old new (Fault Disk) told left is = tt
spared words booted es old new (Fault NoRecord) told left is = subst IsSome (sym left.1.1.stands ∙ is.0 told) tt
spared words booted es old new (Fault (BadRecord at)) told left is =
    let found = is.0 told in
    not_bad words.restored left.1.0 found.0 left.0 at
    (same_standing left.1.0 found.0 (words.state old).seen left.1.1.stands found.1) left.1.2 found.2
spared words booted es old new (Fault Worn) told left is = is
spared words booted es old new NoMemory told left is = tt

-- the record of a boot that answers
answered : {C D : Type 0} (words : Words C D) (booted : List ℕ) (es : List Event) (old new : D) (host : Hosted C)
    → IsTrue words.tells.content
    → Left words.restored booted es (words.state old).seen → IsBooted words old (Ok host) new
    → IsAfterFirst booted es (words.recorded host.core)
answered words booted es old new host told left is =
    let found = is.answer told in
    let same = same_standing found.0 left.1.0 (words.state old).seen found.1 left.1.1.stands in
    let record_same = same_record words.restored found.0 left.1.0 (words.recorded host.core) left.0 same found.2
    left.1.2 in
    let it = left.2 in
    record {
      first = it.first;
      others = it.others;
      all = it.all;
      record_is = record_same ∙ it.record_is;
      none_out = it.none_out;
    }

is_on : {C D : Type 0} (words : Words C D) (old new : D) (host : Hosted C) → IsTrue words.tells.content
    → AllWhole (words.state old) → IsBooted words old (Ok host) new → IsOn words host new
is_on words old new host told whole is =
    let found = is.answer told in
    (found.0, is.ready whole told found.0 found.1)

-- from a boot that answered
later : {C D O : Type 0} (words : Words C D) → IsTrue words.tells.content
    → ((d : D) → (words.state d).images (words.state d).seen)
    → (booted : List ℕ) (es : List Event) (host : Option (Hosted C)) (disk : D) (steps : List (Step C D O))
    → ((c : List ℕ) → (words.state disk).images c → Left words.restored booted es c)
    → IsRunning words booted es host disk
    → AreSteps words host disk steps → EachGoesOn words.recorded booted es steps
later words told reads booted es host disk [] images running life = tt
later words told reads booted es host disk (returns (boot (Ok up) new) ∷ steps) images running life =
    let on = is_on words disk new up told (all_whole words.restored booted es (words.state disk) images) life.0 in
    let w = words.recorded up.core in (
      answered words booted es disk new up told (images (words.state disk).seen (reads disk)) life.0,
      later words told reads w [] (Some up) new steps (on_left words up new w [] on (none_yet w))
          (λ is_up. (on.0, on.1, refl)) life.1,
    )
later words told reads booted es host disk (returns (boot (Err fault) new) ∷ steps) images running life =
    let leaves = life.0.moments (all_whole words.restored booted es (words.state disk) images) told in (
      spared words booted es disk new fault told (images (words.state disk).seen (reads disk)) life.0.faults,
      later words told reads booted es None new steps
          (λ c is. stood words.restored booted es (words.state disk) images c (leaves.now c is)) tt life.1,
    )
later words told reads booted es (Some host) disk (returns (handle (Ok r) after new) ∷ steps) images running life =
    let on = running life.0.0 in
    let next = goes_on words host after disk new r.0.items on.0 on.1 (λ some. (_, life.0.1.kept some on.0 on.1 told))
    (λ none. (_, life.0.1.idle_kept none on.0 on.1)) in
    let w = words.recorded after.core in
    let more = es ++ event w true ∷ [] in
    later words told reads booted more (Some after) new steps
    (on_left words after new booted more next (all_of_them booted es w true))
    (λ is_up. (next.0, next.1, sym (after_snoc booted es (event w true)))) life.1
later words told reads booted es (Some host) disk (returns (handle (Err fault) after new) ∷ steps) images running
    life =
    let on = running life.0.0 in
    let leaves = life.0.1.moments on.0 on.1 told in
    let w = words.recorded after.core in
    later words told reads booted (es ++ event w false ∷ []) (Some after) new steps
    (λ c is. after_handle words.restored booted es (words.recorded host.core) w c on.2 (leaves.now c is))
    (λ is_up. not_running after.store life.0.1.down is_up) life.1
later words told reads booted es None disk (returns (handle (Ok r) after new) ∷ steps) images running life =
    absurd life.0
later words told reads booted es None disk (returns (handle (Err fault) after new) ∷ steps) images running life =
    absurd life.0
later words told reads booted es (Some host) disk (cut_short (handle result after new) left ∷ steps) images running
    life =
    let on = running life.0.0 in
    let leaves = life.0.1.moments on.0 on.1 told in
    let w = words.recorded after.core in
    later words told reads booted (es ++ event w false ∷ []) None left steps
    (λ c is. after_handle words.restored booted es (words.recorded host.core) w c on.2 (leaves.each c (life.1 c is)))
    tt life.2
later words told reads booted es None disk (cut_short (handle result after new) left ∷ steps) images running life =
    absurd life.0
later words told reads booted es host disk (cut_short (boot result new) left ∷ steps) images running life =
    let leaves = life.0.moments (all_whole words.restored booted es (words.state disk) images) told in
    later words told reads booted es None left steps
    (λ c is. stood words.restored booted es (words.state disk) images c (leaves.each c (life.1 c is))) tt life.2
later words told reads booted es host disk (crash left ∷ steps) images running life =
    later words told reads booted es None left steps (λ c is. images c (life.0 c is)) tt life.1

-- before it all images are whole, and there is no host
was_whole : (old : View) (c : List ℕ) → WasThere old c → (s : Standing) × IsWhole s c
was_whole old c was = (was.0, was.1)

begins : {C D O : Type 0} (words : Words C D) → IsTrue words.tells.content
    → ((d : D) → (words.state d).images (words.state d).seen)
    → (disk : D) (steps : List (Step C D O)) → AllWhole (words.state disk) → AreSteps words None disk steps
    → EachBootGoesOn words.recorded steps
begins words told reads disk [] whole life = tt
begins words told reads disk (returns (boot (Ok up) new) ∷ steps) whole life =
    let on = is_on words disk new up told whole life.0 in
    let w = words.recorded up.core in
    later words told reads w [] (Some up) new steps (on_left words up new w [] on (none_yet w))
    (λ is_up. (on.0, on.1, refl)) life.1
begins words told reads disk (returns (boot (Err fault) new) ∷ steps) whole life =
    begins words told reads new steps (λ c is. was_whole (words.state disk) c ((life.0.moments whole told).now c is))
    life.1
begins words told reads disk (returns (handle result after new) ∷ steps) whole life = absurd life.0
begins words told reads disk (cut_short (handle result after new) left ∷ steps) whole life = absurd life.0
begins words told reads disk (cut_short (boot result new) left ∷ steps) whole life =
    begins words told reads left steps
    (λ c is. was_whole (words.state disk) c ((life.0.moments whole told).each c (life.1 c is))) life.2
begins words told reads disk (crash left ∷ steps) whole life =
    begins words told reads left steps (λ c is. whole c (life.0 c is)) life.1

pub each_boot : {C D O : Type 0} (words : Words C D)
    → ((d : D) → IsTrue words.tells.content → (words.state d).images (words.state d).seen)
    → (disk : D) (steps : List (Step C D O)) → IsTrue words.tells.content → AllWhole (words.state disk)
    → AreSteps words None disk steps → EachBootGoesOn words.recorded steps
each_boot words reads disk steps told whole life = begins words told (λ d. reads d told) disk steps whole life
