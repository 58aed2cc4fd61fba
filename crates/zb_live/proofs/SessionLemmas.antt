-- A session before and after a line.
use Rattle.std.proofs.Common.{◌≡◌, ℕ, inl, inr, ◌++◌, Bool, true, false, List, [], ◌∷◌, Option, Some, None, Result, Ok, Err, IfErr, IfOk, OnOk, OnErr, IsTrue, append_assoc, append-nil, refl, sym, ap, ◌∙◌, subst, map, length, get_or, arith}
use Rattle.std.specs.Prelude.{◌==◌, ◌≢◌, bytes_eq, if◌then◌else◌, nat_eq, not, is_some, slice_get}
use Rattle.std.proofs.lemmas.Bool.{false≢true}
use Rattle.std.proofs.lemmas.Bool.Decides.{nat_tests}
use Rattle.std.proofs.lemmas.Slice.Eq.{bytes_eq-Decides}
use Rattle.zb_base.specs.Outside.{Unrisen}
use Rattle.zb_base.specs.declared.fault.OrMemory.{OrMemory}
use Rattle.zb_base.specs.declared.fault.OrMemory.TheVariants.{Fault, NoMemory as memory}
use Rattle.zb_base.specs.declared.node.Config.{Config}
use Rattle.zb_base.specs.declared.node.Peer.{Peer}
use Rattle.zb_centre_store.specs.Calls.{HasHandled, IsEventFault, IsJudged, IsShort, WasThereOrEmpty, tables_after}
use Rattle.zb_centre_store.specs.Standing.{IsUp, StandsAsEither}
use Rattle.zb_centre_store.specs.declared.fault.AdminFault.{AdminFault}
use Rattle.zb_centre_store.specs.declared.fault.AdminFault.TheVariants.{Disk, NoStore, BadStore, Worn, Write, NoMemory}
use Rattle.zb_centre_store.proofs.RefusedLemmas.{some_mapped}
use Rattle.zb_centre_store.proofs.StoreLemmas.{images_stand, there}
use Rattle.zb_disk.specs.View.{Telling, View, IsStill, LeavesOnly}
use Rattle.zb_disk.proofs.Moments.{started, still_refl, weakened}
use Rattle.arrayvec.specs.ArrayVec.{ArrayVec}
use Rattle.zb_core.specs.CorePlans.{CorePlan}
use Rattle.zb_host.specs.Hosts.{Hosted}
use Rattle.zb_live.specs.Alive.{CanServe, HasFollowed, HasSaid, HasTaken, CrashLeaves, LeavesEither, IsAlive, IsCentreOf, IsDeclared, IsLineFault, IsWaiting, answer_text, done_by, living_of, tables_of}
use Rattle.zb_live.specs.Happening.{HasAnswered, HasHappened, IsHappeningFault}
use Rattle.zb_live.specs.Events.{task_for}
use Rattle.zb_live.specs.Living.{Done, Found, HasChanges, Living, after_event, counted, declared, done, first_station, happened, next as next_number, on_meaning, on_stage, opened, refused, says_nothing, setting_of, station}
use Rattle.zb_live.specs.Shown.{Prints, event_lines, shown_text}
use Rattle.zb_live.specs.declared.session.Session.{Session}
use Rattle.zb_live.specs.Answers.{ok_text, refused_text}
use Rattle.zb_live.specs.Grammar.{meaning_of}
use Rattle.zb_script.specs.Resolving.{SaidTask}
use Rattle.zb_live.specs.Said.{Sentence, Quiet, Opens, Happens}
use Rattle.zb_live.specs.declared.cause.Cause.{Cause}
use Rattle.zb_live.specs.declared.cause.Cause.TheVariants as cause
use Rattle.zb_live.specs.declared.line.Log.{Log}
use Rattle.zb_model.specs.Answer.{Answer, answer}
use Rattle.zb_model.specs.Data as model
use Rattle.zb_model.specs.Data.{Station, Task}
use Rattle.zb_model.specs.Play.{no_station}
use Rattle.zb_model.specs.Rules.{Setting, station_of}
use Rattle.zb_model.specs.State.{NodeState}
use Rattle.zb_model_real.specs.Real.{real}
use Rattle.zb_plan.specs.Answers.{IsAnswer}
use Rattle.zb_script.specs.Judge.{has_centre}
use Rattle.zb_script.specs.Reading.{Steps}
use Rattle.zb_script.specs.Scripts as script
use Rattle.zb_script.specs.Scripts.{Script}
use Rattle.zb_script.specs.Views.{script_with, station_of as seen}
use Rattle.zb_script.specs.declared.error.ScriptCause.{ScriptCause}
use Rattle.zb_script.specs.declared.script.Step.{Step}
use Rattle.zb_setting.specs.Settings.{known, own, setting_for}
use Rattle.zb_stored_tables.specs.Cores.{CoreValue, IsOfRole}
use Rattle.zb_trace.specs.Views.{named, the_centre}
use Rattle.zb_trace_model.specs.Naming.{IsCalled, name_of}

-- ---- whether it is open

closed_of : {A : Type 0} (o : Option A) → is_some o ≡ false → o ≡ None
closed_of None e = refl
closed_of (Some x) e = absurd (false≢true (sym e))

open_of : {A : Type 0} (o : Option A) → is_some o ≡ true → (x : A) × (o ≡ Some x)
open_of None e = absurd (false≢true e)
open_of (Some x) e = (x, refl)

-- ---- lines that call no disk

pub said_open : (number : ℕ) (sentence : Sentence) (old : Session) (front text : List ℕ) (why : Cause)
    → is_some old.centre ≡ true
    → ((found : Found) (s : NodeState) → on_stage number found (Some s) sentence (living_of old)
    ≡ refused number why (living_of old)) → text ≡ front ++ refused_text number why
    → HasSaid number sentence old front old text
said_open number sentence old front text why some same prints = record {
  text = λ found. prints ∙ ap (λ (d : Done). front ++ d.text) (sym (at found));
  after = λ found. sym (ap (λ (d : Done). d.after) (at found));
  centre = refl;
  network = λ e. refl;
}
  where
    at : (found : Found) → done_by number found sentence old ≡ refused number why (living_of old)
    at found = let h =
        open_of old.centre some in ap
        (λ (o : Option (Hosted CoreValue)). on_stage number found (tables_of o) sentence (living_of old)) h.1 ∙ same
        found h.0.core.tables

pub said_closed : (number : ℕ) (sentence : Sentence) (old new : Session) (front text : List ℕ) (d : Done)
    → is_some old.centre ≡ false
    → ((found : Found) → on_stage number found None sentence (living_of old) ≡ d) → text ≡ front ++ d.text
    → living_of new ≡ d.after → new.centre ≡ old.centre
    → HasSaid number sentence old front new text
said_closed number sentence old new front text d none same prints after centre = record {
  text = λ found. prints ∙ ap (λ (e : Done). front ++ e.text) (sym (at found));
  after = λ found. after ∙ sym (ap (λ (e : Done). e.after) (at found));
  centre = centre;
  network = λ e. absurd (false≢true (sym none ∙ e));
}
  where
    at : (found : Found) → done_by number found sentence old ≡ d
    at found = ap (λ (o : Option (Hosted CoreValue)). on_stage number found (tables_of o) sentence (living_of old))
        (closed_of old.centre none) ∙ same found

-- a line of the network, where this is the network after it
pub declared_so : (number : ℕ) (v : Living) (after : Script) (taken : Result (Unit {0}) (OrMemory ScriptCause))
    (expected : Result Script ScriptCause) (front text : List ℕ)
    → Steps taken after expected → OnErr taken (after ≡ v.network) → IsDeclared taken → text ≡ front
    ++ answer_text number taken
    → (text ≡ front ++ (declared number v expected).text)
    × (record v { network = after } ≡ (declared number v expected).after)
declared_so number v after (Ok done) expected front text steps kept is prints = rw steps (prints, refl)
declared_so number v after (Err (Fault why)) expected front text steps kept is prints =
    rw steps (prints, ap (λ (n : Script). record v { network = n }) kept)
declared_so number v after (Err memory) expected front text steps kept is prints = absurd is

-- ---- what a crash leaves

-- before the session is open, and once it is
pub held : (found : Found) (session : Session) (now : View) → IsAlive found session now → (image : List ℕ)
    → now.images image → CrashLeaves now (living_of session).tables image
held found session now alive image left = by_centre session.centre alive
  where
    by_centre : (o : Option (Hosted CoreValue)) → IsCentreOf found session.network o now
        → CrashLeaves now (tables_of o) image
    by_centre None waits = there now waits.can image left
    by_centre (Some host) up = images_stand (setting_of session.network) (Some host.core.tables) (Some host) now up
        image left

-- a line that calls no disk was taken
pub said_taken : (number : ℕ) (sentence : Sentence) (found : Found) (old next : Session) (v : View)
    (front text : List ℕ) → HasSaid number sentence old front next text
    → IsAlive found old v → ((image : List ℕ) → v.since v.moment image → v.images image)
    → HasTaken found old (done_by number found sentence old) v front (Ok tt) next v text
said_taken number sentence found old next v front text has alive only_now = record {
  alive = goes_on old.centre refl;
  after = has.after found;
  text = has.text found;
  between = started v (LeavesEither v (living_of old).tables (done_by number found sentence old).after.tables) only_now
      (λ image left. inl (held found old v alive image left));
}
  where
    goes_on : (o : Option (Hosted CoreValue)) → old.centre ≡ o → IsAlive found next v
    goes_on None is =
        let here : IsWaiting found v = subst (λ (p : Option (Hosted CoreValue)). IsCentreOf found old.network p v) is
        alive in
        subst (λ (p : Option (Hosted CoreValue)). IsCentreOf found next.network p v) (sym (has.centre ∙ is)) here
    goes_on (Some host) is =
        let same : next.network ≡ old.network = has.network (ap is_some is) in
        subst (λ (n : Script). IsCentreOf found n next.centre v) (sym same)
        (subst (λ (p : Option (Hosted CoreValue)). IsCentreOf found old.network p v) (sym has.centre) alive)

-- ... or there was no memory for what it writes
pub said_short : (number : ℕ) (sentence : Sentence) (found : Found) (old next : Session) (v : View)
    (front text : List ℕ) (f : AdminFault)
    → IsAlive found old v → ((image : List ℕ) → v.since v.moment image → v.images image)
    → HasTaken found old (done_by number found sentence old) v front (Err f) next v text
said_short number sentence found old next v front text f alive only_now = record {
  alive = tt;
  after = tt;
  text = tt;
  between = started v (LeavesEither v (living_of old).tables (done_by number found sentence old).after.tables) only_now
      (λ image left. inl (held found old v alive image left));
}

pub said : (number : ℕ) (sentence : Sentence) (found : Found) (old next : Session) (v : View) (front text : List ℕ)
    (r : Result (Unit {0}) AdminFault) → OnOk r (HasSaid number sentence old front next text)
    → IsAlive found old v → ((image : List ℕ) → v.since v.moment image → v.images image)
    → HasTaken found old (done_by number found sentence old) v front r next v text
said number sentence found old next v front text (Ok done) is alive only_now =
    said_taken number sentence found old next v front text is alive only_now
said number sentence found old next v front text (Err f) is alive only_now = said_short number sentence found old next
    v front text f alive only_now

pub short_fault : (tells : Telling) (says : Option Sentence) (session : Session) (old : View)
    (r : Result (Unit {0}) AdminFault) → IsShort r → IfErr r (IsLineFault tells says session old old)
short_fault tells says session old (Ok done) short = tt
short_fault tells says session old (Err f) short = subst (IsLineFault tells says session old old) (sym short) refl

-- ---- the network

stations_seen : (peers : List Peer) → map (station 0 0) (map seen peers) ≡ map known peers
stations_seen [] = refl
stations_seen (p ∷ ps) = ap (λ (l : List Station). known p ∷ l) (stations_seen ps)

first_seen : (out_block in_block : ℕ) (peers : List Peer) → first_station out_block in_block (map seen peers)
    ≡ own out_block in_block (slice_get peers 0)
first_seen out_block in_block [] = refl
first_seen out_block in_block (p ∷ ps) = refl

-- the setting of a network is that of its configuration
pub setting_is : (config : Config) (network : Script) (steps : List Step)
    → script_with config.peers.items config.out_block config.in_block steps ≡ network → config.me ≡ 0
    → setting_of network ≡ setting_for config
unfolding setting_of setting_for
setting_is config network steps view me =
    ap setting_of (sym view)
    ∙ rw me
    (ap (λ (s : Station). let c : Setting =
    record { me = s; stations = map (station 0 0) (map seen config.peers.items) } in c)
    (first_seen config.out_block config.in_block config.peers.items)
    ∙ ap (λ (l : List Station). let c : Setting =
    record { me = own config.out_block config.in_block (slice_get config.peers.items 0); stations = l } in c)
    (stations_seen config.peers.items))

same_number : (n : ℕ) → nat_eq n n ≡ true
same_number n = grind (arith, nat_tests)

centre_of_nodes : (out_block in_block : ℕ) (nodes : List script.Station) → not (length nodes == 0) ≡ true
    → (first_station out_block in_block nodes).role ≡ model.Centre
    → IsCalled (map (station 0 0) nodes) (first_station out_block in_block nodes).eui
    (first_station out_block in_block nodes).name
    × (the_centre (map (station 0 0) nodes) ≡ (first_station out_block in_block nodes).eui)
unfolding name_of station_of named the_centre
centre_of_nodes out_block in_block [] has role = absurd (false≢true has)
centre_of_nodes out_block in_block (p ∷ more) has role = (
  record { name_is = rw (same_number p.eui) refl; leads = rw (same_name p.name) refl },
  rw role refl,
)
  where
    same_name : (name : List ℕ) → bytes_eq name name ≡ true
    same_name name = (bytes_eq-Decides name name).1 refl

-- the centre is the first node of a network, and its name leads to it
pub centre_called : (network : Script) → has_centre network ≡ true → (setting_of network).me.role ≡ model.Centre
    → IsCalled (setting_of network).stations (setting_of network).me.eui (setting_of network).me.name
    × (the_centre (setting_of network).stations ≡ (setting_of network).me.eui)
unfolding setting_of
centre_called network has role = centre_of_nodes network.out_block network.in_block network.stations has role

-- the name that a configuration has for the centre
pub centre_named : (network : Script) (config : Config) (steps : List Step) (peers : List Peer) (d : Peer)
    → has_centre network ≡ true
    → script_with config.peers.items config.out_block config.in_block steps ≡ network → config.me ≡ 0
    → IsOfRole model.Centre config → peers ≡ config.peers.items
    → IsCalled (setting_of network).stations (setting_of network).me.eui (get_or peers 0 d).name.bytes
    × (the_centre (setting_of network).stations ≡ (setting_of network).me.eui)
unfolding setting_of
centre_named network config steps peers d has view me role same =
    let setting = setting_is config network steps view me in
    let called = centre_called network has (ap (λ (c : Setting). c.me.role) setting ∙ role) in (
      subst (IsCalled (setting_of network).stations (setting_of network).me.eui)
          (name_of_first network.stations config.peers.items (ap (λ (s : Script). s.stations) view) (sym same) has)
          called.0,
      called.1,
    )
  where
    first_name : (out_block in_block : ℕ) (nodes : List Peer) → not (length (map seen nodes) == 0) ≡ true
        → (first_station out_block in_block (map seen nodes)).name ≡ (get_or nodes 0 d).name.bytes
    first_name out_block in_block [] some = absurd (false≢true some)
    first_name out_block in_block (p ∷ ps) some = refl

    name_of_first : (nodes : List script.Station) (all : List Peer) → map seen all ≡ nodes → all ≡ peers
        → not (length nodes == 0) ≡ true
        → (first_station network.out_block network.in_block nodes).name ≡ (get_or peers 0 d).name.bytes
    name_of_first nodes all is same some =
        ap (λ (l : List script.Station). (first_station network.out_block network.in_block l).name) (sym is)
        ∙ first_name network.out_block network.in_block all
        (subst (λ (l : List script.Station). not (length l == 0) ≡ true) (sym is) some)
        ∙ ap (λ (l : List Peer). (get_or l 0 d).name.bytes) same

-- ---- the session is opened

pub always : {T E P : Type 0} (r : Result T E) → P → OnOk r P
always (Ok x) p = p
always (Err e) p = tt

pub on_ok : {T E P Q : Type 0} (r : Result T E) → (P → Q) → OnOk r P → OnOk r Q
on_ok (Ok x) f p = f p
on_ok (Err e) f p = tt

pub on_both : {T E P Q R : Type 0} (r : Result T E) → (P → Q → R) → OnOk r P → OnOk r Q → OnOk r R
on_both (Ok x) f p q = f p q
on_both (Err e) f p q = tt

module _ (number : ℕ) (found : Found) (old next : Session) (tells : Telling) (told : IsTrue tells.content)
    (c : Setting) (none : is_some old.centre ≡ false) (has : has_centre old.network ≡ true) (before after : View)
    (alive : IsAlive found old before) (front text : List ℕ) where
  waits : IsWaiting found before
  waits = subst (λ (o : Option (Hosted CoreValue)). IsCentreOf found old.network o before) (closed_of old.centre none)
      alive

  abbrev pub d : Done
  d = done_by number found Opens old

  done_is : d ≡ opened number found (living_of old)
  done_is = ap (λ (o : Option (Hosted CoreValue)). on_stage number found (tables_of o) Opens (living_of old))
      (closed_of old.centre none) ∙ rw has refl

  was_held : (image : List ℕ) → WasThereOrEmpty before image
      → LeavesEither before (living_of old).tables d.after.tables image
  was_held image was =
      inl (subst (λ (o : Option (Hosted CoreValue)). CrashLeaves before (tables_of o) image)
      (sym (closed_of old.centre none)) was)

  pub opened_some : (host : Hosted CoreValue) (r : Result (Unit {0}) AdminFault) → setting_of old.network ≡ c
      → IsJudged tells c before (Ok (Some host)) after → next ≡ record old { centre = Some host }
      → OnOk r (text ≡ front ++ ok_text number) → HasTaken found old d before front r next after text
  opened_some host r setting judged is prints =
      let found_is : found ≡ Ok (Some host.core.tables) = sym waits.found_so ∙ judged.found told in
      let here : d ≡ opened number (Ok (Some host.core.tables)) (living_of old) =
      done_is ∙ ap (λ (f : Found). opened number f (living_of old)) found_is in
      record {
        alive =
            always r
            (subst (λ (s : Session). IsAlive found s after) (sym is)
            (subst (λ (x : Setting). IsUp x host.core.tables host after) (sym setting)
            (judged.stands_so told waits.can)));
        after = always r (ap living_of is ∙ sym (ap (λ (e : Done). e.after) here));
        text = on_ok r (λ t. t ∙ ap (λ (e : Done). front ++ e.text) (sym here)) prints;
        between = weakened before after (WasThereOrEmpty before)
            (LeavesEither before (living_of old).tables d.after.tables) was_held (judged.moments waits.can told);
      }

-- ---- an event of the centre

-- the calls for an event
module _ (tells : Telling) (told : IsTrue tells.content) (c : Setting) (s : NodeState) (task : Task) (log : Log)
    (event frame : ℕ) (me : List ℕ) (host after : Hosted CoreValue) (old new : View) (up : IsUp c s host old) where
  pub event_lines_stand : (p : CorePlan) (r : Result Bool AdminFault) (before page : List ℕ)
      → HasHandled tells c task host old (Ok p) after new
      → OnOk r ((known : List Station) (n : ℕ) (a : Answer) → IsCalled known n me → the_centre known ≡ n
      → IsAnswer p a → Prints log known (event_lines event n frame a) before page)
      → IfOk r (λ sends. sends ≡ is_some p.out.frame) → IsCalled c.stations c.me.eui me → the_centre c.stations
      ≡ c.me.eui
      → HasHappened c s task log event frame old before r after new page
  event_lines_stand p (Ok sends) before page h prints is called centre = record {
    up = h.up told s up;
    prints = prints c.stations c.me.eui (answer real c s task) called centre (h.told s up);
    sends = is ∙ sym (some_mapped (λ (f : ArrayVec ℕ). f.items) p.out.frame) ∙ ap is_some (h.told s up).frame;
    moments = h.moments told s up;
  }
  event_lines_stand p (Err f) before page h prints is called centre =
      record { up = tt; prints = tt; sends = tt; moments = h.moments told s up }

  pub event_lines_lack : (r : Result CorePlan AdminFault) (before page : List ℕ) (f : AdminFault)
      → HasHandled tells c task host old r after new
      → HasHappened c s task log event frame old before (Err f) after new page
  event_lines_lack r before page f h = record { up = tt; prints = tt; sends = tt; moments = h.moments told s up }

pub no_setting : Setting
no_setting = record { me = no_station; stations = [] }

pub handled_fault : (tells : Telling) (old new : View) (host : Hosted CoreValue) (f : AdminFault)
    → ((c : Setting) → IsEventFault tells c old new host f) → IsHappeningFault tells old new host f
handled_fault tells old new host Disk h = h
handled_fault tells old new host NoStore h = h
handled_fault tells old new host (BadStore at) h = h
handled_fault tells old new host Worn h = h
handled_fault tells old new host Write h = h
handled_fault tells old new host NoMemory h = absurd (h no_setting)

pub told_short : (tells : Telling) (old new : View) (host : Hosted CoreValue) (r : Result Bool AdminFault) → IsShort r
    → Unrisen old.faults new.faults → IfErr r (IsHappeningFault tells old new host)
told_short tells old new host (Ok sends) short same = tt
told_short tells old new host (Err f) short same = subst (IsHappeningFault tells old new host) (sym short) same

pub happening_fault : (tells : Telling) (says : Option Sentence) (session : Session) (old new : View)
    (host : Hosted CoreValue) (f : AdminFault) → session.centre ≡ Some host → IsHappeningFault tells old new host f
    → (f ≡ Worn → HasChanges says (living_of session)) → IsLineFault tells says session old new f
happening_fault tells says session old new host Disk is h stores = h no_setting
happening_fault tells says session old new host NoStore is h stores = absurd (h no_setting)
happening_fault tells says session old new host (BadStore at) is h stores = absurd (h no_setting)
happening_fault tells says session old new host Worn is h stores =
    (host, is, λ told c s up. h c told s up, stores refl)
happening_fault tells says session old new host Write is h stores = absurd (h no_setting)
happening_fault tells says session old new host NoMemory is h stores = h

-- an event at which the store is worn has something to store
pub event_stores : (session : Session) (event : SaidTask) (task : Task) (host : Hosted CoreValue) (f : AdminFault)
    → session.centre ≡ Some host → task_for session.network.stations event ≡ Ok task
    → host.core.setting ≡ setting_of session.network
    → (f ≡ Worn → (c : Setting) (s : NodeState) → host.core ≡ record { setting = c; tables = s }
    → (answer real c s task).edits ≢ [])
    → f ≡ Worn → HasChanges (Some (Happens event)) (living_of session)
event_stores session event task host f up is_task set stores is = record {
  event = event;
  is_event = refl;
  found = host.core.tables;
  is_open = ap tables_of up;
  task = task;
  is_task = is_task;
  changes = stores is (setting_of session.network) host.core.tables
      (ap (λ (x : Setting). let core : CoreValue = record { setting = x; tables = host.core.tables } in core) set);
}

-- where memory is short the store isn't worn
pub short_unworn : {T : Type 0} (P : Type 0) (r : Result T AdminFault) → IsShort r → IfErr r (λ f. f ≡ Worn → P)
short_unworn P (Ok x) short = tt
short_unworn P (Err f) short = λ is. let no : NoMemory ≡ Worn = sym short ∙ is in absurd (cc no)

module _ (number : ℕ) (found : Found) (old : Session) (event : SaidTask) (task : Task) (host host2 : Hosted CoreValue)
    (is_up : old.centre ≡ Some host) (stands_for : task_for old.network.stations event ≡ Ok task)
    (before after : View) (alive : IsAlive found old before) where
  abbrev pub c2 : Setting
  c2 = setting_of old.network

  abbrev pub done2 : Done
  done2 = done_by number found (Happens event) old

  pub up_here : IsUp c2 host.core.tables host before
  up_here = subst (λ (o : Option (Hosted CoreValue)). IsCentreOf found old.network o before) is_up alive

  event_is : done2 ≡ happened number (living_of old) host.core.tables (Ok task)
  event_is =
      ap (λ (o : Option (Hosted CoreValue)). on_stage number found (tables_of o) (Happens event) (living_of old))
      is_up ∙ ap (happened number (living_of old) host.core.tables) stands_for

  either : (image : List ℕ) → StandsAsEither (Some host.core.tables) (Some (tables_after c2 task host.core.tables))
      image → LeavesEither before (living_of old).tables done2.after.tables image
  either image (inl was) =
      inl (subst (λ (o : Option (Hosted CoreValue)). CrashLeaves before (tables_of o) image) (sym is_up) was)
  either image (inr is) = inr (subst (λ (e : Done). CrashLeaves before e.after.tables image) (sym event_is) is)

  pub event_taken : (next : Session) (front page text : List ℕ) (sends : Bool) (r : Result (Unit {0}) AdminFault)
      → HasHappened c2 host.core.tables task old.log (next_number old.events) (next_number old.frames) before front
      (Ok sends) host2 after page
      → next ≡
      record {
        lines = old.lines;
        log = old.log;
        network = old.network;
        centre = Some host2;
        events = next_number old.events;
        frames = if sends then next_number old.frames else old.frames;
      }
      → OnOk r (text ≡ page ++ ok_text number) → HasTaken found old done2 before front r next after text
  event_taken next front page text sends r h is prints = record {
    alive =
        always r
        (subst (λ (x : Session). IsAlive found x after) (sym is)
        (subst (λ (s : NodeState). IsUp c2 s host2 after) (sym tables_are) h.up));
    after = always r (ap living_of is ∙ living_is ∙ sym (ap (λ (e : Done). e.after) event_is));
    text = on_ok r
        (λ t. t ∙ ap (λ l. l ++ ok_text number) h.prints ∙ append_assoc front _ (ok_text number) ∙ ap
        (λ (e : Done). front ++ e.text) (sym event_is)) prints;
    between =
        weakened before after (StandsAsEither (Some host.core.tables) (Some (tables_after c2 task host.core.tables)))
        (LeavesEither before (living_of old).tables done2.after.tables) either h.moments;
  }
    where
      tables_are : host2.core.tables ≡ tables_after c2 task host.core.tables
      tables_are = ap (λ (x : CoreValue). x.tables) h.up.core

      living_is : living_of
          (record {
            lines = old.lines;
            log = old.log;
            network = old.network;
            centre = Some host2;
            events = next_number old.events;
            frames = if sends then next_number old.frames else old.frames;
          })
          ≡ after_event (living_of old) host.core.tables task
      living_is =
          ap (λ (s : NodeState). let v : Living =
          record {
            lines = old.lines;
            log = old.log;
            network = old.network;
            tables = Some s;
            events = next_number old.events;
            frames = if sends then next_number old.frames else old.frames;
          } in v)
          tables_are
          ∙ ap (λ (b : Bool). let v : Living =
          record {
            lines = old.lines;
            log = old.log;
            network = old.network;
            tables = Some (tables_after c2 task host.core.tables);
            events = next_number old.events;
            frames = if b
                then next_number old.frames else old.frames;
          } in v) h.sends

  -- the same, if the numbers were computed before
  pub event_done : (number_of frame_of : ℕ) (next : Session) (front page text : List ℕ) (sends : Bool)
      (r : Result (Unit {0}) AdminFault) → number_of ≡ next_number old.events → frame_of ≡ next_number old.frames
      → HasHappened c2 host.core.tables task old.log number_of frame_of before front (Ok sends) host2 after page
      → next ≡
      record {
        lines = old.lines;
        log = old.log;
        network = old.network;
        centre = Some host2;
        events = number_of;
        frames = if sends then frame_of else old.frames;
      }
      → OnOk r (text ≡ page ++ ok_text number) → HasTaken found old done2 before front r next after text
  event_done number_of frame_of next front page text sends r one two h is prints =
      event_taken next front page text sends r
      (subst (λ n. HasHappened c2 host.core.tables task old.log n (next_number old.frames) before front (Ok sends)
      host2 after page) one
      (subst (λ n. HasHappened c2 host.core.tables task old.log number_of n before front (Ok sends) host2 after page)
      two h))
      (is
      ∙ ap (λ n. let v : Session =
      record {
        lines = old.lines;
        log = old.log;
        network = old.network;
        centre = Some host2;
        events = n;
        frames = if sends then frame_of else old.frames;
      } in v) one
      ∙ ap (λ n. let v : Session =
      record {
        lines = old.lines;
        log = old.log;
        network = old.network;
        centre = Some host2;
        events = next_number old.events;
        frames = if sends then n else old.frames;
      } in v) two)
      prints

-- ---- a line that calls no disk leaves what the next one needs

pub said_can : (number : ℕ) (sentence : Sentence) (old next : Session) (front text : List ℕ)
    (r : Result (Unit {0}) AdminFault) → OnOk r (HasSaid number sentence old front next text)
    → CanServe old.network old.centre → OnOk r (CanServe next.network next.centre)
said_can number sentence old next front text (Err f) has can = tt
said_can number sentence old next front text (Ok done) has can = by_centre old.centre refl
  where
    by_centre : (o : Option (Hosted CoreValue)) → old.centre ≡ o → CanServe next.network next.centre
    by_centre None is = subst (λ (p : Option (Hosted CoreValue)). CanServe next.network p) (sym (has.centre ∙ is)) tt
    by_centre (Some host) is =
        subst (λ (n : Script). CanServe n next.centre) (sym (has.network (ap is_some is)))
        (subst (λ (p : Option (Hosted CoreValue)). CanServe old.network p) (sym has.centre) can)

pub said_waits : (number : ℕ) (sentence : Sentence) (old next : Session) (front text : List ℕ) (v : View)
    (r : Result (Unit {0}) AdminFault) → OnOk r (HasSaid number sentence old front next text)
    → OnOk r (next.centre ≡ None → (old.centre ≡ None) × IsStill v v)
said_waits number sentence old next front text v (Err f) has = tt
said_waits number sentence old next front text v (Ok done) has = λ none. (sym has.centre ∙ none, still_refl v)

-- a blank line
pub blank_said : (number : ℕ) (old : Session) (front : List ℕ) → HasSaid number Quiet old front old front
blank_said number old front = record { text = text; after = after; centre = refl; network = λ e. refl }
  where
    nothing : (found : Found) (o : Option NodeState) → on_stage number found o Quiet (living_of old)
        ≡ says_nothing (living_of old)
    nothing found None = refl
    nothing found (Some s) = refl

    text : (found : Found) → front ≡ front ++ (done_by number found Quiet old).text
    text found = sym (append-nil front) ∙ ap (λ (d : Done). front ++ d.text)
        (sym (nothing found (tables_of old.centre)))

    after : (found : Found) → living_of old ≡ (done_by number found Quiet old).after
    after found = sym (ap (λ (d : Done). d.after) (nothing found (tables_of old.centre)))

-- what is shown of a centre that is up
pub said_up : (number : ℕ) (sentence : Sentence) (old : Session) (front text : List ℕ) (host : Hosted CoreValue)
    (d : Done) → old.centre ≡ Some host
    → ((found : Found) → on_stage number found (Some host.core.tables) sentence (living_of old) ≡ d) → text ≡ front
    ++ d.text → d.after ≡ living_of old → HasSaid number sentence old front old text
said_up number sentence old front text host d up same prints after = record {
  text = λ found. prints ∙ ap (λ (e : Done). front ++ e.text) (sym (at found));
  after = λ found. sym after ∙ sym (ap (λ (e : Done). e.after) (at found));
  centre = refl;
  network = λ e. refl;
}
  where
    at : (found : Found) → done_by number found sentence old ≡ d
    at found = ap (λ (o : Option (Hosted CoreValue)). on_stage number found (tables_of o) sentence (living_of old)) up
        ∙ same found

-- ---- lines over any disk

-- a line that calls no disk is the same whatever is found
pub said_follows : (number : ℕ) (sentence : Sentence) (old next : Session) (front text : List ℕ)
    (r : Result (Unit {0}) AdminFault) → OnOk r (HasSaid number sentence old front next text)
    → OnOk r (HasFollowed (λ found. done_by number found sentence old) front next text)
said_follows number sentence old next front text r has =
    on_ok r (λ h. record { found = None; text = h.text (Ok None); after = h.after (Ok None) }) has

-- the same of a line in another form
pub follows_as : (d e : Found → Done) (front : List ℕ) (next : Session) (page : List ℕ)
    (r : Result (Unit {0}) AdminFault) → ((found : Found) → e found ≡ d found)
    → OnOk r (HasFollowed d front next page) → OnOk r (HasFollowed e front next page)
follows_as d e front next page r same has =
    on_ok r (λ h. record {
      found = h.found;
      text = h.text ∙ ap (λ (x : Done). front ++ x.text) (sym (same (Ok h.found)));
      after = h.after ∙ sym (ap (λ (x : Done). x.after) (same (Ok h.found)));
    }) has

pub follows_of : (number : ℕ) (old next : Session) (front text : List ℕ) (r : Result (Unit {0}) AdminFault)
    (s t : Sentence) → s ≡ t → OnOk r (HasFollowed (λ found. done_by number found s old) front next text)
    → OnOk r (HasFollowed (λ found. done_by number found t old) front next text)
follows_of number old next front text r s t same h =
    subst (λ (u : Sentence). OnOk r (HasFollowed (λ found. done_by number found u old) front next text)) same h

-- the line that opens the session, where this is found
pub opened_follows : (number : ℕ) (old next : Session) (front text : List ℕ) (found : Option NodeState) (d : Done)
    (r : Result (Unit {0}) AdminFault) → is_some old.centre ≡ false → has_centre old.network ≡ true
    → opened number (Ok found) (living_of old) ≡ d → OnOk r (text ≡ front ++ d.text) → living_of next ≡ d.after
    → OnOk r (HasFollowed (λ f. done_by number f Opens old) front next text)
opened_follows number old next front text found d r none has same prints after =
    on_ok r (λ t. record {
      found = found;
      text = t ∙ ap (λ (x : Done). front ++ x.text) (sym at);
      after = after ∙ sym (ap (λ (x : Done). x.after) at);
    }) prints
  where
    at : done_by number (Ok found) Opens old ≡ d
    at = ap (λ (o : Option (Hosted CoreValue)). on_stage number (Ok found) (tables_of o) Opens (living_of old))
        (closed_of old.centre none) ∙ rw has same

-- the calls for an event
pub lines_answered : (tells : Telling) (c : Setting) (s : NodeState) (task : Task) (log : Log) (event frame : ℕ)
    (me : List ℕ) (host after : Hosted CoreValue) (old new : View) (p : CorePlan) (r : Result Bool AdminFault)
    (before page : List ℕ) → host.core ≡ record { setting = c; tables = s }
    → HasHandled tells c task host old (Ok p) after new
    → OnOk r ((known : List Station) (n : ℕ) (a : Answer) → IsCalled known n me → the_centre known ≡ n
    → IsAnswer p a → Prints log known (event_lines event n frame a) before page)
    → IfOk r (λ sends. sends ≡ is_some p.out.frame) → IsCalled c.stations c.me.eui me → the_centre c.stations
    ≡ c.me.eui → HasAnswered c s task log event frame before r after page
lines_answered tells c s task log event frame me host after old new p (Ok sends) before page core h prints is called
    centre =
    let f = h.follows s core in
    record {
      core = f.1;
      prints = prints c.stations c.me.eui (answer real c s task) called centre f.0;
      sends = is ∙ sym (some_mapped (λ (f : ArrayVec ℕ). f.items) p.out.frame) ∙ ap is_some f.0.frame;
    }
lines_answered tells c s task log event frame me host after old new p (Err f) before page core h prints is called
    centre = record { core = tt; prints = tt; sends = tt }

module _ (number : ℕ) (old : Session) (event : SaidTask) (task : Task) (host host2 : Hosted CoreValue)
    (is_up : old.centre ≡ Some host) (stands_for : task_for old.network.stations event ≡ Ok task) where
  abbrev pub c3 : Setting
  c3 = setting_of old.network

  abbrev pub a3 : Answer
  a3 = answer real c3 host.core.tables task

  event_at : (found : Found) → done_by number found (Happens event) old
      ≡ happened number (living_of old) host.core.tables (Ok task)
  event_at found =
      ap (λ (o : Option (Hosted CoreValue)). on_stage number found (tables_of o) (Happens event) (living_of old))
      is_up ∙ ap (happened number (living_of old) host.core.tables) stands_for

  -- the session with these numbers, tables, and a frame more or none
  abbrev pub living_with : ℕ → ℕ → NodeState → Bool → Living
  living_with n f s sends = record {
    lines = old.lines;
    log = old.log;
    network = old.network;
    tables = Some s;
    events = n;
    frames = if sends then f else old.frames;
  }

  -- its lines, with these numbers
  abbrev pub text_with : ℕ → ℕ → List ℕ
  text_with n f = shown_text old.log c3.stations (event_lines n c3.me.eui f a3) ++ ok_text number

  pub event_follows : (number_of frame_of : ℕ) (next : Session) (front page text : List ℕ) (sends : Bool)
      (r : Result (Unit {0}) AdminFault) → number_of ≡ next_number old.events → frame_of ≡ next_number old.frames
      → HasAnswered c3 host.core.tables task old.log number_of frame_of front (Ok sends) host2 page
      → next ≡
      record {
        lines = old.lines;
        log = old.log;
        network = old.network;
        centre = Some host2;
        events = number_of;
        frames = if sends then frame_of else old.frames;
      }
      → OnOk r (text ≡ page ++ ok_text number)
      → OnOk r (HasFollowed (λ found. done_by number found (Happens event) old) front next text)
  event_follows number_of frame_of next front page text sends r one two h is prints =
      on_ok r (λ t. record {
        found = None;
        text = t ∙ ap (λ l. l ++ ok_text number) h.prints ∙ append_assoc front _ (ok_text number)
            ∙ ap (λ n. front ++ text_with n frame_of) one ∙ ap (λ f. front ++ text_with (next_number old.events) f) two
            ∙ ap (λ (d : Done). front ++ d.text) (sym (event_at (Ok None)));
        after = ap living_of is ∙ ap (λ n. living_with n frame_of host2.core.tables sends) one
            ∙ ap (λ f. living_with (next_number old.events) f host2.core.tables sends) two
            ∙ ap (λ s. living_with (next_number old.events) (next_number old.frames) s sends)
            (ap (λ (x : CoreValue). x.tables) h.core)
            ∙ ap (λ b. living_with (next_number old.events) (next_number old.frames)
            (tables_after c3 task host.core.tables) b) h.sends
            ∙ sym (ap (λ (d : Done). d.after) (event_at (Ok None)));
      }) prints

-- ---- a line that was read

pub counted_taken : (n : ℕ) (found : Found) (old : Session) (d e : Done) (v : View) (front : List ℕ)
    (r : Result (Unit {0}) AdminFault) (next : Session) (new : View) (page : List ℕ)
    → e ≡ d → HasTaken found (record old { lines = n }) d v front r next new page
    → HasTaken found old e v front r next new page
counted_taken n found old d e v front r next new page is h = record {
  alive = h.alive;
  after = on_ok r (λ a. a ∙ sym (ap (λ (x : Done). x.after) is)) h.after;
  text = on_ok r (λ t. t ∙ ap (λ (x : Done). front ++ x.text) (sym is)) h.text;
  between = subst (λ (x : Done). LeavesOnly v new (LeavesEither v (living_of old).tables x.after.tables)) (sym is)
      h.between;
}

pub line_is : (found : Found) (line : List ℕ) (old : Session) (n : ℕ) (sentence : Sentence) → n
    ≡ next_number old.lines → meaning_of line ≡ Some sentence
    → done found line (living_of old) ≡ done_by n found sentence (record old { lines = n })
unfolding done
line_is found line old n sentence count value =
    ap (λ (m : Option Sentence). on_meaning (next_number old.lines) found m (counted (living_of old))) value
    ∙ ap (λ k. on_meaning k found (Some sentence) (record (living_of old) { lines = k })) (sym count)

-- what a line has to store doesn't depend on how many came
counted_changes : (n : ℕ) (says : Option Sentence) (session : Session)
    → HasChanges says (living_of (record session { lines = n })) → HasChanges says (living_of session)
counted_changes n says session h = record {
  event = h.event;
  is_event = h.is_event;
  found = h.found;
  is_open = h.is_open;
  task = h.task;
  is_task = h.is_task;
  changes = h.changes;
}

pub counted_fault : (tells : Telling) (n : ℕ) (says : Option Sentence) (session : Session) (old new : View)
    (f : AdminFault) → IsLineFault tells says (record session { lines = n }) old new f
    → IsLineFault tells says session old new f
counted_fault tells n says session old new Disk h = h
counted_fault tells n says session old new NoStore h = h
counted_fault tells n says session old new (BadStore at) h = h
counted_fault tells n says session old new Worn h = (h.0, h.1, h.2, counted_changes n says session h.3)
counted_fault tells n says session old new Write h = h
counted_fault tells n says session old new NoMemory h = h

pub counted_faults : (tells : Telling) (n : ℕ) (says : Option Sentence) (sentence : Sentence) (session : Session)
    (old new : View) (r : Result (Unit {0}) AdminFault) → says ≡ Some sentence
    → IfErr r (IsLineFault tells (Some sentence) (record session { lines = n }) old new)
    → IfErr r (IsLineFault tells says session old new)
counted_faults tells n says sentence session old new (Ok done) is h = tt
counted_faults tells n says sentence session old new (Err f) is h =
    subst (λ (m : Option Sentence). IsLineFault tells m session old new f) (sym is)
    (counted_fault tells n (Some sentence) session old new f h)

unread_is : (found : Found) (line : List ℕ) (old : Session) (n : ℕ) → n ≡ next_number old.lines → meaning_of line
    ≡ None → done found line (living_of old) ≡ refused n cause.Syntax (living_of (record old { lines = n }))
unfolding done
unread_is found line old n count value =
    ap (λ (m : Option Sentence). on_meaning (next_number old.lines) found m (counted (living_of old))) value
    ∙ ap (λ k. refused k cause.Syntax (record (living_of old) { lines = k })) (sym count)

pub unread_follows : (n : ℕ) (old : Session) (line : List ℕ) (front page : List ℕ)
    (r : Result (Unit {0}) AdminFault) → n ≡ next_number old.lines → meaning_of line ≡ None
    → OnOk r (page ≡ front ++ refused_text n cause.Syntax)
    → OnOk r (HasFollowed (λ found. done found line (living_of old)) front (record old { lines = n }) page)
unread_follows n old line front page r count value prints =
    let is = unread_is (Ok None) line old n count value in
    on_ok r (λ t. record {
      found = None;
      text = t ∙ ap (λ (x : Done). front ++ x.text) (sym is);
      after = sym (ap (λ (x : Done). x.after) is);
    }) prints

pub unread_taken : (n : ℕ) (found : Found) (old : Session) (line : List ℕ) (v : View) (front page : List ℕ)
    (r : Result (Unit {0}) AdminFault) → n ≡ next_number old.lines → meaning_of line ≡ None
    → OnOk r (page ≡ front ++ refused_text n cause.Syntax) → IsAlive found old v
    → ((image : List ℕ) → v.since v.moment image → v.images image)
    → HasTaken found old (done found line (living_of old)) v front r (record old { lines = n }) v page
unread_taken n found old line v front page r count value prints alive only_now =
    let is = unread_is found line old n count value in
    record {
      alive = always r alive;
      after = always r (sym (ap (λ (x : Done). x.after) is));
      text = on_ok r (λ t. t ∙ ap (λ (x : Done). front ++ x.text) (sym is)) prints;
      between = started v (LeavesEither v (living_of old).tables (done found line (living_of old)).after.tables)
          only_now (λ image left. inl (held found old v alive image left));
    }
