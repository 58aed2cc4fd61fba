-- What the centre sealed so far was used, line after line and session after session.
use Rattle.std.proofs.Common.{◌≡◌, ℕ, ◌≤◌, ◌++◌, Bool, true, false, not, if◌then◌else◌, List, [], ◌∷◌, length, Option, Some, None, Result, Ok, Err, IfOk, refl, sym, subst, append_assoc, append-nil}
use Rattle.std.proofs.lemmas.Bool.{and_parts, false≢true, leb-true}
use Rattle.std.specs.Prelude.{◌==◌, ◌&&◌, ◌||◌, nat_le}
use Rattle.std.specs.List.{AllByRecursion, concat, list_any}
use Rattle.law_answer_seals.specs.Sealing.{IsWithinLimits}
use Rattle.law_answer_seals.proofs.Limits.{booted_within}
use Rattle.law_sessions.specs.Sessions.{IsUnderKept, NoneAgain, NoneTwice, TakeOneCounter, event_seals, found_after, left_by, left_by_all, line_seals, lines_seal, meaning_seals, sessions_seal}
use Rattle.law_sessions.proofs.Used.{AreUsed, IsFoundUsed, IsUsed, all_map, boot_used, event_used, restored_used}
use Rattle.zb_base.specs.declared.node.Role.{Role}
use Rattle.zb_base.specs.declared.node.Role.TheVariants.{Centre as RoleCentre}
use Rattle.zb_centre_store.specs.Standing.{found_on, found_store, found_tables}
use Rattle.zb_centre_store.specs.declared.fault.AdminFault.TheVariants.{BadStore}
use Rattle.zb_live.specs.Events.{task_for}
use Rattle.zb_live.specs.Living.{Found, Living, counted, declared, done, first_station, fresh, happened, next, on_header, on_meaning, on_open, on_stage, opened, refused, served, setting_of}
use Rattle.zb_live.specs.Grammar.{meaning_of}
use Rattle.zb_live.specs.Said.{Sentence, Quiet, Founds, Introduces, Logs, Opens, Happens, Asks}
use Rattle.zb_live.specs.declared.cause.Cause.{Cause}
use Rattle.zb_live.specs.declared.cause.Cause.TheVariants as cause
use Rattle.zb_model.specs.Data.{Bytes, Centre, Task, Term}
use Rattle.zb_model.specs.State.{NodeState}
use Rattle.zb_model_real.specs.Real.{real}
use Rattle.zb_record.specs.Ranges.{fits_widths}
use Rattle.zb_record.specs.Records.{record_read}
use Rattle.zb_record.specs.Redoing.{redone}
use Rattle.zb_sched.specs.Judge.{are_blocks}
use Rattle.zb_script.specs.Judge.{after_centre, after_peer, has_begun, has_centre, is_taken}
use Rattle.zb_script.specs.Reading.{start}
use Rattle.zb_script.specs.Scripts as script
use Rattle.zb_script.specs.Scripts.{Script}
use Rattle.zb_script.specs.declared.error.ScriptCause.{ScriptCause}
use Rattle.zb_script.specs.declared.error.ScriptCause.TheVariants.{Syntax, DuplicateNode, Block, TooMany}
use Rattle.zb_centre_store.specs.Freshness.{HasUsed}
use Rattle.zb_centre_store.specs.Skipping.{skipped}
use Rattle.zb_store.specs.Layout.{Standing, stands}
use Rattle.zb_stored_tables.specs.Stored.{behind, is_of_other, state_behind, state_given, version_in}

-- ---- the block of the centre

-- a centre that is declared has a block of outgoing counters
abbrev HasBlock : Script → Type 0
HasBlock network = has_centre network ≡ true → 1 ≤ network.out_block

is_block : (a b : ℕ) → are_blocks a b ≡ true → 1 ≤ a
is_block a b e =
    let one = and_parts (nat_le 1 a && nat_le a 65536 && nat_le 1 b) (nat_le b 1024) e in
    let two = and_parts (nat_le 1 a && nat_le a 65536) (nat_le 1 b) one.0 in
    leb-true 1 a (and_parts (nat_le 1 a) (nat_le a 65536) two.0).0

me_block : (out_block in_block : ℕ) (nodes : List script.Station) → not (length nodes == 0) ≡ true → 1 ≤ out_block → 1
    ≤ (first_station out_block in_block nodes).out_block
me_block out_block in_block [] some block = absurd (false≢true some)
me_block out_block in_block (p ∷ more) some block = block

block_of : (network : Script) → HasBlock network → has_centre network ≡ true → 1 ≤ (setting_of network).me.out_block
unfolding setting_of
block_of network block some = me_block network.out_block network.in_block network.stations some (block some)

centre_block : (network : Script) (name : Bytes) (eui out_block in_block : ℕ)
    → IfOk (after_centre network name eui out_block in_block) HasBlock
centre_block network name eui out_block in_block = by_centre (has_centre network)
  where
    with_centre : Script
    with_centre = record {
      stations = network.stations ++ record { name = name; role = RoleCentre; eui = eui; short = 0 } ∷ [];
      out_block = out_block;
      in_block = in_block;
      steps = network.steps;
    }

    by_blocks : (b : Bool) → are_blocks out_block in_block ≡ b
        → IfOk {T = Script} {E = ScriptCause} (if not b then Err Block else Ok with_centre) HasBlock
    by_blocks true e = λ some. is_block out_block in_block e
    by_blocks false e = tt

    by_centre : (b : Bool) → IfOk {T = Script} {E = ScriptCause} (if b then Err Syntax
        else if not (are_blocks out_block in_block) then Err Block else Ok with_centre) HasBlock
    by_centre true = tt
    by_centre false = by_blocks (are_blocks out_block in_block) refl

peer_block : (network : Script) (name : Bytes) (role : Role) (eui short : ℕ) → HasBlock network
    → IfOk (after_peer network name role eui short) HasBlock
peer_block network name role eui short block = by_centre (has_centre network) refl
  where
    with_peer : Script
    with_peer =
        record network {
          stations = network.stations ++ record { name = name; role = role; eui = eui; short = short }
              ∷ [];
        }

    by_room : (b : Bool) → 1 ≤ network.out_block → IfOk {T = Script} {E = ScriptCause} (if b then Err TooMany
        else Ok with_peer) HasBlock
    by_room true one = tt
    by_room false one = λ some. one

    by_name : (b : Bool) → 1 ≤ network.out_block → IfOk {T = Script} {E = ScriptCause} (if b then Err DuplicateNode
        else if nat_le 64 (length network.stations) then Err TooMany else Ok with_peer) HasBlock
    by_name true one = tt
    by_name false one = by_room (nat_le 64 (length network.stations)) one

    by_begun : (b : Bool) → 1 ≤ network.out_block
        → IfOk {T = Script} {E = ScriptCause} (if b then Err Syntax
        else if list_any (λ station. is_taken name eui short station) network.stations then Err DuplicateNode
        else if nat_le 64 (length network.stations) then Err TooMany else Ok with_peer) HasBlock
    by_begun true one = tt
    by_begun false one = by_name (list_any (λ station. is_taken name eui short station) network.stations) one

    by_centre : (b : Bool) → has_centre network ≡ b
        → IfOk {T = Script} {E = ScriptCause} (if not b || has_begun network then Err Syntax
        else if list_any (λ station. is_taken name eui short station) network.stations then Err DuplicateNode
        else if nat_le 64 (length network.stations) then Err TooMany else Ok with_peer) HasBlock
    by_centre true some = by_begun (has_begun network) (block some)
    by_centre false none = tt

-- ---- what was found, and a session

-- the terms were used in the tables of the session, or in what is found, before it is open
abbrev IsUsedIn : List Term → Found → Option NodeState → Script → Type 0
IsUsedIn used found None network = IsFoundUsed used found × HasBlock network
IsUsedIn used found (Some s) network = AreUsed used s × (1 ≤ (setting_of network).me.out_block)

-- ---- before the session is open

declared_used : (number : ℕ) (v : Living) (found : Found) (used : List Term) (r : Result Script ScriptCause)
    → v.tables ≡ None → IsFoundUsed used found → HasBlock v.network → IfOk r HasBlock
    → IsUsedIn used found (declared number v r).after.tables (declared number v r).after.network
declared_used number v found used (Ok network) none is block more =
    subst (λ (o : Option NodeState). IsUsedIn used found o network) (sym none) (is, more)
declared_used number v found used (Err why) none is block more =
    subst (λ (o : Option NodeState). IsUsedIn used found o v.network) (sym none) (is, block)

opened_used : (number : ℕ) (v : Living) (found : Found) (used : List Term) → v.tables ≡ None → IsFoundUsed used found
    → HasBlock v.network → has_centre v.network ≡ true
    → IsUsedIn used found (opened number found v).after.tables (opened number found v).after.network
opened_used number v (Ok (Some s)) used none is block some = (is, block_of v.network block some)
opened_used number v (Ok None) used none is block some =
    subst (λ (o : Option NodeState). IsUsedIn used (Ok None) o v.network) (sym none) (is, block)
opened_used number v (Err fault) used none is block some =
    subst (λ (o : Option NodeState). IsUsedIn used (Err fault) o v.network) (sym none) (is, block)

header_used : (number : ℕ) (found : Found) (sentence : Sentence) (v : Living) (used : List Term) → v.tables ≡ None
    → IsFoundUsed used found → HasBlock v.network
    → IsUsedIn used found (on_header number found sentence v).after.tables
    (on_header number found sentence v).after.network
header_used number found sentence v used none is block = by sentence
  where
    same : IsUsedIn used found v.tables v.network
    same = subst (λ (o : Option NodeState). IsUsedIn used found o v.network) (sym none) (is, block)

    by_centre : (b : Bool) → has_centre v.network ≡ b
        → IsUsedIn used found (if b then opened number found v else refused number cause.NoCentre v).after.tables
        (if b then opened number found v else refused number cause.NoCentre v).after.network
    by_centre true some = opened_used number v found used none is block some
    by_centre false some = same

    by : (said : Sentence) → IsUsedIn used found (on_header number found said v).after.tables
        (on_header number found said v).after.network
    by Quiet = same
    by (Founds name eui out_block in_block) =
        declared_used number v found used (after_centre v.network name eui out_block in_block) none is block
        (centre_block v.network name eui out_block in_block)
    by (Introduces name role eui short) = declared_used number v found used (after_peer v.network name role eui short)
        none is block (peer_block v.network name role eui short block)
    by (Logs log) = same
    by Opens = by_centre (has_centre v.network) refl
    by (Happens event) = same
    by (Asks question) = same

-- ---- once it is open

happened_used : (number : ℕ) (v : Living) (found : Found) (s : NodeState) (used : List Term) (r : Result Task Cause)
    → v.tables ≡ Some s → AreUsed used s → 1 ≤ (setting_of v.network).me.out_block
    → IsUsedIn (used ++ event_seals v.network s r) found (happened number v s r).after.tables
    (happened number v s r).after.network
happened_used number v found s used (Ok task) some is block =
    (event_used real (setting_of v.network) task s used block is, block)
happened_used number v found s used (Err why) some is block =
    subst (λ (o : Option NodeState). IsUsedIn (used ++ []) found o v.network) (sym some)
    (subst (λ ts. AreUsed ts s) (sym (append-nil used)) is, block)

open_used : (number : ℕ) (found : Found) (s : NodeState) (sentence : Sentence) (v : Living) (used : List Term)
    → v.tables ≡ Some s → AreUsed used s → 1 ≤ (setting_of v.network).me.out_block
    → IsUsedIn (used ++ meaning_seals v.network (Some s) (Some sentence)) found
    (on_open number s sentence v).after.tables (on_open number s sentence v).after.network
open_used number found s sentence v used some is block = by sentence
  where
    same : IsUsedIn (used ++ []) found v.tables v.network
    same = subst (λ (o : Option NodeState). IsUsedIn (used ++ []) found o v.network) (sym some)
        (subst (λ ts. AreUsed ts s) (sym (append-nil used)) is, block)

    by : (said : Sentence) → IsUsedIn (used ++ meaning_seals v.network (Some s) (Some said)) found
        (on_open number s said v).after.tables (on_open number s said v).after.network
    by Quiet = same
    by (Founds name eui out_block in_block) = same
    by (Introduces name role eui short) = same
    by (Logs log) = same
    by Opens = same
    by (Happens event) = happened_used number v found s used (task_for v.network.stations event) some is block
    by (Asks question) = same

-- ---- a line

stage_used : (number : ℕ) (found : Found) (o : Option NodeState) (m : Option Sentence) (v : Living) (used : List Term)
    → v.tables ≡ o → IsUsedIn used found o v.network
    → IsUsedIn (used ++ meaning_seals v.network o m) found (on_meaning number found m v).after.tables
    (on_meaning number found m v).after.network
stage_used number found None None v used none is =
    subst (λ ts. IsUsedIn ts found v.tables v.network) (sym (append-nil used))
    (subst (λ (o : Option NodeState). IsUsedIn used found o v.network) (sym none) is)
stage_used number found (Some s) None v used some is =
    subst (λ ts. IsUsedIn ts found v.tables v.network) (sym (append-nil used))
    (subst (λ (o : Option NodeState). IsUsedIn used found o v.network) (sym some) is)
stage_used number found None (Some sentence) v used none is =
    subst (λ ts. IsUsedIn ts found (on_stage number found v.tables sentence v).after.tables
    (on_stage number found v.tables sentence v).after.network) (sym (append-nil used))
    (subst (λ (o : Option NodeState). IsUsedIn used found (on_stage number found o sentence v).after.tables
    (on_stage number found o sentence v).after.network) (sym none)
    (header_used number found sentence v used none is.0 is.1))
stage_used number found (Some s) (Some sentence) v used some is =
    subst (λ (o : Option NodeState). IsUsedIn (used ++ meaning_seals v.network (Some s) (Some sentence)) found
    (on_stage number found o sentence v).after.tables (on_stage number found o sentence v).after.network)
    (sym some)
    (open_used number found s sentence v used some is.0 is.1)

line_used : (found : Found) (line : Bytes) (v : Living) (used : List Term) → IsUsedIn used found v.tables v.network
    → IsUsedIn (used ++ line_seals line v) found (done found line v).after.tables (done found line v).after.network
unfolding done line_seals
line_used found line v used is = stage_used (next v.lines) found v.tables (meaning_of line) (counted v) used refl is

lines_used : (found : Found) (lines : List Bytes) (v : Living) (used : List Term)
    → IsUsedIn used found v.tables v.network
    → IsUsedIn (used ++ lines_seal found lines v) found (served found lines v).after.tables
    (served found lines v).after.network
lines_used found [] v used is = subst (λ ts. IsUsedIn ts found v.tables v.network) (sym (append-nil used)) is
lines_used found (line ∷ more) v used is =
    let d = done found line v in
    subst (λ ts. IsUsedIn ts found (served found more d.after).after.tables (served found more d.after).after.network)
    (append_assoc used (line_seals line v) (lines_seal found more d.after))
    (lines_used found more d.after (used ++ line_seals line v) (line_used found line v used is))

-- ---- sessions

left_used : (used : List Term) (found : Found) (o : Option NodeState) (network : Script)
    → IsUsedIn used found o network → IsFoundUsed used (found_after found o)
left_used used found None network is = is.0
left_used used found (Some s) network is = boot_used s used is.0

pub none_found : (used : List Term) (found : Found) → IsFoundUsed used found → NoneTwice used
none_found used (Ok (Some s)) is = is.apart
none_found used (Ok None) is = subst NoneTwice (sym is) tt
none_found used (Err fault) is = subst NoneTwice (sym is) tt

no_block : HasBlock start
no_block e = absurd (false≢true e)

-- what a session leaves
pub session_used : (found : Found) (lines : List Bytes) (used : List Term) → IsFoundUsed used found
    → IsFoundUsed (used ++ lines_seal found lines fresh) (left_by found lines)
session_used found lines used is =
    let after = (served found lines fresh).after in
    left_used (used ++ lines_seal found lines fresh) found after.tables after.network
    (lines_used found lines fresh used (is, no_block))

all_used : (sessions : List (List Bytes)) (found : Found) (used : List Term) → IsFoundUsed used found
    → IsFoundUsed (used ++ sessions_seal found sessions) (left_by_all found sessions)
all_used [] found used is = subst (λ ts. IsFoundUsed ts found) (sym (append-nil used)) is
all_used (lines ∷ more) found used is =
    subst (λ ts. IsFoundUsed ts (left_by_all (left_by found lines) more))
    (append_assoc used (lines_seal found lines fresh) (sessions_seal (left_by found lines) more))
    (all_used more (left_by found lines) (used ++ lines_seal found lines fresh) (session_used found lines used is))

-- ---- what an image holds

behind_within : (before total : ℕ) (t : NodeState) (r : Result (List ℕ) ℕ)
    → IfOk (behind before total t r) IsWithinLimits
behind_within before total t (Ok rest) = booted_within t
behind_within before total t (Err left) = tt

read_within : (content entries : List ℕ) (r : Result NodeState ℕ)
    → IfOk (state_behind content entries r) IsWithinLimits
read_within content entries (Ok s) = behind_within (length content) (length entries)
    (redone (version_in content) entries s).0 (redone (version_in content) entries s).1
read_within content entries (Err left) = tt

pub given_within : (content entries : List ℕ) → IfOk (state_given Centre content entries) IsWithinLimits
unfolding state_given
given_within content entries = by_role (is_of_other Centre content)
  where
    by_role : (b : Bool) → IfOk {T = NodeState} {E = ℕ} (if b then Err 1
        else state_behind content entries (record_read content)) IsWithinLimits
    by_role true = tt
    by_role false = read_within content entries (record_read content)

tables_used : (r : Result NodeState ℕ) → IfOk r IsWithinLimits → IsFoundUsed [] (found_tables r)
tables_used (Ok s) within = by_width (fits_widths s)
  where
    by_width : (b : Bool) → IsFoundUsed [] (if b then Ok (Some s) else Err (BadStore 0))
    by_width true = record { used = tt; apart = tt; within = within }
    by_width false = refl
tables_used (Err at) within = refl

store_used : (o : Option Standing) → IsFoundUsed [] (found_store o)
store_used None = refl
store_used (Some z) = tables_used (state_given Centre z.content (concat z.payloads))
    (given_within z.content (concat z.payloads))

pub found_used : (image : List ℕ) → IsFoundUsed [] (found_on image)
unfolding found_on
found_used [] = refl
found_used (byte ∷ bytes) = store_used (stands (byte ∷ bytes))

pub sessions_apart : (image : List ℕ) (sessions : List (List Bytes))
    → NoneTwice (sessions_seal (found_on image) sessions)
sessions_apart image sessions =
    none_found (sessions_seal (found_on image) sessions) (left_by_all (found_on image) sessions)
    (all_used sessions (found_on image) [] (found_used image))

-- ---- a restore

-- what continues from a backup, with the skip
abbrev restored_found : ℕ → NodeState → Found
restored_found by backup = Ok (Some (skipped by backup))

skipped_within : (by : ℕ) (backup : NodeState) → IsWithinLimits (skipped by backup)
unfolding skipped
skipped_within by backup = booted_within _

pub sessions_apart_since : (by : ℕ) (backup : NodeState) (since : List (List Bytes))
    → NoneTwice (sessions_seal (Ok (Some (skipped by backup))) since)
sessions_apart_since by backup since =
    none_found (sessions_seal (restored_found by backup) since) (left_by_all (restored_found by backup) since)
    (all_used since (restored_found by backup) []
    (record { used = tt; apart = tt; within = skipped_within by backup }))

one_again : (by : ℕ) (backup lost : NodeState) (since : List (List Bytes)) (t : Term) → HasUsed by backup lost
    → IsUsed lost t → IsUnderKept t.layer t.base backup
    → AllByRecursion (λ u. TakeOneCounter t u → ⊥) (sessions_seal (restored_found by backup) since)
one_again by backup lost since t has used kept =
    (none_found (t ∷ sessions_seal (restored_found by backup) since) (left_by_all (restored_found by backup) since)
    (all_used since (restored_found by backup) (t ∷ [])
    (record {
      used = (restored_used by backup lost t.layer t has kept used, tt);
      apart = (tt, tt);
      within = skipped_within by backup;
    }))).0

pub sessions_apart_again : (image : List ℕ) (before since : List (List Bytes)) (by : ℕ) (backup lost : NodeState)
    → left_by_all (found_on image) before ≡ Ok (Some lost) → HasUsed by backup lost
    → NoneAgain backup (sessions_seal (found_on image) before) (sessions_seal (Ok (Some (skipped by backup))) since)
sessions_apart_again image before since by backup lost left has =
    let all = subst (IsFoundUsed (sessions_seal (found_on image) before)) left
    (all_used before (found_on image) [] (found_used image)) in
    all_map (IsUsed lost)
    (λ (t : Term). IsUnderKept t.layer t.base backup
    → AllByRecursion (λ u. TakeOneCounter t u → ⊥) (sessions_seal (restored_found by backup) since))
    (λ t h kept. one_again by backup lost since t has h kept) (sessions_seal (found_on image) before) all.used
