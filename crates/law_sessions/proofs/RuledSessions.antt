-- The tables of a centre keep the rules for records and the widths of a record in a session, whatever lines it is fed.
use Rattle.std.proofs.Common.{◌≡◌, ℕ, ◌≤◌, ◌<◌, ◌^◌, ◌++◌, Bool, true, false, not, if◌then◌else◌, find, nat_eq, is_some, List, [], ◌∷◌, length, map, Option, Some, None, option_map, Result, Ok, Err, IfOk, IfSome, refl, sym, ap, ◌∙◌, subst, arith, eqb-true, leb-false, length-append}
use Rattle.std.proofs.lemmas.Bool.{and_parts, false≢true, leb-true, not-false, not-true, or_parts}
use Rattle.std.specs.List.{AllByRecursion, concat, list_any}
use Rattle.std.specs.Prelude.{◌==◌, ◌&&◌, ◌||◌, bytes_eq, nat_le, ⊤}
use Rattle.law_answer_storable.proofs.Answers.{kept_answered}
use Rattle.law_change_fits.proofs.Shown.{rules_shown}
use Rattle.law_run.proofs.FreshLines.{all-append}
use Rattle.law_run.proofs.StoredFits.{rules_same}
use Rattle.law_sessions.specs.Making.{BeginsWithCentre, IsHeader, same_eui}
use Rattle.law_sessions.specs.Sessions.{AreKept}
use Rattle.law_sessions.proofs.FoundAgain.{read_ruled}
use Rattle.law_sessions.proofs.LineWidths.{EventFits, SaidFits, hash_whole, meaning_fits}
use Rattle.law_sessions.proofs.LogRuns.{opens_real, real_opens}
use Rattle.law_sessions.proofs.Widths.{DeclaresSmall, TaskFits, event_fits}
use Rattle.law_tables_suffice.proofs.Answered.{boot_same, twice_same}
use Rattle.zb_base.specs.declared.node.Role.{Role}
use Rattle.zb_base.specs.declared.node.Role.TheVariants.{Centre as RoleCentre}
use Rattle.zb_centre_store.specs.Standing.{found_on, found_store, found_tables}
use Rattle.zb_centre_store.specs.declared.fault.AdminFault.TheVariants.{BadStore}
use Rattle.zb_live.specs.Events.{caused, task_for}
use Rattle.zb_script.specs.Resolving.{SaidTask, provided, resolved, with_node}
use Rattle.zb_script.specs.Unresolved.{Unresolved}
use Rattle.zb_script.specs.Unresolved.TheVariants as unresolved
use Rattle.zb_live.specs.Living.{Found, Living, counted, declared, done, first_station, fresh, happened, next, on_header, on_meaning, on_open, on_stage, opened, refused, served, setting_of, station}
use Rattle.zb_live.specs.Grammar.{meaning_of}
use Rattle.zb_live.specs.Said.{Sentence, Quiet, Founds, Introduces, Logs, Opens, Happens, Asks}
use Rattle.zb_live.specs.declared.cause.Cause.{Cause}
use Rattle.zb_live.specs.declared.cause.Cause.TheVariants as cause
use Rattle.zb_model.specs.Answer.{Answer, accepted_all, answer, answered, sealed_all}
use Rattle.zb_model.specs.Data.{Bytes, Centre, Layer, Nwk, Aps, Station, Task, SayTo, TellTo, DoKnock, DoRejoin, DoTimer, AskFor, HasChild, DoProvision, DoRemove, DoRoll, DoSwitch, DoAgain, DoShare, Received, Term}
use Rattle.zb_model.specs.Fits.{all_apart}
use Rattle.zb_model.specs.Rules.{Setting, station_of}
use Rattle.zb_model.specs.State.{NodeState, after_accepting, after_boot, after_hearing, after_sealing, applied_all, is_centre, sealed_at, shown}
use Rattle.zb_model_real.specs.Real.{real}
use Rattle.zb_record.proofs.Tested.{fits_from}
use Rattle.zb_record.specs.Ranges.{FitsBytes, fits_widths}
use Rattle.zb_sched.specs.Judge.{are_blocks}
use Rattle.zb_script.specs.Judge.{after_centre, after_peer, device_named, has_begun, has_centre, is_taken, parent_named}
use Rattle.zb_script.specs.Grammar.{is_joiner}
use Rattle.zb_script.specs.Reading.{start}
use Rattle.zb_script.specs.Scripts as script
use Rattle.zb_script.specs.Scripts.{Script}
use Rattle.zb_script.specs.declared.error.ScriptCause.{ScriptCause}
use Rattle.zb_script.specs.declared.error.ScriptCause.TheVariants.{Syntax, DuplicateNode, Block, TooMany}
use Rattle.zb_store.specs.Layout.{Standing, stands}
use Rattle.zb_stored_tables.proofs.CoreLaws.{begun}
use Rattle.zb_stored_tables.proofs.Entries.{IsRuled, all_applied_role, entries_ruled, shown_role}
use Rattle.zb_stored_tables.specs.Stored.{state_given, version_in}

-- ---- an event, and a boot

sealed_role : (layer : Layer) (t : Term) (s : NodeState) → (sealed_at layer t s).role ≡ s.role
sealed_role Nwk t s = refl
sealed_role Aps t s = refl

all_sealed_role : (ts : List Term) (s : NodeState) → (sealed_all ts s).role ≡ s.role
unfolding after_sealing
all_sealed_role [] s = refl
all_sealed_role (t ∷ ts) s = all_sealed_role ts (after_sealing t s) ∙ sealed_role t.layer t s

heard_role : (layer : Layer) (key : Bytes) (sender counter : ℕ) (s : NodeState)
    → (after_hearing layer key sender counter s).role ≡ s.role
unfolding after_hearing
heard_role Nwk key sender counter s = refl
heard_role Aps key sender counter s = refl

all_accepted_role : (ts : List Term) (s : NodeState) → (accepted_all ts s).role ≡ s.role
unfolding after_accepting
all_accepted_role [] s = refl
all_accepted_role (t ∷ ts) s = all_accepted_role ts (after_accepting t s) ∙ heard_role t.layer t.base t.source
    t.counter s

answered_role : (a : Answer) (s : NodeState) → (answered a s).role ≡ s.role
unfolding answered
answered_role a s =
    all_sealed_role a.seals (accepted_all a.accepts (applied_all a.edits s))
    ∙ all_accepted_role a.accepts (applied_all a.edits s) ∙ all_applied_role a.edits s

-- a centre with a block of incoming counters, whose nodes have addresses of 64 bits
pub record IsHead (c : Setting) : Type 0 where
  pub role : c.me.role ≡ Centre
  pub in_block : 1 ≤ c.me.in_block
  pub small : DeclaresSmall c

-- the rules for records, and the widths of a record
pub record IsWell (s : NodeState) : Type 0 where
  pub ruled : IsRuled Centre s
  pub fits : FitsBytes s

event_ruled : (c : Setting) (task : Task) (s : NodeState) → IsHead c → IsRuled Centre s
    → IsRuled Centre (shown (answered (answer real c s task) s))
event_ruled c task s head is =
    let a = answer real c s task in
    record {
      role_is = shown_role (answered a s) ∙ answered_role a s ∙ is.role_is;
      rules = rules_shown (answered a s)
          (kept_answered real real_opens c s task is.rules (is.role_is ∙ sym head.role) head.in_block);
      forgets = twice_same (answered a s);
    }

event_well : (c : Setting) (task : Task) (s : NodeState) → IsHead c → TaskFits task → IsWell s
    → IsWell (shown (answered (answer real c s task) s))
event_well c task s head fits is = record {
  ruled = event_ruled c task s head is.ruled;
  fits = event_fits real opens_real c task s (ap is_centre head.role) head.small fits is.ruled.rules is.fits;
}

-- ---- the nodes of the network

-- the header may be opened, once it has a centre
abbrev HasHead : Script → Type 0
HasHead network = has_centre network ≡ true → IsHeader network

first_role : (out_block in_block : ℕ) (nodes : List script.Station) → BeginsWithCentre nodes
    → (first_station out_block in_block nodes).role ≡ Centre
first_role out_block in_block [] is = absurd is
first_role out_block in_block (p ∷ nodes) is = is.0

first_block : (out_block in_block : ℕ) (nodes : List script.Station) → BeginsWithCentre nodes → 1 ≤ in_block
    → 1 ≤ (first_station out_block in_block nodes).in_block
first_block out_block in_block [] is block = absurd is
first_block out_block in_block (p ∷ nodes) is block = block

-- addresses of 64 bits
abbrev AreSmall : List script.Station → Type 0
AreSmall nodes = AllByRecursion (λ (p : script.Station). p.eui < 2 ^ 64) nodes

declared_small : (nodes : List script.Station) → AreSmall nodes → (d : ℕ)
    → is_some (station_of (map (station 0 0) nodes) d) ≡ true → d < 2 ^ 64
unfolding station_of
declared_small [] small d e = absurd (false≢true e)
declared_small (p ∷ nodes) small d e = by_test (nat_eq p.eui d) refl e (declared_small nodes small.1 d)
  where
    by_test : (b : Bool) → nat_eq p.eui d ≡ b
        → is_some (if b then Some (station 0 0 p)
        else find (λ (x : Station). nat_eq x.eui d) (map (station 0 0) nodes)) ≡ true
        → (is_some (find (λ (x : Station). nat_eq x.eui d) (map (station 0 0) nodes)) ≡ true → d < 2 ^ 64)
        → d < 2 ^ 64
    by_test true own e more = subst (λ n. n < 2 ^ 64) (eqb-true p.eui d own) small.0
    by_test false own e more = more e

head_of : (network : Script) → IsHeader network → IsHead (setting_of network)
unfolding setting_of
head_of network is = record {
  role = first_role network.out_block network.in_block network.stations is.centre;
  in_block = first_block network.out_block network.in_block network.stations is.centre is.in_block;
  small = declared_small network.stations is.euis;
}

-- ---- the task of an event

named_small : (test : script.Station → Bool) (nodes : List script.Station) → AreSmall nodes
    → IfSome (option_map (λ (p : script.Station). p.eui) (find test nodes)) (λ n. n < 2 ^ 64)
named_small test [] small = tt
named_small test (p ∷ nodes) small = by_test (test p) (named_small test nodes small.1)
  where
    by_test : (b : Bool)
        → IfSome (option_map (λ (x : script.Station). x.eui) (find test nodes)) (λ n. n < 2 ^ 64)
        → IfSome (option_map (λ (x : script.Station). x.eui) (if b then Some p else find test nodes)) (λ n. n < 2 ^ 64)
    by_test true more = small.0
    by_test false more = more

node_fits : (o : Option ℕ) (go_on : ℕ → Result Task Unresolved) → IfSome o (λ n. n < 2 ^ 64)
    → ((n : ℕ) → n < 2 ^ 64 → IfOk (go_on n) TaskFits) → IfOk (with_node o go_on) TaskFits
node_fits None go_on small each = tt
node_fits (Some n) go_on small each = each n small

provided_fits : (code : Option Bytes) (n : ℕ) → n < 2 ^ 64 → IfOk (provided code n) TaskFits
provided_fits None n small = tt
provided_fits (Some code) n small = (small, hash_whole code)

unless_same : (b : Bool) (x : Result Task Unresolved) → IfOk x TaskFits
    → IfOk (if b then Err unresolved.UnknownNode else x) TaskFits
unless_same true x is = tt
unless_same false x is = is

caused_fits : (x : Result Task Unresolved) → IfOk x TaskFits → IfOk (caused x) TaskFits
caused_fits (Ok task) is = is
caused_fits (Err why) is = tt

resolved_fits : (nodes : List script.Station) (said : SaidTask) → AreSmall nodes → EventFits said
    → IfOk (resolved (λ name. device_named name nodes) (λ name. parent_named name nodes) said) TaskFits
resolved_fits nodes (Received bytes draw) small fits = fits
resolved_fits nodes (HasChild name rejoin) small fits =
    node_fits (device_named name nodes) _ (named_small _ nodes small) (λ n is. tt)
resolved_fits nodes DoTimer small fits = tt
resolved_fits nodes DoKnock small fits = tt
resolved_fits nodes DoRejoin small fits = tt
resolved_fits nodes (SayTo to bytes) small fits = tt
resolved_fits nodes (TellTo partner bytes) small fits =
    node_fits (device_named partner nodes) _ (named_small _ nodes small) (λ n is. tt)
resolved_fits nodes (AskFor partner) small fits =
    node_fits (device_named partner nodes) _ (named_small _ nodes small) (λ n is. tt)
resolved_fits nodes (DoProvision name code) small fits =
    node_fits (device_named name nodes) (provided code) (named_small _ nodes small) (provided_fits code)
resolved_fits nodes (DoRemove name parent) small fits =
    unless_same (bytes_eq name parent) _
    (node_fits (device_named name nodes) _ (named_small _ nodes small)
    (λ n is. node_fits (parent_named parent nodes) _ (named_small _ nodes small) (λ via at. tt)))
resolved_fits nodes (DoRoll draw) small fits = fits
resolved_fits nodes DoSwitch small fits = tt
resolved_fits nodes (DoAgain name) small fits =
    node_fits (device_named name nodes) _ (named_small _ nodes small) (λ n is. tt)
resolved_fits nodes (DoShare name partner) small fits =
    unless_same (bytes_eq name partner) _
    (node_fits (device_named name nodes) _ (named_small _ nodes small)
    (λ n is. node_fits (device_named partner nodes) _ (named_small _ nodes small) (λ m at. tt)))

task_fits : (nodes : List script.Station) (event : SaidTask) → AreSmall nodes → EventFits event
    → IfOk (task_for nodes event) TaskFits
task_fits nodes event small fits = caused_fits _ (resolved_fits nodes event small fits)

-- ---- the header

no_nodes : (nodes : List script.Station) → not (length nodes == 0) ≡ false → nodes ≡ []
no_nodes [] none = refl
no_nodes (p ∷ nodes) none =
    absurd (omega (arith, eqb-true (length (p ∷ nodes)) 0 (not-false (length (p ∷ nodes) == 0) none)))

blocks_are : (a b : ℕ) → are_blocks a b ≡ true → (1 ≤ a) × (1 ≤ b)
blocks_are a b e =
    let all = and_parts (nat_le 1 a && nat_le a 65536 && nat_le 1 b) (nat_le b 1024) e in
    let one = and_parts (nat_le 1 a && nat_le a 65536) (nat_le 1 b) all.0 in
    (leb-true 1 a (and_parts (nat_le 1 a) (nat_le a 65536) one.0).0, leb-true 1 b one.1)

centre_head : (network : Script) (name : Bytes) (eui out_block in_block : ℕ) → eui < 2 ^ 64
    → IfOk (after_centre network name eui out_block in_block) HasHead
centre_head network name eui out_block in_block small = by_centre (has_centre network) refl
  where
    centre : script.Station
    centre = record { name = name; role = RoleCentre; eui = eui; short = 0 }

    with_centre : List script.Station → Script
    with_centre nodes = record {
      stations = nodes ++ centre ∷ [];
      out_block = out_block;
      in_block = in_block;
      steps = network.steps;
    }

    begun : are_blocks out_block in_block ≡ true → IsHeader (with_centre [])
    begun e = record {
      centre = (refl, tt);
      differ = refl;
      euis = (small, tt);
      few = omega arith;
      out_block = (blocks_are out_block in_block e).0;
      in_block = (blocks_are out_block in_block e).1;
    }

    by_blocks : (b : Bool) → has_centre network ≡ false → are_blocks out_block in_block ≡ b
        → IfOk {T = Script} {E = ScriptCause} (if not b then Err Block else Ok (with_centre network.stations)) HasHead
    by_blocks true none e = λ some.
        subst (λ nodes. IsHeader (with_centre nodes)) (sym (no_nodes network.stations none)) (begun e)
    by_blocks false none e = tt

    by_centre : (b : Bool) → has_centre network ≡ b → IfOk {T = Script} {E = ScriptCause} (if b then Err Syntax
        else if not (are_blocks out_block in_block) then Err Block else Ok (with_centre network.stations)) HasHead
    by_centre true some = tt
    by_centre false none = by_blocks (are_blocks out_block in_block) none refl

any_more : (test : script.Station → Bool) (xs : List script.Station) (p : script.Station) → list_any test xs ≡ false
    → test p ≡ false → list_any test (xs ++ p ∷ []) ≡ false
any_more test [] p none own = ap (λ b. b || false) own
any_more test (x ∷ xs) p none own =
    let parts = or_parts (test x) (list_any test xs) none in
    ap (λ b. b || list_any test (xs ++ p ∷ [])) parts.0 ∙ any_more test xs p parts.1 own

apart_more : (xs : List script.Station) (p : script.Station) → all_apart same_eui xs ≡ true
    → list_any (λ (x : script.Station). same_eui x p) xs ≡ false → all_apart same_eui (xs ++ p ∷ []) ≡ true
apart_more [] p apart free = refl
apart_more (x ∷ xs) p apart free =
    let parts = and_parts (not (list_any (same_eui x) xs)) (all_apart same_eui xs) apart in
    let others = or_parts (same_eui x p) (list_any (λ (x : script.Station). same_eui x p) xs) free in
    ap (λ b. not b && all_apart same_eui (xs ++ p ∷ []))
    (any_more (same_eui x) xs p (not-true (list_any (same_eui x) xs) parts.0) others.0)
    ∙ apart_more xs p parts.1 others.1

free_eui : (name : Bytes) (eui short : ℕ) (p : script.Station) → p.eui ≡ eui → (xs : List script.Station)
    → list_any (λ station. is_taken name eui short station) xs ≡ false
    → list_any (λ (x : script.Station). same_eui x p) xs ≡ false
free_eui name eui short p is [] free = refl
free_eui name eui short p is (x ∷ xs) free =
    let one = or_parts (is_taken name eui short x) _ free in
    let two = or_parts (bytes_eq x.name name || x.eui == eui) (x.short == short) one.0 in
    let three = or_parts (bytes_eq x.name name) (x.eui == eui) two.0 in
    ap (λ b. b || list_any (λ (x : script.Station). same_eui x p) xs) (ap (nat_eq x.eui) is ∙ three.1)
    ∙ free_eui name eui short p is xs one.1

begins_more : (xs : List script.Station) (p : script.Station) → BeginsWithCentre xs → is_joiner p.role ≡ true
    → BeginsWithCentre (xs ++ p ∷ [])
begins_more [] p is joins = absurd is
begins_more (x ∷ xs) p is joins =
    (is.0, all-append (λ (y : script.Station). is_joiner y.role ≡ true) xs (p ∷ []) is.1 (joins, tt))

more_header : (network : Script) (p : script.Station) → IsHeader network → p.eui < 2 ^ 64 → is_joiner p.role ≡ true
    → list_any (λ (x : script.Station). same_eui x p) network.stations ≡ false
    → nat_le 64 (length network.stations) ≡ false → IsHeader (record network { stations = network.stations ++ p ∷ [] })
more_header network p is small joins free room = record {
  centre = begins_more network.stations p is.centre joins;
  differ = apart_more network.stations p is.differ free;
  euis = all-append (λ (x : script.Station). x.eui < 2 ^ 64) network.stations (p ∷ []) is.euis (small, tt);
  few = omega (arith, length-append network.stations (p ∷ []), leb-false 64 (length network.stations) room);
  out_block = is.out_block;
  in_block = is.in_block;
}

peer_head : (network : Script) (name : Bytes) (role : Role) (eui short : ℕ) → HasHead network → eui < 2 ^ 64
    → is_joiner role ≡ true → IfOk (after_peer network name role eui short) HasHead
peer_head network name role eui short head small joins = by_centre (has_centre network) refl
  where
    peer : script.Station
    peer = record { name = name; role = role; eui = eui; short = short }

    with_peer : Script
    with_peer = record network { stations = network.stations ++ peer ∷ [] }

    by_room : (b : Bool) → has_centre network ≡ true
        → list_any (λ station. is_taken name eui short station) network.stations ≡ false
        → nat_le 64 (length network.stations) ≡ b
        → IfOk {T = Script} {E = ScriptCause} (if b then Err TooMany else Ok with_peer) HasHead
    by_room true some none room = tt
    by_room false some none room = λ again. more_header network peer (head some) small joins
        (free_eui name eui short peer refl network.stations none) room

    by_name : (b : Bool) → has_centre network ≡ true
        → list_any (λ station. is_taken name eui short station) network.stations ≡ b
        → IfOk {T = Script} {E = ScriptCause} (if b then Err DuplicateNode
        else if nat_le 64 (length network.stations) then Err TooMany else Ok with_peer) HasHead
    by_name true some none = tt
    by_name false some none = by_room (nat_le 64 (length network.stations)) some none refl

    by_begun : (b : Bool) → has_centre network ≡ true
        → IfOk {T = Script} {E = ScriptCause} (if b then Err Syntax
        else if list_any (λ station. is_taken name eui short station) network.stations then Err DuplicateNode
        else if nat_le 64 (length network.stations) then Err TooMany else Ok with_peer) HasHead
    by_begun true some = tt
    by_begun false some =
        by_name (list_any (λ station. is_taken name eui short station) network.stations) some refl

    by_centre : (b : Bool) → has_centre network ≡ b
        → IfOk {T = Script} {E = ScriptCause} (if not b || has_begun network then Err Syntax
        else if list_any (λ station. is_taken name eui short station) network.stations then Err DuplicateNode
        else if nat_le 64 (length network.stations) then Err TooMany else Ok with_peer) HasHead
    by_centre true some = by_begun (has_begun network) some
    by_centre false none = tt

-- ---- a session

abbrev pub IsFoundRuled : Found → Type 0
IsFoundRuled (Ok (Some s)) = IsWell s
IsFoundRuled (Ok None) = ⊤
IsFoundRuled (Err fault) = ⊤

-- the tables of the session keep both, or what is found does, before it is open
abbrev pub IsOpen : Script → Type 0
IsOpen network = IsHead (setting_of network) × IsHeader network

abbrev pub IsRuledIn : Found → Option NodeState → Script → Type 0
IsRuledIn found None network = IsFoundRuled found × HasHead network
IsRuledIn found (Some s) network = IsWell s × IsOpen network

closed_ruled : (found : Found) (o : Option NodeState) (network : Script) → o ≡ None → IsFoundRuled found
    → HasHead network → IsRuledIn found o network
closed_ruled found o network none is first =
    subst (λ (x : Option NodeState). IsRuledIn found x network) (sym none) (is, first)

declared_ruled : (number : ℕ) (v : Living) (found : Found) (r : Result Script ScriptCause) → v.tables ≡ None
    → IsFoundRuled found → HasHead v.network → IfOk r HasHead
    → IsRuledIn found (declared number v r).after.tables (declared number v r).after.network
declared_ruled number v found (Ok network) none is first more = closed_ruled found v.tables network none is more
declared_ruled number v found (Err why) none is first more = closed_ruled found v.tables v.network none is first

opened_ruled : (number : ℕ) (v : Living) (found : Found) → v.tables ≡ None → IsFoundRuled found → HasHead v.network
    → has_centre v.network ≡ true
    → IsRuledIn found (opened number found v).after.tables (opened number found v).after.network
opened_ruled number v (Ok (Some s)) none is first some = (is, (head_of v.network (first some), first some))
opened_ruled number v (Ok None) none is first some = closed_ruled (Ok None) v.tables v.network none is first
opened_ruled number v (Err fault) none is first some = closed_ruled (Err fault) v.tables v.network none is first

header_ruled : (number : ℕ) (found : Found) (said : Sentence) (v : Living) → v.tables ≡ None → SaidFits said
    → IsFoundRuled found → HasHead v.network
    → IsRuledIn found (on_header number found said v).after.tables (on_header number found said v).after.network
header_ruled number found Quiet v none fits is first = closed_ruled found v.tables v.network none is first
header_ruled number found (Founds name eui out_block in_block) v none fits is first =
    declared_ruled number v found (after_centre v.network name eui out_block in_block) none is first
    (centre_head v.network name eui out_block in_block fits)
header_ruled number found (Introduces name role eui short) v none fits is first =
    declared_ruled number v found (after_peer v.network name role eui short) none is first
    (peer_head v.network name role eui short first fits.0 fits.1)
header_ruled number found (Logs log) v none fits is first = closed_ruled found v.tables v.network none is first
header_ruled number found Opens v none fits is first = by_centre (has_centre v.network) refl
  where
    by_centre : (b : Bool) → has_centre v.network ≡ b
        → IsRuledIn found (if b then opened number found v else refused number cause.NoCentre v).after.tables
        (if b then opened number found v else refused number cause.NoCentre v).after.network
    by_centre true some = opened_ruled number v found none is first some
    by_centre false some = closed_ruled found v.tables v.network none is first
header_ruled number found (Happens event) v none fits is first = closed_ruled found v.tables v.network none is first
header_ruled number found (Asks question) v none fits is first = closed_ruled found v.tables v.network none is first

open_still : (found : Found) (o : Option NodeState) (s : NodeState) (network : Script) → o ≡ Some s → IsWell s
    → IsOpen network → IsRuledIn found o network
open_still found o s network some is head =
    subst (λ (x : Option NodeState). IsRuledIn found x network) (sym some) (is, head)

happened_ruled : (number : ℕ) (found : Found) (v : Living) (s : NodeState) (r : Result Task Cause) → v.tables ≡ Some s
    → IfOk r TaskFits → IsWell s → IsOpen v.network
    → IsRuledIn found (happened number v s r).after.tables (happened number v s r).after.network
happened_ruled number found v s (Ok task) some fits is head =
    (event_well (setting_of v.network) task s head.0 fits is, head)
happened_ruled number found v s (Err why) some fits is head = open_still found v.tables s v.network some is head

open_ruled : (number : ℕ) (found : Found) (s : NodeState) (said : Sentence) (v : Living) → v.tables ≡ Some s
    → SaidFits said → IsWell s → IsOpen v.network
    → IsRuledIn found (on_open number s said v).after.tables (on_open number s said v).after.network
open_ruled number found s Quiet v some fits is head = open_still found v.tables s v.network some is head
open_ruled number found s (Founds name eui out_block in_block) v some fits is head =
    open_still found v.tables s v.network some is head
open_ruled number found s (Introduces name role eui short) v some fits is head =
    open_still found v.tables s v.network some is head
open_ruled number found s (Logs log) v some fits is head = open_still found v.tables s v.network some is head
open_ruled number found s Opens v some fits is head = open_still found v.tables s v.network some is head
open_ruled number found s (Happens event) v some fits is head =
    happened_ruled number found v s (task_for v.network.stations event) some
    (task_fits v.network.stations event head.1.euis fits) is head
open_ruled number found s (Asks question) v some fits is head = open_still found v.tables s v.network some is head

-- the same of a line whose session has these tables, or isn't open
stage_ruled : (number : ℕ) (found : Found) (o : Option NodeState) (m : Option Sentence) (v : Living) → v.tables ≡ o
    → IfSome m SaidFits → IsRuledIn found o v.network
    → IsRuledIn found (on_meaning number found m v).after.tables (on_meaning number found m v).after.network
stage_ruled number found None None v none fits is = closed_ruled found v.tables v.network none is.0 is.1
stage_ruled number found (Some s) None v some fits is = open_still found v.tables s v.network some is.0 is.1
stage_ruled number found None (Some said) v none fits is =
    subst (λ (o : Option NodeState). IsRuledIn found (on_stage number found o said v).after.tables
    (on_stage number found o said v).after.network) (sym none) (header_ruled number found said v none fits is.0 is.1)
stage_ruled number found (Some s) (Some said) v some fits is =
    subst (λ (o : Option NodeState). IsRuledIn found (on_stage number found o said v).after.tables
    (on_stage number found o said v).after.network) (sym some)
    (open_ruled number found s said v some fits is.0 is.1)

pub line_ruled : (found : Found) (line : Bytes) (v : Living) → IsRuledIn found v.tables v.network
    → IsRuledIn found (done found line v).after.tables (done found line v).after.network
unfolding done
line_ruled found line v is =
    stage_ruled (next v.lines) found v.tables (meaning_of line) (counted v) refl (meaning_fits line) is

lines_ruled : (found : Found) (lines : List Bytes) (v : Living) → IsRuledIn found v.tables v.network
    → IsRuledIn found (served found lines v).after.tables (served found lines v).after.network
lines_ruled found [] v is = is
lines_ruled found (line ∷ more) v is = lines_ruled found more (done found line v).after (line_ruled found line v is)

-- ---- what an image holds

booted_again : (u t : NodeState) → t ≡ after_boot u → IsRuled Centre u → IsRuled Centre t
unfolding after_boot
booted_again u t same is = subst (IsRuled Centre) (sym same)
    (record {
      role_is = is.role_is;
      rules = rules_same u ∙ is.rules;
      forgets = sym (boot_same u) ∙ ap after_boot is.forgets;
    })

given_ruled : (r q : List ℕ) → IfOk (state_given Centre r q) (IsRuled Centre)
given_ruled r q = by_state (state_given Centre r q) refl
  where
    by_state : (x : Result NodeState ℕ) → state_given Centre r q ≡ x → IfOk x (IsRuled Centre)
    by_state (Err at) is = tt
    by_state (Ok t) is =
        let b = begun Centre r q t is in
        booted_again b.reached t b.booted
        (entries_ruled (version_in r) Centre q [] b.start b.reached (read_ruled r b.start b.read b.role_is) b.made)

tables_ruled : (x : Result NodeState ℕ) → IfOk x (IsRuled Centre) → IsFoundRuled (found_tables x)
tables_ruled (Err at) is = tt
tables_ruled (Ok s) is = by_width (fits_widths s) refl
  where
    by_width : (b : Bool) → fits_widths s ≡ b → IsFoundRuled (if b then Ok (Some s) else Err (BadStore 0))
    by_width true fits = record { ruled = is; fits = fits_from s fits }
    by_width false fits = tt

store_ruled : (o : Option Standing) → IsFoundRuled (found_store o)
store_ruled None = tt
store_ruled (Some z) = tables_ruled (state_given Centre z.content (concat z.payloads))
    (given_ruled z.content (concat z.payloads))

pub found_ruled : (image : List ℕ) → IsFoundRuled (found_on image)
unfolding found_on
found_ruled [] = tt
found_ruled (byte ∷ bytes) = store_ruled (stands (byte ∷ bytes))

are_kept : (found : Found) (o : Option NodeState) (network : Script) → IsRuledIn found o network → AreKept o
are_kept found None network is = tt
are_kept found (Some s) network is =
    record { rules = is.0.ruled.rules; forgets = is.0.ruled.forgets; widths = is.0.fits }

pub no_header : has_centre start ≡ true → IsHeader start
no_header some = absurd (false≢true some)

after_ruled : (image : List ℕ) (lines : List Bytes)
    → IsRuledIn (found_on image) (served (found_on image) lines fresh).after.tables
    (served (found_on image) lines fresh).after.network
after_ruled image lines = lines_ruled (found_on image) lines fresh (found_ruled image, no_header)

-- the tables of a session on an image keep the rules and the widths
pub session_kept : (image : List ℕ) (lines : List Bytes) → AreKept (served (found_on image) lines fresh).after.tables
session_kept image lines =
    let after = (served (found_on image) lines fresh).after in
    are_kept (found_on image) after.tables after.network (after_ruled image lines)

opened_header : (found : Found) (o : Option NodeState) (network : Script) → IsRuledIn found o network
    → is_some o ≡ true → IsHeader network
opened_header found None network is some = absurd (false≢true some)
opened_header found (Some s) network is some = is.1.1

-- a session that was opened has a header that may be
pub session_header : (image : List ℕ) (lines : List Bytes)
    → is_some (served (found_on image) lines fresh).after.tables ≡ true
    → IsHeader (served (found_on image) lines fresh).after.network
session_header image lines some =
    let after = (served (found_on image) lines fresh).after in
    opened_header (found_on image) after.tables after.network (after_ruled image lines) some
