-- Which lines a recount represents.
--
-- For each node it keeps the readings of the lines before the group and of all lines so far. The lines that it noted
-- are those of the group that don't add up, or wait for its end.
use Rattle.std.specs.Prelude.{◌≡◌, ℕ, ◌+◌, ◌≤◌, Bool, true, false, if◌then◌else◌, ◌&&◌, ◌||◌, List, [], ◌∷◌, ◌++◌, cond, length, get_or, nat_eq, Option, Some, None, IfSome}
use Rattle.std.specs.BTreeMap.{BTreeMap, get}
use Rattle.std.specs.List.{list_any, list_all, AllByRecursion}
use Rattle.std.specs.Option.{option_map, option_or, is_some, IsSome}
use Rattle.std.specs.Ordering.{nat_cmp}
use Rattle.zb_base.specs.declared.key.Key.{Key}
use Rattle.zb_base.specs.declared.label.Layer.{Layer}
use Rattle.zb_base.specs.declared.label.Layer.TheVariants.{Nwk, Aps}
use Rattle.zb_audit_names.specs.Groups.{event_of, flat, groups}
use Rattle.zb_audit_names.specs.Naming.{place_in, speaker}
use Rattle.zb_model.specs.Data.{Bytes}
use Rattle.zb_audit_counters.specs.Counting.{accepted, activates, cuts, first_of, first_uncounted, floor_fits, is_called_for, seals_at, starts, uncounted_from, uncounted_in}
use Rattle.zb_audit_counters.specs.Readings.{active, active_in, declared, floor_in, has_started, last, limit_behind, reserve_in, sealed_in, since_boot, stored}
use Rattle.zb_audit_counters.specs.Standing.{AreFresh, Hears, before_of, fits_all, floor_of, is_met, judged_at, key_bytes, key_in, layer_of, since}
use Rattle.zb_audit_counters.specs.declared.counters.Counters.{Counters}
use Rattle.zb_audit_counters.specs.declared.floor.Floor.{Floor}
use Rattle.zb_audit_counters.specs.declared.floor.Sender.{Sender}
use Rattle.zb_audit_counters.specs.declared.judgement.Judgement.{Judgement}
use Rattle.zb_audit_counters.specs.declared.judgement.Judgement.TheVariants.{Stands, Falls, Waits}
use Rattle.zb_audit_counters.specs.declared.judgement.Need.{Need}
use Rattle.zb_audit_counters.specs.declared.judgement.Need.TheVariants as need
use Rattle.zb_audit_counters.specs.declared.judgement.Wait.{Wait}
use Rattle.zb_audit_counters.specs.declared.key.KeyCounters.{KeyCounters}
use Rattle.zb_audit_counters.specs.declared.layer.LayerCounters.{LayerCounters}
use Rattle.zb_audit_counters.specs.declared.outgoing.Outgoing.{Outgoing}
use Rattle.zb_audit_counters.specs.declared.outgoing.Sealed.{Sealed}
use Rattle.zb_audit_counters.specs.declared.recount.Recount.{Recount}
use Rattle.zb_audit_counters.specs.declared.versioned.Versioned.{Versioned}
use Rattle.zb_trace.specs.declared.line.Line.{Line}

-- A value, seen by `f`, was `old` before the group and is `new` now. It was set in no line after the first `count`.
abbrev pub IsRead : {T A : Type 0} → (T → A) → ℕ → ℕ → Versioned T → A → A → Type 0
IsRead f count g v old new = (v.group ≤ count) × (f (before_of g v) ≡ old) × (f v.latest ≡ new)

-- The group of a last line is this one exactly if it has such a line.
abbrev pub IsMark : ℕ → ℕ → ℕ → Bool → Type 0
IsMark count g mark there = (mark ≤ count) × (nat_eq mark g ≡ there)

abbrev pub itself : {A : Type 0} → A → A
itself x = x

-- The counter of the last seal, if no boot came after it.
unfoldable pub last_seal : Bytes → Layer → Option Bytes → List Line → Option ℕ
last_seal n l key h = last (sealed_in n l key) (since_boot n h)

pub record IsOutgoing (count g : ℕ) (booted : Versioned ℕ)
    (limit_before limit_now sealed_before sealed_now : Option ℕ) (o : Outgoing) : Type 0 where
  pub limit : IsRead itself count g o.limit limit_before limit_now
  pub past : o.sealed.group ≤ count
  pub before : since (before_of g booted) (before_of g o.sealed) ≡ sealed_before
  pub now : since booted.latest o.sealed.latest ≡ sealed_now
  pub noted : IfSome o.sealed.latest (λ (s : Sealed). s.boot ≤ booted.latest)

pub record IsLayer (count g : ℕ) (n : Bytes) (l : Layer) (before : List (List Line)) (front : List Line)
    (a : LayerCounters) : Type 0 where
  pub declared : IsRead itself count g a.declared (declared (flat before) n l) (declared (flat before ++ front) n l)
  pub reserved : IsMark count g a.reserved (is_some (last (reserve_in n l) front))
  pub sealed : IsMark count g a.sealed (list_any (seals_at n l) front)

pub record IsKey (count g : ℕ) (booted : Versioned ℕ) (n key : Bytes) (before : List (List Line)) (front : List Line)
    (k : KeyCounters) : Type 0 where
  pub outgoing : IsOutgoing count g booted (limit_behind [] n key before)
      (limit_behind [] n key (before ++ front ∷ []))
      (last_seal n Nwk (Some key) (flat before)) (last_seal n Nwk (Some key) (flat before ++ front)) k.outgoing
  pub started : IsRead itself count g k.started (has_started (flat before) n key)
      (has_started (flat before ++ front) n key)
  pub start : IsMark count g k.start (list_any (starts n key) front)
  pub active : IsMark count g k.active (list_any (activates n key) front)

-- Whether there are any.
abbrev pub are_any : List ℕ → Bool
are_any [] = false
are_any (x ∷ xs) = true

pub record IsFloor (count g : ℕ) (n : Bytes) (l : Layer) (key : Bytes) (sender : ℕ) (before : List (List Line))
    (front : List Line) (f : Floor) : Type 0 where
  pub kept : IsRead itself count g f.stored (stored (flat before) n l key sender)
      (stored (flat before ++ front) n l key sender)
  pub here : nat_eq f.stored.group g ≡ is_some (last (floor_in n l key sender) front)
  pub taken : IsMark count g f.accepted (are_any (accepted front n l key sender))
  pub fits : (floor value block : ℕ) → fits_all g floor value block f
      ≡ list_all (floor_fits floor value block) (accepted front n l key sender)
  pub ordered : f.least ≤ f.greatest

-- The counters are those of the node of this name, by the groups before and the lines of the group so far.
pub record IsOf (count g : ℕ) (n : Bytes) (before : List (List Line)) (front : List Line) (c : Counters) : Type 0 where
  pub active : IsRead (option_map key_bytes) count g c.active (active (flat before) n)
      (active (flat before ++ front) n)
  pub activated : c.activated ≡ is_some (last (active_in n) (flat before ++ front))
  pub booted : (c.booted.group ≤ count) × (c.booted.latest ≤ count)
  pub layers : (l : Layer) → IsLayer count g n l before front (layer_of c l)
  pub outgoing : (key : Option Bytes) → IsOutgoing count g c.booted (last (reserve_in n Aps) (flat before))
      (last (reserve_in n Aps) (flat before ++ front))
      (last_seal n Aps key (flat before)) (last_seal n Aps key (flat before ++ front)) c.outgoing
  pub keys : (key : Key) → IsKey count g c.booted n key.0 before front (key_in c.keys key)
  pub floors : (s : Sender) → IsFloor count g n s.layer s.key.0 s.eui.0 before front (floor_of c.floors s)

-- The same for a node about which nothing may be kept yet.
abbrev pub IsAt : ℕ → ℕ → Bytes → List (List Line) → List Line → Option Counters → Type 0
IsAt count g n before front None = (c : Counters) → AreFresh c → IsOf count g n before front c
IsAt count g n before front (Some c) = IsOf count g n before front c

-- Whether the group has the line for which a line of this node waits.
abbrev pub meets : List (List Line) → List Line → Bytes → Need → Bool
meets before group n (need.Seal l) = list_any cuts group || list_any (seals_at n l) group
meets before group n (need.Floor s) = is_some (last (floor_in n s.layer s.key.0 s.eui.0) group)
meets before group n (need.Accept s value block) =
    list_all (floor_fits (stored (flat before) n s.layer s.key.0 s.eui.0) value block)
    (accepted group n s.layer s.key.0 s.eui.0)
    && is_called_for (list_any cuts group) (stored (flat before) n s.layer s.key.0 s.eui.0) value
    (accepted group n s.layer s.key.0 s.eui.0)
meets before group n (need.Start key) = list_any (starts n key.0) group
meets before group n (need.Active key) = list_any (activates n key.0) group

abbrev pub verdict : List (List Line) → List Line → Bytes → Judgement → Bool
verdict before group n Stands = true
verdict before group n Falls = false
verdict before group n (Waits what) = meets before group n what

-- The first line that waits in vain. Names are identified by their places.
abbrev pub first_unmet : List Bytes → List (List Line) → List Line → List Wait → Option ℕ
first_unmet names before group [] = None
first_unmet names before group (w ∷ ws) =
    if meets before group (get_or names w.place []) w.need then first_unmet names before group ws else Some w.line

pub record IsWaiting (names : List Bytes) (nodes : BTreeMap ℕ Counters) (w : Wait) : Type 0 where
  pub name : Bytes
  pub place : place_in names name ≡ Some w.place
  pub there : IsSome (get nat_cmp nodes w.place)

-- The lines of a group so far: all of one event, or one line without an event.
pub record IsRun (event : Option ℕ) (front : List Line) : Type 0 where
  pub alike : AllByRecursion (λ (l : Line). event_of l ≡ event) front
  pub alone : event ≡ None → length front ≤ 1

-- What a recount keeps for these groups before and these lines of the group. No group has a line that doesn't add up.
pub record IsOfGroups (names : List Bytes) (r : Recount) (before : List (List Line)) (front : List Line) : Type 0 where
  pub group : r.group ≡ length (flat before) + 1
  pub past : first_of (uncounted_from [] 1 before) ≡ None
  pub cut : r.cut ≡ list_any cuts front
  pub nodes : (n : Bytes) (place : ℕ) → place_in names n ≡ Some place
      → IsAt (length (flat before ++ front)) r.group n before front (get nat_cmp r.nodes place)
  pub waits : AllByRecursion (IsWaiting names r.nodes) r.waits.items
  pub judged : (rest : List Line) → first_of (uncounted_in before (front ++ rest) [] r.group front)
      ≡ option_or (first_unmet names before (front ++ rest) r.waits.items) r.bad

pub record IsUnderWay (names : List Bytes) (r : Recount) (lines : List Line) (before : List (List Line))
    (front : List Line) : Type 0 where
  pub lines_are : lines ≡ flat before ++ front
  pub ahead : (rest : List Line) → groups (lines ++ rest) ≡ before ++ groups (front ++ rest)
  pub run : IsRun r.event front
  pub kept : IsOfGroups names r before front

-- The recount represents these lines. If a line of a group that has ended doesn't add up, it stays the first one,
-- whatever follows.
abbrev pub RecountsTo : Option ℕ → List Bytes → Recount → List Line → Type 0
RecountsTo None names r lines = (before : List (List Line)) × (front : List Line)
    × IsUnderWay names r lines before front
RecountsTo (Some number) names r lines = (rest : List Line) → first_uncounted (lines ++ rest) ≡ Some number

unfoldable pub Recounts : List Bytes → Recount → List Line → Type 0
Recounts names r lines = RecountsTo r.first names r lines

-- The same before a line of the recount's event.
pub record IsReadyFor (names : List Bytes) (r : Recount) (lines : List Line) (l : Line) (before : List (List Line))
    (front : List Line) : Type 0 where
  pub lines_are : lines ≡ flat before ++ front
  pub ahead : (rest : List Line) → groups (lines ++ l ∷ rest) ≡ before ++ groups (front ++ l ∷ rest)
  pub run : IsRun r.event (front ++ l ∷ [])
  pub kept : IsOfGroups names r before front

abbrev pub ReadyTo : Option ℕ → List Bytes → Recount → List Line → Line → Type 0
ReadyTo None names r lines l = (before : List (List Line)) × (front : List Line)
    × IsReadyFor names r lines l before front
ReadyTo (Some number) names r lines l = (rest : List Line) → first_uncounted (lines ++ l ∷ rest) ≡ Some number

unfoldable pub Ready : List Bytes → Recount → List Line → Line → Type 0
Ready names r lines l = ReadyTo r.first names r lines l

-- The counters at a place: those that are kept, or fresh ones if none are kept.
abbrev pub IsOrFresh : Option Counters → Counters → Type 0
IsOrFresh None c = AreFresh c
IsOrFresh (Some kept) c = c ≡ kept

pub record HasHeard (g number : ℕ) (l : Line) (out_block in_block : Option ℕ) (place : ℕ)
    (old new : BTreeMap ℕ Counters) (j : Judgement) : Type 0 where
  pub was : Counters
  pub is : Counters
  pub found : IsOrFresh (get nat_cmp old place) was
  pub heard : (n : Bytes) → speaker l ≡ Some n → Hears g number n l was is
  pub judged : j ≡ judged_at g was out_block in_block l
  pub puts : (q : ℕ) → get nat_cmp new q ≡ cond (nat_eq place q) (Some is) (get nat_cmp old q)

-- The first bad line, and the lines that wait, after a line with this judgement.
abbrev pub with_bad : ℕ → Judgement → Option ℕ → Option ℕ
with_bad number j (Some bad) = Some bad
with_bad number Stands None = None
with_bad number Falls None = Some number
with_bad number (Waits what) None = None

abbrev pub with_wait : ℕ → ℕ → Judgement → Option ℕ → List Wait → List Wait
with_wait number place j (Some bad) waits = waits
with_wait number place Stands None waits = waits
with_wait number place Falls None waits = waits
with_wait number place (Waits what) None waits = waits ++ record { line = number; place = place; need = what } ∷ []

-- Whether a waiting line is met, by what is kept.
abbrev pub is_met_at : Recount → Wait → Option Counters → Bool
is_met_at r w None = false
is_met_at r w (Some c) = is_met r.group r.cut c w.need

abbrev pub first_unmet_by : Recount → List Wait → Option ℕ
first_unmet_by r [] = None
first_unmet_by r (w ∷ ws) = if is_met_at r w (get nat_cmp r.nodes w.place) then first_unmet_by r ws else Some w.line
