-- The keys, sequences and floors of a node's state are in their ranges, whatever lines in range say.
use Rattle.std.proofs.Common.{ℕ, ◌+◌, ◌<◌, Bool, true, false, cond, List, [], ◌∷◌, ◌++◌, fold, max, not, nat_eq, nat_lt, Option, Some, None, arith}
use Rattle.std.specs.List.{AllByRecursion, list_any}
use Rattle.zb_model.specs.Data.{Bytes, Layer, Nwk, Aps, Attribute, Provisional, Term, Device, Move, Draw, DropNet, DropLink, Install, Active, Row, Pair, Became, Live, Removed, Roll, Told, Untold, Edit, Reserve, Floor, Start, Moved}
use Rattle.zb_model.specs.Lines.{Line, Declared, GivenNet, GivenLink, Counter, Changed, Accept, Seal, Send, Inject, Boot}
use Rattle.zb_model.specs.Readings.{state_of, heard_line, after, air, air_line}
use Rattle.zb_model.specs.State.{SenderFloor, NetKey, LinkKey, PairKey, NodeState, new_node, same_key, has_net, is_link, has_link, is_live_of, is_told, names, names_two, at_net, of_active, new_net, reserved, started_at, dropped_net, dropped_link, floor_stored, net_floor, link_floor, told_as, revived, new_link, with_link, with_told, moved, applied, next_at, sealed_at, after_sealing, floor_kept, net_kept, link_kept, after_hearing, after_accepting, booted_floor, booted_net, booted_link, after_boot, given_net, with_given_net, with_given_link, declared_at, with_declared}
use Rattle.law_run.proofs.FreshLines.{all-append, heard-keeps}
use Rattle.law_run_ranges.specs.Ranges.{IsCount, IsEui, IsByte, IsKey, IsShort, MoveInRange, EditInRange, LineInRange}
use Rattle.law_run_ranges.proofs.Lists.{filtered, mapped, changed, if_then}

abbrev pub FloorInRange : SenderFloor → Type 0
FloorInRange f = IsCount f.kept × IsCount f.stored

abbrev pub NetInRange : NetKey → Type 0
NetInRange r = IsKey r.key × IsByte r.sequence × AllByRecursion FloorInRange r.floors

abbrev pub LinkInRange : LinkKey → Type 0
LinkInRange r = IsEui r.partner × IsKey r.key × IsCount r.kept × IsCount r.stored

abbrev pub PairInRange : PairKey → Type 0
PairInRange p = IsKey p.key

abbrev pub StateInRange : NodeState → Type 0
StateInRange s = AllByRecursion NetInRange s.nets × AllByRecursion LinkInRange s.links
    × AllByRecursion PairInRange s.pairs

-- ---- changes

max_count : (a b : ℕ) → IsCount a → IsCount b → IsCount (max a b)
max_count a b p q = omega arith

in_active : (f : NetKey → NetKey) → ((r : NetKey) → NetInRange r → NetInRange (f r))
    → (o : Option Bytes) (rs : List NetKey) → AllByRecursion NetInRange rs
    → AllByRecursion NetInRange (of_active f o rs)
in_active f keeps None rs all = all
in_active f keeps (Some key) rs all = changed NetInRange (λ (r : NetKey). same_key r.key key) f keeps rs all

floor_in : (sender value : ℕ) (fs : List SenderFloor) → IsCount value → AllByRecursion FloorInRange fs
    → AllByRecursion FloorInRange (floor_stored sender value fs)
floor_in sender value [] v all = ((omega arith, v), tt)
floor_in sender value (f ∷ fs) v all =
    if_then (λ (l : List SenderFloor). AllByRecursion FloorInRange l) (nat_lt sender f.sender) _ _
    ((omega arith, v), all)
    (if_then (λ (l : List SenderFloor). AllByRecursion FloorInRange l) (nat_eq sender f.sender) _ _
    ((all.0.0, max_count f.stored value all.0.1 v), all.1)
    (all.0, floor_in sender value fs v all.1))

link_in : (partner : ℕ) (key : Bytes) (a : Attribute) (told : Bool) (rs : List LinkKey) → IsEui partner → IsKey key
    → AllByRecursion LinkInRange rs → AllByRecursion LinkInRange (with_link partner key a told rs)
link_in partner key a told rs p k all =
    if_then (λ (l : List LinkKey). AllByRecursion LinkInRange l) (has_link partner key rs) _ _
    (changed LinkInRange (is_link partner key) (revived a told) (λ r x. x) rs all)
    (all-append LinkInRange rs (new_link partner key a told ∷ []) all ((p, k, omega arith, omega arith), tt))

told_in : (partner : ℕ) (told : Bool) (rs : List LinkKey) → AllByRecursion LinkInRange rs
    → AllByRecursion LinkInRange (with_told partner told rs)
told_in partner told rs all = changed LinkInRange (is_live_of partner) (told_as told) (λ r x. x) rs all

net_in : (key : Bytes) (rs : List NetKey) (r : NetKey) → NetInRange r → AllByRecursion NetInRange rs
    → AllByRecursion NetInRange (cond (has_net key rs) rs (rs ++ r ∷ []))
net_in key rs r is all = if_then (λ (l : List NetKey). AllByRecursion NetInRange l) (has_net key rs) rs (rs ++ r ∷ [])
    all (all-append NetInRange rs (r ∷ []) all (is, tt))

at_key : (key : Bytes) (f : NetKey → NetKey) → ((r : NetKey) → NetInRange r → NetInRange (f r)) → (rs : List NetKey)
    → AllByRecursion NetInRange rs → AllByRecursion NetInRange (at_net key f rs)
at_key key f keeps rs all = changed NetInRange (λ (r : NetKey). same_key r.key key) f keeps rs all

after_move : (m : Move) (s : NodeState) → MoveInRange m → StateInRange s → StateInRange (moved m s)
after_move (Draw key) s m is = is
after_move (DropNet key) s m is = (at_key key dropped_net (λ r x. x) s.nets is.0, is.1, is.2)
after_move (DropLink partner key) s m is =
    (is.0, changed LinkInRange (is_link partner key) dropped_link (λ r x. x) s.links is.1, is.2)
after_move (Install key sequence) s m is = (net_in key s.nets (new_net key sequence) (m.0, m.1, tt) is.0, is.1, is.2)
after_move (Active key) s m is = is
after_move (Row partner key attribute) s m is =
    (is.0, link_in partner key attribute (is_told s partner) s.links m.0 m.1 is.1, is.2)
after_move (Pair first second key) s m is = (
  is.0,
  is.1,
  if_then (λ (l : List PairKey). AllByRecursion PairInRange l)
      (list_any (names_two first second) s.pairs) _ _ is.2 (all-append PairInRange s.pairs _ is.2 (m.2, tt)),
)
after_move (Became state) s m is = is
after_move (Live device) s m is = (is.0, told_in device false s.links is.1, is.2)
after_move (Removed device) s m is =
    (is.0, is.1, filtered PairInRange (λ (p : PairKey). not (names device p)) s.pairs is.2)
after_move (Roll sending) s m is = (
  is.0,
  if_then (λ (l : List LinkKey). AllByRecursion LinkInRange l) sending _ _
      (mapped LinkInRange (told_as false) (λ r x. x) s.links is.1) is.1,
  is.2,
)
after_move (Told device) s m is = (is.0, told_in device true s.links is.1, is.2)
after_move (Untold device) s m is = (is.0, told_in device false s.links is.1, is.2)

after_edit : (e : Edit) (s : NodeState) → EditInRange e → StateInRange s → StateInRange (applied e s)
unfolding applied
after_edit (Reserve Nwk limit) s e is = (in_active (reserved limit) (λ r x. x) s.active s.nets is.0, is.1, is.2)
after_edit (Reserve Aps limit) s e is = is
after_edit (Floor Nwk key sender value) s e is = (
  at_key key (net_floor sender value) (λ r x. (x.0, x.1, floor_in sender value r.floors e.2 x.2)) s.nets is.0,
  is.1,
  is.2,
)
after_edit (Floor Aps key sender value) s e is = (
  is.0,
  changed LinkInRange (is_link sender key) (link_floor value)
      (λ r x. (x.0, x.1, x.2, max_count r.stored value x.3 e.2)) s.links is.1,
  is.2,
)
after_edit (Start key value) s e is = (at_key key (started_at value) (λ r x. x) s.nets is.0, is.1, is.2)
after_edit (Moved m) s e is = after_move m s e is

-- ---- seals, accepted terms, boots, the start

after_seal : (l : Layer) (t : Term) (s : NodeState) → StateInRange s → StateInRange (sealed_at l t s)
after_seal Nwk t s is = (at_key t.base (next_at (t.counter + 1)) (λ r x. x) s.nets is.0, is.1, is.2)
after_seal Aps t s is = is

kept_in : (sender kept : ℕ) → IsCount kept → (fs : List SenderFloor) → AllByRecursion FloorInRange fs
    → AllByRecursion FloorInRange (floor_kept sender kept fs)
kept_in sender kept k fs all = changed FloorInRange (λ (f : SenderFloor). nat_eq f.sender sender)
    (λ (f : SenderFloor). record f { kept = kept }) (λ f x. (k, x.1)) fs all

after_heard : (l : Layer) (key : Bytes) (sender counter : ℕ) (s : NodeState) → counter < 4294967295 → StateInRange s
    → StateInRange (after_hearing l key sender counter s)
unfolding after_hearing
after_heard Nwk key sender counter s lt is = (
  at_key key (net_kept sender (counter + 1))
      (λ r x. (x.0, x.1, kept_in sender (counter + 1) (omega arith) r.floors x.2)) s.nets is.0,
  is.1,
  is.2,
)
after_heard Aps key sender counter s lt is = (
  is.0,
  changed LinkInRange (is_link sender key) (link_kept (counter + 1)) (λ r x. (x.0, x.1, omega arith, x.3))
      s.links is.1,
  is.2,
)

booted : (s : NodeState) → StateInRange s → StateInRange (after_boot s)
unfolding after_boot
booted s is = (
  mapped NetInRange booted_net (λ r x. (x.0, x.1, mapped FloorInRange booted_floor (λ f y. (y.1, y.1)) r.floors x.2))
      s.nets is.0,
  mapped LinkInRange booted_link (λ r x. (x.0, x.1, x.3, x.3)) s.links is.1,
  is.2,
)

declared : (l : Layer) (value : ℕ) (s : NodeState) → StateInRange s → StateInRange (with_declared l value s)
unfolding with_declared
declared Nwk value s is =
    (mapped NetInRange (declared_at value) (λ r x. if_then NetInRange r.started _ r x x) s.nets is.0, is.1, is.2)
declared Aps value s is = is

given : (key : Bytes) (sequence : ℕ) (s : NodeState) → IsKey key → IsByte sequence → StateInRange s
    → StateInRange (with_given_net key sequence s)
unfolding with_given_net
given key sequence s k q is = (net_in key s.nets (given_net s.declared key sequence) (k, q, tt) is.0, is.1, is.2)

given_code : (partner : ℕ) (key : Bytes) (s : NodeState) → IsEui partner → IsKey key → StateInRange s
    → StateInRange (with_given_link partner key s)
unfolding with_given_link
given_code partner key s p k is = (is.0, link_in partner key Provisional false s.links p k is.1, is.2)

-- ---- lines

after_line : (l : Line) (s : NodeState) → LineInRange l → StateInRange s → StateInRange (after l s)
unfolding after after_sealing after_accepting
after_line (Declared p) s l is = is
after_line (GivenNet n key sequence) s l is = given key sequence s l.0 l.1 is
after_line (GivenLink n partner key) s l is = given_code partner key s l.0 l.1 is
after_line (Counter n layer limit) s l is = declared layer limit s is
after_line (Changed e n edit) s l is = after_edit edit s l.1 is
after_line (Accept e n t) s l is = after_heard t.layer t.base t.source t.counter s l.2 is
after_line (Seal e n t) s l is = after_seal t.layer t s is
after_line (Boot e n) s l is = booted s is
after_line _ s l is = is

heard : (n : ℕ) (s : NodeState) (h : List Line) → AllByRecursion LineInRange h → StateInRange s
    → StateInRange (fold (heard_line n) s h)
heard n s [] all is = is
heard n s (l ∷ h) all is =
    heard n (heard_line n s l) h all.1 (heard-keeps StateInRange n l s (λ own. after_line l s all.0 is) is)

pub state_in : (h : List Line) (n : ℕ) → AllByRecursion LineInRange h → StateInRange (state_of h n)
unfolding state_of
state_in h n all = heard n (new_node Device) h all (tt, tt, tt)

-- the frames on the air
air_more : (l : Line) (frames : List Bytes) → LineInRange l → AllByRecursion IsShort frames
    → AllByRecursion IsShort (air_line frames l)
air_more (Send e n frame bytes) frames l all = all-append IsShort frames (bytes ∷ []) all (l.2, tt)
air_more (Inject e frame bytes) frames l all = all-append IsShort frames (bytes ∷ []) all (l.2, tt)
air_more _ frames l all = all

air_along : (h : List Line) (frames : List Bytes) → AllByRecursion LineInRange h → AllByRecursion IsShort frames
    → AllByRecursion IsShort (fold air_line frames h)
air_along [] frames all is = is
air_along (l ∷ h) frames all is = air_along h (air_line frames l) all.1 (air_more l frames all.0 is)

pub air_in : (h : List Line) → AllByRecursion LineInRange h → AllByRecursion IsShort (air h)
unfolding air
air_in h all = air_along h [] all tt
