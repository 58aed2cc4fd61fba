-- The keys and sequences of a node's rows are in their ranges, whatever lines in range say.
use Rattle.std.proofs.Common.{ℕ, ◌+◌, Bool, true, false, cond, List, [], ◌∷◌, ◌++◌, fold, map, Option, Some, None}
use Rattle.std.specs.List.{AllByRecursion}
use Rattle.zb_model.specs.Data.{Bytes, Layer, Nwk, Aps, Attribute, Provisional, Term, Device, Move, Draw, DropNet, DropLink, Install, Active, Row, Pair, Became, Live, Removed, Roll, Told, Untold, Edit, Reserve, Floor, Start, Moved}
use Rattle.zb_model.specs.Lines.{Line, Declared, GivenNet, GivenLink, Counter, Changed, Accept, Seal, Boot}
use Rattle.zb_model.specs.Readings.{state_of, heard_line, after}
use Rattle.zb_model.specs.State.{NetKey, LinkKey, NodeState, new_node, same_key, has_net, is_link, has_link, is_live_of, is_told, at_net, of_active, new_net, reserved, started_at, dropped_net, dropped_link, net_floor, link_floor, told_as, revived, new_link, with_link, with_told, moved, applied, next_at, sealed_at, after_sealing, net_kept, link_kept, after_hearing, after_accepting, booted_net, booted_link, after_boot, given_net, with_given_net, with_given_link, declared_at, with_declared}
use Rattle.law_run.proofs.FreshLines.{all-append, heard-keeps}
use Rattle.law_run_ranges.specs.Ranges.{IsByte, IsKey, MoveInRange, EditInRange, LineInRange}

abbrev pub NetWhole : NetKey → Type 0
NetWhole r = IsKey r.key × IsByte r.sequence

abbrev pub LinkWhole : LinkKey → Type 0
LinkWhole r = IsKey r.key

pub record IsWhole (s : NodeState) : Type 0 where
  pub nets : AllByRecursion NetWhole s.nets
  pub links : AllByRecursion LinkWhole s.links

if_then : {X : Type 0} (P : X → Type 0) (b : Bool) (x y : X) → P x → P y → P (cond b x y)
if_then P true x y p q = p
if_then P false x y p q = q

mapped : {X : Type 0} (P : X → Type 0) (f : X → X) → ((x : X) → P x → P (f x)) → (xs : List X) → AllByRecursion P xs
    → AllByRecursion P (map f xs)
mapped P f keeps [] all = tt
mapped P f keeps (x ∷ xs) all = (keeps x all.0, mapped P f keeps xs all.1)

changed : {X : Type 0} (P : X → Type 0) (test : X → Bool) (f : X → X) → ((x : X) → P x → P (f x)) → (xs : List X)
    → AllByRecursion P xs → AllByRecursion P (map (λ x. cond (test x) (f x) x) xs)
changed P test f keeps [] all = tt
changed P test f keeps (x ∷ xs) all =
    (if_then P (test x) (f x) x (keeps x all.0) all.0, changed P test f keeps xs all.1)

at_key : (key : Bytes) (f : NetKey → NetKey) → ((r : NetKey) → NetWhole r → NetWhole (f r)) → (rs : List NetKey)
    → AllByRecursion NetWhole rs → AllByRecursion NetWhole (at_net key f rs)
at_key key f keeps rs all = changed NetWhole (λ (r : NetKey). same_key r.key key) f keeps rs all

in_active : (f : NetKey → NetKey) → ((r : NetKey) → NetWhole r → NetWhole (f r))
    → (o : Option Bytes) (rs : List NetKey) → AllByRecursion NetWhole rs → AllByRecursion NetWhole (of_active f o rs)
in_active f keeps None rs all = all
in_active f keeps (Some key) rs all = at_key key f keeps rs all

link_in : (partner : ℕ) (key : Bytes) (a : Attribute) (told : Bool) (rs : List LinkKey) → IsKey key
    → AllByRecursion LinkWhole rs → AllByRecursion LinkWhole (with_link partner key a told rs)
link_in partner key a told rs k all =
    if_then (λ (l : List LinkKey). AllByRecursion LinkWhole l) (has_link partner key rs) _ _
    (changed LinkWhole (is_link partner key) (revived a told) (λ r x. x) rs all)
    (all-append LinkWhole rs (new_link partner key a told ∷ []) all (k, tt))

told_in : (partner : ℕ) (told : Bool) (rs : List LinkKey) → AllByRecursion LinkWhole rs
    → AllByRecursion LinkWhole (with_told partner told rs)
told_in partner told rs all = changed LinkWhole (is_live_of partner) (told_as told) (λ r x. x) rs all

net_in : (key : Bytes) (rs : List NetKey) (r : NetKey) → NetWhole r → AllByRecursion NetWhole rs
    → AllByRecursion NetWhole (cond (has_net key rs) rs (rs ++ r ∷ []))
net_in key rs r is all = if_then (λ (l : List NetKey). AllByRecursion NetWhole l) (has_net key rs) rs (rs ++ r ∷ [])
    all (all-append NetWhole rs (r ∷ []) all (is, tt))

after_move : (m : Move) (s : NodeState) → MoveInRange m → IsWhole s → IsWhole (moved m s)
after_move (Draw key) s m is = is
after_move (DropNet key) s m is = record { nets = at_key key dropped_net (λ r x. x) s.nets is.nets; links = is.links }
after_move (DropLink partner key) s m is =
    record { nets = is.nets; links = changed LinkWhole (is_link partner key) dropped_link (λ r x. x) s.links is.links }
after_move (Install key sequence) s m is =
    record { nets = net_in key s.nets (new_net key sequence) (m.0, m.1) is.nets; links = is.links }
after_move (Active key) s m is = record { nets = is.nets; links = is.links }
after_move (Row partner key attribute) s m is =
    record { nets = is.nets; links = link_in partner key attribute (is_told s partner) s.links m.1 is.links }
after_move (Pair first second key) s m is = record { nets = is.nets; links = is.links }
after_move (Became state) s m is = record { nets = is.nets; links = is.links }
after_move (Live device) s m is = record { nets = is.nets; links = told_in device false s.links is.links }
after_move (Removed device) s m is = record { nets = is.nets; links = is.links }
after_move (Roll sending) s m is =
    record {
      nets = is.nets;
      links = if_then (λ (l : List LinkKey). AllByRecursion LinkWhole l) sending _ _
          (mapped LinkWhole (told_as false) (λ r x. x) s.links is.links) is.links;
    }
after_move (Told device) s m is = record { nets = is.nets; links = told_in device true s.links is.links }
after_move (Untold device) s m is = record { nets = is.nets; links = told_in device false s.links is.links }

after_edit : (e : Edit) (s : NodeState) → EditInRange e → IsWhole s → IsWhole (applied e s)
unfolding applied
after_edit (Reserve Nwk limit) s e is =
    record { nets = in_active (reserved limit) (λ r x. x) s.active s.nets is.nets; links = is.links }
after_edit (Reserve Aps limit) s e is = record { nets = is.nets; links = is.links }
after_edit (Floor Nwk key sender value) s e is =
    record { nets = at_key key (net_floor sender value) (λ r x. x) s.nets is.nets; links = is.links }
after_edit (Floor Aps key sender value) s e is =
    record {
      nets = is.nets;
      links = changed LinkWhole (is_link sender key) (link_floor value) (λ r x. x) s.links
          is.links;
    }
after_edit (Start key value) s e is =
    record { nets = at_key key (started_at value) (λ r x. x) s.nets is.nets; links = is.links }
after_edit (Moved m) s e is = after_move m s e is

after_seal : (l : Layer) (t : Term) (s : NodeState) → IsWhole s → IsWhole (sealed_at l t s)
after_seal Nwk t s is =
    record { nets = at_key t.base (next_at (t.counter + 1)) (λ r x. x) s.nets is.nets; links = is.links }
after_seal Aps t s is = record { nets = is.nets; links = is.links }

after_heard : (l : Layer) (key : Bytes) (sender counter : ℕ) (s : NodeState) → IsWhole s
    → IsWhole (after_hearing l key sender counter s)
unfolding after_hearing
after_heard Nwk key sender counter s is =
    record { nets = at_key key (λ r. net_kept sender (counter + 1) r) (λ r x. x) s.nets is.nets; links = is.links }
after_heard Aps key sender counter s is =
    record {
      nets = is.nets;
      links = changed LinkWhole (is_link sender key) (λ r. link_kept (counter + 1) r)
          (λ r x. x) s.links is.links;
    }

booted : (s : NodeState) → IsWhole s → IsWhole (after_boot s)
unfolding after_boot
booted s is =
    record {
      nets = mapped NetWhole booted_net (λ r x. x) s.nets is.nets;
      links = mapped LinkWhole booted_link
          (λ r x. x) s.links is.links;
    }

declared : (l : Layer) (value : ℕ) (s : NodeState) → IsWhole s → IsWhole (with_declared l value s)
unfolding with_declared
declared Nwk value s is =
    record {
      nets = mapped NetWhole (declared_at value) (λ r x. if_then NetWhole r.started _ r x x) s.nets is.nets;
      links = is.links;
    }
declared Aps value s is = record { nets = is.nets; links = is.links }

given : (key : Bytes) (sequence : ℕ) (s : NodeState) → IsKey key → IsByte sequence → IsWhole s
    → IsWhole (with_given_net key sequence s)
unfolding with_given_net
given key sequence s k q is =
    record { nets = net_in key s.nets (given_net s.declared key sequence) (k, q) is.nets; links = is.links }

given_code : (partner : ℕ) (key : Bytes) (s : NodeState) → IsKey key → IsWhole s
    → IsWhole (with_given_link partner key s)
unfolding with_given_link
given_code partner key s k is =
    record { nets = is.nets; links = link_in partner key Provisional false s.links k is.links }

after_line : (l : Line) (s : NodeState) → LineInRange l → IsWhole s → IsWhole (after l s)
unfolding after after_sealing after_accepting
after_line (Declared p) s l is = record { nets = is.nets; links = is.links }
after_line (GivenNet n key sequence) s l is = given key sequence s l.0 l.1 is
after_line (GivenLink n partner key) s l is = given_code partner key s l.1 is
after_line (Counter n layer limit) s l is = declared layer limit s is
after_line (Changed e n edit) s l is = after_edit edit s l.1 is
after_line (Accept e n t) s l is = after_heard t.layer t.base t.source t.counter s is
after_line (Seal e n t) s l is = after_seal t.layer t s is
after_line (Boot e n) s l is = booted s is
after_line _ s l is = is

heard : (n : ℕ) (s : NodeState) (h : List Line) → AllByRecursion LineInRange h → IsWhole s
    → IsWhole (fold (heard_line n) s h)
heard n s [] all is = is
heard n s (l ∷ h) all is =
    heard n (heard_line n s l) h all.1 (heard-keeps IsWhole n l s (λ own. after_line l s all.0 is) is)

pub whole_in : (h : List Line) (n : ℕ) → AllByRecursion LineInRange h → IsWhole (state_of h n)
unfolding state_of
whole_in h n all = heard n (new_node Device) h all (record { nets = tt; links = tt })
