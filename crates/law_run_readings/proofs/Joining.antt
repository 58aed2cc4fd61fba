-- The last line about a node's state of joining says what its state has: its role is declared before all else, and no
-- network key is given after the start.
use Rattle.std.proofs.Common.{◌≡◌, ℕ, Bool, true, false, cond, List, [], ◌∷◌, ◌++◌, map, Option, Some, None, nat_eq, flat_map, refl, sym, ap, ◌∙◌, subst, append_assoc, unwrap_or}
use Rattle.std.specs.List.{AllByRecursion}
use Rattle.std.specs.Option.{option_or}
use Rattle.zb_model.specs.Data.{Bytes, Role, Layer, Nwk, Aps, Station, Term, Move, Fresh, Draw, Became, Reserve, Floor, Start, Moved}
use Rattle.zb_model.specs.Lines.{Line, Declared, Counter, Changed, Accept, Seal}
use Rattle.zb_model.specs.State.{NodeState, after_accepting, after_boot, after_hearing, after_sealing, applied, moved, sealed_at, with_declared, with_given_link, with_given_net}
use Rattle.zb_model.specs.Readings.{after, heard_line, speaker, state_of}
use Rattle.zb_model.specs.Rules.{centre_of}
use Rattle.zb_model.specs.Play.{Schedule, Node, stations, net_line, link_line, limit_line, start}
use Rattle.law_run.proofs.Basics.{append-nil', state-snoc}
use Rattle.law_run.proofs.FreshLines.{all-append}
use Rattle.law_run_readings.specs.LastLines.{flat, last_said, said_by}
use Rattle.law_run_readings.specs.RowLines.{joining, state_in}
use Rattle.law_run_readings.proofs.Lines.{FitsChange, FitsChanges, last_snoc}
use Rattle.law_run_readings.proofs.OwnLines.{role_said}

-- by the role that the state has
abbrev pub Joins : List Line → ℕ → Type 0
Joins h n = (state_of h n).state ≡ unwrap_or (last_said n (state_in (state_of h n).role) h) Fresh

pub joins_said : (h : List Line) (n : ℕ) → Joins h n → joining h n ≡ (state_of h n).state
unfolding joining
joins_said h n is = ap (λ r. unwrap_or (last_said n (state_in r) h) Fresh) (role_said h n) ∙ sym is

-- ---- one more line

abbrev Undeclared : Line → Type 0
Undeclared (Declared p) = ⊥
Undeclared _ = Unit {0}

state_heard : (layer : Layer) (key : Bytes) (sender counter : ℕ) (s : NodeState)
    → (after_hearing layer key sender counter s).state ≡ s.state
unfolding after_hearing
state_heard Nwk key sender counter s = refl
state_heard Aps key sender counter s = refl

state_sealed : (layer : Layer) (t : Term) (s : NodeState) → (sealed_at layer t s).state ≡ s.state
state_sealed Nwk t s = refl
state_sealed Aps t s = refl

role_heard : (layer : Layer) (key : Bytes) (sender counter : ℕ) (s : NodeState)
    → (after_hearing layer key sender counter s).role ≡ s.role
unfolding after_hearing
role_heard Nwk key sender counter s = refl
role_heard Aps key sender counter s = refl

role_sealed : (layer : Layer) (t : Term) (s : NodeState) → (sealed_at layer t s).role ≡ s.role
role_sealed Nwk t s = refl
role_sealed Aps t s = refl

-- what a line other than a declaration does
role_kept : (l : Line) (s : NodeState) → Undeclared l → (after l s).role ≡ s.role
unfolding after applied with_given_net with_given_link with_declared after_accepting after_sealing after_boot
role_kept (Declared p) s u = absurd u
role_kept (Accept e n t) s u = role_heard t.layer t.base t.source t.counter s
role_kept (Seal e n t) s u = role_sealed t.layer t s
role_kept (Counter n Nwk v) s u = refl
role_kept (Counter n Aps v) s u = refl
role_kept (Changed e n (Reserve Nwk v)) s u = refl
role_kept (Changed e n (Reserve Aps v)) s u = refl
role_kept (Changed e n (Floor Nwk k p v)) s u = refl
role_kept (Changed e n (Floor Aps k p v)) s u = refl
role_kept (Changed e n (Moved move)) s u = by_move move
  where
    by_move : (m : Move) → (moved m s).role ≡ s.role
    by_move (Draw key) = refl
    by_move _ = refl
role_kept _ s u = refl

state_line : (l : Line) (s : NodeState) → Undeclared l → (after l s).state ≡ unwrap_or (state_in s.role l) s.state
unfolding after applied with_given_net with_given_link with_declared after_accepting after_sealing after_boot
state_line (Declared p) s u = absurd u
state_line (Accept e n t) s u = state_heard t.layer t.base t.source t.counter s
state_line (Seal e n t) s u = state_sealed t.layer t s
state_line (Counter n Nwk v) s u = refl
state_line (Counter n Aps v) s u = refl
state_line (Changed e n (Reserve Nwk v)) s u = refl
state_line (Changed e n (Reserve Aps v)) s u = refl
state_line (Changed e n (Floor Nwk k p v)) s u = refl
state_line (Changed e n (Floor Aps k p v)) s u = refl
state_line (Changed e n (Moved (Became state))) s u = refl
state_line _ s u = refl

pub joins_more : (h : List Line) (l : Line) (n : ℕ) → (nat_eq (speaker l) n ≡ true → Undeclared l) → Joins h n
    → Joins (h ++ l ∷ []) n
unfolding heard_line
joins_more h l n free is =
    ap (λ (s : NodeState). s.state) (state-snoc h l n) ∙ by_speaker (nat_eq (speaker l) n) free ∙ ap
    (λ o. unwrap_or o Fresh)
    (sym (last_snoc n (state_in (state_of (h ++ l ∷ []) n).role) h l ∙ ap
    (λ (s : NodeState). option_or (said_by n (state_in s.role) l) (last_said n (state_in s.role) h))
    (state-snoc h l n)))
  where
    s : NodeState
    s = state_of h n

    over : (o : Option Rattle.zb_model.specs.Data.State) → unwrap_or o s.state
        ≡ unwrap_or (option_or o (last_said n (state_in s.role) h)) Fresh
    over None = is
    over (Some x) = refl

    by_speaker : (b : Bool) → (b ≡ true → Undeclared l) → (cond b (after l s) s).state
        ≡ unwrap_or
        (option_or (cond b (state_in (cond b (after l s) s).role l) None)
        (last_said n (state_in (cond b (after l s) s).role) h)) Fresh
    by_speaker false free = is
    by_speaker true free =
        state_line l s (free refl) ∙ over (state_in s.role l) ∙ ap
        (λ r. unwrap_or (option_or (state_in r l) (last_said n (state_in r) h)) Fresh)
        (sym (role_kept l s (free refl)))

undeclared : (was : Bytes → Bool) (l : Line) (s : NodeState) → FitsChange was l s → Undeclared l
undeclared was (Declared p) s fits = absurd fits
undeclared was _ s fits = tt

-- the lines of a group
pub joins_group : (before : List (List Line)) (front ls : List Line) (n : ℕ) → FitsChanges before n front ls
    → Joins (flat before ++ front) n → Joins (flat before ++ (front ++ ls)) n
joins_group before front [] n fits is = subst (λ x. Joins (flat before ++ x) n) (sym (append-nil' front)) is
joins_group before front (l ∷ ls) n fits is =
    subst (λ x. Joins (flat before ++ x) n) (append_assoc front (l ∷ []) ls)
    (joins_group before (front ++ l ∷ []) ls n fits.1
    (subst (λ x. Joins x n) (append_assoc (flat before) front (l ∷ []))
    (joins_more (flat before ++ front) l n
    (λ own. undeclared _ l (state_of (flat before ++ front) n) (fits.0 own).0) is)))

-- ---- the start

joins_all : (h ls : List Line) (n : ℕ) → AllByRecursion Undeclared ls → Joins h n → Joins (h ++ ls) n
joins_all h [] n free is = subst (λ x. Joins x n) (sym (append-nil' h)) is
joins_all h (l ∷ ls) n free is = subst (λ x. Joins x n) (append_assoc h (l ∷ []) ls)
    (joins_all (h ++ l ∷ []) ls n free.1 (joins_more h l n (λ own. free.0) is))

-- while nodes are declared
record Begun (h : List Line) (n : ℕ) : Type 0 where
  fresh : (state_of h n).state ≡ Fresh
  none : (r : Role) → last_said n (state_in r) h ≡ None

begun_more : (h : List Line) (p : Station) (n : ℕ) → Begun h n → Begun (h ++ Declared p ∷ []) n
unfolding heard_line after speaker
begun_more h p n is = record {
  fresh = ap (λ (s : NodeState). s.state) (state-snoc h (Declared p) n) ∙ by_state (nat_eq p.eui n) ∙ is.fresh;
  none = λ r. last_snoc n (state_in r) h (Declared p) ∙ by_said (nat_eq p.eui n) (last_said n (state_in r) h) ∙ is.none
      r;
}
  where
    by_state : (b : Bool) → (cond b (record (state_of h n) { role = p.role }) (state_of h n)).state
        ≡ (state_of h n).state
    by_state true = refl
    by_state false = refl

    by_said : (b : Bool) (o : Option Rattle.zb_model.specs.Data.State) → option_or (cond b None None) o ≡ o
    by_said true o = refl
    by_said false o = refl

begun_all : (h : List Line) (ps : List Station) (n : ℕ) → Begun h n → Begun (h ++ map Declared ps) n
begun_all h [] n is = subst (λ x. Begun x n) (sym (append-nil' h)) is
begun_all h (p ∷ ps) n is = subst (λ x. Begun x n) (append_assoc h (Declared p ∷ []) (map Declared ps))
    (begun_all (h ++ Declared p ∷ []) ps n (begun_more h p n is))

free_flat : (f : Node → List Line) → ((m : Node) → AllByRecursion Undeclared (f m)) → (ms : List Node)
    → AllByRecursion Undeclared (flat_map f ms)
free_flat f free [] = tt
free_flat f free (m ∷ ms) = all-append Undeclared (f m) (flat_map f ms) (free m) (free_flat f free ms)

free_net : (n : ℕ) (o : Option (Bytes × ℕ)) → AllByRecursion Undeclared (net_line n o)
free_net n None = tt
free_net n (Some given) = (tt, tt)

free_link : (centre n : ℕ) (o : Option Bytes) → AllByRecursion Undeclared (link_line centre n o)
free_link centre n None = tt
free_link centre n (Some key) = (tt, tt)

free_limit : (n : ℕ) (layer : Layer) (limit : ℕ) → AllByRecursion Undeclared (limit_line n layer limit)
free_limit n layer limit = by_test (nat_eq limit 0)
  where
    by_test : (b : Bool) → AllByRecursion Undeclared (cond b [] (Counter n layer limit ∷ []))
    by_test true = tt
    by_test false = (tt, tt)

begun_joins : (h : List Line) (n : ℕ) → Begun h n → Joins h n
begun_joins h n is = is.fresh ∙ ap (λ o. unwrap_or o Fresh) (sym (is.none (state_of h n).role))

no_line : (n : ℕ) → Begun [] n
unfolding last_said state_of
no_line n = record { fresh = refl; none = λ r. refl }

pub start_joins : (w : Schedule) (n : ℕ) → Joins (start w) n
unfolding start
start_joins w n =
    joins_all (map Declared (stations w)) _ n
    (all-append Undeclared (flat_map (λ (m : Node). net_line m.station.eui m.network) w.nodes) _
    (free_flat (λ (m : Node). net_line m.station.eui m.network) (λ m. free_net m.station.eui m.network) w.nodes)
    (all-append Undeclared (flat_map (λ (m : Node). link_line (centre_of (stations w)) m.station.eui m.code) w.nodes) _
    (free_flat (λ (m : Node). link_line (centre_of (stations w)) m.station.eui m.code)
    (λ m. free_link (centre_of (stations w)) m.station.eui m.code) w.nodes)
    (free_flat
    (λ (m : Node). limit_line m.station.eui Nwk m.start_nwk ++ limit_line m.station.eui Aps m.start_aps)
    (λ m. all-append Undeclared (limit_line m.station.eui Nwk m.start_nwk) _
    (free_limit m.station.eui Nwk m.start_nwk) (free_limit m.station.eui Aps m.start_aps)) w.nodes)))
    (begun_joins (map Declared (stations w)) n (begun_all [] (stations w) n (no_line n)))
