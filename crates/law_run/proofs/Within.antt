-- No next counter and no limit is above the greatest counter.
use Rattle.std.proofs.Common.{ℕ, ◌<◌, ◌≤◌, ◌+◌, Bool, true, false, cond, List, [], ◌∷◌, ◌++◌, map, Option, Some, None, find, nat_eq, sym, subst, arith, append_assoc}
use Rattle.std.specs.List.{AllByRecursion}
use Rattle.zb_model.specs.Data.{Bytes, Layer, Nwk, Aps, Term, Move, Draw, DropNet, DropLink, Install, Active, Row, Pair, Became, Live, Removed, Roll, Told, Untold, Edit, Reserve, Floor, Start, Moved}
use Rattle.zb_model.specs.Lines.{Line, Declared, GivenNet, GivenLink, Counter, Changed, Accept, Seal, Boot}
use Rattle.zb_model.specs.State.{greatest_counter, NetKey, NodeState, same_key, has_net, at_net, of_active, net_of_active, active_row, new_net, given_net, reserved, started_at, dropped_net, net_floor, net_kept, next_at, booted_net, declared_at, next_of, next_counter, applied, moved, after_sealing, sealed_at, after_boot, after_hearing, after_accepting, with_given_net, with_given_link, with_declared}
use Rattle.zb_model.specs.Readings.{state_of, after, heard_line, speaker}
use Rattle.law_run.proofs.Basics.{append-nil', state-snoc}
use Rattle.law_run.proofs.FreshLines.{all-append}

abbrev pub IsSmall : NetKey → Type 0
IsSmall r = (r.next ≤ greatest_counter) × (r.limit ≤ greatest_counter)

pub record Within (s : NodeState) : Type 0 where
  pub declared : s.declared ≤ greatest_counter
  pub next : s.aps_next ≤ greatest_counter
  pub limit : s.aps_limit ≤ greatest_counter
  pub nets : AllByRecursion IsSmall s.nets

-- a limit at the start is at most the greatest counter, and a sealed counter is below it
abbrev pub LineSmall : Line → Type 0
LineSmall (Counter n layer v) = v ≤ greatest_counter
LineSmall (Seal e n t) = t.counter < greatest_counter
LineSmall _ = Unit {0}

-- rows

all-rows : (f : NetKey → NetKey) → ((r : NetKey) → IsSmall r → IsSmall (f r)) → (rows : List NetKey)
    → AllByRecursion IsSmall rows → AllByRecursion IsSmall (map f rows)
all-rows f k [] a = tt
all-rows f k (r ∷ rows) a = (k r a.0, all-rows f k rows a.1)

at-rows : (f : NetKey → NetKey) → ((r : NetKey) → IsSmall r → IsSmall (f r)) → (key : Bytes) (rows : List NetKey)
    → AllByRecursion IsSmall rows → AllByRecursion IsSmall (at_net key f rows)
at-rows f k key rows a = all-rows (λ r. cond (same_key r.key key) (f r) r) (λ r s. by-test (same_key r.key key) r s)
    rows a
  where
    by-test : (b : Bool) (r : NetKey) → IsSmall r → IsSmall (cond b (f r) r)
    by-test true r s = k r s
    by-test false r s = s

active-rows : (v : ℕ) (o : Option Bytes) (rows : List NetKey) → AllByRecursion IsSmall rows
    → AllByRecursion IsSmall (of_active (reserved v) o rows)
active-rows v None rows a = a
active-rows v (Some key) rows a = at-rows (reserved v) (λ r s. (s.0, omega (arith, s.1))) key rows a

more-rows : (b : Bool) (x : NetKey) → IsSmall x → (rows : List NetKey) → AllByRecursion IsSmall rows
    → AllByRecursion IsSmall (cond b rows (rows ++ x ∷ []))
more-rows true x s rows a = a
more-rows false x s rows a = all-append IsSmall rows (x ∷ []) a (s, tt)

declared-row : (v : ℕ) → v ≤ greatest_counter → (r : NetKey) → IsSmall r → IsSmall (declared_at v r)
declared-row v small r s = by-test r.started
  where
    by-test : (b : Bool)
        → IsSmall
        (cond b
        (record r { limit = Rattle.std.specs.Prelude.max r.limit v; next = Rattle.std.specs.Prelude.max r.next v }) r)
    by-test true = (omega (arith, small, s.0), omega (arith, small, s.1))
    by-test false = s

-- what lines do

within-moved : (m : Move) (s : NodeState) → Within s → Within (moved m s)
within-moved (Draw k) s w = w
within-moved (DropNet k) s w =
    record {
      declared = w.declared;
      next = w.next;
      limit = w.limit;
      nets = at-rows dropped_net (λ r p. p) k s.nets
          w.nets;
    }
within-moved (DropLink p k) s w = record { declared = w.declared; next = w.next; limit = w.limit; nets = w.nets }
within-moved (Install k q) s w =
    record {
      declared = w.declared;
      next = w.next;
      limit = w.limit;
      nets = more-rows (has_net k s.nets) (new_net k q)
          (omega arith, omega arith) s.nets w.nets;
    }
within-moved (Active k) s w = record { declared = w.declared; next = w.next; limit = w.limit; nets = w.nets }
within-moved (Row p k t) s w = record { declared = w.declared; next = w.next; limit = w.limit; nets = w.nets }
within-moved (Pair a b k) s w = record { declared = w.declared; next = w.next; limit = w.limit; nets = w.nets }
within-moved (Became g) s w = record { declared = w.declared; next = w.next; limit = w.limit; nets = w.nets }
within-moved (Live d) s w = record { declared = w.declared; next = w.next; limit = w.limit; nets = w.nets }
within-moved (Removed d) s w = record { declared = w.declared; next = w.next; limit = w.limit; nets = w.nets }
within-moved (Roll b) s w = record { declared = w.declared; next = w.next; limit = w.limit; nets = w.nets }
within-moved (Told d) s w = record { declared = w.declared; next = w.next; limit = w.limit; nets = w.nets }
within-moved (Untold d) s w = record { declared = w.declared; next = w.next; limit = w.limit; nets = w.nets }

within-applied : (e : Edit) (s : NodeState) → Within s → Within (applied e s)
unfolding applied
within-applied (Reserve Nwk v) s w =
    record { declared = w.declared; next = w.next; limit = w.limit; nets = active-rows v s.active s.nets w.nets }
within-applied (Reserve Aps v) s w =
    record { declared = w.declared; next = w.next; limit = omega (arith, w.limit); nets = w.nets }
within-applied (Floor Nwk k p v) s w =
    record {
      declared = w.declared;
      next = w.next;
      limit = w.limit;
      nets = at-rows (net_floor p v) (λ r q. q) k s.nets
          w.nets;
    }
within-applied (Floor Aps k p v) s w = record { declared = w.declared; next = w.next; limit = w.limit; nets = w.nets }
within-applied (Start k v) s w =
    record {
      declared = w.declared;
      next = w.next;
      limit = w.limit;
      nets = at-rows (started_at v) (λ r q. (omega (arith, q.0), omega (arith, q.1))) k s.nets w.nets;
    }
within-applied (Moved m) s w = within-moved m s w

within-heard : (layer : Layer) (k : Bytes) (sender counter : ℕ) (s : NodeState) → Within s
    → Within (after_hearing layer k sender counter s)
unfolding after_hearing
within-heard Nwk k sender counter s w =
    record {
      declared = w.declared;
      next = w.next;
      limit = w.limit;
      nets = at-rows (net_kept sender (counter + 1))
          (λ r q. q) k s.nets w.nets;
    }
within-heard Aps k sender counter s w = record { declared = w.declared; next = w.next; limit = w.limit; nets = w.nets }

within-sealed : (layer : Layer) (t : Term) (s : NodeState) → t.counter < greatest_counter → Within s
    → Within (sealed_at layer t s)
within-sealed Nwk t s small w =
    record {
      declared = w.declared;
      next = w.next;
      limit = w.limit;
      nets = at-rows (next_at (t.counter + 1))
          (λ r q. (omega (arith, small), q.1)) t.base s.nets w.nets;
    }
within-sealed Aps t s small w =
    record { declared = w.declared; next = omega (arith, small); limit = w.limit; nets = w.nets }

within-declared : (layer : Layer) (v : ℕ) (s : NodeState) → v ≤ greatest_counter → Within s
    → Within (with_declared layer v s)
unfolding with_declared
within-declared Nwk v s small w =
    record {
      declared = small;
      next = w.next;
      limit = w.limit;
      nets = all-rows (declared_at v) (declared-row v small)
          s.nets w.nets;
    }
within-declared Aps v s small w =
    record {
      declared = w.declared;
      next = omega (arith, small, w.next);
      limit = omega (arith, small, w.limit);
      nets = w.nets;
    }

within-after : (l : Line) (s : NodeState) → LineSmall l → Within s → Within (after l s)
unfolding after with_given_net with_given_link after_sealing after_accepting after_boot
within-after (Declared p) s m w = record { declared = w.declared; next = w.next; limit = w.limit; nets = w.nets }
within-after (GivenNet n k q) s m w =
    record {
      declared = w.declared;
      next = w.next;
      limit = w.limit;
      nets = more-rows (has_net k s.nets)
          (given_net s.declared k q) (w.declared, w.declared) s.nets w.nets;
    }
within-after (GivenLink n p k) s m w = record { declared = w.declared; next = w.next; limit = w.limit; nets = w.nets }
within-after (Counter n layer v) s m w = within-declared layer v s m w
within-after (Changed e n edit) s m w = within-applied edit s w
within-after (Accept e n t) s m w = within-heard t.layer t.base t.source t.counter s w
within-after (Seal e n t) s m w = within-sealed t.layer t s m w
within-after (Boot e n) s m w =
    record {
      declared = w.declared;
      next = w.limit;
      limit = w.limit;
      nets = all-rows booted_net (λ r q. (q.1, q.1))
          s.nets w.nets;
    }
within-after _ s m w = w

within-line : (n : ℕ) (s : NodeState) (l : Line) → LineSmall l → Within s → Within (heard_line n s l)
unfolding heard_line
within-line n s l m w = by-test (nat_eq (speaker l) n)
  where
    by-test : (b : Bool) → Within (cond b (after l s) s)
    by-test true = within-after l s m w
    by-test false = w

abbrev pub AreWithin : List Line → Type 0
AreWithin h = (n : ℕ) → Within (state_of h n)

pub within-snoc : (h : List Line) (l : Line) → LineSmall l → AreWithin h → AreWithin (h ++ l ∷ [])
within-snoc h l m a = λ n. subst Within (sym (state-snoc h l n)) (within-line n (state_of h n) l m (a n))

pub within-lines : (h ls : List Line) → AllByRecursion LineSmall ls → AreWithin h → AreWithin (h ++ ls)
within-lines h [] m a = subst AreWithin (sym (append-nil' h)) a
within-lines h (l ∷ ls) m a = subst AreWithin (append_assoc h (l ∷ []) ls)
    (within-lines (h ++ l ∷ []) ls m.1 (within-snoc h l m.0 a))

pub no-lines-within : AreWithin []
unfolding state_of
no-lines-within = λ n. record { declared = omega arith; next = omega arith; limit = omega arith; nets = tt }

-- so the next counters are at most the greatest

found-next : (d : ℕ) → d ≤ greatest_counter → (test : NetKey → Bool) (rows : List NetKey)
    → AllByRecursion IsSmall rows → next_of d (find test rows) ≤ greatest_counter
found-next d small test [] a = small
found-next d small test (r ∷ rows) a = by-test (test r) (found-next d small test rows a.1)
  where
    by-test : (b : Bool) → next_of d (find test rows) ≤ greatest_counter
        → next_of d (cond b (Some r) (find test rows)) ≤ greatest_counter
    by-test true later = a.0.0
    by-test false later = later

active-small : (o : Option Bytes) (s : NodeState) → Within s → next_of s.declared (net_of_active o s)
    ≤ greatest_counter
active-small None s w = w.declared
active-small (Some key) s w = found-next s.declared w.declared (λ (r : NetKey). same_key r.key key) s.nets w.nets

pub next-small : (layer : Layer) (s : NodeState) → Within s → next_counter layer s ≤ greatest_counter
unfolding next_counter active_row
next-small Nwk s w = active-small s.active s w
next-small Aps s w = w.next
