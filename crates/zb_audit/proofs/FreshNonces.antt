-- The stamps of all seals so far.
use Rattle.std.proofs.Common.{◌≡◌, ℕ, ◌+◌, Bool, true, false, not, ◌||◌, ◌&&◌, List, [], ◌∷◌, ◌++◌, length, Some, None, refl, ap, sym, ◌∙◌, bytes_eq, nat_eq, cond}
use Rattle.std.specs.BTreeMap.{is_at}
use Rattle.std.specs.BTreeSet.{BTreeSet}
use Rattle.std.specs.List.{list_any}
use Rattle.std.specs.Option.{option_or}
use Rattle.std.specs.Ordering.{is_eq, ordering_then}
use Rattle.std.specs.Prelude.{if◌then◌else◌}
use Rattle.std.specs.declared.cmp.Ordering.{Ordering}
use Rattle.arrayvec.specs.ArrayString.{ArrayString}
use Rattle.zb_seal.specs.declared.term.Term.{Term}
use Rattle.zb_trace.specs.declared.line.Line.{Line}
use Rattle.zb_trace.specs.declared.line.Line.TheVariants as line
use Rattle.zb_audit.specs.Failing.{failing, failing_from}
use Rattle.zb_audit.specs.Nonces.{is_fresh, same_stamp, seals_alike}
use Rattle.zb_audit.specs.Standing.{AreNonces, same_parts, stamp_of, was_sealed}
use Rattle.zb_audit.specs.declared.nonces.Nonces.{Nonces}
use Rattle.zb_audit.specs.declared.nonces.Stamp.{Stamp}
use Rattle.zb_audit.specs.contracts.nonces.StampOrd.TheImpl as stamp_ord
use Rattle.zb_audit.proofs.Failing.{any_more, any_stays, first_more, first_stays}
use Rattle.zb_trace_watch.proofs.Alike.{added_alike, bytes_alike, bytes_eq_sym, list_any_alike}
use Rattle.zb_trace_watch.proofs.TermOrder.{then_alike}
use Rattle.zb_trace_watch.proofs.Truth.{number_so, turned_number}

abbrev pub stamp_cmp : Stamp → Stamp → Ordering
stamp_cmp = stamp_ord.cmp-value.it

pub part : (o p : Ordering) (a b : Bool) → is_eq o ≡ a → is_eq p ≡ b → is_eq (ordering_then o p) ≡ (a && b)
part o p a b e f = then_alike o p ∙ ap (λ (x : Bool). x && is_eq p) e ∙ ap (λ (x : Bool). a && x) f

-- The last test of a conjunction may be the first.
last_first : (a b c d : Bool) → (a && (b && (c && d))) ≡ (d && (a && (b && c)))
last_first true true true true = refl
last_first true true true false = refl
last_first true true false true = refl
last_first true true false false = refl
last_first true false c true = refl
last_first true false c false = refl
last_first false b c true = refl
last_first false b c false = refl

pub stamp_alike : (a b : Stamp) → is_eq (stamp_cmp a b) ≡ same_parts a b
stamp_alike a b =
    part _ _ _ _ (number_so a.source.0 b.source.0)
    (part _ _ _ _ (number_so a.counter b.counter)
    (part _ _ _ _ (number_so a.control b.control) (bytes_alike a.key.0 b.key.0)))
    ∙ last_first (nat_eq a.source.0 b.source.0) (nat_eq a.counter b.counter) (nat_eq a.control b.control)
    (bytes_eq a.key.0 b.key.0)

pub stamp_turned : (a b : Stamp) → same_parts a b ≡ same_parts b a
stamp_turned a b =
    rw (
      bytes_eq_sym a.key.0 b.key.0,
      turned_number a.source.0 b.source.0,
      turned_number a.counter b.counter,
      turned_number a.control b.control,
    ) refl

pub none_sealed : (seen : BTreeSet Stamp) → seen.keys ≡ [] → AreNonces (record { seen = seen; first = None }) []
unfolding failing failing_from
none_sealed seen none = record { seen = λ t. ap (list_any (same_parts (stamp_of t))) none; first = refl }

pub seal_follows : (old new : Nonces) (h : List Line) (event : ℕ) (node : ArrayString) (t : Term) (number : ℕ)
    → ((u : Term) → was_sealed new u ≡ (was_sealed old u || same_stamp u t)) → new.first
    ≡ option_or old.first (if not (was_sealed old t) then None else Some number)
    → number ≡ length h + 1 → AreNonces old h → AreNonces new (h ++ line.Seal event node t ∷ [])
unfolding is_fresh
seal_follows old new h event node t number seen first here before = record {
  seen = λ u. seen u ∙
      (ap (λ (b : Bool). b || same_stamp u t) (before.seen u) ∙ sym
      (any_more (seals_alike u) h (line.Seal event node t)));
  first = first_more is_fresh old.first new.first number (not (was_sealed old t)) h (line.Seal event node t) first
      (ap not (before.seen t)) here before.first;
}

pub seals_none : (l : Line)
    → ((x0 : ℕ) (x1 : ArrayString) (x2 : Term) → l ≡ line.Seal x0 x1 x2 → ⊥)
    → (t : Term) → seals_alike t l ≡ false
seals_none (line.Node x0 x1 x2 x3 x4 x5) no_seal t = refl
seals_none (line.GivenNet x0 x1 x2) no_seal t = refl
seals_none (line.GivenLink x0 x1 x2) no_seal t = refl
seals_none (line.Counter x0 x1 x2) no_seal t = refl
seals_none (line.Reserve x0 x1 x2 x3) no_seal t = refl
seals_none (line.Floor x0 x1 x2 x3 x4 x5) no_seal t = refl
seals_none (line.Draw x0 x1) no_seal t = refl
seals_none (line.DropNet x0 x1 x2) no_seal t = refl
seals_none (line.DropLink x0 x1 x2 x3) no_seal t = refl
seals_none (line.Install x0 x1 x2 x3) no_seal t = refl
seals_none (line.Active x0 x1 x2) no_seal t = refl
seals_none (line.Start x0 x1 x2 x3) no_seal t = refl
seals_none (line.Row x0 x1 x2 x3 x4) no_seal t = refl
seals_none (line.Pair x0 x1 x2 x3 x4) no_seal t = refl
seals_none (line.State x0 x1 x2) no_seal t = refl
seals_none (line.Live x0 x1) no_seal t = refl
seals_none (line.Removed x0 x1) no_seal t = refl
seals_none (line.Roll x0 x1 x2) no_seal t = refl
seals_none (line.Told x0 x1) no_seal t = refl
seals_none (line.Untold x0 x1) no_seal t = refl
seals_none (line.Commit x0 x1) no_seal t = refl
seals_none (line.Accept x0 x1 x2) no_seal t = refl
seals_none (line.Refuse x0 x1 x2) no_seal t = refl
seals_none (line.Seal x0 x1 x2) no_seal t = absurd (no_seal x0 x1 x2 refl)
seals_none (line.Forge x0 x1) no_seal t = refl
seals_none (line.Send x0 x1 x2 x3) no_seal t = refl
seals_none (line.Inject x0 x1 x2) no_seal t = refl
seals_none (line.Stopped x0 x1) no_seal t = refl
seals_none (line.DownReset x0 x1) no_seal t = refl
seals_none (line.DownDisk x0 x1) no_seal t = refl
seals_none (line.Boot x0 x1) no_seal t = refl
seals_none (line.Dump x0 x1 x2) no_seal t = refl
seals_none (line.End x0 x1 x2 x3 x4 x5) no_seal t = refl

pub is_no_seal : (h : List Line) (l : Line)
    → ((x0 : ℕ) (x1 : ArrayString) (x2 : Term) → l ≡ line.Seal x0 x1 x2 → ⊥)
    → is_fresh h l ≡ true
unfolding is_fresh
is_no_seal h (line.Node x0 x1 x2 x3 x4 x5) no_seal = refl
is_no_seal h (line.GivenNet x0 x1 x2) no_seal = refl
is_no_seal h (line.GivenLink x0 x1 x2) no_seal = refl
is_no_seal h (line.Counter x0 x1 x2) no_seal = refl
is_no_seal h (line.Reserve x0 x1 x2 x3) no_seal = refl
is_no_seal h (line.Floor x0 x1 x2 x3 x4 x5) no_seal = refl
is_no_seal h (line.Draw x0 x1) no_seal = refl
is_no_seal h (line.DropNet x0 x1 x2) no_seal = refl
is_no_seal h (line.DropLink x0 x1 x2 x3) no_seal = refl
is_no_seal h (line.Install x0 x1 x2 x3) no_seal = refl
is_no_seal h (line.Active x0 x1 x2) no_seal = refl
is_no_seal h (line.Start x0 x1 x2 x3) no_seal = refl
is_no_seal h (line.Row x0 x1 x2 x3 x4) no_seal = refl
is_no_seal h (line.Pair x0 x1 x2 x3 x4) no_seal = refl
is_no_seal h (line.State x0 x1 x2) no_seal = refl
is_no_seal h (line.Live x0 x1) no_seal = refl
is_no_seal h (line.Removed x0 x1) no_seal = refl
is_no_seal h (line.Roll x0 x1 x2) no_seal = refl
is_no_seal h (line.Told x0 x1) no_seal = refl
is_no_seal h (line.Untold x0 x1) no_seal = refl
is_no_seal h (line.Commit x0 x1) no_seal = refl
is_no_seal h (line.Accept x0 x1 x2) no_seal = refl
is_no_seal h (line.Refuse x0 x1 x2) no_seal = refl
is_no_seal h (line.Seal x0 x1 x2) no_seal = absurd (no_seal x0 x1 x2 refl)
is_no_seal h (line.Forge x0 x1) no_seal = refl
is_no_seal h (line.Send x0 x1 x2 x3) no_seal = refl
is_no_seal h (line.Inject x0 x1 x2) no_seal = refl
is_no_seal h (line.Stopped x0 x1) no_seal = refl
is_no_seal h (line.DownReset x0 x1) no_seal = refl
is_no_seal h (line.DownDisk x0 x1) no_seal = refl
is_no_seal h (line.Boot x0 x1) no_seal = refl
is_no_seal h (line.Dump x0 x1 x2) no_seal = refl
is_no_seal h (line.End x0 x1 x2 x3 x4 x5) no_seal = refl

pub quiet_follows : (n : Nonces) (h : List Line) (l : Line)
    → ((x0 : ℕ) (x1 : ArrayString) (x2 : Term) → l ≡ line.Seal x0 x1 x2 → ⊥) → AreNonces n h
    → AreNonces n (h ++ l ∷ [])
quiet_follows n h l none before = record {
  seen = λ t. before.seen t ∙ sym (any_stays (seals_alike t) h l (seals_none l none t));
  first = first_stays is_fresh n.first h l (is_no_seal h l none) before.first;
}

-- The stamp that was added.
pub stamp_added : (old new : List Stamp) (stamp : Stamp) (t u : Term) → stamp ≡ stamp_of t
    → list_any (is_at (stamp_cmp (stamp_of u))) new ≡ cond (is_at (stamp_cmp stamp) (stamp_of u)) true
    (list_any (is_at (stamp_cmp (stamp_of u))) old)
    → list_any (same_parts (stamp_of u)) new ≡ (list_any (same_parts (stamp_of u)) old || same_stamp u t)
unfolding same_stamp
stamp_added old new stamp t u is updates =
    added_alike stamp_cmp same_parts stamp_alike stamp_turned old new stamp (stamp_of u) updates ∙ ap
    (λ (s : Stamp). list_any (same_parts (stamp_of u)) old || same_parts (stamp_of u) s) is

pub stamp_is_new : (old : List Stamp) (stamp : Stamp) (t : Term) → stamp ≡ stamp_of t
    → list_any (is_at (stamp_cmp stamp)) old ≡ list_any (same_parts (stamp_of t)) old
stamp_is_new old stamp t is = list_any_alike (is_at (stamp_cmp stamp)) (same_parts stamp) (stamp_alike stamp) old ∙ ap
    (λ (s : Stamp). list_any (same_parts s) old) is
