-- The seals of a group fit: whatever a rule decides, the counters are the next ones, and limits above them are stored
-- before.
use Rattle.std.proofs.Common.{◌≡◌, ℕ, ◌<◌, ◌≤◌, ◌+◌, min, Bool, true, false, cond, not, ◌&&◌, ◌||◌, List, [], ◌∷◌, ◌++◌, map, Option, Some, None, option_map, option_to_list, find, is_some, nat_eq, nat_le, refl, sym, ap, ◌∙◌, subst, arith, append_assoc, leb-false}
use Rattle.std.proofs.lemmas.Bool.{and_parts, not-true, false≢true, eqb-false}
use Rattle.std.specs.List.{AllByRecursion}
use Rattle.zb_model.specs.Data.{Bytes, Layer, Nwk, Aps, Term, Move, Draw, DropNet, DropLink, Install, Active, Row, Pair, Became, Live, Removed, Roll, Told, Untold, Edit, Reserve, Floor, Start, Moved, Place, Reason}
use Rattle.zb_model.specs.Lines.{Line, Changed, Accept, Seal}
use Rattle.zb_model.specs.State.{greatest_counter, NetKey, NodeState, same_key, at_net, of_active, net_of_active, active_row, next_of, limit_of, next_counter, stored_limit, reserved, started_at, applied, applied_all, after_accepting, after_sealing, sealed_at}
use Rattle.zb_model.specs.Rules.{Sending, Setting, spent}
use Rattle.zb_model.specs.Answer.{Answer, seals_at, may_seal, reserve_of}
use Rattle.zb_model.specs.Readings.{state_of, heard_line, after, speaker}
use Rattle.zb_model.specs.Play.{commit_lines, refuse_lines, send_lines, stored_lines}
use Rattle.zb_model.specs.Claims.{Each}
use Rattle.law_run.proofs.Basics.{same_key-eq, nat_eq-refl, state-snoc, append-nil'}
use Rattle.law_run.proofs.Nets.{Holds, On, at_key, Mild, Gives, gives-closed, gives-heard, gives-started, on-applied, on-accepted, on-map-found}
use Rattle.law_run.proofs.Counters.{SealFitsAt, SealFits, StateFits, LineFits, Commanded, IfHolds, Behind, found-key}
use Rattle.law_run.proofs.FreshLines.{heard-keeps, all-append}

-- Lines without a seal

unfoldable pub NoSeal : Line → Type 0
NoSeal (Seal e n t) = ⊥
NoSeal _ = Unit {0}

no-seal-fits : (l : Line) → NoSeal l → (s : NodeState) → StateFits l s
unfolding NoSeal
no-seal-fits (Seal e n t) k s = absurd k
no-seal-fits _ k s = tt

pub plain : (h ls : List Line) → AllByRecursion NoSeal ls → Each LineFits h ls
plain h [] a = tt
plain h (l ∷ ls) a = (no-seal-fits l a.0 (state_of h (speaker l)), plain (h ++ l ∷ []) ls a.1)

pub changes-plain : (number n : ℕ) (es : List Edit) → AllByRecursion NoSeal (map (Changed number n) es)
unfolding NoSeal
changes-plain number n [] = tt
changes-plain number n (e ∷ es) = (tt, changes-plain number n es)

pub commit-plain : (number n : ℕ) (es : List Edit) → AllByRecursion NoSeal (commit_lines number n es)
unfolding NoSeal
commit-plain number n [] = tt
commit-plain number n (e ∷ es) = (tt, tt)

pub accepts-plain : (number n : ℕ) (ts : List Term) → AllByRecursion NoSeal (map (Accept number n) ts)
unfolding NoSeal
accepts-plain number n [] = tt
accepts-plain number n (t ∷ ts) = (tt, accepts-plain number n ts)

pub refuse-plain : (number n : ℕ) (place : Place) (r : Option Reason)
    → AllByRecursion NoSeal (refuse_lines number n place r)
unfolding NoSeal
refuse-plain number n place None = tt
refuse-plain number n place (Some r) = (tt, tt)

pub send-plain : (number : ℕ) (n : Option ℕ) (frame : ℕ) (bytes : Option Bytes)
    → AllByRecursion NoSeal (send_lines number n frame bytes)
unfolding NoSeal
send-plain number n frame None = tt
send-plain number n frame (Some b) = (tt, tt)

pub stored-plain : (number n : ℕ) (a : Answer) → AllByRecursion NoSeal (stored_lines number n a)
unfolding stored_lines
stored-plain number n a = all-append NoSeal (map (Changed number n) a.edits) (commit_lines number n a.edits)
    (changes-plain number n a.edits) (commit-plain number n a.edits)

-- What a node's lines keep

pub lines-keep : (Φ : NodeState → Type 0) (n : ℕ) (h ls : List Line)
    → AllByRecursion (λ l. (s : NodeState) → Φ s → Φ (after l s)) ls → Φ (state_of h n) → Φ (state_of (h ++ ls) n)
lines-keep Φ n h [] a p = subst (λ x. Φ (state_of x n)) (sym (append-nil' h)) p
lines-keep Φ n h (l ∷ ls) a p =
    subst (λ x. Φ (state_of x n)) (append_assoc h (l ∷ []) ls)
    (lines-keep Φ n (h ++ l ∷ []) ls a.1
    (subst Φ (sym (state-snoc h l n)) (heard-keeps Φ n l (state_of h n) (λ e. a.0 (state_of h n) p) p)))

pub changed-line : (number n : ℕ) (e : Edit) (s : NodeState) → heard_line n s (Changed number n e) ≡ applied e s
unfolding heard_line speaker after
changed-line number n e s = ap (λ b. cond b (applied e s) s) (nat_eq-refl n)

pub changed-state : (number n : ℕ) (h : List Line) (es : List Edit) → state_of (h ++ map (Changed number n) es) n
    ≡ applied_all es (state_of h n)
unfolding applied_all
changed-state number n h [] = ap (λ x. state_of x n) (append-nil' h)
changed-state number n h (e ∷ es) =
    ap (λ x. state_of x n) (sym (append_assoc h (Changed number n e ∷ []) (map (Changed number n) es)))
    ∙ changed-state number n (h ++ Changed number n e ∷ []) es
    ∙ ap (λ x. applied_all es x) (state-snoc h (Changed number n e) n ∙ changed-line number n e (state_of h n))

-- Ready to seal

abbrev pub ApsGives : ℕ → NodeState → Type 0
ApsGives c s = (s.aps_next ≡ c) × (c < s.aps_limit)

-- in the state s, for a frame that is sealed as in the state s0
pub record Ready (s0 : NodeState) (send : Option Sending) (s : NodeState) : Type 0 where
  pub net : seals_at Nwk send ≡ true → (r : NetKey) → active_row s0 ≡ Some r
      → On (Gives (next_counter Nwk s0)) r.key s.nets
  pub aps : seals_at Aps send ≡ true → ApsGives (next_counter Aps s0) s

aps-gives-moved : (c : ℕ) (m : Move) (s : NodeState) → ApsGives c s
    → ApsGives c (Rattle.zb_model.specs.State.moved m s)
aps-gives-moved c (Draw k) s h = h
aps-gives-moved c (DropNet k) s h = h
aps-gives-moved c (DropLink p k) s h = h
aps-gives-moved c (Install k q) s h = h
aps-gives-moved c (Active k) s h = h
aps-gives-moved c (Row p k t) s h = h
aps-gives-moved c (Pair a b k) s h = h
aps-gives-moved c (Became g) s h = h
aps-gives-moved c (Live d) s h = h
aps-gives-moved c (Removed d) s h = h
aps-gives-moved c (Roll b) s h = h
aps-gives-moved c (Told d) s h = h
aps-gives-moved c (Untold d) s h = h

aps-gives-applied : (c : ℕ) (e : Edit) (s : NodeState) → ApsGives c s → ApsGives c (applied e s)
unfolding applied
aps-gives-applied c (Reserve Nwk v) s h = h
aps-gives-applied c (Reserve Aps v) s h = (h.0, omega (arith, h.1))
aps-gives-applied c (Floor Nwk k p v) s h = h
aps-gives-applied c (Floor Aps k p v) s h = h
aps-gives-applied c (Start k v) s h = h
aps-gives-applied c (Moved m) s h = aps-gives-moved c m s h

-- an edit after the reserves: a start is not above the next counter
abbrev pub Gentle : NodeState → Edit → Type 0
Gentle s0 (Start key value) = value ≤ next_counter Nwk s0
Gentle s0 _ = Unit {0}

gentle-mild : (s0 : NodeState) (e : Edit) → Gentle s0 e → Mild (Gives (next_counter Nwk s0)) e
gentle-mild s0 (Start k v) g = gives-started (next_counter Nwk s0) v g
gentle-mild s0 (Reserve l v) g = tt
gentle-mild s0 (Floor l k p v) g = tt
gentle-mild s0 (Moved m) g = tt

pub ready-applied : (s0 : NodeState) (send : Option Sending) (e : Edit) → Gentle s0 e → (s : NodeState)
    → Ready s0 send s → Ready s0 send (applied e s)
ready-applied s0 send e g s r = record {
  net = λ a row found. on-applied (Gives (next_counter Nwk s0)) (gives-closed (next_counter Nwk s0)) row.key e s
      (gentle-mild s0 e g) (r.net a row found);
  aps = λ a. aps-gives-applied (next_counter Aps s0) e s (r.aps a);
}

aps-gives-heard : (c : ℕ) (layer : Layer) (k : Bytes) (sender counter : ℕ) (s : NodeState) → ApsGives c s
    → ApsGives c (Rattle.zb_model.specs.State.after_hearing layer k sender counter s)
unfolding Rattle.zb_model.specs.State.after_hearing
aps-gives-heard c Nwk k sender counter s h = h
aps-gives-heard c Aps k sender counter s h = h

aps-gives-accepted : (c : ℕ) (t : Term) (s : NodeState) → ApsGives c s → ApsGives c (after_accepting t s)
unfolding after_accepting
aps-gives-accepted c t s h = aps-gives-heard c t.layer t.base t.source t.counter s h

pub ready-accepted : (s0 : NodeState) (send : Option Sending) (t : Term) (s : NodeState) → Ready s0 send s
    → Ready s0 send (after_accepting t s)
ready-accepted s0 send t s r = record {
  net = λ a row found. on-accepted (Gives (next_counter Nwk s0)) (gives-heard (next_counter Nwk s0)) row.key t s
      (r.net a row found);
  aps = λ a. aps-gives-accepted (next_counter Aps s0) t s (r.aps a);
}

-- What a plan that may seal has

next-is : (s : NodeState) (r : NetKey) → active_row s ≡ Some r → next_counter Nwk s ≡ r.next
unfolding next_counter
next-is s r e = ap (λ o. next_of s.declared o) e

limit-is : (s : NodeState) (r : NetKey) → active_row s ≡ Some r → stored_limit Nwk s ≡ r.limit
unfolding stored_limit
limit-is s r e = ap (λ o. limit_of s.declared o) e

abbrev FoundRow : Bytes → List NetKey → NetKey → Type 0
FoundRow key nets r = find (at_key key) nets ≡ Some r

pub active-found-at : (o : Option Bytes) (s : NodeState) (r : NetKey) → net_of_active o s ≡ Some r
    → FoundRow r.key s.nets r
active-found-at None s r e = absurd (Rattle.law_run.proofs.Counters.none-some r e)
active-found-at (Some key) s r e =
    subst (λ k. FoundRow k s.nets r) (sym (same_key-eq r.key key (found-key key s.nets r e))) e

pub active-found : (s : NodeState) (r : NetKey) → active_row s ≡ Some r → FoundRow r.key s.nets r
unfolding active_row
active-found s r e = active-found-at s.active s r e

holds-some : (P : NetKey → Type 0) (o : Option NetKey) (r : NetKey) → o ≡ Some r → P r → Holds P o
unfolding Holds
holds-some P o r e p = subst (λ x. Holds P x) (sym e) p

-- the reserve makes room
reserve-gives : (o : Option Bytes) (s : NodeState) (r : NetKey) (c v : ℕ) → net_of_active o s ≡ Some r → r.next ≡ c
    → c < min v greatest_counter → On (Gives c) r.key (of_active (reserved v) o s.nets)
reserve-gives None s r c v e next room = absurd (Rattle.law_run.proofs.Counters.none-some r e)
reserve-gives (Some key) s r c v e next room =
    subst (λ k. On (Gives c) k (at_net key (reserved v) s.nets))
    (sym (same_key-eq r.key key (found-key key s.nets r e)))
    (on-map-found (λ x. x.next ≡ c) (Gives c) (reserved v) key s.nets (λ x. refl)
    (λ x p. (refl, p, omega (arith, room)))
    (holds-some (λ x. x.next ≡ c) (find (at_key key) s.nets) r e next))

reserve-test : (a m e : Bool) (v : ℕ) → a ≡ true → m ≡ true → cond (a && (m && e)) (Some v) None ≡ cond e (Some v) None
reserve-test true true e v p q = refl
reserve-test false m e v p q = absurd (false≢true p)
reserve-test true false e v p q = absurd (false≢true q)

abbrev pub reserve_list : Layer → Option ℕ → List Edit
reserve_list layer o = option_to_list (option_map (Reserve layer) o)

behind-found : (o : Option NetKey) (r : NetKey) → o ≡ Some r → IfHolds Behind o → (r.next ≤ r.limit)
    × (0 < r.limit → r.started ≡ true)
unfolding Behind
behind-found o r e h = subst (λ x. IfHolds Behind x) e h

net-ready-by : (s : NodeState) (r : NetKey) (v : ℕ) (b : Bool) → nat_eq (next_counter Nwk s) (stored_limit Nwk s) ≡ b
    → active_row s ≡ Some r → Commanded s → next_counter Nwk s < min v greatest_counter
    → On (Gives (next_counter Nwk s)) r.key (applied_all (reserve_list Nwk (cond b (Some v) None)) s).nets
unfolding applied_all applied active_row
net-ready-by s r v true e found o room = reserve-gives s.active s r (next_counter Nwk s) v found
    (sym (next-is s r found)) room
net-ready-by s r v false e found o room = holds-some (Gives (next_counter Nwk s)) (find (at_key r.key) s.nets) r
    (active-found s r found) (behind.1 (omega (arith, below)), sym (next-is s r found), below)
  where
    behind : (r.next ≤ r.limit) × (0 < r.limit → r.started ≡ true)
    behind = behind-found (find (at_key r.key) s.nets) r (active-found s r found) (o.nets r.key)

    below : next_counter Nwk s < r.limit
    below =
        omega (
          arith,
          behind.0,
          next-is s r found,
          limit-is s r found,
          eqb-false (next_counter Nwk s) (stored_limit Nwk s) e,
        )

aps-ready-by : (s0 s : NodeState) (v : ℕ) (b : Bool) → nat_eq (next_counter Aps s0) (stored_limit Aps s0) ≡ b
    → s.aps_next ≡ s0.aps_next → s.aps_limit ≡ s0.aps_limit → Commanded s0 → next_counter Aps s0
    < min v greatest_counter
    → ApsGives (next_counter Aps s0) (applied_all (reserve_list Aps (cond b (Some v) None)) s)
unfolding applied_all applied next_counter stored_limit
aps-ready-by s0 s v true e next limit o room = (next, omega (arith, room))
aps-ready-by s0 s v false e next limit o room =
    (next, omega (arith, o.aps, limit, eqb-false (next_counter Aps s0) (stored_limit Aps s0) e))

pub applied-all-append : (xs ys : List Edit) (s : NodeState) → applied_all (xs ++ ys) s
    ≡ applied_all ys (applied_all xs s)
unfolding applied_all
applied-all-append [] ys s = refl
applied-all-append (x ∷ xs) ys s = applied-all-append xs ys (applied x s)

nwk-reserve-next : (o : Option ℕ) (s : NodeState) → (applied_all (reserve_list Nwk o) s).aps_next ≡ s.aps_next
unfolding applied_all applied
nwk-reserve-next None s = refl
nwk-reserve-next (Some v) s = refl

nwk-reserve-limit : (o : Option ℕ) (s : NodeState) → (applied_all (reserve_list Nwk o) s).aps_limit ≡ s.aps_limit
unfolding applied_all applied
nwk-reserve-limit None s = refl
nwk-reserve-limit (Some v) s = refl

aps-reserve-nets : (o : Option ℕ) (s : NodeState) → (applied_all (reserve_list Aps o) s).nets ≡ s.nets
unfolding applied_all applied
aps-reserve-nets None s = refl
aps-reserve-nets (Some v) s = refl

-- what `may_seal` says
pub record MaySeal (s : NodeState) (send : Option Sending) : Type 0 where
  pub active : seals_at Nwk send ≡ true → is_some (active_row s) ≡ true
  pub net : seals_at Nwk send ≡ true → next_counter Nwk s < greatest_counter
  pub aps : seals_at Aps send ≡ true → next_counter Aps s < greatest_counter

when-sealed : (a b : Bool) → (not a || b) ≡ true → a ≡ true → b ≡ true
when-sealed true b h e = h
when-sealed false b h e = absurd (false≢true e)

unspent : (layer : Layer) (s : NodeState) → not (spent layer s) ≡ true → next_counter layer s < greatest_counter
unfolding spent
unspent layer s h = leb-false greatest_counter (next_counter layer s)
    (not-true (nat_le greatest_counter (next_counter layer s)) h)

pub may-seal : (s : NodeState) (send : Option Sending) → may_seal s send ≡ true → MaySeal s send
unfolding may_seal
may-seal s send h = record {
  active =
      λ e. (and_parts (is_some (active_row s)) (not (spent Nwk s))
      (when-sealed (seals_at Nwk send) (is_some (active_row s) && not (spent Nwk s)) (parts.0) e)).0;
  net = λ e. unspent Nwk s
      ((and_parts (is_some (active_row s)) (not (spent Nwk s))
      (when-sealed (seals_at Nwk send) (is_some (active_row s) && not (spent Nwk s)) (parts.0) e)).1);
  aps = λ e. unspent Aps s (when-sealed (seals_at Aps send) (not (spent Aps s)) (parts.1) e);
}
  where
    parts : ((not (seals_at Nwk send) || (is_some (active_row s) && not (spent Nwk s))) ≡ true)
        × ((not (seals_at Aps send) || not (spent Aps s)) ≡ true)
    parts = and_parts (not (seals_at Nwk send) || (is_some (active_row s) && not (spent Nwk s)))
        (not (seals_at Aps send) || not (spent Aps s)) h

abbrev block_end : Setting → ℕ → ℕ
block_end c n = min (n + c.me.out_block) greatest_counter

reserve-is : (c : Setting) (s : NodeState) (send : Option Sending) (layer : Layer) → seals_at layer send ≡ true
    → may_seal s send ≡ true
    → reserve_of c s send layer ≡ cond (nat_eq (next_counter layer s) (stored_limit layer s))
    (Some (block_end c (next_counter layer s))) None
unfolding reserve_of
reserve-is c s send layer a m = reserve-test (seals_at layer send) (may_seal s send)
    (nat_eq (next_counter layer s) (stored_limit layer s)) (block_end c (next_counter layer s)) a m

abbrev pub reserves : Setting → NodeState → Option Sending → List Edit
reserves c s send = reserve_list Nwk (reserve_of c s send Nwk) ++ reserve_list Aps (reserve_of c s send Aps)

pub ready : (c : Setting) (s : NodeState) (send : Option Sending) → 0 < c.me.out_block → Commanded s → may_seal s send
    ≡ true → Ready s send (applied_all (reserves c s send) s)
ready c s send block o m = record {
  net = λ a r found. subst (λ x. On (Gives (next_counter Nwk s)) r.key x.nets)
      (sym (applied-all-append first second s))
      (subst (λ x. On (Gives (next_counter Nwk s)) r.key x)
      (sym (aps-reserve-nets (reserve_of c s send Aps) (applied_all first s)))
      (subst (λ x. On (Gives (next_counter Nwk s)) r.key (applied_all (reserve_list Nwk x) s).nets)
      (sym (reserve-is c s send Nwk a m))
      (net-ready-by s r (block_end c (next_counter Nwk s)) (nat_eq (next_counter Nwk s) (stored_limit Nwk s)) refl
      found o (omega (arith, block, (may-seal s send m).net a)))));
  aps = λ a. subst (λ x. ApsGives (next_counter Aps s) x) (sym (applied-all-append first second s))
      (subst (λ x. ApsGives (next_counter Aps s) (applied_all (reserve_list Aps x) (applied_all first s)))
      (sym (reserve-is c s send Aps a m))
      (aps-ready-by s (applied_all first s) (block_end c (next_counter Aps s))
      (nat_eq (next_counter Aps s) (stored_limit Aps s)) refl
      (nwk-reserve-next (reserve_of c s send Nwk) s) (nwk-reserve-limit (reserve_of c s send Nwk) s) o
      (omega (arith, block, (may-seal s send m).aps a))));
}
  where
    first : List Edit
    first = reserve_list Nwk (reserve_of c s send Nwk)

    second : List Edit
    second = reserve_list Aps (reserve_of c s send Aps)
