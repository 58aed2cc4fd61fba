-- The invariants of lockout over single lines, one lemma per kind of line.
use Rattle.std.proofs.Common.{◌≡◌, ℕ, Bool, true, false, cond, ◌&&◌, ◌||◌, List, [], ◌∷◌, ◌++◌, slice_get, Some, flat_map, nat_eq, refl, sym, ◌∙◌, subst, eqb-true, ◌⊎◌, inl, inr, ⊎_elim}
use Rattle.std.proofs.lemmas.Bool.{false≢true, and_parts, or_cases}
use Rattle.zb_model.specs.Data.{Bytes, Attribute, Term, Draw, Install, Row, Pair, Live, Removed, Moved}
use Rattle.zb_model.specs.Lines.{Line, Declared, GivenNet, GivenLink, Changed, Seal, Forge}
use Rattle.zb_model.specs.Tools.{Tools}
use Rattle.zb_model.specs.Rules.{centre_of}
use Rattle.zb_model.specs.Readings.{state_of, speaker, draws_used, stations_of}
use Rattle.zb_model.specs.Secrets.{carried, terms_in, terms_of, ever_in, ever, is_the_centre, network_keys}
use Rattle.zb_model.specs.Play.{Schedule, Node, stations}
use Rattle.zb_model.specs.Claims.{drawn_in}
use Rattle.law_run.specs.KeysApart.{given_keys, network_key}
use Rattle.law_run.proofs.Judged.{In}
use Rattle.law_run.proofs.LockoutDeeds.{HasRow, HasNet, HasPair}
use Rattle.law_run.proofs.LockoutRows.{row-new}
use Rattle.law_run.proofs.LockoutKept.{Away, late_line, away, LineRow, LineNet, LinePair, row-back, has-net-back, has-pair-back, drawn, drawn-more, terms-snoc, ever-snoc, Other, Safe, Known, Unseen, Kept, Fits, kept-step, other-more, known-more, safe-cases, Ledger, RowFits, LedgerFits, ledger-step, NoLive, Dead, DeadFits, dead-step}

-- A run and a device: what all lemmas have in common
pub record Case : Type 0 where
  pub tools : Tools
  pub schedule : Schedule
  pub lines : List Line
  pub device : ℕ

abbrev pub centre : Case → ℕ
centre x = centre_of (stations x.schedule)

abbrev pub given_to : ℕ → Node → List Bytes
given_to d m = cond (nat_eq m.station.eui d) (given_keys m) []

abbrev pub InNet : Case → Bytes → Type 0
InNet x k = In k (network_keys x.lines)

abbrev pub InGiven : Case → Bytes → Type 0
InGiven x k = In k (flat_map (given_to x.device) x.schedule.nodes)

abbrev pub InNets : Case → Bytes → Type 0
InNets x k = In k (flat_map (λ (m : Node). network_key m.network) x.schedule.nodes)

abbrev pub IsKept : Case → List Line → Type 0
IsKept x h = Kept x.tools (centre x) x.device (InNet x) (InGiven x) h

abbrev pub IsLedger : Case → List Line → Type 0
IsLedger x h = Ledger (centre x) x.schedule.draws (InNet x) (InNets x) h

abbrev pub IsDead : Case → List Line → Type 0
IsDead x h = Dead (centre x) x.device h

abbrev pub StepFits : Case → List Line → Line → Type 0
StepFits x h l = Fits x.tools (centre x) x.device (InNet x) (InGiven x) h l

abbrev pub BookFits : Case → List Line → Line → Type 0
BookFits x h l = LedgerFits (centre x) x.schedule.draws (InNet x) (InNets x) h l

pub record Whole (x : Case) (h : List Line) : Type 0 where
  pub kept : IsKept x h
  pub ledger : IsLedger x h
  pub dead : IsDead x h

pub whole-step : (x : Case) (h : List Line) (l : Line) → Whole x h → StepFits x h l → BookFits x h l
    → DeadFits (centre x) x.device h l → Whole x (h ++ l ∷ [])
whole-step x h l w f g d = record {
  kept = kept-step x.tools (centre x) x.device (InNet x) (InGiven x) h l w.kept f;
  ledger = ledger-step (centre x) x.schedule.draws (InNet x) (InNets x) h l w.ledger g;
  dead = dead-step (centre x) x.device h l w.dead d;
}

-- Lines that bring no term, no key to the device and no row to the centre

pub record Bare (x : Case) (h : List Line) (l : Line) : Type 0 where
  pub terms : (t : Term) → In t (terms_in l) → ⊥
  pub held : (k : Bytes) → In k (ever_in (stations_of h) x.device l) → ⊥
  pub rows : (p : ℕ) (k : Bytes) → speaker l ≡ centre x → LineRow l p k → ⊥
  pub nets : (k : Bytes) → speaker l ≡ centre x → LineNet l k → ⊥
  pub pairs : (k : Bytes) → speaker l ≡ centre x → LinePair l k → ⊥

pub record Idle (x : Case) (h : List Line) (l : Line) : Type 0 where
  pub bare : Bare x h l
  pub draws : (k : Bytes) → In k (drawn_in l) → ⊥
  pub away : late_line x.device (away x.device h) l ≡ away x.device h

bare-fits : (x : Case) (h : List Line) (l : Line) → Bare x h l → ((k : Bytes) → In k (drawn_in l) → ⊥) → StepFits x h l
bare-fits x h l b n = record {
  terms = λ t i. absurd (b.terms t i);
  held = λ k i. absurd (b.held k i);
  safe = λ k s. ⊎_elim (λ a. inl a) (λ a. ⊎_elim (λ q. absurd (n k q.1)) (λ q. absurd (b.rows q.0 k q.2 q.3)) a)
      (safe-cases (centre x) x.device h l k s);
}

bare-books : (x : Case) (h : List Line) (l : Line) → Bare x h l → ((k : Bytes) → In k (drawn_in l) → ⊥)
    → BookFits x h l
bare-books x h l b n =
    record {
      rows = λ p k e r. absurd (b.rows p k e r);
      nets = λ k e r. absurd (b.nets k e r);
      pairs = λ k e r. absurd (b.pairs k e r);
      draw = λ k i. absurd (n k i);
    }

pub idle-step : (x : Case) (h : List Line) (l : Line) → Whole x h → Idle x h l → Whole x (h ++ l ∷ [])
idle-step x h l w i = whole-step x h l w (bare-fits x h l i.bare i.draws) (bare-books x h l i.bare i.draws)
    (record
    { came = λ g p k e r. absurd (i.bare.rows p k e r); went = λ g. inl (subst (λ a. a.gone ≡ true) i.away g) })

nowhere : {X : Type 0} (x : X) → In x [] → ⊥
unfolding In
nowhere x i = i

one-of : {X : Type 0} (x y : X) → In x (y ∷ []) → y ≡ x
unfolding In
one-of x y (inl e) = e
one-of x y (inr i) = absurd i

unfoldable pub IsIdle : Line → Type 0
IsIdle (Declared p) = Unit {0}
IsIdle (GivenNet n k q) = ⊥
IsIdle (GivenLink n p k) = ⊥
IsIdle (Seal e n t) = ⊥
IsIdle (Forge e t) = ⊥
IsIdle (Changed e n (Moved (Draw k))) = ⊥
IsIdle (Changed e n (Moved (Install k q))) = ⊥
IsIdle (Changed e n (Moved (Row p k t))) = ⊥
IsIdle (Changed e n (Moved (Pair a b k))) = ⊥
IsIdle (Changed e n (Moved (Live d))) = ⊥
IsIdle (Changed e n (Moved (Removed d))) = ⊥
IsIdle _ = Unit {0}

no-ever : (x : Case) (h : List Line) (l : Line) → IsIdle l → (k : Bytes) → In k (ever_in (stations_of h) x.device l)
    → ⊥
unfolding IsIdle In
no-ever x h (GivenNet n k q) i j e = i
no-ever x h (GivenLink n p k) i j e = i
no-ever x h (Changed v n (Moved (Install k q))) i j e = i
no-ever x h (Changed v n (Moved (Row p k t))) i j e = i
no-ever x h (Changed v n (Moved (Pair a b k))) i j e = i
no-ever x h _ i j e = e

idle-away : (d : ℕ) (a : Away) (l : Line) → IsIdle l → late_line d a l ≡ a
unfolding IsIdle
idle-away d a (Changed e n (Moved (Live y))) i = absurd i
idle-away d a (Changed e n (Moved (Removed y))) i = absurd i
idle-away d a (Changed e n (Moved (Draw k))) i = absurd i
idle-away d a _ i = refl

pub idle : (x : Case) (h : List Line) (l : Line) → IsIdle l → Idle x h l
unfolding IsIdle
idle x h l i = record {
  bare = record {
    terms = λ t e. no-terms l i t e;
    held = no-ever x h l i;
    rows = λ p k e r. no-rows l i p k r;
    nets = λ k e r. no-nets l i k r;
    pairs = λ k e r. no-pairs l i k r;
  };
  draws = λ k e. no-draws l i k e;
  away = idle-away x.device (away x.device h) l i;
}
  where
    no-terms : (l : Line) → IsIdle l → (t : Term) → In t (terms_in l) → ⊥
    no-terms (Seal e n t) i u j = i
    no-terms (Forge e t) i u j = i
    no-terms _ i u j = nowhere u j

    no-rows : (l : Line) → IsIdle l → (p : ℕ) (k : Bytes) → LineRow l p k → ⊥
    no-rows (Changed e n (Moved (Row q j t))) i p k r = i
    no-rows (GivenLink n q j) i p k r = i
    no-rows _ i p k r = r

    no-nets : (l : Line) → IsIdle l → (k : Bytes) → LineNet l k → ⊥
    no-nets (Changed e n (Moved (Install j q))) i k r = i
    no-nets (GivenNet n j q) i k r = i
    no-nets _ i k r = r

    no-pairs : (l : Line) → IsIdle l → (k : Bytes) → LinePair l k → ⊥
    no-pairs (Changed e n (Moved (Pair a b j))) i k r = i
    no-pairs _ i k r = r

    no-draws : (l : Line) → IsIdle l → (k : Bytes) → In k (drawn_in l) → ⊥
    no-draws (Changed e n (Moved (Draw j))) i k r = i
    no-draws _ i k r = nowhere k r

pub idle-one : (x : Case) (h : List Line) (l : Line) → IsIdle l → Whole x h → Whole x (h ++ l ∷ [])
idle-one x h l i w = idle-step x h l w (idle x h l i)

-- Sealed and forged terms

-- what a term may carry, after the lines h
abbrev pub Carries : Case → List Line → Term → Type 0
Carries x h t = (k : Bytes) → carried x.tools t ≡ Some k
    → (Safe (centre x) x.device h k → Other (state_of h (centre x)) x.device t.base)
    × (InNet x k → Known (centre x) h k)

-- a line that makes nothing safe
abbrev NoneSafe : Case → List Line → Line → Type 0
NoneSafe x h l = (k : Bytes) → Safe (centre x) x.device (h ++ l ∷ []) k → Safe (centre x) x.device h k

pub carries-more : (x : Case) (h : List Line) (l : Line) (t : Term) → NoneSafe x h l → Carries x h t
    → Carries x (h ++ l ∷ []) t
carries-more x h l t n c k e = (
  λ s. other-more h l (centre x) x.device t.base ((c k e).0 (n k s)),
  λ q. known-more h l (centre x) k
      ((c k e).1 q),
)

term-safe : (x : Case) (h : List Line) (e n : ℕ) (t : Term) → NoneSafe x h (Seal e n t)
term-safe x h e n t k s = ⊎_elim (λ a. a) (λ a. ⊎_elim (λ q. absurd (nowhere k q.1)) (λ q. absurd q.3) a)
    (safe-cases (centre x) x.device h (Seal e n t) k s)

forge-safe : (x : Case) (h : List Line) (e : ℕ) (t : Term) → NoneSafe x h (Forge e t)
forge-safe x h e t k s = ⊎_elim (λ a. a) (λ a. ⊎_elim (λ q. absurd (nowhere k q.1)) (λ q. absurd q.3) a)
    (safe-cases (centre x) x.device h (Forge e t) k s)

term-fits : (x : Case) (h : List Line) (l : Line) (t : Term) → terms_in l ≡ t ∷ []
    → ever_in (stations_of h) x.device l ≡ [] → NoneSafe x h l → Carries x h t → StepFits x h l
term-fits x h l t same none safe c = record {
  terms =
      λ u i. subst
      (λ y. (k : Bytes) → carried x.tools y ≡ Some k
      → (Safe (centre x) x.device (h ++ l ∷ []) k → Other (state_of (h ++ l ∷ []) (centre x)) x.device y.base)
      × (InNet x k → Known (centre x) (h ++ l ∷ []) k))
      (one-of u t (subst (λ ts. In u ts) same i)) (carries-more x h l t safe c);
  held = λ k i. absurd (nowhere k (subst (λ ks. In k ks) none i));
  safe = λ k s. inl (safe k s);
}

pub seal-step : (x : Case) (h : List Line) (e n : ℕ) (t : Term) → Carries x h t → Whole x h
    → Whole x (h ++ Seal e n t ∷ [])
seal-step x h e n t c w =
    whole-step x h (Seal e n t) w (term-fits x h (Seal e n t) t refl refl (term-safe x h e n t) c)
    (record {
      rows = λ p k q r. absurd r;
      nets = λ k q r. absurd r;
      pairs = λ k q r. absurd r;
      draw = λ k i. absurd (nowhere k i);
    })
    (record { came = λ g p k q r. absurd r; went = λ g. inl g })

pub seal-carries : (x : Case) (h : List Line) (e n : ℕ) (t u : Term) → Carries x h t
    → Carries x (h ++ Seal e n u ∷ []) t
seal-carries x h e n t u c = carries-more x h (Seal e n u) t (term-safe x h e n u) c

pub forge-step : (x : Case) (h : List Line) (e : ℕ) (t : Term) → Carries x h t → Whole x h
    → Whole x (h ++ Forge e t ∷ [])
forge-step x h e t c w = whole-step x h (Forge e t) w (term-fits x h (Forge e t) t refl refl (forge-safe x h e t) c)
    (record {
      rows = λ p k q r. absurd r;
      nets = λ k q r. absurd r;
      pairs = λ k q r. absurd r;
      draw = λ k i. absurd (nowhere k i);
    })
    (record { came = λ g p k q r. absurd r; went = λ g. inl g })

-- a safe key is one of the network
pub safe-net : (x : Case) (h : List Line) → Whole x h → (k : Bytes) → Safe (centre x) x.device h k → InNet x k
safe-net x h w k (inl i) = w.ledger.drawn_net k (w.kept.late_drawn k i)
safe-net x h w k (inr o) = w.ledger.row_net o.partner k o.row

-- so what carries no key of the network carries no safe key
pub forged-carries : (x : Case) (h : List Line) (t : Term) → Whole x h
    → ((k : Bytes) → carried x.tools t ≡ Some k → InNet x k → ⊥) → Carries x h t
forged-carries x h t w f k e = (λ s. absurd (f k e (safe-net x h w k s)), λ n. absurd (f k e n))

-- A fresh key: no row of the centre has it, nothing carries it, and the device never held it.

pub record Fresh (x : Case) (h : List Line) (k : Bytes) : Type 0 where
  pub rows : (p : ℕ) → HasRow (state_of h (centre x)) p k → ⊥
  pub nets : HasNet (state_of h (centre x)) k → ⊥
  pub pairs : HasPair (state_of h (centre x)) k → ⊥
  pub unseen : Unseen x.tools x.device h k

pub fresh-bare : (x : Case) (h : List Line) (l : Line) (k : Bytes) → Bare x h l → Fresh x h k → Fresh x (h ++ l ∷ []) k
fresh-bare x h l k b f = record {
  rows = λ p r. ⊎_elim (λ a. f.rows p a) (λ a. b.rows p k a.0 a.1) (row-back h l (centre x) p k r);
  nets = λ r. ⊎_elim (λ a. f.nets a) (λ a. b.nets k a.0 a.1) (has-net-back h l (centre x) k r);
  pairs = λ r. ⊎_elim (λ a. f.pairs a) (λ a. b.pairs k a.0 a.1) (has-pair-back h l (centre x) k r);
  unseen = (
    λ t i. ⊎_elim (λ a. f.unseen.0 t a) (λ a. absurd (b.terms t a))
        (Rattle.law_run.proofs.ConfirmsLines.in-append' t (terms_of h) (terms_in l)
        (subst (λ ts. In t ts) (terms-snoc h l) i)),
    λ i. ⊎_elim (λ a. f.unseen.1 a) (λ a. b.held k a)
        (Rattle.law_run.proofs.ConfirmsLines.in-append' k (ever h x.device) (ever_in (stations_of h) x.device l)
        (subst (λ ks. In k ks) (ever-snoc h x.device l) i)),
  );
}

-- A key is drawn

draw-gone : (a : Away) (k : Bytes) (b : Bool) → a.gone ≡ b
    → (cond b (record { gone = true; keys = k ∷ a.keys }) a).gone ≡ true → a.gone ≡ true
draw-gone a k true e g = e
draw-gone a k false e g = g

pub draw-bare : (x : Case) (h : List Line) (e n : ℕ) (k : Bytes) → Bare x h (Changed e n (Moved (Draw k)))
draw-bare x h e n k =
    record {
      terms = λ t i. nowhere t i;
      held = λ j i. nowhere j i;
      rows = λ p j q r. r;
      nets = λ j q r. r;
      pairs = λ j q r. r;
    }

pub draw-step : (x : Case) (h : List Line) (e n : ℕ) (k : Bytes) → Fresh x h k → InNet x k
    → slice_get x.schedule.draws (draws_used h) ≡ Some k → Whole x h → Whole x (h ++ Changed e n (Moved (Draw k)) ∷ [])
draw-step x h e n k f net at w = whole-step x h (Changed e n (Moved (Draw k))) w
    (record {
      terms = λ t i. absurd (nowhere t i);
      held = λ j i. absurd (nowhere j i);
      safe = λ j s. ⊎_elim (λ a. inl a)
          (λ a. ⊎_elim (λ q. inr (subst (λ y. Unseen x.tools x.device h y) (one-of j k q.1) f.unseen))
          (λ q. absurd q.3) a) (safe-cases (centre x) x.device h (Changed e n (Moved (Draw k))) j s);
    })
    (record {
      rows = λ p j q r. absurd r;
      nets = λ j q r. absurd r;
      pairs = λ j q r. absurd r;
      draw = λ j i. subst (λ y. InNet x y × (slice_get x.schedule.draws (draws_used h) ≡ Some y)) (one-of j k i)
          (net, at);
    })
    (record {
      came = λ g p j q r. absurd r;
      went = λ g. inl (draw-gone (away x.device h) k (away x.device h).gone refl g);
    })

-- The centre gets a row

cond-in : (b : Bool) (k j : Bytes) → In j (cond b (k ∷ []) []) → (b ≡ true) × (k ≡ j)
cond-in true k j i = (refl, one-of j k i)
cond-in false k j i = absurd (nowhere j i)

-- whose row it is, in the keys that the device ever held
row-whose : (x : Case) (h : List Line) (n p : ℕ) (k j : Bytes) → n ≡ centre x → (x.device ≡ centre x → ⊥)
    → In j (cond (nat_eq n x.device || (is_the_centre (stations_of h) n && nat_eq p x.device)) (k ∷ []) [])
    → (p ≡ x.device) × (k ≡ j)
row-whose x h n p k j c apart i = (
  ⊎_elim (λ a. absurd (apart (sym (eqb-true n x.device a) ∙ c)))
      (λ a. eqb-true p x.device (and_parts (is_the_centre (stations_of h) n) (nat_eq p x.device) a).1)
      (or_cases (nat_eq n x.device) (is_the_centre (stations_of h) n && nat_eq p x.device) found.0),
  found.1,
)
  where
    found : ((nat_eq n x.device || (is_the_centre (stations_of h) n && nat_eq p x.device)) ≡ true) × (k ≡ j)
    found = cond-in (nat_eq n x.device || (is_the_centre (stations_of h) n && nat_eq p x.device)) k j i

pub record RowComes (x : Case) (h : List Line) (n p : ℕ) (k : Bytes) : Type 0 where
  pub at_centre : n ≡ centre x
  pub apart : x.device ≡ centre x → ⊥
  pub fits : RowFits (centre x) (InNet x) (state_of h (centre x)) p k
  pub own : p ≡ x.device → Safe (centre x) x.device h k → ⊥
  pub others : (p ≡ x.device → ⊥) → HasRow (state_of h (centre x)) p k ⊎ Unseen x.tools x.device h k

row-step-fits : (x : Case) (h : List Line) (e n p : ℕ) (k : Bytes) (t : Attribute) → RowComes x h n p k
    → StepFits x h (Changed e n (Moved (Row p k t)))
unfolding speaker
row-step-fits x h e n p k t r = record {
  terms = λ u i. absurd (nowhere u i);
  held = λ j i. subst
      (λ y. (Safe (centre x) x.device (h ++ l ∷ []) y → ⊥)
      × (InNet x y → Known (centre x) (h ++ l ∷ []) y ⊎ InGiven x y)) (row-whose x h n p k j r.at_centre r.apart i).1
      (λ s. own_ (row-whose x h n p k j r.at_centre r.apart i).0 s, λ q. inl (inr (inl (p, there))));
  safe = λ j s. ⊎_elim (λ a. inl a) (λ a. ⊎_elim (λ q. absurd (nowhere j q.1)) (λ q. new j q) a)
      (safe-cases (centre x) x.device h l j s);
}
  where
    l : Line
    l = Changed e n (Moved (Row p k t))

    there : HasRow (state_of (h ++ l ∷ []) (centre x)) p k
    there = subst (λ m. HasRow (state_of (h ++ Changed e m (Moved (Row p k t)) ∷ []) (centre x)) p k)
        (sym r.at_centre) (row-new h e (centre x) p k t)

    own_ : p ≡ x.device → Safe (centre x) x.device (h ++ l ∷ []) k → ⊥
    own_ d s = ⊎_elim (λ a. r.own d a) (λ a. ⊎_elim (λ q. nowhere k q.1) (λ q. q.1 (sym q.3.0 ∙ d)) a)
        (safe-cases (centre x) x.device h l k s)

    new : (j : Bytes) → ((q : ℕ) × (q ≡ x.device → ⊥) × (n ≡ centre x) × ((p ≡ q) × (k ≡ j)))
        → Safe (centre x) x.device h j ⊎ Unseen x.tools x.device h j
    new j q = subst (λ y. Safe (centre x) x.device h y ⊎ Unseen x.tools x.device h y) q.3.1
        (⊎_elim (λ a. inl (inr (record { partner = p; not_it = λ d. q.1 (sym q.3.0 ∙ d); row = a }))) (λ a. inr a)
        (r.others (λ d. q.1 (sym q.3.0 ∙ d))))

row-step-books : (x : Case) (h : List Line) (e n p : ℕ) (k : Bytes) (t : Attribute)
    → RowFits (centre x) (InNet x) (state_of h (centre x)) p k → BookFits x h (Changed e n (Moved (Row p k t)))
row-step-books x h e n p k t f = record {
  rows = λ q j c r. subst (λ m. RowFits (centre x) (InNet x) (state_of h (centre x)) m j) r.0
      (subst (λ y. RowFits (centre x) (InNet x) (state_of h (centre x)) p y) r.1 f);
  nets = λ j c r. absurd r;
  pairs = λ j c r. absurd r;
  draw = λ j i. absurd (nowhere j i);
}

pub row-step : (x : Case) (h : List Line) (e n p : ℕ) (k : Bytes) (t : Attribute) → RowComes x h n p k
    → (p ≡ x.device → (away x.device h).gone ≡ false) → Whole x h → Whole x (h ++ Changed e n (Moved (Row p k t)) ∷ [])
row-step x h e n p k t r present w = whole-step x h (Changed e n (Moved (Row p k t))) w
    (row-step-fits x h e n p k t r) (row-step-books x h e n p k t r.fits)
    (record { came = λ g q j c s d. false≢true (sym (present (s.0 ∙ d)) ∙ g); went = λ g. inl g })

-- without what is live
pub row-kept : (x : Case) (h : List Line) (e n p : ℕ) (k : Bytes) (t : Attribute) → RowComes x h n p k → Whole x h
    → IsKept x (h ++ Changed e n (Moved (Row p k t)) ∷ []) × IsLedger x (h ++ Changed e n (Moved (Row p k t)) ∷ [])
row-kept x h e n p k t r w = (
  kept-step x.tools (centre x) x.device (InNet x) (InGiven x) h (Changed e n (Moved (Row p k t))) w.kept
      (row-step-fits x h e n p k t r),
  ledger-step (centre x) x.schedule.draws (InNet x) (InNets x) h (Changed e n (Moved (Row p k t))) w.ledger
      (row-step-books x h e n p k t r.fits),
)

-- a row that is there fits
pub row-there : (x : Case) (h : List Line) (p : ℕ) (k : Bytes) → Whole x h → HasRow (state_of h (centre x)) p k
    → RowFits (centre x) (InNet x) (state_of h (centre x)) p k
row-there x h p k w r = record {
  one = λ q s. w.ledger.one q p k s r;
  net = λ s. w.ledger.net p k r s;
  pair = λ s. w.ledger.pair p k r s;
  centre = w.ledger.centre p k r;
  well = w.ledger.well p k r;
  known = w.ledger.row_net p k r;
}

-- a present device's own row is not safe
pub present-own : (x : Case) (h : List Line) (k : Bytes) → Whole x h → (away x.device h).gone ≡ false
    → ((q : ℕ) → HasRow (state_of h (centre x)) q k → q ≡ x.device) → Safe (centre x) x.device h k → ⊥
present-own x h k w present only (inl i) = w.kept.none present k i
present-own x h k w present only (inr o) = o.not_it (only o.partner o.row)

-- A key of two, and a network key

pub pair-step : (x : Case) (h : List Line) (e n a b : ℕ) (k : Bytes) → Fresh x h k → In k (drawn h)
    → (a ≡ x.device ⊎ b ≡ x.device → (away x.device h).gone ≡ false) → Whole x h
    → Whole x (h ++ Changed e n (Moved (Pair a b k)) ∷ [])
pair-step x h e n a b k f d present w = whole-step x h l w
    (record {
      terms = λ u i. absurd (nowhere u i);
      held = λ j i. subst
          (λ y. (Safe (centre x) x.device (h ++ l ∷ []) y → ⊥)
          × (InNet x y → Known (centre x) (h ++ l ∷ []) y ⊎ InGiven x y)) (whose j i).1 (
            λ s. ⊎_elim (λ q. not_safe (whose j i).0 q) (λ q. ⊎_elim (λ y. nowhere k y.1) (λ y. y.3) q)
                (safe-cases (centre x) x.device h l k s),
            λ q. inl (inl (drawn-more h l k d)),
          );
      safe = λ j s. ⊎_elim (λ q. inl q) (λ q. ⊎_elim (λ y. absurd (nowhere j y.1)) (λ y. absurd y.3) q)
          (safe-cases (centre x) x.device h l j s);
    })
    (record {
      rows = λ p j c r. absurd r;
      nets = λ j c r. absurd r;
      pairs = λ j c r. subst (λ y. ((p : ℕ) → HasRow (state_of h (centre x)) p y → ⊥) × In y (drawn h)) r (f.rows, d);
      draw = λ j i. absurd (nowhere j i);
    })
    (record { came = λ g p j c r. absurd r; went = λ g. inl g })
  where
    l : Line
    l = Changed e n (Moved (Pair a b k))

    whose : (j : Bytes) → In j (cond (nat_eq a x.device || nat_eq b x.device) (k ∷ []) [])
        → (a ≡ x.device ⊎ b ≡ x.device) × (k ≡ j)
    whose j i = (
      ⊎_elim (λ q. inl (eqb-true a x.device q)) (λ q. inr (eqb-true b x.device q))
          (or_cases (nat_eq a x.device) (nat_eq b x.device)
          (cond-in (nat_eq a x.device || nat_eq b x.device) k j i).0),
      (cond-in (nat_eq a x.device || nat_eq b x.device) k j i).1,
    )

    not_safe : a ≡ x.device ⊎ b ≡ x.device → Safe (centre x) x.device h k → ⊥
    not_safe q s = present-own x h k w (present q) (λ p r. absurd (f.rows p r)) s

pub net-step : (x : Case) (h : List Line) (e n : ℕ) (k : Bytes) (q : ℕ) → n ≡ centre x → (x.device ≡ centre x → ⊥)
    → Fresh x h k → In k (drawn h) → Whole x h → Whole x (h ++ Changed e n (Moved (Install k q)) ∷ [])
net-step x h e n k q c apart f d w = whole-step x h l w
    (record {
      terms = λ u i. absurd (nowhere u i);
      held = λ j i. absurd (apart (sym (eqb-true n x.device (cond-in (nat_eq n x.device) k j i).0) ∙ c));
      safe = λ j s. ⊎_elim (λ y. inl y) (λ y. ⊎_elim (λ z. absurd (nowhere j z.1)) (λ z. absurd z.3) y)
          (safe-cases (centre x) x.device h l j s);
    })
    (record {
      rows = λ p j m r. absurd r;
      nets = λ j m r. subst (λ y. ((p : ℕ) → HasRow (state_of h (centre x)) p y → ⊥) × (In y (drawn h) ⊎ InNets x y))
          r (f.rows, inl d);
      pairs = λ j m r. absurd r;
      draw = λ j i. absurd (nowhere j i);
    })
    (record { came = λ g p j m r. absurd r; went = λ g. inl g })
  where
    l : Line
    l = Changed e n (Moved (Install k q))

-- A device is admitted, and removed

live-bare : (x : Case) (h : List Line) (e n p : ℕ) → Bare x h (Changed e n (Moved (Live p)))
live-bare x h e n p =
    record {
      terms = λ t i. nowhere t i;
      held = λ j i. nowhere j i;
      rows = λ q j c r. r;
      nets = λ j c r. r;
      pairs = λ j c r. r;
    }

removed-bare : (x : Case) (h : List Line) (e n p : ℕ) → Bare x h (Changed e n (Moved (Removed p)))
removed-bare x h e n p =
    record {
      terms = λ t i. nowhere t i;
      held = λ j i. nowhere j i;
      rows = λ q j c r. r;
      nets = λ j c r. r;
      pairs = λ j c r. r;
    }

-- admitted: whatever was live before
pub live-kept : (x : Case) (h : List Line) (e n p : ℕ) → IsKept x h → IsLedger x h
    → IsKept x (h ++ Changed e n (Moved (Live p)) ∷ []) × IsLedger x (h ++ Changed e n (Moved (Live p)) ∷ [])
live-kept x h e n p k g = (
  kept-step x.tools (centre x) x.device (InNet x) (InGiven x) h (Changed e n (Moved (Live p))) k
      (bare-fits x h (Changed e n (Moved (Live p))) (live-bare x h e n p) (λ j i. nowhere j i)),
  ledger-step (centre x) x.schedule.draws (InNet x) (InNets x) h (Changed e n (Moved (Live p))) g
      (bare-books x h (Changed e n (Moved (Live p))) (live-bare x h e n p) (λ j i. nowhere j i)),
)

pub removed-step : (x : Case) (h : List Line) (e n p : ℕ) → (p ≡ x.device → NoLive (state_of h (centre x)) x.device)
    → Whole x h → Whole x (h ++ Changed e n (Moved (Removed p)) ∷ [])
removed-step x h e n p none w = whole-step x h (Changed e n (Moved (Removed p))) w
    (bare-fits x h (Changed e n (Moved (Removed p))) (removed-bare x h e n p) (λ j i. nowhere j i))
    (bare-books x h (Changed e n (Moved (Removed p))) (removed-bare x h e n p) (λ j i. nowhere j i))
    (record { came = λ g q j c r. absurd r; went = λ g. went (nat_eq p x.device) refl g })
  where
    went : (b : Bool) → nat_eq p x.device ≡ b
        → (cond b (record { gone = true; keys = (away x.device h).keys }) (away x.device h)).gone ≡ true
        → (away x.device h).gone ≡ true ⊎ NoLive (state_of h (centre x)) x.device
    went true q g = inr (none (eqb-true p x.device q))
    went false q g = inl g

-- Another node's own lines: they bring the centre nothing, and the device only what came to it.

pub record Comes (x : Case) (h : List Line) (k : Bytes) : Type 0 where
  pub safe : Safe (centre x) x.device h k → ⊥
  pub known : InNet x k → Known (centre x) h k ⊎ InGiven x k

given-more : (x : Case) (h : List Line) (l : Line) (k : Bytes) → Known (centre x) h k ⊎ InGiven x k
    → Known (centre x) (h ++ l ∷ []) k ⊎ InGiven x k
given-more x h l k (inl a) = inl (known-more h l (centre x) k a)
given-more x h l k (inr a) = inr a

pub comes-step : (x : Case) (h : List Line) (l : Line) → ((t : Term) → In t (terms_in l) → ⊥)
    → (speaker l ≡ centre x → ⊥) → ((k : Bytes) → In k (drawn_in l) → ⊥) → late_line x.device (away x.device h) l
    ≡ away x.device h
    → ((k : Bytes) → In k (ever_in (stations_of h) x.device l) → Comes x h k) → Whole x h → Whole x (h ++ l ∷ [])
comes-step x h l none other draws same comes w = whole-step x h l w
    (record {
      terms = λ t i. absurd (none t i);
      held = λ k i. (λ s. (comes k i).safe (back k s), λ n. given-more x h l k ((comes k i).known n));
      safe = λ k s. inl (back k s);
    })
    (record {
      rows = λ p k c r. absurd (other c);
      nets = λ k c r. absurd (other c);
      pairs = λ k c r. absurd (other c);
      draw = λ k i. absurd (draws k i);
    })
    (record { came = λ g p k c r. absurd (other c); went = λ g. inl (subst (λ a. a.gone ≡ true) same g) })
  where
    back : (k : Bytes) → Safe (centre x) x.device (h ++ l ∷ []) k → Safe (centre x) x.device h k
    back k s = ⊎_elim (λ a. a) (λ a. ⊎_elim (λ q. absurd (draws k q.1)) (λ q. absurd (other q.2)) a)
        (safe-cases (centre x) x.device h l k s)
