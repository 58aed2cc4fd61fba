-- What keeps a removed device out: the keys that are safe from it, and what each line may do to them.
use Rattle.std.proofs.Common.{◌≡◌, ℕ, zero, suc, ◌<◌, ◌+◌, Bool, true, false, cond, List, [], ◌∷◌, ◌++◌, length, slice_get, Option, Some, None, option_to_list, fold, flat_map, nat_eq, refl, sym, ap, ◌∙◌, subst, arith, ◌⊎◌, inl, inr, ⊎_elim}
use Rattle.std.proofs.lemmas.Bool.{false≢true, or_cases}
use Rattle.std.proofs.lemmas.List.Sums.{fold-append}
use Rattle.zb_model.specs.Data.{Bytes, Term, Draw, DropNet, DropLink, Install, Active, Row, Pair, Became, Live, Removed, Roll, Told, Untold, Moved}
use Rattle.zb_model.specs.Lines.{Line, GivenNet, GivenLink, Changed}
use Rattle.zb_model.specs.State.{NetKey, LinkKey, PairKey, NodeState, same_key}
use Rattle.zb_model.specs.Tools.{Tools}
use Rattle.zb_model.specs.Readings.{state_of, speaker, draw_line, draws_used, station_line, stations_of}
use Rattle.zb_model.specs.Secrets.{holds, with_key, carried, terms_in, terms_of, opened_by, a_round, rounds, exposed, ever_in, ever, ever_from, well_known}
use Rattle.zb_model.specs.Claims.{drawn_in}
use Rattle.law_run.proofs.Basics.{same_key-eq, append-nil', flat_map-append}
use Rattle.law_run.proofs.Judged.{In}
use Rattle.law_run.proofs.Exposed.{with-cases-by, ever-append}
use Rattle.law_run.proofs.LockoutDeeds.{HasRow, HasNet, HasPair}
use Rattle.law_run.proofs.ConfirmsLines.{in-append'}
use Rattle.law_run.proofs.LockoutRows.{in-left, in-right, OldLink, SameNet, RowOf, NetOf, PairOf, link-back, row-forth, net-back, net-forth, pair-back}

-- A device that is away, and the keys that are drawn meanwhile

pub record Away : Type 0 where
  pub gone : Bool
  pub keys : List Bytes

abbrev pub late_line : ℕ → Away → Line → Away
late_line d a (Changed e n (Moved (Live x))) = cond (nat_eq x d) (record { gone = false; keys = [] }) a
late_line d a (Changed e n (Moved (Removed x))) = cond (nat_eq x d) (record { gone = true; keys = a.keys }) a
late_line d a (Changed e n (Moved (Draw k))) = cond a.gone (record { gone = true; keys = k ∷ a.keys }) a
late_line d a _ = a

unfoldable pub away : ℕ → List Line → Away
away d h = fold (late_line d) (record { gone = false; keys = [] }) h

pub away-snoc : (d : ℕ) (h : List Line) (l : Line) → away d (h ++ l ∷ []) ≡ late_line d (away d h) l
unfolding away
away-snoc d h l = fold-append (late_line d) (record { gone = false; keys = [] }) h (l ∷ [])

abbrev NoneOk : Away → Type 0
NoneOk a = a.gone ≡ false → (k : Bytes) → In k a.keys → ⊥

none-line : (d : ℕ) (a : Away) (l : Line) → NoneOk a → NoneOk (late_line d a l)
unfolding In
none-line d a (Changed e n (Moved (Live x))) o = by-test (nat_eq x d)
  where
    by-test : (b : Bool) → NoneOk (cond b (record { gone = false; keys = [] }) a)
    by-test true = λ q k i. i
    by-test false = o
none-line d a (Changed e n (Moved (Removed x))) o = by-test (nat_eq x d)
  where
    by-test : (b : Bool) → NoneOk (cond b (record { gone = true; keys = a.keys }) a)
    by-test true = λ q k i. absurd (false≢true (sym q))
    by-test false = o
none-line d a (Changed e n (Moved (Draw k))) o = by-test a.gone
  where
    by-test : (b : Bool) → NoneOk (cond b (record { gone = true; keys = k ∷ a.keys }) a)
    by-test true = λ q j i. absurd (false≢true (sym q))
    by-test false = o
none-line d a _ o = o

late-back : (d : ℕ) (a : Away) (l : Line) (k : Bytes) → In k (late_line d a l).keys → In k a.keys ⊎ In k (drawn_in l)
unfolding In
late-back d a (Changed e n (Moved (Live x))) k i = by-test (nat_eq x d) i
  where
    by-test : (b : Bool) → In k (cond b (record { gone = false; keys = [] }) a).keys → In k a.keys ⊎ In k []
    by-test true i = absurd i
    by-test false i = inl i
late-back d a (Changed e n (Moved (Removed x))) k i = by-test (nat_eq x d) i
  where
    by-test : (b : Bool) → In k (cond b (record { gone = true; keys = a.keys }) a).keys → In k a.keys ⊎ In k []
    by-test true i = inl i
    by-test false i = inl i
late-back d a (Changed e n (Moved (Draw j))) k i = by-test a.gone i
  where
    by-test : (b : Bool) → In k (cond b (record { gone = true; keys = j ∷ a.keys }) a).keys → In k a.keys
        ⊎ In k (j ∷ [])
    by-test true (inl q) = inr (inl q)
    by-test true (inr i) = inl i
    by-test false i = inl i
late-back d a _ k i = inl i

-- What a line brings, by partner and key

abbrev pub LineRow : Line → ℕ → Bytes → Type 0
LineRow (Changed e n (Moved (Row q j t))) p k = (q ≡ p) × (j ≡ k)
LineRow (GivenLink n q j) p k = (q ≡ p) × (j ≡ k)
LineRow _ p k = ⊥

abbrev pub LineNet : Line → Bytes → Type 0
LineNet (Changed e n (Moved (Install j q))) k = j ≡ k
LineNet (GivenNet n j q) k = j ≡ k
LineNet _ k = ⊥

abbrev pub LinePair : Line → Bytes → Type 0
LinePair (Changed e n (Moved (Pair a b j))) k = j ≡ k
LinePair _ k = ⊥

row-line : (l : Line) (y : LinkKey) (p : ℕ) (k : Bytes) → RowOf l y → y.partner ≡ p → y.key ≡ k → LineRow l p k
row-line (Changed e n (Moved (Row q j t))) y p k r a b = (r.0 ∙ a, r.1 ∙ b)
row-line (GivenLink n q j) y p k r a b = (r.0 ∙ a, r.1 ∙ b)
row-line _ y p k r a b = r

net-line : (l : Line) (y : NetKey) (k : Bytes) → NetOf l y → y.key ≡ k → LineNet l k
net-line (Changed e n (Moved (Install j q))) y k r b = r ∙ b
net-line (GivenNet n j q) y k r b = r ∙ b
net-line _ y k r b = r

pair-line : (l : Line) (y : PairKey) (k : Bytes) → PairOf l y → y.key ≡ k → LinePair l k
pair-line (Changed e n (Moved (Pair u v j))) y k r b = r ∙ b
pair-line _ y k r b = r

row-apart-net : (l : Line) (p : ℕ) (k j : Bytes) → LineRow l p k → LineNet l j → ⊥
row-apart-net (Changed e n (Moved (Row q i t))) p k j r x = x
row-apart-net (GivenLink n q i) p k j r x = x
row-apart-net _ p k j r x = r

row-apart-pair : (l : Line) (p : ℕ) (k j : Bytes) → LineRow l p k → LinePair l j → ⊥
row-apart-pair (Changed e n (Moved (Row q i t))) p k j r x = x
row-apart-pair (GivenLink n q i) p k j r x = x
row-apart-pair _ p k j r x = r

line-one : (l : Line) (p q : ℕ) (k j : Bytes) → LineRow l p k → LineRow l q j → p ≡ q
line-one (Changed e n (Moved (Row o i t))) p q k j r x = sym r.0 ∙ x.0
line-one (GivenLink n o i) p q k j r x = sym r.0 ∙ x.0
line-one _ p q k j r x = absurd r

pub row-back : (h : List Line) (l : Line) (c p : ℕ) (k : Bytes) → HasRow (state_of (h ++ l ∷ []) c) p k
    → HasRow (state_of h c) p k ⊎ ((speaker l ≡ c) × LineRow l p k)
row-back h l c p k r = ⊎_elim (λ o. inl (old o)) (λ n. inr (n.0, row-line l r.row p k n.1 r.partner r.key))
    (link-back h l c r.row r.among)
  where
    old : OldLink (state_of h c).links r.row → HasRow (state_of h c) p k
    old o = record { row = o.row; among = o.among; partner = o.partner ∙ r.partner; key = o.key ∙ r.key }

pub has-net-back : (h : List Line) (l : Line) (c : ℕ) (k : Bytes) → HasNet (state_of (h ++ l ∷ []) c) k
    → HasNet (state_of h c) k ⊎ ((speaker l ≡ c) × LineNet l k)
has-net-back h l c k r = ⊎_elim (λ o. inl (old o)) (λ n. inr (n.0, net-line l r.row k n.1 r.key))
    (net-back h l c r.row r.among)
  where
    old : SameNet (state_of h c).nets r.row → HasNet (state_of h c) k
    old o = record { row = o.row; among = o.among; key = o.key ∙ r.key }

pub has-pair-back : (h : List Line) (l : Line) (c : ℕ) (k : Bytes) → HasPair (state_of (h ++ l ∷ []) c) k
    → HasPair (state_of h c) k ⊎ ((speaker l ≡ c) × LinePair l k)
has-pair-back h l c k r = ⊎_elim (λ i. inl (record { pair = r.pair; among = i; key = r.key }))
    (λ n. inr (n.0, pair-line l r.pair k n.1 r.key)) (pair-back h l c r.pair r.among)

-- Readings of one more line

pub terms-snoc : (h : List Line) (l : Line) → terms_of (h ++ l ∷ []) ≡ terms_of h ++ terms_in l
unfolding terms_of
terms-snoc h l = flat_map-append terms_in h (l ∷ []) ∙ ap (λ x. flat_map terms_in h ++ x) (append-nil' (terms_in l))

pub ever-snoc : (h : List Line) (d : ℕ) (l : Line) → ever (h ++ l ∷ []) d ≡ ever h d ++ ever_in (stations_of h) d l
unfolding ever stations_of
ever-snoc h d l = ever-append [] d h (l ∷ []) ∙ ap (λ x. ever_from [] d h ++ x)
    (append-nil' (ever_in (fold station_line [] h) d l))

abbrev pub drawn : List Line → List Bytes
drawn h = flat_map drawn_in h

pub drawn-snoc : (h : List Line) (l : Line) → drawn (h ++ l ∷ []) ≡ drawn h ++ drawn_in l
drawn-snoc h l = flat_map-append drawn_in h (l ∷ []) ∙ ap (λ x. flat_map drawn_in h ++ x) (append-nil' (drawn_in l))

pub used-snoc : (h : List Line) (l : Line) → draws_used (h ++ l ∷ []) ≡ draw_line (draws_used h) l
unfolding draws_used
used-snoc h l = fold-append draw_line 0 h (l ∷ [])

-- The safe keys: those drawn while the device is away, and the link keys of others. Nothing that the device ever held
-- opens them.

pub record Other (s : NodeState) (d : ℕ) (k : Bytes) : Type 0 where
  pub partner : ℕ
  pub not_it : partner ≡ d → ⊥
  pub row : HasRow s partner k

abbrev pub Safe : ℕ → ℕ → List Line → Bytes → Type 0
Safe c d h k = In k (away d h).keys ⊎ Other (state_of h c) d k

-- a key that the centre accounts for
abbrev pub Known : ℕ → List Line → Bytes → Type 0
Known c h k = In k (drawn h) ⊎ ((p : ℕ) × HasRow (state_of h c) p k) ⊎ HasNet (state_of h c) k

abbrev pub Unseen : Tools → ℕ → List Line → Bytes → Type 0
Unseen tools d h k = ((t : Term) → In t (terms_of h) → carried tools t ≡ Some k → ⊥) × (In k (ever h d) → ⊥)

-- The invariant of a device. Net: the keys of the network, over the whole run; Given: those that the device starts
-- with.
pub record Kept (tools : Tools) (c d : ℕ) (Net Given : Bytes → Type 0) (h : List Line) : Type 0 where
  pub closed : (t : Term) → In t (terms_of h) → (k : Bytes) → carried tools t ≡ Some k → Safe c d h k
      → Other (state_of h c) d t.base
  pub out : (k : Bytes) → In k (ever h d) → Safe c d h k → ⊥
  pub terms_known : (t : Term) → In t (terms_of h) → (k : Bytes) → carried tools t ≡ Some k → Net k → Known c h k
  pub ever_known : (k : Bytes) → In k (ever h d) → Net k → Known c h k ⊎ Given k
  pub none : NoneOk (away d h)
  pub late_drawn : (k : Bytes) → In k (away d h).keys → In k (drawn h)

-- what a line must meet
pub record Fits (tools : Tools) (c d : ℕ) (Net Given : Bytes → Type 0) (h : List Line) (l : Line) : Type 0 where
  pub terms : (t : Term) → In t (terms_in l) → (k : Bytes) → carried tools t ≡ Some k
      → (Safe c d (h ++ l ∷ []) k → Other (state_of (h ++ l ∷ []) c) d t.base) × (Net k → Known c (h ++ l ∷ []) k)
  pub held : (k : Bytes) → In k (ever_in (stations_of h) d l) → (Safe c d (h ++ l ∷ []) k → ⊥)
      × (Net k → Known c (h ++ l ∷ []) k ⊎ Given k)
  pub safe : (k : Bytes) → Safe c d (h ++ l ∷ []) k → Safe c d h k ⊎ Unseen tools d h k

pub other-more : (h : List Line) (l : Line) (c d : ℕ) (k : Bytes) → Other (state_of h c) d k
    → Other (state_of (h ++ l ∷ []) c) d k
other-more h l c d k o = record { partner = o.partner; not_it = o.not_it; row = row-forth h l c o.partner k o.row }

pub drawn-more : (h : List Line) (l : Line) (k : Bytes) → In k (drawn h) → In k (drawn (h ++ l ∷ []))
drawn-more h l k i = subst (λ x. In k x) (sym (drawn-snoc h l)) (in-left k (drawn h) (drawn_in l) i)

pub drawn-new : (h : List Line) (l : Line) (k : Bytes) → In k (drawn_in l) → In k (drawn (h ++ l ∷ []))
drawn-new h l k i = subst (λ x. In k x) (sym (drawn-snoc h l)) (in-right k (drawn h) (drawn_in l) i)

pub known-more : (h : List Line) (l : Line) (c : ℕ) (k : Bytes) → Known c h k → Known c (h ++ l ∷ []) k
known-more h l c k (inl i) = inl (drawn-more h l k i)
known-more h l c k (inr (inl r)) = inr (inl (r.0, row-forth h l c r.0 k r.1))
known-more h l c k (inr (inr n)) = inr (inr (net-forth h l c k n))

pub kept-step : (tools : Tools) (c d : ℕ) (Net Given : Bytes → Type 0) (h : List Line) (l : Line)
    → Kept tools c d Net Given h → Fits tools c d Net Given h l → Kept tools c d Net Given (h ++ l ∷ [])
kept-step tools c d Net Given h l k f = record {
  closed = λ t i j e s. ⊎_elim (λ a. old-term t a j e s) (λ a. (f.terms t a j e).0 s) (term-cases t i);
  out = λ j i s. ⊎_elim (λ a. ⊎_elim (λ b. k.out j a b) (λ u. u.1 a) (f.safe j s)) (λ a. (f.held j a).0 s)
      (ever-cases j i);
  terms_known = λ t i j e n. ⊎_elim (λ a. known-more h l c j (k.terms_known t a j e n)) (λ a. (f.terms t a j e).1 n)
      (term-cases t i);
  ever_known = λ j i n. ⊎_elim (λ a. ⊎_elim (λ b. inl (known-more h l c j b)) (λ b. inr b) (k.ever_known j a n))
      (λ a. (f.held j a).1 n) (ever-cases j i);
  none = subst NoneOk (sym (away-snoc d h l)) (none-line d (away d h) l k.none);
  late_drawn = λ j i. ⊎_elim (λ a. drawn-more h l j (k.late_drawn j a)) (λ a. drawn-new h l j a)
      (late-back d (away d h) l j (subst (λ a. In j a.keys) (away-snoc d h l) i));
}
  where
    term-cases : (t : Term) → In t (terms_of (h ++ l ∷ [])) → In t (terms_of h) ⊎ In t (terms_in l)
    term-cases t i = in-append' t (terms_of h) (terms_in l) (subst (λ x. In t x) (terms-snoc h l) i)

    ever-cases : (j : Bytes) → In j (ever (h ++ l ∷ []) d) → In j (ever h d) ⊎ In j (ever_in (stations_of h) d l)
    ever-cases j i = in-append' j (ever h d) (ever_in (stations_of h) d l) (subst (λ x. In j x) (ever-snoc h d l) i)

    old-term : (t : Term) → In t (terms_of h) → (j : Bytes) → carried tools t ≡ Some j → Safe c d (h ++ l ∷ []) j
        → Other (state_of (h ++ l ∷ []) c) d t.base
    old-term t a j e s = ⊎_elim (λ b. other-more h l c d t.base (k.closed t a j e b)) (λ u. absurd (u.0 t a e))
        (f.safe j s)

-- what becomes safe by a line: a draw, or another's row
pub safe-cases : (c d : ℕ) (h : List Line) (l : Line) (k : Bytes) → Safe c d (h ++ l ∷ []) k → Safe c d h k
    ⊎ ((In k (late_line d (away d h) l).keys × In k (drawn_in l))
    ⊎ ((p : ℕ) × (p ≡ d → ⊥) × (speaker l ≡ c) × LineRow l p k))
safe-cases c d h l k (inl i) = late (subst (λ a. In k a.keys) (away-snoc d h l) i)
  where
    late : In k (late_line d (away d h) l).keys → Safe c d h k
        ⊎ ((In k (late_line d (away d h) l).keys × In k (drawn_in l))
        ⊎ ((p : ℕ) × (p ≡ d → ⊥) × (speaker l ≡ c) × LineRow l p k))
    late j = ⊎_elim (λ a. inl (inl a)) (λ a. inr (inl (j, a))) (late-back d (away d h) l k j)
safe-cases c d h l k (inr o) =
    ⊎_elim (λ r. inl (inr (record { partner = o.partner; not_it = o.not_it; row = r })))
    (λ r. inr (inr (o.partner, o.not_it, r.0, r.1))) (row-back h l c o.partner k o.row)

-- The rows of the centre: no key serves two, each is known, and none is the centre's own or the well-known one.
pub record Ledger (c : ℕ) (draws : List Bytes) (Net NetGiven : Bytes → Type 0) (h : List Line) : Type 0 where
  pub one : (p q : ℕ) (k : Bytes) → HasRow (state_of h c) p k → HasRow (state_of h c) q k → p ≡ q
  pub net : (p : ℕ) (k : Bytes) → HasRow (state_of h c) p k → HasNet (state_of h c) k → ⊥
  pub pair : (p : ℕ) (k : Bytes) → HasRow (state_of h c) p k → HasPair (state_of h c) k → ⊥
  pub pair_drawn : (k : Bytes) → HasPair (state_of h c) k → In k (drawn h)
  pub net_known : (k : Bytes) → HasNet (state_of h c) k → In k (drawn h) ⊎ NetGiven k
  pub centre : (p : ℕ) (k : Bytes) → HasRow (state_of h c) p k → p ≡ c → ⊥
  pub well : (p : ℕ) (k : Bytes) → HasRow (state_of h c) p k → k ≡ well_known → ⊥
  pub row_net : (p : ℕ) (k : Bytes) → HasRow (state_of h c) p k → Net k
  pub drawn_net : (k : Bytes) → In k (drawn h) → Net k
  pub drawn_from : (k : Bytes) → In k (drawn h) → (i : ℕ) × (i < draws_used h) × (slice_get draws i ≡ Some k)

pub record RowFits (c : ℕ) (Net : Bytes → Type 0) (s : NodeState) (p : ℕ) (k : Bytes) : Type 0 where
  pub one : (q : ℕ) → HasRow s q k → q ≡ p
  pub net : HasNet s k → ⊥
  pub pair : HasPair s k → ⊥
  pub centre : p ≡ c → ⊥
  pub well : k ≡ well_known → ⊥
  pub known : Net k

pub record LedgerFits (c : ℕ) (draws : List Bytes) (Net NetGiven : Bytes → Type 0) (h : List Line) (l : Line) : Type 0
  where
    pub rows : (p : ℕ) (k : Bytes) → speaker l ≡ c → LineRow l p k → RowFits c Net (state_of h c) p k
    pub nets : (k : Bytes) → speaker l ≡ c → LineNet l k → ((p : ℕ) → HasRow (state_of h c) p k → ⊥)
        × (In k (drawn h) ⊎ NetGiven k)
    pub pairs : (k : Bytes) → speaker l ≡ c → LinePair l k → ((p : ℕ) → HasRow (state_of h c) p k → ⊥) × In k (drawn h)
    pub draw : (k : Bytes) → In k (drawn_in l) → Net k × (slice_get draws (draws_used h) ≡ Some k)

pub used-less : (n : ℕ) (l : Line) → n ≡ draw_line n l ⊎ ((n + 1) ≡ draw_line n l)
used-less n (Changed e m (Moved (Draw k))) = inr refl
used-less n (Changed e m (Moved (DropNet k))) = inl refl
used-less n (Changed e m (Moved (DropLink p k))) = inl refl
used-less n (Changed e m (Moved (Install k q))) = inl refl
used-less n (Changed e m (Moved (Active k))) = inl refl
used-less n (Changed e m (Moved (Row p k t))) = inl refl
used-less n (Changed e m (Moved (Pair a b k))) = inl refl
used-less n (Changed e m (Moved (Became g))) = inl refl
used-less n (Changed e m (Moved (Live d))) = inl refl
used-less n (Changed e m (Moved (Removed d))) = inl refl
used-less n (Changed e m (Moved (Roll b))) = inl refl
used-less n (Changed e m (Moved (Told d))) = inl refl
used-less n (Changed e m (Moved (Untold d))) = inl refl
used-less n _ = inl refl

less-used : (i n : ℕ) (l : Line) → i < n → i < draw_line n l
less-used i n l lt = ⊎_elim (λ e. subst (λ m. i < m) e lt) (λ e. subst (λ m. i < m) e (omega (arith, lt)))
    (used-less n l)

pub drawn-used : (n : ℕ) (l : Line) (k : Bytes) → In k (drawn_in l) → n < draw_line n l
unfolding In
drawn-used n (Changed e m (Moved (Draw j))) k i = omega arith
drawn-used n _ k i = absurd i

pub ledger-step : (c : ℕ) (draws : List Bytes) (Net NetGiven : Bytes → Type 0) (h : List Line) (l : Line)
    → Ledger c draws Net NetGiven h → LedgerFits c draws Net NetGiven h l → Ledger c draws Net NetGiven (h ++ l ∷ [])
ledger-step c draws Net NetGiven h l g f = record {
  one = λ p q k a b. ⊎_elim
      (λ x. ⊎_elim (λ y. g.one p q k x y) (λ y. (f.rows q k y.0 y.1).one p x) (row-back h l c q k b))
      (λ x. ⊎_elim (λ y. sym ((f.rows p k x.0 x.1).one q y)) (λ y. line-one l p q k k x.1 y.1) (row-back h l c q k b))
      (row-back h l c p k a);
  net = λ p k a b. ⊎_elim (λ x. ⊎_elim (λ y. g.net p k x y) (λ y. (f.nets k y.0 y.1).0 p x) (has-net-back h l c k b))
      (λ x. ⊎_elim (λ y. (f.rows p k x.0 x.1).net y) (λ y. row-apart-net l p k k x.1 y.1) (has-net-back h l c k b))
      (row-back h l c p k a);
  pair = λ p k a b. ⊎_elim
      (λ x. ⊎_elim (λ y. g.pair p k x y) (λ y. (f.pairs k y.0 y.1).0 p x) (has-pair-back h l c k b))
      (λ x. ⊎_elim (λ y. (f.rows p k x.0 x.1).pair y) (λ y. row-apart-pair l p k k x.1 y.1) (has-pair-back h l c k b))
      (row-back h l c p k a);
  pair_drawn = λ k a. ⊎_elim (λ x. drawn-more h l k (g.pair_drawn k x)) (λ x. drawn-more h l k (f.pairs k x.0 x.1).1)
      (has-pair-back h l c k a);
  net_known = λ k a. ⊎_elim (λ x. more k (g.net_known k x)) (λ x. more k (f.nets k x.0 x.1).1)
      (has-net-back h l c k a);
  centre = λ p k a. ⊎_elim (λ x. g.centre p k x) (λ x. (f.rows p k x.0 x.1).centre) (row-back h l c p k a);
  well = λ p k a. ⊎_elim (λ x. g.well p k x) (λ x. (f.rows p k x.0 x.1).well) (row-back h l c p k a);
  row_net = λ p k a. ⊎_elim (λ x. g.row_net p k x) (λ x. (f.rows p k x.0 x.1).known) (row-back h l c p k a);
  drawn_net = λ k i. ⊎_elim (λ x. g.drawn_net k x) (λ x. (f.draw k x).0) (drawn-cases k i);
  drawn_from = λ k i. ⊎_elim (λ x. later k (g.drawn_from k x))
      (λ x. (
        draws_used h,
        subst (λ m. draws_used h < m) (sym (used-snoc h l)) (drawn-used (draws_used h) l k x),
        (f.draw k x).1,
      )) (drawn-cases k i);
}
  where
    drawn-cases : (k : Bytes) → In k (drawn (h ++ l ∷ [])) → In k (drawn h) ⊎ In k (drawn_in l)
    drawn-cases k i = in-append' k (drawn h) (drawn_in l) (subst (λ x. In k x) (drawn-snoc h l) i)

    more : (k : Bytes) → In k (drawn h) ⊎ NetGiven k → In k (drawn (h ++ l ∷ [])) ⊎ NetGiven k
    more k (inl i) = inl (drawn-more h l k i)
    more k (inr n) = inr n

    later : (k : Bytes) → ((i : ℕ) × (i < draws_used h) × (slice_get draws i ≡ Some k)) → (i : ℕ)
        × (i < draws_used (h ++ l ∷ [])) × (slice_get draws i ≡ Some k)
    later k d = (d.0, subst (λ m. d.0 < m) (sym (used-snoc h l)) (less-used d.0 (draws_used h) l d.1), d.2)

-- While a device is away, it has no live row.
abbrev pub NoLive : NodeState → ℕ → Type 0
NoLive s d = (r : LinkKey) → In r s.links → r.live ≡ true → r.partner ≡ d → ⊥

abbrev pub Dead : ℕ → ℕ → List Line → Type 0
Dead c d h = (away d h).gone ≡ true → NoLive (state_of h c) d

pub record DeadFits (c d : ℕ) (h : List Line) (l : Line) : Type 0 where
  pub came : (late_line d (away d h) l).gone ≡ true → (p : ℕ) (k : Bytes) → speaker l ≡ c → LineRow l p k → p ≡ d → ⊥
  pub went : (late_line d (away d h) l).gone ≡ true → (away d h).gone ≡ true ⊎ NoLive (state_of h c) d

pub dead-step : (c d : ℕ) (h : List Line) (l : Line) → Dead c d h → DeadFits c d h l → Dead c d (h ++ l ∷ [])
dead-step c d h l dead f gone r i live partner =
    ⊎_elim (λ o. old o.row o.among (o.live live) (o.partner ∙ partner))
    (λ n. f.came gone' r.partner r.key n.0 (row-line l r r.partner r.key n.1 refl refl) partner)
    (link-back h l c r i)
  where
    gone' : (late_line d (away d h) l).gone ≡ true
    gone' = subst (λ a. a.gone ≡ true) (away-snoc d h l) gone

    old : NoLive (state_of h c) d
    old = ⊎_elim (λ g. dead g) (λ n. n) (f.went gone')

-- No safe key becomes known

pub holds-in : (xs : List Bytes) (k : Bytes) → holds xs k ≡ true → In k xs
unfolding In
holds-in [] k e = absurd (false≢true e)
holds-in (x ∷ xs) k e = ⊎_elim (λ a. inl (sym (same_key-eq k x a))) (λ a. inr (holds-in xs k a))
    (or_cases (same_key k x) (holds xs k) e)

abbrev Free : (Bytes → Type 0) → List Bytes → Type 0
Free S keys = (k : Bytes) → holds keys k ≡ true → S k → ⊥

abbrev pub Closed : Tools → (Bytes → Type 0) → List Term → Type 0
Closed tools S terms = (t : Term) → In t terms → (k : Bytes) → carried tools t ≡ Some k → S k → S t.base

opened-free : (tools : Tools) (S : Bytes → Type 0) (keys : List Bytes) (t : Term)
    → ((k : Bytes) → carried tools t ≡ Some k → S k → S t.base) → Free S keys → Free S (opened_by tools keys t)
opened-free tools S keys t closed f = by-base (holds keys t.base) refl (carried tools t) refl
  where
    by-base : (b : Bool) → holds keys t.base ≡ b → (o : Option Bytes) → carried tools t ≡ o
        → Free S (cond b (fold with_key keys (option_to_list o)) keys)
    by-base false e o q k i s = f k i s
    by-base true e None q k i s = f k i s
    by-base true e (Some x) q k i s = ⊎_elim (λ a. f k a s) (λ a. f t.base e (closed x q (subst S a s)))
        (with-cases-by (holds keys x) keys x k i)

round-free : (tools : Tools) (S : Bytes → Type 0) (terms : List Term) (keys : List Bytes) → Closed tools S terms
    → Free S keys → Free S (fold (opened_by tools) keys terms)
unfolding In
round-free tools S [] keys c f = f
round-free tools S (t ∷ ts) keys c f = round-free tools S ts (opened_by tools keys t) (λ u i. c u (inr i))
    (opened-free tools S keys t (c t (inl refl)) f)

rounds-free : (n : ℕ) (tools : Tools) (S : Bytes → Type 0) (terms : List Term) (keys : List Bytes)
    → Closed tools S terms → Free S keys → Free S (rounds n tools terms keys)
unfolding rounds a_round
rounds-free zero tools S terms keys c f = f
rounds-free (suc n) tools S terms keys c f = rounds-free n tools S terms (a_round tools terms keys) c
    (round-free tools S terms keys c f)

pub exposed-free : (tools : Tools) (S : Bytes → Type 0) (h : List Line) (from : List Bytes)
    → Closed tools S (terms_of h) → Free S from → Free S (exposed tools h from)
unfolding exposed
exposed-free tools S h from c f = rounds-free (length h) tools S (terms_of h) from c f
