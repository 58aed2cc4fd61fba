-- What verification finds: an accepted term's counter isn't below its floor, in the row of its base key.
use Rattle.std.proofs.Common.{◌≡◌, ℕ, ◌<◌, ◌≤◌, Bool, true, false, cond, List, [], ◌∷◌, ◌++◌, filter, reverse, Option, Some, None, option_to_list, find, nat_eq, nat_lt, nat_le, refl, sym, ◌∙◌, subst, eqb-true, ltb-false, leb-false, ◌⊎◌, inl, inr, ⊎_elim}
use Rattle.std.proofs.lemmas.Bool.{and_parts}
use Rattle.std.specs.List.{AllByRecursion}
use mathlib.Core.List.{reverse_aux}
use Rattle.zb_model.specs.Data.{Bytes, Layer, Nwk, Aps, Term, Place, Reason, Task, Received}
use Rattle.zb_model.specs.State.{greatest_counter, SenderFloor, NetKey, LinkKey, NodeState, is_link, is_live_of, sender_floor, floor_of_sender, usable_of, usable_nets, live_nets, may_use}
use Rattle.zb_model.specs.Tools.{Tools, NwkShown, NwkAuxiliary, ApsShown, ApsAuxiliary, CommandShown, Known, Unknown, Broken, LeaveShown, Leave, Other, NoCommand}
use Rattle.law_run.specs.Opening.{Opens, shown_source}
use Rattle.zb_model.specs.Rules.{Setting, Plan, Does}
use Rattle.zb_model.specs.Judging.{Verdict, Not, Good, reject, need, judge_net, Carrier, carrier, judge_security, judge_nwk, payload_of, candidates, opens_with, chosen, chosen_row, aps_source, Unsealed, judge_aps}
use Rattle.zb_model.specs.Answer.{comes_to, stopped_at, nwk_command, aps_command, clear_part, sealed_part, by_security, aps_part, net_part, received_as, plan_of}
use Rattle.law_run.proofs.Finds.{IfOf, Finds, finds-some}
use Rattle.law_run.proofs.Nets.{Holds, On, at_key}
use Rattle.law_run.proofs.FloorRows.{Sorted, NotStale, of_sender}
use Rattle.law_run.proofs.Sound.{net_test, link_test, Sound}

-- Elements of lists

unfoldable pub In : {X : Type 0} → X → List X → Type 0
In x [] = ⊥
In x (y ∷ ys) = (y ≡ x) ⊎ In x ys

in-filter-cons : {X : Type 0} (x y : X) (b : Bool) (ys zs : List X) → (In x zs → In x ys) → In x (cond b (y ∷ zs) zs)
    → In x (y ∷ ys)
unfolding In
in-filter-cons x y true ys zs k (inl e) = inl e
in-filter-cons x y true ys zs k (inr i) = inr (k i)
in-filter-cons x y false ys zs k i = inr (k i)

pub in-filter : {X : Type 0} (test : X → Bool) (x : X) (xs : List X) → In x (filter test xs) → In x xs
unfolding In
in-filter test x [] i = i
in-filter test x (y ∷ ys) i = in-filter-cons x y (test y) ys (filter test ys) (in-filter test x ys) i

in-aux : {X : Type 0} (x : X) (xs ys : List X) → In x (reverse_aux xs ys) → In x xs ⊎ In x ys
unfolding In
in-aux x [] ys i = inr i
in-aux x (z ∷ xs) ys i = ⊎_elim (λ j. inl (inr j)) (λ j. ⊎_elim (λ e. inl (inl e)) (λ k. inr k) j)
    (in-aux x xs (z ∷ ys) i)

pub nowhere : {X : Type 0} (x : X) → In x [] → ⊥
unfolding In
nowhere x i = i

pub in-reverse : {X : Type 0} (x : X) (xs : List X) → In x (reverse xs) → In x xs
in-reverse x xs i = ⊎_elim (λ j. j) (λ j. absurd (nowhere x j)) (in-aux x xs [] i)

-- what is found is an element and passes the test
abbrev FoundIn : {X : Type 0} → (X → Bool) → List X → Option X → Type 0
FoundIn test xs None = Unit {0}
FoundIn test xs (Some x) = In x xs × (test x ≡ true)

in-more : {X : Type 0} (test : X → Bool) (y : X) (ys : List X) (o : Option X) → FoundIn test ys o
    → FoundIn test (y ∷ ys) o
unfolding In
in-more test y ys None f = tt
in-more test y ys (Some x) f = (inr f.0, f.1)

in-first : {X : Type 0} (test : X → Bool) (y : X) (ys : List X) (b : Bool) (o : Option X) → test y ≡ b
    → FoundIn test (y ∷ ys) o → FoundIn test (y ∷ ys) (cond b (Some y) o)
unfolding In
in-first test y ys true o e f = (inl refl, e)
in-first test y ys false o e f = f

found-in : {X : Type 0} (test : X → Bool) (xs : List X) → FoundIn test xs (find test xs)
found-in test [] = tt
found-in test (y ∷ ys) = in-first test y ys (test y) (find test ys) refl
    (in-more test y ys (find test ys) (found-in test ys))

pub found-element : {X : Type 0} (test : X → Bool) (xs : List X) (x : X) → find test xs ≡ Some x → In x xs
    × (test x ≡ true)
found-element test xs x e = subst (λ o. FoundIn test xs o) e (found-in test xs)

pub all-in : {X : Type 0} (P : X → Type 0) (xs : List X) → AllByRecursion P xs → (x : X) → In x xs → P x
unfolding In
all-in P [] a x i = absurd i
all-in P (y ∷ ys) a x (inl e) = subst P e a.0
all-in P (y ∷ ys) a x (inr i) = all-in P ys a.1 x i

-- What a verdict finds

abbrev pub OnGood : {A : Type 0} → (A → Type 0) → Verdict A → Type 0
OnGood P (Not place reason) = Unit {0}
OnGood P (Good it) = P it

pub reject-good : {A : Type 0} (P : A → Type 0) (bad : Bool) (place : Place) (reason : Reason) (rest : Verdict A)
    → (bad ≡ false → OnGood P rest) → OnGood P (reject bad place reason rest)
unfolding reject
reject-good P true place reason rest k = tt
reject-good P false place reason rest k = k refl

pub need-good : {A B : Type 0} (P : B → Type 0) (o : Option A) (place : Place) (reason : Reason)
    (rest : A → Verdict B) → ((a : A) → o ≡ Some a → OnGood P (rest a)) → OnGood P (need o place reason rest)
unfolding need
need-good P None place reason rest k = tt
need-good P (Some a) place reason rest k = k a refl

-- An accepted term before its floor is stored: a row has its base key, and its counter isn't stale.
abbrev pub RowPre : ℕ → ℕ → NetKey → Type 0
RowPre c source r = Sorted r.floors × IfOf (NotStale c) (find (of_sender source) r.floors)

abbrev pub LinkPre : ℕ → LinkKey → Type 0
LinkPre c r = r.kept ≤ c

unfoldable pub PreAt : Layer → ℕ → Bytes → ℕ → NodeState → Type 0
PreAt Nwk c base source s = On (RowPre c source) base s.nets
PreAt Aps c base source s = Finds (LinkPre c) (is_link source base) s.links

-- the base key of a NWK term is a live network key of the node
unfoldable pub LiveAt : Layer → Term → NodeState → Type 0
LiveAt Nwk t s = (r : NetKey) × In r (live_nets s) × (r.key ≡ t.base)
LiveAt Aps t s = Unit {0}

pub record Judged (layer : Layer) (s : NodeState) (t : Term) : Type 0 where
  pub live : LiveAt layer t s
  pub at : t.layer ≡ layer
  pub small : t.counter < greatest_counter
  pub pre : PreAt layer t.counter t.base t.source s

-- the NWK layer

usable-in : (s : NodeState) (b : Bool) (r : NetKey) → In r (cond b (live_nets s) []) → In r s.nets
usable-in s true r i = in-filter (λ (r : NetKey). r.live) r s.nets i
usable-in s false r i = absurd (nowhere r i)

usable-live : (s : NodeState) (b : Bool) (r : NetKey) → In r (cond b (live_nets s) []) → In r (live_nets s)
usable-live s true r i = i
usable-live s false r i = absurd (nowhere r i)

live-row : (s : NodeState) (q : ℕ) (r : NetKey) → usable_of s q ≡ Some r → In r (live_nets s)
unfolding usable_of usable_nets
live-row s q r e =
    usable-live s (may_use s) r
    (in-reverse r (cond (may_use s) (live_nets s) [])
    (found-element (λ (r : NetKey). nat_eq r.sequence q) (reverse (cond (may_use s) (live_nets s) [])) r e).0)

pub usable-row : (s : NodeState) (q : ℕ) (r : NetKey) → usable_of s q ≡ Some r → In r s.nets
unfolding usable_of usable_nets
usable-row s q r e =
    usable-in s (may_use s) r
    (in-reverse r (cond (may_use s) (live_nets s) [])
    (found-element (λ (r : NetKey). nat_eq r.sequence q) (reverse (cond (may_use s) (live_nets s) [])) r e).0)

not-stale : (c source : ℕ) (o : Option SenderFloor) → nat_lt c (floor_of_sender source o).kept ≡ false
    → IfOf (NotStale c) o
unfolding IfOf
not-stale c source None e = tt
not-stale c source (Some f) e = ltb-false c f.kept e

holds-some : (P : NetKey → Type 0) (o : Option NetKey) (r : NetKey) → o ≡ Some r → P r → Holds P o
unfolding Holds
holds-some P o r e p = subst (λ x. Holds P x) (sym e) p

row-pre : (s : NodeState) → Sound s → (r : NetKey) → In r s.nets → (c source : ℕ)
    → nat_lt c (sender_floor source r).kept ≡ false → On (RowPre c source) r.key s.nets
unfolding sender_floor
row-pre s o r i c source e =
    holds-some (RowPre c source) (find (at_key r.key) s.nets) r
    (all-in (λ x. find (net_test x) s.nets ≡ Some x) s.nets o.nets r i) (
      all-in (λ (x : NetKey). Sorted x.floors) s.nets o.floors r i,
      not-stale c source (find (of_sender source) r.floors) e,
    )

net-term : (tools : Tools) → Opens tools → (s : NodeState) → Sound s
    → (bytes : Bytes) (f : NwkShown) (aux : NwkAuxiliary) → tools.read_nwk bytes ≡ Some f → f.auxiliary ≡ Some aux
    → (r : NetKey) → In r s.nets → In r (live_nets s) → nat_le greatest_counter aux.counter ≡ false
    → nat_lt aux.counter (sender_floor aux.source r).kept ≡ false → (t : Term) → tools.open_nwk bytes r.key
    ≡ Some t → Judged Nwk s t
unfolding PreAt LiveAt
net-term tools opens s o bytes f aux read shown r i alive most-ok fresh t opened = record {
  live = (r, alive, sym facts.1);
  at = facts.0;
  small = subst (λ c. c < greatest_counter) (sym facts.3) (leb-false greatest_counter aux.counter most-ok);
  pre = subst (λ c. On (RowPre c t.source) t.base s.nets) (sym facts.3)
      (subst (λ n. On (RowPre aux.counter n) t.base s.nets) (sym facts.2)
      (subst (λ k. On (RowPre aux.counter aux.source) k s.nets) (sym facts.1)
      (row-pre s o r i aux.counter aux.source fresh)));
}
  where
    facts : (t.layer ≡ Nwk) × (t.base ≡ r.key) × (t.source ≡ aux.source) × (t.counter ≡ aux.counter)
    facts = opens.nwk bytes r.key f aux t read shown opened

pub net-good : (tools : Tools) → Opens tools → (c : Setting) (s : NodeState) → Sound s
    → (bytes : Bytes) (f : NwkShown) (aux : NwkAuxiliary) → tools.read_nwk bytes ≡ Some f → f.auxiliary ≡ Some aux
    → OnGood (Judged Nwk s) (judge_net tools c s bytes aux)
unfolding judge_net
net-good tools opens c s o bytes f aux read shown =
    need-good (Judged Nwk s) (usable_of s aux.sequence) _ _ _ (λ row found.
    reject-good (Judged Nwk s) (nat_le greatest_counter aux.counter) _ _ _ (λ a.
    reject-good (Judged Nwk s) (nat_lt aux.counter (sender_floor aux.source row).kept) _ _ _ (λ b.
    need-good (Judged Nwk s) (tools.open_nwk bytes row.key) _ _ _ (λ t opened.
    reject-good (Judged Nwk s) _ _ _ _ (λ x.
    reject-good (Judged Nwk s) _ _ _ _ (λ y.
    reject-good (Judged Nwk s) _ _ _ _ (λ z.
    net-term tools opens s o bytes f aux read shown row (usable-row s aux.sequence row found)
    (live-row s aux.sequence row found) a b t opened)))))))

-- a carrier: its term is verified
abbrev pub IfTerm : NodeState → Option Term → Type 0
IfTerm s None = Unit {0}
IfTerm s (Some t) = Judged Nwk s t

carrier-good : (s : NodeState) (f : NwkShown) (v : Verdict Term) → OnGood (Judged Nwk s) v
    → OnGood (λ (k : Carrier). IfTerm s k.term) (carrier f v)
carrier-good s f (Not place reason) g = tt
carrier-good s f (Good t) g = g

security-good : (tools : Tools) → Opens tools → (c : Setting) (s : NodeState) → Sound s
    → (bytes : Bytes) (f : NwkShown) (x : Option NwkAuxiliary) → tools.read_nwk bytes ≡ Some f → f.auxiliary ≡ x
    → OnGood (λ (k : Carrier). IfTerm s k.term) (judge_security tools c s bytes f x)
security-good tools opens c s o bytes f None read shown = reject-good (λ (k : Carrier). IfTerm s k.term) _ _ _ _
    (λ e. tt)
security-good tools opens c s o bytes f (Some aux) read shown = carrier-good s f (judge_net tools c s bytes aux)
    (net-good tools opens c s o bytes f aux read shown)

pub nwk-good : (tools : Tools) → Opens tools → (c : Setting) (s : NodeState) → Sound s → (bytes : Bytes)
    → OnGood (λ (k : Carrier). IfTerm s k.term) (judge_nwk tools c s bytes)
unfolding judge_nwk
nwk-good tools opens c s o bytes =
    need-good (λ (k : Carrier). IfTerm s k.term) (tools.read_nwk bytes) _ _ _ (λ f read.
    reject-good (λ (k : Carrier). IfTerm s k.term) _ _ _ _ (λ a.
    security-good tools opens c s o bytes f f.auxiliary read refl))

-- the APS part

chosen-in : (o : Option LinkKey) (rows : List LinkKey) (r : LinkKey) → ((x : LinkKey) → o ≡ Some x → In x rows)
    → chosen o rows ≡ Some r → In r rows
unfolding In
chosen-in (Some x) rows r k e = subst (λ o. InOf rows o) e (k x refl)
  where
    InOf : List LinkKey → Option LinkKey → Type 0
    InOf rows None = Unit {0}
    InOf rows (Some y) = In y rows
chosen-in None [] r k e = absurd (none r e)
  where
    Is : Option LinkKey → Type 0
    Is None = Unit {0}
    Is (Some y) = ⊥

    none : (r : LinkKey) → None ≡ Some r → ⊥
    none r e = subst Is e tt
chosen-in None (x ∷ rows) r k e = inl (same e)
  where
    Same : Option LinkKey → Type 0
    Same None = Unit {0}
    Same (Some y) = x ≡ y

    same : Some x ≡ Some r → x ≡ r
    same e = subst Same e refl

candidate-in : (s : NodeState) (source : ℕ) (r : LinkKey) → In r (candidates s source) → In r s.links
unfolding candidates
candidate-in s source r i = in-reverse r s.links (in-filter (is_live_of source) r (reverse s.links) i)

candidate-of : (s : NodeState) (source : ℕ) (r : LinkKey) → In r (candidates s source) → r.partner ≡ source
unfolding candidates
candidate-of s source r i =
    eqb-true r.partner source
    (and_parts r.live (nat_eq r.partner source) (passes (is_live_of source) r (reverse s.links) i)).1
  where
    passes : (test : LinkKey → Bool) (x : LinkKey) (xs : List LinkKey) → In x (filter test xs) → test x ≡ true
    passes test x xs i = all-in (λ y. test y ≡ true) (filter test xs) (kept test xs) x i
      where
        kept : (test : LinkKey → Bool) (xs : List LinkKey) → AllByRecursion (λ y. test y ≡ true) (filter test xs)
        kept test [] = tt
        kept test (y ∷ ys) = more (test y) refl (kept test ys)
          where
            more : (b : Bool) → test y ≡ b → AllByRecursion (λ y. test y ≡ true) (filter test ys)
                → AllByRecursion (λ y. test y ≡ true) (cond b (y ∷ filter test ys) (filter test ys))
            more true e r = (e, r)
            more false e r = r

SameNumber : ℕ → Option ℕ → Type 0
SameNumber n None = Unit {0}
SameNumber n (Some m) = n ≡ m

some-same : (n m : ℕ) → Some n ≡ Some m → n ≡ m
unfolding SameNumber
some-same n m e = subst (SameNumber n) e refl

shown-by : (c : Setting) (f : NwkShown) (label : Rattle.zb_model.specs.Data.Label) (counter : ℕ) (x : Option ℕ)
    (source : ℕ) → aps_source c f (record { label = label; counter = counter; source = x }) ≡ Some source
    → shown_source source x ≡ source
shown-by c f label counter None source e = refl
shown-by c f label counter (Some n) source e = some-same n source e

aps-shown : (c : Setting) (f : NwkShown) (aux : ApsAuxiliary) (source : ℕ) → aps_source c f aux ≡ Some source
    → shown_source source aux.source ≡ source
aps-shown c f aux source e = shown-by c f aux.label aux.counter aux.source source e

chosen-row-in : (tools : Tools) (bytes : Bytes) (source : ℕ) (rows : List LinkKey) (r : LinkKey)
    → chosen_row tools bytes source rows ≡ Some r → In r rows
chosen-row-in tools bytes source rows r e =
    chosen-in (find (opens_with tools bytes source) rows) rows r
    (λ x found. (found-element (opens_with tools bytes source) rows x found).0) e

link-pre : (s : NodeState) → Sound s → (r : LinkKey) (source : ℕ) → In r (candidates s source) → (c : ℕ)
    → nat_lt c r.kept ≡ false → Finds (LinkPre c) (is_link source r.key) s.links
link-pre s o r source i c e =
    subst (λ n. Finds (LinkPre c) (is_link n r.key) s.links) (candidate-of s source r i)
    (finds-some (LinkPre c) (is_link r.partner r.key) s.links r
    (all-in (λ x. find (link_test x) s.links ≡ Some x) s.links o.links r (candidate-in s source r i))
    (ltb-false c r.kept e))

aps-term : (tools : Tools) → Opens tools → (c : Setting) (s : NodeState) → Sound s
    → (f : NwkShown) (bytes : Bytes) (a : ApsShown) (aux : ApsAuxiliary) → tools.read_aps bytes ≡ Some a → a.auxiliary
    ≡ Some aux
    → (source : ℕ) → aps_source c f aux ≡ Some source → (r : LinkKey) → In r (candidates s source)
    → nat_le greatest_counter aux.counter ≡ false → nat_lt aux.counter r.kept ≡ false → (t : Term)
    → tools.open_aps bytes r.key source ≡ Some t → Judged Aps s t
unfolding PreAt LiveAt
aps-term tools opens c s o f bytes a aux read shown source from r i most-ok fresh t opened = record {
  live = tt;
  at = facts.0;
  small = subst (λ c. c < greatest_counter) (sym facts.3) (leb-false greatest_counter aux.counter most-ok);
  pre = subst (λ c. Finds (LinkPre c) (is_link t.source t.base) s.links) (sym facts.3)
      (subst (λ n. Finds (LinkPre aux.counter) (is_link n t.base) s.links)
      (sym (facts.2 ∙ aps-shown c f aux source from))
      (subst (λ k. Finds (LinkPre aux.counter) (is_link source k) s.links) (sym facts.1)
      (link-pre s o r source i aux.counter fresh)));
}
  where
    facts : (t.layer ≡ Aps) × (t.base ≡ r.key) × (t.source ≡ shown_source source aux.source)
        × (t.counter ≡ aux.counter)
    facts = opens.aps bytes r.key source a aux t read shown opened

pub aps-good : (tools : Tools) → Opens tools → (c : Setting) (s : NodeState) → Sound s
    → (f : NwkShown) (bytes : Bytes) (a : ApsShown) (aux : ApsAuxiliary) → tools.read_aps bytes ≡ Some a → a.auxiliary
    ≡ Some aux
    → OnGood (λ (u : Unsealed). Judged Aps s u.term) (judge_aps tools c s f bytes aux)
unfolding judge_aps
aps-good tools opens c s o f bytes a aux read shown =
    need-good P (aps_source c f aux) _ _ _ (λ source from.
    need-good P (chosen_row tools bytes source (candidates s source)) _ _ _ (λ row found.
    reject-good P (nat_le greatest_counter aux.counter) _ _ _ (λ x.
    reject-good P (nat_lt aux.counter row.kept) _ _ _ (λ y.
    need-good P (tools.open_aps bytes row.key source) _ _ _ (λ t opened.
    aps-term tools opens c s o f bytes a aux read shown source from row
    (chosen-row-in tools bytes source (candidates s source) row found) x y t opened)))))
  where
    P : Unsealed → Type 0
    P u = Judged Aps s u.term

-- What a plan accepts: nothing, a term, or a NWK term and then an APS term, each verified.

abbrev pub AcceptsFit : NodeState → List Term → Type 0
AcceptsFit s [] = Unit {0}
AcceptsFit s (t ∷ []) = Judged Nwk s t ⊎ Judged Aps s t
AcceptsFit s (t ∷ u ∷ []) = Judged Nwk s t × Judged Aps s u
AcceptsFit s (t ∷ u ∷ v ∷ ts) = ⊥

of-nwk : (s : NodeState) (o : Option Term) → IfTerm s o → AcceptsFit s (option_to_list o)
of-nwk s None g = tt
of-nwk s (Some t) g = inl g

of-both : (s : NodeState) (o : Option Term) (u : Term) → IfTerm s o → Judged Aps s u
    → AcceptsFit s (option_to_list o ++ u ∷ [])
of-both s None u g h = inr h
of-both s (Some t) u g h = (g, h)

-- the rules keep what was accepted
command-accepts : (tools : Tools) (c : Setting) (s : NodeState) (draw : Option Bytes) (ts : List Term)
    (m : Rattle.zb_model.specs.Commands.Heard) (o : CommandShown) → AcceptsFit s ts
    → AcceptsFit s (aps_command tools c s draw ts m o).accepts
command-accepts tools c s draw ts m (Known command) g = g
command-accepts tools c s draw ts m Unknown g = g
command-accepts tools c s draw ts m Broken g = g

either-plan : (s : NodeState) (b : Bool) (p q : Plan) → AcceptsFit s p.accepts → AcceptsFit s q.accepts
    → AcceptsFit s (cond b p q).accepts
either-plan s true p q a b = a
either-plan s false p q a b = b

clear-accepts : (tools : Tools) (c : Setting) (s : NodeState) (draw : Option Bytes) (nwk : Option Term) (a : ApsShown)
    → IfTerm s nwk → AcceptsFit s (clear_part tools c s draw nwk a).accepts
clear-accepts tools c s draw nwk a g =
    either-plan s a.is_command
    (aps_command tools c s draw (option_to_list nwk) (Rattle.zb_model.specs.Answer.heard_clear nwk)
    (tools.read_command a.body)) (comes_to (option_to_list nwk) Place.AtAps (Does [] None))
    (command-accepts tools c s draw (option_to_list nwk) (Rattle.zb_model.specs.Answer.heard_clear nwk)
    (tools.read_command a.body) (of-nwk s nwk g)) (of-nwk s nwk g)

sealed-accepts : (tools : Tools) (c : Setting) (s : NodeState) (draw : Option Bytes) (nwk : Option Term)
    (a : ApsShown) (aux : ApsAuxiliary) (v : Verdict Unsealed) → IfTerm s nwk
    → OnGood (λ (u : Unsealed). Judged Aps s u.term) v → AcceptsFit s (sealed_part tools c s draw nwk a aux v).accepts
sealed-accepts tools c s draw nwk a aux (Not place reason) g h = of-nwk s nwk g
sealed-accepts tools c s draw nwk a aux (Good u) g h =
    either-plan s a.is_command
    (aps_command tools c s draw (option_to_list nwk ++ u.term ∷ [])
    (Rattle.zb_model.specs.Answer.heard_sealed nwk aux u) (tools.read_command u.term.content))
    (comes_to (option_to_list nwk ++ u.term ∷ []) Place.AtAps (Does [] None))
    (command-accepts tools c s draw (option_to_list nwk ++ u.term ∷ [])
    (Rattle.zb_model.specs.Answer.heard_sealed nwk aux u) (tools.read_command u.term.content)
    (of-both s nwk u.term g h)) (of-both s nwk u.term g h)

security-accepts : (tools : Tools) → Opens tools → (c : Setting) (s : NodeState) → Sound s
    → (draw : Option Bytes) (f : NwkShown) (nwk : Option Term) (a : ApsShown) (x : Option ApsAuxiliary)
    → tools.read_aps (payload_of f nwk) ≡ Some a → a.auxiliary ≡ x → IfTerm s nwk
    → AcceptsFit s (by_security tools c s draw f nwk a x).accepts
security-accepts tools opens c s o draw f nwk a None read shown g = clear-accepts tools c s draw nwk a g
security-accepts tools opens c s o draw f nwk a (Some aux) read shown g =
    sealed-accepts tools c s draw nwk a aux (judge_aps tools c s f (payload_of f nwk) aux) g
    (aps-good tools opens c s o f (payload_of f nwk) a aux read shown)

aps-accepts : (tools : Tools) → Opens tools → (c : Setting) (s : NodeState) → Sound s
    → (draw : Option Bytes) (f : NwkShown) (nwk : Option Term) (x : Option ApsShown)
    → tools.read_aps (payload_of f nwk) ≡ x → IfTerm s nwk → AcceptsFit s (aps_part tools c s draw f nwk x).accepts
aps-accepts tools opens c s o draw f nwk None read g = of-nwk s nwk g
aps-accepts tools opens c s o draw f nwk (Some a) read g = security-accepts tools opens c s o draw f nwk a a.auxiliary
    read refl g

leave-accepts : (c : Setting) (s : NodeState) (t : Term) (l : LeaveShown) → Judged Nwk s t
    → AcceptsFit s (nwk_command c t l).accepts
leave-accepts c s t (Leave options) g = inl g
leave-accepts c s t Other g = inl g
leave-accepts c s t NoCommand g = inl g

net-accepts : (tools : Tools) → Opens tools → (c : Setting) (s : NodeState) → Sound s
    → (draw : Option Bytes) (f : NwkShown) (nwk : Option Term) → IfTerm s nwk
    → AcceptsFit s (net_part tools c s draw f nwk).accepts
net-accepts tools opens c s o draw f None g = aps-accepts tools opens c s o draw f None (tools.read_aps f.body) refl tt
net-accepts tools opens c s o draw f (Some t) g =
    either-plan s f.is_command (nwk_command c t (tools.read_leave t.content))
    (aps_part tools c s draw f (Some t) (tools.read_aps t.content))
    (leave-accepts c s t (tools.read_leave t.content) g)
    (aps-accepts tools opens c s o draw f (Some t) (tools.read_aps t.content) refl g)

received-accepts : (tools : Tools) → Opens tools → (c : Setting) (s : NodeState) → Sound s
    → (draw : Option Bytes) (v : Verdict Carrier) → OnGood (λ (k : Carrier). IfTerm s k.term) v
    → AcceptsFit s (received_as tools c s draw v).accepts
received-accepts tools opens c s o draw (Not place reason) g = tt
received-accepts tools opens c s o draw (Good k) g = net-accepts tools opens c s o draw k.frame k.term g

pub plan-accepts : (tools : Tools) → Opens tools → (c : Setting) (s : NodeState) → Sound s → (task : Task)
    → AcceptsFit s (plan_of tools c s task).accepts
unfolding plan_of
plan-accepts tools opens c s o (Received bytes draw) =
    received-accepts tools opens c s o draw (judge_nwk tools c s bytes) (nwk-good tools opens c s o bytes)
plan-accepts tools opens c s o _ = tt
