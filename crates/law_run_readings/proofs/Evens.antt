-- If no counter was used since the last boot, the next one is the limit: for a node with power, after whole groups.
use Rattle.std.proofs.Common.{◌≡◌, ℕ, ◌+◌, max, min, Bool, true, false, cond, ◌&&◌, List, [], ◌∷◌, ◌++◌, map, flat_map, Option, Some, None, option_map, nat_eq, refl, sym, ap, ◌∙◌, subst, append_assoc, unwrap_or}
use Rattle.std.specs.List.{AllByRecursion}
use Rattle.std.proofs.lemmas.Bool.{false≢true}
use Rattle.zb_model.specs.Data.{Bytes, Layer, Nwk, Aps, Term, Move, Draw, DropNet, DropLink, Install, Active, Row, Pair, Became, Live, Removed, Roll, Told, Untold, Edit, Reserve, Floor, Start, Moved}
use Rattle.zb_model.specs.Lines.{Line, Declared, GivenNet, GivenLink, Counter, Changed, Commit, Accept, Refuse, Seal, Forge, Send, Inject, Stopped, DownReset, DownDisk, Boot, Dump, End}
use Rattle.zb_model.specs.State.{greatest_counter, NetKey, NodeState, same_key, same_layer, is_active_key, at_net, of_active, has_net, new_net, reserved, started_at, dropped_net, net_floor, net_kept, next_at, booted_net, applied, moved, after_accepting, after_hearing, after_sealing, sealed_at, after_boot}
use Rattle.zb_model.specs.Readings.{speaker, after, state_of}
use Rattle.zb_model.specs.Play.{Schedule}
use Rattle.law_run.proofs.Basics.{append-nil', find-map, same_key-eq, same_key-refl, nat_eq-refl}
use Rattle.law_run.proofs.Nets.{at_key}
use Rattle.law_run_counters.specs.Counted.{IsCounted, TakesCounter, reserve_there, reserve_called, reserve_line}
use Rattle.law_run_readings.specs.LastLines.{flat, is_under, sealed_in, sealed_since}
use Rattle.law_run_readings.proofs.Memory.{NoBoot}
use Rattle.law_run_readings.proofs.Rows.{row_at, other_row, new_row_other, new_row_own}
use Rattle.law_run_readings.proofs.Steps.{FitsReserve}
use Rattle.law_run_readings.proofs.Lines.{was_active, FitsChange, FitsChanges, sealed_snoc, heard_as}

-- ---- one row

abbrev pub IfRow : (NetKey → Type 0) → Option NetKey → Type 0
IfRow P None = Unit {0}
IfRow P (Some r) = P r

abbrev pub EvenRow : NetKey → Type 0
EvenRow r = r.next ≡ r.limit

abbrev pub Even : Bytes → NodeState → Type 0
Even key s = IfRow EvenRow (row_at key s.nets)

abbrev pub EvenAps : NodeState → Type 0
EvenAps s = s.aps_next ≡ s.aps_limit

pub record KeepsEven (f : NetKey → NetKey) : Type 0 where
  pub key : (r : NetKey) → (f r).key ≡ r.key
  pub even : (r : NetKey) → EvenRow r → EvenRow (f r)

mapped_even : (f : NetKey → NetKey) → KeepsEven f → (o : Option NetKey) → IfRow EvenRow o
    → IfRow EvenRow (option_map f o)
mapped_even f k None e = e
mapped_even f k (Some r) e = k.even r e

pub even_map : (f : NetKey → NetKey) → KeepsEven f → (key : Bytes) (nets : List NetKey)
    → IfRow EvenRow (row_at key nets) → IfRow EvenRow (row_at key (map f nets))
even_map f k key nets e =
    subst (IfRow EvenRow) (sym (find-map (at_key key) f (λ r. ap (λ x. same_key x key) (k.key r)) nets))
    (mapped_even f k (row_at key nets) e)

even_at : (f : NetKey → NetKey) → KeepsEven f → (a key : Bytes) (nets : List NetKey) → IfRow EvenRow (row_at key nets)
    → IfRow EvenRow (row_at key (at_net a f nets))
even_at f k a key nets e = even_map (λ r. cond (same_key r.key a) (f r) r)
    (record { key = λ r. key_ (same_key r.key a) r; even = λ r. even_ (same_key r.key a) r }) key nets e
  where
    key_ : (b : Bool) (r : NetKey) → (cond b (f r) r).key ≡ r.key
    key_ true r = k.key r
    key_ false r = refl

    even_ : (b : Bool) (r : NetKey) → EvenRow r → EvenRow (cond b (f r) r)
    even_ true r p = k.even r p
    even_ false r p = p

other_even : (f : NetKey → NetKey) → ((r : NetKey) → (f r).key ≡ r.key) → (a key : Bytes) (nets : List NetKey)
    → same_key a key ≡ false → IfRow EvenRow (row_at key nets) → IfRow EvenRow (row_at key (at_net a f nets))
other_even f same a key nets other e =
    subst (IfRow EvenRow) (sym (other_row f same a key nets (turned (same_key key a) refl))) e
  where
    turned : (b : Bool) → same_key key a ≡ b → same_key key a ≡ false
    turned true q =
        absurd (false≢true (sym other ∙ ap (λ x. same_key x key) (sym (same_key-eq key a q)) ∙ same_key-refl key))
    turned false q = q

pub new_even : (x : NetKey) → EvenRow x → (key : Bytes) (nets : List NetKey) → IfRow EvenRow (row_at key nets)
    → IfRow EvenRow (row_at key (cond (has_net x.key nets) nets (nets ++ x ∷ [])))
new_even x even key nets e = by_has (has_net x.key nets) refl
  where
    by_has : (b : Bool) → has_net x.key nets ≡ b → IfRow EvenRow (row_at key (cond b nets (nets ++ x ∷ [])))
    by_has true h = e
    by_has false h = by_key (same_key x.key key) refl
      where
        by_key : (b : Bool) → same_key x.key key ≡ b → IfRow EvenRow (row_at key (nets ++ x ∷ []))
        by_key false other = subst (IfRow EvenRow) (sym (new_row_other x key nets other)) e
        by_key true same = subst (λ y. IfRow EvenRow (row_at y (nets ++ x ∷ []))) (same_key-eq x.key key same)
            (subst (IfRow EvenRow) (sym (new_row_own x nets h)) even)

plain_even : (f : NetKey → NetKey) → ((r : NetKey) → (f r).key ≡ r.key) → ((r : NetKey) → (f r).next ≡ r.next)
    → ((r : NetKey) → (f r).limit ≡ r.limit) → KeepsEven f
plain_even f key next limit = record { key = key; even = λ r e. next r ∙ e ∙ sym (limit r) }

-- ---- one own line

-- it uses no counter of the layer, under the key; and it reserves none
abbrev pub Unsealed : Layer → Bytes → Line → Type 0
Unsealed layer key (Seal e n t) = (same_layer t.layer layer && is_under layer key t.base) ≡ false
Unsealed layer key _ = Unit {0}

abbrev pub Unreserved : Layer → Line → Type 0
Unreserved layer (Changed e n (Reserve l v)) = same_layer l layer ≡ false
Unreserved layer _ = Unit {0}

reserve_even : (was : Bytes → Bool) (key : Bytes) (v : ℕ) (s : NodeState) → FitsReserve was v s → was key ≡ false
    → Even key s → Even key (applied (Reserve Nwk v) s)
unfolding applied
reserve_even was key v s fits none e =
    let other : same_key fits.key key ≡ false = ap (λ o. is_active_key o key) (sym fits.active_is) ∙ sym
    (fits.was_is key) ∙ none in
    subst (λ o. IfRow EvenRow (row_at key (of_active (reserved v) o s.nets))) (sym fits.active_is)
    (other_even (reserved v) (λ r. refl) fits.key key s.nets other e)

moved_even : (key : Bytes) (m : Move) (s : NodeState) → Even key s → Even key (moved m s)
moved_even key (Draw k) s e = e
moved_even key (DropNet k) s e = even_at dropped_net (plain_even dropped_net (λ r. refl) (λ r. refl) (λ r. refl)) k
    key s.nets e
moved_even key (DropLink p k) s e = e
moved_even key (Install k q) s e = new_even (new_net k q) refl key s.nets e
moved_even key (Active k) s e = e
moved_even key (Row p k a) s e = e
moved_even key (Pair a b k) s e = e
moved_even key (Became g) s e = e
moved_even key (Live d) s e = e
moved_even key (Removed d) s e = e
moved_even key (Roll b) s e = e
moved_even key (Told d) s e = e
moved_even key (Untold d) s e = e

edit_even : (was : Bytes → Bool) (key : Bytes) (n m : ℕ) (edit : Edit) (s : NodeState)
    → FitsChange was (Changed n m edit) s → (was key ≡ true → Unreserved Nwk (Changed n m edit)) → Even key s
    → Even key (applied edit s)
unfolding applied
edit_even was key n m (Reserve Nwk v) s fits none e = by_was (was key) refl
  where
    by_was : (b : Bool) → was key ≡ b → Even key (applied (Reserve Nwk v) s)
    by_was true is = absurd (false≢true (sym (none is)))
    by_was false is = reserve_even was key v s fits is e
edit_even was key n m (Reserve Aps v) s fits none e = e
edit_even was key n m (Floor Nwk k from v) s fits none e =
    even_at (net_floor from v) (plain_even (net_floor from v) (λ r. refl) (λ r. refl) (λ r. refl)) k key s.nets e
edit_even was key n m (Floor Aps k from v) s fits none e = e
edit_even was key n m (Start k v) s fits none e =
    even_at (started_at v) (record { key = λ r. refl; even = λ r p. ap (λ x. max x (min v greatest_counter)) p }) k
    key s.nets e
edit_even was key n m (Moved move) s fits none e = moved_even key move s e

heard_even : (key : Bytes) (layer : Layer) (k : Bytes) (from c : ℕ) (s : NodeState) → Even key s
    → Even key (after_hearing layer k from c s)
unfolding after_hearing
heard_even key Nwk k from c s e =
    even_at (net_kept from (c + 1)) (plain_even (net_kept from (c + 1)) (λ r. refl) (λ r. refl) (λ r. refl)) k key
    s.nets e
heard_even key Aps k from c s e = e

sealed_even : (key : Bytes) (t : Term) (layer : Layer) (s : NodeState) → t.layer ≡ layer
    → (same_layer t.layer Nwk && same_key t.base key) ≡ false → Even key s → Even key (sealed_at layer t s)
sealed_even key t Nwk s at none e = other_even (next_at (t.counter + 1)) (λ r. refl) t.base key s.nets
    (ap (λ l. same_layer l Nwk && same_key t.base key) (sym at) ∙ none) e
sealed_even key t Aps s at none e = e

booted_even : (key : Bytes) (nets : List NetKey) → IfRow EvenRow (row_at key (map booted_net nets))
booted_even key nets = subst (IfRow EvenRow) (sym (find-map (at_key key) booted_net (λ r. refl) nets))
    (by_row (row_at key nets))
  where
    by_row : (o : Option NetKey) → IfRow EvenRow (option_map booted_net o)
    by_row None = tt
    by_row (Some r) = refl

pub boot_even : (key : Bytes) (s : NodeState) → Even key (after_boot s)
unfolding after_boot
boot_even key s = booted_even key s.nets

line_even : (was : Bytes → Bool) (key : Bytes) (l : Line) (s : NodeState) → FitsChange was l s
    → (was key ≡ true → Unreserved Nwk l) → Unsealed Nwk key l → Even key s → Even key (after l s)
unfolding after after_accepting after_sealing
line_even was key (Declared p) s fits none free e = absurd fits
line_even was key (GivenNet n k q) s fits none free e = absurd fits
line_even was key (GivenLink n p k) s fits none free e = absurd fits
line_even was key (Counter n layer v) s fits none free e = absurd fits
line_even was key (Changed n m edit) s fits none free e = edit_even was key n m edit s fits none e
line_even was key (Accept n m t) s fits none free e = heard_even key t.layer t.base t.source t.counter s e
line_even was key (Seal n m t) s fits none free e = sealed_even key t t.layer s refl free e
line_even was key (Boot n m) s fits none free e = boot_even key s
line_even was key (Commit n m) s fits none free e = e
line_even was key (Refuse n m place reason) s fits none free e = e
line_even was key (Forge n t) s fits none free e = e
line_even was key (Send n m frame bytes) s fits none free e = e
line_even was key (Inject n frame bytes) s fits none free e = e
line_even was key (Stopped n m) s fits none free e = e
line_even was key (DownReset n m) s fits none free e = e
line_even was key (DownDisk n m) s fits none free e = e
line_even was key (Dump n m bytes) s fits none free e = e
line_even was key (End events seals accepts refusals ideal private) s fits none free e = e

-- ---- and at APS

moved_aps : (m : Move) (s : NodeState) → EvenAps s → EvenAps (moved m s)
moved_aps (Draw k) s e = e
moved_aps (DropNet k) s e = e
moved_aps (DropLink p k) s e = e
moved_aps (Install k q) s e = e
moved_aps (Active k) s e = e
moved_aps (Row p k a) s e = e
moved_aps (Pair a b k) s e = e
moved_aps (Became g) s e = e
moved_aps (Live d) s e = e
moved_aps (Removed d) s e = e
moved_aps (Roll b) s e = e
moved_aps (Told d) s e = e
moved_aps (Untold d) s e = e

edit_aps : (n m : ℕ) (edit : Edit) (s : NodeState) → Unreserved Aps (Changed n m edit) → EvenAps s
    → EvenAps (applied edit s)
unfolding applied
edit_aps n m (Reserve Nwk v) s none e = e
edit_aps n m (Reserve Aps v) s none e = absurd (false≢true (sym none))
edit_aps n m (Floor Nwk k from v) s none e = e
edit_aps n m (Floor Aps k from v) s none e = e
edit_aps n m (Start k v) s none e = e
edit_aps n m (Moved move) s none e = moved_aps move s e

heard_aps : (layer : Layer) (k : Bytes) (from c : ℕ) (s : NodeState) → EvenAps s
    → EvenAps (after_hearing layer k from c s)
unfolding after_hearing
heard_aps Nwk k from c s e = e
heard_aps Aps k from c s e = e

sealed_aps : (t : Term) (layer : Layer) (s : NodeState) → t.layer ≡ layer → (same_layer t.layer Aps && true) ≡ false
    → EvenAps s → EvenAps (sealed_at layer t s)
sealed_aps t Nwk s at none e = e
sealed_aps t Aps s at none e = absurd (false≢true (sym (ap (λ l. same_layer l Aps && true) (sym at) ∙ none)))

pub boot_aps : (s : NodeState) → EvenAps (after_boot s)
unfolding after_boot
boot_aps s = refl

line_aps : (was : Bytes → Bool) (l : Line) (s : NodeState) → FitsChange was l s → Unreserved Aps l → Unsealed Aps [] l
    → EvenAps s → EvenAps (after l s)
unfolding after after_accepting after_sealing
line_aps was (Declared p) s fits none free e = absurd fits
line_aps was (GivenNet n k q) s fits none free e = absurd fits
line_aps was (GivenLink n p k) s fits none free e = absurd fits
line_aps was (Counter n layer v) s fits none free e = absurd fits
line_aps was (Changed n m edit) s fits none free e = edit_aps n m edit s none e
line_aps was (Accept n m t) s fits none free e = heard_aps t.layer t.base t.source t.counter s e
line_aps was (Seal n m t) s fits none free e = sealed_aps t t.layer s refl free e
line_aps was (Boot n m) s fits none free e = boot_aps s
line_aps was (Commit n m) s fits none free e = e
line_aps was (Refuse n m place reason) s fits none free e = e
line_aps was (Forge n t) s fits none free e = e
line_aps was (Send n m frame bytes) s fits none free e = e
line_aps was (Inject n frame bytes) s fits none free e = e
line_aps was (Stopped n m) s fits none free e = e
line_aps was (DownReset n m) s fits none free e = e
line_aps was (DownDisk n m) s fits none free e = e
line_aps was (Dump n m bytes) s fits none free e = e
line_aps was (End events seals accepts refusals ideal private) s fits none free e = e

-- ---- lines of a node

abbrev pub AllOwn : (Line → Type 0) → ℕ → List Line → Type 0
AllOwn P n ls = AllByRecursion (λ (l : Line). nat_eq (speaker l) n ≡ true → P l) ls

one_state : (Φ : NodeState → Type 0) (n : ℕ) (h front : List Line) (l : Line)
    → (nat_eq (speaker l) n ≡ true → Φ (after l (state_of (h ++ front) n))) → Φ (state_of (h ++ front) n)
    → Φ (state_of (h ++ (front ++ l ∷ [])) n)
one_state Φ n h front l own same = by_speaker (nat_eq (speaker l) n) refl
  where
    by_speaker : (b : Bool) → nat_eq (speaker l) n ≡ b → Φ (state_of (h ++ (front ++ l ∷ [])) n)
    by_speaker true e = subst Φ (heard_as n h front l true e) (own e)
    by_speaker false e = subst Φ (heard_as n h front l false e) same

pub evens_more : (before : List (List Line)) (n : ℕ) (key : Bytes) (front ls : List Line)
    → FitsChanges before n front ls → (was_active before n key ≡ true → AllOwn (Unreserved Nwk) n ls)
    → AllOwn (Unsealed Nwk key) n ls
    → Even key (state_of (flat before ++ front) n) → Even key (state_of (flat before ++ (front ++ ls)) n)
evens_more before n key front [] fits none free e = subst (λ x. Even key (state_of (flat before ++ x) n))
    (sym (append-nil' front)) e
evens_more before n key front (l ∷ ls) fits none free e =
    subst (λ x. Even key (state_of (flat before ++ x) n)) (append_assoc front (l ∷ []) ls)
    (evens_more before n key (front ++ l ∷ []) ls fits.1 (λ w. (none w).1) free.1
    (one_state (Even key) n (flat before) front l
    (λ own. line_even (was_active before n) key l (state_of (flat before ++ front) n) (fits.0 own).0
    (λ w. (none w).0 own) (free.0 own) e) e))

pub aps_more : (before : List (List Line)) (n : ℕ) (front ls : List Line) → FitsChanges before n front ls
    → AllOwn (Unreserved Aps) n ls → AllOwn (Unsealed Aps []) n ls
    → EvenAps (state_of (flat before ++ front) n) → EvenAps (state_of (flat before ++ (front ++ ls)) n)
aps_more before n front [] fits none free e = subst (λ x. EvenAps (state_of (flat before ++ x) n))
    (sym (append-nil' front)) e
aps_more before n front (l ∷ ls) fits none free e =
    subst (λ x. EvenAps (state_of (flat before ++ x) n)) (append_assoc front (l ∷ []) ls)
    (aps_more before n (front ++ l ∷ []) ls fits.1 none.1 free.1
    (one_state EvenAps n (flat before) front l
    (λ own. line_aps (was_active before n) l (state_of (flat before ++ front) n) (fits.0 own).0 (none.0 own)
    (free.0 own) e) e))

-- ---- what is not sealed

abbrev is_none : Option ℕ → Type 0
is_none None = Unit {0}
is_none (Some n) = ⊥

-- a line after which nothing is sealed: nothing was before, and it seals nothing
not_sealed : (layer : Layer) (key : Bytes) (found : Option ℕ) (l : Line) → NoBoot l → sealed_in layer key found l
    ≡ None → (found ≡ None) × Unsealed layer key l
not_sealed layer key found (Boot n m) free e = absurd free
not_sealed layer key found (Seal n m t) free e = by_test (same_layer t.layer layer && is_under layer key t.base) refl e
  where
    by_test : (b : Bool) → (same_layer t.layer layer && is_under layer key t.base) ≡ b
        → cond b (Some (t.counter + 1)) found ≡ None → (found ≡ None)
        × ((same_layer t.layer layer && is_under layer key t.base) ≡ false)
    by_test true is f = absurd (subst is_none (sym f) tt)
    by_test false is f = (f, is)
not_sealed layer key found (Declared p) free e = (e, tt)
not_sealed layer key found (GivenNet n k q) free e = (e, tt)
not_sealed layer key found (GivenLink n p k) free e = (e, tt)
not_sealed layer key found (Counter n l v) free e = (e, tt)
not_sealed layer key found (Changed n m edit) free e = (e, tt)
not_sealed layer key found (Accept n m t) free e = (e, tt)
not_sealed layer key found (Commit n m) free e = (e, tt)
not_sealed layer key found (Refuse n m place reason) free e = (e, tt)
not_sealed layer key found (Forge n t) free e = (e, tt)
not_sealed layer key found (Send n m frame bytes) free e = (e, tt)
not_sealed layer key found (Inject n frame bytes) free e = (e, tt)
not_sealed layer key found (Stopped n m) free e = (e, tt)
not_sealed layer key found (DownReset n m) free e = (e, tt)
not_sealed layer key found (DownDisk n m) free e = (e, tt)
not_sealed layer key found (Dump n m bytes) free e = (e, tt)
not_sealed layer key found (End events seals accepts refusals ideal private) free e = (e, tt)

pub none_sealed : (n : ℕ) (layer : Layer) (key : Bytes) (h ls : List Line) → AllByRecursion NoBoot ls
    → sealed_since n layer key (h ++ ls) ≡ None → (sealed_since n layer key h ≡ None)
    × AllOwn (Unsealed layer key) n ls
none_sealed n layer key h [] free e = (ap (sealed_since n layer key) (sym (append-nil' h)) ∙ e, tt)
none_sealed n layer key h (l ∷ ls) free e =
    let more = none_sealed n layer key (h ++ l ∷ []) ls free.1
    (ap (sealed_since n layer key) (append_assoc h (l ∷ []) ls) ∙ e) in
    let one = by_own (nat_eq (speaker l) n) refl (sym (sealed_snoc n layer key h l) ∙ more.0) in
    (one.0, (one.1, more.1))
  where
    by_own : (b : Bool) → nat_eq (speaker l) n ≡ b → cond b (sealed_in layer key (sealed_since n layer key h) l)
        (sealed_since n layer key h) ≡ None
        → (sealed_since n layer key h ≡ None) × (nat_eq (speaker l) n ≡ true → Unsealed layer key l)
    by_own true is f = let p = not_sealed layer key (sealed_since n layer key h) l free.0 f in (p.0, λ own. p.1)
    by_own false is f = (f, λ own. absurd (false≢true (sym is ∙ own)))

-- ---- what is not reserved

abbrev pub SealsOf : ℕ → Line → Type 0
SealsOf n (Seal e m t) = m ≡ n
SealsOf n _ = Unit {0}

none_there : {X Y : Type 0} (f : X → List Y) (xs : List X) → flat_map f xs ≡ [] → AllByRecursion (λ x. f x ≡ []) xs
none_there f [] e = tt
none_there f (x ∷ xs) e = let p = parts (f x) (flat_map f xs) e in (p.0, none_there f xs p.1)
  where
    IsEmpty : {Z : Type 0} → List Z → Type 0
    IsEmpty [] = Unit {0}
    IsEmpty (z ∷ zs) = ⊥

    parts : {Z : Type 0} (a b : List Z) → a ++ b ≡ [] → (a ≡ []) × (b ≡ [])
    parts [] b e = (refl, e)
    parts (z ∷ a) b e = absurd (subst IsEmpty (sym e) tt)

all_none : {X Y : Type 0} (f : X → List Y) (xs : List X) → AllByRecursion (λ x. f x ≡ []) xs → flat_map f xs ≡ []
all_none f [] a = refl
all_none f (x ∷ xs) a = ap (λ ys. ys ++ flat_map f xs) a.0 ∙ all_none f xs a.1

unreserved_line : (layer : Layer) (l : Line) → reserve_there layer l ≡ [] → Unreserved layer l
unreserved_line layer (Changed n m (Reserve k v)) e = by_test (same_layer k layer) refl e
  where
    IsEmpty : List Line → Type 0
    IsEmpty [] = Unit {0}
    IsEmpty (z ∷ zs) = ⊥

    by_test : (b : Bool) → same_layer k layer ≡ b → cond b (Changed n m (Reserve k v) ∷ []) [] ≡ []
        → same_layer k layer ≡ false
    by_test true is f = absurd (subst IsEmpty (sym f) tt)
    by_test false is f = is
unreserved_line layer (Changed n m (Floor k key from v)) e = tt
unreserved_line layer (Changed n m (Start k v)) e = tt
unreserved_line layer (Changed n m (Moved move)) e = tt
unreserved_line layer (Declared p) e = tt
unreserved_line layer (GivenNet n k q) e = tt
unreserved_line layer (GivenLink n p k) e = tt
unreserved_line layer (Counter n l v) e = tt
unreserved_line layer (Accept n m t) e = tt
unreserved_line layer (Seal n m t) e = tt
unreserved_line layer (Commit n m) e = tt
unreserved_line layer (Refuse n m place reason) e = tt
unreserved_line layer (Forge n t) e = tt
unreserved_line layer (Send n m frame bytes) e = tt
unreserved_line layer (Inject n frame bytes) e = tt
unreserved_line layer (Stopped n m) e = tt
unreserved_line layer (DownReset n m) e = tt
unreserved_line layer (DownDisk n m) e = tt
unreserved_line layer (Boot n m) e = tt
unreserved_line layer (Dump n m bytes) e = tt
unreserved_line layer (End events seals accepts refusals ideal private) e = tt

all_unreserved : (layer : Layer) (n : ℕ) (ls : List Line) → AllByRecursion (λ l. reserve_there layer l ≡ []) ls
    → AllOwn (Unreserved layer) n ls
all_unreserved layer n [] a = tt
all_unreserved layer n (l ∷ ls) a = (λ own. unreserved_line layer l a.0, all_unreserved layer n ls a.1)

-- a seal line of the layer uses its counter under the key, so without one nothing is called for
nwk_uncalled : (w : Schedule) (h : List Line) (n : ℕ) (key : Bytes) → (state_of h n).active ≡ Some key
    → (ls : List Line) → AllByRecursion (SealsOf n) ls → AllByRecursion (TakesCounter h) ls
    → AllOwn (Unsealed Nwk key) n ls
    → AllByRecursion (λ l. reserve_called w h Nwk l ≡ []) ls
unfolding speaker
nwk_uncalled w h n key at [] own takes free = tt
nwk_uncalled w h n key at (l ∷ ls) own takes free =
    (one l own.0 takes.0 free.0, nwk_uncalled w h n key at ls own.1 takes.1 free.1)
  where
    under : (layer : Layer) (base : Bytes) → Rattle.law_run_counters.specs.Counted.IsActive layer base (state_of h n)
        → (same_layer layer Nwk && same_key base key) ≡ false → same_layer layer Nwk ≡ false
    under Nwk base holds none =
        let same : base ≡ key = ap (λ o. unwrap_or o base) (sym holds ∙ at) in
        absurd (false≢true (sym none ∙ ap (λ x. same_key x key) same ∙ same_key-refl key))
    under Aps base holds none = refl

    one : (l : Line) → SealsOf n l → TakesCounter h l → (nat_eq (speaker l) n ≡ true → Unsealed Nwk key l)
        → reserve_called w h Nwk l ≡ []
    one (Seal e m t) own takes free =
        let is : nat_eq m n ≡ true = ap (λ x. nat_eq x n) own ∙ nat_eq-refl n in
        ap (λ b. cond b (reserve_line w (state_of h m) e m Nwk) [])
        (under t.layer t.base
        (subst (λ x. Rattle.law_run_counters.specs.Counted.IsActive t.layer t.base (state_of h x)) own takes.1)
        (free is))
    one _ own takes free = refl

aps_uncalled : (w : Schedule) (h : List Line) (n : ℕ) (ls : List Line) → AllByRecursion (SealsOf n) ls
    → AllOwn (Unsealed Aps []) n ls → AllByRecursion (λ l. reserve_called w h Aps l ≡ []) ls
unfolding speaker
aps_uncalled w h n [] own free = tt
aps_uncalled w h n (l ∷ ls) own free = (one l own.0 free.0, aps_uncalled w h n ls own.1 free.1)
  where
    plain : (b : Bool) → (b && true) ≡ false → b ≡ false
    plain true e = e
    plain false e = refl

    one : (l : Line) → SealsOf n l → (nat_eq (speaker l) n ≡ true → Unsealed Aps [] l) → reserve_called w h Aps l ≡ []
    one (Seal e m t) own free = ap (λ b. cond b (reserve_line w (state_of h m) e m Aps) [])
        (plain (same_layer t.layer Aps) (free (ap (λ x. nat_eq x n) own ∙ nat_eq-refl n)))
    one _ own free = refl

pub nwk_unreserved : (w : Schedule) (h : List Line) (n : ℕ) (key : Bytes) (ls : List Line) → IsCounted w h ls
    → (state_of h n).active ≡ Some key → AllByRecursion (SealsOf n) ls → AllOwn (Unsealed Nwk key) n ls
    → AllOwn (Unreserved Nwk) n ls
nwk_unreserved w h n key ls counted at own free =
    all_unreserved Nwk n ls
    (none_there (reserve_there Nwk) ls
    (counted.reserves Nwk ∙ all_none (reserve_called w h Nwk) ls
    (nwk_uncalled w h n key at ls own counted.seals free)))

pub aps_unreserved : (w : Schedule) (h : List Line) (n : ℕ) (ls : List Line) → IsCounted w h ls
    → AllByRecursion (SealsOf n) ls → AllOwn (Unsealed Aps []) n ls → AllOwn (Unreserved Aps) n ls
aps_unreserved w h n ls counted own free =
    all_unreserved Aps n ls
    (none_there (reserve_there Aps) ls
    (counted.reserves Aps ∙ all_none (reserve_called w h Aps) ls (aps_uncalled w h n ls own free)))
