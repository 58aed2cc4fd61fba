-- A node's live network keys, as its lines state them one after the other.
use Rattle.std.proofs.Common.{◌≡◌, ℕ, ◌+◌, max, Option, Some, None, ◌&&◌, ◌||◌, Bool, true, false, cond, List, [], ◌∷◌, ◌++◌, fold, map, filter, nat_eq, refl, sym, ap, ◌∙◌, append_assoc, eqb-true}
use Rattle.std.specs.List.{list_any}
use Rattle.std.proofs.lemmas.Bool.{false≢true}
use Rattle.std.proofs.lemmas.List.Folds.{list_any-append}
use Rattle.zb_model.specs.Claims.{Each}
use Rattle.zb_model.specs.Data.{Bytes, Draw, DropNet, DropLink, Install, Active, Row, Pair, Became, Live, Removed, Roll, Told, Untold, Edit, Move, Reserve, Floor, Start, Moved, Term, Layer, Nwk, Aps}
use Rattle.zb_model.specs.Lines.{Line, Declared, GivenNet, GivenLink, Counter, Changed, Commit, Accept, Refuse, Seal, Forge, Send, Inject, Stopped, DownReset, DownDisk, Boot, Dump, End}
use Rattle.zb_model.specs.Readings.{state_of, heard_line, speaker, after}
use Rattle.zb_model.specs.State.{NodeState, NetKey, same_key, has_net, live_nets, at_net, of_active, reserved, started_at, next_at, net_floor, net_kept, booted_net, declared_at, dropped_net, new_net, given_net, moved, applied, after_sealing, sealed_at, after_accepting, after_hearing, after_boot, with_given_net, with_given_link, with_declared}
use Rattle.law_run.proofs.Basics.{append-nil', same_key-eq, state-snoc}
use Rattle.law_audit_sound.proofs.Lively.{IsLively}

-- whether the last line of a node about a network key gives or installs it
abbrev pub lives_in : Bytes → Bool → Line → Bool
lives_in key was (GivenNet n k sequence) = cond (same_key k key) true was
lives_in key was (Changed e n (Moved (Install k sequence))) = cond (same_key k key) true was
lives_in key was (Changed e n (Moved (DropNet k))) = cond (same_key k key) false was
lives_in key was _ = was

abbrev pub live_line : ℕ → Bytes → Bool → Line → Bool
live_line n key was l = cond (nat_eq (speaker l) n) (lives_in key was l) was

-- ---- rows

abbrev is_there : Bytes → NetKey → Bool
is_there key r = r.live && same_key r.key key

abbrev has_live : Bytes → List NetKey → Bool
has_live key nets = list_any (is_there key) nets

among_live : (key : Bytes) (nets : List NetKey) → has_net key (filter (λ (r : NetKey). r.live) nets)
    ≡ has_live key nets
among_live key [] = refl
among_live key (r ∷ rs) = by_live r.live (among_live key rs)
  where
    by_live : (b : Bool) → has_net key (filter (λ (x : NetKey). x.live) rs) ≡ has_live key rs
        → has_net key (cond b (r ∷ filter (λ (x : NetKey). x.live) rs) (filter (λ (x : NetKey). x.live) rs))
        ≡ ((b && same_key r.key key) || has_live key rs)
    by_live true more = ap (λ b. same_key r.key key || b) more
    by_live false more = more

any_map : (test : NetKey → Bool) (f : NetKey → NetKey) → ((r : NetKey) → test (f r) ≡ test r) → (nets : List NetKey)
    → list_any test (map f nets) ≡ list_any test nets
any_map test f same [] = refl
any_map test f same (r ∷ rs) = ap (λ b. b || list_any test (map f rs)) (same r) ∙ ap (λ b. test r || b)
    (any_map test f same rs)

-- a change of rows that leaves their keys and whether they are live
record Leaves (f : NetKey → NetKey) : Type 0 where
  key : (r : NetKey) → (f r).key ≡ r.key
  live : (r : NetKey) → (f r).live ≡ r.live

left : (f : NetKey → NetKey) → Leaves f → (key : Bytes) (nets : List NetKey) → has_live key (map f nets)
    ≡ has_live key nets
left f k key nets =
    any_map (is_there key) f
    (λ r. ap (λ b. b && same_key (f r).key key) (k.live r) ∙ ap (λ x. r.live && same_key x key) (k.key r)) nets

at_one : (f : NetKey → NetKey) (a : Bytes) → Leaves f → Leaves (λ r. cond (same_key r.key a) (f r) r)
at_one f a k = record { key = λ r. key_ (same_key r.key a) r; live = λ r. live_ (same_key r.key a) r }
  where
    key_ : (b : Bool) (r : NetKey) → (cond b (f r) r).key ≡ r.key
    key_ true r = k.key r
    key_ false r = refl

    live_ : (b : Bool) (r : NetKey) → (cond b (f r) r).live ≡ r.live
    live_ true r = k.live r
    live_ false r = refl

left_at : (f : NetKey → NetKey) → Leaves f → (a key : Bytes) (nets : List NetKey) → has_live key (at_net a f nets)
    ≡ has_live key nets
left_at f k a key nets = left (λ r. cond (same_key r.key a) (f r) r) (at_one f a k) key nets

left_of : (f : NetKey → NetKey) → Leaves f → (o : Option Bytes) (key : Bytes) (nets : List NetKey)
    → has_live key (of_active f o nets) ≡ has_live key nets
left_of f k None key nets = refl
left_of f k (Some a) key nets = left_at f k a key nets

declared_leaves : (v : ℕ) → Leaves (declared_at v)
declared_leaves v = record { key = λ r. key_ r.started r; live = λ r. live_ r.started r }
  where
    key_ : (b : Bool) (r : NetKey) → (cond b (record r { limit = max r.limit v; next = max r.next v }) r).key ≡ r.key
    key_ true r = refl
    key_ false r = refl

    live_ : (b : Bool) (r : NetKey) → (cond b (record r { limit = max r.limit v; next = max r.next v }) r).live
        ≡ r.live
    live_ true r = refl
    live_ false r = refl

-- one more row
added : (b c : Bool) → cond c true b ≡ (b || ((true && c) || false))
added true true = refl
added true false = refl
added false true = refl
added false false = refl

installed : (x : NetKey) → x.live ≡ true → (key : Bytes) (nets : List NetKey) (has : Bool) → has ≡ false
    → has_live key (cond has nets (nets ++ x ∷ [])) ≡ cond (same_key x.key key) true (has_live key nets)
installed x live key nets true none = absurd (false≢true (sym none))
installed x live key nets false none =
    list_any-append (is_there key) nets (x ∷ []) ∙ ap (λ b. has_live key nets || ((b && same_key x.key key) || false))
    live ∙ sym (added (has_live key nets) (same_key x.key key))

-- a row is dropped
nothing_and : (b : Bool) → (b && false) ≡ false
nothing_and true = refl
nothing_and false = refl

dropped_one : (k key : Bytes) (r : NetKey) (same : Bool) → same_key k key ≡ same → (own : Bool) → same_key r.key k
    ≡ own → is_there key (cond own (dropped_net r) r) ≡ cond same false (is_there key r)
dropped_one k key r true e true f = refl
dropped_one k key r true e false f = by_key (same_key r.key key) refl
  where
    by_key : (b : Bool) → same_key r.key key ≡ b → (r.live && b) ≡ false
    by_key false g = nothing_and r.live
    by_key true g = absurd (false≢true (sym f ∙ ap (same_key r.key) (same_key-eq k key e) ∙ g))
dropped_one k key r false e true f =
    sym (ap (λ x. r.live && same_key x key) (same_key-eq r.key k f) ∙ ap (λ b. r.live && b) e ∙ nothing_and r.live)
dropped_one k key r false e false f = refl

none_or : (same a b : Bool) → (cond same false a || cond same false b) ≡ cond same false (a || b)
none_or true a b = refl
none_or false a b = refl

none_of : (same : Bool) → false ≡ cond same false false
none_of true = refl
none_of false = refl

dropped : (k key : Bytes) (nets : List NetKey) → has_live key (at_net k dropped_net nets)
    ≡ cond (same_key k key) false (has_live key nets)
dropped k key [] = none_of (same_key k key)
dropped k key (r ∷ rs) =
    ap (λ b. b || has_live key (at_net k dropped_net rs))
    (dropped_one k key r (same_key k key) refl (same_key r.key k) refl)
    ∙ ap (λ b. cond (same_key k key) false (is_there key r) || b) (dropped k key rs)
    ∙ none_or (same_key k key) (is_there key r) (has_live key rs)

-- ---- a line of the node's own

move_lives : (e n : ℕ) (m : Move) (key : Bytes) (s : NodeState) (h : List Line) → state_of h n ≡ s
    → IsLively h (Changed e n (Moved m)) → has_live key (moved m s).nets
    ≡ lives_in key (has_live key s.nets) (Changed e n (Moved m))
move_lives e n (Draw k) key s h is fits = refl
move_lives e n (DropNet k) key s h is fits = dropped k key s.nets
move_lives e n (DropLink p k) key s h is fits = refl
move_lives e n (Install k q) key s h is fits = installed (new_net k q) refl key s.nets (has_net k s.nets)
    (ap (λ (x : NodeState). has_net k x.nets) (sym is) ∙ fits)
move_lives e n (Active k) key s h is fits = refl
move_lives e n (Row p k a) key s h is fits = refl
move_lives e n (Pair a b k) key s h is fits = refl
move_lives e n (Became t) key s h is fits = refl
move_lives e n (Live d) key s h is fits = refl
move_lives e n (Removed d) key s h is fits = refl
move_lives e n (Roll b) key s h is fits = refl
move_lives e n (Told d) key s h is fits = refl
move_lives e n (Untold d) key s h is fits = refl

edit_lives : (e n : ℕ) (edit : Edit) (key : Bytes) (s : NodeState) (h : List Line) → state_of h n ≡ s
    → IsLively h (Changed e n edit) → has_live key (applied edit s).nets
    ≡ lives_in key (has_live key s.nets) (Changed e n edit)
unfolding applied
edit_lives e n (Reserve Nwk v) key s h is fits = left_of (reserved v) (record { key = λ r. refl; live = λ r. refl })
    s.active key s.nets
edit_lives e n (Reserve Aps v) key s h is fits = refl
edit_lives e n (Floor Nwk k from v) key s h is fits =
    left_at (net_floor from v) (record { key = λ r. refl; live = λ r. refl }) k key s.nets
edit_lives e n (Floor Aps k from v) key s h is fits = refl
edit_lives e n (Start k v) key s h is fits = left_at (started_at v) (record { key = λ r. refl; live = λ r. refl }) k
    key s.nets
edit_lives e n (Moved m) key s h is fits = move_lives e n m key s h is fits

heard_lives : (layer : Layer) (k : Bytes) (from c : ℕ) (key : Bytes) (s : NodeState)
    → has_live key (after_hearing layer k from c s).nets ≡ has_live key s.nets
unfolding after_hearing
heard_lives Nwk k from c key s = left_at (net_kept from (c + 1)) (record { key = λ r. refl; live = λ r. refl }) k key
    s.nets
heard_lives Aps k from c key s = refl

sealed_lives : (layer : Layer) (t : Term) (key : Bytes) (s : NodeState) → has_live key (sealed_at layer t s).nets
    ≡ has_live key s.nets
sealed_lives Nwk t key s = left_at (next_at (t.counter + 1)) (record { key = λ r. refl; live = λ r. refl }) t.base key
    s.nets
sealed_lives Aps t key s = refl

declared_lives : (layer : Layer) (v : ℕ) (key : Bytes) (s : NodeState) → has_live key (with_declared layer v s).nets
    ≡ has_live key s.nets
unfolding with_declared
declared_lives Nwk v key s = left (declared_at v) (declared_leaves v) key s.nets
declared_lives Aps v key s = refl

own_lives : (l : Line) (key : Bytes) (s : NodeState) (h : List Line) → state_of h (speaker l) ≡ s → IsLively h l
    → has_live key (after l s).nets ≡ lives_in key (has_live key s.nets) l
unfolding after speaker after_accepting after_sealing after_boot with_given_net with_given_link
own_lives (Declared p) key s h is fits = refl
own_lives (GivenNet n k q) key s h is fits = installed (given_net s.declared k q) refl key s.nets (has_net k s.nets)
    (ap (λ (x : NodeState). has_net k x.nets) (sym is) ∙ fits)
own_lives (GivenLink n p k) key s h is fits = refl
own_lives (Counter n layer v) key s h is fits = declared_lives layer v key s
own_lives (Changed e n edit) key s h is fits = edit_lives e n edit key s h is fits
own_lives (Commit e n) key s h is fits = refl
own_lives (Accept e n t) key s h is fits = heard_lives t.layer t.base t.source t.counter key s
own_lives (Refuse e n place reason) key s h is fits = refl
own_lives (Seal e n t) key s h is fits = sealed_lives t.layer t key s
own_lives (Forge e t) key s h is fits = refl
own_lives (Send e n frame bytes) key s h is fits = refl
own_lives (Inject e frame bytes) key s h is fits = refl
own_lives (Stopped e n) key s h is fits = refl
own_lives (DownReset e n) key s h is fits = refl
own_lives (DownDisk e n) key s h is fits = refl
own_lives (Boot e n) key s h is fits = left booted_net (record { key = λ r. refl; live = λ r. refl }) key s.nets
own_lives (Dump e n bytes) key s h is fits = refl
own_lives (End events seals accepts refusals ideal private) key s h is fits = refl

-- ---- along lines

line_lives : (h : List Line) (l : Line) (n : ℕ) (key : Bytes) → IsLively h l
    → has_live key (state_of (h ++ l ∷ []) n).nets ≡ live_line n key (has_live key (state_of h n).nets) l
unfolding heard_line
line_lives h l n key fits = ap (λ (s : NodeState). has_live key s.nets) (state-snoc h l n) ∙ by_speaker
    (nat_eq (speaker l) n) refl
  where
    by_speaker : (b : Bool) → nat_eq (speaker l) n ≡ b
        → has_live key (cond b (after l (state_of h n)) (state_of h n)).nets
        ≡ cond b (lives_in key (has_live key (state_of h n).nets) l) (has_live key (state_of h n).nets)
    by_speaker true e = own_lives l key (state_of h n) h (ap (state_of h) (eqb-true (speaker l) n e)) fits
    by_speaker false e = refl

lives_from : (n : ℕ) (key : Bytes) (h ls : List Line) → Each IsLively h ls
    → fold (live_line n key) (has_live key (state_of h n).nets) ls ≡ has_live key (state_of (h ++ ls) n).nets
lives_from n key h [] all = ap (λ g. has_live key (state_of g n).nets) (sym (append-nil' h))
lives_from n key h (l ∷ ls) all =
    ap (λ b. fold (live_line n key) b ls) (sym (line_lives h l n key all.0))
    ∙ lives_from n key (h ++ l ∷ []) ls all.1
    ∙ ap (λ g. has_live key (state_of g n).nets) (append_assoc h (l ∷ []) ls)

none_yet : (n : ℕ) (key : Bytes) → false ≡ has_live key (state_of [] n).nets
unfolding state_of
none_yet n key = refl

pub lives_same : (n : ℕ) (key : Bytes) (h : List Line) → Each IsLively [] h → fold (live_line n key) false h
    ≡ has_net key (live_nets (state_of h n))
lives_same n key h all =
    ap (λ b. fold (live_line n key) b h) (none_yet n key) ∙ lives_from n key [] h all ∙ sym
    (among_live key (state_of h n).nets)
