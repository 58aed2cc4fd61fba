-- A node's network keys were given to it or installed: each is among the keys that it ever had, and so is the base key
-- of what it seals.
use Rattle.std.proofs.Common.{◌≡◌, ℕ, ◌+◌, max, Bool, true, false, cond, List, [], ◌∷◌, ◌++◌, map, Option, Some, None, flat_map, fold, nat_eq, refl, sym, subst, append_assoc, ⊎_elim}
use Rattle.std.proofs.lemmas.Bool.{false≢true}
use Rattle.std.specs.List.{AllByRecursion}
use Rattle.zb_model.specs.Data.{Bytes, Role, Layer, Nwk, Aps, Station, Term, Move, Draw, DropNet, DropLink, Install, Active, Row, Pair, Became, Live, Removed, Roll, Told, Untold, Edit, Reserve, Floor, Start, Moved}
use Rattle.zb_model.specs.Lines.{Line, GivenNet, Counter, Changed, Accept, Seal, Boot}
use Rattle.zb_model.specs.State.{NetKey, NodeState, new_node, same_key, has_net, at_net, of_active, new_net, given_net, reserved, started_at, dropped_net, net_floor, net_kept, next_at, booted_net, declared_at, applied, moved, after_sealing, sealed_at, after_boot, after_hearing, after_accepting, with_given_net, with_given_link, with_declared}
use Rattle.zb_model.specs.Readings.{state_of, heard_line, after, speaker, station_line}
use Rattle.zb_model.specs.Secrets.{holds, ever_in, ever_from, ever}
use Rattle.law_run.proofs.FreshLines.{all-append, all-map}
use Rattle.law_run.proofs.Exposed.{Within, holds-left, holds-right, holds-one, holds-cases}

-- the network key that a line gives its node
abbrev pub given_key : Line → List Bytes
given_key (GivenNet n key q) = key ∷ []
given_key (Changed e n (Moved (Install key q))) = key ∷ []
given_key _ = []

abbrev AllHeld : List Bytes → List NetKey → Type 0
AllHeld keys nets = AllByRecursion (λ (r : NetKey). holds keys r.key ≡ true) nets

more-held : (keys more : List Bytes) (nets : List NetKey) → AllHeld keys nets → AllHeld (keys ++ more) nets
more-held keys more nets a = all-map (λ (r : NetKey). holds keys r.key ≡ true)
    (λ (r : NetKey). holds (keys ++ more) r.key ≡ true) (λ r e. holds-left keys more r.key e) nets a

same-held : (f : NetKey → NetKey) → ((r : NetKey) → (f r).key ≡ r.key) → (keys : List Bytes) (nets : List NetKey)
    → AllHeld keys nets → AllHeld keys (map f nets)
same-held f k keys [] a = tt
same-held f k keys (r ∷ rs) a = (subst (λ x. holds keys x ≡ true) (sym (k r)) a.0, same-held f k keys rs a.1)

cond-key : (f : NetKey → NetKey) → ((r : NetKey) → (f r).key ≡ r.key) → (b : Bool) (r : NetKey) → (cond b (f r) r).key
    ≡ r.key
cond-key f k true r = k r
cond-key f k false r = refl

at-held : (f : NetKey → NetKey) → ((r : NetKey) → (f r).key ≡ r.key)
    → (key : Bytes) (keys : List Bytes) (nets : List NetKey) → AllHeld keys nets → AllHeld keys (at_net key f nets)
at-held f k key keys nets a = same-held (λ r. cond (same_key r.key key) (f r) r)
    (λ r. cond-key f k (same_key r.key key) r) keys nets a

active-held : (f : NetKey → NetKey) → ((r : NetKey) → (f r).key ≡ r.key)
    → (o : Option Bytes) (keys : List Bytes) (nets : List NetKey) → AllHeld keys nets
    → AllHeld keys (of_active f o nets)
active-held f k None keys nets a = a
active-held f k (Some key) keys nets a = at-held f k key keys nets a

new-held : (b : Bool) (x : NetKey) (keys : List Bytes) (nets : List NetKey) → AllHeld keys nets
    → AllHeld (keys ++ x.key ∷ []) (cond b nets (nets ++ x ∷ []))
new-held true x keys nets a = more-held keys (x.key ∷ []) nets a
new-held false x keys nets a = all-append (λ (r : NetKey). holds (keys ++ x.key ∷ []) r.key ≡ true) nets (x ∷ [])
    (more-held keys (x.key ∷ []) nets a) (holds-right keys (x.key ∷ []) x.key (holds-one x.key), tt)

no-more : (keys : List Bytes) (nets : List NetKey) → AllHeld keys nets → AllHeld (keys ++ []) nets
no-more keys nets a = more-held keys [] nets a

moved-held : (m : Move) (e n : ℕ) (keys : List Bytes) (s : NodeState) → AllHeld keys s.nets
    → AllHeld (keys ++ given_key (Changed e n (Moved m))) (moved m s).nets
moved-held (Draw k) e n keys s a = no-more keys s.nets a
moved-held (DropNet k) e n keys s a = no-more keys (at_net k dropped_net s.nets)
    (at-held dropped_net (λ r. refl) k keys s.nets a)
moved-held (DropLink p k) e n keys s a = no-more keys s.nets a
moved-held (Install k q) e n keys s a = new-held (has_net k s.nets) (new_net k q) keys s.nets a
moved-held (Active k) e n keys s a = no-more keys s.nets a
moved-held (Row p k t) e n keys s a = no-more keys s.nets a
moved-held (Pair x y k) e n keys s a = no-more keys s.nets a
moved-held (Became g) e n keys s a = no-more keys s.nets a
moved-held (Live d) e n keys s a = no-more keys s.nets a
moved-held (Removed d) e n keys s a = no-more keys s.nets a
moved-held (Roll b) e n keys s a = no-more keys s.nets a
moved-held (Told d) e n keys s a = no-more keys s.nets a
moved-held (Untold d) e n keys s a = no-more keys s.nets a

applied-held : (x : Edit) (e n : ℕ) (keys : List Bytes) (s : NodeState) → AllHeld keys s.nets
    → AllHeld (keys ++ given_key (Changed e n x)) (applied x s).nets
unfolding applied
applied-held (Reserve Nwk v) e n keys s a = no-more keys (of_active (reserved v) s.active s.nets)
    (active-held (reserved v) (λ r. refl) s.active keys s.nets a)
applied-held (Reserve Aps v) e n keys s a = no-more keys s.nets a
applied-held (Floor Nwk k p v) e n keys s a = no-more keys (at_net k (net_floor p v) s.nets)
    (at-held (net_floor p v) (λ r. refl) k keys s.nets a)
applied-held (Floor Aps k p v) e n keys s a = no-more keys s.nets a
applied-held (Start k v) e n keys s a = no-more keys (at_net k (started_at v) s.nets)
    (at-held (started_at v) (λ r. refl) k keys s.nets a)
applied-held (Moved m) e n keys s a = moved-held m e n keys s a

heard-held : (layer : Layer) (k : Bytes) (sender counter : ℕ) (keys : List Bytes) (s : NodeState)
    → AllHeld keys s.nets → AllHeld keys (after_hearing layer k sender counter s).nets
unfolding after_hearing
heard-held Nwk k sender counter keys s a = at-held (net_kept sender (counter + 1)) (λ r. refl) k keys s.nets a
heard-held Aps k sender counter keys s a = a

sealed-held : (layer : Layer) (t : Term) (keys : List Bytes) (s : NodeState) → AllHeld keys s.nets
    → AllHeld keys (sealed_at layer t s).nets
sealed-held Nwk t keys s a = at-held (next_at (t.counter + 1)) (λ r. refl) t.base keys s.nets a
sealed-held Aps t keys s a = a

declared-key : (v : ℕ) (r : NetKey) → (declared_at v r).key ≡ r.key
declared-key v r = cond-key (λ r. record r { limit = max r.limit v; next = max r.next v }) (λ r. refl) r.started r

after-held : (l : Line) (keys : List Bytes) (s : NodeState) → AllHeld keys s.nets
    → AllHeld (keys ++ given_key l) (after l s).nets
unfolding after with_given_net with_given_link with_declared after_sealing after_accepting after_boot
after-held (GivenNet n k q) keys s a = new-held (has_net k s.nets) (given_net s.declared k q) keys s.nets a
after-held (Counter n Nwk v) keys s a = no-more keys (map (declared_at v) s.nets)
    (same-held (declared_at v) (declared-key v) keys s.nets a)
after-held (Counter n Aps v) keys s a = no-more keys s.nets a
after-held (Changed e n x) keys s a = applied-held x e n keys s a
after-held (Accept e n t) keys s a = no-more keys (after_hearing t.layer t.base t.source t.counter s).nets
    (heard-held t.layer t.base t.source t.counter keys s a)
after-held (Seal e n t) keys s a = no-more keys (sealed_at t.layer t s).nets (sealed-held t.layer t keys s a)
after-held (Boot e n) keys s a = no-more keys (map booted_net s.nets) (same-held booted_net (λ r. refl) keys s.nets a)
after-held _ keys s a = no-more keys s.nets a

-- the keys that a node was given, over all lines
line-held : (n : ℕ) (l : Line) (keys : List Bytes) (s : NodeState) (b : Bool) → nat_eq (speaker l) n ≡ b
    → AllHeld keys s.nets → AllHeld (keys ++ cond b (given_key l) []) (cond b (after l s) s).nets
line-held n l keys s true e a = after-held l keys s a
line-held n l keys s false e a = no-more keys s.nets a

heard-line-held : (n : ℕ) (l : Line) (keys : List Bytes) (s : NodeState) → AllHeld keys s.nets
    → AllHeld (keys ++ cond (nat_eq (speaker l) n) (given_key l) []) (heard_line n s l).nets
unfolding heard_line
heard-line-held n l keys s a = line-held n l keys s (nat_eq (speaker l) n) refl a

abbrev pub givens : ℕ → List Line → List Bytes
givens n h = flat_map (λ l. cond (nat_eq (speaker l) n) (given_key l) []) h

fold-held : (n : ℕ) (h : List Line) (keys : List Bytes) (s : NodeState) → AllHeld keys s.nets
    → AllHeld (keys ++ givens n h) (fold (heard_line n) s h).nets
fold-held n [] keys s a = no-more keys s.nets a
fold-held n (l ∷ ls) keys s a =
    subst (λ ks. AllHeld ks (fold (heard_line n) (heard_line n s l) ls).nets)
    (append_assoc keys (cond (nat_eq (speaker l) n) (given_key l) []) (givens n ls))
    (fold-held n ls (keys ++ cond (nat_eq (speaker l) n) (given_key l) []) (heard_line n s l)
    (heard-line-held n l keys s a))

pub nets-given : (h : List Line) (n : ℕ) → AllHeld (givens n h) (state_of h n).nets
unfolding state_of
nets-given h n = fold-held n h [] (new_node Role.Device) tt

-- and these are among those that it ever had

within-none : (b : Bool) (xs : List Bytes) → Within (cond b [] []) xs
within-none true xs k e = absurd (false≢true e)
within-none false xs k e = absurd (false≢true e)

given-ever : (known : List Station) (n : ℕ) (l : Line) → Within (cond (nat_eq (speaker l) n) (given_key l) [])
    (ever_in known n l)
unfolding speaker
given-ever known n (GivenNet m key q) k e = e
given-ever known n (Changed ev m (Moved (Install key q))) k e = e
given-ever known n l k e = within-none (nat_eq (speaker l) n) (ever_in known n l) k e

within-from : (known : List Station) (n : ℕ) (h : List Line) → Within (givens n h) (ever_from known n h)
within-from known n [] k e = e
within-from known n (l ∷ ls) k e =
    ⊎_elim (λ a. holds-left (ever_in known n l) later k (given-ever known n l k a))
    (λ a. holds-right (ever_in known n l) later k (within-from (station_line known l) n ls k a))
    (holds-cases (cond (nat_eq (speaker l) n) (given_key l) []) (givens n ls) k e)
  where
    later : List Bytes
    later = ever_from (station_line known l) n ls

pub given-within : (h : List Line) (n : ℕ) → Within (givens n h) (ever h n)
unfolding ever
given-within h n = within-from [] n h
