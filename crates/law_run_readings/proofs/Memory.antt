-- The floors in memory: no change of rows changes them, and an accepted counter changes only its sender's.
use Rattle.std.proofs.Common.{◌≡◌, ℕ, ◌<◌, ◌+◌, max, Bool, true, false, cond, ◌&&◌, List, [], ◌∷◌, ◌++◌, map, Option, Some, None, option_map, find, nat_eq, nat_lt, refl, sym, ap, ◌∙◌, subst, eqb-true, ltb-true, unwrap_or}
use Rattle.std.proofs.lemmas.Bool.{false≢true}
use Rattle.std.specs.List.{AllByRecursion}
use Rattle.zb_model.specs.Data.{Bytes, Layer, Nwk, Aps, Attribute, Provisional, Term, Move, Draw, DropNet, DropLink, Install, Active, Row, Pair, Became, Live, Removed, Roll, Told, Untold, Edit, Reserve, Floor, Start, Moved}
use Rattle.zb_model.specs.Lines.{Line, Declared, GivenNet, GivenLink, Counter, Changed, Accept, Seal, Boot}
use Rattle.zb_model.specs.State.{SenderFloor, NetKey, LinkKey, NodeState, same_key, same_layer, has_net, has_link, is_link, is_live_of, is_told, at_net, at_link, of_active, with_link, with_told, new_net, new_link, given_net, reserved, started_at, dropped_net, dropped_link, net_floor, net_kept, next_at, declared_at, revived, told_as, link_floor, link_kept, floor_stored, floor_kept, floor_of_sender, sender_floor, applied, moved, after_accepting, after_hearing, after_sealing, sealed_at, with_given_net, with_given_link, with_declared}
use Rattle.zb_model.specs.Readings.{speaker, after, heard_line, state_of}
use Rattle.zb_model.specs.Claims.{Each}
use Rattle.law_run.proofs.Basics.{append-nil', find-map, same_key-eq, same_key-refl, state-snoc}
use Rattle.law_run.proofs.Finds.{HoldsOf}
use Rattle.law_run.proofs.FloorRows.{Sorted, FloorAt, Takes, of_sender}
use Rattle.law_run.proofs.Nets.{Holds, On}
use Rattle.law_run.proofs.OnceLines.{AcceptFits, AcceptState, LinkTakes, RowTakes, TakesAt}
use Rattle.law_run.proofs.Sound.{Sound, sound}
use Rattle.law_run_readings.specs.Agreeing.{link_memory, memory_at, net_memory}
use Rattle.law_run_readings.specs.LastLines.{accepted_in, accepted_since, is_from}
use Rattle.law_run_readings.proofs.Keeping.{link_asks}
use Rattle.law_run_readings.proofs.Rows.{KeepsLink, above_from, absent_row, found_link, link_at, link_same, new_row_other, new_row_own, other_row, own_row, row_at}

-- ---- the floors of a row

abbrev pub kept_of : ℕ → List SenderFloor → ℕ
kept_of sender fs = (floor_of_sender sender (find (of_sender sender) fs)).kept

pub memory_is : (sender : ℕ) (r : NetKey) → net_memory sender (Some r) ≡ kept_of sender r.floors
unfolding sender_floor
memory_is sender r = refl

-- a floor that is stored
placed_kept : (sender value of : ℕ) (fs : List SenderFloor) → Sorted fs
    → kept_of of (floor_stored sender value fs) ≡ kept_of of fs
unfolding Sorted
placed_kept sender value of [] s = by_test (nat_eq sender of)
  where
    by_test : (b : Bool)
        → (floor_of_sender of (cond b (Some (record { sender = sender; kept = 0; stored = value })) None)).kept ≡ 0
    by_test true = refl
    by_test false = refl
placed_kept sender value of (f ∷ fs) s = by_tests (nat_lt sender f.sender) refl (nat_eq sender f.sender)
    (placed_kept sender value of fs s.1)
  where
    new : SenderFloor
    new = record { sender = sender; kept = 0; stored = value }

    raised : SenderFloor
    raised = record f { stored = max f.stored value }

    before : sender < f.sender → (b : Bool) → nat_eq sender of ≡ b
        → (floor_of_sender of (cond b (Some new) (find (of_sender of) (f ∷ fs)))).kept ≡ kept_of of (f ∷ fs)
    before lt true e = sym (ap (λ o. (floor_of_sender of o).kept)
        (subst (λ m. find (of_sender m) (f ∷ fs) ≡ None) (eqb-true sender of e) (above_from sender f fs lt s.0)))
    before lt false e = refl

    here : (b : Bool) → (floor_of_sender of (cond b (Some raised) (find (of_sender of) fs))).kept
        ≡ (floor_of_sender of (cond b (Some f) (find (of_sender of) fs))).kept
    here true = refl
    here false = refl

    later : (b : Bool) → kept_of of (floor_stored sender value fs) ≡ kept_of of fs
        → (floor_of_sender of (cond b (Some f) (find (of_sender of) (floor_stored sender value fs)))).kept
        ≡ (floor_of_sender of (cond b (Some f) (find (of_sender of) fs))).kept
    later true more = refl
    later false more = more

    by_tests : (b : Bool) → nat_lt sender f.sender ≡ b → (d : Bool)
        → kept_of of (floor_stored sender value fs) ≡ kept_of of fs
        → kept_of of (cond b (new ∷ f ∷ fs) (cond d (raised ∷ fs) (f ∷ floor_stored sender value fs)))
        ≡ kept_of of (f ∷ fs)
    by_tests true e d more = before (ltb-true sender f.sender e) (nat_eq sender of) refl
    by_tests false e true more = here (nat_eq f.sender of)
    by_tests false e false more = later (nat_eq f.sender of) more

-- an accepted counter: of its sender, which has a floor, and of another
kept_own : (P : SenderFloor → Type 0) (sender v : ℕ) (fs : List SenderFloor) → FloorAt P sender fs
    → kept_of sender (floor_kept sender v fs) ≡ v
unfolding HoldsOf
kept_own P sender v [] h = absurd h
kept_own P sender v (f ∷ fs) h = by_test (nat_eq f.sender sender) refl h (λ more. kept_own P sender v fs more)
  where
    by_test : (b : Bool) → nat_eq f.sender sender ≡ b → HoldsOf P (cond b (Some f) (find (of_sender sender) fs))
        → (FloorAt P sender fs → kept_of sender (floor_kept sender v fs) ≡ v)
        → kept_of sender (cond b (record f { kept = v }) f ∷ floor_kept sender v fs) ≡ v
    by_test true e h more =
        ap (λ b. (floor_of_sender sender
        (cond b (Some (record f { kept = v })) (find (of_sender sender) (floor_kept sender v fs)))).kept) e
    by_test false e h more =
        ap (λ b. (floor_of_sender sender (cond b (Some f) (find (of_sender sender) (floor_kept sender v fs)))).kept) e
        ∙ more h

kept_other : (source v of : ℕ) (fs : List SenderFloor) → nat_eq source of ≡ false
    → kept_of of (floor_kept source v fs) ≡ kept_of of fs
kept_other source v of [] other = refl
kept_other source v of (f ∷ fs) other = by_test (nat_eq f.sender source) refl (kept_other source v of fs other)
  where
    skip : nat_eq f.sender source ≡ true → nat_eq f.sender of ≡ false
    skip e = ap (λ x. nat_eq x of) (eqb-true f.sender source e) ∙ other

    both : (b : Bool) → kept_of of (floor_kept source v fs) ≡ kept_of of fs
        → (floor_of_sender of (cond b (Some f) (find (of_sender of) (floor_kept source v fs)))).kept
        ≡ (floor_of_sender of (cond b (Some f) (find (of_sender of) fs))).kept
    both true more = refl
    both false more = more

    by_test : (b : Bool) → nat_eq f.sender source ≡ b → kept_of of (floor_kept source v fs) ≡ kept_of of fs
        → kept_of of (cond b (record f { kept = v }) f ∷ floor_kept source v fs) ≡ kept_of of (f ∷ fs)
    by_test true e more =
        ap (λ b. (floor_of_sender of
        (cond b (Some (record f { kept = v })) (find (of_sender of) (floor_kept source v fs)))).kept) (skip e)
        ∙ more ∙ sym (ap (λ b. (floor_of_sender of (cond b (Some f) (find (of_sender of) fs))).kept) (skip e))
    by_test false e more = both (nat_eq f.sender of) more

-- ---- network rows

abbrev AllSorted : List NetKey → Type 0
AllSorted nets = AllByRecursion (λ (r : NetKey). Sorted r.floors) nets

-- a change that leaves what is kept of senders
record LeavesKept (f : NetKey → NetKey) : Type 0 where
  key : (r : NetKey) → (f r).key ≡ r.key
  kept : (r : NetKey) (sender : ℕ) → Sorted r.floors → kept_of sender (f r).floors ≡ kept_of sender r.floors

nets_kept : (f : NetKey → NetKey) → LeavesKept f → (sender : ℕ) (key : Bytes) (nets : List NetKey) → AllSorted nets
    → net_memory sender (row_at key (map f nets)) ≡ net_memory sender (row_at key nets)
nets_kept f k sender key [] s = refl
nets_kept f k sender key (r ∷ rs) s =
    ap (λ x. net_memory sender (cond (same_key x key) (Some (f r)) (row_at key (map f rs)))) (k.key r) ∙
    by_test (same_key r.key key) (nets_kept f k sender key rs s.1)
  where
    by_test : (b : Bool) → net_memory sender (row_at key (map f rs)) ≡ net_memory sender (row_at key rs)
        → net_memory sender (cond b (Some (f r)) (row_at key (map f rs)))
        ≡ net_memory sender (cond b (Some r) (row_at key rs))
    by_test true more = memory_is sender (f r) ∙ k.kept r sender s.0 ∙ sym (memory_is sender r)
    by_test false more = more

nets_at_kept : (f : NetKey → NetKey) → LeavesKept f → (sender : ℕ) (a key : Bytes) (nets : List NetKey)
    → AllSorted nets → net_memory sender (row_at key (at_net a f nets)) ≡ net_memory sender (row_at key nets)
nets_at_kept f k sender a key nets s =
    nets_kept (λ r. cond (same_key r.key a) (f r) r)
    (record { key = λ r. key_ (same_key r.key a) r; kept = λ r of t. kept_ (same_key r.key a) r of t }) sender key nets
    s
  where
    key_ : (b : Bool) (r : NetKey) → (cond b (f r) r).key ≡ r.key
    key_ true r = k.key r
    key_ false r = refl

    kept_ : (b : Bool) (r : NetKey) (of : ℕ) → Sorted r.floors
        → kept_of of (cond b (f r) r).floors ≡ kept_of of r.floors
    kept_ true r of t = k.kept r of t
    kept_ false r of t = refl

plain_kept : (f : NetKey → NetKey) → ((r : NetKey) → (f r).key ≡ r.key) → ((r : NetKey) → (f r).floors ≡ r.floors)
    → LeavesKept f
plain_kept f key floors = record { key = key; kept = λ r sender s. ap (kept_of sender) (floors r) }

floor_leaves : (from v : ℕ) → LeavesKept (net_floor from v)
floor_leaves from v = record { key = λ r. refl; kept = λ r sender s. placed_kept from v sender r.floors s }

-- a new row without floors
more_kept : (x : NetKey) → x.floors ≡ [] → (sender : ℕ) (key : Bytes) (nets : List NetKey)
    → net_memory sender (row_at key (cond (has_net x.key nets) nets (nets ++ x ∷ [])))
    ≡ net_memory sender (row_at key nets)
more_kept x empty sender key nets = by_has (has_net x.key nets) refl
  where
    by_has : (b : Bool) → has_net x.key nets ≡ b
        → net_memory sender (row_at key (cond b nets (nets ++ x ∷ []))) ≡ net_memory sender (row_at key nets)
    by_has true e = refl
    by_has false e = by_key (same_key x.key key) refl
      where
        by_key : (b : Bool) → same_key x.key key ≡ b
            → net_memory sender (row_at key (nets ++ x ∷ [])) ≡ net_memory sender (row_at key nets)
        by_key false other = ap (net_memory sender) (new_row_other x key nets other)
        by_key true same =
            subst (λ y. net_memory sender (row_at y (nets ++ x ∷ [])) ≡ net_memory sender (row_at y nets))
            (same_key-eq x.key key same)
            (ap (net_memory sender) (new_row_own x nets e) ∙ memory_is sender x ∙ ap (kept_of sender) empty ∙ sym
            (ap (net_memory sender) (absent_row x.key nets e)))

declared_leaves : (v : ℕ) → LeavesKept (declared_at v)
declared_leaves v = record { key = λ r. key_ r.started r; kept = λ r sender s. kept_ r.started r sender }
  where
    raised : NetKey → NetKey
    raised r = record r { limit = max r.limit v; next = max r.next v }

    key_ : (b : Bool) (r : NetKey) → (cond b (raised r) r).key ≡ r.key
    key_ true r = refl
    key_ false r = refl

    kept_ : (b : Bool) (r : NetKey) (sender : ℕ) → kept_of sender (cond b (raised r) r).floors
        ≡ kept_of sender r.floors
    kept_ true r sender = refl
    kept_ false r sender = refl

active_kept : (v sender : ℕ) (key : Bytes) (o : Option Bytes) (nets : List NetKey) → AllSorted nets
    → net_memory sender (row_at key (of_active (reserved v) o nets)) ≡ net_memory sender (row_at key nets)
active_kept v sender key None nets s = refl
active_kept v sender key (Some a) nets s =
    nets_at_kept (reserved v) (plain_kept (reserved v) (λ r. refl) (λ r. refl)) sender a key nets s

net_moved : (sender : ℕ) (key : Bytes) (m : Move) (s : NodeState) → AllSorted s.nets
    → net_memory sender (row_at key (moved m s).nets) ≡ net_memory sender (row_at key s.nets)
net_moved sender key (Draw k) s all = refl
net_moved sender key (DropNet k) s all =
    nets_at_kept dropped_net (plain_kept dropped_net (λ r. refl) (λ r. refl)) sender k key s.nets all
net_moved sender key (DropLink p k) s all = refl
net_moved sender key (Install k q) s all = more_kept (new_net k q) refl sender key s.nets
net_moved sender key (Active k) s all = refl
net_moved sender key (Row p k a) s all = refl
net_moved sender key (Pair a b k) s all = refl
net_moved sender key (Became g) s all = refl
net_moved sender key (Live d) s all = refl
net_moved sender key (Removed d) s all = refl
net_moved sender key (Roll b) s all = refl
net_moved sender key (Told d) s all = refl
net_moved sender key (Untold d) s all = refl

net_applied : (sender : ℕ) (key : Bytes) (e : Edit) (s : NodeState) → AllSorted s.nets
    → net_memory sender (row_at key (applied e s).nets) ≡ net_memory sender (row_at key s.nets)
unfolding applied
net_applied sender key (Reserve Nwk v) s all = active_kept v sender key s.active s.nets all
net_applied sender key (Reserve Aps v) s all = refl
net_applied sender key (Floor Nwk k from v) s all =
    nets_at_kept (net_floor from v) (floor_leaves from v) sender k key s.nets all
net_applied sender key (Floor Aps k from v) s all = refl
net_applied sender key (Start k v) s all =
    nets_at_kept (started_at v) (plain_kept (started_at v) (λ r. refl) (λ r. refl)) sender k key s.nets all
net_applied sender key (Moved m) s all = net_moved sender key m s all

-- ---- link rows

left_memory : (f : LinkKey → LinkKey) → ((r : LinkKey) → (f r).kept ≡ r.kept) → (o : Option LinkKey)
    → link_memory (option_map f o) ≡ link_memory o
left_memory f kept None = refl
left_memory f kept (Some r) = kept r

links_kept : (f : LinkKey → LinkKey) → KeepsLink f → ((r : LinkKey) → (f r).kept ≡ r.kept) → (p : ℕ) (key : Bytes)
    (links : List LinkKey) → link_memory (link_at p key (map f links)) ≡ link_memory (link_at p key links)
links_kept f same kept p key links =
    ap link_memory (find-map (is_link p key) f (link_same f same p key) links) ∙ left_memory f kept
    (link_at p key links)

-- of the rows that pass a test
some_kept : (f : LinkKey → LinkKey) → KeepsLink f → ((r : LinkKey) → (f r).kept ≡ r.kept) → (test : LinkKey → Bool)
    (p : ℕ) (key : Bytes) (links : List LinkKey)
    → link_memory (link_at p key (map (λ r. cond (test r) (f r) r) links)) ≡ link_memory (link_at p key links)
some_kept f same kept test p key links =
    links_kept (λ r. cond (test r) (f r) r)
    (record { partner = λ r. partner_ (test r) r; key = λ r. key_ (test r) r }) (λ r. kept_ (test r) r) p key links
  where
    partner_ : (b : Bool) (r : LinkKey) → (cond b (f r) r).partner ≡ r.partner
    partner_ true r = same.partner r
    partner_ false r = refl

    key_ : (b : Bool) (r : LinkKey) → (cond b (f r) r).key ≡ r.key
    key_ true r = same.key r
    key_ false r = refl

    kept_ : (b : Bool) (r : LinkKey) → (cond b (f r) r).kept ≡ r.kept
    kept_ true r = kept r
    kept_ false r = refl

more_memory : (x : LinkKey) → x.kept ≡ 0 → (p : ℕ) (key : Bytes) (links : List LinkKey)
    → link_memory (link_at p key (links ++ x ∷ [])) ≡ link_memory (link_at p key links)
more_memory x zero_is p key [] = by_test (is_link p key x)
  where
    by_test : (b : Bool) → link_memory (cond b (Some x) None) ≡ 0
    by_test true = zero_is
    by_test false = refl
more_memory x zero_is p key (r ∷ rs) = by_test (is_link p key r) (more_memory x zero_is p key rs)
  where
    by_test : (b : Bool) → link_memory (link_at p key (rs ++ x ∷ [])) ≡ link_memory (link_at p key rs)
        → link_memory (cond b (Some r) (link_at p key (rs ++ x ∷ [])))
        ≡ link_memory (cond b (Some r) (link_at p key rs))
    by_test true more = refl
    by_test false more = more

with_link_kept : (partner : ℕ) (k : Bytes) (a : Attribute) (told : Bool) (p : ℕ) (key : Bytes)
    (links : List LinkKey) → link_memory (link_at p key (with_link partner k a told links))
    ≡ link_memory (link_at p key links)
with_link_kept partner k a told p key links = by_has (has_link partner k links)
  where
    by_has : (b : Bool)
        → link_memory
        (link_at p key (cond b (at_link partner k (revived a told) links) (links ++ new_link partner k a told ∷ [])))
        ≡ link_memory (link_at p key links)
    by_has true = some_kept (revived a told) (record { partner = λ r. refl; key = λ r. refl }) (λ r. refl)
        (is_link partner k) p key links
    by_has false = more_memory (new_link partner k a told) refl p key links

told_kept : (d : ℕ) (b : Bool) (p : ℕ) (key : Bytes) (links : List LinkKey)
    → link_memory (link_at p key (with_told d b links)) ≡ link_memory (link_at p key links)
told_kept d b p key links = some_kept (told_as b) (record { partner = λ r. refl; key = λ r. refl }) (λ r. refl)
    (is_live_of d) p key links

rolled_kept : (b : Bool) (p : ℕ) (key : Bytes) (links : List LinkKey)
    → link_memory (link_at p key (cond b (map (told_as false) links) links)) ≡ link_memory (link_at p key links)
rolled_kept true p key links = links_kept (told_as false) (record { partner = λ r. refl; key = λ r. refl })
    (λ r. refl) p key links
rolled_kept false p key links = refl

link_moved : (p : ℕ) (key : Bytes) (m : Move) (s : NodeState)
    → link_memory (link_at p key (moved m s).links) ≡ link_memory (link_at p key s.links)
link_moved p key (Draw k) s = refl
link_moved p key (DropNet k) s = refl
link_moved p key (DropLink q k) s = some_kept dropped_link (record { partner = λ r. refl; key = λ r. refl })
    (λ r. refl) (is_link q k) p key s.links
link_moved p key (Install k q) s = refl
link_moved p key (Active k) s = refl
link_moved p key (Row q k a) s = with_link_kept q k a (is_told s q) p key s.links
link_moved p key (Pair a b k) s = refl
link_moved p key (Became g) s = refl
link_moved p key (Live d) s = told_kept d false p key s.links
link_moved p key (Removed d) s = refl
link_moved p key (Roll b) s = rolled_kept b p key s.links
link_moved p key (Told d) s = told_kept d true p key s.links
link_moved p key (Untold d) s = told_kept d false p key s.links

link_applied : (p : ℕ) (key : Bytes) (e : Edit) (s : NodeState)
    → link_memory (link_at p key (applied e s).links) ≡ link_memory (link_at p key s.links)
unfolding applied
link_applied p key (Reserve Nwk v) s = refl
link_applied p key (Reserve Aps v) s = refl
link_applied p key (Floor Nwk k from v) s = refl
link_applied p key (Floor Aps k from v) s = some_kept (link_floor v) (record { partner = λ r. refl; key = λ r. refl })
    (λ r. refl) (is_link from k) p key s.links
link_applied p key (Start k v) s = refl
link_applied p key (Moved m) s = link_moved p key m s

memory_applied : (layer : Layer) (key : Bytes) (sender : ℕ) (e : Edit) (s : NodeState) → Sound s
    → memory_at layer key sender (applied e s) ≡ memory_at layer key sender s
memory_applied Nwk key sender e s sound_ = net_applied sender key e s sound_.floors
memory_applied Aps key sender e s sound_ = link_applied sender key e s

-- ---- an accepted counter

heard_net : (base : Bytes) (source c : ℕ) (key : Bytes) (sender : ℕ) (nets : List NetKey)
    → On (RowTakes c source) base nets
    → net_memory sender (row_at key (at_net base (net_kept source (c + 1)) nets))
    ≡ cond (same_key base key && nat_eq source sender) (c + 1) (net_memory sender (row_at key nets))
unfolding Holds
heard_net base source c key sender nets on = by_key (same_key base key) refl
  where
    turned : same_key base key ≡ false → (b : Bool) → same_key key base ≡ b → same_key key base ≡ false
    turned other true e =
        absurd (false≢true (sym other ∙ ap (λ x. same_key x key) (sym (same_key-eq key base e)) ∙ same_key-refl key))
    turned other false e = e

    by_sender : (r : NetKey) → RowTakes c source r → (b : Bool) → nat_eq source sender ≡ b
        → kept_of sender (floor_kept source (c + 1) r.floors) ≡ cond b (c + 1) (kept_of sender r.floors)
    by_sender r takes true e = subst (λ x. kept_of x (floor_kept source (c + 1) r.floors) ≡ c + 1)
        (eqb-true source sender e) (kept_own (Takes c) source (c + 1) r.floors takes.1)
    by_sender r takes false e = kept_other source (c + 1) sender r.floors e

    by_row : (o : Option NetKey) → Holds (RowTakes c source) o
        → net_memory sender (option_map (net_kept source (c + 1)) o)
        ≡ cond (nat_eq source sender) (c + 1) (net_memory sender o)
    by_row None takes = absurd takes
    by_row (Some r) takes =
        memory_is sender (net_kept source (c + 1) r) ∙ by_sender r takes (nat_eq source sender) refl
        ∙ ap (cond (nat_eq source sender) (c + 1)) (sym (memory_is sender r))

    by_key : (b : Bool) → same_key base key ≡ b
        → net_memory sender (row_at key (at_net base (net_kept source (c + 1)) nets))
        ≡ cond (b && nat_eq source sender) (c + 1) (net_memory sender (row_at key nets))
    by_key true e =
        subst (λ x. net_memory sender (row_at x (at_net base (net_kept source (c + 1)) nets))
        ≡ cond (nat_eq source sender) (c + 1) (net_memory sender (row_at x nets))) (same_key-eq base key e)
        (ap (net_memory sender) (own_row (net_kept source (c + 1)) (λ r. refl) base nets)
        ∙ by_row (row_at base nets) on)
    by_key false e = ap (net_memory sender)
        (other_row (net_kept source (c + 1)) (λ r. refl) base key nets (turned e (same_key key base) refl))

heard_link : (base : Bytes) (source c : ℕ) (key : Bytes) (sender : ℕ) (links : List LinkKey)
    → HoldsOf (LinkTakes c) (link_at source base links)
    → link_memory (link_at sender key (at_link source base (link_kept (c + 1)) links))
    ≡ cond (same_key base key && nat_eq source sender) (c + 1) (link_memory (link_at sender key links))
unfolding HoldsOf
heard_link base source c key sender links on =
    ap link_memory
    (find-map (is_link sender key) (λ (r : LinkKey). cond (is_link source base r) (link_kept (c + 1) r) r)
    (λ r. same_link (is_link source base r) r) links)
    ∙ by_row (link_at sender key links) refl
  where
    same_link : (b : Bool) (r : LinkKey) → is_link sender key (cond b (link_kept (c + 1) r) r) ≡ is_link sender key r
    same_link true r = refl
    same_link false r = refl

    none : (b d : Bool) → same_key base key ≡ b → nat_eq source sender ≡ d → link_at sender key links ≡ None
        → 0 ≡ cond (b && d) (c + 1) 0
    none true true e f gone = absurd (subst (HoldsOf (LinkTakes c))
        (ap (λ x. link_at x base links) (eqb-true source sender f) ∙ ap (λ x. link_at sender x links)
        (same_key-eq base key e) ∙ gone) on)
    none true false e f gone = refl
    none false d e f gone = refl

    one : (b : Bool) (r : LinkKey) → link_memory (Some (cond b (link_kept (c + 1) r) r)) ≡ cond b (c + 1) r.kept
    one true r = refl
    one false r = refl

    by_row : (o : Option LinkKey) → link_at sender key links ≡ o
        → link_memory (option_map (λ (r : LinkKey). cond (is_link source base r) (link_kept (c + 1) r) r) o)
        ≡ cond (same_key base key && nat_eq source sender) (c + 1) (link_memory o)
    by_row None e = none (same_key base key) (nat_eq source sender) refl refl e
    by_row (Some r) e =
        one (is_link source base r) r ∙ ap (λ b. cond b (c + 1) r.kept)
        (link_asks source base sender key r (found_link sender key links r e))

heard_memory : (layer of : Layer) (base : Bytes) (source c : ℕ) (key : Bytes) (sender : ℕ) (s : NodeState)
    → TakesAt of c base source s → memory_at layer key sender (after_hearing of base source c s)
    ≡ cond (same_layer of layer && (same_key base key && nat_eq source sender)) (c + 1) (memory_at layer key sender s)
unfolding after_hearing TakesAt
heard_memory Nwk Nwk base source c key sender s on = heard_net base source c key sender s.nets on
heard_memory Nwk Aps base source c key sender s on = refl
heard_memory Aps Nwk base source c key sender s on = refl
heard_memory Aps Aps base source c key sender s on = heard_link base source c key sender s.links on

-- ---- one own line

abbrev pub NoBoot : Line → Type 0
NoBoot (Boot e n) = ⊥
NoBoot _ = Unit {0}

given_memory : (layer : Layer) (key : Bytes) (sender : ℕ) (k : Bytes) (q : ℕ) (s : NodeState)
    → memory_at layer key sender (with_given_net k q s) ≡ memory_at layer key sender s
unfolding with_given_net
given_memory Nwk key sender k q s = more_kept (given_net s.declared k q) refl sender key s.nets
given_memory Aps key sender k q s = refl

code_memory : (layer : Layer) (key : Bytes) (sender p : ℕ) (k : Bytes) (s : NodeState)
    → memory_at layer key sender (with_given_link p k s) ≡ memory_at layer key sender s
unfolding with_given_link
code_memory Nwk key sender p k s = refl
code_memory Aps key sender p k s = with_link_kept p k Provisional false sender key s.links

declared_memory : (layer of : Layer) (key : Bytes) (sender v : ℕ) (s : NodeState) → Sound s
    → memory_at layer key sender (with_declared of v s) ≡ memory_at layer key sender s
unfolding with_declared
declared_memory Nwk Nwk key sender v s sound_ = nets_kept (declared_at v) (declared_leaves v) sender key s.nets
    sound_.floors
declared_memory Nwk Aps key sender v s sound_ = refl
declared_memory Aps Nwk key sender v s sound_ = refl
declared_memory Aps Aps key sender v s sound_ = refl

sealed_memory : (layer of : Layer) (key : Bytes) (sender : ℕ) (t : Term) (s : NodeState) → Sound s
    → memory_at layer key sender (sealed_at of t s) ≡ memory_at layer key sender s
sealed_memory Nwk Nwk key sender t s sound_ =
    nets_at_kept (next_at (t.counter + 1)) (plain_kept (next_at (t.counter + 1)) (λ r. refl) (λ r. refl)) sender
    t.base key s.nets sound_.floors
sealed_memory Nwk Aps key sender t s sound_ = refl
sealed_memory Aps Nwk key sender t s sound_ = refl
sealed_memory Aps Aps key sender t s sound_ = refl

declares_memory : (layer : Layer) (key : Bytes) (sender : ℕ) (role : Rattle.zb_model.specs.Data.Role) (s : NodeState)
    → memory_at layer key sender (record s { role = role }) ≡ memory_at layer key sender s
declares_memory Nwk key sender role s = refl
declares_memory Aps key sender role s = refl

taken : (b : Bool) (v x : ℕ) (found : Option ℕ) (m : ℕ) → m ≡ unwrap_or found x
    → cond b v m ≡ unwrap_or (cond b (Some v) found) x
taken true v x found m is = refl
taken false v x found m is = is

line_memory : (layer : Layer) (key : Bytes) (sender x : ℕ) (found : Option ℕ) (l : Line) (s : NodeState) → Sound s
    → NoBoot l → AcceptState l s → memory_at layer key sender s ≡ unwrap_or found x
    → memory_at layer key sender (after l s) ≡ unwrap_or (accepted_in layer key sender found l) x
unfolding after after_accepting after_sealing
line_memory layer key sender x found (Declared p) s sound_ free takes is =
    declares_memory layer key sender p.role s ∙ is
line_memory layer key sender x found (GivenNet n k q) s sound_ free takes is =
    given_memory layer key sender k q s ∙ is
line_memory layer key sender x found (GivenLink n p k) s sound_ free takes is =
    code_memory layer key sender p k s ∙ is
line_memory layer key sender x found (Counter n of v) s sound_ free takes is =
    declared_memory layer of key sender v s sound_ ∙ is
line_memory layer key sender x found (Changed e n edit) s sound_ free takes is =
    memory_applied layer key sender edit s sound_ ∙ is
line_memory layer key sender x found (Accept e n t) s sound_ free takes is =
    heard_memory layer t.layer t.base t.source t.counter key sender s takes
    ∙ taken (is_from layer key sender t) (t.counter + 1) x found (memory_at layer key sender s) is
line_memory layer key sender x found (Seal e n t) s sound_ free takes is =
    sealed_memory layer t.layer key sender t s sound_ ∙ is
line_memory layer key sender x found (Boot e n) s sound_ free takes is = absurd free
line_memory layer key sender x found _ s sound_ free takes is = is

-- ---- lines

pub accepted_snoc : (n : ℕ) (layer : Layer) (key : Bytes) (sender : ℕ) (h : List Line) (l : Line)
    → accepted_since n layer key sender (h ++ l ∷ [])
    ≡ cond (nat_eq (speaker l) n) (accepted_in layer key sender (accepted_since n layer key sender h) l)
    (accepted_since n layer key sender h)
unfolding accepted_since
accepted_snoc n layer key sender h l = Rattle.std.proofs.lemmas.List.Sums.fold-append
    (λ found x. cond (nat_eq (speaker x) n) (accepted_in layer key sender found x) found) None h (l ∷ [])

pub lines_memory : (n : ℕ) (layer : Layer) (key : Bytes) (sender x : ℕ) (h ls : List Line)
    → AllByRecursion NoBoot ls → Each AcceptFits h ls
    → memory_at layer key sender (state_of h n) ≡ unwrap_or (accepted_since n layer key sender h) x
    → memory_at layer key sender (state_of (h ++ ls) n) ≡ unwrap_or (accepted_since n layer key sender (h ++ ls)) x
unfolding heard_line
lines_memory n layer key sender x h [] free takes is =
    subst (λ y. memory_at layer key sender (state_of y n) ≡ unwrap_or (accepted_since n layer key sender y) x)
    (sym (append-nil' h)) is
lines_memory n layer key sender x h (l ∷ ls) free takes is =
    subst (λ y. memory_at layer key sender (state_of y n) ≡ unwrap_or (accepted_since n layer key sender y) x)
    (Rattle.std.proofs.Common.append_assoc h (l ∷ []) ls)
    (lines_memory n layer key sender x (h ++ l ∷ []) ls free.1 takes.1
    (ap (memory_at layer key sender) (state-snoc h l n) ∙ by_speaker (nat_eq (speaker l) n) refl ∙ ap
    (λ o. unwrap_or o x) (sym (accepted_snoc n layer key sender h l))))
  where
    by_speaker : (b : Bool) → nat_eq (speaker l) n ≡ b
        → memory_at layer key sender (cond b (after l (state_of h n)) (state_of h n))
        ≡ unwrap_or (cond b (accepted_in layer key sender (accepted_since n layer key sender h) l)
        (accepted_since n layer key sender h)) x
    by_speaker true e =
        line_memory layer key sender x (accepted_since n layer key sender h) l (state_of h n) (sound h n) free.0
        (subst (λ m. AcceptState l (state_of h m)) (eqb-true (speaker l) n e) takes.0) is
    by_speaker false e = is
