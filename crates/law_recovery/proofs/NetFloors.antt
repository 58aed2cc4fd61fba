-- If what a node accepted from a sender under a network key is below a number, the sender's floor there is at most a
-- block above that number.
use Rattle.std.proofs.Common.{◌≡◌, ℕ, ◌+◌, ◌-◌, ◌<◌, ◌≤◌, max, Bool, true, false, cond, List, [], ◌∷◌, ◌++◌, fold, find, Option, Some, None, nat_eq, nat_lt, refl, sym, ◌∙◌, arith, eqb-true}
use Rattle.std.specs.List.{AllByRecursion}
use Rattle.zb_model.specs.Data.{Bytes, Layer, Nwk, Aps, Device, Term, Move, DropNet, Install, Edit, Reserve, Floor, Start, Moved}
use Rattle.zb_model.specs.Lines.{Line, GivenNet, Counter, Changed, Accept, Seal, Boot}
use Rattle.zb_model.specs.Play.{Schedule, setting_of}
use Rattle.zb_model.specs.Readings.{state_of, heard_line, after, speaker}
use Rattle.zb_model.specs.State.{SenderFloor, NetKey, NodeState, new_node, same_key, has_net, of_active, reserved, started_at, dropped_net, net_floor, net_kept, new_net, given_net, declared_at, next_at, floor_stored, floor_kept, floor_of_sender, sender_floor, booted_floor, booted_net, moved, applied, sealed_at, after_sealing, after_hearing, after_accepting, after_boot, with_given_net, with_given_link, with_declared, next_counter}
use Rattle.law_change_fits.proofs.Parts.{same_key_is, same_key_of}
use Rattle.law_recovery.specs.Meeting.{HasNetwork}
use Rattle.law_run.proofs.FreshLines.{all-append, heard-keeps}
use Rattle.law_run.proofs.Judged.{all-in, found-element}
use Rattle.law_recovery.specs.Fronts.{Front}
use Rattle.law_recovery.specs.Rounds.{CameFrom, IsBelow}
use Rattle.law_recovery.proofs.Floors.{all_found, changed, if_then, mapped}
use Rattle.law_recovery.proofs.Twice.{among}

-- the floor of a sender is within a bound, and so it is in the row of a key
abbrev FloorWithin : ℕ → ℕ → SenderFloor → Type 0
FloorWithin source most f = nat_eq f.sender source ≡ true → (f.kept ≤ most) × (f.stored ≤ most)

abbrev NetWithin : ℕ → Bytes → ℕ → NetKey → Type 0
NetWithin source key most r = same_key r.key key ≡ true → AllByRecursion (FloorWithin source most) r.floors

abbrev AllNets : ℕ → Bytes → ℕ → List NetKey → Type 0
AllNets source key most rs = AllByRecursion (NetWithin source key most) rs

-- ---- floors

larger : (a b most : ℕ) → a ≤ most → b ≤ most → max a b ≤ most
larger a b most x y = omega (arith, x, y)

new_within : (source most sender value : ℕ) → (sender ≡ source → value ≤ most)
    → FloorWithin source most (record { sender = sender; kept = 0; stored = value })
new_within source most sender value fits e = (omega arith, fits (eqb-true sender source e))

raised_within : (source most sender value : ℕ) → (sender ≡ source → value ≤ most) → (f : SenderFloor)
    → nat_eq sender f.sender ≡ true → FloorWithin source most f
    → FloorWithin source most (record f { stored = max f.stored value })
raised_within source most sender value fits f same within e =
    let old = within e in (
      old.0,
      larger f.stored value most old.1 (fits (eqb-true sender f.sender same ∙ eqb-true f.sender source e)),
    )

stored_within : (source most sender value : ℕ) → (sender ≡ source → value ≤ most) → (fs : List SenderFloor)
    → AllByRecursion (FloorWithin source most) fs
    → AllByRecursion (FloorWithin source most) (floor_stored sender value fs)
stored_within source most sender value fits [] all = (new_within source most sender value fits, tt)
stored_within source most sender value fits (f ∷ fs) all =
    by_tests (nat_lt sender f.sender) (nat_eq sender f.sender) refl
    (stored_within source most sender value fits fs all.1)
  where
    by_tests : (a b : Bool) → nat_eq sender f.sender ≡ b
        → AllByRecursion (FloorWithin source most) (floor_stored sender value fs)
        → AllByRecursion (FloorWithin source most)
        (cond a (record { sender = sender; kept = 0; stored = value } ∷ f ∷ fs)
        (cond b (record f { stored = max f.stored value } ∷ fs) (f ∷ floor_stored sender value fs)))
    by_tests true b e later = (new_within source most sender value fits, all)
    by_tests false true e later = (raised_within source most sender value fits f e all.0, all.1)
    by_tests false false e later = (all.0, later)

kept_within : (source most sender kept : ℕ) → (sender ≡ source → kept ≤ most) → (fs : List SenderFloor)
    → AllByRecursion (FloorWithin source most) fs
    → AllByRecursion (FloorWithin source most) (floor_kept sender kept fs)
kept_within source most sender kept fits fs all =
    changed (FloorWithin source most) (λ (f : SenderFloor). nat_eq f.sender sender)
    (λ (f : SenderFloor). record f { kept = kept })
    (λ f same within e. (
      fits (sym (eqb-true f.sender sender same) ∙ eqb-true f.sender source e),
      (within e).1,
    )) fs all

-- ---- rows

abbrev key_of : Bytes → NetKey → Bool
key_of key r = same_key r.key key

reserved_within : (source : ℕ) (k : Bytes) (most limit : ℕ) (o : Option Bytes) (rs : List NetKey)
    → AllNets source k most rs → AllNets source k most (of_active (reserved limit) o rs)
reserved_within source k most limit None rs all = all
reserved_within source k most limit (Some key) rs all =
    changed (NetWithin source k most) (key_of key) (reserved limit) (λ r t x. x) rs all

added_within : (source : ℕ) (k : Bytes) (most : ℕ) (b : Bool) (r : NetKey) (rs : List NetKey)
    → NetWithin source k most r → AllNets source k most rs → AllNets source k most (cond b rs (rs ++ r ∷ []))
added_within source k most true r rs new all = all
added_within source k most false r rs new all = all-append (NetWithin source k most) rs (r ∷ []) all (new, tt)

after_move : (source : ℕ) (k : Bytes) (most : ℕ) (m : Move) (s : NodeState) → AllNets source k most s.nets
    → AllNets source k most (moved m s).nets
after_move source k most (DropNet key) s all =
    changed (NetWithin source k most) (key_of key) dropped_net (λ r t x. x) s.nets all
after_move source k most (Install key sequence) s all =
    added_within source k most (has_net key s.nets) (new_net key sequence) s.nets (λ e. tt) all
after_move source k most _ s all = all

keys_same : (a b k : Bytes) (r : NetKey) → same_key r.key a ≡ true → same_key r.key k ≡ true → a ≡ k
keys_same a b k r e f = sym (same_key_is r.key a e) ∙ same_key_is r.key k f

floor_within : (source : ℕ) (k : Bytes) (most sender : ℕ) (key : Bytes) (value : ℕ)
    → (key ≡ k → sender ≡ source → value ≤ most) → (r : NetKey) → same_key r.key key ≡ true
    → NetWithin source k most r → NetWithin source k most (net_floor sender value r)
floor_within source k most sender key value fits r at within e =
    stored_within source most sender value (fits (keys_same key key k r at e)) r.floors (within e)

hearing_within : (source : ℕ) (k : Bytes) (most sender : ℕ) (key : Bytes) (kept : ℕ)
    → (key ≡ k → sender ≡ source → kept ≤ most) → (r : NetKey) → same_key r.key key ≡ true
    → NetWithin source k most r → NetWithin source k most (net_kept sender kept r)
hearing_within source k most sender key kept fits r at within e =
    kept_within source most sender kept (fits (keys_same key key k r at e)) r.floors (within e)

one_more : (counter most : ℕ) → counter < most → counter + 1 ≤ most
one_more counter most lt = omega (arith, lt)

after_heard : (l : Layer) (source : ℕ) (k : Bytes) (most : ℕ) (key : Bytes) (sender counter : ℕ) (s : NodeState)
    → (l ≡ Nwk → key ≡ k → sender ≡ source → counter < most) → AllNets source k most s.nets
    → AllNets source k most (after_hearing l key sender counter s).nets
unfolding after_hearing
after_heard Nwk source k most key sender counter s fits all =
    changed (NetWithin source k most) (key_of key) (net_kept sender (counter + 1))
    (hearing_within source k most sender key (counter + 1) (λ x y. one_more counter most (fits refl x y))) s.nets all
after_heard Aps source k most key sender counter s fits all = all

after_seal : (l : Layer) (t : Term) (source : ℕ) (k : Bytes) (most : ℕ) (s : NodeState)
    → AllNets source k most s.nets → AllNets source k most (sealed_at l t s).nets
after_seal Nwk t source k most s all =
    changed (NetWithin source k most) (key_of t.base) (next_at (t.counter + 1)) (λ r t x. x) s.nets all
after_seal Aps t source k most s all = all

raised_row : (source : ℕ) (k : Bytes) (most value : ℕ) (r : NetKey) → NetWithin source k most r
    → NetWithin source k most (declared_at value r)
raised_row source k most value r within =
    if_then (NetWithin source k most) r.started (record r { limit = max r.limit value; next = max r.next value }) r
    (λ e. within) within

declared : (l : Layer) (value source : ℕ) (k : Bytes) (most : ℕ) (s : NodeState) → AllNets source k most s.nets
    → AllNets source k most (with_declared l value s).nets
unfolding with_declared
declared Nwk value source k most s all =
    mapped (NetWithin source k most) (declared_at value) (raised_row source k most value) s.nets all
declared Aps value source k most s all = all

after_edit : (source : ℕ) (k : Bytes) (number block b e n : ℕ) (edit : Edit) (s : NodeState) → n ≡ b
    → IsBelow Nwk number block b source k (Changed e n edit) → AllNets source k (number + (block - 1)) s.nets
    → AllNets source k (number + (block - 1)) (applied edit s).nets
unfolding applied
after_edit source k number block b e n (Floor Nwk key sender value) s own below all =
    changed (NetWithin source k (number + (block - 1))) (key_of key) (net_floor sender value)
    (floor_within source k (number + (block - 1)) sender key value (λ x y. at_most (below own refl x y))) s.nets all
  where
    at_most : (counter : ℕ) × (counter < number) × (value ≤ counter + block) → value ≤ number + (block - 1)
    at_most x = omega (arith, x.2, x.1)
after_edit source k number block b e n (Moved m) s own below all =
    after_move source k (number + (block - 1)) m s all
after_edit source k number block b e n (Reserve Nwk limit) s own below all =
    reserved_within source k (number + (block - 1)) limit s.active s.nets all
after_edit source k number block b e n (Reserve Aps limit) s own below all = all
after_edit source k number block b e n (Floor Aps key sender value) s own below all = all
after_edit source k number block b e n (Start key value) s own below all =
    changed (NetWithin source k (number + (block - 1))) (key_of key) (started_at value) (λ r t x. x) s.nets all

-- ---- lines

after_line : (source : ℕ) (k : Bytes) (number block b : ℕ) (l : Line) (s : NodeState) → speaker l ≡ b
    → IsBelow Nwk number block b source k l → AllNets source k (number + (block - 1)) s.nets
    → AllNets source k (number + (block - 1)) (after l s).nets
unfolding after speaker after_sealing after_accepting after_boot with_given_net with_given_link
after_line source k number block b (GivenNet n key sequence) s own below all =
    added_within source k (number + (block - 1)) (has_net key s.nets) (given_net s.declared key sequence) s.nets
    (λ e. tt) all
after_line source k number block b (Counter n layer limit) s own below all =
    declared layer limit source k (number + (block - 1)) s all
after_line source k number block b (Changed e n edit) s own below all =
    after_edit source k number block b e n edit s own below all
after_line source k number block b (Accept e n t) s own below all =
    after_heard t.layer source k (number + (block - 1)) t.base t.source t.counter s
    (λ layer key sender. above (below own layer key sender)) all
  where
    above : t.counter < number → t.counter < number + (block - 1)
    above lt = omega (arith, lt)
after_line source k number block b (Seal e n t) s own below all =
    after_seal t.layer t source k (number + (block - 1)) s all
after_line source k number block b (Boot e n) s own below all =
    mapped (NetWithin source k (number + (block - 1))) booted_net
    (λ r x e. mapped (FloorWithin source (number + (block - 1))) booted_floor (λ f y g. ((y g).1, (y g).1)) r.floors
    (x e)) s.nets all
after_line source k number block b _ s own below all = all

heard : (source : ℕ) (k : Bytes) (number block b : ℕ) (s : NodeState) (h : List Line)
    → AllByRecursion (IsBelow Nwk number block b source k) h → AllNets source k (number + (block - 1)) s.nets
    → AllNets source k (number + (block - 1)) (fold (heard_line b) s h).nets
heard source k number block b s [] below all = all
heard source k number block b s (l ∷ h) below all =
    heard source k number block b (heard_line b s l) h below.1
    (heard-keeps (λ (z : NodeState). AllNets source k (number + (block - 1)) z.nets) b l s
    (λ own. after_line source k number block b l s own below.0 all) all)

-- ---- the floor of the sender

floor_found : (source most : ℕ) (fs : List SenderFloor) → AllByRecursion (FloorWithin source most) fs
    → (floor_of_sender source (find (λ (f : SenderFloor). nat_eq f.sender source) fs)).kept ≤ most
floor_found source most fs all = by_found (find (λ (f : SenderFloor). nat_eq f.sender source) fs) refl
  where
    by_found : (o : Option SenderFloor) → find (λ (f : SenderFloor). nat_eq f.sender source) fs ≡ o
        → (floor_of_sender source o).kept ≤ most
    by_found None e = omega arith
    by_found (Some f) e =
        (all_found (FloorWithin source most) (λ (g : SenderFloor). nat_eq g.sender source) fs f all e
        (found-element (λ (g : SenderFloor). nat_eq g.sender source) fs f e).1).0

pub sender_within : (w : Schedule) (x : Front) (a b : ℕ) (key : Bytes) (sequence : ℕ)
    → (h : HasNetwork (state_of x.lines b) key sequence) → CameFrom Nwk w x a b key
    → (sender_floor (setting_of w a).me.eui h.found).kept
    ≤ next_counter Nwk (state_of x.lines a) + ((setting_of w b).me.in_block - 1)
unfolding state_of sender_floor
sender_within w x a b key sequence h came =
    let number = next_counter Nwk (state_of x.lines a) in
    let block = (setting_of w b).me.in_block in
    let eui = (setting_of w a).me.eui in
    let all = heard eui key number block b (new_node Device) x.lines came tt in
    let row = all-in (NetWithin eui key (number + (block - 1))) (state_of x.lines b).nets all h.found
    (among (state_of x.lines b) sequence h.found h.is_found) in
    floor_found eui (number + (block - 1)) h.found.floors (row (same_key_of h.found.key key h.found_key))

less_than_block : (kept number block : ℕ) → kept ≤ number + (block - 1) → 1 ≤ block → kept - number < block
less_than_block kept number block most some = omega (arith, most, some)

pub sender_at_most : (w : Schedule) (x : Front) (a b : ℕ) (key : Bytes) (sequence : ℕ)
    → (h : HasNetwork (state_of x.lines b) key sequence) → CameFrom Nwk w x a b key → 1 ≤ (setting_of w b).me.in_block
    → (sender_floor (setting_of w a).me.eui h.found).kept - next_counter Nwk (state_of x.lines a)
    < (setting_of w b).me.in_block
sender_at_most w x a b key sequence h came some =
    less_than_block (sender_floor (setting_of w a).me.eui h.found).kept (next_counter Nwk (state_of x.lines a))
    (setting_of w b).me.in_block (sender_within w x a b key sequence h came) some
