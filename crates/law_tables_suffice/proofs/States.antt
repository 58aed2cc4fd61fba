-- What lines say of a node's state: its network rows have different keys.
use Rattle.std.proofs.Common.{◌≡◌, ℕ, ◌+◌, List, [], ◌∷◌, ◌++◌, map, fold, refl, ap, ◌∙◌, Bool, true, false, not, if◌then◌else◌, ◌&&◌, Option, Some, None, nat_eq}
use Rattle.std.specs.List.{list_any}
use Rattle.zb_model.specs.Data.{Bytes, Device, Layer, Nwk, Aps, Term, Move, Draw, DropNet, DropLink, Install, Active, Row, Pair, Became, Live, Removed, Roll, Told, Untold, Edit, Reserve, Floor, Start, Moved}
use Rattle.zb_model.specs.Lines.{Line, Declared, GivenNet, GivenLink, Counter, Changed, Commit, Accept, Refuse, Seal, Forge, Send, Inject, Stopped, DownReset, DownDisk, Boot, Dump, End}
use Rattle.zb_model.specs.State.{NodeState, NetKey, new_node, same_key, has_net, at_net, of_active, new_net, given_net, reserved, started_at, dropped_net, net_floor, net_kept, next_at, booted_net, declared_at, moved, applied, sealed_at, after_sealing, after_hearing, after_accepting, after_boot, with_given_net, with_given_link, with_declared}
use Rattle.zb_model.specs.Fits.{all_apart}
use Rattle.zb_model.specs.Readings.{speaker, after, heard_line, state_of}
use Rattle.law_change_fits.proofs.Tests.{apart_map, apart_snoc}
use Rattle.law_tables_suffice.specs.Showing.{nets_differ}

-- what each line of a node keeps, lines keep
pub lines_keep : (P : NodeState → Type 0) → ((l : Line) (s : NodeState) → P s → P (after l s))
    → (n : ℕ) (h : List Line) (s : NodeState) → P s → P (fold (heard_line n) s h)
unfolding heard_line
lines_keep P each n [] s p = p
lines_keep P each n (l ∷ h) s p = lines_keep P each n h (if nat_eq (speaker l) n then after l s
    else s) (by_speaker (nat_eq (speaker l) n))
  where
    by_speaker : (b : Bool) → P (if b then after l s else s)
    by_speaker true = each l s p
    by_speaker false = p

pub reading_keeps : (P : NodeState → Type 0) → P (new_node Device)
    → ((l : Line) (s : NodeState) → P s → P (after l s)) → (h : List Line) (n : ℕ) → P (state_of h n)
unfolding state_of
reading_keeps P new each h n = lines_keep P each n h (new_node Device) new

-- ---- keys of network rows

abbrev Differ : List NetKey → Type 0
Differ nets = all_apart (λ (a b : NetKey). same_key a.key b.key) nets ≡ true

map_differ : (f : NetKey → NetKey) → ((r : NetKey) → (f r).key ≡ r.key) → (nets : List NetKey) → Differ nets
    → Differ (map f nets)
map_differ f same nets d = apart_map (λ (a b : NetKey). same_key a.key b.key) (λ (a b : NetKey). same_key a.key b.key)
    f (λ x y e. ap (λ k. same_key k (f y).key) (same x) ∙ ap (same_key x.key) (same y) ∙ e) nets d

at_differ : (key : Bytes) (f : NetKey → NetKey) → ((r : NetKey) → (f r).key ≡ r.key) → (nets : List NetKey)
    → Differ nets → Differ (at_net key f nets)
at_differ key f same nets d = map_differ (λ r. if same_key r.key key then f r
    else r) (λ r. by_test (same_key r.key key) r) nets d
  where
    by_test : (b : Bool) (r : NetKey) → (if b then f r else r).key ≡ r.key
    by_test true r = same r
    by_test false r = refl

active_differ : (o : Option Bytes) (f : NetKey → NetKey) → ((r : NetKey) → (f r).key ≡ r.key) → (nets : List NetKey)
    → Differ nets → Differ (of_active f o nets)
active_differ None f same nets d = d
active_differ (Some key) f same nets d = at_differ key f same nets d

add_differ : (r : NetKey) (nets : List NetKey) → Differ nets → Differ (if has_net r.key nets then nets
    else nets ++ r ∷ [])
add_differ r nets d = by_test (has_net r.key nets) refl
  where
    by_test : (b : Bool) → has_net r.key nets ≡ b → Differ (if b then nets else nets ++ r ∷ [])
    by_test true has = d
    by_test false has = apart_snoc (λ (a b : NetKey). same_key a.key b.key) nets r ∙ ap
        (λ b. b && not (has_net r.key nets)) d ∙ ap not has

moved_differ : (m : Move) (s : NodeState) → Differ s.nets → Differ (moved m s).nets
moved_differ (Draw key) s d = d
moved_differ (DropNet key) s d = at_differ key dropped_net (λ r. refl) s.nets d
moved_differ (DropLink partner key) s d = d
moved_differ (Install key sequence) s d = add_differ (new_net key sequence) s.nets d
moved_differ (Active key) s d = d
moved_differ (Row partner key attribute) s d = d
moved_differ (Pair first second key) s d = d
moved_differ (Became state) s d = d
moved_differ (Live device) s d = d
moved_differ (Removed device) s d = d
moved_differ (Roll sending) s d = d
moved_differ (Told device) s d = d
moved_differ (Untold device) s d = d

applied_differ : (e : Edit) (s : NodeState) → Differ s.nets → Differ (applied e s).nets
unfolding applied
applied_differ (Reserve Nwk limit) s d = active_differ s.active (reserved limit) (λ r. refl) s.nets d
applied_differ (Reserve Aps limit) s d = d
applied_differ (Floor Nwk key sender value) s d = at_differ key (net_floor sender value) (λ r. refl) s.nets d
applied_differ (Floor Aps key sender value) s d = d
applied_differ (Start key value) s d = at_differ key (started_at value) (λ r. refl) s.nets d
applied_differ (Moved m) s d = moved_differ m s d

heard_differ : (layer : Layer) (key : Bytes) (sender counter : ℕ) (s : NodeState) → Differ s.nets
    → Differ (after_hearing layer key sender counter s).nets
unfolding after_hearing
heard_differ Nwk key sender counter s d = at_differ key (net_kept sender (counter + 1)) (λ r. refl) s.nets d
heard_differ Aps key sender counter s d = d

sealed_differ : (layer : Layer) (t : Term) (s : NodeState) → Differ s.nets → Differ (sealed_at layer t s).nets
sealed_differ Nwk t s d = at_differ t.base (next_at (t.counter + 1)) (λ r. refl) s.nets d
sealed_differ Aps t s d = d

declared_differ : (layer : Layer) (value : ℕ) (s : NodeState) → Differ s.nets
    → Differ (with_declared layer value s).nets
unfolding with_declared
declared_differ Nwk value s d = map_differ (declared_at value) (λ r. by_started r.started r) s.nets d
  where
    by_started : (b : Bool) (r : NetKey)
        → (if b
        then record r
        { limit = Rattle.std.specs.Prelude.max r.limit value; next = Rattle.std.specs.Prelude.max r.next value }
        else r).key ≡ r.key
    by_started true r = refl
    by_started false r = refl
declared_differ Aps value s d = d

after_differ : (l : Line) (s : NodeState) → Differ s.nets → Differ (after l s).nets
unfolding after after_accepting after_sealing after_boot with_given_net with_given_link
after_differ (Declared p) s d = d
after_differ (GivenNet n key sequence) s d = add_differ (given_net s.declared key sequence) s.nets d
after_differ (GivenLink n partner key) s d = d
after_differ (Counter n layer limit) s d = declared_differ layer limit s d
after_differ (Changed e n edit) s d = applied_differ edit s d
after_differ (Commit e n) s d = d
after_differ (Accept e n t) s d = heard_differ t.layer t.base t.source t.counter s d
after_differ (Refuse e n place reason) s d = d
after_differ (Seal e n t) s d = sealed_differ t.layer t s d
after_differ (Forge e t) s d = d
after_differ (Send e n frame bytes) s d = d
after_differ (Inject e frame bytes) s d = d
after_differ (Stopped e n) s d = d
after_differ (DownReset e n) s d = d
after_differ (DownDisk e n) s d = d
after_differ (Boot e n) s d = map_differ booted_net (λ r. refl) s.nets d
after_differ (Dump e n bytes) s d = d
after_differ (End events seals accepts refusals ideal private) s d = d

pub read_differ : (h : List Line) (n : ℕ) → nets_differ (state_of h n) ≡ true
unfolding nets_differ
read_differ h n = reading_keeps (λ s. Differ s.nets) refl after_differ h n
