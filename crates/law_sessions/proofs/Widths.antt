-- What the centre stores is within the widths of a record: its changes bring no addresses but those of declared nodes
-- and of rows that it has, and no keys but install codes', drawn ones and those that it has.
use Rattle.std.proofs.Common.{◌≡◌, ℕ, ◌+◌, ◌<◌, ◌^◌, min, Bool, true, false, not, ◌||◌, if◌then◌else◌, nat_eq, nat_le, nat_lt, flat_map, map, filter, length, List, [], ◌∷◌, ◌++◌, Option, Some, None, IfSome, option_map, option_to_list, refl, sym, ap, ◌∙◌, subst, arith, eqb-true}
use Rattle.std.proofs.lemmas.Bool.{and_parts, false≢true}
use Rattle.std.specs.List.{AllByRecursion, list_any}
use Rattle.law_run.specs.Opening.{Opens}
use Rattle.law_run.proofs.FreshLines.{all-append, all-map}
use Rattle.law_run.proofs.Judged.{all-in}
use Rattle.law_run.proofs.LockoutDeeds.{Deed, EnteredBy, HasRow, IdleMove, IsNew, OutcomeFits, Quiet, draw_of, enters, member, nothing, offers, pairs, plan-fits, quiet, removes, rolls, verifies}
use Rattle.law_run_lookups.proofs.Senders.{plan-accepts}
use Rattle.law_sessions.proofs.SoundTables.{sound_by_rules}
use Rattle.zb_model.specs.Answer.{Answer, Counting, accepted_all, answer, answer_by, answered, changes, counting_of, edits_of, floor_edit, floor_for, floor_of, move_edits, moves_of, plan_of, reserve_edit, start_edit, stored_floor}
use Rattle.zb_model.specs.Data.{Bytes, Layer, Nwk, Aps, Attribute, Task, DoProvision, DoRoll, Received, Term, Move, Draw, DropNet, DropLink, Install, Active, Row, Pair, Became, Live, Removed, Roll, Told, Untold, Edit, Reserve, Floor, Start, Moved}
use Rattle.zb_model.specs.Fits.{keeps_rules}
use Rattle.zb_model.specs.Rules.{Outcome, Stop, Does, Plan, Setting, drop_link, drop_partner, is_declared}
use Rattle.zb_model.specs.State.{LinkKey, NetKey, NodeState, PairKey, SenderFloor, after_boot, applied, applied_all, dropped_link, dropped_net, floor_stored, greatest_counter, has_link, has_net, is_centre, is_link, is_live, is_live_of, is_told, link_floor, names, names_two, net_floor, new_link, new_net, of_active, reserved, revived, same_key, same_layer, shown, started_at, told_as, with_link}
use Rattle.zb_model.specs.Tools.{Tools}
use Rattle.zb_record.specs.Ranges.{FitsBytes, LinkFits, NetFits, PairFits}
use Rattle.zb_stored_tables.proofs.CoreValues.{boot_of_all_accepted, boot_of_all_sealed}
use Rattle.zb_stored_tables.proofs.Made.{fits_as_stored, shown_fits}

-- ---- lists

changed : {X : Type 0} (P : X → Type 0) (test : X → Bool) (f : X → X) → ((x : X) → P x → P (f x)) → (xs : List X)
    → AllByRecursion P xs → AllByRecursion P (map (λ x. if test x then f x else x) xs)
changed P test f each [] all = tt
changed P test f each (x ∷ xs) all = (by_test (test x), changed P test f each xs all.1)
  where
    by_test : (b : Bool) → P (if b then f x else x)
    by_test true = each x all.0
    by_test false = all.0

mapped : {X : Type 0} (P : X → Type 0) (f : X → X) → ((x : X) → P x → P (f x)) → (xs : List X)
    → AllByRecursion P xs → AllByRecursion P (map f xs)
mapped P f each [] all = tt
mapped P f each (x ∷ xs) all = (each x all.0, mapped P f each xs all.1)

filtered : {X : Type 0} (P : X → Type 0) (test : X → Bool) (xs : List X) → AllByRecursion P xs
    → AllByRecursion P (filter test xs)
filtered P test [] all = tt
filtered P test (x ∷ xs) all = by_test (test x) (filtered P test xs all.1)
  where
    by_test : (b : Bool) → AllByRecursion P (filter test xs) → AllByRecursion P (if b then x ∷ filter test xs
        else filter test xs)
    by_test true more = (all.0, more)
    by_test false more = more

either : {X : Type 0} (P : X → Type 0) (b : Bool) (x y : X) → P x → P y → P (if b then x else y)
either P true x y p q = p
either P false x y p q = q

-- ---- rows

abbrev FloorFits : SenderFloor → Type 0
FloorFits f = (f.sender < 2 ^ 64) × (f.stored < 2 ^ 32)

floors_fit : (sender value : ℕ) → sender < 2 ^ 64 → value < 2 ^ 32 → (fs : List SenderFloor)
    → AllByRecursion FloorFits fs → AllByRecursion FloorFits (floor_stored sender value fs)
floors_fit sender value a b [] all = ((a, b), tt)
floors_fit sender value a b (f ∷ fs) all =
    either (AllByRecursion FloorFits) (nat_lt sender f.sender) _ _ ((a, b), all)
    (either (AllByRecursion FloorFits) (nat_eq sender f.sender) _ _ ((all.0.0, omega (arith, all.0.1, b)), all.1)
    (all.0, floors_fit sender value a b fs all.1))

-- a change of network rows that leaves the key and the floors, and no greater limit than there may be
limit_fits : (f : NetKey → NetKey) → ((r : NetKey) → (f r).key ≡ r.key) → ((r : NetKey) → (f r).floors ≡ r.floors)
    → ((r : NetKey) → r.limit < 2 ^ 32 → (f r).limit < 2 ^ 32) → (r : NetKey) → NetFits r → NetFits (f r)
limit_fits f key floors limit r fits = record {
  key = ap (length {A = ℕ}) (key r) ∙ fits.key;
  limit = limit r fits.limit;
  floors = subst (AllByRecursion FloorFits) (sym (floors r)) fits.floors;
}

link_fits : (f : LinkKey → LinkKey) → ((r : LinkKey) → (f r).partner ≡ r.partner)
    → ((r : LinkKey) → (f r).key ≡ r.key) → ((r : LinkKey) → r.stored < 2 ^ 32 → (f r).stored < 2 ^ 32)
    → (r : LinkKey) → LinkFits r → LinkFits (f r)
link_fits f partner key stored r fits = record {
  partner = subst (λ n. n < 2 ^ 64) (sym (partner r)) fits.partner;
  key = ap (length {A = ℕ}) (key r) ∙ fits.key;
  stored = stored r fits.stored;
}

plain_links : (f : LinkKey → LinkKey) → ((r : LinkKey) → (f r).partner ≡ r.partner)
    → ((r : LinkKey) → (f r).key ≡ r.key) → ((r : LinkKey) → (f r).stored ≡ r.stored) → (r : LinkKey) → LinkFits r
    → LinkFits (f r)
plain_links f partner key stored =
    link_fits f partner key (λ r small. subst (λ n. n < 2 ^ 32) (sym (stored r)) small)

told_fits : (told : Bool) (r : LinkKey) → LinkFits r → LinkFits (told_as told r)
told_fits told = plain_links (told_as told) (λ r. refl) (λ r. refl) (λ r. refl)

-- ---- the parts of a state

nets_fit : (s : NodeState) (nets : List NetKey) → FitsBytes s → AllByRecursion NetFits nets
    → FitsBytes (record s { nets = nets })
nets_fit s nets fits all = record {
  declared = fits.declared;
  aps_limit = fits.aps_limit;
  nets = all;
  links = fits.links;
  pairs = fits.pairs;
}

links_fit : (s : NodeState) (links : List LinkKey) → FitsBytes s → AllByRecursion LinkFits links
    → FitsBytes (record s { links = links })
links_fit s links fits all = record {
  declared = fits.declared;
  aps_limit = fits.aps_limit;
  nets = fits.nets;
  links = all;
  pairs = fits.pairs;
}

pairs_fit : (s : NodeState) (ps : List PairKey) → FitsBytes s → AllByRecursion PairFits ps
    → FitsBytes (record s { pairs = ps })
pairs_fit s ps fits all = record {
  declared = fits.declared;
  aps_limit = fits.aps_limit;
  nets = fits.nets;
  links = fits.links;
  pairs = all;
}

-- ---- changes

-- what a change brings is within the widths
abbrev pub MoveFits : Move → Type 0
MoveFits (Install key sequence) = length key ≡ 16
MoveFits (Row partner key attribute) = (partner < 2 ^ 64) × (length key ≡ 16)
MoveFits (Pair first second key) = (first < 2 ^ 64) × (second < 2 ^ 64) × (length key ≡ 16)
MoveFits _ = Unit {0}

abbrev pub EditFits : Edit → Type 0
EditFits (Reserve layer limit) = Unit {0}
EditFits (Floor layer key sender value) = (layer ≡ Nwk → sender < 2 ^ 64) × (value < 2 ^ 32)
EditFits (Start key value) = Unit {0}
EditFits (Moved m) = MoveFits m

reserves_fit : (limit : ℕ) (o : Option Bytes) (rs : List NetKey) → AllByRecursion NetFits rs
    → AllByRecursion NetFits (of_active (reserved limit) o rs)
reserves_fit limit None rs all = all
reserves_fit limit (Some key) rs all =
    changed NetFits (λ (r : NetKey). same_key r.key key) (reserved limit)
    (limit_fits (reserved limit) (λ r. refl) (λ r. refl) (λ r small. omega (arith, small))) rs all

rows_fit : (partner : ℕ) (key : Bytes) (t : Attribute) (told : Bool) (rs : List LinkKey) → partner < 2 ^ 64
    → length key ≡ 16 → AllByRecursion LinkFits rs → AllByRecursion LinkFits (with_link partner key t told rs)
rows_fit partner key t told rs small long all =
    either (AllByRecursion LinkFits) (has_link partner key rs) _ _
    (changed LinkFits (is_link partner key) (revived t told)
    (plain_links (revived t told) (λ r. refl) (λ r. refl) (λ r. refl)) rs all)
    (all-append LinkFits rs (new_link partner key t told ∷ []) all
    (record { partner = small; key = long; stored = omega arith }, tt))

move_fits : (m : Move) (s : NodeState) → MoveFits m → FitsBytes s → FitsBytes (applied (Moved m) s)
unfolding applied
move_fits (Draw key) s is fits = fits
move_fits (DropNet key) s is fits =
    nets_fit s _ fits
    (changed NetFits (λ (r : NetKey). same_key r.key key) dropped_net
    (limit_fits dropped_net (λ r. refl) (λ r. refl) (λ r small. small)) s.nets fits.nets)
move_fits (DropLink partner key) s is fits =
    links_fit s _ fits
    (changed LinkFits (is_link partner key) dropped_link
    (plain_links dropped_link (λ r. refl) (λ r. refl) (λ r. refl)) s.links fits.links)
move_fits (Install key sequence) s is fits =
    nets_fit s _ fits
    (either (AllByRecursion NetFits) (has_net key s.nets) s.nets (s.nets ++ new_net key sequence ∷ []) fits.nets
    (all-append NetFits s.nets (new_net key sequence ∷ []) fits.nets
    (record { key = is; limit = omega arith; floors = tt }, tt)))
move_fits (Active key) s is fits = record {
  declared = fits.declared;
  aps_limit = fits.aps_limit;
  nets = fits.nets;
  links = fits.links;
  pairs = fits.pairs;
}
move_fits (Row partner key attribute) s is fits =
    links_fit s _ fits (rows_fit partner key attribute (is_told s partner) s.links is.0 is.1 fits.links)
move_fits (Pair first second key) s is fits =
    pairs_fit s _ fits
    (either (AllByRecursion PairFits) (list_any (names_two first second) s.pairs) s.pairs
    (s.pairs ++ record { first = first; second = second; key = key } ∷ []) fits.pairs
    (all-append PairFits s.pairs (record { first = first; second = second; key = key } ∷ []) fits.pairs
    (record { first = is.0; second = is.1; key = is.2 }, tt)))
move_fits (Became state) s is fits = record {
  declared = fits.declared;
  aps_limit = fits.aps_limit;
  nets = fits.nets;
  links = fits.links;
  pairs = fits.pairs;
}
move_fits (Live device) s is fits =
    links_fit s _ fits (changed LinkFits (is_live_of device) (told_as false) (told_fits false) s.links fits.links)
move_fits (Removed device) s is fits =
    pairs_fit s _ fits (filtered PairFits (λ (p : PairKey). not (names device p)) s.pairs fits.pairs)
move_fits (Roll sending) s is fits = record {
  declared = fits.declared;
  aps_limit = fits.aps_limit;
  nets = fits.nets;
  links = either (AllByRecursion LinkFits) sending (map (told_as false) s.links) s.links
      (mapped LinkFits (told_as false) (told_fits false) s.links fits.links) fits.links;
  pairs = fits.pairs;
}
move_fits (Told device) s is fits =
    links_fit s _ fits (changed LinkFits (is_live_of device) (told_as true) (told_fits true) s.links fits.links)
move_fits (Untold device) s is fits =
    links_fit s _ fits (changed LinkFits (is_live_of device) (told_as false) (told_fits false) s.links fits.links)

edit_fits : (e : Edit) (s : NodeState) → EditFits e → FitsBytes s → FitsBytes (applied e s)
unfolding applied
edit_fits (Reserve Nwk limit) s is fits = nets_fit s _ fits (reserves_fit limit s.active s.nets fits.nets)
edit_fits (Reserve Aps limit) s is fits = record {
  declared = fits.declared;
  aps_limit = omega (arith, fits.aps_limit);
  nets = fits.nets;
  links = fits.links;
  pairs = fits.pairs;
}
edit_fits (Floor Nwk key sender value) s is fits =
    nets_fit s _ fits
    (changed NetFits (λ (r : NetKey). same_key r.key key) (net_floor sender value)
    (λ r x. record {
      key = x.key;
      limit = x.limit;
      floors = floors_fit sender value (is.0 refl) is.1 r.floors x.floors;
    }) s.nets fits.nets)
edit_fits (Floor Aps key sender value) s is fits =
    links_fit s _ fits
    (changed LinkFits (is_link sender key) (link_floor value)
    (link_fits (link_floor value) (λ r. refl) (λ r. refl) (λ r small. omega (arith, small, is.1))) s.links fits.links)
edit_fits (Start key value) s is fits =
    nets_fit s _ fits
    (changed NetFits (λ (r : NetKey). same_key r.key key) (started_at value)
    (limit_fits (started_at value) (λ r. refl) (λ r. refl) (λ r small. omega (arith, small))) s.nets fits.nets)
edit_fits (Moved m) s is fits = move_fits m s is fits

edits_fit : (es : List Edit) (s : NodeState) → AllByRecursion EditFits es → FitsBytes s → FitsBytes (applied_all es s)
unfolding applied_all
edits_fit [] s all fits = fits
edits_fit (e ∷ es) s all fits = edits_fit es (applied e s) all.1 (edit_fits e s all.0 fits)

-- ---- what the rules of the centre change

-- the addresses and keys that a task brings have their widths
abbrev pub IsWholeKey : Bytes → Type 0
IsWholeKey key = length key ≡ 16

abbrev pub TaskFits : Task → Type 0
TaskFits (DoProvision device key) = (device < 2 ^ 64) × IsWholeKey key
TaskFits (DoRoll draw) = IfSome draw IsWholeKey
TaskFits (Received bytes draw) = IfSome draw IsWholeKey
TaskFits _ = Unit {0}

drawn_fits : (task : Task) → TaskFits task → IfSome (draw_of task) IsWholeKey
drawn_fits (DoRoll draw) is = is
drawn_fits (Received bytes draw) is = is
drawn_fits _ is = tt

abbrev IsKeyOf : Option Bytes → Type 0
IsKeyOf o = IfSome o IsWholeKey

new_fits : (s : NodeState) (draw : Option Bytes) (k : Bytes) → IsNew s draw k → IfSome draw IsWholeKey → IsWholeKey k
new_fits s None k new is = absurd (cc)
new_fits s (Some key) k new is =
    subst IsKeyOf new
    (either IsKeyOf (has_net key s.nets || list_any (λ (r : LinkKey). same_key r.key key) s.links) None (Some key) tt
    is)

live_small : (p : ℕ) (rs : List LinkKey) → AllByRecursion LinkFits rs → list_any (is_live_of p) rs ≡ true → p < 2 ^ 64
live_small p [] all e = absurd (false≢true e)
live_small p (r ∷ rs) all e = by_test (is_live_of p r) refl e (live_small p rs all.1)
  where
    by_test : (b : Bool) → is_live_of p r ≡ b → (b || list_any (is_live_of p) rs) ≡ true
        → (list_any (is_live_of p) rs ≡ true → p < 2 ^ 64) → p < 2 ^ 64
    by_test true own e more =
        subst (λ n. n < 2 ^ 64) (eqb-true r.partner p (and_parts r.live (nat_eq r.partner p) own).1) all.0.partner
    by_test false own e more = more e

partner_small : (s : NodeState) (p : ℕ) → FitsBytes s → is_live s p ≡ true → p < 2 ^ 64
unfolding is_live
partner_small s p fits e = live_small p s.links fits.links e

row_fits : (s : NodeState) (p : ℕ) (k : Bytes) → FitsBytes s → HasRow s p k → (p < 2 ^ 64) × IsWholeKey k
row_fits s p k fits has =
    let row : LinkFits has.row = all-in LinkFits s.links fits.links has.row has.among in (
      subst (λ n. n < 2 ^ 64) has.partner row.partner,
      sym (ap (length {A = ℕ}) has.key) ∙ row.key,
    )

quiet_fits : (s : NodeState) (m : Move) → FitsBytes s → Quiet s m → MoveFits m
quiet_fits s (Draw k) fits is = absurd is
quiet_fits s (Install k q) fits is = absurd is
quiet_fits s (Row p k t) fits is = row_fits s p k fits is.0
quiet_fits s (Pair a b k) fits is = absurd is
quiet_fits s _ fits is = tt

idle_fits : (m : Move) → IdleMove m → MoveFits m
idle_fits (Install k q) is = absurd is
idle_fits (Row p k t) is = absurd is
idle_fits (Pair a b k) is = absurd is
idle_fits _ is = tt

drops_fit : (rs : List LinkKey) → AllByRecursion MoveFits (map drop_link rs)
drops_fit [] = tt
drops_fit (r ∷ rs) = (tt, drops_fit rs)

partner_drops : (s : NodeState) (p : ℕ) → AllByRecursion MoveFits (drop_partner s p)
unfolding drop_partner
partner_drops s p = drops_fit (filter (is_live_of p) s.links)

entered_fits : (task : Task) (p : ℕ) (k : Bytes) → TaskFits task → EnteredBy task p k → (p < 2 ^ 64) × IsWholeKey k
entered_fits (DoProvision device key) p k is by =
    (subst (λ n. n < 2 ^ 64) by.0 is.0, sym (ap (length {A = ℕ}) by.1) ∙ is.1)
entered_fits _ p k is by = absurd by

abbrev AllMoves : List Move → Type 0
AllMoves moves = AllByRecursion MoveFits moves

deed_fits : (c : Setting) (s : NodeState) (task : Task) (moves : List Move) → is_centre c.me.role ≡ true
    → TaskFits task → FitsBytes s → Deed c s task moves → AllMoves moves
deed_fits c s task moves centre is fits (member other all deed) = absurd (false≢true (sym other ∙ centre))
deed_fits c s task moves centre is fits (nothing none) = subst AllMoves (sym none) tt
deed_fits c s task moves centre is fits (quiet own all still) =
    all-map (Quiet s) MoveFits (λ m q. quiet_fits s m fits q) moves all
deed_fits c s task moves centre is fits (verifies own p row found all same) =
    all-map (Quiet s) MoveFits (λ m q. quiet_fits s m fits q) moves all
deed_fits c s task moves centre is fits (rolls own k q drops new idle still same) =
    subst AllMoves (sym same) (
      tt,
      all-append MoveFits drops (Install k q ∷ Roll true ∷ []) (all-map IdleMove MoveFits idle_fits drops idle)
          (new_fits s (draw_of task) k new (drawn_fits task is), (tt, tt)),
    )
deed_fits c s task moves centre is fits (offers own p k new live same) =
    subst AllMoves (sym same)
    (tt, ((partner_small s p fits live, new_fits s (draw_of task) k new (drawn_fits task is)), tt))
deed_fits c s task moves centre is fits (pairs own a b k new first second same) =
    subst AllMoves (sym same) (
      tt,
      (
        (
          partner_small s a fits first,
          partner_small s b fits second,
          new_fits s (draw_of task) k new
              (drawn_fits task is),
        ),
        tt,
      ),
    )
deed_fits c s task moves centre is fits (enters own p k by fresh free same) =
    subst AllMoves (sym same) (entered_fits task p k is by, (tt, tt))
deed_fits c s task moves centre is fits (removes own p live same) =
    subst AllMoves (sym same)
    (all-append MoveFits (drop_partner s p) (Removed p ∷ []) (partner_drops s p) (tt, tt))

outcome_fits : (c : Setting) (s : NodeState) (task : Task) (o : Outcome) → is_centre c.me.role ≡ true → TaskFits task
    → FitsBytes s → OutcomeFits c s task o → AllMoves (moves_of o)
outcome_fits c s task (Stop reason) centre is fits done = tt
outcome_fits c s task (Does moves sending) centre is fits done =
    deed_fits c s task moves centre is fits done.deed

-- ---- all changes of an answer

reserve_list : (layer : Layer) (o : Option ℕ)
    → AllByRecursion EditFits (option_to_list (option_map (Reserve layer) o))
reserve_list layer None = tt
reserve_list layer (Some limit) = (tt, tt)

floor_small : (c : Setting) (s : NodeState) (ts : List Term) (layer : Layer)
    → IfSome (floor_of c s ts layer) (λ v. v < 2 ^ 32)
unfolding floor_of
floor_small c s [] layer = tt
floor_small c s (t ∷ ts) layer =
    either (λ o. IfSome o (λ v. v < 2 ^ 32)) (same_layer t.layer layer) (floor_for c s t) (floor_of c s ts layer)
    (either (λ o. IfSome o (λ v. v < 2 ^ 32)) (nat_le (stored_floor t s) t.counter)
    (Some (min (t.counter + c.me.in_block) greatest_counter)) None (omega arith) tt)
    (floor_small c s ts layer)

floor_list : (t : Term) (o : Option ℕ) → (t.layer ≡ Nwk → t.source < 2 ^ 64) → IfSome o (λ v. v < 2 ^ 32)
    → AllByRecursion EditFits (option_to_list (option_map (Floor t.layer t.base t.source) o))
floor_list t None small is = tt
floor_list t (Some value) small is = ((small, is), tt)

floor_lists : (k : Counting) (ts : List Term) → ((layer : Layer) → IfSome (k.floor layer) (λ v. v < 2 ^ 32))
    → AllByRecursion (λ (t : Term). t.layer ≡ Nwk → t.source < 2 ^ 64) ts
    → AllByRecursion EditFits (flat_map (floor_edit k) ts)
floor_lists k [] small all = tt
floor_lists k (t ∷ ts) small all =
    all-append EditFits (floor_edit k t) (flat_map (floor_edit k) ts)
    (floor_list t (k.floor t.layer) all.0 (small t.layer)) (floor_lists k ts small all.1)

start_list : (key : Bytes) (o : Option ℕ) → AllByRecursion EditFits (start_edit key o)
start_list key None = tt
start_list key (Some value) = (tt, tt)

one_move : (k : Counting) (m : Move) → MoveFits m → AllByRecursion EditFits (move_edits k m)
one_move k (Active key) is = (tt, start_list key k.start)
one_move k (Install key sequence) is = (is, tt)
one_move k (Row partner key attribute) is = (is, tt)
one_move k (Pair first second key) is = (is, tt)
one_move k _ is = (tt, tt)

move_lists : (k : Counting) (ms : List Move) → AllMoves ms → AllByRecursion EditFits (flat_map (move_edits k) ms)
move_lists k [] all = tt
move_lists k (m ∷ ms) all =
    all-append EditFits (move_edits k m) (flat_map (move_edits k) ms) (one_move k m all.0) (move_lists k ms all.1)

plan_edits : (c : Setting) (s : NodeState) (p : Plan)
    → AllByRecursion (λ (t : Term). t.layer ≡ Nwk → t.source < 2 ^ 64) p.accepts → AllMoves (moves_of p.outcome)
    → AllByRecursion EditFits (edits_of s (counting_of c s p) p)
unfolding edits_of counting_of
plan_edits c s p heard moves =
    let k = counting_of c s p in
    all-append EditFits (reserve_edit k Nwk ++ reserve_edit k Aps) _
    (all-append EditFits (reserve_edit k Nwk) (reserve_edit k Aps) (reserve_list Nwk (k.reserve Nwk))
    (reserve_list Aps (k.reserve Aps)))
    (all-append EditFits (flat_map (floor_edit k) p.accepts) _
    (floor_lists k p.accepts (λ layer. floor_small c s p.accepts layer) heard)
    (move_lists k (filter (changes s) (moves_of p.outcome))
    (filtered MoveFits (changes s) (moves_of p.outcome) moves)))

-- ---- an event of the centre

-- its nodes have addresses of 64 bits
abbrev pub DeclaresSmall : Setting → Type 0
DeclaresSmall c = (d : ℕ) → is_declared c d ≡ true → d < 2 ^ 64

stored_same : (a : Answer) (s : NodeState) → after_boot (answered a s) ≡ after_boot (applied_all a.edits s)
unfolding answered
stored_same a s =
    boot_of_all_sealed a.seals (accepted_all a.accepts (applied_all a.edits s))
    ∙ boot_of_all_accepted a.accepts (applied_all a.edits s)

answer_edits : (tools : Tools) → Opens tools → (c : Setting) (task : Task) (s : NodeState)
    → is_centre c.me.role ≡ true → DeclaresSmall c → TaskFits task → keeps_rules s ≡ true → FitsBytes s
    → AllByRecursion EditFits (answer tools c s task).edits
unfolding answer answer_by
answer_edits tools opens c task s centre small is rules fits =
    let p = plan_of tools c s task in
    plan_edits c s p
    (all-map (λ (t : Term). t.layer ≡ Nwk → is_declared c t.source ≡ true)
    (λ (t : Term). t.layer ≡ Nwk → t.source < 2 ^ 64) (λ t declared nwk. small t.source (declared nwk)) p.accepts
    (plan-accepts tools opens c s (sound_by_rules s rules) task))
    (outcome_fits c s task p.outcome centre is fits (plan-fits tools opens c s task))

pub event_fits : (tools : Tools) → Opens tools → (c : Setting) (task : Task) (s : NodeState)
    → is_centre c.me.role ≡ true → DeclaresSmall c → TaskFits task → keeps_rules s ≡ true → FitsBytes s
    → FitsBytes (shown (answered (answer tools c s task) s))
event_fits tools opens c task s centre small is rules fits =
    let a = answer tools c s task in
    shown_fits (answered a s)
    (fits_as_stored (applied_all a.edits s) (answered a s) (stored_same a s)
    (edits_fit a.edits s (answer_edits tools opens c task s centre small is rules fits) fits))
