-- Changes of values that can be spelled leave values within the widths of a record.
use Rattle.std.proofs.Common.{◌≡◌, ℕ, ◌<◌, ◌^◌, max, Bool, true, false, not, if◌then◌else◌, List, [], ◌∷◌, ◌++◌, length, map, Option, Some, None, refl, sym, ap, ◌∙◌, subst, arith}
use Rattle.std.specs.Prelude.{nat_eq, nat_lt, filter}
use Rattle.std.specs.List.{AllByRecursion, list_any}
use Rattle.zb_node_types.specs.declared.change.Change.{Change}
use Rattle.zb_node_types.specs.declared.change.Change.TheVariants as change
use Rattle.zb_base.specs.declared.state.Rollover.TheVariants as rollover
use Rattle.zb_base.specs.declared.label.Layer.TheVariants as layer
use Rattle.zb_node_types.specs.Changes.{edit, edits, model_attribute}
use Rattle.zb_model.specs.Data.{Bytes, Attribute}
use Rattle.zb_model.specs.State.{SenderFloor, NetKey, LinkKey, PairKey, NodeState, same_key, is_link, has_link, is_live_of, is_told, has_net, given_net, names, names_two, at_net, at_link, of_active, new_net, reserved, started_at, dropped_net, dropped_link, floor_stored, net_floor, link_floor, told_as, revived, new_link, with_link, with_pair, applied, applied_all, booted_floor, booted_net, booted_link, after_boot, shown_net, shown}
use Rattle.zb_record.specs.declared.version.Version.{Version}
use Rattle.zb_record.specs.declared.version.Version.TheVariants.{First, Second, Third}
use Rattle.zb_record.specs.Redoing.{limited, first_applied, applied_behind}
use Rattle.zb_record.specs.Ranges.{InRange, NetFits, LinkFits, PairFits, FitsBytes}

abbrev FloorFits : SenderFloor → Type 0
FloorFits f = (f.sender < 2 ^ 64) × (f.stored < 2 ^ 32)

-- ---- lists of which each item has a property

all_map : {A B : Type 0} (P : A → Type 0) (Q : B → Type 0) (f : A → B) → ((x : A) → P x → Q (f x)) → (xs : List A)
    → AllByRecursion P xs → AllByRecursion Q (map f xs)
all_map P Q f each [] all = tt
all_map P Q f each (x ∷ xs) all = (each x all.0, all_map P Q f each xs all.1)

all_where : {A : Type 0} (P : A → Type 0) (test : A → Bool) (f : A → A) → ((x : A) → P x → P (f x)) → (xs : List A)
    → AllByRecursion P xs → AllByRecursion P (map (λ x. if test x then f x else x) xs)
all_where {A} P test f each xs all = all_map P P (λ x. if test x then f x else x) (λ x p. by_test x p (test x)) xs all
  where
    by_test : (x : A) → P x → (b : Bool) → P (if b then f x else x)
    by_test x p true = each x p
    by_test x p false = p

all_filter : {A : Type 0} (P : A → Type 0) (test : A → Bool) (xs : List A) → AllByRecursion P xs
    → AllByRecursion P (filter test xs)
all_filter P test [] all = tt
all_filter P test (x ∷ xs) all = by_test (test x) (all_filter P test xs all.1)
  where
    by_test : (b : Bool) → AllByRecursion P (filter test xs) → AllByRecursion P (if b then x ∷ filter test xs
        else filter test xs)
    by_test true more = (all.0, more)
    by_test false more = more

all_snoc : {A : Type 0} (P : A → Type 0) (xs : List A) (x : A) → AllByRecursion P xs → P x
    → AllByRecursion P (xs ++ x ∷ [])
all_snoc P [] x all p = (p, tt)
all_snoc P (y ∷ xs) x all p = (all.0, all_snoc P xs x all.1 p)

-- ---- one row

reserved_fits : (limit : ℕ) (r : NetKey) → NetFits r → NetFits (reserved limit r)
reserved_fits limit r fits = record { key = fits.key; limit = omega (arith, fits.limit); floors = fits.floors }

started_fits : (value : ℕ) (r : NetKey) → NetFits r → NetFits (started_at value r)
started_fits value r fits = record { key = fits.key; limit = omega (arith, fits.limit); floors = fits.floors }

dropped_fits : (r : NetKey) → NetFits r → NetFits (dropped_net r)
dropped_fits r fits = record { key = fits.key; limit = fits.limit; floors = fits.floors }

floor_fits : (sender value : ℕ) → sender < 2 ^ 64 → value < 2 ^ 32 → (fs : List SenderFloor)
    → AllByRecursion FloorFits fs → AllByRecursion FloorFits (floor_stored sender value fs)
floor_fits sender value a b [] all = ((a, b), tt)
floor_fits sender value a b (f ∷ fs) all = by_place (nat_lt sender f.sender) (nat_eq sender f.sender)
    (floor_fits sender value a b fs all.1)
  where
    by_place : (before same : Bool) → AllByRecursion FloorFits (floor_stored sender value fs)
        → AllByRecursion FloorFits (if before then record { sender = sender; kept = 0; stored = value } ∷ f ∷ fs
        else (if same then record f { stored = max f.stored value } ∷ fs else f ∷ floor_stored sender value fs))
    by_place true same more = ((a, b), all)
    by_place false true more = ((all.0.0, omega (arith, all.0.1, b)), all.1)
    by_place false false more = (all.0, more)

net_floor_fits : (sender value : ℕ) → sender < 2 ^ 64 → value < 2 ^ 32 → (r : NetKey) → NetFits r
    → NetFits (net_floor sender value r)
net_floor_fits sender value a b r fits =
    record { key = fits.key; limit = fits.limit; floors = floor_fits sender value a b r.floors fits.floors }

link_floor_fits : (value : ℕ) → value < 2 ^ 32 → (r : LinkKey) → LinkFits r → LinkFits (link_floor value r)
link_floor_fits value b r fits =
    record { partner = fits.partner; key = fits.key; stored = omega (arith, fits.stored, b) }

same_link_fits : (f : LinkKey → LinkKey) → ((r : LinkKey) → (f r).partner ≡ r.partner)
    → ((r : LinkKey) → (f r).key ≡ r.key) → ((r : LinkKey) → (f r).stored ≡ r.stored) → (r : LinkKey) → LinkFits r
    → LinkFits (f r)
same_link_fits f partner key stored r fits = record {
  partner = subst (λ (n : ℕ). n < 2 ^ 64) (sym (partner r)) fits.partner;
  key = ap (length {A = ℕ}) (key r) ∙ fits.key;
  stored = subst (λ (n : ℕ). n < 2 ^ 32) (sym (stored r)) fits.stored;
}

-- ---- all rows

net_at_fits : (key : Bytes) (f : NetKey → NetKey) → ((r : NetKey) → NetFits r → NetFits (f r)) → (rs : List NetKey)
    → AllByRecursion NetFits rs → AllByRecursion NetFits (at_net key f rs)
net_at_fits key f each rs all = all_where NetFits (λ (r : NetKey). same_key r.key key) f each rs all

link_at_fits : (test : LinkKey → Bool) (f : LinkKey → LinkKey) → ((r : LinkKey) → LinkFits r → LinkFits (f r))
    → (rs : List LinkKey) → AllByRecursion LinkFits rs
    → AllByRecursion LinkFits (map (λ (r : LinkKey). if test r then f r else r) rs)
link_at_fits test f each rs all = all_where LinkFits test f each rs all

active_fits : (limit : ℕ) (active : Option Bytes) (rs : List NetKey) → AllByRecursion NetFits rs
    → AllByRecursion NetFits (of_active (reserved limit) active rs)
active_fits limit None rs all = all
active_fits limit (Some key) rs all = net_at_fits key (reserved limit) (reserved_fits limit) rs all

installed_fits : (key : Bytes) (sequence : ℕ) → length key ≡ 16 → (rs : List NetKey) → AllByRecursion NetFits rs
    → AllByRecursion NetFits (if has_net key rs then rs else rs ++ new_net key sequence ∷ [])
installed_fits key sequence long rs all = by_test (has_net key rs)
  where
    by_test : (b : Bool) → AllByRecursion NetFits (if b then rs else rs ++ new_net key sequence ∷ [])
    by_test true = all
    by_test false = all_snoc NetFits rs (new_net key sequence) all
        (record { key = long; limit = omega arith; floors = tt })

linked_fits : (partner : ℕ) (key : Bytes) (t : Attribute) (told : Bool) → partner < 2 ^ 64 → length key ≡ 16
    → (rs : List LinkKey) → AllByRecursion LinkFits rs → AllByRecursion LinkFits (with_link partner key t told rs)
linked_fits partner key t told small long rs all = by_test (has_link partner key rs)
  where
    by_test : (b : Bool) → AllByRecursion LinkFits (if b then at_link partner key (revived t told) rs
        else rs ++ new_link partner key t told ∷ [])
    by_test true = link_at_fits (is_link partner key) (revived t told)
        (same_link_fits (revived t told) (λ r. refl) (λ r. refl) (λ r. refl)) rs all
    by_test false = all_snoc LinkFits rs (new_link partner key t told) all
        (record { partner = small; key = long; stored = omega arith })

told_fits : (told : Bool) (r : LinkKey) → LinkFits r → LinkFits (told_as told r)
told_fits told = same_link_fits (told_as told) (λ r. refl) (λ r. refl) (λ r. refl)

paired_fits : (first second : ℕ) (key : Bytes) → first < 2 ^ 64 → second < 2 ^ 64 → length key ≡ 16
    → (ps : List PairKey) → AllByRecursion PairFits ps → AllByRecursion PairFits (with_pair first second key ps)
paired_fits first second key a b long ps all = by_test (list_any (names_two first second) ps)
  where
    by_test : (c : Bool)
        → AllByRecursion PairFits (if c then ps else ps ++ record { first = first; second = second; key = key } ∷ [])
    by_test true = all
    by_test false = all_snoc PairFits ps (record { first = first; second = second; key = key }) all
        (record { first = a; second = b; key = long })

-- ---- one change

nets_fit : (s t : NodeState) → FitsBytes s → t.declared ≡ s.declared → t.aps_limit ≡ s.aps_limit → t.links ≡ s.links
    → t.pairs ≡ s.pairs → AllByRecursion NetFits t.nets → FitsBytes t
nets_fit s t fits d a l p nets = record {
  declared = subst (λ (n : ℕ). n < 2 ^ 32) (sym d) fits.declared;
  aps_limit = subst (λ (n : ℕ). n < 2 ^ 32) (sym a) fits.aps_limit;
  nets = nets;
  links = subst (AllByRecursion LinkFits) (sym l) fits.links;
  pairs = subst (AllByRecursion PairFits) (sym p) fits.pairs;
}

links_fit : (s t : NodeState) → FitsBytes s → t.declared ≡ s.declared → t.aps_limit ≡ s.aps_limit → t.nets ≡ s.nets
    → t.pairs ≡ s.pairs → AllByRecursion LinkFits t.links → FitsBytes t
links_fit s t fits d a n p links = record {
  declared = subst (λ (n : ℕ). n < 2 ^ 32) (sym d) fits.declared;
  aps_limit = subst (λ (n : ℕ). n < 2 ^ 32) (sym a) fits.aps_limit;
  nets = subst (AllByRecursion NetFits) (sym n) fits.nets;
  links = links;
  pairs = subst (AllByRecursion PairFits) (sym p) fits.pairs;
}

pairs_fit : (s t : NodeState) → FitsBytes s → t.declared ≡ s.declared → t.aps_limit ≡ s.aps_limit → t.nets ≡ s.nets
    → t.links ≡ s.links → AllByRecursion PairFits t.pairs → FitsBytes t
pairs_fit s t fits d a n l pairs = record {
  declared = subst (λ (n : ℕ). n < 2 ^ 32) (sym d) fits.declared;
  aps_limit = subst (λ (n : ℕ). n < 2 ^ 32) (sym a) fits.aps_limit;
  nets = subst (AllByRecursion NetFits) (sym n) fits.nets;
  links = subst (AllByRecursion LinkFits) (sym l) fits.links;
  pairs = pairs;
}

pub made_fits : (c : Change) (s : NodeState) → InRange c → FitsBytes s → FitsBytes (applied (edit c) s)
unfolding applied
made_fits (change.Reserve layer.Nwk limit) s range fits =
    nets_fit s _ fits refl refl refl refl (active_fits limit s.active s.nets fits.nets)
made_fits (change.Reserve layer.Aps limit) s range fits =
    record {
      declared = fits.declared;
      aps_limit = omega (arith, fits.aps_limit);
      nets = fits.nets;
      links = fits.links;
      pairs = fits.pairs;
    }
made_fits (change.Floor layer.Nwk key sender value) s range fits =
    nets_fit s _ fits refl refl refl refl
    (net_at_fits key.0 (net_floor sender.0 value) (net_floor_fits sender.0 value range.1 range.2) s.nets fits.nets)
made_fits (change.Floor layer.Aps key sender value) s range fits =
    links_fit s _ fits refl refl refl refl
    (link_at_fits (is_link sender.0 key.0) (link_floor value) (link_floor_fits value range.2) s.links fits.links)
made_fits (change.Draw key) s range fits = fits
made_fits (change.DropNet key) s range fits =
    nets_fit s _ fits refl refl refl refl (net_at_fits key.0 dropped_net dropped_fits s.nets fits.nets)
made_fits (change.DropLink partner key) s range fits =
    links_fit s _ fits refl refl refl refl
    (link_at_fits (is_link partner.0 key.0) dropped_link
    (same_link_fits dropped_link (λ r. refl) (λ r. refl) (λ r. refl)) s.links fits.links)
made_fits (change.Install key sequence) s range fits =
    nets_fit s _ fits refl refl refl refl (installed_fits key.0 sequence range.0 s.nets fits.nets)
made_fits (change.Active key) s range fits =
    record {
      declared = fits.declared;
      aps_limit = fits.aps_limit;
      nets = fits.nets;
      links = fits.links;
      pairs = fits.pairs;
    }
made_fits (change.Start key value) s range fits =
    nets_fit s _ fits refl refl refl refl (net_at_fits key.0 (started_at value) (started_fits value) s.nets fits.nets)
made_fits (change.Row partner key t) s range fits =
    links_fit s _ fits refl refl refl refl
    (linked_fits partner.0 key.0 (model_attribute t) (is_told s partner.0) range.0 range.1 s.links fits.links)
made_fits (change.Pair first second key) s range fits =
    pairs_fit s _ fits refl refl refl refl
    (paired_fits first.0 second.0 key.0 range.0 range.1 range.2 s.pairs fits.pairs)
made_fits (change.State g) s range fits =
    record {
      declared = fits.declared;
      aps_limit = fits.aps_limit;
      nets = fits.nets;
      links = fits.links;
      pairs = fits.pairs;
    }
made_fits (change.Live device) s range fits =
    links_fit s _ fits refl refl refl refl
    (link_at_fits (is_live_of device.0) (told_as false) (told_fits false) s.links fits.links)
made_fits (change.Removed device) s range fits =
    pairs_fit s _ fits refl refl refl refl
    (all_filter PairFits (λ (p : PairKey). not (names device.0 p)) s.pairs fits.pairs)
made_fits (change.Roll rollover.Idle) s range fits =
    record {
      declared = fits.declared;
      aps_limit = fits.aps_limit;
      nets = fits.nets;
      links = fits.links;
      pairs = fits.pairs;
    }
made_fits (change.Roll rollover.Sending) s range fits =
    links_fit s _ fits refl refl refl refl
    (all_map LinkFits LinkFits (told_as false) (told_fits false) s.links fits.links)
made_fits (change.Told device) s range fits =
    links_fit s _ fits refl refl refl refl
    (link_at_fits (is_live_of device.0) (told_as true) (told_fits true) s.links fits.links)
made_fits (change.Untold device) s range fits =
    links_fit s _ fits refl refl refl refl
    (link_at_fits (is_live_of device.0) (told_as false) (told_fits false) s.links fits.links)

pub all_made_fits : (cs : List Change) (s : NodeState) → AllByRecursion InRange cs → FitsBytes s
    → FitsBytes (applied_all (edits cs) s)
unfolding applied_all
all_made_fits [] s range fits = fits
all_made_fits (c ∷ cs) s range fits = all_made_fits cs (applied (edit c) s) range.1 (made_fits c s range.0 fits)

-- ---- after a record of the first version

limited_fits : (limit : ℕ) → limit < 2 ^ 32 → (r : NetKey) → NetFits r → NetFits (limited limit r)
limited_fits limit small r fits =
    record { key = fits.key; limit = omega (arith, fits.limit, small); floors = fits.floors }

given_fits : (declared : ℕ) (key : Bytes) (sequence : ℕ) → declared < 2 ^ 32 → length key ≡ 16 → (rs : List NetKey)
    → AllByRecursion NetFits rs → AllByRecursion NetFits (if has_net key rs then rs
    else rs ++ given_net declared key sequence ∷ [])
given_fits declared key sequence small long rs all = by_test (has_net key rs)
  where
    by_test : (b : Bool) → AllByRecursion NetFits (if b then rs else rs ++ given_net declared key sequence ∷ [])
    by_test true = all
    by_test false = all_snoc NetFits rs (given_net declared key sequence) all
        (record { key = long; limit = small; floors = tt })

first_fits : (c : Change) (s : NodeState) → InRange c → FitsBytes s → FitsBytes (first_applied (edit c) s)
unfolding first_applied
first_fits (change.Reserve layer.Nwk limit) s range fits = record {
  declared = range;
  aps_limit = fits.aps_limit;
  nets = all_map NetFits NetFits (limited limit) (limited_fits limit range) s.nets fits.nets;
  links = fits.links;
  pairs = fits.pairs;
}
first_fits (change.Install key sequence) s range fits =
    nets_fit s _ fits refl refl refl refl (given_fits s.declared key.0 sequence fits.declared range.0 s.nets fits.nets)
first_fits (change.Reserve layer.Aps limit) s range fits = made_fits (change.Reserve layer.Aps limit) s range fits
first_fits (change.Floor l key sender value) s range fits = made_fits (change.Floor l key sender value) s range fits
first_fits (change.Draw key) s range fits = made_fits (change.Draw key) s range fits
first_fits (change.DropNet key) s range fits = made_fits (change.DropNet key) s range fits
first_fits (change.DropLink partner key) s range fits = made_fits (change.DropLink partner key) s range fits
first_fits (change.Active key) s range fits = made_fits (change.Active key) s range fits
first_fits (change.Start key value) s range fits = made_fits (change.Start key value) s range fits
first_fits (change.Row partner key t) s range fits = made_fits (change.Row partner key t) s range fits
first_fits (change.Pair first second key) s range fits = made_fits (change.Pair first second key) s range fits
first_fits (change.State g) s range fits = made_fits (change.State g) s range fits
first_fits (change.Live device) s range fits = made_fits (change.Live device) s range fits
first_fits (change.Removed device) s range fits = made_fits (change.Removed device) s range fits
first_fits (change.Roll r) s range fits = made_fits (change.Roll r) s range fits
first_fits (change.Told device) s range fits = made_fits (change.Told device) s range fits
first_fits (change.Untold device) s range fits = made_fits (change.Untold device) s range fits

pub behind_fits : (v : Version) (c : Change) (s : NodeState) → InRange c → FitsBytes s
    → FitsBytes (applied_behind v (edit c) s)
unfolding applied_behind
behind_fits First c s range fits = first_fits c s range fits
behind_fits Second c s range fits = made_fits c s range fits
behind_fits Third c s range fits = made_fits c s range fits

-- ---- what a boot leaves and what tables show

shown_row_fits : (r : NetKey) → NetFits r → NetFits (shown_net r)
shown_row_fits r fits = record { key = fits.key; limit = fits.limit; floors = by_live r.live }
  where
    by_live : (b : Bool) → AllByRecursion FloorFits (if b then r.floors else [])
    by_live true = fits.floors
    by_live false = tt

pub shown_fits : (s : NodeState) → FitsBytes s → FitsBytes (shown s)
unfolding shown
shown_fits s fits =
    nets_fit s _ fits refl refl refl refl (all_map NetFits NetFits shown_net shown_row_fits s.nets fits.nets)

booted_row_fits : (r : NetKey) → NetFits r → NetFits (booted_net r)
booted_row_fits r fits =
    record {
      key = fits.key;
      limit = fits.limit;
      floors = all_map FloorFits FloorFits booted_floor (λ f p. p) r.floors
          fits.floors;
    }

pub booted_fits : (s : NodeState) → FitsBytes s → FitsBytes (after_boot s)
unfolding after_boot
booted_fits s fits = record {
  declared = fits.declared;
  aps_limit = fits.aps_limit;
  nets = all_map NetFits NetFits booted_net booted_row_fits s.nets fits.nets;
  links = all_map LinkFits LinkFits booted_link (same_link_fits booted_link (λ r. refl) (λ r. refl) (λ r. refl))
      s.links fits.links;
  pairs = fits.pairs;
}

-- and back: what fits after a boot did so before
all_back : {A B : Type 0} (P : A → Type 0) (Q : B → Type 0) (f : A → B) → ((x : A) → Q (f x) → P x) → (xs : List A)
    → AllByRecursion Q (map f xs) → AllByRecursion P xs
all_back P Q f each [] all = tt
all_back P Q f each (x ∷ xs) all = (each x all.0, all_back P Q f each xs all.1)

row_back : (r : NetKey) → NetFits (booted_net r) → NetFits r
row_back r fits =
    record {
      key = fits.key;
      limit = fits.limit;
      floors = all_back FloorFits FloorFits booted_floor (λ f p. p)
          r.floors fits.floors;
    }

link_back : (r : LinkKey) → LinkFits (booted_link r) → LinkFits r
link_back r fits = record { partner = fits.partner; key = fits.key; stored = fits.stored }

pub fits_back : (s : NodeState) → FitsBytes (after_boot s) → FitsBytes s
unfolding after_boot
fits_back s fits = record {
  declared = fits.declared;
  aps_limit = fits.aps_limit;
  nets = all_back NetFits NetFits booted_net row_back s.nets fits.nets;
  links = all_back LinkFits LinkFits booted_link link_back s.links fits.links;
  pairs = fits.pairs;
}

-- the same stored state fits as well
pub fits_as_stored : (s t : NodeState) → after_boot t ≡ after_boot s → FitsBytes s → FitsBytes t
fits_as_stored s t same fits = fits_back t (subst FitsBytes (sym same) (booted_fits s fits))
