-- What is in memory alone isn't in a record: the next counters, the floors that are kept, and the floors of dropped
-- network keys.
use Rattle.std.proofs.Common.{◌≡◌, ℕ, ◌+◌, List, [], ◌∷◌, ◌++◌, map, filter, flat_map, Bool, true, false, if◌then◌else◌, Option, Some, None, refl, sym, ap, ◌∙◌}
use Rattle.std.specs.Prelude.{nat_eq}
use Rattle.std.proofs.lemmas.List.{length-map}
use Rattle.std.proofs.lemmas.List.Concat.{flat_map-cons}
use Rattle.zb_model.specs.Data.{Bytes, Layer, Nwk, Aps, Term}
use Rattle.zb_model.specs.State.{SenderFloor, NetKey, LinkKey, NodeState, same_key, is_link, at_net, at_link, of_active, next_at, sealed_at, after_sealing, after_counting, floor_kept, net_kept, link_kept, after_hearing, after_accepting, booted_floor, booted_net, booted_link, after_boot, shown_net, shown}
use Rattle.zb_model.specs.Record.{place_from, active_place, net_bytes, sender_bytes, floors_bytes, link_bytes, record_of}
use Rattle.law_change_fits.proofs.ShownApplied.{shown_twice}
use Rattle.zb_keys.proofs.BootLemmas.{booted_shown}

-- ---- the bytes of rows that are changed

same_bytes : {A : Type 0} (spell : A → Bytes) (f : A → A) → ((x : A) → spell (f x) ≡ spell x) → (xs : List A)
    → flat_map spell (map f xs) ≡ flat_map spell xs
same_bytes spell f same [] = refl
same_bytes spell f same (x ∷ xs) =
    flat_map-cons spell (f x) (map f xs) ∙ ap (λ l. l ++ flat_map spell (map f xs)) (same x) ∙ ap (λ l. spell x ++ l)
    (same_bytes spell f same xs) ∙ sym (flat_map-cons spell x xs)

-- the floors of live rows
same_floors : (f : NetKey → NetKey) → ((r : NetKey) → (f r).live ≡ r.live)
    → ((r : NetKey) → r.live ≡ true → floors_bytes (f r) ≡ floors_bytes r) → (rs : List NetKey)
    → flat_map floors_bytes (filter (λ (r : NetKey). r.live) (map f rs))
    ≡ flat_map floors_bytes (filter (λ (r : NetKey). r.live) rs)
same_floors f live same [] = refl
same_floors f live same (r ∷ rs) =
    ap (λ (b : Bool). flat_map floors_bytes (if b then f r ∷ filter (λ (x : NetKey). x.live) (map f rs)
    else filter (λ (x : NetKey). x.live) (map f rs))) (live r)
    ∙ by_live r.live refl (same_floors f live same rs)
  where
    by_live : (b : Bool) → r.live ≡ b → flat_map floors_bytes (filter (λ (x : NetKey). x.live) (map f rs))
        ≡ flat_map floors_bytes (filter (λ (x : NetKey). x.live) rs)
        → flat_map floors_bytes (if b then f r ∷ filter (λ (x : NetKey). x.live) (map f rs)
        else filter (λ (x : NetKey). x.live) (map f rs))
        ≡ flat_map floors_bytes (if b then r ∷ filter (λ (x : NetKey). x.live) rs
        else filter (λ (x : NetKey). x.live) rs)
    by_live true is further =
        flat_map-cons floors_bytes (f r) (filter (λ (x : NetKey). x.live) (map f rs))
        ∙ ap (λ l. l ++ flat_map floors_bytes (filter (λ (x : NetKey). x.live) (map f rs))) (same r is)
        ∙ ap (λ l. floors_bytes r ++ l) further
        ∙ sym (flat_map-cons floors_bytes r (filter (λ (x : NetKey). x.live) rs))
    by_live false is further = further

same_place : (f : NetKey → NetKey) → ((r : NetKey) → (f r).key ≡ r.key) → (key : Bytes) (at : ℕ) (rs : List NetKey)
    → place_from at key (map f rs) ≡ place_from at key rs
same_place f same key at [] = refl
same_place f same key at (r ∷ rs) =
    ap (λ (k : Bytes). if same_key k key then at else place_from (at + 1) key (map f rs)) (same r)
    ∙ ap (λ (n : ℕ). if same_key r.key key then at else n) (same_place f same key (at + 1) rs)

active_same : (f : NetKey → NetKey) → ((r : NetKey) → (f r).key ≡ r.key) → (s : NodeState)
    → active_place (record s { nets = map f s.nets }) ≡ active_place s
active_same f same s = by_active s.active
  where
    by_active : (o : Option Bytes) → active_place (record s { nets = map f s.nets; active = o })
        ≡ active_place (record s { active = o })
    by_active None = refl
    by_active (Some key) = same_place f same key 0 s.nets

-- ---- the record

record IsUnseen (f : NetKey → NetKey) : Type 0 where
  key : (r : NetKey) → (f r).key ≡ r.key
  live : (r : NetKey) → (f r).live ≡ r.live
  bytes : (r : NetKey) → net_bytes (f r) ≡ net_bytes r
  floors : (r : NetKey) → r.live ≡ true → floors_bytes (f r) ≡ floors_bytes r

nets_unseen : (f : NetKey → NetKey) → IsUnseen f → (s : NodeState) → record_of (record s { nets = map f s.nets })
    ≡ record_of s
unfolding record_of
nets_unseen f same s =
    rw (
      length-map s.nets f,
      active_same f same.key s,
      same_bytes net_bytes f same.bytes s.nets,
      same_floors f same.live same.floors s.nets,
    ) refl

links_unseen : (g : LinkKey → LinkKey) → ((r : LinkKey) → link_bytes (g r) ≡ link_bytes r)
    → (s : NodeState) (next : ℕ) → record_of (record s { aps_next = next; links = map g s.links }) ≡ record_of s
unfolding record_of
links_unseen g same s next = rw (length-map s.links g, same_bytes link_bytes g same s.links) refl

senders_booted : (fs : List SenderFloor) → flat_map sender_bytes (map booted_floor fs) ≡ flat_map sender_bytes fs
senders_booted fs = same_bytes sender_bytes booted_floor (λ f. refl) fs

boot_unseen : IsUnseen booted_net
boot_unseen = record {
  key = λ r. refl;
  live = λ r. refl;
  bytes = λ r. refl;
  floors = λ r is. rw (length-map r.floors booted_floor, senders_booted r.floors) refl;
}

dropped_unseen : IsUnseen shown_net
dropped_unseen = record {
  key = λ r. refl;
  live = λ r. refl;
  bytes = λ r. refl;
  floors = λ r is. rw is refl;
}

pub recorded_booted : (s : NodeState) → record_of (after_boot s) ≡ record_of s
unfolding after_boot
recorded_booted s = links_unseen booted_link (λ r. refl) (record s { nets = map booted_net s.nets }) s.aps_limit ∙
    nets_unseen booted_net boot_unseen s

pub recorded_shown : (s : NodeState) → record_of (shown s) ≡ record_of s
unfolding shown
recorded_shown s = nets_unseen shown_net dropped_unseen s

-- ---- what a boot leaves

pub boot_of_shown : (s : NodeState) → after_boot (shown s) ≡ shown (after_boot s)
unfolding after_boot shown
boot_of_shown s = ap (λ l. record s { aps_next = s.aps_limit; nets = l; links = map booted_link s.links })
    (booted_shown s.nets)

pub shown_again : (s : NodeState) → shown (shown s) ≡ shown s
unfolding shown
shown_again s = ap (λ l. record s { nets = l }) (shown_twice s.nets)

-- rows that differ in memory alone
net_memory : (key : Bytes) (f : NetKey → NetKey) → ((r : NetKey) → booted_net (f r) ≡ booted_net r)
    → (rs : List NetKey) → map booted_net (at_net key f rs) ≡ map booted_net rs
net_memory key f same [] = refl
net_memory key f same (r ∷ rs) = ap (λ x. x ∷ map booted_net (at_net key f rs)) (by_test (same_key r.key key)) ∙ ap
    (λ l. booted_net r ∷ l) (net_memory key f same rs)
  where
    by_test : (b : Bool) → booted_net (if b then f r else r) ≡ booted_net r
    by_test true = same r
    by_test false = refl

link_memory : (partner : ℕ) (key : Bytes) (f : LinkKey → LinkKey)
    → ((r : LinkKey) → booted_link (f r) ≡ booted_link r) → (rs : List LinkKey)
    → map booted_link (at_link partner key f rs) ≡ map booted_link rs
link_memory partner key f same [] = refl
link_memory partner key f same (r ∷ rs) = ap (λ x. x ∷ map booted_link (at_link partner key f rs))
    (by_test (is_link partner key r)) ∙ ap (λ l. booted_link r ∷ l) (link_memory partner key f same rs)
  where
    by_test : (b : Bool) → booted_link (if b then f r else r) ≡ booted_link r
    by_test true = same r
    by_test false = refl

kept_floors : (sender kept : ℕ) (fs : List SenderFloor) → map booted_floor (floor_kept sender kept fs)
    ≡ map booted_floor fs
kept_floors sender kept [] = refl
kept_floors sender kept (f ∷ fs) = ap (λ x. x ∷ map booted_floor (floor_kept sender kept fs))
    (by_test (nat_eq f.sender sender)) ∙ ap (λ l. booted_floor f ∷ l) (kept_floors sender kept fs)
  where
    by_test : (b : Bool) → booted_floor (if b then record f { kept = kept } else f) ≡ booted_floor f
    by_test true = refl
    by_test false = refl

active_memory : (active : Option Bytes) (rs : List NetKey)
    → map booted_net (of_active (λ r. next_at (r.next + 1) r) active rs) ≡ map booted_net rs
active_memory None rs = refl
active_memory (Some key) rs = net_memory key (λ r. next_at (r.next + 1) r) (λ r. refl) rs

-- a counter was used
pub boot_of_counted : (layer : Layer) (s : NodeState) → after_boot (after_counting layer s) ≡ after_boot s
unfolding after_boot after_counting
boot_of_counted Nwk s = ap (λ l. record s { aps_next = s.aps_limit; nets = l; links = map booted_link s.links })
    (active_memory s.active s.nets)
boot_of_counted Aps s = refl

-- a sender's counter was accepted
pub boot_of_heard : (layer : Layer) (key : Bytes) (sender counter : ℕ) (s : NodeState)
    → after_boot (after_hearing layer key sender counter s) ≡ after_boot s
unfolding after_boot after_hearing
boot_of_heard Nwk key sender counter s =
    ap (λ l. record s { aps_next = s.aps_limit; nets = l; links = map booted_link s.links })
    (net_memory key (net_kept sender (counter + 1))
    (λ r. ap (λ fs. record r { next = r.limit; floors = fs }) (kept_floors sender (counter + 1) r.floors)) s.nets)
boot_of_heard Aps key sender counter s =
    ap (λ l. record s { aps_next = s.aps_limit; nets = map booted_net s.nets; links = l })
    (link_memory sender key (link_kept (counter + 1)) (λ r. refl) s.links)

-- a term was sealed, or accepted
sealed_memory : (layer : Layer) (t : Term) (s : NodeState) → after_boot (sealed_at layer t s) ≡ after_boot s
unfolding after_boot
sealed_memory Nwk t s = ap (λ l. record s { aps_next = s.aps_limit; nets = l; links = map booted_link s.links })
    (net_memory t.base (next_at (t.counter + 1)) (λ r. refl) s.nets)
sealed_memory Aps t s = refl

pub boot_of_sealed : (t : Term) (s : NodeState) → after_boot (after_sealing t s) ≡ after_boot s
unfolding after_sealing
boot_of_sealed t s = sealed_memory t.layer t s

pub boot_of_accepted : (t : Term) (s : NodeState) → after_boot (after_accepting t s) ≡ after_boot s
unfolding after_accepting
boot_of_accepted t s = boot_of_heard t.layer t.base t.source t.counter s

-- ---- the role stays

role_of_sealed_at : (layer : Layer) (t : Term) (s : NodeState) → (sealed_at layer t s).role ≡ s.role
role_of_sealed_at Nwk t s = refl
role_of_sealed_at Aps t s = refl

pub role_of_sealed : (t : Term) (s : NodeState) → (after_sealing t s).role ≡ s.role
unfolding after_sealing
role_of_sealed t s = role_of_sealed_at t.layer t s

pub role_of_heard : (layer : Layer) (key : Bytes) (sender counter : ℕ) (s : NodeState)
    → (after_hearing layer key sender counter s).role ≡ s.role
unfolding after_hearing
role_of_heard Nwk key sender counter s = refl
role_of_heard Aps key sender counter s = refl
