-- What tables show of a state after a change: they keep no floors of dropped network keys.
use Rattle.std.proofs.Common.{◌≡◌, ℕ, ◌<◌, ◌≤◌, List, [], ◌∷◌, ◌++◌, length, map, filter, refl, sym, ap, ◌∙◌, arith, Bool, true, false, if◌then◌else◌, length-append}
use Rattle.std.specs.List.{list_any}
use Rattle.std.proofs.lemmas.List.{map-append, length-map}
use Rattle.zb_model.specs.Data.{Bytes}
use Rattle.zb_model.specs.State.{NetKey, at_net, has_net, same_key, shown_net, reserved, started_at, dropped_net, net_floor}
use Rattle.zb_record.specs.declared.net_row.NetRow.{NetRow}
use Rattle.zb_record.specs.RowViews.{net_key}
use Rattle.zb_record.specs.Senders.{live_floor}
use Rattle.zb_record.specs.Redoing.{limited}
use Rattle.zb_keys.proofs.Mapping.{list_any-map}

-- a change of one key's row
pub shown_at : (key : Bytes) (f g : NetKey → NetKey) → ((r : NetKey) → shown_net r ≡ r → shown_net (f r) ≡ g r)
    → (nets : List NetKey) → map shown_net nets ≡ nets → map shown_net (at_net key f nets) ≡ at_net key g nets
shown_at key f g each [] e = refl
shown_at key f g each (r ∷ rs) e =
    let head : shown_net r ≡ r = cc in
    let tail : map shown_net rs ≡ rs = cc in
    let here : shown_net (if same_key r.key key then f r else r) ≡ (if same_key r.key key then g r else r) =
    at_test (same_key r.key key) head in
    let there = shown_at key f g each rs tail in
    cc
  where
    at_test : (b : Bool) → shown_net r ≡ r → shown_net (if b then f r else r) ≡ (if b then g r else r)
    at_test true head = each r head
    at_test false head = head

pub shown_reserved : (key : Bytes) (limit : ℕ) (nets : List NetKey) → map shown_net nets ≡ nets
    → map shown_net (at_net key (reserved limit) nets) ≡ at_net key (reserved limit) nets
shown_reserved key limit nets e = shown_at key (reserved limit) (reserved limit) (λ r same. ap (reserved limit) same)
    nets e

-- a change of all rows that leaves whether they are in use, and their floors
pub shown_limited : (limit : ℕ) (nets : List NetKey) → map shown_net nets ≡ nets
    → map shown_net (map (limited limit) nets) ≡ map (limited limit) nets
shown_limited limit [] e = refl
shown_limited limit (r ∷ rs) e =
    let head : shown_net r ≡ r = cc in
    let tail : map shown_net rs ≡ rs = cc in
    ap (λ x. x ∷ map shown_net (map (limited limit) rs)) (ap (limited limit) head) ∙ ap (λ l. limited limit r ∷ l)
    (shown_limited limit rs tail)

pub shown_started : (key : Bytes) (value : ℕ) (nets : List NetKey) → map shown_net nets ≡ nets
    → map shown_net (at_net key (started_at value) nets) ≡ at_net key (started_at value) nets
shown_started key value nets e = shown_at key (started_at value) (started_at value)
    (λ r same. ap (started_at value) same) nets e

pub shown_dropped : (key : Bytes) (nets : List NetKey) → map shown_net nets ≡ nets
    → map shown_net (at_net key dropped_net nets) ≡ at_net key (λ r. shown_net (dropped_net r)) nets
shown_dropped key nets e = shown_at key dropped_net (λ r. shown_net (dropped_net r)) (λ r same. refl) nets e

shown_floor : (sender value : ℕ) (r : NetKey) → shown_net r ≡ r → shown_net (net_floor sender value r)
    ≡ live_floor sender value r
shown_floor sender value r same = by_live r.live refl
  where
    by_live : (b : Bool) → r.live ≡ b → shown_net (net_floor sender value r) ≡ live_floor sender value r
    by_live true live = rw live refl
    by_live false dead = rw dead (rw dead at same)

pub shown_stored : (key : Bytes) (sender value : ℕ) (nets : List NetKey) → map shown_net nets ≡ nets
    → map shown_net (at_net key (net_floor sender value) nets) ≡ at_net key (live_floor sender value) nets
shown_stored key sender value nets e = shown_at key (net_floor sender value) (live_floor sender value)
    (shown_floor sender value) nets e

-- a new key, where there is none, and where there is one
pub installed_new : (rows : List NetRow) (row : NetRow)
    → list_any (λ (r : NetRow). same_key (net_key r).key (net_key row).key) rows ≡ false → (net_key row).live ≡ true
    → map shown_net (map net_key rows) ≡ map net_key rows
    → map net_key (rows ++ row ∷ [])
    ≡ map shown_net (if has_net (net_key row).key (map net_key rows) then map net_key rows
    else map net_key rows ++ net_key row ∷ [])
installed_new rows row none live e =
    let absent : has_net (net_key row).key (map net_key rows) ≡ false =
    list_any-map (λ (r : NetKey). same_key r.key (net_key row).key) net_key rows ∙ none in
    let same : shown_net (net_key row) ≡ net_key row = rw live refl in
    rw absent (map-append net_key rows (row ∷ [])
    ∙ ap (λ z. map net_key rows ++ z ∷ []) (sym same)
    ∙ ap (λ l. l ++ shown_net (net_key row) ∷ []) (sym e)
    ∙ sym (map-append shown_net (map net_key rows) (net_key row ∷ [])))

pub installed_same : (rows : List NetRow) (x : NetKey) → list_any (λ (r : NetRow). same_key (net_key r).key x.key)
    rows ≡ true → map shown_net (map net_key rows) ≡ map net_key rows
    → map net_key rows ≡ map shown_net (if has_net x.key (map net_key rows) then map net_key rows
    else map net_key rows ++ x ∷ [])
installed_same rows x some e =
    let present : has_net x.key (map net_key rows) ≡ true = list_any-map (λ (r : NetKey). same_key r.key x.key)
    net_key rows ∙ some in
    rw present (sym e)

pub installed_room : (rows : List NetRow) (x : NetKey) (room : ℕ)
    → list_any (λ (r : NetRow). same_key (net_key r).key x.key) rows ≡ false
    → length (if has_net x.key (map net_key rows) then map net_key rows else map net_key rows ++ x ∷ []) ≤ room
    → length rows < room
installed_room rows x room none fits =
    let absent : has_net x.key (map net_key rows) ≡ false = list_any-map (λ (r : NetKey). same_key r.key x.key)
    net_key rows ∙ none in
    let long : length (map net_key rows ++ x ∷ []) ≤ room = rw absent at fits in
    omega (arith, length-append (map net_key rows) (x ∷ []), length-map rows net_key)

pub filter-map : {X Y : Type 0} (p : Y → Bool) (view : X → Y) (xs : List X) → filter p (map view xs)
    ≡ map view (filter (λ x. p (view x)) xs)
filter-map p view [] = refl
filter-map p view (x ∷ xs) = at_test (p (view x)) (filter-map p view xs)
  where
    at_test : (b : Bool) → filter p (map view xs) ≡ map view (filter (λ y. p (view y)) xs)
        → (if b then view x ∷ filter p (map view xs) else filter p (map view xs))
        ≡ map view (if b then x ∷ filter (λ y. p (view y)) xs else filter (λ y. p (view y)) xs)
    at_test true e = ap (λ l. view x ∷ l) e
    at_test false e = e
