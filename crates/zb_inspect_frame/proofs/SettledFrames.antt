-- A settled frame shows the same under further keys.
use Rattle.std.proofs.Common.{◌≡◌, ℕ, ◌≤◌, ◌&&◌, not, List, Option, Some, None, length, take, drop, refl, ap, sym, ◌∙◌, Bool, true, false}
use Rattle.std.specs.Bool.{OnTrue}
use Rattle.std.specs.Option.{option_map}
use Rattle.arrayvec.specs.ArrayVec.{ArrayVec}
use Rattle.zb_aps.specs.Reading as aps_reading
use Rattle.zb_base.specs.declared.address.Eui.{Eui}
use Rattle.zb_base.specs.declared.address.Short.{Short}
use Rattle.zb_base.specs.declared.key.Key.{Key}
use Rattle.zb_nwk.specs.Reading as nwk_reading
use Rattle.zb_inspect_frame.specs.Layers.{tried, is_closed, found_nwk, found_aps}
use Rattle.zb_inspect_frame.specs.Settling.{inner_settled, below_settled, is_settled, ShowsNoMore}
use Rattle.zb_inspect_frame.specs.Shows.{payload_in, given_in, tunnelled, below, shown_under, frame_shown}
use Rattle.zb_inspect_frame.specs.declared.layer.Finding.{Finding}
use Rattle.zb_inspect_frame.specs.declared.layer.Finding.TheVariants.{Malformed, NotSecured, NoSource, Closed, Opened}
use Rattle.zb_inspect_frame.specs.declared.shown.Below.{Below}
use Rattle.zb_inspect_frame.specs.declared.shown.Shown.{Shown}
use Rattle.zb_inspect_frame.proofs.MoreKeys.{nwk_further, aps_further, shown_parts}

both_true : (a b : Bool) → (a && b) ≡ true → (a ≡ true) × (b ≡ true)
both_true true b e = (refl, e)
both_true false b e = cc

is_false : (b : Bool) → not b ≡ true → b ≡ false
is_false true e = cc
is_false false e = refl

-- No key is tried on a layer that isn't closed.
tried_same : (number : ℕ) (fresh : List Key) (x : Finding) → is_closed x ≡ false → tried number fresh x ≡ x
tried_same number fresh Malformed e = refl
tried_same number fresh NotSecured e = refl
tried_same number fresh NoSource e = refl
tried_same number fresh (Closed s source) e = cc
tried_same number fresh (Opened key term) e = refl

nwk_same : (known : ℕ) (keys : List Key) (bytes : List ℕ) → known ≤ length keys
    → is_closed (found_nwk (take known keys) bytes) ≡ false
    → found_nwk keys bytes ≡ found_nwk (take known keys) bytes
nwk_same known keys bytes within e =
    sym (nwk_further known keys bytes within) ∙ tried_same known (drop known keys) (found_nwk (take known keys) bytes)
    e

aps_same : (known : ℕ) (keys : List Key) (given : Option Eui) (bytes : List ℕ) → known ≤ length keys
    → is_closed (found_aps (take known keys) given bytes) ≡ false
    → found_aps keys given bytes ≡ found_aps (take known keys) given bytes
aps_same known keys given bytes within e =
    sym (aps_further known keys given bytes within) ∙ tried_same known (drop known keys)
    (found_aps (take known keys) given bytes) e

abbrev inside : List Key → Option Eui → Option (ArrayVec ℕ) → Option Finding
inside keys given t = option_map (λ (i : ArrayVec ℕ). found_aps keys given i.items) t

inner_same : (known : ℕ) (keys : List Key) (given : Option Eui) (t : Option (ArrayVec ℕ)) → known ≤ length keys
    → inner_settled (inside (take known keys) given t) ≡ true → inside keys given t ≡ inside (take known keys) given t
inner_same known keys given None within e = refl
inner_same known keys given (Some i) within e =
    ap (λ x. Some x) (aps_same known keys given i.items within (is_false _ e))

abbrev both : Finding → Option Finding → Below
both aps inner = record { aps = aps; inner = inner }

same_below : (a b : Finding) (i j : Option Finding) → a ≡ b → i ≡ j → both a i ≡ both b j
same_below a b i j e f = cc

below_same : (known : ℕ) (keys : List Key) (given : Option Eui) (payload : List ℕ) → known ≤ length keys
    → below_settled (Some (below (take known keys) given payload)) ≡ true → below keys given payload
    ≡ below (take known keys) given payload
below_same known keys given payload within e =
    let first = take known keys in
    let r = aps_reading.frame_of payload in
    let parts = both_true _ _ e in
    let aps = aps_same known keys given payload within (is_false _ parts.0) in
    same_below _ _ _ _ aps
    (ap (λ (a : Finding). inside keys given (tunnelled a r)) aps ∙ inner_same known keys given
    (tunnelled (found_aps first given payload) r) within parts.1)

under_same : (known : ℕ) (keys : List Key) (given : Option Eui) (o : Option (List ℕ)) → known ≤ length keys
    → below_settled (option_map (below (take known keys) given) o) ≡ true
    → option_map (below keys given) o ≡ option_map (below (take known keys) given) o
under_same known keys given None within e = refl
under_same known keys given (Some payload) within e = ap (λ x. Some x) (below_same known keys given payload within e)

abbrev whole : Finding → Option Below → Shown
whole nwk b = record { nwk = nwk; below = b }

pub settled_same : (known : ℕ) (addrs : List (Short × Eui)) (keys : List Key) (bytes : List ℕ) → known ≤ length keys
    → is_settled (frame_shown addrs (take known keys) bytes) ≡ true → frame_shown addrs keys bytes
    ≡ frame_shown addrs (take known keys) bytes
unfolding frame_shown
settled_same known addrs keys bytes within e =
    let first = take known keys in
    let r = nwk_reading.frame_of bytes in
    let given = given_in addrs r in
    let old = shown_parts addrs first (found_nwk first bytes) r in
    let parts = both_true _ _ (ap is_settled (sym old) ∙ e) in
    let nwk = nwk_same known keys bytes within (is_false _ parts.0) in
    ap (λ n. shown_under addrs keys n r) nwk ∙ shown_parts addrs keys (found_nwk first bytes) r
    ∙ ap (whole (found_nwk first bytes))
    (under_same known keys given (payload_in (found_nwk first bytes) r) within parts.1)
    ∙ sym old

pub shows_no_more : (b : Bool) (seen : Shown) → (b ≡ true → is_settled seen ≡ true) → OnTrue b (ShowsNoMore seen)
shows_no_more false seen settled = tt
shows_no_more true seen settled =
    λ known addrs keys bytes within is. settled_same known addrs keys bytes within
    (ap is_settled (sym is) ∙ settled refl) ∙ sym is
