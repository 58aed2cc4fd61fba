-- Further keys are tried only on what is still closed.
use Rattle.std.proofs.Common.{◌≡◌, ℕ, suc, ◌+◌, ◌≤◌, List, [], ◌∷◌, ◌++◌, Option, Some, None, Result, Ok, Err, length, take, drop, refl, ap, sym, subst, ◌∙◌, arith, add-zero, Bool, true, false, ◌==◌, if◌then◌else◌, IfSome, length-take}
use Rattle.std.proofs.lemmas.List.{take-append-drop}
use Rattle.std.specs.Bool.{OnTrue}
use Rattle.std.specs.Option.{option_map, option_and_then}
use Rattle.arrayvec.specs.ArrayVec.{ArrayVec}
use Rattle.zb_aps.specs.Reading as aps_reading
use Rattle.zb_aps.specs.Shape as aps_shape
use Rattle.zb_aps.specs.declared.fault.ApsError.{ApsError}
use Rattle.zb_aps.specs.declared.frame.ApsFrame.{ApsFrame}
use Rattle.zb_base.specs.declared.address.Eui.{Eui}
use Rattle.zb_base.specs.declared.address.Short.{Short}
use Rattle.zb_base.specs.declared.key.Key.{Key}
use Rattle.zb_nwk.specs.Reading as nwk_reading
use Rattle.zb_nwk.specs.Shape as nwk_shape
use Rattle.zb_nwk.specs.declared.fault.NwkError.{NwkError}
use Rattle.zb_nwk.specs.declared.frame.NwkFrame.{NwkFrame}
use Rattle.zb_seal.specs.Keys.{sealing_key}
use Rattle.zb_seal.specs.Opening.{seen_nwk, seen_aps, content_of}
use Rattle.zb_seal.specs.declared.envelope.Envelope.{Envelope}
use Rattle.zb_inspect_frame.specs.Layers.{unsealed, opened_by, tried, is_closed, looked, found_nwk, found_aps}
use Rattle.zb_inspect_frame.specs.Shows.{payload_in, given_in, data_in, tunnel_of, tunnelled, source_known, below, shown_under, frame_shown}
use Rattle.zb_inspect_frame.specs.Settling.{ShowsOn}
use Rattle.zb_inspect_frame.specs.declared.layer.Finding.{Finding}
use Rattle.zb_inspect_frame.specs.declared.layer.Finding.TheVariants.{Malformed, NotSecured, NoSource, Closed, Opened}
use Rattle.zb_inspect_frame.specs.declared.shown.Below.{Below}
use Rattle.zb_inspect_frame.specs.declared.shown.Shown.{Shown}

-- What later keys give under further keys is what they give by themselves, and an earlier key changes nothing about
-- that.
one_before : (s : Envelope) (source : Eui) (number m : ℕ) (key : Key) (fresh : List Key) (found : Option (List ℕ))
    (more before : Finding)
    → more ≡ tried m fresh before → unsealed s source number key found more
    ≡ tried m fresh (unsealed s source number key found before)
one_before s source number m key fresh None more before same = same
one_before s source number m key fresh (Some content) more before same = refl

opened_further : (s : Envelope) (source : Eui) (number : ℕ) (keys fresh : List Key)
    → opened_by s source number (keys ++ fresh) ≡ tried (number + length keys) fresh (opened_by s source number keys)
opened_further s source number [] fresh = ap (λ m. opened_by s source m fresh) (sym (add-zero number))
opened_further s source number (key ∷ keys) fresh =
    one_before s source (number + 1) (number + suc (length keys)) key fresh
    (content_of s (sealing_key s.label key.0) source)
    (opened_by s source (number + 1) (keys ++ fresh)) (opened_by s source (number + 1) keys)
    (opened_further s source (number + 1) keys fresh ∙ ap (λ m. tried m fresh (opened_by s source (number + 1) keys))
    (omega arith))

-- Trying keys and then further ones is trying all of them.
pub tried_further : (number : ℕ) (keys fresh : List Key) (x : Finding)
    → tried number (keys ++ fresh) x ≡ tried (number + length keys) fresh (tried number keys x)
tried_further number keys fresh Malformed = refl
tried_further number keys fresh NotSecured = refl
tried_further number keys fresh NoSource = refl
tried_further number keys fresh (Closed s source) = opened_further s source number keys fresh
tried_further number keys fresh (Opened key term) = refl

known_first : (known : ℕ) (keys : List Key) → known ≤ length keys → known ≡ 0 + length (take known keys)
known_first known keys within = omega (arith, length-take known keys)

-- The same for the first keys of a list and those after them.
pub found_further : (known : ℕ) (keys : List Key) (x : Finding) → known ≤ length keys
    → tried known (drop known keys) (tried 0 (take known keys) x) ≡ tried 0 keys x
found_further known keys x within =
    ap (λ m. tried m (drop known keys) (tried 0 (take known keys) x)) (known_first known keys within)
    ∙ sym (tried_further 0 (take known keys) (drop known keys) x)
    ∙ ap (λ ks. tried 0 ks x) (take-append-drop known keys)

pub nwk_further : (known : ℕ) (keys : List Key) (bytes : List ℕ) → known ≤ length keys
    → tried known (drop known keys) (found_nwk (take known keys) bytes) ≡ found_nwk keys bytes
unfolding found_nwk
nwk_further known keys bytes within = found_further known keys (looked (seen_nwk bytes) None) within

pub aps_further : (known : ℕ) (keys : List Key) (given : Option Eui) (bytes : List ℕ) → known ≤ length keys
    → tried known (drop known keys) (found_aps (take known keys) given bytes) ≡ found_aps keys given bytes
unfolding found_aps
aps_further known keys given bytes within = found_further known keys (looked (seen_aps bytes) given) within

-- What is known about a layer stays known.
either_none : (b : Bool) (p : List ℕ) → (if b then None else None) ≡ Some p → ⊥
either_none true p e = cc
either_none false p e = cc

payload_of_frame : (number : ℕ) (fresh : List Key) (nwk : Finding) (f : NwkFrame) (p : List ℕ)
    → data_in nwk f ≡ Some p → data_in (tried number fresh nwk) f ≡ Some p
payload_of_frame number fresh Malformed f p e = e
payload_of_frame number fresh NotSecured f p e = e
payload_of_frame number fresh NoSource f p e = e
payload_of_frame number fresh (Closed s source) f p e = absurd (either_none (nwk_shape.kind f.header.control == 0) p e)
payload_of_frame number fresh (Opened key term) f p e = e

pub payload_kept : (number : ℕ) (fresh : List Key) (nwk : Finding) (r : Result NwkFrame NwkError) (p : List ℕ)
    → payload_in nwk r ≡ Some p → payload_in (tried number fresh nwk) r ≡ Some p
payload_kept number fresh nwk (Err fault) p e = e
payload_kept number fresh nwk (Ok f) p e = payload_of_frame number fresh nwk f p e

closed_tunnel : (b : Bool) (i : ArrayVec ℕ) → option_and_then tunnel_of (if b then None else None) ≡ Some i → ⊥
closed_tunnel true i e = cc
closed_tunnel false i e = cc

tunnel_of_frame : (number : ℕ) (fresh : List Key) (aps : Finding) (f : ApsFrame) (i : ArrayVec ℕ)
    → tunnelled aps (Ok f) ≡ Some i → tunnelled (tried number fresh aps) (Ok f) ≡ Some i
tunnel_of_frame number fresh Malformed f i e = e
tunnel_of_frame number fresh NotSecured f i e = e
tunnel_of_frame number fresh NoSource f i e = e
tunnel_of_frame number fresh (Closed s source) f i e =
    absurd (closed_tunnel (aps_shape.kind f.header.control == 1) i e)
tunnel_of_frame number fresh (Opened key term) f i e = e

pub tunnel_kept : (number : ℕ) (fresh : List Key) (aps : Finding) (r : Result ApsFrame ApsError) (i : ArrayVec ℕ)
    → tunnelled aps r ≡ Some i → tunnelled (tried number fresh aps) r ≡ Some i
tunnel_kept number fresh aps (Err fault) i e = e
tunnel_kept number fresh aps (Ok f) i e = tunnel_of_frame number fresh aps f i e

-- The frame in a known Tunnel, under further keys.
inner_of_tunnel : (known : ℕ) (keys : List Key) (given : Option Eui) (aps : Finding) (r : Result ApsFrame ApsError)
    (t : Option (ArrayVec ℕ)) (inner : Finding)
    → known ≤ length keys → tunnelled aps r ≡ t
    → option_map (λ (i : ArrayVec ℕ). found_aps (take known keys) given i.items) t ≡ Some inner
    → option_map (λ (i : ArrayVec ℕ). found_aps keys given i.items) (tunnelled (tried known (drop known keys) aps) r)
    ≡ Some (tried known (drop known keys) inner)
inner_of_tunnel known keys given aps r None inner within is e = cc
inner_of_tunnel known keys given aps r (Some i) inner within is e =
    ap (option_map (λ (j : ArrayVec ℕ). found_aps keys given j.items)) (tunnel_kept known (drop known keys) aps r i is)
    ∙ ap (λ x. Some x) (sym (aps_further known keys given i.items within))
    ∙ ap (option_map (tried known (drop known keys))) e

abbrev both : Finding → Option Finding → Below
both aps inner = record { aps = aps; inner = inner }

same_below : (a b : Finding) (i j : Option Finding) → a ≡ b → i ≡ j → both a i ≡ both b j
same_below a b i j e f = cc

-- What is below the NWK layer, if a Tunnel was known in it.
pub below_further : (known : ℕ) (keys : List Key) (given : Option Eui) (payload : List ℕ) (seen : Below)
    (inner : Finding)
    → known ≤ length keys → seen ≡ below (take known keys) given payload → seen.inner ≡ Some inner
    → below keys given payload
    ≡ record { aps = tried known (drop known keys) seen.aps; inner = Some (tried known (drop known keys) inner) }
below_further known keys given payload seen inner within is some =
    let aps : found_aps keys given payload ≡ tried known (drop known keys) seen.aps =
    sym (aps_further known keys given payload within) ∙ ap (λ (b : Below). tried known (drop known keys) b.aps)
    (sym is) in
    let inside = inner_of_tunnel known keys given (found_aps (take known keys) given payload)
    (aps_reading.frame_of payload)
    (tunnelled (found_aps (take known keys) given payload) (aps_reading.frame_of payload)) inner within refl
    (ap (λ (b : Below). b.inner) (sym is) ∙ some) in
    let inner_is : option_map (λ (i : ArrayVec ℕ). found_aps keys given i.items)
    (tunnelled (found_aps keys given payload) (aps_reading.frame_of payload))
    ≡ Some (tried known (drop known keys) inner) =
    ap (λ (a : Finding). option_map (λ (i : ArrayVec ℕ). found_aps keys given i.items)
    (tunnelled a (aps_reading.frame_of payload))) (sym (aps_further known keys given payload within)) ∙ inside in
    same_below _ _ _ _ aps inner_is

from_old : (f g : List ℕ → Below) (o now : Option (List ℕ)) (old new : Below) → option_map f o ≡ Some old
    → ((p : List ℕ) → o ≡ Some p → now ≡ Some p) → IfSome now (λ p. new ≡ g p) → option_map g now ≡ Some new
from_old f g None now old new e keeps under = cc
from_old f g (Some p) now old new e keeps under =
    let P : Option (List ℕ) → Type 0 = λ x. IfSome x (λ p. new ≡ g p) in
    let same : new ≡ g p = subst P (keeps p refl) under in
    ap (option_map g) (keeps p refl) ∙ ap (λ b. Some b) (sym same)

abbrev frame_of : List ℕ → Result NwkFrame NwkError
frame_of bytes = nwk_reading.frame_of bytes

pub shown_parts : (addrs : List (Short × Eui)) (keys : List Key) (nwk : Finding) (r : Result NwkFrame NwkError)
    → shown_under addrs keys nwk r
    ≡ record { nwk = nwk; below = option_map (below keys (given_in addrs r)) (payload_in nwk r) }
shown_parts addrs keys nwk (Err fault) = refl
shown_parts addrs keys nwk (Ok f) = refl

abbrev whole : Finding → Option Below → Shown
whole nwk b = record { nwk = nwk; below = b }

-- A frame that is opened again below its NWK layer.
pub frame_anew : (known : ℕ) (addrs : List (Short × Eui)) (keys : List Key) (bytes : List ℕ) (seen : Shown) → known
    ≤ length keys
    → seen ≡ frame_shown addrs (take known keys) bytes
    → shown_under addrs keys (tried known (drop known keys) seen.nwk) (frame_of bytes) ≡ frame_shown addrs keys bytes
unfolding frame_shown
frame_anew known addrs keys bytes seen within is =
    let first = take known keys in
    let nwk_is : seen.nwk ≡ found_nwk first bytes =
    ap (λ (s : Shown). s.nwk) (is ∙ shown_parts addrs first (found_nwk first bytes) (frame_of bytes)) in
    ap (λ n. shown_under addrs keys n (frame_of bytes))
    (ap (tried known (drop known keys)) nwk_is ∙ nwk_further known keys bytes within)

-- A frame whose data was known under the first keys.
frame_further : (known : ℕ) (addrs : List (Short × Eui)) (keys : List Key) (bytes : List ℕ) (seen : Shown)
    (old new : Below)
    → known ≤ length keys → seen ≡ frame_shown addrs (take known keys) bytes → seen.below ≡ Some old
    → IfSome (payload_in (tried known (drop known keys) seen.nwk) (frame_of bytes))
    (λ p. new ≡ below keys (given_in addrs (frame_of bytes)) p)
    → record { nwk = tried known (drop known keys) seen.nwk; below = Some new } ≡ frame_shown addrs keys bytes
unfolding frame_shown
frame_further known addrs keys bytes seen old new within is some under =
    let first = take known keys in
    let fresh = drop known keys in
    let r = frame_of bytes in
    let parts = is ∙ shown_parts addrs first (found_nwk first bytes) r in
    let nwk_is : seen.nwk ≡ found_nwk first bytes = ap (λ (s : Shown). s.nwk) parts in
    let was : option_map (below first (given_in addrs r)) (payload_in seen.nwk r) ≡ Some old =
    ap (λ n. option_map (below first (given_in addrs r)) (payload_in n r)) nwk_is ∙ sym
    (ap (λ (s : Shown). s.below) parts) ∙ some in
    let all : tried known fresh seen.nwk ≡ found_nwk keys bytes = ap (tried known fresh) nwk_is ∙ nwk_further known
    keys bytes within in
    let now = from_old (below first (given_in addrs r)) (below keys (given_in addrs r)) (payload_in seen.nwk r)
    (payload_in (tried known fresh seen.nwk) r) old new was (payload_kept known fresh seen.nwk r) under in
    ap (λ b. whole (tried known fresh seen.nwk) b) (sym now) ∙ sym
    (shown_parts addrs keys (tried known fresh seen.nwk) r)
    ∙ ap (λ n. shown_under addrs keys n r) all

if_some : (now : Option (List ℕ)) (Q : List ℕ → Type 0) → ((p : List ℕ) → now ≡ Some p → Q p) → IfSome now Q
if_some None Q each = tt
if_some (Some p) Q each = each p refl

old_is : (f : List ℕ → Below) (o now : Option (List ℕ)) (old : Below) → option_map f o ≡ Some old
    → ((p : List ℕ) → o ≡ Some p → now ≡ Some p)
    → (p : List ℕ) → now ≡ Some p → old ≡ f p
old_is f None now old e keeps p is = cc
old_is f (Some q) now old e keeps p is = let kept : now ≡ Some q = keeps q refl in cc

-- The same, if `nwk` is what the NWK layer is found to be under all keys: what was known below it, and what is known
-- then.

pub below_before : (known : ℕ) (addrs : List (Short × Eui)) (keys : List Key) (bytes : List ℕ) (seen : Shown)
    (nwk : Finding) (old : Below)
    → seen ≡ frame_shown addrs (take known keys) bytes → nwk ≡ tried known (drop known keys) seen.nwk → seen.below
    ≡ Some old
    → IfSome (payload_in nwk (frame_of bytes)) (λ p. old ≡ below (take known keys) (given_in addrs (frame_of bytes)) p)
unfolding frame_shown
below_before known addrs keys bytes seen nwk old is found some =
    let first = take known keys in
    let fresh = drop known keys in
    let r = frame_of bytes in
    let parts = is ∙ shown_parts addrs first (found_nwk first bytes) r in
    let nwk_is : seen.nwk ≡ found_nwk first bytes = ap (λ (s : Shown). s.nwk) parts in
    let was : option_map (below first (given_in addrs r)) (payload_in seen.nwk r) ≡ Some old =
    ap (λ n. option_map (below first (given_in addrs r)) (payload_in n r)) nwk_is ∙ sym
    (ap (λ (s : Shown). s.below) parts) ∙ some in
    let P : Finding → Type 0 = λ n. IfSome (payload_in n r) (λ p. old ≡ below first (given_in addrs r) p) in
    subst P (sym found)
    (if_some (payload_in (tried known fresh seen.nwk) r) (λ p. old ≡ below first (given_in addrs r) p)
    (old_is (below first (given_in addrs r)) (payload_in seen.nwk r) (payload_in (tried known fresh seen.nwk) r) old
    was
    (payload_kept known fresh seen.nwk r)))

pub frame_found : (known : ℕ) (addrs : List (Short × Eui)) (keys : List Key) (bytes : List ℕ) (seen : Shown)
    (nwk : Finding) (old new : Below)
    → known ≤ length keys → seen ≡ frame_shown addrs (take known keys) bytes → nwk
    ≡ tried known (drop known keys) seen.nwk → seen.below ≡ Some old
    → IfSome (payload_in nwk (frame_of bytes)) (λ p. new ≡ below keys (given_in addrs (frame_of bytes)) p)
    → record { nwk = nwk; below = Some new } ≡ frame_shown addrs keys bytes
frame_found known addrs keys bytes seen nwk old new within is found some under =
    let P : Finding → Type 0 = λ n. IfSome (payload_in n (frame_of bytes))
    (λ p. new ≡ below keys (given_in addrs (frame_of bytes)) p) in
    ap (λ n. whole n (Some new)) found ∙ frame_further known addrs keys bytes seen old new within is some
    (subst P found under)

none_either : (b : Bool) (f : List ℕ → Below) → option_map f (if b then None else None) ≡ None
none_either true f = refl
none_either false f = refl

closed_below : (addrs : List (Short × Eui)) (keys : List Key) (nwk : Finding) (f : NwkFrame) → is_closed nwk ≡ true
    → shown_under addrs keys nwk (Ok f) ≡ whole nwk None
closed_below addrs keys Malformed f e = cc
closed_below addrs keys NotSecured f e = cc
closed_below addrs keys NoSource f e = cc
closed_below addrs keys (Closed s source) f e =
    ap (whole (Closed s source))
    (none_either (nwk_shape.kind f.header.control == 0) (below keys (source_known addrs f.header)))
closed_below addrs keys (Opened key term) f e = cc

-- Nothing is known below a closed layer.
pub closed_frame : (addrs : List (Short × Eui)) (keys : List Key) (nwk : Finding) (r : Result NwkFrame NwkError)
    → is_closed nwk ≡ true
    → shown_under addrs keys nwk r ≡ whole nwk None
closed_frame addrs keys nwk (Err fault) e = refl
closed_frame addrs keys nwk (Ok f) e = closed_below addrs keys nwk f e

closed_before : (number : ℕ) (fresh : List Key) (x : Finding) → is_closed (tried number fresh x) ≡ true → is_closed x
    ≡ true
closed_before number fresh Malformed e = e
closed_before number fresh NotSecured e = e
closed_before number fresh NoSource e = e
closed_before number fresh (Closed s source) e = refl
closed_before number fresh (Opened key term) e = e

-- A frame whose NWK layer stays closed shows what it showed before.
still_closed : (known : ℕ) (addrs : List (Short × Eui)) (keys : List Key) (bytes : List ℕ) (seen : Shown) → known
    ≤ length keys
    → seen ≡ frame_shown addrs (take known keys) bytes → is_closed (tried known (drop known keys) seen.nwk) ≡ true
    → whole (tried known (drop known keys) seen.nwk) seen.below ≡ frame_shown addrs keys bytes
unfolding frame_shown
still_closed known addrs keys bytes seen within is closed =
    let first = take known keys in
    let r = frame_of bytes in
    let nwk_is : seen.nwk ≡ found_nwk first bytes =
    ap (λ (s : Shown). s.nwk) (is ∙ shown_parts addrs first (found_nwk first bytes) r) in
    let was : is_closed (found_nwk first bytes) ≡ true =
    ap is_closed (sym nwk_is) ∙ closed_before known (drop known keys) seen.nwk closed in
    let below_is : seen.below ≡ None =
    ap (λ (s : Shown). s.below) (is ∙ closed_frame addrs first (found_nwk first bytes) r was) in
    ap (whole (tried known (drop known keys) seen.nwk)) below_is
    ∙ sym (closed_frame addrs keys (tried known (drop known keys) seen.nwk) r closed)
    ∙ frame_anew known addrs keys bytes seen within is

pub still_shown : (known : ℕ) (keys : List Key) (seen : Shown) (nwk : Finding) (closed : Bool) → known ≤ length keys
    → nwk ≡ tried known (drop known keys) seen.nwk → closed ≡ is_closed nwk
    → OnTrue closed (ShowsOn known keys seen (whole nwk seen.below))
still_shown known keys seen nwk false within found is = tt
still_shown known keys seen nwk true within found is =
    λ addrs bytes before.
    ap (λ n. whole n seen.below) found
    ∙ still_closed known addrs keys bytes seen within before (ap is_closed (sym found) ∙ sym is)

-- What is below the NWK layer, if no Tunnel was known in it.
pub below_anew : (o : Option (List ℕ)) (known : ℕ) (keys : List Key) (given : Option Eui) (seen : Below)
    (aps : Finding) (inner : Option Finding)
    → known ≤ length keys → aps ≡ tried known (drop known keys) seen.aps
    → IfSome o (λ payload. seen ≡ below (take known keys) given payload)
    → IfSome o
    (λ payload. inner ≡ option_map (λ (i : ArrayVec ℕ). found_aps keys given i.items)
    (tunnelled aps (aps_reading.frame_of payload)))
    → IfSome o (λ payload. both aps inner ≡ below keys given payload)
below_anew None known keys given seen aps inner within is before under = tt
below_anew (Some payload) known keys given seen aps inner within is before under =
    let all : aps ≡ found_aps keys given payload =
    is ∙ ap (λ (b : Below). tried known (drop known keys) b.aps) before ∙ aps_further known keys given payload within
    in
    same_below _ _ _ _ all
    (under ∙ ap
    (λ (a : Finding). option_map (λ (i : ArrayVec ℕ). found_aps keys given i.items)
    (tunnelled a (aps_reading.frame_of payload))) all)
