-- What contents carry under some keys, they carry under further ones.
use Rattle.std.proofs.Common.{◌≡◌, ℕ, ◌≤◌, List, Option, Some, None, length, take, drop, refl, ap, sym, ◌∙◌, subst}
use Rattle.std.specs.Option.{option_map}
use Rattle.arrayvec.specs.ArrayVec.{ArrayVec}
use Rattle.zb_aps.specs.Reading as aps_reading
use Rattle.zb_base.specs.declared.address.Eui.{Eui}
use Rattle.zb_base.specs.declared.address.Short.{Short}
use Rattle.zb_base.specs.declared.key.Key.{Key}
use Rattle.zb_seal.specs.Carrying.{carried}
use Rattle.zb_nwk.specs.Reading as nwk_reading
use Rattle.zb_inspect_frame.specs.Carrying.{carries, key_below, keys_of_layers, keys_carried}
use Rattle.zb_inspect_frame.specs.Layers.{tried, found_nwk, found_aps}
use Rattle.zb_inspect_frame.specs.Shows.{payload_in, given_in, tunnelled, below, shown_under, frame_shown}
use Rattle.zb_inspect_frame.specs.declared.carried.Carried.{Carried}
use Rattle.zb_inspect_frame.specs.declared.layer.Finding.{Finding}
use Rattle.zb_inspect_frame.specs.declared.layer.Finding.TheVariants.{Malformed, NotSecured, NoSource, Closed, Opened}
use Rattle.zb_inspect_frame.specs.declared.shown.Below.{Below}
use Rattle.zb_inspect_frame.specs.declared.shown.Shown.{Shown}
use Rattle.zb_inspect_frame.proofs.MoreKeys.{nwk_further, aps_further, payload_kept, tunnel_kept, shown_parts}

-- A key that was carried still is.
abbrev pub Kept : Option Key → Option Key → Type 0
Kept None now = Unit {0}
Kept (Some key) now = now ≡ Some key

pub record Grows (old now : Carried) : Type 0 where
  pub inner : Kept old.inner now.inner
  pub aps : Kept old.aps now.aps
  pub nwk : Kept old.nwk now.nwk

same_kept : (o : Option Key) → Kept o o
same_kept None = tt
same_kept (Some key) = refl

kept_as : (o now also : Option Key) → now ≡ also → Kept o now → Kept o also
kept_as o now also e kept = subst (Kept o) e kept

carries_kept : (number : ℕ) (fresh : List Key) (x : Finding) → Kept (carries x) (carries (tried number fresh x))
carries_kept number fresh Malformed = tt
carries_kept number fresh NotSecured = tt
carries_kept number fresh NoSource = tt
carries_kept number fresh (Closed s source) = tt
carries_kept number fresh (Opened key term) = same_kept (carried term)

aps_kept : (known : ℕ) (keys : List Key) (given : Option Eui) (bytes : List ℕ) → known ≤ length keys
    → Kept (carries (found_aps (take known keys) given bytes)) (carries (found_aps keys given bytes))
aps_kept known keys given bytes within =
    kept_as _ _ _ (ap carries (aps_further known keys given bytes within))
    (carries_kept known (drop known keys) (found_aps (take known keys) given bytes))

-- The frame in a Tunnel.
abbrev inside : List Key → Option Eui → Option (ArrayVec ℕ) → Option Finding
inside keys given t = option_map (λ (i : ArrayVec ℕ). found_aps keys given i.items) t

tunnel_key_kept : (known : ℕ) (keys : List Key) (given : Option Eui) (t now : Option (ArrayVec ℕ)) → known
    ≤ length keys
    → ((i : ArrayVec ℕ) → t ≡ Some i → now ≡ Some i) → Kept (key_below (inside (take known keys) given t))
    (key_below (inside keys given now))
tunnel_key_kept known keys given None now within keeps = tt
tunnel_key_kept known keys given (Some i) now within keeps =
    kept_as _ _ _ (ap (λ t. key_below (inside keys given t)) (sym (keeps i refl)))
    (aps_kept known keys given i.items within)

inner_kept : (known : ℕ) (keys : List Key) (given : Option Eui) (payload : List ℕ) → known ≤ length keys
    → Kept (key_below (below (take known keys) given payload).inner) (key_below (below keys given payload).inner)
inner_kept known keys given payload within =
    let old = found_aps (take known keys) given payload in
    let r = aps_reading.frame_of payload in
    tunnel_key_kept known keys given (tunnelled old r) (tunnelled (found_aps keys given payload) r) within
    (λ i e. ap (λ a. tunnelled a r) (sym (aps_further known keys given payload within)) ∙ tunnel_kept known
    (drop known keys) old r i e)

nwk_key : (nwk : Finding) (b : Option Below) → (keys_of_layers nwk b).nwk ≡ carries nwk
nwk_key nwk None = refl
nwk_key nwk (Some b) = refl

layers_grow : (known : ℕ) (keys : List Key) (given : Option Eui) (nwk now : Finding) (o also : Option (List ℕ))
    → known ≤ length keys
    → now ≡ tried known (drop known keys) nwk → ((p : List ℕ) → o ≡ Some p → also ≡ Some p)
    → Grows (keys_of_layers nwk (option_map (below (take known keys) given) o))
    (keys_of_layers now (option_map (below keys given) also))
layers_grow known keys given nwk now None also within is keeps = record {
  inner = tt;
  aps = tt;
  nwk = kept_as _ _ _ (ap carries (sym is) ∙ sym (nwk_key now (option_map (below keys given) also)))
      (carries_kept known (drop known keys) nwk);
}
layers_grow known keys given nwk now (Some p) also within is keeps =
    let G : Option (List ℕ) → Type 0 = λ x. Grows (keys_of_layers nwk (Some (below (take known keys) given p)))
    (keys_of_layers now (option_map (below keys given) x)) in
    subst G (sym (keeps p refl)) (record {
      inner = inner_kept known keys given p within;
      aps = aps_kept known keys given p within;
      nwk = kept_as _ _ _ (ap carries (sym is)) (carries_kept known (drop known keys) nwk);
    })

-- A frame under further keys.
pub carried_grows : (known : ℕ) (addrs : List (Short × Eui)) (keys : List Key) (bytes : List ℕ) → known ≤ length keys
    → Grows (keys_carried (frame_shown addrs (take known keys) bytes)) (keys_carried (frame_shown addrs keys bytes))
unfolding frame_shown
carried_grows known addrs keys bytes within =
    let first = take known keys in
    let r = nwk_reading.frame_of bytes in
    let nwk = found_nwk first bytes in
    let all = nwk_further known keys bytes within in
    let G : Shown → Shown → Type 0 = λ s t. Grows (keys_carried s) (keys_carried t) in
    let grown = layers_grow known keys (given_in addrs r) nwk (found_nwk keys bytes) (payload_in nwk r)
    (payload_in (found_nwk keys bytes) r) within (sym all)
    (λ p e. ap (λ n. payload_in n r) (sym all) ∙ payload_kept known (drop known keys) nwk r p e) in
    subst (λ s. G s (shown_under addrs keys (found_nwk keys bytes) r)) (sym (shown_parts addrs first nwk r))
    (subst (λ t. G (record { nwk = nwk; below = option_map (below first (given_in addrs r)) (payload_in nwk r) }) t)
    (sym (shown_parts addrs keys (found_nwk keys bytes) r)) grown)
