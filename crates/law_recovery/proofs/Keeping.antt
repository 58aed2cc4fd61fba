-- What a node has of its network and of its partner after an answer, by its bare rows.
use Rattle.std.proofs.Common.{◌≡◌, ℕ, Bool, true, false, not, List, [], ◌∷◌, ◌++◌, map, find, reverse, Some, option_map, nat_eq, refl, sym, ap, ◌∙◌, eq-eqb}
use Rattle.zb_model.specs.Data.{Bytes, Unverified, Verified}
use Rattle.zb_model.specs.Fits.{all_apart, keeps_rules}
use Rattle.zb_model.specs.State.{LinkKey, NodeState, same_key, is_link, has_link, is_live_of, is_live, is_unverified, is_verified, at_link, dropped_link, revived, new_link, with_link, may_use, current, offered}
use Rattle.law_change_fits.proofs.Parts.{kinds_alike, rules_of}
use Rattle.law_change_fits.proofs.Tests.{any_map, apart_map, both, never}
use Rattle.law_recovery.specs.Meeting.{HasBoth, HasNetwork, HasLink, HasOffer, HasProved}
use Rattle.law_recovery.proofs.Baring.{bare, bare_net, bare_link}
use Rattle.law_recovery.proofs.Rows.{before, none_before, is_current, is_offer, current_bare, offered_bare, last_bare, found_before, found_last, found_test, any_found, last_first, none_offered_then, replaced_current, may_use_of, same_network}

pub nets_of : (s x : NodeState) → bare s ≡ x → map bare_net s.nets ≡ x.nets
unfolding bare
nets_of s x e = ap (λ (y : NodeState). y.nets) e

pub links_of : (s x : NodeState) → bare s ≡ x → map bare_link s.links ≡ x.links
unfolding bare
links_of s x e = ap (λ (y : NodeState). y.links) e

pub active_of : (s x : NodeState) → bare s ≡ x → s.active ≡ x.active
unfolding bare
active_of s x e = ap (λ (y : NodeState). y.active) e

pub state_of : (s x : NodeState) → bare s ≡ x → s.state ≡ x.state
unfolding bare
state_of s x e = ap (λ (y : NodeState). y.state) e

may_bare : (s : NodeState) → may_use (bare s) ≡ may_use s
unfolding bare
may_bare s = refl

pub may_of : (s x : NodeState) → bare s ≡ x → may_use s ≡ may_use x
may_of s x e = sym (may_bare s) ∙ ap (λ (y : NodeState). may_use y) e

-- ---- if none of its rows changes

-- the network key is kept if the network rows and the active key are, and the node may use them
pub keeps_network : (s u x : NodeState) (key : Bytes) (sequence : ℕ) → HasNetwork s key sequence → bare u ≡ x → x.nets
    ≡ map bare_net s.nets → x.active ≡ s.active → may_use x ≡ true → HasNetwork u key sequence
keeps_network s u x key sequence h e nets active may = same_network s u key sequence h (nets_of u x e ∙ nets)
    (active_of u x e ∙ active) (may_of u x e ∙ may)

pub network_left : (s u : NodeState) (key : Bytes) (sequence : ℕ) → HasNetwork s key sequence → bare u ≡ bare s
    → HasNetwork u key sequence
unfolding bare
network_left s u key sequence h e = keeps_network s u (bare s) key sequence h e refl refl
    (may_bare s ∙ may_use_of s key sequence h)

pub links_left : (s u : NodeState) → bare u ≡ bare s → map bare_link u.links ≡ map bare_link s.links
unfolding bare
links_left s u e = links_of u (bare s) e

pub state_left : (s u : NodeState) → bare u ≡ bare s → u.state ≡ s.state
unfolding bare
state_left s u e = state_of u (bare s) e

pub link_kept : (s u : NodeState) (p : ℕ) (link : Bytes) → HasLink s p link → map bare_link u.links
    ≡ map bare_link s.links → HasLink u p link
link_kept s u p link h rows =
    let a = before bare_link (current u p) (bare_link h.row)
    (current_bare u p ∙ ap (find (is_current p)) rows ∙ sym (current_bare s p) ∙ ap (option_map bare_link)
    h.is_current) in
    record {
      row = a.item;
      is_current = a.is;
      row_key = ap (λ (r : LinkKey). r.key) a.seen ∙ h.row_key;
      none_offered =
          none_before bare_link (offered u p)
          (offered_bare u p ∙ ap (find (is_offer p)) rows ∙ sym (offered_bare s p) ∙ ap (option_map bare_link)
          h.none_offered);
    }

pub link_left : (s u : NodeState) (p : ℕ) (link : Bytes) → HasLink s p link → bare u ≡ bare s → HasLink u p link
link_left s u p link h e = link_kept s u p link h (links_left s u e)

pub both_left : (s u : NodeState) (p : ℕ) (link key : Bytes) → HasBoth s p link key → bare u ≡ bare s
    → HasBoth u p link key
both_left s u p link key h e =
    let rows = links_left s u e in
    let a = before bare_link (current u p) (bare_link h.row)
    (current_bare u p ∙ ap (find (is_current p)) rows ∙ sym (current_bare s p) ∙ ap (option_map bare_link)
    h.is_current) in
    let b = before bare_link (offered u p) (bare_link h.offer)
    (offered_bare u p ∙ ap (find (is_offer p)) rows ∙ sym (offered_bare s p) ∙ ap (option_map bare_link)
    h.is_offered) in
    record {
      row = a.item;
      is_current = a.is;
      row_key = ap (λ (r : LinkKey). r.key) a.seen ∙ h.row_key;
      offer = b.item;
      is_offered = b.is;
      offer_key = ap (λ (r : LinkKey). r.key) b.seen ∙ h.offer_key;
    }

-- a key that is offered next to another key is offered
pub one_of : (s : NodeState) (p : ℕ) (link key : Bytes) → HasBoth s p link key → HasOffer s p key
one_of s p link key h = record {
  row = h.row;
  is_current = h.is_current;
  offer = h.offer;
  is_offered = h.is_offered;
  offer_key = h.offer_key;
}

pub proved_left : (s u : NodeState) (p : ℕ) (key : Bytes) → HasProved s p key → bare u ≡ bare s → HasProved u p key
proved_left s u p key h e =
    let rows = links_left s u e in
    let a = before bare_link (current u p) (bare_link h.row)
    (current_bare u p ∙ ap (find (is_current p)) rows ∙ sym (current_bare s p) ∙ ap (option_map bare_link)
    h.is_current) in
    record {
      row = a.item;
      is_current = a.is;
      row_key = ap (λ (r : LinkKey). r.key) a.seen ∙ h.row_key;
      verified = ap (λ (r : LinkKey). is_verified r.attribute) a.seen ∙ h.verified;
      none_offered =
          none_before bare_link (offered u p)
          (offered_bare u p ∙ ap (find (is_offer p)) rows ∙ sym (offered_bare s p) ∙ ap (option_map bare_link)
          h.none_offered);
    }

pub offer_left : (s u : NodeState) (p : ℕ) (key : Bytes) → HasOffer s p key → bare u ≡ bare s → HasOffer u p key
offer_left s u p key h e =
    let rows = links_left s u e in
    let a = before bare_link (current u p) (bare_link h.row)
    (current_bare u p ∙ ap (find (is_current p)) rows ∙ sym (current_bare s p) ∙ ap (option_map bare_link)
    h.is_current) in
    let b = before bare_link (offered u p) (bare_link h.offer)
    (offered_bare u p ∙ ap (find (is_offer p)) rows ∙ sym (offered_bare s p) ∙ ap (option_map bare_link)
    h.is_offered) in
    record {
      row = a.item;
      is_current = a.is;
      offer = b.item;
      is_offered = b.is;
      offer_key = ap (λ (r : LinkKey). r.key) b.seen ∙ h.offer_key;
    }

-- the row that is tried first
pub record Tries (s : NodeState) (p : ℕ) (key : Bytes) : Type 0 where
  pub tried : LinkKey
  pub tried_first : find (is_live_of p) (reverse s.links) ≡ Some tried
  pub tried_key : tried.key ≡ key

pub tries_left : (s u : NodeState) (p : ℕ) (key : Bytes) → Tries s p key → bare u ≡ bare s → Tries u p key
tries_left s u p key h e =
    let a = before bare_link (find (is_live_of p) (reverse u.links)) (bare_link h.tried)
    (last_bare u p ∙ ap (λ l. find (is_live_of p) (reverse l)) (links_left s u e) ∙ sym (last_bare s p) ∙ ap
    (option_map bare_link) h.tried_first) in
    record { tried = a.item; tried_first = a.is; tried_key = ap (λ (r : LinkKey). r.key) a.seen ∙ h.tried_key }

-- ---- a key is offered: its row comes last

self : (n : ℕ) → nat_eq n n ≡ true
self n = eq-eqb n n refl

abbrev offer_row : ℕ → Bytes → Bool → LinkKey
offer_row p key told = new_link p key Unverified told

is_one : (p : ℕ) (key : Bytes) (told : Bool) → is_offer p (offer_row p key told) ≡ true
is_one p key told = rw (self p) refl

pub both_come : (s u : NodeState) (p : ℕ) (link key : Bytes) (told : Bool) → HasLink s p link
    → map bare_link u.links ≡ map bare_link s.links ++ offer_row p key told ∷ [] → HasBoth u p link key
both_come s u p link key told h e =
    let a = before bare_link (current u p) (bare_link h.row)
    (current_bare u p ∙ ap (find (is_current p)) e ∙ found_before (is_current p) (map bare_link s.links)
    (offer_row p key told ∷ []) (bare_link h.row)
    (sym (current_bare s p) ∙ ap (option_map bare_link) h.is_current)) in
    let b = before bare_link (offered u p) (offer_row p key told)
    (offered_bare u p ∙ ap (find (is_offer p)) e ∙ found_last (is_offer p) (map bare_link s.links)
    (offer_row p key told) (sym (offered_bare s p) ∙ ap (option_map bare_link) h.none_offered)
    (is_one p key told)) in
    record {
      row = a.item;
      is_current = a.is;
      row_key = ap (λ (r : LinkKey). r.key) a.seen ∙ h.row_key;
      offer = b.item;
      is_offered = b.is;
      offer_key = ap (λ (r : LinkKey). r.key) b.seen;
    }

pub offer_comes : (s u : NodeState) (p : ℕ) (link key : Bytes) (told : Bool) → HasLink s p link
    → map bare_link u.links ≡ map bare_link s.links ++ offer_row p key told ∷ [] → HasOffer u p key
offer_comes s u p link key told h e = one_of u p link key (both_come s u p link key told h e)

pub offer_tried : (s u : NodeState) (p : ℕ) (key : Bytes) (told : Bool) → map bare_link u.links
    ≡ map bare_link s.links ++ offer_row p key told ∷ [] → Tries u p key
offer_tried s u p key told e =
    let a = before bare_link (find (is_live_of p) (reverse u.links)) (offer_row p key told)
    (last_bare u p ∙ ap (λ l. find (is_live_of p) (reverse l)) e ∙ ap (find (is_live_of p))
    (last_first (map bare_link s.links) (offer_row p key told)) ∙ rw (self p) refl) in
    record { tried = a.item; tried_first = a.is; tried_key = ap (λ (r : LinkKey). r.key) a.seen }

-- if no row of a partner has a key, the offer of that key adds a row at the end
pub no_row : (p : ℕ) (key : Bytes) (told : Bool) (rows : List LinkKey) → has_link p key rows ≡ false
    → with_link p key Unverified told (map bare_link rows) ≡ map bare_link rows ++ offer_row p key told ∷ []
no_row p key told rows none = rw (any_map (is_link p key) bare_link rows ∙ none) refl

pub not_its_key : (s : NodeState) (p : ℕ) (key : Bytes) (row : LinkKey) → current s p ≡ Some row
    → has_link p key s.links ≡ false → same_key row.key key ≡ false
unfolding current
not_its_key s p key row e none = by_test (same_key row.key key) refl
  where
    live : is_live_of p row ≡ true
    live = (both (is_live_of p row) (not (is_unverified row.attribute)) (found_test (is_current p) s.links row e)).0

    by_test : (b : Bool) → same_key row.key key ≡ b → b ≡ false
    by_test true same =
        never (has_link p key s.links)
        (any_found (is_current p) (is_link p key) s.links row e
        (rw ((both row.live (nat_eq row.partner p) live).1, same) refl)) none
    by_test false same = refl

-- ---- an offered key takes the place of the current one

abbrev in_place : ℕ → Bytes → Bytes → Bool → List LinkKey → List LinkKey
in_place p old new told rows = at_link p new (revived Verified told) (at_link p old dropped_link rows)

bare_apart : (s : NodeState) → keeps_rules s ≡ true → all_apart kinds_alike (map bare_link s.links) ≡ true
bare_apart s rules = apart_map kinds_alike kinds_alike bare_link (λ a b e. e) s.links (rules_of s rules).kinds

pub proof_comes : (s u : NodeState) (p : ℕ) (key : Bytes) (told : Bool) → keeps_rules s ≡ true
    → (h : HasOffer s p key) → map bare_link u.links ≡ in_place p h.row.key key told (map bare_link s.links)
    → HasProved u p key
proof_comes s u p key told rules h e =
    let f = replaced_current p key told (bare_link h.row) (bare_link h.offer) (map bare_link s.links)
    (bare_apart s rules)
    (sym (current_bare s p) ∙ ap (option_map bare_link) h.is_current)
    (sym (offered_bare s p) ∙ ap (option_map bare_link) h.is_offered) h.offer_key in
    let a = before bare_link (current u p) f.item (current_bare u p ∙ ap (find (is_current p)) e ∙ f.is) in
    record {
      row = a.item;
      is_current = a.is;
      row_key = ap (λ (r : LinkKey). r.key) a.seen ∙ f.has.0;
      verified = ap (λ (r : LinkKey). is_verified r.attribute) a.seen ∙ f.has.1;
      none_offered =
          none_before bare_link (offered u p)
          (offered_bare u p ∙ ap (find (is_offer p)) e ∙ none_offered_then p h.row.key key told (bare_link h.offer)
          (map bare_link s.links) (bare_apart s rules)
          (sym (offered_bare s p) ∙ ap (option_map bare_link) h.is_offered)
          h.offer_key);
    }

pub is_member : (s : NodeState) (p : ℕ) (row : LinkKey) → current s p ≡ Some row → is_live s p ≡ true
unfolding current is_live
is_member s p row e = any_found (is_current p) (is_live_of p) s.links row e
    (both (is_live_of p row) (not (is_unverified row.attribute)) (found_test (is_current p) s.links row e)).0
