-- What a centre and a device have of each other in an exchange of link keys, and their stage.
use Rattle.std.specs.Prelude.{ℕ, ◌≡◌, ◌≤◌, true, find, reverse, Some, None}
use Rattle.zb_model.specs.Data.{Bytes, Joined, Offered, Confirmed}
use Rattle.zb_model.specs.Fits.{keeps_rules}
use Rattle.zb_model.specs.Rules.{Setting, is_declared}
use Rattle.zb_model.specs.State.{NetKey, LinkKey, NodeState, is_live_of, is_verified, active_row, usable_of, current, offered}
use Rattle.law_recovery.specs.Rejoining.{AreOfOneNetwork}

-- The settings are of one network, each node is declared to the other, and the centre's short address is 0.
pub record AreDeclared (c m : Setting) : Type 0 where
  pub network : AreOfOneNetwork c m
  pub centre_short : c.me.short ≡ 0
  pub centre_block : 1 ≤ c.me.in_block
  pub centre_declared : is_declared m c.me.eui ≡ true
  pub device_declared : is_declared c m.me.eui ≡ true

-- This network key is active at a node, with this sequence, and the sequence finds that key.
pub record HasNetwork (s : NodeState) (key : Bytes) (sequence : ℕ) : Type 0 where
  pub active : NetKey
  pub is_active : active_row s ≡ Some active
  pub active_key : active.key ≡ key
  pub active_sequence : active.sequence ≡ sequence
  pub found : NetKey
  pub is_found : usable_of s sequence ≡ Some found
  pub found_key : found.key ≡ key

-- A node has this link key of a partner, and no other is offered.
pub record HasLink (s : NodeState) (partner : ℕ) (link : Bytes) : Type 0 where
  pub row : LinkKey
  pub is_current : current s partner ≡ Some row
  pub row_key : row.key ≡ link
  pub none_offered : offered s partner ≡ None

-- A node has a link key of a partner, and is to prove another one that is offered.
pub record HasOffer (s : NodeState) (partner : ℕ) (key : Bytes) : Type 0 where
  pub row : LinkKey
  pub is_current : current s partner ≡ Some row
  pub offer : LinkKey
  pub is_offered : offered s partner ≡ Some offer
  pub offer_key : offer.key ≡ key

-- A node has this link key of a partner, and this other one is offered.
pub record HasBoth (s : NodeState) (partner : ℕ) (link key : Bytes) : Type 0 where
  pub row : LinkKey
  pub is_current : current s partner ≡ Some row
  pub row_key : row.key ≡ link
  pub offer : LinkKey
  pub is_offered : offered s partner ≡ Some offer
  pub offer_key : offer.key ≡ key

-- A node has this link key of a partner, it is verified, and no other is offered.
pub record HasProved (s : NodeState) (partner : ℕ) (key : Bytes) : Type 0 where
  pub row : LinkKey
  pub is_current : current s partner ≡ Some row
  pub row_key : row.key ≡ key
  pub verified : is_verified row.attribute ≡ true
  pub none_offered : offered s partner ≡ None

-- ---- the stage of a device

-- It has joined with its centre's network key, and has a link key of the centre.
pub record IsJoined (t : NodeState) (centre : ℕ) (key : Bytes) (sequence : ℕ) (link : Bytes) : Type 0 where
  pub network : HasNetwork t key sequence
  pub joined : t.state ≡ Joined
  pub keys : HasLink t centre link

-- It was sent a link key of its own, and tries this one first of the centre's keys.
pub record IsOffered (t : NodeState) (centre : ℕ) (key : Bytes) (sequence : ℕ) (offer : Bytes) : Type 0 where
  pub network : HasNetwork t key sequence
  pub is_offered : t.state ≡ Offered
  pub keys : HasOffer t centre offer
  pub tried : LinkKey
  pub tried_first : find (is_live_of centre) (reverse t.links) ≡ Some tried
  pub tried_key : tried.key ≡ offer

-- It is confirmed, with a verified link key of the centre.
pub record IsConfirmed (t : NodeState) (centre : ℕ) (key : Bytes) (sequence : ℕ) (link : Bytes) : Type 0 where
  pub network : HasNetwork t key sequence
  pub confirmed : t.state ≡ Confirmed
  pub keys : HasProved t centre link

-- A state keeps the rules for records, and has the role of the setting.
pub record IsSteady (c : Setting) (s : NodeState) : Type 0 where
  pub rules : keeps_rules s ≡ true
  pub role : s.role ≡ c.me.role
