-- How a member rejoins: it asks (`rejoin`), the centre answers (`child`), and the frame that the centre sends is
-- delivered. The obstacles, each with the refusal that it gives, in the order in which they are checked.
use Rattle.std.specs.Prelude.{ℕ, ◌≡◌, ◌≤◌, Bool, true, false, ◌||◌, if◌then◌else◌, Option, Some, None, nat_eq, nat_lt, is_none}
use Rattle.zb_model.specs.Data.{Bytes, Aps, Confirmed, Rejoining, Reason, NoKey, NotMember, CounterSpent, Stale, KeyOld, KeysFull, DoRejoin, HasChild, Received}
use Rattle.zb_model.specs.Commands.{dropped_at}
use Rattle.zb_model.specs.Fits.{live_net}
use Rattle.zb_model.specs.Rules.{Setting, centre_of, short_of, spent, has_joined, in_rejoining, nets_full}
use Rattle.zb_model.specs.State.{NetKey, LinkKey, NodeState, is_centre, is_verified, has_net, active_row, current, offered, next_counter}
use Rattle.zb_model.specs.Tools.{Tools}
use Rattle.law_recovery.specs.Answering.{after_task, IsTaken, frame_of}
use Rattle.law_recovery.specs.KeyFrames.{KeyFrame}

-- ---- the three obstacles at the centre, and the three at the member

-- Why the centre sends a child no network key: it has no active one, the child isn't live, or its APS counter is at
-- its end.
unfoldable pub why_not_sent : NodeState → ℕ → Option Reason
why_not_sent s device =
    if is_none (active_row s) then Some NoKey
    else (if is_none (current s device) then Some NotMember
    else (if spent Aps s then Some CounterSpent else None))

-- the member doesn't have the network key, and its rows are full
abbrev pub why_no_room : NodeState → Bytes → Option Reason
why_no_room t key = if has_net key t.nets then None else (if nets_full t then Some KeysFull else None)

-- it dropped the network key
abbrev pub why_old : Option ℕ → Option Reason → Option Reason
why_old None rest = rest
why_old (Some place) rest = Some (KeyOld place)

-- Why a member doesn't install a network key that is sealed under a link key with a counter. Its floor for that link
-- key is above the counter, or one of the two reasons above applies.
unfoldable pub why_not_taken : NodeState → LinkKey → ℕ → Bytes → Option Reason
why_not_taken t row counter key =
    if nat_lt counter row.kept then Some (Stale row.kept)
    else why_old (dropped_at 0 key t.nets) (why_no_room t key)

-- ---- the two nodes

-- The settings of a centre and of a router or device: they are of one network, with addresses of their own.
pub record AreOfOneNetwork (c m : Setting) : Type 0 where
  pub centre_role : is_centre c.me.role ≡ true
  pub member_role : is_centre m.me.role ≡ false
  pub centre_known : centre_of m.stations ≡ c.me.eui
  pub short_known : short_of c m.me.eui ≡ m.me.short
  pub shorts_differ : nat_eq c.me.short m.me.short ≡ false
  pub in_block : 1 ≤ m.me.in_block

-- The centre has an active network key and a current link key of the member. The member has the same link key of the
-- centre, verified, and no other key is offered to it. So no exchange is under way between the two.
pub record AreLinked (c m : Setting) (s t : NodeState) : Type 0 where
  pub net : NetKey
  pub active_key : active_row s ≡ Some net
  pub row : LinkKey
  pub at_centre : current s m.me.eui ≡ Some row
  pub own : LinkKey
  pub at_member : current t c.me.eui ≡ Some own
  pub same_key : own.key ≡ row.key
  pub verified : is_verified own.attribute ≡ true
  pub no_offer : offered t c.me.eui ≡ None

-- a router or device that has joined, or that rejoins and waits for a network key
abbrev pub may_rejoin : NodeState → Bool
may_rejoin t = has_joined t.state || in_rejoining t.state

abbrev pub rejoining : NodeState → NodeState
rejoining t = record t { state = Rejoining }

-- the frame that the centre sends
abbrev pub answer_frame : Setting → Setting → NodeState → NetKey → LinkKey → KeyFrame
answer_frame c m s net row = record {
  key = net.key;
  sequence = net.sequence;
  device = m.me.eui;
  centre = c.me.eui;
  to = m.me.short;
  from = c.me.short;
  link = row.key;
  counter = next_counter Aps s;
}

-- ---- after the exchange

-- The member is confirmed, and this network key is active, in a live row.
pub record HasRejoined (t : NodeState) (key : Bytes) : Type 0 where
  pub confirmed : t.state ≡ Confirmed
  pub active_key : t.active ≡ Some key
  pub live_key : live_net key t ≡ true

-- The whole exchange: the member asks, and waits for a network key; the centre sends one; the member installs it, and
-- is confirmed with the centre's active network key.
pub record Rejoins (tools : Tools) (c m : Setting) (s t : NodeState) (draw : Option Bytes) : Type 0 where
  pub waits : after_task tools m t DoRejoin ≡ rejoining t
  pub frame : Bytes
  pub sent : frame_of tools c s (HasChild m.me.eui true) ≡ Some frame
  pub taken : IsTaken tools m (rejoining t) (Received frame draw)
  pub key : Bytes
  pub active_key : s.active ≡ Some key
  pub ends : HasRejoined (after_task tools m (rejoining t) (Received frame draw)) key
