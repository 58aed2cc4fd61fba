-- How a device joins through a router: the router reports its child, the centre answers in a Tunnel, and the router
-- relays the frame in it. The obstacles of each event, each with the refusal that it gives, in the order in which
-- they are checked.
use Rattle.std.specs.Prelude.{ℕ, ◌≡◌, true, false, nat_eq, Option, is_none}
use Rattle.zb_model.specs.Data.{Bytes, Reason, NotMember}
use Rattle.zb_model.specs.Rules.{Setting, acts_as_router, in_rejoining, is_declared, is_router, short_of}
use Rattle.zb_model.specs.State.{NodeState, current}
use Rattle.law_recovery.specs.Exchanging.{Seals}
use Rattle.law_recovery.specs.Meeting.{AreDeclared, HasLink, HasNetwork}
use Rattle.law_recovery.specs.Obstacles.{in_row, or_else, obstacle_if, why_not_opened, why_not_sealed, why_unheard}

-- The settings of a centre, a router and a device: both are of the centre's network, each knows the addresses of the
-- others, and these differ.
pub record AreRouted (c r m : Setting) : Type 0 where
  pub router : AreDeclared c r
  pub device : AreDeclared c m
  pub router_role : is_router r.me.role ≡ true
  pub router_acts : acts_as_router c r.me.eui ≡ true
  pub child_declared : is_declared r m.me.eui ≡ true
  pub child_short : short_of r m.me.eui ≡ m.me.short
  pub apart : nat_eq m.me.eui r.me.eui ≡ false
  pub shorts_differ : nat_eq r.me.short m.me.short ≡ false

-- A router is a member: it has the centre's network key and a link key of the centre, and doesn't rejoin.
pub record IsRouting (t : NodeState) (centre : ℕ) (key : Bytes) (sequence : ℕ) (link : Bytes) : Type 0 where
  pub network : HasNetwork t key sequence
  pub keys : HasLink t centre link
  pub stays : in_rejoining t.state ≡ false

-- ---- the obstacles

-- why a router doesn't report its child: a counter is at its end
abbrev pub why_no_report : NodeState → Option Reason
why_no_report t = why_not_sealed t

-- Why the centre doesn't answer the report: it doesn't accept or can't open it, the child isn't live, or a counter is
-- at its end.
unfoldable pub why_no_tunnel : NodeState → ℕ → ℕ → Seals → Option Reason
why_no_tunnel s router device k =
    or_else (why_unheard s router k)
    (or_else (in_row (current s router) (λ row. why_not_opened row k.aps))
    (or_else (obstacle_if (is_none (current s device)) NotMember) (why_not_sealed s)))

-- why the router doesn't relay a Tunnel: it doesn't accept it
abbrev pub why_not_relayed : NodeState → ℕ → Seals → Option Reason
why_not_relayed t centre k = why_unheard t centre k
