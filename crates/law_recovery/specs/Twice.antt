-- A frame that is secured at NWK is delivered to a node that it is for, and is repeated.
use Rattle.std.specs.Prelude.{◌≡◌, ◌<◌, true, false, not, ◌&&◌, None, nat_eq}
use Rattle.zb_model.specs.Data.{Bytes}
use Rattle.zb_model.specs.Rules.{Setting, is_declared}
use Rattle.zb_model.specs.State.{NodeState, greatest_counter, is_centre, is_known, is_live, usable_of}
use Rattle.zb_model.specs.Tools.{Tools}
use Rattle.law_recovery.specs.CommandFrames.{NetFrame, net_term}
use Rattle.law_recovery.specs.Meeting.{HasNetwork}
use Rattle.law_recovery.specs.Obstacles.{in_row, why_not_heard}

abbrev pub frame_bytes : Tools → NetFrame → Bytes → Bytes
frame_bytes tools f content = tools.wire (net_term f content)

-- The node accepts the frame: it is for the node, its sender is declared and wasn't removed, the node finds its key,
-- and neither a floor nor a full row prevents it.
pub record Hears (c : Setting) (s : NodeState) (f : NetFrame) : Type 0 where
  pub to : f.to ≡ c.me.short
  pub apart : nat_eq f.from c.me.short ≡ false
  pub small : f.counter < greatest_counter
  pub declared : is_declared c f.source ≡ true
  pub member : (is_centre c.me.role && (is_known s f.source && not (is_live s f.source))) ≡ false
  pub network : HasNetwork s f.key f.sequence
  pub free : in_row (usable_of s f.sequence) (λ row. why_not_heard row f.source f.counter) ≡ None
