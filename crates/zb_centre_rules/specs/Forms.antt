-- The form in which the centre takes each command, in the words of the policy.
use Rattle.std.specs.Prelude.{ℕ, Bool, not, ◌&&◌, ◌||◌, nat_eq, nat_le}
use Rattle.zb_model.specs.Commands.{Heard, clear_or_data, is_clear, names_eui, under_current}
use Rattle.zb_model.specs.Rules.{Setting, acts_as_router}
use Rattle.zb_model.specs.State.{NodeState, is_centre}

-- Update-Device: sealed for data or in clear, from a declared router, status 0 to 3
abbrev pub is_update_form : Setting → Heard → ℕ → Bool
is_update_form c m status = is_centre c.me.role && (clear_or_data m && (acts_as_router c m.sender && nat_le status 3))

-- Request-Key of a link key: sealed for data under the sender's current row
abbrev pub is_request_form : Setting → NodeState → Heard → Bool
is_request_form c s m = is_centre c.me.role && under_current s m

-- Request-Key of a key with a partner: likewise, and the partner is neither the sender nor the centre
abbrev pub is_app_request_form : Setting → NodeState → Heard → ℕ → Bool
is_app_request_form c s m partner = is_centre c.me.role
    && (under_current s m && not (nat_eq partner m.sender || nat_eq partner c.me.eui))

-- Verify-Key: in clear, type 4, and the source that it names is that of the NWK term
abbrev pub is_verify_form : Setting → Heard → ℕ → ℕ → Bool
is_verify_form c m kind device = is_centre c.me.role
    && (is_clear m && (nat_eq kind 4 && names_eui device m.nwk_source))
