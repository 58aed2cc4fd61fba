-- The form in which a router or device takes each command, in the words of the policy.
use Rattle.std.specs.Prelude.{ℕ, Bool, not, ◌&&◌, ◌||◌, nat_eq, []}
use Rattle.zb_model.specs.Data.{ForData, ForLoad, ForNetwork, ForTransport, Nwk}
use Rattle.zb_model.specs.Commands.{Heard, is_member, labelled, nwk_secured, take_leave}
use Rattle.zb_model.specs.Rules.{Outcome, Setting, from_centre, is_router}

-- Transport-Key of a network key: sealed for transport, from the centre, to the node, naming the centre
abbrev pub is_net_key_form : Setting → Heard → ℕ → ℕ → Bool
is_net_key_form c m destination source =
    is_member c
    && (labelled ForTransport m.label
    && (from_centre c m.sender && (nat_eq destination c.me.eui && from_centre c source)))

-- Transport-Key of a link key with the centre: NWK secured, sealed for load, from the centre, to the node, naming the
-- centre
abbrev pub is_link_key_form : Setting → Heard → ℕ → ℕ → Bool
is_link_key_form c m destination source =
    is_member c
    && (nwk_secured m
    && (labelled ForLoad m.label
    && (from_centre c m.sender && (nat_eq destination c.me.eui && from_centre c source))))

-- Transport-Key of a key with a partner: NWK secured, sealed for load, from the centre; the partner is neither of the
-- two
abbrev pub is_app_key_form : Setting → Heard → ℕ → Bool
is_app_key_form c m partner =
    is_member c
    && (nwk_secured m
    && (labelled ForLoad m.label
    && (from_centre c m.sender && not (nat_eq partner c.me.eui || from_centre c partner))))

-- Confirm-Key: sealed for data, from the centre, status 0, type 4, to the node
abbrev pub is_confirm_form : Setting → Heard → ℕ → ℕ → ℕ → Bool
is_confirm_form c m status kind destination =
    is_member c
    && (labelled ForData m.label
    && (from_centre c m.sender && (nat_eq status 0 && (nat_eq kind 4 && nat_eq destination c.me.eui))))

-- Remove-Device: at a router, sealed for data, from the centre; the target is neither of the two
abbrev pub is_remove_form : Setting → Heard → ℕ → Bool
is_remove_form c m target =
    is_router c.me.role
    && (labelled ForData m.label
    && (from_centre c m.sender && not (nat_eq target c.me.eui || from_centre c target)))

-- A Leave that came from a node: its rule asks the term that brought it for the source alone.
abbrev pub leave_from : Setting → ℕ → ℕ → Outcome
leave_from c sender options =
    take_leave c
    (record {
      layer = Nwk;
      base = [];
      label = ForNetwork;
      source = sender;
      counter = 0;
      control = 0;
      header = [];
      content = [];
    }) options
