-- How a command came, in the words of the policy.
use Rattle.std.specs.Prelude.{Some, None, option_map}
use Rattle.zb_base.specs.declared.address.Eui.{Eui}
use Rattle.zb_model.specs.Commands as model
use Rattle.zb_row_changes.specs.Terms.{model_label}
use Rattle.zb_row_changes.specs.RowViews.{link_key}
use Rattle.zb_rules.specs.declared.heard.Heard.{Heard}
use Rattle.zb_rules.specs.declared.heard.Heard.TheVariants.{Clear, Sealed}

-- A command without APS security came in a secured NWK frame, whose source is its sender.
abbrev pub heard_of : Heard → model.Heard
heard_of (Clear nwk) = record { sender = nwk.0; label = None; row = None; nwk_source = Some nwk.0 }
heard_of (Sealed sender label row nwk) =
    record {
      sender = sender.0;
      label = Some (model_label label);
      row = Some (link_key row);
      nwk_source = option_map (λ (e : Eui). e.0) nwk;
    }
