use Rattle.std.proofs.Common.{◌&&◌, ◌∙◌, ap, Bool, List}
use Rattle.std.specs.Prelude.{bytes_eq, find}
use Rattle.std.specs.Option.{option_map}
use Rattle.zb_base.specs.declared.node.Peer.{Peer}
use Rattle.zb_script.specs.Grammar.{is_joiner}
use Rattle.zb_script.specs.Judge.{device_named}
use Rattle.zb_script.specs.Scripts.{Script, Station}
use Rattle.zb_script.specs.Views.{station_of}
use Rattle.zb_script.proofs.ReadLemmas.{found_seen}
use Rattle.zb_script.proofs.draft.Draft.device_named.Goals as goal

pub returns : goal.returns
returns c =
    let name = c.args.name.now.bytes in
    let asked : Station → Bool = λ s. bytes_eq s.name name && is_joiner s.role in
    c.eui_of.ensures ∙ ap (option_map (λ (p : Peer). p.eui.0))
    (c.find_device.ensures ∙ ap (λ (ps : List Peer). find (λ p. asked (station_of p)) ps) c.as_slice.ensures.value)
    ∙ found_seen asked c.self.inside.config.peers.items ∙ ap (λ (s : Script). device_named name s.stations)
    c.self.view_is
