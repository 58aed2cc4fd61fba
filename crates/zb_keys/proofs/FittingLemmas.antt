-- Network keys in use, counted in the program's list and in the model's.
use Rattle.std.proofs.Common.{◌≡◌, List, map, length, ap, ◌∙◌}
use Rattle.std.specs.Prelude.{filter}
use Rattle.std.proofs.lemmas.List.{length-map}
use Rattle.zb_model.specs.State.{NetKey}
use Rattle.zb_record.specs.declared.net_row.NetRow.{NetRow}
use Rattle.zb_record.specs.RowViews.{net_key}
use Rattle.zb_keys.proofs.ShownLemmas.{filter-map}

pub live_count : (rows : List NetRow) → length (filter (λ (r : NetKey). r.live) (map net_key rows))
    ≡ length (filter (λ (r : NetRow). (net_key r).live) rows)
live_count rows = ap (length {A = NetKey}) (filter-map (λ (x : NetKey). x.live) net_key rows) ∙ length-map
    (filter (λ (x : NetRow). (net_key x).live) rows) net_key
