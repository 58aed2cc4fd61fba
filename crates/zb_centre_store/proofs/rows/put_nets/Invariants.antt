use Rattle.std.proofs.Common.{◌≡◌, ◌++◌, map, take}
use Rattle.std.specs.Prelude.{option_map}
use Rattle.zb_centre_store.specs.Rows.{net_line, numbered}
use Rattle.zb_base.specs.declared.key.Key.{Key}
use Rattle.zb_record.specs.RowViews.{net_key}
use Rattle.zb_text.specs.Pages.{page}
use Rattle.zb_centre_store.proofs.rows.put_nets.Given as goal

abbrev pub invariant-loop-place : goal.invariant-loop-place
invariant-loop-place l = l.page.items ≡ l.initial.page.items
    ++ page (numbered (net_line (option_map (λ (k : Key). k.0) l.active)) 0 (map net_key (take l.place l.rows)))
