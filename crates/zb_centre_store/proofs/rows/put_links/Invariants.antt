use Rattle.std.proofs.Common.{◌≡◌, ◌++◌, map, take}
use Rattle.zb_centre_store.specs.Rows.{link_line, numbered}
use Rattle.zb_record.specs.RowViews.{link_key}
use Rattle.zb_text.specs.Pages.{page}
use Rattle.zb_centre_store.proofs.rows.put_links.Given as goal

abbrev pub invariant-loop-place : goal.invariant-loop-place
invariant-loop-place l = l.page.items ≡ l.initial.page.items
    ++ page (numbered link_line 0 (map link_key (take l.place l.rows)))
