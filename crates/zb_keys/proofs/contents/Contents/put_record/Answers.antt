use Rattle.std.proofs.Common.{◌≤◌, ◌∙◌, List, length, sym, subst}
use Rattle.std.specs.Prelude.{filter}
use Rattle.zb_record.specs.declared.net_row.NetRow.{NetRow}
use Rattle.zb_record.specs.declared.link_row.LinkRow.{LinkRow}
use Rattle.zb_record.specs.declared.pair_row.Pair.{Pair}
use Rattle.zb_record.specs.RowViews.{net_key}
use Rattle.zb_keys.proofs.RecordLemmas.{counts, same_record}
use Rattle.zb_keys.proofs.contents.Contents.put_record.Goals as goal

pub write_record-requires : goal.write_record-requires
write_record-requires c =
    let n = counts c.args.self.now c.requires.sound in
    record {
      few_nets = subst (λ (l : List NetRow). length l ≤ 256) (sym c.as_slice.ensures.value) n.nets;
      few_live = subst (λ (l : List NetRow). length (filter (λ (r : NetRow). (net_key r).live) l) ≤ 2)
          (sym c.as_slice.ensures.value) n.live;
      few_links = subst (λ (l : List LinkRow). length l ≤ 1024) (sym c.as_slice-2.ensures.value) n.links;
      few_pairs = subst (λ (l : List Pair). length l ≤ 256) (sym c.as_slice-3.ensures.value) n.pairs;
      room = c.requires.room;
    }

pub returns-clause-bytes : goal.returns-clause-bytes
returns-clause-bytes c =
    c.write_record.ensures.bytes c.args.self.now.aps_next
    ∙ same_record c.args.self.now _ _ _ _ c.heading-heading.ensures c.as_slice.ensures.value
    c.as_slice-2.ensures.value c.as_slice-3.ensures.value
