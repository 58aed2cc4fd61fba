use Rattle.std.proofs.Common.{◌∙◌}
use Rattle.zb_backup.specs.Steps.{told_state}
use Rattle.zb_backup.proofs.Making.{read_made, rooms_of, same_record}
use Rattle.zb_backup.proofs.read.made_in.Goals as goal

pub write_record-len-requires-clause-few_nets : goal.write_record-len-requires-clause-few_nets
write_record-len-requires-clause-few_nets c =
    rw c.as_slice.ensures.value (rooms_of c.args.parts.now c.requires.few).nets

pub write_record-len-requires-clause-few_live : goal.write_record-len-requires-clause-few_live
write_record-len-requires-clause-few_live c =
    rw c.as_slice.ensures.value (rooms_of c.args.parts.now c.requires.few).live

pub write_record-len-requires-clause-few_links : goal.write_record-len-requires-clause-few_links
write_record-len-requires-clause-few_links c =
    rw c.as_slice-2.ensures.value (rooms_of c.args.parts.now c.requires.few).links

pub write_record-len-requires-clause-few_pairs : goal.write_record-len-requires-clause-few_pairs
write_record-len-requires-clause-few_pairs c =
    rw c.as_slice-3.ensures.value (rooms_of c.args.parts.now c.requires.few).pairs

pub returns : goal.returns
returns c =
    let p = c.args.parts.now in
    read_made c.tables_of.result (told_state p) _
    (c.write_record-len.ensures.bytes p.heading.aps_limit ∙ same_record p _ _ _ c.as_slice.ensures.value
    c.as_slice-2.ensures.value c.as_slice-3.ensures.value) c.tables_of.ensures
