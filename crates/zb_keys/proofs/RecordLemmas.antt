-- What tables keep is what a record is written of.
use Rattle.std.proofs.Common.{◌≡◌, ◌≤◌, List, length, refl, ap, arith}
use Rattle.std.specs.Prelude.{filter}
use Rattle.std.proofs.lemmas.List.{length-map}
use borrow.Author.Tests.{leb-true}
use Rattle.zb_node_types.specs.Changes.{model_role}
use Rattle.zb_model.specs.Data.{Role, Centre, Router, Device}
use Rattle.zb_model.specs.State.{NetKey, live_nets}
use Rattle.zb_model.specs.Fits.{at_most_two_live, most_links}
use Rattle.zb_model.specs.Record.{record_of}
use Rattle.zb_keys.specs.declared.contents.Contents.{Contents}
use Rattle.zb_record.specs.declared.write.Heading.{Heading}
use Rattle.zb_record.specs.declared.net_row.NetRow.{NetRow}
use Rattle.zb_record.specs.declared.link_row.LinkRow.{LinkRow}
use Rattle.zb_record.specs.declared.pair_row.Pair.{Pair}
use Rattle.zb_record.specs.RowViews.{net_key, link_key, pair_key}
use Rattle.zb_record.specs.Headings.{state_written}
use Rattle.zb_keys.specs.Tables.{heading_of, state_of, IsSound}
use Rattle.zb_keys.proofs.ShownLemmas.{filter-map}
use Rattle.zb_keys.proofs.StateLemmas.{rooms_of, rules_of}

-- the record of the heading and the rows of tables is theirs
pub same_record : (a : Contents) (h : Heading) (nets : List NetRow) (links : List LinkRow) (pairs : List Pair) → h
    ≡ heading_of a → nets ≡ a.nets.items → links ≡ a.links.items → pairs ≡ a.pairs.items
    → record_of (state_written a.aps_next h nets links pairs) ≡ record_of (state_of a)
same_record a h nets links pairs same_heading same_nets same_links same_pairs =
    rw (same_heading, same_nets, same_links, same_pairs) refl

most_1024 : (d : Role) → most_links d ≤ 1024
most_1024 Centre = omega arith
most_1024 Router = omega arith
most_1024 Device = omega arith

pub record Counts (a : Contents) : Type 0 where
  pub nets : length a.nets.items ≤ 256
  pub links : length a.links.items ≤ 1024
  pub pairs : length a.pairs.items ≤ 256
  pub live : length (filter (λ (r : NetRow). (net_key r).live) a.nets.items) ≤ 2

pub counts : (a : Contents) → IsSound a → Counts a
unfolding at_most_two_live
counts a sound =
    let r = rules_of (state_of a) sound.rules in
    let room = rooms_of (state_of a) r.room in
    let two : length (live_nets (state_of a)) ≤ 2 = leb-true _ _ r.two in
    record {
      nets = omega (arith, room.nets, length-map a.nets.items net_key);
      links = omega (arith, room.links, length-map a.links.items link_key, most_1024 (model_role a.role));
      pairs = omega (arith, room.pairs, length-map a.pairs.items pair_key);
      live = omega (
        arith,
        two,
        ap (length {A = NetKey}) (filter-map (λ (x : NetKey). x.live) net_key a.nets.items),
        length-map (filter (λ (x : NetRow). (net_key x).live) a.nets.items) net_key,
      );
    }
