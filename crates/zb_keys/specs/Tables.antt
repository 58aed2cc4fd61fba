-- What the tables of a node hold, as the model's state of a node, and what they keep of themselves.
use Rattle.std.specs.Prelude.{◌≡◌, ◌≤◌, true, if◌then◌else◌, [], ◌∷◌, ◌++◌, map, vec_capacity}
use Rattle.zb_node_types.specs.Changes.{model_role, model_state, is_sending}
use Rattle.zb_keys.specs.declared.contents.Contents.{Contents}
use Rattle.zb_record.specs.RowViews.{net_key, link_key, pair_key}
use Rattle.zb_record.specs.declared.record.Record.{Record}
use Rattle.zb_record.specs.declared.write.Heading.{Heading}
use Rattle.zb_record.specs.Headings.{active_bytes}
use Rattle.zb_record.specs.Records.{record_seen}
use Rattle.zb_model.specs.State.{NodeState, NetKey, has_net, shown_net, booted_net, booted_link}
use Rattle.zb_model.specs.Fits.{keeps_rules, most_nets, most_links, most_pairs}

abbrev pub state_of : Contents → NodeState
state_of a = record {
  role = model_role a.role;
  state = model_state a.state;
  declared = a.declared;
  aps_limit = a.aps_limit;
  aps_next = a.aps_next;
  sending = is_sending a.rolling;
  nets = map net_key a.nets.items;
  active = active_bytes a.active;
  links = map link_key a.links.items;
  pairs = map pair_key a.pairs.items;
}

-- what stands before the rows in the record
abbrev pub heading_of : Contents → Heading
heading_of a =
    record {
      role = a.role;
      state = a.state;
      declared = a.declared;
      aps_limit = a.aps_limit;
      rolling = a.rolling;
      active = a.active;
    }

-- a row is added where its key has none
abbrev pub with_row : NetKey → NodeState → NodeState
with_row row s = record s { nets = if has_net row.key s.nets then s.nets else s.nets ++ row ∷ [] }

-- the network keys, and the link keys, as a boot sets them back
abbrev pub nets_booted : NodeState → NodeState
nets_booted s = record s { nets = map booted_net s.nets }

abbrev pub links_booted : NodeState → NodeState
links_booted s = record s { links = map booted_link s.links }

-- a dropped network key keeps no floors
abbrev pub Forgets : NodeState → Type 0
Forgets s = map shown_net s.nets ≡ s.nets

-- What holds of the contents of tables at all times: the rules for records, no floors of dropped network keys, and
-- room for all rows that there may be.
pub record IsSound (a : Contents) : Type 0 where
  pub rules : keeps_rules (state_of a) ≡ true
  pub forgets : Forgets (state_of a)
  pub nets_room : most_nets ≤ vec_capacity a.nets
  pub links_room : most_links (model_role a.role) ≤ vec_capacity a.links
  pub pairs_room : most_pairs ≤ vec_capacity a.pairs

-- The contents have that state now, and no less room than before.
pub record Becomes (now : NodeState) (old new : Contents) : Type 0 where
  pub state : state_of new ≡ now
  pub role : new.role ≡ old.role
  pub nets_room : vec_capacity old.nets ≤ vec_capacity new.nets
  pub links_room : vec_capacity old.links ≤ vec_capacity new.links
  pub pairs_room : vec_capacity old.pairs ≤ vec_capacity new.pairs

-- The contents are what a record represents, with room for all rows that there may be.
pub record IsRestored (a : Contents) (r : Record) : Type 0 where
  pub state : state_of a ≡ record_seen r
  pub nets_room : most_nets ≤ vec_capacity a.nets
  pub links_room : most_links (model_role a.role) ≤ vec_capacity a.links
  pub pairs_room : most_pairs ≤ vec_capacity a.pairs
