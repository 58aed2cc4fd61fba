-- What the program keeps about names and declared nodes.
use Rattle.std.specs.Prelude.{◌≡◌, true, List, length, Option, Some, None}
use Rattle.std.specs.List.{All}
use Rattle.std.specs.BTreeMap.{get, btree_map_len}
use Rattle.std.specs.Cmp.Lexicographic.{slice_cmp}
use Rattle.std.specs.Option.{option_map, is_some}
use Rattle.std.specs.Ordering.{nat_cmp}
use Rattle.std.specs.declared.cmp.Ordering.{Ordering}
use Rattle.arrayvec.specs.ArrayString.{ArrayString}
use Rattle.zb_model.specs.Data.{Bytes, Station}
use Rattle.zb_node_types.specs.Changes.{model_role}
use Rattle.zb_trace.specs.declared.line.Line.{Line}
use Rattle.zb_audit_names.specs.Naming.{place_in, station_named, eui_of, is_centres, centre_name, speaker}
use Rattle.zb_audit_names.specs.declared.directory.Directory.{Directory}
use Rattle.zb_audit_names.specs.declared.directory.Known.{Known}
use Rattle.zb_audit_names.specs.declared.node.Node.{Node}
use Rattle.zb_audit_names.specs.declared.node.Who.{Who}

abbrev pub name_cmp : ArrayString → ArrayString → Ordering
name_cmp a b = slice_cmp nat_cmp a.bytes b.bytes

-- The node that a `0 node` line with that name declares.
pub record IsStation (s : Station) (name : Bytes) (node : Node) : Type 0 where
  pub name_is : s.name ≡ name
  pub eui_is : s.eui ≡ node.eui.0
  pub role_is : s.role ≡ model_role node.role
  pub out_is : s.out_block ≡ node.out_block
  pub in_is : s.in_block ≡ node.in_block

-- Which node a name is, if these are the names and the declared nodes.
pub record Tells (who : Who) (names : List Bytes) (known : List Station) (name : Bytes) : Type 0 where
  pub place : place_in names name ≡ Some who.place
  pub eui : option_map (λ (n : Node). n.eui.0) who.node ≡ eui_of known name
  pub role : option_map (λ (n : Node). model_role n.role) who.node
      ≡ option_map (λ (s : Station). s.role) (station_named known name)
  pub out_block : option_map (λ (n : Node). n.out_block) who.node
      ≡ option_map (λ (s : Station). s.out_block) (station_named known name)
  pub in_block : option_map (λ (n : Node). n.in_block) who.node
      ≡ option_map (λ (s : Station). s.in_block) (station_named known name)
  pub centre : who.is_centre ≡ is_centres known name

-- Which node a line names, if it names one.
abbrev pub TellsOf : Who → List Bytes → List Station → Option Bytes → Type 0
TellsOf who names known None = Unit {0}
TellsOf who names known (Some name) = Tells who names known name

abbrev pub IsSpeaker : Who → List Bytes → List Station → Line → Type 0
IsSpeaker who names known l = TellsOf who names known (speaker l)

abbrev pub IsEntry : Option Who → List Bytes → List Station → Bytes → Type 0
IsEntry None names known name = place_in names name ≡ None
IsEntry (Some who) names known name = Tells who names known name

-- A declared name that was looked up is the node that the directory gives.
abbrev pub IsKnown : Option Known → List Bytes → List Station → Type 0
IsKnown None names known = Unit {0}
IsKnown (Some k) names known = Tells k.who names known k.name.bytes × (is_some k.who.node ≡ true)

-- So is each of those that are kept.
abbrev pub AreKnown : List (Option Known) → List Bytes → List Station → Type 0
AreKnown looked_up names known = All (λ (o : Option Known). IsKnown o names known) looked_up

-- The directory has these names and these declared nodes.
pub record Stands (d : Directory) (names : List Bytes) (known : List Station) : Type 0 where
  pub entries : (name : ArrayString) → IsEntry (get name_cmp d.names name) names known name.bytes
  pub count : btree_map_len d.names ≡ length names
  pub centre : d.has_centre ≡ is_some (centre_name known)
  -- A name that occurs in no line is not that of a declared node.
  pub silent : (name : Bytes) → place_in names name ≡ None → station_named known name ≡ None
  pub looked_up : AreKnown d.looked_up.items names known
