-- The values of changes that can be written: keys of 16 bytes, numbers within their widths.
use Rattle.std.specs.Prelude.{◌≡◌, ◌^◌, ◌<◌, Bool, ◌&&◌, length, nat_eq, nat_lt}
use Rattle.std.specs.List.{AllByRecursion, list_all}
use Rattle.zb_model.specs.State.{SenderFloor, NetKey, LinkKey, PairKey, NodeState}
use Rattle.zb_base.specs.declared.key.Key.{Key}
use Rattle.zb_node_types.specs.declared.change.Change.{Change}
use Rattle.zb_node_types.specs.declared.change.Change.TheVariants.{Reserve, Floor, Draw, DropNet, DropLink, Install, Active, Row, State, Roll, Told, Untold, Live, Removed, Start, Pair}

abbrev pub IsKey : Key → Type 0
IsKey k = length k.0 ≡ 16

abbrev pub InRange : Change → Type 0
InRange (Reserve layer limit) = limit < 2 ^ 32
InRange (Floor layer k sender value) = IsKey k × (sender.0 < 2 ^ 64) × (value < 2 ^ 32)
InRange (Draw k) = IsKey k
InRange (DropNet k) = IsKey k
InRange (DropLink partner k) = (partner.0 < 2 ^ 64) × IsKey k
InRange (Install k sequence) = IsKey k × (sequence < 2 ^ 8)
InRange (Active k) = IsKey k
InRange (Row partner k attribute) = (partner.0 < 2 ^ 64) × IsKey k
InRange (State state) = Unit {0}
InRange (Roll rollover) = Unit {0}
InRange (Told device) = device.0 < 2 ^ 64
InRange (Untold device) = device.0 < 2 ^ 64
InRange (Live device) = device.0 < 2 ^ 64
InRange (Removed device) = device.0 < 2 ^ 64
InRange (Start k value) = IsKey k × (value < 2 ^ 32)
InRange (Pair first second k) = (first.0 < 2 ^ 64) × (second.0 < 2 ^ 64) × IsKey k

-- the rows of a state that can be written

pub record NetFits (r : NetKey) : Type 0 where
  pub key : length r.key ≡ 16
  pub limit : r.limit < 2 ^ 32
  pub floors : AllByRecursion (λ (f : SenderFloor). (f.sender < 2 ^ 64) × (f.stored < 2 ^ 32)) r.floors

pub record LinkFits (r : LinkKey) : Type 0 where
  pub partner : r.partner < 2 ^ 64
  pub key : length r.key ≡ 16
  pub stored : r.stored < 2 ^ 32

pub record PairFits (p : PairKey) : Type 0 where
  pub first : p.first < 2 ^ 64
  pub second : p.second < 2 ^ 64
  pub key : length p.key ≡ 16

pub record FitsBytes (s : NodeState) : Type 0 where
  pub declared : s.declared < 2 ^ 32
  pub aps_limit : s.aps_limit < 2 ^ 32
  pub nets : AllByRecursion NetFits s.nets
  pub links : AllByRecursion LinkFits s.links
  pub pairs : AllByRecursion PairFits s.pairs

-- the same as a test

abbrev pub floor_fits : SenderFloor → Bool
floor_fits f = nat_lt f.sender (2 ^ 64) && nat_lt f.stored (2 ^ 32)

abbrev pub net_fits : NetKey → Bool
net_fits r = nat_eq (length r.key) 16 && (nat_lt r.limit (2 ^ 32) && list_all floor_fits r.floors)

abbrev pub link_fits : LinkKey → Bool
link_fits r = nat_lt r.partner (2 ^ 64) && (nat_eq (length r.key) 16 && nat_lt r.stored (2 ^ 32))

abbrev pub pair_fits : PairKey → Bool
pair_fits p = nat_lt p.first (2 ^ 64) && (nat_lt p.second (2 ^ 64) && nat_eq (length p.key) 16)

unfoldable pub fits_widths : NodeState → Bool
fits_widths s =
    nat_lt s.declared (2 ^ 32)
    && (nat_lt s.aps_limit (2 ^ 32)
    && (list_all net_fits s.nets && (list_all link_fits s.links && list_all pair_fits s.pairs)))
