-- What a boot sets back isn't in a backup, and what it leaves are the tables of a centre again.
use Rattle.std.proofs.Common.{◌≡◌, List, [], ◌∷◌, length, map, Bool, true, Option, Some, None, refl, sym, ap, ◌∙◌}
use Rattle.std.specs.List.{list_all, position_or_len}
use Rattle.zb_model.specs.Data.{Bytes, Centre}
use Rattle.zb_model.specs.Fits.{keeps_rules}
use Rattle.zb_model.specs.State.{SenderFloor, NetKey, LinkKey, NodeState, after_boot, booted_floor, booted_link, booted_net, same_key, shown, shown_net}
use Rattle.zb_keys.proofs.BootLemmas.{booted_shown}
use Rattle.law_run.proofs.StoredFits.{rules_same}
use Rattle.zb_backup.specs.Format.{floor_object, net_object, link_object, active_value, backup_of}
use Rattle.zb_backup.specs.Reading.{IsOfCentre, floor_fits, net_fits, link_fits, has_widths}
use Rattle.zb_backup.proofs.Both.{boot_twice}

-- ---- the same backup

floors_same : (fs : List SenderFloor) → map floor_object (map booted_floor fs) ≡ map floor_object fs
unfolding floor_object
floors_same [] = refl
floors_same (f ∷ fs) = rw (floors_same fs) refl

nets_same : (rows : List NetKey) → map net_object (map booted_net rows) ≡ map net_object rows
unfolding net_object
nets_same [] = refl
nets_same (r ∷ rs) = rw (nets_same rs, floors_same r.floors) refl

links_same : (rows : List LinkKey) → map link_object (map booted_link rows) ≡ map link_object rows
unfolding link_object
links_same [] = refl
links_same (r ∷ rs) = rw (links_same rs) refl

abbrev has_key : Bytes → NetKey → Bool
has_key key r = same_key r.key key

first_same : (key : Bytes) (rows : List NetKey) → position_or_len (has_key key) (map booted_net rows)
    ≡ position_or_len (has_key key) rows
first_same key [] = refl
first_same key (r ∷ rs) = rw (first_same key rs) refl

long_same : (rows : List NetKey) → length (map booted_net rows) ≡ length rows
long_same [] = refl
long_same (r ∷ rs) = rw (long_same rs) refl

active_same : (active : Option Bytes) (rows : List NetKey) → active_value active (map booted_net rows)
    ≡ active_value active rows
unfolding active_value
active_same None rows = refl
active_same (Some key) rows = rw (first_same key rows, long_same rows) refl

pub backup_same : (s : NodeState) → backup_of (after_boot s) ≡ backup_of s
unfolding backup_of after_boot
backup_same s = rw (active_same s.active s.nets, nets_same s.nets, links_same s.links) refl

-- ---- the tables of a centre

floors_fit : (fs : List SenderFloor) → list_all floor_fits (map booted_floor fs) ≡ list_all floor_fits fs
floors_fit [] = refl
floors_fit (f ∷ fs) = rw (floors_fit fs) refl

nets_fit : (rows : List NetKey) → list_all net_fits (map booted_net rows) ≡ list_all net_fits rows
nets_fit [] = refl
nets_fit (r ∷ rs) = rw (nets_fit rs, floors_fit r.floors) refl

links_fit : (rows : List LinkKey) → list_all link_fits (map booted_link rows) ≡ list_all link_fits rows
links_fit [] = refl
links_fit (r ∷ rs) = rw (links_fit rs) refl

pub widths_same : (s : NodeState) → has_widths (after_boot s) ≡ has_widths s
unfolding has_widths after_boot
widths_same s = rw (nets_fit s.nets, links_fit s.links) refl

forgets_booted : (s : NodeState) → shown s ≡ s → shown (after_boot s) ≡ after_boot s
unfolding shown after_boot
forgets_booted s forgets =
    let nets : map shown_net s.nets ≡ s.nets = ap (λ (t : NodeState). t.nets) forgets in
    let booted : map shown_net (map booted_net s.nets) ≡ map booted_net s.nets =
    sym (booted_shown s.nets) ∙ ap (map booted_net) nets in
    rw booted refl

pub centre_booted : (s : NodeState) → s.role ≡ Centre → keeps_rules s ≡ true → shown s ≡ s → has_widths s ≡ true
    → IsOfCentre (after_boot s)
unfolding after_boot
centre_booted s role rules forgets widths = record {
  role = role;
  rules = rules_same s ∙ rules;
  forgets = forgets_booted s forgets;
  booted = boot_twice s;
  widths = widths_same s ∙ widths;
}
