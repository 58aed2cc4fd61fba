-- Each change, and whether it fits.
use Rattle.std.proofs.Common.{◌≡◌, ℕ, refl, sym, ap, ◌∙◌, Bool, true, false, not, if◌then◌else◌, ◌&&◌, ◌||◌, map, max, min}
use Rattle.std.proofs.lemmas.Bool.{not-true}
use Rattle.zb_model.specs.Data.{Nwk, Aps, Move, Draw, DropNet, DropLink, Install, Active, Row, Pair, Became, Live, Removed, Roll, Told, Untold, Edit, Reserve, Floor, Start, Moved}
use Rattle.zb_model.specs.State.{NodeState, applied, net_of, is_centre, is_live, at_link, link_floor, dropped_link, with_told, told_as, greatest_counter}
use Rattle.zb_model.specs.Fits.{keeps_rules, may_change, may_move, fits, live_net, role_is_kept, active_is_live}
use Rattle.law_change_fits.specs.Fitting.{leaves_rules, move_leaves}
use Rattle.law_change_fits.proofs.Tests.{both}
use Rattle.law_change_fits.proofs.Parts.{Rules, rules_of, rules_back}
use Rattle.law_change_fits.proofs.Nets.{reserved_kept, started_kept, dropped_net_kept, installed_kept, activated_kept}
use Rattle.law_change_fits.proofs.Floors.{floored_kept}
use Rattle.law_change_fits.proofs.Links.{link_rules, links_kept, link_floor_kept, dropped_link_kept, marked_kept, untold_kept}
use Rattle.law_change_fits.proofs.Rows.{row_kept}
use Rattle.law_change_fits.proofs.Pairs.{removed_kept, paired_kept, staged_kept, rolled_kept}

-- no rule mentions the stored limit of the application support layer
aps_kept : (limit : ℕ) (s : NodeState) → Rules s → keeps_rules (record s { aps_limit = limit }) ≡ true
unfolding role_is_kept active_is_live
aps_kept limit s r = rules_back (record s { aps_limit = limit }) (record {
  nets_room = r.nets_room;
  links_room = r.links_room;
  pairs_room = r.pairs_room;
  net_keys = r.net_keys;
  link_keys = r.link_keys;
  two = r.two;
  active = r.active;
  kinds = r.kinds;
  told = r.told;
  marks = r.marks;
  floors = r.floors;
  limits = r.limits;
  role_kept = r.role_kept;
  pairs = r.pairs;
  pair_names = r.pair_names;
})

centre_in : (b c : Bool) → (b && c) ≡ true → b ≡ true
centre_in b c e = (both b c e).0

-- when a rollover begins, no row is told
rolled : (sending : Bool) (s : NodeState) → Rules s
    → keeps_rules (record s { sending = sending; links = if sending then map (told_as false) s.links else s.links })
    ≡ (not sending || is_centre s.role)
rolled false s r = rolled_kept false s r
rolled true s r =
    let untold : NodeState = record s { links = map (told_as false) s.links } in
    rolled_kept true untold
    (rules_of untold (links_kept s (map (told_as false) s.links) r (untold_kept s.role s.links (link_rules s r))))

move_rules : (m : Move) (s : NodeState) → Rules s → may_move m s ≡ true → keeps_rules (applied (Moved m) s)
    ≡ move_leaves m s
unfolding applied
move_rules (Draw key) s r may = rules_back s r
move_rules (DropNet key) s r may = dropped_net_kept key s r
move_rules (DropLink partner key) s r may = links_kept s (at_link partner key dropped_link s.links) r
    (dropped_link_kept partner key s.role s.links (link_rules s r))
move_rules (Install key sequence) s r may = rw (not-true _ may) (installed_kept key sequence s r (not-true _ may))
move_rules (Active key) s r may = activated_kept key s r may
move_rules (Row partner key attribute) s r may = row_kept partner key attribute s r
move_rules (Pair first second key) s r may = paired_kept first second key s r may
move_rules (Became state) s r may = staged_kept state s r
move_rules (Live device) s r may = links_kept s (with_told device false s.links) r
    (marked_kept device false s.role s.links (λ e. centre_in (is_centre s.role) (is_live s device) may)
    (link_rules s r))
move_rules (Removed device) s r may = removed_kept device s r
move_rules (Roll sending) s r may = rolled sending s r
move_rules (Told device) s r may = links_kept s (with_told device true s.links) r
    (marked_kept device true s.role s.links (λ e. centre_in (is_centre s.role) (is_live s device) may)
    (link_rules s r))
move_rules (Untold device) s r may = links_kept s (with_told device false s.links) r
    (marked_kept device false s.role s.links (λ e. centre_in (is_centre s.role) (is_live s device) may)
    (link_rules s r))

pub change_rules : (e : Edit) (s : NodeState) → Rules s → may_change e s ≡ true → keeps_rules (applied e s)
    ≡ leaves_rules e s
unfolding applied leaves_rules
change_rules (Reserve Nwk limit) s r may = reserved_kept limit s s.active refl r
change_rules (Reserve Aps limit) s r may = aps_kept (max s.aps_limit (min limit greatest_counter)) s r
change_rules (Floor Nwk key sender value) s r may = floored_kept key sender value s r (net_of key s) refl
    (both (live_net key s) _ may).0
change_rules (Floor Aps key sender value) s r may = links_kept s (at_link sender key (link_floor value) s.links) r
    (link_floor_kept sender key value s.role s.links (link_rules s r))
change_rules (Start key value) s r may = started_kept key value s r
change_rules (Moved m) s r may = move_rules m s r may

by_may : (e : Edit) (s : NodeState) → Rules s → (b : Bool) → may_change e s ≡ b
    → (may_change e s && keeps_rules (applied e s)) ≡ (may_change e s && leaves_rules e s)
by_may e s r true is = ap (λ c. may_change e s && c) (change_rules e s r is)
by_may e s r false is = ap (λ c. c && keeps_rules (applied e s)) is ∙ sym (ap (λ c. c && leaves_rules e s) is)

move_fits : (m : Move) (s : NodeState) → keeps_rules s ≡ true → fits (Moved m) s
    ≡ (may_change (Moved m) s && leaves_rules (Moved m) s)
unfolding fits leaves_rules
move_fits (Draw key) s kept = refl
move_fits (DropNet key) s kept = by_may (Moved (DropNet key)) s (rules_of s kept) _ refl
move_fits (DropLink partner key) s kept = by_may (Moved (DropLink partner key)) s (rules_of s kept) _ refl
move_fits (Install key sequence) s kept = by_may (Moved (Install key sequence)) s (rules_of s kept) _ refl
move_fits (Active key) s kept = by_may (Moved (Active key)) s (rules_of s kept) _ refl
move_fits (Row partner key attribute) s kept = by_may (Moved (Row partner key attribute)) s (rules_of s kept) _ refl
move_fits (Pair first second key) s kept = by_may (Moved (Pair first second key)) s (rules_of s kept) _ refl
move_fits (Became state) s kept = by_may (Moved (Became state)) s (rules_of s kept) _ refl
move_fits (Live device) s kept = by_may (Moved (Live device)) s (rules_of s kept) _ refl
move_fits (Removed device) s kept = by_may (Moved (Removed device)) s (rules_of s kept) _ refl
move_fits (Roll sending) s kept = by_may (Moved (Roll sending)) s (rules_of s kept) _ refl
move_fits (Told device) s kept = by_may (Moved (Told device)) s (rules_of s kept) _ refl
move_fits (Untold device) s kept = by_may (Moved (Untold device)) s (rules_of s kept) _ refl

pub fits_is : (e : Edit) (s : NodeState) → keeps_rules s ≡ true → fits e s ≡ (may_change e s && leaves_rules e s)
unfolding fits
fits_is (Reserve layer limit) s kept = by_may (Reserve layer limit) s (rules_of s kept) _ refl
fits_is (Floor layer key sender value) s kept = by_may (Floor layer key sender value) s (rules_of s kept) _ refl
fits_is (Start key value) s kept = by_may (Start key value) s (rules_of s kept) _ refl
fits_is (Moved m) s kept = move_fits m s kept
