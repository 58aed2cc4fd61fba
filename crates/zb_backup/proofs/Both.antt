-- A text gives tables exactly where it is their backup.
use Rattle.std.proofs.Common.{◌≡◌, ℕ, List, [], ◌∷◌, map, Bool, true, false, cond, Option, Some, None, refl, ap, subst}
use Rattle.std.proofs.lemmas.Bool.{and_from, and_parts, false≢true}
use Rattle.std.proofs.lemmas.Str.{IsUtf8-from_is_utf8, is_utf8-from_IsUtf8}
use Rattle.std.specs.Prelude.{◌||◌, option_and_then, option_map}
use Rattle.std.specs.List.{list_all}
use Rattle.std.specs.Str.{is_utf8}
use Rattle.serde_json.specs.Data.{Data}
use Rattle.serde_json.specs.Read.{read}
use Rattle.zb_model.specs.Data.{Role, Centre, Router, Device}
use Rattle.zb_model.specs.State.{SenderFloor, NetKey, LinkKey, NodeState, after_boot, booted_floor, booted_link, booted_net, is_centre, shown, shown_net}
use Rattle.zb_model.specs.Fits.{keeps_rules}
use Rattle.zb_backup.specs.Format.{backup_of}
use Rattle.zb_backup.specs.Raised.{raised}
use Rattle.zb_backup.specs.Told.{state_told}
use Rattle.zb_backup.specs.Reading.{IsBackup, IsOfCentre, backup_in, forgets, has_none, has_widths, is_told_whole, net_forgets, same_value, tables_in, unless_other}
use Rattle.zb_backup.proofs.Again.{state_again}
use Rattle.zb_backup.proofs.Same.{same_value_is}
use Rattle.zb_backup.proofs.Shape.{backup_has}

-- ---- dropped keys keep no floors

no_floors : (floors : List SenderFloor) (live : Bool) → cond live floors [] ≡ floors → (live || has_none floors) ≡ true
no_floors floors true h = refl
no_floors [] false h = refl
no_floors (f ∷ fs) false h = cc

rows_forget : (rows : List NetKey) → map shown_net rows ≡ rows → list_all net_forgets rows ≡ true
rows_forget [] h = refl
rows_forget (r ∷ rs) h =
    let here : shown_net r ≡ r = cc in
    let rest : map shown_net rs ≡ rs = cc in
    and_from (net_forgets r) (list_all net_forgets rs)
    (no_floors r.floors r.live (ap (λ (x : NetKey). x.floors) here)) (rows_forget rs rest)

floors_gone : (floors : List SenderFloor) (live : Bool) → (live || has_none floors) ≡ true → cond live floors []
    ≡ floors
floors_gone floors true h = refl
floors_gone [] false h = refl
floors_gone (f ∷ fs) false h = absurd (false≢true h)

row_shown : (r : NetKey) → net_forgets r ≡ true → shown_net r ≡ r
row_shown r h =
    ap (λ fs. record {
      key = r.key;
      sequence = r.sequence;
      live = r.live;
      started = r.started;
      limit = r.limit;
      next = r.next;
      floors = fs;
    }) (floors_gone r.floors r.live h)

rows_shown : (rows : List NetKey) → list_all net_forgets rows ≡ true → map shown_net rows ≡ rows
rows_shown [] h = refl
rows_shown (r ∷ rs) h = let p = and_parts (net_forgets r) (list_all net_forgets rs) h in rw
    (row_shown r p.0, rows_shown rs p.1) refl

state_forgets : (s : NodeState) → shown s ≡ s → forgets s ≡ true
unfolding shown
state_forgets s h = rows_forget s.nets (ap (λ (t : NodeState). t.nets) h)

state_shown : (s : NodeState) → forgets s ≡ true → shown s ≡ s
unfolding shown
state_shown s h = rw (rows_shown s.nets h) refl

-- ---- a boot changes nothing after a boot

floors_twice : (fs : List SenderFloor) → map booted_floor (map booted_floor fs) ≡ map booted_floor fs
floors_twice [] = refl
floors_twice (f ∷ fs) = rw (floors_twice fs) refl

nets_twice : (rows : List NetKey) → map booted_net (map booted_net rows) ≡ map booted_net rows
nets_twice [] = refl
nets_twice (r ∷ rs) = rw (nets_twice rs, floors_twice r.floors) refl

links_twice : (rows : List LinkKey) → map booted_link (map booted_link rows) ≡ map booted_link rows
links_twice [] = refl
links_twice (r ∷ rs) = rw (links_twice rs) refl

pub boot_twice : (s : NodeState) → after_boot (after_boot s) ≡ after_boot s
unfolding after_boot
boot_twice s = rw (nets_twice s.nets, links_twice s.links) refl

-- ---- from the backup to its text and back

pub value_complete : (s : NodeState) → IsOfCentre s → tables_in (backup_of s) ≡ Some s
unfolding tables_in is_told_whole
value_complete s centre =
    let own : is_told_whole (backup_of s) s ≡ true =
    and_from _ _ (backup_has s).same
    (and_from _ _ (ap is_centre centre.role)
    (and_from _ _ centre.rules (and_from _ _ (state_forgets s centre.forgets) centre.widths))) in
    rw (state_again s centre, centre.booted, own) refl

pub text_complete : (text : List ℕ) (s : NodeState) → IsBackup text s → backup_in text ≡ Some s
unfolding backup_in
text_complete text s backup = rw (is_utf8-from_IsUtf8 text backup.utf8, backup.reads, backup.same)
    (value_complete s backup.kept)

centre_is : (role : Role) → is_centre role ≡ true → role ≡ Centre
centre_is Centre h = refl
centre_is Router h = absurd (false≢true h)
centre_is Device h = absurd (false≢true h)

-- what was told and is whole is the backup of a centre's tables
pub record IsValueOf (d : Data) (s : NodeState) : Type 0 where
  pub same : d ≡ backup_of s
  pub kept : IsOfCentre s

pub whole_is : (d : Data) (s : NodeState) → after_boot s ≡ s → is_told_whole d s ≡ true → IsValueOf d s
unfolding is_told_whole
whole_is d s booted h =
    let p = and_parts (same_value d (backup_of s)) _ h in
    let q = and_parts (is_centre s.role) _ p.1 in
    let t = and_parts (keeps_rules s) _ q.1 in
    let u = and_parts (forgets s) (has_widths s) t.1 in
    record {
      same = same_value_is d (backup_of s) p.0;
      kept = record {
        role = centre_is s.role q.0;
        rules = t.0;
        forgets = state_shown s u.0;
        booted = booted;
        widths = u.1;
      };
    }

some_is : (t s : NodeState) → Some t ≡ Some s → t ≡ s
some_is t s e = cc

by_test : (d : Data) (t s : NodeState) (b : Bool) → is_told_whole d t ≡ b → after_boot t ≡ t → cond b (Some t) None
    ≡ Some s → IsValueOf d s
by_test d t s true is booted e = subst (IsValueOf d) (some_is t s e) (whole_is d t booted is)
by_test d t s false is booted e = cc

by_told : (d : Data) (s : NodeState) (told : Option NodeState) → unless_other d (option_map after_boot told) ≡ Some s
    → IsValueOf d s
by_told d s None e = cc
by_told d s (Some t) e = by_test d (after_boot t) s _ refl (boot_twice t) e

pub value_sound : (d : Data) (s : NodeState) → tables_in d ≡ Some s → IsValueOf d s
unfolding tables_in
value_sound d s e = by_told d s (state_told d) e

by_read : (text : List ℕ) (s : NodeState) (found : Option Data) → is_utf8 text ≡ true → read text ≡ found
    → option_and_then (λ d. tables_in (raised d)) found ≡ Some s → IsBackup text s
by_read text s None utf8 is e = cc
by_read text s (Some d) utf8 is e =
    let whole =
    value_sound (raised d) s e in
    record { utf8 = IsUtf8-from_is_utf8 text utf8; value = d; reads = is; same = whole.same; kept = whole.kept }

by_utf8 : (text : List ℕ) (s : NodeState) (b : Bool) → is_utf8 text ≡ b
    → cond b (option_and_then (λ d. tables_in (raised d)) (read text)) None ≡ Some s → IsBackup text s
by_utf8 text s true is e = by_read text s (read text) is refl e
by_utf8 text s false is e = cc

pub text_sound : (text : List ℕ) (s : NodeState) → backup_in text ≡ Some s → IsBackup text s
unfolding backup_in
text_sound text s e = by_utf8 text s (is_utf8 text) refl e
