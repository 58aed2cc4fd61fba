-- From what a value tells to tables, by their record.
use Rattle.std.proofs.Common.{◌≡◌, ℕ, ◌≤◌, List, length, Bool, true, false, cond, Some, None, Result, Ok, Err, refl, sym, ap, subst, ◌∙◌, arith}
use Rattle.std.proofs.lemmas.Bool.{and_from, and_parts, false≢true, le-leb, leb-true}
use Rattle.std.proofs.lemmas.List.{length-map}
use Rattle.std.specs.Prelude.{bytes_eq, filter, nat_le, option_and_then}
use Rattle.std.proofs.lemmas.Slice.Eq.{bytes_eq-Decides}
use Rattle.std.proofs.lemmas.Str.{IsUtf8-from_is_utf8, is_utf8-from_IsUtf8}
use Rattle.std.specs.Str.{IsUtf8, is_utf8}
use Rattle.serde_json.specs.Errors.{IsMemory}
use Rattle.serde_json.specs.Read.{read}
use Rattle.serde_json.specs.declared.error.Error.{Error}
use Rattle.serde_json.specs.Data.{Data}
use Rattle.zb_keys.proofs.ShownLemmas.{filter-map}
use Rattle.zb_model.specs.Data.{Role, Centre, Router, Device}
use Rattle.zb_model.specs.Fits.{keeps_rules, most_links}
use Rattle.zb_node_types.specs.Changes.{model_role}
use Rattle.zb_model.specs.Record.{record_of}
use Rattle.zb_model.specs.State.{NetKey, NodeState, after_boot, shown}
use Rattle.law_change_fits.proofs.Parts.{rules_of}
use Rattle.law_run.proofs.StoredFits.{rules_same}
use Rattle.zb_record.specs.Ranges.{FitsBytes}
use Rattle.zb_record.specs.Records.{record_read}
use Rattle.zb_record.specs.RowViews.{net_key, link_key, pair_key}
use Rattle.zb_record.specs.Headings.{state_written}
use Rattle.zb_record.specs.declared.link_row.LinkRow.{LinkRow}
use Rattle.zb_record.specs.declared.net_row.NetRow.{NetRow}
use Rattle.zb_record.specs.declared.pair_row.Pair.{Pair}
use Rattle.zb_record.proofs.WholeAgain.{record_again}
use Rattle.zb_backup.specs.Format.{backup_of}
use Rattle.zb_backup.specs.Raised.{raised}
use Rattle.zb_backup.specs.Told.{state_told}
use Rattle.zb_backup.specs.Reading.{IsOfCentre, ReadsBackup, backup_in, has_widths, is_told_whole, tables_in}
use Rattle.zb_backup.specs.Steps.{IsMade, IsOfRecord, IsRefusal, Tells, has_room, told_state}
use Rattle.zb_backup.specs.declared.error.BackupError.{BackupError}
use Rattle.zb_backup.specs.declared.error.BackupError.TheVariants.{Form, NoMemory}
use Rattle.zb_backup.specs.declared.told_rows.Parts.{Parts}
use Rattle.zb_backup.proofs.Booted.{widths_same}
use Rattle.zb_backup.proofs.Both.{IsValueOf, boot_twice, value_complete, whole_is}
use Rattle.zb_backup.proofs.Widths.{widths_fit}

-- ---- rows that keep the rules have room in a record

most_1024 : (d : Role) → most_links d ≤ 1024
most_1024 Centre = omega arith
most_1024 Router = omega arith
most_1024 Device = omega arith

room_for : (p : Parts) → keeps_rules (told_state p) ≡ true → has_room p ≡ true
room_for p kept =
    let r = rules_of (told_state p) kept in
    let nets : length p.nets.items ≤ 256 = omega (arith, r.nets_room, length-map p.nets.items net_key) in
    let live : length (filter (λ (x : NetRow). (net_key x).live) p.nets.items) ≤ 2 =
    omega (
      arith,
      r.two,
      ap (length {A = NetKey}) (filter-map (λ (x : NetKey). x.live) net_key p.nets.items),
      length-map (filter (λ (x : NetRow). (net_key x).live) p.nets.items) net_key,
    ) in
    let links : length p.links.items ≤ 1024 =
    omega (arith, r.links_room, length-map p.links.items link_key, most_1024 (model_role p.heading.role)) in
    let pairs : length p.pairs.items ≤ 256 = omega (arith, r.pairs_room, length-map p.pairs.items pair_key) in
    and_from _ _ (le-leb _ 256 nets)
    (and_from _ _ (le-leb _ 2 live) (and_from _ _ (le-leb _ 1024 links) (le-leb _ 256 pairs)))

-- what has room
pub record Rooms (p : Parts) : Type 0 where
  pub nets : length p.nets.items ≤ 256
  pub live : length (filter (λ (x : NetRow). (net_key x).live) p.nets.items) ≤ 2
  pub links : length p.links.items ≤ 1024
  pub pairs : length p.pairs.items ≤ 256

pub rooms_of : (p : Parts) → has_room p ≡ true → Rooms p
rooms_of p room =
    let a = and_parts (nat_le (length p.nets.items) 256) _ room in
    let b = and_parts (nat_le (length (filter (λ (x : NetRow). (net_key x).live) p.nets.items)) 2) _ a.1 in
    let c = and_parts (nat_le (length p.links.items) 1024) (nat_le (length p.pairs.items) 256) b.1 in
    record {
      nets = leb-true _ 256 a.0;
      live = leb-true _ 2 b.0;
      links = leb-true _ 1024 c.0;
      pairs = leb-true _ 256 c.1;
    }

pub same_record : (p : Parts) (nets : List NetRow) (links : List LinkRow) (pairs : List Pair) → nets ≡ p.nets.items
    → links ≡ p.links.items → pairs ≡ p.pairs.items
    → record_of (state_written p.heading.aps_limit p.heading nets links pairs) ≡ record_of (told_state p)
same_record p nets links pairs same_nets same_links same_pairs = rw (same_nets, same_links, same_pairs) refl

pub no_room : (p : Parts) → has_room p ≡ false → IsMade (Err Form) (told_state p)
no_room p none = λ kept widths. false≢true (sym none ∙ room_for p kept)

-- ---- the record of what was told is read as its tables

ok_is : (s t : NodeState) → ◌≡◌ {A = Result NodeState ℕ} (Ok s) (Ok t) → s ≡ t
ok_is s t e = cc

err_isnt : (left : ℕ) (t : NodeState) → ◌≡◌ {A = Result NodeState ℕ} (Err left) (Ok t) → ⊥
err_isnt left t e = cc

pub read_made : (answer : Result NodeState BackupError) (s : NodeState) (bytes : List ℕ) → bytes ≡ record_of s
    → IsOfRecord answer (record_read bytes) → IsMade answer s
read_made (Ok made) s bytes is found = λ kept widths. ok_is made (shown (after_boot s))
    (sym found ∙ ap record_read is ∙ record_again s kept widths)
read_made (Err Form) s bytes is found = λ kept widths. err_isnt found.0 (shown (after_boot s))
    (sym found.1 ∙ ap record_read is ∙ record_again s kept widths)
read_made (Err NoMemory) s bytes is found = tt

-- ---- what comes of a value

none_told : (d : Data) → state_told d ≡ None → tables_in d ≡ None
unfolding tables_in
none_told d none = rw none refl

pub untold : (e : BackupError) (d : Data) → Tells {A = Parts} told_state (Err e) (state_told d)
    → ReadsBackup (Err e) (tables_in d)
untold Form d none = none_told d none
untold NoMemory d none = tt

-- what was told is the backup of no other tables than itself after a boot
refuted : (d : Data) (s : NodeState) → state_told d ≡ Some s → (IsValueOf d (after_boot s) → ⊥) → tables_in d ≡ None
unfolding tables_in
refuted d s told never = rw told (by_test (is_told_whole d (after_boot s)) refl)
  where
    by_test : (b : Bool) → is_told_whole d (after_boot s) ≡ b → cond b (Some (after_boot s)) None ≡ None
    by_test true is = absurd (never (whole_is d (after_boot s) (boot_twice s) is))
    by_test false is = refl

rules_before : (s : NodeState) → IsOfCentre (after_boot s) → keeps_rules s ≡ true
rules_before s centre = sym (rules_same s) ∙ centre.rules

widths_before : (s : NodeState) → IsOfCentre (after_boot s) → FitsBytes s
widths_before s centre = widths_fit s (sym (widths_same s) ∙ centre.widths)

pub unmade : (e : BackupError) (d : Data) (s : NodeState) → state_told d ≡ Some s → IsMade (Err e) s
    → ReadsBackup (Err e) (tables_in d)
unmade Form d s told never = refuted d s told (λ value. never (rules_before s value.kept) (widths_before s value.kept))
unmade NoMemory d s told never = tt

-- the tables that were made are those that were told, after a boot
made_is : (d : Data) (s made : NodeState) → IsMade (Ok made) s → IsValueOf d (after_boot s) → after_boot made
    ≡ after_boot s
made_is d s made is value =
    ap after_boot (is (rules_before s value.kept) (widths_before s value.kept) ∙ value.kept.forgets) ∙ boot_twice s

-- the tables that are asked for are those that were made, after a boot
pub others : (d : Data) (s made u : NodeState) → state_told d ≡ Some s → IsMade (Ok made) s → u ≡ after_boot made
    → (u.role ≡ Centre → d ≡ backup_of u → ⊥) → tables_in d ≡ None
others d s made u told is booted other =
    refuted d s told
    (λ value. let same = booted ∙ made_is d s made is value in other
    (ap (λ (t : NodeState). t.role) same ∙ value.kept.role) (value.same ∙ ap backup_of (sym same)))

pub the_tables : (d : Data) (made u : NodeState) → u ≡ after_boot made → d ≡ backup_of u → u.role ≡ Centre
    → keeps_rules u ≡ true → shown u ≡ u → has_widths u ≡ true → tables_in d ≡ Some u
the_tables d made u booted same role rules forgets widths =
    ap tables_in same ∙ value_complete u
    (record {
      role = role;
      rules = rules;
      forgets = forgets;
      booted = ap after_boot booted ∙ boot_twice made ∙ sym booted;
      widths = widths;
    })

-- ---- texts of values

some_is : (d e : Data) → Some d ≡ Some e → d ≡ e
some_is d e is = cc

pub same_from_texts : (own text : List ℕ) (d e : Data) → bytes_eq own text ≡ true → read own ≡ Some d → read text
    ≡ Some e → e ≡ d
same_from_texts own text d e same first second =
    some_is e d (sym second ∙ sym (ap read ((bytes_eq-Decides own text).0 same)) ∙ first)

pub texts_from_same : (own text written : List ℕ) → own ≡ written → text ≡ written → bytes_eq own text ≡ false → ⊥
texts_from_same own text written first second differ =
    false≢true (sym differ ∙ (bytes_eq-Decides own text).1 (first ∙ sym second))

-- ---- the whole text

pub value_read : (answer : Result NodeState BackupError) (text : List ℕ) (d : Data) → IsUtf8 text → read text ≡ Some d
    → ReadsBackup answer (tables_in (raised d)) → ReadsBackup answer (backup_in text)
unfolding backup_in
value_read answer text d utf8 is found =
    let same : backup_in text ≡ tables_in (raised d) = rw (is_utf8-from_IsUtf8 text utf8, is) refl in subst
    (ReadsBackup answer) (sym same) found

none_read : (text : List ℕ) → (IsUtf8 text → read text ≡ None) → backup_in text ≡ None
unfolding backup_in
none_read text none = by_utf8 (is_utf8 text) refl
  where
    by_utf8 : (b : Bool) → is_utf8 text ≡ b → cond b (option_and_then (λ d. tables_in (raised d)) (read text)) None
        ≡ None
    by_utf8 true is = rw (none (IsUtf8-from_is_utf8 text is)) refl
    by_utf8 false is = refl

pub not_read : (e : BackupError) (error : Error) (text : List ℕ) → IsRefusal e error
    → ((IsMemory error → ⊥) → IsUtf8 text → read text ≡ None) → ReadsBackup (Err e) (backup_in text)
not_read Form error text why none = none_read text (none why)
not_read NoMemory error text why none = tt
