-- Which texts are backups, and of which tables.
use Rattle.std.specs.Prelude.{◌^◌, ◌≡◌, ℕ, Bool, true, false, ◌&&◌, ◌||◌, if◌then◌else◌, nat_eq, nat_lt, List, [], ◌∷◌, length, bytes_eq, Option, Some, None, Result, Ok, Err, option_map, option_and_then}
use Rattle.std.specs.List.{list_all}
use Rattle.std.specs.Str.{IsUtf8, is_utf8}
use Rattle.serde_json.specs.Data.{Num, unsigned, Data, null, boolean, number, string, array, object, Items, no_items, item, Members, no_members, member}
use Rattle.serde_json.specs.Read.{read}
use Rattle.zb_model.specs.Data.{Bytes, Centre}
use Rattle.zb_model.specs.Fits.{keeps_rules, same_bool}
use Rattle.zb_model.specs.State.{SenderFloor, NetKey, LinkKey, PairKey, NodeState, after_boot, is_centre, shown}
use Rattle.zb_backup.specs.Format.{backup_of}
use Rattle.zb_backup.specs.Raised.{raised}
use Rattle.zb_backup.specs.Told.{state_told}
use Rattle.zb_backup.specs.declared.error.BackupError.{BackupError}
use Rattle.zb_backup.specs.declared.error.BackupError.TheVariants.{Form, NoMemory}

-- ---- the tables of a centre

-- Values within the widths of their fields: keys of 16 bytes, EUIs of 64 bits, counters of 32, sequence numbers of 8.
abbrev pub is_byte : ℕ → Bool
is_byte b = nat_lt b 256

abbrev pub is_key : Bytes → Bool
is_key key = nat_eq (length key) 16 && list_all is_byte key

abbrev pub is_eui : ℕ → Bool
is_eui eui = nat_lt eui (2 ^ 64)

abbrev pub is_counter : ℕ → Bool
is_counter n = nat_lt n (2 ^ 32)

abbrev pub floor_fits : SenderFloor → Bool
floor_fits f = is_eui f.sender && is_counter f.stored

abbrev pub net_fits : NetKey → Bool
net_fits r = is_key r.key && (is_byte r.sequence && (is_counter r.limit && list_all floor_fits r.floors))

abbrev pub link_fits : LinkKey → Bool
link_fits r = is_eui r.partner && (is_key r.key && is_counter r.stored)

abbrev pub pair_fits : PairKey → Bool
pair_fits p = is_eui p.first && (is_eui p.second && is_key p.key)

unfoldable pub has_widths : NodeState → Bool
has_widths s = is_counter s.declared
    && (is_counter s.aps_limit
    && (list_all net_fits s.nets && (list_all link_fits s.links && list_all pair_fits s.pairs)))

-- The tables of a centre as a boot makes them: they keep the rules for records, no floors of dropped network keys, and
-- values within their widths. Counters go on from their limits.
pub record IsOfCentre (s : NodeState) : Type 0 where
  pub role : s.role ≡ Centre
  pub rules : keeps_rules s ≡ true
  pub forgets : shown s ≡ s
  pub booted : after_boot s ≡ s
  pub widths : has_widths s ≡ true

-- ---- a text and its tables

-- A text in UTF-8 that reads as a value, which is the backup object of these tables once its hexadecimal digits are in
-- upper case. Of a member that stands twice the last one counts; the order of members and white space are free.
pub record IsBackup (text : List ℕ) (s : NodeState) : Type 0 where
  pub utf8 : IsUtf8 text
  pub value : Data
  pub reads : read text ≡ Some value
  pub same : raised value ≡ backup_of s
  pub kept : IsOfCentre s

-- ---- the same as a function of the text

abbrev pub same_whole : Num → Num → Bool
same_whole (unsigned m) (unsigned n) = nat_eq m n
same_whole _ _ = false

-- whether two values without fractions and negative numbers are the same
abbrev mutual
  pub same_value : Data → Data → Bool
  same_value null null = true
  same_value (boolean a) (boolean b) = same_bool a b
  same_value (number m) (number n) = same_whole m n
  same_value (string s) (string t) = bytes_eq s t
  same_value (array ds) (array es) = same_items ds es
  same_value (object ms) (object ns) = same_members ms ns
  same_value _ _ = false

  pub same_items : Items → Items → Bool
  same_items no_items no_items = true
  same_items (item d ds) (item e es) = same_value d e && same_items ds es
  same_items _ _ = false

  pub same_members : Members → Members → Bool
  same_members no_members no_members = true
  same_members (member k d ms) (member l e ns) = bytes_eq k l && (same_value d e && same_members ms ns)
  same_members _ _ = false

abbrev pub has_none : {X : Type 0} → List X → Bool
has_none [] = true
has_none (x ∷ xs) = false

-- a dropped network key keeps no floors
abbrev pub net_forgets : NetKey → Bool
net_forgets r = r.live || has_none r.floors

abbrev pub forgets : NodeState → Bool
forgets s = list_all net_forgets s.nets

unfoldable pub is_told_whole : Data → NodeState → Bool
is_told_whole d s = same_value d (backup_of s) && (is_centre s.role && (keeps_rules s && (forgets s && has_widths s)))

-- A value is the backup of the tables that its members tell, if their backup object is that value again.
abbrev pub unless_other : Data → Option NodeState → Option NodeState
unless_other d None = None
unless_other d (Some s) = if is_told_whole d s then Some s else None

unfoldable pub tables_in : Data → Option NodeState
tables_in d = unless_other d (option_map after_boot (state_told d))

-- The tables of a backup, whose hexadecimal digits may have either case, and None of a text that is none.
unfoldable pub backup_in : List ℕ → Option NodeState
backup_in text = if is_utf8 text then option_and_then (λ d. tables_in (raised d)) (read text) else None

-- what a call returns that reads a backup
abbrev pub ReadsBackup : Result NodeState BackupError → Option NodeState → Type 0
ReadsBackup (Ok s) expected = expected ≡ Some s
ReadsBackup (Err Form) expected = expected ≡ None
ReadsBackup (Err NoMemory) expected = Unit {0}
