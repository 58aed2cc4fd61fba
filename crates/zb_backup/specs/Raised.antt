-- The hexadecimal digits of a value in upper case. A backup that is read may have them in either case.
use Rattle.std.specs.Prelude.{ℕ, if◌then◌else◌, List, map}
use Rattle.std.specs.Char.{is_ascii_hexdigit, to_ascii_uppercase}
use Rattle.std.specs.List.{list_all}
use Rattle.serde_json.specs.Data.{Data, null, boolean, number, string, array, object, Items, no_items, item, Members, no_members, member}

-- A text of hexadecimal digits alone, with a to f as A to F. Any other text stays.
unfoldable pub raised_text : List ℕ → List ℕ
raised_text text = if list_all is_ascii_hexdigit text then map to_ascii_uppercase text else text

-- A value with each text in it raised. The names of members stay.
abbrev mutual
  pub raised : Data → Data
  raised null = null
  raised (boolean b) = boolean b
  raised (number n) = number n
  raised (string s) = string (raised_text s)
  raised (array ds) = array (raised_items ds)
  raised (object ms) = object (raised_members ms)

  pub raised_items : Items → Items
  raised_items no_items = no_items
  raised_items (item d ds) = item (raised d) (raised_items ds)

  pub raised_members : Members → Members
  raised_members no_members = no_members
  raised_members (member k d ms) = member k (raised d) (raised_members ms)
