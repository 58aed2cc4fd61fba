-- Values that are found to be the same are the same.
use Rattle.std.proofs.Common.{◌≡◌, ℕ, List, Bool, true, false, refl, ap, ap₂}
use Rattle.std.proofs.lemmas.Bool.{false≢true, eqb-true, eq-eqb, and_parts}
use Rattle.std.proofs.lemmas.Slice.Eq.{bytes_eq-Decides}
use Rattle.std.specs.Prelude.{bytes_eq, nat_eq}
use Rattle.serde_json.specs.Data.{Num, unsigned, negative, float, Data, null, boolean, number, string, array, object, Items, no_items, item, Members, no_members, member}
use Rattle.zb_model.specs.Fits.{same_bool}
use Rattle.zb_backup.specs.Reading.{same_whole, same_value, same_items, same_members}

same_bool_is : (b c : Bool) → same_bool b c ≡ true → b ≡ c
same_bool_is true true h = refl
same_bool_is true false h = absurd (false≢true h)
same_bool_is false true h = absurd (false≢true h)
same_bool_is false false h = refl

same_whole_is : (m n : Num) → same_whole m n ≡ true → m ≡ n
same_whole_is (unsigned a) (unsigned b) h = ap unsigned (eqb-true a b h)
same_whole_is (unsigned a) (negative z) h = absurd (false≢true h)
same_whole_is (unsigned a) (float w) h = absurd (false≢true h)
same_whole_is (negative y) (unsigned b) h = absurd (false≢true h)
same_whole_is (negative y) (negative z) h = absurd (false≢true h)
same_whole_is (negative y) (float w) h = absurd (false≢true h)
same_whole_is (float x) (unsigned b) h = absurd (false≢true h)
same_whole_is (float x) (negative z) h = absurd (false≢true h)
same_whole_is (float x) (float w) h = absurd (false≢true h)

mutual
  pub same_value_is : (d e : Data) → same_value d e ≡ true → d ≡ e
  same_value_is null null h = refl
  same_value_is null (boolean c) h = absurd (false≢true h)
  same_value_is null (number m) h = absurd (false≢true h)
  same_value_is null (string t) h = absurd (false≢true h)
  same_value_is null (array es) h = absurd (false≢true h)
  same_value_is null (object ns) h = absurd (false≢true h)
  same_value_is (boolean b) null h = absurd (false≢true h)
  same_value_is (boolean b) (boolean c) h = ap boolean (same_bool_is b c h)
  same_value_is (boolean b) (number m) h = absurd (false≢true h)
  same_value_is (boolean b) (string t) h = absurd (false≢true h)
  same_value_is (boolean b) (array es) h = absurd (false≢true h)
  same_value_is (boolean b) (object ns) h = absurd (false≢true h)
  same_value_is (number n) null h = absurd (false≢true h)
  same_value_is (number n) (boolean c) h = absurd (false≢true h)
  same_value_is (number n) (number m) h = ap number (same_whole_is n m h)
  same_value_is (number n) (string t) h = absurd (false≢true h)
  same_value_is (number n) (array es) h = absurd (false≢true h)
  same_value_is (number n) (object ns) h = absurd (false≢true h)
  same_value_is (string s) null h = absurd (false≢true h)
  same_value_is (string s) (boolean c) h = absurd (false≢true h)
  same_value_is (string s) (number m) h = absurd (false≢true h)
  same_value_is (string s) (string t) h = ap string ((bytes_eq-Decides s t).0 h)
  same_value_is (string s) (array es) h = absurd (false≢true h)
  same_value_is (string s) (object ns) h = absurd (false≢true h)
  same_value_is (array ds) null h = absurd (false≢true h)
  same_value_is (array ds) (boolean c) h = absurd (false≢true h)
  same_value_is (array ds) (number m) h = absurd (false≢true h)
  same_value_is (array ds) (string t) h = absurd (false≢true h)
  same_value_is (array ds) (array es) h = ap array (same_items_is ds es h)
  same_value_is (array ds) (object ns) h = absurd (false≢true h)
  same_value_is (object ms) null h = absurd (false≢true h)
  same_value_is (object ms) (boolean c) h = absurd (false≢true h)
  same_value_is (object ms) (number m) h = absurd (false≢true h)
  same_value_is (object ms) (string t) h = absurd (false≢true h)
  same_value_is (object ms) (array es) h = absurd (false≢true h)
  same_value_is (object ms) (object ns) h = ap object (same_members_is ms ns h)

  same_items_is : (ds es : Items) → same_items ds es ≡ true → ds ≡ es
  same_items_is no_items no_items h = refl
  same_items_is no_items (item e es) h = absurd (false≢true h)
  same_items_is (item d ds) no_items h = absurd (false≢true h)
  same_items_is (item d ds) (item e es) h =
      let p = and_parts (same_value d e) (same_items ds es) h in ap₂ item (same_value_is d e p.0)
      (same_items_is ds es p.1)

  same_members_is : (ms ns : Members) → same_members ms ns ≡ true → ms ≡ ns
  same_members_is no_members no_members h = refl
  same_members_is no_members (member l e ns) h = absurd (false≢true h)
  same_members_is (member k d ms) no_members h = absurd (false≢true h)
  same_members_is (member k d ms) (member l e ns) h =
      let p = and_parts (bytes_eq k l) _ h in
      let q = and_parts (same_value d e) (same_members ms ns) p.1 in
      let key : k ≡ l = (bytes_eq-Decides k l).0 p.0 in
      let value : d ≡ e = same_value_is d e q.0 in
      let rest : ms ≡ ns = same_members_is ms ns q.1 in
      rw (key, value, rest) refl

-- a text, a number and a truth value are the same as themselves

pub text_same : (s : List ℕ) → bytes_eq s s ≡ true
text_same s = (bytes_eq-Decides s s).1 refl

pub number_same : (n : ℕ) → nat_eq n n ≡ true
number_same n = eq-eqb n n refl

pub flag_same : (b : Bool) → same_bool b b ≡ true
flag_same true = refl
flag_same false = refl
