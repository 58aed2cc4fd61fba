-- The words of a line spell what they are read as: no other text is read as that line.
use Rattle.std.proofs.Common.{◌≡◌, ℕ, ◌+◌, ◌*◌, ◌-◌, ◌/◌, ◌%◌, ◌^◌, ◌<◌, ◌≤◌, ◌==◌, nat_lt, nat_le, List, [], ◌∷◌, ◌++◌, map, Bool, true, false, Option, Some, None, refl, arith, ap, sym, ◌∙◌, codes, decimal, bytes_eq, append_assoc, append-nil}
use Rattle.std.specs.Prelude.{if◌then◌else◌, IfSome}
use Rattle.std.specs.Char.{is_ascii_digit}
use Rattle.std.specs.List.{list_all}
use Rattle.std.specs.Option.{option_map, option_and_then}
use Rattle.std.proofs.lemmas.Bool.{and_parts}
use Rattle.std.proofs.lemmas.Bool.Decides.{nat_tests}
use Rattle.std.proofs.lemmas.Fmt.{decimal_step, decimal_digit}
use Rattle.std.proofs.lemmas.Slice.Eq.{bytes_eq-Decides}
use Rattle.hex.specs.Hex.{encode_upper}
use Rattle.zb_text.specs.Fields.{is_name, name_of, eui_of, short_of, key_of}
use Rattle.zb_text.specs.Hexadecimal.{fixed_of, bytes_of}
use Rattle.zb_text.specs.Numbers.{digits_after, up_to, is_ill_begun, number_of}
use Rattle.zb_text.specs.Words.{first_of, field}
use Rattle.zb_model.specs.Data.{Down, Malformed, NotForMe, Unsecured, NoKey, CounterMax, BadMic, Policy, NotMember, WrongState, KeysFull, RowsFull, NoDraw, CounterSpent, WrongHash, NoFrame}
use Rattle.zb_node_types.specs.Reasons.{reason_word, stale_word, key_old_word, key_in_use_word}
use Rattle.zb_trace.specs.Text.{Word, Fixed, Chosen, Number, Called, CalledOrNobody, Address, ShortAddress, Secret, Octets, AllOctets, spelled, begun, begun_of, roles, attributes, states, rollovers, places, answers}
use Rattle.zb_trace_read.specs.Grammar.{Field, OneOf, UpTo, AName, ANameOrDash, AnAddress, AShort, AKey, AByte, SomeBytes, AllBytes, lacks_small, choice, name_or_dash, all_bytes_of, octet_of, value_of, shaped, a_count, a_sequence, a_layer, a_term, two_forms, reason_or, plain_reason, policy_reason, behind_reason, a_refusal}
use Rattle.zb_trace_read.specs.Reading.{of_start, of_change, of_node, of_nobody, of_dump, of_event, read_words}
use Rattle.zb_trace_read.proofs.Capitals.{fixed_spelled, key_spelled, eui_spelled, short_spelled, bytes_spelled, all_bytes_spelled}

-- Numbers

digit_holds : (digit : Bool) (o : Option ℕ) (m : ℕ) → (if digit then o else None) ≡ Some m
    → (digit ≡ true) × (o ≡ Some m)
digit_holds true o m e = (refl, e)
digit_holds false o m e = cc e

no_smaller : (digits : List ℕ) (n m : ℕ) → digits_after n digits ≡ Some m → n ≤ m
no_smaller [] n m e = let same : n ≡ m = cc e in omega (arith, same)
no_smaller (c ∷ cs) n m e =
    let parts = digit_holds (is_ascii_digit c) (digits_after (n * 10 + (c - 48)) cs) m e in
    omega (arith, no_smaller cs (n * 10 + (c - 48)) m parts.1)

-- The digits of a number that is not 0, and then more digits.
digits_behind : (digits : List ℕ) (n m : ℕ) → 0 < n → m < 2 ^ 64 → digits_after n digits ≡ Some m
    → decimal m ≡ decimal n ++ digits
digits_behind [] n m some small e =
    let same : n ≡ m = cc e in ap decimal (sym same) ∙ sym (append-nil (decimal n))
digits_behind (c ∷ cs) n m some small e =
    let parts = digit_holds (is_ascii_digit c) (digits_after (n * 10 + (c - 48)) cs) m e in
    let digit : is_ascii_digit c ≡ true = parts.0 in
    let low : 48 ≤ c = grind (arith, nat_tests) in
    let high : c < 58 = grind (arith, nat_tests) in
    let next : ℕ = n * 10 + (c - 48) in
    let bound : next ≤ m = no_smaller cs next m parts.1 in
    let front : next / 10 ≡ n = omega (arith, low, high) in
    let last : 48 + next % 10 ≡ c = omega (arith, low, high) in
    let step : decimal next ≡ decimal n ++ c ∷ [] =
    decimal_step next (omega (arith, some)) (omega (arith, bound, small))
    ∙ ap (λ k. decimal k ++ (48 + next % 10) ∷ []) front ∙ ap (λ k. decimal n ++ k ∷ []) last in
    digits_behind cs next m (omega (arith, some)) small parts.1
    ∙ (ap (λ t. t ++ cs) step ∙ append_assoc (decimal n) (c ∷ []) cs)

lone_digit : (c : ℕ) → 48 ≤ c → c < 58 → decimal (0 * 10 + (c - 48)) ≡ c ∷ []
lone_digit c low high =
    let value : 48 + (0 * 10 + (c - 48)) ≡ c = omega (arith, low) in
    decimal_digit (0 * 10 + (c - 48)) (omega (arith, high)) ∙ ap (λ k. k ∷ []) value

not_padded : (c d : ℕ) (ds : List ℕ) → is_ill_begun (c ∷ d ∷ ds) ≡ false → c ≡ 48 → ⊥
not_padded c d ds begun zero = grind (arith, nat_tests)

whole_number : (word : List ℕ) (n : ℕ) → is_ill_begun word ≡ false → n < 2 ^ 64 → digits_after 0 word ≡ Some n
    → decimal n ≡ word
whole_number [] n begun small e = cc begun
whole_number (c ∷ []) n begun small e =
    let parts = digit_holds (is_ascii_digit c) (Some (0 * 10 + (c - 48))) n e in
    let digit : is_ascii_digit c ≡ true = parts.0 in
    let low : 48 ≤ c = grind (arith, nat_tests) in
    let high : c < 58 = grind (arith, nat_tests) in
    let same : 0 * 10 + (c - 48) ≡ n = cc parts.1 in
    ap decimal (sym same) ∙ lone_digit c low high
whole_number (c ∷ d ∷ ds) n begun small e =
    let parts = digit_holds (is_ascii_digit c) (digits_after (0 * 10 + (c - 48)) (d ∷ ds)) n e in
    let digit : is_ascii_digit c ≡ true = parts.0 in
    let low : 48 ≤ c = grind (arith, nat_tests) in
    let high : c < 58 = grind (arith, nat_tests) in
    let other : c ≡ 48 → ⊥ = not_padded c d ds begun in
    digits_behind (d ∷ ds) (0 * 10 + (c - 48)) n (omega (arith, low, other)) small parts.1
    ∙ ap (λ t. t ++ d ∷ ds) (lone_digit c low high)

number_within : (limit n : ℕ) (word : List ℕ) (within : Bool) → nat_le n limit ≡ within → is_ill_begun word ≡ false
    → limit < 2 ^ 64 → digits_after 0 word ≡ Some n
    → IfSome (if within then Some n else None) (λ m. decimal m ≡ word)
number_within limit n word true test begun small e =
    let le : n ≤ limit = grind (arith, nat_tests) in whole_number word n begun (omega (arith, le, small)) e
number_within limit n word false test begun small e = tt

number_up_to : (limit : ℕ) (word : List ℕ) (o : Option ℕ) → digits_after 0 word ≡ o → is_ill_begun word ≡ false
    → limit < 2 ^ 64 → IfSome (up_to limit o) (λ m. decimal m ≡ word)
number_up_to limit word None e begun small = tt
number_up_to limit word (Some n) e begun small = number_within limit n word (nat_le n limit) refl begun small e

number_begun : (limit : ℕ) (word : List ℕ) (ill : Bool) → is_ill_begun word ≡ ill → limit < 2 ^ 64
    → IfSome (if ill then None else up_to limit (digits_after 0 word)) (λ m. decimal m ≡ word)
number_begun limit word true begun small = tt
number_begun limit word false begun small = number_up_to limit word (digits_after 0 word) refl begun small

pub number_spelled : (limit : ℕ) (word : List ℕ) → limit < 2 ^ 64
    → IfSome (number_of limit word) (λ n. decimal n ≡ word)
number_spelled limit word small = number_begun limit word (is_ill_begun word) refl small

-- A word in its place

abbrev Is : List ℕ → Option Word → Type 0
Is word o = IfSome o (λ w. spelled w ≡ word)

view_is : {X : Type 0} (f : X → Word) (word : List ℕ) (o : Option X) → IfSome o (λ x. spelled (f x) ≡ word)
    → Is word (option_map f o)
view_is f word None h = tt
view_is f word (Some x) h = h

capitals_are : {X : Type 0} (f : X → Word) (word : List ℕ) (o : Option X) (capital : Bool)
    → (capital ≡ true → IfSome o (λ x. spelled (f x) ≡ word)) → Is word (option_map f (if capital then o else None))
capitals_are f word o true h = view_is f word o (h refl)
capitals_are f word o false h = tt

octet_is : (word : List ℕ) (o : Option (List ℕ)) → IfSome o (λ bytes. encode_upper bytes ≡ word)
    → Is word (option_and_then octet_of o)
octet_is word None h = tt
octet_is word (Some []) h = tt
octet_is word (Some (b ∷ [])) h = h
octet_is word (Some (b ∷ c ∷ bs)) h = tt

one_byte_is : (word : List ℕ) (o : Option (List ℕ)) → lacks_small word ≡ true → fixed_of 1 word ≡ o
    → IfSome o (λ bytes. encode_upper bytes ≡ word)
one_byte_is word None fit e = tt
one_byte_is word (Some bytes) fit e = (fixed_spelled 1 word bytes fit e).0

byte_is : (word : List ℕ) (capital : Bool) → lacks_small word ≡ capital
    → Is word (option_and_then octet_of (if capital then fixed_of 1 word else None))
byte_is word true fit = octet_is word (fixed_of 1 word) (one_byte_is word (fixed_of 1 word) fit refl)
byte_is word false fit = tt

chosen_by : (among : List (List ℕ)) (one word : List ℕ) (same : Bool) (o : Option Word) → bytes_eq word one ≡ same
    → Is word o → Is word (if same then Some (Chosen among one) else o)
chosen_by among one word true o e h = sym ((bytes_eq-Decides word one).0 e)
chosen_by among one word false o e h = h

choice_is : (among left : List (List ℕ)) (word : List ℕ) → Is word (choice among left word)
choice_is among [] word = tt
choice_is among (one ∷ more) word =
    chosen_by among one word (bytes_eq word one) (choice among more word) refl (choice_is among more word)

name_is : (word : List ℕ) (named : Bool) → IfSome (if named then Some word else None) (λ name. name ≡ word)
name_is word true = refl
name_is word false = tt

name_or_dash_is : (word : List ℕ) (dash named : Bool) → bytes_eq word (codes "-") ≡ dash
    → IfSome (if dash then Some (codes "-") else if named then Some word else None) (λ name. name ≡ word)
name_or_dash_is word true named e = sym ((bytes_eq-Decides word (codes "-")).0 e)
name_or_dash_is word false named e = name_is word named

-- The numbers of a place have a limit below 2 ^ 64.
abbrev is_small : Field → Bool
is_small (UpTo limit) = nat_lt limit 18446744073709551616
is_small _ = true

below_limit : (limit : ℕ) → nat_lt limit 18446744073709551616 ≡ true → limit < 2 ^ 64
below_limit limit small = grind (arith, nat_tests)

value_is : (f : Field) (word : List ℕ) → is_small f ≡ true → Is word (value_of f word)
value_is (OneOf among) word small = choice_is among among word
value_is (UpTo limit) word small = view_is (Number limit) word (number_of limit word)
    (number_spelled limit word (below_limit limit small))
value_is AName word small = view_is Called word (name_of word) (name_is word (is_name word))
value_is ANameOrDash word small =
    view_is CalledOrNobody word (name_or_dash word)
    (name_or_dash_is word (bytes_eq word (codes "-")) (is_name word) refl)
value_is AnAddress word small = capitals_are Address word (eui_of word) (lacks_small word) (eui_spelled word)
value_is AShort word small = capitals_are ShortAddress word (short_of word) (lacks_small word) (short_spelled word)
value_is AKey word small = capitals_are Secret word (key_of word) (lacks_small word) (key_spelled word)
value_is AByte word small = byte_is word (lacks_small word) refl
value_is (SomeBytes limit) word small =
    capitals_are (Octets limit) word (bytes_of limit word) (lacks_small word) (bytes_spelled limit word)
value_is AllBytes word small =
    capitals_are AllOctets word (all_bytes_of word) (lacks_small word) (all_bytes_spelled word)

-- The words of a shape

abbrev Are : List (List ℕ) → Option (List Word) → Type 0
Are words o = IfSome o (λ out. map spelled out ≡ words)

put_front : (w : Word) (word : List ℕ) (words : List (List ℕ)) (o : Option (List Word)) → spelled w ≡ word
    → Are words o → Are (word ∷ words) (option_map (λ behind. w ∷ behind) o)
put_front w word words None e h = tt
put_front w word words (Some out) e h =
    ap (λ first. first ∷ map spelled out) e ∙ ap (λ more. word ∷ more) h

abbrev Taken : Type 0
Taken = Word × List (List ℕ)

one_more : (fs : List Field) (word : List ℕ) (words : List (List ℕ)) (o : Option Word) → Is word o
    → Are words (shaped fs words)
    → Are (word ∷ words)
    (option_and_then (λ (t : Taken). option_map (λ behind. t.0 ∷ behind) (shaped fs t.1))
    (option_map {U = Taken} (λ x. (x, words)) o))
one_more fs word words None h more = tt
one_more fs word words (Some w) h more = put_front w word words (shaped fs words) h more

pub shaped_are : (fs : List Field) (words : List (List ℕ)) → list_all is_small fs ≡ true
    → Are words (shaped fs words)
shaped_are [] [] small = refl
shaped_are [] (word ∷ words) small = tt
shaped_are (f ∷ fs) [] small = tt
shaped_are (f ∷ fs) (word ∷ words) small =
    let parts = and_parts (is_small f) (list_all is_small fs) small in
    one_more fs word words (value_of f word) (value_is f word parts.0) (shaped_are fs words parts.1)

-- Forms and reasons

by_test : (words : List (List ℕ)) (word one : List ℕ) (same : Bool) (here next : Option (List Word))
    → bytes_eq word one ≡ same → (word ≡ one → Are words here) → Are words next
    → Are words (if same then here else next)
by_test words word one true here next e there other = there ((bytes_eq-Decides word one).0 e)
by_test words word one false here next e there other = other

fixed_front : (word one : List ℕ) (words : List (List ℕ)) (o : Option (List Word)) → Are words o → word ≡ one
    → Are (word ∷ words) (option_map (λ behind. Fixed one ∷ behind) o)
fixed_front word one words o are e = put_front (Fixed one) word words o (sym e) are

forms_are : (one : List ℕ) (first : List Field) (other : List ℕ) (second : List Field) (words : List (List ℕ))
    → list_all is_small first ≡ true → list_all is_small second ≡ true
    → Are words (two_forms one first other second words)
forms_are one first other second [] small small_too = tt
forms_are one first other second (form ∷ words) small small_too =
    by_test (form ∷ words) form one (bytes_eq form one) _ _ refl
    (fixed_front form one words (shaped first words) (shaped_are first words small))
    (by_test (form ∷ words) form other (bytes_eq form other) _ _ refl
    (fixed_front form other words (shaped second words) (shaped_are second words small_too)) tt)

fixed_by : (one word : List ℕ) (same : Bool) (o : Option Word) → bytes_eq word one ≡ same → Is word o
    → Is word (if same then Some (Fixed one) else o)
fixed_by one word true o e h = sym ((bytes_eq-Decides word one).0 e)
fixed_by one word false o e h = h

reason_is : (other : List ℕ → Option Word) (reasons : List (List ℕ)) (word : List ℕ) → Is word (other word)
    → Is word (reason_or other reasons word)
reason_is other [] word h = h
reason_is other (one ∷ more) word h =
    fixed_by one word (bytes_eq word one) (reason_or other more word) refl (reason_is other more word h)

policy_is : (word : List ℕ) → Is word (policy_reason word)
unfolding policy_reason
policy_is word =
    reason_is (λ _. None)
    (map reason_word (NotMember ∷ WrongState ∷ KeysFull ∷ RowsFull ∷ NoDraw ∷ CounterSpent ∷ WrongHash ∷ NoFrame
    ∷ [])) word tt

plain_is : (word : List ℕ) → Is word (plain_reason word)
unfolding plain_reason
plain_is word =
    reason_is policy_reason
    (map reason_word (Down ∷ Malformed ∷ NotForMe ∷ Unsecured ∷ NoKey ∷ CounterMax ∷ BadMic ∷ Policy ∷ [])) word
    (policy_is word)

with_reason : (place : Word) (at word : List ℕ) (words : List (List ℕ)) (o : Option Word) → spelled place ≡ at
    → Is word o
    → Are (at ∷ word ∷ words)
    (option_and_then (λ reason. option_map (λ behind. place ∷ reason ∷ behind) (shaped [] words)) o)
with_reason place at word words None e h = tt
with_reason place at word [] (Some reason) e h = ap (λ x. x ∷ spelled reason ∷ []) e ∙ ap (λ x. at ∷ x ∷ []) h
with_reason place at word (next ∷ words) (Some reason) e h = tt

two_front : (place : Word) (at word one : List ℕ) (words : List (List ℕ)) (o : Option (List Word))
    → spelled place ≡ at → Are words o → word ≡ one
    → Are (at ∷ word ∷ words) (option_map (λ behind. place ∷ Fixed one ∷ behind) o)
two_front place at word one words None e are same = tt
two_front place at word one words (Some out) e are same =
    ap (λ x. x ∷ one ∷ map spelled out) e
    ∙ (ap (λ x. at ∷ x ∷ map spelled out) (sym same) ∙ ap (λ more. at ∷ word ∷ more) are)

behind_are : (place : Word) (at word : List ℕ) (words : List (List ℕ)) → spelled place ≡ at
    → Are (at ∷ word ∷ words) (behind_reason place word words)
behind_are place at word words e =
    by_test (at ∷ word ∷ words) word stale_word (bytes_eq word stale_word) _ _ refl
    (two_front place at word stale_word words _ e (shaped_are (a_count ∷ []) words refl))
    (by_test (at ∷ word ∷ words) word key_old_word (bytes_eq word key_old_word) _ _ refl
    (two_front place at word key_old_word words _ e (shaped_are (a_count ∷ []) words refl))
    (by_test (at ∷ word ∷ words) word key_in_use_word (bytes_eq word key_in_use_word) _ _ refl
    (two_front place at word key_in_use_word words _ e (shaped_are (AnAddress ∷ []) words refl))
    (with_reason place at word words (plain_reason word) e (plain_is word))))

abbrev Split : Type 0
Split = List ℕ × List (List ℕ)

after_place : (at : List ℕ) (words : List (List ℕ)) (o : Option Word) → Is at o
    → Are (at ∷ words)
    (option_and_then (λ (place : Taken). option_and_then (λ (reason : Split). behind_reason place.0 reason.0 reason.1)
    (first_of place.1))
    (option_map {U = Taken} (λ x. (x, words)) o))
after_place at words None h = tt
after_place at [] (Some place) h = tt
after_place at (word ∷ words) (Some place) h = behind_are place at word words h

refusal_are : (words : List (List ℕ)) → Are words (a_refusal words)
unfolding a_refusal
refusal_are [] = tt
refusal_are (at ∷ words) =
    after_place at words (value_of (OneOf places) at) (value_is (OneOf places) at refl)

-- Lines

begun_are : (event : ℕ) (kind one : List ℕ) (words : List (List ℕ)) (o : Option (List Word)) → Are words o
    → kind ≡ one → Are (decimal event ∷ kind ∷ words) (option_map (begun event one) o)
begun_are event kind one words None are e = tt
begun_are event kind one words (Some out) are e =
    ap (λ k. decimal event ∷ k ∷ map spelled out) (sym e) ∙ ap (λ more. decimal event ∷ kind ∷ more) are

named_are : (event : ℕ) (kind one node : List ℕ) (words : List (List ℕ)) (o : Option (List Word)) → Are words o
    → kind ≡ one → Are (decimal event ∷ kind ∷ node ∷ words) (option_map (begun_of event one node) o)
named_are event kind one node words None are e = tt
named_are event kind one node words (Some out) are e =
    ap (λ k. decimal event ∷ k ∷ node ∷ map spelled out) (sym e)
    ∙ ap (λ more. decimal event ∷ kind ∷ node ∷ more) are

-- One kind of line, and those that may follow it in a chain.
or_named : (event : ℕ) (kind one node : List ℕ) (words : List (List ℕ)) (o next : Option (List Word)) → Are words o
    → Are (decimal event ∷ kind ∷ node ∷ words) next
    → Are (decimal event ∷ kind ∷ node ∷ words)
    (if bytes_eq kind one then option_map (begun_of event one node) o else next)
or_named event kind one node words o next are other =
    by_test (decimal event ∷ kind ∷ node ∷ words) kind one (bytes_eq kind one) _ next refl
    (named_are event kind one node words o are) other

or_begun : (event : ℕ) (kind one : List ℕ) (words : List (List ℕ)) (fs : List Field) (next : Option (List Word))
    → list_all is_small fs ≡ true → Are (decimal event ∷ kind ∷ words) next
    → Are (decimal event ∷ kind ∷ words)
    (if bytes_eq kind one then option_map (begun event one) (shaped fs words) else next)
or_begun event kind one words fs next small other =
    by_test (decimal event ∷ kind ∷ words) kind one (bytes_eq kind one) _ next refl
    (begun_are event kind one words (shaped fs words) (shaped_are fs words small)) other

start_are : (kind node : List ℕ) (words : List (List ℕ)) → Are (decimal 0 ∷ kind ∷ node ∷ words)
    (of_start kind node words)
unfolding of_start
start_are kind node words =
    or_named 0 kind (codes "node") node words _ _
    (shaped_are (OneOf roles ∷ AnAddress ∷ AShort ∷ a_count ∷ a_count ∷ []) words refl)
    (or_named 0 kind (codes "given") node words _ _
    (forms_are (codes "net") (AKey ∷ a_sequence ∷ []) (codes "link") (AnAddress ∷ AKey ∷ []) words refl refl)
    (or_named 0 kind (codes "counter") node words _ _ (shaped_are (a_layer ∷ a_count ∷ []) words refl) tt))

at_start : (event : ℕ) (kind node : List ℕ) (words : List (List ℕ)) (first : Bool) → (event == 0) ≡ first
    → Are (decimal event ∷ kind ∷ node ∷ words) (if first then of_start kind node words else None)
at_start event kind node words true e =
    let none : event ≡ 0 = grind (arith, nat_tests) in
    rw none (start_are kind node words)
at_start event kind node words false e = tt

change_are : (event : ℕ) (kind node : List ℕ) (words : List (List ℕ)) → Are (decimal event ∷ kind ∷ node ∷ words)
    (of_change event kind node words)
unfolding of_change
change_are event kind node words =
    or_named event kind (codes "reserve") node words _ _ (shaped_are (a_layer ∷ a_count ∷ []) words refl)
    (or_named event kind (codes "floor") node words _ _
    (shaped_are (a_layer ∷ AKey ∷ AnAddress ∷ a_count ∷ []) words refl)
    (or_named event kind (codes "drop") node words _ _
    (forms_are (codes "net") (AKey ∷ []) (codes "link") (AnAddress ∷ AKey ∷ []) words refl refl)
    (or_named event kind (codes "install") node words _ _ (shaped_are (AKey ∷ a_sequence ∷ []) words refl)
    (or_named event kind (codes "active") node words _ _ (shaped_are (AKey ∷ []) words refl)
    (or_named event kind (codes "start") node words _ _ (shaped_are (AKey ∷ a_count ∷ []) words refl)
    (or_named event kind (codes "row") node words _ _
    (shaped_are (AnAddress ∷ AKey ∷ OneOf attributes ∷ []) words refl)
    (or_named event kind (codes "pair") node words _ _ (shaped_are (AnAddress ∷ AnAddress ∷ AKey ∷ []) words refl)
    (or_named event kind (codes "state") node words _ _ (shaped_are (OneOf states ∷ []) words refl)
    (or_named event kind (codes "roll") node words _ _ (shaped_are (OneOf rollovers ∷ []) words refl)
    (at_start event kind node words (event == 0) refl))))))))))

node_are : (event : ℕ) (kind node : List ℕ) (words : List (List ℕ)) → Are (decimal event ∷ kind ∷ node ∷ words)
    (of_node event kind node words)
unfolding of_node
node_are event kind node words =
    or_named event kind (codes "seal") node words _ _ (shaped_are a_term words refl)
    (or_named event kind (codes "accept") node words _ _ (shaped_are a_term words refl)
    (or_named event kind (codes "commit") node words _ _ (shaped_are [] words refl)
    (or_named event kind (codes "refuse") node words _ _ (refusal_are words)
    (or_named event kind (codes "boot") node words _ _ (shaped_are [] words refl)
    (or_named event kind (codes "down") node words _ _
    (forms_are (codes "reset") [] (codes "disk") [] words refl refl)
    (or_named event kind (codes "stopped") node words _ _ (shaped_are [] words refl)
    (change_are event kind node words)))))))

-- A line that names a node, from the name on.
from_name : (front : List (List ℕ)) (f : Split → Option (List Word)) (node : List ℕ) (words : List (List ℕ))
    (named : Bool) → Are (front ++ node ∷ words) (f (node, words))
    → Are (front ++ node ∷ words)
    (option_and_then f (option_map {U = Split} (λ x. (x, words)) (if named then Some node else None)))
from_name front f node words true are = are
from_name front f node words false are = tt

nobody_are : (event : ℕ) (kind : List ℕ) (words : List (List ℕ)) → Are (decimal event ∷ kind ∷ words)
    (of_nobody event kind words)
unfolding of_nobody
nobody_are event kind words =
    or_begun event kind (codes "send") words (ANameOrDash ∷ a_count ∷ SomeBytes 127 ∷ []) _ refl
    (or_begun event kind (codes "forge") words a_term _ refl
    (or_begun event kind (codes "inject") words (a_count ∷ SomeBytes 127 ∷ []) _ refl
    (or_begun event kind (codes "draw") words (AKey ∷ []) _ refl
    (or_begun event kind (codes "live") words (AnAddress ∷ []) _ refl
    (or_begun event kind (codes "removed") words (AnAddress ∷ []) _ refl
    (or_begun event kind (codes "told") words (AnAddress ∷ []) _ refl
    (or_begun event kind (codes "untold") words (AnAddress ∷ []) _ refl (some_node words))))))))
  where
    some_node : (rest : List (List ℕ))
        → Are (decimal event ∷ kind ∷ rest)
        (option_and_then (λ (node : Split). of_node event kind node.0 node.1) (field name_of rest))
    some_node [] = tt
    some_node (node ∷ rest) =
        from_name (decimal event ∷ kind ∷ []) (λ t. of_node event kind t.0 t.1) node rest (is_name node)
        (node_are event kind node rest)

dump_are : (event : ℕ) (kind : List ℕ) (words : List (List ℕ)) → kind ≡ codes "dump"
    → Are (decimal event ∷ kind ∷ words) (of_dump event words)
dump_are event kind [] e = tt
dump_are event kind (node ∷ words) e =
    from_name (decimal event ∷ kind ∷ [])
    (λ t. option_map (begun_of event (codes "dump") t.0) (shaped (AllBytes ∷ []) t.1)) node words (is_name node)
    (named_are event kind (codes "dump") node words (shaped (AllBytes ∷ []) words)
    (shaped_are (AllBytes ∷ []) words refl) e)

event_are : (event : ℕ) (words : List (List ℕ)) → Are (decimal event ∷ words) (of_event event words)
event_are event [] = tt
event_are event (kind ∷ words) =
    by_test (decimal event ∷ kind ∷ words) kind (codes "dump") (bytes_eq kind (codes "dump")) _ _ refl
    (dump_are event kind words) (nobody_are event kind words)

from_event : (first : List ℕ) (words : List (List ℕ)) (o : Option ℕ) → IfSome o (λ n. decimal n ≡ first)
    → Are (first ∷ words) (option_and_then (λ event. of_event event words) o)
from_event first words None h = tt
from_event first words (Some event) h = rw h at (event_are event words)

-- The words of a line that was read are those of the result.
pub words_are : (words : List (List ℕ)) → Are words (read_words words)
unfolding read_words
words_are [] = tt
words_are (first ∷ words) =
    by_test (first ∷ words) first (codes "end") (bytes_eq first (codes "end")) _ _ refl
    (fixed_front first (codes "end") words _
    (shaped_are (a_count ∷ a_count ∷ a_count ∷ a_count ∷ OneOf answers ∷ OneOf answers ∷ []) words refl))
    (from_event first words (number_of 4294967295 first) (number_spelled 4294967295 first (omega arith)))
