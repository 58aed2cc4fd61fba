-- What the made lines say.
use Rattle.std.proofs.Common.{◌≡◌, ℕ, ◌+◌, ◌*◌, ◌/◌, ◌%◌, ◌<◌, ◌≤◌, ◌==◌, nat_lt, nat_le, ◌&&◌, get_or, List, [], ◌∷◌, ◌++◌, Bool, true, false, Some, refl, arith, lit<, ap, sym, ◌∙◌, subst, codes, decimal}
use Rattle.std.specs.Prelude.{if◌then◌else◌}
use Rattle.std.specs.List.{list_all, range_with_len}
use Rattle.std.proofs.lemmas.List.FromFn.{get_or-range_with_len, length-range_with_len}
use Rattle.std.proofs.lemmas.List.Sums.{AllPass-from_list_all}
use Rattle.std.proofs.lemmas.Bool.Decides.{nat_tests}
use Rattle.std.proofs.lemmas.Fmt.{decimal_by_steps, decimal_digit}
use Rattle.hex.specs.Hex.{IsBytes, encode_upper, encode_with}
use Rattle.zb_base.specs.declared.node.Role.{Role}
use Rattle.zb_base.specs.declared.node.Role.TheVariants.{Centre, Router, Device}
use Rattle.zb_text.specs.Choices.{role_text}
use Rattle.zb_text.specs.Fields.{eui_text, is_name, short_text}
use Rattle.zb_text.specs.Pages.{IsLine, line_of_words}
use Rattle.zb_sched_line.specs.Fits.{FitsEvent, FitsSentence, IsName}
use Rattle.zb_sched_line.specs.Grammar.{is_real_eui, meaning_of}
use Rattle.zb_sched_line.specs.Said.{Bytes, Event, Adopts, Boots, Codes, Delivers, Draws, Happens, Holds, Introduces, Knocks, Provisions, Removes, Resets, Rolls, Says as Speaks, Sentence, Stops, Switches, Ticks}
use Rattle.zb_sched_line.specs.Texts.{event_words}
use Rattle.zb_sched_line.proofs.LineAgain.{code_again, draw_again, event_again, netkey_again, node_again, IsLine-code, IsLine-draw, IsLine-event, IsLine-netkey, IsLine-node}
use Rattle.zb_gen.specs.Made.{centre_line, code_line, code_word, deliver_line, draw_line, netkey_line, node_line, node_name, own_line, role_word, say_line, stop_line}
use Rattle.zb_gen.specs.Codes.{code_bytes}
use Rattle.zb_gen.specs.Words.{key_at}
use Rattle.zb_gen.proofs.CodeTexts.{bytes_from_each, code_fits, code_text, key_fits}

-- a line says this, which is in its range, and has no line feed
pub record Says (text : List ℕ) (sentence : Sentence) : Type 0 where
  pub means : meaning_of text ≡ Some sentence
  pub fits : FitsSentence sentence
  pub plain : IsLine text

-- ---- names

test_below : (test : ℕ → Bool) → list_all test (range_with_len 0 61) ≡ true → (i : ℕ) → i ≤ 60 → test i ≡ true
test_below test all i few =
    subst (λ (n : ℕ). test n ≡ true) (get_or-range_with_len 0 61 i 0 (omega arith) ∙ (omega arith))
    (AllPass-from_list_all test (range_with_len 0 61) all i 0 (omega (arith, length-range_with_len 0 61)))

-- the digits of a number of a node
abbrev digits : ℕ → List ℕ
digits i = if nat_lt i 10 then (48 + i) ∷ [] else (48 + i / 10) ∷ (48 + i % 10) ∷ []

digits_small : (i : ℕ) → i < 10 → (48 + i) ∷ [] ≡ digits i
digits_small i lt = let small : nat_lt i 10 ≡ true = grind (arith, nat_tests) in rw small refl

digits_large : (i : ℕ) (front : List ℕ) → 10 ≤ i → i ≤ 60 → front ≡ digits (i / 10) → front ++ (48 + i % 10) ∷ []
    ≡ digits i
digits_large i front ten few is =
    let large : nat_lt i 10 ≡ false = grind (arith, nat_tests) in
    let tens : i / 10 < 10 = omega arith in
    ap (λ (ds : List ℕ). ds ++ (48 + i % 10) ∷ []) (is ∙ sym (digits_small (i / 10) tens)) ∙ rw large refl

digits_are : (i : ℕ) → i ≤ 60 → decimal i ≡ digits i
digits_are i few =
    decimal_by_steps (λ m ds. m ≤ 60 → ds ≡ digits m) (λ m small le. digits_small m small)
    (λ m ds ten front le. digits_large m ds ten le (front (omega (arith, le)))) i (omega (arith, few)) few

pub small_number : (i : ℕ) → i < 10 → (48 + i) ∷ [] ≡ decimal i
small_number i lt = digits_small i lt ∙ sym (digits_are i (omega (arith, lt)))

pub large_number : (i : ℕ) → 10 ≤ i → i ≤ 60 → (48 + i / 10) ∷ (48 + i % 10) ∷ [] ≡ decimal i
large_number i ten few =
    digits_large i ((48 + i / 10) ∷ []) ten few (digits_small (i / 10) (omega arith)) ∙ sym (digits_are i few)

abbrev spelled : ℕ → List ℕ
spelled i = if i == 0 then codes "c" else codes "d" ++ digits i

pub named : (i : ℕ) → i ≤ 60 → IsName (node_name i)
named i few =
    ap (λ (ds : List ℕ). is_name (if i == 0 then codes "c" else codes "d" ++ ds)) (digits_are i few) ∙ test_below
    (λ n. is_name (spelled n)) refl i few

zero_text : decimal 0 ≡ codes "0"
zero_text = decimal_digit 0 (lit< tt)

one_text : decimal 1 ≡ codes "1"
one_text = decimal_digit 1 (lit< tt)

four_text : decimal 4 ≡ codes "4"
four_text = decimal_digit 4 (lit< tt)

eight_text : decimal 8 ≡ codes "8"
eight_text = decimal_digit 8 (lit< tt)

-- ---- declarations

abbrev node_text : Bytes → Role → ℕ → ℕ → List ℕ → List ℕ → List ℕ
node_text name role eui short outs ins =
    line_of_words (codes "node" ∷ name ∷ role_text role ∷ eui_text eui ∷ short_text short ∷ outs ∷ ins ∷ [])

said_node : (name : Bytes) (role : Role) (eui short : ℕ) → FitsSentence (Introduces name role eui short 8 4)
    → Says (node_text name role eui short (codes "8") (codes "4")) (Introduces name role eui short 8 4)
said_node name role eui short fits =
    subst (λ (outs : List ℕ). Says (node_text name role eui short outs (codes "4"))
    (Introduces name role eui short 8 4)) eight_text
    (subst (λ (ins : List ℕ). Says (node_text name role eui short (decimal 8) ins)
    (Introduces name role eui short 8 4)) four_text
    (record {
      means = node_again name role eui short 8 4 fits;
      fits = fits;
      plain = IsLine-node name role eui short 8 4
          fits;
    }))

pub centre_says : Says centre_line (Introduces (node_name 0) Centre 0x00124B0000000001 0 8 4)
unfolding encode_with
centre_says = said_node (node_name 0) Centre 0x00124B0000000001 0
    (named 0 (omega arith), (omega arith, refl), refl, omega arith, omega arith, omega arith)

real : (i : ℕ) → i ≤ 60 → is_real_eui (0x00124B0000000100 + i) ≡ true
real i few = grind (arith, nat_tests)

short_fits : (i : ℕ) → i ≤ 60 → (nat_le 1 (0x1000 + i) && nat_le (0x1000 + i) 65527) ≡ true
short_fits i few = grind (arith, nat_tests)

node_by_role : (role : Role) (router : Bool) (i : ℕ) → i ≤ 60 → role_text role
    ≡ (if router then codes "router" else codes "device")
    → Says (line_of_words (codes "node" ∷ node_name i ∷ (if router then codes "router" else codes "device")
    ∷ eui_text (0x00124B0000000100 + i) ∷ short_text (0x1000 + i) ∷ codes "8" ∷ codes "4" ∷ []))
    (Introduces (node_name i) role (0x00124B0000000100 + i) (0x1000 + i) 8 4)
node_by_role Router true i few is =
    said_node (node_name i) Router (0x00124B0000000100 + i) (0x1000 + i)
    (named i few, (omega arith, real i few), short_fits i few, omega arith, omega arith, omega arith)
node_by_role Device false i few is =
    said_node (node_name i) Device (0x00124B0000000100 + i) (0x1000 + i)
    (named i few, (omega arith, real i few), short_fits i few, omega arith, omega arith, omega arith)
node_by_role Centre true i few is = absurd (omega (arith, ap (λ (w : List ℕ). get_or w 0 0) is))
node_by_role Centre false i few is = absurd (omega (arith, ap (λ (w : List ℕ). get_or w 0 0) is))
node_by_role Router false i few is = absurd (omega (arith, ap (λ (w : List ℕ). get_or w 0 0) is))
node_by_role Device true i few is = absurd (omega (arith, ap (λ (w : List ℕ). get_or w 0 0) is))

abbrev pub role_at : ℕ → Role
role_at i = if i % 5 == 1 then Router else Device

role_by : (b : Bool) → role_text (if b then Router else Device) ≡ (if b then codes "router" else codes "device")
role_by true = refl
role_by false = refl

pub role_is : (i : ℕ) → role_text (role_at i) ≡ role_word i
role_is i = role_by (i % 5 == 1)

pub node_says : (i : ℕ) (role : Role) → i ≤ 60 → role_text role ≡ role_word i
    → Says (node_line i) (Introduces (node_name i) role (0x00124B0000000100 + i) (0x1000 + i) 8 4)
node_says i role few is = node_by_role role (i % 5 == 1) i few is

pub code_says : (start i : ℕ) → i ≤ 60 → Says (code_line start i) (Codes (node_name i) (Some (code_bytes start i)))
code_says start i few =
    subst (λ (w : List ℕ). Says (line_of_words (codes "code" ∷ node_name i ∷ w ∷ []))
    (Codes (node_name i) (Some (code_bytes start i)))) (code_text start i)
    (record {
      means = code_again (node_name i) (code_bytes start i) (named i few) (code_fits start i);
      fits = (named i few, code_fits start i);
      plain = IsLine-code (node_name i) (code_bytes start i) (named i few) (code_fits start i);
    })

pub netkey_says : (start n : ℕ) → Says (netkey_line start n) (Holds (node_name 0) (key_at start (4 * n)) 0)
netkey_says start n =
    let fits : FitsSentence (Holds (node_name 0) (key_at start (4 * n)) 0) =
    (named 0 (omega arith), key_fits start (4 * n), omega arith) in
    subst (λ (sequence : List ℕ). Says
    (line_of_words (codes "netkey" ∷ codes "c" ∷ encode_upper (key_at start (4 * n)) ∷ sequence ∷ []))
    (Holds (node_name 0) (key_at start (4 * n)) 0)) zero_text
    (record {
      means = netkey_again (node_name 0) (key_at start (4 * n)) 0 fits;
      fits = fits;
      plain = IsLine-netkey (node_name 0) (key_at start (4 * n)) 0 fits;
    })

pub draw_says : (start n j : ℕ) → Says (draw_line start n j) (Draws (key_at start (4 * n + 4 + 4 * j)))
draw_says start n j =
    let fits = key_fits start (4 * n + 4 + 4 * j) in
    record {
      means = draw_again (key_at start (4 * n + 4 + 4 * j)) fits;
      fits = fits;
      plain = IsLine-draw (key_at start (4 * n + 4 + 4 * j)) fits;
    }

-- ---- events

said_event : (event : Event) → FitsEvent event → Says (line_of_words (event_words event)) (Happens event)
said_event event fits = record { means = event_again event fits; fits = fits; plain = IsLine-event event fits }

pub timer_says : (i : ℕ) → i ≤ 60 → Says (own_line (codes "timer") i) (Happens (Ticks (node_name i)))
timer_says i few = said_event (Ticks (node_name i)) (named i few)

pub knock_says : (i : ℕ) → i ≤ 60 → Says (own_line (codes "knock") i) (Happens (Knocks (node_name i)))
knock_says i few = said_event (Knocks (node_name i)) (named i few)

pub reset_says : (i : ℕ) → i ≤ 60 → Says (own_line (codes "reset") i) (Happens (Resets (node_name i)))
reset_says i few = said_event (Resets (node_name i)) (named i few)

pub boot_says : (i : ℕ) → i ≤ 60 → Says (own_line (codes "boot") i) (Happens (Boots (node_name i)))
boot_says i few = said_event (Boots (node_name i)) (named i few)

pub deliver_says : (frame i : ℕ) → 1 ≤ frame → frame ≤ 4294967295 → i ≤ 60
    → Says (deliver_line frame i) (Happens (Delivers frame (node_name i)))
deliver_says frame i some small few = said_event (Delivers frame (node_name i)) (some, small, named i few)

pub provision_says : (start i : ℕ) → i ≤ 60
    → Says (line_of_words (codes "provision" ∷ node_name i ∷ code_word start i ∷ []))
    (Happens (Provisions (node_name i) (code_bytes start i)))
provision_says start i few =
    subst (λ (w : List ℕ). Says (line_of_words (codes "provision" ∷ node_name i ∷ w ∷ []))
    (Happens (Provisions (node_name i) (code_bytes start i)))) (code_text start i)
    (said_event (Provisions (node_name i) (code_bytes start i)) (named i few, code_fits start i))

pub child_says : (i : ℕ) → i ≤ 60
    → Says (line_of_words (codes "child" ∷ codes "c" ∷ node_name i ∷ codes "join" ∷ []))
    (Happens (Adopts (node_name 0) (node_name i) false))
child_says i few = said_event (Adopts (node_name 0) (node_name i) false) (named 0 (omega arith), named i few)

byte_fits : (byte : ℕ) → byte < 256 → IsBytes (byte ∷ [])
byte_fits byte lt = bytes_from_each (byte ∷ []) (lt, tt)

pub say_says : (i byte : ℕ) → i ≤ 60 → byte < 256
    → Says (say_line i byte) (Happens (Speaks (node_name i) 0xFFFF (byte ∷ [])))
unfolding encode_with
say_says i byte few lt = said_event (Speaks (node_name i) 0xFFFF (byte ∷ []))
    (named i few, omega arith, (omega arith, byte_fits byte lt))

pub stop_says : (i calls byte : ℕ) → i ≤ 60 → calls ≤ 5 → byte < 256
    → Says (stop_line i calls byte) (Happens (Stops (node_name i) calls (byte ∷ [])))
stop_says i calls byte few small lt = said_event (Stops (node_name i) calls (byte ∷ []))
    (named i few, small, (omega arith, byte_fits byte lt))

pub remove_says : Says (codes "remove d1 via c") (Happens (Removes (node_name 1) (node_name 0)))
remove_says =
    subst (λ (digit : List ℕ). Says
    (line_of_words (codes "remove" ∷ (codes "d" ++ digit) ∷ codes "via" ∷ codes "c" ∷ []))
    (Happens (Removes (node_name 1) (node_name 0)))) one_text
    (said_event (Removes (node_name 1) (node_name 0)) (named 1 (omega arith), named 0 (omega arith)))

pub roll_says : Says (codes "roll") (Happens Rolls)
roll_says = said_event Rolls tt

pub switch_says : Says (codes "switch") (Happens Switches)
switch_says = said_event Switches tt
