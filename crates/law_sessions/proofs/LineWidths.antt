-- What a line of a session says has addresses of 64 bits and keys of 16 bytes.
use Rattle.std.proofs.Common.{◌≡◌, ℕ, zero, suc, ◌+◌, ◌*◌, ◌/◌, ◌<◌, ◌≤◌, ◌^◌, Bool, true, false, if◌then◌else◌, ◌&&◌, List, [], ◌∷◌, length, take, drop, map, replicate, Option, Some, None, IfSome, Result, Ok, Err, refl, sym, ◌∙◌, arith, length-take, length-drop}
use Rattle.std.specs.Prelude.{bytes_eq, codes}
use Rattle.std.specs.Int.{from_be_bytes, w64}
use Rattle.std.specs.List.{fold, range_with_len}
use Rattle.std.specs.Option.{option_map}
use Rattle.std.specs.Result.{result_ok}
use Rattle.hex.specs.Hex.{IsBytes, decode_sized}
use Rattle.hex.specs.declared.error.FromHexError.{FromHexError}
use Rattle.hex.proofs.HexLemmas.{decode_of-ok, decode_sized-ok, decode_sized-twice}
use Rattle.law_sessions.proofs.Widths.{IsWholeKey}
use Rattle.zb_base.specs.declared.node.Role.{Role}
use Rattle.zb_aes.proofs.Lengths.{length-enciphered}
use Rattle.zb_aes.proofs.Xored.{length-xored}
use Rattle.zb_aes.specs.Block.{enciphered}
use Rattle.zb_live.specs.Grammar.{again_of, child_of, deliver_of, draw_of, event_at, header_at, log_of, meaning_of, own_line, roll_of, say_of, scripted_in, share_of}
use Rattle.zb_model.specs.Data.{DoTimer, DoRoll, DoSwitch, DoAgain, DoShare, Received}
use Rattle.zb_script.specs.Resolving.{SaidTask}
use Rattle.zb_live.specs.Said.{Sentence, Quiet, Founds, Introduces, Logs, Opens, Happens}
use Rattle.zb_mmo.specs.Hash.{blocks_of, hash, mixed, padded}
use Rattle.zb_sched_line.specs.Grammar.{◌>>=◌, is_quiet, is_real_eui, kept, name_alone, or_else, real_eui_of, rejoin_of, two_names}
use Rattle.zb_sched_line.specs.Grammar as schedule_line
use Rattle.zb_sched_line.specs.Said as schedule
use Rattle.zb_script.specs.Grammar as script
use Rattle.zb_script.specs.Said as said
use Rattle.zb_text.specs.Fields.{eui_of, key_of, name_of, short_of}
use Rattle.zb_text.specs.Hexadecimal.{bytes_of, fixed_of}
use Rattle.zb_live.specs.declared.line.Log.TheVariants.{All, NoKeys}
use Rattle.zb_text.specs.Words.{field, first_of, nothing, words}

-- ---- addresses and keys

pub record Spells (word : List ℕ) (n : ℕ) (bytes : List ℕ) : Type 0 where
  pub long : length bytes ≡ n
  pub small : IsBytes bytes

-- the bytes that a word of twice as many digits spells
spelled : (word : List ℕ) (n : ℕ) → IfSome (fixed_of n word) (Spells word n)
spelled word n = by_result (decode_sized word n) refl
  where
    by_result : (r : Result (List ℕ) FromHexError) → decode_sized word n ≡ r → IfSome (result_ok r) (Spells word n)
    by_result (Err e) is = tt
    by_result (Ok bytes) is =
        let twice = decode_sized-ok word n bytes is in
        let ok = decode_of-ok word bytes (sym (decode_sized-twice word n twice) ∙ is) in
        record { long = omega (arith, twice, ok.2); small = ok.3 }

below_64 : (bytes : List ℕ) → IsBytes bytes → from_be_bytes w64 bytes < 2 ^ 64
below_64 bytes small =
    omega (arith, small 0, small 1, small 2, small 3, small 4, small 5, small 6, small 7)

seen : {A B : Type 0} (P : A → Type 0) (Q : B → Type 0) (f : A → B) (o : Option A) → ((x : A) → P x → Q (f x))
    → IfSome o P → IfSome (option_map f o) Q
seen P Q f None each is = tt
seen P Q f (Some x) each is = each x is

eui_small : (word : List ℕ) → IfSome (eui_of word) (λ n. n < 2 ^ 64)
eui_small word =
    seen (Spells word 8) (λ n. n < 2 ^ 64) (λ bytes. from_be_bytes w64 bytes) (fixed_of 8 word)
    (λ bytes is. below_64 bytes is.small) (spelled word 8)

kept_still : {A : Type 0} (P : A → Type 0) (test : A → Bool) (o : Option A) → IfSome o P → IfSome (kept test o) P
kept_still P test None is = tt
kept_still P test (Some x) is = by_test (test x)
  where
    by_test : (b : Bool) → IfSome (if b then Some x else None) P
    by_test true = is
    by_test false = tt

real_small : (word : List ℕ) → IfSome (real_eui_of word) (λ n. n < 2 ^ 64)
real_small word = kept_still (λ n. n < 2 ^ 64) is_real_eui (eui_of word) (eui_small word)

held : {A : Type 0} (P Q : A → Type 0) (o : Option A) → ((x : A) → P x → Q x) → IfSome o P → IfSome o Q
held P Q None each is = tt
held P Q (Some x) each is = each x is

key_whole : (word : List ℕ) → IfSome (key_of word) IsWholeKey
key_whole word = held (Spells word 16) IsWholeKey (fixed_of 16 word) (λ bytes is. is.long) (spelled word 16)

-- ---- the key of an install code

length_mixed : (value block : List ℕ) → length value ≡ 16 → 16 ≤ length block → length (mixed value block) ≡ 16
length_mixed value block h le =
    length-xored (enciphered value block) block (omega (arith, length-enciphered value block h))
    ∙ length-enciphered value block h

mixed_range : (bytes value : List ℕ) (a n : ℕ) → length value ≡ 16 → 16 * (a + n) ≤ length bytes
    → length (fold mixed value (map (λ i. take 16 (drop (16 * i) bytes)) (range_with_len a n))) ≡ 16
mixed_range bytes value a zero h le = h
mixed_range bytes value a (suc n) h le =
    let block : List ℕ = take 16 (drop (16 * a) bytes) in
    let long : 16 ≤ length block = omega (arith, length-take 16 (drop (16 * a) bytes), length-drop (16 * a) bytes) in
    mixed_range bytes (mixed value block) (a + 1) n (length_mixed value block h long) (omega arith)

pub hash_whole : (bytes : List ℕ) → IsWholeKey (hash bytes)
unfolding hash blocks_of
hash_whole bytes = mixed_range (padded bytes) (replicate 16 0) 0 (length (padded bytes) / 16) refl (omega arith)

-- ---- steps of a grammar

-- nothing is asked of what a step found, or that
passes : {A B : Type 0} (P : B → Type 0) (o : Option A) (f : A → Option B) → ((x : A) → IfSome (f x) P)
    → IfSome (o >>= f) P
passes P None f each = tt
passes P (Some x) f each = each x

brings : {A B : Type 0} (Q : A → Type 0) (P : B → Type 0) (o : Option A) (f : A → Option B) → IfSome o Q
    → ((x : A) → Q x → IfSome (f x) P) → IfSome (o >>= f) P
brings Q P None f is each = tt
brings Q P (Some x) f is each = each x is

in_field : {A : Type 0} (Q : A → Type 0) (f : List ℕ → Option A) → ((word : List ℕ) → IfSome (f word) Q)
    → (ws : List (List ℕ)) → IfSome (field f ws) (λ (x : A × List (List ℕ)). Q x.0)
in_field Q f each [] = tt
in_field {A} Q f each (word ∷ more) =
    seen Q (λ (x : A × List (List ℕ)). Q x.0) (λ x. (x, more)) (f word) (λ x is. is) (each word)

choice : {A : Type 0} (P : A → Type 0) (b : Bool) (x y : Option A) → IfSome x P → IfSome y P
    → IfSome (if b then x else y) P
choice P true x y p q = p
choice P false x y p q = q

any : {A B : Type 0} (P : B → Type 0) (f : A → B) (o : Option A) → ((x : A) → P (f x)) → IfSome (option_map f o) P
any P f None each = tt
any P f (Some x) each = each x

first : {A : Type 0} (P : A → Type 0) (o p : Option A) → IfSome o P → IfSome p P → IfSome (or_else o p) P
first P None p is other = other
first P (Some x) p is other = is

-- ---- events

abbrev pub EventFits : SaidTask → Type 0
EventFits (Received bytes draw) = IfSome draw IsWholeKey
EventFits (DoRoll draw) = IfSome draw IsWholeKey
EventFits _ = Unit {0}

-- what a line says is within the widths, and a peer is a router or a device
abbrev pub SaidFits : Sentence → Type 0
SaidFits (Founds name eui out_block in_block) = eui < 2 ^ 64
SaidFits (Introduces name role eui short) = (eui < 2 ^ 64) × (script.is_joiner role ≡ true)
SaidFits (Happens event) = EventFits event
SaidFits _ = Unit {0}

abbrev DrawFits : Option (List ℕ) → Type 0
DrawFits draw = IfSome draw IsWholeKey

draw_fits : (word : List ℕ) → IfSome (draw_of word) DrawFits
draw_fits word =
    choice DrawFits _ (Some None) (option_map Some (key_of word)) tt
    (seen IsWholeKey DrawFits Some (key_of word) (λ key is. is) (key_whole word))

deliver_fits : (ws : List (List ℕ)) → IfSome (deliver_of ws) EventFits
deliver_fits ws =
    passes EventFits (field (bytes_of 127) ws) _
    (λ bytes. brings (λ (draw : Option (List ℕ) × List (List ℕ)). DrawFits draw.0) EventFits (field draw_of bytes.1) _
    (in_field DrawFits draw_of draw_fits bytes.1) (λ draw is. passes EventFits (nothing draw.1) _ (λ end. is)))

roll_fits : (ws : List (List ℕ)) → IfSome (roll_of ws) EventFits
roll_fits ws =
    brings (λ (draw : Option (List ℕ) × List (List ℕ)). DrawFits draw.0) EventFits (field draw_of ws) _
    (in_field DrawFits draw_of draw_fits ws) (λ draw is. passes EventFits (nothing draw.1) _ (λ end. is))

child_fits : (ws : List (List ℕ)) → IfSome (child_of ws) EventFits
child_fits ws =
    passes EventFits (field name_of ws) _
    (λ name. passes EventFits (field rejoin_of name.1) _
    (λ rejoin. passes EventFits (nothing rejoin.1) _ (λ end. tt)))

say_fits : (ws : List (List ℕ)) → IfSome (say_of ws) EventFits
say_fits ws =
    passes EventFits (field short_of ws) _
    (λ to. passes EventFits (field (bytes_of 64) to.1) _ (λ bytes. passes EventFits (nothing bytes.1) _ (λ end. tt)))

event_among : (deliver child timer say roll switch again share : Bool) (ws : List (List ℕ))
    → IfSome (if deliver then deliver_of ws
    else if child then child_of ws
    else if timer then option_map (λ end. DoTimer) (nothing ws)
    else if say then say_of ws
    else if roll then roll_of ws
    else if switch then option_map (λ end. DoSwitch) (nothing ws)
    else if again then again_of ws
    else if share then share_of ws
    else None) EventFits
event_among true child timer say roll switch again share ws = deliver_fits ws
event_among false true timer say roll switch again share ws = child_fits ws
event_among false false true say roll switch again share ws = any EventFits (λ end. DoTimer) (nothing ws) (λ end. tt)
event_among false false false true roll switch again share ws = say_fits ws
event_among false false false false true switch again share ws = roll_fits ws
event_among false false false false false true again share ws =
    any EventFits (λ end. DoSwitch) (nothing ws) (λ end. tt)
event_among false false false false false false true share ws = any EventFits DoAgain (name_alone ws) (λ name. tt)
event_among false false false false false false false true ws =
    any EventFits (λ names. DoShare names.0 names.1) (two_names ws) (λ names. tt)
event_among false false false false false false false false ws = tt

event_fits : (word : List ℕ) (ws : List (List ℕ)) → IfSome (event_at word ws) EventFits
event_fits word ws =
    event_among (bytes_eq word (codes "deliver")) (bytes_eq word (codes "child")) (bytes_eq word (codes "timer"))
    (bytes_eq word (codes "say")) (bytes_eq word (codes "roll")) (bytes_eq word (codes "switch"))
    (bytes_eq word (codes "again")) (bytes_eq word (codes "share")) ws

-- ---- the lines that no script has

log_among : (all none : Bool) → IfSome (if all then Some (Logs All) else if none then Some (Logs NoKeys) else None)
    SaidFits
log_among true none = tt
log_among false true = tt
log_among false false = tt

log_fits : (ws : List (List ℕ)) → IfSome (log_of ws) SaidFits
log_fits ws =
    passes SaidFits (first_of ws) _
    (λ word. passes SaidFits (nothing word.1) _
    (λ end. log_among (bytes_eq word.0 (codes "all")) (bytes_eq word.0 (codes "none"))))

header_among : (logs opens : Bool) (ws : List (List ℕ))
    → IfSome (if logs then log_of ws else if opens then option_map (λ end. Opens) (nothing ws) else None) SaidFits
header_among true opens ws = log_fits ws
header_among false true ws = any SaidFits (λ end. Opens) (nothing ws) (λ end. tt)
header_among false false ws = tt

header_fits : (word : List ℕ) (ws : List (List ℕ)) → IfSome (header_at word ws) SaidFits
header_fits word ws = header_among (bytes_eq word (codes "log")) (bytes_eq word (codes "open")) ws

own_fits : (word : List ℕ) (ws : List (List ℕ)) → IfSome (own_line word ws) SaidFits
own_fits word ws =
    first SaidFits (header_at word ws) (option_map Happens (event_at word ws)) (header_fits word ws)
    (seen EventFits SaidFits Happens (event_at word ws) (λ event is. is) (event_fits word ws))

-- ---- those of scripts

abbrev ScriptFits : said.Sentence → Type 0
ScriptFits (said.Founds name eui out_block in_block) = eui < 2 ^ 64
ScriptFits (said.Introduces name role eui short) = (eui < 2 ^ 64) × (script.is_joiner role ≡ true)
ScriptFits _ = Unit {0}

centre_fits : (ws : List (List ℕ)) → IfSome (script.centre_of ws) ScriptFits
centre_fits ws =
    passes ScriptFits (field name_of ws) _
    (λ name. brings (λ (eui : ℕ × List (List ℕ)). eui.0 < 2 ^ 64) ScriptFits (field real_eui_of name.1) _
    (in_field (λ n. n < 2 ^ 64) real_eui_of real_small name.1)
    (λ eui is. passes ScriptFits (field _ eui.1) _
    (λ out_block. passes ScriptFits (field _ out_block.1) _
    (λ in_block. passes ScriptFits (nothing in_block.1) _ (λ end. is)))))

peer_kept : (name : List ℕ) (role : Role) (eui short : ℕ) (joins suits : Bool) → script.is_joiner role ≡ joins
    → eui < 2 ^ 64
    → IfSome (if joins && suits then Some (said.Introduces name role eui short) else None) ScriptFits
peer_kept name role eui short true true joins small = (small, joins)
peer_kept name role eui short true false joins small = tt
peer_kept name role eui short false suits joins small = tt

peer_fits : (ws : List (List ℕ)) → IfSome (script.peer_of ws) ScriptFits
peer_fits ws =
    passes ScriptFits (field name_of ws) _
    (λ name. passes ScriptFits (field _ name.1) _
    (λ role. brings (λ (eui : ℕ × List (List ℕ)). eui.0 < 2 ^ 64) ScriptFits (field real_eui_of role.1) _
    (in_field (λ n. n < 2 ^ 64) real_eui_of real_small role.1)
    (λ eui is. passes ScriptFits (field short_of eui.1) _
    (λ short. passes ScriptFits (nothing short.1) _
    (λ end. peer_kept name.0 role.0 eui.0 short.0 (script.is_joiner role.0) _ refl is)))))

init_fits : (ws : List (List ℕ)) → IfSome (script.init_of ws) ScriptFits
init_fits ws =
    passes ScriptFits (field key_of ws) _ (λ key. passes ScriptFits (nothing key.1) _ (λ end. tt))

restore_fits : (ws : List (List ℕ)) → IfSome (script.restore_of ws) ScriptFits
restore_fits ws =
    passes ScriptFits (field _ ws) _ (λ skip. passes ScriptFits (script.rest_of skip.1) _ (λ json. tt))

script_among : (centre peer init list backup restore : Bool) (ws : List (List ℕ))
    → IfSome (if centre then script.centre_of ws
    else if peer then script.peer_of ws
    else if init then script.init_of ws
    else if list then option_map (λ end. said.Lists) (nothing ws)
    else if backup then option_map (λ end. said.BacksUp) (nothing ws)
    else if restore then script.restore_of ws
    else None) ScriptFits
script_among true peer init list backup restore ws = centre_fits ws
script_among false true init list backup restore ws = peer_fits ws
script_among false false true list backup restore ws = init_fits ws
script_among false false false true backup restore ws = any ScriptFits (λ end. said.Lists) (nothing ws) (λ end. tt)
script_among false false false false true restore ws = any ScriptFits (λ end. said.BacksUp) (nothing ws) (λ end. tt)
script_among false false false false false true ws = restore_fits ws
script_among false false false false false false ws = tt

script_line_fits : (word : List ℕ) (ws : List (List ℕ)) → IfSome (script.own_line word ws) ScriptFits
script_line_fits word ws =
    script_among (bytes_eq word (codes "centre")) (bytes_eq word (codes "peer")) (bytes_eq word (codes "init"))
    (bytes_eq word (codes "list")) (bytes_eq word (codes "backup")) (bytes_eq word (codes "restore")) ws

scheduled_fits : (event : schedule.Event) → IfSome (script.event_of event) ScriptFits
scheduled_fits (schedule.Provisions name code) = tt
scheduled_fits (schedule.Removes name parent) = tt
scheduled_fits _ = tt

shared_fits : (m : Option schedule.Sentence) → IfSome (script.shared_in m) ScriptFits
shared_fits None = tt
shared_fits (Some (schedule.Misprovisions name)) = tt
shared_fits (Some (schedule.Happens event)) = scheduled_fits event
shared_fits (Some _) = tt

script_fits : (line : List ℕ) → IfSome (script.meaning_of line) ScriptFits
script_fits line =
    choice ScriptFits (is_quiet line) (Some said.Quiet) _ tt
    (passes ScriptFits (first_of (words (Some line))) _
    (λ word. first ScriptFits (script.own_line word.0 word.1) (script.shared_in (schedule_line.meaning_of line))
    (script_line_fits word.0 word.1) (shared_fits (schedule_line.meaning_of line))))

scripted_fits : (m : Option said.Sentence) → IfSome m ScriptFits → IfSome (scripted_in m) SaidFits
scripted_fits None is = tt
scripted_fits (Some (said.Founds name eui out_block in_block)) is = is
scripted_fits (Some (said.Introduces name role eui short)) is = is
scripted_fits (Some _) is = tt

-- ---- all lines

pub meaning_fits : (line : List ℕ) → IfSome (meaning_of line) SaidFits
meaning_fits line =
    choice SaidFits (is_quiet line) (Some Quiet) _ tt
    (passes SaidFits (first_of (words (Some line))) _
    (λ word. first SaidFits (own_line word.0 word.1) (scripted_in (script.meaning_of line))
    (own_fits word.0 word.1) (scripted_fits (script.meaning_of line) (script_fits line))))
