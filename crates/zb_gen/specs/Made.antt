-- The lines of a made schedule for n routers and devices, as a function of the words of the generator. The words are
-- taken in order. A key has four: one key for each install code, one for the network key, n + 1 for the supply. Then
-- come four words for each of 20n steps, and two for each of 10n more.
use Rattle.std.specs.Prelude.{ℕ, ◌+◌, ◌*◌, ◌-◌, ◌%◌, ◌==◌, nat_lt, List, [], ◌∷◌, ◌++◌, map, codes, decimal, if◌then◌else◌, Result}
use Rattle.std.specs.Int.{w16, to_le_bytes}
use Rattle.std.specs.List.{flat_map, range_with_len}
use Rattle.hex.specs.Hex.{encode_upper}
use Rattle.zb_install.specs.Crc.{crc}
use Rattle.zb_text.specs.Fields.{eui_text, short_text}
use Rattle.zb_text.specs.Pages.{line_of_words, page}
use Rattle.zb_sched.specs.Schedules.{Schedule}
use Rattle.zb_sched.specs.Reading.{schedule_in}
use Rattle.zb_sched.specs.declared.error.SchedError.{SchedError}
use Rattle.zb_gen.specs.Words.{word, key_at}

-- The name of node 0, the centre, and of the others.
abbrev pub node_name : ℕ → List ℕ
node_name i = if i == 0 then codes "c" else codes "d" ++ decimal i

-- A router where i mod 5 is 1.
abbrev pub role_word : ℕ → List ℕ
role_word i = if i % 5 == 1 then codes "router" else codes "device"

-- The word of the install code of node i, from 1: a key and its CRC, low byte first.
abbrev pub code_word : ℕ → ℕ → List ℕ
code_word start i = encode_upper (key_at start (4 * (i - 1)))
    ++ encode_upper (to_le_bytes w16 (crc (key_at start (4 * (i - 1)))))

-- ---- lines

abbrev pub centre_line : List ℕ
centre_line = codes "node c centre 00124B0000000001 0000 8 4"

abbrev pub node_line : ℕ → List ℕ
node_line i =
    line_of_words (codes "node" ∷ node_name i ∷ role_word i ∷ eui_text (0x00124B0000000100 + i)
    ∷ short_text (0x1000 + i) ∷ codes "8" ∷ codes "4" ∷ [])

abbrev pub code_line : ℕ → ℕ → List ℕ
code_line start i = line_of_words (codes "code" ∷ node_name i ∷ code_word start i ∷ [])

abbrev pub netkey_line : ℕ → ℕ → List ℕ
netkey_line start n = line_of_words (codes "netkey" ∷ codes "c" ∷ encode_upper (key_at start (4 * n)) ∷ codes "0" ∷ [])

abbrev pub draw_line : ℕ → ℕ → ℕ → List ℕ
draw_line start n j = line_of_words (codes "draw" ∷ encode_upper (key_at start (4 * n + 4 + 4 * j)) ∷ [])

-- `WORD NAME`, for node i.
abbrev pub own_line : List ℕ → ℕ → List ℕ
own_line word i = line_of_words (word ∷ node_name i ∷ [])

-- `deliver FRAME NAME`.
abbrev pub deliver_line : ℕ → ℕ → List ℕ
deliver_line frame i = line_of_words (codes "deliver" ∷ decimal frame ∷ node_name i ∷ [])

-- The join of node i, whose frames have the numbers from 5(i - 1) + 1 to 5(i - 1) + 5.
abbrev pub join_lines : ℕ → ℕ → List (List ℕ)
join_lines start i =
    line_of_words (codes "provision" ∷ node_name i ∷ code_word start i ∷ []) ∷ own_line (codes "knock") i
    ∷ line_of_words (codes "child" ∷ codes "c" ∷ node_name i ∷ codes "join" ∷ []) ∷ deliver_line (5 * (i - 1) + 1) i
    ∷ own_line (codes "timer") i
    ∷ deliver_line (5 * (i - 1) + 2) 0 ∷ deliver_line (5 * (i - 1) + 3) i ∷ own_line (codes "timer") i
    ∷ deliver_line (5 * (i - 1) + 4) 0
    ∷ deliver_line (5 * (i - 1) + 5) i ∷ []

-- `say NAME FFFF BYTE`.
abbrev pub say_line : ℕ → ℕ → List ℕ
say_line i byte = line_of_words (codes "say" ∷ node_name i ∷ codes "FFFF" ∷ encode_upper (byte ∷ []) ∷ [])

-- `stop NAME K BYTE`.
abbrev pub stop_line : ℕ → ℕ → ℕ → List ℕ
stop_line i calls byte = line_of_words (codes "stop" ∷ node_name i ∷ decimal calls ∷ encode_upper (byte ∷ []) ∷ [])

-- What a step with the words p and q does at node i, by its kind.
abbrev pub step_of : ℕ → ℕ → ℕ → ℕ → ℕ → List (List ℕ)
step_of n kind i p q =
    if nat_lt kind 2 then say_line i (p % 256) ∷ []
    else if nat_lt kind 5 then deliver_line (1 + p % (10 * n)) i ∷ []
    else if kind == 5 then own_line (codes "timer") i ∷ []
    else if kind == 6 then own_line (codes "reset") i ∷ own_line (codes "boot") i ∷ []
    else stop_line i (p % 6) (q % 256) ∷ say_line i 0 ∷ own_line (codes "boot") i ∷ []

-- The four words of a step from that place on: the kind, the node, p and q.
abbrev pub step_lines : ℕ → ℕ → ℕ → List (List ℕ)
step_lines start n place = step_of n (word start place % 8) (word start (place + 1) % (n + 1))
    (word start (place + 2)) (word start (place + 3))

-- The two words of a late delivery from that place on: the node and p.
abbrev pub late_line : ℕ → ℕ → ℕ → List ℕ
late_line start n place = deliver_line (1 + word start (place + 1) % (20 * n)) (word start place % (n + 1))

abbrev pub rollover_lines : ℕ → List (List ℕ)
rollover_lines n =
    codes "remove d1 via c" ∷ codes "roll"
    ∷ (map (λ k. codes "timer c") (range_with_len 0 (n - 1)) ++ codes "switch" ∷ [])

unfoldable pub made_lines : ℕ → ℕ → List (List ℕ)
made_lines start n =
    centre_line
    ∷ (map node_line (range_with_len 1 n)
    ++ (map (λ i. code_line start i) (range_with_len 1 n) ++ (netkey_line start n
    ∷ (map (λ j. draw_line start n j) (range_with_len 0 (n + 1))
    ++ (flat_map (λ i. join_lines start i) (range_with_len 1 n)
    ++ (flat_map (λ k. step_lines start n (8 * n + 8 + 4 * k)) (range_with_len 0 (20 * n)) ++ (rollover_lines n
    ++ map (λ k. late_line start n (88 * n + 8 + 2 * k)) (range_with_len 0 (10 * n)))))))))

-- The made schedule, or the first of its lines that no schedule has there, with the cause.
abbrev pub made_schedule : ℕ → ℕ → Result Schedule SchedError
made_schedule start n = schedule_in (page (made_lines start n))
