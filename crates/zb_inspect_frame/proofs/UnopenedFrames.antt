-- A frame that no key opened shows the same under no keys, and its line says just that.
use Rattle.std.proofs.Common.{◌≡◌, ℕ, suc, ◌+◌, ◌-◌, ◌<◌, ◌≤◌, ◌++◌, append-nil, append_assoc, ◌&&◌, not, is_some, List, [], ◌∷◌, Option, Some, None, length, refl, ap, sym, ◌∙◌, arith, Bool, true, false}
use Rattle.std.specs.Bool.{OnTrue}
use Rattle.std.specs.List.{list_all}
use Rattle.zb_base.specs.declared.address.Eui.{Eui}
use Rattle.zb_base.specs.declared.address.Short.{Short}
use Rattle.zb_base.specs.declared.key.Key.{Key}
use Rattle.zb_nwk.specs.Reading as nwk_reading
use Rattle.zb_seal.specs.Keys.{sealing_key}
use Rattle.zb_seal.specs.Opening.{seen_nwk, content_of}
use Rattle.zb_seal.specs.declared.envelope.Envelope.{Envelope}
use Rattle.zb_inspect_frame.specs.Layers.{unsealed, opened_by, tried, is_closed, looked, found_nwk}
use Rattle.zb_inspect_frame.specs.Lines.{layer_line, frame_text, frames_text, unopened_line, unopened_text}
use Rattle.zb_inspect_frame.specs.Settling.{is_unopened, ShowsNothing}
use Rattle.zb_inspect_frame.specs.Shows.{frame_shown}
use Rattle.zb_inspect_frame.specs.declared.layer.Finding.{Finding}
use Rattle.zb_inspect_frame.specs.declared.layer.Finding.TheVariants.{Malformed, NotSecured, NoSource, Closed, Opened}
use Rattle.zb_inspect_frame.specs.declared.shown.Below.{Below}
use Rattle.zb_inspect_frame.specs.declared.shown.Shown.{Shown}
use Rattle.zb_inspect_frame.proofs.MoreKeys.{closed_frame, shown_parts}

abbrev whole : Finding → Option Below → Shown
whole nwk b = record { nwk = nwk; below = b }

both_true : (a b : Bool) → (a && b) ≡ true → (a ≡ true) × (b ≡ true)
both_true true b e = (refl, e)
both_true false b e = cc

-- A layer that is closed after keys were tried is as it was before.
left_closed : (s : Envelope) (source : Eui) (number : ℕ) (key : Key) (found : Option (List ℕ)) (others : Finding)
    → is_closed (unsealed s source number key found others) ≡ true
    → (is_closed others ≡ true → others ≡ Closed s source)
    → unsealed s source number key found others ≡ Closed s source
left_closed s source number key None others e next = next e
left_closed s source number key (Some content) others e next = cc

still_closed : (s : Envelope) (source : Eui) (number : ℕ) (keys : List Key)
    → is_closed (opened_by s source number keys) ≡ true
    → opened_by s source number keys ≡ Closed s source
still_closed s source number [] e = refl
still_closed s source number (key ∷ keys) e =
    left_closed s source (number + 1) key (content_of s (sealing_key s.label key.0) source)
    (opened_by s source (number + 1) keys) e
    (still_closed s source (number + 1) keys)

tried_closed : (keys : List Key) (x : Finding) → is_closed (tried 0 keys x) ≡ true → tried 0 keys x ≡ tried 0 [] x
tried_closed keys Malformed e = refl
tried_closed keys NotSecured e = refl
tried_closed keys NoSource e = refl
tried_closed keys (Closed s source) e = still_closed s source 0 keys e
tried_closed keys (Opened key term) e = refl

nwk_closed : (keys : List Key) (bytes : List ℕ) → is_closed (found_nwk keys bytes) ≡ true → found_nwk keys bytes
    ≡ found_nwk [] bytes
unfolding found_nwk
nwk_closed keys bytes e = tried_closed keys (looked (seen_nwk bytes) None) e

-- The NWK layer of what a frame shows.
nwk_of : (addrs : List (Short × Eui)) (keys : List Key) (bytes : List ℕ) → (frame_shown addrs keys bytes).nwk
    ≡ found_nwk keys bytes
unfolding frame_shown
nwk_of addrs keys bytes =
    ap (λ (s : Shown). s.nwk) (shown_parts addrs keys (found_nwk keys bytes) (nwk_reading.frame_of bytes))

pub unopened_same : (addrs : List (Short × Eui)) (keys : List Key) (bytes : List ℕ)
    → is_unopened (frame_shown addrs keys bytes) ≡ true
    → frame_shown addrs keys bytes ≡ frame_shown addrs [] bytes
unfolding frame_shown
unopened_same addrs keys bytes e =
    let r = nwk_reading.frame_of bytes in
    let closed = ap is_closed (sym (nwk_of addrs keys bytes)) ∙ (both_true _ _ e).0 in
    let same = nwk_closed keys bytes closed in
    closed_frame addrs keys (found_nwk keys bytes) r closed ∙ ap (λ n. whole n None) same
    ∙ sym (closed_frame addrs [] (found_nwk [] bytes) r (ap is_closed (sym same) ∙ closed))

-- The line of such a frame, and those of several.
line_of : (frame : ℕ) (nwk : Finding) (b : Option Below) → is_closed nwk ≡ true → not (is_some b) ≡ true
    → frame_text frame (whole nwk b) ≡ unopened_line frame
unfolding layer_line
line_of frame Malformed b e f = cc
line_of frame NotSecured b e f = cc
line_of frame NoSource b e f = cc
line_of frame (Opened key term) b e f = cc
line_of frame (Closed s source) None e f = append-nil _
line_of frame (Closed s source) (Some below) e f = cc

pub unopened_lines : (frame : ℕ) (found : List Shown) → list_all is_unopened found ≡ true → frames_text frame found
    ≡ unopened_text frame (length found)
unfolding unopened_text
unopened_lines frame [] all = refl
unopened_lines frame (x ∷ found) all =
    let parts = both_true (is_unopened x) (list_all is_unopened found) all in
    let here = both_true (is_closed x.nwk) (not (is_some x.below)) parts.0 in
    ap (λ zs. zs ++ frames_text (frame + 1) found) (line_of frame x.nwk x.below here.0 here.1)
    ∙ ap (λ zs. unopened_line frame ++ zs) (unopened_lines (frame + 1) found parts.1)

pub next_unopened : (frame end : ℕ) → frame < end → unopened_text frame (end - frame) ≡ unopened_line frame
    ++ unopened_text (frame + 1) (end - (frame + 1))
unfolding unopened_text
next_unopened frame end within =
    let place : end - frame ≡ suc (end - (frame + 1)) = omega (arith, within) in ap (unopened_text frame) place

-- The remaining lines, after one or none was printed.
pub printed_one : (frame end : ℕ) (before now after : List ℕ) → frame < end → now ++ unopened_text frame (end - frame)
    ≡ before
    → after ≡ now ++ unopened_line frame → after ++ unopened_text (frame + 1) (end - (frame + 1)) ≡ before
printed_one frame end before now after within so_far is =
    ap (λ zs. zs ++ unopened_text (frame + 1) (end - (frame + 1))) is
    ∙ append_assoc now (unopened_line frame) (unopened_text (frame + 1) (end - (frame + 1)))
    ∙ ap (λ zs. now ++ zs) (sym (next_unopened frame end within)) ∙ so_far

pub printed_all : (frame end : ℕ) (before now : List ℕ) → end ≤ frame → now ++ unopened_text frame (end - frame)
    ≡ before → now ≡ before
unfolding unopened_text
printed_all frame end before now past so_far =
    let none : end - frame ≡ 0 = omega (arith, past) in
    sym (append-nil now) ∙ ap (λ n. now ++ unopened_text frame n) (sym none) ∙ so_far

pub shows_nothing : (b : Bool) (seen : Shown) → (b ≡ true → is_unopened seen ≡ true) → OnTrue b (ShowsNothing seen)
shows_nothing false seen unopened = tt
shows_nothing true seen unopened =
    λ addrs keys bytes is. sym (unopened_same addrs keys bytes (ap is_unopened (sym is) ∙ unopened refl)) ∙ sym is

pub unopened_is : (seen : Shown) (closed none : Bool) → closed ≡ true → closed ≡ is_closed seen.nwk
    → is_some seen.below ≡ not none → none ≡ true
    → is_unopened seen ≡ true
unopened_is seen closed none one two three four = cc (one, two, three, four)
