-- What it comes to that a ledger told lines: one group after another, lines that put no frame on the air, and the
-- lines of the outside.
use Rattle.std.proofs.Common.{◌≡◌, ℕ, ◌+◌, List, [], ◌∷◌, ◌++◌, map, length, None, refl, ap, sym, subst, ◌∙◌, append_assoc}
use Rattle.std.proofs.lemmas.List.Sums.{fold-append}
use Rattle.std.proofs.lemmas.Option.{slice_get-map}
use Rattle.std.specs.Io.KnownBytes.{append_known}
use Rattle.std.specs.List.{slice_get}
use Rattle.std.specs.Option.{option_map}
use Rattle.zb_base.specs.declared.key.Key.{Key}
use Rattle.zb_model.specs.Data.{Bytes, Label, Term}
use Rattle.zb_model.specs.Frames.{aps_term, nwk_header, nwk_term, plain_frame, sealed_command}
use Rattle.zb_model.specs.Lines.{Line, Forge, Send, Inject}
use Rattle.zb_model.specs.Play.{Schedule, Disk, Step, stations, forged_control, forged_net, forged_both, forged_open}
use Rattle.zb_model.specs.Readings.{air, air_line}
use Rattle.zb_model_real.specs.Real.{real}
use Rattle.law_run_steps.specs.Steps.{outside_step}
use Rattle.zb_trace_model.specs.Said.{text_of}
use Rattle.zb_trace_model.proofs.Texts.{text_append}
use Rattle.zb_player_scribe.specs.Kept.{Tells}
use Rattle.zb_player_scribe.specs.Turns.{append_twice}
use Rattle.zb_player_events.specs.Outside.{IsSent}
use Rattle.zb_player_events.specs.Told.{Adds, IsTold}
use Rattle.zb_player_events.specs.declared.ledger.Ledger.{Ledger}

-- the key at a place of the supply
pub drawn : (draws : List Key) (used : ℕ) → option_map (λ (k : Key). k.0) (slice_get draws used)
    ≡ slice_get (map (λ (k : Key). k.0) draws) used
drawn draws used = sym (slice_get-map (λ (k : Key). k.0) draws used)

-- what the scribe told
pub told_adds : (w : Schedule) (h lines : List Line) (old new : Ledger)
    → Tells (stations w) lines old.transcript.scribe old.transcript.page new.transcript.scribe new.transcript.page →
    IsTold w h old → Adds w h lines old new
told_adds w h lines old new tells before = record {
  page = tells.page;
  told = record { known = tells.nodes h before.known; kept = tells.kept h before.known before.kept };
}

-- lines after lines
pub adds_then : (w : Schedule) (h some more : List Line) (old between new : Ledger) → Adds w h some old between
    → Adds w (h ++ some) more between new → Adds w h (some ++ more) old new
adds_then w h some more old between new first second = record {
  page = second.page ∙ ap (λ p. append_known p (text_of (stations w) more)) first.page ∙ append_twice
      old.transcript.page
      (text_of (stations w) some) (text_of (stations w) more)
      ∙ ap (append_known old.transcript.page) (sym (text_append (stations w) some more));
  told = subst (λ (lines : List Line). IsTold w lines new) (append_assoc h some more) second.told;
}

-- the number of the next frame
pub next_number : (w : Schedule) (h : List Line) (k : Ledger) (frame : ℕ) → IsTold w h k → frame
    ≡ length k.transcript.scribe.air + 1 → frame ≡ length (air h) + 1
next_number w h k frame before e = e ∙ ap (λ (frames : List Bytes). length frames + 1) before.kept.air

pub inject_adds : (w : Schedule) (h : List Line) (event frame : ℕ) (bytes items : Bytes) (old new : Ledger)
    → IsTold w h old → frame ≡ length old.transcript.scribe.air + 1 → items ≡ bytes
    → Adds w h (Inject event frame items ∷ []) old new → Adds w h (Inject event (length (air h) + 1) bytes ∷ []) old
    new
inject_adds w h event frame bytes items old new before e same adds =
    subst (λ (line : Line). Adds w h (line ∷ []) old new)
    (ap (λ (n : ℕ). Inject event n items) (next_number w h old frame before e) ∙ ap
    (λ (bs : Bytes). Inject event (length (air h) + 1) bs) same) adds

pub send_adds : (w : Schedule) (h : List Line) (event frame : ℕ) (bytes : Bytes) (old new : Ledger) → IsTold w h old
    → frame ≡ length old.transcript.scribe.air + 1
    → Adds w h (Send event None frame bytes ∷ []) old new → Adds w h (Send event None (length (air h) + 1) bytes ∷ [])
    old new
send_adds w h event frame bytes old new before e adds =
    subst (λ (n : ℕ). Adds w h (Send event None n bytes ∷ []) old new) (next_number w h old frame before e) adds

-- Forged frames

-- A forged term puts no frame on the air.
forged_air : (h : List Line) (event : ℕ) (t : Term) → air (h ++ Forge event t ∷ []) ≡ air h
unfolding air
forged_air h event t = fold-append air_line [] h (Forge event t ∷ [])

-- lines after that of a forged term: their frame has the number that it would have had before
behind_forged : (w : Schedule) (h : List Line) (event : ℕ) (t : Term) (lines : List Bytes → List Line)
    (old between new : Ledger) → Adds w h (Forge event t ∷ []) old between
    → Adds w (h ++ Forge event t ∷ []) (lines (air (h ++ Forge event t ∷ []))) between new
    → Adds w h (Forge event t ∷ lines (air h)) old new
behind_forged w h event t lines old between new first second =
    adds_then w h (Forge event t ∷ []) (lines (air h)) old between new first
    (subst (λ (frames : List Bytes). Adds w (h ++ Forge event t ∷ []) (lines frames) between new)
    (forged_air h event t) second)

-- the line of a frame with these bytes is told, whatever the lines before it
abbrev pub Sending : Schedule → ℕ → Bytes → Ledger → Ledger → Type 0
Sending w event bytes old new = (h : List Line) → IsTold w h old
    → Adds w h (Send event None (length (air h) + 1) bytes ∷ []) old new

-- and that of a forged term
abbrev pub Forging : Schedule → ℕ → Term → Ledger → Ledger → Type 0
Forging w event t old new = (h : List Line) → IsTold w h old → Adds w h (Forge event t ∷ []) old new

one_forged : (w : Schedule) (h : List Line) (event : ℕ) (t : Term) (bytes : Bytes) (old between new : Ledger)
    → IsTold w h old → Forging w event t old between → Sending w event bytes between new
    → Adds w h (Forge event t ∷ Send event None (length (air h) + 1) bytes ∷ []) old new
one_forged w h event t bytes old between new before forging sending =
    behind_forged w h event t (λ (frames : List Bytes). Send event None (length frames + 1) bytes ∷ []) old between
    new (forging h before) (sending (h ++ Forge event t ∷ []) (forging h before).told)

pub net_adds : (w : Schedule) (h : List Line) (event : ℕ) (t : Term) (bytes : Bytes) (old between new : Ledger)
    → IsTold w h old → bytes ≡ real.wire t → Forging w event t old between
    → Sending w event bytes between new → Adds w h (forged_net real h event t) old new
unfolding forged_net
net_adds w h event t bytes old between new before e forging sending =
    subst (λ (bs : Bytes). Adds w h (Forge event t ∷ Send event None (length (air h) + 1) bs ∷ []) old new) e
    (one_forged w h event t bytes old between new before forging sending)

pub both_adds : (w : Schedule) (h : List Line) (event : ℕ) (inner t : Term) (bytes : Bytes)
    (old between middle new : Ledger) → IsTold w h old → bytes ≡ real.wire t
    → Forging w event inner old between → Forging w event t between middle → Sending w event bytes middle new
    → Adds w h (forged_both real h event inner t) old new
unfolding forged_both
both_adds w h event inner t bytes old between middle new before e first second sending =
    subst (λ (bs : Bytes). Adds w h (Forge event inner ∷ Forge event t ∷ Send event None (length (air h) + 1) bs ∷ [])
    old new) e
    (behind_forged w h event inner (λ (frames : List Bytes). Forge event t ∷ Send event None (length frames + 1) bytes
    ∷ []) old between new (first h before)
    (one_forged w (h ++ Forge event inner ∷ []) event t bytes between middle new (first h before).told second sending))

pub open_adds : (w : Schedule) (h : List Line) (event to from : ℕ) (inner : Term) (bytes part items : Bytes)
    (old between new : Ledger) → IsTold w h old
    → bytes ≡ nwk_header plain_frame to from 0 ++ part → part ≡ items → items ≡ real.wire inner
    → Forging w event inner old between → Sending w event bytes between new
    → Adds w h (forged_open real h event to from inner) old new
unfolding forged_open
open_adds w h event to from inner bytes part items old between new before e f g forging sending =
    subst (λ (bs : Bytes). Adds w h (Forge event inner ∷ Send event None (length (air h) + 1) bs ∷ []) old new)
    (e ∙ ap (λ (p : Bytes). nwk_header plain_frame to from 0 ++ p) (f ∙ g))
    (one_forged w h event inner bytes old between new before forging sending)

-- Events of the outside

pub is_sent : (w : Schedule) (h : List Line) (ds : List Disk) (g : Step) (lines : List Line) (old new : Ledger) → g
    ≡ outside_step ds lines → Adds w h lines old new → IsSent w h ds g old new
is_sent w h ds g lines old new e adds = subst (λ (step : Step). IsSent w h ds step old new) (sym e)
    (record { adds = adds; disks = refl })

pub net_term : (control to from source sequence counter : ℕ) (key content slice again : Bytes) (t : Term) → t
    ≡ nwk_term control to from source key sequence counter again
    → control ≡ forged_control real slice → slice ≡ content → again ≡ content → t
    ≡ nwk_term (forged_control real content) to from source key sequence counter content
net_term control to from source sequence counter key content slice again t e f g i =
    e ∙ ap (λ (k : ℕ). nwk_term k to from source key sequence counter again)
    (f ∙ ap (λ (bs : Bytes). forged_control real bs) g)
    ∙ ap (λ (bs : Bytes). nwk_term (forged_control real content) to from source key sequence counter bs) i

pub inner_term : (label : Label) (base : Bytes) (source counter : ℕ) (command slice : Bytes) (t : Term) → t
    ≡ aps_term sealed_command label base source counter slice → slice ≡ command
    → t ≡ aps_term sealed_command label base source counter command
inner_term label base source counter command slice t e f =
    e ∙ ap (λ (bs : Bytes). aps_term sealed_command label base source counter bs) f

pub outer_term : (control to from source sequence counter : ℕ) (key slice items : Bytes) (inner t : Term) → t
    ≡ nwk_term control to from source key sequence counter slice → slice ≡ items
    → items ≡ real.wire inner → t ≡ nwk_term control to from source key sequence counter (real.wire inner)
outer_term control to from source sequence counter key slice items inner t e f g =
    e ∙ ap (λ (bs : Bytes). nwk_term control to from source key sequence counter bs) (f ∙ g)
