-- The laws of the exchange, each of one event.
use Rattle.std.proofs.Common.{◌≡◌, ℕ, true, false, length, Option, Some, None, find, reverse, sym, ap, ◌∙◌}
use Rattle.zb_model.specs.Data.{Bytes, Reason, DoTimer, Received}
use Rattle.zb_model.specs.Fits.{keeps_rules}
use Rattle.zb_model.specs.State.{NetKey, LinkKey, NodeState, is_live_of, has_link, usable_of, current}
use Rattle.zb_model.specs.Tools.{Tools}
use Rattle.zb_model.specs.Rules.{Setting}
use Rattle.zb_model.specs.Answer.{answer}
use Rattle.law_recovery.specs.Answering.{after_task, frame_of}
use Rattle.law_recovery.specs.CommandFrames.{DeliversCommands}
use Rattle.law_recovery.specs.Exchanging.{Seals, Offers, Confirms, request_bytes, offer_bytes, proof_bytes, confirmation_bytes, StationsInRange, NwkInRange, ApsInRange}
use Rattle.law_recovery.specs.Meeting.{AreDeclared, HasNetwork, HasLink, HasOffer, IsJoined, IsOffered, IsConfirmed}
use Rattle.law_recovery.specs.Obstacles.{or_else, in_row, why_not_heard, why_not_opened, why_not_kept, why_not_sealed, why_not_offered, why_no_offer, why_offer_not_kept, why_no_confirmation, why_not_confirmed}
use Rattle.law_recovery.proofs.Requesting as requesting
use Rattle.law_recovery.proofs.Offering as offering
use Rattle.law_recovery.proofs.Proving as proving
use Rattle.law_recovery.proofs.Confirming as confirming

pub found_net : (s : NodeState) (k : Seals) (source : ℕ) (row : NetKey) → usable_of s k.sequence ≡ Some row
    → in_row (usable_of s k.sequence) (λ row. why_not_heard row source k.nwk) ≡ why_not_heard row source k.nwk
found_net s k source row e = ap (λ o. in_row o (λ row. why_not_heard row source k.nwk)) e

pub found_link : (o : Option LinkKey) (row : LinkKey) (counter : ℕ) → o ≡ Some row
    → in_row o (λ row. why_not_opened row counter) ≡ why_not_opened row counter
found_link o row counter e = ap (λ o. in_row o (λ row. why_not_opened row counter)) e

pub three : (a b c d e : Option Reason) → a ≡ b → c ≡ d → or_else a (or_else c e) ≡ or_else b (or_else d e)
three a b c d e f g = ap (λ x. or_else x (or_else c e)) f ∙ ap (λ x. or_else b (or_else x e)) g

pub asks_again : (tools : Tools) (c m : Setting) (t : NodeState) (key : Bytes) (sequence : ℕ) (link : Bytes)
    → AreDeclared c m → IsJoined t c.me.eui key sequence link → IsJoined (after_task tools m t DoTimer) c.me.eui key
    sequence link
asks_again tools c m t key sequence link d j = requesting.still_joined t (after_task tools m t DoTimer) c.me.eui key
    sequence link j (requesting.request_bare tools c m t key sequence link d j)

pub no_offer : (s : NodeState) (device : ℕ) (k : Seals) (draw : Option Bytes) (h : HasNetwork s k.key k.sequence)
    (l : HasLink s device k.link) → why_no_offer s device k draw
    ≡ or_else (why_not_heard h.found device k.nwk) (or_else (why_not_opened l.row k.aps) (why_not_offered s draw))
unfolding why_no_offer
no_offer s device k draw h l =
    three (in_row (usable_of s k.sequence) (λ row. why_not_heard row device k.nwk))
    (why_not_heard h.found device k.nwk) (in_row (current s device) (λ row. why_not_opened row k.aps))
    (why_not_opened l.row k.aps) (why_not_offered s draw)
    (found_net s k device h.found h.is_found) (found_link (current s device) l.row k.aps l.is_current)

pub offer_refused : (tools : Tools) → DeliversCommands tools
    → (c m : Setting) (s : NodeState) (k : Seals) (draw : Option Bytes) → AreDeclared c m → StationsInRange c m
    → NwkInRange k → ApsInRange k → keeps_rules s ≡ true → HasNetwork s k.key k.sequence → HasLink s m.me.eui k.link
    → (answer tools c s (Received (request_bytes tools c m k) draw)).refusal ≡ why_no_offer s m.me.eui k draw
offer_refused tools delivers c m s k draw d st rn ra rules h l = requesting.offer_refused tools delivers c m s k draw
    d st rn ra rules h l ∙ sym (no_offer s m.me.eui k draw h l)

pub offers : (tools : Tools) → DeliversCommands tools
    → (c m : Setting) (s : NodeState) (k : Seals) (draw : Option Bytes) → AreDeclared c m → StationsInRange c m
    → NwkInRange k → ApsInRange k → keeps_rules s ≡ true → HasNetwork s k.key k.sequence → HasLink s m.me.eui k.link
    → why_no_offer s m.me.eui k draw ≡ None
    → Offers tools c m s (after_task tools c s (Received (request_bytes tools c m k) draw)) k draw
    (frame_of tools c s (Received (request_bytes tools c m k) draw))
offers tools delivers c m s k draw d st rn ra rules h l none = requesting.is_offering tools delivers c m s k draw d st
    rn ra rules h l (sym (no_offer s m.me.eui k draw h l) ∙ none)

pub not_kept : (t : NodeState) (centre : ℕ) (k : Seals) (key : Bytes) (j : IsJoined t centre k.key k.sequence k.link)
    → why_offer_not_kept t centre k key ≡ or_else (why_not_heard j.network.found centre k.nwk)
    (or_else (why_not_opened j.keys.row k.aps) (why_not_kept t centre key))
unfolding why_offer_not_kept
not_kept t centre k key j =
    three (in_row (usable_of t k.sequence) (λ row. why_not_heard row centre k.nwk))
    (why_not_heard j.network.found centre k.nwk) (in_row (current t centre) (λ row. why_not_opened row k.aps))
    (why_not_opened j.keys.row k.aps) (why_not_kept t centre key)
    (found_net t k centre j.network.found j.network.is_found)
    (found_link (current t centre) j.keys.row k.aps j.keys.is_current)

pub keep_refused : (tools : Tools) → DeliversCommands tools
    → (c m : Setting) (t : NodeState) (k : Seals) (key : Bytes) (draw : Option Bytes) → AreDeclared c m
    → StationsInRange c m → NwkInRange k → ApsInRange k → length key ≡ 16 → keeps_rules t ≡ true
    → IsJoined t c.me.eui k.key k.sequence k.link → has_link c.me.eui key t.links ≡ false
    → (answer tools m t (Received (offer_bytes tools c m k key) draw)).refusal
    ≡ why_offer_not_kept t c.me.eui k key
keep_refused tools delivers c m t k key draw d st rn ra long rules j fresh = offering.keep_refused tools delivers c m
    t k key draw d st rn ra long rules j fresh ∙ sym (not_kept t c.me.eui k key j)

pub keeps : (tools : Tools) → DeliversCommands tools → (c m : Setting) (t : NodeState) (k : Seals) (key : Bytes)
    (draw : Option Bytes) → AreDeclared c m → StationsInRange c m → NwkInRange k → ApsInRange k → length key ≡ 16
    → keeps_rules t ≡ true
    → IsJoined t c.me.eui k.key k.sequence k.link → has_link c.me.eui key t.links ≡ false
    → why_offer_not_kept t c.me.eui k key ≡ None
    → IsOffered (after_task tools m t (Received (offer_bytes tools c m k key) draw)) c.me.eui k.key k.sequence key
keeps tools delivers c m t k key draw d st rn ra long rules j fresh none = offering.is_offered tools delivers c m t k
    key draw d st rn ra long rules j fresh (sym (not_kept t c.me.eui k key j) ∙ none)

pub keeps_silently : (tools : Tools) → DeliversCommands tools
    → (c m : Setting) (t : NodeState) (k : Seals) (key : Bytes) (draw : Option Bytes) → AreDeclared c m
    → StationsInRange c m → NwkInRange k → ApsInRange k → length key ≡ 16 → keeps_rules t ≡ true
    → IsJoined t c.me.eui k.key k.sequence k.link → has_link c.me.eui key t.links ≡ false
    → why_offer_not_kept t c.me.eui k key ≡ None
    → frame_of tools m t (Received (offer_bytes tools c m k key) draw) ≡ None
keeps_silently tools delivers c m t k key draw d st rn ra long rules j fresh none =
    offering.keeps_silently tools delivers c m t k key draw d st rn ra long rules j fresh
    (sym (not_kept t c.me.eui k key j) ∙ none)

pub shows_again : (tools : Tools) (c m : Setting) (t : NodeState) (key : Bytes) (sequence : ℕ) (link : Bytes)
    → AreDeclared c m → IsOffered t c.me.eui key sequence link → IsOffered (after_task tools m t DoTimer) c.me.eui key
    sequence link
shows_again tools c m t key sequence link d j = proving.still_offered t (after_task tools m t DoTimer) c.me.eui key
    sequence link j (proving.proof_bare tools c m t key sequence link d j)

pub no_confirmation : (s : NodeState) (device : ℕ) (k : Seals) (h : HasNetwork s k.key k.sequence)
    → why_no_confirmation s device k ≡ or_else (why_not_heard h.found device k.nwk) (why_not_sealed s)
unfolding why_no_confirmation
no_confirmation s device k h = ap (λ o. or_else o (why_not_sealed s)) (found_net s k device h.found h.is_found)

pub confirm_refused : (tools : Tools) → DeliversCommands tools
    → (c m : Setting) (s : NodeState) (k : Seals) (draw : Option Bytes) → AreDeclared c m → StationsInRange c m
    → NwkInRange k → HasNetwork s k.key k.sequence → HasOffer s m.me.eui k.link
    → (answer tools c s (Received (proof_bytes tools c m k) draw)).refusal ≡ why_no_confirmation s m.me.eui k
confirm_refused tools delivers c m s k draw d st rn h o = proving.confirm_refused tools delivers c m s k draw d st rn
    h o ∙ sym (no_confirmation s m.me.eui k h)

pub confirms : (tools : Tools) → DeliversCommands tools
    → (c m : Setting) (s : NodeState) (k : Seals) (draw : Option Bytes) → AreDeclared c m → StationsInRange c m
    → NwkInRange k → keeps_rules s ≡ true → HasNetwork s k.key k.sequence → HasOffer s m.me.eui k.link
    → why_no_confirmation s m.me.eui k ≡ None
    → Confirms tools c m s (after_task tools c s (Received (proof_bytes tools c m k) draw)) k
    (frame_of tools c s (Received (proof_bytes tools c m k) draw))
confirms tools delivers c m s k draw d st rn rules h o none = proving.is_proved tools delivers c m s k draw d st rn
    rules h o (sym (no_confirmation s m.me.eui k h) ∙ none)

not_confirmed : (t : NodeState) (centre : ℕ) (k : Seals) (j : IsOffered t centre k.key k.sequence k.link)
    → why_not_confirmed t centre k ≡ or_else (why_not_heard j.network.found centre k.nwk)
    (why_not_opened j.tried k.aps)
unfolding why_not_confirmed
not_confirmed t centre k j =
    ap (λ o. or_else o (in_row (find (is_live_of centre) (reverse t.links)) (λ row. why_not_opened row k.aps)))
    (found_net t k centre j.network.found j.network.is_found)
    ∙ ap (or_else (why_not_heard j.network.found centre k.nwk))
    (found_link (find (is_live_of centre) (reverse t.links)) j.tried k.aps j.tried_first)

pub end_refused : (tools : Tools) → DeliversCommands tools
    → (c m : Setting) (t : NodeState) (k : Seals) (draw : Option Bytes) → AreDeclared c m → StationsInRange c m
    → NwkInRange k → ApsInRange k → IsOffered t c.me.eui k.key k.sequence k.link
    → (answer tools m t (Received (confirmation_bytes tools c m k) draw)).refusal ≡ why_not_confirmed t c.me.eui k
end_refused tools delivers c m t k draw d st rn ra j = confirming.confirm_refused tools delivers c m t k draw d st rn
    ra j ∙ sym (not_confirmed t c.me.eui k j)

pub ends : (tools : Tools) → DeliversCommands tools
    → (c m : Setting) (t : NodeState) (k : Seals) (draw : Option Bytes) → AreDeclared c m → StationsInRange c m
    → NwkInRange k → ApsInRange k → keeps_rules t ≡ true → IsOffered t c.me.eui k.key k.sequence k.link
    → why_not_confirmed t c.me.eui k ≡ None
    → IsConfirmed (after_task tools m t (Received (confirmation_bytes tools c m k) draw)) c.me.eui k.key k.sequence
    k.link
ends tools delivers c m t k draw d st rn ra rules j none = confirming.is_confirmed tools delivers c m t k draw d st rn
    ra rules j (sym (not_confirmed t c.me.eui k j) ∙ none)
