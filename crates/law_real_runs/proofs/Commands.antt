-- A spelled command reads as one with its own key, or with none.
use Rattle.std.proofs.Common.{◌≡◌, ℕ, ◌+◌, Bool, true, false, cond, List, [], ◌∷◌, ◌++◌, length, take, drop, Some, None, nat_lt, Result, Ok, Err, refl, sym, ap, ◌∙◌, arith, append_assoc, length-append, ltb-false, eqb-true}
use Rattle.std.specs.Prelude.{◌==◌}
use Rattle.std.specs.Int.{w64, from_le_bytes}
use Rattle.std.proofs.lemmas.List.{take_at, length-drop}
use Rattle.arrayvec.specs.ArrayVec.{ArrayVec}
use Rattle.zb_base.specs.declared.address.Eui.{Eui}
use Rattle.zb_base.specs.declared.address.Short.{Short}
use Rattle.zb_base.specs.declared.key.Key.{Key}
use Rattle.zb_cmd.specs.Reading.{network_at, application_at, link_at, transport_of, transport_at, update_at, remove_at, partner_at, request_of, request_at, switch_at, inner_at, tunnel_at, verify_at, confirm_at, body_of, command_at, whole, command_of}
use Rattle.zb_cmd.specs.Spelling.{command}
use Rattle.zb_cmd.specs.declared.command.Command.{Command}
use Rattle.zb_cmd.specs.declared.command.Command.TheVariants.{TransportNetwork, TransportApplication, TransportLink, Update, Remove, RequestApplication, Switch, Tunnel, Verify, Confirm}
use Rattle.zb_cmd.specs.declared.fault.CmdError.{CmdError}
use Rattle.zb_cmd.specs.declared.fault.CmdError.TheVariants as fault
use Rattle.zb_cursor.specs.Reading.{follow, byte_at, bytes_at, number_at, short_at, eui_at, key_at}
use Rattle.zb_cursor.specs.Spelling.{eui}
use Rattle.zb_model.specs.Data as model
use Rattle.zb_model.specs.Data.{Bytes}
use Rattle.zb_model.specs.Secrets.{key_in, key_shown}
use Rattle.zb_model_real.specs.Real.{command_for}
use Rattle.zb_model_real.specs.Terms.{eui_of, key_of}
use Rattle.zb_model_real.specs.Readers.{model_command, command_shown}
use Rattle.law_real_runs.proofs.Keys.{none-is, some-same, Reads, follow-reads, Any, any-reads}

abbrev F : Type 0
F = CmdError

-- Commands without a key

abbrev NoKey : Command → Type 0
NoKey c = key_in (model_command c) ≡ None

abbrev Keyless : Result (Command × List ℕ) F → Type 0
Keyless r = Reads F Command NoKey r

then-keyless : (A : Type 0) (o : Result (A × List ℕ) F) (next : A → List ℕ → Result (Command × List ℕ) F)
    → ((x : A) (rest : List ℕ) → Keyless (next x rest)) → Keyless (follow o next)
then-keyless A o next k = follow-reads F A Command (Any A) NoKey o next (any-reads F A o) (λ x r p. k x r)

update-keyless : (cut : F) (bytes : List ℕ) → Keyless (update_at cut bytes)
unfolding update_at
update-keyless cut bytes =
    then-keyless Eui (eui_at cut bytes)
    (λ d r. follow (short_at cut r) (λ a r. follow (byte_at cut r) (λ s r. Ok (Update d a s, r)))) (λ d r.
    then-keyless Short (short_at cut r) (λ a r. follow (byte_at cut r) (λ s r. Ok (Update d a s, r))) (λ a r.
    then-keyless ℕ (byte_at cut r) (λ s r. Ok (Update d a s, r)) (λ s r. refl)))

remove-keyless : (cut : F) (bytes : List ℕ) → Keyless (remove_at cut bytes)
unfolding remove_at
remove-keyless cut bytes = then-keyless Eui (eui_at cut bytes) (λ t r. Ok (Remove t, r)) (λ t r. refl)

partner-keyless : (cut : F) (bytes : List ℕ) → Keyless (partner_at cut bytes)
unfolding partner_at
partner-keyless cut bytes = then-keyless Eui (eui_at cut bytes) (λ p r. Ok (RequestApplication p, r)) (λ p r. refl)

switch-keyless : (cut : F) (bytes : List ℕ) → Keyless (switch_at cut bytes)
unfolding switch_at
switch-keyless cut bytes = then-keyless ℕ (byte_at cut bytes) (λ q r. Ok (Switch q, r)) (λ q r. refl)

tunnel-keyless : (cut : F) (bytes : List ℕ) → Keyless (tunnel_at cut bytes)
unfolding tunnel_at
tunnel-keyless cut bytes =
    then-keyless Eui (eui_at cut bytes) (λ d r. follow (inner_at cut r) (λ i r. Ok (Tunnel d i, r))) (λ d r.
    then-keyless (ArrayVec ℕ) (inner_at cut r) (λ i r. Ok (Tunnel d i, r)) (λ i r. refl))

verify-keyless : (cut : F) (bytes : List ℕ) → Keyless (verify_at cut bytes)
unfolding verify_at
verify-keyless cut bytes =
    then-keyless ℕ (byte_at cut bytes)
    (λ k r. follow (eui_at cut r) (λ s r. follow (bytes_at 16 cut r) (λ h r. Ok (Verify k s h, r)))) (λ k r.
    then-keyless Eui (eui_at cut r) (λ s r. follow (bytes_at 16 cut r) (λ h r. Ok (Verify k s h, r))) (λ s r.
    then-keyless (List ℕ) (bytes_at 16 cut r) (λ h r. Ok (Verify k s h, r)) (λ h r. refl)))

confirm-keyless : (cut : F) (bytes : List ℕ) → Keyless (confirm_at cut bytes)
unfolding confirm_at
confirm-keyless cut bytes =
    then-keyless ℕ (byte_at cut bytes)
    (λ s r. follow (byte_at cut r) (λ k r. follow (eui_at cut r) (λ d r. Ok (Confirm s k d, r)))) (λ s r.
    then-keyless ℕ (byte_at cut r) (λ k r. follow (eui_at cut r) (λ d r. Ok (Confirm s k d, r))) (λ k r.
    then-keyless Eui (eui_at cut r) (λ d r. Ok (Confirm s k d, r)) (λ d r. refl)))

error-keyless : (e : F) → key_shown (command_shown (Err e)) ≡ None
error-keyless (fault.Unknown id) = refl
error-keyless (fault.KeyType found) = refl
error-keyless (fault.Short len) = refl
error-keyless (fault.Trailing len) = refl

ended-keyless : (c : Command) (left : ℕ) (b : Bool) → NoKey c
    → key_shown (command_shown (cond b (Ok c) (Err (fault.Trailing left)))) ≡ None
ended-keyless c left true n = n
ended-keyless c left false n = refl

whole-keyless : (r : Result (Command × List ℕ) F) → Keyless r → key_shown (command_shown (whole r)) ≡ None
whole-keyless (Err e) n = error-keyless e
whole-keyless (Ok x) n = ended-keyless x.0 (length x.1) (length x.1 == 0) n

-- Lengths

abbrev LenOf : (A : Type 0) → ℕ → List ℕ → Result (A × List ℕ) F → Type 0
LenOf A n bytes (Ok x) = length bytes ≡ n + length x.1
LenOf A n bytes (Err e) = Unit {0}

longer : (B : Type 0) (n m : ℕ) (bytes mid : List ℕ) (r : Result (B × List ℕ) F) → length bytes ≡ n + length mid
    → LenOf B m mid r → LenOf B (n + m) bytes r
longer B n m bytes mid (Err e) p q = tt
longer B n m bytes mid (Ok x) p q = omega (arith, p, q)

then-len : (A B : Type 0) (n m : ℕ) (bytes : List ℕ) (o : Result (A × List ℕ) F)
    (next : A → List ℕ → Result (B × List ℕ) F) → LenOf A n bytes o
    → ((x : A) (rest : List ℕ) → LenOf B m rest (next x rest)) → LenOf B (n + m) bytes (follow o next)
then-len A B n m bytes (Err e) next p k = tt
then-len A B n m bytes (Ok x) next p k = longer B n m bytes x.1 (next x.0 x.1) p (k x.0 x.1)

byte-len : (cut : F) (bytes : List ℕ) → LenOf ℕ 1 bytes (byte_at cut bytes)
byte-len cut [] = tt
byte-len cut (b ∷ bytes) = omega arith

piece-len : (A : Type 0) (f : List ℕ → A) (n : ℕ) (cut : F) (bytes : List ℕ) (b : Bool) → nat_lt (length bytes) n ≡ b
    → LenOf A n bytes (cond {A = Result (A × List ℕ) F} b (Err cut) (Ok (f (take n bytes), drop n bytes)))
piece-len A f n cut bytes true e = tt
piece-len A f n cut bytes false e = omega (arith, length-drop n bytes, ltb-false (length bytes) n e)

same : List ℕ → List ℕ
same xs = xs

record-len : (A B : Type 0) (n : ℕ) (bytes : List ℕ) (f : A → B) (o : Result (A × List ℕ) F) → LenOf A n bytes o
    → LenOf B n bytes (follow o (λ x rest. Ok (f x, rest)))
record-len A B n bytes f (Err e) p = tt
record-len A B n bytes f (Ok x) p = p

key-len : (cut : F) (bytes : List ℕ) → LenOf Key 16 bytes (key_at cut bytes)
unfolding key_at bytes_at same
key-len cut bytes = record-len (List ℕ) Key 16 bytes key_of (bytes_at 16 cut bytes)
    (piece-len (List ℕ) same 16 cut bytes (nat_lt (length bytes) 16) refl)

eui-len : (cut : F) (bytes : List ℕ) → LenOf Eui 8 bytes (eui_at cut bytes)
unfolding eui_at number_at
eui-len cut bytes = record-len ℕ Eui 8 bytes eui_of (number_at w64 cut bytes)
    (piece-len ℕ (from_le_bytes w64) 8 cut bytes (nat_lt (length bytes) 8) refl)

ended-len : (c : Command) (r : List ℕ) → LenOf Command 0 r (Ok (c, r))
ended-len c r = omega arith

network-len : (cut : F) (bytes : List ℕ) → LenOf Command 33 bytes (network_at cut bytes)
unfolding network_at
network-len cut bytes =
    then-len Key Command 16 17 bytes (key_at cut bytes)
    (λ k r. follow (byte_at cut r)
    (λ q r. follow (eui_at cut r) (λ d r. follow (eui_at cut r) (λ s r. Ok (TransportNetwork k q d s, r)))))
    (key-len cut bytes) (λ k r.
    then-len ℕ Command 1 16 r (byte_at cut r)
    (λ q r. follow (eui_at cut r) (λ d r. follow (eui_at cut r) (λ s r. Ok (TransportNetwork k q d s, r))))
    (byte-len cut r) (λ q r.
    then-len Eui Command 8 8 r (eui_at cut r) (λ d r. follow (eui_at cut r) (λ s r. Ok (TransportNetwork k q d s, r)))
    (eui-len cut r) (λ d r.
    then-len Eui Command 8 0 r (eui_at cut r) (λ s r. Ok (TransportNetwork k q d s, r)) (eui-len cut r)
    (λ s r. ended-len (TransportNetwork k q d s) r))))

application-len : (cut : F) (bytes : List ℕ) → LenOf Command 25 bytes (application_at cut bytes)
unfolding application_at
application-len cut bytes =
    then-len Key Command 16 9 bytes (key_at cut bytes)
    (λ k r. follow (eui_at cut r) (λ p r. follow (byte_at cut r) (λ i r. Ok (TransportApplication k p i, r))))
    (key-len cut bytes) (λ k r.
    then-len Eui Command 8 1 r (eui_at cut r)
    (λ p r. follow (byte_at cut r) (λ i r. Ok (TransportApplication k p i, r))) (eui-len cut r) (λ p r.
    then-len ℕ Command 1 0 r (byte_at cut r) (λ i r. Ok (TransportApplication k p i, r)) (byte-len cut r)
    (λ i r. ended-len (TransportApplication k p i) r)))

link-len : (cut : F) (bytes : List ℕ) → LenOf Command 32 bytes (link_at cut bytes)
unfolding link_at
link-len cut bytes =
    then-len Key Command 16 16 bytes (key_at cut bytes)
    (λ k r. follow (eui_at cut r) (λ d r. follow (eui_at cut r) (λ s r. Ok (TransportLink k d s, r))))
    (key-len cut bytes) (λ k r.
    then-len Eui Command 8 8 r (eui_at cut r) (λ d r. follow (eui_at cut r) (λ s r. Ok (TransportLink k d s, r)))
    (eui-len cut r) (λ d r.
    then-len Eui Command 8 0 r (eui_at cut r) (λ s r. Ok (TransportLink k d s, r)) (eui-len cut r)
    (λ s r. ended-len (TransportLink k d s) r)))

-- The key is the first 16 bytes

abbrev First : List ℕ → Command → Type 0
First bytes c = key_in (model_command c) ≡ Some (take 16 bytes)

key-by : (cut : F) (bytes : List ℕ) (b : Bool)
    → Reads F Key (λ k. k.0 ≡ take 16 bytes)
    (follow (cond {A = Result (List ℕ × List ℕ) F} b (Err cut) (Ok (take 16 bytes, drop 16 bytes)))
    (λ xs rest. Ok (record { 0 = xs }, rest)))
key-by cut bytes true = tt
key-by cut bytes false = refl

key-reads : (cut : F) (bytes : List ℕ) → Reads F Key (λ k. k.0 ≡ take 16 bytes) (key_at cut bytes)
unfolding key_at bytes_at
key-reads cut bytes = key-by cut bytes (nat_lt (length bytes) 16)

then-first : (A : Type 0) (X : List ℕ) (o : Result (A × List ℕ) F) (next : A → List ℕ → Result (Command × List ℕ) F)
    → ((x : A) (rest : List ℕ) → Reads F Command (First X) (next x rest)) → Reads F Command (First X) (follow o next)
then-first A X o next k = follow-reads F A Command (Any A) (First X) o next (any-reads F A o) (λ x r p. k x r)

network-first : (cut : F) (X : List ℕ) → Reads F Command (First X) (network_at cut X)
unfolding network_at
network-first cut X =
    follow-reads F Key Command (λ k. k.0 ≡ take 16 X) (First X) (key_at cut X)
    (λ k r. follow (byte_at cut r)
    (λ q r. follow (eui_at cut r) (λ d r. follow (eui_at cut r) (λ s r. Ok (TransportNetwork k q d s, r)))))
    (key-reads cut X) (λ k r e.
    then-first ℕ X (byte_at cut r)
    (λ q r. follow (eui_at cut r) (λ d r. follow (eui_at cut r) (λ s r. Ok (TransportNetwork k q d s, r)))) (λ q r.
    then-first Eui X (eui_at cut r) (λ d r. follow (eui_at cut r) (λ s r. Ok (TransportNetwork k q d s, r))) (λ d r.
    then-first Eui X (eui_at cut r) (λ s r. Ok (TransportNetwork k q d s, r)) (λ s r. ap Some e))))

application-first : (cut : F) (X : List ℕ) → Reads F Command (First X) (application_at cut X)
unfolding application_at
application-first cut X =
    follow-reads F Key Command (λ k. k.0 ≡ take 16 X) (First X) (key_at cut X)
    (λ k r. follow (eui_at cut r) (λ p r. follow (byte_at cut r) (λ i r. Ok (TransportApplication k p i, r))))
    (key-reads cut X) (λ k r e.
    then-first Eui X (eui_at cut r) (λ p r. follow (byte_at cut r) (λ i r. Ok (TransportApplication k p i, r))) (λ p r.
    then-first ℕ X (byte_at cut r) (λ i r. Ok (TransportApplication k p i, r)) (λ i r. ap Some e)))

link-first : (cut : F) (X : List ℕ) → Reads F Command (First X) (link_at cut X)
unfolding link_at
link-first cut X =
    follow-reads F Key Command (λ k. k.0 ≡ take 16 X) (First X) (key_at cut X)
    (λ k r. follow (eui_at cut r) (λ d r. follow (eui_at cut r) (λ s r. Ok (TransportLink k d s, r))))
    (key-reads cut X) (λ k r e.
    then-first Eui X (eui_at cut r) (λ d r. follow (eui_at cut r) (λ s r. Ok (TransportLink k d s, r))) (λ d r.
    then-first Eui X (eui_at cut r) (λ s r. Ok (TransportLink k d s, r)) (λ s r. ap Some e)))

-- a key that is read: nothing is left, and it is the first 16 bytes
by-end : (n : ℕ) (X : List ℕ) (c : Command) (rest : List ℕ) (k : Bytes) (b : Bool) → (length rest == 0) ≡ b
    → First X c → length X ≡ n + length rest
    → key_shown (command_shown (cond b (Ok c) (Err (fault.Trailing (length rest))))) ≡ Some k → (length X ≡ n)
    × (take 16 X ≡ k)
by-end n X c rest k true q f l e =
    (omega (arith, l, eqb-true (length rest) 0 q), some-same Bytes (take 16 X) k (sym f ∙ e))
by-end n X c rest k false q f l e = absurd (none-is Bytes k e)

own-key : (n : ℕ) (X : List ℕ) (r : Result (Command × List ℕ) F) (k : Bytes) → Reads F Command (First X) r
    → LenOf Command n X r → key_shown (command_shown (whole r)) ≡ Some k → (length X ≡ n) × (take 16 X ≡ k)
own-key n X (Err x) k f l e = absurd (none-is Bytes k (sym (error-keyless x) ∙ e))
own-key n X (Ok x) k f l e = by-end n X x.0 x.1 k (length x.1 == 0) refl f l e

abbrev cut_of : List ℕ → F
cut_of bytes = fault.Short (length bytes)

net-key : (X : List ℕ) (k : Bytes) → key_shown (command_shown (command_of (5 ∷ 1 ∷ X))) ≡ Some k → (length X ≡ 33)
    × (take 16 X ≡ k)
unfolding command_of command_at body_of transport_at transport_of
net-key X k e = own-key 33 X (network_at (cut_of (5 ∷ 1 ∷ X)) X) k (network-first (cut_of (5 ∷ 1 ∷ X)) X)
    (network-len (cut_of (5 ∷ 1 ∷ X)) X) e

app-key : (X : List ℕ) (k : Bytes) → key_shown (command_shown (command_of (5 ∷ 3 ∷ X))) ≡ Some k → (length X ≡ 25)
    × (take 16 X ≡ k)
unfolding command_of command_at body_of transport_at transport_of
app-key X k e = own-key 25 X (application_at (cut_of (5 ∷ 3 ∷ X)) X) k (application-first (cut_of (5 ∷ 3 ∷ X)) X)
    (application-len (cut_of (5 ∷ 3 ∷ X)) X) e

link-key : (X : List ℕ) (k : Bytes) → key_shown (command_shown (command_of (5 ∷ 4 ∷ X))) ≡ Some k → (length X ≡ 32)
    × (take 16 X ≡ k)
unfolding command_of command_at body_of transport_at transport_of
link-key X k e = own-key 32 X (link_at (cut_of (5 ∷ 4 ∷ X)) X) k (link-first (cut_of (5 ∷ 4 ∷ X)) X)
    (link-len (cut_of (5 ∷ 4 ∷ X)) X) e

-- a key before a text whose length is known
front : (key tail : Bytes) (n : ℕ) (k : Bytes) → length tail ≡ n → length (key ++ tail) ≡ 16 + n
    → take 16 (key ++ tail) ≡ k → Some key ≡ Some k
front key tail n k l e t = ap Some (sym (take_at key tail 16 (omega (arith, l, e, length-append key tail))) ∙ t)

update-none : (X : List ℕ) → key_shown (command_shown (command_of (6 ∷ X))) ≡ None
unfolding command_of command_at body_of
update-none X = whole-keyless (update_at (cut_of (6 ∷ X)) X) (update-keyless (cut_of (6 ∷ X)) X)

remove-none : (X : List ℕ) → key_shown (command_shown (command_of (7 ∷ X))) ≡ None
unfolding command_of command_at body_of
remove-none X = whole-keyless (remove_at (cut_of (7 ∷ X)) X) (remove-keyless (cut_of (7 ∷ X)) X)

partner-none : (X : List ℕ) → key_shown (command_shown (command_of (8 ∷ 2 ∷ X))) ≡ None
unfolding command_of command_at body_of request_at request_of
partner-none X = whole-keyless (partner_at (cut_of (8 ∷ 2 ∷ X)) X) (partner-keyless (cut_of (8 ∷ 2 ∷ X)) X)

request-none : key_shown (command_shown (command_of (8 ∷ 4 ∷ []))) ≡ None
unfolding command_of command_at body_of request_at request_of
request-none = refl

switch-none : (X : List ℕ) → key_shown (command_shown (command_of (9 ∷ X))) ≡ None
unfolding command_of command_at body_of
switch-none X = whole-keyless (switch_at (cut_of (9 ∷ X)) X) (switch-keyless (cut_of (9 ∷ X)) X)

tunnel-none : (X : List ℕ) → key_shown (command_shown (command_of (14 ∷ X))) ≡ None
unfolding command_of command_at body_of
tunnel-none X = whole-keyless (tunnel_at (cut_of (14 ∷ X)) X) (tunnel-keyless (cut_of (14 ∷ X)) X)

verify-none : (X : List ℕ) → key_shown (command_shown (command_of (15 ∷ X))) ≡ None
unfolding command_of command_at body_of
verify-none X = whole-keyless (verify_at (cut_of (15 ∷ X)) X) (verify-keyless (cut_of (15 ∷ X)) X)

confirm-none : (X : List ℕ) → key_shown (command_shown (command_of (16 ∷ X))) ≡ None
unfolding command_of command_at body_of
confirm-none X = whole-keyless (confirm_at (cut_of (16 ∷ X)) X) (confirm-keyless (cut_of (16 ∷ X)) X)

-- the bytes after the first
abbrev rest_of : model.Command → List ℕ
rest_of o = drop 1 (command (command_for o))

pub spelled-key : (o : model.Command) (k : Bytes) → key_shown (command_shown (command_of (command (command_for o))))
    ≡ Some k → key_in o ≡ Some k
spelled-key (model.TransportNet key q d s) k e =
    let text : ((key ++ q ∷ []) ++ eui (eui_of d)) ++ eui (eui_of s) ≡ key
    ++ ((q ∷ []) ++ (eui (eui_of d) ++ eui (eui_of s))) = append_assoc (key ++ q ∷ []) (eui (eui_of d))
    (eui (eui_of s)) ∙ append_assoc key (q ∷ []) (eui (eui_of d) ++ eui (eui_of s)) in
    let own = net-key (((key ++ q ∷ []) ++ eui (eui_of d)) ++ eui (eui_of s)) k e in
    front key ((q ∷ []) ++ (eui (eui_of d) ++ eui (eui_of s))) 17 k refl
    (ap (λ (l : Bytes). length l) (sym text) ∙ own.0) (ap (λ l. take 16 l) (sym text) ∙ own.1)
spelled-key (model.TransportApp key p i) k e =
    let text : (key ++ eui (eui_of p)) ++ i ∷ [] ≡ key ++ (eui (eui_of p) ++ i ∷ []) =
    append_assoc key (eui (eui_of p)) (i ∷ []) in
    let own = app-key ((key ++ eui (eui_of p)) ++ i ∷ []) k e in
    front key (eui (eui_of p) ++ i ∷ []) 9 k refl (ap (λ (l : Bytes). length l) (sym text) ∙ own.0)
    (ap (λ l. take 16 l) (sym text) ∙ own.1)
spelled-key (model.TransportLink key d s) k e =
    let text : (key ++ eui (eui_of d)) ++ eui (eui_of s) ≡ key ++ (eui (eui_of d) ++ eui (eui_of s)) =
    append_assoc key (eui (eui_of d)) (eui (eui_of s)) in
    let own = link-key ((key ++ eui (eui_of d)) ++ eui (eui_of s)) k e in
    front key (eui (eui_of d) ++ eui (eui_of s)) 16 k refl (ap (λ (l : Bytes). length l) (sym text) ∙ own.0)
    (ap (λ l. take 16 l) (sym text) ∙ own.1)
spelled-key (model.UpdateDevice device short status) k e =
    absurd (none-is Bytes k (sym (update-none (rest_of (model.UpdateDevice device short status))) ∙ e))
spelled-key (model.RemoveDevice target) k e =
    absurd (none-is Bytes k (sym (remove-none (rest_of (model.RemoveDevice target))) ∙ e))
spelled-key (model.RequestApp partner) k e =
    absurd (none-is Bytes k (sym (partner-none (drop 1 (rest_of (model.RequestApp partner)))) ∙ e))
spelled-key model.RequestLink k e = absurd (none-is Bytes k (sym request-none ∙ e))
spelled-key (model.SwitchKey q) k e = absurd (none-is Bytes k (sym (switch-none (rest_of (model.SwitchKey q))) ∙ e))
spelled-key (model.Tunnel destination inner) k e =
    absurd (none-is Bytes k (sym (tunnel-none (rest_of (model.Tunnel destination inner))) ∙ e))
spelled-key (model.VerifyKey kind source hash) k e =
    absurd (none-is Bytes k (sym (verify-none (rest_of (model.VerifyKey kind source hash))) ∙ e))
spelled-key (model.ConfirmKey status kind device) k e =
    absurd (none-is Bytes k (sym (confirm-none (rest_of (model.ConfirmKey status kind device))) ∙ e))
