-- Whole runs: only stored keys are confirmed.
use Rattle.std.proofs.Common.{◌≡◌, ℕ, ◌<◌, ◌+◌, ◌^◌, Bool, true, false, cond, ◌&&◌, ◌||◌, List, [], ◌∷◌, ◌++◌, map, filter, length, Option, Some, None, option_map, option_to_list, find, fold, flat_map, nat_eq, is_some, refl, sym, ap, ◌∙◌, subst, append_assoc, eqb-true, ◌⊎◌, inl, inr}
use Rattle.std.proofs.lemmas.Bool.{false≢true, and_parts}
use Rattle.std.proofs.lemmas.List.Sums.{fold-append}
use Rattle.std.specs.List.{AllByRecursion, list_any}
use Rattle.zb_model.specs.Data.{Bytes, Layer, Nwk, Aps, Label, ForTransport, Attribute, Provisional, Unverified, Verified, Station, Term, Move, DropLink, Row, Edit, Reserve, Floor, Moved, Place, Reason, Down, WrongState, Command, ConfirmKey, TransportNet, TransportApp, TransportLink, UpdateDevice, RemoveDevice, RequestApp, RequestLink, SwitchKey, Tunnel, VerifyKey, Task, Received, DoRoll}
use Rattle.zb_model.specs.Lines.{Line, Declared, GivenNet, GivenLink, Counter, Changed, Commit, Accept, Refuse, Seal, Boot, DownReset}
use Rattle.zb_model.specs.State.{LinkKey, NetKey, NodeState, is_centre, is_link, is_live_of, is_unverified, current, offered, active_row}
use Rattle.zb_model.specs.Record.{attribute_byte}
use Rattle.zb_model.specs.Frames.{nwk_term, aps_term, sealed_command}
use Rattle.zb_model.specs.Tools.{Tools}
use Rattle.zb_model.specs.Rules.{Body, Saying, Clear, Secret, Tunnelled, Telling, Leaving, Relayed, Sending, Setting, Plan, centre_of, station_of, is_declared, drop_row}
use Rattle.zb_model.specs.Answer.{Answer, Counting, Part, answer_by, plan_of, counting_of, edits_of, reserve_edit, floor_edit, move_edits, changes, moves_of, sending_of, part_of, framed, sent, out_of, may_seal, nothing_out}
use Rattle.zb_model.specs.Readings.{state_of, is_up, air, station_line, stations_of}
use Rattle.zb_model.specs.Play.{Schedule, Node, Event, Own, RollOver, Deliver, Reset, PowerOn, ShowRecord, ArmStop, ArmFail, InjectBytes, ForgeNet, ForgeNetAps, ForgeOpen, Step, Disk, Armed, NotArmed, StopAfter, FailAt, Calls, BootCalls, stations, setting_of, station_or, start, net_line, link_line, limit_line, disk_of, with_disk, falls, stands, calls_for, leaves_both, commit_lines, refuse_lines, send_lines, stored_lines, told_lines, group_of, cut_of, fallen_line, answer_step, boot_step, refused_step, answer_counted, task_step, deliver_step, frame_at, supply, forged_net, forged_both, forged_open, step_by, step, groups}
use Rattle.zb_model.specs.Schedules.{Names, NamesNode, IsSchedule}
use Rattle.zb_model.specs.Secrets.{centre_in}
use Rattle.zb_model.specs.Transcript.{run_lines, transcript, end_line}
use Rattle.zb_model.specs.Claims.{Each, StoredVerified, Confirming, ConfirmLine, Confirms}
use Rattle.law_run.specs.Opening.{Opens}
use Rattle.law_run.specs.Commanding.{OneCentre, IsConfirmOf, SpellsConfirm}
use Rattle.law_run.proofs.Basics.{append-nil', each-append, flat_map-append}
use Rattle.law_run.proofs.FreshLines.{all-append, all-map}
use Rattle.law_run.proofs.Runs.{hidden-declared, start-plain, IsStation, are-stations, found-is, FoundIs}
use Rattle.law_run.proofs.Groups.{NoSeal, stored-plain, accepts-plain, refuse-plain, send-plain}
use Rattle.law_run.proofs.GroupSeals.{cut-plain, fallen-plain}
use Rattle.law_run.proofs.Sound.{Sound, sound, link_test}
use Rattle.law_run.proofs.Judged.{In, all-in, found-element}
use Rattle.law_run.proofs.Outsiders.{NotDeclared}
use Rattle.law_run.proofs.OutsiderRuns.{step-tagged, undeclared, Beginning, start-begins}
use Rattle.law_run.proofs.LockoutDeeds.{OutcomeFits, SendFits, BodyFits, CommandFits, Stands, Proves, VerifiedRow, draw_of, plan-fits}
use Rattle.law_run.proofs.ConfirmsLines.{Settled, stored-snoc, stored-lines, Firm, firm-backed, changes-backed, commit-firm, Calm, calm-settled, firm-lines}

-- Calm lines

pub commit-calm : (number n : ℕ) (es : List Edit) → AllByRecursion Calm (commit_lines number n es)
unfolding Calm
commit-calm number n [] = tt
commit-calm number n (e ∷ es) = (tt, tt)

pub accepts-calm : (number n : ℕ) (ts : List Term) → AllByRecursion Calm (map (Accept number n) ts)
unfolding Calm
accepts-calm number n [] = tt
accepts-calm number n (t ∷ ts) = (tt, accepts-calm number n ts)

pub refuse-calm : (number n : ℕ) (place : Place) (r : Option Reason)
    → AllByRecursion Calm (refuse_lines number n place r)
unfolding Calm
refuse-calm number n place None = tt
refuse-calm number n place (Some r) = (tt, tt)

pub seals-calm : (number n : ℕ) (ts : List Term) → AllByRecursion Calm (map (Seal number n) ts)
unfolding Calm
seals-calm number n [] = tt
seals-calm number n (t ∷ ts) = (tt, seals-calm number n ts)

pub send-calm : (number : ℕ) (n : Option ℕ) (frame : ℕ) (bytes : Option Bytes)
    → AllByRecursion Calm (send_lines number n frame bytes)
unfolding Calm
send-calm number n frame None = tt
send-calm number n frame (Some b) = (tt, tt)

pub fallen-calm : (armed : Armed) (number n : ℕ) → AllByRecursion Calm (fallen_line armed number n)
unfolding Calm
fallen-calm NotArmed number n = tt
fallen-calm (StopAfter calls torn) number n = (tt, tt)
fallen-calm (FailAt call) number n = (tt, tt)

told-calm : (number n frame : ℕ) (a : Answer) → AllByRecursion Calm (told_lines number n frame a)
unfolding told_lines
told-calm number n frame a =
    all-append Calm (map (Accept number n) a.accepts)
    (refuse_lines number n a.place a.refusal
    ++ (map (Seal number n) a.seals ++ send_lines number (Some n) frame a.frame)) (accepts-calm number n a.accepts)
    (all-append Calm (refuse_lines number n a.place a.refusal)
    (map (Seal number n) a.seals ++ send_lines number (Some n) frame a.frame)
    (refuse-calm number n a.place a.refusal)
    (all-append Calm (map (Seal number n) a.seals) (send_lines number (Some n) frame a.frame)
    (seals-calm number n a.seals) (send-calm number (Some n) frame a.frame)))

-- What is stored of a group leaves every verified row of the centre stored

stored-firm : (number n : ℕ) (h : List Line) (c : ℕ) (es : List Edit) → Firm h c
    → Firm (h ++ (map (Changed number n) es ++ commit_lines number n es)) c
stored-firm number n h c [] f = subst (λ x. Firm x c) (sym (append-nil' h)) f
stored-firm number n h c (e ∷ es) f =
    subst (λ x. Firm x c) (append_assoc h (map (Changed number n) (e ∷ es)) (Commit number n ∷ []))
    (commit-firm n number (h ++ map (Changed number n) (e ∷ es)) c
    (changes-backed n number h c (e ∷ es) (firm-backed n h c f)))

pub answer-firm : (number n : ℕ) (h : List Line) (c : ℕ) (a : Answer) → Firm h c
    → Firm (h ++ stored_lines number n a) c
unfolding stored_lines
answer-firm number n h c a f = stored-firm number n h c a.edits f

pub group-firm : (h0 : List Line) (number n : ℕ) (h : List Line) (c : ℕ) (a : Answer) → Firm h c
    → Firm (h ++ group_of h0 number n a) c
unfolding group_of
group-firm h0 number n h c a f =
    subst (λ x. Firm x c) (append_assoc h (stored_lines number n a) (told_lines number n (length (air h0) + 1) a))
    (firm-lines (h ++ stored_lines number n a) c (told_lines number n (length (air h0) + 1) a)
    (told-calm number n (length (air h0) + 1) a) (answer-firm number n h c a f))

cut-part-firm : (b : Bool) (number n : ℕ) (h : List Line) (c : ℕ) (a : Answer) → Firm h c
    → Firm (h ++ cond b (stored_lines number n a) []) c
cut-part-firm true number n h c a f = answer-firm number n h c a f
cut-part-firm false number n h c a f = subst (λ x. Firm x c) (sym (append-nil' h)) f

cut-firm : (armed : Armed) (calls : Calls) (number n : ℕ) (h : List Line) (c : ℕ) (a : Answer) → Firm h c
    → Firm (h ++ cut_of armed calls number n a) c
unfolding cut_of
cut-firm armed calls number n h c a f =
    subst (λ x. Firm x c)
    (append_assoc h (cond (stands armed calls) (stored_lines number n a) []) (fallen_line armed number n))
    (firm-lines (h ++ cond (stands armed calls) (stored_lines number n a) []) c (fallen_line armed number n)
    (fallen-calm armed number n) (cut-part-firm (stands armed calls) number n h c a f))

-- A key that is confirmed is stored

abbrev lasts : ℕ → ℕ → List Edit → Edit → List Line
lasts number n xs y = map (Changed number n) (xs ++ y ∷ []) ++ commit_lines number n (xs ++ y ∷ [])

map-last : (number n : ℕ) (xs : List Edit) (y : Edit) → map (Changed number n) (xs ++ y ∷ [])
    ≡ map (Changed number n) xs ++ Changed number n y ∷ []
map-last number n [] y = refl
map-last number n (x ∷ xs) y = ap (λ l. Changed number n x ∷ l) (map-last number n xs y)

commit-last : (number n : ℕ) (xs : List Edit) (y : Edit) → commit_lines number n (xs ++ y ∷ []) ≡ Commit number n ∷ []
commit-last number n [] y = refl
commit-last number n (x ∷ xs) y = refl

last-stored : (h : List Line) (number n d : ℕ) (b : Bytes) (xs : List Edit)
    → StoredVerified (h ++ lasts number n xs (Moved (Row d b Verified))) n d b
last-stored h number n d b xs = record {
  before = h ++ map (Changed number n) xs;
  between = [];
  later = [];
  row_event = number;
  commit_event = number;
  shape = ap (λ l. h ++ (l ++ commit_lines number n (xs ++ Moved (Row d b Verified) ∷ [])))
      (map-last number n xs (Moved (Row d b Verified)))
      ∙ ap (λ l. h ++ ((map (Changed number n) xs ++ Changed number n (Moved (Row d b Verified)) ∷ []) ++ l))
      (commit-last number n xs (Moved (Row d b Verified)))
      ∙ sym (append_assoc h (map (Changed number n) xs ++ Changed number n (Moved (Row d b Verified)) ∷ [])
      (Commit number n ∷ []))
      ∙ ap (λ l. l ++ Commit number n ∷ [])
      (sym (append_assoc h (map (Changed number n) xs) (Changed number n (Moved (Row d b Verified)) ∷ [])));
  settled = tt;
}

-- the edits of a plan that makes a row verified end with it

abbrev SameLink : LinkKey → Option LinkKey → Type 0
SameLink x None = Unit {0}
SameLink x (Some r) = x ≡ r

some-link : (x y : LinkKey) → Some x ≡ Some y → x ≡ y
some-link x y e = subst (SameLink x) e refl

pub not-any : {X : Type 0} (test : X → Bool) (xs : List X) → ((x : X) → In x xs → test x ≡ true → ⊥)
    → list_any test xs ≡ false
unfolding In
not-any test [] k = refl
not-any test (x ∷ xs) k = by-test (test x) refl (not-any test xs (λ y i. k y (inr i)))
  where
    by-test : (b : Bool) → test x ≡ b → list_any test xs ≡ false → (b || list_any test xs) ≡ false
    by-test true e r = absurd (k x (inl refl) e)
    by-test false e r = r

byte-verified : (t : Attribute) → is_unverified t ≡ true → nat_eq (attribute_byte t) (attribute_byte Verified) ≡ true
    → ⊥
byte-verified Provisional u e = false≢true u
byte-verified Unverified u e = false≢true e
byte-verified Verified u e = false≢true u

row-changes : (s : NodeState) → Sound s → (d : ℕ) (row : LinkKey) → offered s d ≡ Some row
    → changes s (Row d row.key Verified) ≡ true
unfolding offered
row-changes s o d row e =
    rw (not-any
    (λ (r : LinkKey). is_link d row.key r
    && (r.live && nat_eq (attribute_byte r.attribute) (attribute_byte Verified))) s.links none) refl
  where
    found : In row s.links × ((is_live_of d row && is_unverified row.attribute) ≡ true)
    found = found-element (λ (r : LinkKey). is_live_of d r && is_unverified r.attribute) s.links row e

    partner : row.partner ≡ d
    partner =
        eqb-true row.partner d
        (and_parts row.live (nat_eq row.partner d)
        (and_parts (is_live_of d row) (is_unverified row.attribute) found.1).0).1

    own : find (is_link row.partner row.key) s.links ≡ Some row
    own = all-in (λ x. find (link_test x) s.links ≡ Some x) s.links o.links row found.0

    none : (r : LinkKey) → In r s.links
        → (is_link d row.key r && (r.live && nat_eq (attribute_byte r.attribute) (attribute_byte Verified))) ≡ true → ⊥
    none r i t = byte-verified row.attribute (and_parts (is_live_of d row) (is_unverified row.attribute) found.1).1
        (subst (λ x. nat_eq (attribute_byte x.attribute) (attribute_byte Verified) ≡ true) (sym same)
        (and_parts r.live (nat_eq (attribute_byte r.attribute) (attribute_byte Verified)) parts.1).1)
      where
        parts : (is_link d row.key r ≡ true)
            × ((r.live && nat_eq (attribute_byte r.attribute) (attribute_byte Verified)) ≡ true)
        parts =
            and_parts (is_link d row.key r) (r.live && nat_eq (attribute_byte r.attribute) (attribute_byte Verified)) t

        slot : (r.partner ≡ d) × (r.key ≡ row.key)
        slot = (
          eqb-true r.partner d
              (and_parts (nat_eq r.partner d) (Rattle.zb_model.specs.State.same_key r.key row.key) parts.0).0,
          Rattle.law_run.proofs.Basics.same_key-eq r.key row.key
              (and_parts (nat_eq r.partner d) (Rattle.zb_model.specs.State.same_key r.key row.key) parts.0).1,
        )

        other : find (is_link row.partner row.key) s.links ≡ Some r
        other = subst (λ n. find (is_link n row.key) s.links ≡ Some r) (sym partner)
            (subst (λ n. find (is_link n row.key) s.links ≡ Some r) slot.0
            (subst (λ k. find (is_link r.partner k) s.links ≡ Some r) slot.1
            (all-in (λ x. find (link_test x) s.links ≡ Some x) s.links o.links r i)))

        same : row ≡ r
        same = some-link row r (sym own ∙ other)

abbrev pub rest_edits : Counting → List Term → List Edit
rest_edits k ts = (reserve_edit k Nwk ++ reserve_edit k Aps) ++ flat_map (floor_edit k) ts

drop-then : (s : NodeState) (k : Counting) (o : Option LinkKey) (m : Move) → changes s m ≡ true → (xs : List Edit)
    × (flat_map (move_edits k) (filter (changes s) (drop_row o ++ m ∷ [])) ≡ xs ++ move_edits k m)
drop-then s k None m e = ([], rw e (append-nil' (move_edits k m)))
drop-then s k (Some r) m e = (
  Moved (DropLink r.partner r.key)
      ∷ [],
  rw e (ap (λ l. Moved (DropLink r.partner r.key) ∷ l) (append-nil' (move_edits k m))),
)

proves-edits : (s : NodeState) → Sound s → (k : Counting) (p : Plan) (d : ℕ) (b : Bytes)
    → Proves s (moves_of p.outcome) d b → (xs : List Edit) × (edits_of s k p ≡ xs ++ Moved (Row d b Verified) ∷ [])
unfolding edits_of
proves-edits s o k p d b (row, found, key, moves) = (
  (reserve_edit k Nwk ++ reserve_edit k Aps) ++ (flat_map (floor_edit k) p.accepts ++ last.0),
  ap (λ ms. (reserve_edit k Nwk ++ reserve_edit k Aps)
      ++ (flat_map (floor_edit k) p.accepts ++ flat_map (move_edits k) (filter (changes s) ms))) moves
      ∙ ap (λ l. (reserve_edit k Nwk ++ reserve_edit k Aps) ++ (flat_map (floor_edit k) p.accepts ++ l)) last.1
      ∙ ap (λ l. (reserve_edit k Nwk ++ reserve_edit k Aps) ++ l)
      (sym (append_assoc (flat_map (floor_edit k) p.accepts) last.0 (Moved (Row d b Verified) ∷ [])))
      ∙ sym (append_assoc (reserve_edit k Nwk ++ reserve_edit k Aps) (flat_map (floor_edit k) p.accepts ++ last.0)
      (Moved (Row d b Verified) ∷ [])),
)
  where
    last : (xs : List Edit)
        × (flat_map (move_edits k) (filter (changes s) (drop_row (current s d) ++ Row d b Verified ∷ [])) ≡ xs
        ++ Moved (Row d b Verified) ∷ [])
    last = drop-then s k (current s d) (Row d b Verified)
        (subst (λ x. changes s (Row d x Verified) ≡ true) key (row-changes s o d row found))

-- the edits of a plan without changes of its own unsettle nothing

abbrev pub Mere : Edit → Type 0
Mere (Moved m) = ⊥
Mere _ = Unit {0}

mere-settled : (c d number n : ℕ) (b : Bytes) (es : List Edit) → AllByRecursion Mere es
    → AllByRecursion (Settled c d b) (map (Changed number n) es)
mere-settled c d number n b [] a = tt
mere-settled c d number n b (Reserve l v ∷ es) a = (λ u. u, mere-settled c d number n b es a.1)
mere-settled c d number n b (Floor l k p v ∷ es) a = (λ u. u, mere-settled c d number n b es a.1)
mere-settled c d number n b (Edit.Start k v ∷ es) a = (λ u. u, mere-settled c d number n b es a.1)
mere-settled c d number n b (Moved m ∷ es) a = absurd a.0

reserve-mere : (layer : Layer) (o : Option ℕ) → AllByRecursion Mere (option_to_list (option_map (Reserve layer) o))
reserve-mere layer None = tt
reserve-mere layer (Some v) = (tt, tt)

floor-mere : (t : Term) (o : Option ℕ)
    → AllByRecursion Mere (option_to_list (option_map (Floor t.layer t.base t.source) o))
floor-mere t None = tt
floor-mere t (Some v) = (tt, tt)

floors-mere : (k : Counting) (ts : List Term) → AllByRecursion Mere (flat_map (floor_edit k) ts)
floors-mere k [] = tt
floors-mere k (t ∷ ts) = all-append Mere (floor_edit k t) (flat_map (floor_edit k) ts)
    (floor-mere t (k.floor t.layer)) (floors-mere k ts)

pub rests-mere : (k : Counting) (ts : List Term) → AllByRecursion Mere (rest_edits k ts)
rests-mere k ts =
    all-append Mere (reserve_edit k Nwk ++ reserve_edit k Aps) (flat_map (floor_edit k) ts)
    (all-append Mere (reserve_edit k Nwk) (reserve_edit k Aps) (reserve-mere Nwk (k.reserve Nwk))
    (reserve-mere Aps (k.reserve Aps))) (floors-mere k ts)

stands-edits : (s : NodeState) (k : Counting) (p : Plan) → moves_of p.outcome ≡ []
    → AllByRecursion Mere (edits_of s k p)
unfolding edits_of
stands-edits s k p e =
    subst (λ ms. AllByRecursion Mere
    ((reserve_edit k Nwk ++ reserve_edit k Aps)
    ++ (flat_map (floor_edit k) p.accepts ++ flat_map (move_edits k) (filter (changes s) ms)))) (sym e)
    (subst (λ l. AllByRecursion Mere ((reserve_edit k Nwk ++ reserve_edit k Aps) ++ l))
    (sym (append-nil' (flat_map (floor_edit k) p.accepts))) (rests-mere k p.accepts))

-- The seals of a group

abbrev Claim : Tools → ℕ → ℕ → List Line → Term → Type 0
Claim tools c n h t = (d : ℕ) → Confirming tools t d → (n ≡ c) × StoredVerified h c d t.base

claim-line : (tools : Tools) (c number n : ℕ) (h : List Line) (t u : Term) → Claim tools c n h t
    → Claim tools c n (h ++ Seal number n u ∷ []) t
unfolding Calm
claim-line tools c number n h t u k d q = ((k d q).0, stored-snoc h c d t.base (Seal number n u) (k d q).1 (λ v. v))

seals-claim : (tools : Tools) (c number n : ℕ) (h : List Line) (ts : List Term)
    → AllByRecursion (Claim tools c n h) ts → Each (ConfirmLine tools c) h (map (Seal number n) ts)
seals-claim tools c number n h [] a = tt
seals-claim tools c number n h (t ∷ ts) a = (
  a.0,
  seals-claim tools c number n (h ++ Seal number n t ∷ []) ts
      (all-map (Claim tools c n h) (Claim tools c n (h ++ Seal number n t ∷ []))
      (λ u k. claim-line tools c number n h u t k) ts a.1),
)

abbrev IsNwk : Layer → Type 0
IsNwk Nwk = Unit {0}
IsNwk Aps = ⊥

nwk-apart : Nwk ≡ Aps → ⊥
nwk-apart e = subst IsNwk e tt

-- a Confirm-Key that a group's own event orders
abbrev Confirmed : ℕ → ℕ → List Line → Bytes → Command → Type 0
Confirmed c n h base model_command = (d : ℕ) → IsConfirmOf model_command d → (n ≡ c) × StoredVerified h c d base

command-claim : (tools : Tools) → SpellsConfirm tools → (c n : ℕ) (h : List Line) (label : Label) (key : Bytes)
    (model_command : Command) (me aps : ℕ) → Confirmed c n h key model_command
    → Claim tools c n h (aps_term sealed_command label key me aps (tools.spelled model_command))
command-claim tools spells c n h label key model_command me aps k d q = k d (spells model_command q.2.0 d q.2.1)

abbrev BodyClaim : ℕ → ℕ → List Line → Body → Type 0
BodyClaim c n h (Secret label key model_command) = Confirmed c n h key model_command
BodyClaim c n h (Tunnelled device key model_command) = Confirmed c n h key model_command
BodyClaim c n h _ = Unit {0}

part-claim : (tools : Tools) → SpellsConfirm tools → (c n me to nwk aps : ℕ) (h : List Line) (body : Body)
    → BodyClaim c n h body → AllByRecursion (Claim tools c n h) (part_of tools me to nwk aps body).seals
unfolding part_of
part-claim tools spells c n me to nwk aps h (Saying bytes) k = tt
part-claim tools spells c n me to nwk aps h (Clear control model_command) k = tt
part-claim tools spells c n me to nwk aps h (Secret label key model_command) k =
    (command-claim tools spells c n h label key model_command me aps k, tt)
part-claim tools spells c n me to nwk aps h (Tunnelled device key model_command) k =
    (command-claim tools spells c n h ForTransport key model_command me aps k, tt)
part-claim tools spells c n me to nwk aps h (Telling key bytes) k = ((λ d q. absurd (false≢true q.1)), tt)
part-claim tools spells c n me to nwk aps h Leaving k = tt
part-claim tools spells c n me to nwk aps h (Relayed bytes) k = tt

framed-claim : (tools : Tools) → SpellsConfirm tools → (c : ℕ) (x : Setting) (n to nwk aps : ℕ) (h : List Line)
    (secured : Bool) (row : Option NetKey) (body : Body) → BodyClaim c n h body
    → AllByRecursion (Claim tools c n h)
    (framed tools x to nwk secured row (part_of tools x.me.eui to nwk aps body)).seals
framed-claim tools spells c x n to nwk aps h false row body k = part-claim tools spells c n x.me.eui to nwk aps h body
    k
framed-claim tools spells c x n to nwk aps h true None body k = tt
framed-claim tools spells c x n to nwk aps h true (Some r) body k =
    all-append (Claim tools c n h) part.seals
    (nwk_term part.control to x.me.short x.me.eui r.key r.sequence nwk part.bytes ∷ [])
    (part-claim tools spells c n x.me.eui to nwk aps h body k)
    ((λ d q. absurd (nwk-apart q.0)), tt)
  where
    part : Part
    part = part_of tools x.me.eui to nwk aps body

abbrev SendClaim : ℕ → ℕ → List Line → Option Sending → Type 0
SendClaim c n h None = Unit {0}
SendClaim c n h (Some send) = BodyClaim c n h send.body

sent-claim : (tools : Tools) → SpellsConfirm tools → (c : ℕ) (x : Setting) (n : ℕ) (s : NodeState) (k : Counting)
    (h : List Line) (send : Option Sending) → SendClaim c n h send
    → AllByRecursion (Claim tools c n h) (sent tools x s k send).seals
sent-claim tools spells c x n s k h None q = tt
sent-claim tools spells c x n s k h (Some send) q = framed-claim tools spells c x n send.to (k.counter Nwk)
    (k.counter Aps) h send.secured (active_row s) send.body q

out-claim : (tools : Tools) → SpellsConfirm tools → (c : ℕ) (x : Setting) (n : ℕ) (s : NodeState) (k : Counting)
    (h : List Line) (send : Option Sending) (b : Bool) → SendClaim c n h send
    → AllByRecursion (Claim tools c n h) (cond b (sent tools x s k send) nothing_out).seals
out-claim tools spells c x n s k h send true q = sent-claim tools spells c x n s k h send q
out-claim tools spells c x n s k h send false q = tt

-- from the plan

pub record Here (w : Schedule) (n : ℕ) : Type 0 where
  pub centre : is_centre (setting_of w n).me.role ≡ true → n ≡ centre_of (stations w)
  pub declared : (d : ℕ) → is_declared (setting_of w n) d ≡ true → d < 2 ^ 64

here-by : (w : Schedule) (n : ℕ) (o : Option Station) → is_some o ≡ true
    → FoundIs (λ (p : Station). (is_centre p.role ≡ true → p.eui ≡ centre_of (stations w)) × (nat_eq p.eui n ≡ true))
    o → is_centre (station_or o).role ≡ true → n ≡ centre_of (stations w)
here-by w n None e f q = absurd (false≢true e)
here-by w n (Some p) e f q = sym (eqb-true p.eui n f.1) ∙ f.0 q

small-by : (n : ℕ) (o : Option Station) → is_some o ≡ true
    → FoundIs (λ (p : Station). IsStation p × (nat_eq p.eui n ≡ true)) o → n < 2 ^ 64
small-by n None e f = absurd (false≢true e)
small-by n (Some p) e f = subst (λ k. k < 2 ^ 64) (eqb-true p.eui n f.1) f.0.eui

pub here : (w : Schedule) → IsSchedule w → OneCentre w → (n : ℕ) → Names w n → Here w n
unfolding setting_of station_of
here w i one n named = record {
  centre = here-by w n (station_of (stations w) n) named
      (found-is (λ (p : Station). is_centre p.role ≡ true → p.eui ≡ centre_of (stations w))
      (λ (p : Station). nat_eq p.eui n) (stations w) one);
  declared = λ d e. small-by d (station_of (stations w) d) (sym (hidden-declared w n d) ∙ e)
      (found-is IsStation (λ (p : Station). nat_eq p.eui d) (stations w) (are-stations w.nodes i.nodes));
}

-- the lines of the changes store what is confirmed
confirm-stored : (number n c d : ℕ) (h : List Line) (b : Bytes) (x : Setting) (k : Counting) (p : Plan) (a : Answer)
    → a.edits ≡ edits_of (state_of h n) k p → n ≡ c → Firm h c → Stands (state_of h n) (moves_of p.outcome) d b
    ⊎ Proves (state_of h n) (moves_of p.outcome) d b
    → StoredVerified (h ++ stored_lines number n a) c d b
unfolding stored_lines Firm Calm
confirm-stored number n c d h b x k p a same mine f (inl q) =
    stored-lines h c d b (map (Changed number n) a.edits ++ commit_lines number n a.edits) before
    (all-append (Settled c d b) (map (Changed number n) a.edits) (commit_lines number n a.edits)
    (mere-settled c d number n b a.edits
    (subst (λ es. AllByRecursion Mere es) (sym same) (stands-edits (state_of h n) k p q.0)))
    (all-map Calm (Settled c d b) (calm-settled c d b) (commit_lines number n a.edits) (commit-calm number n a.edits)))
  where
    row : VerifiedRow (state_of h n) d b
    row = q.1

    at : In row.row (state_of h c).links
    at = subst (λ m. In row.row (state_of h m).links) mine row.among

    before : StoredVerified h c d b
    before = subst (λ m. StoredVerified h c m b) row.partner
        (subst (λ y. StoredVerified h c row.row.partner y) row.key (f row.row at row.live row.attribute))
confirm-stored number n c d h b x k p a same mine f (inr q) =
    subst (λ m. StoredVerified (h ++ (map (Changed number n) a.edits ++ commit_lines number n a.edits)) m d b) mine
    (subst (λ es. StoredVerified (h ++ (map (Changed number n) es ++ commit_lines number n es)) n d b)
    (sym (same ∙ last.1)) (last-stored h number n d b last.0))
  where
    last : (xs : List Edit) × (edits_of (state_of h n) k p ≡ xs ++ Moved (Row d b Verified) ∷ [])
    last = proves-edits (state_of h n) (sound h n) k p d b q

record Facts (number n c : ℕ) (h : List Line) (x : Setting) (k : Counting) (p : Plan) (a : Answer) : Type 0 where
  same : a.edits ≡ edits_of (state_of h n) k p
  firm : Firm h c
  centre : is_centre x.me.role ≡ true → n ≡ c
  small : (d : ℕ) → is_declared x d ≡ true → d < 2 ^ 64

command-confirmed : (number n c : ℕ) (h : List Line) (x : Setting) (k : Counting) (p : Plan) (a : Answer)
    → Facts number n c h x k p a → (draw : Option Bytes) (base : Bytes) (model_command : Command)
    → CommandFits x (state_of h n) draw (moves_of p.outcome) base model_command
    → (rest : List Line) → AllByRecursion Calm rest → Confirmed c n ((h ++ stored_lines number n a) ++ rest) base
    model_command
command-confirmed number n c h x k p a f draw base (ConfirmKey status kind e) q rest calm d same = (
  f.centre q.0,
  subst (λ m. StoredVerified ((h ++ stored_lines number n a) ++ rest) c m base) (same (f.small e q.1))
      (stored-lines (h ++ stored_lines number n a) c e base rest
      (confirm-stored number n c e h base x k p a f.same (f.centre q.0) f.firm q.2)
      (all-map Calm (Settled c e base) (calm-settled c e base) rest calm)),
)
command-confirmed number n c h x k p a f draw base (TransportNet key q d o) g rest calm d' same = absurd same
command-confirmed number n c h x k p a f draw base (TransportApp key q i) g rest calm d' same = absurd same
command-confirmed number n c h x k p a f draw base (TransportLink key d o) g rest calm d' same = absurd same
command-confirmed number n c h x k p a f draw base (UpdateDevice d s status) g rest calm d' same = absurd same
command-confirmed number n c h x k p a f draw base (RemoveDevice t) g rest calm d' same = absurd same
command-confirmed number n c h x k p a f draw base (RequestApp t) g rest calm d' same = absurd same
command-confirmed number n c h x k p a f draw base RequestLink g rest calm d' same = absurd same
command-confirmed number n c h x k p a f draw base (SwitchKey q) g rest calm d' same = absurd same
command-confirmed number n c h x k p a f draw base (Tunnel d i) g rest calm d' same = absurd same
command-confirmed number n c h x k p a f draw base (VerifyKey t s i) g rest calm d' same = absurd same

body-confirmed : (number n c : ℕ) (h : List Line) (x : Setting) (k : Counting) (p : Plan) (a : Answer)
    → Facts number n c h x k p a → (draw : Option Bytes) (secured : Bool) (body : Body)
    → BodyFits x (state_of h n) draw (moves_of p.outcome) secured body
    → (rest : List Line) → AllByRecursion Calm rest → BodyClaim c n ((h ++ stored_lines number n a) ++ rest) body
body-confirmed number n c h x k p a f draw secured (Secret label key model_command) q rest calm =
    command-confirmed number n c h x k p a f draw key model_command q rest calm
body-confirmed number n c h x k p a f draw secured (Tunnelled device key model_command) q rest calm =
    command-confirmed number n c h x k p a f draw key model_command q rest calm
body-confirmed number n c h x k p a f draw secured (Saying bytes) q rest calm = tt
body-confirmed number n c h x k p a f draw secured (Clear control model_command) q rest calm = tt
body-confirmed number n c h x k p a f draw secured (Telling key bytes) q rest calm = tt
body-confirmed number n c h x k p a f draw secured Leaving q rest calm = tt
body-confirmed number n c h x k p a f draw secured (Relayed bytes) q rest calm = tt

send-confirmed : (number n c : ℕ) (h : List Line) (x : Setting) (k : Counting) (p : Plan) (a : Answer)
    → Facts number n c h x k p a → (draw : Option Bytes) (send : Option Sending)
    → SendFits x (state_of h n) draw (moves_of p.outcome) send
    → (rest : List Line) → AllByRecursion Calm rest → SendClaim c n ((h ++ stored_lines number n a) ++ rest) send
send-confirmed number n c h x k p a f draw None q rest calm = tt
send-confirmed number n c h x k p a f draw (Some send) q rest calm = body-confirmed number n c h x k p a f draw
    send.secured send.body q rest calm

outcome-send : (c : Setting) (s : NodeState) (task : Task) (o : Rattle.zb_model.specs.Rules.Outcome)
    → OutcomeFits c s task o → SendFits c s (draw_of task) (moves_of o) (sending_of o)
outcome-send c s task (Rattle.zb_model.specs.Rules.Outcome.Stop reason) f = tt
outcome-send c s task (Rattle.zb_model.specs.Rules.Outcome.Does moves sending) f = f.send

-- The lines of a group

line-claims : (tools : Tools) (c : ℕ) (h : List Line) (l : Line) → NoSeal l → ConfirmLine tools c h l
unfolding NoSeal
line-claims tools c h (Seal e n t) k = absurd k
line-claims tools c h _ k = tt

pub plain : (tools : Tools) (c : ℕ) (h ls : List Line) → AllByRecursion NoSeal ls → Each (ConfirmLine tools c) h ls
plain tools c h [] a = tt
plain tools c h (l ∷ ls) a = (line-claims tools c h l a.0, plain tools c (h ++ l ∷ []) ls a.1)

pub group-claims : (tools : Tools) → SpellsConfirm tools → (x : Setting) (h h0 : List Line) (number n c : ℕ)
    (task : Task) (p : Plan) → OutcomeFits x (state_of h n) task p.outcome → Firm h c
    → (is_centre x.me.role ≡ true → n ≡ c) → ((d : ℕ) → is_declared x d ≡ true → d < 2 ^ 64)
    → Each (ConfirmLine tools c) h
    (group_of h0 number n (answer_by tools x (state_of h n) (counting_of x (state_of h n) p) p))
unfolding group_of told_lines answer_by out_of
group-claims tools spells x h h0 number n c task p fits firm centre small =
    each-append P h stored (accepts ++ (refusal ++ (seals ++ send))) (plain tools c h stored (stored-plain number n a))
    (each-append P (h ++ stored) accepts (refusal ++ (seals ++ send))
    (plain tools c (h ++ stored) accepts (accepts-plain number n p.accepts))
    (each-append P ((h ++ stored) ++ accepts) refusal (seals ++ send)
    (plain tools c ((h ++ stored) ++ accepts) refusal (refuse-plain number n a.place a.refusal))
    (each-append P h3 seals send
    (seals-claim tools c number n h3 a.seals
    (out-claim tools spells c x n s k h3 (sending_of p.outcome) (may_seal s (sending_of p.outcome)) claimed))
    (plain tools c (h3 ++ seals) send (send-plain number (Some n) (length (air h0) + 1) a.frame)))))
  where
    P : List Line → Line → Type 0
    P = ConfirmLine tools c

    s : NodeState
    s = state_of h n

    k : Counting
    k = counting_of x s p

    a : Answer
    a = answer_by tools x s k p

    stored : List Line
    stored = stored_lines number n a

    accepts : List Line
    accepts = map (Accept number n) p.accepts

    refusal : List Line
    refusal = refuse_lines number n a.place a.refusal

    seals : List Line
    seals = map (Seal number n) a.seals

    send : List Line
    send = send_lines number (Some n) (length (air h0) + 1) a.frame

    h3 : List Line
    h3 = ((h ++ stored) ++ accepts) ++ refusal

    claimed : SendClaim c n h3 (sending_of p.outcome)
    claimed = subst (λ y. SendClaim c n y (sending_of p.outcome)) (sym (append_assoc (h ++ stored) accepts refusal))
        (send-confirmed number n c h x k p a (record { same = refl; firm = firm; centre = centre; small = small })
        (draw_of task) (sending_of p.outcome) (outcome-send x s task p.outcome fits)
        (accepts ++ refusal)
        (all-append Calm accepts refusal (accepts-calm number n p.accepts)
        (refuse-calm number n a.place a.refusal)))

-- The lines of a step

either : (P : List Line → Type 0) (b : Bool) (x y : Step) → P x.lines → P y.lines → P (cond b x y).lines
either P true x y p q = p
either P false x y p q = q

-- a step's lines meet the claim, and leave every verified row stored
pub record StepClaims (tools : Tools) (c : ℕ) (h ls : List Line) : Type 0 where
  claims : Each (ConfirmLine tools c) h ls
  firm : Firm (h ++ ls) c

pub calm-good : (tools : Tools) (c : ℕ) (h ls : List Line) → AllByRecursion NoSeal ls → AllByRecursion Calm ls
    → Firm h c → StepClaims tools c h ls
calm-good tools c h ls a b f = record { claims = plain tools c h ls a; firm = firm-lines h c ls b f }

answer-good : (tools : Tools) → SpellsConfirm tools → (x : Setting) (h : List Line) (disks : List Disk)
    (number n c : ℕ) (task : Task) (p : Plan) → OutcomeFits x (state_of h n) task p.outcome → Firm h c
    → (is_centre x.me.role ≡ true → n ≡ c) → ((d : ℕ) → is_declared x d ≡ true → d < 2 ^ 64)
    → StepClaims tools c h
    (answer_step h disks number n (answer_by tools x (state_of h n) (counting_of x (state_of h n) p) p)).lines
answer-good tools spells x h disks number n c task p fits firm centre small =
    either (StepClaims tools c h) (falls (disk_of disks n).armed (calls_for h n a.edits)) cut whole
    (record {
      claims = plain tools c h cut.lines (cut-plain (disk_of disks n).armed (calls_for h n a.edits) number n a);
      firm = cut-firm (disk_of disks n).armed (calls_for h n a.edits) number n h c a firm;
    })
    (record {
      claims = group-claims tools spells x h h number n c task p fits firm centre small;
      firm = group-firm h number n h c a firm;
    })
  where
    a : Answer
    a = answer_by tools x (state_of h n) (counting_of x (state_of h n) p) p

    cut : Step
    cut = record {
      lines = cut_of (disk_of disks n).armed (calls_for h n a.edits) number n a;
      disks =
          with_disk disks n
          (record { armed = NotArmed; both_open = leaves_both (disk_of disks n).armed (calls_for h n a.edits) });
    }

    whole : Step
    whole = record { lines = group_of h number n a; disks = disks }

one-good : (tools : Tools) (c : ℕ) (h : List Line) (l : Line) → NoSeal l → Calm l → Firm h c
    → StepClaims tools c h (l ∷ [])
one-good tools c h l a b f = calm-good tools c h (l ∷ []) (a, tt) (b, tt) f

refused-good : (tools : Tools) (c : ℕ) (h : List Line) (disks : List Disk) (number n : ℕ) (reason : Reason) → Firm h c
    → StepClaims tools c h (refused_step disks number n reason).lines
unfolding NoSeal Calm
refused-good tools c h disks number n reason f = one-good tools c h (Refuse number n Place.AtEvent reason) tt tt f

task-good : (tools : Tools) → Opens tools → SpellsConfirm tools → (w : Schedule) → IsSchedule w → OneCentre w
    → (h : List Line) (disks : List Disk) (number n : ℕ) (task : Task) → Names w n → Firm h (centre_of (stations w))
    → StepClaims tools (centre_of (stations w)) h (task_step tools counting_of w h disks number n task).lines
unfolding task_step
task-good tools opens spells w i one h disks number n task named f =
    either (StepClaims tools (centre_of (stations w)) h) (is_up h n)
    (answer_step h disks number n (answer_counted tools counting_of (setting_of w n) (state_of h n) p))
    (refused_step disks number n Down)
    (answer-good tools spells (setting_of w n) h disks number n (centre_of (stations w)) task p
    (plan-fits tools opens (setting_of w n) (state_of h n) task) f (here w i one n named).centre
    (here w i one n named).declared)
    (refused-good tools (centre_of (stations w)) h disks number n Down f)
  where
    p : Plan
    p = plan_of tools (setting_of w n) (state_of h n) task

deliver-good : (tools : Tools) → Opens tools → SpellsConfirm tools → (w : Schedule) → IsSchedule w → OneCentre w
    → (h : List Line) (disks : List Disk) (number n : ℕ) (o : Option Bytes) → Names w n
    → Firm h (centre_of (stations w))
    → StepClaims tools (centre_of (stations w)) h (deliver_step tools counting_of w h disks number n o).lines
deliver-good tools opens spells w i one h disks number n None named f = refused-good tools (centre_of (stations w)) h
    disks number n (cond (is_up h n) Reason.NoFrame Down) f
deliver-good tools opens spells w i one h disks number n (Some bytes) named f =
    task-good tools opens spells w i one h disks number n (Received bytes (supply w h)) named f

boot-good : (tools : Tools) (c : ℕ) (h : List Line) (disks : List Disk) (number n : ℕ) → Firm h c
    → StepClaims tools c h (boot_step disks number n).lines
unfolding NoSeal Calm
boot-good tools c h disks number n f =
    either (StepClaims tools c h) (falls (disk_of disks n).armed (BootCalls (disk_of disks n).both_open))
    (record {
      lines = fallen_line (disk_of disks n).armed number n;
      disks =
          with_disk disks n
          (record {
            armed = NotArmed;
            both_open = leaves_both (disk_of disks n).armed (BootCalls (disk_of disks n).both_open);
          });
    })
    (record {
      lines = Boot number n
          ∷ [];
      disks = with_disk disks n (record { armed = (disk_of disks n).armed; both_open = false });
    })
    (calm-good tools c h (fallen_line (disk_of disks n).armed number n)
    (fallen-plain (disk_of disks n).armed number n) (fallen-calm (disk_of disks n).armed number n) f)
    (one-good tools c h (Boot number n) tt tt f)

step-good : (tools : Tools) → Opens tools → SpellsConfirm tools → (w : Schedule) → IsSchedule w → OneCentre w
    → (h : List Line) (disks : List Disk) (number : ℕ) (event : Event) → NamesNode w event
    → Firm h (centre_of (stations w))
    → StepClaims tools (centre_of (stations w)) h (step tools w h disks number event).lines
unfolding step step_by forged_net forged_both forged_open NoSeal Calm
step-good tools opens spells w i one h disks number (Own n task) named f =
    task-good tools opens spells w i one h disks number n task named f
step-good tools opens spells w i one h disks number (RollOver n) named f =
    task-good tools opens spells w i one h disks number n (DoRoll (supply w h)) named f
step-good tools opens spells w i one h disks number (Deliver frame n) named f =
    deliver-good tools opens spells w i one h disks number n (frame_at h frame) named f
step-good tools opens spells w i one h disks number (Reset n) named f =
    either (StepClaims tools (centre_of (stations w)) h) (is_up h n)
    (record { lines = DownReset number n ∷ []; disks = disks }) (refused_step disks number n Down)
    (one-good tools (centre_of (stations w)) h (DownReset number n) tt tt f)
    (refused-good tools (centre_of (stations w)) h disks number n Down f)
step-good tools opens spells w i one h disks number (PowerOn n) named f =
    either (StepClaims tools (centre_of (stations w)) h) (is_up h n) (refused_step disks number n WrongState)
    (boot_step disks number n)
    (refused-good tools (centre_of (stations w)) h disks number n WrongState f)
    (boot-good tools (centre_of (stations w)) h disks number n f)
step-good tools opens spells w i one h disks number (ShowRecord n) named f = calm-good tools (centre_of (stations w))
    h _ (tt, tt) (tt, tt) f
step-good tools opens spells w i one h disks number (ArmStop n calls torn) named f =
    calm-good tools (centre_of (stations w)) h [] tt tt f
step-good tools opens spells w i one h disks number (ArmFail n call) named f =
    calm-good tools (centre_of (stations w)) h [] tt tt f
step-good tools opens spells w i one h disks number (InjectBytes bytes) named f =
    calm-good tools (centre_of (stations w)) h _ (tt, tt) (tt, tt) f
step-good tools opens spells w i one h disks number (ForgeNet to from source key sequence counter content) named f =
    calm-good tools (centre_of (stations w)) h _ (tt, (tt, tt)) (tt, (tt, tt)) f
step-good tools opens spells w i one h disks number
    (ForgeNetAps to from source key sequence counter label base aps_counter command) named f =
    calm-good tools (centre_of (stations w)) h _ (tt, (tt, (tt, tt))) (tt, (tt, (tt, tt))) f
step-good tools opens spells w i one h disks number (ForgeOpen to from source label base aps_counter command) named
    f = calm-good tools (centre_of (stations w)) h _ (tt, (tt, tt)) (tt, (tt, tt)) f

groups-claims : (tools : Tools) → Opens tools → SpellsConfirm tools → (w : Schedule) → IsSchedule w → OneCentre w
    → (h : List Line) (disks : List Disk) (number : ℕ) (events : List Event) → AllByRecursion (NamesNode w) events
    → Firm h (centre_of (stations w))
    → Each (ConfirmLine tools (centre_of (stations w))) h (groups tools w h disks number events)
unfolding groups
groups-claims tools opens spells w i one h disks number [] named f = tt
groups-claims tools opens spells w i one h disks number (event ∷ events) named f =
    each-append (ConfirmLine tools (centre_of (stations w))) h (step tools w h disks number event).lines
    (groups tools w (h ++ (step tools w h disks number event).lines) (step tools w h disks number event).disks
    (number + 1) events)
    good.claims
    (groups-claims tools opens spells w i one (h ++ (step tools w h disks number event).lines)
    (step tools w h disks number event).disks (number + 1) events named.1 good.firm)
  where
    good : StepClaims tools (centre_of (stations w)) h (step tools w h disks number event).lines
    good = step-good tools opens spells w i one h disks number event named.0 f

-- The start

begins-calm : (l : Line) → Beginning l → Calm l
unfolding Beginning Calm
begins-calm (Declared p) b = tt
begins-calm (GivenNet n key q) b = tt
begins-calm (GivenLink n p key) b = tt
begins-calm (Counter n layer v) b = tt
begins-calm _ b = absurd b

no-rows : (c : ℕ) → Firm [] c
unfolding Firm state_of In
no-rows c r i = absurd i

pub start-firm : (w : Schedule) (c : ℕ) → Firm (start w) c
start-firm w c = firm-lines [] c (start w) (all-map Beginning Calm begins-calm (start w) (start-begins w)) (no-rows c)

-- The centre of the lines is that of the schedule

declared-stations : (ps qs : List Station) → fold station_line ps (map Declared qs) ≡ ps ++ qs
declared-stations ps [] = sym (append-nil' ps)
declared-stations ps (q ∷ qs) = declared-stations (ps ++ q ∷ []) qs ∙ append_assoc ps (q ∷ []) qs

no-station : (ps : List Station) (l : Line) → NotDeclared l → station_line ps l ≡ ps
unfolding NotDeclared
no-station ps (Declared p) k = absurd k
no-station ps _ k = refl

pub no-stations : (ps : List Station) (ls : List Line) → AllByRecursion NotDeclared ls → fold station_line ps ls ≡ ps
no-stations ps [] a = refl
no-stations ps (l ∷ ls) a = ap (λ x. fold station_line x ls) (no-station ps l a.0) ∙ no-stations ps ls a.1

flat-undeclared : {X : Type 0} (f : X → List Line) → ((x : X) → AllByRecursion NotDeclared (f x)) → (xs : List X)
    → AllByRecursion NotDeclared (flat_map f xs)
flat-undeclared f k [] = tt
flat-undeclared f k (x ∷ xs) = all-append NotDeclared (f x) (flat_map f xs) (k x) (flat-undeclared f k xs)

net-undeclared : (n : ℕ) (o : Option (Bytes × ℕ)) → AllByRecursion NotDeclared (net_line n o)
unfolding NotDeclared
net-undeclared n None = tt
net-undeclared n (Some g) = (tt, tt)

link-undeclared : (c n : ℕ) (o : Option Bytes) → AllByRecursion NotDeclared (link_line c n o)
unfolding NotDeclared
link-undeclared c n None = tt
link-undeclared c n (Some k) = (tt, tt)

limit-by : (n : ℕ) (layer : Layer) (v : ℕ) (b : Bool) → AllByRecursion NotDeclared (cond b [] (Counter n layer v ∷ []))
unfolding NotDeclared
limit-by n layer v true = tt
limit-by n layer v false = (tt, tt)

pub start-stations : (w : Schedule) → stations_of (start w) ≡ stations w
unfolding stations_of start
start-stations w =
    fold-append station_line [] (map Declared (stations w)) (nets ++ (links ++ limits))
    ∙ ap (λ x. fold station_line x (nets ++ (links ++ limits))) (declared-stations [] (stations w))
    ∙ no-stations (stations w) (nets ++ (links ++ limits))
    (all-append NotDeclared nets (links ++ limits)
    (flat-undeclared (λ (m : Node). net_line m.station.eui m.network)
    (λ m. net-undeclared m.station.eui m.network) w.nodes)
    (all-append NotDeclared links limits
    (flat-undeclared (λ (m : Node). link_line (centre_of (stations w)) m.station.eui m.code)
    (λ m. link-undeclared (centre_of (stations w)) m.station.eui m.code) w.nodes)
    (flat-undeclared
    (λ (m : Node). limit_line m.station.eui Nwk m.start_nwk ++ limit_line m.station.eui Aps m.start_aps)
    (λ m. all-append NotDeclared (limit_line m.station.eui Nwk m.start_nwk) (limit_line m.station.eui Aps m.start_aps)
    (limit-by m.station.eui Nwk m.start_nwk (nat_eq m.start_nwk 0))
    (limit-by m.station.eui Aps m.start_aps (nat_eq m.start_aps 0))) w.nodes)))
  where
    nets : List Line
    nets = flat_map (λ (m : Node). net_line m.station.eui m.network) w.nodes

    links : List Line
    links = flat_map (λ (m : Node). link_line (centre_of (stations w)) m.station.eui m.code) w.nodes

    limits : List Line
    limits =
        flat_map (λ (m : Node). limit_line m.station.eui Nwk m.start_nwk ++ limit_line m.station.eui Aps m.start_aps)
        w.nodes

groups-undeclared : (tools : Tools) (w : Schedule) (h : List Line) (disks : List Disk) (number : ℕ)
    (events : List Event) → AllByRecursion NotDeclared (groups tools w h disks number events)
unfolding groups
groups-undeclared tools w h disks number [] = tt
groups-undeclared tools w h disks number (event ∷ events) =
    all-append NotDeclared (step tools w h disks number event).lines
    (groups tools w (h ++ (step tools w h disks number event).lines) (step tools w h disks number event).disks
    (number + 1) events)
    (undeclared number (step tools w h disks number event).lines (step-tagged tools w h disks number event))
    (groups-undeclared tools w (h ++ (step tools w h disks number event).lines)
    (step tools w h disks number event).disks (number + 1) events)

pub run-centre : (tools : Tools) (w : Schedule) → centre_in (transcript tools w) ≡ centre_of (stations w)
unfolding centre_in stations_of transcript run_lines end_line NotDeclared
run-centre tools w = ap centre_of
    (fold-append station_line [] (start w ++ groups tools w (start w) [] 1 w.events)
    (end_line tools (length w.events) (start w ++ groups tools w (start w) [] 1 w.events) ∷ [])
    ∙ fold-append station_line [] (start w) (groups tools w (start w) [] 1 w.events)
    ∙ ap (λ x. fold station_line x (groups tools w (start w) [] 1 w.events)) (start-stations w)
    ∙ no-stations (stations w) (groups tools w (start w) [] 1 w.events)
    (groups-undeclared tools w (start w) [] 1 w.events))

-- The law

run-claims : (tools : Tools) → Opens tools → SpellsConfirm tools → (w : Schedule) → IsSchedule w → OneCentre w
    → Each (ConfirmLine tools (centre_of (stations w))) [] (run_lines tools w)
unfolding run_lines
run-claims tools opens spells w i one =
    each-append (ConfirmLine tools (centre_of (stations w))) [] (start w) (groups tools w (start w) [] 1 w.events)
    (plain tools (centre_of (stations w)) [] (start w) (start-plain w))
    (groups-claims tools opens spells w i one (start w) [] 1 w.events i.events (start-firm w (centre_of (stations w))))

transcript-claims : (tools : Tools) → Opens tools → SpellsConfirm tools → (w : Schedule) → IsSchedule w → OneCentre w
    → Each (ConfirmLine tools (centre_of (stations w))) [] (transcript tools w)
unfolding transcript end_line
transcript-claims tools opens spells w i one =
    each-append (ConfirmLine tools (centre_of (stations w))) [] (run_lines tools w)
    (end_line tools (length w.events) (run_lines tools w) ∷ []) (run-claims tools opens spells w i one) (tt, tt)

pub confirms : (tools : Tools) → Opens tools → SpellsConfirm tools → (w : Schedule) → IsSchedule w → OneCentre w
    → Confirms tools (transcript tools w)
confirms tools opens spells w i one = subst (λ c. Each (ConfirmLine tools c) [] (transcript tools w))
    (sym (run-centre tools w)) (transcript-claims tools opens spells w i one)
