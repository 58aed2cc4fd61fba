-- What we claim about whole runs, as relations between lines. Each claim is by recursion on the list of lines, with
-- the earlier lines as a parameter if the claim mentions them.
use Rattle.std.specs.Prelude.{ℕ, ◌≡◌, ◌<◌, ◌≤◌, ◌+◌, min, ◌⊎◌, Bool, true, false, if◌then◌else◌, List, [], ◌∷◌, ◌++◌, length, fold, filter, Option, Some, None, nat_eq, flat_map, ⊤}
use Rattle.std.specs.List.{AllByRecursion, Any}
use Rattle.zb_model.specs.Data.{Bytes, Nwk, Aps, Verified, Term, Draw, DropLink, Install, Row, Live, Removed, Moved, ConfirmKey}
use Rattle.zb_model.specs.Lines.{Line, Changed, Commit, Accept, Seal, Forge}
use Rattle.zb_model.specs.State.{NetKey, live_nets}
use Rattle.zb_model.specs.Record.{four_bytes, eight_bytes}
use Rattle.zb_model.specs.Tools.{Tools, Known, sealing_key}
use Rattle.zb_model.specs.Answer.{Counting}
use Rattle.zb_model.specs.Readings.{state_of}
use Rattle.zb_model.specs.Play.{Schedule, Event, Step, Disk, start, step_by}
use Rattle.zb_model.specs.Secrets.{exposed, ever, outside, well_known, centre_in, is_command_header, forged_in}
use Rattle.zb_model.specs.Transcript.{end_line}

-- Nonces

-- The nonce of a term: source, counter, control, each least significant byte first (05-3474-21, 4.5.2.2).
unfoldable pub nonce : Term → Bytes
nonce t = eight_bytes t.source ++ (four_bytes t.counter ++ t.control ∷ [])

pub record Stamp : Type 0 where
  pub key : Bytes
  pub nonce : Bytes

unfoldable pub stamp : Tools → Term → Stamp
stamp tools t = record { key = sealing_key tools t.label t.base; nonce = nonce t }

abbrev pub sealed_in : Line → List Term
sealed_in (Seal e n t) = t ∷ []
sealed_in _ = []

unfoldable pub sealed_terms : List Line → List Term
sealed_terms lines = flat_map sealed_in lines

abbrev pub AreApart : Tools → List Term → Type 0
AreApart tools [] = ⊤
AreApart tools (t ∷ ts) = AllByRecursion (λ u. stamp tools t ≡ stamp tools u → ⊥) ts × AreApart tools ts

-- No two seal lines have the same sealing key and the same nonce.
abbrev pub Fresh : Tools → List Line → Type 0
Fresh tools lines = AreApart tools (sealed_terms lines)

-- Accepted counters

-- the later of two accepted terms of one receiver, layer, base key and source has the greater counter
abbrev pub Rises : ℕ → Term → Line → Type 0
Rises n t (Accept e m u) = n ≡ m → t.layer ≡ u.layer → t.base ≡ u.base → t.source ≡ u.source → t.counter < u.counter
Rises n t _ = ⊤

abbrev pub OnceFrom : Line → List Line → Type 0
OnceFrom (Accept e n t) ls = AllByRecursion (Rises n t) ls
OnceFrom _ ls = ⊤

-- No receiver accepts a sender's counter twice under one key, resets included.
abbrev pub Once : List Line → Type 0
Once [] = ⊤
Once (l ∷ ls) = OnceFrom l ls × Once ls

-- Confirmed keys

-- the change takes away the verified link row of a partner and a key: a drop, or another attribute
abbrev pub Unsettles : ℕ → ℕ → Bytes → Line → Type 0
Unsettles c d b (Changed e n (Moved (DropLink partner key))) = (n ≡ c) × (partner ≡ d) × (key ≡ b)
Unsettles c d b (Changed e n (Moved (Row partner key attribute))) = (n ≡ c) × (partner ≡ d) × (key ≡ b)
    × (attribute ≡ Verified → ⊥)
Unsettles c d b _ = ⊥

-- The centre stored the key as verified before, and no later change took that away.
pub record StoredVerified (h : List Line) (c d : ℕ) (b : Bytes) : Type 0 where
  pub before : List Line
  pub between : List Line
  pub later : List Line
  pub row_event : ℕ
  pub commit_event : ℕ
  pub shape : h ≡ (before ++ Changed row_event c (Moved (Row d b Verified)) ∷ between) ++ Commit commit_event c ∷ later
  pub settled : AllByRecursion (λ l. Unsettles c d b l → ⊥) (between ++ later)

-- the content of a sealed APS command is a Confirm-Key of status 0 for a device
abbrev pub Confirming : Tools → Term → ℕ → Type 0
Confirming tools t d = (t.layer ≡ Aps) × (is_command_header t.header ≡ true)
    × ((kind : ℕ) × (tools.read_command t.content ≡ Known (ConfirmKey 0 kind d)))

abbrev pub ConfirmLine : Tools → ℕ → List Line → Line → Type 0
ConfirmLine tools c h (Seal e n t) = (d : ℕ) → Confirming tools t d → (n ≡ c) × StoredVerified h c d t.base
ConfirmLine tools c h _ = ⊤

-- A claim on each line and the lines before it.
abbrev pub Each : (List Line → Line → Type 0) → List Line → List Line → Type 0
Each P h [] = ⊤
Each P h (l ∷ ls) = P h l × Each P (h ++ l ∷ []) ls

-- Only stored keys are confirmed.
abbrev pub Confirms : Tools → List Line → Type 0
Confirms tools lines = Each (ConfirmLine tools (centre_in lines)) [] lines

-- Which lines a schedule gives

-- A group answers an event, with some counters: the policy says nothing about these.
abbrev pub Answers : Tools → Schedule → List Line → List Disk → ℕ → Event → Step → Type 0
Answers tools w h disks number event g = (k : Counting) × (g ≡ step_by tools (λ c s p. k) w h disks number event)

abbrev pub LawfulFrom : Tools → Schedule → List Line → List Disk → ℕ → List Event → List Line → Type 0
LawfulFrom tools w h disks number [] rest = rest ≡ []
LawfulFrom tools w h disks number (event ∷ events) rest =
    (g : Step) × (more : List Line) × (rest ≡ g.lines ++ more) × Answers tools w h disks number event g
    × LawfulFrom tools w (h ++ g.lines) g.disks (number + 1) events more

-- The lines are the start lines, then one group for each event in order, then the end line. Each group is an answer to
-- the lines before it, or is cut by a stop or failure.
abbrev pub Lawful : Tools → Schedule → List Line → Type 0
Lawful tools w lines =
    (groups : List Line) × (lines ≡ (start w ++ groups) ++ end_line tools (length w.events) (start w ++ groups) ∷ [])
    × LawfulFrom tools w (start w) [] 1 w.events groups

-- Lockout

abbrev pub is_live_line : ℕ → Line → Bool
is_live_line d (Changed e n (Moved (Live device))) = nat_eq device d
is_live_line d _ = false

-- the lines up to a device's next `live` line
abbrev pub until_live : ℕ → List Line → List Line
until_live d [] = []
until_live d (l ∷ ls) = if is_live_line d l then [] else l ∷ until_live d ls

abbrev pub drawn_in : Line → List Bytes
drawn_in (Changed e n (Moved (Draw key))) = key ∷ []
drawn_in _ = []

abbrev pub taken_in : ℕ → Line → List Bytes
taken_in d (Changed e n (Moved (Install key sequence))) = if nat_eq n d then key ∷ [] else []
taken_in d (Changed e n (Moved (Row partner key attribute))) = if nat_eq n d then key ∷ [] else []
taken_in d _ = []

abbrev pub Among : List Bytes → Bytes → Type 0
Among keys key = Any (λ k. k ≡ key) keys

-- None of the keys drawn after the removal is in a row of the device, or comes out for it.
abbrev pub Obtains : Tools → List Line → ℕ → Bytes → Type 0
Obtains tools taken d key = Among (flat_map (taken_in d) taken) key
    ⊎ Among (exposed tools taken (well_known ∷ ever taken d)) key

abbrev pub KeepsOut : Tools → List Line → List Line → ℕ → Type 0
KeepsOut tools h after d = (key : Bytes) → Among (flat_map drawn_in (until_live d after)) key
    → Obtains tools (h ++ until_live d after) d key → ⊥

abbrev pub event_of : Line → ℕ
event_of (Changed e n edit) = e
event_of (Commit e n) = e
event_of (Accept e n t) = e
event_of (Rattle.zb_model.specs.Lines.Line.Refuse e n place reason) = e
event_of (Seal e n t) = e
event_of (Forge e t) = e
event_of (Rattle.zb_model.specs.Lines.Line.Send e n frame bytes) = e
event_of (Rattle.zb_model.specs.Lines.Line.Inject e frame bytes) = e
event_of (Rattle.zb_model.specs.Lines.Line.Stopped e n) = e
event_of (Rattle.zb_model.specs.Lines.Line.DownReset e n) = e
event_of (Rattle.zb_model.specs.Lines.Line.DownDisk e n) = e
event_of (Rattle.zb_model.specs.Lines.Line.Boot e n) = e
event_of (Rattle.zb_model.specs.Lines.Line.Dump e n bytes) = e
event_of _ = 0

-- the lines before a group: those of events other than its own
unfoldable pub before_group : ℕ → List Line → List Line
before_group event h = filter (λ l. Rattle.std.specs.Prelude.not (nat_eq (event_of l) event)) h

-- none of a node's live network keys is known outside
abbrev pub HoldsNoneKnown : Tools → List Line → ℕ → Type 0
HoldsNoneKnown tools h n = AllByRecursion (λ (r : NetKey). Among (exposed tools h (outside h)) r.key → ⊥)
    (live_nets (state_of h n))

abbrev pub seals_of : ℕ → Line → List Term
seals_of d (Seal e n t) = if nat_eq n d then t ∷ [] else []
seals_of d _ = []

abbrev pub HasTerm : List Term → Term → Type 0
HasTerm terms t = Any (λ u. u ≡ t) terms

-- `h` are the lines up to the removal, `since` those after it and before this one. So a term counts if the device
-- sealed it between its removal and this acceptance; what the device seals later isn't on the air yet.
abbrev pub RefusesLine : Tools → ℕ → List Line → List Line → Line → Type 0
RefusesLine tools d h since (Accept e n t) =
    t.layer ≡ Nwk → HoldsNoneKnown tools (before_group e (h ++ since)) n
    → HasTerm (flat_map (seals_of d) since) t ⊎ HasTerm (flat_map forged_in (h ++ since)) t → ⊥
RefusesLine tools d h since _ = ⊤

abbrev pub Refuses : Tools → List Line → List Line → ℕ → Type 0
Refuses tools h after d = Each (RefusesLine tools d h) [] (until_live d after)

abbrev pub LockedLine : Tools → List Line → Line → List Line → Type 0
LockedLine tools h (Changed e n (Moved (Removed d))) after =
    KeepsOut tools (h ++ Changed e n (Moved (Removed d)) ∷ []) after d
    × Refuses tools (h ++ Changed e n (Moved (Removed d)) ∷ []) after d
LockedLine tools h _ after = ⊤

abbrev pub LockedFrom : Tools → List Line → List Line → Type 0
LockedFrom tools h [] = ⊤
LockedFrom tools h (l ∷ ls) = LockedLine tools h l ls × LockedFrom tools (h ++ l ∷ []) ls

-- A removed device that isn't admitted again obtains no key that is drawn later. A node none of whose network keys is
-- known outside accepts at NWK neither what the device seals later nor what is forged.
abbrev pub Locked : Tools → List Line → Type 0
Locked tools lines = LockedFrom tools [] lines
