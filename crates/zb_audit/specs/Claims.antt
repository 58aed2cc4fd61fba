-- What holds for lines if none of them is bad, as relations between lines.
use Rattle.std.specs.Prelude.{◌≡◌, ◌<◌, ℕ, true, List, [], ◌∷◌, ◌++◌, Some, ⊤}
use Rattle.std.specs.List.{AllByRecursion}
use Rattle.zb_audit.specs.Confirming.{confirmed}
use Rattle.zb_audit.specs.declared.fault.Verdict.{Verdict}
use Rattle.zb_base.specs.declared.address.Eui.{Eui}
use Rattle.zb_base.specs.declared.state.Attribute.TheVariants.{Verified}
use Rattle.zb_audit_names.specs.Naming.{declared_in, is_centres}
use Rattle.zb_audit_lockout.specs.Lockout.{locked}
use Rattle.zb_model.specs.Data.{Bytes}
use Rattle.zb_model.specs.Tools.{Tools}
use Rattle.zb_seal.specs.Keys.{sealing_key}
use Rattle.zb_seal.specs.declared.term.Term.{Term}
use Rattle.zb_trace.specs.declared.line.Line.{Line}
use Rattle.zb_trace.specs.declared.line.Line.TheVariants as line

-- Nonces

-- A later seal is under another key, or has another source, counter or control byte.
abbrev pub SealsApart : Term → Line → Type 0
SealsApart t (line.Seal event node u) =
    sealing_key t.label t.base.0 ≡ sealing_key u.label u.base.0 → t.source.0 ≡ u.source.0 → t.counter ≡ u.counter
    → t.control ≡ u.control → ⊥
SealsApart t _ = ⊤

abbrev pub FreshFrom : Line → List Line → Type 0
FreshFrom (line.Seal event node t) ls = AllByRecursion (SealsApart t) ls
FreshFrom _ ls = ⊤

-- No two seal lines have the same sealing key and the same nonce.
abbrev pub Fresh : List Line → Type 0
Fresh [] = ⊤
Fresh (l ∷ ls) = FreshFrom l ls × Fresh ls

-- Accepted counters

-- The later of two accepted terms of one receiver, layer, base key and source has the greater counter.
abbrev pub Rises : Bytes → Term → Line → Type 0
Rises name t (line.Accept event node u) = node.bytes ≡ name → t.layer ≡ u.layer → t.base.0 ≡ u.base.0 → t.source.0
    ≡ u.source.0 → t.counter < u.counter
Rises name t _ = ⊤

abbrev pub OnceFrom : Line → List Line → Type 0
OnceFrom (line.Accept event node t) ls = AllByRecursion (Rises node.bytes t) ls
OnceFrom _ ls = ⊤

-- No receiver accepts a sender's counter twice under one key.
abbrev pub Once : List Line → Type 0
Once [] = ⊤
Once (l ∷ ls) = OnceFrom l ls × Once ls

-- Confirmed keys

-- By the lines before, the node of that name is the centre.
abbrev pub IsOfCentre : List Line → Bytes → Type 0
IsOfCentre h name = is_centres (declared_in h) name ≡ true

-- A row line of the centre makes the link row of a partner and a key verified.
abbrev pub Verifies : ℕ → Bytes → List Line → Line → Type 0
Verifies d b h (line.Row event node partner key a) = IsOfCentre h node.bytes × (partner.0 ≡ d) × (key.0 ≡ b)
    × (a ≡ Verified)
Verifies d b h _ = ⊥

-- A line of the centre ends that: it drops the row, or gives the row another attribute.
abbrev pub Unsettles : ℕ → Bytes → List Line → Line → Type 0
Unsettles d b h (line.DropLink event node partner key) = IsOfCentre h node.bytes × (partner.0 ≡ d) × (key.0 ≡ b)
Unsettles d b h (line.Row event node partner key a) = IsOfCentre h node.bytes × (partner.0 ≡ d) × (key.0 ≡ b)
    × (a ≡ Verified → ⊥)
Unsettles d b h _ = ⊥

-- A commit of the centre.
abbrev pub Commits : List Line → Line → Type 0
Commits h (line.Commit event node) = IsOfCentre h node.bytes
Commits h _ = ⊥

-- A claim about each line and the lines before it.
abbrev pub Each : (List Line → Line → Type 0) → List Line → List Line → Type 0
Each P h [] = ⊤
Each P h (l ∷ ls) = P h l × Each P (h ++ l ∷ []) ls

-- The centre made the row of a device and a key verified, and stored the row with a commit. Nothing has unsettled the
-- row since.
pub record StoredVerified (h : List Line) (d : ℕ) (b : Bytes) : Type 0 where
  pub before : List Line
  pub row : Line
  pub between : List Line
  pub commit : Line
  pub later : List Line
  pub shape : h ≡ (before ++ row ∷ between) ++ commit ∷ later
  pub verified : Verifies d b before row
  pub stored : Commits (before ++ row ∷ between) commit
  pub settled : Each (λ g l. Unsettles d b g l → ⊥) (before ++ row ∷ []) (between ++ commit ∷ later)

-- If a seal confirms a device's key, the centre made it, and has stored that key as verified.
abbrev pub ConfirmLine : List Line → Line → Type 0
ConfirmLine h (line.Seal event node t) = (device : Eui) → confirmed t ≡ Some device → IsOfCentre h node.bytes
    × StoredVerified h device.0 t.base.0
ConfirmLine h _ = ⊤

-- Only stored keys are confirmed.
abbrev pub Confirms : List Line → Type 0
Confirms lines = Each ConfirmLine [] lines

-- All that we claim about lines with this verdict. Lockout is claimed if the verdict's word for it is true.
pub record Keeps (tools : Tools) (v : Verdict) (lines : List Line) : Type 0 where
  pub fresh : Fresh lines
  pub once : Once lines
  pub confirms : Confirms lines
  pub locked : v.locked ≡ true → locked tools lines ≡ true
