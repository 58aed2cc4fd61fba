-- How the audit follows a link row of the centre, along lines that declare nothing.
use Rattle.std.proofs.Common.{◌≡◌, ℕ, ◌&&◌, Bool, true, false, cond, List, [], ◌∷◌, ◌++◌, map, fold, nat_eq, bytes_eq, refl, sym, ap, ◌∙◌, subst, append_assoc, eqb-true, eq-eqb}
use Rattle.std.specs.List.{AllByRecursion}
use Rattle.std.proofs.lemmas.Bool.{and_parts}
use Rattle.std.proofs.lemmas.Slice.Eq.{bytes_eq-Decides}
use Rattle.zb_audit.specs.Confirming.{Absent, Kept, Made, RowState, committed, is_kept, is_row, made, row_becomes, row_from, row_in, with_attribute}
use Rattle.law_audit_sound.proofs.Declaring.{Centred, NotDeclared, declares_none, declares_nodes}
use Rattle.zb_audit_names.specs.Naming.{declares, is_centres}
use Rattle.law_audit_groups.specs.Printing.{printed}
use Rattle.zb_model.specs.Claims.{StoredVerified, Unsettles}
use Rattle.zb_model.specs.Data as model
use Rattle.zb_model.specs.Data.{Bytes, Station}
use Rattle.zb_model.specs.Lines as log
use Rattle.zb_model.specs.Lines.{Declared, Line}
use Rattle.zb_trace_model.specs.Naming.{IsDeclared, NamesDiffer, name_of}
use Rattle.zb_trace_model.specs.Parts.{attribute_for}
use Rattle.zb_trace_model.specs.Said.{IsOfNodes, line_for}

-- ---- lists of lines

pub all_left : {X : Type 0} (P : X → Type 0) (xs ys : List X) → AllByRecursion P (xs ++ ys) → AllByRecursion P xs
all_left P [] ys all = tt
all_left P (x ∷ xs) ys all = (all.0, all_left P xs ys all.1)

pub all_right : {X : Type 0} (P : X → Type 0) (xs ys : List X) → AllByRecursion P (xs ++ ys) → AllByRecursion P ys
all_right P [] ys all = all
all_right P (x ∷ xs) ys all = all_right P xs ys all.1

abbrev first_or : Line → List Line → Line
first_or m [] = m
first_or m (l ∷ ls) = l

abbrev others : List Line → List Line
others [] = []
others (l ∷ ls) = ls

-- a line that declares nothing comes after those that declare
behind_declared : (ps : List Station) (g before tail : List Line) (m : Line) → NotDeclared m → map Declared ps ++ g
    ≡ before ++ m ∷ tail → (front : List Line) × (g ≡ front ++ m ∷ tail)
behind_declared [] g before tail m plain is = (before, is)
behind_declared (p ∷ ps) g [] tail m plain is = absurd (subst NotDeclared (sym (ap (first_or m) is)) plain)
behind_declared (p ∷ ps) g (l ∷ before) tail m plain is = behind_declared ps g before tail m plain (ap others is)

-- ---- one line

-- what a settled row keeps: it is made again, or a commit comes
record IsSteady (P : RowState → Type 0) : Type 0 where
  made_too : (s : RowState) → P s → P (made s)
  committed_too : (s : RowState) → P s → P (committed s)

if_so : (P : RowState → Type 0) (b : Bool) (x s : RowState) → (b ≡ true → P x) → P s → P (cond b x s)
if_so P true x s there held = there refl
if_so P false x s there held = held

abbrev IsSettled : ℕ → ℕ → Bytes → Line → Type 0
IsSettled c d b m = Unsettles c d b m → ⊥

record IsThat (c d : ℕ) (b : Bytes) (j partner : ℕ) (key : Bytes) : Type 0 where
  node : j ≡ c
  partner_is : partner ≡ d
  key_is : key ≡ b

is_that : (known : List Station) (c d : ℕ) (b : Bytes) → Centred known c → (j partner : ℕ) (key : Bytes)
    → IsDeclared known j → (is_centres known (name_of known j) && is_row d b partner key) ≡ true
    → IsThat c d b j partner key
is_that known c d b centred j partner key its e =
    let first = and_parts (is_centres known (name_of known j)) (is_row d b partner key) e in
    let second = and_parts (nat_eq partner d) (bytes_eq key b) first.1 in
    record {
      node = eqb-true j c (sym (centred j its) ∙ first.0);
      partner_is = eqb-true partner d second.0;
      key_is = (bytes_eq-Decides key b).0 second.1;
    }

abbrev IsVerified : model.Attribute → Type 0
IsVerified model.Provisional = ⊥
IsVerified model.Unverified = ⊥
IsVerified model.Verified = Unit {0}

row_changed : (P : RowState → Type 0) → IsSteady P → (c d : ℕ) (b : Bytes) (event j partner : ℕ) (key : Bytes)
    (a : model.Attribute) → IsSettled c d b (log.Changed event j (model.Moved (model.Row partner key a)))
    → IsThat c d b j partner key
    → (s : RowState) → P s → P (with_attribute (attribute_for a) s)
row_changed P steady c d b event j partner key model.Provisional settled that s held =
    absurd (settled (that.node, that.partner_is, that.key_is, λ e. subst IsVerified (sym e) tt))
row_changed P steady c d b event j partner key model.Unverified settled that s held =
    absurd (settled (that.node, that.partner_is, that.key_is, λ e. subst IsVerified (sym e) tt))
row_changed P steady c d b event j partner key model.Verified settled that s held = steady.made_too s held

row_held : (P : RowState → Type 0) → IsSteady P → (known : List Station) (c d : ℕ) (b : Bytes) → Centred known c
    → (m : Line) → IsOfNodes known m → IsSettled c d b m → (s : RowState) → P s
    → P (row_becomes d b known s (line_for known m))
unfolding line_for
row_held P steady known c d b centred (log.Declared p) is settled s held = held
row_held P steady known c d b centred (log.GivenNet j key sequence) is settled s held = held
row_held P steady known c d b centred (log.GivenLink j partner key) is settled s held = held
row_held P steady known c d b centred (log.Counter j l limit) is settled s held = held
row_held P steady known c d b centred (log.Commit event j) is settled s held =
    if_so P (is_centres known (name_of known j)) (committed s) s (λ e. steady.committed_too s held) held
row_held P steady known c d b centred (log.Accept event j t) is settled s held = held
row_held P steady known c d b centred (log.Refuse event j at why) is settled s held = held
row_held P steady known c d b centred (log.Seal event j t) is settled s held = held
row_held P steady known c d b centred (log.Forge event t) is settled s held = held
row_held P steady known c d b centred (log.Send event from frame bytes) is settled s held = held
row_held P steady known c d b centred (log.Inject event frame bytes) is settled s held = held
row_held P steady known c d b centred (log.Stopped event j) is settled s held = held
row_held P steady known c d b centred (log.DownReset event j) is settled s held = held
row_held P steady known c d b centred (log.DownDisk event j) is settled s held = held
row_held P steady known c d b centred (log.Boot event j) is settled s held = held
row_held P steady known c d b centred (log.Dump event j bytes) is settled s held = held
row_held P steady known c d b centred (log.End events seals accepts refusals ideal private) is settled s held = held
row_held P steady known c d b centred (log.Changed event j (model.Reserve l limit)) is settled s held = held
row_held P steady known c d b centred (log.Changed event j (model.Floor l k from value)) is settled s held = held
row_held P steady known c d b centred (log.Changed event j (model.Start k value)) is settled s held = held
row_held P steady known c d b centred (log.Changed event j (model.Moved (model.Draw key))) is settled s held = held
row_held P steady known c d b centred (log.Changed event j (model.Moved (model.DropNet key))) is settled s held = held
row_held P steady known c d b centred (log.Changed event j (model.Moved (model.DropLink partner key))) is settled s
    held =
    if_so P (is_centres known (name_of known j) && is_row d b partner key) Absent s
    (λ e. let that = is_that known c d b centred j partner key is.0 e in absurd
    (settled (that.node, that.partner_is, that.key_is))) held
row_held P steady known c d b centred (log.Changed event j (model.Moved (model.Install key sequence))) is settled s
    held = held
row_held P steady known c d b centred (log.Changed event j (model.Moved (model.Active key))) is settled s held = held
row_held P steady known c d b centred (log.Changed event j (model.Moved (model.Row partner key attribute))) is settled
    s held =
    if_so P (is_centres known (name_of known j) && is_row d b partner key)
    (with_attribute (attribute_for attribute) s) s
    (λ e. row_changed P steady c d b event j partner key attribute settled
    (is_that known c d b centred j partner key is.0 e) s held) held
row_held P steady known c d b centred (log.Changed event j (model.Moved (model.Pair first second key))) is settled s
    held = held
row_held P steady known c d b centred (log.Changed event j (model.Moved (model.Became state))) is settled s held = held
row_held P steady known c d b centred (log.Changed event j (model.Moved (model.Live device))) is settled s held = held
row_held P steady known c d b centred (log.Changed event j (model.Moved (model.Removed device))) is settled s held =
    held
row_held P steady known c d b centred (log.Changed event j (model.Moved (model.Roll sending))) is settled s held = held
row_held P steady known c d b centred (log.Changed event j (model.Moved (model.Told device))) is settled s held = held
row_held P steady known c d b centred (log.Changed event j (model.Moved (model.Untold device))) is settled s held =
    held

-- ---- lines

rows_held : (P : RowState → Type 0) → IsSteady P → (known : List Station) (c d : ℕ) (b : Bytes) → Centred known c
    → (g : List Line) → AllByRecursion (IsOfNodes known) g → AllByRecursion NotDeclared g
    → AllByRecursion (IsSettled c d b) g → (s : RowState) → P s → P (row_from d b known s (printed known g))
unfolding row_from
rows_held P steady known c d b centred [] of plain settled s held = held
rows_held P steady known c d b centred (m ∷ g) of plain settled s held =
    subst (λ (ks : List Station). P (row_from d b ks (row_becomes d b known s (line_for known m)) (printed known g)))
    (sym (declares_none known known m plain.0))
    (rows_held P steady known c d b centred g of.1 plain.1 settled.1 (row_becomes d b known s (line_for known m))
    (row_held P steady known c d b centred m of.0 settled.0 s held))

row_from_more : (known : List Station) (d : ℕ) (b : Bytes) (xs ys : List Line) → AllByRecursion NotDeclared xs
    → (s : RowState) → row_from d b known s (printed known (xs ++ ys))
    ≡ row_from d b known (row_from d b known s (printed known xs)) (printed known ys)
unfolding row_from
row_from_more known d b [] ys plain s = refl
row_from_more known d b (m ∷ xs) ys plain s =
    ap (λ (ks : List Station). row_from d b ks (row_becomes d b known s (line_for known m))
    (printed known (xs ++ ys))) (declares_none known known m plain.0)
    ∙ row_from_more known d b xs ys plain.1 (row_becomes d b known s (line_for known m))
    ∙ ap (λ (ks : List Station). row_from d b known
    (row_from d b ks (row_becomes d b known s (line_for known m)) (printed known xs)) (printed known ys))
    (sym (declares_none known known m plain.0))

row_declared : (known : List Station) (d : ℕ) (b : Bytes) (s : RowState) (ps ks : List Station) (g : List Line)
    → row_from d b ks s (printed known (map Declared ps ++ g))
    ≡ row_from d b (fold declares ks (printed known (map Declared ps))) s (printed known g)
unfolding row_from line_for
row_declared known d b s [] ks g = refl
row_declared known d b s (p ∷ ps) ks g = row_declared known d b s ps (declares ks (line_for known (Declared p))) g

-- ---- a stored row

abbrev IsThere : RowState → Type 0
IsThere Absent = ⊥
IsThere Made = Unit {0}
IsThere Kept = Unit {0}

abbrev IsKept : RowState → Type 0
IsKept s = is_kept s ≡ true

made_there : (s : RowState) → IsThere (made s)
made_there Absent = tt
made_there Made = tt
made_there Kept = tt

committed_there : (s : RowState) → IsThere s → IsThere (committed s)
committed_there Absent there = there
committed_there Made there = tt
committed_there Kept there = tt

steady_there : IsSteady IsThere
steady_there = record { made_too = λ s there. made_there s; committed_too = committed_there }

made_kept : (s : RowState) → IsKept s → IsKept (made s)
made_kept Absent kept = kept
made_kept Made kept = kept
made_kept Kept kept = kept

committed_kept : (s : RowState) → IsKept s → IsKept (committed s)
committed_kept Absent kept = kept
committed_kept Made kept = refl
committed_kept Kept kept = kept

steady_kept : IsSteady IsKept
steady_kept = record { made_too = made_kept; committed_too = committed_kept }

there_kept : (s : RowState) → IsThere s → IsKept (committed s)
there_kept Absent there = absurd there
there_kept Made there = refl
there_kept Kept there = refl

-- the row's line, that commit, and what comes between and after them
kept_by : (known : List Station) (c d : ℕ) (b : Bytes) → Centred known c → IsDeclared known c
    → (row_event commit_event : ℕ) (front between later : List Line)
    → AllByRecursion NotDeclared (front ++ log.Changed row_event c (model.Moved (model.Row d b model.Verified))
    ∷ (between ++ log.Commit commit_event c ∷ later))
    → AllByRecursion (IsOfNodes known) (front ++ log.Changed row_event c (model.Moved (model.Row d b model.Verified))
    ∷ (between ++ log.Commit commit_event c ∷ later))
    → AllByRecursion (IsSettled c d b) (between ++ later) → (s : RowState)
    → IsKept
    (row_from d b known s
    (printed known (front ++ log.Changed row_event c (model.Moved (model.Row d b model.Verified))
    ∷ (between ++ log.Commit commit_event c ∷ later))))
unfolding row_from line_for
kept_by known c d b centred its row_event commit_event front between later plain of settled s =
    let row = log.Changed row_event c (model.Moved (model.Row d b model.Verified)) in
    let commit = log.Commit commit_event c in
    let tail = between ++ commit ∷ later in
    let plain_tail = (all_right NotDeclared front (row ∷ tail) plain).1 in
    let of_tail = (all_right (IsOfNodes known) front (row ∷ tail) of).1 in
    let before = row_from d b known s (printed known front) in
    let at_row : row_from d b known before (printed known (row ∷ tail))
    ≡ row_from d b known (made before) (printed known tail) =
    ap (λ (ks : List Station). row_from d b ks (row_becomes d b known before (line_for known row))
    (printed known tail)) (declares_none known known row tt)
    ∙ ap (λ (t : Bool). row_from d b known (cond t (made before) before) (printed known tail)) its_row in
    let mid = row_from d b known (made before) (printed known between) in
    let at_commit : row_from d b known mid (printed known (commit ∷ later))
    ≡ row_from d b known (committed mid) (printed known later) =
    ap (λ (ks : List Station). row_from d b ks (row_becomes d b known mid (line_for known commit))
    (printed known later)) (declares_none known known commit tt)
    ∙ ap (λ (t : Bool). row_from d b known (cond t (committed mid) mid) (printed known later)) its_own in
    let whole : row_from d b known s (printed known (front ++ row ∷ tail))
    ≡ row_from d b known (committed mid) (printed known later) =
    row_from_more known d b front (row ∷ tail) (all_left NotDeclared front (row ∷ tail) plain) s ∙ at_row
    ∙ row_from_more known d b between (commit ∷ later) (all_left NotDeclared between (commit ∷ later) plain_tail)
    (made before) ∙ at_commit in
    let there : IsThere mid =
    rows_held IsThere steady_there known c d b centred between
    (all_left (IsOfNodes known) between (commit ∷ later) of_tail)
    (all_left NotDeclared between (commit ∷ later) plain_tail)
    (all_left (IsSettled c d b) between later settled) (made before) (made_there before) in
    subst IsKept (sym whole)
    (rows_held IsKept steady_kept known c d b centred later
    (all_right (IsOfNodes known) between (commit ∷ later) of_tail).1
    (all_right NotDeclared between (commit ∷ later) plain_tail).1
    (all_right (IsSettled c d b) between later settled) (committed mid) (there_kept mid there))
  where
    its_own : is_centres known (name_of known c) ≡ true
    its_own = centred c its ∙ eq-eqb c c refl

    its_row : (is_centres known (name_of known c) && is_row d b d b) ≡ true
    its_row = ap (λ (x : Bool). x && is_row d b d b) its_own ∙
        (ap (λ (x : Bool). x && bytes_eq b b) (eq-eqb d d refl) ∙ (bytes_eq-Decides b b).1 refl)

-- what the model calls stored as verified is kept in the audit's reading
pub stored_kept : (known : List Station) → NamesDiffer known → (c d : ℕ) (b : Bytes) → Centred known c
    → IsDeclared known c → (g h : List Line) → h ≡ map Declared known ++ g → AllByRecursion NotDeclared g
    → AllByRecursion (IsOfNodes known) g
    → StoredVerified h c d b → is_kept (row_in (printed known h) d b) ≡ true
unfolding row_in
stored_kept known differ c d b centred its g h begins plain of stored =
    let row = log.Changed stored.row_event c (model.Moved (model.Row d b model.Verified)) in
    let tail = stored.between ++ log.Commit stored.commit_event c ∷ stored.later in
    let split : map Declared known ++ g ≡ stored.before ++ row ∷ tail = sym begins ∙ stored.shape ∙ append_assoc
    stored.before (row ∷ stored.between) (log.Commit stored.commit_event c ∷ stored.later) in
    let found = behind_declared known g stored.before tail row tt split in
    subst (λ (ls : List Line). IsKept (row_from d b [] Absent (printed known ls))) (sym begins)
    (subst IsKept (sym (row_declared known d b Absent known [] g))
    (subst (λ (ks : List Station). IsKept (row_from d b ks Absent (printed known g)))
    (sym (declares_nodes known [] known differ))
    (subst (λ (ls : List Line). IsKept (row_from d b known Absent (printed known ls))) (sym found.1)
    (kept_by known c d b centred its stored.row_event stored.commit_event found.0 stored.between stored.later
    (subst (λ (ls : List Line). AllByRecursion NotDeclared ls) found.1 plain)
    (subst (λ (ls : List Line). AllByRecursion (IsOfNodes known) ls) found.1 of) stored.settled Absent))))
