-- The lines of a group by their kinds: what a function of lines gives over a whole group.
use Rattle.std.proofs.Common.{◌≡◌, ℕ, ◌+◌, List, [], ◌∷◌, ◌++◌, map, filter, length, Option, Some, None, option_map, option_to_list, flat_map, refl, sym, ap, ◌∙◌}
use Rattle.std.specs.List.{AllByRecursion}
use Rattle.zb_model.specs.Data.{Bytes, Layer, Nwk, Aps, Term, Edit, Reserve, Floor, Start, Moved, Move, Draw, DropNet, DropLink, Install, Active, Row, Pair, Became, Live, Removed, Roll, Told, Untold, Place, Reason}
use Rattle.zb_model.specs.Lines.{Line, Changed, Commit, Accept, Refuse, Seal, Send}
use Rattle.zb_model.specs.State.{NodeState}
use Rattle.zb_model.specs.Rules.{Plan}
use Rattle.zb_model.specs.Answer.{Answer, Counting, reserve_edit, floor_edit, start_edit, move_edits, moves_of, changes, edits_of}
use Rattle.zb_model.specs.Readings.{air}
use Rattle.zb_model.specs.Play.{commit_lines, refuse_lines, send_lines, stored_lines, told_lines, group_of}
use Rattle.law_run.proofs.Basics.{append-nil', flat_map-append}
use Rattle.law_run.proofs.FreshLines.{all-append}
use Rattle.law_run_counters.specs.Counted.{reserve_there, floor_there}

-- Lists

pub flat-map : {X Y Z : Type 0} (F : Y → List Z) (f : X → Y) (xs : List X) → flat_map F (map f xs)
    ≡ flat_map (λ x. F (f x)) xs
flat-map F f [] = refl
flat-map F f (x ∷ xs) = ap (λ l. F (f x) ++ l) (flat-map F f xs)

pub flat-none : {X Y : Type 0} (F : X → List Y) (P : X → Type 0) → ((x : X) → P x → F x ≡ []) → (xs : List X)
    → AllByRecursion P xs → flat_map F xs ≡ []
flat-none F P k [] a = refl
flat-none F P k (x ∷ xs) a = ap (λ l. l ++ flat_map F xs) (k x a.0) ∙ flat-none F P k xs a.1

pub flat-empty : {X Y : Type 0} (F : X → List Y) → ((x : X) → F x ≡ []) → (xs : List X) → flat_map F xs ≡ []
flat-empty F k [] = refl
flat-empty F k (x ∷ xs) = ap (λ l. l ++ flat_map F xs) (k x) ∙ flat-empty F k xs

pub map-append : {X Y : Type 0} (f : X → Y) (xs ys : List X) → map f (xs ++ ys) ≡ map f xs ++ map f ys
map-append f [] ys = refl
map-append f (x ∷ xs) ys = ap (λ l. f x ∷ l) (map-append f xs ys)

-- A group

-- commits, refusals and frames give nothing
pub record Quiet (F : Line → List Line) : Type 0 where
  pub commit : (e n : ℕ) → F (Commit e n) ≡ []
  pub refuse : (e n : ℕ) (place : Place) (reason : Reason) → F (Refuse e n place reason) ≡ []
  pub send : (e : ℕ) (n : Option ℕ) (frame : ℕ) (bytes : Bytes) → F (Send e n frame bytes) ≡ []

commit-none : (F : Line → List Line) → Quiet F → (number n : ℕ) (es : List Edit)
    → flat_map F (commit_lines number n es) ≡ []
commit-none F q number n [] = refl
commit-none F q number n (e ∷ es) = ap (λ l. l ++ []) (q.commit number n)

refuse-none : (F : Line → List Line) → Quiet F → (number n : ℕ) (place : Place) (r : Option Reason)
    → flat_map F (refuse_lines number n place r) ≡ []
refuse-none F q number n place None = refl
refuse-none F q number n place (Some r) = ap (λ l. l ++ []) (q.refuse number n place r)

send-none : (F : Line → List Line) → Quiet F → (number : ℕ) (n : Option ℕ) (frame : ℕ) (b : Option Bytes)
    → flat_map F (send_lines number n frame b) ≡ []
send-none F q number n frame None = refl
send-none F q number n frame (Some b) = ap (λ l. l ++ []) (q.send number n frame b)

stored-of : (F : Line → List Line) → Quiet F → (number n : ℕ) (a : Answer) → flat_map F (stored_lines number n a)
    ≡ flat_map F (map (Changed number n) a.edits)
unfolding stored_lines
stored-of F q number n a =
    flat_map-append F (map (Changed number n) a.edits) (commit_lines number n a.edits)
    ∙ ap (λ l. flat_map F (map (Changed number n) a.edits) ++ l) (commit-none F q number n a.edits)
    ∙ append-nil' (flat_map F (map (Changed number n) a.edits))

told-of : (F : Line → List Line) → Quiet F → (number n frame : ℕ) (a : Answer)
    → flat_map F (told_lines number n frame a) ≡ flat_map F (map (Accept number n) a.accepts)
    ++ flat_map F (map (Seal number n) a.seals)
unfolding told_lines
told-of F q number n frame a =
    flat_map-append F accepts (refusal ++ (seals ++ send))
    ∙ ap (λ l. flat_map F accepts ++ l)
    (flat_map-append F refusal (seals ++ send) ∙ ap (λ l. l ++ flat_map F (seals ++ send))
    (refuse-none F q number n a.place a.refusal)
    ∙ flat_map-append F seals send ∙ ap (λ l. flat_map F seals ++ l) (send-none F q number (Some n) frame a.frame) ∙
    append-nil' (flat_map F seals))
  where
    accepts : List Line
    accepts = map (Accept number n) a.accepts

    refusal : List Line
    refusal = refuse_lines number n a.place a.refusal

    seals : List Line
    seals = map (Seal number n) a.seals

    send : List Line
    send = send_lines number (Some n) frame a.frame

group-of : (F : Line → List Line) → Quiet F → (h : List Line) (number n : ℕ) (a : Answer)
    → flat_map F (group_of h number n a) ≡ flat_map (λ e. F (Changed number n e)) a.edits
    ++ (flat_map (λ t. F (Accept number n t)) a.accepts ++ flat_map (λ t. F (Seal number n t)) a.seals)
unfolding group_of
group-of F q h number n a =
    flat_map-append F (stored_lines number n a) (told_lines number n (length (air h) + 1) a)
    ∙ ap (λ l. l ++ flat_map F (told_lines number n (length (air h) + 1) a))
    (stored-of F q number n a ∙ flat-map F (Changed number n) a.edits)
    ∙ ap (λ l. flat_map (λ e. F (Changed number n e)) a.edits ++ l) (told-of F q number n (length (air h) + 1) a
    ∙ ap (λ l. l ++ flat_map F (map (Seal number n) a.seals)) (flat-map F (Accept number n) a.accepts)
    ∙ ap (λ l. flat_map (λ t. F (Accept number n t)) a.accepts ++ l) (flat-map F (Seal number n) a.seals))

-- if only changes, accepted terms, or sealed terms give something

pub changes-only : (F : Line → List Line) → Quiet F → (h : List Line) (number n : ℕ) (a : Answer)
    → ((t : Term) → F (Accept number n t) ≡ []) → ((t : Term) → F (Seal number n t) ≡ [])
    → flat_map F (group_of h number n a) ≡ flat_map (λ e. F (Changed number n e)) a.edits
changes-only F q h number n a x y =
    group-of F q h number n a
    ∙ ap (λ l. flat_map (λ e. F (Changed number n e)) a.edits ++ (l ++ flat_map (λ t. F (Seal number n t)) a.seals))
    (flat-empty (λ t. F (Accept number n t)) x a.accepts)
    ∙ ap (λ l. flat_map (λ e. F (Changed number n e)) a.edits ++ l) (flat-empty (λ t. F (Seal number n t)) y a.seals)
    ∙ append-nil' (flat_map (λ e. F (Changed number n e)) a.edits)

pub accepts-only : (F : Line → List Line) → Quiet F → (h : List Line) (number n : ℕ) (a : Answer)
    → ((e : Edit) → F (Changed number n e) ≡ []) → ((t : Term) → F (Seal number n t) ≡ [])
    → flat_map F (group_of h number n a) ≡ flat_map (λ t. F (Accept number n t)) a.accepts
accepts-only F q h number n a x y =
    group-of F q h number n a
    ∙ ap (λ l. l ++ (flat_map (λ t. F (Accept number n t)) a.accepts ++ flat_map (λ t. F (Seal number n t)) a.seals))
    (flat-empty (λ e. F (Changed number n e)) x a.edits)
    ∙ ap (λ l. flat_map (λ t. F (Accept number n t)) a.accepts ++ l) (flat-empty (λ t. F (Seal number n t)) y a.seals)
    ∙ append-nil' (flat_map (λ t. F (Accept number n t)) a.accepts)

pub seals-only : (F : Line → List Line) → Quiet F → (h : List Line) (number n : ℕ) (a : Answer)
    → ((e : Edit) → F (Changed number n e) ≡ []) → ((t : Term) → F (Accept number n t) ≡ [])
    → flat_map F (group_of h number n a) ≡ flat_map (λ t. F (Seal number n t)) a.seals
seals-only F q h number n a x y =
    group-of F q h number n a
    ∙ ap (λ l. l ++ (flat_map (λ t. F (Accept number n t)) a.accepts ++ flat_map (λ t. F (Seal number n t)) a.seals))
    (flat-empty (λ e. F (Changed number n e)) x a.edits)
    ∙ ap (λ l. l ++ flat_map (λ t. F (Seal number n t)) a.seals) (flat-empty (λ t. F (Accept number n t)) y a.accepts)

-- The edits of an answer: reserves, floors, and those of moves

abbrev pub IsReserve : Edit → Type 0
IsReserve (Reserve layer limit) = Unit {0}
IsReserve _ = ⊥

abbrev pub IsFloor : Edit → Type 0
IsFloor (Floor layer key sender value) = Unit {0}
IsFloor _ = ⊥

abbrev pub IsOfMove : Edit → Type 0
IsOfMove (Moved move) = Unit {0}
IsOfMove (Start key value) = Unit {0}
IsOfMove _ = ⊥

one-reserve : (layer : Layer) (o : Option ℕ) → AllByRecursion IsReserve (option_to_list (option_map (Reserve layer) o))
one-reserve layer None = tt
one-reserve layer (Some v) = (tt, tt)

pub are-reserves : (k : Counting) → AllByRecursion IsReserve (reserve_edit k Nwk ++ reserve_edit k Aps)
are-reserves k = all-append IsReserve (reserve_edit k Nwk) (reserve_edit k Aps) (one-reserve Nwk (k.reserve Nwk))
    (one-reserve Aps (k.reserve Aps))

one-floor : (t : Term) (o : Option ℕ)
    → AllByRecursion IsFloor (option_to_list (option_map (Floor t.layer t.base t.source) o))
one-floor t None = tt
one-floor t (Some v) = (tt, tt)

pub are-floors : (k : Counting) (ts : List Term) → AllByRecursion IsFloor (flat_map (floor_edit k) ts)
are-floors k [] = tt
are-floors k (t ∷ ts) = all-append IsFloor (floor_edit k t) (flat_map (floor_edit k) ts)
    (one-floor t (k.floor t.layer)) (are-floors k ts)

one-start : (key : Bytes) (o : Option ℕ) → AllByRecursion IsOfMove (start_edit key o)
one-start key None = tt
one-start key (Some v) = (tt, tt)

one-move : (k : Counting) (m : Move) → AllByRecursion IsOfMove (move_edits k m)
one-move k (Active key) = (tt, one-start key k.start)
one-move k (Draw key) = (tt, tt)
one-move k (DropNet key) = (tt, tt)
one-move k (DropLink p key) = (tt, tt)
one-move k (Install key q) = (tt, tt)
one-move k (Row p key t) = (tt, tt)
one-move k (Pair a b key) = (tt, tt)
one-move k (Became g) = (tt, tt)
one-move k (Live d) = (tt, tt)
one-move k (Removed d) = (tt, tt)
one-move k (Roll b) = (tt, tt)
one-move k (Told d) = (tt, tt)
one-move k (Untold d) = (tt, tt)

pub are-of-moves : (k : Counting) (ms : List Move) → AllByRecursion IsOfMove (flat_map (move_edits k) ms)
are-of-moves k [] = tt
are-of-moves k (m ∷ ms) = all-append IsOfMove (move_edits k m) (flat_map (move_edits k) ms) (one-move k m)
    (are-of-moves k ms)

abbrev pub kept_moves : NodeState → Plan → List Move
kept_moves s p = filter (changes s) (moves_of p.outcome)

edit-parts : (F : Edit → List Line) (s : NodeState) (k : Counting) (p : Plan)
    → flat_map F (edits_of s k p) ≡ flat_map F (reserve_edit k Nwk ++ reserve_edit k Aps)
    ++ (flat_map F (flat_map (floor_edit k) p.accepts) ++ flat_map F (flat_map (move_edits k) (kept_moves s p)))
unfolding edits_of
edit-parts F s k p =
    flat_map-append F (reserve_edit k Nwk ++ reserve_edit k Aps)
    (flat_map (floor_edit k) p.accepts ++ flat_map (move_edits k) (kept_moves s p))
    ∙ ap (λ l. flat_map F (reserve_edit k Nwk ++ reserve_edit k Aps) ++ l)
    (flat_map-append F (flat_map (floor_edit k) p.accepts) (flat_map (move_edits k) (kept_moves s p)))

pub reserve-edits : (F : Edit → List Line) → ((e : Edit) → IsFloor e → F e ≡ [])
    → ((e : Edit) → IsOfMove e → F e ≡ []) → (s : NodeState) (k : Counting) (p : Plan)
    → flat_map F (edits_of s k p) ≡ flat_map F (reserve_edit k Nwk ++ reserve_edit k Aps)
reserve-edits F x y s k p =
    edit-parts F s k p
    ∙ ap (λ l. flat_map F (reserve_edit k Nwk ++ reserve_edit k Aps)
    ++ (l ++ flat_map F (flat_map (move_edits k) (kept_moves s p))))
    (flat-none F IsFloor x (flat_map (floor_edit k) p.accepts) (are-floors k p.accepts))
    ∙ ap (λ l. flat_map F (reserve_edit k Nwk ++ reserve_edit k Aps) ++ l)
    (flat-none F IsOfMove y (flat_map (move_edits k) (kept_moves s p)) (are-of-moves k (kept_moves s p)))
    ∙ append-nil' (flat_map F (reserve_edit k Nwk ++ reserve_edit k Aps))

pub floor-edits : (F : Edit → List Line) → ((e : Edit) → IsReserve e → F e ≡ [])
    → ((e : Edit) → IsOfMove e → F e ≡ []) → (s : NodeState) (k : Counting) (p : Plan)
    → flat_map F (edits_of s k p) ≡ flat_map F (flat_map (floor_edit k) p.accepts)
floor-edits F x y s k p =
    edit-parts F s k p
    ∙ ap (λ l. l
    ++ (flat_map F (flat_map (floor_edit k) p.accepts) ++ flat_map F (flat_map (move_edits k) (kept_moves s p))))
    (flat-none F IsReserve x (reserve_edit k Nwk ++ reserve_edit k Aps) (are-reserves k))
    ∙ ap (λ l. flat_map F (flat_map (floor_edit k) p.accepts) ++ l)
    (flat-none F IsOfMove y (flat_map (move_edits k) (kept_moves s p)) (are-of-moves k (kept_moves s p)))
    ∙ append-nil' (flat_map F (flat_map (floor_edit k) p.accepts))

pub start-edits : (F : Edit → List Line) → ((e : Edit) → IsReserve e → F e ≡ []) → ((e : Edit) → IsFloor e → F e ≡ [])
    → (s : NodeState) (k : Counting) (p : Plan)
    → flat_map F (edits_of s k p) ≡ flat_map F (flat_map (move_edits k) (kept_moves s p))
start-edits F x y s k p =
    edit-parts F s k p
    ∙ ap (λ l. l
    ++ (flat_map F (flat_map (floor_edit k) p.accepts) ++ flat_map F (flat_map (move_edits k) (kept_moves s p))))
    (flat-none F IsReserve x (reserve_edit k Nwk ++ reserve_edit k Aps) (are-reserves k))
    ∙ ap (λ l. l ++ flat_map F (flat_map (move_edits k) (kept_moves s p)))
    (flat-none F IsFloor y (flat_map (floor_edit k) p.accepts) (are-floors k p.accepts))

-- the reserves of a layer, and all floors, as lines

abbrev pub reserve_list : Layer → Option ℕ → List Edit
reserve_list layer o = option_to_list (option_map (Reserve layer) o)

net-reserves : (number n : ℕ) (x y : Option ℕ) → flat_map (λ e. reserve_there Nwk (Changed number n e))
    (reserve_list Nwk x ++ reserve_list Aps y) ≡ map (Changed number n) (reserve_list Nwk x)
net-reserves number n None None = refl
net-reserves number n None (Some y) = refl
net-reserves number n (Some x) None = refl
net-reserves number n (Some x) (Some y) = refl

aps-reserves : (number n : ℕ) (x y : Option ℕ) → flat_map (λ e. reserve_there Aps (Changed number n e))
    (reserve_list Nwk x ++ reserve_list Aps y) ≡ map (Changed number n) (reserve_list Aps y)
aps-reserves number n None None = refl
aps-reserves number n None (Some y) = refl
aps-reserves number n (Some x) None = refl
aps-reserves number n (Some x) (Some y) = refl

pub reserves-of : (number n : ℕ) (layer : Layer) (k : Counting)
    → flat_map (λ e. reserve_there layer (Changed number n e)) (reserve_edit k Nwk ++ reserve_edit k Aps)
    ≡ map (Changed number n) (reserve_list layer (k.reserve layer))
reserves-of number n Nwk k = net-reserves number n (k.reserve Nwk) (k.reserve Aps)
reserves-of number n Aps k = aps-reserves number n (k.reserve Nwk) (k.reserve Aps)

pub floors-of : (number n : ℕ) (es : List Edit) → AllByRecursion IsFloor es
    → flat_map (λ e. floor_there (Changed number n e)) es ≡ map (Changed number n) es
floors-of number n [] a = refl
floors-of number n (Floor layer key sender value ∷ es) a =
    ap (λ l. Changed number n (Floor layer key sender value) ∷ l) (floors-of number n es a.1)
floors-of number n (Reserve layer limit ∷ es) a = absurd a.0
floors-of number n (Start key value ∷ es) a = absurd a.0
floors-of number n (Moved m ∷ es) a = absurd a.0

-- edits are known from their lines
edit_of : Line → List Edit
edit_of (Changed e n edit) = edit ∷ []
edit_of _ = []

read-edits : (number n : ℕ) (es : List Edit) → flat_map edit_of (map (Changed number n) es) ≡ es
unfolding edit_of
read-edits number n [] = refl
read-edits number n (e ∷ es) = ap (λ l. e ∷ l) (read-edits number n es)

pub same-edits : (number n : ℕ) (xs ys : List Edit) → map (Changed number n) xs ≡ map (Changed number n) ys → xs ≡ ys
same-edits number n xs ys e = sym (read-edits number n xs) ∙ ap (λ l. flat_map edit_of l) e ∙ read-edits number n ys
