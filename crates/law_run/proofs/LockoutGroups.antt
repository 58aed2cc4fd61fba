-- Whole groups keep the invariants of lockout: what is stored, and then what is sealed.
use Rattle.std.proofs.Common.{◌≡◌, ℕ, Bool, true, false, cond, ◌&&◌, ◌||◌, List, [], ◌∷◌, ◌++◌, map, filter, Option, Some, None, find, flat_map, nat_eq, nat_le, is_some, refl, sym, ap, ◌∙◌, subst, append_assoc, eqb-true, eq-eqb, inl, inr, ⊎_elim}
use Rattle.std.proofs.lemmas.Bool.{false≢true, and_parts, or_cases}
use Rattle.std.proofs.lemmas.List.Sums.{fold-append}
use Rattle.std.specs.List.{AllByRecursion}
use Rattle.zb_model.specs.Data.{Bytes, Nwk, Aps, Label, ForTransport, Station, Term, Move, Draw, DropNet, DropLink, Install, Active, Row, Pair, Became, Live, Removed, Roll, Told, Untold, Edit, Reserve, Floor, Start, Moved, Command, Tunnel, Task}
use Rattle.zb_model.specs.Lines.{Line, Changed, Seal}
use Rattle.zb_model.specs.State.{NetKey, LinkKey, NodeState, is_centre, active_row}
use Rattle.zb_model.specs.Tools.{Tools, ApsShown, ApsAuxiliary}
use Rattle.zb_model.specs.Frames.{nwk_term, aps_term, sealed_command, sealed_data, data_front, data_control, clear_command, low_byte}
use Rattle.zb_model.specs.Rules.{Body, Saying, Clear, Secret, Tunnelled, Telling, Leaving, Relayed, Sending, Setting, Plan, centre_of, station_of}
use Rattle.zb_model.specs.Answer.{Answer, Counting, Part, edits_of, reserve_edit, floor_edit, start_edit, move_edits, changes, moves_of, part_of, framed, sent, nothing_out}
use Rattle.zb_model.specs.Readings.{state_of, speaker, stations_of, station_line}
use Rattle.zb_model.specs.Secrets.{carried, clear_key, unsealed_key, key_shown, key_in, is_command_header, is_the_centre, ideal_line}
use Rattle.zb_model.specs.Play.{stations, setting_of, station_or, commit_lines, stored_lines}
use Rattle.zb_model.specs.Schedules.{Names, IsSchedule}
use Rattle.law_run.specs.Opening.{Opens}
use Rattle.law_run.specs.Commanding.{OneCentre, IsClearControl, ShowsKeys}
use Rattle.law_run.specs.KeysApart.{KeysApart}
use Rattle.law_run.proofs.FreshLines.{all-append, all-map}
use Rattle.law_run.proofs.Judged.{In, nowhere}
use Rattle.law_run.proofs.Runs.{found-is, FoundIs}
use Rattle.law_run.proofs.LockoutDeeds.{IsNew, draw_of, OfMember, Quiet, Deed, member, nothing, quiet, verifies, rolls, offers, pairs, enters, removes}
use Rattle.law_run.proofs.ConfirmsRuns.{Mere, rest_edits, rests-mere}
use Rattle.law_run.proofs.LockoutKept.{Other, Safe, Known}
use Rattle.law_run.proofs.LockoutSteps.{Case, centre, InNet, Whole, IsIdle, idle-one, Carries, seal-step, seal-carries, comes-step, Comes}
use Rattle.law_run.proofs.LockoutMoves.{Honest, RemovesOther, GoesOn, goes-none, goes-append, goes-cons, goes-idle, map-append, mere-idle, moves_lines, same-self, same-lines, TaskFits, quiet-goes, offers-goes, pairs-goes, rolls-goes, no-key}
use Rattle.law_run.proofs.LockoutDevices.{enters-goes, removes-goes, is-the-centre, Elsewhere, ideal-comes, OfMemberEdit}

-- What the first half of lockout rests on

pub record Grounds (x : Case) : Type 0 where
  pub opens : Opens x.tools
  pub shows : ShowsKeys x.tools
  pub schedule : IsSchedule x.schedule
  pub one : OneCentre x.schedule
  pub keys : KeysApart x.schedule
  pub apart : x.device ≡ centre x → ⊥

-- a declared node is the centre exactly if it has the centre's EUI
centre-by : (c n : ℕ) (o : Option Station) → is_some o ≡ true
    → FoundIs (λ (p : Station). (is_centre p.role ≡ true → p.eui ≡ c) × (nat_eq p.eui n ≡ true)) o
    → is_centre (station_or o).role ≡ true → n ≡ c
centre-by c n None e f q = absurd (false≢true e)
centre-by c n (Some p) e f q = sym (eqb-true p.eui n f.1) ∙ f.0 q

by-centre : (c n : ℕ) (o : Option Station) → is_some o ≡ true
    → FoundIs (λ (p : Station). (p.eui ≡ c → is_centre p.role ≡ true) × (nat_eq p.eui n ≡ true)) o → n ≡ c
    → is_centre (station_or o).role ≡ true
by-centre c n None e f q = absurd (false≢true e)
by-centre c n (Some p) e f q = f.0 (eqb-true p.eui n f.1 ∙ q)

pub is-centre : (x : Case) → Grounds x → (n : ℕ) → Names x.schedule n → is_centre (setting_of x.schedule n).me.role
    ≡ true → n ≡ centre x
unfolding setting_of station_of
is-centre x g n named = centre-by (centre x) n (station_of (stations x.schedule) n) named
    (found-is (λ (p : Station). is_centre p.role ≡ true → p.eui ≡ centre x) (λ (p : Station). nat_eq p.eui n)
    (stations x.schedule) g.one)

pub centre-is : (x : Case) → Grounds x → (n : ℕ) → Names x.schedule n → n ≡ centre x
    → is_centre (setting_of x.schedule n).me.role ≡ true
unfolding setting_of station_of
centre-is x g n named = by-centre (centre x) n (station_of (stations x.schedule) n) named
    (found-is (λ (p : Station). p.eui ≡ centre x → is_centre p.role ≡ true) (λ (p : Station). nat_eq p.eui n)
    (stations x.schedule) g.keys.alone)

-- The changes of a node that isn't the centre

cond-in : (b : Bool) (k j : Bytes) → In j (cond b (k ∷ []) []) → (b ≡ true) × (k ≡ j)
unfolding In
cond-in true k j (inl e) = (refl, e)
cond-in true k j (inr i) = absurd i
cond-in false k j i = absurd i

member-line : (x : Case) (g : List Line) (number n : ℕ) (e : Edit) → Elsewhere x n → stations_of g
    ≡ stations x.schedule → OfMemberEdit e → Honest x g (Changed number n e) → Whole x g
    → Whole x (g ++ Changed number n e ∷ []) × RemovesOther x (Changed number n e)
unfolding IsIdle speaker ideal_line
member-line x g number n (Moved (Install k q)) f same a o w = (
  comes-step x g (Changed number n (Moved (Install k q))) (λ t i. nowhere t i) f.other (λ j i. nowhere j i) refl
      (λ j i. subst (Comes x g) (cond-in (nat_eq n x.device) k j i).1
      (ideal-comes x g n k f same (eqb-true n x.device (cond-in (nat_eq n x.device) k j i).0) o.ideal w)) w,
  tt,
)
member-line x g number n (Moved (Row p k t)) f same a o w = (
  comes-step x g (Changed number n (Moved (Row p k t))) (λ u i. nowhere u i) f.other (λ j i. nowhere j i) refl
      (λ j i. subst (Comes x g)
      (cond-in (nat_eq n x.device || (is_the_centre (stations_of g) n && nat_eq p x.device)) k j i).1
      (ideal-comes x g n k f same
      (mine (cond-in (nat_eq n x.device || (is_the_centre (stations_of g) n && nat_eq p x.device)) k j i).0)
      o.ideal w)) w,
  tt,
)
  where
    mine : (nat_eq n x.device || (is_the_centre (stations_of g) n && nat_eq p x.device)) ≡ true → n ≡ x.device
    mine e = ⊎_elim (λ b. eqb-true n x.device b)
        (λ b. absurd
        (f.other
        (subst (λ ss. n ≡ centre_of ss) same
        (is-the-centre (stations_of g) n (find (λ (y : Station). is_centre y.role) (stations_of g)) refl
        (and_parts (is_the_centre (stations_of g) n) (nat_eq p x.device) b).0))))
        (or_cases (nat_eq n x.device) (is_the_centre (stations_of g) n && nat_eq p x.device) e)
member-line x g number n (Moved (Draw k)) f same a o w = absurd a
member-line x g number n (Moved (Pair u v k)) f same a o w = absurd a
member-line x g number n (Moved (Live d)) f same a o w = absurd a
member-line x g number n (Moved (Removed d)) f same a o w = absurd a
member-line x g number n (Moved (DropNet k)) f same a o w = (idle-one x g _ tt w, tt)
member-line x g number n (Moved (DropLink p k)) f same a o w = (idle-one x g _ tt w, tt)
member-line x g number n (Moved (Active k)) f same a o w = (idle-one x g _ tt w, tt)
member-line x g number n (Moved (Became s)) f same a o w = (idle-one x g _ tt w, tt)
member-line x g number n (Moved (Roll b)) f same a o w = (idle-one x g _ tt w, tt)
member-line x g number n (Moved (Told d)) f same a o w = (idle-one x g _ tt w, tt)
member-line x g number n (Moved (Untold d)) f same a o w = (idle-one x g _ tt w, tt)
member-line x g number n (Reserve l v) f same a o w = (idle-one x g _ tt w, tt)
member-line x g number n (Floor l k p v) f same a o w = (idle-one x g _ tt w, tt)
member-line x g number n (Start k v) f same a o w = (idle-one x g _ tt w, tt)

change-stations : (g : List Line) (number n : ℕ) (e : Edit) → stations_of (g ++ Changed number n e ∷ [])
    ≡ stations_of g
unfolding stations_of
change-stations g number n e = fold-append station_line [] g (Changed number n e ∷ [])

member-goes : (x : Case) (number n : ℕ) → Elsewhere x n → (es : List Edit) → AllByRecursion OfMemberEdit es
    → (g : List Line) → stations_of g ≡ stations x.schedule → GoesOn x g (map (Changed number n) es)
member-goes x number n f [] a g same = goes-none x g
member-goes x number n f (e ∷ es) a g same = goes-cons x g (Changed number n e) (map (Changed number n) es)
    (λ o w. member-line x g number n e f same a.0 o w)
    (member-goes x number n f es a.1 (g ++ Changed number n e ∷ []) (change-stations g number n e ∙ same))

pub mere-member : (es : List Edit) → AllByRecursion Mere es → AllByRecursion OfMemberEdit es
mere-member [] a = tt
mere-member (Reserve l v ∷ es) a = (tt, mere-member es a.1)
mere-member (Floor l k p v ∷ es) a = (tt, mere-member es a.1)
mere-member (Start k v ∷ es) a = (tt, mere-member es a.1)
mere-member (Moved m ∷ es) a = absurd a.0

start-member : (key : Bytes) (o : Option ℕ) → AllByRecursion OfMemberEdit (start_edit key o)
start-member key None = tt
start-member key (Some v) = (tt, tt)

move-member : (k : Counting) (m : Move) → OfMember m → AllByRecursion OfMemberEdit (move_edits k m)
move-member k (Active key) a = (tt, start-member key k.start)
move-member k (Draw key) a = absurd a
move-member k (DropNet key) a = (tt, tt)
move-member k (DropLink p key) a = (tt, tt)
move-member k (Install key q) a = (tt, tt)
move-member k (Row p key t) a = (tt, tt)
move-member k (Pair u v key) a = absurd a
move-member k (Became g) a = (tt, tt)
move-member k (Live d) a = absurd a
move-member k (Removed d) a = absurd a
move-member k (Roll b) a = absurd a
move-member k (Told d) a = absurd a
move-member k (Untold d) a = absurd a

pub moves-member : (s : NodeState) (k : Counting) (ms : List Move) → AllByRecursion OfMember ms
    → AllByRecursion OfMemberEdit (flat_map (move_edits k) (filter (changes s) ms))
moves-member s k [] a = tt
moves-member s k (m ∷ ms) a = by-test (changes s m) (moves-member s k ms a.1)
  where
    by-test : (b : Bool) → AllByRecursion OfMemberEdit (flat_map (move_edits k) (filter (changes s) ms))
        → AllByRecursion OfMemberEdit
        (flat_map (move_edits k) (cond b (m ∷ filter (changes s) ms) (filter (changes s) ms)))
    by-test true more = all-append OfMemberEdit (move_edits k m) (flat_map (move_edits k) (filter (changes s) ms))
        (move-member k m a.0) more
    by-test false more = more

-- The changes of a group

pub edits-parts : (s : NodeState) (k : Counting) (p : Plan) → edits_of s k p ≡ rest_edits k p.accepts
    ++ flat_map (move_edits k) (filter (changes s) (moves_of p.outcome))
unfolding edits_of
edits-parts s k p =
    sym (append_assoc (reserve_edit k Nwk ++ reserve_edit k Aps) (flat_map (floor_edit k) p.accepts)
    (flat_map (move_edits k) (filter (changes s) (moves_of p.outcome))))

abbrev mere_lines : ℕ → ℕ → Counting → Plan → List Line
mere_lines number n k p = map (Changed number n) (rest_edits k p.accepts)

pub stored-parts : (number n : ℕ) (s : NodeState) (k : Counting) (p : Plan) (a : Answer) → a.edits ≡ edits_of s k p
    → stored_lines number n a ≡ (mere_lines number n k p ++ moves_lines number n s k (moves_of p.outcome))
    ++ commit_lines number n a.edits
unfolding stored_lines
stored-parts number n s k p a e =
    ap (λ es. map (Changed number n) es ++ commit_lines number n a.edits) (e ∙ edits-parts s k p)
    ∙ ap (λ l. l ++ commit_lines number n a.edits)
    (map-append (Changed number n) (rest_edits k p.accepts)
    (flat_map (move_edits k) (filter (changes s) (moves_of p.outcome))))

commit-idle : (number n : ℕ) (es : List Edit) → AllByRecursion IsIdle (commit_lines number n es)
unfolding IsIdle
commit-idle number n [] = tt
commit-idle number n (e ∷ es) = (tt, tt)

mere-lines-idle : (number n : ℕ) (k : Counting) (p : Plan) → AllByRecursion IsIdle (mere_lines number n k p)
mere-lines-idle number n k p = mere-idle number n (rest_edits k p.accepts) (rests-mere k p.accepts)

at-centre : (x : Case) (h : List Line) (n : ℕ) → n ≡ centre x → (P : NodeState → Type 0) → P (state_of h n)
    → P (state_of h (centre x))
at-centre x h n e P p = subst (λ m. P (state_of h m)) e p

-- at the centre
deed-goes : (x : Case) → Grounds x → (h : List Line) → Whole x h → (ms : List Line) → AllByRecursion IsIdle ms
    → (number n : ℕ) → Names x.schedule n → n ≡ centre x → (kk : Counting) (task : Task) → TaskFits x h task
    → (moves : List Move) → Deed (setting_of x.schedule n) (state_of h n) task moves
    → GoesOn x (h ++ ms) (moves_lines number n (state_of h n) kk moves)
deed-goes x g h w ms i number n named mine kk task f moves (member m a d) =
    absurd (false≢true (sym m ∙ centre-is x g n named mine))
deed-goes x g h w ms i number n named mine kk task f moves (nothing e) =
    subst (λ y. GoesOn x (h ++ ms) (moves_lines number n (state_of h n) kk y)) (sym e) (goes-none x (h ++ ms))
deed-goes x g h w ms i number n named mine kk task f moves (quiet c a y) =
    quiet-goes x h w g.apart (h ++ ms) (same-lines x h h ms i (same-self x h)) number n mine kk moves
    (at-centre x h n mine (λ s. AllByRecursion (Quiet s) moves) a)
deed-goes x g h w ms i number n named mine kk task f moves (verifies c p row o a e) =
    quiet-goes x h w g.apart (h ++ ms) (same-lines x h h ms i (same-self x h)) number n mine kk moves
    (at-centre x h n mine (λ s. AllByRecursion (Quiet s) moves) a)
deed-goes x g h w ms i number n named mine kk task f moves (rolls c k q drops new a y e) =
    subst (λ y. GoesOn x (h ++ ms) (moves_lines number n (state_of h n) kk y)) (sym e)
    (rolls-goes x g.keys h g.apart (h ++ ms) (same-lines x h h ms i (same-self x h)) number n mine kk (state_of h n)
    task f k q drops (at-centre x h n mine (λ s. IsNew s (draw_of task) k) new) a)
deed-goes x g h w ms i number n named mine kk task f moves (offers c p k new live e) =
    subst (λ y. GoesOn x (h ++ ms) (moves_lines number n (state_of h n) kk y)) (sym e)
    (offers-goes x g.keys h w g.apart (h ++ ms) (same-lines x h h ms i (same-self x h)) number n mine kk task f p k
    (at-centre x h n mine (λ s. IsNew s (draw_of task) k) new)
    (at-centre x h n mine (λ s. Rattle.zb_model.specs.State.is_live s p ≡ true) live))
deed-goes x g h w ms i number n named mine kk task f moves (pairs c a b k new la lb e) =
    subst (λ y. GoesOn x (h ++ ms) (moves_lines number n (state_of h n) kk y)) (sym e)
    (pairs-goes x g.keys h w (h ++ ms) (same-lines x h h ms i (same-self x h)) number n kk (state_of h n) task f a b k
    (at-centre x h n mine (λ s. IsNew s (draw_of task) k) new)
    (at-centre x h n mine (λ s. Rattle.zb_model.specs.State.is_live s a ≡ true) la)
    (at-centre x h n mine (λ s. Rattle.zb_model.specs.State.is_live s b ≡ true) lb))
deed-goes x g h w ms i number n named mine kk task f moves (enters c p k by dead none e) =
    subst (λ y. GoesOn x (h ++ ms) (moves_lines number n (state_of h n) kk y)) (sym e)
    (enters-goes x h g.apart (h ++ ms) (same-lines x h h ms i (same-self x h)) number n mine kk (state_of h n) p k
    (f.entered p k by) (at-centre x h n mine (λ s. Rattle.zb_model.specs.State.other_user s p k ≡ None) none))
deed-goes x g h w ms i number n named mine kk task f moves (removes c p live e) =
    subst (λ y. GoesOn x (h ++ ms) (moves_lines number n (state_of h n) kk y)) (sym e)
    (removes-goes x h w ms i number n mine kk p
    (at-centre x h n mine (λ s. Rattle.zb_model.specs.State.is_live s p ≡ true) live))

-- elsewhere
deed-member : (x : Case) → Grounds x → (n : ℕ) → Names x.schedule n → (n ≡ centre x → ⊥)
    → (s : NodeState) (task : Task) (moves : List Move) → Deed (setting_of x.schedule n) s task moves
    → AllByRecursion OfMember moves
deed-member x g n named other s task moves (member m a d) = a
deed-member x g n named other s task moves (nothing e) = subst (AllByRecursion OfMember) (sym e) tt
deed-member x g n named other s task moves (quiet c a y) = absurd (other (is-centre x g n named c))
deed-member x g n named other s task moves (verifies c p row o a e) = absurd (other (is-centre x g n named c))
deed-member x g n named other s task moves (rolls c k q drops new a y e) = absurd (other (is-centre x g n named c))
deed-member x g n named other s task moves (offers c p k new live e) = absurd (other (is-centre x g n named c))
deed-member x g n named other s task moves (pairs c a b k new la lb e) = absurd (other (is-centre x g n named c))
deed-member x g n named other s task moves (enters c p k by dead none e) = absurd (other (is-centre x g n named c))
deed-member x g n named other s task moves (removes c p live e) = absurd (other (is-centre x g n named c))

pub stored-goes : (x : Case) → Grounds x → (h : List Line) → stations_of h ≡ stations x.schedule → (number n : ℕ)
    → Names x.schedule n → (kk : Counting) (task : Task) → TaskFits x h task → (p : Plan)
    → Deed (setting_of x.schedule n) (state_of h n) task (moves_of p.outcome)
    → (a : Answer) → a.edits ≡ edits_of (state_of h n) kk p → GoesOn x h (stored_lines number n a)
stored-goes x g h known number n named kk task f p deed a same o w =
    subst (λ l. GoesOn x h l) (sym (stored-parts number n (state_of h n) kk p a same))
    (goes-append x h (mere_lines number n kk p ++ moves_lines number n (state_of h n) kk (moves_of p.outcome))
    (commit_lines number n a.edits) (by-test (nat_eq n (centre x)) refl)
    (goes-idle x (h ++ (mere_lines number n kk p ++ moves_lines number n (state_of h n) kk (moves_of p.outcome)))
    (commit_lines number n a.edits) (commit-idle number n a.edits))) o w
  where
    ms : List Line
    ms = mere_lines number n kk p

    by-test : (b : Bool) → nat_eq n (centre x) ≡ b
        → GoesOn x h (ms ++ moves_lines number n (state_of h n) kk (moves_of p.outcome))
    by-test true e = goes-append x h ms (moves_lines number n (state_of h n) kk (moves_of p.outcome))
        (goes-idle x h ms (mere-lines-idle number n kk p))
        (deed-goes x g h w ms (mere-lines-idle number n kk p) number n named (eqb-true n (centre x) e) kk task f
        (moves_of p.outcome) deed)
    by-test false e =
        subst (λ l. GoesOn x h l)
        (map-append (Changed number n) (rest_edits kk p.accepts)
        (flat_map (move_edits kk) (filter (changes (state_of h n)) (moves_of p.outcome))))
        (member-goes x number n (record { one = g.one; named = named; other = other })
        (rest_edits kk p.accepts ++ flat_map (move_edits kk) (filter (changes (state_of h n)) (moves_of p.outcome)))
        (all-append OfMemberEdit (rest_edits kk p.accepts)
        (flat_map (move_edits kk) (filter (changes (state_of h n)) (moves_of p.outcome)))
        (mere-member (rest_edits kk p.accepts) (rests-mere kk p.accepts))
        (moves-member (state_of h n) kk (moves_of p.outcome)
        (deed-member x g n named other (state_of h n) task (moves_of p.outcome) deed))) h known)
      where
        other : n ≡ centre x → ⊥
        other q = false≢true (sym e ∙ eq-eqb n (centre x) q)

-- What is sealed

pub seals-go : (x : Case) (number n : ℕ) (h : List Line) (ts : List Term) → AllByRecursion (Carries x h) ts
    → GoesOn x h (map (Seal number n) ts)
seals-go x number n h [] a = goes-none x h
seals-go x number n h (t ∷ ts) a = goes-cons x h (Seal number n t) (map (Seal number n) ts)
    (λ o w. (seal-step x h number n t a.0 w, tt))
    (seals-go x number n (h ++ Seal number n t ∷ []) ts
    (all-map (Carries x h) (Carries x (h ++ Seal number n t ∷ [])) (λ u c. seal-carries x h number n u t c) ts
    a.1))

abbrev pub CarryAt : Case → List Line → Bytes → Bytes → Type 0
CarryAt x h base k = (Safe (centre x) x.device h k → Other (state_of h (centre x)) x.device base)
    × (InNet x k → Known (centre x) h k)

abbrev pub CommandCarries : Case → List Line → Bytes → Command → Type 0
CommandCarries x h base command = (k : Bytes) → key_in command ≡ Some k → CarryAt x h base k

abbrev pub BodyCarries : Case → List Line → Bool → Body → Type 0
BodyCarries x h secured (Clear control command) = IsClearControl control × (key_in command ≡ None)
BodyCarries x h secured (Secret label key command) = CommandCarries x h key command
BodyCarries x h secured (Tunnelled device key command) = CommandCarries x h key command
BodyCarries x h secured (Relayed bytes) = secured ≡ false
BodyCarries x h secured _ = Unit {0}

command-carries : (x : Case) → ShowsKeys x.tools → (h : List Line) (label : Label) (key : Bytes) (command : Command)
    (me aps : ℕ) → CommandCarries x h key command
    → Carries x h (aps_term sealed_command label key me aps (x.tools.spelled command))
unfolding carried
command-carries x shows h label key command me aps c k e = c k (shows.spelled command k e)

part-carries : (x : Case) → ShowsKeys x.tools → (h : List Line) (me to nwk aps : ℕ) (secured : Bool) (body : Body)
    → BodyCarries x h secured body → AllByRecursion (Carries x h) (part_of x.tools me to nwk aps body).seals
unfolding part_of carried
part-carries x shows h me to nwk aps secured (Saying bytes) c = tt
part-carries x shows h me to nwk aps secured (Clear control command) c = tt
part-carries x shows h me to nwk aps secured (Secret label key command) c =
    (command-carries x shows h label key command me aps c, tt)
part-carries x shows h me to nwk aps secured (Tunnelled device key command) c =
    (command-carries x shows h ForTransport key command me aps c, tt)
part-carries x shows h me to nwk aps secured (Telling key bytes) c = ((λ k e. absurd (no-key k e)), tt)
part-carries x shows h me to nwk aps secured Leaving c = tt
part-carries x shows h me to nwk aps secured (Relayed bytes) c = tt

-- a NWK term of a node's own carries nothing

plain-none : (tools : Tools) (a : ApsShown) (o : Option ApsAuxiliary) → a.is_command ≡ false → unsealed_key tools a o
    ≡ None
plain-none tools a None e = rw e refl
plain-none tools a (Some aux) e = refl

sealed-none : (tools : Tools) (a : ApsShown) (o : Option ApsAuxiliary) → is_some o ≡ true → unsealed_key tools a o
    ≡ None
sealed-none tools a None e = absurd (false≢true e)
sealed-none tools a (Some aux) e = refl

no-shown : (tools : Tools) (command : Command) (o : Option Bytes) → ShowsKeys tools → key_in command ≡ None
    → key_shown (tools.read_command (tools.spelled command)) ≡ o → o ≡ None
no-shown tools command None shows e q = refl
no-shown tools command (Some k) shows e q = absurd (no-key k (sym e ∙ shows.spelled command k q))

command-none : (tools : Tools) (command : Command) → ShowsKeys tools → key_in command ≡ None
    → (a : ApsShown) (o : Option ApsAuxiliary) → a.body ≡ tools.spelled command → unsealed_key tools a o ≡ None
command-none tools command shows e a None b = by-test a.is_command
  where
    empty : key_shown (tools.read_command a.body) ≡ None
    empty = ap (λ y. key_shown (tools.read_command y)) b ∙ no-shown tools command
        (key_shown (tools.read_command (tools.spelled command))) shows e refl

    by-test : (t : Bool) → cond t (key_shown (tools.read_command a.body)) None ≡ None
    by-test true = empty
    by-test false = refl
command-none tools command shows e a (Some aux) b = refl

clear-none : (tools : Tools) (bytes : Bytes) (o : Option ApsShown) → tools.read_aps bytes ≡ o
    → ((a : ApsShown) → tools.read_aps bytes ≡ Some a → unsealed_key tools a a.auxiliary ≡ None) → clear_key tools o
    ≡ None
clear-none tools bytes None e k = refl
clear-none tools bytes (Some a) e k = k a e

data-none : (tools : Tools) → ShowsKeys tools → (bytes : Bytes) → is_command_header bytes ≡ false
    → clear_key tools (tools.read_aps bytes) ≡ None
data-none tools shows bytes e = clear-none tools bytes (tools.read_aps bytes) refl
    (λ a q. plain-none tools a a.auxiliary (shows.plain bytes a q e))

saying-none : (tools : Tools) → ShowsKeys tools → (b : Bool) (rest : Bytes)
    → clear_key tools (tools.read_aps (data_front (cond b 0x08 0x00) ++ rest)) ≡ None
saying-none tools shows true rest = data-none tools shows (data_front 0x08 ++ rest) refl
saying-none tools shows false rest = data-none tools shows (data_front 0x00 ++ rest) refl

bytes-none : (x : Case) → ShowsKeys x.tools → (h : List Line) (me to nwk aps : ℕ) (body : Body)
    → BodyCarries x h true body → clear_key x.tools (x.tools.read_aps (part_of x.tools me to nwk aps body).bytes)
    ≡ None
unfolding part_of
bytes-none x shows h me to nwk aps (Saying bytes) c = saying-none x.tools shows (nat_le 0xfff8 to)
    (low_byte nwk ∷ bytes)
bytes-none x shows h me to nwk aps (Clear control command) c =
    clear-none x.tools (control ∷ low_byte nwk ∷ x.tools.spelled command)
    (x.tools.read_aps (control ∷ low_byte nwk ∷ x.tools.spelled command)) refl
    (λ a q. command-none x.tools command shows c.1 a a.auxiliary
    (shows.clear control (low_byte nwk) (x.tools.spelled command) a c.0 q))
bytes-none x shows h me to nwk aps (Secret label key command) c =
    clear-none x.tools (x.tools.wire (aps_term sealed_command label key me aps (x.tools.spelled command)))
    (x.tools.read_aps (x.tools.wire (aps_term sealed_command label key me aps (x.tools.spelled command)))) refl
    (λ a q. sealed-none x.tools a a.auxiliary (shows.command label key me aps (x.tools.spelled command) a q))
bytes-none x shows h me to nwk aps (Tunnelled device key command) c =
    clear-none x.tools (clear_command ∷ low_byte nwk ∷ x.tools.spelled tunnel)
    (x.tools.read_aps (clear_command ∷ low_byte nwk ∷ x.tools.spelled tunnel)) refl
    (λ a q. command-none x.tools tunnel shows refl a a.auxiliary
    (shows.clear clear_command (low_byte nwk) (x.tools.spelled tunnel) a (inl refl) q))
  where
    tunnel : Command
    tunnel = Tunnel device (x.tools.wire (aps_term sealed_command ForTransport key me aps (x.tools.spelled command)))
bytes-none x shows h me to nwk aps (Telling key bytes) c =
    clear-none x.tools (x.tools.wire (aps_term (data_front sealed_data) Label.ForData key me aps bytes))
    (x.tools.read_aps (x.tools.wire (aps_term (data_front sealed_data) Label.ForData key me aps bytes))) refl
    (λ a q. sealed-none x.tools a a.auxiliary (shows.telling Label.ForData key me aps bytes a q))
bytes-none x shows h me to nwk aps Leaving c = data-none x.tools shows Rattle.zb_model.specs.Frames.leave_payload refl
bytes-none x shows h me to nwk aps (Relayed bytes) c = absurd (false≢true (sym c))

net-carries : (x : Case) (h : List Line) (control to from me sequence nwk : ℕ) (key bytes : Bytes)
    → clear_key x.tools (x.tools.read_aps bytes) ≡ None
    → Carries x h (nwk_term control to from me key sequence nwk bytes)
unfolding carried
net-carries x h control to from me sequence nwk key bytes e k q = absurd (no-key k (sym e ∙ q))

framed-carries : (x : Case) → ShowsKeys x.tools → (h : List Line) (c : Setting) (to nwk aps : ℕ) (secured : Bool)
    (row : Option NetKey) (body : Body) → BodyCarries x h secured body
    → AllByRecursion (Carries x h)
    (framed x.tools c to nwk secured row (part_of x.tools c.me.eui to nwk aps body)).seals
framed-carries x shows h c to nwk aps false row body k = part-carries x shows h c.me.eui to nwk aps false body k
framed-carries x shows h c to nwk aps true None body k = tt
framed-carries x shows h c to nwk aps true (Some r) body k =
    all-append (Carries x h) part.seals (nwk_term part.control to c.me.short c.me.eui r.key r.sequence nwk part.bytes
    ∷ []) (part-carries x shows h c.me.eui to nwk aps true body k) (
      net-carries x h part.control to c.me.short c.me.eui r.sequence nwk r.key part.bytes
          (bytes-none x shows h c.me.eui to nwk aps body k),
      tt,
    )
  where
    part : Part
    part = part_of x.tools c.me.eui to nwk aps body

abbrev pub SendCarries : Case → List Line → Option Sending → Type 0
SendCarries x h None = Unit {0}
SendCarries x h (Some send) = BodyCarries x h send.secured send.body

sent-carries : (x : Case) → ShowsKeys x.tools → (h : List Line) (c : Setting) (s : NodeState) (k : Counting)
    (send : Option Sending) → SendCarries x h send → AllByRecursion (Carries x h) (sent x.tools c s k send).seals
sent-carries x shows h c s k None q = tt
sent-carries x shows h c s k (Some send) q = framed-carries x shows h c send.to (k.counter Nwk) (k.counter Aps)
    send.secured (active_row s) send.body q

pub out-carries : (x : Case) → ShowsKeys x.tools → (h : List Line) (c : Setting) (s : NodeState) (k : Counting)
    (send : Option Sending) (b : Bool) → SendCarries x h send
    → AllByRecursion (Carries x h) (cond b (sent x.tools c s k send) nothing_out).seals
out-carries x shows h c s k send true q = sent-carries x shows h c s k send q
out-carries x shows h c s k send false q = tt
