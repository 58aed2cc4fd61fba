-- What is asked of the program's entries is asked of what they represent.
use Rattle.std.proofs.Common.{◌≡◌, ℕ, ◌<◌, ◌≤◌, ◌&&◌, ◌||◌, not, nat_lt, zero, suc, arith, List, [], ◌∷◌, Bool, true, false, cond, map, find, length, get_or, set, Option, Some, None, refl, ap}
use Rattle.std.specs.Prelude.{position}
use Rattle.std.specs.List.{list_any, AllByRecursion, position_or_len}
use Rattle.std.proofs.lemmas.Bool.Decides.{nat_tests}
use Rattle.std.proofs.lemmas.List.Quantifiers.{position-Some}
use Rattle.std.proofs.lemmas.List.Sums.{fails_before_first}
use Rattle.std.specs.Option.{option_map}
use Rattle.zb_sched_line.specs.Said.{Bytes}
use Rattle.zb_sched.specs.Drafts.{seat_of, IsLinked, is_linked, role_among}
use Rattle.zb_sched.specs.Judge.{Seat, changed, has_name, is_link, is_link_of_other, role_named}
use Rattle.zb_sched.specs.declared.entry.Entry.{Entry}

pub any_seats : (p : Seat → Bool) (es : List Entry) → list_any (λ e. p (seat_of e)) es ≡ list_any p (map seat_of es)
any_seats p [] = refl
any_seats p (e ∷ es) = ap (λ b. p (seat_of e) || b) (any_seats p es)

found : (b : Bool) (e : Entry) (o : Option Entry) (r : Option Seat) → option_map (λ x. x.node.peer.role) o
    ≡ option_map (λ s. s.node.role) r
    → option_map (λ x. x.node.peer.role) (cond b (Some e) o)
    ≡ option_map (λ s. s.node.role) (cond b (Some (seat_of e)) r)
found true e o r h = refl
found false e o r h = h

pub role_seats : (name : Bytes) (es : List Entry) → role_among name es ≡ role_named name (map seat_of es)
role_seats name [] = refl
role_seats name (e ∷ es) =
    found (has_name name (seat_of e)) e (find (λ x. has_name name (seat_of x)) es)
    (find (λ s. has_name name s) (map seat_of es)) (role_seats name es)

pub link_seats : (key : Bytes) (es : List Entry) → AllByRecursion IsLinked es → list_any (λ e. is_linked key e) es
    ≡ is_link key (map seat_of es)
link_seats key [] linked = refl
link_seats key (e ∷ es) linked = rw (linked.0, link_seats key es linked.1) refl

pub other_link_seats : (key name : Bytes) (es : List Entry) → AllByRecursion IsLinked es
    → list_any (λ e. is_linked key e && not (has_name name (seat_of e))) es
    ≡ is_link_of_other key name (map seat_of es)
other_link_seats key name [] linked = refl
other_link_seats key name (e ∷ es) linked = rw (linked.0, other_link_seats key name es linked.1) refl

-- the first entry of a name, replaced by one that represents its seat changed
entry_here : (name : Bytes) (change : Seat → Seat) (es : List Entry) (i : ℕ) (d e : Entry) → i < length es
    → has_name name (seat_of (get_or es i d)) ≡ true
    → ((k : ℕ) → k < i → has_name name (seat_of (get_or es k d)) ≡ false) → seat_of e
    ≡ change (seat_of (get_or es i d))
    → map seat_of (set es i e) ≡ changed name change (map seat_of es)
entry_here name change [] i d e within here before same = absurd (omega arith)
entry_here name change (x ∷ es) zero d e within here before same = rw here (ap (λ (s : Seat). s ∷ map seat_of es) same)
entry_here name change (x ∷ es) (suc i) d e within here before same =
    rw (before 0 (omega arith))
    (ap (λ (more : List Seat). seat_of x ∷ more)
    (entry_here name change es i d e (omega arith) here (λ k lt. before (suc k) (omega arith)) same))

pub entries_changed : (name : Bytes) (change : Seat → Seat) (es : List Entry) (i : ℕ) (d e : Entry)
    → position (λ x. has_name name (seat_of x)) es ≡ Some i
    → seat_of e ≡ change (seat_of (get_or es i d)) → map seat_of (set es i e) ≡ changed name change (map seat_of es)
entries_changed name change es i d e found same =
    let at = position-Some (λ x. has_name name (seat_of x)) es i d found in entry_here name change es i d e at.0 at.1
    at.2 same

nowhere : (name : Bytes) (change : Seat → Seat) (es : List Entry)
    → ((k : ℕ) (d : Entry) → k < length es → has_name name (seat_of (get_or es k d)) ≡ false)
    → map seat_of es ≡ changed name change (map seat_of es)
nowhere name change [] others = refl
nowhere name change (x ∷ es) others =
    rw (others 0 x (omega arith))
    (ap (λ (more : List Seat). seat_of x ∷ more)
    (nowhere name change es (λ k d lt. others (suc k) d (omega arith))))

none_test : (b : Bool) (x : ℕ) → cond b (Some x) None ≡ None → b ≡ false
none_test true x h = cc h
none_test false x h = refl

-- without an entry of that name, nothing changes
pub entries_same : (name : Bytes) (change : Seat → Seat) (es : List Entry)
    → position (λ x. has_name name (seat_of x)) es ≡ None
    → map seat_of es ≡ changed name change (map seat_of es)
entries_same name change es none =
    let all_before : nat_lt (position_or_len (λ x. has_name name (seat_of x)) es) (length es) ≡ false =
    none_test _ _ none in
    let whole : length es ≤ position_or_len (λ x. has_name name (seat_of x)) es = grind (arith, nat_tests) in
    nowhere name change es (λ k d lt. fails_before_first (λ x. has_name name (seat_of x)) es k d (omega arith))
