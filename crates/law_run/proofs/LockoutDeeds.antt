-- What the rules of the policy do with keys: what each changes and sends, one lemma per rule. All laws on keys rest
-- on these.
use Rattle.std.proofs.Common.{◌≡◌, ℕ, Bool, true, false, cond, not, ◌&&◌, ◌||◌, List, [], ◌∷◌, ◌++◌, map, filter, Option, Some, None, option_map, option_to_list, find, is_some, nat_eq, refl, sym, ap, ◌∙◌, append_assoc, subst, eqb-true, ◌⊎◌, inl, inr, ⊎_elim}
use Rattle.std.proofs.lemmas.Bool.{false≢true, and_parts}
use Rattle.std.specs.List.{AllByRecursion, list_any}
use Rattle.zb_model.specs.Data.{Bytes, Role, Centre, Router, Device, Nwk, Aps, Label, Attribute, Provisional, Unverified, Verified, State, Joined, Offered, Move, Draw, DropNet, DropLink, Install, Active, Row, Pair, Became, Live, Removed, Roll, Told, Untold, Command, TransportNet, TransportApp, TransportLink, UpdateDevice, RemoveDevice, RequestApp, RequestLink, SwitchKey, Tunnel, VerifyKey, ConfirmKey, Place, AtAps, Task, SayTo, TellTo, DoKnock, DoRejoin, DoTimer, AskFor, HasChild, DoProvision, DoRemove, DoRoll, DoSwitch, DoAgain, DoShare, Received, Term}
use Rattle.zb_model.specs.State.{NetKey, LinkKey, PairKey, NodeState, same_key, is_centre, is_verified, is_unverified, is_live_of, names_two, has_net, active_row, usable_active, usable_of, net_of, net_of_active, newest, last_where, current, offered, is_live, other_user, pair_of, may_use, is_active_key}
use Rattle.zb_model.specs.Tools.{Tools, NwkShown, NwkAuxiliary, ApsShown, ApsAuxiliary, CommandShown, Known, Unknown, Broken, LeaveShown, Leave, Other, NoCommand, verify_hash}
use Rattle.zb_model.specs.Judging.{Verdict, Not, Good, judge_net, Carrier, carrier, judge_security, judge_nwk, payload_of, Unsealed, judge_aps}
use Rattle.zb_model.specs.Answer.{comes_to, heard_clear, heard_sealed, nwk_command, aps_command, clear_part, sealed_part, by_security, aps_part, net_part, received_as, plan_of}
use Rattle.law_run.specs.Opening.{Opens}
use Rattle.zb_model.specs.Secrets.{key_in}
use Rattle.zb_model.specs.Frames.{clear_command, clear_broadcast}
use Rattle.zb_model.specs.Rules.{Body, Saying, Clear, Secret, Tunnelled, Telling, Leaving, Relayed, Sending, Outcome, Stop, Does, Setting, Plan, refuse_if, found_or, choose, sends, centre_of, short_of, is_declared, is_router, spent, both_spent, waits_for_key, unless_held, drop_link, drop_row, drop_partner, drop_others, drop_old, first_drop}
use Rattle.zb_model.specs.OwnEvents.{say, knock, rejoin, request_key, verify_key, timer_in, member_timer, ask, tell, report_child, child_of_router, child_of_centre, next_member, centre_timer, provision_new, provision, tell_leave, tell_parent, remove_device, roll, switch_over, again, share, own_at_centre, own_at_member, own}
use Rattle.zb_model.specs.Commands.{Heard, is_clear, names_eui, is_member, take_net_key, refuse_if_old, dropped_at, activates, activate, joined_state, refuse_if_used, take_row, take_link_key, take_app_key, take_switch, take_confirm, take_remove, take_tunnel, take_update, answer_request, take_request, answer_pair, lesser, greater, take_app_request, verified_current, take_verify, take_command, take_leave}
use Rattle.law_run.proofs.Judged.{OnGood, reject-good, need-good, In, found-element, in-reverse}

-- Rows

pub record HasRow (s : NodeState) (p : ℕ) (k : Bytes) : Type 0 where
  pub row : LinkKey
  pub among : In row s.links
  pub partner : row.partner ≡ p
  pub key : row.key ≡ k

pub record LiveRow (s : NodeState) (p : ℕ) (k : Bytes) : Type 0 where
  pub row : LinkKey
  pub among : In row s.links
  pub live : row.live ≡ true
  pub partner : row.partner ≡ p
  pub key : row.key ≡ k

pub record VerifiedRow (s : NodeState) (p : ℕ) (k : Bytes) : Type 0 where
  pub row : LinkKey
  pub among : In row s.links
  pub live : row.live ≡ true
  pub attribute : row.attribute ≡ Verified
  pub partner : row.partner ≡ p
  pub key : row.key ≡ k

pub record HasNet (s : NodeState) (k : Bytes) : Type 0 where
  pub row : NetKey
  pub among : In row s.nets
  pub key : row.key ≡ k

pub record HasPair (s : NodeState) (k : Bytes) : Type 0 where
  pub pair : PairKey
  pub among : In pair s.pairs
  pub key : pair.key ≡ k

-- What is sent

-- the next key of the supply that a task brings
abbrev pub draw_of : Task → Option Bytes
draw_of (DoRoll draw) = draw
draw_of (Received bytes draw) = draw
draw_of _ = None

abbrev pub EnteredBy : Task → ℕ → Bytes → Type 0
EnteredBy (DoProvision device key) p k = (device ≡ p) × (key ≡ k)
EnteredBy _ p k = ⊥

abbrev pub IsNew : NodeState → Option Bytes → Bytes → Type 0
IsNew s draw k = unless_held s draw ≡ Some k

-- a key that is confirmed: the row is verified, or becomes so
abbrev pub Stands : NodeState → List Move → ℕ → Bytes → Type 0
Stands s moves d base = (moves ≡ []) × VerifiedRow s d base

abbrev pub Proves : NodeState → List Move → ℕ → Bytes → Type 0
Proves s moves d base = (row : LinkKey) × (offered s d ≡ Some row) × (row.key ≡ base)
    × (moves ≡ drop_row (current s d) ++ (Row d base Verified ∷ []))

-- nobody is removed; no link row comes
abbrev pub Stays : Move → Type 0
Stays (Removed d) = ⊥
Stays _ = Unit {0}

abbrev pub BringsNoRow : Move → Type 0
BringsNoRow (Row p k t) = ⊥
BringsNoRow _ = Unit {0}

-- A command sealed under a base key: a network key, an offered key or a key of two goes to a live device under a key
-- of its own.
abbrev pub CommandFits : Setting → NodeState → Option Bytes → List Move → Bytes → Command → Type 0
CommandFits c s draw moves base (TransportNet k q d o) = (is_centre c.me.role ≡ true) × ((p : ℕ) × LiveRow s p base)
    × HasNet s k × AllByRecursion Stays moves
CommandFits c s draw moves base (TransportLink k d o) =
    (is_centre c.me.role ≡ true)
    × ((p : ℕ) × LiveRow s p base
    × (HasRow s p k ⊎ (IsNew s draw k × (moves ≡ Draw k ∷ Row p k Unverified ∷ [])))) × AllByRecursion Stays moves
CommandFits c s draw moves base (TransportApp k q i) =
    (is_centre c.me.role ≡ true) × ((p : ℕ) × LiveRow s p base)
    × (HasPair s k ⊎ (IsNew s draw k × ((a b : ℕ) × (moves ≡ Draw k ∷ Pair a b k ∷ []))))
    × AllByRecursion Stays moves × AllByRecursion BringsNoRow moves
CommandFits c s draw moves base (ConfirmKey status kind d) = (is_centre c.me.role ≡ true) × (is_declared c d ≡ true)
    × (Stands s moves d base ⊎ Proves s moves d base)
CommandFits c s draw moves base _ = Unit {0}

abbrev pub BodyFits : Setting → NodeState → Option Bytes → List Move → Bool → Body → Type 0
BodyFits c s draw moves secured (Saying bytes) = Unit {0}
BodyFits c s draw moves secured (Clear control command) = ((control ≡ clear_command) ⊎ (control ≡ clear_broadcast))
    × (key_in command ≡ None)
BodyFits c s draw moves secured (Secret label key command) = CommandFits c s draw moves key command
BodyFits c s draw moves secured (Tunnelled device key command) = CommandFits c s draw moves key command
BodyFits c s draw moves secured (Telling key bytes) = Unit {0}
BodyFits c s draw moves secured Leaving = Unit {0}
BodyFits c s draw moves secured (Relayed bytes) = secured ≡ false

abbrev pub SendFits : Setting → NodeState → Option Bytes → List Move → Option Sending → Type 0
SendFits c s draw moves None = Unit {0}
SendFits c s draw moves (Some send) = BodyFits c s draw moves send.secured send.body

-- What is changed

-- a router or device draws no keys and admits nobody
abbrev pub OfMember : Move → Type 0
OfMember (Draw k) = ⊥
OfMember (Pair a b k) = ⊥
OfMember (Live d) = ⊥
OfMember (Removed d) = ⊥
OfMember (Roll b) = ⊥
OfMember (Told d) = ⊥
OfMember (Untold d) = ⊥
OfMember _ = Unit {0}

-- a change at the centre that brings no key: a link row that it adds is there already, of a live device
abbrev pub Quiet : NodeState → Move → Type 0
Quiet s (Draw k) = ⊥
Quiet s (Install k q) = ⊥
Quiet s (Row p k t) = HasRow s p k × (is_live s p ≡ true)
Quiet s (Pair a b k) = ⊥
Quiet s (Live d) = ⊥
Quiet s (Removed d) = ⊥
Quiet s _ = Unit {0}

-- a change that affects no claim on keys
abbrev pub IdleMove : Move → Type 0
IdleMove (Draw k) = ⊥
IdleMove (Install k q) = ⊥
IdleMove (Row p k t) = ⊥
IdleMove (Pair a b k) = ⊥
IdleMove (Live d) = ⊥
IdleMove (Removed d) = ⊥
IdleMove _ = Unit {0}

-- a change that leaves link rows and the state as they are, except whether rows are told
abbrev pub Still : Move → Type 0
Still (DropLink p k) = ⊥
Still (Row p k t) = ⊥
Still (Became g) = ⊥
Still _ = Unit {0}

-- a change that doesn't set the state; and one that affects the rows of one partner alone
abbrev pub KeepsState : Move → Type 0
KeepsState (Became g) = ⊥
KeepsState _ = Unit {0}

abbrev pub OnlyOf : ℕ → Move → Type 0
OnlyOf q (DropLink p k) = p ≡ q
OnlyOf q (Row p k t) = p ≡ q
OnlyOf q (Became g) = ⊥
OnlyOf q _ = Unit {0}

-- What a router or device does to its link rows and its state. Either nothing; or it ends in a new state, and if that
-- is Offered, it has an offered row; or it ends in another state than Offered; or it installs a key of the centre; or
-- it changes rows of another partner.
pub data MemberDeed (centre : ℕ) (s : NodeState) (moves : List Move) : Type 0 where
  still : AllByRecursion Still moves → MemberDeed centre s moves
  goes_on : (g : State) (before : List Move) → AllByRecursion Still before
      → (g ≡ Offered → is_some (offered s centre) ≡ true) → moves ≡ before ++ (Became g ∷ [])
      → MemberDeed centre s moves
  leaves : (g : State) (before : List Move) → (g ≡ Offered → ⊥) → AllByRecursion KeepsState before → moves ≡ before
      ++ (Became g ∷ []) → MemberDeed centre s moves
  takes : (k : Bytes) → Rattle.zb_model.specs.Commands.has_key k (offered s centre) ≡ false → moves
      ≡ drop_row (offered s centre) ++ (Row centre k Unverified ∷ Became Offered ∷ []) → MemberDeed centre s moves
  shares : (p : ℕ) → (p ≡ centre → ⊥) → AllByRecursion (OnlyOf p) moves → MemberDeed centre s moves

pub data Deed (c : Setting) (s : NodeState) (task : Task) (moves : List Move) : Type 0 where
  member : is_centre c.me.role ≡ false → AllByRecursion OfMember moves → MemberDeed (centre_of c.stations) s moves
      → Deed c s task moves
  nothing : moves ≡ [] → Deed c s task moves
  quiet : is_centre c.me.role ≡ true → AllByRecursion (Quiet s) moves → AllByRecursion Still moves
      → Deed c s task moves
  verifies : is_centre c.me.role ≡ true → (p : ℕ) (row : LinkKey) → offered s p ≡ Some row
      → AllByRecursion (Quiet s) moves → moves ≡ drop_row (current s p) ++ (Row p row.key Verified ∷ [])
      → Deed c s task moves
  rolls : is_centre c.me.role ≡ true → (k : Bytes) (q : ℕ) (drops : List Move) → IsNew s (draw_of task) k
      → AllByRecursion IdleMove drops → AllByRecursion Still drops
      → moves ≡ Draw k ∷ drops ++ (Install k q ∷ Roll true ∷ []) → Deed c s task moves
  offers : is_centre c.me.role ≡ true → (p : ℕ) (k : Bytes) → IsNew s (draw_of task) k → is_live s p ≡ true → moves
      ≡ Draw k ∷ Row p k Unverified ∷ [] → Deed c s task moves
  pairs : is_centre c.me.role ≡ true → (a b : ℕ) (k : Bytes) → IsNew s (draw_of task) k → is_live s a ≡ true
      → is_live s b ≡ true → moves ≡ Draw k ∷ Pair a b k ∷ [] → Deed c s task moves
  enters : is_centre c.me.role ≡ true → (p : ℕ) (k : Bytes) → EnteredBy task p k → is_live s p ≡ false
      → other_user s p k ≡ None → moves ≡ Row p k Provisional ∷ Live p ∷ [] → Deed c s task moves
  removes : is_centre c.me.role ≡ true → (p : ℕ) → is_live s p ≡ true → moves ≡ drop_partner s p ++ (Removed p ∷ [])
      → Deed c s task moves

pub record Done (c : Setting) (s : NodeState) (task : Task) (moves : List Move) (sending : Option Sending) : Type 0
  where
    pub deed : Deed c s task moves
    pub send : SendFits c s (draw_of task) moves sending

abbrev pub OutcomeFits : Setting → NodeState → Task → Outcome → Type 0
OutcomeFits c s task (Stop reason) = Unit {0}
OutcomeFits c s task (Does moves sending) = Done c s task moves sending

-- The steps of a rule

pub by-unless : (c : Setting) (s : NodeState) (task : Task) (bad : Bool) (reason : Rattle.zb_model.specs.Data.Reason)
    (rest : Outcome) → (bad ≡ false → OutcomeFits c s task rest) → OutcomeFits c s task (refuse_if bad reason rest)
unfolding refuse_if
by-unless c s task true reason rest k = tt
by-unless c s task false reason rest k = k refl

pub by-given : {A : Type 0} (c : Setting) (s : NodeState) (task : Task) (o : Option A)
    (reason : Rattle.zb_model.specs.Data.Reason) (rest : A → Outcome)
    → ((a : A) → o ≡ Some a → OutcomeFits c s task (rest a)) → OutcomeFits c s task (found_or o reason rest)
unfolding found_or
by-given c s task None reason rest k = tt
by-given c s task (Some a) reason rest k = k a refl

pub by-choose : (c : Setting) (s : NodeState) (task : Task) (test : Bool) (yes_ no_ : Outcome)
    → (test ≡ true → OutcomeFits c s task yes_) → (test ≡ false → OutcomeFits c s task no_)
    → OutcomeFits c s task (choose test yes_ no_)
unfolding choose
by-choose c s task true yes_ no_ k j = k refl
by-choose c s task false yes_ no_ k j = j refl

-- nothing is changed, and what is sent fits
only-sends : (c : Setting) (s : NodeState) (task : Task) (sending : Option Sending)
    → SendFits c s (draw_of task) [] sending → Done c s task [] sending
only-sends c s task sending f = record { deed = nothing refl; send = f }

does-nothing : (c : Setting) (s : NodeState) (task : Task) → Done c s task [] None
does-nothing c s task = record { deed = nothing refl; send = tt }

by-member : (c : Setting) (s : NodeState) (task : Task) (moves : List Move) → is_centre c.me.role ≡ false
    → AllByRecursion OfMember moves → MemberDeed (centre_of c.stations) s moves → Done c s task moves None
by-member c s task moves m a d = record { deed = member m a d; send = tt }

-- Tests

not-false : (b : Bool) → not b ≡ false → b ≡ true
not-false true e = refl
not-false false e = absurd (false≢true (sym e))

not-true : (b : Bool) → not b ≡ true → b ≡ false
not-true true e = absurd (false≢true e)
not-true false e = refl

-- the form in which a rule tests what it needs
needs : (a b : Bool) → not (a && b) ≡ false → (a ≡ true) × (b ≡ true)
needs a b e = and_parts a b (not-false (a && b) e)

of-member : (c : Setting) (b : Bool) → not (is_member c && b) ≡ false → is_centre c.me.role ≡ false
of-member c b e = not-true (is_centre c.me.role) (needs (is_member c) b e).0

of-centre : (c : Setting) (b : Bool) → not (is_centre c.me.role && b) ≡ false → is_centre c.me.role ≡ true
of-centre c b e = (needs (is_centre c.me.role) b e).0

-- Rows that are found

live-of : (p : ℕ) (r : LinkKey) → is_live_of p r ≡ true → (r.live ≡ true) × (r.partner ≡ p)
live-of p r e =
    ((and_parts r.live (nat_eq r.partner p) e).0, eqb-true r.partner p (and_parts r.live (nat_eq r.partner p) e).1)

row-live : (s : NodeState) (p : ℕ) (b : LinkKey → Bool) (r : LinkKey)
    → find (λ (r : LinkKey). is_live_of p r && b r) s.links ≡ Some r → LiveRow s p r.key
row-live s p b r e =
    record { row = r; among = found.0; live = (live-of p r test).0; partner = (live-of p r test).1; key = refl }
  where
    found : In r s.links × ((is_live_of p r && b r) ≡ true)
    found = found-element (λ (r : LinkKey). is_live_of p r && b r) s.links r e

    test : is_live_of p r ≡ true
    test = (and_parts (is_live_of p r) (b r) found.1).0

pub current-found : (s : NodeState) (p : ℕ) (r : LinkKey) → current s p ≡ Some r → In r s.links
    × ((is_live_of p r && not (is_unverified r.attribute)) ≡ true)
unfolding current
current-found s p r e = found-element (λ (r : LinkKey). is_live_of p r && not (is_unverified r.attribute)) s.links r e

pub current-live : (s : NodeState) (p : ℕ) (r : LinkKey) → current s p ≡ Some r → LiveRow s p r.key
unfolding current
current-live s p r e = row-live s p (λ (r : LinkKey). not (is_unverified r.attribute)) r e

pub offered-live : (s : NodeState) (p : ℕ) (r : LinkKey) → offered s p ≡ Some r → LiveRow s p r.key
unfolding offered
offered-live s p r e = row-live s p (λ (r : LinkKey). is_unverified r.attribute) r e

pub has-row : (s : NodeState) (p : ℕ) (k : Bytes) → LiveRow s p k → HasRow s p k
has-row s p k l = record { row = l.row; among = l.among; partner = l.partner; key = l.key }

or-left : (a b : Bool) → a ≡ true → (a || b) ≡ true
or-left true b e = refl
or-left false b e = absurd (false≢true e)

or-right : (a b : Bool) → b ≡ true → (a || b) ≡ true
or-right true b e = refl
or-right false b e = e

pub any-of : {X : Type 0} (test : X → Bool) (x : X) (xs : List X) → In x xs → test x ≡ true → list_any test xs ≡ true
unfolding In
any-of test x [] i e = absurd i
any-of test x (y ∷ ys) (inl q) e = or-left (test y) (list_any test ys) (subst (λ z. test z ≡ true) (sym q) e)
any-of test x (y ∷ ys) (inr i) e = or-right (test y) (list_any test ys) (any-of test x ys i e)

pub is-live : (s : NodeState) (p : ℕ) (k : Bytes) → LiveRow s p k → is_live s p ≡ true
unfolding is_live
is-live s p k l = any-of (is_live_of p) l.row s.links l.among
    (both l.row.live (nat_eq l.row.partner p) l.live (Rattle.std.proofs.Common.eq-eqb l.row.partner p l.partner))
  where
    both : (a b : Bool) → a ≡ true → b ≡ true → (a && b) ≡ true
    both true b e f = f
    both false b e f = absurd (false≢true e)

net-by : (s : NodeState) (o : Option Bytes) (r : NetKey) → net_of_active o s ≡ Some r → HasNet s r.key
net-by s None r e = absurd (Rattle.law_run.proofs.Counters.none-some r e)
net-by s (Some key) r e =
    record { row = r; among = (found-element (λ (x : NetKey). same_key x.key key) s.nets r e).0; key = refl }

pub active-net : (s : NodeState) (r : NetKey) → active_row s ≡ Some r → HasNet s r.key
unfolding active_row
active-net s r e = net-by s s.active r e

pub newest-net : (s : NodeState) (r : NetKey) → newest s ≡ Some r → HasNet s r.key
unfolding newest
newest-net s r e =
    record {
      row = r;
      among =
          in-reverse r s.nets (found-element (λ (r : NetKey). r.live) (Rattle.std.specs.Prelude.reverse s.nets) r e).0;
      key = refl;
    }

pub pair-found : (s : NodeState) (a b : ℕ) (p : PairKey) → pair_of s a b ≡ Some p → HasPair s p.key
unfolding pair_of
pair-found s a b p e = record { pair = p; among = (found-element (names_two a b) s.pairs p e).0; key = refl }

-- The rules of a node's own events

say-fits : (c : Setting) (s : NodeState) (task : Task) (to : ℕ) (bytes : Bytes) → OutcomeFits c s task (say s to bytes)
unfolding say
say-fits c s task to bytes =
    by-given c s task (usable_active s) _ _
    (λ net e. by-unless c s task _ _ _
    (λ a. by-unless c s task _ _ _ (λ b. only-sends c s task (sends to true (Saying bytes)) tt)))

others-of-member : (s : NodeState) (rows : List LinkKey) (more : List Move) → AllByRecursion OfMember more
    → AllByRecursion OfMember (map drop_link rows ++ more)
others-of-member s [] more a = a
others-of-member s (r ∷ rs) more a = (tt, others-of-member s rs more a)

-- states apart
abbrev IsOffered : State → Type 0
IsOffered Offered = Unit {0}
IsOffered _ = ⊥

not-knocked : Rattle.zb_model.specs.Data.State.Knocked ≡ Offered → ⊥
not-knocked e = subst IsOffered (sym e) tt

not-confirmed : Rattle.zb_model.specs.Data.State.Confirmed ≡ Offered → ⊥
not-confirmed e = subst IsOffered (sym e) tt

not-rejoining : Rattle.zb_model.specs.Data.State.Rejoining ≡ Offered → ⊥
not-rejoining e = subst IsOffered (sym e) tt

not-gone : Rattle.zb_model.specs.Data.State.Gone ≡ Offered → ⊥
not-gone e = subst IsOffered (sym e) tt

drops-keep-state : (rows : List LinkKey) (more : List Move) → AllByRecursion KeepsState more
    → AllByRecursion KeepsState (map drop_link rows ++ more)
drops-keep-state [] more a = a
drops-keep-state (r ∷ rs) more a = (tt, drops-keep-state rs more a)

knock-fits : (c : Setting) (s : NodeState) (task : Task) → is_centre c.me.role ≡ false
    → OutcomeFits c s task (knock c s)
unfolding knock drop_others
knock-fits c s task m =
    by-given c s task _ _ _
    (λ row e. by-member c s task
    (drop_others s row.partner row.key
    ++ (Row row.partner row.key Provisional ∷ Became Rattle.zb_model.specs.Data.State.Knocked ∷ [])) m
    (others-of-member s (others row) _ (tt, (tt, tt)))
    (leaves Rattle.zb_model.specs.Data.State.Knocked
    (drop_others s row.partner row.key ++ (Row row.partner row.key Provisional ∷ [])) not-knocked
    (drops-keep-state (others row) _ (tt, tt))
    (sym (append_assoc (map drop_link (others row)) (Row row.partner row.key Provisional ∷ [])
    (Became Rattle.zb_model.specs.Data.State.Knocked ∷ [])))))
  where
    others : LinkKey → List LinkKey
    others row = filter (λ (r : LinkKey). is_live_of row.partner r && not (same_key r.key row.key)) s.links

rejoin-fits : (c : Setting) (s : NodeState) (task : Task) → is_centre c.me.role ≡ false
    → OutcomeFits c s task (rejoin s)
unfolding rejoin
rejoin-fits c s task m =
    by-unless c s task _ _ _
    (λ a. by-member c s task (Became Rattle.zb_model.specs.Data.State.Rejoining ∷ []) m (tt, tt)
    (leaves Rattle.zb_model.specs.Data.State.Rejoining [] not-rejoining tt refl))

request-fits : (c : Setting) (s : NodeState) (task : Task) → OutcomeFits c s task (request_key c s)
unfolding request_key
request-fits c s task = by-given c s task (current s (centre_of c.stations)) _ _
    (λ row e. by-unless c s task _ _ _
    (λ a. only-sends c s task (sends 0 true (Secret Rattle.zb_model.specs.Data.Label.ForData row.key RequestLink)) tt))

verify-fits : (tools : Tools) (c : Setting) (s : NodeState) (task : Task) → OutcomeFits c s task (verify_key tools c s)
unfolding verify_key
verify-fits tools c s task = by-given c s task (offered s (centre_of c.stations)) _ _
    (λ row e. by-unless c s task _ _ _
    (λ a. only-sends c s task (sends 0 true (Clear clear_command (VerifyKey 4 c.me.eui (verify_hash tools row.key))))
    (inl refl, refl)))

timer-fits : (state : State) (tools : Tools) (c : Setting) (s : NodeState) (task : Task)
    → OutcomeFits c s task (timer_in state tools c s)
timer-fits Joined tools c s task = request-fits c s task
timer-fits Offered tools c s task = verify-fits tools c s task
timer-fits _ tools c s task = tt

member-timer-fits : (tools : Tools) (c : Setting) (s : NodeState) (task : Task)
    → OutcomeFits c s task (member_timer tools c s)
unfolding member_timer
member-timer-fits tools c s task = by-given c s task (usable_active s) _ _ (λ net e. timer-fits s.state tools c s task)

ask-fits : (c : Setting) (s : NodeState) (task : Task) (partner : ℕ) → OutcomeFits c s task (ask c s partner)
unfolding ask
ask-fits c s task partner =
    by-given c s task (usable_active s) _ _
    (λ net e. by-given c s task (current s (centre_of c.stations)) _ _
    (λ row f. by-unless c s task _ _ _ (λ a. by-unless c s task _ _ _ (λ b.
    only-sends c s task (sends 0 true (Secret Rattle.zb_model.specs.Data.Label.ForData row.key (RequestApp partner)))
    tt))))

tell-fits : (c : Setting) (s : NodeState) (task : Task) (partner : ℕ) (bytes : Bytes)
    → OutcomeFits c s task (tell c s partner bytes)
unfolding tell
tell-fits c s task partner bytes =
    by-given c s task (usable_active s) _ _
    (λ net e. by-given c s task (find (is_live_of partner) s.links) _ _
    (λ row f. by-unless c s task _ _ _ (λ a. by-unless c s task _ _ _ (λ b.
    only-sends c s task (sends (short_of c partner) true (Telling row.key bytes)) tt))))

report-fits : (c : Setting) (s : NodeState) (task : Task) (child : ℕ) (returns : Bool) (o : Option LinkKey)
    → OutcomeFits c s task (report_child c s child returns o)
report-fits c s task child returns None = by-unless c s task _ _ _ (λ a. only-sends c s task _ (inl refl, refl))
report-fits c s task child returns (Some row) = by-unless c s task _ _ _ (λ a. only-sends c s task _ tt)

child-router-fits : (c : Setting) (s : NodeState) (task : Task) (child : ℕ) (returns : Bool)
    → OutcomeFits c s task (child_of_router c s child returns)
unfolding child_of_router
child-router-fits c s task child returns =
    by-given c s task (usable_active s) _ _
    (λ net e. by-unless c s task _ _ _ (λ a. report-fits c s task child returns (current s (centre_of c.stations))))

child-centre-fits : (c : Setting) (s : NodeState) (task : Task) (child : ℕ) → is_centre c.me.role ≡ true
    → OutcomeFits c s task (child_of_centre c s child)
unfolding child_of_centre
child-centre-fits c s task child m =
    by-given c s task (active_row s) _ _
    (λ net e. by-given c s task (current s child) _ _ (λ row f. by-unless c s task _ _ _ (λ a.
    only-sends c s task _ (m, (child, current-live s child row f), active-net s net e, tt))))

centre-timer-fits : (c : Setting) (s : NodeState) (task : Task) → is_centre c.me.role ≡ true
    → OutcomeFits c s task (centre_timer c s)
unfolding centre_timer
centre-timer-fits c s task m =
    by-given c s task (active_row s) _ _
    (λ net e. by-unless c s task _ _ _ (λ a. by-given c s task (next_member s) _ _ (λ device b.
    by-given c s task (newest s) _ _
    (λ new f. by-given c s task (current s device) _ _ (λ row g. by-unless c s task _ _ _ (λ h.
    record {
      deed = quiet m (tt, tt) (tt, tt);
      send = (m, (device, current-live s device row g), newest-net s new f, (tt, tt));
    }))))))

provision-new-fits : (c : Setting) (s : NodeState) (device : ℕ) (key : Bytes) (o : Option LinkKey)
    → is_centre c.me.role ≡ true → is_live s device ≡ false → other_user s device key ≡ o
    → OutcomeFits c s (DoProvision device key) (provision_new s device key o)
provision-new-fits c s device key (Some other) m a e = tt
provision-new-fits c s device key None m a e = record { deed = enters m device key (refl, refl) a e refl; send = tt }

provision-fits : (c : Setting) (s : NodeState) (device : ℕ) (key : Bytes) → is_centre c.me.role ≡ true
    → OutcomeFits c s (DoProvision device key) (provision s device key)
unfolding provision
provision-fits c s device key m =
    by-unless c s (DoProvision device key) (is_live s device) _ _
    (λ a. by-unless c s (DoProvision device key) _ _ _
    (λ b. provision-new-fits c s device key (other_user s device key) m a refl))

leave-send : (c : Setting) (s : NodeState) (draw : Option Bytes) (moves : List Move) (device : ℕ) (b : Bool)
    → SendFits c s draw moves (cond b (sends (short_of c device) true Leaving) None)
leave-send c s draw moves device true = tt
leave-send c s draw moves device false = tt

parent-send : (c : Setting) (s : NodeState) (draw : Option Bytes) (moves : List Move) (device via : ℕ)
    (o : Option LinkKey) → SendFits c s draw moves (tell_parent c s device via o)
parent-send c s draw moves device via None = tt
parent-send c s draw moves device via (Some row) = by-test (is_some (active_row s) && not (both_spent s))
  where
    by-test : (b : Bool)
        → SendFits c s draw moves
        (cond b
        (sends (short_of c via) true (Secret Rattle.zb_model.specs.Data.Label.ForData row.key (RemoveDevice device)))
        None)
    by-test true = tt
    by-test false = tt

told-send : (c : Setting) (s : NodeState) (draw : Option Bytes) (moves : List Move) (device via : ℕ) (b : Bool)
    → SendFits c s draw moves (cond b (tell_leave c s device) (tell_parent c s device via (current s via)))
told-send c s draw moves device via true =
    leave-send c s draw moves device (is_some (active_row s) && not (spent Nwk s))
told-send c s draw moves device via false = parent-send c s draw moves device via (current s via)

remove-fits : (c : Setting) (s : NodeState) (task : Task) (device via : ℕ) → is_centre c.me.role ≡ true
    → OutcomeFits c s task (remove_device c s device via)
unfolding remove_device
remove-fits c s task device via m =
    by-unless c s task (not (is_live s device)) _ _ (λ a.
    record {
      deed = removes m device (not-false (is_live s device) a) refl;
      send = told-send c s (draw_of task)
          (drop_partner s device ++ (Removed device ∷ [])) device via (nat_eq via c.me.eui);
    })

first-idle : (rows : List NetKey) → AllByRecursion IdleMove (first_drop rows)
first-idle [] = tt
first-idle (r ∷ rs) = (tt, tt)

old-idle : (s : NodeState) → AllByRecursion IdleMove (drop_old s)
unfolding drop_old
old-idle s =
    by-test
    (Rattle.std.specs.Prelude.nat_le 2 (Rattle.std.specs.Prelude.length (Rattle.zb_model.specs.State.live_nets s)))
  where
    by-test : (b : Bool)
        → AllByRecursion IdleMove
        (cond b
        (first_drop
        (filter (λ (r : NetKey). not (is_active_key s.active r.key)) (Rattle.zb_model.specs.State.live_nets s))) [])
    by-test true =
        first-idle
        (filter (λ (r : NetKey). not (is_active_key s.active r.key)) (Rattle.zb_model.specs.State.live_nets s))
    by-test false = tt

first-still : (rows : List NetKey) → AllByRecursion Still (first_drop rows)
first-still [] = tt
first-still (r ∷ rs) = (tt, tt)

old-still : (s : NodeState) → AllByRecursion Still (drop_old s)
unfolding drop_old
old-still s =
    by-test
    (Rattle.std.specs.Prelude.nat_le 2 (Rattle.std.specs.Prelude.length (Rattle.zb_model.specs.State.live_nets s)))
  where
    by-test : (b : Bool)
        → AllByRecursion Still
        (cond b
        (first_drop
        (filter (λ (r : NetKey). not (is_active_key s.active r.key)) (Rattle.zb_model.specs.State.live_nets s))) [])
    by-test true =
        first-still
        (filter (λ (r : NetKey). not (is_active_key s.active r.key)) (Rattle.zb_model.specs.State.live_nets s))
    by-test false = tt

roll-fits : (c : Setting) (s : NodeState) (draw : Option Bytes) → is_centre c.me.role ≡ true
    → OutcomeFits c s (DoRoll draw) (roll s draw)
unfolding roll
roll-fits c s draw m =
    by-given c s (DoRoll draw) (active_row s) _ _
    (λ net e. by-unless c s (DoRoll draw) _ _ _
    (λ a. by-unless c s (DoRoll draw) _ _ _ (λ b. by-given c s (DoRoll draw) (unless_held s draw) _ _ (λ key new.
    record { deed = rolls m key _ (drop_old s) new (old-idle s) (old-still s) refl; send = tt }))))

switch-fits : (c : Setting) (s : NodeState) (task : Task) → is_centre c.me.role ≡ true
    → OutcomeFits c s task (switch_over s)
unfolding switch_over
switch-fits c s task m =
    by-given c s task (active_row s) _ _
    (λ net e. by-unless c s task _ _ _ (λ a. by-unless c s task _ _ _ (λ b. by-choose c s task s.sending _ _
    (λ d. by-given c s task (newest s) _ _
    (λ new f. record { deed = quiet m (tt, (tt, tt)) (tt, (tt, tt)); send = (inr refl, refl) }))
    (λ d. only-sends c s task _ (inr refl, refl)))))

again-fits : (c : Setting) (s : NodeState) (task : Task) (device : ℕ) → is_centre c.me.role ≡ true
    → OutcomeFits c s task (again s device)
unfolding again
again-fits c s task device m =
    by-unless c s task _ _ _
    (λ a. by-unless c s task _ _ _ (λ b. record { deed = quiet m (tt, tt) (tt, tt); send = tt }))

share-fits : (c : Setting) (s : NodeState) (task : Task) (device partner : ℕ) → is_centre c.me.role ≡ true
    → OutcomeFits c s task (share c s device partner)
unfolding share
share-fits c s task device partner m =
    by-given c s task (active_row s) _ _
    (λ net e. by-unless c s task _ _ _ (λ a. by-given c s task (pair_of s device partner) _ _ (λ pair f.
    by-given c s task (current s device) _ _
    (λ row g. by-unless c s task _ _ _
    (λ h. only-sends c s task _
    (m, (device, current-live s device row g), inl (pair-found s device partner pair f), tt, tt))))))

centre-own-fits : (c : Setting) (s : NodeState) (task : Task) → is_centre c.me.role ≡ true
    → OutcomeFits c s task (own_at_centre c s task)
centre-own-fits c s (SayTo to bytes) m = say-fits c s (SayTo to bytes) to bytes
centre-own-fits c s DoTimer m = centre-timer-fits c s DoTimer m
centre-own-fits c s (HasChild child returns) m = child-centre-fits c s (HasChild child returns) child m
centre-own-fits c s (DoProvision device key) m = provision-fits c s device key m
centre-own-fits c s (DoRemove device via) m = remove-fits c s (DoRemove device via) device via m
centre-own-fits c s (DoRoll draw) m = roll-fits c s draw m
centre-own-fits c s DoSwitch m = switch-fits c s DoSwitch m
centre-own-fits c s (DoAgain device) m = again-fits c s (DoAgain device) device m
centre-own-fits c s (DoShare device partner) m = share-fits c s (DoShare device partner) device partner m
centre-own-fits c s _ m = tt

member-own-fits : (tools : Tools) (c : Setting) (s : NodeState) (task : Task) → is_centre c.me.role ≡ false
    → OutcomeFits c s task (own_at_member tools c s task)
member-own-fits tools c s (SayTo to bytes) m = say-fits c s (SayTo to bytes) to bytes
member-own-fits tools c s (TellTo partner bytes) m = tell-fits c s (TellTo partner bytes) partner bytes
member-own-fits tools c s DoKnock m = knock-fits c s DoKnock m
member-own-fits tools c s DoRejoin m = rejoin-fits c s DoRejoin m
member-own-fits tools c s DoTimer m = member-timer-fits tools c s DoTimer
member-own-fits tools c s (AskFor partner) m = ask-fits c s (AskFor partner) partner
member-own-fits tools c s (HasChild child returns) m = child-router-fits c s (HasChild child returns) child returns
member-own-fits tools c s _ m = tt

pub own-fits : (tools : Tools) (c : Setting) (s : NodeState) (task : Task) → OutcomeFits c s task (own tools c s task)
unfolding own
own-fits tools c s task = by-test (is_centre c.me.role) refl
  where
    by-test : (b : Bool) → is_centre c.me.role ≡ b
        → OutcomeFits c s task (cond b (own_at_centre c s task) (own_at_member tools c s task))
    by-test true e = centre-own-fits c s task e
    by-test false e = member-own-fits tools c s task e

-- The rules of commands

activate-by : (c : Setting) (s : NodeState) (key : Bytes) (a b : Bool)
    → AllByRecursion OfMember ((cond a (Active key ∷ []) []) ++ (cond b (Became (joined_state c s) ∷ []) []))
activate-by c s key true true = (tt, (tt, tt))
activate-by c s key true false = (tt, tt)
activate-by c s key false true = (tt, tt)
activate-by c s key false false = tt

first-member : (rows : List NetKey) (more : List Move) → AllByRecursion OfMember more
    → AllByRecursion OfMember (first_drop rows ++ more)
first-member [] more a = a
first-member (r ∷ rs) more a = (tt, a)

old-member : (s : NodeState) (more : List Move) → AllByRecursion OfMember more
    → AllByRecursion OfMember (drop_old s ++ more)
unfolding drop_old
old-member s more a =
    by-test
    (Rattle.std.specs.Prelude.nat_le 2 (Rattle.std.specs.Prelude.length (Rattle.zb_model.specs.State.live_nets s)))
  where
    by-test : (b : Bool)
        → AllByRecursion OfMember
        (cond b
        (first_drop
        (filter (λ (r : NetKey). not (is_active_key s.active r.key)) (Rattle.zb_model.specs.State.live_nets s))) []
        ++ more)
    by-test true =
        first-member
        (filter (λ (r : NetKey). not (is_active_key s.active r.key)) (Rattle.zb_model.specs.State.live_nets s)) more a
    by-test false = a

by-old : (c : Setting) (s : NodeState) (task : Task) (key : Bytes) (o : Option ℕ) (rest : Outcome)
    → OutcomeFits c s task rest → OutcomeFits c s task (refuse_if_old s key o rest)
by-old c s task key None rest f = f
by-old c s task key (Some place) rest f = tt

still-append : (xs ys : List Move) → AllByRecursion Still xs → AllByRecursion Still ys
    → AllByRecursion Still (xs ++ ys)
still-append [] ys a b = b
still-append (x ∷ xs) ys a b = (a.0, still-append xs ys a.1 b)

-- in a node that waits for the key, the next state depends on the link rows
joined-has : (a b : Bool) → cond a Offered (cond b Rattle.zb_model.specs.Data.State.Confirmed Joined) ≡ Offered → a
    ≡ true
joined-has true b e = refl
joined-has false true e = absurd (not-confirmed e)
joined-has false false e = absurd (subst IsOffered (sym e) tt)

activate-deed : (c : Setting) (s : NodeState) (key : Bytes) (before : List Move) → AllByRecursion Still before
    → (a b : Bool)
    → MemberDeed (centre_of c.stations) s
    (before ++ ((cond a (Active key ∷ []) []) ++ (cond b (Became (joined_state c s) ∷ []) [])))
activate-deed c s key before still_ true true =
    goes_on (joined_state c s) (before ++ (Active key ∷ [])) (still-append before (Active key ∷ []) still_ (tt, tt))
    (λ e. joined-has (is_some (offered s (centre_of c.stations))) _ e)
    (sym (append_assoc before (Active key ∷ []) (Became (joined_state c s) ∷ [])))
activate-deed c s key before still_ true false = still (still-append before (Active key ∷ []) still_ (tt, tt))
activate-deed c s key before still_ false true = goes_on (joined_state c s) before still_
    (λ e. joined-has (is_some (offered s (centre_of c.stations))) _ e) refl
activate-deed c s key before still_ false false = still (still-append before [] still_ tt)

net-key-fits : (c : Setting) (s : NodeState) (task : Task) (m : Heard) (key : Bytes) (sequence destination source : ℕ)
    → OutcomeFits c s task (take_net_key c s m key sequence destination source)
unfolding take_net_key
net-key-fits c s task m key sequence destination source =
    by-unless c s task _ _ _ (λ a. by-old c s task key (dropped_at 0 key s.nets) _
    (by-choose c s task (has_net key s.nets) _ _
    (λ b. by-member c s task (activate c s key) (of-member c _ a)
    (activate-by c s key (activates s) (waits_for_key s.state))
    (activate-deed c s key [] tt (activates s) (waits_for_key s.state)))
    (λ b. by-unless c s task _ _ _
    (λ d. by-member c s task (drop_old s ++ (Install key sequence ∷ activate c s key)) (of-member c _ a)
    (old-member s (Install key sequence ∷ activate c s key)
    (tt, activate-by c s key (activates s) (waits_for_key s.state)))
    (subst (λ ms. MemberDeed (centre_of c.stations) s ms)
    (append_assoc (drop_old s) (Install key sequence ∷ []) (activate c s key))
    (activate-deed c s key (drop_old s ++ (Install key sequence ∷ []))
    (still-append (drop_old s) (Install key sequence ∷ []) (old-still s) (tt, tt)) (activates s)
    (waits_for_key s.state)))))))

by-used : (c : Setting) (s : NodeState) (task : Task) (o : Option LinkKey) (rest : Outcome)
    → OutcomeFits c s task rest → OutcomeFits c s task (refuse_if_used o rest)
by-used c s task None rest f = f
by-used c s task (Some r) rest f = tt

row-fits : (c : Setting) (s : NodeState) (task : Task) (partner : ℕ) (key : Bytes) (moves : List Move)
    → is_centre c.me.role ≡ false → AllByRecursion OfMember moves → MemberDeed (centre_of c.stations) s moves
    → OutcomeFits c s task (take_row s partner key moves)
unfolding take_row
row-fits c s task partner key moves m a d =
    by-unless c s task _ _ _ (λ b. by-used c s task (other_user s partner key) _ (by-member c s task moves m a d))

drop-member : (o : Option LinkKey) (more : List Move) → AllByRecursion OfMember more
    → AllByRecursion OfMember (drop_row o ++ more)
drop-member None more a = a
drop-member (Some r) more a = (tt, a)

or-second : (a b : Bool) → (a || b) ≡ false → b ≡ false
or-second true b e = absurd (false≢true (sym e))
or-second false b e = e

link-key-fits : (c : Setting) (s : NodeState) (task : Task) (m : Heard) (key : Bytes) (destination source : ℕ)
    → OutcomeFits c s task (take_link_key c s m key destination source)
unfolding take_link_key
link-key-fits c s task m key destination source =
    by-unless c s task _ _ _ (λ a. by-unless c s task _ _ _ (λ b. by-choose c s task _ _ _ (λ d. does-nothing c s task)
    (λ d. row-fits c s task (centre_of c.stations) key
    (drop_row (offered s (centre_of c.stations))
    ++ (Row (centre_of c.stations) key Unverified ∷ Became Offered ∷ [])) (of-member c _ a)
    (drop-member (offered s (centre_of c.stations)) _ (tt, (tt, tt)))
    (takes key
    (or-second (Rattle.zb_model.specs.Commands.has_key key (current s (centre_of c.stations)))
    (Rattle.zb_model.specs.Commands.has_key key (offered s (centre_of c.stations))) d) refl))))

-- rows of one partner are dropped
OfPartner : ℕ → LinkKey → Type 0
OfPartner p r = r.partner ≡ p

keep-partner : (p : ℕ) (r : LinkKey) (b : Bool) (rs : List LinkKey) → is_live_of p r ≡ b
    → AllByRecursion (OfPartner p) rs → AllByRecursion (OfPartner p) (cond b (r ∷ rs) rs)
unfolding OfPartner
keep-partner p r true rs e a = ((live-of p r e).1, a)
keep-partner p r false rs e a = a

all-of-partner : (p : ℕ) (rs : List LinkKey) → AllByRecursion (OfPartner p) (filter (is_live_of p) rs)
all-of-partner p [] = tt
all-of-partner p (r ∷ rs) = keep-partner p r (is_live_of p r) (filter (is_live_of p) rs) refl (all-of-partner p rs)

drops-only : (p : ℕ) (rows : List LinkKey) (more : List Move) → AllByRecursion (OfPartner p) rows
    → AllByRecursion (OnlyOf p) more → AllByRecursion (OnlyOf p) (map drop_link rows ++ more)
unfolding OfPartner
drops-only p [] more a b = b
drops-only p (r ∷ rs) more a b = (a.0, drops-only p rs more a.1 b)

-- a key of two devices isn't a key of the centre
not-the-centre : (c : Setting) (s : NodeState) (m : Heard) (partner : ℕ)
    → not (is_member c
    && (Rattle.zb_model.specs.Commands.nwk_secured m
    && (Rattle.zb_model.specs.Commands.labelled Rattle.zb_model.specs.Data.Label.ForLoad m.label
    && (Rattle.zb_model.specs.Rules.from_centre c m.sender
    && not (nat_eq partner c.me.eui || Rattle.zb_model.specs.Rules.from_centre c partner))))) ≡ false → partner
    ≡ centre_of c.stations → ⊥
not-the-centre c s m partner a e =
    false≢true
    (sym (or-second (nat_eq partner c.me.eui) (nat_eq partner (centre_of c.stations))
    (not-true (nat_eq partner c.me.eui || nat_eq partner (centre_of c.stations)) last)) ∙
    Rattle.std.proofs.Common.eq-eqb partner (centre_of c.stations) e)
  where
    second : (x y : Bool) → (x && y) ≡ true → y ≡ true
    second x y q = (and_parts x y q).1

    last : not (nat_eq partner c.me.eui || nat_eq partner (centre_of c.stations)) ≡ true
    last = second (Rattle.zb_model.specs.Rules.from_centre c m.sender) _
        (second (Rattle.zb_model.specs.Commands.labelled Rattle.zb_model.specs.Data.Label.ForLoad m.label) _
        (second (Rattle.zb_model.specs.Commands.nwk_secured m) _ (needs (is_member c) _ a).1))

app-key-fits : (c : Setting) (s : NodeState) (task : Task) (m : Heard) (key : Bytes) (partner : ℕ)
    → OutcomeFits c s task (take_app_key c s m key partner)
unfolding take_app_key drop_partner
app-key-fits c s task m key partner =
    by-unless c s task _ _ _
    (λ a. by-unless c s task _ _ _
    (λ b. by-unless c s task _ _ _ (λ d. by-choose c s task _ _ _ (λ e. does-nothing c s task)
    (λ e. row-fits c s task partner key (drop_partner s partner ++ (Row partner key Verified ∷ [])) (of-member c _ a)
    (others-of-member s (filter (is_live_of partner) s.links) _ (tt, tt))
    (shares partner (not-the-centre c s m partner a)
    (drops-only partner (filter (is_live_of partner) s.links) (Row partner key Verified ∷ [])
    (all-of-partner partner s.links) (refl, tt)))))))

take-switch-fits : (c : Setting) (s : NodeState) (task : Task) (m : Heard) (sequence : ℕ)
    → OutcomeFits c s task (take_switch c s m sequence)
unfolding take_switch
take-switch-fits c s task m sequence =
    by-unless c s task _ _ _
    (λ a. by-given c s task _ _ _
    (λ row e. by-member c s task (Active row.key ∷ []) (of-member c _ a) (tt, tt) (still (tt, tt))))

drop-keeps-state : (o : Option LinkKey) (more : List Move) → AllByRecursion KeepsState more
    → AllByRecursion KeepsState (drop_row o ++ more)
drop-keeps-state None more a = a
drop-keeps-state (Some r) more a = (tt, a)

take-confirm-fits : (c : Setting) (s : NodeState) (task : Task) (m : Heard) (status kind destination : ℕ)
    → OutcomeFits c s task (take_confirm c s m status kind destination)
unfolding take_confirm
take-confirm-fits c s task m status kind destination =
    by-unless c s task _ _ _
    (λ a. by-unless c s task _ _ _
    (λ b. by-unless c s task _ _ _
    (λ d. by-given c s task (offered s (centre_of c.stations)) _ _
    (λ row e. by-member c s task
    (drop_row (current s (centre_of c.stations))
    ++ (Row row.partner row.key Verified ∷ Became Rattle.zb_model.specs.Data.State.Confirmed ∷ []))
    (of-member c _ a)
    (drop-member (current s (centre_of c.stations))
    (Row row.partner row.key Verified ∷ Became Rattle.zb_model.specs.Data.State.Confirmed ∷ []) (tt, (tt, tt)))
    (leaves Rattle.zb_model.specs.Data.State.Confirmed
    (drop_row (current s (centre_of c.stations)) ++ (Row row.partner row.key Verified ∷ [])) not-confirmed
    (drop-keeps-state (current s (centre_of c.stations)) _ (tt, tt))
    (sym (append_assoc (drop_row (current s (centre_of c.stations))) (Row row.partner row.key Verified ∷ [])
    (Became Rattle.zb_model.specs.Data.State.Confirmed ∷ []))))))))

take-remove-fits : (c : Setting) (s : NodeState) (task : Task) (m : Heard) (target : ℕ)
    → OutcomeFits c s task (take_remove c s m target)
unfolding take_remove
take-remove-fits c s task m target =
    by-unless c s task _ _ _
    (λ a. by-unless c s task _ _ _ (λ b. by-unless c s task _ _ _ (λ d. only-sends c s task _ tt)))

take-tunnel-fits : (c : Setting) (s : NodeState) (task : Task) (m : Heard) (destination : ℕ) (inner : Bytes)
    → OutcomeFits c s task (take_tunnel c s m destination inner)
unfolding take_tunnel
take-tunnel-fits c s task m destination inner =
    by-unless c s task _ _ _ (λ a. by-unless c s task _ _ _ (λ b. only-sends c s task _ refl))

take-update-fits : (c : Setting) (s : NodeState) (task : Task) (m : Heard) (device status : ℕ)
    → OutcomeFits c s task (take_update c s m device status)
unfolding take_update
take-update-fits c s task m device status =
    by-unless c s task _ _ _ (λ a. by-choose c s task _ _ _ (λ b. does-nothing c s task)
    (λ b. by-given c s task (active_row s) _ _
    (λ net e. by-given c s task (current s device) _ _ (λ row f. by-unless c s task _ _ _ (λ d.
    only-sends c s task _ (of-centre c _ a, (device, current-live s device row f), active-net s net e, tt))))))

answer-fits : (c : Setting) (s : NodeState) (bytes : Bytes) (draw : Option Bytes) (device : ℕ) (row : LinkKey)
    (o : Option LinkKey) → is_centre c.me.role ≡ true → current s device ≡ Some row → offered s device ≡ o
    → OutcomeFits c s (Received bytes draw) (answer_request c s device draw row o)
answer-fits c s bytes draw device row (Some offer) m e f =
    by-unless c s (Received bytes draw) _ _ _
    (λ a. only-sends c s (Received bytes draw) _ (
      m,
      (device, current-live s device row e, inl (has-row s device offer.key (offered-live s device offer f))),
      tt,
    ))
answer-fits c s bytes draw device row None m e f =
    by-unless c s (Received bytes draw) _ _ _
    (λ a. by-given c s (Received bytes draw) (unless_held s draw) _ _
    (λ key new. by-unless c s (Received bytes draw) _ _ _ (λ b.
    record {
      deed = offers m device key new (is-live s device row.key (current-live s device row e)) refl;
      send = (m, (device, current-live s device row e, inr (new, refl)), (tt, (tt, tt)));
    })))

take-request-fits : (c : Setting) (s : NodeState) (bytes : Bytes) (draw : Option Bytes) (m : Heard)
    → OutcomeFits c s (Received bytes draw) (take_request c s m draw)
unfolding take_request
take-request-fits c s bytes draw m =
    by-unless c s (Received bytes draw) _ _ _
    (λ a. by-given c s (Received bytes draw) (current s m.sender) _ _
    (λ row e. answer-fits c s bytes draw m.sender row (offered s m.sender) (of-centre c _ a) e refl))

lesser-live : (s : NodeState) (a b : ℕ) (t : Bool) → is_live s a ≡ true → is_live s b ≡ true
    → (is_live s (cond t a b) ≡ true) × (is_live s (cond t b a) ≡ true)
lesser-live s a b true e f = (e, f)
lesser-live s a b false e f = (f, e)

pair-fits : (c : Setting) (s : NodeState) (bytes : Bytes) (draw : Option Bytes) (device partner : ℕ) (row : LinkKey)
    (o : Option PairKey) → is_centre c.me.role ≡ true → is_live s partner ≡ true → current s device ≡ Some row
    → pair_of s device partner ≡ o
    → OutcomeFits c s (Received bytes draw) (answer_pair c s device partner draw row o)
pair-fits c s bytes draw device partner row (Some pair) m l e f =
    by-unless c s (Received bytes draw) _ _ _
    (λ a. only-sends c s (Received bytes draw) _
    (m, (device, current-live s device row e), inl (pair-found s device partner pair f), tt, tt))
pair-fits c s bytes draw device partner row None m l e f =
    by-unless c s (Received bytes draw) _ _ _
    (λ a. by-given c s (Received bytes draw) (unless_held s draw) _ _
    (λ key new. by-unless c s (Received bytes draw) _ _ _ (λ b.
    record {
      deed = pairs m (lesser device partner) (greater device partner) key new (both.0) (both.1) refl;
      send = (
        m,
        (device, current-live s device row e),
        inr (new, (lesser device partner, greater device partner, refl)),
        (tt, (tt, tt)),
        (tt, (tt, tt)),
      );
    })))
  where
    both : (is_live s (lesser device partner) ≡ true) × (is_live s (greater device partner) ≡ true)
    both = lesser-live s device partner (Rattle.std.specs.Prelude.nat_lt device partner)
        (is-live s device row.key (current-live s device row e)) l

take-app-request-fits : (c : Setting) (s : NodeState) (bytes : Bytes) (draw : Option Bytes) (m : Heard) (partner : ℕ)
    → OutcomeFits c s (Received bytes draw) (take_app_request c s m draw partner)
unfolding take_app_request
take-app-request-fits c s bytes draw m partner =
    by-unless c s (Received bytes draw) _ _ _
    (λ a. by-unless c s (Received bytes draw) (not (is_live s partner)) _ _
    (λ b. by-unless c s (Received bytes draw) _ _ _ (λ d.
    by-given c s (Received bytes draw) (current s m.sender) _ _
    (λ row e. pair-fits c s bytes draw m.sender partner row (pair_of s m.sender partner) (of-centre c _ a)
    (not-false (is_live s partner) b) e refl))))

-- the NWK term that a command came under is of a declared node
abbrev pub IsHeard : Setting → Heard → Type 0
IsHeard c m = (n : ℕ) → m.nwk_source ≡ Some n → is_declared c n ≡ true

names-declared : (c : Setting) (device : ℕ) (o : Option ℕ) → ((n : ℕ) → o ≡ Some n → is_declared c n ≡ true)
    → names_eui device o ≡ true → is_declared c device ≡ true
names-declared c device None k e = absurd (false≢true e)
names-declared c device (Some n) k e = subst (λ x. is_declared c x ≡ true) (sym (eqb-true device n e)) (k n refl)

abbrev verified_in : Option LinkKey → Option LinkKey
verified_in None = None
verified_in (Some r) = cond (is_verified r.attribute) (Some r) None

verified-shape : (s : NodeState) (device : ℕ) (o : Option LinkKey) → current s device ≡ o → verified_current s device
    ≡ verified_in o
verified-shape s device None f = rw f refl
verified-shape s device (Some r) f = rw f refl

abbrev NoRow : Option LinkKey → Type 0
NoRow None = Unit {0}
NoRow (Some r) = ⊥

abbrev SameRow : LinkKey → Option LinkKey → Type 0
SameRow x None = Unit {0}
SameRow x (Some r) = x ≡ r

verified-attribute : (t : Attribute) → is_verified t ≡ true → t ≡ Verified
verified-attribute Provisional e = absurd (false≢true e)
verified-attribute Unverified e = absurd (false≢true e)
verified-attribute Verified e = refl

verified-row : (s : NodeState) (device : ℕ) (x r : LinkKey) (b : Bool) → is_verified x.attribute ≡ b
    → current s device ≡ Some x → cond b (Some x) None ≡ Some r → VerifiedRow s device r.key
verified-row s device x r true v f e =
    record {
      row = r;
      among = subst (λ y. In y s.links) same (found.0);
      live = subst (λ y. y.live ≡ true) same
          (live-of device x test).0;
      attribute = subst (λ y. y.attribute ≡ Verified) same
          (verified-attribute x.attribute v);
      partner = subst (λ y. y.partner ≡ device) same (live-of device x test).1;
      key = refl;
    }
  where
    same : x ≡ r
    same = subst (SameRow x) e refl

    found : In x s.links × ((is_live_of device x && not (is_unverified x.attribute)) ≡ true)
    found = current-found s device x f

    test : is_live_of device x ≡ true
    test = (and_parts (is_live_of device x) (not (is_unverified x.attribute)) found.1).0
verified-row s device x r false v f e = absurd (subst NoRow e tt)

verified-by : (s : NodeState) (device : ℕ) (r : LinkKey) (o : Option LinkKey) → current s device ≡ o → verified_in o
    ≡ Some r → VerifiedRow s device r.key
verified-by s device r None f e = absurd (subst NoRow e tt)
verified-by s device r (Some x) f e = verified-row s device x r (is_verified x.attribute) refl f e

verified-current : (s : NodeState) (device : ℕ) (r : LinkKey) → verified_current s device ≡ Some r
    → VerifiedRow s device r.key
verified-current s device r e = verified-by s device r (current s device) refl
    (sym (verified-shape s device (current s device) refl) ∙ e)

take-verify-fits : (tools : Tools) (c : Setting) (s : NodeState) (task : Task) (m : Heard) → IsHeard c m
    → (kind device : ℕ) (hash : Bytes) → OutcomeFits c s task (take_verify tools c s m kind device hash)
unfolding take_verify
take-verify-fits tools c s task m heard kind device hash =
    by-unless c s task (not (is_centre c.me.role && (is_clear m && (nat_eq kind 4 && names_eui device m.nwk_source))))
    _ _ (λ a. by-unless c s task (not (is_live s device)) _ _
    (λ b. by-unless c s task _ _ _ (λ d. by-unless c s task _ _ _ (λ e.
    by-choose c s task _ _ _
    (λ f. by-given c s task (offered s device) _ _
    (λ row g.
    record {
      deed = verifies (centre a) device row g (replaces row g b) refl;
      send = (centre a, named a, inr (row, g, refl, refl));
    }))
    (λ f. by-choose c s task _ _ _
    (λ g. by-given c s task (verified_current s device) _ _
    (λ row h. only-sends c s task _ (centre a, named a, inl (refl, verified-current s device row h))))
    (λ g. tt))))))
  where
    centre : not (is_centre c.me.role && (is_clear m && (nat_eq kind 4 && names_eui device m.nwk_source))) ≡ false
        → is_centre c.me.role ≡ true
    centre a = of-centre c (is_clear m && (nat_eq kind 4 && names_eui device m.nwk_source)) a

    named : not (is_centre c.me.role && (is_clear m && (nat_eq kind 4 && names_eui device m.nwk_source))) ≡ false
        → is_declared c device ≡ true
    named a = names-declared c device m.nwk_source heard
        (and_parts (nat_eq kind 4) (names_eui device m.nwk_source)
        (and_parts (is_clear m) (nat_eq kind 4 && names_eui device m.nwk_source)
        (needs (is_centre c.me.role) (is_clear m && (nat_eq kind 4 && names_eui device m.nwk_source)) a).1).1).1

    drop-quiet : (o : Option LinkKey) (more : List Move) → AllByRecursion (Quiet s) more
        → AllByRecursion (Quiet s) (drop_row o ++ more)
    drop-quiet None more q = q
    drop-quiet (Some r) more q = (tt, q)

    replaces : (row : LinkKey) → offered s device ≡ Some row → not (is_live s device) ≡ false
        → AllByRecursion (Quiet s) (drop_row (current s device) ++ (Row device row.key Verified ∷ []))
    replaces row g b = drop-quiet (current s device) (Row device row.key Verified ∷ [])
        ((has-row s device row.key (offered-live s device row g), not-false (is_live s device) b), tt)

take-command-fits : (tools : Tools) (c : Setting) (s : NodeState) (bytes : Bytes) (draw : Option Bytes) (m : Heard)
    → IsHeard c m → (o : Command) → OutcomeFits c s (Received bytes draw) (take_command tools c s draw m o)
unfolding take_command
take-command-fits tools c s bytes draw m heard (TransportNet key sequence destination source) =
    net-key-fits c s (Received bytes draw) m key sequence destination source
take-command-fits tools c s bytes draw m heard (TransportApp key partner initiator) =
    app-key-fits c s (Received bytes draw) m key partner
take-command-fits tools c s bytes draw m heard (TransportLink key destination source) =
    link-key-fits c s (Received bytes draw) m key destination source
take-command-fits tools c s bytes draw m heard (UpdateDevice device short status) =
    take-update-fits c s (Received bytes draw) m device status
take-command-fits tools c s bytes draw m heard (RemoveDevice target) = take-remove-fits c s (Received bytes draw) m
    target
take-command-fits tools c s bytes draw m heard (RequestApp partner) = take-app-request-fits c s bytes draw m partner
take-command-fits tools c s bytes draw m heard RequestLink = take-request-fits c s bytes draw m
take-command-fits tools c s bytes draw m heard (SwitchKey sequence) = take-switch-fits c s (Received bytes draw) m
    sequence
take-command-fits tools c s bytes draw m heard (Tunnel destination inner) = take-tunnel-fits c s (Received bytes draw)
    m destination inner
take-command-fits tools c s bytes draw m heard (VerifyKey kind source hash) =
    take-verify-fits tools c s (Received bytes draw) m heard kind source hash
take-command-fits tools c s bytes draw m heard (ConfirmKey status kind destination) =
    take-confirm-fits c s (Received bytes draw) m status kind destination

leave-fits : (c : Setting) (s : NodeState) (task : Task) (term : Term) (options : ℕ)
    → OutcomeFits c s task (take_leave c term options)
unfolding take_leave
leave-fits c s task term options =
    by-unless c s task _ _ _
    (λ a. by-member c s task (Became Rattle.zb_model.specs.Data.State.Gone ∷ []) (of-member c _ a) (tt, tt)
    (leaves Rattle.zb_model.specs.Data.State.Gone [] not-gone tt refl))

-- The plan of a delivered frame

abbrev pub PlanFits : Setting → NodeState → Task → Plan → Type 0
PlanFits c s task p = OutcomeFits c s task p.outcome

-- an accepted NWK term is of a declared node
abbrev pub IfDeclared : Setting → Option Term → Type 0
IfDeclared c None = Unit {0}
IfDeclared c (Some t) = is_declared c t.source ≡ true

some-number : (n m : ℕ) → Some n ≡ Some m → n ≡ m
some-number n m e = subst Same e refl
  where
    Same : Option ℕ → Type 0
    Same None = Unit {0}
    Same (Some k) = n ≡ k

no-number : (n : ℕ) → None ≡ Some n → ⊥
no-number n e = subst Missing e tt
  where
    Missing : Option ℕ → Type 0
    Missing None = Unit {0}
    Missing (Some k) = ⊥

source-declared : (c : Setting) (nwk : Option Term) → IfDeclared c nwk → (n : ℕ)
    → option_map (λ (t : Term). t.source) nwk ≡ Some n → is_declared c n ≡ true
source-declared c None d n e = absurd (no-number n e)
source-declared c (Some t) d n e = subst (λ x. is_declared c x ≡ true) (some-number t.source n e) d

command-fits : (tools : Tools) (c : Setting) (s : NodeState) (bytes : Bytes) (draw : Option Bytes)
    (accepts : List Term) (m : Heard) → IsHeard c m → (o : CommandShown)
    → PlanFits c s (Received bytes draw) (aps_command tools c s draw accepts m o)
command-fits tools c s bytes draw accepts m heard (Known command) = take-command-fits tools c s bytes draw m heard
    command
command-fits tools c s bytes draw accepts m heard Unknown = tt
command-fits tools c s bytes draw accepts m heard Broken = tt

either-plan : (c : Setting) (s : NodeState) (task : Task) (b : Bool) (p q : Plan) → PlanFits c s task p
    → PlanFits c s task q → PlanFits c s task (cond b p q)
either-plan c s task true p q a b = a
either-plan c s task false p q a b = b

clear-fits : (tools : Tools) (c : Setting) (s : NodeState) (bytes : Bytes) (draw : Option Bytes) (nwk : Option Term)
    (a : ApsShown) → IfDeclared c nwk → PlanFits c s (Received bytes draw) (clear_part tools c s draw nwk a)
clear-fits tools c s bytes draw nwk a d =
    either-plan c s (Received bytes draw) a.is_command
    (aps_command tools c s draw (option_to_list nwk) (heard_clear nwk) (tools.read_command a.body))
    (comes_to (option_to_list nwk) AtAps (Does [] None))
    (command-fits tools c s bytes draw (option_to_list nwk) (heard_clear nwk) (source-declared c nwk d)
    (tools.read_command a.body)) (does-nothing c s (Received bytes draw))

sealed-fits : (tools : Tools) (c : Setting) (s : NodeState) (bytes : Bytes) (draw : Option Bytes) (nwk : Option Term)
    (a : ApsShown) (aux : ApsAuxiliary) (v : Verdict Unsealed) → IfDeclared c nwk
    → PlanFits c s (Received bytes draw) (sealed_part tools c s draw nwk a aux v)
sealed-fits tools c s bytes draw nwk a aux (Not model_place reason) d = tt
sealed-fits tools c s bytes draw nwk a aux (Good u) d =
    either-plan c s (Received bytes draw) a.is_command
    (aps_command tools c s draw (option_to_list nwk ++ u.term ∷ []) (heard_sealed nwk aux u)
    (tools.read_command u.term.content)) (comes_to (option_to_list nwk ++ u.term ∷ []) AtAps (Does [] None))
    (command-fits tools c s bytes draw (option_to_list nwk ++ u.term ∷ []) (heard_sealed nwk aux u)
    (source-declared c nwk d) (tools.read_command u.term.content)) (does-nothing c s (Received bytes draw))

security-fits : (tools : Tools) (c : Setting) (s : NodeState) (bytes : Bytes) (draw : Option Bytes) (f : NwkShown)
    (nwk : Option Term) (a : ApsShown) (x : Option ApsAuxiliary) → IfDeclared c nwk
    → PlanFits c s (Received bytes draw) (by_security tools c s draw f nwk a x)
security-fits tools c s bytes draw f nwk a None d = clear-fits tools c s bytes draw nwk a d
security-fits tools c s bytes draw f nwk a (Some aux) d = sealed-fits tools c s bytes draw nwk a aux
    (judge_aps tools c s f (payload_of f nwk) aux) d

part-fits : (tools : Tools) (c : Setting) (s : NodeState) (bytes : Bytes) (draw : Option Bytes) (f : NwkShown)
    (nwk : Option Term) (o : Option ApsShown) → IfDeclared c nwk
    → PlanFits c s (Received bytes draw) (aps_part tools c s draw f nwk o)
part-fits tools c s bytes draw f nwk None d = tt
part-fits tools c s bytes draw f nwk (Some a) d = security-fits tools c s bytes draw f nwk a a.auxiliary d

nwk-command-fits : (c : Setting) (s : NodeState) (task : Task) (term : Term) (l : LeaveShown)
    → PlanFits c s task (nwk_command c term l)
nwk-command-fits c s task term (Leave options) = leave-fits c s task term options
nwk-command-fits c s task term Other = tt
nwk-command-fits c s task term NoCommand = tt

net-fits : (tools : Tools) (c : Setting) (s : NodeState) (bytes : Bytes) (draw : Option Bytes) (f : NwkShown)
    (o : Option Term) → IfDeclared c o → PlanFits c s (Received bytes draw) (net_part tools c s draw f o)
net-fits tools c s bytes draw f None d = part-fits tools c s bytes draw f None (tools.read_aps f.body) tt
net-fits tools c s bytes draw f (Some t) d =
    either-plan c s (Received bytes draw) f.is_command (nwk_command c t (tools.read_leave t.content))
    (aps_part tools c s draw f (Some t) (tools.read_aps t.content))
    (nwk-command-fits c s (Received bytes draw) t (tools.read_leave t.content))
    (part-fits tools c s bytes draw f (Some t) (tools.read_aps t.content) d)

received-fits : (tools : Tools) (c : Setting) (s : NodeState) (bytes : Bytes) (draw : Option Bytes)
    (v : Verdict Carrier) → OnGood (λ (k : Carrier). IfDeclared c k.term) v
    → PlanFits c s (Received bytes draw) (received_as tools c s draw v)
received-fits tools c s bytes draw (Not model_place reason) g = tt
received-fits tools c s bytes draw (Good k) g = net-fits tools c s bytes draw k.frame k.term g

-- verification checks whether the source is declared

net-declared : (tools : Tools) → Opens tools → (c : Setting) (s : NodeState) (bytes : Bytes) (f : NwkShown)
    (aux : NwkAuxiliary) → tools.read_nwk bytes ≡ Some f → f.auxiliary ≡ Some aux
    → OnGood (λ (t : Term). is_declared c t.source ≡ true) (judge_net tools c s bytes aux)
unfolding judge_net
net-declared tools opens c s bytes f aux read shown =
    need-good P (usable_of s aux.sequence) _ _ _ (λ row found. reject-good P _ _ _ _ (λ a. reject-good P _ _ _ _ (λ b.
    need-good P (tools.open_nwk bytes row.key) _ _ _
    (λ t opened. reject-good P (not (is_declared c aux.source)) _ _ _
    (λ x. reject-good P _ _ _ _ (λ y. reject-good P _ _ _ _ (λ z.
    subst (λ n. is_declared c n ≡ true) (sym (opens.nwk bytes row.key f aux t read shown opened).2)
    (not-false (is_declared c aux.source) x))))))))
  where
    P : Term → Type 0
    P t = is_declared c t.source ≡ true

carrier-declared : (c : Setting) (f : NwkShown) (v : Verdict Term)
    → OnGood (λ (t : Term). is_declared c t.source ≡ true) v
    → OnGood (λ (k : Carrier). IfDeclared c k.term) (carrier f v)
carrier-declared c f (Not model_place reason) g = tt
carrier-declared c f (Good t) g = g

layer-declared : (tools : Tools) → Opens tools → (c : Setting) (s : NodeState) (bytes : Bytes) (f : NwkShown)
    (x : Option NwkAuxiliary) → tools.read_nwk bytes ≡ Some f → f.auxiliary ≡ x
    → OnGood (λ (k : Carrier). IfDeclared c k.term) (judge_security tools c s bytes f x)
layer-declared tools opens c s bytes f None read shown = reject-good (λ (k : Carrier). IfDeclared c k.term) _ _ _ _
    (λ e. tt)
layer-declared tools opens c s bytes f (Some aux) read shown = carrier-declared c f (judge_net tools c s bytes aux)
    (net-declared tools opens c s bytes f aux read shown)

pub nwk-declared : (tools : Tools) → Opens tools → (c : Setting) (s : NodeState) (bytes : Bytes)
    → OnGood (λ (k : Carrier). IfDeclared c k.term) (judge_nwk tools c s bytes)
unfolding judge_nwk
nwk-declared tools opens c s bytes =
    need-good (λ (k : Carrier). IfDeclared c k.term) (tools.read_nwk bytes) _ _ _ (λ f read.
    reject-good (λ (k : Carrier). IfDeclared c k.term) _ _ _ _
    (λ a. layer-declared tools opens c s bytes f f.auxiliary read refl))

pub plan-fits : (tools : Tools) → Opens tools → (c : Setting) (s : NodeState) (task : Task)
    → PlanFits c s task (plan_of tools c s task)
unfolding plan_of
plan-fits tools opens c s (Received bytes draw) = received-fits tools c s bytes draw (judge_nwk tools c s bytes)
    (nwk-declared tools opens c s bytes)
plan-fits tools opens c s (SayTo to bytes) = own-fits tools c s (SayTo to bytes)
plan-fits tools opens c s (TellTo partner bytes) = own-fits tools c s (TellTo partner bytes)
plan-fits tools opens c s DoKnock = own-fits tools c s DoKnock
plan-fits tools opens c s DoRejoin = own-fits tools c s DoRejoin
plan-fits tools opens c s DoTimer = own-fits tools c s DoTimer
plan-fits tools opens c s (AskFor partner) = own-fits tools c s (AskFor partner)
plan-fits tools opens c s (HasChild child returns) = own-fits tools c s (HasChild child returns)
plan-fits tools opens c s (DoProvision device key) = own-fits tools c s (DoProvision device key)
plan-fits tools opens c s (DoRemove device via) = own-fits tools c s (DoRemove device via)
plan-fits tools opens c s (DoRoll draw) = own-fits tools c s (DoRoll draw)
plan-fits tools opens c s DoSwitch = own-fits tools c s DoSwitch
plan-fits tools opens c s (DoAgain device) = own-fits tools c s (DoAgain device)
plan-fits tools opens c s (DoShare device partner) = own-fits tools c s (DoShare device partner)
