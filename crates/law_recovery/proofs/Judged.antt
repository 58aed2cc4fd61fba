-- A frame of the exchange is delivered to the node that it is for: the obstacles, and the results.
use Rattle.std.proofs.Common.{◌≡◌, ℕ, ◌<◌, Bool, true, false, not, ◌&&◌, List, [], ◌∷◌, find, Option, Some, None, is_some, nat_eq, nat_lt, nat_le, refl, sym, ap, ◌∙◌, eq-eqb}
use Rattle.std.proofs.lemmas.Bool.{false≢true, lt-leb}
use Rattle.zb_model.specs.Data.{Bytes, AtNwk, AtAps, Reason, Stale, RowsFull, Term, Command, Received}
use Rattle.zb_model.specs.State.{greatest_counter, NetKey, LinkKey, NodeState, is_centre, is_live, is_known, usable_of, sender_floor}
use Rattle.zb_model.specs.Tools.{Tools, NwkShown, ApsAuxiliary}
use Rattle.zb_model.specs.Rules.{Setting, Plan, is_declared}
use Rattle.zb_model.specs.Judging.{Verdict, Good, reject, need, Carrier, carrier, senders_full, judge_net, judge_nwk, Unsealed, judge_aps, candidates, opens_with}
use Rattle.zb_model.specs.Commands.{Heard, take_command}
use Rattle.zb_model.specs.Answer.{stopped_at, comes_to, heard_sealed, heard_clear, received_as, aps_part, by_security, sealed_part, plan_of, refusal_of}
use Rattle.law_recovery.specs.CommandFrames.{NetFrame, LinkFrame, net_term, link_term, sealed_content, clear_content, sealed_bytes, clear_bytes, IsCarried, IsUnsealed, IsRead}
use Rattle.law_recovery.specs.Obstacles.{or_else, obstacle_if, why_not_heard, why_not_opened}

-- ---- at NWK

-- what a receiver knows of a frame's sender and of its key
pub record IsHeard (b : Setting) (y : NodeState) (f : NetFrame) (row : NetKey) : Type 0 where
  pub found : usable_of y f.sequence ≡ Some row
  pub same : row.key ≡ f.key
  pub to : f.to ≡ b.me.short
  pub apart : nat_eq f.from b.me.short ≡ false
  pub small : f.counter < greatest_counter
  pub declared : is_declared b f.source ≡ true
  pub member : (is_centre b.me.role && (is_known y f.source && not (is_live y f.source))) ≡ false

abbrev pub shown_of : NetFrame → Bytes → NwkShown
shown_of f body =
    record {
      is_command = false;
      destination = f.to;
      source = f.from;
      auxiliary = Some (record { counter = f.counter; source = f.source; sequence = f.sequence });
      body = body;
    }

abbrev heard_by : NwkShown → Term → ℕ → Bool → Bool → Verdict Carrier
heard_by f t floor stale full = carrier f (reject stale AtNwk (Stale floor) (reject full AtNwk RowsFull (Good t)))

below : (n : ℕ) → n < greatest_counter → nat_le greatest_counter n ≡ false
below n lt = lt-leb greatest_counter n lt

pub heard : (tools : Tools) (b : Setting) (y : NodeState) (f : NetFrame) (content : Bytes) (row : NetKey)
    → (a : IsCarried tools f content) → IsHeard b y f row
    → judge_nwk tools b y (tools.wire (net_term f content)) ≡ heard_by (shown_of f a.body) (net_term f content)
    (sender_floor f.source row).kept (nat_lt f.counter (sender_floor f.source row).kept)
    (senders_full f.source f.counter row)
unfolding judge_nwk judge_net need reject
heard tools b y f content row a h =
    let opens : tools.open_nwk (tools.wire (net_term f content)) row.key ≡ Some (net_term f content) =
    ap (tools.open_nwk (tools.wire (net_term f content))) h.same ∙ a.opens in
    let to : nat_eq f.to b.me.short ≡ true = eq-eqb f.to b.me.short h.to in
    rw (a.shown, h.apart, to, h.found, below f.counter h.small, opens, h.declared, h.member) refl

-- ---- the plan

abbrev pub plan_heard : Bool → Bool → ℕ → Plan → Plan
plan_heard true full floor rest = stopped_at [] AtNwk (Stale floor)
plan_heard false true floor rest = stopped_at [] AtNwk RowsFull
plan_heard false false floor rest = rest

abbrev pub plan_opened : Bool → List Term → ℕ → Plan → Plan
plan_opened true accepts floor rest = stopped_at accepts AtAps (Stale floor)
plan_opened false accepts floor rest = rest

abbrev pub stale_at : NetFrame → NetKey → Bool
stale_at f row = nat_lt f.counter (sender_floor f.source row).kept

abbrev pub plan_at : NetFrame → NetKey → Plan → Plan
plan_at f row rest = plan_heard (stale_at f row) (senders_full f.source f.counter row)
    (sender_floor f.source row).kept rest

by_verdict : (tools : Tools) (b : Setting) (y : NodeState) (draw : Option Bytes) (f : NetFrame) (body : Bytes)
    (t : Term) (floor : ℕ) (stale full : Bool)
    → received_as tools b y draw (heard_by (shown_of f body) t floor stale full)
    ≡ plan_heard stale full floor (aps_part tools b y draw (shown_of f body) (Some t) (tools.read_aps t.content))
unfolding reject
by_verdict tools b y draw f body t floor true full = refl
by_verdict tools b y draw f body t floor false true = refl
by_verdict tools b y draw f body t floor false false = refl

pub delivered : (tools : Tools) (b : Setting) (y : NodeState) (f : NetFrame) (content : Bytes) (row : NetKey)
    (draw : Option Bytes) → (a : IsCarried tools f content) → IsHeard b y f row
    → plan_of tools b y (Received (tools.wire (net_term f content)) draw)
    ≡ plan_at f row
    (aps_part tools b y draw (shown_of f a.body) (Some (net_term f content)) (tools.read_aps content))
unfolding plan_of
delivered tools b y f content row draw a h =
    ap (received_as tools b y draw) (heard tools b y f content row a h)
    ∙ by_verdict tools b y draw f a.body (net_term f content) (sender_floor f.source row).kept (stale_at f row)
    (senders_full f.source f.counter row)

-- ---- a sealed command

abbrev pub seal_of : LinkFrame → ApsAuxiliary
seal_of l = record { label = l.label; counter = l.counter; source = Some l.source }

abbrev pub found_so : Tools → LinkFrame → LinkKey → Unsealed
found_so tools l row = record { term = link_term tools l; row = row }

abbrev pub heard_with : Tools → NetFrame → LinkFrame → LinkKey → Heard
heard_with tools f l row = heard_sealed (Some (net_term f (sealed_content tools l))) (seal_of l) (found_so tools l row)

-- the candidate that is tried first opens it
pub record IsOpened (y : NodeState) (l : LinkFrame) (row : LinkKey) : Type 0 where
  pub rest : List LinkKey
  pub first : candidates y l.source ≡ row ∷ rest
  pub same : row.key ≡ l.link
  pub small : l.counter < greatest_counter

-- the first candidate that opens it
pub record IsChosen (tools : Tools) (y : NodeState) (l : LinkFrame) (row : LinkKey) : Type 0 where
  pub found : find (opens_with tools (sealed_content tools l) l.source) (candidates y l.source) ≡ Some row
  pub same : row.key ≡ l.link
  pub small : l.counter < greatest_counter

pub opens_it : (tools : Tools) (l : LinkFrame) (row : LinkKey) → IsUnsealed tools l → row.key ≡ l.link
    → tools.open_aps (sealed_content tools l) row.key l.source ≡ Some (link_term tools l)
opens_it tools l row a same = ap (λ k. tools.open_aps (sealed_content tools l) k l.source) same ∙ a.opens l.source

first_chosen : (tools : Tools) (y : NodeState) (l : LinkFrame) (row : LinkKey) → IsUnsealed tools l → IsOpened y l row
    → IsChosen tools y l row
first_chosen tools y l row a o = record {
  found = rw (o.first, opens_it tools l row a o.same) refl;
  same = o.same;
  small = o.small;
}

opened : (tools : Tools) (b : Setting) (y : NodeState) (shown : NwkShown) (l : LinkFrame) (row : LinkKey)
    → IsUnsealed tools l → IsChosen tools y l row
    → judge_aps tools b y shown (sealed_content tools l) (seal_of l)
    ≡ reject (nat_lt l.counter row.kept) AtAps (Stale row.kept) (Good (found_so tools l row))
unfolding judge_aps need reject
opened tools b y shown l row a o =
    rw (o.found, opens_it tools l row a o.same, below l.counter o.small) refl

abbrev pub both_terms : Tools → NetFrame → LinkFrame → List Term
both_terms tools f l = net_term f (sealed_content tools l) ∷ link_term tools l ∷ []

by_floor : (tools : Tools) (b : Setting) (y : NodeState) (f : NetFrame) (l : LinkFrame) (row : LinkKey)
    (draw : Option Bytes) → (a : IsUnsealed tools l) → (stale : Bool)
    → sealed_part tools b y draw (Some (net_term f (sealed_content tools l))) a.part (seal_of l)
    (reject stale AtAps (Stale row.kept) (Good (found_so tools l row)))
    ≡ plan_opened stale (net_term f (sealed_content tools l) ∷ []) row.kept
    (comes_to (both_terms tools f l) AtAps (take_command tools b y draw (heard_with tools f l row) l.command))
unfolding reject
by_floor tools b y f l row draw a true = refl
by_floor tools b y f l row draw a false = rw (a.is_command, a.means) refl

pub delivered_chosen : (tools : Tools) (b : Setting) (y : NodeState) (f : NetFrame) (l : LinkFrame) (net : NetKey)
    (row : LinkKey) (draw : Option Bytes)
    → IsCarried tools f (sealed_content tools l) → IsUnsealed tools l → IsHeard b y f net → IsChosen tools y l row
    → plan_of tools b y (Received (sealed_bytes tools f l) draw)
    ≡ plan_at f net
    (plan_opened (nat_lt l.counter row.kept) (net_term f (sealed_content tools l) ∷ []) row.kept
    (comes_to (both_terms tools f l) AtAps (take_command tools b y draw (heard_with tools f l row) l.command)))
delivered_chosen tools b y f l net row draw a u h o =
    delivered tools b y f (sealed_content tools l) net draw a h
    ∙ ap (plan_at f net)
    (ap (aps_part tools b y draw (shown_of f a.body) (Some (net_term f (sealed_content tools l)))) u.reads
    ∙ ap (by_security tools b y draw (shown_of f a.body) (Some (net_term f (sealed_content tools l))) u.part) u.sealed
    ∙ ap (sealed_part tools b y draw (Some (net_term f (sealed_content tools l))) u.part (seal_of l))
    (opened tools b y (shown_of f a.body) l row u o)
    ∙ by_floor tools b y f l row draw u (nat_lt l.counter row.kept))

pub delivered_sealed : (tools : Tools) (b : Setting) (y : NodeState) (f : NetFrame) (l : LinkFrame) (net : NetKey)
    (row : LinkKey) (draw : Option Bytes)
    → IsCarried tools f (sealed_content tools l) → IsUnsealed tools l → IsHeard b y f net → IsOpened y l row
    → plan_of tools b y (Received (sealed_bytes tools f l) draw)
    ≡ plan_at f net
    (plan_opened (nat_lt l.counter row.kept) (net_term f (sealed_content tools l) ∷ []) row.kept
    (comes_to (both_terms tools f l) AtAps (take_command tools b y draw (heard_with tools f l row) l.command)))
delivered_sealed tools b y f l net row draw a u h o =
    delivered_chosen tools b y f l net row draw a u h (first_chosen tools y l row u o)

-- ---- a command in clear

abbrev pub heard_open : Tools → NetFrame → Command → Heard
heard_open tools f command = heard_clear (Some (net_term f (clear_content tools f.counter command)))

in_clear : (tools : Tools) (b : Setting) (y : NodeState) (f : NetFrame) (command : Command) (draw : Option Bytes)
    (shown : NwkShown) → (u : IsRead tools f.counter command)
    → by_security tools b y draw shown (Some (net_term f (clear_content tools f.counter command))) u.part None
    ≡ comes_to (net_term f (clear_content tools f.counter command) ∷ []) AtAps
    (take_command tools b y draw (heard_open tools f command) command)
in_clear tools b y f command draw shown u = rw (u.is_command, u.body, u.means) refl

pub delivered_clear : (tools : Tools) (b : Setting) (y : NodeState) (f : NetFrame) (command : Command) (net : NetKey)
    (draw : Option Bytes)
    → IsCarried tools f (clear_content tools f.counter command) → IsRead tools f.counter command → IsHeard b y f net
    → plan_of tools b y (Received (clear_bytes tools f command) draw)
    ≡ plan_at f net
    (comes_to (net_term f (clear_content tools f.counter command) ∷ []) AtAps
    (take_command tools b y draw (heard_open tools f command) command))
delivered_clear tools b y f command net draw a u h =
    delivered tools b y f (clear_content tools f.counter command) net draw a h
    ∙ ap (plan_at f net)
    (ap (aps_part tools b y draw (shown_of f a.body) (Some (net_term f (clear_content tools f.counter command))))
    u.reads
    ∙ ap (by_security tools b y draw (shown_of f a.body) (Some (net_term f (clear_content tools f.counter command)))
    u.part) u.clear
    ∙ in_clear tools b y f command draw (shown_of f a.body) u)

-- ---- what is refused, and when nothing is

refused_heard : (floor : ℕ) (rest : Plan) (stale full : Bool) → refusal_of (plan_heard stale full floor rest)
    ≡ or_else (or_else (obstacle_if stale (Stale floor)) (obstacle_if full RowsFull)) (refusal_of rest)
refused_heard floor rest true full = refl
refused_heard floor rest false true = refl
refused_heard floor rest false false = refl

pub refused_at : (f : NetFrame) (row : NetKey) (rest : Plan) → refusal_of (plan_at f row rest)
    ≡ or_else (why_not_heard row f.source f.counter) (refusal_of rest)
unfolding why_not_heard
refused_at f row rest = refused_heard (sender_floor f.source row).kept rest (stale_at f row)
    (senders_full f.source f.counter row)

refused_by_floor : (accepts : List Term) (floor : ℕ) (rest : Plan) (stale : Bool)
    → refusal_of (plan_opened stale accepts floor rest) ≡ or_else (obstacle_if stale (Stale floor)) (refusal_of rest)
refused_by_floor accepts floor rest true = refl
refused_by_floor accepts floor rest false = refl

pub refused_opened : (accepts : List Term) (row : LinkKey) (counter : ℕ) (rest : Plan)
    → refusal_of (plan_opened (nat_lt counter row.kept) accepts row.kept rest)
    ≡ or_else (why_not_opened row counter) (refusal_of rest)
unfolding why_not_opened
refused_opened accepts row counter rest = refused_by_floor accepts row.kept rest (nat_lt counter row.kept)

pub or_first : (a b : Option Reason) → or_else a b ≡ None → a ≡ None
or_first None b e = refl
or_first (Some r) b e = absurd (false≢true (sym (ap is_some e)))

pub or_second : (a b : Option Reason) → or_else a b ≡ None → b ≡ None
or_second None b e = e
or_second (Some r) b e = absurd (false≢true (sym (ap is_some e)))

pub when_none : (b : Bool) (r : Reason) → obstacle_if b r ≡ None → b ≡ false
when_none true r e = absurd (false≢true (sym (ap is_some e)))
when_none false r e = refl

free_heard : (floor : ℕ) (rest : Plan) (stale full : Bool)
    → or_else (obstacle_if stale (Stale floor)) (obstacle_if full RowsFull)
    ≡ None → plan_heard stale full floor rest ≡ rest
free_heard floor rest true full e = absurd (false≢true (sym (ap is_some e)))
free_heard floor rest false true e = absurd (false≢true (sym (ap is_some e)))
free_heard floor rest false false e = refl

pub free_at : (f : NetFrame) (row : NetKey) (rest : Plan) → why_not_heard row f.source f.counter ≡ None
    → plan_at f row rest ≡ rest
unfolding why_not_heard
free_at f row rest e = free_heard (sender_floor f.source row).kept rest (stale_at f row)
    (senders_full f.source f.counter row) e

pub free_opened : (accepts : List Term) (row : LinkKey) (counter : ℕ) (rest : Plan) → why_not_opened row counter
    ≡ None → plan_opened (nat_lt counter row.kept) accepts row.kept rest ≡ rest
unfolding why_not_opened
free_opened accepts row counter rest e = by_test (nat_lt counter row.kept) e
  where
    by_test : (b : Bool) → obstacle_if b (Stale row.kept) ≡ None → plan_opened b accepts row.kept rest ≡ rest
    by_test true f = absurd (false≢true (sym (ap is_some f)))
    by_test false f = refl
