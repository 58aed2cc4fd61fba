-- A sealed frame that its receiver refuses as stale: at which layer, what it leaves of the receiver's floors, and that
-- it was one of fewer than a block.
use Rattle.std.proofs.Common.{◌≡◌, ℕ, ◌+◌, ◌-◌, ◌<◌, ◌≤◌, ◌⊎◌, inl, inr, Bool, true, false, Option, Some, None, nat_lt, refl, sym, ap, ◌∙◌, subst, arith}
use Rattle.std.proofs.lemmas.Bool.{ltb-true}
use Rattle.zb_model.specs.Data.{Bytes, Reason, Stale, RowsFull, Received}
use Rattle.zb_model.specs.Judging.{senders_full}
use Rattle.zb_model.specs.Rules.{Setting}
use Rattle.zb_model.specs.State.{NetKey, LinkKey, NodeState, sender_floor}
use Rattle.zb_model.specs.Tools.{Tools}
use Rattle.law_answer_storable.specs.Storing.{OpensAsJudged}
use Rattle.law_recovery.specs.CommandFrames.{IsCarried, IsUnsealed, LinkFrame, NetFrame, sealed_bytes, sealed_content}
use Rattle.law_recovery.specs.Meeting.{HasNetwork, IsSteady}
use Rattle.law_recovery.specs.Obstacles.{in_row, or_else, obstacle_if, why_not_heard, why_not_opened}
use Rattle.law_recovery.proofs.Judged.{IsHeard}
use Rattle.law_recovery.proofs.Steady.{steady_after}
use Rattle.law_recovery.specs.Answering.{after_task}
use Rattle.law_recovery.specs.Twice.{Hears}
use Rattle.law_recovery.proofs.Kept.{AllKept, heard_links, stale_leaves}
use Rattle.law_recovery.proofs.Twice.{floor_over, heard_frame, shown_counter}

-- ---- why a frame is stale

-- at NWK; or it passes there, and is stale at APS
abbrev pub Late : NetKey → LinkKey → ℕ → ℕ → ℕ → Type 0
Late net row source nwk aps =
    (nat_lt nwk (sender_floor source net).kept ≡ true)
    ⊎ ((why_not_heard net source nwk ≡ None) × (nat_lt aps row.kept ≡ true))

pub late_so : (net : NetKey) (row : LinkKey) (source nwk aps v : ℕ) (rest : Option Reason)
    → (rest ≡ Some (Stale v) → ⊥)
    → or_else (why_not_heard net source nwk) (or_else (why_not_opened row aps) rest) ≡ Some (Stale v)
    → Late net row source nwk aps
unfolding why_not_heard why_not_opened
late_so net row source nwk aps v rest other e =
    by_tests (nat_lt nwk (sender_floor source net).kept) (senders_full source nwk net) (nat_lt aps row.kept) e
  where
    floor : ℕ
    floor = (sender_floor source net).kept

    by_tests : (a b t : Bool)
        → or_else (or_else (obstacle_if a (Stale floor)) (obstacle_if b RowsFull))
        (or_else (obstacle_if t (Stale row.kept)) rest)
        ≡ Some (Stale v)
        → (a ≡ true) ⊎ ((or_else (obstacle_if a (Stale floor)) (obstacle_if b RowsFull) ≡ None) × (t ≡ true))
    by_tests true b t f = inl refl
    by_tests false true t f = absurd (cc)
    by_tests false false true f = inr (refl, refl)
    by_tests false false false f = absurd (other f)

-- ---- what it leaves of the receiver's floors

pub record Floors (u : NodeState) (sender : ℕ) (key : Bytes) (sequence most : ℕ) : Type 0 where
  pub floor : (h : HasNetwork u key sequence) → (sender_floor sender h.found).kept ≤ most

pub left_by_nwk : (s u : NodeState) (sender : ℕ) (key : Bytes) (sequence most : ℕ) → u ≡ s
    → Floors s sender key sequence most → Floors u sender key sequence most
left_by_nwk s u sender key sequence most e f = subst (λ z. Floors z sender key sequence most) (sym e) f

counter_shown : (tools : Tools) (l : LinkFrame) → IsUnsealed tools l
    → shown_counter (tools.read_aps (sealed_content tools l)) ≡ l.counter
counter_shown tools l u = rw (u.reads, u.sealed) refl

record Refused (u : NodeState) (sender : ℕ) (key : Bytes) (sequence : ℕ) (link : Bytes) (nwk aps : ℕ) : Type 0 where
  floors : Floors u sender key sequence nwk
  links : AllKept sender link aps u.links

refused : (tools : Tools) → OpensAsJudged tools → (b : Setting) (s : NodeState) (f : NetFrame) (l : LinkFrame)
    (row : LinkKey) (draw : Option Bytes) (nwk aps : ℕ) → 1 ≤ b.me.in_block → IsSteady b s
    → IsCarried tools f (sealed_content tools l) → IsUnsealed tools l → (h : HasNetwork s f.key f.sequence)
    → IsHeard b s f h.found → Late h.found row f.source f.counter l.counter → f.counter + 1 ≤ nwk → l.counter < aps
    → Floors s f.source f.key f.sequence nwk → AllKept f.source l.link aps s.links
    → Refused (after_task tools b s (Received (sealed_bytes tools f l) draw)) f.source f.key f.sequence l.link nwk aps
refused tools opens b s f l row draw nwk aps block i a n h up late low_nwk low_aps floors links = by_late late
  where
    content : Bytes
    content = sealed_content tools l

    u : NodeState
    u = after_task tools b s (Received (sealed_bytes tools f l) draw)

    over : why_not_heard h.found f.source f.counter ≡ None → Floors u f.source f.key f.sequence nwk
    over free = record {
      floor = λ now.
          let hears : Hears b s f = record {
            to = up.to;
            apart = up.apart;
            small = up.small;
            declared = up.declared;
            member = up.member;
            network = h;
            free = ap (λ o. in_row o (λ row. why_not_heard row f.source f.counter)) h.is_found ∙ free;
          } in
          let steady = steady_after tools opens b s (Received (sealed_bytes tools f l) draw) block i in
          let kept = floor_over u f.key f.sequence f.source (f.counter + 1) steady.rules now
          (heard_frame tools opens b s f content draw a hears) in
          omega (arith, kept, low_nwk);
    }

    by_late : Late h.found row f.source f.counter l.counter → Refused u f.source f.key f.sequence l.link nwk aps
    by_late (inl e) =
        let same : u ≡ s = stale_leaves tools b s f content h.found draw a up e in
        record {
          floors = left_by_nwk s u f.source f.key f.sequence nwk same floors;
          links = subst (λ z. AllKept f.source l.link aps z.links) (sym same) links;
        }
    by_late (inr e) = record {
      floors = over e.0;
      links = heard_links tools opens b s f content h.found draw a up e.0 f.source l.link aps
          (subst (λ n. n < aps) (sym (counter_shown tools l n)) low_aps) links;
    }

-- ---- one of fewer than a block

-- a counter below a floor that is less than a block above the first one
pub fewer_by : (counter first turns floor block : ℕ) → counter < floor → counter ≡ first + turns
    → floor ≤ first + (block - 1) → turns + 1 < block
fewer_by counter first turns floor block late is most = omega (arith, late, is, most)

pub next_is : (before now first turns : ℕ) → now ≡ before + 1 → before ≡ first + turns → now ≡ first + (turns + 1)
next_is before now first turns e f = omega (arith, e, f)

pub no_more : (n : ℕ) → n ≡ n + 0
no_more n = omega arith

low_nwk : (counter first turns block : ℕ) → counter ≡ first + turns → turns + 1 < block
    → counter + 1 ≤ first + (block - 1)
low_nwk counter first turns block is less = omega (arith, is, less)

low_aps : (counter first turns block : ℕ) → counter ≡ first + turns → turns + 1 < block
    → counter < first + (block - 1)
low_aps counter first turns block is less = omega (arith, is, less)

-- a frame that is refused after this many turns, if the sender began with these counters
pub record TurnedDown (u : NodeState) (sender : ℕ) (key : Bytes) (sequence : ℕ) (link : Bytes)
    (nwk aps turns block : ℕ) : Type 0 where
  pub less : turns + 1 < block
  pub floors : Floors u sender key sequence (nwk + (block - 1))
  pub links : AllKept sender link (aps + (block - 1)) u.links

pub turned_down : (tools : Tools) → OpensAsJudged tools → (b : Setting) (s : NodeState) (f : NetFrame) (l : LinkFrame)
    (row : LinkKey) (draw : Option Bytes) (nwk aps turns : ℕ) → 1 ≤ b.me.in_block → IsSteady b s
    → IsCarried tools f (sealed_content tools l) → IsUnsealed tools l → (h : HasNetwork s f.key f.sequence)
    → IsHeard b s f h.found → Late h.found row f.source f.counter l.counter → f.counter ≡ nwk + turns
    → l.counter ≡ aps + turns → Floors s f.source f.key f.sequence (nwk + (b.me.in_block - 1))
    → AllKept f.source l.link (aps + (b.me.in_block - 1)) s.links → row.kept ≤ aps + (b.me.in_block - 1)
    → TurnedDown (after_task tools b s (Received (sealed_bytes tools f l) draw)) f.source f.key f.sequence l.link nwk
    aps turns b.me.in_block
turned_down tools opens b s f l row draw nwk aps turns block i a n h up late is_nwk is_aps floors links low =
    let less : turns + 1 < b.me.in_block = by_late late in
    let r = refused tools opens b s f l row draw (nwk + (b.me.in_block - 1)) (aps + (b.me.in_block - 1)) block i a n h
    up late (low_nwk f.counter nwk turns b.me.in_block is_nwk less)
    (low_aps l.counter aps turns b.me.in_block is_aps less) floors links in
    record { less = less; floors = r.floors; links = r.links }
  where
    by_late : Late h.found row f.source f.counter l.counter → turns + 1 < b.me.in_block
    by_late (inl e) =
        fewer_by f.counter nwk turns (sender_floor f.source h.found).kept b.me.in_block
        (ltb-true f.counter (sender_floor f.source h.found).kept e) is_nwk (floors.floor h)
    by_late (inr e) =
        fewer_by l.counter aps turns row.kept b.me.in_block (ltb-true l.counter row.kept e.1) is_aps low
