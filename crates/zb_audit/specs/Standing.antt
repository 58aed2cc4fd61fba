-- What the parts of an audit keep about the lines so far.
use Rattle.std.specs.Prelude.{◌≡◌, ℕ, ◌≤◌, Bool, true, false, not, ◌&&◌, if◌then◌else◌, List, bytes_eq, nat_eq, nat_le, nat_lt, length, Option, Some, None, IfSome}
use Rattle.std.specs.BTreeMap.{get}
use Rattle.std.specs.List.{list_any}
use Rattle.std.specs.Option.{option_or}
use Rattle.std.specs.declared.cmp.Ordering.{Ordering}
use Rattle.zb_audit.specs.Confirming.{RowState, Absent, Made, Kept, is_confirmable, is_kept, row_in}
use Rattle.zb_audit.specs.Ending.{accepts_in, agree, ends_well, front, greatest_event, is_no_end, refusals_in, seals_in}
use Rattle.zb_audit.specs.Failing.{failing, head}
use Rattle.zb_audit.specs.Nonces.{is_fresh, seals_alike}
use Rattle.zb_audit.specs.Taking.{bars, is_later}
use Rattle.zb_audit.specs.declared.confirming.Confirming.{Confirming}
use Rattle.zb_audit.specs.declared.confirming.LinkRow.{LinkRow}
use Rattle.zb_audit.specs.declared.ending.Ending.{Ending}
use Rattle.zb_audit.specs.declared.nonces.Nonces.{Nonces}
use Rattle.zb_audit.specs.declared.nonces.Stamp.{Stamp}
use Rattle.zb_audit.specs.declared.taking.Channel.{Channel}
use Rattle.zb_audit.specs.declared.taking.Taking.{Taking}
use Rattle.zb_audit.specs.contracts.taking.ChannelOrd.TheImpl as channel_ord
use Rattle.zb_audit.specs.contracts.confirming.LinkRowOrd.TheImpl as row_ord
use Rattle.zb_base.specs.declared.address.Eui.{Eui}
use Rattle.zb_base.specs.declared.state.Attribute.{Attribute}
use Rattle.zb_base.specs.declared.state.Attribute.TheVariants as attribute
use Rattle.zb_audit_names.specs.Naming.{place_in}
use Rattle.zb_model.specs.Data.{Bytes}
use Rattle.zb_model.specs.Tools.{Tools}
use Rattle.zb_seal.specs.Keys.{sealing_key}
use Rattle.zb_seal.specs.declared.term.Term.{Term}
use Rattle.zb_trace.specs.declared.line.Line.{Line}
use Rattle.zb_trace.specs.declared.line.Line.TheVariants as line

-- Nonces

abbrev pub stamp_of : Term → Stamp
stamp_of t =
    record {
      source = t.source;
      counter = t.counter;
      control = t.control;
      key = record { 0 = sealing_key t.label t.base.0 };
    }

abbrev pub same_parts : Stamp → Stamp → Bool
same_parts a b = bytes_eq a.key.0 b.key.0
    && (nat_eq a.source.0 b.source.0 && (nat_eq a.counter b.counter && nat_eq a.control b.control))

-- Whether a term was sealed with this key and nonce.
abbrev pub was_sealed : Nonces → Term → Bool
was_sealed n t = list_any (same_parts (stamp_of t)) n.seen.keys

pub record AreNonces (n : Nonces) (h : List Line) : Type 0 where
  pub seen : (t : Term) → was_sealed n t ≡ list_any (seals_alike t) h
  pub first : n.first ≡ head (failing is_fresh h)

-- Accepted counters

abbrev pub channel_of : ℕ → Term → Channel
channel_of place t = record { place = place; source = t.source; layer = t.layer; base = t.base }

abbrev pub channel_cmp : Channel → Channel → Ordering
channel_cmp = channel_ord.cmp-value.it

-- The greatest counter that the node at a place accepted from the sender of a term.
abbrev pub height : Taking → ℕ → Term → Option ℕ
height k place t = get channel_cmp k.heights (channel_of place t)

abbrev pub is_below : ℕ → Option ℕ → Bool
is_below counter None = false
is_below counter (Some top) = nat_le counter top

pub record AreTaken (names : List Bytes) (k : Taking) (h : List Line) : Type 0 where
  pub heights : (name : Bytes) (i : ℕ) → place_in names name ≡ Some i → (t : Term) → is_below t.counter (height k i t)
      ≡ list_any (bars name t) h
  pub first : k.first ≡ head (failing is_later h)

-- Confirmed keys

abbrev pub row_cmp : LinkRow → LinkRow → Ordering
row_cmp = row_ord.cmp-value.it

abbrev pub verified : Confirming → ℕ → Bytes → Option ℕ
verified c partner key = get row_cmp c.verified (record { partner = record { 0 = partner }; key = record { 0 = key } })

-- A verified row is stored if a commit comes after it.
abbrev pub row_state : ℕ → Option ℕ → RowState
row_state committed None = Absent
row_state committed (Some made) = if nat_lt made committed then Kept else Made

-- What a row line with that attribute does to it.
abbrev pub verified_at : ℕ → Attribute → Option ℕ → Option ℕ
verified_at number attribute.Verified before = option_or before (Some number)
verified_at number attribute.Unverified before = None
verified_at number attribute.Provisional before = None

-- Whether no key is confirmed, or the sealing node is the centre and has stored the key as verified.
abbrev pub stands_in : Confirming → Bool → Bytes → Option Eui → Bool
stands_in c is_centre base None = true
stands_in c is_centre base (Some device) = is_centre && is_kept (row_state c.committed (verified c device.0 base))

pub record AreConfirmed (c : Confirming) (h : List Line) : Type 0 where
  pub rows : (partner : ℕ) (key : Bytes) → row_state c.committed (verified c partner key) ≡ row_in h partner key
  pub made : (partner : ℕ) (key : Bytes) → IfSome (verified c partner key) (λ made. made ≤ length h)
  pub committed : c.committed ≤ length h
  pub first : c.first ≡ head (failing is_confirmable h)

-- The end

-- Whether the counts of an end line are those so far; and its two words.
abbrev pub counts_are : Ending → ℕ → ℕ → ℕ → ℕ → Bool
counts_are e events seals accepts refusals = nat_le e.events events
    && (nat_eq e.seals seals && (nat_eq e.accepts accepts && nat_eq e.refusals refusals))

abbrev pub fits : Ending → Bool → Bool → Line → Bool
fits e ideal private (line.End events seals accepts refusals says_ideal says_private) =
    counts_are e events seals accepts refusals && (agree ideal says_ideal && agree private says_private)
fits e ideal private _ = false

pub record Ends (tools : Tools) (e : Ending) (h : List Line) : Type 0 where
  pub last : e.last ≡ length h
  pub events : e.events ≡ greatest_event h
  pub seals : e.seals ≡ seals_in h
  pub accepts : e.accepts ≡ accepts_in h
  pub refusals : e.refusals ≡ refusals_in h
  pub first : e.first ≡ head (failing is_no_end (front h))
  pub so_far : option_or e.first (if not e.is_end then None else Some e.last) ≡ head (failing is_no_end h)
  pub sums_up : e.sums_up ≡ ends_well tools h
