-- What facts add to what is known.
use Rattle.std.specs.Prelude.{◌≡◌, ℕ, Bool, true, false, not, ◌&&◌, ◌||◌, List, [], ◌∷◌, ◌++◌, bytes_eq, nat_eq, fold, Option, Some, None}
use Rattle.std.specs.List.{list_any}
use Rattle.std.specs.Ordering.{nat_cmp}
use Rattle.zb_base.specs.declared.address.Eui.{Eui}
use Rattle.zb_base.specs.declared.key.Key.{Key}
use Rattle.zb_audit_names.specs.declared.node.Node.{Node}
use Rattle.zb_audit_names.specs.declared.node.Who.{Who}
use Rattle.zb_audit_names.specs.Naming.{place_in}
use Rattle.zb_audit_names.specs.Secrets.{ever, removed_devices, terms_of}
use Rattle.zb_audit_lockout.specs.Before.{is_live}
use Rattle.zb_audit_lockout.specs.declared.before.Before.{Before}
use Rattle.zb_audit_lockout.specs.declared.fact.Fact.{Fact}
use Rattle.zb_audit_lockout.specs.declared.fact.Fact.TheVariants as fact
use Rattle.zb_model.specs.Data.{Bytes}
use Rattle.zb_model.specs.Secrets.{holds}
use Rattle.zb_model.specs.Tools.{Tools}
use Rattle.zb_trace.specs.declared.line.Line.{Line}
use Rattle.zb_trace.specs.declared.line.Line.TheVariants as line
use Rattle.zb_trace_watch.specs.Exposure.{IsSettled, was_removed}
use Rattle.zb_trace_watch.specs.Sets.{held, is_carried, node_has}
use Rattle.zb_trace_watch.specs.Standing.{carries}
use Rattle.zb_trace_watch.specs.declared.holdings.Holdings.{Holdings}
use Rattle.zb_seal.specs.Carrying.{carried}

-- Whether a device got a key, a term carries a key under a base key, or a device was removed.
abbrev pub holds_in : ℕ → List ℕ → Fact → Bool
holds_in d k (fact.Holds device key) = nat_eq d device.0 && bytes_eq k key.0
holds_in d k _ = false

abbrev pub carries_in : List ℕ → List ℕ → Fact → Bool
carries_in b k (fact.Carries base key) = bytes_eq b base.0 && bytes_eq k key.0
carries_in b k _ = false

abbrev pub removes_in : ℕ → Fact → Bool
removes_in d (fact.Removed device) = nat_eq d device.0
removes_in d _ = false

-- Whether a network key of the node at a place is live.
abbrev pub living : ℕ → List ℕ → Bool → Fact → Bool
living place k was (fact.Lives p key) = was || (nat_eq p place && bytes_eq k key.0)
living place k was (fact.Drops p key) = was && not (nat_eq p place && bytes_eq k key.0)
living place k was _ = was

abbrev pub lives_at : Holdings ℕ → ℕ → List ℕ → Bool
lives_at live place k = held nat_cmp live place k

-- One more fact is known.
pub record Learnt (old new : Before) (f : Fact) : Type 0 where
  pub settled : IsSettled old.exposure → IsSettled new.exposure
  pub ever : (d : ℕ) (k : List ℕ) → node_has new.exposure.ever d k ≡ (node_has old.exposure.ever d k || holds_in d k f)
  pub carried : (b k : List ℕ) → is_carried new.exposure.carried b k
      ≡ (is_carried old.exposure.carried b k || carries_in b k f)
  pub removed : (d : ℕ) → was_removed new.exposure d ≡ (was_removed old.exposure d || removes_in d f)
  pub live : (place : ℕ) (k : List ℕ) → lives_at new.live place k ≡ living place k (lives_at old.live place k) f

-- What is known with the facts that follow is what these lines say.
pub record Recalls (tools : Tools) (names : List Bytes) (b : Before) (facts : List Fact) (h : List Line) : Type 0 where
  pub settled : IsSettled b.exposure
  pub ever : (d : ℕ) (k : List ℕ) → (node_has b.exposure.ever d k || list_any (holds_in d k) facts)
      ≡ holds (ever h d) k
  pub carried : (base k : List ℕ) → (is_carried b.exposure.carried base k || list_any (carries_in base k) facts)
      ≡ list_any (carries tools base k) (terms_of h)
  pub removed : (d : ℕ) → (was_removed b.exposure d || list_any (removes_in d) facts)
      ≡ list_any (nat_eq d) (removed_devices h)
  pub live : (name : Bytes) (place : ℕ) → place_in names name ≡ Some place → (k : List ℕ)
      → fold (living place k) (lives_at b.live place k) facts ≡ is_live h name k

-- The facts that a line states about its node.
abbrev pub eui_of_node : Option Node → Option Eui
eui_of_node None = None
eui_of_node (Some node) = Some node.eui

abbrev pub partner_of : Bool → Eui → Option Eui
partner_of true partner = Some partner
partner_of false partner = None

abbrev pub held_fact : Option Eui → Key → List Fact
held_fact None key = []
held_fact (Some device) key = fact.Holds device key ∷ []

abbrev pub carried_fact : Key → Option Key → List Fact
carried_fact base None = []
carried_fact base (Some key) = fact.Carries base key ∷ []

abbrev pub stated : Who → Line → List Fact
stated who (line.GivenNet node key sequence) = fact.Lives who.place key ∷ held_fact (eui_of_node who.node) key
stated who (line.GivenLink node partner key) = held_fact (eui_of_node who.node) key
stated who (line.Install event node key sequence) = fact.Lives who.place key ∷ held_fact (eui_of_node who.node) key
stated who (line.DropNet event node key) = fact.Drops who.place key ∷ []
stated who (line.Row event node partner key attribute) = held_fact (partner_of who.is_centre partner) key
    ++ held_fact (eui_of_node who.node) key
stated who (line.Pair event node first second key) = fact.Holds first key ∷ fact.Holds second key ∷ []
stated who (line.Removed event device) = fact.Removed device ∷ []
stated who (line.Seal event node t) = carried_fact t.base (carried t)
stated who (line.Forge event t) = carried_fact t.base (carried t)
stated who _ = []
