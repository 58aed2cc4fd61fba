-- What is known with the facts of a group, as lines come.
use Rattle.std.proofs.Common.{◌≡◌, ℕ, List, [], ◌∷◌, ◌++◌, Bool, true, false, not, ◌||◌, ◌&&◌, Option, Some, None, refl, ap, sym, ◌∙◌, bytes_eq, nat_eq}
use Rattle.std.specs.List.{list_any}
use Rattle.std.specs.Option.{option_map}
use Rattle.std.specs.Prelude.{fold, if◌then◌else◌}
use Rattle.std.proofs.lemmas.List.Folds.{list_any-append}
use Rattle.std.proofs.lemmas.List.Sums.{fold-append}
use Rattle.zb_base.specs.declared.address.Eui.{Eui}
use Rattle.zb_base.specs.declared.key.Key.{Key}
use Rattle.zb_audit_names.specs.Naming as naming
use Rattle.zb_audit_names.specs.Naming.{declared_in, eui_of, is_centres, is_eui, is_of, place_in}
use Rattle.zb_audit_names.specs.Secrets.{ever, held_by, removed_devices, removed_in, terms_in, terms_of}
use Rattle.zb_audit_names.specs.Standing.{IsSpeaker}
use Rattle.zb_audit_names.specs.declared.node.Node.{Node}
use Rattle.zb_audit_names.specs.declared.node.Who.{Who}
use Rattle.zb_audit_names.proofs.Places.{one_place}
use Rattle.zb_audit_lockout.specs.Before.{is_live, lives}
use Rattle.zb_audit_lockout.specs.Facts.{Learnt, Recalls, carried_fact, carries_in, eui_of_node, held_fact, holds_in, living, lives_at, partner_of, removes_in, stated}
use Rattle.zb_audit_lockout.specs.declared.before.Before.{Before}
use Rattle.zb_audit_lockout.specs.declared.fact.Fact.{Fact}
use Rattle.zb_audit_lockout.proofs.Growing.{ever_more, live_more, removed_more, terms_more}
use Rattle.zb_audit_lockout.proofs.Tests.{or_assoc, or_none}
use Rattle.zb_model.specs.Data.{Bytes, Station}
use Rattle.zb_model.specs.Secrets.{holds}
use Rattle.zb_model.specs.Tools.{Tools}
use Rattle.zb_model_real.specs.Terms.{model_term}
use Rattle.zb_seal.specs.declared.term.Term as program
use Rattle.zb_trace.specs.declared.line.Line.{Line}
use Rattle.zb_trace.specs.declared.line.Line.TheVariants as line
use Rattle.zb_trace_watch.specs.Exposure.{IsSettled, was_removed}
use Rattle.zb_trace_watch.specs.Sets.{is_carried, is_node, node_has}
use Rattle.zb_trace_watch.specs.Standing.{FindKeys, bytes_of, carries, is_that}
use Rattle.zb_trace_watch.proofs.Effects.{carried_is}
use Rattle.zb_trace_watch.proofs.Truth.{itself_number, itself, same_bytes, same_number, same_truth, turned_number}
use Rattle.zb_seal.specs.Carrying.{carried}

-- One more fact is known.
pub recalls_next : (tools : Tools) (names : List Bytes) (b new : Before) (f : Fact) (rest : List Fact) (h : List Line)
    → Recalls tools names b (f ∷ rest) h → Learnt b new f → Recalls tools names new rest h
recalls_next tools names b new f rest h l learnt = record {
  settled = learnt.settled l.settled;
  ever = λ d k. ap (λ (x : Bool). x || list_any (holds_in d k) rest) (learnt.ever d k) ∙
      (or_assoc (node_has b.exposure.ever d k) (holds_in d k f) (list_any (holds_in d k) rest) ∙ l.ever d k);
  carried = λ base k. ap (λ (x : Bool). x || list_any (carries_in base k) rest) (learnt.carried base k) ∙
      (or_assoc (is_carried b.exposure.carried base k) (carries_in base k f) (list_any (carries_in base k) rest) ∙
      l.carried base k);
  removed = λ d. ap (λ (x : Bool). x || list_any (removes_in d) rest) (learnt.removed d) ∙
      (or_assoc (was_removed b.exposure d) (removes_in d f) (list_any (removes_in d) rest) ∙ l.removed d);
  live = λ name place at k. ap (λ (x : Bool). fold (living place k) x rest) (learnt.live place k) ∙ l.live name place
      at k;
}

-- What a line's facts say

pub own_is : (known : List Station) (o : Option Node) (name : Bytes) (d : ℕ) → option_map (λ (n : Node). n.eui.0) o
    ≡ eui_of known name → is_node (eui_of_node o) d ≡ is_of known d name
unfolding is_of
own_is known None name d is = ap (λ (e : Option ℕ). is_eui e d) is
own_is known (Some n) name d is = turned_number d n.eui.0 ∙ ap (λ (e : Option ℕ). is_eui e d) is

pub centre_is : (known : List Station) (centre : Bool) (name : Bytes) (partner : Eui) (d : ℕ) → centre
    ≡ is_centres known name
    → is_node (partner_of centre partner) d ≡ (is_centres known name && nat_eq partner.0 d)
centre_is known true name partner d is = turned_number d partner.0 ∙ ap (λ (b : Bool). b && nat_eq partner.0 d) is
centre_is known false name partner d is = ap (λ (b : Bool). b && nat_eq partner.0 d) is

held_here : (o : Option Eui) (key : Key) (d : ℕ) (k : Bytes) → list_any (holds_in d k) (held_fact o key)
    ≡ (is_node o d && bytes_eq k key.0)
held_here None key d k = refl
held_here (Some device) key d k = or_none _

pub holds_where : (b : Bool) (key k : Bytes) → holds (if b then key ∷ [] else []) k ≡ (b && bytes_eq k key)
holds_where true key k = or_none _
holds_where false key k = refl

never_held : (base : Key) (o : Option Key) (d : ℕ) (k : Bytes) → list_any (holds_in d k) (carried_fact base o) ≡ false
never_held base None d k = refl
never_held base (Some key) d k = refl

never_removed : (base : Key) (o : Option Key) (d : ℕ) → list_any (removes_in d) (carried_fact base o) ≡ false
never_removed base None d = refl
never_removed base (Some key) d = refl

not_removed : (o : Option Eui) (key : Key) (d : ℕ) → list_any (removes_in d) (held_fact o key) ≡ false
not_removed None key d = refl
not_removed (Some e) key d = refl

not_carried : (o : Option Eui) (key : Key) (base k : Bytes) → list_any (carries_in base k) (held_fact o key) ≡ false
not_carried None key base k = refl
not_carried (Some e) key base k = refl

not_living : (o : Option Eui) (key : Key) (place : ℕ) (k : Bytes) (was : Bool)
    → fold (living place k) was (held_fact o key) ≡ was
not_living None key place k was = refl
not_living (Some e) key place k was = refl

never_living : (base : Key) (o : Option Key) (place : ℕ) (k : Bytes) (was : Bool)
    → fold (living place k) was (carried_fact base o) ≡ was
never_living base None place k was = refl
never_living base (Some key) place k was = refl

pub split_or : (a b e : Bool) → ((a && e) || (b && e)) ≡ ((b || a) && e)
split_or true true true = refl
split_or true false true = refl
split_or false true true = refl
split_or false false true = refl
split_or true true false = refl
split_or true false false = refl
split_or false true false = refl
split_or false false false = refl

module _ (tools : Tools) (names : List Bytes) (known : List Station) (who : Who) where
  stated_held : (l : Line) → IsSpeaker who names known l → (d : ℕ) (k : Bytes)
      → list_any (holds_in d k) (stated who l) ≡ holds (held_by d known l) k
  unfolding naming.speaker
  stated_held (line.GivenNet node key s) is d k =
      held_here (eui_of_node who.node) key d k ∙
      (ap (λ (b : Bool). b && bytes_eq k key.0) (own_is known who.node node.bytes d is.eui) ∙ sym
      (holds_where (is_of known d node.bytes) key.0 k))
  stated_held (line.GivenLink node partner key) is d k =
      held_here (eui_of_node who.node) key d k ∙
      (ap (λ (b : Bool). b && bytes_eq k key.0) (own_is known who.node node.bytes d is.eui) ∙ sym
      (holds_where (is_of known d node.bytes) key.0 k))
  stated_held (line.Install event node key s) is d k =
      held_here (eui_of_node who.node) key d k ∙
      (ap (λ (b : Bool). b && bytes_eq k key.0) (own_is known who.node node.bytes d is.eui) ∙ sym
      (holds_where (is_of known d node.bytes) key.0 k))
  stated_held (line.Row event node partner key a) is d k =
      list_any-append (holds_in d k) (held_fact (partner_of who.is_centre partner) key)
      (held_fact (eui_of_node who.node) key)
      ∙ (rw (
        held_here (partner_of who.is_centre partner) key d k,
        held_here (eui_of_node who.node) key d k,
        own_is known who.node node.bytes d is.eui,
        centre_is known who.is_centre node.bytes partner d is.centre,
      )
      (split_or (is_centres known node.bytes && nat_eq partner.0 d) (is_of known d node.bytes) (bytes_eq k key.0)
      ∙ sym (holds_where (is_of known d node.bytes || (is_centres known node.bytes && nat_eq partner.0 d)) key.0 k)))
  stated_held (line.Pair event node first second key) is d k =
      rw (turned_number d first.0, turned_number d second.0, or_none (nat_eq second.0 d && bytes_eq k key.0))
      (paired (nat_eq first.0 d) (nat_eq second.0 d) (bytes_eq k key.0) ∙ sym
      (holds_where (nat_eq first.0 d || nat_eq second.0 d) key.0 k))
    where
      paired : (a b e : Bool) → ((a && e) || (b && e)) ≡ ((a || b) && e)
      paired true true true = refl
      paired true false true = refl
      paired false b true = refl
      paired true true false = refl
      paired true false false = refl
      paired false true false = refl
      paired false false false = refl
  stated_held (line.Seal event node t) is d k = never_held t.base (carried t) d k
  stated_held (line.Forge event t) is d k = never_held t.base (carried t) d k
  stated_held _ is d k = refl

  carried_here : FindKeys tools → (t : program.Term) (base k : Bytes)
      → list_any (carries_in base k) (carried_fact t.base (carried t))
      ≡ list_any (carries tools base k) (model_term t ∷ [])
  carried_here find t base k = by (carried t) refl
    where
      by : (o : Option Key) → carried t ≡ o → list_any (carries_in base k) (carried_fact t.base o)
          ≡ list_any (carries tools base k) (model_term t ∷ [])
      by None is =
          sym (or_none _ ∙
          (ap (λ (q : Option Bytes). bytes_eq base t.base.0 && is_that q k) (carried_is tools find t ∙ ap bytes_of is)
          ∙ none (bytes_eq base t.base.0)))
        where
          none : (b : Bool) → (b && false) ≡ false
          none true = refl
          none false = refl
      by (Some key) is =
          ap (λ (b : Bool). b || false)
          (sym (ap (λ (q : Option Bytes). bytes_eq base t.base.0 && is_that q k)
          (carried_is tools find t ∙ ap bytes_of is)))

  stated_carried : FindKeys tools → (l : Line) (base k : Bytes) → list_any (carries_in base k) (stated who l)
      ≡ list_any (carries tools base k) (terms_in l)
  stated_carried find (line.GivenNet node key s) base k = not_carried (eui_of_node who.node) key base k
  stated_carried find (line.GivenLink node partner key) base k = not_carried (eui_of_node who.node) key base k
  stated_carried find (line.Install event node key s) base k = not_carried (eui_of_node who.node) key base k
  stated_carried find (line.Row event node partner key a) base k =
      list_any-append (carries_in base k) (held_fact (partner_of who.is_centre partner) key)
      (held_fact (eui_of_node who.node) key)
      ∙ rw (not_carried (partner_of who.is_centre partner) key base k, not_carried (eui_of_node who.node) key base k)
      refl
  stated_carried find (line.Seal event node t) base k = carried_here find t base k
  stated_carried find (line.Forge event t) base k = carried_here find t base k
  stated_carried find _ base k = refl

  stated_removed : (l : Line) (d : ℕ) → list_any (removes_in d) (stated who l) ≡ list_any (nat_eq d) (removed_in l)
  stated_removed (line.GivenNet node key s) d = not_removed (eui_of_node who.node) key d
  stated_removed (line.GivenLink node partner key) d = not_removed (eui_of_node who.node) key d
  stated_removed (line.Install event node key s) d = not_removed (eui_of_node who.node) key d
  stated_removed (line.Row event node partner key a) d =
      list_any-append (removes_in d) (held_fact (partner_of who.is_centre partner) key)
      (held_fact (eui_of_node who.node) key)
      ∙ rw (not_removed (partner_of who.is_centre partner) key d, not_removed (eui_of_node who.node) key d) refl
  stated_removed (line.Seal event node t) d = never_removed t.base (carried t) d
  stated_removed (line.Forge event t) d = never_removed t.base (carried t) d
  stated_removed _ d = refl

  -- The place of a line's node is that of a name exactly if the name is the node's.
  at_place : (node name : Bytes) (place : ℕ) → place_in names node ≡ Some who.place → place_in names name ≡ Some place
      → nat_eq who.place place ≡ bytes_eq node name
  at_place node name place is at =
      same_truth _ _
      (λ same. ap (λ (n : Bytes). bytes_eq n name)
      (one_place names node name place (is ∙ ap (λ (n : ℕ). Some n) (same_number who.place place same)) at) ∙
      itself name)
      (λ same. ap (λ (n : ℕ). nat_eq n place)
      (some_same (sym is ∙ (ap (place_in names) (same_bytes node name same) ∙ at))) ∙ itself_number place)
    where
      some_same : {a b : ℕ} → Some a ≡ Some b → a ≡ b
      some_same e = cc

  comes_alive : (was a b : Bool) → (was || (a && b)) ≡ (if a && b then true else was)
  comes_alive true true true = refl
  comes_alive false true true = refl
  comes_alive true false b = refl
  comes_alive false false b = refl
  comes_alive true true false = refl
  comes_alive false true false = refl

  dies : (was a b : Bool) → (was && not (a && b)) ≡ (if a && b then false else was)
  dies true true true = refl
  dies false true true = refl
  dies true false b = refl
  dies false false b = refl
  dies true true false = refl
  dies false true false = refl

  stated_live : (l : Line) → IsSpeaker who names known l → (name : Bytes) (place : ℕ) → place_in names name
      ≡ Some place → (k : Bytes) (was : Bool)
      → fold (living place k) was (stated who l) ≡ lives name k was l
  unfolding naming.speaker
  stated_live (line.GivenNet node key s) is name place at k was =
      not_living (eui_of_node who.node) key place k (was || (nat_eq who.place place && bytes_eq k key.0))
      ∙ (rw (at_place node.bytes name place is.place at, turned key.0 k)
      (comes_alive was (bytes_eq node.bytes name) (bytes_eq key.0 k)))
    where
      turned : (a b : Bytes) → bytes_eq b a ≡ bytes_eq a b
      turned a b = same_truth _ _ (λ h. ap (bytes_eq a) (same_bytes b a h) ∙ itself a)
          (λ h. ap (bytes_eq b) (same_bytes a b h) ∙ itself b)
  stated_live (line.Install event node key s) is name place at k was =
      not_living (eui_of_node who.node) key place k (was || (nat_eq who.place place && bytes_eq k key.0))
      ∙ (rw (at_place node.bytes name place is.place at, turned key.0 k)
      (comes_alive was (bytes_eq node.bytes name) (bytes_eq key.0 k)))
    where
      turned : (a b : Bytes) → bytes_eq b a ≡ bytes_eq a b
      turned a b = same_truth _ _ (λ h. ap (bytes_eq a) (same_bytes b a h) ∙ itself a)
          (λ h. ap (bytes_eq b) (same_bytes a b h) ∙ itself b)
  stated_live (line.DropNet event node key) is name place at k was =
      rw (at_place node.bytes name place is.place at, turned key.0 k)
      (dies was (bytes_eq node.bytes name) (bytes_eq key.0 k))
    where
      turned : (a b : Bytes) → bytes_eq b a ≡ bytes_eq a b
      turned a b = same_truth _ _ (λ h. ap (bytes_eq a) (same_bytes b a h) ∙ itself a)
          (λ h. ap (bytes_eq b) (same_bytes a b h) ∙ itself b)
  stated_live (line.GivenLink node partner key) is name place at k was = not_living (eui_of_node who.node) key place k
      was
  stated_live (line.Row event node partner key a) is name place at k was =
      fold-append (living place k) was (held_fact (partner_of who.is_centre partner) key)
      (held_fact (eui_of_node who.node) key)
      ∙ (not_living (eui_of_node who.node) key place k
      (fold (living place k) was (held_fact (partner_of who.is_centre partner) key)) ∙ not_living
      (partner_of who.is_centre partner) key place k was)
  stated_live (line.Seal event node t) is name place at k was = never_living t.base (carried t) place k was
  stated_live (line.Forge event t) is name place at k was = never_living t.base (carried t) place k was
  stated_live _ is name place at k was = refl

-- One more line is said, in facts.
pub recalls_more : (tools : Tools) (names : List Bytes) (b : Before) (facts : List Fact) (h : List Line) (l : Line)
    (who : Who) → FindKeys tools → IsSpeaker who names (declared_in h) l
    → Recalls tools names b facts h → Recalls tools names b (facts ++ stated who l) (h ++ l ∷ [])
recalls_more tools names b facts h l who find is r = record {
  settled = r.settled;
  ever = λ d k. grown _ _ _ _ _ _ (list_any-append (holds_in d k) facts (stated who l)) (r.ever d k)
      (stated_held tools names (declared_in h) who l is d k) ∙ sym (ever_more h l d k);
  carried = λ base k. grown _ _ _ _ _ _ (list_any-append (carries_in base k) facts (stated who l)) (r.carried base k)
      (stated_carried tools names (declared_in h) who find l base k) ∙ sym (terms_more (carries tools base k) h l);
  removed = λ d. grown _ _ _ _ _ _ (list_any-append (removes_in d) facts (stated who l)) (r.removed d)
      (stated_removed tools names (declared_in h) who l d) ∙ sym (removed_more h l d);
  live = λ name place at k.
      fold-append (living place k) (lives_at b.live place k) facts (stated who l)
      ∙ (ap (λ (x : Bool). fold (living place k) x (stated who l)) (r.live name place at k)
      ∙ (stated_live tools names (declared_in h) who l is name place at k (is_live h name k) ∙ sym
      (live_more h l name k)));
}
  where
    grown : (was more stated_now all before now : Bool) → all ≡ (more || stated_now) → (was || more) ≡ before
        → stated_now ≡ now → (was || all) ≡ (before || now)
    grown was more stated_now all before now e f g = rw (e, sym f, sym g) (sym (or_assoc was more stated_now))

pub recalls_nothing : (tools : Tools) (names : List Bytes) (b : Before) (facts : List Fact) → facts ≡ []
    → IsSettled b.exposure → ((d : ℕ) (k : Bytes) → node_has b.exposure.ever d k ≡ false)
    → ((base k : Bytes) → is_carried b.exposure.carried base k ≡ false) → ((d : ℕ) → was_removed b.exposure d ≡ false)
    → ((place : ℕ) (k : Bytes) → lives_at b.live place k ≡ false) → Recalls tools names b facts []
unfolding ever terms_of removed_devices is_live
recalls_nothing tools names b facts none settled held carried_none removed live = record {
  settled = settled;
  ever = λ d k. ap (λ (fs : List Fact). node_has b.exposure.ever d k || list_any (holds_in d k) fs) none ∙
      (or_none _ ∙ held d k);
  carried = λ base k. ap (λ (fs : List Fact). is_carried b.exposure.carried base k || list_any (carries_in base k) fs)
      none ∙ (or_none _ ∙ carried_none base k);
  removed = λ d. ap (λ (fs : List Fact). was_removed b.exposure d || list_any (removes_in d) fs) none ∙
      (or_none _ ∙ removed d);
  live = λ name place at k. ap (λ (fs : List Fact). fold (living place k) (lives_at b.live place k) fs) none ∙ live
      place k;
}
