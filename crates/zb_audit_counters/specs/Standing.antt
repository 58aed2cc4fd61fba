-- What the program keeps about a transcript, and which lines it represents.
use Rattle.std.specs.Prelude.{◌≡◌, ℕ, min, max, Bool, true, false, not, if◌then◌else◌, ◌&&◌, ◌||◌, List, [], ◌∷◌, nat_eq, nat_lt, bytes_eq, Option, Some, None, unwrap_or}
use Rattle.std.specs.BTreeMap.{BTreeMap, get}
use Rattle.std.specs.Cmp.Lexicographic.{slice_cmp}
use Rattle.std.specs.Option.{option_map, is_some}
use Rattle.std.specs.Ordering.{nat_cmp, ordering_then}
use Rattle.std.specs.declared.cmp.Ordering.{Ordering}
use Rattle.zb_base.specs.contracts.label.LayerOrd.TheImpl as layer_ord
use Rattle.zb_base.specs.declared.key.Key.{Key}
use Rattle.zb_base.specs.declared.label.Layer.{Layer}
use Rattle.zb_base.specs.declared.label.Layer.TheVariants.{Nwk, Aps}
use Rattle.zb_audit_names.specs.declared.node.Node.{Node}
use Rattle.zb_model.specs.Data.{Bytes}
use Rattle.zb_audit_counters.specs.Counting.{accepted_in, activates, ahead, floor_fits, seals_at, start_value, starts}
use Rattle.zb_audit_counters.specs.Readings.{active_in, behind, boots, counter_in, floor_in, is_from, is_key, limit_in, reserve_in, sealed_in, starts_key}
use Rattle.zb_audit_counters.specs.declared.counters.Counters.{Counters}
use Rattle.zb_audit_counters.specs.declared.floor.Floor.{Floor}
use Rattle.zb_audit_counters.specs.declared.floor.Sender.{Sender}
use Rattle.zb_audit_counters.specs.declared.judgement.Judgement.{Judgement}
use Rattle.zb_audit_counters.specs.declared.judgement.Judgement.TheVariants.{Stands, Falls, Waits}
use Rattle.zb_audit_counters.specs.declared.judgement.Need.{Need}
use Rattle.zb_audit_counters.specs.declared.judgement.Need.TheVariants as need
use Rattle.zb_audit_counters.specs.declared.key.KeyCounters.{KeyCounters}
use Rattle.zb_audit_counters.specs.declared.layer.LayerCounters.{LayerCounters}
use Rattle.zb_audit_counters.specs.declared.outgoing.Outgoing.{Outgoing}
use Rattle.zb_audit_counters.specs.declared.outgoing.Sealed.{Sealed}
use Rattle.zb_audit_counters.specs.declared.versioned.Versioned.{Versioned}
use Rattle.zb_seal.specs.declared.term.Term.{Term}
use Rattle.zb_trace.specs.declared.line.Line.{Line}
use Rattle.zb_trace.specs.declared.line.Line.TheVariants as line

-- Values before a group and now. A group is identified by the number of its first line.

abbrev pub before_of : {T : Type 0} → ℕ → Versioned T → T
before_of g v = if nat_lt v.group g then v.latest else v.earlier

abbrev pub set_in : {T : Type 0} → ℕ → T → Versioned T → Versioned T
set_in g value v = record { earlier = before_of g v; latest = value; group = g }

abbrev pub never_set : {T : Type 0} → T → Versioned T
never_set value = record { earlier = value; latest = value; group = 0 }

-- Outgoing counters

abbrev pub limit_by : Outgoing → ℕ → ℕ → ℕ
limit_by o g declared = unwrap_or (before_of g o.limit) declared

-- The counter of a seal, if no boot came after it.
abbrev pub since : ℕ → Option Sealed → Option ℕ
since boot None = None
since boot (Some s) = if nat_eq s.boot boot then Some s.counter else None

abbrev pub next_by : Outgoing → ℕ → ℕ → ℕ → ℕ
next_by o g boot declared = behind (limit_by o g declared) (since boot (before_of g o.sealed))

abbrev pub is_spent_by : Outgoing → ℕ → ℕ → ℕ → Bool
is_spent_by o g boot declared = nat_eq (next_by o g boot declared) (limit_by o g declared)

-- Whether a seal uses the next counter, and comes after a reserve if that is the limit.
abbrev pub seals_by : Outgoing → ℕ → ℕ → ℕ → ℕ → Bool → Bool
seals_by o g boot declared counter reserved =
    nat_eq counter (next_by o g boot declared) && (not (is_spent_by o g boot declared) || reserved)

-- Whether a reserve is a block ahead, and is made when the next counter is the limit.
abbrev pub reserves_by : Outgoing → ℕ → ℕ → ℕ → ℕ → ℕ → Bool
reserves_by o g boot declared value block =
    nat_eq value (ahead (next_by o g boot declared) block) && is_spent_by o g boot declared

-- What is kept about one node, also if nothing was noted

abbrev pub fresh_outgoing : Outgoing
fresh_outgoing = record { limit = never_set None; sealed = never_set None }

abbrev pub fresh_layer : LayerCounters
fresh_layer = record { declared = never_set 0; reserved = 0; sealed = 0 }

abbrev pub fresh_key : KeyCounters
fresh_key = record { outgoing = fresh_outgoing; started = never_set false; start = 0; active = 0 }

abbrev pub fresh_floor : Floor
fresh_floor = record { stored = never_set 0; accepted = 0; least = 0; greatest = 0 }

abbrev pub key_cmp : Key → Key → Ordering
key_cmp a b = slice_cmp nat_cmp a.0 b.0

abbrev pub sender_cmp : Sender → Sender → Ordering
sender_cmp a b = ordering_then (nat_cmp a.eui.0 b.eui.0)
    (ordering_then (layer_ord.cmp-value.it a.layer b.layer) (key_cmp a.key b.key))

unfoldable pub key_in : BTreeMap Key KeyCounters → Key → KeyCounters
key_in keys key = unwrap_or (get key_cmp keys key) fresh_key

unfoldable pub floor_of : BTreeMap Sender Floor → Sender → Floor
floor_of floors sender = unwrap_or (get sender_cmp floors sender) fresh_floor

abbrev pub layer_of : Counters → Layer → LayerCounters
layer_of c Nwk = c.nwk
layer_of c Aps = c.aps

abbrev pub key_bytes : Key → Bytes
key_bytes key = key.0

-- The active key before a group, and the outgoing counter under a key.
abbrev pub active_by : ℕ → Counters → Option Bytes
active_by g c = option_map key_bytes (before_of g c.active)

abbrev pub next_under : ℕ → Counters → Option Key → ℕ
next_under g c None = before_of g c.nwk.declared
next_under g c (Some key) = next_by (key_in c.keys key).outgoing g (before_of g c.booted) (before_of g c.nwk.declared)

-- What is known about a line when it is read: it adds up, it doesn't, or it waits for another line of its group.

abbrev pub stands_if : Bool → Judgement
stands_if true = Stands
stands_if false = Falls

abbrev pub waits_if : Need → Bool → Judgement
waits_if n true = Waits n
waits_if n false = Falls

abbrev pub waits_unless : Need → Bool → Judgement
waits_unless n true = Stands
waits_unless n false = Waits n

abbrev pub seal_judged : ℕ → Counters → Layer → Key → ℕ → Bool → Judgement
seal_judged g c Nwk base counter declared =
    stands_if ((is_key (active_by g c) base.0 && declared)
    && seals_by (key_in c.keys base).outgoing g (before_of g c.booted) (before_of g c.nwk.declared) counter
    (nat_eq c.nwk.reserved g))
seal_judged g c Aps base counter declared =
    stands_if
    (declared && seals_by c.outgoing g (before_of g c.booted) (before_of g c.aps.declared) counter
    (nat_eq c.aps.reserved g))

abbrev pub reserve_under : ℕ → Counters → Option Key → ℕ → ℕ → Bool
reserve_under g c None value block = nat_eq value (ahead (before_of g c.nwk.declared) block)
reserve_under g c (Some key) value block =
    reserves_by (key_in c.keys key).outgoing g (before_of g c.booted) (before_of g c.nwk.declared) value block

abbrev pub reserves_at : ℕ → Counters → Layer → ℕ → Option ℕ → Bool
reserves_at g c layer value None = false
reserves_at g c Nwk value (Some block) = reserve_under g c (before_of g c.active) value block
reserves_at g c Aps value (Some block) = reserves_by c.outgoing g (before_of g c.booted) (before_of g c.aps.declared)
    value block

abbrev pub reserve_judged : ℕ → Counters → Layer → ℕ → Option ℕ → Judgement
reserve_judged g c layer value block = waits_if (need.Seal layer) (reserves_at g c layer value block)

abbrev pub accept_judged : ℕ → Counters → Sender → ℕ → Judgement
accept_judged g c sender counter =
    waits_unless (need.Floor sender) (nat_lt counter (before_of g (floor_of c.floors sender).stored))

abbrev pub floor_judged : Sender → ℕ → Option ℕ → Judgement
floor_judged sender value None = Falls
floor_judged sender value (Some block) = Waits (need.Accept sender value block)

abbrev pub start_judged : ℕ → Counters → Key → ℕ → Bool → Judgement
start_judged g c key value declared =
    waits_if (need.Active key)
    (declared
    && (not (before_of g (key_in c.keys key).started)
    && nat_eq value (start_value (next_under g c (before_of g c.active)))))

abbrev pub active_judged : ℕ → Counters → Key → Judgement
active_judged g c key = waits_unless (need.Start key) (before_of g (key_in c.keys key).started)

abbrev pub out_block_by : Option Node → Option ℕ
out_block_by node = option_map (λ (n : Node). n.out_block) node

abbrev pub in_block_by : Option Node → Option ℕ
in_block_by node = option_map (λ (n : Node). n.in_block) node

abbrev pub sender_of : Term → Sender
sender_of t = record { layer = t.layer; key = t.base; eui = t.source }

-- A line of a node with these blocks.
abbrev pub judged_at : ℕ → Counters → Option ℕ → Option ℕ → Line → Judgement
judged_at g c out_block in_block (line.Seal e n t) = seal_judged g c t.layer t.base t.counter (is_some out_block)
judged_at g c out_block in_block (line.Reserve e n layer value) = reserve_judged g c layer value out_block
judged_at g c out_block in_block (line.Accept e n t) = accept_judged g c (sender_of t) t.counter
judged_at g c out_block in_block (line.Floor e n layer key sender value) =
    floor_judged (record { layer = layer; key = key; eui = sender }) value in_block
judged_at g c out_block in_block (line.Start e n key value) = start_judged g c key value (is_some out_block)
judged_at g c out_block in_block (line.Active e n key) = active_judged g c key
judged_at g c out_block in_block _ = Stands

-- Whether a line says something about a node's counters.
abbrev pub counts : Line → Bool
counts (line.Counter n layer value) = true
counts (line.GivenNet n key sequence) = true
counts (line.Active e n key) = true
counts (line.Start e n key value) = true
counts (line.Reserve e n layer value) = true
counts (line.Seal e n t) = true
counts (line.Accept e n t) = true
counts (line.Floor e n layer key sender value) = true
counts (line.Boot e n) = true
counts _ = false

-- Whether the group has the line for which a line waits, at the group's end.

abbrev pub fits_all : ℕ → ℕ → ℕ → ℕ → Floor → Bool
fits_all g floor value block f =
    not (nat_eq f.accepted g) || (floor_fits floor value block f.least && floor_fits floor value block f.greatest)

abbrev pub calls : Bool → ℕ → ℕ → ℕ → Floor → Bool
calls true g floor value f = nat_lt floor value
calls false g floor value f = nat_eq f.accepted g

abbrev pub is_met : ℕ → Bool → Counters → Need → Bool
is_met g cut c (need.Seal layer) = cut || nat_eq (layer_of c layer).sealed g
is_met g cut c (need.Floor sender) = nat_eq (floor_of c.floors sender).stored.group g
is_met g cut c (need.Accept sender value block) =
    fits_all g (before_of g (floor_of c.floors sender).stored) value block (floor_of c.floors sender)
    && calls cut g (before_of g (floor_of c.floors sender).stored) value (floor_of c.floors sender)
is_met g cut c (need.Start key) = nat_eq (key_in c.keys key).start g
is_met g cut c (need.Active key) = nat_eq (key_in c.keys key).active g

-- What a line says to a node of this name, and what that changes.

abbrev pub hear : {T : Type 0} → ℕ → Option T → Versioned T → Versioned T
hear g None v = v
hear g (Some value) v = set_in g value v

abbrev pub mark_if : ℕ → Bool → ℕ → ℕ
mark_if g true mark = g
mark_if g false mark = mark

abbrev pub true_if : Bool → Option Bool
true_if true = Some true
true_if false = None

-- The active key. `activated` says whether there is an earlier `active` line.
abbrev pub active_said : Bytes → Bool → Line → Option (Option Key)
active_said n activated (line.Active e m key) = if bytes_eq m.bytes n then Some (Some key) else None
active_said n activated (line.GivenNet m key sequence) = if not activated && bytes_eq m.bytes n then Some (Some key)
    else None
active_said n activated _ = None

abbrev pub boot_said : Bytes → ℕ → Line → Option ℕ
boot_said n number l = if boots n l then Some number else None

abbrev pub some_said : Option ℕ → Option (Option ℕ)
some_said said = option_map (λ (n : ℕ). Some n) said

abbrev pub seal_said : ℕ → Option ℕ → Option (Option Sealed)
seal_said boot said = option_map (λ (n : ℕ). Some (record { counter = n; boot = boot })) said

abbrev pub heard_outgoing : ℕ → ℕ → Option ℕ → Option ℕ → Outgoing → Outgoing
heard_outgoing g boot limit sealed o =
    record { limit = hear g (some_said limit) o.limit; sealed = hear g (seal_said boot sealed) o.sealed }

abbrev pub heard_layer : ℕ → Bytes → Layer → Line → LayerCounters → LayerCounters
heard_layer g n layer l a = record {
  declared = hear g (counter_in n layer l) a.declared;
  reserved = mark_if g (is_some (reserve_in n layer l)) a.reserved;
  sealed = mark_if g (seals_at n layer l) a.sealed;
}

-- `was` says whether the key was active before the group.
abbrev pub heard_key : ℕ → ℕ → Bytes → Bytes → Bool → Line → KeyCounters → KeyCounters
heard_key g boot n key was l k = record {
  outgoing = heard_outgoing g boot (limit_in n key was l) (sealed_in n Nwk (Some key) l) k.outgoing;
  started = hear g (true_if (starts_key n key l)) k.started;
  start = mark_if g (starts n key l) k.start;
  active = mark_if g (activates n key l) k.active;
}

-- The least and greatest counter that a group accepts.
abbrev pub least_of : ℕ → ℕ → Floor → ℕ
least_of g counter f = if nat_eq f.accepted g then min f.least counter else counter

abbrev pub greatest_of : ℕ → ℕ → Floor → ℕ
greatest_of g counter f = if nat_eq f.accepted g then max f.greatest counter else counter

abbrev pub with_accepted : ℕ → List ℕ → Floor → Floor
with_accepted g [] f = f
with_accepted g (counter ∷ more) f =
    record f { accepted = g; least = least_of g counter f; greatest = greatest_of g counter f }

abbrev pub with_stored : ℕ → Option ℕ → Floor → Floor
with_stored g said f = record f { stored = hear g said f.stored }

abbrev pub heard_floor : ℕ → Bytes → Sender → Line → Floor → Floor
heard_floor g n s l f =
    with_accepted g (accepted_in n s.layer s.key.0 s.eui.0 l) (with_stored g (floor_in n s.layer s.key.0 s.eui.0 l) f)

-- The counters of a node after a line of this number in a group.
pub record Hears (g number : ℕ) (n : Bytes) (l : Line) (old new : Counters) : Type 0 where
  pub active : new.active ≡ hear g (active_said n old.activated l) old.active
  pub activated : new.activated ≡ (is_some (active_in n l) || old.activated)
  pub booted : new.booted ≡ hear g (boot_said n number l) old.booted
  pub layers : (layer : Layer) → layer_of new layer ≡ heard_layer g n layer l (layer_of old layer)
  pub outgoing : new.outgoing ≡ heard_outgoing g old.booted.latest (reserve_in n Aps l) (sealed_in n Aps None l)
      old.outgoing
  pub keys : (key : Key) → key_in new.keys key
      ≡ heard_key g old.booted.latest n key.0 (is_key (active_by g old) key.0) l (key_in old.keys key)
  pub floors : (s : Sender) → floor_of new.floors s ≡ heard_floor g n s l (floor_of old.floors s)

-- The counters of a node about which there is no line.
pub record AreFresh (c : Counters) : Type 0 where
  pub active : c.active ≡ never_set None
  pub activated : c.activated ≡ false
  pub booted : c.booted ≡ never_set 0
  pub layers : (layer : Layer) → layer_of c layer ≡ fresh_layer
  pub outgoing : c.outgoing ≡ fresh_outgoing
  pub keys : (key : Key) → key_in c.keys key ≡ fresh_key
  pub floors : (s : Sender) → floor_of c.floors s ≡ fresh_floor

-- The sender and the counter of a term.
pub record IsOfSender (t : Term) (s : Sender) (counter : ℕ) : Type 0 where
  pub layer_is : t.layer ≡ s.layer
  pub key_is : t.base ≡ s.key
  pub eui_is : t.source ≡ s.eui
  pub counter_is : t.counter ≡ counter

-- One of a map's values is added.
abbrev pub same_sender : Sender → Sender → Bool
same_sender s q = is_from q.layer q.key.0 q.eui.0 s.layer s.key.0 s.eui.0

abbrev pub PutsKey : BTreeMap Key KeyCounters → BTreeMap Key KeyCounters → Key → KeyCounters → Type 0
PutsKey old new key counters = (q : Key) → key_in new q ≡ (if bytes_eq key.0 q.0 then counters else key_in old q)

abbrev pub PutsFloor : BTreeMap Sender Floor → BTreeMap Sender Floor → Sender → Floor → Type 0
PutsFloor old new s floor = (q : Sender) → floor_of new q ≡ (if same_sender s q then floor else floor_of old q)
