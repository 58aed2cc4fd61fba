-- What is kept about a node as a group ends.
use Rattle.std.proofs.Common.{◌≡◌, ℕ, ◌≤◌, ◌<◌, List, [], ◌∷◌, ◌++◌, Bool, false, not, ◌&&◌, ◌||◌, append-nil, Option, Some, None, ap, sym, subst, ◌∙◌, arith}
use Rattle.std.specs.Option.{option_map, is_some}
use Rattle.std.specs.Prelude.{if◌then◌else◌}
use Rattle.std.proofs.lemmas.Bool.{lt-ltb}
use Rattle.zb_base.specs.declared.label.Layer.{Layer}
use Rattle.zb_base.specs.declared.label.Layer.TheVariants.{Nwk, Aps}
use Rattle.zb_audit_names.specs.Groups.{flat}
use Rattle.zb_model.specs.Data.{Bytes}
use Rattle.zb_audit_counters.specs.Counting.{accepted, floor_fits}
use Rattle.zb_audit_counters.specs.Readings.{active, active_in, declared, has_started, last, limit_behind, reserve_in, stored}
use Rattle.zb_audit_counters.specs.Recounting.{IsAt, IsFloor, IsKey, IsLayer, IsMark, IsOf, IsOutgoing, IsRead, itself, last_seal}
use Rattle.zb_audit_counters.specs.Standing.{before_of, floor_of, key_bytes, key_in, layer_of, since}
use Rattle.zb_audit_counters.specs.declared.counters.Counters.{Counters}
use Rattle.zb_audit_counters.specs.declared.floor.Floor.{Floor}
use Rattle.zb_audit_counters.specs.declared.key.KeyCounters.{KeyCounters}
use Rattle.zb_audit_counters.specs.declared.layer.LayerCounters.{LayerCounters}
use Rattle.zb_audit_counters.specs.declared.outgoing.Outgoing.{Outgoing}
use Rattle.zb_audit_counters.specs.declared.versioned.Versioned.{Versioned}
use Rattle.zb_trace.specs.declared.line.Line.{Line}
use Rattle.zb_audit_counters.proofs.LineLists.{limit_none}
use Rattle.zb_audit_counters.proofs.Stepping.{not_equal}

-- What was before the next group is what is now.
before_next : {T : Type 0} (count g : ℕ) (v : Versioned T) → v.group ≤ count → count < g → before_of g v ≡ v.latest
before_next count g v past later = ap (λ (b : Bool). if b then v.latest else v.earlier)
    (lt-ltb v.group g (omega arith))

read_turns : {T A : Type 0} (f : T → A) (count g h : ℕ) (v : Versioned T) (old new : A) → count < h
    → IsRead f count g v old new → IsRead f count h v new new
read_turns f count g h v old new later is = (is.0, ap f (before_next count h v is.0 later) ∙ is.2, is.2)

mark_turns : (count g h mark : ℕ) (there : Bool) → count < h → IsMark count g mark there → IsMark count h mark false
mark_turns count g h mark there later is = (is.0, not_equal mark h (omega arith))

outgoing_turns : (count g h : ℕ) (booted : Versioned ℕ) (la ln sa sn : Option ℕ) (o : Outgoing) → count < h
    → booted.group ≤ count → IsOutgoing count g booted la ln sa sn o → IsOutgoing count h booted ln ln sn sn o
outgoing_turns count g h booted la ln sa sn o later past is = record {
  limit = read_turns itself count g h o.limit la ln later is.limit;
  past = is.past;
  before = ap (λ (x : ℕ). since x (before_of h o.sealed)) (before_next count h booted past later) ∙
      (ap (since booted.latest) (before_next count h o.sealed is.past later) ∙ is.now);
  now = is.now;
  noted = is.noted;
}

-- The groups `later` are those before, with the lines of the group.
module _ (count g h : ℕ) (n : Bytes) (before later : List (List Line)) (front : List Line) (more : count < h)
    (lines : flat later ≡ flat before ++ front)
    (limits : (key : Bytes) → limit_behind [] n key later ≡ limit_behind [] n key (before ++ front ∷ [])) where
  now_as : flat before ++ front ≡ flat later ++ []
  now_as = sym lines ∙ sym (append-nil (flat later))

  layer_turns : (ly : Layer) (a : LayerCounters) → IsLayer count g n ly before front a
      → IsLayer count h n ly later [] a
  unfolding last
  layer_turns ly a is = record {
    declared =
        subst (λ (x : List Line). IsRead itself count h a.declared (declared x n ly)
        (declared (flat later ++ []) n ly)) (sym lines)
        (subst (λ (x : List Line). IsRead itself count h a.declared (declared (flat before ++ front) n ly)
        (declared x n ly)) now_as
        (read_turns itself count g h a.declared (declared (flat before) n ly) (declared (flat before ++ front) n ly)
        more is.declared));
    reserved = mark_turns count g h a.reserved _ more is.reserved;
    sealed = mark_turns count g h a.sealed _ more is.sealed;
  }

  key_turns : (booted : Versioned ℕ) (key : Bytes) (k : KeyCounters) → booted.group ≤ count
      → IsKey count g booted n key before front k → IsKey count h booted n key later [] k
  key_turns booted key k past is = record {
    outgoing =
        subst (λ (x : Option ℕ). IsOutgoing count h booted x (limit_behind [] n key (later ++ [] ∷ []))
        (last_seal n Nwk (Some key) (flat later)) (last_seal n Nwk (Some key) (flat later ++ [])) k.outgoing)
        (sym (limits key))
        (subst (λ (x : Option ℕ). IsOutgoing count h booted (limit_behind [] n key (before ++ front ∷ [])) x
        (last_seal n Nwk (Some key) (flat later)) (last_seal n Nwk (Some key) (flat later ++ [])) k.outgoing)
        (sym (limit_none n key later ∙ limits key))
        (subst (λ (x : List Line). IsOutgoing count h booted (limit_behind [] n key (before ++ front ∷ []))
        (limit_behind [] n key (before ++ front ∷ [])) (last_seal n Nwk (Some key) x)
        (last_seal n Nwk (Some key) (flat later ++ [])) k.outgoing) (sym lines)
        (subst (λ (x : List Line). IsOutgoing count h booted (limit_behind [] n key (before ++ front ∷ []))
        (limit_behind [] n key (before ++ front ∷ [])) (last_seal n Nwk (Some key) (flat before ++ front))
        (last_seal n Nwk (Some key) x) k.outgoing) now_as
        (outgoing_turns count g h booted (limit_behind [] n key before) (limit_behind [] n key (before ++ front ∷ []))
        (last_seal n Nwk (Some key) (flat before)) (last_seal n Nwk (Some key) (flat before ++ front)) k.outgoing
        more past is.outgoing))));
    started =
        subst (λ (x : List Line). IsRead itself count h k.started (has_started x n key)
        (has_started (flat later ++ []) n key)) (sym lines)
        (subst (λ (x : List Line). IsRead itself count h k.started (has_started (flat before ++ front) n key)
        (has_started x n key)) now_as
        (read_turns itself count g h k.started (has_started (flat before) n key)
        (has_started (flat before ++ front) n key) more is.started));
    start = mark_turns count g h k.start _ more is.start;
    active = mark_turns count g h k.active _ more is.active;
  }

  floor_turns : (ly : Layer) (key : Bytes) (sender : ℕ) (f : Floor) → IsFloor count g n ly key sender before front f
      → IsFloor count h n ly key sender later [] f
  unfolding last accepted
  floor_turns ly key sender f is = record {
    kept = subst
        (λ (x : List Line). IsRead itself count h f.stored (stored x n ly key sender)
        (stored (flat later ++ []) n ly key sender)) (sym lines)
        (subst (λ (x : List Line). IsRead itself count h f.stored (stored (flat before ++ front) n ly key sender)
        (stored x n ly key sender)) now_as
        (read_turns itself count g h f.stored (stored (flat before) n ly key sender)
        (stored (flat before ++ front) n ly key sender) more is.kept));
    here = not_equal f.stored.group h (omega (arith, is.kept.0, more));
    taken = mark_turns count g h f.accepted _ more is.taken;
    fits = λ floor value block. ap
        (λ (b : Bool). not b || (floor_fits floor value block f.least && floor_fits floor value block f.greatest))
        (mark_turns count g h f.accepted _ more is.taken).1;
    ordered = is.ordered;
  }

  pub of_turns : (c : Counters) → IsOf count g n before front c → IsOf count h n later [] c
  of_turns c is = record {
    active =
        subst (λ (x : List Line). IsRead (option_map key_bytes) count h c.active (active x n)
        (active (flat later ++ []) n)) (sym lines)
        (subst (λ (x : List Line). IsRead (option_map key_bytes) count h c.active (active (flat before ++ front) n)
        (active x n)) now_as
        (read_turns (option_map key_bytes) count g h c.active (active (flat before) n)
        (active (flat before ++ front) n) more is.active));
    activated = is.activated ∙ ap (λ (x : List Line). is_some (last (active_in n) x)) now_as;
    booted = is.booted;
    layers = λ ly. layer_turns ly (layer_of c ly) (is.layers ly);
    outgoing = λ key.
        subst (λ (x : List Line). IsOutgoing count h c.booted (last (reserve_in n Aps) x)
        (last (reserve_in n Aps) (flat later ++ [])) (last_seal n Aps key x)
        (last_seal n Aps key (flat later ++ [])) c.outgoing) (sym lines)
        (subst (λ (x : List Line). IsOutgoing count h c.booted (last (reserve_in n Aps) (flat before ++ front))
        (last (reserve_in n Aps) x) (last_seal n Aps key (flat before ++ front)) (last_seal n Aps key x)
        c.outgoing) now_as
        (outgoing_turns count g h c.booted (last (reserve_in n Aps) (flat before))
        (last (reserve_in n Aps) (flat before ++ front)) (last_seal n Aps key (flat before))
        (last_seal n Aps key (flat before ++ front)) c.outgoing more is.booted.0 (is.outgoing key)));
    keys = λ key. key_turns c.booted key.0 (key_in c.keys key) is.booted.0 (is.keys key);
    floors = λ s. floor_turns s.layer s.key.0 s.eui.0 (floor_of c.floors s) (is.floors s);
  }

  pub at_turns : (o : Option Counters) → IsAt count g n before front o → IsAt count h n later [] o
  at_turns None is = λ c fresh. of_turns c (is c fresh)
  at_turns (Some c) is = of_turns c is
