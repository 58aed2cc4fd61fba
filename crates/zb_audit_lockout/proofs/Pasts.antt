-- What was known before the group of a line, as lines come.
use Rattle.std.proofs.Common.{◌≡◌, ℕ, List, [], ◌∷◌, ◌++◌, Bool, true, false, Option, None, ap, sym, ◌∙◌, subst}
use Rattle.std.specs.Prelude.{if◌then◌else◌}
use Rattle.zb_audit_names.specs.Groups.{event_of, same_event}
use Rattle.zb_audit_names.specs.Naming.{declared_in}
use Rattle.zb_audit_names.specs.Standing.{IsSpeaker}
use Rattle.zb_audit_names.specs.declared.node.Who.{Who}
use Rattle.zb_audit_lockout.specs.Before.{before_group}
use Rattle.zb_audit_lockout.specs.Facts.{Recalls, stated}
use Rattle.zb_audit_lockout.specs.Standing.{Enters, IsPast, last_event}
use Rattle.zb_audit_lockout.specs.declared.before.Before.{Before}
use Rattle.zb_audit_lockout.specs.declared.fact.Fact.{Fact}
use Rattle.zb_audit_lockout.specs.declared.past.Past.{Past}
use Rattle.zb_audit_lockout.proofs.Grouping.{before_more, before_nothing, last_more}
use Rattle.zb_audit_lockout.proofs.Recalling.{recalls_more}
use Rattle.zb_model.specs.Data.{Bytes}
use Rattle.zb_model.specs.Tools.{Tools}
use Rattle.zb_trace.specs.declared.line.Line.{Line}
use Rattle.zb_trace_watch.specs.Standing.{FindKeys}

before_is : (h : List Line) (l : Line) (old event : Option ℕ) (b : Bool) → old ≡ last_event h → event ≡ event_of l
    → same_event old event ≡ b → before_group (h ++ l ∷ []) ≡ (if b then before_group h else h)
before_is h l old event b was is same =
    before_more h l ∙ ap (λ (c : Bool). if c then before_group h
    else h) (ap (λ (o : Option ℕ). same_event o (event_of l)) (sym was) ∙ (ap (same_event old) (sym is) ∙ same))

-- A line continues the group, or begins one.
pub goes_on_enters : (tools : Tools) (names : List Bytes) (p : Past) (h : List Line) (l : Line) (event : Option ℕ)
    → event ≡ event_of l → same_event p.event event ≡ true → IsPast tools names p h → Enters tools names p h l
goes_on_enters tools names p h l event is same past = record {
  before = subst (λ (g : List Line). Recalls tools names p.before [] g)
      (sym (before_is h l p.event event true past.event is same)) past.before;
  now = past.now;
}

pub begins_enters : (tools : Tools) (names : List Bytes) (p new : Past) (h : List Line) (l : Line) (event : Option ℕ)
    → event ≡ event_of l → same_event p.event event ≡ false → IsPast tools names p h
    → Recalls tools names new.before [] h → new.group.items ≡ [] → Enters tools names new h l
begins_enters tools names p new h l event is same past recalls none = record {
  before = subst (λ (g : List Line). Recalls tools names new.before [] g)
      (sym (before_is h l p.event event false past.event is same)) recalls;
  now = subst (λ (fs : List Fact). Recalls tools names new.before fs h) (sym none) recalls;
}

pub past_on : (tools : Tools) (names : List Bytes) (mid new : Past) (h : List Line) (l : Line) (who : Who)
    (event : Option ℕ) → event ≡ event_of l → FindKeys tools → IsSpeaker who names (declared_in h) l
    → Enters tools names mid h l
    → new.event ≡ event → new.before ≡ mid.before → new.group.items ≡ mid.group.items ++ stated who l
    → IsPast tools names new (h ++ l ∷ [])
past_on tools names mid new h l who event is find speaks enters event_is before_is group_is = record {
  event = event_is ∙ (is ∙ sym (last_more h l));
  before = subst (λ (b : Before). Recalls tools names b [] (before_group (h ++ l ∷ []))) (sym before_is) enters.before;
  now =
      subst (λ (b : Before). Recalls tools names b new.group.items (h ++ l ∷ [])) (sym before_is)
      (subst (λ (fs : List Fact). Recalls tools names mid.before fs (h ++ l ∷ [])) (sym group_is)
      (recalls_more tools names mid.before mid.group.items h l who find speaks enters.now));
}

pub past_nothing : (tools : Tools) (names : List Bytes) (p : Past) → p.event ≡ None → p.group.items ≡ []
    → Recalls tools names p.before [] [] → IsPast tools names p []
past_nothing tools names p no_event no_group recalls = record {
  event = no_event;
  before = subst (λ (g : List Line). Recalls tools names p.before [] g) (sym before_nothing) recalls;
  now = subst (λ (fs : List Fact). Recalls tools names p.before fs []) (sym no_group) recalls;
}
