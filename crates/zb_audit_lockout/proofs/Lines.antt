-- The state after a line of each kind, in the program's words.
use Rattle.std.proofs.Common.{◌≡◌, ℕ, ◌+◌, List, [], ◌∷◌, ◌++◌, length, Bool, true, false, ◌||◌, ◌&&◌, Option, Some, None, refl, ap, sym, ◌∙◌, subst, bytes_eq, nat_eq}
use Rattle.std.specs.Prelude.{if◌then◌else◌}
use Rattle.std.specs.Option.{option_or}
use Rattle.arrayvec.specs.ArrayString.{ArrayString}
use Rattle.zb_base.specs.declared.address.Eui.{Eui}
use Rattle.zb_base.specs.declared.key.Key.{Key}
use Rattle.zb_base.specs.declared.state.Attribute.{Attribute}
use Rattle.zb_audit_names.specs.Naming as naming
use Rattle.zb_audit_names.specs.Naming.{declared_in, is_centres, is_of}
use Rattle.zb_audit_names.specs.Secrets.{held_by}
use Rattle.zb_audit_names.specs.Standing.{IsSpeaker}
use Rattle.zb_audit_names.specs.declared.node.Who.{Who}
use Rattle.zb_audit_lockout.specs.Facts.{eui_of_node, partner_of}
use Rattle.zb_audit_lockout.specs.Lockout.{drawn_in, locked, refuses_line}
use Rattle.zb_audit_lockout.specs.Reading.{accepts}
use Rattle.zb_audit_lockout.specs.Standing.{Admits, CarriesSome, Draws, Forges, Forgets, CameToHold, IsEvidence, IsHeld, IsJudged, IsPast, IsReach, IsReady, IsSafe, Judges, Removes, Seals, Stands, Tells}
use Rattle.zb_audit_lockout.specs.Windows.{Claim, EachAt}
use Rattle.zb_audit_lockout.specs.declared.evidence.Evidence.{Evidence}
use Rattle.zb_audit_lockout.specs.declared.lockout.Lockout.{Lockout}
use Rattle.zb_audit_lockout.specs.declared.past.Past.{Past}
use Rattle.zb_audit_lockout.specs.declared.reach.Reach.{Reach}
use Rattle.zb_audit_lockout.proofs.Judging.{IsPlain, IsQuiet, IsUnsealed, drawn_judged, held_judged, quiet_judged, term_judged}
use Rattle.zb_audit_lockout.proofs.Locking.{first_more, locked_more}
use Rattle.zb_audit_lockout.proofs.Recalling.{centre_is, holds_where, own_is, split_or}
use Rattle.zb_audit_lockout.proofs.Tests.{or_none}
use Rattle.zb_audit_lockout.proofs.Forgetting.{evidence_kept}
use Rattle.zb_audit_lockout.proofs.Verdicts.{accept_judged, forge_evidence, gone_judged, live_judged, seal_evidence}
use Rattle.zb_model.specs.Data.{Bytes, Station}
use Rattle.zb_model.specs.Secrets.{holds}
use Rattle.zb_model.specs.Tools.{Tools}
use Rattle.zb_seal.specs.declared.term.Term as program
use Rattle.zb_trace.specs.declared.line.Line.{Line}
use Rattle.zb_trace.specs.declared.line.Line.TheVariants as line
use Rattle.zb_trace_watch.specs.Sets.{is_node}
use Rattle.zb_trace_watch.specs.Standing.{FindKeys}
use Rattle.zb_trace_watch.proofs.Truth.{turned_number}
use Rattle.zb_seal.specs.Carrying.{carried}

-- Lines by which devices get a key

-- How two devices get a key.
abbrev both_hold : Option Eui → Option Eui → Key → ℕ → Bytes → Bool
both_hold first second key d k = (is_node first d && bytes_eq k key.0) || (is_node second d && bytes_eq k key.0)

record IsHolding (l : Line) : Type 1 where
  pub plain : IsPlain l
  pub unsealed : IsUnsealed l
  pub undrawn : drawn_in l ≡ []
  pub no_removal : (Q : Claim) (h : List Line) → EachAt Q h l []

holding_judges : (old new : Lockout) (number : ℕ) (l : Line) (who : Who) (stays : Bool) (more : ℕ → Bytes → Bool)
    → IsHolding l → new.past ≡ old.past → CameToHold old.reach new.reach more
    → Tells old.reach new.reach stays → new.evidence ≡ old.evidence
    → ((names : List Bytes) (known : List Station) → IsSpeaker who names known l → (d : ℕ) (k : Bytes) → more d k
    ≡ holds (held_by d known l) k) → Judges old new number l who stays
holding_judges old new number l who stays more is past hold tells evidence more_is = record {
  past = past;
  judged = λ tools names h find number_is speaks ready.
      held_judged tools names old new h l stays more ready hold tells evidence is.plain is.unsealed is.undrawn
      (λ Q. is.no_removal Q h) (more_is names (declared_in h) speaks);
}

module _ (old new : Lockout) (number : ℕ) (who : Who) (stays : Bool) (first second : Option Eui) (key : Key)
    (past : new.past ≡ old.past)
    (hold : CameToHold old.reach new.reach (both_hold first second key)) (tells : Tells old.reach new.reach stays)
    (evidence : new.evidence ≡ old.evidence) where
  own_alone : (known : List Station) (name : Bytes) → first ≡ eui_of_node who.node → second ≡ None
      → ((d : ℕ) → is_node (eui_of_node who.node) d ≡ is_of known d name) → (d : ℕ) (k : Bytes)
      → both_hold first second key d k ≡ holds (if is_of known d name then key.0 ∷ [] else []) k
  own_alone known name own none is d k =
      ap (λ (o : Option Eui). both_hold first o key d k) none
      ∙ (or_none _ ∙
      (ap (λ (o : Option Eui). is_node o d && bytes_eq k key.0) own ∙
      (ap (λ (b : Bool). b && bytes_eq k key.0) (is d) ∙ sym (holds_where (is_of known d name) key.0 k))))

  pub given_net_judges : (node : ArrayString) (sequence : ℕ) → first ≡ eui_of_node who.node → second ≡ None
      → Judges old new number (line.GivenNet node key sequence) who stays
  unfolding refuses_line naming.speaker
  given_net_judges node sequence own none =
      holding_judges old new number (line.GivenNet node key sequence) who stays (both_hold first second key)
      (record {
        plain = record { admits = λ d. refl; refused = λ ts d a b. refl };
        unsealed = record { terms = refl; forged = refl; sealed = λ d known. refl };
        undrawn = refl;
        no_removal =
            λ Q h. tt;
      })
      past hold tells evidence
      (λ names known speaks. own_alone known node.bytes own none
      (λ d. own_is known who.node node.bytes d speaks.eui))

  pub given_link_judges : (node : ArrayString) (partner : Eui) → first ≡ eui_of_node who.node → second ≡ None
      → Judges old new number (line.GivenLink node partner key) who stays
  unfolding refuses_line naming.speaker
  given_link_judges node partner own none =
      holding_judges old new number (line.GivenLink node partner key) who stays (both_hold first second key)
      (record {
        plain = record { admits = λ d. refl; refused = λ ts d a b. refl };
        unsealed = record { terms = refl; forged = refl; sealed = λ d known. refl };
        undrawn = refl;
        no_removal =
            λ Q h. tt;
      })
      past hold tells evidence
      (λ names known speaks. own_alone known node.bytes own none
      (λ d. own_is known who.node node.bytes d speaks.eui))

  pub install_judges : (event : ℕ) (node : ArrayString) (sequence : ℕ) → first ≡ eui_of_node who.node → second ≡ None
      → Judges old new number (line.Install event node key sequence) who stays
  unfolding refuses_line naming.speaker
  install_judges event node sequence own none =
      holding_judges old new number (line.Install event node key sequence) who stays (both_hold first second key)
      (record {
        plain = record { admits = λ d. refl; refused = λ ts d a b. refl };
        unsealed = record { terms = refl; forged = refl; sealed = λ d known. refl };
        undrawn = refl;
        no_removal =
            λ Q h. tt;
      })
      past hold tells evidence
      (λ names known speaks. own_alone known node.bytes own none
      (λ d. own_is known who.node node.bytes d speaks.eui))

  turned_or : (a b : Bool) → (a || b) ≡ (b || a)
  turned_or true true = refl
  turned_or true false = refl
  turned_or false true = refl
  turned_or false false = refl

  pub row_judges : (event : ℕ) (node : ArrayString) (partner : Eui) (attribute : Attribute) → first
      ≡ eui_of_node who.node → second ≡ partner_of who.is_centre partner
      → Judges old new number (line.Row event node partner key attribute) who stays
  unfolding refuses_line naming.speaker
  row_judges event node partner attribute own other =
      holding_judges old new number (line.Row event node partner key attribute) who stays (both_hold first second key)
      (record {
        plain = record { admits = λ d. refl; refused = λ ts d a b. refl };
        unsealed = record { terms = refl; forged = refl; sealed = λ d known. refl };
        undrawn = refl;
        no_removal =
            λ Q h. tt;
      })
      past hold tells evidence
      (λ names known speaks d k.
      ap (λ (o : Option Eui). both_hold o second key d k) own
      ∙ (ap (λ (o : Option Eui). both_hold (eui_of_node who.node) o key d k) other
      ∙ (ap (λ (b : Bool). (b && bytes_eq k key.0)
      || (is_node (partner_of who.is_centre partner) d && bytes_eq k key.0))
      (own_is known who.node node.bytes d speaks.eui)
      ∙ (ap (λ (b : Bool). (is_of known d node.bytes && bytes_eq k key.0) || (b && bytes_eq k key.0))
      (centre_is known who.is_centre node.bytes partner d speaks.centre)
      ∙ (split_or (is_of known d node.bytes) (is_centres known node.bytes && nat_eq partner.0 d) (bytes_eq k key.0)
      ∙ (ap (λ (b : Bool). b && bytes_eq k key.0)
      (turned_or (is_centres known node.bytes && nat_eq partner.0 d) (is_of known d node.bytes))
      ∙ sym (holds_where (is_of known d node.bytes || (is_centres known node.bytes && nat_eq partner.0 d)) key.0
      k)))))))

  pub pair_judges : (event : ℕ) (node : ArrayString) (one two : Eui) → first ≡ Some one → second ≡ Some two
      → Judges old new number (line.Pair event node one two key) who stays
  unfolding refuses_line
  pair_judges event node one two is_one is_two =
      holding_judges old new number (line.Pair event node one two key) who stays (both_hold first second key)
      (record {
        plain = record { admits = λ d. refl; refused = λ ts d a b. refl };
        unsealed = record { terms = refl; forged = refl; sealed = λ d known. refl };
        undrawn = refl;
        no_removal =
            λ Q h. tt;
      })
      past hold tells evidence
      (λ names known speaks d k.
      ap (λ (o : Option Eui). both_hold o second key d k) is_one
      ∙ (ap (λ (o : Option Eui). both_hold (Some one) o key d k) is_two
      ∙ (ap (λ (b : Bool). (b && bytes_eq k key.0) || (nat_eq d two.0 && bytes_eq k key.0)) (turned_number d one.0)
      ∙ (ap (λ (b : Bool). (nat_eq one.0 d && bytes_eq k key.0) || (b && bytes_eq k key.0)) (turned_number d two.0)
      ∙ (split_or (nat_eq one.0 d) (nat_eq two.0 d) (bytes_eq k key.0)
      ∙ (ap (λ (b : Bool). b && bytes_eq k key.0) (turned_or (nat_eq two.0 d) (nat_eq one.0 d)) ∙ sym
      (holds_where (nat_eq one.0 d || nat_eq two.0 d) key.0 k)))))))

-- The other lines

pub draw_judges : (old new : Lockout) (number event : ℕ) (key : Key) (who : Who) (stays : Bool) → new.past ≡ old.past
    → Draws old.reach new.reach key → Tells old.reach new.reach stays
    → new.evidence ≡ old.evidence → Judges old new number (line.Draw event key) who stays
draw_judges old new number event key who stays past one tells evidence = record {
  past = past;
  judged = λ tools names h find number_is speaks ready. drawn_judged tools names old new h event key stays ready one
      tells evidence;
}

pub remove_judges : (old new : Lockout) (number event : ℕ) (device : Eui) (who : Who) (stays : Bool) → stays ≡ true
    → new.past ≡ old.past → Removes old.reach new.reach device.0 number → new.evidence ≡ old.evidence
    → Judges old new number (line.Removed event device) who stays
remove_judges old new number event device who stays stay past removes evidence = record {
  past = past;
  judged = λ tools names h find number_is speaks ready.
      subst (λ (b : Bool). IsJudged tools new h (line.Removed event device) b) (sym stay)
      (gone_judged tools names old new h event device number ready removes number_is evidence);
}

pub admit_judges : (old new : Lockout) (number event : ℕ) (device : Eui) (who : Who) (stays : Bool) → stays ≡ true
    → new.past ≡ old.past → Admits old.reach new.reach device.0 → new.evidence ≡ old.evidence
    → Judges old new number (line.Live event device) who stays
admit_judges old new number event device who stays stay past admitted evidence = record {
  past = past;
  judged = λ tools names h find number_is speaks ready.
      subst (λ (b : Bool). IsJudged tools new h (line.Live event device) b) (sym stay)
      (live_judged tools names old new h event device ready admitted evidence);
}

pub seal_judges : (old new : Lockout) (number event : ℕ) (node : ArrayString) (t : program.Term) (who : Who)
    (stays : Bool) → new.past ≡ old.past → CarriesSome old.reach new.reach t.base (carried t)
    → Tells old.reach new.reach stays → Seals old.reach old.evidence new.evidence (eui_of_node who.node) t
    → Judges old new number (line.Seal event node t) who stays
unfolding refuses_line
seal_judges old new number event node t who stays past carries tells seals = record {
  past = past;
  judged = λ tools names h find number_is speaks ready.
      term_judged tools names old new h (line.Seal event node t) t stays find ready refl tells
      (seal_evidence tools names old.reach old.evidence new.evidence h event node t who ready.reach ready.evidence
      speaks seals) (record { admits = λ d. refl; refused = λ ts d a b. refl }) (λ Q. tt) refl (λ d known. refl)
      (carried t) refl carries;
}

pub forge_judges : (old new : Lockout) (number event : ℕ) (t : program.Term) (who : Who) (stays : Bool) → new.past
    ≡ old.past → CarriesSome old.reach new.reach t.base (carried t)
    → Tells old.reach new.reach stays → Forges old.evidence new.evidence t
    → Judges old new number (line.Forge event t) who stays
unfolding refuses_line
forge_judges old new number event t who stays past carries tells forges = record {
  past = past;
  judged = λ tools names h find number_is speaks ready.
      term_judged tools names old new h (line.Forge event t) t stays find ready refl tells
      (forge_evidence tools old.reach old.evidence new.evidence h event t ready.reach ready.evidence forges)
      (record { admits = λ d. refl; refused = λ ts d a b. refl }) (λ Q. tt) refl (λ d known. refl)
      (carried t) refl carries;
}

pub accept_judges : (old new : Lockout) (number event : ℕ) (node : ArrayString) (t : program.Term) (who : Who)
    (stays : Bool) → stays ≡ accepts old who.place t
    → new.past ≡ old.past → new.reach ≡ old.reach → Forgets old.reach.windows old.evidence new.evidence
    → Judges old new number (line.Accept event node t) who stays
unfolding naming.speaker
accept_judges old new number event node t who stays is past reach forgets = record {
  past = past;
  judged = λ tools names h find number_is speaks ready.
      let it : IsJudged tools old h (line.Accept event node t) stays =
      subst (λ (b : Bool). IsJudged tools old h (line.Accept event node t) b) (sym is)
      (accept_judged tools names old h event node t who ready speaks.place) in record {
        reach = subst (λ (r : Reach). IsReach tools r (h ++ line.Accept event node t ∷ [])) (sym reach) it.reach;
        evidence = evidence_kept tools old.reach old.evidence new.evidence (h ++ line.Accept event node t ∷ [])
            it.reach it.evidence forgets;
        safe = λ stay. subst IsSafe (sym reach) (it.safe stay);
        holds = it.holds;
        fails = it.fails;
      };
}

pub quiet_judges : (s : Lockout) (number : ℕ) (l : Line) (who : Who) → IsQuiet l → Judges s s number l who true
quiet_judges s number l who quiet = record {
  past = refl;
  judged = λ tools names h find number_is speaks ready. quiet_judged tools names s h l ready quiet;
}

-- A line that has no effect.
pub quiet_line : (l : Line)
    → ((x0 : ArrayString) (x1 : Key) (x2 : ℕ) → l ≡ line.GivenNet x0 x1 x2 → ⊥)
    → ((x0 : ArrayString) (x1 : Eui) (x2 : Key) → l ≡ line.GivenLink x0 x1 x2 → ⊥)
    → ((x0 : ℕ) (x1 : ArrayString) (x2 : Key) (x3 : ℕ) → l ≡ line.Install x0 x1 x2 x3 → ⊥)
    → ((x0 : ℕ) (x1 : ArrayString) (x2 : Eui) (x3 : Key) (x4 : Attribute) → l ≡ line.Row x0 x1 x2 x3 x4 → ⊥)
    → ((x0 : ℕ) (x1 : ArrayString) (x2 : Eui) (x3 : Eui) (x4 : Key) → l ≡ line.Pair x0 x1 x2 x3 x4 → ⊥)
    → ((x0 : ℕ) (x1 : Key) → l ≡ line.Draw x0 x1 → ⊥)
    → ((x0 : ℕ) (x1 : Eui) → l ≡ line.Removed x0 x1 → ⊥)
    → ((x0 : ℕ) (x1 : Eui) → l ≡ line.Live x0 x1 → ⊥)
    → ((x0 : ℕ) (x1 : ArrayString) (x2 : program.Term) → l ≡ line.Seal x0 x1 x2 → ⊥)
    → ((x0 : ℕ) (x1 : program.Term) → l ≡ line.Forge x0 x1 → ⊥)
    → ((x0 : ℕ) (x1 : ArrayString) (x2 : program.Term) → l ≡ line.Accept x0 x1 x2 → ⊥)
    → IsQuiet l
unfolding refuses_line
quiet_line (line.GivenNet x0 x1 x2) a b c d e f g h i j k = absurd (a x0 x1 x2 refl)
quiet_line (line.GivenLink x0 x1 x2) a b c d e f g h i j k = absurd (b x0 x1 x2 refl)
quiet_line (line.Install x0 x1 x2 x3) a b c d e f g h i j k = absurd (c x0 x1 x2 x3 refl)
quiet_line (line.Row x0 x1 x2 x3 x4) a b c d e f g h i j k = absurd (d x0 x1 x2 x3 x4 refl)
quiet_line (line.Pair x0 x1 x2 x3 x4) a b c d e f g h i j k = absurd (e x0 x1 x2 x3 x4 refl)
quiet_line (line.Draw x0 x1) a b c d e f g h i j k = absurd (f x0 x1 refl)
quiet_line (line.Removed x0 x1) a b c d e f g h i j k = absurd (g x0 x1 refl)
quiet_line (line.Live x0 x1) a b c d e f g h i j k = absurd (h x0 x1 refl)
quiet_line (line.Seal x0 x1 x2) a b c d e f g h i j k = absurd (i x0 x1 x2 refl)
quiet_line (line.Forge x0 x1) a b c d e f g h i j k = absurd (j x0 x1 refl)
quiet_line (line.Accept x0 x1 x2) a b c d e f g h i j k = absurd (k x0 x1 x2 refl)
quiet_line _ a b c d e f g h i j k = record {
  plain = record { admits = λ d. refl; refused = λ ts d a b. refl };
  unsealed = record { terms = refl; forged = refl; sealed = λ d known. refl };
  undrawn = refl;
  unheld = λ d known. refl;
  no_removal = λ Q h. tt;
}

-- From line to line

module _ (tools : Tools) (names : List Bytes) (old mid new : Lockout) (h : List Line) (l : Line) (number : ℕ)
    (who : Who) (stays : Bool) (find : FindKeys tools) (number_is : number ≡ length h + 1)
    (speaks : IsSpeaker who names (declared_in h) l) (reach : mid.reach ≡ old.reach)
    (evidence : mid.evidence ≡ old.evidence) (past : IsPast tools names mid.past (h ++ l ∷ []))
    (judges : Judges mid new number l who stays) where
  pub held_on : IsHeld tools names old h → (locked tools (h ++ l ∷ []) ≡ stays)
      × (stays ≡ true → IsHeld tools names new (h ++ l ∷ []))
  held_on held =
      let ready : IsReady tools names mid h l = record {
        past = past;
        reach = subst (λ (r : Reach). IsReach tools r h) (sym reach) held.reach;
        evidence = subst (λ (e : Evidence). IsEvidence e h) (sym evidence) held.evidence;
        safe = subst (λ (r : Reach). IsSafe r) (sym reach) held.safe;
      } in
      let it = judges.judged tools names h find number_is speaks ready in
      let now = locked_more tools h l stays held.locked it.holds it.fails in (
        now,
        λ stay. record {
          past = subst (λ (p : Past). IsPast tools names p (h ++ l ∷ [])) (sym judges.past) past;
          reach = it.reach;
          evidence = it.evidence;
          safe = it.safe stay;
          locked = now ∙ stay;
        },
      )

pub go_on_stands : (tools : Tools) (names : List Bytes) (old new last : Lockout) (h : List Line) (l : Line)
    (number : ℕ) (stays : Bool) → number ≡ length h + 1 → old.first ≡ None → Stands tools names old h
    → (IsHeld tools names old h → (locked tools (h ++ l ∷ []) ≡ stays)
    × (stays ≡ true → IsHeld tools names new (h ++ l ∷ [])))
    → last.past ≡ new.past → last.reach ≡ new.reach → last.evidence ≡ new.evidence → last.first
    ≡ (if stays then None else Some number) → Stands tools names last (h ++ l ∷ [])
go_on_stands tools names old new last h l number stays number_is none stands on past reach evidence first =
    let it = on (stands.held none) in record {
      first =
          first ∙
          (answered stays ∙ sym
          (first_more tools h l ∙
          (ap (λ (o : Option ℕ). option_or o (if locked tools (h ++ l ∷ []) then None else Some (length h + 1)))
          (sym stands.first ∙ none) ∙ ap (λ (b : Bool). if b then None else Some (length h + 1)) it.0)));
      held = λ none_left. by stays none_left it.1 first;
    }
  where
    answered : (b : Bool) → (if b then None else Some number) ≡ (if b then None else Some (length h + 1))
    answered true = refl
    answered false = ap (λ (n : ℕ). Some n) number_is

    gone : ◌≡◌ {A = Option ℕ} None (Some number) → ⊥
    gone e = cc

    by : (b : Bool) → last.first ≡ None → (b ≡ true → IsHeld tools names new (h ++ l ∷ [])) → last.first
        ≡ (if b then None else Some number) → IsHeld tools names last (h ++ l ∷ [])
    by true none_left held first_is =
        let was = held refl in record {
          past = subst (λ (p : Past). IsPast tools names p (h ++ l ∷ [])) (sym past) was.past;
          reach = subst (λ (r : Reach). IsReach tools r (h ++ l ∷ [])) (sym reach) was.reach;
          evidence = subst (λ (e : Evidence). IsEvidence e (h ++ l ∷ [])) (sym evidence) was.evidence;
          safe = subst (λ (r : Reach). IsSafe r) (sym reach) was.safe;
          locked = was.locked;
        }
    by false none_left held first_is = absurd (gone (sym none_left ∙ first_is))

-- After lockout failed.
pub failed_stands : (tools : Tools) (names : List Bytes) (s : Lockout) (h : List Line) (l : Line) (n : ℕ) → s.first
    ≡ Some n → Stands tools names s h → Stands tools names s (h ++ l ∷ [])
failed_stands tools names s h l n is stands = record {
  first =
      is ∙ sym
      (first_more tools h l ∙ ap
      (λ (o : Option ℕ). option_or o (if locked tools (h ++ l ∷ []) then None else Some (length h + 1)))
      (sym stands.first ∙ is));
  held = λ none. absurd (gone (sym none ∙ is));
}
  where
    gone : ◌≡◌ {A = Option ℕ} None (Some n) → ⊥
    gone e = cc
