-- Each image that a run of `admin` leaves, over a store, is that of a run of some first commands of its script.
use Rattle.std.proofs.Common.{◌≡◌, inl, inr, ℕ, Bool, true, false, if◌then◌else◌, List, [], Option, Some, None, Result, Ok, Err, sym, ap, ◌∙◌, subst}
use Rattle.std.specs.List.{concat}
use Rattle.law_sessions.specs.Leaving.{AreKeptAlong, IsOfRun, IsOnly}
use Rattle.law_sessions.specs.Runs.{AreRuns, KeepsTables}
use Rattle.law_sessions.specs.Sessions.{AreKept}
use Rattle.law_sessions.proofs.Lefts.{found_whole}
use Rattle.zb_admin.specs.Moments.{standing_after}
use Rattle.zb_admin.specs.Moments as admin
use Rattle.zb_centre_store.specs.Outside.{Outside}
use Rattle.zb_centre_store.specs.Standing.{StandsAs, found_on, found_store, found_tables}
use Rattle.zb_centre_store.specs.declared.fault.AdminFault.{AdminFault}
use Rattle.zb_centre_store.specs.declared.fault.AdminFault.TheVariants.{BadStore}
use Rattle.zb_host.specs.Plans.{gives, bad}
use Rattle.zb_model.specs.Data.{Centre}
use Rattle.zb_model.specs.Record.{record_of}
use Rattle.zb_model.specs.State.{NodeState}
use Rattle.zb_record.specs.Ranges.{fits_widths}
use Rattle.zb_script.specs.Scripts.{IsScript}
use Rattle.zb_script.specs.declared.script.Script.{Script}
use Rattle.zb_setting.specs.Settings.{setting_for}
use Rattle.zb_store.specs.Layout.{Standing}
use Rattle.zb_stored_tables.specs.Stored.{recorded, restored, state_given}

-- what is found as these tables gives their record
found_gives : (z : Standing) (s : NodeState) → found_store (Some z) ≡ Ok (Some s)
    → restored Centre z.content (concat z.payloads) ≡ gives (record_of s)
unfolding restored
found_gives z s e = by_state (state_given Centre z.content (concat z.payloads)) e
  where
    by_widths : (t : NodeState) (b : Bool)
        → ◌≡◌ {A = Result (Option NodeState) AdminFault} (if b then Ok (Some t) else Err (BadStore 0)) (Ok (Some s))
        → (if b then gives (record_of t) else bad 0) ≡ gives (record_of s)
    by_widths t true same = let is : t ≡ s = cc same in ap (λ (u : NodeState). gives (record_of u)) is
    by_widths t false same = absurd (cc)

    by_state : (r : Result NodeState ℕ) → found_tables r ≡ Ok (Some s) → recorded r ≡ gives (record_of s)
    by_state (Ok t) same = by_widths t (fits_widths t) same
    by_state (Err at) same = absurd (cc)

keeps : (o : Option NodeState) (left : List ℕ) → AreKept o → StandsAs o left → KeepsTables o left
keeps None left kept holds = holds
keeps (Some s) left kept holds = (kept, holds)

no_store : {A : Type 0} (s : NodeState) → ◌≡◌ {A = Result (Option NodeState) AdminFault} (Ok None) (Ok (Some s)) → A
no_store s e = absurd (cc)

found_empty : (bytes : List ℕ) → bytes ≡ [] → found_on bytes ≡ Ok None
unfolding found_on
found_empty bytes none = ap found_on none

module _ {D W : Type 0} (x : Outside D W) (script : Script) (is_script : IsScript script) (old : D)
    (image : List ℕ) (only : IsOnly image (x.state old)) (s : NodeState) (found : found_on image ≡ Ok (Some s))
    (kept : AreKeptAlong script s) where
  of_first : (n : ℕ) (left : List ℕ) → StandsAs (standing_after (setting_for script.config) script.steps (Some s) n)
      left
      → IsOfRun image script left
  of_first n left holds = record {
    stored = n;
    is_run = (
      is_script,
      subst
          (λ f. Rattle.law_sessions.specs.Runs.IsLeft (record { script = script; stored = n; left = left }) f)
          (sym found)
          (keeps (standing_after (setting_for script.config) script.steps (Some s) n) left (kept n) holds),
      tt,
    );
  }

  pub of_run : (left : List ℕ)
      → admin.IsOfRun x (setting_for script.config) script.steps (Some s) old left → IsOfRun image script left
  of_run left (inl (inl (none, empty))) =
      no_store s (sym (found_empty image (sym only.seen ∙ none)) ∙ found)
  of_run left (inl (inr (z, is, (other, there, whole)))) =
      of_first 0 left
      (z, is, found_gives z s (sym (found_whole other z whole) ∙ ap found_on (only.only other there) ∙ found))
  of_run left (inr (n, holds)) = of_first n left holds
