-- What a sink takes of a page, whether that is read or not, and runs that differ in their pages.
use Rattle.std.proofs.Common.{◌≡◌, List, ℕ, ◌++◌, map, Option, Some, None, ap, subst, sym, ◌∙◌, refl}
use Rattle.std.specs.Io.KnownBytes.{Appends, append_known}
use Rattle.zb_base.specs.Outside.{AppendsFront}
use Rattle.zb_disk.specs.Memory.{Medium}
use Rattle.zb_model.specs.Data.{Bytes}
use Rattle.zb_model.specs.Lines.{Line}
use Rattle.zb_model.specs.Play.{Disk}
use Rattle.law_schedules.specs.Schedules.{schedule_of}
use Rattle.law_run_steps.specs.Conditions.{Condition, condition_of}
use Rattle.zb_player.specs.Playing.{RunIn, RunStands}
use Rattle.zb_player.specs.declared.run.Run.{Run}
use Rattle.zb_sched.specs.Schedules as sched
use Rattle.zb_player_scribe.specs.Pages.{cleared, IsClear, IsFor, Takes, TakesFront}

-- a text that was printed on a clear page and handed out
handed_out : (page : Option Bytes) (text : Bytes) (before after : Option Bytes) → IsClear page → IsFor page before
    → Takes (append_known page text) before after → Appends before after text
handed_out None text before after clear fit took = subst (λ (b : Option Bytes). Appends b after text) (sym fit) tt
handed_out (Some blank) text before after clear fit took =
    subst (Appends before after) (ap (λ (l : Bytes). l ++ text) clear) took

pub handed : (page shown : Option Bytes) (text : Bytes) (before after : Option Bytes) → shown ≡ append_known page text
    → IsClear page → IsFor page before → Takes shown before after
    → Appends before after text
handed page shown text before after is clear fit took = handed_out page text before after clear fit
    (subst (λ (s : Option Bytes). Takes s before after) is took)

-- one whose sink failed
front_out : (page : Option Bytes) (text : Bytes) (before after : Option Bytes) → IsClear page
    → TakesFront (append_known page text) before after → AppendsFront before after text
front_out None text before after clear took = absurd took
front_out (Some blank) text before after clear took =
    subst (AppendsFront before after) (ap (λ (l : Bytes). l ++ text) clear) took

pub handed_front : (page shown : Option Bytes) (text : Bytes) (before after : Option Bytes) → shown
    ≡ append_known page text → IsClear page → TakesFront shown before after
    → AppendsFront before after text
handed_front page shown text before after is clear took =
    front_out page text before after clear (subst (λ (s : Option Bytes). TakesFront s before after) is took)

-- A page is for the same sink once it is handed out.
for_cleared : (page : Option Bytes) (text : Bytes) (before after : Option Bytes) → IsFor page before
    → Takes (append_known page text) before after
    → IsFor (cleared (append_known page text)) after
for_cleared None text before after fit took = took ∙ fit
for_cleared (Some blank) text before after fit took = tt

pub still_for : (page shown blank : Option Bytes) (text : Bytes) (before after : Option Bytes) → shown
    ≡ append_known page text → blank ≡ cleared shown → IsFor page before
    → Takes shown before after → IsFor blank after
still_for page shown blank text before after is empty fit took =
    subst (λ (b : Option Bytes). IsFor b after) (sym (empty ∙ ap cleared is))
    (for_cleared page text before after fit (subst (λ (s : Option Bytes). Takes s before after) is took))

pub is_clear : (page : Option Bytes) → IsClear (cleared page)
is_clear None = tt
is_clear (Some text) = refl

pub clear_of : (page blank : Option Bytes) → blank ≡ cleared page → IsClear blank
clear_of page blank is = subst IsClear (sym is) (is_clear page)

-- The runs are the same but for what is on the page.
pub record IsSameRun (one other : Run) : Type 0 where
  pub nodes : other.nodes ≡ one.nodes
  pub seats : other.seats ≡ one.seats
  pub draws : other.draws.now ≡ one.draws.now
  pub scribe : other.ledger.transcript.scribe ≡ one.ledger.transcript.scribe

pub paged_in : (p : sched.Schedule) (h : List Line) (xs : ℕ → Condition) (latest : ℕ) (one other : Run)
    (disks : List Medium) → IsSameRun one other → RunIn p h xs latest one disks → RunIn p h xs latest other disks
paged_in p h xs latest one other disks same stands = record {
  told = record {
    known = stands.told.known;
    kept = subst (λ k. Rattle.zb_player_scribe.specs.Kept.Kept h k) (sym same.scribe) stands.told.kept;
  };
  settings = stands.settings;
  nodes =
      subst (λ v. Rattle.zb_player_events.specs.Nodes.AllIn xs latest
      (Rattle.zb_model.specs.Play.stations (schedule_of p)) v.items disks) (sym same.nodes) stands.nodes;
  seats =
      subst (λ v. Rattle.zb_player_events.specs.Seats.AreSeats v
      (Rattle.zb_model.specs.Play.stations (schedule_of p))) (sym same.seats) stands.seats;
  draws = ap (map (λ (k : Rattle.zb_base.specs.declared.key.Key.Key). k.0)) same.draws ∙ stands.draws;
}

pub paged : (p : sched.Schedule) (h : List Line) (ds : List Disk) (number : ℕ) (one other : Run) (disks : List Medium)
    → IsSameRun one other
    → RunStands p h ds number one disks → RunStands p h ds number other disks
paged p h ds number one other disks same stands =
    paged_in p h (condition_of (schedule_of p) h ds) number one other disks same stands
