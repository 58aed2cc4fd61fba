-- The loop over the commands: what is served so far, and how one command more goes on.
use Rattle.std.proofs.Common.{◌≡◌, ℕ, ◌≤◌, ◌<◌, ◌+◌, inl, inr, List, [], ◌++◌, drop, get_or, length, Option, Some, Result, Ok, Err, IfErr, OnOk, OnErr, IsTrue, refl, sym, ap, ◌∙◌, subst, arith}
use Rattle.std.proofs.KnownBytes.{Appends-nil}
use Rattle.std.proofs.lemmas.List.{drop_all, drop_more}
use Rattle.std.specs.Io.KnownBytes.{Appends}
use Rattle.zb_centre_store.specs.Calls.{IsJudged, IsJudgeFault, WasThereOrEmpty, tables_in}
use Rattle.zb_admin.specs.Commands.{IsCarriedOut, IsCommandFault, lays_out}
use Rattle.zb_admin.specs.Following.{WritesAll, WritesFront, WritesWorn}
use Rattle.zb_admin.specs.Served.{HasChanges, done}
use Rattle.zb_admin.specs.Moments.{IsRun}
use Rattle.zb_centre_store.specs.Outside.{Outside}
use Rattle.zb_admin.specs.Serving.{Ended, HasServed, IsAdminFault, IsServiceFault, IsStored, Runs, Serves}
use Rattle.zb_centre_store.specs.Standing.{CanBeServed, Stands, found_on}
use Rattle.zb_centre_store.specs.declared.fault.AdminFault.{AdminFault}
use Rattle.zb_centre_store.specs.declared.fault.AdminFault.TheVariants.{Disk, NoStore, BadStore, Worn, Write, NoMemory}
use Rattle.zb_centre_store.proofs.StoreLemmas.{images_stand, same_fault}
use Rattle.zb_admin.proofs.FollowLemmas.{none_told}
use Rattle.zb_admin.proofs.MomentLemmas.{all_of_run, script_goes}
use Rattle.zb_admin.proofs.RunLemmas.{run_front, run_last, run_whole, run_worn}
use Rattle.zb_base.specs.Outside.{AppendsFront, Rose, Unrisen}
use Rattle.zb_disk.specs.View.{LeavesOnly, View}
use Rattle.zb_host.specs.Hosts.{Hosted}
use Rattle.zb_model.specs.Rules.{Setting}
use Rattle.zb_model.specs.State.{NodeState}
use Rattle.zb_setting.specs.Settings.{setting_for}
use Rattle.zb_script.specs.declared.script.Script.{Script}
use Rattle.zb_script.specs.declared.script.Step.{Step}
use Rattle.zb_stored_tables.specs.Cores.{CoreValue}
use Rattle.zb_text.specs.Pages.{page}

-- The commands from a place on lead, from here, to what all commands lead to from the beginning.
pub record GoesOn {D W : Type 0} (x : Outside D W) (c : Setting) (steps : List Step) (first : Option NodeState)
    (disk0 : D) (out0 : W) (i : ℕ) (centre : Option (Hosted CoreValue)) (disk : D) (out : W) : Type 0 where
  pub standing : Option NodeState
  pub stood : Stands c standing centre (x.state disk)
  pub leads : (result : Ended) (new : D) (after : W) → Runs x c (drop i steps) standing disk out result new after
      → Runs x c steps first disk0 out0 result new after

pub begins : {D W : Type 0} (x : Outside D W) (c : Setting) (steps : List Step) (first : Option NodeState) (disk : D)
    (out : W) (centre : Option (Hosted CoreValue)) → Stands c first centre (x.state disk)
    → GoesOn x c steps first disk out 0 centre disk out
begins x c steps first disk out centre stood =
    record { standing = first; stood = stood; leads = λ result new after runs. runs }

module _ {D W : Type 0} (x : Outside D W) (c : Setting) (steps : List Step) (first : Option NodeState) (disk0 : D)
    (out0 : W) (i : ℕ) (d : Step) (lt : i < length steps) (centre : Option (Hosted CoreValue)) (disk : D) (out : W)
    (now : GoesOn x c steps first disk0 out0 i centre disk out) where
  abbrev pub step : Step
  step = get_or steps i d

  -- a command that was carried out, and whose lines were written
  pub one_more : (next : Option (Hosted CoreValue)) (disk1 : D) (out1 : W)
      → IsStored c step now.standing (x.state disk) (x.state disk1) → Stands c (done c step now.standing).after next
      (x.state disk1)
      → Appends (x.taken out) (x.taken out1) (page (done c step now.standing).lines)
      → GoesOn x c steps first disk0 out0 (i + 1) next disk1 out1
  one_more next disk1 out1 stored stood lines = record {
    standing = (done c step now.standing).after;
    stood = stood;
    leads = λ result new after runs. now.leads result new after
        (subst (λ (ss : List Step). Runs x c ss now.standing disk out result new after) (sym (drop_more steps i d lt))
        (inr (disk1, out1, stored, lines, runs)));
  }

pub all_served : {D W : Type 0} (x : Outside D W) (c : Setting) (steps : List Step) (first : Option NodeState)
    (disk0 : D) (out0 : W) (i : ℕ) (centre : Option (Hosted CoreValue)) (disk : D) (out : W) → length steps ≤ i
    → GoesOn x c steps first disk0 out0 i centre disk out
    → Runs x c steps first disk0 out0 (Ok tt) disk out
all_served x c steps first disk0 out0 i centre disk out long now = now.leads (Ok tt) disk out
    (subst (λ (ss : List Step). Runs x c ss now.standing disk out (Ok tt) disk out) (sym (drop_all i steps long))
    (refl, refl, refl))

-- ---- one command

stored_by : (c : Setting) (step : Step) (b : Option NodeState) (centre : Option (Hosted CoreValue)) (old new : View)
    (front text : List ℕ) → IsCarriedOut c (lays_out step.order b) b (done c step b) old front (Ok tt) centre new text
    → IsStored c step b old new
stored_by c step b centre old new front text h =
    record { between = h.between; after = images_stand c (done c step b).after centre new h.after; spared = h.spared }

lines_by : (c : Setting) (step : Step) (b : Option NodeState) (centre : Option (Hosted CoreValue)) (old new : View)
    (front text : List ℕ) → front ≡ [] → IsCarriedOut c (lays_out step.order b) b (done c step b) old front (Ok tt)
    centre new text → text ≡ page (done c step b).lines
lines_by c step b centre old new front text none h = h.lines ∙ ap (λ l. l ++ page (done c step b).lines) none

module _ {D W : Type 0} (x : Outside D W) (c : Setting) (step : Step) (b : Option NodeState) (old disk : D)
    (before after : W) (centre : Option (Hosted CoreValue)) (front text : List ℕ) where
  pub step_cut : (f : AdminFault) → IsCarriedOut c (lays_out step.order b) b (done c step b) (x.state old) front
      (Err f) centre (x.state disk) text → (f ≡ Worn → HasChanges c step b)
      → HasServed x c step b old before (Err f) centre disk before
  step_cut f h worn = record { stored = tt; stands_so = tt; lines = tt; cut = inl (h.between, refl, worn) }

  pub step_written : (r : Ended) → front ≡ [] → IsCarriedOut c (lays_out step.order b) b (done c step b) (x.state old)
      front (Ok tt) centre (x.state disk) text
      → OnOk r (Appends (x.taken before) (x.taken after) text)
      → OnErr r (AppendsFront (x.taken before) (x.taken after) text)
      → IfErr r (λ f. (f ≡ Write) × Rose (x.faults before) (x.faults after))
      → HasServed x c step b old before r centre disk after
  step_written (Ok tt) none h written cut fault = record {
    stored = stored_by c step b centre (x.state old) (x.state disk) front text h;
    stands_so = h.after;
    lines = subst (Appends (x.taken before) (x.taken after))
        (lines_by c step b centre (x.state old) (x.state disk) front text none h) written;
    cut = tt;
  }
  step_written (Err f) none h whole written fault = record {
    stored = tt;
    stands_so = tt;
    lines = tt;
    cut = inr (
      stored_by c step b centre (x.state old) (x.state disk) front text h,
      subst (AppendsFront (x.taken before) (x.taken after))
          (lines_by c step b centre (x.state old) (x.state disk) front text none h) written,
      fault.0,
    );
  }

-- the output failed after a command: it isn't worn
pub written_worn : (P : Type 0) (r : Ended) (old new : ℕ) → IfErr r (λ f. (f ≡ Write) × Rose old new)
    → IfErr r (λ f. f ≡ Worn → P)
written_worn P (Ok tt) old new h = tt
written_worn P (Err f) old new h = λ is. let none : Write ≡ Worn = sym h.0 ∙ is in absurd (cc)

pub write_fault : {D W : Type 0} (x : Outside D W) (c : Setting) (centre : Option (Hosted CoreValue)) (old new : D)
    (before after : W) (r : Ended) → IfErr r (λ f. (f ≡ Write) × Rose (x.faults before) (x.faults after))
    → Unrisen (x.state old).faults (x.state new).faults → IfErr r (IsServiceFault x c centre old before new after)
write_fault x c centre old new before after (Ok tt) h same = tt
write_fault x c centre old new before after (Err f) h same = subst (IsServiceFault x c centre old before new after)
    (sym h.0) (h.1, same)

pub command_fault : {D W : Type 0} (x : Outside D W) (c : Setting) (centre : Option (Hosted CoreValue)) (old new : D)
    (before after : W) (f : AdminFault) → IsCommandFault x.tells (x.state old) centre (x.state new) f
    → IsServiceFault x c centre old before new after f
command_fault x c centre old new before after Disk h = h
command_fault x c centre old new before after NoStore h = h
command_fault x c centre old new before after (BadStore at) h = h
command_fault x c centre old new before after Worn h = λ told b stood. h told c b stood
command_fault x c centre old new before after Write h = absurd h
command_fault x c centre old new before after NoMemory h = h

-- ---- the commands

module _ {D W : Type 0} (x : Outside D W) (c : Setting) (steps : List Step) (first : Option NodeState) (disk0 : D)
    (out0 : W) (i : ℕ) (step : Step) (lt : i < length steps) (is : step ≡ get_or steps i step)
    (centre : Option (Hosted CoreValue)) (disk : D) (out : W)
    (now : GoesOn x c steps first disk0 out0 i centre disk out) where
  pub step_more : (next : Option (Hosted CoreValue)) (disk1 : D) (out1 : W)
      → ((b : Option NodeState) → Stands c b centre (x.state disk) → HasServed x c step b disk out (Ok tt) next disk1
      out1) → GoesOn x c steps first disk0 out0 (i + 1) next disk1 out1
  step_more next disk1 out1 each =
      let h = subst (λ (s : Step). HasServed x c s now.standing disk out (Ok tt) next disk1 out1) is
      (each now.standing now.stood) in
      one_more x c steps first disk0 out0 i step lt centre disk out now next disk1 out1 h.stored h.stands_so h.lines

  pub step_ends : (f : AdminFault) (next : Option (Hosted CoreValue)) (disk1 : D) (out1 : W)
      → ((b : Option NodeState) → Stands c b centre (x.state disk) → HasServed x c step b disk out (Err f) next disk1
      out1) → Runs x c steps first disk0 out0 (Err f) disk1 out1
  step_ends f next disk1 out1 each =
      let h = subst (λ (s : Step). HasServed x c s now.standing disk out (Err f) next disk1 out1) is
      (each now.standing now.stood) in
      now.leads (Err f) disk1 out1
      (subst (λ (ss : List Step). Runs x c ss now.standing disk out (Err f) disk1 out1)
      (sym (drop_more steps i step lt)) (inl (f, refl, h.cut)))

rose_later : (a b n : ℕ) → a ≤ b → Rose b n → Rose a n
rose_later a b n le rose = omega (arith, le, rose)

pub fault_later : {D W : Type 0} (x : Outside D W) (c : Setting) (centre next : Option (Hosted CoreValue))
    (old disk new : D) (before out after : W) (f : AdminFault)
    → Unrisen (x.state old).faults (x.state disk).faults → x.faults before ≤ x.faults out
    → (IsTrue x.tells.content → (b : Option NodeState) → Stands c b centre (x.state old) → (now : Option NodeState)
    × Stands c now next (x.state disk)) → IsServiceFault x c next disk out new after f
    → IsServiceFault x c centre old before new after f
fault_later x c centre next old disk new before out after Disk same more on h =
    rose_later (x.state old).faults (x.state disk).faults (x.state new).faults (omega (arith, same)) h
fault_later x c centre next old disk new before out after NoStore same more on h = h
fault_later x c centre next old disk new before out after (BadStore at) same more on h = h
fault_later x c centre next old disk new before out after Worn same more on h = λ told b stood. let s =
    on told b stood in h told s.0 s.1
fault_later x c centre next old disk new before out after Write same more on h =
    (rose_later (x.faults before) (x.faults out) (x.faults after) more h.0, h.1 ∙ same)
fault_later x c centre next old disk new before out after NoMemory same more on h = h ∙ same

-- ---- the script

module _ {D W : Type 0} (x : Outside D W) (script : Script) (old : D) (before : W) where
  abbrev c : Setting
  c = setting_for script.config

  judge_fault : (new : D) (f : AdminFault) → IsJudgeFault x.tells (x.state old) (x.state new) f
      → IsAdminFault x old before new before f
  judge_fault new Disk h = h
  judge_fault new NoStore h = λ told. (h told, refl)
  judge_fault new (BadStore at) h = λ told. (h told, refl)
  judge_fault new Worn h = absurd h
  judge_fault new Write h = absurd h
  judge_fault new NoMemory h = h

  unopened_run : (new : D) → LeavesOnly (x.state old) (x.state new) (WasThereOrEmpty (x.state old))
      → (standing : Option NodeState) → IsRun x c script.steps standing old before new before
  unopened_run new opening standing = record { opened = new; opening = opening; moments = []; goes = refl }

  pub not_opened : (new : D) (f : AdminFault) → IsJudged x.tells (setting_for script.config) (x.state old) (Err f)
      (x.state new) → Serves x script old before (Err f) new before
  not_opened new f h = record {
    found = tt;
    whole = tt;
    last = tt;
    front = λ told can standing is. (0, Appends-nil (x.taken before));
    run = λ told can standing is. inl ((f, refl), h.moments can told, refl);
    moments = λ told can standing is. unopened_run new (h.moments can told) standing;
    all = λ told can s is. all_of_run x c script.steps s before old new before
        (unopened_run new (h.moments can told) (Some s));
    told = tt;
    told_front = none_told c script.steps (x.taken before);
    faults = judge_fault new f h.faults;
    worn = λ is told can standing found. absurd (subst (IsJudgeFault x.tells (x.state old) (x.state new)) is h.faults);
    told_worn = λ is. absurd (subst (IsJudgeFault x.tells (x.state old) (x.state new)) is h.faults);
    unrisen = λ not. h.unrisen (same_fault f Disk not);
  }

  same_tables : (a b : Option NodeState) → ◌≡◌ {A = Result (Option NodeState) AdminFault} (Ok a) (Ok b) → a ≡ b
  same_tables a b same = cc

  begun : (centre : Option (Hosted CoreValue)) (disk : D)
      → IsJudged x.tells c (x.state old) (Ok centre) (x.state disk) → IsTrue x.tells.content
      → CanBeServed (x.state old) → (standing : Option NodeState) → found_on (x.state old).seen ≡ Ok standing
      → Stands c standing centre (x.state disk)
  begun centre disk judged told can standing is =
      subst (λ (b : Option NodeState). Stands c b centre (x.state disk))
      (same_tables (tables_in centre) standing (sym (judged.found told) ∙ is)) (judged.stands_so told can)

  service_fault : (centre : Option (Hosted CoreValue)) (disk new : D) (after : W) (f : AdminFault)
      → (x.state old).faults ≤ (x.state disk).faults → IsJudged x.tells c (x.state old) (Ok centre) (x.state disk)
      → IsServiceFault x c centre disk before new after f → IsAdminFault x old before new after f
  service_fault centre disk new after Disk count judged h = rose_later (x.state old).faults (x.state disk).faults
      (x.state new).faults count h
  service_fault centre disk new after NoStore count judged h = λ told. absurd (h told)
  service_fault centre disk new after (BadStore at) count judged h = λ told. absurd (h told)
  service_fault centre disk new after Worn count judged h =
      λ told. ((tables_in centre, judged.found told), λ can. h told (tables_in centre) (judged.stands_so told can))
  service_fault centre disk new after Write count judged h =
      (h.0, λ told. (tables_in centre, judged.found told), h.1 ∙ judged.unrisen (λ e. cc e))
  service_fault centre disk new after NoMemory count judged h = h ∙ judged.unrisen (λ e. cc e)

  moments_of : (disk new : D) (after : W) (result : Ended) (standing : Option NodeState)
      → LeavesOnly (x.state old) (x.state disk) (WasThereOrEmpty (x.state old))
      → Runs x c script.steps standing disk before result new after → IsRun x c script.steps standing old before new
      after
  moments_of disk new after result standing opening runs =
      let way = script_goes x c script.steps standing before disk result new after runs in
      record { opened = disk; opening = opening; moments = way.0; goes = way.1 }

  pub opened : (centre : Option (Hosted CoreValue)) (disk new : D) (after : W) (result : Ended)
      → IsJudged x.tells (setting_for script.config) (x.state old) (Ok centre) (x.state disk) → (x.state old).faults
      ≤ (x.state disk).faults
      → (IsTrue x.tells.content → (b : Option NodeState) → Stands (setting_for script.config) b centre (x.state disk)
      → Runs x (setting_for script.config) script.steps b disk before result new after)
      → IfErr result (IsServiceFault x (setting_for script.config) centre disk before new after)
      → OnOk result (WritesAll (setting_for script.config) script.steps (tables_in centre) (x.taken before)
      (x.taken after))
      → OnErr result (WritesFront (setting_for script.config) script.steps (tables_in centre) (x.taken before)
      (x.taken after))
      → IfErr result (λ f. f ≡ Worn → WritesWorn (setting_for script.config) script.steps (tables_in centre)
      (x.taken before) (x.taken after))
      → ((result ≡ Err Disk → ⊥) → Unrisen (x.state disk).faults (x.state new).faults)
      → Serves x script old before result new after
  opened centre disk new after (Ok tt) judged count runs faults told_all told_front told_worn unrisen = record {
    found = λ told. (tables_in centre, judged.found told);
    whole = λ told can standing is. run_whole x c script.steps standing disk before (Ok tt) new after refl
        (runs told standing (begun centre disk judged told can standing is));
    last = λ told can standing is.
        let stood = begun centre disk judged told can standing is in
        run_last x c script.steps standing disk before (Ok tt) new after refl
        (images_stand c standing centre (x.state disk) stood) (runs told standing stood);
    front = tt;
    run = λ told can standing is.
        let stood = begun centre disk judged told can standing is in
        inr (
          disk,
          judged.moments can told,
          images_stand c standing centre (x.state disk) stood,
          runs told standing stood,
        );
    moments = λ told can standing is. moments_of disk new after (Ok tt) standing (judged.moments can told)
        (runs told standing (begun centre disk judged told can standing is));
    all = λ told can s is. all_of_run x c script.steps s before old new after
        (moments_of disk new after (Ok tt) (Some s) (judged.moments can told)
        (runs told (Some s) (begun centre disk judged told can (Some s) is)));
    told = (tables_in centre, told_all);
    told_front = tt;
    faults = tt;
    worn = tt;
    told_worn = tt;
    unrisen = λ not. unrisen not ∙ judged.unrisen (λ e. cc e);
  }
  opened centre disk new after (Err f) judged count runs faults told_all told_front told_worn unrisen = record {
    found = tt;
    whole = tt;
    last = tt;
    front = λ told can standing is. run_front x c script.steps standing disk before (Err f) new after f refl
        (runs told standing (begun centre disk judged told can standing is));
    run = λ told can standing is.
        let stood = begun centre disk judged told can standing is in
        inr (
          disk,
          judged.moments can told,
          images_stand c standing centre (x.state disk) stood,
          runs told standing stood,
        );
    moments = λ told can standing is. moments_of disk new after (Err f) standing (judged.moments can told)
        (runs told standing (begun centre disk judged told can standing is));
    all = λ told can s is. all_of_run x c script.steps s before old new after
        (moments_of disk new after (Err f) (Some s) (judged.moments can told)
        (runs told (Some s) (begun centre disk judged told can (Some s) is)));
    told = tt;
    told_front = (tables_in centre, told_front);
    faults = service_fault centre disk new after f count judged faults;
    worn = λ is told can standing at. run_worn x c script.steps standing disk before (Err f) new after
        (ap (λ (g : AdminFault). Err g) is) (runs told standing (begun centre disk judged told can standing at));
    told_worn = λ is. (tables_in centre, told_worn is);
    unrisen = λ not. unrisen not ∙ judged.unrisen (λ e. cc e);
  }

  -- the same of a slice of the script's commands
  pub opened_over : (centre : Option (Hosted CoreValue)) (disk new : D) (after : W) (result : Ended)
      (steps : List Step) → steps ≡ script.steps → IsJudged x.tells (setting_for script.config) (x.state old)
      (Ok centre) (x.state disk)
      → (x.state old).faults ≤ (x.state disk).faults
      → (IsTrue x.tells.content → (b : Option NodeState) → Stands (setting_for script.config) b centre (x.state disk)
      → Runs x (setting_for script.config) steps b disk before result new after)
      → IfErr result (IsServiceFault x (setting_for script.config) centre disk before new after)
      → OnOk result (WritesAll (setting_for script.config) steps (tables_in centre) (x.taken before)
      (x.taken after))
      → OnErr result (WritesFront (setting_for script.config) steps (tables_in centre) (x.taken before)
      (x.taken after))
      → IfErr result (λ f. f ≡ Worn → WritesWorn (setting_for script.config) steps (tables_in centre)
      (x.taken before) (x.taken after))
      → ((result ≡ Err Disk → ⊥) → Unrisen (x.state disk).faults (x.state new).faults)
      → Serves x script old before result new after
  opened_over centre disk new after result steps same judged count runs faults told_all told_front told_worn unrisen =
      opened centre disk new after result judged count
      (λ told b stood. subst (λ (l : List Step). Runs x c l b disk before result new after) same
      (runs told b stood)) faults
      (subst (λ (l : List Step). OnOk result (WritesAll c l (tables_in centre) (x.taken before) (x.taken after))) same
      told_all)
      (subst (λ (l : List Step). OnErr result (WritesFront c l (tables_in centre) (x.taken before) (x.taken after)))
      same told_front)
      (subst (λ (l : List Step). IfErr result (λ f. f ≡ Worn → WritesWorn c l (tables_in centre) (x.taken before)
      (x.taken after))) same told_worn) unrisen
