use Rattle.std.proofs.Common.{◌∙◌, Some, ap, ◌++◌, refl}
use Rattle.zb_centre_store.specs.Events.{task_of}
use Rattle.zb_centre_store.specs.declared.fault.AdminFault.TheVariants.{Disk}
use Rattle.zb_centre_store.proofs.StoreLemmas.{same_fault}
use Rattle.zb_model.specs.Answer.{answer}
use Rattle.zb_model_real.specs.Real.{real}
use Rattle.zb_text.specs.Pages.{page}
use Rattle.zb_admin.proofs.CommandLemmas.{always, event_command, event_spared, no_setting, on_ok_then, short_command, told_lines, short_worn}
use Rattle.zb_admin.proofs.service.handle_event.Goals as goal

pub returns-in-Ok-clause-carried : goal.returns-in-Ok-clause-carried
returns-in-Ok-clause-carried g c = λ told setting s up.
    let h = c.in-Ok.ensures.handled setting in
    let is = h.told s up in
    record {
      after = always c.tell.result (h.up told s up);
      lines =
          on_ok_then c.tell.result
          (λ text. text ∙ ap (λ l. c.args.page.now.items ++ page l)
          (told_lines c.args.line c.in-Ok.plan (answer real setting s (task_of c.args.event.now)) is))
          c.tell.ensures.text;
      between = λ e. h.moments told s up;
      spared =
          always c.tell.result
          (event_spared g.D.Disk.tells setting c.args.line (task_of c.args.event.now) s c.args.host.now
          c.handle.new.host (g.D.Disk.state c.args.disk.now) (g.D.Disk.state c.handle.new.disk) c.in-Ok.plan h told up
          c.requires.own);
    }

pub returns-in-Ok-clause-store : goal.returns-in-Ok-clause-store
returns-in-Ok-clause-store g c = always c.tell.result (c.in-Ok.ensures.handled no_setting).store

pub returns-in-Ok-clause-unrisen : goal.returns-in-Ok-clause-unrisen
returns-in-Ok-clause-unrisen g c = λ not. c.in-Ok.ensures.unrisen (λ is. cc is)

pub returns-in-Ok-clause-faults : goal.returns-in-Ok-clause-faults
returns-in-Ok-clause-faults g c =
    short_command g.D.Disk.tells (g.D.Disk.state c.args.disk.now) (g.D.Disk.state c.handle.new.disk)
    (Some c.args.host.now) c.tell.result c.tell.ensures.short (c.in-Ok.ensures.unrisen (λ is. cc is))

pub returns-in-Err-clause-carried : goal.returns-in-Err-clause-carried
returns-in-Err-clause-carried g c =
    λ told setting s up.
    record { after = tt; lines = tt; between = λ e. (c.in-Err.ensures.handled setting).moments told s up; spared = tt }

pub returns-in-Err-clause-faults : goal.returns-in-Err-clause-faults
returns-in-Err-clause-faults g c = event_command g.D.Disk.tells (g.D.Disk.state c.args.disk.now)
    (g.D.Disk.state c.handle.new.disk) c.args.host.now c.in-Err.fault
    (λ setting. (c.in-Err.ensures.handled setting).faults)

pub returns-in-Ok-clause-follows : goal.returns-in-Ok-clause-follows
returns-in-Ok-clause-follows g c =
    let core = c.args.host.now.core in
    always c.tell.result (ap Some ((c.in-Ok.ensures.handled core.setting).follows core.tables refl).1)

pub returns-in-Ok-clause-writes : goal.returns-in-Ok-clause-writes
returns-in-Ok-clause-writes g c =
    let core = c.args.host.now.core in
    let is = ((c.in-Ok.ensures.handled core.setting).follows core.tables refl).0 in
    on_ok_then c.tell.result
    (λ text. text ∙ ap (λ l. c.args.page.now.items ++ page l)
    (told_lines c.args.line c.in-Ok.plan (answer real core.setting core.tables (task_of c.args.event.now)) is))
    c.tell.ensures.text

pub returns-in-Err-clause-unrisen : goal.returns-in-Err-clause-unrisen
returns-in-Err-clause-unrisen g c = λ not. c.in-Err.ensures.unrisen (same_fault c.in-Err.fault Disk not)

pub returns-in-Ok-clause-worn : goal.returns-in-Ok-clause-worn
returns-in-Ok-clause-worn g c = short_worn _ c.tell.result c.tell.ensures.short

pub returns-in-Err-clause-worn : goal.returns-in-Err-clause-worn
returns-in-Err-clause-worn g c = λ is.
    let core = c.args.host.now.core in ((c.in-Err.ensures.handled core.setting).worn is).1 core.tables refl
