use Rattle.std.proofs.Common.{◌∙◌, false, Some, ap, refl, sym}
use Rattle.zb_admin.specs.Served.{changes_for, handled, on_store}
use Rattle.zb_model.specs.Answer.{answer}
use Rattle.zb_model.specs.Data.{DoProvision}
use Rattle.zb_model_real.specs.Real.{real}
use Rattle.zb_admin.proofs.CommandLemmas.{always, backup_lines, carried_as, carried_still, listed_text, on_ok_then, short_worn, worn_as}
use Rattle.zb_admin.proofs.FollowLemmas.{follows_as, writes_as}
use Rattle.zb_stored_tables.specs.Cores.{CoreValue}
use Rattle.zb_admin.proofs.service.on_store.Goals as goal

pub returns-in-Provision-clause-carried : goal.returns-in-Provision-clause-carried
returns-in-Provision-clause-carried g c = λ told setting s up.
    carried_as _ _
    (ap (λ k. handled setting c.args.step.now.line (DoProvision c.in-Provision.device.0 k) s) c.link_key.ensures ∙
    ap (λ o. on_store setting c.args.step.now.line o s) (sym c.in-Provision.is))
    (c.handle_event.ensures.carried told setting s up)

pub returns-in-Remove-clause-carried : goal.returns-in-Remove-clause-carried
returns-in-Remove-clause-carried g c = λ told setting s up.
    carried_as _ _ (ap (λ o. on_store setting c.args.step.now.line o s) (sym c.in-Remove.is))
    (c.handle_event-in-Remove.ensures.carried told setting s up)

pub returns-in-Init-clause-carried : goal.returns-in-Init-clause-carried
returns-in-Init-clause-carried g c = λ told setting s up.
    carried_as _ _ (ap (λ o. on_store setting c.args.step.now.line o s) (sym c.in-Init.is))
    (carried_still setting false (Some s) (Some c.args.host.now) (g.D.Disk.state c.args.disk.now)
    c.args.page.now.items c.refuse.result c.refuse.new.page.items _ (g.met.D.Disk.only_now c.args.disk.now) up
    refl c.refuse.ensures.text)

pub returns-in-List-clause-carried : goal.returns-in-List-clause-carried
returns-in-List-clause-carried g c = λ told setting s up.
    carried_as _ _ (ap (λ o. on_store setting c.args.step.now.line o s) (sym c.in-List.is))
    (carried_still setting false (Some s) (Some c.args.host.now) (g.D.Disk.state c.args.disk.now)
    c.args.page.now.items c.show.result c.show.new.page.items _ (g.met.D.Disk.only_now c.args.disk.now) up refl
    (on_ok_then c.show.result
    (listed_text c.args.page.now.items c.show.new.page.items c.centre_tables.result.now s c.args.step.now.line
    (c.centre_tables.ensures ∙ ap (λ (x : CoreValue). x.tables) up.core)) c.show.ensures.text))

pub returns-in-Backup-clause-carried : goal.returns-in-Backup-clause-carried
returns-in-Backup-clause-carried g c = λ told setting s up.
    carried_as _ _ (ap (λ o. on_store setting c.args.step.now.line o s) (sym c.in-Backup.is))
    (carried_still setting false (Some s) (Some c.args.host.now) (g.D.Disk.state c.args.disk.now)
    c.args.page.now.items c.back_up.result c.back_up.new.page.items _ (g.met.D.Disk.only_now c.args.disk.now) up
    refl
    (on_ok_then c.back_up.result
    (backup_lines c.args.page.now.items c.back_up.new.page.items c.centre_tables-in-Backup.result.now s
    c.args.step.now.line (c.centre_tables-in-Backup.ensures ∙ ap (λ (x : CoreValue). x.tables) up.core))
    c.back_up.ensures.text))

pub returns-in-Restore-clause-carried : goal.returns-in-Restore-clause-carried
returns-in-Restore-clause-carried g c = λ told setting s up.
    carried_as _ _ (ap (λ o. on_store setting c.args.step.now.line o s) (sym c.in-Restore.is))
    (carried_still setting false (Some s) (Some c.args.host.now) (g.D.Disk.state c.args.disk.now)
    c.args.page.now.items c.refuse-in-Restore.result c.refuse-in-Restore.new.page.items _
    (g.met.D.Disk.only_now c.args.disk.now) up refl c.refuse-in-Restore.ensures.text)

pub returns-in-Init-clause-follows : goal.returns-in-Init-clause-follows
returns-in-Init-clause-follows g c = follows_as c.args.host.now.core.setting c.refuse.result
    (Some c.args.host.now.core) _ _
    (ap (λ o. on_store c.args.host.now.core.setting c.args.step.now.line o c.args.host.now.core.tables)
    (sym c.in-Init.is)) (always c.refuse.result refl)

pub returns-in-Init-clause-writes : goal.returns-in-Init-clause-writes
returns-in-Init-clause-writes g c = writes_as c.refuse.result c.args.page.now.items c.refuse.new.page.items _ _
    (ap (λ o. on_store c.args.host.now.core.setting c.args.step.now.line o c.args.host.now.core.tables)
    (sym c.in-Init.is)) c.refuse.ensures.text

pub returns-in-Restore-clause-follows : goal.returns-in-Restore-clause-follows
returns-in-Restore-clause-follows g c = follows_as c.args.host.now.core.setting c.refuse-in-Restore.result
    (Some c.args.host.now.core) _ _
    (ap (λ o. on_store c.args.host.now.core.setting c.args.step.now.line o c.args.host.now.core.tables)
    (sym c.in-Restore.is)) (always c.refuse-in-Restore.result refl)

pub returns-in-Restore-clause-writes : goal.returns-in-Restore-clause-writes
returns-in-Restore-clause-writes g c = writes_as c.refuse-in-Restore.result c.args.page.now.items
    c.refuse-in-Restore.new.page.items _ _
    (ap (λ o. on_store c.args.host.now.core.setting c.args.step.now.line o c.args.host.now.core.tables)
    (sym c.in-Restore.is)) c.refuse-in-Restore.ensures.text

pub returns-in-List-clause-follows : goal.returns-in-List-clause-follows
returns-in-List-clause-follows g c = follows_as c.args.host.now.core.setting c.show.result (Some c.args.host.now.core)
    _ _ (ap (λ o. on_store c.args.host.now.core.setting c.args.step.now.line o c.args.host.now.core.tables)
    (sym c.in-List.is)) (always c.show.result refl)

pub returns-in-List-clause-writes : goal.returns-in-List-clause-writes
returns-in-List-clause-writes g c =
    writes_as c.show.result c.args.page.now.items c.show.new.page.items _ _
    (ap (λ o. on_store c.args.host.now.core.setting c.args.step.now.line o c.args.host.now.core.tables)
    (sym c.in-List.is))
    (on_ok_then c.show.result
    (listed_text c.args.page.now.items c.show.new.page.items c.centre_tables.result.now
    c.args.host.now.core.tables c.args.step.now.line c.centre_tables.ensures) c.show.ensures.text)

pub returns-in-Backup-clause-follows : goal.returns-in-Backup-clause-follows
returns-in-Backup-clause-follows g c = follows_as c.args.host.now.core.setting c.back_up.result
    (Some c.args.host.now.core) _ _
    (ap (λ o. on_store c.args.host.now.core.setting c.args.step.now.line o c.args.host.now.core.tables)
    (sym c.in-Backup.is)) (always c.back_up.result refl)

pub returns-in-Backup-clause-writes : goal.returns-in-Backup-clause-writes
returns-in-Backup-clause-writes g c =
    writes_as c.back_up.result c.args.page.now.items c.back_up.new.page.items _ _
    (ap (λ o. on_store c.args.host.now.core.setting c.args.step.now.line o c.args.host.now.core.tables)
    (sym c.in-Backup.is))
    (on_ok_then c.back_up.result
    (backup_lines c.args.page.now.items c.back_up.new.page.items c.centre_tables-in-Backup.result.now
    c.args.host.now.core.tables c.args.step.now.line c.centre_tables-in-Backup.ensures) c.back_up.ensures.text)

pub returns-in-Remove-clause-follows : goal.returns-in-Remove-clause-follows
returns-in-Remove-clause-follows g c = follows_as c.args.host.now.core.setting c.handle_event-in-Remove.result
    (Some c.handle_event-in-Remove.new.host.core) _ _
    (ap (λ o. on_store c.args.host.now.core.setting c.args.step.now.line o c.args.host.now.core.tables)
    (sym c.in-Remove.is)) c.handle_event-in-Remove.ensures.follows

pub returns-in-Remove-clause-writes : goal.returns-in-Remove-clause-writes
returns-in-Remove-clause-writes g c = writes_as c.handle_event-in-Remove.result c.args.page.now.items
    c.handle_event-in-Remove.new.page.items _ _
    (ap (λ o. on_store c.args.host.now.core.setting c.args.step.now.line o c.args.host.now.core.tables)
    (sym c.in-Remove.is)) c.handle_event-in-Remove.ensures.writes

pub returns-in-Provision-clause-follows : goal.returns-in-Provision-clause-follows
returns-in-Provision-clause-follows g c = follows_as c.args.host.now.core.setting c.handle_event.result
    (Some c.handle_event.new.host.core) _ _
    (ap (λ k. handled c.args.host.now.core.setting c.args.step.now.line (DoProvision c.in-Provision.device.0 k)
    c.args.host.now.core.tables) c.link_key.ensures ∙ ap
    (λ o. on_store c.args.host.now.core.setting c.args.step.now.line o c.args.host.now.core.tables)
    (sym c.in-Provision.is)) c.handle_event.ensures.follows

pub returns-in-Provision-clause-writes : goal.returns-in-Provision-clause-writes
returns-in-Provision-clause-writes g c = writes_as c.handle_event.result c.args.page.now.items
    c.handle_event.new.page.items _ _
    (ap (λ k. handled c.args.host.now.core.setting c.args.step.now.line (DoProvision c.in-Provision.device.0 k)
    c.args.host.now.core.tables) c.link_key.ensures ∙ ap
    (λ o. on_store c.args.host.now.core.setting c.args.step.now.line o c.args.host.now.core.tables)
    (sym c.in-Provision.is)) c.handle_event.ensures.writes

pub returns-in-Init-clause-worn : goal.returns-in-Init-clause-worn
returns-in-Init-clause-worn g c = short_worn _ c.refuse.result c.refuse.ensures.short

pub returns-in-Restore-clause-worn : goal.returns-in-Restore-clause-worn
returns-in-Restore-clause-worn g c = short_worn _ c.refuse-in-Restore.result c.refuse-in-Restore.ensures.short

pub returns-in-List-clause-worn : goal.returns-in-List-clause-worn
returns-in-List-clause-worn g c = short_worn _ c.show.result c.show.ensures.short

pub returns-in-Backup-clause-worn : goal.returns-in-Backup-clause-worn
returns-in-Backup-clause-worn g c = short_worn _ c.back_up.result c.back_up.ensures.short

pub returns-in-Provision-clause-worn : goal.returns-in-Provision-clause-worn
returns-in-Provision-clause-worn g c =
    let core = c.args.host.now.core in
    worn_as c.handle_event.result _ _
    (ap (λ k. (answer real core.setting core.tables (DoProvision c.in-Provision.device.0 k)).edits) c.link_key.ensures
    ∙ ap (λ o. changes_for core.setting o core.tables) (sym c.in-Provision.is)) c.handle_event.ensures.worn

pub returns-in-Remove-clause-worn : goal.returns-in-Remove-clause-worn
returns-in-Remove-clause-worn g c =
    let core = c.args.host.now.core in
    worn_as c.handle_event-in-Remove.result _ _ (ap (λ o. changes_for core.setting o core.tables) (sym c.in-Remove.is))
    c.handle_event-in-Remove.ensures.worn
