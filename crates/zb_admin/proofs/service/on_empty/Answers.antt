use Rattle.std.proofs.Common.{ℕ, List, Option, subst, sym, ap, ◌∙◌}
use Rattle.std.specs.Prelude.{is_some}
use Rattle.zb_host.specs.Hosts.{Hosted}
use Rattle.zb_stored_tables.specs.Cores.{CoreValue}
use Rattle.zb_admin.proofs.FollowLemmas.{lines_as, made_configured, made_follows, none_made, none_written, order_follows, order_writes}
use Rattle.zb_centre_store.specs.Calls.{HasLaidOut, HasSetting, tables_in}
use Rattle.zb_centre_store.specs.Makings.{tables_of}
use Rattle.zb_setting.specs.Settings.{setting_for}
use Rattle.zb_record.specs.Records.{record_read}
use Rattle.zb_centre_store.specs.Skipping.{skipped}
use Rattle.zb_admin.proofs.CommandLemmas.{always, carried_for, carried_new, carried_refused, kept_command, kept_unrisen, kept_worn, new_stands, short_worn}
use Rattle.zb_admin.proofs.service.on_empty.Goals as goal

pub returns-in-Init-clause-carried : goal.returns-in-Init-clause-carried
returns-in-Init-clause-carried g c = λ told empty.
    carried_for _ _ _ _ _ _ _ _ _ _ c.in-Init.is
    (carried_new (setting_for c.args.config.now) _ (g.D.Disk.state c.args.disk.now)
    (g.D.Disk.state c.init-made.new.disk) c.args.page.now.items c.keep.result c.keep.new.centre
    c.keep.new.page.items c.args.step.now.line
    (new_stands g.D.Disk.tells _ _ (g.D.Disk.state c.args.disk.now) (g.D.Disk.state c.init-made.new.disk) _
    c.keep.result c.keep.new.centre c.init-made.ensures.made told c.keep.ensures.kept c.keep.ensures.made)
    c.keep.ensures.text)

pub returns-in-Restore-clause-carried : goal.returns-in-Restore-clause-carried
returns-in-Restore-clause-carried g c = λ told empty.
    carried_for _ _ _ _ _ _ _ _ _ _ c.in-Restore.is
    (carried_new (setting_for c.args.config.now) _ (g.D.Disk.state c.args.disk.now)
    (g.D.Disk.state c.restore-made.new.disk) c.args.page.now.items c.keep-in-Restore.result
    c.keep-in-Restore.new.centre c.keep-in-Restore.new.page.items c.args.step.now.line
    (new_stands g.D.Disk.tells _ _ (g.D.Disk.state c.args.disk.now) (g.D.Disk.state c.restore-made.new.disk)
    c.restore-made.result c.keep-in-Restore.result c.keep-in-Restore.new.centre
    (subst (λ (bytes : List ℕ). HasLaidOut g.D.Disk.tells (setting_for c.args.config.now)
    (skipped c.in-Restore.skip (tables_of (record_read bytes))) (g.D.Disk.state c.args.disk.now)
    c.restore-made.result (g.D.Disk.state c.restore-made.new.disk)) c.as_slice.ensures
    c.restore-made.ensures.made) told c.keep-in-Restore.ensures.kept c.keep-in-Restore.ensures.made)
    c.keep-in-Restore.ensures.text)

pub returns-in-Init-clause-faults : goal.returns-in-Init-clause-faults
returns-in-Init-clause-faults g c =
    kept_command g.D.Disk.tells _ _ (g.D.Disk.state c.args.disk.now) (g.D.Disk.state c.init-made.new.disk)
    c.init-made.result c.keep.result
    c.init-made.ensures.made c.keep.ensures.fault

pub returns-in-Init-clause-unrisen : goal.returns-in-Init-clause-unrisen
returns-in-Init-clause-unrisen g c =
    kept_unrisen _ _ c.init-made.result c.keep.result c.init-made.ensures.made.unrisen c.keep.ensures.made
    c.keep.ensures.fault

pub returns-in-Init-clause-configured : goal.returns-in-Init-clause-configured
returns-in-Init-clause-configured g c =
    made_configured (setting_for c.args.config.now) c.init-made.result c.keep.result c.keep.new.centre
    c.init-made.ensures.configured c.keep.ensures.kept c.keep.ensures.made

pub returns-in-Restore-clause-faults : goal.returns-in-Restore-clause-faults
returns-in-Restore-clause-faults g c =
    kept_command g.D.Disk.tells _ _ (g.D.Disk.state c.args.disk.now) (g.D.Disk.state c.restore-made.new.disk)
    c.restore-made.result
    c.keep-in-Restore.result c.restore-made.ensures.made c.keep-in-Restore.ensures.fault

pub returns-in-Restore-clause-unrisen : goal.returns-in-Restore-clause-unrisen
returns-in-Restore-clause-unrisen g c =
    kept_unrisen _ _ c.restore-made.result c.keep-in-Restore.result c.restore-made.ensures.made.unrisen
    c.keep-in-Restore.ensures.made c.keep-in-Restore.ensures.fault

pub returns-in-Restore-clause-configured : goal.returns-in-Restore-clause-configured
returns-in-Restore-clause-configured g c =
    made_configured (setting_for c.args.config.now) c.restore-made.result c.keep-in-Restore.result
    c.keep-in-Restore.new.centre c.restore-made.ensures.configured c.keep-in-Restore.ensures.kept
    c.keep-in-Restore.ensures.made

pub returns-in_default-clause-carried : goal.returns-in_default-clause-carried
returns-in_default-clause-carried g c = λ told empty.
    carried_refused (setting_for c.args.config.now) c.args.step.now.line c.args.step.now.order c.args.centre.now
    (g.D.Disk.state c.args.disk.now) c.args.page.now.items c.refuse.result c.refuse.new.page.items
    (g.met.D.Disk.only_now c.args.disk.now) empty c.requires.none
    c.in_default.not-Init c.in_default.not-Restore c.refuse.ensures.text

pub returns-in-Init-clause-follows : goal.returns-in-Init-clause-follows
returns-in-Init-clause-follows g c =
    order_follows c.keep.result (tables_in c.keep.new.centre) _ _ c.in-Init.is
    (made_follows c.init-made.result c.keep.result c.keep.new.centre c.keep.ensures.kept c.keep.ensures.made)

pub returns-in-Init-clause-writes : goal.returns-in-Init-clause-writes
returns-in-Init-clause-writes g c = order_writes c.keep.result c.args.page.now.items c.keep.new.page.items
    c.args.step.now.line _ _ c.in-Init.is c.keep.ensures.text

pub returns-in-Restore-clause-follows : goal.returns-in-Restore-clause-follows
returns-in-Restore-clause-follows g c =
    order_follows c.keep-in-Restore.result (tables_in c.keep-in-Restore.new.centre) _ _ c.in-Restore.is
    (made_follows c.restore-made.result c.keep-in-Restore.result c.keep-in-Restore.new.centre
    c.keep-in-Restore.ensures.kept c.keep-in-Restore.ensures.made)

pub returns-in-Restore-clause-writes : goal.returns-in-Restore-clause-writes
returns-in-Restore-clause-writes g c = order_writes c.keep-in-Restore.result c.args.page.now.items
    c.keep-in-Restore.new.page.items c.args.step.now.line _ _ c.in-Restore.is c.keep-in-Restore.ensures.text

pub returns-in_default-clause-follows : goal.returns-in_default-clause-follows
returns-in_default-clause-follows g c =
    always c.refuse.result
    (ap (λ (o : Option (Hosted CoreValue)). is_some (tables_in o)) c.requires.none ∙ none_made c.args.step.now.order
    c.in_default.not-Init c.in_default.not-Restore)

pub returns-in_default-clause-writes : goal.returns-in_default-clause-writes
returns-in_default-clause-writes g c = lines_as c.refuse.result c.args.page.now.items c.refuse.new.page.items _ _
    (none_written c.args.step.now.line c.args.step.now.order c.in_default.not-Init c.in_default.not-Restore)
    c.refuse.ensures.text

pub returns-in_default-clause-configured : goal.returns-in_default-clause-configured
returns-in_default-clause-configured g c =
    always c.refuse.result
    (subst (HasSetting (setting_for c.args.config.now)) (sym c.requires.none) tt)

pub returns-in-Init-clause-worn : goal.returns-in-Init-clause-worn
returns-in-Init-clause-worn g c =
    kept_worn g.D.Disk.tells _ _ (g.D.Disk.state c.args.disk.now) (g.D.Disk.state c.init-made.new.disk)
    c.init-made.result c.keep.result c.init-made.ensures.made c.keep.ensures.fault

pub returns-in-Restore-clause-worn : goal.returns-in-Restore-clause-worn
returns-in-Restore-clause-worn g c =
    kept_worn g.D.Disk.tells _ _ (g.D.Disk.state c.args.disk.now) (g.D.Disk.state c.restore-made.new.disk)
    c.restore-made.result c.keep-in-Restore.result c.restore-made.ensures.made c.keep-in-Restore.ensures.fault

pub returns-in_default-clause-worn : goal.returns-in_default-clause-worn
returns-in_default-clause-worn g c = short_worn _ c.refuse.result c.refuse.ensures.short
