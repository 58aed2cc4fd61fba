use Rattle.zb_setting.specs.Settings.{setting_for}
use Rattle.zb_admin.proofs.CommandLemmas.{carried_none, carried_some}
use Rattle.zb_admin.proofs.FollowLemmas.{none_follows, none_worn, none_writes, some_configured, some_follows, some_worn, some_writes}
use Rattle.zb_centre_store.specs.Calls.{tables_in}
use Rattle.zb_admin.proofs.service.carry_out.Goals as goal

pub returns-in-Some-clause-carried : goal.returns-in-Some-clause-carried
returns-in-Some-clause-carried g c = λ told b stood.
    carried_some _ c.args.step.now b _ c.in-Some.host _ _ _ _ _ _ c.in-Some.is stood
    (λ s up. c.on_store.ensures.carried told _ s up)

pub returns-in-None-clause-carried : goal.returns-in-None-clause-carried
returns-in-None-clause-carried g c = λ told b stood.
    carried_none _ c.args.step.now b _ _ _ _ _ _ _ c.in-None.is stood (λ empty. c.on_empty.ensures.carried told empty)

pub returns-in-Some-clause-configured : goal.returns-in-Some-clause-configured
returns-in-Some-clause-configured g c =
    some_configured (setting_for c.args.config.now) c.args.step.now c.args.centre.now c.on_store.result c.in-Some.host
    c.in-Some.is c.requires.configured c.on_store.new.host c.on_store.ensures.follows

pub returns-in-Some-clause-follows : goal.returns-in-Some-clause-follows
returns-in-Some-clause-follows g c =
    some_follows (setting_for c.args.config.now) c.args.step.now c.args.centre.now c.on_store.result c.in-Some.host
    c.in-Some.is c.requires.configured c.on_store.new.host c.on_store.ensures.follows

pub returns-in-Some-clause-writes : goal.returns-in-Some-clause-writes
returns-in-Some-clause-writes g c =
    some_writes (setting_for c.args.config.now) c.args.step.now c.args.centre.now c.on_store.result c.in-Some.host
    c.in-Some.is c.requires.configured c.args.page.now.items c.on_store.new.page.items c.on_store.ensures.writes

pub returns-in-None-clause-follows : goal.returns-in-None-clause-follows
returns-in-None-clause-follows g c =
    none_follows (setting_for c.args.config.now) c.args.step.now c.args.centre.now c.on_empty.result c.in-None.is
    (tables_in c.on_empty.new.centre) c.on_empty.ensures.follows

pub returns-in-None-clause-writes : goal.returns-in-None-clause-writes
returns-in-None-clause-writes g c =
    none_writes (setting_for c.args.config.now) c.args.step.now c.args.centre.now c.on_empty.result c.in-None.is
    c.args.page.now.items c.on_empty.new.page.items c.on_empty.ensures.writes

pub returns-in-Some-clause-worn : goal.returns-in-Some-clause-worn
returns-in-Some-clause-worn g c =
    some_worn (setting_for c.args.config.now) c.args.step.now c.args.centre.now c.on_store.result c.in-Some.host
    c.in-Some.is c.requires.configured c.on_store.ensures.worn

pub returns-in-None-clause-worn : goal.returns-in-None-clause-worn
returns-in-None-clause-worn g c =
    none_worn (setting_for c.args.config.now) c.args.step.now c.args.centre.now c.on_empty.result c.in-None.is
    c.on_empty.ensures.worn
