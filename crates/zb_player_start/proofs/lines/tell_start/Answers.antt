-- The four kinds of lines are the start lines.
use Rattle.zb_model.specs.Play.{stations}
use Rattle.law_schedules.specs.Schedules.{schedule_of}
use Rattle.zb_player_start.proofs.StartLines.{start_kept, start_page, start_rest}
use Rattle.zb_player_start.proofs.Turns.{ok_map}
use Rattle.zb_player_start.proofs.lines.tell_start.Goals as goal

pub returns-clause-page : goal.returns-clause-page
returns-clause-page c =
    ok_map c.tell_counters.result (λ counters p is.
    start_page p c.args.declared.now is c.tell_nodes.new.scribe c.tell_counters.new.scribe c.args.page.now
    c.tell_nodes.new.page c.tell_counters.new.page
    (c.in_ok-tell_nodes.ensures.page (stations (schedule_of p)))
    (start_rest p c.args.declared.now is c.centre_of-centre.result.0 (c.centre_of-centre.ensures p is)
    c.tell_nodes.new.scribe c.tell_networks.new.scribe c.tell_codes.new.scribe c.tell_counters.new.scribe
    c.tell_nodes.new.page c.tell_networks.new.page c.tell_codes.new.page c.tell_counters.new.page
    (λ known all. c.in_ok-tell_networks.ensures.tells known all)
    (λ known all. c.in_ok-tell_codes.ensures.tells known all) counters)) c.tell_counters.ensures.tells

pub returns-clause-kept : goal.returns-clause-kept
returns-clause-kept c =
    ok_map c.tell_counters.result (λ counters p is none.
    start_kept p c.args.declared.now is c.tell_nodes.new.scribe c.tell_counters.new.scribe c.tell_nodes.new.page
    c.tell_counters.new.page
    (c.in_ok-tell_nodes.ensures.kept none)
    (start_rest p c.args.declared.now is c.centre_of-centre.result.0 (c.centre_of-centre.ensures p is)
    c.tell_nodes.new.scribe c.tell_networks.new.scribe c.tell_codes.new.scribe c.tell_counters.new.scribe
    c.tell_nodes.new.page c.tell_networks.new.page c.tell_codes.new.page c.tell_counters.new.page
    (λ known all. c.in_ok-tell_networks.ensures.tells known all)
    (λ known all. c.in_ok-tell_codes.ensures.tells known all) counters)) c.tell_counters.ensures.tells
