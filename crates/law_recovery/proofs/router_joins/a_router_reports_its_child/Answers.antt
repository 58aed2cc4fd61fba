use Rattle.law_recovery.proofs.Reporting.{report_refused, report_sent}
use Rattle.law_recovery.proofs.router_joins.a_router_reports_its_child.Goals as goal

pub returns : goal.returns
returns c = record { refused = report_refused; sent = report_sent }
