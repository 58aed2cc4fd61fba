use Rattle.law_recovery.proofs.Reporting.{tunnel_refused, tunnel_sent}
use Rattle.law_recovery.proofs.router_joins.the_centre_answers_a_report.Goals as goal

pub returns : goal.returns
returns c = record { refused = tunnel_refused; sent = tunnel_sent }
