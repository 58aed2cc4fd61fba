use Rattle.zb_store.proofs.Powers.{append_stands, append_failure_stands, append_gates, put_stands, put_failure_stands, put_gates, put_failure_gates}
use Rattle.zb_store.proofs.laws.stopped_commits.Goals as goal

pub returns-clause-append : goal.returns-clause-append
returns-clause-append c = append_stands

pub returns-clause-append_failed : goal.returns-clause-append_failed
returns-clause-append_failed c = append_failure_stands

pub returns-clause-append_gates : goal.returns-clause-append_gates
returns-clause-append_gates c = append_gates

pub returns-clause-put : goal.returns-clause-put
returns-clause-put c = put_stands

pub returns-clause-put_failed : goal.returns-clause-put_failed
returns-clause-put_failed c = put_failure_stands

pub returns-clause-put_gates : goal.returns-clause-put_gates
returns-clause-put_gates c = put_gates

pub returns-clause-put_failed_gates : goal.returns-clause-put_failed_gates
returns-clause-put_failed_gates c = put_failure_gates
