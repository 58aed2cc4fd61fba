-- By the definition of a step of the outside, with the values of its terms.
use Rattle.law_run_steps.proofs.Others.{injected, net-forged, both-forged, open-forged}
use Rattle.law_run_steps.proofs.the_outside_sends.Goals as goal

pub returns : goal.returns
returns c = record { bytes = injected; net = net-forged; both = both-forged; clear = open-forged }
