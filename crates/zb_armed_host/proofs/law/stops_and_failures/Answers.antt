use Rattle.zb_armed_host.proofs.Ties.{stop_stands, fail_stands, stop_leaves, fail_leaves, boot_stop_leaves, boot_fail_leaves, full_is}
use Rattle.zb_armed_host.proofs.law.stops_and_failures.Goals as goal

pub returns : goal.returns
returns c = record {
  stop_stands = stop_stands;
  fail_stands = fail_stands;
  stop_leaves = stop_leaves;
  fail_leaves = fail_leaves;
  boot_stop_leaves = boot_stop_leaves;
  boot_fail_leaves = boot_fail_leaves;
  full_is = full_is;
}
