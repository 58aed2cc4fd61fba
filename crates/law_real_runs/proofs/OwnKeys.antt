-- What a node's own frame shows of keys, with the real tools.
use Rattle.law_run.specs.Commanding.{ShowsKeys}
use Rattle.zb_model_real.specs.Real.{real}
use Rattle.law_real_runs.proofs.Keys.{shows-plain, shows-clear, shows-command, shows-telling}
use Rattle.law_real_runs.proofs.Commands.{spelled-key}

pub shows-keys : ShowsKeys real
unfolding real
shows-keys =
    record {
      spelled = spelled-key;
      plain = shows-plain;
      clear = shows-clear;
      command = shows-command;
      telling = shows-telling;
    }
