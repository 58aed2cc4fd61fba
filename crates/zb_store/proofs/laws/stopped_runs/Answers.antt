use Rattle.zb_disk.specs.Memory.{memory_tells, memory_view}
use Rattle.zb_store.proofs.Powers.{append_within, put_within, format_within}
use Rattle.zb_store.proofs.laws.stopped_runs.Goals as goal

pub returns-clause-append : goal.returns-clause-append
returns-clause-append c = λ s payload old new. append_within memory_tells s payload (memory_view old) (memory_view new)

pub returns-clause-put : goal.returns-clause-put
returns-clause-put c = λ s content old new. put_within memory_tells s content (memory_view old) (memory_view new)

pub returns-clause-format : goal.returns-clause-format
returns-clause-format c = λ content old new. format_within memory_tells content (memory_view old) (memory_view new)
