-- What a call makes of lines that were served over a store in memory.
use Rattle.std.proofs.Common.{◌≡◌, ℕ, List, [], Some, Result, Ok, Err, refl, sym, subst}
use Rattle.tc_c_centre.specs.Buffers.{Made}
use Rattle.tc_c_centre.specs.Outside.{Written}
use Rattle.tc_c_centre.specs.Sessions.{IsOfLines, made_of_lines}
use Rattle.tc_c_centre.specs.Stores.{in_memory, unwritten}
use Rattle.tc_c_centre.specs.declared.fault.CallFault.{CallFault}
use Rattle.tc_c_centre.proofs.Stores.{can_be_served}
use Rattle.zb_base.specs.Outside.{Supply}
use Rattle.zb_centre_store.specs.Standing.{found_on}
use Rattle.zb_disk.specs.Memory.{Medium, fresh as disk_of, memory_view}
use Rattle.zb_disk.specs.MemoryLaws.{image_seen}
use Rattle.zb_live.specs.Alive.{CrashLeaves}
use Rattle.zb_live.specs.Living.{fresh, served}
use Rattle.zb_live.specs.Moments.{Input, input_of}
use Rattle.zb_live.specs.Serving.{Ended, Lives}
use Rattle.zb_live.specs.WholeLines.{whole_lines}
use Rattle.zb_live.specs.declared.fault.LiveFault.TheVariants as live

lines_done : (text old : List ℕ) (rest : Input) (new : Medium) (answer : Written)
    → Lives in_memory (input_of (Some text) 0 0) (disk_of old) unwritten (Ok tt) rest new answer
    → IsOfLines text old (Ok (record { store = new.bytes; answer = answer.text }))
lines_done text old rest new answer lives =
    let all : whole_lines text ≡ lives.lines = (lives.all text refl).0 in
    record {
      disk = new;
      page = answer;
      ends = record { rest = rest; lives = lives };
      store_is = refl;
      answer_is = refl;
      says = λ sound. subst (λ (ls : List (List ℕ)). answer.text ≡ (served (found_on old) ls fresh).text) (sym all)
          (lives.text refl (can_be_served old sound));
      holds = λ sound. subst (λ (ls : List (List ℕ)). CrashLeaves (memory_view (disk_of old))
          (served (found_on old) ls fresh).after.tables new.bytes) (sym all)
          (lives.last refl (can_be_served old sound) new.bytes (image_seen new.bytes new.written new.grown));
    }

of_lines : (text old : List ℕ) (rest : Input) (ended : Ended) (new : Medium) (answer : Written)
    → Lives in_memory (input_of (Some text) 0 0) (disk_of old) unwritten ended rest new answer
    → IsOfLines text old (made_of_lines ended new answer)
of_lines text old rest (Ok tt) new answer lives = lines_done text old rest new answer lives
of_lines text old rest (Err live.Read) new answer lives = tt
of_lines text old rest (Err live.TooLong) new answer lives = lives.faults text refl
of_lines text old rest (Err live.Write) new answer lives = tt
of_lines text old rest (Err live.Disk) new answer lives = tt
of_lines text old rest (Err live.NoStore) new answer lives = lives.faults refl
of_lines text old rest (Err (live.BadStore at)) new answer lives = lives.faults refl
of_lines text old rest (Err live.Worn) new answer lives = (new, answer, record { rest = rest; lives = lives })
of_lines text old rest (Err live.NoMemory) new answer lives = tt

pub lines_served : (text old : List ℕ) (input : Supply) (rest : Input) (disk new : Medium) (before answer : Written)
    (ended : Ended) (made : Result Made CallFault)
    → input ≡ record { rest = text; fails = []; calls = 0; faults = 0 } → disk ≡ disk_of old → before ≡ unwritten
    → Lives in_memory (input_of (Some input.rest) input.calls input.faults) disk before ended rest new answer
    → made ≡ made_of_lines ended new answer → IsOfLines text old made
lines_served text old input rest disk new before answer ended made input_is disk_is before_is lives is =
    subst (λ (r : Result Made CallFault). IsOfLines text old r) (sym is)
    (of_lines text old rest ended new answer
    (subst (λ (b : Written). Lives in_memory (input_of (Some text) 0 0) (disk_of old) b ended rest new answer)
    before_is
    (subst (λ (d : Medium). Lives in_memory (input_of (Some text) 0 0) d before ended rest new answer) disk_is
    (subst (λ (i : Supply). Lives in_memory (input_of (Some i.rest) i.calls i.faults) disk before ended rest new
    answer)
    input_is lives))))
