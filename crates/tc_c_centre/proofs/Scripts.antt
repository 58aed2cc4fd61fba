-- What a call makes of a script that was served over a store in memory.
use Rattle.std.proofs.Common.{◌≡◌, ◌≤◌, ℕ, List, length, Result, Ok, Err, refl, sym, subst}
use Rattle.tc_c_centre.specs.Buffers.{Made}
use Rattle.tc_c_centre.specs.Outside.{Written}
use Rattle.tc_c_centre.specs.Scripts.{IsNoScript, IsOfScript, cause_number, longest_script, made_of_script}
use Rattle.tc_c_centre.specs.Stores.{in_memory, unwritten}
use Rattle.tc_c_centre.specs.declared.fault.CallFault.{CallFault}
use Rattle.tc_c_centre.proofs.Stores.{can_be_served}
use Rattle.zb_admin.specs.Serving.{Ended, Serves}
use Rattle.zb_centre_store.specs.declared.fault.AdminFault.TheVariants as store
use Rattle.zb_disk.specs.Memory.{Medium, fresh as disk_of}
use Rattle.zb_disk.specs.MemoryLaws.{image_seen}
use Rattle.zb_script.specs.Reading.{script_in}
use Rattle.zb_script.specs.Views.{script_of}
use Rattle.zb_script.specs.declared.error.ScriptError.{ScriptError}
use Rattle.zb_script.specs.declared.script.Script.{Script}

of_script : (text old : List ℕ) (script : Script) (ended : Ended) (new : Medium) (answer : Written)
    → length text ≤ longest_script → script_in text ≡ Ok (script_of script)
    → Serves in_memory script (disk_of old) unwritten ended new answer
    → IsOfScript text old (made_of_script ended new answer)
of_script text old script (Ok tt) new answer short reads serves =
    let found = serves.found refl in
    record {
      disk = new;
      page = answer;
      ends = record { script = script; short = short; reads = reads; serves = serves };
      store_is = refl;
      answer_is = refl;
      standing = found.0;
      found = found.1;
      says = λ sound. serves.whole refl (can_be_served old sound) found.0 found.1;
      stands_so = λ sound. serves.last refl (can_be_served old sound) found.0 found.1 new.bytes
          (image_seen new.bytes new.written new.grown);
    }
of_script text old script (Err store.Disk) new answer short reads serves = tt
of_script text old script (Err store.NoStore) new answer short reads serves =
    (record { script = script; short = short; reads = reads }, (serves.faults refl).0)
of_script text old script (Err (store.BadStore at)) new answer short reads serves =
    (record { script = script; short = short; reads = reads }, (serves.faults refl).0)
of_script text old script (Err store.Worn) new answer short reads serves =
    (new, answer, record { script = script; short = short; reads = reads; serves = serves })
of_script text old script (Err store.Write) new answer short reads serves = tt
of_script text old script (Err store.NoMemory) new answer short reads serves = tt

pub script_served : (old : List ℕ) (script : Script) (disk new : Medium) (before answer : Written) (ended : Ended)
    (made : Result Made CallFault) → disk ≡ disk_of old → before ≡ unwritten
    → Serves in_memory script disk before ended new answer → made ≡ made_of_script ended new answer
    → (text : List ℕ) → length text ≤ longest_script → script_in text ≡ Ok (script_of script)
    → IsOfScript text old made
script_served old script disk new before answer ended made disk_is before_is serves is text short reads =
    subst (λ (r : Result Made CallFault). IsOfScript text old r) (sym is)
    (of_script text old script ended new answer short reads
    (subst (λ (b : Written). Serves in_memory script (disk_of old) b ended new answer) before_is
    (subst (λ (d : Medium). Serves in_memory script d before ended new answer) disk_is serves)))

-- a text that is no script
pub refused : (text : List ℕ) (error : ScriptError) (line cause : ℕ) → length text ≤ longest_script
    → script_in text ≡ Err error → line ≡ error.line → cause ≡ cause_number error.cause → IsNoScript text line cause
refused text error line cause short reads line_is cause_is =
    record { error = error; short = short; reads = reads; line_is = line_is; cause_is = cause_is }
