-- A disk over a file, which claims nothing about what the file holds; and what is kept about a failed call.
use Rattle.std.specs.Prelude.{ℕ, Bool, [], false, true, Option, Some, None}
use Rattle.std.specs.IoError.{error_kind, raw_os_error}
use Rattle.std.specs.declared.io.Error.{Error}
use Rattle.std.specs.declared.io.ErrorKind.{ErrorKind}
use Rattle.std.specs.declared.io.ErrorKind.TheVariants.{WouldBlock}
use Rattle.zb_disk.specs.declared.file_fault.FileCall.{FileCall}
use Rattle.zb_disk.specs.declared.file_fault.FileCall.TheVariants.{Open}
use Rattle.zb_disk.specs.declared.file_fault.FileFault.{FileFault}
use Rattle.zb_disk.specs.View.{View, Telling}

abbrev pub file_tells : Telling
file_tells = record { content = false; steady = false; past = false; refusals = false }

abbrev pub file_view : ℕ → ℕ → View
file_view calls faults = record {
  seen = [];
  images = λ c. ⊥;
  calls = calls;
  faults = faults;
  off = λ k. false;
  refuses = λ k. false;
  torn = [];
  moment = 0;
  since = λ t c. ⊥;
}

-- What is kept about the error of a call: the number that the system gave, and whether another process has the file
-- open.
abbrev pub would_block : ErrorKind → Bool
would_block WouldBlock = true
would_block _ = false

abbrev pub is_taken : FileCall → Error → Bool
is_taken Open error = would_block (error_kind error)
is_taken _ error = false

abbrev pub file_fault : FileCall → Error → FileFault
file_fault call error = record { call = call; errno = raw_os_error error; is_taken = is_taken call error }

-- The first of several faults.
abbrev pub first_of : Option FileFault → FileFault → Option FileFault
first_of None fault = Some fault
first_of (Some first) fault = Some first
