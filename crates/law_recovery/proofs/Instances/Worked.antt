-- The worked run of a join under the centre, and the fronts that the instances are about.
use Rattle.std.specs.Prelude.{ℕ, false, Option, Some, None, [], ◌∷◌, take}
use Rattle.zb_model.specs.Data.{Bytes, Verified}
use Rattle.zb_model.specs.State.{NetKey, LinkKey}
use Rattle.zb_model.specs.Play.{Schedule}
use Rattle.zb_model.proofs.Toy.{x}
use Rattle.law_worked_runs.proofs.Runs.JoinUnderCentre.{schedule, lines}
use Rattle.law_recovery.specs.Fronts.{Front}

abbrev pub c : ℕ
c = 5149012952875009

abbrev pub d : ℕ
d = 5149012952875010

-- the network key, the link key of the install code, and the link key that the centre draws
abbrev pub network : Bytes
network = x "000102030405060708090A0B0C0D0E0F"

abbrev pub code : Bytes
code = x "66B6900981E1EE3CA4206B6B861C02BB"

abbrev pub drawn : Bytes
drawn = x "A0A1A2A3A4A5A6A7A8A9AAABACADAEAF"

-- the schedule, with one more draw
abbrev pub w : Schedule
w = record schedule { draws = drawn ∷ x "B0B1B2B3B4B5B6B7B8B9BABBBCBDBEBF" ∷ [] }

-- the front that this many lines of the run lead to, before the event of this number
abbrev pub front : ℕ → ℕ → Front
front count number = record { lines = take count lines; disks = []; number = number }

-- the row that is found, or any other one
abbrev pub the_net : Option NetKey → NetKey
the_net None =
    record { key = network; sequence = 0; live = false; started = false; limit = 0; next = 0; floors = [] }
the_net (Some row) = row

abbrev pub the_link : Option LinkKey → LinkKey
the_link None =
    record {
      partner = c;
      key = code;
      attribute = Verified;
      live = false;
      code = false;
      told = false;
      kept = 0;
      stored = 0;
    }
the_link (Some row) = row

-- the device has knocked, it has joined, it keeps the key that was offered, and it is confirmed
abbrev pub knocked : Front
knocked = front 9 3

abbrev pub joined : Front
joined = front 20 5

abbrev pub proving : Front
proving = front 43 8

abbrev pub confirmed : Front
confirmed = front 59 11
