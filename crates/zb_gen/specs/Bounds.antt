-- How many lines of a made schedule may stand before more of them, so that their number stays small.
use Rattle.std.specs.Prelude.{ℕ}

-- before one line
abbrev pub before_line : ℕ
before_line = 30000

-- before the deliveries of one node
abbrev pub before_deliveries : ℕ
before_deliveries = 25000

-- before the lines of a node, or the few of a step
abbrev pub before_lines : ℕ
before_lines = 20000

-- before a part of the schedule, as all its joins or steps
abbrev pub before_part : ℕ
before_part = 10000

-- after the declarations
abbrev pub most_declarations : ℕ
most_declarations = 200

-- the most frames that were sent before a join: five for each of 60 nodes
abbrev pub most_sent : ℕ
most_sent = 300
