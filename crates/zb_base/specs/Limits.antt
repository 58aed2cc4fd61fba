-- Limits that contracts name.
use Rattle.std.specs.Prelude.{ℕ}

-- The longest frame, in bytes (IEEE 802.15.4: aMaxPHYPacketSize).
abbrev pub longest_frame : ℕ
longest_frame = 127

-- The most frames of a capture, and records of a capture file.
abbrev pub most_frames : ℕ
most_frames = 100000

-- The most events of a schedule.
abbrev pub most_events : ℕ
most_events = 100000

-- The most lines that a run counts: 2^32 - 1.
abbrev pub most_lines : ℕ
most_lines = 4294967295

-- The length of a prefix of an input that shows that the whole is too long: 2^24 + 1 bytes.
abbrev pub first_too_long : ℕ
first_too_long = 16777217

-- The longest input, in bytes: 2^24.
abbrev pub longest_input : ℕ
longest_input = 16777216

-- The most outgoing counters that a node reserves at once.
abbrev pub most_out_block : ℕ
most_out_block = 65536

-- The most incoming counters that a node takes before it stores its floor.
abbrev pub most_in_block : ℕ
most_in_block = 1024

-- The most steps of a script.
abbrev pub most_steps : ℕ
most_steps = 10000

-- The most runs of a campaign.
abbrev pub most_runs : ℕ
most_runs = 1000

-- The greatest start value of a campaign: its last run still has a start value below 2^32.
abbrev pub last_start : ℕ
last_start = 4294966295

-- The greatest count that is printed or kept, for example of the events and frames of a run: 2^32 - 1. A count stops
-- there.
abbrev pub greatest_count : ℕ
greatest_count = 4294967295

-- The longest content of application data that an event brings, and the longest command that it forges, in bytes.
abbrev pub longest_content : ℕ
longest_content = 64

-- The longest frame that the command Tunnel carries, in bytes: of a command's 127 bytes, 9 are for the other fields.
abbrev pub longest_tunnelled : ℕ
longest_tunnelled = 118

-- The most nodes of a schedule or script.
abbrev pub most_nodes : ℕ
most_nodes = 64

-- The most routers and devices of a generated schedule.
abbrev pub most_made : ℕ
most_made = 60

-- The most jobs that share the work of a report or campaign.
abbrev pub most_jobs : ℕ
most_jobs = 64

-- The most keys that a capture gives, and that a command line may have.
abbrev pub most_keys : ℕ
most_keys = 256

-- The last short address that a router or device may have: 0xFFF7.
abbrev pub last_short : ℕ
last_short = 65527

-- The EUI of all ones, which no node has.
abbrev pub broadcast_eui : ℕ
broadcast_eui = 18446744073709551615

-- The most torn bytes of an event that stops a node. They replace, repeated, what was written and not synced.
abbrev pub longest_torn : ℕ
longest_torn = 32
