-- The commands of the program, by the words after its name.
use Rattle.std.specs.Prelude.{ℕ, ◌==◌, ◌∷◌, [], ◌&&◌, nat_lt, nat_le, if◌then◌else◌, List, length, codes, bytes_eq, Option, Some, None}
use Rattle.zb_model.specs.Data.{Bytes}
use Rattle.zb_base.specs.declared.key.Key.{Key}
use Rattle.zb_text.specs.Numbers.{number_of}
use Rattle.zb_input.specs.KeyWords.{all_keys, keys_in}
use Rattle.zb_base.specs.Limits.{most_runs, last_start, greatest_count, most_jobs, most_made, most_keys}

-- What the program does, each with the words that ask for it.
pub data Invocation : Type 0 where
  -- `play`: plays the schedule on its input
  Playing : Invocation
  -- `install CODE`: writes the link key of an install code
  Installing : (code : Bytes) → Invocation
  -- `make N`: writes the made schedule for N routers and devices
  Making : (count : ℕ) → Invocation
  -- `inspect JOBS`: writes the report on the capture on its input, worked out by that many jobs
  Inspecting : (jobs : ℕ) → Invocation
  -- `sniff JOBS KEY ..`: does that for the frames of the capture file on its input, under at most 256 keys
  Sniffing : (jobs : ℕ) (keys : List Key) → Invocation
  -- `campaign COUNT START JOBS`: plays COUNT made schedules from the start value START on, by that many jobs, and
  -- writes what they come to
  Campaigning : (count start jobs : ℕ) → Invocation
  -- `audit`: judges the transcript on its input
  Auditing : Invocation
  -- `admin PATH`: carries out the script on its input on the store in the file of that path
  Serving : Invocation

-- a number from 1 on
abbrev pub positive : Option ℕ → Option ℕ
positive None = None
positive (Some number) = if number == 0 then None else Some number

-- a number from 1 to `limit`, in decimal digits without leading zeros
abbrev pub count_of : ℕ → Bytes → Option ℕ
count_of limit word = positive (number_of limit word)

abbrev pub making : Option ℕ → Option Invocation
making None = None
making (Some count) = Some (Making count)

abbrev pub inspecting : Option ℕ → Option Invocation
inspecting None = None
inspecting (Some jobs) = Some (Inspecting jobs)

abbrev pub sniffing : List Key → Option ℕ → Option Invocation
sniffing keys None = None
sniffing keys (Some jobs) = Some (Sniffing jobs keys)

abbrev pub sniff_words : Bytes → List Bytes → Option Invocation
sniff_words operand words =
    if nat_le (length words) most_keys && all_keys words then sniffing (keys_in words) (count_of most_jobs operand)
    else None

abbrev pub lone_word : Bytes → Option Invocation
lone_word word =
    if bytes_eq word (codes "play") then Some Playing
    else if bytes_eq word (codes "audit") then Some Auditing
    else None

-- a code has fewer than 2^32 - 1 bytes; a longer word is none
abbrev pub word_and_operand : Bytes → Bytes → Option Invocation
word_and_operand word operand =
    if bytes_eq word (codes "install") && nat_lt (length operand) greatest_count then Some (Installing operand)
    else if bytes_eq word (codes "make") then making (count_of most_made operand)
    else if bytes_eq word (codes "inspect") then inspecting (count_of most_jobs operand)
    else if bytes_eq word (codes "admin") then Some Serving
    else None

abbrev pub campaigning : Option ℕ → Option ℕ → Option ℕ → Option Invocation
campaigning None start jobs = None
campaigning (Some count) None jobs = None
campaigning (Some count) (Some start) None = None
campaigning (Some count) (Some start) (Some jobs) = Some (Campaigning count start jobs)

-- the start values of all runs are below 2^32
abbrev pub campaign_words : Bytes → Bytes → Bytes → Option Invocation
campaign_words count start jobs =
    campaigning (count_of most_runs count) (number_of last_start start) (count_of most_jobs jobs)

abbrev pub word_and_three : Bytes → Bytes → Bytes → Bytes → Option Invocation
word_and_three word first second third =
    if bytes_eq word (codes "campaign") then campaign_words first second third else None

abbrev pub word_and_more : Bytes → Bytes → List Bytes → Option Invocation
word_and_more word operand [] = word_and_operand word operand
word_and_more word operand (second ∷ third ∷ []) = word_and_three word operand second third
word_and_more word operand _ = None

-- None where the words are no command
abbrev pub invocation_of : List Bytes → Option Invocation
invocation_of [] = None
invocation_of (word ∷ []) = lone_word word
invocation_of (word ∷ operand ∷ more) = if bytes_eq word (codes "sniff") then sniff_words operand more
    else word_and_more word operand more
