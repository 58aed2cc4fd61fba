-- How the process ends: the number and the text of each status.
use Rattle.std.specs.Prelude.{ℕ, List, [], ◌∷◌, ◌++◌, codes, decimal, Option, Some, None}
use Rattle.zb_text.specs.Words.{then}
use Rattle.tc_centre.specs.declared.status.Status.{Status}
use Rattle.tc_centre.specs.declared.status.Status.TheVariants as status

abbrev pub Bytes : Type 0
Bytes = List ℕ

-- the only word
abbrev pub only_word : List Bytes → Option Bytes
only_word [] = None
only_word (word ∷ []) = Some word
only_word (word ∷ other ∷ more) = None

abbrev pub number_of : Status → ℕ
number_of status.Ok = 0
number_of status.Usage = 2
number_of status.ReadFault = 3
number_of status.WriteFault = 4
number_of status.NoMemory = 6
number_of status.DiskFault = 7
number_of status.NoStore = 8
number_of status.TooLong = 9
number_of (status.BadStore at) = 11
number_of status.Worn = 12
number_of status.Busy = 13

abbrev pub text_of : Status → Bytes
text_of status.Ok = []
text_of status.Usage = codes "usage"
text_of status.ReadFault = codes "read fault"
text_of status.WriteFault = []
text_of status.NoMemory = codes "no memory"
text_of status.DiskFault = codes "store fault"
text_of status.NoStore = codes "no store"
text_of status.TooLong = codes "too long 1048576"
text_of (status.BadStore at) = codes "bad store" ++ then (decimal at)
text_of status.Worn = codes "worn"
text_of status.Busy = codes "busy"

-- what is said of it on standard output: its text with a line feed, or nothing
abbrev pub line_of : Bytes → Bytes
line_of [] = []
line_of (c ∷ text) = (c ∷ text) ++ 10 ∷ []
