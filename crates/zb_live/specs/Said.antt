-- What the lines of a session say. Names, keys and other strings of bytes are lists of numbers below 256; addresses
-- and numbers are numbers.
use Rattle.std.specs.Prelude.{◌≡◌, ℕ, List, true, ⊤}
use Rattle.zb_base.specs.declared.node.Role.{Role}
use Rattle.zb_script.specs.Grammar.{is_joiner}
use Rattle.zb_script.specs.Resolving.{SaidTask}
use Rattle.zb_live.specs.declared.line.Log.{Log}
use Rattle.zb_live.specs.declared.question.Question.{Question}

abbrev pub Bytes : Type 0
Bytes = List ℕ

-- A line.
pub data Sentence : Type 0 where
  -- an empty line or a comment
  Quiet : Sentence
  -- the header: the centre with its blocks of counters, a router or device, which lines are answered, and its end
  Founds : (name : Bytes) (eui out_block in_block : ℕ) → Sentence
  Introduces : (name : Bytes) (role : Role) (eui short : ℕ) → Sentence
  Logs : (log : Log) → Sentence
  Opens : Sentence
  -- an event of the centre, and a question, which changes nothing
  Happens : (event : SaidTask) → Sentence
  Asks : (question : Question) → Sentence

-- A peer is a router or a device.
abbrev pub Joins : Sentence → Type 0
Joins Quiet = ⊤
Joins (Founds name eui out_block in_block) = ⊤
Joins (Introduces name role eui short) = is_joiner role ≡ true
Joins (Logs log) = ⊤
Joins Opens = ⊤
Joins (Happens event) = ⊤
Joins (Asks question) = ⊤
