-- What the lines of a script say. Names and keys are lists of bytes, addresses and numbers are numbers.
use Rattle.std.specs.Prelude.{ℕ, List, Option}
use Rattle.zb_base.specs.declared.node.Role.{Role}

abbrev pub Bytes : Type 0
Bytes = List ℕ

pub data Sentence : Type 0 where
  -- an empty line or a comment
  Quiet : Sentence
  -- the centre with its blocks of counters, and a router or device
  Founds : (name : Bytes) (eui out_block in_block : ℕ) → Sentence
  Introduces : (name : Bytes) (role : Role) (eui short : ℕ) → Sentence
  -- a command: a new store
  Begins : (key : Bytes) → Sentence
  -- a command: a device's install code is entered; None where the bytes are no install code
  Provisions : (name : Bytes) (code : Option Bytes) → Sentence
  -- a command: a device is removed by way of a parent
  Removes : (name : Bytes) (parent : Bytes) → Sentence
  -- commands: what is kept, and its backup
  Lists : Sentence
  BacksUp : Sentence
  -- a command: a new store from the text of a backup
  Restores : (skip : ℕ) (json : Bytes) → Sentence
