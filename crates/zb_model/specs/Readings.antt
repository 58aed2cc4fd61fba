-- What a list of transcript lines says. Each reading is a fold over the lines, so each later line changes it in turn.
use Rattle.std.specs.Prelude.{ℕ, ◌+◌, Bool, true, false, if◌then◌else◌, List, [], ◌∷◌, ◌++◌, fold, nat_eq}
use Rattle.zb_model.specs.Data.{Bytes, nobody, Device, Station, Draw, Moved}
use Rattle.zb_model.specs.Lines.{Line, Declared, GivenNet, GivenLink, Counter, Changed, Commit, Accept, Refuse, Seal, Forge, Send, Inject, Stopped, DownReset, DownDisk, Boot, Dump, End}
use Rattle.zb_model.specs.State.{NodeState, new_node, applied, after_sealing, after_accepting, after_boot, with_given_net, with_given_link, with_declared}

-- whose line it is; nobody's are those of forged and injected frames and the end line
unfoldable pub speaker : Line → ℕ
speaker (Declared p) = p.eui
speaker (GivenNet n key sequence) = n
speaker (GivenLink n partner key) = n
speaker (Counter n layer limit) = n
speaker (Changed e n edit) = n
speaker (Commit e n) = n
speaker (Accept e n t) = n
speaker (Refuse e n place reason) = n
speaker (Seal e n t) = n
speaker (Forge e t) = nobody
speaker (Send e n frame bytes) = nobody
speaker (Inject e frame bytes) = nobody
speaker (Stopped e n) = n
speaker (DownReset e n) = n
speaker (DownDisk e n) = n
speaker (Boot e n) = n
speaker (Dump e n bytes) = n
speaker (End events seals accepts refusals ideal private) = nobody

-- what a node's own line does to its state
unfoldable pub after : Line → NodeState → NodeState
after (Declared p) s = record s { role = p.role }
after (GivenNet n key sequence) s = with_given_net key sequence s
after (GivenLink n partner key) s = with_given_link partner key s
after (Counter n layer limit) s = with_declared layer limit s
after (Changed e n edit) s = applied edit s
after (Accept e n t) s = after_accepting t s
after (Seal e n t) s = after_sealing t s
after (Boot e n) s = after_boot s
after _ s = s

unfoldable pub heard_line : ℕ → NodeState → Line → NodeState
heard_line n s l = if nat_eq (speaker l) n then after l s else s

-- the state of a node after the lines
unfoldable pub state_of : List Line → ℕ → NodeState
state_of h n = fold (heard_line n) (new_node Device) h

-- whether a node has power: it has power at the start, and a boot gives it power again
abbrev pub power : Line → Bool → Bool
power (Stopped e n) up = false
power (DownReset e n) up = false
power (DownDisk e n) up = false
power (Boot e n) up = true
power _ up = up

abbrev pub power_line : ℕ → Bool → Line → Bool
power_line n up l = if nat_eq (speaker l) n then power l up else up

unfoldable pub is_up : List Line → ℕ → Bool
is_up h n = fold (power_line n) true h

-- the frames on the air, in the order of their numbers from 1
abbrev pub air_line : List Bytes → Line → List Bytes
air_line frames (Send e n frame bytes) = frames ++ bytes ∷ []
air_line frames (Inject e frame bytes) = frames ++ bytes ∷ []
air_line frames _ = frames

unfoldable pub air : List Line → List Bytes
air h = fold air_line [] h

-- how many draws are used, and how many commits a node made
abbrev pub draw_line : ℕ → Line → ℕ
draw_line n (Changed e c (Moved (Draw key))) = n + 1
draw_line n _ = n

unfoldable pub draws_used : List Line → ℕ
draws_used h = fold draw_line 0 h

abbrev pub commit_line : ℕ → ℕ → Line → ℕ
commit_line node n (Commit e by) = if nat_eq by node then n + 1 else n
commit_line node n _ = n

unfoldable pub commits_of : List Line → ℕ → ℕ
commits_of h node = fold (commit_line node) 0 h

-- the declared nodes, in order
abbrev pub station_line : List Station → Line → List Station
station_line stations (Declared p) = stations ++ p ∷ []
station_line stations _ = stations

unfoldable pub stations_of : List Line → List Station
stations_of h = fold station_line [] h
