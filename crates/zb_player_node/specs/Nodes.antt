-- A node and its disk in a condition of the model: what its disk represents, what its host has, and what is armed.
use Rattle.std.specs.Prelude.{ℕ, ◌≡◌, ◌≢◌, ◌≤◌, ◌+◌, ◌%◌, Bool, true, false, List, [], ◌∷◌, length, get_or, Option, Some, None, Ok, ⊤}
use Rattle.std.specs.List.{concat}
use Rattle.zb_disk.specs.Memory.{Medium, memory_view}
use Rattle.zb_armed_host.specs.Arms.{armed_of, IsArming, IsUnarmed}
use Rattle.zb_armed_host.specs.Driven.{IsAtRest, memory_words}
use Rattle.zb_host.specs.Calls.{Words}
use Rattle.zb_host.specs.Hosts.{Gives, IsCurrent}
use Rattle.zb_model.specs.Data.{Role, Station}
use Rattle.zb_model.specs.Lines.{Line}
use Rattle.zb_model.specs.Play.{Schedule, Disk, commits_of_record}
use Rattle.zb_model.specs.Record.{payload, record_of}
use Rattle.zb_model.specs.State.{NodeState, after_boot, shown}
use Rattle.law_run_steps.specs.Conditions.{Condition, condition_of}
use Rattle.law_run_steps.specs.Swaps.{Stood}
use Rattle.zb_setting.specs.Settings.{setting_for}
use Rattle.zb_player_node.specs.Values.{NodeValue, Running}
use Rattle.zb_node_types.specs.Changes.{edits, model_role}
use Rattle.zb_store.specs.Layout.{Standing}
use Rattle.zb_store.specs.Store.{both_gates_open}
use Rattle.zb_stored_tables.specs.Cores.{CoreValue}
use Rattle.zb_stored_tables.specs.Stored.{restored, state_given}

-- What represents the state of a node of this role. A boot reads it as what is shown of that state. There is an entry
-- for each commit since the last whole record. The generation is at most one above `number`.
pub record IsStored (role : Role) (t : NodeState) (commits number : ℕ) (s : Standing) : Type 0 where
  pub reads : state_given role s.content (concat s.payloads) ≡ Ok (after_boot (shown t))
  pub gives_it : Gives (restored role) s (record_of t)
  pub newest : get_or s.content 0 0 ≢ 1
  pub entries : length s.payloads ≡ commits % commits_of_record
  pub generation : s.generation ≤ number + 1

-- what the laws on calls have of a core of this role
abbrev pub words_for : Role → Words CoreValue Medium
words_for role = memory_words (restored role) (λ (c : CoreValue). record_of c.tables)
    (λ changes. payload (edits changes))

-- A node that is up: its host has the setting and what is shown of the state, and every image of the disk represents
-- them. The next commit is an entry, unless no entry more fits.
pub record IsRunning (x : Condition) (s : Standing) (r : Running) (m : Medium) : Type 0 where
  pub role : r.role ≡ x.setting.me.role
  pub core : r.host.core ≡ record { setting = x.setting; tables = shown x.state }
  pub entry_next : r.host.whole ≡ false
  pub current : IsCurrent (restored x.setting.me.role) (λ (c : CoreValue). record_of c.tables) s r.host (memory_view m)

-- A node has a host while it has power; while it has none its disk is at rest.
abbrev pub IsPowered : Bool → Condition → Standing → Option Running → Medium → Type 0
IsPowered true x s (Some r) m = IsRunning x s r m
IsPowered true x s None m = ⊥
IsPowered false x s (Some r) m = ⊥
IsPowered false x s None m = IsAtRest s m

-- The node is in this condition over this disk, before the event of this number.
pub record IsIn (x : Condition) (number : ℕ) (node : NodeValue) (m : Medium) : Type 0 where
  pub standing : Standing
  pub stored : IsStored x.setting.me.role x.state x.commits number standing
  pub powered : IsPowered x.up x standing node.machine m
  pub unarmed : IsUnarmed m
  pub gates : both_gates_open m.bytes ≡ x.disk.both_open
  pub armed : armed_of node.arms ≡ x.disk.armed
  pub arming : IsArming x.disk.armed
  pub setting : setting_for node.config ≡ x.setting
  pub role : model_role node.peer.role ≡ x.setting.me.role

-- Another disk that a node of this role can boot from: it is at rest, and this stands on it. No generation on it is
-- past that number by more than one.
pub record CanBootFrom (role : Role) (number : ℕ) (m : Medium) (s : Stood) : Type 0 where
  pub standing : Standing
  pub stored : IsStored role s.state s.commits number standing
  pub rest : IsAtRest standing m
  pub gates : both_gates_open m.bytes ≡ s.both_open

-- the node is the declared one: its name, its address and its role
pub record IsSeat (p : Station) (node : NodeValue) : Type 0 where
  pub name : node.peer.name.bytes ≡ p.name
  pub eui : node.peer.eui.0 ≡ p.eui
  pub role : model_role node.peer.role ≡ p.role

-- Nodes and disks, place by place: each node is in the condition of its EUI.
abbrev pub AllIn : (ℕ → Condition) → ℕ → List Station → List NodeValue → List Medium → Type 0
AllIn xs number [] [] [] = ⊤
AllIn xs number (p ∷ ps) (node ∷ nodes) (m ∷ ms) = IsSeat p node × IsIn (xs p.eui) number node m
    × AllIn xs number ps nodes ms
AllIn xs number _ _ _ = ⊥

-- they are as the model says after these lines
abbrev pub AllStand : Schedule → List Line → List Disk → ℕ → List Station → List NodeValue → List Medium → Type 0
AllStand w h ds number ps nodes ms = AllIn (condition_of w h ds) number ps nodes ms
