use Rattle.std.proofs.Common.{◌≡◌, ◌-◌, ◌≤◌, length}
use Rattle.zb_keys.specs.Tables.{state_of, IsSound}
use Rattle.zb_record.specs.Redoing.{changes_redone}
use Rattle.zb_keys.proofs.contents.Contents.redo_changes.Given as goal

abbrev pub invariant-loop : goal.invariant-loop
invariant-loop l =
    (changes_redone l.version (l.count - l.counter) l.reader.rest.now (state_of l.self)
    ≡ changes_redone l.version l.count l.initial.reader.rest.now (state_of l.initial.self))
    × IsSound l.self
    × (length l.reader.rest.now ≤ length l.initial.reader.rest.now)
