-- The one printed text of a schedule: the nodes, then all install codes, all network keys and all counters that aren't
-- 0, then the supply and the events. Each kind is in the order of the nodes, and `nwk` is before `aps`.
use Rattle.std.specs.Prelude.{ℕ, ◌==◌, List, [], ◌∷◌, ◌++◌, map, if◌then◌else◌, Option, Some, None}
use Rattle.std.specs.List.{flat_map}
use Rattle.zb_base.specs.declared.label.Layer.{Layer}
use Rattle.zb_base.specs.declared.label.Layer.TheVariants.{Nwk, Aps}
use Rattle.zb_text.specs.Pages.{line_of_words, page}
use Rattle.zb_sched_line.specs.Said.{Bytes, Event}
use Rattle.zb_sched_line.specs.Texts.{node_words, code_words, netkey_words, counter_words, draw_words, event_words}
use Rattle.zb_sched.specs.Schedules.{Node, Schedule}

abbrev pub node_line : Node → List ℕ
node_line m = line_of_words (node_words m.name m.role m.eui m.short m.out_block m.in_block)

abbrev pub code_line : Bytes → Option Bytes → List (List ℕ)
code_line name None = []
code_line name (Some code) = line_of_words (code_words name code) ∷ []

abbrev pub netkey_line : Bytes → Option (Bytes × ℕ) → List (List ℕ)
netkey_line name None = []
netkey_line name (Some held) = line_of_words (netkey_words name held.0 held.1) ∷ []

abbrev pub counter_line : Bytes → Layer → ℕ → List (List ℕ)
counter_line name layer limit = if limit == 0 then [] else line_of_words (counter_words name layer limit) ∷ []

abbrev pub draw_line : Bytes → List ℕ
draw_line key = line_of_words (draw_words key)

abbrev pub event_line : Event → List ℕ
event_line event = line_of_words (event_words event)

abbrev pub code_lines : Node → List (List ℕ)
code_lines m = code_line m.name m.code

abbrev pub netkey_lines : Node → List (List ℕ)
netkey_lines m = netkey_line m.name m.network

abbrev pub counter_lines : Node → List (List ℕ)
counter_lines m = counter_line m.name Nwk m.start_nwk ++ counter_line m.name Aps m.start_aps

abbrev pub printed_lines : Schedule → List (List ℕ)
printed_lines p =
    map node_line p.nodes ++ (flat_map code_lines p.nodes ++ (flat_map netkey_lines p.nodes
    ++ (flat_map counter_lines p.nodes ++ (map draw_line p.draws ++ map event_line p.events))))

abbrev pub printed : Schedule → List ℕ
printed p = page (printed_lines p)
