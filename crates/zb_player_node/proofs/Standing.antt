-- What represents the state of a node: after changes, after a boot, and later on.
use Rattle.std.proofs.Common.{◌≡◌, ◌≤◌, ◌+◌, ◌%◌, ◌==◌, ◌++◌, ◌||◌, ℕ, Bool, true, false, List, [], ◌∷◌, length, Some, Result, Ok, Err, refl, sym, ◌∙◌, ap, arith}
use Rattle.std.proofs.lemmas.Bool.Decides.{nat_tests}
use Rattle.std.proofs.lemmas.List.{append-nil, length-append}
use Rattle.std.proofs.lemmas.List.Folds.{concat-append}
use Rattle.std.specs.List.{concat}
use Rattle.zb_armed_host.proofs.Ties.{full_is}
use Rattle.zb_armed_host.specs.Arms.{commit_of}
use Rattle.zb_armed_host.specs.Driven.{calls_in, standing_after}
use Rattle.zb_host.specs.Hosts.{Gives, Hosted, is_full, writes_whole}
use Rattle.zb_host.specs.Plans.{gives}
use Rattle.zb_model.specs.Data.{Role}
use Rattle.zb_model.specs.Record.{payload, record_of}
use Rattle.zb_model.specs.State.{NodeState, after_boot, applied_all, shown}
use Rattle.law_run.proofs.StoredChanges.{changes_again}
use Rattle.law_tables_suffice.proofs.Answered.{applied_same, boot_same}
use Rattle.law_run_steps.specs.Conditions.{calls_by, commits_with}
use Rattle.zb_player_node.specs.Nodes.{IsStored}
use Rattle.zb_node_types.specs.Changes.{edits}
use Rattle.zb_node_types.specs.declared.change.Change.{Change}
use Rattle.zb_store.specs.Layout.{Standing}
use Rattle.zb_store.specs.Store.{place_of}
use Rattle.zb_stored_tables.proofs.CoreLaws.{core_newest, state_adds, state_keeps}
use Rattle.zb_stored_tables.proofs.InMemory.{recorded_booted, recorded_shown}
use Rattle.zb_stored_tables.specs.Cores.{CoreValue}
use Rattle.zb_stored_tables.specs.Stored.{IsStorable, IsStoredAfter, restored, state_given}

abbrev pub gave : NodeState → Result NodeState ℕ
gave t = Ok t

state_or : NodeState → Result NodeState ℕ → NodeState
state_or d (Ok t) = t
state_or d (Err at) = d

pub same_given : (s t : NodeState) → gave s ≡ gave t → s ≡ t
unfolding state_or
same_given s t e = ap (state_or s) e

-- ---- states that a boot leaves alike

alike_recorded : (t u : NodeState) → after_boot (shown t) ≡ after_boot (shown u) → record_of t ≡ record_of u
alike_recorded t u same = sym (recorded_shown t) ∙ sym (recorded_booted (shown t)) ∙ ap record_of same ∙
    recorded_booted (shown u) ∙ recorded_shown u

pub stored_as : (role : Role) (t u : NodeState) (commits number : ℕ) (s : Standing) → after_boot (shown t)
    ≡ after_boot (shown u) → IsStored role t commits number s → IsStored role u commits number s
stored_as role t u commits number s same is = record {
  reads = is.reads ∙ ap gave same;
  gives_it = is.gives_it ∙ ap gives (alike_recorded t u same);
  newest = is.newest;
  entries = is.entries;
  generation = is.generation;
}

pub stored_later : (role : Role) (t : NodeState) (commits number : ℕ) (s : Standing)
    → IsStored role t commits number s → IsStored role t commits (number + 1) s
stored_later role t commits number s is =
    record {
      reads = is.reads;
      gives_it = is.gives_it;
      newest = is.newest;
      entries = is.entries;
      generation = omega (arith, is.generation);
    }

pub stored_from : (role : Role) (t : NodeState) (commits number later : ℕ) (s : Standing) → number ≤ later
    → IsStored role t commits number s → IsStored role t commits later s
stored_from role t commits number later s from is =
    record {
      reads = is.reads;
      gives_it = is.gives_it;
      newest = is.newest;
      entries = is.entries;
      generation = omega (arith, is.generation, from);
    }

-- a boot leaves the same
pub boot_alike : (s : NodeState) → after_boot (shown (after_boot s)) ≡ after_boot (shown s)
unfolding applied_all
boot_alike s = ap after_boot (sym (boot_same s)) ∙ changes_again [] (shown s)

-- ---- the next commit

pub calls_are : (whole : Bool) (entries commits : ℕ) (cs : List Change) → entries ≡ commits % 33 → whole
    ≡ (entries == 32) → calls_in whole cs ≡ calls_by commits (edits cs)
calls_are whole entries commits [] counted is = refl
calls_are whole entries commits (c ∷ cs) counted is = ap commit_of is ∙ sym (full_is entries commits counted)

-- a host whose next commit isn't the whole record by itself
pub writes_are : (host : Hosted CoreValue) (s : Standing) → host.whole ≡ false → host.store ≡ Some (place_of s)
    → writes_whole host ≡ (length s.payloads == 32)
writes_are host s entry place = ap (λ (b : Bool). b || is_full host.store) entry ∙ ap is_full place

full_next : (n commits : ℕ) → n ≡ commits % 33 → true ≡ (n == 32) → 0 ≡ (commits + 1) % 33
full_next n commits is full = grind (arith, nat_tests)

entry_next : (n commits : ℕ) → n ≡ commits % 33 → false ≡ (n == 32) → n + 1 ≡ (commits + 1) % 33
entry_next n commits is other = grind (arith, nat_tests)

one_more : (ps : List (List ℕ)) (p : List ℕ) → concat (ps ++ p ∷ []) ≡ concat ps ++ p
one_more ps p = concat-append ps (p ∷ []) ∙ ap (λ (l : List ℕ). concat ps ++ l) (append-nil p)

-- Changes made a node's core have the tables u, whose record is that of the state after the changes.
made_alike : (t u : NodeState) (cs : List Change) → IsStoredAfter cs (shown t) u → after_boot u
    ≡ after_boot (shown (applied_all (edits cs) t))
made_alike t u cs after = after ∙ ap after_boot (applied_same (edits cs) t)

made_recorded : (t u : NodeState) (cs : List Change) → IsStoredAfter cs (shown t) u → record_of u
    ≡ record_of (applied_all (edits cs) t)
made_recorded t u cs after =
    let made = applied_all (edits cs) t in
    sym (recorded_booted u) ∙ ap record_of (made_alike t u cs after) ∙ recorded_booted (shown made) ∙ recorded_shown
    made

stored_some : (role : Role) (t u : NodeState) (commits number : ℕ) (s : Standing) (c : Change) (cs : List Change)
    (whole : Bool) → IsStored role t commits number s → IsStorable role (shown t) (c ∷ cs)
    → IsStoredAfter (c ∷ cs) (shown t) u → whole ≡ (length s.payloads == 32)
    → Gives (restored role) (standing_after whole s (record_of u) (payload (edits (c ∷ cs))) (c ∷ cs))
    (record_of u)
    → IsStored role (applied_all (edits (c ∷ cs)) t) (commits + 1) (number + 1)
    (standing_after whole s (record_of u) (payload (edits (c ∷ cs))) (c ∷ cs))
stored_some role t u commits number s c cs true is plan after full given = record {
  reads = state_keeps role (shown t) u (c ∷ cs) plan after ∙ ap gave (made_alike t u (c ∷ cs) after);
  gives_it = given ∙ ap gives (made_recorded t u (c ∷ cs) after);
  newest = core_newest u;
  entries = full_next (length s.payloads) commits is.entries full;
  generation = omega (arith, is.generation);
}
stored_some role t u commits number s c cs false is plan after full given =
    let bytes = payload (edits (c ∷ cs)) in
    record {
      reads = ap (state_given role s.content) (one_more s.payloads bytes) ∙ state_adds role (shown t) u (c ∷ cs)
          s.content (concat s.payloads) plan after is.newest is.reads
          ∙ ap gave (made_alike t u (c ∷ cs) after);
      gives_it = given ∙ ap gives (made_recorded t u (c ∷ cs) after);
      newest = is.newest;
      entries = length-append s.payloads (bytes ∷ []) ∙ entry_next (length s.payloads) commits is.entries full;
      generation = omega (arith, is.generation);
    }

pub stored_next : (role : Role) (t u : NodeState) (commits number : ℕ) (s : Standing) (cs : List Change)
    (whole : Bool) → IsStored role t commits number s → IsStorable role (shown t) cs
    → IsStoredAfter cs (shown t) u → whole ≡ (length s.payloads == 32)
    → Gives (restored role) (standing_after whole s (record_of u) (payload (edits cs)) cs) (record_of u)
    → IsStored role (applied_all (edits cs) t) (commits_with commits (edits cs)) (number + 1)
    (standing_after whole s (record_of u) (payload (edits cs)) cs)
unfolding applied_all
stored_next role t u commits number s [] whole is plan after full given = stored_later role t commits number s is
stored_next role t u commits number s (c ∷ cs) whole is plan after full given =
    stored_some role t u commits number s c cs whole is plan after full given

-- what the state after the changes and the one after the whole answer have alike
pub after_alike : (t u v : NodeState) (cs : List Change) → IsStoredAfter cs (shown t) u → u ≡ shown v
    → after_boot (shown (applied_all (edits cs) t)) ≡ after_boot (shown v)
after_alike t u v cs after is = sym (made_alike t u cs after) ∙ ap after_boot is
