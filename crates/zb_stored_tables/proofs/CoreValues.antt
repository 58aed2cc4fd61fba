-- Any core over tables keeps the law of cores, whatever its events and plans are.
use Rattle.std.proofs.Common.{◌≡◌, ◌≢◌, ◌+◌, ◌++◌, ℕ, Bool, true, false, if◌then◌else◌, List, [], ◌∷◌, get_or, map, refl, sym, ◌∙◌, ap, subst}
use Rattle.zb_node_types.specs.declared.change.Change.{Change}
use Rattle.zb_node_types.specs.Changes.{edits}
use Rattle.zb_host.specs.Plans.{gives}
use Rattle.zb_model.specs.Answer.{Answer, accepted_all, sealed_all, answered}
use Rattle.zb_model.specs.Data.{Bytes, Role, Layer, Nwk, Aps, Term, Edit}
use Rattle.zb_model.specs.Record.{payload, record_of}
use Rattle.zb_model.specs.State.{NetKey, NodeState, same_key, at_net, applied_all, after_boot, after_sealing, sealed_at, after_accepting, after_hearing, next_at, floor_kept, net_kept, shown_net, shown}
use Rattle.zb_stored_tables.specs.Stored.{IsStorable, IsStoredAfter, restored}
use Rattle.zb_stored_tables.specs.Cores.{CoreValue, tables_after, IsValueAfter}
use Rattle.zb_stored_tables.proofs.CoreLaws.{core_adds, core_keeps, core_newest, core_idle}
use Rattle.zb_stored_tables.proofs.InMemory.{boot_of_sealed, boot_of_accepted}

-- ---- what is in memory alone

pub boot_of_all_sealed : (ts : List Term) (s : NodeState) → after_boot (sealed_all ts s) ≡ after_boot s
boot_of_all_sealed [] s = refl
boot_of_all_sealed (t ∷ ts) s = boot_of_all_sealed ts (after_sealing t s) ∙ boot_of_sealed t s

pub boot_of_all_accepted : (ts : List Term) (s : NodeState) → after_boot (accepted_all ts s) ≡ after_boot s
boot_of_all_accepted [] s = refl
boot_of_all_accepted (t ∷ ts) s = boot_of_all_accepted ts (after_accepting t s) ∙ boot_of_accepted t s

-- What is stored after an event is what its changes made.
pub stored_after : (changes : List Change) (accepts seals : List Term) (c d : CoreValue)
    → IsValueAfter changes accepts seals c d → IsStoredAfter changes c.tables d.tables
stored_after changes accepts seals c d after =
    let made = shown (applied_all (edits changes) c.tables) in
    ap (λ (x : CoreValue). after_boot x.tables) after ∙ boot_of_all_sealed seals (accepted_all accepts made) ∙
    boot_of_all_accepted accepts made

-- ---- the law of cores

pub value_adds : (role : Role) (changes : List Change) (accepts seals : List Term) (c d : CoreValue) (r q : List ℕ)
    → IsStorable role c.tables changes → IsValueAfter changes accepts seals c d → get_or r 0 0 ≢ 1
    → restored role r q ≡ gives (record_of c.tables) → restored role r (q ++ payload (edits changes))
    ≡ gives (record_of d.tables)
value_adds role changes accepts seals c d r q plan after later is = core_adds role c.tables d.tables changes r q plan
    (stored_after changes accepts seals c d after) later is

pub value_keeps : (role : Role) (changes : List Change) (accepts seals : List Term) (c d : CoreValue)
    → IsStorable role c.tables changes → IsValueAfter changes accepts seals c d
    → restored role (record_of d.tables) [] ≡ gives (record_of d.tables)
value_keeps role changes accepts seals c d plan after = core_keeps role c.tables d.tables changes plan
    (stored_after changes accepts seals c d after)

pub value_newest : (c : CoreValue) → get_or (record_of c.tables) 0 0 ≢ 1
value_newest c = core_newest c.tables

pub value_idle : (role : Role) (changes : List Change) (accepts seals : List Term) (c d : CoreValue)
    → IsStorable role c.tables changes → IsValueAfter changes accepts seals c d → changes ≡ []
    → record_of d.tables ≡ record_of c.tables
value_idle role changes accepts seals c d plan after none =
    core_idle c.tables d.tables plan.kept.forgets
    (subst (λ (l : List Change). IsStoredAfter l c.tables d.tables) none
    (stored_after changes accepts seals c d after))

-- ---- the state after an answer

net_shown : (key : Bytes) (f : NetKey → NetKey) → ((r : NetKey) → shown_net (f r) ≡ f (shown_net r))
    → (rs : List NetKey) → map shown_net (at_net key f rs) ≡ at_net key f (map shown_net rs)
net_shown key f same [] = refl
net_shown key f same (r ∷ rs) =
    ap (λ x. x ∷ map shown_net (at_net key f rs)) (by_test (same_key r.key key)) ∙ ap
    (λ l. (if same_key r.key key then f (shown_net r) else shown_net r) ∷ l) (net_shown key f same rs)
  where
    by_test : (b : Bool) → shown_net (if b then f r else r) ≡ (if b then f (shown_net r) else shown_net r)
    by_test true = same r
    by_test false = refl

kept_shown : (sender kept : ℕ) (r : NetKey) → shown_net (net_kept sender kept r) ≡ net_kept sender kept (shown_net r)
kept_shown sender kept r = by_live r.live
  where
    by_live : (b : Bool) → record r { floors = if b then floor_kept sender kept r.floors else [] }
        ≡ record r { floors = floor_kept sender kept (if b then r.floors else []) }
    by_live true = refl
    by_live false = refl

sealed_shown : (layer : Layer) (t : Term) (s : NodeState) → shown (sealed_at layer t s) ≡ sealed_at layer t (shown s)
unfolding shown
sealed_shown Nwk t s = ap (λ l. record s { nets = l }) (net_shown t.base (next_at (t.counter + 1)) (λ r. refl) s.nets)
sealed_shown Aps t s = refl

sealing_shown : (t : Term) (s : NodeState) → shown (after_sealing t s) ≡ after_sealing t (shown s)
unfolding after_sealing
sealing_shown t s = sealed_shown t.layer t s

heard_shown : (layer : Layer) (key : Bytes) (sender counter : ℕ) (s : NodeState)
    → shown (after_hearing layer key sender counter s) ≡ after_hearing layer key sender counter (shown s)
unfolding shown after_hearing
heard_shown Nwk key sender counter s =
    ap (λ l. record s { nets = l })
    (net_shown key (net_kept sender (counter + 1)) (kept_shown sender (counter + 1)) s.nets)
heard_shown Aps key sender counter s = refl

accepting_shown : (t : Term) (s : NodeState) → shown (after_accepting t s) ≡ after_accepting t (shown s)
unfolding after_accepting
accepting_shown t s = heard_shown t.layer t.base t.source t.counter s

all_sealed_shown : (ts : List Term) (s : NodeState) → shown (sealed_all ts s) ≡ sealed_all ts (shown s)
all_sealed_shown [] s = refl
all_sealed_shown (t ∷ ts) s = all_sealed_shown ts (after_sealing t s) ∙ ap (sealed_all ts) (sealing_shown t s)

all_accepted_shown : (ts : List Term) (s : NodeState) → shown (accepted_all ts s) ≡ accepted_all ts (shown s)
all_accepted_shown [] s = refl
all_accepted_shown (t ∷ ts) s = all_accepted_shown ts (after_accepting t s) ∙ ap (accepted_all ts)
    (accepting_shown t s)

-- The tables after an event are what is shown of the state after the answer that it has.
pub answered_tables : (changes : List Change) (accepts seals : List Term) (a : Answer) (s : NodeState) → edits changes
    ≡ a.edits → accepts ≡ a.accepts → seals ≡ a.seals → tables_after changes accepts seals s ≡ shown (answered a s)
unfolding answered
answered_tables changes accepts seals a s made heard sealed =
    ap (λ (ts : List Term). sealed_all ts (accepted_all accepts (shown (applied_all (edits changes) s)))) sealed
    ∙ ap (λ (ts : List Term). sealed_all a.seals (accepted_all ts (shown (applied_all (edits changes) s)))) heard
    ∙ ap (λ (es : List Edit). sealed_all a.seals (accepted_all a.accepts (shown (applied_all es s)))) made
    ∙ sym (ap (sealed_all a.seals) (all_accepted_shown a.accepts (applied_all a.edits s)))
    ∙ sym (all_sealed_shown a.seals (accepted_all a.accepts (applied_all a.edits s)))

pub value_leads : (changes : List Change) (accepts seals : List Term) (a : Answer) (c d : CoreValue) → edits changes
    ≡ a.edits → accepts ≡ a.accepts → seals ≡ a.seals → IsValueAfter changes accepts seals c d
    → d ≡ record { setting = c.setting; tables = shown (answered a c.tables) }
value_leads changes accepts seals a c d made heard sealed after =
    after ∙ ap (λ (s : NodeState). let x : CoreValue = record { setting = c.setting; tables = s } in x)
    (answered_tables changes accepts seals a c.tables made heard sealed)
