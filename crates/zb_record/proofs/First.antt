-- Changes after a record: the rules for records hold after them. This includes version 1, where two changes have
-- another effect.
use Rattle.std.proofs.Common.{◌≡◌, ℕ, List, [], ◌∷◌, ◌++◌, map, refl, sym, ap, ◌∙◌, subst, Bool, true, false, if◌then◌else◌}
use Rattle.std.proofs.lemmas.Bool.{not-true}
use Rattle.std.proofs.lemmas.List.{map-append}
use Rattle.zb_model.specs.Data.{Bytes, Draw, DropNet, DropLink, Install, Active, Row, Pair, Became, Live, Removed, Roll, Told, Untold, Edit, Reserve, Floor, Start, Moved, Move, Nwk, Aps}
use Rattle.zb_model.specs.State.{NodeState, NetKey, same_key, at_net, has_net, new_net, given_net, applied, shown}
use Rattle.zb_model.specs.Fits.{keeps_rules, rows_have_room, keys_differ, at_most_two_live, active_is_live, partners_agree, links_are_marked, floors_are_kept, limits_are_started, role_is_kept, pairs_are_kept, fits, may_change}
use Rattle.law_change_fits.specs.Fitting.{leaves_rules}
use Rattle.law_change_fits.proofs.Tests.{both, neither, all_map}
use Rattle.law_change_fits.proofs.Parts.{rules_of, floors_rule, same_key_of}
use Rattle.law_change_fits.proofs.Nets.{Mild, mild_at, mild_kept}
use Rattle.law_change_fits.proofs.FitLaws.{fits_is, change_rules}
use Rattle.law_change_fits.proofs.Shown.{rules_shown}
use Rattle.zb_record.specs.declared.version.Version.{Version}
use Rattle.zb_record.specs.declared.version.Version.TheVariants.{First, Second, Third}
use Rattle.zb_record.specs.Redoing.{limited, with_limit, with_net, first_applied, first_fits, fits_behind, applied_behind}

-- a change that fits keeps the rules
pub fit_kept : (e : Edit) (s : NodeState) → keeps_rules s ≡ true → fits e s ≡ true → keeps_rules (applied e s) ≡ true
fit_kept e s kept fit =
    let parts = both (may_change e s) (leaves_rules e s) (sym (fits_is e s kept) ∙ fit) in
    change_rules e s (rules_of s kept) parts.0 ∙ parts.1

-- ---- one limit for all rows

declared_kept : (n : ℕ) (s : NodeState) → keeps_rules s ≡ true → keeps_rules (record s { declared = n }) ≡ true
unfolding keeps_rules rows_have_room keys_differ at_most_two_live active_is_live partners_agree links_are_marked
    floors_are_kept limits_are_started role_is_kept pairs_are_kept
declared_kept n s kept = kept

limited_is_mild : (limit : ℕ) → Mild (limited limit)
limited_is_mild limit = record { key = λ r. refl; live = λ r. refl; limit = λ r e. refl }

pub limit_kept : (limit : ℕ) (s : NodeState) → keeps_rules s ≡ true → keeps_rules (with_limit limit s) ≡ true
limit_kept limit s kept =
    let r = rules_of s kept in
    let floors = all_map floors_rule floors_rule (limited limit) (λ x e. e) s.nets r.floors in
    declared_kept limit (record s { nets = map (limited limit) s.nets })
    (mild_kept (limited limit) (limited_is_mild limit) s r floors)

-- ---- a new row with this limit

abbrev goes_on : ℕ → NetKey → NetKey
goes_on limit r = record r { started = true; limit = limit; next = limit }

goes_on_is_mild : (limit : ℕ) → Mild (goes_on limit)
goes_on_is_mild limit = record { key = λ r. refl; live = λ r. refl; limit = λ r e. refl }

none_at : (key : Bytes) (f : NetKey → NetKey) (nets : List NetKey) → has_net key nets ≡ false → at_net key f nets
    ≡ nets
none_at key f [] none = refl
none_at key f (r ∷ rs) none =
    let parts = neither (same_key r.key key) (has_net key rs) none in
    ap (λ b. (if b then f r else r) ∷ at_net key f rs) parts.0 ∙ ap (λ l. r ∷ l) (none_at key f rs parts.1)

given_at : (limit : ℕ) (key : Bytes) (sequence : ℕ) (nets : List NetKey) → has_net key nets ≡ false
    → at_net key (goes_on limit) (nets ++ new_net key sequence ∷ []) ≡ nets ++ given_net limit key sequence ∷ []
given_at limit key sequence nets none =
    map-append (λ (r : NetKey). if same_key r.key key then goes_on limit r else r) nets (new_net key sequence ∷ [])
    ∙ ap (λ l. l ++ (if same_key key key then given_net limit key sequence else new_net key sequence) ∷ [])
    (none_at key (goes_on limit) nets none)
    ∙ ap (λ b. nets ++ (if b then given_net limit key sequence else new_net key sequence) ∷ [])
    (same_key_of key key refl)

floors_at : (limit : ℕ) (key : Bytes) (r : NetKey) → floors_rule r ≡ true
    → floors_rule (if same_key r.key key then goes_on limit r else r) ≡ true
floors_at limit key r e = at_test (same_key r.key key)
  where
    at_test : (b : Bool) → floors_rule (if b then goes_on limit r else r) ≡ true
    at_test true = e
    at_test false = e

pub net_kept : (key : Bytes) (sequence : ℕ) (s : NodeState) → keeps_rules s ≡ true
    → fits (Moved (Install key sequence)) s ≡ true → keeps_rules (with_net key sequence s) ≡ true
unfolding applied
net_kept key sequence s kept fit =
    let may = both (may_change (Moved (Install key sequence)) s) (leaves_rules (Moved (Install key sequence)) s)
    (sym (fits_is (Moved (Install key sequence)) s kept) ∙ fit) in
    let none : has_net key s.nets ≡ false = not-true _ may.0 in
    let now : NodeState = record s { nets = s.nets ++ new_net key sequence ∷ [] } in
    let stands : keeps_rules now ≡ true = rw none at (fit_kept (Moved (Install key sequence)) s kept fit) in
    let r = rules_of now stands in
    let floors = all_map floors_rule floors_rule (λ (x : NetKey). if same_key x.key key then goes_on s.declared x
    else x) (floors_at s.declared key) now.nets r.floors in
    let changed = mild_kept (λ (x : NetKey). if same_key x.key key then goes_on s.declared x
    else x) (mild_at key (goes_on s.declared) (goes_on_is_mild s.declared)) now r floors in
    rw none
    (subst (λ l. keeps_rules (record s { nets = l }) ≡ true) (given_at s.declared key sequence s.nets none)
    changed)

-- ---- each change

first_moved : (m : Move) (s : NodeState) → keeps_rules s ≡ true → first_fits (Moved m) s ≡ true
    → keeps_rules (first_applied (Moved m) s) ≡ true
unfolding first_fits first_applied
first_moved (Draw key) s kept fit = fit_kept (Moved (Draw key)) s kept fit
first_moved (DropNet key) s kept fit = fit_kept (Moved (DropNet key)) s kept fit
first_moved (DropLink partner key) s kept fit = fit_kept (Moved (DropLink partner key)) s kept fit
first_moved (Install key sequence) s kept fit = net_kept key sequence s kept fit
first_moved (Active key) s kept fit = fit_kept (Moved (Active key)) s kept fit
first_moved (Row partner key attribute) s kept fit = fit_kept (Moved (Row partner key attribute)) s kept fit
first_moved (Pair first second key) s kept fit = absurd (cc)
first_moved (Became state) s kept fit = fit_kept (Moved (Became state)) s kept fit
first_moved (Live device) s kept fit = fit_kept (Moved (Live device)) s kept fit
first_moved (Removed device) s kept fit = fit_kept (Moved (Removed device)) s kept fit
first_moved (Roll sending) s kept fit = fit_kept (Moved (Roll sending)) s kept fit
first_moved (Told device) s kept fit = fit_kept (Moved (Told device)) s kept fit
first_moved (Untold device) s kept fit = fit_kept (Moved (Untold device)) s kept fit

first_kept : (e : Edit) (s : NodeState) → keeps_rules s ≡ true → first_fits e s ≡ true
    → keeps_rules (first_applied e s) ≡ true
unfolding first_fits first_applied
first_kept (Reserve Nwk limit) s kept fit = limit_kept limit s kept
first_kept (Reserve Aps limit) s kept fit = fit_kept (Reserve Aps limit) s kept fit
first_kept (Floor layer key sender value) s kept fit = fit_kept (Floor layer key sender value) s kept fit
first_kept (Start key value) s kept fit = absurd (cc)
first_kept (Moved m) s kept fit = first_moved m s kept fit

pub first_shown : (e : Edit) (s : NodeState) → keeps_rules s ≡ true → first_fits e s ≡ true
    → keeps_rules (shown (first_applied e s)) ≡ true
first_shown e s kept fit = rules_shown (first_applied e s) (first_kept e s kept fit)

-- A change that fits after a record keeps the rules, and so does what tables show of it.
pub behind_kept : (v : Version) (e : Edit) (s : NodeState) → keeps_rules s ≡ true → fits_behind v e s ≡ true
    → keeps_rules (applied_behind v e s) ≡ true
unfolding fits_behind applied_behind
behind_kept First e s kept fit = first_kept e s kept fit
behind_kept Second e s kept fit = fit_kept e s kept fit
behind_kept Third e s kept fit = fit_kept e s kept fit

pub behind_shown : (v : Version) (e : Edit) (s : NodeState) → keeps_rules s ≡ true → fits_behind v e s ≡ true
    → keeps_rules (shown (applied_behind v e s)) ≡ true
behind_shown v e s kept fit = rules_shown (applied_behind v e s) (behind_kept v e s kept fit)
