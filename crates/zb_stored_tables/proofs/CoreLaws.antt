-- A core over tables keeps the law of cores: an entry leads from its record to the next one's, and a record gives it
-- again.
use Rattle.std.proofs.Common.{◌≡◌, ◌≢◌, ℕ, Bool, true, false, if◌then◌else◌, List, [], ◌∷◌, ◌++◌, length, get_or, Result, Ok, Err, refl, sym, ap, ◌∙◌, subst, arith}
use Rattle.std.proofs.lemmas.Bool.{eqb-true}
use Rattle.std.specs.Prelude.{Some, None, ◌==◌}
use Rattle.zb_node_types.specs.declared.change.Change.{Change}
use Rattle.zb_node_types.specs.Changes.{edits}
use Rattle.law_change_fits.proofs.Shown.{rules_shown}
use Rattle.zb_host.specs.Plans.{Restored, gives, bad}
use Rattle.law_run.proofs.StoredChanges.{change_again, changes_again}
use Rattle.law_run.proofs.StoredFits.{rules_same, fits_same}
use Rattle.zb_model.specs.Data.{Role, Edit}
use Rattle.zb_model.specs.State.{NodeState, shown, after_boot, applied, applied_all}
use Rattle.zb_model.specs.Fits.{keeps_rules, fits, all_fit}
use Rattle.zb_model.specs.Record.{payload, record_of}
use Rattle.zb_record.specs.declared.version.Version.TheVariants.{First, Second, Third}
use Rattle.zb_record.specs.Ranges.{FitsBytes, fits_widths}
use Rattle.zb_record.specs.Records.{record_read}
use Rattle.zb_record.specs.Redoing.{redone}
use Rattle.zb_record.proofs.Entries.{entries_again}
use Rattle.zb_record.proofs.Sound.{read_kept}
use Rattle.zb_record.proofs.WholeAgain.{record_again}
use Rattle.zb_stored_tables.specs.Stored.{version_or, version_in, is_of_other, behind, state_behind, state_given, recorded, restored, IsKept, IsStorable, IsStoredAfter}
use Rattle.zb_stored_tables.proofs.Roles.{read_of_role, of_this_role}
use Rattle.zb_stored_tables.proofs.Widths.{AreBytes, read_fits}
use Rattle.zb_stored_tables.proofs.InMemory.{recorded_booted, boot_of_shown, shown_again}
use Rattle.zb_stored_tables.proofs.Made.{all_made_fits, shown_fits, booted_fits, fits_back, fits_as_stored}
use Rattle.zb_record.proofs.Tested.{fits_true, fits_from}
use Rattle.zb_stored_tables.proofs.Entries.{at_end, none_left, all_fit_rules, all_applied_role, shown_role, IsRuled, entries_ruled, entries_fit, no_entries}

abbrev gave : NodeState → Result NodeState ℕ
gave t = Ok t

state_or : NodeState → Result NodeState ℕ → NodeState
state_or d (Ok t) = t
state_or d (Err at) = d

same_given : (s t : NodeState) → gave s ≡ gave t → s ≡ t
unfolding state_or
same_given s t e = ap (state_or s) e

-- ---- what a record and entries give

read_ruled : (role : Role) (r : List ℕ) (s : NodeState) → record_read r ≡ gave s → s.role ≡ role → IsRuled role s
unfolding shown
read_ruled role r s read role_is = let kept =
    read_kept r s read in
    record { role_is = role_is; rules = kept.rules; forgets = ap (λ l. record s { nets = l }) kept.forgets }

-- how a state came from them
pub record Begun (role : Role) (r q : List ℕ) (u : NodeState) : Type 0 where
  pub start : NodeState
  pub read : record_read r ≡ gave start
  pub role_is : start.role ≡ role
  pub reached : NodeState
  pub made : redone (version_in r) q start ≡ at_end reached []
  pub booted : u ≡ after_boot reached

pub begun : (role : Role) (r q : List ℕ) (u : NodeState) → state_given role r q ≡ gave u → Begun role r q u
unfolding state_given
begun role r q u e = by_role (is_of_other role r) refl e
  where
    by_end : (s t : NodeState) (x : Result (List ℕ) ℕ) → record_read r ≡ gave s → s.role ≡ role
        → redone (version_in r) q s ≡ (t, x) → behind (length r) (length q) t x ≡ gave u → Begun role r q u
    by_end s t (Ok rest) is role_is made e =
        record {
          start = s;
          read = is;
          role_is = role_is;
          reached = t;
          made = made ∙ ap (at_end t) (none_left (version_in r) q rest s t made);
          booted =
              sym (same_given (after_boot t) u e);
        }
    by_end s t (Err left) is role_is made e = absurd (cc)

    by_read : (x : Result NodeState ℕ) → record_read r ≡ x → is_of_other role r ≡ false → state_behind r q x ≡ gave u
        → Begun role r q u
    by_read (Ok s) is other e = by_end s (redone (version_in r) q s).0 (redone (version_in r) q s).1 is
        (read_of_role role r s is other) refl e
    by_read (Err left) is other e = absurd (cc)

    by_role : (b : Bool) → is_of_other role r ≡ b → (if b then Err 1 else state_behind r q (record_read r)) ≡ gave u
        → Begun role r q u
    by_role true is e = absurd (cc)
    by_role false is e = by_read (record_read r) refl is e

given_back : (role : Role) (r q : List ℕ) (s t : NodeState) → record_read r ≡ gave s → s.role ≡ role
    → redone (version_in r) q s ≡ at_end t [] → state_given role r q ≡ gave (after_boot t)
unfolding state_given
given_back role r q s t read role_is made = rw (of_this_role role r s read role_is, read, made) refl

pub restored_back : (role : Role) (r q : List ℕ) (u : NodeState) → state_given role r q ≡ gave u → FitsBytes u
    → restored role r q ≡ gives (record_of u)
unfolding restored
restored_back role r q u is widths = rw (is, fits_true u widths) refl

-- a record that isn't of the first version
later_version : (r : List ℕ) → get_or r 0 0 ≢ 1 → version_in r ≢ First
later_version [] other = λ e. absurd (cc)
later_version (b ∷ bytes) other = λ e. by_one (b == 1) (b == 2) (b == 3) refl e
  where
    by_one : (one two three : Bool) → (b == 1) ≡ one → version_or (if one then Some First else if two then Some Second
        else if three then Some Third else None) ≡ First → ⊥
    by_one true two three is e = other (eqb-true b 1 is)
    by_one false true three is e = absurd (cc)
    by_one false false true is e = absurd (cc)
    by_one false false false is e = absurd (cc)

-- a state whose record is what they give
record Stands (role : Role) (r q w : List ℕ) : Type 0 where
  state : NodeState
  is : state_given role r q ≡ gave state
  widths : FitsBytes state
  same : record_of state ≡ w

content_of : Restored → List ℕ
content_of (gives w) = w
content_of (bad at) = []

abbrev IsGiven : Restored → Type 0
IsGiven (gives w) = Unit {0}
IsGiven (bad at) = ⊥

not_given : {A : Type 0} (at : ℕ) (w : List ℕ) → bad at ≡ gives w → A
not_given at w e = absurd (subst IsGiven (sym e) tt)

stands : (role : Role) (r q w : List ℕ) → restored role r q ≡ gives w → Stands role r q w
unfolding restored content_of
stands role r q w e = by_state (state_given role r q) refl e
  where
    by_widths : (u : NodeState) (b : Bool) → state_given role r q ≡ gave u → fits_widths u ≡ b
        → (if b then gives (record_of u) else bad 0) ≡ gives w → Stands role r q w
    by_widths u true is widths e = record { state = u; is = is; widths = fits_from u widths; same = ap content_of e }
    by_widths u false is widths e = not_given 0 w e

    by_state : (x : Result NodeState ℕ) → state_given role r q ≡ x → recorded x ≡ gives w → Stands role r q w
    by_state (Ok u) is e = by_widths u (fits_widths u) is refl e
    by_state (Err at) is e = not_given at w e

-- ---- states with one record

-- Kept states with one record differ in memory alone.
alike : (s t : NodeState) → keeps_rules s ≡ true → FitsBytes s → shown s ≡ s → keeps_rules t ≡ true → FitsBytes t
    → shown t ≡ t → record_of s ≡ record_of t → after_boot s ≡ after_boot t
alike s t s_rules s_fits s_shown t_rules t_fits t_shown same =
    let read = sym (record_again s s_rules s_fits) ∙ ap record_read same ∙ record_again t t_rules t_fits in
    ap after_boot (sym s_shown) ∙ boot_of_shown s ∙ same_given _ _ read ∙ sym (boot_of_shown t) ∙ ap after_boot t_shown

-- What fits the one fits the other, and leads to states that differ in memory alone.
fit_alike : (es : List Edit) (s t : NodeState) → after_boot s ≡ after_boot t → all_fit es s ≡ all_fit es t
unfolding all_fit
fit_alike [] s t same = refl
fit_alike (e ∷ es) s t same =
    let one = sym (fits_same e s) ∙ ap (fits e) same ∙ fits_same e t in
    let next = sym (change_again e s) ∙ ap (λ u. after_boot (applied e u)) same ∙ change_again e t in
    rw (one, fit_alike es (applied e s) (applied e t) next) refl

made_alike : (es : List Edit) (s t : NodeState) → after_boot s ≡ after_boot t → after_boot (shown (applied_all es s))
    ≡ after_boot (shown (applied_all es t))
made_alike es s t same =
    let next = sym (changes_again es s) ∙ ap (λ u. after_boot (applied_all es u)) same ∙ changes_again es t in
    boot_of_shown (applied_all es s) ∙ ap shown next ∙ sym (boot_of_shown (applied_all es t))

-- ---- after a plan

pub record IsKeptAfter (role : Role) (t : NodeState) : Type 0 where
  pub role_is : t.role ≡ role
  pub rules : keeps_rules t ≡ true
  pub widths : FitsBytes t

boot_role : (s : NodeState) → (after_boot s).role ≡ s.role
unfolding after_boot
boot_role s = refl

-- The tables after a plan keep the rules, fit the widths and have the same role.
pub kept_after : (role : Role) (s t : NodeState) (cs : List Change) → IsStorable role s cs → IsStoredAfter cs s t
    → IsKeptAfter role t
kept_after role s t cs plan after =
    let made = applied_all (edits cs) s in
    let rules = rules_shown made (all_fit_rules (edits cs) s plan.kept.rules plan.fit) in
    let widths = shown_fits made (all_made_fits cs s plan.range plan.kept.widths) in
    record {
      role_is = sym (boot_role t) ∙ ap (λ (u : NodeState). u.role) after ∙ boot_role (shown made) ∙ shown_role made ∙
          all_applied_role (edits cs) s ∙ plan.role_is;
      rules = sym (rules_same t) ∙ ap keeps_rules after ∙ rules_same (shown made) ∙ rules;
      widths = fits_as_stored (shown made) t after widths;
    }

-- ---- the law

-- An entry after what led to tables that differ from these in memory alone.
reached_adds : (role : Role) (s t : NodeState) (cs : List Change) (r q : List ℕ) (u : NodeState)
    (b : Begun role r q u) → IsStorable role s cs → IsStoredAfter cs s t → get_or r 0 0 ≢ 1
    → after_boot b.reached ≡ after_boot s → state_given role r (q ++ payload (edits cs)) ≡ gave (after_boot t)
reached_adds role s t cs r q u b plan after later same =
    let ruled = entries_ruled (version_in r) role q [] b.start b.reached (read_ruled role r b.start b.read b.role_is)
    b.made in
    let fit = fit_alike (edits cs) b.reached s same ∙ plan.fit in
    let made = entries_again (version_in r) q cs b.start b.reached (later_version r later) ruled.rules ruled.forgets
    plan.range fit b.made in
    given_back role r (q ++ payload (edits cs)) b.start (shown (applied_all (edits cs) b.reached)) b.read b.role_is
    made
    ∙ ap gave (made_alike (edits cs) b.reached s same ∙ sym after)

pub state_adds : (role : Role) (s t : NodeState) (cs : List Change) (r q : List ℕ) → IsStorable role s cs
    → IsStoredAfter cs s t → get_or r 0 0 ≢ 1
    → state_given role r q ≡ gave (after_boot s) → state_given role r (q ++ payload (edits cs)) ≡ gave (after_boot t)
state_adds role s t cs r q plan after later is =
    let b = begun role r q (after_boot s) is in
    reached_adds role s t cs r q (after_boot s) b plan after later (sym b.booted)

-- the core of a state with which a node boots
booted_core : (role : Role) (s t : NodeState) (cs : List Change) (r q : List ℕ) → IsStorable role s cs
    → IsStoredAfter cs s t → state_given role r q ≡ gave (after_boot t) → restored role r q ≡ gives (record_of t)
booted_core role s t cs r q plan after given =
    restored_back role r q (after_boot t) given (booted_fits t (kept_after role s t cs plan after).widths) ∙ ap
    (λ w. gives w) (recorded_booted t)

pub core_adds : (role : Role) (s t : NodeState) (cs : List Change) (r q : List ℕ) → IsStorable role s cs
    → IsStoredAfter cs s t → get_or r 0 0 ≢ 1
    → restored role r q ≡ gives (record_of s) → restored role r (q ++ payload (edits cs)) ≡ gives (record_of t)
core_adds role s t cs r q plan after later is =
    let stood = stands role r q (record_of s) is in
    let b = begun role r q stood.state stood.is in
    let ruled = entries_ruled (version_in r) role q [] b.start b.reached (read_ruled role r b.start b.read b.role_is)
    b.made in
    let widths = fits_back b.reached (subst FitsBytes b.booted stood.widths) in
    let recorded_is = sym (recorded_booted b.reached) ∙ ap record_of (sym b.booted) ∙ stood.same in
    let same = alike b.reached s ruled.rules widths ruled.forgets plan.kept.rules plan.kept.widths plan.kept.forgets
    recorded_is in
    booted_core role s t cs r (q ++ payload (edits cs)) plan after
    (reached_adds role s t cs r q stood.state b plan after later same)

boot_twice : (s : NodeState) → after_boot (after_boot s) ≡ after_boot s
unfolding applied_all
boot_twice s = changes_again [] s

pub state_keeps : (role : Role) (s t : NodeState) (cs : List Change) → IsStorable role s cs → IsStoredAfter cs s t
    → state_given role (record_of t) [] ≡ gave (after_boot t)
state_keeps role s t cs plan after =
    let kept = kept_after role s t cs plan after in
    let made = shown (applied_all (edits cs) s) in
    let start = shown (after_boot t) in
    let read = record_again t kept.rules kept.widths in
    let given = given_back role (record_of t) [] start start read
    (shown_role (after_boot t) ∙ boot_role t ∙ kept.role_is) (no_entries (version_in (record_of t)) start) in
    let forgets = ap shown after ∙ sym (boot_of_shown made) ∙ ap after_boot (shown_again (applied_all (edits cs) s)) ∙
    sym after in
    given ∙ ap gave (ap after_boot forgets ∙ boot_twice t)

pub core_keeps : (role : Role) (s t : NodeState) (cs : List Change) → IsStorable role s cs → IsStoredAfter cs s t
    → restored role (record_of t) [] ≡ gives (record_of t)
core_keeps role s t cs plan after = booted_core role s t cs (record_of t) [] plan after
    (state_keeps role s t cs plan after)

pub core_newest : (s : NodeState) → get_or (record_of s) 0 0 ≢ 1
unfolding record_of
core_newest s = λ is. omega (arith, is)

pub core_idle : (s t : NodeState) → shown s ≡ s → IsStoredAfter [] s t → record_of t ≡ record_of s
unfolding applied_all
core_idle s t forgets after = sym (recorded_booted t) ∙ ap record_of after ∙ recorded_booted (shown s) ∙ ap record_of
    forgets

-- A plan without changes is one of any core over tables.
pub none_storable : (role : Role) (s : NodeState) → s.role ≡ role → IsKept s → IsStorable role s []
unfolding all_fit payload
none_storable role s role_is kept =
    record { role_is = role_is; kept = kept; range = tt; fit = refl; short = omega arith }

-- ---- what bytes give

pub bytes_give_kept : (role : Role) (r q : List ℕ) (u : NodeState) → AreBytes r → AreBytes q → state_given role r q
    ≡ gave u → IsKept u × (u.role ≡ role)
bytes_give_kept role r q u ar aq e =
    let b = begun role r q u e in
    let ruled = entries_ruled (version_in r) role q [] b.start b.reached (read_ruled role r b.start b.read b.role_is)
    b.made in
    let widths =
    booted_fits b.reached
    (entries_fit (version_in r) q [] b.start b.reached aq (read_fits r b.start ar b.read) b.made) in
    let rules = rules_same b.reached ∙ ruled.rules in
    let forgets = sym (boot_of_shown b.reached) ∙ ap after_boot ruled.forgets in (
      record {
        rules = ap keeps_rules b.booted ∙ rules;
        forgets = ap shown b.booted ∙ forgets ∙ sym b.booted;
        widths = subst FitsBytes (sym b.booted) widths;
      },
      ap (λ (s : NodeState). s.role) b.booted ∙ boot_role b.reached ∙ ruled.role_is,
    )
