-- The next session finds what the one before left in the store: its tables, as after a boot.
use Rattle.std.proofs.Common.{◌≡◌, ℕ, ◌<◌, Bool, true, false, not, if◌then◌else◌, List, [], ◌∷◌, length, Some, Result, Ok, Err, refl, sym, ap, ◌∙◌, subst, arith}
use Rattle.std.specs.List.{concat}
use Rattle.zb_centre_store.specs.Standing.{StandsAs, found_on, found_store, found_tables}
use Rattle.zb_centre_store.specs.declared.fault.AdminFault.TheVariants.{BadStore}
use Rattle.zb_host.specs.Plans.{Restored, gives, bad}
use Rattle.zb_model.specs.Data.{Centre}
use Rattle.zb_model.specs.Record.{record_of}
use Rattle.zb_model.specs.State.{NodeState, after_boot, shown}
use Rattle.zb_record.proofs.Sound.{read_kept}
use Rattle.zb_record.proofs.Tested.{fits_from}
use Rattle.zb_record.proofs.WholeAgain.{record_again}
use Rattle.zb_record.specs.Ranges.{FitsBytes, fits_widths}
use Rattle.zb_record.specs.Records.{record_read}
use Rattle.zb_store.specs.Layout.{Standing, slot}
use Rattle.zb_stored_tables.proofs.CoreLaws.{begun}
use Rattle.zb_stored_tables.proofs.Entries.{IsRuled, entries_ruled}
use Rattle.zb_stored_tables.proofs.InMemory.{boot_of_shown, recorded_booted}
use Rattle.zb_stored_tables.proofs.Made.{fits_back}
use Rattle.zb_stored_tables.specs.Stored.{IsKept, recorded, restored, state_given, version_in}

abbrev pub gave : NodeState → Result NodeState ℕ
gave t = Ok t

state_or : NodeState → Result NodeState ℕ → NodeState
state_or d (Ok t) = t
state_or d (Err at) = d

same_given : (s t : NodeState) → gave s ≡ gave t → s ≡ t
unfolding state_or
same_given s t e = ap (state_or s) e

pub read_ruled : (r : List ℕ) (s : NodeState) → record_read r ≡ gave s → s.role ≡ Centre → IsRuled Centre s
unfolding shown
read_ruled r s read role_is = let kept =
    read_kept r s read in
    record { role_is = role_is; rules = kept.rules; forgets = ap (λ l. record s { nets = l }) kept.forgets }

-- what bytes give whose record is that of kept tables
given_same : (r q : List ℕ) (s t : NodeState) → IsKept s → state_given Centre r q ≡ gave t → fits_widths t ≡ true
    → record_of t ≡ record_of s → t ≡ shown (after_boot s)
given_same r q s t kept is widths same =
    let b = begun Centre r q t is in
    let ruled = entries_ruled (version_in r) Centre q [] b.start b.reached (read_ruled r b.start b.read b.role_is)
    b.made in
    let fits = fits_back b.reached (subst FitsBytes b.booted (fits_from t widths)) in
    let one_record = sym (recorded_booted b.reached) ∙ ap record_of (sym b.booted) ∙ same in
    let read = sym (record_again b.reached ruled.rules fits) ∙ ap record_read one_record ∙ record_again s kept.rules
    kept.widths in
    b.booted ∙ ap after_boot (sym ruled.forgets) ∙ boot_of_shown b.reached ∙ same_given (shown (after_boot b.reached))
    (shown (after_boot s)) read

store_found : (s : NodeState) (z : Standing) → IsKept s → restored Centre z.content (concat z.payloads)
    ≡ gives (record_of s) → found_store (Some z) ≡ Ok (Some (shown (after_boot s)))
unfolding restored
store_found s z kept e = by_state (state_given Centre z.content (concat z.payloads)) refl e
  where
    content_of : Restored → List ℕ
    content_of (gives w) = w
    content_of (bad at) = []

    by_widths : (t : NodeState) (b : Bool) → state_given Centre z.content (concat z.payloads) ≡ gave t → fits_widths t
        ≡ b → (if b then gives (record_of t) else bad 0) ≡ gives (record_of s)
        → (if b then Ok (Some t) else Err (BadStore 0)) ≡ Ok (Some (shown (after_boot s)))
    by_widths t true is widths e =
        ap (λ (u : NodeState). Ok (Some u))
        (given_same z.content (concat z.payloads) s t kept is widths (ap content_of e))
    by_widths t false is widths e = absurd (cc)

    by_state : (x : Result NodeState ℕ) → state_given Centre z.content (concat z.payloads) ≡ x → recorded x
        ≡ gives (record_of s) → found_tables x ≡ Ok (Some (shown (after_boot s)))
    by_state (Ok t) is e = by_widths t (fits_widths t) is refl e
    by_state (Err at) is e = absurd (cc)

pub slot_of_none : (second : Bool) → 0 < length (slot second []) → ⊥
unfolding slot
slot_of_none true lt = omega (arith, lt)
slot_of_none false lt = omega (arith, lt)

pub found_again : (s : NodeState) (image : List ℕ) → IsKept s → StandsAs (Some s) image → found_on image
    ≡ Ok (Some (shown (after_boot s)))
unfolding found_on
found_again s [] kept (z, whole, given) = absurd (slot_of_none (not z.second) whole.other_gate)
found_again s (byte ∷ bytes) kept (z, whole, given) = ap found_store whole.stands ∙ store_found s z kept given
