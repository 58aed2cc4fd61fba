-- Changes one after the other: if each fits, the rules are kept after all of them.
use Rattle.std.proofs.Common.{◌≡◌, List, [], ◌∷◌, ◌++◌, refl, ◌∙◌, true}
use Rattle.zb_model.specs.Data.{Draw, Edit, Reserve, Floor, Start, Moved}
use Rattle.zb_model.specs.State.{NodeState, applied, applied_all}
use Rattle.zb_model.specs.Fits.{keeps_rules, may_change, fits, all_fit}
use Rattle.law_change_fits.specs.Fitting.{leaves_rules}
use Rattle.law_change_fits.proofs.Tests.{both}
use Rattle.law_change_fits.proofs.FitLaws.{fits_is}

-- a change that may be made and leaves the rules fits
pub change_fits : (e : Edit) (s : NodeState) → keeps_rules s ≡ true → may_change e s ≡ true → leaves_rules e s ≡ true
    → fits e s ≡ true
change_fits e s kept may leaves = fits_is e s kept ∙ rw (may, leaves) refl

-- and the rules are kept after it
pub kept_after : (e : Edit) (s : NodeState) → keeps_rules s ≡ true → fits e s ≡ true → keeps_rules (applied e s) ≡ true
unfolding fits applied
kept_after (Reserve layer limit) s kept fit = (both (may_change (Reserve layer limit) s) _ fit).1
kept_after (Floor layer key sender value) s kept fit = (both (may_change (Floor layer key sender value) s) _ fit).1
kept_after (Start key value) s kept fit = (both (may_change (Start key value) s) _ fit).1
kept_after (Moved (Draw key)) s kept fit = kept
kept_after (Moved m) s kept fit = (both (may_change (Moved m) s) _ fit).1

pub fit_then : (e : Edit) (es : List Edit) (s : NodeState) → fits e s ≡ true → all_fit es (applied e s) ≡ true
    → all_fit (e ∷ es) s ≡ true
unfolding all_fit
fit_then e es s one more = rw (one, more) refl

pub fit_none : (s : NodeState) → all_fit [] s ≡ true
unfolding all_fit
fit_none s = refl

pub fit_append : (a b : List Edit) (s : NodeState) → all_fit a s ≡ true → all_fit b (applied_all a s) ≡ true
    → all_fit (a ++ b) s ≡ true
unfolding all_fit applied_all
fit_append [] b s one two = two
fit_append (e ∷ es) b s one two =
    let parts = both (fits e s) (all_fit es (applied e s)) one in
    rw parts.0 (fit_append es b (applied e s) parts.1 two)

-- the rules are kept after all changes that fit
pub kept_all : (es : List Edit) (s : NodeState) → keeps_rules s ≡ true → all_fit es s ≡ true
    → keeps_rules (applied_all es s) ≡ true
unfolding all_fit applied_all
kept_all [] s kept fit = kept
kept_all (e ∷ es) s kept fit =
    let parts = both (fits e s) (all_fit es (applied e s)) fit in
    kept_all es (applied e s) (kept_after e s kept parts.0) parts.1
