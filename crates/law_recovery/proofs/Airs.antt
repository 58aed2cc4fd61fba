-- The frames on the air after the lines of an answer: those before, and the answer's own.
use Rattle.std.proofs.Common.{◌≡◌, ℕ, ◌+◌, ◌-◌, false, List, [], ◌∷◌, ◌++◌, map, fold, length, Option, Some, None, option_to_list, slice_get, nat_eq, refl, sym, ap, ◌∙◌, arith, ne_eqb}
use Rattle.std.specs.List.{AllByRecursion}
use Rattle.std.proofs.lemmas.List.{append-nil}
use Rattle.std.proofs.lemmas.List.Sums.{fold-append}
use Rattle.zb_model.specs.Answer.{Answer}
use Rattle.zb_model.specs.Data.{Bytes, Edit, Place, Reason}
use Rattle.zb_model.specs.Lines.{Line, Changed, Accept, Seal}
use Rattle.zb_model.specs.Play.{change_lines, commit_lines, refuse_lines, send_lines, told_lines, frame_at}
use Rattle.zb_model.specs.Readings.{air, air_line}
use Rattle.law_run_steps.specs.Steps.{whole_lines}
use Rattle.law_run_steps.proofs.Spared.{fold-left}
use Rattle.law_run_steps.proofs.Walks.{map-all, commit-all}

abbrev Silent : List Bytes → Line → Type 0
Silent frames l = air_line frames l ≡ frames

over : (frames : List Bytes) (xs ys : List Line) → AllByRecursion (Silent frames) xs → fold air_line frames (xs ++ ys)
    ≡ fold air_line frames ys
over frames xs ys all = fold-append air_line frames xs ys ∙ ap (λ (l : List Bytes). fold air_line l ys)
    (fold-left air_line frames xs all)

refuse-silent : (frames : List Bytes) (number n : ℕ) (place : Place) (o : Option Reason)
    → AllByRecursion (Silent frames) (refuse_lines number n place o)
refuse-silent frames number n place None = tt
refuse-silent frames number n place (Some reason) = (refl, tt)

sent : (frames : List Bytes) (number n frame : ℕ) (o : Option Bytes)
    → fold air_line frames (send_lines number (Some n) frame o) ≡ frames ++ option_to_list o
sent frames number n frame None = sym (append-nil frames)
sent frames number n frame (Some bytes) = refl

told : (frames : List Bytes) (number n frame : ℕ) (a : Answer) → fold air_line frames (told_lines number n frame a)
    ≡ frames ++ option_to_list a.frame
unfolding told_lines
told frames number n frame a =
    over frames (map (Accept number n) a.accepts) _ (map-all (Silent frames) (Accept number n) (λ t. refl) a.accepts)
    ∙ over frames (refuse_lines number n a.place a.refusal) _ (refuse-silent frames number n a.place a.refusal)
    ∙ over frames (map (Seal number n) a.seals) _ (map-all (Silent frames) (Seal number n) (λ t. refl) a.seals)
    ∙ sent frames number n frame a.frame

stored : (frames : List Bytes) (number n : ℕ) (es : List Edit) (more : List Line)
    → fold air_line frames ((change_lines number n es ++ commit_lines number n es) ++ more) ≡ fold air_line frames more
stored frames number n es more =
    fold-append air_line frames (change_lines number n es ++ commit_lines number n es) more
    ∙ ap (λ (l : List Bytes). fold air_line l more)
    (over frames (change_lines number n es) (commit_lines number n es)
    (map-all (Silent frames) (Changed number n) (λ e. refl) es) ∙ fold-left air_line frames
    (commit_lines number n es) (commit-all (Silent frames) number n refl es))

pub air-after : (h : List Line) (number n : ℕ) (a : Answer) → air (h ++ whole_lines h number n a) ≡ air h
    ++ option_to_list a.frame
unfolding air
air-after h number n a =
    fold-append air_line [] h (whole_lines h number n a) ∙ stored (fold air_line [] h) number n a.edits
    (told_lines number n (length (air h) + 1) a) ∙ told (fold air_line [] h) number n (length (air h) + 1) a

last_of : (frames : List Bytes) (bytes : Bytes) → slice_get (frames ++ bytes ∷ []) (length frames) ≡ Some bytes
last_of [] bytes = refl
last_of (x ∷ frames) bytes = last_of frames bytes

-- the frame that was sent last has the number of frames on the air
pub last-frame : (h : List Line) (frames : List Bytes) (bytes : Bytes) → air h ≡ frames ++ bytes ∷ []
    → frame_at h (length frames + 1) ≡ Some bytes
last-frame h frames bytes e =
    let some : nat_eq (length frames + 1) 0 ≡ false = ne_eqb (length frames + 1) 0 (λ z. absurd (omega (arith, z))) in
    let place : length frames + 1 - 1 ≡ length frames = omega arith in
    rw (some, place, e) (last_of frames bytes)
