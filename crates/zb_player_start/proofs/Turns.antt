-- Lines told node by node.
use Rattle.std.proofs.Common.{◌≡◌, ℕ, zero, suc, ◌+◌, ◌<◌, ◌≤◌, Result, Ok, Err, List, [], ◌∷◌, ◌++◌, take, get_or, length, refl, sym, ap, ◌∙◌, subst, arith, Option}
use Rattle.std.specs.Io.KnownBytes.{append_known}
use Rattle.std.specs.Prelude.{flat_map, OnOk}
use Rattle.std.specs.List.{AllByRecursion}
use Rattle.std.proofs.lemmas.List.{append-nil, map_more, take_more}
use Rattle.std.proofs.lemmas.List.Concat.{flat_map-cons}
use Rattle.std.proofs.lemmas.Grind.{flat_map-append}
use Rattle.zb_model.specs.Data.{Station}
use Rattle.zb_model.specs.Lines.{Line, Declared}
use Rattle.zb_trace_model.specs.Said.{line_text, text_of}
use Rattle.zb_trace_model.proofs.Texts.{text_append}
use Rattle.zb_sched.specs.declared.schedule.Node.{Node as CodeNode}
use Rattle.zb_player_scribe.specs.Kept.{Kept, Tells}
use Rattle.zb_player_scribe.specs.declared.scribe.Scribe.{Scribe}
use Rattle.zb_player_scribe.specs.Turns.{append_nothing, append_twice, told_in_turn}
use Rattle.zb_player_start.specs.Starts.{AreKnown, IsKnown, declared_lines, station_of}

pub each : {X : Type 0} (P : X → Type 0) (xs : List X) (i : ℕ) (x : X) → i < length xs → x ≡ get_or xs i x
    → AllByRecursion P xs → P x
each P [] i x within is all = absurd (omega (arith, within))
each P (y ∷ xs) zero x within is all = subst P (sym is) all.0
each P (y ∷ xs) (suc i) x within is all = each P xs i x (omega (arith, within)) is all.1

lines_of_one : (f : CodeNode → List Line) (d : CodeNode) → flat_map f (d ∷ []) ≡ f d
lines_of_one f d = flat_map-cons f d [] ∙ append-nil (f d)

lines_more : (f : CodeNode → List Line) (ds : List CodeNode) (i : ℕ) (d : CodeNode) → i < length ds → d
    ≡ get_or ds i d → flat_map f (take (i + 1) ds) ≡ flat_map f (take i ds) ++ f d
lines_more f ds i d within is =
    ap (flat_map f) (take_more ds i d within ∙ ap (λ (x : CodeNode). take i ds ++ x ∷ []) (sym is)) ∙ flat_map-append
    f (take i ds) (d ∷ [])
    ∙ ap (λ zs. flat_map f (take i ds) ++ zs) (lines_of_one f d)

-- the lines of one node more
pub turn : (f : CodeNode → List Line) (ds : List CodeNode) (i : ℕ) (d : CodeNode) → i < length ds → d ≡ get_or ds i d
    → (known : List Station) → AreKnown known ds
    → (old between new : Scribe) (before page after : Option (List ℕ))
    → Tells known (flat_map f (take i ds)) old before between page
    → (IsKnown known d → Tells known (f d) between page new after)
    → Tells known (flat_map f (take (i + 1) ds)) old before new after
turn f ds i d within is known all old between new before page after told more =
    subst (λ lines. Tells known lines old before new after) (sym (lines_more f ds i d within is))
    (told_in_turn known (flat_map f (take i ds)) (f d) old between new before page after told
    (more (each (IsKnown known) ds i d within is all)))

-- the line of one node more

declared_more : (ds : List CodeNode) (i : ℕ) (d : CodeNode) → i < length ds → d ≡ get_or ds i d
    → declared_lines (take (i + 1) ds) ≡ declared_lines (take i ds) ++ Declared (station_of d) ∷ []
declared_more ds i d within is =
    map_more (λ (x : CodeNode). Declared (station_of x)) ds i d within ∙ ap
    (λ (x : CodeNode). declared_lines (take i ds) ++ Declared (station_of x) ∷ []) (sym is)

one_text : (known : List Station) (m : Line) → text_of known (m ∷ []) ≡ line_text known m
unfolding text_of
one_text known m = append-nil (line_text known m)

pub node_page : (ds : List CodeNode) (i : ℕ) (d : CodeNode) → i < length ds → d ≡ get_or ds i d
    → (known : List Station) (before page after : Option (List ℕ))
    → page ≡ append_known before (text_of known (declared_lines (take i ds))) → after
    ≡ append_known page (line_text known (Declared (station_of d)))
    → after ≡ append_known before (text_of known (declared_lines (take (i + 1) ds)))
node_page ds i d within is known before page after told more =
    more ∙ ap (λ p. append_known p (line_text known (Declared (station_of d)))) told ∙ append_twice before
    (text_of known (declared_lines (take i ds))) (line_text known (Declared (station_of d)))
    ∙ ap (append_known before)
    (ap (λ zs. text_of known (declared_lines (take i ds)) ++ zs) (sym (one_text known (Declared (station_of d)))) ∙
    sym (text_append known (declared_lines (take i ds)) (Declared (station_of d) ∷ []))
    ∙ ap (text_of known) (sym (declared_more ds i d within is)))

pub node_kept : (ds : List CodeNode) (i : ℕ) (d : CodeNode) → i < length ds → d ≡ get_or ds i d
    → (between new : Scribe) → Kept (declared_lines (take i ds)) between
    → ((h : List Line) → Kept h between → Kept (h ++ Declared (station_of d) ∷ []) new)
    → Kept (declared_lines (take (i + 1) ds)) new
node_kept ds i d within is between new kept more =
    subst (λ lines. Kept lines new) (sym (declared_more ds i d within is)) (more (declared_lines (take i ds)) kept)

-- no node yet
pub no_text : (known : List Station) (page : Option (List ℕ)) → page ≡ append_known page (text_of known [])
unfolding text_of
no_text known page = sym (append_nothing page)

-- all nodes
pub whole : {X : Type 0} (xs : List X) (i : ℕ) → length xs ≤ i → take i xs ≡ xs
whole [] zero past = refl
whole [] (suc i) past = refl
whole (x ∷ xs) zero past = absurd (omega (arith, past))
whole (x ∷ xs) (suc i) past = ap (λ zs. x ∷ zs) (whole xs i (omega (arith, past)))

pub all_told : (f : CodeNode → List Line) (ds : List CodeNode) (i : ℕ) → length ds ≤ i
    → (known : List Station) (old new : Scribe) (before after : Option (List ℕ))
    → Tells known (flat_map f (take i ds)) old before new after → Tells known (flat_map f ds) old before new after
all_told f ds i past known old new before after told = subst (λ xs. Tells known (flat_map f xs) old before new after)
    (whole ds i past) told

-- what an Ok shows shows more
pub ok_map : {A E P Q : Type 0} (r : Result A E) → (P → Q) → OnOk r P → OnOk r Q
ok_map (Ok a) f p = f p
ok_map (Err e) f p = tt
