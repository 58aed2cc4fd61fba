-- The greatest counters that were accepted so far.
use Rattle.std.proofs.Common.{◌≡◌, ℕ, ◌+◌, ◌<◌, ◌≤◌, Bool, true, false, not, ◌||◌, ◌&&◌, List, [], ◌∷◌, ◌++◌, length, Option, Some, None, refl, ap, sym, ◌∙◌, bytes_eq, nat_eq, nat_le, cond, arith, le-leb, leb-true, leb-false, inl, inr}
use Rattle.std.specs.BTreeMap.{BTreeMap, get, is_at}
use Rattle.std.specs.List.{list_any}
use Rattle.std.specs.Option.{option_or}
use Rattle.std.specs.Ordering.{is_eq}
use Rattle.std.specs.Prelude.{if◌then◌else◌}
use Rattle.arrayvec.specs.ArrayString.{ArrayString}
use Rattle.zb_base.specs.declared.label.Layer.{Layer}
use Rattle.zb_base.specs.declared.label.Layer.TheVariants.{Nwk, Aps}
use Rattle.zb_seal.specs.declared.term.Term.{Term}
use Rattle.zb_trace.specs.declared.line.Line.{Line}
use Rattle.zb_trace.specs.declared.line.Line.TheVariants as line
use Rattle.zb_audit.specs.Failing.{failing, failing_from}
use Rattle.zb_audit.specs.Standing.{AreTaken, channel_cmp, channel_of, height, is_below}
use Rattle.zb_audit.specs.Taking.{bars, is_later, same_layer, same_sender}
use Rattle.zb_audit.specs.declared.taking.Channel.{Channel}
use Rattle.zb_audit.specs.declared.taking.Taking.{Taking}
use Rattle.zb_audit.proofs.Failing.{any_more, any_stays, first_more, first_stays, or_false}
use Rattle.zb_audit.proofs.FreshNonces.{part}
use Rattle.zb_base.specs.contracts.label.LayerOrd.TheImpl as layer_ord
use Rattle.zb_audit_names.proofs.Places.{itself, one_place, same_bytes}
use Rattle.zb_audit_names.specs.Naming.{place_in}
use Rattle.zb_model.specs.Data.{Bytes}
use Rattle.zb_trace_watch.proofs.Alike.{bytes_alike, bytes_eq_sym}
use Rattle.zb_trace_watch.proofs.Truth.{itself_number, number_so, same_number, same_truth, turned_number, either, or_left, or_right, and_left, and_right}

layer_alike : (a b : Layer) → is_eq (layer_ord.cmp-value.it a b) ≡ same_layer a b
layer_alike Nwk Nwk = refl
layer_alike Nwk Aps = refl
layer_alike Aps Nwk = refl
layer_alike Aps Aps = refl

layer_turned : (a b : Layer) → same_layer a b ≡ same_layer b a
layer_turned Nwk Nwk = refl
layer_turned Nwk Aps = refl
layer_turned Aps Nwk = refl
layer_turned Aps Aps = refl

-- The first test of a conjunction may be the last.
first_last : (a b c : Bool) → (a && (b && c)) ≡ (b && (c && a))
first_last true true true = refl
first_last true true false = refl
first_last true false c = refl
first_last false true true = refl
first_last false true false = refl
first_last false false c = refl

channel_alike : (i j : ℕ) (t u : Term) → is_eq (channel_cmp (channel_of i t) (channel_of j u))
    ≡ (nat_eq i j && same_sender u t)
unfolding same_sender
channel_alike i j t u =
    part _ _ _ _ (number_so i j)
    (part _ _ _ _ (number_so t.source.0 u.source.0 ∙ turned_number t.source.0 u.source.0)
    (part _ _ _ _ (layer_alike t.layer u.layer ∙ layer_turned t.layer u.layer)
    (bytes_alike t.base.0 u.base.0 ∙ bytes_eq_sym t.base.0 u.base.0))
    ∙ first_last (nat_eq u.source.0 t.source.0) (same_layer u.layer t.layer) (bytes_eq u.base.0 t.base.0))

pub none_taken : (heights : BTreeMap Channel ℕ) → heights.entries ≡ [] → (names : List Bytes)
    → AreTaken names (record { heights = heights; first = None }) []
unfolding failing failing_from
none_taken heights none names = record { heights = λ name i there t. rw none refl; first = refl }

-- A counter is written exactly if it is greater.
below_top : (x c : ℕ) (old : Option ℕ) → is_below c old ≡ false → nat_le x c ≡ (is_below x old || nat_le x c)
below_top x c None e = refl
below_top x c (Some top) e =
    let above : top < c = leb-false c top e in
    same_truth (nat_le x c) (nat_le x top || nat_le x c) (λ le. or_right (nat_le x top) (nat_le x c) le)
    (λ some. elim (either (nat_le x top) (nat_le x c) some)
    [ inl le ↦ (let it : x ≤ top = leb-true x top le in le-leb x c (omega arith)) | inr le ↦ le ])

below_old : (x c : ℕ) (old : Option ℕ) → is_below c old ≡ true → is_below x old ≡ (is_below x old || nat_le x c)
below_old x c None e = cc
below_old x c (Some top) e =
    let under : c ≤ top = leb-true c top e in
    same_truth (nat_le x top) (nat_le x top || nat_le x c) (λ le. or_left (nat_le x top) (nat_le x c) le)
    (λ some. elim (either (nat_le x top) (nat_le x c) some)
    [ inl le ↦ le | inr le ↦ (let it : x ≤ c = leb-true x c le in le-leb x top (omega arith)) ])

pub accept_follows : (names : List Bytes) (old new : Taking) (h : List Line) (event : ℕ) (node : ArrayString)
    (t : Term) (place number : ℕ)
    → ((i : ℕ) (u : Term) → is_below u.counter (height new i u)
    ≡ (is_below u.counter (height old i u) || (nat_eq place i && (same_sender u t && nat_le u.counter t.counter))))
    → new.first ≡ option_or old.first (if not (is_below t.counter (height old place t)) then None else Some number)
    → number ≡ length h + 1 → place_in names node.bytes ≡ Some place → AreTaken names old h
    → AreTaken names new (h ++ line.Accept event node t ∷ [])
unfolding is_later bars
accept_follows names old new h event node t place number heights first here there before = record {
  heights = λ name i at u.
      heights i u
      ∙ (ap (λ (b : Bool). b || (nat_eq place i && (same_sender u t && nat_le u.counter t.counter)))
      (before.heights name i at u)
      ∙ (ap (λ (b : Bool). list_any (bars name u) h || (b && (same_sender u t && nat_le u.counter t.counter)))
      (same_place name i at)
      ∙ sym (any_more (bars name u) h (line.Accept event node t))));
  first = first_more is_later old.first new.first number (not (is_below t.counter (height old place t))) h
      (line.Accept event node t) first (ap not (before.heights node.bytes place there t)) here before.first;
}
  where
    same_place : (name : Bytes) (i : ℕ) → place_in names name ≡ Some i → nat_eq place i ≡ bytes_eq node.bytes name
    same_place name i at =
        same_truth _ _
        (λ e. let it : place ≡ i = same_number place i e in ap (λ (n : Bytes). bytes_eq node.bytes n)
        (one_place names name node.bytes place (at ∙ ap Some (sym it)) there) ∙ itself node.bytes)
        (λ e. let it : Some place ≡ Some i = sym there ∙ (ap (place_in names) (same_bytes node.bytes name e) ∙ at) in
        let same : place ≡ i = cc in ap (λ (n : ℕ). nat_eq place n) (sym same) ∙ itself_number place)

pub bars_none : (l : Line)
    → ((x0 : ℕ) (x1 : ArrayString) (x2 : Term) → l ≡ line.Accept x0 x1 x2 → ⊥)
    → (name : Bytes) (t : Term) → bars name t l ≡ false
unfolding bars
bars_none (line.Node x0 x1 x2 x3 x4 x5) no_accept name t = refl
bars_none (line.GivenNet x0 x1 x2) no_accept name t = refl
bars_none (line.GivenLink x0 x1 x2) no_accept name t = refl
bars_none (line.Counter x0 x1 x2) no_accept name t = refl
bars_none (line.Reserve x0 x1 x2 x3) no_accept name t = refl
bars_none (line.Floor x0 x1 x2 x3 x4 x5) no_accept name t = refl
bars_none (line.Draw x0 x1) no_accept name t = refl
bars_none (line.DropNet x0 x1 x2) no_accept name t = refl
bars_none (line.DropLink x0 x1 x2 x3) no_accept name t = refl
bars_none (line.Install x0 x1 x2 x3) no_accept name t = refl
bars_none (line.Active x0 x1 x2) no_accept name t = refl
bars_none (line.Start x0 x1 x2 x3) no_accept name t = refl
bars_none (line.Row x0 x1 x2 x3 x4) no_accept name t = refl
bars_none (line.Pair x0 x1 x2 x3 x4) no_accept name t = refl
bars_none (line.State x0 x1 x2) no_accept name t = refl
bars_none (line.Live x0 x1) no_accept name t = refl
bars_none (line.Removed x0 x1) no_accept name t = refl
bars_none (line.Roll x0 x1 x2) no_accept name t = refl
bars_none (line.Told x0 x1) no_accept name t = refl
bars_none (line.Untold x0 x1) no_accept name t = refl
bars_none (line.Commit x0 x1) no_accept name t = refl
bars_none (line.Accept x0 x1 x2) no_accept name t = absurd (no_accept x0 x1 x2 refl)
bars_none (line.Refuse x0 x1 x2) no_accept name t = refl
bars_none (line.Seal x0 x1 x2) no_accept name t = refl
bars_none (line.Forge x0 x1) no_accept name t = refl
bars_none (line.Send x0 x1 x2 x3) no_accept name t = refl
bars_none (line.Inject x0 x1 x2) no_accept name t = refl
bars_none (line.Stopped x0 x1) no_accept name t = refl
bars_none (line.DownReset x0 x1) no_accept name t = refl
bars_none (line.DownDisk x0 x1) no_accept name t = refl
bars_none (line.Boot x0 x1) no_accept name t = refl
bars_none (line.Dump x0 x1 x2) no_accept name t = refl
bars_none (line.End x0 x1 x2 x3 x4 x5) no_accept name t = refl

pub is_no_accept : (h : List Line) (l : Line)
    → ((x0 : ℕ) (x1 : ArrayString) (x2 : Term) → l ≡ line.Accept x0 x1 x2 → ⊥)
    → is_later h l ≡ true
unfolding is_later
is_no_accept h (line.Node x0 x1 x2 x3 x4 x5) no_accept = refl
is_no_accept h (line.GivenNet x0 x1 x2) no_accept = refl
is_no_accept h (line.GivenLink x0 x1 x2) no_accept = refl
is_no_accept h (line.Counter x0 x1 x2) no_accept = refl
is_no_accept h (line.Reserve x0 x1 x2 x3) no_accept = refl
is_no_accept h (line.Floor x0 x1 x2 x3 x4 x5) no_accept = refl
is_no_accept h (line.Draw x0 x1) no_accept = refl
is_no_accept h (line.DropNet x0 x1 x2) no_accept = refl
is_no_accept h (line.DropLink x0 x1 x2 x3) no_accept = refl
is_no_accept h (line.Install x0 x1 x2 x3) no_accept = refl
is_no_accept h (line.Active x0 x1 x2) no_accept = refl
is_no_accept h (line.Start x0 x1 x2 x3) no_accept = refl
is_no_accept h (line.Row x0 x1 x2 x3 x4) no_accept = refl
is_no_accept h (line.Pair x0 x1 x2 x3 x4) no_accept = refl
is_no_accept h (line.State x0 x1 x2) no_accept = refl
is_no_accept h (line.Live x0 x1) no_accept = refl
is_no_accept h (line.Removed x0 x1) no_accept = refl
is_no_accept h (line.Roll x0 x1 x2) no_accept = refl
is_no_accept h (line.Told x0 x1) no_accept = refl
is_no_accept h (line.Untold x0 x1) no_accept = refl
is_no_accept h (line.Commit x0 x1) no_accept = refl
is_no_accept h (line.Accept x0 x1 x2) no_accept = absurd (no_accept x0 x1 x2 refl)
is_no_accept h (line.Refuse x0 x1 x2) no_accept = refl
is_no_accept h (line.Seal x0 x1 x2) no_accept = refl
is_no_accept h (line.Forge x0 x1) no_accept = refl
is_no_accept h (line.Send x0 x1 x2 x3) no_accept = refl
is_no_accept h (line.Inject x0 x1 x2) no_accept = refl
is_no_accept h (line.Stopped x0 x1) no_accept = refl
is_no_accept h (line.DownReset x0 x1) no_accept = refl
is_no_accept h (line.DownDisk x0 x1) no_accept = refl
is_no_accept h (line.Boot x0 x1) no_accept = refl
is_no_accept h (line.Dump x0 x1 x2) no_accept = refl
is_no_accept h (line.End x0 x1 x2 x3 x4 x5) no_accept = refl

pub quiet_follows : (names : List Bytes) (k : Taking) (h : List Line) (l : Line)
    → ((x0 : ℕ) (x1 : ArrayString) (x2 : Term) → l ≡ line.Accept x0 x1 x2 → ⊥) → AreTaken names k h
    → AreTaken names k (h ++ l ∷ [])
quiet_follows names k h l none before = record {
  heights = λ name i there t. before.heights name i there t ∙ sym
      (any_stays (bars name t) h l (bars_none l none name t));
  first = first_stays is_later k.first h l (is_no_accept h l none) before.first;
}

-- The heights after an accepted counter: the counter is written if it is greater.
pub raised : (same : Bool) (before now : Option ℕ) (x c : ℕ) → now ≡ cond same (Some c) before
    → (same ≡ true → is_below c before ≡ false) → is_below x now ≡ (is_below x before || (same && nat_le x c))
raised true before now x c is below = ap (is_below x) is ∙ below_top x c before (below refl)
raised false before now x c is below = ap (is_below x) is ∙ sym (or_false (is_below x before))

same_layer_is : (a b : Layer) → same_layer a b ≡ true → a ≡ b
same_layer_is Nwk Nwk e = refl
same_layer_is Aps Aps e = refl
same_layer_is Nwk Aps e = cc
same_layer_is Aps Nwk e = cc

same_channel : (place i : ℕ) (t u : Term) → (nat_eq place i && same_sender u t) ≡ true → channel_of place t
    ≡ channel_of i u
unfolding same_sender
same_channel place i t u same =
    let places : place ≡ i = same_number place i (and_left _ _ same) in
    let sender : same_sender u t ≡ true = and_right (nat_eq place i) _ same in
    let layers : u.layer ≡ t.layer = same_layer_is u.layer t.layer (and_left _ _ sender) in
    let more : (bytes_eq u.base.0 t.base.0 && nat_eq u.source.0 t.source.0) ≡ true =
    and_right (same_layer u.layer t.layer) _ sender in
    let keys : u.base.0 ≡ t.base.0 = same_bytes u.base.0 t.base.0 (and_left _ _ more) in
    let sources : u.source.0 ≡ t.source.0 =
    same_number u.source.0 t.source.0 (and_right (bytes_eq u.base.0 t.base.0) _ more) in
    λ j. record {
      place = places j;
      layer = (sym layers) j;
      base = record { 0 = (sym keys) j };
      source = record { 0 = (sym sources) j };
    }

grouped : (a b c : Bool) → ((a && b) && c) ≡ (a && (b && c))
grouped true b c = refl
grouped false b c = refl

pub heights_written : (old new : Taking) (t : Term) (place : ℕ) → is_below t.counter (height old place t) ≡ false
    → ((q : Channel) → get channel_cmp new.heights q ≡ cond (is_at (channel_cmp (channel_of place t)) q)
    (Some t.counter) (get channel_cmp old.heights q))
    → (i : ℕ) (u : Term) → is_below u.counter (height new i u)
    ≡ (is_below u.counter (height old i u) || (nat_eq place i && (same_sender u t && nat_le u.counter t.counter)))
heights_written old new t place rises updates i u =
    raised (nat_eq place i && same_sender u t) (height old i u) (height new i u) u.counter t.counter
    (updates (channel_of i u) ∙ ap (λ (b : Bool). cond b (Some t.counter) (height old i u))
    (channel_alike place i t u))
    (λ same. ap (is_below t.counter) (ap (get channel_cmp old.heights) (sym (same_channel place i t u same))) ∙ rises)
    ∙ ap (λ (b : Bool). is_below u.counter (height old i u) || b)
    (grouped (nat_eq place i) (same_sender u t) (nat_le u.counter t.counter))

left_alone : (same : Bool) (at before : Option ℕ) (x c : ℕ) → (same ≡ true → at ≡ before) → is_below c before ≡ true
    → is_below x at ≡ (is_below x at || (same && nat_le x c))
left_alone true at before x c is under =
    ap (is_below x) (is refl) ∙
    (below_old x c before under ∙ ap (λ (o : Option ℕ). is_below x o || nat_le x c) (sym (is refl)))
left_alone false at before x c is under = sym (or_false (is_below x at))

pub heights_stay : (k : Taking) (t : Term) (place : ℕ) → is_below t.counter (height k place t) ≡ true
    → (i : ℕ) (u : Term) → is_below u.counter (height k i u)
    ≡ (is_below u.counter (height k i u) || (nat_eq place i && (same_sender u t && nat_le u.counter t.counter)))
heights_stay k t place under i u =
    left_alone (nat_eq place i && same_sender u t) (height k i u) (height k place t) u.counter t.counter
    (λ same. ap (get channel_cmp k.heights) (sym (same_channel place i t u same))) under
    ∙ ap (λ (b : Bool). is_below u.counter (height k i u) || b)
    (grouped (nat_eq place i) (same_sender u t) (nat_le u.counter t.counter))
