-- The moves of a rule, one after the other: each that changes something may be made after those before it and leaves
-- the rules. Then their changes fit, with the first counter of a key that becomes active.
use Rattle.std.proofs.Common.{◌≡◌, ℕ, List, [], ◌∷◌, ◌++◌, map, refl, sym, ap, ◌∙◌, arith, Bool, true, false, if◌then◌else◌, ◌&&◌, Option, Some, None, is_some, option_map, le-leb, eqb-true}
use Rattle.std.specs.Prelude.{find, filter, flat_map, is_none, nat_le, nat_eq}
use Rattle.zb_model.specs.Data.{Bytes, Move, Draw, DropNet, DropLink, Install, Active, Row, Pair, Became, Live, Removed, Roll, Told, Untold, Start, Moved}
use Rattle.zb_model.specs.State.{NetKey, NodeState, same_key, has_net, net_of, moved, applied, at_net, dropped_net, new_net}
use Rattle.zb_model.specs.Fits.{keeps_rules, may_move, fits, all_fit, net_limit, row_is_live, live_net}
use Rattle.zb_model.specs.Answer.{Counting, changes, move_edits, start_edit, activated}
use Rattle.law_change_fits.specs.Fitting.{leaves_rules, move_leaves}
use Rattle.law_change_fits.proofs.Tests.{both}
use Rattle.law_answer_storable.proofs.Lists.{found_is, found_map}
use Rattle.law_answer_storable.proofs.Chains.{change_fits, kept_after, fit_then, fit_none}
use Rattle.law_answer_storable.proofs.Bare.{bare, moved_bare, may_bare, leaves_bare, start_bare}

abbrev pub move_fits : Move → NodeState → Bool
move_fits m s = may_move m s && move_leaves m s

-- no other key becomes active after one that does
abbrev pub is_last : Move → Option Bytes → Bool
is_last (Active key) later = is_none later
is_last _ later = true

-- `start` is the state that the rule saw: what changes nothing in it is left out
abbrev pub moves_fit : NodeState → List Move → NodeState → Bool
moves_fit start [] s = true
moves_fit start (m ∷ ms) s =
    if changes start m then (move_fits m s && is_last m (activated start (filter (changes start) ms)))
    && moves_fit start ms (moved m s)
    else moves_fit start ms s

-- bare rows are enough

move_bare : (m : Move) (s : NodeState) → move_fits m (bare s) ≡ move_fits m s
move_bare m s = ap (λ b. b && move_leaves m (bare s)) (may_bare m s) ∙ ap (λ b. may_move m s && b) (leaves_bare m s)

moves_bare : (start : NodeState) (ms : List Move) (s : NodeState) → moves_fit start ms (bare s) ≡ moves_fit start ms s
moves_bare start [] s = refl
moves_bare start (m ∷ ms) s =
    let last = is_last m (activated start (filter (changes start) ms)) in
    ap (λ b. if changes start m then (b && last) && moves_fit start ms (moved m (bare s))
    else moves_fit start ms (bare s)) (move_bare m s)
    ∙ ap (λ b. if changes start m then (move_fits m s && last) && b else moves_fit start ms (bare s))
    (ap (moves_fit start ms) (sym (moved_bare m s)) ∙ moves_bare start ms (moved m s))
    ∙ ap (λ b. if changes start m then (move_fits m s && last) && moves_fit start ms (moved m s)
    else b) (moves_bare start ms s)

pub moves_same : (start : NodeState) (ms : List Move) (s t : NodeState) → bare t ≡ bare s → moves_fit start ms s
    ≡ true → moves_fit start ms t ≡ true
moves_same start ms s t e fit = sym (moves_bare start ms t) ∙ ap (moves_fit start ms) e ∙ moves_bare start ms s ∙ fit

-- A key that becomes active and gets its first counter has a limit of 0.
abbrev pub starts_fit : Option ℕ → Option Bytes → NodeState → Bool
starts_fit None key s = true
starts_fit (Some value) None s = true
starts_fit (Some value) (Some key) s = nat_eq (net_limit (net_of key s)) 0

-- a move leaves a limit, and a new row has 0
limit_mapped : (f : NetKey → NetKey) → ((r : NetKey) → (f r).key ≡ r.key) → ((r : NetKey) → (f r).limit ≡ r.limit)
    → (key : Bytes) (rs : List NetKey)
    → net_limit (find (λ (r : NetKey). same_key r.key key) (map f rs))
    ≡ net_limit (find (λ (r : NetKey). same_key r.key key) rs)
limit_mapped f keyed limited key rs =
    ap net_limit (found_map (λ (r : NetKey). same_key r.key key) f (λ r. ap (λ k. same_key k key) (keyed r)) rs) ∙
    of_row (find (λ (r : NetKey). same_key r.key key) rs)
  where
    of_row : (o : Option NetKey) → net_limit (option_map f o) ≡ net_limit o
    of_row None = refl
    of_row (Some r) = limited r

dropped_limit : (gone key : Bytes) (rs : List NetKey)
    → net_limit (find (λ (r : NetKey). same_key r.key key) (at_net gone dropped_net rs))
    ≡ net_limit (find (λ (r : NetKey). same_key r.key key) rs)
dropped_limit gone key rs = limit_mapped (λ (r : NetKey). if same_key r.key gone then dropped_net r
    else r) (λ r. key_of (same_key r.key gone) r) (λ r. limit_of (same_key r.key gone) r) key rs
  where
    key_of : (b : Bool) (r : NetKey) → (if b then dropped_net r else r).key ≡ r.key
    key_of true r = refl
    key_of false r = refl

    limit_of : (b : Bool) (r : NetKey) → (if b then dropped_net r else r).limit ≡ r.limit
    limit_of true r = refl
    limit_of false r = refl

added_limit : (key new : Bytes) (sequence : ℕ) (rs : List NetKey)
    → net_limit (find (λ (r : NetKey). same_key r.key key) (rs ++ new_net new sequence ∷ []))
    ≡ net_limit (find (λ (r : NetKey). same_key r.key key) rs)
added_limit key new sequence [] = by_test (same_key new key)
  where
    by_test : (b : Bool) → net_limit (if b then Some (new_net new sequence) else None) ≡ 0
    by_test true = refl
    by_test false = refl
added_limit key new sequence (r ∷ rs) = by_test (same_key r.key key) (added_limit key new sequence rs)
  where
    by_test : (b : Bool) → net_limit (find (λ (r : NetKey). same_key r.key key) (rs ++ new_net new sequence ∷ []))
        ≡ net_limit (find (λ (r : NetKey). same_key r.key key) rs)
        → net_limit (if b then Some r
        else find (λ (r : NetKey). same_key r.key key) (rs ++ new_net new sequence ∷ []))
        ≡ net_limit (if b then Some r else find (λ (r : NetKey). same_key r.key key) rs)
    by_test true e = refl
    by_test false e = e

installed_limit : (key new : Bytes) (sequence : ℕ) (b : Bool) (rs : List NetKey)
    → net_limit (find (λ (r : NetKey). same_key r.key key) (if b then rs else rs ++ new_net new sequence ∷ []))
    ≡ net_limit (find (λ (r : NetKey). same_key r.key key) rs)
installed_limit key new sequence true rs = refl
installed_limit key new sequence false rs = added_limit key new sequence rs

limit_left : (m : Move) (key : Bytes) (s : NodeState) → net_limit (net_of key (moved m s)) ≡ net_limit (net_of key s)
limit_left (DropNet gone) key s = dropped_limit gone key s.nets
limit_left (Install new sequence) key s = installed_limit key new sequence (has_net new s.nets) s.nets
limit_left _ key s = refl

pub starts_left : (o : Option ℕ) (k : Option Bytes) (s t : NodeState)
    → ((key : Bytes) → k ≡ Some key → net_limit (net_of key t) ≡ net_limit (net_of key s)) → starts_fit o k s ≡ true
    → starts_fit o k t ≡ true
starts_left None k s t same e = refl
starts_left (Some value) None s t same e = refl
starts_left (Some value) (Some key) s t same e = ap (λ n. nat_eq n 0) (same key refl) ∙ e

-- one move, and then the rest
abbrev Later : NodeState → Counting → List Move → List Move → Type 0
Later start k ms rest = (u : NodeState) → keeps_rules u ≡ true → moves_fit start ms u ≡ true
    → starts_fit k.start (activated start rest) u ≡ true → all_fit (flat_map (move_edits k) rest) u ≡ true

module _ (start : NodeState) (k : Counting) (ms rest : List Move) (later : Later start k ms rest) where
  made : (m : Move) (s : NodeState) → keeps_rules s ≡ true → move_fits m s ≡ true → fits (Moved m) s ≡ true
  unfolding leaves_rules
  made m s kept fit = let parts = both (may_move m s) (move_leaves m s) fit in change_fits (Moved m) s kept parts.0
      parts.1

  kept_made : (m : Move) (s : NodeState) → keeps_rules s ≡ true → move_fits m s ≡ true → keeps_rules (moved m s) ≡ true
  unfolding applied
  kept_made m s kept fit = kept_after (Moved m) s kept (made m s kept fit)

  plain : (m : Move) (s : NodeState) → keeps_rules s ≡ true → move_fits m s ≡ true → moves_fit start ms (moved m s)
      ≡ true → starts_fit k.start (activated start rest) s ≡ true
      → all_fit (Moved m ∷ flat_map (move_edits k) rest) s ≡ true
  unfolding applied
  plain m s kept fit more starts =
      fit_then (Moved m) (flat_map (move_edits k) rest) s (made m s kept fit)
      (later (moved m s) (kept_made m s kept fit) more
      (starts_left k.start (activated start rest) s (moved m s) (λ key e. limit_left m key s) starts))

  no_more : (o : Option ℕ) (a : Option Bytes) (s : NodeState) → is_none a ≡ true → starts_fit o a s ≡ true
  no_more None a s e = refl
  no_more (Some value) None s e = refl
  no_more (Some value) (Some key) s e = absurd (cc)

  started : (key : Bytes) (o : Option ℕ) (s : NodeState) → keeps_rules s ≡ true → live_net key s ≡ true
      → is_none (activated start rest) ≡ true → moves_fit start ms s ≡ true → starts_fit o (Some key) s ≡ true
      → all_fit (start_edit key o ++ flat_map (move_edits k) rest) s ≡ true
  unfolding leaves_rules
  started key None s kept live last more starts = later s kept more (no_more k.start (activated start rest) s last)
  started key (Some value) s kept live last more starts =
      let there : has_net key s.nets ≡ true = sym (found_is (λ (r : NetKey). same_key r.key key) s.nets) ∙ some_row
      (net_of key s) live in
      let low : nat_le (net_limit (net_of key s)) value ≡ true = no_limit (net_limit (net_of key s)) starts in
      let fit : fits (Start key value) s ≡ true = change_fits (Start key value) s kept (rw (there, low) refl) refl in
      fit_then (Start key value) (flat_map (move_edits k) rest) s fit
      (later (applied (Start key value) s) (kept_after (Start key value) s kept fit)
      (moves_same start ms s (applied (Start key value) s) (start_bare key value s) more)
      (no_more k.start (activated start rest) (applied (Start key value) s) last))
    where
      some_row : (o : Option NetKey) → row_is_live o ≡ true → is_some o ≡ true
      some_row None e = e
      some_row (Some r) e = refl

      no_limit : (n : ℕ) → nat_eq n 0 ≡ true → nat_le n value ≡ true
      no_limit n e = le-leb _ _ (omega (arith, eqb-true n 0 e))

  activating : (key : Bytes) (s : NodeState) → keeps_rules s ≡ true → move_fits (Active key) s ≡ true
      → is_none (activated start rest) ≡ true → moves_fit start ms (moved (Active key) s) ≡ true
      → starts_fit k.start (Some key) s ≡ true
      → all_fit (Moved (Active key) ∷ (start_edit key k.start ++ flat_map (move_edits k) rest)) s ≡ true
  unfolding applied
  activating key s kept fit last more starts =
      let live : live_net key s ≡ true = (both (live_net key s) true fit).0 in
      fit_then (Moved (Active key)) (start_edit key k.start ++ flat_map (move_edits k) rest) s
      (made (Active key) s kept fit)
      (started key k.start (moved (Active key) s) (kept_made (Active key) s kept fit) live last more
      (starts_left k.start (Some key) s (moved (Active key) s) (λ q e. refl) starts))

  one_more : (m : Move) (s : NodeState) → keeps_rules s ≡ true → move_fits m s ≡ true
      → is_last m (activated start rest) ≡ true → moves_fit start ms (moved m s) ≡ true
      → starts_fit k.start (activated start (m ∷ rest)) s ≡ true → all_fit (flat_map (move_edits k) (m ∷ rest)) s
      ≡ true
  one_more (Active key) s kept fit last more starts = activating key s kept fit last more starts
  one_more (Draw key) s kept fit last more starts = plain (Draw key) s kept fit more starts
  one_more (DropNet key) s kept fit last more starts = plain (DropNet key) s kept fit more starts
  one_more (DropLink partner key) s kept fit last more starts = plain (DropLink partner key) s kept fit more starts
  one_more (Install key sequence) s kept fit last more starts = plain (Install key sequence) s kept fit more starts
  one_more (Row partner key attribute) s kept fit last more starts = plain (Row partner key attribute) s kept fit more
      starts
  one_more (Pair first second key) s kept fit last more starts = plain (Pair first second key) s kept fit more starts
  one_more (Became state) s kept fit last more starts = plain (Became state) s kept fit more starts
  one_more (Live device) s kept fit last more starts = plain (Live device) s kept fit more starts
  one_more (Removed device) s kept fit last more starts = plain (Removed device) s kept fit more starts
  one_more (Roll sending) s kept fit last more starts = plain (Roll sending) s kept fit more starts
  one_more (Told device) s kept fit last more starts = plain (Told device) s kept fit more starts
  one_more (Untold device) s kept fit last more starts = plain (Untold device) s kept fit more starts

  by_change : (m : Move) (s : NodeState) → keeps_rules s ≡ true → (b : Bool)
      → (if b then (move_fits m s && is_last m (activated start rest)) && moves_fit start ms (moved m s)
      else moves_fit start ms s) ≡ true
      → starts_fit k.start (activated start (if b then m ∷ rest else rest)) s ≡ true
      → all_fit (flat_map (move_edits k) (if b then m ∷ rest else rest)) s ≡ true
  by_change m s kept true fit starts =
      let parts = both (move_fits m s && is_last m (activated start rest)) (moves_fit start ms (moved m s)) fit in
      let first = both (move_fits m s) (is_last m (activated start rest)) parts.0 in
      one_more m s kept first.0 first.1 parts.1 starts
  by_change m s kept false fit starts = later s kept fit starts

pub moves_stored : (start : NodeState) (k : Counting) (ms : List Move) (s : NodeState) → keeps_rules s ≡ true
    → moves_fit start ms s ≡ true → starts_fit k.start (activated start (filter (changes start) ms)) s ≡ true
    → all_fit (flat_map (move_edits k) (filter (changes start) ms)) s ≡ true
moves_stored start k [] s kept fit starts = fit_none s
moves_stored start k (m ∷ ms) s kept fit starts =
    by_change start k ms (filter (changes start) ms) (λ u. moves_stored start k ms u) m s kept (changes start m) fit
    starts
