-- Each image that a run of `live` leaves is that of a session of some first lines of its input.
use Rattle.std.proofs.Common.{◌≡◌, inl, inr, ℕ, List, [], ◌∷◌, not, Option, Some, None, Ok, Err, OnOk, IsTrue, sym, ap, ◌∙◌, subst}
use Rattle.law_sessions.specs.Leaving.{IsOfSession, IsOnly}
use Rattle.law_sessions.specs.Sessions.{AreSessions, IsLeft}
use Rattle.law_sessions.proofs.FoundAgain.{slot_of_none}
use Rattle.zb_centre_store.specs.Outside.{Outside}
use Rattle.zb_centre_store.specs.Standing.{CanBeServed, found_on, found_store}
use Rattle.zb_disk.proofs.Moments.{goes_through, started, weakened}
use Rattle.zb_disk.specs.View.{LeavesOnly}
use Rattle.zb_live.specs.Alive.{CrashLeaves}
use Rattle.zb_live.specs.Living.{fresh, served}
use Rattle.zb_live.specs.Moments.{Covers, Goes, Input, Moment, Stretch, calls, reads, writes}
use Rattle.zb_live.specs.Serving.{Ended, Lives}
use Rattle.zb_live.specs.WholeLines.{whole_lines}
use Rattle.zb_model.specs.Data.{Bytes}
use Rattle.zb_model.specs.State.{NodeState}
use Rattle.zb_store.specs.Layout.{IsWhole, Standing}

pub found_whole : (bytes : List ℕ) (s : Standing) → IsWhole s bytes → found_on bytes ≡ found_store (Some s)
unfolding found_on
found_whole [] s whole = absurd (slot_of_none (not s.second) whole.other_gate)
found_whole (byte ∷ bytes) s whole = ap found_store whole.stands

module _ {D W : Type 0} (x : Outside D W) (input : Input) (old : D) (before : W) (image : List ℕ)
    (only : IsOnly image (x.state old)) where
  is_left : (o : Option NodeState) (left : List ℕ) → CrashLeaves (x.state old) o left
      → IsLeft (found_on (x.state old).seen) o left
  is_left None left (inl (none, empty)) = ap found_on (empty ∙ sym none)
  is_left None left (inr (s, is, (other, there, whole))) =
      found_whole left s is ∙ sym (found_whole other s whole) ∙ ap found_on (only.only other there ∙ sym only.seen)
  is_left (Some s) left holds = holds

  -- the session of these lines left this image
  pub with_lines : (lines : List Bytes) (left : List ℕ)
      → CrashLeaves (x.state old) (served (found_on (x.state old).seen) lines fresh).after.tables left
      → AreSessions image (record { lines = lines; left = left } ∷ [])
  with_lines lines left holds =
      subst (λ (i : List ℕ). AreSessions i (record { lines = lines; left = left } ∷ [])) only.seen
      (is_left (served (found_on (x.state old).seen) lines fresh).after.tables left holds, tt)

  of_session : (lines : List Bytes) (out : W) (left : List ℕ)
      → Covers x (found_on (x.state old).seen) (x.state old) lines before out left → IsOfSession image left
  of_session lines out left c = record { lines = c.taken; is_session = with_lines c.taken left c.holds }

  at_start : (left : List ℕ) → (x.state old).images left → IsOfSession image left
  at_start left there = record { lines = []; is_session = (ap found_on (only.only left there), tt) }

  one_stretch : (lines : List Bytes) (now next : Moment D W)
      → LeavesOnly (x.state old) (x.state now.disk) (IsOfSession image)
      → Stretch x (found_on (x.state old).seen) (x.state old) input lines before now next
      → LeavesOnly (x.state old) (x.state next.disk) (IsOfSession image)
  one_stretch lines now next so_far (calls same unread leaves) =
      goes_through (x.state old) (x.state now.disk) (x.state next.disk) (IsOfSession image) so_far
      (weakened (x.state now.disk) (x.state next.disk)
      (Covers x (found_on (x.state old).seen) (x.state old) lines before next.out) (IsOfSession image)
      (of_session lines next.out) leaves)
  one_stretch lines now next so_far (writes text same unread more each) =
      subst (λ (d : D). LeavesOnly (x.state old) (x.state d) (IsOfSession image)) (sym same) so_far
  one_stretch lines now next so_far (reads same unwritten once answered) =
      subst (λ (d : D). LeavesOnly (x.state old) (x.state d) (IsOfSession image)) (sym same) so_far

  all_along : (lines : List Bytes) (now : Moment D W) (moments : List (Moment D W)) (last : Moment D W)
      → LeavesOnly (x.state old) (x.state now.disk) (IsOfSession image)
      → Goes x (found_on (x.state old).seen) (x.state old) input lines before now moments last
      → LeavesOnly (x.state old) (x.state last.disk) (IsOfSession image)
  all_along lines now [] last so_far same =
      subst (λ (m : Moment D W). LeavesOnly (x.state old) (x.state m.disk) (IsOfSession image)) (sym same) so_far
  all_along lines now (next ∷ more) last so_far (stretch, rest) =
      all_along lines next more last (one_stretch lines now next so_far stretch) rest

  module _ (result : Ended) (rest : Input) (new : D) (after : W) (lives : Lives x input old before result rest new
      after)
    where
      pub leaves_sessions : ((c : List ℕ) → (x.state old).since (x.state old).moment c → (x.state old).images c)
          → IsTrue x.tells.content → CanBeServed (x.state old)
          → LeavesOnly (x.state old) (x.state new) (IsOfSession image)
      leaves_sessions only_now told can =
          let m = lives.moments told can in
          all_along lives.lines (record { disk = old; out = before; input = input }) m.0
          (record { disk = new; out = after; input = rest })
          (started (x.state old) (IsOfSession image) only_now at_start) m.1

-- at the end of one that ends well it is that of all lines
pub with_all_lines : {D W : Type 0} (x : Outside D W) (input : Input) (old : D) (before : W) (result : Ended)
    (rest : Input) (new : D) (after : W) → Lives x input old before result rest new after
    → OnOk result (IsTrue x.tells.content → (image : List ℕ) → IsOnly image (x.state old) → CanBeServed (x.state old)
    → (bytes : Bytes) → input.rest ≡ Some bytes → (left : List ℕ) → (x.state new).images left
    → AreSessions image (record { lines = whole_lines bytes; left = left } ∷ []))
with_all_lines x input old before (Err fault) rest new after lives = tt
with_all_lines x input old before (Ok done) rest new after lives = λ told image only can bytes known left there.
    with_lines x input old before image only (whole_lines bytes) left
    (subst
    (λ (lines : List Bytes). CrashLeaves (x.state old) (served (found_on (x.state old).seen) lines fresh).after.tables
    left)
    (sym (lives.all bytes known).0) (lives.last told can left there))
