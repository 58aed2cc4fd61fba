-- What the program keeps, as readings of the lines so far.
use Rattle.std.specs.Prelude.{◌≡◌, ◌<◌, ◌≤◌, ◌+◌, ◌&&◌, ◌||◌, ℕ, Bool, true, false, ◌⊎◌, if◌then◌else◌, List, [], ◌∷◌, ◌++◌, length, fold, bytes_eq, nat_eq, nat_le, Option, Some, None, flat_map}
use Rattle.std.specs.Option.{option_or}
use Rattle.zb_audit_names.specs.Standing.{IsSpeaker}
use Rattle.zb_audit_names.specs.declared.node.Who.{Who}
use Rattle.std.specs.List.{list_any}
use Rattle.zb_base.specs.declared.key.Key.{Key}
use Rattle.zb_base.specs.declared.address.Eui.{Eui}
use Rattle.zb_audit_names.specs.Groups.{event_of}
use Rattle.zb_audit_names.specs.Naming.{declared_in}
use Rattle.zb_audit_names.specs.Secrets.{along, ever, forged_in, terms_of}
use Rattle.zb_audit_lockout.specs.Backing.{IsBack}
use Rattle.zb_audit_lockout.specs.Before.{before_group}
use Rattle.zb_audit_lockout.specs.Facts.{Recalls}
use Rattle.zb_audit_lockout.specs.Lockout.{admits, drawn_in, first_unlocked, keeps_out, locked, refuses_line, sealed_by}
use Rattle.zb_audit_lockout.specs.Ordered.{is_listed}
use Rattle.zb_audit_lockout.specs.Reading.{early_of, is_late_seal, late_by, number_of, open_at, opened_by, earliest}
use Rattle.zb_audit_lockout.specs.Spreading.{IsShut, IsSpread, IsSpreadBut}
use Rattle.zb_audit_lockout.specs.Windows.{EachWindow, SomeWindow}
use Rattle.zb_audit_lockout.specs.declared.evidence.Evidence.{Evidence}
use Rattle.zb_audit_lockout.specs.declared.lockout.Lockout.{Lockout}
use Rattle.zb_audit_lockout.specs.declared.opened.Opening.{Opening}
use Rattle.zb_audit_lockout.specs.declared.past.Past.{Past}
use Rattle.zb_audit_lockout.specs.declared.reach.Reach.{Reach}
use Rattle.zb_audit_lockout.specs.declared.windows.Windows.{Windows}
use Rattle.zb_model.specs.Data.{Bytes}
use Rattle.zb_model.specs.Secrets.{holds, same_term}
use Rattle.zb_model.specs.Tools.{Tools}
use Rattle.zb_model_real.specs.Terms.{model_term}
use Rattle.zb_seal.specs.declared.term.Term.{Term}
use Rattle.zb_trace.specs.declared.line.Line.{Line}
use Rattle.zb_trace_watch.specs.Sets.{is_among, is_carried, node_has}
use Rattle.zb_trace_watch.specs.Standing.{carries, FindKeys}
use Rattle.zb_trace_watch.specs.Terms.{has_term}

-- The past

abbrev pub last_event : List Line → Option ℕ
last_event h = fold (λ was l. event_of l) None h

pub record IsPast (tools : Tools) (names : List Bytes) (p : Past) (h : List Line) : Type 0 where
  pub event : p.event ≡ last_event h
  pub before : Recalls tools names p.before [] (before_group h)
  pub now : Recalls tools names p.before p.group.items h

-- What is true after a line has begun its group, or continued it.
pub record Enters (tools : Tools) (names : List Bytes) (p : Past) (h : List Line) (l : Line) : Type 0 where
  pub before : Recalls tools names p.before [] (before_group (h ++ l ∷ []))
  pub now : Recalls tools names p.before p.group.items h

-- What comes out for removed devices

-- A device is removed by a line of at most that number.
pub record IsOpenBy (r : Reach) (d number : ℕ) : Type 0 where
  pub opened : ℕ
  pub found : open_at r.windows d ≡ Some opened
  pub early : opened ≤ number

-- The number of a window is that of its removal.
pub record IsWindow (r : Reach) (h a : List Line) (d : ℕ) (b : List Line) : Type 0 where
  pub whole : a ++ b ≡ h
  pub found : IsOpenBy r d (length a)
  pub low : length a ≤ r.windows.last
  pub drawn : (k : List ℕ) → holds (flat_map drawn_in b) k ≡ nat_le (length a) (number_of r.drawn k)

pub record IsReach (tools : Tools) (r : Reach) (h : List Line) : Type 0 where
  pub windows : EachWindow (IsWindow r h) [] h
  pub opened : (d number : ℕ) → open_at r.windows d ≡ Some number
      → SomeWindow (λ a e b. (e ≡ d) × (length a ≡ number)) [] h
  pub below : (d number : ℕ) → open_at r.windows d ≡ Some number → number ≤ r.windows.last
  pub held : (d : ℕ) (k : List ℕ) → node_has r.held d k ≡ holds (ever h d) k
  pub carried : (b k : List ℕ) → is_carried r.leads b k ≡ list_any (carries tools b k) (terms_of h)
  pub early : (k : List ℕ) → number_of r.drawn k ≤ r.windows.last
  pub last : r.windows.last ≤ length h
  pub small : r.windows.last < earliest

-- A key comes out for no removed device, or was drawn before the removal.
abbrev pub IsBelow : Reach → List ℕ → Type 0
IsBelow r k = (number_of r.spread.keys k ≡ 0) ⊎ (number_of r.spread.keys k + number_of r.drawn k < earliest)

-- The keys that come out for removed devices are spread, and none of them was drawn since.
pub record IsSafe (r : Reach) : Type 0 where
  pub back : IsBack r.leads r.held r.back
  pub spread : IsSpread r.leads r.held r.spread
  pub opened : (d number : ℕ) → open_at r.windows d ≡ Some number → earliest ≤ early_of r.spread d + number
  pub below : (k : List ℕ) → IsBelow r k

-- A key comes out for a removed device that was drawn since.
pub record IsUnsafe (r : Reach) : Type 0 where
  pub device : ℕ
  pub number : ℕ
  pub key : List ℕ
  pub found : open_at r.windows device ≡ Some number
  pub late : number ≤ number_of r.drawn key
  pub shown : (S : List ℕ → Bool) → IsShut r.leads r.held device S → S key ≡ true

-- If it was safe before and the answer is true, it is still safe. If the answer is false, it is unsafe.
pub record Tells (old new : Reach) (stays : Bool) : Type 0 where
  pub safe : IsSafe old → stays ≡ true → IsSafe new
  pub out : stays ≡ false → IsUnsafe new

-- Only the knowledge of keys that come out changed.
pub record Settles (old new : Reach) : Type 0 where
  pub windows : new.windows ≡ old.windows
  pub leads : new.leads ≡ old.leads
  pub held : new.held ≡ old.held
  pub back : new.back ≡ old.back
  pub drawn : new.drawn ≡ old.drawn

-- It is safe except for a key that has yet to become so early.
pub record IsNearlySafe (r : Reach) (key : Key) (early : ℕ) : Type 0 where
  pub back : IsBack r.leads r.held r.back
  pub spread : IsSpreadBut r.leads r.held r.spread (key ∷ []) early
  pub opened : (d number : ℕ) → open_at r.windows d ≡ Some number → earliest ≤ early_of r.spread d + number
  pub below : (k : List ℕ) → IsBelow r k

pub record Judged (old new : Reach) (key : Key) (early : ℕ) (stays : Bool) : Type 0 where
  pub safe : IsNearlySafe old key early → stays ≡ true → IsSafe new
  pub out : stays ≡ false → IsUnsafe new

-- It is safe except for keys that are still to be checked.
pub record IsSafeBut (r : Reach) (keys : List Key) : Type 0 where
  pub back : IsBack r.leads r.held r.back
  pub spread : IsSpread r.leads r.held r.spread
  pub opened : (d number : ℕ) → open_at r.windows d ≡ Some number → earliest ≤ early_of r.spread d + number
  pub below : (k : List ℕ) → IsBelow r k ⊎ (is_among keys k ≡ true)

-- Keys are checked. The answer is whether it is safe, if it was safe before except for these keys.
pub record Checked (old new : Reach) (keys : List Key) (stays : Bool) : Type 0 where
  pub safe : IsSafeBut old keys → stays ≡ true → IsSafe new
  pub out : stays ≡ false → IsUnsafe new

-- Keys and all that leads to them no longer come out. The list has the devices that are to be entered again.
pub record TakenBack (old new : Reach) (keys : List Key) (list : List Opening) : Type 0 where
  pub spread : IsBack old.leads old.held old.back → IsSpread old.leads old.held old.spread
      → IsSpread old.leads old.held new.spread
  pub zero : (k : List ℕ) → is_among keys k ≡ true → number_of new.spread.keys k ≡ 0
  pub told : (k : List ℕ) → (number_of new.spread.keys k ≡ number_of old.spread.keys k)
      ⊎ (number_of new.spread.keys k ≡ 0)
  pub devices : (d : ℕ) → (early_of new.spread d ≡ early_of old.spread d)
      ⊎ ((n : ℕ) → open_at old.windows d ≡ Some n → is_listed n d list ≡ true)
  pub found : (n d : ℕ) → is_listed n d list ≡ true → open_at old.windows d ≡ Some n

-- A removed device is entered. The answer is whether no key that comes out for it was drawn since.
pub record TriedOne (old new : Reach) (opening : Opening) (stays : Bool) : Type 0 where
  pub spread : IsSpread old.leads old.held old.spread → IsSpread new.leads new.held new.spread
  pub reached : earliest ≤ early_of new.spread opening.device.0 + opening.number
  pub kept : (e : ℕ) → early_of old.spread e ≤ early_of new.spread e
  pub below : stays ≡ true → (k : List ℕ) → IsBelow old k → IsBelow new k
  pub out : stays ≡ false → open_at old.windows opening.device.0 ≡ Some opening.number → IsUnsafe new

-- The same for all devices of a list.
pub record EnteredAll (old new : Reach) (list : List Opening) (stays : Bool) : Type 0 where
  pub spread : stays ≡ true → IsSpread old.leads old.held old.spread → IsSpread new.leads new.held new.spread
  pub reached : stays ≡ true → (n d : ℕ) → is_listed n d list ≡ true → earliest ≤ early_of new.spread d + n
  pub kept : stays ≡ true → (e : ℕ) → early_of old.spread e ≤ early_of new.spread e
  pub below : stays ≡ true → (k : List ℕ) → IsBelow old k → IsBelow new k
  pub out : stays ≡ false → ((n d : ℕ) → is_listed n d list ≡ true → open_at old.windows d ≡ Some n) → IsUnsafe new

-- A key was drawn.
pub record Draws (old new : Reach) (key : Key) : Type 0 where
  pub windows : new.windows ≡ old.windows
  pub leads : new.leads ≡ old.leads
  pub held : new.held ≡ old.held
  pub drawn : (k : List ℕ) → number_of new.drawn k ≡ (if bytes_eq k key.0 then old.windows.last
      else number_of old.drawn k)

-- A term carries one more key.
pub record Carries (old new : Reach) (base key : Key) : Type 0 where
  pub windows : new.windows ≡ old.windows
  pub held : new.held ≡ old.held
  pub drawn : new.drawn ≡ old.drawn
  pub leads : (b k : List ℕ) → is_carried new.leads b k
      ≡ (is_carried old.leads b k || (bytes_eq b base.0 && bytes_eq k key.0))

-- Devices got a key.
pub record CameToHold (old new : Reach) (more : ℕ → List ℕ → Bool) : Type 0 where
  pub windows : new.windows ≡ old.windows
  pub leads : new.leads ≡ old.leads
  pub drawn : new.drawn ≡ old.drawn
  pub held : (d : ℕ) (k : List ℕ) → node_has new.held d k ≡ (node_has old.held d k || more d k)

-- A device was removed by the line of that number; a device was admitted.
pub record Removes (old new : Reach) (d number : ℕ) : Type 0 where
  pub found : (e : ℕ) → open_at new.windows e ≡ option_or (open_at old.windows e) (if nat_eq e d then Some number
      else None)
  pub last : new.windows.last ≡ number
  pub small : number < earliest
  pub leads : new.leads ≡ old.leads
  pub held : new.held ≡ old.held
  pub back : new.back ≡ old.back
  pub drawn : new.drawn ≡ old.drawn
  pub spread : IsSpread old.leads old.held old.spread → IsSpread old.leads old.held new.spread
  pub reached : earliest ≤ early_of new.spread d + number
  pub kept : (e : ℕ) → early_of old.spread e ≤ early_of new.spread e
  pub told : (k : List ℕ) → (number_of new.spread.keys k ≡ number_of old.spread.keys k)
      ⊎ (number_of new.spread.keys k + number ≡ earliest)

pub record Admits (old new : Reach) (d : ℕ) : Type 0 where
  pub found : (e : ℕ) → open_at new.windows e ≡ (if nat_eq e d then None else open_at old.windows e)
  pub last : new.windows.last ≡ old.windows.last
  pub leads : new.leads ≡ old.leads
  pub held : new.held ≡ old.held
  pub back : new.back ≡ old.back
  pub drawn : new.drawn ≡ old.drawn
  pub spread : new.spread ≡ old.spread

-- A term carries a key, or none.
abbrev pub CarriesSome : Reach → Reach → Key → Option Key → Type 0
CarriesSome old new base None = new ≡ old
CarriesSome old new base (Some key) = Carries old new base key

-- The evidence

pub record Seals (r : Reach) (old new : Evidence) (device : Option Eui) (term : Term) : Type 0 where
  pub sealed : (t : Term) (d number : ℕ) → late_by new d number t
      ≡ (late_by old d number t
      || (same_term (model_term t) (model_term term) && is_late_seal r.windows device d number))
  pub forged : new.forged ≡ old.forged

pub record Forges (old new : Evidence) (term : Term) : Type 0 where
  pub forged : (t : Term) → has_term new.forged t
      ≡ (has_term old.forged t || same_term (model_term t) (model_term term))
  pub sealed : new.sealed ≡ old.sealed

-- Seals are forgotten that are not late for any removed device.
pub record Forgets (w : Windows) (old new : Evidence) : Type 0 where
  pub forged : new.forged ≡ old.forged
  pub kept : (t : Term) (d number : ℕ) → opened_by (open_at w d) number ≡ true → late_by new d number t
      ≡ late_by old d number t
  pub fewer : (t : Term) (d number : ℕ) → late_by new d number t ≡ true → late_by old d number t ≡ true

pub record IsEvidence (e : Evidence) (h : List Line) : Type 0 where
  pub forged : (t : Term) → has_term e.forged t ≡ list_any (same_term (model_term t)) (flat_map forged_in h)
  pub sealed : EachWindow
      (λ a d b. (t : Term) → late_by e d (length a) t
      ≡ list_any (same_term (model_term t)) (along (sealed_by d) (declared_in a) b)) [] h
  pub early : (t : Term) (d number : ℕ) → late_by e d number t ≡ true → number ≤ length h

-- Lockout

-- Whether lockout of a device holds with one more line, if it held before that line.
abbrev pub goes_on : Tools → List Line → ℕ → List Line → Line → Bool
goes_on tools a d b l = keeps_out tools a (b ++ l ∷ []) d && refuses_line tools d a b l

-- After a line: the parts represent the lines with it, and the answer is whether lockout holds with it.
pub record IsJudged (tools : Tools) (new : Lockout) (h : List Line) (l : Line) (stays : Bool) : Type 0 where
  pub reach : IsReach tools new.reach (h ++ l ∷ [])
  pub evidence : IsEvidence new.evidence (h ++ l ∷ [])
  pub safe : stays ≡ true → IsSafe new.reach
  pub holds : stays ≡ true → EachWindow (λ a d b. admits d l ≡ false → goes_on tools a d b l ≡ true) [] h
  pub fails : stays ≡ false → SomeWindow (λ a d b. (admits d l ≡ false) × (goes_on tools a d b l ≡ false)) [] h

-- What is kept about the lines before a line whose past is already there.
pub record IsReady (tools : Tools) (names : List Bytes) (s : Lockout) (h : List Line) (l : Line) : Type 0 where
  pub past : IsPast tools names s.past (h ++ l ∷ [])
  pub reach : IsReach tools s.reach h
  pub evidence : IsEvidence s.evidence h
  pub safe : IsSafe s.reach

pub record Judges (old new : Lockout) (number : ℕ) (l : Line) (who : Who) (stays : Bool) : Type 0 where
  pub past : new.past ≡ old.past
  pub judged : (tools : Tools) (names : List Bytes) (h : List Line) → FindKeys tools → number ≡ length h + 1
      → IsSpeaker who names (declared_in h) l → IsReady tools names old h l → IsJudged tools new h l stays

-- What is kept as long as lockout holds.
pub record IsHeld (tools : Tools) (names : List Bytes) (s : Lockout) (h : List Line) : Type 0 where
  pub past : IsPast tools names s.past h
  pub reach : IsReach tools s.reach h
  pub evidence : IsEvidence s.evidence h
  pub safe : IsSafe s.reach
  pub locked : locked tools h ≡ true

-- The value represents these lines, whose names are among those of the list.
pub record Stands (tools : Tools) (names : List Bytes) (s : Lockout) (h : List Line) : Type 0 where
  pub first : s.first ≡ first_unlocked tools h
  pub held : s.first ≡ None → IsHeld tools names s h
