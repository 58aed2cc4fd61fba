-- Sessions on one disk seal what their lines seal, and have the log of their lines, one session after the other.
use Rattle.std.proofs.Common.{◌≡◌, ℕ, List, [], ◌∷◌, ◌++◌, map, Option, Some, None, refl, sym, ap, ◌∙◌, subst}
use Rattle.law_sessions.specs.Logs.{hub_log, lines_write, log_on, opened_lines}
use Rattle.law_sessions.specs.Sessions.{AreKept, AreSessions, IsLeft, NoneTwice, Session, found_after, lines_seal, sealed_on, sessions_seal}
use Rattle.law_sessions.proofs.FoundAgain.{found_again}
use Rattle.law_sessions.proofs.RuledSessions.{session_kept}
use Rattle.law_sessions.proofs.SessionLemmas.{sessions_apart}
use Rattle.law_sessions.proofs.Stamps.{nonces_apart}
use Rattle.zb_centre_store.specs.Standing.{found_on}
use Rattle.zb_live.specs.Living.{Found, fresh, served}
use Rattle.zb_model.specs.Claims.{AreApart}
use Rattle.zb_model.specs.State.{NodeState}
use Rattle.zb_model_real.specs.Real.{real}

pub left_found : (found : Found) (o : Option NodeState) (left : List ℕ) → AreKept o → IsLeft found o left
    → found_on left ≡ found_after found o
left_found found None left kept is = is
left_found found (Some s) left kept is = found_again s left kept is

-- what they seal is what their lines seal
same_seals : (image : List ℕ) (sessions : List Session) → AreSessions image sessions → sealed_on image sessions
    ≡ sessions_seal (found_on image) (map (λ (x : Session). x.lines) sessions)
same_seals image [] are = refl
same_seals image (x ∷ more) (is, are) =
    ap (λ ts. lines_seal (found_on image) x.lines fresh ++ ts)
    (same_seals x.left more are ∙ ap (λ (found : Found). sessions_seal found (map (λ (x : Session). x.lines) more))
    (left_found (found_on image) (served (found_on image) x.lines fresh).after.tables x.left
    (session_kept image x.lines) is))

pub disk_apart : (image : List ℕ) (sessions : List Session) → AreSessions image sessions
    → NoneTwice (sealed_on image sessions)
disk_apart image sessions are = subst NoneTwice (sym (same_seals image sessions are))
    (sessions_apart image (map (λ (x : Session). x.lines) sessions))

pub disk_nonces_apart : (image : List ℕ) (sessions : List Session) → AreSessions image sessions
    → AreApart real (sealed_on image sessions)
disk_nonces_apart image sessions are = subst (AreApart real) (sym (same_seals image sessions are))
    (nonces_apart image (map (λ (x : Session). x.lines) sessions))

-- and their log is that of their lines
pub same_log : (n : ℕ) (image : List ℕ) (sessions : List Session) → AreSessions image sessions
    → log_on n image sessions ≡ hub_log n (found_on image) (map (λ (x : Session). x.lines) sessions)
same_log n image [] are = refl
same_log n image (x ∷ more) (is, are) =
    ap
    (λ ls. opened_lines n (served (found_on image) x.lines fresh).after.tables
    (lines_write (found_on image) x.lines fresh) ++ ls)
    (same_log n x.left more are ∙ ap (λ (found : Found). hub_log n found (map (λ (x : Session). x.lines) more))
    (left_found (found_on image) (served (found_on image) x.lines fresh).after.tables x.left
    (session_kept image x.lines) is))
