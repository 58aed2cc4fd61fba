-- A life: all that is done to a centre's store and to the stores that were restored from its backups.
use Rattle.std.specs.Prelude.{◌≡◌, ◌⊎◌, ℕ, true, is_some, List, [], ◌∷◌, ◌++◌, Some, None, Ok, Err, ⊤}
use Rattle.std.specs.List.{AllByRecursion}
use Rattle.law_sessions.specs.Accepts.{all_accepts}
use Rattle.law_sessions.specs.Deeds.{AreDeeds, Deed, Lived, Ran, all_seals, last_left}
use Rattle.law_sessions.specs.Runs.{Restores, backup_tables}
use Rattle.zb_centre_store.specs.Freshness.{HasUsed}
use Rattle.zb_centre_store.specs.Standing.{found_on}
use Rattle.zb_live.specs.Living.{Found}
use Rattle.zb_model.specs.Data.{Layer, Nwk, Aps, Term}
use Rattle.zb_model.specs.State.{NodeState, net_of}

-- A store that was restored: the backup and SKIP of the `restore` with which its first run begins, on an empty disk,
-- and all that was done to it since.
pub record Restored : Type 0 where
  pub skip : ℕ
  pub backup : List ℕ
  pub deeds : List Deed

-- a store of this life that was given up: all that was sealed with it, and what it held at last
pub record Store : Type 0 where
  pub seals : List Term
  pub last : Found

abbrev pub store_on : List ℕ → List Deed → Store
store_on image deeds = record { seals = all_seals image deeds; last = found_on (last_left image deeds) }

-- the first deed is a run that begins with a stored `restore`
abbrev pub BeginsRestored : ℕ → List ℕ → List Deed → Type 0
BeginsRestored skip backup [] = ⊤
BeginsRestored skip backup (Lived session ∷ more) = ⊥
BeginsRestored skip backup (Ran run ∷ more) = Restores skip backup (run ∷ [])

-- SKIP reaches, from the limits of the backup, those that a store had at last
abbrev pub Reaches : ℕ → NodeState → Found → Type 0
Reaches skip backup (Ok (Some lost)) = HasUsed skip backup lost
Reaches skip backup (Ok None) = ⊤
Reaches skip backup (Err fault) = ⊤

-- a term is sealed under this network key
abbrev pub IsUnder : List ℕ → Term → Type 0
IsUnder key t = (t.layer ≡ Nwk) × (t.base ≡ key)

-- A network key that sealed a term is in the backup, or the restored store never seals under it. So it is where each
-- key is drawn once.
abbrev pub IsApartAt : Layer → NodeState → List Term → Term → Type 0
IsApartAt Nwk backup since t = (is_some (net_of t.base backup) ≡ true)
    ⊎ AllByRecursion (λ u. IsUnder t.base u → ⊥) since
IsApartAt Aps backup since t = ⊤

abbrev pub IsDrawnOnce : NodeState → List Term → Term → Type 0
IsDrawnOnce backup since t = IsApartAt t.layer backup since t

-- A store was restored in a life that had these stores before: SKIP reaches what any of them had, and no key that one
-- of them drew since the backup is drawn again.
pub record IsRestored (before : List Store) (r : Restored) : Type 0 where
  pub deeds : AreDeeds [] r.deeds
  pub begins : BeginsRestored r.skip r.backup r.deeds
  pub reaches : AllByRecursion (λ (s : Store). Reaches r.skip (backup_tables r.backup) s.last) before
  pub drawn_once : AllByRecursion
      (λ (s : Store). AllByRecursion (IsDrawnOnce (backup_tables r.backup) (all_seals [] r.deeds)) s.seals) before

-- each store was restored after the ones before it
abbrev pub AreRestored : List Store → List Restored → Type 0
AreRestored before [] = ⊤
AreRestored before (r ∷ more) = IsRestored before r × AreRestored (before ++ store_on [] r.deeds ∷ []) more

-- what the centre seals with all of them
abbrev pub restored_seals : List Restored → List Term
restored_seals [] = []
restored_seals (r ∷ more) = all_seals [] r.deeds ++ restored_seals more

abbrev pub life_seals : List ℕ → List Deed → List Restored → List Term
life_seals image deeds more = all_seals image deeds ++ restored_seals more

-- ---- what a restore doesn't undo

-- A store was restored from a backup of what the store before it held. Of a life this is the part that no restore
-- undid: what was done to a store after the backup is left out.
pub record IsInLine (before : Found) (r : Restored) : Type 0 where
  pub deeds : AreDeeds [] r.deeds
  pub some : r.deeds ≡ [] → ⊥
  pub begins : BeginsRestored r.skip r.backup r.deeds
  pub backup : before ≡ Ok (Some (backup_tables r.backup))

-- each store was restored from a backup of the one before it
abbrev pub AreInLine : Found → List Restored → Type 0
AreInLine before [] = ⊤
AreInLine before (r ∷ more) = IsInLine before r × AreInLine (found_on (last_left [] r.deeds)) more

-- what the centre accepts with all of them
abbrev pub restored_accepts : List Restored → List Term
restored_accepts [] = []
restored_accepts (r ∷ more) = all_accepts [] r.deeds ++ restored_accepts more
