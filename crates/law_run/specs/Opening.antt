-- What the laws ask of opening frames: a frame shows the fields of the term that it opens to.
use Rattle.std.specs.Prelude.{ℕ, ◌≡◌, Option, Some, None}
use Rattle.zb_model.specs.Data.{Bytes, Nwk, Aps, Term}
use Rattle.zb_model.specs.Tools.{Tools, NwkShown, NwkAuxiliary, ApsShown, ApsAuxiliary}

-- the source that an APS frame shows, or the source that was given for it
abbrev pub shown_source : ℕ → Option ℕ → ℕ
shown_source given None = given
shown_source given (Some source) = source

-- The opened term is of its layer. It has the base key under which the bytes opened, and the source and counter of
-- the auxiliary header.
pub record Opens (tools : Tools) : Type 0 where
  pub nwk : (bytes key : Bytes) (f : NwkShown) (aux : NwkAuxiliary) (t : Term) → tools.read_nwk bytes ≡ Some f
      → f.auxiliary ≡ Some aux → tools.open_nwk bytes key ≡ Some t
      → (t.layer ≡ Nwk) × (t.base ≡ key) × (t.source ≡ aux.source) × (t.counter ≡ aux.counter)
  pub aps : (bytes key : Bytes) (given : ℕ) (a : ApsShown) (aux : ApsAuxiliary) (t : Term) → tools.read_aps bytes
      ≡ Some a → a.auxiliary ≡ Some aux → tools.open_aps bytes key given ≡ Some t
      → (t.layer ≡ Aps) × (t.base ≡ key) × (t.source ≡ shown_source given aux.source) × (t.counter ≡ aux.counter)
