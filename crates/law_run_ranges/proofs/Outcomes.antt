-- The outcomes of rules: the steps of their chains.
use Rattle.std.proofs.Common.{◌≡◌, ◌≤◌, Bool, true, false, length, Option, Some, None, IfSome, refl}
use Rattle.std.specs.Prelude.{⊤}
use Rattle.std.specs.List.{AllByRecursion}
use Rattle.zb_model.specs.Data.{Station, Reason}
use Rattle.zb_model.specs.Rules.{Body, Saying, Clear, Secret, Tunnelled, Telling, Leaving, Relayed, Sending, Outcome, Stop, Does, Setting, centre_of, refuse_if, found_or, choose}
use Rattle.law_run_ranges.specs.Asking.{IsSmall, CommandInRange, IsPlain}
use Rattle.law_run_ranges.specs.Ranges.{IsEui, IsByte, AreBytes, IsKey, MoveInRange, ReasonInRange}

-- what is sent; the frame of a Tunnel isn't secured at NWK
abbrev pub BodyInRange : Bool → Body → Type 0
BodyInRange secured (Saying bytes) = IsSmall bytes
BodyInRange secured (Clear control command) = IsByte control × CommandInRange command × IsPlain command
BodyInRange secured (Secret label key command) = IsKey key × CommandInRange command × IsPlain command
BodyInRange secured (Tunnelled device key command) = IsEui device × IsKey key × CommandInRange command
    × IsPlain command
BodyInRange secured (Telling key bytes) = IsKey key × IsSmall bytes
BodyInRange secured Leaving = ⊤
BodyInRange secured (Relayed bytes) = (secured ≡ false) × AreBytes bytes × (length bytes ≤ 118)

abbrev pub SendingInRange : Sending → Type 0
SendingInRange send = BodyInRange send.secured send.body

abbrev pub OutcomeInRange : Outcome → Type 0
OutcomeInRange (Stop reason) = ReasonInRange reason
OutcomeInRange (Does moves sending) = AllByRecursion MoveInRange moves × IfSome sending SendingInRange

abbrev pub StationHasEui : Station → Type 0
StationHasEui p = IsEui p.eui

-- what a node knows of itself and of the others
abbrev pub SettingInRange : Setting → Type 0
SettingInRange c = IsEui c.me.eui × IsEui (centre_of c.stations) × AllByRecursion StationHasEui c.stations

pub unless_in : (b : Bool) (reason : Reason) (rest : Outcome) → ReasonInRange reason
    → (b ≡ false → OutcomeInRange rest) → OutcomeInRange (refuse_if b reason rest)
unfolding refuse_if
unless_in true reason rest r k = r
unless_in false reason rest r k = k refl

pub found_in : {A : Type 0} (P : A → Type 0) (o : Option A) (reason : Reason) (rest : A → Outcome)
    → ReasonInRange reason → IfSome o P → ((a : A) → P a → OutcomeInRange (rest a))
    → OutcomeInRange (found_or o reason rest)
unfolding found_or
found_in P None reason rest r is k = r
found_in P (Some a) reason rest r is k = k a is

pub any_in : {A : Type 0} (o : Option A) (reason : Reason) (rest : A → Outcome) → ReasonInRange reason
    → ((a : A) → OutcomeInRange (rest a)) → OutcomeInRange (found_or o reason rest)
unfolding found_or
any_in None reason rest r k = r
any_in (Some a) reason rest r k = k a

pub choose_in : (b : Bool) (x y : Outcome) → OutcomeInRange x → OutcomeInRange y → OutcomeInRange (choose b x y)
unfolding choose
choose_in true x y p q = p
choose_in false x y p q = q
