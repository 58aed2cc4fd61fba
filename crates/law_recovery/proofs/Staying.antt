-- Bare rows show the stage of two nodes: what changes only limits, counters and floors keeps it.
use Rattle.std.proofs.Common.{◌≡◌, ℕ}
use Rattle.zb_model.specs.State.{NodeState}
use Rattle.law_recovery.specs.Meeting.{HasNetwork}
use Rattle.law_recovery.proofs.Baring.{bare}
use Rattle.law_recovery.proofs.Keeping.{both_left, link_left, network_left, offer_left, proved_left}
use Rattle.law_recovery.proofs.Proving.{still_offered}
use Rattle.law_recovery.proofs.Requesting.{still_joined}
use Rattle.law_recovery.proofs.Refusing.{still_confirmed}
use Rattle.law_recovery.specs.Turns.{Far, Asking, Offering, Proving, Proved, Done}
use Rattle.law_recovery.specs.Stages.{Keys, DeviceIs, CentreHas}

pub device_left : (t u : NodeState) (centre : ℕ) (k : Keys) (far : Far) → DeviceIs far t centre k → bare u ≡ bare t
    → DeviceIs far u centre k
device_left t u centre k Asking j e = still_joined t u centre k.network k.sequence k.link j e
device_left t u centre k Offering j e = still_joined t u centre k.network k.sequence k.link j e
device_left t u centre k Proving j e = still_offered t u centre k.network k.sequence k.drawn j e
device_left t u centre k Proved j e = still_offered t u centre k.network k.sequence k.drawn j e
device_left t u centre k Done j e = still_confirmed t u centre k.network k.sequence k.drawn j e

pub record CentreLeft (u : NodeState) (device : ℕ) (k : Keys) (far : Far) : Type 0 where
  pub network : HasNetwork u k.network k.sequence
  pub centre : CentreHas far u device k

keys_left : (s u : NodeState) (device : ℕ) (k : Keys) (far : Far) → CentreHas far s device k → bare u ≡ bare s
    → CentreHas far u device k
keys_left s u device k Asking h e = link_left s u device k.link h e
keys_left s u device k Offering h e = both_left s u device k.link k.drawn h e
keys_left s u device k Proving h e = offer_left s u device k.drawn h e
keys_left s u device k Proved h e = proved_left s u device k.drawn h e
keys_left s u device k Done h e = proved_left s u device k.drawn h e

pub centre_left : (s u : NodeState) (device : ℕ) (k : Keys) (far : Far) → HasNetwork s k.network k.sequence
    → CentreHas far s device k → bare u ≡ bare s → CentreLeft u device k far
centre_left s u device k far h c e =
    record { network = network_left s u k.network k.sequence h e; centre = keys_left s u device k far c e }
