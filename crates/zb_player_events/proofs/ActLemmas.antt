-- An event is that of the node that has the seat.
use Rattle.std.proofs.Common.{◌≡◌, ℕ, List, Option, Some, None, ap, sym, ◌∙◌, subst}
use Rattle.zb_player_events.proofs.SeatLemmas.{seat_eui}
use Rattle.zb_player_events.specs.Acts.{HasNames, seat_for}
use Rattle.zb_player_events.specs.Seats.{first_seat, has_name, is_the_centre}
use Rattle.zb_player_events.specs.declared.seats.Seat.{Seat}
use Rattle.zb_install.specs.Code.{code_key}
use Rattle.zb_model.specs.Data.{Station, nobody, SayTo, TellTo, DoKnock, DoRejoin, DoTimer, AskFor, HasChild, DoProvision, DoRemove, DoSwitch, DoAgain, DoShare}
use Rattle.zb_model.specs.Play as play
use Rattle.zb_model.specs.Rules.{centre_of}
use Rattle.law_schedules.specs.Schedules.{event_for, named}
use Rattle.zb_sched_line.specs.Said as said
use Rattle.zb_sched_line.specs.Views.{event_of}
use Rattle.zb_sched_line.specs.declared.event.Event.{Event}

at_name : (known : List Station) (name : List ℕ) (it : Seat) (event : ℕ → play.Event)
    → first_seat (has_name name) 0 known ≡ Some it → Some (event it.eui.0) ≡ Some (event (named known name))
at_name known name it event is = ap (λ (n : ℕ). Some (event n)) (seat_eui (has_name name) 0 nobody known it is)

at_centre : (known : List Station) (it : Seat) (event : ℕ → play.Event) → first_seat is_the_centre 0 known ≡ Some it
    → Some (event it.eui.0) ≡ Some (event (centre_of known))
unfolding centre_of
at_centre known it event is =
    ap (λ (n : ℕ). Some (event n)) (seat_eui is_the_centre 0 18446744073709551616 known it is)

-- the event, if the node of this EUI is its node
abbrev pub event_at : List Station → ℕ → said.Event → Option play.Event
event_at known n (said.Says name to bytes) = Some (play.Own n (SayTo to bytes))
event_at known n (said.Delivers frame name) = Some (play.Deliver frame n)
event_at known n (said.Ticks name) = Some (play.Own n DoTimer)
event_at known n (said.Knocks name) = Some (play.Own n DoKnock)
event_at known n (said.Rejoins name) = Some (play.Own n DoRejoin)
event_at known n (said.Adopts parent name rejoin) = Some (play.Own n (HasChild (named known name) rejoin))
event_at known n (said.Asks name partner) = Some (play.Own n (AskFor (named known partner)))
event_at known n (said.Tells name partner bytes) = Some (play.Own n (TellTo (named known partner) bytes))
event_at known n (said.Resets name) = Some (play.Reset n)
event_at known n (said.Boots name) = Some (play.PowerOn n)
event_at known n (said.Dumps name) = Some (play.ShowRecord n)
event_at known n (said.Stops name calls torn) = Some (play.ArmStop n calls torn)
event_at known n (said.Fails name call) = Some (play.ArmFail n call)
event_at known n (said.Provisions name code) = Some (play.Own n (DoProvision (named known name) (code_key code)))
event_at known n (said.Repeats name) = Some (play.Own n (DoAgain (named known name)))
event_at known n said.Rolls = Some (play.RollOver n)
event_at known n said.Switches = Some (play.Own n DoSwitch)
event_at known n (said.Removes name parent) = Some (play.Own n (DoRemove (named known name) (named known parent)))
event_at known n (said.Shares name partner) = Some (play.Own n (DoShare (named known name) (named known partner)))
event_at known n (said.Injects bytes) = None
event_at known n (said.ForgesNet to from source key sequence counter content) = None
event_at known n (said.ForgesBoth to from source key sequence counter label base aps_counter command) = None
event_at known n (said.ForgesOpen to from source label base aps_counter command) = None

at_seat : (known : List Station) (it : Seat) (e : said.Event) → seat_for known e ≡ Some it → event_at known it.eui.0 e
    ≡ Some (event_for known e)
unfolding event_for
at_seat known it (said.Says name to bytes) is = at_name known name it (λ (n : ℕ). play.Own n (SayTo to bytes)) is
at_seat known it (said.Delivers frame name) is = at_name known name it (λ (n : ℕ). play.Deliver frame n) is
at_seat known it (said.Ticks name) is = at_name known name it (λ (n : ℕ). play.Own n DoTimer) is
at_seat known it (said.Knocks name) is = at_name known name it (λ (n : ℕ). play.Own n DoKnock) is
at_seat known it (said.Rejoins name) is = at_name known name it (λ (n : ℕ). play.Own n DoRejoin) is
at_seat known it (said.Adopts parent name rejoin) is =
    at_name known parent it (λ (n : ℕ). play.Own n (HasChild (named known name) rejoin)) is
at_seat known it (said.Asks name partner) is =
    at_name known name it (λ (n : ℕ). play.Own n (AskFor (named known partner))) is
at_seat known it (said.Tells name partner bytes) is =
    at_name known name it (λ (n : ℕ). play.Own n (TellTo (named known partner) bytes)) is
at_seat known it (said.Resets name) is = at_name known name it (λ (n : ℕ). play.Reset n) is
at_seat known it (said.Boots name) is = at_name known name it (λ (n : ℕ). play.PowerOn n) is
at_seat known it (said.Dumps name) is = at_name known name it (λ (n : ℕ). play.ShowRecord n) is
at_seat known it (said.Stops name calls torn) is = at_name known name it (λ (n : ℕ). play.ArmStop n calls torn) is
at_seat known it (said.Fails name call) is = at_name known name it (λ (n : ℕ). play.ArmFail n call) is
at_seat known it (said.Provisions name code) is =
    at_centre known it (λ (n : ℕ). play.Own n (DoProvision (named known name) (code_key code))) is
at_seat known it (said.Repeats name) is = at_centre known it (λ (n : ℕ). play.Own n (DoAgain (named known name))) is
at_seat known it said.Rolls is = at_centre known it (λ (n : ℕ). play.RollOver n) is
at_seat known it said.Switches is = at_centre known it (λ (n : ℕ). play.Own n DoSwitch) is
at_seat known it (said.Removes name parent) is =
    at_centre known it (λ (n : ℕ). play.Own n (DoRemove (named known name) (named known parent))) is
at_seat known it (said.Shares name partner) is =
    at_centre known it (λ (n : ℕ). play.Own n (DoShare (named known name) (named known partner))) is
at_seat known it (said.Injects bytes) is = cc
at_seat known it (said.ForgesNet to from source key sequence counter content) is = cc
at_seat known it (said.ForgesBoth to from source key sequence counter label base aps_counter command) is = cc
at_seat known it (said.ForgesOpen to from source label base aps_counter command) is = cc

pub act_is : (known : List Station) (it : Seat) (e made : Event) → e ≡ made → seat_for known (event_of e) ≡ Some it
    → event_at known it.eui.0 (event_of made) ≡ Some (event_for known (event_of e))
act_is known it e made same is = ap (λ (x : Event). event_at known it.eui.0 (event_of x)) (sym same) ∙ at_seat known
    it (event_of e) is

-- the names of an event, by what it is
pub names_as : (known : List Station) (e made : Event) → e ≡ made → HasNames known (event_of e)
    → HasNames known (event_of made)
names_as known e made same names = subst (λ (x : Event). HasNames known (event_of x)) same names
