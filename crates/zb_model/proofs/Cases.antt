-- Consequences of the definitions that no worked run shows, each computed.
use Rattle.std.specs.Prelude.{◌≡◌, ℕ, true, List, [], ◌∷◌, map, Some, None, refl}
use Rattle.zb_model.specs.Data.{nobody, Centre, Device, State, Joined, Provisional, Verified, ForData, ForTransport, Aps, Term, Draw, Install, Active, Row, Removed, Roll, Became, Moved}
use Rattle.zb_model.specs.State.{LinkKey, PairKey, applied, after_boot, active_row}
use Rattle.zb_model.specs.Rules.{Does, Setting, refuse_if, found_or, choose, centre_of, drop_old}
use Rattle.zb_model.specs.OwnEvents.{roll}
use Rattle.zb_model.specs.Judging.{candidates}
use Rattle.zb_model.specs.Commands.{Heard, take_net_key}
use Rattle.zb_model.specs.Answer.{changes}
use Rattle.zb_model.specs.Lines.{Line, Declared, Changed}
use Rattle.zb_model.specs.Secrets.{carried, ever}
use Rattle.std.specs.Prelude.{filter}
use Rattle.zb_model.proofs.Toy.{x, toy}
use Rattle.zb_model.proofs.Small.{node, k, net_at, link_of, bare, keyed_node}

-- A device 2 and a centre 1.
abbrev device : Setting
device = record { me = node Device 2 258; stations = node Centre 1 0 ∷ node Device 2 258 ∷ [] }

abbrev own_row : LinkKey
own_row = link_of 1 5 Verified true

abbrev from_centre : Heard
from_centre = record { sender = 1; label = Some ForTransport; row = Some own_row; nwk_source = Some 1 }

-- a boot restores the floors that were stored, of link keys too
booted_link_floors : map (λ (r : LinkKey). r.kept)
    (after_boot (keyed_node Device Joined (record own_row { kept = 5; stored = 9 } ∷ []))).links ≡ 9 ∷ []
unfolding after_boot
booted_link_floors = refl

-- of two live link keys of a source the newer one is tried first
newest_candidate_first : map (λ (r : LinkKey). r.key)
    (candidates (keyed_node Device Joined (own_row ∷ link_of 1 6 Verified true ∷ [])) 1) ≡ k 6 ∷ k 5 ∷ []
unfolding candidates
newest_candidate_first = refl

-- the first network key is active at once, also in a node that waits for none
first_key_is_active : take_net_key device (bare Device Joined) from_centre (k 8) 3 2 1
    ≡ Does (Install (k 8) 3 ∷ Active (k 8) ∷ []) None
unfolding take_net_key refuse_if choose centre_of drop_old
first_key_is_active = refl

-- the sequence of network keys wraps at 256
sequence_wraps : roll
    (record (keyed_node Centre State.Fresh []) { nets = record (net_at 1 true 7) { sequence = 255 } ∷ [] })
    (Some (k 8)) ≡ Does (Draw (k 8) ∷ Install (k 8) 0 ∷ Roll true ∷ []) None
unfolding roll found_or refuse_if active_row drop_old
sequence_wraps = refl

-- a pair ends with the removal of either
pairs_end : map (λ (p : PairKey). p.key)
    (applied (Moved (Removed 4))
    (record (bare Centre State.Fresh) {
      pairs = record { first = 2; second = 4; key = k 8 } ∷ record { first = 4; second = 7; key = k 9 }
          ∷ record { first = 2; second = 7; key = k 10 } ∷ [];
    })).pairs ≡ k 10 ∷ []
unfolding applied
pairs_end = refl

-- a knock that leaves all as it is changes nothing
second_knock : filter (changes (keyed_node Device State.Knocked (link_of 1 5 Provisional true ∷ [])))
    (Row 1 (k 5) Provisional ∷ Became State.Knocked ∷ []) ≡ []
second_knock = refl

-- application data that has the bytes of a Transport-Key carries no key; a command does
data_term : ℕ → Term
data_term control =
    record {
      layer = Aps;
      base = k 1;
      label = ForData;
      source = 1;
      counter = 0;
      control = 37;
      header = control
          ∷ [];
      content = x "0503303132333435363738393A3B3C3D3E3F040000000000000001";
    }

data_carries_nothing : carried toy (data_term 32) ≡ None
unfolding carried toy data_term
data_carries_nothing = refl

command_carries : carried toy (data_term 33) ≡ Some (x "303132333435363738393A3B3C3D3E3F")
unfolding carried toy data_term
command_carries = refl

-- a row of the centre is its partner's too once the centre is declared, and no row of an undeclared node is
late_centre : List Line
late_centre = Changed 1 1 (Moved (Row 2 (k 5) Provisional)) ∷ Declared (node Centre 1 0)
    ∷ Changed 2 1 (Moved (Row 2 (k 6) Provisional)) ∷ []

centre_known_at_the_line : ever late_centre 2 ≡ k 6 ∷ []
unfolding ever late_centre
centre_known_at_the_line = refl

row_of_nobody : ever (Changed 1 nobody (Moved (Row 2 (k 5) Provisional)) ∷ []) 2 ≡ []
unfolding ever
row_of_nobody = refl
