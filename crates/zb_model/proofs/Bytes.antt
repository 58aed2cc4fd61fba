-- The bytes of records and of journal entries, computed.
use Rattle.std.specs.Prelude.{◌≡◌, [], ◌∷◌, refl}
use Rattle.zb_model.specs.Data.{Device, Nwk, Reserve}
use Rattle.zb_model.specs.State.{new_node}
use Rattle.zb_model.specs.Record.{record_of, edit_bytes, payload}

-- the record of a device that holds nothing
empty_device : record_of (new_node Device) ≡ 0x03 ∷ 0x02 ∷ 0 ∷ 0 ∷ 0 ∷ 0 ∷ 0 ∷ 0 ∷ 0 ∷ 0 ∷ 0 ∷ 0 ∷ 0 ∷ 0 ∷ 0xff ∷ 0xff
    ∷ 0 ∷ 0 ∷ 0 ∷ 0 ∷ []
unfolding record_of
empty_device = refl

-- the entry of a first reserve of NWK counters
first_reserve : payload (Reserve Nwk 4 ∷ []) ≡ 1 ∷ 1 ∷ 0 ∷ 4 ∷ 0 ∷ 0 ∷ 0 ∷ []
unfolding payload edit_bytes
first_reserve = refl
