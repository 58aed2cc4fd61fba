-- The bytes on the air of a sealed term (05-3474-21, 4.3.1, 4.4.1 and 4.5): its header with the level bits cleared,
-- the cipher text, the MIC.
use Rattle.std.specs.Prelude.{ℕ, zero, suc, ◌+◌, ◌-◌, ◌*◌, ◌/◌, List, [], ◌∷◌, ◌++◌, length, nat_le, if◌then◌else◌}
use Rattle.std.specs.Int.{w32}
use Rattle.zb_base.specs.declared.address.Eui.{Eui}
use Rattle.zb_base.specs.declared.label.Layer.{Layer}
use Rattle.zb_base.specs.declared.label.Layer.TheVariants.{Nwk, Aps}
use Rattle.zb_cursor.specs.Spelling.{byte, number, eui, bit}
use Rattle.zb_ccm.specs.Ccm.{Sealed, sealed}
use Rattle.zb_seal.specs.Keys.{sealing_key}
use Rattle.zb_seal.specs.declared.term.Term.{Term}

-- The low three bits of a control byte are the level: 000 on the air; for the nonce and the MIC it is 5 (encryption
-- and a MIC of 4 bytes).
abbrev pub zero_level : ℕ → ℕ
zero_level control = control / 8 * 8

abbrev pub real_level : ℕ → ℕ
real_level control = control / 8 * 8 + 5

-- Source, counter and control byte (05-3474-21, 4.5.2.2).
abbrev pub nonce : Eui → ℕ → ℕ → List ℕ
nonce source counter control = eui source ++ number w32 counter ++ byte control

-- a list with one place changed, if it has that place
abbrev pub at_place : (ℕ → ℕ) → ℕ → List ℕ → List ℕ
at_place change place [] = []
at_place change zero (x ∷ xs) = change x ∷ xs
at_place change (suc place) (x ∷ xs) = x ∷ at_place change place xs

-- How far before the header's end its auxiliary control byte is: 14 at NWK; at APS 13 with the extended nonce (bit 5),
-- else 5.
abbrev pub aux_size : Layer → ℕ → ℕ
aux_size Nwk control = 14
aux_size Aps control = if bit control 5 then 13 else 5

-- A header as it is on the air. One that is too short for an auxiliary header isn't changed.
abbrev pub on_air : ℕ → List ℕ → List ℕ
on_air size header = if nat_le size (length header) then at_place zero_level (length header - size) header else header

-- The cipher text and the MIC of a term.
abbrev pub sealed_term : List ℕ → Term → Sealed
sealed_term key t = sealed key (nonce t.source t.counter t.control) t.header.items t.content.items 4

abbrev pub wire_under : List ℕ → Term → List ℕ
wire_under key t = on_air (aux_size t.layer t.control) t.header.items ++ (sealed_term key t).text
    ++ (sealed_term key t).mic

abbrev pub wire : Term → List ℕ
wire t = wire_under (sealing_key t.label t.base.0) t

-- How many bytes a term has on the air: neither the level bits nor the cipher changes a length, and the MIC has 4
-- bytes.
abbrev pub wire_length : Term → ℕ
wire_length t = length t.header.items + length t.content.items + 4
