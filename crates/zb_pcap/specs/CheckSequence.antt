-- The frame check sequence of IEEE 802.15.4 (5.2.1.9 of the edition of 2011).
--
-- It is a CRC-16 with the polynomial x^16 + x^12 + x^5 + 1, over the bits of each byte from the lowest on, and starts
-- with zeros. It is the remainder of the message times x^16.
use Rattle.std.specs.Prelude.{ℕ, List}
use Rattle.zb_install.specs.Division.{number_of, remainder}

unfoldable pub check_sequence : List ℕ → ℕ
check_sequence bytes = number_of (remainder 0 bytes)
