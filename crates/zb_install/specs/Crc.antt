-- The CRC of an install code (Base Device Behavior, install codes). It is CRC-16 with the polynomial x^16 + x^12 + x^5
-- + 1. It takes the bits of each byte lowest bit first, starts with ones and is inverted at the end. So it is the
-- remainder of a division of polynomials.
use Rattle.std.specs.Prelude.{ℕ, List, replicate}
use Rattle.zb_install.specs.Division.{added, number_of, remainder}

-- The message times x^16, with ones added to its highest powers, is divided, and ones are added to the remainder.
unfoldable pub crc : List ℕ → ℕ
crc bytes = number_of (added (remainder 0xffff bytes) (replicate 16 1))
