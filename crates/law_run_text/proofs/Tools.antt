-- Real frames keep to the ranges.
use Rattle.std.proofs.Common.{ℕ, [], ◌∷◌}
use Rattle.zb_model.specs.Data.{Bytes}
use Rattle.law_run_ranges.specs.Asking.{KeepsRanges}
use Rattle.law_run_ranges.specs.Ranges.{IsByte, IsKey}
use Rattle.zb_model_real.specs.Real.{real}
use Rattle.law_run_text.proofs.Ciphers.{keyed_in}
use Rattle.law_run_text.proofs.Read.{read_nwk_in, open_nwk_in, read_aps_in, open_aps_in, read_command_in}
use Rattle.law_run_text.proofs.Sealed.{wire_in, wire_length_in, spelled_in, plain_in, tunnel_length}

hashed : (key : Bytes) (b : ℕ) → IsKey key → IsByte b → IsKey (real.keyed key b)
unfolding real
hashed key b k is = keyed_in key (b ∷ []) k.0 (is, tt)

pub real_keeps : KeepsRanges real
real_keeps = record {
  wire = wire_in;
  wire_length = wire_length_in;
  keyed = hashed;
  spelled = spelled_in;
  plain = plain_in;
  tunnel = tunnel_length;
  read_nwk = read_nwk_in;
  open_nwk = open_nwk_in;
  read_aps = read_aps_in;
  open_aps = open_aps_in;
  read_command = read_command_in;
}
