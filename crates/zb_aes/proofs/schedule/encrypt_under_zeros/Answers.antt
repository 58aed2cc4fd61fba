use Rattle.std.proofs.Common.{◌∙◌, ap}
use Rattle.zb_aes.specs.Block.{enciphered}
use Rattle.zb_aes.specs.Columns.{state_bytes}
use Rattle.zb_aes.proofs.Keys.{first_zero_key, zero_keys_are}
use Rattle.zb_aes.proofs.schedule.encrypt_under_zeros.Goals as goal

pub encrypt_by-requires : goal.encrypt_by-requires
encrypt_by-requires c = zero_keys_are

pub returns : goal.returns
returns c = c.encrypt_by.ensures ∙ ap (λ k. enciphered k (state_bytes c.args.block)) first_zero_key
