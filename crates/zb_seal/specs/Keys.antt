-- The sealing keys of a base key.
use Rattle.std.specs.Prelude.{ℕ, List}
use Rattle.zb_base.specs.declared.label.Label.{Label}
use Rattle.zb_base.specs.declared.label.Label.TheVariants.{Data, Network, Transport, Load}
use Rattle.zb_mmo.specs.Keyed.{transport_key, load_key}

-- The key that seals with a label (05-3474-21, 4.5.3).
abbrev pub sealing_key : Label → List ℕ → List ℕ
sealing_key Data base = base
sealing_key Network base = base
sealing_key Transport base = transport_key base
sealing_key Load base = load_key base
