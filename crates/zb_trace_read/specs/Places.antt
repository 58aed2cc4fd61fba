-- Lines that are read into a place.
use Rattle.std.specs.Prelude.{Option}
use Rattle.std.specs.Option.{option_map}

-- What was read into a place, if something was.
abbrev pub read_into : {X : Type 0} → Option Unit → X → Option X
read_into result place = option_map (λ _. place) result
