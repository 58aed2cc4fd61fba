-- A term by its fields, for the computed runs.
use Rattle.std.specs.Prelude.{ℕ}
use Rattle.zb_model.specs.Data.{Bytes, Layer, Label, Term}

abbrev pub term : Layer → Bytes → Label → ℕ → ℕ → ℕ → Bytes → Bytes → Term
term layer base label source counter control header content =
    record {
      layer = layer;
      base = base;
      label = label;
      source = source;
      counter = counter;
      control = control;
      header = header;
      content = content;
    }
