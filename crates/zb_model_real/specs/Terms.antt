-- A term of the program as the model's term, and back.
use Rattle.std.specs.Prelude.{ℕ}
use Rattle.zb_base.specs.declared.address.Eui.{Eui}
use Rattle.zb_base.specs.declared.key.Key.{Key}
use Rattle.zb_base.specs.declared.label.Label.{Label}
use Rattle.zb_base.specs.declared.label.Label.TheVariants as label
use Rattle.zb_base.specs.declared.label.Layer.{Layer}
use Rattle.zb_base.specs.declared.label.Layer.TheVariants as layer
use Rattle.zb_node_types.specs.Changes.{model_layer}
use Rattle.zb_model.specs.Data as model
use Rattle.zb_model.specs.Data.{Bytes}
use Rattle.zb_seal.specs.declared.term.Term.{Term}

abbrev pub model_label : Label → model.Label
model_label label.Data = model.ForData
model_label label.Network = model.ForNetwork
model_label label.Transport = model.ForTransport
model_label label.Load = model.ForLoad

-- the fields of a term in the model
abbrev pub model_term : Term → model.Term
model_term t = record {
  layer = model_layer t.layer;
  base = t.base.0;
  label = model_label t.label;
  source = t.source.0;
  counter = t.counter;
  control = t.control;
  header = t.header.items;
  content = t.content.items;
}

abbrev pub layer_of : model.Layer → Layer
layer_of model.Nwk = layer.Nwk
layer_of model.Aps = layer.Aps

abbrev pub label_of : model.Label → Label
label_of model.ForData = label.Data
label_of model.ForNetwork = label.Network
label_of model.ForTransport = label.Transport
label_of model.ForLoad = label.Load

abbrev pub eui_of : ℕ → Eui
eui_of n = record { 0 = n }

abbrev pub key_of : Bytes → Key
key_of bytes = record { 0 = bytes }

-- a term of the model as the program's term
abbrev pub term_of : model.Term → Term
term_of t = record {
  layer = layer_of t.layer;
  base = key_of t.base;
  label = label_of t.label;
  source = eui_of t.source;
  counter = t.counter;
  control = t.control;
  header = record { items = t.header };
  content = record { items = t.content };
}
