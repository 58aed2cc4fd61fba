-- The tools are the program's: a term or command of the program, converted to the model's and back, is the same.
use Rattle.std.proofs.Common.{◌≡◌, ℕ, List, refl, ap, ◌∙◌}
use Rattle.zb_base.specs.declared.label.Label.{Label}
use Rattle.zb_base.specs.declared.label.Label.TheVariants as label
use Rattle.zb_base.specs.declared.label.Layer.{Layer}
use Rattle.zb_base.specs.declared.label.Layer.TheVariants as layer
use Rattle.zb_node_types.specs.Changes.{model_layer}
use Rattle.zb_model.specs.Tools.{sealing_key as model_key}
use Rattle.zb_cmd.specs.Spelling.{command}
use Rattle.zb_cmd.specs.declared.command.Command.{Command}
use Rattle.zb_cmd.specs.declared.command.Command.TheVariants as cmd
use Rattle.zb_seal.specs.Keys.{sealing_key}
use Rattle.zb_seal.specs.Wire.{wire}
use Rattle.zb_seal.specs.declared.term.Term.{Term}
use Rattle.zb_model_real.specs.Readers.{model_command}
use Rattle.zb_model_real.specs.Real.{real, command_for}
use Rattle.zb_model_real.specs.Terms.{term_of, layer_of, label_of, model_label, model_term}

layer-back : (l : Layer) → layer_of (model_layer l) ≡ l
layer-back layer.Nwk = refl
layer-back layer.Aps = refl

label-back : (l : Label) → label_of (model_label l) ≡ l
label-back label.Data = refl
label-back label.Network = refl
label-back label.Transport = refl
label-back label.Load = refl

term-back : (t : Term) → term_of (model_term t) ≡ t
term-back t = ap (λ l. record t { layer = l; label = label_of (model_label t.label) }) (layer-back t.layer) ∙ ap
    (λ l. record t { label = l }) (label-back t.label)

pub same_wire : (t : Term) → real.wire (model_term t) ≡ wire t
unfolding real
same_wire t = ap wire (term-back t)

pub same_key : (l : Label) (base : List ℕ) → model_key real (model_label l) base ≡ sealing_key l base
unfolding real model_key
same_key label.Data base = refl
same_key label.Network base = refl
same_key label.Transport base = refl
same_key label.Load base = refl

command-back : (c : Command) → command_for (model_command c) ≡ c
command-back (cmd.TransportNetwork key sequence destination source) = refl
command-back _ = refl

pub same_spelling : (c : Command) → real.spelled (model_command c) ≡ command c
unfolding real
same_spelling c = ap command (command-back c)
