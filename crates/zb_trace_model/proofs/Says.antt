-- A line of the program, with the name of a declared node, is the line of the model of that node.
use Rattle.std.proofs.Common.{◌≡◌, ℕ, List, Option, Some, None, refl, sym, ap, subst, ◌∙◌, bytes_eq, codes, true}
use Rattle.std.specs.Prelude.{if◌then◌else◌, Bool}
use Rattle.arrayvec.specs.ArrayString.{ArrayString}
use Rattle.arrayvec.specs.ArrayVec.{ArrayVec}
use Rattle.zb_base.specs.declared.address.Eui.{Eui}
use Rattle.zb_base.specs.declared.address.Short.{Short}
use Rattle.zb_base.specs.declared.key.Key.{Key}
use Rattle.zb_base.specs.declared.label.Layer.{Layer}
use Rattle.zb_base.specs.declared.node.Role.{Role}
use Rattle.zb_base.specs.declared.state.Attribute.{Attribute}
use Rattle.zb_base.specs.declared.state.Rollover.{Rollover}
use Rattle.zb_base.specs.declared.state.State.{State}
use Rattle.zb_model.specs.Data as model
use Rattle.zb_model.specs.Data.{Bytes, Station}
use Rattle.zb_model.specs.Lines as log
use Rattle.zb_model_real.specs.Terms.{layer_of, model_term}
use Rattle.zb_node_types.specs.Changes.{model_layer, model_role, model_state, model_attribute, is_sending, model_place, place_of, reason}
use Rattle.zb_node_types.specs.declared.refusal.Refusal.{Refusal}
use Rattle.zb_seal.specs.declared.term.Term.{Term}
use Rattle.zb_text.specs.Fields.{is_name}
use Rattle.zb_trace.specs.Text.{words, text, line_of}
use Rattle.zb_trace.specs.Views.{named, the_centre, sent_by, logged}
use Rattle.zb_trace.specs.declared.line.Line.{Line}
use Rattle.zb_trace.specs.declared.line.Line.TheVariants as line
use Rattle.zb_trace_model.specs.Naming.{IsCalled}
use Rattle.zb_trace_model.specs.Parts.{state_for, attribute_for, rollover_for}
use Rattle.zb_trace_model.specs.Said.{name_in, called, edit_line, line_for, line_text, IsLineOf, IsOfCentre}
use Rattle.zb_trace_model.proofs.Naming.{not_dash}
use Rattle.zb_trace_model.proofs.Parts.{layer_same, role_same, state_same, attribute_same, rollover_same, term_same, refusal_same, layer_again, state_again, attribute_again, rollover_again}

-- `f` makes the line with a name, `g` the model's with a node
by_name : (known : List Station) (n : ℕ) (node : ArrayString) (f : ArrayString → Line) (g : ℕ → log.Line)
    → IsCalled known n node.bytes
    → logged known (f node) ≡ g (named known node.bytes) → words (f node) ≡ words (f (name_in node.bytes))
    → line_for known (g n) ≡ f (called known n)
    → IsLineOf known (f node) (g n)
unfolding text line_text
by_name known n node f g it logs spare there = record {
  logged_is = logs ∙ ap g it.leads;
  text_is = ap line_of (spare ∙ (ap (λ name. words (f (name_in name))) (sym it.name_is) ∙ sym (ap words there)));
}

of_centre : (known : List Station) (n : ℕ) (l : Line) (g : ℕ → log.Line) → the_centre known ≡ n → logged known l
    ≡ g (the_centre known) → line_for known (g n) ≡ l → IsLineOf known l (g n)
unfolding line_text
of_centre known n l g it logs there = record { logged_is = logs ∙ ap g it; text_is = ap text (sym there) }

of_nobody : (known : List Station) (l : Line) (m : log.Line) → logged known l ≡ m → line_for known m ≡ l
    → IsLineOf known l m
unfolding line_text
of_nobody known l m logs there = record { logged_is = logs; text_is = ap text (sym there) }

pub declared_says : (name : ArrayString) (r : Role) (eui : Eui) (short : Short) (out_block in_block : ℕ)
    (known : List Station)
    → IsLineOf known (line.Node name r eui short out_block in_block)
    (log.Declared
    (record {
      name = name.bytes;
      eui = eui.0;
      short = short.0;
      role = model_role r;
      out_block = out_block;
      in_block = in_block;
    }))
unfolding text line_text line_for
declared_says name r eui short out_block in_block known =
    record {
      logged_is = refl;
      text_is = ap (λ x. line_of (words (line.Node (name_in name.bytes) x eui short out_block in_block)))
          (sym (role_same r));
    }

pub given_net_says : (node : ArrayString) (key : Key) (sequence : ℕ) (known : List Station) (n : ℕ)
    → IsCalled known n node.bytes → IsLineOf known (line.GivenNet node key sequence) (log.GivenNet n key.0 sequence)
unfolding line_for
given_net_says node key sequence known n it = by_name known n node (λ x. line.GivenNet x key sequence)
    (λ x. log.GivenNet x key.0 sequence) it refl refl refl

pub given_link_says : (node : ArrayString) (partner : Eui) (key : Key) (known : List Station) (n : ℕ)
    → IsCalled known n node.bytes → IsLineOf known (line.GivenLink node partner key) (log.GivenLink n partner.0 key.0)
unfolding line_for
given_link_says node partner key known n it = by_name known n node (λ x. line.GivenLink x partner key)
    (λ x. log.GivenLink x partner.0 key.0) it refl refl refl

pub counter_says : (node : ArrayString) (l : Layer) (limit : ℕ) (known : List Station) (n : ℕ)
    → IsCalled known n node.bytes → IsLineOf known (line.Counter node l limit) (log.Counter n (model_layer l) limit)
unfolding line_for
counter_says node l limit known n it =
    by_name known n node (λ x. line.Counter x l limit) (λ x. log.Counter x (model_layer l) limit) it refl refl
    (ap (λ x. line.Counter (called known n) x limit) (layer_same l))

pub commit_says : (event : ℕ) (node : ArrayString) (known : List Station) (n : ℕ) → IsCalled known n node.bytes
    → IsLineOf known (line.Commit event node) (log.Commit event n)
unfolding line_for
commit_says event node known n it = by_name known n node (line.Commit event) (log.Commit event) it refl refl refl

pub accept_says : (event : ℕ) (node : ArrayString) (t : Term) (known : List Station) (n : ℕ)
    → IsCalled known n node.bytes → IsLineOf known (line.Accept event node t) (log.Accept event n (model_term t))
unfolding line_for
accept_says event node t known n it =
    by_name known n node (λ x. line.Accept event x t) (λ x. log.Accept event x (model_term t)) it refl refl
    (ap (line.Accept event (called known n)) (term_same t))

pub seal_says : (event : ℕ) (node : ArrayString) (t : Term) (known : List Station) (n : ℕ)
    → IsCalled known n node.bytes → IsLineOf known (line.Seal event node t) (log.Seal event n (model_term t))
unfolding line_for
seal_says event node t known n it = by_name known n node (λ x. line.Seal event x t)
    (λ x. log.Seal event x (model_term t)) it refl refl (ap (line.Seal event (called known n)) (term_same t))

pub refuse_says : (event : ℕ) (node : ArrayString) (r : Refusal) (known : List Station) (n : ℕ)
    → IsCalled known n node.bytes
    → IsLineOf known (line.Refuse event node r) (log.Refuse event n (model_place (place_of r)) (reason r))
unfolding line_for
refuse_says event node r known n it =
    by_name known n node (λ x. line.Refuse event x r) (λ x. log.Refuse event x (model_place (place_of r)) (reason r))
    it refl refl (ap (line.Refuse event (called known n)) (refusal_same r))

pub forge_says : (event : ℕ) (t : Term) (known : List Station)
    → IsLineOf known (line.Forge event t) (log.Forge event (model_term t))
unfolding line_for
forge_says event t known = of_nobody known (line.Forge event t) (log.Forge event (model_term t)) refl
    (ap (line.Forge event) (term_same t))

abbrev sent_as : Bool → ℕ → Option ℕ
sent_as b n = if b then None else Some n

pub send_says : (event : ℕ) (node : ArrayString) (frame : ℕ) (bytes : ArrayVec ℕ) (known : List Station) (n : ℕ)
    → IsCalled known n node.bytes → is_name node.bytes ≡ true
    → IsLineOf known (line.Send event node frame bytes) (log.Send event (Some n) frame bytes.items)
unfolding line_for sent_by
send_says event node frame bytes known n it fits =
    by_name known n node (λ x. line.Send event x frame bytes) (λ x. log.Send event (Some x) frame bytes.items) it
    (ap (λ b. log.Send event (sent_as b (named known node.bytes)) frame bytes.items)
    (not_dash node.bytes (bytes_eq node.bytes (codes "-")) refl fits)) refl refl

pub outsider_says : (event : ℕ) (node : ArrayString) (frame : ℕ) (bytes : ArrayVec ℕ) (known : List Station)
    → node.bytes ≡ codes "-"
    → IsLineOf known (line.Send event node frame bytes) (log.Send event None frame bytes.items)
unfolding text line_text line_for sent_by
outsider_says event node frame bytes known it = record {
  logged_is = ap (λ name. log.Send event (sent_by known name) frame bytes.items) it;
  text_is = ap (λ name. line_of (words (line.Send event (name_in name) frame bytes))) it;
}

pub inject_says : (event frame : ℕ) (bytes : ArrayVec ℕ) (known : List Station)
    → IsLineOf known (line.Inject event frame bytes) (log.Inject event frame bytes.items)
unfolding line_for
inject_says event frame bytes known = of_nobody known (line.Inject event frame bytes)
    (log.Inject event frame bytes.items) refl refl

pub stopped_says : (event : ℕ) (node : ArrayString) (known : List Station) (n : ℕ) → IsCalled known n node.bytes
    → IsLineOf known (line.Stopped event node) (log.Stopped event n)
unfolding line_for
stopped_says event node known n it = by_name known n node (line.Stopped event) (log.Stopped event) it refl refl refl

pub reset_says : (event : ℕ) (node : ArrayString) (known : List Station) (n : ℕ) → IsCalled known n node.bytes
    → IsLineOf known (line.DownReset event node) (log.DownReset event n)
unfolding line_for
reset_says event node known n it = by_name known n node (line.DownReset event) (log.DownReset event) it refl refl refl

pub disk_says : (event : ℕ) (node : ArrayString) (known : List Station) (n : ℕ) → IsCalled known n node.bytes
    → IsLineOf known (line.DownDisk event node) (log.DownDisk event n)
unfolding line_for
disk_says event node known n it = by_name known n node (line.DownDisk event) (log.DownDisk event) it refl refl refl

pub boot_says : (event : ℕ) (node : ArrayString) (known : List Station) (n : ℕ) → IsCalled known n node.bytes
    → IsLineOf known (line.Boot event node) (log.Boot event n)
unfolding line_for
boot_says event node known n it = by_name known n node (line.Boot event) (log.Boot event) it refl refl refl

pub dump_says : (event : ℕ) (node : ArrayString) (bytes : List ℕ) (known : List Station) (n : ℕ)
    → IsCalled known n node.bytes → IsLineOf known (line.Dump event node bytes) (log.Dump event n bytes)
unfolding line_for
dump_says event node bytes known n it = by_name known n node (λ x. line.Dump event x bytes)
    (λ x. log.Dump event x bytes) it refl refl refl

pub end_says : (events seals accepts refusals : ℕ) (ideal private : Bool) (known : List Station)
    → IsLineOf known (line.End events seals accepts refusals ideal private)
    (log.End events seals accepts refusals ideal private)
unfolding line_for
end_says events seals accepts refusals ideal private known =
    of_nobody known (line.End events seals accepts refusals ideal private)
    (log.End events seals accepts refusals ideal private) refl refl

-- a change, whose line the program makes from the program's

abbrev changed : (event : ℕ) → model.Edit → ℕ → log.Line
changed event e n = log.Changed event n e

move_says : (event : ℕ) (node : ArrayString) (m : model.Move) (known : List Station) (n : ℕ)
    → IsCalled known n node.bytes → IsOfCentre known n (model.Moved m)
    → IsLineOf known (edit_line event node (model.Moved m)) (log.Changed event n (model.Moved m))
unfolding line_for
move_says event node (model.Draw key) known n it centre =
    of_centre known n (edit_line event node (model.Moved (model.Draw key)))
    (changed event (model.Moved (model.Draw key))) centre refl refl
move_says event node (model.DropNet key) known n it centre =
    by_name known n node (λ x. edit_line event x (model.Moved (model.DropNet key)))
    (changed event (model.Moved (model.DropNet key))) it refl refl refl
move_says event node (model.DropLink partner key) known n it centre =
    by_name known n node (λ x. edit_line event x (model.Moved (model.DropLink partner key)))
    (changed event (model.Moved (model.DropLink partner key))) it refl refl refl
move_says event node (model.Install key sequence) known n it centre =
    by_name known n node (λ x. edit_line event x (model.Moved (model.Install key sequence)))
    (changed event (model.Moved (model.Install key sequence))) it refl refl refl
move_says event node (model.Active key) known n it centre =
    by_name known n node (λ x. edit_line event x (model.Moved (model.Active key)))
    (changed event (model.Moved (model.Active key))) it refl refl refl
move_says event node (model.Row partner key a) known n it centre =
    by_name known n node (λ x. edit_line event x (model.Moved (model.Row partner key a)))
    (changed event (model.Moved (model.Row partner key a))) it
    (ap (λ x. log.Changed event (named known node.bytes) (model.Moved (model.Row partner key x))) (attribute_again a))
    refl refl
move_says event node (model.Pair one two key) known n it centre =
    by_name known n node (λ x. edit_line event x (model.Moved (model.Pair one two key)))
    (changed event (model.Moved (model.Pair one two key))) it refl refl refl
move_says event node (model.Became s) known n it centre =
    by_name known n node (λ x. edit_line event x (model.Moved (model.Became s)))
    (changed event (model.Moved (model.Became s))) it
    (ap (λ x. log.Changed event (named known node.bytes) (model.Moved (model.Became x))) (state_again s)) refl refl
move_says event node (model.Live device) known n it centre =
    of_centre known n (edit_line event node (model.Moved (model.Live device)))
    (changed event (model.Moved (model.Live device))) centre refl refl
move_says event node (model.Removed device) known n it centre =
    of_centre known n (edit_line event node (model.Moved (model.Removed device)))
    (changed event (model.Moved (model.Removed device))) centre refl refl
move_says event node (model.Roll sending) known n it centre =
    by_name known n node (λ x. edit_line event x (model.Moved (model.Roll sending)))
    (changed event (model.Moved (model.Roll sending))) it
    (ap (λ x. log.Changed event (named known node.bytes) (model.Moved (model.Roll x))) (rollover_again sending)) refl
    refl
move_says event node (model.Told device) known n it centre =
    of_centre known n (edit_line event node (model.Moved (model.Told device)))
    (changed event (model.Moved (model.Told device))) centre refl refl
move_says event node (model.Untold device) known n it centre =
    of_centre known n (edit_line event node (model.Moved (model.Untold device)))
    (changed event (model.Moved (model.Untold device))) centre refl refl

pub edit_says : (event : ℕ) (node : ArrayString) (e : model.Edit) (known : List Station) (n : ℕ)
    → IsCalled known n node.bytes → IsOfCentre known n e
    → IsLineOf known (edit_line event node e) (log.Changed event n e)
unfolding line_for
edit_says event node (model.Reserve l limit) known n it centre =
    by_name known n node (λ x. edit_line event x (model.Reserve l limit)) (changed event (model.Reserve l limit)) it
    (ap (λ x. log.Changed event (named known node.bytes) (model.Reserve x limit)) (layer_again l)) refl refl
edit_says event node (model.Floor l key from value) known n it centre =
    by_name known n node (λ x. edit_line event x (model.Floor l key from value))
    (changed event (model.Floor l key from value)) it
    (ap (λ x. log.Changed event (named known node.bytes) (model.Floor x key from value)) (layer_again l)) refl refl
edit_says event node (model.Start key value) known n it centre =
    by_name known n node (λ x. edit_line event x (model.Start key value)) (changed event (model.Start key value)) it
    refl refl refl
edit_says event node (model.Moved m) known n it centre = move_says event node m known n it centre

pub change_says : (event : ℕ) (node : ArrayString) (e : model.Edit) (result : Line) → result ≡ edit_line event node e
    → (known : List Station) (n : ℕ) → IsCalled known n node.bytes
    → IsOfCentre known n e → IsLineOf known result (log.Changed event n e)
change_says event node e result is known n it centre = subst (λ l. IsLineOf known l (log.Changed event n e)) (sym is)
    (edit_says event node e known n it centre)

-- the changes some part of which is made the model's and back

pub reserve_is : (event : ℕ) (node : ArrayString) (l : Layer) (limit : ℕ) → line.Reserve event node l limit
    ≡ line.Reserve event node (layer_of (model_layer l)) limit
reserve_is event node l limit = ap (λ x. line.Reserve event node x limit) (sym (layer_same l))

pub floor_is : (event : ℕ) (node : ArrayString) (l : Layer) (key : Key) (from : Eui) (value : ℕ)
    → line.Floor event node l key from value ≡ line.Floor event node (layer_of (model_layer l)) key from value
floor_is event node l key from value = ap (λ x. line.Floor event node x key from value) (sym (layer_same l))

pub row_is : (event : ℕ) (node : ArrayString) (partner : Eui) (key : Key) (a : Attribute)
    → line.Row event node partner key a ≡ line.Row event node partner key (attribute_for (model_attribute a))
row_is event node partner key a = ap (line.Row event node partner key) (sym (attribute_same a))

pub state_is : (event : ℕ) (node : ArrayString) (s : State) → line.State event node s
    ≡ line.State event node (state_for (model_state s))
state_is event node s = ap (line.State event node) (sym (state_same s))

pub roll_is : (event : ℕ) (node : ArrayString) (r : Rollover) → line.Roll event node r
    ≡ line.Roll event node (rollover_for (is_sending r))
roll_is event node r = ap (line.Roll event node) (sym (rollover_same r))

-- what each kind of change with parts of its own is
pub ruleset changes_are = (reserve_is, floor_is, row_is, state_is, roll_is)
