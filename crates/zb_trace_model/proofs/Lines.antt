-- Lines to the model and back, both ways.
use Rattle.std.proofs.Common.{◌≡◌, ℕ, List, Some, None, refl, ap, ◌∙◌}
use Rattle.zb_model.specs.Data as model
use Rattle.zb_model.specs.Data.{Bytes, Station}
use Rattle.zb_model.specs.Lines as log
use Rattle.zb_model_real.specs.Terms.{layer_of, term_of, model_term}
use Rattle.zb_node_types.specs.Changes.{model_layer, model_state, model_attribute, is_sending, model_place, place_of, reason}
use Rattle.zb_trace.specs.Views.{logged}
use Rattle.zb_trace_model.specs.Naming.{IsDeclared, AreNamed}
use Rattle.zb_trace_model.specs.Parts.{state_for, attribute_for, rollover_for, place_for, refusal_for}
use Rattle.zb_trace_model.specs.Said.{called, move_line, edit_line, line_for, line_text, IsLineOf, IsOfCentre, IsOfNodes}
use Rattle.zb_trace_model.proofs.Naming.{named_again, sent_again, nobody_again}
use Rattle.zb_trace_model.proofs.Parts.{layer_again, role_again, state_again, attribute_again, rollover_again, place_again, term_again, reason_again, place_is}

-- From the model to the program and back: `e` says that the name leads to the node.

move_again : (known : List Station) (event n : ℕ) (m : model.Move) → AreNamed known → IsDeclared known n
    × IsOfCentre known n (model.Moved m) → logged known (move_line event (called known n) m)
    ≡ log.Changed event n (model.Moved m)
move_again known event n (model.Draw key) fits of_it = ap (λ x. log.Changed event x (model.Moved (model.Draw key)))
    of_it.1
move_again known event n (model.DropNet key) fits of_it =
    ap (λ x. log.Changed event x (model.Moved (model.DropNet key))) (named_again known n fits.differ of_it.0)
move_again known event n (model.DropLink partner key) fits of_it =
    ap (λ x. log.Changed event x (model.Moved (model.DropLink partner key))) (named_again known n fits.differ of_it.0)
move_again known event n (model.Install key sequence) fits of_it =
    ap (λ x. log.Changed event x (model.Moved (model.Install key sequence))) (named_again known n fits.differ of_it.0)
move_again known event n (model.Active key) fits of_it =
    ap (λ x. log.Changed event x (model.Moved (model.Active key))) (named_again known n fits.differ of_it.0)
move_again known event n (model.Row partner key a) fits of_it =
    ap (λ x. log.Changed event x (model.Moved (model.Row partner key (model_attribute (attribute_for a)))))
    (named_again known n fits.differ of_it.0)
    ∙ ap (λ x. log.Changed event n (model.Moved (model.Row partner key x))) (attribute_again a)
move_again known event n (model.Pair one two key) fits of_it =
    ap (λ x. log.Changed event x (model.Moved (model.Pair one two key))) (named_again known n fits.differ of_it.0)
move_again known event n (model.Became s) fits of_it =
    ap (λ x. log.Changed event x (model.Moved (model.Became (model_state (state_for s)))))
    (named_again known n fits.differ of_it.0)
    ∙ ap (λ x. log.Changed event n (model.Moved (model.Became x))) (state_again s)
move_again known event n (model.Live device) fits of_it =
    ap (λ x. log.Changed event x (model.Moved (model.Live device))) of_it.1
move_again known event n (model.Removed device) fits of_it =
    ap (λ x. log.Changed event x (model.Moved (model.Removed device))) of_it.1
move_again known event n (model.Roll sending) fits of_it =
    ap (λ x. log.Changed event x (model.Moved (model.Roll (is_sending (rollover_for sending)))))
    (named_again known n fits.differ of_it.0)
    ∙ ap (λ x. log.Changed event n (model.Moved (model.Roll x))) (rollover_again sending)
move_again known event n (model.Told device) fits of_it =
    ap (λ x. log.Changed event x (model.Moved (model.Told device))) of_it.1
move_again known event n (model.Untold device) fits of_it =
    ap (λ x. log.Changed event x (model.Moved (model.Untold device))) of_it.1

edit_again : (known : List Station) (event n : ℕ) (e : model.Edit) → AreNamed known → IsDeclared known n
    × IsOfCentre known n e → logged known (edit_line event (called known n) e) ≡ log.Changed event n e
edit_again known event n (model.Reserve l limit) fits of_it =
    ap (λ x. log.Changed event x (model.Reserve (model_layer (layer_of l)) limit))
    (named_again known n fits.differ of_it.0) ∙ ap (λ x. log.Changed event n (model.Reserve x limit))
    (layer_again l)
edit_again known event n (model.Floor l key from value) fits of_it =
    ap (λ x. log.Changed event x (model.Floor (model_layer (layer_of l)) key from value))
    (named_again known n fits.differ of_it.0)
    ∙ ap (λ x. log.Changed event n (model.Floor x key from value)) (layer_again l)
edit_again known event n (model.Start key value) fits of_it = ap (λ x. log.Changed event x (model.Start key value))
    (named_again known n fits.differ of_it.0)
edit_again known event n (model.Moved m) fits of_it = move_again known event n m fits of_it

refuse_again : (event n : ℕ) (at : model.Place) (why : model.Reason)
    → log.Refuse event n (model_place (place_of (refusal_for (place_for at) why)))
    (reason (refusal_for (place_for at) why)) ≡ log.Refuse event n at why
refuse_again event n at why =
    ap (λ x. log.Refuse event n x (reason (refusal_for (place_for at) why)))
    (ap model_place (place_is (place_for at) why) ∙ place_again at)
    ∙ ap (λ x. log.Refuse event n at x) (reason_again (place_for at) why)

pub said_again : (known : List Station) → AreNamed known → (m : log.Line) → IsOfNodes known m
    → logged known (line_for known m) ≡ m
unfolding line_for
said_again known fits (log.Declared p) of_it = ap (λ x. log.Declared (record p { role = x })) (role_again p.role)
said_again known fits (log.GivenNet n key sequence) of_it =
    ap (λ x. log.GivenNet x key sequence) (named_again known n fits.differ of_it)
said_again known fits (log.GivenLink n partner key) of_it =
    ap (λ x. log.GivenLink x partner key) (named_again known n fits.differ of_it)
said_again known fits (log.Counter n l limit) of_it =
    ap (λ x. log.Counter x (model_layer (layer_of l)) limit) (named_again known n fits.differ of_it) ∙ ap
    (λ x. log.Counter n x limit) (layer_again l)
said_again known fits (log.Changed event n e) of_it = edit_again known event n e fits of_it
said_again known fits (log.Commit event n) of_it = ap (log.Commit event) (named_again known n fits.differ of_it)
said_again known fits (log.Accept event n t) of_it =
    ap (λ x. log.Accept event x (model_term (term_of t))) (named_again known n fits.differ of_it) ∙ ap
    (log.Accept event n) (term_again t)
said_again known fits (log.Refuse event n at why) of_it =
    ap (λ x. log.Refuse event x (model_place (place_of (refusal_for (place_for at) why)))
    (reason (refusal_for (place_for at) why))) (named_again known n fits.differ of_it)
    ∙ refuse_again event n at why
said_again known fits (log.Seal event n t) of_it =
    ap (λ x. log.Seal event x (model_term (term_of t))) (named_again known n fits.differ of_it) ∙ ap
    (log.Seal event n) (term_again t)
said_again known fits (log.Forge event t) of_it = ap (log.Forge event) (term_again t)
said_again known fits (log.Send event None frame bytes) of_it =
    ap (λ x. log.Send event x frame bytes) (nobody_again known)
said_again known fits (log.Send event (Some n) frame bytes) of_it =
    ap (λ x. log.Send event x frame bytes) (sent_again known fits n of_it)
said_again known fits (log.Inject event frame bytes) of_it = refl
said_again known fits (log.Stopped event n) of_it = ap (log.Stopped event) (named_again known n fits.differ of_it)
said_again known fits (log.DownReset event n) of_it = ap (log.DownReset event) (named_again known n fits.differ of_it)
said_again known fits (log.DownDisk event n) of_it = ap (log.DownDisk event) (named_again known n fits.differ of_it)
said_again known fits (log.Boot event n) of_it = ap (log.Boot event) (named_again known n fits.differ of_it)
said_again known fits (log.Dump event n bytes) of_it =
    ap (λ x. log.Dump event x bytes) (named_again known n fits.differ of_it)
said_again known fits (log.End events seals accepts refusals ideal private) of_it = refl

pub line_is_said : (known : List Station) → AreNamed known → (m : log.Line) → IsOfNodes known m
    → IsLineOf known (line_for known m) m
unfolding line_text
line_is_said known fits m of_it = record { logged_is = said_again known fits m of_it; text_is = refl }
