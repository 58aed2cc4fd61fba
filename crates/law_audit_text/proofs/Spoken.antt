-- What the words of a line say: the line, except for the room of its name.
use Rattle.std.proofs.Common.{◌≡◌, List, [], ◌∷◌, map, refl, sym, ap, ◌∙◌}
use Rattle.arrayvec.specs.ArrayString.{ArrayString}
use Rattle.zb_model.specs.Data.{Bytes}
use Rattle.zb_model.specs.Lines as log
use Rattle.zb_model_real.specs.Terms.{eui_of, key_of, layer_of, term_of}
use Rattle.zb_trace_model.specs.Parts.{place_for, refusal_for, role_for}
use Rattle.zb_trace_model.specs.Said.{edit_line, name_in}
use Rattle.zb_trace_model.proofs.Parts.{attribute_same, layer_same, refusal_same, role_same, rollover_same, state_same, term_same}
use Rattle.zb_trace_model.proofs.Words.{said, words_read}
use Rattle.zb_trace.specs.Text.{Word, Called, CalledOrNobody, words}
use Rattle.zb_trace.specs.Views.{logged}
use Rattle.zb_trace.specs.declared.line.Line.{Line}
use Rattle.zb_trace.specs.declared.line.Line.TheVariants as line
use Rattle.law_audit_text.specs.Plain.{bare, plain, plains}

-- the program's line for a line of the model, with this name of its node
abbrev again : ArrayString → log.Line → Line
again node (log.Declared p) = line.Node (name_in p.name) (role_for p.role) (eui_of p.eui) (record { 0 = p.short })
    p.out_block p.in_block
again node (log.GivenNet n key sequence) = line.GivenNet node (key_of key) sequence
again node (log.GivenLink n partner key) = line.GivenLink node (eui_of partner) (key_of key)
again node (log.Counter n l limit) = line.Counter node (layer_of l) limit
again node (log.Changed event n e) = edit_line event node e
again node (log.Commit event n) = line.Commit event node
again node (log.Accept event n t) = line.Accept event node (term_of t)
again node (log.Refuse event n at why) = line.Refuse event node (refusal_for (place_for at) why)
again node (log.Seal event n t) = line.Seal event node (term_of t)
again node (log.Forge event t) = line.Forge event (term_of t)
again node (log.Send event from frame bytes) = line.Send event node frame (record { items = bytes })
again node (log.Inject event frame bytes) = line.Inject event frame (record { items = bytes })
again node (log.Stopped event n) = line.Stopped event node
again node (log.DownReset event n) = line.DownReset event node
again node (log.DownDisk event n) = line.DownDisk event node
again node (log.Boot event n) = line.Boot event node
again node (log.Dump event n bytes) = line.Dump event node bytes
again node (log.End events seals accepts refusals ideal private) = line.End events seals accepts refusals ideal private

abbrev name_of_word : Word → Bytes
name_of_word (Called name) = name
name_of_word (CalledOrNobody name) = name
name_of_word _ = []

abbrev name_said : List Word → Bytes
name_said (first ∷ second ∷ third ∷ more) = name_of_word third
name_said _ = []

unfoldable spoken : List Word → Line
spoken ws = again (name_in (name_said ws)) (said [] ws)

again_plain : (l : Line) → again (name_in (name_said (words l))) (logged [] l) ≡ plain l
again_plain (line.Node name r eui short out_block in_block) =
    ap (λ x. line.Node (bare name) x eui short out_block in_block) (role_same r)
again_plain (line.GivenNet node key sequence) = refl
again_plain (line.GivenLink node partner key) = refl
again_plain (line.Counter node l limit) = ap (λ x. line.Counter (bare node) x limit) (layer_same l)
again_plain (line.Reserve event node l limit) = ap (λ x. line.Reserve event (bare node) x limit) (layer_same l)
again_plain (line.Floor event node l key sender value) = ap (λ x. line.Floor event (bare node) x key sender value)
    (layer_same l)
again_plain (line.Draw event key) = refl
again_plain (line.DropNet event node key) = refl
again_plain (line.DropLink event node partner key) = refl
again_plain (line.Install event node key sequence) = refl
again_plain (line.Active event node key) = refl
again_plain (line.Start event node key value) = refl
again_plain (line.Row event node partner key a) = ap (λ x. line.Row event (bare node) partner key x) (attribute_same a)
again_plain (line.Pair event node first second key) = refl
again_plain (line.State event node s) = ap (λ x. line.State event (bare node) x) (state_same s)
again_plain (line.Live event device) = refl
again_plain (line.Removed event device) = refl
again_plain (line.Roll event node r) = ap (λ x. line.Roll event (bare node) x) (rollover_same r)
again_plain (line.Told event device) = refl
again_plain (line.Untold event device) = refl
again_plain (line.Commit event node) = refl
again_plain (line.Accept event node t) = ap (λ x. line.Accept event (bare node) x) (term_same t)
again_plain (line.Refuse event node r) = ap (λ x. line.Refuse event (bare node) x) (refusal_same r)
again_plain (line.Seal event node t) = ap (λ x. line.Seal event (bare node) x) (term_same t)
again_plain (line.Forge event t) = ap (λ x. line.Forge event x) (term_same t)
again_plain (line.Send event node frame bytes) = refl
again_plain (line.Inject event frame bytes) = refl
again_plain (line.Stopped event node) = refl
again_plain (line.DownReset event node) = refl
again_plain (line.DownDisk event node) = refl
again_plain (line.Boot event node) = refl
again_plain (line.Dump event node bytes) = refl
again_plain (line.End events seals accepts refusals ideal private) = refl

spoken_plain : (l : Line) → spoken (words l) ≡ plain l
unfolding spoken
spoken_plain l = ap (again (name_in (name_said (words l)))) (words_read [] l) ∙ again_plain l

spoken_plains : (lines : List Line) → map spoken (map words lines) ≡ plains lines
spoken_plains [] = refl
spoken_plains (l ∷ ls) = ap (λ x. x ∷ map spoken (map words ls)) (spoken_plain l) ∙ ap (λ xs. plain l ∷ xs)
    (spoken_plains ls)

pub same_plains : (lines others : List Line) → map words lines ≡ map words others → plains lines ≡ plains others
same_plains lines others same = sym (spoken_plains lines) ∙ (ap (map spoken) same ∙ spoken_plains others)

pub same_plain : (a b : Line) → words a ≡ words b → plain a ≡ plain b
same_plain a b same = sym (spoken_plain a) ∙ (ap spoken same ∙ spoken_plain b)
