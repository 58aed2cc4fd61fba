-- What goes out, as the model's.
use Rattle.std.specs.Prelude.{◌≡◌, ℕ, if◌then◌else◌, List, [], ◌∷◌, ◌++◌, Option, Some, None, option_map, option_to_list}
use Rattle.arrayvec.specs.ArrayVec.{ArrayVec}
use Rattle.zb_host.specs.declared.outcome.Outcome.{Outcome}
use Rattle.zb_model.specs.Answer as model
use Rattle.zb_model.specs.Data as words
use Rattle.zb_model.specs.Rules.{Setting, spent}
use Rattle.zb_model.specs.State.{NodeState, next_counter}
use Rattle.zb_model_real.specs.Terms.{model_term}
use Rattle.zb_node_types.specs.declared.refusal.Refusal.{Refusal}
use Rattle.zb_rows.specs.Drawing.{reserve_at}
use Rattle.zb_seal.specs.declared.term.Term.{Term}

-- the terms of a frame, APS before NWK
abbrev pub seals_of : Option Term → Option Term → List words.Term
seals_of aps None = option_to_list (option_map model_term aps)
seals_of aps (Some nwk) = option_to_list (option_map model_term aps) ++ model_term nwk ∷ []

-- what goes out: the sealed terms and the frame
abbrev pub sent_seen : Option Term → Option Term → Option (ArrayVec ℕ) → model.Outgoing
sent_seen aps nwk frame = record { seals = seals_of aps nwk; frame = option_map (λ (f : ArrayVec ℕ). f.items) frame }

abbrev pub sent_in : Outcome Term Refusal → model.Outgoing
sent_in out = sent_seen out.sealed_aps out.sealed_nwk out.frame

-- nothing but the sealed terms and the frame is new
abbrev pub IsKept : Outcome Term Refusal → Outcome Term Refusal → Type 0
IsKept old new = new
    ≡ record old { sealed_aps = new.sealed_aps; sealed_nwk = new.sealed_nwk; frame = new.frame }

-- the counters of a frame are the next ones of the state
pub record IsCounting (s : NodeState) (k : model.Counting) : Type 0 where
  pub nwk : k.counter words.Nwk ≡ next_counter words.Nwk s
  pub aps : k.counter words.Aps ≡ next_counter words.Aps s

-- the limit that the next draw at a layer stores first
abbrev pub drawn_limit : Setting → NodeState → words.Layer → Option ℕ
drawn_limit c s layer = if spent layer s then None else reserve_at c s layer
