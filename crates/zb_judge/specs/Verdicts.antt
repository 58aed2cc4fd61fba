-- What judging a frame returns, as the model's verdict.
use Rattle.std.specs.Prelude.{ℕ, ⊤, if◌then◌else◌, nat_le, nat_lt, Option, option_map, Result, Ok, Err}
use Rattle.zb_model.specs.Data.{CounterMax, Place, Stale}
use Rattle.zb_model.specs.Judging as model
use Rattle.zb_model.specs.Judging.{Verdict, Not, Good}
use Rattle.zb_model.specs.State.{greatest_counter}
use Rattle.zb_model_real.specs.Readers.{nwk_frame_shown}
use Rattle.zb_model_real.specs.Terms.{model_term}
use Rattle.zb_node_types.specs.Changes.{model_place, place_of, reason}
use Rattle.zb_node_types.specs.declared.refusal.Refusal.{Refusal}
use Rattle.zb_nwk.specs.declared.frame.NwkFrame.{NwkFrame}
use Rattle.zb_record.specs.RowViews.{link_key}
use Rattle.zb_seal.specs.declared.term.Term.{Term}
use Rattle.zb_judge.specs.declared.aps.Unsealed.{Unsealed}

-- a refusal is a reason at a place; what passes is seen as the model's
abbrev pub judged : {T A : Type 0} → (T → A) → Result T Refusal → Verdict A
judged view (Ok it) = Good (view it)
judged view (Err refusal) = Not (model_place (place_of refusal)) (reason refusal)

-- a frame whose NWK layer passed, with what is accepted there
abbrev pub carrier_seen : NwkFrame → Option Term → model.Carrier
carrier_seen frame term = record { frame = nwk_frame_shown frame; term = option_map model_term term }

abbrev pub unsealed_seen : Unsealed → model.Unsealed
unsealed_seen u = record { term = model_term u.term; row = link_key u.row }

-- what the counter of a frame alone is refused for
abbrev pub counted : Place → ℕ → ℕ → Verdict ⊤
counted place kept counter = if nat_le greatest_counter counter then Not place CounterMax
    else (if nat_lt counter kept then Not place (Stale kept) else Good tt)
