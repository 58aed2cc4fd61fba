-- The floors of two layers, one after the other.
use Rattle.std.proofs.Common.{◌≡◌, List, [], ◌++◌, refl, Option, Some, None, option_map, append-nil}
use Rattle.std.proofs.lemmas.List.{append_assoc}
use Rattle.std.specs.Prelude.{flat_map, option_to_list}
use Rattle.zb_model.specs.Data.{Edit}
use Rattle.zb_model.specs.Data as model
use Rattle.zb_model_real.specs.Terms.{model_term}
use Rattle.zb_plan.specs.Answers.{terms}
use Rattle.zb_seal.specs.declared.term.Term.{Term}

pub floors_then : (f : model.Term → List Edit) (before : List Edit) (nwk aps : Option Term)
    → (before ++ flat_map f (option_to_list (option_map model_term nwk)))
    ++ flat_map f (option_to_list (option_map model_term aps)) ≡ before ++ flat_map f (terms nwk aps)
floors_then f before None None = append-nil (before ++ [])
floors_then f before (Some t) None = append-nil (before ++ (f (model_term t) ++ []))
floors_then f before None (Some u) = rw (append-nil before) refl
floors_then f before (Some t) (Some u) =
    rw (append-nil (f (model_term t))) (append_assoc before (f (model_term t)) (f (model_term u) ++ []))
