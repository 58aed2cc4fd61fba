-- Lines that are told one after the other.
use Rattle.std.proofs.Common.{◌≡◌, ℕ, List, [], ◌++◌, Option, Some, None, refl, ap, sym, subst, ◌∙◌, append_assoc, append-nil}
use Rattle.std.specs.Io.KnownBytes.{append_known}
use Rattle.zb_model.specs.Data.{Station}
use Rattle.zb_model.specs.Lines as log
use Rattle.zb_model.specs.Readings.{stations_of}
use Rattle.zb_trace_model.proofs.Texts.{text_append}
use Rattle.zb_trace_model.specs.Said.{text_of}
use Rattle.zb_player_scribe.specs.Kept.{Kept, Tells}
use Rattle.zb_player_scribe.specs.declared.scribe.Scribe.{Scribe}

-- what is known grows twice, and by nothing
pub append_twice : (page : Option (List ℕ)) (xs ys : List ℕ) → append_known (append_known page xs) ys
    ≡ append_known page (xs ++ ys)
append_twice None xs ys = refl
append_twice (Some text) xs ys = ap Some (append_assoc text xs ys)

pub append_nothing : (page : Option (List ℕ)) → append_known page [] ≡ page
append_nothing None = refl
append_nothing (Some text) = ap Some (append-nil text)

-- lines one after the other
pub told_in_turn : (known : List Station) (some more : List log.Line) (old between new : Scribe)
    (before page after : Option (List ℕ)) → Tells known some old before between page
    → Tells known more between page new after → Tells known (some ++ more) old before new after
told_in_turn known some more old between new before page after first second = record {
  page = second.page ∙ ap (λ p. append_known p (text_of known more)) first.page ∙ append_twice before
      (text_of known some) (text_of known more)
      ∙ ap (append_known before) (sym (text_append known some more));
  kept = λ h e k. subst (λ (lines : List log.Line). Kept lines new) (append_assoc h some more)
      (second.kept (h ++ some) (first.nodes h e) (first.kept h e k));
  nodes = λ h e. ap stations_of (sym (append_assoc h some more)) ∙ second.nodes (h ++ some) (first.nodes h e);
}

pub none_told : (known : List Station) (scribe : Scribe) (page : Option (List ℕ))
    → Tells known [] scribe page scribe page
unfolding text_of
none_told known scribe page = record {
  page = sym (append_nothing page);
  kept = λ h e k. subst (λ (lines : List log.Line). Kept lines scribe) (sym (append-nil h)) k;
  nodes = λ h e. ap stations_of (append-nil h) ∙ e;
}
