-- Lines that are printed one after the other.
use Rattle.std.proofs.Common.{◌≡◌, ℕ, List, [], ◌++◌, filter, ap, sym, subst, ◌∙◌, append_assoc, append-nil}
use Rattle.std.proofs.lemmas.List.Elements.{filter-append}
use Rattle.zb_live.specs.Shown.{Prints, is_shown, shown_text}
use Rattle.zb_live.specs.declared.line.Log.{Log}
use Rattle.zb_live.specs.declared.telling.ShownPage.{ShownPage}
use Rattle.zb_model.specs.Data.{Station}
use Rattle.zb_model.specs.Lines.{Line}
use Rattle.zb_trace_model.proofs.Texts.{text_append}
use Rattle.zb_trace_model.specs.Said.{text_of}

shown_append : (log : Log) (known : List Station) (some more : List Line) → shown_text log known (some ++ more)
    ≡ shown_text log known some ++ shown_text log known more
unfolding shown_text
shown_append log known some more = ap (text_of known) (filter-append (is_shown log) some more) ∙ text_append known
    (filter (is_shown log) some) (filter (is_shown log) more)

pub printed_in_turn : (log : Log) (known : List Station) (some more : List Line) (before page after : List ℕ)
    → Prints log known some before page → Prints log known more page after
    → Prints log known (some ++ more) before after
printed_in_turn log known some more before page after first second =
    second ∙ ap (λ p. p ++ shown_text log known more) first ∙ append_assoc before (shown_text log known some)
    (shown_text log known more)
    ∙ ap (λ t. before ++ t) (sym (shown_append log known some more))

pub none_printed : (log : Log) (known : List Station) (page : List ℕ) → Prints log known [] page page
unfolding shown_text text_of
none_printed log known page = sym (append-nil page)

pub page_joined : (known : List Station) (some more : List Line) (a b c : ShownPage)
    → (b.log ≡ a.log) × Prints a.log known some a.text.items b.text.items
    → (c.log ≡ b.log) × Prints b.log known more b.text.items c.text.items
    → (c.log ≡ a.log) × Prints a.log known (some ++ more) a.text.items c.text.items
page_joined known some more a b c first second = (
  second.0 ∙ first.0,
  printed_in_turn a.log known some more a.text.items b.text.items c.text.items first.1
      (subst (λ (l : Log). Prints l known more b.text.items c.text.items) first.0 second.1),
)
