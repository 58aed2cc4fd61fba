-- The text of lines one after the other.
use Rattle.std.proofs.Common.{◌≡◌, List, [], ◌∷◌, ◌++◌, refl, ap, sym, ◌∙◌, append_assoc}
use Rattle.zb_model.specs.Data.{Station}
use Rattle.zb_model.specs.Lines.{Line}
use Rattle.zb_trace_model.specs.Said.{line_text, text_of}

pub text_append : (known : List Station) (hs gs : List Line) → text_of known (hs ++ gs) ≡ text_of known hs
    ++ text_of known gs
unfolding text_of
text_append known [] gs = refl
text_append known (h ∷ hs) gs =
    ap (λ rest. line_text known h ++ rest) (text_append known hs gs) ∙ sym
    (append_assoc (line_text known h) (text_of known hs) (text_of known gs))
