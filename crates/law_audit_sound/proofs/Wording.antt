-- The two words of the end line, by names and by addresses.
use Rattle.std.proofs.Common.{◌≡◌, ◌&&◌, ◌||◌, not, Bool, List, [], ◌∷◌, ◌++◌, refl, sym, ap, ◌∙◌, subst, append_assoc}
use Rattle.std.specs.List.{AllByRecursion, list_any}
use Rattle.zb_audit_names.specs.Secrets as audit
use Rattle.law_audit_groups.specs.Printing.{printed}
use Rattle.zb_model.specs.Data as model
use Rattle.zb_model.specs.Data.{Station}
use Rattle.zb_model.specs.Lines as log
use Rattle.zb_model.specs.Secrets as secrets
use Rattle.zb_model.specs.Tools.{Tools}
use Rattle.zb_trace_model.specs.Naming.{name_of}
use Rattle.zb_trace_model.specs.Said.{IsOfNodes, line_for}
use Rattle.zb_trace_model.proofs.Parts.{term_again}
use Rattle.zb_trace.specs.declared.line.Line.{Line}
use Rattle.law_audit_sound.specs.Agreeing.{WordsSame}
use Rattle.law_audit_sound.proofs.Holding.{came_by_same, outside_same}
use Rattle.law_audit_sound.proofs.Leading.{Begins, all_of_nodes, begins_left, name_same}
use Rattle.law_audit_sound.proofs.Showing.{exposed_same, printed_snoc, show_same, terms_same}

-- a test of each line and the lines before it
each_same : (known : List Station) (T : List Line → Line → Bool) (U : List log.Line → log.Line → Bool)
    → ((g : List log.Line) (m : log.Line) → Begins known (g ++ m ∷ []) → T (printed known g) (line_for known m)
    ≡ U g m)
    → (g ms : List log.Line) → Begins known (g ++ ms) → audit.each_line T (printed known g) (printed known ms)
    ≡ secrets.each_line U g ms
unfolding audit.each_line secrets.each_line
each_same known T U same g [] b = refl
each_same known T U same g (m ∷ ms) b =
    let next : Begins known ((g ++ m ∷ []) ++ ms) = subst (Begins known) (sym (append_assoc g (m ∷ []) ms)) b in
    ap (λ x. x && audit.each_line T (printed known g ++ line_for known m ∷ []) (printed known ms))
    (same g m (begins_left known (g ++ m ∷ []) ms next))
    ∙ ap (λ ls. U g m && audit.each_line T ls (printed known ms)) (printed_snoc known g m)
    ∙ ap (λ x. U g m && x) (each_same known T U same (g ++ m ∷ []) ms next)

-- the last line is of these nodes
last_of : (P : log.Line → Type 0) (g : List log.Line) (m : log.Line) → AllByRecursion P (g ++ m ∷ []) → P m
last_of P [] m all = all.0
last_of P (x ∷ g) m all = last_of P g m all.1

ideal_line_same : (tools : Tools) (known : List Station) (g : List log.Line) (m : log.Line) → Begins known g
    → IsOfNodes known m → audit.ideal_line tools (printed known g) (line_for known m) ≡ secrets.ideal_line tools g m
unfolding audit.ideal_line secrets.ideal_line line_for
ideal_line_same tools known g (log.Accept event n t) b is =
    ap (λ u. list_any (secrets.same_term u) (audit.terms_of (printed known g))) (term_again t) ∙ ap
    (list_any (secrets.same_term t)) (terms_same known g)
ideal_line_same tools known g (log.Changed event n (model.Moved (model.Install key sequence))) b is =
    ap (λ x. not x || audit.came_by tools (printed known g) (name_of known n) key)
    ((name_same known g b).joining n is.0)
    ∙ ap (λ x. not (secrets.joins g n) || x) (came_by_same tools known g b n key is.0)
ideal_line_same tools known g (log.Changed event n (model.Moved (model.Row partner key attribute))) b is =
    ap (λ x. not x || audit.came_by tools (printed known g) (name_of known n) key)
    ((name_same known g b).joining n is.0)
    ∙ ap (λ x. not (secrets.joins g n) || x) (came_by_same tools known g b n key is.0)
ideal_line_same tools known g _ b is = refl

based_line_same : (tools : Tools) (known : List Station) (g : List log.Line) (m : log.Line) → Begins known g
    → audit.based_line tools (printed known g) (line_for known m) ≡ secrets.based_line tools g m
unfolding line_for
based_line_same tools known g (log.Forge event t) b =
    ap (λ from. secrets.holds (audit.exposed tools (printed known g) from) t.base) (outside_same known g b)
    ∙ ap (λ keys. secrets.holds keys t.base) (exposed_same tools known g (secrets.outside g))
based_line_same tools known g (log.Changed event n (model.Moved (model.Draw key))) b = refl
based_line_same tools known g _ b = refl

pub words_same : (tools : Tools) (known : List Station) (h : List log.Line) → Begins known h → WordsSame tools known h
unfolding audit.ideal secrets.ideal audit.private secrets.private
words_same tools known h b = record {
  ideal =
      each_same known (audit.ideal_line tools) (secrets.ideal_line tools)
      (λ g m x. ideal_line_same tools known g m (begins_left known g (m ∷ []) x)
      (last_of (IsOfNodes known) g m (all_of_nodes known [] (g ++ m ∷ []) x.leads))) [] h b;
  private =
      ap (λ x. x && not (audit.passes_on tools (printed known h)))
      (each_same known (audit.based_line tools) (secrets.based_line tools)
      (λ g m x. based_line_same tools known g m (begins_left known g (m ∷ []) x)) [] h b)
      ∙ ap (λ x. secrets.each_line (secrets.based_line tools) [] h && not x) (show_same tools known h).passed_on;
}
