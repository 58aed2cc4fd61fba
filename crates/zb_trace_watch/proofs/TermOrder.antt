-- The order of terms distinguishes them by all their parts.
use Rattle.zb_model.specs.State.{same_layer, same_label}
use Rattle.std.proofs.Common.{◌≡◌, Bool, true, false, ◌&&◌, nat_eq, bytes_eq, refl, ap, sym, ◌∙◌}
use Rattle.std.specs.Ordering.{is_eq, ordering_then}
use Rattle.std.specs.declared.cmp.Ordering.{Ordering}
use Rattle.std.specs.declared.cmp.Ordering.TheVariants.{Less, Equal, Greater}
use Rattle.zb_base.specs.declared.label.Label.{Label}
use Rattle.zb_base.specs.declared.label.Label.TheVariants as label
use Rattle.zb_base.specs.declared.label.Layer.{Layer}
use Rattle.zb_base.specs.declared.label.Layer.TheVariants as layer
use Rattle.zb_base.specs.contracts.label.LayerOrd.TheImpl as layer_ord
use Rattle.zb_base.specs.contracts.label.LabelOrd.TheImpl as label_ord
use Rattle.std.proofs.lemmas.Cmp.{tied_back}
use Rattle.zb_trace_watch.proofs.Alike.{bytes_alike}
use Rattle.zb_trace_watch.proofs.Truth.{number_so, same_truth}
use Rattle.zb_model.specs.Secrets.{same_term}
use Rattle.zb_node_types.specs.Changes.{model_layer}
use Rattle.zb_model_real.specs.Terms.{model_term, model_label}
use Rattle.zb_seal.specs.declared.term.Term.{Term}
use Rattle.zb_seal.specs.contracts.term.TermOrd.TheImpl as term_ord
use Rattle.zb_seal.specs.contracts.term.TermOrd.TheImpl.Laws as term_laws

abbrev pub term_cmp : Term → Term → Ordering
term_cmp = term_ord.cmp-value.it

pub then_alike : (o p : Ordering) → is_eq (ordering_then o p) ≡ (is_eq o && is_eq p)
then_alike Less p = refl
then_alike Equal p = refl
then_alike Greater p = refl

equal : (o : Ordering) → is_eq o ≡ true → o ≡ Equal
equal Less h = cc
equal Equal h = refl
equal Greater h = cc

layer_alike : (a b : Layer) → is_eq (layer_ord.cmp-value.it a b) ≡ same_layer (model_layer a) (model_layer b)
layer_alike layer.Nwk layer.Nwk = refl
layer_alike layer.Nwk layer.Aps = refl
layer_alike layer.Aps layer.Nwk = refl
layer_alike layer.Aps layer.Aps = refl

label_alike : (a b : Label) → is_eq (label_ord.cmp-value.it a b) ≡ same_label (model_label a) (model_label b)
label_alike label.Data label.Data = refl
label_alike label.Data label.Network = refl
label_alike label.Data label.Transport = refl
label_alike label.Data label.Load = refl
label_alike label.Network label.Data = refl
label_alike label.Network label.Network = refl
label_alike label.Network label.Transport = refl
label_alike label.Network label.Load = refl
label_alike label.Transport label.Data = refl
label_alike label.Transport label.Network = refl
label_alike label.Transport label.Transport = refl
label_alike label.Transport label.Load = refl
label_alike label.Load label.Data = refl
label_alike label.Load label.Network = refl
label_alike label.Load label.Transport = refl
label_alike label.Load label.Load = refl

part : (o p : Ordering) (a b : Bool) → is_eq o ≡ a → is_eq p ≡ b → is_eq (ordering_then o p) ≡ (a && b)
part o p a b e f = then_alike o p ∙ ap (λ (x : Bool). x && is_eq p) e ∙ ap (λ (x : Bool). a && x) f

pub and_false : (a : Bool) → (a && false) ≡ false
and_false true = refl
and_false false = refl

-- The first of six facts may be the fifth.
pub fifth : (c l b k s r : Bool) → (c && (l && (b && (k && (s && r))))) ≡ (l && (b && (k && (s && (c && r)))))
fifth c true true true true r = refl
fifth c true true true false r = and_false c
fifth c true true false s r = and_false c
fifth c true false k s r = and_false c
fifth c false b k s r = and_false c

in_order : (a b : Term) → is_eq (term_cmp a b)
    ≡ (nat_eq a.counter b.counter && (same_layer (model_layer a.layer) (model_layer b.layer)
    && (bytes_eq a.base.0 b.base.0
    && (same_label (model_label a.label) (model_label b.label) && (nat_eq a.source.0 b.source.0
    && (nat_eq a.control b.control
    && (bytes_eq a.header.items b.header.items && bytes_eq a.content.items b.content.items)))))))
in_order a b =
    part _ _ _ _ (number_so a.counter b.counter)
    (part _ _ _ _ (layer_alike a.layer b.layer)
    (part _ _ _ _ (bytes_alike a.base.0 b.base.0)
    (part _ _ _ _ (label_alike a.label b.label)
    (part _ _ _ _ (number_so a.source.0 b.source.0)
    (part _ _ _ _ (number_so a.control b.control)
    (part _ _ _ _ (bytes_alike a.header.items b.header.items) (bytes_alike a.content.items b.content.items)))))))

pub term_alike : (a b : Term) → is_eq (term_cmp a b) ≡ same_term (model_term a) (model_term b)
unfolding same_term
term_alike a b =
    in_order a b
    ∙ fifth (nat_eq a.counter b.counter) (same_layer (model_layer a.layer) (model_layer b.layer))
    (bytes_eq a.base.0 b.base.0)
    (same_label (model_label a.label) (model_label b.label)) (nat_eq a.source.0 b.source.0)
    (nat_eq a.control b.control
    && (bytes_eq a.header.items b.header.items && bytes_eq a.content.items b.content.items))

same_again : (a b : Term) → same_term (model_term a) (model_term b) ≡ true → same_term (model_term b) (model_term a)
    ≡ true
same_again a b h =
    sym (term_alike b a) ∙ ap is_eq (tied_back term_laws.total-law a b (equal (term_cmp a b) (term_alike a b ∙ h)))

pub term_turned : (a b : Term) → same_term (model_term a) (model_term b) ≡ same_term (model_term b) (model_term a)
term_turned a b = same_truth _ _ (same_again a b) (same_again b a)

pub same_model_term : (a b : Term) → a.layer ≡ b.layer → a.base ≡ b.base → a.label ≡ b.label → a.source ≡ b.source
    → a.counter ≡ b.counter → a.control ≡ b.control
    → a.header.items ≡ b.header.items → a.content.items ≡ b.content.items → model_term a ≡ model_term b
same_model_term a b layers bases labels sources counters controls headers contents =
    λ i. record {
      layer = model_layer (layers i);
      base = (bases i).0;
      label = model_label (labels i);
      source = (sources i).0;
      counter = counters i;
      control = controls i;
      header = headers i;
      content = contents i;
    }
