-- What each line says, and what the words make of it
use Rattle.std.proofs.Common.{◌≡◌, ℕ, List, [], ◌∷◌, Bool, true, false, ◌||◌, ◌&&◌, Option, Some, None, ◌⊎◌, inl, inr, refl, ap, sym, ◌∙◌, bytes_eq, nat_eq, subst, ◌<◌, ◌^◌, ◌%◌}
use Rattle.std.specs.List.{list_any}
use Rattle.std.specs.Option.{IfSome, option_map}
use Rattle.std.specs.Ordering.{nat_cmp}
use Rattle.std.specs.Prelude.{if◌then◌else◌, get_or}
use Rattle.arrayvec.specs.ArrayString.{ArrayString}
use Rattle.zb_base.specs.declared.address.Eui.{Eui}
use Rattle.zb_base.specs.declared.key.Key.{Key}
use Rattle.zb_base.specs.declared.label.Layer.{Layer}
use Rattle.zb_base.specs.declared.label.Layer.TheVariants as layer
use Rattle.zb_seal.specs.Carrying as carrying
use Rattle.zb_node_types.specs.Changes.{model_layer}
use Rattle.zb_base.specs.declared.state.Attribute.{Attribute}
use Rattle.zb_cmd.specs.Reading.{command_of}
use Rattle.zb_model.specs.Data as model
use Rattle.zb_model.specs.Data.{Bytes, nobody}
use Rattle.zb_model.specs.Secrets.{brings, carried, carried_at, holds, holds_some, same_term}
use Rattle.zb_model.specs.Tools.{Tools}
use Rattle.zb_model_real.specs.Terms.{model_term}
use Rattle.zb_seal.specs.declared.term.Term.{Term}
use Rattle.zb_trace.specs.declared.line.Line.{Line}
use Rattle.zb_trace.specs.declared.line.Line.TheVariants as line
use Rattle.zb_trace_watch.specs.Exposure.{IsSettled, was_removed}
use Rattle.zb_trace_watch.specs.Origins.{IsTraced, came}
use Rattle.zb_trace_watch.specs.Passing.{has_that, is_code}
use Rattle.zb_trace_watch.specs.Sayings.{came_by, came_to, nothing, only_if, said_by, Grows, Sayings}
use Rattle.zb_trace_watch.specs.Sets.{has, is_carried, is_key, is_node, is_number, key_cmp, keys_at, meet, node_has, number_has}
use Rattle.zb_trace_watch.specs.Standing.{FindKeys, Represents, bytes_of, carries, is_that}
use Rattle.zb_trace_watch.specs.Terms.{has_term}
use Rattle.zb_trace_watch.specs.declared.exposure.Exposure.{Exposure}
use Rattle.zb_trace_watch.specs.declared.holdings.Holdings.{Holdings}
use Rattle.zb_trace_watch.specs.declared.origins.Origins.{Origins}
use Rattle.zb_trace_watch.specs.declared.passing.Passing.{Passing}
use Rattle.zb_trace_watch.specs.declared.speaker.Speaker.{Speaker}
use Rattle.zb_trace_watch.specs.declared.words.EndWords.{EndWords}
use Rattle.zb_trace_watch.proofs.Advancing.{ExposureTakes, OriginsTake, advances, exposure_stays, origins_stay, passing_gains, passing_hears, passing_stays}
use Rattle.zb_trace_watch.proofs.Alike.{any_any, bytes_eq_sym, list_any_alike}
use Rattle.zb_trace_watch.proofs.Declaring.{not_nobody}
use Rattle.zb_trace_watch.proofs.Growth.{and_all, or_none}
use Rattle.zb_trace_watch.proofs.Truth.{and_left, and_right, same_bytes, same_number, turned_number}

-- Which key a term carries

headed : (header : Bytes) (key : Option Key) → (if nat_eq (get_or header 0 0 % 4) 1 then bytes_of key else None)
    ≡ bytes_of (if carrying.is_command_header header then key else None)
headed [] key = refl
headed (control ∷ more) key = chosen (nat_eq (control % 4) 1)
  where
    chosen : (b : Bool) → (if b then bytes_of key else None) ≡ bytes_of (if b then key else None)
    chosen true = refl
    chosen false = refl

carried_as : (tools : Tools) → FindKeys tools → (l : Layer) (s : model.Term) → carried_at (model_layer l) tools s
    ≡ bytes_of (carrying.carried_at l s.header s.content)
carried_as tools find layer.Nwk s = find.in_frame s.content
carried_as tools find layer.Aps s =
    ap (λ (o : Option Bytes). if nat_eq (get_or s.header 0 0 % 4) 1 then o else None) (find.in_command s.content) ∙
    headed s.header (carrying.key_in (command_of s.content))

pub carried_is : (tools : Tools) → FindKeys tools → (t : Term) → carried tools (model_term t)
    ≡ bytes_of (carrying.carried t)
unfolding carried carrying.carried
carried_is tools find t = carried_as tools find t.layer (model_term t)

key_that : (key : Option Key) (k : Bytes) → is_key key k ≡ is_that (option_map (λ (key : Key). key.0) key) k
key_that None k = refl
key_that (Some key) k = refl

and_turned : (a b : Bool) → (a && b) ≡ (b && a)
and_turned true true = refl
and_turned true false = refl
and_turned false true = refl
and_turned false false = refl

-- A key that one holds, or two.

holds_if : (key : Bytes) (b : Bool) (k : Bytes) → holds (if b then key ∷ [] else []) k ≡ (b && bytes_eq k key)
holds_if key true k = or_none (bytes_eq k key)
holds_if key false k = refl

-- What is known doesn't depend on whether forgeries were based.
rebased : (e : Exposure) (b : Bool) → IsSettled e → IsSettled (record e { based = b })
rebased e b settled = record {
  covers =
      record {
        everybody = settled.covers.everybody;
        removed = settled.covers.removed;
        carried = settled.covers.carried;
      };
  least =
      λ S covers. settled.least S
      (record { everybody = covers.everybody; removed = covers.removed; carried = covers.carried });
}

-- What a call that gives a node a key says.
pub record Holds (old new : Exposure) (node : Option Eui) (key : Key) : Type 0 where
  pub settled : IsSettled old → IsSettled new
  pub ever : (d : ℕ) (k : Bytes) → node_has new.ever d k
      ≡ (node_has old.ever d k || (is_node node d && bytes_eq k key.0))
  pub removed : new.removed ≡ old.removed
  pub carried : new.carried ≡ old.carried
  pub based : new.based ≡ old.based

any_and : {X : Type 0} (p : X → Bool) (q : Bool) (xs : List X) → list_any (λ x. p x && q) xs ≡ (list_any p xs && q)
any_and p q [] = refl
any_and p q (x ∷ xs) = ap (λ (b : Bool). (p x && q) || b) (any_and p q xs) ∙ spread (p x) (list_any p xs) q
  where
    spread : (a b q : Bool) → ((a && q) || (b && q)) ≡ ((a || b) && q)
    spread true true true = refl
    spread true true false = refl
    spread true false true = refl
    spread true false false = refl
    spread false b q = refl

brings_as : (tools : Tools) (keys : List Bytes) (key : Bytes) (t : model.Term) (o : Option Bytes) → carried tools t ≡ o
    → (holds keys t.base && is_that (carried tools t) key) ≡ brings tools keys key t
brings_as tools keys key t None e = rw e refl
brings_as tools keys key t (Some k) e = rw e (ap (λ (b : Bool). holds keys t.base && b) (bytes_eq_sym key k))

-- What a call that installs a key says.
pub record TakesIn (old new : Origins) (node : Option ℕ) (key : Bytes) : Type 0 where
  pub ideal : IsTraced old node key → new.ideal ≡ (old.ideal && came old node key)
  pub traced : (n : ℕ) (k : Bytes) → number_has new.traced n k ≡ true → (number_has old.traced n k ≡ true)
      ⊎ (((is_number node n && bytes_eq k key) ≡ true) × (came old node key ≡ true))
  pub terms : new.terms ≡ old.terms
  pub codes : new.codes ≡ old.codes
  pub bases : new.bases ≡ old.bases
  pub carriers : new.carriers ≡ old.carriers

-- A node, if there is one, has one more key.
abbrev pub HasMore : Holdings ℕ → Holdings ℕ → Option ℕ → Key → Type 0
HasMore old new node key = (n : ℕ) (k : Bytes) → number_has new n k
    ≡ (number_has old n k || (is_number node n && bytes_eq k key.0))

has_more : (old new : Holdings ℕ) (node : Option ℕ) (key : Key) → HasMore old new node key → (n : ℕ) (k : Bytes)
    → number_has new n k ≡ (number_has old n k || holds (only_if (is_number node n) key.0) k)
has_more old new node key more n k =
    more n k ∙ ap (λ (x : Bool). number_has old n k || x) (sym (holds_if key.0 (is_number node n) k))

regrouped : (a x y e : Bool) → ((a || (x && e)) || (y && e)) ≡ (a || ((y || x) && e))
regrouped true x y e = refl
regrouped false true true true = refl
regrouped false true true false = refl
regrouped false true false true = refl
regrouped false true false false = refl
regrouped false false true true = refl
regrouped false false true false = refl
regrouped false false false e = refl

twice : (before middle after : Exposure) (first second : Option Eui) (key : Key) → Holds before middle first key
    → Holds middle after second key → (d : ℕ) (k : Bytes)
    → node_has after.ever d k
    ≡ (node_has before.ever d k || ((is_node second d || is_node first d) && bytes_eq k key.0))
twice before middle after first second key one two d k =
    two.ever d k
    ∙ (ap (λ (x : Bool). x || (is_node second d && bytes_eq k key.0)) (one.ever d k) ∙ regrouped
    (node_has before.ever d k) (is_node first d) (is_node second d) (bytes_eq k key.0))

either_way : (a b c d : Bool) → b ≡ c → a ≡ d → (a || b) ≡ (c || d)
either_way true b true true e f = refl
either_way true b false true e f = refl
either_way true b c false e f = cc
either_way false b c true e f = cc
either_way false b true false e f = e
either_way false b false false e f = e

centre_partner : (b : Bool) (partner : Eui) (d : ℕ) → is_node (if b then Some partner else None) d
    ≡ (b && nat_eq partner.0 d)
centre_partner true partner d = turned_number d partner.0
centre_partner false partner d = refl

module _ (tools : Tools) (counts : ℕ → Bool) (w : EndWords) (s : Sayings) (stands : Represents tools counts w s) where
  -- Where an installed key came from

  came_under_is : (n : ℕ) (key : Bytes) → counts n ≡ true
      → meet (keys_at nat_cmp w.origins.bases n) (keys_at key_cmp w.origins.carriers (record { 0 = key }))
      ≡ list_any (brings tools (s.bases n) key) s.terms
  came_under_is n key some =
      list_any_alike (λ (b : Key). is_carried w.origins.carriers key b.0)
      (λ (b : Key). list_any (carries tools b.0 key) s.terms) (λ b. stands.carriers b.0 key)
      (keys_at nat_cmp w.origins.bases n)
      ∙ (any_any (λ (b : Key) (t : model.Term). carries tools b.0 key t) (keys_at nat_cmp w.origins.bases n) s.terms
      ∙ list_any_alike
      (λ (t : model.Term). list_any (λ (b : Key). carries tools b.0 key t) (keys_at nat_cmp w.origins.bases n))
      (brings tools (s.bases n) key)
      (λ t.
      any_and (λ (b : Key). bytes_eq b.0 t.base) (is_that (carried tools t) key) (keys_at nat_cmp w.origins.bases n)
      ∙ (ap (λ (b : Bool). b && is_that (carried tools t) key)
      (list_any_alike (λ (b : Key). bytes_eq b.0 t.base) (λ (b : Key). bytes_eq t.base b.0)
      (λ b. bytes_eq_sym b.0 t.base) (keys_at nat_cmp w.origins.bases n) ∙ stands.bases n some t.base)
      ∙ brings_as tools (s.bases n) key t (carried tools t) refl))
      s.terms)

  came_at : (n : ℕ) (key : Bytes) → counts n ≡ true → came w.origins (Some n) key ≡ came_by tools s n key
  unfolding came_by
  came_at n key some = rw (stands.codes n some key, came_under_is n key some) refl

  came_is : (node : Option ℕ) (key : Bytes) → IfSome node (λ n. counts n ≡ true) → came w.origins node key
      ≡ came_to tools s node key
  came_is None key some = refl
  came_is (Some n) key some = came_at n key some

  is_traced : (node : Option ℕ) (key : Bytes) → IfSome node (λ n. counts n ≡ true) → IsTraced w.origins node key
  is_traced None key some = tt
  is_traced (Some n) key some = λ traced. came_at n key some ∙ stands.traced n some key traced

  came_of : (node : Option ℕ) (n : ℕ) (k key : Bytes) → counts n ≡ true → (is_number node n && bytes_eq k key) ≡ true
      → came w.origins node key ≡ true → came_by tools s n k ≡ true
  came_of None n k key some is it = cc
  came_of (Some x) n k key some is it =
      let same : n ≡ x = same_number n x (and_left _ _ is) in
      let key_is : k ≡ key = same_bytes k key (and_right (nat_eq n x) _ is) in
      rw (same, key_is) (sym (came_at x key (ap counts (sym same) ∙ some)) ∙ it)

  traced_in : (node : Option ℕ) (key : Key) (origins : Origins) → TakesIn w.origins origins node key.0
      → (n : ℕ) → counts n ≡ true → (k : Bytes) → number_has origins.traced n k ≡ true
      → (number_has w.origins.traced n k ≡ true) ⊎ (came_by tools s n k ≡ true)
  traced_in node key origins is n some k it =
      elim (is.traced n k it) [
        | inl before ↦ inl before
        | inr now ↦ inr (came_of node n k key.0 some now.0 now.1)
      ]

  taken_in : (node : Option ℕ) (key : Key) (origins : Origins) → TakesIn w.origins origins node key.0
      → IfSome node (λ n. counts n ≡ true) → origins.ideal ≡ (w.origins.ideal && came_to tools s node key.0)
  taken_in node key origins is some =
      is.ideal (is_traced node key.0 some) ∙ ap (λ (x : Bool). w.origins.ideal && x) (came_is node key.0 some)

  module _ (a after : Sayings) (grows : Grows counts s a after) where
    pub quiet : a.terms ≡ [] → a.forged ≡ [] → ((n : ℕ) → a.codes n ≡ []) → ((n : ℕ) → a.bases n ≡ [])
        → ((d : ℕ) → a.ever d ≡ []) → a.removed ≡ [] → a.network ≡ [] → a.ideal ≡ true → a.based ≡ true
        → Represents tools counts w after
    quiet no_term no_forged no_code no_base no_ever no_removed no_network ideal based =
        advances tools counts w w s a after grows stands
        (origins_stay tools counts w s a after grows stands no_term no_code no_base ideal)
        (passing_stays tools counts w s a after grows stands no_network no_forged)
        (exposure_stays tools counts w s a after grows stands no_term no_ever no_removed based)

    -- A key is held by the devices of a test.
    exposure_gains : (new : Exposure) (key : Key) (test : ℕ → Bool) → (IsSettled w.exposure → IsSettled new)
        → ((d : ℕ) (k : Bytes) → node_has new.ever d k
        ≡ (node_has w.exposure.ever d k || (test d && bytes_eq k key.0)))
        → new.removed ≡ w.exposure.removed → new.carried ≡ w.exposure.carried → new.based ≡ w.exposure.based
        → a.terms ≡ [] → ((d : ℕ) → a.ever d ≡ only_if (test d) key.0) → a.removed ≡ [] → a.based ≡ true
        → ExposureTakes tools w.exposure new a
    exposure_gains new key test settled ever removed carried based no_term holds_it no_removed fine = record {
      settled = settled;
      carried = λ b k.
          ap (λ c. is_carried c b k) carried
          ∙ sym (ap (λ (ts : List model.Term). is_carried w.exposure.carried b k || list_any (carries tools b k) ts)
          no_term ∙ or_none (is_carried w.exposure.carried b k));
      ever = λ d some k.
          ever d k ∙ ap (λ (x : Bool). node_has w.exposure.ever d k || x)
          (sym (ap (λ (ks : List Bytes). holds ks k) (holds_it d) ∙ holds_if key.0 (test d) k));
      removed = λ d.
          ap (λ r. was_removed (record w.exposure { removed = r }) d) removed
          ∙ sym (ap (λ (ds : List ℕ). was_removed w.exposure d || list_any (nat_eq d) ds) no_removed ∙ or_none
          (was_removed w.exposure d));
      somebody = ap (list_any (nat_eq nobody)) no_removed;
      based = based ∙ sym (ap (λ (x : Bool). w.exposure.based && x) fine ∙ and_all w.exposure.based);
    }

    gains_at : (node : Option Eui) (new : Exposure) (key : Key) → Holds w.exposure new node key → a.terms ≡ []
        → ((d : ℕ) → a.ever d ≡ only_if (is_node node d) key.0) → a.removed ≡ [] → a.based ≡ true
        → ExposureTakes tools w.exposure new a
    gains_at node new key it no_term holds_it no_removed fine =
        exposure_gains new key (is_node node) it.settled it.ever it.removed it.carried it.based no_term holds_it
        no_removed fine

  -- Given keys

  pub given_net_follows : (who : Speaker) (node : ArrayString) (key : Key) (sequence : ℕ) (after : Sayings)
      → Grows counts s (said_by tools s who (line.GivenNet node key sequence)) after
      → (passing : Passing) (exposure : Exposure)
      → ((k : Bytes) → has passing.network k ≡ (has w.passing.network k || bytes_eq k key.0)) → passing.forged
      ≡ w.passing.forged → passing.passed_on ≡ (w.passing.passed_on || has w.passing.forged key.0)
      → Holds w.exposure exposure who.address key
      → Represents tools counts (record w { passing = passing; exposure = exposure }) after
  given_net_follows who node key sequence after grows passing exposure network forged passed holds_it =
      let a : Sayings = said_by tools s who (line.GivenNet node key sequence) in
      advances tools counts w (record w { passing = passing; exposure = exposure }) s a after grows stands
      (origins_stay tools counts w s a after grows stands refl (λ n. refl) (λ n. refl) refl)
      (passing_gains tools counts w s a after grows stands passing key true refl refl network forged passed)
      (gains_at a after grows who.address exposure key holds_it refl (λ d. refl) refl refl)

  pub given_link_follows : (who : Speaker) (node : ArrayString) (partner : Eui) (key : Key) (after : Sayings)
      → Grows counts s (said_by tools s who (line.GivenLink node partner key)) after
      → (passing : Passing) (origins : Origins) (exposure : Exposure)
      → ((k : Bytes) → has passing.network k ≡ (has w.passing.network k || bytes_eq k key.0)) → passing.forged
      ≡ w.passing.forged → passing.passed_on ≡ (w.passing.passed_on || has w.passing.forged key.0)
      → HasMore w.origins.codes origins.codes who.number key → HasMore w.origins.bases origins.bases who.number key
      → origins.terms ≡ w.origins.terms → origins.carriers ≡ w.origins.carriers → origins.traced ≡ w.origins.traced
      → origins.ideal ≡ w.origins.ideal
      → Holds w.exposure exposure who.address key
      → Represents tools counts (record w { passing = passing; origins = origins; exposure = exposure }) after
  given_link_follows who node partner key after grows passing origins exposure network forged passed codes bases terms
      carriers traced ideal holds_it =
      let a : Sayings = said_by tools s who (line.GivenLink node partner key) in
      let from : OriginsTake tools counts w.origins origins s a = record {
        terms = λ t. ap (λ o. has_term o t) terms ∙ sym (or_none (has_term w.origins.terms t));
        codes = λ n some k. has_more w.origins.codes origins.codes who.number key codes n k;
        bases = λ n some k. has_more w.origins.bases origins.bases who.number key bases n k;
        carriers = λ b k. ap (λ c. is_carried c k b) carriers ∙ sym (or_none (is_carried w.origins.carriers k b));
        traced = λ n some k it. inl (ap (λ c. number_has c n k) (sym traced) ∙ it);
        ideal = ideal ∙ sym (and_all w.origins.ideal);
      } in
      advances tools counts w (record w { passing = passing; origins = origins; exposure = exposure }) s a after grows
      stands from (passing_gains tools counts w s a after grows stands passing key true refl refl network forged
      passed)
      (gains_at a after grows who.address exposure key holds_it refl (λ d. refl) refl refl)

  pub draw_follows : (who : Speaker) (event : ℕ) (key : Key) (after : Sayings)
      → Grows counts s (said_by tools s who (line.Draw event key)) after → (passing : Passing)
      → ((k : Bytes) → has passing.network k ≡ (has w.passing.network k || bytes_eq k key.0)) → passing.forged
      ≡ w.passing.forged → passing.passed_on ≡ (w.passing.passed_on || has w.passing.forged key.0)
      → Represents tools counts (record w { passing = passing }) after
  draw_follows who event key after grows passing network forged passed =
      let a : Sayings = said_by tools s who (line.Draw event key) in
      advances tools counts w (record w { passing = passing }) s a after grows stands
      (origins_stay tools counts w s a after grows stands refl (λ n. refl) (λ n. refl) refl)
      (passing_gains tools counts w s a after grows stands passing key true refl refl network forged passed)
      (exposure_stays tools counts w s a after grows stands refl (λ n. refl) refl refl)

  -- Installed keys

  pub install_follows : (who : Speaker) (event : ℕ) (node : ArrayString) (key : Key) (sequence : ℕ) (after : Sayings)
      → IfSome who.joiner (λ n. counts n ≡ true)
      → Grows counts s (said_by tools s who (line.Install event node key sequence)) after
      → (origins : Origins) (exposure : Exposure)
      → TakesIn w.origins origins who.joiner key.0 → Holds w.exposure exposure who.address key
      → Represents tools counts (record w { origins = origins; exposure = exposure }) after
  install_follows who event node key sequence after joiner grows origins exposure is holds_it =
      let a : Sayings = said_by tools s who (line.Install event node key sequence) in
      let from : OriginsTake tools counts w.origins origins s a = record {
        terms = λ t. ap (λ o. has_term o t) is.terms ∙ sym (or_none (has_term w.origins.terms t));
        codes = λ n some k. ap (λ o. number_has o n k) is.codes ∙ sym (or_none (number_has w.origins.codes n k));
        bases = λ n some k. ap (λ o. number_has o n k) is.bases ∙ sym (or_none (number_has w.origins.bases n k));
        carriers = λ b k. ap (λ c. is_carried c k b) is.carriers ∙ sym (or_none (is_carried w.origins.carriers k b));
        traced = traced_in who.joiner key origins is;
        ideal = taken_in who.joiner key origins is joiner;
      } in
      advances tools counts w (record w { origins = origins; exposure = exposure }) s a after grows stands from
      (passing_stays tools counts w s a after grows stands refl refl)
      (gains_at a after grows who.address exposure key holds_it refl (λ d. refl) refl refl)

  pub row_follows : (who : Speaker) (event : ℕ) (node : ArrayString) (partner : Eui) (key : Key) (attribute :
      Attribute)
      (after : Sayings) → IfSome who.joiner (λ n. counts n ≡ true)
      → Grows counts s (said_by tools s who (line.Row event node partner key attribute)) after
      → (passing : Passing) (taken origins : Origins) (middle exposure : Exposure)
      → ((k : Bytes) → has passing.network k ≡ (has w.passing.network k || (is_code attribute && bytes_eq k key.0)))
      → passing.forged ≡ w.passing.forged → passing.passed_on
      ≡ (w.passing.passed_on || (is_code attribute && has w.passing.forged key.0))
      → TakesIn w.origins taken who.joiner key.0 → HasMore taken.bases origins.bases who.number key
      → origins.codes ≡ taken.codes → origins.terms ≡ taken.terms → origins.carriers ≡ taken.carriers → origins.traced
      ≡ taken.traced → origins.ideal ≡ taken.ideal
      → Holds w.exposure middle (if who.is_centre then Some partner else None) key
      → Holds middle exposure who.address key
      → Represents tools counts (record w { passing = passing; origins = origins; exposure = exposure }) after
  row_follows who event node partner key attribute after joiner grows passing taken origins middle exposure network
      forged passed is bases codes terms carriers traced ideal one two =
      let a : Sayings = said_by tools s who (line.Row event node partner key attribute) in
      let from : OriginsTake tools counts w.origins origins s a = record {
        terms = λ t. ap (λ o. has_term o t) (terms ∙ is.terms) ∙ sym (or_none (has_term w.origins.terms t));
        codes = λ n some k. ap (λ o. number_has o n k) (codes ∙ is.codes) ∙ sym
            (or_none (number_has w.origins.codes n k));
        bases = λ n some k.
            has_more taken.bases origins.bases who.number key bases n k
            ∙ ap (λ o. number_has o n k || holds (only_if (is_number who.number n) key.0) k) is.bases;
        carriers = λ b k. ap (λ c. is_carried c k b) (carriers ∙ is.carriers) ∙ sym
            (or_none (is_carried w.origins.carriers k b));
        traced = λ n some k it.
            traced_in who.joiner key taken is n some k (ap (λ c. number_has c n k) (sym traced) ∙ it);
        ideal = ideal ∙ taken_in who.joiner key taken is joiner;
      } in
      advances tools counts w (record w { passing = passing; origins = origins; exposure = exposure }) s a after grows
      stands from
      (passing_gains tools counts w s a after grows stands passing key (is_code attribute) refl refl network forged
      passed)
      (exposure_gains a after grows exposure key
      (λ d. is_node who.address d || (who.is_centre && nat_eq partner.0 d))
      (λ settled. two.settled (one.settled settled))
      (λ d k.
      twice w.exposure middle exposure (if who.is_centre then Some partner else None) who.address key one two d k
      ∙ ap (λ (x : Bool). node_has w.exposure.ever d k || ((is_node who.address d || x) && bytes_eq k key.0))
      (centre_partner who.is_centre partner d))
      (two.removed ∙ one.removed) (two.carried ∙ one.carried) (two.based ∙ one.based) refl (λ d. refl) refl refl)

  pub pair_follows : (who : Speaker) (event : ℕ) (node : ArrayString) (first second : Eui) (key : Key) (after :
      Sayings)
      → Grows counts s (said_by tools s who (line.Pair event node first second key)) after
      → (middle exposure : Exposure)
      → Holds w.exposure middle (Some first) key → Holds middle exposure (Some second) key
      → Represents tools counts (record w { exposure = exposure }) after
  pair_follows who event node first second key after grows middle exposure one two =
      let a : Sayings = said_by tools s who (line.Pair event node first second key) in
      advances tools counts w (record w { exposure = exposure }) s a after grows stands
      (origins_stay tools counts w s a after grows stands refl (λ n. refl) (λ n. refl) refl)
      (passing_stays tools counts w s a after grows stands refl refl)
      (exposure_gains a after grows exposure key (λ d. nat_eq first.0 d || nat_eq second.0 d)
      (λ settled. two.settled (one.settled settled))
      (λ d k.
      twice w.exposure middle exposure (Some first) (Some second) key one two d k
      ∙ ap (λ (x : Bool). node_has w.exposure.ever d k || (x && bytes_eq k key.0))
      (either_way (nat_eq d second.0) (nat_eq d first.0) (nat_eq first.0 d) (nat_eq second.0 d)
      (turned_number d first.0) (turned_number d second.0)))
      (two.removed ∙ one.removed) (two.carried ∙ one.carried) (two.based ∙ one.based) refl (λ d. refl) refl refl)

  pub remove_follows : (who : Speaker) (event : ℕ) (device : Eui) (after : Sayings)
      → Grows counts s (said_by tools s who (line.Removed event device)) after → (exposure : Exposure)
      → (IsSettled w.exposure → IsSettled exposure) → exposure.ever ≡ w.exposure.ever
      → ((d : ℕ) → was_removed exposure d ≡ (was_removed w.exposure d || nat_eq d device.0)) → device.0 < 2 ^ 64
      → exposure.carried ≡ w.exposure.carried → exposure.based ≡ w.exposure.based
      → Represents tools counts (record w { exposure = exposure }) after
  remove_follows who event device after grows exposure settled ever removed in_range carried based =
      let a : Sayings = said_by tools s who (line.Removed event device) in
      let from : ExposureTakes tools w.exposure exposure a = record {
        settled = settled;
        carried = λ b k. ap (λ c. is_carried c b k) carried ∙ sym (or_none (is_carried w.exposure.carried b k));
        ever = λ d some k. ap (λ o. node_has o d k) ever ∙ sym (or_none (node_has w.exposure.ever d k));
        removed = λ d. removed d ∙ ap (λ (x : Bool). was_removed w.exposure d || x)
            (sym (or_none (nat_eq d device.0)));
        somebody = or_none (nat_eq nobody device.0) ∙ (turned_number nobody device.0 ∙ not_nobody device.0 in_range);
        based = based ∙ sym (and_all w.exposure.based);
      } in
      advances tools counts w (record w { exposure = exposure }) s a after grows stands
      (origins_stay tools counts w s a after grows stands refl (λ n. refl) (λ n. refl) refl)
      (passing_stays tools counts w s a after grows stands refl refl) from

  -- Terms

  pub accept_follows : (who : Speaker) (event : ℕ) (node : ArrayString) (t : Term) (after : Sayings)
      → Grows counts s (said_by tools s who (line.Accept event node t)) after → (origins : Origins) → origins
      ≡ record w.origins { ideal = w.origins.ideal && has_term w.origins.terms t }
      → Represents tools counts (record w { origins = origins }) after
  accept_follows who event node t after grows origins is =
      let a : Sayings = said_by tools s who (line.Accept event node t) in
      let from : OriginsTake tools counts w.origins origins s a = record {
        terms = λ u. ap (λ (o : Origins). has_term o.terms u) is ∙ sym (or_none (has_term w.origins.terms u));
        codes = λ n some k. ap (λ (o : Origins). number_has o.codes n k) is ∙ sym
            (or_none (number_has w.origins.codes n k));
        bases = λ n some k. ap (λ (o : Origins). number_has o.bases n k) is ∙ sym
            (or_none (number_has w.origins.bases n k));
        carriers = λ b k. ap (λ (o : Origins). is_carried o.carriers k b) is ∙ sym
            (or_none (is_carried w.origins.carriers k b));
        traced = λ n some k it. inl (ap (λ (o : Origins). number_has o.traced n k) (sym is) ∙ it);
        ideal = ap (λ (o : Origins). o.ideal) is ∙ ap (λ (x : Bool). w.origins.ideal && x) (stands.terms t);
      } in
      advances tools counts w (record w { origins = origins }) s a after grows stands from
      (passing_stays tools counts w s a after grows stands refl refl)
      (exposure_stays tools counts w s a after grows stands refl (λ n. refl) refl refl)

  module _ (find : FindKeys tools) (t : Term) (key : Option Key) (key_is : key ≡ carrying.carried t) where
    that_key : (k : Bytes) → is_key key k ≡ is_that (carried tools (model_term t)) k
    that_key k = key_that key k ∙ ap (λ (o : Option Bytes). is_that o k)
        (ap bytes_of key_is ∙ sym (carried_is tools find t))

    test_key : (o : Option Bytes) (q : Option Key) → option_map (λ (key : Key). key.0) q ≡ o
        → has_that w.passing.network q ≡ holds_some s.network o
    test_key None None e = refl
    test_key None (Some q) e = cc
    test_key (Some k) None e = cc
    test_key (Some k) (Some q) e = let it : q.0 ≡ k = cc in stands.network q.0 ∙ ap (holds s.network) it

    sealed_terms : (a : Sayings) (origins : Origins) → a.terms ≡ model_term t ∷ [] → ((n : ℕ) → a.codes n ≡ [])
        → ((n : ℕ) → a.bases n ≡ []) → a.ideal ≡ true
        → ((u : Term) → has_term origins.terms u
        ≡ (has_term w.origins.terms u || same_term (model_term u) (model_term t)))
        → origins.codes ≡ w.origins.codes → origins.bases ≡ w.origins.bases
        → ((k b : Bytes) → is_carried origins.carriers k b
        ≡ (is_carried w.origins.carriers k b || (is_key key k && bytes_eq b t.base.0))) → origins.traced
        ≡ w.origins.traced
        → origins.ideal ≡ w.origins.ideal → OriginsTake tools counts w.origins origins s a
    sealed_terms a origins one no_code no_base fine terms codes bases carriers traced ideal = record {
      terms = λ u.
          terms u ∙ ap (λ (x : Bool). has_term w.origins.terms u || x)
          (sym (ap (λ (ts : List model.Term). list_any (same_term (model_term u)) ts) one ∙ or_none
          (same_term (model_term u) (model_term t))));
      codes = λ n some k. ap (λ o. number_has o n k) codes ∙ sym
          (ap (λ (ks : List Bytes). number_has w.origins.codes n k || holds ks k) (no_code n) ∙ or_none
          (number_has w.origins.codes n k));
      bases = λ n some k. ap (λ o. number_has o n k) bases ∙ sym
          (ap (λ (ks : List Bytes). number_has w.origins.bases n k || holds ks k) (no_base n) ∙ or_none
          (number_has w.origins.bases n k));
      carriers = λ b k.
          carriers k b
          ∙ ap (λ (x : Bool). is_carried w.origins.carriers k b || x)
          (ap (λ (x : Bool). x && bytes_eq b t.base.0) (that_key k)
          ∙ (and_turned (is_that (carried tools (model_term t)) k) (bytes_eq b t.base.0) ∙ sym
          (ap (λ (ts : List model.Term). list_any (carries tools b k) ts) one ∙ or_none
          (carries tools b k (model_term t)))));
      traced = λ n some k it. inl (ap (λ c. number_has c n k) (sym traced) ∙ it);
      ideal = ideal ∙ sym (ap (λ (x : Bool). w.origins.ideal && x) fine ∙ and_all w.origins.ideal);
    }

    carried_more : (new : Exposure)
        → ((b k : Bytes) → is_carried new.carried b k
        ≡ (is_carried w.exposure.carried b k || (bytes_eq b t.base.0 && is_key key k)))
        → (b k : Bytes) → is_carried new.carried b k
        ≡ (is_carried w.exposure.carried b k || list_any (carries tools b k) (model_term t ∷ []))
    carried_more new adds b k =
        adds b k ∙ ap (λ (x : Bool). is_carried w.exposure.carried b k || x)
        (ap (λ (x : Bool). bytes_eq b t.base.0 && x) (that_key k) ∙ sym
        (or_none (carries tools b k (model_term t))))

    pub seal_follows : (who : Speaker) (event : ℕ) (node : ArrayString) (after : Sayings)
        → Grows counts s (said_by tools s who (line.Seal event node t)) after
        → (origins : Origins) (exposure : Exposure)
        → ((u : Term) → has_term origins.terms u
        ≡ (has_term w.origins.terms u || same_term (model_term u) (model_term t)))
        → origins.codes ≡ w.origins.codes → origins.bases ≡ w.origins.bases
        → ((k b : Bytes) → is_carried origins.carriers k b
        ≡ (is_carried w.origins.carriers k b || (is_key key k && bytes_eq b t.base.0))) → origins.traced
        ≡ w.origins.traced
        → origins.ideal ≡ w.origins.ideal
        → (IsSettled w.exposure → IsSettled exposure) → exposure.ever ≡ w.exposure.ever → exposure.removed
        ≡ w.exposure.removed
        → ((b k : Bytes) → is_carried exposure.carried b k
        ≡ (is_carried w.exposure.carried b k || (bytes_eq b t.base.0 && is_key key k))) → exposure.based
        ≡ w.exposure.based
        → Represents tools counts (record w { origins = origins; exposure = exposure }) after
    seal_follows who event node after grows origins exposure terms codes bases carriers traced ideal settled ever
        removed carried based =
        let a : Sayings = said_by tools s who (line.Seal event node t) in
        let from : ExposureTakes tools w.exposure exposure a = record {
          settled = settled;
          carried = carried_more exposure carried;
          ever = λ d some k. ap (λ o. node_has o d k) ever ∙ sym (or_none (node_has w.exposure.ever d k));
          removed = λ d. ap (λ r. was_removed (record w.exposure { removed = r }) d) removed ∙ sym
              (or_none (was_removed w.exposure d));
          somebody = refl;
          based = based ∙ sym (and_all w.exposure.based);
        } in
        advances tools counts w (record w { origins = origins; exposure = exposure }) s a after grows stands
        (sealed_terms a origins refl (λ n. refl) (λ n. refl) refl terms codes bases carriers traced ideal)
        (passing_stays tools counts w s a after grows stands refl refl) from

    pub forge_follows : (who : Speaker) (event : ℕ) (after : Sayings)
        → Grows counts s (said_by tools s who (line.Forge event t)) after
        → (origins : Origins) (passing : Passing) (told exposure : Exposure)
        → ((u : Term) → has_term origins.terms u
        ≡ (has_term w.origins.terms u || same_term (model_term u) (model_term t)))
        → origins.codes ≡ w.origins.codes → origins.bases ≡ w.origins.bases
        → ((k b : Bytes) → is_carried origins.carriers k b
        ≡ (is_carried w.origins.carriers k b || (is_key key k && bytes_eq b t.base.0))) → origins.traced
        ≡ w.origins.traced
        → origins.ideal ≡ w.origins.ideal
        → passing.network ≡ w.passing.network
        → ((k : Bytes) → has passing.forged k ≡ (has w.passing.forged k || is_key key k)) → passing.passed_on
        ≡ (w.passing.passed_on || has_that w.passing.network key)
        → told ≡ record w.exposure { based = w.exposure.based && has w.exposure.known t.base.0 }
        → (IsSettled told → IsSettled exposure) → exposure.ever ≡ told.ever → exposure.removed ≡ told.removed
        → ((b k : Bytes) → is_carried exposure.carried b k
        ≡ (is_carried told.carried b k || (bytes_eq b t.base.0 && is_key key k))) → exposure.based ≡ told.based
        → Represents tools counts (record w { origins = origins; passing = passing; exposure = exposure }) after
    forge_follows who event after grows origins passing told exposure terms codes bases carriers traced ideal network
        forged passed is settled ever removed adds based =
        let a : Sayings = said_by tools s who (line.Forge event t) in
        let from : ExposureTakes tools w.exposure exposure a = record {
          settled =
              λ it. settled
              (subst IsSettled (sym is) (rebased w.exposure (w.exposure.based && has w.exposure.known t.base.0) it));
          carried =
              carried_more exposure
              (λ b k. adds b k ∙ ap
              (λ (e : Exposure). is_carried e.carried b k || (bytes_eq b t.base.0 && is_key key k)) is);
          ever = λ d some k. ap (λ o. node_has o d k) (ever ∙ ap (λ (e : Exposure). e.ever) is) ∙ sym
              (or_none (node_has w.exposure.ever d k));
          removed = λ d. ap (λ r. was_removed (record w.exposure { removed = r }) d)
              (removed ∙ ap (λ (e : Exposure). e.removed) is) ∙ sym (or_none (was_removed w.exposure d));
          somebody = refl;
          based =
              based ∙
              (ap (λ (e : Exposure). e.based) is ∙ ap (λ (x : Bool). w.exposure.based && x) (stands.known t.base.0));
        } in
        advances tools counts w (record w { origins = origins; passing = passing; exposure = exposure }) s a after
        grows stands
        (sealed_terms a origins refl (λ n. refl) (λ n. refl) refl terms codes bases carriers traced ideal)
        (passing_hears tools counts w s a after grows stands passing (model_term t) key refl refl that_key
        (test_key (carried tools (model_term t)) key (ap bytes_of key_is ∙ sym (carried_is tools find t))) network
        forged passed) from

-- A line of another kind says nothing.
pub says_nothing : (tools : Tools) (s : Sayings) (who : Speaker) (l : Line)
    → ((x0 : ArrayString) (x1 : Key) (x2 : ℕ) → l ≡ line.GivenNet x0 x1 x2 → ⊥)
    → ((x0 : ArrayString) (x1 : Eui) (x2 : Key) → l ≡ line.GivenLink x0 x1 x2 → ⊥)
    → ((x0 : ℕ) (x1 : Key) → l ≡ line.Draw x0 x1 → ⊥)
    → ((x0 : ℕ) (x1 : ArrayString) (x2 : Key) (x3 : ℕ) → l ≡ line.Install x0 x1 x2 x3 → ⊥)
    → ((x0 : ℕ) (x1 : ArrayString) (x2 : Eui) (x3 : Key) (x4 : Attribute) → l ≡ line.Row x0 x1 x2 x3 x4 → ⊥)
    → ((x0 : ℕ) (x1 : ArrayString) (x2 : Eui) (x3 : Eui) (x4 : Key) → l ≡ line.Pair x0 x1 x2 x3 x4 → ⊥)
    → ((x0 : ℕ) (x1 : Eui) → l ≡ line.Removed x0 x1 → ⊥)
    → ((x0 : ℕ) (x1 : ArrayString) (x2 : Term) → l ≡ line.Accept x0 x1 x2 → ⊥)
    → ((x0 : ℕ) (x1 : ArrayString) (x2 : Term) → l ≡ line.Seal x0 x1 x2 → ⊥)
    → ((x0 : ℕ) (x1 : Term) → l ≡ line.Forge x0 x1 → ⊥)
    → said_by tools s who l ≡ nothing
says_nothing tools s who (line.Node x0 x1 x2 x3 x4 x5) _ _ _ _ _ _ _ _ _ _ = refl
says_nothing tools s who (line.GivenNet x0 x1 x2) differs _ _ _ _ _ _ _ _ _ = absurd (differs x0 x1 x2 refl)
says_nothing tools s who (line.GivenLink x0 x1 x2) _ differs _ _ _ _ _ _ _ _ = absurd (differs x0 x1 x2 refl)
says_nothing tools s who (line.Counter x0 x1 x2) _ _ _ _ _ _ _ _ _ _ = refl
says_nothing tools s who (line.Reserve x0 x1 x2 x3) _ _ _ _ _ _ _ _ _ _ = refl
says_nothing tools s who (line.Floor x0 x1 x2 x3 x4 x5) _ _ _ _ _ _ _ _ _ _ = refl
says_nothing tools s who (line.Draw x0 x1) _ _ differs _ _ _ _ _ _ _ = absurd (differs x0 x1 refl)
says_nothing tools s who (line.DropNet x0 x1 x2) _ _ _ _ _ _ _ _ _ _ = refl
says_nothing tools s who (line.DropLink x0 x1 x2 x3) _ _ _ _ _ _ _ _ _ _ = refl
says_nothing tools s who (line.Install x0 x1 x2 x3) _ _ _ differs _ _ _ _ _ _ = absurd (differs x0 x1 x2 x3 refl)
says_nothing tools s who (line.Active x0 x1 x2) _ _ _ _ _ _ _ _ _ _ = refl
says_nothing tools s who (line.Start x0 x1 x2 x3) _ _ _ _ _ _ _ _ _ _ = refl
says_nothing tools s who (line.Row x0 x1 x2 x3 x4) _ _ _ _ differs _ _ _ _ _ = absurd (differs x0 x1 x2 x3 x4 refl)
says_nothing tools s who (line.Pair x0 x1 x2 x3 x4) _ _ _ _ _ differs _ _ _ _ = absurd (differs x0 x1 x2 x3 x4 refl)
says_nothing tools s who (line.State x0 x1 x2) _ _ _ _ _ _ _ _ _ _ = refl
says_nothing tools s who (line.Live x0 x1) _ _ _ _ _ _ _ _ _ _ = refl
says_nothing tools s who (line.Removed x0 x1) _ _ _ _ _ _ differs _ _ _ = absurd (differs x0 x1 refl)
says_nothing tools s who (line.Roll x0 x1 x2) _ _ _ _ _ _ _ _ _ _ = refl
says_nothing tools s who (line.Told x0 x1) _ _ _ _ _ _ _ _ _ _ = refl
says_nothing tools s who (line.Untold x0 x1) _ _ _ _ _ _ _ _ _ _ = refl
says_nothing tools s who (line.Commit x0 x1) _ _ _ _ _ _ _ _ _ _ = refl
says_nothing tools s who (line.Accept x0 x1 x2) _ _ _ _ _ _ _ differs _ _ = absurd (differs x0 x1 x2 refl)
says_nothing tools s who (line.Refuse x0 x1 x2) _ _ _ _ _ _ _ _ _ _ = refl
says_nothing tools s who (line.Seal x0 x1 x2) _ _ _ _ _ _ _ _ differs _ = absurd (differs x0 x1 x2 refl)
says_nothing tools s who (line.Forge x0 x1) _ _ _ _ _ _ _ _ _ differs = absurd (differs x0 x1 refl)
says_nothing tools s who (line.Send x0 x1 x2 x3) _ _ _ _ _ _ _ _ _ _ = refl
says_nothing tools s who (line.Inject x0 x1 x2) _ _ _ _ _ _ _ _ _ _ = refl
says_nothing tools s who (line.Stopped x0 x1) _ _ _ _ _ _ _ _ _ _ = refl
says_nothing tools s who (line.DownReset x0 x1) _ _ _ _ _ _ _ _ _ _ = refl
says_nothing tools s who (line.DownDisk x0 x1) _ _ _ _ _ _ _ _ _ _ = refl
says_nothing tools s who (line.Boot x0 x1) _ _ _ _ _ _ _ _ _ _ = refl
says_nothing tools s who (line.Dump x0 x1 x2) _ _ _ _ _ _ _ _ _ _ = refl
says_nothing tools s who (line.End x0 x1 x2 x3 x4 x5) _ _ _ _ _ _ _ _ _ _ = refl

pub quiet_follows : (tools : Tools) (counts : ℕ → Bool) (w : EndWords) (s a : Sayings) → a ≡ nothing
    → (after : Sayings) → Grows counts s a after → Represents tools counts w s → Represents tools counts w after
quiet_follows tools counts w s a is after grows stands =
    quiet tools counts w s stands nothing after (subst (λ (more : Sayings). Grows counts s more after) is grows) refl
    refl (λ n. refl) (λ n. refl) (λ d. refl) refl refl refl refl
