-- The first node of a name, of an address and of the centre's role, as nodes are declared one by one.
use Rattle.std.proofs.Common.{◌≡◌, ℕ, List, [], ◌∷◌, ◌++◌, Bool, true, false, cond, Option, Some, None, refl, ap, sym, ◌∙◌, bytes_eq, nat_eq, ◌<◌, ◌^◌, arith}
use Rattle.std.specs.BTreeMap.{BTreeMap, get, is_at}
use Rattle.std.specs.List.{AllByRecursion, find}
use Rattle.std.specs.Map.{lookup}
use Rattle.std.specs.Option.{option_map, option_or, is_some}
use Rattle.std.specs.Ordering.{is_eq, nat_cmp}
use Rattle.std.specs.Prelude.{if◌then◌else◌}
use Rattle.std.specs.Cmp.Lexicographic.{slice_cmp}
use Rattle.std.proofs.lemmas.List.Folds.{find-append}
use Rattle.arrayvec.specs.ArrayString.{ArrayString}
use Rattle.zb_base.specs.declared.address.Eui.{Eui}
use Rattle.zb_base.specs.declared.node.Role.{Role}
use Rattle.zb_model.specs.Data.{Station, nobody}
use Rattle.zb_model.specs.Rules.{station_of}
use Rattle.zb_model.specs.State.{is_centre}
use Rattle.zb_node_types.specs.Changes.{model_role}
use Rattle.zb_trace_watch.specs.Nodes.{address_in, name_cmp, role_in, Declares, IsOf}
use Rattle.zb_trace_watch.specs.Sets.{eui_cmp}
use Rattle.zb_trace_watch.specs.declared.nodes.Nodes.{Nodes}
use Rattle.zb_trace_watch.proofs.Alike.{bytes_alike}
use Rattle.zb_trace_watch.proofs.Truth.{number_alike, same_bytes, same_number, turned_number}

pub declares_none : (addresses : BTreeMap ArrayString Eui) (roles : BTreeMap Eui Role) → addresses.entries ≡ []
    → roles.entries ≡ [] → Declares (record { addresses = addresses; roles = roles; centre = None }) []
unfolding station_of
declares_none addresses roles e f = record {
  addresses = λ name. rw e refl;
  roles = λ eui. rw f refl;
  centre = refl;
  somebody = tt;
}

-- The first value that is written for a key stays.
first_value : {X : Type 0} (same : Bool) (old : Option X) (x : X) → (same ≡ true → old ≡ None)
    → cond same (Some x) old ≡ option_or old (if same then Some x else None)
first_value true old x none = rw (none refl) refl
first_value false None x none = refl
first_value false (Some y) x none = refl

pub first_address : (old new : BTreeMap ArrayString Eui) (name : ArrayString) (eui : Eui) → address_in old name ≡ None
    → ((q : ArrayString) → get name_cmp new q ≡ cond (is_at (name_cmp name) q) (Some eui) (get name_cmp old q))
    → (q : ArrayString) → address_in new q
    ≡ option_or (address_in old q) (if bytes_eq name.bytes q.bytes then Some eui else None)
first_address old new name eui none updates q =
    updates q
    ∙ (ap (λ (b : Bool). cond b (Some eui) (address_in old q)) (bytes_alike name.bytes q.bytes)
    ∙ first_value (bytes_eq name.bytes q.bytes) (address_in old q) eui
    (λ same. ap (λ (b : List ℕ). lookup (λ (k : ArrayString). is_eq (slice_cmp nat_cmp b k.bytes)) old.entries)
    (sym (same_bytes name.bytes q.bytes same)) ∙ none))

pub first_role : (old new : BTreeMap Eui Role) (eui : Eui) (r : Role) → role_in old eui.0 ≡ None
    → ((q : Eui) → get eui_cmp new q ≡ cond (is_at (eui_cmp eui) q) (Some r) (get eui_cmp old q))
    → (q : ℕ) → role_in new q ≡ option_or (role_in old q) (if nat_eq q eui.0 then Some r else None)
first_role old new eui r none updates q =
    updates (record { 0 = q })
    ∙ (ap (λ (b : Bool). cond b (Some r) (role_in old q)) (number_alike eui.0 q)
    ∙ first_value (nat_eq q eui.0) (role_in old q) r (λ same. ap (role_in old) (same_number q eui.0 same) ∙ none))

pub nothing_there : {X : Type 0} (o : Option X) → is_some o ≡ false → o ≡ None
nothing_there None h = refl
nothing_there (Some x) h = cc

map_or : {A V : Type 0} (f : A → V) (a b : Option A) → option_map f (option_or a b)
    ≡ option_or (option_map f a) (option_map f b)
map_or f None b = refl
map_or f (Some x) b = refl

one_or_none : {A B V : Type 0} (f : A → V) (g : B → V) (x : A) (y : B) (b : Bool) → f x ≡ g y
    → option_map f (if b then Some x else None) ≡ option_map g (cond b (Some y) None)
one_or_none f g x y true e = ap Some e
one_or_none f g x y false e = refl

-- What is found first in a list with one more item.
found_first : {A B V : Type 0} (f : A → V) (g : B → V) (old new : Option A) (p : B → Bool) (known : List B) (s : B)
    (x : A) (b : Bool)
    → new ≡ option_or old (if b then Some x else None) → option_map f old ≡ option_map g (find p known) → p s ≡ b
    → f x ≡ g s
    → option_map f new ≡ option_map g (find p (known ++ s ∷ []))
found_first f g old new p known s x b is before test same =
    ap (option_map f) is
    ∙ (map_or f old (if b then Some x else None)
    ∙ (ap (λ o. option_or o (option_map f (if b then Some x else None))) before
    ∙ (ap (option_or (option_map g (find p known)))
    (one_or_none f g x s b same ∙ ap (λ (t : Bool). option_map g (cond t (Some s) None)) (sym test))
    ∙ (sym (map_or g (find p known) (find p (s ∷ [])))
    ∙ ap (option_map g) (sym (find-append p known (s ∷ [])))))))

all_more : (known : List Station) (s : Station) → AllByRecursion (λ (s : Station). nat_eq s.eui nobody ≡ false) known
    → nat_eq s.eui nobody ≡ false
    → AllByRecursion (λ (s : Station). nat_eq s.eui nobody ≡ false) (known ++ s ∷ [])
all_more [] s all one = (one, tt)
all_more (k ∷ known) s all one = (all.0, all_more known s all.1 one)

pub declares_more : (n : Nodes) (addresses : BTreeMap ArrayString Eui) (roles : BTreeMap Eui Role)
    (centre : Option Eui) (name : ArrayString) (eui : Eui) (r : Role)
    → ((q : ArrayString) → address_in addresses q
    ≡ option_or (address_in n.addresses q) (if bytes_eq name.bytes q.bytes then Some eui else None))
    → ((q : ℕ) → role_in roles q ≡ option_or (role_in n.roles q) (if nat_eq q eui.0 then Some r else None))
    → centre ≡ option_or n.centre (if is_centre (model_role r) then Some eui else None)
    → nat_eq eui.0 nobody ≡ false
    → (known : List Station) (s : Station) → IsOf s name.bytes eui.0 r → Declares n known
    → Declares (record { addresses = addresses; roles = roles; centre = centre }) (known ++ s ∷ [])
unfolding station_of
declares_more n addresses roles centre name eui r named given first somebody known s is before = record {
  addresses = λ q.
      found_first (λ (e : Eui). e.0) (λ (s : Station). s.eui) (address_in n.addresses q) (address_in addresses q)
      (λ (s : Station). bytes_eq s.name q.bytes) known s eui
      (bytes_eq name.bytes q.bytes) (named q) (before.addresses q)
      (ap (λ (b : List ℕ). bytes_eq b q.bytes) is.name_is) (sym is.eui_is);
  roles = λ q.
      found_first model_role (λ (s : Station). s.role) (role_in n.roles q) (role_in roles q)
      (λ (s : Station). nat_eq s.eui q) known s r
      (nat_eq q eui.0) (given q) (before.roles q) (turned_number s.eui q ∙ ap (nat_eq q) is.eui_is) (sym is.role_is);
  centre =
      found_first (λ (e : Eui). e.0) (λ (s : Station). s.eui) n.centre centre (λ (s : Station). is_centre s.role)
      known s eui
      (is_centre (model_role r)) first before.centre (ap is_centre is.role_is) (sym is.eui_is);
  somebody = all_more known s before.somebody (ap (λ (x : ℕ). nat_eq x nobody) is.eui_is ∙ somebody);
}

pub not_nobody : (n : ℕ) → n < 2 ^ 64 → nat_eq n nobody ≡ false
not_nobody n h = isnt (nat_eq n nobody) refl
  where
    isnt : (b : Bool) → nat_eq n nobody ≡ b → nat_eq n nobody ≡ false
    isnt true e = let it : n ≡ nobody = same_number n nobody e in absurd (omega arith)
    isnt false e = e
