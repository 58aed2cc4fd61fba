-- What a directory holds, as names are added and nodes are declared.
use Rattle.std.proofs.Common.{◌≡◌, ℕ, ◌+◌, Bool, true, false, not, ◌&&◌, ◌||◌, cond, List, [], ◌∷◌, ◌++◌, length, length-append, Option, Some, None, refl, ap, sym, subst, ◌∙◌, bytes_eq, arith}
use Rattle.std.specs.BTreeMap.{BTreeMap, get, is_at, btree_map_len}
use Rattle.std.specs.List.{find}
use Rattle.std.specs.Prelude.{Vec}
use Rattle.std.proofs.lemmas.List.Elements.{All-nil, All-same, All-weaker}
use Rattle.std.specs.Option.{option_map, option_or, is_some}
use Rattle.std.specs.Cmp.Lexicographic.{texts_ties}
use Rattle.std.specs.Prelude.{if◌then◌else◌}
use Rattle.std.proofs.lemmas.List.Folds.{find-append}
use Rattle.std.proofs.lemmas.List.Sums.{fold-append}
use Rattle.std.specs.Prelude.{Result, Ok, Err, OnOk, IfOk, IfSome}
use Rattle.std.specs.Global.{Global}
use Rattle.zb_base.specs.declared.address.Eui.{Eui}
use Rattle.zb_base.specs.declared.address.Short.{Short}
use Rattle.zb_base.specs.declared.node.Role.{Role}
use Rattle.zb_trace.specs.declared.line.Line.{Line}
use Rattle.zb_trace.specs.declared.line.Line.TheVariants as line
use Rattle.arrayvec.specs.ArrayString.{ArrayString}
use Rattle.zb_model.specs.Data.{Bytes, Station}
use Rattle.zb_model.specs.State.{is_centre}
use Rattle.zb_node_types.specs.Changes.{model_role}
use Rattle.zb_audit_names.specs.Naming.{centre_name, declared_in, declares, eui_of, is_centres, is_name, named_by, names_in, or_added, or_new, place_in, station_named, with_name, with_station}
use Rattle.zb_audit_names.specs.Standing.{name_cmp, AreKnown, IsEntry, IsKnown, IsStation, Stands, Tells}
use Rattle.zb_audit_names.specs.declared.directory.Directory.{Directory}
use Rattle.zb_audit_names.specs.declared.directory.Known.{Known}
use Rattle.zb_audit_names.specs.declared.node.Node.{Node}
use Rattle.zb_audit_names.specs.declared.node.Who.{Who}
use Rattle.zb_audit_names.proofs.Places.{apart, itself, place_end, place_kept, same_bytes}

-- Nothing was looked up.
none_known : (looked_up : List (Option Known)) → looked_up ≡ [] → (names : List Bytes) (known : List Station)
    → AreKnown looked_up names known
none_known looked_up none names known =
    All-same (λ (o : Option Known). IsKnown o names known) looked_up [] none
    (All-nil (λ (o : Option Known). IsKnown o names known))

pub stands_for_none : (names : BTreeMap ArrayString Who) (looked_up : Vec (Option Known) Global) → names.entries ≡ []
    → looked_up.items ≡ []
    → Stands (record { names = names; has_centre = false; looked_up = looked_up }) [] []
unfolding place_in station_named centre_name
stands_for_none names looked_up none nothing_yet = record {
  entries = λ name. rw none refl;
  count = rw none refl;
  centre = refl;
  silent = λ name new. refl;
  looked_up = none_known looked_up.items nothing_yet [] [];
}

nothing : {A B : Type 0} (f : A → B) (o : Option A) → None ≡ option_map f o → o ≡ None
nothing f None e = refl
nothing f (Some x) e = cc

-- One more name

told_on : (who : Who) (names later : List Bytes) (known : List Station) (name : Bytes) → Tells who names known name
    → Tells who (names ++ later) known name
told_on who names later known name told = record {
  place = place_kept names later name who.place told.place;
  eui = told.eui;
  role = told.role;
  out_block = told.out_block;
  in_block = told.in_block;
  centre = told.centre;
}

known_on : (o : Option Known) (names later : List Bytes) (known : List Station) → IsKnown o names known
    → IsKnown o (names ++ later) known
known_on None names later known told = tt
known_on (Some k) names later known told = (told_on k.who names later known k.name.bytes told.0, told.1)

-- The centre is a declared node.
no_centre : (same is : Bool) (s : Station) (known : List Station) (name : Bytes) → bytes_eq s.name name ≡ same
    → (station_named known name ≡ None → is_centres known name ≡ false)
    → cond same (Some s) (station_named known name) ≡ None
    → is_name
    (option_map (λ (s : Station). s.name) (cond is (Some s) (find (λ (s : Station). is_centre s.role) known)))
    name ≡ false
unfolding is_centres centre_name
no_centre true is s known name e more f = cc
no_centre false true s known name e more f = e
no_centre false false s known name e more f = more f

centre_known : (known : List Station) (name : Bytes) → station_named known name ≡ None → is_centres known name ≡ false
unfolding station_named is_centres centre_name
centre_known [] name none = refl
centre_known (s ∷ known) name none = no_centre (bytes_eq s.name name) (is_centre s.role) s known name refl
    (centre_known known name) none

-- Which entry is that of a name

at_name : (a b : ArrayString) → is_at (name_cmp a) b ≡ bytes_eq a.bytes b.bytes
at_name a b = sym (texts_ties a.bytes b.bytes)

-- The entries after one was written
written : (old new : Option Who) (same : Bool) (who : Who) (names : List Bytes) (known : List Station) (name : Bytes)
    → new ≡ cond same (Some who) old
    → (same ≡ true → Tells who names known name) → (same ≡ false → IsEntry old names known name)
    → IsEntry new names known name
written old new same who names known name is here there = by same refl
  where
    by : (b : Bool) → same ≡ b → IsEntry new names known name
    by true e = subst (λ (o : Option Who). IsEntry o names known name)
        (sym (is ∙ ap (λ (b : Bool). cond b (Some who) old) e)) (here e)
    by false e = subst (λ (o : Option Who). IsEntry o names known name)
        (sym (is ∙ ap (λ (b : Bool). cond b (Some who) old) e)) (there e)

absent : (o : Option Who) (names : List Bytes) (known : List Station) (name : Bytes) → o ≡ None
    → IsEntry o names known name → place_in names name ≡ None
absent o names known name none entry = subst (λ (o : Option Who). IsEntry o names known name) none entry

-- A new name

pub is_new : (d : Directory) (names : List Bytes) (known : List Station) (name : ArrayString) → Stands d names known
    → get name_cmp d.names name ≡ None → place_in names name.bytes ≡ None
is_new d names known name stands none = absent (get name_cmp d.names name) names known name.bytes none
    (stands.entries name)

end_place : (names : List Bytes) (name : Bytes) → place_in names name ≡ None → place_in (names ++ name ∷ []) name
    ≡ Some (length names)
end_place names name new = place_end names name name new ∙ ap (λ (b : Bool). if b then Some (length names) else None)
    (itself name)

pub tells_new : (d : Directory) (place : ℕ) (names : List Bytes) (known : List Station) (name : ArrayString) → place
    ≡ btree_map_len d.names → Stands d names known → place_in names name.bytes ≡ None
    → Tells (record { place = place; node = None; is_centre = false }) (names ++ name.bytes ∷ []) known name.bytes
unfolding eui_of
tells_new d place names known name last stands new =
    let silent : station_named known name.bytes ≡ None = stands.silent name.bytes new in
    record {
      place = end_place names name.bytes new ∙ ap Some (sym (last ∙ stands.count));
      eui = ap (option_map (λ (s : Station). s.eui)) (sym silent);
      role = ap (option_map (λ (s : Station). s.role)) (sym silent);
      out_block = ap (option_map (λ (s : Station). s.out_block)) (sym silent);
      in_block = ap (option_map (λ (s : Station). s.in_block)) (sym silent);
      centre = sym (centre_known known name.bytes silent);
    }

entry_kept : (o : Option Who) (names : List Bytes) (known : List Station) (name other : Bytes) → bytes_eq name other
    ≡ false → IsEntry o names known other → IsEntry o (names ++ name ∷ []) known other
entry_kept None names known name other differ entry =
    place_end names other name entry ∙ ap (λ (b : Bool). if b then Some (length names) else None) differ
entry_kept (Some who) names known name other differ entry = told_on who names (name ∷ []) known other entry

still_new : (names : List Bytes) (name other : Bytes) (place : Option ℕ) → place_in names other ≡ place
    → place_in (names ++ name ∷ []) other ≡ None → place_in names other ≡ None
still_new names name other None e new = e
still_new names name other (Some i) e new = cc with_some
  where
    with_some : place_in (names ++ name ∷ []) other ≡ Some i
    with_some = place_kept names (name ∷ []) other i e

one_more : (before : ℕ) (old : Option Who) (after : ℕ) (names : List Bytes) (name : Bytes) → old ≡ None → before
    ≡ length names → after ≡ before + (if is_some old then 0 else 1) → after ≡ length (names ++ name ∷ [])
one_more before None after names name none count len = let more = length-append names (name ∷ []) in let is : after
    ≡ before + 1 = len in omega arith
one_more before (Some who) after names name none count len = cc

pub stands_new : (d : Directory) (place : ℕ) (entries : BTreeMap ArrayString Who) (old : Option Who)
    (names : List Bytes) (known : List Station) (name : ArrayString) → place ≡ btree_map_len d.names
    → Stands d names known → place_in names name.bytes ≡ None
    → old ≡ None → btree_map_len entries ≡ btree_map_len d.names + (if is_some old then 0 else 1)
    → ((q : ArrayString) → get name_cmp entries q
    ≡ cond (is_at (name_cmp name) q) (Some (record { place = place; node = None; is_centre = false }))
    (get name_cmp d.names q))
    → Stands (record { names = entries; has_centre = d.has_centre; looked_up = d.looked_up })
    (names ++ name.bytes ∷ []) known
stands_new d place entries old names known name last stands new none len updates =
    let who : Who = record { place = place; node = None; is_centre = false } in
    record {
      entries = λ q.
          written (get name_cmp d.names q) (get name_cmp entries q) (bytes_eq name.bytes q.bytes) who
          (names ++ name.bytes ∷ []) known q.bytes
          (updates q ∙ ap (λ (b : Bool). cond b (Some who) (get name_cmp d.names q)) (at_name name q))
          (λ same. subst (λ (n : Bytes). Tells who (names ++ name.bytes ∷ []) known n)
          (same_bytes name.bytes q.bytes same) (tells_new d place names known name last stands new))
          (λ differ. entry_kept (get name_cmp d.names q) names known name.bytes q.bytes differ (stands.entries q));
      count = one_more (btree_map_len d.names) old (btree_map_len entries) names name.bytes none stands.count len;
      centre = stands.centre;
      silent =
          λ other is_none. stands.silent other (still_new names name.bytes other (place_in names other) refl is_none);
      looked_up = All-weaker (λ (o : Option Known). IsKnown o names known)
          (λ (o : Option Known). IsKnown o (names ++ name.bytes ∷ []) known)
          (λ o. known_on o names (name.bytes ∷ []) known) d.looked_up.items stands.looked_up;
    }

-- The names with a new one, and with one that isn't new.
pub with_new : (names : List Bytes) (name : Bytes) → place_in names name ≡ None → with_name names name ≡ names ++ name
    ∷ []
unfolding with_name
with_new names name new = ap (or_new names name) new

pub with_old : (names : List Bytes) (name : Bytes) (i : ℕ) → place_in names name ≡ Some i → with_name names name
    ≡ names
unfolding with_name
with_old names name i there = ap (or_new names name) there

pub told_there : (d : Directory) (names : List Bytes) (known : List Station) (name : ArrayString) (who : Who)
    → Stands d names known → get name_cmp d.names name ≡ Some who → Tells who names known name.bytes
told_there d names known name who stands is = subst (λ (o : Option Who). IsEntry o names known name.bytes) is
    (stands.entries name)

-- A declared node

pub is_undeclared : (who : Who) (names : List Bytes) (known : List Station) (name : Bytes) → who.node ≡ None
    → Tells who names known name → station_named known name ≡ None
unfolding eui_of
is_undeclared who names known name none tells = nothing (λ (s : Station). s.eui) (station_named known name)
    (ap (option_map (λ (n : Node). n.eui.0)) (sym none) ∙ tells.eui)

named_at : (known : List Station) (s : Station) (name : Bytes) → station_named (known ++ s ∷ []) name
    ≡ option_or (station_named known name) (cond (bytes_eq s.name name) (Some s) None)
unfolding station_named
named_at known s name = find-append (λ (s : Station). bytes_eq s.name name) known (s ∷ [])

or_none : {A : Type 0} (o : Option A) → option_or o None ≡ o
or_none None = refl
or_none (Some x) = refl

named_other : (known : List Station) (s : Station) (name : Bytes) → bytes_eq s.name name ≡ false
    → station_named (known ++ s ∷ []) name ≡ station_named known name
named_other known s name differ =
    named_at known s name ∙
    (ap (λ (b : Bool). option_or (station_named known name) (cond b (Some s) None)) differ ∙ or_none
    (station_named known name))

named_it : (known : List Station) (s : Station) (name : Bytes) → station_named known name ≡ None
    → bytes_eq s.name name ≡ true → station_named (known ++ s ∷ []) name ≡ Some s
named_it known s name none same =
    named_at known s name ∙
    (ap (λ (o : Option Station). option_or o (cond (bytes_eq s.name name) (Some s) None)) none ∙ ap
    (λ (b : Bool). cond b (Some s) None) same)

-- The first centre, with one more node.
first_centre : (known : List Station) (s : Station) → centre_name (known ++ s ∷ [])
    ≡ option_or (centre_name known) (cond (is_centre s.role) (Some s.name) None)
unfolding centre_name
first_centre known s = ap (option_map (λ (s : Station). s.name))
    (find-append (λ (s : Station). is_centre s.role) known (s ∷ [])) ∙ mapped
    (find (λ (s : Station). is_centre s.role) known) (is_centre s.role)
  where
    mapped : (o : Option Station) (b : Bool)
        → option_map (λ (s : Station). s.name) (option_or o (cond b (Some s) None))
        ≡ option_or (option_map (λ (s : Station). s.name) o) (cond b (Some s.name) None)
    mapped (Some x) b = refl
    mapped None true = refl
    mapped None false = refl

centre_other : (before : Option Bytes) (b : Bool) (name other : Bytes) → bytes_eq name other ≡ false
    → is_name (option_or before (cond b (Some name) None)) other ≡ is_name before other
centre_other (Some x) b name other differ = refl
centre_other None true name other differ = differ
centre_other None false name other differ = refl

other_centre : (known : List Station) (s : Station) (other : Bytes) → bytes_eq s.name other ≡ false
    → is_centres (known ++ s ∷ []) other ≡ is_centres known other
unfolding is_centres
other_centre known s other differ = ap (λ (o : Option Bytes). is_name o other) (first_centre known s) ∙ centre_other
    (centre_name known) (is_centre s.role) s.name other differ

centre_it : (before : Option Bytes) (b : Bool) (name : Bytes) → is_name before name ≡ false
    → is_name (option_or before (cond b (Some name) None)) name ≡ (b && not (is_some before))
centre_it (Some x) true name before = before
centre_it (Some x) false name before = before
centre_it None true name before = itself name
centre_it None false name before = refl

its_centre : (known : List Station) (s : Station) (name : Bytes) → s.name ≡ name → station_named known name ≡ None
    → is_centres (known ++ s ∷ []) name ≡ (is_centre s.role && not (is_some (centre_name known)))
unfolding is_centres
its_centre known s name is none =
    ap (λ (o : Option Bytes). is_name o name) (first_centre known s)
    ∙ subst (λ (n : Bytes). is_name (option_or (centre_name known) (cond (is_centre s.role) (Some n) None)) name
    ≡ (is_centre s.role && not (is_some (centre_name known)))) (sym is)
    (centre_it (centre_name known) (is_centre s.role) name (centre_known known name none))

told_other : (who : Who) (names : List Bytes) (known : List Station) (s : Station) (name : Bytes)
    → bytes_eq s.name name ≡ false → Tells who names known name → Tells who names (known ++ s ∷ []) name
unfolding eui_of
told_other who names known s name differ told =
    let same : station_named known name ≡ station_named (known ++ s ∷ []) name =
    sym (named_other known s name differ) in
    record {
      place = told.place;
      eui = told.eui ∙ ap (option_map (λ (s : Station). s.eui)) same;
      role = told.role ∙ ap (option_map (λ (s : Station). s.role)) same;
      out_block = told.out_block ∙ ap (option_map (λ (s : Station). s.out_block)) same;
      in_block = told.in_block ∙ ap (option_map (λ (s : Station). s.in_block)) same;
      centre = told.centre ∙ sym (other_centre known s name differ);
    }

entry_other : (o : Option Who) (names : List Bytes) (known : List Station) (s : Station) (name : Bytes)
    → bytes_eq s.name name ≡ false → IsEntry o names known name → IsEntry o names (known ++ s ∷ []) name
entry_other None names known s name differ entry = entry
entry_other (Some who) names known s name differ entry = told_other who names known s name differ entry

-- A name that was declared before is not that of a node that is declared now.
no_node : (o : Option Node) (known : Option Station) → option_map (λ (n : Node). n.eui.0) o
    ≡ option_map (λ (s : Station). s.eui) known → is_some o ≡ true → known ≡ None → ⊥
no_node None known e some none = cc some
no_node (Some n) None e some none = cc e
no_node (Some n) (Some s) e some none = cc none

known_other : (o : Option Known) (names : List Bytes) (known : List Station) (s : Station)
    → station_named known s.name ≡ None → IsKnown o names known → IsKnown o names (known ++ s ∷ [])
unfolding eui_of
known_other None names known s none told = tt
known_other (Some k) names known s none told = (
  told_other k.who names known s k.name.bytes
      (apart s.name k.name.bytes
      (λ same. no_node k.who.node (station_named known k.name.bytes) told.0.eui told.1
      (ap (station_named known) (sym same) ∙ none))) told.0,
  told.1,
)

told_it : (place : ℕ) (node : Node) (is : Bool) (names : List Bytes) (known : List Station) (s : Station)
    (name : Bytes) → IsStation s name node → place_in names name ≡ Some place
    → station_named known name ≡ None → is ≡ (is_centre (model_role node.role) && not (is_some (centre_name known)))
    → Tells (record { place = place; node = Some node; is_centre = is }) names (known ++ s ∷ []) name
unfolding eui_of
told_it place node is names known s name its there none centre =
    let it : station_named (known ++ s ∷ []) name ≡ Some s =
    named_it known s name none (ap (λ (n : Bytes). bytes_eq n name) its.name_is ∙ itself name) in
    record {
      place = there;
      eui = ap Some (sym its.eui_is) ∙ ap (option_map (λ (s : Station). s.eui)) (sym it);
      role = ap Some (sym its.role_is) ∙ ap (option_map (λ (s : Station). s.role)) (sym it);
      out_block = ap Some (sym its.out_is) ∙ ap (option_map (λ (s : Station). s.out_block)) (sym it);
      in_block = ap Some (sym its.in_is) ∙ ap (option_map (λ (s : Station). s.in_block)) (sym it);
      centre =
          centre ∙
          (ap (λ r. is_centre r && not (is_some (centre_name known))) (sym its.role_is) ∙ sym
          (its_centre known s name its.name_is none));
    }

has_one : (before : Option Bytes) (b : Bool) (name : Bytes) → (is_some before || (b && not (is_some before)))
    ≡ is_some (option_or before (cond b (Some name) None))
has_one (Some x) true name = refl
has_one (Some x) false name = refl
has_one None true name = refl
has_one None false name = refl

not_there : (d : Directory) (names : List Bytes) (known : List Station) (name : ArrayString) (place : ℕ)
    → Stands d names known → place_in names name.bytes ≡ Some place → get name_cmp d.names name ≡ None → ⊥
not_there d names known name place stands there none = let new : place_in names name.bytes ≡ None =
    is_new d names known name stands none in cc

same_count : (before : ℕ) (old : Option Who) (after : ℕ) → (old ≡ None → ⊥) → after
    ≡ before + (if is_some old then 0 else 1) → after ≡ before
same_count before None after is len = absurd (is refl)
same_count before (Some who) after is len = let it : after ≡ before + 0 = len in omega arith

pub stands_declared : (d : Directory) (entries : BTreeMap ArrayString Who) (old : Option Who) (has is : Bool)
    (name : ArrayString) (place : ℕ) (node : Node) (names : List Bytes) (known : List Station) (s : Station)
    → IsStation s name.bytes node → place_in names name.bytes ≡ Some place → station_named known name.bytes ≡ None
    → Stands d names known
    → is ≡ (is_centre (model_role node.role) && not d.has_centre) → has ≡ (d.has_centre || is)
    → old ≡ get name_cmp d.names name → btree_map_len entries ≡ btree_map_len d.names + (if is_some old then 0 else 1)
    → ((q : ArrayString) → get name_cmp entries q
    ≡ cond (is_at (name_cmp name) q) (Some (record { place = place; node = Some node; is_centre = is }))
    (get name_cmp d.names q))
    → Stands (record { names = entries; has_centre = has; looked_up = d.looked_up }) names (known ++ s ∷ [])
stands_declared d entries old has is name place node names known s its there none stands centre now before len
    updates =
    let who : Who = record { place = place; node = Some node; is_centre = is } in
    let first : is ≡ (is_centre (model_role node.role) && not (is_some (centre_name known))) =
    centre ∙ ap (λ (b : Bool). is_centre (model_role node.role) && not b) stands.centre in
    record {
      entries = λ q.
          written (get name_cmp d.names q) (get name_cmp entries q) (bytes_eq name.bytes q.bytes) who names
          (known ++ s ∷ []) q.bytes
          (updates q ∙ ap (λ (b : Bool). cond b (Some who) (get name_cmp d.names q)) (at_name name q))
          (λ same. subst (λ (n : Bytes). Tells who names (known ++ s ∷ []) n) (same_bytes name.bytes q.bytes same)
          (told_it place node is names known s name.bytes its there none first))
          (λ differ. entry_other (get name_cmp d.names q) names known s q.bytes
          (ap (λ (n : Bytes). bytes_eq n q.bytes) its.name_is ∙ differ) (stands.entries q));
      count = same_count (btree_map_len d.names) old (btree_map_len entries)
          (λ gone. not_there d names known name place stands there (sym before ∙ gone)) len ∙ stands.count;
      centre =
          now
          ∙ (ap (λ (b : Bool). d.has_centre || b) first
          ∙ (ap (λ (b : Bool). b || (is_centre (model_role node.role) && not (is_some (centre_name known))))
          stands.centre
          ∙ (has_one (centre_name known) (is_centre (model_role node.role)) s.name
          ∙ (ap (λ r. is_some (option_or (centre_name known) (cond (is_centre r) (Some s.name) None)))
          (sym its.role_is)
          ∙ ap is_some (sym (first_centre known s))))));
      silent = λ other new.
          named_other known s other
          (apart s.name other
          (λ same. let gone : place_in names name.bytes ≡ None = subst (λ (n : Bytes). place_in names n ≡ None)
          (sym same ∙ its.name_is) new in some_none place (sym there ∙ gone)))
          ∙ stands.silent other new;
      looked_up = All-weaker (λ (o : Option Known). IsKnown o names known)
          (λ (o : Option Known). IsKnown o names (known ++ s ∷ []))
          (λ o. known_other o names known s (ap (station_named known) its.name_is ∙ none)) d.looked_up.items
          stands.looked_up;
    }
  where
    some_none : (i : ℕ) → Some i ≡ None → ⊥
    some_none i e = cc

pub stays_declared : (d : Directory) (names : List Bytes) (known : List Station) (s : Station) (name : Bytes)
    (node : Node) (who : Who) → who.node ≡ Some node → Tells who names known name → s.name ≡ name
    → Stands d names known → Stands d names (with_station known s)
unfolding with_station eui_of
stays_declared d names known s name node who is tells named stands =
    subst (λ (k : List Station). Stands d names k)
    (sym (ap (or_added known s) (ap (station_named known) named) ∙ there (station_named known name)
    (ap (option_map (λ (n : Node). n.eui.0)) (sym is) ∙ tells.eui))) stands
  where
    there : (o : Option Station) → Some node.eui.0 ≡ option_map (λ (s : Station). s.eui) o → or_added known s o ≡ known
    there None e = cc
    there (Some other) e = refl

-- One more name, if it is new

pub on_ok : {T E : Type 0} (r : Result T E) (A B : Type 0) → (A → B) → OnOk r A → OnOk r B
on_ok (Ok x) A B f a = f a
on_ok (Err e) A B f a = tt

pub if_ok : {T E : Type 0} (r : Result T E) (A B : T → Type 0) → ((x : T) → A x → B x) → IfOk r A → IfOk r B
if_ok (Ok x) A B f a = f x a
if_ok (Err e) A B f a = tt

pub stands_with_new : (d new : Directory) (name : ArrayString) (names : List Bytes) (known : List Station)
    → get name_cmp d.names name ≡ None → Stands d names known → Stands new (names ++ name.bytes ∷ []) known
    → Stands new (with_name names name.bytes) known
stands_with_new d new name names known none stands after = subst (λ (n : List Bytes). Stands new n known)
    (sym (with_new names name.bytes (is_new d names known name stands none))) after

pub tells_with_new : (d : Directory) (place : ℕ) (name : ArrayString) (names : List Bytes) (known : List Station)
    → place ≡ btree_map_len d.names → get name_cmp d.names name ≡ None → Stands d names known
    → Tells (record { place = place; node = None; is_centre = false }) (with_name names name.bytes) known name.bytes
tells_with_new d place name names known last none stands =
    let new : place_in names name.bytes ≡ None = is_new d names known name stands none in
    subst (λ (n : List Bytes). Tells (record { place = place; node = None; is_centre = false }) n known name.bytes)
    (sym (with_new names name.bytes new))
    (tells_new d place names known name last stands new)

-- Names that were looked up may be kept.
pub stands_with_known : (d : Directory) (looked_up : Vec (Option Known) Global) (names : List Bytes)
    (known : List Station) → AreKnown looked_up.items names known → Stands d names known
    → Stands (record d { looked_up = looked_up }) names known
stands_with_known d looked_up names known are stands = record {
  entries = stands.entries;
  count = stands.count;
  centre = stands.centre;
  silent = stands.silent;
  looked_up = are;
}

-- The node is the one that the directory gives.
told_known : (k : Known) (name : ArrayString) (who : Who) (names : List Bytes) (known : List Station)
    → Tells k.who names known k.name.bytes
    → (if bytes_eq k.name.bytes name.bytes then Some k.who else None) ≡ Some who
    → Tells who names known name.bytes
told_known k name who names known told found = by (bytes_eq k.name.bytes name.bytes) refl found
  where
    one_who : (a b : Who) → Some a ≡ Some b → a ≡ b
    one_who a b e = cc e

    by : (b : Bool) → bytes_eq k.name.bytes name.bytes ≡ b → (if b then Some k.who else None) ≡ Some who
        → Tells who names known name.bytes
    by true same it = subst (λ (n : Bytes). Tells who names known n) (same_bytes k.name.bytes name.bytes same)
        (subst (λ (w : Who). Tells w names known k.name.bytes) (one_who k.who who it) told)
    by false same it = cc it

pub told_found : (d : Directory) (name : ArrayString) (r : Option Who) (k : Known)
    → ((names : List Bytes) (known : List Station) → AreKnown d.looked_up.items names known
    → IsKnown (Some k) names known)
    → r ≡ (if bytes_eq k.name.bytes name.bytes then Some k.who else None)
    → IfSome r (λ who. (names : List Bytes) (known : List Station) → Stands d names known
    → Tells who names known name.bytes)
told_found d name None k there e = tt
told_found d name (Some who) k there e =
    λ names known stands. told_known k name who names known (there names known stands.looked_up).0 (sym e)

pub stands_with_told : (d : Directory) (name : Bytes) (who : Who) (names : List Bytes) (known : List Station)
    → Tells who names known name → Stands d names known → Stands d (with_name names name) known
stands_with_told d name who names known told stands = subst (λ (n : List Bytes). Stands d n known)
    (sym (with_old names name who.place told.place)) stands

pub tells_with_told : (name : Bytes) (who : Who) (names : List Bytes) (known : List Station)
    → Tells who names known name → Tells who (with_name names name) known name
tells_with_told name who names known told = subst (λ (n : List Bytes). Tells who n known name)
    (sym (with_old names name who.place told.place)) told

pub stands_with_old : (d : Directory) (name : ArrayString) (who : Who) (names : List Bytes) (known : List Station)
    → get name_cmp d.names name ≡ Some who → Stands d names known
    → Stands d (with_name names name.bytes) known
stands_with_old d name who names known is stands =
    subst (λ (n : List Bytes). Stands d n known)
    (sym (with_old names name.bytes who.place (told_there d names known name who stands is).place)) stands

pub tells_with_old : (d : Directory) (name : ArrayString) (who : Who) (names : List Bytes) (known : List Station)
    → get name_cmp d.names name ≡ Some who → Stands d names known
    → Tells who (with_name names name.bytes) known name.bytes
tells_with_old d name who names known is stands =
    let told : Tells who names known name.bytes = told_there d names known name who stands is in
    subst (λ (n : List Bytes). Tells who n known name.bytes) (sym (with_old names name.bytes who.place told.place))
    told

-- One more line

pub with_undeclared : (known : List Station) (s : Station) → station_named known s.name ≡ None → with_station known s
    ≡ known ++ s ∷ []
unfolding with_station
with_undeclared known s none = ap (or_added known s) none

-- A line that declares nothing.
pub quiet : (l : Line)
    → ((name : ArrayString) (r : Role) (eui : Eui) (short : Short) (out_block : ℕ) (in_block : ℕ) → l
    ≡ line.Node name r eui short out_block in_block → ⊥)
    → (known : List Station) → declares known l ≡ known
unfolding declares
quiet (line.Node name r eui short out_block in_block) no_node known =
    absurd (no_node name r eui short out_block in_block refl)
quiet (line.GivenNet x0 x1 x2) no_node known = refl
quiet (line.GivenLink x0 x1 x2) no_node known = refl
quiet (line.Counter x0 x1 x2) no_node known = refl
quiet (line.Reserve x0 x1 x2 x3) no_node known = refl
quiet (line.Floor x0 x1 x2 x3 x4 x5) no_node known = refl
quiet (line.Draw x0 x1) no_node known = refl
quiet (line.DropNet x0 x1 x2) no_node known = refl
quiet (line.DropLink x0 x1 x2 x3) no_node known = refl
quiet (line.Install x0 x1 x2 x3) no_node known = refl
quiet (line.Active x0 x1 x2) no_node known = refl
quiet (line.Start x0 x1 x2 x3) no_node known = refl
quiet (line.Row x0 x1 x2 x3 x4) no_node known = refl
quiet (line.Pair x0 x1 x2 x3 x4) no_node known = refl
quiet (line.State x0 x1 x2) no_node known = refl
quiet (line.Live x0 x1) no_node known = refl
quiet (line.Removed x0 x1) no_node known = refl
quiet (line.Roll x0 x1 x2) no_node known = refl
quiet (line.Told x0 x1) no_node known = refl
quiet (line.Untold x0 x1) no_node known = refl
quiet (line.Commit x0 x1) no_node known = refl
quiet (line.Accept x0 x1 x2) no_node known = refl
quiet (line.Refuse x0 x1 x2) no_node known = refl
quiet (line.Seal x0 x1 x2) no_node known = refl
quiet (line.Forge x0 x1) no_node known = refl
quiet (line.Send x0 x1 x2 x3) no_node known = refl
quiet (line.Inject x0 x1 x2) no_node known = refl
quiet (line.Stopped x0 x1) no_node known = refl
quiet (line.DownReset x0 x1) no_node known = refl
quiet (line.DownDisk x0 x1) no_node known = refl
quiet (line.Boot x0 x1) no_node known = refl
quiet (line.Dump x0 x1 x2) no_node known = refl
quiet (line.End x0 x1 x2 x3 x4 x5) no_node known = refl

pub names_more : (h : List Line) (l : Line) → names_in (h ++ l ∷ []) ≡ named_by (names_in h) l
unfolding names_in
names_more h l = fold-append named_by [] h (l ∷ [])

pub declared_more : (h : List Line) (l : Line) → declared_in (h ++ l ∷ []) ≡ declares (declared_in h) l
unfolding declared_in
declared_more h l = fold-append declares [] h (l ∷ [])

-- The result of `||`.
pub by_left : (a b : Bool) → a ≡ true → a ≡ (a || b)
by_left true b e = refl
by_left false b e = cc

pub by_right : (a b : Bool) → a ≡ false → b ≡ (a || b)
by_right false b e = refl
by_right true b e = cc
