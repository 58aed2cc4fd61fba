-- A record of version 1 and the entries after it: all network rows have one limit.
use Rattle.std.proofs.Common.{◌≡◌, ℕ, zero, suc, ◌≤◌, Bool, true, false, if◌then◌else◌, List, [], ◌∷◌, ◌++◌, length, map, Option, Some, None, Result, Ok, Err, refl, sym, ap, ◌∙◌, subst, arith, ◌==◌}
use Rattle.std.specs.List.{AllByRecursion}
use Rattle.std.proofs.lemmas.Bool.{leb-true}
use Rattle.zb_node_types.specs.declared.change.Change.{Change}
use Rattle.zb_node_types.specs.Changes.{edit}
use Rattle.zb_model.specs.Data.{Bytes, Draw, DropNet, DropLink, Install, Active, Row, Pair, Became, Live, Removed, Roll, Told, Untold, Edit, Reserve, Floor, Start, Moved, Move, Nwk, Aps}
use Rattle.zb_model.specs.State.{NodeState, NetKey, same_key, at_net, has_net, net_floor, dropped_net, given_net, applied, shown, shown_net}
use Rattle.zb_record.specs.declared.version.Version.{Version}
use Rattle.zb_record.specs.declared.version.Version.TheVariants.{First}
use Rattle.zb_record.specs.Changes.{change_at}
use Rattle.std.specs.Int.{w16, w32}
use Rattle.zb_cursor.specs.Spelling.{bit}
use Rattle.zb_cursor.specs.Reading.{byte_at, key_at, number_at}
use Rattle.zb_record.specs.declared.record.Node.{Node}
use Rattle.zb_record.specs.declared.record.Head.{Head}
use Rattle.zb_record.specs.Fields.{chosen, version_of, record_version, version_at, role_at, state_at, rollover_at}
use Rattle.zb_record.specs.Placed.{◌>>=◌, give, field, whole, rows_at}
use Rattle.zb_record.specs.Rows.{net_at, net_flags_fit, is_new_net, floors_at, live_floors_at, all_floors_at, links_at, pairs_at}
use Rattle.zb_record.specs.Records.{may_enter, may_roll, has_net_room, is_place, node_at, head_at, nets_at, state_from, record_at, record_read, ended}
use Rattle.zb_record.proofs.Sound.{both_read, rows_keep, given}
use Rattle.zb_node_types.specs.Changes.{model_role}
use Rattle.zb_record.specs.Redoing.{Redone, onward, change_made, limited, first_applied, first_fits, fits_behind, applied_behind, change_redone, changes_redone, payloads_redone, redone, GoesOn, HasOneLimit}

-- ---- what each change preserves, all of them preserve

module _ (v : Version) (P : NodeState → Type 0)
    (each : (e : Edit) (s : NodeState) → P s → fits_behind v e s ≡ true → P (shown (applied_behind v e s))) where
  change_keeps : (bytes : List ℕ) (s : NodeState) → P s → P (change_redone v bytes s).0
  unfolding change_redone
  change_keeps bytes s p = by_read (change_at (length bytes) bytes)
    where
      by_fit : (b : Bool) (x : Change × List ℕ) → fits_behind v (edit x.0) s ≡ b
          → P (if◌then◌else◌ {A = Redone} b (shown (applied_behind v (edit x.0) s), Ok x.1) (s, Err (length bytes))).0
      by_fit true x fit = each (edit x.0) s p fit
      by_fit false x fit = p

      by_read : (r : Result (Change × List ℕ) ℕ) → P (change_made v s (length bytes) r).0
      by_read (Ok x) = by_fit (fits_behind v (edit x.0) s) x refl
      by_read (Err f) = p

  changes_keep : (n : ℕ) (bytes : List ℕ) (s : NodeState) → P s → P (changes_redone v n bytes s).0
  unfolding changes_redone
  changes_keep zero bytes s p = p
  changes_keep (suc n) bytes s p = go (change_redone v bytes s).0 (change_redone v bytes s).1 (change_keeps bytes s p)
      (λ rest t q. changes_keep n rest t q)
    where
      go : (t : NodeState) (r : Result (List ℕ) ℕ) → P t
          → ((rest : List ℕ) (u : NodeState) → P u → P (changes_redone v n rest u).0)
          → P (onward t r (changes_redone v n)).0
      go t (Ok rest) q later = later rest t q
      go t (Err f) q later = q

  payloads_keep : (n : ℕ) (bytes : List ℕ) (s : NodeState) → P s → P (payloads_redone v n bytes s).0
  unfolding payloads_redone
  payloads_keep zero bytes s p = p
  payloads_keep (suc n) [] s p = p
  payloads_keep (suc n) (count ∷ bytes) s p = go (changes_redone v count bytes s).0 (changes_redone v count bytes s).1
      (changes_keep count bytes s p) (λ rest t q. payloads_keep n rest t q)
    where
      go : (t : NodeState) (r : Result (List ℕ) ℕ) → P t
          → ((rest : List ℕ) (u : NodeState) → P u → P (payloads_redone v n rest u).0)
          → P (onward t r (payloads_redone v n)).0
      go t (Ok rest) q later = later rest t q
      go t (Err f) q later = q

  pub redone_keeps : (q : List ℕ) (s : NodeState) → P s → P (redone v q s).0
  unfolding redone
  redone_keeps q s p = payloads_keep (length q) q s p

-- ---- one limit

each_row : (limit next : ℕ) (g : NetKey → NetKey) → ((r : NetKey) → GoesOn limit r → GoesOn next (g r))
    → (nets : List NetKey) → AllByRecursion (GoesOn limit) nets → AllByRecursion (GoesOn next) (map g nets)
each_row limit next g keeps [] all = tt
each_row limit next g keeps (r ∷ rs) all = (keeps r all.0, each_row limit next g keeps rs all.1)

at_row : (limit : ℕ) (key : Bytes) (f : NetKey → NetKey) → ((r : NetKey) → GoesOn limit r → GoesOn limit (f r))
    → (nets : List NetKey) → AllByRecursion (GoesOn limit) nets → AllByRecursion (GoesOn limit) (at_net key f nets)
at_row limit key f keeps nets all = each_row limit limit (λ (r : NetKey). if same_key r.key key then f r
    else r) (λ r g. at_test (same_key r.key key) r g) nets all
  where
    at_test : (b : Bool) (r : NetKey) → GoesOn limit r → GoesOn limit (if b then f r else r)
    at_test true r g = keeps r g
    at_test false r g = g

one_more : (limit : ℕ) (nets : List NetKey) (r : NetKey) → AllByRecursion (GoesOn limit) nets → GoesOn limit r
    → AllByRecursion (GoesOn limit) (nets ++ r ∷ [])
one_more limit [] r all g = (g, tt)
one_more limit (x ∷ nets) r all g = (all.0, one_more limit nets r all.1 g)

raised : (limit n : ℕ) (r : NetKey) → n ≤ limit → GoesOn n r → GoesOn limit (limited limit r)
raised limit n r le g =
    let l : r.limit ≤ limit = omega (arith, g.1, le) in
    let m : r.next ≤ limit = omega (arith, g.2, le) in
    (refl, omega (arith, l), omega (arith, m))

-- a change of version 1
moved_one : (m : Move) (s : NodeState) → HasOneLimit s → first_fits (Moved m) s ≡ true
    → HasOneLimit (first_applied (Moved m) s)
unfolding first_fits first_applied applied
moved_one (Draw key) s one fit = one
moved_one (DropNet key) s one fit = at_row s.declared key dropped_net (λ r g. g) s.nets one
moved_one (DropLink partner key) s one fit = one
moved_one (Install key sequence) s one fit = by_test (has_net key s.nets)
  where
    by_test : (b : Bool) → AllByRecursion (GoesOn s.declared) (if b then s.nets
        else s.nets ++ given_net s.declared key sequence ∷ [])
    by_test true = one
    by_test false = one_more s.declared s.nets (given_net s.declared key sequence) one (refl, refl, refl)
moved_one (Active key) s one fit = one
moved_one (Row partner key attribute) s one fit = one
moved_one (Pair first second key) s one fit = absurd (cc)
moved_one (Became model_state) s one fit = one
moved_one (Live device) s one fit = one
moved_one (Removed device) s one fit = one
moved_one (Roll sending) s one fit = one
moved_one (Told device) s one fit = one
moved_one (Untold device) s one fit = one

change_one : (e : Edit) (s : NodeState) → HasOneLimit s → first_fits e s ≡ true → HasOneLimit (first_applied e s)
unfolding first_fits first_applied applied
change_one (Reserve Nwk limit) s one fit = each_row s.declared limit (limited limit)
    (λ r g. raised limit s.declared r (leb-true s.declared limit fit) g) s.nets one
change_one (Reserve Aps limit) s one fit = one
change_one (Floor Nwk key sender value) s one fit = at_row s.declared key (net_floor sender value) (λ r g. g) s.nets
    one
change_one (Floor Aps key sender value) s one fit = one
change_one (Start key value) s one fit = absurd (cc)
change_one (Moved m) s one fit = moved_one m s one fit

behind_one : (e : Edit) (s : NodeState) → HasOneLimit s → fits_behind First e s ≡ true
    → HasOneLimit (shown (applied_behind First e s))
unfolding fits_behind applied_behind shown
behind_one e s one fit = each_row (first_applied e s).declared (first_applied e s).declared shown_net (λ r g. g)
    (first_applied e s).nets (change_one e s one fit)

pub one_limit_kept : (q : List ℕ) (s : NodeState) → HasOneLimit s → HasOneLimit (redone First q s).0
one_limit_kept q s one = redone_keeps First HasOneLimit behind_one q s one

-- ---- what is read

abbrev found : {A : Type 0} → A → List ℕ → Result (A × List ℕ) ℕ
found x rest = Ok (x, rest)

version_read : (bytes rest : List ℕ) (v : Version) → whole version_at bytes ≡ found v rest → record_version bytes
    ≡ Some v
unfolding version_at
version_read [] rest v e = absurd (cc)
version_read (b ∷ bytes) rest v e = by_value (version_of b) refl e
  where
    by_value : (o : Option Version) → version_of b ≡ o → chosen o (suc (length bytes)) bytes ≡ found v rest
        → version_of b ≡ Some v
    by_value None is e = absurd (cc)
    by_value (Some w) is e = is ∙ ap Some (given w v bytes rest e)

net_one : (declared active : ℕ) (done : List NetKey) (bytes rest : List ℕ) (x : NetKey)
    → net_at First declared active done bytes ≡ found x rest → GoesOn declared x
unfolding net_at
net_one declared active done bytes rest x e =
    let a = both_read (field key_at (is_new_net done)) _ bytes rest x e in
    let b = both_read (whole byte_at) _ a.between rest x a.two in
    let c = both_read (field byte_at (net_flags_fit First active done)) _ b.between rest x b.two in
    let row : NetKey =
    record {
      key = a.value.0;
      sequence = b.value;
      live = bit c.value 0;
      started = true;
      limit = declared;
      next = declared;
      floors = [];
    } in
    subst (GoesOn declared) (given row x c.between rest c.two) (refl, refl, refl)

live_one : (limit : ℕ) (r : NetKey) (bytes rest : List ℕ) (x : NetKey) → GoesOn limit r → live_floors_at r bytes
    ≡ found x rest → GoesOn limit x
live_one limit r bytes rest x g e = by_live r.live e
  where
    by_live : (b : Bool) → (if b then (floors_at >>= (λ floors. give (record r { floors = floors }))) bytes
        else Ok (r, bytes)) ≡ found x rest → GoesOn limit x
    by_live true e =
        let a = both_read floors_at (λ floors. give (record r { floors = floors })) bytes rest x e in
        subst (GoesOn limit) (given (record r { floors = a.value }) x a.between rest a.two) g
    by_live false e = subst (GoesOn limit) (given r x bytes rest e) g

all_one : (limit : ℕ) (rs done : List NetKey) (bytes rest : List ℕ) (rows : List NetKey)
    → AllByRecursion (GoesOn limit) rs → AllByRecursion (GoesOn limit) done → all_floors_at done rs bytes
    ≡ found rows rest → AllByRecursion (GoesOn limit) rows
unfolding all_floors_at
all_one limit [] done bytes rest rows rest_all all e =
    subst (AllByRecursion (GoesOn limit)) (given done rows bytes rest e) all
all_one limit (r ∷ rs) done bytes rest rows rest_all all e =
    let a = both_read (live_floors_at r) (λ row. all_floors_at (done ++ row ∷ []) rs) bytes rest rows e in
    all_one limit rs (done ++ a.value ∷ []) a.between rest rows rest_all.1
    (one_more limit done a.value all (live_one limit r bytes a.between a.value rest_all.0 a.one)) a.two

nets_one : (h : Head) (bytes rest : List ℕ) (rows : List NetKey) → h.node.version ≡ First → nets_at h bytes
    ≡ found rows rest → AllByRecursion (GoesOn h.declared) rows
unfolding nets_at
nets_one h bytes rest rows first e =
    let step = net_at h.node.version h.declared h.active in
    let a = both_read (rows_at step h.nets []) (λ l. all_floors_at [] l) bytes rest rows e in
    let each : (done : List NetKey) (bytes rest : List ℕ) (x : NetKey) → AllByRecursion (GoesOn h.declared) done
    → step done bytes ≡ found x rest → AllByRecursion (GoesOn h.declared) (done ++ x ∷ []) =
    λ done bytes rest x all is. one_more h.declared done x all
    (net_one h.declared h.active done bytes rest x
    (ap (λ (v : Version). net_at v h.declared h.active done bytes) (sym first) ∙ is)) in
    let rows_one = rows_keep step (AllByRecursion (GoesOn h.declared)) each h.nets [] bytes a.between a.value tt a.one
    in
    all_one h.declared a.value [] a.between rest rows rows_one tt a.two

some_is : (v w : Version) → Some v ≡ Some w → v ≡ w
some_is v w e = cc

record_one : (bytes rest : List ℕ) (s : NodeState) → record_version bytes ≡ Some First → record_at bytes
    ≡ found s rest → HasOneLimit s
unfolding record_at node_at head_at
record_one bytes rest s first e =
    let a = both_read node_at _ bytes rest s e in
    let b = both_read (head_at a.value) _ a.between rest s a.two in
    let c = both_read (nets_at b.value) _ b.between rest s b.two in
    let d = both_read (links_at (model_role a.value.role)) _ c.between rest s c.two in
    let f = both_read (pairs_at a.value.version (model_role a.value.role)) _ d.between rest s d.two in
    let is : state_from b.value c.value d.value f.value ≡ s = given _ s f.between rest f.two in
    let n1 = both_read (whole version_at) _ bytes a.between a.value a.one in
    let n2 = both_read (whole role_at) _ n1.between a.between a.value n1.two in
    let n3 = both_read (field state_at (may_enter n2.value)) _ n2.between a.between a.value n2.two in
    let node : record { version = n1.value; role = n2.value; state = n3.value } ≡ a.value =
    given _ a.value n3.between a.between n3.two in
    let h1 = both_read (whole (number_at w32)) _ a.between b.between b.value b.one in
    let h2 = both_read (whole (number_at w32)) _ h1.between b.between b.value h1.two in
    let h3 = both_read (field rollover_at (may_roll a.value.role)) _ h2.between b.between b.value h2.two in
    let h4 = both_read (field (number_at w16) has_net_room) _ h3.between b.between b.value h3.two in
    let h5 = both_read (field (number_at w16) (is_place h4.value)) _ h4.between b.between b.value h4.two in
    let head :
    record {
      node = a.value;
      declared = h1.value;
      aps_limit = h2.value;
      rolling = h3.value;
      nets = h4.value;
      active = h5.value;
    } ≡ b.value = given _ b.value h5.between b.between h5.two in
    let same_node : a.value ≡ b.value.node = ap (λ (x : Head). x.node) head in
    let version : n1.value ≡ First =
    some_is n1.value First (sym (version_read bytes n1.between n1.value n1.one) ∙ first) in
    let is_first : b.value.node.version ≡ First = ap (λ (x : Node). x.version) (sym same_node) ∙ ap
    (λ (x : Node). x.version) (sym node) ∙ version in
    subst HasOneLimit is (nets_one b.value b.between c.between c.value is_first c.one)

pub read_one : (bytes : List ℕ) (s : NodeState) → record_version bytes ≡ Some First → record_read bytes ≡ Ok s
    → HasOneLimit s
unfolding record_read
read_one bytes s first e = by_result (record_at bytes) refl e
  where
    answered : NodeState → Result NodeState ℕ
    answered t = Ok t

    by_end : (x : NodeState × List ℕ) (b : Bool) → record_at bytes ≡ found x.0 x.1
        → (if b then answered x.0 else Err (length x.1)) ≡ answered s → HasOneLimit s
    by_end x true is e = let same : x.0 ≡ s = cc in subst HasOneLimit same (record_one bytes x.1 x.0 first is)
    by_end x false is e = absurd (cc)

    by_result : (r : Result (NodeState × List ℕ) ℕ) → record_at bytes ≡ r → ended r ≡ answered s → HasOneLimit s
    by_result (Ok x) is e = by_end x (length x.1 == 0) is e
    by_result (Err left) is e = absurd (cc)
