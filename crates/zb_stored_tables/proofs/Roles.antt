-- The role of a record that is read is its second byte.
use Rattle.zb_model.specs.Data as model
use Rattle.std.proofs.Common.{◌≡◌, ℕ, Bool, true, false, not, ◌&&◌, if◌then◌else◌, List, [], ◌∷◌, length, get_or, Option, Some, None, Result, Ok, Err, is_some, refl, sym, ap, ◌∙◌, subst}
use Rattle.std.specs.Prelude.{◌==◌}
use Rattle.std.specs.Int.{w16, w32}
use Rattle.std.proofs.lemmas.Bool.{eqb-true, eq-eqb}
use Rattle.zb_base.specs.declared.node.Role.{Role}
use Rattle.zb_base.specs.declared.node.Role.TheVariants as role
use Rattle.zb_node_types.specs.Changes.{model_role}
use Rattle.zb_cursor.specs.Reading.{follow, byte_at, number_at}
use Rattle.zb_model.specs.Data.{Centre, Router, Device}
use Rattle.zb_model.specs.Record.{role_byte}
use Rattle.zb_model.specs.State.{NodeState}
use Rattle.zb_record.specs.declared.version.Version.{Version}
use Rattle.zb_record.specs.declared.record.Node.{Node}
use Rattle.zb_record.specs.declared.record.Head.{Head}
use Rattle.zb_record.specs.Fields.{chosen, role_of, version_of, record_version, version_at, role_at, state_at, rollover_at}
use Rattle.zb_record.specs.Placed.{field, whole}
use Rattle.zb_record.specs.Rows.{links_at, pairs_at}
use Rattle.zb_record.specs.Records.{may_enter, may_roll, node_at, head_at, has_net_room, is_place, nets_at, state_from, record_at, record_read, ended}
use Rattle.zb_record.proofs.Sound.{both_read}
use Rattle.zb_stored_tables.specs.Stored.{is_of_other}
use Rattle.zb_stored_tables.proofs.Widths.{found, given}

-- a byte that represents a value
record Picked {A : Type 0} (pick : ℕ → Option A) (bytes rest : List ℕ) (x : A) : Type 0 where
  byte : ℕ
  parts : bytes ≡ byte ∷ rest
  stands : pick byte ≡ Some x

picked : {A : Type 0} (pick : ℕ → Option A) (cut : ℕ) (bytes rest : List ℕ) (x : A)
    → follow (byte_at cut bytes) (λ b left. chosen (pick b) cut left) ≡ found x rest → Picked pick bytes rest x
picked pick cut [] rest x e = absurd (cc)
picked {A = A} pick cut (b ∷ bytes) rest x e = by_value (pick b) refl e
  where
    by_value : (o : Option A) → pick b ≡ o → chosen o cut bytes ≡ found x rest → Picked pick (b ∷ bytes) rest x
    by_value None is e = absurd (cc)
    by_value (Some y) is e = let g =
        given y x bytes rest e in
        record { byte = b; parts = ap (λ l. b ∷ l) g.left; stands = is ∙ ap (λ z. Some z) g.value }

version_picked : (bytes rest : List ℕ) (v : Version) → whole version_at bytes ≡ found v rest
    → Picked version_of bytes rest v
unfolding version_at
version_picked bytes rest v e = picked version_of (length bytes) bytes rest v e

role_picked : (bytes rest : List ℕ) (r : Role) → whole role_at bytes ≡ found r rest → Picked role_of bytes rest r
unfolding role_at
role_picked bytes rest r e = picked role_of (length bytes) bytes rest r e

-- the first two bytes of a record
record Begins (bytes : List ℕ) (r : Role) : Type 0 where
  first : ℕ
  second : ℕ
  others : List ℕ
  parts : bytes ≡ first ∷ second ∷ others
  versioned : is_some (version_of first) ≡ true
  role_is : role_of second ≡ Some r

node_begins : (bytes rest : List ℕ) (node : Node) → node_at bytes ≡ found node rest → Begins bytes node.role
unfolding node_at
node_begins bytes rest node e =
    let a = both_read (whole version_at) _ bytes rest node e in
    let b = both_read (whole role_at) _ a.between rest node a.two in
    let c = both_read (field state_at (may_enter b.value)) _ b.between rest node b.two in
    let g = given _ node c.between rest c.two in
    let one = version_picked bytes a.between a.value a.one in
    let two = role_picked a.between b.between b.value b.one in
    record {
      first = one.byte;
      second = two.byte;
      others = b.between;
      parts = one.parts ∙ ap (λ l. one.byte ∷ l) two.parts;
      versioned = ap (λ (o : Option Version). is_some o) one.stands;
      role_is = two.stands ∙ ap (λ (n : Node). Some n.role) g.value;
    }

head_node : (node : Node) (bytes rest : List ℕ) (h : Head) → head_at node bytes ≡ found h rest → h.node ≡ node
unfolding head_at
head_node node bytes rest h e =
    let a = both_read (whole (number_at w32)) _ bytes rest h e in
    let b = both_read (whole (number_at w32)) _ a.between rest h a.two in
    let c = both_read (field rollover_at (may_roll node.role)) _ b.between rest h b.two in
    let d = both_read (field (number_at w16) has_net_room) _ c.between rest h c.two in
    let f = both_read (field (number_at w16) (is_place d.value)) _ d.between rest h d.two in
    let g = given _ h f.between rest f.two in
    ap (λ (x : Head). x.node) (sym g.value)

record RoleRead (bytes : List ℕ) (s : NodeState) : Type 0 where
  read_role : Role
  begins : Begins bytes read_role
  role_is : s.role ≡ model_role read_role

record_role : (bytes rest : List ℕ) (s : NodeState) → record_at bytes ≡ found s rest → RoleRead bytes s
unfolding record_at
record_role bytes rest s e =
    let a = both_read node_at _ bytes rest s e in
    let b = both_read (head_at a.value) _ a.between rest s a.two in
    let c = both_read (nets_at b.value) _ b.between rest s b.two in
    let d = both_read (links_at (model_role a.value.role)) _ c.between rest s c.two in
    let f = both_read (pairs_at a.value.version (model_role a.value.role)) _ d.between rest s d.two in
    let g = given (state_from b.value c.value d.value f.value) s f.between rest f.two in
    record {
      read_role = a.value.role;
      begins = node_begins bytes a.between a.value a.one;
      role_is = ap (λ (x : NodeState). x.role) (sym g.value) ∙ ap (λ (n : Node). model_role n.role)
          (head_node a.value a.between b.between b.value b.one);
    }

read_begins : (bytes : List ℕ) (s : NodeState) → record_read bytes ≡ Ok s → RoleRead bytes s
unfolding record_read
read_begins bytes s e = by_result (record_at bytes) refl e
  where
    answered : NodeState → Result NodeState ℕ
    answered t = Ok t

    by_end : (x : NodeState × List ℕ) (b : Bool) → record_at bytes ≡ found x.0 x.1
        → (if b then answered x.0 else Err (length x.1)) ≡ answered s → RoleRead bytes s
    by_end x true is e = let same : x.0 ≡ s = cc in subst (RoleRead bytes) same (record_role bytes x.1 x.0 is)
    by_end x false is e = absurd (cc)

    by_result : (r : Result (NodeState × List ℕ) ℕ) → record_at bytes ≡ r → ended r ≡ answered s → RoleRead bytes s
    by_result (Ok x) is e = by_end x (length x.1 == 0) is e
    by_result (Err left) is e = absurd (cc)

-- the byte of a role that is read
byte_of_role : (b : ℕ) (r : Role) → role_of b ≡ Some r → b ≡ role_byte (model_role r)
byte_of_role b r e = by_tests (b == 0) (b == 1) (b == 2) refl refl refl e
  where
    is_role : (x : Role) → Some x ≡ Some r → x ≡ r
    is_role x e = cc

    by_tests : (zero_ one two : Bool) → (b == 0) ≡ zero_ → (b == 1) ≡ one → (b == 2) ≡ two
        → (if zero_ then Some role.Centre else if one then Some role.Router else if two then Some role.Device
        else None) ≡ Some r → b ≡ role_byte (model_role r)
    by_tests true one two z o t e = eqb-true b 0 z ∙ ap (λ (x : Role). role_byte (model_role x))
        (is_role role.Centre e)
    by_tests false true two z o t e = eqb-true b 1 o ∙ ap (λ (x : Role). role_byte (model_role x))
        (is_role role.Router e)
    by_tests false false true z o t e = eqb-true b 2 t ∙ ap (λ (x : Role). role_byte (model_role x))
        (is_role role.Device e)
    by_tests false false false z o t e = absurd (cc)

second_byte : (bytes : List ℕ) (s : NodeState) → RoleRead bytes s → get_or bytes 1 3 ≡ role_byte s.role
second_byte bytes s read =
    ap (λ (l : List ℕ). get_or l 1 3) read.begins.parts ∙ byte_of_role read.begins.second read.read_role
    read.begins.role_is ∙ ap role_byte (sym read.role_is)

role_of_byte : (a b : model.Role) → role_byte a ≡ role_byte b → a ≡ b
role_of_byte Centre Centre e = refl
role_of_byte Router Router e = refl
role_of_byte Device Device e = refl
role_of_byte Centre Router e = absurd (cc)
role_of_byte Centre Device e = absurd (cc)
role_of_byte Router Centre e = absurd (cc)
role_of_byte Router Device e = absurd (cc)
role_of_byte Device Centre e = absurd (cc)
role_of_byte Device Router e = absurd (cc)

-- What is read of a record that isn't of another role is of this one, and the other way round.
pub read_of_role : (role : model.Role) (bytes : List ℕ) (s : NodeState) → record_read bytes ≡ Ok s
    → is_of_other role bytes ≡ false → s.role ≡ role
read_of_role role bytes s e other =
    let read = read_begins bytes s e in
    let versioned : is_some (record_version bytes) ≡ true = ap (λ (l : List ℕ). is_some (record_version l))
    read.begins.parts ∙ read.begins.versioned in
    role_of_byte s.role role
    (sym (second_byte bytes s read) ∙ eqb-true _ _
    (by_tests (is_some (record_version bytes)) (get_or bytes 1 3 == role_byte role) versioned other))
  where
    by_tests : (a b : Bool) → a ≡ true → (a && not b) ≡ false → b ≡ true
    by_tests true true p q = refl
    by_tests true false p q = absurd (cc)
    by_tests false b p q = absurd (cc)

pub of_this_role : (role : model.Role) (bytes : List ℕ) (s : NodeState) → record_read bytes ≡ Ok s → s.role ≡ role
    → is_of_other role bytes ≡ false
of_this_role role bytes s e role_is =
    let same = second_byte bytes s (read_begins bytes s e) ∙ ap role_byte role_is in
    rw (eq-eqb (get_or bytes 1 3) (role_byte role) same) (no_test (is_some (record_version bytes)))
  where
    no_test : (a : Bool) → (a && false) ≡ false
    no_test true = refl
    no_test false = refl
