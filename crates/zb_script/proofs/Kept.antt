-- What every script keeps is kept by each line.
use Rattle.std.proofs.Common.{◌≡◌, ◌≢◌, ℕ, ◌+◌, ◌<◌, ◌||◌, ◌==◌, not, List, [], ◌∷◌, ◌++◌, length, map, true, false, cond, refl, sym, ap, ap₂, subst, ◌∙◌, arith}
use Rattle.std.proofs.lemmas.Bool.{false≢true, and_parts, or_parts, eqb-false, leb-true}
use Rattle.std.proofs.lemmas.List.{length-map, map_push}
use Rattle.std.proofs.lemmas.List.Sums.{sum_by-cons}
use Rattle.std.proofs.lemmas.Slice.Eq.{bytes_eq-Decides}
use Rattle.std.specs.Prelude.{bytes_eq, count_by, nat_le, slice_get}
use Rattle.std.specs.List.{AllByRecursion, list_any}
use Rattle.zb_base.specs.Config.{ApartBy, is_centre}
use Rattle.zb_base.specs.declared.node.Config.{Config}
use Rattle.zb_base.specs.declared.node.Peer.{Peer}
use Rattle.zb_base.specs.declared.node.Role.{Role}
use Rattle.zb_base.specs.declared.node.Role.TheVariants.{Centre, Router, Device}
use Rattle.zb_model.specs.Data as model
use Rattle.zb_setting.specs.Settings.{own, setting_for}
use Rattle.zb_node_types.specs.Changes.{model_role}
use Rattle.zb_stored_tables.specs.Cores.{IsOfRole}
use Rattle.zb_script.specs.Grammar.{is_joiner}
use Rattle.zb_script.specs.Judge.{has_centre, is_taken}
use Rattle.zb_script.specs.Said.{Bytes}
use Rattle.zb_script.specs.Scripts.{Station, Script, IsScript}
use Rattle.zb_script.specs.SoFar.{AreLed, IsSoFar}
use Rattle.zb_script.specs.Views.{script_of, script_with, station_of}
use Rattle.zb_script.specs.declared.script.Script.{Script as Read}
use Rattle.zb_script.specs.declared.script.Step.{Step}

-- ---- lists with one item more

all_push : {X : Type 0} (P : X → Type 0) (xs : List X) (x : X) → AllByRecursion P xs → P x
    → AllByRecursion P (xs ++ x ∷ [])
all_push P [] x all one = (one, tt)
all_push P (y ∷ ys) x all one = (all.0, all_push P ys x all.1 one)

apart_push : {X V : Type 0} (reading : X → V) (xs : List X) (x : X) → ApartBy reading xs
    → AllByRecursion (λ y. reading y ≢ reading x) xs → ApartBy reading (xs ++ x ∷ [])
apart_push reading [] x apart others = (tt, tt)
apart_push reading (y ∷ ys) x apart others =
    (all_push (λ other. reading y ≢ reading other) ys x apart.0 others.0, apart_push reading ys x apart.1 others.1)

-- ---- the lines

-- the new node differs from each one before it
pub record AreFree (name : Bytes) (eui short : ℕ) (stations : List Station) : Type 0 where
  pub names : AllByRecursion (λ (y : Station). y.name ≢ name) stations
  pub euis : AllByRecursion (λ (y : Station). y.eui ≢ eui) stations
  pub shorts : AllByRecursion (λ (y : Station). y.short ≢ short) stations

differs : (a b : Bytes) → bytes_eq a b ≡ false → a ≢ b
differs a b no_match = λ same. false≢true (sym no_match ∙ (bytes_eq-Decides a b).1 same)

are_free : (name : Bytes) (eui short : ℕ) (stations : List Station)
    → list_any (λ station. is_taken name eui short station) stations ≡ false → AreFree name eui short stations
are_free name eui short [] free = record { names = tt; euis = tt; shorts = tt }
are_free name eui short (y ∷ ys) free =
    let p = or_parts (is_taken name eui short y) _ free in
    let q = or_parts (bytes_eq y.name name || y.eui == eui) (y.short == short) p.0 in
    let r = or_parts (bytes_eq y.name name) (y.eui == eui) q.0 in
    let more = are_free name eui short ys p.1 in
    record {
      names = (differs y.name name r.0, more.names);
      euis = (eqb-false y.eui eui r.1, more.euis);
      shorts = (eqb-false y.short short q.1, more.shorts);
    }

led_push : (stations : List Station) (x : Station) → AreLed stations → 0 < length stations → is_joiner x.role ≡ true
    → AreLed (stations ++ x ∷ [])
led_push [] x led some joins = absurd (omega arith)
led_push (first ∷ others) x led some joins =
    (led.0, all_push (λ (station : Station). is_joiner station.role ≡ true) others x led.1 joins)

some_of : (stations : List Station) → not (length stations == 0) ≡ true → 0 < length stations
some_of [] h = absurd (false≢true h)
some_of (x ∷ xs) h = omega arith

pub peer_kept : (s : Script) (x : Station) → IsSoFar s → has_centre s ≡ true
    → list_any (λ station. is_taken x.name x.eui x.short station) s.stations ≡ false → is_joiner x.role ≡ true
    → IsSoFar (record s { stations = s.stations ++ x ∷ [] })
peer_kept s x kept has free joins =
    let apart = are_free x.name x.eui x.short s.stations free in
    record {
      names = apart_push (λ (station : Station). station.name) s.stations x kept.names apart.names;
      euis = apart_push (λ (station : Station). station.eui) s.stations x kept.euis apart.euis;
      shorts = apart_push (λ (station : Station). station.short) s.stations x kept.shorts apart.shorts;
      led = led_push s.stations x kept.led (some_of s.stations has) joins;
      blocks = λ h. kept.blocks has;
      few = kept.few;
      steps = kept.steps;
    }

-- the same of the program's peers
pub with_peer : (peers new : List Peer) (p : Peer) (out_block in_block : ℕ) (steps : List Step) (s : Script)
    → script_with peers out_block in_block steps ≡ s → new ≡ peers ++ p ∷ []
    → IsSoFar (script_with peers out_block in_block steps) → has_centre s ≡ true
    → list_any (λ station. is_taken p.name.bytes p.eui.0 p.short.0 station) s.stations ≡ false → is_joiner p.role
    ≡ true
    → IsSoFar (script_with new out_block in_block steps)
with_peer peers new p out_block in_block steps s view is kept has free joins =
    let old = script_with peers out_block in_block steps in
    let seen : map station_of new ≡ map station_of peers ++ station_of p
    ∷ [] = ap (map station_of) is ∙ map_push station_of peers p in
    let apart : list_any (λ station. is_taken p.name.bytes p.eui.0 p.short.0 station) old.stations ≡ false =
    ap (λ (t : Script). list_any (λ station. is_taken p.name.bytes p.eui.0 p.short.0 station) t.stations) view ∙ free
    in
    subst (λ stations. IsSoFar
    (record { stations = stations; out_block = out_block; in_block = in_block; steps = steps })) (sym seen)
    (peer_kept old (station_of p) kept (ap has_centre view ∙ has) apart joins)

-- ---- the whole

all_seen : {X Y : Type 0} (view : X → Y) (P : Y → Type 0) (xs : List X) → AllByRecursion P (map view xs)
    → AllByRecursion (λ x. P (view x)) xs
all_seen view P [] all = tt
all_seen view P (x ∷ xs) all = (all.0, all_seen view P xs all.1)

apart_seen : {X Y V : Type 0} (view : X → Y) (reading : Y → V) (xs : List X) → ApartBy reading (map view xs)
    → ApartBy (λ x. reading (view x)) xs
apart_seen view reading [] apart = tt
apart_seen view reading (x ∷ xs) apart =
    (all_seen view (λ other. reading (view x) ≢ reading other) xs apart.0, apart_seen view reading xs apart.1)

joins_is : (role : Role) → is_joiner role ≡ true → is_centre role ≡ false
joins_is Centre h = absurd (false≢true h)
joins_is Router h = refl
joins_is Device h = refl

none_leads : (peers : List Peer) → AllByRecursion (λ (station : Station). is_joiner station.role ≡ true)
    (map station_of peers) → count_by (λ (peer : Peer). is_centre peer.role) peers ≡ 0
none_leads [] all = refl
none_leads (p ∷ ps) all = rw (joins_is p.role all.0, none_leads ps all.1) refl

leads : (role : Role) → role ≡ Centre → is_centre role ≡ true
leads role is = ap is_centre is

one_leads : (peers : List Peer) → AreLed (map station_of peers) → 0 < length peers
    → count_by (λ (peer : Peer). is_centre peer.role) peers ≡ 1
one_leads [] led some = absurd (omega arith)
one_leads (p ∷ ps) led some =
    sum_by-cons (λ (q : Peer). cond (is_centre q.role) 1 0) p ps ∙ ap₂ (λ (a b : ℕ). a + b)
    (ap (λ b. cond b 1 0) (leads p.role led.0)) (none_leads ps led.1)

first_is : (out_block in_block : ℕ) (peers : List Peer) → AreLed (map station_of peers) → 0 < length peers
    → (own out_block in_block (slice_get peers 0)).role ≡ model.Centre
first_is out_block in_block [] led some = absurd (omega arith)
first_is out_block in_block (p ∷ ps) led some = ap model_role led.0

centre_first : (config : Config) → AreLed (map station_of config.peers.items) → 0 < length config.peers.items
    → config.me ≡ 0 → IsOfRole model.Centre config
unfolding setting_for
centre_first config led some me = rw me (first_is config.out_block config.in_block config.peers.items led some)

pub script_kept : (script : Read) → IsSoFar (script_of script) → has_centre (script_of script) ≡ true
    → script.config.me ≡ 0 → IsScript script
script_kept script kept has me =
    let peers = script.config.peers.items in
    let some : 0 < length peers = omega (arith, some_of (map station_of peers) has, length-map peers station_of) in
    let blocks = kept.blocks has in
    let p = and_parts _ (nat_le script.config.in_block 1024) blocks in
    let q = and_parts _ (nat_le 1 script.config.in_block) p.0 in
    let r = and_parts (nat_le 1 script.config.out_block) (nat_le script.config.out_block 65536) q.0 in
    record {
      config = record {
        names = apart_seen station_of (λ (station : Station). station.name) peers kept.names;
        euis = apart_seen station_of (λ (station : Station). station.eui) peers kept.euis;
        shorts = apart_seen station_of (λ (station : Station). station.short) peers kept.shorts;
        one_centre = one_leads peers kept.led some;
        place = omega (arith, me, some);
        out_least = leb-true 1 _ r.0;
        out_most = leb-true _ 65536 r.1;
        in_least = leb-true 1 _ q.1;
        in_most = leb-true _ 1024 p.1;
      };
      me = me;
      centre = centre_first script.config kept.led some me;
      few = kept.few;
      steps = kept.steps;
    }

pub finished : (config : Config) (steps made : List Step) (s : Script) → made ≡ steps
    → script_with config.peers.items config.out_block config.in_block steps ≡ s
    → IsSoFar (script_with config.peers.items config.out_block config.in_block steps) → config.me ≡ 0 → has_centre s
    ≡ true → IsScript (record { config = config; steps = made })
finished config steps made s is view kept me has =
    rw is (script_kept (record { config = config; steps = steps }) kept (ap has_centre view ∙ has) me)
