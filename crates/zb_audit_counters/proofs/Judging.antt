-- What the recount finds about a line is what the readings say, and whether the line that it waits for is there is
-- what the group says.
use Rattle.std.proofs.Common.{◌≡◌, ℕ, List, [], ◌∷◌, ◌++◌, Bool, true, false, not, ◌&&◌, ◌||◌, Option, Some, None, refl, ap, sym, ◌∙◌, bytes_eq, nat_eq, nat_lt}
use Rattle.std.specs.List.{fold, list_any, list_all}
use Rattle.std.specs.Option.{option_map, option_or, is_some, unwrap_or}
use Rattle.std.specs.Prelude.{if◌then◌else◌}
use Rattle.zb_base.specs.declared.key.Key.{Key}
use Rattle.zb_base.specs.declared.label.Layer.{Layer}
use Rattle.zb_base.specs.declared.label.Layer.TheVariants.{Nwk, Aps}
use Rattle.zb_audit_names.specs.Groups.{flat}
use Rattle.zb_audit_names.specs.Naming.{speaker}
use Rattle.zb_model.specs.Data.{Bytes}
use Rattle.zb_audit_counters.specs.Counting.{accept_stands, accepted, active_stands, activates, ahead, block_passes, cuts, floor_fits, floor_stands, in_block, is_called_for, is_counted, is_spent, is_under, out_block, reserve_stands, seal_stands, seals_at, start_stands, start_value, starts}
use Rattle.zb_audit_counters.specs.Readings.{active, behind, declared, floor_in, has_started, is_key, last, limit, limit_behind, limit_under, next, reserve_in, same_layer, sealed_in, since_boot, stored}
use Rattle.zb_audit_counters.specs.Recounting.{IsOf, IsOutgoing, are_any, last_seal, meets, verdict}
use Rattle.zb_audit_counters.specs.Standing.{active_by, before_of, calls, fits_all, floor_judged, floor_of, is_met, judged_at, key_bytes, key_in, limit_by, next_by, next_under, reserve_under, reserves_at, seal_judged, seals_by, sender_of, since, stands_if, waits_if, waits_unless}
use Rattle.zb_audit_counters.specs.declared.counters.Counters.{Counters}
use Rattle.zb_audit_counters.specs.declared.floor.Floor.{Floor}
use Rattle.zb_audit_counters.specs.declared.judgement.Need.{Need}
use Rattle.zb_audit_counters.specs.declared.judgement.Need.TheVariants as need
use Rattle.zb_audit_counters.specs.declared.outgoing.Outgoing.{Outgoing}
use Rattle.zb_audit_counters.specs.declared.versioned.Versioned.{Versioned}
use Rattle.zb_trace.specs.declared.line.Line.{Line}
use Rattle.zb_trace.specs.declared.line.Line.TheVariants as line
use Rattle.zb_audit_counters.proofs.Puts.{itself_number, same_bytes}

unsome : (a b : Bytes) → Some a ≡ Some b → a ≡ b
unsome a b e = cc

-- A verdict

verdict_stands : (before : List (List Line)) (group : List Line) (n : Bytes) (b : Bool)
    → verdict before group n (stands_if b) ≡ b
verdict_stands before group n true = refl
verdict_stands before group n false = refl

verdict_waits : (before : List (List Line)) (group : List Line) (n : Bytes) (what : Need) (b : Bool)
    → verdict before group n (waits_if what b) ≡ (b && meets before group n what)
verdict_waits before group n what true = refl
verdict_waits before group n what false = refl

verdict_unless : (before : List (List Line)) (group : List Line) (n : Bytes) (what : Need) (b : Bool)
    → verdict before group n (waits_unless what b) ≡ (b || meets before group n what)
verdict_unless before group n what true = refl
verdict_unless before group n what false = refl

-- Without an active key no seal at NWK counts.

never : {A : Type 0} (speaks : Line → Option A) → ((l : Line) → speaks l ≡ None) → (h : List Line) → last speaks h
    ≡ None
unfolding last
never speaks none [] = refl
never {A = A} speaks none (l ∷ h) =
    ap (λ (o : Option A). fold (λ (found : Option A) (l : Line). option_or (speaks l) found) (option_or o None) h)
    (none l) ∙ never speaks none h

under_none : (a b : Bool) (counter : ℕ) → (if a && (b && false) then Some counter else None) ≡ None
under_none true true counter = refl
under_none true false counter = refl
under_none false b counter = refl

none_sealed : (n : Bytes) (l : Line) → sealed_in n Nwk None l ≡ None
none_sealed n (line.Seal e m t) = under_none (bytes_eq m.bytes n) (same_layer t.layer Nwk) t.counter
none_sealed n _ = refl

-- Outgoing counters

next_as : (count g : ℕ) (booted : Versioned ℕ) (la ln sa sn : Option ℕ) (o : Outgoing) (d : ℕ)
    → IsOutgoing count g booted la ln sa sn o → next_by o g (before_of g booted) d ≡ behind (unwrap_or la d) sa
next_as count g booted la ln sa sn o d is =
    ap (λ (x : Option ℕ). behind (unwrap_or x d) (since (before_of g booted) (before_of g o.sealed))) is.limit.1 ∙ ap
    (behind (unwrap_or la d)) is.before

limit_as : (count g : ℕ) (booted : Versioned ℕ) (la ln sa sn : Option ℕ) (o : Outgoing) (d : ℕ)
    → IsOutgoing count g booted la ln sa sn o → limit_by o g d ≡ unwrap_or la d
limit_as count g booted la ln sa sn o d is = ap (λ (x : Option ℕ). unwrap_or x d) is.limit.1

module _ (count g : ℕ) (n : Bytes) (before : List (List Line)) (front : List Line) (c : Counters)
    (is : IsOf count g n before front c) where
  -- At APS
  aps_limit : limit_by c.outgoing g (before_of g c.aps.declared) ≡ limit before n Aps
  unfolding limit
  aps_limit =
      limit_as count g c.booted _ _ _ _ c.outgoing (before_of g c.aps.declared) (is.outgoing (active (flat before) n))
      ∙ ap (unwrap_or (last (reserve_in n Aps) (flat before))) (is.layers Aps).declared.1

  aps_next : next_by c.outgoing g (before_of g c.booted) (before_of g c.aps.declared) ≡ next before n Aps
  unfolding next limit last_seal
  aps_next =
      next_as count g c.booted _ _ _ _ c.outgoing (before_of g c.aps.declared) (is.outgoing (active (flat before) n))
      ∙ ap (λ (d : ℕ). behind (unwrap_or (last (reserve_in n Aps) (flat before)) d)
      (last_seal n Aps (active (flat before) n) (flat before))) (is.layers Aps).declared.1

  -- At NWK
  active_as : active_by g c ≡ active (flat before) n
  active_as = is.active.1

  key_limit : (key : Key) → active (flat before) n ≡ Some key.0
      → limit_by (key_in c.keys key).outgoing g (before_of g c.nwk.declared) ≡ limit before n Nwk
  unfolding limit limit_under
  key_limit key e =
      limit_as count g c.booted _ _ _ _ (key_in c.keys key).outgoing (before_of g c.nwk.declared)
      (is.keys key).outgoing
      ∙ (ap (unwrap_or (limit_behind [] n key.0 before)) (is.layers Nwk).declared.1 ∙ sym
      (ap (limit_under before n) e))

  key_next : (key : Key) → active (flat before) n ≡ Some key.0
      → next_by (key_in c.keys key).outgoing g (before_of g c.booted) (before_of g c.nwk.declared) ≡ next before n Nwk
  unfolding next limit limit_under last_seal
  key_next key e =
      next_as count g c.booted _ _ _ _ (key_in c.keys key).outgoing (before_of g c.nwk.declared) (is.keys key).outgoing
      ∙ (ap (λ (d : ℕ). behind (unwrap_or (limit_behind [] n key.0 before) d)
      (last_seal n Nwk (Some key.0) (flat before))) (is.layers Nwk).declared.1
      ∙ sym (ap (λ (o : Option Bytes). behind (limit_under before n o) (last_seal n Nwk o (flat before))) e))

  none_limit : active (flat before) n ≡ None → before_of g c.nwk.declared ≡ limit before n Nwk
  unfolding limit limit_under
  none_limit e = (is.layers Nwk).declared.1 ∙ sym (ap (limit_under before n) e)

  no_seal : (h : List Line) → last (sealed_in n Nwk None) h ≡ None
  no_seal h = never (sealed_in n Nwk None) (none_sealed n) h

  none_next : active (flat before) n ≡ None → before_of g c.nwk.declared ≡ next before n Nwk
  unfolding next limit limit_under
  none_next e =
      (is.layers Nwk).declared.1
      ∙ (sym (ap (behind (declared (flat before) n Nwk)) (no_seal (since_boot n (flat before))))
      ∙ sym (ap
      (λ (o : Option Bytes). behind (limit_under before n o)
      (last (sealed_in n Nwk o) (since_boot n (flat before)))) e))

  -- Seals

  seal_aps_as : (group : List Line) (base : Key) (counter : ℕ) (declares : Bool)
      → verdict before group n (seal_judged g c Aps base counter declares)
      ≡ ((nat_eq counter (next before n Aps) && true)
      && (declares && (not (is_spent before n Aps) || is_some (last (reserve_in n Aps) front))))
  seal_aps_as group base counter declares =
      verdict_stands before group n
      (declares && seals_by c.outgoing g (before_of g c.booted) (before_of g c.aps.declared) counter
      (nat_eq c.aps.reserved g))
      ∙ (ap (λ (x : ℕ). declares
      && (nat_eq counter x
      && (not (nat_eq x (limit_by c.outgoing g (before_of g c.aps.declared))) || nat_eq c.aps.reserved g)))
      aps_next
      ∙ (ap (λ (x : ℕ). declares
      && (nat_eq counter (next before n Aps) && (not (nat_eq (next before n Aps) x) || nat_eq c.aps.reserved g)))
      aps_limit
      ∙ (ap (λ (x : Bool). declares && (nat_eq counter (next before n Aps) && (not (is_spent before n Aps) || x)))
      (is.layers Aps).reserved.1
      ∙ shuffled declares (nat_eq counter (next before n Aps))
      (not (is_spent before n Aps) || is_some (last (reserve_in n Aps) front)))))
    where
      shuffled : (d x y : Bool) → (d && (x && y)) ≡ ((x && true) && (d && y))
      shuffled true true y = refl
      shuffled true false y = refl
      shuffled false true y = refl
      shuffled false false y = refl

  some_key : (o : Option Bytes) (key : Bytes) → is_key o key ≡ true → o ≡ Some key
  some_key None key e = cc
  some_key (Some other) key e = ap Some (same_bytes other key e)

  seal_nwk_as : (group : List Line) (base : Key) (counter : ℕ) (declares : Bool)
      → verdict before group n (seal_judged g c Nwk base counter declares)
      ≡ ((nat_eq counter (next before n Nwk) && is_key (active (flat before) n) base.0)
      && (declares && (not (is_spent before n Nwk) || is_some (last (reserve_in n Nwk) front))))
  seal_nwk_as group base counter declares =
      verdict_stands before group n
      ((is_key (active_by g c) base.0 && declares)
      && seals_by (key_in c.keys base).outgoing g (before_of g c.booted) (before_of g c.nwk.declared) counter
      (nat_eq c.nwk.reserved g))
      ∙ (ap (λ (o : Option Bytes). (is_key o base.0 && declares)
      && seals_by (key_in c.keys base).outgoing g (before_of g c.booted) (before_of g c.nwk.declared) counter
      (nat_eq c.nwk.reserved g)) active_as
      ∙ from (is_key (active (flat before) n) base.0) refl)
    where
      shuffled : (d x y : Bool) → ((true && d) && (x && y)) ≡ ((x && true) && (d && y))
      shuffled true true y = refl
      shuffled true false y = refl
      shuffled false true y = refl
      shuffled false false y = refl

      nothing : (x y : Bool) → false ≡ ((x && false) && y)
      nothing true y = refl
      nothing false y = refl

      from : (b : Bool) → is_key (active (flat before) n) base.0 ≡ b
          → ((b && declares) && seals_by (key_in c.keys base).outgoing g (before_of g c.booted)
          (before_of g c.nwk.declared) counter (nat_eq c.nwk.reserved g))
          ≡ ((nat_eq counter (next before n Nwk) && b)
          && (declares && (not (is_spent before n Nwk) || is_some (last (reserve_in n Nwk) front))))
      from true e =
          let known = some_key (active (flat before) n) base.0 e in
          ap (λ (x : ℕ). (true && declares)
          && (nat_eq counter x
          && (not (nat_eq x (limit_by (key_in c.keys base).outgoing g (before_of g c.nwk.declared)))
          || nat_eq c.nwk.reserved g))) (key_next base known)
          ∙ (ap (λ (x : ℕ). (true && declares)
          && (nat_eq counter (next before n Nwk)
          && (not (nat_eq (next before n Nwk) x) || nat_eq c.nwk.reserved g))) (key_limit base known)
          ∙ (ap (λ (x : Bool). (true && declares)
          && (nat_eq counter (next before n Nwk) && (not (is_spent before n Nwk) || x))) (is.layers Nwk).reserved.1
          ∙ shuffled declares (nat_eq counter (next before n Nwk))
          (not (is_spent before n Nwk) || is_some (last (reserve_in n Nwk) front))))
      from false e = nothing (nat_eq counter (next before n Nwk))
          (declares && (not (is_spent before n Nwk) || is_some (last (reserve_in n Nwk) front)))

  seal_as : (group : List Line) (ly : Layer) (base : Key) (counter : ℕ) (declares : Bool)
      → verdict before group n (seal_judged g c ly base counter declares)
      ≡ ((nat_eq counter (next before n ly) && is_under ly (active (flat before) n) base.0)
      && (declares && (not (is_spent before n ly) || is_some (last (reserve_in n ly) front))))
  seal_as group Nwk base counter declares = seal_nwk_as group base counter declares
  seal_as group Aps base counter declares = seal_aps_as group base counter declares

  -- Reserves

  reserve_under_as : (o : Option Key) → option_map key_bytes o ≡ active (flat before) n → (value block : ℕ)
      → reserve_under g c o value block ≡ (nat_eq value (ahead (next before n Nwk) block) && is_spent before n Nwk)
  reserve_under_as None e value block =
      and_self (nat_eq value (ahead (before_of g c.nwk.declared) block)) (before_of g c.nwk.declared)
      ∙ (ap (λ (x : ℕ). nat_eq value (ahead x block) && nat_eq x (before_of g c.nwk.declared)) (none_next (sym e))
      ∙ ap (λ (x : ℕ). nat_eq value (ahead (next before n Nwk) block) && nat_eq (next before n Nwk) x)
      (none_limit (sym e)))
    where
      and_self : (b : Bool) (m : ℕ) → b ≡ (b && nat_eq m m)
      and_self true m = sym (itself_number m)
      and_self false m = refl
  reserve_under_as (Some key) e value block =
      ap (λ (x : ℕ). nat_eq value (ahead x block)
      && nat_eq x (limit_by (key_in c.keys key).outgoing g (before_of g c.nwk.declared))) (key_next key (sym e))
      ∙ ap (λ (x : ℕ). nat_eq value (ahead (next before n Nwk) block) && nat_eq (next before n Nwk) x)
      (key_limit key (sym e))

  reserves_as : (ly : Layer) (value : ℕ) (out : Option ℕ)
      → reserves_at g c ly value out
      ≡ (block_passes (λ (block : ℕ). nat_eq value (ahead (next before n ly) block)) out && is_spent before n ly)
  reserves_as ly value None = refl
  reserves_as Nwk value (Some block) = reserve_under_as (before_of g c.active) is.active.1 value block
  reserves_as Aps value (Some block) =
      ap (λ (x : ℕ). nat_eq value (ahead x block) && nat_eq x (limit_by c.outgoing g (before_of g c.aps.declared)))
      aps_next
      ∙ ap (λ (x : ℕ). nat_eq value (ahead (next before n Aps) block) && nat_eq (next before n Aps) x) aps_limit

  -- Starts

  next_under_as : (o : Option Key) → option_map key_bytes o ≡ active (flat before) n → next_under g c o
      ≡ next before n Nwk
  next_under_as None e = none_next (sym e)
  next_under_as (Some key) e = key_next key (sym e)

  -- A line

  pub judged_as : (group : List Line) (out inb : Option ℕ) (l : Line) → speaker l ≡ Some n → out
      ≡ out_block (flat before ++ front) n → inb ≡ in_block (flat before ++ front) n
      → is_counted before group front l ≡ verdict before group n (judged_at g c out inb l)
  unfolding speaker is_counted seal_stands reserve_stands accept_stands floor_stands start_stands active_stands
  judged_as group out inb (line.Seal e m t) says outs ins =
      ap (λ (x : Bytes). seal_stands before front x t) (unsome m.bytes n says)
      ∙ (ap (λ (o : Option ℕ).
      (nat_eq t.counter (next before n t.layer) && is_under t.layer (active (flat before) n) t.base.0)
      && (is_some o && (not (is_spent before n t.layer) || is_some (last (reserve_in n t.layer) front))))
      (sym outs)
      ∙ sym (seal_as group t.layer t.base t.counter (is_some out)))
  judged_as group out inb (line.Reserve e m ly value) says outs ins =
      ap (λ (x : Bytes). reserve_stands before group front x ly value) (unsome m.bytes n says)
      ∙ (ap (λ (o : Option ℕ). (block_passes (λ (block : ℕ). nat_eq value (ahead (next before n ly) block)) o
      && is_spent before n ly) && (list_any cuts group || list_any (seals_at n ly) group)) (sym outs)
      ∙ sym (verdict_waits before group n (need.Seal ly) (reserves_at g c ly value out) ∙ ap
      (λ (b : Bool). b && (list_any cuts group || list_any (seals_at n ly) group)) (reserves_as ly value out)))
  judged_as group out inb (line.Accept e m t) says outs ins =
      ap (λ (x : Bytes). accept_stands before group x t) (unsome m.bytes n says)
      ∙ sym (verdict_unless before group n (need.Floor (sender_of t))
      (nat_lt t.counter (before_of g (floor_of c.floors (sender_of t)).stored))
      ∙ ap (λ (x : ℕ). nat_lt t.counter x || is_some (last (floor_in n t.layer t.base.0 t.source.0) group))
      (is.floors (sender_of t)).kept.1)
  judged_as group out inb (line.Floor e m ly key sender value) says outs ins =
      ap (λ (x : Bytes). floor_stands before group front x ly key.0 sender.0 value) (unsome m.bytes n says) ∙
      (ap floor_with (sym ins) ∙ floor_as inb)
    where
      floor_with : Option ℕ → Bool
      floor_with o =
          block_passes
          (λ (block : ℕ). list_all (floor_fits (stored (flat before) n ly key.0 sender.0) value block)
          (accepted group n ly key.0 sender.0)) o
          && is_called_for (list_any cuts group) (stored (flat before) n ly key.0 sender.0) value
          (accepted group n ly key.0 sender.0)

      floor_as : (o : Option ℕ) → floor_with o
          ≡ verdict before group n (floor_judged (record { layer = ly; key = key; eui = sender }) value o)
      floor_as None = refl
      floor_as (Some block) = refl
  judged_as group out inb (line.Start e m key value) says outs ins =
      ap (λ (x : Bytes). start_stands before group front x key.0 value) (unsome m.bytes n says)
      ∙ (ap (λ (o : Option ℕ).
      (is_some o && (not (has_started (flat before) n key.0) && nat_eq value (start_value (next before n Nwk))))
      && list_any (activates n key.0) group) (sym outs)
      ∙ sym (verdict_waits before group n (need.Active key)
      (is_some out
      && (not (before_of g (key_in c.keys key).started)
      && nat_eq value (start_value (next_under g c (before_of g c.active)))))
      ∙ (ap (λ (b : Bool).
      (is_some out && (not b && nat_eq value (start_value (next_under g c (before_of g c.active)))))
      && list_any (activates n key.0) group) (is.keys key).started.1
      ∙ ap (λ (x : ℕ). (is_some out && (not (has_started (flat before) n key.0) && nat_eq value (start_value x)))
      && list_any (activates n key.0) group) (next_under_as (before_of g c.active) is.active.1))))
  judged_as group out inb (line.Active e m key) says outs ins =
      ap (λ (x : Bytes). active_stands before group x key.0) (unsome m.bytes n says)
      ∙ sym (verdict_unless before group n (need.Start key) (before_of g (key_in c.keys key).started) ∙ ap
      (λ (b : Bool). b || list_any (starts n key.0) group) (is.keys key).started.1)
  judged_as group out inb _ says outs ins = refl

  -- What a line waits for, at the end of its group

  called_as : (cut : Bool) (floor value accepted_in : ℕ) (f : Floor) (xs : List ℕ) → nat_eq f.accepted g ≡ are_any xs
      → calls cut g floor value f ≡ is_called_for cut floor value xs
  called_as true floor value at f xs e = refl
  called_as false floor value at f [] e = e
  called_as false floor value at f (x ∷ xs) e = e

  pub met_as : (what : Need) → is_met g (list_any cuts front) c what ≡ meets before front n what
  met_as (need.Seal ly) = ap (λ (b : Bool). list_any cuts front || b) (is.layers ly).sealed.1
  met_as (need.Floor s) = (is.floors s).here
  met_as (need.Accept s value block) =
      ap (λ (x : ℕ). fits_all g x value block (floor_of c.floors s)
      && calls (list_any cuts front) g x value (floor_of c.floors s)) (is.floors s).kept.1
      ∙ (ap (λ (b : Bool). b && calls (list_any cuts front) g (stored (flat before) n s.layer s.key.0 s.eui.0) value
      (floor_of c.floors s)) ((is.floors s).fits (stored (flat before) n s.layer s.key.0 s.eui.0) value block)
      ∙ ap (λ (b : Bool). list_all (floor_fits (stored (flat before) n s.layer s.key.0 s.eui.0) value block)
      (accepted front n s.layer s.key.0 s.eui.0) && b)
      (called_as (list_any cuts front) (stored (flat before) n s.layer s.key.0 s.eui.0) value 0 (floor_of c.floors s)
      (accepted front n s.layer s.key.0 s.eui.0) (is.floors s).taken.1))
  met_as (need.Start key) = (is.keys key).start.1
  met_as (need.Active key) = (is.keys key).active.1
