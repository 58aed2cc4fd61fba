-- Which keys come out for removed devices, as a device is entered and as a key is raised.
use Rattle.std.proofs.Common.{◌≡◌, ℕ, ◌<◌, ◌≤◌, List, [], Bool, true, false, inl, inr, refl, arith, ap, sym, ◌∙◌, nat_eq}
use Rattle.std.specs.Prelude.{if◌then◌else◌}
use Rattle.zb_base.specs.declared.address.Eui.{Eui}
use Rattle.zb_base.specs.declared.key.Key.{Key}
use Rattle.zb_audit_lockout.specs.Raising.{Raises}
use Rattle.zb_audit_lockout.specs.Reading.{early_of, number_of}
use Rattle.zb_audit_lockout.specs.Spreading.{Enters, IsSpread, IsSpreadBut, has_key}
use Rattle.zb_audit_lockout.specs.declared.spread.Spread.{Spread}
use Rattle.zb_audit_lockout.specs.declared.numbers.Numbers.{Numbers}
use Rattle.zb_trace_watch.specs.Sets.{is_among, is_carried}
use Rattle.zb_trace_watch.specs.declared.holdings.Holdings.{Holdings}
use Rattle.zb_trace_watch.proofs.Truth.{decided, same_number, itself_number}

-- Keys are raised.
module _ (leads : Holdings Key) (held : Holdings Eui) (old new : Spread) (start : List Key) (early : ℕ)
    (raised : List Key) (same_devices : (e : ℕ) → early_of new e ≡ early_of old e)
    (raises : Raises leads old.keys new.keys start early raised) where
  rises : (k : List ℕ) → number_of old.keys k ≤ number_of new.keys k
  rises k = elim (raises.told k) [
    | inl same ↦ (let it : number_of new.keys k ≡ number_of old.keys k = same in omega arith)
    | inr it ↦
        (let was : number_of old.keys k < early = it.was in let is : number_of new.keys k ≡ early = it.is in omega
        arith)
  ]

  module _ (but : IsSpreadBut leads held old start early) where
    has_now : (d : ℕ) (k : List ℕ) → has_key held d k ≡ true → early_of new d ≤ number_of new.keys k
    has_now d k there =
        let same : early_of new d ≡ early_of old d = same_devices d in
        elim (but.has d k there) [
          | inl le ↦
              (let low : early_of old d ≤ number_of old.keys k = le in let up : number_of old.keys k
              ≤ number_of new.keys k = rises k in omega arith)
          | inr it ↦
              (let low : early_of old d ≤ early = it.1 in let up : early ≤ number_of new.keys k =
              raises.reached k it.0 in omega arith)
        ]

    carried_now : (b k : List ℕ) → is_carried leads b k ≡ true → number_of new.keys b ≤ number_of new.keys k
    carried_now b k there = elim (raises.told b) [
      | inl same ↦
          (let was : number_of new.keys b ≡ number_of old.keys b = same in elim (but.carried b k there) [
            | inl le ↦
                (let low : number_of old.keys b ≤ number_of old.keys k = le in let up : number_of old.keys k
                ≤ number_of new.keys k = rises k in omega arith)
            | inr it ↦
                (let low : number_of old.keys b ≤ early = it.1 in let up : early ≤ number_of new.keys k =
                raises.reached k it.0 in omega arith)
          ])
      | inr up ↦
          (let is : number_of new.keys b ≡ early = up.is in let more : early ≤ number_of new.keys k =
          raises.carried b k up.among there in omega arith)
    ]

    pub raised_spread : IsSpread leads held new
    raised_spread = record { has = has_now; carried = carried_now }

-- A device is entered.
module _ (leads : Holdings Key) (held : Holdings Eui) (old mid new : Spread) (device : Eui) (early : ℕ)
    (start raised : List Key)
    (marked : (e : ℕ) → early_of mid e ≡ (if nat_eq e device.0 then early else early_of old e))
    (same_keys : mid.keys ≡ old.keys) (same_devices : (e : ℕ) → early_of new e ≡ early_of mid e)
    (start_is : (k : List ℕ) → is_among start k ≡ has_key held device.0 k)
    (raises : Raises leads mid.keys new.keys start early raised) (less : early_of old device.0 < early) where
  same_number_of : (k : List ℕ) → number_of mid.keys k ≡ number_of old.keys k
  same_number_of k = ap (λ (n : Numbers). number_of n k) same_keys

  at_device : (e : ℕ) → nat_eq e device.0 ≡ true → early_of mid e ≡ early
  at_device e is = marked e ∙ ap (λ (b : Bool). if b then early else early_of old e) is

  elsewhere : (e : ℕ) → nat_eq e device.0 ≡ false → early_of mid e ≡ early_of old e
  elsewhere e is = marked e ∙ ap (λ (b : Bool). if b then early else early_of old e) is

  but : IsSpread leads held old → IsSpreadBut leads held mid start early
  but spread = record {
    has = λ e k there. elim (decided (nat_eq e device.0)) [
      | inl is ↦ inr (
        start_is k ∙ (ap (λ (d : ℕ). has_key held d k) (sym (same_number e device.0 is)) ∙ there),
        (let it : early_of mid e ≡ early = at_device e is in omega arith),
      )
      | inr other ↦ inl
          (let same : early_of mid e ≡ early_of old e = elsewhere e other in let keys : number_of mid.keys k
          ≡ number_of old.keys k = same_number_of k in let low : early_of old e ≤ number_of old.keys k =
          spread.has e k there in omega arith)
    ];
    carried = λ b k there. inl
        (let from : number_of mid.keys b ≡ number_of old.keys b = same_number_of b in let to : number_of mid.keys k
        ≡ number_of old.keys k = same_number_of k in let low : number_of old.keys b ≤ number_of old.keys k =
        spread.carried b k there in omega arith);
  }

  pub entered : Enters leads held old new device.0 early raised
  entered = record {
    spread = λ spread. raised_spread leads held mid new start early raised same_devices raises (but spread);
    reached =
        (let same : early_of new device.0 ≡ early_of mid device.0 = same_devices device.0 in let it : early_of mid
        device.0 ≡ early = at_device device.0 (itself_number device.0) in omega arith);
    kept = λ e.
        let same : early_of new e ≡ early_of mid e = same_devices e in
        elim (decided (nat_eq e device.0)) [
          | inl is ↦
              (let it : early_of mid e ≡ early = at_device e is in let was : early_of old e ≡ early_of old device.0 =
              ap (early_of old) (same_number e device.0 is) in let low : early_of old device.0 < early = less in omega
              arith)
          | inr other ↦ (let it : early_of mid e ≡ early_of old e = elsewhere e other in omega arith)
        ];
    told = λ k. elim (raises.told k) [
      | inl same ↦ inl (same ∙ same_number_of k)
      | inr it ↦ inr (it.is, it.among)
    ];
    least = λ S shut k among. raises.least S (λ q there. shut.has q (sym (start_is q) ∙ there)) shut.carried k among;
  }

-- A device was entered as early before.
pub entered_before : (leads : Holdings Key) (held : Holdings Eui) (s : Spread) (d early : ℕ) → early ≤ early_of s d
    → Enters leads held s s d early []
entered_before leads held s d early before = record {
  spread = λ spread. spread;
  reached = before;
  kept = λ e. omega arith;
  told = λ k. inl refl;
  least = λ S shut k among. cc;
}
