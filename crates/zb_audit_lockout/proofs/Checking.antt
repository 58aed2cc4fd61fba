-- Whether keys that come out for removed devices were drawn since: the devices that lead to such a key are entered
-- again.
use Rattle.std.proofs.Common.{◌≡◌, ◌⊎◌, ℕ, ◌+◌, ◌<◌, ◌≤◌, List, [], length, drop, get_or, Bool, true, false, ◌&&◌, Some, inl, inr, refl, arith, ap, sym, ◌∙◌, subst, bytes_eq, nat_eq}
use Rattle.std.proofs.lemmas.List.{drop_more}
use Rattle.zb_base.specs.declared.address.Eui.{Eui}
use Rattle.zb_base.specs.declared.key.Key.{Key}
use Rattle.zb_audit_lockout.specs.Backing.{IsBack}
use Rattle.zb_audit_lockout.specs.Ordered.{is_listed}
use Rattle.zb_audit_lockout.specs.Raising.{Clears}
use Rattle.zb_audit_lockout.specs.Reading.{early_of, is_late, number_of, open_at}
use Rattle.zb_audit_lockout.specs.Spreading.{IsSpread, has_key}
use Rattle.zb_audit_lockout.specs.Standing.{Checked, EnteredAll, IsBelow, IsSafeBut, Settles, TakenBack, TriedOne}
use Rattle.zb_audit_lockout.specs.Withdrawing.{Withdraws}
use Rattle.zb_audit_lockout.specs.declared.back.Back.{Back}
use Rattle.zb_audit_lockout.specs.declared.numbers.Numbers.{Numbers}
use Rattle.zb_audit_lockout.specs.declared.opened.Opening.{Opening}
use Rattle.zb_audit_lockout.specs.declared.reach.Reach.{Reach}
use Rattle.zb_audit_lockout.specs.declared.spread.Spread.{Spread}
use Rattle.zb_audit_lockout.specs.declared.windows.Windows.{Windows}
use Rattle.zb_audit_lockout.proofs.Loops.{any_get}
use Rattle.zb_audit_lockout.proofs.Telling.{below_kept, in_time}
use Rattle.zb_model.specs.Data.{Bytes}
use Rattle.zb_model.specs.Secrets.{well_known}
use Rattle.zb_trace_watch.specs.Sets.{is_among, is_carried, node_has}
use Rattle.zb_trace_watch.specs.declared.holdings.Holdings.{Holdings}
use Rattle.zb_trace_watch.proofs.Truth.{and_left, and_right, both, either, itself_number, not_both, or_left, or_right, same_bytes, same_number}

-- What stays if only the knowledge of keys that come out changed.

pub settled_more : (old mid new : Reach) → Settles old mid → Settles mid new → Settles old new
settled_more old mid new a b = record {
  windows = b.windows ∙ a.windows;
  leads = b.leads ∙ a.leads;
  held = b.held ∙ a.held;
  back = b.back ∙ a.back;
  drawn = b.drawn ∙ a.drawn;
}

pub settled_here : (r : Reach) → Settles r r
settled_here r = record { windows = refl; leads = refl; held = refl; back = refl; drawn = refl }

still_back : (old new : Reach) → Settles old new → IsBack old.leads old.held old.back
    → IsBack new.leads new.held new.back
still_back old new s it =
    subst (λ (l : Holdings Key). IsBack l new.held new.back) (sym s.leads)
    (subst (λ (h : Holdings Eui). IsBack old.leads h new.back) (sym s.held)
    (subst (λ (b : Back). IsBack old.leads old.held b) (sym s.back) it))

still_spread : (old new : Reach) (spread : Spread) → Settles old new → IsSpread old.leads old.held spread
    → IsSpread new.leads new.held spread
still_spread old new spread s it =
    subst (λ (l : Holdings Key). IsSpread l new.held spread) (sym s.leads)
    (subst (λ (h : Holdings Eui). IsSpread old.leads h spread) (sym s.held) it)

open_before : (old new : Reach) → Settles old new → (d n : ℕ) → open_at new.windows d ≡ Some n
    → open_at old.windows d ≡ Some n
open_before old new s d n found = ap (λ (w : Windows). open_at w d) (sym s.windows) ∙ found

open_after : (old new : Reach) → Settles old new → (d n : ℕ) → open_at old.windows d ≡ Some n
    → open_at new.windows d ≡ Some n
open_after old new s d n found = ap (λ (w : Windows). open_at w d) s.windows ∙ found

-- All that leads to a key is withdrawn.

module _ (leads : Holdings Key) (held : Holdings Eui) (back : Back) (w : Windows) (old mid new : Spread)
    (keys cleared : List Key) (list : List Opening)
    (clears : Clears back.bases old.keys mid.keys keys cleared)
    (devices : (d : ℕ) → early_of mid d ≡ early_of old d)
    (withdraws : Withdraws w back mid new cleared list) where
  same_keys : (k : Bytes) → number_of new.keys k ≡ number_of mid.keys k
  same_keys k = ap (λ (n : Numbers). number_of n k) withdraws.keys

  earlier : (d : ℕ) → early_of new d ≤ early_of old d
  earlier d = elim (withdraws.told d) [
    | inl same ↦
        (let is : early_of new d ≡ early_of mid d = same in let was : early_of mid d ≡ early_of old d =
        devices d in omega (arith, is, was))
    | inr it ↦ (let is : early_of new d ≡ 0 = it.0 in omega (arith, is))
  ]

  fewer : (k : Bytes) → number_of mid.keys k ≤ number_of old.keys k
  fewer k = elim (clears.told k) [
    | inl same ↦ (let is : number_of mid.keys k ≡ number_of old.keys k = same in omega (arith, is))
    | inr it ↦ (let is : number_of mid.keys k ≡ 0 = it.0 in omega (arith, is))
  ]

  module _ (is_back : IsBack leads held back) (spread : IsSpread leads held old) where
    has_now : (d : ℕ) (k : Bytes) → has_key held d k ≡ true → early_of new d ≤ number_of new.keys k
    has_now d k there = elim (clears.told k) [
      | inl same ↦
          (let same_key : number_of new.keys k ≡ number_of mid.keys k = same_keys k in
          let kept : number_of mid.keys k ≡ number_of old.keys k = same in
          let was : early_of old d ≤ number_of old.keys k = spread.has d k there in
          let low : early_of new d ≤ early_of old d = earlier d in
          omega (arith, same_key, kept, was, low))
      | inr it ↦
          (let none : early_of new d ≡ 0 = withdraws.zero k d it.1 it.0
          (elim (either (bytes_eq k well_known) (node_has held d k) there) [
            | inl everybody ↦ or_left _ _ everybody
            | inr has ↦ or_right (bytes_eq k well_known) _ (is_back.holders d k has)
          ]) in
          omega (arith, none))
    ]

    carried_now : (b k : Bytes) → is_carried leads b k ≡ true → number_of new.keys b ≤ number_of new.keys k
    carried_now b k there =
        let at_base : number_of new.keys b ≡ number_of mid.keys b = same_keys b in
        let at_key : number_of new.keys k ≡ number_of mid.keys k = same_keys k in
        elim (clears.told k) [
          | inl same ↦
              (let kept : number_of mid.keys k ≡ number_of old.keys k = same in
              let low : number_of mid.keys b ≤ number_of old.keys b = fewer b in
              let was : number_of old.keys b ≤ number_of old.keys k = spread.carried b k there in
              omega (arith, at_base, at_key, kept, low, was))
          | inr it ↦
              (let none : number_of mid.keys b ≡ 0 = clears.carried k b it.1 (is_back.bases b k there) in
              omega (arith, at_base, none))
        ]

    spread_now : IsSpread leads held new
    spread_now = record { has = has_now; carried = carried_now }

pub taken_back : (old : Reach) (mid new : Spread) (keys cleared : List Key) (list : List Opening)
    → Clears old.back.bases old.spread.keys mid.keys keys cleared
    → ((d : ℕ) → early_of mid d ≡ early_of old.spread d)
    → Withdraws old.windows old.back mid new cleared list
    → TakenBack old (record {
      windows = old.windows;
      leads = old.leads;
      held = old.held;
      back = old.back;
      drawn = old.drawn;
      spread = new;
    }) keys list
taken_back old mid new keys cleared list clears devices withdraws = record {
  spread = λ is_back spread. spread_now old.leads old.held old.back old.windows old.spread mid new keys cleared list
      clears devices withdraws is_back spread;
  zero = λ k there. ap (λ (n : Numbers). number_of n k) withdraws.keys ∙ clears.reached k there;
  told = λ k.
      let same : number_of new.keys k ≡ number_of mid.keys k = ap (λ (n : Numbers). number_of n k) withdraws.keys in
      elim (clears.told k) [
        | inl kept ↦ inl (same ∙ kept)
        | inr it ↦ inr (same ∙ it.0)
      ];
  devices = λ d. elim (withdraws.told d) [
    | inl same ↦ inl (same ∙ devices d)
    | inr it ↦ inr it.1
  ];
  found = withdraws.found;
}

-- Devices are entered one by one

-- What is true after some devices of a list were entered.
pub record Entering (old now : Reach) (list : List Opening) (index : ℕ) : Type 0 where
  pub settles : Settles old now
  pub spread : IsSpread old.leads old.held old.spread → IsSpread now.leads now.held now.spread
  pub below : (k : Bytes) → IsBelow old k → IsBelow now k
  pub kept : (d : ℕ) → early_of old.spread d ≤ early_of now.spread d
  pub done : (n d : ℕ) → is_listed n d list ≡ true → (4294967296 ≤ early_of now.spread d + n)
      ⊎ (is_listed n d (drop index list) ≡ true)

pub nothing_entered : (r : Reach) (list : List Opening) → Entering r r list 0
nothing_entered r list = record {
  settles = settled_here r;
  spread = λ spread. spread;
  below = λ k it. it;
  kept = λ d. omega arith;
  done = λ n d there. inr there;
}

pub one_entered : (old mid new : Reach) (list : List Opening) (index : ℕ) (e : Opening) (stays : Bool)
    → index < length list → Entering old mid list index → Settles mid new
    → TriedOne mid new (get_or list index e) stays → stays ≡ true → Entering old new list (index + 1)
one_entered old mid new list index e stays lt before settles tried stay =
    let opening : Opening = get_or list index e in record {
      settles = settled_more old mid new before.settles settles;
      spread = λ spread. tried.spread (before.spread spread);
      below = λ k it. tried.below stay k (before.below k it);
      kept = λ d.
          (let first : early_of old.spread d ≤ early_of mid.spread d = before.kept d in let second :
          early_of mid.spread d ≤ early_of new.spread d = tried.kept d in omega (arith, first, second));
      done = λ n d there. elim (before.done n d there) [
        | inl it ↦ inl
            (let kept : early_of mid.spread d ≤ early_of new.spread d = tried.kept d in let was : 4294967296
            ≤ early_of mid.spread d + n = it in omega (arith, kept, was))
        | inr left ↦ elim
            (either (nat_eq n opening.number && nat_eq d opening.device.0) (is_listed n d (drop (index + 1) list))
            (sym (ap (is_listed n d) (drop_more list index e lt)) ∙ left)) [
              | inl here ↦ inl
                  (let number : n ≡ opening.number = same_number n opening.number (and_left _ _ here) in
                  let reached : 4294967296 ≤ early_of new.spread opening.device.0 + opening.number = tried.reached in
                  let at : early_of new.spread d ≡ early_of new.spread opening.device.0 =
                  ap (early_of new.spread)
                  (same_number d opening.device.0 (and_right (nat_eq n opening.number) _ here)) in
                  omega (arith, number, reached, at))
              | inr later ↦ inr later
            ]
      ];
    }

pub all_entered : (old now : Reach) (list : List Opening) (index : ℕ) → Entering old now list index
    → drop index list ≡ [] → EnteredAll old now list true
all_entered old now list index done none = record {
  spread = λ stay. done.spread;
  reached = λ stay n d there. elim (done.done n d there) [
    | inl it ↦ it
    | inr left ↦ absurd
        (not_both (is_listed n d []) (sym (ap (λ (l : List Opening). is_listed n d l) none) ∙ left) refl)
  ];
  kept = λ stay. done.kept;
  below = λ stay. done.below;
  out = λ out. cc;
}

pub one_fails : (old mid new : Reach) (list : List Opening) (index : ℕ) (e : Opening) (stays : Bool)
    → index < length list → Entering old mid list index → TriedOne mid new (get_or list index e) stays → stays ≡ false
    → EnteredAll old new list false
one_fails old mid new list index e stays lt before tried fails =
    let opening : Opening = get_or list index e in record {
      spread = λ stay before. cc;
      reached = λ stay n d there. cc;
      kept = λ stay e. cc;
      below = λ stay k it. cc;
      out = λ out listed. tried.out fails
          (open_after old mid before.settles opening.device.0 opening.number
          (listed opening.number opening.device.0
          (any_get (λ (o : Opening). nat_eq opening.number o.number && nat_eq opening.device.0 o.device.0) list index e
          lt (both _ _ (itself_number opening.number) (itself_number opening.device.0)))));
    }

-- A key is checked.

below_cleared : (old new : Reach) (k : Bytes) → new.drawn ≡ old.drawn
    → (number_of new.spread.keys k ≡ number_of old.spread.keys k) ⊎ (number_of new.spread.keys k ≡ 0)
    → IsBelow old k → IsBelow new k
below_cleared old new k drawn (inl kept) below = below_kept old new k kept drawn below
below_cleared old new k drawn (inr none) below = inl none

pub found_anew : (old mid new : Reach) (keys : List Key) (list : List Opening) (stays : Bool) → Settles old mid
    → Settles mid new → TakenBack old mid keys list → EnteredAll mid new list stays → Checked old new keys stays
found_anew old mid new keys list stays first second taken entered = record {
  safe = λ but stay. record {
    back = still_back old new (settled_more old mid new first second) but.back;
    spread = entered.spread stay (still_spread old mid mid.spread first (taken.spread but.back but.spread));
    opened = λ d n found.
        let before : open_at mid.windows d ≡ Some n = open_before mid new second d n found in
        let at_first : open_at old.windows d ≡ Some n = open_before old mid first d n before in
        elim (taken.devices d) [
          | inl same ↦
              (let is : early_of mid.spread d ≡ early_of old.spread d = same in
              let was : 4294967296 ≤ early_of old.spread d + n = but.opened d n at_first in
              let kept : early_of mid.spread d ≤ early_of new.spread d = entered.kept stay d in
              omega (arith, is, was, kept))
          | inr listed ↦ entered.reached stay n d (listed n at_first)
        ];
    below = λ k. elim (but.below k) [
      | inl it ↦ entered.below stay k (below_cleared old mid k first.drawn (taken.told k) it)
      | inr there ↦ entered.below stay k (inl (taken.zero k there))
    ];
  };
  out = λ out. entered.out out
      (λ n d there. open_after old mid first d n (taken.found n d there));
}

-- Of the keys, the late ones are searched again.
abbrev pub IsSifted : Reach → List Key → List Key → Type 0
IsSifted r keys late = (k : Bytes) → is_among keys k ≡ true
    → (is_among late k ≡ true) ⊎ (is_late r.drawn (number_of r.spread.keys k) k ≡ false)

sifted_but : (r : Reach) (keys late : List Key) → IsSifted r keys late → IsSafeBut r keys → IsSafeBut r late
sifted_but r keys late sifted but = record {
  back = but.back;
  spread = but.spread;
  opened = but.opened;
  below = λ k. elim (but.below k) [
    | inl it ↦ inl it
    | inr there ↦ elim (sifted k there) [
      | inl is ↦ inr is
      | inr in_order ↦ inl (inr (in_time r.drawn (number_of r.spread.keys k) k in_order))
    ]
  ];
}

pub late_checked : (old new : Reach) (keys late : List Key) (stays : Bool) → IsSifted old keys late
    → Checked old new late stays → Checked old new keys stays
late_checked old new keys late stays sifted checked = record {
  safe = λ but stay. checked.safe (sifted_but old keys late sifted but) stay;
  out = checked.out;
}

pub none_late : (r : Reach) (keys late : List Key) → IsSifted r keys late → late ≡ [] → Checked r r keys true
none_late r keys late sifted none = record {
  safe = λ but stay.
      let left : IsSafeBut r late = sifted_but r keys late sifted but in
      record {
        back = left.back;
        spread = left.spread;
        opened = left.opened;
        below = λ k. elim (left.below k) [
          | inl it ↦ it
          | inr there ↦ absurd
              (not_both (is_among [] k) (sym (ap (λ (l : List Key). is_among l k) none) ∙ there) refl)
        ];
      };
  out = λ out. cc;
}

-- What is true after some keys of a list were checked.
abbrev pub Sifting : Reach → List Key → List Key → ℕ → Type 0
Sifting r keys late index = (k : Bytes) → is_among keys k ≡ true → (is_among late k ≡ true)
    ⊎ ((is_late r.drawn (number_of r.spread.keys k) k ≡ false) ⊎ (is_among (drop index keys) k ≡ true))

pub one_sifted : (r : Reach) (keys late more : List Key) (index : ℕ) (e : Key) → index < length keys
    → Sifting r keys late index → ((k : Bytes) → is_among late k ≡ true → is_among more k ≡ true)
    → (is_among more (get_or keys index e).0 ≡ true)
    ⊎ (is_late r.drawn (number_of r.spread.keys (get_or keys index e).0) (get_or keys index e).0 ≡ false)
    → Sifting r keys more (index + 1)
one_sifted r keys late more index e lt before kept sifted k there = elim (before k there) [
  | inl is ↦ inl (kept k is)
  | inr it ↦ elim it [
    | inl in_order ↦ inr (inl in_order)
    | inr left ↦ elim
        (either (bytes_eq k (get_or keys index e).0) (is_among (drop (index + 1) keys) k)
        (sym (ap (λ (l : List Key). is_among l k) (drop_more keys index e lt)) ∙ left)) [
          | inl here ↦
              let same : k ≡ (get_or keys index e).0 = same_bytes k (get_or keys index e).0 here in
              elim sifted [
                | inl is ↦ inl (ap (is_among more) same ∙ is)
                | inr in_order ↦ inr
                    (inl (ap (λ (q : Bytes). is_late r.drawn (number_of r.spread.keys q) q) same ∙ in_order))
              ]
          | inr later ↦ inr (inr later)
        ]
  ]
]

pub all_sifted : (r : Reach) (keys late : List Key) (index : ℕ) → drop index keys ≡ [] → Sifting r keys late index
    → IsSifted r keys late
all_sifted r keys late index none done k there = elim (done k there) [
  | inl is ↦ inl is
  | inr it ↦ elim it [
    | inl in_order ↦ inr in_order
    | inr left ↦ absurd (not_both (is_among [] k) (sym (ap (λ (l : List Key). is_among l k) none) ∙ left) refl)
  ]
]
