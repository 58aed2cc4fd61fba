-- Whether keys come out for removed devices that were drawn since.
use Rattle.std.proofs.Common.{◌≡◌, ◌⊎◌, ℕ, ◌+◌, ◌<◌, ◌≤◌, List, [], ◌∷◌, Bool, true, false, not, ◌||◌, ◌&&◌, Some, None, inl, inr, refl, arith, ap, sym, ◌∙◌, subst, bytes_eq, nat_eq}
use Rattle.std.specs.Prelude.{if◌then◌else◌}
use Rattle.std.specs.BTreeMap.{BTreeMap, get}
use Rattle.std.specs.List.{list_any}
use Rattle.std.specs.Option.{option_or}
use Rattle.std.proofs.lemmas.Bool.{leb-true}
use Rattle.std.proofs.lemmas.Bool.Decides.{leb_tells}
use Rattle.zb_base.specs.declared.address.Eui.{Eui}
use Rattle.zb_base.specs.declared.key.Key.{Key}
use Rattle.zb_audit_lockout.specs.Backing.{IsBack, Notes, is_holder}
use Rattle.zb_audit_lockout.specs.Raising.{Raises}
use Rattle.zb_audit_lockout.specs.Reading.{early_of, is_late, number_of, open_at, or_zero}
use Rattle.zb_audit_lockout.specs.Spreading.{Enters, IsShut}
use Rattle.zb_audit_lockout.specs.Standing.{Checked, CameToHold, IsBelow, IsNearlySafe, IsSafe, IsSafeBut}
use Rattle.zb_audit_lockout.specs.Standing.{IsUnsafe, Judged, Removes, Tells, TriedOne}
use Rattle.zb_audit_lockout.specs.declared.back.Back.{Back}
use Rattle.zb_audit_lockout.specs.declared.numbers.Numbers.{Numbers}
use Rattle.zb_audit_lockout.specs.declared.opened.Opening.{Opening}
use Rattle.zb_audit_lockout.specs.declared.reach.Reach.{Reach}
use Rattle.zb_audit_lockout.specs.declared.spread.Spread.{Spread}
use Rattle.zb_audit_lockout.specs.declared.windows.Windows.{Windows}
use Rattle.zb_audit_lockout.proofs.Entering.{raised_spread}
use Rattle.zb_audit_lockout.proofs.Tests.{left_off, right_off, was_off, was_on}
use Rattle.zb_model.specs.Data.{Bytes}
use Rattle.zb_model.specs.Secrets.{well_known}
use Rattle.zb_trace_watch.specs.Sets.{eui_cmp, is_among, is_carried, node_has}
use Rattle.zb_trace_watch.specs.declared.holdings.Holdings.{Holdings}
use Rattle.zb_trace_watch.proofs.Truth.{and_left, and_right, both, decided, either, itself, not_both, or_left, or_right, same_bytes, same_number}

-- Late keys of a list

none_so : (P : Bytes → Bool) (k : Bytes) (keys : List Key) → list_any (λ (key : Key). P key.0) keys ≡ false
    → is_among keys k ≡ true → P k ≡ false
none_so P k [] none there = cc
none_so P k (key ∷ keys) none there =
    elim (either (bytes_eq k key.0) (is_among keys k) there) [
      | inl here ↦ ap P (same_bytes k key.0 here) ∙ left_off (P key.0) _ none
      | inr later ↦ none_so P k keys (right_off (P key.0) _ none) later
    ]

pub record IsOneSo (P : Bytes → Bool) (keys : List Key) : Type 0 where
  pub key : Bytes
  pub among : is_among keys key ≡ true
  pub so : P key ≡ true

one_so : (P : Bytes → Bool) (keys : List Key) → list_any (λ (key : Key). P key.0) keys ≡ true → IsOneSo P keys
one_so P [] some = cc
one_so P (key ∷ keys) some =
    elim (either (P key.0) (list_any (λ (x : Key). P x.0) keys) some) [
      | inl here ↦ record { key = key.0; among = or_left _ _ (itself key.0); so = here }
      | inr later ↦ let it = one_so P keys later in record { key = it.key; among = or_right _ _ it.among; so = it.so }
    ]

pub in_time : (drawn : Numbers) (early : ℕ) (k : Bytes) → is_late drawn early k ≡ false
    → early + number_of drawn k < 4294967296
in_time drawn early k not_late = elim (leb_tells 4294967296 (early + number_of drawn k)) [
  | inl it ↦ absurd (not_both (is_late drawn early k) it.0 not_late)
  | inr it ↦ it.1
]

-- The same keys come out, and were drawn as before.
pub below_kept : (old new : Reach) (k : Bytes) → number_of new.spread.keys k ≡ number_of old.spread.keys k
    → new.drawn ≡ old.drawn → IsBelow old k → IsBelow new k
below_kept old new k kept drawn (inl none) = inl (kept ∙ none)
below_kept old new k kept drawn (inr low) =
    inr
    (let was : number_of old.spread.keys k + number_of old.drawn k < 4294967296 = low in
    let same : number_of new.drawn k ≡ number_of old.drawn k = ap (λ (n : Numbers). number_of n k) drawn in
    let is : number_of new.spread.keys k ≡ number_of old.spread.keys k = kept in
    omega arith)

below_told : (r new : Reach) (early : ℕ) (raised : List Key) → new.drawn ≡ r.drawn
    → list_any (λ (key : Key). is_late r.drawn early key.0) raised ≡ false
    → (k : Bytes) → (number_of new.spread.keys k ≡ number_of r.spread.keys k)
    ⊎ ((number_of new.spread.keys k ≡ early) × (is_among raised k ≡ true)) → IsBelow r k → IsBelow new k
below_told r new early raised same none k (inr it) below =
    inr
    (let low : early + number_of r.drawn k < 4294967296 =
    in_time r.drawn early k (none_so (is_late r.drawn early) k raised none it.1) in
    let is : number_of new.spread.keys k ≡ early = it.0 in
    let drawn : number_of new.drawn k ≡ number_of r.drawn k = ap (λ (n : Numbers). number_of n k) same in
    omega arith)
below_told r new early raised same none k (inl kept) below = below_kept r new k kept same below

-- A key is raised to a level, and what is raised with it is still to be checked.
raised_but : (old : Reach) (spread : Spread) (key : Key) (early level : ℕ) (raised : List Key) → early ≤ level
    → Raises old.leads old.spread.keys spread.keys (key ∷ []) level raised → spread.devices ≡ old.spread.devices
    → IsNearlySafe old key early
    → IsSafeBut (record {
      windows = old.windows;
      leads = old.leads;
      held = old.held;
      back = old.back;
      drawn = old.drawn;
      spread = spread;
    }) raised
raised_but old spread key early level raised high raises devices nearly = record {
  back = nearly.back;
  spread = raised_spread old.leads old.held old.spread spread (key ∷ []) level raised same raises
      (record {
        has = λ d k there. elim (nearly.spread.has d k there) [
          | inl le ↦ inl le
          | inr it ↦ inr (it.0, (let low : early_of old.spread d ≤ early = it.1 in omega (arith, low, high)))
        ];
        carried = λ b k there. elim (nearly.spread.carried b k there) [
          | inl le ↦ inl le
          | inr it ↦ inr (it.0, (let low : number_of old.spread.keys b ≤ early = it.1 in omega (arith, low, high)))
        ];
      });
  opened = λ d number found.
      (let is : early_of spread d ≡ early_of old.spread d = same d in let it : 4294967296
      ≤ early_of old.spread d + number = nearly.opened d number found in omega (arith, is, it));
  below = λ k. elim (raises.told k) [
    | inl kept ↦ inl (below_kept old (record {
      windows = old.windows;
      leads = old.leads;
      held = old.held;
      back = old.back;
      drawn = old.drawn;
      spread = spread;
    }) k kept refl (nearly.below k))
    | inr it ↦ inr it.among
  ];
}
  where
    same : (e : ℕ) → early_of spread e ≡ early_of old.spread e
    same e = ap (λ (m : BTreeMap Eui ℕ). or_zero (get eui_cmp m (record { 0 = e }))) devices

pub followed : (old new : Reach) (spread : Spread) (key : Key) (early level : ℕ) (raised : List Key) (stays : Bool)
    → early ≤ level → Raises old.leads old.spread.keys spread.keys (key ∷ []) level raised
    → spread.devices ≡ old.spread.devices
    → Checked (record {
      windows = old.windows;
      leads = old.leads;
      held = old.held;
      back = old.back;
      drawn = old.drawn;
      spread = spread;
    }) new raised stays → Judged old new key early stays
followed old new spread key early level raised stays high raises devices all = record {
  safe = λ nearly stay.
      all.safe (raised_but old spread key early level raised high raises devices nearly) stay;
  out = all.out;
}

-- A device is entered
pub tries : (old : Reach) (spread : Spread) (opening : Opening) (early : ℕ) (raised : List Key) (stays : Bool)
    → early + opening.number ≡ 4294967296
    → Enters old.leads old.held old.spread spread opening.device.0 early raised
    → stays ≡ not (list_any (λ (k : Key). is_late old.drawn early k.0) raised)
    → TriedOne old (record {
      windows = old.windows;
      leads = old.leads;
      held = old.held;
      back = old.back;
      drawn = old.drawn;
      spread = spread;
    }) opening stays
tries old spread opening early raised stays early_is enters stays_is = record {
  spread = enters.spread;
  reached = (let it : early ≤ early_of spread opening.device.0 = enters.reached in omega (arith, it, early_is));
  kept = enters.kept;
  below = λ stay k before.
      below_told old (record {
        windows = old.windows;
        leads = old.leads;
        held = old.held;
        back = old.back;
        drawn = old.drawn;
        spread = spread;
      }) early raised refl (was_off _ (sym stays_is ∙ stay)) k (enters.told k) before;
  out = λ out found.
      let it = one_so (is_late old.drawn early) raised (was_on _ (sym stays_is ∙ out)) in
      record {
        device = opening.device.0;
        number = opening.number;
        key = it.key;
        found = found;
        late = (let high : 4294967296 ≤ early + number_of old.drawn it.key =
            leb-true 4294967296 (early + number_of old.drawn it.key) it.so in omega (arith, high, early_is));
        shown = λ S shut. enters.least S shut it.key it.among;
      };
}

pub removed_so : (old : Reach) (windows : Windows) (spread : Spread) (d number early : ℕ) (raised : List Key)
    → ((e : ℕ) → open_at windows e ≡ option_or (open_at old.windows e) (if nat_eq e d then Some number else None))
    → windows.last ≡ number → number < 4294967296 → early + number ≡ 4294967296
    → Enters old.leads old.held old.spread spread d early raised
    → Removes old (record {
      windows = windows;
      leads = old.leads;
      held = old.held;
      back = old.back;
      drawn = old.drawn;
      spread = spread;
    }) d number
removed_so old windows spread d number early raised found last small early_is enters = record {
  found = found;
  last = last;
  small = small;
  leads = refl;
  held = refl;
  back = refl;
  drawn = refl;
  spread = enters.spread;
  reached = (let it : early ≤ early_of spread d = enters.reached in omega (arith, it, early_is));
  kept = enters.kept;
  told = λ k. elim (enters.told k) [
    | inl same ↦ inl same
    | inr it ↦ inr (let is : number_of spread.keys k ≡ early = it.0 in omega (arith, is, early_is))
  ];
}

-- What the answer says about a line

-- A key was drawn, and is still to be checked.
drawn_but : (old : Reach) (drawn : Numbers) (key : Key)
    → ((k : Bytes) → number_of drawn k ≡ (if bytes_eq k key.0 then old.windows.last else number_of old.drawn k))
    → IsSafe old
    → IsSafeBut (record {
      windows = old.windows;
      leads = old.leads;
      held = old.held;
      back = old.back;
      drawn = drawn;
      spread = old.spread;
    }) (key ∷ [])
drawn_but old drawn key drawn_is safe = record {
  back = safe.back;
  spread = safe.spread;
  opened = safe.opened;
  below = λ k. elim (decided (bytes_eq k key.0)) [
    | inl is ↦ inr (or_left _ _ is)
    | inr other ↦ inl (elim (safe.below k) [
      | inl zero_at ↦ inl zero_at
      | inr low ↦ inr
          (let was : number_of old.spread.keys k + number_of old.drawn k < 4294967296 = low in
          let same : number_of drawn k ≡ number_of old.drawn k = drawn_is k ∙ ap
          (λ (b : Bool). if b then old.windows.last else number_of old.drawn k) other in
          omega arith)
    ])
  ];
}

pub drawn_tells : (old new : Reach) (drawn : Numbers) (key : Key) (stays : Bool)
    → ((k : Bytes) → number_of drawn k ≡ (if bytes_eq k key.0 then old.windows.last else number_of old.drawn k))
    → Checked (record {
      windows = old.windows;
      leads = old.leads;
      held = old.held;
      back = old.back;
      drawn = drawn;
      spread = old.spread;
    }) new (key ∷ []) stays → Tells old new stays
drawn_tells old new drawn key stays drawn_is checked = record {
  safe = λ safe stay. checked.safe (drawn_but old drawn key drawn_is safe) stay;
  out = checked.out;
}

pub carried_tells : (old : Reach) (new : Reach) (leads bases : Holdings Key) (base key : Key) (early : ℕ)
    (stays : Bool)
    → ((b k : Bytes) → is_carried leads b k
    ≡ (is_carried old.leads b k || (bytes_eq b base.0 && bytes_eq k key.0)))
    → ((k b : Bytes) → is_carried bases k b
    ≡ (is_carried old.back.bases k b || (bytes_eq k key.0 && bytes_eq b base.0)))
    → early ≡ number_of old.spread.keys base.0
    → Judged (record {
      windows = old.windows;
      leads = leads;
      held = old.held;
      back = record { bases = bases; holders = old.back.holders };
      drawn = old.drawn;
      spread = old.spread;
    }) new key early stays → Tells old new stays
carried_tells old new leads bases base key early stays leads_is bases_is early_is judged = record {
  safe = λ safe stay. judged.safe (record {
    back = record {
      bases = λ b k there.
          let found : (is_carried old.back.bases k b || (bytes_eq k key.0 && bytes_eq b base.0)) ≡ true =
          elim
          (either (is_carried old.leads b k) (bytes_eq b base.0 && bytes_eq k key.0)
          (sym (leads_is b k) ∙ there)) [
            | inl before ↦ or_left _ _ (safe.back.bases b k before)
            | inr it ↦ or_right (is_carried old.back.bases k b) _
                (both _ _ (and_right (bytes_eq b base.0) _ it) (and_left _ _ it))
          ] in
          bases_is k b ∙ found;
      holders = λ d k there. safe.back.holders d k there;
    };
    spread = record {
      has = λ d k there. inl (safe.spread.has d k there);
      carried = λ b k there.
          elim
          (either (is_carried old.leads b k) (bytes_eq b base.0 && bytes_eq k key.0)
          (sym (leads_is b k) ∙ there)) [
            | inl before ↦ inl (safe.spread.carried b k before)
            | inr it ↦ inr (
              or_left _ _ (and_right (bytes_eq b base.0) _ it),
              (let at : number_of old.spread.keys b ≡ number_of old.spread.keys base.0 =
                  ap (number_of old.spread.keys) (same_bytes b base.0 (and_left _ _ it)) in
                  omega (arith, early_is, at)),
            )
          ];
    };
    opened = safe.opened;
    below = safe.below;
  }) stay;
  out = judged.out;
}

-- A device got a key, and is found from it.
held_back : (old : Reach) (held : Holdings Eui) (back : Back) (device : Eui) (key : Key)
    → ((d : ℕ) (k : Bytes) → node_has held d k
    ≡ (node_has old.held d k || (nat_eq d device.0 && bytes_eq k key.0)))
    → Notes old.held old.back back device.0 key.0 → IsBack old.leads old.held old.back
    → IsBack old.leads held back
held_back old held back device key held_is notes before = record {
  bases = λ b k there. ap (λ (h : Holdings Key). is_carried h k b) notes.bases ∙ before.bases b k there;
  holders = λ d k there.
      elim (either (node_has old.held d k) (nat_eq d device.0 && bytes_eq k key.0) (sym (held_is d k) ∙ there)) [
        | inl had ↦ notes.kept k d (before.holders d k had)
        | inr it ↦
            ap (λ (x : Bytes). is_holder back x d) (same_bytes k key.0 (and_right (nat_eq d device.0) _ it))
            ∙ (ap (is_holder back key.0) (same_number d device.0 (and_left _ _ it)) ∙ now)
      ];
}
  where
    now : is_holder back key.0 device.0 ≡ true
    now = elim notes.noted [
      | inl had ↦ notes.kept key.0 device.0 (before.holders device.0 key.0 had)
      | inr it ↦ it
    ]

pub held_tells : (old : Reach) (new : Reach) (held : Holdings Eui) (back : Back) (device : Eui) (key : Key)
    (early : ℕ) (stays : Bool)
    → ((d : ℕ) (k : Bytes) → node_has held d k
    ≡ (node_has old.held d k || (nat_eq d device.0 && bytes_eq k key.0)))
    → Notes old.held old.back back device.0 key.0 → early ≡ early_of old.spread device.0
    → Judged (record {
      windows = old.windows;
      leads = old.leads;
      held = held;
      back = back;
      drawn = old.drawn;
      spread = old.spread;
    }) new key early stays → Tells old new stays
held_tells old new held back device key early stays held_is notes early_is judged = record {
  safe = λ safe stay. judged.safe (record {
    back = held_back old held back device key held_is notes safe.back;
    spread = record {
      has = λ d k there. elim (either (bytes_eq k well_known) (node_has held d k) there) [
        | inl everybody ↦ inl (safe.spread.has d k (or_left _ _ everybody))
        | inr has ↦ elim
            (either (node_has old.held d k) (nat_eq d device.0 && bytes_eq k key.0) (sym (held_is d k) ∙ has)) [
              | inl before ↦ inl (safe.spread.has d k (or_right (bytes_eq k well_known) _ before))
              | inr it ↦ inr (
                or_left _ _ (and_right (nat_eq d device.0) _ it),
                (let at : early_of old.spread d ≡ early_of old.spread device.0 =
                    ap (early_of old.spread) (same_number d device.0 (and_left _ _ it)) in
                    omega (arith, early_is, at)),
              )
            ]
      ];
      carried = λ b k there. inl (safe.spread.carried b k there);
    };
    opened = safe.opened;
    below = safe.below;
  }) stay;
  out = judged.out;
}

pub nothing_tells : (r : Reach) → Tells r r true
nothing_tells r = record { safe = λ safe stay. safe; out = λ out. cc }

module _ (old new : Reach) (more : ℕ → Bytes → Bool) (holds : CameToHold old new more) where
  shut_before : (S : Bytes → Bool) (d : ℕ) → IsShut new.leads new.held d S → IsShut old.leads old.held d S
  shut_before S d shut = record {
    has = λ k there. shut.has k (elim (either (bytes_eq k well_known) (node_has old.held d k) there) [
      | inl everybody ↦ or_left _ _ everybody
      | inr has ↦ or_right (bytes_eq k well_known) _ (holds.held d k ∙ or_left _ _ has)
    ]);
    carried = λ b k there edge. shut.carried b k there
        (ap (λ (l : Holdings Key). is_carried l b k) holds.leads ∙ edge);
  }

  pub grown_unsafe : IsUnsafe old → IsUnsafe new
  grown_unsafe u = record {
    device = u.device;
    number = u.number;
    key = u.key;
    found = ap (λ (w : Windows). open_at w u.device) holds.windows ∙ u.found;
    late = subst (λ (n : Numbers). u.number ≤ number_of n u.key) (sym holds.drawn) u.late;
    shown = λ S shut. u.shown S (shut_before S u.device shut);
  }

-- One after the other.
pub both_tell : (old mid new : Reach) (first second : Bool) → Tells old mid first → Tells mid new second → first
    ≡ true → Tells old new second
both_tell old mid new first second a b on =
    record { safe = λ safe stay. b.safe (a.safe safe on) stay; out = λ out. b.out out }

pub first_tells : (old mid new : Reach) (first : Bool) (more : ℕ → Bytes → Bool) → Tells old mid first
    → CameToHold mid new more → first ≡ false → Tells old new first
first_tells old mid new first more a holds off =
    record {
      safe = λ safe stay. absurd (not_both first stay off);
      out = λ out. grown_unsafe mid new more holds
          (a.out off);
    }
