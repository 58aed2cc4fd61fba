-- The first record of a node gives its tables again.
use Rattle.std.proofs.Common.{◌≡◌, ℕ, ◌<◌, ◌^◌, List, [], length, true, refl, sym, ap, ◌∙◌, subst, arith, Option, Some, None, Result, Ok, Err}
use Rattle.std.specs.Prelude.{IfOk, IfSome}
use Rattle.zb_disk.specs.Memory.{Medium, memory_view}
use Rattle.zb_armed_host.specs.Arms.{IsUnarmed}
use Rattle.zb_keys.specs.Declarations.{first_state, network_of, code_of}
use Rattle.zb_keys.specs.declared.declaration.HeldCode.{HeldCode}
use Rattle.zb_keys.specs.declared.declaration.HeldNetwork.{HeldNetwork}
use Rattle.zb_model.specs.Data.{Bytes, Role}
use Rattle.zb_model.specs.Fits.{keeps_rules, all_fit}
use Rattle.zb_model.specs.Record.{record_of, payload}
use Rattle.zb_model.specs.State.{NodeState, after_boot, applied_all, shown, with_declared, with_given_net, with_given_link}
use Rattle.zb_record.specs.Ranges.{FitsBytes}
use Rattle.zb_store.specs.Store.{IsHeld, formatted}
use Rattle.zb_stored_tables.specs.Stored.{IsStorable, IsStoredAfter}
use Rattle.zb_stored_tables.proofs.CoreLaws.{state_keeps, core_keeps, core_newest}
use Rattle.zb_player_start.specs.Firsts.{IsFirstDisk}

pub role_of : (role : Role) (network : Option (Bytes × ℕ)) (code : Option (ℕ × Bytes)) (nwk aps : ℕ)
    → (first_state role network code nwk aps).role ≡ role
unfolding first_state with_declared with_given_net with_given_link
role_of role None None nwk aps = refl
role_of role None (Some c) nwk aps = refl
role_of role (Some n) None nwk aps = refl
role_of role (Some n) (Some c) nwk aps = refl

-- its values are within the widths of a record
pub fits : (role : Role) (network : Option HeldNetwork) (code : Option HeldCode) (nwk aps : ℕ) → nwk < 2 ^ 32 → aps
    < 2 ^ 32
    → IfSome network (λ (held : HeldNetwork). length held.key.0 ≡ 16)
    → IfSome code (λ (held : HeldCode). (held.partner.0 < 2 ^ 64) × (length held.key.0 ≡ 16))
    → FitsBytes (first_state role (network_of network) (code_of code) nwk aps)
unfolding first_state with_declared with_given_net with_given_link
fits role None None nwk aps n a net link =
    record { declared = n; aps_limit = omega arith; nets = tt; links = tt; pairs = tt }
fits role None (Some c) nwk aps n a net link =
    record {
      declared = n;
      aps_limit = omega arith;
      nets = tt;
      links = (record { partner = link.0; key = link.1; stored = omega arith }, tt);
      pairs = tt;
    }
fits role (Some h) None nwk aps n a net link =
    record {
      declared = n;
      aps_limit = omega arith;
      nets = (record { key = net; limit = omega arith; floors = tt }, tt);
      links = tt;
      pairs = tt;
    }
fits role (Some h) (Some c) nwk aps n a net link = record {
  declared = n;
  aps_limit = omega arith;
  nets = (record { key = net; limit = omega arith; floors = tt }, tt);
  links = (record { partner = link.0; key = link.1; stored = omega arith }, tt);
  pairs = tt;
}

storable : (role : Role) (t : NodeState) → t.role ≡ role → keeps_rules t ≡ true → shown t ≡ t → FitsBytes t
    → IsStorable role t []
unfolding all_fit payload
storable role t is rules forgets widths =
    record {
      role_is = is;
      kept = record { rules = rules; forgets = forgets; widths = widths };
      range = tt;
      fit = refl;
      short = omega arith;
    }

unchanged : (t : NodeState) → shown t ≡ t → IsStoredAfter [] t t
unfolding applied_all
unchanged t forgets = ap after_boot (sym forgets)

-- on a disk where it stands
pub first_disk_is : (role : Role) (t : NodeState) (m : Medium) → t.role ≡ role → keeps_rules t ≡ true → shown t ≡ t
    → FitsBytes t → after_boot t ≡ t
    → IsHeld (formatted (record_of t)) (memory_view m) → IsUnarmed m → m.calls ≡ 5 → IsFirstDisk role t m
first_disk_is role t m is rules forgets widths booted held unarmed calls =
    let may = storable role t is rules forgets widths in
    let same : IsStoredAfter [] t t = unchanged t forgets in
    record {
      held = held;
      unarmed = unarmed;
      calls = calls;
      given = state_keeps role t t [] may same ∙ ap (λ s. Ok (after_boot s)) (sym forgets);
      gives_it = core_keeps role t t [] may same;
      newest = core_newest t;
      booted = ap after_boot forgets ∙ booted ∙ sym forgets;
    }

-- the same of a call that may fail
pub all_first : {E : Type 0} (role : Role) (t u : NodeState) (bytes : List ℕ) (r : Result Medium E) → t ≡ u → u.role
    ≡ role → keeps_rules t ≡ true → shown t ≡ t → FitsBytes u → after_boot t ≡ t → bytes ≡ record_of t
    → IfOk r (λ m. IsHeld (formatted bytes) (memory_view m)) → IfOk r (λ m. IsUnarmed m) → IfOk r (λ m. m.calls ≡ 5)
    → IfOk r (λ m. IsFirstDisk role u m)
all_first role t u bytes (Ok m) e is rules forgets widths booted same held unarmed calls =
    subst (λ s. IsFirstDisk role s m) e
    (first_disk_is role t m (ap (λ (s : NodeState). s.role) e ∙ is) rules forgets (subst FitsBytes (sym e) widths)
    booted (subst (λ b. IsHeld (formatted b) (memory_view m)) same held) unarmed calls)
all_first role t u bytes (Err fault) e is rules forgets widths booted same held unarmed calls = tt
