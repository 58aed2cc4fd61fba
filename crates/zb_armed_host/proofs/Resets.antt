-- A reset, and which gates stand open.
use Rattle.std.proofs.Common.{◌≡◌, ◌≢◌, ◌==◌, ◌&&◌, ℕ, List, Bool, true, false, not, if◌then◌else◌, refl, sym, ◌∙◌, ap, subst}
use Rattle.std.proofs.lemmas.Bool.{ne_eqb}
use Rattle.zb_disk.specs.View.{Only}
use Rattle.zb_disk.specs.declared.memory.Arming.TheVariants.{Unarmed}
use Rattle.zb_disk.specs.MemoryLaws.{image_seen}
use Rattle.zb_disk.specs.Memory.{Medium, refuses, torn_by, powered, memory_view}
use Rattle.zb_store.specs.Layout.{Standing, IsWhole, slot, gate_of, open_gate}
use Rattle.zb_store.specs.Store.{IsHeld, both_gates_open}
use Rattle.zb_armed_host.specs.Arms.{IsUnarmed}
use Rattle.zb_armed_host.specs.Driven.{IsAtRest}
use Rattle.zb_armed_host.proofs.Armings.{on}

pub bytes_stay : (m : Medium) → IsUnarmed m → (powered m).bytes ≡ m.bytes
unfolding powered
bytes_stay m quiet = ap (λ b. if b then torn_by m.torn m.bytes m.written else m.bytes) (on m quiet)

still_quiet : (m : Medium) → IsUnarmed m → IsUnarmed (powered m)
unfolding powered
still_quiet m quiet = λ k. ap (λ b. refuses (if b then Unarmed else m.arming) k) (on m quiet) ∙ quiet k

pub at_rest : (s : Standing) (m : Medium) → IsHeld s (memory_view m) → IsUnarmed m
    → Only (powered m).bytes (memory_view (powered m)).images → IsAtRest s (powered m)
at_rest s m held quiet only = record {
  only = only;
  whole = subst (IsWhole s) (sym (bytes_stay m quiet)) (held.whole m.bytes (image_seen m.bytes m.written m.grown));
  unarmed = still_quiet m quiet;
}

and_false : (b : Bool) → (b && false) ≡ false
and_false true = refl
and_false false = refl

one_gate : (second : Bool) (bytes : List ℕ) → gate_of (slot (not second) bytes) ≢ open_gate → both_gates_open bytes
    ≡ false
one_gate true bytes closed = ap (λ (b : Bool). b && (gate_of (slot true bytes) == open_gate))
    (ne_eqb (gate_of (slot false bytes)) open_gate closed)
one_gate false bytes closed =
    ap (λ (b : Bool). (gate_of (slot false bytes) == open_gate) && b)
    (ne_eqb (gate_of (slot true bytes)) open_gate closed) ∙ and_false (gate_of (slot false bytes) == open_gate)

-- of what is held one gate alone is open
pub one_open : (s : Standing) (m : Medium) → IsHeld s (memory_view m) → both_gates_open m.bytes ≡ false
one_open s m held = one_gate s.second m.bytes (held.closed m.bytes (image_seen m.bytes m.written m.grown))
