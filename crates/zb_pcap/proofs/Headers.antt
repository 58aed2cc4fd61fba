-- A MAC header has at least three bytes.
use Rattle.std.proofs.Common.{◌≡◌, ℕ, ◌<◌, ◌≤◌, ◌&&◌, List, length, Bool, true, false, refl, ap, arith, if◌then◌else◌, ◌-◌}
use Rattle.std.specs.Prelude.{nat_lt}
use Rattle.std.proofs.lemmas.Bool.Decides.{nat_tests}
use Rattle.zb_pcap.specs.Mac.{number16, is_plain_data, header_size, payload_of}
use Rattle.zb_pcap.specs.declared.mac.Mac.TheVariants.{Payload, Other}

three_least : (control : ℕ) → 3 ≤ header_size control
unfolding header_size
three_least control = omega arith

not_below : (a b : ℕ) → b ≤ a → nat_lt a b ≡ false
not_below a b h = grind (arith, nat_tests)

not_both : (a b : Bool) → b ≡ false → (a && b) ≡ false
not_both true b e = e
not_both false b e = refl

pub too_short : (body : List ℕ) → length body < 3 → payload_of body ≡ Other
too_short body short =
    let control = number16 body 0 in
    let none : (is_plain_data control && nat_lt (header_size control) (length body)) ≡ false =
    not_both (is_plain_data control) _
    (not_below (header_size control) (length body) (let l = three_least control in omega arith)) in
    ap (λ b. if b then Payload (header_size control) (length body - header_size control) else Other) none
