-- What tables forget, they forget after a boot, too.
use Rattle.std.proofs.Common.{◌≡◌, map, ap, sym, ◌∙◌}
use Rattle.zb_model.specs.State.{NodeState, after_boot, booted_net, booted_link, shown, shown_net}
use Rattle.zb_keys.proofs.BootLemmas.{booted_shown}

pub forgets_booted : (s : NodeState) → shown s ≡ s → shown (after_boot s) ≡ after_boot s
unfolding shown after_boot
forgets_booted s forgets =
    let nets : map shown_net s.nets ≡ s.nets = ap (λ (t : NodeState). t.nets) forgets in
    ap (λ l. record s { aps_next = s.aps_limit; nets = l; links = map booted_link s.links })
    (sym (booted_shown s.nets) ∙ ap (map booted_net) nets)
