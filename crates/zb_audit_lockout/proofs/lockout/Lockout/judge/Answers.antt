use Rattle.std.proofs.Common.{◌≡◌, Bool, sym, refl, subst, true}
use Rattle.zb_audit_lockout.specs.Facts.{eui_of_node}
use Rattle.zb_audit_lockout.specs.Standing.{CarriesSome, Draws, Forges, Forgets, CameToHold, Judges, Removes, Seals, Tells}
use Rattle.zb_audit_lockout.specs.Reading.{accepts}
use Rattle.zb_trace.specs.declared.line.Line.{Line}
use Rattle.zb_seal.specs.Carrying.{carried}
use Rattle.zb_audit_lockout.proofs.Lines.{accept_judges, admit_judges, draw_judges, forge_judges, given_link_judges, given_net_judges, install_judges, pair_judges, quiet_judges, quiet_line, remove_judges, row_judges, seal_judges}
use Rattle.zb_audit_lockout.proofs.Results.{if_ok, if_ok_both}
use Rattle.zb_audit_lockout.proofs.lockout.Lockout.judge.Goals as goal

pub returns-in-GivenNet-clause-judges : goal.returns-in-GivenNet-clause-judges
returns-in-GivenNet-clause-judges c =
    let kept : (stays : Bool) → CameToHold c.args.self.now.reach c.hold.new.self.reach _
    → Tells c.args.self.now.reach c.hold.new.self.reach stays
    → Judges c.args.self.now c.hold.new.self c.args.number c.args.line.now c.args.who stays =
    λ stays reach tells. subst (λ (l : Line). Judges c.args.self.now c.hold.new.self c.args.number l c.args.who stays)
    (sym c.in-GivenNet.is)
    (given_net_judges c.args.self.now c.hold.new.self c.args.number c.args.who stays _ _ c.in-GivenNet.key
    c.hold.ensures.past reach tells c.hold.ensures.evidence c.in-GivenNet.node c.in-GivenNet.sequence
    c.eui_of.ensures refl) in
    if_ok c.hold.result _ _ _ c.hold.ensures.reach c.hold.ensures.tells kept

pub returns-in-GivenLink-clause-judges : goal.returns-in-GivenLink-clause-judges
returns-in-GivenLink-clause-judges c =
    let kept : (stays : Bool) → CameToHold c.args.self.now.reach c.hold-in-GivenLink.new.self.reach _
    → Tells c.args.self.now.reach c.hold-in-GivenLink.new.self.reach stays
    → Judges c.args.self.now c.hold-in-GivenLink.new.self c.args.number c.args.line.now c.args.who stays =
    λ stays reach tells. subst
    (λ (l : Line). Judges c.args.self.now c.hold-in-GivenLink.new.self c.args.number l c.args.who stays)
    (sym c.in-GivenLink.is)
    (given_link_judges c.args.self.now c.hold-in-GivenLink.new.self c.args.number c.args.who stays _ _
    c.in-GivenLink.key c.hold-in-GivenLink.ensures.past reach tells c.hold-in-GivenLink.ensures.evidence
    c.in-GivenLink.node c.in-GivenLink.partner c.eui_of-in-GivenLink.ensures refl) in
    if_ok c.hold-in-GivenLink.result _ _ _ c.hold-in-GivenLink.ensures.reach c.hold-in-GivenLink.ensures.tells kept

pub returns-in-Install-clause-judges : goal.returns-in-Install-clause-judges
returns-in-Install-clause-judges c =
    let kept : (stays : Bool) → CameToHold c.args.self.now.reach c.hold-in-Install.new.self.reach _
    → Tells c.args.self.now.reach c.hold-in-Install.new.self.reach stays
    → Judges c.args.self.now c.hold-in-Install.new.self c.args.number c.args.line.now c.args.who stays =
    λ stays reach tells. subst
    (λ (l : Line). Judges c.args.self.now c.hold-in-Install.new.self c.args.number l c.args.who stays)
    (sym c.in-Install.is)
    (install_judges c.args.self.now c.hold-in-Install.new.self c.args.number c.args.who stays _ _ c.in-Install.key
    c.hold-in-Install.ensures.past reach tells c.hold-in-Install.ensures.evidence c.in-Install.event
    c.in-Install.node c.in-Install.sequence c.eui_of-in-Install.ensures refl) in
    if_ok c.hold-in-Install.result _ _ _ c.hold-in-Install.ensures.reach c.hold-in-Install.ensures.tells kept

pub returns-in-Row-clause-judges : goal.returns-in-Row-clause-judges
returns-in-Row-clause-judges c =
    let kept : (stays : Bool) → CameToHold c.args.self.now.reach c.hold-in-Row.new.self.reach _
    → Tells c.args.self.now.reach c.hold-in-Row.new.self.reach stays
    → Judges c.args.self.now c.hold-in-Row.new.self c.args.number c.args.line.now c.args.who stays =
    λ stays reach tells. subst
    (λ (l : Line). Judges c.args.self.now c.hold-in-Row.new.self c.args.number l c.args.who stays)
    (sym c.in-Row.is)
    (row_judges c.args.self.now c.hold-in-Row.new.self c.args.number c.args.who stays _ _ c.in-Row.key
    c.hold-in-Row.ensures.past reach tells c.hold-in-Row.ensures.evidence c.in-Row.event c.in-Row.node
    c.in-Row.partner c.in-Row.attribute c.eui_of-in-Row.ensures c.partner_at.ensures) in
    if_ok c.hold-in-Row.result _ _ _ c.hold-in-Row.ensures.reach c.hold-in-Row.ensures.tells kept

pub returns-in-Pair-clause-judges : goal.returns-in-Pair-clause-judges
returns-in-Pair-clause-judges c =
    let kept : (stays : Bool) → CameToHold c.args.self.now.reach c.hold-in-Pair.new.self.reach _
    → Tells c.args.self.now.reach c.hold-in-Pair.new.self.reach stays
    → Judges c.args.self.now c.hold-in-Pair.new.self c.args.number c.args.line.now c.args.who stays =
    λ stays reach tells. subst
    (λ (l : Line). Judges c.args.self.now c.hold-in-Pair.new.self c.args.number l c.args.who stays)
    (sym c.in-Pair.is)
    (pair_judges c.args.self.now c.hold-in-Pair.new.self c.args.number c.args.who stays _ _ c.in-Pair.key
    c.hold-in-Pair.ensures.past reach tells c.hold-in-Pair.ensures.evidence c.in-Pair.event c.in-Pair.node
    c.in-Pair.first c.in-Pair.second refl refl) in
    if_ok c.hold-in-Pair.result _ _ _ c.hold-in-Pair.ensures.reach c.hold-in-Pair.ensures.tells kept

pub returns-in-Draw-clause-judges : goal.returns-in-Draw-clause-judges
returns-in-Draw-clause-judges c =
    let kept : (stays : Bool) → Draws c.args.self.now.reach c.draw.new.self.reach c.in-Draw.key
    → Tells c.args.self.now.reach c.draw.new.self.reach stays
    → Judges c.args.self.now c.draw.new.self c.args.number c.args.line.now c.args.who stays =
    λ stays one tells. subst (λ (l : Line). Judges c.args.self.now c.draw.new.self c.args.number l c.args.who stays)
    (sym c.in-Draw.is)
    (draw_judges c.args.self.now c.draw.new.self c.args.number c.in-Draw.event c.in-Draw.key c.args.who stays
    c.draw.ensures.past one tells c.draw.ensures.evidence) in
    if_ok c.draw.result _ _ _ c.draw.ensures.reach c.draw.ensures.tells kept

pub returns-in-Removed-clause-judges : goal.returns-in-Removed-clause-judges
returns-in-Removed-clause-judges c =
    let kept : (stays : Bool) → Removes c.args.self.now.reach c.remove.new.self.reach c.in-Removed.device.0
    c.args.number → stays ≡ true
    → Judges c.args.self.now c.remove.new.self c.args.number c.args.line.now c.args.who stays =
    λ stays removes stay. subst
    (λ (l : Line). Judges c.args.self.now c.remove.new.self c.args.number l c.args.who stays) (sym c.in-Removed.is)
    (remove_judges c.args.self.now c.remove.new.self c.args.number c.in-Removed.event c.in-Removed.device c.args.who
    stays stay c.remove.ensures.past removes c.remove.ensures.evidence) in
    if_ok c.remove.result _ _ _ c.remove.ensures.removes c.remove.ensures.stays kept

pub returns-in-Live-clause-judges : goal.returns-in-Live-clause-judges
returns-in-Live-clause-judges c =
    subst (λ (l : Line). Judges c.args.self.now c.admit.new.self c.args.number l c.args.who c.admit.result)
    (sym c.in-Live.is)
    (admit_judges c.args.self.now c.admit.new.self c.args.number c.in-Live.event c.in-Live.device c.args.who
    c.admit.result c.admit.ensures.stays c.admit.ensures.past c.admit.ensures.admits c.admit.ensures.evidence)

pub returns-in-Seal-clause-judges : goal.returns-in-Seal-clause-judges
returns-in-Seal-clause-judges c =
    let kept : (stays : Bool) → CarriesSome c.args.self.now.reach c.seal.new.self.reach c.in-Seal.term.base
    (carried c.in-Seal.term)
    → Seals c.args.self.now.reach c.args.self.now.evidence c.seal.new.self.evidence (eui_of_node c.args.who.node)
    c.in-Seal.term → Tells c.args.self.now.reach c.seal.new.self.reach stays
    → Judges c.args.self.now c.seal.new.self c.args.number c.args.line.now c.args.who stays =
    λ stays carries seals tells. subst
    (λ (l : Line). Judges c.args.self.now c.seal.new.self c.args.number l c.args.who stays) (sym c.in-Seal.is)
    (seal_judges c.args.self.now c.seal.new.self c.args.number c.in-Seal.event c.in-Seal.node c.in-Seal.term
    c.args.who stays c.seal.ensures.past carries tells seals) in
    if_ok_both c.seal.result _ _ _ _ c.seal.ensures.reach c.seal.ensures.evidence c.seal.ensures.tells kept

pub returns-in-Forge-clause-judges : goal.returns-in-Forge-clause-judges
returns-in-Forge-clause-judges c =
    let kept : (stays : Bool) → CarriesSome c.args.self.now.reach c.forge.new.self.reach c.in-Forge.term.base
    (carried c.in-Forge.term)
    → Forges c.args.self.now.evidence c.forge.new.self.evidence c.in-Forge.term
    → Tells c.args.self.now.reach c.forge.new.self.reach stays
    → Judges c.args.self.now c.forge.new.self c.args.number c.args.line.now c.args.who stays =
    λ stays carries forges tells. subst
    (λ (l : Line). Judges c.args.self.now c.forge.new.self c.args.number l c.args.who stays) (sym c.in-Forge.is)
    (forge_judges c.args.self.now c.forge.new.self c.args.number c.in-Forge.event c.in-Forge.term c.args.who stays
    c.forge.ensures.past carries tells forges) in
    if_ok_both c.forge.result _ _ _ _ c.forge.ensures.reach c.forge.ensures.evidence c.forge.ensures.tells kept

pub returns-in-Accept-clause-judges : goal.returns-in-Accept-clause-judges
returns-in-Accept-clause-judges c =
    let kept : (stays : Bool) → Forgets c.args.self.now.reach.windows c.args.self.now.evidence
    c.accepts.new.self.evidence → stays ≡ accepts c.args.self.now c.args.who.place c.in-Accept.term
    → Judges c.args.self.now c.accepts.new.self c.args.number c.args.line.now c.args.who stays =
    λ stays forgets is. subst
    (λ (l : Line). Judges c.args.self.now c.accepts.new.self c.args.number l c.args.who stays) (sym c.in-Accept.is)
    (accept_judges c.args.self.now c.accepts.new.self c.args.number c.in-Accept.event c.in-Accept.node
    c.in-Accept.term c.args.who stays is c.accepts.ensures.past c.accepts.ensures.reach forgets) in
    if_ok c.accepts.result _ _ _ c.accepts.ensures.evidence c.accepts.ensures.stays kept

pub returns-in_default : goal.returns-in_default
returns-in_default c =
    let it = c.in_default in
    record {
      judges = quiet_judges c.args.self.now c.args.number c.args.line.now c.args.who
          (quiet_line c.args.line.now it.not-GivenNet it.not-GivenLink it.not-Install it.not-Row it.not-Pair
          it.not-Draw it.not-Removed it.not-Live it.not-Seal it.not-Forge it.not-Accept);
      first = refl;
    }
