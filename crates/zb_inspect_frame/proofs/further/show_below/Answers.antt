use Rattle.std.proofs.Common.{take, refl, ap, sym, ◌∙◌}
use Rattle.zb_nwk.specs.Reading as nwk_reading
use Rattle.zb_inspect_frame.specs.Shows.{frame_shown, shown_under}
use Rattle.zb_inspect_frame.specs.declared.layer.Finding.{Finding}
use Rattle.zb_inspect_frame.specs.declared.shown.Shown.{Shown}
use Rattle.zb_inspect_frame.proofs.MoreKeys.{below_before, frame_anew, frame_found}
use Rattle.zb_inspect_frame.proofs.further.show_below.Goals as goal

pub look_further-below-requires-clause-before : goal.look_further-below-requires-clause-before
look_further-below-requires-clause-before c =
    let was = frame_shown c.args.addrs.now (take c.args.known c.args.keys.now) c.args.frame.now.items in
    let is = c.replace-nwk.ensures.value ∙ c.requires.before in
    below_before c.args.known c.args.addrs.now c.args.keys.now c.args.frame.now.items was c.replace-nwk.result.nwk
    c.in-Some.below refl (ap (λ (s : Shown). s.nwk) is) (sym (ap (λ (s : Shown). s.below) is) ∙ c.in-Some.is)

pub returns-in-Some : goal.returns-in-Some
returns-in-Some c =
    let was = frame_shown c.args.addrs.now (take c.args.known c.args.keys.now) c.args.frame.now.items in
    let is = c.replace-nwk.ensures.value ∙ c.requires.before in
    frame_found c.args.known c.args.addrs.now c.args.keys.now c.args.frame.now.items was c.replace-nwk.result.nwk
    c.in-Some.below c.look_further-below.result c.requires.within refl (ap (λ (s : Shown). s.nwk) is)
    (sym (ap (λ (s : Shown). s.below) is) ∙ c.in-Some.is) c.look_further-below.ensures

pub returns-in-None : goal.returns-in-None
returns-in-None c =
    let was = frame_shown c.args.addrs.now (take c.args.known c.args.keys.now) c.args.frame.now.items in
    let bytes = c.args.frame.now.items in
    c.show_under.ensures
    ∙ ap (λ (n : Finding). shown_under c.args.addrs.now c.args.keys.now n (nwk_reading.frame_of bytes))
    (ap (λ (s : Shown). s.nwk) (c.replace-nwk.ensures.value ∙ c.requires.before))
    ∙ frame_anew c.args.known c.args.addrs.now c.args.keys.now bytes was c.requires.within refl
