-- In the run of a hub no counter of a sender is accepted twice, and only stored keys are confirmed.
use Rattle.std.proofs.Common.{◌≡◌, ℕ, ◌<◌, ◌^◌, true, nat_eq, is_some, List, [], ◌∷◌, ◌++◌, length, Option, Some, None, sym, ◌∙◌, subst, eqb-true}
use Rattle.std.proofs.lemmas.Bool.{false≢true}
use Rattle.law_sessions.specs.Hubs.{hub_events}
use Rattle.law_sessions.proofs.Carried.{IsCarried, group_is, own_setting, run_carries}
use Rattle.law_run.specs.Commanding.{OneCentre, SpellsConfirm}
use Rattle.law_run.specs.Opening.{Opens}
use Rattle.law_run.proofs.Basics.{each-append}
use Rattle.law_run.proofs.ConfirmsLines.{Calm, Firm, firm-lines}
use Rattle.law_run.proofs.ConfirmsRuns.{group-claims, group-firm, here, run-centre, start-firm}
use Rattle.law_run.proofs.ConfirmsRuns.{plain as sealless}
use Rattle.law_run.proofs.Groups.{NoSeal}
use Rattle.law_run.proofs.Judged.{plan-accepts}
use Rattle.law_run.proofs.LockoutDeeds.{plan-fits}
use Rattle.law_run.proofs.OnceGroups.{NoAccept, group-accepts, plain}
use Rattle.law_run.proofs.OnceLines.{AcceptFits, once-lines}
use Rattle.law_run.proofs.Runs.{FoundIs, IsStation, Me, are-stations, found-is, hidden-declared, start-plain}
use Rattle.law_run.proofs.Sound.{sound}
use Rattle.law_run_steps.specs.Steps.{whole_lines}
use Rattle.law_run_steps.proofs.Walks.{OfStart, start-all}
use Rattle.zb_model.specs.Answer.{answer, plan_of}
use Rattle.zb_model.specs.Claims.{ConfirmLine, Confirms, Each, Once}
use Rattle.zb_model.specs.Data.{Station, Task}
use Rattle.zb_model.specs.Lines.{Line, Boot, DownReset, Inject}
use Rattle.zb_model.specs.Play.{Schedule, setting_of, start, stations}
use Rattle.zb_model.specs.Readings.{state_of}
use Rattle.zb_model.specs.Rules.{centre_of, is_declared, station_of}
use Rattle.zb_model.specs.Schedules.{IsSchedule, Names}
use Rattle.zb_model.specs.State.{is_centre}
use Rattle.zb_model.specs.Tools.{Tools}
use Rattle.zb_model.specs.Transcript.{end_line, run_lines, transcript}

-- the nodes are those that a schedule may have
abbrev pub HasNodes : Schedule → Type 0
HasNodes w = IsSchedule (record w { events = [] })

-- ---- accepted counters

-- each accepted term fits the lines before it
abbrev AreTaken : List Line → Type 0
AreTaken h = Each AcceptFits [] h

accepts_carried : (tools : Tools) → Opens tools → (w : Schedule) (n : ℕ) → Me (setting_of w n) n
    → IsCarried tools w n AreTaken
unfolding answer
accepts_carried tools opens w n me = record {
  answers = λ h number task fit.
      let c = setting_of w n in
      let s = state_of h n in
      each-append AcceptFits [] h (whole_lines h number n (answer tools c s task)) fit
      (subst (Each AcceptFits h) (group_is h number n (answer tools c s task))
      (group-accepts tools c h h number n (plan_of tools c s task) me.in_block
      (plan-accepts tools opens c s (sound h n) task)));
  injects = λ h number frame bytes fit. each-append AcceptFits [] h (Inject number frame bytes ∷ []) fit (tt, tt);
  resets = λ h number fit. each-append AcceptFits [] h (DownReset number n ∷ []) fit (tt, tt);
  boots = λ h number fit. each-append AcceptFits [] h (Boot number n ∷ []) fit (tt, tt);
}

start_accepts : OfStart NoAccept
unfolding NoAccept
start_accepts = record {
  declared = λ p. tt;
  net = λ n key sequence. tt;
  link = λ n partner key. tt;
  counter = λ n layer limit. tt;
}

pub run_accepts : (tools : Tools) → Opens tools → (w : Schedule) (n : ℕ) (all : List (List Task))
    → w.events ≡ hub_events n all → HasNodes w → Names w n → Each AcceptFits [] (run_lines tools w)
run_accepts tools opens w n all same nodes named =
    run_carries tools w n AreTaken (accepts_carried tools opens w n (own_setting w n nodes named)) all same
    (plain [] (start w) (start-all NoAccept start_accepts w))

pub hub_once : (tools : Tools) → Opens tools → (w : Schedule) (n : ℕ) (all : List (List Task))
    → w.events ≡ hub_events n all → HasNodes w → Names w n → Once (transcript tools w)
unfolding transcript end_line
hub_once tools opens w n all same nodes named =
    once-lines [] (run_lines tools w ++ end_line tools (length w.events) (run_lines tools w) ∷ [])
    (each-append AcceptFits [] (run_lines tools w) (end_line tools (length w.events) (run_lines tools w) ∷ [])
    (run_accepts tools opens w n all same nodes named) (tt, tt))

-- ---- confirmed keys

-- The lines so far confirm only keys that the node `c` stored, and each of its verified rows is stored.
record AreConfirming (tools : Tools) (c : ℕ) (h : List Line) : Type 0 where
  pub claims : Each (ConfirmLine tools c) [] h
  pub firm : Firm h c

more_confirm : (tools : Tools) (c : ℕ) (h ls : List Line) → AreConfirming tools c h → Each (ConfirmLine tools c) h ls
    → Firm (h ++ ls) c → AreConfirming tools c (h ++ ls)
more_confirm tools c h ls is claims firm =
    record { claims = each-append (ConfirmLine tools c) [] h ls is.claims claims; firm = firm }

one_confirms : (tools : Tools) (c : ℕ) (h : List Line) (l : Line) → NoSeal l → Calm l → AreConfirming tools c h
    → AreConfirming tools c (h ++ l ∷ [])
one_confirms tools c h l unsealed calm is =
    more_confirm tools c h (l ∷ []) is (sealless tools c h (l ∷ []) (unsealed, tt))
    (firm-lines h c (l ∷ []) (calm, tt) is.firm)

keys_carried : (tools : Tools) → Opens tools → SpellsConfirm tools → (w : Schedule) (n c : ℕ)
    → (is_centre (setting_of w n).me.role ≡ true → n ≡ c)
    → ((d : ℕ) → is_declared (setting_of w n) d ≡ true → d < 2 ^ 64)
    → IsCarried tools w n (AreConfirming tools c)
unfolding answer NoSeal Calm
keys_carried tools opens spells w n c own small = record {
  answers = λ h number task is.
      let x = setting_of w n in
      let s = state_of h n in
      let a = answer tools x s task in
      more_confirm tools c h (whole_lines h number n a) is
      (subst (Each (ConfirmLine tools c) h) (group_is h number n a)
      (group-claims tools spells x h h number n c task (plan_of tools x s task) (plan-fits tools opens x s task)
      is.firm own small))
      (subst (λ ls. Firm (h ++ ls) c) (group_is h number n a) (group-firm h number n h c a is.firm));
  injects = λ h number frame bytes is. one_confirms tools c h (Inject number frame bytes) tt tt is;
  resets = λ h number is. one_confirms tools c h (DownReset number n) tt tt is;
  boots = λ h number is. one_confirms tools c h (Boot number n) tt tt is;
}

small_by : (n : ℕ) (o : Option Station) → is_some o ≡ true
    → FoundIs (λ (p : Station). IsStation p × (nat_eq p.eui n ≡ true)) o → n < 2 ^ 64
small_by n None some is = absurd (false≢true some)
small_by n (Some p) some is = subst (λ k. k < 2 ^ 64) (eqb-true p.eui n is.1) is.0.eui

-- a declared node has an EUI of 64 bits
declared_small : (w : Schedule) (n : ℕ) → HasNodes w → (d : ℕ) → is_declared (setting_of w n) d ≡ true → d < 2 ^ 64
unfolding station_of
declared_small w n nodes d e =
    small_by d (station_of (stations w) d) (sym (hidden-declared w n d) ∙ e)
    (found-is IsStation (λ (p : Station). nat_eq p.eui d) (stations w) (are-stations w.nodes nodes.nodes))

-- of the lines of a hub's run, for any `c` that the node is where it is a centre
pub run_confirms : (tools : Tools) → Opens tools → SpellsConfirm tools → (w : Schedule) (n c : ℕ)
    (all : List (List Task)) → w.events ≡ hub_events n all → HasNodes w
    → (is_centre (setting_of w n).me.role ≡ true → n ≡ c) → Each (ConfirmLine tools c) [] (run_lines tools w)
run_confirms tools opens spells w n c all same nodes own =
    (run_carries tools w n (AreConfirming tools c)
    (keys_carried tools opens spells w n c own (declared_small w n nodes)) all same
    (record { claims = sealless tools c [] (start w) (start-plain w); firm = start-firm w c })).claims

-- where there is one centre, the node is that where it is a centre
one_is : (w : Schedule) (n : ℕ) → HasNodes w → OneCentre w → Names w n → is_centre (setting_of w n).me.role ≡ true
    → n ≡ centre_of (stations w)
unfolding setting_of
one_is w n nodes one named = (here (record w { events = [] }) nodes one n named).centre

transcript_confirms : (tools : Tools) → Opens tools → SpellsConfirm tools → (w : Schedule) (n : ℕ)
    (all : List (List Task)) → w.events ≡ hub_events n all → HasNodes w → OneCentre w → Names w n
    → Each (ConfirmLine tools (centre_of (stations w))) [] (transcript tools w)
unfolding transcript end_line
transcript_confirms tools opens spells w n all same nodes one named =
    let c = centre_of (stations w) in
    each-append (ConfirmLine tools c) [] (run_lines tools w)
    (end_line tools (length w.events) (run_lines tools w) ∷ [])
    (run_confirms tools opens spells w n c all same nodes (one_is w n nodes one named)) (tt, tt)

pub hub_confirms : (tools : Tools) → Opens tools → SpellsConfirm tools → (w : Schedule) (n : ℕ)
    (all : List (List Task)) → w.events ≡ hub_events n all → HasNodes w → OneCentre w → Names w n
    → Confirms tools (transcript tools w)
hub_confirms tools opens spells w n all same nodes one named =
    subst (λ c. Each (ConfirmLine tools c) [] (transcript tools w)) (sym (run-centre tools w))
    (transcript_confirms tools opens spells w n all same nodes one named)
