-- No line of a run confirms a key that the centre hasn't stored.
use Rattle.std.proofs.Common.{◌≡◌, ℕ, ◌&&◌, Bool, true, false, cond, List, [], ◌∷◌, ◌++◌, map, Option, Some, None, Result, Ok, Err, nat_eq, refl, sym, ap, ◌∙◌, subst, append_assoc, eqb-true, eq-eqb, fold}
use Rattle.std.specs.List.{AllByRecursion}
use Rattle.std.proofs.lemmas.Bool.{false≢true}
use Rattle.zb_audit.specs.Confirming.{confirmed, confirmed_at, confirmed_in, is_confirmable, is_kept, row_in, stands_for}
use Rattle.zb_audit.specs.Failing.{failing}
use Rattle.law_audit_sound.proofs.Clauses.{Passes, none_fails}
use Rattle.law_audit_sound.proofs.Declaring.{NotDeclared, begins, declares_no_more, declares_nodes, is_centred, lines_behind, plain_behind}
use Rattle.law_audit_sound.proofs.StoredRows.{all_right, stored_kept}
use Rattle.law_audit_sound.specs.ConfirmsKeeping.{KeepsThird}
use Rattle.zb_base.specs.declared.address.Eui.{Eui}
use Rattle.zb_cmd.specs.Reading.{command_of}
use Rattle.zb_cmd.specs.declared.command.Command.{Command}
use Rattle.zb_cmd.specs.declared.command.Command.TheVariants as command
use Rattle.zb_cmd.specs.declared.fault.CmdError.{CmdError}
use Rattle.zb_audit_names.specs.Naming.{declared_in, declares, is_centres}
use Rattle.law_audit_groups.specs.Printing.{printed}
use Rattle.zb_model.specs.Claims.{ConfirmLine, Confirming, Each}
use Rattle.zb_model.specs.Data as model
use Rattle.zb_model.specs.Data.{Aps, Bytes, ConfirmKey, Layer, Nwk, Station, Term}
use Rattle.zb_model.specs.Lines as log
use Rattle.zb_model.specs.Lines.{Declared, Line}
use Rattle.zb_model.specs.Play.{Schedule, stations}
use Rattle.zb_model.specs.Rules.{centre_of}
use Rattle.zb_model.specs.Schedules.{IsSchedule}
use Rattle.zb_model.specs.Secrets as secrets
use Rattle.zb_model.specs.Tools.{Known}
use Rattle.zb_model.specs.Transcript.{transcript}
use Rattle.law_real_runs.proofs.RealRuns.{holds}
use Rattle.law_run.proofs.Basics.{append-nil'}
use Rattle.law_run.proofs.ConfirmsRuns.{run-centre}
use Rattle.law_run.proofs.FreshLines.{all-append}
use Rattle.law_run.specs.Premises.{Premises}
use Rattle.law_run_text.specs.OfNodes.{IsOfSchedule}
use Rattle.law_run_text.proofs.Lines.{are_of_nodes}
use Rattle.zb_model_real.specs.Real.{real}
use Rattle.zb_model_real.specs.Readers.{command_shown}
use Rattle.zb_model_real.specs.Terms.{layer_of, term_of}
use Rattle.law_tables_suffice.specs.Along.{euis_differ}
use Rattle.zb_trace_model.specs.Naming.{AreNamed, IsDeclared, name_of}
use Rattle.zb_trace_model.specs.Said.{IsOfNodes, line_for}
use Rattle.zb_seal.specs.Carrying.{is_command_header}

-- ---- which key a term confirms

abbrev IsNothing : {A : Type 0} → Option A → Type 0
IsNothing None = Unit {0}
IsNothing (Some x) = ⊥

nothing : {A : Type 0} (x : A) → None ≡ Some x → ⊥
nothing x e = subst IsNothing e tt

abbrev value_or : Eui → Option Eui → Eui
value_or d None = d
value_or d (Some e) = e

headed : (header : Bytes) → is_command_header header ≡ true → secrets.is_command_header header ≡ true
headed [] e = absurd (false≢true e)
headed (control ∷ more) e = e

-- what is read as that confirmation
abbrev ReadsConfirm : Bytes → Eui → Type 0
ReadsConfirm content device = (kind : ℕ) × (command_shown (command_of content) ≡ Known (ConfirmKey 0 kind device.0))

read_as : (content : Bytes) (device : Eui) (r : Result Command CmdError) → command_of content ≡ r → confirmed_in r
    ≡ Some device → ReadsConfirm content device
read_as content device (Err e) is found = absurd (nothing device found)
read_as content device (Ok (command.TransportNetwork key sequence destination source)) is found =
    absurd (nothing device found)
read_as content device (Ok (command.TransportApplication key partner initiator)) is found =
    absurd (nothing device found)
read_as content device (Ok (command.TransportLink key destination source)) is found = absurd (nothing device found)
read_as content device (Ok (command.Update child short status)) is found = absurd (nothing device found)
read_as content device (Ok (command.Remove target)) is found = absurd (nothing device found)
read_as content device (Ok (command.RequestApplication partner)) is found = absurd (nothing device found)
read_as content device (Ok command.RequestLink) is found = absurd (nothing device found)
read_as content device (Ok (command.Switch sequence)) is found = absurd (nothing device found)
read_as content device (Ok (command.Tunnel destination inner)) is found = absurd (nothing device found)
read_as content device (Ok (command.Verify kind source hash)) is found = absurd (nothing device found)
read_as content device (Ok (command.Confirm status kind destination)) is found = by_status (nat_eq status 0) refl found
  where
    by_status : (b : Bool) → nat_eq status 0 ≡ b → cond b (Some destination) None ≡ Some device
        → ReadsConfirm content device
    by_status false e same = absurd (nothing device same)
    by_status true e same =
        let shown : command_shown (command_of content) ≡ Known (ConfirmKey 0 kind device.0) =
        ap command_shown is ∙
        (ap (λ (n : ℕ). Known (ConfirmKey n kind destination.0)) (eqb-true status 0 e) ∙ ap
        (λ (o : Option Eui). Known (ConfirmKey 0 kind (value_or device o).0)) same) in
        (kind, shown)

confirming : (t : Term) (device : Eui) → confirmed (term_of t) ≡ Some device → Confirming real t device.0
unfolding confirmed real
confirming t device found = by_layer t.layer refl found
  where
    by_header : t.layer ≡ Aps → (b : Bool) → is_command_header t.header ≡ b
        → cond b (confirmed_in (command_of t.content)) None ≡ Some device → Confirming real t device.0
    by_header aps false e same = absurd (nothing device same)
    by_header aps true e same = (aps, headed t.header e, read_as t.content device (command_of t.content) refl same)

    by_layer : (l : Layer) → t.layer ≡ l → confirmed_at (layer_of l) t.header t.content ≡ Some device
        → Confirming real t device.0
    by_layer Nwk is same = absurd (nothing device same)
    by_layer Aps is same = by_header is (is_command_header t.header) refl same

-- ---- a line after those that declare

record Setting (w : Schedule) : Type 0 where
  schedule : IsSchedule w
  differ : euis_differ w ≡ true
  fits : AreNamed (stations w)

-- lines of a run, after all declarations: these begin it, and these follow
record IsBehind (w : Schedule) (h g : List Line) : Type 0 where
  begins : h ≡ map Declared (stations w) ++ g
  plain : AllByRecursion NotDeclared g
  of : AllByRecursion (IsOfNodes (stations w)) g

declared_all : (w : Schedule) → AreNamed (stations w) → (h g : List Line) → IsBehind w h g
    → declared_in (printed (stations w) h) ≡ stations w
unfolding declared_in
declared_all w fits h g behind =
    let known = stations w in
    ap (λ (ls : List Line). fold declares [] (printed known ls)) behind.begins
    ∙ printed_fold [] known g
    ∙ ap (λ (ks : List Station). fold declares ks (printed known g)) (declares_nodes known [] known fits.differ)
    ∙ declares_no_more known known g behind.plain
  where
    printed_fold : (ks ps : List Station) (ms : List Line)
        → fold declares ks (printed (stations w) (map Declared ps ++ ms))
        ≡ fold declares (fold declares ks (printed (stations w) (map Declared ps))) (printed (stations w) ms)
    printed_fold ks [] ms = refl
    printed_fold ks (p ∷ ps) ms = printed_fold (declares ks (line_for (stations w) (Declared p))) ps ms

both_true : (a b : Bool) → a ≡ true → b ≡ true → (a && b) ≡ true
both_true a b e f = ap (λ (x : Bool). x && b) e ∙ f

seal_stands : (w : Schedule) → Setting w → (h g : List Line) → IsBehind w h g → (event n : ℕ) (t : Term)
    → IsOfNodes (stations w) (log.Seal event n t) → ConfirmLine real (centre_of (stations w)) h (log.Seal event n t)
    → (o : Option Eui) → confirmed (term_of t) ≡ o → stands_for (printed (stations w) h) (name_of (stations w) n)
    t.base o ≡ true
seal_stands w set h g behind event n t is claim None found = refl
seal_stands w set h g behind event n t is claim (Some device) found =
    let known = stations w in
    let c = centre_of known in
    let told = claim device.0 (confirming t device found) in
    let there = subst (λ (k : ℕ). IsDeclared known k) told.0 is in
    let centred = is_centred w set.schedule set.differ set.fits c there refl in
    both_true (is_centres (declared_in (printed known h)) (name_of known n))
    (is_kept (row_in (printed known h) device.0 t.base))
    (ap (λ (ks : List Station). is_centres ks (name_of known n)) (declared_all w set.fits h g behind) ∙ centred n is ∙
    eq-eqb n c told.0)
    (stored_kept known set.fits.differ c device.0 t.base centred there g h behind.begins behind.plain behind.of told.1)

stands : (w : Schedule) → Setting w → (h g : List Line) → IsBehind w h g → (m : Line) → IsOfNodes (stations w) m
    → ConfirmLine real (centre_of (stations w)) h m
    → is_confirmable (printed (stations w) h) (line_for (stations w) m) ≡ true
unfolding is_confirmable line_for
stands w set h g behind (log.Declared p) is claim = refl
stands w set h g behind (log.GivenNet j key sequence) is claim = refl
stands w set h g behind (log.GivenLink j partner key) is claim = refl
stands w set h g behind (log.Counter j l limit) is claim = refl
stands w set h g behind (log.Commit event j) is claim = refl
stands w set h g behind (log.Accept event j t) is claim = refl
stands w set h g behind (log.Refuse event j at why) is claim = refl
stands w set h g behind (log.Seal event n t) is claim = seal_stands w set h g behind event n t is claim
    (confirmed (term_of t)) refl
stands w set h g behind (log.Forge event t) is claim = refl
stands w set h g behind (log.Send event from frame bytes) is claim = refl
stands w set h g behind (log.Inject event frame bytes) is claim = refl
stands w set h g behind (log.Stopped event j) is claim = refl
stands w set h g behind (log.DownReset event j) is claim = refl
stands w set h g behind (log.DownDisk event j) is claim = refl
stands w set h g behind (log.Boot event j) is claim = refl
stands w set h g behind (log.Dump event j bytes) is claim = refl
stands w set h g behind (log.End events seals accepts refusals ideal private) is claim = refl
stands w set h g behind (log.Changed event j (model.Reserve l limit)) is claim = refl
stands w set h g behind (log.Changed event j (model.Floor l k from value)) is claim = refl
stands w set h g behind (log.Changed event j (model.Start k value)) is claim = refl
stands w set h g behind (log.Changed event j (model.Moved (model.Draw key))) is claim = refl
stands w set h g behind (log.Changed event j (model.Moved (model.DropNet key))) is claim = refl
stands w set h g behind (log.Changed event j (model.Moved (model.DropLink partner key))) is claim = refl
stands w set h g behind (log.Changed event j (model.Moved (model.Install key sequence))) is claim = refl
stands w set h g behind (log.Changed event j (model.Moved (model.Active key))) is claim = refl
stands w set h g behind (log.Changed event j (model.Moved (model.Row partner key attribute))) is claim = refl
stands w set h g behind (log.Changed event j (model.Moved (model.Pair first second key))) is claim = refl
stands w set h g behind (log.Changed event j (model.Moved (model.Became state))) is claim = refl
stands w set h g behind (log.Changed event j (model.Moved (model.Live device))) is claim = refl
stands w set h g behind (log.Changed event j (model.Moved (model.Removed device))) is claim = refl
stands w set h g behind (log.Changed event j (model.Moved (model.Roll sending))) is claim = refl
stands w set h g behind (log.Changed event j (model.Moved (model.Told device))) is claim = refl
stands w set h g behind (log.Changed event j (model.Moved (model.Untold device))) is claim = refl

-- ---- along the run

one_more : (w : Schedule) (h g : List Line) (m : Line) → IsBehind w h g → NotDeclared m → IsOfNodes (stations w) m
    → IsBehind w (h ++ m ∷ []) (g ++ m ∷ [])
one_more w h g m behind plain is = record {
  begins = ap (λ (ls : List Line). ls ++ m ∷ []) behind.begins ∙ append_assoc (map Declared (stations w)) g (m ∷ []);
  plain = all-append NotDeclared g (m ∷ []) behind.plain (plain, tt);
  of = all-append (IsOfNodes (stations w)) g (m ∷ []) behind.of (is, tt);
}

pass : (w : Schedule) → Setting w → (h g ms : List Line) → IsBehind w h g → AllByRecursion NotDeclared ms
    → AllByRecursion (IsOfNodes (stations w)) ms → Each (ConfirmLine real (centre_of (stations w))) h ms
    → Passes is_confirmable (stations w) h ms
pass w set h g [] behind plain of claims = tt
pass w set h g (m ∷ ms) behind plain of claims = (
  stands w set h g behind m of.0 claims.0,
  pass w set (h ++ m ∷ []) (g ++ m ∷ []) ms (one_more w h g m behind plain.0 of.0) plain.1 of.1 claims.1,
)

each_right : (P : List Line → Line → Type 0) (h xs ys : List Line) → Each P h (xs ++ ys) → Each P (h ++ xs) ys
each_right P h [] ys each = subst (λ (ls : List Line). Each P ls ys) (sym (append-nil' h)) each
each_right P h (x ∷ xs) ys each = subst (λ (ls : List Line). Each P ls ys) (append_assoc h (x ∷ []) xs)
    (each_right P (h ++ x ∷ []) xs ys each.1)

-- lines that declare seal nothing
declared_pass : (known : List Station) (h : List Line) (ps : List Station) (ms : List Line)
    → Passes is_confirmable known (h ++ map Declared ps) ms → Passes is_confirmable known h (map Declared ps ++ ms)
unfolding is_confirmable line_for
declared_pass known h [] ms passing = subst (λ (ls : List Line). Passes is_confirmable known ls ms) (append-nil' h)
    passing
declared_pass known h (p ∷ ps) ms passing = (
  refl,
  declared_pass known (h ++ Declared p ∷ []) ps ms
      (subst (λ (ls : List Line). Passes is_confirmable known ls ms)
      (sym (append_assoc h (Declared p ∷ []) (map Declared ps))) passing),
)

of_nodes : (known : List Station) (h : List Line) → AllByRecursion (IsOfSchedule known) h
    → AllByRecursion (IsOfNodes known) h
of_nodes known [] all = tt
of_nodes known (m ∷ h) all = (all.0.0, of_nodes known h all.1)

pub keeps_third : (w : Schedule) → Premises w → euis_differ w ≡ true → AreNamed (stations w) → KeepsThird w
unfolding failing
keeps_third w premises differ fits =
    let known = stations w in
    let declaring = map Declared known in
    let behind = lines_behind real w in
    let claims : Each (ConfirmLine real (centre_of known)) [] (declaring ++ behind) =
    subst (λ (ls : List Line). Each (ConfirmLine real (centre_of known)) [] ls) (begins real w)
    (subst (λ (c : ℕ). Each (ConfirmLine real c) [] (transcript real w)) (run-centre real w)
    (holds w premises).confirms) in
    let of : AllByRecursion (IsOfNodes known) (declaring ++ behind) =
    subst (λ (ls : List Line). AllByRecursion (IsOfNodes known) ls) (begins real w)
    (of_nodes known (transcript real w) (are_of_nodes real w premises.schedule premises.one_centre)) in
    let begun : IsBehind w declaring [] = record { begins = sym (append-nil' declaring); plain = tt; of = tt } in
    none_fails is_confirmable known [] (transcript real w)
    (subst (λ (ls : List Line). Passes is_confirmable known [] ls) (sym (begins real w))
    (declared_pass known [] known behind
    (pass w (record { schedule = premises.schedule; differ = differ; fits = fits }) declaring [] behind begun
    (plain_behind real w) (all_right (IsOfNodes known) declaring behind of)
    (each_right (ConfirmLine real (centre_of known)) [] declaring behind claims))))
