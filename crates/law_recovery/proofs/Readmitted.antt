-- A device is admitted again in a run, event by event: what each leaves of the two nodes.
use Rattle.std.proofs.Common.{◌≡◌, ℕ, ◌+◌, ◌<◌, ◌^◌, Bool, true, false, inl, inr, if◌then◌else◌, List, [], ◌∷◌, filter, find, reverse, length, Some, None, nat_eq, nat_le, refl, sym, ap, ◌∙◌, subst}
use Rattle.std.proofs.lemmas.Bool.{leb-false}
use Rattle.std.proofs.lemmas.List.Sums.{fold-append}
use Rattle.zb_model.specs.Data.{Bytes, Aps, DoKnock, DoProvision, DoRemove, HasChild, Received}
use Rattle.zb_model.specs.Play.{Schedule, Event, Own, Deliver, setting_of, supply}
use Rattle.zb_model.specs.Readings.{air, state_of}
use Rattle.zb_model.specs.Rules.{centre_of, spent}
use Rattle.zb_model.specs.State.{LinkKey, NetKey, NodeState, code_row, current, greatest_counter, has_net, is_live, next_counter, offered, same_key}
use Rattle.zb_model.specs.Tools.{Tools}
use Rattle.law_answer_storable.specs.Storing.{OpensAsJudged}
use Rattle.law_recovery.specs.CommandFrames.{DeliversCommands}
use Rattle.law_recovery.specs.Meeting.{HasLink, HasNetwork, IsJoined, IsSteady}
use Rattle.law_recovery.proofs.Joining.{child_bare}
use Rattle.law_recovery.proofs.Keeping.{link_left, network_left}
use Rattle.law_recovery.specs.Answering.{after_task, frame_of}
use Rattle.law_recovery.specs.Joining.{AreIntroduced}
use Rattle.law_recovery.specs.KeyFrames.{DeliversKeys, KeyFrameInRange, key_bytes}
use Rattle.law_recovery.specs.Rejoining.{answer_frame, why_not_taken}
use Rattle.law_recovery.proofs.Asking.{sends_to}
use Rattle.law_run_steps.proofs.Others.{own-up, frame-up}
use Rattle.law_recovery.specs.Fronts.{Front, after_event, after_events}
use Rattle.law_recovery.specs.RunsJoining.{join_events}
use Rattle.law_recovery.specs.KeyExchange.{AreMet, EndsConfirmed, HaveJoined, NothingStops, eui_of, exchange_events, joined_front, joining_events}
use Rattle.law_recovery.proofs.Confirmed.{centre_acts, device_acts, exchanged, sent_on_air}
use Rattle.law_recovery.proofs.Exchanged.{turned}
use Rattle.law_recovery.specs.Entering.{HasKnocked, why_no_row, why_not_entered}
use Rattle.law_recovery.specs.Knowing.{MeetsKey}
use Rattle.law_recovery.specs.Readmitting.{CanReadmit, entry_events_at, knocked_front, readmission_events}
use Rattle.law_recovery.proofs.Codes.{enters}
use Rattle.law_recovery.proofs.Knocks.{has_knocked}
use Rattle.law_recovery.proofs.Known.{joins_with}
use Rattle.law_recovery.proofs.Removing.{removes, same_counter}

-- ---- the device isn't live

-- what the centre has when the device isn't live; the device is as it was
record Gone (w : Schedule) (x y : Front) (c d : ℕ) (network : Bytes) (sequence : ℕ) (key : Bytes) : Type 0 where
  met : AreMet w y c d
  gone : is_live (state_of y.lines c) d ≡ false
  active : HasNetwork (state_of y.lines c) network sequence
  row_free : why_no_row (state_of y.lines c) d key ≡ None
  counter : next_counter Aps (state_of y.lines c) ≡ next_counter Aps (state_of x.lines c)
  device : state_of y.lines d ≡ state_of x.lines d

removed : (tools : Tools) → OpensAsJudged tools → (w : Schedule) (x : Front) (c d : ℕ) (network : Bytes)
    (sequence : ℕ) (key : Bytes) → CanReadmit w x c d network sequence key → is_live (state_of x.lines c) d ≡ true
    → Gone w x (after_event tools w x (Own c (DoRemove d c))) c d network sequence key
removed tools opens w x c d network sequence key can live =
    let s = state_of x.lines c in
    let m = setting_of w c in
    let task = DoRemove d c in
    let met = can.met in
    let role = met.declared.network.centre_role in
    let a = centre_acts tools opens w x c d task (Own c task) met (turned d c met.apart)
    (own-up tools w x.lines x.disks x.number c task met.centre_ready.up) in
    let r = removes tools m s d c role live in
    let count : next_counter Aps (after_task tools m s task) ≡ next_counter Aps s =
    subst (λ via. next_counter Aps (after_task tools m s (DoRemove d via)) ≡ next_counter Aps s) can.centre_named
    (same_counter tools m s d role live) in
    record {
      met = a.met;
      gone = ap (λ u. is_live u d) a.centre ∙ r.gone;
      active = subst (λ u. HasNetwork u network sequence) (sym a.centre) (r.network network sequence can.active);
      row_free = ap (λ u. why_no_row u d key) a.centre ∙ r.room key ∙ can.row_free;
      counter = ap (next_counter Aps) a.centre ∙ count;
      device = a.device;
    }

gone_by : (tools : Tools) → OpensAsJudged tools → (w : Schedule) (x : Front) (c d : ℕ) (network : Bytes)
    (sequence : ℕ) (key : Bytes) → CanReadmit w x c d network sequence key → (b : Bool)
    → is_live (state_of x.lines c) d ≡ b
    → Gone w x (after_events tools w x (if b then Own c (DoRemove d c) ∷ [] else [])) c d network sequence key
gone_by tools opens w x c d network sequence key can true e = removed tools opens w x c d network sequence key can e
gone_by tools opens w x c d network sequence key can false e =
    record {
      met = can.met;
      gone = e;
      active = can.active;
      row_free = can.row_free;
      counter = refl;
      device = refl;
    }

-- ---- its code is entered

record Coded (w : Schedule) (x y : Front) (c d : ℕ) (network : Bytes) (sequence : ℕ) (key : Bytes) : Type 0 where
  met : AreMet w y c d
  active : HasNetwork (state_of y.lines c) network sequence
  keys : HasLink (state_of y.lines c) d key
  counter : next_counter Aps (state_of y.lines c) ≡ next_counter Aps (state_of x.lines c)
  device : state_of y.lines d ≡ state_of x.lines d

no_reason : (s : NodeState) (d : ℕ) (key : Bytes) → is_live s d ≡ false → why_no_row s d key ≡ None
    → why_not_entered s d key ≡ None
unfolding why_not_entered
no_reason s d key gone free = rw gone free

coded : (tools : Tools) → OpensAsJudged tools → (w : Schedule) (x y : Front) (c d : ℕ) (network : Bytes)
    (sequence : ℕ) (key : Bytes) → Gone w x y c d network sequence key
    → Coded w x (after_event tools w y (Own c (DoProvision d key))) c d network sequence key
coded tools opens w x y c d network sequence key g =
    let s = state_of y.lines c in
    let task = DoProvision d key in
    let met = g.met in
    let a = centre_acts tools opens w y c d task (Own c task) met (turned d c met.apart)
    (own-up tools w y.lines y.disks y.number c task met.centre_ready.up) in
    let e = enters tools (setting_of w c) s d key met.declared.network.centre_role
    (no_reason s d key g.gone g.row_free) in
    record {
      met = a.met;
      active = subst (λ u. HasNetwork u network sequence) (sym a.centre) (e.network network sequence g.active);
      keys = subst (λ u. HasLink u d key) (sym a.centre) e.keys;
      counter = ap (next_counter Aps) a.centre ∙ e.counter ∙ g.counter;
      device = a.device ∙ g.device;
    }

-- ---- it knocks

record Knocked (w : Schedule) (x y : Front) (c d : ℕ) (network : Bytes) (sequence : ℕ) (key : Bytes)
    (code : LinkKey) : Type 0 where
  met : AreMet w y c d
  active : HasNetwork (state_of y.lines c) network sequence
  keys : HasLink (state_of y.lines c) d key
  counter : next_counter Aps (state_of y.lines c) ≡ next_counter Aps (state_of x.lines c)
  device : HasKnocked (state_of x.lines d) (state_of y.lines d) c code

knocked : (tools : Tools) → OpensAsJudged tools → (w : Schedule) (x y : Front) (c d : ℕ) (network : Bytes)
    (sequence : ℕ) (key : Bytes) → (can : CanReadmit w x c d network sequence key)
    → Coded w x y c d network sequence key
    → Knocked w x (after_event tools w y (Own d DoKnock)) c d network sequence key can.code
knocked tools opens w x y c d network sequence key can g =
    let m = setting_of w d in
    let met = g.met in
    let a = device_acts tools opens w y c d DoKnock (Own d DoKnock) met met.apart
    (own-up tools w y.lines y.disks y.number d DoKnock met.device_ready.up) in
    let centre : centre_of m.stations ≡ c = met.declared.network.centre_known ∙ can.centre_named in
    let steady = subst (λ t. IsSteady m t) g.device met.device_steady in
    let k = has_knocked tools m (state_of x.lines d) can.code met.declared.network.member_role steady.rules
    (ap (code_row (state_of x.lines d)) centre ∙ can.has_code) in
    record {
      met = a.met;
      active = subst (λ u. HasNetwork u network sequence) (sym a.centre) g.active;
      keys = subst (λ u. HasLink u d key) (sym a.centre) g.keys;
      counter = ap (next_counter Aps) a.centre ∙ g.counter;
      device = subst (λ t. HasKnocked (state_of x.lines d) t c can.code)
          (sym (a.device ∙ ap (λ t. after_task tools m t DoKnock) g.device))
          (subst (λ p. HasKnocked (state_of x.lines d) (after_task tools m (state_of x.lines d) DoKnock) p can.code)
          centre k);
    }

-- ---- it joins

same_why : (t u : NodeState) (code row : LinkKey) (counter : ℕ) (key : Bytes) → u.nets ≡ t.nets → row.kept
    ≡ code.kept → why_not_taken u row counter key ≡ why_not_taken t code counter key
unfolding why_not_taken
same_why t u code row counter key nets floor = rw (nets, floor) refl

same_meets : (t u : NodeState) (key : Bytes) (sequence : ℕ) → u.nets ≡ t.nets → MeetsKey t key sequence
    → MeetsKey u key sequence
same_meets t u key sequence nets (inl new) = inl (ap (has_net key) nets ∙ new)
same_meets t u key sequence nets (inr k) =
    inr
    (record {
      row = k.row;
      is_row = ap (find (λ (r : NetKey). same_key r.key key)) nets ∙ k.is_row;
      row_sequence = k.row_sequence;
      found = k.found;
      is_found = ap
          (λ rows. find (λ (r : NetKey). nat_eq r.sequence sequence) (reverse (filter (λ (r : NetKey). r.live) rows)))
          nets ∙ k.is_found;
      found_key = k.found_key;
    })

introduced : (w : Schedule) (x y : Front) (c d : ℕ) (network : Bytes) (sequence : ℕ) (key : Bytes)
    → (can : CanReadmit w x c d network sequence key) → Knocked w x y c d network sequence key can.code
    → AreIntroduced (setting_of w c) (setting_of w d) (state_of y.lines c) (state_of y.lines d)
introduced w x y c d network sequence key can g =
    record {
      net = g.active.active;
      active_key = g.active.is_active;
      row = g.keys.row;
      at_centre = subst (λ n. current (state_of y.lines c) n ≡ Some g.keys.row) (sym can.device_named)
          g.keys.is_current;
      own = g.device.row;
      at_device = subst (λ n. current (state_of y.lines d) n ≡ Some g.device.row) (sym can.centre_named)
          g.device.is_current;
      same_key = g.device.row_key ∙ can.same_key ∙ sym g.keys.row_key;
      provisional = g.device.provisional;
      no_offer = subst (λ n. offered (state_of y.lines d) n ≡ None) (sym can.centre_named) g.device.none_offered;
      knocked = g.device.knocked;
    }

-- what is true of two nodes of which the device knocked
record MayMeet (w : Schedule) (y : Front) (c d : ℕ) (key : Bytes) (sequence : ℕ) (link : Bytes) : Type 0 where
  met : AreMet w y c d
  intro : AreIntroduced (setting_of w c) (setting_of w d) (state_of y.lines c) (state_of y.lines d)
  net_key : intro.net.key ≡ key
  net_sequence : intro.net.sequence ≡ sequence
  row_key : intro.row.key ≡ link
  network : HasNetwork (state_of y.lines c) key sequence
  keys : HasLink (state_of y.lines c) (eui_of w d) link
  in_range : KeyFrameInRange
      (answer_frame (setting_of w c) (setting_of w d) (state_of y.lines c) intro.net intro.row)
  unspent : spent Aps (state_of y.lines c) ≡ false
  not_refused : why_not_taken (state_of y.lines d) intro.own (next_counter Aps (state_of y.lines c)) intro.net.key
      ≡ None
  meets : MeetsKey (state_of y.lines d) intro.net.key intro.net.sequence

record Introduced (w : Schedule) (z : Front) (c d : ℕ) (key : Bytes) (sequence : ℕ) (link : Bytes) : Type 0 where
  met : AreMet w z c d
  joined : HaveJoined w z c d key sequence link

joins : (tools : Tools) → DeliversKeys tools → OpensAsJudged tools → (w : Schedule) (y : Front) (c d : ℕ)
    (key : Bytes) (sequence : ℕ) (link : Bytes) → MayMeet w y c d key sequence link → eui_of w d ≡ d
    → Introduced w (joined_front tools w y c d) c d key sequence link
joins tools delivers opens w y c d key sequence link may mine =
    let met = may.met in
    let l = may.intro in
    let s = state_of y.lines c in
    let t = state_of y.lines d in
    let bytes = key_bytes tools (answer_frame (setting_of w c) (setting_of w d) s l.net l.row) in
    let frames = length (air y.lines) in
    let child = HasChild d false in
    let z = after_event tools w y (Own c child) in
    let a = centre_acts tools opens w y c d child (Own c child) met (turned d c met.apart)
    (own-up tools w y.lines y.disks y.number c child met.centre_ready.up) in
    let sent : frame_of tools (setting_of w c) s child ≡ Some bytes =
    ap (λ n. frame_of tools (setting_of w c) s (HasChild n false)) (sym mine)
    ∙ sends_to tools (setting_of w c) (setting_of w d) s met.declared.network l.net l.row l.active_key l.at_centre
    may.unspent false in
    let heard = sent_on_air y z frames bytes (frame_of tools (setting_of w c) s child) refl a.on_air sent in
    let task = Received bytes (supply w z.lines) in
    let b = device_acts tools opens w z c d task (Deliver (frames + 1) d) a.met met.apart
    (frame-up tools w z.lines z.disks z.number (frames + 1) d bytes a.met.device_ready.up heard.last) in
    let same = child_bare tools (setting_of w c) s d false met.declared.network.centre_role in
    let is : IsJoined (after_task tools (setting_of w d) t task) (eui_of w c) l.net.key l.net.sequence l.row.key =
    joins_with tools delivers (setting_of w c) (setting_of w d) s t met.declared.network l may.in_range
    met.device_steady.rules (supply w z.lines) may.not_refused may.meets in
    record {
      met = b.met;
      joined = record {
        device = subst (λ u. IsJoined u (eui_of w c) key sequence link)
            (sym (b.device ∙ ap (λ u. after_task tools (setting_of w d) u task) a.device))
            (subst (λ r. IsJoined (after_task tools (setting_of w d) t task) (eui_of w c) key sequence r) may.row_key
            (subst (λ n. IsJoined (after_task tools (setting_of w d) t task) (eui_of w c) key n l.row.key)
            may.net_sequence
            (subst (λ k. IsJoined (after_task tools (setting_of w d) t task) (eui_of w c) k l.net.sequence l.row.key)
            may.net_key is)));
        network = subst (λ u. HasNetwork u key sequence) (sym (b.centre ∙ a.centre))
            (network_left s (after_task tools (setting_of w c) s child) key sequence may.network same);
        keys = subst (λ u. HasLink u (eui_of w d) link) (sym (b.centre ∙ a.centre))
            (link_left s (after_task tools (setting_of w c) s child) (eui_of w d) link may.keys same);
      };
    }

below : (s : NodeState) → spent Aps s ≡ false → next_counter Aps s < greatest_counter
unfolding spent
below s e = leb-false greatest_counter (next_counter Aps s) e

same_spent : (s u : NodeState) → next_counter Aps u ≡ next_counter Aps s → spent Aps u ≡ spent Aps s
unfolding spent
same_spent s u e = ap (λ n. nat_le greatest_counter n) e

may_meet : (w : Schedule) (x y : Front) (c d : ℕ) (network : Bytes) (sequence : ℕ) (key : Bytes)
    → (can : CanReadmit w x c d network sequence key) → Knocked w x y c d network sequence key can.code
    → MayMeet w y c d network sequence key
unfolding introduced
may_meet w x y c d network sequence key can g =
    let l = introduced w x y c d network sequence key can g in
    let unspent : spent Aps (state_of y.lines c) ≡ false =
    same_spent (state_of x.lines c) (state_of y.lines c) g.counter ∙ can.unspent in
    let stations = g.met.stations in
    record {
      met = g.met;
      intro = l;
      net_key = g.active.active_key;
      net_sequence = g.active.active_sequence;
      row_key = g.keys.row_key;
      network = g.active;
      keys = subst (λ n. HasLink (state_of y.lines c) n key) (sym can.device_named) g.keys;
      in_range = record {
        key = ap (length {A = ℕ}) g.active.active_key ∙ can.in_range.key_size;
        sequence = subst (λ n. n < 2 ^ 8) (sym g.active.active_sequence) can.in_range.small;
        device = stations.device;
        centre = stations.centre;
        to = stations.device_short;
        from = stations.centre_short;
        link = ap (length {A = ℕ}) g.keys.row_key ∙ can.in_range.link_size;
        counter = below (state_of y.lines c) unspent;
      };
      unspent = unspent;
      not_refused = same_why (state_of x.lines d) (state_of y.lines d) can.code g.device.row
          (next_counter Aps (state_of y.lines c)) g.active.active.key g.device.nets g.device.row_floor
          ∙ ap (λ n. why_not_taken (state_of x.lines d) can.code n g.active.active.key) g.counter
          ∙ ap (why_not_taken (state_of x.lines d) can.code (next_counter Aps (state_of x.lines c)))
          g.active.active_key ∙ can.not_refused;
      meets = same_meets (state_of x.lines d) (state_of y.lines d) g.active.active.key g.active.active.sequence
          g.device.nets
          (subst (λ n. MeetsKey (state_of x.lines d) g.active.active.key n) (sym g.active.active_sequence)
          (subst (λ k. MeetsKey (state_of x.lines d) k sequence) (sym g.active.active_key) can.meets));
    }

-- ---- all of it

has_entered : (tools : Tools) → OpensAsJudged tools → (w : Schedule) (x : Front) (c d : ℕ) (network : Bytes)
    (sequence : ℕ) (key : Bytes) → (can : CanReadmit w x c d network sequence key)
    → Knocked w x (knocked_front tools w x c d key) c d network sequence key can.code
has_entered tools opens w x c d network sequence key can =
    let live = is_live (state_of x.lines c) d in
    let first : List Event = if live then Own c (DoRemove d c) ∷ [] else [] in
    let rest : List Event = Own c (DoProvision d key) ∷ Own d DoKnock ∷ [] in
    let y = after_events tools w x first in
    let g = gone_by tools opens w x c d network sequence key can live refl in
    let k = coded tools opens w x y c d network sequence key g in
    subst (λ z. Knocked w x z c d network sequence key can.code)
    (sym (fold-append (after_event tools w) x first rest))
    (knocked tools opens w x (after_event tools w y (Own c (DoProvision d key))) c d network sequence key can k)

pub readmitted : (tools : Tools) → DeliversKeys tools → DeliversCommands tools → OpensAsJudged tools
    → (w : Schedule) (x : Front) (c d : ℕ) (network : Bytes) (sequence : ℕ) (key drawn : Bytes)
    → CanReadmit w x c d network sequence key → length drawn ≡ 16
    → NothingStops tools w (joined_front tools w (knocked_front tools w x c d key) c d) c d network sequence key drawn
    → EndsConfirmed w (after_events tools w x (readmission_events tools w x c d key)) c d network sequence drawn
readmitted tools keys delivers opens w x c d network sequence key drawn can long n =
    let y = knocked_front tools w x c d key in
    let z = joined_front tools w y c d in
    let g = has_entered tools opens w x c d network sequence key can in
    let i = joins tools keys opens w y c d network sequence key (may_meet w x y c d network sequence key can g)
    can.device_named in
    subst (λ v. EndsConfirmed w v c d network sequence drawn)
    (sym (fold-append (after_event tools w) x (entry_events_at x c d key) (joining_events tools w y c d)
    ∙ fold-append (after_event tools w) y (join_events y c d) (exchange_events z c d)))
    (exchanged tools delivers opens w z c d network sequence key drawn i.met i.joined can.in_range long n)
