-- The centre answers a child several times; and a stale answer leaves the member as it was.
use Rattle.std.proofs.Common.{◌≡◌, ℕ, zero, suc, ◌+◌, ◌^◌, ◌<◌, ◌≤◌, Bool, true, false, not, ◌&&◌, if◌then◌else◌, [], map, find, length, Option, Some, None, option_map, is_some, nat_lt, refl, sym, ap, ◌∙◌, subst, arith}
use Rattle.std.specs.Prelude.{is_none, unwrap_or}
use Rattle.std.proofs.lemmas.Bool.{false≢true, lt-leb, le-ltb}
use Rattle.zb_model.specs.Data.{Bytes, Nwk, Aps, Label, ForTransport, AtEvent, Command, TransportNet, NoKey, NotMember, CounterSpent, HasChild}
use Rattle.zb_model.specs.Commands.{dropped_at}
use Rattle.zb_model.specs.Fits.{keeps_rules}
use Rattle.zb_model.specs.Frames.{aps_term, sealed_command}
use Rattle.zb_model.specs.Rules.{Setting, Does, Secret, sends, short_of, spent}
use Rattle.zb_model.specs.State.{greatest_counter, NetKey, LinkKey, NodeState, is_centre, is_live_of, is_unverified, applied_all, after_sealing, active_row, current, next_counter}
use Rattle.zb_model.specs.Tools.{Tools}
use Rattle.zb_model.specs.Answer.{Counting, comes_to, part_of, may_seal, out_of, edits_of, answer_by, counting_of, answered}
use Rattle.law_answer_storable.specs.Storing.{OpensAsJudged}
use Rattle.law_recovery.specs.Answering.{after_task}
use Rattle.law_recovery.specs.KeyFrames.{KeyFrameInRange, DeliversKeys}
use Rattle.law_recovery.specs.Rejoining.{why_not_sent, why_not_taken, why_old, why_no_room, AreOfOneNetwork, AreLinked, may_rejoin, answer_frame, Rejoins}
use Rattle.law_recovery.specs.Repeating.{repeated, AreTaken, WentOn}
use Rattle.law_recovery.proofs.Changing.{IsMild, active_after, reserves, Reserved, reserved_so, applied_then}
use Rattle.law_recovery.proofs.Asking.{child_answer, child_rule, child_does, refuses}
use Rattle.law_recovery.proofs.Taking.{unspent_of, rejoins}

-- ---- one answer

sequence_after : (f : NetKey → NetKey) → IsMild f → (o : Option NetKey)
    → option_map (λ (r : NetKey). r.sequence) (option_map f o) ≡ option_map (λ (r : NetKey). r.sequence) o
sequence_after f m None = refl
sequence_after f m (Some r) = ap Some (m.sequence r)

key_after : (f : NetKey → NetKey) → IsMild f → (o : Option NetKey)
    → option_map (λ (r : NetKey). r.key) (option_map f o) ≡ option_map (λ (r : NetKey). r.key) o
key_after f m None = refl
key_after f m (Some r) = ap Some (m.key r)

same_link : (s u : NodeState) (device : ℕ) → u.links ≡ s.links → current u device ≡ current s device
unfolding current
same_link s u device e = ap (find (λ (r : LinkKey). is_live_of device r && not (is_unverified r.attribute))) e

one_next : (s u : NodeState) → u.aps_next ≡ s.aps_next + 1 → next_counter Aps u ≡ next_counter Aps s + 1
unfolding next_counter
one_next s u e = e

next_is : (s : NodeState) → next_counter Aps s ≡ s.aps_next
unfolding next_counter
next_is s = refl

sealed_then : (s : NodeState) (device : ℕ) (nwk aps : Option ℕ) → Reserved nwk aps s
    → (front bytes : Bytes) (label : Label) (key : Bytes) (me : ℕ)
    → WentOn s
    (after_sealing (aps_term front label key me (next_counter Aps s) bytes) (applied_all (reserves nwk aps) s))
    device 1
unfolding after_sealing
sealed_then s device nwk aps r front bytes label key me =
    subst (λ u. WentOn s (after_sealing (aps_term front label key me (next_counter Aps s) bytes) u) device 1)
    (sym r.same)
    (let u : NodeState = record s
    { nets = map r.change s.nets; aps_limit = r.limit; aps_next = next_counter Aps s + 1 } in
    let active = active_after r.change r.mild s u refl refl in
    record {
      key = ap (option_map (λ (x : NetKey). x.key)) active ∙ key_after r.change r.mild (active_row s);
      sequence = ap (option_map (λ (x : NetKey). x.sequence)) active ∙ sequence_after r.change r.mild (active_row s);
      link = same_link s u device refl;
      counter = one_next s u (ap (λ n. n + 1) (next_is s));
    })

child_state : (tools : Tools) (c : Setting) (s : NodeState) (k : Counting) (device to : ℕ) (key : Bytes)
    (command : Command) → spent Aps s ≡ false → k.counter Aps ≡ next_counter Aps s
    → WentOn s
    (answered
    (answer_by tools c s k (comes_to [] AtEvent (Does [] (sends to false (Secret ForTransport key command))))) s)
    device 1
unfolding answered answer_by edits_of out_of may_seal part_of applied_all
child_state tools c s k device to key command z n =
    let t = sealed_then s device (k.reserve Nwk) (k.reserve Aps) (reserved_so (k.reserve Nwk) (k.reserve Aps) s)
    sealed_command (tools.spelled command) ForTransport key c.me.eui in
    rw (z, n, applied_then (reserves (k.reserve Nwk) (k.reserve Aps)) [] s) t

-- what the centre needs for an answer
record HasBoth (s : NodeState) (device : ℕ) : Type 0 where
  net : NetKey
  active_key : active_row s ≡ Some net
  row : LinkKey
  link : current s device ≡ Some row

has_by : (s : NodeState) (device : ℕ) (n : Option NetKey) (l : Option LinkKey) (b : Bool) → active_row s ≡ n
    → current s device ≡ l
    → (if is_none n then Some NoKey
    else (if is_none l then Some NotMember else (if b then Some CounterSpent else None))) ≡ None → HasBoth s device
has_by s device None l b x y e = absurd (false≢true (sym (ap is_some e)))
has_by s device (Some net) None b x y e = absurd (false≢true (sym (ap is_some e)))
has_by s device (Some net) (Some row) b x y e = record { net = net; active_key = x; row = row; link = y }

has_both : (s : NodeState) (device : ℕ) → why_not_sent s device ≡ None → HasBoth s device
unfolding why_not_sent
has_both s device e = has_by s device (active_row s) (current s device) (spent Aps s) refl refl e

pub once : (tools : Tools) (c : Setting) (s : NodeState) (device : ℕ) (rejoin : Bool) → is_centre c.me.role ≡ true
    → why_not_sent s device ≡ None → WentOn s (after_task tools c s (HasChild device rejoin)) device 1
unfolding after_task counting_of
once tools c s device rejoin role e =
    let h = has_both s device e in
    let z = unspent_of s device e in
    subst (λ a. WentOn s (answered a s) device 1)
    (sym (child_answer tools c s device rejoin (child_does c device h.net h.row) role
    (child_rule c s device h.net h.row h.active_key h.link z)))
    (child_state tools c s (counting_of c s (comes_to [] AtEvent (child_does c device h.net h.row))) device
    (short_of c device) h.row.key (TransportNet h.net.key h.net.sequence device c.me.eui) z refl)

-- ---- several

some_by : {X Y : Type 0} (f : X → Y) (o p : Option X) → option_map f o ≡ option_map f p → is_none o ≡ is_none p
some_by f None None e = refl
some_by f None (Some y) e = absurd (false≢true (ap is_some e))
some_by f (Some x) None e = absurd (false≢true (sym (ap is_some e)))
some_by f (Some x) (Some y) e = refl

not_spent : (s : NodeState) → next_counter Aps s < greatest_counter → spent Aps s ≡ false
unfolding spent
not_spent s lt = lt-leb greatest_counter (next_counter Aps s) lt

why_by : (s : NodeState) (device : ℕ) (n l b : Bool) → is_none (active_row s) ≡ n → is_none (current s device) ≡ l
    → spent Aps s ≡ b → n ≡ false → l ≡ false → b ≡ false → why_not_sent s device ≡ None
unfolding why_not_sent
why_by s device n l b x y z e f g = rw (x, e, y, f, z, g) refl

pub still : (s u : NodeState) (device frames : ℕ) → WentOn s u device frames → why_not_sent s device ≡ None
    → next_counter Aps s + frames < greatest_counter → why_not_sent u device ≡ None
still s u device frames w e lt =
    let h = has_both s device e in
    let net : is_none (active_row u) ≡ false = some_by (λ (r : NetKey). r.key) (active_row u) (active_row s) w.key ∙
    ap is_none h.active_key in
    let link : is_none (current u device) ≡ false = ap is_none (w.link ∙ h.link) in
    why_by u device (is_none (active_row u)) (is_none (current u device)) (spent Aps u) refl refl refl net link
    (not_spent u (omega (arith, w.counter, lt)))

went_on : (s u v : NodeState) (device m n : ℕ) → WentOn s u device m → WentOn u v device n → WentOn s v device (m + n)
went_on s u v device m n a b =
    record {
      key = b.key ∙ a.key;
      sequence = b.sequence ∙ a.sequence;
      link = b.link ∙ a.link;
      counter = omega (arith, a.counter, b.counter);
    }

stays : (s : NodeState) (device : ℕ) → WentOn s s device 0
stays s device = record { key = refl; sequence = refl; link = refl; counter = omega arith }

pub goes_on : (tools : Tools) (c : Setting) (device n : ℕ) (s : NodeState) → is_centre c.me.role ≡ true
    → why_not_sent s device ≡ None → next_counter Aps s + n < greatest_counter
    → AreTaken tools c device n s × WentOn s (repeated tools c device n s) device n
unfolding repeated
goes_on tools c device zero s role e lt = (tt, stays s device)
goes_on tools c device (suc n) s role e lt =
    let u = after_task tools c s (HasChild device true) in
    let w = once tools c s device true role e in
    let more = goes_on tools c device n u role (still s u device 1 w e (omega (arith, lt)))
    (omega (arith, lt, w.counter)) in (
      (refuses tools c s device true role ∙ e, more.0),
      subst (λ k. WentOn s (repeated tools c device n u) device k)
          (omega arith) (went_on s u (repeated tools c device n u) device 1 n w more.1),
    )

-- ---- and then the member installs the key

not_stale : (counter kept : ℕ) → kept ≤ counter → nat_lt counter kept ≡ false
not_stale counter kept le = le-ltb counter kept le

pub taken_by : (t : NodeState) (own : LinkKey) (counter : ℕ) (key : Bytes) → own.kept ≤ counter
    → why_old (dropped_at 0 key t.nets) (why_no_room t key) ≡ None → why_not_taken t own counter key ≡ None
unfolding why_not_taken
taken_by t own counter key le e = rw (not_stale counter own.kept le) e

pub from_map : (f : NetKey → Bytes) (o : Option NetKey) (r : NetKey) → option_map f o ≡ Some (f r) → (x : NetKey)
    × (o ≡ Some x) × (f x ≡ f r)
from_map f None r e = absurd (false≢true (ap is_some e))
from_map f (Some x) r e = (x, refl, ap (λ o. unwrap_or o (f r)) e)

pub number_is : (f : NetKey → ℕ) (o : Option NetKey) (x r : NetKey) → o ≡ Some x → option_map f o ≡ Some (f r)
    → f x ≡ f r
number_is f o x r e g = ap (λ o. unwrap_or o (f r)) (sym (ap (option_map f) e) ∙ g)

pub record Relinked (c m : Setting) (s u t : NodeState) (l : AreLinked c m s t) : Type 0 where
  pub linked : AreLinked c m u t
  pub same_own : linked.own ≡ l.own
  pub same_row : linked.row ≡ l.row
  pub same_key : linked.net.key ≡ l.net.key
  pub same_sequence : linked.net.sequence ≡ l.net.sequence

pub relinked : (c m : Setting) (s u t : NodeState) (n : ℕ) (l : AreLinked c m s t) → WentOn s u m.me.eui n
    → Relinked c m s u t l
relinked c m s u t n l w =
    let x = from_map (λ (r : NetKey). r.key) (active_row u) l.net
    (w.key ∙ ap (option_map (λ (r : NetKey). r.key)) l.active_key) in
    record {
      linked =
          record {
            net = x.0;
            active_key = x.1;
            row = l.row;
            at_centre = w.link ∙ l.at_centre;
            own = l.own;
            at_member = l.at_member;
            same_key = l.same_key;
            verified = l.verified;
            no_offer = l.no_offer;
          };
      same_own = refl;
      same_row = refl;
      same_key = x.2;
      same_sequence = number_is (λ (r : NetKey). r.sequence) (active_row u) x.0 l.net x.1
          (w.sequence ∙ ap (option_map (λ (r : NetKey). r.sequence)) l.active_key);
    }

pub in_range : (c m : Setting) (s u t : NodeState) (l : AreLinked c m s t) (r : Relinked c m s u t l)
    → KeyFrameInRange (answer_frame c m s l.net l.row) → next_counter Aps u < greatest_counter
    → KeyFrameInRange (answer_frame c m u r.linked.net r.linked.row)
in_range c m s u t l r range lt = record {
  key = ap (length {A = ℕ}) r.same_key ∙ range.key;
  sequence = subst (λ n. n < 2 ^ 8) (sym r.same_sequence) range.sequence;
  device = range.device;
  centre = range.centre;
  to = range.to;
  from = range.from;
  link = ap (λ (x : LinkKey). length x.key) r.same_row ∙ range.link;
  counter = lt;
}

pub rejoins_after : (tools : Tools) → DeliversKeys tools → OpensAsJudged tools → (c m : Setting) (s t : NodeState)
    → AreOfOneNetwork c m → (l : AreLinked c m s t) → KeyFrameInRange (answer_frame c m s l.net l.row) → keeps_rules t
    ≡ true → t.role ≡ m.me.role → may_rejoin t ≡ true → (draw : Option Bytes)
    → why_not_sent s m.me.eui ≡ None → why_old (dropped_at 0 l.net.key t.nets) (why_no_room t l.net.key) ≡ None
    → (n : ℕ) → l.own.kept ≤ next_counter Aps s + n → next_counter Aps s + n < greatest_counter
    → AreTaken tools c m.me.eui n s × Rejoins tools c m (repeated tools c m.me.eui n s) t draw
rejoins_after tools delivers opens c m s t o l range rules role may draw e f n le lt =
    let g = goes_on tools c m.me.eui n s o.centre_role e lt in
    let u = repeated tools c m.me.eui n s in
    let w = g.1 in
    let r = relinked c m s u t n l w in
    let ready : l.own.kept ≤ next_counter Aps u = omega (arith, le, w.counter) in
    let small : next_counter Aps u < greatest_counter = omega (arith, lt, w.counter) in
    let open_ : why_not_taken t r.linked.own (next_counter Aps u) r.linked.net.key ≡ None =
    ap (λ x. why_not_taken t x (next_counter Aps u) r.linked.net.key) r.same_own ∙ ap
    (why_not_taken t l.own (next_counter Aps u)) r.same_key ∙ taken_by t l.own (next_counter Aps u) l.net.key
    ready f in (
      g.0,
      rejoins tools delivers opens c m u t o r.linked (in_range c m s u t l r range small) rules role may draw
          (still s u m.me.eui n w e lt) open_,
    )
