-- A router accepts a Tunnel of the centre, and sends the frame in it; the device installs the network key from it.
use Rattle.std.proofs.Common.{◌≡◌, ℕ, true, false, List, [], ◌∷◌, ◌++◌, Option, Some, None, nat_eq, refl, sym, ap, ◌∙◌, eq-eqb}
use Rattle.zb_model.specs.Data.{Bytes, Aps, AtAps, Place, Term, Received}
use Rattle.zb_model.specs.Fits.{keeps_rules}
use Rattle.zb_model.specs.Frames.{plain_frame, nwk_header}
use Rattle.zb_model.specs.State.{NetKey, LinkKey, NodeState, next_counter}
use Rattle.zb_model.specs.Tools.{Tools}
use Rattle.zb_model.specs.Rules.{Setting, Plan, Outcome, Does, Relayed, sends, refuse_if, centre_of, short_of, is_declared}
use Rattle.zb_model.specs.Commands.{take_tunnel, take_command}
use Rattle.zb_model.specs.Answer.{Counting, comes_to, part_of, may_seal, out_of, refusal_of, answer_by, counting_of, plan_of, answer}
use Rattle.law_recovery.specs.Answering.{after_task, frame_of}
use Rattle.law_recovery.specs.Joining.{AreIntroduced}
use Rattle.law_recovery.specs.KeyFrames.{KeyFrame, KeyFrameInRange, DeliversKeys, key_bytes, key_term}
use Rattle.law_recovery.specs.Rejoining.{AreOfOneNetwork, answer_frame, why_not_taken}
use Rattle.law_recovery.proofs.Knocking as knocking
use Rattle.law_recovery.specs.CommandFrames.{net_term, clear_content}
use Rattle.law_recovery.specs.Exchanging.{Seals, net_frame, StationsInRange, NwkInRange}
use Rattle.law_recovery.specs.Meeting.{HasNetwork, IsJoined}
use Rattle.law_recovery.specs.Obstacles.{or_else, in_row, why_not_heard}
use Rattle.law_recovery.proofs.Judged.{plan_at, heard_open, delivered_clear, refused_at, free_at}
use Rattle.law_recovery.proofs.Offering.{heard_down}
use Rattle.law_recovery.proofs.Requesting.{net_range}
use Rattle.law_recovery.specs.Knowing.{MeetsKey}
use Rattle.law_recovery.proofs.Known.{joins_with}
use Rattle.law_recovery.specs.Relaying.{AreRouted, why_not_relayed}
use Rattle.law_recovery.specs.RouterFrames.{DeliversRelays, relayed_frame, seen_through, tunnel, tunnel_bytes}

-- ---- the Tunnel is delivered to the router

abbrev relays : Tools → Setting → KeyFrame → Outcome
relays tools r f = Does [] (sends (short_of r f.device) false (Relayed (tools.wire (key_term tools f))))

relays_by : (tools : Tools) (c r m : Setting) (t : NodeState) (k : Seals) (f : KeyFrame) (draw : Option Bytes)
    → AreRouted c r m → f.device ≡ m.me.eui
    → take_command tools r t draw (heard_open tools (net_frame c r k) (tunnel tools f)) (tunnel tools f)
    ≡ relays tools r f
unfolding take_command take_tunnel refuse_if
relays_by tools c r m t k f draw d to =
    let from : nat_eq c.me.eui (centre_of r.stations) ≡ true =
    eq-eqb c.me.eui (centre_of r.stations) (sym d.router.network.centre_known) in
    let known : is_declared r f.device ≡ true = ap (is_declared r) to ∙ d.child_declared in
    let apart : nat_eq f.device r.me.eui ≡ false = ap (λ n. nat_eq n r.me.eui) to ∙ d.apart in
    rw (d.router_role, from, known, apart) refl

abbrev passed_plan : Tools → Setting → Setting → Seals → KeyFrame → Plan
passed_plan tools c r k f =
    comes_to (net_term (net_frame c r k) (clear_content tools k.nwk (tunnel tools f)) ∷ []) AtAps (relays tools r f)

pass_plan : (tools : Tools) → DeliversRelays tools → (c r m : Setting) (t : NodeState) (k : Seals) (f : KeyFrame)
    (draw : Option Bytes) → AreRouted c r m → StationsInRange c r → NwkInRange k → KeyFrameInRange f
    → f.device ≡ m.me.eui → (h : HasNetwork t k.key k.sequence)
    → plan_of tools r t (Received (tunnel_bytes tools c r k f) draw)
    ≡ plan_at (net_frame c r k) h.found (passed_plan tools c r k f)
pass_plan tools delivers c r m t k f draw d st rn range to h =
    let g = net_frame c r k in
    delivered_clear tools r t g (tunnel tools f) h.found draw
    (delivers.carried_tunnel g f (net_range c r k st.centre_short st.device_short st.centre rn) range)
    (delivers.read k.nwk f range) (heard_down c r t k d.router h rn.counter)
    ∙ ap (λ o. plan_at g h.found (comes_to (net_term g (clear_content tools k.nwk (tunnel tools f)) ∷ []) AtAps o))
    (relays_by tools c r m t k f draw d to)

pub relay_refused : (tools : Tools) → DeliversRelays tools → (c r m : Setting) (t : NodeState) (k : Seals)
    (f : KeyFrame) (draw : Option Bytes) → AreRouted c r m → StationsInRange c r → NwkInRange k → KeyFrameInRange f
    → f.device ≡ m.me.eui → HasNetwork t k.key k.sequence
    → (answer tools r t (Received (tunnel_bytes tools c r k f) draw)).refusal ≡ why_not_relayed t c.me.eui k
unfolding answer answer_by
relay_refused tools delivers c r m t k f draw d st rn range to h =
    ap refusal_of (pass_plan tools delivers c r m t k f draw d st rn range to h)
    ∙ refused_at (net_frame c r k) h.found (passed_plan tools c r k f)
    ∙ nothing_more (why_not_heard h.found c.me.eui k.nwk)
    ∙ sym (ap (λ o. in_row o (λ row. why_not_heard row c.me.eui k.nwk)) h.is_found)
  where
    nothing_more : (o : Option _) → or_else o None ≡ o
    nothing_more None = refl
    nothing_more (Some reason) = refl

free_pass : (tools : Tools) → DeliversRelays tools → (c r m : Setting) (t : NodeState) (k : Seals) (f : KeyFrame)
    (draw : Option Bytes) → AreRouted c r m → StationsInRange c r → NwkInRange k → KeyFrameInRange f
    → f.device ≡ m.me.eui → HasNetwork t k.key k.sequence → why_not_relayed t c.me.eui k ≡ None
    → plan_of tools r t (Received (tunnel_bytes tools c r k f) draw) ≡ passed_plan tools c r k f
free_pass tools delivers c r m t k f draw d st rn range to h none =
    pass_plan tools delivers c r m t k f draw d st rn range to h
    ∙ free_at (net_frame c r k) h.found (passed_plan tools c r k f)
    (sym (ap (λ o. in_row o (λ row. why_not_heard row c.me.eui k.nwk)) h.is_found) ∙ none)

plain_sent : (tools : Tools) (c : Setting) (s : NodeState) (k : Counting) (accepts : List Term) (place : Place)
    (to : ℕ) (bytes : Bytes)
    → (answer_by tools c s k (comes_to accepts place (Does [] (sends to false (Relayed bytes))))).frame
    ≡ Some (nwk_header plain_frame to c.me.short 0 ++ bytes)
unfolding answer_by out_of may_seal part_of
plain_sent tools c s k accepts place to bytes = refl

pub relay_sent : (tools : Tools) → DeliversRelays tools → (c r m : Setting) (t s : NodeState) (k : Seals)
    (net : NetKey) (row : LinkKey) (draw : Option Bytes) → AreRouted c r m → StationsInRange c r → NwkInRange k
    → KeyFrameInRange (answer_frame c m s net row) → HasNetwork t k.key k.sequence
    → why_not_relayed t c.me.eui k ≡ None
    → frame_of tools r t (Received (tunnel_bytes tools c r k (answer_frame c m s net row)) draw)
    ≡ Some (key_bytes tools (relayed_frame c r m s net row))
unfolding answer
relay_sent tools delivers c r m t s k net row draw d st rn range h none =
    let f = answer_frame c m s net row in
    let p = passed_plan tools c r k f in
    ap (λ q. (answer_by tools r t (counting_of r t q) q).frame)
    (free_pass tools delivers c r m t k f draw d st rn range refl h none)
    ∙ plain_sent tools r t (counting_of r t p)
    (net_term (net_frame c r k) (clear_content tools k.nwk (tunnel tools f)) ∷ []) AtAps (short_of r m.me.eui)
    (tools.wire (key_term tools f))
    ∙ ap (λ n. Some (key_bytes tools (record (relayed_frame c r m s net row) { to = n }))) d.child_short

-- ---- the relayed frame is delivered to the device

pub seen_network : (c r m : Setting) → AreRouted c r m → AreOfOneNetwork (seen_through c r) m
unfolding short_of
seen_network c r m d =
    let n = d.device.network in
    record {
      centre_role = n.centre_role;
      member_role = n.member_role;
      centre_known = n.centre_known;
      short_known = n.short_known;
      shorts_differ = d.shorts_differ;
      in_block = n.in_block;
    }

pub seen_introduced : (c r m : Setting) (s t : NodeState) → AreIntroduced c m s t
    → AreIntroduced (seen_through c r) m s t
seen_introduced c r m s t l =
    record {
      net = l.net;
      active_key = l.active_key;
      row = l.row;
      at_centre = l.at_centre;
      own = l.own;
      at_device = l.at_device;
      same_key = l.same_key;
      provisional = l.provisional;
      no_offer = l.no_offer;
      knocked = l.knocked;
    }

pub relayed_range : (c r m : Setting) (s : NodeState) (net : NetKey) (row : LinkKey) → StationsInRange c r
    → KeyFrameInRange (answer_frame c m s net row) → KeyFrameInRange (relayed_frame c r m s net row)
relayed_range c r m s net row st range =
    record {
      key = range.key;
      sequence = range.sequence;
      device = range.device;
      centre = range.centre;
      to = range.to;
      from = st.device_short;
      link = range.link;
      counter = range.counter;
    }

pub key_refused : (tools : Tools) → DeliversKeys tools → (c r m : Setting) (s t : NodeState) → AreRouted c r m
    → StationsInRange c r → (l : AreIntroduced c m s t) → KeyFrameInRange (answer_frame c m s l.net l.row)
    → keeps_rules t ≡ true → (draw : Option Bytes)
    → (answer tools m t (Received (key_bytes tools (relayed_frame c r m s l.net l.row)) draw)).refusal
    ≡ why_not_taken t l.own (next_counter Aps s) l.net.key
unfolding seen_introduced
key_refused tools delivers c r m s t d st l range rules draw =
    knocking.refuses tools delivers (seen_through c r) m s t (seen_network c r m d) (seen_introduced c r m s t l)
    (relayed_range c r m s l.net l.row st range) rules draw

pub key_taken : (tools : Tools) → DeliversKeys tools → (c r m : Setting) (s t : NodeState) → AreRouted c r m
    → StationsInRange c r → (l : AreIntroduced c m s t) → KeyFrameInRange (answer_frame c m s l.net l.row)
    → keeps_rules t ≡ true → (draw : Option Bytes) → why_not_taken t l.own (next_counter Aps s) l.net.key ≡ None
    → MeetsKey t l.net.key l.net.sequence
    → IsJoined (after_task tools m t (Received (key_bytes tools (relayed_frame c r m s l.net l.row)) draw)) c.me.eui
    l.net.key l.net.sequence l.row.key
unfolding seen_introduced
key_taken tools delivers c r m s t d st l range rules draw none meets =
    joins_with tools delivers (seen_through c r) m s t (seen_network c r m d) (seen_introduced c r m s t l)
    (relayed_range c r m s l.net l.row st range) rules draw none meets
