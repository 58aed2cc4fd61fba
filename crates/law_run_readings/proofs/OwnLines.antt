-- Each line of a node says of its rows what the node's state has after it.
use Rattle.std.proofs.Common.{◌≡◌, ◌+◌, ℕ, max, map, Bool, true, false, cond, List, [], ◌∷◌, None, ◌||◌, ◌&&◌, Option, Some, fold, nat_eq, refl, sym, ap, ◌∙◌, unwrap_or}
use Rattle.std.specs.List.{list_any}
use Rattle.std.specs.Option.{option_or}
use Rattle.zb_model.specs.Data.{Role, Move, Draw, Bytes, Layer, Nwk, Aps, Term, Provisional, DropNet, DropLink, Install, Row, Live, Roll, Told, Untold, Reserve, Floor, Start, Moved, Device}
use Rattle.zb_model.specs.Lines.{Line, GivenNet, GivenLink, Counter, Changed, Accept, Seal, Boot}
use Rattle.zb_model.specs.Readings.{after, heard_line, speaker, state_of}
use Rattle.zb_model.specs.State.{LinkKey, NetKey, NodeState, after_accepting, after_boot, after_hearing, after_sealing, applied, booted_link, booted_net, declared_at, dropped_link, dropped_net, is_live, moved, given_net, is_told, link_floor, link_kept, net_floor, net_kept, new_net, new_node, next_at, reserved, sealed_at, started_at, told_as, with_declared, with_given_link, with_given_net}
use Rattle.law_run_readings.specs.LastLines.{last_said, said_by}
use Rattle.law_run_readings.specs.RowLines.{is_live_row, live, names_row, role, role_in, rows_of, keys_of, link_of_state, link_said, link_says, names_key, net_of_state, net_says, rolls, said_own}
use Rattle.law_run_readings.proofs.NetRows.{keys, keys_active, keys_at, keys_more, keys_same, live_active, live_at, live_dropped, live_more, live_of_at, live_same}
use Rattle.law_run_readings.proofs.LinkRows.{Keeps, KeepsSaid, OwnRows, dropped_keeps, lives_in, names, names_at, names_given, names_same, names_told, own_at, own_given, own_rows, own_told, told_keeps, at_said, said_at, said_dropped, said_given, said_same, told_said, with_told_said}

keeps : (f : LinkKey → LinkKey) → ((r : LinkKey) → (f r).partner ≡ r.partner) → ((r : LinkKey) → (f r).key ≡ r.key)
    → Keeps f
keeps f partner key = record { partner = partner; key = key }

-- what each line says of a reading, all lines say
module _ {A : Type 0} (R : NodeState → A) (says : Line → A → A)
    (line : (l : Line) (s : NodeState) → R (after l s) ≡ says l (R s)) where
  by_speaker : (l : Line) (s : NodeState) (b : Bool) → R (cond b (after l s) s) ≡ cond b (says l (R s)) (R s)
  by_speaker l s true = line l s
  by_speaker l s false = refl

  pub along : (h : List Line) (n : ℕ) (s : NodeState) → R (fold (heard_line n) s h) ≡ said_own says (R s) h n
  unfolding heard_line
  along [] n s = refl
  along (l ∷ h) n s = along h n (heard_line n s l) ∙ ap (λ x. said_own says x h n)
      (by_speaker l s (nat_eq (speaker l) n))

-- ---- a rollover

roll_heard : (layer : Layer) (key : Bytes) (sender counter : ℕ) (s : NodeState)
    → (after_hearing layer key sender counter s).sending ≡ s.sending
unfolding after_hearing
roll_heard Nwk key sender counter s = refl
roll_heard Aps key sender counter s = refl

roll_sealed : (layer : Layer) (t : Term) (s : NodeState) → (sealed_at layer t s).sending ≡ s.sending
roll_sealed Nwk t s = refl
roll_sealed Aps t s = refl

roll_line : (l : Line) (s : NodeState) → (after l s).sending ≡ rolls l s.sending
unfolding after applied with_given_net with_given_link with_declared after_accepting after_sealing after_boot
roll_line (Accept e n t) s = roll_heard t.layer t.base t.source t.counter s
roll_line (Seal e n t) s = roll_sealed t.layer t s
roll_line (Counter n Nwk v) s = refl
roll_line (Counter n Aps v) s = refl
roll_line (Changed e n (Reserve Nwk v)) s = refl
roll_line (Changed e n (Reserve Aps v)) s = refl
roll_line (Changed e n (Floor Nwk k p v)) s = refl
roll_line (Changed e n (Floor Aps k p v)) s = refl
roll_line (Changed e n (Moved (Roll sending))) s = refl
roll_line _ s = refl

pub rolling_said : (h : List Line) (n : ℕ) → (state_of h n).sending ≡ said_own rolls false h n
unfolding state_of
rolling_said h n = along (λ s. s.sending) rolls roll_line h n (new_node Device)

-- ---- network rows

declared_key : (v : ℕ) (r : NetKey) → (declared_at v r).key ≡ r.key
declared_key v r = by_started r.started
  where
    by_started : (b : Bool) → (cond b (record r { limit = max r.limit v; next = max r.next v }) r).key ≡ r.key
    by_started true = refl
    by_started false = refl

declared_live : (v : ℕ) (r : NetKey) → (declared_at v r).live ≡ r.live
declared_live v r = by_started r.started
  where
    by_started : (b : Bool) → (cond b (record r { limit = max r.limit v; next = max r.next v }) r).live ≡ r.live
    by_started true = refl
    by_started false = refl

keys_heard : (layer : Layer) (key : Bytes) (sender counter : ℕ) (s : NodeState)
    → keys (after_hearing layer key sender counter s).nets ≡ keys s.nets
unfolding after_hearing
keys_heard Nwk key sender counter s = keys_at (net_kept sender (counter + 1)) (λ r. refl) key s.nets
keys_heard Aps key sender counter s = refl

keys_sealed : (layer : Layer) (t : Term) (s : NodeState) → keys (sealed_at layer t s).nets ≡ keys s.nets
keys_sealed Nwk t s = keys_at (next_at (t.counter + 1)) (λ r. refl) t.base s.nets
keys_sealed Aps t s = refl

keys_line : (l : Line) (s : NodeState) → keys_of (after l s) ≡ names_key l (keys_of s)
unfolding after applied with_given_net with_given_link with_declared after_accepting after_sealing after_boot
keys_line (Accept e n t) s = keys_heard t.layer t.base t.source t.counter s
keys_line (Seal e n t) s = keys_sealed t.layer t s
keys_line (GivenNet n key sequence) s = keys_more (given_net s.declared key sequence) s.nets
keys_line (Counter n Nwk v) s = keys_same (declared_at v) (declared_key v) s.nets
keys_line (Counter n Aps v) s = refl
keys_line (Changed e n (Reserve Nwk v)) s = keys_active (reserved v) (λ r. refl) s.active s.nets
keys_line (Changed e n (Reserve Aps v)) s = refl
keys_line (Changed e n (Floor Nwk k p v)) s = keys_at (net_floor p v) (λ r. refl) k s.nets
keys_line (Changed e n (Floor Aps k p v)) s = refl
keys_line (Changed e n (Start k v)) s = keys_at (started_at v) (λ r. refl) k s.nets
keys_line (Changed e n (Moved (DropNet k))) s = keys_at dropped_net (λ r. refl) k s.nets
keys_line (Changed e n (Moved (Install k sequence))) s = keys_more (new_net k sequence) s.nets
keys_line (Boot e n) s = keys_same booted_net (λ r. refl) s.nets
keys_line _ s = refl

pub keys_said : (h : List Line) (n : ℕ) → keys_of (state_of h n) ≡ said_own names_key [] h n
unfolding state_of
keys_said h n = along keys_of names_key keys_line h n (new_node Device)

nets_heard : (q : Bytes) (layer : Layer) (key : Bytes) (sender counter : ℕ) (s : NodeState)
    → live_at q (after_hearing layer key sender counter s).nets ≡ live_at q s.nets
unfolding after_hearing
nets_heard q Nwk key sender counter s = live_of_at (net_kept sender (counter + 1)) (λ r. refl) (λ r. refl) key q s.nets
nets_heard q Aps key sender counter s = refl

nets_sealed : (q : Bytes) (layer : Layer) (t : Term) (s : NodeState) → live_at q (sealed_at layer t s).nets
    ≡ live_at q s.nets
nets_sealed q Nwk t s = live_of_at (next_at (t.counter + 1)) (λ r. refl) (λ r. refl) t.base q s.nets
nets_sealed q Aps t s = refl

nets_line : (q : Bytes) (l : Line) (s : NodeState) → net_of_state q (after l s) ≡ net_says q l (net_of_state q s)
unfolding after applied with_given_net with_given_link with_declared after_accepting after_sealing after_boot
nets_line q (Accept e n t) s = nets_heard q t.layer t.base t.source t.counter s
nets_line q (Seal e n t) s = nets_sealed q t.layer t s
nets_line q (GivenNet n key sequence) s = live_more (given_net s.declared key sequence) q s.nets refl
nets_line q (Counter n Nwk v) s = live_same (declared_at v) (declared_key v) (declared_live v) q s.nets
nets_line q (Counter n Aps v) s = refl
nets_line q (Changed e n (Reserve Nwk v)) s = live_active (reserved v) (λ r. refl) (λ r. refl) s.active q s.nets
nets_line q (Changed e n (Reserve Aps v)) s = refl
nets_line q (Changed e n (Floor Nwk k p v)) s = live_of_at (net_floor p v) (λ r. refl) (λ r. refl) k q s.nets
nets_line q (Changed e n (Floor Aps k p v)) s = refl
nets_line q (Changed e n (Start k v)) s = live_of_at (started_at v) (λ r. refl) (λ r. refl) k q s.nets
nets_line q (Changed e n (Moved (DropNet k))) s = live_dropped k q s.nets
nets_line q (Changed e n (Moved (Install k sequence))) s = live_more (new_net k sequence) q s.nets refl
nets_line q (Boot e n) s = live_same booted_net (λ r. refl) (λ r. refl) q s.nets
nets_line q _ s = refl

pub nets_said : (h : List Line) (n : ℕ) (key : Bytes) → net_of_state key (state_of h n)
    ≡ said_own (net_says key) None h n
unfolding state_of
nets_said h n key = along (net_of_state key) (net_says key) (nets_line key) h n (new_node Device)

-- ---- link rows

plain : (f : LinkKey → LinkKey) → ((r : LinkKey) → (f r).partner ≡ r.partner) → ((r : LinkKey) → (f r).key ≡ r.key)
    → ((r : LinkKey) → link_said (f r) ≡ link_said r) → KeepsSaid f
plain f partner key said = record { row = record { partner = partner; key = key }; said = said }

links_heard : (p : ℕ) (q : Bytes) (layer : Layer) (key : Bytes) (sender counter : ℕ) (s : NodeState)
    → said_at p q (after_hearing layer key sender counter s).links ≡ said_at p q s.links
unfolding after_hearing
links_heard p q Nwk key sender counter s = refl
links_heard p q Aps key sender counter s =
    at_said (link_kept (counter + 1)) (plain (link_kept (counter + 1)) (λ r. refl) (λ r. refl) (λ r. refl)) sender key
    p q s.links

links_sealed : (p : ℕ) (q : Bytes) (layer : Layer) (t : Term) (s : NodeState)
    → said_at p q (sealed_at layer t s).links ≡ said_at p q s.links
links_sealed p q Nwk t s = refl
links_sealed p q Aps t s = refl

rolled : (p : ℕ) (q : Bytes) (b : Bool) (links : List LinkKey)
    → said_at p q (cond b (map (told_as false) links) links) ≡ said_at p q links
rolled p q true links = said_same (told_as false) (told_said false) p q links
rolled p q false links = refl

links_line : (p : ℕ) (q : Bytes) (l : Line) (s : NodeState) → link_of_state p q (after l s)
    ≡ link_says p q l (link_of_state p q s)
unfolding after applied with_given_net with_given_link with_declared after_accepting after_sealing after_boot
links_line p q (Accept e n t) s = links_heard p q t.layer t.base t.source t.counter s
links_line p q (Seal e n t) s = links_sealed p q t.layer t s
links_line p q (GivenLink n partner key) s = said_given partner key Provisional false p q s.links
links_line p q (Counter n Nwk v) s = refl
links_line p q (Counter n Aps v) s = refl
links_line p q (Changed e n (Reserve Nwk v)) s = refl
links_line p q (Changed e n (Reserve Aps v)) s = refl
links_line p q (Changed e n (Floor Nwk k from v)) s = refl
links_line p q (Changed e n (Floor Aps k from v)) s =
    at_said (link_floor v) (plain (link_floor v) (λ r. refl) (λ r. refl) (λ r. refl)) from k p q s.links
links_line p q (Changed e n (Moved (DropLink partner key))) s = said_dropped partner key p q s.links
links_line p q (Changed e n (Moved (Row partner key attribute))) s =
    said_given partner key attribute (is_told s partner) p q s.links
links_line p q (Changed e n (Moved (Live device))) s = with_told_said device false p q s.links
links_line p q (Changed e n (Moved (Told device))) s = with_told_said device true p q s.links
links_line p q (Changed e n (Moved (Untold device))) s = with_told_said device false p q s.links
links_line p q (Changed e n (Moved (Roll sending))) s = rolled p q sending s.links
links_line p q (Boot e n) s = said_same booted_link (plain booted_link (λ r. refl) (λ r. refl) (λ r. refl)) p q s.links
links_line p q _ s = refl

pub links_said : (h : List Line) (n : ℕ) (partner : ℕ) (key : Bytes) → link_of_state partner key (state_of h n)
    ≡ said_own (link_says partner key) None h n
unfolding state_of
links_said h n partner key = along (link_of_state partner key) (link_says partner key) (links_line partner key) h n
    (new_node Device)

-- ---- link rows in their order, no two of which have one partner and key

names_heard : (layer : Layer) (key : Bytes) (sender counter : ℕ) (s : NodeState)
    → names (after_hearing layer key sender counter s).links ≡ names s.links
unfolding after_hearing
names_heard Nwk key sender counter s = refl
names_heard Aps key sender counter s = names_at (link_kept (counter + 1)) (keeps (link_kept (counter + 1)) (λ r. refl)
    (λ r. refl)) sender key s.links

names_sealed : (layer : Layer) (t : Term) (s : NodeState) → names (sealed_at layer t s).links ≡ names s.links
names_sealed Nwk t s = refl
names_sealed Aps t s = refl

names_rolled : (b : Bool) (links : List LinkKey) → names (cond b (map (told_as false) links) links) ≡ names links
names_rolled true links = names_same (told_as false) (told_keeps false) links
names_rolled false links = refl

rows_line : (l : Line) (s : NodeState) → rows_of (after l s) ≡ names_row l (rows_of s)
unfolding after applied with_given_net with_given_link with_declared after_accepting after_sealing after_boot
rows_line (Accept e n t) s = names_heard t.layer t.base t.source t.counter s
rows_line (Seal e n t) s = names_sealed t.layer t s
rows_line (GivenLink n partner key) s = names_given partner key Provisional false s.links
rows_line (Counter n Nwk v) s = refl
rows_line (Counter n Aps v) s = refl
rows_line (Changed e n (Reserve Nwk v)) s = refl
rows_line (Changed e n (Reserve Aps v)) s = refl
rows_line (Changed e n (Floor Nwk k from v)) s = refl
rows_line (Changed e n (Floor Aps k from v)) s =
    names_at (link_floor v) (keeps (link_floor v) (λ r. refl) (λ r. refl)) from k s.links
rows_line (Changed e n (Moved (DropLink partner key))) s = names_at dropped_link dropped_keeps partner key s.links
rows_line (Changed e n (Moved (Row partner key attribute))) s = names_given partner key attribute (is_told s partner)
    s.links
rows_line (Changed e n (Moved (Live device))) s = names_told device false s.links
rows_line (Changed e n (Moved (Told device))) s = names_told device true s.links
rows_line (Changed e n (Moved (Untold device))) s = names_told device false s.links
rows_line (Changed e n (Moved (Roll sending))) s = names_rolled sending s.links
rows_line (Boot e n) s = names_same booted_link (keeps booted_link (λ r. refl) (λ r. refl)) s.links
rows_line _ s = refl

pub rows_said : (h : List Line) (n : ℕ) → rows_of (state_of h n) ≡ said_own names_row [] h n
unfolding state_of
rows_said h n = along rows_of names_row rows_line h n (new_node Device)

own_heard : (layer : Layer) (key : Bytes) (sender counter : ℕ) (s : NodeState) → OwnRows s.links s.links
    → OwnRows (after_hearing layer key sender counter s).links (after_hearing layer key sender counter s).links
unfolding after_hearing
own_heard Nwk key sender counter s own = own
own_heard Aps key sender counter s own = own_at (link_kept (counter + 1)) (keeps (link_kept (counter + 1)) (λ r. refl)
    (λ r. refl)) sender key s.links own

own_sealed : (layer : Layer) (t : Term) (s : NodeState) → OwnRows s.links s.links
    → OwnRows (sealed_at layer t s).links (sealed_at layer t s).links
own_sealed Nwk t s own = own
own_sealed Aps t s own = own

own_rolled : (b : Bool) (links : List LinkKey) → OwnRows links links
    → OwnRows (cond b (map (told_as false) links) links) (cond b (map (told_as false) links) links)
own_rolled true links own = own_rows (told_as false) (told_keeps false) links own
own_rolled false links own = own

own_line : (l : Line) (s : NodeState) → OwnRows s.links s.links → OwnRows (after l s).links (after l s).links
unfolding after applied with_given_net with_given_link with_declared after_accepting after_sealing after_boot
own_line (Accept e n t) s own = own_heard t.layer t.base t.source t.counter s own
own_line (Seal e n t) s own = own_sealed t.layer t s own
own_line (GivenLink n partner key) s own = own_given partner key Provisional false s.links own
own_line (Counter n Nwk v) s own = own
own_line (Counter n Aps v) s own = own
own_line (Changed e n (Reserve Nwk v)) s own = own
own_line (Changed e n (Reserve Aps v)) s own = own
own_line (Changed e n (Floor Nwk k from v)) s own = own
own_line (Changed e n (Floor Aps k from v)) s own =
    own_at (link_floor v) (keeps (link_floor v) (λ r. refl) (λ r. refl)) from k s.links own
own_line (Changed e n (Moved (DropLink partner key))) s own = own_at dropped_link dropped_keeps partner key s.links own
own_line (Changed e n (Moved (Row partner key attribute))) s own =
    own_given partner key attribute (is_told s partner) s.links own
own_line (Changed e n (Moved (Live device))) s own = own_told device false s.links own
own_line (Changed e n (Moved (Told device))) s own = own_told device true s.links own
own_line (Changed e n (Moved (Untold device))) s own = own_told device false s.links own
own_line (Changed e n (Moved (Roll sending))) s own = own_rolled sending s.links own
own_line (Boot e n) s own = own_rows booted_link (keeps booted_link (λ r. refl) (λ r. refl)) s.links own
own_line _ s own = own

own_along : (h : List Line) (n : ℕ) (s : NodeState) → OwnRows s.links s.links
    → OwnRows (fold (heard_line n) s h).links (fold (heard_line n) s h).links
unfolding heard_line
own_along [] n s own = own
own_along (l ∷ h) n s own = own_along h n (heard_line n s l) (by_speaker (nat_eq (speaker l) n))
  where
    by_speaker : (b : Bool) → OwnRows (cond b (after l s) s).links (cond b (after l s) s).links
    by_speaker true = own_line l s own
    by_speaker false = own

own_of : (h : List Line) (n : ℕ) → OwnRows (state_of h n).links (state_of h n).links
unfolding state_of
own_of h n = own_along h n (new_node Device) tt

any_same : (f g : ℕ × Bytes → Bool) → ((r : ℕ × Bytes) → f r ≡ g r) → (rows : List (ℕ × Bytes)) → list_any f rows
    ≡ list_any g rows
any_same f g same [] = refl
any_same f g same (r ∷ rs) = ap (λ b. b || list_any f rs) (same r) ∙ ap (λ b. g r || b) (any_same f g same rs)

pub lives_said : (h : List Line) (n device : ℕ) → live h n device ≡ is_live (state_of h n) device
unfolding live is_live
lives_said h n device =
    let s = state_of h n in
    ap (list_any (λ (r : ℕ × Bytes). is_live_row (said_own (link_says r.0 r.1) None h n) && nat_eq r.0 device))
    (sym (rows_said h n))
    ∙ any_same (λ r. is_live_row (said_own (link_says r.0 r.1) None h n) && nat_eq r.0 device)
    (λ r. is_live_row (said_at r.0 r.1 s.links) && nat_eq r.0 device)
    (λ r. ap (λ o. is_live_row o && nat_eq r.0 device) (sym (links_said h n r.0 r.1))) (rows_of s)
    ∙ lives_in device s.links s.links (own_of h n)

-- ---- the role

role_heard : (layer : Layer) (key : Bytes) (sender counter : ℕ) (s : NodeState)
    → (after_hearing layer key sender counter s).role ≡ s.role
unfolding after_hearing
role_heard Nwk key sender counter s = refl
role_heard Aps key sender counter s = refl

role_sealed : (layer : Layer) (t : Term) (s : NodeState) → (sealed_at layer t s).role ≡ s.role
role_sealed Nwk t s = refl
role_sealed Aps t s = refl

abbrev role_after : Line → Role → Role
role_after l found = unwrap_or (role_in l) found

pub role_line : (l : Line) (s : NodeState) → (after l s).role ≡ role_after l s.role
unfolding after applied with_given_net with_given_link with_declared after_accepting after_sealing after_boot
role_line (Accept e n t) s = role_heard t.layer t.base t.source t.counter s
role_line (Seal e n t) s = role_sealed t.layer t s
role_line (Counter n Nwk v) s = refl
role_line (Counter n Aps v) s = refl
role_line (Changed e n (Reserve Nwk v)) s = refl
role_line (Changed e n (Reserve Aps v)) s = refl
role_line (Changed e n (Floor Nwk k p v)) s = refl
role_line (Changed e n (Floor Aps k p v)) s = refl
role_line (Changed e n (Moved move)) s = by_move move
  where
    by_move : (m : Move) → (moved m s).role ≡ s.role
    by_move (Draw key) = refl
    by_move _ = refl
role_line _ s = refl

-- what the last line says, and what the lines say one after the other
last_own : {A : Type 0} (n : ℕ) (f : Line → Option A) (h : List Line) (found : Option A) (first : A)
    → unwrap_or (fold (λ found l. option_or (said_by n f l) found) found h) first
    ≡ said_own (λ l x. unwrap_or (f l) x) (unwrap_or found first) h n
last_own n f [] found first = refl
last_own {A = A} n f (l ∷ h) found first =
    last_own n f h (option_or (said_by n f l) found) first ∙ ap (λ x. said_own (λ l x. unwrap_or (f l) x) x h n)
    (by_speaker (nat_eq (speaker l) n) (f l))
  where
    by_speaker : (b : Bool) (o : Option A) → unwrap_or (option_or (cond b o None) found) first
        ≡ cond b (unwrap_or o (unwrap_or found first)) (unwrap_or found first)
    by_speaker true None = refl
    by_speaker true (Some x) = refl
    by_speaker false o = refl

pub role_said : (h : List Line) (n : ℕ) → role h n ≡ (state_of h n).role
unfolding role last_said state_of
role_said h n = last_own n role_in h None Device ∙ sym
    (along (λ (s : NodeState). s.role) role_after role_line h n (new_node Device))

-- what the law of rows rests on
pub ruleset rows_decide = (rolling_said, keys_said, nets_said, rows_said, links_said, lives_said, role_said)
