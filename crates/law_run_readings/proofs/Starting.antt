-- What the start lines say of a node: only its own say anything, and these say what its state says.
use Rattle.std.proofs.Common.{◌≡◌, ℕ, max, Bool, true, false, cond, not, List, [], ◌∷◌, ◌++◌, map, fold, find, flat_map, Option, Some, None, option_map, nat_eq, refl, sym, ap, ◌∙◌, subst, arith, append_assoc, eqb-true, eq-eqb, unwrap_or}
use Rattle.std.specs.List.{AllByRecursion, list_any}
use Rattle.std.specs.Option.{option_or}
use Rattle.std.proofs.lemmas.Bool.{false≢true, not-true}
use Rattle.std.proofs.lemmas.List.Sums.{fold-append}
use Rattle.zb_model.specs.Data.{Bytes, Layer, Nwk, Aps, Station, Provisional}
use Rattle.zb_model.specs.Lines.{Line, Declared, GivenNet, GivenLink, Counter}
use Rattle.zb_model.specs.State.{NetKey, NodeState, same_key, has_net, given_net, new_node, declared_at, with_given_net, with_given_link, with_declared}
use Rattle.zb_model.specs.Fits.{all_apart, net_stored}
use Rattle.zb_model.specs.Readings.{speaker, after, heard_line, state_of}
use Rattle.zb_model.specs.Play.{Schedule, Node, stations, net_line, link_line, limit_line, start}
use Rattle.zb_model.specs.Rules.{centre_of}
use Rattle.law_change_fits.proofs.Tests.{both, neither, none_where, apart_seen}
use Rattle.law_run.proofs.Basics.{append-nil', find-map, same_key-eq}
use Rattle.law_run.proofs.Nets.{at_key}
use Rattle.law_tables_suffice.specs.Along.{euis_differ, own_start}
use Rattle.law_run_readings.specs.LastLines.{said_by, last_said, given_in, active_in, counter_in, reserve_in, limit_from, limit_in, sealed_in, sealed_since, floor_in}
use Rattle.law_run_readings.proofs.Rows.{row_at, new_row_other, new_row_own, absent_row}
use Rattle.law_run_readings.proofs.SaidRows.{SaysRow, RowIs}
use Rattle.law_run_readings.proofs.Keeping.{floors_map, plain_floors, stored_is, with_link_stored}
use Rattle.law_run_readings.proofs.Evens.{Even, EvenAps, EvenRow, even_map, new_even}
use Rattle.law_run_readings.proofs.Steps.{Said, Recalls, with_line}
use Rattle.law_run_readings.proofs.Lines.{Alike, alike_recalls, said_of, was_active, RecallsAt, own_alike, heard_as, group_more}

-- ---- what one start line adds

-- no change was stated yet, and these limits were
pub record Begins (x : Said) (s : NodeState) (nwk aps : Option ℕ) : Type 0 where
  pub recalls : Recalls x s
  pub lim : (key : Bytes) → x.lim key ≡ None
  pub sealed : (key : Bytes) → x.sealed key ≡ None
  pub none_aps : x.aps ≡ None
  pub none_active : x.active ≡ None
  pub none_reserve : x.reserve ≡ None
  pub none_floor : (layer : Layer) (key : Bytes) (sender : ℕ) → x.floor layer key sender ≡ None
  pub nwk_is : x.counter Nwk ≡ nwk
  pub aps_is : x.counter Aps ≡ aps
  pub even : (key : Bytes) → Even key s
  pub even_aps : EvenAps s

alike_begins : (x y : Said) (s : NodeState) (nwk aps : Option ℕ) → Alike x y → Begins x s nwk aps → Begins y s nwk aps
alike_begins x y s nwk aps a b = record {
  recalls = alike_recalls x y s a b.recalls;
  lim = λ key. sym (a.lim key) ∙ b.lim key;
  sealed = λ key. sym (a.sealed key) ∙ b.sealed key;
  none_aps = sym a.aps ∙ b.none_aps;
  none_active = sym a.active ∙ b.none_active;
  none_reserve = sym a.reserve ∙ b.none_reserve;
  none_floor = λ layer key sender. sym (a.floor layer key sender) ∙ b.none_floor layer key sender;
  nwk_is = sym (a.counter Nwk) ∙ b.nwk_is;
  aps_is = sym (a.counter Aps) ∙ b.aps_is;
  even = b.even;
  even_aps = b.even_aps;
}

abbrev is-none : Option ℕ → Type 0
is-none None = Unit {0}
is-none (Some n) = ⊥

none-is : (x : ℕ) → None ≡ Some x → ⊥
none-is x e = subst is-none e tt

given_says : (k : Bytes) (q d : ℕ) → SaysRow None None d (given_net d k q)
given_says k q d =
    record { limit = λ e. refl; fresh = λ e. absurd (false≢true (sym e)); next = λ x e. absurd (none-is x e) }

given_row : (k : Bytes) (q d : ℕ) (key : Bytes) (nets : List NetKey) → RowIs None None d (row_at key nets)
    → RowIs None None d (row_at key (cond (has_net k nets) nets (nets ++ given_net d k q ∷ [])))
given_row k q d key nets is = by_has (has_net k nets) refl
  where
    by_has : (b : Bool) → has_net k nets ≡ b
        → RowIs None None d (row_at key (cond b nets (nets ++ given_net d k q ∷ [])))
    by_has true e = is
    by_has false e = by_key (same_key k key) refl
      where
        by_key : (b : Bool) → same_key k key ≡ b → RowIs None None d (row_at key (nets ++ given_net d k q ∷ []))
        by_key false other = subst (RowIs None None d) (sym (new_row_other (given_net d k q) key nets other)) is
        by_key true same =
            subst (λ x. RowIs None None d (row_at x (nets ++ given_net d k q ∷ []))) (same_key-eq k key same)
            (subst (RowIs None None d) (sym (new_row_own (given_net d k q) nets e)) (given_says k q d))

given_floors : (k : Bytes) (q d sender : ℕ) (key : Bytes) (nets : List NetKey)
    → net_stored sender (row_at key (cond (has_net k nets) nets (nets ++ given_net d k q ∷ [])))
    ≡ net_stored sender (row_at key nets)
given_floors k q d sender key nets = by_has (has_net k nets) refl
  where
    by_has : (b : Bool) → has_net k nets ≡ b
        → net_stored sender (row_at key (cond b nets (nets ++ given_net d k q ∷ [])))
        ≡ net_stored sender (row_at key nets)
    by_has true e = refl
    by_has false e = by_key (same_key k key) refl
      where
        by_key : (b : Bool) → same_key k key ≡ b → net_stored sender (row_at key (nets ++ given_net d k q ∷ []))
            ≡ net_stored sender (row_at key nets)
        by_key false other = ap (net_stored sender) (new_row_other (given_net d k q) key nets other)
        by_key true same =
            subst (λ x. net_stored sender (row_at x (nets ++ given_net d k q ∷ []))
            ≡ net_stored sender (row_at x nets)) (same_key-eq k key same)
            (ap (net_stored sender) (new_row_own (given_net d k q) nets e) ∙ stored_is sender (given_net d k q) ∙ sym
            (ap (net_stored sender) (absent_row k nets e)))

plain_rows : (x : Said) (s : NodeState) (nwk aps : Option ℕ) → Begins x s nwk aps → (key : Bytes)
    → RowIs None None s.declared (row_at key s.nets)
plain_rows x s nwk aps b key = subst (λ o. RowIs o None s.declared (row_at key s.nets)) (b.lim key)
    (subst (λ o. RowIs (x.lim key) o s.declared (row_at key s.nets)) (b.sealed key) (b.recalls.rows key))

said_rows : (x : Said) (s : NodeState) (nwk aps : Option ℕ) → Begins x s nwk aps
    → (d : ℕ) (key : Bytes) (o : Option NetKey) → RowIs None None d o → RowIs (x.lim key) (x.sealed key) d o
said_rows x s nwk aps b d key o is = subst (λ l. RowIs l (x.sealed key) d o) (sym (b.lim key))
    (subst (λ l. RowIs None l d o) (sym (b.sealed key)) is)

net_begins : (was : Bytes → Bool) (n : ℕ) (k : Bytes) (q : ℕ) (x : Said) (s : NodeState) (nwk aps : Option ℕ)
    → Begins x s nwk aps → Begins (with_line was (GivenNet n k q) x) (after (GivenNet n k q) s) nwk aps
unfolding after with_given_net
net_begins was n k q x s nwk aps b = record {
  recalls = record {
    declared = b.recalls.declared;
    active = ap (λ o. option_or o (Some k)) (sym b.none_active);
    rows = λ key. said_rows x s nwk aps b s.declared key _
        (given_row k q s.declared key s.nets (plain_rows x s nwk aps b key));
    aps_limit = b.recalls.aps_limit;
    aps_next = b.recalls.aps_next;
    net_floors = λ key sender. given_floors k q s.declared sender key s.nets ∙ b.recalls.net_floors key sender;
    link_floors = b.recalls.link_floors;
  };
  lim = b.lim;
  sealed = b.sealed;
  none_aps = b.none_aps;
  none_active = b.none_active;
  none_reserve = b.none_reserve;
  none_floor = b.none_floor;
  nwk_is = b.nwk_is;
  aps_is = b.aps_is;
  even = λ key. new_even (given_net s.declared k q) refl key s.nets (b.even key);
  even_aps = b.even_aps;
}

link_begins : (was : Bytes → Bool) (n p : ℕ) (k : Bytes) (x : Said) (s : NodeState) (nwk aps : Option ℕ)
    → Begins x s nwk aps → Begins (with_line was (GivenLink n p k) x) (after (GivenLink n p k) s) nwk aps
unfolding after with_given_link
link_begins was n p k x s nwk aps b = record {
  recalls = record {
    declared = b.recalls.declared;
    active = b.recalls.active;
    rows = b.recalls.rows;
    aps_limit = b.recalls.aps_limit;
    aps_next = b.recalls.aps_next;
    net_floors = b.recalls.net_floors;
    link_floors = λ key sender. with_link_stored p k Provisional false sender key s.links ∙ b.recalls.link_floors key
        sender;
  };
  lim = b.lim;
  sealed = b.sealed;
  none_aps = b.none_aps;
  none_active = b.none_active;
  none_reserve = b.none_reserve;
  none_floor = b.none_floor;
  nwk_is = b.nwk_is;
  aps_is = b.aps_is;
  even = b.even;
  even_aps = b.even_aps;
}

declared_begins : (was : Bytes → Bool) (p : Station) (x : Said) (s : NodeState) (nwk aps : Option ℕ)
    → Begins x s nwk aps → Begins (with_line was (Declared p) x) (after (Declared p) s) nwk aps
unfolding after
declared_begins was p x s nwk aps b = record {
  recalls = record {
    declared = b.recalls.declared;
    active = b.recalls.active;
    rows = b.recalls.rows;
    aps_limit = b.recalls.aps_limit;
    aps_next = b.recalls.aps_next;
    net_floors = b.recalls.net_floors;
    link_floors = b.recalls.link_floors;
  };
  lim = b.lim;
  sealed = b.sealed;
  none_aps = b.none_aps;
  none_active = b.none_active;
  none_reserve = b.none_reserve;
  none_floor = b.none_floor;
  nwk_is = b.nwk_is;
  aps_is = b.aps_is;
  even = b.even;
  even_aps = b.even_aps;
}

-- a limit at the start, for rows whose limit was 0
raised_row : (v : ℕ) (o : Option NetKey) → RowIs None None 0 o → RowIs None None v (option_map (declared_at v) o)
raised_row v None is = is
raised_row v (Some r) is = by_started r.started refl
  where
    by_started : (b : Bool) → r.started ≡ b
        → SaysRow None None v (cond b (record r { limit = max r.limit v; next = max r.next v }) r)
    by_started true e = record {
      limit = λ f. let zero_is = is.limit e in omega (arith, zero_is);
      fresh = λ f. absurd (false≢true (sym f ∙ e));
      next = λ x f. absurd (none-is x f);
    }
    by_started false e =
        record {
          limit = λ f. absurd (false≢true (sym e ∙ f));
          fresh = λ f. (refl, refl);
          next = λ x f. absurd (none-is x f);
        }

declared_key : (v : ℕ) (r : NetKey) → (declared_at v r).key ≡ r.key
declared_key v r = by_started r.started
  where
    by_started : (b : Bool) → (cond b (record r { limit = max r.limit v; next = max r.next v }) r).key ≡ r.key
    by_started true = refl
    by_started false = refl

declared_floors : (v : ℕ) (r : NetKey) → (declared_at v r).floors ≡ r.floors
declared_floors v r = by_started r.started
  where
    by_started : (b : Bool) → (cond b (record r { limit = max r.limit v; next = max r.next v }) r).floors ≡ r.floors
    by_started true = refl
    by_started false = refl

declared_even : (v : ℕ) (r : NetKey) → EvenRow r → EvenRow (declared_at v r)
declared_even v r e = by_started r.started
  where
    by_started : (b : Bool) → EvenRow (cond b (record r { limit = max r.limit v; next = max r.next v }) r)
    by_started true = ap (λ y. max y v) e
    by_started false = e

nwk_begins : (was : Bytes → Bool) (n v : ℕ) (x : Said) (s : NodeState) (aps : Option ℕ) → Begins x s None aps
    → Begins (with_line was (Counter n Nwk v) x) (after (Counter n Nwk v) s) (Some v) aps
unfolding after with_declared
nwk_begins was n v x s aps b =
    let zero_is : s.declared ≡ 0 = b.recalls.declared ∙ ap (λ o. unwrap_or o 0) b.nwk_is in record {
      recalls = record {
        declared = refl;
        active = b.recalls.active;
        rows = λ key.
            said_rows x s None aps b v key _
            (subst (RowIs None None v)
            (sym (find-map (at_key key) (declared_at v) (λ r. ap (λ y. same_key y key) (declared_key v r)) s.nets))
            (raised_row v (row_at key s.nets)
            (subst (λ d. RowIs None None d (row_at key s.nets)) zero_is (plain_rows x s None aps b key))));
        aps_limit = b.recalls.aps_limit;
        aps_next = b.recalls.aps_next;
        net_floors = λ key sender. floors_map (declared_at v)
            (plain_floors (declared_at v) (declared_key v) (declared_floors v)) sender key s.nets ∙
            b.recalls.net_floors key sender;
        link_floors = b.recalls.link_floors;
      };
      lim = b.lim;
      sealed = b.sealed;
      none_aps = b.none_aps;
      none_active = b.none_active;
      none_reserve = b.none_reserve;
      none_floor = b.none_floor;
      nwk_is = refl;
      aps_is = b.aps_is;
      even = λ key. even_map (declared_at v) (record { key = declared_key v; even = λ r e. declared_even v r e }) key
          s.nets (b.even key);
      even_aps = b.even_aps;
    }

aps_begins : (was : Bytes → Bool) (n v : ℕ) (x : Said) (s : NodeState) (nwk : Option ℕ) → Begins x s nwk None
    → Begins (with_line was (Counter n Aps v) x) (after (Counter n Aps v) s) nwk (Some v)
unfolding after with_declared
aps_begins was n v x s nwk b =
    let zero_is : s.aps_limit ≡ 0 = b.recalls.aps_limit ∙ ap (λ o. unwrap_or o (unwrap_or (x.counter Aps) 0))
    b.none_reserve ∙ ap (λ o. unwrap_or o 0) b.aps_is in
    let raised : max s.aps_limit v ≡ v = omega (arith, zero_is) in record {
      recalls = record {
        declared = b.recalls.declared;
        active = b.recalls.active;
        rows = b.recalls.rows;
        aps_limit = raised ∙ ap (λ o. unwrap_or o v) (sym b.none_reserve);
        aps_next = λ y e. absurd (none-is y (sym b.none_aps ∙ e));
        net_floors = b.recalls.net_floors;
        link_floors = b.recalls.link_floors;
      };
      lim = b.lim;
      sealed = b.sealed;
      none_aps = b.none_aps;
      none_active = b.none_active;
      none_reserve = b.none_reserve;
      none_floor = b.none_floor;
      nwk_is = b.nwk_is;
      aps_is = refl;
      even = b.even;
      even_aps = ap (λ y. max y v) b.even_aps;
    }

-- ---- a node's own start lines

abbrev BeginsAt : List Line → ℕ → Option ℕ → Option ℕ → Type 0
BeginsAt front n nwk aps = Begins (said_of [] front n) (state_of front n) nwk aps

nothing_yet : (n : ℕ) → BeginsAt [] n None None
unfolding last_said sealed_since state_of limit_from
nothing_yet n = record {
  recalls =
      record {
        declared = refl;
        active = refl;
        rows = λ key. (refl, refl);
        aps_limit = refl;
        aps_next = λ v e. absurd (none-is v e);
        net_floors = λ key sender. refl;
        link_floors = λ key sender. refl;
      };
  lim = λ key. refl;
  sealed = λ key. refl;
  none_aps = refl;
  none_active = refl;
  none_reserve = refl;
  none_floor = λ layer key sender. refl;
  nwk_is = refl;
  aps_is = refl;
  even = λ key. tt;
  even_aps = refl;
}

one_more : (front : List Line) (l : Line) (n : ℕ) (nwk aps : Option ℕ) → speaker l ≡ n
    → Begins (with_line (was_active [] n) l (said_of [] front n)) (after l (state_of front n)) nwk aps
    → BeginsAt (front ++ l ∷ []) n nwk aps
one_more front l n nwk aps own b =
    let is : nat_eq (speaker l) n ≡ true = eq-eqb (speaker l) n own in
    subst (λ s. Begins (said_of [] (front ++ l ∷ []) n) s nwk aps) (heard_as n [] front l true is)
    (alike_begins (with_line (was_active [] n) l (said_of [] front n)) (said_of [] (front ++ l ∷ []) n)
    (after l (state_of front n)) nwk aps (own_alike [] front l n is) b)

at_network : (front : List Line) (n : ℕ) (o : Option (Bytes × ℕ)) → BeginsAt front n None None
    → BeginsAt (front ++ net_line n o) n None None
unfolding speaker
at_network front n None b = subst (λ x. BeginsAt x n None None) (sym (append-nil' front)) b
at_network front n (Some given) b = one_more front (GivenNet n given.0 given.1) n None None refl
    (net_begins (was_active [] n) n given.0 given.1 (said_of [] front n) (state_of front n) None None b)

at_code : (front : List Line) (centre n : ℕ) (o : Option Bytes) → BeginsAt front n None None
    → BeginsAt (front ++ link_line centre n o) n None None
unfolding speaker
at_code front centre n None b = subst (λ x. BeginsAt x n None None) (sym (append-nil' front)) b
at_code front centre n (Some key) b = one_more front (GivenLink n centre key) n None None refl
    (link_begins (was_active [] n) n centre key (said_of [] front n) (state_of front n) None None b)

at_nwk : (front : List Line) (n v : ℕ) (z : Bool) → BeginsAt front n None None
    → BeginsAt (front ++ cond z [] (Counter n Nwk v ∷ [])) n (cond z None (Some v)) None
unfolding speaker
at_nwk front n v true b = subst (λ x. BeginsAt x n None None) (sym (append-nil' front)) b
at_nwk front n v false b = one_more front (Counter n Nwk v) n (Some v) None refl
    (nwk_begins (was_active [] n) n v (said_of [] front n) (state_of front n) None b)

at_aps : (front : List Line) (n v : ℕ) (nwk : Option ℕ) (z : Bool) → BeginsAt front n nwk None
    → BeginsAt (front ++ cond z [] (Counter n Aps v ∷ [])) n nwk (cond z None (Some v))
unfolding speaker
at_aps front n v nwk true b = subst (λ x. BeginsAt x n nwk None) (sym (append-nil' front)) b
at_aps front n v nwk false b = one_more front (Counter n Aps v) n nwk (Some v) refl
    (aps_begins (was_active [] n) n v (said_of [] front n) (state_of front n) nwk b)

abbrev said_zero : ℕ → Option ℕ
said_zero v = cond (nat_eq v 0) None (Some v)

own_begins : (centre : ℕ) (m : Node) → BeginsAt (own_start centre m) m.station.eui (said_zero m.start_nwk)
    (said_zero m.start_aps)
unfolding speaker
own_begins centre m =
    let n = m.station.eui in
    let f1 : List Line = Declared m.station ∷ [] in
    let f2 = f1 ++ net_line n m.network in
    let f3 = f2 ++ link_line centre n m.code in
    let f4 = f3 ++ limit_line n Nwk m.start_nwk in
    let b1 : BeginsAt f1 n None None = one_more [] (Declared m.station) n None None refl
    (declared_begins (was_active [] n) m.station (said_of [] [] n) (state_of [] n) None None (nothing_yet n)) in
    let b3 : BeginsAt f3 n None None = at_code f2 centre n m.code (at_network f1 n m.network b1) in
    let b4 = at_nwk f3 n m.start_nwk (nat_eq m.start_nwk 0) b3 in
    subst (λ x. BeginsAt x n (said_zero m.start_nwk) (said_zero m.start_aps))
    (append_assoc f3 (limit_line n Nwk m.start_nwk) (limit_line n Aps m.start_aps)
    ∙ append_assoc f2 (link_line centre n m.code) (limit_line n Nwk m.start_nwk ++ limit_line n Aps m.start_aps)
    ∙ append_assoc f1 (net_line n m.network)
    (link_line centre n m.code ++ (limit_line n Nwk m.start_nwk ++ limit_line n Aps m.start_aps)))
    (at_aps f4 n m.start_aps (said_zero m.start_nwk) (nat_eq m.start_aps 0) b4)

-- ---- of all start lines

abbrev AreOf : ℕ → List Line → Type 0
AreOf n ls = AllByRecursion (λ (l : Line). speaker l ≡ n) ls

abbrev pub has_eui : ℕ → Node → Bool
has_eui n m = nat_eq m.station.eui n

abbrev lines_of : (Node → List Line) → Option Node → List Line
lines_of f None = []
lines_of f (Some m) = f m

abbrev nodes_differ : List Node → Bool
nodes_differ ms = all_apart (λ (a b : Node). nat_eq a.station.eui b.station.eui) ms

not_same : (a b n : ℕ) → nat_eq a n ≡ true → nat_eq a b ≡ false → nat_eq b n ≡ false
not_same a b n same other = by_test (nat_eq b n) refl
  where
    by_test : (c : Bool) → nat_eq b n ≡ c → c ≡ false
    by_test false is = refl
    by_test true is = absurd (false≢true (sym other ∙ eq-eqb a b (eqb-true a n same ∙ sym (eqb-true b n is))))

-- a reading that uses only the lines of one node
module _ {S : Type 0} (G : S → Line → S) (n : ℕ)
    (deaf : (s : S) (l : Line) → nat_eq (speaker l) n ≡ false → G s l ≡ s) where
  others_read : (m : ℕ) → nat_eq m n ≡ false → (ls : List Line) → AreOf m ls → (s : S) → fold G s ls ≡ s
  others_read m other [] own s = refl
  others_read m other (l ∷ ls) own s = ap (λ t. fold G t ls) (deaf s l (ap (λ x. nat_eq x n) own.0 ∙ other)) ∙
      others_read m other ls own.1 s

  module _ (f : Node → List Line) (own : (m : Node) → AreOf m.station.eui (f m)) where
    none_read : (ms : List Node) → list_any (has_eui n) ms ≡ false → (s : S) → fold G s (flat_map f ms) ≡ s
    none_read [] none s = refl
    none_read (m ∷ ms) none s =
        let parts = neither (has_eui n m) (list_any (has_eui n) ms) none in
        fold-append G s (f m) (flat_map f ms) ∙ ap (λ t. fold G t (flat_map f ms))
        (others_read m.station.eui parts.0 (f m) (own m) s) ∙ none_read ms parts.1 s

    one_read : (ms : List Node) → nodes_differ ms ≡ true → (s : S) → fold G s (flat_map f ms)
        ≡ fold G s (lines_of f (find (has_eui n) ms))
    one_read [] differ s = refl
    one_read (m ∷ ms) differ s =
        let parts = both (not (list_any (λ (b : Node). nat_eq m.station.eui b.station.eui) ms)) (nodes_differ ms)
        differ in
        fold-append G s (f m) (flat_map f ms)
        ∙ by_test (has_eui n m) refl (not-true _ parts.0) (one_read ms parts.1 s)
        (λ apart. none_read ms
        (none_where (λ (k : Node). nat_eq m.station.eui k.station.eui) (has_eui n)
        (λ k e. not_same m.station.eui k.station.eui n apart.0 e) ms apart.1) (fold G s (f m)))
        (λ is. others_read m.station.eui is (f m) (own m) s)
      where
        by_test : (b : Bool) → has_eui n m ≡ b → list_any (λ (k : Node). nat_eq m.station.eui k.station.eui) ms ≡ false
            → fold G s (flat_map f ms) ≡ fold G s (lines_of f (find (has_eui n) ms))
            → ((has_eui n m ≡ true) × (list_any (λ (k : Node). nat_eq m.station.eui k.station.eui) ms ≡ false)
            → fold G (fold G s (f m)) (flat_map f ms) ≡ fold G s (f m))
            → (has_eui n m ≡ false → fold G s (f m) ≡ s)
            → fold G (fold G s (f m)) (flat_map f ms) ≡ fold G s (lines_of f (cond b (Some m) (find (has_eui n) ms)))
        by_test true is apart more rest none = rest (is, apart)
        by_test false is apart more rest none = ap (λ t. fold G t (flat_map f ms)) (none is) ∙ more

abbrev declared_lines : Node → List Line
declared_lines m = Declared m.station ∷ []

abbrev net_lines : Node → List Line
net_lines m = net_line m.station.eui m.network

abbrev link_lines : ℕ → Node → List Line
link_lines centre m = link_line centre m.station.eui m.code

abbrev limit_lines : Node → List Line
limit_lines m = limit_line m.station.eui Nwk m.start_nwk ++ limit_line m.station.eui Aps m.start_aps

all_declared : (ms : List Node) → map Declared (map (λ (m : Node). m.station) ms) ≡ flat_map declared_lines ms
all_declared [] = refl
all_declared (m ∷ ms) = ap (λ l. Declared m.station ∷ l) (all_declared ms)

own_declared : (m : Node) → AreOf m.station.eui (declared_lines m)
unfolding speaker
own_declared m = (refl, tt)

net_of_node : (n : ℕ) (o : Option (Bytes × ℕ)) → AreOf n (net_line n o)
unfolding speaker
net_of_node n None = tt
net_of_node n (Some given) = (refl, tt)

link_of_node : (centre n : ℕ) (o : Option Bytes) → AreOf n (link_line centre n o)
unfolding speaker
link_of_node centre n None = tt
link_of_node centre n (Some key) = (refl, tt)

limits_of_node : (n a b : ℕ) (x y : Bool)
    → AreOf n (cond x [] (Counter n Nwk a ∷ []) ++ cond y [] (Counter n Aps b ∷ []))
unfolding speaker
limits_of_node n a b true true = tt
limits_of_node n a b true false = (refl, tt)
limits_of_node n a b false true = (refl, tt)
limits_of_node n a b false false = (refl, (refl, tt))

module _ {S : Type 0} (G : S → Line → S) (n : ℕ)
    (deaf : (s : S) (l : Line) → nat_eq (speaker l) n ≡ false → G s l ≡ s) (w : Schedule)
    (differ : nodes_differ w.nodes ≡ true) (m : Node) (found : find (has_eui n) w.nodes ≡ Some m) where
  pass : (f : Node → List Line) → ((k : Node) → AreOf k.station.eui (f k)) → (s : S) → fold G s (flat_map f w.nodes)
      ≡ fold G s (f m)
  pass f own s = one_read G n deaf f own w.nodes differ s ∙ ap (λ o. fold G s (lines_of f o)) found

  pub start_heard : (s : S) → fold G s (start w) ≡ fold G s (own_start (centre_of (stations w)) m)
  unfolding start
  start_heard s =
      let centre = centre_of (stations w) in
      let nets = flat_map net_lines w.nodes in
      let links = flat_map (link_lines centre) w.nodes in
      let limits = flat_map limit_lines w.nodes in
      let s1 = fold G s (declared_lines m) in
      let s2 = fold G s1 (net_lines m) in
      let s3 = fold G s2 (link_lines centre m) in
      ap (λ ds. fold G s (ds ++ (nets ++ (links ++ limits)))) (all_declared w.nodes)
      ∙ fold-append G s (flat_map declared_lines w.nodes) (nets ++ (links ++ limits))
      ∙ ap (λ t. fold G t (nets ++ (links ++ limits))) (pass declared_lines own_declared s)
      ∙ fold-append G s1 nets (links ++ limits)
      ∙ ap (λ t. fold G t (links ++ limits)) (pass net_lines (λ k. net_of_node k.station.eui k.network) s1)
      ∙ fold-append G s2 links limits
      ∙ ap (λ t. fold G t limits) (pass (link_lines centre) (λ k. link_of_node centre k.station.eui k.code) s2)
      ∙ pass limit_lines
      (λ k. limits_of_node k.station.eui k.start_nwk k.start_aps (nat_eq k.start_nwk 0) (nat_eq k.start_aps 0)) s3
      ∙ sym (fold-append G s2 (link_lines centre m) (limit_lines m))
      ∙ sym (fold-append G s1 (net_lines m) (link_lines centre m ++ limit_lines m))
      ∙ sym (fold-append G s (declared_lines m) (net_lines m ++ (link_lines centre m ++ limit_lines m)))

-- ---- at the start of a run

same_said : {A : Type 0} (f : Line → Option A) (n : ℕ) (w : Schedule) → nodes_differ w.nodes ≡ true → (m : Node)
    → find (has_eui n) w.nodes ≡ Some m → last_said n f (own_start (centre_of (stations w)) m)
    ≡ last_said n f (start w)
unfolding last_said
same_said f n w differ m found =
    sym (start_heard (λ o l. option_or (said_by n f l) o) n (λ o l e. ap (λ b. option_or (cond b (f l) None) o) e) w
    differ m found None)

same_sealed : (layer : Layer) (key : Bytes) (n : ℕ) (w : Schedule) → nodes_differ w.nodes ≡ true → (m : Node)
    → find (has_eui n) w.nodes ≡ Some m → sealed_since n layer key (own_start (centre_of (stations w)) m)
    ≡ sealed_since n layer key (start w)
unfolding sealed_since
same_sealed layer key n w differ m found =
    sym (start_heard (λ o l. cond (nat_eq (speaker l) n) (sealed_in layer key o l) o) n
    (λ o l e. ap (λ b. cond b (sealed_in layer key o l) o) e) w differ m found None)

same_state : (n : ℕ) (w : Schedule) → nodes_differ w.nodes ≡ true → (m : Node) → find (has_eui n) w.nodes ≡ Some m
    → state_of (own_start (centre_of (stations w)) m) n ≡ state_of (start w) n
unfolding state_of heard_line
same_state n w differ m found =
    sym (start_heard (heard_line n) n (λ s l e. ap (λ b. cond b (after l s) s) e) w differ m found
    (new_node Rattle.zb_model.specs.Data.Role.Device))

pub start_recalls : (w : Schedule) → euis_differ w ≡ true → (n : ℕ) (m : Node) → find (has_eui n) w.nodes ≡ Some m
    → has_eui n m ≡ true → RecallsAt (start w ∷ []) [] n
unfolding euis_differ
start_recalls w differ n m found is =
    let nodes : nodes_differ w.nodes ≡ true =
    sym (apart_seen (λ (a b : Station). nat_eq a.eui b.eui) (λ (k : Node). k.station) w.nodes) ∙ differ in
    let own = own_start (centre_of (stations w)) m in
    let here : RecallsAt [] own n = subst (RecallsAt [] own) (eqb-true m.station.eui n is)
    (own_begins (centre_of (stations w)) m).recalls in
    group_more [] (start w) n
    (subst (Recalls (said_of [] (start w) n)) (same_state n w nodes m found)
    (alike_recalls (said_of [] own n) (said_of [] (start w) n) (state_of own n) (record {
      lim = λ key. ap (λ o. option_or o (limit_from n key [] []))
          (same_said (limit_in key (was_active [] n key)) n w nodes m found);
      sealed = λ key. same_sealed Nwk key n w nodes m found;
      aps = same_sealed Aps [] n w nodes m found;
      given = same_said given_in n w nodes m found;
      active = same_said active_in n w nodes m found;
      counter = λ layer. same_said (counter_in layer) n w nodes m found;
      reserve = same_said (reserve_in Aps) n w nodes m found;
      floor = λ layer key sender. same_said (floor_in layer key sender) n w nodes m found;
    }) here))

pub start_even : (w : Schedule) → euis_differ w ≡ true → (n : ℕ) (m : Node) → find (has_eui n) w.nodes ≡ Some m
    → has_eui n m ≡ true → ((key : Bytes) → Even key (state_of (start w) n)) × EvenAps (state_of (start w) n)
unfolding euis_differ
start_even w differ n m found is =
    let nodes : nodes_differ w.nodes ≡ true =
    sym (apart_seen (λ (a b : Station). nat_eq a.eui b.eui) (λ (k : Node). k.station) w.nodes) ∙ differ in
    let own = own_start (centre_of (stations w)) m in
    let b = own_begins (centre_of (stations w)) m in
    let same : state_of own m.station.eui ≡ state_of (start w) n = ap (state_of own) (eqb-true m.station.eui n is) ∙
    same_state n w nodes m found in
    (λ key. subst (Even key) same (b.even key), subst EvenAps same b.even_aps)
