-- A printed schedule reads as itself: kind by kind of its lines, each node with what its lines before said of it.
use Rattle.std.proofs.Common.{◌≡◌, ℕ, ◌<◌, ◌≤◌, ◌==◌, ◌&&◌, ◌||◌, not, nat_le, List, [], ◌∷◌, ◌++◌, length, Bool, true, false, map, Option, Some, None, Ok, refl, arith, ap, sym, ◌∙◌, subst, length-append, append_assoc, append-nil}
use Rattle.std.specs.Prelude.{if◌then◌else◌, is_some, IfSome}
use Rattle.std.specs.List.{AllByRecursion, list_any, flat_map}
use Rattle.std.specs.Option.{option_map}
use Rattle.std.proofs.lemmas.Bool.Decides.{nat_tests}
use Rattle.std.proofs.lemmas.List.{map-append, length-map}
use Rattle.std.proofs.lemmas.List.Concat.{flat_map_single}
use Rattle.zb_base.specs.declared.label.Layer.{Layer}
use Rattle.zb_base.specs.declared.label.Layer.TheVariants.{Nwk, Aps}
use Rattle.zb_base.specs.declared.node.Role.{Role}
use Rattle.zb_base.specs.declared.node.Role.TheVariants.{Centre, Router, Device}
use Rattle.zb_install.specs.Code.{code_key}
use Rattle.zb_text.specs.Pages.{IsLine, line_of_words}
use Rattle.zb_text.proofs.ReadAgain.{lines_again}
use Rattle.zb_sched_line.specs.Fits.{IsName}
use Rattle.zb_sched_line.specs.Grammar.{greatest}
use Rattle.zb_sched_line.specs.Said.{Bytes, Event, Introduces, Codes, Holds, Starts, Draws, Happens}
use Rattle.zb_sched_line.specs.Texts.{code_words, counter_words, netkey_words}
use Rattle.zb_sched_line.proofs.LineAgain.{event_again, code_again, counter_again, draw_again, netkey_again, node_again, IsLine-event, IsLine-code, IsLine-counter, IsLine-draw, IsLine-netkey, IsLine-node}
use Rattle.zb_sched.specs.Judge.{Seat, Seen, changed, coded, has_code, has_counter, has_its_nodes, has_name, has_network, holding, is_declared, is_drawn, is_joiner, is_key, is_link, is_link_of_other, is_network, is_taken, link_of, network_of, new_seat, provision_clashes, role_named, starting, well_known}
use Rattle.zb_sched.specs.Schedules.{Node, Schedule}
use Rattle.zb_sched.specs.Printed.{event_line, code_line, code_lines, counter_line, counter_lines, draw_line, netkey_line, netkey_lines, node_line, printed, printed_lines}
use Rattle.zb_sched.specs.Reading.{finished, has_centre, is_centre, reads, schedule_in, start}
use Rattle.zb_sched.specs.Valid.{Pairwise, Differ, Apart, KeysApart, FitsNodeCode, FitsNetwork, FitsNode, IsNewKey, seated, FitsSchedule, IsSoFar, IsSchedule}
use Rattle.zb_sched.proofs.Kept.{nodes_same, provision_same}
use Rattle.zb_sched.proofs.Leads.{Leads, item_by_item, leads_from, leads_to, one_line, read_through, then_on}
use Rattle.zb_sched.proofs.Lists.{all_map, all_of}
use Rattle.zb_sched.proofs.Splits.{Others, both_all, mapped_all, all_before, all_behind, changed_there, column, no_key, no_such_key, none_of_both, none_passes, one_of, other_bytes, other_number, related, role_there, same_bytes}

-- ---- what is known of a node after the lines of each kind

abbrev bare : Node → Seat
bare m = new_seat m.name m.role m.eui m.short m.out_block m.in_block

abbrev with_code : Node → Seat
with_code m = record {
  node = record {
    name = m.name;
    role = m.role;
    eui = m.eui;
    short = m.short;
    out_block = m.out_block;
    in_block = m.in_block;
    code = m.code;
    network = None;
    start_nwk = 0;
    start_aps = 0;
  };
  nwk_declared = false;
  aps_declared = false;
}

abbrev with_keys : Node → Seat
with_keys m = record {
  node = record {
    name = m.name;
    role = m.role;
    eui = m.eui;
    short = m.short;
    out_block = m.out_block;
    in_block = m.in_block;
    code = m.code;
    network = m.network;
    start_nwk = 0;
    start_aps = 0;
  };
  nwk_declared = false;
  aps_declared = false;
}

abbrev with_nwk : Node → Seat
with_nwk m = record {
  node = record {
    name = m.name;
    role = m.role;
    eui = m.eui;
    short = m.short;
    out_block = m.out_block;
    in_block = m.in_block;
    code = m.code;
    network = m.network;
    start_nwk = m.start_nwk;
    start_aps = 0;
  };
  nwk_declared = not (m.start_nwk == 0);
  aps_declared = false;
}

abbrev whole : Node → Seat
whole m = record { node = m; nwk_declared = not (m.start_nwk == 0); aps_declared = not (m.start_aps == 0) }

abbrev with_seats : List Seat → Seen
with_seats seats = record { seats = seats; draws = []; events = [] }

-- the nodes before one have other names
others_before : (f : Node → Seat) → ((m : Node) → (f m).node.name ≡ m.name) → (name : Bytes) (done : List Node)
    → AllByRecursion (λ (d : Node). d.name ≡ name → ⊥) done → Others name (map f done)
others_before f same name [] all = tt
others_before f same name (d ∷ done) all =
    (other_bytes (f d).node.name name (λ e. all.0 (sym (same d) ∙ e)), others_before f same name done all.1)

names_before : (done : List Node) (m : Node) (todo : List Node) → Pairwise Apart (done ++ m ∷ todo)
    → AllByRecursion (λ (d : Node). d.name ≡ m.name → ⊥) done
names_before done m todo apart = all_map (λ d. Apart d m) (λ d. d.name ≡ m.name → ⊥) done (λ d r. r.0)
    (related Apart done m todo apart)

-- one seat changed, in the middle
middle : (f g : Node → Seat) (done : List Node) (m : Node) (todo : List Node)
    → map f done ++ f m ∷ map g todo ≡ map f (done ++ m ∷ []) ++ map g todo
middle f g done m todo = sym (append_assoc (map f done) (f m ∷ []) (map g todo)) ∙ ap
    (λ (xs : List Seat). xs ++ map g todo) (sym (map-append f done (m ∷ [])))

-- a line changes one seat
changes : (f g : Node → Seat) (done : List Node) (m : Node) (todo : List Node) (change : Seat → Seat)
    → Others m.name (map f done)
    → has_name m.name (g m) ≡ true → change (g m) ≡ f m
    → changed m.name change (map f done ++ map g (m ∷ todo)) ≡ map f (done ++ m ∷ []) ++ map g todo
changes f g done m todo change others named same =
    changed_there m.name change (map f done) (g m) (map g todo) others named
    ∙ ap (λ (s : Seat). map f done ++ s ∷ map g todo) same ∙ middle f g done m todo

-- no line, and nothing changes
stays : (f g : Node → Seat) (done : List Node) (m : Node) (todo : List Node) → g m ≡ f m
    → with_seats (map f done ++ map g (m ∷ todo)) ≡ with_seats (map f (done ++ m ∷ []) ++ map g todo)
stays f g done m todo same =
    ap with_seats (ap (λ (s : Seat). map f done ++ s ∷ map g todo) same ∙ middle f g done m todo)

-- ---- nodes

abbrev named_so_far : List Node → List Node → Seen
named_so_far done todo = with_seats (map bare done)

not_taken : (done : List Node) (m : Node) → AllByRecursion (λ d. Apart d m) done
    → AllByRecursion (λ (d : Node). is_taken m.name m.eui m.short (bare d) ≡ false) done
not_taken done m all =
    all_map (λ d. Apart d m) (λ (d : Node). is_taken m.name m.eui m.short (bare d) ≡ false) done
    (λ d r. rw (other_bytes d.name m.name r.0, other_number d.eui m.eui r.1, other_number d.short m.short r.2) refl)
    all

few_before : (done : List Node) (m : Node) (todo ms : List Node) → ms ≡ done ++ m ∷ todo → length ms ≤ 64
    → nat_le 64 (length (map bare done)) ≡ false
few_before done m todo ms is few =
    let less : length done < 64 = omega (arith, ap (length {A = Node}) is, length-append done (m ∷ todo)) in
    let same : length (map bare done) ≡ length done = length-map done bare in
    rw same (grind (arith, nat_tests, less))

node_step : (ms : List Node) → AllByRecursion FitsNode ms → Pairwise Apart ms → length ms ≤ 64
    → (done : List Node) (m : Node) (todo : List Node) → ms ≡ done ++ m ∷ todo
    → Leads (named_so_far done (m ∷ todo)) (node_line m ∷ []) (named_so_far (done ++ m ∷ []) todo)
node_step ms fits apart few done m todo is =
    let fit : FitsNode m = one_of FitsNode done m todo (subst (AllByRecursion FitsNode) is fits) in
    let pairs : AllByRecursion (λ d. Apart d m) done = related Apart done m todo (subst (Pairwise Apart) is apart) in
    let from : Seen = named_so_far done (m ∷ todo) in
    one_line from (named_so_far (done ++ m ∷ []) todo) (node_line m)
    (Introduces m.name m.role m.eui m.short m.out_block m.in_block)
    (node_again m.name m.role m.eui m.short m.out_block m.in_block fit.0)
    (rw (
      none_passes (λ seat. is_taken m.name m.eui m.short seat) bare done (not_taken done m pairs),
      fit.1,
      few_before done m todo ms is few,
    )
    (ap (λ seats. Ok (with_seats seats)) (sym (map-append bare done (m ∷ [])))))

-- ---- install codes

abbrev coded_so_far : List Node → List Node → Seen
coded_so_far done todo = with_seats (map with_code done ++ map bare todo)

joiner : (role : Role) → is_centre role ≡ false → is_joiner (Some role) ≡ true
joiner Centre h = cc h
joiner Router h = refl
joiner Device h = refl

no_code_before : (done : List Node) (m : Node) → AllByRecursion (λ (d : Node). d.name ≡ m.name → ⊥) done
    → list_any (λ seat. has_name m.name seat && is_some seat.node.code) (map with_code done) ≡ false
no_code_before done m names =
    none_passes (λ seat. has_name m.name seat && is_some seat.node.code) with_code done
    (all_map (λ (d : Node). d.name ≡ m.name → ⊥)
    (λ (d : Node). (has_name m.name (with_code d) && is_some d.code) ≡ false) done
    (λ d differ. rw (other_bytes d.name m.name differ) refl) names)

and_false : (b : Bool) → (b && false) ≡ false
and_false true = refl
and_false false = refl

no_code_behind : (name : Bytes) (todo : List Node) → list_any (λ seat. has_name name seat && is_some seat.node.code)
    (map bare todo) ≡ false
no_code_behind name todo =
    none_passes (λ seat. has_name name seat && is_some seat.node.code) bare todo
    (all_of (λ (d : Node). (has_name name (bare d) && is_some (bare d).node.code) ≡ false) todo
    (λ d. and_false (has_name name (bare d))))

no_link_before : (key name : Bytes) (done : List Node) → AllByRecursion (λ (d : Node). Differ (link_of d) (Some key))
    done
    → list_any (λ seat. is_key key (link_of seat.node) && not (has_name name seat)) (map with_code done) ≡ false
no_link_before key name done all =
    none_passes (λ seat. is_key key (link_of seat.node) && not (has_name name seat)) with_code done
    (all_map (λ (d : Node). Differ (link_of d) (Some key))
    (λ (d : Node). (is_key key (link_of d) && not (has_name name (with_code d))) ≡ false) done
    (λ d differ. rw (no_key key (link_of d) differ) refl) all)

no_link_behind : (key name : Bytes) (todo : List Node)
    → list_any (λ seat. is_key key (link_of seat.node) && not (has_name name seat)) (map bare todo) ≡ false
no_link_behind key name todo =
    none_passes (λ seat. is_key key (link_of seat.node) && not (has_name name seat)) bare todo
    (all_of (λ (d : Node). (is_key key (link_of (bare d).node) && not (has_name name (bare d))) ≡ false) todo
    (λ d. refl))

no_network_yet : (key : Bytes) (f : Node → Seat) → ((m : Node) → (f m).node.network ≡ None) → (ms : List Node)
    → list_any (λ seat. is_key key (network_of seat.node)) (map f ms) ≡ false
no_network_yet key f none ms =
    none_passes (λ seat. is_key key (network_of seat.node)) f ms
    (all_of (λ (m : Node). is_key key (network_of (f m).node) ≡ false) ms (λ m. rw (none m) refl))

code_known : (m : Node) (code : Bytes) → m.code ≡ Some code → coded code (bare m) ≡ with_code m
code_known m code is = ap (λ (c : Option Bytes). record {
  node = record {
    name = m.name;
    role = m.role;
    eui = m.eui;
    short = m.short;
    out_block = m.out_block;
    in_block = m.in_block;
    code = c;
    network = None;
    start_nwk = 0;
    start_aps = 0;
  };
  nwk_declared = false;
  aps_declared = false;
}) (sym is)

code_unknown : (m : Node) → m.code ≡ None → bare m ≡ with_code m
code_unknown m is = ap (λ (c : Option Bytes). record {
  node = record {
    name = m.name;
    role = m.role;
    eui = m.eui;
    short = m.short;
    out_block = m.out_block;
    in_block = m.in_block;
    code = c;
    network = None;
    start_nwk = 0;
    start_aps = 0;
  };
  nwk_declared = false;
  aps_declared = false;
}) (sym is)

links_before : (done : List Node) (m : Node) (todo : List Node) (code : Bytes) → m.code ≡ Some code
    → Pairwise Apart (done ++ m ∷ todo)
    → AllByRecursion (λ (d : Node). Differ (link_of d) (Some (code_key code))) done
links_before done m todo code is apart =
    all_map (λ d. Apart d m) (λ (d : Node). Differ (link_of d) (Some (code_key code))) done
    (λ d r. subst (λ (c : Option Bytes). Differ (link_of d) (option_map code_key c)) is r.3)
    (related Apart done m todo apart)

code_step : (done : List Node) (m : Node) (todo : List Node) (code : Bytes) → m.code ≡ Some code → IsName m.name
    → FitsNodeCode m code → Pairwise Apart (done ++ m ∷ todo)
    → Leads (coded_so_far done (m ∷ todo)) (line_of_words (code_words m.name code) ∷ [])
    (coded_so_far (done ++ m ∷ []) todo)
code_step done m todo code is named fits apart =
    let names : AllByRecursion (λ (d : Node). d.name ≡ m.name → ⊥) done = names_before done m todo apart in
    let others : Others m.name (map with_code done) = others_before with_code (λ d. refl) m.name done names in
    let from : Seen = coded_so_far done (m ∷ todo) in
    let first : has_code m.name from.seats ≡ false =
    none_of_both (λ seat. has_name m.name seat && is_some seat.node.code) (map with_code done) (map bare (m ∷ todo))
    (no_code_before done m names) (no_code_behind m.name (m ∷ todo)) in
    let alone : is_link_of_other (code_key code) m.name from.seats ≡ false =
    none_of_both (λ seat. is_key (code_key code) (link_of seat.node) && not (has_name m.name seat))
    (map with_code done) (map bare (m ∷ todo))
    (no_link_before (code_key code) m.name done (links_before done m todo code is apart))
    (no_link_behind (code_key code) m.name (m ∷ todo)) in
    let apart_from : is_network (code_key code) from.seats ≡ false =
    none_of_both (λ seat. is_key (code_key code) (network_of seat.node)) (map with_code done) (map bare (m ∷ todo))
    (no_network_yet (code_key code) with_code (λ d. refl) done)
    (no_network_yet (code_key code) bare (λ d. refl) (m ∷ todo)) in
    let known : role_named m.name from.seats ≡ Some m.role = role_there m.name (map with_code done) (bare m)
    (map bare todo) others (same_bytes m.name) in
    one_line from (coded_so_far (done ++ m ∷ []) todo) (line_of_words (code_words m.name code))
    (Codes m.name (Some code))
    (code_again m.name code named fits.0)
    (rw (first, alone, apart_from, other_bytes (code_key code) well_known fits.2, known, joiner m.role fits.1)
    (ap (λ seats. Ok (with_seats seats))
    (changes with_code bare done m todo (λ seat. coded code seat) others (same_bytes m.name)
    (code_known m code is))))

code_lines_step : (done : List Node) (m : Node) (todo : List Node) (o : Option Bytes) → m.code ≡ o → IsName m.name
    → IfSome o (λ code. FitsNodeCode m code) → Pairwise Apart (done ++ m ∷ todo)
    → Leads (coded_so_far done (m ∷ todo)) (code_line m.name o) (coded_so_far (done ++ m ∷ []) todo)
code_lines_step done m todo None is named fits apart = stays with_code bare done m todo (code_unknown m is)
code_lines_step done m todo (Some code) is named fits apart = code_step done m todo code is named fits apart

-- ---- network keys

abbrev keyed_so_far : List Node → List Node → Seen
keyed_so_far done todo = with_seats (map with_keys done ++ map with_code todo)

no_network_before : (done : List Node) (m : Node) → AllByRecursion (λ (d : Node). d.name ≡ m.name → ⊥) done
    → list_any (λ seat. has_name m.name seat && is_some seat.node.network) (map with_keys done) ≡ false
no_network_before done m names =
    none_passes (λ seat. has_name m.name seat && is_some seat.node.network) with_keys done
    (all_map (λ (d : Node). d.name ≡ m.name → ⊥)
    (λ (d : Node). (has_name m.name (with_keys d) && is_some d.network) ≡ false) done
    (λ d differ. rw (other_bytes d.name m.name differ) refl) names)

no_network_behind : (name : Bytes) (todo : List Node)
    → list_any (λ seat. has_name name seat && is_some seat.node.network) (map with_code todo) ≡ false
no_network_behind name todo =
    none_passes (λ seat. has_name name seat && is_some seat.node.network) with_code todo
    (all_of (λ (d : Node). (has_name name (with_code d) && is_some (with_code d).node.network) ≡ false) todo
    (λ d. and_false (has_name name (with_code d))))

-- a key that is no node's link key
no_links : (key : Bytes) (f : Node → Seat) → ((m : Node) → link_of (f m).node ≡ link_of m) → (ms : List Node)
    → AllByRecursion (λ (d : Node). is_key key (link_of d) ≡ false) ms
    → list_any (λ seat. is_key key (link_of seat.node)) (map f ms) ≡ false
no_links key f same ms all =
    none_passes (λ seat. is_key key (link_of seat.node)) f ms
    (all_map (λ (d : Node). is_key key (link_of d) ≡ false) (λ (d : Node). is_key key (link_of (f d).node) ≡ false) ms
    (λ d h. rw (same d) h) all)

network_known : (m : Node) (key : Bytes) (sequence : ℕ) → m.network ≡ Some (key, sequence)
    → holding key sequence (with_code m) ≡ with_keys m
network_known m key sequence is = ap (λ (n : Option (Bytes × ℕ)). record {
  node = record {
    name = m.name;
    role = m.role;
    eui = m.eui;
    short = m.short;
    out_block = m.out_block;
    in_block = m.in_block;
    code = m.code;
    network = n;
    start_nwk = 0;
    start_aps = 0;
  };
  nwk_declared = false;
  aps_declared = false;
}) (sym is)

network_unknown : (m : Node) → m.network ≡ None → with_code m ≡ with_keys m
network_unknown m is = ap (λ (n : Option (Bytes × ℕ)). record {
  node = record {
    name = m.name;
    role = m.role;
    eui = m.eui;
    short = m.short;
    out_block = m.out_block;
    in_block = m.in_block;
    code = m.code;
    network = n;
    start_nwk = 0;
    start_aps = 0;
  };
  nwk_declared = false;
  aps_declared = false;
}) (sym is)

-- no node's link key is the network key of one
links_apart : (ms done : List Node) (m : Node) (todo : List Node) (key : Bytes) (sequence : ℕ) → m.network
    ≡ Some (key, sequence)
    → AllByRecursion (λ d. AllByRecursion (λ n. KeysApart d n) (done ++ m ∷ todo)) ms
    → AllByRecursion (λ (d : Node). is_key key (link_of d) ≡ false) ms
links_apart ms done m todo key sequence is keys =
    all_map (λ d. KeysApart d m) (λ (d : Node). is_key key (link_of d) ≡ false) ms
    (λ d r. no_key key (link_of d)
    (subst (λ (n : Option (Bytes × ℕ)). Differ (link_of d) (option_map (λ held. held.0) n)) is r))
    (column KeysApart ms done m todo keys)

netkey_step : (done : List Node) (m : Node) (todo : List Node) (key : Bytes) (sequence : ℕ) → m.network
    ≡ Some (key, sequence) → IsName m.name → FitsNetwork (key, sequence)
    → Pairwise Apart (done ++ m ∷ todo) → AllByRecursion (λ d. AllByRecursion (λ n. KeysApart d n) (done ++ m ∷ todo))
    (done ++ m ∷ todo)
    → Leads (keyed_so_far done (m ∷ todo)) (line_of_words (netkey_words m.name key sequence) ∷ [])
    (keyed_so_far (done ++ m ∷ []) todo)
netkey_step done m todo key sequence is named fits apart keys =
    let names : AllByRecursion (λ (d : Node). d.name ≡ m.name → ⊥) done = names_before done m todo apart in
    let others : Others m.name (map with_keys done) = others_before with_keys (λ d. refl) m.name done names in
    let links : AllByRecursion (λ (d : Node). is_key key (link_of d) ≡ false) (done ++ m ∷ todo) =
    links_apart (done ++ m ∷ todo) done m todo key sequence is keys in
    let from : Seen = keyed_so_far done (m ∷ todo) in
    let first : has_network m.name from.seats ≡ false =
    none_of_both (λ seat. has_name m.name seat && is_some seat.node.network) (map with_keys done)
    (map with_code (m ∷ todo)) (no_network_before done m names) (no_network_behind m.name (m ∷ todo)) in
    let apart_from : is_link key from.seats ≡ false =
    none_of_both (λ seat. is_key key (link_of seat.node)) (map with_keys done) (map with_code (m ∷ todo))
    (no_links key with_keys (λ d. refl) done
    (all_before (λ (d : Node). is_key key (link_of d) ≡ false) done (m ∷ todo) links))
    (no_links key with_code (λ d. refl) (m ∷ todo)
    (all_behind (λ (d : Node). is_key key (link_of d) ≡ false) done (m ∷ todo) links)) in
    let known : role_named m.name from.seats ≡ Some m.role = role_there m.name (map with_keys done) (with_code m)
    (map with_code todo) others (same_bytes m.name) in
    one_line from (keyed_so_far (done ++ m ∷ []) todo) (line_of_words (netkey_words m.name key sequence))
    (Holds m.name key sequence)
    (netkey_again m.name key sequence (named, fits.0, fits.1))
    (rw (first, apart_from, other_bytes key well_known fits.2, known)
    (ap (λ seats. Ok (with_seats seats))
    (changes with_keys with_code done m todo (λ seat. holding key sequence seat) others (same_bytes m.name)
    (network_known m key sequence is))))

netkey_lines_step : (done : List Node) (m : Node) (todo : List Node) (o : Option (Bytes × ℕ)) → m.network ≡ o
    → IsName m.name → IfSome o FitsNetwork
    → Pairwise Apart (done ++ m ∷ todo) → AllByRecursion (λ d. AllByRecursion (λ n. KeysApart d n) (done ++ m ∷ todo))
    (done ++ m ∷ todo)
    → Leads (keyed_so_far done (m ∷ todo)) (netkey_line m.name o) (keyed_so_far (done ++ m ∷ []) todo)
netkey_lines_step done m todo None is named fits apart keys =
    stays with_keys with_code done m todo (network_unknown m is)
netkey_lines_step done m todo (Some held) is named fits apart keys = netkey_step done m todo held.0 held.1 is named
    fits apart keys

-- ---- counters

abbrev counted_so_far : List Node → List Node → Seen
counted_so_far done todo = with_seats (map whole done ++ map with_keys todo)

zero_counter : (n : ℕ) → (n == 0) ≡ true → n ≡ 0
zero_counter n h = grind (arith, nat_tests, h)

-- one counter of a node between others
counter_step : (xs : List Seat) (s : Seat) (ys : List Seat) (layer : Layer) (limit : ℕ) → IsName s.node.name → limit
    ≤ greatest → Others s.node.name xs
    → is_declared layer s ≡ false → AllByRecursion (λ (y : Seat). is_declared layer y ≡ false) ys
    → Leads (with_seats (xs ++ s ∷ ys)) (line_of_words (counter_words s.node.name layer limit) ∷ [])
    (with_seats (xs ++ starting layer limit s ∷ ys))
counter_step xs s ys layer limit named small others first behind =
    let before : has_counter s.node.name layer xs ≡ false = not_counted s.node.name layer xs others in
    let later : has_counter s.node.name layer (s ∷ ys) ≡ false = rw (first, and_false (has_name s.node.name s))
    (undeclared s.node.name layer ys behind) in
    let free : has_counter s.node.name layer (xs ++ s ∷ ys) ≡ false =
    none_of_both (λ seat. has_name s.node.name seat && is_declared layer seat) xs (s ∷ ys) before later in
    let known : role_named s.node.name (xs ++ s ∷ ys) ≡ Some s.node.role =
    role_there s.node.name xs s ys others (same_bytes s.node.name) in
    one_line (with_seats (xs ++ s ∷ ys)) (with_seats (xs ++ starting layer limit s ∷ ys))
    (line_of_words (counter_words s.node.name layer limit)) (Starts s.node.name layer limit)
    (counter_again s.node.name layer limit (named, small))
    (rw (free, known)
    (ap (λ seats. Ok (with_seats seats))
    (changed_there s.node.name (λ seat. starting layer limit seat) xs s ys others (same_bytes s.node.name))))
  where
    not_counted : (name : Bytes) (layer : Layer) (xs : List Seat) → Others name xs → has_counter name layer xs ≡ false
    not_counted name layer [] others = refl
    not_counted name layer (x ∷ xs) others = rw (others.0, not_counted name layer xs others.1) refl

    undeclared : (name : Bytes) (layer : Layer) (ys : List Seat)
        → AllByRecursion (λ (y : Seat). is_declared layer y ≡ false) ys → has_counter name layer ys ≡ false
    undeclared name layer [] all = refl
    undeclared name layer (y ∷ ys) all = rw (all.0, and_false (has_name name y), undeclared name layer ys all.1) refl

abbrev seat_with : Node → ℕ → ℕ → Bool → Bool → Seat
seat_with m nwk aps nwk_declared aps_declared = record {
  node = record {
    name = m.name;
    role = m.role;
    eui = m.eui;
    short = m.short;
    out_block = m.out_block;
    in_block = m.in_block;
    code = m.code;
    network = m.network;
    start_nwk = nwk;
    start_aps = aps;
  };
  nwk_declared = nwk_declared;
  aps_declared = aps_declared;
}

undeclared_behind : (layer : Layer) (todo : List Node) → AllByRecursion (λ (y : Seat). is_declared layer y ≡ false)
    (map with_keys todo)
undeclared_behind layer [] = tt
undeclared_behind Nwk (m ∷ todo) = (refl, undeclared_behind Nwk todo)
undeclared_behind Aps (m ∷ todo) = (refl, undeclared_behind Aps todo)

-- the NWK counter's line, if there is one
nwk_step : (xs : List Seat) (m : Node) (todo : List Node) (b : Bool) → (m.start_nwk == 0) ≡ b → IsName m.name
    → m.start_nwk ≤ greatest → Others m.name xs
    → Leads (with_seats (xs ++ with_keys m ∷ map with_keys todo)) (if b then []
    else line_of_words (counter_words m.name Nwk m.start_nwk) ∷ [])
    (with_seats (xs ++ with_nwk m ∷ map with_keys todo))
nwk_step xs m todo true is named small others =
    let zero_start : m.start_nwk ≡ 0 = zero_counter m.start_nwk is in
    let same : with_keys m ≡ with_nwk m =
    ap (λ (n : ℕ). seat_with m n 0 false false) (sym zero_start) ∙ ap
    (λ (b : Bool). seat_with m m.start_nwk 0 (not b) false) (sym is) in
    ap (λ (s : Seat). with_seats (xs ++ s ∷ map with_keys todo)) same
nwk_step xs m todo false is named small others =
    leads_to (with_seats (xs ++ with_keys m ∷ map with_keys todo))
    (with_seats (xs ++ starting Nwk m.start_nwk (with_keys m) ∷ map with_keys todo))
    (with_seats (xs ++ with_nwk m ∷ map with_keys todo))
    (line_of_words (counter_words m.name Nwk m.start_nwk) ∷ [])
    (counter_step xs (with_keys m) (map with_keys todo) Nwk m.start_nwk named small others refl
    (undeclared_behind Nwk todo))
    (ap (λ (b : Bool). with_seats (xs ++ seat_with m m.start_nwk 0 (not b) false ∷ map with_keys todo)) (sym is))

-- the APS counter's line, if there is one
aps_step : (xs : List Seat) (m : Node) (todo : List Node) (b : Bool) → (m.start_aps == 0) ≡ b → IsName m.name
    → m.start_aps ≤ greatest → Others m.name xs
    → Leads (with_seats (xs ++ with_nwk m ∷ map with_keys todo)) (if b then []
    else line_of_words (counter_words m.name Aps m.start_aps) ∷ [])
    (with_seats (xs ++ whole m ∷ map with_keys todo))
aps_step xs m todo true is named small others =
    let zero_start : m.start_aps ≡ 0 = zero_counter m.start_aps is in
    let same : with_nwk m ≡ whole m =
    ap (λ (n : ℕ). seat_with m m.start_nwk n (not (m.start_nwk == 0)) false) (sym zero_start)
    ∙ ap (λ (b : Bool). seat_with m m.start_nwk m.start_aps (not (m.start_nwk == 0)) (not b)) (sym is) in
    ap (λ (s : Seat). with_seats (xs ++ s ∷ map with_keys todo)) same
aps_step xs m todo false is named small others =
    leads_to (with_seats (xs ++ with_nwk m ∷ map with_keys todo))
    (with_seats (xs ++ starting Aps m.start_aps (with_nwk m) ∷ map with_keys todo))
    (with_seats (xs ++ whole m ∷ map with_keys todo))
    (line_of_words (counter_words m.name Aps m.start_aps) ∷ [])
    (counter_step xs (with_nwk m) (map with_keys todo) Aps m.start_aps named small others refl
    (undeclared_behind Aps todo))
    (ap (λ (b : Bool). with_seats (xs ++ seat_with m m.start_nwk m.start_aps (not (m.start_nwk == 0)) (not b)
    ∷ map with_keys todo)) (sym is))

counter_lines_step : (done : List Node) (m : Node) (todo : List Node) → IsName m.name → m.start_nwk ≤ greatest
    → m.start_aps ≤ greatest → Pairwise Apart (done ++ m ∷ todo)
    → Leads (counted_so_far done (m ∷ todo)) (counter_lines m) (counted_so_far (done ++ m ∷ []) todo)
counter_lines_step done m todo named small_nwk small_aps apart =
    let others : Others m.name (map whole done) = others_before whole (λ d. refl) m.name done
    (names_before done m todo apart) in
    leads_to (counted_so_far done (m ∷ todo)) (with_seats (map whole done ++ whole m ∷ map with_keys todo))
    (counted_so_far (done ++ m ∷ []) todo) (counter_lines m)
    (then_on (counted_so_far done (m ∷ todo)) (with_seats (map whole done ++ with_nwk m ∷ map with_keys todo))
    (with_seats (map whole done ++ whole m ∷ map with_keys todo))
    (counter_line m.name Nwk m.start_nwk) (counter_line m.name Aps m.start_aps)
    (nwk_step (map whole done) m todo (m.start_nwk == 0) refl named small_nwk others)
    (aps_step (map whole done) m todo (m.start_aps == 0) refl named small_aps others))
    (ap with_seats (middle whole with_keys done m todo))

-- ---- the supply

abbrev supplied_so_far : List Node → List Bytes → List Bytes → Seen
supplied_so_far ms done todo = record { seats = map whole ms; draws = done; events = [] }

not_drawn : (done : List Bytes) (key : Bytes) → AllByRecursion (λ d. d ≡ key → ⊥) done → is_drawn key done ≡ false
not_drawn [] key all = refl
not_drawn (d ∷ done) key all = rw (other_bytes d key all.0, not_drawn done key all.1) refl

draw_step : (ms : List Node) (draws : List Bytes) → AllByRecursion (IsNewKey ms) draws
    → Pairwise (λ a b. a ≡ b → ⊥) draws
    → (done : List Bytes) (key : Bytes) (todo : List Bytes) → draws ≡ done ++ key ∷ todo
    → Leads (supplied_so_far ms done (key ∷ todo)) (draw_line key ∷ []) (supplied_so_far ms (done ++ key ∷ []) todo)
draw_step ms draws new apart done key todo is =
    let fit : IsNewKey ms key = one_of (IsNewKey ms) done key todo (subst (AllByRecursion (IsNewKey ms)) is new) in
    let pairs : AllByRecursion (λ d. d ≡ key → ⊥) done = related (λ a b. a ≡ b → ⊥) done key todo
    (subst (Pairwise (λ a b. a ≡ b → ⊥)) is apart) in
    let nets : is_network key (map whole ms) ≡ false =
    none_passes (λ seat. is_key key (network_of seat.node)) whole ms
    (all_map (λ m. Differ (Some key) (link_of m) × Differ (Some key) (network_of m))
    (λ (m : Node). is_key key (network_of m) ≡ false) ms (λ m h. no_such_key key (network_of m) h.1) fit.2) in
    let links : is_link key (map whole ms) ≡ false =
    none_passes (λ seat. is_key key (link_of seat.node)) whole ms
    (all_map (λ m. Differ (Some key) (link_of m) × Differ (Some key) (network_of m))
    (λ (m : Node). is_key key (link_of m) ≡ false) ms (λ m h. no_such_key key (link_of m) h.0) fit.2) in
    one_line (supplied_so_far ms done (key ∷ todo)) (supplied_so_far ms (done ++ key ∷ []) todo) (draw_line key)
    (Draws key) (draw_again key fit.0)
    (rw (not_drawn done key pairs, nets, links, other_bytes key well_known fit.1) refl)

-- ---- events

abbrev happened_so_far : Schedule → List Event → List Event → Seen
happened_so_far p done todo = record { seats = map whole p.nodes; draws = p.draws; events = done }

whole_nodes : (ms : List Node) → map (λ (s : Seat). s.node) (map whole ms) ≡ ms
whole_nodes [] = refl
whole_nodes (m ∷ ms) = ap (λ (more : List Node). m ∷ more) (whole_nodes ms)

event_step : (p : Schedule) → AllByRecursion (FitsSchedule p) p.events → length p.events ≤ 100000
    → (done : List Event) (event : Event) (todo : List Event) → p.events ≡ done ++ event ∷ todo
    → Leads (happened_so_far p done (event ∷ todo)) (event_line event ∷ [])
    (happened_so_far p (done ++ event ∷ []) todo)
event_step p fits few done event todo is =
    let fit : FitsSchedule p event =
    one_of (FitsSchedule p) done event todo (subst (AllByRecursion (FitsSchedule p)) is fits) in
    let from : Seen = happened_so_far p done (event ∷ todo) in
    let known : has_its_nodes event from.seats ≡ true =
    sym (nodes_same event from.seats) ∙ ap (λ (ms : List Node). has_its_nodes event (map seated ms))
    (whole_nodes p.nodes) ∙ fit.1 in
    let free : provision_clashes event from ≡ false =
    sym (provision_same event from)
    ∙ ap (λ (ms : List Node). provision_clashes event
    (record { seats = map seated ms; draws = p.draws; events = [] })) (whole_nodes p.nodes) ∙ fit.2 in
    let less : length done < 100000 = omega (arith, ap (length {A = Event}) is, length-append done (event ∷ todo)) in
    let room : nat_le 100000 (length done) ≡ false = grind (arith, nat_tests, less) in
    one_line from (happened_so_far p (done ++ event ∷ []) todo) (event_line event) (Happens event)
    (event_again event fit.0) (rw (free, known, room) refl)

-- ---- every printed line is a line

lines_of_all : {X : Type 0} (P : X → Type 0) (out : X → List (List ℕ))
    → ((x : X) → P x → AllByRecursion IsLine (out x)) → (xs : List X) → AllByRecursion P xs
    → AllByRecursion IsLine (flat_map out xs)
lines_of_all P out each [] all = tt
lines_of_all P out each (x ∷ xs) all = both_all IsLine (out x) (flat_map out xs) (each x all.0)
    (lines_of_all P out each xs all.1)

code_line_is : (m : Node) (o : Option Bytes) → IsName m.name → IfSome o (λ code. FitsNodeCode m code)
    → AllByRecursion IsLine (code_line m.name o)
code_line_is m None named fits = tt
code_line_is m (Some code) named fits = (IsLine-code m.name code named fits.0, tt)

netkey_line_is : (name : Bytes) (o : Option (Bytes × ℕ)) → IsName name → IfSome o FitsNetwork
    → AllByRecursion IsLine (netkey_line name o)
netkey_line_is name None named fits = tt
netkey_line_is name (Some held) named fits = (IsLine-netkey name held.0 held.1 (named, fits.0, fits.1), tt)

counter_line_is : (b : Bool) (name : Bytes) (layer : Layer) (limit : ℕ) → IsName name → limit ≤ greatest
    → AllByRecursion IsLine (if b then [] else line_of_words (counter_words name layer limit) ∷ [])
counter_line_is true name layer limit named small = tt
counter_line_is false name layer limit named small = (IsLine-counter name layer limit (named, small), tt)

node_lines : (m : Node) → FitsNode m
    → IsLine (node_line m) × AllByRecursion IsLine (code_lines m) × AllByRecursion IsLine (netkey_lines m)
    × AllByRecursion IsLine (counter_lines m)
node_lines m fits = (
  IsLine-node m.name m.role m.eui m.short m.out_block m.in_block fits.0,
  code_line_is m m.code fits.0.0 fits.2,
  netkey_line_is m.name m.network fits.0.0 fits.3,
  both_all IsLine (counter_line m.name Nwk m.start_nwk) (counter_line m.name Aps m.start_aps)
      (counter_line_is (m.start_nwk == 0) m.name Nwk m.start_nwk fits.0.0 fits.4)
      (counter_line_is (m.start_aps == 0) m.name Aps m.start_aps fits.0.0 fits.5),
)

pub lines_are_lines : (p : Schedule) → IsSoFar p → AllByRecursion IsLine (printed_lines p)
lines_are_lines p keeps =
    both_all IsLine (map node_line p.nodes)
    (flat_map code_lines p.nodes
    ++ (flat_map netkey_lines p.nodes
    ++ (flat_map counter_lines p.nodes ++ (map draw_line p.draws ++ map event_line p.events))))
    (mapped_all FitsNode IsLine node_line (λ m fits. (node_lines m fits).0) p.nodes keeps.nodes)
    (both_all IsLine (flat_map code_lines p.nodes)
    (flat_map netkey_lines p.nodes
    ++ (flat_map counter_lines p.nodes ++ (map draw_line p.draws ++ map event_line p.events)))
    (lines_of_all FitsNode code_lines (λ m fits. (node_lines m fits).1) p.nodes keeps.nodes)
    (both_all IsLine (flat_map netkey_lines p.nodes)
    (flat_map counter_lines p.nodes ++ (map draw_line p.draws ++ map event_line p.events))
    (lines_of_all FitsNode netkey_lines (λ m fits. (node_lines m fits).2) p.nodes keeps.nodes)
    (both_all IsLine (flat_map counter_lines p.nodes) (map draw_line p.draws ++ map event_line p.events)
    (lines_of_all FitsNode counter_lines (λ m fits. (node_lines m fits).3) p.nodes keeps.nodes)
    (both_all IsLine (map draw_line p.draws) (map event_line p.events)
    (mapped_all (IsNewKey p.nodes) IsLine draw_line (λ key fits. IsLine-draw key fits.0) p.draws keeps.draws)
    (mapped_all (FitsSchedule p) IsLine event_line (λ event fits. IsLine-event event fits.0) p.events keeps.events)))))

-- ---- the whole

centre_there : (ms : List Node) → has_centre (map whole ms) ≡ list_any (λ m. is_centre m.role) ms
centre_there [] = refl
centre_there (m ∷ ms) = ap (λ b. is_centre m.role || b) (centre_there ms)

singles : {X : Type 0} (f : X → List ℕ) (xs : List X) → flat_map (λ x. f x ∷ []) xs ≡ map f xs
singles f xs = flat_map_single f xs

leads_through : (p : Schedule) → IsSoFar p → Leads start (printed_lines p) (happened_so_far p p.events [])
leads_through p keeps =
    let ms : List Node = p.nodes in
    let nodes : Leads (named_so_far [] ms) (map node_line ms) (named_so_far ms []) =
    subst (λ (ls : List (List ℕ)). Leads (named_so_far [] ms) ls (named_so_far ms [])) (singles node_line ms)
    (item_by_item named_so_far (λ m. node_line m ∷ []) ms (node_step ms keeps.nodes keeps.apart keeps.few_nodes) [] ms
    refl) in
    let codes : Leads (coded_so_far [] ms) (flat_map code_lines ms) (coded_so_far ms []) =
    item_by_item coded_so_far code_lines ms
    (λ done m todo is. let fit : FitsNode m = one_of FitsNode done m todo
    (subst (AllByRecursion FitsNode) is keeps.nodes) in
    code_lines_step done m todo m.code refl fit.0.0 fit.2 (subst (Pairwise Apart) is keeps.apart)) [] ms refl in
    let netkeys : Leads (keyed_so_far [] ms) (flat_map netkey_lines ms) (keyed_so_far ms []) =
    item_by_item keyed_so_far netkey_lines ms
    (λ done m todo is. let fit : FitsNode m = one_of FitsNode done m todo
    (subst (AllByRecursion FitsNode) is keeps.nodes) in
    netkey_lines_step done m todo m.network refl fit.0.0 fit.3 (subst (Pairwise Apart) is keeps.apart)
    (subst (λ (l : List Node). AllByRecursion (λ d. AllByRecursion (λ n. KeysApart d n) l) l) is keeps.keys)) [] ms
    refl in
    let counters : Leads (counted_so_far [] ms) (flat_map counter_lines ms) (counted_so_far ms []) =
    item_by_item counted_so_far counter_lines ms
    (λ done m todo is. let fit : FitsNode m = one_of FitsNode done m todo
    (subst (AllByRecursion FitsNode) is keeps.nodes) in
    counter_lines_step done m todo fit.0.0 fit.4 fit.5 (subst (Pairwise Apart) is keeps.apart)) [] ms refl in
    let draws : Leads (supplied_so_far ms [] p.draws) (map draw_line p.draws) (supplied_so_far ms p.draws []) =
    subst (λ (ls : List (List ℕ)). Leads (supplied_so_far ms [] p.draws) ls (supplied_so_far ms p.draws []))
    (singles draw_line p.draws)
    (item_by_item (supplied_so_far ms) (λ key. draw_line key ∷ []) p.draws
    (draw_step ms p.draws keeps.draws keeps.draws_apart) [] p.draws refl) in
    let events : Leads (happened_so_far p [] p.events) (map event_line p.events) (happened_so_far p p.events []) =
    subst (λ (ls : List (List ℕ)). Leads (happened_so_far p [] p.events) ls (happened_so_far p p.events []))
    (singles event_line p.events)
    (item_by_item (happened_so_far p) (λ event. event_line event ∷ []) p.events
    (event_step p keeps.events keeps.few_events) [] p.events refl) in
    then_on start (named_so_far ms []) (happened_so_far p p.events []) (map node_line ms) _ nodes
    (then_on (named_so_far ms []) (coded_so_far ms []) (happened_so_far p p.events []) (flat_map code_lines ms) _ codes
    (then_on (coded_so_far ms []) (keyed_so_far ms []) (happened_so_far p p.events []) (flat_map netkey_lines ms) _
    (leads_from (coded_so_far ms []) (keyed_so_far [] ms) (keyed_so_far ms []) (flat_map netkey_lines ms)
    (ap with_seats (append-nil (map with_code ms))) netkeys)
    (then_on (keyed_so_far ms []) (counted_so_far ms []) (happened_so_far p p.events []) (flat_map counter_lines ms) _
    (leads_from (keyed_so_far ms []) (counted_so_far [] ms) (counted_so_far ms []) (flat_map counter_lines ms)
    (ap with_seats (append-nil (map with_keys ms))) counters)
    (then_on (counted_so_far ms []) (supplied_so_far ms p.draws []) (happened_so_far p p.events [])
    (map draw_line p.draws) (map event_line p.events)
    (leads_from (counted_so_far ms []) (supplied_so_far ms [] p.draws) (supplied_so_far ms p.draws [])
    (map draw_line p.draws) (ap with_seats (append-nil (map whole ms))) draws)
    events))))

finished_is : (p : Schedule) → finished (happened_so_far p p.events []) ≡ p
finished_is p = ap (λ (ms : List Node). record { nodes = ms; draws = p.draws; events = p.events })
    (whole_nodes p.nodes)

-- what is printed of a schedule is that schedule
pub printed_again : (p : Schedule) → IsSchedule p → schedule_in (printed p) ≡ Ok p
printed_again p is =
    ap (λ (ls : List (List ℕ)). reads 1 start ls) (lines_again (printed_lines p) (lines_are_lines p is.so_far))
    ∙ read_through 1 start (happened_so_far p p.events []) (printed_lines p) (leads_through p is.so_far)
    (centre_there p.nodes ∙ is.centre)
    ∙ ap Ok (finished_is p)
