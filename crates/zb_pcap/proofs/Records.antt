-- Records, one after the other.
use Rattle.std.proofs.Common.{◌≡◌, ℕ, zero, suc, ◌+◌, ◌-◌, ◌<◌, ◌≤◌, List, [], ◌∷◌, ◌++◌, length, map, drop, Some, None, Result, Ok, Err, refl, ap, sym, ◌∙◌, subst, arith, append_assoc, append-nil, length-append}
use Rattle.std.proofs.lemmas.List.{map-append}
use Rattle.zb_pcap.specs.Extracts.{record_in, extract_of, extract_packets, extract_form, extracted, Answers}
use Rattle.zb_pcap.specs.Files.{Record, header_of, record_of, records, behind, beyond, with_record, fault_at}
use Rattle.zb_pcap.specs.declared.fault.PcapCause.TheVariants.{Cut, TooMany}
use Rattle.zb_pcap.specs.declared.fault.PcapError.{PcapError}
use Rattle.zb_base.specs.declared.fault.OrMemory.{OrMemory}
use Rattle.zb_base.specs.declared.fault.OrMemory.TheVariants as error
use Rattle.zb_base.specs.declared.key.Key.{Key}
use Rattle.zb_pcap.specs.Packets.{held, held_form, held_packets, pcap_in}
use Rattle.zb_pcap.specs.declared.extraction.Extraction.{Extraction}
use Rattle.zb_pcap.specs.declared.pcap.Pcap.{Pcap}
use Rattle.zb_pcap.specs.declared.header.Form.{Form}
use Rattle.zb_pcap.specs.declared.header.Order.{Order}
use Rattle.zb_pcap.specs.declared.packets.Packet.{Packet}

-- The records that were read, before those that follow.
abbrev pub prepended : List Record → Result (List Record) PcapError → Result (List Record) PcapError
prepended xs (Ok ys) = Ok (xs ++ ys)
prepended xs (Err e) = Err e

prepended_one : (xs : List Record) (x : Record) (r : Result (List Record) PcapError) → prepended xs (behind x r)
    ≡ prepended (xs ++ x ∷ []) r
prepended_one xs x (Ok ys) = ap (λ zs. Ok zs) (sym (append_assoc xs (x ∷ []) ys))
prepended_one xs x (Err e) = refl

next_record : (left place : ℕ) (order : Order) (bytes : List ℕ) (one : Record) (after : List ℕ) → 0 < length bytes
    → record_of order bytes ≡ Some (one, after)
    → records (suc left) place order bytes ≡ behind one (records left (place + 1) order after)
unfolding records
next_record left place order [] one after some is = absurd (omega arith)
next_record left place order (byte ∷ more) one after some is =
    ap (λ r. with_record place r (records left (place + 1) order)) is

left_of : (n : ℕ) → n < 100000 → 100000 - n ≡ suc (100000 - (n + 1))
left_of n few = omega arith

-- One more record.
pub so_far_more : (order : Order) (all : Result (List Record) PcapError) (packets new : List Packet) (p : Packet)
    (place : ℕ) (rest after : List ℕ)
    → prepended (map record_in packets) (records (100000 - length packets) place order rest) ≡ all → 0 < length rest
    → length packets < 100000
    → record_of order rest ≡ Some (record_in p, after) → new ≡ packets ++ p ∷ []
    → prepended (map record_in new) (records (100000 - length new) (place + 1) order after) ≡ all
so_far_more order all packets new p place rest after so_far some few is grown =
    let count : length new ≡ length packets + 1 = ap (length {A = Packet}) grown ∙ length-append packets (p ∷ []) in
    ap (λ xs. prepended xs (records (100000 - length new) (place + 1) order after))
    (ap (map record_in) grown ∙ map-append record_in packets (p ∷ []))
    ∙ ap (λ n. prepended (map record_in packets ++ record_in p ∷ []) (records (100000 - n) (place + 1) order after))
    count
    ∙ sym (prepended_one (map record_in packets) (record_in p)
    (records (100000 - (length packets + 1)) (place + 1) order after))
    ∙ ap (prepended (map record_in packets))
    (sym (next_record (100000 - (length packets + 1)) place order rest (record_in p) after some is))
    ∙ ap (λ n. prepended (map record_in packets) (records n place order rest)) (sym (left_of (length packets) few))
    ∙ so_far

-- A record that isn't whole.
cut_record : (left place : ℕ) (order : Order) (bytes : List ℕ) → 0 < length bytes → record_of order bytes ≡ None
    → records left place order bytes ≡ Err (fault_at place Cut)
unfolding records
cut_record left place order [] some is = absurd (omega arith)
cut_record zero place order (byte ∷ more) some is = ap (beyond place) is
cut_record (suc left) place order (byte ∷ more) some is =
    ap (λ r. with_record place r (records left (place + 1) order)) is

pub cut_here : (left place : ℕ) (order : Order) (all : Result (List Record) PcapError) (xs : List Record)
    (rest : List ℕ) → prepended xs (records left place order rest) ≡ all
    → 0 < length rest → record_of order rest ≡ None → all ≡ Err (fault_at place Cut)
cut_here left place order all xs rest so_far some is =
    sym so_far ∙ ap (prepended xs) (cut_record left place order rest some is)

-- One record too many.
last_record : (place : ℕ) (order : Order) (bytes : List ℕ) (one : Record × List ℕ) → 0 < length bytes
    → record_of order bytes ≡ Some one
    → records 0 place order bytes ≡ Err (fault_at place TooMany)
unfolding records
last_record place order [] one some is = absurd (omega arith)
last_record place order (byte ∷ more) one some is = ap (beyond place) is

pub too_many_here : (count place : ℕ) (order : Order) (all : Result (List Record) PcapError) (xs : List Record)
    (rest : List ℕ) (one : Record × List ℕ)
    → prepended xs (records (100000 - count) place order rest) ≡ all → 100000 ≤ count → 0 < length rest
    → record_of order rest ≡ Some one → all ≡ Err (fault_at place TooMany)
too_many_here count place order all xs rest one so_far many some is =
    let none : 100000 - count ≡ 0 = omega arith in
    sym so_far ∙ ap (λ n. prepended xs (records n place order rest)) none ∙ ap (prepended xs)
    (last_record place order rest one some is)

-- The end.
at_end : (left place : ℕ) (order : Order) (bytes : List ℕ) → length bytes ≡ 0 → records left place order bytes ≡ Ok []
unfolding records
at_end left place order [] none = refl
at_end left place order (byte ∷ more) none = absurd (omega arith)

pub all_read : (left place : ℕ) (order : Order) (all : Result (List Record) PcapError) (xs : List Record)
    (rest : List ℕ)
    → prepended xs (records left place order rest) ≡ all → length rest ≡ 0 → all ≡ Ok xs
all_read left place order all xs rest so_far none =
    sym so_far ∙ ap (prepended xs) (at_end left place order rest none) ∙ ap (λ zs. Ok zs) (append-nil xs)

-- Answers

pub refused : {T U E : Type 0} (view : T → U) (r : OrMemory E) (e : E) (expected : Result U E) → r ≡ error.Fault e
    → expected ≡ Err e → Answers view (Err r) expected
refused {T} {U} {E} view r e expected is what = let P : OrMemory E → Type 0 =
    λ x. Answers view (Err x) expected in subst P (sym is) what

pub extracted_ok : (keys : List Key) (bytes : List ℕ) (form : Form) (packets : List Record) (found : Extraction)
    → header_of bytes ≡ Ok form
    → records 100000 1 form.order (drop 24 bytes) ≡ Ok packets → found ≡ extract_of keys form.check packets
    → extracted keys bytes ≡ Ok found
unfolding extracted
extracted_ok keys bytes form packets found h r is =
    ap (extract_form keys bytes) h ∙ ap (extract_packets keys form.check) r ∙ ap (λ x. Ok x) (sym is)

pub extracted_err : {T : Type 0} (keys : List Key) (bytes : List ℕ) (form : Form) (view : T → List Record)
    (r y : OrMemory PcapError) (result : Result Extraction (OrMemory PcapError))
    → header_of bytes ≡ Ok form → Answers view (Err r) (records 100000 1 form.order (drop 24 bytes)) → result ≡ Err y
    → y ≡ r → Answers (λ (e : Extraction). e) result (extracted keys bytes)
unfolding extracted
extracted_err keys bytes form view (error.Fault e) y result h a is same =
    let P : Result Extraction (OrMemory PcapError) → Type 0 =
    λ x. Answers (λ (x : Extraction). x) x (extracted keys bytes) in
    subst P (sym (is ∙ ap (λ z. Err z) same)) (ap (extract_form keys bytes) h ∙ ap (extract_packets keys form.check) a)
extracted_err keys bytes form view error.NoMemory y result h a is same =
    let P : Result Extraction (OrMemory PcapError) → Type 0 =
    λ x. Answers (λ (x : Extraction). x) x (extracted keys bytes) in
    subst P (sym (is ∙ ap (λ z. Err z) same)) tt

pub held_ok : (bytes : List ℕ) (form : Form) (packets : List Record) (found : Pcap) → header_of bytes ≡ Ok form
    → records 100000 1 form.order (drop 24 bytes) ≡ Ok packets → found ≡ held form.check packets
    → pcap_in bytes ≡ Ok found
unfolding pcap_in
held_ok bytes form packets found h r is =
    ap (held_form bytes) h ∙ ap (held_packets form.check) r ∙ ap (λ x. Ok x) (sym is)

pub held_err : {T : Type 0} (bytes : List ℕ) (form : Form) (view : T → List Record) (r y : OrMemory PcapError)
    (result : Result Pcap (OrMemory PcapError))
    → header_of bytes ≡ Ok form → Answers view (Err r) (records 100000 1 form.order (drop 24 bytes)) → result ≡ Err y
    → y ≡ r → Answers (λ (p : Pcap). p) result (pcap_in bytes)
unfolding pcap_in
held_err bytes form view (error.Fault e) y result h a is same =
    let P : Result Pcap (OrMemory PcapError) → Type 0 = λ x. Answers (λ (p : Pcap). p) x (pcap_in bytes) in
    subst P (sym (is ∙ ap (λ z. Err z) same)) (ap (held_form bytes) h ∙ ap (held_packets form.check) a)
held_err bytes form view error.NoMemory y result h a is same =
    let P : Result Pcap (OrMemory PcapError) → Type 0 = λ x. Answers (λ (p : Pcap). p) x (pcap_in bytes) in
    subst P (sym (is ∙ ap (λ z. Err z) same)) tt
