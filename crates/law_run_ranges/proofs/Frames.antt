-- The frames that a node sends consist of bytes, at most 127 of them.
use Rattle.std.proofs.Common.{◌≡◌, ℕ, zero, suc, ◌+◌, ◌≤◌, ◌/◌, ◌^◌, mod-lt, Bool, true, false, cond, not, ◌&&◌, ◌||◌, [], ◌∷◌, ◌++◌, length, nat_le, is_some, Option, Some, None, IfSome, refl, sym, ap, ◌∙◌, arith, length-append, leb-false}
use Rattle.std.specs.List.{AllByRecursion}
use Rattle.std.specs.Int.{bytes_low_first, byte_at}
use Rattle.std.proofs.lemmas.Bool.{false≢true}
use Rattle.zb_model.specs.Answer.{has_aps_seal, Part, part_of, Outgoing, nothing_out, secured_out, plain_out, framed, may_seal, sent, out_of, Counting}
use Rattle.zb_model.specs.Data.{Bytes, Label, ForData, ForNetwork, ForTransport, ForLoad, Layer, Nwk, Aps, Tunnel}
use Rattle.zb_model.specs.Frames.{low_byte, plain_frame, nwk_header, aps_control, nwk_auxiliary, aps_auxiliary, nwk_term, aps_term, sealed_command, sealed_data, data_front, data_control}
use Rattle.zb_model.specs.Record.{two_bytes, four_bytes, eight_bytes}
use Rattle.zb_model.specs.Rules.{Body, Saying, Clear, Secret, Tunnelled, Telling, Leaving, Relayed, Sending, Setting, spent}
use Rattle.zb_model.specs.State.{greatest_counter, NetKey, NodeState, next_counter, active_row}
use Rattle.zb_model.specs.Tools.{Tools}
use Rattle.law_run.proofs.FreshLines.{all-append}
use Rattle.law_run_ranges.specs.Asking.{KeepsRanges}
use Rattle.law_run_ranges.specs.Ranges.{IsCount, IsEui, IsByte, AreBytes, IsKey, IsShort, TermInRange}
use Rattle.law_run_ranges.proofs.Lists.{if_then}
use Rattle.law_run_ranges.proofs.Outcomes.{BodyInRange, SendingInRange, SettingInRange}
use Rattle.law_run_ranges.proofs.Questions.{active_in}
use Rattle.law_run_ranges.proofs.States.{NetInRange, StateInRange}

-- ---- bytes

byte_fits : (i n : ℕ) → IsByte (byte_at i n)
byte_fits zero n = mod-lt n (omega arith)
byte_fits (suc i) n = mod-lt (n / 256 ^ suc i) (omega arith)

low_first : (i k n : ℕ) → AreBytes (bytes_low_first i k n)
low_first i zero n = tt
low_first i (suc k) n = (byte_fits i n, low_first (suc i) k n)

pub two_in : (n : ℕ) → AreBytes (two_bytes n)
two_in n = low_first 0 2 n

pub four_in : (n : ℕ) → AreBytes (four_bytes n)
four_in n = low_first 0 4 n

pub eight_in : (n : ℕ) → AreBytes (eight_bytes n)
eight_in n = low_first 0 8 n

pub bytes_append : (xs ys : Bytes) → AreBytes xs → AreBytes ys → AreBytes (xs ++ ys)
bytes_append xs ys a b = all-append IsByte xs ys a b

low_in : (n : ℕ) → IsByte (low_byte n)
low_in n = omega arith

-- ---- headers

pub header_in : (control to from sequence : ℕ) → IsByte sequence → AreBytes (nwk_header control to from sequence)
header_in control to from sequence q =
    bytes_append (two_bytes control) (two_bytes to ++ (two_bytes from ++ 0x1e ∷ sequence ∷ [])) (two_in control)
    (bytes_append (two_bytes to) (two_bytes from ++ 0x1e ∷ sequence ∷ []) (two_in to)
    (bytes_append (two_bytes from) (0x1e ∷ sequence ∷ []) (two_in from) (omega arith, (q, tt))))

pub header_length : (control to from sequence : ℕ) → length (nwk_header control to from sequence) ≡ 8
header_length control to from sequence = refl

nwk_front_in : (control to from sequence counter source : ℕ) → IsByte sequence
    → AreBytes (nwk_header control to from (low_byte counter) ++ nwk_auxiliary counter source sequence)
nwk_front_in control to from sequence counter source q =
    bytes_append (nwk_header control to from (low_byte counter)) (nwk_auxiliary counter source sequence)
    (header_in control to from (low_byte counter) (low_in counter)) (
      omega arith,
      bytes_append (four_bytes counter) (eight_bytes source ++ sequence ∷ []) (four_in counter)
          (bytes_append (eight_bytes source) (sequence ∷ []) (eight_in source) (q, tt)),
    )

pub nwk_front_length : (control to from sequence counter source : ℕ)
    → length (nwk_header control to from (low_byte counter) ++ nwk_auxiliary counter source sequence) ≡ 22
nwk_front_length control to from sequence counter source = refl

pub nwk_term_in : (control to from source : ℕ) (key : Bytes) (sequence counter : ℕ) (content : Bytes) → IsEui source
    → IsKey key → IsByte sequence → IsCount counter → IsShort content
    → TermInRange (nwk_term control to from source key sequence counter content)
nwk_term_in control to from source key sequence counter content e k q n b = record {
  base = k;
  source = e;
  counter = n;
  control = omega arith;
  header = (
    nwk_front_in control to from sequence counter source q,
    omega (arith, nwk_front_length control to from sequence counter source),
  );
  content = b;
}

control_in : (l : Label) → IsByte (aps_control l)
control_in ForTransport = omega arith
control_in ForLoad = omega arith
control_in ForData = omega arith
control_in ForNetwork = omega arith

aps_front_in : (front : Bytes) (l : Label) (counter source : ℕ) → AreBytes front
    → AreBytes (front ++ low_byte counter ∷ aps_auxiliary l counter source)
aps_front_in front l counter source f =
    bytes_append front (low_byte counter ∷ aps_auxiliary l counter source) f (
      low_in counter,
      (control_in l, bytes_append (four_bytes counter) (eight_bytes source) (four_in counter) (eight_in source)),
    )

auxiliary_length : (l : Label) (counter source : ℕ) → length (aps_auxiliary l counter source) ≡ 13
auxiliary_length l counter source = refl

pub aps_front_length : (front : Bytes) (l : Label) (counter source : ℕ)
    → length (front ++ low_byte counter ∷ aps_auxiliary l counter source) ≡ length front + 14
aps_front_length front l counter source = length-append front (low_byte counter ∷ aps_auxiliary l counter source) ∙ ap
    (λ n. length front + suc n) (auxiliary_length l counter source)

pub aps_term_in : (front : Bytes) (l : Label) (key : Bytes) (source counter : ℕ) (content : Bytes) → AreBytes front
    → length front ≤ 7 → IsKey key → IsEui source → IsCount counter → IsShort content
    → TermInRange (aps_term front l key source counter content)
aps_term_in front l key source counter content f le k e n b = record {
  base = k;
  source = e;
  counter = n;
  control = control_in l;
  header = (aps_front_in front l counter source f, omega (arith, aps_front_length front l counter source));
  content = b;
}

-- ---- what is sealed at APS, and the bytes at NWK

-- that many bytes fit in a frame that is secured at NWK, and in one that isn't
abbrev room : Bool → ℕ
room true = 101
room false = 119

record PartInRange (secured : Bool) (part : Part) : Type 0 where
  seals : AllByRecursion TermInRange part.seals
  bytes : AreBytes part.bytes
  fits : length part.bytes ≤ room secured

fits_both : (secured : Bool) (n : ℕ) → n ≤ 101 → n ≤ room secured
fits_both true n le = le
fits_both false n le = omega arith

front_in : (control : ℕ) → IsByte control → AreBytes (data_front control)
front_in control c = (c, (omega arith, (omega arith, (omega arith, (omega arith, (omega arith, (omega arith, tt)))))))

to_control : (to : ℕ) → IsByte (data_control to)
to_control to = if_then IsByte (nat_le 0xfff8 to) 0x08 0x00 (omega arith) (omega arith)

part_in : (tools : Tools) (me to nwk aps : ℕ) (secured : Bool) (body : Body) → KeepsRanges tools → IsEui me
    → BodyInRange secured body → (has_aps_seal body ≡ true → IsCount aps)
    → PartInRange secured (part_of tools me to nwk aps body)
unfolding part_of
part_in tools me to nwk aps secured (Saying bytes) keeps e b n = record {
  seals = tt;
  bytes = bytes_append (data_front (data_control to)) (low_byte nwk ∷ bytes)
      (front_in (data_control to) (to_control to)) (low_in nwk, b.0);
  fits = fits_both secured _ (omega (arith, b.1));
}
part_in tools me to nwk aps secured (Clear control command) keeps e b n = record {
  seals = tt;
  bytes = (b.0, (low_in nwk, keeps.spelled command b.1));
  fits = fits_both secured _ (omega (arith, keeps.plain command b.1 b.2));
}
part_in tools me to nwk aps secured (Secret label key command) keeps e b n =
    let content = tools.spelled command in
    let t = aps_term sealed_command label key me aps content in
    let small = keeps.plain command b.1 b.2 in
    let is = aps_term_in sealed_command label key me aps content (omega arith, tt) (omega arith) b.0 e (n refl)
    (keeps.spelled command b.1, omega (arith, small)) in
    record {
      seals = (is, tt);
      bytes = keeps.wire t is;
      fits = fits_both secured _
          (omega (arith, small, keeps.wire_length t is, aps_front_length sealed_command label aps me));
    }
part_in tools me to nwk aps secured (Tunnelled device key command) keeps e b n =
    let content = tools.spelled command in
    let t = aps_term sealed_command ForTransport key me aps content in
    let small = keeps.plain command b.2 b.3 in
    let is = aps_term_in sealed_command ForTransport key me aps content (omega arith, tt) (omega arith) b.1 e (n refl)
    (keeps.spelled command b.2, omega (arith, small)) in
    let long : length (tools.wire t)
    ≤ 54 = omega (arith, small, keeps.wire_length t is, aps_front_length sealed_command ForTransport aps me) in
    record {
      seals = (is, tt);
      bytes = (
        omega arith,
        (low_in nwk, keeps.spelled (Tunnel device (tools.wire t)) (b.0, keeps.wire t is, omega (arith, long))),
      );
      fits = fits_both secured _ (omega (arith, long, keeps.tunnel device (tools.wire t)));
    }
part_in tools me to nwk aps secured (Telling key bytes) keeps e b n =
    let t = aps_term (data_front sealed_data) ForData key me aps bytes in
    let is = aps_term_in (data_front sealed_data) ForData key me aps bytes (front_in sealed_data (omega arith))
    (omega arith) b.0 e (n refl) (b.1.0, omega (arith, b.1.1)) in
    record {
      seals = (is, tt);
      bytes = keeps.wire t is;
      fits = fits_both secured _
          (omega (arith, b.1.1, keeps.wire_length t is, aps_front_length (data_front sealed_data) ForData aps me));
    }
part_in tools me to nwk aps secured Leaving keeps e b n =
    record { seals = tt; bytes = (omega arith, (omega arith, tt)); fits = fits_both secured 2 (omega arith) }
part_in tools me to nwk aps false (Relayed bytes) keeps e b n =
    record { seals = tt; bytes = b.1; fits = omega (arith, b.2) }
part_in tools me to nwk aps true (Relayed bytes) keeps e b n = absurd (false≢true (sym b.0))

-- ---- what is sent

pub record OutInRange (out : Outgoing) : Type 0 where
  pub seals : AllByRecursion TermInRange out.seals
  pub frame : IfSome out.frame IsShort

secured_in : (tools : Tools) (c : Setting) (to nwk : ℕ) (row : NetKey) (part : Part) → KeepsRanges tools
    → SettingInRange c → NetInRange row → IsCount nwk → PartInRange true part
    → OutInRange (secured_out tools c to nwk row part)
secured_in tools c to nwk row part keeps at r n p =
    let t = nwk_term part.control to c.me.short c.me.eui row.key row.sequence nwk part.bytes in
    let is = nwk_term_in part.control to c.me.short c.me.eui row.key row.sequence nwk part.bytes at.0 r.0 r.1 n
    (p.bytes, omega (arith, p.fits)) in
    record {
      seals = all-append TermInRange part.seals (t ∷ []) p.seals (is, tt);
      frame = (
        keeps.wire t is,
        omega (
          arith,
          p.fits,
          keeps.wire_length t is,
          nwk_front_length part.control to c.me.short row.sequence nwk
              c.me.eui,
        ),
      );
    }

plain_in : (c : Setting) (to : ℕ) (part : Part) → PartInRange false part → OutInRange (plain_out c to part)
plain_in c to part p = record {
  seals = p.seals;
  frame = (
    bytes_append (nwk_header plain_frame to c.me.short 0) part.bytes
        (header_in plain_frame to c.me.short 0 (omega arith)) p.bytes,
    omega (
      arith,
      p.fits,
      length-append (nwk_header plain_frame to c.me.short 0) part.bytes,
      header_length plain_frame to c.me.short 0,
    ),
  );
}

nothing_in : OutInRange nothing_out
nothing_in = record { seals = tt; frame = tt }

framed_in : (tools : Tools) (c : Setting) (to nwk : ℕ) (secured : Bool) (row : Option NetKey) (part : Part)
    → KeepsRanges tools → SettingInRange c → IfSome row NetInRange → (secured ≡ true → IsCount nwk)
    → PartInRange secured part
    → OutInRange (framed tools c to nwk secured row part)
framed_in tools c to nwk false row part keeps at r n p = plain_in c to part p
framed_in tools c to nwk true None part keeps at r n p = nothing_in
framed_in tools c to nwk true (Some row) part keeps at r n p = secured_in tools c to nwk row part keeps at r (n refl) p

-- what may be sealed has counters below the greatest
sealed_count : (a b : Bool) (n : ℕ) → (not a || (b && not (nat_le greatest_counter n))) ≡ true → a ≡ true → IsCount n
sealed_count true true n e is = omega (arith, leb-false greatest_counter n (off (nat_le greatest_counter n) e))
  where
    off : (b : Bool) → not b ≡ true → b ≡ false
    off true e = absurd (false≢true e)
    off false e = refl
sealed_count true false n e is = absurd (false≢true e)
sealed_count false b n e is = absurd (false≢true is)

first_of : (a b : Bool) → (a && b) ≡ true → (a ≡ true) × (b ≡ true)
first_of true b e = (refl, e)
first_of false b e = absurd (false≢true e)

out_by : (tools : Tools) (c : Setting) (s : NodeState) (k : Counting) (send : Sending) → KeepsRanges tools
    → SettingInRange c → StateInRange s → SendingInRange send → (send.secured ≡ true → IsCount (k.counter Nwk))
    → (has_aps_seal send.body ≡ true → IsCount (k.counter Aps))
    → OutInRange (sent tools c s k (Some send))
out_by tools c s k send keeps at is b n a =
    framed_in tools c send.to (k.counter Nwk) send.secured (active_row s)
    (part_of tools c.me.eui send.to (k.counter Nwk) (k.counter Aps) send.body) keeps at (active_in s is) n
    (part_in tools c.me.eui send.to (k.counter Nwk) (k.counter Aps) send.secured send.body keeps at.0 b a)

-- the counters of an answer are the next ones
pub out_in : (tools : Tools) (c : Setting) (s : NodeState) (k : Counting) (o : Option Sending) → KeepsRanges tools
    → SettingInRange c → StateInRange s → ((l : Layer) → k.counter l ≡ next_counter l s) → IfSome o SendingInRange
    → OutInRange (out_of tools c s k o)
unfolding out_of may_seal spent
out_in tools c s k None keeps at is next b = if_then OutInRange (may_seal s None) nothing_out nothing_out nothing_in
    nothing_in
out_in tools c s k (Some send) keeps at is next b = by_test (may_seal s (Some send)) refl
  where
    count : (l : Layer) → IsCount (next_counter l s) → IsCount (k.counter l)
    count l le = omega (arith, next l)

    by_test : (may : Bool) → may_seal s (Some send) ≡ may
        → OutInRange (cond may (sent tools c s k (Some send)) nothing_out)
    by_test true e =
        let both =
        first_of
        (not send.secured || (is_some (active_row s) && not (nat_le greatest_counter (next_counter Nwk s))))
        (not (has_aps_seal send.body) || not (nat_le greatest_counter (next_counter Aps s))) e in
        out_by tools c s k send keeps at is b
        (λ secured. count Nwk (sealed_count send.secured (is_some (active_row s)) (next_counter Nwk s) both.0 secured))
        (λ sealed. count Aps (sealed_count (has_aps_seal send.body) true (next_counter Aps s) both.1 sealed))
    by_test false e = nothing_in
