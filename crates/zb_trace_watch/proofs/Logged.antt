-- What a line of a run adds to what the model reads from its lines.
use Rattle.zb_model.specs.Lines as log
use Rattle.std.proofs.Common.{◌≡◌, ℕ, List, [], ◌∷◌, ◌++◌, Bool, true, false, not, ◌||◌, ◌&&◌, refl, ap, sym, ◌∙◌, bytes_eq, nat_eq, subst, append_assoc}
use Rattle.std.specs.List.{list_any, flat_map}
use Rattle.std.specs.Prelude.{fold}
use Rattle.std.proofs.lemmas.List.Folds.{list_any-append}
use Rattle.std.proofs.lemmas.List.{append-nil}
use Rattle.std.proofs.lemmas.List.Sums.{fold-append}
use Rattle.arrayvec.specs.ArrayString.{ArrayString}
use Rattle.zb_base.specs.declared.address.Eui.{Eui}
use Rattle.zb_base.specs.declared.address.Short.{Short}
use Rattle.zb_base.specs.declared.key.Key.{Key}
use Rattle.zb_base.specs.declared.node.Role.{Role}
use Rattle.zb_base.specs.declared.state.Attribute.{Attribute}
use Rattle.zb_base.specs.declared.state.Attribute.TheVariants as attribute
use Rattle.zb_node_types.specs.Changes.{model_attribute}
use Rattle.zb_model.specs.Data as model
use Rattle.zb_model.specs.Data.{Bytes, Term, Station, nobody}
use Rattle.zb_model.specs.Lines.{Line}
use Rattle.zb_model.specs.Readings.{station_line, stations_of}
use Rattle.zb_model.specs.Secrets.{base_in, bases, based_line, code_in, codes_of, each_line, ever, ever_from, ever_in, exposed, forged_in, holds, ideal, ideal_line, is_the_centre, network_in, network_keys, outside, removed_devices, removed_in, terms_in, terms_of}
use Rattle.zb_model.specs.Tools.{Tools}
use Rattle.zb_trace.specs.Views.{logged, named}
use Rattle.zb_trace.specs.declared.line.Line.{Line as AnyLine}
use Rattle.zb_trace.specs.declared.line.Line.TheVariants as line
use Rattle.zb_trace_watch.specs.Nodes.{address_of, no_node, who_is, Declares}
use Rattle.zb_trace_watch.specs.Passing.{is_code}
use Rattle.zb_trace_watch.specs.Sayings as say
use Rattle.zb_trace_watch.specs.Sayings.{nothing, only_if, said_by, Grows, JoinerCounts, Sayings}
use Rattle.zb_trace_watch.specs.Sets.{is_node}
use Rattle.zb_trace_watch.specs.Standing.{FindKeys}
use Rattle.zb_trace_watch.specs.Watching.{is_somebody, said, FollowsBy, Stands}
use Rattle.zb_trace_watch.specs.declared.nodes.Nodes.{Nodes}
use Rattle.zb_trace_watch.specs.declared.speaker.Speaker.{Speaker}
use Rattle.zb_trace_watch.specs.declared.watch.Watch.{Watch}
use Rattle.zb_trace_watch.proofs.Effects.{quiet_follows}
use Rattle.zb_trace_watch.proofs.Exposed.{few_terms}
use Rattle.zb_trace_watch.proofs.Found.{came_is, centre_is, node_is, number_is}
use Rattle.zb_trace_watch.proofs.Growth.{and_all, and_assoc, any_more, or_assoc, or_none}

stations_more : (h : List Line) (l : Line) → stations_of (h ++ l ∷ []) ≡ station_line (stations_of h) l
unfolding stations_of
stations_more h l = fold-append station_line [] h (l ∷ [])

terms_more : (p : Term → Bool) (h : List Line) (l : Line) → list_any p (terms_of (h ++ l ∷ []))
    ≡ (list_any p (terms_of h) || list_any p (terms_in l))
unfolding terms_of
terms_more p h l = any_more p terms_in h l

codes_more : (h : List Line) (l : Line) (n : ℕ) (k : Bytes) → holds (codes_of (h ++ l ∷ []) n) k
    ≡ (holds (codes_of h n) k || holds (code_in n l) k)
unfolding codes_of
codes_more h l n k = any_more (bytes_eq k) (code_in n) h l

bases_more : (h : List Line) (l : Line) (n : ℕ) (k : Bytes) → holds (bases (h ++ l ∷ []) n) k
    ≡ (holds (bases h n) k || holds (base_in n l) k)
unfolding bases
bases_more h l n k = any_more (bytes_eq k) (base_in n) h l

removed_more : (h : List Line) (l : Line) (d : ℕ) → list_any (nat_eq d) (removed_devices (h ++ l ∷ []))
    ≡ (list_any (nat_eq d) (removed_devices h) || list_any (nat_eq d) (removed_in l))
unfolding removed_devices
removed_more h l d = any_more (nat_eq d) removed_in h l

network_more : (h : List Line) (l : Line) (k : Bytes) → holds (network_keys (h ++ l ∷ [])) k
    ≡ (holds (network_keys h) k || holds (network_in l) k)
unfolding network_keys
network_more h l k = any_more (bytes_eq k) network_in h l

forged_more : (p : Term → Bool) (h : List Line) (l : Line) → list_any p (flat_map forged_in (h ++ l ∷ []))
    ≡ (list_any p (flat_map forged_in h) || list_any p (forged_in l))
forged_more p h l = any_more p forged_in h l

ever_from_more : (known : List Station) (d : ℕ) (k : Bytes) (h : List Line) (l : Line)
    → holds (ever_from known d (h ++ l ∷ [])) k
    ≡ (holds (ever_from known d h) k || holds (ever_in (fold station_line known h) d l) k)
ever_from_more known d k [] l = list_any-append (bytes_eq k) (ever_in known d l) [] ∙ or_none
    (holds (ever_in known d l) k)
ever_from_more known d k (m ∷ h) l =
    list_any-append (bytes_eq k) (ever_in known d m) (ever_from (station_line known m) d (h ++ l ∷ []))
    ∙ (ap (λ (b : Bool). holds (ever_in known d m) k || b) (ever_from_more (station_line known m) d k h l)
    ∙ (sym (or_assoc (holds (ever_in known d m) k) (holds (ever_from (station_line known m) d h) k)
    (holds (ever_in (fold station_line (station_line known m) h) d l) k))
    ∙ ap (λ (b : Bool). b || holds (ever_in (fold station_line (station_line known m) h) d l) k)
    (sym (list_any-append (bytes_eq k) (ever_in known d m) (ever_from (station_line known m) d h)))))

ever_more : (h : List Line) (l : Line) (d : ℕ) (k : Bytes) → holds (ever (h ++ l ∷ []) d) k
    ≡ (holds (ever h d) k || holds (ever_in (stations_of h) d l) k)
unfolding ever stations_of
ever_more h l d k = ever_from_more [] d k h l

no_more : (g : List Line) → g ++ [] ≡ g
no_more g = append-nil g

grouped : (g : List Line) (m : Line) (h : List Line) → (g ++ m ∷ []) ++ h ≡ g ++ m ∷ h
grouped g m h = append_assoc g (m ∷ []) h

each_more : (test : List Line → Line → Bool) (g h : List Line) (l : Line) → each_line test g (h ++ l ∷ [])
    ≡ (each_line test g h && test (g ++ h) l)
unfolding each_line
each_more test g [] l = and_all (test g l) ∙ ap (λ (x : List Line). test x l) (sym (no_more g))
each_more test g (m ∷ h) l =
    ap (λ (b : Bool). test g m && b)
    (each_more test (g ++ m ∷ []) h l ∙ ap (λ (x : List Line). each_line test (g ++ m ∷ []) h && test x l)
    (grouped g m h))
    ∙ sym (and_assoc (test g m) (each_line test (g ++ m ∷ []) h) (test (g ++ m ∷ h) l))

ideal_more : (tools : Tools) (h : List Line) (l : Line) → ideal tools (h ++ l ∷ [])
    ≡ (ideal tools h && ideal_line tools h l)
unfolding ideal
ideal_more tools h l = each_more (ideal_line tools) [] h l

based_more : (tools : Tools) (h : List Line) (l : Line) → each_line (based_line tools) [] (h ++ l ∷ [])
    ≡ (each_line (based_line tools) [] h && based_line tools h l)
based_more tools h l = each_more (based_line tools) [] h l

somebody_is : (b : Bool) → not b ≡ true → b ≡ false
somebody_is true e = cc
somebody_is false e = refl

exposed_is : (tools : Tools) (h : List Line) → exposed tools h (outside h) ≡ say.exposed tools (said tools h)
unfolding exposed outside say.exposed
exposed_is tools h = refl

-- What a line adds, part by part.
grown : (tools : Tools) (h : List Line) (m : Line) (a : Sayings) → terms_in m ≡ a.terms → forged_in m ≡ a.forged
    → ((n : ℕ) → nat_eq n nobody ≡ false → code_in n m ≡ a.codes n)
    → ((n : ℕ) → nat_eq n nobody ≡ false → base_in n m ≡ a.bases n)
    → ((d : ℕ) → nat_eq d nobody ≡ false → ever_in (stations_of h) d m ≡ a.ever d) → removed_in m ≡ a.removed
    → network_in m ≡ a.network → ideal_line tools h m ≡ a.ideal → based_line tools h m ≡ a.based
    → Grows is_somebody (said tools h) a (said tools (h ++ m ∷ []))
grown tools h m a terms forged codes bases_are ever_is removed network ideal_is based = record {
  terms = λ p. terms_more p h m ∙ ap (λ (ts : List Term). list_any p (terms_of h) || list_any p ts) terms;
  forged = λ p. forged_more p h m ∙ ap (λ (ts : List Term). list_any p (flat_map forged_in h) || list_any p ts) forged;
  codes = λ n some k. codes_more h m n k ∙ ap (λ (ks : List Bytes). holds (codes_of h n) k || holds ks k)
      (codes n (somebody_is (nat_eq n nobody) some));
  bases = λ n some k. bases_more h m n k ∙ ap (λ (ks : List Bytes). holds (bases h n) k || holds ks k)
      (bases_are n (somebody_is (nat_eq n nobody) some));
  ever = λ d some k. ever_more h m d k ∙ ap (λ (ks : List Bytes). holds (ever h d) k || holds ks k) (ever_is d some);
  removed = λ d. removed_more h m d ∙ ap (λ (ds : List ℕ). list_any (nat_eq d) (removed_devices h)
      || list_any (nat_eq d) ds) removed;
  network = λ k. network_more h m k ∙ ap (λ (ks : List Bytes). holds (network_keys h) k || holds ks k) network;
  few = few_terms (h ++ m ∷ []);
  ideal = ideal_more tools h m ∙ ap (λ (b : Bool). ideal tools h && b) ideal_is;
  based = based_more tools h m ∙ ap (λ (b : Bool). each_line (based_line tools) [] h && b) based;
}

code_key : (event n partner : ℕ) (key : Bytes) (a : Attribute)
    → network_in (log.Changed event n (model.Moved (model.Row partner key (model_attribute a))))
    ≡ only_if (is_code a) key
code_key event n partner key attribute.Provisional = refl
code_key event n partner key attribute.Unverified = refl
code_key event n partner key attribute.Verified = refl

module _ (tools : Tools) (nodes : Nodes) (h : List Line) (declares : Declares nodes (stations_of h)) where
  held : (name : ArrayString) (key : Bytes) (d : ℕ) → nat_eq d nobody ≡ false
      → only_if (nat_eq (named (stations_of h) name.bytes) d) key ≡ only_if (is_node (address_of nodes name) d) key
  held name key d some = ap (λ (b : Bool). only_if b key) (sym (node_is nodes h declares name d some))

  owned : (name : ArrayString) (key : Bytes) (n : ℕ) → nat_eq n nobody ≡ false
      → only_if (nat_eq (named (stations_of h) name.bytes) n) key
      ≡ only_if (Rattle.zb_trace_watch.specs.Sets.is_number (who_is nodes name).number n) key
  owned name key n some = ap (λ (b : Bool). only_if b key) (sym (number_is nodes h declares name n some))

  pub given_net_grows : (name : ArrayString) (key : Key) (sequence : ℕ)
      → Grows is_somebody (said tools h)
      (said_by tools (said tools h) (who_is nodes name) (line.GivenNet name key sequence))
      (said tools (h ++ log.GivenNet (named (stations_of h) name.bytes) key.0 sequence ∷ []))
  unfolding ideal_line
  given_net_grows name key sequence =
      grown tools h _ _ refl refl (λ n some. refl) (λ n some. refl) (held name key.0) refl refl refl refl

  pub given_link_grows : (name : ArrayString) (partner : Eui) (key : Key)
      → Grows is_somebody (said tools h)
      (said_by tools (said tools h) (who_is nodes name) (line.GivenLink name partner key))
      (said tools (h ++ log.GivenLink (named (stations_of h) name.bytes) partner.0 key.0 ∷ []))
  unfolding ideal_line
  given_link_grows name partner key =
      grown tools h _ _ refl refl (owned name key.0) (owned name key.0) (held name key.0) refl refl refl refl

  pub install_grows : (event : ℕ) (name : ArrayString) (key : Key) (sequence : ℕ)
      → Grows is_somebody (said tools h)
      (said_by tools (said tools h) (who_is nodes name) (line.Install event name key sequence))
      (said tools (h ++ log.Changed event (named (stations_of h) name.bytes)
      (model.Moved (model.Install key.0 sequence)) ∷ []))
  unfolding ideal_line
  install_grows event name key sequence =
      grown tools h _ _ refl refl (λ n some. refl) (λ n some. refl) (held name key.0) refl refl
      (sym (came_is nodes h declares tools name key.0)) refl

  pub row_grows : (event : ℕ) (name : ArrayString) (partner : Eui) (key : Key) (a : Attribute)
      → Grows is_somebody (said tools h)
      (said_by tools (said tools h) (who_is nodes name) (line.Row event name partner key a))
      (said tools (h ++ log.Changed event (named (stations_of h) name.bytes)
      (model.Moved (model.Row partner.0 key.0 (model_attribute a))) ∷ []))
  unfolding ideal_line
  row_grows event name partner key a =
      grown tools h _ _ refl refl (λ n some. refl) (owned name key.0)
      (λ d some.
      ap (λ (b : Bool). only_if (b || (is_the_centre (stations_of h) (named (stations_of h) name.bytes)
      && nat_eq partner.0 d)) key.0) (sym (node_is nodes h declares name d some))
      ∙ ap (λ (b : Bool). only_if (is_node (address_of nodes name) d || (b && nat_eq partner.0 d)) key.0)
      (sym (centre_is nodes h declares name))) refl
      (code_key event (named (stations_of h) name.bytes) partner.0 key.0 a)
      (sym (came_is nodes h declares tools name key.0)) refl

pub declared_grows : (tools : Tools) (h : List Line) (s : Station)
    → Grows is_somebody (said tools h) nothing (said tools (h ++ log.Declared s ∷ []))
unfolding ideal_line
declared_grows tools h s =
    grown tools h _ _ refl refl (λ n some. refl) (λ n some. refl) (λ d some. refl) refl refl refl refl

-- A line that needs nothing of its node.
pub other_grows : (tools : Tools) (h : List Line) (l : AnyLine)
    → ((x0 : ArrayString) (x1 : Role) (x2 : Eui) (x3 : Short) (x4 : ℕ) (x5 : ℕ) → l ≡ line.Node x0 x1 x2 x3 x4 x5 → ⊥)
    → ((x0 : ArrayString) (x1 : Key) (x2 : ℕ) → l ≡ line.GivenNet x0 x1 x2 → ⊥)
    → ((x0 : ArrayString) (x1 : Eui) (x2 : Key) → l ≡ line.GivenLink x0 x1 x2 → ⊥)
    → ((x0 : ℕ) (x1 : ArrayString) (x2 : Key) (x3 : ℕ) → l ≡ line.Install x0 x1 x2 x3 → ⊥)
    → ((x0 : ℕ) (x1 : ArrayString) (x2 : Eui) (x3 : Key) (x4 : Attribute) → l ≡ line.Row x0 x1 x2 x3 x4 → ⊥)
    → Grows is_somebody (said tools h) (said_by tools (said tools h) no_node l)
    (said tools (h ++ logged (stations_of h) l ∷ []))
unfolding ideal_line
other_grows tools h (line.Node x0 x1 x2 x3 x4 x5) differs _ _ _ _ = absurd (differs x0 x1 x2 x3 x4 x5 refl)
other_grows tools h (line.GivenNet x0 x1 x2) _ differs _ _ _ = absurd (differs x0 x1 x2 refl)
other_grows tools h (line.GivenLink x0 x1 x2) _ _ differs _ _ = absurd (differs x0 x1 x2 refl)
other_grows tools h (line.Counter x0 x1 x2) _ _ _ _ _ = grown tools h _ _ refl refl (λ n some. refl) (λ n some. refl)
    (λ d some. refl) refl refl refl refl
other_grows tools h (line.Reserve x0 x1 x2 x3) _ _ _ _ _ = grown tools h _ _ refl refl (λ n some. refl) (λ n some.
    refl)
    (λ d some. refl) refl refl refl refl
other_grows tools h (line.Floor x0 x1 x2 x3 x4 x5) _ _ _ _ _ = grown tools h _ _ refl refl (λ n some. refl) (λ n some.
    refl)
    (λ d some. refl) refl refl refl refl
other_grows tools h (line.Draw x0 x1) _ _ _ _ _ = grown tools h _ _ refl refl (λ n some. refl) (λ n some. refl)
    (λ d some. refl) refl refl refl refl
other_grows tools h (line.DropNet x0 x1 x2) _ _ _ _ _ = grown tools h _ _ refl refl (λ n some. refl) (λ n some. refl)
    (λ d some. refl) refl refl refl refl
other_grows tools h (line.DropLink x0 x1 x2 x3) _ _ _ _ _ = grown tools h _ _ refl refl (λ n some. refl) (λ n some.
    refl)
    (λ d some. refl) refl refl refl refl
other_grows tools h (line.Install x0 x1 x2 x3) _ _ _ differs _ = absurd (differs x0 x1 x2 x3 refl)
other_grows tools h (line.Active x0 x1 x2) _ _ _ _ _ = grown tools h _ _ refl refl (λ n some. refl) (λ n some. refl)
    (λ d some. refl) refl refl refl refl
other_grows tools h (line.Start x0 x1 x2 x3) _ _ _ _ _ = grown tools h _ _ refl refl (λ n some. refl) (λ n some. refl)
    (λ d some. refl) refl refl refl refl
other_grows tools h (line.Row x0 x1 x2 x3 x4) _ _ _ _ differs = absurd (differs x0 x1 x2 x3 x4 refl)
other_grows tools h (line.Pair x0 x1 x2 x3 x4) _ _ _ _ _ = grown tools h _ _ refl refl (λ n some. refl) (λ n some.
    refl)
    (λ d some. refl) refl refl refl refl
other_grows tools h (line.State x0 x1 x2) _ _ _ _ _ = grown tools h _ _ refl refl (λ n some. refl) (λ n some. refl)
    (λ d some. refl) refl refl refl refl
other_grows tools h (line.Live x0 x1) _ _ _ _ _ = grown tools h _ _ refl refl (λ n some. refl) (λ n some. refl)
    (λ d some. refl) refl refl refl refl
other_grows tools h (line.Removed x0 x1) _ _ _ _ _ = grown tools h _ _ refl refl (λ n some. refl) (λ n some. refl)
    (λ d some. refl) refl refl refl refl
other_grows tools h (line.Roll x0 x1 x2) _ _ _ _ _ = grown tools h _ _ refl refl (λ n some. refl) (λ n some. refl)
    (λ d some. refl) refl refl refl refl
other_grows tools h (line.Told x0 x1) _ _ _ _ _ = grown tools h _ _ refl refl (λ n some. refl) (λ n some. refl)
    (λ d some. refl) refl refl refl refl
other_grows tools h (line.Untold x0 x1) _ _ _ _ _ = grown tools h _ _ refl refl (λ n some. refl) (λ n some. refl)
    (λ d some. refl) refl refl refl refl
other_grows tools h (line.Commit x0 x1) _ _ _ _ _ = grown tools h _ _ refl refl (λ n some. refl) (λ n some. refl)
    (λ d some. refl) refl refl refl refl
other_grows tools h (line.Accept x0 x1 x2) _ _ _ _ _ = grown tools h _ _ refl refl (λ n some. refl) (λ n some. refl)
    (λ d some. refl) refl refl refl refl
other_grows tools h (line.Refuse x0 x1 x2) _ _ _ _ _ = grown tools h _ _ refl refl (λ n some. refl) (λ n some. refl)
    (λ d some. refl) refl refl refl refl
other_grows tools h (line.Seal x0 x1 x2) _ _ _ _ _ = grown tools h _ _ refl refl (λ n some. refl) (λ n some. refl)
    (λ d some. refl) refl refl refl refl
other_grows tools h (line.Forge x0 x1) _ _ _ _ _ =
    grown tools h _ _ refl refl (λ n some. refl) (λ n some. refl) (λ d some. refl) refl refl refl
    (ap (λ (ks : List Bytes). holds ks x1.base.0) (exposed_is tools h))
other_grows tools h (line.Send x0 x1 x2 x3) _ _ _ _ _ = grown tools h _ _ refl refl (λ n some. refl) (λ n some. refl)
    (λ d some. refl) refl refl refl refl
other_grows tools h (line.Inject x0 x1 x2) _ _ _ _ _ = grown tools h _ _ refl refl (λ n some. refl) (λ n some. refl)
    (λ d some. refl) refl refl refl refl
other_grows tools h (line.Stopped x0 x1) _ _ _ _ _ = grown tools h _ _ refl refl (λ n some. refl) (λ n some. refl)
    (λ d some. refl) refl refl refl refl
other_grows tools h (line.DownReset x0 x1) _ _ _ _ _ = grown tools h _ _ refl refl (λ n some. refl) (λ n some. refl)
    (λ d some. refl) refl refl refl refl
other_grows tools h (line.DownDisk x0 x1) _ _ _ _ _ = grown tools h _ _ refl refl (λ n some. refl) (λ n some. refl)
    (λ d some. refl) refl refl refl refl
other_grows tools h (line.Boot x0 x1) _ _ _ _ _ = grown tools h _ _ refl refl (λ n some. refl) (λ n some. refl)
    (λ d some. refl) refl refl refl refl
other_grows tools h (line.Dump x0 x1 x2) _ _ _ _ _ = grown tools h _ _ refl refl (λ n some. refl) (λ n some. refl)
    (λ d some. refl) refl refl refl refl
other_grows tools h (line.End x0 x1 x2 x3 x4 x5) _ _ _ _ _ = grown tools h _ _ refl refl (λ n some. refl) (λ n some.
    refl)
    (λ d some. refl) refl refl refl refl

-- The stations stay the same if a line declares no node.
pub other_stations : (known : List Station) (l : AnyLine)
    → ((x0 : ArrayString) (x1 : Role) (x2 : Eui) (x3 : Short) (x4 : ℕ) (x5 : ℕ) → l ≡ line.Node x0 x1 x2 x3 x4 x5 → ⊥)
    → station_line known (logged known l) ≡ known
other_stations known (line.Node x0 x1 x2 x3 x4 x5) differs = absurd (differs x0 x1 x2 x3 x4 x5 refl)
other_stations known (line.GivenNet x0 x1 x2) differs = refl
other_stations known (line.GivenLink x0 x1 x2) differs = refl
other_stations known (line.Counter x0 x1 x2) differs = refl
other_stations known (line.Reserve x0 x1 x2 x3) differs = refl
other_stations known (line.Floor x0 x1 x2 x3 x4 x5) differs = refl
other_stations known (line.Draw x0 x1) differs = refl
other_stations known (line.DropNet x0 x1 x2) differs = refl
other_stations known (line.DropLink x0 x1 x2 x3) differs = refl
other_stations known (line.Install x0 x1 x2 x3) differs = refl
other_stations known (line.Active x0 x1 x2) differs = refl
other_stations known (line.Start x0 x1 x2 x3) differs = refl
other_stations known (line.Row x0 x1 x2 x3 x4) differs = refl
other_stations known (line.Pair x0 x1 x2 x3 x4) differs = refl
other_stations known (line.State x0 x1 x2) differs = refl
other_stations known (line.Live x0 x1) differs = refl
other_stations known (line.Removed x0 x1) differs = refl
other_stations known (line.Roll x0 x1 x2) differs = refl
other_stations known (line.Told x0 x1) differs = refl
other_stations known (line.Untold x0 x1) differs = refl
other_stations known (line.Commit x0 x1) differs = refl
other_stations known (line.Accept x0 x1 x2) differs = refl
other_stations known (line.Refuse x0 x1 x2) differs = refl
other_stations known (line.Seal x0 x1 x2) differs = refl
other_stations known (line.Forge x0 x1) differs = refl
other_stations known (line.Send x0 x1 x2 x3) differs = refl
other_stations known (line.Inject x0 x1 x2) differs = refl
other_stations known (line.Stopped x0 x1) differs = refl
other_stations known (line.DownReset x0 x1) differs = refl
other_stations known (line.DownDisk x0 x1) differs = refl
other_stations known (line.Boot x0 x1) differs = refl
other_stations known (line.Dump x0 x1 x2) differs = refl
other_stations known (line.End x0 x1 x2 x3 x4 x5) differs = refl

-- Both together

pub line_follows : (tools : Tools) (old new : Watch) (h : List Line) (who : Speaker) (l : AnyLine) (m : Line)
    → new.nodes ≡ old.nodes → station_line (stations_of h) m ≡ stations_of h
    → (Declares old.nodes (stations_of h) → JoinerCounts is_somebody who l)
    → (Declares old.nodes (stations_of h) → Grows is_somebody (said tools h) (said_by tools (said tools h) who l)
    (said tools (h ++ m ∷ [])))
    → FollowsBy tools who l old.words new.words → FindKeys tools → Stands tools old h → Stands tools new (h ++ m ∷ [])
line_follows tools old new h who l m same none joiner grows follows find stands = record {
  nodes = subst (λ (known : List Station). Declares new.nodes known) (sym (stations_more h m ∙ none))
      (subst (λ (nodes : Nodes). Declares nodes (stations_of h)) (sym same) stands.nodes);
  words = follows (said tools h) (joiner stands.nodes) find (said tools (h ++ m ∷ [])) (grows stands.nodes)
      stands.words;
}

pub declare_follows : (tools : Tools) (old : Watch) (h : List Line) (nodes : Nodes) (s : Station) → Stands tools old h
    → Declares nodes (stations_of h ++ s ∷ [])
    → Stands tools (record old { nodes = nodes }) (h ++ log.Declared s ∷ [])
declare_follows tools old h nodes s stands declares = record {
  nodes = subst (λ (known : List Station). Declares nodes known) (sym (stations_more h (log.Declared s))) declares;
  words = quiet_follows tools is_somebody old.words (said tools h) nothing refl (said tools (h ++ log.Declared s ∷ []))
      (declared_grows tools h s) stands.words;
}
