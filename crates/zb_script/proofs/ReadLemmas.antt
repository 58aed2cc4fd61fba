-- One more line of a script, and what is asked of its peers.
use Rattle.std.proofs.Common.{◌≡◌, ℕ, ◌+◌, List, [], ◌∷◌, Bool, true, false, cond, find, map, Option, Some, None, Ok, Bor, length, ◌<◌, ◌==◌, arith, refl, sym, ap, ◌∙◌}
use Rattle.std.proofs.lemmas.List.Splits.{join_with_byte-slice_split, length-slice_split}
use Rattle.std.specs.List.{list_any, slice_split}
use Rattle.std.specs.Option.{option_copied, option_map}
use Rattle.zb_text.specs.Pages.{line_of_words}
use Rattle.zb_script.specs.Grammar.{rest_of}
use Rattle.zb_text.specs.Words.{first_of, words}
use Rattle.zb_base.specs.declared.node.Peer.{Peer}
use Rattle.zb_script.specs.Reading.{after_line, numbered, reads}
use Rattle.zb_script.specs.Scripts.{Station, Script}
use Rattle.zb_script.specs.Views.{station_of}

abbrev list_of : Option (List ℕ × List (List ℕ)) → List (List ℕ)
list_of None = []
list_of (Some x) = x.0 ∷ x.1

first_some : (xs : List (List ℕ)) (y : List ℕ) (ys : List (List ℕ)) → first_of xs ≡ Some (y, ys) → xs ≡ y ∷ ys
first_some [] y ys e = cc e
first_some (x ∷ xs) y ys e = ap list_of e

pub go_on : (number : ℕ) (s next : Script) (line : List ℕ) (ls more : List (List ℕ)) → first_of ls ≡ Some (line, more)
    → after_line number s line ≡ Ok next
    → reads number s ls ≡ reads (number + 1) next more
go_on number s next line ls more first step = ap (reads number s) (first_some ls line more first) ∙ ap
    (λ r. numbered number r (λ n. reads (number + 1) n more)) step

pub any_seen : (p : Station → Bool) (peers : List Peer) → list_any (λ x. p (station_of x)) peers
    ≡ list_any p (map station_of peers)
any_seen p [] = refl
any_seen p (x ∷ xs) = rw (any_seen p xs) refl

found : (b : Bool) (x : Peer) (o : Option Peer) (r : Option Station) → option_map (λ (y : Peer). y.eui.0) o
    ≡ option_map (λ (y : Station). y.eui) r
    → option_map (λ (y : Peer). y.eui.0) (cond b (Some x) o)
    ≡ option_map (λ (y : Station). y.eui) (cond b (Some (station_of x)) r)
found true x o r e = refl
found false x o r e = e

pub found_seen : (p : Station → Bool) (peers : List Peer)
    → option_map (λ (y : Peer). y.eui.0) (find (λ x. p (station_of x)) peers)
    ≡ option_map (λ (y : Station). y.eui) (find p (map station_of peers))
found_seen p [] = refl
found_seen p (x ∷ xs) = found (p (station_of x)) x _ _ (found_seen p xs)

-- ---- the rest of a line

rest_some : (ws : List (List ℕ)) → 0 < length ws → rest_of ws ≡ Some (line_of_words ws)
rest_some [] some = absurd (omega arith)
rest_some (w ∷ ws) some = refl

pub rest_seen : (rest : Option (Bor (List ℕ))) → option_map (λ r. r.now) rest ≡ rest_of (words (option_copied rest))
rest_seen None = refl
rest_seen (Some line) =
    sym (rest_some (slice_split (λ byte. byte == 32) line.now)
    (omega (arith, length-slice_split (λ byte. byte == 32) line.now)) ∙ ap Some
    (join_with_byte-slice_split 32 line.now))
