-- The lines of a campaign as they are printed.
use Rattle.std.proofs.Common.{◌≡◌, ℕ, List, [], ◌∷◌, ◌++◌, decimal, length, map, sum_by, Ok, ap, sym, ◌∙◌, append_assoc}
use Rattle.std.proofs.lemmas.List.{length-map}
use Rattle.zb_campaign.specs.Campaigns.{accepts_in, campaign_text, campaigned, endings, refusals_in, run_line, runs_text, seals_in, told, total_line, total_of}
use Rattle.zb_campaign.specs.Totals.{total_text}
use Rattle.zb_campaign.specs.declared.total.Total.{Total}
use Rattle.zb_model.specs.Data.{Bytes}
use Rattle.zb_model.specs.Lines as log
use Rattle.zb_player.specs.Runs.{last_line}
use Rattle.zb_player.specs.declared.summary.Summary.{Summary}
use Rattle.zb_trace_model.specs.Said.{IsLineOf, line_text}
use Rattle.zb_trace.specs.Text.{text}
use Rattle.zb_trace.specs.declared.line.Line.{Line}

pub run_shown : (l : Line) (last : log.Line) (number : ℕ) (old one two new : List ℕ) → IsLineOf [] l last → one ≡ old
    ++ decimal number
    → two ≡ one ++ 32 ∷ [] → new ≡ two ++ text l → new ≡ old ++ run_line number last
unfolding run_line
run_shown l last number old one two new shown numbered spaced printed =
    let words = line_text [] last in
    printed ∙ ap (λ t. two ++ t) shown.text_is ∙ ap (λ xs. xs ++ words) spaced ∙ append_assoc one (32 ∷ []) words
    ∙ ap (λ xs. xs ++ 32 ∷ words) numbered ∙ append_assoc old (decimal number) (32 ∷ words)

total_is : (count : ℕ) (total : Total) (ends : List Summary) → count ≡ length ends → total.seals
    ≡ sum_by seals_in (map last_line ends)
    → total.accepts ≡ sum_by accepts_in (map last_line ends) → total.refusals ≡ sum_by refusals_in (map last_line ends)
    → total_text count total ≡ total_of (map last_line ends)
unfolding total_of
total_is count total ends counted seals accepts refusals =
    let lasts = map last_line ends in
    ap (λ n. total_line n total.seals total.accepts total.refusals) (counted ∙ sym (length-map ends last_line))
    ∙ ap (λ n. total_line (length lasts) n total.accepts total.refusals) seals
    ∙ ap (λ n. total_line (length lasts) (sum_by seals_in lasts) n total.refusals) accepts
    ∙ ap (λ n. total_line (length lasts) (sum_by seals_in lasts) (sum_by accepts_in lasts) n) refusals

pub all_shown : (ends : List Summary) (count : ℕ) (total : Total) (none one two : List ℕ) → none ≡ [] → one ≡ none
    ++ runs_text 0 (map last_line ends)
    → two ≡ one ++ total_text count total → count ≡ length ends → total.seals ≡ sum_by seals_in (map last_line ends)
    → total.accepts ≡ sum_by accepts_in (map last_line ends) → total.refusals ≡ sum_by refusals_in (map last_line ends)
    → two ≡ campaign_text (map last_line ends)
all_shown ends count total none one two empty runs all counted seals accepts refusals =
    all ∙ ap (λ xs. xs ++ total_text count total) (runs ∙ ap (λ xs. xs ++ runs_text 0 (map last_line ends)) empty)
    ∙ ap (λ xs. runs_text 0 (map last_line ends) ++ xs) (total_is count total ends counted seals accepts refusals)

-- What is written is the campaign.
pub is_campaign : (count start : ℕ) (ends shown : List Summary) (page piece : Bytes) → endings start 0 count
    ≡ Ok (map last_line ends) → shown ≡ ends
    → page ≡ campaign_text (map last_line shown) → piece ≡ page → campaigned count start ≡ Ok piece
unfolding campaigned
is_campaign count start ends shown page piece are same printed whole =
    ap told are ∙ ap Ok (sym (whole ∙ printed ∙ ap (λ xs. campaign_text (map last_line xs)) same))
