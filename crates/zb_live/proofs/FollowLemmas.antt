-- What lines write continues from what the session is, whatever the disk reports.
use Rattle.std.proofs.Common.{◌≡◌, List, [], ◌∷◌, ◌++◌, Option, None, Ok, Err, OnOk, OnErr, refl, sym, ap, ◌∙◌, subst, append_assoc, append-nil}
use Rattle.std.proofs.KnownBytes.{Appends-nil, Appends-trans}
use Rattle.std.specs.Io.KnownBytes.{Appends}
use Rattle.zb_base.specs.Outside.{AppendsFront}
use Rattle.zb_live.specs.Alive.{HasFollowed, living_of}
use Rattle.zb_live.specs.Living.{Living, done, fresh}
use Rattle.zb_live.specs.declared.session.Session.{Session}
use Rattle.zb_live.proofs.MomentLemmas.{front_behind, front_of_all}
use Rattle.zb_live.specs.Following.{Leads, Writes, WritesAll, WritesFront}
use Rattle.zb_live.specs.ServedLines.{HasWritten, HasWrittenFront}
use Rattle.zb_live.specs.Serving.{Ended}
use Rattle.zb_model.specs.Data.{Bytes}
use Rattle.zb_model.specs.State.{NodeState}

-- ---- one line

module _ (line : Bytes) (session next : Session) (front text : Bytes) (none : front ≡ [])
    (h : HasFollowed (λ found. done found line (living_of session)) front next text) where
  text_is : text ≡ (done (Ok h.found) line (living_of session)).text
  text_is = h.text ∙ ap (λ l. l ++ (done (Ok h.found) line (living_of session)).text) none

  -- what it says was written, or a prefix of it
  pub line_told : (r : Ended) (before after : Option Bytes) → OnOk r (Appends before after text)
      → OnOk r (HasWritten line session before next after)
  line_told (Ok tt) before after written = (h.found, subst (Appends before after) text_is written, h.after)
  line_told (Err f) before after written = tt

  pub line_told_front : (r : Ended) (before after : Option Bytes) → OnErr r (AppendsFront before after text)
      → OnErr r (HasWrittenFront line session before after)
  line_told_front (Ok tt) before after written = tt
  line_told_front (Err f) before after written = (h.found, subst (AppendsFront before after) text_is written)

-- it failed, and nothing was written
pub line_untold : (line : Bytes) (session : Session) (before : Option Bytes)
    → HasWrittenFront line session before before
line_untold line session before = (None, (0, Appends-nil before))

-- ---- lines, one after the other

-- What was written so far, and what further lines write, is what all of them write. The lines lead to this session.
pub record IsTold (lines : List Bytes) (before out : Option Bytes) (v : Living) : Type 0 where
  pub text : Bytes
  pub written : Appends before out text
  pub leads : (rest : List Bytes) (more : Bytes) → Writes rest v more → Writes (lines ++ rest) fresh (text ++ more)
  pub reached : Leads lines fresh text v

pub told_none : (v : Living) (before : Option Bytes) → v ≡ fresh → IsTold [] before before v
told_none v before is = record {
  text = [];
  written = Appends-nil before;
  leads = λ rest more writes. subst (λ (w : Living). Writes rest w more) is writes;
  reached = (refl, is);
}

-- a line more leads one line further
leads_more : (lines : List Bytes) (a v w : Living) (text line : Bytes) (found : Option NodeState)
    → Leads lines a text v → w ≡ (done (Ok found) line v).after
    → Leads (lines ++ line ∷ []) a (text ++ (done (Ok found) line v).text) w
leads_more [] a v w text line found (none, same) is = (
  found,
  [],
  ap (λ (l : Bytes). l ++ (done (Ok found) line v).text) none
      ∙ ap (λ (b : Living). (done (Ok found) line b).text) same ∙ sym (append-nil (done (Ok found) line a).text),
  (refl, is ∙ ap (λ (b : Living). (done (Ok found) line b).after) same),
)
leads_more (first ∷ lines) a v w text line found (g, more, cut, rest) is = (
  g,
  more ++ (done (Ok found) line v).text,
  ap (λ (l : Bytes). l ++ (done (Ok found) line v).text) cut
      ∙ append_assoc (done (Ok g) first a).text more (done (Ok found) line v).text,
  leads_more lines (done (Ok g) first a).after v w more line found rest is,
)

module _ (lines : List Bytes) (before out : Option Bytes) (v : Living) (told : IsTold lines before out v) where
  pub told_all : WritesAll lines before out
  told_all = (
    told.text,
    subst (λ (l : List Bytes). Writes l fresh told.text) (append-nil lines)
        (subst (Writes (lines ++ []) fresh) (append-nil told.text) (told.leads [] [] refl)),
    told.written,
  )

  pub told_front : WritesFront lines before out
  told_front = let all = told_all in (all.0, all.1, front_of_all before out all.0 all.2)

  -- a line more
  module _ (line : Bytes) (found : Option NodeState) (after : Option Bytes) where
    abbrev said : Bytes
    said = (done (Ok found) line v).text

    lead_more : (w : Living) → w ≡ (done (Ok found) line v).after → (rest : List Bytes) (more : Bytes)
        → Writes rest w more → Writes ((lines ++ line ∷ []) ++ rest) fresh ((told.text ++ said) ++ more)
    lead_more w is rest more writes =
        subst (λ (l : List Bytes). Writes l fresh ((told.text ++ said) ++ more))
        (sym (append_assoc lines (line ∷ []) rest))
        (subst (Writes (lines ++ line ∷ rest) fresh) (sym (append_assoc told.text said more))
        (told.leads (line ∷ rest) (said ++ more)
        (found, more, refl, subst (λ (u : Living). Writes rest u more) is writes)))

    pub told_more : (w : Living) → w ≡ (done (Ok found) line v).after → Appends out after said
        → IsTold (lines ++ line ∷ []) before after w
    told_more w is written = record {
      text = told.text ++ said;
      written = Appends-trans before out after told.text said told.written written;
      leads = lead_more w is;
      reached = leads_more lines fresh v w told.text line found told.reached is;
    }

    -- the session ends at it
    pub told_cut : AppendsFront out after said → WritesFront (lines ++ line ∷ []) before after
    told_cut front = (
      told.text ++ said,
      told.leads (line ∷ []) said (found, [], sym (append-nil said), refl),
      front_behind before out after told.text said told.written front,
    )
