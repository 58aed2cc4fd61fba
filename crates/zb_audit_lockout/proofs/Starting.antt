-- Before the first line.
use Rattle.std.proofs.Common.{◌≡◌, ℕ, List, [], false, Option, Some, None, inl, sym, ◌∙◌, arith}
use Rattle.zb_audit_names.specs.Secrets.{ever, terms_of}
use Rattle.zb_audit_lockout.specs.Lockout.{first_unlocked}
use Rattle.zb_audit_lockout.specs.Reading.{early_of, late_by, number_of, open_at}
use Rattle.zb_audit_lockout.specs.Standing.{IsPast, Stands}
use Rattle.zb_audit_lockout.specs.declared.lockout.Lockout.{Lockout}
use Rattle.zb_audit_lockout.proofs.Locking.{locked_nothing}
use Rattle.zb_model.specs.Data.{Bytes}
use Rattle.zb_model.specs.Tools.{Tools}
use Rattle.zb_seal.specs.declared.term.Term.{Term}
use Rattle.zb_trace_watch.specs.Sets.{is_carried, node_has}
use Rattle.zb_trace_watch.specs.Terms.{has_term}
use Rattle.zb_trace_watch.proofs.Truth.{not_both}

pub new_stands : (tools : Tools) (names : List Bytes) (s : Lockout) → s.first ≡ None → IsPast tools names s.past []
    → ((d : ℕ) → open_at s.reach.windows d ≡ None) → s.reach.windows.last ≡ 0
    → ((b k : Bytes) → is_carried s.reach.leads b k ≡ false)
    → ((d : ℕ) (k : Bytes) → node_has s.reach.held d k ≡ false) → ((k : Bytes) → number_of s.reach.drawn k ≡ 0)
    → ((d : ℕ) → early_of s.reach.spread d ≡ 0) → ((k : Bytes) → number_of s.reach.spread.keys k ≡ 0)
    → ((t : Term) → has_term s.evidence.forged t ≡ false)
    → ((t : Term) (d number : ℕ) → late_by s.evidence d number t ≡ false) → Stands tools names s []
unfolding first_unlocked ever terms_of
new_stands tools names s no_first past shut last uncarried unheld undrawn unentered untold unforged unsealed = record {
  first = no_first;
  held = λ none. record {
    past = past;
    reach = record {
      windows = tt;
      opened = λ d number found. absurd (gone (sym (shut d) ∙ found));
      below = λ d number found. absurd (gone (sym (shut d) ∙ found));
      held = λ d k. unheld d k;
      carried = λ b k. uncarried b k;
      early = λ k. (let it : number_of s.reach.drawn k ≡ 0 = undrawn k in omega arith);
      last = (let it : s.reach.windows.last ≡ 0 = last in omega arith);
      small = (let it : s.reach.windows.last ≡ 0 = last in omega arith);
    };
    evidence = record {
      forged = λ t. unforged t;
      sealed = tt;
      early = λ t d number there. absurd (not_both (late_by s.evidence d number t) there (unsealed t d number));
    };
    safe = record {
      back = record {
        bases = λ b k there. absurd (not_both (is_carried s.reach.leads b k) there (uncarried b k));
        holders = λ d k there. absurd (not_both (node_has s.reach.held d k) there (unheld d k));
      };
      spread = record {
        has = λ d k there. (let it : early_of s.reach.spread d ≡ 0 = unentered d in omega arith);
        carried = λ b k there. (let it : number_of s.reach.spread.keys b ≡ 0 = untold b in omega arith);
      };
      opened = λ d number found. absurd (gone (sym (shut d) ∙ found));
      below = λ k. inl (untold k);
    };
    locked = locked_nothing tools;
  };
}
  where
    gone : {n : ℕ} → ◌≡◌ {A = Option ℕ} None (Some n) → ⊥
    gone e = cc
