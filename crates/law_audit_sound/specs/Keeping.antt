-- The lines of a run that break a claim of the audit: none.
use Rattle.std.specs.Prelude.{◌≡◌, []}
use Rattle.zb_audit.specs.Failing.{failing}
use Rattle.zb_audit.specs.Nonces.{is_fresh}
use Rattle.zb_audit.specs.Taking.{is_later}
use Rattle.law_audit_groups.specs.Printing.{printed}
use Rattle.zb_model.specs.Play.{Schedule, stations}
use Rattle.zb_model.specs.Tools.{Tools}
use Rattle.zb_model.specs.Transcript.{transcript}
use Rattle.zb_model_real.specs.Real.{real}

-- the first claim, with real frames: no node seals twice under one key and nonce
abbrev pub KeepsFirst : Schedule → Type 0
KeepsFirst w = failing is_fresh (printed (stations w) (transcript real w)) ≡ []

-- the second claim: no receiver accepts a sender's counter twice under one key
abbrev pub KeepsSecond : Tools → Schedule → Type 0
KeepsSecond tools w = failing is_later (printed (stations w) (transcript tools w)) ≡ []
