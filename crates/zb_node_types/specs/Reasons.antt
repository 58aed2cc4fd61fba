-- How the reason of a refusal is reported: its word, and what is reported beside the word.
use Rattle.std.specs.Prelude.{List, ℕ, codes}
use Rattle.zb_model.specs.Data.{Reason, Down, Malformed, NotForMe, Unsecured, NoKey, CounterMax, Stale, BadMic, Policy, NotMember, WrongState, KeyOld, KeysFull, RowsFull, KeyInUse, NoDraw, CounterSpent, WrongHash, NoFrame}
use Rattle.zb_node_types.specs.declared.refusal.Detail.{Detail}
use Rattle.zb_node_types.specs.declared.refusal.Detail.TheVariants as detail

-- the words of the reasons beside which something is reported

abbrev pub stale_word : List ℕ
stale_word = codes "stale"

abbrev pub key_old_word : List ℕ
key_old_word = codes "key-old"

abbrev pub key_in_use_word : List ℕ
key_in_use_word = codes "key-in-use"

-- the word of a reason
abbrev pub reason_word : Reason → List ℕ
reason_word Down = codes "down"
reason_word Malformed = codes "malformed"
reason_word NotForMe = codes "not-for-me"
reason_word Unsecured = codes "unsecured"
reason_word NoKey = codes "no-key"
reason_word CounterMax = codes "counter-max"
reason_word (Stale floor) = stale_word
reason_word BadMic = codes "bad-mic"
reason_word Policy = codes "policy"
reason_word NotMember = codes "not-member"
reason_word WrongState = codes "wrong-state"
reason_word (KeyOld place) = key_old_word
reason_word KeysFull = codes "keys-full"
reason_word RowsFull = codes "rows-full"
reason_word (KeyInUse partner) = key_in_use_word
reason_word NoDraw = codes "no-draw"
reason_word CounterSpent = codes "counter-spent"
reason_word WrongHash = codes "wrong-hash"
reason_word NoFrame = codes "no-frame"

-- what is reported beside the word: the floor, the place of the row, or the partner
abbrev pub reason_detail : Reason → Detail
reason_detail (Stale floor) = detail.Number floor
reason_detail (KeyOld place) = detail.Number place
reason_detail (KeyInUse partner) = detail.Partner (record { 0 = partner })
reason_detail Down = detail.Nothing
reason_detail Malformed = detail.Nothing
reason_detail NotForMe = detail.Nothing
reason_detail Unsecured = detail.Nothing
reason_detail NoKey = detail.Nothing
reason_detail CounterMax = detail.Nothing
reason_detail BadMic = detail.Nothing
reason_detail Policy = detail.Nothing
reason_detail NotMember = detail.Nothing
reason_detail WrongState = detail.Nothing
reason_detail KeysFull = detail.Nothing
reason_detail RowsFull = detail.Nothing
reason_detail NoDraw = detail.Nothing
reason_detail CounterSpent = detail.Nothing
reason_detail WrongHash = detail.Nothing
reason_detail NoFrame = detail.Nothing
