-- However many turns lose a frame, two turns that lose none end an exchange.
use Rattle.std.proofs.Common.{◌≡◌, List, [], ◌∷◌, ◌++◌, refl}
use Rattle.std.specs.List.{AllByRecursion}
use Rattle.law_recovery.specs.Turns.{Asking, Offering, Proving, Proved, Done, Turn, Unheard, Unanswered, Answered, Refused, Elsewhere, Loses, far_after_all}

from_proved : (lost : List Turn) → AllByRecursion Loses lost
    → far_after_all Proved (lost ++ Answered ∷ []) ≡ Done
from_proved [] all = refl
from_proved (Unheard ∷ lost) all = from_proved lost all.1
from_proved (Unanswered ∷ lost) all = from_proved lost all.1
from_proved (Answered ∷ lost) all = absurd all.0
from_proved (Refused frame node ∷ lost) all = from_proved lost all.1
from_proved (Elsewhere event ∷ lost) all = from_proved lost all.1

from_proving : (lost : List Turn) → AllByRecursion Loses lost
    → far_after_all Proving (lost ++ Answered ∷ []) ≡ Done
from_proving [] all = refl
from_proving (Unheard ∷ lost) all = from_proving lost all.1
from_proving (Unanswered ∷ lost) all = from_proved lost all.1
from_proving (Answered ∷ lost) all = absurd all.0
from_proving (Refused frame node ∷ lost) all = from_proving lost all.1
from_proving (Elsewhere event ∷ lost) all = from_proving lost all.1

from_offering : (before between : List Turn) → AllByRecursion Loses before → AllByRecursion Loses between
    → far_after_all Offering (before ++ Answered ∷ between ++ Answered ∷ []) ≡ Done
from_offering [] between all more = from_proving between more
from_offering (Unheard ∷ before) between all more = from_offering before between all.1 more
from_offering (Unanswered ∷ before) between all more = from_offering before between all.1 more
from_offering (Answered ∷ before) between all more = absurd all.0
from_offering (Refused frame node ∷ before) between all more = from_offering before between all.1 more
from_offering (Elsewhere event ∷ before) between all more = from_offering before between all.1 more

pub two_turns : (before between : List Turn) → AllByRecursion Loses before → AllByRecursion Loses between
    → far_after_all Asking (before ++ Answered ∷ between ++ Answered ∷ []) ≡ Done
two_turns [] between all more = from_proving between more
two_turns (Unheard ∷ before) between all more = two_turns before between all.1 more
two_turns (Unanswered ∷ before) between all more = from_offering before between all.1 more
two_turns (Answered ∷ before) between all more = absurd all.0
two_turns (Refused frame node ∷ before) between all more = two_turns before between all.1 more
two_turns (Elsewhere event ∷ before) between all more = two_turns before between all.1 more
