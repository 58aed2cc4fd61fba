-- The keys drawn while a device is away, and the link keys of others, are a set: no key that the device ever held
-- opens one of them.
use Rattle.law_run.proofs.LockoutLaw.{keeps-removed-out}
use Rattle.law_run.proofs.a_removed_device_obtains_no_later_key.Goals as goal

pub returns : goal.returns
returns c = keeps-removed-out
