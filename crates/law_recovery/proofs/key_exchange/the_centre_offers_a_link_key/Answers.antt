use Rattle.law_recovery.proofs.Laws as law
use Rattle.law_recovery.proofs.key_exchange.the_centre_offers_a_link_key.Goals as goal

pub returns : goal.returns
returns c = record { refused = law.offer_refused; offers = law.offers }
