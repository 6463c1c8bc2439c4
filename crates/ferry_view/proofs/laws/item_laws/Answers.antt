use Rattle.ferry_view.proofs.LawLemmas.{some_listing, listing_apart, one_item_text, listing_text}
use Rattle.ferry_view.proofs.laws.item_laws.Goals as goal

pub returns : goal.returns
returns c = record { some = some_listing; apart = listing_apart; one = one_item_text; whole = listing_text }
