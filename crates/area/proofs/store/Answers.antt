-- `area::store` meets its contract: the part's bits are written, and the word keeps the others. Assumes nothing.
use Rattle.area.proofs.Stores.{place_power, place_span, place_fits, place_room, place_store}
use Rattle.area.proofs.store.Goals as goal

pub with_part-requires : goal.with_part-requires
with_part-requires c = let h = c.requires in (place_span h.3 h.2 h.4, place_fits h.3 h.2 h.4, place_power h.3 h.2 h.4, place_room h.3 h.2 h.4 h.5)

pub returns : goal.returns
returns c n t f im L fits = place_store im f L fits c.with_part.result c.with_part.ensures
