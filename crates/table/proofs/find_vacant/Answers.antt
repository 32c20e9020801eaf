use Rattle.slots.specs.Order.{slot_holding, vacant_slot}
use Rattle.table.proofs.find_vacant.Goals as goal

pub returns : goal.returns
unfolding slot_holding vacant_slot
returns c = c.find.ensures
