use Rattle.circ_records.proofs.Positions.{rises-empty}
use Rattle.circ_records.proofs.record_map.RecordMap.new.Goals as goal

pub from_list-requires : goal.from_list-requires
from_list-requires c = rw c.new.ensures rises-empty
