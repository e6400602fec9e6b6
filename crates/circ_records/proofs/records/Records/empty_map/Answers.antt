use Rattle.circ_records.proofs.Positions.{rises-empty}
use Rattle.circ_records.proofs.records.Records.empty_map.Goals as goal

pub from_list-requires : goal.from_list-requires
from_list-requires c = rw c.in_ok-listed.ensures rises-empty
