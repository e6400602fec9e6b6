use Rattle.std.proofs.Common.{◌≡◌, ◌<◌, ◌-◌, length, take, true}
use Rattle.std.specs.List.{list_all}
use Rattle.sip_reader.specs.Devices.Bars.{is_clean}
use Rattle.sip_reader.proofs.barred.are_clean_by_blocks.Given as goal

abbrev pub invariant-loop-at : goal.invariant-loop-at
invariant-loop-at l = record {
  within : l.at < length l.bytes;
  before : list_all is_clean (take l.at l.bytes) ≡ true;
}

abbrev pub decreases-loop-at : goal.decreases-loop-at
decreases-loop-at l = length l.bytes - l.at
