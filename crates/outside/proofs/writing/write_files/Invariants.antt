use Rattle.std.proofs.Common.{◌≡◌, map, take}
use Rattle.outside.specs.Events.{after}
use Rattle.outside.specs.Files.{all_written}
use Rattle.outside.specs.Places.{place_of}
use Rattle.outside.proofs.writing.write_files.Given as goal

abbrev pub invariant-loop-file : goal.invariant-loop-file
invariant-loop-file g l = g.O.Outside.log l.outside ≡ after (all_written (map place_of (take l.file-index l.files))) (g.O.Outside.log l.fn.outside)
