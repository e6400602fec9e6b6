use Rattle.std.proofs.Common.{◌≡◌, ◌≤◌, length}
use Rattle.sip_reader.specs.Fields.{pieces, texts}
use Rattle.sip_reader.specs.Views.{texts_behind, with_pieces}
use Rattle.sip_reader.proofs.fields.Fields.note_all.Given as goal

-- the fields so far, with the pieces of the rest
abbrev pub invariant-loop-bar : goal.invariant-loop-bar
invariant-loop-bar l = record {
  within : length l.rest ≤ length l.part;
  more : with_pieces (texts_behind l.self) (pieces l.rest) ≡ texts (pieces l.part);
}

abbrev pub decreases-loop-bar : goal.decreases-loop-bar
decreases-loop-bar l = length l.rest
