-- The place (path, temporary path, bytes) of a file that is still to be written.
use Rattle.std.specs.Prelude.{string_bytes}
use Rattle.outside.specs.Files.{FilePlace}
use Rattle.outside.specs.declared.writing.Unwritten.{Unwritten}

abbrev pub place_of : Unwritten → FilePlace
place_of f = record { path = string_bytes f.path; part = string_bytes f.part; text = f.text.now }
