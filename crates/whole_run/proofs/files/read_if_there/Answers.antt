use Rattle.std.proofs.Common.{◌∷◌, ◌∙◌, Err, [], ap, inl, refl, sym}
use Rattle.outside.specs.Events.{Read}
use Rattle.outside.specs.Files.{in_folder}
use Rattle.whole_run.proofs.files.read_if_there.Goals as goal

pub returns : goal.returns
returns g c = record {
  given = tt;
  stops = (
    Read c.as_str.result.now (Err c.in-Err.failure) ∷ [],
    c.in-Err.ensures,
    (c.as_str.ensures.value ∙ (c.in_ok-path.ensures ∙ ap (in_folder c.args.folder.now) c.file.ensures), inl (inl (refl, rw (c.as_str.ensures.value ∙ sym c.as_str-in-Err.ensures.value) c.of_file.ensures))),
  );
}
