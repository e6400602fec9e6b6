use Rattle.std.proofs.Common.{◌∷◌, ◌∙◌, Err, ap, inl, inr}
use Rattle.outside.specs.Events.{Read, after}
use Rattle.outside.specs.Files.{in_folder}
use Rattle.schema.specs.Names.{file_of}
use Rattle.whole_run.proofs.files.read_in.Goals as goal

pub returns-clause-stops : goal.returns-clause-stops
returns-clause-stops g c =
    let t = c.stop_in.ensures in
    let p = c.as_str-path.ensures.value ∙ (c.in_ok-place.ensures ∙ ap (in_folder c.args.folder.now) c.file.ensures) in (
      Read c.as_str-path.result.now (Err c.in-Err.failure) ∷ t.0,
      t.1 ∙ ap (after t.0) c.in-Err.ensures,
      (p, inl (inr (c.args.folder.now, file_of c.args.table, p, t.2))),
    )
