use Rattle.std.proofs.Common.{◌++◌, ◌∙◌, ap, inr, map, refl}
use Rattle.outside.proofs.Steps.{both}
use Rattle.outside.specs.Events.{after}
use Rattle.outside.specs.Files.{all_written}
use Rattle.outside.specs.Places.{place_of}
use Rattle.whole_run.proofs.files.write_output.Goals as goal

pub returns-in-Ok-clause-written : goal.returns-in-Ok-clause-written
returns-in-Ok-clause-written g c =
    c.in-Ok.ensures.written ∙ ap (λ ps. after (all_written ps) (g.O.Outside.log c.args.outside.now)) (ap (map place_of) c.as_slice.ensures.value ∙ c.in_ok-files.ensures)

pub returns-clause-stops : goal.returns-clause-stops
returns-clause-stops g c =
    let s = rw (c.as_slice.ensures.value, c.in_ok-files.ensures) at c.in-Err.ensures.stops in
    let t = c.stop_in.ensures in
    (s.0 ++ t.0, both s.0 t.0 _ _ _ s.1 t.1, inr (c.in-Err.unplaced.path.now, c.in-Err.unplaced.failure, s.0, t.0, s.2, t.2, refl))
