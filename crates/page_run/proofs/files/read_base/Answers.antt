use Rattle.std.proofs.Common.{[], refl}
use Rattle.outside.proofs.ReadSteps.{moved}
use Rattle.page_run.specs.Sources.{changed_files, changed_texts}
use Rattle.page_run.proofs.files.read_base.Goals as goal

pub returns-in-Ok-clause-read : goal.returns-in-Ok-clause-read
returns-in-Ok-clause-read g c = rw (c.in-Some.is) (moved (λ base. changed_files base c.args.out.now) _ _ (changed_texts c.in-Ok.texts) _ _ c.as_str.ensures.value c.in-Ok.ensures.read)

pub returns-in-Err-clause-stops : goal.returns-in-Err-clause-stops
returns-in-Err-clause-stops g c = rw (c.in-Some.is) (rw (c.as_str.ensures.value) at c.in-Err.ensures.stops)

pub returns-in-None-clause-read : goal.returns-in-None-clause-read
returns-in-None-clause-read g c = rw (c.in-None.is) ([], refl, tt)
