use Rattle.outside.proofs.Steps.{file_fails, file_more, files_all}
use Rattle.outside.proofs.writing.write_files.Goals as goal

pub returns-in-Err-clause-stops : goal.returns-in-Err-clause-stops
returns-in-Err-clause-stops g c =
    file_fails _ _ _ _ _ _ _ _ c.loop-file-test.true c.file-item.is c.loop-file.invariant c.in-Err.ensures.stops c.as_str.ensures.value

pub loop-file-preserved : goal.loop-file-preserved
loop-file-preserved g c =
    file_more _ _ _ _ _ _ c.loop-file-test.true c.file-item.is c.loop-file.invariant c.in_default.ensures.written

pub returns-clause-written : goal.returns-clause-written
returns-clause-written g c = files_all _ _ _ _ c.loop-file-test.false c.loop-file.invariant
