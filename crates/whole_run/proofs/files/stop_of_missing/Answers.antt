use Rattle.whole_run.proofs.files.stop_of_missing.Goals as goal

pub returns-in-Some : goal.returns-in-Some
returns-in-Some g c = (c.find.result, c.find.ensures, rw c.in-Some.is c.of_file.ensures)

pub returns-in-None : goal.returns-in-None
returns-in-None g c = (c.find.result, c.find.ensures, rw c.in-None.is c.of_folder.ensures)
