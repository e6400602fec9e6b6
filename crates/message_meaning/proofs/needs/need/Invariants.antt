use Rattle.message_meaning.proofs.needs.need.Given as goal

abbrev pub ghosts-need_on : goal.ghosts-need_on
ghosts-need_on g a = record { notes = a.notes.now }
