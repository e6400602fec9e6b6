use Rattle.std.proofs.Common.{◌∷◌, [], codes}
use Rattle.std.proofs.lemmas.Result.{err_from_is_err_and}
use Rattle.outside.proofs.ReadSteps.{behind, here, more, must}
use Rattle.page_run.proofs.files.read_names.Goals as goal

pub returns-in_err-items-clause-stops : goal.returns-in_err-items-clause-stops
returns-in_err-items-clause-stops g c =
    let p = err_from_is_err_and c.from_residual.result c.from_residual.ensures.1 in rw (p.1, p.2)
    (here (must c.args.folder.now (codes "items.csv")) (must c.args.folder.now (codes "patrons.csv")) _ _ _ c.in_err-items.ensures.stops)

pub returns-in_err-patrons-clause-stops : goal.returns-in_err-patrons-clause-stops
returns-in_err-patrons-clause-stops g c =
    let p = err_from_is_err_and c.from_residual-in_err-patrons.result c.from_residual-in_err-patrons.ensures.1 in rw (p.1, p.2)
    (behind (must c.args.folder.now (codes "items.csv")) (c.in_ok-items.items.items ∷ []) (must c.args.folder.now (codes "patrons.csv")) _ _ _ _ c.in_ok-items.ensures.read
    (c.in_err-patrons.ensures.stops))

pub returns-clause-read : goal.returns-clause-read
returns-clause-read g c =
    more (must c.args.folder.now (codes "items.csv")) (c.in_ok-items.items.items ∷ []) (must c.args.folder.now (codes "patrons.csv")) (c.in_ok-patrons.patrons.items ∷ []) _ _ _ c.in_ok-items.ensures.read
    (c.in_ok-patrons.ensures.read)
