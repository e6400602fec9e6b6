use Rattle.std.proofs.Common.{◌∷◌, []}
use Rattle.std.proofs.lemmas.Result.{err_from_is_err_and}
use Rattle.outside.specs.Files.{in_folder}
use Rattle.outside.proofs.ReadSteps.{behind, here, more}
use Rattle.schema.specs.Names.{file_of}
use Rattle.page_run.proofs.files.read_both.Goals as goal

pub returns-in_err-before-clause-stops : goal.returns-in_err-before-clause-stops
returns-in_err-before-clause-stops g c =
    let p = err_from_is_err_and c.from_residual.result c.from_residual.ensures.1 in rw (p.1, p.2)
    (here ((in_folder c.args.base.now (file_of c.args.table), c.args.missing) ∷ []) ((in_folder c.args.out.now (file_of c.args.table), c.args.missing) ∷ []) _ _ _ c.in_err-before.ensures.stops)

pub returns-in_err-after-clause-stops : goal.returns-in_err-after-clause-stops
returns-in_err-after-clause-stops g c =
    let p = err_from_is_err_and c.from_residual-in_err-after.result c.from_residual-in_err-after.ensures.1 in rw (p.1, p.2)
    (behind ((in_folder c.args.base.now (file_of c.args.table), c.args.missing) ∷ []) (c.in_ok-before.before.items ∷ []) ((in_folder c.args.out.now (file_of c.args.table), c.args.missing) ∷ []) _ _ _ _ c.in_ok-before.ensures.read
    (c.in_err-after.ensures.stops))

pub returns-clause-read : goal.returns-clause-read
returns-clause-read g c =
    more ((in_folder c.args.base.now (file_of c.args.table), c.args.missing) ∷ []) (c.in_ok-before.before.items ∷ []) ((in_folder c.args.out.now (file_of c.args.table), c.args.missing) ∷ []) (c.in_ok-after.after.items ∷ []) _ _ _ c.in_ok-before.ensures.read
    (c.in_ok-after.ensures.read)
