use Rattle.std.proofs.Common.{◌++◌, codes}
use Rattle.std.proofs.lemmas.Result.{err_from_is_err_and}
use Rattle.outside.proofs.ReadSteps.{behind, here, more}
use Rattle.page_run.specs.Sources.{both_in, both_texts, name_texts, names_in}
use Rattle.outside.specs.declared.reading.IfMissing.TheVariants.{Empty, Fails}
use Rattle.page_run.proofs.files.read_changed.Goals as goal

pub returns-in_err-names-clause-stops : goal.returns-in_err-names-clause-stops
returns-in_err-names-clause-stops g c =
    let p = err_from_is_err_and c.from_residual.result c.from_residual.ensures.1 in rw (p.1, p.2)
    (here (names_in c.args.base.now) ((both_in c.args.base.now c.args.out.now (codes "loans.csv") Fails) ++ ((both_in c.args.base.now c.args.out.now (codes "holds.csv") Empty) ++ ((both_in c.args.base.now c.args.out.now (codes "fees.csv") Fails)))) _ _ _ c.in_err-names.ensures.stops)

pub returns-in_err-loans-clause-stops : goal.returns-in_err-loans-clause-stops
returns-in_err-loans-clause-stops g c =
    let p = err_from_is_err_and c.from_residual-in_err-loans.result c.from_residual-in_err-loans.ensures.1 in rw (p.1, p.2)
    (behind (names_in c.args.base.now) (name_texts c.in_ok-names.names) ((both_in c.args.base.now c.args.out.now (codes "loans.csv") Fails) ++ ((both_in c.args.base.now c.args.out.now (codes "holds.csv") Empty) ++ ((both_in c.args.base.now c.args.out.now (codes "fees.csv") Fails)))) _ _ _ _ c.in_ok-names.ensures.read
    (here (both_in c.args.base.now c.args.out.now (codes "loans.csv") Fails) ((both_in c.args.base.now c.args.out.now (codes "holds.csv") Empty) ++ ((both_in c.args.base.now c.args.out.now (codes "fees.csv") Fails))) _ _ _ c.in_err-loans.ensures.stops))

pub returns-in_err-holds-clause-stops : goal.returns-in_err-holds-clause-stops
returns-in_err-holds-clause-stops g c =
    let p = err_from_is_err_and c.from_residual-in_err-holds.result c.from_residual-in_err-holds.ensures.1 in rw (p.1, p.2)
    (behind (names_in c.args.base.now) (name_texts c.in_ok-names.names) ((both_in c.args.base.now c.args.out.now (codes "loans.csv") Fails) ++ ((both_in c.args.base.now c.args.out.now (codes "holds.csv") Empty) ++ ((both_in c.args.base.now c.args.out.now (codes "fees.csv") Fails)))) _ _ _ _ c.in_ok-names.ensures.read
    (behind (both_in c.args.base.now c.args.out.now (codes "loans.csv") Fails) (both_texts c.in_ok-loans.loans) ((both_in c.args.base.now c.args.out.now (codes "holds.csv") Empty) ++ ((both_in c.args.base.now c.args.out.now (codes "fees.csv") Fails))) _ _ _ _ c.in_ok-loans.ensures.read
    (here (both_in c.args.base.now c.args.out.now (codes "holds.csv") Empty) (both_in c.args.base.now c.args.out.now (codes "fees.csv") Fails) _ _ _ c.in_err-holds.ensures.stops)))

pub returns-in_err-fees-clause-stops : goal.returns-in_err-fees-clause-stops
returns-in_err-fees-clause-stops g c =
    let p = err_from_is_err_and c.from_residual-in_err-fees.result c.from_residual-in_err-fees.ensures.1 in rw (p.1, p.2)
    (behind (names_in c.args.base.now) (name_texts c.in_ok-names.names) ((both_in c.args.base.now c.args.out.now (codes "loans.csv") Fails) ++ ((both_in c.args.base.now c.args.out.now (codes "holds.csv") Empty) ++ ((both_in c.args.base.now c.args.out.now (codes "fees.csv") Fails)))) _ _ _ _ c.in_ok-names.ensures.read
    (behind (both_in c.args.base.now c.args.out.now (codes "loans.csv") Fails) (both_texts c.in_ok-loans.loans) ((both_in c.args.base.now c.args.out.now (codes "holds.csv") Empty) ++ ((both_in c.args.base.now c.args.out.now (codes "fees.csv") Fails))) _ _ _ _ c.in_ok-loans.ensures.read
    (behind (both_in c.args.base.now c.args.out.now (codes "holds.csv") Empty) (both_texts c.in_ok-holds.holds) (both_in c.args.base.now c.args.out.now (codes "fees.csv") Fails) _ _ _ _ c.in_ok-holds.ensures.read
    (c.in_err-fees.ensures.stops))))

pub returns-clause-read : goal.returns-clause-read
returns-clause-read g c =
    more (names_in c.args.base.now) (name_texts c.in_ok-names.names) ((both_in c.args.base.now c.args.out.now (codes "loans.csv") Fails) ++ ((both_in c.args.base.now c.args.out.now (codes "holds.csv") Empty) ++ ((both_in c.args.base.now c.args.out.now (codes "fees.csv") Fails)))) ((both_texts c.in_ok-loans.loans) ++ ((both_texts c.in_ok-holds.holds) ++ ((both_texts c.in_ok-fees.fees)))) _ _ _ c.in_ok-names.ensures.read
    (more (both_in c.args.base.now c.args.out.now (codes "loans.csv") Fails) (both_texts c.in_ok-loans.loans) ((both_in c.args.base.now c.args.out.now (codes "holds.csv") Empty) ++ ((both_in c.args.base.now c.args.out.now (codes "fees.csv") Fails))) ((both_texts c.in_ok-holds.holds) ++ ((both_texts c.in_ok-fees.fees))) _ _ _ c.in_ok-loans.ensures.read
    (more (both_in c.args.base.now c.args.out.now (codes "holds.csv") Empty) (both_texts c.in_ok-holds.holds) (both_in c.args.base.now c.args.out.now (codes "fees.csv") Fails) (both_texts c.in_ok-fees.fees) _ _ _ c.in_ok-holds.ensures.read
    (c.in_ok-fees.ensures.read)))
