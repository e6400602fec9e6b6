use Rattle.std.proofs.Common.{◌++◌, ◌∷◌, [], codes}
use Rattle.std.proofs.lemmas.Result.{err_from_is_err_and}
use Rattle.outside.proofs.ReadSteps.{behind, here, more}
use Rattle.outside.specs.Files.{in_folder}
use Rattle.outside.specs.declared.reading.IfMissing.TheVariants.{Empty, Fails}
use Rattle.why_run.proofs.files.read_tables.Goals as goal

pub returns-in_err-patrons-clause-stops : goal.returns-in_err-patrons-clause-stops
returns-in_err-patrons-clause-stops g c =
    let p = err_from_is_err_and c.from_residual.result c.from_residual.ensures.1 in rw (p.1, p.2)
    (here ((in_folder c.args.folder.now (codes "patrons.csv"), Fails) ∷ []) ((in_folder c.args.folder.now (codes "items.csv"), Fails) ∷ [] ++ ((in_folder c.args.folder.now (codes "loans.csv"), Fails) ∷ [] ++ ((in_folder c.args.folder.now (codes "fees.csv"), Fails) ∷ [] ++ ((in_folder c.args.folder.now (codes "closed.csv"), Fails) ∷ [] ++ ((in_folder c.args.folder.now (codes "holds.csv"), Empty) ∷ []))))) _ _ _ c.in_err-patrons.ensures.stops)

pub returns-in_err-items-clause-stops : goal.returns-in_err-items-clause-stops
returns-in_err-items-clause-stops g c =
    let p = err_from_is_err_and c.from_residual-in_err-items.result c.from_residual-in_err-items.ensures.1 in rw (p.1, p.2)
    (behind ((in_folder c.args.folder.now (codes "patrons.csv"), Fails) ∷ []) (c.in_ok-patrons.patrons.items ∷ []) ((in_folder c.args.folder.now (codes "items.csv"), Fails) ∷ [] ++ ((in_folder c.args.folder.now (codes "loans.csv"), Fails) ∷ [] ++ ((in_folder c.args.folder.now (codes "fees.csv"), Fails) ∷ [] ++ ((in_folder c.args.folder.now (codes "closed.csv"), Fails) ∷ [] ++ ((in_folder c.args.folder.now (codes "holds.csv"), Empty) ∷ []))))) _ _ _ _ c.in_ok-patrons.ensures.read
    (here ((in_folder c.args.folder.now (codes "items.csv"), Fails) ∷ []) ((in_folder c.args.folder.now (codes "loans.csv"), Fails) ∷ [] ++ ((in_folder c.args.folder.now (codes "fees.csv"), Fails) ∷ [] ++ ((in_folder c.args.folder.now (codes "closed.csv"), Fails) ∷ [] ++ ((in_folder c.args.folder.now (codes "holds.csv"), Empty) ∷ [])))) _ _ _ c.in_err-items.ensures.stops))

pub returns-in_err-loans-clause-stops : goal.returns-in_err-loans-clause-stops
returns-in_err-loans-clause-stops g c =
    let p = err_from_is_err_and c.from_residual-in_err-loans.result c.from_residual-in_err-loans.ensures.1 in rw (p.1, p.2)
    (behind ((in_folder c.args.folder.now (codes "patrons.csv"), Fails) ∷ []) (c.in_ok-patrons.patrons.items ∷ []) ((in_folder c.args.folder.now (codes "items.csv"), Fails) ∷ [] ++ ((in_folder c.args.folder.now (codes "loans.csv"), Fails) ∷ [] ++ ((in_folder c.args.folder.now (codes "fees.csv"), Fails) ∷ [] ++ ((in_folder c.args.folder.now (codes "closed.csv"), Fails) ∷ [] ++ ((in_folder c.args.folder.now (codes "holds.csv"), Empty) ∷ []))))) _ _ _ _ c.in_ok-patrons.ensures.read
    (behind ((in_folder c.args.folder.now (codes "items.csv"), Fails) ∷ []) (c.in_ok-items.items.items ∷ []) ((in_folder c.args.folder.now (codes "loans.csv"), Fails) ∷ [] ++ ((in_folder c.args.folder.now (codes "fees.csv"), Fails) ∷ [] ++ ((in_folder c.args.folder.now (codes "closed.csv"), Fails) ∷ [] ++ ((in_folder c.args.folder.now (codes "holds.csv"), Empty) ∷ [])))) _ _ _ _ c.in_ok-items.ensures.read
    (here ((in_folder c.args.folder.now (codes "loans.csv"), Fails) ∷ []) ((in_folder c.args.folder.now (codes "fees.csv"), Fails) ∷ [] ++ ((in_folder c.args.folder.now (codes "closed.csv"), Fails) ∷ [] ++ ((in_folder c.args.folder.now (codes "holds.csv"), Empty) ∷ []))) _ _ _ c.in_err-loans.ensures.stops)))

pub returns-in_err-fees-clause-stops : goal.returns-in_err-fees-clause-stops
returns-in_err-fees-clause-stops g c =
    let p = err_from_is_err_and c.from_residual-in_err-fees.result c.from_residual-in_err-fees.ensures.1 in rw (p.1, p.2)
    (behind ((in_folder c.args.folder.now (codes "patrons.csv"), Fails) ∷ []) (c.in_ok-patrons.patrons.items ∷ []) ((in_folder c.args.folder.now (codes "items.csv"), Fails) ∷ [] ++ ((in_folder c.args.folder.now (codes "loans.csv"), Fails) ∷ [] ++ ((in_folder c.args.folder.now (codes "fees.csv"), Fails) ∷ [] ++ ((in_folder c.args.folder.now (codes "closed.csv"), Fails) ∷ [] ++ ((in_folder c.args.folder.now (codes "holds.csv"), Empty) ∷ []))))) _ _ _ _ c.in_ok-patrons.ensures.read
    (behind ((in_folder c.args.folder.now (codes "items.csv"), Fails) ∷ []) (c.in_ok-items.items.items ∷ []) ((in_folder c.args.folder.now (codes "loans.csv"), Fails) ∷ [] ++ ((in_folder c.args.folder.now (codes "fees.csv"), Fails) ∷ [] ++ ((in_folder c.args.folder.now (codes "closed.csv"), Fails) ∷ [] ++ ((in_folder c.args.folder.now (codes "holds.csv"), Empty) ∷ [])))) _ _ _ _ c.in_ok-items.ensures.read
    (behind ((in_folder c.args.folder.now (codes "loans.csv"), Fails) ∷ []) (c.in_ok-loans.loans.items ∷ []) ((in_folder c.args.folder.now (codes "fees.csv"), Fails) ∷ [] ++ ((in_folder c.args.folder.now (codes "closed.csv"), Fails) ∷ [] ++ ((in_folder c.args.folder.now (codes "holds.csv"), Empty) ∷ []))) _ _ _ _ c.in_ok-loans.ensures.read
    (here ((in_folder c.args.folder.now (codes "fees.csv"), Fails) ∷ []) ((in_folder c.args.folder.now (codes "closed.csv"), Fails) ∷ [] ++ ((in_folder c.args.folder.now (codes "holds.csv"), Empty) ∷ [])) _ _ _ c.in_err-fees.ensures.stops))))

pub returns-in_err-closed-clause-stops : goal.returns-in_err-closed-clause-stops
returns-in_err-closed-clause-stops g c =
    let p = err_from_is_err_and c.from_residual-in_err-closed.result c.from_residual-in_err-closed.ensures.1 in rw (p.1, p.2)
    (behind ((in_folder c.args.folder.now (codes "patrons.csv"), Fails) ∷ []) (c.in_ok-patrons.patrons.items ∷ []) ((in_folder c.args.folder.now (codes "items.csv"), Fails) ∷ [] ++ ((in_folder c.args.folder.now (codes "loans.csv"), Fails) ∷ [] ++ ((in_folder c.args.folder.now (codes "fees.csv"), Fails) ∷ [] ++ ((in_folder c.args.folder.now (codes "closed.csv"), Fails) ∷ [] ++ ((in_folder c.args.folder.now (codes "holds.csv"), Empty) ∷ []))))) _ _ _ _ c.in_ok-patrons.ensures.read
    (behind ((in_folder c.args.folder.now (codes "items.csv"), Fails) ∷ []) (c.in_ok-items.items.items ∷ []) ((in_folder c.args.folder.now (codes "loans.csv"), Fails) ∷ [] ++ ((in_folder c.args.folder.now (codes "fees.csv"), Fails) ∷ [] ++ ((in_folder c.args.folder.now (codes "closed.csv"), Fails) ∷ [] ++ ((in_folder c.args.folder.now (codes "holds.csv"), Empty) ∷ [])))) _ _ _ _ c.in_ok-items.ensures.read
    (behind ((in_folder c.args.folder.now (codes "loans.csv"), Fails) ∷ []) (c.in_ok-loans.loans.items ∷ []) ((in_folder c.args.folder.now (codes "fees.csv"), Fails) ∷ [] ++ ((in_folder c.args.folder.now (codes "closed.csv"), Fails) ∷ [] ++ ((in_folder c.args.folder.now (codes "holds.csv"), Empty) ∷ []))) _ _ _ _ c.in_ok-loans.ensures.read
    (behind ((in_folder c.args.folder.now (codes "fees.csv"), Fails) ∷ []) (c.in_ok-fees.fees.items ∷ []) ((in_folder c.args.folder.now (codes "closed.csv"), Fails) ∷ [] ++ ((in_folder c.args.folder.now (codes "holds.csv"), Empty) ∷ [])) _ _ _ _ c.in_ok-fees.ensures.read
    (here ((in_folder c.args.folder.now (codes "closed.csv"), Fails) ∷ []) ((in_folder c.args.folder.now (codes "holds.csv"), Empty) ∷ []) _ _ _ c.in_err-closed.ensures.stops)))))

pub returns-in_err-holds-clause-stops : goal.returns-in_err-holds-clause-stops
returns-in_err-holds-clause-stops g c =
    let p = err_from_is_err_and c.from_residual-in_err-holds.result c.from_residual-in_err-holds.ensures.1 in rw (p.1, p.2)
    (behind ((in_folder c.args.folder.now (codes "patrons.csv"), Fails) ∷ []) (c.in_ok-patrons.patrons.items ∷ []) ((in_folder c.args.folder.now (codes "items.csv"), Fails) ∷ [] ++ ((in_folder c.args.folder.now (codes "loans.csv"), Fails) ∷ [] ++ ((in_folder c.args.folder.now (codes "fees.csv"), Fails) ∷ [] ++ ((in_folder c.args.folder.now (codes "closed.csv"), Fails) ∷ [] ++ ((in_folder c.args.folder.now (codes "holds.csv"), Empty) ∷ []))))) _ _ _ _ c.in_ok-patrons.ensures.read
    (behind ((in_folder c.args.folder.now (codes "items.csv"), Fails) ∷ []) (c.in_ok-items.items.items ∷ []) ((in_folder c.args.folder.now (codes "loans.csv"), Fails) ∷ [] ++ ((in_folder c.args.folder.now (codes "fees.csv"), Fails) ∷ [] ++ ((in_folder c.args.folder.now (codes "closed.csv"), Fails) ∷ [] ++ ((in_folder c.args.folder.now (codes "holds.csv"), Empty) ∷ [])))) _ _ _ _ c.in_ok-items.ensures.read
    (behind ((in_folder c.args.folder.now (codes "loans.csv"), Fails) ∷ []) (c.in_ok-loans.loans.items ∷ []) ((in_folder c.args.folder.now (codes "fees.csv"), Fails) ∷ [] ++ ((in_folder c.args.folder.now (codes "closed.csv"), Fails) ∷ [] ++ ((in_folder c.args.folder.now (codes "holds.csv"), Empty) ∷ []))) _ _ _ _ c.in_ok-loans.ensures.read
    (behind ((in_folder c.args.folder.now (codes "fees.csv"), Fails) ∷ []) (c.in_ok-fees.fees.items ∷ []) ((in_folder c.args.folder.now (codes "closed.csv"), Fails) ∷ [] ++ ((in_folder c.args.folder.now (codes "holds.csv"), Empty) ∷ [])) _ _ _ _ c.in_ok-fees.ensures.read
    (behind ((in_folder c.args.folder.now (codes "closed.csv"), Fails) ∷ []) (c.in_ok-closed.closed.items ∷ []) ((in_folder c.args.folder.now (codes "holds.csv"), Empty) ∷ []) _ _ _ _ c.in_ok-closed.ensures.read
    c.in_err-holds.ensures.stops)))))

pub returns-clause-read : goal.returns-clause-read
returns-clause-read g c =
    more ((in_folder c.args.folder.now (codes "patrons.csv"), Fails) ∷ []) (c.in_ok-patrons.patrons.items ∷ []) ((in_folder c.args.folder.now (codes "items.csv"), Fails) ∷ [] ++ ((in_folder c.args.folder.now (codes "loans.csv"), Fails) ∷ [] ++ ((in_folder c.args.folder.now (codes "fees.csv"), Fails) ∷ [] ++ ((in_folder c.args.folder.now (codes "closed.csv"), Fails) ∷ [] ++ ((in_folder c.args.folder.now (codes "holds.csv"), Empty) ∷ []))))) (c.in_ok-items.items.items ∷ [] ++ (c.in_ok-loans.loans.items ∷ [] ++ (c.in_ok-fees.fees.items ∷ [] ++ (c.in_ok-closed.closed.items ∷ [] ++ (c.in_ok-holds.holds.items ∷ []))))) _ _ _ c.in_ok-patrons.ensures.read
    (more ((in_folder c.args.folder.now (codes "items.csv"), Fails) ∷ []) (c.in_ok-items.items.items ∷ []) ((in_folder c.args.folder.now (codes "loans.csv"), Fails) ∷ [] ++ ((in_folder c.args.folder.now (codes "fees.csv"), Fails) ∷ [] ++ ((in_folder c.args.folder.now (codes "closed.csv"), Fails) ∷ [] ++ ((in_folder c.args.folder.now (codes "holds.csv"), Empty) ∷ [])))) (c.in_ok-loans.loans.items ∷ [] ++ (c.in_ok-fees.fees.items ∷ [] ++ (c.in_ok-closed.closed.items ∷ [] ++ (c.in_ok-holds.holds.items ∷ [])))) _ _ _ c.in_ok-items.ensures.read
    (more ((in_folder c.args.folder.now (codes "loans.csv"), Fails) ∷ []) (c.in_ok-loans.loans.items ∷ []) ((in_folder c.args.folder.now (codes "fees.csv"), Fails) ∷ [] ++ ((in_folder c.args.folder.now (codes "closed.csv"), Fails) ∷ [] ++ ((in_folder c.args.folder.now (codes "holds.csv"), Empty) ∷ []))) (c.in_ok-fees.fees.items ∷ [] ++ (c.in_ok-closed.closed.items ∷ [] ++ (c.in_ok-holds.holds.items ∷ []))) _ _ _ c.in_ok-loans.ensures.read
    (more ((in_folder c.args.folder.now (codes "fees.csv"), Fails) ∷ []) (c.in_ok-fees.fees.items ∷ []) ((in_folder c.args.folder.now (codes "closed.csv"), Fails) ∷ [] ++ ((in_folder c.args.folder.now (codes "holds.csv"), Empty) ∷ [])) (c.in_ok-closed.closed.items ∷ [] ++ (c.in_ok-holds.holds.items ∷ [])) _ _ _ c.in_ok-fees.ensures.read
    (more ((in_folder c.args.folder.now (codes "closed.csv"), Fails) ∷ []) (c.in_ok-closed.closed.items ∷ []) ((in_folder c.args.folder.now (codes "holds.csv"), Empty) ∷ []) (c.in_ok-holds.holds.items ∷ []) _ _ _ c.in_ok-closed.ensures.read
    c.in_ok-holds.ensures.read))))
