use Rattle.std.proofs.Common.{◌∙◌, ap₂}
use Rattle.line_origins.specs.Carried.{can_hold}
use Rattle.line_origins.proofs.Found.{agrees_before}
use Rattle.line_origins.proofs.carrying.can_hold.Goals as goal

pub returns-clause-means : goal.returns-clause-means
returns-clause-means g c = λ M h.
    let first = agrees_before _ _ M c.in_ok-article.ensures.keeps h in
    c.can_hold_found.ensures ∙ ap₂ (λ m a. can_hold c.args.asked.now m a) (c.in_ok-member.ensures.means M first) (c.in_ok-article.ensures.means M h)

pub returns-clause-keeps : goal.returns-clause-keeps
returns-clause-keeps g c = λ k r e. c.in_ok-article.ensures.keeps k r (c.in_ok-member.ensures.keeps k r e)

pub returns-in_err-article-clause-keeps : goal.returns-in_err-article-clause-keeps
returns-in_err-article-clause-keeps g c = λ k r e. c.in_err-article.ensures.keeps k r (c.in_ok-member.ensures.keeps k r e)
