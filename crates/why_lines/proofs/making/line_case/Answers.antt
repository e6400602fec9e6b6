use Rattle.why_lines.proofs.Giving.{given_out, not_given}
use Rattle.why_lines.proofs.making.line_case.Goals as goal

pub returns-clause-certified : goal.returns-clause-certified
returns-clause-certified c =
    given_out c.certified.result c.in_ok-case.case c.args.policy.now c.args.tracer.now.plan.now c.args.line.now c.in_ok-case.ensures c.certified.ensures.certified

pub returns-clause-dropped : goal.returns-clause-dropped
returns-clause-dropped c =
    not_given c.certified.result c.in_ok-case.case c.args.policy.now c.args.tracer.now.plan.now c.args.line.now c.in_ok-case.ensures c.certified.ensures.dropped
