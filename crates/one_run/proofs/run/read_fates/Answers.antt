use Rattle.std.proofs.Common.{List}
use Rattle.csv.specs.Records.{fields_of}
use Rattle.one_run.specs.OneRun.{is_one_run}
use Rattle.one_run.specs.declared.fate.Fate.{Fate}
use Rattle.one_run.proofs.Runs.{ends, goes-on}
use Rattle.one_run.proofs.run.read_fates.Goals as goal

pub loop-line-preserved : goal.loop-line-preserved
loop-line-preserved c =
    rw c.in_ok-push.ensures.items
    (goes-on (λ (fates : List Fate). is_one_run fates c.args.journal.now.rows c.args.output.now.answers c.args.output.now.passed c.args.output.now.report)
    c.loop-line.fates.items c.in_ok-take.field-0 (fields_of c.next_line.new.line)
    c.loop-line.journal.rows c.next_line.new.journal.rows
    c.loop-line.output.answers c.take.new.self.answers
    c.loop-line.output.passed c.take.new.self.passed
    c.loop-line.output.report c.take.new.self.report
    c.loop-line.invariant (c.in_ok-next_line.ensures.row c.if-branch.true)
    c.in_ok-take.ensures.answers c.in_ok-take.ensures.passed c.in_ok-take.ensures.report)

pub returns : goal.returns
returns c = λ answers passed report.
    ends (λ (fates : List Fate). is_one_run fates c.args.journal.now.rows c.args.output.now.answers c.args.output.now.passed c.args.output.now.report)
    c.loop-line.fates.items c.loop-line.journal.rows c.loop-line.output.answers c.loop-line.output.passed c.loop-line.output.report
    c.loop-line.invariant (c.in_ok-next_line.ensures.end c.if-branch.false).0 answers passed report
