use Rattle.std.proofs.Common.{◌∙◌, ◌++◌, ◌∷◌, [], ap, string_bytes, subst, sym}
use Rattle.whole_run.specs.Checking.{AreLines}
use Rattle.whole_run.proofs.Checked.{lines-more}
use Rattle.whole_run.proofs.checking.lines_of.Goals as goal

pub loop-fault-preserved : goal.loop-fault-preserved
loop-fault-preserved c =
    let line = c.in_ok-line.ensures in
    let told = string_bytes c.loop-fault.text in
    subst (AreLines c.args.options.now (c.loop-fault.yielded ++ c.in-Some.fault ∷ []))
    (sym (c.in_ok-push_str.ensures.bytes ∙ ap (λ t. told ++ t) (c.as_str.ensures.value ∙ line.2)))
    (lines-more c.args.options.now c.loop-fault.yielded c.in-Some.fault line.0 told c.loop-fault.invariant line.1)
