use Rattle.std.proofs.Common.{◌∷◌, ◌∙◌, [], inl, inr, refl, sym}
use Rattle.outside.specs.Events.{Find}
use Rattle.whole_run.proofs.files.stop_in.Goals as goal

pub returns-then-is_missing : goal.returns-then-is_missing
returns-then-is_missing g c =
    let m = c.stop_of_missing.ensures in
    (Find c.args.folder.now m.0 ∷ [], m.1, inl (sym c.is_missing.ensures ∙ c.if-is_missing.true, (m.0, refl, m.2)))

pub returns-else-is_missing : goal.returns-else-is_missing
returns-else-is_missing g c =
    ([], refl, inr (sym c.is_missing.ensures ∙ c.if-is_missing.false, refl, c.of_file.ensures))
