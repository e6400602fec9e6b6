use Rattle.std.proofs.Common.{sym, ◌∙◌}
use Rattle.std.proofs.lemmas.Slice.Eq.{bytes_eq-Decides}
use Rattle.sip_answer.proofs.OwnTexts.{recorded_agrees}
use Rattle.sip_answer.proofs.comparing.own_text.is_own_text.Goals as goal

pub returns-then-eq : goal.returns-then-eq
returns-then-eq c = λ yes.
    let same = (bytes_eq-Decides _ _).0 (sym c.eq.ensures ∙ c.if-eq.true) in
    recorded_agrees c.args.answer.now c.args.recorded.now c.args.text.now (sym c.without_line_end.ensures ∙ same ∙ c.without_line_end-2.ensures) (rw c.requires (c.agrees_with_itself.ensures yes))
