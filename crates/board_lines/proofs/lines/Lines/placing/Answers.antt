use Rattle.board_lines.proofs.lines.Lines.placing.Goals as goal

pub returns : goal.returns
returns g c = (c.in-Some.field-0-0, c.in-Some.ensures.0, c.in-Some.ensures.1)
