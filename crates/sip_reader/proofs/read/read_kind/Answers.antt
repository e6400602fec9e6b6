use Rattle.std.proofs.Common.{◌∙◌, sym}
use Rattle.sip_reader.proofs.Clean.{fits}
use Rattle.sip_reader.proofs.read.read_kind.Goals as goal

pub asked_act-requires-clause-fits : goal.asked_act-requires-clause-fits
asked_act-requires-clause-fits c = rw (← c.layout-layout.ensures)
    (fits c.layout-layout.result _ _ c.note_all.ensures (sym c.is_bad_field.ensures ∙ c.if-is_bad_field.false) (sym c.is_lacking.ensures ∙ c.if-is_lacking.false) (sym c.is_bad_amount.ensures ∙ c.if-is_bad_amount.false))
