use Rattle.std.proofs.Common.{◌∙◌, ap}
use Rattle.std.specs.List.{list_all}
use Rattle.sip_answer.specs.Deeds.{names_item}
use Rattle.line_origins.proofs.Listed.{all_mapped}
use Rattle.line_origins.proofs.carrying.are_listed.Goals as goal

pub returns : goal.returns
returns c =
    c.all_listed.ensures
    ∙ all_mapped (names_item c.args.ids.now) (λ t. t.items) _
    ∙ ap (list_all (names_item c.args.ids.now)) c.as_slice.ensures
