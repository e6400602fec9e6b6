use Rattle.sip_answer.proofs.ItemLists.{are_same_items-tallies}
use Rattle.sip_answer.proofs.comparing.items.are_same_items.Goals as goal

pub returns : goal.returns
returns c =
    rw (c.both.ensures, c.stand_alike-first.ensures, c.stand_alike-second.ensures)
    (are_same_items-tallies _ _ _ _ c.in_ok-in_xs.ensures c.in_ok-in_ys.ensures)
