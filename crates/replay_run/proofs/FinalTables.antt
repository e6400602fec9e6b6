-- The tables of the last records are read again.
use Rattle.std.proofs.Common.{◌≡◌, ◌≤◌, ◌+◌, ◌^◌, length, subst, sym}
use Rattle.read_set.specs.Replay.{last}
use Rattle.read_set.specs.Maps.{Map}
use Rattle.record_tables.proofs.ReadAgain.{read-again}
use Rattle.std.proofs.Math.Path.{fun_ext}
use Rattle.circ_records.specs.Coherent.{AreOfKind, IsCoherentMap}
use Rattle.circ_records.specs.Records.{Entries, record_at}
use Rattle.read_set.specs.Coherence.{StaysCoherent}
use Rattle.read_set.specs.Plans.{plan_of, Planned}
use Rattle.read_set.proofs.PlanFits.{read-plans}
use Rattle.replay_run.specs.FinalTables.{FinalTablesReadBack}

-- the tables of the last records are read again
pub final-tables : (base : Entries) → length base ≤ 2 ^ 64 → FinalTablesReadBack base
final-tables base few way text bytes policy lines p j h kinds entries rising tells =
    let plan : Planned = plan_of way policy base lines in
    let stays : StaysCoherent plan = read-plans base few way text bytes policy lines p j h in
    let same : record_at entries ≡ last plan = fun_ext tells in
    read-again policy (plan.first + length plan.readings) entries rising (subst (λ (m : Map). IsCoherentMap policy (plan.first + length plan.readings) m) (sym same) stays.last)
    (subst (λ (m : Map). AreOfKind m) (sym same) (stays.kinds kinds))
