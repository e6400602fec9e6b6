use Rattle.std.proofs.Common.{rules, ◌≡◌, ◌-◌, ℕ, ap}
use Rattle.table_diff.specs.Devices.{count_in}
use Rattle.table_diff.proofs.Counts.{one-off}
use Rattle.table_diff.proofs.surplus.take_one.Goals as goal

pub returns-clause-rest : goal.returns-clause-rest
returns-clause-rest c t =
    let count : c.unwrap_or-count.result ≡ count_in c.args.counts.now c.args.text.items = search rules in
    one-off c.args.text.items c.args.counts.now c.insert.new.self (c.unwrap_or-count.result - 1) (ap (λ (k : ℕ). k - 1) count) c.in_ok-insert.ensures.updates t
