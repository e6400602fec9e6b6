use Rattle.std.proofs.Common.{rules, ◌≡◌, ◌+◌, ℕ, ap, arith}
use Rattle.table_diff.specs.Devices.{count_in}
use Rattle.table_diff.proofs.Counts.{one-on}
use Rattle.table_diff.proofs.surplus.add_one.Goals as goal

pub overflow_add-count : goal.overflow_add-count
overflow_add-count c =
    let count : c.unwrap_or-count.result ≡ count_in c.args.counts.now c.args.text.items = search rules in
    let room = c.requires in
    omega arith

pub returns : goal.returns
returns c = λ t.
    let count : c.unwrap_or-count.result ≡ count_in c.args.counts.now c.args.text.items = search rules in
    one-on c.args.text.items c.args.counts.now c.insert.new.self (c.unwrap_or-count.result + 1) (ap (λ (k : ℕ). k + 1) count) c.in_ok-insert.ensures.updates t
