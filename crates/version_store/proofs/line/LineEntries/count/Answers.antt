use Rattle.std.proofs.Common.{◌≡◌, length, rules}
use Rattle.version_store.specs.Entries.{keyed}
use Rattle.version_store.proofs.Keyed.{keyed_length}
use Rattle.version_store.proofs.Views.{entries_count}
use Rattle.version_store.proofs.line.LineEntries.count.Goals as goal

pub returns : goal.returns
returns g c =
    let es = c.self.inside.entries in
    let long : c.len.result ≡ length es = search rules in
    rw (← c.self.view_is, entries_count (keyed es) c.self.invariant, keyed_length es) long
