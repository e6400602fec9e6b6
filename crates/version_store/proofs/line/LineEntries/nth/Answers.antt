use Rattle.std.proofs.Common.{◌<◌, ◌^◌, arith, length, refl, rules, sym}
use Rattle.std.proofs.lemmas.Option.{slice_get_past, slice_get_read}
use Rattle.version_store.specs.Entries.{keyed}
use Rattle.version_store.proofs.Keyed.{keyed_length, keyed_nth}
use Rattle.version_store.proofs.Views.{entries_count, entry_at}
use Rattle.version_store.proofs.line.LineEntries.nth.Goals as goal

pub returns-then-i-len-clause-value : goal.returns-then-i-len-clause-value
returns-then-i-len-clause-value g c =
    let es = c.self.inside.entries in
    let past = slice_get_past es c.args.i (omega (arith, c.len.ensures, c.if-i-len.true)) in
    rw (← c.self.view_is, entry_at (keyed es) c.args.i _ c.self.invariant (keyed_nth es c.args.i _ (sym past))) refl

pub returns-then-i-len-clause-few : goal.returns-then-i-len-clause-few
returns-then-i-len-clause-few g c =
    let few : length c.self.inside.entries < 2 ^ 64 = search rules in
    rw (← c.self.view_is, entries_count (keyed c.self.inside.entries) c.self.invariant, keyed_length c.self.inside.entries) few

pub returns-clause-value : goal.returns-clause-value
returns-clause-value g c =
    let es = c.self.inside.entries in
    let here = slice_get_read es (length es) c.args.i c.index.result refl (omega (arith, c.len.ensures, c.if-i-len.false)) c.index.ensures in
    rw (← c.self.view_is, entry_at (keyed es) c.args.i _ c.self.invariant (keyed_nth es c.args.i _ (sym here))) refl

pub returns-clause-few : goal.returns-clause-few
returns-clause-few g c =
    let few : length c.self.inside.entries < 2 ^ 64 = search rules in
    rw (← c.self.view_is, entries_count (keyed c.self.inside.entries) c.self.invariant, keyed_length c.self.inside.entries) few
