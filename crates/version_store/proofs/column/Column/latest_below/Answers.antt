use Rattle.std.proofs.Common.{◌<◌, None, Some, arith, nat_lt, subst, sym, rules}
use Rattle.std.proofs.lemmas.Fn.{always_returns_same}
use Rattle.version_store.specs.Devices.Columns.{AreBelow, IsColumn, Rising}
use Rattle.version_store.proofs.Rising.{last_below, latest_newest, latest_older, none_below, parted, parted_by, rising_front}
use Rattle.version_store.proofs.column.Column.latest_below.Goals as goal

pub returns-then-newest-below : goal.returns-then-newest-below
returns-then-newest-below c =
    let older = c.self.inside.older.items in
    let n = c.in_ok-newest.newest in
    let rise = subst (λ o. IsColumn o older) c.in_ok-newest.was c.self.invariant in
    rw (← c.self.view_is, c.in_ok-newest.was) (latest_newest older n c.args.below rise c.if-newest-below.true)

pub returns-then-count-eq0 : goal.returns-then-count-eq0
returns-then-count-eq0 c =
    let older = c.self.inside.older.items in
    let n = c.in_ok-newest.newest in
    let rise = rising_front older n (subst (λ o. IsColumn o older) c.in_ok-newest.was c.self.invariant) in
    let by = c.partition_point-count.ensures.partitioned (λ m. nat_lt m c.args.below) (always_returns_same _ _ _ (λ a r f' called. (search rules, search rules))) in
    let parts = subst (λ ns. AreBelow ns c.args.below c.partition_point-count.result) c.deref.ensures.value
    (parted c.deref.result.now c.args.below c.partition_point-count.result c.partition_point-count.ensures.bound (by (parted_by c.deref.result.now c.args.below (subst Rising (sym c.deref.ensures.value) rise)))) in
    rw (← c.self.view_is, c.in_ok-newest.was) (latest_older older n c.args.below None c.if-newest-below.false
    (none_below older c.args.below (subst (AreBelow older c.args.below) c.if-count-eq0.true parts)))

pub returns : goal.returns
returns c =
    let older = c.self.inside.older.items in
    let n = c.in_ok-newest.newest in
    let rise = rising_front older n (subst (λ o. IsColumn o older) c.in_ok-newest.was c.self.invariant) in
    let count = c.partition_point-count.result in
    let by = c.partition_point-count.ensures.partitioned (λ m. nat_lt m c.args.below) (always_returns_same _ _ _ (λ a r f' called. (search rules, search rules))) in
    let parts = subst (λ ns. AreBelow ns c.args.below count) c.deref.ensures.value
    (parted c.deref.result.now c.args.below c.partition_point-count.result c.partition_point-count.ensures.bound (by (parted_by c.deref.result.now c.args.below (subst Rising (sym c.deref.ensures.value) rise)))) in
    let some : 0 < count = omega (arith, c.if-count-eq0.false) in
    rw (← c.self.view_is, c.in_ok-newest.was) (latest_older older n c.args.below (Some c.index.result.now) c.if-newest-below.false
    (last_below older c.args.below count c.index.result.now rise parts some c.index.ensures))
