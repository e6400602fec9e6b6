use Rattle.std.proofs.Common.{◌≡◌, Err, Ok, length, rules, subst, sym, vec_len}
use Rattle.version_store.specs.Devices.Columns.{GoesTo, IsColumn, Rising, StandsAt}
use Rattle.version_store.proofs.Rising.{has_left, has_neither, has_no_newer, placed, popped, popped_column, rising_front, rising_left}
use Rattle.version_store.proofs.column.Column.remove.Goals as goal

pub invariant_of-self : goal.invariant_of-self
invariant_of-self c =
    let older = c.self.inside.older.items in
    let rise = subst (λ o. IsColumn o older) c.in-Some.is c.self.invariant in
    let long : vec_len c.self.inside.older ≡ length older = search rules in
    popped_column c.pop-self-inside.result older c.pop-self-inside.new.self.items _ _ long (rising_front older c.in-Some.newest rise) c.pop-self-inside.ensures.items c.pop-self-inside.ensures.cases

pub returns-then-newest-line : goal.returns-then-newest-line
returns-then-newest-line c = λ m.
    let older = c.self.inside.older.items in
    let n = c.in-Some.newest in
    let rise = subst (λ o. IsColumn o older) c.in-Some.is c.self.invariant in
    let long : vec_len c.self.inside.older ≡ length older = search rules in
    rw (popped c.pop-self-inside.result older c.pop-self-inside.new.self.items _ _ long c.pop-self-inside.ensures.items c.pop-self-inside.ensures.cases, ← c.self.view_is, c.in-Some.is, ← c.if-newest-line.true)
    (has_no_newer older n rise m)

pub invariant_of-self-in-Ok : goal.invariant_of-self-in-Ok
invariant_of-self-in-Ok c =
    let older = c.self.inside.older.items in
    let n = c.in-Some.newest in
    let rise = subst (λ o. IsColumn o older) c.in-Some.is c.self.invariant in
    let at = subst (λ ns. StandsAt ns c.args.line c.in-Ok.position) c.deref.ensures.value
    (placed c.deref.result.now c.args.line (Ok c.in-Ok.position) (subst Rising (sym c.deref.ensures.value) (rising_front older n rise)) c.in-Ok.ensures.position) in
    subst (λ o. IsColumn o c.remove.new.self.items) (sym c.in-Some.is) (rising_left older c.remove.new.self.items n c.in-Ok.position c.args.line rise at c.remove.ensures.items)

pub returns-in-Ok : goal.returns-in-Ok
returns-in-Ok c = λ m.
    let older = c.self.inside.older.items in
    let n = c.in-Some.newest in
    let rise = subst (λ o. IsColumn o older) c.in-Some.is c.self.invariant in
    let at = subst (λ ns. StandsAt ns c.args.line c.in-Ok.position) c.deref.ensures.value
    (placed c.deref.result.now c.args.line (Ok c.in-Ok.position) (subst Rising (sym c.deref.ensures.value) (rising_front older n rise)) c.in-Ok.ensures.position) in
    rw (← c.self.view_is, c.in-Some.is) (has_left older c.remove.new.self.items n c.in-Ok.position c.args.line rise at c.remove.ensures.items m)

pub returns-in_default-binary_search : goal.returns-in_default-binary_search
returns-in_default-binary_search c = λ m.
    let older = c.self.inside.older.items in
    let n = c.in-Some.newest in
    let rise = subst (λ o. IsColumn o older) c.in-Some.is c.self.invariant in
    let gap = subst (λ ns. GoesTo ns c.args.line c.in_default-binary_search.field-0) c.deref.ensures.value
    (placed c.deref.result.now c.args.line (Err c.in_default-binary_search.field-0) (subst Rising (sym c.deref.ensures.value) (rising_front older n rise)) c.in_default-binary_search.ensures.position) in
    rw (← c.self.view_is, c.in-Some.is) (has_neither older n c.in_default-binary_search.field-0 c.args.line gap c.if-newest-line.false m)
