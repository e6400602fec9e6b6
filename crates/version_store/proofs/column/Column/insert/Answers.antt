use Rattle.std.proofs.Common.{◌≡◌, ◌<◌, ◌∷◌, ◌++◌, [], ◌∙◌, Err, Ok, ap, length, subst, sym, rules}
use Rattle.version_store.specs.Index.{has}
use Rattle.version_store.specs.Devices.Columns.{GoesTo, IsColumn, Rising, StandsAt}
use Rattle.version_store.proofs.Rising.{at_end, at_front, has_newer, has_older, has_still, placed, rising_front, rising_older, rising_one}
use Rattle.version_store.proofs.column.Column.insert.Goals as goal

pub invariant_of-self : goal.invariant_of-self
invariant_of-self c =
    let none = subst (λ o. IsColumn o c.self.inside.older.items) c.in_default.is c.self.invariant in
    subst (λ ns. Rising (ns ++ c.args.line ∷ [])) (sym none) (rising_one c.args.line)

pub returns-in_default-clause-put : goal.returns-in_default-clause-put
returns-in_default-clause-put c = λ m.
    let none = subst (λ o. IsColumn o c.self.inside.older.items) c.in_default.is c.self.invariant in
    rw (← c.self.view_is, c.in_default.is, none) (has_newer [] c.args.line m)

pub returns-in-Equal-clause-put : goal.returns-in-Equal-clause-put
returns-in-Equal-clause-put c = λ m.
    let older = c.self.inside.older.items in
    let n = c.in-Some.newest in
    let same : n ≡ c.args.line = search rules in
    rw (← c.self.view_is, c.in-Some.is) (has_still (older ++ n ∷ []) c.args.line (length older) (subst (λ l. StandsAt (older ++ n ∷ []) l (length older)) same (at_end older n)) m)

pub returns-in_ok-push-in-Less-clause-put : goal.returns-in_ok-push-in-Less-clause-put
returns-in_ok-push-in-Less-clause-put c = λ m.
    let older = c.self.inside.older.items in
    let n = c.in-Some.newest in
    rw (← c.self.view_is, c.in-Some.is) (ap (λ ns. has (ns ++ c.args.line ∷ []) m) (c.in_ok-push-in-Less.ensures.items ∙ ap (λ ns. ns ++ n ∷ []) c.make_first_room.ensures) ∙ has_newer (older ++ n ∷ []) c.args.line m)

pub invariant_of-self-in-Continue-branch-3 : goal.invariant_of-self-in-Continue-branch-3
invariant_of-self-in-Continue-branch-3 c =
    let older = c.self.inside.older.items in
    let n = c.in-Some.newest in
    let rise = subst (λ o. IsColumn o older) c.in-Some.is c.self.invariant in
    let less : c.args.line < n = search rules in
    let gap = subst (λ ns. GoesTo ns c.args.line c.in-Err.position) c.deref.ensures.value
    (placed c.deref.result.now c.args.line (Err c.in-Err.position) (subst Rising (sym c.deref.ensures.value) (rising_front older n rise)) c.in-Err.ensures.position) in
    subst (λ o. IsColumn o c.insert.new.self.items) (sym c.in-Some.is) (rising_older _ older c.insert.new.self.items n c.in-Err.position c.args.line rise gap less c.insert.ensures.items)

pub returns-in_ok-insert-in-Greater-clause-put : goal.returns-in_ok-insert-in-Greater-clause-put
returns-in_ok-insert-in-Greater-clause-put c = λ m.
    let older = c.self.inside.older.items in
    let n = c.in-Some.newest in
    let rise = subst (λ o. IsColumn o older) c.in-Some.is c.self.invariant in
    let gap = subst (λ ns. GoesTo ns c.args.line c.in-Err.position) c.deref.ensures.value
    (placed c.deref.result.now c.args.line (Err c.in-Err.position) (subst Rising (sym c.deref.ensures.value) (rising_front older n rise)) c.in-Err.ensures.position) in
    rw (← c.self.view_is, c.in-Some.is) (has_older older c.insert.new.self.items n c.in-Err.position c.args.line gap c.in_ok-insert-in-Greater.ensures.items m)

pub returns-in_default-binary_search-clause-put : goal.returns-in_default-binary_search-clause-put
returns-in_default-binary_search-clause-put c = λ m.
    let older = c.self.inside.older.items in
    let n = c.in-Some.newest in
    let i = c.in_default-binary_search.field-0 in
    let rise = subst (λ o. IsColumn o older) c.in-Some.is c.self.invariant in
    let at = subst (λ ns. StandsAt ns c.args.line i) c.deref.ensures.value
    (placed c.deref.result.now c.args.line (Ok i) (subst Rising (sym c.deref.ensures.value) (rising_front older n rise)) c.in_default-binary_search.ensures.position) in
    rw (← c.self.view_is, c.in-Some.is) (has_still (older ++ n ∷ []) c.args.line i (at_front older n c.args.line i at) m)
