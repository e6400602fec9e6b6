use Rattle.std.proofs.Common.{◌≡◌, ◌<◌, ◌-◌, length, sym, ap, ◌∙◌, arith, rules, Some, None, true}
use Rattle.std.specs.Prelude.{is_some}
use Rattle.std.specs.FinMap.{get}
use Rattle.version_store.specs.Index.{IsLatest}
use Rattle.version_store.specs.Indexed.{at}
use Rattle.version_store.specs.Entries.{Store, IsLine, Line, line_at, shown}
use Rattle.version_store.proofs.Sights.{is_line, has_none, has_one, line_read, visible_none, visible_last}
use Rattle.version_store.proofs.store.EntryStore.see.Goals as goal

pub returns-in_err-line : goal.returns-in_err-line
returns-in_err-line g c =
    let a = c.self.inside in
    let s : Store = record { first = a.first; lines = a.lines.items } in
    let none : IsLatest (at a.index c.args.key.now) c.args.below None = c.in_err-line.ensures in
    rw (c.from_residual.ensures, ← c.self.view_is)
    (sym (visible_none (line_at s) c.args.key.now c.args.below (λ m l. has_none a.index s c.args.key.now m c.self.invariant (none m l))))

pub overflow_sub-line : goal.overflow_sub-line
overflow_sub-line g c =
    let a = c.self.inside in
    let s : Store = record { first = a.first; lines = a.lines.items } in
    let n = c.in_ok-line.line in
    let last : IsLatest (at a.index c.args.key.now) c.args.below (Some n) = c.in_ok-line.ensures in
    (is_line s c.args.key.now n (has_one a.index s c.args.key.now n c.self.invariant last.1)).0

pub index-requires : goal.index-requires
index-requires g c =
    let a = c.self.inside in
    let s : Store = record { first = a.first; lines = a.lines.items } in
    let n = c.in_ok-line.line in
    let last : IsLatest (at a.index c.args.key.now) c.args.below (Some n) = c.in_ok-line.ensures in
    let there : IsLine s n = is_line s c.args.key.now n (has_one a.index s c.args.key.now n c.self.invariant last.1) in
    let l : n - a.first < length a.lines.items = omega (arith, there.0, there.1) in
    search (rules, l)

pub returns-in_err-made : goal.returns-in_err-made
returns-in_err-made g c =
    let a = c.self.inside in
    let s : Store = record { first = a.first; lines = a.lines.items } in
    let n = c.in_ok-line.line in
    let last : IsLatest (at a.index c.args.key.now) c.args.below (Some n) = c.in_ok-line.ensures in
    let one : is_some (get (line_at s n) c.args.key.now) ≡ true = has_one a.index s c.args.key.now n c.self.invariant last.1 in
    let row : c.index.result.now ≡ line_at s n = line_read s n c.index.result.now (is_line s c.args.key.now n one) c.index.ensures in
    let none : None ≡ get (line_at s n) c.args.key.now = c.in_err-made.ensures ∙ ap (λ (l : Line). get l c.args.key.now) row in
    absurd (let z = ap (λ o. is_some o) none ∙ one in cc)

pub returns : goal.returns
returns g c =
    let a = c.self.inside in
    let s : Store = record { first = a.first; lines = a.lines.items } in
    let n = c.in_ok-line.line in
    let made = c.in_ok-made.made in
    let last : IsLatest (at a.index c.args.key.now) c.args.below (Some n) = c.in_ok-line.ensures in
    let there : IsLine s n = is_line s c.args.key.now n (has_one a.index s c.args.key.now n c.self.invariant last.1) in
    let row : c.index.result.now ≡ line_at s n = line_read s n c.index.result.now there c.index.ensures in
    let here : get (line_at s n) c.args.key.now ≡ Some (shown made) = sym (c.in_ok-made.ensures ∙ ap (λ (l : Line). get l c.args.key.now) row) in
    rw (← c.self.view_is)
    (sym (visible_last (line_at s) c.args.key.now c.args.below n (shown made) last.0 here
    (λ m p q. has_none a.index s c.args.key.now m c.self.invariant (last.2 m p q))))
