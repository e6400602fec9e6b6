use Rattle.std.proofs.Common.{◌≡◌, ◌+◌, ◌<◌, [], ◌∷◌, length, drop, refl, arith}
use Rattle.std.proofs.lemmas.List.{drop_all}
use Rattle.version_store.specs.Entries.{keyed}
use Rattle.version_store.proofs.Keyed.{keyed_length, keyed_more}
use Rattle.version_store.proofs.Walks.{IsOwn, went_start, went_on, went_here, went_below, went_all, all_own, least_left}
use Rattle.version_store.proofs.line.LineEntries.left.Goals as goal

pub loop-i-init : goal.loop-i-init
loop-i-init g c = went_start _ _ _ refl c.self.invariant

pub returns-then-made-attempt : goal.returns-then-made-attempt
returns-then-made-attempt g c =
    let es = keyed c.self.inside.entries in
    let e = c.index.result in
    let i = c.loop-i.i in
    let lt : i < length c.self.inside.entries = omega (arith, c.loop-i-test.true, c.len-i-end.ensures) in
    let more : drop i es ≡ (e.0.now, e.1) ∷ drop (i + 1) es = keyed_more c.self.inside.entries i e lt c.index.ensures in
    rw (← c.self.view_is)
    (least_left es c.args.attempt e.0.now e.1
    (went_here (IsOwn c.args.attempt) es (drop i es) (drop (i + 1) es) e.0.now e.1 more c.loop-i.invariant)
    c.if-made-attempt.true
    (λ q u lt h. went_below (IsOwn c.args.attempt) es (drop i es) (drop (i + 1) es) e.0.now e.1 more c.loop-i.invariant q u lt h))

pub loop-i-preserved : goal.loop-i-preserved
loop-i-preserved g c =
    let es = keyed c.self.inside.entries in
    let e = c.index.result in
    let i = c.loop-i.i in
    let lt : i < length c.self.inside.entries = omega (arith, c.loop-i-test.true, c.len-i-end.ensures) in
    let more : drop i es ≡ (e.0.now, e.1) ∷ drop (i + 1) es = keyed_more c.self.inside.entries i e lt c.index.ensures in
    went_on (IsOwn c.args.attempt) es (drop i es) (drop (i + 1) es) e.0.now e.1 more c.loop-i.invariant (omega (arith, c.if-made-attempt.false))

pub returns : goal.returns
returns g c =
    let es = keyed c.self.inside.entries in
    let past : drop c.loop-i.i es ≡ [] = drop_all c.loop-i.i es (omega (arith, c.loop-i-test.false, c.len-i-end.ensures, keyed_length c.self.inside.entries)) in
    rw (← c.self.view_is) (all_own es c.args.attempt (went_all (IsOwn c.args.attempt) es (drop c.loop-i.i es) past c.loop-i.invariant))
