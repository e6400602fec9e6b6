use Rattle.std.proofs.Common.{◌≡◌, ◌+◌, ◌∙◌, inl, inr, false, refl, sym, arith}
use Rattle.std.proofs.lemmas.Bool.{cases_lt}
use Rattle.circ_policy.specs.Calendars.{closed_of}
use Rattle.circ_policy.specs.Due.{IsLeastOpen, due_day, is_open}
use Rattle.circ_policy.proofs.Opening.{next_open-least}
use Rattle.circ_policy.proofs.Pigeons.{some-open}
use Rattle.circ_policy.proofs.Weekdays.{open_on}
use Rattle.circ_policy.proofs.policy.Policy.due.Goals.{else-not-is_closed_weekday-via-then-not-is_closed_weekday+else-not-contains, else-not-is_closed_weekday-via-else-not-is_closed_weekday}
use Rattle.circ_policy.proofs.policy.Policy.due.Goals as goal

pub loop-number-preserved : goal.loop-number-preserved
loop-number-preserved c = λ k from below.
    let n = c.loop-number.number-counter in
    let open_ = open_on (closed_of c.self.inside.calendar) n false c.self.inside.calendar.seven in
    let shut : is_open (closed_of c.self.inside.calendar) n ≡ false = elim c.else-not-is_closed_weekday.branch [
      | else-not-is_closed_weekday-via-then-not-is_closed_weekday+else-not-contains w ↦ rw (open_, w.if-not-is_closed_weekday.true, ← w.contains.ensures, w.if-not-contains.false) refl
      | else-not-is_closed_weekday-via-else-not-is_closed_weekday w ↦ rw (open_, w.if-not-is_closed_weekday.false) refl
    ] in
    elim (cases_lt k n) [ inl before ↦ c.loop-number.invariant k from before | inr last ↦ let e : k ≡ n = omega arith in rw e shut ]

least : (c : goal.After-unwrap) → IsLeastOpen (closed_of c.self.inside.calendar)
    (c.args.day + c.args.media.now.days) c.unwrap.result
least c =
    let same : c.unwrap.result ≡ c.loop-number.number-counter = rw c.unwrap.ensures at c.numbered.ensures.value in
    let open_ = open_on (closed_of c.self.inside.calendar) c.loop-number.number-counter false c.self.inside.calendar.seven in
    rw same (omega arith, rw (open_, c.if-not-is_closed_weekday.true, ← c.contains.ensures, c.if-not-contains.true) refl, λ k from before. c.loop-number.invariant k (omega arith) before)

pub returns-then-not-contains-clause-least : goal.returns-then-not-contains-clause-least
returns-then-not-contains-clause-least c = rw (← c.self.view_is) (least c)

pub returns-then-not-contains-clause-value : goal.returns-then-not-contains-clause-value
unfolding due_day
returns-then-not-contains-clause-value c =
    rw (← c.self.view_is)
    (next_open-least (closed_of c.self.inside.calendar) (c.args.day + c.args.media.now.days) c.unwrap.result (least c) (omega (arith, rw c.unwrap.ensures at c.numbered.ensures.value)))

pub unreachable-requires : goal.unreachable-requires
unreachable-requires c =
    let calendar = c.self.inside.calendar in
    let (n, from, to, some) = some-open (closed_of calendar) (c.number.result + c.from.result) calendar.seven calendar.some_open calendar.few_closed in
    let none = c.loop-number.invariant n from (omega arith) in
    cc (sym none ∙ some)
