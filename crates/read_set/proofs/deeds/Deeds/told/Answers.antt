use Rattle.std.proofs.Common.{◌≡◌, ◌∙◌, ◌+◌, ◌≤◌, Some, length, map, slice_get, List, Option, ap, arith, suc, sym, take_all}
use Rattle.std.proofs.lemmas.Option.{slice_get-get_or}
use Rattle.journal_table.specs.Entry.{Entry}
use Rattle.read_set.specs.Coherence.{HasFitDeed}
use Rattle.journal_table.specs.Readings.{reading_at}
use Rattle.read_set.specs.Plans.{deed_read, deeds_of}
use Rattle.read_set.specs.declared.way.Way.TheVariants as ways
use Rattle.sip_answer.specs.declared.deed.Deed.{Deed}
use Rattle.read_set.proofs.DeedLists.{all-more, as-many-told, told-next}
use Rattle.read_set.proofs.deeds.Deeds.told.Goals as goal

pub loop-place-preserved : goal.loop-place-preserved
loop-place-preserved c =
    let lines = c.lines-lines.result.now in
    let place = c.loop-place.place in
    let line : Entry = c.index-lines-place.result in
    let before = c.loop-place.deeds.items in
    let deed : Option Deed = c.in_ok-deed.deed in
    let after = c.in_ok-push.ensures.items in
    let same : suc place ≡ place + 1 = omega arith in
    rw (after, ← same) (
      all-more HasFitDeed before deed c.loop-place.invariant.0 c.in_ok-deed.ensures.fits,
      rw (← c.lines-lines.ensures.lines)
          (told-next c.args.form lines c.args.readings.now before place line deed
          (slice_get-get_or lines place line c.loop-place-test.true ∙ ap (λ x. Some x) (sym c.index-lines-place.is))
          (c.in_ok-deed.ensures.value ∙ ap (λ o. deed_read c.args.form o c.parts.result.response.now) c.get.ensures ∙ ap (λ r. deed_read c.args.form (slice_get (map reading_at c.args.readings.now) place) r) c.parts.ensures.response)
          (rw c.lines-lines.ensures.lines c.loop-place.invariant.1)),
    )

pub returns : goal.returns
returns c = λ same.
    let all : length (deeds_of ways.AsRecorded c.args.form c.args.journal.now) ≡ length c.args.journal.now = as-many-told c.args.form c.args.journal.now in
    let lines : length c.lines-lines.result.now ≡ length c.args.journal.now = ap (λ (es : List Entry). length es) c.lines-lines.ensures.lines in
    let past : length c.lines-lines.result.now ≤ c.loop-place.place = c.loop-place-test.false in
    c.loop-place.invariant.1 same ∙ take_all c.loop-place.place (deeds_of ways.AsRecorded c.args.form c.args.journal.now) (omega (arith, all, lines, past))
