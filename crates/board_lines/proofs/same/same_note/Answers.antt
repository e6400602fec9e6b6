use Rattle.std.proofs.Common.{◌≡◌, true, false, sym, ap, not, rules, ◌∙◌}
use Rattle.std.specs.Prelude.{Some}
use Rattle.std.specs.Ordering.{eq_by_cmp}
use Rattle.std.proofs.lemmas.Option.{none-some}
use Rattle.circ_records.specs.Keys.{key_cmp}
use Rattle.read_set.specs.declared.notes.Note.{Note}
use Rattle.board_lines.specs.Notes.{note_by, noted}
use Rattle.board_lines.proofs.Alike.{key_same, no_note, nth_note, same_parts, same_tie}
use Rattle.board_lines.proofs.same.same_note.Goals as goal

pub returns-in_default : goal.returns-in_default
returns-in_default g c =
    (λ h. absurd (cc), λ e. absurd (none-some c.args.theirs.now (sym (e ∙ no_note c.args.plan.now.base c.args.ours.now c.args.i c.in_default.ensures))))

pub returns-then-ne : goal.returns-then-ne
returns-then-ne g c = (
  λ h. absurd (cc),
  λ e. (let s = same_parts c.args.plan.now.base c.args.ours.now c.args.i (noted c.in-Some.seen.now) c.args.theirs.now c.in-Some.ensures e in
      let tie = same_tie c.args.theirs.now.key c.in-Some.seen.now.key (ap (λ (y : Note). y.key) s) in
      let z : true ≡ false = sym c.if-ne.true ∙ c.ne.ensures ∙ ap not tie in
      absurd (cc)),
)

pub returns-then-ne-2 : goal.returns-then-ne-2
returns-then-ne-2 g c = (
  λ h. absurd (cc),
  λ e. (let s = same_parts c.args.plan.now.base c.args.ours.now c.args.i (noted c.in-Some.seen.now) c.args.theirs.now c.in-Some.ensures e in
      let name : c.args.theirs.now.name ≡ c.in-Some.seen.now.name = ap (λ (y : Note). y.name) s in
      search (name, c.ne-2.ensures, c.if-ne-2.true, rules)),
)

pub returns : goal.returns
returns g c =
    let base = c.args.plan.now.base in
    let ours = noted c.in-Some.seen.now in
    let tie : eq_by_cmp key_cmp c.args.theirs.now.key c.in-Some.seen.now.key ≡ true = search rules in
    let key = key_same c.args.theirs.now.key c.in-Some.seen.now.key tie in
    let name : c.args.theirs.now.name ≡ c.in-Some.seen.now.name = search rules in (
      λ h. (let found = c.is_same.ensures.0 h ∙ c.record_seen-record.ensures in
          let all : c.args.theirs.now ≡ note_by base ours = λ j. record { key = key j; name = name j; found = found j } in
          ap (λ (x : Note). Some x) all ∙ sym (nth_note base c.args.ours.now c.args.i ours c.in-Some.ensures)),
      λ e. c.is_same.ensures.1 (ap (λ (y : Note). y.found) (same_parts base c.args.ours.now c.args.i ours c.args.theirs.now c.in-Some.ensures e) ∙ sym c.record_seen-record.ensures),
    )
