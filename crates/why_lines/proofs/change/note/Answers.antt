use Rattle.std.proofs.Common.{◌≡◌, ◌∙◌, Some, cond, rules, sym, ap}
use Rattle.std.specs.Prelude.{option_copied}
use Rattle.std.specs.Ordering.{eq_by_cmp}
use Rattle.std.proofs.lemmas.Bool.{false≢true}
use Rattle.circ_records.specs.Keys.{key_cmp}
use Rattle.circ_records.specs.Records.{record_at}
use Rattle.circ_records.specs.declared.key.Key.{Key}
use Rattle.why_lines.specs.Changes.{IsChange, change_at}
use Rattle.why_lines.specs.declared.change.Change.{Change}
use Rattle.why_lines.proofs.Noting.{Adds, still, noted_more, noted_there}
use Rattle.why_lines.proofs.change.note.Goals as goal

pub returns : goal.returns
returns c =
    let before = c.args.before.now in
    let after = c.args.after.now in
    let key : Key = c.args.key.now in
    let old = c.args.changes.now.entries in
    let new = c.insert.new.self.entries in
    let was : option_copied c.get-was.result ≡ record_at before key = search rules in
    let is : option_copied c.get-is.result ≡ record_at after key = search rules in
    let change : Change = record { before = c.in_ok-copy.field-0; after = c.in_ok-copy-2.field-0 } in
    let real : IsChange before after key (Some change) = (
      c.in_ok-copy.ensures ∙ was,
      c.in_ok-copy-2.ensures ∙ is,
      λ e. false≢true (sym c.if-is_same.false ∙ c.is_same.ensures.1 (sym c.in_ok-copy.ensures ∙ e ∙ c.in_ok-copy-2.ensures)),
    ) in
    let adds : Adds old new key change = λ k. c.in_ok-insert.ensures.updates.0 k ∙ ap (λ (j : Key). cond (eq_by_cmp key_cmp j k) (Some change) (change_at old k)) c.in_ok-clone.ensures.cases in
    record {
      noted = noted_more before after old new key change adds real c.requires;
      keeps = λ k h. still before after old new key change k adds real h;
      there = noted_there before after old new key change adds real;
    }
