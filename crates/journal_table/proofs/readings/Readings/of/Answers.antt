use Rattle.std.proofs.Common.{◌≡◌, List, length, ap, subst, sym, ◌∙◌, unwrap_or}
use Rattle.std.specs.List.{AllByRecursion}
use Rattle.std.proofs.lemmas.List.{length-map}
use Rattle.sip_reader.specs.Reading.{reading}
use Rattle.sip_reader.specs.declared.request.Reading.{Reading}
use Rattle.journal_table.specs.Entry.{Entry, first_number}
use Rattle.journal_table.specs.Readings.{IsRead}
use Rattle.journal_table.proofs.Ends.{ends-from-none}
use Rattle.journal_table.proofs.Rising.{numbered-lines, requests-read}
use Rattle.journal_table.proofs.readings.Readings.of.Goals as goal

pub invariant_of-result : goal.invariant_of-result
invariant_of-result c =
    let first : c.unwrap_or.result ≡ unwrap_or (first_number c.args.journal.now) 0 = rw c.first.ensures at c.unwrap_or.ensures in
    record {
      full = c.requires.full;
      count = ap length c.requires.whole ∙ length-map c.args.journal.now (λ (line : Entry). reading line.request) ∙ ap length (sym c.lines.ensures.lines);
      read = subst (λ (l : List Reading). AllByRecursion IsRead l) (sym c.requires.whole) (requests-read c.args.journal.now);
      few = rw c.lines.ensures.lines c.lines.ensures.few;
      within = rw (first, c.lines.ensures.lines) (ends-from-none c.args.journal.now c.lines.ensures.within);
    }

pub returns : goal.returns
returns c =
    let first : c.unwrap_or.result ≡ unwrap_or (first_number c.args.journal.now) 0 = rw c.first.ensures at c.unwrap_or.ensures in
    rw (first, c.requires.whole) (numbered-lines c.args.journal.now c.lines.ensures.numbered)
