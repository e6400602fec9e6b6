use Rattle.record_tables.proofs.table_texts.PatronTexts.new.Goals as goal

pub returns : goal.returns
returns c = λ all. record {
  patrons = c.in_ok-under.ensures;
  loans = c.in_ok-under-2.ensures;
  fees = c.in_ok-under-3.ensures;
  closed = c.in_ok-under-4.ensures;
}
