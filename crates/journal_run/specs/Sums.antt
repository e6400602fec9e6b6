-- What is counted of pairs.
use Rattle.std.specs.Prelude.{◌-◌, ℕ, List, length}
use Rattle.log_pairs.specs.Pairs.{Said, after, answered, pairs_of, start}
use Rattle.journal_run.specs.declared.making.Making.{Making}

-- How many pairs there are, how many of them lack a response; how many responses are of no pair, and how many don't fit the request of theirs.
pub record Sums : Type 0 where
  pub exchanges : ℕ
  pub unanswered : ℕ
  pub unasked : ℕ
  pub mismatched : ℕ

abbrev pub sums_of : List Said → Sums
sums_of said = record {
  exchanges = length (pairs_of said);
  unanswered = length (pairs_of said) - answered (pairs_of said);
  unasked = (after start said).unasked;
  mismatched = (after start said).mismatched;
}

-- what was counted of a journal that is made
abbrev pub made_sums : Making → Sums
made_sums m = record { exchanges = m.exchanges; unanswered = m.unanswered; unasked = m.pairing.unasked; mismatched = m.pairing.mismatched }
