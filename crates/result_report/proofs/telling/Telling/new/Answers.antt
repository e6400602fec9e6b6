use Rattle.std.proofs.Common.{ℕ, List, [], subst}
use Rattle.result_report.specs.Listings.{Lists}
use Rattle.result_report.proofs.telling.Telling.new.Goals as goal

pub returns : goal.returns
returns c = record {
  answers = subst (λ (h : List (List ℕ)). Lists h [] c.in_ok-under.field-0) c.header.ensures c.in_ok-under.ensures;
  report = subst (λ (h : List (List ℕ)). Lists h [] c.in_ok-under-2.field-0) c.header-2.ensures c.in_ok-under-2.ensures;
  passed = subst (λ (h : List (List ℕ)). Lists h [] c.in_ok-under-3.field-0) c.header-3.ensures c.in_ok-under-3.ensures;
}
