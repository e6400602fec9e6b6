-- Asking for the records of ids, and for the record at a key after the writes so far.
use Rattle.std.specs.Prelude.{ℕ, List, Option, Some, None}
use Rattle.std.specs.Option.{option_map_or}
use Rattle.circ_policy.specs.Terms.{Terms}
use Rattle.circ_records.specs.Records.{Entries, record_at}
use Rattle.circ_records.specs.declared.key.Key.{Key}
use Rattle.circ_records.specs.declared.key.Key.TheVariants as keys
use Rattle.circ_records.specs.declared.record.Fee.{Fee}
use Rattle.circ_records.specs.declared.record.Loan.{Loan}
use Rattle.circ_records.specs.declared.record.Record.{Record}
use Rattle.read_set.specs.Asks.{Asks, Ask, Give}
use Rattle.read_set.specs.Known.{as_article, as_member, as_fee}
use Rattle.read_set.specs.declared.known.Article.{Article}
use Rattle.read_set.specs.declared.known.Member.{Member}

unfoldable pub patron_at : Terms → List ℕ → Asks (Option Member)
patron_at p id = Ask (keys.Patron id) (λ r. Give (as_member p r))

unfoldable pub item_at : Terms → List ℕ → Asks (Option Article)
item_at p id = Ask (keys.Item id) (λ r. Give (as_article p r))

unfoldable pub fee_at : List ℕ → Asks (Option Fee)
fee_at id = Ask (keys.Fee id) (λ r. Give (as_fee r))

-- the patron who has a loan
unfoldable pub borrower_at : Terms → Option Loan → Asks (Option Member)
borrower_at p None = Give None
borrower_at p (Some loan) = patron_at p loan.patron

-- the record at a key after the writes so far
unfoldable pub ask_after : Entries → Key → Asks (Option Record)
ask_after writes k = option_map_or (λ r. Give (Some r)) (record_at writes k) (Ask k Give)
