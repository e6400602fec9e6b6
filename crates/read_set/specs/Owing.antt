-- Asking for what a patron owes, after the writes so far.
use Rattle.std.specs.Prelude.{ℕ, Bool, ◌+◌, List, [], ◌∷◌, Option, Some, None}
use Rattle.circ_records.specs.Records.{Entries}
use Rattle.circ_records.specs.declared.key.Key.TheVariants as keys
use Rattle.read_set.specs.Lookups.{ask_after}
use Rattle.read_set.specs.Asks.{Asks, Give, ◌>>=◌}
use Rattle.read_set.specs.Fees.{rest_of}
use Rattle.read_set.specs.Known.{as_fee}
use Rattle.read_set.specs.Rules.{owing_refusals}
use Rattle.read_set.specs.Tests.{first_or}
use Rattle.read_set.specs.declared.known.Article.{Article}
use Rattle.read_set.specs.declared.known.Member.{Member}
use Rattle.read_set.specs.declared.verdict.Verdict.{Verdict}
use Rattle.read_set.specs.declared.verdict.Verdict.TheVariants as verdicts

-- fee by fee, added to a sum
abbrev pub owed_from : Entries → ℕ → List (List ℕ) → Asks ℕ
owed_from w sum [] = Give sum
owed_from w sum (id ∷ more) = do
  found ← ask_after w (keys.Fee id)
  owed_from w (sum + rest_of (as_fee found)) more

unfoldable pub owed_at : Entries → List (List ℕ) → Asks ℕ
owed_at w fees = owed_from w 0 fees

-- the last tests of a loan and of a renewal
unfoldable pub owing_verdict : ℕ → Bool → Member → Article → Verdict
owing_verdict owes agreed member article = first_or (owing_refusals owes agreed member article) verdicts.Made

unfoldable pub owing_tests : Entries → Bool → Member → Article → Asks Verdict
owing_tests w agreed member article = do
  owes ← owed_at w member.patron.fees
  Give (owing_verdict owes agreed member article)

-- a verdict, or if there is none what is asked for after it
abbrev pub decided_or : Option Verdict → Asks Verdict → Asks Verdict
decided_or (Some verdict) after = Give verdict
decided_or None after = after
