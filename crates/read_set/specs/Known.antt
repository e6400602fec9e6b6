-- Which records count (circulation rules, records of any moment): one of another kind than its key's counts as none;
-- an item whose media type the policy lacks, and a patron whose class it lacks, count as unknown.
use Rattle.std.specs.Prelude.{ℕ, List, Option, Some, None, option_map}
use Rattle.circ_policy.specs.Policy.{class_of, media_of}
use Rattle.circ_policy.specs.Terms.{Terms}
use Rattle.circ_policy.specs.declared.class.Class.{Class}
use Rattle.circ_policy.specs.declared.media.Media.{Media}
use Rattle.circ_records.specs.declared.key.Key.TheVariants as keys
use Rattle.circ_records.specs.declared.record.Record.{Record}
use Rattle.circ_records.specs.declared.record.Record.TheVariants as records
use Rattle.circ_records.specs.declared.record.Fee.{Fee}
use Rattle.circ_records.specs.declared.record.Item.{Item}
use Rattle.circ_records.specs.declared.record.Loan.{Loan}
use Rattle.circ_records.specs.declared.record.Patron.{Patron}
use Rattle.read_set.specs.Maps.{Map}
use Rattle.read_set.specs.declared.known.Article.{Article}
use Rattle.read_set.specs.declared.known.Member.{Member}

abbrev pub of_media : Item → Option Media → Option Article
of_media item media = option_map (λ m. record { item = item; media = m }) media

abbrev pub in_class : Patron → Option Class → Option Member
in_class patron class = option_map (λ c. record { patron = patron; class = c }) class

-- a record as an item with the terms of its media type
unfoldable pub as_article : Terms → Option Record → Option Article
as_article p (Some (records.Item item)) = of_media item (media_of p item.media)
as_article p _ = None

-- a record as a patron with the limits of its class
unfoldable pub as_member : Terms → Option Record → Option Member
as_member p (Some (records.Patron patron)) = in_class patron (class_of p patron.class)
as_member p _ = None

-- a record as a fee
unfoldable pub as_fee : Option Record → Option Fee
as_fee (Some (records.Fee fee)) = Some fee
as_fee _ = None

-- the item, the patron and the fee of an id, where they are known
abbrev pub item_in : Terms → Map → List ℕ → Option Article
item_in p M id = as_article p (M (keys.Item id))

abbrev pub patron_in : Terms → Map → List ℕ → Option Member
patron_in p M id = as_member p (M (keys.Patron id))

abbrev pub fee_in : Map → List ℕ → Option Fee
fee_in M id = as_fee (M (keys.Fee id))

-- the patron who has a loan, where known
abbrev pub borrower_in : Terms → Map → Option Loan → Option Member
borrower_in p M None = None
borrower_in p M (Some loan) = patron_in p M loan.patron
