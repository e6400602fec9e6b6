-- The programs that ask for one record after the other give, over a whole map, just what the message
-- does to that map.
use Rattle.std.specs.Prelude.{◌≡◌, ℕ, Bool, List, Option}
use Rattle.circ_policy.specs.Terms.{Terms}
use Rattle.sip_answer.specs.declared.deed.Deed.{Deed}
use Rattle.sip_reader.specs.declared.request.Checkin.{Checkin}
use Rattle.sip_reader.specs.declared.request.FeePaid.{FeePaid}
use Rattle.sip_reader.specs.declared.request.HoldRequest.{HoldRequest}
use Rattle.sip_reader.specs.declared.request.ItemStatus.{ItemStatus}
use Rattle.sip_reader.specs.declared.request.Reading.{Reading}
use Rattle.sip_reader.specs.declared.request.Renew.{Renew}
use Rattle.sip_reader.specs.declared.request.RenewAll.{RenewAll}
use Rattle.read_set.specs.Asks.{over}
use Rattle.read_set.specs.Blocks.{block_rule}
use Rattle.read_set.specs.Checkins.{checkin_rule}
use Rattle.read_set.specs.Checkouts.{checkout_rule_for}
use Rattle.read_set.specs.Holds.{hold_rule}
use Rattle.read_set.specs.ItemStatuses.{item_status_rule}
use Rattle.read_set.specs.Maps.{Map}
use Rattle.read_set.specs.Meaning.{effect, rule}
use Rattle.read_set.specs.Payments.{fee_paid_rule}
use Rattle.read_set.specs.RenewAlls.{renew_all_rule}
use Rattle.read_set.specs.Renewals.{renew_rule}
use Rattle.read_set.specs.WholeMap.{block, checkin, checkout_for, fee_paid, hold, item_status, renew, renew_all}
use Rattle.read_set.specs.declared.verdict.LoanRequest.{LoanRequest}

pub record AskingGivesTheRules : Type 0 where
  pub blocks : (p : Terms) (sets : Bool) (id date : List ℕ) (M : Map) → over M (block_rule p sets id date) ≡ block p sets id date M
  pub checkins : (p : Terms) (n : ℕ) (q : Checkin) (date : List ℕ) (M : Map) → over M (checkin_rule p n q date) ≡ checkin p n q date M
  pub checkouts : (p : Terms) (n : ℕ) (renewal : Bool) (a : LoanRequest) (date : List ℕ) (M : Map)
      → over M (checkout_rule_for p n renewal a date) ≡ checkout_for p n renewal a date M
  pub holds : (p : Terms) (forced : Bool) (q : HoldRequest) (date : List ℕ) (M : Map) → over M (hold_rule p forced q date) ≡ hold p forced q date M
  pub item_statuses : (p : Terms) (q : ItemStatus) (date : List ℕ) (M : Map) → over M (item_status_rule p q date) ≡ item_status p q date M
  pub payments : (p : Terms) (q : FeePaid) (date : List ℕ) (M : Map) → over M (fee_paid_rule p q date) ≡ fee_paid p q date M
  pub renewals : (p : Terms) (n : ℕ) (q : Renew) (date : List ℕ) (M : Map) → over M (renew_rule p n q date) ≡ renew p n q date M
  pub renewals_of_all : (p : Terms) (n : ℕ) (named : Option (List (List ℕ))) (q : RenewAll) (date : List ℕ) (M : Map)
      → over M (renew_all_rule p n named q date) ≡ renew_all p n named q date M

-- so of each line
abbrev pub LinesGiveTheRules : Type 0
LinesGiveTheRules = (p : Terms) (n : ℕ) (r : Reading) (o : Option Deed) (M : Map) → over M (rule p n r o) ≡ effect p n r o M
