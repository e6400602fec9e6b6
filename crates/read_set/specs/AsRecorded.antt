-- As recorded: the records follow what a recorded response says was done, and the answer stays the
-- rule's on the records before. "No block" (SIP 2.00) says that a transaction was done off line and
-- is not to be refused, and the nb due date is the day that was given then: so what a response says
-- is carried out by the same rules, forced.
use Rattle.std.specs.Prelude.{ℕ, Bool, true, false, List, Option, Some, None, if◌then◌else◌}
use Rattle.circ_policy.specs.Terms.{Terms}
use Rattle.sip_answer.specs.Deeds.{agrees}
use Rattle.sip_answer.specs.declared.answer.Answer.{Answer}
use Rattle.sip_answer.specs.declared.deed.Deed.{Deed}
use Rattle.sip_answer.specs.declared.deed.Deed.TheVariants as deeds
use Rattle.sip_answer.specs.declared.deed.ToldLoan.{ToldLoan}
use Rattle.sip_reader.specs.declared.request.Act.{Act}
use Rattle.sip_reader.specs.declared.request.Act.TheVariants as acts
use Rattle.read_set.specs.Asks.{Asks, Give, ◌>>=◌}
use Rattle.read_set.specs.Checkouts.{checkout_rule_for}
use Rattle.read_set.specs.Effects.{unwritten}
use Rattle.read_set.specs.Holds.{hold_rule}
use Rattle.read_set.specs.Loans.{by_checkout, by_renew}
use Rattle.read_set.specs.RenewAlls.{renew_all_rule}
use Rattle.read_set.specs.declared.effect.Effect.{Effect}
use Rattle.read_set.specs.declared.verdict.LoanRequest.{LoanRequest}

-- the day that the response names; if none, the request's, if the request itself was forced
abbrev pub day_told : LoanRequest → Option ℕ → Option ℕ
day_told a (Some day) = Some day
day_told a None = if a.forced then a.given else None

-- the fee that it names, 0 being nothing; if none, the rental for one who agreed to it. So nobody is
-- charged what nobody named and nobody agreed to.
abbrev pub price_told : LoanRequest → Option ℕ → Option ℕ
price_told a (Some fee) = Some fee
price_told a None = if a.agreed then a.price else Some 0

-- a loan or a renewal as a response says it was made: it isn't refused
abbrev pub as_told : LoanRequest → ToldLoan → LoanRequest
as_told a t = record a { forced = true; given = day_told a t.due; price = price_told a t.fee }

-- A checkout or a renewal (message 29) that was made, as a response says. One's own loan is renewed,
-- and that of another if a third party is allowed; what isn't on loan to the asker is lent to the
-- asker: so a renewal is as a checkout that may renew.
unfoldable pub loan_told : Terms → ℕ → List ℕ → Act → ToldLoan → Asks Effect
loan_told p n date (acts.Checkout q) t = checkout_rule_for p n t.renewal (as_told (by_checkout q) t) date
loan_told p n date (acts.Renew q) t = checkout_rule_for p n true (as_told (by_renew q) t) date
loan_told p n date act t = Give (unwritten None)

-- a hold that was done, as a response says: that the patron is blocked doesn't count. Of the other
-- requests there is nothing to do that their rule hasn't done
unfoldable pub done_told : Terms → List ℕ → Act → Asks Effect
done_told p date (acts.Hold q) = hold_rule p true q date
done_told p date act = Give (unwritten None)

-- a renewal of all items that names what was renewed
unfoldable pub renewals_told : Terms → ℕ → List ℕ → Act → List (List ℕ) → Asks Effect
renewals_told p n date (acts.RenewAll q) named = renew_all_rule p n (Some named) q date
renewals_told p n date act named = Give (unwritten None)

-- What is carried out if the rule's answer doesn't agree with the deed: nothing if nothing was done.
unfoldable pub carried : Terms → ℕ → List ℕ → Act → Deed → Asks Effect
carried p n date act deeds.NotTaken = Give (unwritten None)
carried p n date act (deeds.Said false) = Give (unwritten None)
carried p n date act (deeds.Said true) = done_told p date act
carried p n date act deeds.Refused = Give (unwritten None)
carried p n date act (deeds.Lent t) = loan_told p n date act t
carried p n date act (deeds.Renewed named) = renewals_told p n date act named

-- whether the rule's answer agrees with a deed
abbrev pub agrees_with : Option Answer → Deed → Bool
agrees_with None o = false
agrees_with (Some answer) o = agrees answer o

-- what is written is what was carried out, and what is answered stays the rule's answer
abbrev pub answering : Option Answer → Effect → Effect
answering answer done = record { writes = done.writes; answer = answer }

-- if the rule's answer agrees with the deed, the rule's own writes count
unfoldable pub followed : Terms → ℕ → List ℕ → Act → Deed → Effect → Asks Effect
followed p n date act o ruled = if agrees_with ruled.answer o then Give ruled else do
  done ← carried p n date act o
  Give (answering ruled.answer done)
