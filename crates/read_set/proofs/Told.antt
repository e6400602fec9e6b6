-- What is carried out as a response says keeps records coherent.
use Rattle.std.proofs.Common.{◌≡◌, ◌≤◌, ◌+◌, ℕ, List, Bool, true, false, cond, Option, Some, None, subst, sym, arith}
use Rattle.std.specs.Prelude.{IfSome}
use Rattle.circ_policy.specs.Terms.{Terms}
use Rattle.sip_answer.specs.Deeds.{FitsDeed}
use Rattle.sip_answer.specs.declared.deed.Deed.{Deed}
use Rattle.sip_answer.specs.declared.deed.Deed.TheVariants as deeds
use Rattle.sip_answer.specs.declared.deed.ToldLoan.{ToldLoan}
use Rattle.sip_reader.specs.Dates.{is_stamp}
use Rattle.sip_reader.specs.declared.request.Act.{Act}
use Rattle.sip_reader.specs.declared.request.Act.TheVariants as acts
use Rattle.read_set.specs.AsRecorded.{agrees_with, answering, carried, day_told, done_told, followed, loan_told, price_told, renewals_told, as_told}
use Rattle.read_set.specs.Asks.{Give, over}
use Rattle.sip_reader.specs.Days.{IsDay}
use Rattle.read_set.specs.Coherence.{FitsAct}
use Rattle.read_set.specs.Loans.{by_checkout, by_renew}
use Rattle.read_set.specs.Maps.{Map, put}
use Rattle.read_set.specs.declared.effect.Effect.{Effect}
use Rattle.read_set.specs.declared.verdict.LoanRequest.{LoanRequest}
use Rattle.read_set.proofs.Following.{over_either, over_then}
use Rattle.read_set.proofs.Lent.{checkout-for-keeps, fits-checkout}
use Rattle.read_set.proofs.Line.{FitsAsked, Line}
use Rattle.read_set.proofs.RenewedAll.{renew-all-keeps}
use Rattle.read_set.proofs.SimpleKinds.{hold-keeps, nothing}
use Rattle.read_set.proofs.States.{Parts}

told-fits : (a : LoanRequest) (t : ToldLoan) → FitsAsked a → FitsDeed (deeds.Lent t) → FitsAsked (as_told a t)
told-fits a t asked fits = (day t.due fits.0, price t.fee fits.1)
  where
    own : (b : Bool) (o : Option ℕ) → IfSome o IsDay → IfSome (cond b o None) IsDay
    own true o f = f
    own false o f = tt

    day : (o : Option ℕ) → IfSome o IsDay → IfSome (day_told a o) IsDay
    day (Some d) f = f
    day None f = own a.forced a.given asked.0

    agreed : (b : Bool) (o : Option ℕ) → IfSome o (λ x. x ≤ 99999999999) → IfSome (cond b o (Some 0)) (λ x. x ≤ 99999999999)
    agreed true o f = f
    agreed false o f = omega arith

    price : (o : Option ℕ) → IfSome o (λ x. x ≤ 99999999999) → IfSome (price_told a o) (λ x. x ≤ 99999999999)
    price (Some x) f = f
    price None f = agreed a.agreed a.price asked.1

module _ (p : Terms) (n : ℕ) (M : Map) (line : Line p n M) (date : List ℕ) (stamp : is_stamp date ≡ true) where
  loan-told-keeps : (act : Act) (t : ToldLoan) → FitsAct act → FitsDeed (deeds.Lent t) → Parts p (n + 1) M (put (over M (loan_told p n date act t)).writes M)
  unfolding loan_told
  loan-told-keeps (acts.Checkout q) t fits told = checkout-for-keeps p n M line t.renewal (as_told (by_checkout q) t) date stamp (told-fits (by_checkout q) t (fits-checkout q fits) told)
  loan-told-keeps (acts.Renew q) t fits told = checkout-for-keeps p n M line true (as_told (by_renew q) t) date stamp (told-fits (by_renew q) t (fits, tt) told)
  loan-told-keeps (acts.BlockPatron q) t fits told = nothing p (n + 1) M line.parts
  loan-told-keeps (acts.Checkin q) t fits told = nothing p (n + 1) M line.parts
  loan-told-keeps (acts.Hold q) t fits told = nothing p (n + 1) M line.parts
  loan-told-keeps (acts.ItemStatus q) t fits told = nothing p (n + 1) M line.parts
  loan-told-keeps (acts.PatronEnable q) t fits told = nothing p (n + 1) M line.parts
  loan-told-keeps (acts.FeePaid q) t fits told = nothing p (n + 1) M line.parts
  loan-told-keeps (acts.RenewAll q) t fits told = nothing p (n + 1) M line.parts

  done-told-keeps : (act : Act) → FitsAct act → Parts p (n + 1) M (put (over M (done_told p date act)).writes M)
  unfolding done_told
  done-told-keeps (acts.Hold q) fits = hold-keeps p (n + 1) true q date M line.parts fits
  done-told-keeps (acts.BlockPatron q) fits = nothing p (n + 1) M line.parts
  done-told-keeps (acts.Checkin q) fits = nothing p (n + 1) M line.parts
  done-told-keeps (acts.Checkout q) fits = nothing p (n + 1) M line.parts
  done-told-keeps (acts.ItemStatus q) fits = nothing p (n + 1) M line.parts
  done-told-keeps (acts.PatronEnable q) fits = nothing p (n + 1) M line.parts
  done-told-keeps (acts.Renew q) fits = nothing p (n + 1) M line.parts
  done-told-keeps (acts.FeePaid q) fits = nothing p (n + 1) M line.parts
  done-told-keeps (acts.RenewAll q) fits = nothing p (n + 1) M line.parts

  renewals-told-keeps : (act : Act) (named : List (List ℕ)) → Parts p (n + 1) M (put (over M (renewals_told p n date act named)).writes M)
  unfolding renewals_told
  renewals-told-keeps (acts.RenewAll q) named = renew-all-keeps p n M line (Some named) q date stamp
  renewals-told-keeps (acts.BlockPatron q) named = nothing p (n + 1) M line.parts
  renewals-told-keeps (acts.Checkin q) named = nothing p (n + 1) M line.parts
  renewals-told-keeps (acts.Checkout q) named = nothing p (n + 1) M line.parts
  renewals-told-keeps (acts.Hold q) named = nothing p (n + 1) M line.parts
  renewals-told-keeps (acts.ItemStatus q) named = nothing p (n + 1) M line.parts
  renewals-told-keeps (acts.PatronEnable q) named = nothing p (n + 1) M line.parts
  renewals-told-keeps (acts.Renew q) named = nothing p (n + 1) M line.parts
  renewals-told-keeps (acts.FeePaid q) named = nothing p (n + 1) M line.parts

  carried-keeps : (act : Act) (o : Deed) → FitsAct act → FitsDeed o → Parts p (n + 1) M (put (over M (carried p n date act o)).writes M)
  unfolding carried
  carried-keeps act deeds.NotTaken fits told = nothing p (n + 1) M line.parts
  carried-keeps act (deeds.Said true) fits told = done-told-keeps act fits
  carried-keeps act (deeds.Said false) fits told = nothing p (n + 1) M line.parts
  carried-keeps act deeds.Refused fits told = nothing p (n + 1) M line.parts
  carried-keeps act (deeds.Lent t) fits told = loan-told-keeps act t fits told
  carried-keeps act (deeds.Renewed named) fits told = renewals-told-keeps act named

  pub followed-keeps : (act : Act) (o : Deed) (ruled : Effect) → FitsAct act → FitsDeed o → Parts p (n + 1) M (put ruled.writes M)
      → Parts p (n + 1) M (put (over M (followed p n date act o ruled)).writes M)
  unfolding followed
  followed-keeps act o ruled fits told kept =
      over_either M (agrees_with ruled.answer o) (Give ruled) _ (λ (x : Effect). Parts p (n + 1) M (put x.writes M)) (λ t. kept)
      (λ t. subst (λ (x : Effect). Parts p (n + 1) M (put x.writes M)) (sym (over_then M (carried p n date act o) (λ done. Give (answering ruled.answer done)))) (carried-keeps act o fits told))
