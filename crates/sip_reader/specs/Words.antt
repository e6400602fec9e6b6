-- The words by which tables name a message.
use Rattle.std.specs.Prelude.{ℕ, List, codes}
use Rattle.sip_reader.specs.declared.request.Kind.{Kind}
use Rattle.sip_reader.specs.declared.request.Kind.TheVariants as kinds
use Rattle.sip_reader.specs.declared.request.Passed.{Passed}
use Rattle.sip_reader.specs.declared.request.Passed.TheVariants as passed
use Rattle.sip_reader.specs.declared.request.Why.{Why}
use Rattle.sip_reader.specs.declared.request.Why.TheVariants as why
use Rattle.sip_reader.specs.declared.request.Act.{Act}
use Rattle.sip_reader.specs.declared.request.Act.TheVariants as acts

-- the kind of request that asks an act
abbrev pub kind_of : Act → Kind
kind_of (acts.BlockPatron q) = kinds.BlockPatron
kind_of (acts.Checkin q) = kinds.Checkin
kind_of (acts.Checkout q) = kinds.Checkout
kind_of (acts.Hold q) = kinds.Hold
kind_of (acts.ItemStatus q) = kinds.ItemStatus
kind_of (acts.PatronEnable q) = kinds.PatronEnable
kind_of (acts.Renew q) = kinds.Renew
kind_of (acts.FeePaid q) = kinds.FeePaid
kind_of (acts.RenewAll q) = kinds.RenewAll

-- the identifiers of the messages that are passed over (SIP 2.00, messages), or the word of a
-- request by title
abbrev pub passed_word : Passed → List ℕ
passed_word passed.ItemInformation = codes "17"
passed_word passed.PatronStatus = codes "23"
passed_word passed.EndSession = codes "35"
passed_word passed.PatronInformation = codes "63"
passed_word passed.Login = codes "93"
passed_word passed.Resend = codes "97"
passed_word passed.TerminalStatus = codes "99"
passed_word passed.Title = codes "title"

-- the words for messages that can't be read (the profile of this project)
abbrev pub why_word : Why → List ℕ
why_word why.TooShort = codes "too_short"
why_word why.TooLong = codes "too_long"
why_word why.UnknownKind = codes "unknown_kind"
why_word why.BadDate = codes "bad_date"
why_word why.BadFlag = codes "bad_flag"
why_word why.BadField = codes "bad_field"
why_word why.MissingField = codes "missing_field"
why_word why.BadAmount = codes "bad_amount"
