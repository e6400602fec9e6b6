-- Identifiers of messages and layouts of requests (SIP 2.00, messages).
use Rattle.std.specs.Prelude.{ℕ, ◌+◌, ◌-◌, ◌*◌, ◌&&◌, ◌==◌, Option, Some, None, true, false, if◌then◌else◌}
use Rattle.std.specs.Char.{is_ascii_digit}
use Rattle.sip_reader.specs.Bytes as byte
use Rattle.sip_reader.specs.Dates.{stamp_len}
use Rattle.sip_reader.specs.declared.kind.Command.{Command}
use Rattle.sip_reader.specs.declared.kind.Command.TheVariants.{Request, Passed}
use Rattle.sip_reader.specs.declared.kind.FieldLayout.{FieldLayout}
use Rattle.sip_reader.specs.declared.request.Kind.{Kind}
use Rattle.sip_reader.specs.declared.request.Kind.TheVariants as kinds
use Rattle.sip_reader.specs.declared.request.Passed.TheVariants as passed

-- the requests that are read, and the messages that are passed over (the profile of this project)
unfoldable pub command_numbered : ℕ → Option Command
command_numbered n =
    if n == 1 then Some (Request kinds.BlockPatron)
    else if n == 9 then Some (Request kinds.Checkin)
    else if n == 11 then Some (Request kinds.Checkout)
    else if n == 15 then Some (Request kinds.Hold)
    else if n == 17 then Some (Passed passed.ItemInformation)
    else if n == 19 then Some (Request kinds.ItemStatus)
    else if n == 23 then Some (Passed passed.PatronStatus)
    else if n == 25 then Some (Request kinds.PatronEnable)
    else if n == 29 then Some (Request kinds.Renew)
    else if n == 35 then Some (Passed passed.EndSession)
    else if n == 37 then Some (Request kinds.FeePaid)
    else if n == 63 then Some (Passed passed.PatronInformation)
    else if n == 65 then Some (Request kinds.RenewAll)
    else if n == 93 then Some (Passed passed.Login)
    else if n == 97 then Some (Passed passed.Resend)
    else if n == 99 then Some (Passed passed.TerminalStatus)
    else None

-- an identifier is two digits
unfoldable pub command_at : ℕ → ℕ → Option Command
command_at a b = if is_ascii_digit a && is_ascii_digit b then command_numbered ((a - byte.zero) * 10 + (b - byte.zero)) else None

-- The layouts: how many flags come before the transaction date, how many bytes after it, and which variable fields the rules use.
abbrev pub layout_of : Kind → FieldLayout
layout_of kinds.BlockPatron = record { flags = 1; hold_mode = false; after = 0; patron = true; item = false; amount = false; properties = false; pickup = false; title = false }
layout_of kinds.Checkin = record { flags = 1; hold_mode = false; after = stamp_len; patron = false; item = true; amount = false; properties = false; pickup = false; title = false }
layout_of kinds.Checkout = record { flags = 2; hold_mode = false; after = stamp_len; patron = true; item = true; amount = false; properties = false; pickup = false; title = false }
layout_of kinds.Hold = record { flags = 1; hold_mode = true; after = 0; patron = true; item = true; amount = false; properties = false; pickup = true; title = true }
layout_of kinds.ItemStatus = record { flags = 0; hold_mode = false; after = 0; patron = false; item = true; amount = false; properties = true; pickup = false; title = false }
layout_of kinds.PatronEnable = record { flags = 0; hold_mode = false; after = 0; patron = true; item = false; amount = false; properties = false; pickup = false; title = false }
layout_of kinds.Renew = record { flags = 2; hold_mode = false; after = stamp_len; patron = true; item = true; amount = false; properties = false; pickup = false; title = true }
layout_of kinds.FeePaid = record { flags = 0; hold_mode = false; after = 7; patron = true; item = false; amount = true; properties = false; pickup = false; title = false }
layout_of kinds.RenewAll = record { flags = 0; hold_mode = false; after = 0; patron = true; item = false; amount = false; properties = false; pickup = false; title = false }
