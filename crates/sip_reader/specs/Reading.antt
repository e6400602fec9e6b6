-- The reading of a message. Each test is a predicate on the whole message, and the first that fails
-- decides.
use Rattle.std.specs.Prelude.{ℕ, Bool, ◌&&◌, ◌||◌, ◌==◌, not, nat_lt, ◌+◌, ◌-◌, List, [], length, take, drop, slice_index, slice_range, Option, Some, None, unwrap_or, if◌then◌else◌, false}
use Rattle.std.specs.List.{list_any, list_all, suffix_len}
use Rattle.std.specs.Option.{option_and_then, is_none}
use Rattle.sip_reader.specs.Amounts.{amount_of}
use Rattle.sip_reader.specs.Bytes as byte
use Rattle.sip_reader.specs.Dates.{given_day, is_stamp, stamp_len}
use Rattle.sip_reader.specs.Fields.{Texts, texts, pieces}
use Rattle.sip_reader.specs.Kinds.{command_at, layout_of}
use Rattle.sip_reader.specs.Sum.{has_trailer, has_right_sum, body, sequence}
use Rattle.sip_reader.specs.Texts.{is_id, is_line_end}
use Rattle.sip_reader.specs.declared.id.TheConstants.{ID_MAX}
use Rattle.sip_reader.specs.declared.kind.Command.{Command}
use Rattle.sip_reader.specs.declared.kind.Command.TheVariants as commands
use Rattle.sip_reader.specs.declared.kind.FieldLayout.{FieldLayout}
use Rattle.sip_reader.specs.declared.read.TheConstants.{MESSAGE_MAX}
use Rattle.sip_reader.specs.declared.request.Act.{Act}
use Rattle.sip_reader.specs.declared.request.Act.TheVariants as acts
use Rattle.sip_reader.specs.declared.request.HoldMode.{HoldMode}
use Rattle.sip_reader.specs.declared.request.HoldMode.TheVariants as modes
use Rattle.sip_reader.specs.declared.request.Kind.{Kind}
use Rattle.sip_reader.specs.declared.request.Kind.TheVariants as kinds
use Rattle.sip_reader.specs.declared.request.Passed.TheVariants as passed
use Rattle.sip_reader.specs.declared.request.Reading.{Reading}
use Rattle.sip_reader.specs.declared.request.Reading.TheVariants.{Asked, Passed, BadSum, Unread}
use Rattle.sip_reader.specs.declared.request.Why.TheVariants as why
use Rattle.sip_reader.specs.declared.text.TheConstants.{TEXT_MAX}

-- a message without the CR and LF bytes at its end
unfoldable pub trimmed : List ℕ → List ℕ
trimmed m = take (length m - suffix_len is_line_end m) m

-- Of a message with this layout: its flags, its transaction date, the length of its fixed part, and
-- what follows that.
abbrev pub flags_at : FieldLayout → List ℕ → List ℕ
flags_at l m = slice_range m 2 (2 + l.flags)

abbrev pub date_at : FieldLayout → List ℕ → List ℕ
date_at l m = slice_range m (2 + l.flags) (2 + l.flags + stamp_len)

abbrev pub fixed_len : FieldLayout → ℕ
fixed_len l = 2 + l.flags + stamp_len + l.after

abbrev pub rest_after : FieldLayout → List ℕ → List ℕ
rest_after l m = drop (fixed_len l) m

-- a flag is Y or N, a hold mode + or - or * (SIP 2.00, fixed-length fields)
abbrev pub is_yes_or_no : ℕ → Bool
is_yes_or_no b = (b == byte.Y) || (b == byte.N)

abbrev pub is_hold_mode : ℕ → Bool
is_hold_mode b = (b == byte.plus) || ((b == byte.hyphen) || (b == byte.star))

unfoldable pub has_bad_flag : FieldLayout → List ℕ → Bool
has_bad_flag l flags =
    not (if l.hold_mode then list_all is_hold_mode flags else list_all is_yes_or_no flags)

-- a text of more bytes than these
abbrev pub is_longer : ℕ → Option (List ℕ) → Bool
is_longer most text = nat_lt most (length (unwrap_or text []))

-- a text that is missing or empty
abbrev pub is_blank : Option (List ℕ) → Bool
is_blank text = length (unwrap_or text []) == 0

-- a CR or LF, a piece of one byte, or a field that is used and too long
unfoldable pub has_bad_field : FieldLayout → List ℕ → Texts → Bool
has_bad_field l rest t =
    (list_any is_line_end rest || t.short)
    || (((l.patron && is_longer ID_MAX t.patron) || (l.item && is_longer ID_MAX t.item))
    || ((l.properties && is_longer TEXT_MAX t.properties) || (l.pickup && is_longer TEXT_MAX t.pickup)))

-- a title where the item's id should be
unfoldable pub names_title : FieldLayout → Texts → Bool
names_title l t = l.title && (is_blank t.item && not (is_blank t.title))

-- a required id that is missing or empty, or a required amount that is missing
unfoldable pub lacks_field : FieldLayout → Texts → Bool
lacks_field l t = (l.patron && is_blank t.patron) || ((l.item && is_blank t.item) || (l.amount && is_none t.amount))

-- a required amount that isn't one
unfoldable pub has_bad_amount : FieldLayout → Texts → Bool
has_bad_amount l t = l.amount && is_none (option_and_then amount_of t.amount)

-- a yes is Y, all else no (the profile of this project)
abbrev pub says_yes : Option (List ℕ) → Bool
says_yes None = false
says_yes (Some text) = (length text == 1) && (slice_index text 0 == byte.Y)

-- a fee identifier of 0 or more than 64 bytes counts as none (the profile of this project)
abbrev pub given_id : Option (List ℕ) → Option (List ℕ)
given_id text = option_and_then (λ bytes. if is_id bytes then Some bytes else None) text

abbrev pub mode_of : ℕ → HoldMode
mode_of b =
    if b == byte.plus then modes.Add else if b == byte.hyphen then modes.Delete else modes.Change

-- Of a fixed part (SIP 2.00, messages): the two flags that may come after the identifier; the
-- return date of a checkin, after one flag and the transaction date; the nb due date of a checkout
-- and a renewal, after two flags and that date; the currency of a payment, after that date, the fee
-- type and the payment type.
abbrev pub first_flag : List ℕ → ℕ
first_flag m = slice_index m 2

abbrev pub second_flag : List ℕ → ℕ
second_flag m = slice_index m 3

abbrev pub return_date : List ℕ → List ℕ
return_date m = slice_range m 21 39

abbrev pub nb_due_date : List ℕ → List ℕ
nb_due_date m = slice_range m 22 40

abbrev pub currency_at : List ℕ → List ℕ
currency_at m = slice_range m 24 27

-- what is asked, by the fixed part and the fields (SIP 2.00, messages)
abbrev pub act_of : Kind → List ℕ → Texts → Act
act_of kinds.BlockPatron m t = acts.BlockPatron (record { patron = unwrap_or t.patron [] })
act_of kinds.Checkin m t = acts.Checkin (record {
  back = given_day (return_date m);
  item = unwrap_or t.item [];
  cancel = says_yes t.cancel;
})
act_of kinds.Checkout m t = acts.Checkout (record {
  renewal = first_flag m == byte.Y;
  no_block = second_flag m == byte.Y;
  due = given_day (nb_due_date m);
  patron = unwrap_or t.patron [];
  item = unwrap_or t.item [];
  cancel = says_yes t.cancel;
  agreed = says_yes t.agreed;
})
act_of kinds.Hold m t = acts.Hold (record {
  mode = mode_of (first_flag m);
  patron = unwrap_or t.patron [];
  item = unwrap_or t.item [];
  pickup = unwrap_or t.pickup [];
})
act_of kinds.ItemStatus m t =
    acts.ItemStatus (record { item = unwrap_or t.item []; properties = t.properties })
act_of kinds.PatronEnable m t = acts.PatronEnable (record { patron = unwrap_or t.patron [] })
act_of kinds.Renew m t = acts.Renew (record {
  third_party = first_flag m == byte.Y;
  no_block = second_flag m == byte.Y;
  due = given_day (nb_due_date m);
  patron = unwrap_or t.patron [];
  item = unwrap_or t.item [];
  agreed = says_yes t.agreed;
})
act_of kinds.FeePaid m t = acts.FeePaid (record {
  patron = unwrap_or t.patron [];
  currency = currency_at m;
  amount = unwrap_or (option_and_then amount_of t.amount) 0;
  fee = given_id t.fee;
})
act_of kinds.RenewAll m t =
    acts.RenewAll (record { patron = unwrap_or t.patron []; agreed = says_yes t.agreed })

-- of a request of a kind, by its layout and its fields
unfoldable pub reading_by : Option ℕ → Kind → FieldLayout → List ℕ → Texts → Reading
reading_by s k l m t =
    if nat_lt (length m) (fixed_len l) then Unread why.TooShort
    else if not (is_stamp (date_at l m)) then Unread why.BadDate
    else if has_bad_flag l (flags_at l m) then Unread why.BadFlag
    else if has_bad_field l (rest_after l m) t then Unread why.BadField
    else if names_title l t then Passed passed.Title
    else if lacks_field l t then Unread why.MissingField
    else if has_bad_amount l t then Unread why.BadAmount
    else Asked (record { sequence = s; date = date_at l m; act = act_of k m t })

abbrev pub reading_as : Option ℕ → List ℕ → Kind → Reading
reading_as s m k = reading_by s k (layout_of k) m (texts (pieces (rest_after (layout_of k) m)))

-- of a message with this identifier
abbrev pub reading_command : Option ℕ → List ℕ → Option Command → Reading
reading_command s m None = Unread why.UnknownKind
reading_command s m (Some (commands.Passed p)) = Passed p
reading_command s m (Some (commands.Request k)) = reading_as s m k

-- of a message without its error detection
unfoldable pub reading_of : Option ℕ → List ℕ → Reading
reading_of s m =
    if nat_lt (length m) 2 then Unread why.TooShort
    else reading_command s m (command_at (slice_index m 0) (slice_index m 1))

-- of a message without the end of its line
unfoldable pub reading_trimmed : List ℕ → Reading
reading_trimmed m =
    if nat_lt MESSAGE_MAX (length m) then Unread why.TooLong
    else if has_trailer m && not (has_right_sum m) then BadSum
    else reading_of (sequence m) (body m)

-- The one reading of a message.
abbrev pub reading : List ℕ → Reading
reading message = reading_trimmed (trimmed message)
