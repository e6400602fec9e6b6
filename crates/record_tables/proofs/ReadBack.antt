-- What is written of a value is read back.
use Rattle.std.proofs.Common.{◌≡◌, ◌∙◌, ◌≤◌, ◌<◌, ◌+◌, ◌-◌, ◌*◌, ◌/◌, ◌%◌, ◌^◌, ℕ, zero, suc, Bool, true, false, leb, length, get_or, Some, refl, ap, arith}
use Rattle.std.specs.Prelude.{decimal, nat_le, unwrap_or, ◌&&◌}
use Rattle.std.specs.Char.{is_ascii_digit}
use Rattle.std.specs.Int.{IsInRange}
use Rattle.std.proofs.lemmas.Bool.{and_from, le-leb, ne_eqb}
use Rattle.std.proofs.lemmas.Fmt.{decimal_digit, decimal_is_IsNumeral, first_decimal, length-decimal-le}
use Rattle.circ_policy.specs.Medias.{media_code, media_of_code}
use Rattle.circ_policy.specs.declared.media_type.MediaType.{MediaType}
use Rattle.circ_policy.specs.declared.media_type.MediaType.TheVariants as media
use Rattle.sip_reader.specs.Amounts.{amount_text}
use Rattle.sip_reader.specs.Days.{day_at}
use Rattle.sip_reader.proofs.AmountTexts.{amount_of-amount_text, digits_all}
use Rattle.sip_reader.proofs.Real.{day_at-facts}
use Rattle.sip_reader.proofs.Written.{year_is, month_is, day_is}
use Rattle.circ_records.specs.FeeTypes.{fee_type_code, fee_type_of}
use Rattle.record_tables.specs.RowTexts.{date_text, day_text, flag_text}
use Rattle.circ_records.specs.Texts.{decimal_of, has_leading_zero, is_decimal}
use Rattle.record_tables.specs.Values.{due_of, flag_of, hundredths, is_date, renewals_of}
use Rattle.circ_records.specs.declared.record.FeeType.{FeeType}
use Rattle.circ_records.specs.declared.record.FeeType.TheVariants as kind
use Rattle.record_tables.proofs.Calendar.{parts_fit}

pub flag-back : (b : Bool) → flag_of (flag_text b) ≡ Some b
unfolding flag_of
flag-back true = refl
flag-back false = refl

pub media-back : (m : MediaType) → media_of_code (media_code m) ≡ Some m
unfolding media_of_code
media-back media.Other = refl
media-back media.Book = refl
media-back media.Magazine = refl
media-back media.BoundJournal = refl
media-back media.AudioTape = refl
media-back media.VideoTape = refl
media-back media.Cd = refl
media-back media.Diskette = refl
media-back media.BookWithDiskette = refl
media-back media.BookWithCd = refl
media-back media.BookWithTape = refl

pub kind-back : (k : FeeType) → fee_type_of (fee_type_code k) ≡ Some k
unfolding fee_type_of
kind-back kind.Other = refl
kind-back kind.Administrative = refl
kind-back kind.Damage = refl
kind-back kind.Overdue = refl
kind-back kind.Processing = refl
kind-back kind.Rental = refl
kind-back kind.Replacement = refl
kind-back kind.ComputerAccess = refl
kind-back kind.HoldFee = refl

pub hundredths-back : (n : ℕ) → n ≤ 99_999_999_999 → hundredths (amount_text n) ≡ n
hundredths-back n most = ap (λ o. unwrap_or o 0) (amount_of-amount_text n most)

pub and-false : (b : Bool) → (b && false) ≡ false
and-false true = refl
and-false false = refl

-- no number is written with a zero in front of others
no-leading-zero : (n : ℕ) → n < 2 ^ 64 → has_leading_zero (decimal n) ≡ false
no-leading-zero zero small = rw (decimal_digit 0 (omega arith)) refl
no-leading-zero (suc n) small =
    let high = first_decimal (suc n) (omega arith) small in
    ap (λ b. nat_le 2 (length (decimal (suc n))) && b) (ne_eqb (get_or (decimal (suc n)) 0 0) 48 (λ is. absurd (omega (arith, high, is)))) ∙ and-false (nat_le 2 (length (decimal (suc n))))

pub renewals-back : (n : ℕ) → n ≤ 4_294_967_295 → renewals_of (decimal n) ≡ Some n
unfolding renewals_of decimal_of is_decimal
renewals-back n most =
    let numeral = decimal_is_IsNumeral n (omega (arith, most)) in
    let short = length-decimal-le 10 n (omega arith) (omega (arith, most)) (omega (arith, most)) in
    rw (le-leb 1 (length (decimal n)) numeral.0.0, le-leb (length (decimal n)) 10 short, digits_all (decimal n) numeral.0.1, no-leading-zero n (omega (arith, most)), numeral.1, le-leb n 4_294_967_295 most) refl

is_digit : (c : ℕ) → IsInRange 48 57 c → is_ascii_digit c ≡ true
is_digit c h = and_from (leb 48 c) (leb c 57) (le-leb 48 c h.0) (le-leb c 57 h.1)

date-back : (y m d : ℕ) → y < 10000 → m < 100 → d < 100 → due_of (date_text y m d) ≡ day_at y m d
unfolding due_of is_date
date-back y m d hy hm hd =
    let year : ((48 + y / 1000 - 48) * 10 + (48 + y / 100 % 10 - 48)) * 100 + ((48 + y / 10 % 10 - 48) * 10 + (48 + y % 10 - 48)) ≡ y = omega arith in
    let month : (48 + m / 10 - 48) * 10 + (48 + m % 10 - 48) ≡ m = omega arith in
    let day : (48 + d / 10 - 48) * 10 + (48 + d % 10 - 48) ≡ d = omega arith in
    rw (
      is_digit (48 + y / 1000) (omega arith, omega arith),
      is_digit (48 + y / 100 % 10) (omega arith, omega arith),
      is_digit (48 + y / 10 % 10) (omega arith, omega arith),
      is_digit (48 + y % 10) (omega arith, omega arith),
      is_digit (48 + m / 10) (omega arith, omega arith),
      is_digit (48 + m % 10) (omega arith, omega arith),
      is_digit (48 + d / 10) (omega arith, omega arith),
      is_digit (48 + d % 10) (omega arith, omega arith),
      year,
      month,
      day,
    ) refl

pub due-back : (n y m d : ℕ) → day_at y m d ≡ Some n → due_of (day_text n) ≡ Some n
unfolding day_text
due-back n y m d is =
    let (real, number) = day_at-facts n y m d is in
    let fit = parts_fit n y m d is in
    rw (year_is n y m d real number, month_is n y m d real number, day_is n y m d real number) (date-back y m d fit.0 fit.1 fit.2 ∙ is)
