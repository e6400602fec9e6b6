-- Which messages are odd: what a log damaged, or what is no message and was taken for one. The identifiers, and error detection at
-- the end of a message, are those of SIP 2.00 (messages; error detection).
use Rattle.std.specs.Prelude.{◌+◌, ◌-◌, ◌*◌, ◌&&◌, ◌||◌, ◌==◌, not, ℕ, suc, zero, Bool, true, false, nat_le, List, length, take, Option, Some, None, slice_index, codes, nat_eq, if◌then◌else◌}
use Rattle.std.specs.Char.{is_ascii_digit}
use Rattle.std.specs.List.{ends_with, starts_with}
use Rattle.sip_reader.specs.Bytes as byte
use Rattle.sip_reader.specs.Reading.{reading, trimmed}
use Rattle.sip_reader.specs.Sum.{has_trailer}
use Rattle.sip_reader.specs.declared.request.Reading.{Reading}
use Rattle.sip_reader.specs.declared.request.Reading.TheVariants.{BadSum}
use Rattle.log_pairs.specs.declared.odd.Odd.{Odd}
use Rattle.log_pairs.specs.declared.odd.Odd.TheVariants.{UnknownIdentifier, WrongSum, NoSum}
use Rattle.log_pairs.specs.declared.odd.Direction.{Direction}
use Rattle.log_pairs.specs.declared.odd.Direction.TheVariants.{Request, Response}

abbrev pub is_bad_sum : Reading → Bool
is_bad_sum BadSum = true
is_bad_sum _ = false

-- the numbers of requests
abbrev pub is_request : ℕ → Bool
is_request n =
    (n == 1) || ((n == 9) || ((n == 11) || ((n == 15) || ((n == 17) || ((n == 19) || ((n == 23) || ((n == 25) || ((n == 29) || ((n == 35) || ((n == 37)
    || ((n == 63) || ((n == 65) || ((n == 93) || ((n == 97) || (n == 99)))))))))))))))

-- the numbers of responses
abbrev pub is_response : ℕ → Bool
is_response n =
    (n == 10) || ((n == 12) || ((n == 16) || ((n == 18) || ((n == 20) || ((n == 24) || ((n == 26) || ((n == 30) || ((n == 36) || ((n == 38)
    || ((n == 64) || ((n == 66) || ((n == 94) || ((n == 96) || (n == 98))))))))))))))

abbrev pub is_identifier : Direction → ℕ → Bool
is_identifier Request n = is_request n
is_identifier Response n = is_response n

abbrev pub is_identifier_at : Direction → ℕ → ℕ → Bool
is_identifier_at side a b = (is_ascii_digit a && is_ascii_digit b) && is_identifier side ((a - byte.zero) * 10 + (b - byte.zero))

-- whether the first two bytes of a message are an identifier of a request, or of a response
abbrev pub has_identifier : Direction → List ℕ → Bool
has_identifier side m = nat_le 2 (length m) && is_identifier_at side (slice_index m 0) (slice_index m 1)

-- whether error detection ends before this number of bytes
abbrev pub has_sum_within : ℕ → List ℕ → Bool
has_sum_within zero m = false
has_sum_within (suc n) m = has_trailer (take n m) || has_sum_within n m

-- whether error detection is before the end: bytes were left after it, or two messages are in one
abbrev pub has_sum_inside : List ℕ → Bool
has_sum_inside m = has_sum_within (length m) m

-- a request without error detection, other than a request for a resend (97), which has none by the standard
abbrev pub lacks_sum : Direction → List ℕ → Bool
lacks_sum Request m = not (has_trailer m) && not (starts_with nat_eq m (codes "97"))
lacks_sum Response m = false

-- the response to a login, requests to resend, and the status of a client have no fields of variable length
abbrev pub is_without_fields : List ℕ → Bool
is_without_fields m =
    starts_with nat_eq m (codes "94") || (starts_with nat_eq m (codes "96") || (starts_with nat_eq m (codes "97") || starts_with nat_eq m (codes "99")))

-- a message with fields whose last one has no end, and which has no error detection
abbrev pub lacks_end : List ℕ → Bool
lacks_end m = not (is_without_fields m) && (not (ends_with nat_eq (trimmed m) (codes "|")) && not (has_trailer (trimmed m)))

-- what is odd about a message, if anything is
abbrev pub odd_of : Direction → List ℕ → Option Odd
odd_of side message =
    if not (has_identifier side message) then Some UnknownIdentifier
    else if is_bad_sum (reading message) || has_sum_inside (trimmed message) then Some WrongSum
    else if lacks_sum side (trimmed message) then Some NoSum
    else None
