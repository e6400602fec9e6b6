-- Which responses fit a request: those of its kind, by the identifiers of SIP 2.00 (messages), and of its sequence digit.
use Rattle.std.specs.Prelude.{◌+◌, ◌-◌, ◌*◌, ◌&&◌, ◌||◌, ◌==◌, ℕ, Bool, true, false, not, nat_eq, nat_le, List, length, Option, Some, None, slice_index, codes, if◌then◌else◌}
use Rattle.std.specs.Char.{is_ascii_digit}
use Rattle.std.specs.List.{starts_with}
use Rattle.sip_reader.specs.Bytes as byte
use Rattle.sip_reader.specs.Reading.{trimmed}
use Rattle.sip_reader.specs.Sum.{sequence}

-- two messages have the same sequence digit, or one has none
abbrev pub is_same_digit : Option ℕ → Option ℕ → Bool
is_same_digit None other = true
is_same_digit (Some one) None = true
is_same_digit (Some one) (Some other) = one == other

-- the number of a message's identifier, its first two digits
abbrev pub number : List ℕ → Option ℕ
number m = if nat_le 2 (length m) && (is_ascii_digit (slice_index m 0) && is_ascii_digit (slice_index m 1))
    then Some ((slice_index m 0 - byte.zero) * 10 + (slice_index m 1 - byte.zero)) else None

-- A response has the number after that of its request; but a patron is blocked (01) with the response to its status (24), and 98 answers 99.
-- What is resent on a request for that (97) may be any response.
abbrev pub is_answer : ℕ → ℕ → Bool
is_answer request response =
    if request == 1 then response == 24
    else if request == 97 then true
    else if request == 99 then response == 98
    else response == request + 1

abbrev pub is_of_kind : Option ℕ → Option ℕ → Bool
is_of_kind None response = false
is_of_kind (Some request) None = false
is_of_kind (Some request) (Some response) = is_answer request response

-- a request for a resend (96) may answer any request; another response is of its kind and, where digits count, of its sequence digit
abbrev pub fits_by : Bool → List ℕ → List ℕ → Bool
fits_by digits request response = starts_with nat_eq response (codes "96")
    || ((not digits || is_same_digit (sequence (trimmed request)) (sequence (trimmed response))) && is_of_kind (number request) (number response))
