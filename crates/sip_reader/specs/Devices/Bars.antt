-- For proofs alone: bytes of a kind, which are looked for in many at once.
use Rattle.std.specs.Prelude.{ℕ, Bool, ◌==◌, not}
use Rattle.sip_reader.specs.Bytes as byte
use Rattle.sip_reader.specs.Texts.{is_barred}

abbrev pub is_bar : ℕ → Bool
is_bar b = b == byte.bar

-- no bar, CR or LF
abbrev pub is_clean : ℕ → Bool
is_clean b = not (is_barred b)
