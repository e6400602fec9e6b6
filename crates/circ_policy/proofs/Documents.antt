-- Bytes that are text, and those that aren't.
use Rattle.std.proofs.Common.{◌≡◌, ℕ, List, None, refl, inl, inr}
use Rattle.std.specs.Prelude.{IsUtf8}
use Rattle.std.specs.Str.{is_utf8}
use Rattle.std.proofs.lemmas.Bool.{cases_Bool}
use Rattle.std.proofs.lemmas.Str.{IsUtf8-from_is_utf8, is_utf8-from_IsUtf8}
use Rattle.toml.specs.Parse.{parse_document}
use Rattle.circ_policy.specs.Reading.{document_of}

pub text-document : (bytes : List ℕ) → IsUtf8 bytes → document_of bytes ≡ parse_document bytes
text-document bytes u = rw (is_utf8-from_IsUtf8 bytes u) refl

pub no-text : (bytes : List ℕ) → ¬ (IsUtf8 bytes) → document_of bytes ≡ None
no-text bytes n = elim (cases_Bool (is_utf8 bytes)) [
  | inl e ↦ absurd (n (IsUtf8-from_is_utf8 bytes e))
  | inr e ↦ rw e refl
]
