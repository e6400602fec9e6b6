-- What is written of the parts of a response.
use Rattle.std.proofs.Common.{◌≡◌, ℕ, Bool, true, false, eqb, List, [], ◌∷◌, ◌++◌, Option, Some, None, cond, refl, sym, append_assoc, append-nil}
use Rattle.std.specs.Prelude.{codes}
use Rattle.sip_answer.specs.Differ.{is_same, word_unless}
use Rattle.sip_answer.specs.Parts.{digit, field, filled, flag, given, mark}
use Rattle.sip_answer.specs.Recorded.{flag_of, ok_of}
use Rattle.sip_answer.specs.declared.field.Field.{Field}
use Rattle.sip_answer.proofs.Framing.{EndsIn}

-- the byte of an ok, of a yes or no, of a position
pub ok_byte : Bool → ℕ
ok_byte b = cond b 49 48

pub flag_byte : Bool → ℕ
flag_byte b = cond b 89 78

pub mark_byte : Bool → ℕ
mark_byte b = cond b 89 32

pub digit_is : (b : Bool) → digit b ≡ ok_byte b ∷ []
unfolding digit ok_byte
digit_is true = refl
digit_is false = refl

pub flag_is : (b : Bool) → flag b ≡ flag_byte b ∷ []
unfolding flag flag_byte
flag_is true = refl
flag_is false = refl

pub mark_is : (b : Bool) → mark b ≡ mark_byte b ∷ []
unfolding mark mark_byte
mark_is true = refl
mark_is false = refl

-- each is read back
pub ok_read : (b : Bool) → ok_of (ok_byte b) ≡ Some b
unfolding ok_byte
ok_read true = refl
ok_read false = refl

pub stored_read : (b : Bool) → eqb (ok_byte b) 49 ≡ b
unfolding ok_byte
stored_read true = refl
stored_read false = refl

pub flag_read : (b : Bool) → flag_of (flag_byte b) ≡ Some b
unfolding flag_byte
flag_read true = refl
flag_read false = refl

pub mark_read : (b : Bool) → eqb (mark_byte b) 89 ≡ b
unfolding mark_byte
mark_read true = refl
mark_read false = refl

pub is_same-itself : (b : Bool) → is_same b b ≡ true
is_same-itself true = refl
is_same-itself false = refl

pub no_word : (word : Field) (b : Bool) → word_unless word (is_same b b) ≡ []
unfolding word_unless
no_word word b = rw (is_same-itself b) refl

-- a text ends in a bar where its last field does
pub ends_field : (x id text : List ℕ) → EndsIn 124 (x ++ field id text)
unfolding field
ends_field x id text = record { front = x ++ (id ++ text); is = sym (append_assoc x (id ++ text) (codes "|")) }

pub ends_given : (x id : List ℕ) (text : Option (List ℕ)) → EndsIn 124 x → EndsIn 124 (x ++ given id text)
unfolding given
ends_given x id None end = rw (append-nil x) end
ends_given x id (Some text) end = ends_field x id text

pub ends_filled : (x id text : List ℕ) → EndsIn 124 x → EndsIn 124 (x ++ filled id text)
unfolding filled
ends_filled x id [] end = rw (append-nil x) end
ends_filled x id (b ∷ text) end = ends_field x id (b ∷ text)
