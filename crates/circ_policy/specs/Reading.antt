-- The policy that the bytes of a file say, or the first rule that they break.
use Rattle.std.specs.Prelude.{◌≡◌, ℕ, List, [], ◌∷◌, ◌++◌, Option, Some, None, Result, Ok, Err, codes, string_bytes, option_and_then, option_map, if◌then◌else◌}
use Rattle.std.specs.Str.{is_utf8}
use Rattle.sip_reader.specs.Bytes as byte
use Rattle.sip_reader.specs.declared.amount.TheConstants.{AMOUNT_MAX}
use Rattle.toml.specs.Data.{Data, Members, no_members, member, as_table, get_member}
use Rattle.toml.specs.Parse.{parse_document}
use Rattle.circ_policy.specs.Medias.{media_of_code}
use Rattle.circ_policy.specs.Order.{in_byte_order, least_unknown}
use Rattle.circ_policy.specs.Terms.{Closed, Terms}
use Rattle.circ_policy.specs.Values.{closed_dates_of, closed_weekdays_of, currency_in, due_form_in, id_in, text_of, whole_of}
use Rattle.circ_policy.specs.declared.class.Class.{Class}
use Rattle.circ_policy.specs.declared.due_form.DueForm.{DueForm}
use Rattle.circ_policy.specs.declared.error.PolicyError.{PolicyError}
use Rattle.circ_policy.specs.declared.error.PolicyError.TheVariants as error
use Rattle.circ_policy.specs.declared.media.Media.{Media}
use Rattle.circ_policy.specs.declared.media_type.MediaType.{MediaType}

-- why bytes give no policy: they are no TOML, or they break the rule of a key
pub data Refusal : Type 0 where
  not_toml : Refusal
  breaks : List ℕ → Refusal

infixl 10 ◌>>=◌
abbrev pub ◌>>=◌ : {A B : Type 0} → Result A Refusal → (A → Result B Refusal) → Result B Refusal
(Ok x) >>= f = f x
(Err e) >>= f = Err e

-- what was read from a key's value; where nothing was, the key's rule is broken
abbrev pub required : {X : Type 0} → List ℕ → Option X → Result X Refusal
required key None = Err (breaks key)
required key (Some x) = Ok x

-- an unknown key breaks the rule that has the key's own name
abbrev pub unknown : Option (List ℕ) → Result (Unit {0}) Refusal
unknown None = Ok tt
unknown (Some key) = Err (breaks key)

-- a key inside a table, as `class.A`
abbrev pub within : List ℕ → List ℕ → List ℕ
within table key = table ++ byte.point ∷ key

-- an entry has no other keys than these; of several others the least is reported
unfoldable pub only : List (List ℕ) → List ℕ → Members → Result (Unit {0}) Refusal
only known entry ms = unknown (option_map (within entry) (least_unknown known ms))

-- a whole number in an entry
unfoldable pub whole : ℕ → ℕ → List ℕ → Members → List ℕ → Result ℕ Refusal
whole low high entry ms key = required (within entry key) (whole_of low high (get_member key ms))

-- a number of loans or renewals in an entry
abbrev pub limit : List ℕ → Members → List ℕ → Result ℕ Refusal
limit = whole 0 9_999

-- an amount in an entry, in hundredths
abbrev pub amount : List ℕ → Members → List ℕ → Result ℕ Refusal
amount = whole 0 AMOUNT_MAX

abbrev pub class_keys : List (List ℕ)
class_keys = codes "max_loans" ∷ codes "max_fees" ∷ codes "max_renewals" ∷ []

-- Limits of a class (policy file): max_loans and max_renewals 0 to 9,999, max_fees an amount
unfoldable pub limits : List ℕ → Members → Result Class Refusal
limits entry ms = do
  known ← only class_keys entry ms
  max_loans ← limit entry ms (codes "max_loans")
  max_fees ← amount entry ms (codes "max_fees")
  max_renewals ← limit entry ms (codes "max_renewals")
  Ok (record { max_loans = max_loans; max_fees = max_fees; max_renewals = max_renewals })

-- Class (policy file): its name is an id, and its entry is a table
unfoldable pub class_in : List ℕ → Data → Result (List ℕ × Class) Refusal
class_in name d = do
  id ← required (within (codes "class") name) (id_in name)
  ms ← required (within (codes "class") name) (as_table d)
  class ← limits (within (codes "class") name) ms
  Ok (id, class)

abbrev pub media_keys : List (List ℕ)
media_keys = codes "days" ∷ codes "rental" ∷ codes "late" ∷ codes "cap" ∷ []

-- Terms of a type of media (policy file): days 1 to 3,650; rental, late and cap are amounts
unfoldable pub lending : List ℕ → Members → Result Media Refusal
lending entry ms = do
  known ← only media_keys entry ms
  days ← whole 1 3_650 entry ms (codes "days")
  rental ← amount entry ms (codes "rental")
  late ← amount entry ms (codes "late")
  cap ← amount entry ms (codes "cap")
  Ok (record { days = days; rental = rental; late = late; cap = cap })

-- Type of media (policy file): its name is a code, and its entry is a table
unfoldable pub media_in : List ℕ → Data → Result (MediaType × Media) Refusal
media_in name d = do
  type ← required (within (codes "media") name) (media_of_code name)
  ms ← required (within (codes "media") name) (as_table d)
  media ← lending (within (codes "media") name) ms
  Ok (type, media)

-- each entry, one after the other
abbrev pub entries : {X : Type 0} → (List ℕ → Data → Result X Refusal) → Members
    → Result (List X) Refusal
entries read no_members = Ok []
entries read (member name d ms) = do
  x ← read name d
  xs ← entries read ms
  Ok (x ∷ xs)

-- a table of entries, which are tested in byte order of their names
unfoldable pub section : {X : Type 0} → List ℕ → (List ℕ → Data → Result X Refusal) → Members
    → Result (List X) Refusal
section key read ms = do
  table ← required key (option_and_then as_table (get_member key ms))
  entries read (in_byte_order table)

abbrev pub top_keys : List (List ℕ)
top_keys = codes "institution" ∷ codes "currency" ∷ codes "due_form" ∷ codes "closed_weekdays" ∷ codes "closed_dates" ∷ codes "class" ∷ codes "media" ∷ []

-- a policy has no other keys than these; of several others the least is reported
unfoldable pub known_keys : Members → Result (Unit {0}) Refusal
known_keys ms = unknown (least_unknown top_keys ms)

-- the closed days of a policy
unfoldable pub closed_in : Members → Result Closed Refusal
closed_in ms = do
  weekdays ← required (codes "closed_weekdays") (closed_weekdays_of (get_member (codes "closed_weekdays") ms))
  dates ← required (codes "closed_dates") (closed_dates_of (get_member (codes "closed_dates") ms))
  Ok (record { weekdays = weekdays; dates = dates })

-- the value of a key that holds a text
abbrev pub text_at : {X : Type 0} → (List ℕ → Option X) → List ℕ → Members → Result X Refusal
text_at take_text key ms = required key (text_of take_text (get_member key ms))

unfoldable pub institution_in : Members → Result (List ℕ) Refusal
institution_in = text_at id_in (codes "institution")

unfoldable pub currency_at : Members → Result (List ℕ) Refusal
currency_at = text_at currency_in (codes "currency")

unfoldable pub due_form_at : Members → Result DueForm Refusal
due_form_at = text_at due_form_in (codes "due_form")

-- Order of the rules (policy file): the policy that a document holds, or the first rule that it
-- breaks. The rules are tested in this order: no unknown key (else the least is reported);
-- institution; currency; form of due dates; closed weekdays; closed dates; all classes; all types
-- of media
unfoldable pub policy_in : Members → Result Terms Refusal
policy_in ms = do
  known ← known_keys ms
  institution ← institution_in ms
  currency ← currency_at ms
  due_form ← due_form_at ms
  closed ← closed_in ms
  classes ← section (codes "class") class_in ms
  media ← section (codes "media") media_in ms
  Ok (record { institution = institution; currency = currency; due_form = due_form; closed = closed; classes = classes; media = media })

-- the document that bytes spell, where they are UTF-8 and TOML
abbrev pub document_of : List ℕ → Option Members
document_of bytes = if is_utf8 bytes then parse_document bytes else None

abbrev pub policy_of_document : Option Members → Result Terms Refusal
policy_of_document None = Err not_toml
policy_of_document (Some ms) = policy_in ms

-- the policy that bytes say, or why they are refused
abbrev pub policy_of : List ℕ → Result Terms Refusal
policy_of bytes = policy_of_document (document_of bytes)

-- an error is the one that the definition gives; `Memory` says nothing of the bytes
abbrev pub Fails : {X : Type 0} → PolicyError → Result X Refusal → Type 0
Fails error.Memory read = Unit {0}
Fails error.Text read = read ≡ Err not_toml
Fails (error.Rule key) read = read ≡ Err (breaks (string_bytes key))

-- a result is what the definition gives, or its error is
abbrev pub Gives : {X Y : Type 0} → (X → Y) → Result X PolicyError → Result Y Refusal → Type 0
Gives view (Ok x) read = read ≡ Ok (view x)
Gives view (Err e) read = Fails e read

-- bytes are refused as no TOML only if they are no document; no rule is named yet
abbrev pub RefusesText : PolicyError → Option Members → Type 0
RefusesText error.Memory document = Unit {0}
RefusesText error.Text document = document ≡ None
RefusesText (error.Rule key) document = ⊥
