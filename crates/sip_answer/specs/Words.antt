-- The words of the report for what differs.
use Rattle.std.specs.Prelude.{ℕ, List, codes}
use Rattle.sip_answer.specs.declared.field.Field.{Field}
use Rattle.sip_answer.specs.declared.field.Field.TheVariants as field

abbrev pub word_of : Field → List ℕ
word_of field.Missing = codes "missing"
word_of field.Unreadable = codes "unreadable"
word_of field.Kind = codes "kind"
word_of field.Ok = codes "ok"
word_of field.Alert = codes "alert"
word_of field.Available = codes "available"
word_of field.Due = codes "due"
word_of field.Fee = codes "fee"
word_of field.Status = codes "status"
word_of field.Valid = codes "valid"
word_of field.Accepted = codes "accepted"
word_of field.Renewed = codes "renewed"
word_of field.Unrenewed = codes "unrenewed"
word_of field.RenewedItems = codes "renewed_items"
word_of field.UnrenewedItems = codes "unrenewed_items"
