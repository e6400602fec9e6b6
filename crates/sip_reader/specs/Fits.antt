-- What the tests of a layout leave of a request's fields.
use Rattle.std.specs.Prelude.{◌≡◌, [], true, false, unwrap_or}
use Rattle.std.specs.Option.{is_none, option_and_then}
use Rattle.sip_reader.specs.Amounts.{amount_of}
use Rattle.sip_reader.specs.Fields.{Texts}
use Rattle.sip_reader.specs.Texts.{is_id, is_text}
use Rattle.sip_reader.specs.declared.kind.FieldLayout.{FieldLayout}

-- each field that is used holds what it is used for
pub record Fits (l : FieldLayout) (t : Texts) : Type 0 where
  pub patron : l.patron ≡ true → is_id (unwrap_or t.patron []) ≡ true
  pub item : l.item ≡ true → is_id (unwrap_or t.item []) ≡ true
  pub properties : l.properties ≡ true → is_text (unwrap_or t.properties []) ≡ true
  pub pickup : l.pickup ≡ true → is_text (unwrap_or t.pickup []) ≡ true
  pub amount : l.amount ≡ true → is_none (option_and_then amount_of t.amount) ≡ false
