-- The texts to which the fields of a message refer.
use Rattle.std.specs.Prelude.{List, [], ◌∷◌, ℕ, ◌||◌, ◌==◌, length, Option, Some, None}
use Rattle.std.specs.Option.{option_copied}
use Rattle.sip_reader.specs.Bytes as byte
use Rattle.sip_reader.specs.Fields.{Texts, or_else, text_after}
use Rattle.sip_reader.specs.declared.fields.Fields.{Fields}

-- the texts themselves, not where they lie
abbrev pub texts_behind : Fields → Texts
texts_behind f = record {
  patron = option_copied f.patron;
  item = option_copied f.item;
  title = option_copied f.title;
  cancel = option_copied f.cancel;
  agreed = option_copied f.agreed;
  pickup = option_copied f.pickup;
  amount = option_copied f.amount;
  fee = option_copied f.fee;
  properties = option_copied f.properties;
  short = f.short;
}

-- a text that was found before, or else this one
abbrev pub or_now : Option (List ℕ) → Option (List ℕ) → Option (List ℕ)
or_now before None = before
or_now before (Some text) = or_else before (Some text)

-- the same with one more piece at the end
abbrev pub with_piece : Texts → List ℕ → Texts
with_piece t p = record {
  patron = or_now t.patron (text_after byte.A byte.A p);
  item = or_now t.item (text_after byte.A byte.B p);
  title = or_now t.title (text_after byte.A byte.J p);
  cancel = or_now t.cancel (text_after byte.B byte.I p);
  agreed = or_now t.agreed (text_after byte.B byte.O p);
  pickup = or_now t.pickup (text_after byte.B byte.S p);
  amount = or_now t.amount (text_after byte.B byte.V p);
  fee = or_now t.fee (text_after byte.C byte.G p);
  properties = or_now t.properties (text_after byte.C byte.H p);
  short = (length p == 1) || t.short;
}

-- the same with these pieces at the end, one after the other
abbrev pub with_pieces : Texts → List (List ℕ) → Texts
with_pieces t [] = t
with_pieces t (p ∷ ps) = with_pieces (with_piece t p) ps
