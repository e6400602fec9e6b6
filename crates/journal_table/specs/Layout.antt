-- How a line is in memory: its three texts one after the other, with commas between.
use Rattle.std.specs.Prelude.{◌≡◌, ◌≤◌, ◌+◌, ◌++◌, ◌∷◌, ℕ, List, length, take, drop}
use Rattle.std.specs.Int.{IsInRange}
use Rattle.sip_reader.specs.Texts.{line_number_max}
use Rattle.journal_table.specs.Entry.{Entry}
use Rattle.journal_table.specs.declared.TheConstants.{CONNECTION_LIMIT}
use Rattle.journal_table.specs.declared.line.Line.TheInside.{Inside}
use Rattle.journal_table.specs.declared.line.LineTexts.{LineTexts}
use Rattle.journal_table.specs.declared.line.LineTexts.TheVariants.{Lent, Own}

abbrev pub comma : ℕ
comma = 44

-- three texts, as a row without quotes has them
abbrev pub joined : List ℕ → List ℕ → List ℕ → List ℕ
joined connection request response = connection ++ comma ∷ (request ++ comma ∷ response)

-- the texts of a line, in the journal's own bytes or in a copy
abbrev pub text_of : LineTexts → List ℕ
text_of (Lent connection request bytes) = bytes.now
text_of (Own own) = own.value.bytes.items

abbrev pub connection_len : LineTexts → ℕ
connection_len (Lent connection request bytes) = connection
connection_len (Own own) = own.value.connection_len

abbrev pub request_len : LineTexts → ℕ
request_len (Lent connection request bytes) = request
request_len (Own own) = own.value.request_len

-- the texts and the lengths are those of this connection, request and response
pub record AreTexts (texts : LineTexts) (connection request response : List ℕ) : Type 0 where
  pub joins : text_of texts ≡ joined connection request response
  pub first : connection_len texts ≡ length connection
  pub second : request_len texts ≡ length request

abbrev pub entry_of : Inside → Entry
entry_of l = record {
  number = l.number;
  connection = take (connection_len l.texts) (text_of l.texts);
  request = take (request_len l.texts) (drop (connection_len l.texts + 1) (text_of l.texts));
  response = drop (connection_len l.texts + 1 + request_len l.texts + 1) (text_of l.texts);
}

-- the texts come one after the other; rules number and connection: a number from 1 to
-- 9,999,999,999, a connection of at most 64 bytes
abbrev pub IsLaidOut : Inside → Type 0
IsLaidOut l =
    (connection_len l.texts + 1 + request_len l.texts + 1 ≤ length (text_of l.texts))
    × IsInRange 1 line_number_max l.number × (connection_len l.texts ≤ CONNECTION_LIMIT)
