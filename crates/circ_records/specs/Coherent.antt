-- Coherent records: what a library's records are under its policy, before the line of a number is
-- run.
use Rattle.std.specs.Prelude.{◌≡◌, ◌≤◌, ℕ, Bool, true, false, not, ◌&&◌, nat_lt, List, [], ◌∷◌, length, map, Option, Some, None, is_some}
use Rattle.std.specs.List.{list_all, list_any}
use Rattle.circ_policy.specs.Policy.{media_of}
use Rattle.circ_policy.specs.Terms.{Terms}
use Rattle.sip_reader.specs.Days.{day_at}
use Rattle.sip_reader.specs.Texts.{is_id, is_text, line_number_end}
use Rattle.sip_reader.specs.declared.amount.TheConstants.{AMOUNT_MAX}
use Rattle.circ_records.specs.MadeFees.{may_be_made}
use Rattle.circ_records.specs.Records.{Entries, record_at}
use Rattle.circ_records.specs.Classes.{has_class}
use Rattle.circ_records.specs.Texts.{is_same}
use Rattle.circ_records.specs.declared.holds.Hold.{Hold}
use Rattle.circ_records.specs.declared.holds.TheConstants.{QUEUE_MAX}
use Rattle.circ_records.specs.declared.key.Key.{Key}
use Rattle.circ_records.specs.declared.key.Key.TheVariants as key
use Rattle.circ_records.specs.declared.record.Fee.{Fee}
use Rattle.circ_records.specs.declared.record.Item.{Item}
use Rattle.circ_records.specs.declared.record.Loan.{Loan}
use Rattle.circ_records.specs.declared.record.Patron.{Patron}
use Rattle.circ_records.specs.declared.record.Record.{Record}
use Rattle.circ_records.specs.declared.record.Record.TheVariants as record_of

-- what a map has at each key
abbrev pub Map : Type 0
Map = Key → Option Record

-- a record of another kind than its key's counts as none
abbrev pub as_patron : Option Record → Option Patron
as_patron (Some (record_of.Patron p)) = Some p
as_patron _ = None

abbrev pub as_item : Option Record → Option Item
as_item (Some (record_of.Item i)) = Some i
as_item _ = None

abbrev pub as_fee : Option Record → Option Fee
as_fee (Some (record_of.Fee f)) = Some f
as_fee _ = None

-- whether a record is of its key's kind
abbrev pub is_of_kind : Key → Record → Bool
is_of_kind (key.Patron id) (record_of.Patron p) = true
is_of_kind (key.Item id) (record_of.Item i) = true
is_of_kind (key.Fee id) (record_of.Fee f) = true
is_of_kind k r = false

-- each record is of its key's kind, as in a base that was read: none is ignored
abbrev pub AreOfKind : Map → Type 0
AreOfKind m = (k : Key) (r : Record) → m k ≡ Some r → is_of_kind k r ≡ true

-- whether there is such a patron
abbrev pub is_known : Map → List ℕ → Bool
is_known m id = is_some (as_patron (m (key.Patron id)))

-- whether an id is in a list, and whether none is there twice
abbrev pub has_id : List ℕ → List (List ℕ) → Bool
has_id id ids = list_any (is_same id) ids

abbrev pub are_distinct : List (List ℕ) → Bool
are_distinct [] = true
are_distinct (id ∷ ids) = not (has_id id ids) && are_distinct ids

-- whether a loan is this patron's, and an item is on loan to this patron
abbrev pub is_loan_of : List ℕ → Option Loan → Bool
is_loan_of patron None = false
is_loan_of patron (Some loan) = is_same patron loan.patron

abbrev pub is_lent_to : List ℕ → Option Item → Bool
is_lent_to patron None = false
is_lent_to patron (Some item) = is_loan_of patron item.loan

-- whether a fee is this patron's and isn't paid in full
abbrev pub is_owed_by : List ℕ → Option Fee → Bool
is_owed_by patron None = false
is_owed_by patron (Some fee) = is_same patron fee.patron && nat_lt fee.paid fee.amount

-- a patron is of a class of the policy. Its loans are exactly the items that are on loan to it,
-- each once; its fees exactly those of its own that aren't paid in full, each once
pub record IsCoherentPatron (policy : Terms) (m : Map) (id : List ℕ) (p : Patron) : Type 0 where
  pub id_text : is_id id ≡ true
  pub name : is_text p.name ≡ true
  pub class : has_class policy p.class ≡ true
  pub loans : (item : List ℕ) → has_id item p.loans ≡ is_lent_to id (as_item (m (key.Item item)))
  pub loans_once : are_distinct p.loans ≡ true
  pub fees : (fee : List ℕ) → has_id fee p.fees ≡ is_owed_by id (as_fee (m (key.Fee fee)))
  pub fees_once : are_distinct p.fees ≡ true

-- a loan is a patron's, who doesn't wait for the item, until a real day of the years 1900 to 9999
pub record IsCoherentLoan (m : Map) (holds : List Hold) (l : Loan) : Type 0 where
  pub patron : is_known m l.patron ≡ true
  pub waits : has_id l.patron (map (λ h. h.patron) holds) ≡ false
  pub due : (year : ℕ) × (month : ℕ) × (day : ℕ) × (day_at year month day ≡ Some l.due)
  pub renewals : l.renewals ≤ 4294967295

abbrev pub is_hold : Map → Hold → Bool
is_hold m h = is_known m h.patron && is_text h.pickup

-- an item is of a media type of the policy. At most 9,999 patrons wait for it, each once
pub record IsCoherentItem (policy : Terms) (m : Map) (id : List ℕ) (i : Item) : Type 0 where
  pub id_text : is_id id ≡ true
  pub title : is_text i.title ≡ true
  pub location : is_text i.location ≡ true
  pub properties : is_text i.properties ≡ true
  pub media : is_some (media_of policy i.media) ≡ true
  pub loan : (l : Loan) → i.loan ≡ Some l → IsCoherentLoan m i.holds l
  pub holds : list_all (is_hold m) i.holds ≡ true
  pub holds_once : are_distinct (map (λ h. h.patron) i.holds) ≡ true
  pub few : length i.holds ≤ QUEUE_MAX

-- a fee is a patron's, no more is paid than the amount, and no line from n on may make one of its
-- id
pub record IsCoherentFee (n : ℕ) (m : Map) (id : List ℕ) (f : Fee) : Type 0 where
  pub id_text : is_id id ≡ true
  pub patron : is_known m f.patron ≡ true
  pub paid : f.paid ≤ f.amount
  pub amount : f.amount ≤ AMOUNT_MAX
  pub number : may_be_made n id ≡ false

-- a map of coherent records. A record at a key of another kind counts as none: it is no patron,
-- item or fee, and nothing is asked of it
pub record IsCoherentMap (policy : Terms) (n : ℕ) (m : Map) : Type 0 where
  pub patrons : (id : List ℕ) (p : Patron) → as_patron (m (key.Patron id)) ≡ Some p → IsCoherentPatron policy m id p
  pub items : (id : List ℕ) (i : Item) → as_item (m (key.Item id)) ≡ Some i → IsCoherentItem policy m id i
  pub fees : (id : List ℕ) (f : Fee) → as_fee (m (key.Fee id)) ≡ Some f → IsCoherentFee n m id f

-- the number before which a base is coherent: that of the journal's first line; without lines, one
-- past all numbers
abbrev pub number_before : Option ℕ → ℕ
number_before None = line_number_end
number_before (Some first) = first

abbrev pub Coherent : Terms → ℕ → Entries → Type 0
Coherent policy n entries = IsCoherentMap policy n (record_at entries)
