-- A plan: the policy, the records before the first line, what each line is read as, and what its response says was done.
use Rattle.std.specs.Prelude.{ℕ, Bool, ◌-◌, nat_lt, List, [], map, slice_get, unwrap_or, Option, Some, None, if◌then◌else◌}
use Rattle.circ_policy.specs.Terms.{Terms}
use Rattle.circ_policy.specs.declared.due_form.DueForm.{DueForm}
use Rattle.circ_policy.specs.declared.due_form.DueForm.TheVariants as due_forms
use Rattle.circ_records.specs.Records.{Entries}
use Rattle.journal_table.specs.Entry.{Entry, first_number}
use Rattle.journal_table.specs.Readings.{NumberedReading, first_read, requests_read, reading_at as reading_in}
use Rattle.sip_answer.specs.Deeds.{deed_in}
use Rattle.sip_answer.specs.declared.deed.Deed.{Deed}
use Rattle.sip_reader.specs.Reading.{reading}
use Rattle.sip_reader.specs.declared.request.Reading.{Reading}
use Rattle.sip_reader.specs.declared.request.Reading.TheVariants as readings
use Rattle.sip_reader.specs.Texts.{line_number_end}
use Rattle.read_set.specs.declared.way.Way.{Way}
use Rattle.read_set.specs.declared.way.Way.TheVariants as ways

pub record Planned : Type 0 where
  pub policy : Terms
  pub base : Entries
  pub first : ℕ
  pub readings : List Reading
  -- by the rules no line has a deed
  pub deeds : List (Option Deed)

-- the number of a journal's first line; one without lines begins after the last number that a line can have
abbrev pub beginning : List Entry → ℕ
beginning lines = unwrap_or (first_number lines) line_number_end

-- the readings of a journal's requests
abbrev pub readings_of : List Entry → List Reading
readings_of = requests_read

-- the way that is asked for
abbrev pub way_of : Bool → Way
way_of as_recorded = if as_recorded then ways.AsRecorded else ways.ByRules

-- what a response says was done, if its request was read
abbrev pub deed_read : DueForm → Option Reading → List ℕ → Option Deed
deed_read form (Some (readings.Asked q)) response = deed_in form q.act response
deed_read form r response = None

-- the deeds of lines: as recorded what their responses say, by the rules none
unfoldable pub deeds_of : Way → DueForm → List Entry → List (Option Deed)
deeds_of ways.ByRules form lines = []
deeds_of ways.AsRecorded form lines = map (λ line. deed_read form (Some (reading line.request)) line.response) lines

abbrev pub plan_of : Way → Terms → Entries → List Entry → Planned
plan_of way policy base lines = record {
  policy = policy;
  base = base;
  first = beginning lines;
  readings = readings_of lines;
  deeds = deeds_of way policy.due_form lines;
}

-- the plan of numbered readings with these deeds; of those of a journal it is the journal's
abbrev pub plan_read : Terms → Entries → List NumberedReading → List (Option Deed) → Planned
plan_read policy base read deeds = record {
  policy = policy;
  base = base;
  first = unwrap_or (first_read read) line_number_end;
  readings = map reading_in read;
  deeds = deeds;
}

-- the plan of the same lines over other records
abbrev pub plan_over : Planned → Entries → Planned
plan_over plan base = record plan { base = base }

-- what the line of a number is read as
abbrev pub reading_at : Planned → ℕ → Option Reading
reading_at plan line = if nat_lt line plan.first then None else slice_get plan.readings (line - plan.first)

-- what the response of the line of a number says was done, if that counts
abbrev pub deed_at : Planned → ℕ → Option Deed
deed_at plan line = unwrap_or (slice_get plan.deeds (line - plan.first)) None

-- an empty plan, for the type that names none; each run names its own
abbrev pub no_plan : Planned
no_plan = record {
  policy = record { institution = []; currency = []; due_form = due_forms.Sip; closed = record { weekdays = []; dates = [] }; classes = []; media = [] };
  base = [];
  first = 0;
  readings = [];
  deeds = [];
}
