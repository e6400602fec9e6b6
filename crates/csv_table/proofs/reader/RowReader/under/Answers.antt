use Rattle.std.proofs.Common.{◌≡◌, ◌<◌, ◌^◌, Ok, Err, false, inr, refl, ◌∙◌}
use Rattle.std.specs.Prelude.{◌&&◌, IfOk, Result}
use Rattle.csv.specs.Reading.{Ready, reader_trim}
use Rattle.csv.specs.Records.{fields_of}
use Rattle.csv.specs.declared.reader.Trim.TheVariants as trim
use Rattle.csv_table.specs.Rows.{is_row, rows_under}
use Rattle.csv_table.specs.Text.{bytes_of}
use Rattle.csv_table.specs.Unread.{unread_by}
use Rattle.csv_table.proofs.Steps.{header-reading, header-size, reads-header, reads-no-header}
use Rattle.csv_table.proofs.reader.RowReader.under.Goals as goal
use Rattle.csv_table.proofs.reader.RowReader.under.Goals.{else-branch-via-then-branch+else-has_fields, else-branch-via-else-branch}

pub invariant_of-result : goal.invariant_of-result
invariant_of-result c = λ _.
    let fr = c.from_reader.ensures in
    let is : c.deref_mut.result.now ≡ c.from_reader.result = c.deref_mut.ensures.value ∙ c.in-Ok.ensures.ok in
    let e = c.has_headers.ensures in
    let trims : reader_trim c.deref_mut.result.now ≡ trim.None = rw is (rw e at fr.trim ∙ c.new.ensures.trim) in
    let ready : Ready c.deref_mut.result.now = rw is (inr (inr (rw e at fr.has_headers, fr.headers))) in
    let read = rw c.if-branch.true at (c.in_ok-read_byte_record.ensures.reads trims ready) in
    header-reading c.deref_mut.result.now c.read_byte_record.new.self c.args.text.now (fields_of c.read_byte_record.new.row)
    (rw is (rw e at fr.config ∙ c.new.ensures.config)) (rw is fr.state) (rw is (rw e at fr.flexible ∙ c.new.ensures.flexible)) trims (rw is fr.source) read (c.in_ok-read_byte_record.ensures.ready trims) c.in_ok-read_byte_record.ensures.flexible

pub returns-then-has_fields-clause-ok : goal.returns-then-has_fields-clause-ok
returns-then-has_fields-clause-ok c =
    let fr = c.from_reader.ensures in
    let is : c.deref_mut.result.now ≡ c.from_reader.result = c.deref_mut.ensures.value ∙ c.in-Ok.ensures.ok in
    let e = c.has_headers.ensures in
    let trims : reader_trim c.deref_mut.result.now ≡ trim.None = rw is (rw e at fr.trim ∙ c.new.ensures.trim) in
    let ready : Ready c.deref_mut.result.now = rw is (inr (inr (rw e at fr.has_headers, fr.headers))) in
    let read = rw c.if-branch.true at (c.in_ok-read_byte_record.ensures.reads trims ready) in
    let told = reads-header c.deref_mut.result.now c.read_byte_record.new.self c.args.text.now (bytes_of c.args.header.now) (fields_of c.read_byte_record.new.row)
    (rw is (rw e at fr.config ∙ c.new.ensures.config)) (rw is fr.state) (rw is (rw e at fr.flexible ∙ c.new.ensures.flexible)) (rw is fr.source) read c.if-has_fields.ensures in
    told

pub returns-clause-table : goal.returns-clause-table
returns-clause-table c =
    let fr = c.from_reader.ensures in
    let is : c.deref_mut.result.now ≡ c.from_reader.result = c.deref_mut.ensures.value ∙ c.in-Ok.ensures.ok in
    let e = c.has_headers.ensures in
    let trims : reader_trim c.deref_mut.result.now ≡ trim.None = rw is (rw e at fr.trim ∙ c.new.ensures.trim) in
    let ready : Ready c.deref_mut.result.now = rw is (inr (inr (rw e at fr.has_headers, fr.headers))) in
    let read = c.in_ok-read_byte_record.ensures.reads trims ready in
    let other : (c.in_ok-read_byte_record.field-0 && is_row (fields_of c.read_byte_record.new.row) (bytes_of c.args.header.now)) ≡ false =
    elim c.else-branch.branch [
      | else-branch-via-then-branch+else-has_fields w ↦ rw (w.if-branch.true, ← w.if-has_fields.ensures) refl
      | else-branch-via-else-branch w ↦ rw w.if-branch.false refl
    ] in
    λ _. reads-no-header c.deref_mut.result.now c.read_byte_record.new.self c.args.text.now (bytes_of c.args.header.now) (fields_of c.read_byte_record.new.row) c.in_ok-read_byte_record.field-0
    (rw is (rw e at fr.config ∙ c.new.ensures.config)) (rw is fr.state) (rw is fr.source) read other

pub returns-then-has_fields-clause-size : goal.returns-then-has_fields-clause-size
returns-then-has_fields-clause-size c =
    let fr = c.from_reader.ensures in
    let is : c.deref_mut.result.now ≡ c.from_reader.result = c.deref_mut.ensures.value ∙ c.in-Ok.ensures.ok in
    let e = c.has_headers.ensures in
    let trims : reader_trim c.deref_mut.result.now ≡ trim.None = rw is (rw e at fr.trim ∙ c.new.ensures.trim) in
    let ready : Ready c.deref_mut.result.now = rw is (inr (inr (rw e at fr.has_headers, fr.headers))) in
    let read = rw c.if-branch.true at (c.in_ok-read_byte_record.ensures.reads trims ready) in
    let fits = header-size c.deref_mut.result.now c.read_byte_record.new.self c.args.text.now (fields_of c.read_byte_record.new.row) (2 ^ 64)
    (rw is (rw e at fr.config ∙ c.new.ensures.config)) (rw is fr.state) (rw is fr.source) read c.size_fits.ensures in
    fits
