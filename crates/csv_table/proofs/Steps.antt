-- What a reader of rows has left, one record further.
use Rattle.std.proofs.Common.{Bor, ◌≡◌, ◌≢◌, ◌<◌, ◌≤◌, ◌+◌, ℕ, zero, suc, List, [], ◌∷◌, length, Option, Some, None, Bool, true, false, refl, sym, ap, ◌∙◌, arith, eq-eqb}
use Rattle.std.specs.Prelude.{◌==◌, ◌&&◌, IfSome, IsSome, option_map, if◌then◌else◌}
use Rattle.std.specs.List.{list_all}
use Rattle.std.specs.Option.{option_and_then}
use Rattle.csv.specs.declared.reader.Trim.TheVariants as trim
use Rattle.std.proofs.lemmas.Bool.{ne_eqb}
use Rattle.csv.specs.Machine.{Read, ends_at_end, next_record}
use Rattle.csv.specs.Reading.{ExplainsRead, NextIs, ReadRecord, ReadsNext, default_config, pending_of, records_from, records_next, is_bom, strip_bom}
use Rattle.csv.specs.declared.error.ErrorKind.{ErrorKind}
use Rattle.csv.specs.declared.error.ErrorKind.TheVariants as kind
use Rattle.csv.specs.declared.parser.State.{State}
use Rattle.csv.specs.declared.parser.State.TheVariants as st
use Rattle.csv.specs.declared.reader.Reader.{Reader}
use Rattle.csv_table.specs.Rows.{is_row, records_of, refusal, rows_under, under}
use Rattle.csv_table.specs.Unread.{IsReading, evenly, left_of, unread_by, unread_in}
use Rattle.csv_table.specs.declared.TableError.TheVariants as table
use Rattle.csv_table.proofs.Records.{leaves-fewer}

-- records taken with more turns than bytes don't depend on the turns
next-turns : (n m : ℕ) (o : Option Read)
    → ((p : Read) → o ≡ Some p → records_from default_config n p.1 p.2
    ≡ records_from default_config m p.1 p.2)
    → records_next (records_from default_config n) o ≡ records_next (records_from default_config m) o
next-turns n m None f = refl
next-turns n m (Some p) f = ap (λ (t : List (List (List ℕ))). p.0 ∷ t) (f p refl)

records-turns : (n m : ℕ) (s : State) (xs : List ℕ) → length xs < n → length xs < m → ends_at_end s ≡ false
    → records_from default_config n s xs ≡ records_from default_config m s xs
unfolding records_from
records-turns zero m s xs h k e = absurd (omega arith)
records-turns (suc n) zero s xs h k e = absurd (omega arith)
records-turns (suc n) (suc m) s xs h k e = next-turns n m (next_record default_config s [] [] xs) (λ p t.
    let q = leaves-fewer s xs p e t in
    let fewer : length p.2 < length xs = q.0 in
    records-turns n m p.1 p.2 (omega arith) (omega arith) q.1)

-- the records from a place are the next one and those after it
records-step : (s : State) (xs : List ℕ) (p : Read) → ends_at_end s ≡ false → next_record default_config s [] [] xs ≡ Some p
    → records_from default_config (length xs + 1) s xs ≡ p.0 ∷ records_from default_config (length p.2 + 1) p.1 p.2
unfolding records_from
records-step s xs p e h =
    let q = leaves-fewer s xs p e h in
    let fewer : length p.2 < length xs = q.0 in
    let turns : length xs + 1 ≡ suc (length xs) = omega arith in
    rw (turns, h) (ap (λ (t : List (List (List ℕ))). p.0 ∷ t) (records-turns (length xs) (length p.2 + 1) p.1 p.2 (omega arith) (omega arith) q.1))

records-end : (s : State) (xs : List ℕ) → next_record default_config s [] [] xs ≡ None → records_from default_config (length xs + 1) s xs ≡ []
unfolding records_from
records-end s xs h = let turns : length xs + 1 ≡ suc (length xs) = omega arith in rw (turns, h) refl

-- what a read of a record took
took-next : (o : Option Read) (f : List (List ℕ)) (s : State) (z : List ℕ) → NextIs o true f s z
    → (p : Read) × (o ≡ Some p) × (f ≡ p.0) × (s ≡ p.1) × (Some z ≡ Some p.2)
took-next None f s z n = cc n
took-next (Some p) f s z n = (p, refl, n.1, n.2, ap Some n.3)

took : (a b : State) (y : List ℕ) (k : Option (List ℕ)) (f : List (List ℕ))
    → ReadsNext default_config a (Some y) k true f b
    → (p : Read) × (next_record default_config a [] [] y ≡ Some p) × (f ≡ p.0) × (b ≡ p.1) × (k ≡ Some p.2)
took a b y None f r = absurd r
took a b y (Some z) f r = took-next (next_record default_config a [] [] y) f b z r

none-left : (o : Option Read) (f : List (List ℕ)) (s : State) (z : List ℕ) → NextIs o false f s z → o ≡ None
none-left None f s z n = refl
none-left (Some p) f s z n = cc (n.0)

ended : (a b : State) (y : List ℕ) (k : Option (List ℕ)) (f : List (List ℕ))
    → ReadsNext default_config a (Some y) k false f b → next_record default_config a [] [] y ≡ None
ended a b y None f r = absurd r
ended a b y (Some z) f r = none-left (next_record default_config a [] [] y) f b z r

-- rows of one length, and one row before them
evenly-some : (width : ℕ) (row : List (List ℕ)) (rest : List (List (List ℕ))) → length row ≡ width
    → evenly (Some width) (row ∷ rest) ≡ option_map (λ rest. row ∷ rest) (evenly (Some width) rest)
evenly-some width row rest e =
    rw (eq-eqb (length row) width e) (by (list_all (λ (r : List (List ℕ)). length r == width) rest))
  where
    by : (b : Bool) → (if b then Some (row ∷ rest) else None)
        ≡ option_map (λ (rest : List (List (List ℕ))). row ∷ rest) (if b then Some rest else None)
    by true = refl
    by false = refl

evenly-none : (width : ℕ) (row : List (List ℕ)) (rest : List (List (List ℕ))) → width ≢ length row
    → evenly (Some width) (row ∷ rest) ≡ None
evenly-none width row rest other = rw (ne_eqb (length row) width (λ e. other (sym e))) refl

-- a row that was taken is the first of those that were left
taken-at : (s t : State) (n : ℕ) (w : Option ℕ) (y : List ℕ) (l : Option (List ℕ))
    (f : List (List ℕ)) (p : Read) → ends_at_end s ≡ false
    → next_record default_config s [] [] y ≡ Some p → f ≡ p.0 → t ≡ p.1 → l ≡ Some p.2 → w ≡ Some n → length f ≡ n
    → ((unread_in s (Some n) (Some y)).rows ≡ option_map (λ rest. f ∷ rest) (unread_in t w l).rows)
    × ((unread_in t w l).size < (unread_in s (Some n) (Some y)).size)
    × (ends_at_end t ≡ false) × IsSome l
taken-at s t n w y l f p e read fields state left width size =
    let q = leaves-fewer s y p e read in
    let fewer : length p.2 < length y = q.0 in
    rw (width, left, state, records-step s y p e read, ← fields) (evenly-some n f _ size, fewer, q.1, refl)

taken : (s t : State) (v w : Option ℕ) (k l : Option (List ℕ)) (f : List (List ℕ))
    → ends_at_end s ≡ false → IsSome v → IsSome k
    → ReadsNext default_config s k l true f t → IfSome v (λ e. w ≡ Some e) → w ≡ Some (length f)
    → ((unread_in s v k).rows ≡ option_map (λ rest. f ∷ rest) (unread_in t w l).rows)
    × ((unread_in t w l).size < (unread_in s v k).size) × (ends_at_end t ≡ false) × IsSome l
taken s t None w k l f e h i r one two = cc h
taken s t (Some n) w None l f e h i r one two = cc i
taken s t (Some n) w (Some y) l f e h i r one two =
    let (p, read, fields, state, left) = took s t y l f r in
    let size : length f ≡ n = cc in
    taken-at s t n w y l f p e read fields state left one size

-- what a reader has left after a row, and that it reads on
pub record Goes (a b : Reader (Bor (List ℕ))) (f : List (List ℕ)) : Type 0 where
  pub row : (unread_by a).rows ≡ option_map (λ rest. f ∷ rest) (unread_by b).rows
  pub shorter : (unread_by b).size < (unread_by a).size
  pub reading : IsReading b

pub reads-row : (a b : Reader (Bor (List ℕ))) (f : List (List ℕ)) → IsReading a
    → ReadRecord (λ s. Some s.now) a b true f → b.first ≡ true → b.flexible ≡ a.flexible
    → Goes a b f
reads-row a b f is r first strict =
    let lengths = r.5 refl is.strict in
    let next = rw is.config at r.0 in
    let after = taken a.state b.state a.expected b.expected (left_of a) (pending_of (Some b.rdr.now) b) f is.between is.width is.source next lengths.0 lengths.1 in
    let left : left_of b ≡ pending_of (Some b.rdr.now) b = rw r.1 refl in
    record {
      row = rw left after.0;
      shorter = rw left after.1;
      reading = record {
        trim = r.3 ∙ is.trim;
        first = first;
        config = r.2 ∙ is.config;
        strict = strict ∙ is.strict;
        width = rw lengths.1 refl;
        source = rw left after.3;
        between = after.2;
      };
    }

-- at the end no row is left
end-rows : (s t : State) (v : Option ℕ) (k l : Option (List ℕ)) (f : List (List ℕ)) → IsSome v
    → IsSome k → ReadsNext default_config s k l false f t → (unread_in s v k).rows ≡ Some []
end-rows s t None k l f h i r = cc h
end-rows s t (Some n) None l f h i r = cc i
end-rows s t (Some n) (Some y) l f h i r = rw (records-end s y (ended s t y l f r)) refl

pub reads-end : (a b : Reader (Bor (List ℕ))) (f : List (List ℕ)) → IsReading a
    → ReadRecord (λ s. Some s.now) a b false f → (unread_by a).rows ≡ Some []
reads-end a b f is r = end-rows a.state b.state a.expected (left_of a) (pending_of (Some b.rdr.now) b) f is.width is.source (rw is.config at r.0)

-- a row of another length refuses the table
other-rows : (s t : State) (v : Option ℕ) (k l : Option (List ℕ)) (f : List (List ℕ)) (n : ℕ)
    → ends_at_end s ≡ false → IsSome k → v ≡ Some n → n ≢ length f
    → ReadsNext default_config s k l true f t → (unread_in s v k).rows ≡ None
other-rows s t v None l f n e i width other r = cc i
other-rows s t v (Some y) l f n e i width other r =
    let (p, read, fields, state, left) = took s t y l f r in
    rw (width, records-step s y p e read, ← fields) (evenly-none n f _ other)

pub reads-refused : (a b : Reader (Bor (List ℕ))) (k : ErrorKind) → IsReading a
    → ExplainsRead (λ s. Some s.now) a b false k → refusal k ≡ table.Table
    → (unread_by a).rows ≡ None
reads-refused a b (kind.UnequalLengths pos expected len) is x e =
    let (strict, was, other, fields, next, size) = x in
    other-rows a.state b.state a.expected (left_of a) (pending_of (Some b.rdr.now) b) fields expected is.between is.source was (λ t. other (t ∙ size)) (rw is.config at next)
reads-refused a b (kind.Io err) is x e = cc e
reads-refused a b (kind.Utf8 pos err) is x e = cc e
reads-refused a b kind.OutOfMemory is x e = cc e
reads-refused a b (kind.Serialize t) is x e = cc e
reads-refused a b (kind.Deserialize pos err) is x e = cc e

-- the first record of a text, and the rows under it
first-rows : (text : List ℕ) (header f : List (List ℕ)) (t : State) (w : Option ℕ)
    (k : Option (List ℕ)) (p : Read) → next_record default_config st.StartRecord [] []
    (strip_bom text) ≡ Some p
    → f ≡ p.0 → t ≡ p.1 → k ≡ Some p.2 → w ≡ Some (length f) → true ≡ is_row f header
    → (unread_in t w k).rows ≡ rows_under header text
unfolding records_of
first-rows text header f t w k p read fields state left width same =
    rw (left, state, width, records-step st.StartRecord (strip_bom text) p refl read, ← fields)
    (by (list_all (λ (row : List (List ℕ)). length row == length f) (records_from default_config (length p.2 + 1) p.1 p.2)) (records_from default_config (length p.2 + 1) p.1 p.2))
  where
    by : (b : Bool) (rest : List (List (List ℕ)))
        → (if b then Some rest else None) ≡ option_and_then (under header)
        (if b then Some (f ∷ rest) else None)
    by true rest = rw (← same) refl
    by false rest = refl

pub reads-header : (a b : Reader (Bor (List ℕ))) (text : List ℕ) (header f : List (List ℕ))
    → a.config ≡ default_config → a.state ≡ st.StartRecord → a.flexible ≡ false
    → left_of a ≡ Some (strip_bom text) → ReadRecord (λ s. Some s.now) a b true f
    → true ≡ is_row f header → (unread_by b).rows ≡ rows_under header text
reads-header a b text header f config start strict source r same =
    let lengths = r.5 refl strict in
    let left : left_of b ≡ pending_of (Some b.rdr.now) b = rw r.1 refl in
    let (p, read, fields, state, after) = took st.StartRecord b.state (strip_bom text) (pending_of (Some b.rdr.now) b) f (rw (config, start, source) at r.0) in
    rw left (first-rows text header f b.state b.expected (pending_of (Some b.rdr.now) b) p read fields state after lengths.1 same)

-- a reader that has read the header
pub header-reading : (a b : Reader (Bor (List ℕ))) (text : List ℕ) (f : List (List ℕ))
    → a.config ≡ default_config → a.state ≡ st.StartRecord → a.flexible ≡ false → a.trim ≡ trim.None
    → left_of a ≡ Some (strip_bom text) → ReadRecord (λ s. Some s.now) a b true f → b.first ≡ true
    → b.flexible ≡ a.flexible → IsReading b
header-reading a b text f config start strict trims source r first same =
    let lengths = r.5 refl strict in
    let (p, read, fields, state, left) = took st.StartRecord b.state (strip_bom text) (pending_of (Some b.rdr.now) b) f (rw (config, start, source) at r.0) in
    let after : left_of b ≡ pending_of (Some b.rdr.now) b = rw r.1 refl in
    let q = leaves-fewer st.StartRecord (strip_bom text) p refl read in
    record {
      trim = r.3 ∙ trims;
      first = first;
      config = r.2 ∙ config;
      strict = same ∙ strict;
      width = rw lengths.1 refl;
      source = rw (after, left) refl;
      between = rw state q.1;
    }

-- a byte order mark is removed, and nothing is put there
strip-shorter : (text : List ℕ) → length (strip_bom text) ≤ length text
unfolding strip_bom
strip-shorter [] = omega arith
strip-shorter (a ∷ []) = omega arith
strip-shorter (a ∷ b ∷ []) = omega arith
strip-shorter (a ∷ b ∷ c ∷ rest) = by (is_bom a b c)
  where
    by : (t : Bool) → length (if t then rest else a ∷ b ∷ c ∷ rest) ≤ length (a ∷ b ∷ c ∷ rest)
    by true = omega arith
    by false = omega arith

-- a reader that has read the header has fewer bytes left than the text
pub header-size : (a b : Reader (Bor (List ℕ))) (text : List ℕ) (f : List (List ℕ)) (most : ℕ)
    → a.config ≡ default_config → a.state ≡ st.StartRecord
    → left_of a ≡ Some (strip_bom text) → ReadRecord (λ s. Some s.now) a b true f
    → length text < most → (unread_by b).size < most
header-size a b text f most config start source r few =
    let (p, read, fields, state, left) = took st.StartRecord b.state (strip_bom text) (pending_of (Some b.rdr.now) b) f (rw (config, start, source) at r.0) in
    let after : left_of b ≡ pending_of (Some b.rdr.now) b = rw r.1 refl in
    let fewer : length p.2 < length (strip_bom text) = (leaves-fewer st.StartRecord (strip_bom text) p refl read).0 in
    let shorter : length (strip_bom text) ≤ length text = strip-shorter text in
    rw (after, left) (omega arith)

-- a text whose first record is no header
other-first : (text : List ℕ) (header f : List (List ℕ)) (t : State) (k : Option (List ℕ))
    → ReadsNext default_config st.StartRecord (Some (strip_bom text)) k true f t
    → is_row f header ≡ false → rows_under header text ≡ None
unfolding records_of
other-first text header f t k r other =
    let (p, read, fields, state, left) = took st.StartRecord t (strip_bom text) k f r in
    rw (records-step st.StartRecord (strip_bom text) p refl read, ← fields)
    (by (list_all (λ (row : List (List ℕ)). length row == length f) (records_from default_config (length p.2 + 1) p.1 p.2)) (records_from default_config (length p.2 + 1) p.1 p.2))
  where
    by : (b : Bool) (rest : List (List (List ℕ)))
        → option_and_then (under header) (if b then Some (f ∷ rest) else None) ≡ None
    by true rest = rw other refl
    by false rest = refl

no-first : (text : List ℕ) (header f : List (List ℕ)) (t : State) (k : Option (List ℕ))
    → ReadsNext default_config st.StartRecord (Some (strip_bom text)) k false f t
    → rows_under header text ≡ None
unfolding records_of
no-first text header f t k r =
    rw (records-end st.StartRecord (strip_bom text) (ended st.StartRecord t (strip_bom text) k f r)) refl

pub reads-no-header : (a b : Reader (Bor (List ℕ))) (text : List ℕ) (header f : List (List ℕ))
    (found : Bool) → a.config ≡ default_config → a.state ≡ st.StartRecord
    → left_of a ≡ Some (strip_bom text) → ReadRecord (λ s. Some s.now) a b found f
    → (found && is_row f header) ≡ false → rows_under header text ≡ None
reads-no-header a b text header f true config start source r other =
    other-first text header f b.state (pending_of (Some b.rdr.now) b) (rw (config, start, source) at r.0) other
reads-no-header a b text header f false config start source r other =
    no-first text header f b.state (pending_of (Some b.rdr.now) b) (rw (config, start, source) at r.0)
