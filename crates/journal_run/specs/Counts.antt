-- What is counted of logs and captures, and the status of that.
use Rattle.std.specs.Prelude.{◌&&◌, ◌++◌, ◌+◌, ◌/◌, ◌==◌, ℕ, [], Bool, List, codes, decimal, if◌then◌else◌, nat_lt}
use Rattle.journal_run.specs.Sums.{Sums}
use Rattle.journal_run.specs.declared.tally.LogTally.{LogTally}

-- what was read, and how many exchanges that has
abbrev pub head_counts : LogTally → ℕ → List ℕ
head_counts t exchanges = if t.is_of_packets then codes "packets " ++ (decimal t.lines ++ (codes " exchanges " ++ decimal exchanges))
    else codes "lines " ++ (decimal t.lines ++ (codes " exchanges " ++ decimal exchanges))

-- requests and responses that are alone, and lines that say nothing
abbrev pub spare_counts : ℕ → ℕ → ℕ → List ℕ
spare_counts unanswered unasked skipped =
    codes " without-response " ++ (decimal unanswered ++ (codes " without-request " ++ (decimal unasked ++ (codes " skipped " ++ decimal skipped))))

-- messages that are odd
abbrev pub odd_counts : LogTally → List ℕ
odd_counts t = codes " unknown " ++ (decimal t.unknown ++ (codes " wrong-checksum " ++ (decimal t.wrong ++ (codes " without-checksum " ++ (decimal t.lacking ++ (codes " unterminated " ++ decimal t.unterminated))))))

-- requests that were sent again, and responses that don't fit theirs
abbrev pub pair_counts : ℕ → ℕ → List ℕ
pair_counts repeated mismatched = codes " repeated " ++ (decimal repeated ++ (codes " mismatched " ++ decimal mismatched))

-- the counts of captured streams
abbrev pub stretch_counts : LogTally → List ℕ
stretch_counts t = if t.is_of_packets then codes " gaps " ++ decimal t.gaps ++ codes " parts " ++ decimal t.parts else []

-- the counts of what was left out of captures
abbrev pub left_counts : LogTally → List ℕ
left_counts t = if t.is_of_packets then
    codes " cut " ++ (decimal t.cuts ++ (codes " fragments " ++ (decimal t.fragments ++ (codes " stray " ++ (decimal t.strays ++ (codes " foreign " ++ (decimal t.foreign ++ (codes " foreign-bytes " ++ decimal t.foreign_bytes)))))))) else []

-- the line of counts
abbrev pub counts_line : LogTally → Sums → List ℕ
counts_line t s = head_counts t s.exchanges ++ (spare_counts s.unanswered s.unasked t.skipped ++ (odd_counts t ++ (pair_counts t.repeated s.mismatched ++ (stretch_counts t ++ (left_counts t ++ codes "\n")))))

-- more than one message in ten is odd
abbrev pub is_too_odd : LogTally → Bool
is_too_odd t = nat_lt (t.messages / 10) (t.unknown + t.wrong + t.lacking + t.unterminated)

-- nothing is odd
abbrev pub is_clean : LogTally → Bool
is_clean t = (t.unknown == 0) && (t.wrong == 0) && (t.lacking == 0) && (t.unterminated == 0) && (t.repeated == 0) && (t.falls == 0) && (t.gaps == 0) && (t.parts == 0) && (t.cuts == 0) && (t.fragments == 0) && (t.strays == 0)

-- there are pairs, and each request has its response and each response its request
abbrev pub is_complete : Sums → Bool
is_complete s = (nat_lt 0 s.exchanges) && (s.unanswered == 0) && (s.unasked == 0) && (s.mismatched == 0)

-- 0 where all is whole, and nothing is odd
abbrev pub ended_status : LogTally → Sums → ℕ
ended_status t s = if is_clean t && is_complete s then 0 else 1
