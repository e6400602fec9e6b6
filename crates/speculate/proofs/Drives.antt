-- The board's replies while a line is run alone, and the steps that were made.
use Rattle.std.proofs.Common.{◌≡◌, ◌≢◌, ℕ, suc, ◌+◌, ◌-◌, ◌<◌, ◌⊎◌, List, [], ◌∷◌, ◌++◌, Option, Some, None, length, replicate, inl, inr, zero, refl, sym, ap, subst, ◌∙◌, arith, option_map, cond, get_or, map, take, sum_by, true, false, Bool}
use Rattle.std.specs.BTreeMap.{is_at}
use Rattle.std.proofs.lemmas.Bool.{cases_lt}
use Rattle.std.proofs.lemmas.List.{get_or-replicate, get_or_past, length-replicate, take_more}
use Rattle.std.proofs.lemmas.List.Sums.{sum_by-cons}
use Rattle.std.proofs.lemmas.Option.{none-some, same_Some}
use Rattle.circ_records.specs.Keys.{key_cmp}
use Rattle.circ_records.specs.declared.key.Key.{Key}
use Rattle.message_meaning.specs.Needs.{IsNeed}
use Rattle.read_set.specs.Notes.{note_of, noted, IsOnceEach}
use Rattle.read_set.specs.Plans.{Planned}
use Rattle.read_set.specs.Settling.{Contents}
use Rattle.read_set.specs.declared.notes.Name.{Name}
use Rattle.read_set.specs.declared.notes.Note.{Note}
use Rattle.read_set.specs.declared.version.Need.{Need}
use Rattle.read_set.specs.declared.version.Need.TheVariants as needs
use Rattle.version_store.specs.declared.table.Place.{Place}
use Rattle.board_steps.specs.Board.{Board, EachNote, IsCommitted, IsLine, Row, State, blank, holder, live_of, row_at}
use Rattle.board_steps.specs.Board.State.{Waiting, Running, Placing, Done, Checking, Committed}
use Rattle.board_steps.specs.Reached.{Reached, live}
use Rattle.board_steps.specs.Steps.{ByVersion, Call, IsVersion, Reply, Run, Step, opening, opening_row}
use Rattle.board_steps.specs.Steps.Call.{Take, Look, Publish, Check, Commit}
use Rattle.board_steps.specs.Steps.Reply.{Idle, Taken, Seen, Stranger, Placed, Lifted, Whole, Same, Commits, Later, Attempts, ClockSpent as Spent}
use Rattle.board_steps.proofs.Entries.{same_keys}
use Rattle.board_steps.proofs.Lines.{row_before, row_from}
use Rattle.speculate.specs.Driving.{IsDriven, IsNew, MayStop, RunsTo}
use Rattle.speculate.specs.Finishing.{IsWhole}
use Rattle.speculate.specs.Needed.{SettlesIfDone}
use Rattle.board_lines.specs.Notes.{found_by, contents_at}
use Rattle.speculate.specs.Devices.Phases.{Appears, AreFresh, Drives, GoesOn, Holds, IsAppearing, Proves, Reads, Stands, Waits}
use Rattle.board_lines.specs.Replies.{Answers, Grows}
use Rattle.board_lines.specs.declared.reply.Reply.{Reply as CodeReply}
use Rattle.board_lines.specs.declared.reply.Reply.TheVariants as replies
use Rattle.speculate.specs.declared.steps.BoardFault.TheVariants as faults
use Rattle.read_set.proofs.Keeping.{fresh-at}
use Rattle.speculate.proofs.Phases.{IsFor, IsKept, check_never_changes, check_never_idle, check_never_spent, commit_never_idle, commit_never_later, look_goes, look_never_idle, look_never_stops, publish_never_idle, publish_no_stranger, spares_none, spares_on, spares_same, step_spares, take_never_idle, take_never_spent}

-- ---- steps that were made
pub runs_none : (plan : Planned) (b : Board) → RunsTo plan b b
runs_none plan b = ([], refl)

run_on : (plan : Planned) (a b c : Board) (xs ys : List (Call × Reply)) → Run plan a xs b → Run plan b ys c → Run plan a (xs ++ ys) c
run_on plan a b c [] ys r s = subst (λ x. Run plan x ys c) r s
run_on plan a b c (x ∷ xs) ys r s = (r.0, (r.1.0, r.1.1, run_on plan r.1.0 b c xs ys r.1.2 s))

pub runs_on : (plan : Planned) (a b c : Board) → RunsTo plan a b → RunsTo plan b c → RunsTo plan a c
runs_on plan a b c r s = (r.0 ++ s.0, run_on plan a b c r.0 s.0 r.1 s.1)

-- a reply of code that is neither a stop nor a failed check
abbrev pub KeptReply : {J : Type 0} → CodeReply J → Type 0
KeptReply (replies.Suspect line) = ⊥
KeptReply (replies.Changed key noted found) = ⊥
KeptReply _ = Unit {0}

abbrev pub KeptStep : Planned → Board → Call → Board → Type 0
KeptStep plan old call new = (new ≡ old) ⊎ ((r : Reply) × IsKept r × Step plan old call r new)

kept_step : {J : Type 0} (plan : Planned) (old new : Board) (call : Call) (reply : CodeReply J) → KeptReply reply → Answers plan old call reply new → KeptStep plan old call new
kept_step plan old new call replies.Idle kept h = inr (Idle, tt, h)
kept_step plan old new call (replies.Taken attempt) kept h = inr (Taken attempt, tt, h)
kept_step plan old new (Look w k) (replies.Seen name place) kept h = inr (Seen name (found_by plan.base k (option_map contents_at place)), tt, h)
kept_step plan old new (Take w n) (replies.Seen name place) kept h = absurd h
kept_step plan old new (Publish w v) (replies.Seen name place) kept h = absurd h
kept_step plan old new (Check w n) (replies.Seen name place) kept h = absurd h
kept_step plan old new (Commit n) (replies.Seen name place) kept h = absurd h
kept_step plan old new call (replies.Suspect line) kept h = absurd kept
kept_step plan old new call replies.Stranger kept h = inr (Stranger, tt, h)
kept_step plan old new call replies.Placed kept h = inr (Placed, tt, h)
kept_step plan old new call replies.Lifted kept h = inr (Lifted, tt, h)
kept_step plan old new call replies.Whole kept h = inr (Whole, tt, h)
kept_step plan old new call replies.Same kept h = inr (Same, tt, h)
kept_step plan old new call (replies.Changed key noted found) kept h = absurd kept
kept_step plan old new call replies.Committed kept h = inr (Commits, tt, h)
kept_step plan old new call replies.Later kept h = inr (Later, tt, h)
kept_step plan old new call (replies.Attempts line) kept h = inr (Attempts line, tt, h)
kept_step plan old new call replies.ClockSpent kept h = inr (Spent, tt, h)
kept_step plan old new call replies.Memory kept h = inl h.1

kept_drives : (plan : Planned) (line : ℕ) (old new : Board) (call : Call) → ByVersion plan call → IsFor old line call → KeptStep plan old call new → Drives plan old new line
kept_drives plan line old new call by for (inl same) = record { led = ([], same); spares = spares_same plan old new line same }
kept_drives plan line old new call by for (inr (r, kept, step)) = record { led = ((call, r) ∷ [], (by, (new, step, refl))); spares = step_spares plan old new line call r for kept step }

-- a call of the board for the line
pub drives : {J : Type 0} (plan : Planned) (line : ℕ) (old new : Board) (call : Call) (reply : CodeReply J) → ByVersion plan call → IsFor old line call → KeptReply reply → Answers plan old call reply new → Drives plan old new line
drives plan line old new call reply by for kept h = kept_drives plan line old new call by for (kept_step plan old new call reply kept h)

pub drives_none : (plan : Planned) (b : Board) (line : ℕ) → Drives plan b b line
drives_none plan b line = record { led = runs_none plan b; spares = spares_none b line }

pub drives_on : (plan : Planned) (line : ℕ) (a b c : Board) → Drives plan a b line → Drives plan b c line → Drives plan a c line
drives_on plan line a b c x y = record { led = runs_on plan a b c x.led y.led; spares = spares_on a b c line x.spares y.spares }

-- ---- take
pub take_only : {J : Type 0} (plan : Planned) (b new : Board) (line : ℕ) (reply : CodeReply J) → Waits plan b line → Answers plan b (Take 0 line) reply new → ((a : ℕ) → reply ≡ replies.Taken a → ⊥) → ⊥
take_only plan b new line (replies.Taken a) waits h not = not a refl
take_only plan b new line replies.Idle waits h not = take_never_idle plan b line waits new h
take_only plan b new line (replies.Attempts m) waits h not = take_never_spent plan b line waits m new h
take_only plan b new line replies.Memory waits h not = h.0
take_only plan b new line (replies.Seen name place) waits h not = h
take_only plan b new line (replies.Suspect m) waits h not = h
take_only plan b new line replies.Stranger waits h not = h
take_only plan b new line replies.Placed waits h not = h
take_only plan b new line replies.Lifted waits h not = h
take_only plan b new line replies.Whole waits h not = h
take_only plan b new line replies.Same waits h not = h
take_only plan b new line (replies.Changed key name found) waits h not = h
take_only plan b new line replies.Committed waits h not = h
take_only plan b new line replies.Later waits h not = h
take_only plan b new line replies.ClockSpent waits h not = h

-- ---- look
at_own_key : (k : Key) (x : Note) (b : Bool) → is_at (key_cmp k) x.key ≡ b → x.key ≡ k → b ≡ true
at_own_key k x b is e = sym is ∙ ap (λ q. is_at (key_cmp k) q) e ∙ same_keys k

none_before : (b : Bool) (x : Note) (rest : Option Note) → cond b (Some x) rest ≡ None → (b ≡ false) × (rest ≡ None)
none_before true x rest e = absurd (cc)
none_before false x rest e = (refl, e)

-- a key that isn't noted is that of no note
pub unnoted : (notes : List Note) (k : Key) → note_of notes k ≡ None → EachNote notes (λ x. x.key ≢ k)
unnoted [] k e j x at = absurd (none-some x at)
unnoted (n ∷ notes) k e zero x at =
    let same : n ≡ x = same_Some n x at in
    λ h. (let z : false ≡ true = sym (none_before (is_at (key_cmp k) n.key) n (note_of notes k) e).0 ∙ at_own_key k n _ refl (ap (λ (y : Note). y.key) same ∙ h) in cc)
unnoted (n ∷ notes) k e (suc j) x at = unnoted notes k (none_before (is_at (key_cmp k) n.key) n (note_of notes k) e).1 j x at

none_noted_so : (o : Option Note) → option_map (λ (n : Note). n.found) o ≡ None → o ≡ None
none_noted_so None e = refl
none_noted_so (Some x) e = absurd (cc)

pub wanted_none : (notes : List Note) (k : Key) → noted notes k ≡ None → note_of notes k ≡ None
wanted_none notes k e = none_noted_so (note_of notes k) e

none_cons : (b : Bool) (x : Note) (rest : Option Note) → b ≡ false → rest ≡ None → cond b (Some x) rest ≡ None
none_cons true x rest e r = absurd (cc)
none_cons false x rest e r = r

-- whether a key is noted is a matter of the keys alone
pub none_by_keys : (a b : List Note) (k : Key) → map (λ (n : Note). n.key) a ≡ map (λ (n : Note). n.key) b → note_of a k ≡ None → note_of b k ≡ None
none_by_keys a [] k e h = refl
none_by_keys [] (n ∷ b) k e h = absurd (cc)
none_by_keys (m ∷ a) (n ∷ b) k e h =
    let head : m.key ≡ n.key = cc in
    let tail : map (λ (x : Note). x.key) a ≡ map (λ (x : Note). x.key) b = cc in
    let p = none_before (is_at (key_cmp k) m.key) m (note_of a k) h in
    none_cons (is_at (key_cmp k) n.key) n (note_of b k) (sym (ap (λ (q : Key). is_at (key_cmp k) q) head) ∙ p.0) (none_by_keys a b k tail p.1)

pub keys_more : (notes : List Note) (x : Note) → map (λ (n : Note). n.key) (notes ++ x ∷ []) ≡ map (λ (n : Note). n.key) notes ++ x.key ∷ []
keys_more [] x = refl
keys_more (n ∷ notes) x = ap (λ (ks : List Key). n.key ∷ ks) (keys_more notes x)

-- the next key of a list in which each is once, where those before it are noted
pub next_unnoted : (notes asked : List Note) (i : ℕ) (x : Note) → map (λ (n : Note). n.key) notes ≡ map (λ (n : Note). n.key) (take i asked) → IsOnceEach asked → i < length asked → x ≡ get_or asked i x
    → noted notes x.key ≡ None
next_unnoted notes asked i x e once lt at =
    ap (λ (o : Option Note). option_map (λ (n : Note). n.found) o) (none_by_keys (take i asked) notes x.key (sym e) (fresh-at asked i x once lt at))

-- and the keys with it
pub next_keys : (asked : List Note) (i : ℕ) (x : Note) → i < length asked → x ≡ get_or asked i x → map (λ (n : Note). n.key) (take (i + 1) asked) ≡ map (λ (n : Note). n.key) (take i asked) ++ x.key ∷ []
next_keys asked i x lt at =
    ap (λ (ns : List Note). map (λ (n : Note). n.key) ns) (take_more asked i x lt ∙ ap (λ (v : Note). take i asked ++ v ∷ []) (sym at))
    ∙ keys_more (take i asked) x

pub look_seen : {J : Type 0} (plan : Planned) (b new : Board) (line : ℕ) (notes : List Note) (k : Key) (name : Name) (place : Option (Place J)) → Reads plan b line notes → Answers plan b (Look 0 k) (replies.Seen name place) new
    → Reads plan new line (notes ++ record { key = k; name = name; found = found_by plan.base k (option_map contents_at place) } ∷ []) × ((row_at new line).next ≡ (row_at b line).next)
look_seen plan b new line notes k name place reads h = look_goes plan b line notes reads k name (found_by plan.base k (option_map contents_at place)) new h

-- nothing else comes but that memory runs out
pub look_only : {J : Type 0} (plan : Planned) (b new : Board) (line : ℕ) (notes : List Note) (k : Key) (reply : CodeReply J) → Reads plan b line notes → noted notes k ≡ None → Answers plan b (Look 0 k) reply new
    → ((name : Name) (place : Option (Place J)) → reply ≡ replies.Seen name place → ⊥) → (reply ≢ replies.Memory) → ⊥
look_only plan b new line notes k (replies.Seen name place) reads none h s m = s name place refl
look_only plan b new line notes k replies.Memory reads none h s m = m refl
look_only plan b new line notes k replies.Idle reads none h s m = look_never_idle plan b line notes reads k new (unnoted notes k (wanted_none notes k none)) h
look_only plan b new line notes k (replies.Suspect n) reads none h s m = look_never_stops plan b line notes reads k n new h
look_only plan b new line notes k (replies.Taken a) reads none h s m = h
look_only plan b new line notes k (replies.Attempts n) reads none h s m = h
look_only plan b new line notes k replies.Stranger reads none h s m = h
look_only plan b new line notes k replies.Placed reads none h s m = h
look_only plan b new line notes k replies.Lifted reads none h s m = h
look_only plan b new line notes k replies.Whole reads none h s m = h
look_only plan b new line notes k replies.Same reads none h s m = h
look_only plan b new line notes k (replies.Changed key name found) reads none h s m = h
look_only plan b new line notes k replies.Committed reads none h s m = h
look_only plan b new line notes k replies.Later reads none h s m = h
look_only plan b new line notes k replies.ClockSpent reads none h s m = h

-- ---- a version
appears_of : (plan : Planned) (b : Board) (line a : ℕ) (notes : List Note) (v : Contents) → Reads plan b line notes → suc a ≡ (row_at b line).next → (v.line ≡ line) × (v.attempt ≡ a) × (v.reads ≡ notes) → IsVersion plan v → Appears plan b line v
appears_of plan b line a notes v reads next of_it settles = record {
  goes = subst (λ ns. GoesOn plan b line ns) (sym of_it.2) reads.goes;
  state = inl (reads.state ∙ ap (λ (ns : List Note). Running 0 ns) (sym of_it.2));
  of_line = of_it.0;
  attempt = ap suc of_it.1 ∙ next;
  settles = settles;
}

-- the version that a line needs may be published
pub done_appears : {J : Type 0} (plan : Planned) (b : Board) (line a : ℕ) (notes : List Note) (next : Need J) (v : Contents) → Reads plan b line notes → suc a ≡ (row_at b line).next → IsNeed plan line a notes next → SettlesIfDone plan next → next ≡ needs.Done v → Appears plan b line v
done_appears plan b line a notes next v reads begun need settles is =
    let done = subst (λ x. IsNeed plan line a notes x) is need in
    appears_of plan b line a notes v reads begun (done.1, done.2, done.3) (subst (λ x. SettlesIfDone plan x) is settles)

-- ---- publish
pub spent_stops : (plan : Planned) (b new : Board) (v : Contents) → IsVersion plan v → Step plan b (Publish 0 v) Spent new → MayStop plan new faults.ClockSpent
spent_stops plan b new v settles h = (v, settles, subst (λ x. Step plan x (Publish 0 v) Spent x) (sym h.6) (subst (λ x. Step plan b (Publish 0 v) Spent x) h.6 h))

-- memory runs out where the line runs
pub reads_stops : (plan : Planned) (b : Board) (line : ℕ) (notes : List Note) → Reads plan b line notes → MayStop plan b faults.Memory
reads_stops plan b line notes reads = inl (line, notes, reads.state)

-- so also once a look has noted what it saw
pub seen_stops : {J : Type 0} (plan : Planned) (b new : Board) (line : ℕ) (notes : List Note) (k : Key) (name : Name) (place : Option (Place J)) → Reads plan b line notes → Answers plan b (Look 0 k) (replies.Seen name place) new → MayStop plan new faults.Memory
seen_stops plan b new line notes k name place reads h = reads_stops plan new line _ (look_seen plan b new line notes k name place reads h).0

-- and at an act of its publication, which leaves the board
appears_stops : (plan : Planned) (b : Board) (line : ℕ) (v : Contents) → Appears plan b line v → Grows plan b (Publish 0 v) → IsAppearing (row_at b line).state v → MayStop plan b faults.Memory
appears_stops plan b line v appears grows (inl runs) = inl (line, v.reads, runs)
appears_stops plan b line v appears grows (inr is) = inr (v, (line, v.reads, is), appears.settles, grows)

pub act_stops : (plan : Planned) (b new : Board) (line : ℕ) (v : Contents) → Appears plan b line v → Grows plan b (Publish 0 v) × (new ≡ b) → MayStop plan new faults.Memory
act_stops plan b new line v appears h = subst (λ x. MayStop plan x faults.Memory) (sym h.1) (appears_stops plan b line v appears h.0 appears.state)

pub publish_other : {J : Type 0} (plan : Planned) (b new : Board) (line : ℕ) (v : Contents) (reply : CodeReply J) → Appears plan b line v → Answers plan b (Publish 0 v) reply new
    → (reply ≢ replies.Placed) → (reply ≢ replies.Lifted) → (reply ≢ replies.Whole) → (reply ≢ replies.ClockSpent) → (reply ≢ replies.Memory) → ⊥
publish_other plan b new line v replies.Placed appears h p l w c m = p refl
publish_other plan b new line v replies.Lifted appears h p l w c m = l refl
publish_other plan b new line v replies.Whole appears h p l w c m = w refl
publish_other plan b new line v replies.ClockSpent appears h p l w c m = c refl
publish_other plan b new line v replies.Memory appears h p l w c m = m refl
publish_other plan b new line v replies.Idle appears h p l w c m = publish_never_idle plan b line v appears new h
publish_other plan b new line v replies.Stranger appears h p l w c m = publish_no_stranger plan b line v appears new h
publish_other plan b new line v (replies.Taken a) appears h p l w c m = h
publish_other plan b new line v (replies.Attempts n) appears h p l w c m = h
publish_other plan b new line v (replies.Seen name place) appears h p l w c m = h
publish_other plan b new line v (replies.Suspect n) appears h p l w c m = h
publish_other plan b new line v replies.Same appears h p l w c m = h
publish_other plan b new line v (replies.Changed key name found) appears h p l w c m = h
publish_other plan b new line v replies.Committed appears h p l w c m = h
publish_other plan b new line v replies.Later appears h p l w c m = h

-- ---- check
pub check_other : {J : Type 0} (plan : Planned) (b new : Board) (line : ℕ) (reply : CodeReply J) → Proves plan b line → Answers plan b (Check 0 line) reply new → (reply ≢ replies.Same) → (reply ≢ replies.Whole) → ⊥
check_other plan b new line replies.Same proves h s w = s refl
check_other plan b new line replies.Whole proves h s w = w refl
check_other plan b new line (replies.Changed key name found) proves h s w = check_never_changes plan b line proves key name found new h
check_other plan b new line replies.ClockSpent proves h s w = check_never_spent plan b line proves new h
check_other plan b new line replies.Idle proves h s w = check_never_idle plan b line proves.notes proves.checks new h
check_other plan b new line replies.Memory proves h s w = h.0
check_other plan b new line (replies.Taken a) proves h s w = h
check_other plan b new line (replies.Attempts n) proves h s w = h
check_other plan b new line (replies.Seen name place) proves h s w = h
check_other plan b new line (replies.Suspect n) proves h s w = h
check_other plan b new line replies.Stranger proves h s w = h
check_other plan b new line replies.Placed proves h s w = h
check_other plan b new line replies.Lifted proves h s w = h
check_other plan b new line replies.Committed proves h s w = h
check_other plan b new line replies.Later proves h s w = h

-- ---- commit
pub commit_only : {J : Type 0} (plan : Planned) (b new : Board) (line : ℕ) (reply : CodeReply J) → Holds plan b line → Answers plan b (Commit line) reply new → (reply ≢ replies.Committed) → ⊥
commit_only plan b new line replies.Committed holds h not = not refl
commit_only plan b new line replies.Later holds h not = commit_never_later plan b line holds new h
commit_only plan b new line replies.Idle holds h not = commit_never_idle plan b line holds new h
commit_only plan b new line replies.Memory holds h not = h.0
commit_only plan b new line (replies.Taken a) holds h not = h
commit_only plan b new line (replies.Attempts n) holds h not = h
commit_only plan b new line (replies.Seen name place) holds h not = h
commit_only plan b new line (replies.Suspect n) holds h not = h
commit_only plan b new line replies.Stranger holds h not = h
commit_only plan b new line replies.Placed holds h not = h
commit_only plan b new line replies.Lifted holds h not = h
commit_only plan b new line replies.Whole holds h not = h
commit_only plan b new line replies.Same holds h not = h
commit_only plan b new line (replies.Changed key name found) holds h not = h
commit_only plan b new line replies.ClockSpent holds h not = h

-- ---- all lines
-- the lines of a new board wait for their first attempt, and no worker has one in hand
opening_rows : (plan : Planned) (workers m : ℕ) → row_at (opening plan workers 0 0) m ≡ opening_row 0
opening_rows plan workers m = elim (cases_lt m plan.first) [
  | inl lt ↦ row_before (opening plan workers 0 0) m lt
  | inr le ↦ row_from (opening plan workers 0 0) m le ∙ elim (cases_lt (m - plan.first) (length plan.readings)) [
    | inl within ↦ get_or-replicate (length plan.readings) (m - plan.first) (opening_row 0) blank within
    | inr past ↦ get_or_past (replicate (length plan.readings) (opening_row 0)) (m - plan.first) blank (omega (arith, past, length-replicate {A = Row}))
  ]
]

new_rows : (plan : Planned) (b : Board) → IsNew plan b → (m : ℕ) → row_at b m ≡ opening_row 0
new_rows plan b (workers, some, e) m = ap (λ (x : Board). row_at x m) e ∙ opening_rows plan workers m

pub new_fresh : (plan : Planned) (b : Board) → IsNew plan b → AreFresh b (plan.first + 0)
new_fresh plan b new = record {
  above = λ m le. new_rows plan b new m;
  failed = ap (λ (x : Board). x.failed) new.2;
  stops = ap (λ (x : Board). x.stops) new.2;
}

pub new_stands : (plan : Planned) (b : Board) → Reached plan b → IsNew plan b → Stands plan b (plan.first + 0)
new_stands plan b reached new = record {
  reached = reached;
  worker = let e : b.workers ≡ new.0 = ap (λ (x : Board). x.workers) new.2 in omega (arith, new.1, e);
  commits = ap (λ (x : Board). plan.first + x.committed) new.2;
  others = λ m w ne h. none-some w (sym (ap (λ (r : Row). holder r.state) (new_rows plan b new m)) ∙ h);
}

pub line_there : (plan : Planned) (b : Board) (i : ℕ) → Reached plan b → i < length plan.readings → IsLine b (plan.first + i)
line_there plan b i reached lt = (omega (arith, reached.first), omega (arith, lt, reached.first, reached.all))

-- all lines are committed
all_whole : (plan : Planned) (b : Board) → Stands plan b (plan.first + length plan.readings) → IsWhole b
all_whole plan b stands m there =
    let reached = stands.reached in
    reached.rows.first m (omega (arith, there.0, reached.first)) (omega (arith, there.1, reached.first, reached.all, stands.commits))

live_committed : (s : State) → IsCommitted s → live_of s ≡ 0
live_committed (Committed answer) is = refl
live_committed Waiting is = absurd is
live_committed (Running w notes) is = absurd is
live_committed (Placing w notes last) is = absurd is
live_committed (Done notes answer stamp) is = absurd is
live_committed (Checking w notes answer t i) is = absurd is

none_live : (rows : List Row) → ((i : ℕ) → i < length rows → IsCommitted (get_or rows i blank).state) → sum_by (λ (r : Row). live_of r.state) rows ≡ 0
none_live [] each = refl
none_live (r ∷ rows) each =
    let here : live_of r.state ≡ 0 = live_committed r.state (each 0 (omega arith)) in
    let rest : sum_by (λ (x : Row). live_of x.state) rows ≡ 0 = none_live rows (λ i lt. each (suc i) (omega (arith, lt))) in
    omega (arith, sum_by-cons (λ (x : Row). live_of x.state) r rows, here, rest)

row_place : (b : Board) (i : ℕ) → row_at b (b.first + i) ≡ get_or b.rows i blank
row_place b i = let e : b.first + i - b.first ≡ i = omega arith in row_from b (b.first + i) (omega arith) ∙ ap (λ p. get_or b.rows p blank) e

pub driven : (plan : Planned) (b : Board) → Stands plan b (plan.first + length plan.readings) → AreFresh b (plan.first + length plan.readings) → IsDriven plan b
driven plan b stands fresh =
    let all : IsWhole b = all_whole plan b stands in
    let none : live b ≡ 0 = none_live b.rows (λ i lt. subst (λ (r : Row). IsCommitted r.state) (row_place b i) (all (b.first + i) (omega arith, omega (arith, lt)))) in
    let commits : b.committed ≡ length plan.readings = omega (arith, stands.commits) in
    record {
      whole = all;
      commits = commits;
      takes = omega (arith, stands.reached.counted, commits, fresh.failed, fresh.stops, none);
      failed = fresh.failed;
      stops = fresh.stops;
    }
