-- What is collected of a board on which all lines are committed is what the replay by one thread
-- leaves.
use Rattle.std.proofs.Common.{◌≡◌, ◌∙◌, ◌+◌, ◌-◌, ◌<◌, ◌≤◌, ◌||◌, ℕ, zero, suc, Bool, true, false, cond, List, [], ◌∷◌, ◌++◌, length, map, replicate, Option, Some, None, refl, sym, ap, arith}
use Rattle.std.specs.BTreeMap.{is_at}
use Rattle.std.specs.FinMap as fin
use Rattle.std.specs.List.{flat_map, list_any, range_with_len}
use Rattle.std.specs.Map.{lookup}
use Rattle.std.specs.Prelude.{get_or, if◌then◌else◌, nat_lt, slice_get}
use Rattle.std.specs.Option.{is_some}
use Rattle.std.proofs.lemmas.List.Folds.{list_any-append}
use Rattle.std.proofs.lemmas.Bool.Decides.{nat_tests}
use Rattle.std.proofs.lemmas.Option.{slice_get_past}
use Rattle.std.proofs.lemmas.List.FromFn.{map-range_with_len_more}
use Rattle.circ_records.specs.Keys.{key_cmp}
use Rattle.circ_records.specs.Records.{Entries, record_at}
use Rattle.circ_records.specs.declared.key.Key.{Key}
use Rattle.sip_reader.specs.declared.request.Reading.{Reading}
use Rattle.sip_answer.specs.declared.answer.Answer.{Answer}
use Rattle.board_steps.specs.Board.{Board, IsCommitted, State, entry, entry_over, row_at}
use Rattle.board_steps.specs.Board.State.{Waiting, Running, Placing, Done, Checking, Committed}
use Rattle.board_steps.specs.Reached.{Reached}
use Rattle.board_steps.proofs.Histories.{committed_ok}
use Rattle.read_set.specs.Plans.{Planned, reading_at}
use Rattle.read_set.specs.Replay.{after, answer_of, before, last, one_at, one_by}
use Rattle.speculate.specs.BoardEnds.{entered_on}
use Rattle.result_report.specs.Ends.{AreRecordsAt, keys_named, lines_keys, named_keys, numbers_of, only_at}
use Rattle.speculate.specs.Finishing.{IsWhole}
use Rattle.version_store.specs.Entries.{Shown}
use Rattle.replay_run.specs.Answers.{answers_of, first_answers}
use Rattle.replay_run.specs.Entries.{AreEntries}
use Rattle.replay_run.specs.ReplayEnd.{ChangeThere, entered_at, keys_at}

-- the position of a line is its number's
place_back : (plan : Planned) (n : ℕ) → plan.first + n - plan.first ≡ n
place_back plan n = omega arith

-- ---- answers
answers_first : (plan : Planned) (n : ℕ) → map (answer_of plan) (range_with_len plan.first n) ≡ first_answers plan n
answers_first plan zero = refl
answers_first plan (suc n) =
    let next : suc n ≡ n + 1 = omega arith in
    ap (λ m. map (answer_of plan) (range_with_len plan.first m)) next
    ∙ map-range_with_len_more (answer_of plan) plan.first n _ refl
    ∙ ap (λ (given : List (Option Answer)). given ++ answer_of plan (plan.first + n) ∷ []) (answers_first plan n)
    ∙ ap (λ m. first_answers plan n ++ (one_at plan (plan.first + n) (after plan m)).1 ∷ []) (place_back plan n)

-- the answers of the lines by their numbers are those in the order of the journal
pub answers_by_number : (plan : Planned) → map (answer_of plan) (numbers_of plan) ≡ answers_of plan
answers_by_number plan = answers_first plan (length plan.readings)

-- ---- records
or_left : (a b : Bool) → (a || b) ≡ false → a ≡ false
or_left false b e = refl
or_left true b e = e

or_right : (a b : Bool) → (a || b) ≡ false → b ≡ false
or_right false b e = e
or_right true b e = absurd (cc e)

-- a key that isn't among those of all lines isn't among those of one
none_each : (p : Key → Bool) (f : ℕ → List Key) (a n : ℕ)
    → list_any p (flat_map f (range_with_len a n)) ≡ false → (i : ℕ) → i < n
    → list_any p (f (a + i)) ≡ false
none_each p f a zero none i lt = absurd (omega arith)
none_each p f a (suc n) none zero lt =
    let at : a + 0 ≡ a = omega arith in
    ap (λ m. list_any p (f m)) at
    ∙ or_left (list_any p (f a)) (list_any p (flat_map f (range_with_len (a + 1) n)))
    (sym (list_any-append p (f a) (flat_map f (range_with_len (a + 1) n))) ∙ none)
none_each p f a (suc n) none (suc i) lt =
    let at : a + suc i ≡ a + 1 + i = omega arith in
    ap (λ m. list_any p (f m)) at
    ∙ none_each p f (a + 1) n
    (or_right (list_any p (f a)) (list_any p (flat_map f (range_with_len (a + 1) n))) (sym (list_any-append p (f a) (flat_map f (range_with_len (a + 1) n))) ∙ none)) i (omega arith)

pub unfound : {X : Type 0} (p : Key → Bool) (entries : List (Key × X))
    → list_any p (map (λ e. e.0) entries) ≡ false → lookup p entries ≡ None
unfound p [] none = refl
unfound p (e ∷ entries) none =
    ap (λ b. cond b (Some e.1) (lookup p entries)) (or_left (p e.0) (list_any p (map (λ x. x.0) entries)) none)
    ∙ unfound p entries (or_right (p e.0) (list_any p (map (λ x. x.0) entries)) none)

is_none : {X : Type 0} (o : Option X) → is_some o ≡ false → o ≡ None
is_none None e = refl
is_none (Some x) e = absurd (cc e)

keys_shown : (entries : List (Key × Shown))
    → keys_named (map (λ e. (e.0, e.1.attempt)) entries) ≡ map (λ e. e.0) entries
keys_shown [] = refl
keys_shown (e ∷ entries) = ap (λ (ks : List Key). e.0 ∷ ks) (keys_shown entries)

-- a key that isn't among those of a line has no entry of it
no_entry : (b : Board) (line : ℕ) (k : Key)
    → list_any (is_at (key_cmp k)) (keys_named (entered_on b line)) ≡ false
    → entry (row_at b line) k ≡ None
no_entry b line k none =
    is_none (entry (row_at b line) k)
    (fin.contains_key-keys (row_at b line).entries k ∙ ap (list_any (is_at (key_cmp k))) (sym (keys_shown (fin.entries (row_at b line).entries))) ∙ none)

committed_map : (plan : Planned) (b : Board) → Reached plan b → (n : ℕ) (s : State)
    → (row_at b n).state ≡ s → IsCommitted s → (k : Key)
    → entry_over (entry (row_at b n) k) k (before plan n k) ≡ before plan (suc n) k
committed_map plan b reached n (Committed answer) is h = (committed_ok plan b reached n answer is).map
committed_map plan b reached n Waiting is h = absurd h
committed_map plan b reached n (Running w notes) is h = absurd h
committed_map plan b reached n (Placing w notes last) is h = absurd h
committed_map plan b reached n (Done notes answer stamp) is h = absurd h
committed_map plan b reached n (Checking w notes answer t i) is h = absurd h

-- what lines leave, each of which changes nothing at a key that it doesn't name
module _ (plan : Planned) (entered : ℕ → List (Key × ℕ))
    (kept : (n : ℕ) → n < length plan.readings → (k : Key) → list_any (is_at (key_cmp k)) (keys_named (entered (plan.first + n))) ≡ false → after plan n k ≡ after plan (suc n) k) where
  untouched : (k : Key) → list_any (is_at (key_cmp k)) (lines_keys entered (numbers_of plan))
      ≡ false → record_at plan.base k ≡ None → (n : ℕ) → n ≤ length plan.readings
      → after plan n k ≡ None
  untouched k none base zero le = base
  untouched k none base (suc n) le =
      sym (kept n le k (none_each (is_at (key_cmp k)) (λ line. keys_named (entered line)) plan.first (length plan.readings) none n le))
      ∙ untouched k none base n (omega arith)

  -- there is no record at a key that isn't named
  none_last : (k : Key) → list_any (is_at (key_cmp k)) (named_keys plan entered) ≡ false → last plan k ≡ None
  none_last k none =
      let split = sym (list_any-append (is_at (key_cmp k)) (map (λ e. e.0) plan.base) (lines_keys entered (numbers_of plan))) ∙ none in
      untouched k (or_right _ _ split) (unfound (is_at (key_cmp k)) plan.base (or_left _ _ split)) (length plan.readings) (omega arith)

  only_last : (k : Key) (among : Bool) → list_any (is_at (key_cmp k)) (named_keys plan entered)
      ≡ among → only_at (named_keys plan entered) (last plan) k ≡ last plan k
  only_last k true at = ap (λ a. cond a (last plan k) None) at
  only_last k false at = ap (λ a. cond a (last plan k) None) at ∙ sym (none_last k at)

  -- what is collected at the keys that are named is all that the replay leaves
  pub all_named : (entries : Entries) → AreRecordsAt (named_keys plan entered) (last plan) entries
      → AreEntries (last plan) entries
  all_named entries at = record {
    rising = at.rising;
    same = λ k. at.same k ∙ only_last k _ refl;
  }

  -- and all that it leaves is what would be collected
  pub named_all : (entries : Entries) → AreEntries (last plan) entries
      → AreRecordsAt (named_keys plan entered) (last plan) entries
  named_all entries at = record {
    rising = at.rising;
    same = λ k. at.same k ∙ sym (only_last k _ refl);
  }

module _ (plan : Planned) (b : Board) (reached : Reached plan b) (whole : IsWhole b) where
  -- a line changes nothing at a key at which it has no entry
  kept_by : (n : ℕ) → n < length plan.readings → (k : Key)
      → list_any (is_at (key_cmp k)) (keys_named (entered_on b (plan.first + n))) ≡ false
      → after plan n k ≡ after plan (suc n) k
  kept_by n lt k unnamed =
      let none = no_entry b (plan.first + n) k unnamed in
      let back : suc (plan.first + n) - plan.first ≡ suc n = omega arith in
      ap (λ m. after plan m k) (sym (place_back plan n))
      ∙ ap (λ e. entry_over e k (before plan (plan.first + n) k)) (sym none)
      ∙ committed_map plan b reached (plan.first + n) (row_at b (plan.first + n)).state refl
      (whole (plan.first + n) (
        omega (arith, reached.first),
        omega (arith, lt, reached.first, reached.all),
      )) k
      ∙ ap (λ m. after plan m k) back

  -- what is collected of the board is all that the replay leaves
  pub records_named : (entries : Entries) → AreRecordsAt (named_keys plan (entered_on b)) (last plan) entries → AreEntries (last plan) entries
  records_named entries at = all_named plan (entered_on b) kept_by entries at

-- ---- the end of one thread
module _ (plan : Planned) (written : List (List Key)) where
  keys_only : (keys : List Key) → keys_named (map (λ (key : Key). (key, 0)) keys) ≡ keys
  keys_only [] = refl
  keys_only (key ∷ keys) = ap (λ (ks : List Key). key ∷ ks) (keys_only keys)

  not_before : (n : ℕ) → nat_lt (plan.first + n) plan.first ≡ false
  not_before n = grind (arith, nat_tests)

  -- the keys of the line at a place, by its number
  pub entered_there : (n : ℕ) → entered_at plan.first written (plan.first + n)
      ≡ map (λ key. (key, 0)) (keys_at written n)
  entered_there n =
      ap (λ t. if t then [] else map (λ (key : Key). (key, 0)) (keys_at written (plan.first + n - plan.first))) (not_before n)
      ∙ ap (λ m. map (λ (key : Key). (key, 0)) (keys_at written m)) (place_back plan n)

  kept_alone : ChangeThere plan (length plan.readings) written
      → (n : ℕ) → n < length plan.readings → (k : Key)
      → list_any (is_at (key_cmp k)) (keys_named (entered_at plan.first written (plan.first + n)))
      ≡ false → after plan n k ≡ after plan (suc n) k
  kept_alone there n lt k none =
      there n lt k (sym (ap (λ entries. list_any (is_at (key_cmp k)) (keys_named entries)) (entered_there n) ∙ ap (list_any (is_at (key_cmp k))) (keys_only (keys_at written n))) ∙ none)

  -- what is collected of it is all that the replay leaves, and all that it leaves would be
  -- collected
  pub collected_alone : ChangeThere plan (length plan.readings) written → (entries : Entries)
      → AreRecordsAt (named_keys plan (entered_at plan.first written)) (last plan) entries
      → AreEntries (last plan) entries
  collected_alone there entries at = all_named plan (entered_at plan.first written) (kept_alone there) entries at

  pub lent_alone : ChangeThere plan (length plan.readings) written → (entries : Entries)
      → AreEntries (last plan) entries → AreRecordsAt
      (named_keys plan (entered_at plan.first written)) (last plan) entries
  lent_alone there entries at = named_all plan (entered_at plan.first written) (kept_alone there) entries at

pub all_zero : (a n : ℕ) → map {B = ℕ} (λ (line : ℕ). 0) (range_with_len a n) ≡ replicate n 0
all_zero a zero = refl
all_zero a (suc n) = ap (λ (more : List ℕ). 0 ∷ more) (all_zero (a + 1) n)

-- what a line that isn't there answers, and what one that is there
no_line : (plan : Planned) (line : ℕ) (r : Option Reading) → r ≡ None → None ≡ (one_by plan line r (before plan line)).1
no_line plan line None e = refl
no_line plan line (Some r) e = absurd (cc e)

pub unanswered_before : (plan : Planned) (line : ℕ) → line < plan.first → None ≡ answer_of plan line
unanswered_before plan line lt =
    let e : nat_lt line plan.first ≡ true = grind (arith, nat_tests) in
    no_line plan line (reading_at plan line) (ap (λ t. if t then None else slice_get plan.readings (line - plan.first)) e)

pub unanswered_past : (plan : Planned) (line : ℕ) → plan.first ≤ line
    → length plan.readings ≤ line - plan.first → None ≡ answer_of plan line
unanswered_past plan line le past =
    let e : nat_lt line plan.first ≡ false = grind (arith, nat_tests) in
    no_line plan line (reading_at plan line)
    (ap (λ t. if t then None else slice_get plan.readings (line - plan.first)) e ∙ slice_get_past plan.readings (line - plan.first) past)

get_mapped : (f : ℕ → Option Answer) (a n i : ℕ) (x : Option Answer)
    → Some x ≡ slice_get (map f (range_with_len a n)) i → x ≡ f (a + i)
get_mapped f a zero i x e = absurd (cc e)
get_mapped f a (suc n) zero x e = let at : a + 0 ≡ a = omega arith in let same : x ≡ f a = cc e in same ∙ ap f (sym at)
get_mapped f a (suc n) (suc i) x e =
    let at : a + 1 + i ≡ a + suc i = omega arith in get_mapped f (a + 1) n i x e ∙ ap f at

none_mapped : (f : ℕ → Option Answer) (a n i : ℕ) → None ≡ slice_get (map f (range_with_len a n)) i → n ≤ i
none_mapped f a zero i e = omega arith
none_mapped f a (suc n) zero e = absurd (cc e)
none_mapped f a (suc n) (suc i) e = let h = none_mapped f (a + 1) n i e in omega (arith, h)

pub answered_there : (plan : Planned) (line : ℕ) → plan.first ≤ line → (x : Option Answer)
    → Some x ≡ slice_get (answers_of plan) (line - plan.first) → x ≡ answer_of plan line
answered_there plan line le x e =
    let at : plan.first + (line - plan.first) ≡ line = omega (arith, le) in
    get_mapped (answer_of plan) plan.first (length plan.readings) (line - plan.first) x (e ∙ ap (λ (given : List (Option Answer)). slice_get given (line - plan.first)) (sym (answers_by_number plan)))
    ∙ ap (answer_of plan) at

pub unanswered_there : (plan : Planned) (line : ℕ) → plan.first ≤ line
    → None ≡ slice_get (answers_of plan) (line - plan.first) → None ≡ answer_of plan line
unanswered_there plan line le e =
    unanswered_past plan line le
    (none_mapped (answer_of plan) plan.first (length plan.readings) (line - plan.first) (e ∙ ap (λ (given : List (Option Answer)). slice_get given (line - plan.first)) (sym (answers_by_number plan))))

-- no answer past the last position
pub unanswered_index : (plan : Planned) (given : List (Option Answer)) (line first : ℕ)
    → given ≡ answers_of plan → first ≡ plan.first → first ≤ line
    → false ≡ nat_lt (line - first) (length given) → None ≡ answer_of plan line
unanswered_index plan given line first all start le past =
    let from : plan.first ≤ line = omega (arith, start, le) in
    let place : line - first ≡ line - plan.first = ap (λ n. line - n) start in
    let after : length given ≤ line - first = grind (arith, nat_tests) in
    unanswered_there plan line from
    (sym (slice_get_past given (line - first) after) ∙ ap (λ n. slice_get given n) place ∙ ap (λ (ans : List (Option Answer)). slice_get ans (line - plan.first)) all)

-- the answer at a line's position
pub answered_index : (plan : Planned) (given : List (Option Answer)) (line first : ℕ)
    (x : Option Answer) → given ≡ answers_of plan → first ≡ plan.first → first ≤ line
    → true ≡ nat_lt (line - first) (length given) → x ≡ get_or given (line - first) x → x ≡ answer_of plan line
answered_index plan given line first x all start le lt is =
    let from : plan.first ≤ line = omega (arith, start, le) in
    let place : line - first ≡ line - plan.first = ap (λ n. line - n) start in
    let within : line - first < length given = grind (arith, nat_tests) in
    answered_there plan line from x (at_index given (line - first) x within is ∙ ap (λ n. slice_get given n) place ∙ ap (λ (ans : List (Option Answer)). slice_get ans (line - plan.first)) all)
  where
    at_index : (xs : List (Option Answer)) (i : ℕ) (x : Option Answer) → i < length xs
        → x ≡ get_or xs i x → Some x ≡ slice_get xs i
    at_index [] i x lt is = absurd (omega (arith, lt))
    at_index (y ∷ xs) zero x lt is = ap (λ (z : Option Answer). Some z) is
    at_index (y ∷ xs) (suc i) x lt is = at_index xs i x (omega (arith, lt)) is
