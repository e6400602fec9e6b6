-- The first lines, replayed.
use Rattle.std.proofs.Common.{◌≡◌, ◌∙◌, ◌<◌, inl, inr, ℕ, zero, suc, ◌+◌, false, List, [], ◌∷◌, ◌++◌, length, Option, append_assoc, arith, ap, ap₂, refl, sym, subst}
use Rattle.std.specs.BTreeMap.{is_at}
use Rattle.std.specs.List.{list_any}
use Rattle.std.specs.Option.{option_or}
use Rattle.std.proofs.lemmas.Bool.{cases_lt}
use Rattle.std.proofs.lemmas.List.{length-append}
use Rattle.circ_records.specs.Keys.{key_cmp}
use Rattle.circ_records.specs.Records.{Entries, record_at}
use Rattle.circ_records.specs.declared.key.Key.{Key}
use Rattle.sip_answer.specs.declared.answer.Answer.{Answer}
use Rattle.read_set.specs.Maps.{Map, put}
use Rattle.read_set.specs.Plans.{Planned}
use Rattle.read_set.specs.Replay.{after, one_at}
use Rattle.replay_run.specs.Answers.{first_answers}
use Rattle.replay_run.specs.InOrder.{HasReplayed}
use Rattle.replay_run.specs.declared.in_order.Replaying.{Replaying}
use Rattle.replay_run.specs.ReplayEnd.{ChangeThere, keys_at}

-- the records as they are, the answers so far and the keys that were written are those of the first
-- lines
pub record SoFar (plan : Planned) (n : ℕ) (M : Map) (given : List (Option Answer)) (written : List (List Key)) : Type 0 where
  pub answers : given ≡ first_answers plan n
  pub records : (k : Key) → M k ≡ after plan n k
  pub lines : length written ≡ n
  pub changes : ChangeThere plan n written

-- the records after one line more, of which this is written
pub written-over : (plan : Planned) (line : ℕ) (writes : Entries) (L M N : Map)
    → ((k : Key) → L k ≡ M k) → ((k : Key) → N k ≡ put writes L k)
    → ((k : Key) → (one_at plan line M).0 k ≡ put writes M k) → (k : Key) → N k ≡ (one_at plan line M).0 k
written-over plan line writes L M N same puts gives k =
    puts k ∙ ap (option_or (record_at writes k)) (same k) ∙ sym (gives k)

-- the answers and the records of one line more
pub answers-next : (plan : Planned) (from n line : ℕ) (given : List (Option Answer))
    (a : Option Answer) → line ≡ plan.first + n
    → first_answers plan n ≡ first_answers plan from ++ given
    → (one_at plan line (after plan n)).1 ≡ a
    → first_answers plan (n + 1) ≡ first_answers plan from ++ (given ++ a ∷ [])
answers-next plan from n line given a at so gives =
    let one : n + 1 ≡ suc n = omega arith in
    ap (first_answers plan) one
    ∙ ap₂ (λ (before : List (Option Answer)) x. before ++ x ∷ []) so
    (ap (λ l. (one_at plan l (after plan n)).1) (sym at) ∙ gives)
    ∙ append_assoc (first_answers plan from) given (a ∷ [])

pub records-next : (plan : Planned) (n line : ℕ) (N : Map) → line ≡ plan.first + n → ((k : Key) → N k ≡ (one_at plan line (after plan n)).0 k) → (k : Key) → N k ≡ after plan (n + 1) k
records-next plan n line N at so k =
    let one : suc n ≡ n + 1 = omega arith in
    so k ∙ ap (λ l. (one_at plan l (after plan n)).0 k) at ∙ ap (λ m. after plan m k) one

-- each line has one
pub length-first : (plan : Planned) (n : ℕ) → length (first_answers plan n) ≡ n
length-first plan zero = refl
length-first plan (suc n) =
    let both = length-append (first_answers plan n) ((one_at plan (plan.first + n) (after plan n)).1 ∷ []) in
    let before = length-first plan n in
    omega (arith, both, before)

-- so far lines are replayed
pub come-to : (plan : Planned) (from to : ℕ) (r : Replaying) → HasReplayed plan from to r
    → to ≡ from + length r.answers.items
come-to plan from to r so =
    let both = length-append (first_answers plan from) r.answers.items in
    let all = length-first plan to in
    let before = length-first plan from in
    let same : length (first_answers plan to) ≡ length (first_answers plan from ++ r.answers.items) = ap length so.answers in
    omega (arith, both, all, before, same)

-- the keys of the lines before, and of the last
keys-before : (written : List (List Key)) (keys : List Key) (m : ℕ) → m < length written
    → keys_at (written ++ keys ∷ []) m ≡ keys_at written m
keys-before [] keys m lt = absurd (omega (arith, lt))
keys-before (ks ∷ written) keys zero lt = refl
keys-before (ks ∷ written) keys (suc m) lt = keys-before written keys m (omega (arith, lt))

keys-last : (written : List (List Key)) (keys : List Key) (m : ℕ) → m ≡ length written
    → keys_at (written ++ keys ∷ []) m ≡ keys
keys-last [] keys m e = rw e refl
keys-last (ks ∷ written) keys zero e = absurd (cc e)
keys-last (ks ∷ written) keys (suc m) e = keys-last written keys m (omega (arith, e))

changes-next : (plan : Planned) (n : ℕ) (written : List (List Key)) (keys : List Key)
    → length written ≡ n → ChangeThere plan n written
    → ((k : Key) → list_any (is_at (key_cmp k)) keys ≡ false → after plan n k ≡ after plan (suc n) k)
    → ChangeThere plan (suc n) (written ++ keys ∷ [])
changes-next plan n written keys lines changes last m lt k none = elim (cases_lt m n) [
  | inl before ↦ changes m before k (ap (list_any (is_at (key_cmp k))) (sym (keys-before written keys m (omega (arith, before, lines)))) ∙ none)
  | inr from ↦
      let same : m ≡ n = omega (arith, from, lt) in
      let here = last k (ap (list_any (is_at (key_cmp k))) (sym (keys-last written keys m (omega (arith, same, lines)))) ∙ none) in
      subst (λ j. after plan j k ≡ after plan (suc j) k) (sym same) here
]

-- one line more
pub next : (plan : Planned) (n line : ℕ) (M N : Map) (answers : List (Option Answer))
    (a : Option Answer) (written : List (List Key)) (keys : List Key) → line ≡ plan.first + n
    → SoFar plan n M answers written → a ≡ (one_at plan line (after plan n)).1
    → ((k : Key) → N k ≡ (one_at plan line (after plan n)).0 k)
    → ((k : Key) → list_any (is_at (key_cmp k)) keys ≡ false → N k ≡ M k)
    → SoFar plan (n + 1) N (answers ++ a ∷ []) (written ++ keys ∷ [])
next plan n line M N answers a written keys at so answered stands unchanged =
    let one : suc n ≡ n + 1 = omega arith in
    let then : (k : Key) → N k ≡ after plan (suc n) k = λ k. stands k ∙ ap (λ l. (one_at plan l (after plan n)).0 k) at in
    let more : SoFar plan (suc n) N (answers ++ a ∷ []) (written ++ keys ∷ []) = record {
      answers = ap (λ (ans : List (Option Answer)). ans ++ a ∷ []) so.answers ∙ ap (λ b. first_answers plan n ++ b ∷ []) (answered ∙ ap (λ l. (one_at plan l (after plan n)).1) at);
      records = then;
      lines = length-last written keys ∙ ap suc so.lines;
      changes = changes-next plan n written keys so.lines so.changes (λ k none. sym (so.records k) ∙ sym (unchanged k none) ∙ then k);
    } in
    subst (λ m. SoFar plan m N (answers ++ a ∷ []) (written ++ keys ∷ [])) one more
  where
    length-last : (written : List (List Key)) (keys : List Key) → length (written ++ keys ∷ []) ≡ suc (length written)
    length-last [] keys = refl
    length-last (ks ∷ written) keys = ap suc (length-last written keys)
