-- A journal that is under way: what each step of the run leaves of that.
use Rattle.std.proofs.Common.{◌≡◌, ◌+◌, ◌≤◌, ℕ, List, [], ◌∷◌, ◌++◌, length, map, Bool, false, true, Option, Some, None, inl, inr, refl, sym, ap, subst, arith, append_assoc, length-append, ◌∙◌}
use Rattle.std.proofs.lemmas.List.{append-nil}
use Rattle.csv_table.specs.Text.{table_text}
use Rattle.log_pairs.specs.Rows.{rows_from}
use Rattle.log_pairs.specs.Pairs.{Becomes, Open, Pair, Said, after, answered, pair_of, pairs_of, start}
use Rattle.outside.specs.Events.{Did, Event}
use Rattle.journal_run.specs.Found.{found_more}
use Rattle.journal_run.specs.Sums.{Sums}
use Rattle.journal_run.specs.Making.{Closes, Stays, StopsTaking, TakesAll, behind}
use Rattle.journal_run.specs.Printing.{BreaksOff, HasPrinted, Prints, shown, to_print}
use Rattle.journal_run.specs.Run.{FindsNothing, HasCause, IsBrokenOff, IsPrinted, IsToBlame, IsUnderWay, journal_text}
use Rattle.journal_run.specs.Stops.{most_of, IsFailure, IsPastEnd, IsRefused}
use Rattle.journal_run.specs.declared.making.JournalRows.{JournalRows}
use Rattle.journal_run.specs.declared.making.Making.{Making}
use Rattle.journal_run.specs.declared.stop.JournalStop.{JournalStop}
use Rattle.journal_run.specs.declared.stop.JournalStop.TheVariants as stops
use Rattle.journal_run.specs.declared.stop.MakingError.{MakingError}
use Rattle.journal_run.specs.declared.stop.MakingError.TheVariants as errors
use Rattle.journal_run.specs.declared.tally.LogTally.{LogTally}
use Rattle.journal_run.proofs.Causes.{caused, either, past-end}
use Rattle.journal_run.proofs.Shown.{broken, broken-later, printed-both, printed-none, shown-more}
use Rattle.journal_run.proofs.Steps.{asked-now, begun-now, few-now, limit-now, number-now, pairs-now}
use Rattle.journal_run.proofs.Taking.{all-both}
use Rattle.log_pairs.proofs.Journals.{joined}

-- what was whole is taken
stays-printed : (first : JournalRows) (said : List Said) (taken : List Pair) (old new : Making) → Stays first said taken old → HasPrinted old new → Stays first said (taken ++ old.ready.items) new
stays-printed first said taken old new (gone, k) p =
    let number = k.number in
    let more = p.number in
    let size = length-append taken old.ready.items in (
      gone,
      record {
        closed = k.closed;
        waits = subst (λ (o : Open). Becomes (behind gone o) (after start said)) (sym p.pairing) k.waits;
        whole = k.whole ∙ sym (ap (λ (ps : List Pair). (taken ++ old.ready.items) ++ ps) p.ready ∙ append-nil (taken ++ old.ready.items));
        asked = k.asked;
        few = k.few;
        limit = p.most ∙ k.limit;
        number = omega arith;
        begun = λ e. let bad : true ≡ false = sym p.begun ∙ e in cc bad;
        exchanges = p.exchanges ∙ k.exchanges;
        unanswered = ap (λ (u : ℕ). u + answered (map pair_of gone)) p.unanswered ∙ k.unanswered;
      },
    )

pub under-printed : (first : JournalRows) (begin mid now : Option (List Event)) (start found : Option (List Said)) (old new : Making) → IsUnderWay first begin mid start found old
    → HasPrinted old new → Did (Prints (to_print old)) mid now → IsUnderWay first begin now start found new
under-printed first begin mid now start found old new (said, taken, is, n, s, printed) p more =
    let text : shown old.begun first.number taken ++ to_print old ≡ shown new.begun first.number (taken ++ old.ready.items)
    = sym (shown-more first.number taken old (number-now first said taken old s) (begun-now first said taken old s)) ∙ ap (λ (b : Bool). shown b first.number (taken ++ old.ready.items)) (sym p.begun) in (
      said,
      taken ++ old.ready.items,
      is,
      n,
      stays-printed first said taken old new s p,
      subst (λ (t : List ℕ). Did (Prints t) begin now) text (printed-both (shown old.begun first.number taken) (to_print old) begin mid now printed more),
    )

found-both : (heard xs : List Said) (start : Option (List Said)) → found_more xs (found_more heard start) ≡ found_more (heard ++ xs) start
found-both heard xs None = refl
found-both heard xs (Some found) = ap (λ (all : List Said). Some all) (append_assoc found heard xs)

-- more is found, and taken
pub under-taken : (first : JournalRows) (begin mid now : Option (List Event)) (start found more : Option (List Said)) (xs : List Said) (old new : Making) → IsUnderWay first begin mid start found old
    → more ≡ found_more xs found → TakesAll xs old new → Did (Prints []) mid now → IsUnderWay first begin now start more new
under-taken first begin mid now start found more xs old new (said, taken, is, n, s, printed) found-is (begun, more-named, takes) told =
    let text : shown old.begun first.number taken ++ [] ≡ shown new.begun first.number taken = append-nil (shown old.begun first.number taken) ∙ ap (λ (b : Bool). shown b first.number taken) (sym begun) in (
      said ++ xs,
      taken,
      found-is ∙ ap (found_more xs) is ∙ found-both said xs start,
      all-both said xs n more-named,
      takes first said taken s,
      subst (λ (t : List ℕ). Did (Prints t) begin now) text (printed-both (shown old.begun first.number taken) [] begin mid now printed told),
    )

found-none : (start : Option (List Said)) → found_more [] start ≡ start
found-none None = refl
found-none (Some found) = ap (λ (all : List Said). Some all) (append-nil found)

-- the pairs that were taken begin the journal
begun-so : (first : JournalRows) (said : List Said) (taken : List Pair) (m : Making) → Stays first said taken m
    → (rest : List ℕ) × (journal_text first.number (pairs_of said) ≡ shown m.begun first.number taken ++ rest)
begun-so first said taken m s =
    let later : List ℕ = table_text (rows_from (first.number + length (taken ++ m.ready.items)) (map pair_of m.pairing.pending)) in
    let all = pairs-now first said taken m s in (
      to_print m ++ later,
      ap (journal_text first.number) all ∙ joined first.number (taken ++ m.ready.items) (map pair_of m.pairing.pending) ∙ ap (λ (t : List ℕ). t ++ later) (shown-more first.number taken m (number-now first said taken m s) (begun-now first said taken m s))
          ∙ append_assoc (shown m.begun first.number taken) (to_print m) later,
    )

-- nothing more is found, for this reason, which is no journal of no use
pub under-source : (first : JournalRows) (force : Bool) (counts : LogTally → Type 0) (fails : MakingError → Type 0) (at_end : Type 0) (begin mid now : Option (List Event)) (start found more : Option (List Said))
    (xs : List Said) (m : Making) (error : MakingError) → IsUnderWay first begin mid start found m → more ≡ found_more xs found → Did (Prints []) mid now
    → IsFailure fails (stops.Source error) → IsBrokenOff first force counts fails at_end begin now start more (stops.Source error)
under-source first force counts fails at_end begin mid now start found more xs m error (said, taken, is, n, s, printed) found-is told cause =
    let (rest, text) = begun-so first said taken m s in
    let so_far : Did (Prints (shown m.begun first.number taken)) begin now
    = subst (λ (t : List ℕ). Did (Prints t) begin now) (append-nil (shown m.begun first.number taken)) (printed-both (shown m.begun first.number taken) [] begin mid now printed told) in (
      said,
      xs,
      found-is ∙ ap (found_more xs) is ∙ found-both said xs start,
      caused fails (IsToBlame fails first xs said) (λ e f. inl f) (stops.Source error) cause,
      broken (shown m.begun first.number taken) [] rest (journal_text first.number (pairs_of said)) (stops.Source error) begin now now text so_far ([], refl, refl),
    )

-- memory runs out
pub under-ended : (first : JournalRows) (force : Bool) (counts : LogTally → Type 0) (fails : MakingError → Type 0) (at_end : Type 0) (begin now : Option (List Event)) (start found : Option (List Said))
    (m : Making) → IsUnderWay first begin now start found m → IsBrokenOff first force counts fails at_end begin now start found (stops.Source errors.Memory)
under-ended first force counts fails at_end begin now start found m under =
    under-source first force counts fails at_end begin now now start found found [] m errors.Memory under (sym (found-none found)) (printed-none now) tt

-- a message is refused, after those before it were taken
pub under-refused : (first : JournalRows) (force : Bool) (counts : LogTally → Type 0) (fails : MakingError → Type 0) (at_end : Type 0) (begin mid now : Option (List Event)) (start found more : Option (List Said))
    (xs : List Said) (old new : Making) (error : MakingError) → IsUnderWay first begin mid start found old → more ≡ found_more xs found → StopsTaking xs old new error
    → Did (Prints []) mid now → IsBrokenOff first force counts fails at_end begin now start more (stops.Source error)
under-refused first force counts fails at_end begin mid now start found more xs old new errors.Memory under found-is stops told =
    under-source first force counts fails at_end begin mid now start found more xs old errors.Memory under found-is told tt
under-refused first force counts fails at_end begin mid now start found more xs old new (errors.File text) under found-is (ys, x, rest, same, takes, refused) told = absurd refused
under-refused first force counts fails at_end begin mid now start found more xs old new (errors.Refused told) (said, taken, is, n, s, printed) found-is
    (ys, x, rest, same, (begun, more-named, takes), refused) quietly =
    let stays = takes first said taken s in
    let (later, text) = begun-so first (said ++ ys) taken new stays in
    let so_far : Did (Prints (shown new.begun first.number taken)) begin now
    = subst (λ (t : List ℕ). Did (Prints t) begin now) (append-nil (shown old.begun first.number taken) ∙ ap (λ (b : Bool). shown b first.number taken) (sym begun))
    (printed-both (shown old.begun first.number taken) [] begin mid now printed quietly) in
    let split : said ++ xs ≡ (said ++ ys) ++ x ∷ rest = ap (λ (zs : List Said). said ++ zs) same ∙ sym (append_assoc said ys (x ∷ rest)) in (
      said ++ ys,
      x ∷ rest,
      found-is ∙ ap (found_more xs) is ∙ found-both said xs start ∙ ap (λ (zs : List Said). found_more zs start) split,
      inr (inl (
        x,
        rest,
        refl,
        subst (λ (n : ℕ). IsRefused (most_of first) n x (errors.Refused told)) (asked-now first (said ++ ys) taken new stays)
            (subst (λ (n : ℕ). IsRefused n new.pairing.asked x (errors.Refused told)) (limit-now first (said ++ ys) taken new stays) refused),
      )),
      broken (shown new.begun first.number taken) [] later (journal_text first.number (pairs_of (said ++ ys))) (stops.Source (errors.Refused told)) begin now now text so_far ([], refl, refl),
    )

-- a stop while rows are printed
pub under-broken : (first : JournalRows) (force : Bool) (counts : LogTally → Type 0) (fails : MakingError → Type 0) (at_end : Type 0) (begin mid now : Option (List Event)) (start found : Option (List Said)) (m : Making)
    (stop : JournalStop) → IsUnderWay first begin mid start found m → HasCause force counts ⊥ (IsPastEnd (m.number + length m.ready.items)) stop
    → Did (BreaksOff (to_print m) stop) mid now → IsBrokenOff first force counts fails at_end begin now start found stop
under-broken first force counts fails at_end begin mid now start found m stop (said, taken, is, n, s, printed) cause breaks =
    let all = pairs-now first said taken m s in
    let later : List ℕ = table_text (rows_from (first.number + length (taken ++ m.ready.items)) (map pair_of m.pairing.pending)) in
    let text : journal_text first.number (pairs_of said) ≡ shown m.begun first.number taken ++ (to_print m ++ later)
    = ap (journal_text first.number) all ∙ joined first.number (taken ++ m.ready.items) (map pair_of m.pairing.pending) ∙ ap (λ (t : List ℕ). t ++ later) (shown-more first.number taken m (number-now first said taken m s) (begun-now first said taken m s))
    ∙ append_assoc (shown m.begun first.number taken) (to_print m) later in
    let number = number-now first said taken m s in
    let whole = length-append taken m.ready.items in
    let size : length (pairs_of said) ≡ length (taken ++ m.ready.items) + length (map pair_of m.pairing.pending) = ap length all ∙ length-append (taken ++ m.ready.items) (map pair_of m.pairing.pending) in
    let least : m.number + length m.ready.items ≤ first.number + length (pairs_of said) = omega (arith, number, whole, size) in (
      said,
      [],
      is ∙ ap (λ (xs : List Said). found_more xs start) (sym (append-nil said)),
      either force counts (FindsNothing at_end [] said) (IsPastEnd (m.number + length m.ready.items)) (IsToBlame fails first [] said) stop
          (λ e p. inr (inr (past-end (m.number + length m.ready.items) (first.number + length (pairs_of said)) least e p))) cause,
      broken-later (shown m.begun first.number taken) (to_print m) (journal_text first.number (pairs_of said)) later stop begin mid now text printed breaks,
    )

-- the last rows of a journal that is closed
whole-text : (first : JournalRows) (said : List Said) (taken : List Pair) (m : Making) → Closes first said taken m → journal_text first.number (pairs_of said) ≡ shown m.begun first.number taken ++ to_print m
whole-text first said taken m c = ap (journal_text first.number) c.pairs ∙ shown-more first.number taken m c.number c.begun

pub closed-printed : (first : JournalRows) (begin mid now : Option (List Event)) (start found : Option (List Said)) (old closed new : Making) → IsUnderWay first begin mid start found old
    → closed.begun ≡ old.begun → ((first : JournalRows) (said : List Said) (taken : List Pair) → Stays first said taken old → Closes first said taken closed)
    → HasPrinted closed new → Did (Prints (to_print closed)) mid now → IsPrinted first begin now start found new
closed-printed first begin mid now start found old closed new (said, taken, is, n, s, printed) begun closes p more =
    let c = closes first said taken s in
    let text : shown old.begun first.number taken ++ to_print closed ≡ journal_text first.number (pairs_of said)
    = ap (λ (b : Bool). shown b first.number taken ++ to_print closed) (sym begun) ∙ sym (whole-text first said taken closed c) in
    let few = few-now first said taken old s in
    let room = p.room in
    let number = c.number in
    let size : length (pairs_of said) ≡ length taken + length closed.ready.items = ap length c.pairs ∙ length-append taken closed.ready.items in (
      said,
      is,
      (n, few, omega (arith, room, number, size)),
      subst (λ (t : List ℕ). Did (Prints t) begin now) text (printed-both (shown old.begun first.number taken) (to_print closed) begin mid now printed more),
      same-sums new.exchanges closed.exchanges new.unanswered closed.unanswered new.pairing closed.pairing p.exchanges p.unanswered p.pairing ∙ c.sums,
    )
  where
    same-sums : (a b c d : ℕ) (o w : Open) → a ≡ b → c ≡ d → o ≡ w
        → ◌≡◌ {A = Sums} (record { exchanges = a; unanswered = c; unasked = o.unasked; mismatched = o.mismatched }) (record { exchanges = b; unanswered = d; unasked = w.unasked; mismatched = w.mismatched })
    same-sums a b c d o w x y z = rw (x, y, z) refl

-- the rows of a journal that is closed would be numbered too far
pub closed-past : (force : Bool) (counts : LogTally → Type 0) (fails : MakingError → Type 0) (nothing : Type 0) (first : JournalRows) (said : List Said) (taken : List Pair) (m : Making) (stop : JournalStop)
    → Closes first said taken m → HasCause force counts ⊥ (IsPastEnd (m.number + length m.ready.items)) stop → HasCause force counts nothing (IsToBlame fails first [] said) stop
closed-past force counts fails nothing first said taken m stop c cause =
    let number = c.number in
    let size : length (pairs_of said) ≡ length taken + length m.ready.items = ap length c.pairs ∙ length-append taken m.ready.items in
    let least : m.number + length m.ready.items ≤ first.number + length (pairs_of said) = omega (arith, number, size) in
    either force counts nothing (IsPastEnd (m.number + length m.ready.items)) (IsToBlame fails first [] said) stop
    (λ e p. inr (inr (past-end (m.number + length m.ready.items) (first.number + length (pairs_of said)) least e p))) cause

pub closed-broken : (first : JournalRows) (force : Bool) (counts : LogTally → Type 0) (fails : MakingError → Type 0) (at_end : Type 0) (begin mid now : Option (List Event)) (start found : Option (List Said)) (old closed : Making)
    (stop : JournalStop) → IsUnderWay first begin mid start found old
    → closed.begun ≡ old.begun → ((first : JournalRows) (said : List Said) (taken : List Pair) → Stays first said taken old → Closes first said taken closed)
    → ((said : List Said) (taken : List Pair) → Closes first said taken closed → HasCause force counts (FindsNothing at_end [] said) (IsToBlame fails first [] said) stop)
    → Did (BreaksOff (to_print closed) stop) mid now → IsBrokenOff first force counts fails at_end begin now start found stop
closed-broken first force counts fails at_end begin mid now start found old closed stop (said, taken, is, n, s, printed) begun closes cause breaks =
    let text : journal_text first.number (pairs_of said) ≡ shown old.begun first.number taken ++ (to_print closed ++ [])
    = whole-text first said taken closed (closes first said taken s) ∙ ap (λ (b : Bool). shown b first.number taken ++ to_print closed) begun
    ∙ ap (λ (t : List ℕ). shown old.begun first.number taken ++ t) (sym (append-nil (to_print closed))) in (
      said,
      [],
      is ∙ ap (λ (xs : List Said). found_more xs start) (sym (append-nil said)),
      cause said taken (closes first said taken s),
      broken-later (shown old.begun first.number taken) (to_print closed) (journal_text first.number (pairs_of said)) [] stop begin mid now text printed breaks,
    )

-- before the first message
pub under-first : (first : JournalRows) (log : Option (List Event)) (start : Option (List Said)) (m : Making) → Stays first [] [] m → m.begun ≡ false → IsUnderWay first log log start start m
under-first first log start m s begun = ([], [], sym (found-none start), tt, s, subst (λ (b : Bool). Did (Prints (shown b first.number [])) log log) (sym begun) (printed-none log))
