-- Lines that come after others.
use Rattle.std.proofs.Common.{◌≡◌, ◌⊎◌, inl, inr, ◌≤◌, List, [], ◌∷◌, ◌++◌, length, Option, Some, None, arith, refl, ap}
use Rattle.std.specs.Prelude.{slice_get}
use Rattle.journal_table.specs.Entry.{Entry}
use Rattle.sip_answer.specs.declared.answer.Answer.{Answer}
use Rattle.sip_reader.specs.declared.request.Reading.{Reading}
use Rattle.result_report.specs.Report.{LineResult, line_results}

unanswered : (ls : List Entry) (rs : List Reading) → line_results ls rs [] ≡ []
unanswered [] rs = refl
unanswered (x ∷ ls) [] = refl
unanswered (x ∷ ls) (y ∷ rs) = refl

-- one line more
pub results-more : (ls : List Entry) (rs : List Reading) (ans : List (Option Answer)) (l : Entry)
    (r : Reading) (a : Option Answer)
    → slice_get ls (length ans) ≡ Some l → slice_get rs (length ans) ≡ Some r
    → line_results ls rs (ans ++ a ∷ []) ≡ line_results ls rs ans ++ (l, r, a) ∷ []
results-more [] rs ans l r a e f = cc e
results-more (x ∷ ls) [] ans l r a e f = cc f
results-more (x ∷ ls) (y ∷ rs) [] l r a e f =
    let p : x ≡ l = cc e in
    let q : y ≡ r = cc f in
    rw (p, q) (ap (λ (more : List LineResult). (l, r, a) ∷ more) (unanswered ls rs))
results-more (x ∷ ls) (y ∷ rs) (b ∷ ans) l r a e f =
    ap (λ (more : List LineResult). (x, y, b) ∷ more) (results-more ls rs ans l r a e f)

-- an answer of no line
pub results-end : (ls : List Entry) (rs : List Reading) (ans : List (Option Answer)) (a : Option Answer)
    → (slice_get ls (length ans) ≡ None) ⊎ (slice_get rs (length ans) ≡ None)
    → line_results ls rs (ans ++ a ∷ []) ≡ line_results ls rs ans
results-end [] rs ans a e = refl
results-end (x ∷ ls) [] ans a e = refl
results-end (x ∷ ls) (y ∷ rs) [] a (inl e) = cc e
results-end (x ∷ ls) (y ∷ rs) [] a (inr e) = cc e
results-end (x ∷ ls) (y ∷ rs) (b ∷ ans) a e =
    ap (λ (more : List LineResult). (x, y, b) ∷ more) (results-end ls rs ans a e)

-- no more results than answers
pub few-results : (ls : List Entry) (rs : List Reading) (ans : List (Option Answer))
    → length (line_results ls rs ans) ≤ length ans
few-results [] rs ans = omega arith
few-results (x ∷ ls) [] ans = omega arith
few-results (x ∷ ls) (y ∷ rs) [] = omega arith
few-results (x ∷ ls) (y ∷ rs) (b ∷ ans) = let more = few-results ls rs ans in omega (arith, more)
