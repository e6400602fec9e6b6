-- Checkin keeps records coherent.
use Rattle.std.proofs.Common.{◌≡◌, ◌≤◌, ◌+◌, ◌*◌, ◌-◌, ℕ, List, [], ◌∷◌, Bool, true, false, cond, min, Option, Some, None, refl, subst, sym, ap, ◌∙◌, arith}
use Rattle.circ_policy.specs.Fees.{late_fee}
use Rattle.circ_policy.specs.Terms.{Terms}
use Rattle.circ_policy.specs.declared.media.Media.{Media}
use Rattle.circ_records.specs.Coherent.{IsCoherentItem, IsCoherentLoan}
use Rattle.circ_records.specs.declared.key.Key.TheVariants as keys
use Rattle.circ_records.specs.declared.record.FeeType.TheVariants as fee_types
use Rattle.circ_records.specs.declared.record.Item.{Item}
use Rattle.circ_records.specs.declared.record.Loan.{Loan}
use Rattle.circ_records.specs.declared.record.Patron.{Patron}
use Rattle.circ_records.specs.declared.record.Record.TheVariants as records
use Rattle.sip_reader.specs.declared.request.Checkin.{Checkin}
use Rattle.circ_policy.specs.Ranges.{FitsMedia}
use Rattle.read_set.specs.Fees.{fee_made}
use Rattle.read_set.specs.Asks.{Give, over, ◌>>=◌}
use Rattle.read_set.specs.Known.{item_in}
use Rattle.read_set.specs.Lookups.{borrower_at, item_at, patron_at}
use Rattle.read_set.specs.Maps.{Map, put}
use Rattle.read_set.specs.Checkins.{checked_in, checkin_rule, day_back, lateness, returned, returned_by, returned_writes, returner}
use Rattle.read_set.specs.Loans.{loan_of}
use Rattle.read_set.specs.declared.effect.Effect.{Effect}
use Rattle.read_set.specs.declared.known.Article.{Article}
use Rattle.read_set.specs.declared.known.Member.{Member}
use Rattle.read_set.proofs.Following.{over_then}
use Rattle.read_set.proofs.KnownParts.{article-known, article-there, known-member, member-known, member-there}
use Rattle.read_set.proofs.Line.{Line, put-two}
use Rattle.read_set.proofs.Listing.{listed-less}
use Rattle.read_set.proofs.MapParts.{borrower_of, fees_of, lent_by, loans_of, owed_by, put_one, puts, sound-in}
use Rattle.read_set.proofs.OneRecord.{lent-at, listed-made, put-made, same-patron}
use Rattle.read_set.proofs.SimpleKinds.{nothing}
use Rattle.read_set.proofs.States.{Parts, ends, fees-at, loans-at, put-item, put-patron, start}

-- a late fee is an amount
late-most : (q : Checkin) (date : List ℕ) (loan : Loan) (media : Media) → media.cap ≤ 99999999999 → lateness q date loan media ≤ 99999999999
unfolding late_fee
late-most q date loan media h = by q.cancel
  where
    by : (b : Bool) → cond b 0 (min media.cap (media.late * (day_back q date - loan.due))) ≤ 99999999999
    by true = omega arith
    by false = omega arith

back-right : (p : Terms) (M : Map) (id : List ℕ) (i : Item) → IsCoherentItem p M id i → IsCoherentItem p M id (record i { loan = None })
back-right p M id i h = record {
  id_text = h.id_text;
  title = h.title;
  location = h.location;
  properties = h.properties;
  media = h.media;
  loan = λ l e. cc e;
  holds = h.holds;
  holds_once = h.holds_once;
  few = h.few;
}

returned-writes : (p : Terms) (n : ℕ) (M : Map) → Line p n M → (item : List ℕ) (fee : ℕ) (article : Article) (member : Member) (loan : Loan) → fee ≤ 99999999999
    → M (keys.Item item) ≡ Some (records.Item article.item) → article.item.loan ≡ Some loan → M (keys.Patron loan.patron) ≡ Some (records.Patron member.patron)
    → Parts p (n + 1) M (put (returned_writes n item fee article (Some member) loan) M)
returned-writes p n M line item fee article member loan most f l e =
    let b : List ℕ = loan.patron in
    let q : Patron = returner n item fee member.patron in
    let one = put-patron (start p (n + 1) M line.parts.sound) b q (same-patron p (n + 1) M b member.patron q line.parts.sound e refl refl) in
    let two = put-made n 0 b fee_types.Overdue fee line.low (omega arith) most one (one.known.at b (member-known M b member.patron e)) in
    let right = sound-in p (n + 1) M (puts (fee_made n 0 b fee_types.Overdue fee) (put_one (keys.Patron b) (records.Patron q) M)) two.known (keys.Item item) (records.Item (record article.item { loan = None }))
    (back-right p M item article.item (line.parts.sound.at (keys.Item item) (records.Item article.item) f)) in
    let three = put-item two item (record article.item { loan = None }) right (article-known M item article.item f) in
    subst (λ (N : Map). Parts p (n + 1) M N) (sym (put-two (returned_by n item b fee (Some member)) ((keys.Item item, records.Item (record article.item { loan = None })) ∷ []) M))
    (ends three line.parts.few
    (listed-less (loans_of M) (lent_by M) b item member.patron.loans line.parts.loans (loans-at M b member.patron e) (lent-at M item article.item f ∙ ap borrower_of l))
    (listed-made n 0 b fee (fees_of M) (owed_by M) member.patron.fees line.parts.fees (fees-at M b member.patron e) (line.free 0 (omega arith))))

pub checkin-keeps : (p : Terms) (n : ℕ) (M : Map) → Line p n M → (q : Checkin) (date : List ℕ) → Parts p (n + 1) M (put (over M (checkin_rule p n q date)).writes M)
unfolding checked_in checkin_rule item_at borrower_at patron_at
checkin-keeps p n M line q date = by (item_in p M q.item) refl
  where
    by-loan : (article : Article) → item_in p M q.item ≡ Some article → (l : Option Loan) → article.item.loan ≡ l → Parts p (n + 1) M (put (returned p n q date article (over M (borrower_at p l)) l).writes M)
    by-loan article e None f = nothing p (n + 1) M line.parts
    by-loan article e (Some loan) f =
        let there = article-there p M q.item article e in
        let item : IsCoherentItem p M q.item article.item = line.parts.sound.at (keys.Item q.item) (records.Item article.item) there.0 in
        let right : IsCoherentLoan M article.item.holds loan = item.loan loan f in
        let m = known-member p (n + 1) M loan.patron line.parts.sound right.patron in
        let terms : FitsMedia article.media = line.policy article.item.media article.media there.1 in
        subst (λ (o : Option Member). Parts p (n + 1) M (put (returned p n q date article o (Some loan)).writes M)) (sym m.1)
        (returned-writes p n M line q.item (lateness q date loan article.media) article m.0 loan (late-most q date loan article.media terms.cap) there.0 f (member-there p M loan.patron m.0 m.1))

    by : (o : Option Article) → item_in p M q.item ≡ o → Parts p (n + 1) M (put (over M (borrower_at p (loan_of o) >>= λ b. Give (checked_in p n q date o b))).writes M)
    by None e = nothing p (n + 1) M line.parts
    by (Some article) e =
        subst (λ (x : Effect). Parts p (n + 1) M (put x.writes M)) (sym (over_then M (borrower_at p article.item.loan) (λ b. Give (checked_in p n q date (Some article) b))))
        (by-loan article e article.item.loan refl)
