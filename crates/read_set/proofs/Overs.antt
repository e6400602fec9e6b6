-- What programs give over a whole map.
use Rattle.std.proofs.Common.{◌≡◌, ℕ, ◌+◌, Bool, List, [], ◌∷◌, map, Option, Some, None, true, false, cond, refl, ap, sym, ◌∙◌}
use Rattle.std.specs.Prelude.{◌==◌}
use Rattle.std.specs.List.{fold}
use Rattle.std.specs.Option.{option_or, option_map_or}
use Rattle.std.proofs.Math.Nat.{zero-min}
use Rattle.std.proofs.lemmas.Bool.{eqb-true}
use Rattle.circ_policy.specs.Terms.{Terms}
use Rattle.circ_records.specs.Records.{Entries, record_at}
use Rattle.circ_records.specs.declared.key.Key.{Key}
use Rattle.circ_records.specs.declared.key.Key.TheVariants as keys
use Rattle.circ_records.specs.declared.record.Fee.{Fee}
use Rattle.circ_records.specs.declared.record.Patron.{Patron}
use Rattle.circ_records.specs.declared.record.Record.{Record}
use Rattle.sip_reader.specs.declared.request.FeePaid.{FeePaid}
use Rattle.read_set.specs.Asks.{Asks, Ask, Give, over, ◌>>=◌}
use Rattle.read_set.specs.Fees.{owed, rest_of}
use Rattle.read_set.specs.Ids.{has_id}
use Rattle.read_set.specs.Known.{as_fee, fee_in}
use Rattle.read_set.specs.Lookups.{ask_after, fee_at}
use Rattle.read_set.specs.Maps.{Map, put}
use Rattle.read_set.specs.Owing.{owed_at, owed_from, owing_tests, owing_verdict}
use Rattle.read_set.specs.Payments.{all_paid, meant, meant_at, named, only_known, part_of, part_paid, pay_one, pay_rule_each, payment_rule}
use Rattle.read_set.specs.declared.effect.Effect.{Effect}
use Rattle.read_set.specs.declared.known.Article.{Article}
use Rattle.read_set.specs.declared.known.Member.{Member}
use Rattle.read_set.specs.declared.progress.Payments.{Payments}
use Rattle.read_set.proofs.Following.{over_either, over_then}

after_writes : (M : Map) (k : Key) (o : Option Record) → over M (option_map_or (λ r. Give (Some r)) o (Ask k Give)) ≡ option_or o (M k)
after_writes M k None = refl
after_writes M k (Some r) = refl

-- what is asked after writes is what a map has with them put over it
pub asked : (w : Entries) (M : Map) (k : Key) → over M (ask_after w k) ≡ put w M k
unfolding ask_after
asked w M k = after_writes M k (record_at w k)

-- WHAT IS OWED

-- added to a sum
owes_from : (M : Map) (w : Entries) (start : ℕ) (fees : List (List ℕ)) → over M (owed_from w start fees) ≡ fold ◌+◌ start (map (λ id. rest_of (fee_in (put w M) id)) fees)
owes_from M w start [] = refl
owes_from M w start (id ∷ more) =
    over_then M (ask_after w (keys.Fee id)) (λ found. owed_from w (start + rest_of (as_fee found)) more)
    ∙ ap (λ found. over M (owed_from w (start + rest_of (as_fee found)) more)) (asked w M (keys.Fee id))
    ∙ owes_from M w (start + rest_of (fee_in (put w M) id)) more

pub owes : (M : Map) (w : Entries) (fees : List (List ℕ)) → over M (owed_at w fees) ≡ owed (put w M) fees
unfolding owed_at
owes M w fees = owes_from M w 0 fees

-- the last tests of a loan and of a renewal
pub owing : (M : Map) (w : Entries) (agreed : Bool) (member : Member) (article : Article) → over M (owing_tests w agreed member article) ≡ owing_verdict (owed (put w M) member.patron.fees) agreed member article
unfolding owing_tests
owing M w agreed member article =
    over_then M (owed_at w member.patron.fees) (λ o. Give (owing_verdict o agreed member article))
    ∙ ap (λ o. owing_verdict o agreed member article) (owes M w member.patron.fees)

-- A PAYMENT

-- the fees of a list in order, each after the ones before it, also where nothing is left
abbrev pub pay_each : Map → List (List ℕ) → Payments → Payments
pay_each M [] done = done
pay_each M (id ∷ more) done = pay_each M more (pay_one id done (fee_in (put done.writes M) id))

-- where nothing is left, nothing is paid
none_paid : (id : List ℕ) (done : Payments) (fee : Option Fee) → done.left ≡ 0 → pay_one id done fee ≡ done
unfolding pay_one
none_paid id done None h = refl
none_paid id done (Some fee) h =
    let rest : ℕ = part_of 0 fee in
    let part : part_of done.left fee ≡ 0 = ap (λ n. part_of n fee) h ∙ zero-min _ in
    ap (λ n. part_paid id n fee done) part

none_left : (M : Map) (ids : List (List ℕ)) (done : Payments) → done.left ≡ 0 → pay_each M ids done ≡ done
none_left M [] done h = refl
none_left M (id ∷ more) done h =
    ap (pay_each M more) (none_paid id done (fee_in (put done.writes M) id) h) ∙ none_left M more done h

pays : (M : Map) (ids : List (List ℕ)) (done : Payments) → over M (pay_rule_each ids done) ≡ pay_each M ids done
pays M [] done = refl
pays M (id ∷ more) done =
    over_either M (done.left == 0) (Give done) (ask_after done.writes (keys.Fee id) >>= λ found. pay_rule_each more (pay_one id done (as_fee found))) (λ x. x ≡ pay_each M (id ∷ more) done)
    (λ e. sym (none_left M (id ∷ more) done (eqb-true done.left 0 e)))
    (λ e. over_then M (ask_after done.writes (keys.Fee id)) (λ found. pay_rule_each more (pay_one id done (as_fee found)))
    ∙ ap (λ found. over M (pay_rule_each more (pay_one id done (as_fee found)))) (asked done.writes M (keys.Fee id))
    ∙ pays M more (pay_one id done (fee_in (put done.writes M) id)))

names : (M : Map) (b : Bool) (id : List ℕ) (fees : List (List ℕ)) → over M (named b id fees) ≡ cond b (only_known id fees (fee_in M id)) fees
unfolding fee_at
names M true id fees = refl
names M false id fees = refl

means : (M : Map) (fee : Option (List ℕ)) (fees : List (List ℕ)) → over M (meant_at fee fees) ≡ meant M fee fees
unfolding meant_at
means M None fees = refl
means M (Some id) fees = names M (has_id id fees) id fees

pub paid-over : (M : Map) (p : Terms) (q : FeePaid) (date : List ℕ) (patron : Patron)
    → over M (payment_rule p q date patron) ≡ all_paid p q date patron (pay_each M (meant M q.fee patron.fees) (record { left = q.amount; writes = []; closed = [] }))
unfolding payment_rule
paid-over M p q date patron =
    let begun : Payments = record { left = q.amount; writes = []; closed = [] } in
    let next : List (List ℕ) → Asks Effect = λ ids. pay_rule_each ids begun >>= λ done. Give (all_paid p q date patron done) in
    over_then M (meant_at q.fee patron.fees) next
    ∙ ap (λ ids. over M (next ids)) (means M q.fee patron.fees)
    ∙ over_then M (pay_rule_each (meant M q.fee patron.fees) begun) (λ done. Give (all_paid p q date patron done))
    ∙ ap (all_paid p q date patron) (pays M (meant M q.fee patron.fees) begun)
