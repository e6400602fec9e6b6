-- Renew All keeps records coherent: turn after turn the items keep their borrower, and the fees that are made go into the patron's list, which is put in the end.
use Rattle.std.proofs.Common.{◌≡◌, ◌≤◌, ◌<◌, ◌^◌, ◌+◌, ℕ, suc, List, [], ◌∷◌, ◌++◌, Bool, true, false, cond, Option, Some, None, length, refl, subst, sym, ap, ◌∙◌, arith, IfSome, filter, not, ◌&&◌}
use Rattle.std.specs.Prelude.{is_some, nat_lt}
use Rattle.std.proofs.lemmas.Bool.{ltb-false}
use Rattle.circ_policy.specs.Terms.{Terms}
use Rattle.circ_records.proofs.SameTexts.{same-text}
use Rattle.circ_records.specs.Coherent.{as_item, has_id, is_lent_to}
use Rattle.circ_records.specs.Texts.{is_same}
use Rattle.circ_records.specs.declared.key.Key.TheVariants as keys
use Rattle.circ_records.specs.declared.record.FeeType.TheVariants as fee_types
use Rattle.circ_records.specs.declared.record.Item.{Item}
use Rattle.circ_records.specs.declared.record.Record.TheVariants as records
use Rattle.sip_answer.specs.Deeds.{names_item}
use Rattle.sip_reader.specs.Dates.{is_stamp}
use Rattle.sip_reader.specs.Texts.{fee_id}
use Rattle.sip_reader.specs.declared.request.RenewAll.{RenewAll}
use Rattle.circ_policy.specs.Ranges.{FitsMedia}
use Rattle.read_set.specs.Asks.{Give, over}
use Rattle.read_set.specs.Effects.{written}
use Rattle.read_set.specs.Fees.{fee_made, with_fee}
use Rattle.read_set.specs.Known.{as_article, item_in, patron_in}
use Rattle.read_set.specs.Loans.{charge_for, due_for}
use Rattle.read_set.specs.Lookups.{ask_after, patron_at}
use Rattle.read_set.specs.Maps.{Map, put}
use Rattle.read_set.specs.Renewals.{renewal_tests, renewed}
use Rattle.read_set.specs.RenewAlls.{all_renewed, by_renew_all, none_renewed, one_left, one_renewed, renew_all_rule, renew_all_rule_known, turn_by, turn_rule, turn_rule_known, turns_of, turns_rule}
use Rattle.sip_answer.specs.declared.reason.Reason.{Reason}
use Rattle.sip_answer.specs.declared.reason.Reason.TheVariants as reasons
use Rattle.read_set.specs.declared.effect.Effect.{Effect}
use Rattle.read_set.specs.declared.known.Article.{Article}
use Rattle.read_set.specs.declared.known.Member.{Member}
use Rattle.read_set.specs.declared.progress.Renewals.{Renewals}
use Rattle.read_set.specs.declared.verdict.LoanRequest.{LoanRequest}
use Rattle.read_set.specs.declared.verdict.Verdict.{Verdict}
use Rattle.read_set.specs.declared.verdict.Verdict.TheVariants as verdicts
use Rattle.read_set.proofs.FeeNumbers.{one-count}
use Rattle.read_set.proofs.Following.{over_all, over_then}
use Rattle.read_set.proofs.IdLists.{no-more}
use Rattle.read_set.proofs.KnownParts.{article-known, article-there, member-known, member-there}
use Rattle.read_set.proofs.Line.{Line, charge-most, due-day, right-renewed, same-renewed}
use Rattle.read_set.proofs.Listing.{IsListed, set-other, set-same, set-there, set-twice, set_at}
use Rattle.read_set.proofs.MapParts.{borrower_of, fees_of, lent_by, loans_of, owed_by, put-none, put-written, put_one, puts}
use Rattle.read_set.proofs.OneRecord.{lent-at, listed-made, owed_after, put-made, same-fees, same-loans, same-patron}
use Rattle.read_set.proofs.Overs.{asked}
use Rattle.read_set.proofs.SimpleKinds.{nothing}
use Rattle.read_set.proofs.States.{Parts, State, ends, lent-is, loans-at, put-item, put-patron, start}

-- How far it came: no patron is put yet, nobody has an item that another had, and the fees so far go into the patron's list.
record Turned (p : Terms) (n : ℕ) (M : Map) (id : List ℕ) (member : Member) (most : ℕ) (done : Renewals) : Type 0 where
  owners : List ℕ → Option (List ℕ)
  state : State p (n + 1) M (put done.writes M) (loans_of M) (lent_by M) (fees_of M) owners
  listed : IsListed (set_at id (Some done.member.patron.fees) (fees_of M)) owners
  name : done.member.patron.name ≡ member.patron.name
  class : done.member.patron.class ≡ member.patron.class
  loans : done.member.patron.loans ≡ member.patron.loans
  none : nat_lt 0 done.made ≡ false → done.member.patron.fees ≡ member.patron.fees
  free : (k : ℕ) → done.made ≤ k → k < 2 ^ 64 → owners (fee_id n k) ≡ None
  few : done.made ≤ most

apart : (n j k : ℕ) → j < k → k < 2 ^ 64 → is_same (fee_id n k) (fee_id n j) ≡ false
apart n j k less small = by (is_same (fee_id n k) (fee_id n j)) refl
  where
    by : (b : Bool) → is_same (fee_id n k) (fee_id n j) ≡ b → b ≡ false
    by true e = let one : k ≡ j = one-count n k j small (omega arith) (same-text (fee_id n k) (fee_id n j) e) in absurd (omega arith)
    by false e = refl

-- the ids that are left after a fee
free-after : (n made rental : ℕ) (id : List ℕ) (D : List ℕ → Option (List ℕ)) → ((k : ℕ) → made ≤ k → k < 2 ^ 64 → D (fee_id n k) ≡ None)
    → (k : ℕ) → cond (nat_lt 0 rental) (made + 1) made ≤ k → k < 2 ^ 64 → owed_after n made id rental D (fee_id n k) ≡ None
unfolding owed_after
free-after n made rental id D free k = by (nat_lt 0 rental)
  where
    by : (b : Bool) → cond b (made + 1) made ≤ k → k < 2 ^ 64 → cond b (set_at (fee_id n made) (Some id) D) D (fee_id n k) ≡ None
    by true low small = set-other (fee_id n made) (Some id) D (fee_id n k) (apart n made k (omega arith) small) ∙ free k (omega arith) small
    by false low small = free k low small

none-after : (n made rental : ℕ) (list own : List (List ℕ)) → (nat_lt 0 made ≡ false → list ≡ own) → nat_lt 0 (cond (nat_lt 0 rental) (made + 1) made) ≡ false → with_fee n made rental list ≡ own
none-after n made rental list own h = by (nat_lt 0 rental)
  where
    by : (b : Bool) → nat_lt 0 (cond b (made + 1) made) ≡ false → cond b (list ++ fee_id n made ∷ []) list ≡ own
    by true e = let never : made + 1 ≤ 0 = ltb-false 0 (made + 1) e in absurd (omega arith)
    by false e = h e

more-most : (made rental most : ℕ) → made ≤ most → cond (nat_lt 0 rental) (made + 1) made ≤ most + 1
more-most made rental most h = by (nat_lt 0 rental)
  where
    by : (b : Bool) → cond b (made + 1) made ≤ most + 1
    by true = omega arith
    by false = omega arith

-- what is charged of an item that a response names is an amount
fits-price : (forced : Bool) (q : RenewAll) → IfSome (cond (forced && not q.agreed) (Some 0) None) (λ x. x ≤ 99999999999)
fits-price forced q = by (forced && not q.agreed)
  where
    by : (b : Bool) → IfSome (cond b (Some 0) None) (λ x. x ≤ 99999999999)
    by true = omega arith
    by false = tt

module _ (p : Terms) (n : ℕ) (M : Map) (line : Line p n M) (forced : Bool) (q : RenewAll) (date : List ℕ) (stamp : is_stamp date ≡ true) (member : Member) (there : M (keys.Patron q.patron) ≡ Some (records.Patron member.patron)) where
  left : (id : List ℕ) (why : Reason) (most : ℕ) (done : Renewals) → Turned p n M q.patron member most done → Turned p n M q.patron member (most + 1) (one_left id why done)
  left id why most done t = record {
    owners = t.owners;
    state = t.state;
    listed = t.listed;
    name = t.name;
    class = t.class;
    loans = t.loans;
    none = t.none;
    free = t.free;
    few = let few : done.made ≤ most = t.few in omega arith;
  }

  -- an item is renewed
  made-turn : (id : List ℕ) (most : ℕ) (done : Renewals) (article : Article) → Turned p n M q.patron member most done → most < 2 ^ 64 → item_in p (put done.writes M) id ≡ Some article
      → Turned p n M q.patron member (most + 1) (one_renewed p n (by_renew_all forced q id) date article done)
  made-turn id most done article t small e =
      let a : LoanRequest = by_renew_all forced q id in
      let N : Map = put done.writes M in
      let at = article-there p N id article e in
      let terms : FitsMedia article.media = line.policy article.item.media article.media at.1 in
      let due : ℕ = due_for p a date article.media in
      let few : done.made ≤ most = t.few in
      let charge : ℕ = charge_for a article.media in
      let right = right-renewed p N id article.item due (due-day p a date article.media stamp terms.days tt) (t.state.sound.at (keys.Item id) (records.Item article.item) at.0) in
      let one = put-item t.state id (renewed due article.item) right (t.state.items id (article-known N id article.item at.0)) in
      let kept : set_at id (borrower_of (renewed due article.item).loan) (lent_by M) ≡ lent_by M =
      set-same id (borrower_of (renewed due article.item).loan) (lent_by M) (ap (λ (x : List ℕ → Option (List ℕ)). x id) (sym t.state.lent) ∙ lent-at N id article.item at.0 ∙ sym (same-renewed due article.item.loan)) in
      let two : State p (n + 1) M (put_one (keys.Item id) (records.Item (renewed due article.item)) N) (loans_of M) (lent_by M) (fees_of M) t.owners =
      subst (λ (x : List ℕ → Option (List ℕ)). State p (n + 1) M (put_one (keys.Item id) (records.Item (renewed due article.item)) N) (loans_of M) x (fees_of M) t.owners) kept one in
      let three = put-made n done.made q.patron fee_types.Rental charge line.low (omega arith) (charge-most a article.media (fits-price forced q) terms.rental) two (two.known.at q.patron (member-known M q.patron member.patron there)) in
      let after : Map = puts (fee_made n done.made q.patron fee_types.Rental charge) (put_one (keys.Item id) (records.Item (renewed due article.item)) N) in
      let whole : put (one_renewed p n a date article done).writes M ≡ after =
      put-written (written done.writes ((keys.Item id, records.Item (renewed due article.item)) ∷ [])) (fee_made n done.made q.patron fee_types.Rental charge) M
      ∙ ap (puts (fee_made n done.made q.patron fee_types.Rental charge)) (put-written done.writes ((keys.Item id, records.Item (renewed due article.item)) ∷ []) M) in
      record {
        owners = owed_after n done.made q.patron charge t.owners;
        state = subst (λ (x : Map). State p (n + 1) M x (loans_of M) (lent_by M) (fees_of M) (owed_after n done.made q.patron charge t.owners)) (sym whole) three;
        listed = subst (λ (x : List ℕ → Option (List (List ℕ))). IsListed x (owed_after n done.made q.patron charge t.owners))
            (set-twice q.patron (Some (with_fee n done.made charge done.member.patron.fees)) (Some done.member.patron.fees) (fees_of M))
            (listed-made n done.made q.patron charge (set_at q.patron (Some done.member.patron.fees) (fees_of M)) t.owners done.member.patron.fees t.listed
            (set-there q.patron (Some done.member.patron.fees) (fees_of M)) (t.free done.made (omega arith) (omega arith)));
        name = t.name;
        class = t.class;
        loans = t.loans;
        none = none-after n done.made charge done.member.patron.fees member.patron.fees t.none;
        free = free-after n done.made charge q.patron t.owners t.free;
        few = more-most done.made charge most few;
      }

  one-turn : (id : List ℕ) (most : ℕ) (done : Renewals) → Turned p n M q.patron member most done → most < 2 ^ 64 → Turned p n M q.patron member (most + 1) (over M (turn_rule p n (by_renew_all forced q id) date done))
  unfolding turn_by turn_rule
  one-turn id most done t small =
      subst (Turned p n M q.patron member (most + 1))
      (sym (over_then M (ask_after done.writes (keys.Item id)) (λ found. turn_rule_known p n (by_renew_all forced q id) date done (as_article p found))
      ∙ ap (λ found. over M (turn_rule_known p n (by_renew_all forced q id) date done (as_article p found))) (asked done.writes M (keys.Item id))))
      (by (item_in p (put done.writes M) id) refl)
    where
      verdict : (article : Article) → item_in p (put done.writes M) id ≡ Some article → (v : Verdict) → Turned p n M q.patron member (most + 1) (turn_by p n (by_renew_all forced q id) date article done v)
      verdict article e verdicts.Made = made-turn id most done article t small e
      verdict article e (verdicts.Refused why) = left id why most done t

      by : (o : Option Article) → item_in p (put done.writes M) id ≡ o → Turned p n M q.patron member (most + 1) (over M (turn_rule_known p n (by_renew_all forced q id) date done o))
      by None e = left id reasons.UnknownItem most done t
      by (Some article) e =
          over_all M (renewal_tests done.writes (by_renew_all forced q id) done.member article) (λ v. Give (turn_by p n (by_renew_all forced q id) date article done v)) (Turned p n M q.patron member (most + 1))
          (verdict article e)

  all-turns : (ids : List (List ℕ)) (most : ℕ) (done : Renewals) → Turned p n M q.patron member most done → most + length ids ≤ 2 ^ 64 → Turned p n M q.patron member (most + length ids) (over M (turns_rule p n forced q date ids done))
  all-turns [] most done t small = let same : most ≡ most + 0 = omega arith in subst (λ (x : ℕ). Turned p n M q.patron member x done) same t
  all-turns (id ∷ more) most done t small =
      let same : most + 1 + length more ≡ most + suc (length more) = omega arith in
      let next : Renewals = over M (turn_rule p n (by_renew_all forced q id) date done) in
      subst (λ (x : ℕ). Turned p n M q.patron member x (over M (turns_rule p n forced q date (id ∷ more) done))) same
      (subst (Turned p n M q.patron member (most + 1 + length more)) (sym (over_then M (turn_rule p n (by_renew_all forced q id) date done) (λ done. turns_rule p n forced q date more done)))
      (all-turns more (most + 1) next (one-turn id most done t (omega arith)) (omega arith)))

  first : Turned p n M q.patron member 0 (none_renewed member)
  first = record {
    owners = owed_by M;
    state = subst (λ (x : Map). State p (n + 1) M x (loans_of M) (lent_by M) (fees_of M) (owed_by M)) (sym (put-none M)) (start p (n + 1) M line.parts.sound);
    listed = subst (λ (x : List ℕ → Option (List (List ℕ))). IsListed x (owed_by M)) (sym (same-fees M q.patron member.patron there)) line.parts.fees;
    name = refl;
    class = refl;
    loans = refl;
    none = λ e. refl;
    free = λ k low small. line.free k small;
    few = omega arith;
  }

  -- the patron has no more loans than there are items
  few-loans : length member.patron.loans ≤ 2 ^ 64
  few-loans =
      let all : List (List ℕ) = line.parts.few.0 in
      let less : length member.patron.loans ≤ length all = no-more member.patron.loans all (line.parts.loans.once q.patron member.patron.loans (loans-at M q.patron member.patron there)) (λ x h. line.parts.few.2 x (lent-there x h)) in
      let most : length all ≤ 2 ^ 64 = line.parts.few.1 in
      omega arith
    where
      lent-there : (x : List ℕ) → has_id x member.patron.loans ≡ true → is_some (as_item (M (keys.Item x))) ≡ true
      lent-there x h = lent-known (as_item (M (keys.Item x))) (sym (lent-is M q.patron x) ∙ sym (line.parts.loans.each q.patron member.patron.loans (loans-at M q.patron member.patron there) x) ∙ h)
        where
          lent-known : (o : Option Item) → is_lent_to q.patron o ≡ true → is_some o ≡ true
          lent-known None e = cc e
          lent-known (Some i) e = refl

  end : (done : Renewals) (most : ℕ) → Turned p n M q.patron member most done → Parts p (n + 1) M (put (all_renewed p q date done).writes M)
  unfolding all_renewed
  end done most t = by (nat_lt 0 done.made) refl
    where
      by : (b : Bool) → nat_lt 0 done.made ≡ b → Parts p (n + 1) M (put (cond b (written done.writes ((keys.Patron q.patron, records.Patron done.member.patron) ∷ [])) done.writes) M)
      by true e =
          subst (λ (x : Map). Parts p (n + 1) M x) (sym (put-written done.writes ((keys.Patron q.patron, records.Patron done.member.patron) ∷ []) M))
          (ends (put-patron t.state q.patron done.member.patron (same-patron p (n + 1) M q.patron member.patron done.member.patron line.parts.sound there t.name t.class)) line.parts.few
          (subst (λ (x : List ℕ → Option (List (List ℕ))). IsListed x (lent_by M)) (sym (ap (λ l. set_at q.patron (Some l) (loans_of M)) t.loans ∙ same-loans M q.patron member.patron there)) line.parts.loans)
          t.listed)
      by false e =
          ends t.state line.parts.few line.parts.loans
          (subst (λ (x : List ℕ → Option (List (List ℕ))). IsListed x t.owners) (ap (λ l. set_at q.patron (Some l) (fees_of M)) (t.none e) ∙ same-fees M q.patron member.patron there) t.listed)

-- no more items have their turn than the patron has
fewer-turns : (named : Option (List (List ℕ))) (loans : List (List ℕ)) → length (turns_of named loans) ≤ length loans
fewer-turns None loans = omega arith
fewer-turns (Some texts) loans = shorter (names_item texts) loans
  where
    shorter : (test : List ℕ → Bool) (ids : List (List ℕ)) → length (filter test ids) ≤ length ids
    shorter test [] = omega arith
    shorter test (id ∷ more) = let less : length (filter test more) ≤ length more = shorter test more in by (test id) less
      where
        by : (b : Bool) → length (filter test more) ≤ length more → length (cond b (id ∷ filter test more) (filter test more)) ≤ suc (length more)
        by true h = omega arith
        by false h = omega arith

pub renew-all-keeps : (p : Terms) (n : ℕ) (M : Map) → Line p n M → (named : Option (List (List ℕ))) (q : RenewAll) (date : List ℕ) → is_stamp date ≡ true
    → Parts p (n + 1) M (put (over M (renew_all_rule p n named q date)).writes M)
unfolding renew_all_rule patron_at
renew-all-keeps p n M line named q date stamp = by (patron_in p M q.patron) refl
  where
    forced : Bool
    forced = is_some named

    by : (o : Option Member) → patron_in p M q.patron ≡ o → Parts p (n + 1) M (put (over M (renew_all_rule_known p n named q date o)).writes M)
    by None e = nothing p (n + 1) M line.parts
    by (Some member) e =
        let there = member-there p M q.patron member e in
        let turns : List (List ℕ) = turns_of named member.patron.loans in
        let few : length member.patron.loans ≤ 2 ^ 64 = few-loans p n M line forced q date stamp member there in
        let fewer : length turns ≤ length member.patron.loans = fewer-turns named member.patron.loans in
        subst (λ (x : Effect). Parts p (n + 1) M (put x.writes M)) (sym (over_then M (turns_rule p n forced q date turns (none_renewed member)) (λ done. Give (all_renewed p q date done))))
        (end p n M line forced q date stamp member there (over M (turns_rule p n forced q date turns (none_renewed member))) (0 + length turns)
        (all-turns p n M line forced q date stamp member there turns 0 (none_renewed member) (first p n M line forced q date stamp member there) (omega arith)))
