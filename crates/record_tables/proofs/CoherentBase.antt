-- The records that rows give, where no row breaks a rule, are coherent.
use Rattle.std.proofs.Common.{◌≡◌, ◌≤◌, ◌<◌, ℕ, List, [], Bool, true, false, Option, Some, None, length, map, refl, subst, sym, ap, ◌∙◌, arith}
use Rattle.std.specs.Prelude.{is_some, ◌&&◌, nat_lt, option_map, option_and_then, unwrap_or}
use Rattle.std.specs.List.{list_all}
use Rattle.std.specs.Option.{option_or}
use Rattle.std.proofs.lemmas.Bool.{and_from, and_parts, le-ltb, ltb-true}
use Rattle.circ_policy.specs.Medias.{media_of_code}
use Rattle.circ_policy.specs.Policy.{media_of}
use Rattle.circ_policy.specs.Terms.{Terms}
use Rattle.circ_policy.specs.declared.media_type.MediaType.{MediaType}
use Rattle.circ_policy.specs.declared.media_type.MediaType.TheVariants as media
use Rattle.sip_reader.specs.Texts.{is_id, is_text}
use Rattle.sip_reader.specs.declared.amount.TheConstants.{AMOUNT_MAX}
use Rattle.circ_records.specs.declared.holds.TheConstants.{QUEUE_MAX}
use Rattle.record_tables.specs.Base.{broken_in}
use Rattle.circ_records.specs.MadeFees.{is_taken, may_be_made}
use Rattle.circ_records.specs.Coherent.{IsCoherentFee, IsCoherentItem, IsCoherentLoan, IsCoherentMap, IsCoherentPatron, AreOfKind, Map, are_distinct, as_fee, as_item, as_patron, has_id, is_hold, is_known, is_lent_to, is_loan_of, is_of_kind, is_owed_by, number_before}
use Rattle.record_tables.specs.Rules.{closed_rule, fee_rule, has_fee_texts, has_hold_texts, has_item_texts, has_loan_values, has_media, has_patron_texts, has_row, hold_rule, is_owing, item_rule, loan_rule, patron_rule}
use Rattle.circ_records.specs.Classes.{has_class}
use Rattle.record_tables.specs.Tables.{Row, Rows, field}
use Rattle.record_tables.specs.Told.{closed_told, fee_told, fees_of, item_told, loan_in, loans_of, patron_told, queue_of, row_with, rows_with, told}
use Rattle.record_tables.specs.Values.{due_of, hundredths, renewals_of}
use Rattle.circ_records.specs.Texts.{is_same}
use Rattle.circ_records.specs.declared.holds.Hold.{Hold}
use Rattle.circ_records.specs.declared.key.Key.{Key}
use Rattle.circ_records.specs.declared.key.Key.TheVariants as key
use Rattle.circ_records.specs.declared.record.Fee.{Fee}
use Rattle.circ_records.specs.declared.record.Item.{Item}
use Rattle.circ_records.specs.declared.record.Loan.{Loan}
use Rattle.circ_records.specs.declared.record.Patron.{Patron}
use Rattle.circ_records.specs.declared.record.Record.{Record}
use Rattle.schema.specs.declared.table_name.TableName.{TableName}
use Rattle.schema.specs.declared.table_name.TableName.TheVariants as table
use Rattle.record_tables.proofs.ReadBack.{and-false}
use Rattle.record_tables.proofs.Bounds.{due-real, hundredths-bound, none-made, renewals-bound}
use Rattle.record_tables.proofs.Kept.{KeptClosed, KeptFee, KeptHold, KeptItem, KeptLoan, KeptPatron, kept-closed, kept-fee, kept-hold, kept-item, kept-loan, kept-patron}
use Rattle.circ_records.proofs.SameTexts.{same-text}
use Rattle.record_tables.proofs.RowLists.{as-many, borrower-apart, distinct-held, distinct-once, few-rows, held-listed, is_at, listed-once, queue-all, queue-patrons}
use Rattle.record_tables.proofs.RowsKept.{KeptFrom, each, found, kept-from, kept-less, once, once-held}

-- rows none of which breaks a rule
pub record KeptRows (policy : Terms) (first : Option ℕ) (rows : Rows) : Type 0 where
  pub patrons : KeptFrom (KeptPatron policy) [] rows.patrons
  pub items : KeptFrom (KeptItem policy) [] rows.items
  pub loans : KeptFrom (KeptLoan rows.patrons rows.items) [] rows.loans
  pub fees : KeptFrom (KeptFee first rows.patrons) [] rows.fees
  pub closed : KeptFrom (KeptClosed first rows.patrons rows.fees) [] rows.closed
  pub holds : KeptFrom (KeptHold rows.patrons rows.items rows.loans) [] rows.holds

-- a patron that has a row is known
known : (rows : Rows) (m : Map) → ((k : Key) → m k ≡ told rows k) → (id : List ℕ)
    → has_row 0 id rows.patrons ≡ true → is_known m id ≡ true
known rows m tells id there =
    ap (λ o. is_some (as_patron o)) (tells (key.Patron id)) ∙ by (row_with 0 id rows.patrons) ∙ there
  where
    by : (o : Option Row) → is_some (as_patron (option_map (patron_told rows id) o)) ≡ is_some o
    by None = refl
    by (Some row) = refl

-- KINDS

kinds : (rows : Rows) (k : Key) (r : Record) → told rows k ≡ Some r → is_of_kind k r ≡ true
kinds rows (key.Patron id) r e = by (row_with 0 id rows.patrons) e
  where
    by : (o : Option Row) → option_map (patron_told rows id) o ≡ Some r → is_of_kind (key.Patron id) r ≡ true
    by None e = cc e
    by (Some row) e = let same : patron_told rows id row ≡ r = cc e in ap (is_of_kind (key.Patron id)) (sym same)
kinds rows (key.Item id) r e = by (row_with 0 id rows.items) e
  where
    by : (o : Option Row) → option_map (item_told rows id) o ≡ Some r → is_of_kind (key.Item id) r ≡ true
    by None e = cc e
    by (Some row) e = let same : item_told rows id row ≡ r = cc e in ap (is_of_kind (key.Item id)) (sym same)
kinds rows (key.Fee id) r e = by (row_with 0 id rows.fees) (row_with 0 id rows.closed) e
  where
    by : (o p : Option Row) → option_or (option_map fee_told o) (option_map closed_told p) ≡ Some r
        → is_of_kind (key.Fee id) r ≡ true
    by None None e = cc e
    by None (Some row) e = let same : closed_told row ≡ r = cc e in ap (is_of_kind (key.Fee id)) (sym same)
    by (Some row) p e = let same : fee_told row ≡ r = cc e in ap (is_of_kind (key.Fee id)) (sym same)

-- PATRONS

-- the loans of a patron are the items that are on loan to it
lent : (policy : Terms) (first : Option ℕ) (rows : Rows) → KeptRows policy first rows
    → (id item : List ℕ) → has_id item (loans_of id rows.loans)
    ≡ is_lent_to id (as_item (told rows (key.Item item)))
lent policy first rows kept id item =
    listed-once 0 1 id item rows.loans (once 1 [] rows.loans (kept-less _ _ (λ b row k. k.fresh) [] rows.loans kept.loans))
    ∙ by (row_with 0 item rows.items) refl (row_with 1 item rows.loans) refl
  where
    by : (o : Option Row) → row_with 0 item rows.items ≡ o → (l : Option Row)
        → row_with 1 item rows.loans ≡ l → is_at 0 id l
        ≡ is_lent_to id (as_item (option_map (λ row. item_told rows item row) o))
    by None e None f = refl
    by None e (Some loan) f =
        let h = found (λ row. is_same item (field 1 row)) (λ row. has_row 0 (field 1 row) rows.items ≡ true) rows.loans loan f (each _ _ (λ b row k. k.item) [] rows.loans kept.loans) in
        let there : has_row 0 item rows.items ≡ true = subst (λ (t : List ℕ). has_row 0 t rows.items ≡ true) (sym (same-text item (field 1 loan) h.1)) h.0 in
        let none : has_row 0 item rows.items ≡ false = ap is_some e in
        cc
    by (Some row) e l f = sym (ap (λ o. is_loan_of id (option_map loan_in o)) f ∙ at l)
      where
        at : (l : Option Row) → is_loan_of id (option_map loan_in l) ≡ is_at 0 id l
        at None = refl
        at (Some loan) = refl

-- the fees of a patron are its own that aren't paid in full
not-below : (n : ℕ) → nat_lt n n ≡ false
not-below n = le-ltb n n (omega arith)

owed : (policy : Terms) (first : Option ℕ) (rows : Rows) → KeptRows policy first rows
    → (id fee : List ℕ) → has_id fee (fees_of id rows.fees)
    ≡ is_owed_by id (as_fee (told rows (key.Fee fee)))
unfolding is_owing
owed policy first rows kept id fee =
    listed-once 1 0 id fee rows.fees (once 0 [] rows.fees (kept-less _ _ (λ b row k. k.fresh) [] rows.fees kept.fees))
    ∙ by (row_with 0 fee rows.fees) refl (row_with 0 fee rows.closed)
  where
    by : (o : Option Row) → row_with 0 fee rows.fees ≡ o → (p : Option Row)
        → is_at 1 id o ≡ is_owed_by id
        (as_fee (option_or (option_map fee_told o) (option_map closed_told p)))
    by None e None = refl
    by None e (Some row) = sym (ap (λ t. is_same id (field 1 row) && t) (not-below (hundredths (field 3 row))) ∙ and-false (is_same id (field 1 row)))
    by (Some row) e p =
        let h = found (λ r. is_same fee (field 0 r)) (λ r. is_owing r ≡ true) rows.fees row e (each _ _ (λ b r k. k.owing) [] rows.fees kept.fees) in
        sym (ap (λ t. is_same id (field 1 row) && t) h.0 ∙ and-true (is_same id (field 1 row)))
      where
        and-true : (a : Bool) → (a && true) ≡ a
        and-true true = refl
        and-true false = refl

-- the texts of a row
patron-texts : (row : Row) → has_patron_texts row ≡ true → (is_id (field 0 row) ≡ true) × (is_text (field 1 row) ≡ true)
unfolding has_patron_texts
patron-texts row h =
    let p = and_parts (is_id (field 0 row)) (is_text (field 1 row) && is_text (field 2 row)) h in
    (p.0, (and_parts (is_text (field 1 row)) (is_text (field 2 row)) p.1).0)

coherent-patron : (policy : Terms) (first : Option ℕ) (rows : Rows) (m : Map)
    → KeptRows policy first rows → ((k : Key) → m k ≡ told rows k)
    → (id : List ℕ) (p : Patron) → as_patron (told rows (key.Patron id)) ≡ Some p → IsCoherentPatron policy m id p
coherent-patron policy first rows m kept tells id p e = by (row_with 0 id rows.patrons) refl e
  where
    by : (o : Option Row) → row_with 0 id rows.patrons ≡ o
        → as_patron (option_map (patron_told rows id) o) ≡ Some p → IsCoherentPatron policy m id p
    by None f e = cc e
    by (Some row) f e =
        let h = found (λ r. is_same id (field 0 r)) (λ r. (has_patron_texts r ≡ true) × (has_class policy (field 2 r) ≡ true)) rows.patrons row f
        (each _ _ (λ b r k. (k.texts, k.class)) [] rows.patrons kept.patrons) in
        let own : id ≡ field 0 row = same-text id (field 0 row) h.1 in
        let texts = patron-texts row h.0.0 in
        let name : p.name ≡ field 1 row = cc e in
        let class : p.class ≡ field 2 row = cc e in
        let loans : p.loans ≡ loans_of id rows.loans = cc e in
        let fees : p.fees ≡ fees_of id rows.fees = cc e in
        record {
          id_text = subst (λ (t : List ℕ). is_id t ≡ true) (sym own) texts.0;
          name = subst (λ (t : List ℕ). is_text t ≡ true) (sym name) texts.1;
          class = subst (λ (t : List ℕ). has_class policy t ≡ true) (sym class) h.0.1;
          loans = λ item. ap (has_id item) loans ∙ lent policy first rows kept id item ∙ ap (λ o. is_lent_to id (as_item o)) (sym (tells (key.Item item)));
          loans_once = ap are_distinct loans ∙ distinct-once 0 1 id rows.loans (once 1 [] rows.loans (kept-less _ _ (λ b row k. k.fresh) [] rows.loans kept.loans));
          fees = λ fee. ap (has_id fee) fees ∙ owed policy first rows kept id fee ∙ ap (λ o. is_owed_by id (as_fee o)) (sym (tells (key.Fee fee)));
          fees_once = ap are_distinct fees ∙ distinct-once 1 0 id rows.fees (once 0 [] rows.fees (kept-less _ _ (λ b row k. k.fresh) [] rows.fees kept.fees));
        }

-- ITEMS

item-texts : (row : Row) → has_item_texts row ≡ true
    → (is_id (field 0 row) ≡ true) × (is_text (field 1 row) ≡ true) × (is_text (field 3 row) ≡ true)
    × (is_text (field 4 row) ≡ true)
unfolding has_item_texts
item-texts row h = by (is_id (field 0 row)) (is_text (field 1 row)) (is_text (field 2 row)) (is_text (field 3 row)) (is_text (field 4 row)) h
  where
    by : (a b c d e : Bool) → (a && b && c && d && e) ≡ true → (a ≡ true) × (b ≡ true) × (d ≡ true) × (e ≡ true)
    by true true true true true h = (refl, refl, refl, refl)
    by true true true true false h = cc h
    by true true true false e h = cc h
    by true true false d e h = cc h
    by true false c d e h = cc h
    by false b c d e h = cc h

media-kept : (policy : Terms) (code : List ℕ) → has_media policy code ≡ true
    → is_some (media_of policy (unwrap_or (media_of_code code) media.Other)) ≡ true
unfolding has_media
media-kept policy code h = by (media_of_code code) h
  where
    by : (o : Option MediaType) → is_some (option_and_then (media_of policy) o) ≡ true
        → is_some (media_of policy (unwrap_or o media.Other)) ≡ true
    by None h = cc h
    by (Some x) h = h

loan-values : (row : Row) → has_loan_values row ≡ true → is_some (due_of (field 2 row)) ≡ true
unfolding has_loan_values
loan-values row h = (and_parts (is_some (due_of (field 2 row))) (is_some (renewals_of (field 3 row))) h).0

coherent-loan : (policy : Terms) (first : Option ℕ) (rows : Rows) (m : Map)
    → KeptRows policy first rows → ((k : Key) → m k ≡ told rows k)
    → (id : List ℕ) (l : Loan) → option_map loan_in (row_with 1 id rows.loans) ≡ Some l
    → IsCoherentLoan m (queue_of id rows.holds) l
coherent-loan policy first rows m kept tells id l e = by (row_with 1 id rows.loans) refl e
  where
    by : (o : Option Row) → row_with 1 id rows.loans ≡ o → option_map loan_in o ≡ Some l
        → IsCoherentLoan m (queue_of id rows.holds) l
    by None f e = cc e
    by (Some row) f e =
        let h = found (λ r. is_same id (field 1 r)) (λ r. (has_row 0 (field 0 r) rows.patrons ≡ true) × (has_loan_values r ≡ true)) rows.loans row f
        (each _ _ (λ b r k. (k.patron, k.values)) [] rows.loans kept.loans) in
        let patron : l.patron ≡ field 0 row = cc e in
        let due : unwrap_or (due_of (field 2 row)) 0 ≡ l.due = cc e in
        let renewals : unwrap_or (renewals_of (field 3 row)) 0 ≡ l.renewals = cc e in
        let day = due-real (field 2 row) (loan-values row h.0.1) in
        record {
          patron = subst (λ (t : List ℕ). is_known m t ≡ true) (sym patron) (known rows m tells (field 0 row) h.0.0);
          waits =
              ap (λ (t : List ℕ). has_id t (map (λ (h : Hold). h.patron) (queue_of id rows.holds))) patron
              ∙ ap (has_id (field 0 row)) (queue-patrons (rows_with 0 id rows.holds))
              ∙ held-listed id (field 0 row) rows.holds
              ∙ borrower-apart rows.loans id row rows.holds f (each _ _ (λ b r k. k.borrower) [] rows.holds kept.holds);
          due = (day.0, day.1, day.2, day.3 ∙ ap Some due);
          renewals = subst (λ (n : ℕ). n ≤ 4294967295) renewals (renewals-bound (field 3 row));
        }

hold-texts : (row : Row) → has_hold_texts row ≡ true → is_text (field 2 row) ≡ true
unfolding has_hold_texts
hold-texts row h = (and_parts (is_id (field 1 row)) (is_text (field 2 row)) (and_parts (is_id (field 0 row)) (is_id (field 1 row) && is_text (field 2 row)) h).1).1

coherent-item : (policy : Terms) (first : Option ℕ) (rows : Rows) (m : Map)
    → KeptRows policy first rows → ((k : Key) → m k ≡ told rows k)
    → (id : List ℕ) (i : Item) → as_item (told rows (key.Item id)) ≡ Some i → IsCoherentItem policy m id i
coherent-item policy first rows m kept tells id i e = by (row_with 0 id rows.items) refl e
  where
    by : (o : Option Row) → row_with 0 id rows.items ≡ o
        → as_item (option_map (item_told rows id) o) ≡ Some i → IsCoherentItem policy m id i
    by None f e = cc e
    by (Some row) f e =
        let h = found (λ r. is_same id (field 0 r)) (λ r. (has_item_texts r ≡ true) × (has_media policy (field 2 r) ≡ true)) rows.items row f
        (each _ _ (λ b r k. (k.texts, k.media)) [] rows.items kept.items) in
        let own : id ≡ field 0 row = same-text id (field 0 row) h.1 in
        let (id_text, title_text, location_text, properties_text) = item-texts row h.0.0 in
        let title : i.title ≡ field 1 row = cc e in
        let type : i.media ≡ unwrap_or (media_of_code (field 2 row)) media.Other = cc e in
        let location : i.location ≡ field 3 row = cc e in
        let properties : i.properties ≡ field 4 row = cc e in
        let loan : i.loan ≡ option_map loan_in (row_with 1 id rows.loans) = cc e in
        let holds : i.holds ≡ queue_of id rows.holds = cc e in
        record {
          id_text = subst (λ (t : List ℕ). is_id t ≡ true) (sym own) id_text;
          title = subst (λ (t : List ℕ). is_text t ≡ true) (sym title) title_text;
          location = subst (λ (t : List ℕ). is_text t ≡ true) (sym location) location_text;
          properties = subst (λ (t : List ℕ). is_text t ≡ true) (sym properties) properties_text;
          media = ap (λ t. is_some (media_of policy t)) type ∙ media-kept policy (field 2 row) h.0.1;
          loan = λ l lent. subst (λ (q : List Hold). IsCoherentLoan m q l) (sym holds) (coherent-loan policy first rows m kept tells id l (sym loan ∙ lent));
          holds = subst (λ (q : List Hold). list_all (is_hold m) q ≡ true) (sym holds)
              (queue-all (is_hold m) id rows.holds (each _ _ (λ b r k. and_from (is_known m (field 1 r)) (is_text (field 2 r)) (known rows m tells (field 1 r) k.patron) (hold-texts r k.texts)) [] rows.holds kept.holds));
          holds_once =
              ap (λ (q : List Hold). are_distinct (map (λ (h : Hold). h.patron) q)) holds
              ∙ ap are_distinct (queue-patrons (rows_with 0 id rows.holds))
              ∙ distinct-held id rows.holds
              (once-held [] rows.holds (kept-less _ _ (λ b r k. k.fresh) [] rows.holds kept.holds));
          few = subst (λ (n : ℕ). n ≤ QUEUE_MAX) (sym (ap length holds ∙ as-many (rows_with 0 id rows.holds))) (few-rows id [] rows.holds (omega arith) (kept-less _ _ (λ b r k. k.few) [] rows.holds kept.holds));
        }

-- FEES

fee-texts : (row : Row) → has_fee_texts row ≡ true → is_id (field 0 row) ≡ true
unfolding has_fee_texts
fee-texts row h = (and_parts (is_id (field 0 row)) (is_id (field 1 row)) h).0

owing-less : (row : Row) → is_owing row ≡ true → hundredths (field 4 row) ≤ hundredths (field 3 row)
unfolding is_owing
owing-less row h = let less : hundredths (field 4 row) < hundredths (field 3 row) = ltb-true (hundredths (field 4 row)) (hundredths (field 3 row)) h in omega arith

made-before : (first : Option ℕ) (id : List ℕ) → is_taken first id ≡ false
    → may_be_made (number_before first) id ≡ false
made-before None id h = none-made id
made-before (Some n) id h = h

coherent-fee : (policy : Terms) (first : Option ℕ) (rows : Rows) (m : Map)
    → KeptRows policy first rows → ((k : Key) → m k ≡ told rows k)
    → (id : List ℕ) (f : Fee) → as_fee (told rows (key.Fee id)) ≡ Some f → IsCoherentFee (number_before first) m id f
coherent-fee policy first rows m kept tells id f e =
    by (row_with 0 id rows.fees) refl (row_with 0 id rows.closed) refl e
  where
    by : (o : Option Row) → row_with 0 id rows.fees ≡ o → (p : Option Row) → row_with 0 id rows.closed ≡ p
        → as_fee (option_or (option_map fee_told o) (option_map closed_told p)) ≡ Some f
        → IsCoherentFee (number_before first) m id f
    by None g None k e = cc e
    by None g (Some row) k e =
        let h = found (λ r. is_same id (field 0 r)) (λ r. (has_fee_texts r ≡ true) × (has_row 0 (field 1 r) rows.patrons ≡ true) × (is_taken first (field 0 r) ≡ false)) rows.closed row k
        (each _ _ (λ b r k. (k.texts, k.patron, k.number)) [] rows.closed kept.closed) in
        let own : field 0 row ≡ id = sym (same-text id (field 0 row) h.1) in
        let patron : field 1 row ≡ f.patron = cc e in
        let amount : hundredths (field 3 row) ≡ f.amount = cc e in
        let paid : hundredths (field 3 row) ≡ f.paid = cc e in
        record {
          id_text = subst (λ (t : List ℕ). is_id t ≡ true) own (fee-texts row h.0.0);
          patron = subst (λ (t : List ℕ). is_known m t ≡ true) patron (known rows m tells (field 1 row) h.0.1);
          paid = omega arith;
          amount = subst (λ (n : ℕ). n ≤ AMOUNT_MAX) amount (hundredths-bound (field 3 row));
          number = subst (λ (t : List ℕ). may_be_made (number_before first) t ≡ false) own (made-before first (field 0 row) h.0.2);
        }
    by (Some row) g p k e =
        let h = found (λ r. is_same id (field 0 r)) (λ r. (has_fee_texts r ≡ true) × (has_row 0 (field 1 r) rows.patrons ≡ true) × (is_taken first (field 0 r) ≡ false) × (is_owing r ≡ true)) rows.fees row g
        (each _ _ (λ b r k. (k.texts, k.patron, k.number, k.owing)) [] rows.fees kept.fees) in
        let own : field 0 row ≡ id = sym (same-text id (field 0 row) h.1) in
        let patron : field 1 row ≡ f.patron = cc e in
        let amount : hundredths (field 3 row) ≡ f.amount = cc e in
        let paid : hundredths (field 4 row) ≡ f.paid = cc e in
        let less : hundredths (field 4 row) ≤ hundredths (field 3 row) = owing-less row h.0.3 in
        record {
          id_text = subst (λ (t : List ℕ). is_id t ≡ true) own (fee-texts row h.0.0);
          patron = subst (λ (t : List ℕ). is_known m t ≡ true) patron (known rows m tells (field 1 row) h.0.1);
          paid = omega arith;
          amount = subst (λ (n : ℕ). n ≤ AMOUNT_MAX) amount (hundredths-bound (field 3 row));
          number = subst (λ (t : List ℕ). may_be_made (number_before first) t ≡ false) own (made-before first (field 0 row) h.0.2);
        }

-- ALL RECORDS

-- no table breaks a rule
abbrev pub Unbroken : Terms → Option ℕ → Rows → Type 0
Unbroken policy first rows = (name : TableName) → broken_in policy first name rows ≡ None

kept-rows : (policy : Terms) (first : Option ℕ) (rows : Rows) → Unbroken policy first rows → KeptRows policy first rows
kept-rows policy first rows none = record {
  patrons = kept-from table.Patrons (patron_rule policy) (KeptPatron policy) (kept-patron policy) 1 [] rows.patrons (none table.Patrons);
  items =
      kept-from table.Items (item_rule policy) (KeptItem policy) (kept-item policy) 1 [] rows.items (none table.Items);
  loans = kept-from table.Loans (loan_rule rows.patrons rows.items) (KeptLoan rows.patrons rows.items) (kept-loan rows.patrons rows.items) 1 [] rows.loans (none table.Loans);
  fees = kept-from table.Fees (fee_rule first rows.patrons) (KeptFee first rows.patrons) (kept-fee first rows.patrons) 1 [] rows.fees (none table.Fees);
  closed = kept-from table.Closed (closed_rule first rows.patrons rows.fees) (KeptClosed first rows.patrons rows.fees) (kept-closed first rows.patrons rows.fees) 1 [] rows.closed (none table.Closed);
  holds = kept-from table.Holds (hold_rule rows.patrons rows.items rows.loans) (KeptHold rows.patrons rows.items rows.loans) (kept-hold rows.patrons rows.items rows.loans) 1 [] rows.holds (none table.Holds);
}

pub unbroken : (policy : Terms) (first : Option ℕ) (rows : Rows)
    → broken_in policy first table.Patrons rows ≡ None
    → broken_in policy first table.Items rows ≡ None
    → broken_in policy first table.Loans rows ≡ None
    → broken_in policy first table.Fees rows ≡ None
    → broken_in policy first table.Closed rows ≡ None
    → broken_in policy first table.Holds rows ≡ None → Unbroken policy first rows
unbroken policy first rows p i l f c h table.Patrons = p
unbroken policy first rows p i l f c h table.Items = i
unbroken policy first rows p i l f c h table.Loans = l
unbroken policy first rows p i l f c h table.Fees = f
unbroken policy first rows p i l f c h table.Closed = c
unbroken policy first rows p i l f c h table.Holds = h

pub coherent-rows : (policy : Terms) (first : Option ℕ) (rows : Rows) (m : Map)
    → Unbroken policy first rows → ((k : Key) → m k ≡ told rows k)
    → IsCoherentMap policy (number_before first) m
coherent-rows policy first rows m none tells =
    let kept = kept-rows policy first rows none in
    record {
      patrons = λ id x e. coherent-patron policy first rows m kept tells id x (ap as_patron (sym (tells (key.Patron id))) ∙ e);
      items = λ id x e. coherent-item policy first rows m kept tells id x (ap as_item (sym (tells (key.Item id))) ∙ e);
      fees = λ id x e. coherent-fee policy first rows m kept tells id x (ap as_fee (sym (tells (key.Fee id))) ∙ e);
    }

-- what rows give is of the keys' kinds
pub told-kinds : (rows : Rows) (m : Map) → ((k : Key) → m k ≡ told rows k) → AreOfKind m
told-kinds rows m tells k r e = kinds rows k r (sym (tells k) ∙ e)
