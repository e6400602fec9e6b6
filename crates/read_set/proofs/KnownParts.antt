-- Records that count, where records are coherent.
use Rattle.std.proofs.Common.{◌≡◌, ℕ, List, true, Option, Some, None, refl, sym, ap, ◌∙◌}
use Rattle.std.specs.Prelude.{is_some}
use Rattle.std.proofs.lemmas.Bool.{and_parts}
use Rattle.circ_policy.specs.Policy.{class_of, media_of}
use Rattle.circ_policy.specs.Terms.{Terms}
use Rattle.circ_policy.specs.declared.class.Class.{Class}
use Rattle.circ_policy.specs.declared.media.Media.{Media}
use Rattle.circ_records.specs.Coherent.{as_item, as_patron, is_known}
use Rattle.circ_records.specs.Classes.{has_class}
use Rattle.circ_records.specs.declared.key.Key.TheVariants as keys
use Rattle.circ_records.specs.declared.record.Fee.{Fee}
use Rattle.circ_records.specs.declared.record.Item.{Item}
use Rattle.circ_records.specs.declared.record.Patron.{Patron}
use Rattle.circ_records.specs.declared.record.Record.{Record}
use Rattle.circ_records.specs.declared.record.Record.TheVariants as records
use Rattle.sip_reader.specs.Texts.{is_id}
use Rattle.read_set.specs.Known.{as_article, as_fee, as_member, fee_in, in_class, item_in, of_media, patron_in}
use Rattle.read_set.specs.Maps.{Map}
use Rattle.read_set.specs.declared.known.Article.{Article}
use Rattle.read_set.specs.declared.known.Member.{Member}
use Rattle.read_set.proofs.MapParts.{IsSound, IsSoundPatron}
use Rattle.read_set.proofs.States.{patron-is}

-- a patron that counts has that record
member-of : (p : Terms) (o : Option Record) (member : Member) → as_member p o ≡ Some member → o ≡ Some (records.Patron member.patron)
unfolding as_member
member-of p None member e = cc e
member-of p (Some (records.Item i)) member e = cc e
member-of p (Some (records.Fee f)) member e = cc e
member-of p (Some (records.Patron q)) member e = by (class_of p q.class) e
  where
    by : (c : Option Class) → in_class q c ≡ Some member → Some (records.Patron q) ≡ Some (records.Patron member.patron)
    by None f = cc f
    by (Some c) f =
        let made : Member = record { patron = q; class = c } in
        let same : made ≡ member = cc f in
        ap (λ (m : Member). Some (records.Patron m.patron)) same

pub member-there : (p : Terms) (M : Map) (id : List ℕ) (member : Member) → patron_in p M id ≡ Some member → M (keys.Patron id) ≡ Some (records.Patron member.patron)
member-there p M id member e = member-of p (M (keys.Patron id)) member e

-- so it is known
pub member-known : (M : Map) (id : List ℕ) (q : Patron) → M (keys.Patron id) ≡ Some (records.Patron q) → is_known M id ≡ true
member-known M id q e = ap (λ o. is_some (as_patron o)) e

-- an item that counts has that record, and the policy these terms for it
article-of : (p : Terms) (o : Option Record) (article : Article) → as_article p o ≡ Some article → (o ≡ Some (records.Item article.item)) × (media_of p article.item.media ≡ Some article.media)
unfolding as_article
article-of p None article e = cc e
article-of p (Some (records.Patron q)) article e = cc e
article-of p (Some (records.Fee f)) article e = cc e
article-of p (Some (records.Item i)) article e = by (media_of p i.media) refl e
  where
    by : (m : Option Media) → media_of p i.media ≡ m → of_media i m ≡ Some article → (Some (records.Item i) ≡ Some (records.Item article.item)) × (media_of p article.item.media ≡ Some article.media)
    by None g f = cc f
    by (Some m) g f =
        let made : Article = record { item = i; media = m } in
        let same : made ≡ article = cc f in
        (ap (λ (a : Article). Some (records.Item a.item)) same, ap (λ (a : Article). media_of p a.item.media) (sym same) ∙ g ∙ ap (λ (a : Article). Some a.media) same)

pub article-there : (p : Terms) (M : Map) (id : List ℕ) (article : Article) → item_in p M id ≡ Some article → (M (keys.Item id) ≡ Some (records.Item article.item)) × (media_of p article.item.media ≡ Some article.media)
article-there p M id article e = article-of p (M (keys.Item id)) article e

pub article-known : (M : Map) (id : List ℕ) (i : Item) → M (keys.Item id) ≡ Some (records.Item i) → is_some (as_item (M (keys.Item id))) ≡ true
article-known M id i e = ap (λ o. is_some (as_item o)) e

-- a fee that counts has that record
fee-of : (o : Option Record) (f : Fee) → as_fee o ≡ Some f → o ≡ Some (records.Fee f)
unfolding as_fee
fee-of None f e = cc e
fee-of (Some (records.Patron q)) f e = cc e
fee-of (Some (records.Item i)) f e = cc e
fee-of (Some (records.Fee g)) f e = let same : g ≡ f = cc e in ap (λ x. Some (records.Fee x)) same

pub fee-there : (M : Map) (id : List ℕ) (f : Fee) → fee_in M id ≡ Some f → M (keys.Fee id) ≡ Some (records.Fee f)
fee-there M id f e = fee-of (M (keys.Fee id)) f e

-- where each record is right, a patron that there is counts
some-of : {A : Type 0} (o : Option A) → is_some o ≡ true → (x : A) × (o ≡ Some x)
some-of None e = cc e
some-of (Some x) e = (x, refl)

covered : (p : Terms) (name : List ℕ) → has_class p name ≡ true → is_some (class_of p name) ≡ true
unfolding has_class
covered p name h = (and_parts (is_id name) (is_some (class_of p name)) h).1

counts : (p : Terms) (q : Patron) → has_class p q.class ≡ true → (member : Member) × (as_member p (Some (records.Patron q)) ≡ Some member)
unfolding as_member
counts p q h =
    let c = some-of (class_of p q.class) (covered p q.class h) in
    (record { patron = q; class = c.0 }, ap (in_class q) c.1)

pub known-member : (p : Terms) (n : ℕ) (M : Map) (id : List ℕ) → IsSound p n M → is_known M id ≡ true → (member : Member) × (patron_in p M id ≡ Some member)
known-member p n M id h known =
    let q = some-of (as_patron (M (keys.Patron id))) known in
    let there : M (keys.Patron id) ≡ Some (records.Patron q.0) = patron-is (M (keys.Patron id)) q.0 q.1 in
    let right : IsSoundPatron p id q.0 = h.at (keys.Patron id) (records.Patron q.0) there in
    let m = counts p q.0 right.class in
    (m.0, ap (as_member p) there ∙ m.1)
