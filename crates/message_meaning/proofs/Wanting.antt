-- Which keys a line wants: the patron or the item of its request, or what a record that is had names.
use Rattle.std.proofs.Common.{◌≡◌, inl, inr, ℕ, zero, suc, ◌<◌, List, [], ◌∷◌, Option, Some, None, refl, arith}
use Rattle.std.specs.Prelude.{Contains, slice_index_or}
use Rattle.std.specs.Option.{option_map_or}
use Rattle.circ_policy.specs.Policy.{class_of, media_of}
use Rattle.circ_policy.specs.Terms.{Terms}
use Rattle.circ_policy.specs.declared.class.Class.{Class}
use Rattle.circ_policy.specs.declared.media.Media.{Media}
use Rattle.circ_records.specs.Records.{Entries, record_at}
use Rattle.circ_records.specs.declared.key.Key.{Key}
use Rattle.circ_records.specs.declared.key.Key.TheVariants as keys
use Rattle.circ_records.specs.declared.record.Item.{Item}
use Rattle.circ_records.specs.declared.record.Loan.{Loan}
use Rattle.circ_records.specs.declared.record.Patron.{Patron}
use Rattle.circ_records.specs.declared.record.Record.{Record}
use Rattle.circ_records.specs.declared.record.Record.TheVariants as records
use Rattle.read_set.specs.Lookups.{patron_at, item_at, fee_at, ask_after}
use Rattle.read_set.specs.Asks.{Give, Ask}
use Rattle.read_set.specs.Known.{as_article, as_member, as_fee, in_class, of_media}
use Rattle.read_set.specs.Maps.{Part}
use Rattle.read_set.specs.Wanted.{IsBorrower, Names}
use Rattle.read_set.specs.declared.known.Article.{Article}
use Rattle.read_set.specs.declared.known.Member.{Member}
use Rattle.message_meaning.proofs.Reach.{Reaches, reach_give, reach_any, reach_ask}

-- near keys are those of what is had: what a record names that is had is near
abbrev pub IsClosed : Part → (Key → Type 0) → Type 0
IsClosed has near = (j : Key) (r : Option Record) (k : Key) → has j ≡ Some r → Names r k → near k

-- what a patron lists is near
pub record Lists (near : Key → Type 0) (patron : Patron) : Type 0 where
  pub loans : (id : List ℕ) → Contains patron.loans id → near (keys.Item id)
  pub fees : (id : List ℕ) → Contains patron.fees id → near (keys.Fee id)

abbrev pub ListsAll : (Key → Type 0) → Option Member → Type 0
ListsAll near None = Unit {0}
ListsAll near (Some member) = Lists near member.patron

-- the patron who has an item is near
abbrev pub Lent : (Key → Type 0) → Option Loan → Type 0
Lent near loan = (k : Key) → IsBorrower loan k → near k

abbrev pub LentAll : (Key → Type 0) → Option Article → Type 0
LentAll near None = Unit {0}
LentAll near (Some article) = Lent near article.item.loan

in_any_class : (near : Key → Type 0) (patron : Patron) (class : Option Class) → Lists near patron → ListsAll near (in_class patron class)
in_any_class near patron None h = tt
in_any_class near patron (Some class) h = h

member_near : (near : Key → Type 0) (p : Terms) (r : Option Record) → ((k : Key) → Names r k → near k) → ListsAll near (as_member p r)
unfolding as_member
member_near near p None h = tt
member_near near p (Some (records.Patron patron)) h =
    in_any_class near patron (class_of p patron.class) (record { loans = λ id c. h (keys.Item id) (inl (id, c, refl)); fees = λ id c. h (keys.Fee id) (inr (id, c, refl)) })
member_near near p (Some (records.Item item)) h = tt
member_near near p (Some (records.Fee fee)) h = tt

of_any_media : (near : Key → Type 0) (item : Item) (media : Option Media) → Lent near item.loan → LentAll near (of_media item media)
of_any_media near item None h = tt
of_any_media near item (Some media) h = h

article_near : (near : Key → Type 0) (p : Terms) (r : Option Record) → ((k : Key) → Names r k → near k) → LentAll near (as_article p r)
unfolding as_article
article_near near p None h = tt
article_near near p (Some (records.Patron patron)) h = tt
article_near near p (Some (records.Item item)) h = of_any_media near item (media_of p item.media) h
article_near near p (Some (records.Fee fee)) h = tt

pub patron_reach : (has : Part) (near : Key → Type 0) → IsClosed has near → (p : Terms) (id : List ℕ) → near (keys.Patron id) → Reaches has near (patron_at p id) (ListsAll near)
unfolding patron_at
patron_reach has near closed p id n =
    reach_ask has near (keys.Patron id) (λ r. Give (as_member p r)) (ListsAll near) n
    (λ r e. reach_give has near (as_member p r) (ListsAll near) (member_near near p r (λ k m. closed (keys.Patron id) r k e m)))

pub item_reach : (has : Part) (near : Key → Type 0) → IsClosed has near → (p : Terms) (id : List ℕ) → near (keys.Item id) → Reaches has near (item_at p id) (LentAll near)
unfolding item_at
item_reach has near closed p id n =
    reach_ask has near (keys.Item id) (λ r. Give (as_article p r)) (LentAll near) n
    (λ r e. reach_give has near (as_article p r) (LentAll near) (article_near near p r (λ k m. closed (keys.Item id) r k e m)))

pub fee_reach : (has : Part) (near : Key → Type 0) (id : List ℕ) → near (keys.Fee id) → Reaches has near (fee_at id) (λ f. Unit {0})
unfolding fee_at
fee_reach has near id n = reach_ask has near (keys.Fee id) (λ r. Give (as_fee r)) (λ f. Unit {0}) n (λ r e. reach_any has near (as_fee r))

after_reach : (has : Part) (near : Key → Type 0) (o : Option Record) (k : Key) → (o ≡ None → near k)
    → Reaches has near (option_map_or (λ r. Give (Some r)) o (Ask k Give)) (λ r. Unit {0})
after_reach has near None k h = reach_ask has near k Give (λ r. Unit {0}) (h refl) (λ r e. reach_any has near r)
after_reach has near (Some r) k h = reach_any has near (Some r)

-- a record is asked for where it isn't among the writes so far
pub ask_reach : (has : Part) (near : Key → Type 0) (w : Entries) (k : Key) → (record_at w k ≡ None → near k) → Reaches has near (ask_after w k) (λ r. Unit {0})
unfolding ask_after
ask_reach has near w k h = after_reach has near (record_at w k) k h

-- the first of a list is in it
pub first-of : (id : List ℕ) (more : List (List ℕ)) → Contains (id ∷ more) id
first-of id more = (0, omega arith, refl)

one_of : (id j : List ℕ) (i : ℕ) → i < 1 → slice_index_or (id ∷ []) i j ≡ j → id ≡ j
one_of id j zero h e = e
one_of id j (suc i) h e = absurd (omega arith)

-- a list of one has no other
pub alone : (id j : List ℕ) → Contains (id ∷ []) j → id ≡ j
alone id j c = one_of id j c.0 (let w = c.1 in omega arith) c.2
