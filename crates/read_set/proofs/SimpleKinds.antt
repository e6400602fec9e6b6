-- Lines that write at most one record: blocks, item statuses and holds keep records coherent.
use Rattle.std.proofs.Common.{◌≡◌, ◌≤◌, ◌<◌, ◌+◌, ℕ, List, [], ◌∷◌, ◌++◌, Bool, true, false, Option, Some, None, length, refl, subst, sym, ap, ◌∙◌, arith}
use Rattle.std.specs.Prelude.{◌||◌, ◌&&◌, not, IfSome, nat_le}
use Rattle.std.specs.List.{list_all}
use Rattle.std.proofs.lemmas.Bool.{and_from, leb-false}
use Rattle.circ_policy.specs.Terms.{Terms}
use Rattle.circ_records.specs.declared.holds.TheConstants.{QUEUE_MAX}
use Rattle.circ_records.specs.Coherent.{IsCoherentItem, IsCoherentLoan, are_distinct, has_id, is_hold, is_known}
use Rattle.circ_records.specs.Texts.{is_same}
use Rattle.circ_records.specs.declared.holds.Hold.{Hold}
use Rattle.circ_records.specs.declared.key.Key.TheVariants as keys
use Rattle.circ_records.specs.declared.record.Item.{Item}
use Rattle.circ_records.specs.declared.record.Loan.{Loan}
use Rattle.circ_records.specs.declared.record.Record.TheVariants as records
use Rattle.sip_answer.specs.Reasons.{grants}
use Rattle.sip_answer.specs.declared.reason.Reason.{Reason}
use Rattle.sip_answer.specs.declared.reason.Reason.TheVariants as reasons
use Rattle.sip_reader.specs.Texts.{is_text}
use Rattle.sip_reader.specs.declared.request.HoldMode.{HoldMode}
use Rattle.sip_reader.specs.declared.request.HoldMode.TheVariants as modes
use Rattle.sip_reader.specs.declared.request.HoldRequest.{HoldRequest}
use Rattle.sip_reader.specs.declared.request.ItemStatus.{ItemStatus}
use Rattle.read_set.specs.Asks.{Give, over}
use Rattle.read_set.specs.Holds.{held, hold_by, hold_done, hold_kept, hold_refusal, hold_rule, queue_after}
use Rattle.read_set.specs.ItemStatuses.{item_status_rule, relabelled, updated}
use Rattle.read_set.specs.Known.{item_in, patron_in}
use Rattle.read_set.specs.Loans.{lent_to}
use Rattle.read_set.specs.Lookups.{item_at, patron_at}
use Rattle.read_set.specs.Maps.{Map, put}
use Rattle.read_set.specs.Blocks.{block_rule, block_rule_known, blocked_by}
use Rattle.read_set.specs.Owing.{owed_at}
use Rattle.read_set.specs.Queues.{waits, with_pickup, without_hold}
use Rattle.read_set.specs.Tests.{first_of}
use Rattle.read_set.specs.declared.effect.Effect.{Effect}
use Rattle.read_set.specs.declared.known.Article.{Article}
use Rattle.read_set.specs.declared.known.Member.{Member}
use Rattle.read_set.proofs.Following.{over_all}
use Rattle.read_set.proofs.IdLists.{distinct-more, has-more, same-is}
use Rattle.read_set.proofs.KnownParts.{article-there, member-known, member-there}
use Rattle.read_set.proofs.MapParts.{put-none, put-single}
use Rattle.read_set.proofs.OneRecord.{keeps-borrower, keeps-lists}
use Rattle.read_set.proofs.QueueLists.{all-less, all-more, all-pickup, distinct-less, length-pickup, longer, no-longer, none-less, patrons, patrons-more, patrons-pickup, waits-is}
use Rattle.read_set.proofs.States.{Parts}

-- nothing is written
pub nothing : (p : Terms) (n : ℕ) (M : Map) → Parts p n M M → Parts p n M (put [] M)
nothing p n M h = subst (λ (N : Map). Parts p n M N) (sym (put-none M)) h

-- BLOCK AND ENABLE

pub block-keeps : (p : Terms) (n : ℕ) (blocks : Bool) (id date : List ℕ) (M : Map) → Parts p n M M → Parts p n M (put (over M (block_rule p blocks id date)).writes M)
unfolding blocked_by block_rule patron_at
block-keeps p n blocks id date M h = by (patron_in p M id) refl
  where
    by : (o : Option Member) → patron_in p M id ≡ o → Parts p n M (put (over M (block_rule_known p blocks id date o)).writes M)
    by None e = nothing p n M h
    by (Some member) e =
        over_all M (owed_at [] member.patron.fees) (λ owes. Give (blocked_by p blocks id date member owes)) (λ (x : Effect). Parts p n M (put x.writes M))
        (λ owes. subst (λ (N : Map). Parts p n M N) (sym (put-single (keys.Patron id) (records.Patron (record member.patron { blocked = blocks })) M))
        (keeps-lists p n M h id member.patron (record member.patron { blocked = blocks }) (member-there p M id member e) refl refl refl refl))

-- ITEM STATUS

relabelled-item : (p : Terms) (M : Map) (id : List ℕ) (i : Item) (given : List ℕ) → IsCoherentItem p M id i → is_text given ≡ true → IsCoherentItem p M id (record i { properties = given })
relabelled-item p M id i given h t = record {
  id_text = h.id_text;
  title = h.title;
  location = h.location;
  properties = t;
  media = h.media;
  loan = h.loan;
  holds = h.holds;
  holds_once = h.holds_once;
  few = h.few;
}

pub status-keeps : (p : Terms) (n : ℕ) (q : ItemStatus) (date : List ℕ) (M : Map) → Parts p n M M → IfSome q.properties (λ t. is_text t ≡ true) → Parts p n M (put (over M (item_status_rule p q date)).writes M)
unfolding updated item_status_rule item_at
status-keeps p n q date M h fits = by (item_in p M q.item) refl
  where
    given : (article : Article) → item_in p M q.item ≡ Some article → (o : Option (List ℕ)) → IfSome o (λ t. is_text t ≡ true) → Parts p n M (put (relabelled q date article.item o).writes M)
    given article e None t = nothing p n M h
    given article e (Some text) t =
        let there = (article-there p M q.item article e).0 in
        subst (λ (N : Map). Parts p n M N) (sym (put-single (keys.Item q.item) (records.Item (record article.item { properties = text })) M))
        (keeps-borrower p n M h q.item article.item (record article.item { properties = text }) there
        (relabelled-item p M q.item article.item text (h.sound.at (keys.Item q.item) (records.Item article.item) there) t) refl)

    by : (o : Option Article) → item_in p M q.item ≡ o → Parts p n M (put (updated q date o).writes M)
    by None e = nothing p n M h
    by (Some article) e = given article e q.properties fits

-- HOLDS

-- an item with another queue
pub queued : (p : Terms) (M : Map) (id : List ℕ) (i : Item) (holds : List Hold) → IsCoherentItem p M id i
    → ((l : Loan) → i.loan ≡ Some l → has_id l.patron (patrons holds) ≡ false) → list_all (is_hold M) holds ≡ true → are_distinct (patrons holds) ≡ true → length holds ≤ QUEUE_MAX
    → IsCoherentItem p M id (record i { holds = holds })
queued p M id i holds h apart all once few = record {
  id_text = h.id_text;
  title = h.title;
  location = h.location;
  properties = h.properties;
  media = h.media;
  loan = λ l e. let k : IsCoherentLoan M i.holds l = h.loan l e in record { patron = k.patron; waits = apart l e; due = k.due; renewals = k.renewals };
  holds = all;
  holds_once = once;
  few = few;
}

-- none of four tests holds
refusals : {A : Type 0} (x y z w : A) (a b c d : Bool) → first_of ((x, a) ∷ (y, b) ∷ (z, c) ∷ (w, d) ∷ []) ≡ None → (b ≡ false) × (c ≡ false) × (d ≡ false)
refusals x y z w true b c d e = cc e
refusals x y z w false true c d e = cc e
refusals x y z w false false true d e = cc e
refusals x y z w false false false true e = cc e
refusals x y z w false false false false e = (refl, refl, refl)

added : (p : Terms) (M : Map) (q : HoldRequest) (i : Item) (h : Hold) → h.patron ≡ q.patron → IsCoherentItem p M q.item i → is_known M q.patron ≡ true → is_text h.pickup ≡ true
    → waits q.patron i.holds ≡ false → lent_to q.patron i.loan ≡ false → nat_le QUEUE_MAX (length i.holds) ≡ false → IsCoherentItem p M q.item (record i { holds = i.holds ++ h ∷ [] })
added p M q i h own right known text free home few =
    queued p M q.item i (i.holds ++ h ∷ []) right
    (λ l e. ap (has_id l.patron) (patrons-more i.holds h) ∙ has-more l.patron h.patron (patrons i.holds) ∙ ap (λ b. b || is_same l.patron h.patron) (right.loan l e).waits
    ∙ ap (is_same l.patron) own ∙ sym (same-is l.patron q.patron) ∙ sym (ap (lent_to q.patron) e) ∙ home)
    (all-more (is_hold M) i.holds h right.holds (and_from (is_known M h.patron) (is_text h.pickup) (ap (is_known M) own ∙ known) text))
    (ap are_distinct (patrons-more i.holds h) ∙ distinct-more h.patron (patrons i.holds) right.holds_once (ap (λ x. has_id x (patrons i.holds)) own ∙ sym (waits-is q.patron i.holds) ∙ free))
    (let less : length i.holds < QUEUE_MAX = leb-false QUEUE_MAX (length i.holds) few in let more : length (i.holds ++ h ∷ []) ≡ length i.holds + 1 = longer i.holds h in omega arith)

queue-right : (p : Terms) (M : Map) (q : HoldRequest) (i : Item) (mode : HoldMode) (blocked : Bool) → IsCoherentItem p M q.item i → is_known M q.patron ≡ true → is_text q.pickup ≡ true
    → hold_refusal mode q.patron blocked i ≡ None → IsCoherentItem p M q.item (record i { holds = queue_after q i.holds mode })
unfolding hold_refusal queue_after
queue-right p M q i modes.Add blocked right known text made =
    let f = refusals reasons.Blocked reasons.HasEntry reasons.OwnLoan reasons.QueueFull blocked (waits q.patron i.holds) (lent_to q.patron i.loan) (nat_le QUEUE_MAX (length i.holds)) made in
    added p M q i (record { patron = q.patron; pickup = q.pickup }) refl right known text f.0 f.1 f.2
queue-right p M q i modes.Delete blocked right known text made =
    queued p M q.item i (without_hold q.patron i.holds) right
    (λ l e. none-less q.patron l.patron i.holds (right.loan l e).waits)
    (all-less (is_hold M) q.patron i.holds right.holds)
    (distinct-less q.patron i.holds right.holds_once)
    (let few : length i.holds ≤ QUEUE_MAX = right.few in let less : length (without_hold q.patron i.holds) ≤ length i.holds = no-longer q.patron i.holds in omega arith)
queue-right p M q i modes.Change blocked right known text made =
    queued p M q.item i (with_pickup q.patron q.pickup i.holds) right
    (λ l e. ap (has_id l.patron) (patrons-pickup q.patron q.pickup i.holds) ∙ (right.loan l e).waits)
    (all-pickup M q.patron q.pickup i.holds text right.holds)
    (ap are_distinct (patrons-pickup q.patron q.pickup i.holds) ∙ right.holds_once)
    (let few : length i.holds ≤ QUEUE_MAX = right.few in let same : length (with_pickup q.patron q.pickup i.holds) ≡ length i.holds = length-pickup q.patron q.pickup i.holds in omega arith)

pub done-grants : (mode : HoldMode) → grants (hold_done mode) ≡ true
done-grants modes.Add = refl
done-grants modes.Delete = refl
done-grants modes.Change = refl

pub hold-keeps : (p : Terms) (n : ℕ) (forced : Bool) (q : HoldRequest) (date : List ℕ) (M : Map) → Parts p n M M → is_text q.pickup ≡ true → Parts p n M (put (over M (hold_rule p forced q date)).writes M)
unfolding held hold_kept hold_rule patron_at item_at
hold-keeps p n forced q date M h text = by (patron_in p M q.patron) refl (item_in p M q.item) refl
  where
    kept : (member : Member) (article : Article) → patron_in p M q.patron ≡ Some member → item_in p M q.item ≡ Some article → hold_refusal q.mode q.patron (not forced && member.patron.blocked) article.item ≡ None
        → Parts p n M (put (hold_kept p q date article.item (queue_after q article.item.holds q.mode)).writes M)
    kept member article e f made =
        let there = (article-there p M q.item article f).0 in
        let changed = record article.item { holds = queue_after q article.item.holds q.mode } in
        subst (λ (N : Map). Parts p n M N) (sym (put-single (keys.Item q.item) (records.Item changed) M))
        (keeps-borrower p n M h q.item article.item changed there
        (queue-right p M q article.item q.mode (not forced && member.patron.blocked) (h.sound.at (keys.Item q.item) (records.Item article.item) there)
        (member-known M q.patron member.patron (member-there p M q.patron member e)) text made) refl)

    ends : (member : Member) (article : Article) → patron_in p M q.patron ≡ Some member → item_in p M q.item ≡ Some article → (why : Option Reason)
        → hold_refusal q.mode q.patron (not forced && member.patron.blocked) article.item ≡ why → Parts p n M (put (hold_by p q date article.item why).writes M)
    ends member article e f (Some why) made = nothing p n M h
    ends member article e f None made = kept member article e f made

    by : (o : Option Member) → patron_in p M q.patron ≡ o → (a : Option Article) → item_in p M q.item ≡ a → Parts p n M (put (held p forced q date o a).writes M)
    by None e None f = nothing p n M h
    by None e (Some article) f = nothing p n M h
    by (Some member) e None f = nothing p n M h
    by (Some member) e (Some article) f = ends member article e f (hold_refusal q.mode q.patron (not forced && member.patron.blocked) article.item) refl
