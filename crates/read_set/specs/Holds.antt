-- Hold (SIP 2.00, message 15), by the circulation rules: holds.
use Rattle.std.specs.Prelude.{ℕ, Bool, false, not, ◌&&◌, List, [], ◌∷◌, ◌++◌, Option, Some, None, option_map}
use Rattle.circ_policy.specs.Terms.{Terms}
use Rattle.circ_records.specs.declared.holds.Hold.{Hold}
use Rattle.circ_records.specs.declared.key.Key.TheVariants as keys
use Rattle.circ_records.specs.declared.record.Item.{Item}
use Rattle.circ_records.specs.declared.record.Record.TheVariants as records
use Rattle.sip_answer.specs.declared.answer.Answer.{Answer}
use Rattle.sip_answer.specs.declared.answer.Answer.TheVariants as answers
use Rattle.sip_answer.specs.declared.answer.QueuePosition.{QueuePosition}
use Rattle.sip_answer.specs.Reasons.{grants}
use Rattle.sip_answer.specs.declared.reason.Reason.{Reason}
use Rattle.sip_answer.specs.declared.reason.Reason.TheVariants as reasons
use Rattle.sip_reader.specs.declared.request.HoldMode.{HoldMode}
use Rattle.sip_reader.specs.declared.request.HoldMode.TheVariants as modes
use Rattle.sip_reader.specs.declared.request.HoldRequest.{HoldRequest}
use Rattle.read_set.specs.Asks.{Asks, Give, ◌>>=◌}
use Rattle.read_set.specs.Effects.{unwritten, writing}
use Rattle.read_set.specs.Loans.{is_lent}
use Rattle.read_set.specs.Lookups.{item_at, patron_at}
use Rattle.read_set.specs.Queues.{position_from, first_is_another, has_queue, without_hold, with_pickup}
use Rattle.read_set.specs.Rules.{hold_refusals}
use Rattle.read_set.specs.Tests.{first_of}
use Rattle.read_set.specs.declared.effect.Effect.{Effect}
use Rattle.read_set.specs.declared.known.Article.{Article}
use Rattle.read_set.specs.declared.known.Member.{Member}

-- why a hold is refused, if it is
unfoldable pub hold_refusal : HoldMode → List ℕ → Bool → Item → Option Reason
hold_refusal mode patron blocked item = first_of (hold_refusals mode patron blocked item)

-- what is done by a hold that isn't refused
abbrev pub hold_done : HoldMode → Reason
hold_done modes.Add = reasons.Added
hold_done modes.Delete = reasons.Deleted
hold_done modes.Change = reasons.Changed

-- the queue after the change: an added hold goes last, a deleted one leaves, a changed one keeps its position
unfoldable pub queue_after : HoldRequest → List Hold → HoldMode → List Hold
queue_after q holds modes.Add = holds ++ (record { patron = q.patron; pickup = q.pickup }) ∷ []
queue_after q holds modes.Delete = without_hold q.patron holds
queue_after q holds modes.Change = with_pickup q.patron q.pickup holds

-- the patron's position in the queue after the change, from 1, and the pickup; none where the hold was deleted
unfoldable pub hold_position : HoldRequest → List Hold → HoldMode → Option QueuePosition
hold_position q holds modes.Delete = None
hold_position q holds _ = option_map (λ i. record { number = i; pickup = q.pickup }) (position_from 1 q.patron holds)

-- available: the item isn't on loan and the patron, after the change, is first
unfoldable pub is_available : List ℕ → Item → List Hold → HoldMode → Bool
is_available patron item holds modes.Delete = false
is_available patron item holds _ = not (is_lent item.loan) && (has_queue holds && not (first_is_another patron holds))

abbrev pub hold_answer : Terms → HoldRequest → List ℕ → Option (List ℕ) → Reason → Bool → Option QueuePosition → Answer
hold_answer p q date title why available position = answers.Hold (record {
  date = date;
  institution = p.institution;
  patron = q.patron;
  item = q.item;
  ok = grants why;
  reason = why;
  available = available;
  position = position;
  title = title;
})

unfoldable pub hold_kept : Terms → HoldRequest → List ℕ → Item → List Hold → Effect
hold_kept p q date item holds = writing
    ((keys.Item q.item, records.Item (record item { holds = holds })) ∷ [])
    (hold_answer p q date (Some item.title) (hold_done q.mode) (is_available q.patron item holds q.mode) (hold_position q holds q.mode))

abbrev pub hold_by : Terms → HoldRequest → List ℕ → Item → Option Reason → Effect
hold_by p q date item (Some why) = unwritten (Some (hold_answer p q date (Some item.title) why false None))
hold_by p q date item None = hold_kept p q date item (queue_after q item.holds q.mode)

abbrev pub hold_known : Terms → HoldRequest → List ℕ → Bool → Item → Effect
hold_known p q date blocked item = hold_by p q date item (hold_refusal q.mode q.patron blocked item)

-- An unknown patron or item is refused. By the rules no hold is forced; that the patron is blocked doesn't count for one that is.
unfoldable pub held : Terms → Bool → HoldRequest → List ℕ → Option Member → Option Article → Effect
held p forced q date (Some member) (Some article) = hold_known p q date (not forced && member.patron.blocked) article.item
held p forced q date (Some member) None = unwritten (Some (hold_answer p q date None reasons.UnknownItem false None))
held p forced q date None article = unwritten (Some (hold_answer p q date (option_map (λ a. a.item.title) article) reasons.UnknownPatron false None))

-- asks for the patron, then for the item
unfoldable pub hold_rule : Terms → Bool → HoldRequest → List ℕ → Asks Effect
hold_rule p forced q date = do
  patron ← patron_at p q.patron
  item ← item_at p q.item
  Give (held p forced q date patron item)
