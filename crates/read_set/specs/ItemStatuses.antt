-- Item Status Update (SIP 2.00, message 19; circulation rules, item status): the item's properties are replaced by
-- those of the request; without any they stay.
use Rattle.std.specs.Prelude.{ℕ, List, [], ◌∷◌, Option, Some, None}
use Rattle.circ_policy.specs.Terms.{Terms}
use Rattle.circ_records.specs.declared.key.Key.TheVariants as keys
use Rattle.circ_records.specs.declared.record.Record.TheVariants as records
use Rattle.circ_records.specs.declared.record.Item.{Item}
use Rattle.sip_answer.specs.declared.answer.Answer.{Answer}
use Rattle.sip_answer.specs.declared.answer.Answer.TheVariants as answers
use Rattle.sip_answer.specs.declared.answer.TitledItem.{TitledItem}
use Rattle.sip_answer.specs.declared.reason.Reason.{Reason}
use Rattle.sip_answer.specs.declared.reason.Reason.TheVariants as reasons
use Rattle.sip_reader.specs.declared.request.ItemStatus.{ItemStatus}
use Rattle.read_set.specs.Asks.{Asks, Give, ◌>>=◌}
use Rattle.read_set.specs.Effects.{unwritten, writing}
use Rattle.read_set.specs.Lookups.{item_at}
use Rattle.read_set.specs.declared.effect.Effect.{Effect}
use Rattle.read_set.specs.declared.known.Article.{Article}

-- the answer, by the title and the properties where the item is known
abbrev pub status_answer : ItemStatus → List ℕ → Option TitledItem → Reason → Answer
status_answer q date known why = answers.ItemStatus (record { date = date; item = q.item; known = known; reason = why })

abbrev pub titled : List ℕ → List ℕ → Option TitledItem
titled title properties = Some (record { title = title; properties = properties })

-- of a known item, by the properties of the request
abbrev pub relabelled : ItemStatus → List ℕ → Item → Option (List ℕ) → Effect
relabelled q date item None = unwritten (Some (status_answer q date (titled item.title item.properties) reasons.Done))
relabelled q date item (Some given) = writing
    ((keys.Item q.item, records.Item (record item { properties = given })) ∷ [])
    (status_answer q date (titled item.title given) reasons.Done)

unfoldable pub updated : ItemStatus → List ℕ → Option Article → Effect
updated q date None = unwritten (Some (status_answer q date None reasons.UnknownItem))
updated q date (Some article) = relabelled q date article.item q.properties

-- asks for the item alone
unfoldable pub item_status_rule : Terms → ItemStatus → List ℕ → Asks Effect
item_status_rule p q date = do
  item ← item_at p q.item
  Give (updated q date item)
