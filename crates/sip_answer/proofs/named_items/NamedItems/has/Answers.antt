use Rattle.std.proofs.Common.{sym}
use Rattle.std.specs.Str.{bytes_eq}
use Rattle.sip_answer.specs.Deeds.{names_item}
use Rattle.sip_answer.proofs.ItemLists.{list_any-map}
use Rattle.sip_answer.proofs.named_items.NamedItems.has.Goals as goal

pub returns : goal.returns
unfolding names_item
returns c = rw (c.is_among.ensures, c.as_bytes.ensures, c.deref.ensures.value, ← c.self.view_is) (sym (list_any-map (bytes_eq c.args.id.now) (λ t. t.items) c.self.inside.texts.items))
