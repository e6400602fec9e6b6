-- For proofs alone: the bytes of an id or a text, where a few are inline and more of them in memory
-- that clones share.
use Rattle.std.specs.Prelude.{ℕ, List}
use Rattle.std.specs.Arc.{arc_slice_items, arc_value}
use Rattle.sip_reader.specs.declared.text_bytes.TextBytes.{TextBytes}
use Rattle.sip_reader.specs.declared.text_bytes.TextBytes.TheVariants.{Block, Inline, Many}

abbrev pub bytes_held : TextBytes → List ℕ
bytes_held (Inline bytes) = bytes
bytes_held (Block b) = (arc_value b).items
bytes_held (Many v) = arc_slice_items v
