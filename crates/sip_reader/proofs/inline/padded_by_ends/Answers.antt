use Rattle.std.proofs.Common.{◌-◌, ◌∙◌, length}
use Rattle.std.proofs.lemmas.List.{drop-replicate, take_rest}
use Rattle.sip_reader.proofs.Ends.{ends_placed}
use Rattle.sip_reader.proofs.inline.padded_by_ends.Goals as goal

pub returns : goal.returns
returns c =
    let bytes = c.args.bytes.now in
    let end = c.args.end in
    ends_placed bytes _ _ _ end 14 c.requires.within c.requires.all c.requires.few
    c.copy_from_slice.ensures.after (c.copy_from_slice-2.ensures.after ∙ take_rest bytes (length bytes - end)) (drop-replicate end 14 0)
