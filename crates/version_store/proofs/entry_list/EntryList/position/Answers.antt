use Rattle.std.proofs.Common.{◌∙◌, ap, subst, sym}
use Rattle.version_store.specs.Devices.FewOrMany.{entries_in}
use Rattle.version_store.specs.Devices.Positions.{IsAt, IsGap, Rise}
use Rattle.version_store.specs.Entries.{keyed}
use Rattle.version_store.proofs.Few.{at_one, at_first, at_second, gap_first, gap_second}
use Rattle.version_store.proofs.entry_list.EntryList.position.Goals as goal

pub returns-in-Equal : goal.returns-in-Equal
returns-in-Equal g c =
    subst (λ es. IsAt (keyed es) c.args.key.now 0) (ap entries_in (sym c.in-One.is) ∙ c.self.view_is)
    (at_one c.in-One.one.0.now c.in-One.one.0.now c.args.key.now c.in-One.one.1 c.in-One.one.1 (sym c.cmp.ensures ∙ c.in-Equal.is))

pub returns-in-Equal-cmp : goal.returns-in-Equal-cmp
returns-in-Equal-cmp g c =
    subst (λ es. IsAt (keyed es) c.args.key.now 0) (ap entries_in (sym c.in-Two.is) ∙ c.self.view_is)
    (at_first c.in-Two.one.0.now c.in-Two.other.0.now c.args.key.now c.in-Two.one.1 c.in-Two.other.1 (sym c.cmp-in-Two.ensures ∙ c.in-Equal-cmp.is))

pub returns-in-Equal-cmp-2 : goal.returns-in-Equal-cmp-2
returns-in-Equal-cmp-2 g c =
    subst (λ es. IsAt (keyed es) c.args.key.now 1) (ap entries_in (sym c.in-Two.is) ∙ c.self.view_is)
    (at_second c.in-Two.one.0.now c.in-Two.other.0.now c.args.key.now c.in-Two.one.1 c.in-Two.other.1 (sym c.cmp-in-Less-cmp.ensures ∙ c.in-Equal-cmp-2.is))

pub returns-in-Greater-cmp : goal.returns-in-Greater-cmp
returns-in-Greater-cmp g c =
    let held = ap entries_in (sym c.in-Two.is) ∙ c.self.view_is in
    subst (λ es. IsGap (keyed es) c.args.key.now 0) held
    (gap_first c.in-Two.one.0.now c.in-Two.other.0.now c.args.key.now c.in-Two.one.1 c.in-Two.other.1 (subst (λ es. Rise (keyed es)) (sym held) c.requires) (sym c.cmp-in-Two.ensures ∙ c.in-Greater-cmp.is))

pub returns-in-Greater-cmp-2 : goal.returns-in-Greater-cmp-2
returns-in-Greater-cmp-2 g c =
    subst (λ es. IsGap (keyed es) c.args.key.now 1) (ap entries_in (sym c.in-Two.is) ∙ c.self.view_is)
    (gap_second c.in-Two.one.0.now c.in-Two.other.0.now c.args.key.now c.in-Two.one.1 c.in-Two.other.1 (sym c.cmp-in-Two.ensures ∙ c.in-Less-cmp.is) (sym c.cmp-in-Less-cmp.ensures ∙ c.in-Greater-cmp-2.is))
