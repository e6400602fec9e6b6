-- Fee types (SIP 2.00): two digits, 01 to 09.
use Rattle.std.specs.Prelude.{ℕ, List, codes, [], ◌∷◌, Option}
use Rattle.std.specs.List.{find}
use Rattle.circ_records.specs.declared.record.FeeType.{FeeType}
use Rattle.circ_records.specs.declared.record.FeeType.TheVariants as kind
use Rattle.circ_records.specs.Texts.{is_same}

-- the two digits of a fee type
abbrev pub fee_type_code : FeeType → List ℕ
fee_type_code kind.Other = codes "01"
fee_type_code kind.Administrative = codes "02"
fee_type_code kind.Damage = codes "03"
fee_type_code kind.Overdue = codes "04"
fee_type_code kind.Processing = codes "05"
fee_type_code kind.Rental = codes "06"
fee_type_code kind.Replacement = codes "07"
fee_type_code kind.ComputerAccess = codes "08"
fee_type_code kind.HoldFee = codes "09"

abbrev pub fee_types : List FeeType
fee_types =
    kind.Other ∷ kind.Administrative ∷ kind.Damage ∷ kind.Overdue ∷ kind.Processing ∷ kind.Rental
    ∷ kind.Replacement ∷ kind.ComputerAccess ∷ kind.HoldFee ∷ []

-- a fee type: 01 to 09
unfoldable pub fee_type_of : List ℕ → Option FeeType
fee_type_of text = find (λ t. is_same (fee_type_code t) text) fee_types
