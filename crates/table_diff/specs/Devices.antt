-- For proofs alone: how rows and counts are kept by texts.
use Rattle.std.specs.Prelude.{◌≡◌, ℕ, List, Option, Vec, option_map, unwrap_or}
use Rattle.std.specs.Borrow.{Bor}
use Rattle.std.specs.BTreeMap.{BTreeMap, get_by}
use Rattle.std.specs.Cmp.Lexicographic.{slice_cmp}
use Rattle.std.specs.Ordering.{nat_cmp}
use Rattle.table_diff.specs.Rows.{RowTexts, named}
use Rattle.table_diff.specs.declared.names.ColumnNames.TheInside.{Inside}

-- what a map has for a text
abbrev pub in_map : {A X : Type 0} → BTreeMap (Vec ℕ A) X → List ℕ → Option X
in_map m text = get_by (λ k. slice_cmp nat_cmp text k.items) m

abbrev pub count_in : {A : Type 0} → BTreeMap (Vec ℕ A) ℕ → List ℕ → ℕ
count_in m text = unwrap_or (in_map m text) 0

-- each row is kept by its name
abbrev pub IsByName : Inside → Type 0
IsByName n =
    (name : List ℕ) → option_map (λ (r : Bor RowTexts). r.now) (in_map n.by_name name)
    ≡ named n.rows.now name
