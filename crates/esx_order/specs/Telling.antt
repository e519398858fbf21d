-- How the order is told.
use Rattle.std.specs.Prelude.{ℕ, Bool, true, false, List, [], ◌∷◌, ◌++◌, codes, decimal, flat_map, length}
use Rattle.esx_formulas.specs.Ratio.{thousandths}
use Rattle.esx_writing.specs.Writing.{thousandths_text}
use Rattle.esx_order.specs.declared.above.Above.{Above}
use Rattle.esx_order.specs.Order.{ratio_of}

abbrev pub own_text : Bool → List ℕ
own_text true = codes " own"
own_text false = []

-- the line of a machine
abbrev pub above_text : Above → List ℕ
above_text a =
    decimal a.row.vm ++ (codes " here " ++ (decimal a.row.pages ++ (codes " target " ++ (decimal a.row.floor ++ (codes " active " ++ (decimal a.row.active
    ++ (codes " tax " ++ (decimal a.row.tau ++ (own_text a.own ++ (codes " ratio " ++ (thousandths_text (thousandths (ratio_of a)) ++ 10 ∷ [])))))))))))

abbrev pub order_head : ℕ → List ℕ
order_head count = codes "order " ++ (decimal count ++ 10 ∷ [])

abbrev pub order_text : List Above → List ℕ
order_text order = order_head (length order) ++ flat_map above_text order
