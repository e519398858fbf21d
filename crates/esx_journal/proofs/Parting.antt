-- Rows that are made of links and records.
use Rattle.std.proofs.Common.{◌≡◌, ◌≢◌, ℕ, zero, suc, ◌<◌, List, [], ◌∷◌, ◌++◌, length, slice_index_or, slice_set, Bool, true, false, cond, Some, None, is_some, refl, sym, ap, ◌∙◌, arith}
use Rattle.esx_machine.specs.Machine.{Back}
use Rattle.esx_journal.specs.declared.rows.Link.{Link}
use Rattle.esx_journal.specs.Rows.{Row, no_record, row_from, rows_from}
use Rattle.esx_journal.specs.Children.{AreLinked, no_row}
use Rattle.esx_journal.specs.Row.{row_of, with_child, grown, emptied}
use Rattle.esx_journal.proofs.Lists.{grown_below, grown_length, set_same, any_default}
use Rattle.esx_journal.proofs.Linking.{linked_set}

-- as many rows as links
pub rows_length : (links : List Link) (records : List Back) → length records ≡ length links → length (rows_from links records) ≡ length links
unfolding rows_from
rows_length [] records e = refl
rows_length (link ∷ links) [] e = omega arith
rows_length (link ∷ links) (back ∷ records) e = (let rest = rows_length links records (omega arith) in omega arith)

-- the row of a node
pub row_at : (links : List Link) (records : List Back) (at : ℕ) (link : Link) (back : Back) (d : Row) → at < length links → length records ≡ length links
    → slice_index_or (rows_from links records) at d ≡ row_from (slice_index_or links at link) (slice_index_or records at back)
unfolding rows_from
row_at [] records at link back d fits e = absurd (omega arith)
row_at (l ∷ links) [] at link back d fits e = absurd (omega arith)
row_at (l ∷ links) (b ∷ records) zero link back d fits e = refl
row_at (l ∷ links) (b ∷ records) (suc at) link back d fits e = row_at links records at link back d (omega arith) (omega arith)

-- both change at a node
pub rows_set : (links : List Link) (records : List Back) (at : ℕ) (link : Link) (back : Back) → length records ≡ length links
    → rows_from (slice_set links at link) (slice_set records at back) ≡ slice_set (rows_from links records) at (row_from link back)
unfolding rows_from
rows_set [] [] at link back e = refl
rows_set [] (b ∷ records) at link back e = absurd (omega arith)
rows_set (l ∷ links) [] at link back e = absurd (omega arith)
rows_set (l ∷ links) (b ∷ records) zero link back e = refl
rows_set (l ∷ links) (b ∷ records) (suc at) link back e = ap (λ rows. row_from l b ∷ rows) (rows_set links records at link back (omega arith))

-- a link changes at a node
pub link_set : (links : List Link) (records : List Back) (at : ℕ) (link : Link) (back : Back) → length records ≡ length links
    → rows_from (slice_set links at link) records ≡ slice_set (rows_from links records) at (row_from link (slice_index_or records at back))
link_set links records at link back e = ap (λ bs. rows_from (slice_set links at link) bs) (sym (set_same records at back)) ∙ rows_set links records at link (slice_index_or records at back) e

-- a record changes at a node
pub record_set : (links : List Link) (records : List Back) (at : ℕ) (link : Link) (back : Back) → length records ≡ length links
    → rows_from links (slice_set records at back) ≡ slice_set (rows_from links records) at (row_from (slice_index_or links at link) back)
record_set links records at link back e = ap (λ ls. rows_from ls (slice_set records at back)) (sym (set_same links at link)) ∙ rows_set links records at (slice_index_or links at link) back e

-- one more of both
pub rows_pushed : (links : List Link) (records : List Back) (link : Link) (back : Back) → length records ≡ length links
    → rows_from (links ++ link ∷ []) (records ++ back ∷ []) ≡ rows_from links records ++ row_from link back ∷ []
unfolding rows_from
rows_pushed [] [] link back e = refl
rows_pushed [] (b ∷ records) link back e = absurd (omega arith)
rows_pushed (l ∷ links) [] link back e = absurd (omega arith)
rows_pushed (l ∷ links) (b ∷ records) link back e = ap (λ rows. row_from l b ∷ rows) (rows_pushed links records link back (omega arith))

-- The rows of a journal, and how they change.

-- each row has a link
pub link_inside : (links : List Link) (records : List Back) (rows : List Row) (at : ℕ) → rows_from links records ≡ rows → length records ≡ length links → at < length rows → at < length links
link_inside links records rows at view e fits = (let v = ap length view in let l = rows_length links records e in omega arith)

-- the row of a node, of which the link was read
pub row_here : (links : List Link) (records : List Back) (rows : List Row) (at : ℕ) (link : Link) → rows_from links records ≡ rows → length records ≡ length links → at < length rows
    → link ≡ slice_index_or links at link → slice_index_or rows at no_row ≡ row_from link (slice_index_or records at no_record)
row_here links records rows at link view e fits is =
    ap (λ rs. slice_index_or rs at no_row) (sym view) ∙ row_at links records at link no_record no_row (link_inside links records rows at view e fits) e
    ∙ ap (λ (l : Link). row_from l (slice_index_or records at no_record)) (sym is)

-- a node has a record where its link says so
pub some_from : (has : Bool) (back : Back) → is_some (cond has (Some back) None) ≡ has
some_from true back = refl
some_from false back = refl

-- a link that changes is a row that changes
pub link_changes : (f : Link → Link) (g : Row → Row) (links : List Link) (records : List Back) (rows : List Row) (at : ℕ) (link : Link) → ((l : Link) (b : Back) → row_from (f l) b ≡ g (row_from l b))
    → rows_from links records ≡ rows → length records ≡ length links → at < length rows → link ≡ slice_index_or links at link
    → rows_from (slice_set links at (f link)) records ≡ slice_set rows at (g (slice_index_or rows at no_row))
link_changes f g links records rows at link same view e fits is =
    link_set links records at (f link) no_record e ∙ ap (λ rs. slice_set rs at (row_from (f link) (slice_index_or records at no_record))) view
    ∙ ap (λ r. slice_set rows at r) (same link (slice_index_or records at no_record) ∙ ap g (sym (row_here links records rows at link view e fits is)))

-- the link of a new node
abbrev pub child_link : ℕ → ℕ → Link
child_link parent next = record { parent = parent; last = 0; first = 0; next = next; has_record = true }

-- a link with a new child
abbrev pub link_with : Link → ℕ → Link
link_with link child = record link { last = child; first = child }

-- a new node under a node, of which the link was read before and after
pub rows_grow : (links : List Link) (records : List Back) (rows : List Row) (at child : ℕ) (back : Back) (before after : Link)
    → rows_from links records ≡ rows → length records ≡ length links → at < length rows → child ≡ length rows
    → before ≡ slice_index_or links at before → after ≡ slice_index_or (links ++ child_link at before.first ∷ []) at after
    → rows_from (slice_set (links ++ child_link at before.first ∷ []) at (link_with after child)) (records ++ back ∷ []) ≡ grown rows at back no_row
rows_grow links records rows at child back before after view e fits number is more =
    let new : Link = child_link at before.first in
    let inside = link_inside links records rows at view e fits in
    let here = row_here links records rows at before view e fits is in
    let same : after ≡ before = more ∙ grown_below links at new after inside ∙ any_default links at after before inside ∙ sym is in
    let long : length (records ++ back ∷ []) ≡ length (links ++ new ∷ []) = (let l = grown_length links new in let r = grown_length records back in omega arith) in
    let kept : slice_index_or (records ++ back ∷ []) at no_record ≡ slice_index_or records at no_record = grown_below records at back no_record (omega arith) in
    let above : row_from (link_with after child) (slice_index_or (records ++ back ∷ []) at no_record) ≡ with_child (slice_index_or rows at no_row) (length rows)
    = ap (λ b. row_from (link_with after child) b) kept ∙ ap (λ l. row_from (link_with l child) (slice_index_or records at no_record)) same
    ∙ ap (λ n. row_from (link_with before n) (slice_index_or records at no_record)) number ∙ ap (λ r. with_child r (length rows)) (sym here) in
    let pushed : rows_from (links ++ new ∷ []) (records ++ back ∷ []) ≡ rows ++ row_of at back (slice_index_or rows at no_row).first ∷ []
    = rows_pushed links records new back e ∙ ap (λ rs. rs ++ row_from new back ∷ []) view ∙ ap (λ (r : Row). rows ++ row_of at back r.first ∷ []) (sym here) in
    link_set (links ++ new ∷ []) (records ++ back ∷ []) at (link_with after child) no_record long
    ∙ ap (λ rs. slice_set rs at (row_from (link_with after child) (slice_index_or (records ++ back ∷ []) at no_record))) pushed
    ∙ ap (λ r. slice_set (rows ++ row_of at back (slice_index_or rows at no_row).first ∷ []) at r) above

-- a node's record goes
pub record_goes : (links : List Link) (records : List Back) (rows : List Row) (at : ℕ) (link : Link) (back : Back) → rows_from links records ≡ rows → length records ≡ length links → at < length rows
    → link ≡ slice_index_or links at link → rows_from (slice_set links at (record link { has_record = false })) (slice_set records at back) ≡ slice_set rows at (emptied (slice_index_or rows at no_row))
record_goes links records rows at link back view e fits is =
    rows_set links records at (record link { has_record = false }) back e ∙ ap (λ rs. slice_set rs at (row_from (record link { has_record = false }) back)) view
    ∙ ap (λ r. slice_set rows at (emptied r)) (sym (row_here links records rows at link view e fits is))

-- A record is traded.

-- the record of a node that has one, as it was read
pub record_here : (links : List Link) (records : List Back) (rows : List Row) (at : ℕ) (link : Link) (back : Back) → rows_from links records ≡ rows → length records ≡ length links → at < length rows
    → link ≡ slice_index_or links at link → link.has_record ≡ true → back ≡ slice_index_or records at back → (d : Row) → (slice_index_or rows at d).back ≡ Some back
record_here links records rows at link back view e fits is has read d =
    let inside : at < length records = (let l = link_inside links records rows at view e fits in omega arith) in
    ap (λ (r : Row). r.back) (any_default rows at d no_row fits ∙ row_here links records rows at link view e fits is)
    ∙ ap (λ h. cond h (Some (slice_index_or records at no_record)) None) has ∙ ap (λ b. Some b) (any_default records at no_record back inside ∙ sym read)

-- the rows with another record in its place
pub record_trades : (links : List Link) (records : List Back) (rows : List Row) (at : ℕ) (link : Link) (back : Back) → rows_from links records ≡ rows → length records ≡ length links → at < length rows
    → link ≡ slice_index_or links at link → link.has_record ≡ true → (d : Row) → rows_from links (slice_set records at back) ≡ slice_set rows at (record (slice_index_or rows at d) { back = Some back })
record_trades links records rows at link back view e fits is has d =
    record_set links records at link back e ∙ ap (λ rs. slice_set rs at (row_from (slice_index_or links at link) back)) view
    ∙ ap (λ (l : Link). slice_set rows at (row_from l back)) (sym is)
    ∙ ap (λ h. slice_set rows at (record (row_from link back) { back = cond h (Some back) None })) has
    ∙ ap (λ (r : Row). slice_set rows at (record r { back = Some back })) (sym (any_default rows at d no_row fits ∙ row_here links records rows at link view e fits is))

-- none is there where the link says so
pub no_trade : (links : List Link) (records : List Back) (rows : List Row) (at : ℕ) (link : Link) (back : Back) → rows_from links records ≡ rows → length records ≡ length links → at < length rows
    → link ≡ slice_index_or links at link → link.has_record ≡ false → (d : Row) → (slice_index_or rows at d).back ≢ Some back
no_trade links records rows at link back view e fits is has d some =
    let none : (slice_index_or rows at d).back ≡ None = ap (λ (r : Row). r.back) (any_default rows at d no_row fits ∙ row_here links records rows at link view e fits is)
    ∙ ap (λ h. cond h (Some (slice_index_or records at no_record)) None) has in
    cc

-- children are found as before
pub linked_trades : (rows : List Row) (at : ℕ) (old back : Back) → at < length rows → (slice_index_or rows at no_row).back ≡ Some old → AreLinked rows
    → AreLinked (slice_set rows at (record (slice_index_or rows at no_row) { back = Some back }))
linked_trades rows at old back fits has linked = linked_set rows at (record (slice_index_or rows at no_row) { back = Some back }) linked fits
    (record { up = refl; first = refl; next = refl; less = λ _. ap is_some has })

-- the link of the opening
abbrev pub no_link : Link
no_link = record { parent = 0; last = 0; first = 0; next = 0; has_record = false }

pub opening_from : (back : Back) → rows_from (no_link ∷ []) (back ∷ []) ≡ no_row ∷ []
unfolding rows_from
opening_from back = refl
