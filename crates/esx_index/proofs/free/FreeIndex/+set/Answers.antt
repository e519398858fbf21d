use Rattle.std.proofs.Common.{◌≡◌, ◌<◌, ◌/◌, eqb, get_or, length, not, sym, ap, ◌∙◌, arith}
use Rattle.std.proofs.lemmas.List.{get_or_read, length-set}
use Rattle.esx_lists.proofs.Counts.{same_tests}
use Rattle.esx_index.specs.Falls.{length-places}
use Rattle.esx_index.proofs.Marks.{remarked_read, places-set}
use Rattle.esx_index.proofs.IndexLemmas.{has_mark-set, length-has_mark, index_set, StandsOver-kept}
use Rattle.esx_index.proofs.free.FreeIndex.+set.Goals as goal
use Rattle.esx_index.proofs.free.FreeIndex.+set.Goals.{in-Words, in-Top}

pub index-before-requires : goal.index-before-requires
index-before-requires t c =
    let l : length c.args.self.now ≡ c.self.inside.len = ap length (sym c.self.view_is) ∙ length-places _ _ in
    omega (arith, c.self.invariant.enough)

pub index_mut-requires : goal.index_mut-requires
index_mut-requires t c =
    let l : length c.args.self.now ≡ c.self.inside.len = ap length (sym c.self.view_is) ∙ length-places _ _ in
    omega (arith, c.self.invariant.enough)

pub set-requires : goal.set-requires
set-requires t c =
    let l : length c.args.self.now ≡ c.self.inside.len = ap length (sym c.self.view_is) ∙ length-places _ _ in
    let over = rw c.in-Words.is at c.self.invariant.over in
    let above : length c.deref_mut.result.now ≡ length c.self.inside.words.items = ap length (c.deref_mut.ensures.value ∙ over.1) ∙ length-has_mark _ in
    (omega (arith, c.self.invariant.enough, over.0), omega (arith, c.self.invariant.enough))

pub invariant_of-self : goal.invariant_of-self
invariant_of-self t c =
    let l : length c.args.self.now ≡ c.self.inside.len = ap length (sym c.self.view_is) ∙ length-places _ _ in
    let in_range : c.args.at < c.self.inside.len = omega arith in
    let row : c.args.at / 64 < length c.self.inside.words.items = omega (arith, c.self.invariant.enough) in
    let marked = remarked_read _ _ _ _ _ row c.index-before.ensures c.with_mark-word.ensures.same c.with_mark-word.ensures.others in
    let before : c.index-before.result.now ≡ get_or c.self.inside.words.items (c.args.at / 64) 0 = get_or_read _ _ _ row c.index-before.ensures 0 in
    let same : eqb (get_or c.self.inside.words.items (c.args.at / 64) 0) 0 ≡ eqb c.with_mark-word.result 0 =
    ap (λ v. eqb v 0) (sym before) ∙ same_tests _ _ (ap not c.if-before-word.true) in
    index_set _ _ _ _ _ _ _ c.self.invariant in_range marked (StandsOver-kept _ _ _ _ same c.self.invariant.over)

pub returns-then-before-word : goal.returns-then-before-word
returns-then-before-word t c =
    let l : length c.args.self.now ≡ c.self.inside.len = ap length (sym c.self.view_is) ∙ length-places _ _ in
    let in_range : c.args.at < c.self.inside.len = omega arith in
    let row : c.args.at / 64 < length c.self.inside.words.items = omega (arith, c.self.invariant.enough) in
    let marked = remarked_read _ _ _ _ _ row c.index-before.ensures c.with_mark-word.ensures.same c.with_mark-word.ensures.others in
    rw (← c.self.view_is) (places-set _ _ _ _ _ in_range row marked)

pub invariant_of-self-2 : goal.invariant_of-self-2
invariant_of-self-2 t c =
    let l : length c.args.self.now ≡ c.self.inside.len = ap length (sym c.self.view_is) ∙ length-places _ _ in
    let in_range : c.args.at < c.self.inside.len = omega arith in
    let row : c.args.at / 64 < length c.self.inside.words.items = omega (arith, c.self.invariant.enough) in
    let marked = remarked_read _ _ _ _ _ row c.index-before.ensures c.with_mark-word.ensures.same c.with_mark-word.ensures.others in
    elim c.match-self.branch [
      | in-Words w ↦
          let over = rw w.in-Words.is at c.self.invariant.over in
          rw w.self-inside-is (index_set _ _ _ _ _ _ _ c.self.invariant in_range marked (rw length-set over.0, w.set.ensures ∙ rw (w.deref_mut.ensures.value, over.1) (sym (has_mark-set _ _ _))))
      | in-Top w ↦
          let over = rw w.in-Top.is at c.self.invariant.over in
          rw w.self-inside-is (index_set _ _ _ _ _ _ _ c.self.invariant in_range marked (rw w.in-Top.is (rw length-set over)))
    ]

pub returns : goal.returns
returns t c =
    let l : length c.args.self.now ≡ c.self.inside.len = ap length (sym c.self.view_is) ∙ length-places _ _ in
    let in_range : c.args.at < c.self.inside.len = omega arith in
    let row : c.args.at / 64 < length c.self.inside.words.items = omega (arith, c.self.invariant.enough) in
    let marked = remarked_read _ _ _ _ _ row c.index-before.ensures c.with_mark-word.ensures.same c.with_mark-word.ensures.others in
    elim c.match-self.branch [
      | in-Words w ↦ rw (w.self-inside-is, ← c.self.view_is) (places-set _ _ _ _ _ in_range row marked)
      | in-Top w ↦ rw (w.self-inside-is, ← c.self.view_is) (places-set _ _ _ _ _ in_range row marked)
    ]
