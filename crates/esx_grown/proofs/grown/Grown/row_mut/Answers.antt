use Rattle.std.proofs.Common.{◌≡◌, ◌<◌, length, set, refl, ap, sym, ◌∙◌}
use Rattle.std.proofs.lemmas.List.{get_or_append_left, get_or_read}
use Rattle.std.specs.Prelude.{List, slice_index_or}
use Rattle.esx_grown.specs.Grown.{grown}
use Rattle.esx_grown.proofs.GrownLemmas.{grown_length, grown_set}
use Rattle.esx_grown.proofs.grown.Grown.row_mut.Goals as goal

pub returns : goal.returns
returns g c =
    let A = g.row.T.Denot in
    let blank = g.T.Blank.blank in
    let used = c.self.inside.used.items in
    let kept = c.reach.new.used.items in
    let len = c.self.inside.len in
    let at = c.args.at in
    let all : length c.args.self.now ≡ len = ap length (sym c.self.view_is) ∙ grown_length blank used len c.self.invariant.within in
    let same : grown blank kept len ≡ c.args.self.now = c.reach.ensures.seen ∙ c.self.view_is in
    let reached : at < length kept = c.reach.ensures.reached in (
      (refl, λ w. grown_set blank kept len at w reached ∙ ap (λ (l : List A). set l at w) same),
      record {
        writes_back = tt;
        value = get_or_read kept at c.index_mut.result.now reached c.index_mut.ensures.value blank ∙ sym (get_or_append_left kept _ blank at reached) ∙ ap (λ (l : List A). slice_index_or l at blank) same;
      },
    )
