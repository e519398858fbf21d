use Rattle.std.proofs.Common.{◌≡◌, ℕ, ◌+◌, ◌-◌, ◌*◌, take, drop, ap, ◌∙◌, arith}
use Rattle.esx_types.specs.Pages.{resident_count}
use Rattle.esx_pmap.specs.declared.blocks.TheConstants.{GROUP}
use Rattle.esx_pmap.proofs.GroupLemmas.{count_further}
use Rattle.esx_pmap.proofs.blocks.pass_groups.Goals as goal

pub loop-group-preserved : goal.loop-group-preserved
loop-group-preserved c =
    let rows = c.args.rows.now in
    let start = c.loop-group.group * GROUP in
    let place : (c.loop-group.group + 1) * GROUP ≡ start + GROUP = omega arith in
    let more : resident_count (take ((c.loop-group.group + 1) * GROUP) rows) ≡ resident_count (take start rows) + resident_count (take GROUP (drop start rows)) =
    ap (λ (n : ℕ). resident_count (take n rows)) place ∙ count_further start GROUP rows in
    let size : start + GROUP - start ≡ GROUP = omega arith in
    let counted : c.here_count-count.result ≡ resident_count (take GROUP (drop start rows)) =
    c.here_count-count.ensures ∙ ap (λ (n : ℕ). resident_count (take n (drop start rows))) size in
    omega (arith, more, counted, c.loop-group.invariant, c.if-rest-count.false)
