use Rattle.std.proofs.Common.{◌≡◌, length, ap, ◌∙◌, sym, arith}
use Rattle.std.proofs.lemmas.Nat.{pow_pos}
use Rattle.std.proofs.lemmas.List.{length-replicate}
use Rattle.esx_types.specs.declared.table.Listing.TheVariants.{Unlisted}
use Rattle.esx_keys.specs.declared.chains.TheConstants.{NO_FRAME}
use Rattle.esx_keys.proofs.Empties.{IsChained-new}
use Rattle.esx_keys.proofs.Used.{unlisted_at}
use Rattle.esx_keys.proofs.index.Index.new.Goals as goal

pub returns-clause-index : goal.returns-clause-index
returns-clause-index c =
    let frames = c.args.frames in
    let listings = c.in_ok-listings.listings in
    let next = c.in_ok-next.next in
    let power = c.next_power_of_two-chains.ensures.power in
    let count : length listings ≡ frames = ap length c.in_ok-listings.ensures ∙ length-replicate frames Unlisted in
    let links : length next ≡ frames = ap length c.in_ok-next.ensures ∙ length-replicate frames 0 in
    let one : length c.in_ok-heads.heads.items ≡ 1 = ap length c.in_ok-heads.ensures.heads in
    record {
      fits = omega (arith, count, c.ranges.frames.fits);
      links = links ∙ sym count;
      power = (0, one);
      chained = rw (count, c.in_ok-listings.ensures, c.in_ok-heads.ensures.heads) (IsChained-new frames NO_FRAME next (omega (arith, c.ranges.frames.fits)));
      chains = power;
      few = omega (arith, one, power.1, pow_pos power.0);
      whole = λ _. rw c.in_ok-listings.ensures (unlisted_at frames);
      room = c.in_ok-heads.ensures.room;
    }
