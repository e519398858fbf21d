use Rattle.std.proofs.Common.{◌≡◌, ◌-◌, length, replicate, ap, arith}
use Rattle.std.proofs.lemmas.List.{length-append, length-replicate}
use Rattle.esx_keys.specs.declared.chains.TheConstants.{NO_FRAME}
use Rattle.esx_keys.specs.Index.{IsIndex}
use Rattle.esx_keys.proofs.Empties.{IsChained-more}
use Rattle.esx_keys.proofs.index.Index.spread.Goals as goal

pub returns-clause-index : goal.returns-clause-index
returns-clause-index c =
    let index = c.args.self.now in
    let sound : IsIndex index = c.requires in
    let heads = index.heads.items in
    let more = index.chains - length heads in
    let made = c.spread.ensures in
    let all : length c.spread.new.heads.items ≡ index.chains = omega (arith, sound.few, ap length made.heads, length-append heads (replicate more NO_FRAME), length-replicate more NO_FRAME) in
    record {
      fits = sound.fits;
      links = sound.links;
      power = rw all sound.chains;
      chained = rw made.heads (IsChained-more _ more NO_FRAME index.listings heads index.next (omega (arith, sound.fits)) (λ l. sound.whole (omega arith)) sound.chained);
      chains = sound.chains;
      few = omega (arith, all);
      whole = λ l. absurd (omega (arith, all));
      room = omega (arith, sound.room, made.room);
    }
