use Rattle.std.proofs.Common.{ap, length, arith}
use Rattle.std.proofs.lemmas.List.FromFn.{length-map-range_with_len}
use Rattle.esx_model.specs.Show.{frame_row}
use Rattle.esx_plain.proofs.FirstPages.{places_few}
use Rattle.esx_plain.proofs.show.shown.Goals as goal

pub frame_rows-requires : goal.frame_rows-requires
frame_rows-requires c = let few = places_few c.args.config.now c.args.scene.now.site c.requires.sound in omega arith

pub shared_rows-requires : goal.shared_rows-requires
shared_rows-requires c =
    let len = length-map-range_with_len (frame_row c.args.scene.now.site) 0 c.args.config.now.frames in
    let made = ap length c.in_ok-frames.ensures in
    let seen = ap length c.as_slice.ensures in
    omega arith
