use Rattle.std.proofs.Common.{◌≡◌, ◌<◌, ◌+◌, ◌-◌, ◌*◌, ◌++◌, ◌∷◌, [], refl, ap, sym, ◌∙◌, arith, length, take, drop, set, add-one, length-set}
use Rattle.std.proofs.Math.Seq.{take-suc-set}
use Rattle.std.proofs.lemmas.Slice.{take-put_mid}
use borrow.Rule.Slice.PartMut.{put_mid, same_len_mid}
use Rattle.esx_reading.proofs.HexField.{read_none, read_more, read_pair, read_whole, length_of_hex, length_front, next_bytes, next_byte}
use Rattle.esx_reading.proofs.written.read_into.Goals as goal

pub loop-sixteen-init : goal.loop-sixteen-init
loop-sixteen-init c = record { read = read_none [] c.args.digits.now refl; place = omega arith; room = c.requires }

pub returns-in_default-eight_bytes-clause-only : goal.returns-in_default-eight_bytes-clause-only
returns-in_default-eight_bytes-clause-only c = λ bytes are e.
    let so_far = take c.loop-sixteen.at c.loop-sixteen.bytes in
    let next = next_bytes 8 so_far c.loop-sixteen.rest.now c.in-Some.sixteen.now c.args.digits.now bytes c.loop-sixteen.invariant.read c.in-Some.ensures.cases.0 are e in
    c.in_default-eight_bytes.ensures.none (take 8 (drop (length so_far) bytes)) next.0 next.1

pub loop-sixteen-preserved : goal.loop-sixteen-preserved
loop-sixteen-preserved c =
    let so_far = c.loop-sixteen.invariant in
    let at = c.loop-sixteen.at in
    let bytes = c.loop-sixteen.bytes in
    let rest = c.loop-sixteen.rest.now in
    let sixteen = c.in-Some.sixteen.now in
    let later = c.in-Some.later.now in
    let split = c.in-Some.ensures.cases in
    let eight = c.in-Some-eight_bytes.eight in
    let is = c.in-Some-eight_bytes.ensures.some in
    let copied = c.copy_from_slice.ensures in
    let long : 2 * length eight ≡ 16 = sym (length_of_hex sixteen eight (sym is.1)) ∙ length_front 16 rest sixteen later split.0 split.2 in
    let more : take (at + 8) (put_mid at (at + 8 - at) bytes c.copy_from_slice.new.self) ≡ take at bytes ++ eight =
    take-put_mid at (at + 8 - at) bytes c.copy_from_slice.new.self (at + 8) (omega (arith, long, ap length copied.after)) (omega (arith, so_far.place, so_far.room))
    ∙ ap (λ l. take at bytes ++ l) copied.after in
    record {
      read = rw more (read_more 16 (take at bytes) eight rest sixteen later c.args.digits.now so_far.read is.0 is.1 split.0 split.1);
      place = omega (arith, so_far.place, split.2);
      room = so_far.room ∙ ap (λ n. 2 * n) (sym (same_len_mid at (at + 8 - at) bytes c.copy_from_slice.new.self copied.len));
    }

pub returns-in_default-byte_of-clause-only : goal.returns-in_default-byte_of-clause-only
returns-in_default-byte_of-clause-only c = λ bytes are e.
    let split = c.in-Some-split_first_chunk.ensures.cases in
    let rest = c.loop-pair.rest.now in
    let pair = c.in-Some-split_first_chunk.pair.now in
    let next = next_byte (take c.loop-pair.at c.loop-pair.bytes) rest pair c.args.digits.now bytes c.loop-pair.invariant.read split.0
    (length_front 2 rest pair c.in-Some-split_first_chunk.later.now split.0 split.2) are e in
    c.in_default-byte_of.ensures.none next.0 next.1 next.2

pub loop-pair-preserved : goal.loop-pair-preserved
loop-pair-preserved c =
    let so_far = c.loop-pair.invariant in
    let at = c.loop-pair.at in
    let bytes = c.loop-pair.bytes in
    let rest = c.loop-pair.rest.now in
    let later = c.in-Some-split_first_chunk.later.now in
    let split = c.in-Some-split_first_chunk.ensures.cases in
    let byte = c.in-Some-byte_of.byte in
    let is = c.in-Some-byte_of.ensures in
    let within : at < length bytes = omega (arith, so_far.place, so_far.room, split.2) in
    let more : take (at + 1) (set bytes at byte) ≡ take at bytes ++ byte ∷ [] = ap (λ n. take n (set bytes at byte)) (add-one at) ∙ take-suc-set bytes at byte within in
    record {
      read = rw more
          (read_pair (take at bytes) byte rest c.in-Some-split_first_chunk.pair.now later c.args.digits.now so_far.read is.small is.some split.0 split.1 split.2);
      place = omega (arith, so_far.place, split.2);
      room = simp length-set so_far.room;
    }

pub returns-clause-found : goal.returns-clause-found
returns-clause-found c =
    let so_far = c.loop-pair.invariant in
    read_whole c.loop-pair.at c.loop-pair.bytes c.loop-pair.rest.now c.args.digits.now so_far.read so_far.place so_far.room c.in_default-split_first_chunk.ensures.cases
