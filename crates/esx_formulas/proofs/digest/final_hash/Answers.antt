use Rattle.std.proofs.Common.{◌≡◌, ◌*◌, ◌/◌, ◌-◌, drop, take, length, length-drop, refl, ap, ◌∙◌, arith}
use Rattle.std.proofs.lemmas.List.{take_rest}
use Rattle.sha2.specs.Sha256.{hash_after, initial_hash_256}
use Rattle.esx_formulas.proofs.DigestFacts.{group_more, whole_message}
use Rattle.esx_formulas.proofs.digest.final_hash.Goals as goal

pub groups-init : goal.groups-init
unfolding hash_after
groups-init c = refl

pub groups-preserved : goal.groups-preserved
groups-preserved c =
    c.absorb.ensures ∙ group_more initial_hash_256 c.args.bytes.now c.groups.state c.groups.i _ _ refl (omega arith) (omega arith) c.groups.invariant

pub returns : goal.returns
returns c =
    let m = c.args.bytes.now in
    let g = length m / 256 in
    let done : c.groups.i ≡ g = omega arith in
    let room : length c.padded-tail.result ≡ 512 = c.padded-tail.ensures.room in
    let rest : length (take (length m - 256 * g) (drop (256 * g) m)) ≡ length m - 256 * g = ap length (take_rest m (256 * g)) ∙ length-drop (256 * g) m in
    c.absorb_tail.ensures
    ∙ whole_message initial_hash_256 m _ c.padded-tail.result c.groups.state g _ (rw done at c.groups.invariant) (omega arith) (take_rest m (256 * g)) c.padded-tail.ensures.bytes (omega arith)
