use Rattle.std.proofs.Common.{◌≡◌, ◌%◌, ◌<◌, false, true, length, sym, ap, ◌∙◌, arith}
use Rattle.std.proofs.lemmas.List.{get_or_read}
use Rattle.std.proofs.lemmas.Nat.{pow_pos}
use Rattle.esx_types.specs.Listings.{listing_at}
use Rattle.esx_keys.specs.Index.{is_under}
use Rattle.esx_keys.proofs.Used.{used_within, used_is, unused_is}
use Rattle.esx_keys.proofs.Walked.{walk_starts, walk_goes_on, walk_finds, walk_ends}
use Rattle.esx_keys.proofs.index.Index.find.Goals as goal

pub loop-at-init : goal.loop-at-init
loop-at-init c =
    let index = c.args.self.now in
    let head : c.head_of.result ≡ c.args.number % length index.heads.items =
    c.head_of.ensures ∙ ap (λ n. c.args.number % n) (let count : c.len.result ≡ length index.heads.items = omega arith in count) in
    let inside : c.args.number % length index.heads.items < length index.heads.items = omega (arith, c.requires.power.1, pow_pos c.requires.power.0) in
    let read = get_or_read index.heads.items c.head_of.result _ (rw head inside) c.index-at.ensures 0 in
    rw (read, head) (walk_starts index c.args.kind c.args.number c.requires inside)

pub returns-then-is_under : goal.returns-then-is_under
returns-then-is_under c =
    let index = c.args.self.now in
    let used = c.used-listings.result.now in
    let short : c.loop-at.at < length used = omega arith in
    let below : c.loop-at.at < length index.listings = omega (arith, used_within used index.listings _ c.used-listings.ensures) in
    let read = used_is used index.listings _ c.loop-at.at _ c.used-listings.ensures short c.index-listings-at.is in
    let hit : is_under c.args.kind c.args.number (listing_at index.listings c.loop-at.at) ≡ true = ap (is_under c.args.kind c.args.number) (sym read) ∙ sym c.is_under.ensures ∙ c.if-is_under.true in
    walk_finds index c.args.kind c.args.number c.loop-at.at below c.loop-at.invariant hit

pub loop-at-smaller : goal.loop-at-smaller
loop-at-smaller c =
    let index = c.args.self.now in
    let used = c.used-listings.result.now in
    let short : c.loop-at.at < length used = omega arith in
    let below : c.loop-at.at < length index.listings = omega (arith, used_within used index.listings _ c.used-listings.ensures) in
    let inside : c.args.number % length index.heads.items < length index.heads.items = omega (arith, c.requires.power.1, pow_pos c.requires.power.0) in
    let read = used_is used index.listings _ c.loop-at.at _ c.used-listings.ensures short c.index-listings-at.is in
    let missed : is_under c.args.kind c.args.number (listing_at index.listings c.loop-at.at) ≡ false = ap (is_under c.args.kind c.args.number) (sym read) ∙ sym c.is_under.ensures ∙ c.if-is_under.false in
    let step = walk_goes_on index c.args.kind c.args.number c.loop-at.at c.requires inside below c.loop-at.invariant missed in
    let next = c.row-at.ensures in
    omega (arith, step.up, next)

pub loop-at-preserved : goal.loop-at-preserved
loop-at-preserved c =
    let index = c.args.self.now in
    let used = c.used-listings.result.now in
    let short : c.loop-at.at < length used = omega arith in
    let below : c.loop-at.at < length index.listings = omega (arith, used_within used index.listings _ c.used-listings.ensures) in
    let inside : c.args.number % length index.heads.items < length index.heads.items = omega (arith, c.requires.power.1, pow_pos c.requires.power.0) in
    let read = used_is used index.listings _ c.loop-at.at _ c.used-listings.ensures short c.index-listings-at.is in
    let missed : is_under c.args.kind c.args.number (listing_at index.listings c.loop-at.at) ≡ false = ap (is_under c.args.kind c.args.number) (sym read) ∙ sym c.is_under.ensures ∙ c.if-is_under.false in
    let next = c.row-at.ensures in
    rw next (walk_goes_on index c.args.kind c.args.number c.loop-at.at c.requires inside below c.loop-at.invariant missed).walked

pub returns : goal.returns
returns c =
    let listings = c.args.self.now.listings in
    let unlisted = unused_is c.used-listings.result.now listings _ c.loop-at.at c.used-listings.ensures (omega arith) in
    walk_ends c.args.self.now c.args.kind c.args.number c.loop-at.at unlisted c.loop-at.invariant
