use Rattle.std.proofs.Common.{◌≡◌, subst, sym}
use Rattle.esx_machine.specs.Machine.{Kept, Back, flipped, Trades, turned}
use Rattle.esx_machine.proofs.Flips.{by_parts, flip_kept, flip_leads}
use Rattle.esx_machine.proofs.machine.Machine.flip.Goals as goal

pub invariant_of-self : goal.invariant_of-self
invariant_of-self c =
    let here : Kept = record { config = c.self.inside.thresholds; level = c.self.inside.level; tables = c.self.inside.tables } in
    let new : Kept = record { config = c.self.inside.thresholds; level = c.trade.new.level; tables = c.trade.new.tables } in
    let r : Back = c.args.back.now in
    let steps : flipped here r ≡ (new, c.trade.new.self) = by_parts here r c.trade.new.self c.trade.new.tables c.trade.new.level c.trade.ensures.tables c.trade.ensures.level c.trade.ensures.record in
    let P : Kept → Type 0 = λ k. Trades r k c.requires.fits.0 in
    flip_kept here new r c.trade.new.self steps c.requires.fits.0 (subst P (sym c.self.view_is) c.requires.fits.1)

pub returns : goal.returns
returns c =
    let here : Kept = record { config = c.self.inside.thresholds; level = c.self.inside.level; tables = c.self.inside.tables } in
    let new : Kept = record { config = c.self.inside.thresholds; level = c.trade.new.level; tables = c.trade.new.tables } in
    let r : Back = c.args.back.now in
    let steps : flipped here r ≡ (new, c.trade.new.self) = by_parts here r c.trade.new.self c.trade.new.tables c.trade.new.level c.trade.ensures.tables c.trade.ensures.level c.trade.ensures.record in
    let P : Kept → Type 0 = λ k. (there : Kept) → Trades r k there → (new ≡ there) × Trades c.trade.new.self there k × (c.trade.new.self ≡ turned r k) in
    subst P c.self.view_is (flip_leads here new r c.trade.new.self c.self.invariant steps)
