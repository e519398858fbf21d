-- How often a door was called.
use Rattle.std.specs.Prelude.{◌≡◌, ℕ, zero, suc}
use Rattle.esx_events.specs.declared.call.Call.{Call}
use Rattle.esx_events.specs.declared.call.Reply.{Reply}

module _ {D : Type 0} (made : D → Call → Reply → D → Type 0) where
  -- so many calls were answered behind it, one after another, and no other was made
  unfoldable pub AreMade : ℕ → D → D → Type 0
  AreMade zero d e = e ≡ d
  AreMade (suc n) d e = (m : D) × AreMade n d m × ((call : Call) × (reply : Reply) × made m call reply e)
