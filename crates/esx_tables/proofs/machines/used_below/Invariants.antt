use Rattle.std.proofs.Common.{◌≡◌, ◌<◌, ◌≤◌, ℕ, get_or, None}
use Rattle.esx_tables.proofs.machines.used_below.Given as goal

-- no machine stands from here on
abbrev pub invariant-loop-number : goal.invariant-loop-number
invariant-loop-number l = (n : ℕ) → l.number ≤ n → n < l.top → get_or l.rows n None ≡ None
