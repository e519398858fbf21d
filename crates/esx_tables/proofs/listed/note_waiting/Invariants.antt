use Rattle.std.proofs.Common.{◌≡◌, length}
use Rattle.esx_tables.specs.Listed.{AreNoted}
use Rattle.esx_tables.proofs.listed.note_waiting.Given as goal

abbrev pub invariant-waiting : goal.invariant-waiting
invariant-waiting l = record { noted : AreNoted l.frames l.listings l.prints; places : length l.prints.waiting ≡ length l.fn.prints.waiting }
