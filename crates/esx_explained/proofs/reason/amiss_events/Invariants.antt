use Rattle.std.proofs.Common.{◌≡◌, drop}
use Rattle.std.specs.Str.{IsUtf8}
use Rattle.esx_explained.specs.Tried.{parts, AreEventsBefore}
use Rattle.esx_explained.proofs.reason.amiss_events.Given as goal

abbrev pub invariant-loop-at : goal.invariant-loop-at
invariant-loop-at l = record {
  left : drop l.at (parts l.text) ≡ parts l.rest;
  before : AreEventsBefore l.text l.at;
  utf8 : IsUtf8 l.rest;
}
