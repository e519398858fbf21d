use Rattle.std.proofs.Common.{◌≡◌, length}
use Rattle.std.specs.List.{AllByRecursion}
use Rattle.std.specs.Str.{IsUtf8}
use Rattle.esx_words.specs.Commands.{IsEventInRange}
use Rattle.esx_words.proofs.ReadingLemmas.{read_so_far}
use Rattle.esx_words.proofs.listed.events_of.Given as goal

abbrev pub invariant-loop : goal.invariant-loop
invariant-loop l = record {
  read : l.text ≡ read_so_far l.events.items l.rest;
  range : AllByRecursion IsEventInRange l.events.items;
  count : length l.events.items ≡ l.counter;
  utf8 : IsUtf8 l.rest;
}
