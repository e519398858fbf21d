use Rattle.std.proofs.Common.{length, sym, ap, ◌∙◌}
use Rattle.esx_keys.specs.Index.{is_listed}
use Rattle.esx_prints.specs.Prints.{Noted}
use Rattle.esx_prints.proofs.Callers.{places_passed, places_noted}
use Rattle.esx_tables.specs.Listed.{is_listed_at, content_at}
use Rattle.esx_tables.proofs.listed.note.Goals as goal

pub returns-in-Unlisted : goal.returns-in-Unlisted
returns-in-Unlisted c = record {
  noted = c.pass.ensures.covers (is_listed_at c.args.listings.now) (content_at c.args.frames.now) (ap is_listed (sym c.get.ensures ∙ c.in-Unlisted.is)) c.requires;
  places = ap (λ (p : Noted). length p.waiting) c.pass.ensures.prints ∙ places_passed c.args.frame c.args.prints.now;
}

pub returns-in-Shared : goal.returns-in-Shared
returns-in-Shared c = record {
  noted = c.note.ensures.covers (is_listed_at c.args.listings.now) (content_at c.args.frames.now) (sym c.bytes_in.ensures) c.requires;
  places = ap (λ (p : Noted). length p.waiting) c.note.ensures.prints ∙ places_noted c.args.frame _ c.args.prints.now;
}
