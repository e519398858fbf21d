use Rattle.esx_tables.specs.Listed.{is_listed_at, content_at}
use Rattle.esx_tables.proofs.listed.may_be_listed.Goals as goal

pub returns-then-not-begin-clause-noted : goal.returns-then-not-begin-clause-noted
returns-then-not-begin-clause-noted c = c.begin.ensures.covers (is_listed_at c.args.listings.now) (content_at c.args.frames.now) c.requires

pub note_waiting-requires : goal.note_waiting-requires
note_waiting-requires c = c.begin.ensures.covers (is_listed_at c.args.listings.now) (content_at c.args.frames.now) c.requires
