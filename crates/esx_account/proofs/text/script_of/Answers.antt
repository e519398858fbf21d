use Rattle.std.proofs.Common.{List, map, ap, ◌∙◌}
use Rattle.std.specs.Str.Lines.{lines}
use Rattle.esx_session.specs.declared.session.Entry.{Entry}
use Rattle.esx_session.specs.Sessions.{request}
use Rattle.esx_session.proofs.SessionLemmas.{one_session}
use Rattle.esx_account.proofs.Texts.{want_of_memory}
use Rattle.esx_account.proofs.text.script_of.Goals as goal

pub memory_fault-requires : goal.memory_fault-requires
memory_fault-requires c = want_of_memory c.in-Err.fault c.args.text.now c.requires.0 c.requires.1 c.requires.2 c.in-Err.ensures.only

pub returns-in-Ok-clause-site : goal.returns-in-Ok-clause-site
returns-in-Ok-clause-site c = λ site entries reads. (
    let read = c.in-Ok.ensures.ok in
    (one_session (lines c.args.text.now) c.in-Ok.script.site site read.0 entries read.1 reads).0)

pub returns-in-Ok-clause-calls : goal.returns-in-Ok-clause-calls
returns-in-Ok-clause-calls c = λ site entries reads. (
    let read = c.in-Ok.ensures.ok in
    read.2 ∙ ap (λ (es : List Entry). map request es) (one_session (lines c.args.text.now) c.in-Ok.script.site site read.0 entries read.1 reads).1)
