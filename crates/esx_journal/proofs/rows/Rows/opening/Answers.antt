use Rattle.std.proofs.Common.{◌∙◌, ap, List, [], ◌∷◌, ◌++◌}
use Rattle.esx_machine.specs.Machine.{Back}
use Rattle.esx_journal.specs.declared.rows.Link.{Link}
use Rattle.esx_journal.specs.Rows.{rows_from}
use Rattle.esx_journal.proofs.Parting.{no_link, opening_from}
use Rattle.esx_journal.proofs.rows.Rows.opening.Goals as goal

pub returns : goal.returns
returns c =
    let links = c.in_ok-push.ensures.items ∙ ap (λ (ls : List Link). ls ++ no_link ∷ []) c.new-links.ensures.items in
    let records = c.in_ok-push-2.ensures.items ∙ ap (λ (rs : List Back). rs ++ c.no_record.result ∷ []) c.new-records.ensures.items in
    ap (λ ls. rows_from ls c.push-2.new.self.items) links ∙ ap (λ rs. rows_from (no_link ∷ []) rs) records ∙ opening_from c.no_record.result
