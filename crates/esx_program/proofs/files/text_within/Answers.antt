use Rattle.std.specs.Prelude.{string_bytes}
use Rattle.std.proofs.lemmas.Str.{IsUtf8-string_bytes}
use Rattle.esx_text.specs.States.{source_state}
use Rattle.esx_program.proofs.FileLemmas.{is_text, no_text}
use Rattle.esx_program.proofs.files.text_within.Goals as goal

pub returns-clause-text : goal.returns-clause-text
returns-clause-text g c =
    is_text c.args.most (source_state g.F.Source.remaining g.F.Source.calls g.F.Source.failures g.F.Source.empty_reads g.F.Source.asked c.args.file.now)
    (source_state g.F.Source.remaining g.F.Source.calls g.F.Source.failures g.F.Source.empty_reads g.F.Source.asked c.read_text_within.new.source) (c.read_text_within.ensures.reads, c.read_text_within.ensures.pieces) c.read_text_within.result string_bytes
    c.read_text_within.ensures.ok c.read_text_within.ensures.end c.read_text_within.ensures.no_read_fault c.read_text_within.ensures.found IsUtf8-string_bytes

pub returns-clause-fault : goal.returns-clause-fault
returns-clause-fault g c =
    no_text c.args.most (source_state g.F.Source.remaining g.F.Source.calls g.F.Source.failures g.F.Source.empty_reads g.F.Source.asked c.args.file.now)
    (source_state g.F.Source.remaining g.F.Source.calls g.F.Source.failures g.F.Source.empty_reads g.F.Source.asked c.read_text_within.new.source) (c.read_text_within.ensures.reads, c.read_text_within.ensures.pieces) c.read_text_within.result
    c.read_text_within.ensures.fault c.read_text_within.ensures.not_text c.read_text_within.ensures.read c.read_text_within.ensures.each
    c.read_text_within.ensures.memory c.read_text_within.ensures.no_read_fault c.read_text_within.ensures.found_no_text c.read_text_within.ensures.not_found c.read_text_within.ensures.not_found_in_memory
