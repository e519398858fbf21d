-- What a row's fields tell in small numbers, and the fields with others. No public clause cites this module.
use Rattle.esx_tables.specs.declared.change.Facts.{Facts}
use Rattle.esx_tables.specs.declared.vm_table.Fields.{Fields as RowFields}

abbrev pub facts_in : RowFields → Facts
facts_in v = record { shares = v.spec.shares; tau = v.spec.tau; state = v.state; epoch = v.epoch; due = v.due; target = v.target }

abbrev pub fields_with : RowFields → Facts → RowFields
fields_with v f = record v { spec = record v.spec { shares = f.shares; tau = f.tau }; state = f.state; epoch = f.epoch; due = f.due; target = f.target }
