use Rattle.esx_report.proofs.RatioLemmas.{ratio_of_pages, ratio_of_nothing}
use Rattle.esx_report.proofs.laws.good_rows_have_ratios.Goals as goal

pub returns-clause-some : goal.returns-clause-some
returns-clause-some c = ratio_of_pages

pub returns-clause-nothing : goal.returns-clause-nothing
returns-clause-nothing c = ratio_of_nothing
