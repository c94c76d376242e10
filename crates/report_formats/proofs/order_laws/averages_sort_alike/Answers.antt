use Rattle.report_formats.proofs.OrderLawsLemmas.{averages_sort_alike}
use Rattle.cube_model.proofs.LawsLemmas.{fraction_is_the_one}
use Rattle.report_formats.proofs.order_laws.averages_sort_alike.Goals as goal

pub returns : goal.returns
returns c = averages_sort_alike fraction_is_the_one
