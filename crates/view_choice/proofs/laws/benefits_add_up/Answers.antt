use Rattle.view_choice.proofs.BenefitLaws.{sum-benefits}
use Rattle.view_choice.proofs.laws.benefits_add_up.Goals as goal

pub returns : goal.returns
returns g c = sum-benefits
