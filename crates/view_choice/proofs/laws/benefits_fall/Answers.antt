use Rattle.view_choice.proofs.BenefitLaws.{benefit-append_le}
use Rattle.view_choice.proofs.laws.benefits_fall.Goals as goal

pub returns : goal.returns
returns g c = benefit-append_le
