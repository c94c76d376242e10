use Rattle.warehouse_objects.proofs.Contents.{represents_aimed}
use Rattle.warehouse_objects.proofs.laws.aiming_represents.Goals as goal

pub returns : goal.returns
returns c = represents_aimed
