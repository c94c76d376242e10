use Rattle.std.proofs.Common.{◌∙◌, ◌∷◌, ℕ, List, ap}
use Rattle.file_device.specs.Host.{events_of}
use Rattle.sector_device.specs.declared.event.Event.TheVariants.{Read}
use Rattle.file_device.proofs.host.Host.find_zeros.Goals as goal

pub returns-then-are_same-clause-ok : goal.returns-then-are_same-clause-ok
returns-then-are_same-clause-ok g c =
    c.in_default.ensures ∙ ap (λ (b : List ℕ). Read c.args.i b ∷ events_of c.args.self.now) c.if-are_same.ensures.same
