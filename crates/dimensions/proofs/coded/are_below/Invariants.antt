use Rattle.std.proofs.Common.{◌≡◌, nat_lt, take}
use Rattle.std.specs.List.{list_all}
use Rattle.dimensions.proofs.coded.are_below.Given as goal

abbrev pub invariant-loop-code : goal.invariant-loop-code
invariant-loop-code l = l.fine ≡ list_all (λ code. nat_lt code l.count) (take l.code-index l.codes)
