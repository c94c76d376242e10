use Rattle.dimensions.proofs.dimension.Dimension.+code.Given as goal

abbrev pub decreases-code : goal.decreases-code
decreases-code l = l.column
