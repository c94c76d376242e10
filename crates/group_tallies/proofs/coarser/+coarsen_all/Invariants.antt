use Rattle.group_tallies.proofs.coarser.+coarsen_all.Given as goal

abbrev pub decreases-coarsen_all : goal.decreases-coarsen_all
decreases-coarsen_all l = l.count
