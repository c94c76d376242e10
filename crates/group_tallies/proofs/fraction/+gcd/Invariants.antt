use Rattle.group_tallies.proofs.fraction.+gcd.Given as goal

abbrev pub decreases-gcd : goal.decreases-gcd
decreases-gcd l = l.b
