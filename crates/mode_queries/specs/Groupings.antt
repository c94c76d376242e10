-- The grouping sets of Gray et al. 1997 over so many columns.
use Rattle.std.specs.Prelude.{ℕ, zero, suc, true, false, List, [], ◌∷◌, ◌++◌, map}
use Rattle.std.proofs.Math.ListN.{replicate}
use Rattle.cube_model.specs.declared.query.Kind.{Kind}
use Rattle.cube_model.specs.declared.query.Kind.TheVariants.{Plain, Rollup, Cube}
use Rattle.cube_model.specs.Keys.{GroupingSet}

-- the beginnings of so many columns, from the empty one to the whole
abbrev pub beginnings_of : ℕ → List GroupingSet
beginnings_of zero = [] ∷ []
beginnings_of (suc n) = replicate (suc n) false ∷ map (λ grouping. true ∷ grouping) (beginnings_of n)

-- all choices among so many columns
abbrev pub all_choices : ℕ → List GroupingSet
all_choices zero = [] ∷ []
all_choices (suc n) = map (λ grouping. true ∷ grouping) (all_choices n)
    ++ map (λ grouping. false ∷ grouping) (all_choices n)

abbrev pub grouping_sets_of : Kind → ℕ → List GroupingSet
grouping_sets_of Plain n = replicate n true ∷ []
grouping_sets_of Rollup n = beginnings_of n
grouping_sets_of Cube n = all_choices n
