-- What holds of cost, benefit and greedy lists, over any finite list of views of any kind. Each is proved as the
-- contract of a function of its name.
use Rattle.std.specs.Prelude.{◌≡◌, ◌≢◌, ℕ, ◌-◌, ◌*◌, ◌^◌, ◌<◌, ◌≤◌, List, ◌++◌, length, slice_index_or}
use Rattle.std.specs.List.{All, sum}
use Rattle.lattice.specs.declared.counts.Counts.{Counts}
use Rattle.lattice.specs.declared.view.View.{View}
use Rattle.view_choice.specs.Choice.{Lattice, benefit, benefits, total_benefit, IsCandidate, IsGreedy}
use Rattle.view_choice.specs.Cuboids.{cuboids, cuboids_for}

-- a choice has at least (1 - ((k - 1) / k) ^ k) of the benefit of any choice of at most k candidates; here both sides
-- are times k ^ k
abbrev pub HasGuarantee : {V : Type 0} → Lattice V → ℕ → List V → Type 0
HasGuarantee {V} lattice k chosen = (others : List V) → All (IsCandidate lattice) others → length others ≤ k
    → (k ^ k - (k - 1) ^ k) * total_benefit lattice others ≤ k ^ k * total_benefit lattice chosen

-- the greedy guarantee of Harinarayan, Rajaraman and Ullman 1996: a greedy list has it
abbrev pub GreedyGuarantee : Type 0 → Type 0
GreedyGuarantee V = (lattice : Lattice V) (k : ℕ) (chosen : List V) → 1 ≤ k → IsGreedy lattice k chosen
    → HasGuarantee lattice k chosen

-- there is a greedy list for each k
abbrev pub SomeGreedyList : Type 0 → Type 0
SomeGreedyList V = (lattice : Lattice V) (k : ℕ) → (chosen : List V) × IsGreedy lattice k chosen

-- no two views have one number
abbrev pub HasOwnNumbers : {V : Type 0} → Lattice V → Type 0
HasOwnNumbers {V} lattice = (view other : V) → lattice.index view ≡ lattice.index other → view ≡ other

-- two greedy lists for k are one, where no two views have one number
abbrev pub OneGreedyList : Type 0 → Type 0
OneGreedyList V = (lattice : Lattice V) (k : ℕ) (chosen others : List V) → HasOwnNumbers lattice
    → IsGreedy lattice k chosen → IsGreedy lattice k others → chosen ≡ others

-- so there is one greedy list of the views of the warehouse
abbrev pub OneGreedyChoice : Type 0
OneGreedyChoice = (rows : ℕ) (counts : Counts) (k : ℕ) (chosen others : List View)
    → IsGreedy (cuboids rows counts) k chosen → IsGreedy (cuboids rows counts) k others → chosen ≡ others

-- and one where only some views are asked for
abbrev pub OneGreedyChoiceFor : Type 0
OneGreedyChoiceFor = (rows : ℕ) (counts : Counts) (demanded : List View) (k : ℕ) (chosen others : List View)
    → IsGreedy (cuboids_for rows counts demanded) k chosen → IsGreedy (cuboids_for rows counts demanded) k others
    → chosen ≡ others

-- the members of a list are candidates, and no view is in it twice
pub record AreCandidatesOnce {V : Type 0} (lattice : Lattice V) (chosen : List V) : Type 0 where
  pub candidates : All (IsCandidate lattice) chosen
  pub differ : (i j : ℕ) (default : V) → i < j → j < length chosen
      → slice_index_or chosen i default ≢ slice_index_or chosen j default

-- such are those of a greedy list
abbrev pub GreedyMembers : Type 0 → Type 0
GreedyMembers V = (lattice : Lattice V) (k : ℕ) (chosen : List V) → IsGreedy lattice k chosen
    → AreCandidatesOnce lattice chosen

-- the benefits of the members, each under those before it, add up to the benefit of the whole choice
abbrev pub BenefitsAddUp : Type 0 → Type 0
BenefitsAddUp V = (lattice : Lattice V) (chosen : List V) → sum (benefits lattice chosen) ≡ total_benefit lattice chosen

-- a view's benefit is no greater under a longer choice
abbrev pub BenefitsFall : Type 0 → Type 0
BenefitsFall V = (lattice : Lattice V) (chosen more : List V) (view : V)
    → benefit lattice (chosen ++ more) view ≤ benefit lattice chosen view
