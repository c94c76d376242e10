-- Members are in order, so each text has one rank.
use Rattle.std.proofs.Common.{◌≡◌, ◌<◌, ◌∙◌, zero, suc, sym, ap, refl, arith, ℕ, List, [], ◌∷◌, length, get_or}
use Rattle.std.specs.Str.{bytes_eq}
use Rattle.std.specs.List.{AllByRecursion}
use Rattle.std.specs.Ordering.{nat_cmp, is_eq}
use Rattle.std.specs.declared.cmp.Ordering.{Ordering}
use Rattle.std.specs.declared.cmp.Ordering.TheVariants.{Less}
use Rattle.std.specs.Cmp.Lexicographic.{slice_cmp, texts_ties, nat_list_cmp_total}
use Rattle.std.specs.FinMap.{nat_cmp-IsAntisymmetric, slice_cmp-IsAntisymmetric}
use Rattle.std.proofs.lemmas.List.Sums.{position_or_len_is}
use Rattle.std.proofs.lemmas.Slice.Eq.{bytes_eq-Decides}
use Rattle.cube_model.specs.declared.attr.Attr.{Attr}
use Rattle.cube_model.specs.declared.rows.DimRows.{DimRows}
use Rattle.cube_model.specs.Ascending.{IsAscending}
use Rattle.cube_model.proofs.Ascending.{IsAscending-ascending}
use Rattle.cube_model.specs.Places.{attr_members, texts_of, text_at}
use Rattle.group_numbers.specs.Parts.{rank_at}

all_at : {X : Type 0} (P : X → Type 0) (xs : List X) (k : ℕ) (d : X) → AllByRecursion P xs → k < length xs
    → P (get_or xs k d)
all_at P [] k d all lt = absurd (omega (arith, lt))
all_at P (x ∷ xs) zero d all lt = all.0
all_at P (x ∷ xs) (suc k) d all lt = all_at P xs k d all.1 (omega (arith, lt))

ascending_at : {K : Type 0} (R : K → K → Ordering) (xs : List K) (i j : ℕ) (d : K) → IsAscending R xs → i < j
    → j < length xs → R (get_or xs i d) (get_or xs j d) ≡ Less
ascending_at R [] i j d sorted below lt = absurd (omega (arith, lt))
ascending_at R (x ∷ xs) zero zero d sorted below lt = absurd (omega (arith, below))
ascending_at R (x ∷ xs) zero (suc j) d sorted below lt =
    all_at (λ other. R x other ≡ Less) xs j d sorted.0 (omega (arith, lt))
ascending_at R (x ∷ xs) (suc i) zero d sorted below lt = absurd (omega (arith, below))
ascending_at R (x ∷ xs) (suc i) (suc j) d sorted below lt =
    ascending_at R xs i j d sorted.1 (omega (arith, below)) (omega (arith, lt))

-- members rise with their ranks
pub members_rise : (dimensions : DimRows) (attr : Attr) (i j : ℕ) → i < j → j < length (attr_members dimensions attr)
    → slice_cmp nat_cmp (get_or (attr_members dimensions attr) i []) (get_or (attr_members dimensions attr) j []) ≡ Less
members_rise dimensions attr i j below lt =
    ascending_at (slice_cmp nat_cmp) (attr_members dimensions attr) i j []
    (IsAscending-ascending (slice_cmp nat_cmp) nat_list_cmp_total (slice_cmp-IsAntisymmetric nat_cmp-IsAntisymmetric)
    (texts_of dimensions attr))
    below lt

-- the place of a text among the members is its rank
pub rank_is : (dimensions : DimRows) (attr : Attr) (place rank : ℕ) → rank < length (attr_members dimensions attr)
    → get_or (attr_members dimensions attr) rank [] ≡ text_at dimensions attr place
    → rank_at dimensions attr place ≡ rank
rank_is dimensions attr place rank lt is =
    let members = attr_members dimensions attr in
    let text = text_at dimensions attr place in
    position_or_len_is (λ other. bytes_eq other text) members rank [] (omega (arith, lt))
    (λ k below. ap (bytes_eq (get_or members k [])) (sym is) ∙ texts_ties (get_or members k []) (get_or members rank [])
    ∙ ap is_eq (members_rise dimensions attr k rank below lt))
    (λ within. ap (λ other. bytes_eq other text) is ∙ (bytes_eq-Decides text text).1 refl)
