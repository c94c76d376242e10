-- The example by which Harinarayan, Rajaraman and Ullman 1996 explain the greedy choice: eight views a to h, here 0 to
-- 7, of which a is stored in any case. Choosing b, f and d lowers the cost of all views from 800 to 420.
use Rattle.std.specs.Prelude.{◌≡◌, ℕ, ◌-◌, ◌==◌, List, [], ◌∷◌, map, slice_index_or}
use Rattle.std.specs.List.{list_any}
use Rattle.view_choice.specs.Choice.{Lattice, benefit, benefits, total_benefit}

-- the views that each of a to h answers
abbrev pub answered : List (List ℕ)
answered =
    (0 ∷ 1 ∷ 2 ∷ 3 ∷ 4 ∷ 5 ∷ 6 ∷ 7 ∷ [])
    ∷ (1 ∷ 3 ∷ 4 ∷ 6 ∷ 7 ∷ [])
    ∷ (2 ∷ 4 ∷ 5 ∷ 6 ∷ 7 ∷ [])
    ∷ (3 ∷ 6 ∷ [])
    ∷ (4 ∷ 6 ∷ 7 ∷ [])
    ∷ (5 ∷ 7 ∷ [])
    ∷ (6 ∷ [])
    ∷ (7 ∷ [])
    ∷ []

abbrev pub paper_lattice : Lattice ℕ
paper_lattice = record {
  rows = 100;
  views = 0 ∷ 1 ∷ 2 ∷ 3 ∷ 4 ∷ 5 ∷ 6 ∷ 7 ∷ [];
  demanded = 0 ∷ 1 ∷ 2 ∷ 3 ∷ 4 ∷ 5 ∷ 6 ∷ 7 ∷ [];
  index = λ view. view;
  size = λ view. slice_index_or (100 ∷ 50 ∷ 75 ∷ 20 ∷ 30 ∷ 40 ∷ 1 ∷ 10 ∷ []) view 0;
  answers = λ view other. list_any (λ one. one == other) (slice_index_or answered view []);
  most_cells = 100;
}

-- The benefits of b to h at first; those of b, f and d, each under those before it; and that of the three together.
pub record PaperExample : Type 0 where
  pub first_round : map (benefit paper_lattice []) (1 ∷ 2 ∷ 3 ∷ 4 ∷ 5 ∷ 6 ∷ 7 ∷ [])
      ≡ 250 ∷ 125 ∷ 160 ∷ 210 ∷ 120 ∷ 99 ∷ 90 ∷ []
  pub chosen : benefits paper_lattice (1 ∷ 5 ∷ 3 ∷ []) ≡ 250 ∷ 70 ∷ 60 ∷ []
  pub together : total_benefit paper_lattice (1 ∷ 5 ∷ 3 ∷ []) ≡ 800 - 420
