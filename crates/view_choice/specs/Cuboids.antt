-- The choice among the views of the warehouse, over so many fact rows and members.
use Rattle.std.specs.Prelude.{ℕ, ◌*◌, ◌-◌, List, reverse}
use Rattle.cube_model.specs.Limits.{most_batches, most_batch_rows}
use Rattle.lattice.specs.declared.counts.Counts.{Counts}
use Rattle.lattice.specs.declared.view.View.{View}
use Rattle.lattice.specs.Sizes.{size_of, lattice_of}
use Rattle.lattice.specs.Views.{answers, index_of}
use Rattle.view_choice.specs.declared.ties.Ties.{Ties}
use Rattle.view_choice.specs.declared.ties.Ties.TheVariants.{ToLeast, ToGreatest}
use Rattle.view_choice.specs.Choice.{Lattice}

-- cells of a view that may be stored. Our own choice
abbrev pub most_stored_cells : ℕ
most_stored_cells = 262144

-- fact rows of a warehouse
abbrev pub most_fact_rows : ℕ
most_fact_rows = most_batches * most_batch_rows

-- views that are asked for, each counted as often as it is. Our own choice
abbrev pub most_demanded : ℕ
most_demanded = 65536

-- the views that the counts give, in the order in which they are taken at a tie: by ascending number, or by descending
abbrev pub views_by : Ties → Counts → List View
views_by ToLeast counts = lattice_of counts
views_by ToGreatest counts = reverse (lattice_of counts)

-- a number that ascends in this order
abbrev pub number_by : Ties → View → ℕ
number_by ToLeast view = index_of view
number_by ToGreatest view = 511 - index_of view

-- all views that the counts give, with the most cells that they can have, where some views are asked for
abbrev pub cuboids_by : Ties → ℕ → Counts → List View → Lattice View
cuboids_by ties rows counts demanded = record {
  rows = rows;
  views = views_by ties counts;
  demanded = demanded;
  index = number_by ties;
  size = size_of rows counts;
  answers = answers;
  most_cells = most_stored_cells;
}

-- where all views are asked for alike
abbrev pub cuboids : ℕ → Counts → Lattice View
cuboids rows counts = cuboids_by ToLeast rows counts (lattice_of counts)

-- where only some are. A view has a greater number than each that answers it, so at a tie a coarser view is taken
-- before a finer one
abbrev pub cuboids_for : ℕ → Counts → List View → Lattice View
cuboids_for rows counts demanded = cuboids_by ToGreatest rows counts demanded
