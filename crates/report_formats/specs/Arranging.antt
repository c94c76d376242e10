-- The lines of a report, where it is asked for in an order or up to a number of lines. Our own.
use Rattle.std.specs.Prelude.{ℕ, List, Option, Some, None, length, map, min, take}
use Rattle.std.specs.declared.cmp.Ordering.{Ordering}
use Rattle.std.specs.List.{range_with_len}
use Rattle.std.specs.Ordering.{nat_cmp, ordering_then}
use Rattle.cube_model.specs.Ascending.{ascending}
use Rattle.cube_model.specs.declared.answer.Line.{Line}
use Rattle.group_tallies.specs.GroupLines.{line_at}
use Rattle.report_formats.specs.declared.arrangement.Arrangement.{Arrangement}
use Rattle.report_formats.specs.declared.arrangement.Sorting.{Sorting}
use Rattle.report_formats.specs.Sorting.{sorting_cmp}

-- places by their lines. Lines that tie, as no two of an answer do, are in the order of their places
abbrev pub place_cmp : Sorting → List Line → ℕ → ℕ → Ordering
place_cmp sorting lines left right =
    ordering_then (sorting_cmp sorting (line_at lines left) (line_at lines right)) (nat_cmp left right)

-- the places of lines in the order by a column or by an aggregate
abbrev pub sorted_places : Sorting → List Line → List ℕ
sorted_places sorting lines = ascending (place_cmp sorting lines) (range_with_len 0 (length lines))

-- the same where an order is asked for
abbrev pub places_for : Option Sorting → List Line → Option (List ℕ)
places_for None lines = None
places_for (Some sorting) lines = Some (sorted_places sorting lines)

-- the lines at places, and all as they are where there are none
abbrev pub lines_at : Option (List ℕ) → List Line → List Line
lines_at None lines = lines
lines_at (Some places) lines = map (line_at lines) places

-- the lines in the order that is asked for
abbrev pub sorted : Option Sorting → List Line → List Line
sorted sorting lines = lines_at (places_for sorting lines) lines

-- how many of so many a limit leaves
abbrev pub limited : Option ℕ → ℕ → ℕ
limited None count = count
limited (Some limit) count = min limit count

-- the first of some things, and all where there is no limit
abbrev pub first : {X : Type 0} → Option ℕ → List X → List X
first None items = items
first (Some limit) items = take limit items

-- the first lines in the order that is asked for
abbrev pub arranged : Arrangement → List Line → List Line
arranged arrangement lines = first arrangement.limit (sorted arrangement.sorting lines)

-- all lines as they are
abbrev pub no_arrangement : Arrangement
no_arrangement = record { sorting = None; limit = None }
