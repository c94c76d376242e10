-- The lines that jobs write. Our own.
use Rattle.std.specs.Prelude.{ℕ, zero, suc, Bool, true, false, List, [], ◌++◌, Option, Some, None, codes}
use Rattle.std.specs.List.{flat_map}
use Rattle.std.specs.Fmt.{decimal}
use Rattle.lattice.specs.Names.{view_text}
use Rattle.warehouse_root.specs.declared.cuboid.StoredCuboid.{StoredCuboid}
use Rattle.warehouse.specs.declared.chosen.Chosen.{Chosen}
use Rattle.warehouse.specs.declared.status.Status.{Status}
use Rattle.warehouse_jobs.specs.declared.taken.Taken.{Taken}
use Rattle.warehouse_jobs.specs.declared.taken.Taken.TheVariants.{Added, Skipped}

-- a name, a number, and a line feed
abbrev pub named_line : List ℕ → ℕ → List ℕ
named_line name number = name ++ (decimal number ++ codes "\n")

-- how many batches there are
abbrev pub count_line : ℕ → List ℕ
count_line count = named_line (codes "batches ") count

-- what became of a batch of so many rows
abbrev pub taken_text : ℕ → Taken → List ℕ
taken_text rows Added = named_line (codes " rows ") rows
taken_text rows Skipped = codes " skipped\n"

-- the line of the batch of a number
abbrev pub batch_line : ℕ → ℕ → Taken → List ℕ
batch_line number rows taken = codes "batch " ++ (decimal number ++ taken_text rows taken)

-- how many additions there are
abbrev pub additions_line : ℕ → List ℕ
additions_line count = named_line (codes "additions ") count

-- what became of the addition of a number, which has so many rows, and how many additions there are then
abbrev pub addition_text : ℕ → ℕ → Taken → ℕ → List ℕ
addition_text number rows Added additions =
    codes "addition "
    ++ (decimal number ++ (codes " rows " ++ (decimal rows ++ (codes "\n" ++ additions_line additions))))
addition_text number rows Skipped additions =
    codes "addition " ++ (decimal number ++ (codes " skipped\n" ++ additions_line additions))

-- how many batches there are, and how many additions, where there are some
abbrev pub counts_text : ℕ → ℕ → List ℕ
counts_text batches zero = count_line batches
counts_text batches (suc before) = codes "batches " ++ (decimal batches ++ (codes "\n" ++ additions_line (suc before)))

-- what is said of a stored cuboid
abbrev pub cuboid_line : StoredCuboid → List ℕ
cuboid_line cuboid =
    codes "cuboid " ++ (decimal cuboid.view ++ (codes " mark " ++ (decimal cuboid.mark
    ++ (codes " runs " ++ (decimal cuboid.runs ++ (codes " cells " ++ (decimal cuboid.cells ++ codes "\n")))))))

-- an empty place has no line
abbrev pub place_text : Option StoredCuboid → List ℕ
place_text None = []
place_text (Some cuboid) = cuboid_line cuboid

-- the numbers of a warehouse, and then a line for each stored cuboid
abbrev pub status_text : Status → List ℕ
status_text status =
    counts_text status.batches status.additions
    ++ (named_line (codes "rows ") status.rows
    ++ (named_line (codes "target ") status.target
    ++ (named_line (codes "generation ") status.generation ++ flat_map place_text status.cuboids)))

-- a view that was chosen, with or without a fifth axis, such as: view 59 city|ALL|mfgr|ALL benefit 8
abbrev pub chosen_line : Bool → Chosen → List ℕ
chosen_line ship_modes one = view_text ship_modes one.view ++ named_line (codes " benefit ") one.benefit

-- and all of a choice, in the order of choice
abbrev pub choice_text : Bool → List Chosen → List ℕ
choice_text ship_modes chosen = flat_map (chosen_line ship_modes) chosen

abbrev pub upkeep_text : List ℕ
upkeep_text = codes "upkeep done\n"

-- a warehouse is in the second layout
abbrev pub second_layout_text : List ℕ
second_layout_text = codes "layout 2\n"

abbrev pub audit_text : Bool → List ℕ
audit_text true = codes "audit yes\n"
audit_text false = codes "audit no\n"
