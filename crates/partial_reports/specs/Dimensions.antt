-- The digest of dimension rows: SHA-256 of their four objects. Our own.
use Rattle.std.specs.Prelude.{ℕ, List, ◌++◌}
use Rattle.cube_model.specs.declared.attr.Axis.{Axis}
use Rattle.cube_model.specs.declared.attr.Axis.TheVariants.{Customer, Supplier, Part, Date}
use Rattle.cube_model.specs.declared.rows.DimRows.{DimRows}
use Rattle.dimensions.specs.Shown.{rows_on}
use Rattle.dimension_objects.specs.Spelled.{dimension_spelling}
use Rattle.sha2.specs.Sha256.{sha256}

-- the bytes of a dimension, as a warehouse stores them
abbrev pub dimension_object : DimRows → Axis → List ℕ
dimension_object dimensions axis = dimension_spelling axis (rows_on dimensions axis)

-- the four objects, one after the other
abbrev pub objects_of : DimRows → List ℕ
objects_of dimensions =
    ((dimension_object dimensions Customer ++ dimension_object dimensions Supplier) ++ dimension_object dimensions Part)
    ++ dimension_object dimensions Date

abbrev pub digest_of : DimRows → List ℕ
digest_of dimensions = sha256 (objects_of dimensions)
