-- The fields that a line was split into.
use Rattle.std.specs.Prelude.{ℕ, List}
use Rattle.batch_loader.specs.declared.line_fields.FieldsInPlace.{FieldsInPlace}
use Rattle.batch_loader.specs.declared.line_fields.LineFields.{LineFields}
use Rattle.batch_loader.specs.Fields.{parts_at}

-- the fields, in order
abbrev pub field_texts : {N : ℕ} → LineFields N → List (List ℕ)
field_texts fields = parts_at fields.line.now 0 fields.ends

-- the same of fields whose ends stay where they were found
abbrev pub fields_at : {N : ℕ} → FieldsInPlace N → List (List ℕ)
fields_at fields = parts_at fields.line.now 0 fields.ends.now
