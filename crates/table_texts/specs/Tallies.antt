-- What is counted of each member while the rows are gone through. Our own.
use Rattle.std.specs.Prelude.{◌≡◌, ◌⊎◌, ℕ, ◌<◌, List, [], Option, Result, Err, length, take, count_by, slice_index_or}
use Rattle.std.specs.Io.KnownBytes.{Keeps}
use Rattle.std.specs.List.{position_or_len}
use Rattle.std.specs.Str.{bytes_eq}
use Rattle.cube_model.specs.declared.attr.Attr.{Attr}
use Rattle.cube_model.specs.declared.fault.Fault.{Fault}
use Rattle.cube_model.specs.declared.fault.Fault.TheVariants.{Memory}
use Rattle.cube_model.specs.declared.rows.DimRows.{DimRows}
use Rattle.cube_model.specs.Places.{attr_members, texts_of}
use Rattle.ssb_reports.specs.Writing.{Writes}
use Rattle.table_texts.specs.declared.tallies.Tally.{Tally}

-- the tally of a text among the texts before a place: how many of them it is and, if it is one of them, which is the
-- first
pub record IsTally (texts : List (List ℕ)) (place : ℕ) (text : List ℕ) (tally : Tally) : Type 0 where
  pub rows : tally.rows ≡ count_by (bytes_eq text) (take place texts)
  pub first : 0 < tally.rows → tally.first ≡ position_or_len (bytes_eq text) texts

abbrev pub empty_tally : Tally
empty_tally = record { first = 0; rows = 0 }

-- the tallies of the members of an attribute in the rows before a place, by rank
pub record AreTallies (rows : DimRows) (attr : Attr) (place : ℕ) (tallies : List Tally) : Type 0 where
  pub count : length tallies ≡ length (attr_members rows attr)
  pub each : (rank : ℕ) → rank < length (attr_members rows attr)
      → IsTally (texts_of rows attr) place (slice_index_or (attr_members rows attr) rank [])
      (slice_index_or tallies rank empty_tally)

-- all of a text was written or the writer failed, or memory was refused before any of it was written
abbrev pub WritesInMemory : Option (List ℕ) → Option (List ℕ) → Result Unit Fault → List ℕ → Type 0
WritesInMemory old new result text = ((result ≡ Err Memory) × Keeps old new) ⊎ Writes old new result text
