use Rattle.std.proofs.Common.{◌≡◌, ◌<◌, ℕ, [], get_or, vec_len}
use Rattle.dimensions.specs.Shapes.{lower_of}
use Rattle.dimensions.specs.Dimensions.{no_column}
use Rattle.dimensions.proofs.dimension.Dimension.new.Given as goal

abbrev pub invariant-loop-column : goal.invariant-loop-column
invariant-loop-column l = (vec_len l.columns ≡ l.column)
    × ((k : ℕ) → k < l.column → get_or l.columns.items k no_column ≡ record {
      lower = lower_of l.axis k;
      texts = record { texts = []; limit = 65535 };
      codes = [];
      ranks = [];
    })
