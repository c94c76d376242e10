-- A query that is asked, however it was given. Our own.
use Rattle.mode_queries.specs.Lawful.{without_modes}
use Rattle.mode_queries.specs.declared.query.ModeQuery.{ModeQuery}
use Rattle.mode_queries.specs.declared.reference.QueryRef.{QueryRef}
use Rattle.mode_queries.specs.declared.reference.QueryRef.TheVariants.{Plain, ByModes}

abbrev pub asked_by : QueryRef → ModeQuery
asked_by (Plain query) = without_modes query.now
asked_by (ByModes asked) = asked.now
