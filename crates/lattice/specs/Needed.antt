-- Which view a query needs.
use Rattle.std.specs.Prelude.{◌↔◌}
use Rattle.cube_model.specs.declared.query.Query.{Query}
use Rattle.lattice.specs.declared.view.View.{View}
use Rattle.lattice.specs.Determined.{Serves}
use Rattle.lattice.specs.Views.{Answers}

-- the coarsest view that serves a query: the views that serve it are those that answer this one
abbrev pub IsNeededBy : Query → View → Type 0
IsNeededBy query view = (other : View) → Serves other query ↔ Answers other view

-- no view serves a query
abbrev pub HasNoView : Query → Type 0
HasNoView query = (view : View) → Serves view query → ⊥
