-- What a copy answers. Each is proved as the contract of a function.
use Rattle.std.specs.Prelude.{◌≡◌, ◌↔◌, ℕ, ◌≤◌, length}
use Rattle.cube_model.specs.declared.query.Query.{Query}
use Rattle.cube_model.specs.Answers.{answer_as_of}
use Rattle.warehouse_objects.specs.Warehouse.{Warehouse}
use Rattle.warehouse.specs.Session.{IsAsked}
use Rattle.warehouse_jobs.specs.Copied.{IsCopy, IsPart}

-- a copy may be asked what the first warehouse may be asked, and answers the same
abbrev pub CopiesAnswerAlike : Type 0
CopiesAnswerAlike = (w copy : Warehouse) (as_of : ℕ) (query : Query) → IsCopy w copy
    → (IsAsked copy as_of query ↔ IsAsked w as_of query)
    × (answer_as_of query as_of copy.rows copy.batches ≡ answer_as_of query as_of w.rows w.batches)

-- the same of its first batches, as far as they are there
abbrev pub PartsAnswerAlike : Type 0
PartsAnswerAlike = (w part : Warehouse) (as_of : ℕ) (query : Query) → IsPart w part → as_of ≤ length part.batches
    → answer_as_of query as_of part.rows part.batches ≡ answer_as_of query as_of w.rows w.batches
