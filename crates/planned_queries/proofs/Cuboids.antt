-- The stored cuboids of a warehouse, as the planner looks at them.
use Rattle.std.proofs.Common.{◌≡◌, ◌∙◌, ℕ, zero, suc, ◌+◌, ◌<◌, ◌==◌, List, [], ◌∷◌, ◌++◌, Option, Some, length, map}
use Rattle.std.proofs.Common.{option_map, take, get_or, refl, sym, ap, subst, arith}
use Rattle.std.specs.List.{find}
use Rattle.std.proofs.lemmas.List.{map-append, take_more}
use Rattle.cube_model.specs.declared.query.Query.{Query}
use Rattle.cube_model.specs.declared.rows.DimRows.{DimRows}
use Rattle.lattice.specs.declared.view.View.{View}
use Rattle.lattice.specs.Views.{index_of}
use Rattle.object_store.specs.Content.{Content}
use Rattle.planner.specs.declared.price.AccessPath.{AccessPath}
use Rattle.planner.specs.declared.price.AccessPath.TheVariants.{Scan, Cells}
use Rattle.planner.specs.declared.stored.Stored.{Stored}
use Rattle.warehouse_root.specs.declared.cuboid.StoredCuboid.{StoredCuboid}
use Rattle.warehouse_objects.specs.Represents.{AreItsMembers, Represents, said_of}
use Rattle.warehouse_objects.specs.Warehouse.{Cuboid, Warehouse, cuboid_at}
use Rattle.warehouse_objects.proofs.CallerLemmas.{find_said, own_view}
use Rattle.planned_queries.specs.Planned.{IsOfCuboid, IsPlanOf, seen_of}

-- the same rows are the warehouse's too
pub members_in : (w : Warehouse) (here rows : DimRows) (modes : List (List ℕ)) → here ≡ rows
    → AreItsMembers w rows modes → AreItsMembers w here modes
members_in w here rows modes same are = record { rows = same ∙ are.rows; modes = are.modes }

-- one more
pub seen_next : (cuboids : List Cuboid) (k : ℕ) (d : Cuboid) → k < length cuboids
    → map seen_of (take (k + 1) cuboids) ≡ map seen_of (take k cuboids) ++ seen_of (get_or cuboids k d) ∷ []
seen_next cuboids k d h = ap (map seen_of) (take_more cuboids k d h)
    ∙ map-append seen_of (take k cuboids) (get_or cuboids k d ∷ [])

-- the cuboid at a place
pub seen_at : (cuboids : List Cuboid) (one : Stored) (k : ℕ) → k < length (map seen_of cuboids)
    → get_or (map seen_of cuboids) k one ≡ one
    → (cuboid : Cuboid) × (get_or cuboids k cuboid ≡ cuboid) × (seen_of cuboid ≡ one) × (k < length cuboids)
seen_at [] one k h is = absurd (omega (arith, h))
seen_at (c ∷ cs) one zero h is = (c, refl, is, omega arith)
seen_at (c ∷ cs) one (suc k) h is = let rest = seen_at cs one k (omega (arith, h)) is in
    (rest.0, rest.1, rest.2, omega (arith, rest.3))

-- the cells of a plan are those of a cuboid
pub of_cuboid : (c : Content) (w : Warehouse) (as_of : ℕ) (query : Query) (plan : AccessPath) → Represents c w
    → IsPlanOf w as_of query plan → IsOfCuboid w plan
of_cuboid c w as_of query Scan represents is = tt
of_cuboid c w as_of query (Cells view mark) represents is =
    let answers = is.1.answers in
    let found = seen_at w.cuboids answers.0 answers.1.0 answers.1.1 answers.1.2 in
    let view_is : found.0.view ≡ view = ap (λ (s : Stored). s.view) found.2 ∙ answers.3 in (
      found.0,
      ap (λ (v : View). cuboid_at (index_of v) w.cuboids) (sym view_is)
          ∙ ap (λ (cuboid : Cuboid). cuboid_at (index_of cuboid.view) w.cuboids) (sym found.1)
          ∙ own_view w.cuboids answers.1.0 found.0 represents.root.proper.ascending found.3
          ∙ ap (λ (cuboid : Cuboid). Some cuboid) found.1,
      ap (λ (s : Stored). s.mark) found.2 ∙ answers.4,
    )

-- what a root says at a place, of the cuboid there
said_at : (cuboids : List Cuboid) (k : ℕ) (s : StoredCuboid) → k < length (map said_of cuboids)
    → (cuboid : Cuboid) × (get_or (map said_of cuboids) k s ≡ said_of cuboid) × (get_or cuboids k cuboid ≡ cuboid)
    × (k < length cuboids)
said_at [] k s h = absurd (omega (arith, h))
said_at (c ∷ cs) zero s h = (c, refl, refl, omega arith)
said_at (c ∷ cs) (suc k) s h = let rest = said_at cs k s (omega (arith, h)) in
    (rest.0, rest.1, rest.2, omega (arith, rest.3))

-- the cuboids so far, with one more of which a root says this
pub seen_so_far : (cuboids : List Cuboid) (entries : List StoredCuboid) (k : ℕ) (s : StoredCuboid)
    (stored : List Stored) → entries ≡ map said_of cuboids → k < length entries → stored ≡ map seen_of (take k cuboids)
    → (cuboid : Cuboid) × (get_or entries k s ≡ said_of cuboid)
    × (stored ++ seen_of cuboid ∷ [] ≡ map seen_of (take (k + 1) cuboids))
seen_so_far cuboids entries k s stored same h so_far =
    let found = said_at cuboids k s (subst (λ (l : List StoredCuboid). k < length l) same h) in (
      found.0,
      ap (λ (l : List StoredCuboid). get_or l k s) same ∙ found.1,
      (λ i. so_far i ++ seen_of (sym found.2 i) ∷ []) ∙ sym (seen_next cuboids k found.0 found.3),
    )

-- what a root says of the cuboid of a view
pub said_found : (w : Warehouse) (view : View) (entries : List StoredCuboid) (number : ℕ) (result : Option StoredCuboid)
    (cuboid : Cuboid) → entries ≡ map said_of w.cuboids → number ≡ index_of view
    → result ≡ find (λ (c : StoredCuboid). c.view == number) entries → cuboid_at (index_of view) w.cuboids ≡ Some cuboid
    → result ≡ Some (said_of cuboid)
said_found w view entries number result cuboid same numbered is at =
    is ∙ (λ i. find (λ (c : StoredCuboid). c.view == numbered i) (same i)) ∙ find_said w.cuboids (index_of view)
    ∙ ap (option_map said_of) at

-- so it is what was found
pub said_is : (w : Warehouse) (view : View) (entries : List StoredCuboid) (number : ℕ) (said : StoredCuboid)
    (cuboid : Cuboid) → entries ≡ map said_of w.cuboids → number ≡ index_of view
    → Some said ≡ find (λ (c : StoredCuboid). c.view == number) entries
    → cuboid_at (index_of view) w.cuboids ≡ Some cuboid → said_of cuboid ≡ said
said_is w view entries number said cuboid same numbered is at =
    let both : Some (said_of cuboid) ≡ Some said =
    sym (said_found w view entries number (Some said) cuboid same numbered is at) in cc
