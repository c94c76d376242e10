-- The keys of a fact row when one more column may have ALL.
use Rattle.std.proofs.Common.{◌≡◌, ◌∙◌, sym, ap, refl, ℕ, zero, suc, ◌<◌, Bool, true, false, List, [], ◌∷◌, map, length}
use Rattle.std.proofs.Common.{get_or, slice_set, arith}
use Rattle.std.specs.Prelude.{◌||◌, ◌&&◌}
use Rattle.std.specs.List.{list_any, AllByRecursion}
use Rattle.std.proofs.lemmas.List.{map-append}
use Rattle.std.proofs.lemmas.List.Folds.{list_any-append}
use Rattle.cube_model.specs.Attributes.{attribute_of}
use Rattle.cube_model.specs.Keys.{GroupingSet, beginnings, key_under, subsets}
use Rattle.cube_model.specs.declared.answer.Member.{Member}
use Rattle.cube_model.specs.declared.answer.Member.TheVariants.{All, Text}
use Rattle.cube_model.specs.declared.attr.Attr.{Attr}
use Rattle.cube_model.specs.declared.query.Kind.{Kind}
use Rattle.cube_model.specs.declared.query.Kind.TheVariants.{Plain, Rollup, Cube}
use Rattle.cube_model.specs.declared.rows.DimRows.{DimRows}
use Rattle.cube_model.specs.declared.rows.LineOrder.{LineOrder}
use Rattle.group_numbers.specs.Columns.{attr_at}
use Rattle.cube_model.specs.Keys.{is_all}
use Rattle.group_tallies.specs.Coarser.{sets_from, keys_from, leads}

pub any-map : {X Y : Type 0} (p : Y → Bool) (f : X → Y) (xs : List X)
    → list_any p (map f xs) ≡ list_any (λ x. p (f x)) xs
any-map p f [] = refl
any-map p f (x ∷ xs) = ap (λ b. p (f x) || b) (any-map p f xs)

any-none : {X : Type 0} (xs : List X) → list_any (λ x. false) xs ≡ false
any-none [] = refl
any-none (x ∷ xs) = any-none xs

or-false : (b : Bool) → (b || false) ≡ b
or-false true = refl
or-false false = refl

or-or : (a b : Bool) → (a || (a || b)) ≡ (a || b)
or-or true b = refl
or-or false b = refl

or-turned : (a b : Bool) → (a || b) ≡ (b || a)
or-turned true true = refl
or-turned true false = refl
or-turned false true = refl
or-turned false false = refl

map-twice : {X Y Z : Type 0} (g : Y → Z) (f : X → Y) (xs : List X) → map g (map f xs) ≡ map (λ x. g (f x)) xs
map-twice g f [] = refl
map-twice g f (x ∷ xs) = ap (λ rest. g (f x) ∷ rest) (map-twice g f xs)

module _ (dimensions : DimRows) (row : LineOrder) where
  abbrev pub text_on : Attr → Member
  text_on column = Text (attribute_of dimensions column row)

  -- the keys in which the first column is grouped
  keys-grouped : (column : Attr) (columns : List Attr) (sets : List GroupingSet)
      → map (key_under dimensions row (column ∷ columns)) (map (λ grouping. true ∷ grouping) sets)
      ≡ map (λ key. text_on column ∷ key) (map (key_under dimensions row columns) sets)
  keys-grouped column columns [] = refl
  keys-grouped column columns (grouping ∷ sets) =
      ap (λ rest. (text_on column ∷ key_under dimensions row columns grouping) ∷ rest)
      (keys-grouped column columns sets)

  keys-all : (column : Attr) (columns : List Attr) (sets : List GroupingSet)
      → map (key_under dimensions row (column ∷ columns)) (map (λ grouping. false ∷ grouping) sets)
      ≡ map (λ key. All ∷ key) (map (key_under dimensions row columns) sets)
  keys-all column columns [] = refl
  keys-all column columns (grouping ∷ sets) =
      ap (λ rest. (All ∷ key_under dimensions row columns grouping) ∷ rest) (keys-all column columns sets)

  any-grouped : (p : List Member → Bool) (column : Attr) (columns : List Attr) (sets : List GroupingSet)
      → list_any p (map (key_under dimensions row (column ∷ columns)) (map (λ grouping. true ∷ grouping) sets))
      ≡ list_any (λ key. p (text_on column ∷ key)) (map (key_under dimensions row columns) sets)
  any-grouped p column columns sets =
      ap (list_any p) (keys-grouped column columns sets)
      ∙ any-map p (λ key. text_on column ∷ key) (map (key_under dimensions row columns) sets)

  any-all : (p : List Member → Bool) (column : Attr) (columns : List Attr) (sets : List GroupingSet)
      → list_any p (map (key_under dimensions row (column ∷ columns)) (map (λ grouping. false ∷ grouping) sets))
      ≡ list_any (λ key. p (All ∷ key)) (map (key_under dimensions row columns) sets)
  any-all p column columns sets =
      ap (list_any p) (keys-all column columns sets)
      ∙ any-map p (λ key. All ∷ key) (map (key_under dimensions row columns) sets)

  -- the key with ALL everywhere
  abbrev total_key : List Attr → List Member
  total_key columns = key_under dimensions row columns (map (λ _. false) columns)

  -- of the beginnings of columns one alone has ALL at the first
  one_total : (p : List Member → Bool) (columns : List Attr)
      → list_any (λ key. is_all (get_or key 0 All) && p key)
      (map (key_under dimensions row columns) (beginnings columns)) ≡ p (total_key columns)
  one_total p [] = or-false (p [])
  one_total p (column ∷ columns) =
      ap (λ b. p (total_key (column ∷ columns)) || b)
      (any-grouped (λ key. is_all (get_or key 0 All) && p key) column columns (beginnings columns)
      ∙ any-none (map (key_under dimensions row columns) (beginnings columns)))
      ∙ or-false (p (total_key (column ∷ columns)))

  -- the keys from one column on are those from the next on, and those of them that lead, with ALL there
  pub stage : (kind : Kind) (i : ℕ) (columns : List Attr) → i < length columns → (p : List Member → Bool)
      → list_any p (keys_from dimensions kind i columns row)
      ≡ (list_any p (keys_from dimensions kind (suc i) columns row) || list_any
      (λ key. leads kind i key && p (slice_set key i All)) (keys_from dimensions kind (suc i) columns row))
  stage kind i [] h p = absurd (omega (arith, h))
  stage Plain zero (column ∷ columns) h p =
      sym (ap (λ b. list_any p (keys_from dimensions Plain 0 (column ∷ columns) row) || b)
      (any-none (keys_from dimensions Plain 1 (column ∷ columns) row)) ∙ or-false _)
  stage Cube zero (column ∷ columns) h p =
      let grouped = map (λ (grouping : GroupingSet). true ∷ grouping) (subsets columns) in
      let others = map (λ (grouping : GroupingSet). false ∷ grouping) (subsets columns) in
      ap (list_any p) (map-append (key_under dimensions row (column ∷ columns)) grouped others)
      ∙ list_any-append p (map (key_under dimensions row (column ∷ columns)) grouped)
      (map (key_under dimensions row (column ∷ columns)) others)
      ∙ ap (λ b. list_any p (map (key_under dimensions row (column ∷ columns)) grouped) || b)
      (any-all p column columns (subsets columns)
      ∙ sym (any-grouped (λ key. p (slice_set key 0 All)) column columns (subsets columns)))
  stage Rollup zero (column ∷ columns) h p =
      let grouped =
      map (key_under dimensions row (column ∷ columns))
      (map (λ (grouping : GroupingSet). true ∷ grouping) (beginnings columns)) in
      or-turned (p (total_key (column ∷ columns))) (list_any p grouped)
      ∙ ap (λ b. list_any p grouped || b)
      (sym (any-grouped (λ key. leads Rollup 0 key && p (slice_set key 0 All)) column columns (beginnings columns)
      ∙ one_total (λ key. p (All ∷ key)) columns))
  stage kind (suc i) (column ∷ columns) h p =
      any-grouped p column columns (sets_from kind i columns)
      ∙ stage kind i columns (omega (arith, h)) (λ key. p (text_on column ∷ key))
      ∙ (λ j. sym (any-grouped p column columns (sets_from kind (suc i) columns)) j
      || (sym (any-grouped (λ key. leads kind (suc i) key && p (slice_set key (suc i) All)) column columns
      (sets_from kind (suc i) columns)
      ∙ alike kind i column columns p)) j)
    where
      alike : (kind : Kind) (i : ℕ) (column : Attr) (columns : List Attr) (p : List Member → Bool)
          → list_any (λ key. leads kind (suc i) (text_on column ∷ key) && p
          (slice_set (text_on column ∷ key) (suc i) All)) (keys_from dimensions kind (suc i) columns row)
          ≡ list_any (λ key. leads kind i key && p (text_on column ∷ slice_set key i All))
          (keys_from dimensions kind (suc i) columns row)
      alike Plain i column columns p = refl
      alike Rollup i column columns p = refl
      alike Cube i column columns p = refl

  -- from one column on, the key has a text before it
  pub text_before : (kind : Kind) (i : ℕ) (columns : List Attr) → i < length columns
      → AllByRecursion (λ key. get_or key i All ≡ text_on (attr_at columns i))
      (keys_from dimensions kind (suc i) columns row)
  text_before kind i [] h = absurd (omega (arith, h))
  text_before kind zero (column ∷ columns) h = grouped (sets_from kind 0 columns)
    where
      grouped : (sets : List GroupingSet)
          → AllByRecursion (λ key. get_or key 0 All ≡ text_on column)
          (map (key_under dimensions row (column ∷ columns)) (map (λ grouping. true ∷ grouping) sets))
      grouped [] = tt
      grouped (grouping ∷ sets) = (refl, grouped sets)
  text_before kind (suc i) (column ∷ columns) h =
      deeper (sets_from kind (suc i) columns) (text_before kind i columns (omega (arith, h)))
    where
      deeper : (sets : List GroupingSet)
          → AllByRecursion (λ key. get_or key i All ≡ text_on (attr_at columns i))
          (map (key_under dimensions row columns) sets)
          → AllByRecursion (λ key. get_or key (suc i) All ≡ text_on (attr_at columns i))
          (map (key_under dimensions row (column ∷ columns)) (map (λ grouping. true ∷ grouping) sets))
      deeper [] all = tt
      deeper (grouping ∷ sets) all = (all.0, deeper sets all.1)

-- from the place after the last column on there is the finest grouping alone
pub finest_sets : (kind : Kind) (columns : List Attr)
    → sets_from kind (length columns) columns ≡ map (λ _. true) columns ∷ []
finest_sets Plain [] = refl
finest_sets Rollup [] = refl
finest_sets Cube [] = refl
finest_sets kind (column ∷ columns) = ap (map (λ grouping. true ∷ grouping)) (finest_sets kind columns)
