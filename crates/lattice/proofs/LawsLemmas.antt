-- Lemmas of `laws`, by subject.
use Rattle.std.proofs.Common.{◌≡◌, ℕ, ◌≤◌, ◌<◌, ◌^◌, ◌==◌, Bool, true, false, cond, List, [], ◌∷◌, Option, Some, None}
use Rattle.std.proofs.Common.{refl, sym, ap, subst, ◌∙◌, arith, ◌↔◌, ◌&&◌, ◌||◌, not, IsTrue}
use Rattle.std.specs.Prelude.{find}
use Rattle.std.specs.List.{AllByRecursion}
use Rattle.std.specs.Option.{option_and_then}
use Rattle.std.specs.Fmt.{decimal}
use Rattle.std.proofs.lemmas.Fmt.{decimal_injective}
use Rattle.std.proofs.lemmas.Bool.{eqb-true, leb-true, le-leb}
use Rattle.std.proofs.lemmas.Option.{option_and_then_some, same_Some, none-some}
use Rattle.cube_model.specs.declared.attr.Attr.{Attr}
use Rattle.cube_model.specs.declared.attr.Attr.TheVariants.{CustomerCity, CustomerNation, CustomerRegion, SupplierCity}
use Rattle.cube_model.specs.declared.attr.Attr.TheVariants.{SupplierNation, SupplierRegion, PartBrand1, PartCategory}
use Rattle.cube_model.specs.declared.attr.Attr.TheVariants.{PartMfgr, DateKey, DateYearmonthnum, DateYear}
use Rattle.cube_model.specs.declared.attr.Attr.TheVariants.{DateYearmonth, DateWeeknuminyear}
use Rattle.cube_model.specs.declared.attr.Axis.TheVariants.{Date, Customer, Supplier, Part}
use Rattle.cube_model.specs.declared.rows.CustomerRow.{CustomerRow}
use Rattle.cube_model.specs.declared.rows.SupplierRow.{SupplierRow}
use Rattle.cube_model.specs.declared.rows.PartRow.{PartRow}
use Rattle.cube_model.specs.declared.rows.DateRow.{DateRow}
use Rattle.cube_model.specs.declared.rows.DimRows.{DimRows}
use Rattle.cube_model.specs.Attributes.{axis_of, attribute_at, customer_of, supplier_of, part_of, date_of}
use Rattle.cube_model.specs.Lawful.{EachPair, KeepAllRules}
use Rattle.lattice.specs.declared.level.Level.{Level}
use Rattle.lattice.specs.declared.level.Level.TheVariants.{Lowest, Middle, Highest}
use Rattle.lattice.specs.Determined.{highest_level, member_at, Determines, Decides, Serves}
use Rattle.lattice.specs.Levels.{height}
use Rattle.lattice.specs.declared.view.View.{View}
use Rattle.lattice.specs.Views.{mode_number, index_of, Answers, answers, level_on}
use Rattle.cube_model.specs.declared.attr.Axis.{Axis}
use Rattle.cube_model.specs.declared.query.Cond.{Cond}
use Rattle.cube_model.specs.declared.query.Cond.TheVariants.{OneOf, Between, Quantity, Discount}
use Rattle.cube_model.specs.declared.query.Query.{Query}
use Rattle.lattice.specs.Laws.{IndexesNameViews}
use Rattle.lattice.proofs.Places.{index_below, one_view, place_of}

-- ==== In valid dimension rows the member of a level tells the attributes that the table gives to the level.

module _ {Row : Type 0} where
  -- what holds of each row holds of one that is found
  found_all : (P : Row → Type 0) (rows : List Row) (p : Row → Bool) (a : Row) → AllByRecursion P rows
      → find p rows ≡ Some a → P a
  found_all P [] p a all is = absurd (none-some a is)
  found_all P (row ∷ rows) p a all is = go (p row) refl (found_all P rows p a all.1)
    where
      go : (b : Bool) → p row ≡ b → (find p rows ≡ Some a → P a) → P a
      go true e later = subst P (same_Some row a (sym (ap (λ b. cond b (Some row) (find p rows)) e) ∙ is)) all.0
      go false e later = later (sym (ap (λ b. cond b (Some row) (find p rows)) e) ∙ is)

  -- of two rows that are found, a text of the one is that of the other where a text that determines it is
  link_found : (f g : Row → List ℕ) (rows : List Row) (p q : Row → Bool) (a b : Row)
      → EachPair (λ row other. f row ≡ f other → g row ≡ g other) rows
      → find p rows ≡ Some a → find q rows ≡ Some b → f a ≡ f b → g a ≡ g b
  link_found f g [] p q a b pairs at_p at_q same = absurd (none-some a at_p)
  link_found f g (row ∷ rows) p q a b pairs at_p at_q same =
      go (p row) (q row) refl refl (link_found f g rows p q a b pairs.1)
    where
      go : (m n : Bool) → p row ≡ m → q row ≡ n
          → (find p rows ≡ Some a → find q rows ≡ Some b → f a ≡ f b → g a ≡ g b) → g a ≡ g b
      go true true e1 e2 later =
          let first : row ≡ a = same_Some row a (sym (ap (λ b. cond b (Some row) (find p rows)) e1) ∙ at_p) in
          let second : row ≡ b = same_Some row b (sym (ap (λ b. cond b (Some row) (find q rows)) e2) ∙ at_q) in
          ap g (sym first ∙ second)
      go true false e1 e2 later =
          let first : row ≡ a = same_Some row a (sym (ap (λ b. cond b (Some row) (find p rows)) e1) ∙ at_p) in
          let after : find q rows ≡ Some b = sym (ap (λ b. cond b (Some row) (find q rows)) e2) ∙ at_q in
          sym (ap g first) ∙ found_all (λ other. f row ≡ f other → g row ≡ g other) rows q b pairs.0 after
          (ap f first ∙ same)
      go false true e1 e2 later =
          let after : find p rows ≡ Some a = sym (ap (λ b. cond b (Some row) (find p rows)) e1) ∙ at_p in
          let second : row ≡ b = same_Some row b (sym (ap (λ b. cond b (Some row) (find q rows)) e2) ∙ at_q) in
          sym (found_all (λ other. f row ≡ f other → g row ≡ g other) rows p a pairs.0 after (ap f second ∙ sym same))
          ∙ ap g second
      go false false e1 e2 later =
          later (sym (ap (λ b. cond b (Some row) (find p rows)) e1) ∙ at_p)
          (sym (ap (λ b. cond b (Some row) (find q rows)) e2) ∙ at_q) same

  -- the same of the texts, where the rows are there
  linked : (f g : Row → List ℕ) (one two : Option Row) (member : List ℕ)
      → ((a b : Row) → one ≡ Some a → two ≡ Some b → f a ≡ f b → g a ≡ g b)
      → option_and_then (λ row. Some (f row)) one ≡ Some member
      → option_and_then (λ row. Some (f row)) two ≡ Some member
      → option_and_then (λ row. Some (g row)) one ≡ option_and_then (λ row. Some (g row)) two
  linked f g None two member step at_one at_two = absurd (none-some member at_one)
  linked f g (Some a) None member step at_one at_two = absurd (none-some member at_two)
  linked f g (Some a) (Some b) member step at_one at_two =
      ap Some (step a b refl refl (same_Some (f a) member at_one ∙ sym (same_Some (f b) member at_two)))

  -- the row that is found has what was looked for
  found_key : (key : Row → ℕ) (rows : List Row) (n : ℕ) (a : Row) → find (λ row. key row == n) rows ≡ Some a → key a ≡ n
  found_key key [] n a is = absurd (none-some a is)
  found_key key (row ∷ rows) n a is = go (key row == n) refl (found_key key rows n a)
    where
      go : (b : Bool) → (key row == n) ≡ b → (find (λ row. key row == n) rows ≡ Some a → key a ≡ n) → key a ≡ n
      go true e later =
          let here : row ≡ a =
          same_Some row a (sym (ap (λ b. cond b (Some row) (find (λ row. key row == n) rows)) e) ∙ is) in
          ap key (sym here) ∙ eqb-true (key row) n e
      go false e later = later (sym (ap (λ b. cond b (Some row) (find (λ row. key row == n) rows)) e) ∙ is)

-- a day is its key
same_day : (dimensions : DimRows) (key other : ℕ) (member : List ℕ) → key < 2 ^ 64 → other < 2 ^ 64
    → attribute_at dimensions Date key DateKey ≡ Some member → attribute_at dimensions Date other DateKey ≡ Some member
    → key ≡ other
same_day dimensions key other member small other_small at_key at_other =
    option_and_then_some (λ (row : DateRow). Some (decimal row.key)) (date_of dimensions key) member at_key
    (λ a found_a is_a.
    option_and_then_some (λ (row : DateRow). Some (decimal row.key)) (date_of dimensions other) member at_other
    (λ b found_b is_b.
    let key_a : a.key ≡ key = found_key (λ row. row.key) dimensions.dates key a found_a in
    let key_b : b.key ≡ other = found_key (λ row. row.key) dimensions.dates other b found_b in
    let texts : decimal key ≡ decimal other =
    ap decimal (sym key_a) ∙ same_Some (decimal a.key) member is_a ∙ sym (same_Some (decimal b.key) member is_b)
    ∙ ap decimal key_b in
    decimal_injective key other small other_small texts))

module _ (dimensions : DimRows) (keep : KeepAllRules dimensions) (key other : ℕ) (small : key < 2 ^ 64)
    (other_small : other < 2 ^ 64) (member : List ℕ) where
  -- the member of a level tells an attribute
  pub tells : (attr : Attr) (level : Level) → height level ≤ height (highest_level attr)
      → member_at dimensions (axis_of attr) level key ≡ Some member
      → member_at dimensions (axis_of attr) level other ≡ Some member
      → attribute_at dimensions (axis_of attr) key attr ≡ attribute_at dimensions (axis_of attr) other attr
  tells CustomerCity Lowest low at_key at_other = at_key ∙ sym at_other
  tells CustomerNation Lowest low at_key at_other =
      linked (λ (row : CustomerRow). row.city) (λ row. row.nation) (customer_of dimensions key)
      (customer_of dimensions other) member
      (λ a b at_a at_b same. link_found (λ row. row.city) (λ row. row.nation) dimensions.customers
      (λ row. row.key == key) (λ row. row.key == other) a b keep.customers.one_upper.0 at_a at_b same) at_key
      at_other
  tells CustomerNation Middle low at_key at_other = at_key ∙ sym at_other
  tells CustomerRegion Lowest low at_key at_other =
      linked (λ (row : CustomerRow). row.city) (λ row. row.region) (customer_of dimensions key)
      (customer_of dimensions other) member
      (λ a b at_a at_b same. link_found (λ row. row.nation) (λ row. row.region) dimensions.customers
      (λ row. row.key == key) (λ row. row.key == other) a b keep.customers.one_upper.1.0 at_a at_b
      (link_found (λ row. row.city) (λ row. row.nation) dimensions.customers (λ row. row.key == key)
      (λ row. row.key == other) a b keep.customers.one_upper.0 at_a at_b same)) at_key at_other
  tells CustomerRegion Middle low at_key at_other =
      linked (λ (row : CustomerRow). row.nation) (λ row. row.region) (customer_of dimensions key)
      (customer_of dimensions other) member
      (λ a b at_a at_b same. link_found (λ row. row.nation) (λ row. row.region) dimensions.customers
      (λ row. row.key == key) (λ row. row.key == other) a b keep.customers.one_upper.1.0 at_a at_b same) at_key
      at_other
  tells CustomerRegion Highest low at_key at_other = at_key ∙ sym at_other
  tells SupplierCity Lowest low at_key at_other = at_key ∙ sym at_other
  tells SupplierNation Lowest low at_key at_other =
      linked (λ (row : SupplierRow). row.city) (λ row. row.nation) (supplier_of dimensions key)
      (supplier_of dimensions other) member
      (λ a b at_a at_b same. link_found (λ row. row.city) (λ row. row.nation) dimensions.suppliers
      (λ row. row.key == key) (λ row. row.key == other) a b keep.suppliers.one_upper.0 at_a at_b same) at_key
      at_other
  tells SupplierNation Middle low at_key at_other = at_key ∙ sym at_other
  tells SupplierRegion Lowest low at_key at_other =
      linked (λ (row : SupplierRow). row.city) (λ row. row.region) (supplier_of dimensions key)
      (supplier_of dimensions other) member
      (λ a b at_a at_b same. link_found (λ row. row.nation) (λ row. row.region) dimensions.suppliers
      (λ row. row.key == key) (λ row. row.key == other) a b keep.suppliers.one_upper.1.0 at_a at_b
      (link_found (λ row. row.city) (λ row. row.nation) dimensions.suppliers (λ row. row.key == key)
      (λ row. row.key == other) a b keep.suppliers.one_upper.0 at_a at_b same)) at_key at_other
  tells SupplierRegion Middle low at_key at_other =
      linked (λ (row : SupplierRow). row.nation) (λ row. row.region) (supplier_of dimensions key)
      (supplier_of dimensions other) member
      (λ a b at_a at_b same. link_found (λ row. row.nation) (λ row. row.region) dimensions.suppliers
      (λ row. row.key == key) (λ row. row.key == other) a b keep.suppliers.one_upper.1.0 at_a at_b same) at_key
      at_other
  tells SupplierRegion Highest low at_key at_other = at_key ∙ sym at_other
  tells PartBrand1 Lowest low at_key at_other = at_key ∙ sym at_other
  tells PartCategory Lowest low at_key at_other =
      linked (λ (row : PartRow). row.brand1) (λ row. row.category) (part_of dimensions key) (part_of dimensions other)
      member
      (λ a b at_a at_b same. link_found (λ row. row.brand1) (λ row. row.category) dimensions.parts
      (λ row. row.key == key) (λ row. row.key == other) a b keep.parts.one_upper.0 at_a at_b same) at_key at_other
  tells PartCategory Middle low at_key at_other = at_key ∙ sym at_other
  tells PartMfgr Lowest low at_key at_other =
      linked (λ (row : PartRow). row.brand1) (λ row. row.mfgr) (part_of dimensions key) (part_of dimensions other)
      member
      (λ a b at_a at_b same. link_found (λ row. row.category) (λ row. row.mfgr) dimensions.parts (λ row. row.key == key)
      (λ row. row.key == other) a b keep.parts.one_upper.1.0 at_a at_b
      (link_found (λ row. row.brand1) (λ row. row.category) dimensions.parts (λ row. row.key == key)
      (λ row. row.key == other) a b keep.parts.one_upper.0 at_a at_b same)) at_key at_other
  tells PartMfgr Middle low at_key at_other =
      linked (λ (row : PartRow). row.category) (λ row. row.mfgr) (part_of dimensions key) (part_of dimensions other)
      member
      (λ a b at_a at_b same. link_found (λ row. row.category) (λ row. row.mfgr) dimensions.parts (λ row. row.key == key)
      (λ row. row.key == other) a b keep.parts.one_upper.1.0 at_a at_b same) at_key at_other
  tells PartMfgr Highest low at_key at_other = at_key ∙ sym at_other
  tells DateKey Lowest low at_key at_other = at_key ∙ sym at_other
  tells DateWeeknuminyear Lowest low at_key at_other =
      ap (λ n. attribute_at dimensions Date n DateWeeknuminyear)
      (same_day dimensions key other member small other_small at_key at_other)
  tells DateYearmonthnum Lowest low at_key at_other =
      ap (λ n. attribute_at dimensions Date n DateYearmonthnum)
      (same_day dimensions key other member small other_small at_key at_other)
  tells DateYearmonthnum Middle low at_key at_other = at_key ∙ sym at_other
  tells DateYearmonth Lowest low at_key at_other =
      ap (λ n. attribute_at dimensions Date n DateYearmonth)
      (same_day dimensions key other member small other_small at_key at_other)
  tells DateYearmonth Middle low at_key at_other =
      linked (λ (row : DateRow). row.yearmonthnum) (λ row. row.yearmonth) (date_of dimensions key)
      (date_of dimensions other) member
      (λ a b at_a at_b same. link_found (λ row. row.yearmonthnum) (λ row. row.yearmonth) dimensions.dates
      (λ row. row.key == key) (λ row. row.key == other) a b keep.dates.one_upper.1.0 at_a at_b same) at_key at_other
  tells DateYear Lowest low at_key at_other =
      ap (λ n. attribute_at dimensions Date n DateYear)
      (same_day dimensions key other member small other_small at_key at_other)
  tells DateYear Middle low at_key at_other =
      linked (λ (row : DateRow). row.yearmonthnum) (λ row. row.year) (date_of dimensions key) (date_of dimensions other)
      member
      (λ a b at_a at_b same. link_found (λ row. row.yearmonthnum) (λ row. row.year) dimensions.dates
      (λ row. row.key == key) (λ row. row.key == other) a b keep.dates.one_upper.0 at_a at_b same) at_key at_other
  tells DateYear Highest low at_key at_other = at_key ∙ sym at_other
  tells _ _ low at_key at_other = absurd (omega (arith, low))

-- ==== The laws of the relation that a view answers another.

pub answers_itself : (view : View) → Answers view view
answers_itself view =
    record {
      customer = omega arith;
      supplier = omega arith;
      part = omega arith;
      date = omega arith;
      ship_mode =
          λ h. h;
    }

pub answers_through : (view between other : View) → Answers view between → Answers between other → Answers view other
answers_through view between other first second = record {
  customer = omega (arith, first.customer, second.customer);
  supplier = omega (arith, first.supplier, second.supplier);
  part = omega (arith, first.part, second.part);
  date = omega (arith, first.date, second.date);
  ship_mode = λ h. first.ship_mode (second.ship_mode h);
}

same_mode : (m n : Bool) → (n ≡ true → m ≡ true) → (m ≡ true → n ≡ true) → mode_number m ≡ mode_number n
same_mode false false f g = refl
same_mode true true f g = refl
same_mode true false f g = ap mode_number (sym (g refl))
same_mode false true f g = ap mode_number (f refl)

pub same_index : (view other : View) → Answers view other → Answers other view → index_of view ≡ index_of other
same_index view other up down =
    let modes : mode_number view.ship_mode ≡ mode_number other.ship_mode =
    same_mode view.ship_mode other.ship_mode up.ship_mode down.ship_mode in
    let c : height view.customer ≡ height other.customer = omega (arith, up.customer, down.customer) in
    let s : height view.supplier ≡ height other.supplier = omega (arith, up.supplier, down.supplier) in
    let p : height view.part ≡ height other.part = omega (arith, up.part, down.part) in
    let d : height view.date ≡ height other.date = omega (arith, up.date, down.date) in
    omega (arith, modes, c, s, p, d)

-- what a test tells
both_true : (a b : Bool) → (a && b) ≡ true → (a ≡ true) × (b ≡ true)
both_true true b h = (refl, h)
both_true false b h = absurd (grind (arith, h))

mode_found : (m n : Bool) → (m || not n) ≡ true → n ≡ true → m ≡ true
mode_found true n h e = refl
mode_found false true h e = h
mode_found false false h e = e

mode_tells : (m n : Bool) → (n ≡ true → m ≡ true) → (m || not n) ≡ true
mode_tells true n h = refl
mode_tells false true h = h refl
mode_tells false false h = refl

-- the test tells whether a view answers another
pub answers_decided : (view other : View) → IsTrue (answers view other) ↔ Answers view other
answers_decided view other = (
  λ decided.
      let c = both_true _ _ decided in
      let s = both_true _ _ c.1 in
      let p = both_true _ _ s.1 in
      let d = both_true _ _ p.1 in
      record {
        customer = leb-true _ _ c.0;
        supplier = leb-true _ _ s.0;
        part = leb-true _ _ p.0;
        date = leb-true _ _ d.0;
        ship_mode = mode_found view.ship_mode other.ship_mode d.1;
      },
  λ facts.
      rw (le-leb _ _ facts.customer, le-leb _ _ facts.supplier, le-leb _ _ facts.part, le-leb _ _ facts.date)
      (mode_tells view.ship_mode other.ship_mode facts.ship_mode),
)

-- ==== A view that answers another serves what the other serves.

level_lower : (view other : View) → Answers view other → (axis : Axis)
    → height (level_on axis view) ≤ height (level_on axis other)
level_lower view other up Customer = up.customer
level_lower view other up Supplier = up.supplier
level_lower view other up Part = up.part
level_lower view other up Date = up.date

determines_below : (view other : View) → Answers view other → (attr : Attr) → Determines other attr
    → Determines view attr
determines_below view other up attr h = let lower = level_lower view other up (axis_of attr) in omega (arith, lower, h)

decides_below : (view other : View) → Answers view other → (condition : Cond) → Decides other condition
    → Decides view condition
decides_below view other up (OneOf attr texts) h = determines_below view other up attr h
decides_below view other up (Between attr low high) h = determines_below view other up attr h
decides_below view other up (Quantity low high) h = absurd h
decides_below view other up (Discount low high) h = absurd h

all_below : {X : Type 0} {P Q : X → Type 0} → ((x : X) → P x → Q x) → (xs : List X) → AllByRecursion P xs
    → AllByRecursion Q xs
all_below h [] all = tt
all_below h (x ∷ xs) all = (h x all.0, all_below h xs all.1)

pub serves_below : (view other : View) (query : Query) → Answers view other → Serves other query → Serves view query
serves_below view other query up served = record {
  columns = all_below (determines_below view other up) query.columns served.columns;
  conditions = all_below (decides_below view other up) query.conditions served.conditions;
}

-- the law of indexes, as callers cite it
pub indexes_name_views : IndexesNameViews
indexes_name_views = record { place = place_of; below = index_below; one_view = one_view }
