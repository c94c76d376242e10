-- Words spell no two queries.
use Rattle.std.proofs.Common.{◌≡◌, inl, inr, ℕ, List, [], ◌∷◌, Option, None, Some, codes, refl, sym, ap, subst, ◌∙◌}
use Rattle.std.proofs.Common.{arith, length, ◌≤◌}
use Rattle.std.specs.Prelude.{IfSome}
use Rattle.std.specs.List.{flat_map, position}
use Rattle.cube_model.specs.declared.attr.Attr.{Attr}
use Rattle.cube_model.specs.declared.measure.Agg.{Agg}
use Rattle.cube_model.specs.declared.query.Cond.{Cond}
use Rattle.cube_model.specs.declared.query.Cond.TheVariants.{OneOf, Between, Quantity, Discount}
use Rattle.cube_model.specs.declared.query.Kind.{Kind}
use Rattle.mode_queries.specs.declared.query.ModeCond.{ModeCond}
use Rattle.mode_queries.specs.declared.query.ModeCond.TheVariants as modes
use Rattle.mode_queries.specs.declared.query.ModeQuery.{ModeQuery}
use Rattle.mode_queries.specs.Lawful.{without_modes}
use Rattle.mode_queries.specs.Names.{ship_mode_name}
use Rattle.ssb_reports.specs.Benchmark.{benchmark_query, query_number_text}
use Rattle.query_words.specs.declared.cube_parts.Condition.{Condition}
use Rattle.query_words.specs.declared.cube_parts.Condition.TheVariants.{Dimension, Modes}
use Rattle.query_words.specs.declared.known.Column.{Column}
use Rattle.query_words.specs.Known.{column_name}
use Rattle.query_words.specs.Parts.{attribute_in, dimensions_in, is_ship_mode, mode_conditions_in}
use Rattle.query_words.specs.Spelled.{AreNamed}
use Rattle.query_words.specs.Words.{SpellsBounds, SpellsAggregate, SpellsAggregates, SpellsBenchmark, SpellsColumns}
use Rattle.query_words.specs.Words.{SpellConditions, SpellsCondition, SpellsCube, SpellsKind, SpellsMembers}
use Rattle.query_words.specs.Words.{SpellsQuery, Words}
use Rattle.query_words.specs.Words.{condition_name, condition_sign, parts_by}
use Rattle.query_words.proofs.Apart.{agg_once, attr_once, column_once, kind_once, map_once, no_ship_mode, number_once}
use Rattle.query_words.proofs.Apart.{zip_once}
use Rattle.query_words.proofs.Cutting.{neither, same_cut}
use Rattle.query_words.proofs.Ends.{no_such_number}
use Rattle.query_words.proofs.Placed.{attributes_back, columns_with, named_with, place_back}
use Rattle.query_words.proofs.Shapes.{apart, condition_mark, plain_condition}

bounds_once : (text : List ℕ) (low high from to : ℕ) → SpellsBounds text low high → SpellsBounds text from to
    → (low ≡ from) × (high ≡ to)
bounds_once text low high from to one other =
    let texts : one.low_text ∷ one.high_text ∷ [] ≡ other.low_text ∷ other.high_text ∷ [] = sym one.parts
    ∙ other.parts in
    let lows : one.low_text ≡ other.low_text = cc in
    let highs : one.high_text ≡ other.high_text = cc in
    let low_is = one.low_is.value in
    let from_is = other.low_is.value in
    let high_is = one.high_is.value in
    let to_is = other.high_is.value in
    (cc (lows, low_is, from_is), cc (highs, high_is, to_is))

members_once : (members : List ℕ) (one other : Cond)
    → condition_name (Dimension one) ≡ condition_name (Dimension other)
    → condition_sign (Dimension one) ≡ condition_sign (Dimension other) → SpellsMembers members (Dimension one)
    → SpellsMembers members (Dimension other) → one ≡ other
members_once members (OneOf attr texts) (OneOf other list) names signs spells spelled = let same : attr ≡ other =
    attr_once attr other
    names in let lists : texts ≡ list = spells ∙ sym spelled in cc (same, lists)
members_once members (OneOf attr texts) (Between other low high) names signs spells spelled =
    absurd (omega (arith, signs))
members_once members (OneOf attr texts) (Quantity low high) names signs spells spelled = absurd (omega (arith, signs))
members_once members (OneOf attr texts) (Discount low high) names signs spells spelled = absurd (omega (arith, signs))
members_once members (Between attr low high) (OneOf other list) names signs spells spelled =
    absurd (omega (arith, signs))
members_once members (Between attr low high) (Between other from to) names signs spells spelled =
    let same : attr ≡ other = attr_once attr other names in
    let ends : low ∷ high ∷ [] ≡ from ∷ to ∷ [] = spells ∙ sym spelled in
    cc (same, ends)
members_once members (Between attr low high) (Quantity from to) names signs spells spelled =
    absurd ((no_such_number attr).0 names)
members_once members (Between attr low high) (Discount from to) names signs spells spelled =
    absurd ((no_such_number attr).1 names)
members_once members (Quantity low high) (OneOf other list) names signs spells spelled = absurd (omega (arith, signs))
members_once members (Quantity low high) (Between other from to) names signs spells spelled =
    absurd ((no_such_number other).0 (sym names))
members_once members (Quantity low high) (Quantity from to) names signs spells spelled = let ends =
    bounds_once members low high from to
    spells spelled in let lows : low ≡ from = ends.0 in let highs : high ≡ to = ends.1 in cc (lows, highs)
members_once members (Quantity low high) (Discount from to) names signs spells spelled =
    absurd (apart (codes "quantity")
    (codes "discount") refl names)
members_once members (Discount low high) (OneOf other list) names signs spells spelled = absurd (omega (arith, signs))
members_once members (Discount low high) (Between other from to) names signs spells spelled =
    absurd ((no_such_number other).1 (sym names))
members_once members (Discount low high) (Quantity from to) names signs spells spelled =
    absurd (apart (codes "discount")
    (codes "quantity") refl names)
members_once members (Discount low high) (Discount from to) names signs spells spelled = let ends =
    bounds_once members low high from to
    spells spelled in let lows : low ≡ from = ends.0 in let highs : high ≡ to = ends.1 in cc (lows, highs)

modes_once : (members : List ℕ) (one other : ModeCond) → condition_sign (Modes one) ≡ condition_sign (Modes other)
    → SpellsMembers members (Modes one) → SpellsMembers members (Modes other) → one ≡ other
modes_once members (modes.OneOf texts) (modes.OneOf list) signs spells spelled =
    let lists : texts ≡ list = spells ∙ sym spelled in
    cc (lists)
modes_once members (modes.OneOf texts) (modes.Between low high) signs spells spelled = absurd (omega (arith, signs))
modes_once members (modes.Between low high) (modes.OneOf texts) signs spells spelled = absurd (omega (arith, signs))
modes_once members (modes.Between low high) (modes.Between from to) signs spells spelled =
    let ends : low ∷ high ∷ [] ≡ from ∷ to ∷ [] = spells ∙ sym spelled in
    cc (ends)

no_mode : (one : Cond) → condition_name (Dimension one) ≡ ship_mode_name → ⊥
no_mode (OneOf attr texts) names = no_ship_mode attr names
no_mode (Between attr low high) names = no_ship_mode attr names
no_mode (Quantity low high) names = apart (codes "quantity") ship_mode_name refl names
no_mode (Discount low high) names = apart (codes "discount") ship_mode_name refl names

either_once : (members : List ℕ) (one other : Condition) → condition_name one ≡ condition_name other
    → condition_sign one ≡ condition_sign other → SpellsMembers members one → SpellsMembers members other → one ≡ other
either_once members (Dimension one) (Dimension other) names signs spells spelled =
    ap (λ (condition : Cond). Dimension condition) (members_once members one other names signs spells spelled)
either_once members (Dimension one) (Modes other) names signs spells spelled = absurd (no_mode one names)
either_once members (Modes one) (Dimension other) names signs spells spelled = absurd (no_mode other (sym names))
either_once members (Modes one) (Modes other) names signs spells spelled =
    ap (λ (condition : ModeCond). Modes condition) (modes_once members one other signs spells spelled)

condition_once : (word : List ℕ) (one other : Condition) → SpellsCondition word one → SpellsCondition word other
    → one ≡ other
condition_once word one other spells spelled =
    let cut = same_cut 61 58 (condition_name one) (condition_name other) (condition_sign one)
    (condition_sign other) spells.members spelled.members (neither 61 58 (condition_name one) (plain_condition one))
    (neither 61 58
    (condition_name other) (plain_condition other)) (condition_mark one) (condition_mark other)
    (sym spells.whole ∙ spelled.whole) in
    either_once spelled.members one other cut.names cut.signs
    (subst (λ (members : List ℕ). SpellsMembers members one) cut.rests
    spells.spelled) spelled.spelled

pub conditions_once : (words : List (List ℕ)) (on others : List Cond) (modes_on modes_others : List ModeCond)
    → SpellConditions words on modes_on → SpellConditions words others modes_others
    → (on ≡ others) × (modes_on ≡ modes_others)
conditions_once words on others modes_on modes_others spells spelled =
    let same : spells.conditions ≡ spelled.conditions = zip_once SpellsCondition condition_once words
    spells.conditions spelled.conditions spells.spelled spelled.spelled in (
      sym spells.dimensions_are ∙ ap (flat_map dimensions_in) same ∙ spelled.dimensions_are,
      sym spells.modes_are ∙ ap (flat_map mode_conditions_in) same ∙ spelled.modes_are,
    )

kinds_once : (set : Option (List ℕ)) (one other : Kind) → SpellsKind set one → SpellsKind set other → one ≡ other
kinds_once None one other spells spelled = spells ∙ sym spelled
kinds_once (Some word) one other spells spelled = kind_once one other (sym spells ∙ spelled)

pub named_once : (by : Option (List ℕ)) (one other : List Column) → AreNamed by one → AreNamed by other → one ≡ other
named_once None one other named names = named ∙ sym names
named_once (Some text) one other named names = map_once column_name column_once one other (named ∙ sym names)

-- columns in the order of their names
pub named_in : (by : Option (List ℕ)) (columns : List Attr) (place : Option ℕ) → SpellsColumns by columns place
    → AreNamed by (columns_with columns place)
named_in None columns place spelled = λ i. columns_with (spelled.0 i) (spelled.1 i)
named_in (Some text) columns place spelled = named_with columns place ∙ spelled.0

is_within : (by : Option (List ℕ)) (columns : List Attr) (place : Option ℕ) → SpellsColumns by columns place
    → IfSome place (λ place. place ≤ length columns)
is_within None columns place spelled = rw (spelled.1) tt
is_within (Some text) columns place spelled = spelled.1

columns_once : (by : Option (List ℕ)) (one other : List Attr) (place at : Option ℕ) → SpellsColumns by one place
    → SpellsColumns by other at → (one ≡ other) × (place ≡ at)
columns_once by one other place at spells spelled =
    let same : columns_with one place ≡ columns_with other at =
    named_once by (columns_with one place) (columns_with other at) (named_in by one place spells)
    (named_in by other at spelled) in (
      sym (attributes_back one place) ∙ ap (flat_map attribute_in) same ∙ attributes_back other at,
      sym (place_back one place (is_within by one place spells)) ∙ ap (position is_ship_mode) same
          ∙ place_back other at (is_within by other at spelled),
    )

aggregates_once : (agg : Option (List ℕ)) (one other : List Agg) → SpellsAggregates agg one → SpellsAggregates agg other
    → one ≡ other
aggregates_once None one other spells spelled = absurd spells
aggregates_once (Some text) one other spells spelled =
    zip_once SpellsAggregate agg_once (parts_by 44 text) one other spells.1 spelled.1

cube_once : (words : Words) (one other : ModeQuery) → SpellsCube words one → SpellsCube words other → one ≡ other
cube_once words one other spells spelled =
    let kind = kinds_once words.set one.query.kind other.query.kind spells.kind spelled.kind in
    let columns = columns_once words.by one.query.columns other.query.columns one.place other.place spells.columns
    spelled.columns in
    let conditions = conditions_once words.conditions one.query.conditions other.query.conditions one.conditions
    other.conditions spells.conditions spelled.conditions in
    let aggregates = aggregates_once words.agg one.query.aggregates other.query.aggregates spells.aggregates
    spelled.aggregates in
    let order = spells.no_order ∙ sym spelled.no_order in
    λ i. record {
      query = record {
        kind = kind i;
        columns = columns.0 i;
        conditions = conditions.0 i;
        aggregates = aggregates i;
        order = order i;
      };
      place = columns.1 i;
      conditions = conditions.1 i;
    }

benchmark_once : (words : Words) (one other : ModeQuery) → SpellsBenchmark words one → SpellsBenchmark words other
    → one ≡ other
benchmark_once words one other spells spelled =
    let texts : Some (query_number_text spells.number) ≡ Some (query_number_text spelled.number) = sym spells.named
    ∙ spelled.named in
    let number : spells.number ≡ spelled.number = number_once spells.number spelled.number (cc) in
    spells.query_is ∙ ap (λ one. without_modes (benchmark_query one)) number ∙ sym spelled.query_is

number_or_parts : (words : Words) (one other : ModeQuery) → SpellsBenchmark words one → SpellsCube words other → ⊥
number_or_parts words one other number parts = let texts : Some (query_number_text number.number) ≡ None =
    sym number.named
    ∙ parts.no_number in
    cc

pub spell_one_query : (words : Words) (one other : ModeQuery) → SpellsQuery words one → SpellsQuery words other
    → one ≡ other
spell_one_query words one other (inl number) (inl other_number) = benchmark_once words one other number other_number
spell_one_query words one other (inl number) (inr parts) = absurd (number_or_parts words one other number parts)
spell_one_query words one other (inr parts) (inl number) = absurd (number_or_parts words other one number parts)
spell_one_query words one other (inr parts) (inr other_parts) = cube_once words one other parts other_parts
