-- Dimension rows followed by none.
use Rattle.std.proofs.Common.{◌≡◌, ◌⊎◌, ⊎_elim, ◌∙◌, List, [], ◌∷◌, ◌++◌, length, Option, Some, None, refl, sym, ap}
use Rattle.std.proofs.Common.{subst, append-nil}
use Rattle.std.specs.Option.{option_map}
use Rattle.cube_model.specs.declared.fault.Fault.{Fault}
use Rattle.cube_model.specs.declared.fault.Fault.TheVariants.{Memory}
use Rattle.cube_model.specs.declared.rows.DimRows.{DimRows}
use Rattle.cube_model.specs.Causes.{first_cause}
use Rattle.cube_model.specs.Validity.{HaveShortTexts, IsValid, Rules, customer_rules, date_rules, dimension_cause}
use Rattle.cube_model.specs.Validity.{part_rules, supplier_rules}
use Rattle.dimensions.specs.Added.{added_cause, addition_cause, counted_after, joined}

first_none : (cause : Option Fault) (causes : List (Option Fault)) → first_cause (cause ∷ causes) ≡ None
    → (cause ≡ None) × (first_cause causes ≡ None)
first_none None causes e = (refl, e)
first_none (Some fault) causes e = absurd cc

none_of : (a b c d : Option Fault) → a ≡ None → b ≡ None → c ≡ None → d ≡ None → first_cause (a ∷ b ∷ c ∷ d ∷ []) ≡ None
none_of a b c d first second third fourth =
    ap (λ (x : Option Fault). first_cause (x ∷ b ∷ c ∷ d ∷ [])) first
    ∙ ap (λ (x : Option Fault). first_cause (x ∷ c ∷ d ∷ [])) second
    ∙ ap (λ (x : Option Fault). first_cause (x ∷ d ∷ [])) third
    ∙ ap (λ (x : Option Fault). first_cause (x ∷ [])) fourth

-- rows that are followed by none are refused for no other cause
added_none : {Row : Type 0} (rules : Rules Row) (old : List Row) → dimension_cause rules old ≡ None
    → added_cause rules old [] ≡ None
added_none {Row} rules old none =
    ap (λ (l : List Row). option_map (counted_after (length old)) (dimension_cause rules l)) (append-nil old)
    ∙ ap (option_map (counted_after (length old))) none

-- no row of any dimension
abbrev none : DimRows
none = record { customers = []; suppliers = []; parts = []; dates = [] }

joined_none : (rows : DimRows) → joined rows none ≡ rows
joined_none rows = λ i. record {
  customers = append-nil rows.customers i;
  suppliers = append-nil rows.suppliers i;
  parts = append-nil rows.parts i;
  dates = append-nil rows.dates i;
}

addition_none : (rows : DimRows) → IsValid rows → addition_cause rows none ≡ None
addition_none rows valid =
    let first = first_none (dimension_cause customer_rules rows.customers) _ valid in
    let second = first_none (dimension_cause supplier_rules rows.suppliers) _ first.1 in
    let third = first_none (dimension_cause part_rules rows.parts) _ second.1 in
    let fourth = first_none (dimension_cause date_rules rows.dates) [] third.1 in
    none_of (added_cause customer_rules rows.customers []) (added_cause supplier_rules rows.suppliers [])
    (added_cause part_rules rows.parts []) (added_cause date_rules rows.dates [])
    (added_none customer_rules rows.customers first.0) (added_none supplier_rules rows.suppliers second.0)
    (added_none part_rules rows.parts third.0) (added_none date_rules rows.dates fourth.0)

module _ (empty : DimRows) (customers : empty.customers ≡ []) (suppliers : empty.suppliers ≡ [])
    (parts : empty.parts ≡ []) (dates : empty.dates ≡ []) where
  is_none : empty ≡ none
  is_none = λ i. record { customers = customers i; suppliers = suppliers i; parts = parts i; dates = dates i }

  pub joined_empty : (rows : DimRows) → joined rows empty ≡ rows
  joined_empty rows = ap (joined rows) is_none ∙ joined_none rows

  pub short_none : HaveShortTexts empty
  short_none = subst HaveShortTexts (sym is_none) (record { customers = tt; suppliers = tt; parts = tt; dates = tt })

  pub only_memory : (rows : DimRows) (fault : Fault) → IsValid rows → (fault ≡ Memory)
      ⊎ (addition_cause rows empty ≡ Some fault) → fault ≡ Memory
  only_memory rows fault valid why =
      ⊎_elim (λ (memory : fault ≡ Memory). memory)
      (λ (cause : addition_cause rows empty ≡ Some fault).
      let both : None ≡ Some fault = sym (ap (addition_cause rows) is_none ∙ addition_none rows valid) ∙ cause in
      absurd cc) why
