-- One step of a merge: the line of the lowest key.
use Rattle.std.proofs.Common.{◌≡◌, ◌∙◌, sym, ap, refl, List, [], ◌∷◌, ◌++◌, length, ◌<◌, subst, None, append_assoc}
use Rattle.std.proofs.Common.{append-nil, arith}
use Rattle.std.specs.Prelude.{Option, Some, IfSome}
use Rattle.std.specs.Option.{option_to_list}
use Rattle.std.proofs.lemmas.List.{map-append}
use Rattle.std.specs.declared.cmp.Ordering.TheVariants.{Less, Equal, Greater}
use Rattle.cube_model.specs.declared.measure.Agg.{Agg}
use Rattle.cube_model.specs.Ascending.{IsAscending}
use Rattle.cube_model.specs.Keys.{key_cmp}
use Rattle.cube_model.specs.Orders.{answer_cmp}
use Rattle.partial_reports.specs.declared.wide.WideLine.{WideLine}
use Rattle.cube_model.specs.declared.answer.Line.{Line}
use Rattle.partial_reports.specs.Merges.{merged_line, merged_lines}
use Rattle.partial_reports.specs.Wide.{IsMergeOfBoth, IsMergeStep, Rise, front_cmp, narrow_line, narrow_lines}
use Rattle.partial_reports.proofs.CallerLemmas.{merged_lines-one, merged_lines-other, merged_lines-both}
use Rattle.partial_reports.proofs.CallerLemmas.{merged_lines-rise}
use Rattle.partial_reports.proofs.CallerLemmas.{above_first, turned_less}

-- only the first list has lines
pub step_first : (aggs : List Agg) (ones others left : List WideLine) (one line : WideLine) → ones ≡ one ∷ left
    → others ≡ [] → line ≡ one → Rise ones
    → IsMergeStep aggs ones others line left others
step_first aggs ones others left one line first none is rise =
    rw (none, is, first) (let up : Rise (one ∷ left) = rw first at rise in record {
      merges = merged_lines-one aggs (narrow_line one) (narrow_lines left) [] up.0 tt;
      ones_rise = up.1;
      others_rise = tt;
    })

-- only the second has
pub step_second : (aggs : List Agg) (ones others left : List WideLine) (other line : WideLine) → ones ≡ []
    → others ≡ other ∷ left → line ≡ other → Rise others
    → IsMergeStep aggs ones others line ones left
step_second aggs ones others left other line none second is rise =
    rw (none, is, second) (let up : Rise (other ∷ left) = rw second at rise in record {
      merges = merged_lines-other aggs (narrow_line other) [] (narrow_lines left) tt up.0;
      ones_rise = tt;
      others_rise = up.1;
    })

module _ (aggs : List Agg) (ones others ones_left others_left : List WideLine) (one other line : WideLine)
    (first : ones ≡ one ∷ ones_left) (second : others ≡ other ∷ others_left) (ones_rise : Rise ones)
    (others_rise : Rise others) where
  up : Rise (one ∷ ones_left)
  up = rw first at ones_rise

  other_up : Rise (other ∷ others_left)
  other_up = rw second at others_rise

  -- the key of the first list is lower
  pub step_one : line ≡ one → key_cmp one.key other.key ≡ Less → IsMergeStep aggs ones others line ones_left others
  step_one is less = rw (is, first) (record {
    merges = rw second
        (merged_lines-one aggs (narrow_line one) (narrow_lines ones_left) (narrow_lines (other ∷ others_left)) up.0
        (above_first one.key (narrow_line other) (narrow_lines others_left) less other_up));
    ones_rise = up.1;
    others_rise = others_rise;
  })

  -- that of the second is
  pub step_other : line ≡ other → key_cmp one.key other.key ≡ Greater
      → IsMergeStep aggs ones others line ones others_left
  step_other is greater = rw (is, second) (record {
    merges = rw first
        (merged_lines-other aggs (narrow_line other) (narrow_lines (one ∷ ones_left)) (narrow_lines others_left)
        (above_first other.key (narrow_line one) (narrow_lines ones_left) (turned_less one.key other.key greater) up)
        other_up.0);
    ones_rise = ones_rise;
    others_rise = other_up.1;
  })

  -- they are one key
  pub step_both : narrow_line line ≡ merged_line aggs (narrow_line one) (narrow_line other)
      → key_cmp one.key other.key ≡ Equal
      → IsMergeStep aggs ones others line ones_left others_left
  step_both is same = rw (first, second) (record {
    merges = rw is
        (merged_lines-both aggs (narrow_line one) (narrow_line other) (narrow_lines ones_left)
        (narrow_lines others_left) same up.0
        other_up.0);
    ones_rise = up.1;
    others_rise = other_up.1;
  })

-- the lines so far, and the merge of what is left, after one more step
pub went_on : (aggs : List Agg) (all : List Line) (out : List WideLine) (line : WideLine)
    (left right ones_left others_left : List WideLine)
    → all ≡ narrow_lines out ++ merged_lines aggs (narrow_lines left) (narrow_lines right)
    → IsMergeStep aggs left right line ones_left others_left
    → all ≡ narrow_lines (out ++ line ∷ []) ++ merged_lines aggs (narrow_lines ones_left) (narrow_lines others_left)
went_on aggs all out line left right ones_left others_left is step =
    let rest = merged_lines aggs (narrow_lines ones_left) (narrow_lines others_left) in
    is ∙ ap (λ more. narrow_lines out ++ more) step.merges
    ∙ sym (append_assoc (narrow_lines out) (narrow_line line ∷ []) rest)
    ∙ ap (λ lines. lines ++ rest) (sym (map-append narrow_line out (line ∷ [])))

-- nothing is left
pub all_merged : (aggs : List Agg) (all : List Line) (out left right : List WideLine)
    → all ≡ narrow_lines out ++ merged_lines aggs (narrow_lines left) (narrow_lines right)
    → left ≡ [] → right ≡ [] → narrow_lines out ≡ all
all_merged aggs all out left right is first second =
    sym (append-nil (narrow_lines out))
    ∙ ap (λ more. narrow_lines out ++ more)
    (λ i. merged_lines aggs (narrow_lines (sym first i)) (narrow_lines (sym second i)))
    ∙ sym is

pub no_line : (lines : List WideLine) → length lines ≡ 0 → lines ≡ []
no_line [] none = refl
no_line (line ∷ lines) none = absurd (omega (arith, none))

-- the merge is in the order of its keys
pub merged_rise : (aggs : List Agg) (ones others : List Line) (out left right : List WideLine)
    → merged_lines aggs ones others ≡ narrow_lines out ++ merged_lines aggs (narrow_lines left) (narrow_lines right)
    → left ≡ []
    → right ≡ [] → Rise out
merged_rise aggs ones others out left right is first second =
    subst (IsAscending (answer_cmp None))
    (sym (all_merged aggs (merged_lines aggs ones others) out left right is first second))
    (merged_lines-rise aggs ones others)

pub same_rise : (wide : List WideLine) (lines : List Line) → narrow_lines wide ≡ lines
    → IsAscending (answer_cmp None) lines
    → Rise wide
same_rise wide lines same rise = subst (IsAscending (answer_cmp None)) (sym same) rise

-- the first list has the lower key
pub step_less : (aggs : List Agg) (ones others ones_left : List WideLine) (line : WideLine)
    → front_cmp ones others ≡ Less → ones ≡ line ∷ ones_left → Rise ones → Rise others
    → IsMergeStep aggs ones others line ones_left others
step_less aggs ones [] left line less first rise other_rise =
    step_first aggs ones [] left line line first refl refl rise
step_less aggs ones (other ∷ others) left line less first rise other_rise =
    let lower : key_cmp line.key other.key ≡ Less = rw first at less in
    step_one aggs ones (other ∷ others) left others line other line first refl rise other_rise refl lower

-- the second has
pub step_greater : (aggs : List Agg) (ones others others_left : List WideLine) (line : WideLine)
    → front_cmp ones others ≡ Greater → others ≡ line ∷ others_left → Rise ones → Rise others
    → IsMergeStep aggs ones others line ones others_left
step_greater aggs [] others left line greater second rise other_rise =
    step_second aggs [] others left line line refl second refl other_rise
step_greater aggs (one ∷ ones) others left line greater second rise other_rise =
    let higher : key_cmp one.key line.key ≡ Greater = rw second at greater in
    step_other aggs (one ∷ ones) others ones left one line line refl second rise other_rise refl higher

-- they have one key
pub step_equal : (aggs : List Agg) (ones others ones_left others_left : List WideLine) (one other line : WideLine)
    → front_cmp ones others ≡ Equal
    → ones ≡ one ∷ ones_left → others ≡ other ∷ others_left
    → narrow_line line ≡ merged_line aggs (narrow_line one) (narrow_line other) → Rise ones → Rise others
    → IsMergeStep aggs ones others line ones_left others_left
step_equal aggs ones others ones_left others_left one other line equal first second is rise other_rise =
    let same : key_cmp one.key other.key ≡ Equal = rw (first, second) at equal in
    step_both aggs ones others ones_left others_left one other line first second rise other_rise is same

-- a list with the lower key has a line
pub some_less : (ones others : List WideLine) → front_cmp ones others ≡ Less → length ones ≡ 0 → ⊥
some_less [] others less none = cc
some_less (one ∷ ones) others less none = absurd (omega (arith, none))

pub none_greater : (ones others : List WideLine) → front_cmp ones others ≡ Greater → length others ≡ 0
    → (ones ≡ []) × (others ≡ [])
none_greater [] [] greater none = (refl, refl)
none_greater (one ∷ ones) [] greater none = cc
none_greater ones (other ∷ others) greater none = absurd (omega (arith, none))

pub some_equal : (ones others : List WideLine) → front_cmp ones others ≡ Equal → (0 < length ones) × (0 < length others)
some_equal [] others equal = cc
some_equal (one ∷ ones) [] equal = cc
some_equal (one ∷ ones) (other ∷ others) equal = (omega arith, omega arith)

-- what was taken from the front of the list with the lower key
pub taken_less : (aggs : List Agg) (ones others ones_left : List WideLine) (taken : Option WideLine)
    → front_cmp ones others ≡ Less → ones ≡ option_to_list taken ++ ones_left
    → Rise ones → Rise others → IfSome taken (λ line. IsMergeStep aggs ones others line ones_left others)
taken_less aggs ones others left None less first rise other_rise = tt
taken_less aggs ones others left (Some line) less first rise other_rise =
    step_less aggs ones others left line less first rise other_rise

pub taken_greater : (aggs : List Agg) (ones others others_left : List WideLine) (taken : Option WideLine)
    → front_cmp ones others ≡ Greater → others ≡ option_to_list taken ++ others_left
    → Rise ones → Rise others → IfSome taken (λ line. IsMergeStep aggs ones others line ones others_left)
taken_greater aggs ones others left None greater second rise other_rise = tt
taken_greater aggs ones others left (Some line) greater second rise other_rise =
    step_greater aggs ones others left line greater second rise other_rise

-- the merge of what was taken from both, which have one key
pub taken_equal : (aggs : List Agg) (ones others ones_left others_left : List WideLine)
    (one other merged : Option WideLine) → front_cmp ones others ≡ Equal
    → ones ≡ option_to_list one ++ ones_left → others ≡ option_to_list other ++ others_left
    → IsMergeOfBoth aggs one other merged → Rise ones → Rise others
    → IfSome merged (λ line. IsMergeStep aggs ones others line ones_left others_left)
taken_equal aggs ones others ones_left others_left one other None equal first second is rise other_rise = tt
taken_equal aggs ones others ones_left others_left (Some one) (Some other) (Some line) equal first second is rise
    other_rise =
    step_equal aggs ones others ones_left others_left one other line equal first second is rise other_rise
taken_equal aggs ones others ones_left others_left (Some one) None (Some line) equal first second is rise other_rise =
    cc
taken_equal aggs ones others ones_left others_left None other (Some line) equal first second is rise other_rise = cc

-- what the loop over the lines of both needs
pub ruleset lines_merged = (went_on, all_merged, merged_rise)
