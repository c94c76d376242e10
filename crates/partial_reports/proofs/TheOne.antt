-- Only one list of lines is the merge of two.
use Rattle.std.proofs.Common.{◌≡◌, ◌∙◌, sym, ap, refl, Bool, true, false, cond, Option, Some, None, List, [], ◌∷◌, ◌++◌}
use Rattle.std.specs.Prelude.{◌||◌}
use Rattle.std.specs.List.{AllByRecursion, cons_option, filter_map, list_any}
use Rattle.std.specs.Ordering.{is_eq, ordering_reverse}
use Rattle.std.specs.declared.cmp.Ordering.TheVariants.{Less}
use Rattle.std.proofs.lemmas.List.Folds.{list_any-append}
use Rattle.cube_model.specs.declared.answer.Line.{Line}
use Rattle.cube_model.specs.declared.answer.Member.{Member}
use Rattle.cube_model.specs.declared.measure.Agg.{Agg}
use Rattle.cube_model.specs.Ascending.{ascending, IsAscending}
use Rattle.cube_model.proofs.Ascending.{IsAscending-ascending, list_any-ascending}
use Rattle.cube_model.specs.Keys.{key_cmp}
use Rattle.cube_model.proofs.KeyOrder.{key_cmp_total, key_cmp-IsAntisymmetric}
use Rattle.cube_model.specs.Orders.{answer_cmp}
use Rattle.cube_model.proofs.Entries.{IsAscending-unique}
use Rattle.partial_reports.proofs.AnswerMerges.{same_key, same_key-refl}
use Rattle.partial_reports.specs.MergeLawful.{MergeIsTheOne}
use Rattle.partial_reports.specs.Merges.{keys_in, line_of_key, merged_line_if_any}

abbrev pub has : {X : Type 0} → Option X → Bool
has None = false
has (Some x) = true

-- a key has a line exactly where it is among the keys
pub has_line : (q : List Member) (lines : List Line) → has (line_of_key q lines) ≡ list_any (same_key q) (keys_in lines)
has_line q [] = refl
has_line q (line ∷ lines) =
    elim (same_key q line.key) as
    (λ b. has (cond b (Some line) (line_of_key q lines)) ≡ (b || list_any (same_key q) (keys_in lines))) [
      | true ↦ refl
      | false ↦ has_line q lines
    ]

pub has_merged : (aggs : List Agg) (one other : Option Line)
    → has (merged_line_if_any aggs one other) ≡ (has one || has other)
has_merged aggs None other = refl
has_merged aggs (Some one) None = refl
has_merged aggs (Some one) (Some other) = refl

below_keys : (line : Line) (lines : List Line) → AllByRecursion (λ other. answer_cmp None line other ≡ Less) lines
    → AllByRecursion (λ key. key_cmp line.key key ≡ Less) (keys_in lines)
below_keys line [] all = tt
below_keys line (other ∷ lines) all = (all.0, below_keys line lines all.1)

keys_rise : (lines : List Line) → IsAscending (answer_cmp None) lines → IsAscending key_cmp (keys_in lines)
keys_rise [] sorted = tt
keys_rise (line ∷ lines) sorted = (below_keys line lines sorted.0, keys_rise lines sorted.1)

-- a key after another is not that one
not_before : (key other : List Member) → key_cmp key other ≡ Less → same_key other key ≡ false
not_before key other less = ap is_eq (key_cmp_total.antisymm other key ∙ ap ordering_reverse less)

found_alike : (f g : List Member → Option Line) (lines : List Line)
    → AllByRecursion (λ line. f line.key ≡ g line.key) lines
    → filter_map f (keys_in lines) ≡ filter_map g (keys_in lines)
found_alike f g [] all = refl
found_alike f g (line ∷ lines) all = λ i. cons_option (all.0 i) (found_alike f g lines all.1 i)

after_first : (line : Line) (lines others : List Line)
    → AllByRecursion (λ other. answer_cmp None line other ≡ Less) others
    → AllByRecursion (λ other. line_of_key other.key (line ∷ lines) ≡ line_of_key other.key lines) others
after_first line lines [] all = tt
after_first line lines (other ∷ others) all = (
  ap (λ b. cond b (Some line) (line_of_key other.key lines)) (not_before line.key other.key all.0),
  after_first line lines others all.1,
)

-- the lines at the keys of lines in order are these lines
lines_themselves : (lines : List Line) → IsAscending (answer_cmp None) lines
    → filter_map (λ key. line_of_key key lines) (keys_in lines) ≡ lines
lines_themselves [] sorted = refl
lines_themselves (line ∷ lines) sorted =
    ap (λ b. cons_option (cond b (Some line) (line_of_key line.key lines))
    (filter_map (λ key. line_of_key key (line ∷ lines)) (keys_in lines))) (same_key-refl line.key)
    ∙ ap (λ rest. line ∷ rest)
    (found_alike (λ key. line_of_key key (line ∷ lines)) (λ key. line_of_key key lines) lines
    (after_first line lines lines sorted.0)
    ∙ lines_themselves lines sorted.1)

every : (P : Line → Type 0) → ((line : Line) → P line) → (lines : List Line) → AllByRecursion P lines
every P all [] = tt
every P all (line ∷ lines) = (all line, every P all lines)

pub merge_is_the_one : MergeIsTheOne
merge_is_the_one aggs ones others lines is =
    let o = key_cmp_total in
    let same = key_cmp-IsAntisymmetric in
    let both = keys_in ones ++ keys_in others in
    let g : List Member → Option Line =
    λ key. merged_line_if_any aggs (line_of_key key ones) (line_of_key key others) in
    let keys : keys_in lines ≡ ascending key_cmp both =
    IsAscending-unique key_cmp o same (keys_in lines) (ascending key_cmp both) (keys_rise lines is.in_order)
    (IsAscending-ascending key_cmp o same both)
    (λ q. sym (has_line q lines) ∙ ap has (is.by_key q) ∙ has_merged aggs (line_of_key q ones) (line_of_key q others)
    ∙ (λ i. has_line q ones i || has_line q others i)
    ∙ sym (list_any-append (same_key q) (keys_in ones) (keys_in others))
    ∙ sym (list_any-ascending key_cmp o same q both)) in
    sym (lines_themselves lines is.in_order)
    ∙ found_alike (λ key. line_of_key key lines) g lines
    (every (λ line. line_of_key line.key lines ≡ g line.key) (λ line. is.by_key line.key) lines)
    ∙ ap (filter_map g) keys
