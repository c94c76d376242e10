-- Members in order, and the place of a text among them.
use Rattle.std.proofs.Common.{◌≡◌, ◌<◌, ◌+◌, ◌∙◌, inl, inr, zero, suc, sym, ap, refl, arith, true≢false, ℕ, Bool, true}
use Rattle.std.proofs.Common.{false, List, [], ◌∷◌, ◌++◌, length, get_or, slice_get, take, Some, Ok, Err, Result}
use Rattle.std.specs.Str.{bytes_eq}
use Rattle.std.specs.List.{AllByRecursion, list_any, Contains, HoldsAt, dedup}
use Rattle.std.specs.List.Sorted.{IsSorted, IsSortedBy, IsStrictlySortedBy, IsPermutation, IsBinarySearchResult}
use Rattle.std.specs.Ordering.{is_lt, ordering_reverse}
use Rattle.std.specs.Result.{IsOk}
use Rattle.std.specs.declared.cmp.Ordering.{Ordering}
use Rattle.std.specs.declared.cmp.Ordering.TheVariants.{Less, Equal, Greater}
use Rattle.std.specs.Cmp.Lexicographic.{texts_ties, nat_list_cmp_total, nat_list_eq_equiv}
use Rattle.std.specs.FinMap.{IsAntisymmetric, nat_cmp-IsAntisymmetric, slice_cmp-IsAntisymmetric}
use Rattle.std.proofs.lemmas.Bool.{cases_lt}
use Rattle.std.proofs.lemmas.List.Kept.{IsStrictlySortedBy-dedup, Contains-dedup, Contains-from_dedup}
use Rattle.std.proofs.lemmas.List.Sorted.{searchable_from_sorted, list_any-IsPermutation}
use Rattle.std.proofs.lemmas.Map.Keys.{Less-from_sorted}
use Rattle.std.proofs.lemmas.Map.Views.{list_any-from_Contains, Contains-from_any}
use Rattle.cube_model.specs.Ascending.{IsAscending}
use Rattle.cube_model.proofs.Ascending.{IsAscending-ascending}
use Rattle.cube_model.specs.Validity.{members_of}
use Rattle.dictionary.proofs.CallerLemmas.{bytes_eq-same, bytes_eq-refl, list_any_here}
use Rattle.dimensions.proofs.MemberLaws.{text_cmp, has_by_cmp, has-members_of, IsAscending-unique, reflexive}

text_cmp_same : IsAntisymmetric text_cmp
text_cmp_same = slice_cmp-IsAntisymmetric nat_cmp-IsAntisymmetric

strictly_sorted : (texts : List (List ℕ)) → IsAscending text_cmp texts → IsStrictlySortedBy text_cmp texts
unfolding IsStrictlySortedBy
strictly_sorted [] up = tt
strictly_sorted (text ∷ texts) up = (up.0, strictly_sorted texts up.1)

ascends : (texts : List (List ℕ)) → IsStrictlySortedBy text_cmp texts → IsAscending text_cmp texts
unfolding IsStrictlySortedBy
ascends [] sorted = tt
ascends (text ∷ texts) sorted = (sorted.0, ascends texts sorted.1)

-- members are in order
pub members_ascend : (texts : List (List ℕ)) → IsAscending text_cmp (members_of texts)
members_ascend texts = IsAscending-ascending text_cmp nat_list_cmp_total text_cmp_same texts

-- each text of a list is a member
pub is_member : (texts : List (List ℕ)) (k : ℕ) (text : List ℕ) → k < length texts → get_or texts k text ≡ text
    → list_any (bytes_eq text) (members_of texts) ≡ true
is_member texts k text lt at = has-members_of text texts
    ∙ list_any_here (bytes_eq text) texts k text lt (ap (bytes_eq text) at ∙ bytes_eq-refl text)

-- tests that pass together
agree : (a b : Bool) → (a ≡ true → b ≡ true) → (b ≡ true → a ≡ true) → a ≡ b
agree true b there back = sym (there refl)
agree false true there back = back refl
agree false false there back = refl

-- a list without its repeated neighbours has the same texts
has-dedup : (q : List ℕ) (texts : List (List ℕ))
    → list_any (bytes_eq q) (dedup bytes_eq texts) ≡ list_any (bytes_eq q) texts
has-dedup q texts = agree _ _
    (λ some. list_any-from_Contains nat_list_eq_equiv q texts
    (Contains-from_dedup bytes_eq texts q (Contains-from_any bytes_eq-same q (dedup bytes_eq texts) some)))
    (λ some. list_any-from_Contains nat_list_eq_equiv q (dedup bytes_eq texts)
    (Contains-dedup nat_list_eq_equiv bytes_eq-same texts q (Contains-from_any bytes_eq-same q texts some)))

-- texts in order without repeated neighbours are the members
pub dedup-members_of : (texts sorted : List (List ℕ)) → IsPermutation texts sorted → IsSorted text_cmp sorted
    → dedup bytes_eq sorted ≡ members_of texts
dedup-members_of texts sorted moved up =
    IsAscending-unique text_cmp nat_list_cmp_total text_cmp_same (dedup bytes_eq sorted) (members_of texts)
    (ascends (dedup bytes_eq sorted) (IsStrictlySortedBy-dedup nat_list_cmp_total texts_ties sorted up))
    (members_ascend texts)
    (λ q. sym (has_by_cmp q (dedup bytes_eq sorted)) ∙ has-dedup q sorted
    ∙ sym (list_any-IsPermutation (bytes_eq q) texts sorted moved) ∙ sym (has-members_of q texts)
    ∙ has_by_cmp q (members_of texts))

turned : (a b : List ℕ) → text_cmp a b ≡ Less → is_lt (text_cmp b a) ≡ false
turned a b less = ap is_lt (nat_list_cmp_total.antisymm b a ∙ ap ordering_reverse less)

in_order : (members : List (List ℕ)) → IsAscending text_cmp members → IsSortedBy (λ a b. is_lt (text_cmp a b)) members
in_order members up k d low high =
    turned (get_or members k d) (get_or members (k + 1) d)
    (Less-from_sorted text_cmp members k (k + 1) d (strictly_sorted members up) (omega arith) high)

equal_itself : (text : List ℕ) → text_cmp text text ≡ Equal
equal_itself text = reflexive text_cmp nat_list_cmp_total text_cmp_same text

-- a text is neither below nor above itself
not_less : (a text : List ℕ) → a ≡ text → text_cmp a text ≡ Less → ⊥
not_less a text same less = let no : Less ≡ Equal = sym less ∙ ap (λ t. text_cmp t text) same ∙ equal_itself text in
    absurd cc

not_greater : (a text : List ℕ) → a ≡ text → text_cmp a text ≡ Greater → ⊥
not_greater a text same greater = let no : Greater ≡ Equal = sym greater ∙ ap (λ t. text_cmp t text) same
    ∙ equal_itself text in absurd cc

-- a search for one of the members finds it
pub found : (members : List (List ℕ)) (text : List ℕ) (answer : Result ℕ ℕ) → IsAscending text_cmp members
    → list_any (bytes_eq text) members ≡ true
    → IsBinarySearchResult (λ member. text_cmp member text) members answer → IsOk answer
found members text (Ok k) up among at = refl
found members text (Err k) up among at =
    let parts = at (searchable_from_sorted nat_list_cmp_total (λ t. t) members text (in_order members up)) in
    let here : Contains members text = Contains-from_any bytes_eq-same text members among in
    elim (cases_lt here.0 k) [
      | inl below ↦ absurd (not_less (get_or members here.0 text) text here.2 (parts.0 here.0 text (omega arith) below))
      | inr above ↦ absurd (not_greater (get_or members here.0 text) text here.2 (parts.1 here.0 text above here.1))
    ]

-- what it found is that text
pub found_text : (members : List (List ℕ)) (text : List ℕ) (rank : ℕ)
    → HoldsAt (λ member. text_cmp member text ≡ Equal) members rank → get_or members rank [] ≡ text
found_text members text rank holds = text_cmp_same (get_or members rank []) text (holds [])

take_more : (texts : List (List ℕ)) (k : ℕ) (text : List ℕ) → slice_get texts k ≡ Some text
    → take (suc k) texts ≡ take k texts ++ text ∷ []
take_more [] k text at = absurd cc
take_more (first ∷ texts) zero text at = let same : first ≡ text = cc in ap (λ t. t ∷ []) same
take_more (first ∷ texts) (suc k) text at = ap (λ l. first ∷ l) (take_more texts k text at)

-- a copy with one more text
pub copy_more : (texts copies more : List (List ℕ)) (k : ℕ) (text : List ℕ) → copies ≡ take k texts
    → slice_get texts k ≡ Some text → more ≡ copies ++ text ∷ [] → more ≡ take (k + 1) texts
copy_more texts copies more k text so_far at is =
    let next : suc k ≡ k + 1 = omega arith in
    is ∙ ap (λ l. l ++ text ∷ []) so_far ∙ sym (take_more texts k text at) ∙ ap (λ n. take n texts) next

below_all : (text next : List ℕ) (texts : List (List ℕ)) → text_cmp text next ≡ Less
    → AllByRecursion (λ other. text_cmp next other ≡ Less) texts
    → AllByRecursion (λ other. text_cmp text other ≡ Less) texts
below_all text next [] less all = tt
below_all text next (other ∷ texts) less all =
    (nat_list_cmp_total.trans text next other less all.0, below_all text next texts less all.1)

-- texts of which each is below the next are in order
ascends_by_steps : (texts : List (List ℕ))
    → ((k : ℕ) → suc k < length texts → text_cmp (get_or texts k []) (get_or texts (suc k) []) ≡ Less)
    → IsAscending text_cmp texts
ascends_by_steps [] below = tt
ascends_by_steps (text ∷ []) below = (tt, tt)
ascends_by_steps (text ∷ next ∷ texts) below =
    let rest = ascends_by_steps (next ∷ texts) (λ k lt. below (suc k) (omega (arith, lt))) in
    let first : text_cmp text next ≡ Less = below 0 (omega arith) in
    ((first, below_all text next texts first rest.0), rest)

-- such texts are their members
pub own_members : (texts : List (List ℕ))
    → ((k : ℕ) → suc k < length texts → text_cmp (get_or texts k []) (get_or texts (suc k) []) ≡ Less)
    → members_of texts ≡ texts
own_members texts below =
    IsAscending-unique text_cmp nat_list_cmp_total text_cmp_same (members_of texts) texts (members_ascend texts)
    (ascends_by_steps texts below)
    (λ q. sym (has_by_cmp q (members_of texts)) ∙ has-members_of q texts ∙ has_by_cmp q texts)

pub less_of : (order : Ordering) → is_lt order ≡ true → order ≡ Less
less_of Less e = refl
less_of Equal e = absurd (true≢false (sym e))
less_of Greater e = absurd (true≢false (sym e))
