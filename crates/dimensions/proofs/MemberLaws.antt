-- The members of a list of texts.
use Rattle.std.proofs.Common.{◌≡◌, ◌∙◌, suc, sym, ap, refl, subst, true≢false, ℕ, true, false, ◌||◌, List, [], ◌∷◌}
use Rattle.std.proofs.Common.{length}
use Rattle.std.specs.Str.{bytes_eq}
use Rattle.std.specs.List.{list_any, AllByRecursion}
use Rattle.std.specs.Ordering.{eq_by_cmp, nat_cmp, is_eq, ordering_reverse}
use Rattle.std.specs.declared.cmp.Ordering.{Ordering}
use Rattle.std.specs.declared.cmp.Ordering.TheVariants.{Less, Equal, Greater}
use Rattle.std.specs.Cmp.{IsTotalOrder}
use Rattle.std.specs.Cmp.Lexicographic.{slice_cmp, texts_ties, nat_list_cmp_total}
use Rattle.std.specs.FinMap.{IsAntisymmetric, nat_cmp-IsAntisymmetric, slice_cmp-IsAntisymmetric}
use Rattle.cube_model.specs.Ascending.{by_order, insert_once, IsAscending}
use Rattle.cube_model.proofs.Ascending.{IsAscending-ascending, list_any-ascending}
use Rattle.cube_model.specs.Validity.{members_of}
use Rattle.dictionary.specs.Dictionary.{EachOnce, firsts}
use Rattle.dictionary.proofs.CallerLemmas.{or_both, list_any-firsts, EachOnce-firsts}

module _ {K : Type 0} (R : K → K → Ordering) (o : IsTotalOrder R) (same : IsAntisymmetric R) where
  pub below_none : (key : K) (keys : List K) → AllByRecursion (λ other. R key other ≡ Less) keys
      → list_any (eq_by_cmp R key) keys ≡ false
  below_none key [] all = refl
  below_none key (first ∷ keys) all = or_both _ _ (ap is_eq all.0) (below_none key keys all.1)

  pub reflexive : (x : K) → R x x ≡ Equal
  reflexive x = elim (R x x) as (λ r. R x x ≡ r → r ≡ ordering_reverse r → r ≡ Equal) [
    | Less ↦ λ e f. cc
    | Equal ↦ λ e f. refl
    | Greater ↦ λ e f. cc
  ] refl (o.antisymm x x)

  tied : (x : K) → eq_by_cmp R x x ≡ true
  tied x = ap is_eq (reflexive x)

  below_all : (a b : K) (keys : List K) → R a b ≡ Less → AllByRecursion (λ other. R b other ≡ Less) keys
      → AllByRecursion (λ other. R a other ≡ Less) keys
  below_all a b [] less all = tt
  below_all a b (key ∷ keys) less all = (o.trans a b key less all.0, below_all a b keys less all.1)

  -- an item that is in one list alone
  apart_at_head : (x y : K) (xs ys : List K) → R x y ≡ Less → AllByRecursion (λ other. R y other ≡ Less) ys
      → ((q : K) → list_any (eq_by_cmp R q) (x ∷ xs) ≡ list_any (eq_by_cmp R q) (y ∷ ys)) → ⊥
  apart_at_head x y xs ys less all items =
      true≢false (sym (ap (λ b. b || list_any (eq_by_cmp R x) xs) (tied x)) ∙ items x
      ∙ or_both _ _ (ap is_eq less) (below_none x ys (below_all x y ys less all)))

  tails : (x : K) (xs ys : List K) → list_any (eq_by_cmp R x) xs ≡ false → list_any (eq_by_cmp R x) ys ≡ false
      → ((q : K) → list_any (eq_by_cmp R q) (x ∷ xs) ≡ list_any (eq_by_cmp R q) (x ∷ ys)) → (q : K)
      → list_any (eq_by_cmp R q) xs ≡ list_any (eq_by_cmp R q) ys
  tails x xs ys none none' items q =
      elim (R q x) as
      (λ r. R q x ≡ r → (is_eq r || list_any (eq_by_cmp R q) xs) ≡ (is_eq r || list_any (eq_by_cmp R q) ys)
      → list_any (eq_by_cmp R q) xs ≡ list_any (eq_by_cmp R q) ys) [
        | Less ↦ λ e h. h
        | Equal ↦ λ e h. let is = same q x e in
            subst (λ k. list_any (eq_by_cmp R k) xs ≡ list_any (eq_by_cmp R k) ys) (sym is) (none ∙ sym none')
        | Greater ↦ λ e h. h
      ] refl (items q)

  -- lists in order with the same items are one list
  pub IsAscending-unique : (xs ys : List K) → IsAscending R xs → IsAscending R ys
      → ((q : K) → list_any (eq_by_cmp R q) xs ≡ list_any (eq_by_cmp R q) ys) → xs ≡ ys
  IsAscending-unique [] [] first second items = refl
  IsAscending-unique [] (y ∷ ys) first second items =
      absurd (true≢false (sym (ap (λ b. b || list_any (eq_by_cmp R y) ys) (tied y)) ∙ sym (items y)))
  IsAscending-unique (x ∷ xs) [] first second items =
      absurd (true≢false (sym (ap (λ b. b || list_any (eq_by_cmp R x) xs) (tied x)) ∙ items x))
  IsAscending-unique (x ∷ xs) (y ∷ ys) first second items =
      elim (R x y) as (λ r. R x y ≡ r → (x ∷ xs) ≡ (y ∷ ys)) [
        | Less ↦ λ e. absurd (apart_at_head x y xs ys e second.0 items)
        | Equal ↦ λ e.
            let is : x ≡ y = same x y e in
            let items' : (q : K) → list_any (eq_by_cmp R q) (x ∷ xs) ≡ list_any (eq_by_cmp R q) (x ∷ ys) = λ q. items q
            ∙ ap (λ k. list_any (eq_by_cmp R q) (k ∷ ys)) (sym is) in
            let above : AllByRecursion (λ other. R x other ≡ Less) ys =
            subst (λ k. AllByRecursion (λ other. R k other ≡ Less) ys) (sym is) second.0 in
            λ i. is i ∷ IsAscending-unique xs ys first.1 second.1
            (tails x xs ys (below_none x xs first.0) (below_none x ys above) items') i
        | Greater ↦
            λ e. absurd (apart_at_head y x ys xs (o.antisymm y x ∙ ap ordering_reverse e) first.0 (λ q. sym (items q)))
      ] refl

  -- a new item in its place
  pub length-insert_once : (key : K) (keys : List K) → list_any (eq_by_cmp R key) keys ≡ false
      → length (insert_once R key keys) ≡ suc (length keys)
  length-insert_once key [] none = refl
  length-insert_once key (first ∷ keys) none =
      elim (R key first) as (λ r. (is_eq r || list_any (eq_by_cmp R key) keys) ≡ false
      → length (by_order r (key ∷ first ∷ keys) (first ∷ keys) (first ∷ insert_once R key keys))
      ≡ suc (suc (length keys))) [
        | Less ↦ λ n. refl
        | Equal ↦ λ n. absurd (true≢false n)
        | Greater ↦ λ n. ap suc (length-insert_once key keys n)
      ] none

-- ---- members

abbrev pub text_cmp : List ℕ → List ℕ → Ordering
text_cmp = slice_cmp nat_cmp

text_cmp_same : IsAntisymmetric text_cmp
text_cmp_same = slice_cmp-IsAntisymmetric nat_cmp-IsAntisymmetric

pub has_by_cmp : (text : List ℕ) (texts : List (List ℕ))
    → list_any (bytes_eq text) texts ≡ list_any (eq_by_cmp text_cmp text) texts
has_by_cmp text [] = refl
has_by_cmp text (first ∷ texts) = λ i. texts_ties text first i || has_by_cmp text texts i

pub has-members_of : (text : List ℕ) (texts : List (List ℕ))
    → list_any (bytes_eq text) (members_of texts) ≡ list_any (bytes_eq text) texts
has-members_of text texts = has_by_cmp text (members_of texts)
    ∙ list_any-ascending text_cmp nat_list_cmp_total text_cmp_same text texts ∙ sym (has_by_cmp text texts)

-- lists with the same texts have the same members
pub members_of-same : (xs ys : List (List ℕ)) → ((q : List ℕ) → list_any (bytes_eq q) xs ≡ list_any (bytes_eq q) ys)
    → members_of xs ≡ members_of ys
members_of-same xs ys items =
    IsAscending-unique text_cmp nat_list_cmp_total text_cmp_same (members_of xs) (members_of ys)
    (IsAscending-ascending text_cmp nat_list_cmp_total text_cmp_same xs)
    (IsAscending-ascending text_cmp nat_list_cmp_total text_cmp_same ys)
    (λ q. sym (has_by_cmp q (members_of xs)) ∙ has-members_of q xs ∙ items q ∙ sym (has-members_of q ys)
    ∙ has_by_cmp q (members_of ys))

-- as many members as texts, where no text occurs twice
pub length-members_of : (texts : List (List ℕ)) → EachOnce texts → length (members_of texts) ≡ length texts
length-members_of [] apart = refl
length-members_of (text ∷ texts) apart =
    length-insert_once text_cmp nat_list_cmp_total text_cmp_same text (members_of texts)
    (sym (has_by_cmp text (members_of texts)) ∙ has-members_of text texts ∙ apart.0)
    ∙ ap suc (length-members_of texts apart.1)

-- the members of a list are those of its texts in the order of their first use
pub members_of-firsts : (texts : List (List ℕ)) → members_of (firsts texts) ≡ members_of texts
members_of-firsts texts = members_of-same (firsts texts) texts (λ q. list_any-firsts q texts)

-- as many as texts in the order of first use
pub length-members : (texts : List (List ℕ)) → length (members_of texts) ≡ length (firsts texts)
length-members texts = ap length (sym (members_of-firsts texts))
    ∙ length-members_of (firsts texts) (EachOnce-firsts texts)
