-- The tally of the rows of a coarser key is the merge of the tallies of the finer keys that it covers.
use Rattle.std.proofs.Common.{◌≡◌, ◌∙◌, sym, ap, refl, subst, ℕ, ◌+◌, ℤ, pos, ◌+ℤ◌, Bool, true, false, cond, List, []}
use Rattle.std.proofs.Common.{◌∷◌, ◌++◌, map, length, length-append, append-nil, append_assoc, arith}
use Rattle.std.specs.Prelude.{◌==◌, ◌||◌, ◌&&◌}
use Rattle.std.specs.List.{fold, filter, sum_by}
use Rattle.std.specs.Int.{int_min, int_max}
use Rattle.std.proofs.lemmas.Bool.Decides.{nat_tests}
use Rattle.std.proofs.lemmas.Int.{ints}
use Rattle.std.proofs.lemmas.List.{map-append}
use Rattle.std.proofs.lemmas.List.Sums.{fold-append, sum_by-append}
use Rattle.cube_model.specs.Aggregates.{total}
use Rattle.cube_model.specs.declared.rows.LineOrder.{LineOrder}
use Rattle.group_tallies.specs.Tallies.{tally_of, merged_tally}
use Rattle.group_tallies.specs.declared.tally.Tally.{Tally}

sum_from : (a : ℤ) (xs : List ℤ) → fold (λ so_far number. so_far +ℤ number) a xs ≡ a +ℤ total xs
sum_from a [] = omega (arith, ints)
sum_from a (x ∷ xs) = sum_from (a +ℤ x) xs ∙ (omega (arith, ints, sum_from (pos 0 +ℤ x) xs))

min_assoc : (a b c : ℤ) → int_min (int_min a b) c ≡ int_min a (int_min b c)
min_assoc a b c = grind (arith, ints)

max_assoc : (a b c : ℤ) → int_max (int_max a b) c ≡ int_max a (int_max b c)
max_assoc a b c = grind (arith, ints)

min_comm : (a b : ℤ) → int_min a b ≡ int_min b a
min_comm a b = grind (arith, ints)

max_comm : (a b : ℤ) → int_max a b ≡ int_max b a
max_comm a b = grind (arith, ints)

fold_from : (f : ℤ → ℤ → ℤ) → ((a b c : ℤ) → f (f a b) c ≡ f a (f b c)) → (a b : ℤ) (xs : List ℤ)
    → fold f (f a b) xs ≡ f a (fold f b xs)
fold_from f assoc a b [] = refl
fold_from f assoc a b (x ∷ xs) = ap (λ start. fold f start xs) (assoc a b x) ∙ fold_from f assoc a (f b x) xs

some_count : (x : ℤ) (xs : List ℤ) → (length (x ∷ xs) == 0) ≡ false
some_count x xs = grind (arith, nat_tests)

-- both tallies added up
abbrev both : Tally → Tally → Tally
both left right = record {
  count = left.count + right.count;
  sum = left.sum +ℤ right.sum;
  least = int_min left.least right.least;
  greatest = int_max left.greatest right.greatest;
}

both-some : (x : ℤ) (xs : List ℤ) (y : ℤ) (ys : List ℤ)
    → merged_tally (tally_of (x ∷ xs)) (tally_of (y ∷ ys)) ≡ both (tally_of (x ∷ xs)) (tally_of (y ∷ ys))
both-some x xs y ys =
    ap (λ b. cond b (tally_of (y ∷ ys))
    (cond (length (y ∷ ys) == 0) (tally_of (x ∷ xs)) (both (tally_of (x ∷ xs)) (tally_of (y ∷ ys)))))
    (some_count x xs)
    ∙ ap (λ b. cond b (tally_of (x ∷ xs)) (both (tally_of (x ∷ xs)) (tally_of (y ∷ ys)))) (some_count y ys)

-- numbers put end to end
pub tally_of-append : (xs ys : List ℤ) → tally_of (xs ++ ys) ≡ merged_tally (tally_of xs) (tally_of ys)
tally_of-append [] ys = refl
tally_of-append (x ∷ xs) [] =
    ap tally_of (append-nil (x ∷ xs)) ∙ sym (ap (λ b. cond b (tally_of []) (tally_of (x ∷ xs))) (some_count x xs))
tally_of-append (x ∷ xs) (y ∷ ys) =
    let count = length-append (x ∷ xs) (y ∷ ys) in
    let sum = fold-append (λ so_far number. so_far +ℤ number) (pos 0) (x ∷ xs) (y ∷ ys)
    ∙ sum_from (total (x ∷ xs)) (y ∷ ys) in
    let least_is = fold-append int_min x xs (y ∷ ys) ∙ fold_from int_min min_assoc (fold int_min x xs) y ys in
    let greatest_is = fold-append int_max x xs (y ∷ ys) ∙ fold_from int_max max_assoc (fold int_max x xs) y ys in
    (λ i. record { count = count i; sum = sum i; least = least_is i; greatest = greatest_is i })
    ∙ sym (both-some x xs y ys)

-- and in either order
tally_of-turned : (xs ys : List ℤ) → tally_of (xs ++ ys) ≡ tally_of (ys ++ xs)
tally_of-turned [] ys = ap tally_of (sym (append-nil ys))
tally_of-turned (x ∷ xs) [] = ap tally_of (append-nil (x ∷ xs))
tally_of-turned (x ∷ xs) (y ∷ ys) =
    let a = tally_of (x ∷ xs) in
    let b = tally_of (y ∷ ys) in
    let count : a.count + b.count ≡ b.count + a.count = omega arith in
    let sum : a.sum +ℤ b.sum ≡ b.sum +ℤ a.sum = omega (arith, ints) in
    let turned : both a b ≡ both b a = λ i. record {
      count = count i;
      sum = sum i;
      least = min_comm a.least b.least i;
      greatest = max_comm a.greatest b.greatest i;
    } in
    tally_of-append (x ∷ xs) (y ∷ ys) ∙ both-some x xs y ys ∙ turned ∙ sym (both-some y ys x xs)
    ∙ sym (tally_of-append (y ∷ ys) (x ∷ xs))

-- ---- rows in another order
pub record SameRows (rows others : List LineOrder) : Type 0 where
  pub tallies : (number : LineOrder → ℤ) → tally_of (map number rows) ≡ tally_of (map number others)
  pub sums : (size : LineOrder → ℕ) → sum_by size rows ≡ sum_by size others
  pub lengths : length rows ≡ length others

pub SameRows-refl : (rows : List LineOrder) → SameRows rows rows
SameRows-refl rows = record { tallies = λ number. refl; sums = λ size. refl; lengths = refl }

pub SameRows-trans : (a b c : List LineOrder) → SameRows a b → SameRows b c → SameRows a c
SameRows-trans a b c p q = record {
  tallies = λ number. p.tallies number ∙ q.tallies number;
  sums = λ size. p.sums size ∙ q.sums size;
  lengths = p.lengths ∙ q.lengths;
}

pub SameRows-sym : (a b : List LineOrder) → SameRows a b → SameRows b a
SameRows-sym a b p =
    record { tallies = λ number. sym (p.tallies number); sums = λ size. sym (p.sums size); lengths = sym p.lengths }

pub SameRows-is : (a b : List LineOrder) → a ≡ b → SameRows a b
SameRows-is a b e = subst (SameRows a) e (SameRows-refl a)

-- after the same rows
pub SameRows-after : (front rows others : List LineOrder) → SameRows rows others
    → SameRows (front ++ rows) (front ++ others)
SameRows-after front rows others same = record {
  tallies = λ number.
      ap tally_of (map-append number front rows) ∙ tally_of-append (map number front) (map number rows)
      ∙ ap (merged_tally (tally_of (map number front))) (same.tallies number)
      ∙ sym (ap tally_of (map-append number front others) ∙ tally_of-append (map number front) (map number others));
  sums = λ size. omega (arith, sum_by-append size front rows, sum_by-append size front others, same.sums size);
  lengths = omega (arith, length-append front rows, length-append front others, same.lengths);
}

pub SameRows-turned : (rows others : List LineOrder) → SameRows (rows ++ others) (others ++ rows)
SameRows-turned rows others = record {
  tallies = λ number. ap tally_of (map-append number rows others)
      ∙ tally_of-turned (map number rows) (map number others) ∙ sym (ap tally_of (map-append number others rows));
  sums = λ size. omega (arith, sum_by-append size rows others, sum_by-append size others rows);
  lengths = omega (arith, length-append rows others, length-append others rows);
}

-- a row that moves from the front to the middle
SameRows-middle : (row : LineOrder) (front back : List LineOrder)
    → SameRows (row ∷ (front ++ back)) (front ++ row ∷ back)
SameRows-middle row front back =
    SameRows-trans ((row ∷ []) ++ (front ++ back)) ((front ++ back) ++ (row ∷ [])) (front ++ row ∷ back)
    (SameRows-turned (row ∷ []) (front ++ back))
    (SameRows-trans ((front ++ back) ++ (row ∷ [])) (front ++ (back ++ row ∷ [])) (front ++ row ∷ back)
    (SameRows-is _ _ (append_assoc front back (row ∷ [])))
    (SameRows-after front (back ++ row ∷ []) (row ∷ back) (SameRows-turned back (row ∷ []))))

-- the rows that pass one of two tests, which no row passes both, are those that pass the one and those that pass the
-- other
pub SameRows-split : (p q : LineOrder → Bool) → ((row : LineOrder) → (p row && q row) ≡ false) → (rows : List LineOrder)
    → SameRows (filter (λ row. p row || q row) rows) (filter p rows ++ filter q rows)
SameRows-split p q apart [] = SameRows-refl []
SameRows-split p q apart (row ∷ rows) =
    let rest = SameRows-split p q apart rows in
    (elim (p row) as
    (λ a. p row ≡ a
    → SameRows (cond (a || q row) (row ∷ filter (λ r. p r || q r) rows) (filter (λ r. p r || q r) rows))
    (cond a (row ∷ filter p rows) (filter p rows) ++ cond (q row) (row ∷ filter q rows) (filter q rows))) [
      | true ↦ λ e.
          let out : q row ≡ false = ap (λ a. a && q row) (sym e) ∙ apart row in
          subst (λ b. SameRows (row ∷ filter (λ r. p r || q r) rows)
          ((row ∷ filter p rows) ++ cond b (row ∷ filter q rows) (filter q rows))) (sym out)
          (SameRows-after (row ∷ []) (filter (λ r. p r || q r) rows) (filter p rows ++ filter q rows) rest)
      | false ↦ λ e.
          (elim (q row) as
          (λ b. SameRows (cond b (row ∷ filter (λ r. p r || q r) rows) (filter (λ r. p r || q r) rows))
          (filter p rows ++ cond b (row ∷ filter q rows) (filter q rows))) [
            | true ↦ SameRows-trans (row ∷ filter (λ r. p r || q r) rows) (row ∷ (filter p rows ++ filter q rows))
                (filter p rows ++ row ∷ filter q rows)
                (SameRows-after (row ∷ []) (filter (λ r. p r || q r) rows) (filter p rows ++ filter q rows) rest)
                (SameRows-middle row (filter p rows) (filter q rows))
            | false ↦ rest
          ])
    ]) refl
