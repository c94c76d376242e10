-- Parts one after the other, as they are put out and read. Our own.
use Rattle.std.proofs.Common.{◌≡◌, ℕ, ℤ, ◌+◌, ◌*◌, Bool, true, false, List, [], ◌∷◌, ◌++◌, length, All, refl, sym, ap}
use Rattle.std.proofs.Common.{◌∙◌, subst, arith, append_assoc, append-nil, length-append, FitsSigned, w64, to_z, of_z}
use Rattle.std.proofs.lemmas.Int.{to_z-of_z}
use Rattle.std.specs.List.{flat_map}
use Rattle.std.proofs.lemmas.Grind.{flat_map-append}
use Rattle.std.proofs.lemmas.List.Elements.{All-append, All-cons, All-nil}
use Rattle.cuboid_cells.specs.declared.cell.Cell.{Cell}
use Rattle.cuboid_cells.specs.declared.summary.Summary.{Summary}
use Rattle.cuboid_cells.specs.Reading.{IsReadableCell, ReadsCell, ReadsCells}
use Rattle.cuboid_cells.specs.Spelled.{cell_bytes, cell_of, summary_of}
use Rattle.wire.specs.Spelling.{signed_spelling}

-- three parts were put out
pub three_put : (s0 s1 s2 s3 a b c : List ℕ) → s1 ≡ s0 ++ a → s2 ≡ s1 ++ b → s3 ≡ s2 ++ c → s3 ≡ s0 ++ (a ++ (b ++ c))
three_put s0 s1 s2 s3 a b c one two three =
    three ∙ ap (λ (s : List ℕ). s ++ c) (two ∙ ap (λ (s : List ℕ). s ++ b) one ∙ append_assoc s0 a b)
    ∙ append_assoc s0 (a ++ b) c ∙ ap (λ (s : List ℕ). s0 ++ s) (append_assoc a b c)

-- the numbers of a measure, as a program passes them on
pub summary_put : (s0 : List ℕ) (summary : Summary) → FitsSigned w64 summary.sum → FitsSigned w64 summary.least
    → FitsSigned w64 summary.greatest
    → s0 ++ (signed_spelling (to_z w64 (of_z w64 summary.sum))
    ++ (signed_spelling (to_z w64 (of_z w64 summary.least))
    ++ signed_spelling (to_z w64 (of_z w64 summary.greatest))))
    ≡ s0 ++ summary_of summary
summary_put s0 summary sum_fits least_fits greatest_fits =
    ap (λ (z : ℤ). s0
    ++ (signed_spelling z
    ++ (signed_spelling (to_z w64 (of_z w64 summary.least))
    ++ signed_spelling (to_z w64 (of_z w64 summary.greatest))))) (to_z-of_z w64 summary.sum sum_fits)
    ∙ ap (λ (z : ℤ). s0
    ++ (signed_spelling summary.sum
    ++ (signed_spelling z ++ signed_spelling (to_z w64 (of_z w64 summary.greatest)))))
    (to_z-of_z w64 summary.least least_fits)
    ∙ ap (λ (z : ℤ). s0 ++ (signed_spelling summary.sum ++ (signed_spelling summary.least ++ signed_spelling z)))
    (to_z-of_z w64 summary.greatest greatest_fits)

pub two_passed : (f : ℤ → ℤ → ℤ) (a b : ℤ) → FitsSigned w64 a → FitsSigned w64 b
    → f (to_z w64 (of_z w64 a)) (to_z w64 (of_z w64 b)) ≡ f a b
two_passed f a b a_fits b_fits =
    ap (λ (z : ℤ). f z (to_z w64 (of_z w64 b))) (to_z-of_z w64 a a_fits)
    ∙ ap (λ (z : ℤ). f a z) (to_z-of_z w64 b b_fits)

pub same_summary : (a b c x y z : ℤ) → a ≡ x → b ≡ y → c ≡ z
    → ◌≡◌ {A = Summary} (record { sum = a; least = b; greatest = c }) (record { sum = x; least = y; greatest = z })
same_summary a b c x y z one two three = rw (one, two, three) refl

more_bytes : (grouped : Bool) (count : ℕ) → cell_bytes grouped * (count + 1) ≡ cell_bytes grouped * count
    + cell_bytes grouped
more_bytes false count = omega arith
more_bytes true count = omega arith

-- one cell more was read
pub one_more : (grouped : Bool) (count : ℕ) (start old new : List ℕ) (cells more : List Cell) (cell : Cell)
    → more ≡ cells ++ cell ∷ []
    → ReadsCells grouped count start old cells → ReadsCell grouped old new cell
    → ReadsCells grouped (count + 1) start new more
one_more grouped count start old new cells more cell is before next =
    let f = cell_of grouped in
    let one : flat_map f (cells ++ cell ∷ []) ≡ flat_map f cells ++ f cell =
    flat_map-append f cells (cell ∷ []) ∙ ap (λ (xs : List ℕ). flat_map f cells ++ xs) (append-nil (f cell)) in
    let whole : start ≡ flat_map f (cells ++ cell ∷ []) ++ new =
    before.spelled ∙ ap (λ (xs : List ℕ). flat_map f cells ++ xs) next.spelled
    ∙ sym (append_assoc (flat_map f cells) (f cell) new) ∙ ap (λ (xs : List ℕ). xs ++ new) (sym one) in
    let readable : All (IsReadableCell grouped) (cells ++ cell ∷ []) =
    All-append (IsReadableCell grouped) cells (cell ∷ []) before.readable
    (All-cons (IsReadableCell grouped) cell [] next.readable (All-nil (IsReadableCell grouped))) in
    record {
      readable = subst (All (IsReadableCell grouped)) (sym is) readable;
      many = omega (arith, ap length is, length-append cells (cell ∷ []), before.many);
      spelled = whole ∙ ap (λ (xs : List Cell). flat_map f xs ++ new) (sym is);
      left = omega (arith, before.left, next.left, more_bytes grouped count);
    }
