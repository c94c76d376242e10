-- Parts that are written one after the other. Our own.
use Rattle.std.proofs.Common.{◌≡◌, ◌∙◌, sym, ap, ℕ, List, [], ◌∷◌, ◌++◌, length, append_assoc, append-nil}
use Rattle.std.specs.List.{flat_map}
use Rattle.std.proofs.lemmas.Grind.{flat_map-append}
use Rattle.cube_model.specs.declared.rows.LineOrder.{LineOrder}
use Rattle.column_segment.specs.Columns.{figure_columns, key_columns, number_columns, text_columns}
use Rattle.column_segment.specs.Segment.{segment_header, number_column, segment_of, text_column}

-- a part after others is a part after their start
pub then_part : (s0 s1 s2 front part : List ℕ) → s1 ≡ s0 ++ front → s2 ≡ s1 ++ part → s2 ≡ s0 ++ (front ++ part)
then_part s0 s1 s2 front part first second = second ∙ ap (λ (l : List ℕ). l ++ part) first ∙ append_assoc s0 front part

-- parts of a list, one more
pub parts_more : {X : Type 0} (f : X → List ℕ) (done : List X) (x : X) (s0 s1 s2 : List ℕ) → s1 ≡ s0 ++ flat_map f done
    → s2 ≡ s1 ++ f x
    → s2 ≡ s0 ++ flat_map f (done ++ x ∷ [])
parts_more f done x s0 s1 s2 first second =
    then_part s0 s1 s2 (flat_map f done) (f x) first second
    ∙ ap (λ (l : List ℕ). s0 ++ (flat_map f done ++ l)) (sym (append-nil (f x)))
    ∙ ap (λ (l : List ℕ). s0 ++ l) (sym (flat_map-append f done (x ∷ [])))

-- before the first part
pub no_part : {X : Type 0} (f : X → List ℕ) (s : List ℕ) → s ≡ s ++ flat_map f []
no_part f s = sym (append-nil s)

-- a batch is its header, its keys, its figures and its texts
pub batch_put : (number : ℕ) (rows : List LineOrder) (s0 s1 s2 s3 s4 : List ℕ)
    → s1 ≡ s0 ++ segment_header number (length rows)
    → s2 ≡ s1 ++ flat_map (number_column rows) key_columns → s3 ≡ s2 ++ flat_map (number_column rows) figure_columns
    → s4 ≡ s3 ++ flat_map (text_column rows) text_columns → s4 ≡ s0 ++ segment_of number rows
batch_put number rows s0 s1 s2 s3 s4 header keys figures texts =
    let head : List ℕ = segment_header number (length rows) in
    let key : List ℕ = flat_map (number_column rows) key_columns in
    let figure : List ℕ = flat_map (number_column rows) figure_columns in
    let text : List ℕ = flat_map (text_column rows) text_columns in
    let both : s3 ≡ s1 ++ flat_map (number_column rows) number_columns =
    then_part s1 s2 s3 key figure keys figures
    ∙ ap (λ (l : List ℕ). s1 ++ l) (sym (flat_map-append (number_column rows) key_columns figure_columns)) in
    then_part s0 s1 s4 head (flat_map (number_column rows) number_columns ++ text) header
    (then_part s1 s3 s4 (flat_map (number_column rows) number_columns) text both texts)
