-- Lemmas of `laws`, by subject.
use Rattle.std.proofs.Common.{◌≡◌, ℕ, ◌==◌, false, List, [], ◌∷◌, ◌++◌, ap, refl, ◌∙◌, inl, inr, append_assoc, sym}
use Rattle.std.proofs.Math.Bool.{or-false}
use Rattle.std.proofs.lemmas.Bool.{cases_Bool, eqb-true}
use Rattle.std.specs.List.{flat_map, list_any}
use Rattle.csv.proofs.RoundTrip.{after-quote-same, field-run, quoted-run}
use Rattle.csv.specs.Machine.{next_record}
use Rattle.csv.specs.Reading.{default_config}
use Rattle.csv.specs.Writing.{default_writer, escaped, needs_byte}
use Rattle.csv.specs.declared.parser.State.TheVariants.{InField, StartField}
use Rattle.report_formats.specs.Escapes.{csv_text, is_mark, needs_marks, quoted_byte, tsv_text, tabbed_byte}
use Rattle.report_formats.specs.Lawful.{meant_by, tsv_read}

-- ==== A field of csv is read back.

-- the bytes between quotation marks are those that the reader's own writer has there
same_quoted : (text : List ℕ) → flat_map quoted_byte text ≡ escaped default_writer text
unfolding escaped
same_quoted [] = refl
same_quoted (b ∷ rest) = elim (cases_Bool (b == 34)) [
  | inl mark ↦ rw mark (ap (λ others. 34 ∷ b ∷ others) (same_quoted rest))
  | inr plain ↦ rw plain (ap (λ others. b ∷ others) (same_quoted rest))
]

same_mark : (b : ℕ) → needs_byte default_writer b ≡ is_mark b
same_mark b = or-false _ ∙ or-false _

same_marks : (text : List ℕ) → list_any (needs_byte default_writer) text ≡ list_any is_mark text
same_marks [] = refl
same_marks (b ∷ rest) = rw (same_mark b, same_marks rest) refl

-- a field without quotation marks has none of the bytes that ask for them
no_marks : (text : List ℕ) → needs_marks text ≡ false → list_any (needs_byte default_writer) text ≡ false
no_marks [] none = cc none
no_marks (b ∷ rest) none = same_marks (b ∷ rest) ∙ none

pub csv-reads_back : (fields : List (List ℕ)) (text : List ℕ) (next : ℕ) (rest : List ℕ) → (next == 34) ≡ false
    → next_record default_config StartField fields [] (csv_text text ++ next ∷ rest)
    ≡ next_record default_config InField fields text (next ∷ rest)
unfolding next_record
csv-reads_back fields text next rest other = elim (cases_Bool (needs_marks text)) [
  | inl needs ↦
      let written : csv_text text ++ next ∷ rest ≡ 34 ∷ (escaped default_writer text ++ 34 ∷ next ∷ rest) =
      rw needs (ap (λ others. 34 ∷ others) (append_assoc (flat_map quoted_byte text) (34 ∷ []) (next ∷ rest)
      ∙ ap (λ others. others ++ 34 ∷ next ∷ rest) (same_quoted text))) in
      rw written (quoted-run fields [] text (next ∷ rest) ∙ after-quote-same fields text next rest other)
  | inr plain ↦ rw plain (rw (no_marks text plain) at (field-run fields text next rest other))
]

-- ==== A field of tsv is read back.

-- a byte that is no backslash means itself
read_plain : (b : ℕ) (rest : List ℕ) → (b == 92) ≡ false → tsv_read (b ∷ rest) ≡ b ∷ tsv_read rest
read_plain b [] plain = refl
read_plain b (next ∷ rest) plain = rw plain refl

-- a byte that is written as a backslash and a letter is read as what that means
read_escape : (b letter : ℕ) (rest : List ℕ) → tabbed_byte b ≡ 92 ∷ letter ∷ [] → meant_by letter ≡ b
    → tsv_read (tsv_text rest) ≡ rest
    → tsv_read (tsv_text (b ∷ rest)) ≡ b ∷ rest
read_escape b letter rest written means read =
    ap (λ front. tsv_read (front ++ tsv_text rest)) written ∙ ap (λ first. first ∷ tsv_read (tsv_text rest)) means
    ∙ ap (λ others. b ∷ others) read

pub tsv-reads_back : (text : List ℕ) → tsv_read (tsv_text text) ≡ text
tsv-reads_back [] = refl
tsv-reads_back (b ∷ rest) = elim (cases_Bool (b == 9)) [
  | inl tab ↦ read_escape b 116 rest (rw tab refl) (sym (eqb-true b 9 tab)) (tsv-reads_back rest)
  | inr no_tab ↦ elim (cases_Bool (b == 10)) [
    | inl feed ↦ read_escape b 110 rest (rw (no_tab, feed) refl) (sym (eqb-true b 10 feed)) (tsv-reads_back rest)
    | inr no_feed ↦ elim (cases_Bool (b == 13)) [
      | inl return ↦ read_escape b 114 rest (rw (no_tab, no_feed, return) refl) (sym (eqb-true b 13 return))
          (tsv-reads_back rest)
      | inr no_return ↦ elim (cases_Bool (b == 92)) [
        | inl slash ↦ read_escape b 92 rest (rw (no_tab, no_feed, no_return, slash) refl) (sym (eqb-true b 92 slash))
            (tsv-reads_back rest)
        | inr plain ↦
            let written : tabbed_byte b ≡ b ∷ [] = rw (no_tab, no_feed, no_return, plain) refl in
            ap (λ front. tsv_read (front ++ tsv_text rest)) written ∙ read_plain b (tsv_text rest) plain
            ∙ ap (λ others. b ∷ others) (tsv-reads_back rest)
      ]
    ]
  ]
]
