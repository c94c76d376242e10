-- Lemmas of `reading`, by subject.
use Rattle.std.proofs.Common.{◌≡◌, ℕ, Bool, true, false, not, ◌<◌, ◌≤◌, List, ◌++◌, length, take, drop, codes, refl}
use Rattle.std.proofs.Common.{sym, ap, ◌∙◌, arith, length-append, true≢false, ◌⊎◌, inl, inr, Result, Ok, Err, IfErr}
use Rattle.std.proofs.Common.{◌&&◌, ◌+◌, ◌*◌, ◌^◌, ◌↔◌, IsTrue}
use Rattle.std.proofs.Math.Seq.{take-append_seam}
use Rattle.std.proofs.lemmas.List.{append_cancel_left}
use Rattle.std.specs.Str.{bytes_eq}
use Rattle.cube_model.specs.Limits.{most_batch_rows}
use Rattle.wire.specs.Spelling.{spelling}
use Rattle.wire.specs.Reading.{ReadsNumber, TakesBytes}
use Rattle.wire.proofs.CallerLemmas.{length-spelling}
use Rattle.dictionary.proofs.CallerLemmas.{bytes_eq-refl, bytes_eq-same}
use Rattle.column_segment.specs.Reading.{HasHeader, HasNumbers}
use Rattle.column_segment.specs.Segment.{segment_header}
use Rattle.column_segment.proofs.CallerLemmas.{header-append}
use Rattle.column_segment.proofs.Passes.{header_holds}
use Rattle.std.specs.Result.{IsErrAnd}
use Rattle.cube_model.specs.declared.fault.Fault.{Fault}
use Rattle.cube_model.specs.declared.fault.Fault.TheVariants.{BadLayout, Memory}
use Rattle.column_kernels.specs.Checks.{all_below}
use Rattle.column_segment.specs.Columns.{width_of}
use Rattle.column_segment.specs.Decoded.{amounts_in}
use Rattle.column_segment.specs.declared.columns.FactColumn.{FactColumn}
use Rattle.column_segment.specs.declared.columns.FactColumn.TheVariants.{OrderKey, LineNumber, CustKey, PartKey}
use Rattle.column_segment.specs.declared.columns.FactColumn.TheVariants.{SuppKey, OrderDate, Quantity, ExtendedPrice}
use Rattle.column_segment.specs.declared.columns.FactColumn.TheVariants.{OrdTotalPrice, Discount, Revenue, SupplyCost}
use Rattle.column_segment.specs.declared.columns.FactColumn.TheVariants.{Tax}

-- ==== What the parts of a header that were read say of the bytes. Our own.

-- what a comparison of a name says
pub other_name : (name own : List ℕ) (differ : Bool) → differ ≡ not (bytes_eq name own) → differ ≡ true → name ≡ own → ⊥
other_name name own differ is so same =
    true≢false (sym so ∙ is ∙ ap (λ (l : List ℕ). not (bytes_eq l own)) same ∙ ap not (bytes_eq-refl own))

pub own_name : (name own : List ℕ) (differ : Bool) → differ ≡ not (bytes_eq name own) → differ ≡ false → name ≡ own
own_name name own differ is so = by (bytes_eq name own) refl
  where
    by : (same : Bool) → bytes_eq name own ≡ same → name ≡ own
    by true alike = bytes_eq-same name own alike
    by false apart = absurd (true≢false (sym (ap not apart) ∙ sym is ∙ so))

module _ (old r0 name : List ℕ) (taken : TakesBytes 4 old r0 name) where
  in_parts : (number rows : ℕ) → HasHeader old number rows
      → old ≡ codes "SEG1" ++ (spelling 4 number ++ (spelling 4 rows ++ drop 12 old))
  in_parts number rows is = is.spelled ∙ header-append number rows (drop 12 old)

  name_is : (number rows : ℕ) → HasHeader old number rows → name ≡ codes "SEG1"
  name_is number rows is =
      sym (take-append_seam name r0) ∙ ap (λ (n : ℕ). take n (name ++ r0)) taken.many
      ∙ ap (take 4) (sym taken.spelled ∙ in_parts number rows is)

  after_name : (number rows : ℕ) → HasHeader old number rows
      → r0 ≡ spelling 4 number ++ (spelling 4 rows ++ drop 12 old)
  after_name number rows is =
      append_cancel_left (codes "SEG1") r0 (spelling 4 number ++ (spelling 4 rows ++ drop 12 old))
      (ap (λ (front : List ℕ). front ++ r0) (sym (name_is number rows is)) ∙ sym taken.spelled
      ∙ in_parts number rows is)

  pub none_name : (name ≡ codes "SEG1" → ⊥) → (number rows : ℕ) → HasHeader old number rows → ⊥
  none_name differs = λ number rows is. differs (name_is number rows is)

  pub none_number : length r0 < 4 → (number rows : ℕ) → HasHeader old number rows → ⊥
  none_number short = λ number rows is.
      absurd (omega (
        arith,
        ap length (after_name number rows is),
        length-append (spelling 4 number) (spelling 4 rows ++ drop 12 old),
        length-spelling 4 number,
        short,
      ))

  module _ (r1 : List ℕ) (n : ℕ) (numbered : ReadsNumber 4 r0 r1 n) where
    after_number : (number rows : ℕ) → HasHeader old number rows → r1 ≡ spelling 4 rows ++ drop 12 old
    after_number number rows is =
        (numbered.reads_back number (spelling 4 rows ++ drop 12 old) (omega (arith, is.fits))
        (after_name number rows is)).1

    pub none_rows : length r1 < 4 → (number rows : ℕ) → HasHeader old number rows → ⊥
    none_rows short = λ number rows is.
        absurd (omega (
          arith,
          ap length (after_number number rows is),
          length-append (spelling 4 rows) (drop 12 old),
          length-spelling 4 rows,
          short,
        ))

    module _ (r2 : List ℕ) (k : ℕ) (counted : ReadsNumber 4 r1 r2 k) where
      pub none_many : most_batch_rows < k → (number rows : ℕ) → HasHeader old number rows → ⊥
      none_many many = λ number rows is.
          let back = counted.reads_back rows (drop 12 old) (omega (arith, is.few)) (after_number number rows is) in
          absurd (omega (arith, back.0, is.few, many))

      pub header_is : name ≡ codes "SEG1" → k ≤ most_batch_rows → HasHeader old n k
      header_is own few =
          let parts : old ≡ segment_header n k ++ r2 =
          taken.spelled ∙ ap (λ (front : List ℕ). front ++ r0) own
          ∙ ap (λ (l : List ℕ). codes "SEG1" ++ l)
          (numbered.spelled ∙ ap (λ (l : List ℕ). spelling 4 n ++ l) counted.spelled)
          ∙ sym (header-append n k r2) in
          record {
            spelled = parts ∙ ap (λ (l : List ℕ). segment_header n k ++ l) (sym (header_holds old r2 n k parts));
            fits = omega (arith, numbered.fits);
            few = few;
          }

-- ==== Refusals that are handed on. Our own.

-- what a refusal says of the bytes
abbrev pub Says : Type 0 → Fault → Type 0
Says None fault = (fault ≡ Memory) ⊎ ((fault ≡ BadLayout) × None)

weaker : {A B : Type 0} (fault : Fault) → (A → B) → Says A fault → Says B fault
weaker fault so (inl memory) = inl memory
weaker fault so (inr bad) = inr (bad.0, so bad.1)

-- the refusal of a call is that of its caller
pub refused : {T A B : Type 0} (result : Result T Fault) (fault : Fault) → IsErrAnd result (λ own. own ≡ fault)
    → (A → B) → Says A fault → IfErr result (Says B)
refused (Ok value) fault is so says = absurd is
refused {A = A} (Err own) fault is so says = weaker own so (rw is says)

-- ==== Tests that say together that the columns of numbers are there. Our own.

each_amount : (P : FactColumn → Type 0) → P OrderKey → P ExtendedPrice → P OrdTotalPrice → P Revenue → P SupplyCost
    → (column : FactColumn) → width_of column ≡ 8 → P column
each_amount P one two three four five OrderKey wide = one
each_amount P one two three four five LineNumber wide = absurd (omega (arith, wide))
each_amount P one two three four five CustKey wide = absurd (omega (arith, wide))
each_amount P one two three four five PartKey wide = absurd (omega (arith, wide))
each_amount P one two three four five SuppKey wide = absurd (omega (arith, wide))
each_amount P one two three four five OrderDate wide = absurd (omega (arith, wide))
each_amount P one two three four five Quantity wide = absurd (omega (arith, wide))
each_amount P one two three four five ExtendedPrice wide = two
each_amount P one two three four five OrdTotalPrice wide = three
each_amount P one two three four five Discount wide = absurd (omega (arith, wide))
each_amount P one two three four five Revenue wide = four
each_amount P one two three four five SupplyCost wide = five
each_amount P one two three four five Tax wide = absurd (omega (arith, wide))

both : (a b : Bool) → (a && b) ≡ true → (a ≡ true) × (b ≡ true)
both true b is = (refl, is)
both false b is = absurd (true≢false (sym is))

module _ (bytes : List ℕ) (rows : ℕ) (room : 12 + 63 * rows ≤ length bytes) where
  abbrev fine : FactColumn → Bool
  fine column = all_below (2 ^ 63) (amounts_in bytes rows column)

  pub has_all : (a b c d e : Bool) → a ≡ fine OrderKey → b ≡ fine ExtendedPrice → c ≡ fine OrdTotalPrice
      → d ≡ fine Revenue → e ≡ fine SupplyCost
      → IsTrue ((((a && b) && c) && d) && e) ↔ HasNumbers bytes rows
  has_all a b c d e one two three four five = (
    λ so.
        let p = both (((a && b) && c) && d) e so in
        let q = both ((a && b) && c) d p.0 in
        let r = both (a && b) c q.0 in
        let s = both a b r.0 in
        record {
          room = room;
          amounts = each_amount (λ column. fine column ≡ true) (sym one ∙ s.0) (sym two ∙ s.1) (sym three ∙ r.1)
              (sym four ∙ q.1) (sym five ∙ p.1);
        },
    λ has.
        let f = has.amounts in
        λ i. ((((one ∙ f OrderKey refl) i && (two ∙ f ExtendedPrice refl) i) && (three ∙ f OrdTotalPrice refl) i)
        && (four ∙ f Revenue refl) i) && (five ∙ f SupplyCost refl) i,
  )
