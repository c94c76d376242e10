-- Fields that are taken one after the other.
use Rattle.std.proofs.Common.{◌≡◌, ◌∙◌, sym, ap, refl, subst, ℕ, ◌+◌, ◌<◌, List, [], ◌∷◌, ◌++◌, length, map}
use Rattle.std.proofs.Common.{append_assoc, append-nil, Option, None, Some, ◌⊎◌, inl, inr, arith}
use Rattle.std.specs.List.{AllByRecursion, join_with_byte}
use Rattle.std.proofs.lemmas.Option.{none-some, same_Some}
use Rattle.cube_model.specs.declared.answer.Line.{Line}
use Rattle.cube_model.specs.declared.answer.Member.{Member}
use Rattle.cube_model.specs.declared.answer.Value.{Value}
use Rattle.cube_model.specs.declared.query.Query.{Query}
use Rattle.partial_reports.specs.Readable.{HasNoByte, IsPlainMember, IsReadableLine, IsWholeNumber}
use Rattle.partial_reports.proofs.CallerLemmas.{line_bar}
use Rattle.ssb_reports.specs.Report.{member_text, value_text}
use Rattle.partial_reports.specs.Reading.{FieldsAreLeft, line_fields}

-- the last field
pub record IsLastField (text field : List ℕ) (others : List (List ℕ)) : Type 0 where
  pub alone : text ≡ field
  pub none : others ≡ []
  pub lacks : HasNoByte 124 text

-- a field, a bar and more fields
pub record IsNextField (text field : List ℕ) (others : List (List ℕ)) : Type 0 where
  pub back : List ℕ
  pub spelled : text ≡ field ++ 124 ∷ back
  pub lacks : HasNoByte 124 field
  pub left : FieldsAreLeft (Some back) others

pub last_or_next_field : (left : Option (List ℕ)) (text field : List ℕ) (others : List (List ℕ)) → left ≡ Some text
    → FieldsAreLeft left (field ∷ others)
    → IsLastField text field others ⊎ IsNextField text field others
last_or_next_field left text field [] is fields =
    let alone : text ≡ field = same_Some text field (sym is ∙ fields.joined) in
    inl (record { alone = alone; none = refl; lacks = subst (HasNoByte 124) (sym alone) fields.each.0 })
last_or_next_field left text field (next ∷ others) is fields = inr (record {
  back = join_with_byte 124 (next ∷ others);
  spelled = same_Some text (join_with_byte 124 (field ∷ next ∷ others)) (sym is ∙ fields.joined);
  lacks = fields.each.0;
  left = record { each = fields.each.1; joined = refl };
})

pub some_left : (field : List ℕ) (others : List (List ℕ)) → FieldsAreLeft None (field ∷ others) → ⊥
some_left field others fields = none-some (join_with_byte 124 (field ∷ others)) fields.joined

-- no field is left, of none
pub none_left : (others : List (List ℕ)) → others ≡ [] → FieldsAreLeft None others
none_left [] e = record { each = tt; joined = tt }
none_left (field ∷ others) e = cc

-- what is left of members, after some of them were read
pub record KeyLeft (key read : List Member) (columns taken : ℕ) (left : Option (List ℕ)) (others : List (List ℕ)) : Type
    0 where
  pub rest : List Member
  pub is : key ≡ read ++ rest
  pub size : taken + length rest ≡ columns
  pub plain : AllByRecursion IsPlainMember rest
  pub fields : FieldsAreLeft left (map member_text rest ++ others)

-- another member
pub record IsNextMember (key read : List Member) (columns taken : ℕ) (left : Option (List ℕ))
    (others : List (List ℕ)) : Type 0 where
  pub member : Member
  pub plain : IsPlainMember member
  pub more : List (List ℕ)
  pub fields : FieldsAreLeft left (member_text member ∷ more)
  pub after : (new : List Member) (moved : Option (List ℕ)) → new ≡ read ++ member ∷ [] → FieldsAreLeft moved more
      → KeyLeft key new columns (taken + 1) moved others

pub next_member : (key read : List Member) (columns taken : ℕ) (left : Option (List ℕ)) (others : List (List ℕ))
    → taken < columns
    → KeyLeft key read columns taken left others → IsNextMember key read columns taken left others
next_member key read columns taken left others less k = by k.rest k.is k.size k.plain k.fields
  where
    by : (rest : List Member) → key ≡ read ++ rest → taken + length rest ≡ columns → AllByRecursion IsPlainMember rest
        → FieldsAreLeft left (map member_text rest ++ others)
        → IsNextMember key read columns taken left others
    by [] is size plain fields = absurd (omega (arith, size, less))
    by (member ∷ rest) is size plain fields = record {
      member = member;
      plain = plain.0;
      more = map member_text rest ++ others;
      fields = fields;
      after = λ new moved added more. record {
        rest = rest;
        is = is ∙ sym (append_assoc read (member ∷ []) rest) ∙ ap (λ l. l ++ rest) (sym added);
        size = omega (arith, size);
        plain = plain.1;
        fields = more;
      };
    }

pub all_members : (key read : List Member) (columns : ℕ) (left : Option (List ℕ)) (others : List (List ℕ))
    → KeyLeft key read columns columns left others → (read ≡ key) × FieldsAreLeft left others
all_members key read columns left others k = by k.rest k.is k.size k.fields
  where
    by : (rest : List Member) → key ≡ read ++ rest → columns + length rest ≡ columns
        → FieldsAreLeft left (map member_text rest ++ others) → (read ≡ key) × FieldsAreLeft left others
    by [] is size fields = (sym (is ∙ append-nil read), fields)
    by (member ∷ rest) is size fields = absurd (omega (arith, size))

-- what is left of numbers, after some of them were read
pub record ValuesLeft (values read : List Value) (aggregates taken : ℕ) (left : Option (List ℕ)) : Type 0 where
  pub rest : List Value
  pub is : values ≡ read ++ rest
  pub size : taken + length rest ≡ aggregates
  pub whole : AllByRecursion IsWholeNumber rest
  pub fields : FieldsAreLeft left (map value_text rest)

-- another number
pub record IsNextValue (values read : List Value) (aggregates taken : ℕ) (left : Option (List ℕ)) : Type 0 where
  pub value : Value
  pub whole : IsWholeNumber value
  pub more : List (List ℕ)
  pub fields : FieldsAreLeft left (value_text value ∷ more)
  pub after : (new : List Value) (moved : Option (List ℕ)) → new ≡ read ++ value ∷ [] → FieldsAreLeft moved more
      → ValuesLeft values new aggregates (taken + 1) moved

pub next_value : (values read : List Value) (aggregates taken : ℕ) (left : Option (List ℕ)) → taken < aggregates
    → ValuesLeft values read aggregates taken left → IsNextValue values read aggregates taken left
next_value values read aggregates taken left less k = by k.rest k.is k.size k.whole k.fields
  where
    by : (rest : List Value) → values ≡ read ++ rest → taken + length rest ≡ aggregates
        → AllByRecursion IsWholeNumber rest → FieldsAreLeft left (map value_text rest)
        → IsNextValue values read aggregates taken left
    by [] is size whole fields = absurd (omega (arith, size, less))
    by (value ∷ rest) is size whole fields = record {
      value = value;
      whole = whole.0;
      more = map value_text rest;
      fields = fields;
      after = λ new moved added more. record {
        rest = rest;
        is = is ∙ sym (append_assoc read (value ∷ []) rest) ∙ ap (λ l. l ++ rest) (sym added);
        size = omega (arith, size);
        whole = whole.1;
        fields = more;
      };
    }

pub all_values : (values read : List Value) (aggregates : ℕ) (left : Option (List ℕ))
    → ValuesLeft values read aggregates aggregates left → (read ≡ values) × FieldsAreLeft left []
all_values values read aggregates left k = by k.rest k.is k.size k.fields
  where
    by : (rest : List Value) → values ≡ read ++ rest → aggregates + length rest ≡ aggregates
        → FieldsAreLeft left (map value_text rest) → (read ≡ values) × FieldsAreLeft left []
    by [] is size fields = (sym (is ∙ append-nil read), fields)
    by (value ∷ rest) is size fields = absurd (omega (arith, size))

-- the fields of a line are left of its text
all_joined : (fields : List (List ℕ)) (text : List ℕ) → AllByRecursion (HasNoByte 124) fields
    → text ≡ join_with_byte 124 fields → FieldsAreLeft (Some text) fields
all_joined [] text each e = record { each = tt; joined = e }
all_joined (field ∷ fields) text each e = record { each = each; joined = ap Some e }

pub line_left : (query : Query) (line : Line) (text : List ℕ) → IsReadableLine query line
    → text ≡ join_with_byte 124 (line_fields line) → FieldsAreLeft (Some text) (line_fields line)
line_left query line text is e = all_joined (line_fields line) text (line_bar query line is) e
