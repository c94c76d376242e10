-- The members of an attribute as a text: a header, a line for each member in order by bytes, and how many there are.
-- Our own.
use Rattle.std.specs.Prelude.{ℕ, List, [], ◌∷◌, ◌++◌, map, length, codes, count_by}
use Rattle.std.specs.Fmt.{decimal}
use Rattle.std.specs.List.{flat_map, position_or_len}
use Rattle.std.specs.Str.{bytes_eq}
use Rattle.cube_model.specs.declared.attr.Attr.{Attr}
use Rattle.cube_model.specs.declared.attr.Attr.TheVariants.{CustomerCity, CustomerNation, CustomerRegion, SupplierCity}
use Rattle.cube_model.specs.declared.attr.Attr.TheVariants.{SupplierNation, SupplierRegion, PartBrand1, PartCategory}
use Rattle.cube_model.specs.declared.attr.Attr.TheVariants.{PartMfgr, DateKey, DateYearmonthnum, DateYear}
use Rattle.cube_model.specs.declared.attr.Attr.TheVariants.{DateYearmonth, DateWeeknuminyear}
use Rattle.cube_model.specs.declared.rows.DimRows.{DimRows}
use Rattle.cube_model.specs.Names.{attr_name}
use Rattle.cube_model.specs.Places.{attr_members, texts_of, text_at}
use Rattle.ssb_reports.specs.Report.{row_text}

-- the attributes of the levels above that of an attribute, the next one first
abbrev pub uppers_of : Attr → List Attr
uppers_of CustomerCity = CustomerNation ∷ CustomerRegion ∷ []
uppers_of CustomerNation = CustomerRegion ∷ []
uppers_of CustomerRegion = []
uppers_of SupplierCity = SupplierNation ∷ SupplierRegion ∷ []
uppers_of SupplierNation = SupplierRegion ∷ []
uppers_of SupplierRegion = []
uppers_of PartBrand1 = PartCategory ∷ PartMfgr ∷ []
uppers_of PartCategory = PartMfgr ∷ []
uppers_of PartMfgr = []
uppers_of DateKey = DateYearmonthnum ∷ DateYear ∷ []
uppers_of DateYearmonthnum = DateYear ∷ []
uppers_of DateYear = []
uppers_of DateYearmonth = []
uppers_of DateWeeknuminyear = []

-- where the first row with a member is
abbrev pub first_with : DimRows → Attr → List ℕ → ℕ
first_with rows attr member = position_or_len (bytes_eq member) (texts_of rows attr)

-- how many rows of its dimension have a member
abbrev pub rows_with : DimRows → Attr → List ℕ → ℕ
rows_with rows attr member = count_by (bytes_eq member) (texts_of rows attr)

-- a member, the members above it, which are those of the first row with it, and how many rows have it
abbrev pub member_line : DimRows → Attr → List ℕ → List ℕ
member_line rows attr member = row_text (
    member ∷ (map (λ upper. text_at rows upper (first_with rows attr member)) (uppers_of attr)
    ++ decimal (rows_with rows attr member) ∷ []))

-- the names of the attributes, and `rows`
abbrev pub header_line : Attr → List ℕ
header_line attr = row_text (map attr_name (attr ∷ uppers_of attr) ++ codes "rows" ∷ [])

-- how many members there are
abbrev pub members_line : ℕ → List ℕ
members_line count = codes "members " ++ (decimal count ++ 10 ∷ [])

-- the list of the members of an attribute
abbrev pub members_text : DimRows → Attr → List ℕ
members_text rows attr =
    header_line attr
    ++ (flat_map (member_line rows attr) (attr_members rows attr) ++ members_line (length (attr_members rows attr)))
