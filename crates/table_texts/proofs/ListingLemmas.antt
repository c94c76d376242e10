-- The lines of members, one after the other.
use Rattle.std.proofs.Common.{◌≡◌, ◌∙◌, sym, ap, subst, ℕ, ◌+◌, ◌<◌, List, [], ◌∷◌, ◌++◌, length, map, take, get_or}
use Rattle.std.proofs.Common.{append-nil, Option}
use Rattle.std.specs.Fmt.{decimal}
use Rattle.std.specs.Io.KnownBytes.{Appends}
use Rattle.std.specs.List.{flat_map}
use Rattle.std.proofs.KnownBytes.{Appends-trans}
use Rattle.std.proofs.lemmas.Grind.{flat_map-append}
use Rattle.std.proofs.lemmas.List.{take_more}
use Rattle.std.proofs.lemmas.List.Concat.{flat_map-cons}
use Rattle.cube_model.specs.declared.attr.Attr.{Attr}
use Rattle.cube_model.specs.declared.rows.DimRows.{DimRows}
use Rattle.cube_model.specs.Attributes.{axis_of}
use Rattle.cube_model.specs.Places.{attr_members, row_count_of, texts_of, text_at}
use Rattle.table_texts.specs.declared.tallies.Tally.{Tally}
use Rattle.table_texts.specs.Members.{member_line, rows_with, uppers_of}
use Rattle.table_texts.specs.Tallies.{IsTally}
use Rattle.ssb_reports.specs.Report.{row_text}
use Rattle.table_texts.proofs.Counting.{all-rows, first-row}

up_to_next : {A : Type 0} (text : A → List ℕ) (items : List A) (i : ℕ) (none : A) → i < length items
    → flat_map text (take (i + 1) items) ≡ flat_map text (take i items) ++ text (get_or items i none)
up_to_next text items i none within =
    ap (flat_map text) (take_more items i none within)
    ∙ flat_map-append text (take i items) (get_or items i none ∷ [])
    ∙ ap (λ rest. flat_map text (take i items) ++ rest) (flat_map-cons text (get_or items i none) []
    ∙ append-nil (text (get_or items i none)))

-- the texts of the items before one were written, and then its own
pub Appends-next : {A : Type 0} (text : A → List ℕ) (items : List A) (i : ℕ) (none : A) (old mid new : Option (List ℕ))
    → i < length items
    → Appends old mid (flat_map text (take i items)) → Appends mid new (text (get_or items i none))
    → Appends old new (flat_map text (take (i + 1) items))
Appends-next text items i none old mid new within before here =
    subst (Appends old new) (sym (up_to_next text items i none within))
    (Appends-trans old mid new (flat_map text (take i items)) (text (get_or items i none)) before here)

-- the fields that a tally gives are those of the member's line
pub line-is : (rows : DimRows) (attr : Attr) (rank : ℕ) (lt : rank < length (attr_members rows attr)) (tally : Tally)
    (is : IsTally (texts_of rows attr) (row_count_of rows (axis_of attr)) (get_or (attr_members rows attr) rank [])
    tally)
    (member : List ℕ) (uppers : List Attr) (texts : List (List ℕ))
    → member ≡ get_or (attr_members rows attr) rank [] → uppers ≡ uppers_of attr
    → texts ≡ map (λ upper. text_at rows upper tally.first) uppers
    → row_text (member ∷ (texts ++ decimal tally.rows ∷ []))
    ≡ member_line rows attr (get_or (attr_members rows attr) rank [])
line-is rows attr rank lt tally is member uppers texts member_is uppers_are texts_are =
    (λ i. row_text (member_is i ∷ (texts_are i ++ decimal (all-rows rows attr rank lt tally is i) ∷ [])))
    ∙ (λ i. row_text
    (get_or (attr_members rows attr) rank []
    ∷ (map (λ upper. text_at rows upper (first-row rows attr rank lt tally is i)) (uppers_are i)
    ++ decimal (rows_with rows attr (get_or (attr_members rows attr) rank [])) ∷ [])))
