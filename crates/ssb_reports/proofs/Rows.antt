-- The fields of two lists as one row.
use Rattle.std.proofs.Common.{◌≡◌, ℕ, ◌+◌, ◌-◌, ◌<◌, List, [], ◌∷◌, ◌++◌, length, take, drop, get_or, add-one}
use Rattle.std.proofs.Common.{drop-cons, ap, sym, refl, ◌∙◌, append_assoc, append-nil}
use Rattle.std.specs.List.{flat_map, join_with_byte}
use Rattle.std.proofs.lemmas.List.{get_or_default, take-append-drop}
use Rattle.std.proofs.lemmas.List.Concat.{flat_map-cons}
use Rattle.std.proofs.lemmas.Grind.{flat_map-append}
use Rattle.ssb_reports.specs.Parted.{parted, lead_after}

joined : (separator : ℕ) (fields : List (List ℕ)) → join_with_byte separator fields ≡ parted (separator ∷ []) [] fields
joined separator [] = refl
joined separator (field ∷ []) = sym (append-nil field)
joined separator (field ∷ next ∷ fields) = ap (λ rest. field ++ (separator ∷ rest)) (joined separator (next ∷ fields))

after_bar : (bar : List ℕ) (fields others : List (List ℕ)) → parted bar bar (fields ++ others) ≡ parted bar bar fields
    ++ parted bar bar others
after_bar bar [] others = refl
after_bar bar (field ∷ fields) others =
    ap (λ rest. bar ++ (field ++ rest)) (after_bar bar fields others)
    ∙ ap (λ rest. bar ++ rest) (sym (append_assoc field (parted bar bar fields) (parted bar bar others)))
    ∙ sym (append_assoc bar (field ++ parted bar bar fields) (parted bar bar others))

after : (bar : List ℕ) (fields others : List (List ℕ)) → parted bar [] (fields ++ others) ≡ parted bar [] fields
    ++ parted bar (lead_after bar fields) others
after bar [] others = refl
after bar (field ∷ fields) others =
    ap (λ rest. field ++ rest) (after_bar bar fields others)
    ∙ sym (append_assoc field (parted bar bar fields) (parted bar bar others))

-- two lists of fields joined: the one, and the other with its lead
pub joined-append : (separator : ℕ) (fields others : List (List ℕ))
    → join_with_byte separator (fields ++ others)
    ≡ parted (separator ∷ []) [] fields ++ parted (separator ∷ []) (lead_after (separator ∷ []) fields) others
joined-append separator fields others = joined separator (fields ++ others) ∙ after (separator ∷ []) fields others

-- the field at a place, and those after it
pub parted-at : (bar lead : List ℕ) (fields : List (List ℕ)) (place : ℕ) → place < length fields
    → parted bar lead (drop place fields) ≡ lead ++ (get_or fields place [] ++ parted bar bar (drop (place + 1) fields))
parted-at bar lead fields place within =
    let rest : drop place fields ≡ get_or fields place [] ∷ drop (place + 1) fields =
    rw (add-one) (drop-cons fields place [] within) in
    ap (parted bar lead) rest

-- the texts before an item, its own, and those after it
pub flat_map-around : {A : Type 0} (text : A → List ℕ) (items : List A) (i : ℕ) (item : A) → i < length items
    → item ≡ get_or items i item → flat_map text items ≡ flat_map text (take i items)
    ++ (text item ++ flat_map text (drop (i + 1) items))
flat_map-around text items i item within is =
    ap (flat_map text)
    (sym (take-append-drop i items)
    ∙ ap (λ rest. take i items ++ rest) (rw (add-one) (drop-cons items i item within)))
    ∙ flat_map-append text (take i items) (get_or items i item ∷ drop (i + 1) items)
    ∙ ap (λ one. flat_map text (take i items) ++ one) (flat_map-cons text (get_or items i item) (drop (i + 1) items))
    ∙ ap (λ one. flat_map text (take i items) ++ (text one ++ flat_map text (drop (i + 1) items))) (sym is)

-- the same, of the item that the list has there
pub next_text : {A : Type 0} (text : A → List ℕ) (items : List A) (i : ℕ) (d : A) → i < length items
    → flat_map text items ≡ flat_map text (take i items)
    ++ (text (get_or items i d) ++ flat_map text (drop (i + 1) items))
next_text text items i d within =
    flat_map-around text items i (get_or items i d) within (get_or_default items i d (get_or items i d) within)
