-- Members that passed the test can be read back.
use Rattle.std.proofs.Common.{◌≡◌, ◌∙◌, sym, refl, ap, ℕ, ◌==◌, Bool, true, false, ◌&&◌, ◌||◌, not, List, [], ◌∷◌}
use Rattle.std.proofs.Common.{codes}
use Rattle.std.specs.List.{AllByRecursion, list_all}
use Rattle.std.specs.Str.{bytes_eq}
use Rattle.std.proofs.lemmas.Bool.{false_from_ne_true}
use Rattle.std.proofs.lemmas.Slice.Eq.{bytes_eq-Decides}
use Rattle.cube_model.specs.declared.answer.Member.{Member}
use Rattle.cube_model.specs.declared.answer.Member.TheVariants.{All, Text}
use Rattle.partial_reports.specs.Readable.{HasNoByte, IsPlainMember, IsPlainText}
use Rattle.partial_reports.specs.Members.{ends_field, is_plain_member, is_plain_text}

record Both (a b : Bool) : Type 0 where
  first : a ≡ true
  second : b ≡ true

both : (a b : Bool) → (a && b) ≡ true → Both a b
both true true e = record { first = refl; second = refl }
both true false e = absurd (cc)
both false b e = absurd (cc)

record Neither (a b : Bool) : Type 0 where
  first : a ≡ false
  second : b ≡ false

neither : (a b : Bool) → not (a || b) ≡ true → Neither a b
neither false false e = record { first = refl; second = refl }
neither false true e = absurd (cc)
neither true b e = absurd (cc)

no_bar : (text : List ℕ) → list_all (λ byte. not (ends_field byte)) text ≡ true → HasNoByte 124 text
no_bar [] e = tt
no_bar (byte ∷ text) e =
    let parts = both (not (ends_field byte)) (list_all (λ b. not (ends_field b)) text) e in
    ((neither (byte == 124) (byte == 10) parts.first).first, no_bar text parts.second)

no_lf : (text : List ℕ) → list_all (λ byte. not (ends_field byte)) text ≡ true → HasNoByte 10 text
no_lf [] e = tt
no_lf (byte ∷ text) e =
    let parts = both (not (ends_field byte)) (list_all (λ b. not (ends_field b)) text) e in
    ((neither (byte == 124) (byte == 10) parts.first).second, no_lf text parts.second)

turned : (b : Bool) → not b ≡ true → b ≡ true → ⊥
turned true e f = cc
turned false e f = cc

plain_text : (text : List ℕ) → is_plain_text text ≡ true → IsPlainText text
plain_text text e =
    let parts = both (list_all (λ byte. not (ends_field byte)) text) (not (bytes_eq (codes "ALL") text)) e in
    record {
      no_bar = no_bar text parts.first;
      no_lf = no_lf text parts.first;
      not_all = λ all. turned (bytes_eq (codes "ALL") text) parts.second (ap (bytes_eq (codes "ALL")) all);
    }

plain_member : (member : Member) → is_plain_member member ≡ true → IsPlainMember member
plain_member (Text text) e = plain_text text e
plain_member All e = tt

pub plain_members : (key : List Member) → list_all is_plain_member key ≡ true → AllByRecursion IsPlainMember key
plain_members [] e = tt
plain_members (member ∷ key) e =
    let parts = both (is_plain_member member) (list_all is_plain_member key) e in
    (plain_member member parts.first, plain_members key parts.second)

-- and members that can be read back pass it
ends_none : (text : List ℕ) → HasNoByte 124 text → HasNoByte 10 text
    → list_all (λ byte. not (ends_field byte)) text ≡ true
ends_none [] bar feed = refl
ends_none (byte ∷ text) bar feed =
    (λ i. not (bar.0 i || feed.0 i) && list_all (λ b. not (ends_field b)) text) ∙ ends_none text bar.1 feed.1

text_plain : (text : List ℕ) → IsPlainText text → is_plain_text text ≡ true
text_plain text is =
    (λ i. ends_none text is.no_bar is.no_lf i && not (bytes_eq (codes "ALL") text))
    ∙ ap not (false_from_ne_true (bytes_eq (codes "ALL") text)
    (λ same. is.not_all (sym ((bytes_eq-Decides (codes "ALL") text).0 same))))

member_plain : (member : Member) → IsPlainMember member → is_plain_member member ≡ true
member_plain (Text text) is = text_plain text is
member_plain All is = refl

pub members_plain : (key : List Member) → AllByRecursion IsPlainMember key → list_all is_plain_member key ≡ true
members_plain [] all = refl
members_plain (member ∷ key) all = (λ i. member_plain member all.0 i && list_all is_plain_member key)
    ∙ members_plain key all.1
