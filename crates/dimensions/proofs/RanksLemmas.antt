-- Ranks that are found one after the other.
use Rattle.std.proofs.Common.{◌≡◌, ◌<◌, ◌+◌, ◌∙◌, inl, inr, sym, ap, subst, arith, ℕ, List, [], ◌∷◌, ◌++◌, length}
use Rattle.std.proofs.Common.{get_or, take}
use Rattle.std.proofs.Math.ListN.{get_or-append}
use Rattle.std.proofs.Math.Seq.{get_or-append_seam}
use Rattle.std.proofs.lemmas.Bool.{cases_lt}
use Rattle.std.proofs.lemmas.List.{length-append, map-append, take_more}
use Rattle.dimensions.specs.Ranked.{AreCodesBelow, texts_of_ranks}

-- the texts of one rank more
pub rank_more : (members texts : List (List ℕ)) (ranks more : List ℕ) (k rank : ℕ) (text : List ℕ)
    → texts_of_ranks members ranks ≡ take k texts → k < length texts
    → get_or texts k text ≡ text → get_or members rank [] ≡ text → more ≡ ranks ++ rank ∷ []
    → texts_of_ranks members more ≡ take (k + 1) texts
rank_more members texts ranks more k rank text so_far within at found is =
    ap (texts_of_ranks members) is
    ∙ map-append (λ r. get_or members r []) ranks (rank ∷ [])
    ∙ ap (λ l. l ++ get_or members rank [] ∷ []) so_far
    ∙ ap (λ t. take k texts ++ t ∷ []) (found ∙ sym at)
    ∙ sym (take_more texts k text within)

-- one more code
pub codes_more : (count : ℕ) (codes more : List ℕ) (code : ℕ) → AreCodesBelow count codes → code < count
    → more ≡ codes ++ code ∷ [] → AreCodesBelow count more
codes_more count codes more code all below is k within =
    let longer : length more ≡ length codes + 1 = ap length is ∙ length-append codes (code ∷ []) in
    subst (λ l. get_or l k 0 < count) (sym is) (elim (cases_lt k (length codes)) [
      | inl here ↦ subst (λ n. n < count) (sym (get_or-append codes (code ∷ []) 0 k here)) (all k here)
      | inr after ↦
          let last : k ≡ length codes = omega (arith, longer, within, after) in
          subst (λ n. n < count)
          (sym (ap (λ i. get_or (codes ++ code ∷ []) i 0) last ∙ get_or-append_seam codes code [] 0)) below
    ])
