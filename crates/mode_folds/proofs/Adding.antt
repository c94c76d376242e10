-- A ship mode that a dictionary was given, and the rows of each.
use Rattle.std.proofs.Common.{◌≡◌, ◌⊎◌, ◌∙◌, sym, ap, refl, subst, ℕ, ◌<◌, Bool, true, false, cond}
use Rattle.std.proofs.Common.{List, [], ◌∷◌, ◌++◌, map, length, get_or, Some, None, MatchOption, inl, inr}
use Rattle.std.proofs.Common.{append-nil, append_assoc, slice_set, zero, suc}
use Rattle.std.proofs.Math.ListN.{replicate}
use Rattle.std.specs.List.{list_any, position_or_len}
use Rattle.std.specs.Str.{bytes_eq}
use Rattle.std.specs.declared.alloc.Global.{Global}
use Rattle.std.specs.declared.vec.Vec.{Vec}
use Rattle.std.proofs.lemmas.List.{get_or-map, length-map, map-append, map-set}
use Rattle.cube_model.specs.declared.rows.LineOrder.{LineOrder}
use Rattle.dictionary.proofs.CallerLemmas.{EachOnce-push, list_any_place}
use Rattle.dictionary.specs.Dictionary.{Adds, EachOnce, Texts, with_text}
use Rattle.mode_folds.specs.Divided.{AreDivided}
use Rattle.mode_queries.specs.Joining.{have_modes, of_mode}
use Rattle.mode_folds.proofs.Divides.{have_last, have_new, no_parts, one_begins, one_grows}

-- a text that was seen keeps its code, or it is the last
pub record IsKept (old new : Texts) (text : List ℕ) (code : ℕ) : Type 0 where
  pub seen : list_any (bytes_eq text) old.texts ≡ true
  pub code_is : code ≡ position_or_len (bytes_eq text) old.texts
  pub same : new ≡ old

pub record IsNew (old new : Texts) (text : List ℕ) (code : ℕ) : Type 0 where
  pub unseen : list_any (bytes_eq text) old.texts ≡ false
  pub code_is : code ≡ length old.texts
  pub last : new.texts ≡ old.texts ++ text ∷ []

pub kept_or_new : (old new : Texts) (text : List ℕ) (code : ℕ) → Adds old text (Some code) new
    → IsKept old new text code ⊎ IsNew old new text code
kept_or_new old new text code adds =
    by (list_any (bytes_eq text) old.texts) refl
    (subst (λ b. MatchOption (cond b (Some (position_or_len (bytes_eq text) old.texts)) None)
    ((code ≡ length old.texts) × (length old.texts < old.limit) × (new ≡ with_text old text))
    (λ c. (Some code ≡ Some c) × (new ≡ old)))
    (sym (list_any_place (bytes_eq text) old.texts)) adds)
  where
    by : (b : Bool) → list_any (bytes_eq text) old.texts ≡ b
        → MatchOption (cond b (Some (position_or_len (bytes_eq text) old.texts)) None)
        ((code ≡ length old.texts) × (length old.texts < old.limit) × (new ≡ with_text old text))
        (λ c. (Some code ≡ Some c) × (new ≡ old))
        → IsKept old new text code ⊎ IsNew old new text code
    by true e is = inl (record { seen = e; code_is = cc (is.0); same = is.1 })
    by false e is = inr (record { unseen = e; code_is = is.0; last = ap (λ d. d.texts) is.2 })

abbrev lists : List (Vec LineOrder Global) → List (List LineOrder)
lists parts = map (λ part. part.items) parts

module _ (known : List (List ℕ)) (rows : List LineOrder) (row : LineOrder) where
  -- the row comes after those of its ship mode
  pub put_known : (old new : Texts) (code : ℕ) (parts : List (Vec LineOrder Global)) (part own : Vec LineOrder Global)
      → IsKept old new row.shipmode code → code < length parts
      → own.items ≡ (get_or parts code part).items ++ row ∷ [] → AreDivided known old.texts rows parts
      → AreDivided known new.texts (rows ++ row ∷ []) (slice_set parts code own)
  put_known old new code parts part own kept lt is divided =
      let modes_are : new.texts ≡ old.texts = ap (λ d. d.texts) kept.same in
      let place = position_or_len (bytes_eq row.shipmode) old.texts in
      let before = map (λ mode. of_mode mode rows) old.texts in
      let own_is : own.items ≡ get_or before place [] ++ row ∷ [] =
      is ∙ ap (λ l. l ++ row ∷ [])
      (sym (get_or-map (λ p. p.items) parts code part [] lt)
      ∙ (λ i. get_or (divided.parts_are i) (kept.code_is i) [])) in
      record {
        modes = record {
          more = divided.modes.more;
          after = modes_are ∙ divided.modes.after;
          once = subst EachOnce (sym modes_are) divided.modes.once;
          known = ap (λ m. have_modes m (rows ++ row ∷ [])) modes_are
              ∙ have_last rows row old.texts divided.modes.known kept.seen;
        };
        parts_are =
            map-set (λ p. p.items) parts code own
            ∙ (λ i. slice_set (divided.parts_are i) (kept.code_is i) (own_is i))
            ∙ sym (one_grows rows row old.texts kept.seen divided.modes.once)
            ∙ ap (map (λ mode. of_mode mode (rows ++ row ∷ []))) (sym modes_are);
      }

  -- the row begins those of its ship mode
  pub put_new : (old new : Texts) (code : ℕ) (parts : List (Vec LineOrder Global)) (empty own : Vec LineOrder Global)
      → IsNew old new row.shipmode code → code ≡ length parts → own.items ≡ row ∷ []
      → AreDivided known old.texts rows parts
      → AreDivided known new.texts (rows ++ row ∷ []) (slice_set (parts ++ empty ∷ []) code own)
  put_new old new code parts empty own fresh is own_is divided = record {
    modes = record {
      more = divided.modes.more ++ row.shipmode ∷ [];
      after = fresh.last ∙ ap (λ m. m ++ row.shipmode ∷ []) divided.modes.after
          ∙ append_assoc known divided.modes.more (row.shipmode ∷ []);
      once = subst EachOnce (sym fresh.last) (EachOnce-push old.texts row.shipmode divided.modes.once fresh.unseen);
      known = ap (λ m. have_modes m (rows ++ row ∷ [])) fresh.last ∙ have_new rows row old.texts divided.modes.known;
    };
    parts_are =
        ap (λ i. lists (slice_set (parts ++ empty ∷ []) i own)) is
        ∙ ap lists (last_set parts empty own)
        ∙ map-append (λ p. p.items) parts (own ∷ [])
        ∙ (λ i. divided.parts_are i ++ own_is i ∷ [])
        ∙ sym (one_begins rows row old.texts divided.modes.known fresh.unseen)
        ∙ ap (map (λ mode. of_mode mode (rows ++ row ∷ []))) (sym fresh.last);
  }
    where
      last_set : (parts : List (Vec LineOrder Global)) (empty own : Vec LineOrder Global)
          → slice_set (parts ++ empty ∷ []) (length parts) own ≡ parts ++ own ∷ []
      last_set [] empty own = refl
      last_set (part ∷ parts) empty own = ap (λ rest. part ∷ rest) (last_set parts empty own)

replicate-length : {X : Type 0} (n : ℕ) (x : X) → length (replicate n x) ≡ n
replicate-length zero x = refl
replicate-length (suc n) x = ap suc (replicate-length n x)

-- of no row each ship mode has none
pub divided_none : (modes : List (List ℕ)) (parts : List (Vec LineOrder Global)) (count : ℕ)
    → lists parts ≡ replicate count [] → count ≡ length modes
    → (length parts ≡ length modes) × (EachOnce modes → AreDivided modes modes [] parts)
divided_none modes parts count is many = (
  sym (length-map parts (λ part. part.items)) ∙ ap length is ∙ replicate-length count [] ∙ many,
  λ once. record {
    modes = record { more = []; after = sym (append-nil modes); once = once; known = refl };
    parts_are = is ∙ ap (λ n. replicate n []) many ∙ sym (no_parts modes);
  },
)
