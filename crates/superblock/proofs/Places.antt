-- The places of the fields in a sector, over any fields of these lengths.
use Rattle.std.proofs.Common.{◌≡◌, ℕ, ◌+◌, List, [], ◌++◌, length, drop, replicate, refl, sym, ap, ◌∙◌, arith}
use Rattle.std.proofs.Common.{append_assoc, length-append, codes}
use Rattle.std.proofs.Math.Seq.{drop-append_seam}
use Rattle.wire.specs.Spelling.{spelling}
use Rattle.wire.specs.Writing.{with_field}
use Rattle.wire.specs.Reading.{ReadsNumber, TakesBytes}
use Rattle.wire.proofs.CallerLemmas.{with_field-done}
use Rattle.superblock.specs.declared.superblock.Super.{Super}
use Rattle.superblock.specs.Superblock.{sector_of, IsProperSuperblock}
use Rattle.superblock.proofs.CallerLemmas.{bytes_fit, catalogue_fits, layout_fits, made_of}

-- a field of k bytes goes on with what is done, where zeros are
field_put : (at k m : ℕ) (done field old new : List ℕ) → length done ≡ at → length field ≡ k
    → drop {A = ℕ} k (replicate (k + m) 0) ≡ replicate m 0 → old ≡ done ++ replicate (k + m) 0
    → new ≡ with_field at field old → new ≡ (done ++ field) ++ replicate m 0
field_put at k m done field old new is_at is_k zeros was is =
    is ∙ ap (λ (bytes : List ℕ). with_field at field bytes) was
    ∙ ap (λ (n : ℕ). with_field n field (done ++ replicate (k + m) 0)) (sym is_at)
    ∙ with_field-done done field (replicate (k + m) 0)
    ∙ ap (λ (n : ℕ). done ++ (field ++ drop n (replicate (k + m) 0))) is_k
    ∙ ap (λ (rest : List ℕ). done ++ (field ++ rest)) zeros
    ∙ sym (append_assoc done field (replicate m 0))

-- six fields one after the other, and zeros after them
pub fields_put : (a b c d e f s1 s2 s3 s4 s5 s6 : List ℕ)
    → length a ≡ 8 → length b ≡ 4 → length c ≡ 4 → length d ≡ 8 → length e ≡ 4 → length f ≡ 4
    → s1 ≡ with_field 0 a (replicate 512 0) → s2 ≡ with_field 8 b s1 → s3 ≡ with_field 12 c s2
    → s4 ≡ with_field 16 d s3 → s5 ≡ with_field 24 e s4 → s6 ≡ with_field 28 f s5
    → s6 ≡ a ++ (b ++ (c ++ (d ++ (e ++ (f ++ replicate 480 0)))))
fields_put a b c d e f s1 s2 s3 s4 s5 s6 la lb lc ld le lf p1 p2 p3 p4 p5 p6 =
    let n2 : length (a ++ b) ≡ 12 = omega (arith, length-append a b) in
    let n3 : length ((a ++ b) ++ c) ≡ 16 = omega (arith, length-append (a ++ b) c) in
    let n4 : length (((a ++ b) ++ c) ++ d) ≡ 24 = omega (arith, length-append ((a ++ b) ++ c) d) in
    let n5 : length ((((a ++ b) ++ c) ++ d) ++ e) ≡ 28 = omega (arith, length-append (((a ++ b) ++ c) ++ d) e) in
    let e1 = field_put 0 8 504 [] a (replicate 512 0) s1 refl la refl refl p1 in
    let e2 = field_put 8 4 500 a b s1 s2 la lb refl e1 p2 in
    let e3 = field_put 12 4 496 (a ++ b) c s2 s3 n2 lc refl e2 p3 in
    let e4 = field_put 16 8 488 ((a ++ b) ++ c) d s3 s4 n3 ld refl e3 p4 in
    let e5 = field_put 24 4 484 (((a ++ b) ++ c) ++ d) e s4 s5 n4 le refl e4 p5 in
    let e6 = field_put 28 4 480 ((((a ++ b) ++ c) ++ d) ++ e) f s5 s6 n5 lf refl e5 p6 in
    e6 ∙ append_assoc ((((a ++ b) ++ c) ++ d) ++ e) f (replicate 480 0)
    ∙ append_assoc (((a ++ b) ++ c) ++ d) e (f ++ replicate 480 0)
    ∙ append_assoc ((a ++ b) ++ c) d (e ++ (f ++ replicate 480 0))
    ∙ append_assoc (a ++ b) c (d ++ (e ++ (f ++ replicate 480 0)))
    ∙ append_assoc a b (c ++ (d ++ (e ++ (f ++ replicate 480 0))))

-- of two equal texts that begin with as many bytes, the rests are equal
rests_same : (a b xs ys : List ℕ) → length a ≡ length b → a ++ xs ≡ b ++ ys → xs ≡ ys
rests_same a b xs ys as_long same =
    sym (drop-append_seam a xs) ∙ ap (λ (n : ℕ). drop n (a ++ xs)) as_long ∙ ap (drop (length b)) same
    ∙ drop-append_seam b ys

-- what was read from the places of the fields of a proper superblock is that superblock
pub said_is : (s : Super) (sector part l0 r0 r1 r2 r3 r4 : List ℕ) (layout sectors generation catalogue bytes : ℕ)
    → TakesBytes 8 sector l0 part → ReadsNumber 4 l0 r0 layout → ReadsNumber 4 r0 r1 sectors
    → ReadsNumber 8 r1 r2 generation
    → ReadsNumber 4 r2 r3 catalogue → ReadsNumber 4 r3 r4 bytes → IsProperSuperblock s → sector ≡ sector_of s
    → ◌≡◌ {A = Super}
    (record { layout = layout; sectors = sectors; generation = generation; catalogue = catalogue; bytes = bytes }) s
said_is s sector part l0 r0 r1 r2 r3 r4 layout sectors generation catalogue bytes taken zeroth one two three four proper
    is =
    let name : List ℕ = codes "SSBCUBE1" in
    let rest4 : List ℕ = replicate 480 0 in
    let rest3 : List ℕ = spelling 4 s.bytes ++ rest4 in
    let rest2 : List ℕ = spelling 4 s.catalogue ++ rest3 in
    let rest1 : List ℕ = spelling 8 s.generation ++ rest2 in
    let rest0 : List ℕ = spelling 4 s.sectors ++ rest1 in
    let before : List ℕ = spelling 4 s.layout ++ rest0 in
    let after : l0 ≡ before = rests_same part name l0 before taken.many (sym taken.spelled ∙ is) in
    let number = zeroth.reads_back s.layout rest0 (layout_fits s proper) after in
    let first = one.reads_back s.sectors rest1 proper.sectors_fit number.1 in
    let second = two.reads_back s.generation rest2 proper.generation_fits first.1 in
    let third = three.reads_back s.catalogue rest3 (catalogue_fits s proper) second.1 in
    let fourth = four.reads_back s.bytes rest4 (bytes_fit s proper) third.1 in
    made_of layout sectors generation catalogue bytes s number.0 first.0 second.0 third.0 fourth.0
