-- What the sector of a superblock determines, for the proofs of other crates.
use Rattle.std.proofs.Common.{◌≡◌, ℕ, ◌^◌, ◌<◌, List, ◌++◌, replicate, codes, refl, sym, ◌∙◌, arith}
use Rattle.std.proofs.lemmas.List.{append_cancel_left}
use Rattle.wire.specs.Spelling.{spelling}
use Rattle.wire.proofs.CallerLemmas.{spelling-one}
use Rattle.superblock.specs.declared.superblock.Super.{Super}
use Rattle.superblock.specs.Superblock.{IsProperSuperblock, IsSuperblock}

-- a proper superblock's numbers fit their fields
pub catalogue_fits : (s : Super) → IsProperSuperblock s → s.catalogue < 256 ^ 4
catalogue_fits s proper = omega (arith, proper.within, proper.sectors_fit)

pub bytes_fit : (s : Super) → IsProperSuperblock s → s.bytes < 256 ^ 4
bytes_fit s proper = omega (arith, proper.most_bytes)

pub layout_fits : (s : Super) → IsProperSuperblock s → s.layout < 256 ^ 4
layout_fits s proper = omega (arith, proper.newest_layout)

-- a superblock is its fields
pub made_of : (layout sectors generation catalogue bytes : ℕ) (s : Super)
    → layout ≡ s.layout → sectors ≡ s.sectors → generation ≡ s.generation → catalogue ≡ s.catalogue → bytes ≡ s.bytes
    → ◌≡◌ {A = Super}
    (record { layout = layout; sectors = sectors; generation = generation; catalogue = catalogue; bytes = bytes }) s
made_of layout sectors generation catalogue bytes s same0 same1 same2 same3 same4 =
    rw (same0, same1, same2, same3, same4) refl

-- a sector is one superblock at most
pub IsSuperblock-one : (slot other_slot : ℕ) (sector : List ℕ) (s t : Super)
    → IsSuperblock slot sector s → IsSuperblock other_slot sector t → s ≡ t
IsSuperblock-one slot other_slot sector s t is_s is_t =
    let name : List ℕ = codes "SSBCUBE1" in
    let zeros : List ℕ = replicate 480 0 in
    let s4 : List ℕ = spelling 4 s.bytes ++ zeros in
    let t4 : List ℕ = spelling 4 t.bytes ++ zeros in
    let s3 : List ℕ = spelling 4 s.catalogue ++ s4 in
    let t3 : List ℕ = spelling 4 t.catalogue ++ t4 in
    let s2 : List ℕ = spelling 8 s.generation ++ s3 in
    let t2 : List ℕ = spelling 8 t.generation ++ t3 in
    let s1 : List ℕ = spelling 4 s.sectors ++ s2 in
    let t1 : List ℕ = spelling 4 t.sectors ++ t2 in
    let s0 : List ℕ = spelling 4 s.layout ++ s1 in
    let t0 : List ℕ = spelling 4 t.layout ++ t1 in
    let after : s0 ≡ t0 = append_cancel_left name s0 t0 (sym is_s.spelled ∙ is_t.spelled) in
    let number = spelling-one 4 s.layout t.layout s1 t1 (layout_fits s is_s.proper) (layout_fits t is_t.proper)
    after in
    let first = spelling-one 4 s.sectors t.sectors s2 t2 is_s.proper.sectors_fit is_t.proper.sectors_fit number.1 in
    let second = spelling-one 8 s.generation t.generation s3 t3 is_s.proper.generation_fits is_t.proper.generation_fits
    first.1 in
    let third =
    spelling-one 4 s.catalogue t.catalogue s4 t4 (catalogue_fits s is_s.proper) (catalogue_fits t is_t.proper)
    second.1 in
    let fourth = spelling-one 4 s.bytes t.bytes zeros zeros (bytes_fit s is_s.proper) (bytes_fit t is_t.proper)
    third.1 in
    made_of s.layout s.sectors s.generation s.catalogue s.bytes t number.0 first.0 second.0 third.0 fourth.0
