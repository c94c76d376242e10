-- Bytes that are written one part after the other.
use Rattle.std.proofs.Common.{◌≡◌, ℕ, List, [], ◌++◌, Option, Result, Ok, Err, ap, sym, ◌∙◌, append_assoc, append-nil}
use Rattle.std.proofs.Common.{IfErr}
use Rattle.std.specs.Io.KnownBytes.{Appends, Keeps}
use Rattle.std.proofs.KnownBytes.{Appends-trans, Appends-kept}
use Rattle.cube_model.specs.declared.fault.Fault.{Fault}
use Rattle.cube_model.specs.declared.fault.Fault.TheVariants.{Output}
use Rattle.ssb_reports.specs.Writing.{Writes}

after : (old mid new : Option (List ℕ)) (result : Result Unit Fault) (first second : List ℕ) → Appends old mid first
    → Writes mid new result second → Writes old new result (first ++ second)
after old mid new (Ok done) first second front back = Appends-trans old mid new first second front back
after old mid new (Err fault) first second front (is, back) = (
  is,
  record {
    written = first ++ back.written;
    left = back.left;
    whole = ap (λ bytes. first ++ bytes) back.whole ∙ sym (append_assoc first back.written back.left);
    appended = Appends-trans old mid new first back.written front back.appended;
  },
)

before : (old new : Option (List ℕ)) (fault : Fault) (first second : List ℕ) → Writes old new (Err fault) first
    → Writes old new (Err fault) (first ++ second)
before old new fault first second (is, part) = (
  is,
  record {
    written = part.written;
    left = part.left ++ second;
    whole = ap (λ bytes. bytes ++ second) part.whole ∙ append_assoc part.written part.left second;
    appended = part.appended;
  },
)

-- a part was written whole, and then more
pub Writes-on : (old mid new : Option (List ℕ)) (result : Result Unit Fault) (first second whole : List ℕ)
    → Appends old mid first → Writes mid new result second → whole ≡ first ++ second → Writes old new result whole
Writes-on old mid new result first second whole front back is =
    rw is (after old mid new result first second front back)

-- the first part was not written whole, and nothing after it
pub Writes-stop : (old new : Option (List ℕ)) (result : Result Unit Fault) (fault : Fault) (first second whole : List ℕ)
    → (y : Fault) × (result ≡ Err y) × (y ≡ fault) → Writes old new (Err fault) first → whole ≡ first ++ second
    → Writes old new result whole
Writes-stop old new result fault first second whole stop part is =
    rw (is, stop.1, stop.2) (before old new fault first second part)

-- the part after a first was not written whole, and nothing after it
pub Writes-stop_after : (old mid new : Option (List ℕ)) (result : Result Unit Fault) (fault : Fault)
    (first second third whole : List ℕ) → (y : Fault) × (result ≡ Err y) × (y ≡ fault) → Appends old mid first
    → Writes mid new (Err fault) second → whole ≡ first ++ (second ++ third) → Writes old new result whole
Writes-stop_after old mid new result fault first second third whole stop front part is =
    rw (is, stop.1, stop.2)
    (after old mid new (Err fault) first (second ++ third) front (before mid new fault second third part))

-- all was written, and then flushed
pub Writes-flushed : (old mid new : Option (List ℕ)) (result : Result Unit Fault) (whole : List ℕ)
    → Appends old mid whole → Keeps mid new → IfErr result (λ fault. fault ≡ Output) → Writes old new result whole
Writes-flushed old mid new (Ok done) whole written kept fails = Appends-kept old mid new whole written kept
Writes-flushed old mid new (Err fault) whole written kept fails = (
  fails,
  record {
    written = whole;
    left = [];
    whole = sym (append-nil whole);
    appended = Appends-kept old mid new whole written kept;
  },
)
