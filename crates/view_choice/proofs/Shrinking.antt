-- Numbers that shrink by a k-th in each step: what is missing from a total that comes up by parts.
use Rattle.std.proofs.Common.{◌≡◌, ◌∙◌, ℕ, zero, suc, ◌+◌, ◌-◌, ◌*◌, ◌^◌, ◌≤◌, ◌<◌, arith, ap, sym}
use Rattle.std.proofs.Math.Nat.{mul-sub, mul_comm, mul_assoc, mul_left_comm, pow-suc, pow-zero, mul-one}
use Rattle.std.proofs.lemmas.Nat.{mul-le}

-- k times one less is k times less k, the factors in either order
pred-mul : (k n : ℕ) → (k - 1) * n ≡ k * n - n
pred-mul k n = mul_comm (k - 1) n ∙ mul-sub n k 1 ∙ omega (arith, mul_comm n k, mul-one n)

-- where k gains make up what is missing, one gain leaves at most k - 1 of its k parts
pub missing_after : (k total have gain : ℕ) → 1 ≤ k → total ≤ have + k * gain
    → k * (total - (have + gain)) ≤ (k - 1) * (total - have)
missing_after k total have gain positive makes_up =
    let left : k * (total - (have + gain)) ≡ k * (total - have) - k * gain = ap (λ n. k * n) (omega arith)
    ∙ mul-sub k (total - have) gain in
    let right : (k - 1) * (total - have) ≡ k * (total - have) - (total - have) = pred-mul k (total - have) in
    omega (arith, left, right)

-- one step of the powers
shrink-step : (k n m total power other : ℕ) → power * n ≤ other * total → k * m ≤ (k - 1) * n
    → power * k * m ≤ other * (k - 1) * total
shrink-step k n m total power other before step =
    let regrouped : power * k * m ≡ power * (k * m) = mul_assoc power k m in
    let stepped : power * (k * m) ≤ power * ((k - 1) * n) =
    mul-le power (k * m) power ((k - 1) * n) (omega arith) step in
    let turned : power * ((k - 1) * n) ≡ (k - 1) * (power * n) = mul_left_comm power (k - 1) n in
    let kept : (k - 1) * (power * n) ≤ (k - 1) * (other * total) =
    mul-le (k - 1) (power * n) (k - 1) (other * total) (omega arith) before in
    let back : (k - 1) * (other * total) ≡ other * (k - 1) * total = mul_left_comm (k - 1) other total
    ∙ sym (mul_assoc other (k - 1) total) in
    omega (arith, regrouped, stepped, turned, kept, back)

-- after i such steps at most ((k - 1) / k) ^ i of the total is missing
pub missing_shrinks : (k total : ℕ) (missing : ℕ → ℕ) (n : ℕ) → missing 0 ≤ total
    → ((i : ℕ) → i < n → k * missing (suc i) ≤ (k - 1) * missing i)
    → (i : ℕ) → i ≤ n → k ^ i * missing i ≤ (k - 1) ^ i * total
missing_shrinks k total missing n first steps zero le =
    mul-le (k ^ zero) (missing zero) ((k - 1) ^ zero) total (omega (arith, pow-zero k, pow-zero (k - 1))) first
missing_shrinks k total missing n first steps (suc i) le =
    let before : k ^ i * missing i ≤ (k - 1) ^ i * total =
    missing_shrinks k total missing n first steps i (omega arith) in
    let after : k ^ i * k * missing (suc i) ≤ (k - 1) ^ i * (k - 1) * total =
    shrink-step k (missing i) (missing (suc i)) total (k ^ i) ((k - 1) ^ i) before (steps i (omega arith)) in
    rw (pow-suc k i, pow-suc (k - 1) i) after

-- what is missing bounds what is there from below
pub have_at_least : (total have power other : ℕ) → power * (total - have) ≤ other * total
    → (power - other) * total ≤ power * have
have_at_least total have power other missing =
    omega (
      arith,
      missing,
      mul-sub power total have,
      mul_comm (power - other) total,
      mul-sub total power other,
      mul_comm total power,
      mul_comm total other,
    )

-- where nothing is missing, all is there
pub have_all : (total have power other : ℕ) → total ≤ have → (power - other) * total ≤ power * have
have_all total have power other all = mul-le (power - other) total power have (omega arith) all
