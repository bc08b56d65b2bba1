-- How a count follows its test. Assumes nothing.
use Rattle.std.proofs.Common.{◌≡◌, ℕ, zero, suc, ◌+◌, ◌<◌, ◌≤◌, Bool, true, false, cond, refl, ⊎_elim, arith}
use Rattle.std.proofs.lemmas.Bool.{cases_eq}
use Rattle.daybook.specs.Grid.{count}

pub count_same : (p q : ℕ → Bool) (n : ℕ) → ((k : ℕ) → k < n → q k ≡ p k) → count q n ≡ count p n
unfolding count
count_same p q zero h = refl
count_same p q (suc n) h =
    let here : q n ≡ p n = h n (omega arith) in
    let rest : count q n ≡ count p n = count_same p q n (λ k l. h k (omega arith)) in
    rw (here, rest)

pub count_none : (p : ℕ → Bool) (n : ℕ) → ((k : ℕ) → k < n → p k ≡ false) → count p n ≡ 0
unfolding count
count_none p zero h = refl
count_none p (suc n) h =
    let here : p n ≡ false = h n (omega arith) in
    let rest : count p n ≡ 0 = count_none p n (λ k l. h k (omega arith)) in
    rw (here, rest)

pub count_most : (p : ℕ → Bool) (n : ℕ) → count p n ≤ n
unfolding count
count_most p zero = omega arith
count_most p (suc n) =
    let rest = count_most p n in
    elim (p n) as (λ b. cond b 1 0 + count p n ≤ suc n) [ true ↦ omega arith | false ↦ omega arith ]

-- where one number does not pass, not all do
pub count_below : (p : ℕ → Bool) (s n : ℕ) → s < n → p s ≡ false → count p n < n
unfolding count
count_below p s zero l h = absurd (omega arith)
count_below p s (suc n) l h =
    ⊎_elim
    (λ (e : n ≡ s). let most = count_most p s in rw (e, h) (omega arith))
    (λ (other : n ≡ s → ⊥).
    let rest = count_below p s n (omega arith) h in
    elim (p n) as (λ b. cond b 1 0 + count p n < suc n) [ true ↦ omega arith | false ↦ omega arith ])
    (cases_eq n s)

-- where the test changes at one number alone, so does the count
pub count_change : (p q : ℕ → Bool) (s n : ℕ) → s < n → ((k : ℕ) → (k ≡ s → ⊥) → q k ≡ p k) → count q n + cond (p s) 1 0 ≡ count p n + cond (q s) 1 0
unfolding count
count_change p q s zero l h = absurd (omega arith)
count_change p q s (suc n) l h =
    ⊎_elim
    (λ (e : n ≡ s).
    let rest : count q n ≡ count p n = count_same p q n (λ k m. h k (λ z. omega arith)) in
    rw (rest, e) (omega arith))
    (λ (other : n ≡ s → ⊥).
    let here : q n ≡ p n = h n other in
    let rest = count_change p q s n (omega arith) h in
    rw here (omega arith))
    (cases_eq n s)

pub count_next : (p : ℕ → Bool) (n : ℕ) → count p (suc n) ≡ cond (p n) 1 0 + count p n
unfolding count
count_next p n = refl
