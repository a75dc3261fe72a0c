-- What a finite commutative ring means: an order, and operations on the codes, which are the numbers below the order.
use Rattle.std.specs.Prelude.{◌≡◌, ℕ, ◌^◌, ◌<◌, ◌≤◌, cond, ◌&&◌, ◌⊎◌, nat_lt}

pub record Meaning : Type 0 where
  pub order : ℕ
  pub sum : ℕ → ℕ → ℕ
  pub product : ℕ → ℕ → ℕ
  pub negative : ℕ → ℕ

-- the laws of a commutative ring with 0 and 1, of operations on the codes below n
pub record Laws (n : ℕ) (sum product : ℕ → ℕ → ℕ) (negative : ℕ → ℕ) : Type 0 where
  pub order_low : 2 ≤ n
  pub order_high : n ≤ 2 ^ 32
  pub sum_code : (a b : ℕ) → a < n → b < n → sum a b < n
  pub product_code : (a b : ℕ) → a < n → b < n → product a b < n
  pub negative_code : (a : ℕ) → a < n → negative a < n
  pub sum_comm : (a b : ℕ) → a < n → b < n → sum a b ≡ sum b a
  pub sum_assoc : (a b c : ℕ) → a < n → b < n → c < n → sum (sum a b) c ≡ sum a (sum b c)
  pub sum_zero : (a : ℕ) → a < n → sum 0 a ≡ a
  pub sum_negative : (a : ℕ) → a < n → sum a (negative a) ≡ 0
  pub product_comm : (a b : ℕ) → a < n → b < n → product a b ≡ product b a
  pub product_assoc : (a b c : ℕ) → a < n → b < n → c < n → product (product a b) c ≡ product a (product b c)
  pub product_one : (a : ℕ) → a < n → product 1 a ≡ a
  pub product_sum : (a b c : ℕ) → a < n → b < n → c < n → product a (sum b c) ≡ sum (product a b) (product a c)

-- where an argument is no code, the result is 0
pub record ZeroOutside (n : ℕ) (sum product : ℕ → ℕ → ℕ) (negative : ℕ → ℕ) : Type 0 where
  pub sum_outside : (a b : ℕ) → (n ≤ a) ⊎ (n ≤ b) → sum a b ≡ 0
  pub product_outside : (a b : ℕ) → (n ≤ a) ⊎ (n ≤ b) → product a b ≡ 0
  pub negative_outside : (a : ℕ) → n ≤ a → negative a ≡ 0

pub record RingLaws (m : Meaning) : Type 0 where
  pub laws : Laws m.order m.sum m.product m.negative
  pub outside : ZeroOutside m.order m.sum m.product m.negative

-- the meaning with the given operations on the codes below n, and 0 outside
abbrev pub meant : ℕ → (ℕ → ℕ → ℕ) → (ℕ → ℕ → ℕ) → (ℕ → ℕ) → Meaning
meant n sum product negative = record {
  order = n;
  sum = λ a b. cond (nat_lt a n && nat_lt b n) (sum a b) 0;
  product = λ a b. cond (nat_lt a n && nat_lt b n) (product a b) 0;
  negative = λ a. cond (nat_lt a n) (negative a) 0;
}

-- two rings have one meaning: equal orders, and the same sum and product of all codes
pub record OneMeaning (m k : Meaning) : Type 0 where
  pub orders : m.order ≡ k.order
  pub sums : (a b : ℕ) → a < m.order → b < m.order → m.sum a b ≡ k.sum a b
  pub products : (a b : ℕ) → a < m.order → b < m.order → m.product a b ≡ k.product a b
