-- What is answered after publication, by the kept equations and their reduced form.
use Rattle.std.specs.Prelude.{◌≡◌, ℕ, ◌-◌, ◌<◌, cond, not, ◌≢◌, List, length, Ok, Err, Result, ◌==◌, nat_lt, slice_index}
use Rattle.algebra.specs.Among.{among, member}
use Rattle.algebra.specs.Meaning.{Meaning}
use Rattle.algebra.specs.Operations.{operations, dot}
use Rattle.algebra.specs.Vectors.{row, entries, Vector}
use Rattle.logs.specs.declared.answer.Symbol.{Symbol}
use Rattle.logs.specs.declared.answer.Symbol.TheVariants.{Known, Open}
use Rattle.logs.specs.declared.refusal.Refusal.{Refusal}
use Rattle.logs.specs.declared.refusal.Refusal.TheVariants as refusal
use Rattle.logs.specs.Offers.{Log, kept, PossibleAfter}
use Rattle.logs.specs.Reduced.{Reduction}

-- the columns below n that have no pivot, rising
abbrev pub free : ℕ → List ℕ → List ℕ
free n pivots = among (λ i. not (member i pivots)) 0 n

module _ (m : Meaning) (n : ℕ) (log : Log) (p : Reduction m n (kept log)) where
  -- the k-th free unknown
  abbrev pub free_at : ℕ → ℕ
  free_at k = slice_index (free n p.pivots) k

  -- the possible vector whose free unknowns are 0
  pub record Solution (v : List ℕ) : Type 0 where
    pub possible : PossibleAfter m n log v
    pub zeros : (k : ℕ) → k < length (free n p.pivots) → entries v (free_at k) ≡ 0

  -- 1 at the k-th free unknown, 0 at the others, and 0 in each row's coefficients
  pub record Kernel (k : ℕ) (v : List ℕ) : Type 0 where
    pub vector : Vector m n v
    pub one : entries v (free_at k) ≡ 1
    pub zeros : (i : ℕ) → i < length (free n p.pivots) → i ≢ k → entries v (free_at i) ≡ 0
    pub rows : (i : ℕ) → i < length p.rows → dot (operations m) (length v) (entries (row p.rows i).coefficients) (entries v) ≡ 0

  -- a code that all possible vectors have at j, or the first kernel vector that is not 0 there
  abbrev pub Tells : ℕ → Symbol → Type 0
  Tells j (Known c) = (v : List ℕ) → PossibleAfter m n log v → entries v j ≡ c
  Tells j (Open k) =
      (k < length (free n p.pivots))
      × ((v : List ℕ) → Kernel k v → entries v j ≢ 0)
      × ((i : ℕ) (v : List ℕ) → i < k → Kernel i v → entries v j ≡ 0)

-- a question, with the content of its slice
pub data Question : Type 0 where
  solution : List ℕ → Question
  kernel : ℕ → List ℕ → Question
  unknown : ℕ → Question

-- what is answered: the result, and the content of the slice after it
pub data Reply : Type 0 where
  wrote : Result (Unit {0}) Refusal → List ℕ → Reply
  said : Result Symbol Refusal → Reply

-- the slice has to be n long
abbrev pub solution_checked : ℕ → ℕ → Result (Unit {0}) Refusal
solution_checked n length = cond (length == n) (Ok tt) (Err refusal.Length)

-- there have to be more than k kernel vectors, then the slice has to be n long
abbrev pub kernel_checked : ℕ → ℕ → ℕ → ℕ → Result (Unit {0}) Refusal
kernel_checked n rank k length = cond (nat_lt k (n - rank)) (solution_checked n length) (Err refusal.Kernel)

-- there have to be more than j unknowns
abbrev pub unknown_checked : ℕ → ℕ → Result (Unit {0}) Refusal
unknown_checked n j = cond (nat_lt j n) (Ok tt) (Err refusal.Unknown)

-- what the published form may answer after a log, by a reduced form of the kept equations; a refusal leaves the slice
abbrev pub Replies : (m : Meaning) (n : ℕ) (log : Log) → Reduction m n (kept log) → Question → Reply → Type 0
Replies m n log p (solution s) (wrote (Ok u) t) = (solution_checked n (length s) ≡ Ok tt) × Solution m n log p t
Replies m n log p (solution s) (wrote (Err r) t) = (solution_checked n (length s) ≡ Err r) × (t ≡ s)
Replies m n log p (solution s) (said x) = ⊥
Replies m n log p (kernel k s) (wrote (Ok u) t) = (kernel_checked n (length (kept log)) k (length s) ≡ Ok tt) × Kernel m n log p k t
Replies m n log p (kernel k s) (wrote (Err r) t) = (kernel_checked n (length (kept log)) k (length s) ≡ Err r) × (t ≡ s)
Replies m n log p (kernel k s) (said x) = ⊥
Replies m n log p (unknown j) (wrote r t) = ⊥
Replies m n log p (unknown j) (said (Ok x)) = (unknown_checked n j ≡ Ok tt) × Tells m n log p j x
Replies m n log p (unknown j) (said (Err r)) = unknown_checked n j ≡ Err r

-- the kept equations have a reduced form, by which the reply is one to the question
abbrev pub Answers : Meaning → ℕ → Log → Question → Reply → Type 0
Answers m n log question reply = (p : Reduction m n (kept log)) × Replies m n log p question reply
