-- the word nearest to a decimal, computed
use Rattle.std.specs.Prelude.{ℕ, zero, suc, ◌+◌, ◌*◌, ◌/◌, ◌%◌, ◌^◌, ℤ, pos, negsuc, unsigned_abs, ◌≤◌, nat_lt, if◌then◌else◌}
use Rattle.ieee_words.specs.Near.{IsNearest}

-- the whole number nearest to a quotient, and of two such numbers the even one
abbrev pub nearest_whole : ℕ → ℕ → ℕ
nearest_whole over under = let q = over / under in let r = over % under in
    if nat_lt (2 * r) under then q else (if nat_lt under (2 * r) then q + 1 else q + q % 2)

-- how often a number is halved until it is below 2 ^ 53, at most `most` times
abbrev pub halvings : ℕ → ℕ → ℕ
halvings zero n = 0
halvings (suc most) n = if nat_lt n (2 ^ 53) then 0 else halvings most (n / 2) + 1

-- the word of a / t, for a from 1 to 2 ^ 63 and t from 1 to 10 ^ 9: the 53 leading bits, rounded
abbrev pub near_size : ℕ → ℕ → ℕ
near_size a t = let j = halvings 128 (a * 2 ^ 83 / t) in (991 + j) * 2 ^ 52 + nearest_whole (a * 2 ^ 83) (t * 2 ^ j)

-- the word of n / 10 ^ k, for an n of at most 2 ^ 63 in size and a k of at most 9
abbrev pub near_word : ℤ → ℕ → ℕ
near_word (pos zero) k = 0
near_word (pos (suc n)) k = near_size (suc n) (10 ^ k)
near_word (negsuc n) k = near_size (suc n) (10 ^ k) + 2 ^ 63

-- it is the nearest word
abbrev pub NearWordIsNearest : Type 0
NearWordIsNearest = (n : ℤ) (k : ℕ) → k ≤ 9 → unsigned_abs n ≤ 2 ^ 63 → IsNearest n k (near_word n k)
