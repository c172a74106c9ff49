-- Sets of variables: variable v is bit v − 1, low variables in the first word. The number of words is the list's length.
use Rattle.std.specs.Prelude.{Bool, false, not, ◌&&◌, ◌||◌, List, [], ◌∷◌, ℕ, zero, suc, ◌-◌, ◌*◌, ◌/◌, ◌%◌, ◌^◌, length, get_or, set, replicate}
use Rattle.std.specs.Int.Bits.{bit_and, bit_or}
use Rattle.rules.specs.definitions.Bits.{bit}
use Rattle.rules.specs.definitions.Layout.{word_bits}

abbrev pub Set : Type 0
Set = List ℕ

-- no variable, in n words
unfoldable pub none : ℕ → Set
none n = replicate n 0

-- v is in s; 0 is no variable
unfoldable pub has : Set → ℕ → Bool
has s zero = false
has s (suc k) = bit (get_or s (k / word_bits) 0) (k % word_bits)

-- s and v
unfoldable pub with : Set → ℕ → Set
with s v = set s ((v - 1) / word_bits) (bit_or (get_or s ((v - 1) / word_bits) 0) (2 ^ ((v - 1) % word_bits)))

-- s less v
unfoldable pub without : Set → ℕ → Set
without s v = set s ((v - 1) / word_bits) (bit_and (get_or s ((v - 1) / word_bits) 0) (2 ^ word_bits - 1 - 2 ^ ((v - 1) % word_bits)))

-- what is in s or in t
unfoldable pub join : Set → Set → Set
join [] t = t
join (a ∷ s) [] = a ∷ s
join (a ∷ s) (b ∷ t) = bit_or a b ∷ join s t

-- what is in s and in t
unfoldable pub only : Set → Set → Set
only [] t = []
only (a ∷ s) [] = []
only (a ∷ s) (b ∷ t) = bit_and a b ∷ only s t

-- one of the variables 1 to n has p
unfoldable pub some : (ℕ → Bool) → ℕ → Bool
some p zero = false
some p (suc n) = p (suc n) || some p n

-- no variable is in s
unfoldable pub empty : Set → Bool
empty s = not (some (has s) (word_bits * length s))

-- some variable is in both
unfoldable pub meet : Set → Set → Bool
meet s t = some (λ v. has s v && has t v) (word_bits * length s)
