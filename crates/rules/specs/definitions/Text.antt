-- Formula text (01): bytes to tokens with their offsets, comments, numbers.
use Rattle.std.specs.Prelude.{Bool, true, false, cond, not, ◌&&◌, ◌||◌, List, [], ◌∷◌, ℕ, suc, ◌+◌, ◌-◌, ◌*◌, eqb, leb, ℤ, pos, neg_ℤ, length, take}
use Rattle.rules.specs.definitions.Limits.{number_most}

-- ---- bytes
abbrev pub line_feed : ℕ
line_feed = 10

-- separators are space, tab, CR, LF
abbrev pub separator : ℕ → Bool
separator b = eqb b 32 || (eqb b 9 || (eqb b 13 || eqb b line_feed))

abbrev pub digit : ℕ → Bool
digit b = leb 48 b && leb b 57

abbrev pub letter_c : ℕ
letter_c = 99

abbrev pub minus : ℕ
minus = 45

-- ---- comments: before the header a token that begins with c is a comment up to its LF
pub record Rest : Type 0 where
  pub at : ℕ
  pub bytes : List ℕ

-- the text from its first token that is no comment, with its offset; `inside` a comment bytes are passed over up to LF
unfoldable pub uncommented : Bool → List ℕ → ℕ → Rest
uncommented inside [] at = record { at = at; bytes = [] }
uncommented true (b ∷ l) at = uncommented (not (eqb b line_feed)) l (suc at)
uncommented false (b ∷ l) at =
    elim (separator b) [
      | true ↦ uncommented false l (suc at)
      | false ↦ elim (eqb b letter_c) [ true ↦ uncommented true l (suc at) | false ↦ record { at = at; bytes = b ∷ l } ]
    ]

-- ---- tokens
pub record Token : Type 0 where
  pub at : ℕ
  pub bytes : List ℕ

-- how many of the first bytes have p
unfoldable pub lead : (ℕ → Bool) → List ℕ → ℕ
lead p [] = 0
lead p (b ∷ l) = elim (p b) [ true ↦ suc (lead p l) | false ↦ 0 ]

abbrev pub token_byte : ℕ → Bool
token_byte b = not (separator b)

-- the tokens of the bytes l, which begin at offset `at`; `inside` a token its further bytes are passed over
unfoldable pub tokens : Bool → List ℕ → ℕ → List Token
tokens inside [] at = []
tokens inside (b ∷ l) at =
    elim (separator b) [
      | true ↦ tokens false l (suc at)
      | false ↦ elim inside [ true ↦ tokens true l (suc at) | false ↦ record { at = at; bytes = b ∷ take (lead token_byte l) l } ∷ tokens true l (suc at) ]
    ]

-- the token is these bytes
unfoldable pub spelled : List ℕ → List ℕ → Bool
spelled [] [] = true
spelled [] (c ∷ k) = false
spelled (b ∷ l) [] = false
spelled (b ∷ l) (c ∷ k) = eqb b c && spelled l k

-- ---- numbers: 0, or an optional minus with a digit 1 to 9 and further digits, of any length
pub data Number : Type 0 where
  number : ℤ → Number
  no_number : Number

-- one digit more; past the limit it stays there
unfoldable pub grown : ℕ → ℕ → ℕ
grown n b = let m = n * 10 + (b - 48) in cond (leb number_most m) number_most m

-- the size that the digits l give after those that gave n, with its sign
unfoldable pub sized : Bool → ℕ → List ℕ → Number
sized negated n [] = number (cond negated (neg_ℤ (pos n)) (pos n))
sized negated n (b ∷ l) = elim (digit b) [ true ↦ sized negated (grown n b) l | false ↦ no_number ]

-- a digit 1 to 9 and further digits
unfoldable pub counting : Bool → List ℕ → Number
counting negated [] = no_number
counting negated (b ∷ l) = elim (leb 49 b && leb b 57) [ true ↦ sized negated (b - 48) l | false ↦ no_number ]

-- the number that a token spells
unfoldable pub number_of : List ℕ → Number
number_of [] = no_number
number_of (b ∷ l) =
    elim (eqb b 48 && eqb (length l) 0) [
      | true ↦ number (pos 0)
      | false ↦ elim (eqb b minus) [ true ↦ counting true l | false ↦ counting false (b ∷ l) ]
    ]
