-- Bytes as 01 writes them: a text by its characters, a file in hex.
use Rattle.std.specs.Prelude.{true, false, List, [], ◌∷◌, ℕ, ◌+◌, ◌-◌, ◌*◌, leb}
use Prim.Native.Char.{code}
use Prim.Native.String as S

-- the bytes of a text of ASCII characters
unfoldable pub text : S.String → List ℕ
text S.[] = []
text (S.◌∷◌ c s) = code c ∷ text s

-- a hexadecimal digit, 0 to 9 or A to F
abbrev pub nibble : ℕ → ℕ
nibble b = elim (leb 65 b) [ true ↦ b - 55 | false ↦ b - 48 ]

-- pairs of digits; what stands after a pair, a space, is passed over
unfoldable pub pairs : List ℕ → List ℕ
pairs [] = []
pairs (a ∷ []) = []
pairs (a ∷ b ∷ []) = (nibble a * 16 + nibble b) ∷ []
pairs (a ∷ b ∷ c ∷ l) = (nibble a * 16 + nibble b) ∷ pairs l

-- the bytes that a line of hex pairs, one space between, says
unfoldable pub hex : S.String → List ℕ
unfolding text pairs
hex s = pairs (text s)
