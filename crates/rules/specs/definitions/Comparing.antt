-- The test that decides isomorphism: one pass by falling number over a pairing and its inverse, 0 for no partner.
use Rattle.std.specs.Prelude.{Bool, true, false, cond, ◌&&◌, ℕ, zero, suc, eqb}
use Rattle.rules.specs.declared.Value.{Value}
use Rattle.rules.specs.declared.Value.TheVariants.{Star, One, Zero}
use Rattle.rules.specs.declared.Node.{Node}
use Rattle.rules.specs.declared.Node.TheVariants.{None, Leaf, Branch}
use Rattle.rules.specs.definitions.Maps.{Column}

-- ---- the test: one pass by falling number over a pairing and its inverse, 0 for no partner
pub data Pairing : Type 0 where
  clash : Pairing
  pairs : (ℕ → ℕ) → (ℕ → ℕ) → Pairing

abbrev pub put : (ℕ → ℕ) → ℕ → ℕ → ℕ → ℕ
put f a c k = cond (eqb k a) c (f k)

-- a gets the partner c: both have none yet, or they are partners already
unfoldable pub pair : Pairing → ℕ → ℕ → Pairing
pair clash a c = clash
pair (pairs p q) a c =
    cond (eqb (p a) 0 && eqb (q c) 0) (pairs (put p a c) (put q c a)) (cond (eqb (p a) c && eqb (q c) a) (pairs p q) clash)

abbrev pub same_value : Value → Value → Bool
same_value Star Star = true
same_value Star One = false
same_value Star Zero = false
same_value One Star = false
same_value One One = true
same_value One Zero = false
same_value Zero Star = false
same_value Zero One = false
same_value Zero Zero = true

-- two partners: leaves agree; branches have the same variable, and their ends become partners
unfoldable pub compare : Pairing → Node → Node → Pairing
compare P None n = clash
compare P (Leaf v) None = clash
compare P (Leaf v) (Leaf w) = cond (same_value v w) P clash
compare P (Leaf v) (Branch y c d) = clash
compare P (Branch x a b) None = clash
compare P (Branch x a b) (Leaf w) = clash
compare P (Branch x a b) (Branch y c d) = elim (eqb x y) [ true ↦ pair (pair P a c) b d | false ↦ clash ]

-- node i, if it has a partner
unfoldable pub visit : Column → Column → ℕ → Pairing → Pairing
visit T U i clash = clash
visit T U i (pairs p q) = elim (eqb (p i) 0) [ true ↦ pairs p q | false ↦ compare (pairs p q) (T i) (U (p i)) ]

unfoldable pub pass : Column → Column → ℕ → Pairing → Pairing
pass T U zero P = P
pass T U (suc i) P = pass T U i (visit T U (suc i) P)

abbrev pub whole : Pairing → Bool
whole clash = false
whole (pairs p q) = true

unfoldable pub isomorphic : Column → ℕ → Column → ℕ → Bool
isomorphic T r U t = whole (pass T U r (pair (pairs (λ _. 0) (λ _. 0)) r t))
