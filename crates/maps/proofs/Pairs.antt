-- The test begins with no partners, and its falling pass goes down by one node.
use Rattle.std.specs.Prelude.{◌≡◌, refl, ℕ, zero, suc, ◌-◌, ◌≤◌, get_or, replicate}
use Rattle.std.proofs.Common.{ap, ◌∙◌, arith}
use Rattle.std.proofs.Math.Path.{fun_ext}
use Rattle.rules.specs.definitions.Maps.{Column}
use Rattle.rules.specs.definitions.Comparing.{Pairing, pair, visit, pass, whole, isomorphic}
use Rattle.rules.specs.definitions.Comparing.Pairing.{pairs}
use Rattle.maps.specs.Comparing.{partner}

pub none_at : (n k : ℕ) → ◌≡◌ {A = ℕ} (get_or (replicate n 0) k 0) 0
none_at zero k = refl
none_at (suc n) zero = refl
none_at (suc n) (suc k) = none_at n k

none_yet : (n k : ℕ) → partner (replicate n 0) k ≡ 0
unfolding partner
none_yet n zero = refl
none_yet n (suc k) = none_at n k

-- the test, from the answer to the roots' pair on
pub from_roots : (T : Column) (r t n : ℕ) (Q : Pairing) → Q ≡ pair (pairs (partner (replicate n 0)) (partner (replicate n 0))) r t
    → whole (pass T T r Q) ≡ isomorphic T r T t
unfolding isomorphic
from_roots T r t n Q e = ap (λ (P : Pairing). whole (pass T T r P)) e ∙ ap (λ (p : ℕ → ℕ). whole (pass T T r (pair (pairs p p) r t))) none
  where
    none : partner (replicate n 0) ≡ (λ _. 0)
    none = fun_ext (λ k. none_yet n k)

pub pass_down : (T : Column) (i : ℕ) (Q : Pairing) → 1 ≤ i → pass T T i Q ≡ pass T T (i - 1) (visit T T i Q)
unfolding pass
pass_down T zero Q h = absurd (omega arith)
pass_down T (suc i) Q h = let e : i ≡ suc i - 1 = omega arith in ap (λ (k : ℕ). pass T T k (visit T T (suc i) Q)) e
