-- What `map_err` and `?` make of a call's answer.
use Rattle.std.proofs.Common.{◌≡◌, refl, Result, Ok, Err}
use Rattle.std.specs.Result.{MatchResult, IsErrAnd}

module _ {A E D : Type 0} (m : Result A E) (r : Result A D) (Q : E → D → Type 0) (h : MatchResult m (λ x. r ≡ Ok x) (λ e. IsErrAnd r (Q e))) where
  -- an error comes from the call's error
  pub error_from : (d : D) → r ≡ Err d → (e : E) × (m ≡ Err e) × Q e d
  error_from d p = by m h
    where
      by : (n : Result A E) → MatchResult n (λ x. r ≡ Ok x) (λ e. IsErrAnd r (Q e)) → (e : E) × (n ≡ Err e) × Q e d
      by (Ok x) k = absurd (cc (k, p))
      by (Err e) k = let q : IsErrAnd {T = A} {E = D} (Err d) (Q e) = rw p at k in (e, refl, q)

  -- a value is the call's
  pub value_from : (a : A) → r ≡ Ok a → m ≡ Ok a
  value_from a p = by m h
    where
      by : (n : Result A E) → MatchResult n (λ x. r ≡ Ok x) (λ e. IsErrAnd r (Q e)) → n ≡ Ok a
      by (Ok x) k = cc
      by (Err e) k = let q : IsErrAnd {T = A} {E = D} (Ok a) (Q e) = rw p at k in absurd q
